-- Straight pieces that lie in the code of a module walk over it.
use Rattle.std.proofs.Common.{◌≡◌, inl, inr, ℕ, ◌+◌, ◌-◌, ◌≤◌, ◌<◌, ℤ, pos, ◌+ℤ◌, List, Option, Some, None}
use Rattle.std.proofs.Common.{Ok, true, refl, sym, ap, subst, arith, FitsSigned, lit<, get_or}
use Rattle.std.proofs.lemmas.Int.{ints}
use Rattle.std.proofs.lemmas.Bool.{le-ltb}
use Rattle.std.specs.Int.{w32}
use Rattle.prefix_decoder.specs.declared.function.Fun.{Fun}
use Rattle.prefix_decoder.specs.declared.function.Fun.TheVariants as fun
use Rattle.prefix_decoder.specs.Fetching.{fetched, StandsAt}
use Rattle.prefix_decoder.proofs.Outcomes.{fetched-found, StandsAt-length}
use Rattle.word_arithmetic.specs.Range as ranges
use Rattle.word_arithmetic.specs.Range.{Ends}
use Rattle.word_arithmetic.specs.Binary.{result_range}
use Rattle.word_arithmetic.specs.declared.binary.Binary.TheVariants as binary
use Rattle.word_arithmetic.proofs.WordLaws.{is_word_in}
use Rattle.module_format.specs.Contents.{Contents}
use Rattle.machine_state.specs.Instructions.{instruction_of, op_of}
use Rattle.states.specs.State.{State, known}
use Rattle.rulings.specs.Rulings.{falls, falling, outside_alternation, outside_starts, settles, pays, goes_on}
use Rattle.rulings.specs.Rulings.{uses}
use Rattle.rulings.specs.Pointers.{constant_of}
use Rattle.local_rules.specs.LocalRules.{local_operation_rule}
use Rattle.local_rules.specs.MemoryRules.{place_fact}
use Rattle.local_rules.specs.WordRules.{known_constant}
use Rattle.facts.specs.Rules.{rule, rule_of, instruction_rule, operation_rule}
use Rattle.certified_worlds.specs.Certified.{table_state, state_at, follows}
use Rattle.code_pieces.specs.declared.operations.TheConstants.{LOAD_POINTER_TO_INSTRUCTION}
use Rattle.code_pieces.specs.Pieces.{Piece}
use Rattle.code_pieces.specs.Laying.{operand_at}
use Rattle.placed_code.specs.LaidCode.{LaidCode, Fetches, Lie, more, none, LoadsTable}
use Rattle.certified_lines.specs.StraightRules.{Setting, Told, Falls, FallOn, done, next, table, state_of, with_pushed}
use Rattle.certified_lines.specs.StraightRules.{table_known, table_fact}
use Rattle.certified_lines.proofs.Numbers.{sums_lie_in_ranges}
use Rattle.certified_lines.proofs.Instructions.{constants_are_loaded}
use Rattle.module_format.specs.Rows.{Fact}
use Rattle.states.specs.State.{is_same_number}
use Rattle.certified_lines.specs.Walking.{Walks, here, on, WalksReach, IsSettingOf, NoTablesIn, StraightPiecesWalk}

-- ---- what walks reaches

stands : (m : Contents) (at : ℕ) (s : State) → table_state m at ≡ None → state_at m at (Some s) ≡ Some s
stands m at s free = ap (λ (o : Option State). elim o as (λ o. Option State) [
  | None ↦ Some s
  | Some t ↦ Some t
]) free

pub walks_reach : WalksReach
walks_reach m at _ s _ here reached = reached
walks_reach m at to s u (on {t = t} i free there leaves rest) reached =
    walks_reach m (at + i.len) to t u rest
    (follows reached (stands m at s free) there refl (ap falling (sym leaves)))

-- ---- one instruction

-- an instruction that is fetched where it lies, and walks on with what is known after it
one_walks : (g : Setting) (c : LaidCode) (at middle to number : ℕ) (f : Fun) (e : ℤ) (s t : Told) (u : State)
    → c.code ≡ g.contents.code → Fetches c.code at f e middle
    → ((size : ℕ) → at + size ≡ middle → size ≤ number
    → rule (record { contents = g.contents; at = at; length = size }) f e (state_of g s number)
    ≡ falls (state_of g t (number - size)))
    → table_state g.contents at ≡ None → middle - at ≤ number
    → Walks g.contents middle (state_of g t (number - (middle - at))) to u
    → Walks g.contents at (state_of g s number) to u
one_walks g c at middle to number f e s t u code there leaves free pays rest =
    let len : ℕ = there.len in
    let size : middle - at ≡ len = omega (arith, there.ends) in
    let fetches : fetched g.contents.code at ≡ Ok (record { fun = f; operand = e; len = len }) =
    subst (λ (code : List ℕ). fetched code at ≡ Ok (record { fun = f; operand = e; len = len })) code there.there in
    on (record { fun = f; operand = e; len = len }) free fetches
    (leaves len there.ends (subst (λ (n : ℕ). n ≤ number) size pays))
    (subst (λ (k : ℕ). Walks g.contents k (state_of g t (number - len)) to u) (sym there.ends)
    (subst (λ (n : ℕ). Walks g.contents middle (state_of g t (number - n)) to u) size rest))

-- ---- the address of a table

-- a word and 0 have the word as their sum
sum_with_zero : (v : ℤ) → FitsSigned w32 v
    → result_range binary.Add (ranges.constant v) (ranges.constant (pos 0)) ≡ Some (ranges.constant v)
unfolding result_range
sum_with_zero v fits =
    let same : v +ℤ pos 0 ≡ v = grind (arith, ints) in
    rw (same, is_word_in v fits) refl

pub loaded_falls : (g : Setting) (v : ℤ) (s : Told)
    → Falls g fun.LoadConstant v s (with_pushed (known_constant v) s)
loaded_falls g v s = elim (constants_are_loaded g v s) [ next x done ↦ x ]

pub filled_falls : (g : Setting) (v : ℤ) (s : Told) → FitsSigned w32 v
    → Falls g fun.AddConstant (pos 0) (with_pushed (known_constant v) s) (with_pushed (known_constant v) s)
filled_falls g v s fits =
    elim (sums_lie_in_ranges g (pos 0) (ranges.constant v) (ranges.constant v) (with_pushed (known_constant v) s)
    (record { is = refl; range = record { lo_fits = fits; hi_fits = fits; ordered = grind (arith, ints) } })
    (record { sfits = lit< tt }) (sum_with_zero v fits)) [ next x done ↦ x ]

-- `ldpi` leads to a place that is told
pub place_falls : (g : Setting) (at size number : ℕ) (v : ℤ) (fact : Fact) (s : Told)
    → place_fact g.contents (pos (at + size) +ℤ v) ≡ Ok fact → size ≤ number
    → rule (record { contents = g.contents; at = at; length = size }) fun.Operate LOAD_POINTER_TO_INSTRUCTION
    (state_of g (with_pushed (known_constant v) s) number)
    ≡ falls (state_of g (with_pushed (known fact) s) (number - size))
unfolding rule rule_of instruction_rule operation_rule local_operation_rule instruction_of op_of uses constant_of
    outside_alternation outside_starts settles goes_on pays
place_falls g at size number v fact s is enough =
    let one : is_same_number v v ≡ true = grind (arith, ints) in
    rw (one, is, le-ltb number size enough) refl

-- an instruction has a byte
fetched_on : {code : List ℕ} {at to : ℕ} {f : Fun} {e : ℤ} → ((n : ℕ) → get_or code n 0 < 256)
    → Fetches code at f e to → at < to
fetched_on {code} {at} {to} {f} {e} bytes there =
    let found : StandsAt code at (record { fun = f; operand = e; len = there.len }) =
    fetched-found code at bytes (record { fun = f; operand = e; len = there.len }) there.there in
    let some : 1 ≤ there.len =
    (StandsAt-length code at (record { fun = f; operand = e; len = there.len }) found).0 in
    omega (arith, some, there.ends)

-- ---- pieces

-- straight pieces do not end before they begin
pub lies_up : {g : Setting} {c : LaidCode} {at to : ℕ} {ps : List Piece} {s t : Told} → Lie c at ps to
    → FallOn g ps s t → at ≤ to
lies_up none done = omega arith
lies_up (more there lie) (next x fall) =
    let rest = lies_up lie fall in
    omega (arith, there.ends, rest)
lies_up (more there lie) (table fall) =
    let rest = lies_up lie fall in
    let first = there.loads.ends in
    let last = there.points.ends in
    elim there.fills [
      | inl same ↦ omega (arith, rest, first, last, same)
      | inr fills ↦ omega (arith, rest, first, last, fills.ends)
    ]

-- three instructions have some
table_on : {c : LaidCode} {at to : ℕ} {values : List ℤ} → ((n : ℕ) → get_or c.code n 0 < 256)
    → LoadsTable c at values to → at < to
table_on bytes loads =
    let first = fetched_on bytes loads.loads in
    let last = fetched_on bytes loads.points in
    elim loads.fills [
      | inl same ↦ omega (arith, first, last, same)
      | inr fills ↦
          let second = fetched_on bytes fills in
          omega (arith, first, second, last)
    ]

module _ (g : Setting) (c : LaidCode) (is : IsSettingOf g c) where
  -- `ldpi` is walked over behind the distance of a table
  place_walks : (last middle to number : ℕ) (d : ℤ) (fact : Fact) (s : Told) (u : State)
      → Fetches c.code last fun.Operate LOAD_POINTER_TO_INSTRUCTION middle
      → place_fact g.contents (pos middle +ℤ d) ≡ Ok fact → table_state g.contents last ≡ None
      → middle - last ≤ number
      → Walks g.contents middle (state_of g (with_pushed (known fact) s) (number - (middle - last))) to u
      → Walks g.contents last (state_of g (with_pushed (known_constant d) s) number) to u
  place_walks last middle to number d fact s u there leads free pays rest =
      one_walks g c last middle to number fun.Operate LOAD_POINTER_TO_INSTRUCTION
      (with_pushed (known_constant d) s) (with_pushed (known fact) s) u is.code there
      (λ size ends enough. place_falls g last size number d fact s
      (subst (λ (k : ℕ). place_fact g.contents (pos k +ℤ d) ≡ Ok fact) (sym ends) leads) enough) free pays rest

  -- the address of a table is walked over
  table_walks : (at middle to number : ℕ) (values : List ℤ) (s : Told) (u : State)
      (loads : LoadsTable c at values middle)
      → NoTablesIn g.contents at middle → middle - at ≤ number
      → Walks g.contents middle (state_of g (with_pushed (table_known g values) s) (number - (middle - at))) to u
      → Walks g.contents at (state_of g s number) to u
  table_walks at middle to number values s u loads free pays rest =
      let d : ℤ = loads.distance in
      let first : at < loads.middle = fetched_on is.bytes loads.loads in
      let last : loads.last < middle = fetched_on is.bytes loads.points in
      let between : loads.middle ≤ loads.last = elim loads.fills [
        | inl same ↦ omega (arith, same)
        | inr fills ↦ omega (arith, fills.ends)
      ] in
      let behind : ℕ = number - (loads.middle - at) in
      let distance : Told = with_pushed (known_constant d) s in
      one_walks g c at loads.middle to number fun.LoadConstant d s distance u is.code loads.loads
      (λ size ends enough. (loaded_falls g d s).falls at size number enough)
      (free at (omega arith) (omega (arith, first, between, last))) (omega (arith, first, between, last, pays))
      (elim loads.fills [
        | inl same ↦
            let all : number - (middle - at) ≡ behind - (middle - loads.last) =
            omega (arith, first, between, last, pays, same) in
            subst (λ (k : ℕ). Walks g.contents k (state_of g distance behind) to u) (sym same)
            (place_walks loads.last middle to behind d (table_fact g values) s u loads.points
            (is.tables at middle values loads) (free loads.last (omega (arith, first, between)) last)
            (omega (arith, first, between, last, pays, same))
            (subst (λ (n : ℕ). Walks g.contents middle (state_of g (with_pushed (table_known g values) s) n) to u) all
            rest))
        | inr fills ↦
            let filled : ℕ = behind - (loads.last - loads.middle) in
            let all : number - (middle - at) ≡ filled - (middle - loads.last) =
            omega (arith, first, between, last, pays) in
            one_walks g c loads.middle loads.last to behind fun.AddConstant (pos 0) distance distance u is.code fills
            (λ size ends enough. (filled_falls g d s loads.word).falls loads.middle size behind enough)
            (free loads.middle (omega (arith, first)) (omega (arith, between, last)))
            (omega (arith, first, between, last, pays))
            (place_walks loads.last middle to filled d (table_fact g values) s u loads.points
            (is.tables at middle values loads) (free loads.last (omega (arith, first, between)) last)
            (omega (arith, first, between, last, pays))
            (subst (λ (n : ℕ). Walks g.contents middle (state_of g (with_pushed (table_known g values) s) n) to u) all
            rest))
      ])

  straight_walks : (at to number : ℕ) (ps : List Piece) (s t : Told) → Lie c at ps to → FallOn g ps s t
      → NoTablesIn g.contents at to → to - at ≤ number
      → Walks g.contents at (state_of g s number) to (state_of g t (number - (to - at)))
  straight_walks at _ number _ s _ none done free pays =
      let same : number ≡ number - (at - at) = omega arith in
      subst (λ (n : ℕ). Walks g.contents at (state_of g s number) at (state_of g s n)) same here
  straight_walks at to number _ s t (more {middle = middle} {ps = ps} there lie)
      (next {f = f} {e = e} {t = u} x fall) free budget =
      let up : middle ≤ to = lies_up lie fall in
      let some : at < middle = fetched_on is.bytes there in
      let enough : middle - at ≤ number = omega (arith, up, some, budget) in
      let left : to - middle ≤ number - (middle - at) = omega (arith, up, some, budget) in
      let all : (number - (middle - at)) - (to - middle) ≡ number - (to - at) = omega (arith, up, some, budget) in
      one_walks g c at middle to number f (operand_at (pos g.depth) f e) s u (state_of g t (number - (to - at))) is.code
      (subst (λ (d : ℕ). Fetches c.code at f (operand_at (pos d) f e) middle) is.depth there)
      (λ size ends enough. x.falls at size number enough)
      (free at (omega arith) (omega (arith, up, some))) enough
      (subst (λ (n : ℕ). Walks g.contents middle (state_of g u (number - (middle - at))) to (state_of g t n)) all
      (straight_walks middle to (number - (middle - at)) ps u t lie fall
      (λ k from before. free k (omega (arith, from, some)) before) left))
  straight_walks at to number _ s t (more {middle = middle} {ps = ps} there lie)
      (table {values = values} fall) free budget =
      let up : middle ≤ to = lies_up lie fall in
      let some : at < middle = table_on is.bytes there in
      let enough : middle - at ≤ number = omega (arith, up, some, budget) in
      let left : to - middle ≤ number - (middle - at) = omega (arith, up, some, budget) in
      let all : (number - (middle - at)) - (to - middle) ≡ number - (to - at) = omega (arith, up, some, budget) in
      table_walks at middle to number values s (state_of g t (number - (to - at))) there
      (λ k from before. free k from (omega (arith, before, up))) enough
      (subst (λ (n : ℕ). Walks g.contents middle
      (state_of g (with_pushed (table_known g values) s) (number - (middle - at))) to (state_of g t n)) all
      (straight_walks middle to (number - (middle - at)) ps (with_pushed (table_known g values) s) t lie fall
      (λ k from before. free k (omega (arith, from, some)) before) left))

pub straight_pieces_walk : StraightPiecesWalk
straight_pieces_walk g c at to number ps s t is lie fall free pays =
    straight_walks g c is at to number ps s t lie fall free pays

pub ruleset walking = (
  walks_reach,
  straight_pieces_walk,
)
