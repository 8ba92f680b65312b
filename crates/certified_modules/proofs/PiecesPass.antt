-- Where pieces of one process pass, a way leads over their bytes.
use Rattle.std.proofs.Common.{◌≡◌, ◌≢◌, ℕ, ◌+◌, ◌-◌, ◌*◌, ◌%◌, ◌^◌, ◌<◌, ◌≤◌, ℤ, pos, ◌+ℤ◌, true}
use Rattle.std.proofs.Common.{false, List, [], ◌∷◌, ◌++◌, Option, Some, None, Result, Ok, inl, inr, refl, sym, ap}
use Rattle.std.proofs.Common.{subst, ◌∙◌, arith, append_assoc, FitsSigned}
use Rattle.std.specs.Prelude.{IfSome, is_some, option_map, not}
use Rattle.std.specs.Int.{w32, cast_unsigned, cast_signed}
use Rattle.std.specs.List.{AllByRecursion}
use Rattle.std.proofs.lemmas.Int.{ints, of_z-to_z}
use Rattle.std.proofs.lemmas.List.{append-nil}
use Rattle.prefix_decoder.specs.declared.function.Fun.{Fun}
use Rattle.prefix_decoder.specs.declared.function.Fun.TheVariants as fun
use Rattle.prefix_decoder.specs.declared.decoding.Instr.{Instr}
use Rattle.prefix_decoder.specs.Fetching.{StandsAt}
use Rattle.prefix_decoder.proofs.Outcomes.{fetched-found, StandsAt-length}
use Rattle.word_arithmetic.specs.Range.{Ends, IsRange}
use Rattle.module_format.specs.Contents.{Contents, Label, label_at}
use Rattle.module_format.specs.declared.limits.TheConstants.{MAX_LONG_CODE}
use Rattle.module_builder.specs.Layouts.{offset}
use Rattle.module_builder.proofs.Growing.{offset_rises, offset-le-sum}
use Rattle.certificate.specs.Starts.{is_start}
use Rattle.machine_state.specs.LocalStep.{address, target, word_of}
use Rattle.states.specs.declared.rule.Rule.{Rule}
use Rattle.states.specs.State.{State, unknown, label_state}
use Rattle.states.specs.Below.{below}
use Rattle.rulings.specs.Rulings.{Ruling, falls, falls_or_leads, leads, ends, breaks, falling}
use Rattle.facts.specs.Rules.{rule, rule_at}
use Rattle.certified_worlds.specs.Certified.{table_state, state_at}
use Rattle.code_pieces.specs.declared.piece.RowEntry.{RowEntry}
use Rattle.code_pieces.specs.declared.operations.TheConstants.{STOP_PROCESS, LOOP_END, LOAD_POINTER_TO_INSTRUCTION}
use Rattle.code_pieces.specs.Pars.{in_root}
use Rattle.code_pieces.specs.Pieces.{Piece, Direct, Jump, JumpUnless, LoopBack, TableAddress, Row, Place, operates}
use Rattle.code_pieces.specs.Numbers.{turns_at}
use Rattle.code_pieces.specs.Laid.{needs_in}
use Rattle.code_pieces.specs.LaidModule.{Says, laid_module}
use Rattle.code_pieces.specs.Laying.{operand_at}
use Rattle.code_pieces.specs.DraftedRows.{said_row}
use Rattle.code_pieces.proofs.AllOfPieces.{all_first, all_last}
use Rattle.placed_code.specs.LaidCode.{LaidCode, Fetches, Lie, more, IsAt, laid_code, item_count, workspace_after}
use Rattle.placed_code.specs.LaidCode.{LabelsArePlacedOnce, Reaches, StaysAt, labels_in}
use Rattle.placed_code.specs.LaidCode as laid
use Rattle.placed_code.specs.RowsFound.{SaysRow, row_of}
use Rattle.placed_code.specs.NumbersCover.{bytes_after, Covers, PaysAndCovers, row_number, loop_weight}
use Rattle.placed_code.specs.NumbersCover.{heads_in, ComesAfter}
use Rattle.placed_code.proofs.PiecesLie.{pieces_lie, item_count-append}
use Rattle.placed_code.proofs.RowsFound.{rows_are_found, no_row_is_before_others, no_row_is_elsewhere}
use Rattle.placed_code.proofs.NumbersCover.{pieces_take_their_bytes, labels_keep_their_numbers, numbers_cover}
use Rattle.placed_code.proofs.OneProcess.{tables_are_rows, root_has_its_words}
use Rattle.certified_lines.specs.StraightRules.{Told, Falls, FallOn, done, next, table, state_of}
use Rattle.certified_lines.specs.StraightRules.{with_pushed, table_known, table_fact}
use Rattle.certified_lines.specs.Jumps.{fallen as fallen_told, jumped}
use Rattle.certified_lines.proofs.Jumps.{jumps_fork}
use Rattle.local_rules.specs.MemoryRules.{place_fact}
use Rattle.local_rules.specs.WordRules.{known_constant, number_in}
use Rattle.states.specs.declared.known.Known.{Known}
use Rattle.machine_state.specs.Waiting.{IsAbsent, AllDiffer}
use Rattle.certificate.specs.Rights.{may_write_word}
use Rattle.module_format.specs.Stack.{of_empty}
use Rattle.certified_modules.specs.RowsSay.{Implies, Enters}
use Rattle.certified_modules.specs.Passing.{Passage, OpenLabel, open_label, IsOpen, told_by, after_turns, EndsTurn}
use Rattle.certified_modules.specs.Passing.{PassOn, none, both, straight, stops, places, jumps, tests, closes, loops}
use Rattle.certified_modules.specs.RootRows.{root_passage, root_row}
use Rattle.certified_modules.specs.Ways.{IsIn, IsPassed, Passes, over, on}
use Rattle.certified_lines.proofs.Walking.{loaded_falls, filled_falls, place_falls}
use Rattle.certified_modules.proofs.RootRows.{rows_say_their_pieces, implied_rows_are_below, entered_rows_are_below}
use Rattle.certified_modules.proofs.PieceLists.{IsAlone, workspace_alone, no_pars, row_behind}
use Rattle.certified_modules.proofs.PieceLists.{row_behind_both, no_row_last, is_earlier, is_equal, is_later, split}
use Rattle.certified_modules.proofs.PieceLists.{labels_front, heads_absent, placed_once}
use Rattle.certified_modules.proofs.Ways.{ways_follow}
use Rattle.certified_modules.proofs.Scheduling.{word_below, scheduled, scheduling_keeps, implied_kept, turns_keep}
use Rattle.certified_modules.proofs.LeavingRules.{FallsInto, gone, jump_leads, stop_ends, no_stop, loop_turns}
use Rattle.certified_modules.proofs.TablesPlaced.{tables_lead}
use Rattle.certified_modules.specs.Certifying.{HasValues}

-- ---- labels further on

-- the row of a label is in these pieces
pub record LeadsTo (rest : List Piece) (o : OpenLabel) : Type 0 where
  pub middle : List Piece
  pub says : SaysRow rest middle o.label o.entries

abbrev pub AreAhead : List Piece → List OpenLabel → Type 0
AreAhead rest opened = AllByRecursion (LeadsTo rest) opened

-- so they are where other pieces come before
pub ahead_of : (qs rest : List Piece) (opened : List OpenLabel) → AreAhead rest opened → AreAhead (qs ++ rest) opened
ahead_of qs rest [] all = tt
ahead_of qs rest (o ∷ opened) all = (
  record {
    middle = qs ++ all.0.middle;
    says = record {
      rest = all.0.says.rest;
      whole = ap (λ (ps : List Piece). qs ++ ps) all.0.says.whole
          ∙ sym (append_assoc qs all.0.middle (Row o.label o.entries ∷ all.0.says.rest));
    };
  },
  ahead_of qs rest opened all.1,
)

pub open_ahead : (rest : List Piece) (opened : List OpenLabel) (l : ℕ) (entries : List RowEntry) → AreAhead rest opened
    → IsOpen opened l entries → LeadsTo rest (open_label l entries)
open_ahead rest [] l entries all is = absurd is
open_ahead rest (o ∷ opened) l entries all (inl this) = subst (λ (x : OpenLabel). LeadsTo rest x) this all.0
open_ahead rest (o ∷ opened) l entries all (inr later) = open_ahead rest opened l entries all.1 later

-- ---- tables

-- where a row is, that is the state, and it costs this to fall in
state_at_row : (o : Option State) (fell : Option State) (t : State) → o ≡ Some t
    → (elim o as (λ x. Option State) [ None ↦ fell | Some s ↦ Some s ]) ≡ Some t
state_at_row None fell t is = absurd (cc)
state_at_row (Some s) fell t is = is

into_row : (o : Option Label) (s : State) (t : Label) (cost : ℕ) (others : Result ℕ Rule) → o ≡ Some t
    → below s t ≡ Ok cost
    → (elim o as (λ x. Result ℕ Rule) [ None ↦ others | Some row ↦ below s row ]) ≡ Ok cost
into_row None s t cost others is cost_is = absurd (cc)
into_row (Some row) s t cost others is cost_is =
    let one : row ≡ t = cc in
    ap (λ (x : Label). below s x) one ∙ cost_is

-- where no row is, the state that falls in is that of the walk, and it costs nothing
state_by : (o : Option Label) (s : State) → o ≡ None
    → (elim (option_map label_state o) as (λ x. Option State) [ None ↦ Some s | Some u ↦ Some u ]) ≡ Some s
state_by None s is = refl
state_by (Some t) s is = absurd (cc)

cost_by : (o : Option Label) (s : State) → o ≡ None
    → (elim o as (λ x. Result ℕ Rule) [ None ↦ Ok 0 | Some t ↦ below s t ]) ≡ Ok 0
cost_by None s is = refl
cost_by (Some t) s is = absurd (cc)

-- a distance that leads to a place further on is that many bytes
bytes_ahead : (from to : ℕ) (e : ℤ) → FitsSigned w32 e → from ≤ to → to < 2 ^ 31 → target from e ≡ to
    → e ≡ pos (to - from)
bytes_ahead from to e word up small is = omega (arith, ints, word, up, small, is)

-- and one that leads back to the head of a loop is that of the head
distance_back : (to head : ℕ) (d : ℤ) → FitsSigned w32 d → head < to → to < 2 ^ 31
    → target to (word_of ((2 ^ 32 - address d) % 2 ^ 32)) ≡ head → d ≡ pos (to - head)
distance_back to head d word before small is =
    let back : ℕ = (2 ^ 32 - address d) % 2 ^ 32 in
    let same : cast_unsigned w32 (cast_signed w32 back) ≡ back = of_z-to_z w32 back (omega arith) in
    omega (arith, ints, same, word, before, small, is)

module _ (ps : List Piece) (labels : ℕ) (links bytes : List ℕ) (says : Says ps labels links bytes)
    (once : LabelsArePlacedOnce ps labels) (stays : AllByRecursion (StaysAt 0) ps) (alone : AllByRecursion IsAlone ps)
    (filled : AllByRecursion HasValues ps) where
  abbrev lengths : List ℕ
  lengths = says.arrangement.lengths

  abbrev m : Contents
  m = laid_module ps labels links says.arrangement

  abbrev g : Passage
  g = root_passage ps labels links says.arrangement

  abbrev c : LaidCode
  c = laid_code ps labels lengths 0

  abbrev row : ℕ → List RowEntry → Label
  row l entries = root_row ps labels says.arrangement l entries

  -- where the item after these pieces begins
  abbrev at_of : List Piece → ℕ
  at_of front = offset lengths (item_count front)

  -- ---- what is there

  lies : (front : List Piece) (p : Piece) (rest : List Piece) → ps ≡ front ++ p ∷ rest
      → IsAt c (at_of front) p (at_of (front ++ p ∷ []))
  lies front p rest whole =
      let all : AllByRecursion (StaysAt 0) (front ++ p ∷ rest) =
      subst (λ (qs : List Piece). AllByRecursion (StaysAt 0) qs) whole stays in
      let own : AllByRecursion IsAlone (front ++ p ∷ rest) =
      subst (λ (qs : List Piece). AllByRecursion IsAlone qs) whole alone in
      let place = workspace_alone front in_root (all_first IsAlone front (p ∷ rest) own) in
      let lie : Lie c (at_of front) (p ∷ []) (at_of (front ++ p ∷ [])) =
      pieces_lie ps labels links bytes says front (p ∷ []) 0 once (record {
        rest = rest;
        whole = whole ∙ sym (append_assoc front (p ∷ []) rest);
        workspace = ap (λ w. w.depth) place;
        stays = ((all_last (StaysAt 0) front (p ∷ rest) all).0, tt);
      }) in
      elim lie [ more there laid.none ↦ there ]

  -- the row of a piece is found where the piece is
  row_there : (front : List Piece) (l : ℕ) (entries : List RowEntry) (rest : List Piece)
      → ps ≡ front ++ Row l entries ∷ rest
      → (c.labels l ≡ at_of front) × (label_at m (at_of front) ≡ Some (row l entries))
  row_there front l entries rest whole =
      let own : AllByRecursion IsAlone (front ++ Row l entries ∷ rest) =
      subst (λ (qs : List Piece). AllByRecursion IsAlone qs) whole alone in
      let place = workspace_alone front in_root (all_first IsAlone front (Row l entries ∷ rest) own) in
      let at = lies front (Row l entries) rest whole in
      let is : c.labels l ≡ at_of front = at.1 ∙ sym at.0 in
      let found = rows_are_found ps labels links bytes says 0 front l entries once
      (record { rest = rest; whole = whole }) in (
        is,
        subst (λ (k : ℕ). label_at m k ≡ Some (row l entries)) is
            (found ∙ ap (λ w. Some (row_of ps labels says.arrangement
            (said_row w (needs_in ps lengths) l entries))) place),
      )

  -- no row is where a piece begins that has an item, if none is right before it
  no_row : (front : List Piece) (p : Piece) (rest : List Piece) → ps ≡ front ++ p ∷ rest
      → item_count front < item_count (front ++ p ∷ []) → row_behind false front ≡ false
      → label_at m (at_of front) ≡ None
  no_row front p rest whole some free =
      let count = item_count-append front (p ∷ []) in
      let total = ap item_count whole ∙ item_count-append front (p ∷ rest) in
      no_row_is_before_others ps labels links bytes says (item_count front) once (omega (arith, total))
      (λ found l entries is at. elim (split found (Row l entries) is.rest front p rest (sym is.whole ∙ whole)) [
        | is_earlier middle parts ↦
            let counts = ap item_count parts ∙ item_count-append found (Row l entries ∷ middle) in
            no_row_last front found middle l entries free parts (omega (arith, at, counts))
        | is_equal one parts ↦
            let one_count : item_count (Row l entries ∷ []) ≡ item_count (p ∷ []) =
            ap (λ (q : Piece). item_count (q ∷ [])) one in
            absurd (omega (arith, some, count, one_count))
        | is_later middle parts ↦
            let counts = ap item_count parts ∙ item_count-append front (p ∷ middle) in
            absurd (omega (arith, at, some, count, counts))
      ])

  -- and none is behind its first byte
  no_row_in : (front : List Piece) (p : Piece) (rest : List Piece) (k : ℕ) → ps ≡ front ++ p ∷ rest → at_of front < k
      → k < at_of (front ++ p ∷ []) → label_at m k ≡ None
  no_row_in front p rest k whole above below =
      no_row_is_elsewhere ps labels links bytes says 0 k once
      (λ found l entries is at.
      let there : at_of found ≡ k = sym (row_there found l entries is.rest is.whole).0 ∙ at in
      elim (split found (Row l entries) is.rest front p rest (sym is.whole ∙ whole)) [
        | is_earlier middle parts ↦
            let counts = ap item_count parts ∙ item_count-append found (Row l entries ∷ middle) in
            let rises = offset_rises lengths (item_count found) (item_count front) (omega (arith, counts)) in
            absurd (omega (arith, there, above, rises))
        | is_equal one parts ↦
            let there_too = ap at_of parts in
            absurd (omega (arith, there, above, there_too))
        | is_later middle parts ↦
            let counts = ap item_count parts ∙ item_count-append front (p ∷ middle) in
            let count = item_count-append front (p ∷ []) in
            let rises = offset_rises lengths (item_count (front ++ p ∷ [])) (item_count found)
            (omega (arith, counts, count)) in
            absurd (omega (arith, there, below, rises))
      ])

  -- the words below the workspace may be written
  may_take : (n : ℕ) → n < 3 → may_write_word m 0 (word_below n) ≡ true
  may_take n few =
      (root_has_its_words ps labels links says.arrangement (no_pars ps alone) (word_below n)
      (omega (arith, ints, few)) (omega (arith, ints))).0

  no_start : (k : ℕ) → label_at m k ≡ None → is_start m k ≡ false
  no_start k free =
      tables_are_rows.starts ps labels links says.arrangement (no_pars ps alone) k
      ∙ ap (λ (o : Option Label). is_some o) free

  -- where no row is, what falls in is the state
  in_free : (at : ℕ) (s : State) → label_at m at ≡ None → IsIn m at (Some s) s
  in_free at s free = record {
    stands = ap (λ (o : Option State). elim o as (λ x. Option State) [ None ↦ Some s | Some u ↦ Some u ])
        (tables_are_rows.states ps labels links says.arrangement at)
        ∙ state_by (label_at m at) s free;
    cost = 0;
    enters = cost_by (label_at m at) s free;
  }

  -- where a row is, that is the state, if what falls in may go on there
  in_row : (at : ℕ) (fell : Option State) (t : Label) → label_at m at ≡ Some t
      → state_at m at fell ≡ Some (label_state t)
  in_row at fell t is =
      state_at_row (table_state m at) fell (label_state t)
      (tables_are_rows.states ps labels links says.arrangement at
      ∙ ap (λ (o : Option Label). option_map label_state o) is)

  -- ---- instructions

  -- an instruction has a byte, and its operand is a word
  fetches_some : {at to : ℕ} {f : Fun} {e : ℤ} → Fetches c.code at f e to → (at < to) × FitsSigned w32 e
  fetches_some {at} {to} {f} {e} there =
      let i : Instr = record { fun = f; operand = e; len = there.len } in
      let found : StandsAt m.code at i = fetched-found m.code at (λ n. says.format.keeps.code_bytes n) i there.there in
      let some = (StandsAt-length m.code at i found).0 in
      (omega (arith, some, there.ends), found.spelled.fits)

  one_passes : (at to : ℕ) (fell : Option State) (s : State) (f : Fun) (e : ℤ) (r : Ruling) → IsIn m at fell s
      → Fetches c.code at f e to → ((k : ℕ) → at < k → k < to → label_at m k ≡ None)
      → ((size : ℕ) → at + size ≡ to → rule (record { contents = m; at = at; length = size }) f e s ≡ r)
      → ((broken : Rule) → r ≢ breaks broken) → Passes m at fell to (falling r)
  one_passes at to fell s f e r is_in there free rule_is unbroken =
      let len : ℕ = there.len in
      let i : Instr = record { fun = f; operand = e; len = len } in
      let is : rule_at m at i s ≡ r = rule_is len there.ends in
      let passed : IsPassed m at fell = record {
        state = s;
        is_in = is_in;
        instr = i;
        spelled = there.there;
        unbroken = λ broken no. unbroken broken (sym is ∙ no);
        alone = λ k above below. no_start k (free k above (subst (λ (n : ℕ). k < n) there.ends below));
      } in
      subst (λ (n : ℕ). Passes m at fell n (falling r)) there.ends
      (subst (λ (x : Ruling). Passes m at fell (at + len) (falling x)) is (on passed over))

  -- one that falls, and may lead elsewhere too
  one_falls : (at to : ℕ) (fell : Option State) (s : State) (f : Fun) (e : ℤ) (after : State) → IsIn m at fell s
      → Fetches c.code at f e to → ((k : ℕ) → at < k → k < to → label_at m k ≡ None)
      → ((size : ℕ) → at + size ≡ to
      → FallsInto (rule (record { contents = m; at = at; length = size }) f e s) after)
      → Passes m at fell to (Some after)
  one_falls at to fell s f e after is_in there free falls_so =
      let len : ℕ = there.len in
      let i : Instr = record { fun = f; operand = e; len = len } in
      let so = falls_so len there.ends in
      let passed : IsPassed m at fell = record {
        state = s;
        is_in = is_in;
        instr = i;
        spelled = there.there;
        unbroken = so.unbroken;
        alone = λ k above below. no_start k (free k above (subst (λ (n : ℕ). k < n) there.ends below));
      } in
      subst (λ (n : ℕ). Passes m at fell n (Some after)) there.ends
      (subst (λ (x : Option State). Passes m at fell (at + len) x) so.falls (on passed over))

  -- ---- what falls in behind pieces

  -- what is told where the rest begins, and what falls in there: from the instruction before, or behind a row
  pub data Stands (front rest : List Piece) : Option Told → Option State → Type 0 where
    nowhere : Stands front rest None None
    fallen : {s : Told} {number : ℕ} → row_behind false front ≡ false → Covers front lengths rest number
        → Stands front rest (Some s) (Some (state_of g.setting s number))
    at_row : {s : Told} {fell : Option State} {number : ℕ} → IsIn m (at_of front) fell (state_of g.setting s number)
        → Covers front lengths rest number → Stands front rest (Some s) fell

  -- the state in which an instruction begins there
  record Begins (front rest : List Piece) (s : Told) (fell : Option State) : Type 0 where
    number : ℕ
    is_in : IsIn m (at_of front) fell (state_of g.setting s number)
    covers : Covers front lengths rest number

  begins_in : (front : List Piece) (p : Piece) (rest : List Piece) (s : Told) (fell : Option State)
      → ps ≡ front ++ p ∷ rest → item_count front < item_count (front ++ p ∷ []) → Stands front (p ∷ rest) (Some s) fell
      → Begins front (p ∷ rest) s fell
  begins_in front p rest s _ whole some (fallen {number = number} free covers) = record {
    number = number;
    is_in = in_free (at_of front) (state_of g.setting s number)
        (no_row front p rest whole some free);
    covers = covers;
  }
  begins_in front p rest s fell whole some (at_row {number = number} is_in covers) =
      record { number = number; is_in = is_in; covers = covers }

  -- A way leads over pieces, to where this is told and something falls in.
  pub record Moves (front qs rest : List Piece) (t : Option Told) (fell : Option State) : Type 0 where
    pub after : Option State
    pub way : Passes m (at_of front) fell (at_of (front ++ qs)) after
    pub stands : Stands (front ++ qs) rest t after

  -- over others next
  moves_on : (front qs rs rest : List Piece) (t u : Option Told) (fell : Option State)
      → Moves front qs (rs ++ rest) t fell
      → ((after : Option State) → Stands (front ++ qs) (rs ++ rest) t after → Moves (front ++ qs) rs rest u after)
      → Moves front (qs ++ rs) rest u fell
  moves_on front qs rs rest t u fell first follow =
      let second = follow first.after first.stands in
      let is : (front ++ qs) ++ rs ≡ front ++ (qs ++ rs) = append_assoc front qs rs in
      record {
        after = second.after;
        way = ways_follow first.way
            (subst (λ (all : List Piece). Passes m (at_of (front ++ qs)) first.after (at_of all) second.after) is
            second.way);
        stands = subst (λ (all : List Piece). Stands all rest u second.after) is second.stands;
      }

  -- over none
  moves_over : (front rest : List Piece) (t : Option Told) (fell : Option State) → Stands front rest t fell
      → Moves front [] rest t fell
  moves_over front rest t fell stands =
      let is : front ≡ front ++ [] = sym (append-nil front) in
      record {
        after = fell;
        way = subst (λ (all : List Piece). Passes m (at_of front) fell (at_of all) fell) is over;
        stands = subst (λ (all : List Piece). Stands all rest t fell) is stands;
      }

  -- ---- instructions that fall

  -- an instruction leads on in the root, and is paid
  falls_on : (at to number : ℕ) (fell : Option State) (s t : Told) (f : Fun) (e : ℤ)
      → IsIn m at fell (state_of g.setting s number) → Fetches c.code at f e to
      → ((k : ℕ) → at < k → k < to → label_at m k ≡ None) → to - at ≤ number
      → ((size : ℕ) → at + size ≡ to → size ≤ number
      → rule (record { contents = m; at = at; length = size }) f e (state_of g.setting s number)
      ≡ falls (state_of g.setting t (number - size)))
      → Passes m at fell to (Some (state_of g.setting t (number - (to - at))))
  falls_on at to number fell s t f e is_in there free enough leaves =
      one_passes at to fell (state_of g.setting s number) f e (falls (state_of g.setting t (number - (to - at)))) is_in
      there free
      (λ size ends.
      let same : size ≡ to - at = omega (arith, ends) in
      leaves size ends (omega (arith, same, enough))
      ∙ ap (λ (n : ℕ). falls (state_of g.setting t (number - n))) same)
      (λ broken no. cc)

  -- the bytes of a piece
  bytes_are : (front : List Piece) (p : Piece)
      → at_of front + bytes_after front lengths p ≡ at_of (front ++ p ∷ [])
  bytes_are front p = pieces_take_their_bytes front lengths p

  -- where pieces end before the code is too long
  at_small : (front : List Piece) → at_of front ≤ MAX_LONG_CODE
  at_small front =
      let within = offset-le-sum lengths (item_count front) in
      let all = says.arranged.least.fits.short in
      omega (arith, within, all)

  direct_moves : (front rest : List Piece) (f : Fun) (e : ℤ) (s t : Told) (fell : Option State)
      → ps ≡ front ++ Direct f e ∷ rest → Falls g.setting f (operand_at (pos 0) f e) s t
      → Stands front (Direct f e ∷ rest) (Some s) fell → Moves front (Direct f e ∷ []) rest (Some t) fell
  direct_moves front rest f e s t fell whole x stands =
      let p : Piece = Direct f e in
      let to : ℕ = at_of (front ++ p ∷ []) in
      let size : ℕ = bytes_after front lengths p in
      let there = lies front p rest whole in
      let count = item_count-append front (p ∷ []) in
      let begin = begins_in front p rest s fell whole (omega (arith, count)) stands in
      let takes = bytes_are front p in
      let pays : PaysAndCovers front lengths p rest begin.number =
      numbers_cover.goes_on front lengths p rest begin.number (ap not (no_stop m g.setting.tables may_take f e s t x))
      begin.covers in
      let same : to - at_of front ≡ size = omega (arith, takes) in
      record {
        after = Some (state_of g.setting t (begin.number - (to - at_of front)));
        way = falls_on (at_of front) to begin.number fell s t f (operand_at (pos 0) f e) begin.is_in there
            (λ k above below. no_row_in front p rest k whole above below) (omega (arith, same, pays))
            (λ n ends enough. x.falls (at_of front) n begin.number enough);
        stands = fallen (row_behind_both false front (p ∷ [])) (omega (arith, same, pays));
      }

  -- ---- tables

  table_moves : (front rest : List Piece) (values : List ℤ) (s : Told) (fell : Option State)
      → ps ≡ front ++ TableAddress values ∷ rest → Stands front (TableAddress values ∷ rest) (Some s) fell
      → Moves front (TableAddress values ∷ []) rest (Some (with_pushed (table_known g.setting values) s)) fell
  table_moves front rest values s fell whole stands =
      let p : Piece = TableAddress values in
      let at : ℕ = at_of front in
      let to : ℕ = at_of (front ++ p ∷ []) in
      let size : ℕ = bytes_after front lengths p in
      let loads = lies front p rest whole in
      let d : ℤ = loads.distance in
      let count = item_count-append front (p ∷ []) in
      let begin = begins_in front p rest s fell whole (omega (arith, count)) stands in
      let number : ℕ = begin.number in
      let takes = bytes_are front p in
      let pays : PaysAndCovers front lengths p rest number =
      numbers_cover.goes_on front lengths p rest number refl begin.covers in
      let same : to - at ≡ size = omega (arith, takes) in
      let first = (fetches_some loads.loads).0 in
      let last = (fetches_some loads.points).0 in
      let between : loads.middle ≤ loads.last = elim loads.fills [
        | inl equal ↦ omega (arith, equal)
        | inr fills ↦ omega (arith, (fetches_some fills).0)
      ] in
      let free = (λ (k : ℕ) (above : at < k) (below : k < to). no_row_in front p rest k whole above below) in
      let own : AllByRecursion HasValues (front ++ p ∷ rest) =
      subst (λ (qs : List Piece). AllByRecursion HasValues qs) whole filled in
      let leads = tables_lead ps labels links bytes says front rest values whole
      (all_last HasValues front (p ∷ rest) own).0 at to (at_small (front ++ p ∷ [])) loads in
      let one : Told = with_pushed (known_constant d) s in
      let two : Told = with_pushed (table_known g.setting values) s in
      let left : ℕ = number - (loads.middle - at) in
      let load : Passes m at fell loads.middle (Some (state_of g.setting one left)) =
      falls_on at loads.middle number fell s one fun.LoadConstant d begin.is_in loads.loads
      (λ k above below. free k above (omega (arith, below, between, last))) (omega (arith, between, last, same, pays))
      (λ n ends enough. (loaded_falls g.setting d s).falls at n number enough) in
      let enough_left : to - loads.middle ≤ left = omega (arith, first, between, last, same, pays) in
      let filled_left : ℕ = left - (loads.last - loads.middle) in
      let fill : Passes m loads.middle (Some (state_of g.setting one left)) loads.last
      (Some (state_of g.setting one filled_left)) = elim loads.fills [
        | inl equal ↦
            let none_left : left ≡ filled_left = omega (arith, equal) in
            subst (λ (n : ℕ). Passes m loads.middle (Some (state_of g.setting one left)) loads.last
            (Some (state_of g.setting one n))) none_left
            (subst (λ (k : ℕ). Passes m loads.middle (Some (state_of g.setting one left)) k
            (Some (state_of g.setting one left))) equal over)
        | inr fills ↦
            falls_on loads.middle loads.last left (Some (state_of g.setting one left)) one one fun.AddConstant (pos 0)
            (in_free loads.middle (state_of g.setting one left)
            (free loads.middle first (omega (arith, between, last))))
            fills (λ k above below. free k (omega (arith, first, above)) (omega (arith, below, last)))
            (omega (arith, enough_left, last))
            (λ n ends enough. (filled_falls g.setting d s loads.word).falls loads.middle n left enough)
      ] in
      let point : Passes m loads.last (Some (state_of g.setting one filled_left)) to
      (Some (state_of g.setting two (filled_left - (to - loads.last)))) =
      falls_on loads.last to filled_left (Some (state_of g.setting one filled_left)) one two fun.Operate
      LOAD_POINTER_TO_INSTRUCTION
      (in_free loads.last (state_of g.setting one filled_left) (free loads.last (omega (arith, first, between)) last))
      loads.points (λ k above below. free k (omega (arith, first, between, above)) below)
      (omega (arith, enough_left, between, last))
      (λ n ends enough. place_falls g.setting loads.last n filled_left d (table_fact g.setting values) s
      (subst (λ (k : ℕ). place_fact m (pos k +ℤ d) ≡ Ok (table_fact g.setting values)) (sym ends) leads) enough) in
      record {
        after = Some (state_of g.setting two (filled_left - (to - loads.last)));
        way = ways_follow load (ways_follow fill point);
        stands = fallen (row_behind_both false front (p ∷ []))
            (omega (arith, first, between, last, same, pays));
      }

  -- straight pieces, one after the other
  straight_moves : {s t : Told} {qs : List Piece} → FallOn g.setting qs s t → (front rest : List Piece)
      (fell : Option State) → ps ≡ front ++ (qs ++ rest) → Stands front (qs ++ rest) (Some s) fell
      → Moves front qs rest (Some t) fell
  straight_moves {s = s} done before rest fell whole stands = moves_over before rest (Some s) fell stands
  straight_moves {s = s} {t = t} (next {f = f} {e = e} {ps = qs} {t = u} x fall) before rest fell whole stands =
      moves_on before (Direct f e ∷ []) qs rest (Some u) (Some t) fell
      (direct_moves before (qs ++ rest) f e s u fell whole x stands)
      (λ after stands. straight_moves fall (before ++ Direct f e ∷ []) rest after
      (whole ∙ sym (append_assoc before (Direct f e ∷ []) (qs ++ rest))) stands)
  straight_moves {s = s} {t = t} (table {values = values} {ps = qs} fall) before rest fell whole stands =
      moves_on before (TableAddress values ∷ []) qs rest (Some (with_pushed (table_known g.setting values) s)) (Some t)
      fell (table_moves before (qs ++ rest) values s fell whole stands)
      (λ after stands. straight_moves fall (before ++ TableAddress values ∷ []) rest after
      (whole ∙ sym (append_assoc before (TableAddress values ∷ []) (qs ++ rest))) stands)

  -- ---- what leaves

  stop_moves : (front rest : List Piece) (s : Told) (fell : Option State) → ps ≡ front ++ operates STOP_PROCESS ∷ rest
      → Stands front (operates STOP_PROCESS ∷ rest) (Some s) fell
      → Moves front (operates STOP_PROCESS ∷ []) rest None fell
  stop_moves front rest s fell whole stands =
      let p : Piece = operates STOP_PROCESS in
      let to : ℕ = at_of (front ++ p ∷ []) in
      let count = item_count-append front (p ∷ []) in
      let begin = begins_in front p rest s fell whole (omega (arith, count)) stands in
      let takes = bytes_are front p in
      let pays = numbers_cover.stops front lengths fun.Operate STOP_PROCESS rest begin.number refl begin.covers in
      record {
        after = None;
        way = one_passes (at_of front) to fell (state_of g.setting s begin.number) fun.Operate STOP_PROCESS ends
            begin.is_in (lies front p rest whole) (λ k above below. no_row_in front p rest k whole above below)
            (λ size is. stop_ends m g.setting.tables may_take (at_of front) size begin.number s
            (omega (arith, is, takes, pays)))
            (λ broken no. cc);
        stands = nowhere;
      }

  -- a label alone changes nothing
  place_stands : (front rest : List Piece) (l : ℕ) (s : Option Told) (fell : Option State)
      → at_of front ≡ at_of (front ++ Place l ∷ []) → Stands front (Place l ∷ rest) s fell
      → Stands (front ++ Place l ∷ []) rest s fell
  place_stands front rest l _ _ same nowhere = nowhere
  place_stands front rest l _ _ same (fallen {s = s} {number = number} free covers) =
      let pays = numbers_cover.goes_on front lengths (Place l) rest number refl covers in
      fallen (row_behind_both false front (Place l ∷ []) ∙ free) (omega (arith, pays))
  place_stands front rest l _ fell same (at_row {s = s} {number = number} is_in covers) =
      let pays = numbers_cover.goes_on front lengths (Place l) rest number refl covers in
      at_row (subst (λ (n : ℕ). IsIn m n fell (state_of g.setting s number)) same is_in) (omega (arith, pays))

  place_moves : (front rest : List Piece) (l : ℕ) (s : Option Told) (fell : Option State)
      → ps ≡ front ++ Place l ∷ rest → Stands front (Place l ∷ rest) s fell → Moves front (Place l ∷ []) rest s fell
  place_moves front rest l s fell whole stands =
      let p : Piece = Place l in
      let count = item_count-append front (p ∷ []) in
      let same : at_of front ≡ at_of (front ++ p ∷ []) =
      ap (λ (n : ℕ). offset lengths n) (omega (arith, count)) in
      record {
        after = fell;
        way = subst (λ (n : ℕ). Passes m (at_of front) fell n fell) same over;
        stands = place_stands front rest l s fell same stands;
      }

  -- an instruction that goes further on to the row of a label, by what its rule says at the distance of the row
  leads_ahead : (front : List Piece) (p : Piece) (rest : List Piece) (l : ℕ) (entries : List RowEntry) (f : Fun)
      (fell : Option State) (s : State) (r : Ruling) → ps ≡ front ++ p ∷ rest
      → (ahead : LeadsTo rest (open_label l entries)) → Reaches c (at_of front) f l (at_of (front ++ p ∷ []))
      → IsIn m (at_of front) fell s → ((broken : Rule) → r ≢ breaks broken)
      → ((size gap : ℕ) → at_of front + size ≡ at_of (front ++ p ∷ [])
      → at_of front + size + gap ≡ at_of (front ++ p ∷ ahead.middle) → at_of front + size + gap ≤ MAX_LONG_CODE
      → label_at m (at_of front + size + gap) ≡ Some (row l entries)
      → rule (record { contents = m; at = at_of front; length = size }) f (pos gap) s ≡ r)
      → Passes m (at_of front) fell (at_of (front ++ p ∷ [])) (falling r)
  leads_ahead front p rest l entries f fell s r whole ahead there is_in unbroken leaves =
      let at : ℕ = at_of front in
      let to : ℕ = at_of (front ++ p ∷ []) in
      let before : List Piece = front ++ p ∷ ahead.middle in
      let far : ℕ = at_of before in
      let is : ps ≡ before ++ Row l entries ∷ ahead.says.rest =
      whole ∙ ap (λ (qs : List Piece). front ++ p ∷ qs) ahead.says.whole
      ∙ sym (append_assoc front (p ∷ ahead.middle) (Row l entries ∷ ahead.says.rest)) in
      let row_is = row_there before l entries ahead.says.rest is in
      let first = item_count-append front (p ∷ []) in
      let all = item_count-append front (p ∷ ahead.middle) in
      let further : to ≤ far =
      offset_rises lengths (item_count (front ++ p ∷ [])) (item_count before) (omega (arith, first, all)) in
      let small = at_small before in
      let distance : there.operand ≡ pos (far - to) =
      bytes_ahead to far there.operand (fetches_some there.fetches).1 further (omega (arith, small))
      (there.reaches ∙ row_is.0) in
      one_passes at to fell s f there.operand r is_in there.fetches
      (λ k above below. no_row_in front p rest k whole above below)
      (λ size ends.
      let same : at + size + (far - to) ≡ far = omega (arith, ends, further) in
      ap (λ (e : ℤ). rule (record { contents = m; at = at; length = size }) f e s) distance
      ∙ leaves size (far - to) ends same (omega (arith, same, small))
      (subst (λ (n : ℕ). label_at m n ≡ Some (row l entries)) (sym same) row_is.1)) unbroken

  jump_moves : (front rest : List Piece) (l : ℕ) (entries : List RowEntry) (s : Told) (fell : Option State)
      → ps ≡ front ++ Jump l ∷ rest → LeadsTo rest (open_label l entries) → Implies g.weights s.frame entries
      → Stands front (Jump l ∷ rest) (Some s) fell → Moves front (Jump l ∷ []) rest None fell
  jump_moves front rest l entries s fell whole ahead implied stands =
      let p : Piece = Jump l in
      let at : ℕ = at_of front in
      let to : ℕ = at_of (front ++ p ∷ []) in
      let count = item_count-append front (p ∷ []) in
      let begin = begins_in front p rest s fell whole (omega (arith, count)) stands in
      let takes = bytes_are front p in
      let comes : ComesAfter ps labels front p rest = record { whole = whole; once = once } in
      let pays = numbers_cover.jumps ps labels lengths front l rest ahead.middle entries begin.number comes ahead.says
      begin.covers in
      let far : ℕ = at_of (front ++ p ∷ ahead.middle) in
      record {
        after = None;
        way = leads_ahead front p rest l entries fun.Jump fell (state_of g.setting s begin.number) (leads far) whole
            ahead (lies front p rest whole) begin.is_in (λ broken no. cc)
            (λ size gap ends same small there.
            jump_leads m g.setting.tables may_take at size begin.number gap (row_number ps lengths l) s (row l entries)
            (omega (arith, small)) (omega (arith, ends, takes, pays)) there
            (implied_rows_are_below ps labels links says.arrangement l entries (gone m g.setting.tables s)
            (begin.number - size)
            (implied_kept g.weights s.frame (scheduled s.frame) entries (scheduling_keeps s.frame) implied)
            (omega (arith, ends, takes, pays)))
            ∙ ap leads same);
        stands = nowhere;
      }

  test_moves : (front rest : List Piece) (l : ℕ) (r : Ends) (entries : List RowEntry) (s : Told) (fell : Option State)
      → ps ≡ front ++ JumpUnless l ∷ rest → LeadsTo rest (open_label l entries) → s.stack.a.fact ≡ number_in r
      → IsRange r → Implies g.weights (jumped s).frame entries → Stands front (JumpUnless l ∷ rest) (Some s) fell
      → Moves front (JumpUnless l ∷ []) rest (Some (fallen_told s)) fell
  test_moves front rest l r entries s fell whole ahead fact range implied stands =
      let p : Piece = JumpUnless l in
      let at : ℕ = at_of front in
      let to : ℕ = at_of (front ++ p ∷ []) in
      let size : ℕ = bytes_after front lengths p in
      let count = item_count-append front (p ∷ []) in
      let begin = begins_in front p rest s fell whole (omega (arith, count)) stands in
      let takes = bytes_are front p in
      let comes : ComesAfter ps labels front p rest = record { whole = whole; once = once } in
      let pays = numbers_cover.tests ps labels lengths front l rest ahead.middle entries begin.number comes ahead.says
      begin.covers in
      let far : ℕ = at_of (front ++ p ∷ ahead.middle) in
      let after : State = state_of g.setting (fallen_told s) (begin.number - size) in
      record {
        after = Some after;
        way = leads_ahead front p rest l entries fun.ConditionalJump fell (state_of g.setting s begin.number)
            (falls_or_leads after far) whole ahead (lies front p rest whole) begin.is_in (λ broken no. cc)
            (λ n gap ends same small there.
            let equal : n ≡ size = omega (arith, ends, takes) in
            jumps_fork g.setting at n begin.number gap (row_number ps lengths l) s r (row l entries)
            (omega (arith, small)) fact range (omega (arith, equal, pays.1)) there
            (implied_rows_are_below ps labels links says.arrangement l entries (jumped s) (begin.number - n) implied
            (omega (arith, equal, pays.0)))
            ∙ ap (λ (k : ℕ). falls_or_leads (state_of g.setting (fallen_told s) (begin.number - k)) (at + n + gap)) equal
            ∙ ap (λ (k : ℕ). falls_or_leads after k) same);
        stands = fallen (row_behind_both false front (p ∷ [])) (omega (arith, pays.1));
      }

  -- ---- rows

  -- what a row asks of what falls in: that it may go on there, whatever it has to pay with that covers what is left
  abbrev MayFall : List Piece → List Piece → ℕ → List RowEntry → Option Told → Type 0
  MayFall front rest l entries s =
      IfSome s (λ t. (number : ℕ) → Covers front lengths (Row l entries ∷ rest) number
      → (cost : ℕ) × (below (state_of g.setting t number) (row l entries) ≡ Ok cost))

  -- the row's state, whatever falls in
  in_row_by : (front rest : List Piece) (l : ℕ) (entries : List RowEntry) (s : Option Told) (fell : Option State)
      → label_at m (at_of front) ≡ Some (row l entries) → MayFall front rest l entries s
      → Stands front (Row l entries ∷ rest) s fell → IsIn m (at_of front) fell (label_state (row l entries))
  in_row_by front rest l entries _ _ there may nowhere =
      record { stands = in_row (at_of front) None (row l entries) there; cost = 0; enters = refl }
  in_row_by front rest l entries _ _ there may (fallen {s = s} {number = number} free covers) =
      let before : State = state_of g.setting s number in
      let paid = may number covers in
      record {
        stands = in_row (at_of front) (Some before) (row l entries) there;
        cost = paid.0;
        enters = into_row (label_at m (at_of front)) before (row l entries) paid.0 (Ok 0) there paid.1;
      }
  in_row_by front rest l entries _ fell there may (at_row {number = number} is_in covers) =
      record { stands = in_row (at_of front) fell (row l entries) there; cost = is_in.cost; enters = is_in.enters }

  row_moves : (front rest : List Piece) (l : ℕ) (entries : List RowEntry) (s : Option Told) (fell : Option State)
      → ps ≡ front ++ Row l entries ∷ rest → MayFall front rest l entries s → Stands front (Row l entries ∷ rest) s fell
      → Moves front (Row l entries ∷ []) rest (Some (told_by g entries)) fell
  row_moves front rest l entries s fell whole may stands =
      let p : Piece = Row l entries in
      let there = (row_there front l entries rest whole).1 in
      let count = item_count-append front (p ∷ []) in
      let same : at_of front ≡ at_of (front ++ p ∷ []) =
      ap (λ (n : ℕ). offset lengths n) (omega (arith, count)) in
      let is : label_state (row l entries) ≡ state_of g.setting (told_by g entries) (row_number ps lengths l) =
      rows_say_their_pieces ps labels links says.arrangement l entries in
      let is_in : IsIn m (at_of front) fell (state_of g.setting (told_by g entries) (row_number ps lengths l)) =
      subst (λ (t : State). IsIn m (at_of front) fell t) is
      (in_row_by front rest l entries s fell there may stands) in
      let comes : ComesAfter ps labels front p rest = record { whole = whole; once = once } in
      let needed = labels_keep_their_numbers.needed ps labels lengths front l entries rest comes in
      record {
        after = fell;
        way = subst (λ (n : ℕ). Passes m (at_of front) fell n fell) same over;
        stands = at_row (subst (λ (n : ℕ). IsIn m n fell
            (state_of g.setting (told_by g entries) (row_number ps lengths l))) same is_in) (omega (arith, needed));
      }

  -- ---- loops

  -- the end of a turn, before the row behind the loop
  back_moves : (front body rest : List Piece) (head behind count word : ℕ) (entries left : List RowEntry) (last : ℤ)
      (s : Told) (fell : Option State) (turn : List Piece) → turn ≡ front ++ Row head entries ∷ body
      → ps ≡ turn ++ LoopBack head behind ∷ Row behind left ∷ rest → turns_at head entries ≡ Some count
      → IsAbsent head (heads_in body) → EndsTurn g head entries word last s
      → Stands turn (LoopBack head behind ∷ Row behind left ∷ rest) (Some s) fell
      → Moves turn (LoopBack head behind ∷ []) (Row behind left ∷ rest)
      (Some (record { stack = of_empty unknown; frame = after_turns word last (scheduled s.frame) })) fell
  back_moves front body rest head behind count word entries left last s fell turn is whole turns absent ended stands =
      let p : Piece = LoopBack head behind in
      let later : List Piece = Row behind left ∷ rest in
      let at : ℕ = at_of turn in
      let to : ℕ = at_of (turn ++ p ∷ []) in
      let size : ℕ = bytes_after turn lengths p in
      let loops = lies turn p later whole in
      let item = item_count-append turn (p ∷ []) in
      let begin = begins_in turn p later s fell whole (omega (arith, item)) stands in
      let number : ℕ = begin.number in
      let takes = bytes_are turn p in
      let comes : ComesAfter ps labels turn p later = record { whole = whole; once = once } in
      let pays = numbers_cover.turns ps labels lengths front turn head behind entries later count number comes
      (record { body = body; whole = is; begins = turns; other = absent }) begin.covers in
      let begins_at : ps ≡ front ++ Row head entries ∷ (body ++ p ∷ later) =
      whole ∙ ap (λ (qs : List Piece). qs ++ p ∷ later) is
      ∙ append_assoc front (Row head entries ∷ body) (p ∷ later) in
      let head_row = row_there front head entries (body ++ p ∷ later) begins_at in
      let behind_row = row_there (turn ++ p ∷ []) behind left rest
      (whole ∙ sym (append_assoc turn (p ∷ []) later)) in
      let before : at_of front ≤ at =
      let counts = ap item_count is ∙ item_count-append front (Row head entries ∷ body) in
      offset_rises lengths (item_count front) (item_count turn) (omega (arith, counts)) in
      let some = (fetches_some loops.loads).0 in
      let small = at_small (turn ++ p ∷ []) in
      let distance : loops.distance ≡ pos (to - at_of front) =
      distance_back to (at_of front) loops.distance (fetches_some loops.loads).1
      (omega (arith, before, some, (fetches_some loops.loops).0)) (omega (arith, small))
      (loops.back behind_row.0 ∙ head_row.0) in
      let middle : ℕ = loops.middle in
      let second = (fetches_some loops.loops).0 in
      let one : Told = with_pushed (known_constant loops.distance) s in
      let left_number : ℕ = number - (middle - at) in
      let load : Passes m at fell middle (Some (state_of g.setting one left_number)) =
      falls_on at middle number fell s one fun.LoadConstant loops.distance begin.is_in loops.loads
      (λ k above below. no_row_in turn p later k whole above (omega (arith, below, second)))
      (omega (arith, some, second, takes, pays.0))
      (λ n end enough. (loaded_falls g.setting loops.distance s).falls at n number enough) in
      let after : Told = record { stack = of_empty unknown; frame = after_turns word last (scheduled s.frame) } in
      let final : ℕ = left_number - (to - middle) in
      let turned : Passes m middle (Some (state_of g.setting one left_number)) to
      (Some (state_of g.setting after final)) =
      one_falls middle to (Some (state_of g.setting one left_number)) (state_of g.setting one left_number) fun.Operate
      LOOP_END (state_of g.setting after final)
      (in_free middle (state_of g.setting one left_number)
      (no_row_in turn p later middle whole some second))
      loops.loops (λ k above below. no_row_in turn p later k whole (omega (arith, above, some)) below)
      (λ n end.
      let equal : n ≡ to - middle = omega (arith, end) in
      let d : middle + n - at_of front ≡ to - at_of front = omega (arith, end) in
      let known_d : known_constant loops.distance ≡ known_constant (pos (middle + n - at_of front)) =
      ap (λ (z : ℤ). known_constant z) (distance ∙ ap (λ (k : ℕ). pos k) (sym d)) in
      let falls_so = loop_turns m g.setting.tables may_take middle n left_number (at_of front) word
      (row_number ps lengths head) s (row head entries) ended.loop last (omega (arith, before, some))
      (omega (arith, before, some, end, second)) (omega (arith, end, small))
      (omega (arith, end, some, second, takes, pays.0)) head_row.1 ended.block ended.index ended.count ended.ends
      ended.writes_index ended.writes_count
      (implied_rows_are_below ps labels links says.arrangement head entries (gone m g.setting.tables s)
      (left_number - n + ended.loop.weight)
      (implied_kept g.weights s.frame (scheduled s.frame) entries (scheduling_keeps s.frame) ended.again)
      (omega (arith, end, some, second, takes, pays.0, pays.1, ended.weight))) in
      subst (λ (k : ℕ). FallsInto (rule (record { contents = m; at = middle; length = n }) fun.Operate LOOP_END
      (state_of g.setting one left_number)) (state_of g.setting after (left_number - k))) equal
      (subst (λ (v : Known). FallsInto (rule (record { contents = m; at = middle; length = n }) fun.Operate LOOP_END
      (state_of g.setting (with_pushed v s) left_number)) (state_of g.setting after (left_number - n))) (sym known_d)
      falls_so)) in
      record {
        after = Some (state_of g.setting after final);
        way = ways_follow load turned;
        stands = fallen (row_behind_both false turn (p ∷ [])) (omega (arith, some, second, takes, pays.0));
      }

  -- the number of a row is paid by what covers what is left
  row_paid : (front rest : List Piece) (l : ℕ) (entries : List RowEntry) (number : ℕ)
      → ps ≡ front ++ Row l entries ∷ rest → Covers front lengths (Row l entries ∷ rest) number
      → (turns : Option ℕ) → turns_at l entries ≡ turns → row_number ps lengths l ≤ number
  row_paid front rest l entries number whole covers None turns =
      numbers_cover.rows ps labels lengths front l entries rest number (record { whole = whole; once = once }) turns
      covers
  row_paid front rest l entries number whole covers (Some count) turns =
      let paid = numbers_cover.heads ps labels lengths front l entries rest count number
      (record { whole = whole; once = once }) turns covers in
      omega (arith, paid)

  -- what falls into a row may go on there, if it implies the row
  implied_may : (front rest : List Piece) (l : ℕ) (entries : List RowEntry) (s : Option Told)
      → ps ≡ front ++ Row l entries ∷ rest → IfSome s (λ t. Implies g.weights t.frame entries)
      → MayFall front rest l entries s
  implied_may front rest l entries None whole implied = tt
  implied_may front rest l entries (Some t) whole implied = λ number covers. (
    row_number ps lengths l,
    implied_rows_are_below ps labels links says.arrangement l entries t number implied
        (row_paid front rest l entries number whole covers (turns_at l entries) refl),
  )

  -- and at the head of a loop, if it enters that
  entering_may : (front rest : List Piece) (head count : ℕ) (entries : List RowEntry) (s : Option Told)
      → ps ≡ front ++ Row head entries ∷ rest → turns_at head entries ≡ Some count
      → IfSome s (λ t. Enters g.weights t.frame head count entries) → MayFall front rest head entries s
  entering_may front rest head count entries None whole turns enters = tt
  entering_may front rest head count entries (Some t) whole turns enters = λ number covers. (
    row_number ps lengths head + loop_weight ps lengths head * (count - 1),
    entered_rows_are_below ps labels links says.arrangement head count entries t number enters
        (numbers_cover.heads ps labels lengths front head entries rest count number
        (record { whole = whole; once = once }) turns covers),
  )

  -- ---- all pieces

  -- A way leads over pieces that pass.
  pub pieces_move : {opened : List OpenLabel} {s t : Option Told} {qs : List Piece} → PassOn g opened s qs t
      → (front rest : List Piece) (fell : Option State) → ps ≡ front ++ (qs ++ rest) → AreAhead rest opened
      → Stands front (qs ++ rest) s fell → Moves front qs rest t fell
  pieces_move {s = s} none front rest fell whole ahead stands = moves_over front rest s fell stands
  pieces_move {opened = opened} {s = s} {t = u} (both {t = t} {ps = qs} {qs = rs} first second) front rest fell whole
      ahead stands =
      let parts : (qs ++ rs) ++ rest ≡ qs ++ (rs ++ rest) = append_assoc qs rs rest in
      let now : ps ≡ front ++ (qs ++ (rs ++ rest)) = whole ∙ ap (λ (xs : List Piece). front ++ xs) parts in
      moves_on front qs rs rest t u fell
      (pieces_move first front (rs ++ rest) fell now (ahead_of rs rest opened ahead)
      (subst (λ (xs : List Piece). Stands front xs s fell) parts stands))
      (λ after standing. pieces_move second (front ++ qs) rest after
      (now ∙ sym (append_assoc front qs (rs ++ rest))) ahead standing)
  pieces_move (straight fall) front rest fell whole ahead stands = straight_moves fall front rest fell whole stands
  pieces_move (stops {s = s}) front rest fell whole ahead stands = stop_moves front rest s fell whole stands
  pieces_move {s = s} (places {l = l}) front rest fell whole ahead stands = place_moves front rest l s fell whole stands
  pieces_move {opened = opened} (jumps {s = s} {l = l} entries is implied) front rest fell whole ahead stands =
      jump_moves front rest l entries s fell whole (open_ahead rest opened l entries ahead is) implied stands
  pieces_move {opened = opened} (tests {s = s} {l = l} r entries is fact range implied) front rest fell whole ahead
      stands =
      test_moves front rest l r entries s fell whole (open_ahead rest opened l entries ahead is) fact range implied
      stands
  pieces_move {opened = opened} {s = s} (closes {t = t} {ps = qs} {l = l} {entries = entries} pass implied) front rest
      fell whole ahead stands =
      let p : Piece = Row l entries in
      let parts : (qs ++ p ∷ []) ++ rest ≡ qs ++ p ∷ rest = append_assoc qs (p ∷ []) rest in
      let now : ps ≡ front ++ (qs ++ p ∷ rest) = whole ∙ ap (λ (xs : List Piece). front ++ xs) parts in
      let here : ps ≡ (front ++ qs) ++ p ∷ rest = now ∙ sym (append_assoc front qs (p ∷ rest)) in
      moves_on front qs (p ∷ []) rest t (Some (told_by g entries)) fell
      (pieces_move pass front (p ∷ rest) fell now
      (record { middle = []; says = record { rest = rest; whole = refl } }, ahead_of (p ∷ []) rest opened ahead)
      (subst (λ (xs : List Piece). Stands front xs s fell) parts stands))
      (λ after standing. row_moves (front ++ qs) rest l entries t after here
      (implied_may (front ++ qs) rest l entries t here implied) standing)
  pieces_move {opened = opened} {s = s} (loops {t = t} {head = head} {count = count} {entries = entries}
      {body = body} behind word last left enters turns pass ended implied) front rest fell whole ahead stands =
      let p : Piece = Row head entries in
      let back : Piece = LoopBack head behind in
      let q : Piece = Row behind left in
      let tail : List Piece = back ∷ q ∷ [] in
      let parts : (body ++ tail) ++ rest ≡ body ++ (tail ++ rest) = append_assoc body tail rest in
      let now : ps ≡ front ++ p ∷ (body ++ (back ∷ q ∷ rest)) =
      whole ∙ ap (λ (xs : List Piece). front ++ p ∷ xs) parts in
      let inside : ps ≡ (front ++ p ∷ []) ++ (body ++ (back ∷ q ∷ rest)) =
      now ∙ sym (append_assoc front (p ∷ []) (body ++ (back ∷ q ∷ rest))) in
      let turn : List Piece = (front ++ p ∷ []) ++ body in
      let turn_is : turn ≡ front ++ p ∷ body = append_assoc front (p ∷ []) body in
      let at_end : ps ≡ turn ++ back ∷ q ∷ rest =
      inside ∙ sym (append_assoc (front ++ p ∷ []) body (back ∷ q ∷ rest)) in
      let behind_it : ps ≡ (turn ++ back ∷ []) ++ q ∷ rest =
      at_end ∙ sym (append_assoc turn (back ∷ []) (q ∷ rest)) in
      let absent : IsAbsent head (heads_in body) =
      heads_absent pass head (labels_front head body (back ∷ q ∷ rest)
      (placed_once front p (body ++ (back ∷ q ∷ rest)) head refl
      (subst (λ (xs : List Piece). AllDiffer (labels_in xs)) now once.once))) in
      let after_loop : Told = record { stack = of_empty unknown; frame = after_turns word last (scheduled t.frame) } in
      moves_on front (p ∷ []) (body ++ tail) rest (Some (told_by g entries)) (Some (told_by g left)) fell
      (row_moves front ((body ++ tail) ++ rest) head entries s fell whole
      (entering_may front ((body ++ tail) ++ rest) head count entries s whole turns enters) stands)
      (λ one standing. moves_on (front ++ p ∷ []) body tail rest (Some t) (Some (told_by g left)) one
      (pieces_move pass (front ++ p ∷ []) (tail ++ rest) one inside (ahead_of tail rest opened ahead)
      (subst (λ (xs : List Piece). Stands (front ++ p ∷ []) xs (Some (told_by g entries)) one) parts standing))
      (λ two ending. moves_on turn (back ∷ []) (q ∷ []) rest (Some after_loop) (Some (told_by g left)) two
      (back_moves front body rest head behind count word entries left last t two turn turn_is at_end turns absent ended
      ending)
      (λ three falling. row_moves (turn ++ back ∷ []) rest behind left (Some after_loop) three behind_it
      (implied_may (turn ++ back ∷ []) rest behind left (Some after_loop) behind_it
      (implied_kept g.weights (after_turns word last t.frame) (after_turns word last (scheduled t.frame)) left
      (turns_keep word last t.frame (scheduled t.frame) (scheduling_keeps t.frame)) implied)) falling)))
