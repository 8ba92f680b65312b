-- Places among those that the walk reaches: what is known at one holds at the next.
use Rattle.std.proofs.Common.{◌≡◌, ℕ, zero, suc, ◌<◌, ◌≤◌, ℤ, Bool, true, List, [], ◌∷◌, ◌++◌, length, Option}
use Rattle.std.proofs.Common.{Some, None, refl, sym, ap, subst, ◌∙◌, arith, IsSomeAnd}
use Rattle.std.specs.List.{AllByRecursion}
use Rattle.std.specs.Prelude.{option_map, slice_get}
use Rattle.word_arithmetic.specs.Range.{full}
use Rattle.machine_state.specs.Memory.{Memory}
use Rattle.occam_parser.specs.Lines.{Channels, Constants, Declaration, Variables}
use Rattle.occam_parser.specs.OneOrMore.{as_list}
use Rattle.occam_parser.specs.Blocks.{Process}
use Rattle.occam_parser.specs.Words.{declaration_has_words, process_has_words}
use Rattle.scalar_ranges.specs.Entries.{Entry, Meaning}
use Rattle.scalar_ranges.specs.Environments.{Environment, Held, Nothing}
use Rattle.scalar_ranges.specs.MoveLaws.{meaning_at, shape}
use Rattle.scalar_ranges.specs.Moves.{Known, begun_with, outermost}
use Rattle.scalar_ranges.specs.Narrowing.{with_range}
use Rattle.scalar_ranges.proofs.Found.{none_less}
use Rattle.scalar_ranges.proofs.MoveLaws.{shape_long}
use Rattle.scalar_ranges.proofs.Nesting.{further_out, long_alike}
use Rattle.program_uses.specs.Declaring.{add, add_all, add_declaration, channel_meaning, variable_meaning}
use Rattle.program_meaning.specs.Doing.{doing}
use Rattle.program_meaning.specs.GoingWell.{IsTrueIn}
use Rattle.program_meaning.specs.Sequential.{IsSequential}
use Rattle.program_meaning.specs.Storing.{bind_all, declare, held_by, zero_for}
use Rattle.program_meaning.proofs.LeavesAreTrue.{leaves_are_true}
use Rattle.usage_checks.specs.AfterProcesses.{inside}
use Rattle.usage_checks.specs.Holding.{DeclarationHolds}
use Rattle.usage_checks.specs.ItemRules.{BreaksNoRule}
use Rattle.usage_checks.specs.Reaching.{AProcess, Reaches}
use Rattle.usage_checks.proofs.ActionsGoWell.{of_main_alike, of_main_more}
use Rattle.usage_checks.proofs.ProcessesGoWell.{Stands, declared_of_main, declared_true, processes_go_well}
use Rattle.usage_checks.proofs.RangesStay.{declared_long}
use Rattle.line_pieces.specs.Homes as home
use Rattle.line_pieces.specs.Homes.{Home}
use Rattle.line_pieces.specs.Declarations.{Frame, channels_in, declared, home_for, with_names, with_words}
use Rattle.line_pieces.specs.Declarations.{words_in}
use Rattle.code_generator.specs.Processes.{Site, at_place, with_declaration}
use Rattle.meant_lines.proofs.Housing.{get_before}
use Rattle.meant_lines.proofs.Shapes.{same_shapes_carry}
use Rattle.meant_processes.specs.Places.{AreHoused, AreLinked, CarriedAt, IsHoused, IsLinked, IsOwn, IsPlaced, IsSited}
use Rattle.meant_processes.specs.Places.{Program, ground, standing}
use Rattle.meant_processes.proofs.Housed.{declared_housed, housed_more}
use Rattle.meant_processes.proofs.Linked.{declared_linked}
use Rattle.meant_processes.proofs.Indices.{IndicesStay, WhatLeaves, all_leaves}

-- what memory carries once a process has ended that began with this environment, and with which indices
abbrev pub Left : Program → Site → (ℕ → ℤ) → Environment → Environment → Memory → Type 0
Left p s turns env after m = CarriedAt p s turns after m × IndicesStay (shape s.known.entries) env after

-- ---- what is true after a process

pub stands_there : (p : Program) (s : Site) (env : Environment) (listens : List Bool)
    → IsPlaced p s env
    → Stands (record { ports = p.ports; listens = listens }) (standing p) s.known env
stands_there p s env listens placed = record {
  counted = placed.sited.counted;
  main = record { own = placed.sited.own; ports = placed.sited.channels };
  low = placed.sited.low;
  holds = placed.holds;
}

pub process_true : (p : Program) (first : ℕ) (process : Process) (s : Site) (env : Environment)
    → BreaksNoRule p.items → Reaches p.items (standing p) (AProcess first process) s.known
    → IsSequential process → process_has_words process ≡ true → IsPlaced p s env
    → WhatLeaves (IsTrueIn (outermost (length s.known.entries) (inside p.around process s.known).entries))
    (doing p.ports process env)
process_true p first process s env none reached sequential words placed =
    let final = outermost (length s.known.entries) (inside p.around process s.known).entries in
    all_leaves (IsTrueIn final) (doing p.ports process env)
    (leaves_are_true.running final p.ports process env (λ listens l.
    (processes_go_well p.items (record { ports = p.ports; listens = listens }) process none).well (standing p)
    first s.known env l reached sequential words (stands_there p s env listens placed)))

-- ---- another place with the same frame

-- the same names with other ranges
pub sited_alike : (p : Program) (s : Site) (k : Known) (label : ℕ) → IsSited p s
    → shape k.entries ≡ shape s.known.entries → begun_with k.blocks ≤ length k.entries → IsSited p (at_place k label s)
sited_alike p s k label sited same low = record {
  counted = sited.counted;
  own = subst (λ (es : List Entry). AllByRecursion (λ e. IsOwn e.meaning) es) (sym same) sited.own;
  channels = λ n port is. ap (meaning_at n) same ∙ sited.channels n port is;
  links = sited.links;
  housed = subst (AreHoused s.frame.homes) (sym same) sited.housed;
  linked = subst (AreLinked p) (sym same) sited.linked;
  declared = subst (λ n. p.position.declared ≤ n) (sym (long_alike k.entries s.known.entries same)) sited.declared;
  alone = subst (λ n. p.position.parallel ≤ n) (sym (long_alike k.entries s.known.entries same)) sited.alone;
  low = low;
}

pub placed_alike : (p : Program) (s : Site) (k : Known) (label : ℕ) (env after : Environment) → IsPlaced p s env
    → shape k.entries ≡ shape s.known.entries → begun_with k.blocks ≤ length k.entries → IsTrueIn k.entries after
    → IsPlaced p (at_place k label s) after
placed_alike p s k label env after placed same low holds = record {
  sited = sited_alike p s k label placed.sited same low;
  long = placed.long ∙ sym (long_alike k.entries s.known.entries same);
  holds = holds;
}

pub carried_alike : (p : Program) (s : Site) (k : Known) (label : ℕ) (turns : ℕ → ℤ) (env : Environment) (m : Memory)
    → shape k.entries ≡ shape s.known.entries → CarriedAt p s turns env m
    → CarriedAt p (at_place k label s) turns env m
carried_alike p s k label turns env m same x = record {
  carries = same_shapes_carry (ground p s.frame.homes turns) s.frame.top s.known.entries k.entries env m (sym same)
      x.carries;
}

pub left_alike : (p : Program) (s : Site) (k : Known) (label : ℕ) (turns : ℕ → ℤ) (env after : Environment) (m : Memory)
    → shape k.entries ≡ shape s.known.entries → Left p (at_place k label s) turns env after m
    → Left p s turns env after m
left_alike p s k label turns env after m same left = (
  record {
    carries = same_shapes_carry (ground p s.frame.homes turns) s.frame.top k.entries s.known.entries after m same
        left.0.carries;
  },
  subst (λ es. IndicesStay es env after) same left.1,
)

-- ---- homes

pub got_below : (hs : List Home) (i : ℕ) (h : Home) → slice_get hs i ≡ Some h → i < length hs
got_below [] i h is = absurd (cc is)
got_below (x ∷ hs) zero h is = omega arith
got_below (x ∷ hs) (suc i) h is = let less = got_below hs i h is in omega (arith, less)

pub home_behind : (hs : List Home) (h : Home) → length (hs ++ h ∷ []) ≡ suc (length hs)
home_behind [] h = refl
home_behind (x ∷ hs) h = ap suc (home_behind hs h)

names_front : (count : ℕ) (names : List (List ℕ)) (f : Frame) (i : ℕ) → i < length f.homes
    → slice_get (with_names count names f).homes i ≡ slice_get f.homes i
names_front count [] f i less = refl
names_front count (name ∷ names) f i less =
    let g = with_words count f in
    let longer = home_behind f.homes (home.Word f.top) in
    names_front count names g i (omega (arith, less, longer)) ∙ get_before f.homes (home.Word f.top) i less

-- A declaration leaves the homes of the names before it.
pub declared_front : (es : List Entry) (d : Declaration) (f : Frame) (i : ℕ) → i < length f.homes
    → slice_get (declared es d f).homes i ≡ slice_get f.homes i
declared_front es (Constants c) f i less = get_before f.homes (home_for es c.value_type c.value) i less
declared_front es (Variables n) f i less = names_front (words_in es n.value_type n.size) (as_list n.names) f i less
declared_front es (Channels n) f i less = names_front (channels_in es n.size) (as_list n.names) f i less

names_long : (count : ℕ) (m : Meaning) (names : List (List ℕ)) (f : Frame) (es : List Entry)
    → length f.homes ≡ length es → length (with_names count names f).homes ≡ length (add_all names m es)
names_long count m [] f es long = long
names_long count m (name ∷ names) f es long =
    names_long count m names (with_words count f) (add name m es) (home_behind f.homes (home.Word f.top) ∙ ap suc long)

-- It gives a home to each of its names.
declared_homes : (es : List Entry) (d : Declaration) (f : Frame) → length f.homes ≡ length es
    → length (declared es d f).homes ≡ length (add_declaration d es)
declared_homes es (Constants c) f long = home_behind f.homes (home_for es c.value_type c.value) ∙ ap suc long
declared_homes es (Variables n) f long =
    names_long (words_in es n.value_type n.size) (variable_meaning es n.value_type n.size) (as_list n.names) f es long
declared_homes es (Channels n) f long =
    names_long (channels_in es n.size) (channel_meaning es n.value_type n.size) (as_list n.names) f es long

-- ---- a name more

-- A place has a name more, whose home is this one, and the names before it may have other ranges.
pub sited_more : (p : Program) (s t : Site) (h : Home) (e : Entry) (es : List Entry) → IsSited p s
    → length s.frame.homes ≡ length s.known.entries → t.frame.homes ≡ s.frame.homes ++ h ∷ []
    → t.known.entries ≡ e ∷ es → shape es ≡ shape s.known.entries → IsOwn (with_range (λ r. full) e.meaning)
    → IsHoused (Some h) (with_range (λ r. full) e.meaning)
    → IsLinked p (length (shape es)) e.name (with_range (λ r. full) e.meaning)
    → begun_with t.known.blocks ≤ length t.known.entries → IsSited p t
sited_more p s t h e es sited long homes entries same own housed linked low =
    let first : Entry = record { name = e.name; meaning = with_range (λ r. full) e.meaning } in
    let main = of_main_more (record { ports = p.ports; listens = [] }) first (shape es) own
    (of_main_alike (record { ports = p.ports; listens = [] }) es s.known.entries same
    (record { own = sited.own; ports = sited.channels })) in
    let inner = long_alike es s.known.entries same in
    let all = ap (λ (xs : List Entry). length xs) entries in
    let further : length s.known.entries ≤ length t.known.entries = omega (arith, inner, all) in
    record {
      counted = sited.counted;
      own = subst (λ (xs : List Entry). AllByRecursion (λ x. IsOwn x.meaning) (shape xs)) (sym entries) main.own;
      channels = λ n port at. ap (λ (xs : List Entry). meaning_at n (shape xs)) entries ∙ main.ports n port at;
      links = λ n port at.
          let got = sited.links n port at in
          ap (λ (hs : List Home). slice_get hs n) homes
          ∙ get_before s.frame.homes h n (got_below s.frame.homes n _ got) ∙ got;
      housed = subst (λ (x : List Home × List Entry). AreHoused x.0 (shape x.1)) (λ i. (sym homes i, sym entries i))
          (housed_more s.frame.homes h first (shape es) (long ∙ sym inner ∙ sym (shape_long es)) housed
          (subst (AreHoused s.frame.homes) (sym same) sited.housed));
      linked = subst (λ (xs : List Entry). AreLinked p (shape xs)) (sym entries)
          (linked, subst (AreLinked p) (sym same) sited.linked);
      declared = let outside = sited.declared in omega (arith, outside, further);
      alone = let apart = sited.alone in omega (arith, apart, further);
      low = low;
    }

-- ---- what is declared

all_bound : (names : List (List ℕ)) (held : Held) (env : Environment) (n : ℕ) → n ≤ length env
    → outermost n (bind_all names held env) ≡ outermost n env
all_bound [] held env n low = refl
all_bound (name ∷ names) held env n low =
    all_bound names held (record { name = name; held = held } ∷ env) n (omega (arith, low))
    ∙ further_out n (record { name = name; held = held }) env low

all_out : {A : Type 0} (xs : List A) → outermost (length xs) xs ≡ xs
all_out xs = none_less (length xs) xs (omega arith)

-- the names before a declaration hold what they held
pub declared_out : (d : Declaration) (env inner : Environment) → declare d env ≡ Some inner
    → outermost (length env) inner ≡ env
declared_out (Constants c) env inner is = by_held (held_by env c.value) is
  where
    by_held : (o : Option Held)
        → option_map (λ held. record { name = c.name; held = held } ∷ env) o ≡ Some inner
        → outermost (length env) inner ≡ env
    by_held None is = absurd (cc is)
    by_held (Some held) is =
        let same : record { name = c.name; held = held } ∷ env ≡ inner = cc is in
        ap (outermost (length env)) (sym same)
        ∙ further_out (length env) (record { name = c.name; held = held }) env (omega arith) ∙ all_out env
declared_out (Variables n) env inner is = by_held (zero_for env n.size) is
  where
    by_held : (o : Option Held) → option_map (λ held. bind_all (as_list n.names) held env) o ≡ Some inner
        → outermost (length env) inner ≡ env
    by_held None is = absurd (cc is)
    by_held (Some held) is =
        let same : bind_all (as_list n.names) held env ≡ inner = cc is in
        ap (outermost (length env)) (sym same) ∙ all_bound (as_list n.names) held env (length env) (omega arith)
        ∙ all_out env
declared_out (Channels n) env inner is =
    let same : bind_all (as_list n.names) Nothing env ≡ inner = cc is in
    ap (outermost (length env)) (sym same) ∙ all_bound (as_list n.names) Nothing env (length env) (omega arith)
    ∙ all_out env

true_at : (o : Option Environment) (P : Environment → Type 0) (inner : Environment) → IsSomeAnd o P → o ≡ Some inner
    → P inner
true_at None P inner all is = absurd all
true_at (Some x) P inner all is = let same : x ≡ inner = cc is in subst P same all

-- behind a declaration
pub sited_behind : (p : Program) (s : Site) (d : Declaration) → IsSited p s
    → length s.frame.homes ≡ length s.known.entries → IsSited p (with_declaration d s)
sited_behind p s d sited long =
    let es = s.known.entries in
    let main = declared_of_main (record { ports = p.ports; listens = [] }) es d
    (record { own = sited.own; ports = sited.channels }) in
    let longer = declared_long d es in
    let low = sited.low in
    let outer = sited.declared in
    let alone = sited.alone in
    record {
      counted = sited.counted;
      own = main.own;
      channels = main.ports;
      links = λ n port at.
          declared_front es d s.frame n (got_below s.frame.homes n _ (sited.links n port at)) ∙ sited.links n port at;
      housed = declared_housed es d s.frame long sited.housed;
      linked = declared_linked p es d sited.declared sited.alone sited.linked;
      declared = omega (arith, outer, longer);
      alone = omega (arith, alone, longer);
      low = omega (arith, low, longer);
    }

pub placed_behind : (p : Program) (s : Site) (d : Declaration) (env inner : Environment) → IsPlaced p s env
    → DeclarationHolds s.known.entries d → declaration_has_words d ≡ true → declare d env ≡ Some inner
    → IsPlaced p (with_declaration d s) inner
placed_behind p s d env inner placed right words is = record {
  sited = sited_behind p s d placed.sited placed.long;
  long = declared_homes s.known.entries d s.frame placed.long;
  holds = true_at (declare d env) (IsTrueIn (add_declaration d s.known.entries)) inner
      (declared_true s.known.entries env d right words placed.holds) is;
}
