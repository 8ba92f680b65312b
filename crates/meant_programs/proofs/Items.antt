-- Main is found, with what memory carries of the names before it.
use Rattle.std.proofs.Common.{◌≡◌, ℕ, true, List, [], ◌∷◌, length}
use Rattle.std.proofs.Common.{Some, refl, sym, subst, arith}
use Rattle.std.proofs.lemmas.List.{length-append}
use Rattle.std.specs.List.{AllByRecursion}
use Rattle.std.specs.Prelude.{pos}
use Rattle.machine_state.specs.Memory.{Memory}
use Rattle.module_format.specs.Stack.{of_empty}
use Rattle.occam_parser.specs.Lines as lines
use Rattle.occam_parser.specs.Lines.{Formal}
use Rattle.occam_parser.specs.Blocks.{ProgramItem}
use Rattle.occam_parser.specs.Words.{declaration_has_words}
use Rattle.scalar_ranges.specs.declared.scope.ArrayKind.TheVariants as array
use Rattle.scalar_ranges.specs.Entries as entries
use Rattle.scalar_ranges.specs.Entries.{Meaning, Entry}
use Rattle.scalar_ranges.specs.Environments.{Nothing, Environment}
use Rattle.scalar_ranges.specs.MoveLaws.{shape}
use Rattle.program_uses.specs.Declaring.{add, add_declaration}
use Rattle.program_meaning.specs.Storing.{bind, declare}
use Rattle.usage_checks.specs.ItemRules.{BreaksNoRule}
use Rattle.usage_checks.specs.Holding.{DeclarationHolds}
use Rattle.program_meaning.specs.GoingWell.{IsTrueIn}
use Rattle.usage_checks.proofs.ProcessesGoWell.{known_declaration}
use Rattle.code_pieces.specs.Pieces.{Code, Piece}
use Rattle.line_pieces.specs.Homes.{Nowhere}
use Rattle.line_pieces.specs.Declarations.{Frame, declared, with_home, home_for}
use Rattle.code_generator.specs.Programs.{first_word}
use Rattle.placed_code.specs.StraightPieces as pieces
use Rattle.placed_code.specs.StraightPieces.{Footing, LeadOn, done}
use Rattle.meant_lines.specs.Carrying.{Carries}
use Rattle.meant_lines.specs.Opening.{Opened}
use Rattle.meant_lines.proofs.Leaving.{wordless_names_are_carried}
use Rattle.meant_lines.proofs.Opening.{declarations_are_carried}
use Rattle.meant_programs.specs.Mains.{grounded, FoundMain, MainIsFound}
use Rattle.meant_programs.specs.Mains.{IsFixed}
use Rattle.meant_programs.proofs.MainPlaces.{all_own}
use Rattle.meant_programs.proofs.Globals.{IsGlobal}
use Rattle.meant_programs.proofs.Globals.{globals_own}
use Rattle.meant_programs.proofs.Walk.{FoundFrom, GoesOn, find_main}

-- ---- names

fixed_here : (m : Meaning) → IsGlobal m → IsFixed m
fixed_here (entries.Constant type value) is = tt
fixed_here (entries.Array array.Table type size range) is = tt
fixed_here (entries.Array array.Variable type size range) is = absurd is
fixed_here (entries.Array array.Value type size range) is = absurd is
fixed_here (entries.Procedure number) is = tt
fixed_here (entries.Scalar kind type range) is = absurd is
fixed_here (entries.Channel type) is = absurd is
fixed_here (entries.Channels type size) is = absurd is

pub all_fixed : (es : List Entry) → AllByRecursion (λ e. IsGlobal e.meaning) es → AllByRecursion (λ e. IsFixed e.meaning) es
all_fixed [] all = tt
all_fixed (e ∷ es) all = (fixed_here e.meaning all.0, all_fixed es all.1)

-- the code of nothing changes nothing
nothing_leads : (w : Footing) (h k : pieces.Held) → LeadOn w [] h k → h ≡ k
nothing_leads w h k done = refl

module _ (footing : Footing) (words : ℕ) (whole : List Piece) (m : Memory) where
  -- what memory carries of the names before an item, where the frame has no word
  pub record Carried (f : Frame) (es : List Entry) (env : Environment) : Type 0 where
    pub carries : Carries (grounded footing words whole f.homes) f.top es env m
    pub long : length f.homes ≡ length es
    pub top : f.top ≡ first_word

  abbrev held : pieces.Held
  held = record { stack = of_empty (pos 0); memory = m }

  -- a procedure has nothing in memory
  pub procedure_carried : (f : Frame) (es : List Entry) (env : Environment) (name : List ℕ) (n : ℕ) → IsTrueIn es env
      → Carried f es env
      → Carried (with_home Nowhere f) (add name (entries.Procedure n) es) (bind name Nothing env)
  procedure_carried f es env name n truth before = record {
    carries = wordless_names_are_carried (grounded footing words whole f.homes) f.top es env name
        (entries.Procedure n) Nothing Nowhere m truth.meets before.long (omega arith) (omega arith) tt before.carries;
    long = let added = length-append f.homes (Nowhere ∷ []) in let same = before.long in omega (arith, added, same);
    top = before.top;
  }

  -- a constant or a table too
  pub constant_carried : (f : Frame) (es : List Entry) (env inner : Environment) (c : lines.Constant) → IsTrueIn es env
      → DeclarationHolds es (lines.Constants c) → declaration_has_words (lines.Constants c) ≡ true
      → declare (lines.Constants c) env ≡ Some inner → Carried f es env
      → Carried (declared es (lines.Constants c) f) (add_declaration (lines.Constants c) es) inner
  constant_carried f es env inner c holds known has_words declares before =
      let d = lines.Constants c in
      let opened : Opened (grounded footing words whole f.homes) f es d inner held =
      declarations_are_carried (grounded footing words whole f.homes) f es env inner d held holds
      (known_declaration es d known) has_words declares before.long tt before.carries in
      record {
        carries = subst (λ (h : pieces.Held). Carries (grounded footing words whole (declared es d f).homes)
            (declared es d f).top (add_declaration d es) inner h.memory)
            (sym (nothing_leads footing held opened.after opened.leads)) opened.carries;
        long = let added = length-append f.homes (home_for es c.value_type c.value ∷ []) in let same = before.long in
            omega (arith, added, same);
        top = before.top;
      }

  goes_on : GoesOn Carried
  goes_on = record { constants = constant_carried; procedures = procedure_carried }

-- ---- main

module _ (footing : Footing) (words : ℕ) (whole : List Piece) (m : Memory)
    (Holds : Frame → List Entry → Environment → Type 0) (on : GoesOn Holds)
    (carried : (f : Frame) (es : List Entry) (env : Environment) → Holds f es env
    → Carried footing words whole m f es env)
  where
    -- main, where what holds before it says what memory carries
    abbrev pub main_found : (item : ProgramItem) (rest : List ProgramItem) (none : BreaksNoRule (item ∷ rest))
        (code : Code) → FoundFrom (item ∷ rest) none Holds on item rest [] code
        → FoundMain (item ∷ rest) footing words whole m code
    main_found item rest none code found =
        let known = found.main.outside.known in
        let c = carried found.main.frame known.entries found.main.names found.holds in
        record {
          main = found.main;
          runs = found.runs;
          holds = found.truth.holds;
          own = subst (λ (T : Type 0). T) (all_own (shape known.entries)) (globals_own known.entries found.truth.global);
          fixed = all_fixed known.entries found.truth.global;
          blocks = found.truth.blocks;
          counted = found.truth.counted;
          long = c.long;
          top = c.top;
          carries = c.carries;
        }

pub main_is_found : MainIsFound
main_is_found [] code footing words whole m none sequential has_words is carries = absurd sequential
main_is_found (item ∷ rest) code footing words whole m none sequential has_words is carries =
    let Holds = Carried footing words whole m in
    let on = goes_on footing words whole m in
    main_found footing words whole m Holds on (λ f es env c. c) item rest none code
    (find_main item rest none Holds on code sequential has_words is
    (record { carries = carries; long = refl; top = refl }))
