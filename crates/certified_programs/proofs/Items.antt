-- Main is found, with the scope before it: memory carries its names, and it says nothing of words.
use Rattle.std.proofs.Common.{◌≡◌, ℕ, true, List, [], ◌∷◌, Some, refl, ap, arith, ◌∙◌, slice_get}
use Rattle.machine_state.specs.Memory.{Memory}
use Rattle.occam_parser.specs.declared.tree.ValueType.{ValueType}
use Rattle.occam_parser.specs.Lines as lines
use Rattle.occam_parser.specs.Lines.{Value}
use Rattle.occam_parser.specs.Blocks.{ProgramItem}
use Rattle.occam_parser.specs.Words.{declaration_has_words}
use Rattle.scalar_ranges.specs.Entries as entries
use Rattle.scalar_ranges.specs.Entries.{Meaning, Entry}
use Rattle.scalar_ranges.specs.Environments.{Environment}
use Rattle.program_uses.specs.Declaring.{add, add_declaration}
use Rattle.usage_checks.specs.Holding.{DeclarationHolds}
use Rattle.usage_checks.specs.TypedRanges.{AreInTypes}
use Rattle.usage_checks.proofs.TypedMoves.{declared_typed}
use Rattle.code_pieces.specs.Pieces.{Piece}
use Rattle.code_pieces.proofs.AllOfPieces.{all_both}
use Rattle.line_pieces.specs.Homes.{Nowhere}
use Rattle.line_pieces.specs.Declarations.{Frame, declared, with_home, home_for}
use Rattle.code_generator.specs.Programs.{no_frame}
use Rattle.placed_code.specs.StraightPieces.{Footing}
use Rattle.meant_programs.proofs.Globals.{last_found}
use Rattle.meant_programs.proofs.Items.{Carried, constant_carried, main_found, procedure_carried}
use Rattle.meant_programs.proofs.Walk.{FoundFrom, GoesOn, find_main}
use Rattle.valid_code.specs.Numbers.{HasNumbers, HaveNumbers}
use Rattle.valid_code.proofs.MovesOfNumbers.{moves_keep_numbers}
use Rattle.certified_lines.specs.Scopes.{Scene}
use Rattle.certified_scopes.specs.Kept.{at_homes}
use Rattle.certified_scopes.specs.Settled.{AreOrdered, HasNoWord, IsFounded, IsOrdered}
use Rattle.certified_scopes.proofs.Kept.{declared_names_are_held, new_names_are_held}
use Rattle.certified_scopes.proofs.Settled.{beginnings_are_settled, declarations_are_settled}
use Rattle.certified_scopes.proofs.Settled.{wordless_names_are_settled}
use Rattle.certified_programs.specs.Mains.{MainIsSettled, SaysNothing}

-- ---- ranges

-- a range that has numbers is in order
ordered_here : (m : Meaning) → HasNumbers m → IsOrdered m
ordered_here (entries.Scalar kind type range) has = has.ordered
ordered_here (entries.Array kind type size range) has = has.ordered
ordered_here (entries.Constant type value) has = tt
ordered_here (entries.Channel type) has = tt
ordered_here (entries.Channels type size) has = tt
ordered_here (entries.Procedure number) has = tt

all_ordered : (es : List Entry) → HaveNumbers es → AreOrdered es
all_ordered [] have = tt
all_ordered (e ∷ es) have = (ordered_here e.meaning have.0, all_ordered es have.1)

-- ---- what scopes say

-- a scope that says nothing of words, whose ranges are of words and within their types
record IsQuiet (g : Scene) (f : Frame) (es : List Entry) : Type 0 where
  says : SaysNothing g f es
  typed : AreInTypes es
  numbers : HaveNumbers es

constant_wordless : (es : List Entry) (type : ValueType) (value : Value) → HasNoWord (home_for es type value)
constant_wordless es type (lines.Scalar e) = tt
constant_wordless es type (lines.Table size items) = tt
constant_wordless es type (lines.Bytes size bytes) = tt

module _ (g : Scene) (founded : IsFounded g) where
  none_quiet : IsQuiet g no_frame []
  none_quiet = record {
    says = record {
      settled = beginnings_are_settled g no_frame refl;
      holds = λ facts. tt;
      wordless = tt;
      outer = refl;
    };
    typed = tt;
    numbers = tt;
  }

  constant_quiet : (f : Frame) (es : List Entry) (c : lines.Constant) → DeclarationHolds es (lines.Constants c)
      → declaration_has_words (lines.Constants c) ≡ true → IsQuiet g f es
      → IsQuiet g (declared es (lines.Constants c) f) (add_declaration (lines.Constants c) es)
  constant_quiet f es c holds words quiet =
      let d = lines.Constants c in
      let settled = quiet.says.settled in
      let typed = declared_typed d es words quiet.typed in
      let numbers = moves_keep_numbers.declaring d es words quiet.numbers in
      record {
        says = record {
          settled = declarations_are_settled g f es d founded holds typed
              (all_ordered (add_declaration d es) numbers) tt settled;
          holds = λ facts.
              declared_names_are_held g f es d settled.end facts facts settled.long settled.scope settled.under tt
              (λ k less whole. refl) tt (quiet.says.holds facts);
          wordless = all_both HasNoWord f.homes (home_for es c.value_type c.value ∷ []) quiet.says.wordless
              (constant_wordless es c.value_type c.value, tt);
          outer = quiet.says.outer;
        };
        typed = typed;
        numbers = numbers;
      }

  procedure_quiet : (f : Frame) (es : List Entry) (name : List ℕ) (n : ℕ) → IsQuiet g f es
      → IsQuiet g (with_home Nowhere f) (add name (entries.Procedure n) es)
  procedure_quiet f es name n quiet = record {
    says = record {
      settled = wordless_names_are_settled g f es name (entries.Procedure n) Nowhere tt (λ top. tt) quiet.says.settled;
      holds = λ facts.
          new_names_are_held (at_homes f.homes g) es name (entries.Procedure n) Nowhere facts quiet.says.settled.long tt
          (quiet.says.holds facts);
      wordless = all_both HasNoWord f.homes (Nowhere ∷ []) quiet.says.wordless (tt, tt);
      outer = quiet.says.outer;
    };
    typed = (tt, quiet.typed);
    numbers = (tt, quiet.numbers);
  }

-- ---- what memory carries

module _ (footing : Footing) (words : ℕ) (whole : List Piece) (m : Memory) (g : Scene) (founded : IsFounded g) where
  -- memory carries the names, and their scope says nothing of words
  record IsReady (f : Frame) (es : List Entry) (env : Environment) : Type 0 where
    carried : Carried footing words whole m f es env
    quiet : IsQuiet g f es

  goes_on : GoesOn IsReady
  goes_on = record {
    constants = λ f es env inner c truth holds has_words declares ready. record {
      carried = constant_carried footing words whole m f es env inner c truth holds has_words declares ready.carried;
      quiet = constant_quiet g founded f es c holds has_words ready.quiet;
    };
    procedures = λ f es env name n truth ready. record {
      carried = procedure_carried footing words whole m f es env name n truth ready.carried;
      quiet = procedure_quiet g founded f es name n ready.quiet;
    };
  }

pub main_is_settled : MainIsSettled
main_is_settled [] code footing words whole m g founded none sequential has_words is carries = absurd sequential
main_is_settled (item ∷ rest) code footing words whole m g founded none sequential has_words is carries =
    let items = item ∷ rest in
    let Ready = IsReady footing words whole m g founded in
    let on = goes_on footing words whole m g founded in
    let found : FoundFrom items none Ready on item rest [] code =
    find_main item rest none Ready on code sequential has_words is
    (record { carried = record { carries = carries; long = refl; top = refl }; quiet = none_quiet g founded }) in
    record {
      found = main_found footing words whole m Ready on (λ f es env ready. ready.carried) item rest none code found;
      last = ap (slice_get items) (omega arith) ∙ last_found item rest
          ∙ ap (λ (x : ProgramItem). Some x) found.last;
      scope = found.holds.quiet.says;
    }
