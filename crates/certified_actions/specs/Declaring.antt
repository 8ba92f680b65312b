-- What declarations leave known: a scalar is 0, the words of an array are any numbers, and of other names what was
-- known.
use Rattle.std.specs.Prelude.{◌≡◌, ℕ, ◌<◌, ◌≤◌, true, List, length, Some}
use Rattle.module_format.specs.declared.limits.TheConstants.{MAX_DATA_WORDS}
use Rattle.occam_parser.specs.Lines.{Declaration, Constants, Variables, Channels}
use Rattle.occam_parser.specs.Words.{declaration_has_words}
use Rattle.scalar_ranges.specs.declared.scope.ArrayKind.TheVariants as array
use Rattle.scalar_ranges.specs.Entries.{Meaning, Array, Entry}
use Rattle.program_uses.specs.Declaring.{constant_meaning, add_declaration}
use Rattle.usage_checks.specs.Holding.{DeclarationHolds}
use Rattle.placed_code.specs.TablesInMemory.{ReadsTable}
use Rattle.line_pieces.specs.Declarations.{Frame, declared, declaration_code, home_for}
use Rattle.line_pieces.specs.Homes.{Home, Table}
use Rattle.certified_lines.specs.StraightRules.{Setting, Told}
use Rattle.certified_lines.specs.Instructions.{MayRead, MayWrite}
use Rattle.certified_lines.specs.Scopes.{Scene, HasTable, HoldsScope, IsScope}
use Rattle.certified_lines.specs.Telling.{AreAllowed}
use Rattle.certified_actions.specs.Keeping.{FallsTo}

-- the same scene, with the homes of a frame
abbrev pub on_frame : Frame → Scene → Scene
on_frame f g = record g { homes = f.homes }

-- Words from the one to before the other are those of a frame, and may be read and written.
pub record MayUse (g : Setting) (first end : ℕ) : Type 0 where
  pub few : end ≤ MAX_DATA_WORDS
  pub reads : (k : ℕ) → first ≤ k → k < end → MayRead g k
  pub writes : (k : ℕ) → first ≤ k → k < end → MayWrite g k

-- A table is in the constants, if one of the pieces reads it.
abbrev pub HasItems : Scene → Home → Meaning → Type 0
HasItems g (Table values) (Array array.Table type (Some size) range) =
    ReadsTable g.pieces values → HasTable g.setting values range
HasItems g h m = Unit {0}

-- The words of variables may be used, and those of channels, which no code names, are words of a frame.
abbrev pub HasRoomFor : Scene → List Entry → Declaration → (first end : ℕ) → Type 0
HasRoomFor g es (Constants c) first end =
    HasItems g (home_for es c.value_type c.value) (constant_meaning es c.value_type c.value)
HasRoomFor g es (Variables n) first end = MayUse g.setting first end
HasRoomFor g es (Channels n) first end = end ≤ MAX_DATA_WORDS

-- The code of a declaration that breaks no rule leads to the scope with its names.
abbrev pub DeclarationsFall : Type 0
DeclarationsFall = (g : Scene) (f : Frame) (es : List Entry) (d : Declaration) (before : Told)
    → length f.homes ≡ length es → DeclarationHolds es d → declaration_has_words d ≡ true
    → HasRoomFor g es d f.top (declared es d f).top → IsScope (on_frame f g) f.top es
    → AreAllowed g (declaration_code es d f.top) → HoldsScope (on_frame f g) es before.frame
    → FallsTo (on_frame (declared es d f) g) (declared es d f).top (add_declaration d es)
    (declaration_code es d f.top) before
