-- The outline of what is in scope: the names and what they denote, but no ranges, values and sizes. What a process
-- changes depends on it alone, so it can be found in one scope and used in another one with the same outline.
use Rattle.std.specs.Prelude.{◌≡◌, List, [], ◌∷◌, None}
use Rattle.word_arithmetic.specs.Range.{full}
use Rattle.occam_parser.specs.Lines.{Declaration, Replicator}
use Rattle.occam_parser.specs.Blocks.{Process, Body}
use Rattle.scalar_ranges.specs.Entries.{Meaning, Constant, Scalar, Array, Channel, Channels, Procedure, Entry}
use Rattle.program_uses.specs.Changes.{changed_by, changed_by_body}
use Rattle.program_uses.specs.Declaring.{add_declaration, add_outline}
use Rattle.program_uses.specs.Signatures.{Parameter}

-- what a meaning says besides ranges, values and sizes
abbrev pub flat : Meaning → Meaning
flat (Constant type value) = Constant type None
flat (Scalar kind type range) = Scalar kind type full
flat (Array kind type size range) = Array kind type None full
flat (Channel type) = Channel type
flat (Channels type size) = Channels type None
flat (Procedure number) = Procedure number

abbrev pub flat_entry : Entry → Entry
flat_entry e = record { name = e.name; meaning = flat e.meaning }

abbrev pub outline : List Entry → List Entry
outline [] = []
outline (e ∷ es) = flat_entry e ∷ outline es

-- ---- laws

-- A process changes the same variables in scopes with the same outline, and so does the body of a replicator.
pub record ChangesFollowOutlines : Type 0 where
  pub processes : (signatures : List (List Parameter)) (p : Process) (es fs : List Entry) → outline es ≡ outline fs
      → changed_by signatures es p ≡ changed_by signatures fs p
  pub bodies : (signatures : List (List Parameter)) (r : Replicator) (b : Body) (es fs : List Entry)
      → outline es ≡ outline fs → changed_by_body signatures es r b ≡ changed_by_body signatures fs r b

-- Scopes with the same outline have one after a declaration too, also if one of them then knows no more of a table than
-- its type.
abbrev pub DeclaringKeepsOutlines : Type 0
DeclaringKeepsOutlines = (d : Declaration) (es fs : List Entry) → outline es ≡ outline fs
    → outline (add_declaration d es) ≡ outline (add_outline d fs)
