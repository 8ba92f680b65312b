-- When a reader on lists is right.
use Rattle.std.specs.Prelude.{◌≡◌, List, ◌++◌, Some, None}
use Rattle.occam_layout.specs.declared.mark.Mark.TheVariants as mark
use Rattle.occam_parser.specs.Terminals.{Terminal}
use Rattle.occam_parser.specs.Reading.{Reads, behind, operator_at}

-- what is read is written so, and fits
abbrev pub Sound : {A : Type 0} → (A → List Terminal) → (A → Type 0) → Reads A → Type 0
Sound {A} write fits p = (ts : List Terminal) (x : A) (rest : List Terminal) → p ts ≡ Some (x, rest)
    → (ts ≡ write x ++ rest) × fits x

-- nothing that would belong to an expression follows
pub record Ends (rest : List Terminal) : Type 0 where
  pub no_subscript : behind mark.OpenBracket rest ≡ None
  pub no_operator : operator_at rest ≡ None
