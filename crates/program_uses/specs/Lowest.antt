-- Which of the rules that are broken is reported.
use Rattle.std.specs.Prelude.{ℕ, ◌≤◌, min, Bool, if◌then◌else◌, Option, Some, None, IfSome, IsSomeAnd}

-- If a rule is broken, the number of one is reported, and none that is broken has a lower one.
pub record IsLowest (Breaks : ℕ → Type 0) (told : Option ℕ) : Type 0 where
  pub broken : IfSome told Breaks
  pub least : (n : ℕ) → Breaks n → IsSomeAnd told (λ m. m ≤ n)

abbrev pub lower : Option ℕ → Option ℕ → Option ℕ
lower None b = b
lower (Some m) None = Some m
lower (Some m) (Some n) = Some (min m n)

abbrev pub told_unless : Bool → ℕ → Option ℕ
told_unless holds number = if holds then None else Some number
