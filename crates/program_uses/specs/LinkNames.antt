-- The names of main's links: `in0` to `in3` are received from, and `out0` to `out3` are sent to.
use Rattle.std.specs.Prelude.{ℕ, nat_eq, nat_le, Bool, ◌&&◌, List, [], ◌∷◌, if◌then◌else◌, Option, Some, None}
use Rattle.program_uses.specs.declared.uses.Direction.{Direction}
use Rattle.program_uses.specs.declared.uses.Direction.TheVariants as direction

abbrev pub is_link : ℕ → Bool
is_link digit = nat_le 48 digit && nat_le digit 51

abbrev pub is_in : ℕ → ℕ → ℕ → Bool
is_in a b digit = nat_eq a 105 && (nat_eq b 110 && is_link digit)

abbrev pub is_out : ℕ → ℕ → ℕ → ℕ → Bool
is_out a b c digit = nat_eq a 111 && (nat_eq b 117 && (nat_eq c 116 && is_link digit))

abbrev pub link_way : List ℕ → Option Direction
link_way (a ∷ b ∷ digit ∷ []) = if is_in a b digit then Some direction.Input else None
link_way (a ∷ b ∷ c ∷ digit ∷ []) = if is_out a b c digit then Some direction.Output else None
link_way name = None
