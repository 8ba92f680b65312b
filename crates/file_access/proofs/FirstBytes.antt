-- What is read from the front of a file.
use Rattle.std.proofs.Common.{◌≡◌, ℕ, List, [], ◌++◌, take, Option, Some, None, IfSome, ap, ◌∙◌}
use Rattle.std.specs.Option.{option_map}

-- all that a reader of so many bytes gives
pub front_is_read : (known : Option (List ℕ)) (n : ℕ) (old new : List ℕ) → old ≡ []
    → IfSome (option_map (take n) known) (λ xs. new ≡ old ++ xs) → IfSome known (λ all. new ≡ take n all)
front_is_read None n old new none is = tt
front_is_read (Some all) n old new none is = is ∙ ap (λ (xs : List ℕ). xs ++ take n all) none

-- and what follows bytes that were read before
pub rest_is_read : (known : Option (List ℕ)) (n : ℕ) (old new : List ℕ)
    → IfSome (option_map (take n) known) (λ xs. new ≡ old ++ xs) → IfSome known (λ rest. new ≡ old ++ take n rest)
rest_is_read None n old new is = tt
rest_is_read (Some rest) n old new is = is
