-- What is read of a file after as many bytes as a magic has.
use Rattle.std.proofs.Common.{◌≡◌, ℕ, zero, suc, ◌+◌, ◌-◌, ◌<◌, ◌≤◌, Bool, true, false, if◌then◌else◌, List, [], ◌∷◌, ◌++◌}
use Rattle.std.proofs.Common.{length, take, Option, Some, None, IfSome, refl, sym, ap, ap₂, ◌∙◌, subst, arith, append-nil}
use Rattle.std.specs.Io.KnownBytes.{Consumes, IsAtEnd}
use Rattle.std.proofs.Common.{inl, inr}
use Rattle.std.proofs.lemmas.Bool.{cases_lt}
use Rattle.std.proofs.lemmas.List.{take_all}
use lib.Seq.{take-append-add}
use Rattle.occam_layout.specs.declared.layout.TheConstants.{MAX_BYTES}
use Rattle.file_access.specs.declared.extent.Extent.TheVariants.{Module, Either}
use Rattle.file_access.specs.declared.extent.TheConstants.{MAGIC_BYTES}
use Rattle.file_access.specs.Extents.{begins_as_module, beginning_of, has_magic, module_beginning, module_rest}
use Rattle.file_access.specs.Extents.{rest_of_source}

-- ---- a front with as many bytes as a magic, or that nothing follows

letters_tell : (front rest : List ℕ) → (length front < MAGIC_BYTES → rest ≡ [])
    → begins_as_module (front ++ rest) ≡ begins_as_module front
letters_tell [] rest all = ap begins_as_module (all (omega arith))
letters_tell (a ∷ []) rest all = ap (λ (xs : List ℕ). begins_as_module (a ∷ xs)) (all (omega arith))
letters_tell (a ∷ b ∷ []) rest all = ap (λ (xs : List ℕ). begins_as_module (a ∷ b ∷ xs)) (all (omega arith))
letters_tell (a ∷ b ∷ c ∷ front) rest all = refl

magic_tells : (front rest : List ℕ) → (length front < MAGIC_BYTES → rest ≡ [])
    → has_magic (front ++ rest) ≡ has_magic front
magic_tells [] rest all = ap has_magic (all (omega arith))
magic_tells (a ∷ []) rest all = ap (λ (xs : List ℕ). has_magic (a ∷ xs)) (all (omega arith))
magic_tells (a ∷ b ∷ []) rest all = ap (λ (xs : List ℕ). has_magic (a ∷ b ∷ xs)) (all (omega arith))
magic_tells (a ∷ b ∷ c ∷ []) rest all = ap (λ (xs : List ℕ). has_magic (a ∷ b ∷ c ∷ xs)) (all (omega arith))
magic_tells (a ∷ b ∷ c ∷ d ∷ front) rest all = refl

short_source : (n : ℕ) (front : List ℕ) → length front < MAGIC_BYTES
    → front ++ take n [] ≡ take (n + MAGIC_BYTES) (front ++ [])
short_source n front less =
    ap (λ (xs : List ℕ). front ++ xs) (take_all n [] (omega arith))
    ∙ sym (take_all (n + MAGIC_BYTES) (front ++ []) (subst (λ (xs : List ℕ). length xs ≤ n + MAGIC_BYTES)
    (sym (append-nil front)) (omega (arith, less))))

-- of a source the rest of what is read follows the front
source_continues : (n : ℕ) (front rest : List ℕ) → length front ≤ MAGIC_BYTES
    → (length front < MAGIC_BYTES → rest ≡ [])
    → front ++ take n rest ≡ take (n + MAGIC_BYTES) (front ++ rest)
source_continues n front rest most all = elim (cases_lt (length front) MAGIC_BYTES) [
  | inl less ↦ subst (λ (xs : List ℕ). front ++ take n xs ≡ take (n + MAGIC_BYTES) (front ++ xs)) (sym (all less))
      (short_source n front less)
  | inr full ↦ sym (take-append-add front rest n)
      ∙ ap (λ (k : ℕ). take k (front ++ rest)) (omega (arith, most, full))
]

front_is_taken : (front rest : List ℕ) → length front ≤ MAGIC_BYTES → (length front < MAGIC_BYTES → rest ≡ [])
    → take MAGIC_BYTES (front ++ rest) ≡ front
front_is_taken [] rest most all = ap (take 4) (all (omega arith))
front_is_taken (a ∷ []) rest most all = ap (λ (xs : List ℕ). take 4 (a ∷ xs)) (all (omega arith))
front_is_taken (a ∷ b ∷ []) rest most all = ap (λ (xs : List ℕ). take 4 (a ∷ b ∷ xs)) (all (omega arith))
front_is_taken (a ∷ b ∷ c ∷ []) rest most all = ap (λ (xs : List ℕ). take 4 (a ∷ b ∷ c ∷ xs)) (all (omega arith))
front_is_taken (a ∷ b ∷ c ∷ d ∷ []) rest most all = refl
front_is_taken (a ∷ b ∷ c ∷ d ∷ e ∷ front) rest most all = absurd (omega arith)

whole_module : (front rest : List ℕ) → length front ≤ MAGIC_BYTES → (length front < MAGIC_BYTES → rest ≡ [])
    → module_rest front rest ≡ module_beginning (front ++ rest)
whole_module front rest most all = on (has_magic front) refl
  where
    on : (b : Bool) → has_magic front ≡ b → module_rest front rest ≡ module_beginning (front ++ rest)
    on true has =
        ap (λ (b : Bool). if b then front ++ rest else front) has
        ∙ sym (ap (λ (b : Bool). if b then front ++ rest else take MAGIC_BYTES (front ++ rest))
        (magic_tells front rest all ∙ has))
    on false none =
        ap (λ (b : Bool). if b then front ++ rest else front) none ∙ sym (front_is_taken front rest most all)
        ∙ sym (ap (λ (b : Bool). if b then front ++ rest else take MAGIC_BYTES (front ++ rest))
        (magic_tells front rest all ∙ none))

-- ---- what is known of the file

module _ (front : List ℕ) (most : length front ≤ MAGIC_BYTES) (items : List ℕ) where
  pub module_is_read : (old new : Option (List ℕ)) → Consumes old new front
      → (length front < MAGIC_BYTES → IsAtEnd new) → IfSome new (λ rest. items ≡ module_rest front rest)
      → IfSome old (λ all. items ≡ beginning_of Module all)
  module_is_read None new takes end is = tt
  module_is_read (Some all) None takes end is = absurd takes
  module_is_read (Some all) (Some rest) takes end is =
      is ∙ whole_module front rest most end ∙ ap module_beginning (sym takes)

  pub either_module : begins_as_module front ≡ true → (old new : Option (List ℕ)) → Consumes old new front
      → (length front < MAGIC_BYTES → IsAtEnd new) → IfSome new (λ rest. items ≡ module_rest front rest)
      → IfSome old (λ all. items ≡ beginning_of Either all)
  either_module begins None new takes end is = tt
  either_module begins (Some all) None takes end is = absurd takes
  either_module begins (Some all) (Some rest) takes end is =
      is ∙ whole_module front rest most end ∙ ap module_beginning (sym takes)
      ∙ sym (ap (λ (b : Bool). if b then module_beginning all else take (MAX_BYTES + 1) all)
      (ap begins_as_module takes ∙ letters_tell front rest end ∙ begins))

  pub either_source : begins_as_module front ≡ false → (old new : Option (List ℕ)) → Consumes old new front
      → (length front < MAGIC_BYTES → IsAtEnd new) → IfSome new (λ rest. items ≡ front ++ rest_of_source rest)
      → IfSome old (λ all. items ≡ beginning_of Either all)
  either_source begins None new takes end is = tt
  either_source begins (Some all) None takes end is = absurd takes
  either_source begins (Some all) (Some rest) takes end is =
      is ∙ source_continues (MAX_BYTES + 1 - MAGIC_BYTES) front rest most end
      ∙ ap (take (MAX_BYTES + 1)) (sym takes)
      ∙ sym (ap (λ (b : Bool). if b then module_beginning all else take (MAX_BYTES + 1) all)
      (ap begins_as_module takes ∙ letters_tell front rest end ∙ begins))
