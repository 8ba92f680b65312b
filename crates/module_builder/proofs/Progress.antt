-- The lengths on the way to the least layout: below each layout that fits, and below what they make the items take.
use Rattle.std.proofs.Common.{◌≡◌, ℕ, ◌+◌, ◌<◌, ◌≤◌, ◌⊎◌, List, [], ◌∷◌, length, replicate, sum, refl, ap, sym}
use Rattle.std.proofs.Common.{◌∙◌, subst, arith, inl, inr}
use Rattle.std.proofs.Common.{map}
use Rattle.std.proofs.lemmas.Bool.{cases_lt}
use Rattle.std.proofs.lemmas.List.{length-map, length-replicate}
use Rattle.std.proofs.lemmas.List.Folds.{sum_by-replicate}
use Rattle.std.proofs.lemmas.List.Elements.{length_all_zip}
use Rattle.std.proofs.lemmas.List.Sums.{sum_by-cons}
use Rattle.module_format.specs.declared.limits.TheConstants.{MAX_LONG_CODE}
use Rattle.module_builder.specs.Drafts.{Code}
use Rattle.module_builder.specs.Layouts.{needed, NowhereLonger, Fits, IsLeast}
use Rattle.module_builder.specs.declared.plan.Reference.{Reference}
use Rattle.module_builder.specs.declared.plan.Plan.{Plan}
use Rattle.module_builder.specs.Plans.{IsPlan, planned}
use Rattle.module_builder.specs.References.{fixed_len, reference_count, references_from, expanded, reference_bytes}
use Rattle.module_builder.proofs.Growing.{IsPositive, bytes_rise, bytes_positive, length-bytes_from}
use Rattle.module_builder.proofs.References.{sum-expand, count_references, needed_expands, ones_below, ones_positive}

pub record IsOnTheWay (code : Code) (lengths : List ℕ) : Type 0 where
  pub growing : NowhereLonger lengths (needed code lengths)
  pub positive : IsPositive lengths
  pub least : (others : List ℕ) → Fits code others → NowhereLonger lengths others

-- ---- sums

pub same_or_less : (a b : List ℕ) → NowhereLonger a b → (a ≡ b) ⊎ (sum a < sum b)
same_or_less [] [] h = inl refl
same_or_less [] (y ∷ b) h = absurd h
same_or_less (x ∷ a) [] h = absurd h
same_or_less (x ∷ a) (y ∷ b) h =
    let first : sum (x ∷ a) ≡ x + sum a = sum_by-cons (λ (n : ℕ). n) x a in
    let second : sum (y ∷ b) ≡ y + sum b = sum_by-cons (λ (n : ℕ). n) y b in
    elim (same_or_less a b h.1) [
      | inl same ↦
          elim (cases_lt x y) [
            | inl lt ↦ inr (omega (arith, first, second, ap sum same))
            | inr le ↦
                let here : x ≡ y = omega (arith, h.0) in
                inl (cc)
          ]
      | inr less ↦ inr (omega (arith, first, second, h.0, less))
    ]

pub sum_rises : (a b : List ℕ) → NowhereLonger a b → sum a ≤ sum b
sum_rises [] [] h = omega arith
sum_rises [] (y ∷ b) h = absurd h
sum_rises (x ∷ a) [] h = absurd h
sum_rises (x ∷ a) (y ∷ b) h =
    omega (arith, h.0, sum_rises a b h.1, sum_by-cons (λ (n : ℕ). n) x a, sum_by-cons (λ (n : ℕ). n) y b)

-- ---- the start

-- references take one byte
abbrev pub start : Code → List ℕ
start code = expanded code.items (replicate (length (references_from 0 code.items)) 1)

start_below : (code : Code) (others : List ℕ) → Fits code others → NowhereLonger (start code) others
start_below code others fits =
    subst (λ (xs : List ℕ). NowhereLonger (start code) xs) (sym fits.exact) (ones_below code others 0 code.items)

pub on_the_way_start : (code : Code) → IsOnTheWay code (start code)
on_the_way_start code = record {
  growing = ones_below code (start code) 0 code.items;
  positive = ones_positive 0 code.items;
  least = start_below code;
}

-- what cannot grow, and a byte for each reference
pub start_sum : (code : Code)
    → sum (start code) ≡ sum (map fixed_len code.items) + sum (map reference_count code.items)
start_sum code =
    let count = length (references_from 0 code.items) in
    let counted : count ≡ sum (map reference_count code.items) = count_references 0 code.items in
    let same : length (map fixed_len code.items) ≡ length (map reference_count code.items) =
    length-map code.items fixed_len ∙ sym (length-map code.items reference_count) in
    omega (
      arith,
      counted,
      sum-expand (map fixed_len code.items) (map reference_count code.items) (replicate count 1) same
          (length-replicate count 1 ∙ counted),
      sum_by-replicate (λ (n : ℕ). n) count 1,
    )

-- ---- a step

pub on_the_way_more : (code : Code) (lengths : List ℕ) → IsOnTheWay code lengths → IsOnTheWay code (needed code lengths)
on_the_way_more code lengths way = record {
  growing =
      bytes_rise code lengths (needed code lengths) way.growing way.positive
      (bytes_positive code lengths 0 code.items) 0
      code.items;
  positive = bytes_positive code lengths 0 code.items;
  least = λ (others : List ℕ) (fits : Fits code others).
      subst (λ (xs : List ℕ). NowhereLonger (needed code lengths) xs) (sym fits.exact)
      (bytes_rise code lengths others (way.least others fits) way.positive
      (subst IsPositive (sym fits.exact) (bytes_positive code others 0 code.items)) 0 code.items);
}

-- the sum does not shrink
pub needed_sum : (code : Code) (lengths : List ℕ) → IsOnTheWay code lengths → sum lengths ≤ sum (needed code lengths)
needed_sum code lengths way = sum_rises lengths (needed code lengths) way.growing

-- ---- the two ends

pub least_end : (code : Code) (lengths : List ℕ)
    → IsOnTheWay code lengths
    → lengths ≡ needed code lengths
    → sum lengths ≤ MAX_LONG_CODE
    → IsLeast code lengths
least_end code lengths way same short = record { fits = record { exact = same; short = short }; least = way.least }

pub none_fits : (code : Code) (lengths : List ℕ)
    → IsOnTheWay code lengths
    → MAX_LONG_CODE < sum lengths
    → (others : List ℕ)
    → ¬ Fits code others
none_fits code lengths way long others fits =
    absurd (omega (arith, fits.short, sum_rises lengths others (way.least others fits)))

-- what cannot grow is too long, or the references are too many
pub none_fits_plan : (code : Code)
    → MAX_LONG_CODE < sum (map fixed_len code.items) + sum (map reference_count code.items)
    → (others : List ℕ)
    → ¬ Fits code others
none_fits_plan code long = none_fits code (start code) (on_the_way_start code) (omega (arith, start_sum code))

-- there is a length for each item
pub on_the_way_count : (code : Code) (lengths : List ℕ) → IsOnTheWay code lengths → length lengths ≡ length code.items
on_the_way_count code lengths way =
    length_all_zip (λ (x y : ℕ). x ≤ y) lengths (needed code lengths) way.growing
    ∙ length-bytes_from code lengths 0 code.items

-- ---- by a plan

pub first_is : (code : Code) (plan : Plan) (sizes : List ℕ) (count : ℕ)
    → IsPlan code plan
    → sizes ≡ replicate count 1
    → count ≡ length plan.references.items
    → planned plan sizes ≡ start code
first_is code plan sizes count is ones counted =
    rw (ones, counted, is.fixed, is.counts, is.references) refl

-- where references take what they need, all items do
pub next_is : (code : Code) (plan : Plan) (before sizes : List ℕ) (references : List Reference)
    → IsPlan code plan
    → references ≡ plan.references.items
    → sizes ≡ map (reference_bytes code before) references
    → planned plan sizes ≡ needed code before
next_is code plan before sizes references is same need =
    rw (need, same, is.fixed, is.counts, is.references) (sym (needed_expands code before 0 code.items))

-- lengths whose sum does not grow are at their end
pub end_is : (code : Code) (before next : List ℕ)
    → IsOnTheWay code before
    → next ≡ needed code before
    → sum next ≡ sum before
    → before ≡ needed code before
end_is code before next way is same =
    elim (same_or_less before (needed code before) way.growing) [
      | inl equal ↦ equal
      | inr less ↦ absurd (omega (arith, ap sum is))
    ]
