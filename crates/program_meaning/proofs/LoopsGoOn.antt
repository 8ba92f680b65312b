-- What the body of a loop leaves, the next turn may begin with.
use Rattle.std.proofs.Common.{◌≡◌, ℕ, suc, ℤ, Bool, true, false, List, [], ◌∷◌, length, inl, inr, refl, sym}
use Rattle.std.proofs.Common.{ap, subst, arith, ◌∙◌, ◌⊎◌}
use Rattle.std.proofs.lemmas.Int.{ints}
use Rattle.word_arithmetic.specs.Range.{Ends, InRange}
use Rattle.occam_parser.specs.declared.tree.ValueType.{ValueType}
use Rattle.occam_parser.specs.declared.tree.ValueType.TheVariants as value_type
use Rattle.scalar_ranges.specs.declared.scope.ScalarKind.{ScalarKind}
use Rattle.scalar_ranges.specs.declared.scope.ScalarKind.TheVariants as kinds
use Rattle.scalar_ranges.specs.Entries.{Meaning, Constant, Scalar, Array, Channel, Channels, Procedure, Entry}
use Rattle.scalar_ranges.specs.Entries.{type_range}
use Rattle.scalar_ranges.specs.Environments.{Held, Nothing, One, Many, Environment, IsHeld, Meets}
use Rattle.scalar_ranges.specs.Moves.{is_one_of, widen, widened, widened_if}
use Rattle.program_meaning.specs.RangesWithin.{RangeWithin, MeaningWithin, EntriesWithin}
use Rattle.program_meaning.specs.TypedValues.{IsOfType, HasType, AreTyped}
use Rattle.program_meaning.specs.Loops.{LoopsGoOn}

widened_long : (ns : List ℕ) (es : List Entry) → length (widen ns es) ≡ length es
widened_long ns [] = refl
widened_long ns (e ∷ es) = ap suc (widened_long ns es)

-- ---- the first turn

one_around : (free : Bool) (m : Meaning) → free ≡ true → MeaningWithin free m (widened m)
one_around free (Scalar kinds.Variable type r) is = inr (refl, refl, inr (is, refl))
one_around free (Scalar kinds.Value type r) is = inl refl
one_around free (Scalar kinds.Reference type r) is = inl refl
one_around free (Scalar kinds.Index type r) is = inl refl
one_around free (Constant type value) is = inl refl
one_around free (Array kind type size r) is = inl refl
one_around free (Channel type) is = inl refl
one_around free (Channels type size) is = inl refl
one_around free (Procedure number) is = inl refl

around_if : (b : Bool) (e : Entry) → MeaningWithin b e.meaning (widened_if b e).meaning
around_if false e = inl refl
around_if true e = one_around true e.meaning refl

name_if : (b : Bool) (e : Entry) → e.name ≡ (widened_if b e).name
name_if false e = refl
name_if true e = refl

around : (ns : List ℕ) (es : List Entry) → EntriesWithin ns es (widen ns es)
around ns [] = tt
around ns (e ∷ es) = (
  name_if (is_one_of ns (length es)) e,
  subst (λ n. MeaningWithin (is_one_of ns n) e.meaning (widened_if (is_one_of ns (length es)) e).meaning)
      (sym (widened_long ns es)) (around_if (is_one_of ns (length es)) e),
  around ns es,
)

-- ---- each further turn

pub of_type_in : (type : ValueType) (v : ℤ) → IsOfType type v → InRange (type_range type) v
of_type_in value_type.Int v h = record { from_lo = omega (arith, ints, h); to_hi = omega (arith, ints, h) }
of_type_in value_type.Byte v h = h

-- a scalar that is one of the type's numbers, as the entry has it that a loop may change
free_holds : (free b : Bool) (e : Entry) (kind k : ScalarKind) (type t : ValueType) (r s : Ends) (v : ℤ)
    → (free ≡ true → b ≡ true) → (widened_if b e).meaning ≡ Scalar k t s → kind ≡ k → type ≡ t → IsOfType type v
    → InRange r v → RangeWithin r s ⊎ ((free ≡ true) × (k ≡ kinds.Variable)) → InRange s v
free_holds free b e kind k type t r s v same is is_kind is_type typed within (inl a) =
    let low = within.from_lo in
    let high = within.to_hi in
    record { from_lo = omega (arith, ints, a.0, low); to_hi = omega (arith, ints, a.1, high) }
free_holds free b e kind k type t r s v same is is_kind is_type typed within (inr a) =
    whole b e (same a.0) (is ∙ (λ i. Scalar (a.1 i) t s))
  where
    widest : (e : Entry) (m : Meaning) → m ≡ e.meaning → widened m ≡ Scalar kinds.Variable t s → InRange s v
    widest e (Scalar kinds.Variable u old) means is =
        let range : type_range u ≡ s = cc in
        let word : u ≡ t = cc in
        subst (λ q. InRange q v) range (of_type_in u v (subst (λ w. IsOfType w v) (is_type ∙ sym word) typed))
    widest e (Scalar kinds.Value u old) means is = absurd (cc is)
    widest e (Scalar kinds.Reference u old) means is = absurd (cc is)
    widest e (Scalar kinds.Index u old) means is = absurd (cc is)
    widest e (Constant u value) means is = absurd (cc is)
    widest e (Array j u size q) means is = absurd (cc is)
    widest e (Channel u) means is = absurd (cc is)
    widest e (Channels u size) means is = absurd (cc is)
    widest e (Procedure number) means is = absurd (cc is)

    whole : (b : Bool) (e : Entry) → b ≡ true → (widened_if b e).meaning ≡ Scalar kinds.Variable t s → InRange s v
    whole false e is_true is = absurd (cc is_true)
    whole true e is_true is = widest e e.meaning refl is

held_again : (free b : Bool) (e : Entry) (m n : Meaning) (h : Held) → (free ≡ true → b ≡ true)
    → (widened_if b e).meaning ≡ n → MeaningWithin free m n → HasType m h → IsHeld m h → IsHeld n h
held_again free b e m n h same is (inl eq) typed held = subst (λ x. IsHeld x h) eq held
held_again free b e (Scalar kind type r) (Scalar k t s) (One v) same is (inr a) typed held =
    free_holds free b e kind k type t r s v same is a.0 a.1 typed held a.2
held_again free b e (Scalar kind type r) (Scalar k t s) Nothing same is (inr a) typed held = absurd held
held_again free b e (Scalar kind type r) (Scalar k t s) (Many vs) same is (inr a) typed held = absurd held
held_again free b e (Scalar kind type r) n h same is (inr a) typed held = absurd a
held_again free b e m n h same is (inr a) typed held = absurd a

again_meets : (ns : List ℕ) (ds es : List Entry) (env : Environment) → EntriesWithin ns ds (widen ns es)
    → AreTyped env ds → Meets env ds → Meets env (widen ns es)
again_meets ns [] [] [] w typed m = tt
again_meets ns [] [] (b ∷ bs) w typed m = absurd m
again_meets ns [] (e ∷ es) env w typed m = absurd w
again_meets ns (d ∷ ds) [] env w typed m = absurd w
again_meets ns (d ∷ ds) (e ∷ es) [] w typed m = absurd m
again_meets ns (d ∷ ds) (e ∷ es) (b ∷ bs) w typed m = (
  m.0 ∙ w.0,
  held_again (is_one_of ns (length (widen ns es))) (is_one_of ns (length es)) e d.meaning
      (widened_if (is_one_of ns (length es)) e).meaning b.held
      (λ is. ap (is_one_of ns) (sym (widened_long ns es)) ∙ is) refl w.1 typed.0 m.1,
  again_meets ns ds es bs w.2 typed.1 m.2,
)

pub loops_go_on : LoopsGoOn
loops_go_on = record { first = around; again = again_meets }
