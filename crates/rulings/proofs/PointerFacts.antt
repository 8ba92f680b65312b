-- What is known of a constant, and of a pointer that may be used.
use Rattle.std.proofs.Common.{◌≡◌, ℤ, FitsSigned, Bool, true, false, cond, ◌&&◌, Some, Ok, Err, refl, subst}
use Rattle.std.proofs.Common.{arith}
use Rattle.std.proofs.lemmas.Int.{ints}
use Rattle.std.specs.Int.{w32}
use Rattle.std.proofs.lemmas.Bool.{and_parts}
use Rattle.module_format.specs.Rows.{Fact}
use Rattle.module_format.specs.declared.fact.Fact.TheVariants.{Unknown, Number, Pointer, CodeAddress, Loop}
use Rattle.module_format.specs.declared.fact.Fact.TheVariants.{ReturnAddress}
use Rattle.module_format.specs.Contents.{Contents}
use Rattle.states.specs.declared.rule.Rule.{Rule}
use Rattle.states.specs.State.{is_same_number as is_same}
use Rattle.rulings.specs.declared.pointers.Pointed.{Pointed}
use Rattle.rulings.specs.Pointers.{are_near, pointer_of, constant_of, exact_pointer}
use Rattle.rulings.specs.Meaning.{Layout, Means, is_number}
use Rattle.rulings.proofs.Words.{same_word_by}

-- what passes a test that breaks a rule where it fails
pub ok_if : {A : Type 0} (b : Bool) (x z : A) (broken : Rule) → cond b (Ok x) (Err broken) ≡ Ok z → (b ≡ true) × (x ≡ z)
ok_if true x z broken h = (refl, cc)
ok_if false x z broken h = absurd (cc)

-- a pointer to one byte has one offset
pub exact_is : (fact : Fact) (p : Pointed) → exact_pointer fact ≡ Ok p
    → (fact ≡ Pointer p.region p.lo p.hi p.step) × (p.lo ≡ p.hi)
unfolding exact_pointer
exact_is (Pointer region lo hi steps) p e =
    let q = ok_if (are_near lo hi && is_same lo hi)
    (record { region = region; lo = lo; hi = hi; step = steps }) p _ e in
    subst (λ (r : Pointed). (◌≡◌ {A = Fact} (Pointer region lo hi steps) (Pointer r.region r.lo r.hi r.step))
    × (r.lo ≡ r.hi))
    q.1 (refl, same_word_by lo hi (and_parts (are_near lo hi) (is_same lo hi) q.0).1)
exact_is Unknown p e = absurd (cc)
exact_is (Number lo hi) p e = absurd (cc)
exact_is (CodeAddress offset) p e = absurd (cc)
exact_is (Loop base count weight) p e = absurd (cc)
exact_is ReturnAddress p e = absurd (cc)

module _ (m : Contents) (layout : Layout) where
  -- the number that a fact says it is
  pub constant_is : (fact : Fact) (c v : ℤ) → constant_of fact ≡ Ok c → Means m layout fact (Some v)
      → (v ≡ c) × FitsSigned w32 v
  unfolding constant_of
  constant_is (Number lo hi) c v e (is_number low high fits) =
      let p = ok_if (is_same lo hi) lo c _ e in
      let same = same_word_by lo hi p.0 in
      (omega (arith, ints, p.1), fits)
  constant_is Unknown c v e means = absurd (cc)
  constant_is (Pointer region lo hi steps) c v e means = absurd (cc)
  constant_is (CodeAddress offset) c v e means = absurd (cc)
  constant_is (Loop base count weight) c v e means = absurd (cc)
  constant_is ReturnAddress c v e means = absurd (cc)

  -- a fact that is a pointer, whose offsets are near
  pub pointer_is : (fact : Fact) (p : Pointed) → pointer_of fact ≡ Ok p
      → (fact ≡ Pointer p.region p.lo p.hi p.step) × (are_near p.lo p.hi ≡ true)
  unfolding pointer_of
  pointer_is (Pointer region lo hi steps) p e =
      let q = ok_if (are_near lo hi) (record { region = region; lo = lo; hi = hi; step = steps }) p _ e in
      subst (λ (r : Pointed). (◌≡◌ {A = Fact} (Pointer region lo hi steps) (Pointer r.region r.lo r.hi r.step))
      × (are_near r.lo r.hi ≡ true)) q.1 (refl, q.0)
  pointer_is Unknown p e = absurd (cc)
  pointer_is (Number lo hi) p e = absurd (cc)
  pointer_is (CodeAddress offset) p e = absurd (cc)
  pointer_is (Loop base count weight) p e = absurd (cc)
  pointer_is ReturnAddress p e = absurd (cc)
