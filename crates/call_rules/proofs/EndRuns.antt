-- Runs of ends that are passed to a procedure.
use Rattle.std.proofs.Common.{◌≡◌, ℕ, zero, suc, ◌<◌, Bool, true, false, ◌||◌, not, inl, inr, refl, sym, ◌∙◌}
use Rattle.std.proofs.Common.{subst, arith}
use Rattle.std.proofs.lemmas.Bool.{cases_Bool, cases_eq, and_parts, and_from}
use Rattle.std.proofs.lemmas.Bool.Decides.{leb_tells}
use Rattle.std.proofs.Math.Dec.{leb}
use Rattle.module_format.specs.declared.rows.EndKind.{EndKind}
use Rattle.module_format.specs.declared.rows.Direction.{Direction}
use Rattle.module_format.specs.declared.rows.Direction.TheVariants.{In, Out}
use Rattle.module_format.specs.Contents.{Contents}
use Rattle.certificate.specs.Rights.{has_end}
use Rattle.certificate.specs.Runs.{IsRunCount}
use Rattle.call_rules.specs.CallRules.{all_below, holds_ends}
use Rattle.rulings.specs.Channels.{further, has_direction}

-- each number below `count` passes the test that all pass
pub all_below_at : (count i : ℕ) (test : ℕ → Bool) → all_below count test ≡ true → i < count → test i ≡ true
unfolding all_below
all_below_at zero i test all low = absurd (omega arith)
all_below_at (suc more) i test all low = elim (cases_eq i more) [
  | inl e ↦ subst (λ (n : ℕ). test n ≡ true) (sym e) (and_parts _ _ all).0
  | inr e ↦ all_below_at more i test (and_parts _ _ all).1 (omega arith)
]

pub all_from : (count : ℕ) (test : ℕ → Bool) → ((i : ℕ) → i < count → test i ≡ true) → all_below count test ≡ true
unfolding all_below
all_from zero test each = refl
all_from (suc more) test each =
    and_from _ _ (each more (omega arith)) (all_from more test (λ i low. each i (omega arith)))

pub one_fails : (count i : ℕ) (test : ℕ → Bool) → i < count → test i ≡ false → false ≡ all_below count test
one_fails count i test low fails = elim (cases_Bool (all_below count test)) [
  | inl t ↦ let no' : true ≡ false = sym (all_below_at count i test t low) ∙ fails in absurd (cc)
  | inr f ↦ sym f
]

-- A run of neighbouring ends that is held, and does not go on, decides of any number of them.
pub run_decides : (count run : ℕ) (test : ℕ → Bool) → IsRunCount test run → leb count run ≡ all_below count test
run_decides count run test is = elim (leb_tells count run) [
  | inl within ↦ within.0 ∙ sym (all_from count test (λ i low. let few = within.1 in is.each i (omega (arith, few))))
  | inr beyond ↦ beyond.0 ∙ one_fails count run test (let more = beyond.1 in omega (arith, more)) is.stops
]

told : (b c : Bool) → b ≡ true → (not b || c) ≡ true → c ≡ true
told true c e h = h
told false c e h = absurd (cc)

-- a context that has the ends of `count` channels has each of them
pub end_held : (m : Contents) (context : ℕ) (first : EndKind) (count ends i : ℕ) (direction : Direction)
    → holds_ends m context first count ends ≡ true → has_direction ends direction ≡ true → i < count
    → has_end m context (record { kind = further first i; direction = direction }) ≡ true
end_held m context first count ends i In all wants low =
    all_below_at count i _ (told (has_direction ends In) _ wants (and_parts _ _ all).0) low
end_held m context first count ends i Out all wants low =
    all_below_at count i _ (told (has_direction ends Out) _ wants (and_parts _ _ all).1) low
