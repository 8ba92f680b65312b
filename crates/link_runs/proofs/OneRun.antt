-- There is one run.
use Rattle.std.proofs.Common.{◌≡◌, ℕ, zero, suc, ◌<◌, Bool, true, false, nat_lt, Some, None, refl, sym, ap}
use Rattle.std.proofs.Common.{subst, ◌∙◌, arith}
use Rattle.std.proofs.lemmas.Bool.{ltb-true, ltb-false}
use Rattle.std.proofs.lemmas.Option.{same_Some, none-some}
use Rattle.module_format.specs.Contents.{Contents}
use Rattle.link_runs.specs.ByLink.{ByLink}
use Rattle.link_runs.specs.FirstInFirstOut.{Supply, RunMoment, next_of, moment_after, IsRun, IsOver}
use Rattle.link_runs.specs.RunLaws.{OneMomentAfterEachTurn, OneMomentIsLast}

pub one_moment : OneMomentAfterEachTurn
one_moment m inputs writers n s t first second = same_Some s t (sym first ∙ second)

module _ (m : Contents) (inputs : ByLink Supply) (writers : ByLink Bool) (n : ℕ) (s : RunMoment)
    (run : IsRun m inputs writers n s) (over : IsOver m writers s) where
  by_order : (k : ℕ) (b : Bool) → nat_lt n k ≡ b → (n < k → moment_after m inputs writers k ≡ None) → n < suc k
      → moment_after m inputs writers (suc k) ≡ None
  by_order k true less before below = ap (next_of m writers) (before (ltb-true n k less))
  by_order k false most before below =
      let above = ltb-false n k most in
      let same : n ≡ k = omega (arith, below, above) in
      ap (next_of m writers) (subst (λ (j : ℕ). moment_after m inputs writers j ≡ Some s) same run) ∙ over

  -- once the run is over no turn is left
  none_later : (k : ℕ) → n < k → moment_after m inputs writers k ≡ None
  none_later zero below = absurd (omega (arith, below))
  none_later (suc k) below = by_order k (nat_lt n k) refl (none_later k) below

by_orders : (m : Contents) (inputs : ByLink Supply) (writers : ByLink Bool) (n k : ℕ) (s t : RunMoment) (b c : Bool)
    → nat_lt n k ≡ b → nat_lt k n ≡ c
    → IsRun m inputs writers n s → IsOver m writers s → IsRun m inputs writers k t → IsOver m writers t → s ≡ t
by_orders m inputs writers n k s t true c less more first over second ended =
    absurd (none-some t (sym (none_later m inputs writers n s first over k (ltb-true n k less)) ∙ second))
by_orders m inputs writers n k s t false true less more first over second ended =
    absurd (none-some s (sym (none_later m inputs writers k t second ended n (ltb-true k n more)) ∙ first))
by_orders m inputs writers n k s t false false less more first over second ended =
    let above = ltb-false n k less in
    let below = ltb-false k n more in
    let same : n ≡ k = omega arith in
    same_Some s t (sym (subst (λ (j : ℕ). moment_after m inputs writers j ≡ Some s) same first) ∙ second)

pub one_last : OneMomentIsLast
one_last m inputs writers n k s t =
    by_orders m inputs writers n k s t (nat_lt n k) (nat_lt k n) refl refl

pub ruleset one_run = (one_moment, one_last)
