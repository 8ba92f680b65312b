-- A module and the one that it is upgraded to say the same, so what holds of one holds of the other.
use Rattle.std.proofs.Common.{refl, subst}
use Rattle.module_format.specs.Contents.{Contents}
use Rattle.module_format.proofs.FileLaws.{upgraded_same}
use Rattle.verifier.specs.Upgrading.{AreJudgedAlike, RunAlike, OfUpgraded}

of_upgraded : (P : Contents → Contents → Type 0) → ((c : Contents) → P c c) → OfUpgraded P
of_upgraded P same old new c d u f g = subst (λ (x : Contents). P c x) (upgraded_same old new c d u f g) (same c)

judged_alike : (c : Contents) → AreJudgedAlike c c
judged_alike c = record { certified = (λ h. h, λ h. h); refused = λ rule at. (λ h. h, λ h. h) }

run_alike : (c : Contents) → RunAlike c c
run_alike c = record { worlds = λ es. refl; answers = λ es e. refl }

pub upgraded_judged : OfUpgraded AreJudgedAlike
upgraded_judged = of_upgraded AreJudgedAlike judged_alike

pub upgraded_run : OfUpgraded RunAlike
upgraded_run = of_upgraded RunAlike run_alike
