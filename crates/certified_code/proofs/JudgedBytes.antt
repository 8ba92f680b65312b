-- What holds of bytes that are read as a module, once that is judged.
use Rattle.std.specs.Prelude.{⊤, OnOk, IfErr}
use Rattle.std.proofs.Common.{◌≡◌, ℕ, List, Result, Ok, Err, subst}
use Rattle.module_format.specs.Contents.{Contents}
use Rattle.module_format.specs.Keeping.{Format}
use Rattle.module_builder.specs.declared.fault.GenFault.{GenFault}
use Rattle.module_builder.specs.declared.fault.GenFault.TheVariants.{Invalid}
use Rattle.certified_code.specs.CertifiedModules.{Certifies, AreCertified, BreaksARule, AreRefused}

-- if the module that they are is certified
pub are_certified : (bytes : List ℕ) (m : Contents) (r : Result ⊤ GenFault)
    → ((c : Contents) → Format bytes c → m ≡ c) → OnOk r (Certifies m) → OnOk r (AreCertified bytes)
are_certified bytes m (Ok u) same certified = λ c format. subst Certifies (same c format) certified
are_certified bytes m (Err fault) same none = none

-- if the module that they are breaks a rule
pub are_refused : (bytes : List ℕ) (m : Contents) (r : Result ⊤ GenFault)
    → ((c : Contents) → Format bytes c → m ≡ c) → IfErr r (λ fault. fault ≡ Invalid → BreaksARule m)
    → IfErr r (λ fault. fault ≡ Invalid → AreRefused bytes)
are_refused bytes m (Ok u) same none = none
are_refused bytes m (Err fault) same broken =
    λ invalid c format. subst BreaksARule (same c format) (broken invalid)
