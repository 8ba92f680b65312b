-- What refusals report.
use Rattle.std.proofs.Common.{◌≡◌, inl, inr, ap}
use Rattle.module_format.specs.Contents.{Contents}
use Rattle.states.specs.declared.rule.TheConstants.{MEMORY}
use Rattle.verifier.specs.declared.Refusal.{Refusal}
use Rattle.verifier.specs.Reports.{Reports}
use Rattle.certified_code.specs.CertifiedModules.{BreaksARule}

-- a rule is broken where memory did not run out
pub breaks_a_rule : (c : Contents) (refusal : Refusal) → Reports c refusal → (refusal.number ≡ MEMORY → ⊥)
    → BreaksARule c
breaks_a_rule c refusal (inl memory) other = absurd (other (ap (λ (r : Refusal). r.number) memory))
breaks_a_rule c refusal (inr broken) other =
    record { rule = broken.0; at = refusal.offset; refused = broken.2 }
