use Rattle.std.proofs.Common.{sym}
use Rattle.std.proofs.Math.Logic.{∥∥₁_map}
use Rattle.verifier.proofs.verified.Verified.module.Goals as goal

pub returns-clause-certified : goal.returns-clause-certified
returns-clause-certified c = rw (sym c.self.view_is) (∥∥₁_map c.self.invariant (λ both. both.1))

pub returns-clause-runs_well : goal.returns-clause-runs_well
returns-clause-runs_well c =
    rw (sym c.self.view_is) (∥∥₁_map c.self.invariant (λ both. c.certified_modules_run_well.ensures _ both.0 both.1))
