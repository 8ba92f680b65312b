use Rattle.verifier.proofs.Judging.{accepted_is_certified, refused_is_refused}
use Rattle.verifier.proofs.ValidContents.{spans}
use Rattle.verifier.proofs.laws.verdict_is_right.Goals as goal

pub returns-clause-accepts : goal.returns-clause-accepts
returns-clause-accepts c = λ m k accepted. accepted_is_certified m (spans m k) accepted

pub returns-clause-refuses : goal.returns-clause-refuses
returns-clause-refuses c =
    λ m rule at k refused. refused_is_refused m (spans m k) (record { rule = rule; offset = at }) refused
