use Rattle.accepted_runs.proofs.RunningAlone.{can_run_alone}
use Rattle.kept_runs.proofs.GoingOn.{goes_to}
use Rattle.kept_runs.proofs.moving.go_on.Goals as goal

pub go_on_until-requires-clause-can : goal.go_on_until-requires-clause-can
go_on_until-requires-clause-can c =
    can_run_alone c.args.program.now c.args.machine.now c.requires.runs.0 c.requires.runs.1

pub returns : goal.returns
returns c w on =
    goes_to c.args.program.now c.args.machine.now w on c.args.limit c.go_on_until.result
    c.go_on_until.new.self c.go_on_until.ensures
