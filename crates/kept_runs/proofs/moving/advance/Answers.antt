use Rattle.machine_state.specs.Happens.{happens}
use Rattle.accepted_runs.proofs.Happening as happening
use Rattle.kept_runs.proofs.moving.advance.Goals as goal

pub apply-requires : goal.apply-requires
apply-requires c =
    happening.can_happen c.args.program.now c.args.machine.now c.requires.0 c.requires.1 c.args.event
    c.can_happen.ensures

pub returns-clause-runs : goal.returns-clause-runs
returns-clause-runs c =
    let m = c.args.program.now in (
      happens m c.requires.0 c.args.event,
      happening.goes_on m c.args.machine.now c.requires.0 c.requires.1 c.args.event c.can_happen.ensures c.apply.result
          c.apply.new.self c.apply.ensures,
    )

pub returns-clause-message : goal.returns-clause-message
returns-clause-message c =
    happening.has_message c.args.program.now c.args.machine.now c.requires.0 c.requires.1 c.args.event
    c.can_happen.ensures c.apply.result c.apply.new.self c.apply.ensures

pub returns-clause-reacts : goal.returns-clause-reacts
returns-clause-reacts c w on =
    let m = c.args.program.now in
    record {
      answer = happening.answers m c.args.machine.now w on c.args.event c.can_happen.ensures c.apply.result
          c.apply.new.self c.apply.ensures;
      is_shown = happening.goes_on m c.args.machine.now w on c.args.event c.can_happen.ensures c.apply.result
          c.apply.new.self c.apply.ensures;
    }
