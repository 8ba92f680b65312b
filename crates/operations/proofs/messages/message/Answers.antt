use Rattle.std.proofs.Common.{rules}
use Rattle.machine_state.specs.declared.fault.FaultKind.TheVariants.{NotOwn}
use Rattle.machine_state.specs.Performing.{site_of, local_of}
use Rattle.operations.proofs.Exchanging.{without_message, unscheduled, unusable}
use Rattle.operations.proofs.messages.message.Goals as goal

pub returns-in_err-schedulable-clause-asks : goal.returns-in_err-schedulable-clause-asks
returns-in_err-schedulable-clause-asks g c = without_message {S = g.row.S.Denot} g.S.LoadStore _ _ _ NotOwn
    (unscheduled (site_of g.S.LoadStore c.args.cpu.now) _ (local_of g.S.LoadStore c.args.cpu.now)
    c.in_ok-exchange.exchange
    (search rules) c.in_ok-exchange.ensures.asks (search rules))
    (search rules)

pub returns-in_err-check-clause-asks : goal.returns-in_err-check-clause-asks
returns-in_err-check-clause-asks g c = without_message {S = g.row.S.Denot} g.S.LoadStore _ _ _ NotOwn
    (unusable (site_of g.S.LoadStore c.args.cpu.now) _ (local_of g.S.LoadStore c.args.cpu.now) c.in_ok-exchange.exchange
    (search rules) c.in_ok-exchange.ensures.asks (search rules) (search rules))
    (search rules)
