use Rattle.accepted_runs.proofs.running.RunMachine.acknowledge.Goals as goal

pub returns-clause-takes : goal.returns-clause-takes
returns-clause-takes c w shows = (c.advance.ensures.reacts w shows).is_shown
