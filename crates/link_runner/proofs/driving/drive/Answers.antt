use Rattle.std.proofs.Common.{◌≡◌, refl, subst, ◌∙◌, Err, rules, []}
use Rattle.std.proofs.lemmas.Result.{err_from_is_err_and}
use Rattle.module_format.specs.Contents.{Contents}
use Rattle.machine_state.specs.World.{loaded}
use Rattle.link_runs.specs.ByLink.{for_all}
use Rattle.link_runs.specs.FirstInFirstOut.{beginning}
use Rattle.link_runner.specs.Readers.{inputs_of, GoesOn}
use Rattle.link_runner.specs.Writers.{IsDelivered, Delivers}
use Rattle.link_runner.proofs.WholeRun.{IsAdvanced, at_first, provides_here, provided_here, provide_fails}
use Rattle.link_runner.proofs.WholeRun.{at_message, proceeds_here}
use Rattle.link_runner.proofs.WholeRun.{message_advances, message_stops, idle_advances, drives_further, less_is_left}
use Rattle.link_runner.proofs.WholeRun.{provided, ends, goes_no_further, counts_at_first}
use Rattle.link_runner.proofs.driving.drive.Given as given
use Rattle.link_runner.proofs.driving.drive.Goals as goal
use Rattle.link_runner.proofs.driving.drive.Goals.{After-executed-executed-in-loop-machine}
use Rattle.link_runner.proofs.driving.drive.Goals.{in-Emitted+in_ok-deliver-in-Emitted}
use Rattle.link_runner.proofs.driving.drive.Goals.{in-Idle}

pub loop-machine-init : goal.loop-machine-init
loop-machine-init g c =
    let m = g.M.Machine.contents c.args.machine.now in
    record {
      same = refl;
      most = refl;
      moment = beginning m (inputs_of c.args.readers.now (for_all []));
      is_shown = c.requires.loaded;
      driven = at_first g.R.LinkReader.left g.R.LinkReader.failed g.W.LinkWriter.written g.W.LinkWriter.failed m
          c.args.readers.now c.args.writers.now c.requires.readers c.requires.writers;
      counts = c.requires.tally ∙ counts_at_first m c.args.readers.now;
      count = c.executed-executed.ensures (loaded m) c.requires.loaded;
    }

pub returns-in_err-provide-clause-drives : goal.returns-in_err-provide-clause-drives
returns-in_err-provide-clause-drives g c =
    let e = err_from_is_err_and c.from_residual.result c.from_residual.ensures.1 in
    let driving = c.loop-machine.invariant in
    let shown = g.M.Machine.shows c.provide.new.machine in
    let stopped = g.M.Machine.stops c.provide.new.machine in
    let halt = c.in_err-provide.field-0.0 in
    rw (e.1, e.2) (provide_fails g.R.LinkReader.left g.R.LinkReader.failed g.W.LinkWriter.written
    g.W.LinkWriter.failed (g.M.Machine.contents c.args.machine.now) c.args.readers.now c.args.writers.now
    driving.moment c.loop-machine.readers c.loop-machine.writers driving.driven c.provide.new.readers halt
    c.provide.new.tally shown stopped (provides_here driving c.provide.new.readers (Err halt) c.provide.new.tally shown
    stopped c.in_err-provide.ensures.provides))

pub go_on-requires : goal.go_on-requires
go_on-requires g c =
    let p = provided_here c.loop-machine.invariant c.if-branch.true c.in_ok-provide.ensures.provides in
    (p.moment.world, p.is_shown)

pub deliver-requires : goal.deliver-requires
deliver-requires g c =
    let driving = c.loop-machine.invariant in
    let p = provided_here driving c.if-branch.true c.in_ok-provide.ensures.provides in
    let emits = proceeds_here driving p (g.M.Machine.last c.go_on.new.machine) (g.M.Machine.shows c.go_on.new.machine)
    (g.M.Machine.stops c.go_on.new.machine) (c.in_ok-provide.ensures.contents ∙ driving.same) c.in-Emitted.is
    c.in_ok-progress.ensures.goes in
    (search rules, ((_, emits.is_shown), driving.driven.no_write_failed))

pub returns-in_err-deliver-in-Emitted-clause-drives : goal.returns-in_err-deliver-in-Emitted-clause-drives
returns-in_err-deliver-in-Emitted-clause-drives g c =
    let e = err_from_is_err_and c.from_residual-in_err-deliver-in-Emitted.result
    c.from_residual-in_err-deliver-in-Emitted.ensures.1 in
    let driving = c.loop-machine.invariant in
    let there = c.in_ok-provide.ensures.contents ∙ driving.same in
    let message = g.M.Machine.last c.go_on.new.machine in
    let p = provided_here driving c.if-branch.true c.in_ok-provide.ensures.provides in
    let emits = proceeds_here driving p message (g.M.Machine.shows c.go_on.new.machine)
    (g.M.Machine.stops c.go_on.new.machine) there c.in-Emitted.is c.in_ok-progress.ensures.goes in
    let at = at_message driving p emits in
    let halt = c.in_err-deliver-in-Emitted.field-0.0 in
    let shown = g.M.Machine.shows c.deliver.new.machine in
    let stopped = g.M.Machine.stops c.deliver.new.machine in
    rw (e.1, e.2) (message_stops driving p emits c.deliver.new.writers halt c.deliver.new.tally shown stopped (subst
    (λ (n : Contents). Delivers g.W.LinkWriter.written g.W.LinkWriter.failed n c.in-Emitted.link message at
    c.loop-machine.writers c.deliver.new.writers (Err halt) c.deliver.new.tally shown stopped)
    (c.in_ok-progress.ensures.contents ∙ there)
    (c.in_err-deliver-in-Emitted.ensures.delivers at emits.is_shown p.counts)))

pub returns-in_err-progress-clause-drives : goal.returns-in_err-progress-clause-drives
returns-in_err-progress-clause-drives g c =
    let e = err_from_is_err_and c.from_residual-in_err-progress.result
    c.from_residual-in_err-progress.ensures.1 in
    let driving = c.loop-machine.invariant in
    let p = provided_here driving c.if-branch.true c.in_ok-provide.ensures.provides in
    let last = g.M.Machine.last c.go_on.new.machine in
    let shown = g.M.Machine.shows c.go_on.new.machine in
    let stopped = g.M.Machine.stops c.go_on.new.machine in
    let halt = c.in_err-progress.field-0.0 in
    let goes = subst (λ (n : Contents). GoesOn n p.moment.world (Err halt) last shown stopped)
    (c.in_ok-provide.ensures.contents ∙ driving.same) (c.in_err-progress.ensures.goes p.moment.world p.is_shown) in
    rw (e.1, e.2) (goes_no_further driving p last shown stopped halt goes)

-- ---- a turn of the loop

module _ (g : given.Over) (c : After-executed-executed-in-loop-machine g) where
  -- the message was delivered, or no process is running
  advanced : IsAdvanced c.loop-machine.invariant c.match-progress.machine c.provide.new.readers
      c.match-progress.writers c.match-progress.tally
  advanced =
      let driving = c.loop-machine.invariant in
      let there = c.in_ok-provide.ensures.contents ∙ driving.same in
      let message = g.M.Machine.last c.go_on.new.machine in
      let p = provided_here driving c.if-branch.true c.in_ok-provide.ensures.provides in
      let shown = g.M.Machine.shows c.go_on.new.machine in
      let stopped = g.M.Machine.stops c.go_on.new.machine in
      elim c.match-progress.branch [
        | in-Emitted+in_ok-deliver-in-Emitted w ↦ rw (w.machine-is, w.writers-is, w.tally-is) (
            let emits = proceeds_here driving p message shown stopped there w.in-Emitted.is
            c.in_ok-progress.ensures.goes in
            let at = at_message driving p emits in
            message_advances driving p emits w.deliver.new.machine w.deliver.new.writers w.deliver.new.tally (subst
            (λ (n : Contents). IsDelivered g.W.LinkWriter.written g.W.LinkWriter.failed n w.in-Emitted.link message at
            c.loop-machine.writers w.deliver.new.writers w.deliver.new.tally (g.M.Machine.shows
            w.deliver.new.machine)) (c.in_ok-progress.ensures.contents ∙ there)
            (w.in_ok-deliver-in-Emitted.ensures.delivers at emits.is_shown p.counts)))
        | in-Idle w ↦ rw (w.machine-is, w.writers-is, w.tally-is) (idle_advances driving p c.go_on.new.machine
            (proceeds_here driving p message shown stopped there w.in-Idle.is c.in_ok-progress.ensures.goes))
      ]

  -- the machine has the module and the limit that it began with
  same_machine : (g.M.Machine.contents c.match-progress.machine ≡ g.M.Machine.contents c.args.machine.now)
      × (g.M.Machine.limit c.match-progress.machine ≡ g.M.Machine.limit c.args.machine.now)
  same_machine =
      let driving = c.loop-machine.invariant in
      let gone_on = c.in_ok-progress.ensures in
      let same = gone_on.contents ∙ (c.in_ok-provide.ensures.contents ∙ driving.same) in
      let most = gone_on.limit ∙ (c.in_ok-provide.ensures.limit ∙ driving.most) in
      elim c.match-progress.branch [
        | in-Emitted+in_ok-deliver-in-Emitted w ↦
            let delivered = w.in_ok-deliver-in-Emitted.ensures in
            rw w.machine-is (delivered.contents ∙ same, delivered.limit ∙ most)
        | in-Idle w ↦ rw w.machine-is (same, most)
      ]

pub loop-machine-preserved : goal.loop-machine-preserved
loop-machine-preserved g c =
    let at = (goal.at.loop-machine-preserved g c).After-executed-executed-in-loop-machine in
    let turn = advanced g at in
    drives_further c.loop-machine.invariant turn c.executed-executed-in-loop-machine.result
    (c.executed-executed-in-loop-machine.ensures turn.moment.world turn.is_shown) (same_machine g at).1
    (same_machine g at).0

pub loop-machine-smaller : goal.loop-machine-smaller
loop-machine-smaller g c =
    let at = (goal.at.loop-machine-smaller g c).After-executed-executed-in-loop-machine in
    let turn = advanced g at in
    less_is_left c.loop-machine.invariant turn c.executed-executed-in-loop-machine.result
    (c.executed-executed-in-loop-machine.ensures turn.moment.world turn.is_shown) (same_machine g at).1
    (g.met.M.Machine.reached c.match-progress.machine turn.moment.world turn.is_shown).within_limit

pub returns-clause-drives : goal.returns-clause-drives
returns-clause-drives g c =
    let driving = c.loop-machine.invariant in
    let m = g.M.Machine.contents c.args.machine.now in
    let p = provided_here driving c.if-branch.false c.in_ok-provide.ensures.provides in
    let driven = provided g.R.LinkReader.left g.R.LinkReader.failed g.W.LinkWriter.written g.W.LinkWriter.failed m
    c.args.readers.now c.args.writers.now driving.moment c.loop-machine.readers c.loop-machine.writers
    driving.driven p.moment c.provide.new.readers p.goes in
    ends g.R.LinkReader.left g.R.LinkReader.failed g.W.LinkWriter.written g.W.LinkWriter.failed m
    c.args.readers.now c.args.writers.now p.moment c.provide.new.readers c.loop-machine.writers driven
    c.provide.new.tally (g.M.Machine.shows c.provide.new.machine) (p.over refl) p.counts p.is_shown
