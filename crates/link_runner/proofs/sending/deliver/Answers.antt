use Rattle.std.proofs.Common.{◌≡◌, refl, ap, ◌∙◌, length, List, ℕ}
use Rattle.machine_state.specs.declared.event.Event.TheVariants.{Acknowledge}
use Rattle.machine_state.specs.Happens.{happens}
use Rattle.machine_state.specs.World.{World}
use Rattle.link_runs.specs.FirstInFirstOut.{RunMoment}
use Rattle.link_runner.specs.declared.tally.Counts.{Counts}
use Rattle.link_runner.specs.declared.tally.Tally.{Tally}
use Rattle.link_runner.specs.Counting.{tally_of, with_count}
use Rattle.link_runner.specs.Readers.{IsThere}
use Rattle.link_runner.specs.Writers.{IsDelivered}
use Rattle.link_runner.proofs.OneByte.{is_there_after}
use Rattle.link_runner.proofs.OneMessage.{put_whole, put_nowhere, put_partly, delivers_whole, delivers_nowhere}
use Rattle.link_runner.proofs.sending.deliver.Given as given
use Rattle.link_runner.proofs.sending.deliver.Goals as goal
use Rattle.link_runner.proofs.sending.deliver.Goals.{After-acknowledge}

pub returns-in-Some-Err-clause-delivers : goal.returns-in-Some-Err-clause-delivers
returns-in-Some-Err-clause-delivers g c = λ s shown counts.
    let puts = rw (c.in-Some-Err.field-0-is, c.message-message.ensures) at c.in-Some-Err.ensures in (
      refl,
      put_partly g.W.LinkWriter.written g.W.LinkWriter.failed c.args.link (g.M.Machine.last c.args.machine.now)
          c.args.writers.now c.put.new.writers c.requires.none_failed puts.elsewhere _ puts.told,
    )

module _ (g : given.Over) (c : After-acknowledge g) (s : RunMoment) (counts : c.args.tally.now ≡ tally_of s)
    (shown : World → Type 0)
    (is_shown : shown (happens (g.M.Machine.contents c.args.machine.now) s.world (Acknowledge c.args.link))) where
  -- the whole message was written, and its bytes are counted
  delivered_whole : IsDelivered g.W.LinkWriter.written g.W.LinkWriter.failed (g.M.Machine.contents c.args.machine.now)
      c.args.link (g.M.Machine.last c.args.machine.now) s c.args.writers.now c.put.new.writers
      (record c.args.tally.now { written = c.add.new.self }) shown
  delivered_whole =
      let puts = rw (c.in-Some-Ok.field-0-is, c.message-message.ensures) at c.in-Some-Ok.ensures in
      delivers_whole g.W.LinkWriter.written g.W.LinkWriter.failed c.args.link (g.M.Machine.last c.args.machine.now)
      c.args.writers.now c.put.new.writers c.requires.none_failed puts.elsewhere
      (g.M.Machine.contents c.args.machine.now) s _ shown
      (put_whole g.W.LinkWriter.written g.W.LinkWriter.failed c.args.link (g.M.Machine.last c.args.machine.now)
      c.args.writers.now c.put.new.writers c.requires.none_failed puts.elsewhere puts.told)
      (ap (λ (written : Counts). record c.args.tally.now { written = written }) c.add.ensures
      ∙ (ap (λ (bytes : List ℕ). record c.args.tally.now {
        written = with_count c.args.link (length bytes) c.args.tally.now.written;
      }) c.message-message.ensures
      ∙ ap (λ (t : Tally). record t {
        written = with_count c.args.link (length (g.M.Machine.last c.args.machine.now)) t.written;
      }) counts))
      is_shown

pub returns-in-Ok-clause-delivers : goal.returns-in-Ok-clause-delivers
returns-in-Ok-clause-delivers g c = λ s shown counts.
    delivered_whole g (goal.at.returns-in-Ok-clause-delivers g c).After-acknowledge s counts
    (g.M.Machine.shows c.acknowledge.new.self) (c.in-Ok.ensures.takes s.world shown)

pub returns-in-Err-clause-delivers : goal.returns-in-Err-clause-delivers
returns-in-Err-clause-delivers g c = λ s shown counts.
    let m = g.M.Machine.contents c.args.machine.now in
    let stopped : World → Type 0 = λ w. g.M.Machine.stops c.acknowledge.new.self w c.in-Err.stop in
    delivered_whole g (goal.at.returns-in-Err-clause-delivers g c).After-acknowledge s counts (IsThere m stopped)
    (is_there_after m s.world (Acknowledge c.args.link) stopped refl (c.in-Err.ensures.takes s.world shown))

pub returns-in-None-clause-delivers : goal.returns-in-None-clause-delivers
returns-in-None-clause-delivers g c = λ s shown counts.
    let puts = rw c.message-message.ensures at c.in-None.ensures in
    delivers_nowhere g.W.LinkWriter.written g.W.LinkWriter.failed c.args.link (g.M.Machine.last c.args.machine.now)
    c.args.writers.now c.put.new.writers c.requires.none_failed puts.elsewhere
    (g.M.Machine.contents c.args.machine.now) s _ (g.M.Machine.shows c.args.machine.now)
    (put_nowhere g.W.LinkWriter.written g.W.LinkWriter.failed c.args.link (g.M.Machine.last c.args.machine.now)
    c.args.writers.now c.put.new.writers c.requires.none_failed puts.elsewhere puts.told) counts shown
