use Rattle.std.proofs.Common.{Option, sym, ap, subst, ◌∙◌, option_map}
use Rattle.scalar_ranges.specs.declared.scope.Meaning.{Meaning}
use Rattle.scalar_ranges.specs.Changes.{known_if}
use Rattle.scalar_ranges.specs.ChangeViews.{meaning_of, known_afters}
use Rattle.scalar_ranges.specs.Moves.{Known}
use Rattle.scalar_ranges.specs.TrackedViews.{tracked_of, known_by}
use Rattle.scalar_ranges.specs.Deferring.{AreApart}
use Rattle.scalar_ranges.proofs.Staying.{none_at}
use Rattle.scalar_ranges.proofs.SlotLoops.{put_turn, put_done}
use Rattle.scalar_ranges.proofs.changes.Tracked.put_afters.Goals as goal
use Rattle.scalar_ranges.proofs.changes.Tracked.put_afters.Goals.{in-Some, in_default}

pub loop-change-preserved : goal.loop-change-preserved
loop-change-preserved c =
    let so_far = c.loop-change.invariant in
    let put_by : Option Meaning → Known = λ o.
    known_if (option_map meaning_of o) c.change-item.result.number (known_by c.loop-change.self) in (
      put_turn c.args.changes.now c.loop-change.change-index c.change-item.result (known_by c.loop-change.self)
          (known_by c.match-change.self) (known_afters c.args.changes.now (known_by c.args.self.now))
          c.loop-change-test.true c.change-item.is (elim c.match-change.branch [
            | in-Some w ↦ ap known_by w.self-is ∙ w.put_other.ensures.known ∙ ap put_by (sym w.in-Some.is)
            | in_default w ↦ ap known_by w.self-is ∙ ap put_by (sym w.in_default.is)
          ])
          so_far.0,
      λ p a none apart. elim c.match-change.branch [
        | in-Some w ↦ subst (λ t. AreApart p a (tracked_of t).blocks) (sym w.self-is)
            (w.put_other.ensures.apart p a (none_at p c.args.changes.now c.loop-change.change-index c.change-item.result
            c.loop-change-test.true c.change-item.is none) (so_far.1 p a none apart))
        | in_default w ↦ subst (λ t. AreApart p a (tracked_of t).blocks) (sym w.self-is) (so_far.1 p a none apart)
      ],
    )

pub returns : goal.returns
returns c = record {
  known =
      put_done c.args.changes.now c.loop-change.change-index (known_by c.loop-change.self)
      (known_afters c.args.changes.now (known_by c.args.self.now)) c.loop-change-test.false c.loop-change.invariant.0;
  apart = c.loop-change.invariant.1;
}
