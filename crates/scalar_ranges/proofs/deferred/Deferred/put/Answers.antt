use Rattle.std.proofs.Common.{◌≡◌, suc, None, ap, sym, subst, ◌∙◌}
use Rattle.scalar_ranges.specs.EntryViews.{meaning_of}
use Rattle.scalar_ranges.specs.ChangeViews.{branchings_from}
use Rattle.scalar_ranges.specs.Deferring.{AreApart}
use Rattle.scalar_ranges.specs.Lefts.{known_left, left_at}
use Rattle.scalar_ranges.specs.LeftViews.{left_by}
use Rattle.scalar_ranges.specs.TrackedViews.{known_by, tracked_of}
use Rattle.scalar_ranges.specs.Changes.{known_with, with_new, Tracked}
use Rattle.scalar_ranges.proofs.Fitting.{put_known}
use Rattle.scalar_ranges.proofs.KeepingApart.{kept_if}
use Rattle.scalar_ranges.proofs.Staying.{put_apart}
use Rattle.scalar_ranges.proofs.LeftLists.{left_dead}
use Rattle.scalar_ranges.proofs.Postponing.{put_now}
use Rattle.scalar_ranges.proofs.deferred.Deferred.put.Goals as goal
use Rattle.scalar_ranges.proofs.deferred.Deferred.put.Goals.{After-release}

-- nothing is put off of the entry any more
none : (c : After-release) → left_by c.release.new.self c.args.number ≡ None
none c =
    let now = c.release.new.self in
    ap (λ ls. left_at now.mark ls c.args.number) c.release.ensures.lefts
    ∙ left_dead now.mark c.args.number c.args.self.now.lefts.items now.kept.0

pub invariant_of-self : goal.invariant_of-self
invariant_of-self c =
    let now = c.release.new.self in
    let p = left_by now in
    let t = tracked_of now.tracked in
    record {
      kept = now.kept;
      apart = kept_if now.stage p p t.blocks (branchings_from c.put.new.self.blocks.items)
          (λ a apart. subst (λ (k : Tracked). AreApart p (suc a) k.blocks) (sym c.put.ensures)
          (put_apart p (with_new (meaning_of c.args.meaning)) (suc a) c.args.number t.slots t.blocks
          (none (goal.at.invariant_of-self c).After-release) apart)) now.apart;
    }

pub returns : goal.returns
returns c =
    let now = c.release.new.self in
    let n = c.args.number in
    let m = meaning_of c.args.meaning in
    ap (known_left now.stage (left_by now)) (put_known now.tracked c.put.new.self n m c.put.ensures)
    ∙ put_now now.stage (left_by now) n m (known_by now.tracked) (none (goal.at.returns c).After-release)
    ∙ ap (known_with n m) c.release.ensures.known
