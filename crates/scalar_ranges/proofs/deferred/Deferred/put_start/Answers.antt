use Rattle.std.proofs.Common.{◌≡◌, suc, None, ap, sym, subst, ◌∙◌, rules}
use Rattle.std.proofs.Common.{FitsSigned}
use Rattle.std.specs.Int.{w32}
use Rattle.std.proofs.lemmas.Int.{to_z-of_z}
use Rattle.scalar_ranges.specs.ChangeViews.{branchings_from}
use Rattle.scalar_ranges.specs.Deferring.{AreApart}
use Rattle.scalar_ranges.specs.Lefts.{known_left, left_at}
use Rattle.scalar_ranges.specs.LeftViews.{left_by}
use Rattle.scalar_ranges.specs.Moves.{Known}
use Rattle.scalar_ranges.specs.TrackedViews.{known_by, tracked_of}
use Rattle.scalar_ranges.specs.Changes.{put_start, changed_start, with_start, Tracked}
use Rattle.scalar_ranges.specs.Narrowing.{left_of, with_range}
use Rattle.scalar_ranges.proofs.Fitting.{start_known}
use Rattle.scalar_ranges.proofs.KeepingApart.{kept_if}
use Rattle.scalar_ranges.proofs.Staying.{put_apart}
use Rattle.scalar_ranges.proofs.LeftLists.{left_dead}
use Rattle.scalar_ranges.proofs.Postponing.{start_now}
use Rattle.scalar_ranges.proofs.deferred.Deferred.put_start.Goals as goal
use Rattle.scalar_ranges.proofs.deferred.Deferred.put_start.Goals.{After-release, After-put_start}

-- nothing is put off of the entry any more
none : (c : After-release) → left_by c.release.new.self c.args.number ≡ None
none c =
    let now = c.release.new.self in
    ap (λ ls. left_at now.mark ls c.args.number) c.release.ensures.lefts
    ∙ left_dead now.mark c.args.number c.args.self.now.lefts.items now.kept.0

moved : (c : After-put_start) → tracked_of c.put_start.new.self
    ≡ put_start c.args.number (with_range (left_of c.args.comparison c.args.constant))
    (tracked_of c.release.new.self.tracked)
moved c =
    let fits : FitsSigned w32 c.args.constant = search rules in
    c.put_start.ensures
    ∙ (λ i. put_start c.args.number (with_range (left_of c.args.comparison (to_z-of_z w32 c.args.constant fits i)))
    (tracked_of c.release.new.self.tracked))

pub invariant_of-self : goal.invariant_of-self
invariant_of-self c =
    let at = goal.at.invariant_of-self c in
    let now = c.release.new.self in
    let p = left_by now in
    let t = tracked_of now.tracked in
    record {
      kept = now.kept;
      apart = kept_if now.stage p p t.blocks (branchings_from c.put_start.new.self.blocks.items)
          (λ a apart. subst (λ (k : Tracked). AreApart p (suc a) k.blocks) (sym (moved at.After-put_start))
          (put_apart p (with_start (with_range (left_of c.args.comparison c.args.constant))) (suc a) c.args.number
          t.slots t.blocks (none at.After-release) apart)) now.apart;
    }

pub returns : goal.returns
returns c =
    let at = goal.at.returns c in
    let now = c.release.new.self in
    let n = c.args.number in
    let f = with_range (left_of c.args.comparison c.args.constant) in
    ap (known_left now.stage (left_by now))
    (start_known now.tracked c.put_start.new.self n f (moved at.After-put_start))
    ∙ start_now now.stage (left_by now) f n (known_by now.tracked) (none at.After-release)
    ∙ ap (λ (k : Known). record { entries = k.entries; blocks = changed_start f n k.blocks }) c.release.ensures.known
