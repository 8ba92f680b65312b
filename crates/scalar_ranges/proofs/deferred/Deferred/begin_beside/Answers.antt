use Rattle.std.proofs.Common.{◌≡◌, ◌<◌, ap, map, sym, subst, ◌∙◌, length, arith}
use Rattle.std.proofs.lemmas.List.{length-map, length-reverse}
use Rattle.scalar_ranges.specs.Lefts.{known_left, left_at, IsKeptApart}
use Rattle.scalar_ranges.specs.TrackedViews.{known_by, tracked_of}
use Rattle.scalar_ranges.specs.Changes.{begin_with, Tracked, seen, entry_in}
use Rattle.scalar_ranges.proofs.Fitting.{begun_known}
use Rattle.scalar_ranges.proofs.KeepingApart.{begun_apart}
use Rattle.scalar_ranges.proofs.LeftLists.{cut_same, cut_none, cut_fewer, kept_cut}
use Rattle.scalar_ranges.proofs.Postponing.{same_now, begun_behind}
use Rattle.scalar_ranges.proofs.Standing.{has_whole, are_short}
use Rattle.scalar_ranges.proofs.deferred.Deferred.begin_beside.Goals as goal
use Rattle.scalar_ranges.proofs.deferred.Deferred.begin_beside.Goals.{After-truncate}

-- as many entries as there were
many : (c : After-truncate) → c.len.result ≡ length (known_by c.args.self.now.tracked).entries
many c = c.len.ensures ∙ ap (λ (t : Tracked). length (seen entry_in t.slots)) c.in-Ok.ensures.ok

pub invariant_of-self : goal.invariant_of-self
invariant_of-self c =
    let old = c.args.self.now in
    let q = left_at old.mark c.truncate.new.self.items in
    let t = tracked_of old.tracked in
    let long = many c in
    let all = length-reverse (map entry_in t.slots) ∙ length-map t.slots entry_in in
    record {
      kept = kept_cut old.mark c.len.result old.lefts.items c.truncate.new.self.items old.listed.items
          c.truncate.ensures.items old.kept;
      apart = subst (λ (k : Tracked). IsKeptApart c.args.stage q k.blocks) (sym c.in-Ok.ensures.ok)
          (begun_apart old.stage c.args.stage (left_at old.mark old.lefts.items) q c.args.ended t c.requires.stage
          c.requires.inside (λ i least. cut_none old.mark c.len.result old.lefts.items c.truncate.new.self.items
          c.truncate.ensures.items i (omega arith))
          (cut_fewer old.mark c.len.result old.lefts.items c.truncate.new.self.items c.truncate.ensures.items)
          old.apart);
    }

pub returns-in-Ok-clause-ok : goal.returns-in-Ok-clause-ok
returns-in-Ok-clause-ok c =
    let at = (goal.at.returns-in-Ok-clause-ok c).After-truncate in
    let old = c.args.self.now in
    let ls = old.lefts.items in
    let p = left_at old.mark c.truncate.new.self.items in
    let k = known_by old.tracked in
    ap (known_left c.args.stage p) (begun_known old.tracked c.begin.new.self c.args.ended c.in-Ok.ensures.ok)
    ∙ begun_behind old.stage c.args.stage p c.args.ended k c.requires.stage
    ∙ ap (begin_with c.args.ended) (same_now old.stage (left_at old.mark ls) p k (has_whole old.tracked)
    (are_short old.tracked)
    (λ i less. cut_same old.mark c.len.result ls c.truncate.new.self.items c.truncate.ensures.items i
    (subst (λ n. i < n) (sym (many at)) less)))
