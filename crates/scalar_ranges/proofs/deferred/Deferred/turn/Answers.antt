use Rattle.std.proofs.Common.{ap, sym, ◌∙◌}
use Rattle.scalar_ranges.specs.ChangeViews.{branchings_from}
use Rattle.scalar_ranges.specs.Lefts.{known_left, left_at}
use Rattle.scalar_ranges.specs.TrackedViews.{known_by}
use Rattle.scalar_ranges.specs.Moves.{next}
use Rattle.scalar_ranges.proofs.KeepingApart.{kept_next}
use Rattle.scalar_ranges.proofs.deferred.Deferred.turn.Goals as goal

pub invariant_of-self : goal.invariant_of-self
invariant_of-self c =
    let now = c.settle.new.self in
    record {
      kept = now.kept;
      apart = kept_next now.stage (left_at now.mark now.lefts.items) (branchings_from now.tracked.blocks.items)
          (branchings_from c.next.new.self.blocks.items) c.next.ensures.apart now.apart;
    }

pub returns-else-can_turn : goal.returns-else-can_turn
returns-else-can_turn c =
    let now = c.settle.new.self in
    let none = c.settle.ensures.stage in
    let q = left_at now.mark now.lefts.items in
    let j = known_by now.tracked in
    ap (known_left now.stage q) c.next.ensures.known
    ∙ (λ i. known_left (none i) q (next j))
    ∙ ap next ((λ i. known_left (sym none i) q j) ∙ c.settle.ensures.known)
