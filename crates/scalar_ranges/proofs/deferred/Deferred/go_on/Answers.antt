use Rattle.std.proofs.Common.{ℕ, ap, sym, subst, ◌∙◌}
use Rattle.scalar_ranges.specs.ChangeViews.{branchings_from}
use Rattle.scalar_ranges.specs.Deferring.{StayApart}
use Rattle.scalar_ranges.specs.Lefts.{turned_stage, known_left, left_at, IsKeptApart}
use Rattle.scalar_ranges.specs.TrackedViews.{known_by}
use Rattle.scalar_ranges.specs.Moves.{next}
use Rattle.scalar_ranges.proofs.KeepingApart.{kept_next, kept_turned}
use Rattle.scalar_ranges.proofs.Standing.{has_whole}
use Rattle.scalar_ranges.proofs.Postponing.{next_now, next_outside}
use Rattle.scalar_ranges.proofs.deferred.Deferred.go_on.Goals as goal
use Rattle.scalar_ranges.proofs.deferred.Deferred.go_on.Goals.{then-is_inside, else-is_inside}

pub invariant_of-self : goal.invariant_of-self
invariant_of-self c =
    let old = c.args.self.now in
    let p = left_at old.mark old.lefts.items in
    let bs = branchings_from old.tracked.blocks.items in
    let cs = branchings_from c.next.new.self.blocks.items in
    record {
      kept = old.kept;
      apart = elim c.if-is_inside.branch [
        | then-is_inside w ↦
            subst (λ t. ((a : ℕ) → StayApart a (branchings_from t.1.0.blocks.items) a cs)
            → IsKeptApart t.1.1.1.1.0 p cs) (sym w.self-is)
            (λ stays. subst (λ s. IsKeptApart s p cs) (sym w.turned-self.ensures)
            (kept_turned w.has_ends.result old.stage p bs cs stays old.apart)) c.next.ensures.apart
        | else-is_inside w ↦
            subst (λ t. ((a : ℕ) → StayApart a (branchings_from t.1.0.blocks.items) a cs)
            → IsKeptApart t.1.1.1.1.0 p cs) (sym w.self-is)
            (λ stays. kept_next old.stage p bs cs stays old.apart) c.next.ensures.apart
      ];
    }

pub returns : goal.returns
returns c =
    let old = c.args.self.now in
    let k = known_by old.tracked in
    let p = left_at old.mark old.lefts.items in
    ap (known_left c.if-is_inside.self.1.1.1.1.0 p) c.next.ensures.known
    ∙ elim c.if-is_inside.branch [
      | then-is_inside w ↦
          ap (λ t. known_left t.1.1.1.1.0 p (next (known_by t.1.0))) w.self-is
          ∙ ap (λ s. known_left s p (next k)) (w.turned-self.ensures
          ∙ ap (λ t. turned_stage t old.stage) w.has_ends.ensures)
          ∙ next_now old.stage p k.entries k.blocks (sym c.is_inside.ensures ∙ w.if-is_inside.true) c.requires
          (has_whole old.tracked)
      | else-is_inside w ↦
          ap (λ t. known_left t.1.1.1.1.0 p (next (known_by t.1.0))) w.self-is
          ∙ next_outside old.stage p k.entries k.blocks (sym c.is_inside.ensures ∙ w.if-is_inside.false)
    ]
