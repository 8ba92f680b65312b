use Rattle.std.proofs.Common.{◌≡◌, ap, sym, subst, ◌∙◌}
use Rattle.scalar_ranges.specs.declared.deferred.Deferred as code_deferred
use Rattle.scalar_ranges.specs.Lefts.{known_left, ended_stage}
use Rattle.scalar_ranges.specs.Deferring.{has_ends}
use Rattle.scalar_ranges.specs.LeftViews.{known_now, left_by}
use Rattle.scalar_ranges.specs.TrackedViews.{known_by}
use Rattle.scalar_ranges.specs.Moves.{end}
use Rattle.scalar_ranges.proofs.Postponing.{end_now}
use Rattle.scalar_ranges.proofs.deferred.Deferred.end.Goals as goal
use Rattle.scalar_ranges.proofs.deferred.Deferred.end.Goals.{then-is_short, else-is_short}

pub returns-in_default : goal.returns-in_default
returns-in_default c =
    let old = c.args.self.now in
    let k = known_by old.tracked in
    let moved = c.ended-self.ensures ∙ ap (λ t. ended_stage t c.if-is_short.self.stage) c.has_ends.ensures in
    ap (known_left c.ended-self.result (left_by c.if-is_short.self)) c.end.ensures.known
    ∙ ap (λ s. known_left s (left_by c.if-is_short.self) (end (known_by c.if-is_short.self.tracked))) moved
    ∙ elim c.if-is_short.branch [
      | then-is_short w ↦ absurd (c.in_default.not-Nothing
          (ap (λ (t : code_deferred.Deferred). t.stage) w.self-is ∙ w.settle.ensures.stage))
      | else-is_short w ↦
          subst (λ (t : code_deferred.Deferred). known_left (ended_stage (has_ends (known_by t.tracked).blocks) t.stage)
          (left_by t) (end (known_by t.tracked)) ≡ end (known_now old)) (sym w.self-is)
          (end_now old.stage (left_by old) k.entries k.blocks (sym c.is_inside.ensures ∙ c.if-not-is_inside.false))
    ]
