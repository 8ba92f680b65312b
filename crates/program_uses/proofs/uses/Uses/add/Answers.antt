use Rattle.std.proofs.Common.{[], ◌∷◌, sym, ap, subst, ◌∙◌, arith}
use Rattle.std.specs.Result.{is_err}
use Rattle.program_uses.specs.Numbers.{has_number}
use Rattle.program_uses.specs.Sets.{is_among, uses_at, Adds}
use Rattle.program_uses.proofs.PartsJoined.{adds_read, adds_change, adds_end, when_done}
use Rattle.program_uses.proofs.uses.Uses.add.Goals.{in-Read, in-Change, in-Channel}
use Rattle.program_uses.proofs.uses.Uses.add.Goals as goal

pub returns-else-is_err : goal.returns-else-is_err
returns-else-is_err c =
    let old = c.args.self.now in
    let new = c.match-item.self in
    let done = sym c.is_err.ensures.value ∙ c.if-is_err.false in
    elim c.match-item.branch [
      | in-Read w ↦ subst (λ u. Adds old new (u ∷ [])) (sym w.in-Read.is) (
          adds_read old new w.in-Read.number (omega arith) (λ e. sym (ap (λ s. s.complete) w.self-is) ∙ e)
          (ap (λ s. s.changes) w.self-is) (ap (λ s. s.ends) w.self-is)
          (λ e n. ap (λ s. has_number s.reads n) w.self-is
          ∙ when_done w.add-added.result (ap is_err (sym w.added-is) ∙ done) w.add-added.ensures n))
      | in-Change w ↦ subst (λ u. Adds old new (u ∷ [])) (sym w.in-Change.is) (
          adds_change old new w.in-Change.number (omega arith) (λ e. sym (ap (λ s. s.complete) w.self-is) ∙ e)
          (ap (λ s. s.reads) w.self-is) (ap (λ s. s.ends) w.self-is)
          (λ e n. ap (λ s. has_number s.changes n) w.self-is
          ∙ when_done w.add-added-in-Change.result (ap is_err (sym w.added-is) ∙ done)
          w.add-added-in-Change.ensures n))
      | in-Channel w ↦ subst (λ u. Adds old new (u ∷ [])) (sym w.in-Channel.is) (
          adds_end old new _ (λ e. sym (ap (λ s. s.complete) w.self-is) ∙ e)
          (ap (λ s. s.reads) w.self-is) (ap (λ s. s.changes) w.self-is)
          (λ e u. ap (λ s. is_among (uses_at s.ends) u) w.self-is
          ∙ when_done w.add-added-in-Channel.result (ap is_err (sym w.added-is) ∙ done)
          w.add-added-in-Channel.ensures u))
    ]
