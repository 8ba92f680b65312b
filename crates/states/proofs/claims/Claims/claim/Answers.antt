use Rattle.std.proofs.Common.{ap, ◌∙◌}
use Rattle.module_format.specs.Contents.{Contents}
use Rattle.states.specs.Remembered.{numbered_label}
use Rattle.states.proofs.claims.Claims.claim.Goals as goal

pub add-requires : goal.add-requires
add-requires c =
    c.claim_of.ensures c.loop.self.«module».now
    (ap (λ (m : Contents). numbered_label m c.args.label) c.loop.invariant ∙ c.requires.label)
