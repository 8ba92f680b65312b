use Rattle.std.proofs.Common.{ap, ◌∙◌, fold, map}
use Rattle.program_uses.specs.Ends.{with_use, of_parameters, sorted_ends}
use Rattle.program_uses.specs.Sets.{use_of}
use Rattle.program_uses.proofs.HasByParts.{ends_alone}
use Rattle.program_uses.proofs.ends.sorted_ends.Goals as goal

pub loop-end-init : goal.loop-end-init
loop-end-init c =
    (λ i. fold with_use (c.new-ends.ensures.empty i)
    (of_parameters c.args.first c.args.count (map use_of (c.ends-rest.ensures i))))
    ∙ ap sorted_ends (ends_alone c.args.first c.args.count c.args.uses.now)
