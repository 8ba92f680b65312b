use Rattle.std.proofs.Common.{◌∙◌, ap, map}
use Rattle.module_format.specs.Contents.{branch_of}
use Rattle.module_format.specs.Pars.{Before}
use Rattle.module_format.proofs.OrderLaws.{behind_branches}
use Rattle.module_format.proofs.reading.branches.Branches.branches.Goals as goal

pub returns-clause-taken : goal.returns-clause-taken
returns-clause-taken c = λ still.
    let self = c.args.self.now in
    let before : Before = record { low = self.low; entries = self.taken.entries.items } in
    ap (λ (s : Before). s.entries) (c.fill.ensures.last still)
    ∙ behind_branches before (map branch_of c.fill.new.items.items)
