use Rattle.std.proofs.Common.{sym}
use Rattle.module_format.specs.Contents.{contents_of}
use Rattle.module_format.specs.Contexts.{first_branch}
use Rattle.module_format.proofs.PlaceLaws.{owner_below}
use Rattle.module_format.proofs.places.owner_of.Goals as goal

pub returns-then-number-first : goal.returns-then-number-first
returns-then-number-first c =
    let m = contents_of c.args.tables.now in
    sym (owner_below (first_branch m) m.pars c.args.context (rw c.first_branch-first.ensures at c.if-number-first.true))
