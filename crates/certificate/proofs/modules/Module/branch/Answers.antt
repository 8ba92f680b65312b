use Rattle.module_format.specs.Contents.{contents_of, par_of, branch_of}
use Rattle.certificate.proofs.RightLaws.{found_kept}
use Rattle.certificate.proofs.modules.Module.branch.Goals as goal

pub returns-clause-kept : goal.returns-clause-kept
returns-clause-kept c =
    found_kept (contents_of c.self.inside.tables) c.args.number
    (par_of c.in_ok-_number.row.now, branch_of c.in_ok-_number.branch.now) c.self.invariant.0.keeps
    c.in_ok-_number.ensures.found
