use Rattle.std.proofs.Common.{ap}
use Rattle.occam_parser.specs.BlockViews.{procedure_of}
use Rattle.program_uses.specs.Signatures.{parameters_of, signatures_of}
use Rattle.usage_checks.specs.ItemViews.{seen_outside}
use Rattle.usage_checks.proofs.ItemsWalked.{walks_signed}
use Rattle.usage_checks.proofs.telling.Findings.walk_signed.Goals as goal

pub returns-in-Ok : goal.returns-in-Ok
returns-in-Ok c =
    walks_signed (procedure_of c.args.proc.now) (seen_outside c.args.outside.now)
    (signatures_of c.deref.result.now) (parameters_of c.in-Ok.signature) (ap signatures_of c.deref.ensures.value)
    c.walk_named.ensures.walks c.in-Ok.ensures.signature c.sign.ensures
