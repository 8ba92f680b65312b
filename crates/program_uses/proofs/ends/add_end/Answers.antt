use Rattle.std.proofs.Common.{arith, map}
use Rattle.program_uses.specs.Signatures.{parameter_of}
use Rattle.program_uses.proofs.EndsPushed.{pushed_is, pushed_nowhere, if_pushed}
use Rattle.program_uses.proofs.ends.add_end.Goals as goal

pub returns-in-Some : goal.returns-in-Some
returns-in-Some c =
    if_pushed _ c.push_end.result
    (pushed_is c.args.first c.in-Some.place (map parameter_of c.args.parameters.now.items) c.args.used (omega arith))
    c.push_end.ensures

pub returns-in-None : goal.returns-in-None
returns-in-None c =
    pushed_nowhere c.args.first (map parameter_of c.args.parameters.now.items) c.args.used (omega arith)
