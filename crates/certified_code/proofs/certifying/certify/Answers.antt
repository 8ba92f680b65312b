use Rattle.certified_code.proofs.JudgedBytes.{are_certified, are_refused}
use Rattle.certified_code.proofs.certifying.certify.Goals as goal

pub returns-in-Ok-clause-ok : goal.returns-in-Ok-clause-ok
returns-in-Ok-clause-ok c =
    are_certified c.args.bytes.now c.in-Ok.module c.judge.result c.in-Ok.ensures.ok c.judge.ensures.ok

pub returns-in-Ok-clause-invalid : goal.returns-in-Ok-clause-invalid
returns-in-Ok-clause-invalid c =
    are_refused c.args.bytes.now c.in-Ok.module c.judge.result c.in-Ok.ensures.ok c.judge.ensures.invalid

pub returns-in-Err-clause-invalid : goal.returns-in-Err-clause-invalid
returns-in-Err-clause-invalid c = λ invalid k format. absurd (c.in-Err.ensures.invalid invalid k format)
