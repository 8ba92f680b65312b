use Rattle.std.proofs.lemmas.Result.{err_from_is_err_and}
use Rattle.occam_parser.specs.declared.head.BlockKind.TheVariants as block
use Rattle.occam_parser.specs.LineReading.{whole_at, guard_at}
use Rattle.occam_parser.specs.Blocks.{rows_of, One, Chosen, Guarded}
use Rattle.occam_parser.proofs.Levelled.{plain_leads, headed_lost, headed_leads, choice_is, branch_is}
use Rattle.occam_parser.proofs.block.Lead.read.Goals as goal

pub returns-in-Seq-clause-leads : goal.returns-in-Seq-clause-leads
returns-in-Seq-clause-leads c =
    rw c.in-Seq.is (plain_leads (One block.Seq) c.args.level (rows_of c.args.lines.now))

pub returns-in-Par-clause-leads : goal.returns-in-Par-clause-leads
returns-in-Par-clause-leads c =
    rw c.in-Par.is (plain_leads (One block.Par) c.args.level (rows_of c.args.lines.now))

pub returns-in_err-line-in-If-clause-leads : goal.returns-in_err-line-in-If-clause-leads
returns-in_err-line-in-If-clause-leads c =
    let p = err_from_is_err_and c.from_residual.result c.from_residual.ensures.1 in
    rw (p.1, p.2, c.in-If.is)
    (headed_lost whole_at Chosen (One block.If) c.args.level (rows_of c.args.lines.now) _ choice_is
    c.in_err-line-in-If.ensures.found)

pub returns-in_err-line-in-Alt-clause-leads : goal.returns-in_err-line-in-Alt-clause-leads
returns-in_err-line-in-Alt-clause-leads c =
    let lost = c.from_residual-in_err-line-in-Alt in
    let p = err_from_is_err_and lost.result lost.ensures.1 in
    rw (p.1, p.2, c.in-Alt.is)
    (headed_lost guard_at Guarded (One block.Alt) c.args.level (rows_of c.args.lines.now) _ branch_is
    c.in_err-line-in-Alt.ensures.found)

pub returns-in_ok-line-in-If-clause-leads : goal.returns-in_ok-line-in-If-clause-leads
returns-in_ok-line-in-If-clause-leads c =
    let head = c.in_ok-line-in-If in
    rw c.in-If.is
    (headed_leads whole_at Chosen (One block.If) c.args.level _ _ head.line _ choice_is head.ensures.level
    head.ensures.found)

pub returns-in_ok-line-in-Alt-clause-leads : goal.returns-in_ok-line-in-Alt-clause-leads
returns-in_ok-line-in-Alt-clause-leads c =
    let head = c.in_ok-line-in-Alt in
    rw c.in-Alt.is
    (headed_leads guard_at Guarded (One block.Alt) c.args.level _ _ head.line _ branch_is head.ensures.level
    head.ensures.found)
