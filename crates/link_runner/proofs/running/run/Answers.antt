use Rattle.std.proofs.Common.{refl}
use Rattle.std.proofs.lemmas.Result.{err_from_is_err_and}
use Rattle.link_runner.proofs.AllBytes.{knows_all}
use Rattle.link_runner.proofs.WholeRun.{finishes}
use Rattle.link_runner.proofs.running.run.Goals as goal

pub returns-in_err-machine-clause-runs : goal.returns-in_err-machine-clause-runs
returns-in_err-machine-clause-runs g c =
    let p = err_from_is_err_and c.from_residual.result c.from_residual.ensures.1 in
    rw (p.1, p.2) (record { unread = refl; unwritten = refl })

pub returns-in-Ok-clause-runs : goal.returns-in-Ok-clause-runs
returns-in-Ok-clause-runs g c =
    let ends = rw c.in_ok-machine.ensures.contents at c.in-Ok.ensures.drives in
    finishes g.R.LinkReader.left g.R.LinkReader.failed g.W.LinkWriter.written g.W.LinkWriter.failed
    c.args.verified.now c.args.readers.now c.drive.new.readers c.args.writers.now c.drive.new.writers _ _
    c.at_end.result ends (c.at_end.ensures ends.moment ends.comes.is_shown ends.comes.counts)

pub returns-in-Ok-clause-known : goal.returns-in-Ok-clause-known
returns-in-Ok-clause-known g c = λ inputs has.
    let ends = rw c.in_ok-machine.ensures.contents at c.in-Ok.ensures.drives in
    knows_all g.R.LinkReader.left g.R.LinkReader.failed g.W.LinkWriter.written g.W.LinkWriter.failed
    c.args.verified.now c.args.readers.now c.drive.new.readers c.args.writers.now c.drive.new.writers inputs
    c.at_end.result has (finishes g.R.LinkReader.left g.R.LinkReader.failed g.W.LinkWriter.written
    g.W.LinkWriter.failed c.args.verified.now c.args.readers.now c.drive.new.readers c.args.writers.now
    c.drive.new.writers _ _ c.at_end.result ends
    (c.at_end.ensures ends.moment ends.comes.is_shown ends.comes.counts))
