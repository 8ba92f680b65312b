use Rattle.module_format.specs.Contents.{par_of}
use Rattle.joins.proofs.HiddenWords.{hidden_is}
use Rattle.joins.proofs.opening.hidden.Goals as goal

pub returns : goal.returns
returns c =
    hidden_is c.args.base (par_of c.args.par.now) c.in_ok-writes.writes.items c.new.result.items c.new-2.result.items
    c.in_ok-writes.ensures c.new.ensures.items c.new-2.ensures.items
