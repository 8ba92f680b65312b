use Rattle.module_format.specs.Order.{least_word}
use Rattle.states.specs.Rows.{AreApart}
use Rattle.states.proofs.RowFacts.{rise-take, rise-drop}
use Rattle.states.proofs.cutting.parts_of.Goals as goal

pub returns-clause-before : goal.returns-clause-before
returns-clause-before c =
    rw c.split_at.ensures.front (rise-take least_word c.args.row.now c.partition_point.result c.requires)

pub returns-clause-among : goal.returns-clause-among
returns-clause-among c =
    let rest : AreApart c.split_at.result.1.now =
    rw c.split_at.ensures.back (rise-drop least_word c.args.row.now c.partition_point.result c.requires) in
    rw c.split_at-2.ensures.front (rise-take least_word c.split_at.result.1.now c.partition_point-2.result rest)

pub returns-clause-behind : goal.returns-clause-behind
returns-clause-behind c =
    let rest : AreApart c.split_at.result.1.now =
    rw c.split_at.ensures.back (rise-drop least_word c.args.row.now c.partition_point.result c.requires) in
    rw c.split_at-2.ensures.back (rise-drop least_word c.split_at.result.1.now c.partition_point-2.result rest)
