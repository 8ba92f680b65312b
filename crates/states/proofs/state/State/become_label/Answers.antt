use Rattle.std.proofs.Common.{rules, ◌≡◌}
use Rattle.module_format.specs.Contents.{label_of}
use Rattle.states.proofs.LabelRows.{row-inside}
use Rattle.states.proofs.state.State.become_label.Goals as goal

pub restart-requires : goal.restart-requires
restart-requires c =
    let label = label_of c.args.row.now in
    let same : c.deref.result.now ≡ label.entries = search rules in
    rw same (row-inside c.args.module.now c.args.self.now label c.requires.belongs c.requires.row)
