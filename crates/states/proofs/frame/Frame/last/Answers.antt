use Rattle.std.proofs.Common.{arith}
use Rattle.module_format.specs.Contents.{label_of}
use Rattle.states.specs.Frames.{frame_facts}
use Rattle.states.specs.State.{entry_fact}
use Rattle.states.proofs.Remembering.{remembered-at}
use Rattle.states.proofs.frame.Frame.last.Goals as goal

pub returns : goal.returns
returns c =
    let frame = c.args.self.now in
    let kept = frame.remembered in
    let began = c.if-compared-self.false in
    remembered-at (entry_fact frame.row.now) (frame_facts frame) frame.lo kept c.args.label (label_of c.args.row.now)
    c.at-compared.result frame.compared c.at-compared.ensures c.requires.label (omega (arith, began))
