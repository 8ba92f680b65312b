use Rattle.module_format.specs.Contents.{label_of}
use Rattle.states.specs.Frames.{frame_facts}
use Rattle.states.specs.State.{entry_fact}
use Rattle.states.proofs.Remembering.{remembered-put}
use Rattle.states.proofs.frame.Frame.put.Goals as goal

pub invariant_of-self-clause-compared : goal.invariant_of-self-clause-compared
invariant_of-self-clause-compared c =
    let frame = c.args.self.now in
    remembered-put (entry_fact frame.row.now) (frame_facts frame) frame.lo frame.remembered c.put.new.self
    (label_of c.args.row.now) c.args.label c.args.paid c.args.is_plain c.put.ensures.put c.requires.label
    c.requires.apart c.requires.paid c.requires.plain c.requires.pairs frame.compared
