use Rattle.std.proofs.Common.{arith}
use Rattle.states.specs.Frames.{frame_facts}
use Rattle.states.specs.State.{entry_fact}
use Rattle.states.proofs.Remembering.{known-all, known-some}
use Rattle.states.proofs.frame.Frame.says_still.Goals as goal

pub returns-then-compared-self : goal.returns-then-compared-self
returns-then-compared-self c = λ _.
    let frame = c.args.self.now in
    let kept = frame.remembered in
    let now = c.if-compared-self.true in
    known-all (entry_fact frame.row.now) frame.lo kept (frame_facts frame) c.args.row.now.entries.items c.args.compared
    (λ n. let h = kept.changed n in omega (arith, h, now)) c.requires.known

pub returns : goal.returns
returns c = λ yes.
    let frame = c.args.self.now in
    known-some (entry_fact frame.row.now) frame.lo frame.remembered (frame_facts frame) c.args.row.now.entries.items
    c.args.compared (c.changed_say.ensures yes) c.requires.known
