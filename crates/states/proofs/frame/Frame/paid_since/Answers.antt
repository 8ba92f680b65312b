use Rattle.module_format.specs.Rows.{Entry}
use Rattle.std.proofs.Common.{List, subst}
use Rattle.states.specs.Frames.{frame_facts}
use Rattle.states.specs.Remembered.{AreDueSince}
use Rattle.states.specs.Remembering.{was_alone}
use Rattle.states.specs.State.{entry_fact}
use Rattle.states.proofs.Remembering.{paid-plain, paid-still, paid-more}
use Rattle.states.proofs.frame.Frame.paid_since.Goals.{then-compared-via-then-compared}
use Rattle.states.proofs.frame.Frame.paid_since.Goals.{then-compared-via-else-compared+then-self-compared}
use Rattle.states.proofs.frame.Frame.paid_since.Goals as goal

pub returns-then-compared : goal.returns-then-compared
returns-then-compared c =
    let frame = c.args.self.now in
    let said = entry_fact frame.row.now in
    let entries = c.args.row.now.entries.items in
    elim c.then-compared.branch [
      | then-compared-via-then-compared w ↦
          paid-plain said frame.lo frame.remembered (frame_facts frame) entries c.args.compared frame.compared
          c.requires.apart (c.requires.known.plain w.if-compared.true) c.requires.known c.requires.knows
      | then-compared-via-else-compared+then-self-compared w ↦
          paid-still said frame.lo frame.remembered (frame_facts frame) entries c.args.compared frame.compared
          c.requires.apart w.if-self-compared.true c.requires.known c.requires.knows
    ]

pub returns : goal.returns
returns c =
    let frame = c.args.self.now in
    let kept = frame.remembered in
    let said = entry_fact frame.row.now in
    let sum = c.in_ok-paid.ensures in
    let since : AreDueSince (was_alone said frame.lo kept c.args.compared.time)
    (was_alone said frame.lo kept kept.time) c.args.row.now.entries.items c.in_ok-due.due =
    subst (λ (es : List Entry). AreDueSince (was_alone said frame.lo kept c.args.compared.time)
    (was_alone said frame.lo kept kept.time) es c.in_ok-due.due) c.deref.ensures.value c.in_ok-due.ensures in
    paid-more said frame.lo kept (frame_facts frame) c.args.row.now.entries.items c.args.compared c.in_ok-due.due
    c.in_ok-paid.paid frame.compared c.requires.apart since sum.1 c.requires.known c.requires.knows
