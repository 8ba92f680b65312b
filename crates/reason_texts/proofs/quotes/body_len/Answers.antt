use Rattle.occam_layout.proofs.Quoted.{found_here, passed_star, passed_byte, not_found}
use Rattle.reason_texts.proofs.quotes.body_len.Goals as goal
use Rattle.reason_texts.proofs.quotes.body_len.Goals.{then-starred, else-starred+else-b-quote}

pub returns-then-b-quote-clause-len : goal.returns-then-b-quote-clause-len
returns-then-b-quote-clause-len c =
    found_here c.args.quote c.loop-i.i c.args.bytes.now _ c.loop-i-test.true c.if-b-quote.true
    (rw c.if-starred.false at c.loop-i.invariant)

pub loop-i-preserved : goal.loop-i-preserved
loop-i-preserved c =
    elim c.if-starred.branch [
      | then-starred w ↦ passed_star c.args.quote c.loop-i.starred c.if-starred.starred c.loop-i.i c.args.bytes.now _
          c.loop-i-test.true w.if-starred.true w.starred-is c.loop-i.invariant
      | else-starred+else-b-quote w ↦ passed_byte c.args.quote c.loop-i.starred c.if-starred.starred c.loop-i.i
          c.args.bytes.now _ c.loop-i-test.true w.if-starred.false w.if-b-quote.false w.starred-is c.loop-i.invariant
    ]

pub returns-clause-len : goal.returns-clause-len
returns-clause-len c = not_found c.args.quote c.loop-i.starred c.loop-i.i c.args.bytes.now _ c.loop-i-test.false
    c.loop-i.invariant
