use Rattle.verifier.proofs.Walks.{breaks_by_rule, breaks_by_start, has_gone_on}
use Rattle.verifier.proofs.walk.Walk.go_on.Goals as goal

pub returns-in-Err : goal.returns-in-Err
returns-in-Err c =
    breaks_by_rule c.args.self.now c.args.arrival.now _ _ c.in-Err.rule c.broken.result c.in_ok-judged.ensures.judged
    c.in-Err.is c.broken.ensures

pub returns-in-Some : goal.returns-in-Some
returns-in-Some c =
    breaks_by_start c.args.self.now c.args.arrival.now _ _ c.in-Ok.falls c.start_within.result c.in-Some.inside
    c.broken-in-Some.result c.requires.some c.in_ok-judged.ensures.judged c.in-Ok.is c.start_within.ensures c.in-Some.is
    c.broken-in-Some.ensures

pub returns : goal.returns
returns c =
    has_gone_on c.args.self.now c.args.arrival.now c.judge.new.state _ c.in-Ok.falls c.start_within.result c.requires
    c.judge.ensures.belongs c.in_ok-judged.ensures.judged c.in-Ok.is c.start_within.ensures c.in_default.is
