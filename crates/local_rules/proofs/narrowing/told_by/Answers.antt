use Rattle.std.proofs.Common.{rules, true, false}
use Rattle.std.proofs.lemmas.Int.{to_z-of_z}
use Rattle.std.specs.Int.{w32}
use Rattle.word_arithmetic.specs.Range.{ends_of}
use Rattle.states.specs.Frames.{frame_facts}
use Rattle.local_rules.proofs.Narrowed.{ranged-known, narrowed-is}
use Rattle.local_rules.proofs.narrowing.told_by.Goals as goal

pub returns-clause-if_false : goal.returns-clause-if_false
returns-clause-if_false c =
    narrowed-is c.args.source c.in-Test.word _ c.in-Test.lo _ c.in-Test.hi _ c.in-Test.is_inside false
    (frame_facts c.args.state.now.frame) c.fact_at.result (ends_of c.in_ok-own.own) (ends_of c.in_ok-other.other)
    c.left_fact.result c.in-Test.is (to_z-of_z w32 c.in-Test.word (search rules))
    (to_z-of_z w32 c.in-Test.lo (search rules)) (to_z-of_z w32 c.in-Test.hi (search rules))
    c.fact_at.ensures.value c.in_ok-own.ensures c.in_ok-other.ensures c.left_fact.ensures

pub returns-clause-if_true : goal.returns-clause-if_true
returns-clause-if_true c =
    narrowed-is c.args.source c.in-Test.word _ c.in-Test.lo _ c.in-Test.hi _ c.in-Test.is_inside true
    (frame_facts c.args.state.now.frame) c.fact_at.result (ends_of c.in_ok-own.own) (ends_of c.in_ok-other.other)
    c.left_fact-2.result c.in-Test.is (to_z-of_z w32 c.in-Test.word (search rules))
    (to_z-of_z w32 c.in-Test.lo (search rules)) (to_z-of_z w32 c.in-Test.hi (search rules))
    c.fact_at.ensures.value c.in_ok-own.ensures c.in_ok-other.ensures c.left_fact-2.ensures

pub returns-clause-room : goal.returns-clause-room
returns-clause-room c =
    c.fact_at.ensures.room (ranged-known c.fact_at.result (ends_of c.in_ok-own.own) c.in_ok-own.ensures)
