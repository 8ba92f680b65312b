use Rattle.std.proofs.Common.{◌*◌, rules, arith, refl, List}
use Rattle.std.proofs.lemmas.Int.{ints}
use Rattle.std.proofs.lemmas.List.{take_rest}
use Rattle.module_format.specs.Rows.{Entry}
use Rattle.module_format.specs.Order.{least_word}
use Rattle.states.specs.State.{entry_fact}
use Rattle.states.specs.Frames.{frame_facts}
use Rattle.states.specs.Comparing.{IsWalk}
use Rattle.states.proofs.RowFacts.{rise-drop}
use Rattle.states.proofs.Entering.{walk-from, walk-base, walk-past, walks-over}
use Rattle.states.proofs.frame.Frame.past_some.Goals as goal
use Rattle.states.proofs.frame.Frame.past_some.Goals.{After-without_ended-base}

-- from the first entry on that is wanted
begun : (c : After-without_ended-base) (row : List Entry)
    → IsWalk (entry_fact c.args.self.now.row.now) (frame_facts c.args.self.now) row c.args.from.now c.args.rest.now
    c.args.paid
    → IsWalk (entry_fact c.args.self.now.row.now) (frame_facts c.args.self.now) row c.without_ended-base.result.now
    c.args.rest.now c.args.paid
begun c row walk =
    walk-from (entry_fact c.args.self.now.row.now) (frame_facts c.args.self.now) row c.args.from.now
    c.without_ended-base.result.now c.args.rest.now c.in_ok-entry.entry.now c.in_ok-entry.later.now c.args.paid walk
    (search rules) (λ k l. c.without_ended-base.ensures.same k (omega (arith, ints, c.start_of.ensures.value)))

pub returns-then-pairs-gt0-clause-apart : goal.returns-then-pairs-gt0-clause-apart
returns-then-pairs-gt0-clause-apart c =
    let base = c.without_ended-base.result.now in
    let pairs = c.pair_count-pairs.result in
    rw (take_rest base pairs) (rise-drop least_word base pairs c.without_ended-base.ensures.apart)

pub returns-then-pairs-gt0-clause-walks : goal.returns-then-pairs-gt0-clause-walks
returns-then-pairs-gt0-clause-walks c = λ row walk.
    let after = (goal.at.returns-then-pairs-gt0-clause-walks c).After-without_ended-base in
    rw (
      take_rest c.without_ended-base.result.now c.pair_count-pairs.result,
      take_rest c.args.rest.now c.pair_count-pairs.result,
    )
    (c.pair_count-pairs.ensures.walks row c.args.paid (begun after row walk))

pub returns-then-over-gt0-clause-walks : goal.returns-then-over-gt0-clause-walks
returns-then-over-gt0-clause-walks c = λ row walk.
    let after = (goal.at.returns-then-over-gt0-clause-walks c).After-without_ended-base in
    let over = c.first_over_count-over.result in
    rw (take_rest c.args.rest.now over)
    (walks-over (entry_fact c.args.self.now.row.now) (frame_facts c.args.self.now) row
    c.without_ended-base.result.now over c.args.rest.now c.args.paid
    c.first_over_count-over.ensures.few c.first_over_count-over.ensures.over
    (begun after row walk))

pub returns-then-entered-gt0-clause-apart : goal.returns-then-entered-gt0-clause-apart
returns-then-entered-gt0-clause-apart c =
    let base = c.without_ended-base.result.now in
    let count = c.entering-entered.result.count * 2 in
    rw (take_rest base count) (rise-drop least_word base count c.without_ended-base.ensures.apart)

pub returns-then-entered-gt0-clause-walks : goal.returns-then-entered-gt0-clause-walks
returns-then-entered-gt0-clause-walks c = λ row walk.
    let after = (goal.at.returns-then-entered-gt0-clause-walks c).After-without_ended-base in
    let count = c.entering-entered.result.count in
    rw (take_rest c.without_ended-base.result.now (count * 2), take_rest c.args.rest.now count)
    (c.entering-entered.ensures.walks row (begun after row walk))

pub returns-clause-walks : goal.returns-clause-walks
returns-clause-walks c = λ row walk.
    let after = (goal.at.returns-clause-walks c).After-without_ended-base in
    let said = entry_fact c.args.self.now.row.now in
    let facts = frame_facts c.args.self.now in
    let base = c.without_ended-base.result.now in
    let entry = c.in_ok-entry.entry.now in
    let later = c.in_ok-entry.later.now in
    let from = begun after row walk in
    walk-past said facts row base base c.args.rest.now entry later c.args.paid c.in_ok-entry_paid.field-0
    c.in_ok-paid.paid from (search rules)
    (c.in_ok-entry_paid.ensures
    (walk-base said facts row base c.args.rest.now entry later c.args.paid from (search rules)))
    c.in_ok-paid.ensures.1 (λ k l. refl)
