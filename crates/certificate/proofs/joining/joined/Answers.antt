use Rattle.std.proofs.Common.{◌≡◌, ◌∙◌, [], rules}
use Rattle.certificate.proofs.WordLaws.{starts, first_is_next, goes_on, word_goes_on, no_rest}
use Rattle.certificate.proofs.joining.joined.Goals as goal

pub loop-interval-init : goal.loop-interval-init
loop-interval-init c =
    let none : c.new-joined.result.items ≡ [] = search rules in
    let same : c.as_slice-rest.result.now ≡ c.sort.new.intervals.items = search rules in
    record {
      are = starts c.new-joined.result.items c.as_slice-rest.result.now c.sort.new.intervals.items none same
          c.sort.ensures.order;
      words = λ k. rw (none, same) (c.sort.ensures.same k);
    }

pub add-requires-clause-apart : goal.add-requires-clause-apart
add-requires-clause-apart c = c.loop-interval.invariant.are.apart

pub add-requires-clause-begun : goal.add-requires-clause-begun
add-requires-clause-begun c =
    first_is_next c.loop-interval.joined.items c.loop-interval.rest.now c.in-Some.after.now c.in-Some.interval.now
    (search rules) c.loop-interval.invariant.are

pub loop-interval-preserved : goal.loop-interval-preserved
loop-interval-preserved c = record {
  are = goes_on c.loop-interval.joined.items c.loop-interval.rest.now c.in-Some.after.now c.add.new.joined.items
      c.in-Some.interval.now (search rules) c.loop-interval.invariant.are c.in_ok-add.ensures.apart
      c.in_ok-add.ensures.begun;
  words = λ k. word_goes_on k c.loop-interval.joined.items c.loop-interval.rest.now c.in-Some.after.now
      c.add.new.joined.items c.in-Some.interval.now (search rules) (c.in_ok-add.ensures.words k)
      ∙ c.loop-interval.invariant.words k;
}

pub returns : goal.returns
returns c = record {
  each = λ k. no_rest k c.loop-interval.joined.items c.loop-interval.rest.now (search rules)
      ∙ c.loop-interval.invariant.words k;
  apart = c.loop-interval.invariant.are.apart;
}
