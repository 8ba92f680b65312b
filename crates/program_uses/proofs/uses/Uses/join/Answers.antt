use Rattle.program_uses.proofs.PartsJoined.{all_done, where_done, joins_parts}
use Rattle.program_uses.proofs.uses.Uses.join.Goals as goal

pub returns : goal.returns
returns c =
    let all = all_done c.args.self.now.complete c.args.other.complete c.is_ok-has_reads.result
    c.is_ok-has_changes.result c.is_ok-has_ends.result in
    joins_parts c.args.self.now _ c.args.other (λ e. (let done = all e in (done.before, done.other)))
    (λ e. where_done c.join.result _ c.is_ok-has_reads.ensures.value (all e).has_reads c.join.ensures)
    (λ e. where_done c.join-2.result _ c.is_ok-has_changes.ensures.value (all e).has_changes c.join-2.ensures)
    (λ e. where_done c.join-3.result _ c.is_ok-has_ends.ensures.value (all e).has_ends c.join-3.ensures)
