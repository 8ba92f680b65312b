use Rattle.std.proofs.Common.{◌≤◌, ◌++◌, length, arith, ap, refl, ◌∙◌}
use Rattle.scalar_ranges.specs.Entries.{entry_at}
use Rattle.scalar_ranges.specs.Scopes.{entries_of}
use Rattle.line_pieces.proofs.RowsSay.{facts_next, facts_done}
use Rattle.line_pieces.proofs.facts.facts_of.Goals as goal

pub loop-number-preserved : goal.loop-number-preserved
loop-number-preserved c =
    facts_next c.args.homes.now (entries_of c.args.scope.now) c.loop-number.number c.index-homes-number.result
    (entry_at c.loop-number.number (entries_of c.args.scope.now)) c.loop-number.entries.items
    c.push_any.new.entries.items (omega arith) c.index-homes-number.is refl c.loop-number.invariant
    (c.in_ok-push_any.ensures ∙ ap (λ x. c.loop-number.entries.items ++ x) c.fact_of.ensures)

pub returns : goal.returns
returns c =
    let done : length c.args.homes.now ≤ c.loop-number.number = omega arith in
    facts_done c.args.homes.now (entries_of c.args.scope.now) c.loop-number.number c.loop-number.entries.items done
    c.loop-number.invariant
