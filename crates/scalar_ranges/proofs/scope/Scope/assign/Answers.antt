use Rattle.std.proofs.Common.{ap, sym, ◌∙◌}
use Rattle.word_arithmetic.specs.Range.{ends_of}
use Rattle.scalar_ranges.specs.Moves.{with_meaning, assigned}
use Rattle.scalar_ranges.specs.MoveLaws.{shape}
use Rattle.scalar_ranges.specs.Scopes.{meaning_of, entries_of}
use Rattle.scalar_ranges.proofs.MoveLaws.{ranged_shape}
use Rattle.scalar_ranges.proofs.Named.{changed_by_meaning, none_changed}
use Rattle.scalar_ranges.proofs.scope.Scope.assign.Goals as goal

pub put-requires : goal.put-requires
put-requires c =
    let es = entries_of c.args.self.now in
    ap shape (changed_by_meaning (assigned (ends_of c.args.range)) c.args.number (meaning_of c.assigned.result)
    (meaning_of c.in-Some.meaning) es (sym c.in-Some.ensures) c.assigned.ensures)
    ∙ ranged_shape (λ type. ends_of c.args.range) c.args.number es

pub returns-in-Some-clause-entries : goal.returns-in-Some-clause-entries
returns-in-Some-clause-entries c =
    c.put.ensures.entries
    ∙ changed_by_meaning (assigned (ends_of c.args.range)) c.args.number (meaning_of c.assigned.result)
    (meaning_of c.in-Some.meaning) (entries_of c.args.self.now) (sym c.in-Some.ensures) c.assigned.ensures

pub returns-in_default-clause-entries : goal.returns-in_default-clause-entries
returns-in_default-clause-entries c =
    sym (none_changed (with_meaning (assigned (ends_of c.args.range))) c.args.number (entries_of c.args.self.now)
    (sym c.in_default.ensures))
