use Rattle.std.proofs.Common.{◌≡◌, true, ap, sym, ◌∙◌, rules}
use Rattle.scalar_ranges.specs.Entries.{type_range}
use Rattle.scalar_ranges.specs.Moves.{with_meaning, widened}
use Rattle.scalar_ranges.specs.MoveLaws.{shape}
use Rattle.scalar_ranges.specs.Scopes.{meaning_of, entries_of}
use Rattle.scalar_ranges.proofs.MoveLaws.{ranged_shape}
use Rattle.scalar_ranges.proofs.Named.{changed_by_meaning, none_changed}
use Rattle.scalar_ranges.proofs.Widening.{widened_still}
use Rattle.scalar_ranges.proofs.scope.Scope.receive.Goals as goal

pub put-requires : goal.put-requires
put-requires c =
    let es = entries_of c.args.self.now in
    ap shape (changed_by_meaning widened c.args.number (meaning_of c.widened.result)
    (meaning_of c.in-Some.meaning) es (sym c.in-Some.ensures) c.widened.ensures)
    ∙ ranged_shape type_range c.args.number es

pub returns-then-not-is_wide-clause-entries : goal.returns-then-not-is_wide-clause-entries
returns-then-not-is_wide-clause-entries c =
    c.put.ensures.entries
    ∙ changed_by_meaning widened c.args.number (meaning_of c.widened.result)
    (meaning_of c.in-Some.meaning) (entries_of c.args.self.now) (sym c.in-Some.ensures) c.widened.ensures

pub returns-in_default-clause-entries : goal.returns-in_default-clause-entries
returns-in_default-clause-entries c =
    sym (none_changed (with_meaning widened) c.args.number (entries_of c.args.self.now)
    (sym c.in_default.ensures))

pub returns-else-not-is_wide-clause-entries : goal.returns-else-not-is_wide-clause-entries
returns-else-not-is_wide-clause-entries c =
    let wide : c.is_wide.result ≡ true = search rules in
    sym (widened_still c.args.number (meaning_of c.in-Some.meaning) (entries_of c.args.self.now)
    (sym c.in-Some.ensures) (c.is_wide.ensures wide))
