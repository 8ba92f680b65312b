use Rattle.std.proofs.Common.{sym, ◌∙◌}
use Rattle.scalar_ranges.specs.Scopes.{entries_of}
use Rattle.scalar_ranges.proofs.Rows.{cut_none}
use Rattle.code_generator.proofs.OutermostNames.{both_outermost}
use Rattle.code_generator.proofs.lending.shared.Goals as goal

pub loop-number-init : goal.loop-number-init
loop-number-init c = cut_none (entries_of c.args.first.now) ∙ sym (cut_none (entries_of c.args.second.now))

pub loop-number-preserved : goal.loop-number-preserved
loop-number-preserved c =
    both_outermost c.loop-number.number (entries_of c.args.first.now) (entries_of c.args.second.now)
    c.loop-number.invariant
    (sym c.entry-entry.ensures ∙ c.are_same.ensures c.if-not-are_same.false ∙ c.entry.ensures)
