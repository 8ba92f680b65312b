use Rattle.std.proofs.Common.{◌≡◌, ◌<◌, length, arith, rules, sym, ap, ◌∙◌}
use Rattle.std.proofs.lemmas.Bool.{eqb-true, eqb-false}
use Rattle.occam_parser.specs.declared.tree.Operand.TheFolds.{the_lemmas}
use Rattle.occam_parser.specs.Views.{expression_of}
use Rattle.scalar_ranges.specs.Bounds.{exact_value}
use Rattle.scalar_ranges.specs.Scopes.{entries_of}
use Rattle.line_pieces.proofs.OffsetsFound.{offset_found, no_offset}
use Rattle.line_pieces.proofs.expressions.offset_of.Goals as goal

pub returns-then-not-is_empty : goal.returns-then-not-is_empty
returns-then-not-is_empty c =
    let chain = c.in-Chain in
    let differs = eqb-false _ _ (sym c.is_empty.ensures ∙ c.if-not-is_empty.true) in
    let some : 0 < length chain.others.items = omega arith in
    no_offset (entries_of c.args.scope.now) chain.operator chain.first chain.second chain.others
    (expression_of c.args.expr.now) some (search (rules, the_lemmas))

pub returns-else-not-is_empty : goal.returns-else-not-is_empty
returns-else-not-is_empty c =
    let chain = c.in-Chain in
    let same = eqb-true _ _ (sym c.is_empty.ensures ∙ c.if-not-is_empty.false) in
    let none : length chain.others.items ≡ 0 = omega arith in
    offset_found (entries_of c.args.scope.now) chain.operator chain.first chain.second chain.others
    (expression_of c.args.expr.now) c.value-value.result c.added_by.result c.offset_or_none.result none
    (search (rules, the_lemmas)) (c.value-value.ensures ∙ ap exact_value c.read_operand.ensures.bounds)
    c.added_by.ensures c.offset_or_none.ensures
