use Rattle.std.proofs.Common.{◌≡◌, ◌++◌, arith, rules}
use Rattle.occam_parser.specs.declared.tree.Operand.TheFolds.{the_lemmas}
use Rattle.occam_parser.specs.Views.{expression_of, term_of}
use Rattle.scalar_ranges.specs.Scopes.{entries_of}
use Rattle.program_uses.specs.Mentions.{name_reads, reads_of, reads_of_term}
use Rattle.program_uses.proofs.Adding.{adds_both, adds_as, gathers_none, gathers_next}
use Rattle.program_uses.proofs.Gathering.{operand_reads, chain_reads}
use Rattle.program_uses.proofs.uses.Uses.+read.Goals as goal

pub read-returns-in-Pair : goal.read-returns-in-Pair
read-returns-in-Pair t c =
    let es = entries_of c.args.scope.now in
    let both : reads_of_term es (term_of c.in-Pair.left) ++ reads_of_term es (term_of c.in-Pair.right)
    ≡ reads_of es (expression_of c.args.expr.now) = search (rules, the_lemmas) in
    adds_as both (adds_both c.read_operand-in-Pair.ensures c.read_operand-in-Pair-2.ensures)

pub read-loop-other-init : goal.read-loop-other-init
read-loop-other-init t c = gathers_none (operand_reads (entries_of c.args.scope.now)) c.read_operand-in-Chain-2.new.self

pub read-loop-other-preserved : goal.read-loop-other-preserved
read-loop-other-preserved t c =
    gathers_next (operand_reads (entries_of c.args.scope.now)) c.deref-other-items.result.now c.loop-other.other-index
    c.other-item.result c.other-item.result (omega arith) c.other-item.is c.loop-other.invariant
    c.read_operand-in-loop-other.ensures

pub read-returns-after-loop-other : goal.read-returns-after-loop-other
read-returns-after-loop-other t c =
    let chain = c.in-Chain in
    chain_reads (entries_of c.args.scope.now) chain.operator chain.first chain.second chain.others
    c.deref-other-items.result.now c.loop-other.other-index (expression_of c.args.expr.now) (omega arith)
    c.deref-other-items.ensures.value (search (rules, the_lemmas)) c.read_operand-in-Chain.ensures
    c.read_operand-in-Chain-2.ensures c.loop-other.invariant

pub read_operand-returns-in-Element : goal.read_operand-returns-in-Element
read_operand-returns-in-Element t c =
    let es = entries_of c.args.scope.now in
    let both : name_reads es c.in-Element.name.now ++ reads_of es (expression_of c.in-Element.subscript)
    ≡ reads_of_term es (term_of c.args.operand.now) = search (rules, the_lemmas) in
    adds_as both (adds_both c.read_name-in-Element.ensures c.read.ensures)
