use Rattle.std.proofs.Common.{◌≡◌, map, ap, sym, ◌∙◌, rules}
use Rattle.occam_parser.specs.declared.tree.Body.{the_lemmas}
use Rattle.occam_parser.specs.LineViews.{declaration_of}
use Rattle.occam_parser.specs.Blocks.{Does}
use Rattle.occam_parser.specs.BlockReading.{with_declarations}
use Rattle.occam_parser.specs.BlockViews.{process_of, construct_of, all_processes}
use Rattle.occam_parser.proofs.SeenBlocks.{view-Seq, view-Par}
use Rattle.program_work.specs.Sums.{both, in_block, not_sequential, sums_of, sums_of_construct, sums_of_components}
use Rattle.program_work.proofs.SumsTogether.{block_sums, declared_sums}
use Rattle.program_work.proofs.sums.+sum.Goals as goal

pub sums_of-returns : goal.sums_of-returns
sums_of-returns t c =
    let p = c.args.process.now in
    let ds = map declaration_of c.deref.result.now in
    let k = construct_of c.deref-2.result.now in
    let view : with_declarations (map declaration_of p.declarations.items)
    (Does p.line (construct_of p.construct.value)) ≡ process_of p = search (rules, the_lemmas) in
    c.and.ensures
    ∙ (λ i. both (c.sums_of_declarations.ensures i) (c.sums_of_construct.ensures i))
    ∙ declared_sums ds p.line k
    ∙ (λ i. sums_of (with_declarations (map declaration_of (c.deref.ensures.value i))
    (Does p.line (construct_of (c.deref-2.ensures i)))))
    ∙ ap sums_of view

pub sums_of_construct-returns-in-Seq : goal.sums_of_construct-returns-in-Seq
sums_of_construct-returns-in-Seq t c =
    let v = c.in-Seq.processes in
    c.in_block.ensures ∙ ap in_block c.sums_of_processes.ensures
    ∙ ap (λ ps. in_block (sums_of_components (all_processes ps))) c.deref.ensures.value
    ∙ block_sums (all_processes v.items)
    ∙ ap sums_of_construct (sym (view-Seq v) ∙ ap construct_of (sym c.in-Seq.is))

pub sums_of_construct-returns-in-Par : goal.sums_of_construct-returns-in-Par
sums_of_construct-returns-in-Par t c =
    let v = c.in-Par.processes in
    c.not_sequential.ensures ∙ ap not_sequential c.in_block-in-Par.ensures
    ∙ ap (λ s. not_sequential (in_block s)) c.sums_of_processes-in-Par.ensures
    ∙ ap (λ ps. not_sequential (in_block (sums_of_components (all_processes ps)))) c.deref-in-Par.ensures.value
    ∙ ap not_sequential (block_sums (all_processes v.items))
    ∙ ap sums_of_construct (sym (view-Par v) ∙ ap construct_of (sym c.in-Par.is))
