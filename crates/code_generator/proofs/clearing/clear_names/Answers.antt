use Rattle.std.proofs.Common.{◌≤◌, ◌++◌, length, map, arith, ap, ◌∙◌, Err}
use Rattle.module_builder.specs.declared.fault.GenFault.TheVariants.{Limit}
use Rattle.occam_parser.specs.LineViews.{any_of, spelling_of}
use Rattle.code_pieces.specs.Pieces.{word_after}
use Rattle.code_pieces.proofs.Faults.{handed_on}
use Rattle.line_pieces.specs.Declarations.{zero_code, zero_names}
use Rattle.code_generator.proofs.Exceeding.{much_more}
use Rattle.code_generator.proofs.NamesCleared.{zeros_next, zeros_done, zeros_whole, zeros_exceed}
use Rattle.code_generator.proofs.clearing.clear_names.Goals as goal

pub loop-name-preserved : goal.loop-name-preserved
loop-name-preserved c =
    zeros_next (any_of c.args.size.now) c.args.count c.deref-name-items.result.now c.loop-name._name-index
    c.loop-name.next c.word_after-next-in-loop-name.result _ c.loop-name.listing
    c.clear_name-in-loop-name.new.listing (omega arith) c.loop-name.invariant c.in_ok-clear_name-2.ensures.code
    c.word_after-next-in-loop-name.ensures

pub returns-clause-code : goal.returns-clause-code
returns-clause-code c =
    let items = c.deref-name-items.result.now in
    let done : length items ≤ c.loop-name._name-index = omega arith in
    zeros_done (any_of c.args.size.now) c.args.count items c.loop-name._name-index c.loop-name.next _
    c.loop-name.listing done c.loop-name.invariant
    ∙ zeros_whole (any_of c.args.size.now) c.args.count items c.args.names.now.others.items c.args.word
    c.word_after-next.result c.args.listing.now _ c.in_ok-clear_name.ensures.code c.deref-name-items.ensures.value
    c.word_after-next.ensures

pub returns-in_err-clear_name-clause-limit : goal.returns-in_err-clear_name-clause-limit
returns-in_err-clear_name-clause-limit c = λ e.
    let size = any_of c.args.size.now in
    let n = c.args.count in
    let fault = handed_on c.from_residual.result c.in_err-clear_name.field-0.0 Limit c.from_residual.ensures.1 e in
    much_more c.args.limits c.args.listing.now (zero_code size c.args.word n)
    (zero_names size n (map spelling_of c.args.names.now.others.items) (word_after c.args.word n))
    (c.in_err-clear_name.ensures.limit (ap Err fault))

pub returns-in_err-clear_name-2-clause-limit : goal.returns-in_err-clear_name-2-clause-limit
returns-in_err-clear_name-2-clause-limit c = λ e.
    let size = any_of c.args.size.now in
    let n = c.args.count in
    let items = c.deref-name-items.result.now in
    let fault = handed_on c.from_residual-in_err-clear_name-2.result c.in_err-clear_name-2.field-0.0 Limit
    c.from_residual-in_err-clear_name-2.ensures.1 e in
    zeros_exceed c.args.limits size n items c.loop-name._name-index c.loop-name.next c.args.listing.now
    (zero_code size c.args.word n
    ++ zero_names size n (map spelling_of c.args.names.now.others.items) (word_after c.args.word n))
    c.loop-name.listing (omega arith)
    (c.loop-name.invariant
    ∙ zeros_whole size n items c.args.names.now.others.items c.args.word c.word_after-next.result
    c.args.listing.now _ c.in_ok-clear_name.ensures.code c.deref-name-items.ensures.value c.word_after-next.ensures)
    (c.in_err-clear_name-2.ensures.limit (ap Err fault))
