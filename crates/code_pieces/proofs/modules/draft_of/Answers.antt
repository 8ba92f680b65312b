use Rattle.std.proofs.Common.{◌≡◌, ◌≤◌, false, length, Err, ap, arith}
use Rattle.module_builder.specs.declared.fault.GenFault.TheVariants.{Invalid}
use Rattle.code_pieces.specs.PieceViews.{pieces_of}
use Rattle.code_pieces.proofs.Faults.{handed_on}
use Rattle.code_pieces.proofs.ModuleLaws.{few_words, count_labels, not_well_formed, not_complete}
use Rattle.code_pieces.proofs.modules.draft_of.Goals as goal

pub returns-in_err-contexts-clause-invalid : goal.returns-in_err-contexts-clause-invalid
returns-in_err-contexts-clause-invalid c = λ e.
    let ps = pieces_of c.args.pieces.now in
    let few = few_words ps c.in_ok-words.words c.in_ok-words.ensures.ok c.in_ok-words.ensures.few in
    let fault = handed_on c.from_residual-in_err-contexts.result c.in_err-contexts.field-0.0 Invalid
    c.from_residual-in_err-contexts.ensures.1 e in
    not_well_formed ps c.args.labels c.args.links few
    (λ well. c.in_err-contexts.ensures.invalid (ap Err fault) well.alone)

pub returns-in_err-draft-clause-invalid : goal.returns-in_err-draft-clause-invalid
returns-in_err-draft-clause-invalid c = λ e.
    let ps = pieces_of c.args.pieces.now in
    let few = few_words ps c.in_ok-words.words c.in_ok-words.ensures.ok c.in_ok-words.ensures.few in
    let fault = handed_on c.from_residual-in_err-draft.result c.in_err-draft.field-0.0 Invalid
    c.from_residual-in_err-draft.ensures.1 e in
    not_well_formed ps c.args.labels c.args.links few (c.in_err-draft.ensures.invalid (ap Err fault))

pub returns-in_err-needs-clause-invalid : goal.returns-in_err-needs-clause-invalid
returns-in_err-needs-clause-invalid c = λ e.
    let ps = pieces_of c.args.pieces.now in
    let few = few_words ps c.in_ok-words.words c.in_ok-words.ensures.ok c.in_ok-words.ensures.few in
    let fault = handed_on c.from_residual-in_err-needs.result c.in_err-needs.field-0.0 Invalid
    c.from_residual-in_err-needs.ensures.1 e in
    not_well_formed ps c.args.labels c.args.links few
    (λ well. c.in_err-needs.ensures.invalid (ap Err fault) well.named)

pub returns-in_err-rows-clause-invalid : goal.returns-in_err-rows-clause-invalid
returns-in_err-rows-clause-invalid c = λ e.
    let ps = pieces_of c.args.pieces.now in
    let few = few_words ps c.in_ok-words.words c.in_ok-words.ensures.ok c.in_ok-words.ensures.few in
    let fault = handed_on c.from_residual-in_err-rows.result c.in_err-rows.field-0.0 Invalid
    c.from_residual-in_err-rows.ensures.1 e in
    let code = c.in_ok-draft.draft.code in
    let count = count_labels code ps c.args.labels c.in_ok-draft.ensures.ok.code in
    let enough : c.args.labels ≤ length code.labels = omega (arith, count) in
    not_well_formed ps c.args.labels c.args.links few (λ well.
    c.in_err-rows.ensures.invalid (ap Err fault) c.args.labels c.in_ok-needs.ensures.labels enough well.named
    well.alone well.words)

pub returns-then-not-is_complete-clause-invalid : goal.returns-then-not-is_complete-clause-invalid
returns-then-not-is_complete-clause-invalid c = λ e.
    let ps = pieces_of c.args.pieces.now in
    let few = few_words ps c.in_ok-words.words c.in_ok-words.ensures.ok c.in_ok-words.ensures.few in
    let off : c.is_complete.result ≡ false = first_of (assumption, grind arith) in
    not_complete ps c.args.labels c.args.links c.in_ok-draft.draft.code few c.in_ok-draft.ensures.ok.code
    (λ complete.
    let on = c.is_complete.ensures.1 complete in
    cc)
