use Rattle.std.proofs.Common.{◌≡◌, Err, map, ap, subst}
use Rattle.module_builder.specs.declared.fault.GenFault.TheVariants.{Invalid, Limit}
use Rattle.std.proofs.Common.{true}
use Rattle.std.specs.List.{AllByRecursion}
use Rattle.code_pieces.specs.PieceViews.{pieces_of}
use Rattle.meant_code.specs.OwnCode.{OperandFits}
use Rattle.occam_parser.specs.BlockViews.{item_of}
use Rattle.occam_parser.specs.Words.{items_have_words}
use Rattle.usage_checks.specs.ItemRules.{BreaksNoRule}
use Rattle.code_pieces.proofs.Faults.{handed_on}
use Rattle.valid_code.specs.ValidPrograms.{SaysTables}
use Rattle.compiler.proofs.Generated.{has_pieces, generated_of, too_much_of, too_large_of}
use Rattle.compiler.proofs.NeverInvalid.{never_invalid}
use Rattle.compiler.proofs.generating.generate.Goals as goal

pub returns-clause-ok : goal.returns-clause-ok
returns-clause-ok c =
    generated_of (map item_of c.args.program.now.program.items.items) _ _ _ _
    (subst (λ p. BreaksNoRule (map item_of p.items.items)) c.program.ensures.program c.program.ensures.unbroken)
    (subst (λ p. items_have_words (map item_of p.items.items) ≡ true) c.program.ensures.program c.program.ensures.words)
    (subst (λ ps. AllByRecursion OperandFits (pieces_of ps)) c.deref.ensures.value c.operands_are_words.ensures)
    (has_pieces c.program.ensures.program c.items.ensures.items c.link_lengths-links.ensures c.code.view_is
    c.in_ok-code.ensures.ok c.into_pieces-pieces.ensures)
    c.in_ok-bytes.ensures.ok

pub returns-in_err-code-clause-limit : goal.returns-in_err-code-clause-limit
returns-in_err-code-clause-limit c = λ e sequential.
    let fault = handed_on c.from_residual.result c.in_err-code.field-0.0 Limit
    c.from_residual.ensures.1 e in
    too_much_of (map item_of c.args.program.now.program.items.items) sequential
    (c.in_err-code.ensures.limit (ap Err fault) sequential)

pub returns-in_err-bytes-clause-limit : goal.returns-in_err-bytes-clause-limit
returns-in_err-bytes-clause-limit c = λ e sequential.
    let fault = handed_on c.from_residual-in_err-bytes.result c.in_err-bytes.field-0.0 Limit
    c.from_residual-in_err-bytes.ensures.1 e in
    too_large_of (map item_of c.args.program.now.program.items.items) _ _ _ sequential
    (has_pieces c.program.ensures.program c.items.ensures.items c.link_lengths-links.ensures c.code.view_is
    c.in_ok-code.ensures.ok c.into_pieces-pieces.ensures)
    (c.in_err-bytes.ensures.limit (ap Err fault))

pub returns-in_err-code-clause-invalid : goal.returns-in_err-code-clause-invalid
returns-in_err-code-clause-invalid c = λ e sequential.
    let fault = handed_on c.from_residual.result c.in_err-code.field-0.0 Invalid
    c.from_residual.ensures.1 e in
    c.in_err-code.ensures.invalid (ap Err fault) sequential

pub returns-in_err-bytes-clause-invalid : goal.returns-in_err-bytes-clause-invalid
returns-in_err-bytes-clause-invalid c = λ e sequential.
    let fault = handed_on c.from_residual-in_err-bytes.result c.in_err-bytes.field-0.0 Invalid
    c.from_residual-in_err-bytes.ensures.1 e in
    never_invalid (map item_of c.args.program.now.program.items.items) _ _ _
    (subst (λ p. BreaksNoRule (map item_of p.items.items)) c.program.ensures.program c.program.ensures.unbroken)
    (subst (λ p. items_have_words (map item_of p.items.items) ≡ true) c.program.ensures.program c.program.ensures.words)
    (subst (λ ps. AllByRecursion OperandFits (pieces_of ps)) c.deref.ensures.value c.operands_are_words.ensures)
    (subst (λ ps. AllByRecursion SaysTables (pieces_of ps)) c.deref-2.ensures.value c.tables_are_words.ensures)
    (has_pieces c.program.ensures.program c.items.ensures.items c.link_lengths-links.ensures c.code.view_is
    c.in_ok-code.ensures.ok c.into_pieces-pieces.ensures)
    sequential
    (c.in_err-bytes.ensures.invalid (ap Err fault))
