use Rattle.std.proofs.Common.{Err, List, ℕ, ap, ◌∙◌}
use Rattle.module_builder.specs.declared.fault.GenFault.TheVariants.{Limit}
use Rattle.code_pieces.specs.PieceViews.{pieces_of}
use Rattle.code_pieces.specs.Laying.{sizes_of}
use Rattle.code_pieces.proofs.Faults.{handed_on}
use Rattle.code_pieces.proofs.ModuleLaws.{as_many_sizes, needs_fit, needs_too_much}
use Rattle.code_pieces.proofs.modules.needs_in.Goals as goal

pub of-requires : goal.of-requires
of-requires c =
    as_many_sizes c.args.pieces.now c.deref-2.result.now c.deref.result.now
    (c.deref-2.ensures.value ∙ c.in_ok-sizes.ensures.ok)

pub returns-in_err-needs-clause-limit : goal.returns-in_err-needs-clause-limit
returns-in_err-needs-clause-limit c = λ e lengths other.
    let ps = pieces_of c.args.pieces.now in
    let fault = handed_on c.from_residual-in_err-needs.result c.in_err-needs.field-0.0 Limit
    c.from_residual-in_err-needs.ensures.1 e in
    needs_too_much c.args.draft.now.code ps c.deref-2.result.now c.in_ok-layout.layout.lengths.items lengths
    c.in_ok-layout.ensures.least
    (c.deref-2.ensures.value ∙ c.in_ok-sizes.ensures.ok ∙ ap (λ (ls : List ℕ). sizes_of ps ls) c.deref.ensures.value)
    (c.in_err-needs.ensures.limit (ap Err fault)) other

pub returns-clause-within : goal.returns-clause-within
returns-clause-within c =
    let ps = pieces_of c.args.pieces.now in
    needs_fit c.args.draft.now.code ps c.deref-2.result.now c.in_ok-layout.layout.lengths.items
    c.in_ok-layout.ensures.least
    (c.deref-2.ensures.value ∙ c.in_ok-sizes.ensures.ok ∙ ap (λ (ls : List ℕ). sizes_of ps ls) c.deref.ensures.value)
    c.in_ok-needs.ensures.within
