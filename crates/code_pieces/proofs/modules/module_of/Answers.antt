use Rattle.std.proofs.Common.{◌≡◌, false, List, ap, subst, inl, inr, ◌∙◌, arith}
use Rattle.module_builder.specs.declared.fault.GenFault.TheVariants.{Invalid, Limit}
use Rattle.code_pieces.specs.Pieces.{Piece}
use Rattle.code_pieces.specs.PieceViews.{pieces_of}
use Rattle.code_pieces.specs.Laying.{apart}
use Rattle.code_pieces.specs.Laid.{IsLaidOut}
use Rattle.code_pieces.proofs.Faults.{handed_on}
use Rattle.code_pieces.proofs.ModuleLaws.{at_invalid, at_limit, draft_too_large, no_module}
use Rattle.code_pieces.proofs.modules.module_of.Goals as goal

pub returns-in_err-bytes-clause-limit : goal.returns-in_err-bytes-clause-limit
returns-in_err-bytes-clause-limit c = λ e.
    let ps = apart (pieces_of c.args.pieces.items) in
    let d = c.in_ok-draft.draft in
    let laid = subst (λ (qs : List Piece). IsLaidOut qs c.args.labels c.args.links d)
    (ap pieces_of c.deref.ensures.value ∙ c.in_ok-pieces.ensures.ok) c.in_ok-draft.ensures.ok in
    let fault = handed_on c.from_residual-in_err-bytes.result c.in_err-bytes.field-0.0 Limit
    c.from_residual-in_err-bytes.ensures.1 e in
    draft_too_large ps c.args.labels c.args.links d laid
    (at_limit d c.in_err-bytes.field-0.0 c.in_err-bytes.ensures fault)

pub returns-clause-ok : goal.returns-clause-ok
returns-clause-ok c = record {
  draft = c.in_ok-draft.draft;
  laid = subst (λ (qs : List Piece). IsLaidOut qs c.args.labels c.args.links c.in_ok-draft.draft)
      (ap pieces_of c.deref.ensures.value ∙ c.in_ok-pieces.ensures.ok) c.in_ok-draft.ensures.ok;
  assembled = c.in_ok-bytes.ensures;
}

pub returns-then-not-is_whole-clause-invalid : goal.returns-then-not-is_whole-clause-invalid
returns-then-not-is_whole-clause-invalid c = λ e.
    let off : c.is_whole.result ≡ false = first_of (assumption, grind arith) in
    no_module (pieces_of c.deref.result.now) (apart (pieces_of c.args.pieces.items)) c.args.labels c.args.links
    c.in_ok-draft.draft (ap pieces_of c.deref.ensures.value ∙ c.in_ok-pieces.ensures.ok) c.in_ok-draft.ensures.few
    c.in_ok-draft.ensures.ok c.in_ok-draft.ensures.within
    (inl (λ whole.
    let on = c.is_whole.ensures.1 whole in
    cc))

pub returns-in_err-bytes-clause-invalid : goal.returns-in_err-bytes-clause-invalid
returns-in_err-bytes-clause-invalid c = λ e.
    let fault = handed_on c.from_residual-in_err-bytes.result c.in_err-bytes.field-0.0 Invalid
    c.from_residual-in_err-bytes.ensures.1 e in
    no_module (pieces_of c.deref.result.now) (apart (pieces_of c.args.pieces.items)) c.args.labels c.args.links
    c.in_ok-draft.draft (ap pieces_of c.deref.ensures.value ∙ c.in_ok-pieces.ensures.ok) c.in_ok-draft.ensures.few
    c.in_ok-draft.ensures.ok c.in_ok-draft.ensures.within
    (inr (at_invalid c.in_ok-draft.draft c.in_err-bytes.field-0.0 c.in_err-bytes.ensures fault))
