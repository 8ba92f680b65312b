use Rattle.std.proofs.Common.{◌≡◌, ◌+◌, ◌-◌, ◌∙◌, ℕ, List, drop, Err, ap, sym, arith, subst}
use Rattle.std.proofs.lemmas.List.{drop-map}
use Rattle.code_pieces.specs.PieceViews.{piece_of, pieces_of}
use Rattle.code_pieces.specs.Pieces.{Piece}
use Rattle.code_pieces.specs.Numbers.{Needs, needs_of}
use Rattle.code_pieces.specs.Needed.{IsKnown}
use Rattle.code_pieces.specs.WellFormed.{labels_named, AreBelow}
use Rattle.module_builder.specs.declared.fault.GenFault.TheVariants.{Limit, Invalid}
use Rattle.code_pieces.proofs.Faults.{handed_on}
use Rattle.code_pieces.proofs.NamedLabels.{piece_at}
use Rattle.code_pieces.proofs.NeedsWithin.{AreWithinFrom, one_within}
use Rattle.code_pieces.proofs.RestOfPieces.{is_reached}
use Rattle.code_pieces.proofs.needs.Needs.of.Goals as goal

pub loop-number-preserved : goal.loop-number-preserved
loop-number-preserved c =
    let pieces = c.args.pieces.now in
    let sizes = c.args.sizes.now in
    let i : ℕ = c.loop-number.number - 1 in
    let next : c.loop-number.number ≡ i + 1 = omega arith in
    let here = is_reached pieces sizes c.loop-number.number i c.index-pieces-number.result c.loop-number.needs next
    (omega arith) (omega arith) c.index-pieces-number.is c.loop-number.invariant.known in
    let known : IsKnown c.enter.new.self (needs_of (pieces_of (drop i pieces)) (drop i sizes)) =
    subst (IsKnown c.enter.new.self)
    (sym here.step ∙ ap (λ (qs : List Piece). needs_of qs (drop i sizes)) (drop-map piece_of i pieces))
    (c.in_ok-enter.ensures.ok _ here.known) in
    let need = c.in_ok-enter.ensures.within c.loop-number.invariant.need in
    let after = subst (λ (k : ℕ). AreWithinFrom k (pieces_of pieces) sizes) next c.loop-number.invariant.within in
    record {
      known = known;
      need = need;
      labels = c.in_ok-enter.ensures.labels c.args.labels c.loop-number.invariant.labels;
      within = one_within pieces sizes i c.enter.new.self known need after;
    }

pub returns-in_err-enter-clause-limit : goal.returns-in_err-enter-clause-limit
returns-in_err-enter-clause-limit c = λ e within.
    let i : ℕ = c.loop-number.number - 1 in
    let here = is_reached c.args.pieces.now c.args.sizes.now c.loop-number.number i c.index-pieces-number.result
    c.loop-number.needs (omega arith) (omega arith) (omega arith) c.index-pieces-number.is
    c.loop-number.invariant.known in
    let limit = handed_on c.from_residual-in_err-enter.result c.in_err-enter.field-0.0 Limit
    c.from_residual-in_err-enter.ensures.1 e in
    let above = c.in_err-enter.ensures.limit (ap Err limit) _ here.known in
    let inside = within.each i in
    absurd (omega (arith, ap (λ (n : Needs). n.need) here.step))

pub returns-in_err-enter-clause-invalid : goal.returns-in_err-enter-clause-invalid
returns-in_err-enter-clause-invalid c = λ e named.
    let labels = c.args.labels in
    let invalid = handed_on c.from_residual-in_err-enter.result c.in_err-enter.field-0.0 Invalid
    c.from_residual-in_err-enter.ensures.1 e in
    c.in_err-enter.ensures.invalid (ap Err invalid) labels c.loop-number.invariant.labels
    (piece_at (λ (p : Piece). AreBelow labels (labels_named p)) c.args.pieces.now (c.loop-number.number - 1)
    c.index-pieces-number.result (omega arith) c.index-pieces-number.is named)
