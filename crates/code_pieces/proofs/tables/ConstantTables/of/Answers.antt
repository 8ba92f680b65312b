use Rattle.std.proofs.Common.{◌≡◌, ◌∙◌, ◌+◌, [], ◌∷◌, List, ℤ, Err, drop, sym, ap, subst, arith}
use Rattle.module_builder.specs.declared.fault.GenFault.TheVariants.{Limit}
use Rattle.code_pieces.specs.declared.piece.Piece as code_piece
use Rattle.code_pieces.specs.PieceViews.{piece_of, pieces_of}
use Rattle.code_pieces.specs.Laying.{with_table, tables_before}
use Rattle.code_pieces.specs.Tables.{TablesAreWithin}
use Rattle.code_pieces.proofs.Faults.{handed_on}
use Rattle.code_pieces.proofs.RestOfPieces.{at_first}
use Rattle.code_pieces.proofs.TableLaws.{within_before}
use Rattle.code_pieces.proofs.tables.ConstantTables.of.Goals as goal

pub returns-in_err-add-clause-limit : goal.returns-in_err-add-clause-limit
returns-in_err-add-clause-limit c = λ e within.
    let pieces = c.args.pieces.now in
    let i = c.loop-piece.piece-index in
    let before = c.loop-piece.tables in
    let left = pieces_of (drop (i + 1) pieces) in
    let values = c.in-TableAddress.values.value.items in
    let same : c.deref-in-TableAddress.result.now ≡ values = cc in
    let first : tables_before before (pieces_of (drop i pieces)) ≡ tables_before (with_table values before) left =
    at_first (λ (qs : List code_piece.Piece). tables_before before (pieces_of qs)) pieces i c.piece-item.result
    (omega arith) c.piece-item.is
    ∙ ap (λ (p : code_piece.Piece). tables_before before (piece_of p ∷ left)) c.in-TableAddress.is in
    let all : tables_before [] (pieces_of pieces)
    ≡ tables_before (with_table c.deref-in-TableAddress.result.now before) left =
    sym c.loop-piece.invariant ∙ first
    ∙ sym (ap (λ (vs : List ℤ). tables_before (with_table vs before) left) same) in
    let fault = handed_on c.from_residual.result c.in_err-add.field-0.0 Limit c.from_residual.ensures.1 e in
    c.in_err-add.ensures.limit (ap Err fault)
    (within_before (with_table c.deref-in-TableAddress.result.now before) left (subst TablesAreWithin all within))
