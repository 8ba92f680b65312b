use Rattle.std.proofs.Common.{◌≡◌, ◌∙◌, List, Err, sym, ap, arith}
use Rattle.std.proofs.lemmas.Grind.{common_steps}
use Rattle.module_builder.specs.declared.fault.GenFault.TheVariants.{Invalid}
use Rattle.code_pieces.specs.declared.piece.RowEntry.{RowEntry}
use Rattle.code_pieces.specs.declared.piece.Workspace.{Workspace}
use Rattle.code_pieces.specs.Pieces.{Row}
use Rattle.code_pieces.specs.PieceViews.{piece_of}
use Rattle.code_pieces.proofs.Faults.{handed_on}
use Rattle.code_pieces.proofs.NamedLabels.{row_there, still_there}
use Rattle.code_pieces.proofs.saying.rows_of.Goals as goal

pub loop-piece-preserved : goal.loop-piece-preserved
loop-piece-preserved c = record {
  rows = grind (arith, common_steps);
  root = λ alone. ap (λ (w : Workspace). w.context)
      (c.workspace_behind-workspace.ensures
      ∙ still_there c.args.pieces.now c.loop-piece.piece-index c.piece-item.result c.loop-piece.workspace (omega arith)
      c.piece-item.is alone)
      ∙ c.loop-piece.invariant.root alone;
}

pub returns-in_err-row-clause-invalid : goal.returns-in_err-row-clause-invalid
returns-in_err-row-clause-invalid c = λ e labels has many named alone few.
    let entries = c.in-Row.entries.items in
    let same : c.deref.result.now ≡ entries = cc in
    let invalid = handed_on c.from_residual.result c.in_err-row.field-0.0 Invalid c.from_residual.ensures.1 e in
    let both = row_there labels c.args.pieces.now c.loop-piece.piece-index c.piece-item.result c.in-Row.label
    c.deref.result.now (omega arith) c.piece-item.is
    (ap piece_of c.in-Row.is ∙ sym (ap (λ (es : List RowEntry). Row c.in-Row.label es) same)) named few in
    c.in_err-row.ensures.invalid (ap Err invalid) labels has many (c.loop-piece.invariant.root alone) both.0 both.1
