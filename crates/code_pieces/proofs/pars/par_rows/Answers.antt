use Rattle.std.proofs.Common.{◌≡◌, ◌+◌, [], ◌∷◌, ◌++◌, ◌∙◌, List, drop, map, refl, sym, subst, ap, append_assoc, arith}
use Rattle.std.proofs.Common.{Vec, Global}
use Rattle.std.proofs.lemmas.List.{map-append}
use Rattle.module_format.specs.declared.rows.ParRow.{ParRow}
use Rattle.module_builder.specs.declared.item.Label.{Label}
use Rattle.module_builder.specs.declared.draft.ContextName.{ContextName}
use Rattle.module_builder.specs.Placing.{placed_par}
use Rattle.code_pieces.specs.declared.piece.Par.{Par}
use Rattle.code_pieces.specs.declared.piece.Piece as code_piece
use Rattle.code_pieces.specs.declared.piece.Piece.TheVariants as pieces
use Rattle.code_pieces.specs.PieceViews.{par_of, piece_of, pieces_of}
use Rattle.code_pieces.specs.Contexts.{context_name}
use Rattle.code_pieces.specs.Laying.{pars_of}
use Rattle.code_pieces.specs.DraftedPars.{laid_par}
use Rattle.code_pieces.specs.WellFormed.{IsOfOneProcess}
use Rattle.code_pieces.proofs.NamedLabels.{piece_at}
use Rattle.code_pieces.proofs.RestOfPieces.{at_first}
use Rattle.code_pieces.proofs.pars.par_rows.Goals as goal
use Rattle.code_pieces.proofs.pars.par_rows.Goals.{in-Par+in_ok-par_row+in_ok-push, in_default}

-- one more row is what it should be
row_pushed : {X Y Z : Type 0} (f : X → Z) (g : Y → Z) (rows : List X) (row : X) (y : Y) (left : List Y) (all : List Z)
    → f row ≡ g y → map f rows ++ map g (y ∷ left) ≡ all → map f (rows ++ row ∷ []) ++ map g left ≡ all
row_pushed f g rows row y left all same before =
    ap (λ zs. zs ++ map g left) (map-append f rows (row ∷ []))
    ∙ append_assoc (map f rows) (f row ∷ []) (map g left)
    ∙ ap (λ z. map f rows ++ z ∷ map g left) same ∙ before

pub loop-piece-preserved : goal.loop-piece-preserved
loop-piece-preserved c = λ all number offsets named.
    let pieces = c.args.pieces.now in
    let i = c.loop-piece.piece-index in
    let left = pieces_of (drop (i + 1) pieces) in
    let placed = λ (row : ParRow Label ContextName). placed_par offsets (number row.context) row in
    let laid = laid_par (λ context. number (context_name all context)) offsets in
    let before = c.loop-piece.invariant all number offsets named in
    let whole : (p : code_piece.Piece) → c.piece-item.result ≡ p
    → map placed c.loop-piece.rows.items ++ map laid (pars_of (piece_of p ∷ left))
    ≡ map laid (pars_of (pieces_of pieces)) =
    λ p is. sym (ap (λ ps. map placed c.loop-piece.rows.items ++ map laid ps)
    (at_first (λ (qs : List code_piece.Piece). pars_of (pieces_of qs)) pieces i c.piece-item.result (omega arith)
    c.piece-item.is ∙ ap (λ (p : code_piece.Piece). pars_of (piece_of p ∷ left)) is)) ∙ before in
    elim c.match-piece.branch [
      | in-Par+in_ok-par_row+in_ok-push w ↦
          let row = w.in_ok-par_row.field-0 in
          let items : c.match-piece.rows.items ≡ c.loop-piece.rows.items ++ row ∷ [] =
          ap (λ (rows : Vec (ParRow Label ContextName) Global). rows.items) w.rows-is ∙ w.in_ok-push.ensures.items in
          ap (λ (rows : List (ParRow Label ContextName)). map placed rows ++ map laid (pars_of left)) items
          ∙ row_pushed placed laid c.loop-piece.rows.items row (par_of w.in-Par.par) (pars_of left)
          (map laid (pars_of (pieces_of pieces)))
          (w.in_ok-par_row.ensures.ok all number offsets named) (whole _ w.in-Par.is)
      | in_default w ↦
          let none : pars_of (piece_of c.piece-item.result ∷ left) ≡ pars_of left = grind arith in
          (λ j. map placed (w.rows-is j).items ++ map laid (sym none j))
          ∙ whole c.piece-item.result refl
    ]

-- a piece that is a PAR is not of one process
no_par : (p : code_piece.Piece) (par : Par) → p ≡ pieces.Par par → IsOfOneProcess (piece_of p) → ⊥
no_par p par is alone = subst (λ (q : code_piece.Piece). IsOfOneProcess (piece_of q)) is alone

pub returns-in_err-par_row-clause-invalid : goal.returns-in_err-par_row-clause-invalid
returns-in_err-par_row-clause-invalid c = λ e alone.
    no_par c.piece-item.result c.in-Par.par c.in-Par.is
    (piece_at IsOfOneProcess c.args.pieces.now c.loop-piece.piece-index c.piece-item.result (omega arith)
    c.piece-item.is alone)
