use Rattle.std.proofs.Common.{◌≡◌, ◌++◌, ℕ, List, Option, map, drop}
use Rattle.module_format.specs.declared.rows.ParRow.{ParRow}
use Rattle.module_builder.specs.declared.item.Label.{Label}
use Rattle.module_builder.specs.declared.draft.ContextName.{ContextName}
use Rattle.module_builder.specs.Placing.{placed_par}
use Rattle.code_pieces.specs.Pars.{Par}
use Rattle.code_pieces.specs.PieceViews.{pieces_of}
use Rattle.code_pieces.specs.Contexts.{context_name, AreNames}
use Rattle.code_pieces.specs.Laying.{pars_of}
use Rattle.code_pieces.specs.DraftedPars.{laid_par}
use Rattle.code_pieces.proofs.pars.par_rows.Given as goal

abbrev pub invariant-loop-piece : goal.invariant-loop-piece
invariant-loop-piece l =
    (all : List Par) (number : ContextName → ℕ) (offsets : List (Option ℕ)) → AreNames l.contexts all
    → map (λ (row : ParRow Label ContextName). placed_par offsets (number row.context) row) l.rows.items
    ++ map (laid_par (λ context. number (context_name all context)) offsets)
    (pars_of (pieces_of (drop l.piece-index l.pieces)))
    ≡ map (laid_par (λ context. number (context_name all context)) offsets) (pars_of (pieces_of l.pieces))
