-- Pieces that fit in the frame are allowed in its scene.
use Rattle.std.proofs.Common.{List, [], ◌∷◌, pos, arith}
use Rattle.prefix_decoder.specs.declared.function.Fun.TheVariants as fun
use Rattle.code_pieces.specs.Pieces.{Direct, Piece, TableAddress}
use Rattle.line_pieces.specs.Homes.{Home}
use Rattle.certified_lines.specs.Telling.{AreAllowed, IsAllowed}
use Rattle.meant_processes.specs.Places.{AllFit, FitsIn}
use Rattle.certified_processes.specs.Places.{Coded, IsInRoot, scene_at}

module _ (p : Coded) (root : IsInRoot p) (homes : List Home) where
  one_allowed : (piece : Piece) → FitsIn p.program piece → IsAllowed (scene_at p homes) piece
  one_allowed (Direct fun.StoreLocal (pos word)) fit =
      let few = root.few in
      (omega (arith, few, fit), root.uses.writes word (omega arith) fit, root.uses.reads word (omega arith) fit)
  one_allowed (TableAddress values) fit = fit
  one_allowed piece fit = tt

  -- so are all of several
  pub allowed : (ps : List Piece) → AllFit p.program ps → AreAllowed (scene_at p homes) ps
  allowed [] fit = tt
  allowed (piece ∷ ps) fit = (one_allowed piece fit.0, allowed ps fit.1)
