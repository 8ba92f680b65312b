-- What the modules of small code say, by computing it.
use Rattle.std.proofs.Common.{refl}
use Rattle.code_pieces.specs.Pieces.{counted}
use Rattle.code_pieces.specs.SmallPar.{SmallParIsLaid}
use Rattle.code_pieces.specs.SmallAlternation.{SmallAlternationIsLaid}

pub small_par_is_laid : SmallParIsLaid
unfolding counted
small_par_is_laid = record { apart = refl; lengths = refl; is = refl }

pub small_alternation_is_laid : SmallAlternationIsLaid
unfolding counted
small_alternation_is_laid = record { apart = refl; lengths = refl; is = refl }

pub ruleset worked_modules = (small_par_is_laid, small_alternation_is_laid)
