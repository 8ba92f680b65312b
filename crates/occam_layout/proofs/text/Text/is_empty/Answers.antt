use Rattle.std.proofs.Common.{◌∙◌, sym}
use Rattle.std.proofs.lemmas.Bool.{eqb-true, eq-eqb}
use Rattle.occam_layout.proofs.Quoted.{nothing_spelled, nothing_shown}
use Rattle.occam_layout.proofs.text.Text.is_empty.Goals as goal

pub returns : goal.returns
returns c =
    let spelling = c.args.self.spelling.now in (
      λ true. nothing_shown spelling (eqb-true _ _ (sym c.is_empty.ensures ∙ true)),
      λ none.
          c.is_empty.ensures ∙ eq-eqb _ _ (nothing_spelled spelling c.args.self.well_formed none),
    )
