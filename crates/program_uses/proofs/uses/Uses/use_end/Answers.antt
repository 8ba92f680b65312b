use Rattle.std.proofs.Common.{ap, ◌∙◌}
use Rattle.scalar_ranges.specs.Scopes.{entries_of}
use Rattle.program_uses.specs.Places.{spot_of, uses_spot}
use Rattle.program_uses.proofs.Adding.{adds_both, adds_as}
use Rattle.program_uses.proofs.uses.Uses.use_end.Goals as goal

pub returns : goal.returns
returns c =
    let spot = c.spot_of.ensures ∙ ap (spot_of (entries_of c.args.scope.now)) c.place_ref.ensures in
    adds_both (adds_as (ap (uses_spot c.args.direction) spot) c.use_spot.ensures) c.read_if_any.ensures
