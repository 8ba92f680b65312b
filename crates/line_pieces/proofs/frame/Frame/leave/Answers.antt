use Rattle.std.proofs.Common.{ap, sym, ◌∙◌}
use Rattle.std.proofs.lemmas.List.{take-map}
use Rattle.line_pieces.specs.HomeViews.{home_seen, homes_seen}
use Rattle.line_pieces.proofs.frame.Frame.leave.Goals as goal

pub returns-clause-homes : goal.returns-clause-homes
returns-clause-homes c =
    ap homes_seen c.truncate.ensures.items ∙ sym (take-map home_seen c.args.count c.args.self.now.homes.items)
