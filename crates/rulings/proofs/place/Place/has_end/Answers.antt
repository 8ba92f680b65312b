use Rattle.rulings.specs.Channels.{further}
use Rattle.rulings.proofs.EndNumbers.{not_numbered}
use Rattle.rulings.proofs.place.Place.has_end.Goals as goal

pub returns-in-None : goal.returns-in-None
returns-in-None c =
    not_numbered c.args.self.now.module.now c.requires c.args.context
    (further c.args.first c.args.n) c.args.direction (rw c.in-None.is at c.further.ensures)
