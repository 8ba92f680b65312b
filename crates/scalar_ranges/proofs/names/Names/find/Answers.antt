use Rattle.std.proofs.Common.{sym}
use Rattle.scalar_ranges.proofs.names.Names.find.Goals as goal

pub index-requires : goal.index-requires
index-requires c =
    c.args.self.now.within c.args.name.now c.in_ok-spelling.spelling (sym c.in_ok-spelling.ensures)
