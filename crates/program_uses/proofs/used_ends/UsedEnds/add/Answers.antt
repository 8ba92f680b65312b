use Rattle.program_uses.proofs.EndsJoined.{has_end_more}
use Rattle.program_uses.proofs.used_ends.UsedEnds.add.Goals as goal

pub returns : goal.returns
returns c =
    let updates = c.in_ok-insert.ensures.updates in
    has_end_more c.args.self.now.set.keys c.insert.new.self.keys c.args.end updates.0
