use Rattle.std.proofs.Common.{◌≤◌, length, ◌∙◌, sym, arith}
use Rattle.scalar_ranges.specs.Naming.{names_from}
use Rattle.scalar_ranges.proofs.Found.{none_less, as_many}
use Rattle.scalar_ranges.proofs.names.Names.truncate.Goals as goal

pub returns : goal.returns
returns c =
    let many = as_many c.loop-self.self.rows.items in
    let few : length (names_from c.loop-self.self.rows.items) ≤ c.args.count = omega arith in
    sym (none_less c.args.count (names_from c.loop-self.self.rows.items) few) ∙ c.loop-self.invariant
