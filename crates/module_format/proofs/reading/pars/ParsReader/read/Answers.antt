use Rattle.std.proofs.Common.{arith}
use Rattle.module_format.proofs.reading.pars.ParsReader.read.Goals as goal

pub overflow_add-contexts : goal.overflow_add-contexts
overflow_add-contexts c = omega (
  arith,
  c.len.ensures,
  c.args.self.now.few,
  c.args.self.now.branches.taken.entries.ok,
  c.args.self.now.branches.taken.entries.small,
)
