use Rattle.std.proofs.Common.{arith, refl, ◌∙◌}
use Rattle.scalar_ranges.specs.Scopes.{entries_of}
use Rattle.scalar_ranges.proofs.Widening.{widen_none, widen_step}
use Rattle.scalar_ranges.proofs.scope.Scope.widen.Goals as goal

pub loop-number-init : goal.loop-number-init
loop-number-init c = record { entries = widen_none (entries_of c.args.self.now); blocks = refl }

pub loop-number-preserved : goal.loop-number-preserved
loop-number-preserved c = record {
  entries = widen_step c.args.numbers.now c.loop-number.number-index (entries_of c.args.self.now)
      (entries_of c.loop-number.self) (entries_of c.receive.new.self) (omega arith) c.loop-number.invariant.entries
      c.receive.ensures.entries;
  blocks = c.receive.ensures.blocks ∙ c.loop-number.invariant.blocks;
}
