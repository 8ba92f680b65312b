use Rattle.code_generator.specs.Instances.{unknown_in}
use Rattle.code_generator.specs.PassedViews.{is_found}
use Rattle.std.proofs.Common.{arith}
use Rattle.code_generator.proofs.WordsForgotten.{next_mapped}
use Rattle.code_generator.proofs.passing.Words.all_forgotten.Goals as goal

pub loop-entry-preserved : goal.loop-entry-preserved
loop-entry-preserved c =
    next_mapped (unknown_in (is_found c.args.self.now)) c.args.entries.now c.loop-entry.entry-index _
    c.loop-entry.known.items c.push.new.self.items c.forgotten.result (omega arith) c.forgotten.ensures
    c.in_ok-push.ensures.items c.loop-entry.invariant
