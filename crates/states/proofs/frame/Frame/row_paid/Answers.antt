use Rattle.std.proofs.Common.{refl}
use Rattle.states.specs.State.{entry_fact}
use Rattle.states.specs.Frames.{frame_facts}
use Rattle.states.proofs.Entering.{walk-begin}
use Rattle.states.proofs.frame.Frame.row_paid.Goals as goal

pub loop-base-init : goal.loop-base-init
loop-base-init c = record {
  apart = c.args.self.now.apart;
  walk =
      walk-begin (entry_fact c.args.self.now.row.now) (frame_facts c.args.self.now) c.args.row.now
      c.args.self.now.row.now
      c.requires (λ k l. refl);
}
