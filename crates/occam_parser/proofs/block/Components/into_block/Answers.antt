use Rattle.occam_parser.proofs.SeenBlocks.{view-Seq, view-Par, view-If, view-Alt}
use Rattle.occam_parser.proofs.block.Components.into_block.Goals as goal

pub returns-in-Seq : goal.returns-in-Seq
returns-in-Seq c = rw c.in-Seq.is (view-Seq c.args.self.processes)

pub returns-in-Par : goal.returns-in-Par
returns-in-Par c = rw c.in-Par.is (view-Par c.args.self.processes)

pub returns-in-If : goal.returns-in-If
returns-in-If c = rw c.in-If.is (view-If c.args.self.choices)

pub returns : goal.returns
returns c = rw c.in-Alt.is (view-Alt c.args.self.branches)
