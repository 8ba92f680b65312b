use Rattle.std.proofs.Common.{ap, ◌∙◌}
use Rattle.occam_parser.specs.declared.head.BlockKind.TheVariants as block
use Rattle.occam_parser.specs.declared.tree.Body.TheViews.{roll-Choice, roll-Branch}
use Rattle.occam_parser.specs.Blocks.{One}
use Rattle.occam_parser.proofs.SeenBlocks.{view-Body-If, view-Body-Alt, view-Choice, view-Branch}
use Rattle.occam_parser.proofs.block.ComponentHead.above.Goals as goal

pub returns-in-If : goal.returns-in-If
returns-in-If c =
    let choice = roll-Choice
    (record { line = c.in-If.line; condition = c.in-If.condition; process = c.args.process }) in
    rw c.in-If.is
    (view-Body-If choice ∙ ap (One block.If) (view-Choice c.in-If.line c.in-If.condition c.args.process))

pub returns-in-Alt : goal.returns-in-Alt
returns-in-Alt c =
    let branch = roll-Branch (record { line = c.in-Alt.line; guard = c.in-Alt.guard; process = c.args.process }) in
    rw c.in-Alt.is
    (view-Body-Alt branch ∙ ap (One block.Alt) (view-Branch c.in-Alt.line c.in-Alt.guard c.args.process))
