-- Blocks by their words, for definitions above that write trees.
use Rattle.occam_parser.specs.declared.head.BlockKind.TheVariants as block
use Rattle.occam_parser.specs.Lines.{Replicator}
use Rattle.occam_parser.specs.Blocks.{Process, Construct, Block, Replicated, One, Components, Processes, Choices, Plain}

abbrev pub in_seq : Components Processes → Construct
in_seq cs = Block block.Seq cs

abbrev pub in_if : Components Choices → Construct
in_if cs = Block block.If cs

abbrev pub repeated_seq : Replicator → Process → Construct
repeated_seq r p = Replicated r (One block.Seq (Plain p))
