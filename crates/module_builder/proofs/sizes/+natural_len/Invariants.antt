use Rattle.module_builder.proofs.sizes.+natural_len.Given as goal

abbrev pub decreases-natural_len : goal.decreases-natural_len
decreases-natural_len l = l.operand
