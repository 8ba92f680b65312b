use Rattle.prefix_decoder.proofs.encoding.+push_natural.Given as goal

abbrev pub decreases-push_natural : goal.decreases-push_natural
decreases-push_natural l = l.operand
