use Rattle.certificate.proofs.around.Around.+enter.Given as goal

abbrev pub decreases-enter : goal.decreases-enter
decreases-enter l = l.context
