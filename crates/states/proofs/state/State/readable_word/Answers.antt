use Rattle.states.proofs.OwnWords.{usable, read-own}
use Rattle.states.proofs.state.State.readable_word.Goals as goal

pub returns : goal.returns
returns c =
    usable read-own c.args.self.now c.args.word c.ranges.word _ _ c.may_read_word.ensures c.word_where.ensures
