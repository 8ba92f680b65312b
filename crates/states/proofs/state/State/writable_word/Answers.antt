use Rattle.states.proofs.OwnWords.{usable, written-own}
use Rattle.states.proofs.state.State.writable_word.Goals as goal

pub returns : goal.returns
returns c =
    usable written-own c.args.self.now c.args.word c.ranges.word _ _ c.may_write_word.ensures c.word_where.ensures
