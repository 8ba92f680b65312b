use Rattle.std.proofs.lemmas.Result.{on_ok_weaker}
use Rattle.program_uses.proofs.NumbersJoined.{has_one_more}
use Rattle.program_uses.proofs.numbers.Numbers.add.Goals as goal

pub returns : goal.returns
returns c =
    on_ok_weaker c.add_word.result (has_one_more c.args.self.now c.add_word.new.self c.args.number) c.add_word.ensures
