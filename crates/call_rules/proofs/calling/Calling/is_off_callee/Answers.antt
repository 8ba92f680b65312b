use Rattle.std.proofs.Common.{arith, ◌/◌, to_z, of_z, ◌+ℤ◌}
use Rattle.std.proofs.lemmas.Int.{ints}
use Rattle.std.specs.Int.{w64}
use Rattle.rulings.specs.Reach.{word_of_byte}
use Rattle.call_rules.specs.Callings.{calling_of}
use Rattle.call_rules.proofs.Touching.{off_yes, off_no}
use Rattle.call_rules.proofs.calling.Calling.is_off_callee.Goals as goal

pub returns-then-end-callee_word : goal.returns-then-end-callee_word
returns-then-end-callee_word c =
    off_yes (calling_of c.args.self.now) (word_of_byte c.args.lent.first) (c.args.lent.size / 4)
    (to_z w64 (of_z w64 (to_z w64 (of_z w64 c.from-first.result) +ℤ to_z w64 (of_z w64 c.from.result))))
    (to_z w64 (of_z w64 c.callee_word.result)) (omega (arith, ints)) (omega (arith, ints)) c.if-end-callee_word.true

pub returns-else-end-callee_word : goal.returns-else-end-callee_word
returns-else-end-callee_word c =
    off_no (calling_of c.args.self.now) (word_of_byte c.args.lent.first) (c.args.lent.size / 4)
    (to_z w64 (of_z w64 (to_z w64 (of_z w64 c.from-first.result) +ℤ to_z w64 (of_z w64 c.from.result))))
    (to_z w64 (of_z w64 c.callee_word.result)) (to_z w64 (of_z w64 c.callee_word-else-end-callee_word.result))
    (to_z w64 (of_z w64 c.from-first.result)) (omega (arith, ints)) (omega (arith, ints)) c.if-end-callee_word.false
    (omega (arith, ints)) (omega (arith, ints))
