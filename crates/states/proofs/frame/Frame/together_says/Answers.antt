use Rattle.std.proofs.Common.{rules, arith, sym, ◌≡◌, pos, ◌+ℤ◌}
use Rattle.std.proofs.lemmas.Int.{ints}
use Rattle.states.specs.Frames.{frame_facts}
use Rattle.states.specs.Spans.{together}
use Rattle.states.proofs.Hulls.{together-each}
use Rattle.states.proofs.frame.Frame.together_says.Goals as goal

pub returns : goal.returns
returns c = λ yes.
    let word_is : c.in-Ok-Ok.word ≡ c.args.first = search (rules, arith, ints) in
    let end_is : c.args.end ≡ c.args.first +ℤ pos c.in-Ok-Ok.count = search (rules, arith, ints) in
    let sum : c.together.result ≡ together (frame_facts c.args.self.now) c.args.first c.in-Ok-Ok.count =
    rw (sym word_is) (search rules) in
    together-each (frame_facts c.args.self.now) c.args.first c.args.end c.in-Ok-Ok.count c.together.result
    c.args.wanted c.says.result sum end_is c.says.ensures yes
