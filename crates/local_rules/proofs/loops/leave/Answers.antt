use Rattle.std.proofs.Common.{ℤ, SFits, rules, sym, subst}
use Rattle.std.proofs.lemmas.Int.{to_z-of_z}
use Rattle.std.specs.Int.{w32}
use Rattle.states.specs.Views.{CanWrite}
use Rattle.local_rules.proofs.loops.leave.Goals as goal

pub write-requires-2 : goal.write-requires-2
write-requires-2 c =
    let fits : SFits w32 c.args.block.word = search rules in
    subst (λ (k : ℤ). CanWrite c.write.new.self k) (sym (to_z-of_z w32 c.args.block.word fits))
    (c.write.ensures.room c.args.block.word c.requires.first)

pub returns-clause-belongs : goal.returns-clause-belongs
returns-clause-belongs c = λ m belongs. c.write-2.ensures.belongs m (c.write.ensures.belongs m belongs)
