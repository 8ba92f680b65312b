use Rattle.std.proofs.Common.{◌≡◌, ◌∙◌, ap, arith, to_z, of_z}
use Rattle.std.proofs.lemmas.Int.{ints}
use Rattle.std.specs.Int.{w64}
use Rattle.rulings.specs.Pointers.{is_near}
use Rattle.call_rules.specs.Callings.{calling_of}
use Rattle.call_rules.proofs.Touching.{far_lent, barred_lent, other_lent}
use Rattle.call_rules.proofs.calling.Calling.may_lend.Goals.{then-not-is_near-via-then-not-is_near}
use Rattle.call_rules.proofs.calling.Calling.may_lend.Goals.{then-not-is_near-via-else-not-is_near+then-not-may_use}
use Rattle.call_rules.proofs.calling.Calling.may_lend.Goals as goal

pub returns-then-not-is_near : goal.returns-then-not-is_near
returns-then-not-is_near c =
    let at : to_z w64 (of_z w64 c.from.result) ≡ c.args.lent.first = omega (arith, ints) in
    let near = c.is_near.ensures ∙ ap is_near at in
    elim c.then-not-is_near.branch [
      | then-not-is_near-via-then-not-is_near w ↦
          far_lent (calling_of c.args.self.now) c.args.lent c.is_near.result near w.if-not-is_near.true
      | then-not-is_near-via-else-not-is_near+then-not-may_use w ↦
          barred_lent (calling_of c.args.self.now) c.args.lent c.is_near.result w.may_use.result near
          w.if-not-is_near.false w.may_use.ensures w.if-not-may_use.true
    ]

pub returns-in_default : goal.returns-in_default
returns-in_default c =
    let at : to_z w64 (of_z w64 c.from.result) ≡ c.args.lent.first = omega (arith, ints) in
    other_lent (calling_of c.args.self.now) c.args.lent c.is_near.result c.may_use.result
    (c.is_near.ensures ∙ ap is_near at) c.if-not-is_near.false c.may_use.ensures c.if-not-may_use.false
    c.in_default.not-Frame
