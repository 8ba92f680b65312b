use Rattle.std.proofs.Common.{ℕ, ◌≤◌, arith}
use Rattle.std.proofs.lemmas.List.{get_or_default}
use Rattle.states.proofs.Decaying.{first-past}
use Rattle.states.proofs.Remembering.{set-all}
use Rattle.states.proofs.firsts.Firsts.leave.Goals as goal

pub invariant_of-self-clause-left : goal.invariant_of-self-clause-left
invariant_of-self-clause-left c =
    let firsts = c.args.self.now in
    let high = c.max-self.ensures in
    set-all (λ (n x : ℕ). x ≤ c.max-self.result) firsts.blocks.items c.args.number c.first_since-first.result 0
    (omega arith) (λ n. let first = firsts.left n in omega (arith, first, high)) (omega (arith, high))

pub returns-clause-latest : goal.returns-clause-latest
returns-clause-latest c =
    let firsts = c.args.self.now in
    let before = firsts.left c.args.number in
    let same = get_or_default firsts.blocks.items c.args.number 0 c.index.result.now (omega arith) in
    let here = c.index.ensures in
    let past = first-past c.args.began c.index.result.now firsts.latest c.args.now (omega (arith, before, same, here))
    c.requires.later in
    let first = c.first_since-first.ensures in
    let high = c.max-self.ensures in
    omega (arith, past, first, high)
