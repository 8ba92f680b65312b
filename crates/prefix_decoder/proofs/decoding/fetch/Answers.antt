use Rattle.std.proofs.Common.{arith}
use Rattle.prefix_decoder.proofs.Outcomes.{fetched-found, fetched-only, fetched-end, fetched-second, fetched-long}
use Rattle.prefix_decoder.proofs.Outcomes.{IfOk-from, StandsAt-length}
use Rattle.prefix_decoder.proofs.decoding.fetch.Goals as goal

pub returns-clause-found : goal.returns-clause-found
returns-clause-found c =
    rw c.instruction_at.ensures
    (IfOk-from _ _ (fetched-found c.args.code.now c.args.at (λ i. omega (arith, c.type_inv.code i))))

pub returns-clause-length : goal.returns-clause-length
returns-clause-length c =
    rw c.instruction_at.ensures
    (IfOk-from _ _ (λ i is. StandsAt-length c.args.code.now c.args.at i
    (fetched-found c.args.code.now c.args.at (λ k. omega (arith, c.type_inv.code k)) i is)))

pub returns-clause-only : goal.returns-clause-only
returns-clause-only c =
    λ f e bytes rest s parts.
    rw c.instruction_at.ensures (fetched-only c.args.code.now c.args.at f e bytes rest s parts)

pub returns-clause-end_of_code : goal.returns-clause-end_of_code
returns-clause-end_of_code c =
    rw c.instruction_at.ensures
    (fetched-end c.args.code.now c.args.at (λ i. omega (arith, c.type_inv.code i)))

pub returns-clause-second_spelling : goal.returns-clause-second_spelling
returns-clause-second_spelling c =
    rw c.instruction_at.ensures
    (fetched-second c.args.code.now c.args.at (λ i. omega (arith, c.type_inv.code i)))

pub returns-clause-too_long : goal.returns-clause-too_long
returns-clause-too_long c =
    rw c.instruction_at.ensures
    (fetched-long c.args.code.now c.args.at (λ i. omega (arith, c.type_inv.code i)))
