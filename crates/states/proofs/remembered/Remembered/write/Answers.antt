use Rattle.std.proofs.Common.{ℕ, None, ◌≤◌, ◌<◌, vec_len, arith}
use Rattle.states.specs.declared.remembered.Changes.{Changes}
use Rattle.states.specs.Remembered.{no_changes}
use Rattle.states.proofs.Remembering.{set-all}
use Rattle.states.proofs.remembered.Remembered.write.Goals as goal

pub invariant_of-self-clause-changed : goal.invariant_of-self-clause-changed
invariant_of-self-clause-changed c =
    let kept = c.tick.new.self in
    set-all (λ (n x : ℕ). x ≤ kept.time) kept.times.items c.args.number kept.time 0 (omega arith) kept.changed
    (omega arith)

pub invariant_of-self-clause-each : goal.invariant_of-self-clause-each
invariant_of-self-clause-each c =
    let kept = c.tick.new.self in
    let begun = kept.begun in
    let order = kept.order in
    set-all (λ (n x : ℕ). n < vec_len kept.times → 1 ≤ x) kept.times.items c.args.number kept.time 0 (omega arith)
    kept.each (λ l. omega (arith, begun, order))

pub invariant_of-self-clause-each_written : goal.invariant_of-self-clause-each_written
invariant_of-self-clause-each_written c =
    let kept = c.tick.new.self in
    let begun = kept.begun in
    let order = kept.order in
    set-all (λ (n : ℕ) (x : Changes). n < vec_len kept.times → 1 ≤ x.written) kept.by_block.items c.args.number
    (record { written = kept.time; left = None }) no_changes
    (omega arith) kept.each_written (λ l. omega (arith, begun, order))
