use Rattle.std.proofs.Common.{◌≡◌, ◌∙◌, ◌+◌, ◌-◌, ℕ, ap, sym, to_z, of_z, w32, arith}
use Rattle.module_format.specs.Contents.{par_of, branch_of}
use Rattle.certificate.specs.Rights.{length_around, channel_length}
use Rattle.certificate.proofs.RightLaws.{around_more}
use Rattle.certificate.proofs.modules.Module.length_around.Goals as goal

pub loop-preserved : goal.loop-preserved
loop-preserved c =
    let k = to_z w32 (of_z w32 c.args.word) in
    let left = c.len-end.result - c.loop.counter in
    let count : c.len-end.result - (c.loop.counter + 1) ≡ left - 1 = omega arith in
    rw c.from-number.ensures
    (ap (λ (m : ℕ). length_around m c.args.self.now c.in_ok-row.row.now.context k) count
    ∙ around_more c.args.self.now left c.loop.number k (par_of c.in_ok-row.row.now, branch_of c.in_ok-row._branch.now)
    (channel_length c.args.self.now c.args.context k)
    c.in_ok-row.ensures.found (rw c.deref.ensures.value at (sym c.in_default.ensures))
    (omega (arith, c.loop-test.true)) c.loop.invariant)
