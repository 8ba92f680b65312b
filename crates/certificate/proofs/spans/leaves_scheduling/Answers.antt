use Rattle.std.proofs.Common.{◌≡◌, pos, ◌+ℤ◌, true, false, rules, w64, FitsSigned, int_le, to_z, of_z}
use Rattle.std.proofs.lemmas.Int.{to_z-of_z}
use Rattle.certificate.proofs.SpanLaws.{scheduling_tells}
use Rattle.certificate.proofs.spans.leaves_scheduling.Goals as goal

pub returns-then-workspace-first : goal.returns-then-workspace-first
returns-then-workspace-first c =
    let first = c.args.first in
    let count = c.args.count in
    let workspace = c.args.workspace in
    let from : to_z w64 (of_z w64 c.from-first.result) ≡ first = search rules in
    let at : to_z w64 (of_z w64 c.from-workspace.result) ≡ workspace = search rules in
    let above : int_le workspace first ≡ true = rw (at, from) at c.if-workspace-first.true in
    let told = scheduling_tells workspace first count (search rules) in
    rw (at, from, above) (rw above at told)

pub returns-else-workspace-first : goal.returns-else-workspace-first
returns-else-workspace-first c =
    let first = c.args.first in
    let count = c.args.count in
    let workspace = c.args.workspace in
    let from : to_z w64 (of_z w64 c.from-first.result) ≡ first = search rules in
    let at : to_z w64 (of_z w64 c.from-workspace.result) ≡ workspace = search rules in
    let many : to_z w64 (of_z w64 c.from.result) ≡ pos count = search rules in
    let fits : FitsSigned w64 (first +ℤ pos count) = search rules in
    let more : FitsSigned w64 ((first +ℤ pos count) +ℤ pos 3) = search rules in
    let below : int_le workspace first ≡ false = rw (at, from) at c.if-workspace-first.false in
    let told = scheduling_tells workspace first count (search rules) in
    rw (
      from,
      many,
      to_z-of_z w64 (first +ℤ pos count) fits,
      to_z-of_z w64 ((first +ℤ pos count) +ℤ pos 3) more,
      at,
    ) (rw below at told)
