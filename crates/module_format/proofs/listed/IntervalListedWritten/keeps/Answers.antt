use Rattle.std.proofs.Common.{◌≡◌, ◌↔◌, ℤ, Bool, true, false, List, refl, sym, rules, to_z, of_z, w64}
use Rattle.std.specs.Prelude.{IsTrue, not}
use Rattle.std.specs.List.{list_any}
use Rattle.std.proofs.Math.Logic.{∥∥₁_elim}
use Rattle.std.proofs.lemmas.Int.{ints}
use Rattle.module_format.specs.declared.rows.Interval.{Interval}
use Rattle.module_format.specs.Order.{least_word}
use Rattle.module_format.specs.Pars.{IntervalKeeps, intervals_meet, ReadKeeps}
use Rattle.module_format.proofs.OrderLaws.{is_kept}
use Rattle.module_format.proofs.IntervalLaws.{intervals_prop}
use Rattle.module_format.proofs.BranchLaws.{none_pass, pass_none}
use Rattle.module_format.proofs.listed.IntervalListedWritten.keeps.Goals as goal

-- an interval that is apart from all that are written
read_is : (writes : List Interval) (low : ℤ) (i : Interval) (b : Bool) → IntervalKeeps low i
    → b ≡ list_any (intervals_meet i) writes → IsTrue (not b) ↔ ReadKeeps writes low i
read_is writes low i true kept e = (
  λ t. absurd cc,
  λ h. absurd
      (let n = pass_none (intervals_meet i) writes h.apart in cc),
)
read_is writes low i false kept e =
    (λ _. record { interval = kept; apart = none_pass (intervals_meet i) writes (sym e) }, λ _. refl)

pub meets_any-requires : goal.meets_any-requires
meets_any-requires c =
    ∥∥₁_elim c.args.written.now.sorted (intervals_prop least_word c.args.written.now.intervals.now) (λ h. h)

pub returns-then-keeps : goal.returns-then-keeps
returns-then-keeps c =
    let low : to_z w64 (of_z w64 c.args.low) ≡ c.args.low = search (rules, ints) in
    let kept = rw low at (is_kept c.keeps.result c.if-keeps.true c.keeps.ensures) in
    read_is c.args.written.now.intervals.now c.args.low c.args.self.now c.meets_any.result kept c.meets_any.ensures
