use Rattle.std.proofs.Common.{◌≡◌, ℕ, ◌+◌, ◌-◌, ◌<◌, List, length, arith, subst, Option, ℤ}
use Rattle.std.specs.Ordering.{int_cmp}
use Rattle.std.specs.BTreeMap.{get}
use Rattle.std.proofs.lemmas.Option.{slice_get-get_or}
use Rattle.module_format.specs.declared.rows.EndRow.{EndRow}
use Rattle.certificate.specs.declared.runs.ChannelRun.{ChannelRun}
use Rattle.certificate.proofs.RunLaws.{AreRunsFrom, runs_set, run_here, few_enough, runs_all}
use Rattle.certificate.proofs.runs.runs_of.Goals as goal

-- the last number before another is followed by it
before : (length_of : ℤ → Option ℕ) (es : List EndRow) (runs : List ChannelRun) (n : ℕ) → 0 < n
    → AreRunsFrom length_of es runs n → AreRunsFrom length_of es runs ((n - 1) + 1)
before length_of es runs n some h = let same : n ≡ (n - 1) + 1 = omega arith in
    subst (λ (m : ℕ). AreRunsFrom length_of es runs m) same h

pub count_from-count-requires : goal.count_from-count-requires
count_from-count-requires c =
    let at = before _ _ _ _ c.loop-index-test.true c.loop-index.invariant in
    let inside : c.loop-index.index - 1 < length c.args.ends.now =
    let most = c.loop-index.auto.index in let some = c.loop-index-test.true in omega arith in
    let here = slice_get-get_or c.args.ends.now (c.loop-index.index - 1) _ inside in
    few_enough _ _ c.loop-index.runs.items (c.loop-index.index - 1) at _ here c.requires.order c.requires.few _
    (rw c.deref.ensures.value at c.next_run-next.ensures)

pub loop-index-preserved : goal.loop-index-preserved
loop-index-preserved c =
    let lengths = get int_cmp c.args.lengths.now in
    let at = before _ _ _ _ c.loop-index-test.true c.loop-index.invariant in
    let inside : c.loop-index.index - 1 < length c.args.ends.now =
    let most = c.loop-index.auto.index in let some = c.loop-index-test.true in omega arith in
    let here = slice_get-get_or c.args.ends.now (c.loop-index.index - 1) _ inside in
    let found = c.length_of-length.ensures in
    let count = rw found at c.count_from-count.ensures in
    let right = run_here lengths c.args.ends.now c.loop-index.runs.items (c.loop-index.index - 1) at _ here
    c.requires.order c.next_run-next.result c.count_from-count.result
    (rw c.deref.ensures.value at c.next_run-next.ensures) count in
    rw found (runs_set lengths c.args.ends.now c.loop-index.runs.items (c.loop-index.index - 1) at _ here _
    right.0 right.1)

pub returns : goal.returns
returns c =
    let first : c.loop-index.index ≡ 0 = let t = c.loop-index-test.false in omega arith in
    runs_all _ _ _ (subst (λ (n : ℕ). AreRunsFrom (get int_cmp c.args.lengths.now) c.args.ends.now
    c.loop-index.runs.items n) first c.loop-index.invariant)
