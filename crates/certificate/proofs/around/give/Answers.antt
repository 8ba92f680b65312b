use Rattle.std.proofs.Common.{◌≡◌, ℕ, ◌+◌, ◌-◌, ◌<◌, length, arith, subst, rules, w32, FitsSigned, pos, drop, get_or}
use Rattle.std.specs.Ordering.{int_cmp}
use Rattle.std.specs.BTreeMap.{get}
use Rattle.std.proofs.lemmas.Int.{to_z-of_z}
use Rattle.module_format.specs.declared.rows.ChannelRow.{ChannelRow}
use Rattle.certificate.specs.Rights.{listed_length}
use Rattle.certificate.specs.Around.{nearer}
use Rattle.certificate.proofs.AroundLaws.{given_more}
use Rattle.certificate.proofs.around.give.Goals as goal

pub loop-index-preserved : goal.loop-index-preserved
loop-index-preserved c =
    let inside : c.loop-index.index - 1 < length c.args.channels.now =
    let most = c.loop-index.auto.index in let some = c.loop-index-test.true in omega arith in
    let same : c.loop-index.index ≡ (c.loop-index.index - 1) + 1 = let some = c.loop-index-test.true in omega arith in
    let d : ChannelRow = record { word = pos 0; length = 0 } in
    let fits : FitsSigned w32 (get_or c.args.channels.now (c.loop-index.index - 1) d).word = search rules in
    given_more (get int_cmp c.loop-index.lengths) (get int_cmp c.insert.new.self) (get int_cmp c.args.lengths.now)
    c.args.channels.now (c.loop-index.index - 1) d inside
    (λ k. rw (to_z-of_z w32 (get_or c.args.channels.now (c.loop-index.index - 1) d).word fits) at
    (c.in_ok-insert.ensures.updates.0 k))
    (λ k. subst (λ (n : ℕ). get int_cmp c.loop-index.lengths k
    ≡ nearer (listed_length (drop n c.args.channels.now) k) (get int_cmp c.args.lengths.now k)) same
    (c.loop-index.invariant k))
