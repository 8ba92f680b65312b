use Rattle.std.proofs.Common.{rules, arith, ◌<◌, length, get_or, subst, List}
use Rattle.std.proofs.lemmas.Int.{ints}
use Rattle.module_format.specs.declared.fact.Fact.TheVariants.{Unknown}
use Rattle.states.specs.declared.overlay.Written.{Written}
use Rattle.states.specs.Frames.{frame_facts}
use Rattle.states.specs.State.{entry_fact}
use Rattle.states.proofs.Lookups.{lookup-at, indices-at, index-low}
use Rattle.states.proofs.Comparisons.{written-says, items-more, item-holds, ItemsSay}
use Rattle.states.proofs.frame.Frame.written_holds.Goals as goal

pub fact_written-fact-requires : goal.fact_written-fact-requires
fact_written-fact-requires c =
    let overlay = c.args.self.now.overlay in
    let d : Written = record { index = 0; fact = Unknown } in
    let i = c.loop-written.written-index in
    let low : i < length c.deref-written-items.result.now = search rules in
    rw c.deref-written-items.ensures.value
    (lookup-at overlay.places.items overlay.written.items (get_or overlay.written.items i d).index i d overlay.placed
    (rw c.deref-written-items.ensures.value at low)
    (indices-at overlay.written.items i d (rw c.deref-written-items.ensures.value at low)))

pub word_at-requires : goal.word_at-requires
word_at-requires c =
    let low =
    index-low c.args.self.now.overlay.places.items c.args.self.now.overlay.written.items
    c.loop-written.written-index (record { index = 0; fact = Unknown }) c.args.self.now.overlay.placed
    (search rules) in
    search (rules, c.deref-written-items.ensures.value)

pub loop-written-preserved : goal.loop-written-preserved
loop-written-preserved c =
    items-more c.deref-written-items.result.now c.loop-written.written-index c.args.self.now.lo
    (frame_facts c.args.self.now) (entry_fact c.args.row.now) (record { index = 0; fact = Unknown })
    (search rules) c.loop-written.invariant
    (item-holds (frame_facts c.args.self.now) (entry_fact c.args.row.now) c.args.self.now.lo _ _ _ c.alone_holds.result
    (let e = c.word_at.ensures in omega (arith, ints, e)) c.fact_written-fact.ensures c.alone_holds.ensures
    c.if-not-alone_holds.false)

pub returns : goal.returns
returns c = λ _.
    written-says c.args.self.now.overlay.written.items c.args.self.now.lo (frame_facts c.args.self.now)
    (entry_fact c.args.row.now) (record { index = 0; fact = Unknown })
    (subst (λ (ws : List Written). ItemsSay ws (length ws) c.args.self.now.lo (frame_facts c.args.self.now)
    (entry_fact c.args.row.now)) c.deref-written-items.ensures.value
    (λ i h d. c.loop-written.invariant i (omega arith) d))
