use Rattle.std.proofs.Common.{◌≡◌, List, ℕ, ap, sym, subst, ◌∙◌, pos, ◌+ℤ◌, ◌≤ℤ◌, ◌<ℤ◌, ◌^◌, SFits, rules}
use Rattle.std.proofs.lemmas.Int.{to_z-of_z}
use Rattle.std.specs.Int.{w32}
use Rattle.states.specs.declared.blocks.Block.{Block}
use Rattle.states.specs.declared.frame.Frame.{Frame}
use Rattle.states.specs.declared.overlay.Written.{Written}
use Rattle.states.specs.Blocks.{block_numbered, facts_left, HaveRoom}
use Rattle.states.specs.Remembered.{HasTimes}
use Rattle.states.specs.Lookup.{facts_over}
use Rattle.states.specs.Frames.{frame_facts}
use Rattle.states.specs.State.{entry_fact}
use Rattle.states.proofs.Leavings.{summed-same}
use Rattle.states.proofs.Remembering.{remembered-copied}
use Rattle.states.proofs.frame.Frame.copy.Goals as goal

pub invariant_of-result-clause-inside : goal.invariant_of-result-clause-inside
invariant_of-result-clause-inside c =
    let frame = c.args.self.now in
    let fits : SFits w32 frame.lo = search rules in
    rw (to_z-of_z w32 frame.lo fits) (λ k known.
    let inside = frame.inside k known in
    (inside.0, subst (λ (n : ℕ). k <ℤ (frame.lo +ℤ pos n)) (sym c.in_ok-copy.ensures.room) inside.1))

-- what is known is the same where what was written and what is kept for blocks is
same-facts : (frame : Frame) (blocks : List Block) (written : List Written) → blocks ≡ frame.by_block.kept.items
    → written ≡ frame.overlay.written.items
    → facts_left frame.lo blocks (facts_over frame.lo frame.row.now written) ≡ frame_facts frame
same-facts frame blocks written blocks_is written_is =
    ap (λ (bs : List Block). facts_left frame.lo bs (facts_over frame.lo frame.row.now written)) blocks_is
    ∙ ap (λ (ws : List Written). facts_left frame.lo frame.by_block.kept.items
    (facts_over frame.lo frame.row.now ws)) written_is

pub invariant_of-result-clause-summed : goal.invariant_of-result-clause-summed
invariant_of-result-clause-summed c =
    let frame = c.args.self.now in
    let fits : SFits w32 frame.lo = search rules in
    rw (to_z-of_z w32 frame.lo fits) (summed-same (frame_facts frame) _ frame.lo frame.by_block.kept.items
    c.in_ok-copy-2.field-0.kept.items frame.summed
    (same-facts frame c.in_ok-copy-2.field-0.kept.items c.in_ok-copy.field-0.written.items c.in_ok-copy-2.ensures.kept
    c.in_ok-copy.ensures.written)
    (λ n. ap (λ (blocks : List Block). (block_numbered blocks n).sum) c.in_ok-copy-2.ensures.kept))

pub invariant_of-result-clause-compared : goal.invariant_of-result-clause-compared
invariant_of-result-clause-compared c =
    let frame = c.args.self.now in
    let fits : SFits w32 frame.lo = search rules in
    rw (to_z-of_z w32 frame.lo fits) (remembered-copied (entry_fact frame.row.now) (frame_facts frame) _ frame.lo
    frame.remembered c.in_ok-copy-3.field-0 c.in_ok-copy-3.ensures
    (same-facts frame c.in_ok-copy-2.field-0.kept.items c.in_ok-copy.field-0.written.items c.in_ok-copy-2.ensures.kept
    c.in_ok-copy.ensures.written)
    frame.compared)

pub invariant_of-result-clause-added : goal.invariant_of-result-clause-added
invariant_of-result-clause-added c = c.in_ok-new.ensures _ _

pub invariant_of-result-clause-low : goal.invariant_of-result-clause-low
invariant_of-result-clause-low c =
    let frame = c.args.self.now in
    let fits : SFits w32 frame.lo = search rules in
    rw (to_z-of_z w32 frame.lo fits) frame.low

pub invariant_of-result-clause-high : goal.invariant_of-result-clause-high
invariant_of-result-clause-high c =
    let frame = c.args.self.now in
    let fits : SFits w32 frame.lo = search rules in
    rw (to_z-of_z w32 frame.lo fits)
    (subst (λ (n : ℕ). (frame.lo +ℤ pos n) ≤ℤ pos (2 ^ 31)) (sym c.in_ok-copy.ensures.room) frame.high)

pub invariant_of-result-clause-whole : goal.invariant_of-result-clause-whole
invariant_of-result-clause-whole c =
    subst (λ (n : ℕ). HaveRoom n c.in_ok-copy-2.field-0.room) (sym c.in_ok-copy.ensures.room)
    (subst (HaveRoom c.args.self.now.overlay.places.len) (sym c.in_ok-copy-2.ensures.room) c.args.self.now.whole)

pub invariant_of-result-clause-timed : goal.invariant_of-result-clause-timed
invariant_of-result-clause-timed c =
    subst (λ (n : ℕ). HasTimes n c.in_ok-copy-3.field-0.times.len) (sym c.in_ok-copy.ensures.room)
    (subst (HasTimes c.args.self.now.overlay.places.len) (sym c.in_ok-copy-3.ensures.len) c.args.self.now.timed)

pub invariant_of-result-clause-each_timed : goal.invariant_of-result-clause-each_timed
invariant_of-result-clause-each_timed c =
    c.in_ok-copy-3.ensures.count ∙ c.args.self.now.each_timed ∙ sym c.in_ok-copy.ensures.room

pub invariant_of-result-clause-alike : goal.invariant_of-result-clause-alike
invariant_of-result-clause-alike c = c.in_ok-new-2.ensures.same ∙ sym c.in_ok-copy-3.ensures.same

pub returns-clause-facts : goal.returns-clause-facts
returns-clause-facts c =
    let frame = c.args.self.now in
    let fits : SFits w32 frame.lo = search rules in
    rw (to_z-of_z w32 frame.lo fits)
    (same-facts frame c.in_ok-copy-2.field-0.kept.items c.in_ok-copy.field-0.written.items c.in_ok-copy-2.ensures.kept
    c.in_ok-copy.ensures.written)

pub returns-clause-room : goal.returns-clause-room
returns-clause-room c =
    let frame = c.args.self.now in
    let fits : SFits w32 frame.lo = search rules in
    record {
      lo = to_z-of_z w32 frame.lo fits;
      len = c.in_ok-copy.ensures.room;
      same = c.in_ok-copy-3.ensures.same;
    }
