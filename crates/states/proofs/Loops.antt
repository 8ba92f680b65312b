-- What is known of the words of loops.
use Rattle.std.proofs.Common.{◌≡◌, ℕ, suc, ◌*◌, ◌/◌, ◌%◌, ◌<◌, ◌≤◌, ℤ, pos, ◌+ℤ◌, negsuc, ◌-ℤ◌, Bool, true, false}
use Rattle.std.proofs.Common.{if◌then◌else◌, List, [], ◌∷◌}
use Rattle.std.proofs.Common.{length, inl, inr, Option, Some, None, refl, sym, ap, ◌∙◌, subst, arith}
use Rattle.std.specs.Prelude.{option_map, unwrap_or, slice_index}
use Rattle.std.proofs.lemmas.Bool.Decides.{eqb_tells}
use Rattle.std.proofs.lemmas.Int.{ints}
use Rattle.std.proofs.lemmas.Bool.{cases_lt}
use Rattle.std.proofs.lemmas.List.{get_or_past}
use Rattle.std.proofs.lemmas.Nat.{div-add-mod'}
use Rattle.std.proofs.Math.Nat.{mod-lt, mul-le-mul_right}
use Rattle.std.proofs.Math.Logic.{∥∥₁_elim}
use Rattle.module_format.specs.Rows.{Fact}
use Rattle.std.specs.Coded.{Unit-prop}
use Rattle.std.proofs.Props.{props}
use Rattle.states.specs.declared.known.LoopWord.{LoopWord}
use Rattle.states.specs.declared.known.LoopWord.TheVariants as words
use Rattle.states.specs.declared.known.WordFact.{WordFact}
use Rattle.states.specs.declared.known.WordFact.TheVariants.{Alone, Index, Count}
use Rattle.states.specs.State.{Facts, is_alone, is_silent, entry_fact}
use Rattle.states.specs.Lookup.{lookup, indices, ArePlaced, fact_of_index}
use Rattle.states.specs.declared.overlay.Written.{Written}
use Rattle.states.specs.Rows.{LoopFits}
use Rattle.states.specs.declared.frame.Frame.{Frame}
use Rattle.states.specs.declared.blocks.Block.{Block}
use Rattle.states.specs.declared.span.Leaving.{Leaving}
use Rattle.states.specs.Blocks.{block_words, HaveRoom, no_block, block_numbered, fact_left_by, leaving_at, facts_left}
use Rattle.states.specs.Frames.{frame_facts, over_facts, is_loop_word, HasRoom}

pub loop_fits_prop : (fact : WordFact) → IsProp (LoopFits fact)
loop_fits_prop (Alone fact) = Unit-prop
loop_fits_prop (Index loop) = hlevel props
loop_fits_prop (Count loop) = hlevel props

-- the loop that a word is in
pub loop-at : (facts : Facts) (k : ℤ) → ∥ ((k : ℤ) → LoopFits (facts k)) ∥₁ → LoopFits (facts k)
loop-at facts k h = ∥∥₁_elim h (loop_fits_prop (facts k)) (λ each. each k)

-- of a word of a loop something is known
loop-known : (fact : WordFact) → is_alone fact ≡ false → is_silent fact ≡ false
loop-known (Alone fact) h = absurd (cc)
loop-known (Index loop) h = refl
loop-known (Count loop) h = refl

-- an index that was written is in the list
written-at : (ws : List Written) (index : ℕ) (fact : Fact) → lookup ws index ≡ Some fact
    → (i : ℕ) × (i < length ws) × (slice_index (indices ws) i ≡ index)
written-at [] index fact h = absurd (cc)
written-at (w ∷ ws) index fact h = elim (eqb_tells w.index index) [
  | inl p ↦ (0, omega arith, p.1)
  | inr p ↦
      let rest = written-at ws index fact
      (sym (ap (λ (b : Bool). if b then Some w.fact else lookup ws index) p.0) ∙ h) in
      (suc rest.0, omega (arith, rest.1), rest.2)
]

-- what was written is within the capacity
pub index-below : (places : List ℕ) (ws : List Written) (index : ℕ) (fact : Fact) → ArePlaced places ws
    → lookup ws index ≡ Some fact → index < length places
index-below places ws index fact placed h =
    let at = written-at ws index fact h in
    subst (λ (n : ℕ). n < length places) at.2 (placed at.0 at.1).0

-- a block has words
pub some-words : 0 < block_words
unfolding block_words
some-words = omega arith

-- a block that was left is one of the frame's
pub left-below : (frame : Frame) (number : ℕ) (leaving : Leaving)
    → (block_numbered frame.by_block.kept.items number).left ≡ Some leaving → number < frame.by_block.room
left-below frame number leaving left = elim (cases_lt number (length frame.by_block.kept.items)) [
  | inl low ↦ let few = frame.by_block.few in omega (arith, few)
  | inr high ↦
      let none = ap (λ (b : Block). b.left) (get_or_past frame.by_block.kept.items number no_block high) in
      let clash : None ≡ Some leaving = sym none ∙ left in
      absurd (cc)
]

-- each word of a block can be written
pub block-room : (frame : Frame) (k : ℤ) (index : ℕ) → k ≡ frame.lo +ℤ pos index
    → index / block_words < frame.by_block.room → HasRoom frame k
unfolding HaveRoom
block-room frame k index at below =
    let whole = frame.whole in
    let both = div-add-mod' index block_words in
    let rest : index % block_words < block_words = mod-lt index some-words in
    let more : suc (index / block_words) * block_words ≤ frame.by_block.room * block_words =
    mul-le-mul_right block_words (omega (arith, below)) in
    record { low = omega (arith, ints); high = omega (arith, ints, whole, both, rest, more) }

-- Something is known of words alone that can be written.
pub room-known : (frame : Frame) (k : ℤ) (fact : WordFact) → fact ≡ frame_facts frame k → is_silent fact ≡ false
    → HasRoom frame k
unfolding facts_left
room-known frame k fact is known =
    on_left (leaving_at frame.by_block.kept.items (k -ℤ frame.lo)) refl (ap is_silent (sym is) ∙ known)
  where
    of_row : is_silent (entry_fact frame.row.now k) ≡ false → HasRoom frame k
    of_row h = let inside = frame.inside k h in record { low = inside.0; high = inside.1 }

    on_index : (index : ℕ) → k -ℤ frame.lo ≡ pos index → (o : Option Fact)
        → lookup frame.overlay.written.items index ≡ o
        → is_silent (unwrap_or (option_map Alone o) (entry_fact frame.row.now k)) ≡ false → HasRoom frame k
    on_index index at None e h = of_row h
    on_index index at (Some f) e h =
        let below : index < length frame.overlay.places.items =
        index-below frame.overlay.places.items frame.overlay.written.items index f frame.overlay.placed e in
        record { low = omega (arith, ints, at); high = omega (arith, ints, at, below) }

    on_word : (z : ℤ) → k -ℤ frame.lo ≡ z
        → is_silent (unwrap_or (option_map Alone (fact_of_index frame.overlay.written.items z))
        (entry_fact frame.row.now k))
        ≡ false → HasRoom frame k
    on_word (pos index) at h = on_index index at (lookup frame.overlay.written.items index) refl h
    on_word (negsuc n) at h = of_row h

    in_block : (z : ℤ) (leaving : Leaving) → k -ℤ frame.lo ≡ z → leaving_at frame.by_block.kept.items z ≡ Some leaving
        → HasRoom frame k
    in_block (pos index) leaving at e =
        block-room frame k index (omega (arith, ints, at)) (left-below frame (index / block_words) leaving e)
    in_block (negsuc n) leaving at e = absurd (cc)

    on_left : (o : Option Leaving) → leaving_at frame.by_block.kept.items (k -ℤ frame.lo) ≡ o
        → is_silent (fact_left_by o (over_facts frame k)) ≡ false → HasRoom frame k
    on_left None e h = on_word (k -ℤ frame.lo) refl h
    on_left (Some leaving) e h = in_block (k -ℤ frame.lo) leaving refl e

-- the words of a loop can be written
pub room-of : (frame : Frame) (k : ℤ) (fact : WordFact) → fact ≡ frame_facts frame k → is_alone fact ≡ false
    → HasRoom frame k
room-of frame k fact is loop = room-known frame k fact is (loop-known fact loop)

-- a word of a loop is not alone
pub loop_word-apart : (which : LoopWord) (fact : WordFact) → is_loop_word which fact ≡ true → is_alone fact ≡ false
loop_word-apart words.Index (Alone fact) h = absurd (cc)
loop_word-apart words.Count (Alone fact) h = absurd (cc)
loop_word-apart which (Index loop) h = refl
loop_word-apart which (Count loop) h = refl
