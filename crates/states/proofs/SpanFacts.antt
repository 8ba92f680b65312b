-- Spans of words, written over a label's row.
use Rattle.std.proofs.Common.{◌≡◌, ℕ, zero, suc, ◌+◌, ◌-◌, ◌<◌, ◌≤◌, vec_len, ℤ, pos, ◌+ℤ◌, ◌-ℤ◌, ◌≤ℤ◌}
use Rattle.std.proofs.Common.{◌<ℤ◌, Bool, true, false, ◌&&◌, ◌==◌, cond}
use Rattle.std.proofs.Common.{refl, sym, ap, ◌∙◌, arith, inl, inr, nat_abs}
use std.Path.{fun_ext}
use Rattle.std.proofs.lemmas.Bool.{cases_lt, and_parts, and_from, and_right}
use Rattle.std.proofs.lemmas.Bool.Decides.{nat_tests}
use Rattle.std.proofs.lemmas.Int.{ints, by_lt_z}
use Rattle.std.proofs.Math.Bool.{and-true}
use Rattle.small_laws.proofs.Comparisons.{lt-int_lt, le-int_le, lt-int_le, le-int_lt}
use Rattle.module_format.specs.Rows.{Fact}
use Rattle.module_format.specs.declared.fact.Fact.TheVariants.{Unknown, Number, Pointer, CodeAddress, Loop as LoopFact}
use Rattle.module_format.specs.declared.fact.Fact.TheVariants.{ReturnAddress}
use Rattle.states.specs.declared.known.Known.{Known}
use Rattle.states.specs.declared.known.Loop.{Loop}
use Rattle.states.specs.declared.known.LoopWord.{LoopWord}
use Rattle.states.specs.declared.known.LoopWord.TheVariants as words
use Rattle.states.specs.declared.known.WordFact.{WordFact}
use Rattle.states.specs.declared.known.WordFact.TheVariants.{Alone, Index, Count}
use Rattle.states.specs.declared.span.Leaving.{Leaving}
use Rattle.states.specs.declared.span.Together.{Together}
use Rattle.states.specs.State.{State, Facts, by_itself, is_same_number, is_silent, is_parted, changed, forgets}
use Rattle.states.specs.declared.frame.Frame.{Frame}
use Rattle.states.specs.declared.state.State.{State as InMemory}
use Rattle.states.specs.Views.{CanWriteSpan}
use Rattle.states.specs.Frames.{frame_facts, with_alone, with_span, is_loop_word, parted, HasRoom, SameRoom}
use Rattle.states.specs.Frames.{HasRoomForSpan}
use Rattle.certificate.specs.Words.{all_words}
use Rattle.states.specs.Spans.{is_in_span, left_of, on_span, of_none, with_one, with_silent, together, after_change}
use Rattle.states.proofs.Loops.{room-known}
use Rattle.states.proofs.FrameFacts.{is_word-same, is_word-below, is_word-above, distance}

-- ---- where a word lies

pub data LiesBy (first : ℤ) (count : ℕ) (k : ℤ) : Type 0 where
  below : k <ℤ first → is_in_span first count k ≡ false → LiesBy first count k
  within : first ≤ℤ k → k <ℤ (first +ℤ pos count) → is_in_span first count k ≡ true → LiesBy first count k
  above : (first +ℤ pos count) ≤ℤ k → is_in_span first count k ≡ false → LiesBy first count k

pub lies-by : (first : ℤ) (count : ℕ) (k : ℤ) → LiesBy first count k
lies-by first count k = by_lt_z k first
    (λ low. below low (rw (lt-int_le first k low) refl))
    (λ high. by_lt_z k (first +ℤ pos count)
    (λ inside. within high inside (and_from _ _ (le-int_le first k high) (lt-int_lt k (first +ℤ pos count) inside)))
    (λ behind. above behind (and_right _ _ (le-int_lt k (first +ℤ pos count) behind))))

pub in-span : (first : ℤ) (count : ℕ) (k : ℤ) → first ≤ℤ k → k <ℤ (first +ℤ pos count) → is_in_span first count k ≡ true
in-span first count k low high = and_from _ _ (le-int_le first k low) (lt-int_lt k (first +ℤ pos count) high)

pub not-below : (first : ℤ) (count : ℕ) (k : ℤ) → k <ℤ first → is_in_span first count k ≡ false
not-below first count k low = rw (lt-int_le first k low) refl

pub not-above : (first : ℤ) (count : ℕ) (k : ℤ) → (first +ℤ pos count) ≤ℤ k → is_in_span first count k ≡ false
not-above first count k high = and_right _ _ (le-int_lt k (first +ℤ pos count) high)

-- ---- one word after the other

on-word : (first : ℤ) (n : ℕ) (leaving : Leaving) (facts : Facts) (j : ℤ)
    → cond (is_same_number j (first +ℤ pos n))
    (Alone (left_of leaving (by_itself (with_span first n leaving facts (first +ℤ pos n)))))
    (with_span first n leaving facts j)
    ≡ with_span first (n + 1) leaving facts j
on-word first n leaving facts j = by_lt_z j (first +ℤ pos n)
    (λ low. rw (is_word-below j (first +ℤ pos n) low) (elim (lies-by first n j) [
      | below l e ↦ rw (e, not-below first (n + 1) j l) refl
      | within l h e ↦ rw (e, in-span first (n + 1) j l (omega (arith, ints))) refl
      | above h e ↦ absurd (omega (arith, ints))
    ]))
    (λ high. by_lt_z (first +ℤ pos n) j
    (λ more. rw (
      is_word-above j (first +ℤ pos n) more,
      not-above first n j (omega (arith, ints)),
      not-above first (n + 1) j (omega (arith, ints)),
    ) refl)
    (λ less. let same : j ≡ first +ℤ pos n = omega (arith, ints) in
    rw (
      is_word-same j (first +ℤ pos n) same,
      not-above first n (first +ℤ pos n) (omega (arith, ints)),
      in-span first (n + 1) j (omega (arith, ints)) (omega (arith, ints)),
    )
    (ap (λ (k : ℤ). Alone (left_of leaving (by_itself (facts k)))) (sym same))))

pub leave-more : (first word : ℤ) (n m : ℕ) (leaving : Leaving)
    (facts before new : Facts) (here : WordFact) (said left : Fact)
    → word ≡ first +ℤ pos n → m ≡ n + 1 → before ≡ with_span first n leaving facts → here ≡ before word
    → said ≡ by_itself here → left ≡ left_of leaving said → new ≡ with_alone word left before
    → new ≡ with_span first m leaving facts
leave-more first word n m leaving facts before new here said left
    word_is m_is before_is here_is said_is left_is new_is =
    let left_there : left ≡ left_of leaving (by_itself (with_span first n leaving facts (first +ℤ pos n))) =
    left_is ∙ ap (left_of leaving) (said_is ∙ ap by_itself (here_is ∙ (ap (λ (f : Facts). f word) before_is
    ∙ ap (with_span first n leaving facts) word_is))) in
    new_is
    ∙ (ap (λ (w : ℤ). with_alone w left before) word_is
    ∙ (ap (λ (x : Fact). with_alone (first +ℤ pos n) x before) left_there
    ∙ (ap (with_alone (first +ℤ pos n) (left_of leaving (by_itself (with_span first n leaving facts (first +ℤ pos n)))))
    before_is
    ∙ (fun_ext (λ j. on-word first n leaving facts j)
    ∙ ap (λ (k : ℕ). with_span first k leaving facts) (sym m_is)))))

pub leave-none : (first : ℤ) (leaving : Leaving) (facts : Facts) → facts ≡ with_span first 0 leaving facts
leave-none first leaving facts = fun_ext (λ j. elim (lies-by first 0 j) [
  | below l e ↦ rw e refl
  | within l h e ↦ absurd (omega (arith, ints))
  | above h e ↦ rw e refl
])

-- ---- the words of loops beside the span

abbrev parted_if : Bool → LoopWord → WordFact → WordFact
parted_if here which fact = cond (is_loop_word which fact && here) (Alone (by_itself fact)) fact

none-parted : (which : LoopWord) (fact : WordFact) → parted_if false which fact ≡ fact
none-parted which fact = on (is_loop_word which fact) where
  on : (b : Bool) → cond (b && false) (Alone (by_itself fact)) fact ≡ fact
  on true = refl
  on false = refl

part-index : (before behind : Bool) (loop : Loop)
    → parted_if behind words.Count (parted_if before words.Index (Index loop))
    ≡ cond before (Alone (by_itself (Index loop))) (Index loop)
part-index true behind loop = refl
part-index false behind loop = refl

-- a word before the span is next to it exactly if the word after it is in the span
next-before : (first : ℤ) (count : ℕ) (j : ℤ) → 0 < count → is_in_span first count j ≡ false
    → is_same_number j (first -ℤ pos 1) ≡ is_in_span first count (j +ℤ pos 1)
next-before first count j some out = elim (lies-by first count (j +ℤ pos 1)) [
  | below l e ↦ is_word-below j (first -ℤ pos 1) (omega (arith, ints)) ∙ sym e
  | within l h e ↦ by_lt_z j first
      (λ low. is_word-same j (first -ℤ pos 1) (omega (arith, ints)) ∙ sym e)
      (λ high. let clash : true ≡ false = sym (in-span first count j high (omega (arith, ints))) ∙ out in absurd (cc))
  | above h e ↦ is_word-above j (first -ℤ pos 1) (omega (arith, ints)) ∙ sym e
]

next-behind : (first : ℤ) (count : ℕ) (j : ℤ) → 0 < count → is_in_span first count j ≡ false
    → is_same_number j (first +ℤ pos count) ≡ is_in_span first count (j -ℤ pos 1)
next-behind first count j some out = elim (lies-by first count (j -ℤ pos 1)) [
  | below l e ↦ is_word-below j (first +ℤ pos count) (omega (arith, ints)) ∙ sym e
  | within l h e ↦ by_lt_z j (first +ℤ pos count)
      (λ low. let clash : true ≡ false = sym (in-span first count j (omega (arith, ints)) low) ∙ out in absurd (cc))
      (λ high. is_word-same j (first +ℤ pos count) (omega (arith, ints)) ∙ sym e)
  | above h e ↦ is_word-above j (first +ℤ pos count) (omega (arith, ints)) ∙ sym e
]

beside : (first : ℤ) (count : ℕ) (j : ℤ) (fact : WordFact) → 0 < count → is_in_span first count j ≡ false
    → parted_if (is_same_number j (first +ℤ pos count)) words.Count
    (parted_if (is_same_number j (first -ℤ pos 1)) words.Index fact)
    ≡ cond (is_parted (is_in_span first count) j fact) (Alone (by_itself fact)) fact
beside first count j (Alone fact) some out = refl
beside first count j (Index loop) some out =
    part-index (is_same_number j (first -ℤ pos 1)) (is_same_number j (first +ℤ pos count)) loop
    ∙ ap (λ b. cond b (Alone (by_itself (Index loop))) (Index loop)) (next-before first count j some out)
beside first count j (Count loop) some out =
    ap (λ b. cond b (Alone (by_itself (Count loop))) (Count loop)) (next-behind first count j some out)

inside : (first : ℤ) (count : ℕ) (j : ℤ) (facts : Facts) → first ≤ℤ j → j <ℤ (first +ℤ pos count)
    → parted words.Count (first +ℤ pos count) (parted words.Index (first -ℤ pos 1) facts) j ≡ facts j
inside first count j facts low high =
    ap (λ (b : Bool). parted_if b words.Count (parted words.Index (first -ℤ pos 1) facts j))
    (is_word-below j (first +ℤ pos count) high)
    ∙ (none-parted words.Count (parted words.Index (first -ℤ pos 1) facts j)
    ∙ (ap (λ (b : Bool). parted_if b words.Index (facts j)) (is_word-above j (first -ℤ pos 1) (omega (arith, ints)))
    ∙ none-parted words.Index (facts j)))

pub parts-leave : (first : ℤ) (count : ℕ) (leaving : Leaving) (facts : Facts) → 0 < count
    → with_span first count leaving (parted words.Count (first +ℤ pos count)
    (parted words.Index (first -ℤ pos 1) facts))
    ≡ changed (on_span first count leaving) facts
parts-leave first count leaving facts some = fun_ext (λ j. elim (lies-by first count j) [
  | below l e ↦ rw e (beside first count j (facts j) some e)
  | within l h e ↦ rw e (ap (λ (f : WordFact). Alone (left_of leaving (by_itself f))) (inside first count j facts l h))
  | above h e ↦ rw e (beside first count j (facts j) some e)
])

-- the same, step by step
pub span-steps : (first before behind : ℤ) (count : ℕ) (leaving : Leaving) (facts one two new : Facts) → 0 < count
    → before ≡ first -ℤ pos 1 → behind ≡ first +ℤ pos count
    → one ≡ parted words.Index before facts → two ≡ parted words.Count behind one
    → new ≡ with_span first count leaving two → new ≡ changed (on_span first count leaving) facts
span-steps first before behind count leaving facts one two new some before_is behind_is one_is two_is new_is =
    new_is ∙ (rw (two_is, behind_is, one_is, before_is) (parts-leave first count leaving facts some))

-- ---- what is known of a span together: words of which nothing is known

-- the same so far, with `k` more of which nothing is known
pub silent-more : (facts : Facts) (first : ℤ) (n k : ℕ)
    → ((j : ℕ) → n ≤ j → j < n + k → facts (first +ℤ pos j) ≡ Alone Unknown)
    → together facts first (n + k) ≡ with_silent k (together facts first n)
silent-more facts first n zero silent =
    ap (together facts first) (let e : n + 0 ≡ n = omega arith in e)
    ∙ (let t = together facts first n in λ i. record t { are_numbers = sym (and-true t.are_numbers) i })
silent-more facts first n (suc k) silent =
    let t = together facts first n in
    let so_far = silent-more facts first n k (λ j low high. silent j low (omega arith)) in
    ap (together facts first) (let e : n + suc k ≡ suc (n + k) = omega arith in e)
    ∙ (ap (λ (f : WordFact). with_one f (together facts first (n + k))) (silent (n + k) (omega arith) (omega arith))
    ∙ (ap (with_one (Alone Unknown)) so_far
    ∙ ((λ i. record t { are_numbers = no t.are_numbers i; are_alone = and-true t.are_alone i })
    ∙ (λ i. record t { are_numbers = t.are_numbers && sym some i }))))
  where
    some : (suc k == 0) ≡ false
    some = grind (arith, nat_tests)

    no : (b : Bool) → false ≡ b && false
    no true = refl
    no false = refl

-- nothing is known of a word that cannot be written
silent-outside : (frame : Frame) (k : ℤ) → (HasRoom frame k → ⊥) → frame_facts frame k ≡ Alone Unknown
silent-outside frame k outside = on (frame_facts frame k) refl
  where
    is-known : (f : WordFact) → frame_facts frame k ≡ f → is_silent f ≡ false → f ≡ Alone Unknown
    is-known f e known = absurd (outside (room-known frame k f (sym e) known))

    on : (f : WordFact) → frame_facts frame k ≡ f → f ≡ Alone Unknown
    on (Alone Unknown) e = refl
    on (Alone (Number lo hi)) e = is-known (Alone (Number lo hi)) e refl
    on (Alone (Pointer region lo hi step)) e = is-known (Alone (Pointer region lo hi step)) e refl
    on (Alone (CodeAddress offset)) e = is-known (Alone (CodeAddress offset)) e refl
    on (Alone (LoopFact base count weight)) e = is-known (Alone (LoopFact base count weight)) e refl
    on (Alone ReturnAddress) e = is-known (Alone ReturnAddress) e refl
    on (Index loop) e = is-known (Index loop) e refl
    on (Count loop) e = is-known (Count loop) e refl

-- words that come before those that can be written
pub silent-before : (frame : Frame) (first lo : ℤ) (n : ℕ) → lo ≡ frame.lo
    → ((j : ℕ) → j < n → (first +ℤ pos j) <ℤ lo)
    → with_silent n of_none ≡ together (frame_facts frame) first n
silent-before frame first lo n lo_is before =
    sym (ap (together (frame_facts frame) first) (let e : n ≡ 0 + n = omega arith in e)
    ∙ silent-more (frame_facts frame) first 0 n
    (λ j low high. silent-outside frame (first +ℤ pos j) (λ room.
    let less = before j (omega arith) in
    let from = room.low in
    omega (arith, ints))))

-- words that come after them
pub silent-behind : (frame : Frame) (first end : ℤ) (n count : ℕ) (all : Together) → n ≤ count
    → end ≡ frame.lo +ℤ pos (vec_len frame.overlay.places) → ((j : ℕ) → n ≤ j → j < count → end ≤ℤ (first +ℤ pos j))
    → all ≡ together (frame_facts frame) first n
    → with_silent (count - n) all ≡ together (frame_facts frame) first count
silent-behind frame first end n count all few end_is behind all_is =
    ap (with_silent (count - n)) all_is
    ∙ (sym (silent-more (frame_facts frame) first n (count - n)
    (λ j low high. silent-outside frame (first +ℤ pos j) (λ room.
    let more = behind j low (omega arith) in
    let to = room.high in
    omega (arith, ints))))
    ∙ ap (together (frame_facts frame) first) (let e : n + (count - n) ≡ count = omega arith in e))

-- ---- states

pub changed-fields : (first w : ℤ) (count : ℕ) (leaving : Leaving) (s : State) (a b c : Known) (frame : Facts)
    → a ≡ forgets (is_in_span w count) s.stack.a → b ≡ forgets (is_in_span w count) s.stack.b
    → c ≡ forgets (is_in_span w count) s.stack.c
    → frame ≡ changed (on_span w count leaving) s.frame → w ≡ first
    → ◌≡◌ {A = State} (record s { stack = record { a = a; b = b; c = c }; frame = frame })
    (after_change (on_span first count leaving) s)
unfolding after_change
changed-fields first w count leaving s a b c frame p q r f w_is =
    let a_is = p ∙ ap (λ (z : ℤ). forgets (is_in_span z count) s.stack.a) w_is in
    let b_is = q ∙ ap (λ (z : ℤ). forgets (is_in_span z count) s.stack.b) w_is in
    let c_is = r ∙ ap (λ (z : ℤ). forgets (is_in_span z count) s.stack.c) w_is in
    let frame_is = f ∙ ap (λ (z : ℤ). changed (on_span z count leaving) s.frame) w_is in
    λ i. record s { stack = record { a = a_is i; b = b_is i; c = c_is i }; frame = frame_is i }

-- ---- capacity

-- parting leaves the capacity for a span
pub span-room : (a b c : Frame) (first w : ℤ) (count : ℕ) → SameRoom a b → SameRoom b c → w ≡ first
    → HasRoomForSpan a first count → HasRoomForSpan c w count
span-room a b c first w count one two w_is room = record {
  each = λ k l h.
      let r = room.each k (omega (arith, ints)) (omega (arith, ints)) in
      let low = r.low in
      let high = r.high in
      let lo_b = one.lo in
      let lo_c = two.lo in
      let len_b = one.len in
      let len_c = two.len in
      record { low = omega (arith, ints); high = omega (arith, ints) };
}

pub span-of-room : (s : InMemory) (first w : ℤ) (count : ℕ) → w ≡ first → CanWriteSpan s first count
    → HasRoomForSpan s.frame w count
span-of-room s first w count w_is room = record {
  each = λ k l h. (room.each k (omega (arith, ints)) (omega (arith, ints))).room;
}

-- ---- words that a context may use

pub all-fail : (test : ℤ → Bool) (first word : ℤ) (n count : ℕ) → word ≡ first +ℤ pos n → n < count
    → test word ≡ false → all_words test first count ≡ false
all-fail test first word n zero word_is less fails = absurd (omega arith)
all-fail test first word n (suc count) word_is less fails = elim (cases_lt n count) [
  | inl later ↦ and_right _ _ (all-fail test first word n count word_is later fails)
  | inr here ↦
      let same : n ≡ count = omega arith in
      ap (λ (b : Bool). b && all_words test first count)
      (ap test (ap (λ (k : ℕ). first +ℤ pos k) (sym same) ∙ sym word_is) ∙ fails)
]

-- each of the words passes the test
pub all-there : (test : ℤ → Bool) (first : ℤ) (count : ℕ) (k : ℤ) → all_words test first count ≡ true → first ≤ℤ k
    → k <ℤ (first +ℤ pos count) → test k ≡ true
all-there test first zero k all low high = absurd (omega (arith, ints))
all-there test first (suc count) k all low high =
    let both = and_parts _ _ all in
    by_lt_z k (first +ℤ pos count) (λ before. all-there test first count k both.1 low before)
    (λ here. ap test (let e : k ≡ first +ℤ pos count = omega (arith, ints) in e) ∙ both.0)

-- all of them pass where each does
pub all-from-each : (test : ℤ → Bool) (first : ℤ) (count : ℕ)
    → ((k : ℤ) → first ≤ℤ k → k <ℤ (first +ℤ pos count) → test k ≡ true) → all_words test first count ≡ true
all-from-each test first zero each = refl
all-from-each test first (suc count) each =
    and_from _ _ (each (first +ℤ pos count) (omega (arith, ints)) (omega (arith, ints)))
    (all-from-each test first count (λ k low high. each k low (omega (arith, ints))))

-- they do not where one of them does not
pub all-fail-at : (test : ℤ → Bool) (first : ℤ) (count : ℕ) (k : ℤ) → first ≤ℤ k → k <ℤ (first +ℤ pos count)
    → test k ≡ false → all_words test first count ≡ false
all-fail-at test first count k low high fails =
    let here = distance k first (nat_abs (k -ℤ first)) low refl in
    all-fail test first k (nat_abs (k -ℤ first)) count here (omega (arith, ints)) fails
