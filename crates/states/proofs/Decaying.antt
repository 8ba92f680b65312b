-- Loops only decay: which words were changed by a time since the state began as a label's, and so were by themselves.
use Rattle.std.proofs.Common.{◌≡◌, ℕ, ◌+◌, ◌*◌, ◌/◌, ◌<◌, ◌≤◌, ℤ, pos, negsuc, ◌+ℤ◌, ◌-ℤ◌, Bool, true, false, ◌&&◌}
use Rattle.std.proofs.Common.{◌||◌, cond, List, refl, sym, ap, ◌∙◌, arith, inl, inr}
use Rattle.std.specs.Prelude.{nat_le}
use std.Path.{fun_ext}
use Rattle.std.proofs.lemmas.Bool.{cases_lt, cases_eq, and_from, and_left, and_right, or_left, or_right, le-leb, lt-leb}
use Rattle.std.proofs.lemmas.Bool.{lt-ltb, le-ltb}
use Rattle.std.proofs.lemmas.Int.{ints}
use Rattle.std.proofs.Math.Bool.{or-false}
use Rattle.module_format.specs.Rows.{Fact}
use Rattle.states.specs.declared.known.WordFact.TheVariants.{Alone}
use Rattle.states.specs.declared.remembered.Remembered.{Remembered}
use Rattle.states.specs.declared.span.Leaving.{Leaving}
use Rattle.states.specs.State.{Facts, is_alone, is_same_number, by_itself}
use Rattle.states.specs.Blocks.{block_words, first_of}
use Rattle.states.specs.Frames.{with_alone, with_span}
use Rattle.states.specs.Remembered.{time_of, is_by, first_since, index_changed}
use Rattle.states.specs.Remembering.{was_changed, was_alone, AreAged, IsPlaced, IsLeftSo}
use Rattle.states.specs.Spans.{left_of}
use Rattle.states.proofs.BlockSums.{number-of}
use Rattle.states.proofs.FrameFacts.{word-cases, is_word-same}
use Rattle.states.proofs.Leavings.{inside, outside, in-block}

-- ---- first changes

-- a first change that is made after a time is none by that time
by-late : (began time first : ℕ) → time < first → is_by began time first ≡ false
by-late began time first l = and_right _ _ (lt-leb first time l)

-- one that was made before the state began as a label's is none since
by-early : (began time first : ℕ) → first < began → is_by began time first ≡ false
by-early began time first l = and_left _ _ (lt-leb began first l)

-- one that was made between the two is one
by-now : (began time first : ℕ) → began ≤ first → first ≤ time → is_by began time first ≡ true
by-now began time first l h = and_from _ _ (le-leb began first l) (le-leb first time h)

-- a first change that was made by two times
by-both : (began time later first : ℕ) → first ≤ time → first ≤ later
    → is_by began later first ≡ is_by began time first
by-both began time later first l h =
    ap (λ (b : Bool). nat_le began first && b) (le-leb first later h ∙ sym (le-leb first time l))

-- a change that is made later than a time is none by that time
first-later : (began first now time : ℕ) → time < now → is_by began time (first_since began first now)
    ≡ is_by began time first
first-later began first now time l = elim (cases_lt first began) [
  | inl early ↦
      ap (λ (b : Bool). is_by began time (cond b now first)) (lt-ltb first began early)
      ∙ (by-late began time now l ∙ sym (by-early began time first early))
  | inr late ↦ ap (λ (b : Bool). is_by began time (cond b now first)) (le-ltb first began late)
]

-- once there is one now, there is a first change
first-now : (began first now : ℕ) → began ≤ now → first ≤ now → is_by began now (first_since began first now) ≡ true
first-now began first now l h = elim (cases_lt first began) [
  | inl early ↦
      ap (λ (b : Bool). is_by began now (cond b now first)) (lt-ltb first began early)
      ∙ by-now began now now l (omega arith)
  | inr late ↦
      ap (λ (b : Bool). is_by began now (cond b now first)) (le-ltb first began late)
      ∙ by-now began now first late h
]

-- the first change is not made later than now
pub first-past : (began first latest now : ℕ) → first ≤ latest → latest ≤ now → first_since began first now ≤ now
first-past began first latest now l h = elim (cases_lt first began) [
  | inl early ↦
      let is = ap (λ (b : Bool). cond b now first) (lt-ltb first began early) in
      omega (arith, is)
  | inr late ↦
      let is = ap (λ (b : Bool). cond b now first) (le-ltb first began late) in
      omega (arith, is, l, h)
]

-- of two tests each is what another one is
either : (a b c d : Bool) → a ≡ c → b ≡ d → (a || b) ≡ (c || d)
either a b c d first second = ap (λ (x : Bool). x || b) first ∙ ap (λ (x : Bool). c || x) second

-- a word that was first changed by two times, or by none of them
pub unchanged-after : (began : ℕ) (firsts lefts : List ℕ) (time later index : ℕ)
    → time_of firsts index ≤ time → time_of lefts (index / block_words) ≤ time
    → time_of firsts index ≤ later → time_of lefts (index / block_words) ≤ later
    → index_changed began firsts lefts later (pos index) ≡ index_changed began firsts lefts time (pos index)
unchanged-after began firsts lefts time later index a b c d =
    either _ _ _ _ (by-both began time later (time_of firsts index) a c)
    (by-both began time later (time_of lefts (index / block_words)) b d)

-- nothing was first changed after a time
pub all-by : (lo : ℤ) (r : Remembered) (time : ℕ) → r.firsts.latest ≤ time → (k : ℤ)
    → was_changed lo r r.time k ≡ was_changed lo r time k
all-by lo r time l k = on (k -ℤ lo)
  where
    on : (z : ℤ) → index_changed r.began r.firsts.words.items r.firsts.blocks.items r.time z
        ≡ index_changed r.began r.firsts.words.items r.firsts.blocks.items time z
    on (pos n) =
        let first = r.firsts.first n in
        let left = r.firsts.left (n / block_words) in
        let early = r.early in
        unchanged-after r.began r.firsts.words.items r.firsts.blocks.items time r.time n (omega (arith, first, l))
        (omega (arith, left, l)) (omega (arith, first, early)) (omega (arith, left, early))
    on (negsuc n) = refl

-- nothing was changed since the state began as a label's
pub none-changed : (lo : ℤ) (r : Remembered) (time : ℕ) → ((n : ℕ) → time_of r.firsts.words.items n < r.began)
    → ((n : ℕ) → time_of r.firsts.blocks.items n < r.began) → (k : ℤ) → was_changed lo r time k ≡ false
none-changed lo r time firsts lefts k = on (k -ℤ lo)
  where
    on : (z : ℤ) → index_changed r.began r.firsts.words.items r.firsts.blocks.items time z ≡ false
    on (pos n) = either _ _ false false (by-early r.began time (time_of r.firsts.words.items n) (firsts n))
        (by-early r.began time (time_of r.firsts.blocks.items (n / block_words)) (lefts (n / block_words)))
    on (negsuc n) = refl

-- so the words are by themselves of which the label says so
pub none-aged : (said facts : Facts) (lo : ℤ) (r : Remembered) → facts ≡ said
    → ((n : ℕ) → time_of r.firsts.words.items n < r.began) → ((n : ℕ) → time_of r.firsts.blocks.items n < r.began)
    → AreAged said facts lo r
none-aged said facts lo r is firsts lefts = λ k.
    ap (λ (f : Facts). is_alone (f k)) is
    ∙ (sym (or-false (is_alone (said k)))
    ∙ ap (λ (b : Bool). is_alone (said k) || b) (sym (none-changed lo r r.time firsts lefts k)))

-- ---- words are changed

-- by an earlier time the same words were changed
abbrev pub AreChangedAlike : ℤ → Remembered → Remembered → Type 0
AreChangedAlike lo old new =
    (time : ℕ) → time < new.time → (k : ℤ) → was_changed lo new time k ≡ was_changed lo old time k

-- a word is written
pub placed-alike : (lo : ℤ) (index number : ℕ) (old new : Remembered) → IsPlaced index number old new
    → AreChangedAlike lo old new
placed-alike lo index number old new placed = λ time l k. on time l (k -ℤ lo)
  where
    first : (time : ℕ) → time < new.time → (n : ℕ) → is_by old.began time (time_of new.firsts.words.items n)
        ≡ is_by old.began time (time_of old.firsts.words.items n)
    first time l n = elim (cases_eq n index) [
      | inl e ↦
          ap (λ (i : ℕ). is_by old.began time (time_of new.firsts.words.items i)) e
          ∙ (ap (is_by old.began time) placed.first
          ∙ (first-later old.began (time_of old.firsts.words.items index) new.time time l
          ∙ ap (λ (i : ℕ). is_by old.began time (time_of old.firsts.words.items i)) (sym e)))
      | inr d ↦ ap (is_by old.began time) (placed.firsts n d)
    ]

    on : (time : ℕ) → time < new.time → (z : ℤ) → index_changed new.began new.firsts.words.items new.firsts.blocks.items time z
        ≡ index_changed old.began old.firsts.words.items old.firsts.blocks.items time z
    on time l (pos n) =
        ap (λ (b : ℕ). index_changed b new.firsts.words.items new.firsts.blocks.items time (pos n)) placed.changed.began
        ∙ either _ _ _ _ (first time l n)
        (ap (λ (ts : List ℕ). is_by old.began time (time_of ts (n / block_words))) placed.lefts)
    on time l (negsuc n) = refl

-- a block is left
pub left-alike : (lo : ℤ) (number : ℕ) (leaving : Leaving) (old new : Remembered) → IsLeftSo number leaving old new
    → AreChangedAlike lo old new
left-alike lo number leaving old new left = λ time l k. on time l (k -ℤ lo)
  where
    first : (time : ℕ) → time < new.time → (n : ℕ) → is_by old.began time (time_of new.firsts.blocks.items n)
        ≡ is_by old.began time (time_of old.firsts.blocks.items n)
    first time l n = elim (cases_eq n number) [
      | inl e ↦
          ap (λ (i : ℕ). is_by old.began time (time_of new.firsts.blocks.items i)) e
          ∙ (ap (is_by old.began time) left.first
          ∙ (first-later old.began (time_of old.firsts.blocks.items number) new.time time l
          ∙ ap (λ (i : ℕ). is_by old.began time (time_of old.firsts.blocks.items i)) (sym e)))
      | inr d ↦ ap (is_by old.began time) (left.lefts n d)
    ]

    on : (time : ℕ) → time < new.time → (z : ℤ) → index_changed new.began new.firsts.words.items new.firsts.blocks.items time z
        ≡ index_changed old.began old.firsts.words.items old.firsts.blocks.items time z
    on time l (pos n) =
        ap (λ (b : ℕ). index_changed b new.firsts.words.items new.firsts.blocks.items time (pos n)) left.changed.began
        ∙ either _ _ _ _
        (ap (λ (ts : List ℕ). is_by old.began time (time_of ts n)) left.firsts) (first time l (n / block_words))
    on time l (negsuc n) = refl

-- a word of which neither first change is a new one was changed by now if it was before
changed-still : (lo : ℤ) (old new : Remembered) (k : ℤ) → new.began ≡ old.began → old.time ≤ new.time
    → ((n : ℕ) → k -ℤ lo ≡ pos n → (time_of new.firsts.words.items n ≡ time_of old.firsts.words.items n)
    × (time_of new.firsts.blocks.items (n / block_words) ≡ time_of old.firsts.blocks.items (n / block_words)))
    → was_changed lo new new.time k ≡ was_changed lo old old.time k
changed-still lo old new k began later same = on (k -ℤ lo) refl
  where
    on : (z : ℤ) → k -ℤ lo ≡ z → index_changed new.began new.firsts.words.items new.firsts.blocks.items new.time z
        ≡ index_changed old.began old.firsts.words.items old.firsts.blocks.items old.time z
    on (pos n) at =
        let both = same n at in
        let first = old.firsts.first n in
        let left = old.firsts.left (n / block_words) in
        let early = old.early in
        ap (λ (b : ℕ). index_changed b new.firsts.words.items new.firsts.blocks.items new.time (pos n)) began
        ∙ (either _ _ _ _ (ap (is_by old.began new.time) both.0) (ap (is_by old.began new.time) both.1)
        ∙ unchanged-after old.began old.firsts.words.items old.firsts.blocks.items old.time new.time n (omega (arith, first, early))
        (omega (arith, left, early)) (omega (arith, first, early, later)) (omega (arith, left, early, later)))
    on (negsuc n) at = refl

-- a word that is what it was, and was not changed first now
aged-still : (said facts others : Facts) (lo : ℤ) (old new : Remembered) (k : ℤ) → others k ≡ facts k
    → was_changed lo new new.time k ≡ was_changed lo old old.time k → AreAged said facts lo old
    → is_alone (others k) ≡ was_alone said lo new new.time k
aged-still said facts others lo old new k same changed aged =
    ap is_alone same ∙ (aged k ∙ ap (λ (b : Bool). is_alone (said k) || b) (sym changed))

-- a word is written
pub placed-aged : (said facts others : Facts) (lo word : ℤ) (index number : ℕ) (fact : Fact) (old new : Remembered)
    → IsPlaced index number old new → others ≡ with_alone word fact facts → word ≡ lo +ℤ pos index
    → AreAged said facts lo old → AreAged said others lo new
placed-aged said facts others lo word index number fact old new placed is at aged = λ k. elim (word-cases k word) [
  | inl same ↦
      let equal = same.1 in
      let here : k -ℤ lo ≡ pos index = omega (arith, ints, equal, at) in
      let first = old.firsts.first index in
      let early = old.early in
      let order = old.order in
      let later = placed.changed.time in
      let now : is_by old.began new.time (time_of new.firsts.words.items index) ≡ true =
      ap (is_by old.began new.time) placed.first
      ∙ first-now old.began (time_of old.firsts.words.items index) new.time (omega (arith, order, later))
      (omega (arith, first, early, later)) in
      let changed : was_changed lo new new.time k ≡ true =
      ap (index_changed new.began new.firsts.words.items new.firsts.blocks.items new.time) here
      ∙ (ap (λ (b : ℕ). index_changed b new.firsts.words.items new.firsts.blocks.items new.time (pos index)) placed.changed.began
      ∙ or_left _ _ now) in
      ap (λ (f : Facts). is_alone (f k)) is
      ∙ (ap (λ (b : Bool). is_alone (cond b (Alone fact) (facts k))) same.0
      ∙ sym (or_right _ _ changed))
  | inr other ↦
      aged-still said facts others lo old new k
      (ap (λ (f : Facts). f k) is ∙ ap (λ (b : Bool). cond b (Alone fact) (facts k)) other)
      (changed-still lo old new k placed.changed.began placed.changed.time (λ n here. (
        placed.firsts n (λ e. differs k n here e other),
        ap (λ (ts : List ℕ). time_of ts (n / block_words)) placed.lefts,
      )))
      aged
]
  where
    differs : (k : ℤ) (n : ℕ) → k -ℤ lo ≡ pos n → n ≡ index → is_same_number k word ≡ false → ⊥
    differs k n here e other =
        let clash : true ≡ false = sym (is_word-same k word (omega (arith, ints, here, e, at))) ∙ other in
        absurd (cc)

-- a block is left
pub left-aged : (said facts others : Facts) (lo : ℤ) (number : ℕ) (leaving : Leaving) (old new : Remembered)
    → IsLeftSo number leaving old new → others ≡ with_span (first_of lo number) block_words leaving facts
    → AreAged said facts lo old → AreAged said others lo new
left-aged said facts others lo number leaving old new left is aged = λ k. elim (in-block lo number k) [
  | inside j less at e ↦
      let n = number * block_words + j in
      let here : k -ℤ lo ≡ pos n = omega (arith, ints, at) in
      let block : n / block_words ≡ number = number-of n number block_words (omega arith) (omega (arith, less)) in
      let first = old.firsts.left number in
      let early = old.early in
      let order = old.order in
      let later = left.changed.time in
      let now : is_by old.began new.time (time_of new.firsts.blocks.items number) ≡ true =
      ap (is_by old.began new.time) left.first
      ∙ first-now old.began (time_of old.firsts.blocks.items number) new.time (omega (arith, order, later))
      (omega (arith, first, early, later)) in
      let changed : was_changed lo new new.time k ≡ true =
      ap (index_changed new.began new.firsts.words.items new.firsts.blocks.items new.time) here
      ∙ (ap (λ (b : ℕ). index_changed b new.firsts.words.items new.firsts.blocks.items new.time (pos n)) left.changed.began
      ∙ or_right _ _ (ap (λ (i : ℕ). is_by old.began new.time (time_of new.firsts.blocks.items i)) block ∙ now)) in
      ap (λ (f : Facts). is_alone (f k)) is
      ∙ (ap (λ (b : Bool). is_alone (cond b (Alone (left_of leaving (by_itself (facts k)))) (facts k))) e
      ∙ sym (or_right _ _ changed))
  | outside e far ↦
      aged-still said facts others lo old new k
      (ap (λ (f : Facts). f k) is
      ∙ ap (λ (b : Bool). cond b (Alone (left_of leaving (by_itself (facts k)))) (facts k)) e)
      (changed-still lo old new k left.changed.began left.changed.time (λ n here. (
        ap (λ (ts : List ℕ). time_of ts n) left.firsts,
        left.lefts (n / block_words) (far n here),
      )))
      aged
]

-- the same words were changed, where the same first changes are kept
pub changed-same : (lo : ℤ) (old new : Remembered) (time : ℕ) → new.began ≡ old.began
    → new.firsts.words.items ≡ old.firsts.words.items → new.firsts.blocks.items ≡ old.firsts.blocks.items → (k : ℤ)
    → was_changed lo new time k ≡ was_changed lo old time k
changed-same lo old new time began firsts lefts k =
    ap (λ (b : ℕ). index_changed b new.firsts.words.items new.firsts.blocks.items time (k -ℤ lo)) began
    ∙ (ap (λ (ts : List ℕ). index_changed old.began ts new.firsts.blocks.items time (k -ℤ lo)) firsts
    ∙ ap (λ (ts : List ℕ). index_changed old.began old.firsts.words.items ts time (k -ℤ lo)) lefts)

-- so the same words were by themselves where the same were changed
pub alone-same : (said : Facts) (lo : ℤ) (old new : Remembered) (time : ℕ)
    → ((k : ℤ) → was_changed lo new time k ≡ was_changed lo old time k)
    → was_alone said lo new time ≡ was_alone said lo old time
alone-same said lo old new time same = fun_ext (λ k. ap (λ (b : Bool). is_alone (said k) || b) (same k))

-- and the words are by themselves that were
pub aged-same : (said facts others : Facts) (lo : ℤ) (old new : Remembered) → others ≡ facts → new.time ≡ old.time
    → new.began ≡ old.began → new.firsts.words.items ≡ old.firsts.words.items → new.firsts.blocks.items ≡ old.firsts.blocks.items
    → AreAged said facts lo old → AreAged said others lo new
aged-same said facts others lo old new is time began firsts lefts aged = λ k.
    ap (λ (f : Facts). is_alone (f k)) is
    ∙ (aged k ∙ ap (λ (b : Bool). is_alone (said k) || b)
    (ap (λ (t : ℕ). was_changed lo old t k) (sym time) ∙ sym (changed-same lo old new new.time began firsts lefts k)))
