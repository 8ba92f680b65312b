-- What is remembered of comparisons with labels, once words are changed or asked again.
use Rattle.std.proofs.Common.{◌≡◌, ◌≢◌, ◌⊎◌, ℕ, suc, ◌+◌, ◌-◌, ◌*◌, ◌/◌, ◌%◌, ◌<◌, ◌≤◌, ℤ, pos, negsuc, ◌+ℤ◌, ◌-ℤ◌}
use Rattle.std.proofs.Common.{◌≤ℤ◌, ◌<ℤ◌}
use Rattle.std.proofs.Common.{Bool, true, false, ◌&&◌, ◌||◌, List, length, Option, Some, None, refl, sym, ap}
use Rattle.std.proofs.Common.{◌∙◌}
use std.Path.{fun_ext}
use Rattle.std.proofs.Common.{subst, arith, inl, inr, cond}
use Rattle.std.specs.Prelude.{nat_lt, sum_by, if◌then◌else◌, Result, Ok, Err}
use Rattle.std.specs.List.{list_all}
use Rattle.std.proofs.lemmas.Bool.{cases_lt, cases_eq, and_parts}
use Rattle.std.proofs.lemmas.Int.{ints}
use Rattle.std.proofs.lemmas.List.{get_or_past, get_or-set_same, get_or-set_other}
use Rattle.std.proofs.Math.ListN.{get_or, set}
use Rattle.std.proofs.lemmas.Nat.{div-add-mod'}
use Rattle.std.proofs.Math.Nat.{mod-lt, mul-le-mul_right}
use Rattle.module_format.specs.Rows.{Fact, Entry}
use Rattle.module_format.specs.Contents.{Contents, Label, label_at}
use Rattle.module_format.specs.declared.fact.Fact.TheVariants.{Number}
use Rattle.states.specs.declared.known.WordFact.{WordFact}
use Rattle.states.specs.declared.known.WordFact.TheVariants.{Alone}
use Rattle.states.specs.declared.remembered.Changes.{Changes}
use Rattle.states.specs.declared.remembered.Compared.{Compared}
use Rattle.states.specs.declared.remembered.Remembered.{Remembered}
use Rattle.states.specs.declared.span.Leaving.{Leaving}
use Rattle.states.specs.declared.span.Leaving.TheVariants.{Widen}
use Rattle.states.specs.declared.rule.Rule.{Rule}
use Rattle.states.specs.declared.rule.Rule.TheVariants as rules
use Rattle.states.specs.State.{State, Facts, by_itself, is_alone, entry_fact}
use Rattle.states.specs.Spans.{left_of}
use Rattle.states.specs.Below.{View, says, is_whole, entries_hold, agrees}
use Rattle.states.specs.Below.{cost}
use Rattle.states.specs.Below.{view, below, below_at}
use Rattle.states.specs.Blocks.{block_words, first_of, is_widening, HaveRoom}
use Rattle.states.specs.Implied.{BlockImplied, WantsOnlyWithin}
use Rattle.states.specs.Comparing.{SaysAll, BlockSaysAll, stands}
use Rattle.states.specs.Frames.{with_alone, with_span}
use Rattle.states.specs.Remembered.{numbered_label, compared_at, time_of, index_time, word_time, HasTimes}
use Rattle.states.specs.Remembered.{are_loops_of_two, whole_by, due_by, AreDueSince}
use Rattle.states.specs.Remembered.{wants_no_loop, IsPaid, ChangedSay, allows, changes_of, written_at, written_in}
use Rattle.states.specs.Remembered.{leaving_since, leaving_of_index, range_in}
use Rattle.states.specs.Remembering.{IsRemembered, AreAged, AreRemembered, IsChanged, IsPlaced, IsLeftSo}
use Rattle.states.specs.Remembering.{IsPut, IsCopy, was_changed, was_alone}
use Rattle.states.specs.Rows.{AreApart}
use Rattle.states.proofs.BlockSums.{number-of}
use Rattle.states.proofs.Comparisons.{entries_hold-says, says-unknown}
use Rattle.states.proofs.Decaying.{alone-same, changed-same, aged-same, none-aged, AreChangedAlike, all-by}
use Rattle.states.proofs.Dues.{none-whole, none-due, none-pairs, paid-by, paid-now}
use Rattle.states.proofs.FrameFacts.{word-cases}
use Rattle.states.proofs.Loops.{some-words}
use Rattle.states.proofs.Leavings.{inside, outside, in-block}
use Rattle.states.proofs.Widenings.{widened-in}

-- ---- words that were not changed since

-- what was not changed since a time is what it was, and was not changed before
abbrev pub AreSame : (ℤ → ℕ) → (ℤ → ℕ) → Facts → Facts → ℕ → Type 0
AreSame times later facts others time = (k : ℤ) → later k ≤ time → (others k ≡ facts k) × (times k ≤ time)

-- where what is wanted of a word of whose block none was written since a time is allowed, it was before, and is known if
-- it was
abbrev pub StayHeld : ℤ → Remembered → Remembered → Facts → Facts → ℕ → Type 0
StayHeld lo old new facts others time =
    (k : ℤ) (wanted : WordFact) → written_in lo new.by_block.items k ≤ time
    → allows (range_in new.began lo new.times.items new.by_block.items k) wanted ≡ true
    → (written_in lo old.by_block.items k ≤ time)
    × (allows (range_in old.began lo old.times.items old.by_block.items k) wanted ≡ true)
    × (says (facts k) wanted ≡ true → says (others k) wanted ≡ true)

-- a comparison is remembered where words are changed later
remembered-still : (said : Facts) (lo : ℤ) (old new : Remembered) (facts others : Facts) (entries : List Entry)
    (c : Compared)
    → AreSame (word_time lo old.times.items) (word_time lo new.times.items) facts others c.time
    → StayHeld lo old new facts others c.time
    → ((k : ℤ) → was_changed lo new c.time k ≡ was_changed lo old c.time k)
    → IsRemembered said lo old facts entries c → IsRemembered said lo new others entries c
remembered-still said lo old new facts others entries c same held alike before =
    let alone = alone-same said lo old new c.time alike in
    record {
      knows = λ k l.
          let at = same k l in
          ap (λ (f : WordFact). says f (entry_fact entries k)) at.0 ∙ before.knows k at.1;
      held = λ k l allowing.
          let at = held k (entry_fact entries k) l allowing in
          at.2 (before.held k at.0 at.1);
      pairs = before.pairs;
      whole = ap (λ (a : ℤ → Bool). list_all (whole_by a) entries) alone ∙ before.whole;
      due = ap (λ (a : ℤ → Bool). sum_by (due_by a) entries) alone ∙ before.due;
      plain = before.plain;
    }

-- ---- the times of blocks

pub time-there : (words times index : ℕ) → index < words → HasTimes words times → index / block_words < times
unfolding HasTimes
time-there words times index below timed = elim (cases_lt (index / block_words) times) [
  | inl l ↦ l
  | inr h ↦
      let all = timed.0 in
      let both = div-add-mod' index block_words in
      let more : times * block_words ≤ (index / block_words) * block_words = mul-le-mul_right block_words h in
      absurd (omega (arith, all, both, more))
]

pub block-there : (words blocks times number : ℕ) → number < blocks → HaveRoom words blocks → HasTimes words times
    → number < times
unfolding HaveRoom HasTimes
block-there words blocks times number below room timed = elim (cases_lt number times) [
  | inl l ↦ l
  | inr h ↦
      let all = timed.0 in
      let more : times * block_words ≤ blocks * block_words = mul-le-mul_right block_words (omega (arith, h, below)) in
      absurd (omega (arith, all, more, room))
]

-- a word of a block, which need not be a whole one, is near the frame
pub block-index : (words times number i : ℕ) → number < times → i ≤ block_words → HasTimes words times
    → number * block_words + i ≤ words + block_words
unfolding HasTimes
block-index words times number i below within timed =
    let few = timed.1 in
    let more : suc number * block_words ≤ times * block_words = mul-le-mul_right block_words below in
    omega (arith, few, more)

-- what holds of each item of a list, once one of them is set
pub set-all : {A : Type 0} (P : ℕ → A → Type 0) (xs : List A) (i : ℕ) (v d : A) → i < length xs
    → ((n : ℕ) → P n (get_or xs n d)) → P i v → (n : ℕ) → P n (get_or (set xs i v) n d)
set-all P xs i v d low all here n = elim (cases_eq n i) [
  | inl e ↦ subst (P n) (sym (ap (λ (j : ℕ). get_or (set xs i v) j d) e ∙ get_or-set_same xs i v d low))
      (subst (λ (j : ℕ). P j v) (sym e) here)
  | inr other ↦ subst (P n) (sym (get_or-set_other xs i n v d other)) (all n)
]

-- ---- all comparisons

pub remembered-same : (said facts others : Facts) (lo : ℤ) (r : Remembered) → others ≡ facts
    → AreRemembered said facts lo r → AreRemembered said others lo r
remembered-same said facts others lo r same old =
    subst (λ (f : Facts). AreRemembered said f lo r) (sym same) old

-- none is of the label that the state goes on from, and what that label says is known
pub remembered-none : (said facts : Facts) (lo : ℤ) (r : Remembered) → facts ≡ said
    → ((at : ℕ) → (compared_at r.compared.items at).time < r.began) → r.time ≤ r.began
    → ((n : ℕ) → time_of r.firsts.words.items n < r.began) → ((n : ℕ) → time_of r.firsts.blocks.items n < r.began)
    → AreRemembered said facts lo r
unfolding AreRemembered
remembered-none said facts lo r is none now firsts lefts = (
  λ at t found later.
      let before = none at in
      absurd (omega (arith, before, later)),
  λ k some early. ap (λ (f : Facts). f k) is,
  none-aged said facts lo r is firsts lefts,
)

-- the words outside a block are what they were
pub record AreOutside (lo : ℤ) (number : ℕ) (facts others : Facts) : Type 0 where
  pub same : (k : ℤ) → ((n : ℕ) → k -ℤ lo ≡ pos n → n / block_words ≢ number) → others k ≡ facts k

-- the word of an index in another block
away : (lo k : ℤ) (n number : ℕ) → k -ℤ lo ≡ pos n → n / block_words ≢ number
    → (i : ℕ) → k -ℤ lo ≡ pos i → i / block_words ≢ number
away lo k n number at d i e =
    let same : n ≡ i = omega (arith, ints, at, e) in
    λ is. d (ap (λ (j : ℕ). j / block_words) same ∙ is)

pub remembered-changed : (said facts others : Facts) (lo : ℤ) (number : ℕ) (old new : Remembered)
    → IsChanged number old new → AreOutside lo number facts others
    → ((time : ℕ) → time < time_of new.times.items number → StayHeld lo old new facts others time)
    → AreChangedAlike lo old new → (AreAged said facts lo old → AreAged said others lo new)
    → AreRemembered said facts lo old → AreRemembered said others lo new
unfolding AreRemembered
remembered-changed said facts others lo number old new change far held alike aged remembered = (
  λ at t found later.
      elim (change.kept.each at) [
        | inl same ↦
            let time = ap (λ (c : Compared). c.time) same in
            let began = change.began in
            let after = change.later at in
            let before = remembered.0 at t (ap (λ (m : Contents). numbered_label m at) (sym change.kept.same) ∙ found)
            (omega (arith, time, began, later)) in
            let now = new.changed number in
            subst (λ (c : Compared). IsRemembered said lo new others t.entries c) (sym same)
            (remembered-still said lo old new facts others t.entries (compared_at old.compared.items at)
            (λ k l. on (compared_at old.compared.items at).time k (k -ℤ lo) refl (omega (arith, time, after)) l)
            (held (compared_at old.compared.items at).time (omega (arith, time, after)))
            (alike (compared_at old.compared.items at).time (omega (arith, time, after, now))) before)
        | inr none ↦
            let time = ap (λ (c : Compared). c.time) none in
            let begun = new.begun in
            absurd (omega (arith, time, later, begun))
      ],
  λ k some early.
      let before = fresh k (k -ℤ lo) refl some early in
      before.2 ∙ remembered.1 k before.0 before.1,
  aged remembered.2,
)
  where
    on : (time : ℕ) (k z : ℤ) → k -ℤ lo ≡ z → time < time_of new.times.items number
        → index_time new.times.items z ≤ time → (others k ≡ facts k) × (index_time old.times.items z ≤ time)
    on time k (pos n) at later l = elim (cases_eq (n / block_words) number) [
      | inl e ↦
          let here = ap (time_of new.times.items) e in
          absurd (omega (arith, here, later, l))
      | inr d ↦ (
        far.same k (away lo k n number at d),
        (let same = change.others (n / block_words) d in omega (arith, same, l)),
      )
    ]
    on time k (negsuc n) at later l = (
      far.same k (λ i e. absurd (omega (arith, ints, at, e))),
      omega arith,
    )

    fresh : (k z : ℤ) → k -ℤ lo ≡ z → 1 ≤ index_time new.times.items z → index_time new.times.items z < new.began
        → (1 ≤ index_time old.times.items z) × (index_time old.times.items z < old.began) × (others k ≡ facts k)
    fresh k (pos n) at some early = elim (cases_eq (n / block_words) number) [
      | inl e ↦
          let here = ap (time_of new.times.items) e in
          let late = change.late in
          absurd (omega (arith, here, late, early))
      | inr d ↦
          let same = change.others (n / block_words) d in
          let began = change.began in (
            omega (arith, same, some),
            omega (arith, same, began, early),
            far.same k (away lo k n number at d),
          )
    ]
    fresh k (negsuc n) at some early = absurd (omega (arith, some))

-- a word is written
pub outside-word : (lo word : ℤ) (index number : ℕ) (fact : Fact) (facts others : Facts)
    → others ≡ with_alone word fact facts → word ≡ lo +ℤ pos index → index / block_words ≡ number
    → AreOutside lo number facts others
outside-word lo word index number fact facts others is at number_is = record {
  same = λ k out. ap (λ (f : Facts). f k) is ∙ elim (word-cases k word) [
    | inl same ↦
        let here = same.1 in
        absurd (out index (omega (arith, ints, here, at)) number_is)
    | inr other ↦ ap (λ (b : Bool). cond b (Alone fact) (facts k)) other
  ];
}

-- a block is left
pub outside-block : (lo : ℤ) (number : ℕ) (leaving : Leaving) (facts others : Facts)
    → others ≡ with_span (first_of lo number) block_words leaving facts → AreOutside lo number facts others
outside-block lo number leaving facts others is = record {
  same = λ k out. ap (λ (f : Facts). f k) is ∙ elim (in-block lo number k) [
    | inside j less at e ↦
        let index : k -ℤ lo ≡ pos (number * block_words + j) = omega (arith, ints, at) in
        absurd (out (number * block_words + j) index (number-of (number * block_words + j) number block_words
        (omega arith) (omega (arith, less))))
    | outside e far ↦ ap (λ (b : Bool). cond b (Alone (left_of leaving (by_itself (facts k)))) (facts k)) e
  ];
}

-- ---- how what is kept of blocks of which no word was written changes

-- a block was left as before
range-same : (began began' time time' : ℕ) (c c' : Changes) → began ≡ began' → time ≡ time' → c ≡ c'
    → leaving_since began time c ≡ leaving_since began' time' c'
range-same began began' time time' c c' b t same =
    ap (λ (n : ℕ). leaving_since n time c) b
    ∙ (ap (λ (n : ℕ). leaving_since began' n c) t ∙ ap (leaving_since began' time') same)

-- the words of another block
far-held : (lo : ℤ) (number : ℕ) (facts others : Facts) (old new : Remembered) → IsChanged number old new
    → ((n : ℕ) → n ≢ number → changes_of new.by_block.items n ≡ changes_of old.by_block.items n)
    → AreOutside lo number facts others → (time : ℕ) (k : ℤ) (n : ℕ) (wanted : WordFact) → k -ℤ lo ≡ pos n
    → n / block_words ≢ number → (changes_of new.by_block.items (n / block_words)).written ≤ time
    → allows (leaving_since new.began (time_of new.times.items (n / block_words))
    (changes_of new.by_block.items (n / block_words))) wanted ≡ true
    → ((changes_of old.by_block.items (n / block_words)).written ≤ time)
    × (allows (leaving_since old.began (time_of old.times.items (n / block_words))
    (changes_of old.by_block.items (n / block_words))) wanted ≡ true)
    × (says (facts k) wanted ≡ true → says (others k) wanted ≡ true)
far-held lo number facts others old new change kept far time k n wanted here d l allowing =
    let same = kept (n / block_words) d in
    let written = ap (λ (c : Changes). c.written) same in
    let range = range-same new.began old.began (time_of new.times.items (n / block_words))
    (time_of old.times.items (n / block_words)) (changes_of new.by_block.items (n / block_words))
    (changes_of old.by_block.items (n / block_words)) change.began (change.others (n / block_words) d) same in (
      omega (arith, written, l),
      ap (λ (o : Option Leaving). allows o wanted) (sym range) ∙ allowing,
      λ h. ap (λ (f : WordFact). says f wanted) (far.same k (away lo k n number here d)) ∙ h,
    )

-- a word that is none of a block's
none-held : (lo : ℤ) (number : ℕ) (facts others : Facts) → AreOutside lo number facts others → (time : ℕ) (k : ℤ)
    (n : ℕ) (wanted : WordFact) → k -ℤ lo ≡ negsuc n
    → (0 ≤ time) × (true ≡ true) × (says (facts k) wanted ≡ true → says (others k) wanted ≡ true)
none-held lo number facts others far time k n wanted here = (
  omega arith,
  refl,
  λ h. ap (λ (f : WordFact). says f wanted) (far.same k (λ i e. absurd (omega (arith, ints, here, e)))) ∙ h,
)

-- a word is written
pub placed-held : (lo : ℤ) (index number : ℕ) (facts others : Facts) (old new : Remembered)
    → IsPlaced index number old new → AreOutside lo number facts others
    → (time : ℕ) → time < time_of new.times.items number → StayHeld lo old new facts others time
placed-held lo index number facts others old new placed far time later =
    λ k wanted l allowing. on k (k -ℤ lo) wanted refl l allowing
  where
    on : (k z : ℤ) (wanted : WordFact) → k -ℤ lo ≡ z → written_at new.by_block.items z ≤ time
        → allows (leaving_of_index new.began new.times.items new.by_block.items z) wanted ≡ true
        → (written_at old.by_block.items z ≤ time)
        × (allows (leaving_of_index old.began old.times.items old.by_block.items z) wanted ≡ true)
        × (says (facts k) wanted ≡ true → says (others k) wanted ≡ true)
    on k (pos n) wanted here l allowing = elim (cases_eq (n / block_words) number) [
      | inl e ↦
          let now = ap (λ (i : ℕ). (changes_of new.by_block.items i).written) e in
          let set = placed.here in
          absurd (omega (arith, now, set, later, l))
      | inr d ↦
          far-held lo number facts others old new placed.changed placed.others far time k n wanted here d l allowing
    ]
    on k (negsuc n) wanted here l allowing = none-held lo number facts others far time k n wanted here

-- a block is left
pub left-held : (lo : ℤ) (number : ℕ) (leaving : Leaving) (facts others : Facts) (old new : Remembered)
    → IsLeftSo number leaving old new → others ≡ with_span (first_of lo number) block_words leaving facts
    → (time : ℕ) → time < time_of new.times.items number → StayHeld lo old new facts others time
left-held lo number leaving facts others old new left is time later =
    λ k wanted l allowing. on k (k -ℤ lo) wanted refl l allowing
  where
    within : (w : Bool) → is_widening leaving ≡ w → (k : ℤ) (n : ℕ) (wanted : WordFact) → k -ℤ lo ≡ pos n
        → n / block_words ≡ number → (changes_of new.by_block.items number).written ≤ time
        → allows (leaving_since new.began (time_of new.times.items number) (changes_of new.by_block.items number)) wanted
        ≡ true
        → ((changes_of old.by_block.items number).written ≤ time)
        × (allows (leaving_since old.began (time_of old.times.items number) (changes_of old.by_block.items number)) wanted
        ≡ true)
        × (says (facts k) wanted ≡ true → says (others k) wanted ≡ true)
    within false w k n wanted here e l allowing =
        let anew = left.anew w in
        absurd (omega (arith, anew, later, l))
    within true w k n wanted here e l allowing =
        let written = left.written w in
        let both = widened-in lo number leaving facts others k n
        (leaving_since old.began (time_of old.times.items number) (changes_of old.by_block.items number)) wanted is w
        here e
        (ap (λ (o : Option Leaving). allows o wanted) (sym (left.range w)) ∙ allowing) in
        (omega (arith, written, l), both.0, both.1)

    on : (k z : ℤ) (wanted : WordFact) → k -ℤ lo ≡ z → written_at new.by_block.items z ≤ time
        → allows (leaving_of_index new.began new.times.items new.by_block.items z) wanted ≡ true
        → (written_at old.by_block.items z ≤ time)
        × (allows (leaving_of_index old.began old.times.items old.by_block.items z) wanted ≡ true)
        × (says (facts k) wanted ≡ true → says (others k) wanted ≡ true)
    on k (pos n) wanted here l allowing = elim (cases_eq (n / block_words) number) [
      | inl e ↦
          let now = ap (λ (i : ℕ). (changes_of new.by_block.items i).written) e in
          let before = ap (λ (i : ℕ). (changes_of old.by_block.items i).written) e in
          let inner = within (is_widening leaving) refl k n wanted here e (omega (arith, now, l))
          (ap (λ (i : ℕ). allows (leaving_since new.began (time_of new.times.items i) (changes_of new.by_block.items i))
          wanted) (sym e) ∙ allowing) in
          let was = inner.0 in (
            omega (arith, before, was),
            ap (λ (i : ℕ). allows (leaving_since old.began (time_of old.times.items i)
                (changes_of old.by_block.items i)) wanted) e ∙ inner.1,
            inner.2,
          )
      | inr d ↦
          far-held lo number facts others old new left.changed left.others
          (outside-block lo number leaving facts others is) time k n wanted here d l allowing
    ]
    on k (negsuc n) wanted here l allowing =
        none-held lo number facts others (outside-block lo number leaving facts others is) time k n wanted here

-- a comparison more
pub remembered-put : (said facts : Facts) (lo : ℤ) (old new : Remembered) (t : Label) (number paid : ℕ)
    (is_plain : Bool) → IsPut number paid is_plain old new
    → numbered_label old.«module».now number ≡ Some t → AreApart t.entries → IsPaid facts t.entries paid
    → (is_plain ≡ true → wants_no_loop t.entries ≡ true) → are_loops_of_two t.entries ≡ true
    → AreRemembered said facts lo old → AreRemembered said facts lo new
unfolding AreRemembered
remembered-put said facts lo old new t number paid is_plain put label apart due plain pairs remembered = (
  λ at other found later. elim (put.each at) [
    | inl kept ↦
        let time = ap (λ (c : Compared). c.time) kept in
        let began = put.began in
        let before = remembered.0 at other (ap (λ (m : Contents). numbered_label m at) (sym put.same) ∙ found)
        (omega (arith, time, began, later)) in
        subst (λ (c : Compared). IsRemembered said lo new facts other.entries c) (sym kept)
        (still other.entries (compared_at old.compared.items at) before)
    | inr now ↦
        let one : Some other ≡ Some t =
        sym found ∙ (ap (λ (m : Contents). numbered_label m at) put.same
        ∙ (ap (numbered_label old.«module».now) now.0 ∙ label)) in
        let label_is : other ≡ t = cc in
        subst (λ (c : Compared). IsRemembered said lo new facts other.entries c) (sym now.1)
        (subst (λ (l : Label). IsRemembered said lo new facts l.entries
        (record { time = new.time; paid = paid; is_plain = is_plain })) (sym label_is) first)
  ],
  λ k some early.
      let time = ap (λ (ts : List ℕ). word_time lo ts k) put.times in
      let began = put.began in
      remembered.1 k (omega (arith, time, some)) (omega (arith, time, began, early)),
  aged,
)
  where
    aged : AreAged said facts lo new
    aged = aged-same said facts facts lo old new refl put.time put.began put.firsts put.lefts remembered.2

    first : IsRemembered said lo new facts t.entries (record { time = new.time; paid = paid; is_plain = is_plain })
    first =
        let both = paid-by facts (was_alone said lo new new.time) t.entries paid apart pairs aged due in
        record {
          knows = λ k l. due.knows k;
          held = λ k l allowing. due.knows k;
          pairs = pairs;
          whole = both.0;
          due = both.1;
          plain = plain;
        }

    still : (entries : List Entry) (c : Compared) → IsRemembered said lo old facts entries c
        → IsRemembered said lo new facts entries c
    still entries c before =
        let alone = alone-same said lo old new c.time
        (changed-same lo old new c.time put.began put.firsts put.lefts) in
        record {
          knows = λ k l. before.knows k (subst (λ (ts : List ℕ). word_time lo ts k ≤ c.time) put.times l);
          held = λ k l allowing. before.held k
              (subst (λ (bs : List Changes). written_in lo bs k ≤ c.time) put.blocks l)
              (subst (λ (b : ℕ). allows (range_in b lo old.times.items old.by_block.items k) (entry_fact entries k) ≡ true)
              put.began
              (subst (λ (ts : List ℕ). allows (range_in new.began lo ts old.by_block.items k) (entry_fact entries k) ≡ true)
              put.times
              (subst (λ (bs : List Changes).
              allows (range_in new.began lo new.times.items bs k) (entry_fact entries k) ≡ true) put.blocks allowing)));
          pairs = before.pairs;
          whole = ap (λ (a : ℤ → Bool). list_all (whole_by a) entries) alone ∙ before.whole;
          due = ap (λ (a : ℤ → Bool). sum_by (due_by a) entries) alone ∙ before.due;
          plain = before.plain;
        }

-- the same again, with no comparison
pub remembered-copied : (said facts others : Facts) (lo : ℤ) (old new : Remembered) → IsCopy old new → others ≡ facts
    → AreRemembered said facts lo old → AreRemembered said others lo new
unfolding AreRemembered
remembered-copied said facts others lo old new copied is remembered = (
  λ at t found later.
      let time = ap (λ (c : Compared). c.time) (copied.none at) in
      let begun = new.begun in
      absurd (omega (arith, time, begun, later)),
  λ k some early.
      let time = ap (λ (ts : List ℕ). word_time lo ts k) copied.times in
      let began = copied.began in
      ap (λ (f : Facts). f k) is ∙ remembered.1 k (omega (arith, time, some)) (omega (arith, time, began, early)),
  aged-same said facts others lo old new is copied.time copied.began copied.firsts copied.lefts remembered.2,
)

-- ---- a comparison that is asked again

-- the comparison with a label that is remembered
pub remembered-at : (said facts : Facts) (lo : ℤ) (r : Remembered) (at : ℕ) (t : Label) (c : Compared)
    → AreRemembered said facts lo r → c ≡ compared_at r.compared.items at → numbered_label r.«module».now at ≡ Some t
    → r.began ≤ c.time → IsRemembered said lo r facts t.entries c
unfolding AreRemembered
remembered-at said facts lo r at t c remembered is found later =
    let time = ap (λ (x : Compared). x.time) is in
    subst (λ (x : Compared). IsRemembered said lo r facts t.entries x) (sym is)
    (remembered.0 at t found (omega (arith, time, later)))

-- of words that were last changed before the state went on from a label, what that label says is known
pub remembered-said : (said facts : Facts) (lo : ℤ) (r : Remembered) → AreRemembered said facts lo r
    → (k : ℤ) → 1 ≤ word_time lo r.times.items k → word_time lo r.times.items k < r.began → facts k ≡ said k
unfolding AreRemembered
remembered-said said facts lo r remembered = remembered.1

-- which words are by themselves
pub remembered-aged : (said facts : Facts) (lo : ℤ) (r : Remembered) → AreRemembered said facts lo r
    → AreAged said facts lo r
unfolding AreRemembered
remembered-aged said facts lo r remembered = remembered.2

-- ---- a comparison before all changes

-- a word that was not changed after the beginning of time is none of the blocks
outside-blocks : (lo : ℤ) (times : List ℕ) (k : ℤ) → ((n : ℕ) → n < length times → 1 ≤ time_of times n)
    → word_time lo times k ≤ 0 → (k <ℤ lo) ⊎ ((lo +ℤ pos (length times * block_words)) ≤ℤ k)
outside-blocks lo times k some none = on (k -ℤ lo) refl none
  where
    on : (z : ℤ) → k -ℤ lo ≡ z → index_time times z ≤ 0 → (k <ℤ lo) ⊎ ((lo +ℤ pos (length times * block_words)) ≤ℤ k)
    on (pos n) at l = elim (cases_lt (n / block_words) (length times)) [
      | inl low ↦
          let late = some (n / block_words) low in
          absurd (omega (arith, late, l))
      | inr high ↦
          let both = div-add-mod' n block_words in
          let more : length times * block_words ≤ (n / block_words) * block_words = mul-le-mul_right block_words high in
          inr (omega (arith, ints, at, both, more))
    ]
    on (negsuc n) at l = inl (omega (arith, ints, at))

-- all blocks were changed since
pub remembered-first : (said : Facts) (lo end : ℤ) (r : Remembered) (facts : Facts) (entries : List Entry)
    → end ≡ lo +ℤ pos (length r.times.items * block_words) → WantsOnlyWithin (entry_fact entries) lo end
    → wants_no_loop entries ≡ true
    → IsRemembered said lo r facts entries (record { time = 0; paid = 0; is_plain = true })
remembered-first said lo end r facts entries end_is within none = record {
  knows = λ k l. silent k (outside-blocks lo r.times.items k (λ n h. r.each n (omega (arith, h))) l);
  held = λ k l allowing. silent k (unkept k (k -ℤ lo) refl l);
  pairs = none-pairs entries none;
  whole = none-whole (was_alone said lo r 0) entries none;
  due = none-due (was_alone said lo r 0) entries none;
  plain = λ h. none;
}
  where
    silent : (k : ℤ) → (k <ℤ lo) ⊎ ((lo +ℤ pos (length r.times.items * block_words)) ≤ℤ k)
        → says (facts k) (entry_fact entries k) ≡ true
    silent k out =
        ap (says (facts k)) (within k (subst (λ (e : ℤ). (k <ℤ lo) ⊎ (e ≤ℤ k)) (sym end_is) out))
        ∙ says-unknown (facts k)

    unkept : (k z : ℤ) → k -ℤ lo ≡ z → written_at r.by_block.items z ≤ 0
        → (k <ℤ lo) ⊎ ((lo +ℤ pos (length r.times.items * block_words)) ≤ℤ k)
    unkept k (pos n) at l = elim (cases_lt (n / block_words) (length r.times.items)) [
      | inl low ↦
          let some = r.each_written (n / block_words) (omega (arith, low)) in
          absurd (omega (arith, some, l))
      | inr high ↦
          let both = div-add-mod' n block_words in
          let more : length r.times.items * block_words ≤ (n / block_words) * block_words =
          mul-le-mul_right block_words high in
          inr (omega (arith, ints, at, both, more))
    ]
    unkept k (negsuc n) at l = inl (omega (arith, ints, at))

-- a block of which no word was written since, and which was widened since by a range that says what is wanted
pub widened-says : (said : Facts) (lo : ℤ) (r : Remembered) (facts : Facts) (entries : List Entry) (c : Compared)
    (number : ℕ) (low high : ℤ) → IsRemembered said lo r facts entries c
    → (changes_of r.by_block.items number).written ≤ c.time
    → leaving_since r.began (time_of r.times.items number) (changes_of r.by_block.items number) ≡ Some (Widen low high)
    → BlockImplied (entry_fact entries) (first_of lo number) (Number low high)
    → BlockSaysAll (first_of lo number) facts (entry_fact entries) block_words
widened-says said lo r facts entries c number low high known written range all = λ j l.
    let k = first_of lo number +ℤ pos j in
    let n = number * block_words + j in
    let index : k -ℤ lo ≡ pos n = omega (arith, ints) in
    let same = number-of n number block_words (omega arith) (omega (arith, l)) in
    let time = ap (written_at r.by_block.items) index in
    let kept = ap (λ (i : ℕ). (changes_of r.by_block.items i).written) same in
    let here = all k (omega (arith, ints)) (omega (arith, ints, l)) in
    let left : range_in r.began lo r.times.items r.by_block.items k ≡ Some (Widen low high) =
    ap (leaving_of_index r.began r.times.items r.by_block.items) index
    ∙ (ap (λ (i : ℕ). leaving_since r.began (time_of r.times.items i) (changes_of r.by_block.items i)) same ∙ range) in
    known.held k (omega (arith, time, kept, written))
    (ap (λ (o : Option Leaving). allows o (entry_fact entries k)) left
    ∙ (ap (allows (Some (Widen low high))) here.is ∙ here.implied))

-- nothing was changed since
pub known-all : (said : Facts) (lo : ℤ) (r : Remembered) (facts : Facts) (entries : List Entry) (c : Compared)
    → ((n : ℕ) → time_of r.times.items n ≤ c.time) → IsRemembered said lo r facts entries c
    → SaysAll facts (entry_fact entries)
known-all said lo r facts entries c none remembered = λ k. remembered.knows k (on (k -ℤ lo))
  where
    on : (z : ℤ) → index_time r.times.items z ≤ c.time
    on (pos n) = none (n / block_words)
    on (negsuc n) = omega arith

-- of the words that were changed since, what is wanted is known
pub known-some : (said : Facts) (lo : ℤ) (r : Remembered) (facts : Facts) (entries : List Entry) (c : Compared)
    → ChangedSay lo r.times.items facts (entry_fact entries) c.time → IsRemembered said lo r facts entries c
    → SaysAll facts (entry_fact entries)
known-some said lo r facts entries c changed remembered = λ k. elim (cases_lt c.time (word_time lo r.times.items k)) [
  | inl l ↦ changed k l
  | inr l ↦ remembered.knows k (omega (arith, l))
]

-- a comparison with a label that wants no loop
pub paid-plain : (said : Facts) (lo : ℤ) (r : Remembered) (facts : Facts) (entries : List Entry) (c : Compared)
    → AreRemembered said facts lo r → AreApart entries → wants_no_loop entries ≡ true
    → IsRemembered said lo r facts entries c → SaysAll facts (entry_fact entries) → IsPaid facts entries c.paid
paid-plain said lo r facts entries c remembered apart none known knows =
    paid-now facts (was_alone said lo r r.time) entries c.paid apart known.pairs
    (remembered-aged said facts lo r remembered) knows
    (none-whole (was_alone said lo r r.time) entries none)
    (none-due (was_alone said lo r r.time) entries none
    ∙ (sym (none-due (was_alone said lo r c.time) entries none) ∙ known.due))

-- no word was first changed since
pub paid-still : (said : Facts) (lo : ℤ) (r : Remembered) (facts : Facts) (entries : List Entry) (c : Compared)
    → AreRemembered said facts lo r → AreApart entries → r.firsts.latest ≤ c.time
    → IsRemembered said lo r facts entries c → SaysAll facts (entry_fact entries) → IsPaid facts entries c.paid
paid-still said lo r facts entries c remembered apart latest known knows =
    let alone : was_alone said lo r r.time ≡ was_alone said lo r c.time =
    fun_ext (λ k. ap (λ (b : Bool). is_alone (said k) || b) (all-by lo r c.time latest k)) in
    paid-now facts (was_alone said lo r r.time) entries c.paid apart known.pairs
    (remembered-aged said facts lo r remembered) knows
    (ap (λ (a : ℤ → Bool). list_all (whole_by a) entries) alone ∙ known.whole)
    (ap (λ (a : ℤ → Bool). sum_by (due_by a) entries) alone ∙ known.due)

-- what is due since
pub paid-more : (said : Facts) (lo : ℤ) (r : Remembered) (facts : Facts) (entries : List Entry) (c : Compared)
    (due paid : ℕ) → AreRemembered said facts lo r → AreApart entries
    → AreDueSince (was_alone said lo r c.time) (was_alone said lo r r.time) entries due → paid ≡ c.paid + due
    → IsRemembered said lo r facts entries c → SaysAll facts (entry_fact entries) → IsPaid facts entries paid
paid-more said lo r facts entries c due paid remembered apart since sum known knows =
    let before = known.due in
    let more = since.paid in
    paid-now facts (was_alone said lo r r.time) entries paid apart known.pairs
    (remembered-aged said facts lo r remembered) knows (since.whole known.whole)
    (omega (arith, before, more, sum))

-- ---- blocks that were changed

-- of each word of the first `count` blocks that were changed after a time, at least what is wanted is known
abbrev pub ChangedBlocksSay : ℤ → List ℕ → Facts → Facts → ℕ → ℕ → Type 0
ChangedBlocksSay lo times facts wanted time count =
    (n : ℕ) → n < count → time < time_of times n → BlockSaysAll (first_of lo n) facts wanted block_words

-- one block more
pub changed-more : (lo : ℤ) (times : List ℕ) (facts wanted : Facts) (time n : ℕ)
    → ChangedBlocksSay lo times facts wanted time n
    → (time < time_of times n → BlockSaysAll (first_of lo n) facts wanted block_words)
    → ChangedBlocksSay lo times facts wanted time (n + 1)
changed-more lo times facts wanted time n earlier here = λ m h. elim (cases_lt m n) [
  | inl l ↦ earlier m l
  | inr l ↦
      let same : m ≡ n = omega arith in
      λ late. subst (λ (i : ℕ). BlockSaysAll (first_of lo i) facts wanted block_words) (sym same)
      (here (subst (λ (i : ℕ). time < time_of times i) same late))
]

-- each word that was changed is one of a block's
pub changed-says : (lo : ℤ) (times : List ℕ) (facts wanted : Facts) (time : ℕ)
    → ChangedBlocksSay lo times facts wanted time (length times) → ChangedSay lo times facts wanted time
changed-says lo times facts wanted time each = λ k late. on k (k -ℤ lo) refl late
  where
    on : (k z : ℤ) → k -ℤ lo ≡ z → time < index_time times z → says (facts k) (wanted k) ≡ true
    on k (pos index) at late = elim (cases_lt (index / block_words) (length times)) [
      | inl low ↦
          let both = div-add-mod' index block_words in
          let rest : index % block_words < block_words = mod-lt index some-words in
          let word : first_of lo (index / block_words) +ℤ pos (index % block_words) ≡ k =
          omega (arith, ints, at, both) in
          ap (λ (j : ℤ). says (facts j) (wanted j)) (sym word)
          ∙ each (index / block_words) low late (index % block_words) rest
      | inr high ↦
          let none = get_or_past times (index / block_words) 0 high in
          absurd (omega (arith, none, late))
    ]
    on k (negsuc n) at late = absurd (omega (arith, late))

-- ---- labels

agreed-parts : (v : View) (t : Label) → agrees v t ≡ true
    → (entries_hold v.frame t.entries ≡ true) × (list_all (is_whole v.frame) t.entries ≡ true)
agreed-parts v t h =
    let first = and_parts (stands v t && entries_hold v.frame t.entries) (list_all (is_whole v.frame) t.entries) h in
    let second = and_parts (stands v t) (entries_hold v.frame t.entries) first.0 in (second.1, first.1)

-- what is known of a state that may go on as a label's
pub paid-below : (s : State) (t : Label) (paid : ℕ) → below s t ≡ Ok paid
    → (IsPaid s.frame t.entries (paid - t.number)) × (t.number ≤ paid)
unfolding below
paid-below s t paid is = on_cost (nat_lt s.number (cost (view s) t)) (agrees (view s) t) refl is
  where
    on_cost : (b d : Bool) → agrees (view s) t ≡ d
        → (if b then Err rules.Budget else if d then Ok (cost (view s) t) else Err rules.Label) ≡ Ok paid
        → (IsPaid s.frame t.entries (paid - t.number)) × (t.number ≤ paid)
    on_cost true d agreed h = absurd (cc)
    on_cost false false agreed h = absurd (cc)
    on_cost false true agreed h =
        let total : cost (view s) t ≡ paid = cc in
        let both = agreed-parts (view s) t agreed in
        let hold = both.0 in (
          record {
            knows = entries_hold-says s.frame t.entries hold;
            whole = both.1;
            due = omega (arith, total);
          },
          omega (arith, total),
        )

pub below_at-some : (m n : Contents) (to : ℕ) (s here : State) (t : Label) (r : Result ℕ Rule) → n ≡ m → here ≡ s
    → label_at n to ≡ Some t → r ≡ below here t → r ≡ below_at m to s
below_at-some m n to s here t r same state found is =
    is ∙ (ap (λ (x : State). below x t) state
    ∙ sym (ap (λ (o : Option Label). elim o as (λ o. Result ℕ Rule) [ None ↦ Err rules.Label | Some t ↦ below s t ])
    (ap (λ (x : Contents). label_at x to) (sym same) ∙ found)))

pub below_at-none : (m n : Contents) (to : ℕ) (s : State) → n ≡ m → label_at n to ≡ None
    → Err rules.Label ≡ below_at m to s
below_at-none m n to s same found =
    sym (ap (λ (o : Option Label). elim o as (λ o. Result ℕ Rule) [ None ↦ Err rules.Label | Some t ↦ below s t ])
    (ap (λ (x : Contents). label_at x to) (sym same) ∙ found))
