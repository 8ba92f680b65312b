-- What a row says of the entries that another one wants, and what is paid for their loops.
use Rattle.std.proofs.Common.{◌≡◌, ℕ, zero, suc, ◌+◌, ◌-◌, ◌*◌, ◌≤◌, ℤ, pos, ◌+ℤ◌, ◌-ℤ◌, ◌≤ℤ◌, ◌<ℤ◌, Bool}
use Rattle.std.proofs.Common.{true, false, ◌&&◌}
use Rattle.std.proofs.Common.{if◌then◌else◌, List, [], ◌∷◌, Option, Some, None, refl, sym, ap, subst, ◌∙◌, arith}
use Rattle.std.proofs.Common.{◌⊎◌, ◌<◌, inl, inr, drop, get_or, length}
use Rattle.std.specs.Prelude.{sum_by, nat_lt, Ok, option_map, unwrap_or, is_some, not}
use Rattle.std.specs.List.{list_all}
use Rattle.std.proofs.lemmas.Bool.Decides.{nat_tests}
use Rattle.std.proofs.lemmas.Int.{ints, by_lt_z}
use Rattle.std.proofs.lemmas.List.{drop_more}
use Rattle.std.proofs.lemmas.List.Sums.{sum_by-cons}
use Rattle.std.proofs.lemmas.Bool.{and_from}
use Rattle.std.proofs.Math.Bool.{and_assoc}
use Rattle.small_laws.proofs.Comparisons.{eqb-self, le-int_le}
use Rattle.module_format.specs.Rows.{Fact, Entry}
use Rattle.module_format.specs.Contents.{Label}
use Rattle.module_format.specs.Order.{least_word}
use Rattle.module_format.specs.declared.fact.Fact.TheVariants.{Unknown, Number, Pointer, CodeAddress, Loop}
use Rattle.module_format.specs.declared.fact.Fact.TheVariants.{ReturnAddress}
use Rattle.module_format.specs.Facts.{end_of}
use Rattle.states.specs.declared.overlay.Written.{Written}
use Rattle.states.specs.declared.blocks.Block.{Block}
use Rattle.states.specs.declared.known.Loop.{Loop as CountedLoop}
use Rattle.states.specs.declared.known.WordFact.{WordFact}
use Rattle.states.specs.declared.known.WordFact.TheVariants.{Alone, Index, Count}
use Rattle.states.specs.State.{Facts, by_itself, is_same_number, said_of, entry_fact}
use Rattle.states.specs.Below.{View, implies, is_exactly, is_same_loop, says, entries_hold, is_whole, holds_constant}
use Rattle.states.specs.Below.{price, cost, agrees, compared}
use Rattle.states.specs.declared.span.Leaving.{Leaving}
use Rattle.states.specs.Blocks.{fact_left_by, leaving_at, facts_left}
use Rattle.states.specs.Lookup.{lookup, fact_of_index, facts_over}
use Rattle.states.specs.Rows.{rise_from, AreApart}
use Rattle.states.specs.Comparing.{OneSays, OneSaysAll, SaysEntry, IsPast, loop_of, IsDue, EntryHolds, IsEntered}
use Rattle.states.specs.Comparing.{AreEntered, IsBase, IsKeptLoop, IsPair, IsConstantAt, IsInto, IsWalk, stands}
use Rattle.states.proofs.RowFacts.{before, within, behind, lies, about-before, about-behind}
use Rattle.states.proofs.RowFacts.{rise-parts, entry_fact-within, entry_fact-behind, segment-behind, segment-apart}
use Rattle.states.proofs.FrameFacts.{is_word-same, is_word-below}
use Rattle.states.proofs.Comparisons.{says-unknown}

-- where a fact says what another says, each word of an entry does
pub implies-said : (fact wanted : Fact) (t u : Bool) → implies fact wanted ≡ true
    → says (said_of fact t) (said_of wanted u) ≡ true
implies-said fact Unknown t u h = says-unknown (said_of fact t)
implies-said (Number lo hi) (Number low high) t u h = h
implies-said (Pointer region lo hi step) (Pointer other low high stride) t u h = h
implies-said (CodeAddress offset) (CodeAddress other) t u h = h
implies-said ReturnAddress ReturnAddress t u h = h
implies-said fact wanted t u h = absurd (cc)

-- so does a word that says by itself what is wanted
alone-by : (said : WordFact) (fact wanted : Fact) (u : Bool) → by_itself said ≡ fact → implies fact wanted ≡ true
    → says said (said_of wanted u) ≡ true
alone-by said fact Unknown u is h = says-unknown said
alone-by said (Number lo hi) (Number low high) u is h = ap (λ (f : Fact). implies f (Number low high)) is ∙ h
alone-by said (Pointer region lo hi step) (Pointer other low high stride) u is h =
    ap (λ (f : Fact). implies f (Pointer other low high stride)) is ∙ h
alone-by said (CodeAddress offset) (CodeAddress other) u is h = ap (λ (f : Fact). implies f (CodeAddress other)) is ∙ h
alone-by said ReturnAddress ReturnAddress u is h = ap (λ (f : Fact). implies f ReturnAddress) is ∙ h
alone-by said fact wanted u is h = absurd (cc)

pub alone-said : (said : WordFact) (wanted : Fact) (u : Bool) → says said (Alone wanted) ≡ true
    → says said (said_of wanted u) ≡ true
alone-said said wanted u h = alone-by said (by_itself said) wanted u refl h

-- ---- entries of no loop

-- what a fact says by itself is no loop
pub implied-plain : (fact wanted : Fact) → implies fact wanted ≡ true → loop_of wanted ≡ None
implied-plain fact Unknown h = refl
implied-plain (Number lo hi) (Number low high) h = refl
implied-plain (Pointer region lo hi step) (Pointer other low high stride) h = refl
implied-plain (CodeAddress offset) (CodeAddress other) h = refl
implied-plain ReturnAddress ReturnAddress h = refl
implied-plain fact wanted h = absurd (cc)

pub plain-by : (facts : Facts) (entry : Entry) (fact : Fact) → entry.fact ≡ fact → loop_of fact ≡ None
    → (is_whole facts entry ≡ true) × (price facts entry ≡ 0)
plain-by facts entry Unknown is h = (rw is refl, rw is refl)
plain-by facts entry (Number lo hi) is h = (rw is refl, rw is refl)
plain-by facts entry (Pointer region lo hi step) is h = (rw is refl, rw is refl)
plain-by facts entry (CodeAddress offset) is h = (rw is refl, rw is refl)
plain-by facts entry (Loop base count weight) is h = absurd (cc)
plain-by facts entry ReturnAddress is h = (rw is refl, rw is refl)

-- where an entry of no loop holds, nothing is paid for it
pub plain-entered : (said facts : Facts) (entry : Entry) → loop_of entry.fact ≡ None → EntryHolds said facts entry
    → IsEntered said facts entry 0
plain-entered said facts entry plain holds =
    let free = plain-by facts entry entry.fact refl plain in
    record { each = holds; whole = free.0; due = free.1 }

-- an entry all of whose words the first of a row has
pub over-entered : (row : List Entry) (wanted : Entry) (said facts : Facts) → SaysEntry row wanted
    → ((k : ℤ) → wanted.word ≤ℤ k → entry_fact row k ≡ said k) → IsEntered said facts wanted 0
over-entered [] wanted said facts over same = absurd over
over-entered (entry ∷ later) wanted said facts over same =
    let low = over.0 in
    let high = over.1 in
    plain-entered said facts wanted (implied-plain entry.fact wanted.fact over.2) (λ k l h.
    inl (ap (λ (f : WordFact). says f (said_of wanted.fact (is_same_number wanted.word k)))
    (sym (same k l) ∙ entry_fact-within k entry later (omega (arith, ints)) (omega (arith, ints)))
    ∙ implies-said entry.fact wanted.fact (is_same_number entry.word k) (is_same_number wanted.word k) over.2))

-- ---- entries of loops

loop-by : (said facts : Facts) (entry : Entry) (fact : Fact) (wanted : CountedLoop) (first second : WordFact) (paid : ℕ)
    → entry.fact ≡ fact → loop_of fact ≡ Some wanted → entry.span ≡ 2 → first ≡ facts entry.word
    → second ≡ facts (entry.word +ℤ pos 1) → IsDue wanted first second paid → IsEntered said facts entry paid
loop-by said facts entry (Loop base count weight) wanted first second paid is loop span first_is second_is wanted_due =
    let same : ◌≡◌ {A = CountedLoop} (record { base = base; count = count; weight = weight }) wanted = cc in
    let due = subst (λ (l : CountedLoop). IsDue l first second paid) (sym same) wanted_due in
    record {
      each = λ k low high. by_lt_z k (entry.word +ℤ pos 1)
          (λ l.
          let at : k ≡ entry.word = omega (arith, ints) in
          inr (rw (at, is, is_word-same entry.word entry.word refl, ← first_is) due.index))
          (λ l.
          let at : k ≡ entry.word +ℤ pos 1 = omega (arith, ints) in
          let below = is_word-below entry.word (entry.word +ℤ pos 1) (omega (arith, ints)) in
          inr (rw (at, is, below, ← second_is) due.count));
      whole = rw (is, ← first_is, ← second_is) due.alike;
      due = rw (is, ← first_is, ← second_is) due.price;
    }
loop-by said facts entry fact wanted first second paid is loop span first_is second_is wanted_due = absurd (cc)

-- what the fact of a loop is
pub loop-is : (fact : Fact) (loop : CountedLoop) → loop_of fact ≡ Some loop
    → fact ≡ Loop loop.base loop.count loop.weight
loop-is (Loop base count weight) loop h =
    let same : ◌≡◌ {A = CountedLoop} (record { base = base; count = count; weight = weight }) loop = cc in
    ap (λ (l : CountedLoop). Loop l.base l.count l.weight) same
loop-is fact loop h = absurd (cc)

-- a loop is the same as itself
same-loop : (loop : CountedLoop) → is_same_loop loop loop ≡ true
same-loop loop =
    and_from _ _ (and_from _ _ (is_word-same loop.base loop.base refl) (eqb-self loop.count))
    (eqb-self loop.weight)

-- a constant is said of each word alike
constant-said : (fact : Fact) (t : Bool) (number : ℤ) → is_exactly fact number ≡ true → said_of fact t ≡ Alone fact
constant-said (Number lo hi) t number h = refl
constant-said fact t number h = absurd (cc)

-- where the words of a loop say what an entry wants, that is paid for it
pub loop-entered : (said facts : Facts) (entry : Entry) (wanted : CountedLoop) (word next : ℤ)
    (first second : WordFact) (paid : ℕ) → loop_of entry.fact ≡ Some wanted → entry.span ≡ 2 → word ≡ entry.word
    → next ≡ entry.word +ℤ pos 1 → first ≡ facts word → second ≡ facts next → IsDue wanted first second paid
    → IsEntered said facts entry paid
loop-entered said facts entry wanted word next first second paid loop span word_is next_is first_is second_is due =
    loop-by said facts entry entry.fact wanted first second paid refl loop span (first_is ∙ ap facts word_is)
    (second_is ∙ ap facts next_is) due

-- ---- what is left of a row

-- nothing is passed yet
pub past-none : (row : List Entry) (word end : ℤ) (wanted : Fact) → AreApart row → word ≤ℤ end
    → IsPast row word end wanted row word
past-none row word end wanted apart rises = record {
  ahead = omega (arith, ints);
  within = rises;
  apart = apart;
  same = λ k l. refl;
  each = λ k l h t. absurd (omega (arith, ints));
}

-- the first entry that is left ended
pub past-ended : (row left : List Entry) (entry : Entry) (later : List Entry) (word end next : ℤ) (wanted : Fact)
    → IsPast row word end wanted left next → left ≡ entry ∷ later → end_of entry ≤ℤ next
    → IsPast row word end wanted later next
past-ended row left entry later word end next wanted past is ends = record {
  ahead = past.ahead;
  within = past.within;
  apart = segment-apart left entry later past.apart is;
  same = λ k l. segment-behind left entry later (end_of entry) k is refl (omega (arith, ints)) ∙ past.same k l;
  each = past.each;
}

-- words of the first entry that is left are passed
pub past-more : (row left : List Entry) (entry : Entry) (later : List Entry) (word end next further : ℤ)
    (wanted : Fact) → IsPast row word end wanted left next → left ≡ entry ∷ later → entry.word ≤ℤ next
    → next ≤ℤ further → ((k : ℤ) → next ≤ℤ k → k <ℤ further → k <ℤ end_of entry) → further ≤ℤ end
    → implies entry.fact wanted ≡ true → IsPast row word end wanted left further
past-more row left entry later word end next further wanted past is begun ahead inside ends implied =
    let before_next = past.ahead in
    record {
      ahead = omega (arith, ints);
      within = ends;
      apart = past.apart;
      same = λ k l. past.same k (omega (arith, ints));
      each = λ k l h t. by_lt_z k next (λ low. past.each k l low t) (λ high.
          ap (λ (f : WordFact). says f (said_of wanted t))
          (sym (past.same k high) ∙ (ap (λ (es : List Entry). entry_fact es k) is
          ∙ entry_fact-within k entry later (omega (arith, ints)) (inside k high h)))
          ∙ implies-said entry.fact wanted (is_same_number entry.word k) t implied);
    }

-- ---- the words of an entry

-- where what is left of the one row is what it says, an entry holds up to a word
abbrev pub HeldTo : Facts → Facts → List Entry → Entry → ℤ → Type 0
HeldTo said facts base entry word = IsBase said base entry.word → (k : ℤ) → entry.word ≤ℤ k → k <ℤ word
    → OneSays (said k) (facts k) (said_of entry.fact (is_same_number entry.word k))

-- words are passed of which the row says what is wanted
pub held-past : (said facts : Facts) (base rest left : List Entry) (entry : Entry) (word end next : ℤ)
    → HeldTo said facts base entry word → ((k : ℤ) → word ≤ℤ k → entry_fact rest k ≡ entry_fact base k)
    → IsPast rest word end entry.fact left next → HeldTo said facts base entry next
held-past said facts base rest left entry word end next held same past = λ is_base k l h.
    by_lt_z k word (λ low. held is_base k l low) (λ high.
    inl (ap (λ (f : WordFact). says f (said_of entry.fact (is_same_number entry.word k)))
    (sym (is_base k l) ∙ sym (same k high)) ∙ past.each k high h (is_same_number entry.word k)))

-- a word is passed that says by itself what is wanted
pub held-word : (said facts : Facts) (base : List Entry) (entry : Entry) (word next : ℤ)
    → HeldTo said facts base entry word → says (facts word) (Alone entry.fact) ≡ true → next ≡ word +ℤ pos 1
    → HeldTo said facts base entry next
held-word said facts base entry word next held holds next_is = λ is_base k l h.
    by_lt_z k word (λ low. held is_base k l low) (λ high.
    let at : word ≡ k = omega (arith, ints) in
    inr (alone-said (facts k) entry.fact (is_same_number entry.word k)
    (ap (λ (j : ℤ). says (facts j) (Alone entry.fact)) (sym at) ∙ holds)))

-- two entries of a row
pub drop-two : (entries : List Entry) (n : ℕ) (d e : Entry) → n + 1 < length entries
    → drop n entries ≡ get_or entries n d ∷ (get_or entries (n + 1) e ∷ drop (n + 1 + 1) entries)
drop-two entries n d e low =
    drop_more entries n d (omega arith)
    ∙ ap (λ (es : List Entry). get_or entries n d ∷ es) (drop_more entries (n + 1) e low)

-- ---- a row, entry by entry

-- of each word the rest of a row says what the row says, or one of two facts says what the row wants
abbrev RowSays : Facts → Facts → List Entry → List Entry → Type 0
RowSays said facts row rest =
    (k : ℤ) → (entry_fact row k ≡ entry_fact rest k) ⊎ OneSays (said k) (facts k) (entry_fact row k)

-- one entry more
row-more : (said facts : Facts) (row rest : List Entry) (entry : Entry) (later : List Entry) → rest ≡ entry ∷ later
    → EntryHolds said facts entry → RowSays said facts row rest → RowSays said facts row later
row-more said facts row rest entry later is holds so_far = λ k. elim (so_far k) [
  | inl same ↦
      let here : entry_fact row k ≡ entry_fact (entry ∷ later) k =
      same ∙ ap (λ (es : List Entry). entry_fact es k) is in
      elim (lies entry k) [
        | before b ↦ inl (here ∙ rw (about-before entry k b) refl)
        | within l b ↦ inr (subst (OneSays (said k) (facts k)) (sym (here ∙ entry_fact-within k entry later l b))
            (holds k l b))
        | behind l b ↦ inl (here ∙ rw (about-behind entry k b) refl)
      ]
  | inr h ↦ inr h
]

-- all entries
row-done : (said facts : Facts) (row rest : List Entry) → rest ≡ [] → RowSays said facts row rest
    → OneSaysAll said facts (entry_fact row)
row-done said facts row rest is so_far = λ k. elim (so_far k) [
  | inl same ↦ inl (ap (says (said k)) (same ∙ ap (λ (es : List Entry). entry_fact es k) is) ∙ says-unknown (said k))
  | inr h ↦ h
]

whole-more : (test : Entry → Bool) (row rest : List Entry) (entry : Entry) (later : List Entry)
    → rest ≡ entry ∷ later → test entry ≡ true → list_all test row ≡ list_all test rest
    → list_all test row ≡ list_all test later
whole-more test row rest entry later is whole so_far =
    so_far ∙ (ap (list_all test) is ∙ ap (λ (b : Bool). b && list_all test later) whole)

paid-more : (pays : Entry → ℕ) (row rest : List Entry) (entry : Entry) (later : List Entry) (paid here next : ℕ)
    → rest ≡ entry ∷ later → pays entry ≡ here → next ≡ paid + here
    → sum_by pays row ≡ paid + sum_by pays rest → sum_by pays row ≡ next + sum_by pays later
paid-more pays row rest entry later paid here next is price_is next_is so_far =
    let first : sum_by pays rest ≡ pays entry + sum_by pays later =
    ap (sum_by pays) is ∙ sum_by-cons pays entry later in
    omega (arith, so_far, first, price_is, next_is)

-- ---- one pass over two rows

-- nothing is passed yet
pub walk-begin : (said facts : Facts) (row base : List Entry) → AreApart row → IsBase said base least_word
    → IsWalk said facts row base row 0
walk-begin said facts row base apart same = record {
  low = least_word;
  rises = apart;
  same = same;
  each = λ k. inl refl;
  whole = refl;
  due = omega arith;
}

-- what is left of the one row is the rest of it from the next word on that is wanted
pub walk-from : (said facts : Facts) (row base left rest : List Entry) (entry : Entry) (later : List Entry) (paid : ℕ)
    → IsWalk said facts row base rest paid → rest ≡ entry ∷ later
    → ((k : ℤ) → entry.word ≤ℤ k → entry_fact left k ≡ entry_fact base k) → IsWalk said facts row left rest paid
walk-from said facts row base left rest entry later paid walk is same =
    let parts = rise-parts walk.low entry later
    (subst (λ (es : List Entry). rise_from walk.low es ≡ true) is walk.rises) in
    let low = parts.0 in
    record {
      low = entry.word;
      rises = subst (λ (es : List Entry). rise_from entry.word es ≡ true) (sym is)
          (and_from _ _ (le-int_le entry.word entry.word (omega (arith, ints))) parts.1);
      same = λ k l. same k l ∙ walk.same k (omega (arith, ints));
      each = walk.each;
      whole = walk.whole;
      due = walk.due;
    }

-- from the next entry on the one row is what it was
pub walk-base : (said facts : Facts) (row base rest : List Entry) (entry : Entry) (later : List Entry) (paid : ℕ)
    → IsWalk said facts row base rest paid → rest ≡ entry ∷ later → IsBase said base entry.word
walk-base said facts row base rest entry later paid walk is = λ k l.
    let low = (rise-parts walk.low entry later
    (subst (λ (es : List Entry). rise_from walk.low es ≡ true) is walk.rises)).0 in
    walk.same k (omega (arith, ints))

-- an entry that is wanted is passed, and of the one row what ends where it does
pub walk-past : (said facts : Facts) (row base left rest : List Entry) (entry : Entry) (later : List Entry)
    (paid here next : ℕ) → IsWalk said facts row base rest paid → rest ≡ entry ∷ later
    → IsEntered said facts entry here → next ≡ paid + here
    → ((k : ℤ) → end_of entry ≤ℤ k → entry_fact left k ≡ entry_fact base k) → IsWalk said facts row left later next
walk-past said facts row base left rest entry later paid here next walk is entered sum same =
    let parts = rise-parts walk.low entry later
    (subst (λ (es : List Entry). rise_from walk.low es ≡ true) is walk.rises) in
    let low = parts.0 in
    record {
      low = end_of entry;
      rises = parts.1;
      same = λ k l. same k l ∙ walk.same k (omega (arith, ints));
      each = row-more said facts row rest entry later is entered.each walk.each;
      whole = whole-more (is_whole facts) row rest entry later is entered.whole walk.whole;
      due = paid-more (price facts) row rest entry later paid here next is entered.due sum walk.due;
    }

-- an entry is passed that the first of the one row is over
pub walk-over : (said facts : Facts) (row base rest : List Entry) (entry : Entry) (later : List Entry) (paid : ℕ)
    → IsWalk said facts row base rest paid → rest ≡ entry ∷ later → SaysEntry base entry
    → IsWalk said facts row base later paid
walk-over said facts row base rest entry later paid walk is over =
    walk-past said facts row base base rest entry later paid 0 paid walk is
    (over-entered base entry said facts over (walk-base said facts row base rest entry later paid walk is))
    (omega arith) (λ k l. refl)

-- `n` entries are passed, each of which the first entry of the one row covers
pub walks-over : (said facts : Facts) (row base : List Entry) (n : ℕ) (rest : List Entry) (paid : ℕ)
    → n ≤ length rest → ((i : ℕ) → i < n → (d : Entry) → SaysEntry base (get_or rest i d))
    → IsWalk said facts row base rest paid → IsWalk said facts row base (drop n rest) paid
walks-over said facts row base zero rest paid few over walk = walk
walks-over said facts row base (suc n) [] paid few over walk = absurd (omega arith)
walks-over said facts row base (suc n) (entry ∷ later) paid few over walk =
    walks-over said facts row base n later paid (omega arith) (λ i h d. over (suc i) (omega arith) d)
    (walk-over said facts row base (entry ∷ later) entry later paid walk refl (over 0 (omega arith) entry))

-- a loop that is what the row says
kept-loop : (said facts : Facts) (base : List Entry) (first : Entry) (later : List Entry) (wanted : Entry)
    → base ≡ first ∷ later → IsBase said base wanted.word → first.word ≡ wanted.word → first.span ≡ wanted.span
    → IsKeptLoop said facts first wanted → IsEntered said facts wanted 0
kept-loop said facts base first later wanted is same word span kept =
    let loop = kept.loop in
    let two = kept.span in
    let fact : first.fact ≡ Loop loop.base loop.count loop.weight = loop-is first.fact loop kept.is in
    let here = λ (k : ℤ) (l : wanted.word ≤ℤ k) (h : k <ℤ end_of first).
    sym (same k l) ∙ (ap (λ (es : List Entry). entry_fact es k) is
    ∙ entry_fact-within k first later (omega (arith, ints)) h) in
    let index : facts wanted.word ≡ Index loop =
    kept.kept.0 ∙ (here wanted.word (omega (arith, ints)) (omega (arith, ints))
    ∙ rw (fact, is_word-same first.word wanted.word word) refl) in
    let count : facts (wanted.word +ℤ pos 1) ≡ Count loop =
    kept.kept.1 ∙ (here (wanted.word +ℤ pos 1) (omega (arith, ints)) (omega (arith, ints))
    ∙ rw (fact, is_word-below first.word (wanted.word +ℤ pos 1) (omega (arith, ints))) refl) in
    loop-entered said facts wanted loop wanted.word (wanted.word +ℤ pos 1) (Index loop) (Count loop) 0 kept.wanted_is
    two refl refl (sym index) (sym count)
    (record { index = same-loop loop; count = same-loop loop; alike = refl; price = refl })

-- a pair is passed
pub walk-pair : (said facts : Facts) (row base rest : List Entry) (first entry : Entry) (others later : List Entry)
    (paid : ℕ) → IsWalk said facts row base rest paid → base ≡ first ∷ others → rest ≡ entry ∷ later
    → IsPair said facts first entry → IsWalk said facts row others later paid
walk-pair said facts row base rest first entry others later paid walk base_is is pair =
    let same = walk-base said facts row base rest entry later paid walk is in
    let word = pair.word in
    let span = pair.span in
    let entered : IsEntered said facts entry 0 = elim pair.either [
      | inl implied ↦ over-entered base entry said facts
          (subst (λ (es : List Entry). SaysEntry es entry) (sym base_is)
          (omega (arith, ints), omega (arith, ints), implied)) same
      | inr kept ↦ kept-loop said facts base first others entry base_is same word span kept
    ] in
    walk-past said facts row base others rest entry later paid 0 paid walk is entered (omega arith) (λ k l.
    sym (ap (λ (es : List Entry). entry_fact es k) base_is
    ∙ entry_fact-behind k (end_of entry) first others (omega (arith, ints)) l))

-- a word of which an entry alone says a number, and which is what the row says
constant-word : (said facts : Facts) (base : List Entry) (first : Entry) (later : List Entry) (word number : ℤ)
    → base ≡ first ∷ later → IsBase said base word → IsConstantAt first word number → facts word ≡ said word
    → (fact : Fact) × (facts word ≡ Alone fact) × (is_exactly fact number ≡ true)
constant-word said facts base first later word number is same constant kept =
    let at = constant.0 in
    let one = constant.1 in (
      first.fact,
      kept ∙ (sym (same word (omega (arith, ints))) ∙ (ap (λ (es : List Entry). entry_fact es word) is
          ∙ (entry_fact-within word first later (omega (arith, ints)) (omega (arith, ints))
          ∙ constant-said first.fact (is_same_number first.word word) number constant.2))),
      constant.2,
    )

-- a loop that is entered is passed
pub walk-into : (said facts : Facts) (row base rest : List Entry) (first second entry : Entry)
    (others later : List Entry) (paid next : ℕ) → IsWalk said facts row base rest paid
    → base ≡ first ∷ (second ∷ others) → rest ≡ entry ∷ later → IsInto said facts first second entry paid next
    → IsWalk said facts row others later next
walk-into said facts row base rest first second entry others later paid next walk base_is is into =
    let loop = into.loop in
    let two = into.span in
    let same = walk-base said facts row base rest entry later paid walk is in
    let at = into.index.0 in
    let one = into.index.1 in
    let behind_at = into.count.0 in
    let behind_one = into.count.1 in
    let index = constant-word said facts base first (second ∷ others) entry.word loop.base base_is same into.index
    into.kept.0 in
    let later_same : IsBase said (second ∷ others) (entry.word +ℤ pos 1) = λ k l.
    sym (ap (λ (es : List Entry). entry_fact es k) base_is
    ∙ entry_fact-behind k (entry.word +ℤ pos 1) first (second ∷ others) (omega (arith, ints)) l)
    ∙ same k (omega (arith, ints)) in
    let count = constant-word said facts (second ∷ others) second others (entry.word +ℤ pos 1) (pos loop.count) refl
    later_same into.count into.kept.1 in
    let price : (if holds_constant (Alone index.0) loop.base && holds_constant (Alone count.0) (pos loop.count)
    then loop.weight * (loop.count - 1) else 0) ≡ loop.weight * (loop.count - 1) = rw (index.2, count.2) refl in
    let entered = loop-entered said facts entry loop entry.word (entry.word +ℤ pos 1) (Alone index.0) (Alone count.0)
    (loop.weight * (loop.count - 1)) into.is two refl refl (sym index.1) (sym count.1)
    (record { index = index.2; count = count.2; alike = refl; price = price }) in
    walk-past said facts row base others rest entry later paid (loop.weight * (loop.count - 1)) next walk is entered
    into.sum (λ k l.
    sym (ap (λ (es : List Entry). entry_fact es k) base_is
    ∙ (entry_fact-behind k (end_of entry) first (second ∷ others) (omega (arith, ints)) l
    ∙ entry_fact-behind k (end_of entry) second others (omega (arith, ints)) l)))

-- all is passed
pub walk-done : (said facts : Facts) (row base rest : List Entry) (paid : ℕ) → IsWalk said facts row base rest paid
    → rest ≡ [] → AreEntered said facts row paid
walk-done said facts row base rest paid walk is = record {
  each = row-done said facts row rest is walk.each;
  whole = walk.whole ∙ ap (list_all (is_whole facts)) is;
  due =
      let none = ap (sum_by (price facts)) is in
      let all = walk.due in
      omega (arith, none, all);
}

-- ---- words that were not changed

-- what is known of a word that was neither written nor left is what the row says
pub kept-fact : (lo : ℤ) (row : List Entry) (written : List Written) (blocks : List Block) (k : ℤ)
    → fact_of_index written (k -ℤ lo) ≡ None → leaving_at blocks (k -ℤ lo) ≡ None
    → facts_left lo blocks (facts_over lo row written) k ≡ entry_fact row k
unfolding facts_left
kept-fact lo row written blocks k none not_left = rw (not_left, none) refl

-- what is known of a word that was written is what was written, as it is left
pub written-fact : (lo : ℤ) (row : List Entry) (written : List Written) (blocks : List Block) (word : ℤ) (index : ℕ)
    (fact : Fact) (left : Option Leaving) → lookup written index ≡ Some fact → word ≡ lo +ℤ pos index
    → left ≡ leaving_at blocks (word -ℤ lo)
    → fact_left_by left (Alone fact) ≡ facts_left lo blocks (facts_over lo row written) (lo +ℤ pos index)
unfolding facts_left
written-fact lo row written blocks word index fact left found word_is left_is =
    let k = lo +ℤ pos index in
    let at : k -ℤ lo ≡ pos index = omega (arith, ints) in
    sym (ap (λ (o : Option Leaving). fact_left_by o (facts_over lo row written k))
    (ap (λ (z : ℤ). leaving_at blocks (z -ℤ lo)) (sym word_is) ∙ sym left_is)
    ∙ ap (λ (o : Option Fact). fact_left_by left (unwrap_or (option_map Alone o) (entry_fact row k)))
    (ap (fact_of_index written) at ∙ found))

-- a test for none
pub none-is : {A : Type 0} (o : Option A) (b : Bool) → is_some o ≡ not b → b ≡ true → o ≡ None
none-is None b h t = refl
none-is (Some x) true h t = absurd (cc)
none-is (Some x) false h t = absurd (cc)

-- ---- a label

-- the tests of the place and of the registers come first
pub agrees-first : (v : View) (t : Label) (b : Bool)
    → b ≡ (entries_hold v.frame t.entries && list_all (is_whole v.frame) t.entries) → (stands v t && b) ≡ agrees v t
agrees-first v t b is =
    ap (λ (c : Bool). stands v t && c) is
    ∙ sym (and_assoc (stands v t) (entries_hold v.frame t.entries) (list_all (is_whole v.frame) t.entries))

-- a view that is where the label is, and that knows all that the label wants, pays this
pub compared-paid : (number paid cost : ℕ) (v : View) (t : Label) → stands v t ≡ true
    → entries_hold v.frame t.entries ≡ true → list_all (is_whole v.frame) t.entries ≡ true
    → sum_by (price v.frame) t.entries ≡ paid → cost ≡ paid + t.number → cost ≤ number
    → compared number v t ≡ Ok cost
compared-paid number paid total v t there hold whole paid_is total_is covered =
    let agreed : agrees v t ≡ true = and_from _ _ (and_from _ _ there hold) whole in
    let same : cost v t ≡ total = omega (arith, paid_is, total_is) in
    let enough : nat_lt number total ≡ false = grind (arith, nat_tests) in
    rw (same, enough, agreed) refl
