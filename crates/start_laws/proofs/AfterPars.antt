-- The label after a PAR, where its first start breaks no rule: what it says of words that no branch writes is known.
use Rattle.std.proofs.Common.{◌≡◌, ℕ, ◌==◌, ◌||◌, not, Bool, true, false}
use Rattle.std.proofs.Common.{inl, inr, ℤ, pos, ◌+ℤ◌, ◌≤ℤ◌, ◌<ℤ◌, List, [], ◌∷◌, length, take}
use Rattle.std.proofs.Common.{refl, sym, ap, ◌∙◌, arith, eqb-true}
use Rattle.std.proofs.lemmas.Int.{ints}
use Rattle.std.specs.Prelude.{int_le, int_lt}
use Rattle.std.specs.List.{list_any}
use Rattle.std.proofs.lemmas.Bool.{and_from, or_cases, or_left, or_right, and_parts, false_from_ne_true, or_parts}
use Rattle.std.proofs.lemmas.Bool.{not-true, cases_Bool}
use Rattle.small_laws.proofs.Comparisons.{int_le-true, int_lt-true}
use Rattle.module_format.specs.Rows.{Fact, Entry}
use Rattle.module_format.specs.declared.fact.Fact.TheVariants.{Unknown, Number, Pointer, CodeAddress, Loop}
use Rattle.module_format.specs.declared.fact.Fact.TheVariants.{ReturnAddress}
use Rattle.module_format.specs.declared.rows.ChannelRow.{ChannelRow}
use Rattle.module_format.specs.declared.stack.Stack.{Stack}
use Rattle.module_format.specs.Stack.{of_empty}
use Rattle.module_format.specs.Contents.{Par, Branch, Label}
use Rattle.certificate.specs.Rights.{is_among}
use Rattle.certificate.specs.Starting.{is_unknown, is_written, is_loop, is_written_loop, says_of_hidden}
use Rattle.states.specs.declared.known.WordFact.TheVariants.{Alone}
use Rattle.states.specs.State.{is_same_number, is_about, is_alone, is_silent, said_of, entry_fact}
use Rattle.rulings.specs.Meaning.{IsSpan, ArePairs}
use Rattle.rulings.specs.Remaining.{is_hidden, is_channel_word, word_given_to_write}
use Rattle.rulings.proofs.Entering.{entry_here, entry_later}
use Rattle.rulings.proofs.Words.{same_word_by, int_le_tells, word_test}
use Rattle.par_rules.specs.Comparisons.{is_after}

-- ---- all branches

all_taken : (xs : List Branch) → take (length xs) xs ≡ xs
all_taken [] = refl
all_taken (x ∷ xs) = ap (λ (ys : List Branch). x ∷ ys) (all_taken xs)

-- what is given to write once all branches are started is what a branch writes
pub given_is_written : (par : Par) (k : ℤ) → word_given_to_write par (length par.branches) k ≡ is_written par k
given_is_written par k = ap (list_any (λ (b : Branch). is_among b.writes k)) (all_taken par.branches)

-- ---- what the label does not say

-- what is silent is not known
silent_is : (fact : Fact) → is_silent (Alone fact) ≡ true → fact ≡ Unknown
silent_is Unknown h = refl
silent_is (Number lo hi) h = absurd (cc)
silent_is (Pointer region lo hi step) h = absurd (cc)
silent_is (CodeAddress offset) h = absurd (cc)
silent_is (Loop base count weight) h = absurd (cc)
silent_is ReturnAddress h = absurd (cc)

unknown_is : (fact : Fact) → is_unknown fact ≡ true → fact ≡ Unknown
unknown_is Unknown h = refl
unknown_is (Number lo hi) h = absurd (cc)
unknown_is (Pointer region lo hi step) h = absurd (cc)
unknown_is (CodeAddress offset) h = absurd (cc)
unknown_is (Loop base count weight) h = absurd (cc)
unknown_is ReturnAddress h = absurd (cc)

-- What the test of a label after a PAR shows.
pub record IsAfter (par : Par) (t : Label) : Type 0 where
  pub context : t.context ≡ par.context
  pub depth : t.depth ≡ par.block
  pub registers : t.stack ≡ of_empty Unknown
  pub hidden : list_any (says_of_hidden par) t.entries ≡ false

silent_stack : (stack : Stack Fact) → stack.a ≡ Unknown → stack.b ≡ Unknown → stack.c ≡ Unknown
    → stack ≡ of_empty Unknown
silent_stack stack a b c =
    ap (λ (f : Fact). let s : Stack Fact = record { a = f; b = stack.b; c = stack.c } in s) a
    ∙ (ap (λ (f : Fact). let s : Stack Fact = record { a = Unknown; b = f; c = stack.c } in s) b
    ∙ ap (λ (f : Fact). let s : Stack Fact = record { a = Unknown; b = Unknown; c = f } in s) c)

pub after_tells : (par : Par) (t : Label) → is_after par t ≡ true → IsAfter par t
after_tells par t h =
    let e = and_parts _ (not (list_any (says_of_hidden par) t.entries)) h in
    let d = and_parts _ (is_silent (Alone t.stack.c)) e.0 in
    let c = and_parts _ (is_silent (Alone t.stack.b)) d.0 in
    let b = and_parts _ (is_silent (Alone t.stack.a)) c.0 in
    let a = and_parts (t.context == par.context) (is_same_number t.depth par.block) b.0 in
    record {
      context = eqb-true t.context par.context a.0;
      depth = same_word_by t.depth par.block a.1;
      registers = silent_stack t.stack (silent_is t.stack.a b.1) (silent_is t.stack.b c.1) (silent_is t.stack.c d.1);
      hidden = not-true _ e.1;
    }

-- an entry that is about a hidden word says nothing
entry_silent : (par : Par) (entry : Entry) (k : ℤ) → says_of_hidden par entry ≡ false → is_hidden par k ≡ true
    → is_about entry k ≡ true → is_unknown entry.fact ≡ true
entry_silent par entry k quiet hides about = on (is_unknown entry.fact) refl
  where
    channel : (channels : List ChannelRow) → list_any (λ (c : ChannelRow). is_same_number c.word k) channels ≡ true
        → list_any (λ (c : ChannelRow). is_about entry c.word) channels ≡ true
    channel [] some = absurd (cc)
    channel (c ∷ channels) some = elim (or_cases (is_same_number c.word k) _ some) [
      | inl it ↦ or_left _ _ (ap (is_about entry) (same_word_by c.word k it) ∙ about)
      | inr later ↦ or_right (is_about entry c.word) _ (channel channels later)
    ]

    of_block : (is_same_number par.block k || is_same_number (par.block +ℤ pos 1) k) ≡ true
        → (is_about entry par.block || is_about entry (par.block +ℤ pos 1)) ≡ true
    of_block block = elim (or_cases (is_same_number par.block k) _ block) [
      | inl first ↦ or_left _ _ (ap (is_about entry) (same_word_by par.block k first) ∙ about)
      | inr second ↦ or_right (is_about entry par.block) _
          (ap (is_about entry) (same_word_by (par.block +ℤ pos 1) k second) ∙ about)
    ]

    meets : (is_about entry par.block || is_about entry (par.block +ℤ pos 1)
        || list_any (λ (c : ChannelRow). is_about entry c.word) par.channels) ≡ true
    meets = elim (or_cases _ (is_channel_word par k) hides) [
      | inr there ↦ or_right (is_about entry par.block || is_about entry (par.block +ℤ pos 1)) _
          (channel par.channels there)
      | inl block ↦ or_left _ _ (of_block block)
    ]

    on : (b : Bool) → is_unknown entry.fact ≡ b → is_unknown entry.fact ≡ true
    on true e = e
    on false e =
        let loud : says_of_hidden par entry ≡ true = and_from _ _ (ap not e) meets in
        let no' : false ≡ true = sym quiet ∙ loud in absurd (cc)

unknown_said : (fact : Fact) (first : Bool) → fact ≡ Unknown → said_of fact first ≡ Alone Unknown
unknown_said fact first e = ap (λ (f : Fact). said_of f first) e

-- the label says nothing of the block and the channels
pub says_nothing_hidden : (par : Par) (entries : List Entry) (k : ℤ) → list_any (says_of_hidden par) entries ≡ false
    → is_hidden par k ≡ true → entry_fact entries k ≡ Alone Unknown
says_nothing_hidden par [] k quiet hides = refl
says_nothing_hidden par (entry ∷ entries) k quiet hides =
    let both = or_parts (says_of_hidden par entry) (list_any (says_of_hidden par) entries) quiet in
    elim (cases_Bool (is_about entry k)) [
      | inl e ↦ entry_here entry entries k e
          ∙ unknown_said entry.fact (is_same_number entry.word k) (unknown_is entry.fact
          (entry_silent par entry k both.0 hides e))
      | inr e ↦ entry_later entry entries k e ∙ says_nothing_hidden par entries k both.1 hides
    ]

-- ---- loops

-- an entry that is no loop's says what it says of a word alone
alone_said : (fact : Fact) (first : Bool) → is_loop fact ≡ false → is_alone (said_of fact first) ≡ true
alone_said Unknown first h = refl
alone_said (Number lo hi) first h = refl
alone_said (Pointer region lo hi step) first h = refl
alone_said (CodeAddress offset) first h = refl
alone_said (Loop base count weight) first h = absurd (cc)
alone_said ReturnAddress first h = refl

loop_span : (fact : Fact) (span : ℕ) → is_loop fact ≡ true → IsSpan span fact → span ≡ 2
loop_span Unknown span h pair = absurd (cc)
loop_span (Number lo hi) span h pair = absurd (cc)
loop_span (Pointer region lo hi step) span h pair = absurd (cc)
loop_span (CodeAddress offset) span h pair = absurd (cc)
loop_span (Loop base count weight) span h pair = pair
loop_span ReturnAddress span h pair = absurd (cc)

-- a loop has two words
two_words : (word k : ℤ) (span : ℕ) → span ≡ 2 → word ≤ℤ k → k <ℤ (word +ℤ pos span) → (word ≡ k → ⊥)
    → word +ℤ pos 1 ≡ k
two_words word k span two low high differ = elim (int_le_tells k word) [
  | inl p ↦ absurd (differ (omega (arith, ints, low, p.1)))
  | inr p ↦ let above = p.1 in omega (arith, ints, high, two, above)
]

-- of a word that a branch writes the label has no loop
pub written_alone : (par : Par) (entries : List Entry) (k : ℤ) → ArePairs entries
    → list_any (is_written_loop par) entries ≡ false → is_written par k ≡ true
    → is_alone (entry_fact entries k) ≡ true
written_alone par [] k pairs none writes = refl
written_alone par (entry ∷ entries) k pairs none writes =
    let both = or_parts (is_written_loop par entry) (list_any (is_written_loop par) entries) none in
    elim (cases_Bool (is_about entry k)) [
      | inr e ↦ ap is_alone (entry_later entry entries k e) ∙ written_alone par entries k pairs.1 both.1 writes
      | inl e ↦ ap is_alone (entry_here entry entries k e)
          ∙ alone_said entry.fact (is_same_number entry.word k)
          (false_from_ne_true (is_loop entry.fact) (λ loop. here e loop both.0))
    ]
  where
    here : is_about entry k ≡ true → is_loop entry.fact ≡ true → is_written_loop par entry ≡ false → ⊥
    here e loop quiet =
        let place = and_parts (int_le entry.word k) (int_lt k (entry.word +ℤ pos entry.span)) e in
        let two = loop_span entry.fact entry.span loop pairs.0 in
        let meets : (is_written par entry.word || is_written par (entry.word +ℤ pos 1)) ≡ true =
        elim (word_test entry.word k) [
          | inl same ↦ or_left _ _ (ap (is_written par) same.1 ∙ writes)
          | inr other ↦ or_right (is_written par entry.word) _ (ap (is_written par)
              (two_words entry.word k entry.span two (int_le-true entry.word k place.0)
              (int_lt-true k (entry.word +ℤ pos entry.span) place.1) other.1) ∙ writes)
        ] in
        let loud : is_written_loop par entry ≡ true = and_from _ _ loop meets in
        let no' : false ≡ true = sym quiet ∙ loud in cc
