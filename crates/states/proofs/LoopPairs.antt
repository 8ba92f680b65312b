-- Words of loops, by two rows.
use Rattle.std.proofs.Common.{◌≡◌, ℤ, ◌≤ℤ◌, ◌<ℤ◌, ◌-ℤ◌, Bool, true, ◌||◌, List, [], ◌∷◌, Option, Some, None, refl, sym}
use Rattle.std.proofs.Common.{ap, subst, ◌∙◌, arith, ◌⊎◌, inl, inr}
use Rattle.std.proofs.Math.Bool.{or-true}
use Rattle.std.specs.Prelude.{option_map, unwrap_or}
use Rattle.std.proofs.lemmas.Int.{ints}
use Rattle.module_format.specs.Rows.{Fact, Entry}
use Rattle.module_format.specs.Order.{least_word}
use Rattle.module_format.specs.Facts.{end_of}
use Rattle.states.specs.declared.overlay.Written.{Written}
use Rattle.states.specs.declared.blocks.Block.{Block}
use Rattle.states.specs.declared.span.Leaving.{Leaving}
use Rattle.states.specs.declared.known.WordFact.{WordFact}
use Rattle.states.specs.declared.known.WordFact.TheVariants.{Alone}
use Rattle.states.specs.State.{Facts, is_same_number, is_alone, said_of, entry_fact}
use Rattle.states.specs.Blocks.{fact_left_by, leaving_at, facts_left}
use Rattle.states.specs.Lookup.{fact_of_index, facts_over}
use Rattle.states.specs.Comparing.{loop_of}
use Rattle.states.specs.Rows.{rise_from, AreApart}
use Rattle.states.specs.Cutting.{AreLoopsApart, IsApartFrom, AreApartSoFar}
use Rattle.states.proofs.RowFacts.{before, within, behind, lies, about-before, about-behind, rise-parts}
use Rattle.states.proofs.RowFacts.{entry_fact-before, entry_fact-within}
use Rattle.states.proofs.CutEntries.{plain-alone}

-- ---- entries of no loop

-- of each word of a row so far what is said is no loop's
abbrev pub AloneSoFar : List Entry → List Entry → Type 0
AloneSoFar row rest = (k : ℤ) → (entry_fact row k ≡ entry_fact rest k) ⊎ (is_alone (entry_fact row k) ≡ true)

-- one entry more, of no loop
pub alone-more : (row rest : List Entry) (entry : Entry) (later : List Entry) → rest ≡ entry ∷ later
    → loop_of entry.fact ≡ None → AloneSoFar row rest → AloneSoFar row later
alone-more row rest entry later is none so_far = λ k. elim (so_far k) [
  | inl same ↦
      let here : entry_fact row k ≡ entry_fact (entry ∷ later) k =
      same ∙ ap (λ (es : List Entry). entry_fact es k) is in
      elim (lies entry k) [
        | before b ↦ inl (here ∙ rw (about-before entry k b) refl)
        | within l b ↦ inr (ap is_alone (here ∙ entry_fact-within k entry later l b)
            ∙ plain-alone entry.fact (is_same_number entry.word k) none)
        | behind l b ↦ inl (here ∙ rw (about-behind entry k b) refl)
      ]
  | inr h ↦ inr h
]

-- the next entry begins after a word
pub alone-before : (row rest : List Entry) (entry : Entry) (later : List Entry) (k : ℤ) → AreApart rest
    → rest ≡ entry ∷ later → AloneSoFar row rest → k <ℤ entry.word → is_alone (entry_fact row k) ≡ true
alone-before row rest entry later k apart is so_far less = elim (so_far k) [
  | inl same ↦ ap is_alone (same ∙ (ap (λ (es : List Entry). entry_fact es k) is
      ∙ entry_fact-before least_word k entry later (subst (λ (es : List Entry). AreApart es) is apart) less))
  | inr h ↦ h
]

-- all entries
pub alone-done : (row rest : List Entry) (k : ℤ) → rest ≡ [] → AloneSoFar row rest
    → is_alone (entry_fact row k) ≡ true
alone-done row rest k is so_far = elim (so_far k) [
  | inl same ↦ ap is_alone (same ∙ ap (λ (es : List Entry). entry_fact es k) is)
  | inr h ↦ h
]

-- ---- an entry and a row

-- an entry of no loop
pub plain-apart : (entry : Entry) (row : List Entry) → loop_of entry.fact ≡ None → IsApartFrom entry row
plain-apart entry row none = λ k l h is_first.
    ap (λ (b : Bool). b || is_alone (entry_fact row k)) (plain-alone entry.fact is_first none)

-- a row that says of an entry's words what is no loop's
pub others-apart : (entry : Entry) (row left : List Entry)
    → ((k : ℤ) → entry.word ≤ℤ k → entry_fact left k ≡ entry_fact row k)
    → ((k : ℤ) → k <ℤ end_of entry → is_alone (entry_fact left k) ≡ true) → IsApartFrom entry row
others-apart entry row left same alone = λ k l h is_first.
    ap (λ (b : Bool). is_alone (said_of entry.fact is_first) || b) (ap is_alone (sym (same k l)) ∙ alone k h)
    ∙ or-true (is_alone (said_of entry.fact is_first))

-- ---- two rows

pub apart-begun : (row other : List Entry) → AreApart row → AreApartSoFar row other row other
apart-begun row other apart = record {
  word = least_word;
  rises = apart;
  same = λ k l. refl;
  each = λ k. inl refl;
}

pub apart-more : (row other rest left : List Entry) (entry : Entry) (later next : List Entry)
    → AreApartSoFar row other rest left → rest ≡ entry ∷ later → IsApartFrom entry left
    → ((k : ℤ) → entry.word ≤ℤ k → entry_fact next k ≡ entry_fact left k) → AreApartSoFar row other later next
apart-more row other rest left entry later next so_far is apart same =
    let parts = rise-parts so_far.word entry later
    (subst (λ (es : List Entry). rise_from so_far.word es ≡ true) is so_far.rises) in
    let low = parts.0 in
    record {
      word = end_of entry;
      rises = parts.1;
      same = λ k l. same k (omega (arith, ints)) ∙ so_far.same k (omega (arith, ints, low));
      each = λ k. elim (so_far.each k) [
        | inl here_same ↦
            let here : entry_fact row k ≡ entry_fact (entry ∷ later) k =
            here_same ∙ ap (λ (es : List Entry). entry_fact es k) is in
            elim (lies entry k) [
              | before b ↦ inl (here ∙ rw (about-before entry k b) refl)
              | within l b ↦ inr (ap (λ (f : WordFact). is_alone f || is_alone (entry_fact other k))
                  (here ∙ entry_fact-within k entry later l b)
                  ∙ (ap (λ (f : WordFact). is_alone (said_of entry.fact (is_same_number entry.word k)) || is_alone f)
                  (sym (so_far.same k (omega (arith, ints, low)))) ∙ apart k l b (is_same_number entry.word k)))
              | behind l b ↦ inl (here ∙ rw (about-behind entry k b) refl)
            ]
        | inr h ↦ inr h
      ];
    }

pub apart-done : (row other rest left : List Entry) → AreApartSoFar row other rest left → rest ≡ []
    → AreLoopsApart (entry_fact row) (entry_fact other)
apart-done row other rest left so_far is = λ k. elim (so_far.each k) [
  | inl same ↦ ap (λ (f : WordFact). is_alone f || is_alone (entry_fact other k))
      (same ∙ ap (λ (es : List Entry). entry_fact es k) is)
  | inr h ↦ h
]

-- ---- what was changed, over a row

-- what was left or written is no loop's
changed-apart : (left : Option Leaving) (o : Option Fact) (said wanted : WordFact)
    → is_alone said || is_alone wanted ≡ true
    → is_alone (fact_left_by left (unwrap_or (option_map Alone o) said)) || is_alone wanted ≡ true
changed-apart (Some leaving) o said wanted h = refl
changed-apart None (Some f) said wanted h = refl
changed-apart None None said wanted h = h

pub over-apart : (lo : ℤ) (row : List Entry) (written : List Written) (blocks : List Block) (wanted : Facts)
    → AreLoopsApart (entry_fact row) wanted
    → AreLoopsApart (facts_left lo blocks (facts_over lo row written)) wanted
unfolding facts_left
over-apart lo row written blocks wanted apart = λ k.
    changed-apart (leaving_at blocks (k -ℤ lo)) (fact_of_index written (k -ℤ lo)) (entry_fact row k) (wanted k)
    (apart k)
