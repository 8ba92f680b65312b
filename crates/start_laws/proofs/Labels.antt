-- What a test of each word of a label says of one word.
use Rattle.std.proofs.Common.{◌≡◌, ℕ, zero, suc, Bool, true, inl, inr, ℤ, pos, ◌+ℤ◌, ◌≤ℤ◌, ◌<ℤ◌}
use Rattle.std.proofs.Common.{List, [], ◌∷◌, sym, ap, ◌∙◌, arith}
use Rattle.std.proofs.lemmas.Int.{ints}
use Rattle.std.specs.Prelude.{int_le, int_lt}
use Rattle.std.specs.List.{list_all}
use Rattle.std.proofs.lemmas.Bool.{and_parts, cases_Bool}
use Rattle.small_laws.proofs.Comparisons.{int_le-true, int_lt-true}
use Rattle.module_format.specs.Rows.{Entry}
use Rattle.module_format.specs.declared.fact.Fact.TheVariants.{Unknown}
use Rattle.states.specs.declared.known.WordFact.{WordFact}
use Rattle.states.specs.declared.known.WordFact.TheVariants.{Alone}
use Rattle.states.specs.State.{is_same_number, is_about, said_of, entry_fact}
use Rattle.rulings.proofs.Entering.{first_word, below_last, entry_here, entry_later}
use Rattle.rulings.proofs.Words.{word_test}
use Rattle.par_rules.specs.Comparisons.{words_pass}

module _ (test : ℤ → WordFact → Bool) where
  -- a word that an entry is about passes, with what the entry says of it
  pub entry_passes : (entry : Entry) (k : ℤ) (span : ℕ) → words_pass test entry span ≡ true → entry.word ≤ℤ k
      → k <ℤ (entry.word +ℤ pos span) → test k (said_of entry.fact (is_same_number entry.word k)) ≡ true
  entry_passes entry k zero t low high = absurd (omega (arith, ints, low, high))
  entry_passes entry k (suc more) t low high =
      let both = and_parts _ _ t in
      elim (word_test k (entry.word +ℤ pos more)) [
        | inl e ↦
            ap (λ (j : ℤ). test j (said_of entry.fact (is_same_number entry.word k))) e.1
            ∙ ap (λ (b : Bool). test (entry.word +ℤ pos more) (said_of entry.fact b))
            (sym (first_word entry.word k more e.1)) ∙ both.0
        | inr e ↦ entry_passes entry k more both.1 low (below_last k entry.word more high e.1)
      ]

  -- a word passes with what a label says of it, if all do, and each does of which it says nothing
  pub label_said : ((k : ℤ) → test k (Alone Unknown) ≡ true) → (entries : List Entry) (k : ℤ)
      → list_all (λ entry. words_pass test entry entry.span) entries ≡ true → test k (entry_fact entries k) ≡ true
  label_said silent [] k t = silent k
  label_said silent (entry ∷ entries) k t =
      let both = and_parts (words_pass test entry entry.span) _ t in
      elim (cases_Bool (is_about entry k)) [
        | inl e ↦
            let place = and_parts (int_le entry.word k) (int_lt k (entry.word +ℤ pos entry.span)) e in
            ap (test k) (entry_here entry entries k e)
            ∙ entry_passes entry k entry.span both.0 (int_le-true entry.word k place.0)
            (int_lt-true k (entry.word +ℤ pos entry.span) place.1)
        | inr e ↦ ap (test k) (entry_later entry entries k e) ∙ label_said silent entries k both.1
      ]
