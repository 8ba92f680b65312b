-- Which blocks of words have indices that may have been written.
use Rattle.std.proofs.Common.{◌≡◌, ℕ, ◌/◌, ◌<◌, ◌≤◌, Bool, true, false, cond, eqb, List, [], length, set}
use Rattle.std.proofs.Common.{Some, sym, ap, ◌∙◌, arith, inl, inr}
use Rattle.std.proofs.lemmas.List.{get_or-set_other, get_or-set_same, get_or_past}
use Rattle.std.proofs.lemmas.Bool.{cases_eq}
use Rattle.std.proofs.lemmas.Bool.Decides.{nat_tests}
use Rattle.module_format.specs.Rows.{Fact}
use Rattle.states.specs.declared.overlay.Written.{Written}
use Rattle.states.specs.Blocks.{block_words}
use Rattle.states.specs.Lookup.{lookup, is_touched, AreTouched}

-- nothing is written
pub touched-none : (touched : List Bool) (written : List Written) → written ≡ [] → AreTouched touched written
touched-none touched written none = λ j free. ap (λ (ws : List Written). lookup ws j) none

-- one more block may have been written
pub touched-more : (touched : List Bool) (written : List Written) (number : ℕ) → number < length touched
    → AreTouched touched written → AreTouched (set touched number true) written
touched-more touched written number low noted = λ j free. elim (cases_eq (j / block_words) number) [
  | inl e ↦
      let clash : true ≡ false =
      sym (ap (is_touched (set touched number true)) e ∙ get_or-set_same touched number true true low) ∙ free in
      absurd (cc)
  | inr d ↦ noted j (sym (get_or-set_other touched number (j / block_words) true true d) ∙ free)
]

-- an index of a block that may have been written is written
pub touched-put : (touched : List Bool) (written others : List Written) (index : ℕ) (fact : Fact)
    → is_touched touched (index / block_words) ≡ true → AreTouched touched written
    → ((j : ℕ) → lookup others j ≡ cond (eqb j index) (Some fact) (lookup written j)) → AreTouched touched others
touched-put touched written others index fact here noted put = λ j free. elim (cases_eq j index) [
  | inl e ↦
      let clash : true ≡ false = sym here ∙ (ap (λ (k : ℕ). is_touched touched (k / block_words)) (sym e) ∙ free) in
      absurd (cc)
  | inr d ↦
      let no : eqb j index ≡ false = grind (arith, nat_tests) in
      put j ∙ (ap (λ b. cond b (Some fact) (lookup written j)) no ∙ noted j free)
]

-- the block that is marked may have been written, also one of which nothing is kept
pub touched-here : (touched : List Bool) (number : ℕ) → number < length touched
    → is_touched (set touched number true) number ≡ true
touched-here touched number low = get_or-set_same touched number true true low

pub touched-past : (touched : List Bool) (number : ℕ) → length touched ≤ number → is_touched touched number ≡ true
touched-past touched number high = get_or_past touched number true high
