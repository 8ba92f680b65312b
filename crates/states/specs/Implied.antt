-- What one fact says of all that is wanted of some words.
use Rattle.std.specs.Prelude.{◌≡◌, ◌⊎◌, ℤ, pos, ◌+ℤ◌, ◌≤ℤ◌, ◌<ℤ◌, true}
use Rattle.module_format.specs.declared.fact.Fact.TheVariants.{Unknown}
use Rattle.module_format.specs.Rows.{Fact}
use Rattle.states.specs.declared.known.WordFact.{WordFact}
use Rattle.states.specs.declared.known.WordFact.TheVariants.{Alone}
use Rattle.states.specs.State.{Facts}
use Rattle.states.specs.Below.{implies}
use Rattle.states.specs.Blocks.{block_words}

-- no loop is wanted of a word, and a fact says what is wanted
pub record IsImplied (said : Fact) (wanted : WordFact) : Type 0 where
  pub fact : Fact
  pub is : wanted ≡ Alone fact
  pub implied : implies said fact ≡ true

-- so it is of each word from one up to another, which is not included
abbrev pub AllImplied : Facts → ℤ → ℤ → Fact → Type 0
AllImplied wanted first end said = (k : ℤ) → first ≤ℤ k → k <ℤ end → IsImplied said (wanted k)

-- so it is of each word of the block that begins at a word
abbrev pub BlockImplied : Facts → ℤ → Fact → Type 0
BlockImplied wanted first said = AllImplied wanted first (first +ℤ pos block_words) said

-- nothing is wanted of the words before the first one, nor of those from the end on
abbrev pub WantsOnlyWithin : Facts → ℤ → ℤ → Type 0
WantsOnlyWithin wanted first end = (k : ℤ) → (k <ℤ first) ⊎ (end ≤ℤ k) → wanted k ≡ Alone Unknown
