-- What is known after words of the frame are moved, four instructions together.
use Rattle.std.specs.Prelude.{◌≡◌, ℕ, ◌+◌, ◌<◌, ◌≤◌, ◌⊎◌, pos, false}
use Rattle.word_arithmetic.specs.Range.{Ends, full}
use Rattle.module_format.specs.declared.limits.TheConstants.{MAX_DATA_WORDS}
use Rattle.states.specs.Spans.{is_in_span}
use Rattle.states.specs.State.{Facts, is_parted}
use Rattle.code_pieces.specs.Pieces.{moves}
use Rattle.certified_lines.specs.StraightRules.{Setting, Told, FallOn}
use Rattle.certified_lines.specs.Instructions.{MayRead, MayWrite}
use Rattle.certified_lines.specs.Scopes.{IsNumber}

-- Some words of the frame are numbers, and may be moved to others, which lie before them or behind.
pub record MayMoveWords (g : Setting) (count from to : ℕ) (f : Facts) : Type 0 where
  pub some : 0 < count
  pub from_few : from + count ≤ MAX_DATA_WORDS
  pub to_few : to + count ≤ MAX_DATA_WORDS
  pub apart : (from + count ≤ to) ⊎ (to + count ≤ from)
  pub reads : (n : ℕ) → n < count → MayRead g (from + n)
  pub writes : (n : ℕ) → n < count → MayWrite g (to + n)
  pub numbers : (n : ℕ) → n < count → (r : Ends) × IsNumber f (from + n) r

-- Where they come, words are any numbers; words that are in no loop with one of these are known as before.
pub record MovedWords (g : Setting) (count from to : ℕ) (before : Told) : Type 0 where
  pub after : Told
  pub falls : FallOn g (moves count from to) before after
  pub there : (n : ℕ) → n < count → IsNumber after.frame (to + n) full
  pub others : (k : ℕ) → (k < to) ⊎ (to + count ≤ k)
      → is_parted (is_in_span (pos to) count) (pos k) (before.frame (pos k)) ≡ false
      → after.frame (pos k) ≡ before.frame (pos k)

abbrev pub MovedWordsAreKnown : Type 0
MovedWordsAreKnown = (g : Setting) (count from to : ℕ) (before : Told) → MayMoveWords g count from to before.frame
    → MovedWords g count from to before
