-- The words that bytes of the frame are in.
use Rattle.std.proofs.Common.{◌≡◌, ℕ, suc, ◌+◌, ◌*◌, ◌/◌, ◌-◌, ◌<◌, ◌≤◌, ℤ, pos, ◌+ℤ◌, Bool, true}
use Rattle.std.proofs.Common.{ap, refl, subst, ◌∙◌, arith}
use Rattle.std.proofs.lemmas.Int.{ints}
use Rattle.module_format.specs.declared.fact.Region.TheVariants as regions
use Rattle.certificate.specs.Rights.{may_read_word, may_write_word}
use Rattle.certificate.specs.Words.{all_words}
use Rattle.module_format.specs.declared.limits.TheConstants.{MAX_DATA_WORDS}
use Rattle.occam_parser.specs.declared.tree.ValueType.{ValueType}
use Rattle.occam_parser.specs.declared.tree.ValueType.TheVariants as value_type
use Rattle.program_meaning.specs.Links.{message_length}
use Rattle.rulings.specs.Pointers.{are_near}
use Rattle.rulings.specs.Reach.{may_read_bytes, may_write_bytes, word_of_byte, words_touched}
use Rattle.certified_lines.specs.StraightRules.{Setting}
use Rattle.certified_lines.specs.Addresses.{MayReadBytes, MayWriteBytes}
use Rattle.certified_lines.specs.Instructions.{MayRead, MayWrite}
use Rattle.certified_lines.proofs.Elements.{all_pass, both_near, bytes_touched}

-- messages have no more bytes than a word
abbrev pub more_bytes : (type : ValueType) → (m : ℕ) × (message_length type ≡ suc m) × (suc m ≤ 4)
more_bytes value_type.Int = (3, refl, omega arith)
more_bytes value_type.Byte = (0, refl, omega arith)

-- a message that begins in one of some bytes is in these words of an array
pub record LiesIn (w count first last m : ℕ) : Type 0 where
  pub up : first ≤ last
  pub low : 4 * w ≤ first
  pub high : last + m < 4 * (w + count)

-- so addresses from the one to the other are near
pub lies_near : {w count first last m : ℕ} → w + count ≤ MAX_DATA_WORDS → LiesIn w count first last m
    → are_near (pos first) (pos last) ≡ true
lies_near {w} {count} {first} {last} {m} few lies =
    let up = lies.up in
    let high = lies.high in
    both_near (pos first) (pos last) (omega (arith, ints)) (omega (arith, ints, few, up, high)) (omega (arith, ints))
    (omega (arith, ints, few, high))

-- a test that the words of bytes pass
bytes_pass : (test : ℤ → Bool) (first last m : ℕ) → first ≤ last
    → ((v : ℕ) → first / 4 ≤ v → v ≤ (last + m) / 4 → test (pos v) ≡ true)
    → all_words test (word_of_byte (pos first)) (words_touched (pos first) (pos last +ℤ pos (suc m))) ≡ true
bytes_pass test first last m up each =
    let end : pos last +ℤ pos (suc m) ≡ pos (last + m) +ℤ pos 1 = omega (arith, ints) in
    ap (λ (n : ℕ). all_words test (pos (first / 4)) n)
    (ap (words_touched (pos first)) end ∙ bytes_touched first (last + m) (omega (arith, up)))
    ∙ all_pass test (first / 4) (suc ((last + m) / 4 - first / 4))
    (λ n less. each (first / 4 + n) (omega arith) (omega (arith, less, up)))

-- bytes may be read if their words may
pub message_read : (g : Setting) (first last m : ℕ) → first ≤ last
    → ((v : ℕ) → first / 4 ≤ v → v ≤ (last + m) / 4 → MayRead g v)
    → MayReadBytes g regions.Frame (pos first) (pos last +ℤ pos (suc m))
unfolding may_read_bytes
message_read g first last m up each = bytes_pass (may_read_word g.contents g.context) first last m up each

-- and written
pub message_written : (g : Setting) (first last m : ℕ) → first ≤ last
    → ((v : ℕ) → first / 4 ≤ v → v ≤ (last + m) / 4 → MayWrite g v)
    → MayWriteBytes g regions.Frame (pos first) (pos last +ℤ pos (suc m))
unfolding may_write_bytes
message_written g first last m up each = bytes_pass (may_write_word g.contents g.context) first last m up each

-- what holds of each word of an array holds of each that a message is in
pub words_have : (P : ℕ → Type 0) (w count first last m : ℕ) → LiesIn w count first last m
    → ((n : ℕ) → n < count → P (w + n)) → (v : ℕ) → first / 4 ≤ v → v ≤ (last + m) / 4 → P v
words_have P w count first last m lies each v from to =
    let low = lies.low in
    let high = lies.high in
    let at : w + (v - w) ≡ v = omega (arith, low, from) in
    subst P at (each (v - w) (omega (arith, low, high, from, to)))

-- what holds of one word holds of each that a message in it is in
pub one_word_has : (P : ℕ → Type 0) (w m : ℕ) → P w → m ≤ 3 → (v : ℕ) → 4 * w / 4 ≤ v → v ≤ (4 * w + m) / 4 → P v
one_word_has P w m is few v from to = let same : w ≡ v = omega (arith, few, from, to) in subst P same is
