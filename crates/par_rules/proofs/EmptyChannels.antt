-- Words of channels, of which those that follow each other are asked together.
use Rattle.std.proofs.Common.{◌≡◌, ◌∙◌, ◌∷◌, ◌&&◌, ℤ, ◌≤ℤ◌, ◌<ℤ◌, Bool, true, List, ap, subst, arith}
use Rattle.std.specs.List.{list_all}
use Rattle.std.proofs.lemmas.Int.{ints}
use Rattle.word_arithmetic.specs.Word.{least_word}
use Rattle.module_format.specs.declared.rows.ChannelRow.{ChannelRow}
use Rattle.states.specs.Below.{holds_constant}
use Rattle.states.specs.State.{Facts}

-- whether the words of all channels are empty is left to those that are left, where those before are asked and are
pub passed-least : (facts : Facts) (rest later left : List ChannelRow) (channel : ChannelRow)
    (first last begin end number : ℤ)
    → rest ≡ channel ∷ later → first ≡ channel.word → number ≡ least_word → begin ≡ first → end ≡ last
    → channel.word <ℤ last
    → ((k : ℤ) → first ≤ℤ k → k <ℤ last → holds_constant (facts k) number ≡ true)
    → ((test : ℤ → Bool) → ((k : ℤ) → begin ≤ℤ k → k <ℤ end → test k ≡ true)
    → list_all (λ (c : ChannelRow). test c.word) later ≡ list_all (λ (c : ChannelRow). test c.word) left)
    → list_all (λ (c : ChannelRow). holds_constant (facts c.word) least_word) rest
    ≡ list_all (λ (c : ChannelRow). holds_constant (facts c.word) least_word) left
passed-least facts rest later left channel first last begin end number split first_is number_is begin_is end_is ahead each
    same =
    ap (list_all empty) split
    ∙ (ap (λ (b : Bool). b && list_all empty later)
    (least channel.word (omega (arith, ints, first_is)) ahead)
    ∙ same (λ (k : ℤ). holds_constant (facts k) least_word)
    (λ k low high. least k (omega (arith, ints, low, begin_is)) (omega (arith, ints, high, end_is))))
  where
    empty : ChannelRow → Bool
    empty c = holds_constant (facts c.word) least_word

    least : (k : ℤ) → first ≤ℤ k → k <ℤ last → holds_constant (facts k) least_word ≡ true
    least k low high = subst (λ (n : ℤ). holds_constant (facts k) n ≡ true) number_is (each k low high)
