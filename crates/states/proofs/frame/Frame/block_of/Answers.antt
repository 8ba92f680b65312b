use Rattle.std.proofs.Common.{arith, ◌≡◌, ℕ, ◌*◌, ◌/◌, ◌%◌, ◌<◌, ap, sym}
use Rattle.std.proofs.lemmas.Int.{ints}
use Rattle.std.proofs.lemmas.Nat.{div-add-mod'}
use Rattle.std.proofs.Math.Nat.{mod-lt}
use Rattle.states.specs.Blocks.{block_words}
use Rattle.states.proofs.frame.Frame.block_of.Goals as goal

pub returns-clause-low : goal.returns-clause-low
returns-clause-low c =
    let index = c.in_ok-index.index in
    let size = c.block_words-size.result in
    let apart = c.in_ok-index.ensures in
    let both = div-add-mod' index size in
    let at : index / size * block_words ≡ index / size * size =
    ap (λ (k : ℕ). index / size * k) (sym c.block_words-size.ensures.value) in
    omega (arith, ints, apart, both, at)

pub returns-clause-high : goal.returns-clause-high
returns-clause-high c =
    let lo_is = c.from.ensures in
    let index = c.in_ok-index.index in
    let size = c.block_words-size.result in
    let apart = c.in_ok-index.ensures in
    let both = div-add-mod' index size in
    let rest : index % size < size = mod-lt index (omega (arith, c.block_words-size.ensures.some)) in
    omega (arith, ints, lo_is, apart, both, rest)

pub returns-clause-end : goal.returns-clause-end
returns-clause-end c =
    let lo_is = c.from.ensures in
    let index = c.in_ok-index.index in
    let size = c.block_words-size.result in
    let at : index / size * block_words ≡ index / size * size =
    ap (λ (k : ℕ). index / size * k) (sym c.block_words-size.ensures.value) in
    let size_is = c.block_words-size.ensures.value in
    omega (arith, ints, lo_is, at, size_is)
