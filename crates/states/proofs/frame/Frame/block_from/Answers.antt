use Rattle.std.proofs.Common.{arith, ◌≡◌, ℕ, ◌+ℤ◌, pos, ◌/◌, ◌%◌, sym, ap, ◌∙◌}
use Rattle.std.proofs.lemmas.Int.{ints}
use Rattle.states.specs.Blocks.{first_of}
use Rattle.states.proofs.BlockSums.{begins-at}
use Rattle.states.proofs.frame.Frame.block_from.Goals as goal

pub returns : goal.returns
returns c =
    let lo = c.args.self.now.lo in
    let size_is = c.block_words-size.ensures.value in
    let index = c.in_ok-index.index in
    let apart = c.in_ok-index.ensures in
    let word_is : c.args.word ≡ lo +ℤ pos index = omega (arith, ints, apart) in
    let whole : index % c.block_words-size.result ≡ 0 = omega arith in (
      ap (λ (n : ℕ). first_of lo (index / n)) size_is
          ∙ begins-at lo c.args.word index word_is (ap (λ (n : ℕ). index % n) (sym size_is) ∙ whole),
      omega arith,
    )
