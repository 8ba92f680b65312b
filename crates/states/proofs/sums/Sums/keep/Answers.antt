use Rattle.std.proofs.Common.{◌≡◌, ℕ, ◌+ℤ◌, pos, ◌*◌, ◌/◌, ap, sym, ◌∙◌, arith}
use Rattle.states.specs.declared.sums.Size.{Size}
use Rattle.states.specs.declared.sums.Size.TheVariants.{Group, Page, Zone}
use Rattle.states.specs.Spans.{together}
use Rattle.states.specs.Sums.{words_of}
use Rattle.states.proofs.SpanSums.{sums-more, all-sizes, of-size, whole-number}
use Rattle.states.proofs.sums.Sums.keep.Goals as goal

pub returns-in-Group : goal.returns-in-Group
returns-in-Group c = λ facts lo right sum_is.
    let index = c.args.index in
    let words = c.words-words.result in
    let old = c.args.self.now in
    let words_is : words ≡ words_of Group = c.words-words.ensures.value ∙ ap words_of c.in-Group.is in
    all-sizes facts lo _ (sums-more facts lo 8 index (index / words) c.args.sum _ _ (of-size facts lo old Group right)
    (ap (λ (n : ℕ). index / words * n) (sym words_is)
    ∙ whole-number index words (omega (arith, c.if-index-words-ne0.false)))
    (sum_is ∙ ap (λ (s : Size). together facts (lo +ℤ pos index) (words_of s)) c.in-Group.is) c.set.ensures) (of-size facts lo old Page right) (of-size facts lo old Zone right)

pub returns-in-Page : goal.returns-in-Page
returns-in-Page c = λ facts lo right sum_is.
    let index = c.args.index in
    let words = c.words-words.result in
    let old = c.args.self.now in
    let words_is : words ≡ words_of Page = c.words-words.ensures.value ∙ ap words_of c.in-Page.is in
    all-sizes facts lo _ (of-size facts lo old Group right) (sums-more facts lo 512 index (index / words) c.args.sum _ _ (of-size facts lo old Page right)
    (ap (λ (n : ℕ). index / words * n) (sym words_is)
    ∙ whole-number index words (omega (arith, c.if-index-words-ne0.false)))
    (sum_is ∙ ap (λ (s : Size). together facts (lo +ℤ pos index) (words_of s)) c.in-Page.is) c.set-in-Page.ensures) (of-size facts lo old Zone right)

pub returns-in-Zone : goal.returns-in-Zone
returns-in-Zone c = λ facts lo right sum_is.
    let index = c.args.index in
    let words = c.words-words.result in
    let old = c.args.self.now in
    let words_is : words ≡ words_of Zone = c.words-words.ensures.value ∙ ap words_of c.in-Zone.is in
    all-sizes facts lo _ (of-size facts lo old Group right) (of-size facts lo old Page right) (sums-more facts lo 4096 index (index / words) c.args.sum _ _ (of-size facts lo old Zone right)
    (ap (λ (n : ℕ). index / words * n) (sym words_is)
    ∙ whole-number index words (omega (arith, c.if-index-words-ne0.false)))
    (sum_is ∙ ap (λ (s : Size). together facts (lo +ℤ pos index) (words_of s)) c.in-Zone.is) c.set-in-Zone.ensures)
