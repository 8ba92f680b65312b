use Rattle.std.proofs.Common.{◌≡◌, ◌+◌, ◌∙◌, [], ◌∷◌, length, ap, subst, ℕ, arith}
use Rattle.std.proofs.lemmas.List.{length-append}
use Rattle.module_format.specs.Contents.{contents_of}
use Rattle.module_format.specs.Contexts.{first_branch}
use Rattle.certificate.specs.Owned.{AreOwnOf}
use Rattle.certificate.proofs.NumberLaws.{contexts_fit}
use Rattle.certificate.proofs.SiblingLaws.{one_more}
use Rattle.certificate.proofs.owned.own_words_of.Goals as goal

pub overflow_cast-context : goal.overflow_cast-context
overflow_cast-context c =
    let fit = contexts_fit (contents_of c.args.tables.now) c.requires.keeps in
    let many = c.requires.places.many in
    let first = c.first_branch-first.ensures in
    let inside = c.loop-number-test.true in
    omega (arith, fit, many, first, inside)

pub loop-number-preserved : goal.loop-number-preserved
loop-number-preserved c =
    let m = contents_of c.args.tables.now in
    let own = c.loop-number.own.items in
    let one = c.in_ok-context_words.field-0 in
    let many = c.loop-number.invariant.many in
    let at : c.first_branch-first.result + c.loop-number.number ≡ first_branch m + length own =
    let first = c.first_branch-first.ensures in omega (arith, first, many) in
    rw c.in_ok-push.ensures.items (record {
      many = length-append own (one ∷ []) ∙ ap (λ n. n + 1) many;
      each = one_more (λ n words. AreOwnOf m n words) own one (first_branch m) c.loop-number.invariant.each
          (subst (λ (n : ℕ). AreOwnOf m n one) at c.in_ok-context_words.ensures);
    })
