use Rattle.std.proofs.Common.{◌≡◌, ℤ, true, Option, Some, None, ◌∙◌, refl, sym, arith}
use Rattle.std.proofs.lemmas.Int.{ints}
use Rattle.std.proofs.Math.Bool.{or-false}
use Rattle.module_format.specs.Contexts.{context_at}
use Rattle.module_format.specs.Contents.{Par, Branch, par_of, branch_of}
use Rattle.certificate.specs.Rights.{has_word, is_among}
use Rattle.states.proofs.OwnWords.{written-own, each-usable, one-unusable, usable-if, unwritten, written-as}
use Rattle.states.proofs.state.State.writes_words.Goals as goal

pub returns-then-not-has_words : goal.returns-then-not-has_words
returns-then-not-has_words c =
    let start = c.from-start.ensures in
    let at = c.if-not-has_words.ensures.no refl in
    one-unusable written-own c.args.self.now c.args.first c.args.count at.0 (omega (arith, ints, start, at.1))
    (omega (arith, ints, start, at.2))
    (unwritten c.args.self.now.module.now c.args.self.now.context at.0 at.3)

pub returns-in_Some-_row : goal.returns-in_Some-_row
returns-in_Some-_row c =
    let start = c.from-start.ensures in
    let found : Option (Par × Branch) = Some (par_of c.in_Some-_row._row.now, branch_of c.in_Some-_row.branch.now) in
    let writes = (branch_of c.in_Some-_row.branch.now).writes in
    let context = context_at c.args.self.now.module.now c.args.self.now.context in
    let as_said = λ (k : ℤ) (own : has_word context k ≡ true).
    written-as c.args.self.now.module.now c.args.self.now.context k found
    c.in_Some-_row.ensures.found own
    ∙ sym (or-false (is_among writes k)) in
    let own = c.if-not-has_words.ensures.yes refl in
    usable-if written-own c.args.self.now c.args.first c.args.count c.have_words.result
    (λ yes k low high. as_said k (own k (omega (arith, ints, start)) (omega (arith, ints, start)))
    ∙ rw c.deref.ensures
    at (c.have_words.ensures.yes yes k (omega (arith, ints, start)) (omega (arith, ints, start))))
    (λ fails.
    let at = c.have_words.ensures.no fails in (
      at.0,
      omega (arith, ints, start, at.1),
      omega (arith, ints, start, at.2),
      as_said at.0 (own at.0 at.1 at.2) ∙ rw c.deref.ensures at at.3,
    ))

pub returns-in_None-_row : goal.returns-in_None-_row
returns-in_None-_row c =
    let start = c.from-start.ensures in
    each-usable written-own c.args.self.now c.args.first c.args.count (λ k low high.
    written-as c.args.self.now.module.now c.args.self.now.context k None c.in_None-_row.ensures.found
    (c.if-not-has_words.ensures.yes refl k (omega (arith, ints, start)) (omega (arith, ints, start))))
