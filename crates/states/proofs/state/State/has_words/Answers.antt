use Rattle.std.proofs.Common.{◌∙◌, ◌-ℤ◌, pos, sym, ap, arith, Option, to_z, of_z}
use Rattle.std.specs.Int.{w64}
use Rattle.std.proofs.lemmas.Int.{ints}
use Rattle.small_laws.proofs.Comparisons.{int_le-false}
use Rattle.module_format.specs.declared.contexts.Context.{Context}
use Rattle.certificate.specs.Rights.{has_word}
use Rattle.states.proofs.OwnWords.{not-before, not-behind}
use Rattle.states.proofs.state.State.has_words.Goals as goal

pub returns-then-frame-first-clause-no : goal.returns-then-frame-first-clause-no
returns-then-frame-first-clause-no c = λ fails.
    let less = int_le-false (to_z w64 (of_z w64 c.args.end)) (to_z w64 (of_z w64 c.in-Some.frame.hi)) fails in
    let last = c.args.end -ℤ pos 1 in (
      last,
      omega (arith, ints),
      omega (arith, ints),
      ap (λ (o : Option Context). has_word o last) (sym c.context.ensures ∙ c.in-Some.is)
          ∙ not-behind c.in-Some.frame last (omega (arith, ints, less)),
    )

pub returns-else-frame-first-clause-no : goal.returns-else-frame-first-clause-no
returns-else-frame-first-clause-no c = λ fails.
    let less = int_le-false (to_z w64 (of_z w64 c.in-Some.frame.lo)) (to_z w64 (of_z w64 c.args.first)) fails in (
      c.args.first,
      omega (arith, ints),
      omega (arith, ints),
      ap (λ (o : Option Context). has_word o c.args.first) (sym c.context.ensures ∙ c.in-Some.is)
          ∙ not-before c.in-Some.frame c.args.first (omega (arith, ints, less)),
    )

pub returns-in-None-clause-no : goal.returns-in-None-clause-no
returns-in-None-clause-no c = λ _. (
  c.args.first,
  omega (arith, ints),
  omega (arith, ints),
  ap (λ (o : Option Context). has_word o c.args.first) (sym c.context.ensures ∙ c.in-None.is),
)
