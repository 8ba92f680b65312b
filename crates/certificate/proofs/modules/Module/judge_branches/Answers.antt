use Rattle.std.proofs.Common.{◌≡◌, ◌+◌, ◌∙◌, [], ◌∷◌, length, sym, ap, arith}
use Rattle.std.proofs.lemmas.List.{length-append}
use Rattle.module_format.specs.Contexts.{first_branch}
use Rattle.certificate.proofs.NumberLaws.{contexts_fit}
use Rattle.certificate.proofs.SiblingLaws.{judged_more}
use Rattle.certificate.proofs.modules.Module.judge_branches.Goals as goal

pub overflow_add-context : goal.overflow_add-context
overflow_add-context c =
    let fit = contexts_fit c.args.self.now c.tables.ensures.kept in
    let many = c.requires in
    let at = c.loop-place.invariant.context in
    let inside = c.loop-place-test.true in
    omega (arith, fit, many, at, inside)

pub loop-place-preserved : goal.loop-place-preserved
loop-place-preserved c =
    let m = c.args.self.now in
    let many = c.loop-place.invariant.many in
    let at = c.loop-place.invariant.context in
    let here : c.loop-place.context ≡ first_branch m + length c.loop-place.judged.items =
    at ∙ ap (λ n. first_branch m + n) (sym many) in
    rw c.in_ok-push.ensures.items (record {
      are = judged_more m c.loop-place.judged.items c.judge.result c.loop-place.context c.loop-place.invariant.are here
          c.judge.ensures;
      many = length-append c.loop-place.judged.items (c.judge.result ∷ []) ∙ ap (λ n. n + 1) many;
      context = omega (arith, at);
    })
