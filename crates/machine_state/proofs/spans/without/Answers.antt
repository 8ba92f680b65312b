use Rattle.std.proofs.Common.{◌≡◌, ◌++◌, ◌∙◌, ap, List, not, rules}
use Rattle.std.proofs.lemmas.Result.{IfOk-weaker}
use Rattle.machine_state.specs.declared.holding.Span.{Span}
use Rattle.machine_state.specs.Covering.{covered}
use Rattle.machine_state.specs.Spans.{runs}
use Rattle.machine_state.proofs.Gaps.{twice_left}
use Rattle.machine_state.proofs.spans.without.Goals as goal

pub returns : goal.returns
returns c =
    let first : c.in_ok-copy.copy.items ≡ c.args.spans.now = c.in_ok-copy.ensures.items in
    let taken : c.extend_from_slice.new.self.items
    ≡ runs (λ p. not (covered c.args.spans.now p)) 0 c.args.end ++ c.args.others.now =
    search (rules, first) in
    IfOk-weaker c.gaps-2.result _ _ (λ v e. e
    ∙ (ap (λ (l : List Span). runs (λ p. not (covered l p)) 0 c.args.end) taken
    ∙ twice_left c.args.end c.args.spans.now c.args.others.now)) c.gaps-2.ensures
