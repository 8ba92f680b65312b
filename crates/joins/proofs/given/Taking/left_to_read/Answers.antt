use Rattle.std.proofs.Common.{◌≡◌, ◌∙◌, ◌++◌, ◌&&◌, not, List, ap}
use Rattle.std.proofs.lemmas.Result.{IfOk-weaker}
use Rattle.machine_state.specs.declared.holding.Span.{Span}
use Rattle.machine_state.specs.Covering.{covered}
use Rattle.machine_state.specs.Spans.{runs}
use Rattle.joins.proofs.Taking.{read_is}
use Rattle.joins.proofs.given.Taking.left_to_read.Goals as goal

pub returns : goal.returns
returns c =
    let taking = c.args.self.now in
    let writes = taking.holding.now.writes.items in
    let reads = taking.holding.now.reads.items in
    let held : c.deref-5.result.now ≡ writes ++ reads =
    c.deref-5.ensures.value ∙ (c.in_ok-held.ensures
    ∙ (ap (λ (l : List Span). l ++ c.deref-3.result.now) c.deref-2.ensures.value
    ∙ ap (λ (l : List Span). writes ++ l) c.deref-3.ensures.value)) in
    let kept : c.deref-4.result.now ≡ runs (λ p. covered writes p && not (covered taking.reads.now p)) 0 taking.end =
    c.deref-4.ensures.value ∙ (c.in_ok-kept.ensures
    ∙ ap (λ (l : List Span). runs (λ p. covered l p && not (covered taking.reads.now p)) 0 taking.end)
    c.deref.ensures.value) in
    IfOk-weaker c.without-2.result _ _ (λ v e. e ∙ read_is taking.end writes reads taking.writes.now taking.reads.now
    c.deref-5.result.now c.deref-4.result.now c.deref-6.result.now held kept
    (c.deref-6.ensures.value ∙ c.in_ok-taken.ensures)) c.without-2.ensures
