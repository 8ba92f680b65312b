use Rattle.std.proofs.Common.{List, sym, ap, subst, ◌∙◌, arith}
use Rattle.std.specs.Prelude.{sum_by}
use Rattle.std.specs.List.{list_all}
use Rattle.module_format.specs.Rows.{Entry}
use Rattle.module_format.specs.Contents.{Label, label_of, par_of}
use Rattle.states.specs.State.{State, entry_fact}
use Rattle.states.specs.Below.{is_whole, price}
use Rattle.states.specs.Cutting.{SaysOutside}
use Rattle.states.specs.Views.{state_of}
use Rattle.par_rules.proofs.KnownCosts.{written_in, cost_is_after}
use Rattle.par_rules.proofs.costs.cost_of_successor.Goals as goal

pub returns-clause-cost : goal.returns-clause-cost
returns-clause-cost c =
    let m = c.args.module.now in
    let par = par_of c.args.found.now.par.now in
    let s : State = state_of c.args.state.now in
    let t : Label = label_of c.args.row.now in
    let all = c.in_ok-cost.ensures in
    let number = c.from.ensures in
    cost_is_after par s t c.written_words.result.now c.in_ok-paid.paid c.in_ok-cost.cost c.requires.apart
    (λ k. c.written_words.ensures.words k ∙ written_in m c.args.found.now.row par k c.requires.in_row)
    (subst (λ (entries : List Entry). SaysOutside c.written_words.result.now s.frame (entry_fact entries))
    c.deref.ensures.value c.in_ok-paid.ensures.says)
    (ap (list_all (is_whole s.frame)) (sym c.deref.ensures.value) ∙ c.in_ok-paid.ensures.whole)
    (ap (sum_by (price s.frame)) (sym c.deref.ensures.value) ∙ c.in_ok-paid.ensures.paid)
    (omega (arith, all, number))
