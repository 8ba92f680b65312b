use Rattle.std.proofs.Common.{◌≡◌, ℕ, List, true, sym, ap, subst, ◌∙◌, arith}
use Rattle.std.specs.Prelude.{sum_by}
use Rattle.std.specs.List.{list_all}
use Rattle.module_format.specs.Rows.{Entry}
use Rattle.module_format.specs.Contents.{Label, label_of, par_of, branch_of}
use Rattle.states.specs.State.{State, entry_fact}
use Rattle.states.specs.Below.{entries_hold, price}
use Rattle.states.specs.Cutting.{AreLoopsApart}
use Rattle.states.specs.Rows.{AreApart}
use Rattle.states.specs.Views.{state_of}
use Rattle.par_rules.specs.Comparisons.{branch_view}
use Rattle.par_rules.specs.Costs.{is_readable, IsCostOf}
use Rattle.par_rules.proofs.BranchCosts.{branch-cost}
use Rattle.par_rules.proofs.KnownCosts.{seen_label}
use Rattle.par_rules.proofs.costs.cost_of_branch.Goals as goal

pub has_loops_apart-requires : goal.has_loops_apart-requires
has_loops_apart-requires c =
    subst (λ (entries : List Entry). AreApart entries) (sym c.deref-2.ensures.value)
    (c.label_rows_are_sound.ensures.at_offsets c.args.place.now.module.now c.args.found.now.branch.now.entry
    (label_of c.args.row.now) c.requires.kept c.requires.label).apart

pub paid-requires : goal.paid-requires
paid-requires c =
    subst (λ (entries : List Entry). AreApart entries) (sym c.deref-3.ensures.value)
    (c.label_rows_are_sound.ensures.at_offsets c.args.place.now.module.now c.args.found.now.branch.now.entry
    (label_of c.args.row.now) c.requires.kept c.requires.label).apart

pub returns-clause-cost : goal.returns-clause-cost
returns-clause-cost c =
    let m = c.args.place.now.module.now in
    let par = par_of c.args.found.now.par.now in
    let b = branch_of c.args.found.now.branch.now in
    let s : State = state_of c.args.state.now in
    let t : Label = label_of c.args.row.now in
    let row = c.label_rows_are_sound.ensures.at_offsets m b.entry t c.requires.kept c.requires.label in
    let all = c.in_ok-cost.ensures in
    let number = c.from.ensures in
    subst (λ (n : ℕ). IsCostOf (branch_view m n b s) t c.in_ok-cost.cost) c.requires.context
    (branch-cost m c.args.found.now.context b s t c.in_ok-paid.paid c.in_ok-cost.cost row.apart
    (sym (seen_label m c.args.found.now.context par b t c.requires.numbered c.requires.label)
    ∙ (sym c.label_is_seen.ensures ∙ c.if-not-label_is_seen.false))
    (ap (list_all is_readable) (sym c.deref.ensures.value)
    ∙ (sym c.are_readable.ensures ∙ c.if-not-are_readable.false))
    (subst (λ (entries : List Entry). AreLoopsApart s.frame (entry_fact entries)) c.deref-2.ensures.value
    (c.has_loops_apart.ensures c.if-not-has_loops_apart.false))
    (subst (λ (entries : List Entry). entries_hold s.frame entries ≡ true) c.deref-3.ensures.value
    c.in_ok-paid.ensures.hold)
    (ap (sum_by (price s.frame)) (sym c.deref-3.ensures.value) ∙ c.in_ok-paid.ensures.paid)
    (omega (arith, all, number)))
