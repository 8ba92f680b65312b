use Rattle.std.proofs.Common.{List, subst}
use Rattle.module_format.specs.Rows.{Entry}
use Rattle.module_format.specs.declared.rows.Interval.{Interval}
use Rattle.module_format.specs.Contents.{Label, label_of, par_of, branch_of}
use Rattle.states.specs.State.{State, entry_fact}
use Rattle.states.specs.Cutting.{SaysInside}
use Rattle.states.specs.Views.{state_of}
use Rattle.par_rules.proofs.KnownCosts.{unwritten_by}
use Rattle.par_rules.proofs.WordTests.{kept-passes}
use Rattle.par_rules.proofs.ends.holds_quickly.Goals as goal

pub returns-in_Some-_par-clause-below : goal.returns-in_Some-_par-clause-below
returns-in_Some-_par-clause-below c = λ yes.
    let m = c.args.module.now in
    let b = branch_of c.in_Some-_par.branch.now in
    let s : State = state_of c.args.state.now in
    let t : Label = label_of c.args.row.now in
    kept-passes m s.context s.frame t b.writes c.requires
    (λ k none. unwritten_by m s.context (par_of c.in_Some-_par._par.now) b k c.in_Some-_par.ensures.found none)
    (subst (λ (intervals : List Interval). SaysInside intervals s.frame (entry_fact t.entries))
    c.deref-in_Some-_par.ensures
    (subst (λ (entries : List Entry). SaysInside c.deref-in_Some-_par.result.now s.frame (entry_fact entries))
    c.deref.ensures.value (c.holds_inside.ensures.says yes)))
