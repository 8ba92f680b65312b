use Rattle.std.proofs.Common.{◌-◌, sym, subst}
use Rattle.module_format.specs.Contents.{label_of}
use Rattle.states.specs.Remembered.{IsPaid}
use Rattle.states.specs.State.{State}
use Rattle.states.specs.Views.{state_of}
use Rattle.states.proofs.Remembering.{paid-below}
use Rattle.states.proofs.comparison.cost_at.Goals as goal

pub recalled-requires-clause-apart : goal.recalled-requires-clause-apart
recalled-requires-clause-apart c =
    (c.label_rows_are_sound.ensures.at_offsets c.args.state.now.frame.remembered.«module».now c.args.to
    (label_of c.in-Some.field-0.row.now) c.tables-tables.ensures.kept c.in-Some.ensures.found).apart

pub cost_somehow-requires : goal.cost_somehow-requires
cost_somehow-requires c =
    (c.label_rows_are_sound.ensures.at_offsets c.args.state.now.frame.remembered.«module».now c.args.to
    (label_of c.in-Some.field-0.row.now) c.tables-tables.ensures.kept c.in-Some.ensures.found).apart

pub overflow_sub-cost : goal.overflow_sub-cost
overflow_sub-cost c =
    (paid-below (state_of c.recalled.new.state) (label_of c.in-Some.field-0.row.now) c.in_ok-cost.cost
    (sym c.in_ok-cost.ensures.cost)).1

pub remember-requires-clause-paid : goal.remember-requires-clause-paid
remember-requires-clause-paid c =
    subst (λ (s : State). IsPaid s.frame (label_of c.in-Some.field-0.row.now).entries
    (c.in_ok-cost.cost - (label_of c.in-Some.field-0.row.now).number)) (sym c.cost_somehow.ensures.left.state)
    (paid-below (state_of c.recalled.new.state) (label_of c.in-Some.field-0.row.now) c.in_ok-cost.cost
    (sym c.in_ok-cost.ensures.cost)).0

pub remember-requires-clause-apart : goal.remember-requires-clause-apart
remember-requires-clause-apart c =
    (c.label_rows_are_sound.ensures.at_offsets c.args.state.now.frame.remembered.«module».now c.args.to
    (label_of c.in-Some.field-0.row.now) c.tables-tables.ensures.kept c.in-Some.ensures.found).apart
