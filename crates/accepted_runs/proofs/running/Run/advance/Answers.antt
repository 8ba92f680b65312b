use Rattle.std.proofs.Common.{Bool, subst, sym}
use Rattle.machine_state.specs.Happens.{happens}
use Rattle.accepted_runs.specs.Running.{PlainExecution, AgreesOn, Shows}
use Rattle.accepted_runs.specs.Reacting.{HasMessage}
use Rattle.accepted_runs.proofs.Happening as happening
use Rattle.accepted_runs.proofs.running.Run.advance.Goals as goal

pub apply-reaction-requires : goal.apply-reaction-requires
apply-reaction-requires c =
    let somewhere = c.self.invariant.0 in
    happening.can_happen c.self.inside.program c.self.inside.machine somewhere.0 somewhere.1
    c.args.event c.can_happen.ensures

pub invariant_of-self : goal.invariant_of-self
invariant_of-self c =
    let m = c.self.inside.program in
    let somewhere = c.self.invariant.0 in
    let reaction = c.apply-reaction.result in
    let after = c.apply-reaction.new.self in (
      (
        happens m somewhere.0 c.args.event,
        happening.goes_on m c.self.inside.machine somewhere.0 somewhere.1 c.args.event c.can_happen.ensures reaction
            after c.apply-reaction.ensures,
      ),
      subst (λ (b : Bool). HasMessage b after) (sym c.has_sent-self-inside.ensures)
          (happening.has_message m c.self.inside.machine somewhere.0 somewhere.1 c.args.event c.can_happen.ensures reaction
          after c.apply-reaction.ensures),
      c.self.invariant.2,
    )

pub returns-clause-reacts : goal.returns-clause-reacts
returns-clause-reacts c w shows =
    let m = c.self.inside.program in
    let before = c.self.inside.machine in
    let reaction = c.apply-reaction.result in
    let after = c.apply-reaction.new.self in
    let on : AgreesOn m before w = subst (λ (r : PlainExecution). Shows r w) (sym c.self.view_is) shows in
    rw (← c.self.view_is, c.has_sent-self-inside.ensures) (record {
      answer = happening.answers m before w on c.args.event c.can_happen.ensures reaction after
          c.apply-reaction.ensures;
      is_shown = happening.goes_on m before w on c.args.event c.can_happen.ensures reaction after
          c.apply-reaction.ensures;
    })
