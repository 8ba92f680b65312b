use Rattle.std.proofs.Common.{Bool, subst, sym}
use Rattle.machine_state.specs.Happens.{happens}
use Rattle.link_runs.specs.FirstInFirstOut.{plain_step}
use Rattle.accepted_runs.specs.Running.{PlainExecution, HasGoneAndReacted}
use Rattle.accepted_runs.specs.Reacting.{HasMessage, message_of}
use Rattle.accepted_runs.proofs.Happening as happening
use Rattle.accepted_runs.proofs.RunningAlone.{can_run_alone, comes_alone, has_gone}
use Rattle.accepted_runs.proofs.running.Run.go_on.Goals as goal

pub go_on-done-requires-clause-can : goal.go_on-done-requires-clause-can
go_on-done-requires-clause-can c =
    let somewhere = c.self.invariant.0 in
    can_run_alone c.self.inside.program c.self.inside.machine somewhere.0 somewhere.1

pub invariant_of-self : goal.invariant_of-self
invariant_of-self c =
    let m = c.self.inside.program in
    let somewhere = c.self.invariant.0 in
    let x = c.go_on-done.ensures in
    let reaction = c.go_on-done.result in
    let after = c.go_on-done.new.self in
    let come = comes_alone m c.self.inside.machine x.between somewhere.0 somewhere.1 x.ran in (
      (
        happens m come.world plain_step,
        happening.goes_on m x.between come.world come.on plain_step tt reaction after x.reacts,
      ),
      subst (λ (b : Bool). HasMessage b after) (sym c.has_sent-self-inside.ensures)
          (happening.has_message m x.between come.world come.on plain_step tt reaction after x.reacts),
      c.self.invariant.2,
    )

pub returns : goal.returns
returns c =
    let m = c.self.inside.program in
    let x = c.go_on-done.ensures in
    let reaction = c.go_on-done.result in
    let after = c.go_on-done.new.self in
    let last = message_of c.self.inside.has_sent c.self.inside.machine in
    let gone = subst (λ (b : Bool).
    HasGoneAndReacted (record { contents = m; machine = c.self.inside.machine; last = last }) reaction
    (record { contents = m; machine = after; last = message_of b after })) (sym c.has_sent-self-inside.ensures)
    (has_gone m c.self.inside.machine x.between after last reaction x.ran x.reacts) in
    subst (λ (r : PlainExecution). HasGoneAndReacted r reaction
    (record { contents = m; machine = after; last = message_of c.has_sent-self-inside.result after })) c.self.view_is
    gone
