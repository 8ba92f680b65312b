use Rattle.std.proofs.Common.{◌≡◌, ℤ, Result, Ok, refl, sym, ap, subst, ◌∙◌, rules}
use Rattle.std.proofs.lemmas.Int.{to_z-of_z}
use Rattle.std.specs.Int.{w32}
use Rattle.module_format.specs.Contents.{contents_of}
use Rattle.machine_state.specs.Memory.{Memory}
use Rattle.machine_state.specs.Asking.{scheduled, untouched, without_selection_word}
use Rattle.machine_state.specs.Exchanges.{received, sent}
use Rattle.machine_state.specs.Alternations.{begun, skip_enabled, channel_enabled, waited, skip_disabled}
use Rattle.machine_state.specs.Alternations.{channel_disabled, alternation_ended}
use Rattle.machine_state.specs.Joins.{start_turn, join_turn}
use Rattle.machine_state.specs.Moves.{counted}
use Rattle.machine_state.specs.declared.fault.Fault.{Fault}
use Rattle.machine_state.specs.Turn.{Here, Turn, ran, answered}
use Rattle.machine_state.specs.World.{World, Counters}
use Rattle.traffic.specs.Beside.{beside, CountsBeside}
use Rattle.traffic.specs.Moment.{Moment}
use Rattle.traffic.specs.Settling.{here_in, Settles}
use Rattle.machine.specs.declared.checked.act.Act.TheVariants.{Ran}
use Rattle.machine.specs.declared.checked.machine.Machine.TheInside.{Inside}
use Rattle.machine.specs.Applying.{ran_by}
use Rattle.machine.proofs.Granting.{granted_here, message_here, settles_granted}
use Rattle.machine.proofs.checked.machine.Machine.grant.Goals as goal
use Rattle.machine.proofs.checked.machine.Machine.grant.Goals.{in-Receive, in-Send, in-Begin, in-EnableChannel}
use Rattle.machine.proofs.checked.machine.Machine.grant.Goals.{in-EnableSkip, in-Wait, in-DisableChannel}
use Rattle.machine.proofs.checked.machine.Machine.grant.Goals.{in-DisableSkip}
use Rattle.machine.proofs.checked.machine.Machine.grant.Goals.{in-End, in-Start, in-Join}

pub returns-clause-applies : goal.returns-clause-applies
returns-clause-applies c =
    let inside = c.self.inside in
    let before : World = inside.traffic.world in
    let counters : Counters = record { executed = inside.executed; is_finished = inside.is_finished } in
    let mine = c.args.module.now in
    let theirs = contents_of c.tables-tables.result.now in
    let instance = c.args.here.now in
    let here = here_in theirs instance in
    let registers = c.args.registers in
    let plain = untouched registers in
    let taken = scheduled registers in
    let memory = before.memory in
    let view : c.args.self.now.world ≡ beside counters inside.fault before =
    sym (ap (λ (m : Moment). m.world) c.self.view_is) in
    let world_of = λ (i : Inside).
    beside (record { executed = i.executed; is_finished = i.is_finished }) i.fault i.traffic.world in
    let kept_in = world_of c.match-request.self-inside in
    let granted_in = granted_here instance mine counters inside.fault before c.args.self.now.world
    c.keep.new.self.world kept_in c.match-request.granted c.keep.result view c.keep.ensures.result
    c.keep.ensures.world in
    let granted = granted_in theirs c.tables-tables.ensures.contents in
    let settled = λ (turn : Here → Memory → World → Turn)
    (counts : CountsBeside (turn here memory)) (after : World) (result : Result (Unit {0}) Fault)
    (settles : Settles before after ran result (turn here memory before)).
    granted turn counts after (ran_by result) (settles_granted before after (turn here memory before) result settles) in
    let message = message_here instance mine counters inside.fault before c.args.self.now.world
    c.keep.new.self.world kept_in c.match-request.granted c.keep.result view c.keep.ensures.result
    c.keep.ensures.world theirs c.tables-tables.ensures.contents in
    let messages = c.messages_read_no_counters.ensures in
    let enabling = c.enabling_reads_no_counters.ensures in
    let disabling = c.disabling_reads_no_counters.ensures in
    elim c.match-request.branch [
      | in-Receive w ↦
          rw (w.in-Receive.is) (message received messages.receptions w.in-Receive.exchange registers w.message.result
          w.message.ensures w.receive-granted.new.processes.world w.receive-granted.result
          w.receive-granted.ensures.grants w.granted-is (ap world_of w.self-inside-is))
      | in-Send w ↦
          rw (w.in-Send.is) (message sent messages.sendings w.in-Send.exchange registers w.message-in-Send.result
          w.message-in-Send.ensures w.send-granted.new.processes.world w.send-granted.result
          w.send-granted.ensures.grants w.granted-is (ap world_of w.self-inside-is))
      | in-Begin w ↦
          rw (w.in-Begin.is) (granted (λ (h : Here) (m : Memory). begun h (taken m))
          (enabling.begins here (taken memory)) w.begin.new.traffic.world (Ok Ran)
          (w.begin.ensures.turn theirs, tt) w.granted-is (ap world_of w.self-inside-is))
      | in-EnableChannel w ↦
          let guard = w.in-EnableChannel.guard in
          let address = w.in-EnableChannel.address in
          rw (w.in-EnableChannel.is) (settled (λ (h : Here) (m : Memory). channel_enabled h guard address (plain m))
          (enabling.channels here guard address (plain memory)) w.enable_channel.new.traffic.world
          w.enable_channel.result w.enable_channel.ensures.settles (w.granted-is ∙ w.ran-granted.ensures)
          (ap world_of w.self-inside-is))
      | in-EnableSkip w ↦
          let guard = w.in-EnableSkip.guard in
          rw (w.in-EnableSkip.is) (granted (λ (h : Here) (m : Memory). skip_enabled h guard (plain m))
          (enabling.skips here guard (plain memory)) w.enable_skip.new.traffic.world (Ok Ran)
          (w.enable_skip.ensures.turn theirs, tt) w.granted-is (ap world_of w.self-inside-is))
      | in-Wait w ↦
          let local = λ (m : Memory). without_selection_word (taken m) in
          rw (w.in-Wait.is) (granted (λ (h : Here) (m : Memory). waited h (local m))
          (enabling.waits here (local memory)) w.wait.new.traffic.world (Ok Ran) (w.wait.ensures.turn theirs, tt)
          w.granted-is (ap world_of w.self-inside-is))
      | in-DisableChannel w ↦
          let guard = w.in-DisableChannel.guard in
          let address = w.in-DisableChannel.address in
          let distance = w.in-DisableChannel.distance in
          let local = λ (m : Memory). without_selection_word (plain m) in
          let after = w.disable_channel.new.traffic.world in
          let result = w.disable_channel.result in
          let settles = subst (λ (d : ℤ).
          Settles before after ran result (channel_disabled here guard address d (local memory) before))
          (to_z-of_z w32 distance (search rules)) w.disable_channel.ensures.settles in
          rw (w.in-DisableChannel.is)
          (settled (λ (h : Here) (m : Memory). channel_disabled h guard address distance (local m))
          (disabling.channels here guard address distance (local memory)) after result settles
          (w.granted-is ∙ w.ran-granted-in-DisableChannel.ensures) (ap world_of w.self-inside-is))
      | in-DisableSkip w ↦
          let guard = w.in-DisableSkip.guard in
          let distance = w.in-DisableSkip.distance in
          let local = λ (m : Memory). without_selection_word (plain m) in
          let after = w.disable_skip.new.traffic.world in
          let runs = subst (λ (d : ℤ).
          skip_disabled here guard d (local memory) before ≡ answered ran (counted after))
          (to_z-of_z w32 distance (search rules)) (w.disable_skip.ensures.turn theirs) in
          rw (w.in-DisableSkip.is) (granted (λ (h : Here) (m : Memory). skip_disabled h guard distance (local m))
          (disabling.skips here guard distance (local memory)) after (Ok Ran) (runs, tt) w.granted-is
          (ap world_of w.self-inside-is))
      | in-Start w ↦
          let to = w.in-Start.to in
          let workspace = w.in-Start.workspace in
          rw (w.in-Start.is) (granted_in mine refl (λ (h : Here) (m : Memory). start_turn h to workspace (plain m))
          (c.starts_read_no_counters.ensures (here_in mine instance) to workspace (plain memory))
          w.start-granted.new.processes.world w.start-granted.result w.start-granted.ensures w.granted-is
          (ap world_of w.self-inside-is))
      | in-Join w ↦
          let block = w.in-Join.block in
          rw (w.in-Join.is) (settled (λ (h : Here) (m : Memory). join_turn h block (plain m))
          (c.joins_read_no_counters.ensures here block (plain memory)) w.join.new.traffic.world w.join.result
          w.join.ensures.settles (w.granted-is ∙ w.ran-granted-in-Join.ensures) (ap world_of w.self-inside-is))
      | in-End w ↦
          let to = w.in-End.to in
          rw (w.in-End.is) (settled (λ (h : Here) (m : Memory). alternation_ended h to (plain m))
          (disabling.ends here to (plain memory)) w.end.new.traffic.world w.end.result w.end.ensures.settles
          (w.granted-is ∙ w.ran-granted-in-End.ensures) (ap world_of w.self-inside-is))
    ]
