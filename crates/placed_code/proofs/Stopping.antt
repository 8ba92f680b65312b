-- A run in which the only process stops or waits, and no byte is awaited, is over.
use Rattle.std.proofs.Common.{◌≡◌, ℕ, suc, Bool, true, false, List, Option, Some, None, refl}
use Rattle.std.proofs.Common.{sym, ap, subst, ◌∙◌, is_some, slice_get}
use Rattle.std.specs.Prelude.{◌&&◌, ◌||◌, is_none, if◌then◌else◌, replicate}
use Rattle.std.specs.Prelude.{◌==◌, ◌||◌}
use Rattle.std.proofs.Common.{arith}
use Rattle.std.proofs.lemmas.Bool.{eq-eqb, ne_eqb}
use Rattle.module_format.specs.Contents.{Contents}
use Rattle.machine_state.specs.declared.link.InputLink.{InputLink}
use Rattle.machine_state.specs.declared.link.Link.{Link}
use Rattle.machine_state.specs.declared.link.Link.TheVariants.{Zero, One, Two, Three}
use Rattle.machine_state.specs.declared.op.Op.TheVariants as ops
use Rattle.machine_state.specs.declared.instruction.Instruction.TheVariants.{Operate}
use Rattle.machine_state.specs.Happens.{ran, turn, happens, world_after}
use Rattle.machine_state.specs.Moves.{link_index}
use Rattle.machine_state.specs.World.{World, Counters}
use Rattle.link_runs.specs.ByLink.{ByLink, of_link}
use Rattle.link_runs.specs.FirstInFirstOut.{RunMoment, IsOver, next, next_of, plain_step, stepped, answered_by, asked}
use Rattle.link_runs.specs.FirstInFirstOut.{can_be_asked}
use Rattle.link_runs.specs.Wanting.{is_running, wants, asks}
use Rattle.link_runs.proofs.ByLink.{first_alike}
use Rattle.plain_machine.specs.declared.flow.PlainFlow.TheVariants as flow
use Rattle.plain_machine.specs.PlainStep as plain
use Rattle.plain_machine.specs.PlainStep.{PlainState, Stepped, leaves, plain_operation}
use Rattle.agreement.specs.Agrees.{PlainMachine, Agrees, PlainInput}
use Rattle.agreement.specs.Arriving.{Comes}
use Rattle.agreement.specs.Leaving.{stopped_by, dispatched, dispatched_in}
use Rattle.agreement.specs.TurnsAgree.{byte_stepped}
use Rattle.agreement.proofs.Links.{inputs_are_shown}
use Rattle.plain_run.proofs.Stepping.{left}
use Rattle.accepted_runs.specs.Running.{AgreesOn}
use Rattle.accepted_runs.proofs.RunningAlone.{can_step, there, leads}
use Rattle.program_meaning.specs.Links.{Links}
use Rattle.placed_code.specs.Closing.{code_of, idle_input, ComesToBe, At, IsOverAs, StopsComeToBe}
use Rattle.placed_code.specs.LaidCode.{LaidCode}
use Rattle.placed_code.specs.Points.{Executes, Point}
use Rattle.placed_code.specs.StraightPieces.{Footing}
use Rattle.placed_code.proofs.Asking as asking
use Rattle.placed_code.proofs.PointsComeToBe.{links_stay, one_turn, quiet_turns}

-- ---- nobody runs, and no byte is awaited

-- each link is idle
pub idle_there : (inputs : List PlainInput) (link : Link) → inputs ≡ replicate 4 idle_input
    → slice_get inputs (link_index link) ≡ Some idle_input
idle_there inputs Zero is = ap (λ (xs : List PlainInput). slice_get xs 0) is
idle_there inputs One is = ap (λ (xs : List PlainInput). slice_get xs 1) is
idle_there inputs Two is = ap (λ (xs : List PlainInput). slice_get xs 2) is
idle_there inputs Three is = ap (λ (xs : List PlainInput). slice_get xs 3) is

-- a link on which nobody waits wants no byte
wants_nothing : (link : Link) (w : World) (input : InputLink) → slice_get w.links.inputs (link_index link) ≡ Some input
    → input.kept ≡ None → is_some input.waiting ≡ false → is_some input.enabled ≡ false → wants link w ≡ false
wants_nothing link w input here kept waiting enabled =
    ap (λ (o : Option InputLink). elim o as (λ o. Bool) [ None ↦ false | Some input ↦ asks input ]) here
    ∙ ap (λ (b : Bool). is_none input.kept && (b || is_some input.enabled)) waiting
    ∙ ap (λ (b : Bool). is_none input.kept && (false || b)) enabled
    ∙ ap (λ (o : Option ℕ). is_none o && false) kept

module _ (m : Contents) (machine : PlainMachine) (w : World) (on : AgreesOn m machine w)
    (inputs : machine.inputs ≡ replicate 4 idle_input) where
  -- so no byte is wanted
  nothing_wanted : (link : Link) → wants link w ≡ false
  nothing_wanted link =
      let events = on.runs.reached.events in
      let agrees = subst (λ (v : World). Agrees m machine v) on.runs.reached.world on.agrees in
      let x = inputs_are_shown m events machine (link_index link) idle_input agrees
      (idle_there machine.inputs link inputs) in
      subst (λ (v : World). wants link v ≡ false) (sym on.runs.reached.world)
      (wants_nothing link (world_after m events) x.link x.here x.kept x.waiting x.enabled)

  -- and if nobody runs, the run is over
  pub rests : (writers : ByLink Bool) (s : RunMoment) → s.world ≡ w → machine.is_running ≡ false → IsOver m writers s
  unfolding next
  rests writers s is off =
      let still : is_running s.world ≡ false =
      ap is_running is ∙ sym on.agrees.running ∙ off in
      let none : asked s ≡ None =
      first_alike (can_be_asked s) (λ link. false) (λ link.
      ap (λ (v : World). wants link v && is_some (of_link s.left link)) is
      ∙ ap (λ (b : Bool). b && is_some (of_link s.left link)) (nothing_wanted link)) in
      ap (λ (b : Bool). if b then Some (stepped m writers s) else answered_by m s (asked s)) still
      ∙ ap (λ (o : Option Link). answered_by m s o) none

-- ---- `stopp`

module _ (m : Contents) (labels : ℕ → ℕ) (footing : Footing) where
  abbrev c : LaidCode
  c = code_of m labels footing

  -- by whether the module is finished where the instruction ends
  stop_comes_to_be : (writers : ByLink Bool) (p : Point) (l : Links) (s : RunMoment)
      (x : Executes c p (Operate ops.StopProcess)) (finished : Bool) → (x.behind == m.finish) ≡ finished → At m c p l s
      → ComesToBe m writers s (IsOverAs finished m writers l)
  unfolding plain.plain_step plain_operation
  stop_comes_to_be writers p l s x finished tested at =
      let a = asking.asks m labels footing at.machine s.world at.on at.running p (Operate ops.StopProcess) flow.Stop x
      at.here refl in
      let can = can_step m a.now a.world a.on in
      let flow_is : flow.Stop ≡ (byte_stepped m a.now).flow = sym (ap (λ (t : Stepped). t.flow) a.stepped) in
      let turned = (left m a.now false 0 can a.running flow.Stop flow_is).turned in
      let after : PlainMachine = stopped_by m (byte_stepped m a.now).state a.now in
      let same : dispatched m 0 after ≡ after =
      ap (λ (qs : List ℕ). dispatched_in m 0 after qs) (a.ready ∙ at.ready) in
      let came : Comes m after ran (turn m a.world plain_step) =
      subst (λ (v : World). Comes m after ran (turn m v plain_step)) (there m a.now a.world a.on)
      (record {
        answer = turned.answer;
        agrees = subst (λ (q : PlainMachine). Agrees m q (turn m (world_after m can.events) plain_step).world) same
            turned.agrees;
      }) in
      let on = leads m a.now after a.world a.on came in
      let quiet = quiet_turns m writers s a.world a.quietly in
      let finish_is : after.counters.is_finished ≡ finished =
      ap (λ (b : Bool). b || ((byte_stepped m a.now).state.registers.at == m.finish)) (a.finished ∙ at.unfinished)
      ∙ ap (λ (t : Stepped). t.state.registers.at == m.finish) a.stepped ∙ tested in
      let runs : is_running a.world ≡ true = sym a.on.agrees.running ∙ a.running in
      record {
        turns = suc quiet.turns;
        moment = record s { world = happens m a.world plain_step };
        comes = ap (next_of m writers) quiet.comes
            ∙ one_turn m writers (record s { world = a.world }) runs came.answer;
        is = record {
          over = rests m after (happens m a.world plain_step) on (a.inputs ∙ at.inputs) writers
              (record s { world = happens m a.world plain_step }) refl refl;
          is_finished = sym (ap (λ (k : Counters). k.is_finished) on.agrees.counters) ∙ finish_is;
          links = links_stay (happens m a.world plain_step) at.links;
        };
      }

pub stops_come_to_be : StopsComeToBe
stops_come_to_be = record {
  finishes = λ m writers labels footing p l s finish x at.
      stop_comes_to_be m labels footing writers p l s x.executes true
      (eq-eqb x.executes.behind m.finish (x.ends ∙ sym finish)) at;
  stops = λ m writers labels footing p l s finish x at.
      let inside = x.inside in
      stop_comes_to_be m labels footing writers p l s x.executes false
      (ne_eqb x.executes.behind m.finish (λ e. omega (arith, e, finish, inside))) at;
}
