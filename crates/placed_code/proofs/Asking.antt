-- A process whose next instruction asks something of others: a run comes to the last byte of it.
use Rattle.std.proofs.Common.{◌≡◌, ℕ, ◌+◌, ◌≤◌, pos, true, length, Option, Some, is_some, refl, sym}
use Rattle.std.proofs.Common.{ap, ◌∙◌, arith}
use Rattle.module_format.specs.Contents.{Contents}
use Rattle.machine_state.specs.declared.instruction.Instruction.{Instruction}
use Rattle.machine_state.specs.World.{World}
use Rattle.link_runs.specs.Driving.{Quietly}
use Rattle.plain_machine.specs.declared.decoded.DecodedInstruction.{DecodedInstruction}
use Rattle.plain_machine.specs.declared.flow.PlainFlow.{PlainFlow}
use Rattle.plain_machine.specs.Decoded.{instruction_in, decoded_operation, decoded_fetched, decoded_at}
use Rattle.plain_machine.specs.PlainByte.{function_step}
use Rattle.plain_machine.specs.PlainStep.{PlainState, leaves, plain_step}
use Rattle.plain_machine.proofs.DecodedOperations.{decodes}
use Rattle.placed_code.proofs.PointsComeTo.{is_something}
use Rattle.plain_machine.proofs.WholeInstructions.{next_in}
use Rattle.agreement.specs.Agrees.{PlainMachine}
use Rattle.agreement.specs.TurnsAgree.{byte_stepped}
use Rattle.plain_run.specs.RunningAlone.{point_on, run_to}
use Rattle.accepted_runs.specs.Running.{AgreesOn}
use Rattle.placed_code.specs.Closing.{code_of}
use Rattle.placed_code.specs.LaidCode.{LaidCode}
use Rattle.placed_code.specs.Points.{Point, Executes, point, plain_point, state_in}
use Rattle.placed_code.specs.StraightPieces.{Footing, state_at, word_address}
use Rattle.placed_code.proofs.PointsComeToBe.{can, came_there, starts_here}

module _ (m : Contents) (labels : ℕ → ℕ) (footing : Footing) where
  abbrev c : LaidCode
  c = code_of m labels footing

  -- Steps that emit nothing have led there: the next byte leaves this to be done, in the state of this point.
  pub record Asks (machine : PlainMachine) (w : World) (f : PlainFlow) (q : Point) : Type 0 where
    pub now : PlainMachine
    pub world : World
    pub quietly : Quietly m w world
    pub on : AgreesOn m now world
    pub running : now.is_running ≡ true
    pub stepped : byte_stepped m now ≡ leaves f (state_in c q)
    pub ready : now.ready ≡ machine.ready
    pub outputs : now.outputs ≡ machine.outputs
    pub inputs : now.inputs ≡ machine.inputs
    pub finished : now.counters.is_finished ≡ machine.counters.is_finished
    pub inside : q.at ≤ length m.code

  pub asks : (machine : PlainMachine) (w : World) (on : AgreesOn m machine w) (running : machine.is_running ≡ true)
      (p : Point) (i : Instruction) (f : PlainFlow) (x : Executes c p i) → point_on machine ≡ plain_point c p
      → plain_step c.start i x.operand (state_in c (point x.behind p.held))
      ≡ leaves f (state_in c (point x.behind p.held))
      → Asks machine w f (point x.behind p.held)
  asks machine w on running p i f x here does =
      let e = x.operand in
      let fn = x.function in
      let len = x.fetches.len in
      let d : DecodedInstruction = record {
        operation = decoded_operation fn e;
        length = len;
        operand = e;
        second = pos 0;
      } in
      let of : instruction_in (decoded_operation fn e) ≡ Some i = decodes fn e ∙ x.is in
      let some : is_some (instruction_in (decoded_operation fn e)) ≡ true =
      ap (λ (o : Option Instruction). is_some o) of in
      let is : d ≡ decoded_at c.code p.at =
      sym (ap decoded_fetched x.fetches.there ∙ rw (is_something (decoded_operation fn e) some) refl) in
      let after : ℕ → PlainState = λ at. state_at (word_address footing.depth) at p.held in
      let start = starts_here m labels footing machine w on running p here in
      let whole = (next_in c.start c.code machine.counters.executed (point_on machine)
      (can m labels footing machine w on running) 0 (state_in c p) start d is).some some in
      let came = came_there m labels footing machine w on running whole.before whole.point whole.runs in
      record {
        now = run_to came.bytes whole.point machine;
        world = came.world;
        quietly = came.quietly;
        on = came.on;
        running = running;
        stepped = whole.stepped
            ∙ ap (λ (o : Option Instruction). function_step c.start o e (after (p.at + len))) of
            ∙ ap (λ (at : ℕ). plain_step c.start i e (after at)) x.fetches.ends ∙ does;
        ready = refl;
        outputs = refl;
        inputs = refl;
        finished = refl;
        inside = let within = whole.within in let ends = x.fetches.ends in omega (arith, within, ends);
      }
