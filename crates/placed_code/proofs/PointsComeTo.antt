-- The bytes of instructions that ask nothing of others lead on, on the plain machine.
use Rattle.std.proofs.Common.{◌≡◌, ℕ, ◌+◌, pos, true, false, Option, Some, is_some, refl, sym, ap, ◌∙◌}
use Rattle.machine_state.specs.declared.instruction.Instruction.{Instruction}
use Rattle.plain_machine.specs.declared.decoded.DecodedInstruction.{DecodedInstruction}
use Rattle.plain_machine.specs.declared.decoded.DecodedOperation.{DecodedOperation}
use Rattle.plain_machine.specs.declared.decoded.DecodedOperation.TheVariants as decoded
use Rattle.plain_machine.specs.Decoded.{instruction_in, is_nothing, decoded_operation, decoded_fetched, decoded_at}
use Rattle.plain_machine.specs.PlainByte.{function_step}
use Rattle.plain_machine.specs.PlainRun.{PlainPoint, CanRun}
use Rattle.plain_machine.specs.PlainStep.{PlainState, leaves, plain_step}
use Rattle.plain_machine.proofs.DecodedOperations.{decodes}
use Rattle.plain_machine.proofs.WholeInstructions.{next_in, leads_on}
use Rattle.placed_code.specs.LaidCode.{LaidCode}
use Rattle.placed_code.specs.Points.{Point, Steps, GoesTo, there, steps, plain_point, state_in, Comes, PointsAreComeTo}
use Rattle.placed_code.specs.StraightPieces.{state_at, word_address}

-- what stands for an instruction is not nothing
pub is_something : (op : DecodedOperation) → is_some (instruction_in op) ≡ true → is_nothing op ≡ false
unfolding instruction_in is_nothing
is_something decoded.Nothing some = absurd (cc)
is_something op some = refl

module _ (c : LaidCode) (executed : ℕ) (from : PlainPoint) (can : CanRun c.start c.code executed from) where
  -- one instruction
  step_comes : (p q : Point) → Steps c p q → Comes c.start c.code from (plain_point c p)
      → Comes c.start c.code from (plain_point c q)
  step_comes p q x came =
      let e = x.executes.operand in
      let f = x.executes.function in
      let len = x.executes.fetches.len in
      let d : DecodedInstruction = record {
        operation = decoded_operation f e;
        length = len;
        operand = e;
        second = pos 0;
      } in
      let of : instruction_in (decoded_operation f e) ≡ Some x.instruction = decodes f e ∙ x.executes.is in
      let here : is_some (instruction_in (decoded_operation f e)) ≡ true =
      ap (λ (o : Option Instruction). is_some o) of in
      let is : d ≡ decoded_at c.code p.at =
      sym (ap decoded_fetched x.executes.fetches.there ∙ rw (is_something (decoded_operation f e) here) refl) in
      let after : ℕ → PlainState = λ at. state_at (word_address c.footing.depth) at p.held in
      let does : leaves x.flow (state_in c q) ≡ function_step c.start (instruction_in (decoded_operation f e)) e
      (after (p.at + len)) =
      sym (ap (λ (o : Option Instruction). function_step c.start o e (after (p.at + len))) of
      ∙ ap (λ (at : ℕ). plain_step c.start x.instruction e (after at)) x.executes.fetches.ends ∙ x.steps) in
      record {
        bytes = came.bytes + len;
        runs = leads_on c.start c.code executed from can came.bytes (state_in c p) came.runs d
            (next_in c.start c.code executed from can came.bytes (state_in c p) came.runs d is)
            (leaves x.flow (state_in c q)) does here x.alone;
      }

  -- several
  goes_come : {p q : Point} → GoesTo c p q → Comes c.start c.code from (plain_point c p)
      → Comes c.start c.code from (plain_point c q)
  goes_come there came = came
  goes_come (steps {p = p} {q = q} x rest) came = goes_come rest (step_comes p q x came)

pub points_are_come_to : PointsAreComeTo
points_are_come_to c executed from p q can goes came = goes_come c executed from can goes came
