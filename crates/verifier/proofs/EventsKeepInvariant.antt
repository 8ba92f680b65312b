-- Each event keeps the invariant of a certified module, in each world that events lead to.
use Rattle.std.proofs.Common.{◌≡◌, ℕ, ℤ, Some, None, sym, ◌∙◌}
use Rattle.std.specs.Prelude.{slice_get}
use Rattle.prefix_decoder.specs.declared.function.Fun.{Fun}
use Rattle.prefix_decoder.specs.Functions.{fun_of, function_code, nibble}
use Rattle.prefix_decoder.specs.Operand.{with_nibble, after_prefix}
use Rattle.module_format.specs.Contents.{Contents}
use Rattle.machine_state.specs.declared.process.Task.{Task}
use Rattle.machine_state.specs.declared.process.Condition.TheVariants.{Ready}
use Rattle.machine_state.specs.declared.process.Mode.TheVariants as modes
use Rattle.machine_state.specs.declared.event.Event.{Event}
use Rattle.machine_state.specs.World.{World}
use Rattle.machine_state.specs.Moves.{link_index}
use Rattle.machine_state.specs.LocalStep.{local_step}
use Rattle.machine_state.specs.Turn.{Turn, at_here}
use Rattle.machine_state.specs.Happens.{happens, site_of}
use Rattle.machine_state.specs.Endings.{Happened, was_at_fault, it_rests, is_outside, is_prefix, is_step, is_taken}
use Rattle.machine_state.specs.Endings.{is_kept, is_acknowledged, TurnsInto, local_here}
use Rattle.machine_state.proofs.Turns.{turn_happens}
use Rattle.rulings.specs.Meaning.{IsWellFormed}
use Rattle.module_format.specs.Keeping.{Keeps as IsKept}
use Rattle.certified_worlds.specs.Certified.{IsCertified}
use Rattle.certified_worlds.specs.Point.{Decodes}
use Rattle.certified_worlds.proofs.StartedWorlds.{starts_beside}
use Rattle.certified_worlds.specs.Invariant.{Holds}
use Rattle.verifier.specs.Headline.{IsEvent}
use Rattle.verifier.proofs.CalmWorlds.{IsCalm, is_alternating, is_among_starts, is_plain}
use Rattle.verifier.proofs.LawfulWorlds.{IsLawful, runs_ready}
use Rattle.verifier.proofs.Prefixes.{never_outside, world_prefixed}
use Rattle.verifier.proofs.StartersGoOn.{starter_prefix_holds, starter_step_holds}
use Rattle.verifier.proofs.Tables.{Living, living}
use Rattle.verifier.proofs.Arrivals.{taken_holds, kept_holds, acknowledged_holds}
use Rattle.verifier.proofs.Instructions.{step_holds, prefix_holds}

not_in_plain : (t : Task) → t.mode ≡ modes.Plain → t.mode ≡ modes.Starting → ⊥
not_in_plain t plain starting = let no' : modes.Plain ≡ modes.Starting = sym plain ∙ starting in cc

module _ (m : Contents) (d : Decodes m) (wf : IsWellFormed m) (kept : IsKept m) (c : IsCertified m) (w : World)
    (lawful : IsLawful m w) (h : Holds m w) where
  -- the process that runs, with all that is known of it
  running : (p : ℕ) (t : Task) → w.queue.running ≡ Some p → slice_get w.tasks p ≡ Some t
      → (t.condition ≡ Ready) × Living m w h p t
  running p t runs here =
      let ready = runs_ready w lawful p t runs here in
      (ready, living m w h p t Ready here ready (λ e. cc) (λ e. cc))

  -- a byte that is a prefix, or that completes an instruction, by how the process is
  prefixed_holds : (p : ℕ) (t : Task) → IsCalm t → t.condition ≡ Ready → Living m w h p t → (byte : ℕ)
      (operand : ℤ) → slice_get m.code t.registers.at ≡ Some byte → fun_of (function_code byte) ≡ None
      → after_prefix (function_code byte) (with_nibble t.registers.operand (nibble byte)) ≡ operand
      → Holds m (world_prefixed p t operand w)
  prefixed_holds p t (is_plain plain) ready r = prefix_holds m d wf kept c w lawful h p t ready r (not_in_plain t plain)
  prefixed_holds p t (is_alternating alternates) ready r =
      prefix_holds m d wf kept c w lawful h p t ready r (λ starting. starts_beside starting alternates)
  prefixed_holds p t (is_among_starts starting now) ready r =
      starter_prefix_holds m d wf kept c w lawful h p t ready starting r

  completed_holds : (p : ℕ) (t : Task) → IsCalm t → t.condition ≡ Ready → Living m w h p t → (pick byte : ℕ)
      (f : Fun) {turn : Turn} → IsLawful m turn.world → slice_get m.code t.registers.at ≡ Some byte
      → fun_of (function_code byte) ≡ Some f
      → TurnsInto (at_here m p t pick) w (local_step (site_of (at_here m p t pick) w) f
      (with_nibble t.registers.operand (nibble byte)) (local_here t w)) turn → Holds m turn.world
  completed_holds p t (is_plain plain) ready r = step_holds m d wf kept c w lawful h p t ready r (not_in_plain t plain)
  completed_holds p t (is_alternating alternates) ready r =
      step_holds m d wf kept c w lawful h p t ready r (λ starting. starts_beside starting alternates)
  completed_holds p t (is_among_starts starting now) ready r =
      starter_step_holds m d wf kept c w lawful h p t ready starting r

  -- for each way in which an event can end
  happened_holds : {e : Event} {turn : Turn} → IsEvent e → IsLawful m turn.world → Happened m w e turn
      → Holds m turn.world
  happened_holds is next (was_at_fault f faulty) = h
  happened_holds is next (it_rests rests) = h
  happened_holds is next (is_outside p task outside runs here) =
      let r = running p task runs here in
      absurd (never_outside m w h p task r.1 outside)
  happened_holds is next (is_prefix p task byte operand runs here at none further more) =
      let r = running p task runs here in
      prefixed_holds p task (lawful.calm p task here) r.0 r.1 byte operand at none further
  happened_holds is next (is_step {pick = pick} p task byte f runs here at some ends) =
      let r = running p task runs here in
      completed_holds p task (lawful.calm p task here) r.0 r.1 pick byte f next at some ends
  happened_holds small next (is_taken {link = link} {byte = byte} input p here waiting) =
      taken_holds m w lawful h (link_index link) byte small input p here waiting
  happened_holds small next (is_kept {link = link} {byte = byte} input here nobody empty) =
      kept_holds m w lawful h (link_index link) byte small input here empty
  happened_holds is next (is_acknowledged {link = link} output p here waiting) =
      acknowledged_holds m w lawful h (link_index link) output p here waiting

  pub event_holds : (e : Event) → IsEvent e → IsLawful m (happens m w e) → Holds m (happens m w e)
  event_holds e is next = happened_holds is next (turn_happens m w e)
