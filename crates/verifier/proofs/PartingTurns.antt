-- A process starts a branch, or ends as a branch or as the opener of a PAR: no fault comes, and the invariant holds
-- afterwards.
use Rattle.std.proofs.Common.{◌≡◌, ℕ, ◌+◌, true, length, Option, Some, None, refl, sym, ap, subst}
use Rattle.module_format.specs.Contents.{Contents}
use Rattle.module_format.specs.Keeping.{Keeps as IsKept}
use Rattle.machine_state.specs.declared.process.Condition.TheVariants.{Ready}
use Rattle.machine_state.specs.declared.process.Task.{Task}
use Rattle.machine_state.specs.Endings.{TurnsInto, at_fault, has_run, has_emitted}
use Rattle.machine_state.specs.Holding.{Holding, nothing, may_read}
use Rattle.machine_state.specs.declared.process.Exchange.{Exchange}
use Rattle.machine_state.specs.Site.{Local, Outcome, sends}
use Rattle.machine_state.specs.Turn.{Turn, at_here}
use Rattle.machine_state.specs.World.{World, Role, held}
use Rattle.states.specs.declared.known.Mode.TheVariants as states_modes
use Rattle.rulings.specs.Fitting.{Situation}
use Rattle.rulings.specs.Guarding.{HasSelected}
use Rattle.rulings.specs.Meaning.{IsWellFormed}
use Rattle.states.specs.declared.rule.Rule.{Rule}
use Rattle.rulings.specs.Rulings.{Ruling, breaks}
use Rattle.start_laws.specs.Starting.{StartFits, start_breaks}
use Rattle.start_laws.specs.Ending.{EndFits, end_breaks}
use Rattle.facts.specs.Rules.{rule_at}
use Rattle.certified_worlds.specs.Certified.{IsCertified}
use Rattle.certified_worlds.specs.Invariant.{Holds}
use Rattle.certified_worlds.specs.Point.{Decodes, MeetsPoint, Point}
use Rattle.certified_worlds.proofs.EndsHold.{end_holds, end_passes}
use Rattle.certified_worlds.proofs.OrderlyWorlds.{IsOrderly, IsAtLastByte}
use Rattle.certified_worlds.proofs.StartsHold.{start_holds, start_passes}
use Rattle.certified_worlds.proofs.Steps.{here_of, reaches_behind, unbroken}
use Rattle.verifier.proofs.LawfulWorlds.{IsLawful}
use Rattle.verifier.proofs.Tables.{Living, row_of}

-- what the laws of every module say is what proofs of starts and ends read
pub orderly : {m : Contents} {w : World} → IsLawful m w → IsOrderly m w
orderly {m} {w} lawful = record {
  holders = lawful.stands.holders;
  apart = lawful.apart;
  branches = lawful.branches;
  starters = lawful.starters;
  as_many = lawful.sizes;
  cells = lawful.stands.size;
  inside = λ p role here place reads. lawful.inside.holdings p place
      (subst (λ (g : Holding). may_read g place ≡ true)
      (sym (ap (λ (o : Option Role). elim o [ None ↦ nothing | Some role ↦ held role ]) here)) reads);
  free = lawful.free;
  enabled = lawful.enabled;
}

module _ (m : Contents) (d : Decodes m) (wf : IsWellFormed m) (kept : IsKept m) (c : IsCertified m) (w : World)
    (lawful : IsLawful m w) (h : Holds m w) (p : ℕ) (t : Task) (ready : t.condition ≡ Ready)
    (r : Living m w h p t) (pick : ℕ) (last : r.lives.point.taken + 1 ≡ r.lives.point.instr.len)
    (meets : MeetsPoint m t (held (row_of r).role) (row_of r).start r.lives.point w.memory)
    (selected : r.lives.point.state.mode ≡ states_modes.Disabling (length r.lives.point.state.guards)
    → HasSelected t.mode r.lives.point.state.guards) where
  abbrev point : Point m t
  point = r.lives.point

  abbrev x : Situation
  x = here_of m d wf c (held (row_of r).role) point.act w.memory t point.state point.instr

  abbrev local : Local
  local = record { registers = t.registers; memory = w.memory }

  abbrev ruling : Ruling
  ruling = rule_at m t.registers.began point.instr point.state

  abbrev at_last : IsAtLastByte m w h p t
  at_last = record { here = r.here; ready = ready; lives = r.lives; is = r.is; last = last }

  whole : (v : Rule) → ruling ≡ breaks v → ⊥
  whole = unbroken m d wf c kept (held (row_of r).role) (row_of r).start w.memory t point meets selected

  -- neither sends anything
  no_start_sends : {r : Ruling} {e : Exchange} {l : Local} → ((v : Rule) → r ≡ breaks v → ⊥)
      → StartFits x point.state local r (sends e l) → ⊥
  no_start_sends unbroken (start_breaks {broken = v}) = unbroken v refl

  no_end_sends : {r : Ruling} {e : Exchange} {l : Local} → ((v : Rule) → r ≡ breaks v → ⊥)
      → EndFits x point.state local r (sends e l) → ⊥
  no_end_sends unbroken (end_breaks {broken = v}) = unbroken v refl

  pub started_holds : {o : Outcome} {turn : Turn} → StartFits x point.state local ruling o
      → TurnsInto (at_here m p t pick) w o turn → Holds m turn.world
  started_holds fits (at_fault refused) =
      absurd (start_passes m d wf kept c w h (orderly lawful) p t at_last pick whole
      (reaches_behind m d wf c kept (held (row_of r).role) (row_of r).start w.memory t point meets selected) fits
      refused)
  started_holds fits (has_run moved) =
      start_holds m d wf kept c w h (orderly lawful) p t at_last pick whole
      (reaches_behind m d wf c kept (held (row_of r).role) (row_of r).start w.memory t point meets selected) fits moved
  started_holds fits (has_emitted e l k to same) = absurd (no_start_sends whole fits)

  pub ended_holds : {o : Outcome} {turn : Turn} → EndFits x point.state local ruling o → IsLawful m turn.world
      → TurnsInto (at_here m p t pick) w o turn → Holds m turn.world
  ended_holds fits next (at_fault refused) =
      absurd (end_passes m d wf c w h (orderly lawful) p t at_last pick whole fits refused)
  ended_holds fits next (has_run moved) =
      end_holds m d wf c w h (orderly lawful) p t at_last pick whole fits moved next.stands.holders
  ended_holds fits next (has_emitted e l k to same) = absurd (no_end_sends whole fits)
