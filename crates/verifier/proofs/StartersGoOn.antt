-- A process that starts branches goes on between two starts, and the invariant holds then.
use Rattle.std.proofs.Common.{◌≡◌, ℕ, suc, ◌+◌, ◌≤◌, true, false, ℤ, [], ◌∷◌, ◌++◌, length}
use Rattle.std.proofs.Common.{Option, Some, None, refl, sym, ap, ◌∙◌, subst, arith, drop}
use Rattle.std.specs.Prelude.{slice_get, slice_set}
use Rattle.prefix_decoder.specs.declared.function.Fun.{Fun}
use Rattle.prefix_decoder.specs.Functions.{fun_of, function_code, nibble}
use Rattle.prefix_decoder.specs.Operand.{with_nibble, after_prefix}
use Rattle.module_format.specs.Contents.{Contents, Par}
use Rattle.machine_state.specs.declared.process.Condition.{Condition}
use Rattle.machine_state.specs.declared.process.Condition.TheVariants.{Ready}
use Rattle.machine_state.specs.declared.process.Mode as machine
use Rattle.machine_state.specs.declared.process.Mode.TheVariants as machine_modes
use Rattle.machine_state.specs.declared.process.Task.{Task}
use Rattle.machine_state.specs.Endings.{TurnsInto, at_fault, has_run, it_goes, it_jumps, it_is_sliced, it_lands}
use Rattle.machine_state.specs.Endings.{no_code_follows, local_here}
use Rattle.machine_state.specs.Happens.{site_of}
use Rattle.machine_state.specs.Holding.{Holding, nothing}
use Rattle.machine_state.specs.LocalStep.{local_step}
use Rattle.machine_state.specs.Memory.{Memory}
use Rattle.machine_state.specs.Moves.{counted, dispatch, picked}
use Rattle.machine_state.specs.Site.{Local, Outcome, goes, jumps, lands}
use Rattle.machine_state.specs.Turn.{Turn, at_here, between, continued}
use Rattle.machine_state.specs.World.{World, Queue, Role, Join, held}
use Rattle.states.specs.declared.known.Mode.TheVariants as states_modes
use Rattle.states.specs.State.{State}
use Rattle.rulings.specs.Fitting.{After, GoesTo, Situation, goes_behind, is_jump, is_landing}
use Rattle.rulings.specs.Guarding.{HasSelected}
use Rattle.rulings.specs.Meaning.{Activation, IsWellFormed}
use Rattle.rulings.proofs.Within.{is_starting}
use Rattle.facts.specs.Rules.{rule_at}
use Rattle.certified_worlds.specs.Certified.{IsCertified, Reaches, follows}
use Rattle.certified_worlds.specs.Lives.{awaits}
use Rattle.certified_worlds.specs.Pending.{IsStarter}
use Rattle.certified_worlds.specs.Point.{Decodes, MeetsPoint, Point}
use Rattle.certified_worlds.specs.Invariant.{Holds}
use Rattle.certified_worlds.proofs.LivesAs.{LivesAs}
use Rattle.certified_worlds.proofs.Steps.{here_of, site_in, task_at}
use Rattle.verifier.proofs.AmongStarts.{FallsOn, falls_among_starts, pays_among_starts, starting_state}
use Rattle.verifier.proofs.LawfulWorlds.{IsLawful}
use Rattle.verifier.proofs.OthersGuards.{enabled_same, ready_is_silent}
use Rattle.verifier.proofs.Prefixes.{prefixed, prefixed_lives, puts_prefixed, some_owed, world_prefixed}
use Rattle.verifier.proofs.SharedOut.{shared_out}
use Rattle.module_format.specs.Keeping.{Keeps as IsKept}
use Rattle.machine_state.specs.Instructions.{instruction_of}
use Rattle.states.specs.declared.rule.Rule.{Rule}
use Rattle.rulings.specs.Fitting.{Fits, rule_site}
use Rattle.rulings.specs.Rulings.{Ruling, breaks}
use Rattle.start_laws.specs.Starting.{StartFits, to_start_next, to_start_first, start_breaks}
use Rattle.start_laws.specs.Ending.{EndFits, to_end_own, to_end_branch, end_breaks}
use Rattle.facts.specs.Rules.{has_pars}
use Rattle.facts.specs.RulesFit.{FitsStep, it_starts, it_joins, it_fits}
use Rattle.certified_worlds.proofs.StartsLive.{owed_among, starter_lives}
use Rattle.certified_worlds.proofs.Steps.{last_fits, longer, point_fits, unbroken}
use Rattle.verifier.proofs.PartingTurns as parting
use Rattle.verifier.proofs.Tables.{row_of}
use Rattle.verifier.proofs.Tables.{Allows, Living, channels_equal, holds_put_starting, nothing_changes}

-- ---- a process among starts

-- it goes on at this offset
data OnTo (at : ℕ) (l : Local) : Outcome → Type 0 where
  on_behind : OnTo at l (goes l)
  on_jump : OnTo at l (jumps at l)
  on_landing : OnTo at l (lands at l)

on_to : {x : Situation} {o : Outcome} {to : ℕ} {l : Local} → GoesTo x o to l → OnTo to l o
on_to goes_behind = on_behind
on_to is_jump = on_jump
on_to is_landing = on_landing

-- Among the same starts, in the same activation.
starter_on : {m : Contents} {t u : Task} (point : Point m t) (next : Point m u) → next.state.mode ≡ point.state.mode
    → next.state.context ≡ point.state.context → next.state.depth ≡ point.state.depth → next.act ≡ point.act
    → u.condition ≡ Ready → (par : Par) (j : Join) (act : Activation) → IsStarter m t point par j act
    → IsStarter m u next par j act
starter_on point next mode context depth same ready par j act starter = record {
  ready = ready;
  mode = mode ∙ starter.mode;
  context = context ∙ starter.context;
  depth = depth ∙ starter.depth;
  origin = ap (λ (a : Activation). a.layout.origin) same ∙ starter.origin;
  starts = λ n. ap (λ (a : Activation). a.layout.starts n) same ∙ starter.starts n;
  back = ap (λ (a : Activation). a.layout.back) same ∙ starter.back;
}

module _ (m : Contents) (d : Decodes m) (wf : IsWellFormed m) (kept : IsKept m) (c : IsCertified m) where
  module _ (w : World) (lawful : IsLawful m w) (h : Holds m w) (p : ℕ) (t : Task) (ready : t.condition ≡ Ready)
      (starting : t.mode ≡ machine_modes.Starting) (r : Living m w h p t) where
    abbrev point : Point m t
    point = r.lives.point

    meets_now : MeetsPoint m t (held (row_of r).role) (row_of r).start point w.memory
    meets_now = r.lives.claim w.memory refl (λ place e none. refl) (λ place e.
        let no' : true ≡ false = sym e ∙ ap (λ c. awaits c place) ready in absurd (cc))

    abbrev x : Situation
    x = here_of m d wf c (held (row_of r).role) point.act w.memory t point.state point.instr

    mode_is : (row : ℕ) × (started : ℕ) × (point.state.mode ≡ states_modes.Starting row started)
    mode_is = starting_state meets_now.here.same_mode starting

    among : is_starting point.state.mode ≡ true
    among = ap is_starting mode_is.2

    selected : point.state.mode ≡ states_modes.Disabling (length point.state.guards)
        → HasSelected t.mode point.state.guards
    selected is = let no' : false ≡ true = sym (ap is_starting is) ∙ among in absurd (cc)

    -- the rule at its point
    abbrev ruling : Ruling
    ruling = rule_at m t.registers.began point.instr point.state

    ruling_holds : (v : Rule) → ruling ≡ breaks v → ⊥
    ruling_holds = unbroken m d wf c kept (held (row_of r).role) (row_of r).start w.memory t point meets_now selected

    owes_number : (row_of r).due + point.taken ≡ point.state.number
    owes_number = r.lives.paid
        ∙ owed_among point.state.mode mode_is.0 mode_is.1 point.state point.act point.callers mode_is.2

    -- the number pays each byte of the instruction
    number_pays : point.instr.len ≤ point.state.number
    number_pays = on (point_fits m d wf c kept (held (row_of r).role) (row_of r).start w.memory t point meets_now
        selected) ruling_holds
      where
        starts_pay : {ruling : Ruling} {o : Outcome} → StartFits x point.state (local_here t w) ruling o
            → ((v : Rule) → ruling ≡ breaks v → ⊥) → point.instr.len ≤ point.state.number
        starts_pay (to_start_next found b n) whole = let paid = n.paid in omega arith
        starts_pay (to_start_first found b n) whole =
            let no' : machine_modes.Starting ≡ machine_modes.Plain = sym starting ∙ n.machine_mode in absurd (cc)
        starts_pay (start_breaks {broken = v}) whole = absurd (whole v refl)

        ends_pay : {ruling : Ruling} {o : Outcome} → EndFits x point.state (local_here t w) ruling o
            → ((v : Rule) → ruling ≡ breaks v → ⊥) → point.instr.len ≤ point.state.number
        ends_pay (to_end_own par all pays) whole = pays
        ends_pay (to_end_branch par leaves pays) whole = pays
        ends_pay (end_breaks {broken = v}) whole = absurd (whole v refl)

        on : {o : Outcome} → FitsStep x point.state (local_here t w)
            (instruction_of point.instr.fun point.instr.operand) ruling o
            → ((v : Rule) → ruling ≡ breaks v → ⊥) → point.instr.len ≤ point.state.number
        on (it_starts fits) whole = starts_pay fits whole
        on (it_joins fits) whole = ends_pay fits whole
        on (it_fits none fits) whole =
            let falls_on = falls_among_starts x starting meets_now.here.same_mode fits whole in
            let pays = pays_among_starts (rule_site x) point.state among point.instr.fun point.instr.operand none
            falls_on.state falls_on.falls in omega (arith, pays)

    one_owed : (due : ℕ) × ((row_of r).due ≡ suc due)
    one_owed = some_owed (row_of r).due
        (let more = longer point.reading.fuel (drop t.registers.at m.code) t.registers.operand point.taken point.instr
        point.reading.rest in
        let pays = number_pays in omega (arith, more, owes_number, pays))

    -- ---- an instruction that is none of PARs

    module _ {o : Outcome} (none : has_pars (instruction_of point.instr.fun point.instr.operand) ≡ false)
        (fits : Fits x ruling o) (last : point.taken + 1 ≡ point.instr.len) where
      falls_on : FallsOn x ruling o
      falls_on = falls_among_starts x starting meets_now.here.same_mode fits ruling_holds

      -- the state that falls, and what is left of memory: nothing has changed
      abbrev next : State
      next = falls_on.state

      abbrev new : Local
      new = falls_on.new

      pays : next.number + point.instr.len ≤ point.state.number
      pays = pays_among_starts (rule_site x) point.state among point.instr.fun point.instr.operand none next
          falls_on.falls

      behind : t.registers.began + point.instr.len ≡ t.registers.at + 1
      behind = omega (arith, point.reading.at_is, last)

      -- where it goes on, at which there is no label
      goes_lives : LivesAs m (held (row_of r).role) (row_of r).start new.memory
          (task_at m t t.mode (t.registers.at + 1) new) next.number next point.act
      goes_lives =
          let reached : Reaches m (t.registers.began + point.instr.len) (Some next) =
          follows point.reached point.stands point.reading.spelled refl (sym falls_on.falls) in
          let lives = starter_lives m d wf c (held (row_of r).role) (row_of r).start point.act
          (t.registers.began + point.instr.len) next new point.callers mode_is.0 mode_is.1
          (falls_on.stays.mode ∙ mode_is.2) reached falls_on.low
          (subst (λ (q : machine.Mode). After m (held (row_of r).role) q point.act next new) starting falls_on.after) in
          subst (λ (n : ℕ). LivesAs m (held (row_of r).role) (row_of r).start new.memory (task_at m t t.mode n new)
          next.number next point.act) behind
          (subst (λ (q : machine.Mode). LivesAs m (held (row_of r).role) (row_of r).start new.memory
          (task_at m t q (t.registers.began + point.instr.len) new) next.number next point.act) (sym starting) lives)

      goes_on : (queue : Queue)
          → Holds m (record (counted (continued (at_here m p t 0) (t.registers.at + 1) new w)) { queue = queue })
      goes_on queue =
          holds_put_starting m w h (shared_out lawful) p t r after u new.memory next.number (record {
            tasks = ap (λ (c : Condition). slice_set w.tasks p (record {
              registers = between (t.registers.at + 1) new.registers;
              mode = t.mode;
              condition = c;
            })) ready;
            memory = refl;
            roles = refl;
            channels = channels_equal refl;
            kept = h.kept;
            fault = refl;
          }) (enabled_same refl refl (ready_is_silent w p t ready))
          (subst (λ (memory : Memory). Allows r.lives w.memory memory) (sym falls_on.stays.memory) nothing_changes)
          (omega (arith, last, pays, owes_number)) starting falls_on.stays.memory lives.lives
          (starter_on point lives.lives.point (ap (λ (s : State). s.mode) lives.state_is ∙ falls_on.stays.mode)
          (ap (λ (s : State). s.context) lives.state_is ∙ falls_on.same)
          (ap (λ (s : State). s.depth) lives.state_is ∙ falls_on.stays.depth) lives.act_is refl)
        where
          after : World
          after = record (counted (continued (at_here m p t 0) (t.registers.at + 1) new w)) { queue = queue }

          u : Task
          u = task_at m t t.mode (t.registers.at + 1) new

          lives : LivesAs m (held (row_of r).role) (row_of r).start new.memory u next.number next point.act
          lives = goes_lives

      ended_on : (pick : ℕ) {q : Outcome} {turn : Turn} → OnTo (t.registers.at + 1) new q
          → TurnsInto (at_here m p t pick) w q turn → Holds m turn.world
      unfolding dispatch
      ended_on pick on_behind (has_run (it_goes l)) = goes_on w.queue
      ended_on pick on_jump (has_run (it_jumps to l)) = goes_on w.queue
      ended_on pick on_jump (has_run (it_is_sliced to l)) =
          goes_on (picked pick (record { running = None; ready = w.queue.ready ++ p ∷ [] }))
      ended_on pick on_landing (has_run (it_lands to l)) = goes_on w.queue
      ended_on pick on_behind (at_fault (no_code_follows needs none)) = elim needs [ ]
      ended_on pick on_jump (at_fault (no_code_follows needs none)) = elim needs [ ]
      ended_on pick on_landing (at_fault (no_code_follows needs none)) = elim needs [ ]

      pub goes_among : (pick : ℕ) {turn : Turn} → TurnsInto (at_here m p t pick) w o turn → Holds m turn.world
      goes_among pick ends =
          ended_on pick (subst (λ (n : ℕ). OnTo n new o) behind (on_to falls_on.goes)) ends

    -- the byte that completes an instruction
    pub starter_step_holds : (pick byte : ℕ) (f : Fun) {turn : Turn} → IsLawful m turn.world
        → slice_get m.code t.registers.at ≡ Some byte → fun_of (function_code byte) ≡ Some f
        → TurnsInto (at_here m p t pick) w (local_step (site_of (at_here m p t pick) w) f
        (with_nibble t.registers.operand (nibble byte)) (local_here t w)) turn → Holds m turn.world
    starter_step_holds pick byte f {turn} next here is ends =
        let fits = last_fits m d wf c kept (held (row_of r).role) (row_of r).start w.memory t point meets_now selected
        byte f here is in
        on fits.0 (subst (λ (g : Holding). FitsStep x point.state (local_here t w)
        (instruction_of point.instr.fun point.instr.operand) ruling (local_step
        (site_in m (t.registers.at + 1) t.mode g) f (with_nibble t.registers.operand (nibble byte)) (local_here t w)))
        (sym (ap (λ (o : Option Role). elim o [ None ↦ nothing | Some role ↦ held role ]) (row_of r).has_role)) fits.1)
        ends
      where
        on : {o : Outcome} → point.taken + 1 ≡ point.instr.len
            → FitsStep x point.state (local_here t w) (instruction_of point.instr.fun point.instr.operand) ruling o
            → TurnsInto (at_here m p t pick) w o turn → Holds m turn.world
        on last (it_fits none fits) ends = goes_among none fits last pick ends
        on last (it_starts fits) ends = parting.started_holds m d wf kept c w lawful h p t ready r pick last
            meets_now selected fits ends
        on last (it_joins fits) ends = parting.ended_holds m d wf kept c w lawful h p t ready r pick last
            meets_now selected fits next ends

    -- a prefix
    pub starter_prefix_holds : (byte : ℕ) (operand : ℤ) → slice_get m.code t.registers.at ≡ Some byte
        → fun_of (function_code byte) ≡ None
        → after_prefix (function_code byte) (with_nibble t.registers.operand (nibble byte)) ≡ operand
        → Holds m (world_prefixed p t operand w)
    starter_prefix_holds byte operand here none is =
        let one = one_owed in
        let lives = prefixed_lives m w h p t r byte operand here none is one.0 one.1 in
        holds_put_starting m w h (shared_out lawful) p t r (world_prefixed p t operand w) (prefixed t operand) w.memory
        one.0 (puts_prefixed m w h p t operand) (enabled_same refl refl (ready_is_silent w p t ready)) nothing_changes
        (let due = one.1 in omega (arith, due)) starting refl lives.lives
        (starter_on point lives.lives.point (ap (λ (s : State). s.mode) lives.state_is)
        (ap (λ (s : State). s.context) lives.state_is) (ap (λ (s : State). s.depth) lives.state_is) lives.act_is ready)
