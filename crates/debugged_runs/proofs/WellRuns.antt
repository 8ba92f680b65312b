-- A module that runs well, on the machine that checks each rule.
use Rattle.std.proofs.Common.{◌≡◌, ◌<◌, ◌≤◌, ℕ, Bool, true, if◌then◌else◌, List, [], ◌∷◌, ◌++◌}
use Rattle.std.proofs.Common.{Option, Some, None, refl, sym, ap, subst, ◌∙◌, arith, inl, inr}
use Rattle.std.proofs.Common.{min, option_and_then, unwrap_or}
use Rattle.std.proofs.lemmas.Bool.{cases_lt}
use Rattle.std.proofs.lemmas.Grind.{not_there}
use Rattle.std.proofs.lemmas.Option.{none-some}
use Rattle.module_format.specs.Contents.{Contents}
use Rattle.module_format.specs.declared.limits.TheConstants.{MAX_BUDGET}
use Rattle.module_format.specs.declared.tables.Version.TheVariants.{Two}
use Rattle.module_format.proofs.FileLaws.{one_contents}
use Rattle.machine_state.specs.declared.event.Event.{Event}
use Rattle.machine_state.specs.declared.fault.Fault.{Fault}
use Rattle.machine_state.specs.declared.link.Link.{Link}
use Rattle.machine_state.specs.Happens.{Turn, most_executed, world_after}
use Rattle.machine_state.specs.World.{World, loaded}
use Rattle.machine_state.proofs.EventLaws.{faults_stay}
use Rattle.machine_state.proofs.EveryWorld.{run_further}
use Rattle.link_runs.specs.ByLink.{ByLink, of_link}
use Rattle.link_runs.specs.FirstInFirstOut.{Supply, RunMoment, plain_step}
use Rattle.link_runs.specs.RunLaws.{WasAsked}
use Rattle.link_runs.specs.Wanting.{is_running}
use Rattle.link_runs.proofs.FromOutside.{outside_counts_nothing}
use Rattle.link_runner.specs.AskedBytes.{CanHappen}
use Rattle.link_runner.specs.Readers.{IsReadTo, IsThere, at_link, inputs_of, supply_of}
use Rattle.link_runner.specs.Readers as readers_at
use Rattle.link_runner.proofs.AskedBytes.{all_taken_was_asked, runs_of_bytes_can_happen}
use Rattle.link_runner.proofs.AtLinks.{of_by_link}
use Rattle.machine.specs.declared.bounded.Cause.TheVariants as causes
use Rattle.machine.specs.Bounding.{BoundedExecution, HasStopped}
use Rattle.verifier.specs.Headline.{AreEvents, IsEvent, RunsWell, cost}
use Rattle.command_line.specs.Words.{Text}
use Rattle.command_line.specs.Fitting.{number_in}
use Rattle.command_line.specs.declared.links.OnLinks.{OnLinks}
use Rattle.file_runs.specs.declared.debugging.Ending.TheVariants as endings
use Rattle.file_runs.specs.Debugging.{limit_of}
use Rattle.tpm_actions.specs.Programs.{EndsAs, IsProgramOf, LinedModule, is_module, is_source}
use Rattle.debugged_runs.specs.DebuggedRuns.{NeverFaults, RunsWellIfModule, TellsNoFault, IsCutBelowBudget}
use Rattle.debugged_runs.specs.DebuggedRuns.{AsksForLess, IsCutAsAsked}
use Rattle.debugged_runs.proofs.Running.{still_runs}
use Rattle.file_access.specs.Storage.{Storage}

-- ---- where a machine has stopped of itself

module _ (m : Contents) (machine : BoundedExecution) where
  -- one that stopped at a fault is in a world at that fault
  at_fault : (w : World) (f : Fault) → IsThere m (λ v. HasStopped machine v (causes.Fault f)) w → w.fault ≡ Some f
  at_fault w f (readers_at.there stopped) = stopped.because
  at_fault w f (readers_at.behind v e outside is stopped) =
      ap (λ (u : World). u.fault) (is ∙ ap (λ (t : Turn). t.world) (faults_stay m v e f stopped.because))
      ∙ stopped.because

  -- one that stopped at its limit is in a world where a process runs, and as many bytes were executed
  record IsFull (w : World) : Type 0 where
    limit : machine.limit ≤ w.counters.executed
    runs : is_running w ≡ true

  at_limit : (w : World) → IsThere m (λ v. HasStopped machine v causes.Limit) w → IsFull w
  at_limit w (readers_at.there stopped) = record { limit = stopped.because.0; runs = stopped.because.1 }
  at_limit w (readers_at.behind v e outside is stopped) =
      let count = ap (λ (u : World). u.counters.executed) is ∙ outside_counts_nothing m v e outside in
      let low = stopped.because.0 in
      record {
        limit = omega (arith, count, low);
        runs = ap is_running is ∙ still_runs m v e outside stopped.because.1;
      }

-- ---- worlds that events lead to

-- one event more that can happen
are_more : (es : List Event) (e : Event) → AreEvents es → IsEvent e → AreEvents (es ++ e ∷ [])
are_more [] e are is = (is, tt)
are_more (x ∷ es) e are is = (are.0, are_more es e are.1 is)

module _ (m : Contents) (w : World) (events : List Event) (well : ∥ RunsWell m ∥₁) (are : AreEvents events)
    (is : w ≡ world_after m events) where
  -- nothing is at fault there
  no_fault_there : (f : Fault) → w.fault ≡ Some f → ⊥
  no_fault_there f fails = not_there well (λ run.
      none-some f (sym (ap (λ (v : World). v.fault) is ∙ (run events are).no_fault) ∙ fails))

  -- a Step of a process costs a byte
  costs_one : is_running w ≡ true → cost (world_after m events) plain_step ≡ 1
  costs_one runs = ap (λ (b : Bool). if b then 1 else 0) (ap is_running (sym is) ∙ runs)

  -- where a process runs, the budget leaves a byte
  below_budget : is_running w ≡ true → w.counters.executed < m.budget
  below_budget runs = elim (cases_lt w.counters.executed m.budget) [
    | inl below ↦ below
    | inr above ↦ absurd (not_there well (λ run.
        let next = (run (events ++ plain_step ∷ []) (are_more events plain_step are tt)).within_budget in
        let there = ap (λ (v : World). v.counters.executed) (run_further m (loaded m) events plain_step) in
        let costs = (run events are).costs plain_step tt in
        let one = costs_one runs in
        let count = ap (λ (v : World). v.counters.executed) is in
        omega (arith, above, next, there, costs, one, count)))
  ]

-- ---- what a machine was driven to

module _ {R : Type 0} (left : R → Option (List ℕ)) (m : Contents) (before after : List (Option R))
    (writers : ByLink Bool) (s : RunMoment) (reads : IsReadTo left m before after writers s) where
  -- what was taken was asked for
  was_asked : (link : Link) → WasAsked (of_link (inputs_of before reads.taken) link) (of_link reads.taken link)
      (of_link s.left link)
  was_asked link =
      subst (λ (supply : Supply). WasAsked supply (of_link reads.taken link) (of_link s.left link))
      (sym (of_by_link (λ on. supply_of (at_link before on) (of_link reads.taken on)) link))
      (all_taken_was_asked left m before after writers s reads link)

  -- so events that can happen lead to the moment
  can_happen : CanHappen m s
  can_happen = runs_of_bytes_can_happen m (inputs_of before reads.taken) writers reads.turns s reads.run
      (record { asked = reads.taken; was_asked = was_asked; are_bytes = reads.are_bytes })

  module _ (machine : BoundedExecution) (well : ∥ RunsWell m ∥₁) where
    -- a machine did not stop there at a fault
    pub never_stops_at_fault : (f : Fault) → IsThere m (λ v. HasStopped machine v (causes.Fault f)) s.world → ⊥
    never_stops_at_fault f stopped =
        no_fault_there m s.world can_happen.events well can_happen.are can_happen.world f
        (at_fault m machine s.world f stopped)

    -- and if it stopped at its limit, that is below the budget
    pub stops_below_budget : IsThere m (λ v. HasStopped machine v causes.Limit) s.world → machine.limit < m.budget
    stops_below_budget stopped =
        let full = at_limit m machine s.world stopped in
        let most = full.limit in
        let below = below_budget m s.world can_happen.events well can_happen.are can_happen.world full.runs in
        omega (arith, most, below)

-- ---- how many bytes may be executed

-- a limit that is below what a module of the format may cost is that of the machine
is_below : (limit budget : ℕ) → budget ≤ MAX_BUDGET → min limit most_executed < budget → limit < budget
is_below limit budget within below = omega (arith, within, below)

-- one below the budget is not the budget, so it was asked for
is_asked : (m : Contents) (bytes : Option Text) (number : Option ℕ) → option_and_then number_in bytes ≡ number
    → unwrap_or number m.budget < m.budget → AsksForLess m bytes
is_asked m bytes None is below = absurd (omega (arith, below))
is_asked m bytes (Some number) is below = record { number = number; asked = is; below = below }

-- ---- what is told of a run

module _ {F R W : Type 0} (storage : Storage F R W) where
  pub never_faults : NeverFaults storage
  never_faults m inputs outputs bytes before after lines fault text well debugged =
      let stops = debugged.drives.drives.1.0.drives.drives in
      never_stops_at_fault storage.left m _ _ _ stops.moment stops.comes.reads debugged.machine well fault
      stops.comes.is_shown

  -- a source is compiled to a certified module
  no_fault_in : (m : LinedModule) (bytes : List ℕ) (inputs outputs : OnLinks (Option Text)) (limit : Option Text)
      (before after : F) (fault : Fault) (text : Text)
      → RunsWellIfModule storage bytes → IsProgramOf bytes m
      → EndsAs storage inputs outputs limit before after m (endings.Faulted fault) text
      → ⊥
  no_fault_in m bytes inputs outputs limit before after fault text sound (is_module begins format none) ends =
      never_faults m.contents inputs outputs limit before after m.lines fault text (sound begins m.contents format) ends
  no_fault_in m bytes inputs outputs limit before after fault text sound (is_source file begins compiled format lines)
      ends =
      let found = compiled.generated.is_module in
      let same = one_contents file found.contents m.contents (record { version = Two; file = found.format }) format in
      never_faults m.contents inputs outputs limit before after m.lines fault text
      ∣ subst RunsWell same found.certifies.runs_well ∣₁ ends

  pub tells_no_fault : TellsNoFault storage
  tells_no_fault bytes inputs outputs limit before after fault text sound told =
      no_fault_in told.lined bytes inputs outputs limit before after fault text sound told.program told.holds

  pub is_cut_below_budget : IsCutBelowBudget storage
  is_cut_below_budget m inputs outputs bytes before after lines text well debugged =
      let stops = debugged.drives.drives.1.0.drives.drives in
      stops_below_budget storage.left m _ _ _ stops.moment stops.comes.reads debugged.machine well stops.comes.is_shown

  pub is_cut_as_asked : IsCutAsAsked storage
  is_cut_as_asked m inputs outputs bytes before after lines text file format well debugged =
      let below = is_cut_below_budget m inputs outputs bytes before after lines text well debugged in
      is_asked m bytes (option_and_then number_in bytes) refl (is_below (limit_of m bytes) m.budget
      format.file.keeps.bounds.budget (subst (λ (n : ℕ). n < m.budget) debugged.limit below))
