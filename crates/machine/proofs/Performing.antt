-- What an instruction asks of others is posed rightly, and once its own part is done, the rest of its turn is the
-- whole.
use Rattle.std.proofs.Common.{◌≡◌, ℤ, Bool, true, false, Result, Ok, Err, subst, sym, ◌∙◌}
use Rattle.prefix_decoder.specs.declared.function.Fun.{Fun}
use Rattle.machine_state.specs.declared.cpu.Cpu.{Cpu}
use Rattle.machine_state.specs.declared.cpu.Flow.{Flow}
use Rattle.machine_state.specs.declared.cpu.Flow.TheVariants.{Next, Jump, Land, Stop as Stops, Ask}
use Rattle.machine_state.specs.declared.process.Registers.{Registers}
use Rattle.machine_state.specs.declared.store.LoadStore.{Ghosts}
use Rattle.machine_state.specs.Memory.{Memory}
use Rattle.machine_state.specs.Site.{Site, Outcome}
use Rattle.machine_state.specs.Asking.{IsGrantable}
use Rattle.machine_state.specs.Performing.{PerformsFunction, site_of as site_on}
use Rattle.machine_state.specs.World.{World, holding_at}
use Rattle.machine_state.specs.Happens.{Here, Turn, settled, site_of}
use Rattle.traffic.specs.declared.stop.Stop.{Stop}
use Rattle.traffic.specs.declared.stop.Stop.TheVariants as stops
use Rattle.traffic.specs.Moment.{Moment}
use Rattle.traffic.specs.Settling.{OnMemory}
use Rattle.machine.specs.declared.checked.act.Act.{Act}
use Rattle.machine.specs.Allocating.{outcome_may_allocate}
use Rattle.machine.specs.Applying.{Applies, AsksRightly, outcome_of, world_of}

pub asks_rightly : {S : Type 0} (ghosts : Ghosts S) (before after : Cpu S) (flow : Flow) (f : Fun) (operand : ℤ)
    (h : Here) (m : Moment) → PerformsFunction ghosts f operand before after (Ok flow)
    → site_on ghosts before ≡ site_of h m.world → m.world.memory ≡ ghosts.cells after.store
    → m.holding ≡ holding_at m.world.roles h.process → AsksRightly h flow after.registers m
asks_rightly ghosts before after (Ask request) f operand h m performs site memory holding =
    let asks = performs.performed in
    record {
      grantable =
          subst (λ (cells : Memory). IsGrantable request (site_of h m.world) after.registers cells)
          (sym (memory ∙ asks.memory))
          (subst (λ (s : Site). IsGrantable request s after.registers (ghosts.cells before.store)) site asks.grantable);
      holding = holding;
    }
asks_rightly ghosts before after flow f operand h m performs site memory holding = tt

-- where memory has not run out, it does not matter what was in memory before
whatever_memory : (w : World) (m : Memory) (after : World) (result : Result Act Stop) (t : Turn)
    → OnMemory result (false ≡ true) → Applies (record w { memory = m }) after result t → Applies w after result t
whatever_memory w m after (Ok act) t none applies = applies
whatever_memory w m after (Err (stops.Fault f)) t none applies = applies
whatever_memory w m after (Err stops.Memory) t none applies = let never : false ≡ true = none in absurd (cc)

-- where memory cannot run out, nothing has to be shown of that
pub without_memory : {A : Type 0} (result : Result A Stop) (P : Type 0) → OnMemory result ⊥ → OnMemory result P
without_memory (Ok answer) P none = none
without_memory (Err (stops.Fault f)) P none = none
without_memory (Err stops.Memory) P none = absurd none

module _ (h : Here) (slice : Bool) (before between after : World) (registers : Registers) (o : Outcome)
    (result : Result Act Stop) where
  -- the rest of a turn is applied to the world between
  abbrev Rest : Flow → World → Type 0
  Rest flow w = Applies w after result (settled h slice (outcome_of flow registers between.memory) w)

  local_part : (flow : Flow) → between ≡ record before { memory = between.memory }
      → Rest flow between → Rest flow (record before { memory = between.memory })
  local_part flow world rest = subst (Rest flow) world rest

  -- where memory has run out, the outcome may allocate in this world
  abbrev Allocates : Outcome → World → Type 0
  Allocates outcome w = OnMemory result (outcome_may_allocate outcome w ≡ true)

  pub rest_is_whole : (flow : Flow) → o ≡ outcome_of flow registers between.memory
      → between ≡ world_of flow before between.memory → Allocates (outcome_of flow registers between.memory) between
      → Rest flow between → Applies before after result (settled h slice o before)
  rest_is_whole Next is world none rest =
      rw is (whatever_memory before between.memory after result _ none (local_part Next world rest))
  rest_is_whole (Jump to) is world none rest =
      rw is (whatever_memory before between.memory after result _ none (local_part (Jump to) world rest))
  rest_is_whole (Land to) is world none rest =
      rw is (whatever_memory before between.memory after result _ none (local_part (Land to) world rest))
  rest_is_whole Stops is world none rest =
      rw is (whatever_memory before between.memory after result _ none (local_part Stops world rest))
  rest_is_whole (Ask request) is world none rest = rw is (subst (Rest (Ask request)) world rest)

  pub whole_allocates : (flow : Flow) → o ≡ outcome_of flow registers between.memory
      → between ≡ world_of flow before between.memory → Allocates (outcome_of flow registers between.memory) between
      → Allocates o before
  whole_allocates Next is world allocates = rw is allocates
  whole_allocates (Jump to) is world allocates = rw is allocates
  whole_allocates (Land to) is world allocates = rw is allocates
  whole_allocates Stops is world allocates = rw is allocates
  whole_allocates (Ask request) is world allocates =
      rw is (subst (Allocates (outcome_of (Ask request) registers between.memory)) world allocates)
