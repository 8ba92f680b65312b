-- Who runs, who waits for a turn, and who waits on a link.
use Rattle.std.specs.Prelude.{◌≡◌, ◌≢◌, ℕ, ◌+◌, ◌%◌, ◌^◌, ◌<◌, ◌==◌, ◌⊎◌, Bool, true, List, [], ◌∷◌, Option, Some, None}
use Rattle.std.specs.Prelude.{slice_get}
use Rattle.std.specs.List.{list_any}
use Rattle.module_format.specs.Contents.{Contents}
use Rattle.machine_state.specs.declared.event.Event.{Event}
use Rattle.machine_state.specs.declared.process.Task.{Task}
use Rattle.machine_state.specs.declared.process.Exchange.{Exchange}
use Rattle.machine_state.specs.declared.process.Mode.TheVariants.{Starting}
use Rattle.machine_state.specs.declared.process.Condition.TheVariants.{Ready, OnLink, Ended}
use Rattle.machine_state.specs.declared.link.InputLink.{InputLink}
use Rattle.machine_state.specs.declared.link.OutputLink.{OutputLink}
use Rattle.machine_state.specs.declared.link.Link.{Link}
use Rattle.machine_state.specs.Memory.{place_of}
use Rattle.machine_state.specs.Moves.{link_index}
use Rattle.machine_state.specs.World.{World, Role, Join, Queue, Links, input_word, output_word}
use Rattle.machine_state.specs.Happens.{world_after}
use Rattle.machine_state.specs.Writing.{wanted_on}

-- ---- the line: who runs, in front of those who wait for their turn

pub record IsReadyAt (tasks : List Task) (p : ℕ) : Type 0 where
  pub task : Task
  pub here : slice_get tasks p ≡ Some task
  pub ready : task.condition ≡ Ready

abbrev pub AllReady : List Task → List ℕ → Type 0
AllReady tasks [] = Unit {0}
AllReady tasks (p ∷ ps) = IsReadyAt tasks p × AllReady tasks ps

abbrev pub IsAbsent : ℕ → List ℕ → Type 0
IsAbsent p [] = Unit {0}
IsAbsent p (q ∷ qs) = (p ≢ q) × IsAbsent p qs

abbrev pub AllDiffer : List ℕ → Type 0
AllDiffer [] = Unit {0}
AllDiffer (p ∷ ps) = IsAbsent p ps × AllDiffer ps

abbrev pub line_of : Option ℕ → List ℕ → List ℕ
line_of None ready = ready
line_of (Some p) ready = p ∷ ready

abbrev pub line : Queue → List ℕ
line queue = line_of queue.running queue.ready

-- each is ready, and none is there twice
pub record Line (tasks : List Task) (queue : Queue) : Type 0 where
  pub ready : AllReady tasks (line queue)
  pub once : AllDiffer (line queue)

-- ---- links

-- a process waits on the link with this word, for a byte more
pub record WaitsOn (tasks : List Task) (p word : ℕ) : Type 0 where
  pub task : Task
  pub here : slice_get tasks p ≡ Some task
  pub exchange : Exchange
  pub done : ℕ
  pub waits : task.condition ≡ OnLink exchange done
  pub on : exchange.channel ≡ word
  pub more : done < exchange.length

pub record Waiters (tasks : List Task) (links : Links) : Type 0 where
  pub inputs : (k : ℕ) (l : InputLink) (p : ℕ) → slice_get links.inputs k ≡ Some l → l.waiting ≡ Some p
      → WaitsOn tasks p (input_word k)
  pub outputs : (k : ℕ) (l : OutputLink) (p : ℕ) → slice_get links.outputs k ≡ Some l → l.waiting ≡ Some p
      → WaitsOn tasks p (output_word k)

-- ---- branches

pub record IsOver (tasks : List Task) (p : ℕ) : Type 0 where
  pub task : Task
  pub here : slice_get tasks p ≡ Some task
  pub over : task.condition ≡ Ended

abbrev pub is_member : List ℕ → ℕ → Bool
is_member members p = list_any (λ q. q == p) members

-- who has a join open is one of its members, or has done its own endp
abbrev pub Opens : List Task → ℕ → Join → Type 0
Opens tasks p j = (is_member j.members p ≡ true) ⊎ IsOver tasks p

-- a process with this role is over for good
abbrev pub IsGone : List Task → Role → ℕ → Type 0
IsGone tasks r p = (r.opened ≡ None) × IsOver tasks p

-- the join that its opener has open counts it
pub record IsCounted (roles : List Role) (opener p : ℕ) : Type 0 where
  pub role : Role
  pub here : slice_get roles opener ≡ Some role
  pub join : Join
  pub is_open : role.opened ≡ Some join
  pub member : is_member join.members p ≡ true

pub record Branches (tasks : List Task) (roles : List Role) : Type 0 where
  pub joins : (p : ℕ) (r : Role) (j : Join) → slice_get roles p ≡ Some r → r.opened ≡ Some j → Opens tasks p j
  pub counted : (p : ℕ) (r : Role) (o : ℕ) → slice_get roles p ≡ Some r → r.opener ≡ Some o
      → IsGone tasks r p ⊎ IsCounted roles o p

-- ---- starts of branches

-- a process starts branches, and is ready
pub record IsStarting (tasks : List Task) (p : ℕ) : Type 0 where
  pub task : Task
  pub here : slice_get tasks p ≡ Some task
  pub starting : task.mode ≡ Starting
  pub ready : task.condition ≡ Ready

pub record HasOpened (roles : List Role) (p : ℕ) : Type 0 where
  pub role : Role
  pub here : slice_get roles p ≡ Some role
  pub join : Join
  pub is_open : role.opened ≡ Some join

-- a process that has a join open is starting branches, or has done its own endp; no other one is in the mode of a start
pub record Starters (tasks : List Task) (roles : List Role) : Type 0 where
  pub openers : (p : ℕ) → HasOpened roles p → IsStarting tasks p ⊎ IsOver tasks p
  pub starters : (p : ℕ) (task : Task) → slice_get tasks p ≡ Some task → task.mode ≡ Starting → HasOpened roles p

-- ---- of every world that a list of events leads to

abbrev pub BranchesAreCounted : Type 0
BranchesAreCounted = (m : Contents) (es : List Event)
    → Branches (world_after m es).tasks (world_after m es).roles

abbrev pub OpenersAreStarting : Type 0
OpenersAreStarting = (m : Contents) (es : List Event)
    → Starters (world_after m es).tasks (world_after m es).roles

abbrev pub LinesAreReady : Type 0
LinesAreReady = (m : Contents) (es : List Event)
    → Line (world_after m es).tasks (world_after m es).queue

-- the place of a byte of the buffer of the process that waits on the input link of this number
pub record IsAwaited (w : World) (k place : ℕ) : Type 0 where
  pub link : InputLink
  pub here : slice_get w.links.inputs k ≡ Some link
  pub process : ℕ
  pub waiting : link.waiting ≡ Some process
  pub waits : WaitsOn w.tasks process (input_word k)
  pub is : place ≡ place_of ((waits.exchange.address + waits.done) % 2 ^ 32)

-- what an arrival may change is in the buffer of the process that waits there
abbrev pub ArrivalsFillBuffers : Type 0
ArrivalsFillBuffers = (m : Contents) (es : List Event) (link : Link) (place : ℕ)
    → wanted_on (world_after m es) link ≡ Some place
    → IsAwaited (world_after m es) (link_index link) place

abbrev pub LinksHaveTheirWaiters : Type 0
LinksHaveTheirWaiters = (m : Contents) (es : List Event)
    → Waiters (world_after m es).tasks (world_after m es).links
