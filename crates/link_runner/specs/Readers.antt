-- What is taken from the readers of the input links.
use Rattle.std.specs.Prelude.{◌≡◌, ℕ, ◌+◌, ◌<◌, ◌⊎◌, ◌==◌, Bool, true, false, if◌then◌else◌, is_none, List, []}
use Rattle.std.specs.Prelude.{Option}
use Rattle.std.specs.Prelude.{Some, None, Result, Ok, Err, ⊤, slice_get}
use Rattle.std.specs.Io.KnownBytes.{Consumes, IsAtEnd}
use Rattle.module_format.specs.Contents.{Contents}
use Rattle.module_format.specs.Order.{IsBytes}
use Rattle.machine_state.specs.declared.link.Link.{Link}
use Rattle.machine_state.specs.declared.link.Link.TheVariants.{Zero, One, Two, Three}
use Rattle.machine_state.specs.declared.event.Event.{Event}
use Rattle.machine_state.specs.Happens.{happens}
use Rattle.machine_state.specs.Moves.{link_index}
use Rattle.machine_state.specs.World.{World}
use Rattle.link_runs.specs.Awaiting.{awaited}
use Rattle.link_runs.specs.ByLink.{ByLink, of_link, by_link}
use Rattle.link_runs.specs.Deadlocks.{is_from_outside}
use Rattle.link_runs.specs.Driving.{Proceeds, ComesToStop}
use Rattle.link_runs.specs.declared.driving.Progress.{Progress}
use Rattle.link_runs.specs.FirstInFirstOut.{Supply, RunMoment, IsRun, IsOver, asked}
use Rattle.link_runs.specs.Wanting.{is_running}
use Rattle.link_runner.specs.declared.report.Halt.{Halt}
use Rattle.link_runner.specs.declared.report.Halt.TheVariants.{ReadFailed, WriteFailed, Stopped}
use Rattle.link_runner.specs.declared.tally.Ended.{Ended}
use Rattle.link_runner.specs.declared.tally.Tally.{Tally}
use Rattle.link_runner.specs.Counting.{tally_of}
use Rattle.link_runner.specs.Devices.{Gives}

-- ---- one for each link, where there is one

abbrev pub found : {A : Type 0} → Option (Option A) → Option A
found None = None
found (Some there) = there

-- what is at a link's number
abbrev pub at_link : {A : Type 0} → List (Option A) → Link → Option A
at_link all link = found (slice_get all (link_index link))

-- where there is none
abbrev pub absent_of : {A : Type 0} → List (Option A) → Ended
absent_of all = record {
  first = is_none (at_link all Zero);
  second = is_none (at_link all One);
  third = is_none (at_link all Two);
  fourth = is_none (at_link all Three);
}

-- nothing went over a link yet, and those without a reader have ended
abbrev pub tally_at_start : {A : Type 0} → List (Option A) → Tally
tally_at_start readers = record {
  ended = absent_of readers;
  read = record { first = 0; second = 0; third = 0; fourth = 0 };
  written = record { first = 0; second = 0; third = 0; fourth = 0 };
}

-- the flag of one that is there
abbrev pub flag_at : {A : Type 0} → (A → Bool) → Option A → Bool
flag_at flag None = false
flag_at flag (Some there) = flag there

-- no flag is set
pub record NoneFailed {A : Type 0} (flag : A → Bool) (all : List (Option A)) : Type 0 where
  pub none : (link : Link) → flag_at flag (at_link all link) ≡ false

-- the flag of this link is set, and no other
pub record OneFailed {A : Type 0} (flag : A → Bool) (all : List (Option A)) (link : Link) : Type 0 where
  pub flags : (on : Link) → flag_at flag (at_link all on) ≡ (link_index link == link_index on)

-- all but the one of this link are as before
abbrev pub SameElsewhere : {A : Type 0} → List (Option A) → List (Option A) → Link → Type 0
SameElsewhere before after link = (on : Link) → (link_index link ≡ link_index on → ⊥)
    → at_link after on ≡ at_link before on

-- ---- what was taken

-- what the readers gave: nothing ever where there is none
abbrev pub supply_of : {R : Type 0} → Option R → List ℕ → Supply
supply_of None bytes = None
supply_of (Some reader) bytes = Some bytes

abbrev pub inputs_of : {R : Type 0} → List (Option R) → ByLink (List ℕ) → ByLink Supply
inputs_of readers taken = by_link (λ link. supply_of (at_link readers link) (of_link taken link))

-- nothing is left to be asked for
abbrev pub IsSpent : Supply → Type 0
IsSpent None = ⊤
IsSpent (Some bytes) = bytes ≡ []

module _ {R : Type 0} (left : R → Option (List ℕ)) where
  -- a reader gave these bytes
  abbrev pub Takes : Option R → Option R → List ℕ → Type 0
  Takes None None bytes = bytes ≡ []
  Takes None (Some after) bytes = ⊥
  Takes (Some before) None bytes = ⊥
  Takes (Some before) (Some after) bytes = Consumes (left before) (left after) bytes

  -- a link that has ended has no reader, or one that has nothing left
  abbrev pub EndsRightly : Supply → Option R → Type 0
  EndsRightly None (Some reader) = IsAtEnd (left reader)
  EndsRightly supply reader = ⊤

  -- The run over what was taken came to this moment. What was taken are bytes, all of them were asked for, and a link
  -- has ended only where nothing is left.
  pub record IsReadTo (m : Contents) (before after : List (Option R)) (writers : ByLink Bool) (s : RunMoment) : Type
      0 where
    pub taken : ByLink (List ℕ)
    pub takes : (link : Link) → Takes (at_link before link) (at_link after link) (of_link taken link)
    pub are_bytes : (link : Link) → IsBytes (of_link taken link)
    pub turns : ℕ
    pub run : IsRun m (inputs_of before taken) writers turns s
    pub spent : (link : Link) → IsSpent (of_link s.left link)
    pub ends : (link : Link) → EndsRightly (of_link s.left link) (at_link after link)

  module _ (failed : R → Bool) where
    -- the reader of a link was called; none is one at its end
    abbrev pub IsCalled : {E : Type 0} → Option R → Result (Option ℕ) E → Option R → Type 0
    IsCalled None (Ok None) None = ⊤
    IsCalled None result after = ⊥
    IsCalled (Some before) result None = ⊥
    IsCalled (Some before) result (Some after) = Gives (left before) (failed before) result (left after) (failed after)

    pub record Asks {E : Type 0} (link : Link) (result : Result (Option ℕ) E) (before after : List (Option R)) : Type
        0 where
      pub called : IsCalled (at_link before link) result (at_link after link)
      pub elsewhere : SameElsewhere before after link

    -- a moment that the run comes to by reading alone
    pub record ReadsOn (m : Contents) (first readers : List (Option R)) (writers : ByLink Bool) (s t : RunMoment) :
        Type 0 where
      pub reads : IsReadTo m first readers writers t
      pub none_failed : NoneFailed failed readers
      pub written : t.written ≡ s.written
      pub count : t.world.counters.executed ≡ s.world.counters.executed

    -- Reading this link failed at this moment, where it is asked.
    pub record FailsToRead (m : Contents) (first readers : List (Option R)) (writers : ByLink Bool) (t : RunMoment)
        (link : Link) : Type 0 where
      pub reads : IsReadTo m first readers writers t
      pub nobody_runs : is_running t.world ≡ false
      pub asks : asked t ≡ Some link
      pub one_failed : OneFailed failed readers link

-- how many links have not ended
abbrev pub count_if : Bool → ℕ
count_if ended = if ended then 0 else 1

abbrev pub count_open : Ended → ℕ
count_open ended = count_if ended.first + count_if ended.second + count_if ended.third + count_if ended.fourth

-- what can be asked yet before a process runs
abbrev pub askable : RunMoment → Tally → ℕ
askable s tally = awaited s.world + count_open tally.ended

-- what became of a machine that was to go on by itself
abbrev pub GoesOn : {S : Type 0} → Contents → World → Result Progress (Halt S) → List ℕ → (World → Type 0)
    → (World → S → Type 0) → Type 0
GoesOn m w (Ok progress) last shown stopped = Proceeds m w (Ok progress) last shown stopped
GoesOn m w (Err (Stopped stop)) last shown stopped = ComesToStop m w (λ v. stopped v stop)
GoesOn m w (Err (ReadFailed link)) last shown stopped = ⊥
GoesOn m w (Err (WriteFailed link)) last shown stopped = ⊥

-- A machine that stopped of itself is in this world, or in one from which what came last from outside leads there.
pub data IsThere (m : Contents) (stopped : World → Type 0) (w : World) : Type 0 where
  there : stopped w → IsThere m stopped w
  behind : (v : World) (e : Event) → is_from_outside e ≡ true → w ≡ happens m v e → stopped v → IsThere m stopped w

module _ {R : Type 0} (left : R → Option (List ℕ)) (failed : R → Bool) (m : Contents)
    (first readers : List (Option R)) (writers : ByLink Bool) (s : RunMoment) where
  -- The link was asked, and a process runs, or less can be asked.
  pub record IsSupplied (tally : Tally) (shown : World → Type 0) : Type 0 where
    pub moment : RunMoment
    pub goes : ReadsOn left failed m first readers writers s moment
    pub is_shown : shown moment.world
    pub counts : tally ≡ tally_of moment
    pub closer : (is_running moment.world ≡ true) ⊎ (askable moment tally < askable s (tally_of s))

  -- the run was read on to a moment in whose world this holds
  pub record IsReadOn (tally : Tally) (shown : World → Type 0) : Type 0 where
    pub moment : RunMoment
    pub goes : ReadsOn left failed m first readers writers s moment
    pub is_shown : shown moment.world
    pub counts : tally ≡ tally_of moment

  -- reading failed at some moment that the run was read on to
  pub record FailsLater (link : Link) : Type 0 where
    pub moment : RunMoment
    pub written : moment.written ≡ s.written
    pub fails : FailsToRead left failed m first readers writers moment link

  -- what became of asking this link
  abbrev pub Supplies : {S : Type 0} → Link → Result ⊤ (Halt S) → Tally → (World → Type 0) → (World → S → Type 0)
      → Type 0
  Supplies link (Ok _) tally shown stopped = IsSupplied tally shown
  Supplies link (Err (ReadFailed on)) tally shown stopped =
      (on ≡ link) × FailsToRead left failed m first readers writers s link
  Supplies link (Err (WriteFailed on)) tally shown stopped = ⊥
  Supplies link (Err (Stopped stop)) tally shown stopped = IsReadOn tally (IsThere m (λ w. stopped w stop))

  -- The links were asked until a process runs, or until nothing is left to be done.
  pub record IsProvided (running : Bool) (tally : Tally) (shown : World → Type 0) : Type 0 where
    pub moment : RunMoment
    pub goes : ReadsOn left failed m first readers writers s moment
    pub is_shown : shown moment.world
    pub counts : tally ≡ tally_of moment
    pub runs : is_running moment.world ≡ running
    pub over : running ≡ false → IsOver m writers moment

  abbrev pub Provides : {S : Type 0} → Result Bool (Halt S) → Tally → (World → Type 0) → (World → S → Type 0) → Type 0
  Provides (Ok running) tally shown stopped = IsProvided running tally shown
  Provides (Err (ReadFailed link)) tally shown stopped = FailsLater link
  Provides (Err (WriteFailed link)) tally shown stopped = ⊥
  Provides (Err (Stopped stop)) tally shown stopped = IsReadOn tally (IsThere m (λ w. stopped w stop))

-- a run that is under way: it came to some moment by reading
pub record IsUnderWay {M R : Type 0} (left : R → Option (List ℕ)) (failed : R → Bool) (contents : M → Contents)
    (shows : M → World → Type 0) (machine : M) (readers : List (Option R)) (tally : Tally) : Type 0 where
  pub first : List (Option R)
  pub writers : ByLink Bool
  pub moment : RunMoment
  pub is_shown : shows machine moment.world
  pub reads : IsReadTo left (contents machine) first readers writers moment
  pub none_failed : NoneFailed failed readers
  pub counts : tally ≡ tally_of moment
