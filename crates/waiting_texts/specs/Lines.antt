-- The lines of the processes of a run that are not over: our own choice.
use Rattle.std.specs.Prelude.{◌≡◌, ℕ, zero, suc, ◌-◌, ◌==◌, ◌||◌, ◌&&◌, not, Bool, true, false, if◌then◌else◌, is_some}
use Rattle.std.specs.Prelude.{List, [], ◌∷◌, ◌++◌, length, codes, Option, Some, None, slice_get}
use Rattle.std.specs.Fmt.{decimal}
use Rattle.std.specs.List.{flat_map}
use Rattle.std.specs.List.Sorted.{IsPermutation, IsSortedByKey}
use Rattle.std.specs.Option.{option_map_or}
use Rattle.std.specs.Ordering.{nat_cmp}
use Rattle.fact_texts.specs.Texts.{Text, six_digits}
use Rattle.listings.specs.Listing.{entry_name, listed_entry}
use Rattle.module_format.specs.Contents.{Contents}
use Rattle.machine_state.specs.declared.process.Condition.{Condition}
use Rattle.machine_state.specs.declared.process.Condition.TheVariants as condition
use Rattle.machine_state.specs.declared.process.Task.{Task}
use Rattle.machine_state.specs.declared.link.InputLink.{InputLink}
use Rattle.machine_state.specs.declared.link.OutputLink.{OutputLink}
use Rattle.machine_state.specs.World.{World}
use Rattle.link_runs.specs.Deadlocks.{is_deadlock}
use Rattle.source_lines.specs.declared.entry.LineEntry.{LineEntry}
use Rattle.source_lines.specs.SourceLines.{lines_text}
use Rattle.waiting_texts.specs.declared.places.Place.{Place}
use Rattle.waiting_texts.specs.declared.setting.Setting.{Setting}
use Rattle.waiting_texts.specs.declared.waits.Wait.{Wait}
use Rattle.waiting_texts.specs.declared.waits.Wait.TheVariants as told
use Rattle.waiting_texts.specs.Waits.{has_file, wait_at, wait_text, guards_text}

-- ---- a process

-- how many bytes the instruction has after which a process is in this condition: in, out and endp have one, altwt and
-- stopp two
abbrev pub size_before : Condition → ℕ
size_before condition.Ready = 0
size_before condition.Alternating = 2
size_before condition.Stopped = 2
size_before _ = 1

-- where the instruction begins that the process is at, or by which it came to wait
abbrev pub offset_of : Task → ℕ
offset_of task = task.registers.began - size_before task.condition

abbrev pub name_at : Contents → ℕ → Text
name_at m at = entry_name (listed_entry m at)

abbrev pub is_for_good : Wait → Bool
is_for_good told.ForGood = true
is_for_good _ = false

-- A process that waits for nothing is over, unless it has stopped elsewhere than where the module ends.
abbrev pub is_over_in : Contents → Task → Condition → Bool
is_over_in m task condition.Stopped = task.registers.at == m.finish
is_over_in m task _ = true

abbrev pub is_over : Contents → Task → Wait → Bool
is_over m task wait = is_for_good wait && is_over_in m task task.condition

-- which process it is, and where
abbrev pub place_text : ℕ → ℕ → Text
place_text p at = codes "process " ++ (decimal p ++ (codes " at " ++ six_digits at))

-- by which instruction it waits, and for what
abbrev pub named_text : Contents → Setting → ℕ → Wait → Text
named_text m s at wait = codes " " ++ (name_at m at ++ (codes ": " ++ wait_text s wait))

abbrev pub head_text : Contents → List LineEntry → Setting → ℕ → Task → Wait → Text
head_text m lines s p task wait =
    place_text p (offset_of task) ++ (lines_text lines (offset_of task) ++ named_text m s (offset_of task) wait)

abbrev pub tail_text : Contents → World → ℕ → Wait → Text
tail_text m w p wait = guards_text m.data_words w p wait ++ 10 ∷ []

-- the line of a process, unless it is over
abbrev pub task_text : Contents → List LineEntry → Setting → World → ℕ → Task → Wait → Text
task_text m lines s w p task wait =
    if is_over m task wait then [] else head_text m lines s p task wait ++ tail_text m w p wait

abbrev pub process_text : Contents → List LineEntry → Setting → World → ℕ → Text
process_text m lines s w p = elim (slice_get w.tasks p) [
  | None ↦ []
  | Some task ↦ task_text m lines s w p task (wait_at w p task.condition)
]

-- ---- all processes

-- the process of this number, with its workspace
abbrev pub place_in : List Task → ℕ → List Place
place_in tasks p = elim (slice_get tasks p) [
  | None ↦ []
  | Some task ↦ record { workspace = task.registers.workspace; process = p } ∷ []
]

-- those below this number
abbrev pub places_below : List Task → ℕ → List Place
places_below tasks zero = []
places_below tasks (suc p) = places_below tasks p ++ place_in tasks p

-- all processes, in the order of their workspaces
pub record AreInOrder (w : World) (places : List Place) : Type 0 where
  pub all : IsPermutation (places_below w.tasks (length w.tasks)) places
  pub sorted : IsSortedByKey (λ (place : Place). place.workspace) nat_cmp places

abbrev pub processes_text : Contents → List LineEntry → Setting → World → List Place → Text
processes_text m lines s w places = flat_map (λ (place : Place). process_text m lines s w place.process) places

-- ---- what is told of the whole

abbrev pub deadlock_text : Setting → World → Text
deadlock_text s w =
    if s.is_over && is_deadlock w then codes "deadlock: no byte that may come makes a process go on\n" else []

-- a process waits on the input link of this number, or has enabled it
abbrev pub is_input_wanted : World → ℕ → Bool
is_input_wanted w k = option_map_or (λ (input : InputLink). is_some input.waiting || is_some input.enabled)
    (slice_get w.links.inputs k) false

abbrev pub is_output_wanted : World → ℕ → Bool
is_output_wanted w k = option_map_or (λ (output : OutputLink). is_some output.waiting) (slice_get w.links.outputs k) false

abbrev pub missing_text : Bool → Text → ℕ → Text
missing_text missing name k =
    if missing then name ++ (decimal k ++ codes " has no file\n") else []

abbrev pub missing_input : Setting → World → ℕ → Text
missing_input s w k = missing_text (not (has_file s.inputs k) && is_input_wanted w k) (codes "--in") k

abbrev pub missing_output : Setting → World → ℕ → Text
missing_output s w k = missing_text (not (has_file s.outputs k) && is_output_wanted w k) (codes "--out") k

abbrev pub inputs_missing : Setting → World → Text
inputs_missing s w =
    missing_input s w 0 ++ (missing_input s w 1 ++ (missing_input s w 2 ++ missing_input s w 3))

abbrev pub outputs_missing : Setting → World → Text
outputs_missing s w =
    missing_output s w 0 ++ (missing_output s w 1 ++ (missing_output s w 2 ++ missing_output s w 3))

-- before the processes: whether they are in a deadlock, and which links have no file that are waited for
abbrev pub summary_text : Setting → World → Text
summary_text s w = deadlock_text s w ++ (inputs_missing s w ++ outputs_missing s w)

-- This text tells what the processes of the world wait for, with the lines of these entries.
pub record TellsWaits (m : Contents) (lines : List LineEntry) (s : Setting) (w : World) (text : Text) : Type 0 where
  pub places : List Place
  pub in_order : AreInOrder w places
  pub told : text ≡ summary_text s w ++ processes_text m lines s w places
