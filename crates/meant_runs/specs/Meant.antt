-- What it is that a module does what its program means: whatever bytes come in, and wherever something listens, its run
-- comes to an end as the meaning reports it.
use Rattle.std.specs.Prelude.{◌≡◌, ℕ, ◌<◌, Bool, true, false, List, [], ◌∷◌, length, map, unwrap_or}
use Rattle.std.specs.List.{AllByRecursion}
use Rattle.module_format.specs.Contents.{Contents}
use Rattle.module_format.specs.Keeping.{Format}
use Rattle.machine_state.specs.declared.link.Link.{Link}
use Rattle.occam_parser.specs.Blocks.{ProgramItem}
use Rattle.program_meaning.specs.Meaning.{Ending, Ended, Idle, NoValue, Report, meaning}
use Rattle.link_runs.specs.ByLink.{ByLink, of_link}
use Rattle.link_runs.specs.FirstInFirstOut.{Supply, RunMoment, IsRun, IsOver}

-- ---- links

-- what there is for each link, link 0 first
abbrev pub in_order : {A : Type 0} → ByLink A → List A
in_order all = all.first ∷ all.second ∷ all.third ∷ all.fourth ∷ []

-- the bytes that come in on a link: none if it has no reader
abbrev pub bytes_in : Supply → List ℕ
bytes_in supply = unwrap_or supply []

abbrev pub all_bytes_in : ByLink Supply → List (List ℕ)
all_bytes_in inputs = map bytes_in (in_order inputs)

-- What comes in are bytes. The meaning takes them modulo 256, and the machine does not.
abbrev pub AreBytes : ByLink Supply → Type 0
AreBytes inputs = (link : Link) → AllByRecursion (λ byte. byte < 256) (bytes_in (of_link inputs link))

-- ---- reports

-- The module is finished where the program ended, and is not where it waits. No run comes to what has no value.
abbrev pub IsEnding : Ending → Bool → Type 0
IsEnding Ended is_finished = is_finished ≡ true
IsEnding Idle is_finished = is_finished ≡ false
IsEnding NoValue is_finished = ⊥

-- What is reported is so at a moment of a run: of each link in as many bytes were asked for as were read, and to each
-- link out went what was written.
pub record IsReportOf (r : Report) (s : RunMoment) : Type 0 where
  pub ending : IsEnding r.ending s.world.counters.is_finished
  pub read : in_order s.read ≡ map length r.read
  pub written : in_order s.written ≡ r.written

-- ---- runs

-- The run of a module comes to an end, and what is reported of these items is so there.
pub record EndsAsMeant (m : Contents) (items : List ProgramItem) (inputs : ByLink Supply) (writers : ByLink Bool)
    : Type 0 where
  pub turns : ℕ
  pub last : RunMoment
  pub run : IsRun m inputs writers turns last
  pub over : IsOver m writers last
  pub report : IsReportOf (meaning items (all_bytes_in inputs) (in_order writers)) last

-- So it does whatever bytes come in, and wherever something listens.
abbrev pub RunsAsMeant : Contents → List ProgramItem → Type 0
RunsAsMeant m items =
    (inputs : ByLink Supply) (writers : ByLink Bool) → AreBytes inputs → EndsAsMeant m items inputs writers

-- What these bytes say runs as the items mean.
abbrev pub IsMeant : List ProgramItem → List ℕ → Type 0
IsMeant items bytes = (m : Contents) → Format bytes m → RunsAsMeant m items
