-- What holds of whatever a process leaves, over all links, holds of all that its tree leaves.
use Rattle.std.specs.Prelude.{Bool, List, Option}
use Rattle.scalar_ranges.specs.Entries.{Entry}
use Rattle.scalar_ranges.specs.Environments.{Environment}
use Rattle.program_meaning.specs.Links.{Port, Links}
use Rattle.occam_parser.specs.Blocks.{Process}
use Rattle.program_meaning.specs.Running.{run}
use Rattle.program_meaning.specs.GoingWell.{IsTrueIn, IsWell}
use Rattle.program_meaning.specs.Doing.{Doing, doing, over_links, AllWell}

pub record LeavesAreTrue : Type 0 where
  -- of any tree
  pub leaving : (es : List Entry) (t : Doing)
      → ((listens : List Bool) (l : Links) → IsWell (over_links listens t l) es) → AllWell (IsTrueIn es) t
  -- of what a process does, by what becomes of it
  pub running : (es : List Entry) (ports : List (Option Port)) (p : Process) (env : Environment)
      → ((listens : List Bool) (l : Links) → IsWell (run (record { ports = ports; listens = listens }) p env l) es)
      → AllWell (IsTrueIn es) (doing ports p env)
