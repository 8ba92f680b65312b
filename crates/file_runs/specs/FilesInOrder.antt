-- Files that are opened, created and closed one after the other.
use Rattle.std.specs.Prelude.{◌≡◌, Bool, true, List, [], ◌∷◌, map, Option, Some, None, Result, Ok, Err}
use Rattle.std.specs.Borrow.{Bor}
use Rattle.command_line.specs.declared.links.OnLinks.{OnLinks}
use Rattle.command_line.specs.Words.{Text}
use Rattle.module_format.specs.declared.rows.Direction.{Direction}
use Rattle.module_format.specs.declared.rows.Direction.TheVariants.{In, Out}
use Rattle.machine_state.specs.declared.link.Link.TheVariants.{Zero, One, Two, Three}
use Rattle.link_runs.specs.ByLink.{ByLink}
use Rattle.link_runner.specs.Readers.{at_link}
use Rattle.file_access.specs.declared.files.FileFault.{FileFault}
use Rattle.file_access.specs.declared.files.FileFault.TheVariants as file_faults
use Rattle.file_access.specs.declared.failure.FileFailure.{FileFailure}
use Rattle.file_access.specs.declared.failure.FileFailure.TheVariants as stops

-- those of the links, in their order
abbrev pub in_order : {A : Type 0} → OnLinks A → List A
in_order all = all.first ∷ all.second ∷ all.third ∷ all.fourth ∷ []

module _ {F X : Type 0} (gives : F → Text → Result X FileFault → F → Type 0) where
  -- the file of a path; where there is no path, nothing is done
  abbrev pub MayGive : F → Option Text → Option X → F → Type 0
  MayGive before None None after = after ≡ before
  MayGive before None (Some file) after = ⊥
  MayGive before (Some path) None after = ⊥
  MayGive before (Some path) (Some file) after = gives before path (Ok file) after

  -- the files of these paths
  abbrev pub GivesAll : F → List (Option Text) → List (Option X) → F → Type 0
  GivesAll before [] [] after = after ≡ before
  GivesAll before [] (file ∷ files) after = ⊥
  GivesAll before (path ∷ paths) [] after = ⊥
  GivesAll before (path ∷ paths) (file ∷ files) after =
      (next : F) × (MayGive before path file next × GivesAll next paths files after)

  -- this is the path, and its file cannot be opened or created
  abbrev pub FailsForPath : F → Option Text → Text → FileFault → F → Type 0
  FailsForPath before None path fault after = ⊥
  FailsForPath before (Some text) path fault after = (path ≡ text) × gives before path (Err fault) after

  -- The file of this path cannot be opened or created. Those of the paths before it were, and no other.
  pub data FailsAtPath : F → List (Option Text) → List (Option X) → Text → FileFault → F → Type 0 where
    here : {before after : F} {first : Option Text} {paths : List (Option Text)} {path : Text} {fault : FileFault}
        → FailsForPath before first path fault after
        → FailsAtPath before (first ∷ paths) (None ∷ map (λ _. None) paths) path fault after
    later : {before next after : F} {first : Option Text} {paths : List (Option Text)} {file : Option X}
        {files : List (Option X)} {path : Text} {fault : FileFault}
        → MayGive before first file next → FailsAtPath next paths files path fault after
        → FailsAtPath before (first ∷ paths) (file ∷ files) path fault after

module _ {F W : Type 0} (closes : F → W → Bool → F → Type 0) where
  -- a writer, if there is one, and whether it could be closed
  abbrev pub MayClose : F → Option W → Bool → F → Type 0
  MayClose before None closed after = (closed ≡ true) × (after ≡ before)
  MayClose before (Some writer) closed after = closes before writer closed after

  -- those of all links, one after the other
  pub record ClosesAll (before : F) (writers : List (Option W)) (closed : ByLink Bool) (after : F) : Type 0 where
    pub second : F
    pub third : F
    pub fourth : F
    pub closes_first : MayClose before (at_link writers Zero) closed.first second
    pub closes_second : MayClose second (at_link writers One) closed.second third
    pub closes_third : MayClose third (at_link writers Two) closed.third fourth
    pub closes_fourth : MayClose fourth (at_link writers Three) closed.fourth after

-- why there is no run where a file is missing
abbrev pub missing_file : Direction → Bor Text → FileFault → FileFailure
missing_file In path file_faults.Failed = stops.Unread path
missing_file Out path file_faults.Failed = stops.Uncreated path
missing_file direction path file_faults.Memory = stops.Memory
