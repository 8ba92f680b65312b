-- A module file of version 1, and the file that it is written to in version 2: our own choice.
use Rattle.std.specs.Prelude.{◌≡◌, ◌⊎◌, ⊤, ℕ, List, length, Result, Ok, Err}
use Rattle.command_line.specs.Words.{Text}
use Rattle.module_format.specs.declared.tables.Version.TheVariants as versions
use Rattle.module_format.specs.Contents.{Contents}
use Rattle.module_format.specs.Keeping.{IsFile, IsUpgraded}
use Rattle.verifier.specs.declared.upgrading.UpgradeFault.{UpgradeFault}
use Rattle.verifier.specs.declared.upgrading.UpgradeFault.TheVariants as upgrade_faults
use Rattle.file_access.specs.declared.failure.FileFailure.{FileFailure}
use Rattle.file_access.specs.declared.failure.FileFailure.TheVariants as stops
use Rattle.file_access.specs.Writing.{IsWritten, Writes}
use Rattle.tpm_actions.specs.declared.report.Report.TheVariants.{Upgraded}
use Rattle.tpm_actions.specs.declared.report.Failure.{Failure}
use Rattle.tpm_actions.specs.declared.report.Failure.TheVariants as failures
use Rattle.tpm_actions.specs.Malformed.{IsMalformed}
use Rattle.tpm_actions.specs.Texts.{report_line}
use Rattle.file_access.specs.Storage.{Storage}

-- The bytes are a module file of version 2 already; or of version 1, and memory ran out.
abbrev pub IsRefusedUpgrade : List ℕ → UpgradeFault → Type 0
IsRefusedUpgrade old upgrade_faults.Upgraded = (c : Contents) × IsFile versions.Two old c
IsRefusedUpgrade old upgrade_faults.Memory = (c : Contents) × IsFile versions.One old c

-- why a file has no other in version 2
abbrev pub RefusesUpgrade : List ℕ → Failure → Type 0
RefusesUpgrade old (failures.Malformed fault) = IsMalformed old fault
RefusesUpgrade old (failures.NotUpgraded fault) = IsRefusedUpgrade old fault
RefusesUpgrade old failure = ⊥

module _ {F R W : Type 0} (storage : Storage F R W) where
  -- The module was upgraded, and what became of the file is this.
  pub record UpgradesAndWrites (old : List ℕ) (path : Text) (before after : F) (result : Result ⊤ FileFailure) :
      Type 0 where
    pub bytes : List ℕ
    pub upgraded : IsUpgraded old bytes
    pub writes : Writes storage path bytes before after result

  -- The module was upgraded, its file was written, and this text reports how long it is.
  pub record HasUpgraded (old : List ℕ) (path : Text) (before after : F) (text : Text) : Type 0 where
    pub bytes : List ℕ
    pub upgraded : IsUpgraded old bytes
    pub writes : IsWritten storage path bytes before after
    pub told : text ≡ report_line (Upgraded (length bytes))

  -- why nothing is reported about a module that was to be upgraded
  abbrev pub WithholdsUpgrade : List ℕ → Text → F → F → Failure → Type 0
  WithholdsUpgrade old path before after (failures.Malformed fault) = IsMalformed old fault × (after ≡ before)
  WithholdsUpgrade old path before after (failures.NotUpgraded fault) = IsRefusedUpgrade old fault × (after ≡ before)
  WithholdsUpgrade old path before after (failures.Stopped why) =
      UpgradesAndWrites old path before after (Err why)
      ⊎ ((why ≡ stops.Memory) × ((u : ⊤) × UpgradesAndWrites old path before after (Ok u)))
  WithholdsUpgrade old path before after failure = ⊥
