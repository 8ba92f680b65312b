-- What is said of the bytes of a module file.
use Rattle.std.specs.Prelude.{◌≡◌, ℕ, List, Err}
use Rattle.module_format.specs.Contents.{Contents}
use Rattle.module_format.specs.Keeping.{Format}
use Rattle.module_format.specs.ReadingFile.{read_contents}
use Rattle.states.specs.declared.rule.Rule.{Rule}
use Rattle.states.specs.Numbers.{number_of}
use Rattle.certified_worlds.specs.Certified.{IsCertified, IsRefused}
use Rattle.verifier.specs.Headline.{RunsWell}

-- The bytes are the file of a certified module, of which this holds. Whatever events come, it runs well.
pub record IsCertifiedFile (bytes : List ℕ) (holds_of : Contents → Type 0) : Type 0 where
  pub contents : Contents
  pub format : Format bytes contents
  pub certified : IsCertified contents
  pub runs_well : RunsWell contents
  pub holds : holds_of contents

-- The bytes are no module file, and this is their first fault.
pub record IsNoFile (bytes : List ℕ) (number offset : ℕ) : Type 0 where
  pub first : read_contents bytes ≡ Err (record { number = number; offset = offset })
  pub none : (m : Contents) → Format bytes m → ⊥

-- The bytes are the file of a module that breaks the rule of this number there, and none before.
pub record IsRefusedFile (bytes : List ℕ) (number offset : ℕ) : Type 0 where
  pub contents : Contents
  pub format : Format bytes contents
  pub rule : Rule
  pub numbered : number ≡ number_of rule
  pub refused : IsRefused contents rule offset
