-- Modules of pieces of code that are certified.
use Rattle.std.specs.Prelude.{◌⊎◌, ℕ, List}
use Rattle.module_format.specs.Contents.{Contents}
use Rattle.module_format.specs.Keeping.{Format}
use Rattle.states.specs.declared.rule.Rule.{Rule}
use Rattle.certified_worlds.specs.Certified.{IsCertified, IsRefused}
use Rattle.verifier.specs.Headline.{RunsWell}
use Rattle.code_pieces.specs.Pieces.{Piece}
use Rattle.code_pieces.specs.Laying.{apart}
use Rattle.code_pieces.specs.Laid.{IsModuleOf}
use Rattle.code_pieces.specs.WellFormed.{AreInvalid}

-- what is certified runs well
pub record Certifies (c : Contents) : Type 0 where
  pub certified : IsCertified c
  pub runs_well : RunsWell c

-- what these bytes say is certified
abbrev pub AreCertified : List ℕ → Type 0
AreCertified bytes = (c : Contents) → Format bytes c → Certifies c

-- what is refused breaks a rule somewhere
pub record BreaksARule (c : Contents) : Type 0 where
  pub rule : Rule
  pub at : ℕ
  pub refused : IsRefused c rule at

-- what these bytes say, if they say something, breaks a rule
abbrev pub AreRefused : List ℕ → Type 0
AreRefused bytes = (c : Contents) → Format bytes c → BreaksARule c

-- these bytes are the module of these pieces, and it is certified
pub record IsCertifiedModule (ps : List Piece) (labels : ℕ) (links : List ℕ) (bytes : List ℕ) : Type 0 where
  pub is_module : IsModuleOf ps labels links bytes
  pub certified : AreCertified bytes

-- These bytes are the module of these pieces, and it is refused.
pub record IsRefusedModule (ps : List Piece) (labels : ℕ) (links : List ℕ) : Type 0 where
  pub bytes : List ℕ
  pub is_module : IsModuleOf ps labels links bytes
  pub refused : AreRefused bytes

-- These pieces are invalid, or their module is refused.
abbrev pub IsUncertified : List Piece → ℕ → List ℕ → Type 0
IsUncertified ps labels links = AreInvalid (apart ps) labels links ⊎ IsRefusedModule ps labels links
