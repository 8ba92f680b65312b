-- What the whole module of pieces without PARs has: all its code is in the root, and its tables lie in the constants,
-- where rows say the least and the greatest of their values.
use Rattle.std.specs.Prelude.{◌≡◌, ℕ, List, []}
use Rattle.code_pieces.specs.LaidModule.{Arrangement, Says}
use Rattle.code_pieces.specs.Laying.{pars_of}
use Rattle.code_pieces.specs.Pieces.{Piece}
use Rattle.line_pieces.specs.Homes.{Home}
use Rattle.certified_lines.specs.Scopes.{Scene}
use Rattle.certified_modules.specs.RootRows.{root_setting, weights_of}
use Rattle.certified_actions.specs.Roots.{IsRoot}
use Rattle.certified_scopes.specs.Settled.{IsFounded}

-- the scene of the root, where names have these homes
abbrev pub root_scene : List Piece → ℕ → List ℕ → Arrangement → List Home → Scene
root_scene ps labels links a homes = record {
  setting = root_setting ps labels links a;
  homes = homes;
  weights = weights_of ps a.lengths;
  pieces = ps;
}

-- all code is in the root
abbrev pub RootSettingsAreRoots : Type 0
RootSettingsAreRoots = (ps : List Piece) (labels : ℕ) (links : List ℕ) (a : Arrangement) → pars_of ps ≡ []
    → IsRoot (root_setting ps labels links a) ps labels links a

-- Words before one that may be read may be read, and each table that pieces read has its row.
abbrev pub RootsAreFounded : Type 0
RootsAreFounded = (ps : List Piece) (labels : ℕ) (links bytes : List ℕ) (says : Says ps labels links bytes)
    (homes : List Home) → pars_of ps ≡ [] → IsFounded (root_scene ps labels links says.arrangement homes)
