-- Modules of pieces without PARs. Their one context has all words of the frame and the links, their tables name
-- instruction starts by rows alone, and the walk over them begins with nothing known.
use Rattle.std.specs.Prelude.{◌≡◌, ◌≤◌, ◌<◌, ◌≤ℤ◌, ◌<ℤ◌, ℕ, ℤ, pos, neg_ℤ, true, is_some, List, [], get_or, option_map}
use Rattle.std.specs.Prelude.{Some, Ok}
use Rattle.module_format.specs.declared.rows.Direction.TheVariants.{In, Out}
use Rattle.module_format.specs.declared.rows.EndKind.TheVariants.{Link}
use Rattle.module_format.specs.Contents.{label_at}
use Rattle.certificate.specs.Rights.{may_write_word, may_read_word, has_end}
use Rattle.certificate.specs.Starts.{is_start}
use Rattle.states.specs.State.{no_facts, fresh_state, root_state, label_state}
use Rattle.certified_worlds.specs.Certified.{table_state, state_at, entering}
use Rattle.code_pieces.specs.declared.modules.TheConstants.{BASE}
use Rattle.code_pieces.specs.Pieces.{Piece}
use Rattle.code_pieces.specs.Laid.{needs_in}
use Rattle.code_pieces.specs.LaidModule.{Arrangement, Says, laid_module}
use Rattle.code_pieces.specs.Laying.{pars_of, words_taken}

-- ---- the root

-- The root may write and read each word from those below its workspace up to the last one that code takes.
abbrev pub RootHasItsWords : Type 0
RootHasItsWords = (ps : List Piece) (labels : ℕ) (links : List ℕ) (a : Arrangement) → pars_of ps ≡ [] → (k : ℤ)
    → neg_ℤ (pos BASE) ≤ℤ k → k <ℤ pos (words_taken ps)
    → (may_write_word (laid_module ps labels links a) 0 k ≡ true)
    × (may_read_word (laid_module ps labels links a) 0 k ≡ true)

-- It has the end of each link that takes messages: the first four go out, and the others come in.
pub record RootHasItsLinks : Type 0 where
  pub out : (ps : List Piece) (labels : ℕ) (links : List ℕ) (a : Arrangement) → pars_of ps ≡ [] → (link : ℕ) → link < 4
      → 1 ≤ get_or links link 0
      → has_end (laid_module ps labels links a) 0 (record { kind = Link link; direction = Out }) ≡ true
  pub into : (ps : List Piece) (labels : ℕ) (links : List ℕ) (a : Arrangement) → pars_of ps ≡ [] → (link : ℕ) → 4 ≤ link
      → 1 ≤ get_or links link 0
      → has_end (laid_module ps labels links a) 0 (record { kind = Link link; direction = In }) ≡ true

-- ---- the walk

-- The tables say that an instruction starts where there is a row, and nowhere else. The state there is the row's.
pub record TablesAreRows : Type 0 where
  pub starts : (ps : List Piece) (labels : ℕ) (links : List ℕ) (a : Arrangement) → pars_of ps ≡ [] → (at : ℕ)
      → is_start (laid_module ps labels links a) at ≡ is_some (label_at (laid_module ps labels links a) at)
  pub states : (ps : List Piece) (labels : ℕ) (links : List ℕ) (a : Arrangement) (at : ℕ)
      → table_state (laid_module ps labels links a) at
      ≡ option_map label_state (label_at (laid_module ps labels links a) at)

-- The walk begins at the first byte, where no row is, with what all pieces need and with nothing known.
pub record WalkBegins : Type 0 where
  pub root : (ps : List Piece) (labels : ℕ) (links : List ℕ) (a : Arrangement)
      → root_state (laid_module ps labels links a) ≡ fresh_state 0 (pos 0) (needs_in ps a.lengths).need no_facts
  pub first : (ps : List Piece) (labels : ℕ) (links bytes : List ℕ) (says : Says ps labels links bytes)
      → state_at (laid_module ps labels links says.arrangement) 0
      (Some (root_state (laid_module ps labels links says.arrangement)))
      ≡ Some (root_state (laid_module ps labels links says.arrangement))
  pub free : (ps : List Piece) (labels : ℕ) (links bytes : List ℕ) (says : Says ps labels links bytes)
      → entering (laid_module ps labels links says.arrangement) 0
      (Some (root_state (laid_module ps labels links says.arrangement))) ≡ Ok 0
