-- Pieces that are no invalid draft: the labels that they name are there, and words of rows are in range. And why pieces
-- become no module though no number is above a limit.
use Rattle.std.specs.Prelude.{◌≡◌, ◌≤◌, ◌<◌, ◌⊎◌, ⊤, ℕ, ◌+◌, List, [], ◌∷◌, Some}
use Rattle.std.specs.List.{AllByRecursion, flat_map}
use Rattle.std.specs.Option.{option_to_list}
use Rattle.module_format.specs.declared.limits.TheConstants.{MAX_DATA_WORDS}
use Rattle.module_builder.specs.declared.draft.Draft.{Draft}
use Rattle.module_builder.specs.Assembled.{IsInvalid}
use Rattle.module_builder.specs.Drafts.{IsComplete}
use Rattle.module_builder.specs.Whole.{IsWhole}
use Rattle.code_pieces.specs.declared.piece.RowEntry.{RowEntry}
use Rattle.code_pieces.specs.declared.piece.WordFact.{WordFact}
use Rattle.code_pieces.specs.declared.piece.WordFact.TheVariants.{Between, Turning}
use Rattle.code_pieces.specs.Pieces.{Piece, Jump, JumpUnless, LoopBack, Distance, StartBranch, Select, Row, Place}
use Rattle.code_pieces.specs.Pieces.{Within, Par}
use Rattle.code_pieces.specs.Placing.{label_in}
use Rattle.code_pieces.specs.Laying.{draft_code, sizes_of, words_taken}
use Rattle.code_pieces.specs.Laid.{IsLaidOut}
use Rattle.code_pieces.specs.Needed.{NeedsAreWithin}

-- ---- labels

-- the head of a loop whose block is said
abbrev pub heads_of : WordFact → List ℕ
heads_of (Between lo hi) = []
heads_of (Turning head base count) = head ∷ []

abbrev pub heads_said : List RowEntry → List ℕ
heads_said es = flat_map (λ (e : RowEntry). heads_of e.fact) es

-- the labels that a piece names, in code of one process
abbrev pub labels_named : Piece → List ℕ
labels_named (Jump to) = to ∷ []
labels_named (JumpUnless to) = to ∷ []
labels_named (LoopBack head behind) = head ∷ behind ∷ []
labels_named (Distance from to) = from ∷ to ∷ []
labels_named (StartBranch entry successor) = entry ∷ option_to_list successor
labels_named (Select targets) = targets
labels_named (Row l entries) = l ∷ heads_said entries
labels_named (Place l) = l ∷ []
labels_named p = []

abbrev pub AreBelow : ℕ → List ℕ → Type 0
AreBelow n ls = AllByRecursion (λ l. l < n) ls

-- each label that pieces name is one of these
abbrev pub AreNamed : ℕ → List Piece → Type 0
AreNamed labels ps = AllByRecursion (λ p. AreBelow labels (labels_named p)) ps

-- some piece places this label
abbrev pub IsPlacedIn : ℕ → List Piece → Type 0
IsPlacedIn l [] = ⊥
IsPlacedIn l (p ∷ ps) = (label_in p ≡ Some l) ⊎ IsPlacedIn l ps

-- ---- words of rows

-- each entry is of words that a frame may have
abbrev pub HaveFewWords : Piece → Type 0
HaveFewWords (Row l entries) = AllByRecursion (λ (e : RowEntry). e.word + e.span ≤ MAX_DATA_WORDS) entries
HaveFewWords p = ⊤

-- ---- the whole

-- there is no PAR, and no workspace but that of the root
abbrev pub IsOfOneProcess : Piece → Type 0
IsOfOneProcess (Within workspace) = ⊥
IsOfOneProcess (Par par) = ⊥
IsOfOneProcess p = ⊤

-- Each label is placed, those that are named are there, and rows are of words that a frame may have.
pub record AreWellFormed (ps : List Piece) (labels : ℕ) : Type 0 where
  pub placed : (l : ℕ) → l < labels → IsPlacedIn l ps
  pub named : AreNamed labels ps
  pub alone : AllByRecursion IsOfOneProcess ps
  pub words : AllByRecursion HaveFewWords ps

-- ---- why they are refused

-- The draft that pieces are laid out as, where no number of bytes is above the limit, refers to a label that is placed
-- nowhere, or is invalid.
pub record IsNoModule (ps : List Piece) (labels : ℕ) (links : List ℕ) : Type 0 where
  pub draft : Draft
  pub out : IsLaidOut ps labels links draft
  pub needs : NeedsAreWithin ps (sizes_of ps out.lengths)
  pub refused : (IsWhole draft → ⊥) ⊎ IsInvalid draft

-- Their code refers to a label that is placed nowhere, or their draft does or is invalid.
abbrev pub AreRefused : List Piece → ℕ → List ℕ → Type 0
AreRefused ps labels links = (IsComplete (draft_code ps labels) → ⊥) ⊎ IsNoModule ps labels links

-- Pieces that take no more words than a file has are not well formed, or they are refused.
pub record AreInvalid (ps : List Piece) (labels : ℕ) (links : List ℕ) : Type 0 where
  pub few : words_taken ps ≤ MAX_DATA_WORDS
  pub refused : AreWellFormed ps labels → AreRefused ps labels links
