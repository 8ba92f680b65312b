-- Where pieces lie in code that is laid out: each instruction is fetched where it begins, and leads to the labels and
-- the tables that its piece names.
use Rattle.std.specs.Prelude.{◌≡◌, ⊤, ℕ, ◌+◌, ◌*◌, ◌-◌, ◌%◌, ◌^◌, ◌<◌, ◌⊎◌, ℤ, pos, ◌-ℤ◌, List, [], ◌∷◌, ◌++◌, length}
use Rattle.std.specs.Prelude.{FitsSigned, sum, Ok}
use Rattle.std.specs.Int.{w32}
use Rattle.std.specs.List.{AllByRecursion}
use Rattle.std.specs.Option.{option_to_list}
use Rattle.prefix_decoder.specs.declared.function.Fun.{Fun}
use Rattle.prefix_decoder.specs.declared.function.Fun.TheVariants as fun
use Rattle.prefix_decoder.specs.Fetching.{fetched}
use Rattle.machine_state.specs.LocalStep.{address, target, word_of}
use Rattle.machine_state.specs.Memory.{data_start}
use Rattle.machine_state.specs.Waiting.{AllDiffer}
use Rattle.module_builder.specs.Layouts.{offset, place}
use Rattle.module_builder.specs.Spelling.{spelled, constants_start}
use Rattle.code_pieces.specs.declared.modules.TheConstants.{BASE}
use Rattle.code_pieces.specs.declared.operations.TheConstants.{START_PROCESS, ALTERNATION_END, LOOP_END}
use Rattle.code_pieces.specs.declared.operations.TheConstants.{LOAD_POINTER_TO_INSTRUCTION}
use Rattle.code_pieces.specs.Pars.{in_root}
use Rattle.code_pieces.specs.declared.piece.Workspace.{Workspace}
use Rattle.code_pieces.specs.Pieces.{Piece, Direct, Jump, JumpUnless, LoopBack, Distance, StartBranch, Select}
use Rattle.code_pieces.specs.Pieces.{TableAddress, Row, Place, Within, Par}
use Rattle.code_pieces.specs.Placing.{label_in}
use Rattle.code_pieces.specs.Laying.{operand_at, items_in, workspace_behind, label, draft_code, offset_in}
use Rattle.code_pieces.specs.Laying.{tables_before}
use Rattle.code_pieces.specs.Laying.{words_taken}
use Rattle.code_pieces.specs.LaidModule.{Says}
use Rattle.placed_code.specs.StraightPieces.{Footing}

-- The address of the code and its bytes, the offset of each label, and where the code runs.
pub record LaidCode : Type 0 where
  pub start : ℕ
  pub code : List ℕ
  pub labels : ℕ → ℕ
  pub footing : Footing

-- ---- where pieces lie

-- this instruction is fetched at the one offset, and ends at the other
pub record Fetches (code : List ℕ) (at : ℕ) (f : Fun) (e : ℤ) (to : ℕ) : Type 0 where
  pub len : ℕ
  pub there : fetched code at ≡ Ok (record { fun = f; operand = e; len = len })
  pub ends : at + len ≡ to

-- so is an instruction whose operand leads from its end to this label
pub record Reaches (c : LaidCode) (at : ℕ) (f : Fun) (l to : ℕ) : Type 0 where
  pub operand : ℤ
  pub fetches : Fetches c.code at f operand to
  pub reaches : target to operand ≡ c.labels l

-- `ldc` and `lend`, which goes back to the head of a loop if the label after the loop is after it
pub record LoopsBack (c : LaidCode) (at head behind to : ℕ) : Type 0 where
  pub distance : ℤ
  pub middle : ℕ
  pub loads : Fetches c.code at fun.LoadConstant distance middle
  pub loops : Fetches c.code middle fun.Operate LOOP_END to
  pub back : c.labels behind ≡ to → target to (word_of ((2 ^ 32 - address distance) % 2 ^ 32)) ≡ c.labels head

-- `ldc`, maybe `adc 0`, and `ldpi`, which makes the address of the table
pub record LoadsTable (c : LaidCode) (at : ℕ) (values : List ℤ) (to : ℕ) : Type 0 where
  pub distance : ℤ
  pub word : FitsSigned w32 distance
  pub middle : ℕ
  pub last : ℕ
  pub loads : Fetches c.code at fun.LoadConstant distance middle
  pub fills : (middle ≡ last) ⊎ Fetches c.code middle fun.AddConstant (pos 0) last
  pub points : Fetches c.code last fun.Operate LOAD_POINTER_TO_INSTRUCTION to
  pub reaches : ((c.start + to) % 2 ^ 32 + address distance) % 2 ^ 32 ≡ c.footing.tables values

-- a piece lies between two offsets of the code, at the workspace where that runs
abbrev pub IsAt : LaidCode → ℕ → Piece → ℕ → Type 0
IsAt c at (Direct f e) to = Fetches c.code at f (operand_at (pos c.footing.depth) f e) to
IsAt c at (Jump l) to = Reaches c at fun.Jump l to
IsAt c at (JumpUnless l) to = Reaches c at fun.ConditionalJump l to
IsAt c at (LoopBack head behind) to = LoopsBack c at head behind to
IsAt c at (Distance from end) to =
    Fetches c.code at fun.LoadConstant (pos (c.labels end) -ℤ pos (c.labels from)) to
IsAt c at (StartBranch entry successor) to = Fetches c.code at fun.Operate START_PROCESS to
IsAt c at (Select targets) to = Fetches c.code at fun.Operate ALTERNATION_END to
IsAt c at (TableAddress values) to = LoadsTable c at values to
IsAt c at (Row l entries) to = (at ≡ to) × (c.labels l ≡ to)
IsAt c at (Place l) to = (at ≡ to) × (c.labels l ≡ to)
IsAt c at (Within workspace) to = (at ≡ to) × (workspace.depth ≡ pos c.footing.depth)
IsAt c at (Par par) to = at ≡ to

-- so do pieces, one after the other
pub data Lie (c : LaidCode) : ℕ → List Piece → ℕ → Type 0 where
  none : {at : ℕ} → Lie c at [] at
  more : {at middle to : ℕ} {p : Piece} {ps : List Piece} → IsAt c at p middle → Lie c middle ps to
      → Lie c at (p ∷ ps) to

-- ---- code that is laid out

-- of pieces with this number of labels, whose items have these lengths, at a workspace at this word of the frame
abbrev pub laid_code : List Piece → ℕ → List ℕ → ℕ → LaidCode
laid_code ps labels lengths depth =
    let code = draft_code ps labels in
    let start = data_start + 4 * (BASE + words_taken ps) in
    record {
      start = start;
      code = spelled code lengths;
      labels = λ l. place code lengths (label l);
      footing = record {
        depth = depth;
        tables = λ values.
            (start + (constants_start (sum lengths) + offset_in (tables_before [] ps) values)) % 2 ^ 32;
      };
    }

-- how many items pieces have
abbrev pub item_count : List Piece → ℕ
item_count [] = 0
item_count (p ∷ ps) = length (items_in [] (pos 0) p) + item_count ps

-- where the workspace is after pieces
abbrev pub workspace_after : List Piece → Workspace → Workspace
workspace_after [] before = before
workspace_after (p ∷ ps) before = workspace_after ps (workspace_behind p before)

-- the labels that pieces place, in order
abbrev pub labels_in : List Piece → List ℕ
labels_in [] = []
labels_in (p ∷ ps) = option_to_list (label_in p) ++ labels_in ps

-- each label is placed once, and is one of those that are made
pub record LabelsArePlacedOnce (ps : List Piece) (labels : ℕ) : Type 0 where
  pub once : AllDiffer (labels_in ps)
  pub made : AllByRecursion (λ l. l < labels) (labels_in ps)

-- an operand is a word, and the workspace stays at this word of the frame
abbrev pub StaysAt : ℕ → Piece → Type 0
StaysAt depth (Direct f e) = FitsSigned w32 (operand_at (pos depth) f e)
StaysAt depth (Within workspace) = workspace.depth ≡ pos depth
StaysAt depth p = ⊤

-- these pieces are a part of others, after the first ones, where the workspace is at this word of the frame
pub record IsPart (ps before part : List Piece) (depth : ℕ) : Type 0 where
  pub rest : List Piece
  pub whole : ps ≡ before ++ part ++ rest
  pub workspace : (workspace_after before in_root).depth ≡ pos depth
  pub stays : AllByRecursion (StaysAt depth) part

-- Where a module says its pieces, each of which places labels of its own, they lie in its code: a part of them from
-- the end of the items before it to the end of its own.
abbrev pub PiecesLie : Type 0
PiecesLie = (ps : List Piece) (labels : ℕ) (links bytes : List ℕ) (says : Says ps labels links bytes)
    (before part : List Piece) (depth : ℕ) → LabelsArePlacedOnce ps labels → IsPart ps before part depth
    → Lie (laid_code ps labels says.arrangement.lengths depth)
    (offset says.arrangement.lengths (item_count before)) part
    (offset says.arrangement.lengths (item_count (before ++ part)))
