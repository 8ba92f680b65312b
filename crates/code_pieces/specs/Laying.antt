-- The code of a program as a draft has it: items over labels, and the rows at them with their numbers.
use Rattle.std.specs.Prelude.{ℕ, zero, suc, ◌+◌, ◌*◌, ◌&&◌, max, nat_eq, ℤ, pos, ◌-ℤ◌, Bool, true, false, List, [], ◌∷◌}
use Rattle.std.specs.Prelude.{◌++◌, length, unsigned_abs, if◌then◌else◌, Option, Some}
use Rattle.std.specs.Ordering.{int_eq}
use Rattle.prefix_decoder.specs.declared.function.Fun.{Fun}
use Rattle.prefix_decoder.specs.declared.function.Fun.TheVariants as fun
use Rattle.module_format.specs.declared.fact.Fact.{Fact}
use Rattle.module_format.specs.declared.fact.Fact.TheVariants as facts
use Rattle.module_builder.specs.declared.item.Label.{Label}
use Rattle.module_builder.specs.declared.item.Operand.TheVariants as operands
use Rattle.module_builder.specs.declared.item.Item.{Item}
use Rattle.module_builder.specs.declared.item.Item.TheVariants as items
use Rattle.module_builder.specs.Drafts as drafts
use Rattle.code_pieces.specs.declared.piece.WordFact.{WordFact}
use Rattle.code_pieces.specs.declared.piece.WordFact.TheVariants.{Between, Turning}
use Rattle.code_pieces.specs.declared.piece.RowEntry.{RowEntry}
use Rattle.code_pieces.specs.declared.piece.Workspace.{Workspace}
use Rattle.code_pieces.specs.declared.saying.Said as saying
use Rattle.code_pieces.specs.declared.operations.TheConstants.{LOOP_END, START_PROCESS, ALTERNATION_END}
use Rattle.code_pieces.specs.declared.words.TheConstants.{WORKSPACE_WORDS}
use Rattle.code_pieces.specs.Pars as pars
use Rattle.code_pieces.specs.Pars.{in_root}
use Rattle.code_pieces.specs.Pieces.{Piece, Direct, Jump, JumpUnless, LoopBack, Distance, StartBranch, Select}
use Rattle.code_pieces.specs.Pieces.{TableAddress, Row, Place, Within, Par, constant}
use Rattle.code_pieces.specs.Numbers.{Numbered, number_at, with_number, Needs}

-- ---- rows kept apart

abbrev pub is_row : Piece → Bool
is_row (Row l entries) = true
is_row p = false

-- a piece with what is put before it, where a row may have been right before
abbrev pub apart_piece : Bool → Piece → List Piece
apart_piece at_row p = if at_row && is_row p then constant (pos 0) ∷ p ∷ [] else p ∷ []

-- a row may be right before what is after a piece
abbrev pub at_row_behind : Piece → Bool → Bool
at_row_behind (Row l entries) at_row = true
at_row_behind (Place l) at_row = at_row
at_row_behind (Within workspace) at_row = at_row
at_row_behind (Par par) at_row = at_row
at_row_behind p at_row = false

-- No row is at the code's start, and no two are at one place: `ldc 0` is put before one that would be.
abbrev pub apart_from : Bool → List Piece → List Piece
apart_from at_row [] = []
apart_from at_row (p ∷ ps) = apart_piece at_row p ++ apart_from (at_row_behind p at_row) ps

abbrev pub apart : List Piece → List Piece
apart ps = apart_from true ps

-- ---- workspaces

-- where the workspace is after a piece
abbrev pub workspace_behind : Piece → Workspace → Workspace
workspace_behind (Within workspace) before = workspace
workspace_behind p before = before

-- Words of the frame are counted from the workspace.
abbrev pub operand_at : ℤ → Fun → ℤ → ℤ
operand_at depth fun.LoadLocal word = word -ℤ depth
operand_at depth fun.StoreLocal word = word -ℤ depth
operand_at depth fun.LoadLocalPointer word = word -ℤ depth
operand_at depth f operand = operand

-- ---- tables

abbrev pub are_same : List ℤ → List ℤ → Bool
are_same [] [] = true
are_same (x ∷ xs) (y ∷ ys) = int_eq x y && are_same xs ys
are_same xs ys = false

-- where a table begins among these, each of which has a word for each of its values
abbrev pub offset_in : List (List ℤ) → List ℤ → ℕ
offset_in [] values = 0
offset_in (t ∷ ts) values = if are_same t values then 0 else 4 * length t + offset_in ts values

abbrev pub with_table : List ℤ → List (List ℤ) → List (List ℤ)
with_table values [] = values ∷ []
with_table values (t ∷ ts) = if are_same t values then t ∷ ts else t ∷ with_table values ts

-- the tables that code reads, each once, in the order in which they are first read
abbrev pub tables_before : List (List ℤ) → List Piece → List (List ℤ)
tables_before ts [] = ts
tables_before ts (TableAddress values ∷ ps) = tables_before (with_table values ts) ps
tables_before ts (p ∷ ps) = tables_before ts ps

-- ---- items

abbrev pub label : ℕ → Label
label n = record { index = n }

abbrev pub operation : ℤ → Item
operation op = items.Instruction fun.Operate (operands.Number op)

abbrev pub distance : ℕ → ℕ → Item
distance from to = items.Instruction fun.LoadConstant (operands.Between (label from) (label to))

-- the items of a piece, where the workspace has this depth
abbrev pub items_in : List (List ℤ) → ℤ → Piece → List Item
items_in ts depth (Direct f operand) = items.Instruction f (operands.Number (operand_at depth f operand)) ∷ []
items_in ts depth (Jump to) = items.Instruction fun.Jump (operands.DistanceTo (label to)) ∷ []
items_in ts depth (JumpUnless to) = items.Instruction fun.ConditionalJump (operands.DistanceTo (label to)) ∷ []
items_in ts depth (LoopBack head behind) = distance head behind ∷ operation LOOP_END ∷ []
items_in ts depth (Distance from to) = distance from to ∷ []
items_in ts depth (StartBranch entry successor) = operation START_PROCESS ∷ []
items_in ts depth (Select targets) = operation ALTERNATION_END ∷ []
items_in ts depth (TableAddress values) = items.ConstantAddress (offset_in ts values) ∷ []
items_in ts depth p = []

abbrev pub items_from : Workspace → List (List ℤ) → List Piece → List Item
items_from workspace ts [] = []
items_from workspace ts (p ∷ ps) =
    items_in ts workspace.depth p ++ items_from (workspace_behind p workspace) ts ps

abbrev pub items_of : List (List ℤ) → List Piece → List Item
items_of ts ps = items_from in_root ts ps

-- how many items are before each label
abbrev pub placed_from : ℕ → List Piece → List Numbered
placed_from count [] = []
placed_from count (Row l entries ∷ ps) = with_number l count (placed_from count ps)
placed_from count (Place l ∷ ps) = with_number l count (placed_from count ps)
placed_from count (p ∷ ps) = placed_from (count + length (items_in [] (pos 0) p)) ps

abbrev pub places_of : ℕ → List Numbered → List (Option ℕ)
places_of zero placed = []
places_of (suc n) placed = places_of n placed ++ Some (number_at n placed) ∷ []

-- The items, and the labels with one more at the end of the code, where the program is finished.
abbrev pub draft_code : List Piece → ℕ → drafts.Code
draft_code ps labels =
    let items = items_of (tables_before [] ps) ps in
    record { items = items; labels = places_of labels (placed_from 0 ps) ++ Some (length items) ∷ [] }

-- ---- numbers

abbrev pub first_two : List ℕ → ℕ
first_two [] = 0
first_two (a ∷ []) = a
first_two (a ∷ b ∷ ns) = a + b

abbrev pub without_two : List ℕ → List ℕ
without_two [] = []
without_two (a ∷ []) = []
without_two (a ∷ b ∷ ns) = ns

abbrev pub first_one : List ℕ → ℕ
first_one [] = 0
first_one (a ∷ ns) = a

abbrev pub without_one : List ℕ → List ℕ
without_one [] = []
without_one (a ∷ ns) = ns

-- the bytes of a piece, whose items have the first of these lengths, and the lengths of the items after it
abbrev pub size_of : Piece → List ℕ → ℕ
size_of (LoopBack head behind) lengths = first_two lengths
size_of (Row l entries) lengths = 0
size_of (Place l) lengths = 0
size_of (Within workspace) lengths = 0
size_of (Par par) lengths = 0
size_of p lengths = first_one lengths

abbrev pub lengths_behind : Piece → List ℕ → List ℕ
lengths_behind (LoopBack head behind) lengths = without_two lengths
lengths_behind (Row l entries) lengths = lengths
lengths_behind (Place l) lengths = lengths
lengths_behind (Within workspace) lengths = lengths
lengths_behind (Par par) lengths = lengths
lengths_behind p lengths = without_one lengths

-- the bytes of each piece, by those of the items
abbrev pub sizes_of : List Piece → List ℕ → List ℕ
sizes_of [] lengths = []
sizes_of (p ∷ ps) lengths = size_of p lengths ∷ sizes_of ps (lengths_behind p lengths)

-- ---- rows

-- what a certificate says of some words
abbrev pub Said : Type 0
Said = saying.Said

abbrev pub said_fact : List Numbered → WordFact → Fact ℕ
said_fact weights (Between lo hi) = facts.Number lo hi
said_fact weights (Turning head base count) = facts.Loop base count (number_at head weights)

abbrev pub is_same_range : Fact ℕ → Fact ℕ → Bool
is_same_range (facts.Number a b) (facts.Number c d) = int_eq a c && int_eq b d
is_same_range f g = false

-- neighbours with one range share an entry
abbrev pub joins : Said → Said → Bool
joins s t = nat_eq (s.word + s.span) t.word && is_same_range s.fact t.fact

abbrev pub with_said : Said → List Said → List Said
with_said s [] = s ∷ []
with_said s (t ∷ ts) =
    if joins s t then record { word = s.word; span = s.span + t.span; fact = s.fact } ∷ ts else s ∷ t ∷ ts

abbrev pub said : List Numbered → List RowEntry → List Said
said weights [] = []
said weights (e ∷ es) =
    with_said (record { word = e.word; span = e.span; fact = said_fact weights e.fact }) (said weights es)

pub record SaidRow : Type 0 where
  pub label : ℕ
  pub workspace : Workspace
  pub number : ℕ
  pub entries : List Said

abbrev pub said_rows_from : Workspace → Needs → List Piece → List SaidRow
said_rows_from workspace n [] = []
said_rows_from workspace n (Row l entries ∷ ps) = record {
  label = l;
  workspace = workspace;
  number = number_at l n.labels;
  entries = said n.weights entries;
} ∷ said_rows_from workspace n ps
said_rows_from workspace n (Within other ∷ ps) = said_rows_from other n ps
said_rows_from workspace n (p ∷ ps) = said_rows_from workspace n ps

abbrev pub said_rows : Needs → List Piece → List SaidRow
said_rows n ps = said_rows_from in_root n ps

-- the PARs of code
abbrev pub pars_of : List Piece → List pars.Par
pars_of [] = []
pars_of (Par par ∷ ps) = par ∷ pars_of ps
pars_of (p ∷ ps) = pars_of ps

-- ---- words

-- one above the highest word that an instruction names
abbrev pub word_above : Fun → ℤ → ℕ
word_above fun.LoadLocal n = unsigned_abs n + 1
word_above fun.StoreLocal n = unsigned_abs n + 1
word_above fun.LoadLocalPointer n = unsigned_abs n + 1
word_above f n = 0

-- one above the highest word that code names or that is at a workspace
abbrev pub words_named : List Piece → ℕ
words_named [] = 0
words_named (Direct f n ∷ ps) = max (word_above f n) (words_named ps)
words_named (Within workspace ∷ ps) = max (unsigned_abs workspace.depth + WORKSPACE_WORDS) (words_named ps)
words_named (p ∷ ps) = words_named ps

-- At each workspace, that of the root too, two words are for the selection of an alternation and the block of a PAR.
abbrev pub words_taken : List Piece → ℕ
words_taken ps = max WORKSPACE_WORDS (words_named ps)
