-- The numbers of a program: how many bytes are executed at most from each label on, and what a turn of each loop costs.
-- They are found from the last piece to the first, apart from what is known of words.
use Rattle.std.specs.Prelude.{ℕ, ◌+◌, ◌-◌, ◌*◌, max, nat_eq, ◌||◌, ℤ, Bool, false, List, [], ◌∷◌, if◌then◌else◌}
use Rattle.std.specs.Prelude.{Option, Some, None}
use Rattle.prefix_decoder.specs.declared.function.Fun.{Fun}
use Rattle.prefix_decoder.specs.declared.function.Fun.TheVariants as fun
use Rattle.std.specs.Ordering.{int_eq}
use Rattle.code_pieces.specs.declared.operations.TheConstants.{STOP_PROCESS, END_PROCESS}
use Rattle.code_pieces.specs.declared.piece.WordFact.{WordFact}
use Rattle.code_pieces.specs.declared.piece.WordFact.TheVariants.{Between, Turning}
use Rattle.code_pieces.specs.declared.piece.RowEntry.{RowEntry}
use Rattle.code_pieces.specs.Pieces.{Piece, Direct, Jump, JumpUnless, LoopBack, StartBranch, Select, Row}

-- a number for a label
pub record Numbered : Type 0 where
  pub label : ℕ
  pub number : ℕ

-- 0 for a label that has none
abbrev pub number_at : ℕ → List Numbered → ℕ
number_at label [] = 0
number_at label (n ∷ ns) = if nat_eq n.label label then n.number else number_at label ns

abbrev pub with_number : ℕ → ℕ → List Numbered → List Numbered
with_number label number ns = record { label = label; number = number } ∷ ns

-- What is known after a piece: how many bytes are executed from there on at most; of each label further on the same;
-- of each loop that ends further on, by its head, what is executed after it; and of each loop whose head is further
-- on, what a turn costs.
pub record Needs : Type 0 where
  pub need : ℕ
  pub labels : List Numbered
  pub ends : List Numbered
  pub weights : List Numbered

abbrev pub nothing_needed : Needs
nothing_needed = record { need = 0; labels = []; ends = []; weights = [] }

abbrev pub needs : ℕ → Needs → Needs
needs n after = record after { need = n }

-- `stopp` and `endp`
abbrev pub stops : ℤ → Bool
stops operation = int_eq operation STOP_PROCESS || int_eq operation END_PROCESS

-- nothing is executed after an instruction
abbrev pub is_stop : Fun → ℤ → Bool
is_stop fun.Operate operand = stops operand
is_stop f operand = false

-- how many turns a loop has, if it has its head at this label; or else what others say
abbrev pub turns_of : ℕ → WordFact → Option ℕ → Option ℕ
turns_of label (Between lo hi) others = others
turns_of label (Turning head base count) others = if nat_eq head label then Some count else others

abbrev pub turns_at : ℕ → List RowEntry → Option ℕ
turns_at label [] = None
turns_at label (e ∷ es) = turns_of label e.fact (turns_at label es)

-- At the head of a loop a turn costs what is executed from here on, less what is after the loop; the first turn is
-- paid with what is needed here, and the others with their weight.
abbrev pub at_head : ℕ → Option ℕ → Needs → Needs
at_head label None after = after
at_head label (Some count) after =
    let weight = after.need - number_at label after.ends in
    record after {
      need = after.need + weight * (count - 1);
      weights = with_number label weight after.weights;
    }

-- the largest number of these labels
abbrev pub largest_at : List ℕ → List Numbered → ℕ
largest_at [] ns = 0
largest_at (label ∷ labels) ns = max (number_at label ns) (largest_at labels ns)

-- what the opener of a PAR executes after it, which is paid at the first start
abbrev pub successor_need : Option ℕ → List Numbered → ℕ
successor_need None ns = 0
successor_need (Some label) ns = number_at label ns

-- what is executed after a start, by the branch too
abbrev pub start_need : ℕ → Option ℕ → Needs → ℕ
start_need entry successor after =
    after.need + number_at entry after.labels + successor_need successor after.labels

-- before a piece of this number of bytes
abbrev pub needed_before : Piece → ℕ → Needs → Needs
needed_before (Direct f operand) bytes after =
    if is_stop f operand then needs bytes after else needs (bytes + after.need) after
needed_before (Jump to) bytes after = needs (bytes + number_at to after.labels) after
needed_before (JumpUnless to) bytes after = needs (bytes + max after.need (number_at to after.labels)) after
needed_before (LoopBack head behind) bytes after = record after {
  need = bytes + after.need;
  ends = with_number head after.need after.ends;
}
needed_before (StartBranch entry successor) bytes after = needs (bytes + start_need entry successor after) after
needed_before (Select targets) bytes after = needs (bytes + largest_at targets after.labels) after
needed_before (Row label entries) bytes after =
    at_head label (turns_at label entries)
    (record after { labels = with_number label after.need after.labels })
needed_before p bytes after = needs (bytes + after.need) after

-- how many bytes are executed at most from the first of these pieces on, which have these sizes
abbrev pub needs_of : List Piece → List ℕ → Needs
needs_of [] sizes = nothing_needed
needs_of (p ∷ ps) [] = nothing_needed
needs_of (p ∷ ps) (n ∷ ns) = needed_before p n (needs_of ps ns)
