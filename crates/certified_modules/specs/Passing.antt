-- How what is known goes on over the pieces of one process, wherever in the code they are and however long, for whoever
-- can pay: straight pieces, instructions after which nothing goes on, jumps, rows and loops.
use Rattle.std.specs.Prelude.{◌≡◌, ◌⊎◌, ℕ, ◌+◌, ℤ, pos, List, [], ◌∷◌, ◌++◌, Option, Some, None, IfSome}
use Rattle.word_arithmetic.specs.Range.{Ends, IsRange}
use Rattle.module_format.specs.declared.fact.Fact.TheVariants.{Number}
use Rattle.module_format.specs.Stack.{of_empty}
use Rattle.states.specs.declared.known.Loop.{Loop as CountedLoop}
use Rattle.states.specs.declared.known.WordFact.TheVariants.{Index, Count}
use Rattle.states.specs.State.{Facts, unknown, with_fact}
use Rattle.local_rules.specs.WordRules.{number_in}
use Rattle.local_rules.specs.LoopRules.{last_index}
use Rattle.code_pieces.specs.declared.operations.TheConstants.{STOP_PROCESS}
use Rattle.code_pieces.specs.declared.piece.RowEntry.{RowEntry}
use Rattle.code_pieces.specs.Pieces.{Piece, Jump, JumpUnless, LoopBack, Row, Place, operates}
use Rattle.code_pieces.specs.Numbers.{turns_at}
use Rattle.certified_lines.specs.StraightRules.{Setting, Told, FallOn}
use Rattle.certified_lines.specs.Instructions.{MayWrite, word_pointer}
use Rattle.certified_lines.specs.Jumps.{fallen, jumped}
use Rattle.certified_modules.specs.RowsSay.{facts_said, Implies, Enters}

-- where code is, and what a turn of the loop with its head at each label costs
pub record Passage : Type 0 where
  pub setting : Setting
  pub weights : ℕ → ℕ

-- exactly what a row says; nothing is known of registers
abbrev pub told_by : Passage → List RowEntry → Told
told_by g es = record { stack = of_empty unknown; frame = facts_said g.weights es }

-- ---- labels further on

-- a label further on, and what its row says
pub record OpenLabel : Type 0 where
  pub label : ℕ
  pub entries : List RowEntry

abbrev pub open_label : ℕ → List RowEntry → OpenLabel
open_label l entries = record { label = l; entries = entries }

-- one of the labels is this one, with this row
abbrev pub IsOpen : List OpenLabel → ℕ → List RowEntry → Type 0
IsOpen [] l entries = ⊥
IsOpen (o ∷ opened) l entries = (o ≡ open_label l entries) ⊎ IsOpen opened l entries

-- ---- loops

-- what is known of words behind a loop whose block is at this word: the index is at its last number, and no turn is
-- left
abbrev pub after_turns : (word : ℕ) → (last : ℤ) → Facts → Facts
after_turns word last f =
    with_fact (pos word) (Number last last) (with_fact (pos (word + 1)) (Number (pos 0) (pos 0)) f)

-- At the end of a turn the address of the loop's block is in A, and the row at the head is implied again.
pub record EndsTurn (g : Passage) (head : ℕ) (entries : List RowEntry) (word : ℕ) (last : ℤ) (t : Told) : Type 0 where
  pub loop : CountedLoop
  pub weight : loop.weight ≡ g.weights head
  pub block : t.stack.a.fact ≡ word_pointer word
  pub index : t.frame (pos word) ≡ Index loop
  pub count : t.frame (pos (word + 1)) ≡ Count loop
  pub ends : last_index loop ≡ Some last
  pub writes_index : MayWrite g.setting word
  pub writes_count : MayWrite g.setting (word + 1)
  pub again : Implies g.weights t.frame entries

-- ---- pieces

-- Pieces pass, from what is told before them to what is told behind them. Where nothing is told, nothing goes on. Jumps
-- lead to rows in these pieces, or to labels further on.
pub data PassOn (g : Passage) : List OpenLabel → Option Told → List Piece → Option Told → Type 0 where
  none : {opened : List OpenLabel} {s : Option Told} → PassOn g opened s [] s
  -- one after the other
  both : {opened : List OpenLabel} {s t u : Option Told} {ps qs : List Piece} → PassOn g opened s ps t
      → PassOn g opened t qs u → PassOn g opened s (ps ++ qs) u
  straight : {opened : List OpenLabel} {s t : Told} {ps : List Piece} → FallOn g.setting ps s t
      → PassOn g opened (Some s) ps (Some t)
  stops : {opened : List OpenLabel} {s : Told} → PassOn g opened (Some s) (operates STOP_PROCESS ∷ []) None
  places : {opened : List OpenLabel} {s : Option Told} {l : ℕ} → PassOn g opened s (Place l ∷ []) s
  -- what is known implies the row to which the jump leads
  jumps : {opened : List OpenLabel} {s : Told} {l : ℕ} (entries : List RowEntry) → IsOpen opened l entries
      → Implies g.weights s.frame entries → PassOn g opened (Some s) (Jump l ∷ []) None
  -- so it does where the truth in A does not hold
  tests : {opened : List OpenLabel} {s : Told} {l : ℕ} (r : Ends) (entries : List RowEntry) → IsOpen opened l entries
      → s.stack.a.fact ≡ number_in r → IsRange r → Implies g.weights (jumped s).frame entries
      → PassOn g opened (Some s) (JumpUnless l ∷ []) (Some (fallen s))
  -- Pieces that may jump to the row behind them. What falls in there implies it, if anything does.
  closes : {opened : List OpenLabel} {s t : Option Told} {ps : List Piece} {l : ℕ} {entries : List RowEntry}
      → PassOn g (open_label l entries ∷ opened) s ps t → IfSome t (λ told. Implies g.weights told.frame entries)
      → PassOn g opened s (ps ++ Row l entries ∷ []) (Some (told_by g entries))
  -- A loop, with its head, what is executed in a turn, the end of a turn, and the row behind it. What falls in enters
  -- it.
  loops : {opened : List OpenLabel} {s : Option Told} {t : Told} {head count : ℕ} {entries : List RowEntry}
      {body : List Piece} (behind word : ℕ) (last : ℤ) (left : List RowEntry)
      → IfSome s (λ told. Enters g.weights told.frame head count entries) → turns_at head entries ≡ Some count
      → PassOn g opened (Some (told_by g entries)) body (Some t) → EndsTurn g head entries word last t
      → Implies g.weights (after_turns word last t.frame) left
      → PassOn g opened s (Row head entries ∷ body ++ LoopBack head behind ∷ Row behind left ∷ [])
      (Some (told_by g left))
