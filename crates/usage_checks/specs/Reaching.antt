-- The places to which the walk over a program comes, with what is known there, and what holds at each of them if the
-- program breaks no rule.
use Rattle.std.specs.Prelude.{◌≡◌, ℕ, ◌<◌, List, [], ◌∷◌, ◌++◌, length, ◌⊎◌}
use Rattle.occam_parser.specs.Terminals.{Terminal}
use Rattle.occam_parser.specs.Lines.{Declaration, Constants, Replicator, block_word}
use Rattle.occam_parser.specs.Blocks.{Process, Declared, Does, Construct, Act, Block, Replicated, Body, One, Part}
use Rattle.occam_parser.specs.Blocks.{Components, NoComponent, Further, Component, Plain, Chosen, Guarded, Procedure}
use Rattle.occam_parser.specs.Blocks.{ProgramItem, GlobalConstant, GlobalProcedure}
use Rattle.scalar_ranges.specs.Entries.{Entry}
use Rattle.scalar_ranges.specs.Moves.{Known}
use Rattle.program_uses.specs.Actions.{Around, is_before}
use Rattle.program_uses.specs.Changes.{changed_by_body}
use Rattle.program_uses.specs.Declaring.{add, add_declaration}
use Rattle.program_uses.specs.Indices.{is_sequence, Repeats, repeats_of, index_in, turn_by_turn}
use Rattle.program_uses.specs.Signatures.{Parameter}
use Rattle.usage_checks.specs.declared.channel_rules.Position.{Position}
use Rattle.program_uses.specs.declared.telling.UsageFault.{UsageFault}
use Rattle.usage_checks.specs.AfterProcesses.{begun, begun_body, chosen, after_components, after_component}
use Rattle.usage_checks.specs.Following.{after_guard}
use Rattle.usage_checks.specs.Holding.{ActionHolds, ConditionHolds, GuardHolds, ReplicatorHolds, DeclarationHolds}
use Rattle.usage_checks.specs.Holding.{FormalsHold}
use Rattle.usage_checks.specs.ItemRules.{in_body, body_position, Outside, outermost, around_in, weighed, BreaksWalk}
use Rattle.usage_checks.specs.ItemRules.{after_item, after_items, BreaksNoRule}
use Rattle.usage_checks.specs.MainRules.{is_main_name}
use Rattle.usage_checks.specs.NameRules.{with_entries}
use Rattle.usage_checks.specs.ProcessRules.{position_in, BreaksIn, BreaksComponent}
use Rattle.usage_checks.specs.Walking.{word_of}
use Rattle.usage_checks.specs.Whole.{IsWhole}

-- ---- places

-- what is known of the program at a place, and its position
pub record Standing : Type 0 where
  pub around : Around
  pub position : Position

-- a process, with how many names there were before its declarations, or a component of a block
pub data Piece : Type 0 where
  AProcess : (first : ℕ) → (process : Process) → Piece
  AComponent : {part : Part} → (component : Component part) → Piece

-- An item comes where this is known, its size counted.
abbrev pub Comes : Outside → ProgramItem → List ProgramItem → Outside → Type 0
Comes o item [] before = ⊥
Comes o item (first ∷ items) before =
    ((item ≡ first) × (o ≡ weighed first before)) ⊎ Comes o item items (after_item first before)

-- in the body of a procedure
abbrev pub in_procedure : Outside → Procedure → Standing
in_procedure o p = record {
  around = around_in o;
  position =
      body_position (is_main_name p.head.name) (length o.known.entries) (length (in_body p o.known).entries);
}

-- in a block with this word that begins where this is known
abbrev pub in_block : Terminal → Known → Standing → Standing
in_block word k s = record { around = s.around; position = position_in word (length k.entries) s.position }

-- how the body of a replicator is gone over
abbrev pub repeats_in : Around → ℕ → Replicator → Body → Known → Repeats
repeats_in a line r b k = repeats_of (is_before line a.uncounted) k.entries (is_sequence b) r

-- a turn of it, with its index
abbrev pub turn_of : Around → Replicator → Body → Repeats → ℕ → Known → Known
turn_of a r (One kind c) repeats n k =
    after_component a (block_word kind) c (with_entries (add r.name (index_in repeats n)) k)

-- where a turn begins
abbrev pub in_turn_of : Around → ℕ → Replicator → Body → Known → ℕ → Known
in_turn_of a line r b k n =
    let repeats = repeats_in a line r b k in
    let changed = changed_by_body a.signatures k.entries r b in
    with_entries (add r.name (index_in repeats n))
    (turn_by_turn (turn_of a r b repeats) n (begun_body (word_of b) changed repeats.happens k))

abbrev pub IsUnder : Body → Piece → Type 0
IsUnder (One kind c) piece = piece ≡ AComponent c

-- one of the components of a block, where those before it have ended
abbrev pub StandsAmong : {part : Part} → Around → Terminal → Components part → Known → Piece → Known → Type 0
StandsAmong a word NoComponent k piece l = ⊥
StandsAmong a word (Further cs c) k piece l =
    ((piece ≡ AComponent c) × (l ≡ after_components a word cs k)) ⊎ StandsAmong a word cs k piece l

-- a part of a construct: a component of a block, or that under a replicator in one of its turns
abbrev pub StandsIn : Standing → ℕ → Construct → Known → Standing → Piece → Known → Type 0
StandsIn s line (Act action) k t piece l = ⊥
StandsIn s line (Block kind cs) k t piece l =
    (t ≡ in_block (block_word kind) k s)
    × StandsAmong s.around (block_word kind) cs (begun (block_word kind) k) piece l
StandsIn s line (Replicated r b) k t piece l = (n : ℕ) × (t ≡ in_block (word_of b) k s) × IsUnder b piece
    × (n < (repeats_in s.around line r b k).turns.count) × (l ≡ in_turn_of s.around line r b k n)

-- the process of a component, and what is known where it begins
abbrev pub process_of : {part : Part} → Component part → Process
process_of (Plain p) = p
process_of (Chosen line e p) = p
process_of (Guarded line g p) = p

abbrev pub entered : {part : Part} → Component part → Known → Known
entered (Plain p) k = k
entered (Chosen line e p) k = chosen e k
entered (Guarded line g p) k = with_entries (after_guard g) k

-- The walk comes to this place, where this is known: to the body of each procedure, to what is after a declaration, to
-- each component of a block and under a replicator, and to the process of a component.
pub data Reaches (items : List ProgramItem) : Standing → Piece → Known → Type 0 where
  to_body : (o : Outside) (p : Procedure) → Comes o (GlobalProcedure p) items outermost
      → Reaches items (in_procedure o p) (AProcess (length (in_body p o.known).entries) p.body) (in_body p o.known)
  behind : (s : Standing) (first : ℕ) (d : Declaration) (p : Process) (k : Known)
      → Reaches items s (AProcess first (Declared d p)) k
      → Reaches items s (AProcess first p) (with_entries (add_declaration d) k)
  to_part : (s t : Standing) (first line : ℕ) (c : Construct) (piece : Piece) (k l : Known)
      → Reaches items s (AProcess first (Does line c)) k → StandsIn s line c k t piece l → Reaches items t piece l
  to_process : {part : Part} (s : Standing) (c : Component part) (k : Known) → Reaches items s (AComponent c) k
      → Reaches items s (AProcess (length (entered c k).entries) (process_of c)) (entered c k)

-- ---- what holds there

abbrev pub ConstructHolds : List (List Parameter) → List Entry → Construct → Type 0
ConstructHolds signatures es (Act action) = ActionHolds signatures es action
ConstructHolds signatures es (Block kind cs) = Unit {0}
ConstructHolds signatures es (Replicated r b) = ReplicatorHolds es r

abbrev pub ProcessHolds : List (List Parameter) → List Entry → Process → Type 0
ProcessHolds signatures es (Declared d p) = DeclarationHolds es d
ProcessHolds signatures es (Does line c) = ConstructHolds signatures es c

-- the condition or the guard of a component
abbrev pub ComponentHolds : {part : Part} → List Entry → Component part → Type 0
ComponentHolds es (Plain p) = Unit {0}
ComponentHolds es (Chosen line e p) = ConditionHolds es e
ComponentHolds es (Guarded line g p) = GuardHolds es g

abbrev pub PieceHolds : List (List Parameter) → List Entry → Piece → Type 0
PieceHolds signatures es (AProcess first p) = ProcessHolds signatures es p
PieceHolds signatures es (AComponent c) = ComponentHolds es c

abbrev pub BreaksPiece : Standing → Piece → Known → UsageFault → Type 0
BreaksPiece s (AProcess first p) k f = BreaksIn s.around s.position first p k f
BreaksPiece s (AComponent c) k f = BreaksComponent s.around s.position c k f

-- No rule is broken at a place and in it, but for what components share, which is checked for the whole body of a
-- procedure; the names there are whole, and its first line has what the rules require.
pub record IsRight (s : Standing) (piece : Piece) (k : Known) : Type 0 where
  pub unbroken : (f : UsageFault) → BreaksPiece s piece k f → ⊥
  pub whole : IsWhole (length s.around.signatures) k
  pub holds : PieceHolds s.around.signatures k.entries piece

abbrev pub ItemHolds : List Entry → ProgramItem → Type 0
ItemHolds es (GlobalConstant c) = DeclarationHolds es (Constants c)
ItemHolds es (GlobalProcedure p) = FormalsHold es p.head.formals

-- the same of an item and its head
pub record ItemIsRight (o : Outside) (item : ProgramItem) : Type 0 where
  pub unbroken : (f : UsageFault) → BreaksWalk item o f → ⊥
  pub whole : IsWhole (length o.signatures) o.known
  pub holds : ItemHolds o.known.entries item

-- ---- laws

-- Where a program breaks no rule, each place to which the walk comes is right.
abbrev pub PlacesHold : Type 0
PlacesHold = (items : List ProgramItem) (s : Standing) (piece : Piece) (k : Known) → BreaksNoRule items
    → Reaches items s piece k → IsRight s piece k

abbrev pub ItemsHold : Type 0
ItemsHold = (items : List ProgramItem) (o : Outside) (item : ProgramItem) → BreaksNoRule items
    → Comes o item items outermost → ItemIsRight o item

-- The procedures before an item have the same numbers and parameters among all of them.
abbrev pub SignaturesStay : Type 0
SignaturesStay = (items : List ProgramItem) (o : Outside) (item : ProgramItem) → Comes o item items outermost
    → (later : List (List Parameter)) × ((after_items items).signatures ≡ o.signatures ++ later)
