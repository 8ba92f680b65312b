-- What a sequential process leaves of the scope around it: the ranges of indices, and where words are.
use Rattle.std.specs.Prelude.{◌≡◌, ⊤, ℕ, ◌≤◌, Bool, true, false, List, [], ◌∷◌, length, Option, Some, None}
use Rattle.occam_layout.specs.declared.mark.Mark.TheVariants as mark
use Rattle.occam_parser.specs.Terminals.{Mark}
use Rattle.occam_parser.specs.Lines.{Replicator}
use Rattle.occam_parser.specs.Blocks.{Process, Construct, Part, Components, Further, Component, Chosen}
use Rattle.scalar_ranges.specs.Entries.{Entry}
use Rattle.scalar_ranges.specs.MoveLaws.{shape}
use Rattle.scalar_ranges.specs.Moves.{Known, Block, outermost, begun_with, widen, begin, begin_loop, end}
use Rattle.scalar_ranges.specs.Narrowing.{narrow}
use Rattle.program_uses.specs.Actions.{Around}
use Rattle.program_uses.specs.Changes.{changed_by_component}
use Rattle.program_uses.specs.Declaring.{add}
use Rattle.program_uses.specs.Indices.{Repeats, index_in, index_meaning, repeats_of, turn_by_turn}
use Rattle.program_meaning.specs.Sequential.{AreSequential, IsSequential, IsSequentialConstruct, IsSequentialComponent}
use Rattle.usage_checks.specs.AfterProcesses.{inside, after_construct, after_components, after_component}
use Rattle.usage_checks.specs.NameRules.{with_entries}
use Rattle.usage_checks.specs.Outlines.{IsMadeOf}
use Rattle.usage_checks.specs.Reaching.{process_of, entered}
use Rattle.usage_checks.specs.TypedRanges.{AreInTypes}
use Rattle.line_pieces.specs.Declarations.{Frame}
use Rattle.certified_lines.specs.Scopes.{Scene}
use Rattle.certified_scopes.specs.Settled.{AreOrdered, IsSettled}
use Rattle.certified_scopes.specs.Within.{indices_of, LieWithin}

-- The block around begins with the outermost names.
abbrev pub IsInside : Known → Type 0
IsInside k = begun_with k.blocks ≤ length k.entries

-- Where a process ends, the indices around it have the ranges that they had where it began; so have those around a
-- construct, and around the components of a SEQ.
pub record IndicesAreKept : Type 0 where
  pub processes : (a : Around) (p : Process) (k : Known) → IsSequential p → IsInside k
      → indices_of (outermost (length k.entries) (inside a p k).entries) ≡ indices_of k.entries
  pub constructs : (a : Around) (line : ℕ) (c : Construct) (k : Known) → IsSequentialConstruct c → IsInside k
      → indices_of (after_construct a line c k).entries ≡ indices_of k.entries
  pub components : {part : Part} (a : Around) (cs : Components part) (k : Known) → IsMadeOf (Mark mark.Seq) part
      → AreSequential (Mark mark.Seq) cs → IsInside k
      → indices_of (after_components a (Mark mark.Seq) cs k).entries ≡ indices_of k.entries

-- So the scope around a process is settled where it ends, if ranges are of words there.
abbrev pub ProcessesLeaveScopesSettled : Type 0
ProcessesLeaveScopesSettled = (g : Scene) (f : Frame) (a : Around) (p : Process) (k : Known) → IsSequential p
    → IsInside k → AreInTypes (outermost (length k.entries) (inside a p k).entries)
    → AreOrdered (outermost (length k.entries) (inside a p k).entries) → IsSettled g f k.entries
    → IsSettled g f (outermost (length k.entries) (inside a p k).entries)

-- ---- turns of loops

-- the variables that the body of a loop changes
abbrev pub changed_in : {part : Part} → Around → Replicator → Component part → Known → List ℕ
changed_in a r c k = changed_by_component a.signatures (add r.name (index_meaning true None) k.entries) c

-- what is known at its head, and where a turn ends
abbrev pub at_head : {part : Part} → Around → Replicator → Component part → Bool → Known → Known
at_head a r c counted k =
    with_entries (add r.name (index_in (repeats_of counted k.entries true r) 0)) (begin_loop (changed_in a r c k) k)

abbrev pub turn_ended : {part : Part} → Around → Replicator → Component part → Bool → Known → Known
turn_ended a r c counted k = after_component a (Mark mark.Seq) c (at_head a r c counted k)

-- Where a turn ends, what is known lies within what is known at the head; and that of the names around, within what is
-- known after the loop.
abbrev pub TurnsLieWithin : Type 0
TurnsLieWithin = (part : Part) (a : Around) (r : Replicator) (c : Component part) (counted : Bool) (k : Known)
    → IsMadeOf (Mark mark.Seq) part → IsSequentialComponent (Mark mark.Seq) c
    → AreInTypes (turn_ended a r c counted k).entries
    → LieWithin (turn_ended a r c counted k).entries (at_head a r c counted k).entries
    × LieWithin (outermost (length k.entries) (turn_ended a r c counted k).entries)
    (widen (changed_in a r c k) k.entries)

-- ---- choices

-- what is known after the branches of the innermost block that have ended, if one has
abbrev pub ends_so_far : List Block → Option (List Entry)
ends_so_far [] = None
ends_so_far (b ∷ bs) = b.ends

-- After a choice more, what is known at its end and what was known after those before it lie within what is known after
-- all of them so far.
pub record LieWithinEnds (before after : Known) (here : List Entry) : Type 0 where
  pub choice : LieWithin here (end after).entries
  pub earlier : (ds : List Entry) → ends_so_far before.blocks ≡ Some ds → LieWithin ds (end after).entries
  pub ended : ends_so_far after.blocks ≡ Some (end after).entries

-- So it is with each choice of an `IF`, and in each turn of one under a replicator.
pub record ChoicesLieWithin : Type 0 where
  pub choices : {part : Part} (a : Around) (cs : Components part) (c : Component part) (k : Known)
      → IsMadeOf (Mark mark.If) part → AreSequential (Mark mark.If) (Further cs c)
      → let x = after_components a (Mark mark.If) cs (begin k) in
      LieWithinEnds x (after_component a (Mark mark.If) c x)
      (outermost (length k.entries) (inside a (process_of c) (entered c x)).entries)
  pub turns : {part : Part} (a : Around) (c : Component part) (name : List ℕ) (repeats : Repeats) (k : Known) (n : ℕ)
      → IsMadeOf (Mark mark.If) part → IsSequentialComponent (Mark mark.If) c
      → let x = turn_by_turn (λ n l. after_component a (Mark mark.If) c
      (with_entries (add name (index_in repeats n)) l)) n
      (begin k) in
      let z = with_entries (add name (index_in repeats n)) x in
      LieWithinEnds x (after_component a (Mark mark.If) c z)
      (outermost (length k.entries) (inside a (process_of c) (entered c z)).entries)

-- After a choice that was not taken, that is known of the names around which its condition shows where it does not
-- hold.
abbrev pub BeginsFurther : {part : Part} → Component part → (es : List Entry) → ℕ → (after : List Entry) → Type 0
BeginsFurther (Chosen line e p) es n after = after ≡ outermost n (narrow es e false)
BeginsFurther c es n after = ⊤

-- So the further choices begin, and so the further turns.
pub record ChoicesBeginFurther : Type 0 where
  pub choices : {part : Part} (a : Around) (cs : Components part) (c : Component part) (k : Known)
      → IsMadeOf (Mark mark.If) part → AreSequential (Mark mark.If) (Further cs c)
      → let x = after_components a (Mark mark.If) cs (begin k) in
      BeginsFurther c x.entries (length k.entries) (after_component a (Mark mark.If) c x).entries
  pub turns : {part : Part} (a : Around) (c : Component part) (name : List ℕ) (repeats : Repeats) (k : Known) (n : ℕ)
      → IsMadeOf (Mark mark.If) part → IsSequentialComponent (Mark mark.If) c
      → let x = turn_by_turn (λ n l. after_component a (Mark mark.If) c
      (with_entries (add name (index_in repeats n)) l)) n (begin k) in
      let z = with_entries (add name (index_in repeats n)) x in
      BeginsFurther c z.entries (length k.entries) (after_component a (Mark mark.If) c z).entries

-- ---- names

-- the same names but for ranges, and indices of the same ranges
abbrev pub HasSameNames : List Entry → List Entry → Type 0
HasSameNames ds es = (shape ds ≡ shape es) × (indices_of ds ≡ indices_of es)

-- At each place in a construct, and after it, names are the same as before it: after components of a SEQ, between two
-- choices of an `IF` and between two turns of one under a replicator, and around a process.
pub record NamesAreKept : Type 0 where
  pub processes : (a : Around) (p : Process) (k : Known) → IsSequential p → IsInside k
      → HasSameNames (outermost (length k.entries) (inside a p k).entries) k.entries
  pub constructs : (a : Around) (line : ℕ) (c : Construct) (k : Known) → IsSequentialConstruct c → IsInside k
      → HasSameNames (after_construct a line c k).entries k.entries
  pub components : {part : Part} (a : Around) (cs : Components part) (k : Known) → IsMadeOf (Mark mark.Seq) part
      → AreSequential (Mark mark.Seq) cs → IsInside k
      → HasSameNames (after_components a (Mark mark.Seq) cs k).entries k.entries
  pub choices : {part : Part} (a : Around) (cs : Components part) (k : Known) → IsMadeOf (Mark mark.If) part
      → AreSequential (Mark mark.If) cs
      → HasSameNames (after_components a (Mark mark.If) cs (begin k)).entries k.entries
  pub turns : {part : Part} (a : Around) (c : Component part) (name : List ℕ) (repeats : Repeats) (k : Known) (n : ℕ)
      → IsMadeOf (Mark mark.If) part → IsSequentialComponent (Mark mark.If) c
      → HasSameNames (turn_by_turn
      (λ n l. after_component a (Mark mark.If) c (with_entries (add name (index_in repeats n)) l)) n (begin k)).entries
      k.entries

-- So what is settled before it is settled there, if ranges are of words.
abbrev pub SameNamesAreSettled : Type 0
SameNamesAreSettled = (g : Scene) (f : Frame) (ds es : List Entry) → HasSameNames ds es → AreInTypes ds → AreOrdered ds
    → IsSettled g f es → IsSettled g f ds
