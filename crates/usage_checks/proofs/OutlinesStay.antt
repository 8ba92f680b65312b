-- The walk keeps the outlines of scopes: names and what they denote, but for ranges, values and sizes.
use Rattle.std.proofs.Common.{◌≡◌, ℕ, zero, suc, ℤ, ◌<◌, ◌≤◌, Bool, true, false, cond, List, [], ◌∷◌, ◌++◌, length}
use Rattle.std.proofs.Common.{Option, Some, None, Result, Ok, Err, refl, sym, ap, subst, ◌∙◌, arith, max, nat_lt}
use Rattle.std.proofs.Common.{append_assoc}
use Rattle.std.proofs.lemmas.List.{length-append}
use Rattle.std.specs.Prelude.{unwrap_or}
use Rattle.word_arithmetic.specs.Range.{Ends, full}
use Rattle.occam_layout.specs.declared.mark.Mark.TheVariants as mark
use Rattle.occam_parser.specs.Terminals.{Terminal, Mark}
use Rattle.occam_parser.specs.OneOrMore.{as_list}
use Rattle.occam_parser.specs.Expressions.{Expression}
use Rattle.occam_parser.specs.Lines.{Action, Skip, Stop, Assign, Input, Output, Instance, Guard, Receives, Skips}
use Rattle.occam_parser.specs.Lines.{Declaration, Constants, Variables, Channels, Replicator, block_word}
use Rattle.occam_parser.specs.Blocks.{Process, Declared, Does, Construct, Act, Block, Replicated, Body, One, Part}
use Rattle.occam_parser.specs.Blocks.{Processes, Choices, Branches, part_of, Components, NoComponent, Further}
use Rattle.occam_parser.specs.Blocks.{Component, Plain, Chosen, Guarded}
use Rattle.scalar_ranges.specs.Entries as entries
use Rattle.scalar_ranges.specs.Entries.{Meaning, Entry, type_range, meaning_in}
use Rattle.scalar_ranges.specs.Environments.{item_at}
use Rattle.scalar_ranges.specs.Bounds.{bound_of, range_found}
use Rattle.scalar_ranges.specs.Narrowing.{with_range, narrow}
use Rattle.scalar_ranges.specs.Moves as moves
use Rattle.scalar_ranges.specs.Moves.{Known, outermost, is_one_of, widen, hulls, of_both, taken, ends_with, begun_with}
use Rattle.scalar_ranges.specs.Moves.{end_of, begin, begin_par, begin_loop, next_from, next, excluded, exclude_from}
use Rattle.scalar_ranges.specs.Moves.{after_block, end, component_end, component_from, next_component}
use Rattle.scalar_ranges.specs.MoveLaws.{shape}
use Rattle.scalar_ranges.specs.Nesting.{AreNested, EndsFit}
use Rattle.scalar_ranges.proofs.MoveLaws.{shapes_stay, ranged_shape}
use Rattle.program_uses.specs.Actions.{Around, is_before}
use Rattle.program_uses.specs.Changes.{changed_by, changed_by_body}
use Rattle.program_uses.specs.Declaring.{add, add_all, add_declaration, constant_meaning, variable_meaning}
use Rattle.program_uses.specs.Declaring.{channel_meaning}
use Rattle.program_uses.specs.Indices.{is_seq, is_sequence, index_of, index_at, index_meaning, Repeats, repeats_of}
use Rattle.program_uses.specs.Indices.{index_in, turn_by_turn}
use Rattle.program_uses.specs.Instances.{variable_at}
use Rattle.program_uses.specs.Signatures.{Parameter, parameters_in}
use Rattle.program_uses.specs.Outlines.{flat, flat_entry, outline}
use Rattle.program_uses.proofs.ChangesAlike.{outline_long}
use Rattle.program_uses.proofs.ScopesExtended.{begun_within, inner_cut}
use Rattle.usage_checks.specs.AfterProcesses.{left_to, begun, ended, unless, begun_turns, repeated, chosen}
use Rattle.usage_checks.specs.AfterProcesses.{process_ended, inside, after_construct, after_body, after_components}
use Rattle.usage_checks.specs.AfterProcesses.{after_component}
use Rattle.usage_checks.specs.Following.{receive_if, assign_if, passed_to, after_actuals, after_action, where_holds}
use Rattle.usage_checks.specs.Following.{after_guard}
use Rattle.usage_checks.specs.NameRules.{with_entries}
use Rattle.usage_checks.specs.Outlines.{outlines_of, HaveOneOutline, IsMadeOf, OutlinesStay}
use Rattle.usage_checks.specs.Reaching.{entered, repeats_in, in_turn_of}

-- ---- one shape has one outline

flat_ranged : (m : Meaning) → flat (with_range (λ r. full) m) ≡ flat m
flat_ranged (entries.Constant type value) = refl
flat_ranged (entries.Scalar kind type range) = refl
flat_ranged (entries.Array kind type size range) = refl
flat_ranged (entries.Channel type) = refl
flat_ranged (entries.Channels type size) = refl
flat_ranged (entries.Procedure number) = refl

outline_shape : (es : List Entry) → outline (shape es) ≡ outline es
outline_shape [] = refl
outline_shape (e ∷ es) =
    λ i. record { name = e.name; meaning = flat_ranged e.meaning i } ∷ outline_shape es i

pub shaped : (ds es : List Entry) → shape ds ≡ shape es → outline ds ≡ outline es
shaped ds es same = sym (outline_shape ds) ∙ ap outline same ∙ outline_shape es

-- ---- what changes entries

receive_outline : (o : Option ℕ) (es : List Entry) → outline (receive_if o es) ≡ outline es
receive_outline None es = refl
receive_outline (Some n) es = shaped (receive_if (Some n) es) es (ranged_shape type_range n es)

assign_outline : (o : Option ℕ) (range : Result Ends ℕ) (es : List Entry) → outline (assign_if o range es) ≡ outline es
assign_outline None range es = refl
assign_outline (Some n) (Ok range) es = shaped (moves.assign n range es) es (shapes_stay.assigning es n range)
assign_outline (Some n) (Err e) es = receive_outline (Some n) es

actuals_outline : (qs : List Parameter) (i : ℕ) (actuals : List Expression) (es : List Entry)
    → outline (after_actuals qs i actuals es) ≡ outline es
actuals_outline qs i [] es = refl
actuals_outline qs i (e ∷ actuals) es =
    actuals_outline qs (suc i) actuals (receive_if (passed_to (item_at i qs) es e) es)
    ∙ receive_outline (passed_to (item_at i qs) es e) es

action_outline : (signatures : List (List Parameter)) (action : Action) (es : List Entry)
    → outline (after_action signatures action es) ≡ outline es
action_outline signatures Skip es = refl
action_outline signatures Stop es = refl
action_outline signatures (Assign target value) es =
    assign_outline (variable_at es target) (range_found (bound_of es value)) es
action_outline signatures (Input channel target) es = receive_outline (variable_at es target) es
action_outline signatures (Output channel value) es = refl
action_outline signatures (Instance name actuals) es =
    actuals_outline (parameters_in signatures (meaning_in name es)) 0 actuals es

holds_outline : (o : Option Expression) (es : List Entry) → outline (where_holds o es) ≡ outline es
holds_outline None es = refl
holds_outline (Some e) es = shaped (narrow es e true) es (shapes_stay.narrowing es e true)

guard_outline : (g : Guard) (es : List Entry) → outline (after_guard g es) ≡ outline es
guard_outline (Receives condition channel target) es =
    receive_outline (variable_at (where_holds condition es) target) (where_holds condition es)
    ∙ holds_outline condition es
guard_outline (Skips e) es = holds_outline (Some e) es

-- ---- many entries

outline_either : (t : Bool) (ds es : List Entry) → outline (cond t ds es) ≡ cond t (outline ds) (outline es)
outline_either true ds es = refl
outline_either false ds es = refl

outline_cut : (n : ℕ) (es : List Entry) → outline (outermost n es) ≡ outermost n (outline es)
outline_cut n [] = refl
outline_cut n (e ∷ es) =
    outline_either (nat_lt (length es) n) (e ∷ es) (outermost n es)
    ∙ (λ i. cond (nat_lt (sym (outline_long es) i) n) (flat_entry e ∷ outline es) (outline_cut n es i))

picked : (t : Bool) (d e : Entry) → flat_entry d ≡ flat_entry e → flat_entry (of_both t d e) ≡ flat_entry d
picked true d e same = sym same
picked false d e same = refl

taken_outline : (ns : List ℕ) (ds es : List Entry) → outline ds ≡ outline es → outline (taken ns ds es) ≡ outline ds
taken_outline ns [] es same = refl
taken_outline ns (d ∷ ds) [] same = refl
taken_outline ns (d ∷ ds) (e ∷ es) same =
    let one : flat_entry d ≡ flat_entry e = cc in
    let rest : outline ds ≡ outline es = cc in
    λ i. picked (is_one_of ns (length ds)) d e one i ∷ taken_outline ns ds es rest i

-- ---- what is known

abbrev EndsAre : List Entry → Option (List Entry) → Type 0
EndsAre o None = Unit {0}
EndsAre o (Some es) = outline es ≡ o

abbrev pub BlocksAre : List (List Entry) → List moves.Block → Type 0
BlocksAre [] [] = Unit {0}
BlocksAre (o ∷ os) (b ∷ bs) = (outline b.start ≡ o) × EndsAre o b.ends × BlocksAre os bs
BlocksAre os bs = ⊥

-- the entries have this outline, and those with which the blocks around begin have these
pub record IsAt (o : List Entry) (os : List (List Entry)) (k : Known) : Type 0 where
  pub entries : outline k.entries ≡ o
  pub blocks : BlocksAre os k.blocks

-- the same with some entries more
abbrev pub IsIn : List Entry → List (List Entry) → Known → Type 0
IsIn o os k = (inner : List Entry) × IsAt (inner ++ o) os k

abbrev pub begun_long : List (List Entry) → ℕ
begun_long [] = 0
begun_long (o ∷ os) = length o

ends_are : (start : List Entry) (ends : Option (List Entry)) → EndsFit start ends → EndsAre (outline start) ends
ends_are start None fit = tt
ends_are start (Some es) fit = shaped es start fit

blocks_are : (es : List Entry) (bs : List moves.Block) → AreNested es bs → BlocksAre (outlines_of bs) bs
blocks_are es [] nested = tt
blocks_are es (b ∷ bs) nested = (refl, ends_are b.start b.ends nested.1, blocks_are b.start bs nested.2)

is_at : (k : Known) → AreNested k.entries k.blocks → IsAt (outline k.entries) (outlines_of k.blocks) k
is_at k nested = record { entries = refl; blocks = blocks_are k.entries k.blocks nested }

begun_fits : (es : List Entry) (bs : List moves.Block) → begun_with bs ≤ length es
    → begun_long (outlines_of bs) ≤ length (outline es)
begun_fits es [] h = omega (arith, outline_long es)
begun_fits es (b ∷ bs) h = omega (arith, outline_long es, outline_long b.start, h)

fits : (k : Known) → AreNested k.entries k.blocks → begun_long (outlines_of k.blocks) ≤ length (outline k.entries)
fits k nested = begun_fits k.entries k.blocks (begun_within k.entries k.blocks nested)

at_as : {o p : List Entry} {os : List (List Entry)} {k : Known} → o ≡ p → IsAt o os k → IsAt p os k
at_as {os = os} {k = k} e at = subst (λ o. IsAt o os k) e at

long : {o : List Entry} {os : List (List Entry)} (k : Known) → IsAt o os k → length k.entries ≡ length o
long k at = sym (outline_long k.entries) ∙ ap length at.entries

begun_is : (os : List (List Entry)) (bs : List moves.Block) → BlocksAre os bs → begun_with bs ≡ begun_long os
begun_is [] [] v = refl
begun_is [] (b ∷ bs) v = absurd v
begun_is (o ∷ os) [] v = absurd v
begun_is (o ∷ os) (b ∷ bs) v = sym (outline_long b.start) ∙ ap length v.0

at_left : (count : ℕ) (inner o : List Entry) (os : List (List Entry)) (k : Known) → IsAt (inner ++ o) os k
    → count ≡ length o → begun_long os ≤ length o → IsAt o os (left_to count k)
at_left count inner o os k at is fit =
    let begun = begun_is os k.blocks at.blocks in
    let most : max count (begun_with k.blocks) ≡ length o = omega (arith, begun, is, fit) in
    record {
      entries = outline_cut (max count (begun_with k.blocks)) k.entries
          ∙ (λ i. outermost (most i) (at.entries i)) ∙ inner_cut inner o;
      blocks = at.blocks;
    }

at_begin : (o : List Entry) (os : List (List Entry)) (k : Known) → IsAt o os k → IsAt o (o ∷ os) (begin k)
at_begin o os k at = record { entries = at.entries; blocks = (at.entries, tt, at.blocks) }

at_begin_par : (o : List Entry) (os : List (List Entry)) (k : Known) → IsAt o os k → IsAt o (o ∷ os) (begin_par k)
at_begin_par o os k at = record { entries = at.entries; blocks = (at.entries, at.entries, at.blocks) }

at_loop : (ns : List ℕ) (o : List Entry) (os : List (List Entry)) (k : Known) → IsAt o os k
    → IsAt o (o ∷ os) (begin_loop ns k)
at_loop ns o os k at =
    let same = shaped (widen ns k.entries) k.entries (shapes_stay.widening k.entries ns) ∙ at.entries in
    record { entries = same; blocks = (same, tt, at.blocks) }

-- what an end has of the entries that the block began with
end_at : (inner o : List Entry) (b : moves.Block) (es : List Entry) → outline b.start ≡ o → outline es ≡ inner ++ o
    → outline (end_of b es) ≡ o
end_at inner o b es start is =
    let same = sym (outline_long b.start) ∙ ap length start in
    outline_cut (length b.start) es ∙ (λ i. outermost (same i) (is i)) ∙ inner_cut inner o

joined_at : (o : List Entry) (ends : Option (List Entry)) (es : List Entry) → EndsAre o ends → outline es ≡ o
    → outline (ends_with ends es) ≡ o
joined_at o None es v h = h
joined_at o (Some ds) es v h = shaped (hulls ds es) ds (shapes_stay.joining ds es) ∙ v

next_at : (inner o : List Entry) (os : List (List Entry)) (es : List Entry) (bs : List moves.Block)
    → outline es ≡ inner ++ o → BlocksAre (o ∷ os) bs → IsAt o (o ∷ os) (next_from es bs)
next_at inner o os es [] is v = absurd v
next_at inner o os es (b ∷ bs) is v = record {
  entries = v.0;
  blocks = (v.0, joined_at o b.ends (end_of b es) v.1 (end_at inner o b es v.0 is), v.2);
}

at_next : (inner o : List Entry) (os : List (List Entry)) (k : Known) → IsAt (inner ++ o) (o ∷ os) k
    → IsAt o (o ∷ os) (next k)
at_next inner o os k at = next_at inner o os k.entries k.blocks at.entries at.blocks

taken_at : (ns : List ℕ) (o start : List Entry) (ends : Option (List Entry)) (es : List Entry) → EndsAre o ends
    → outline (end_of (record { start = start; ends = ends }) es) ≡ o
    → EndsAre o (component_end ns (record { start = start; ends = ends }) es)
taken_at ns o start None es v h = tt
taken_at ns o start (Some ds) es v h =
    taken_outline ns ds (outermost (length start) es) (v ∙ sym h) ∙ v

component_from_at : (ns : List ℕ) (inner o : List Entry) (os : List (List Entry)) (es : List Entry)
    (bs : List moves.Block) → outline es ≡ inner ++ o → BlocksAre (o ∷ os) bs
    → IsAt o (o ∷ os) (component_from ns es bs)
component_from_at ns inner o os es [] is v = absurd v
component_from_at ns inner o os es (b ∷ bs) is v = record {
  entries = v.0;
  blocks = (v.0, taken_at ns o b.start b.ends es v.1 (end_at inner o b es v.0 is), v.2);
}

at_component : (ns : List ℕ) (inner o : List Entry) (os : List (List Entry)) (k : Known) → IsAt (inner ++ o) (o ∷ os) k
    → IsAt o (o ∷ os) (next_component ns k)
at_component ns inner o os k at = component_from_at ns inner o os k.entries k.blocks at.entries at.blocks

ended_at : (o : List Entry) (ends : Option (List Entry)) (start : List Entry) → EndsAre o ends → outline start ≡ o
    → outline (unwrap_or ends start) ≡ o
ended_at o None start v h = h
ended_at o (Some ds) start v h = v

block_ended : (o : List Entry) (os : List (List Entry)) (es : List Entry) (bs : List moves.Block)
    → BlocksAre (o ∷ os) bs → IsAt o os (after_block es bs)
block_ended o os es [] v = absurd v
block_ended o os es (b ∷ bs) v = record { entries = ended_at o b.ends b.start v.1 v.0; blocks = v.2 }

at_end : (p o : List Entry) (os : List (List Entry)) (k : Known) → IsAt p (o ∷ os) k → IsAt o os (end k)
at_end p o os k at = block_ended o os k.entries k.blocks at.blocks

excluded_at : (e : Expression) (os : List (List Entry)) (es : List Entry) (bs : List moves.Block) → BlocksAre os bs
    → BlocksAre os (exclude_from e es bs)
excluded_at e [] es [] v = tt
excluded_at e [] es (b ∷ bs) v = absurd v
excluded_at e (o ∷ os) es [] v = absurd v
excluded_at e (o ∷ os) es (b ∷ bs) v =
    (shaped (excluded e es b.start) b.start (shapes_stay.excluding es b.start e) ∙ v.0, v.1, v.2)

at_chosen : (e : Expression) (o : List Entry) (os : List (List Entry)) (k : Known) → IsAt o os k
    → IsAt o os (chosen e k)
at_chosen e o os k at = record {
  entries = holds_outline (Some e) k.entries ∙ at.entries;
  blocks = excluded_at e os k.entries k.blocks at.blocks;
}

at_guarded : (g : Guard) (o : List Entry) (os : List (List Entry)) (k : Known) → IsAt o os k
    → IsAt o os (with_entries (after_guard g) k)
at_guarded g o os k at = record { entries = guard_outline g k.entries ∙ at.entries; blocks = at.blocks }

-- ---- names that are declared

all_more : (names : List (List ℕ)) (m : Meaning) (es : List Entry)
    → (inner : List Entry) × (outline (add_all names m es) ≡ inner ++ outline es)
all_more [] m es = ([], refl)
all_more (name ∷ names) m es =
    let rest = all_more names m (add name m es) in
    let e : Entry = record { name = name; meaning = flat m } in
    (rest.0 ++ e ∷ [], rest.1 ∙ sym (append_assoc rest.0 (e ∷ []) (outline es)))

declared_more : (d : Declaration) (es : List Entry)
    → (inner : List Entry) × (outline (add_declaration d es) ≡ inner ++ outline es)
declared_more (Constants c) es =
    (record { name = c.name; meaning = flat (constant_meaning es c.value_type c.value) } ∷ [], refl)
declared_more (Variables n) es = all_more (as_list n.names) (variable_meaning es n.value_type n.size) es
declared_more (Channels n) es = all_more (as_list n.names) (channel_meaning es n.value_type n.size) es

at_named : (name : List ℕ) (m : Meaning) (o : List Entry) (os : List (List Entry)) (k : Known) → IsIn o os k
    → IsIn o os (with_entries (add name m) k)
at_named name m o os k at =
    let e : Entry = record { name = name; meaning = flat m } in
    (e ∷ at.0, record { entries = ap (λ es. e ∷ es) at.1.entries; blocks = at.1.blocks })

-- ---- turns

turned : (P : Known → Type 0) (step : ℕ → Known → Known) → ((n : ℕ) (l : Known) → P l → P (step n l)) → (n : ℕ)
    (k : Known) → P k → P (turn_by_turn step n k)
turned P step keeps zero k at = at
turned P step keeps (suc n) k at = keeps n (turn_by_turn step n k) (turned P step keeps n k at)

-- a body that happens, or that is inside one block more
repeated_at : (happens : Bool) (o : List Entry) (os : List (List Entry)) (k : Known) (turns : Known → Known)
    → ((os : List (List Entry)) (j : Known) → IsAt o os j → IsIn o (o ∷ os) (turns j)) → IsAt o os k
    → IsAt o os (repeated happens (turns (unless happens begin k)))
repeated_at true o os k turns keeps at =
    let inner = keeps os k at in at_end (inner.0 ++ o) o os (turns k) inner.1
repeated_at false o os k turns keeps at =
    let inner = keeps (o ∷ os) (begin k) (at_begin o os k at) in
    let once = at_end (inner.0 ++ o) o (o ∷ os) (turns (begin k)) inner.1 in
    at_end o o os (end (turns (begin k))) once

more_long : (inner o : List Entry) → length o ≤ length (inner ++ o)
more_long inner o = omega (arith, length-append inner o)

-- ---- parts

-- a block has the word of its components
pub kind_fits : (kind : _) → IsMadeOf (block_word kind) (part_of kind)
kind_fits kind = grind arith

-- the outlines of the blocks around the components of a block: all but a SEQ begin one
abbrev pub around_parts : Terminal → List Entry → List (List Entry) → List (List Entry)
around_parts (Mark mark.Seq) o os = os
around_parts word o os = o ∷ os

parts_fit : (word : Terminal) (o : List Entry) (os : List (List Entry)) → begun_long os ≤ length o
    → begun_long (around_parts word o os) ≤ length o
parts_fit (Mark mark.Seq) o os fit = fit
parts_fit word o os fit = omega arith

choices_apart : (word : Terminal) (o : List Entry) (os : List (List Entry)) → IsMadeOf word Choices
    → around_parts word o os ≡ o ∷ os
choices_apart (Mark mark.Seq) o os is = absurd is
choices_apart word o os is = refl

branches_apart : (word : Terminal) (o : List Entry) (os : List (List Entry)) → IsMadeOf word Branches
    → around_parts word o os ≡ o ∷ os
branches_apart (Mark mark.Seq) o os is = absurd is
branches_apart word o os is = refl

around_as : {o : List Entry} {os ps : List (List Entry)} {k : Known} → os ≡ ps → IsAt o os k → IsAt o ps k
around_as {o = o} {k = k} e at = subst (λ os. IsAt o os k) e at

begun_at : (word : Terminal) (part : Part) (o : List Entry) (os : List (List Entry)) (k : Known) → IsMadeOf word part
    → IsAt o os k → IsAt o (around_parts word o os) (begun word k)
begun_at (Mark mark.Seq) part o os k is at = at
begun_at (Mark mark.Par) part o os k is at = at_begin_par o os k at
begun_at (Mark mark.If) part o os k is at = at_begin o os k at
begun_at (Mark mark.Alt) part o os k is at = at_begin o os k at
begun_at word part o os k is at = absurd is

ended_parts : (word : Terminal) (part : Part) (o : List Entry) (os : List (List Entry)) (k : Known) → IsMadeOf word part
    → IsAt o (around_parts word o os) k → IsAt o os (ended word k)
ended_parts (Mark mark.Seq) part o os k is at = at
ended_parts (Mark mark.Par) part o os k is at = at_end o o os k at
ended_parts (Mark mark.If) part o os k is at = at_end o o os k at
ended_parts (Mark mark.Alt) part o os k is at = at_end o o os k at
ended_parts word part o os k is at = absurd is

-- a process of a block ends
process_left : (word : Terminal) (count : ℕ) (ns : List ℕ) (inner o : List Entry) (os : List (List Entry)) (k : Known)
    → IsAt (inner ++ o) (around_parts word o os) k → count ≡ length o → begun_long os ≤ length o
    → IsAt o (around_parts word o os) (process_ended word count ns k)
process_left (Mark mark.Par) count ns inner o os k at is fit = at_component ns inner o os k at
process_left (Mark mark.Seq) count ns inner o os k at is fit = at_left count inner o os k at is fit
process_left word count ns inner o os k at is fit = at_left count inner o (o ∷ os) k at is (omega arith)

-- ---- turns of a body

-- Under a SEQ the index stays in scope after a turn.
abbrev pub IsAfterTurn : Terminal → List Entry → List (List Entry) → Known → Type 0
IsAfterTurn (Mark mark.Seq) o os k = IsIn o (o ∷ os) k
IsAfterTurn word o os k = IsAt o (o ∷ os) k

turn_in : (word : Terminal) (o : List Entry) (os : List (List Entry)) (k : Known) → IsAfterTurn word o os k
    → IsIn o (o ∷ os) k
turn_in (Mark mark.Seq) o os k at = at
turn_in word o os k at = ([], at)

turn_at : (word : Terminal) (o : List Entry) (os : List (List Entry)) (k : Known) → IsAt o (o ∷ os) k
    → IsAfterTurn word o os k
turn_at (Mark mark.Seq) o os k at = ([], at)
turn_at word o os k at = at

turn_left : (word : Terminal) (count : ℕ) (ns : List ℕ) (more inner o : List Entry) (os : List (List Entry)) (k : Known)
    → IsMadeOf word Processes → IsAt (more ++ (inner ++ o)) (o ∷ os) k → count ≡ length (inner ++ o)
    → IsAfterTurn word o os (process_ended word count ns k)
turn_left (Mark mark.Par) count ns more inner o os k fits at is =
    at_component ns (more ++ inner) o os k (at_as (sym (append_assoc more inner o)) at)
turn_left (Mark mark.Seq) count ns more inner o os k fits at is =
    (inner, at_left count more (inner ++ o) (o ∷ os) k at is (more_long inner o))
turn_left word count ns more inner o os k fits at is = absurd fits

branch_left : (more inner o : List Entry) (os : List (List Entry)) (k : Known) → IsAt (more ++ (inner ++ o)) (o ∷ os) k
    → IsAt o (o ∷ os) (next k)
branch_left more inner o os k at = at_next (more ++ inner) o os k (at_as (sym (append_assoc more inner o)) at)

turns_begin : (word : Terminal) (part : Part) (ns : List ℕ) (o : List Entry) (os : List (List Entry)) (j : Known)
    → IsMadeOf word part → IsAt o os j → IsAt o (o ∷ os) (begun_turns word ns j)
turns_begin (Mark mark.Seq) part ns o os j is at = at_loop ns o os j at
turns_begin (Mark mark.Par) part ns o os j is at = at_begin_par o os j at
turns_begin (Mark mark.If) part ns o os j is at = at_begin o os j at
turns_begin (Mark mark.Alt) part ns o os j is at = at_begin o os j at
turns_begin word part ns o os j is at = absurd is

-- ---- processes

mutual
  inside_at : (a : Around) (p : Process) (o : List Entry) (os : List (List Entry)) (k : Known) → IsAt o os k
      → begun_long os ≤ length o → IsIn o os (inside a p k)
  inside_at a (Declared d p) o os k at fit =
      let more = declared_more d k.entries in
      let known = with_entries (add_declaration d) k in
      let next : IsAt (more.0 ++ o) os known =
      record { entries = more.1 ∙ ap (λ es. more.0 ++ es) at.entries; blocks = at.blocks } in
      let rest = inside_at a p (more.0 ++ o) os known next (omega (arith, more_long more.0 o, fit)) in
      (rest.0 ++ more.0, at_as (sym (append_assoc rest.0 more.0 o)) rest.1)
  inside_at a (Does line c) o os k at fit = ([], construct_at a line c o os k at fit)

  construct_at : (a : Around) (line : ℕ) (c : Construct) (o : List Entry) (os : List (List Entry)) (k : Known)
      → IsAt o os k → begun_long os ≤ length o → IsAt o os (after_construct a line c k)
  construct_at a line (Act action) o os k at fit =
      record { entries = action_outline a.signatures action k.entries ∙ at.entries; blocks = at.blocks }
  construct_at a line (Block kind cs) o os k at fit =
      let word = block_word kind in
      ended_parts word (part_of kind) o os (after_components a word cs (begun word k)) (kind_fits kind)
      (components_at a word cs o os (begun word k) (kind_fits kind)
      (begun_at word (part_of kind) o os k (kind_fits kind) at) fit)
  construct_at a line (Replicated r b) o os k at fit = body_at a line r b o os k at

  components_at : {part : Part} (a : Around) (word : Terminal) (cs : Components part) (o : List Entry)
      (os : List (List Entry)) (k : Known) → IsMadeOf word part → IsAt o (around_parts word o os) k
      → begun_long os ≤ length o → IsAt o (around_parts word o os) (after_components a word cs k)
  components_at a word NoComponent o os k is at fit = at
  components_at a word (Further cs c) o os k is at fit =
      component_at a word c o os (after_components a word cs k) is (components_at a word cs o os k is at fit) fit

  component_at : {part : Part} (a : Around) (word : Terminal) (c : Component part) (o : List Entry)
      (os : List (List Entry)) (k : Known) → IsMadeOf word part → IsAt o (around_parts word o os) k
      → begun_long os ≤ length o → IsAt o (around_parts word o os) (after_component a word c k)
  component_at a word (Plain p) o os k is at fit =
      let more = inside_at a p o (around_parts word o os) k at (parts_fit word o os fit) in
      process_left word (length k.entries) (changed_by a.signatures k.entries p) more.0 o os (inside a p k) more.1
      (long k at) fit
  component_at a word (Chosen line e p) o os k is at fit =
      let apart = choices_apart word o os is in
      let more = inside_at a p o (o ∷ os) (chosen e k) (at_chosen e o (o ∷ os) k (around_as apart at)) (omega arith) in
      around_as (sym apart) (at_next more.0 o os (inside a p (chosen e k)) more.1)
  component_at a word (Guarded line g p) o os k is at fit =
      let apart = branches_apart word o os is in
      let known = with_entries (after_guard g) k in
      let more = inside_at a p o (o ∷ os) known (at_guarded g o (o ∷ os) k (around_as apart at)) (omega arith) in
      around_as (sym apart) (at_next more.0 o os (inside a p known) more.1)

  body_at : (a : Around) (line : ℕ) (r : Replicator) (b : Body) (o : List Entry) (os : List (List Entry)) (k : Known)
      → IsAt o os k → IsAt o os (after_body a line r b k)
  body_at a line r (One kind c) o os k at =
      let word = block_word kind in
      let repeats = repeats_of (is_before line a.uncounted) k.entries (is_seq word) r in
      let ns = changed_by_body a.signatures k.entries r (One kind c) in
      repeated_at repeats.happens o os k
      (λ j. turn_by_turn (λ n l. after_component a word c (with_entries (add r.name (index_in repeats n)) l))
      repeats.turns.count (begun_turns word ns j))
      (λ os j is. turn_in word o os
      (turn_by_turn (λ n l. after_component a word c (with_entries (add r.name (index_in repeats n)) l))
      repeats.turns.count (begun_turns word ns j))
      (turned (IsAfterTurn word o os)
      (λ n l. after_component a word c (with_entries (add r.name (index_in repeats n)) l))
      (λ n l is. one_turn a r repeats n word c o os l (kind_fits kind) is) repeats.turns.count (begun_turns word ns j)
      (turn_at word o os (begun_turns word ns j) (turns_begin word (part_of kind) ns o os j (kind_fits kind) is)))) at

  one_turn : {part : Part} (a : Around) (r : Replicator) (repeats : Repeats) (n : ℕ) (word : Terminal)
      (c : Component part) (o : List Entry) (os : List (List Entry)) (l : Known) → IsMadeOf word part
      → IsAfterTurn word o os l
      → IsAfterTurn word o os (after_component a word c (with_entries (add r.name (index_in repeats n)) l))
  one_turn a r repeats n word (Plain p) o os l is at =
      let named = at_named r.name (index_in repeats n) o (o ∷ os) l (turn_in word o os l at) in
      let known = with_entries (add r.name (index_in repeats n)) l in
      let more = inside_at a p (named.0 ++ o) (o ∷ os) known named.1 (more_long named.0 o) in
      turn_left word (length known.entries) (changed_by a.signatures known.entries p) more.0 named.0 o os
      (inside a p known) is more.1 (long known named.1)
  one_turn a r repeats n word (Chosen line e p) o os l is at =
      let named = at_named r.name (index_in repeats n) o (o ∷ os) l (turn_in word o os l at) in
      let known = with_entries (add r.name (index_in repeats n)) l in
      let more = inside_at a p (named.0 ++ o) (o ∷ os) (chosen e known)
      (at_chosen e (named.0 ++ o) (o ∷ os) known named.1) (more_long named.0 o) in
      turn_at word o os (next (inside a p (chosen e known)))
      (branch_left more.0 named.0 o os (inside a p (chosen e known)) more.1)
  one_turn a r repeats n word (Guarded line g p) o os l is at =
      let named = at_named r.name (index_in repeats n) o (o ∷ os) l (turn_in word o os l at) in
      let known = with_entries (add r.name (index_in repeats n)) l in
      let guarded = with_entries (after_guard g) known in
      let more = inside_at a p (named.0 ++ o) (o ∷ os) guarded (at_guarded g (named.0 ++ o) (o ∷ os) known named.1)
      (more_long named.0 o) in
      turn_at word o os (next (inside a p guarded))
      (branch_left more.0 named.0 o os (inside a p guarded) more.1)

-- ---- where a turn begins

index_flat : (sequential : Bool) (range : Ends) (value : Option ℤ)
    → flat (index_of sequential range value) ≡ flat (index_meaning sequential None)
index_flat true range value = refl
index_flat false range value = refl

-- A SEQ has one turn.
turn_begun : (word : Terminal) (counted : Bool) (r : Replicator) (es : List Entry) (step : ℕ → Known → Known) (n : ℕ)
    (o : List Entry) (os : List (List Entry)) (l : Known) → IsAfterTurn word o os (turn_by_turn step n l)
    → IsAt o (o ∷ os) l → n < (repeats_of counted es (is_seq word) r).turns.count
    → outline (turn_by_turn step n l).entries ≡ o
turn_begun (Mark mark.Seq) counted r es step n o os l now at h =
    let none : n ≡ 0 = omega (arith, h) in
    ap (λ n. outline (turn_by_turn step n l).entries) none ∙ at.entries
turn_begun word counted r es step n o os l now at h = now.entries

begun_in : (happens : Bool) (o : List Entry) (os : List (List Entry)) (k : Known) → IsAt o os k
    → (ps : List (List Entry)) × IsAt o ps (unless happens begin k)
begun_in true o os k at = (os, at)
begun_in false o os k at = (o ∷ os, at_begin o os k at)

turns_at : (a : Around) (line : ℕ) (r : Replicator) (b : Body) (k : Known) (n : ℕ) → AreNested k.entries k.blocks
    → n < (repeats_in a line r b k).turns.count
    → outline (in_turn_of a line r b k n).entries ≡ outline (add r.name (index_meaning (is_sequence b) None) k.entries)
turns_at a line r (One kind c) k n nested h =
    let word = block_word kind in
    let o = outline k.entries in
    let repeats = repeats_of (is_before line a.uncounted) k.entries (is_seq word) r in
    let ns = changed_by_body a.signatures k.entries r (One kind c) in
    let step : ℕ → Known → Known =
    λ n l. after_component a word c (with_entries (add r.name (index_in repeats n)) l) in
    let first = begun_in repeats.happens o (outlines_of k.blocks) k (is_at k nested) in
    let j = unless repeats.happens begin k in
    let begins = turns_begin word (part_of kind) ns o first.0 j (kind_fits kind) first.1 in
    let now = turned (IsAfterTurn word o first.0) step
    (λ n l is. one_turn a r repeats n word c o first.0 l (kind_fits kind) is) n (begun_turns word ns j)
    (turn_at word o first.0 (begun_turns word ns j) begins) in
    let same = turn_begun word (is_before line a.uncounted) r k.entries step n o first.0 (begun_turns word ns j) now
    begins h in
    λ i. record {
      name = r.name;
      meaning = index_flat (is_seq word) repeats.indices (index_at repeats.turns.first n) i;
    } ∷ same i

-- ---- the law

blocks_as : (os : List (List Entry)) (bs : List moves.Block) → BlocksAre os bs → outlines_of bs ≡ os
blocks_as [] [] v = refl
blocks_as [] (b ∷ bs) v = absurd v
blocks_as (o ∷ os) [] v = absurd v
blocks_as (o ∷ os) (b ∷ bs) v = λ i. v.0 i ∷ blocks_as os bs v.2 i

one_outline : (o : List Entry) (os : List (List Entry)) (k l : Known) → IsAt o os k → IsAt o os l → HaveOneOutline k l
one_outline o os k l at to = record {
  entries = at.entries ∙ sym to.entries;
  blocks = blocks_as os k.blocks at.blocks ∙ sym (blocks_as os l.blocks to.blocks);
}

process_stays : (a : Around) (p : Process) (k : Known) → AreNested k.entries k.blocks
    → HaveOneOutline (left_to (length k.entries) (inside a p k)) k
process_stays a p k nested =
    let o = outline k.entries in
    let os = outlines_of k.blocks in
    let more = inside_at a p o os k (is_at k nested) (fits k nested) in
    one_outline o os (left_to (length k.entries) (inside a p k)) k
    (at_left (length k.entries) more.0 o os (inside a p k) more.1 (sym (outline_long k.entries)) (fits k nested))
    (is_at k nested)

construct_stays : (a : Around) (line : ℕ) (c : Construct) (k : Known) → AreNested k.entries k.blocks
    → HaveOneOutline (after_construct a line c k) k
construct_stays a line c k nested =
    one_outline (outline k.entries) (outlines_of k.blocks) (after_construct a line c k) k
    (construct_at a line c (outline k.entries) (outlines_of k.blocks) k (is_at k nested) (fits k nested))
    (is_at k nested)

components_stay : {part : Part} (a : Around) (word : Terminal) (cs : Components part) (k : Known)
    → AreNested k.entries k.blocks → IsMadeOf word part
    → HaveOneOutline (after_components a word cs (begun word k)) (begun word k)
components_stay {part = part} a word cs k nested is =
    let o = outline k.entries in
    let os = outlines_of k.blocks in
    let begins = begun_at word part o os k is (is_at k nested) in
    one_outline o (around_parts word o os) (after_components a word cs (begun word k)) (begun word k)
    (components_at a word cs o os (begun word k) is begins (fits k nested)) begins

entering_stays : {part : Part} (c : Component part) (k : Known) → AreNested k.entries k.blocks
    → HaveOneOutline (entered c k) k
entering_stays (Plain p) k nested = record { entries = refl; blocks = refl }
entering_stays (Chosen line e p) k nested =
    one_outline (outline k.entries) (outlines_of k.blocks) (chosen e k) k
    (at_chosen e (outline k.entries) (outlines_of k.blocks) k (is_at k nested)) (is_at k nested)
entering_stays (Guarded line g p) k nested =
    one_outline (outline k.entries) (outlines_of k.blocks) (with_entries (after_guard g) k) k
    (at_guarded g (outline k.entries) (outlines_of k.blocks) k (is_at k nested)) (is_at k nested)

pub outlines_stay : OutlinesStay
outlines_stay = record {
  processes = process_stays;
  constructs = construct_stays;
  components = components_stay;
  entering = entering_stays;
  turns = turns_at;
}
