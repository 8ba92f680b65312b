-- The moves of what is known keep that names are whole.
use Rattle.std.proofs.Common.{◌≡◌, ℕ, suc, Bool, true, false, cond, List, [], ◌∷◌, length, Option, Some, None}
use Rattle.std.proofs.Common.{Result, Ok, Err, refl, sym, subst, arith, ◌∙◌, nat_eq, nat_lt}
use Rattle.std.specs.Prelude.{max, unwrap_or}
use Rattle.std.proofs.lemmas.Bool.{lt-ltb, ltb-true}
use Rattle.word_arithmetic.specs.Range.{Ends, full}
use Rattle.occam_layout.specs.declared.mark.Mark.TheVariants as mark
use Rattle.occam_parser.specs.declared.tree.ValueType.{ValueType}
use Rattle.occam_parser.specs.Terminals.{Terminal, Mark}
use Rattle.occam_parser.specs.Expressions.{Expression}
use Rattle.occam_parser.specs.Lines.{Action, Skip, Stop, Assign, Input, Output, Instance, Guard, Receives, Skips}
use Rattle.scalar_ranges.specs.declared.scope.ScalarKind.TheVariants as kinds
use Rattle.scalar_ranges.specs.Entries.{Meaning, Constant, Scalar, Array, Channel, Channels, Procedure, Entry}
use Rattle.scalar_ranges.specs.Entries.{type_range, meaning_in}
use Rattle.scalar_ranges.specs.Environments.{item_at}
use Rattle.scalar_ranges.specs.Bounds.{bound_of, range_found}
use Rattle.scalar_ranges.specs.Narrowing.{with_range, narrow}
use Rattle.scalar_ranges.specs.Moves.{Block, Known, outermost, at_number, with_meaning, ranged, assigned, widened}
use Rattle.scalar_ranges.specs.Moves.{is_one_of, widen, hulls, of_both, taken, ends_with, begun_with, end_of, begin}
use Rattle.scalar_ranges.specs.Moves.{next_from, next, excluded, exclude_from, after_block, end}
use Rattle.scalar_ranges.specs.Moves.{component_end, component_from}
use Rattle.scalar_ranges.specs.MoveLaws.{shape}
use Rattle.scalar_ranges.proofs.MoveLaws.{shapes_stay}
use Rattle.program_uses.specs.Instances.{variable_at}
use Rattle.program_uses.specs.Signatures.{Parameter, parameters_in}
use Rattle.usage_checks.specs.AfterProcesses.{left_to, begun, ended, unless, begun_turns, begun_body, repeated, chosen}
use Rattle.usage_checks.specs.AfterProcesses.{process_ended}
use Rattle.usage_checks.specs.Following.{receive_if, assign_if, passed_to, after_actuals, after_action, where_holds}
use Rattle.usage_checks.specs.Following.{after_guard}
use Rattle.usage_checks.specs.NameRules.{with_entries}
use Rattle.usage_checks.specs.Whole.{is_whole, AreWhole, AreWholeIfAny, BlocksAreWhole, IsWhole}

-- ---- entries of one shape

flat_whole : (count : ℕ) (m : Meaning) → is_whole count (with_range (λ r. full) m) ≡ is_whole count m
flat_whole count (Constant type value) = refl
flat_whole count (Scalar kind type range) = refl
flat_whole count (Array kind type size range) = refl
flat_whole count (Channel type) = refl
flat_whole count (Channels type size) = refl
flat_whole count (Procedure number) = refl

shape_whole : (count : ℕ) (es : List Entry) → AreWhole count es → AreWhole count (shape es)
shape_whole count [] w = tt
shape_whole count (e ∷ es) w = (flat_whole count e.meaning ∙ w.0, shape_whole count es w.1)

whole_shape : (count : ℕ) (es : List Entry) → AreWhole count (shape es) → AreWhole count es
whole_shape count [] w = tt
whole_shape count (e ∷ es) w = (sym (flat_whole count e.meaning) ∙ w.0, whole_shape count es w.1)

same_shape : (count : ℕ) (ds es : List Entry) → shape ds ≡ shape es → AreWhole count es → AreWhole count ds
same_shape count ds es same w = whole_shape count ds (subst (AreWhole count) (sym same) (shape_whole count es w))

-- ---- one entry changes

ranged_whole : (count : ℕ) (range : ValueType → Ends) (m : Meaning)
    → is_whole count (ranged range m) ≡ is_whole count m
ranged_whole count range (Scalar kinds.Variable type old) = refl
ranged_whole count range (Scalar kinds.Value type old) = refl
ranged_whole count range (Scalar kinds.Reference type old) = refl
ranged_whole count range (Scalar kinds.Index type old) = refl
ranged_whole count range (Constant type value) = refl
ranged_whole count range (Array kind type size old) = refl
ranged_whole count range (Channel type) = refl
ranged_whole count range (Channels type size) = refl
ranged_whole count range (Procedure number) = refl

changed_by : (count : ℕ) (t : Bool) (f : Meaning → Meaning) (e : Entry) (es ds : List Entry)
    → is_whole count (f e.meaning) ≡ true → AreWhole count (e ∷ es) → AreWhole count ds
    → AreWhole count (cond t (with_meaning f e ∷ es) (e ∷ ds))
changed_by count true f e es ds h w v = (h, w.1)
changed_by count false f e es ds h w v = (w.0, v)

changed_whole : (count : ℕ) (f : Meaning → Meaning) → ((m : Meaning) → is_whole count (f m) ≡ is_whole count m)
    → (n : ℕ) (es : List Entry) → AreWhole count es → AreWhole count (at_number (with_meaning f) n es)
changed_whole count f same n [] w = tt
changed_whole count f same n (e ∷ es) w =
    changed_by count (nat_eq (length es) n) f e es (at_number (with_meaning f) n es) (same e.meaning ∙ w.0) w
    (changed_whole count f same n es w.1)

receive_whole : (count : ℕ) (o : Option ℕ) (es : List Entry) → AreWhole count es → AreWhole count (receive_if o es)
receive_whole count None es w = w
receive_whole count (Some n) es w = changed_whole count widened (ranged_whole count type_range) n es w

assign_whole : (count : ℕ) (o : Option ℕ) (range : Result Ends ℕ) (es : List Entry) → AreWhole count es
    → AreWhole count (assign_if o range es)
assign_whole count None range es w = w
assign_whole count (Some n) (Ok range) es w =
    changed_whole count (assigned range) (ranged_whole count (λ type. range)) n es w
assign_whole count (Some n) (Err e) es w = receive_whole count (Some n) es w

actuals_whole : (count : ℕ) (qs : List Parameter) (i : ℕ) (actuals : List Expression) (es : List Entry)
    → AreWhole count es → AreWhole count (after_actuals qs i actuals es)
actuals_whole count qs i [] es w = w
actuals_whole count qs i (e ∷ actuals) es w =
    actuals_whole count qs (suc i) actuals (receive_if (passed_to (item_at i qs) es e) es)
    (receive_whole count (passed_to (item_at i qs) es e) es w)

pub action_whole : (count : ℕ) (signatures : List (List Parameter)) (action : Action) (es : List Entry)
    → AreWhole count es → AreWhole count (after_action signatures action es)
action_whole count signatures Skip es w = w
action_whole count signatures Stop es w = w
action_whole count signatures (Assign target value) es w =
    assign_whole count (variable_at es target) (range_found (bound_of es value)) es w
action_whole count signatures (Input channel target) es w = receive_whole count (variable_at es target) es w
action_whole count signatures (Output channel value) es w = w
action_whole count signatures (Instance name actuals) es w =
    actuals_whole count (parameters_in signatures (meaning_in name es)) 0 actuals es w

pub holds_whole : (count : ℕ) (o : Option Expression) (es : List Entry) → AreWhole count es
    → AreWhole count (where_holds o es)
holds_whole count None es w = w
holds_whole count (Some e) es w = same_shape count (narrow es e true) es (shapes_stay.narrowing es e true) w

guard_whole : (count : ℕ) (g : Guard) (es : List Entry) → AreWhole count es → AreWhole count (after_guard g es)
guard_whole count (Receives condition channel target) es w =
    receive_whole count (variable_at (where_holds condition es) target) (where_holds condition es)
    (holds_whole count condition es w)
guard_whole count (Skips e) es w = holds_whole count (Some e) es w

-- ---- many entries

cut_by : (count : ℕ) (t : Bool) (e : Entry) (es ds : List Entry) → AreWhole count (e ∷ es) → AreWhole count ds
    → AreWhole count (cond t (e ∷ es) ds)
cut_by count true e es ds w v = w
cut_by count false e es ds w v = v

cut_whole : (count n : ℕ) (es : List Entry) → AreWhole count es → AreWhole count (outermost n es)
cut_whole count n [] w = tt
cut_whole count n (e ∷ es) w =
    cut_by count (nat_lt (length es) n) e es (outermost n es) w (cut_whole count n es w.1)

taken_one : (count : ℕ) (t : Bool) (d e : Entry) → is_whole count d.meaning ≡ true → is_whole count e.meaning ≡ true
    → is_whole count (of_both t d e).meaning ≡ true
taken_one count false d e v w = v
taken_one count true d e v w = w

taken_whole : (count : ℕ) (ns : List ℕ) (ds es : List Entry) → AreWhole count ds → AreWhole count es
    → AreWhole count (taken ns ds es)
taken_whole count ns [] es v w = tt
taken_whole count ns (d ∷ ds) [] v w = v
taken_whole count ns (d ∷ ds) (e ∷ es) v w =
    (taken_one count (is_one_of ns (length ds)) d e v.0 w.0, taken_whole count ns ds es v.1 w.1)

joined_whole : (count : ℕ) (ends : Option (List Entry)) (es : List Entry) → AreWholeIfAny count ends
    → AreWhole count es → AreWhole count (ends_with ends es)
joined_whole count None es v w = w
joined_whole count (Some ds) es v w = same_shape count (hulls ds es) ds (shapes_stay.joining ds es) v

-- ---- what is known

pub entries_whole : (count : ℕ) (f : List Entry → List Entry) (k : Known) → IsWhole count k
    → AreWhole count (f k.entries) → IsWhole count (with_entries f k)
entries_whole count f k w e = record { entries = e; blocks = w.blocks }

pub left_whole : (count n : ℕ) (k : Known) → IsWhole count k → IsWhole count (left_to n k)
left_whole count n k w = record {
  entries = cut_whole count (max n (begun_with k.blocks)) k.entries w.entries;
  blocks = w.blocks;
}

begin_whole : (count : ℕ) (k : Known) → IsWhole count k → IsWhole count (begin k)
begin_whole count k w = record { entries = w.entries; blocks = (w.entries, tt, w.blocks) }

pub begun_whole : (count : ℕ) (word : Terminal) (k : Known) → IsWhole count k → IsWhole count (begun word k)
begun_whole count (Mark mark.Par) k w = record { entries = w.entries; blocks = (w.entries, w.entries, w.blocks) }
begun_whole count (Mark mark.If) k w = begin_whole count k w
begun_whole count (Mark mark.Alt) k w = begin_whole count k w
begun_whole count word k w = w

ends_or_start : (count : ℕ) (ends : Option (List Entry)) (start : List Entry) → AreWholeIfAny count ends
    → AreWhole count start → AreWhole count (unwrap_or ends start)
ends_or_start count None start v w = w
ends_or_start count (Some ds) start v w = v

after_block_whole : (count : ℕ) (es : List Entry) (bs : List Block) → AreWhole count es → BlocksAreWhole count bs
    → IsWhole count (after_block es bs)
after_block_whole count es [] w v = record { entries = w; blocks = tt }
after_block_whole count es (b ∷ bs) w v =
    record { entries = ends_or_start count b.ends b.start v.1 v.0; blocks = v.2 }

end_whole : (count : ℕ) (k : Known) → IsWhole count k → IsWhole count (end k)
end_whole count k w = after_block_whole count k.entries k.blocks w.entries w.blocks

pub ended_whole : (count : ℕ) (word : Terminal) (k : Known) → IsWhole count k → IsWhole count (ended word k)
ended_whole count (Mark mark.Par) k w = end_whole count k w
ended_whole count (Mark mark.If) k w = end_whole count k w
ended_whole count (Mark mark.Alt) k w = end_whole count k w
ended_whole count word k w = w

next_from_whole : (count : ℕ) (es : List Entry) (bs : List Block) → AreWhole count es → BlocksAreWhole count bs
    → IsWhole count (next_from es bs)
next_from_whole count es [] w v = record { entries = w; blocks = tt }
next_from_whole count es (b ∷ bs) w v = record {
  entries = v.0;
  blocks = (
    v.0,
    joined_whole count b.ends (end_of b es) v.1 (cut_whole count (length b.start) es w),
    v.2,
  );
}

pub next_whole : (count : ℕ) (k : Known) → IsWhole count k → IsWhole count (next k)
next_whole count k w = next_from_whole count k.entries k.blocks w.entries w.blocks

component_whole : (count : ℕ) (ns : List ℕ) (es start : List Entry) (ends : Option (List Entry))
    → AreWhole count es → AreWholeIfAny count ends
    → AreWholeIfAny count (component_end ns (record { start = start; ends = ends }) es)
component_whole count ns es start None w v = tt
component_whole count ns es start (Some ds) w v =
    taken_whole count ns ds (outermost (length start) es) v (cut_whole count (length start) es w)

component_from_whole : (count : ℕ) (ns : List ℕ) (es : List Entry) (bs : List Block) → AreWhole count es
    → BlocksAreWhole count bs → IsWhole count (component_from ns es bs)
component_from_whole count ns es [] w v = record { entries = w; blocks = tt }
component_from_whole count ns es (b ∷ bs) w v = record {
  entries = v.0;
  blocks = (v.0, component_whole count ns es b.start b.ends w v.1, v.2);
}

excluded_blocks : (count : ℕ) (e : Expression) (es : List Entry) (bs : List Block) → BlocksAreWhole count bs
    → BlocksAreWhole count (exclude_from e es bs)
excluded_blocks count e es [] v = tt
excluded_blocks count e es (b ∷ bs) v =
    (same_shape count (excluded e es b.start) b.start (shapes_stay.excluding es b.start e) v.0, v.1, v.2)

pub chosen_whole : (count : ℕ) (e : Expression) (k : Known) → IsWhole count k → IsWhole count (chosen e k)
chosen_whole count e k w = record {
  entries = holds_whole count (Some e) k.entries w.entries;
  blocks = excluded_blocks count e k.entries k.blocks w.blocks;
}

pub guarded_whole : (count : ℕ) (g : Guard) (k : Known) → IsWhole count k
    → IsWhole count (with_entries (after_guard g) k)
guarded_whole count g k w = entries_whole count (after_guard g) k w (guard_whole count g k.entries w.entries)

-- a process of a block ends
pub process_whole : (count n : ℕ) (word : Terminal) (changed : List ℕ) (k : Known) → IsWhole count k
    → IsWhole count (process_ended word n changed k)
process_whole count n (Mark mark.Par) changed k w =
    component_from_whole count changed k.entries k.blocks w.entries w.blocks
process_whole count n word changed k w = left_whole count n k w

-- ---- replicators

unless_whole : (count : ℕ) (happens : Bool) (move : Known → Known)
    → ((k : Known) → IsWhole count k → IsWhole count (move k)) → (k : Known) → IsWhole count k
    → IsWhole count (unless happens move k)
unless_whole count true move keeps k w = w
unless_whole count false move keeps k w = keeps k w

turns_whole : (count : ℕ) (word : Terminal) (changed : List ℕ) (k : Known) → IsWhole count k
    → IsWhole count (begun_turns word changed k)
turns_whole count (Mark mark.Seq) changed k w =
    let widened = same_shape count (widen changed k.entries) k.entries (shapes_stay.widening k.entries changed)
    w.entries in
    record { entries = widened; blocks = (widened, tt, w.blocks) }
turns_whole count word changed k w = begun_whole count word k w

pub body_begun_whole : (count : ℕ) (word : Terminal) (changed : List ℕ) (happens : Bool) (k : Known)
    → IsWhole count k → IsWhole count (begun_body word changed happens k)
body_begun_whole count word changed happens k w =
    turns_whole count word changed (unless happens begin k)
    (unless_whole count happens begin (begin_whole count) k w)

pub repeated_whole : (count : ℕ) (happens : Bool) (k : Known) → IsWhole count k → IsWhole count (repeated happens k)
repeated_whole count happens k w =
    unless_whole count happens end (end_whole count) (end k) (end_whole count k w)

-- ---- more procedures

more_procedures : (count : ℕ) (m : Meaning) → is_whole count m ≡ true → is_whole (suc count) m ≡ true
more_procedures count (Constant type value) w = w
more_procedures count (Scalar kind type range) w = w
more_procedures count (Array kind type size range) w = w
more_procedures count (Channel type) w = w
more_procedures count (Channels type size) w = w
more_procedures count (Procedure number) w =
    let before = ltb-true number count w in lt-ltb number (suc count) (omega (arith, before))

entries_more : (count : ℕ) (es : List Entry) → AreWhole count es → AreWhole (suc count) es
entries_more count [] w = tt
entries_more count (e ∷ es) w = (more_procedures count e.meaning w.0, entries_more count es w.1)

ends_more : (count : ℕ) (ends : Option (List Entry)) → AreWholeIfAny count ends → AreWholeIfAny (suc count) ends
ends_more count None w = tt
ends_more count (Some es) w = entries_more count es w

blocks_more : (count : ℕ) (bs : List Block) → BlocksAreWhole count bs → BlocksAreWhole (suc count) bs
blocks_more count [] w = tt
blocks_more count (b ∷ bs) w =
    (entries_more count b.start w.0, ends_more count b.ends w.1, blocks_more count bs w.2)

-- where one procedure more is known, names are whole
pub whole_more : (count : ℕ) (k : Known) → IsWhole count k → IsWhole (suc count) k
whole_more count k w =
    record { entries = entries_more count k.entries w.entries; blocks = blocks_more count k.blocks w.blocks }
