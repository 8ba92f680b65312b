-- What is known where a process ends, against where it began: the blocks around are the same, and ranges lie within.
use Rattle.std.proofs.Common.{◌≡◌, ℕ, zero, suc, ◌+◌, ◌≤◌, Bool, true, false, cond, List, [], ◌∷◌, ◌++◌, length}
use Rattle.std.proofs.Common.{Option, Some, None, Ok, Err, Result, refl, sym, ap, subst, arith, ◌∙◌, max, unwrap_or}
use Rattle.std.proofs.Common.{append_assoc}
use Rattle.std.proofs.lemmas.List.{length-append}
use Rattle.std.specs.Prelude.{option_and_then}
use Rattle.word_arithmetic.specs.Range.{Ends}
use Rattle.occam_layout.specs.declared.mark.Mark.TheVariants as mark
use Rattle.occam_parser.specs.Terminals.{Terminal, Mark}
use Rattle.occam_parser.specs.OneOrMore.{as_list}
use Rattle.occam_parser.specs.Expressions.{Expression}
use Rattle.occam_parser.specs.Lines.{Place, Action, Skip, Stop, Assign, Input, Output, Instance, Guard, Receives, Skips}
use Rattle.occam_parser.specs.Lines.{Declaration, Constants, Variables, Channels, Replicator, block_word}
use Rattle.occam_parser.specs.Blocks.{Process, Declared, Does, Construct, Act, Block, Replicated, One, Part, part_of}
use Rattle.occam_parser.specs.Blocks.{Components, NoComponent, Further, Component, Plain, Chosen, Guarded}
use Rattle.scalar_ranges.specs.Entries.{Meaning, Entry, meaning_in}
use Rattle.scalar_ranges.specs.Environments.{item_at}
use Rattle.scalar_ranges.specs.Bounds.{bound_of, range_found}
use Rattle.scalar_ranges.specs.Narrowing.{narrow}
use Rattle.scalar_ranges.specs.Moves as moves
use Rattle.scalar_ranges.specs.Moves.{Known, is_one_of, outermost, begun_with, widen, taken, ends_with, end_of, begin}
use Rattle.scalar_ranges.specs.Moves.{begin_par, begin_loop, next_from, next, excluded, exclude_from, after_block, end}
use Rattle.scalar_ranges.specs.Moves.{component_from, next_component, hulls}
use Rattle.scalar_ranges.proofs.Found.{none_less}
use Rattle.scalar_ranges.proofs.Nesting.{outermost_short, further_out, outermost_twice}
use Rattle.scalar_ranges.proofs.Numbered.{in_either}
use Rattle.program_uses.specs.declared.signature.Passing.{Passing}
use Rattle.program_uses.specs.declared.signature.Passing.TheVariants as passing
use Rattle.program_uses.specs.Actions.{Around, is_before}
use Rattle.program_uses.specs.Changes.{listed, changed_as, changed_by_actual, changed_by_actuals, changed_by_action}
use Rattle.program_uses.specs.Changes.{changed_by_guard, changed_by, changed_by_construct}
use Rattle.program_uses.specs.Changes.{changed_by_components, changed_by_component}
use Rattle.program_uses.specs.Declaring.{add, add_all, add_declaration, constant_meaning, variable_meaning}
use Rattle.program_uses.specs.Declaring.{channel_meaning}
use Rattle.program_uses.specs.Indices.{is_seq, index_of, index_at, index_meaning, Repeats, repeats_of, index_in}
use Rattle.program_uses.specs.Indices.{turn_by_turn}
use Rattle.program_uses.specs.Instances.{place_in, whole_name, variable_at}
use Rattle.program_uses.specs.Mentions.{variable_in}
use Rattle.program_uses.specs.Outlines.{flat, outline}
use Rattle.program_uses.specs.Signatures.{Parameter, passing_of, parameters_in}
use Rattle.program_uses.proofs.ChangesAlike.{added_alike, changes_follow_outlines, declaring_keeps_outlines}
use Rattle.program_uses.proofs.ChangesAlike.{guard_alike}
use Rattle.program_uses.proofs.ScopesExtended.{inner_cut}
use Rattle.program_meaning.specs.RangesWithin.{EntriesWithin}
use Rattle.program_meaning.proofs.MovesWithin.{moves_stay_within, within_same, within_long, within_then, within_more}
use Rattle.program_meaning.proofs.MovesWithin.{within_left, narrow_within, excluded_within, widened_within}
use Rattle.program_meaning.proofs.MovesWithin.{within_taken}
use Rattle.program_meaning.proofs.MovesWithin.{within_hulls, within_shape, variables_within}
use Rattle.usage_checks.specs.AfterProcesses.{left_to, begun, ended, unless, begun_turns, begun_body, repeated, chosen}
use Rattle.usage_checks.specs.AfterProcesses.{inside, after_construct, after_components, after_component}
use Rattle.usage_checks.specs.Following.{receive_if, assign_if, passed_as, passed_to, after_actuals, after_action}
use Rattle.usage_checks.specs.Following.{where_holds, after_guard}
use Rattle.usage_checks.specs.NameRules.{with_entries}
use Rattle.usage_checks.specs.Outlines.{IsMadeOf}
use Rattle.usage_checks.proofs.OutlinesStay.{shaped, kind_fits}
use Rattle.usage_checks.specs.RangesStay.{Stays, RangesStay}

-- ---- lists of variables

-- the first list has the numbers of the second one
pub record Covers (all ns : List ℕ) : Type 0 where
  pub has : (n : ℕ) → is_one_of ns n ≡ true → is_one_of all n ≡ true

pub covers_itself : (ns : List ℕ) → Covers ns ns
covers_itself ns = record { has = λ n is. is }

pub covers_as : (all ns ms : List ℕ) → ns ≡ ms → Covers all ns → Covers all ms
covers_as all ns ms same c = subst (Covers all) same c

still_true : (t : Bool) → cond t true true ≡ true
still_true true = refl
still_true false = refl

covers_front : (all ns ms : List ℕ) → Covers all (ns ++ ms) → Covers all ns
covers_front all ns ms c = record {
  has = λ n is. c.has n (in_either ns ms n ∙ ap (λ t. cond t true (is_one_of ms n)) is);
}

covers_back : (all ns ms : List ℕ) → Covers all (ns ++ ms) → Covers all ms
covers_back all ns ms c = record {
  has = λ n is. c.has n (in_either ns ms n ∙ ap (cond (is_one_of ns n) true) is ∙ still_true (is_one_of ns n));
}

within_all : (all ns : List ℕ) (ds es : List Entry) → Covers all ns → EntriesWithin ns ds es → EntriesWithin all ds es
within_all all ns ds es c w = within_more ns all ds es c.has w

within_outline : (all : List ℕ) (ds es : List Entry) → EntriesWithin all ds es → outline ds ≡ outline es
within_outline all ds es w = shaped ds es (within_shape all ds es w)

-- ---- what is on one line

receive_within : (o : Option ℕ) (es : List Entry) → EntriesWithin (listed o) (receive_if o es) es
receive_within None es = within_same [] es
receive_within (Some n) es = moves_stay_within.receiving n es

assign_within : (o : Option ℕ) (r : Result Ends ℕ) (es : List Entry) → EntriesWithin (listed o) (assign_if o r es) es
assign_within None r es = within_same [] es
assign_within (Some n) (Ok range) es = moves_stay_within.assigning n range es
assign_within (Some n) (Err e) es = moves_stay_within.receiving n es

assigned_within : (all : List ℕ) (es : List Entry) (name : List ℕ) (o : Option Expression) (r : Result Ends ℕ)
    → Covers all (listed (variable_in name es))
    → EntriesWithin all (assign_if (variable_at es (record { name = name; subscript = o })) r es) es
assigned_within all es name None r c =
    within_all all (listed (variable_in name es)) (assign_if (variable_in name es) r es) es c
    (assign_within (variable_in name es) r es)
assigned_within all es name (Some e) r c = within_same all es

received_within : (all : List ℕ) (es : List Entry) (name : List ℕ) (o : Option Expression)
    → Covers all (listed (variable_in name es))
    → EntriesWithin all (receive_if (variable_at es (record { name = name; subscript = o })) es) es
received_within all es name None c =
    within_all all (listed (variable_in name es)) (receive_if (variable_in name es) es) es c
    (receive_within (variable_in name es) es)
received_within all es name (Some e) c = within_same all es

named_same : (all : List ℕ) (ds es : List Entry) (o : Option (List ℕ)) → EntriesWithin all ds es
    → option_and_then (λ name. variable_in name es) o ≡ option_and_then (λ name. variable_in name ds) o
named_same all ds es None w = refl
named_same all ds es (Some name) w = sym (variables_within all ds es name w)

place_same : (all : List ℕ) (ds es : List Entry) (o : Option Place) → EntriesWithin all ds es
    → option_and_then (variable_at es) o ≡ option_and_then (variable_at ds) o
place_same all ds es None w = refl
place_same all ds es (Some p) w = named_same all ds es (whole_name p) w

passed_by : (all : List ℕ) (how : Passing) (e : Expression) (ds es : List Entry) → EntriesWithin all ds es
    → Covers all (changed_as how (option_and_then (variable_at es) (place_in e)))
    → Covers all (listed (passed_as how ds e))
passed_by all passing.Variable e ds es w c =
    covers_as all (listed (option_and_then (variable_at es) (place_in e))) _
    (ap listed (place_same all ds es (place_in e) w)) c
passed_by all passing.Value e ds es w c = c
passed_by all passing.Channel e ds es w c = c
passed_by all passing.Channels e ds es w c = c

passed_covered : (all : List ℕ) (o : Option Parameter) (e : Expression) (ds es : List Entry)
    → EntriesWithin all ds es → Covers all (changed_by_actual es o e) → Covers all (listed (passed_to o ds e))
passed_covered all None e ds es w c = c
passed_covered all (Some q) e ds es w c = passed_by all (passing_of q.meaning) e ds es w c

-- the parameters from a place on
record FromPlace (qs ps : List Parameter) (i : ℕ) : Type 0 where
  at : (j : ℕ) → item_at (i + j) qs ≡ item_at j ps

actual_within : (all : List ℕ) (qs ps : List Parameter) (i : ℕ) (e : Expression) (ds es : List Entry)
    (o : Option Parameter) → item_at i qs ≡ o → EntriesWithin all ds es → Covers all (changed_by_actual es o e)
    → EntriesWithin all (receive_if (passed_to (item_at i qs) ds e) ds) es
actual_within all qs ps i e ds es o is w c =
    let number = passed_to (item_at i qs) ds e in
    let covered = passed_covered all (item_at i qs) e ds es w
    (subst (λ p. Covers all (changed_by_actual es p e)) (sym is) c) in
    within_then all (receive_if number ds) ds es
    (within_all all (listed number) (receive_if number ds) ds covered (receive_within number ds)) w

actuals_within : (all : List ℕ) (qs ps : List Parameter) (i : ℕ) (actuals : List Expression) (ds es : List Entry)
    → FromPlace qs ps i → EntriesWithin all ds es → Covers all (changed_by_actuals es ps actuals)
    → EntriesWithin all (after_actuals qs i actuals ds) es
actuals_within all qs ps i [] ds es from w c = w
actuals_within all qs [] i (e ∷ actuals) ds es from w c =
    let first : item_at i qs ≡ None = ap (λ n. item_at n qs) (omega arith) ∙ from.at 0 in
    let once = actual_within all qs [] i e ds es None first w (covers_front all [] _ c) in
    actuals_within all qs [] (suc i) actuals (receive_if (passed_to (item_at i qs) ds e) ds) es
    (record { at = λ j. ap (λ n. item_at n qs) (omega arith) ∙ from.at (suc j) }) once (covers_back all [] _ c)
actuals_within all qs (p ∷ ps) i (e ∷ actuals) ds es from w c =
    let first : item_at i qs ≡ Some p = ap (λ n. item_at n qs) (omega arith) ∙ from.at 0 in
    let once = actual_within all qs (p ∷ ps) i e ds es (Some p) first w
    (covers_front all (changed_by_actual es (Some p) e) _ c) in
    actuals_within all qs ps (suc i) actuals (receive_if (passed_to (item_at i qs) ds e) ds) es
    (record { at = λ j. ap (λ n. item_at n qs) (omega arith) ∙ from.at (suc j) }) once
    (covers_back all (changed_by_actual es (Some p) e) _ c)

pub action_within : (all : List ℕ) (signatures : List (List Parameter)) (es : List Entry) (action : Action)
    → Covers all (changed_by_action signatures es action)
    → EntriesWithin all (after_action signatures action es) es
action_within all signatures es Skip c = within_same all es
action_within all signatures es Stop c = within_same all es
action_within all signatures es (Assign target value) c =
    assigned_within all es target.name target.subscript (range_found (bound_of es value)) c
action_within all signatures es (Input channel target) c = received_within all es target.name target.subscript c
action_within all signatures es (Output channel value) c = within_same all es
action_within all signatures es (Instance name actuals) c =
    let qs = parameters_in signatures (meaning_in name es) in
    actuals_within all qs qs 0 actuals es es (record { at = λ j. ap (λ n. item_at n qs) (omega arith) })
    (within_same all es) c

holds_within : (all : List ℕ) (o : Option Expression) (es : List Entry) → EntriesWithin all (where_holds o es) es
holds_within all None es = within_same all es
holds_within all (Some e) es = narrow_within all es e true

pub guard_within : (all : List ℕ) (g : Guard) (es : List Entry) → Covers all (changed_by_guard es g)
    → EntriesWithin all (after_guard g es) es
guard_within all (Receives condition channel target) es c =
    let ds = where_holds condition es in
    let w = holds_within all condition es in
    within_then all (after_guard (Receives condition channel target) es) ds es
    (received_within all ds target.name target.subscript
    (covers_as all (listed (variable_in target.name es)) (listed (variable_in target.name ds))
    (ap listed (sym (variables_within all ds es target.name w))) c)) w
guard_within all (Skips e) es c = narrow_within all es e true

-- ---- names that are declared

all_inner : (names : List (List ℕ)) (m : Meaning) (es : List Entry)
    → (inner : List Entry) × (add_all names m es ≡ inner ++ es)
all_inner [] m es = ([], refl)
all_inner (name ∷ names) m es =
    let rest = all_inner names m (add name m es) in
    let e : Entry = record { name = name; meaning = m } in
    (rest.0 ++ e ∷ [], rest.1 ∙ sym (append_assoc rest.0 (e ∷ []) es))

declared_inner : (d : Declaration) (es : List Entry)
    → (inner : List Entry) × (add_declaration d es ≡ inner ++ es)
declared_inner (Constants c) es =
    (record { name = c.name; meaning = constant_meaning es c.value_type c.value } ∷ [], refl)
declared_inner (Variables n) es = all_inner (as_list n.names) (variable_meaning es n.value_type n.size) es
declared_inner (Channels n) es = all_inner (as_list n.names) (channel_meaning es n.value_type n.size) es

pub declared_behind : (d : Declaration) (es : List Entry) → outermost (length es) (add_declaration d es) ≡ es
declared_behind d es =
    let more = declared_inner d es in ap (outermost (length es)) more.1 ∙ inner_cut more.0 es

pub declared_long : (d : Declaration) (es : List Entry) → length es ≤ length (add_declaration d es)
declared_long d es =
    let more = declared_inner d es in
    let long = length-append more.0 es in
    let same = ap length more.1 in
    omega (arith, long, same)

-- ---- what is known after a part

-- blocks are as before, and so are names, with ranges within
pub record Remains (all : List ℕ) (k l : Known) : Type 0 where
  pub blocks : l.blocks ≡ k.blocks
  pub within : EntriesWithin all l.entries k.entries

abbrev pub Low : Known → Type 0
Low k = begun_with k.blocks ≤ length k.entries

pub remains_low : (all : List ℕ) (k l : Known) → Remains all k l → Low k → Low l
remains_low all k l h low =
    let blocks = ap begun_with h.blocks in
    let long = within_long all l.entries k.entries h.within in
    omega (arith, low, blocks, long)

pub all_outermost : {A : Type 0} (n : ℕ) (xs : List A) → length xs ≡ n → outermost n xs ≡ xs
all_outermost n xs same = none_less n xs (omega (arith, same))

-- but for the innermost one
pub all_but_one : {A : Type 0} (n : ℕ) (x : A) (xs : List A) → length xs ≡ n → outermost n (x ∷ xs) ≡ xs
all_but_one n x xs same = further_out n x xs (omega (arith, same)) ∙ all_outermost n xs same

pub remains_stays : (all : List ℕ) (k l : Known) → Remains all k l → Stays all k l
remains_stays all k l h = record {
  blocks = h.blocks;
  within = subst (λ es. EntriesWithin all es k.entries)
      (sym (all_outermost (length k.entries) l.entries (within_long all l.entries k.entries h.within))) h.within;
}

low_max : (n b : ℕ) → b ≤ n → max n b ≡ n
low_max n b low = omega (arith, low)

pub left_is : (all : List ℕ) (k l : Known) → Stays all k l → Low k
    → (left_to (length k.entries) l).entries ≡ outermost (length k.entries) l.entries
left_is all k l h low =
    ap (λ n. outermost n l.entries)
    (ap (λ bs. max (length k.entries) (begun_with bs)) h.blocks
    ∙ low_max (length k.entries) (begun_with k.blocks) low)

pub left_remains : (all : List ℕ) (k l : Known) → Stays all k l → Low k → Remains all k (left_to (length k.entries) l)
left_remains all k l h low = record {
  blocks = h.blocks;
  within = subst (λ es. EntriesWithin all es k.entries) (sym (left_is all k l h low)) h.within;
}

remains_then : (all : List ℕ) (k l m : Known) → Remains all k l → Remains all l m → Remains all k m
remains_then all k l m h g = record {
  blocks = g.blocks ∙ h.blocks;
  within = within_then all m.entries l.entries k.entries g.within h.within;
}

-- ---- blocks of branches

abbrev pub EndsWithin : List ℕ → Option (List Entry) → List Entry → Type 0
EndsWithin all None fs = Unit {0}
EndsWithin all (Some es) fs = EntriesWithin all es fs

within_ends : (all : List ℕ) (ends : Option (List Entry)) (es fs : List Entry) → EndsWithin all ends fs
    → EntriesWithin all es fs → EntriesWithin all (ends_with ends es) fs
within_ends all None es fs h g = g
within_ends all (Some ds) es fs h g = within_hulls all ds es fs h g

ends_taken : (all ms : List ℕ) (start : List Entry) (ends : Option (List Entry)) (es fs : List Entry)
    → EndsWithin all ends fs → EntriesWithin all (outermost (length start) es) fs
    → EndsWithin all (moves.component_end ms (record { start = start; ends = ends }) es) fs
ends_taken all ms start None es fs h g = tt
ends_taken all ms start (Some ds) es fs h g = within_taken all ms ds (outermost (length start) es) fs h g

-- somewhere in a branch of a block that began in the first place
pub record InBranch (all : List ℕ) (k x : Known) : Type 0 where
  pub start : List Entry
  pub ends : Option (List Entry)
  pub blocks : x.blocks ≡ record { start = start; ends = ends } ∷ k.blocks
  pub long : length start ≤ length x.entries
  pub starts : EntriesWithin all start k.entries
  pub ended : EndsWithin all ends k.entries
  pub here : EntriesWithin all (outermost (length start) x.entries) k.entries

at_start : (all : List ℕ) (start es : List Entry) → EntriesWithin all start es
    → EntriesWithin all (outermost (length start) start) es
at_start all start es w =
    subst (λ ds. EntriesWithin all ds es) (sym (all_outermost (length start) start refl)) w

loop_branch : (all ns : List ℕ) (k : Known) → Covers all ns → InBranch all k (begin_loop ns k)
loop_branch all ns k c =
    let w = within_all all ns (widen ns k.entries) k.entries c (widened_within ns k.entries) in
    record {
      start = widen ns k.entries;
      ends = None;
      blocks = refl;
      long = omega arith;
      starts = w;
      ended = tt;
      here = at_start all (widen ns k.entries) k.entries w;
    }

named_branch : (all : List ℕ) (name : List ℕ) (m : Meaning) (k x : Known) → InBranch all k x
    → InBranch all k (with_entries (add name m) x)
named_branch all name m k x h =
    let e : Entry = record { name = name; meaning = m } in
    record {
      start = h.start;
      ends = h.ends;
      blocks = h.blocks;
      long = omega (arith, h.long);
      starts = h.starts;
      ended = h.ended;
      here = subst (λ es. EntriesWithin all es k.entries) (sym (further_out (length h.start) e x.entries h.long))
          h.here;
    }

moved_branch : (all : List ℕ) (es : List Entry) (k x : Known) → EntriesWithin all es x.entries → InBranch all k x
    → InBranch all k (record { entries = es; blocks = x.blocks })
moved_branch all es k x w h =
    let long = within_long all es x.entries w in
    record {
      start = h.start;
      ends = h.ends;
      blocks = h.blocks;
      long = omega (arith, h.long, long);
      starts = h.starts;
      ended = h.ended;
      here = within_then all (outermost (length h.start) es) (outermost (length h.start) x.entries) k.entries
          (within_left all (length h.start) es x.entries w) h.here;
    }

excluded_branch : (all : List ℕ) (e : Expression) (es : List Entry) (k x : Known) → InBranch all k x
    → InBranch all k (record { entries = x.entries; blocks = exclude_from e es x.blocks })
excluded_branch all e es k x h =
    let start = excluded e es h.start in
    let w = excluded_within all es h.start e in
    let long = within_long all start h.start w in
    record {
      start = start;
      ends = h.ends;
      blocks = ap (exclude_from e es) h.blocks;
      long = omega (arith, h.long, long);
      starts = within_then all start h.start k.entries w h.starts;
      ended = h.ended;
      here = subst (λ n. EntriesWithin all (outermost n x.entries) k.entries) (sym long) h.here;
    }

chosen_branch : (all : List ℕ) (e : Expression) (k x : Known) → InBranch all k x → InBranch all k (chosen e x)
chosen_branch all e k x h =
    let y : Known = record { entries = x.entries; blocks = exclude_from e x.entries x.blocks } in
    moved_branch all (narrow x.entries e true) k y (narrow_within all x.entries e true)
    (excluded_branch all e x.entries k x h)

branch_low : (all : List ℕ) (k x : Known) → InBranch all k x → Low x
branch_low all k x h = let blocks = ap begun_with h.blocks in omega (arith, h.long, blocks)

inside_branch : (all : List ℕ) (k y l : Known) → InBranch all k y → Stays all y l → InBranch all k l
inside_branch all k y l h s =
    let n = length h.start in
    let low = outermost_short (length y.entries) l.entries in
    let same = within_long all (outermost (length y.entries) l.entries) y.entries s.within in
    record {
      start = h.start;
      ends = h.ends;
      blocks = s.blocks ∙ h.blocks;
      long = omega (arith, h.long, low, same);
      starts = h.starts;
      ended = h.ended;
      here = within_then all (outermost n l.entries) (outermost n y.entries) k.entries
          (subst (λ es. EntriesWithin all es (outermost n y.entries))
          (outermost_twice n (length y.entries) l.entries h.long)
          (within_left all n (outermost (length y.entries) l.entries) y.entries s.within)) h.here;
    }

-- the next branch of such a block begins
pub record Turned (all : List ℕ) (k l : Known) : Type 0 where
  pub start : List Entry
  pub ends : Option (List Entry)
  pub is : l ≡ record { entries = start; blocks = record { start = start; ends = ends } ∷ k.blocks }
  pub starts : EntriesWithin all start k.entries
  pub ended : EndsWithin all ends k.entries

turned_branch : (all : List ℕ) (k l : Known) → Turned all k l → InBranch all k l
turned_branch all k l h =
    let long = ap (λ (x : Known). length x.entries) h.is in
    record {
      start = h.start;
      ends = h.ends;
      blocks = ap (λ (x : Known). x.blocks) h.is;
      long = omega (arith, long);
      starts = h.starts;
      ended = h.ended;
      here = subst (λ (x : Known). EntriesWithin all (outermost (length h.start) x.entries) k.entries) (sym h.is)
          (at_start all h.start k.entries h.starts);
    }

turned_alike : (all : List ℕ) (k l : Known) → Turned all k l → outline l.entries ≡ outline k.entries
turned_alike all k l h =
    ap (λ (x : Known). outline x.entries) h.is ∙ within_outline all h.start k.entries h.starts

turned_at : (all : List ℕ) (start : List Entry) (ends : Option (List Entry)) (k : Known)
    → EntriesWithin all start k.entries → EndsWithin all ends k.entries
    → Turned all k (record { entries = start; blocks = record { start = start; ends = ends } ∷ k.blocks })
turned_at all start ends k w e = record { start = start; ends = ends; is = refl; starts = w; ended = e }

begin_turned : (all : List ℕ) (k : Known) → Turned all k (begin k)
begin_turned all k = turned_at all k.entries None k (within_same all k.entries) tt

begin_par_turned : (all : List ℕ) (k : Known) → Turned all k (begin_par k)
begin_par_turned all k =
    turned_at all k.entries (Some k.entries) k (within_same all k.entries) (within_same all k.entries)

next_branch : (all : List ℕ) (k l : Known) → InBranch all k l → Turned all k (next l)
next_branch all k l h =
    subst (λ bs. Turned all k (next_from l.entries bs)) (sym h.blocks)
    (turned_at all h.start (Some (ends_with h.ends (outermost (length h.start) l.entries))) k h.starts
    (within_ends all h.ends (outermost (length h.start) l.entries) k.entries h.ended h.here))

component_branch : (all ms : List ℕ) (k l : Known) → InBranch all k l → Turned all k (next_component ms l)
component_branch all ms k l h =
    let b : moves.Block = record { start = h.start; ends = h.ends } in
    subst (λ bs. Turned all k (component_from ms l.entries bs)) (sym h.blocks)
    (turned_at all h.start (moves.component_end ms b l.entries) k h.starts
    (ends_taken all ms h.start h.ends l.entries k.entries h.ended h.here))

ended_within : (all : List ℕ) (start : List Entry) (ends : Option (List Entry)) (es : List Entry)
    → EntriesWithin all start es → EndsWithin all ends es → EntriesWithin all (unwrap_or ends start) es
ended_within all start None es w e = w
ended_within all start (Some ds) es w e = e

end_remains : (all : List ℕ) (start : List Entry) (ends : Option (List Entry)) (k m : Known)
    → m.blocks ≡ record { start = start; ends = ends } ∷ k.blocks → EntriesWithin all start k.entries
    → EndsWithin all ends k.entries → Remains all k (end m)
end_remains all start ends k m blocks w e =
    subst (λ bs. Remains all k (after_block m.entries bs)) (sym blocks)
    (record { blocks = refl; within = ended_within all start ends k.entries w e })

branch_ends : (all : List ℕ) (k m : Known) → InBranch all k m → Remains all k (end m)
branch_ends all k m h = end_remains all h.start h.ends k m h.blocks h.starts h.ended

-- ---- parts

-- between two components of a block with this word that began in the first place
abbrev pub InParts : Terminal → List ℕ → Known → Known → Type 0
InParts (Mark mark.Seq) all k m = Remains all k m
InParts word all k m = Turned all k m

parts_begin : (word : Terminal) (part : Part) (all : List ℕ) (k : Known) → IsMadeOf word part
    → InParts word all k (begun word k)
parts_begin (Mark mark.Seq) part all k is = record { blocks = refl; within = within_same all k.entries }
parts_begin (Mark mark.Par) part all k is = begin_par_turned all k
parts_begin (Mark mark.If) part all k is = begin_turned all k
parts_begin (Mark mark.Alt) part all k is = begin_turned all k
parts_begin word part all k is = absurd is

parts_end : (word : Terminal) (part : Part) (all : List ℕ) (k m : Known) → IsMadeOf word part → InParts word all k m
    → Remains all k (ended word m)
parts_end (Mark mark.Seq) part all k m is h = h
parts_end (Mark mark.Par) part all k m is h = branch_ends all k m (turned_branch all k m h)
parts_end (Mark mark.If) part all k m is h = branch_ends all k m (turned_branch all k m h)
parts_end (Mark mark.Alt) part all k m is h = branch_ends all k m (turned_branch all k m h)
parts_end word part all k m is h = absurd is

-- a body that happens, or that is inside one block more
repeated_remains : (happens : Bool) (all : List ℕ) (k : Known) (turns : Known → Known)
    → ((j : Known) → j.entries ≡ k.entries → Remains all j (end (turns j)))
    → Remains all k (repeated happens (turns (unless happens begin k)))
repeated_remains true all k turns h = h k refl
repeated_remains false all k turns h =
    let inner = h (begin k) refl in
    end_remains all k.entries None k (end (turns (begin k))) inner.blocks (within_same all k.entries) tt

-- all but a SEQ have branches
abbrev pub IsApart : Terminal → Type 0
IsApart (Mark mark.Seq) = ⊥
IsApart word = Unit {0}

turns_begin : (word : Terminal) (part : Part) (all ns : List ℕ) (k : Known) → IsMadeOf word part → IsApart word
    → Turned all k (begun_turns word ns k)
turns_begin (Mark mark.Seq) part all ns k is apart = absurd apart
turns_begin (Mark mark.Par) part all ns k is apart = begin_par_turned all k
turns_begin (Mark mark.If) part all ns k is apart = begin_turned all k
turns_begin (Mark mark.Alt) part all ns k is apart = begin_turned all k
turns_begin word part all ns k is apart = absurd is

turns_keep : (P : Known → Type 0) (step : ℕ → Known → Known) → ((n : ℕ) (l : Known) → P l → P (step n l)) → (n : ℕ)
    (k : Known) → P k → P (turn_by_turn step n k)
turns_keep P step keeps zero k h = h
turns_keep P step keeps (suc n) k h = keeps n (turn_by_turn step n k) (turns_keep P step keeps n k h)

-- what is known after a body with this component
abbrev pub body_ended : {part : Part} → Around → Terminal → Component part → Replicator → Bool → Known → Known
body_ended a word c r counted k =
    let repeats = repeats_of counted k.entries (is_seq word) r in
    let ns = changed_by_component a.signatures (add r.name (index_meaning (is_seq word) None) k.entries) c in
    repeated repeats.happens
    (turn_by_turn (λ n l. after_component a word c (with_entries (add r.name (index_in repeats n)) l))
    repeats.turns.count (begun_body word ns repeats.happens k))

-- each turn of a body under a block that has branches
pub turns_turned : {part : Part} (a : Around) (all : List ℕ) (word : Terminal) (c : Component part) (name : List ℕ)
    (repeats : Repeats) (ns : List ℕ) (es : List Entry) (k : Known) (n : ℕ) → IsMadeOf word part → IsApart word
    → repeats.sequential ≡ false → outline k.entries ≡ outline es
    → ((j x : Known) → InBranch all j x → outline x.entries ≡ outline (add name (index_meaning false None) es)
    → Turned all j (after_component a word c x))
    → Turned all k (turn_by_turn (λ n l. after_component a word c (with_entries (add name (index_in repeats n)) l)) n
    (begun_turns word ns k))
turns_turned {part} a all word c name repeats ns es k n is apart sequential same turns =
    let step : ℕ → Known → Known =
    λ n l. after_component a word c (with_entries (add name (index_in repeats n)) l) in
    turns_keep (Turned all k) step (λ n l h. turns k (with_entries (add name (index_in repeats n)) l)
    (named_branch all name (index_in repeats n) k l (turned_branch all k l h))
    (added_alike name (index_in repeats n) (index_meaning false None) l.entries es
    (ap (λ b. flat (index_of b repeats.indices (index_at repeats.turns.first n))) sequential)
    (turned_alike all k l h ∙ same)))
    n (begun_turns word ns k) (turns_begin word part all ns k is apart)

apart_remains : {part : Part} (a : Around) (all : List ℕ) (word : Terminal) (c : Component part) (name : List ℕ)
    (repeats : Repeats) (ns : List ℕ) (k : Known) → IsMadeOf word part → IsApart word → repeats.sequential ≡ false
    → ((j x : Known) → InBranch all j x → outline x.entries ≡ outline (add name (index_meaning false None) k.entries)
    → Turned all j (after_component a word c x))
    → Remains all k (repeated repeats.happens
    (turn_by_turn (λ n l. after_component a word c (with_entries (add name (index_in repeats n)) l))
    repeats.turns.count (begun_body word ns repeats.happens k)))
apart_remains a all word c name repeats ns k is apart sequential turns =
    let step : ℕ → Known → Known =
    λ n l. after_component a word c (with_entries (add name (index_in repeats n)) l) in
    repeated_remains repeats.happens all k
    (λ j. turn_by_turn step repeats.turns.count (begun_turns word ns j))
    (λ j same. branch_ends all j (turn_by_turn step repeats.turns.count (begun_turns word ns j))
    (turned_branch all j (turn_by_turn step repeats.turns.count (begun_turns word ns j))
    (turns_turned a all word c name repeats ns k.entries j repeats.turns.count is apart sequential (ap outline same)
    turns)))

-- what becomes of a component with the word of its block, where the outline of the scope is this one
abbrev pub PartStays : {part : Part} → Around → List ℕ → Terminal → Component part → Type 0
PartStays a all (Mark mark.Seq) c = (es : List Entry) → Covers all (changed_by_component a.signatures es c)
    → (m : Known) → Low m → outline m.entries ≡ outline es → Remains all m (after_component a (Mark mark.Seq) c m)
PartStays a all word c = (es : List Entry) → Covers all (changed_by_component a.signatures es c) → (k x : Known)
    → InBranch all k x → outline x.entries ≡ outline es → Turned all k (after_component a word c x)

-- one component more
part_more : {part : Part} (a : Around) (all : List ℕ) (word : Terminal) (c : Component part) (k m : Known)
    → PartStays a all word c → Covers all (changed_by_component a.signatures k.entries c) → Low k
    → InParts word all k m → InParts word all k (after_component a word c m)
part_more a all (Mark mark.Seq) c k m stays covered low h =
    remains_then all k m (after_component a (Mark mark.Seq) c m) h
    (stays k.entries covered m (remains_low all k m h low) (within_outline all m.entries k.entries h.within))
part_more a all word c k m stays covered low h = stays k.entries covered k m (turned_branch all k m h)
    (turned_alike all k m h)

-- the body of a replicator
body_remains : {part : Part} (a : Around) (all : List ℕ) (word : Terminal) (c : Component part) (r : Replicator)
    (counted : Bool) (k : Known) → IsMadeOf word part → PartStays a all word c
    → Covers all (changed_by_component a.signatures (add r.name (index_meaning (is_seq word) None) k.entries) c)
    → Remains all k (body_ended a word c r counted k)
body_remains a all (Mark mark.Seq) c r counted k is stays covered =
    let es = add r.name (index_meaning true None) k.entries in
    let ns = changed_by_component a.signatures es c in
    let repeats = repeats_of counted k.entries true r in
    let m = with_entries (add r.name (index_in repeats 0)) (begin_loop ns k) in
    let wide = within_all all ns (widen ns k.entries) k.entries covered (widened_within ns k.entries) in
    let named = named_branch all r.name (index_in repeats 0) k (begin_loop ns k) (loop_branch all ns k covered) in
    let alike = added_alike r.name (index_in repeats 0) (index_meaning true None) (widen ns k.entries) k.entries refl
    (within_outline all (widen ns k.entries) k.entries wide) in
    let h = stays es covered m (branch_low all k m named) alike in
    end_remains all (widen ns k.entries) None k (after_component a (Mark mark.Seq) c m) h.blocks wide tt
body_remains a all (Mark mark.Par) c r counted k is stays covered =
    apart_remains a all (Mark mark.Par) c r.name (repeats_of counted k.entries false r)
    (changed_by_component a.signatures (add r.name (index_meaning false None) k.entries) c) k is tt refl
    (stays (add r.name (index_meaning false None) k.entries) covered)
body_remains a all (Mark mark.If) c r counted k is stays covered =
    apart_remains a all (Mark mark.If) c r.name (repeats_of counted k.entries false r)
    (changed_by_component a.signatures (add r.name (index_meaning false None) k.entries) c) k is tt refl
    (stays (add r.name (index_meaning false None) k.entries) covered)
body_remains a all (Mark mark.Alt) c r counted k is stays covered =
    apart_remains a all (Mark mark.Alt) c r.name (repeats_of counted k.entries false r)
    (changed_by_component a.signatures (add r.name (index_meaning false None) k.entries) c) k is tt refl
    (stays (add r.name (index_meaning false None) k.entries) covered)
body_remains a all word c r counted k is stays covered = absurd is

module _ (a : Around) (all : List ℕ) where
  mutual
    pub process_stays : (p : Process) (k : Known) → Covers all (changed_by a.signatures k.entries p) → Low k
        → Stays all k (inside a p k)
    process_stays (Declared d p) k c low =
        let known = with_entries (add_declaration d) k in
        let n = length k.entries in
        let longer = declared_long d k.entries in
        let final = inside a p known in
        let same = changes_follow_outlines.processes a.signatures p (add_declaration d k.entries) _
        (declaring_keeps_outlines d k.entries k.entries refl) in
        let h = process_stays p known (covers_as all _ (changed_by a.signatures known.entries p) (sym same) c)
        (omega (arith, low, longer)) in
        record {
          blocks = h.blocks;
          within = subst (λ (x : List Entry × List Entry). EntriesWithin all x.0 x.1)
              (λ i. (outermost_twice n (length known.entries) final.entries longer i, declared_behind d k.entries i))
              (within_left all n (outermost (length known.entries) final.entries) known.entries h.within);
        }
    process_stays (Does line c) k covered low =
        remains_stays all k (after_construct a line c k) (construct_remains line c k covered low)

    construct_remains : (line : ℕ) (c : Construct) (k : Known)
        → Covers all (changed_by_construct a.signatures k.entries c) → Low k
        → Remains all k (after_construct a line c k)
    construct_remains line (Act action) k c low =
        record { blocks = refl; within = action_within all a.signatures k.entries action c }
    construct_remains line (Block kind cs) k c low =
        let word = block_word kind in
        parts_end word (part_of kind) all k (after_components a word cs (begun word k)) (kind_fits kind)
        (components_stay word cs k (kind_fits kind) c low)
    construct_remains line (Replicated r (One kind c)) k covered low =
        let word = block_word kind in
        body_remains a all word c r (is_before line a.uncounted) k (kind_fits kind)
        (component_stays word c (kind_fits kind)) covered

    pub components_stay : {part : Part} (word : Terminal) (cs : Components part) (k : Known)
        → IsMadeOf word part → Covers all (changed_by_components a.signatures k.entries cs) → Low k
        → InParts word all k (after_components a word cs (begun word k))
    components_stay {part} word NoComponent k is c low = parts_begin word part all k is
    components_stay word (Further cs last) k is c low =
        part_more a all word last k (after_components a word cs (begun word k)) (component_stays word last is)
        (covers_back all (changed_by_components a.signatures k.entries cs) _ c) low
        (components_stay word cs k is (covers_front all (changed_by_components a.signatures k.entries cs) _ c) low)

    pub component_stays : {part : Part} (word : Terminal) (c : Component part) → IsMadeOf word part
        → PartStays a all word c
    component_stays (Mark mark.Seq) (Plain p) is = λ es c m low alike.
        let same = changes_follow_outlines.processes a.signatures p m.entries es alike in
        left_remains all m (inside a p m) (process_stays p m (covers_as all _ _ (sym same) c) low) low
    component_stays (Mark mark.Par) (Plain p) is = λ es c k x h alike.
        let same = changes_follow_outlines.processes a.signatures p x.entries es alike in
        component_branch all (changed_by a.signatures x.entries p) k (inside a p x)
        (inside_branch all k x (inside a p x) h
        (process_stays p x (covers_as all _ _ (sym same) c) (branch_low all k x h)))
    component_stays (Mark mark.If) (Chosen line e p) is = λ es c k x h alike.
        let y = chosen e x in
        let begun = chosen_branch all e k x h in
        let narrowed = within_outline all y.entries x.entries (narrow_within all x.entries e true) in
        let same = changes_follow_outlines.processes a.signatures p y.entries es (narrowed ∙ alike) in
        next_branch all k (inside a p y)
        (inside_branch all k y (inside a p y) begun
        (process_stays p y (covers_as all _ _ (sym same) c) (branch_low all k y begun)))
    component_stays (Mark mark.Alt) (Guarded line g p) is = λ es c k x h alike.
        let y = with_entries (after_guard g) x in
        let changed = covers_as all (changed_by_guard es g) (changed_by_guard x.entries g)
        (sym (guard_alike x.entries es alike g)) (covers_front all (changed_by_guard es g) _ c) in
        let w = guard_within all g x.entries changed in
        let begun = moved_branch all (after_guard g x.entries) k x w h in
        let same = changes_follow_outlines.processes a.signatures p y.entries es
        (within_outline all y.entries x.entries w ∙ alike) in
        next_branch all k (inside a p y)
        (inside_branch all k y (inside a p y) begun
        (process_stays p y (covers_as all _ _ (sym same) (covers_back all (changed_by_guard es g) _ c))
        (branch_low all k y begun)))
    component_stays word c is = absurd is

pub ranges_stay : RangesStay
ranges_stay = record {
  processes = λ a p k low. process_stays a (changed_by a.signatures k.entries p) p k (covers_itself _) low;
  constructs = λ a line c k low.
      remains_stays (changed_by_construct a.signatures k.entries c) k (after_construct a line c k)
      (construct_remains a (changed_by_construct a.signatures k.entries c) line c k (covers_itself _) low);
}
