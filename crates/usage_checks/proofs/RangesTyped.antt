-- At each place that the walk over a program reaches which breaks no rule, each range lies within its type.
use Rattle.std.proofs.Common.{◌≡◌, ℕ, zero, suc, ◌<◌, ◌≤◌, Bool, true, false, cond, List, [], ◌∷◌, length, Option}
use Rattle.std.proofs.Common.{Some, None, inl, inr, refl, sym, ap, subst, arith, ◌∙◌, unwrap_or, ℤ, pos, ◌+ℤ◌, ◌-ℤ◌}
use Rattle.std.proofs.Common.{max}
use Rattle.std.proofs.lemmas.List.{length-append}
use Rattle.std.specs.List.{list_all}
use Rattle.std.proofs.lemmas.Int.{ints}
use Rattle.std.specs.Prelude.{option_map, int_le}
use Rattle.std.proofs.lemmas.Bool.{and_parts}
use Rattle.occam_layout.specs.declared.mark.Mark.TheVariants as mark
use Rattle.occam_parser.specs.declared.tree.ValueType.TheVariants as value_type
use Rattle.occam_parser.specs.Terminals.{Terminal, Mark}
use Rattle.occam_parser.specs.Expressions.{Expression}
use Rattle.occam_parser.specs.Lines.{Declaration, Constants, Action, Guard, Formal, Replicator, block_word}
use Rattle.occam_parser.specs.Blocks.{Process, Declared, Does, Construct, Act, Block, Replicated, One, Part, part_of}
use Rattle.occam_parser.specs.Blocks.{Components, NoComponent, Further, Component, Plain, Chosen, Guarded, Procedure}
use Rattle.occam_parser.specs.Blocks.{ProgramItem, GlobalConstant, GlobalProcedure}
use Rattle.occam_parser.specs.Words.{has_words, declaration_has_words, process_has_words, construct_has_words}
use Rattle.occam_parser.specs.Words.{item_has_words, items_have_words, formal_has_words}
use Rattle.occam_parser.specs.Words.{replicator_has_words, components_have_words, component_has_words, guard_has_words}
use Rattle.word_arithmetic.specs.Word.{greatest_word, is_word, checked}
use Rattle.word_arithmetic.specs.Range.{Ends, constant, full}
use Rattle.word_arithmetic.proofs.WordLaws.{is_word_out}
use Rattle.scalar_ranges.specs.declared.types.ExprType.TheVariants as types
use Rattle.scalar_ranges.specs.Entries.{Constant, Entry}
use Rattle.scalar_ranges.specs.MoveLaws.{shape}
use Rattle.scalar_ranges.specs.Moves as moves
use Rattle.scalar_ranges.specs.Moves.{Known, outermost, begun_with, widen, begin, begin_loop, begin_par, next}
use Rattle.scalar_ranges.specs.Moves.{next_from, excluded}
use Rattle.scalar_ranges.specs.Moves.{exclude_from, ends_with, end_of, component_end, component_from, next_component}
use Rattle.scalar_ranges.specs.Moves.{end}
use Rattle.scalar_ranges.specs.Moves.{after_block, taken}
use Rattle.scalar_ranges.proofs.MoveLaws.{shapes_stay}
use Rattle.scalar_ranges.proofs.Nesting.{outermost_twice, long_alike}
use Rattle.program_uses.specs.Actions.{is_before}
use Rattle.program_uses.specs.Changes.{changed_by, changed_by_guard, changed_by_component, changed_by_components}
use Rattle.program_uses.specs.Constants.{value_as}
use Rattle.program_uses.specs.Declaring.{add, add_declaration, formal_meaning, add_formals}
use Rattle.program_uses.specs.Indices.{is_seq, is_count, index_range, index_of, index_at, index_meaning, Repeats}
use Rattle.program_uses.specs.Indices.{repeats_of, index_in, turn_by_turn}
use Rattle.program_uses.specs.Outlines.{outline}
use Rattle.program_uses.proofs.ChangesAlike.{added_alike}
use Rattle.program_meaning.specs.RangesWithin.{RangeWithin, EntriesWithin}
use Rattle.program_meaning.proofs.MovesWithin.{within_shape}
use Rattle.usage_checks.specs.AfterProcesses.{inside, after_construct, after_components, after_component, begun, ended}
use Rattle.usage_checks.specs.AfterProcesses.{begun_turns, begun_body, repeated, chosen}
use Rattle.usage_checks.specs.Following.{after_action, after_guard}
use Rattle.usage_checks.specs.Holding.{ReplicatorHolds}
use Rattle.usage_checks.specs.ItemRules as outside
use Rattle.usage_checks.specs.ItemRules.{Outside, in_body, around_in, after_weighing, weighed, after_walk, after_item}
use Rattle.usage_checks.specs.ItemRules.{BreaksNoRule}
use Rattle.usage_checks.specs.LineRules.{fits_word}
use Rattle.usage_checks.specs.NameRules.{with_entries}
use Rattle.usage_checks.specs.Outlines.{IsMadeOf}
use Rattle.usage_checks.specs.Reaching.{Standing, Piece, AProcess, AComponent, Reaches, behind, to_part, to_process}
use Rattle.usage_checks.specs.Reaching.{process_of, entered, StandsAmong, StandsIn, in_block, Comes, in_procedure}
use Rattle.usage_checks.specs.Reaching.{to_body}
use Rattle.usage_checks.specs.Sizes.{Measured, measures_of_item}
use Rattle.usage_checks.proofs.OutlinesStay.{shaped, kind_fits}
use Rattle.usage_checks.proofs.PlacesHold.{places_hold}
use Rattle.usage_checks.specs.TypedRanges.{IsInType, AreInTypes, RangesAreTyped}
use Rattle.usage_checks.proofs.ChoicesGoWell.{ends_in, ends_fit, place_shape, end_shape}
use Rattle.usage_checks.proofs.RangesStay.{covers_itself, declared_long, Low, remains_low, all_outermost}
use Rattle.usage_checks.proofs.RangesStay.{all_but_one, left_is, EndsWithin, Turned, InParts, IsApart, turns_turned}
use Rattle.usage_checks.proofs.RangesStay.{InBranch, guard_within, body_ended, ranges_stay, components_stay}
use Rattle.usage_checks.proofs.RangesStay.{component_stays}
use Rattle.usage_checks.proofs.TypedMoves.{typed_narrow, typed_excluded, typed_left, typed_taken, EndsInTypes}
use Rattle.usage_checks.proofs.TypedMoves.{typed_ends}
use Rattle.usage_checks.proofs.TypedMoves.{typed_widen, action_typed, guard_typed, declared_typed, formal_typed}
use Rattle.usage_checks.proofs.ProgramsGoWell.{formals_inner}

-- ---- blocks of branches

-- where a branch begins, and at the ends so far
abbrev pub TypedIn : Known → Type 0
TypedIn m = AreInTypes m.entries × EndsInTypes (ends_in m.blocks)

next_typed : (start : List Entry) (ends : Option (List Entry)) (bs : List moves.Block) (final : Known)
    → final.blocks ≡ record { start = start; ends = ends } ∷ bs → AreInTypes start → EndsInTypes ends
    → AreInTypes (outermost (length start) final.entries)
    → ((ds : List Entry) → ends ≡ Some ds → shape ds ≡ shape (outermost (length start) final.entries))
    → TypedIn (next final)
next_typed start ends bs final blocks starts ended here fits =
    subst (λ xs. TypedIn (next_from final.entries xs)) (sym blocks)
    (starts, typed_ends ends (outermost (length start) final.entries) fits ended here)

component_typed : (ms : List ℕ) (start : List Entry) (ends : Option (List Entry)) (bs : List moves.Block)
    (final : Known)
    → final.blocks ≡ record { start = start; ends = ends } ∷ bs → AreInTypes start → EndsInTypes ends
    → AreInTypes (outermost (length start) final.entries) → TypedIn (next_component ms final)
component_typed ms start ends bs final blocks starts ended here =
    subst (λ xs. TypedIn (component_from ms final.entries xs)) (sym blocks) (starts, taken_ends ends ended)
  where
    taken_ends : (o : Option (List Entry)) → EndsInTypes o
        → EndsInTypes (option_map (λ ds. taken ms ds (outermost (length start) final.entries)) o)
    taken_ends None h = tt
    taken_ends (Some ds) h = typed_taken ms ds (outermost (length start) final.entries) h here

ended_typed : (start : List Entry) (ends : Option (List Entry)) → AreInTypes start → EndsInTypes ends
    → AreInTypes (unwrap_or ends start)
ended_typed start None starts ended = starts
ended_typed start (Some es) starts ended = ended

-- what is known of the outermost names where a process ends
outer_typed : (n : ℕ) (y final : Known) → n ≤ length y.entries
    → AreInTypes (outermost (length y.entries) final.entries) → AreInTypes (outermost n final.entries)
outer_typed n y final low typed =
    subst AreInTypes (outermost_twice n (length y.entries) final.entries low)
    (typed_left n (outermost (length y.entries) final.entries) typed)

guard_shape : (g : Guard) (es : List Entry) → shape (after_guard g es) ≡ shape es
guard_shape g es =
    let ns = changed_by_guard es g in
    within_shape ns (after_guard g es) es (guard_within ns g es (covers_itself ns))

-- ---- indices

checked_typed : (v : ℤ) → IsInType (Constant value_type.Int (checked v))
checked_typed v = by_word (is_word v) refl
  where
    by_word : (t : Bool) → is_word v ≡ t → IsInType (Constant value_type.Int (cond t (Some v) None))
    by_word true is =
        let fits = is_word_out v is in record { from_lo = omega (arith, ints, fits); to_hi = omega (arith, ints, fits) }
    by_word false is = tt

index_constant : (first : Option ℤ) (n : ℕ) → IsInType (Constant value_type.Int (index_at first n))
index_constant None n = tt
index_constant (Some v) n = checked_typed (v +ℤ pos n)

index_by : (sequential : Bool) (range : Ends) (first : Option ℤ) (n : ℕ) → RangeWithin range full
    → IsInType (index_of sequential range (index_at first n))
index_by true range first n h = h
index_by false range first n h = index_constant first n

range_by : (t : Bool) (base count : ℤ) → is_count base count ≡ t → is_word base ≡ true
    → RangeWithin (cond t (record { lo = base; hi = base +ℤ (count -ℤ pos 1) }) (constant base)) full
range_by true base count is word =
    let fits = is_word_out base word in
    let both = and_parts (int_le (pos 1) count) (int_le (base +ℤ count) (greatest_word +ℤ pos 1)) is in
    (omega (arith, ints, fits), omega (arith, ints, both.1))
range_by false base count is word =
    let fits = is_word_out base word in (omega (arith, ints, fits), omega (arith, ints, fits))

-- the index of a replicator that breaks no rule
pub index_typed : (counted sequential : Bool) (es : List Entry) (r : Replicator) (n : ℕ) → ReplicatorHolds es r
    → IsInType (index_in (repeats_of counted es sequential r) n)
index_typed counted sequential es r n h =
    let both = and_parts (int_le (pos 0) h.count) (fits_word (Some h.base) h.count) h.fits in
    let fits = and_parts (is_word h.base) (int_le (h.base +ℤ h.count) (greatest_word +ℤ pos 1)) both.1 in
    let range = index_range (value_as es types.Int r.base) (value_as es types.Int r.count) in
    index_by sequential range (repeats_of counted es sequential r).turns.first n
    (subst (λ q. RangeWithin q full) (λ i. index_range (sym h.base_is i) (sym h.count_is i))
    (range_by (is_count h.base h.count) h.base h.count refl fits.0))

-- ---- places

-- a place in a branch of a block that began in the first place
record IsBranch (all : List ℕ) (k x : Known) (start : List Entry) (ends : Option (List Entry)) : Type 0 where
  blocks : x.blocks ≡ record { start = start; ends = ends } ∷ k.blocks
  starts : EntriesWithin all start k.entries
  ended : EndsWithin all ends k.entries
  same : outermost (length start) x.entries ≡ start
  long : length start ≤ length x.entries
  start_typed : AreInTypes start
  ends_typed : EndsInTypes ends
  here : AreInTypes x.entries

-- ranges lie within their types, and the block around begins with the outermost names
abbrev pub IsPlace : Known → Type 0
IsPlace k = AreInTypes k.entries × Low k

branch_low : (all : List ℕ) (k x : Known) (start : List Entry) (ends : Option (List Entry))
    → IsBranch all k x start ends → Low x
branch_low all k x start ends h = let blocks = ap begun_with h.blocks in omega (arith, blocks, h.long)

-- where the process of a component begins
excluded_low : (e : Expression) (es : List Entry) (bs : List moves.Block)
    → begun_with (exclude_from e es bs) ≡ begun_with bs
excluded_low e es [] = refl
excluded_low e es (b ∷ bs) = long_alike (excluded e es b.start) b.start (shapes_stay.excluding es b.start e)

entered_place : {part : Part} (c : Component part) (k : Known) → IsPlace k → IsPlace (entered c k)
entered_place (Plain p) k h = h
entered_place (Chosen line e p) k h =
    let long = long_alike (chosen e k).entries k.entries (shapes_stay.narrowing k.entries e true) in
    let begun = excluded_low e k.entries k.blocks in
    let low = h.1 in
    (typed_narrow k.entries e true h.0, omega (arith, long, begun, low))
entered_place (Guarded line g p) k h =
    let long = long_alike (after_guard g k.entries) k.entries (guard_shape g k.entries) in
    let low = h.1 in
    (guard_typed g k.entries h.0, omega (arith, long, low))

process_words : {part : Part} (c : Component part) → component_has_words c ≡ true
    → process_has_words (process_of c) ≡ true
process_words (Plain p) words = words
process_words (Chosen line e p) words = (and_parts (has_words e) (process_has_words p) words).1
process_words (Guarded line g p) words = (and_parts (guard_has_words g) (process_has_words p) words).1

-- ---- items

formals_typed : (outer : List Entry) (fs : List Formal) (es : List Entry) → AreInTypes es
    → AreInTypes (add_formals outer fs es)
formals_typed outer [] es typed = typed
formals_typed outer (f ∷ fs) es typed =
    formals_typed outer fs (add f.name (formal_meaning outer f) es) (formal_typed outer f, typed)

formals_long : (outer : List Entry) (fs : List Formal) (es : List Entry)
    → length es ≤ length (add_formals outer fs es)
formals_long outer fs es =
    let more = formals_inner outer fs es in
    let same = ap length more.1 in
    let added = length-append more.0 es in
    omega (arith, same, added)

-- where an item comes
record AtItem (o : Outside) : Type 0 where
  typed : AreInTypes o.known.entries
  blocks : o.known.blocks ≡ []

weighing_item : (x : Option ℕ) (ms : List Measured) (o : Outside) → AtItem o → AtItem (after_weighing x ms o)
weighing_item None ms o at = record { typed = at.typed; blocks = at.blocks }
weighing_item (Some line) ms o at = at

module _ (items : List ProgramItem) where
  -- the ranges of the names around a process lie within their types where it ends, if they do where it begins
  pub record ProcessTyped (p : Process) : Type 0 where
    pub typed : (t : Standing) (first : ℕ) (k : Known) → Reaches items t (AProcess first p) k
        → process_has_words p ≡ true → Low k → AreInTypes k.entries
        → AreInTypes (outermost (length k.entries) (inside t.around p k).entries)

  pub record ConstructTyped (c : Construct) : Type 0 where
    pub typed : (t : Standing) (first line : ℕ) (k : Known) → Reaches items t (AProcess first (Does line c)) k
        → construct_has_words c ≡ true → Low k → AreInTypes k.entries
        → AreInTypes (outermost (length k.entries) (after_construct t.around line c k).entries)

  abbrev pub EachTyped : {part : Part} → Components part → Type 0
  EachTyped NoComponent = Unit {0}
  EachTyped (Further cs c) = EachTyped cs × ProcessTyped (process_of c)

  -- a component of a block that has branches
  branch_typed : {part : Part} (word : Terminal) (c : Component part) (t : Standing) (all : List ℕ) (k x : Known)
      (start : List Entry) (ends : Option (List Entry)) → IsMadeOf word part → IsApart word
      → Reaches items t (AComponent c) x → component_has_words c ≡ true → ProcessTyped (process_of c)
      → IsBranch all k x start ends → TypedIn (after_component t.around word c x)
  branch_typed (Mark mark.Seq) c t all k x start ends is apart reached words goes h = absurd apart
  branch_typed (Mark mark.Par) (Plain p) t all k x start ends is apart reached words goes h =
      let a = t.around in
      let low = branch_low all k x start ends h in
      let final = inside a p x in
      let stays = ranges_stay.processes a p x low in
      component_typed (changed_by a.signatures x.entries p) start ends k.blocks final (stays.blocks ∙ h.blocks)
      h.start_typed h.ends_typed
      (outer_typed (length start) x final h.long
      (goes.typed t (length x.entries) x (to_process t (Plain p) x reached) words low h.here))
  branch_typed (Mark mark.If) (Chosen line e p) t all k x start ends is apart reached words goes h =
      let a = t.around in
      let y = chosen e x in
      let rest = excluded e x.entries start in
      let both = and_parts (has_words e) (process_has_words p) words in
      let rest_long = long_alike rest start (shapes_stay.excluding x.entries start e) in
      let y_long = long_alike y.entries x.entries (shapes_stay.narrowing x.entries e true) in
      let blocks : y.blocks ≡ record { start = rest; ends = ends } ∷ k.blocks =
      ap (exclude_from e x.entries) h.blocks in
      let begun = ap begun_with blocks in
      let low : Low y = omega (arith, begun, rest_long, y_long, h.long) in
      let final = inside a p y in
      let stays = ranges_stay.processes a p y low in
      next_typed rest ends k.blocks final (stays.blocks ∙ blocks) (typed_excluded x.entries start e h.start_typed)
      h.ends_typed
      (outer_typed (length rest) y final (omega (arith, rest_long, y_long, h.long))
      (goes.typed t (length y.entries) y (to_process t (Chosen line e p) x reached) both.1 low
      (typed_narrow x.entries e true h.here)))
      (ends_fit all ends (outermost (length rest) final.entries) k.entries h.ended
      (end_shape all (changed_by a.signatures y.entries p) e start k x final h.starts h.same h.long stays))
  branch_typed (Mark mark.Alt) (Guarded line g p) t all k x start ends is apart reached words goes h =
      let a = t.around in
      let y = with_entries (after_guard g) x in
      let both = and_parts (guard_has_words g) (process_has_words p) words in
      let alike = guard_shape g x.entries in
      let y_long = long_alike y.entries x.entries alike in
      let begun = ap begun_with h.blocks in
      let low : Low y = omega (arith, begun, y_long, h.long) in
      let final = inside a p y in
      let stays = ranges_stay.processes a p y low in
      next_typed start ends k.blocks final (stays.blocks ∙ h.blocks) h.start_typed h.ends_typed
      (outer_typed (length start) y final (omega (arith, y_long, h.long))
      (goes.typed t (length y.entries) y (to_process t (Guarded line g p) x reached) both.1 low
      (guard_typed g x.entries h.here)))
      (ends_fit all ends (outermost (length start) final.entries) k.entries h.ended
      (place_shape (length start) (changed_by a.signatures y.entries p) start x y final alike h.same h.long stays
      ∙ within_shape all start k.entries h.starts))
  branch_typed word c t all k x start ends is apart reached words goes h = absurd is

  -- where the next component of such a block begins
  turned_typed : {part : Part} (word : Terminal) (c : Component part) (t : Standing) (all : List ℕ) (k m : Known)
      → IsMadeOf word part → IsApart word → Turned all k m → Reaches items t (AComponent c) m
      → component_has_words c ≡ true → ProcessTyped (process_of c) → TypedIn m
      → TypedIn (after_component t.around word c m)
  turned_typed word c t all k m is apart h reached words goes typed =
      let at : Known = record { entries = h.start; blocks = record { start = h.start; ends = h.ends } ∷ k.blocks } in
      let here = subst TypedIn h.is typed in
      subst (λ z. TypedIn (after_component t.around word c z)) (sym h.is)
      (branch_typed word c t all k at h.start h.ends is apart (subst (Reaches items t (AComponent c)) h.is reached)
      words
      goes (record {
        blocks = refl;
        starts = h.starts;
        ended = h.ended;
        same = all_outermost (length h.start) h.start refl;
        long = omega arith;
        start_typed = here.0;
        ends_typed = here.1;
        here = here.0;
      }))

  abbrev pub PartsTyped : Terminal → Known → Type 0
  PartsTyped (Mark mark.Seq) m = AreInTypes m.entries
  PartsTyped word m = TypedIn m

  -- one component more
  more_typed : {part : Part} (word : Terminal) (c : Component part) (t : Standing) (all : List ℕ) (k m : Known)
      → IsMadeOf word part → Low k → InParts word all k m → Reaches items t (AComponent c) m
      → component_has_words c ≡ true → ProcessTyped (process_of c) → PartsTyped word m
      → PartsTyped word (after_component t.around word c m)
  more_typed (Mark mark.Seq) (Plain p) t all k m is low h reached words goes typed =
      let a = t.around in
      let below = remains_low all k m h low in
      let final = inside a p m in
      subst AreInTypes (sym (left_is (changed_by a.signatures m.entries p) m final (ranges_stay.processes a p m below)
      below))
      (goes.typed t (length m.entries) m (to_process t (Plain p) m reached) words below typed)
  more_typed (Mark mark.Seq) (Chosen line e p) t all k m is low h reached words goes typed = absurd is
  more_typed (Mark mark.Seq) (Guarded line g p) t all k m is low h reached words goes typed = absurd is
  more_typed (Mark mark.Par) c t all k m is low h reached words goes typed =
      turned_typed (Mark mark.Par) c t all k m is tt h reached words goes typed
  more_typed (Mark mark.If) c t all k m is low h reached words goes typed =
      turned_typed (Mark mark.If) c t all k m is tt h reached words goes typed
  more_typed (Mark mark.Alt) c t all k m is low h reached words goes typed =
      turned_typed (Mark mark.Alt) c t all k m is tt h reached words goes typed
  more_typed word c t all k m is low h reached words goes typed = absurd is

  parts_begin_typed : (word : Terminal) (part : Part) (k : Known) → IsMadeOf word part → AreInTypes k.entries
      → PartsTyped word (begun word k)
  parts_begin_typed (Mark mark.Seq) part k is typed = typed
  parts_begin_typed (Mark mark.Par) part k is typed = (typed, typed)
  parts_begin_typed (Mark mark.If) part k is typed = (typed, tt)
  parts_begin_typed (Mark mark.Alt) part k is typed = (typed, tt)
  parts_begin_typed word part k is typed = absurd is

  turns_begin_typed : (word : Terminal) (part : Part) (ns : List ℕ) (k : Known) → IsMadeOf word part → IsApart word
      → AreInTypes k.entries → TypedIn (begun_turns word ns k)
  turns_begin_typed (Mark mark.Seq) part ns k is apart typed = absurd apart
  turns_begin_typed (Mark mark.Par) part ns k is apart typed = (typed, typed)
  turns_begin_typed (Mark mark.If) part ns k is apart typed = (typed, tt)
  turns_begin_typed (Mark mark.Alt) part ns k is apart typed = (typed, tt)
  turns_begin_typed word part ns k is apart typed = absurd is

  -- the block ends
  block_typed : (all : List ℕ) (k m : Known) → Turned all k m → TypedIn m → AreInTypes (end m).entries
  block_typed all k m h typed =
      let here = subst TypedIn h.is typed in
      subst (λ z. AreInTypes (end z).entries) (sym h.is) (ended_typed h.start h.ends here.0 here.1)

  components_typed : {part : Part} (word : Terminal) (cs : Components part) (t : Standing) (k : Known)
      → IsMadeOf word part → components_have_words cs ≡ true → Low k → AreInTypes k.entries → EachTyped cs
      → ((piece : Piece) (m : Known) → StandsAmong t.around word cs (begun word k) piece m → Reaches items t piece m)
      → PartsTyped word (after_components t.around word cs (begun word k))
  components_typed {part} word NoComponent t k is words low typed each reach = parts_begin_typed word part k is typed
  components_typed word (Further cs c) t k is words low typed each reach =
      let a = t.around in
      let m = after_components a word cs (begun word k) in
      let ns = changed_by_components a.signatures k.entries cs in
      let both = and_parts (components_have_words cs) (component_has_words c) words in
      more_typed word c t ns k m is low (components_stay a ns word cs k is (covers_itself ns) low)
      (reach (AComponent c) m (inl (refl, refl))) both.1 each.1
      (components_typed word cs t k is both.0 low typed each.0 (λ piece x among. reach piece x (inr among)))

  ended_parts : (word : Terminal) (part : Part) (all : List ℕ) (k m : Known) → IsMadeOf word part
      → InParts word all k m → PartsTyped word m → AreInTypes (ended word m).entries
  ended_parts (Mark mark.Seq) part all k m is h typed = typed
  ended_parts (Mark mark.Par) part all k m is h typed = block_typed all k m h typed
  ended_parts (Mark mark.If) part all k m is h typed = block_typed all k m h typed
  ended_parts (Mark mark.Alt) part all k m is h typed = block_typed all k m h typed
  ended_parts word part all k m is h typed = absurd is

  -- ---- replicators

  -- n turns of a body under a block that has branches
  turns_typed : {part : Part} (word : Terminal) (c : Component part) (t : Standing) (all : List ℕ) (name : List ℕ)
      (repeats : Repeats) (ns : List ℕ) (es : List Entry) (j : Known) (count n : ℕ) → IsMadeOf word part
      → IsApart word → repeats.sequential ≡ false → outline j.entries ≡ outline es
      → ((k x : Known) → InBranch all k x → outline x.entries ≡ outline (add name (index_meaning false None) es)
      → Turned all k (after_component t.around word c x))
      → n ≤ count
      → ((i : ℕ) → i < count → Reaches items t (AComponent c) (with_entries (add name (index_in repeats i))
      (turn_by_turn (λ n l. after_component t.around word c (with_entries (add name (index_in repeats n)) l)) i
      (begun_turns word ns j))))
      → component_has_words c ≡ true → ProcessTyped (process_of c) → ((i : ℕ) → IsInType (index_in repeats i))
      → AreInTypes j.entries
      → TypedIn (turn_by_turn (λ n l. after_component t.around word c (with_entries (add name (index_in repeats n)) l))
      n
      (begun_turns word ns j))
  turns_typed {part} word c t all name repeats ns es j count zero is apart sequential same stays within reach words goes
      index typed =
      turns_begin_typed word part ns j is apart typed
  turns_typed word c t all name repeats ns es j count (suc n) is apart sequential same stays within reach words goes
      index
      typed =
      let a = t.around in
      let step : ℕ → Known → Known =
      λ n l. after_component a word c (with_entries (add name (index_in repeats n)) l) in
      let m = turn_by_turn step n (begun_turns word ns j) in
      let h = turns_turned a all word c name repeats ns es j n is apart sequential same stays in
      let before = subst TypedIn h.is
      (turns_typed word c t all name repeats ns es j count n is apart sequential same stays (omega (arith, within))
      reach
      words goes index typed) in
      let around : Known = record { entries = h.start; blocks = record { start = h.start; ends = h.ends } ∷ j.blocks }
      in
      let x = with_entries (add name (index_in repeats n)) around in
      let here = subst (λ z. Reaches items t (AComponent c) (with_entries (add name (index_in repeats n)) z)) h.is
      (reach n (omega (arith, within))) in
      subst (λ z. TypedIn (step n z)) (sym h.is)
      (branch_typed word c t all j x h.start h.ends is apart here words goes (record {
        blocks = refl;
        starts = h.starts;
        ended = h.ended;
        same = all_but_one (length h.start) (record { name = name; meaning = index_in repeats n }) h.start refl;
        long = omega arith;
        start_typed = before.0;
        ends_typed = before.1;
        here = (index n, before.0);
      }))

  -- what is known after such a body
  apart_typed : {part : Part} (word : Terminal) (c : Component part) (t : Standing) (all : List ℕ) (name : List ℕ)
      (repeats : Repeats) (ns : List ℕ) (k : Known) → IsMadeOf word part → IsApart word → repeats.sequential ≡ false
      → ((j x : Known) → InBranch all j x
      → outline x.entries ≡ outline (add name (index_meaning false None) k.entries)
      → Turned all j (after_component t.around word c x))
      → ((i : ℕ) → i < repeats.turns.count → Reaches items t (AComponent c)
      (with_entries (add name (index_in repeats i))
      (turn_by_turn (λ n l. after_component t.around word c (with_entries (add name (index_in repeats n)) l)) i
      (begun_body word ns repeats.happens k))))
      → component_has_words c ≡ true → ProcessTyped (process_of c) → ((i : ℕ) → IsInType (index_in repeats i))
      → AreInTypes k.entries
      → AreInTypes (repeated repeats.happens
      (turn_by_turn (λ n l. after_component t.around word c (with_entries (add name (index_in repeats n)) l))
      repeats.turns.count (begun_body word ns repeats.happens k))).entries
  apart_typed {part} word c t all name repeats ns k is apart sequential stays reach words goes index typed =
      by_happens repeats.happens reach
    where
      by_happens : (b : Bool) → ((i : ℕ) → i < repeats.turns.count → Reaches items t (AComponent c)
          (with_entries (add name (index_in repeats i))
          (turn_by_turn (λ n l. after_component t.around word c (with_entries (add name (index_in repeats n)) l)) i
          (begun_body word ns b k))))
          → AreInTypes (repeated b
          (turn_by_turn (λ n l. after_component t.around word c (with_entries (add name (index_in repeats n)) l))
          repeats.turns.count (begun_body word ns b k))).entries
      by_happens true reached =
          let step : ℕ → Known → Known =
          λ n l. after_component t.around word c (with_entries (add name (index_in repeats n)) l) in
          block_typed all k (turn_by_turn step repeats.turns.count (begun_turns word ns k))
          (turns_turned t.around all word c name repeats ns k.entries k repeats.turns.count is apart sequential refl
          stays)
          (turns_typed word c t all name repeats ns k.entries k repeats.turns.count repeats.turns.count is apart
          sequential
          refl stays (omega arith) reached words goes index typed)
      by_happens false reached =
          let step : ℕ → Known → Known =
          λ n l. after_component t.around word c (with_entries (add name (index_in repeats n)) l) in
          let x = turn_by_turn step repeats.turns.count (begun_turns word ns (begin k)) in
          let h = turns_turned t.around all word c name repeats ns k.entries (begin k) repeats.turns.count is apart
          sequential refl stays in
          subst (λ z. AreInTypes (end (end z)).entries) (sym h.is) typed

  body_typed : {part : Part} (word : Terminal) (c : Component part) (t : Standing) (counted : Bool) (r : Replicator)
      (k : Known) → IsMadeOf word part → ReplicatorHolds k.entries r
      → ((n : ℕ) → n < (repeats_of counted k.entries (is_seq word) r).turns.count → Reaches items t (AComponent c)
      (with_entries (add r.name (index_in (repeats_of counted k.entries (is_seq word) r) n))
      (turn_by_turn (λ n l. after_component t.around word c
      (with_entries (add r.name (index_in (repeats_of counted k.entries (is_seq word) r) n)) l)) n
      (begun_body word
      (changed_by_component t.around.signatures (add r.name (index_meaning (is_seq word) None) k.entries) c)
      (repeats_of counted k.entries (is_seq word) r).happens k))))
      → component_has_words c ≡ true → ProcessTyped (process_of c) → AreInTypes k.entries
      → AreInTypes (body_ended t.around word c r counted k).entries
  body_typed (Mark mark.Seq) c t counted r k is h reach words goes typed =
      let a = t.around in
      let es = add r.name (index_meaning true None) k.entries in
      let ns = changed_by_component a.signatures es c in
      let index = index_in (repeats_of counted k.entries true r) 0 in
      let m = with_entries (add r.name index) (begin_loop ns k) in
      let wide = shaped (widen ns k.entries) k.entries (shapes_stay.widening k.entries ns) in
      let alike = added_alike r.name index (index_meaning true None) (widen ns k.entries) k.entries refl wide in
      let after = component_stays a ns (Mark mark.Seq) c is es (covers_itself ns) m (omega arith) alike in
      subst AreInTypes
      (sym (ap (λ bs. (after_block (after_component a (Mark mark.Seq) c m).entries bs).entries) after.blocks))
      (typed_widen ns k.entries typed)
  body_typed (Mark mark.Par) c t counted r k is h reach words goes typed =
      let es = add r.name (index_meaning false None) k.entries in
      let all = changed_by_component t.around.signatures es c in
      apart_typed (Mark mark.Par) c t all r.name (repeats_of counted k.entries false r) all k is tt refl
      (component_stays t.around all (Mark mark.Par) c is es (covers_itself all)) reach words goes
      (λ i. index_typed counted false k.entries r i h) typed
  body_typed (Mark mark.If) c t counted r k is h reach words goes typed =
      let es = add r.name (index_meaning false None) k.entries in
      let all = changed_by_component t.around.signatures es c in
      apart_typed (Mark mark.If) c t all r.name (repeats_of counted k.entries false r) all k is tt refl
      (component_stays t.around all (Mark mark.If) c is es (covers_itself all)) reach words goes
      (λ i. index_typed counted false k.entries r i h) typed
  body_typed (Mark mark.Alt) c t counted r k is h reach words goes typed =
      let es = add r.name (index_meaning false None) k.entries in
      let all = changed_by_component t.around.signatures es c in
      apart_typed (Mark mark.Alt) c t all r.name (repeats_of counted k.entries false r) all k is tt refl
      (component_stays t.around all (Mark mark.Alt) c is es (covers_itself all)) reach words goes
      (λ i. index_typed counted false k.entries r i h) typed
  body_typed word c t counted r k is h reach words goes typed = absurd is

  -- where a turn of a body begins under a block that has branches
  turn_typed : {part : Part} (word : Terminal) (c : Component part) (t : Standing) (all : List ℕ) (name : List ℕ)
      (repeats : Repeats) (ns : List ℕ) (es : List Entry) (j : Known) (count n : ℕ) → IsMadeOf word part
      → IsApart word → repeats.sequential ≡ false → outline j.entries ≡ outline es
      → ((k x : Known) → InBranch all k x → outline x.entries ≡ outline (add name (index_meaning false None) es)
      → Turned all k (after_component t.around word c x))
      → n < count
      → ((i : ℕ) → i < count → Reaches items t (AComponent c) (with_entries (add name (index_in repeats i))
      (turn_by_turn (λ n l. after_component t.around word c (with_entries (add name (index_in repeats n)) l)) i
      (begun_turns word ns j))))
      → component_has_words c ≡ true → ProcessTyped (process_of c) → ((i : ℕ) → IsInType (index_in repeats i))
      → AreInTypes j.entries
      → IsPlace (with_entries (add name (index_in repeats n))
      (turn_by_turn (λ n l. after_component t.around word c (with_entries (add name (index_in repeats n)) l)) n
      (begun_turns word ns j)))
  turn_typed word c t all name repeats ns es j count n is apart sequential same stays less reach words goes index
      typed =
      let h = turns_turned t.around all word c name repeats ns es j n is apart sequential same stays in
      let begun = ap (λ (x : Known). begun_with x.blocks) h.is in
      let long = ap (λ (x : Known). length x.entries) h.is in (
        (
          index n,
          (turns_typed word c t all name repeats ns es j count n is apart sequential same stays (omega (arith, less))
              reach
              words goes index typed).0,
        ),
        omega (arith, begun, long),
      )

  -- what a body with this component changes
  abbrev apart_changes : {part : Part} → Standing → Component part → List ℕ → Known → List ℕ
  apart_changes t c name k =
      changed_by_component t.around.signatures (add name (index_meaning false None) k.entries) c

  apart_places : {part : Part} (word : Terminal) (c : Component part) (t : Standing) (name : List ℕ)
      (repeats : Repeats) (k : Known) (n : ℕ) → IsMadeOf word part → IsApart word → repeats.sequential ≡ false
      → ((j x : Known) → InBranch (apart_changes t c name k) j x
      → outline x.entries ≡ outline (add name (index_meaning false None) k.entries)
      → Turned (apart_changes t c name k) j (after_component t.around word c x))
      → n < repeats.turns.count
      → ((i : ℕ) → i < repeats.turns.count → Reaches items t (AComponent c)
      (with_entries (add name (index_in repeats i))
      (turn_by_turn (λ n l. after_component t.around word c (with_entries (add name (index_in repeats n)) l)) i
      (begun_body word (apart_changes t c name k) repeats.happens k))))
      → component_has_words c ≡ true → ProcessTyped (process_of c) → ((i : ℕ) → IsInType (index_in repeats i))
      → AreInTypes k.entries
      → IsPlace (with_entries (add name (index_in repeats n))
      (turn_by_turn (λ n l. after_component t.around word c (with_entries (add name (index_in repeats n)) l)) n
      (begun_body word (apart_changes t c name k) repeats.happens k)))
  apart_places word c t name repeats k n is apart sequential stays less reach words goes index typed =
      by_happens repeats.happens reach
    where
      by_happens : (b : Bool) → ((i : ℕ) → i < repeats.turns.count → Reaches items t (AComponent c)
          (with_entries (add name (index_in repeats i))
          (turn_by_turn (λ n l. after_component t.around word c (with_entries (add name (index_in repeats n)) l)) i
          (begun_body word (apart_changes t c name k) b k))))
          → IsPlace (with_entries (add name (index_in repeats n))
          (turn_by_turn (λ n l. after_component t.around word c (with_entries (add name (index_in repeats n)) l)) n
          (begun_body word (apart_changes t c name k) b k)))
      by_happens true reached =
          let ns = apart_changes t c name k in
          turn_typed word c t ns name repeats ns k.entries k repeats.turns.count n is apart sequential refl stays less
          reached words goes index typed
      by_happens false reached =
          let ns = apart_changes t c name k in
          turn_typed word c t ns name repeats ns k.entries (begin k) repeats.turns.count n is apart sequential refl
          stays
          less reached words goes index typed

  body_places : {part : Part} (word : Terminal) (c : Component part) (t : Standing) (counted : Bool) (r : Replicator)
      (k : Known) (n : ℕ) → IsMadeOf word part → ReplicatorHolds k.entries r
      → n < (repeats_of counted k.entries (is_seq word) r).turns.count
      → ((n : ℕ) → n < (repeats_of counted k.entries (is_seq word) r).turns.count → Reaches items t (AComponent c)
      (with_entries (add r.name (index_in (repeats_of counted k.entries (is_seq word) r) n))
      (turn_by_turn (λ n l. after_component t.around word c
      (with_entries (add r.name (index_in (repeats_of counted k.entries (is_seq word) r) n)) l)) n
      (begun_body word
      (changed_by_component t.around.signatures (add r.name (index_meaning (is_seq word) None) k.entries) c)
      (repeats_of counted k.entries (is_seq word) r).happens k))))
      → component_has_words c ≡ true → ProcessTyped (process_of c) → AreInTypes k.entries
      → IsPlace (with_entries (add r.name (index_in (repeats_of counted k.entries (is_seq word) r) n))
      (turn_by_turn (λ n l. after_component t.around word c
      (with_entries (add r.name (index_in (repeats_of counted k.entries (is_seq word) r) n)) l)) n
      (begun_body word
      (changed_by_component t.around.signatures (add r.name (index_meaning (is_seq word) None) k.entries) c)
      (repeats_of counted k.entries (is_seq word) r).happens k)))
  body_places (Mark mark.Seq) c t counted r k zero is h less reach words goes typed =
      let ns = changed_by_component t.around.signatures (add r.name (index_meaning true None) k.entries) c in
      ((index_typed counted true k.entries r 0 h, typed_widen ns k.entries typed), omega arith)
  body_places (Mark mark.Seq) c t counted r k (suc n) is h less reach words goes typed = absurd (omega (arith, less))
  body_places (Mark mark.Par) c t counted r k n is h less reach words goes typed =
      apart_places (Mark mark.Par) c t r.name (repeats_of counted k.entries false r) k n is tt refl
      (component_stays t.around (apart_changes t c r.name k) (Mark mark.Par) c is
      (add r.name (index_meaning false None) k.entries) (covers_itself (apart_changes t c r.name k))) less reach words
      goes (λ i. index_typed counted false k.entries r i h) typed
  body_places (Mark mark.If) c t counted r k n is h less reach words goes typed =
      apart_places (Mark mark.If) c t r.name (repeats_of counted k.entries false r) k n is tt refl
      (component_stays t.around (apart_changes t c r.name k) (Mark mark.If) c is
      (add r.name (index_meaning false None) k.entries) (covers_itself (apart_changes t c r.name k))) less reach words
      goes (λ i. index_typed counted false k.entries r i h) typed
  body_places (Mark mark.Alt) c t counted r k n is h less reach words goes typed =
      apart_places (Mark mark.Alt) c t r.name (repeats_of counted k.entries false r) k n is tt refl
      (component_stays t.around (apart_changes t c r.name k) (Mark mark.Alt) c is
      (add r.name (index_meaning false None) k.entries) (covers_itself (apart_changes t c r.name k))) less reach words
      goes (λ i. index_typed counted false k.entries r i h) typed
  body_places word c t counted r k n is h less reach words goes typed = absurd is

  parts_entries : (word : Terminal) (m : Known) → PartsTyped word m → AreInTypes m.entries
  parts_entries (Mark mark.Seq) m typed = typed
  parts_entries word m typed = typed.0

  parts_low : (word : Terminal) (all : List ℕ) (k m : Known) → InParts word all k m → Low k → Low m
  parts_low (Mark mark.Seq) all k m h low = remains_low all k m h low
  parts_low word all k m h low = subst Low (sym h.is) (omega arith)

  -- ---- constructs

  declared_ends : (none : BreaksNoRule items) (d : Declaration) (p : Process) → ProcessTyped p
      → ProcessTyped (Declared d p)
  declared_ends none d p goes = record {
    typed = λ t first k reached words low typed.
        let both = and_parts (declaration_has_words d) (process_has_words p) words in
        let inner = with_entries (add_declaration d) k in
        let longer = declared_long d k.entries in
        outer_typed (length k.entries) inner (inside t.around p inner) longer
        (goes.typed t first inner (behind t first d p k reached) both.1 (omega (arith, low, longer))
        (declared_typed d k.entries both.0 typed));
  }

  acted_ends : (none : BreaksNoRule items) (action : Action) → ConstructTyped (Act action)
  acted_ends none action = record {
    typed = λ t first line k reached words low typed.
        let right = places_hold items t (AProcess first (Does line (Act action))) k none reached in
        typed_left (length k.entries) (after_action t.around.signatures action k.entries)
        (action_typed t.around.signatures k.entries action words right.holds typed);
  }

  block_ends : (kind : _) (cs : Components (part_of kind)) → EachTyped cs → ConstructTyped (Block kind cs)
  block_ends kind cs each = record {
    typed = λ t first line k reached words low typed.
        let word = block_word kind in
        let u = in_block word k t in
        let a = t.around in
        let ns = changed_by_components a.signatures k.entries cs in
        let m = after_components a word cs (begun word k) in
        typed_left (length k.entries) (ended word m).entries
        (ended_parts word (part_of kind) ns k m (kind_fits kind)
        (components_stay a ns word cs k (kind_fits kind) (covers_itself ns) low)
        (components_typed word cs u k (kind_fits kind) words low typed each
        (λ piece x among. to_part t u first line (Block kind cs) piece k x reached (refl, among))));
  }

  repeated_ends : (none : BreaksNoRule items) (r : Replicator) (kind : _) (c : Component (part_of kind))
      → ProcessTyped (process_of c) → ConstructTyped (Replicated r (One kind c))
  repeated_ends none r kind c goes = record {
    typed = λ t first line k reached words low typed.
        let word = block_word kind in
        let u = in_block word k t in
        let whole = Replicated r (One kind c) in
        let right = places_hold items t (AProcess first (Does line whole)) k none reached in
        typed_left (length k.entries) (after_construct t.around line whole k).entries
        (body_typed word c u (is_before line t.around.uncounted) r k (kind_fits kind) right.holds
        (λ n less. to_part t u first line whole (AComponent c) k _ reached (n, refl, refl, less, refl))
        (and_parts (replicator_has_words r) (component_has_words c) words).1 goes typed);
  }

module _ (items : List ProgramItem) (none : BreaksNoRule items) where
  mutual
    process_typed : (p : Process) → ProcessTyped items p
    process_typed (Declared d p) = declared_ends items none d p (process_typed p)
    process_typed (Does line c) = record {
      typed = λ t first k reached words low typed.
          (construct_typed c).typed t first line k reached words low typed;
    }

    construct_typed : (c : Construct) → ConstructTyped items c
    construct_typed (Act action) = acted_ends items none action
    construct_typed (Block kind cs) = block_ends items kind cs (each_typed cs)
    construct_typed (Replicated r (One kind c)) = repeated_ends items none r kind c (part_typed c)

    each_typed : {part : Part} (cs : Components part) → EachTyped items cs
    each_typed NoComponent = tt
    each_typed (Further cs c) = (each_typed cs, part_typed c)

    part_typed : {part : Part} (c : Component part) → ProcessTyped items (process_of c)
    part_typed (Plain p) = process_typed p
    part_typed (Chosen line e p) = process_typed p
    part_typed (Guarded line g p) = process_typed p

  -- ---- places that are reached

  abbrev piece_has_words : Piece → Bool
  piece_has_words (AProcess first p) = process_has_words p
  piece_has_words (AComponent c) = component_has_words c

  record AtPlace (piece : Piece) (k : Known) : Type 0 where
    typed : AreInTypes k.entries
    words : piece_has_words piece ≡ true
    low : Low k

  -- a component of a block, where those before it have ended
  among_typed : {part : Part} (word : Terminal) (cs : Components part) (t : Standing) (k : Known) (piece : Piece)
      (l : Known) → IsMadeOf word part → components_have_words cs ≡ true → Low k → AreInTypes k.entries
      → ((q : Piece) (m : Known) → StandsAmong t.around word cs (begun word k) q m → Reaches items t q m)
      → StandsAmong t.around word cs (begun word k) piece l → AtPlace piece l
  among_typed word NoComponent t k piece l is words low typed reach among = absurd among
  among_typed word (Further cs c) t k piece l is words low typed reach (inl here) =
      let a = t.around in
      let both = and_parts (components_have_words cs) (component_has_words c) words in
      let ns = changed_by_components a.signatures k.entries cs in
      let m = after_components a word cs (begun word k) in
      let parts = components_stay a ns word cs k is (covers_itself ns) low in
      let all = components_typed items word cs t k is both.0 low typed (each_typed cs)
      (λ q x among. reach q x (inr among)) in
      subst (λ (x : Piece × Known). AtPlace x.0 x.1) (λ i. (sym here.0 i, sym here.1 i)) (record {
        typed = parts_entries items word m all;
        words = both.1;
        low = parts_low items word ns k m parts low;
      })
  among_typed word (Further cs c) t k piece l is words low typed reach (inr earlier) =
      let both = and_parts (components_have_words cs) (component_has_words c) words in
      among_typed word cs t k piece l is both.0 low typed (λ q x among. reach q x (inr among)) earlier

  part_place : (s t : Standing) (first line : ℕ) (c : Construct) (piece : Piece) (k l : Known)
      → Reaches items s (AProcess first (Does line c)) k → StandsIn s line c k t piece l
      → AtPlace (AProcess first (Does line c)) k → AtPlace piece l
  part_place s t first line (Act action) piece k l reached stands at = absurd stands
  part_place s t first line (Block kind cs) piece k l reached stands at =
      let word = block_word kind in
      among_typed word cs (in_block word k s) k piece l (kind_fits kind) at.words at.low at.typed
      (λ q m among. to_part s (in_block word k s) first line (Block kind cs) q k m reached (refl, among)) stands.1
  part_place s t first line (Replicated r (One kind c)) piece k l reached stands at =
      let word = block_word kind in
      let u = in_block word k s in
      let whole = Replicated r (One kind c) in
      let right = places_hold items s (AProcess first (Does line whole)) k none reached in
      let words = (and_parts (replicator_has_words r) (component_has_words c) at.words).1 in
      let h = body_places items word c u (is_before line s.around.uncounted) r k stands.0 (kind_fits kind) right.holds
      stands.3 (λ n less. to_part s u first line whole (AComponent c) k _ reached (n, refl, refl, less, refl)) words
      (part_typed c) at.typed in
      subst (λ (x : Piece × Known). AtPlace x.0 x.1) (λ i. (sym stands.2 i, sym stands.4 i))
      (record { typed = h.0; words = words; low = h.1 })

  -- ---- items

  body_place : (o : Outside) (p : Procedure) → Comes o (GlobalProcedure p) items outside.outermost
      → item_has_words (GlobalProcedure p) ≡ true → AtItem o
      → AtPlace (AProcess (length (in_body p o.known).entries) p.body) (in_body p o.known)
  body_place o p comes words at =
      let begun = ap begun_with at.blocks in
      record {
        typed = formals_typed o.known.entries p.head.formals o.known.entries at.typed;
        words = (and_parts (list_all formal_has_words p.head.formals) (process_has_words p.body) words).1;
        low = omega (arith, begun);
      }

  walk_item : (item : ProgramItem) (o : Outside) → Comes o item items outside.outermost → item_has_words item ≡ true
      → AtItem o → AtItem (after_walk item o)
  walk_item (GlobalConstant c) o comes words at =
      record { typed = declared_typed (Constants c) o.known.entries words at.typed; blocks = at.blocks }
  walk_item (GlobalProcedure p) o comes words at =
      let a = around_in o in
      let k = o.known in
      let body = in_body p k in
      let place = body_place o p comes words at in
      let n = length k.entries in
      let final = inside a p.body body in
      let stays = ranges_stay.processes a p.body body place.low in
      let inner = (process_typed p.body).typed (in_procedure o p) (length body.entries) body (to_body o p comes)
      place.words place.low place.typed in
      let begun = ap begun_with (stays.blocks ∙ at.blocks) in
      let most : max n (begun_with final.blocks) ≡ n = omega (arith, begun) in
      record {
        typed = (
          tt,
          subst (λ i. AreInTypes (outermost i final.entries)) (sym most)
              (outer_typed n body final (formals_long k.entries p.head.formals k.entries) inner),
        );
        blocks = stays.blocks ∙ at.blocks;
      }

  items_typed : (rest : List ProgramItem) (before : Outside)
      → ((o : Outside) (x : ProgramItem) → Comes o x rest before → Comes o x items outside.outermost)
      → items_have_words rest ≡ true → AtItem before → (o : Outside) (x : ProgramItem) → Comes o x rest before
      → AtItem o × (item_has_words x ≡ true)
  items_typed [] before comes words at o x here = absurd here
  items_typed (item ∷ rest) before comes words at o x (inl here) =
      let both = and_parts (item_has_words item) (items_have_words rest) words in
      subst (λ (y : Outside × ProgramItem). AtItem y.0 × (item_has_words y.1 ≡ true))
      (λ i. (sym here.1 i, sym here.0 i))
      (weighing_item before.uncounted (measures_of_item before.signatures before.known.entries item) before at, both.0)
  items_typed (item ∷ rest) before comes words at o x (inr later) =
      let both = and_parts (item_has_words item) (items_have_words rest) words in
      let w = weighed item before in
      items_typed rest (after_item item before) (λ o y further. comes o y (inr further)) both.1
      (walk_item item w (comes w item (inl (refl, refl))) both.0
      (weighing_item before.uncounted (measures_of_item before.signatures before.known.entries item) before at)) o x
      later

  reached_place : items_have_words items ≡ true → (s : Standing) (piece : Piece) (k : Known) → Reaches items s piece k
      → AtPlace piece k
  reached_place words s piece k (to_body o p comes) =
      let at = items_typed items outside.outermost (λ o x h. h) words (record { typed = tt; blocks = refl }) o
      (GlobalProcedure p) comes in
      body_place o p comes at.1 at.0
  reached_place words s piece k (behind t first d p l reached) =
      let at = reached_place words t (AProcess first (Declared d p)) l reached in
      let both = and_parts (declaration_has_words d) (process_has_words p) at.words in
      let longer = declared_long d l.entries in
      let low = at.low in
      record {
        typed = declared_typed d l.entries both.0 at.typed;
        words = both.1;
        low = omega (arith, low, longer);
      }
  reached_place words s piece k (to_part t u first line c q l m reached stands) =
      part_place t u first line c q l m reached stands
      (reached_place words t (AProcess first (Does line c)) l reached)
  reached_place words s piece k (to_process t c l reached) =
      let at = reached_place words t (AComponent c) l reached in
      let h = entered_place c l (at.typed, at.low) in
      record { typed = h.0; words = process_words c at.words; low = h.1 }

pub ranges_are_typed : RangesAreTyped
ranges_are_typed items s piece k none words reached = (reached_place items none words s piece k reached).typed
