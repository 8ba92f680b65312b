-- A process of a sequential program that breaks no rule is not stuck, and where it goes on, what the walk knows there
-- is true.
use Rattle.std.proofs.Common.{◌≡◌, ℕ, zero, suc, ◌<◌, ◌≤◌, ℤ, pos, negsuc, ◌+ℤ◌, ◌-ℤ◌, Bool, true, false, cond, ◌&&◌}
use Rattle.std.proofs.Common.{List, []}
use Rattle.std.proofs.Common.{◌∷◌, length, Option, Some, None, inl, inr, refl, sym, ap, subst, arith, ◌∙◌, IsSomeAnd}
use Rattle.std.proofs.lemmas.Int.{ints}
use Rattle.std.specs.Prelude.{option_map, nat_eq, int_le, unsigned_abs, FitsSigned}
use Rattle.std.specs.Int.{w32}
use Rattle.std.proofs.lemmas.Bool.{and_parts}
use Rattle.word_arithmetic.specs.Word.{greatest_word, is_word}
use Rattle.word_arithmetic.specs.Range.{Ends, InRange, constant, full}
use Rattle.word_arithmetic.proofs.WordLaws.{is_word_out}
use Rattle.occam_layout.specs.declared.mark.Mark.TheVariants as mark
use Rattle.occam_parser.specs.declared.tree.ValueType.{ValueType}
use Rattle.occam_parser.specs.declared.tree.ValueType.TheVariants as value_type
use Rattle.occam_parser.specs.Terminals.{Terminal, Mark}
use Rattle.occam_parser.specs.OneOrMore.{as_list}
use Rattle.occam_parser.specs.Expressions.{Expression}
use Rattle.occam_parser.specs.Lines as lines
use Rattle.occam_parser.specs.Lines.{Value, Declaration, Constants, Variables, Channels, Action, Replicator, block_word}
use Rattle.occam_parser.specs.Blocks.{Process, Declared, Does, Construct, Act, Block, Replicated, One, Part, part_of}
use Rattle.occam_parser.specs.Blocks.{Components, NoComponent, Further, Component, Plain, Chosen, Guarded, ProgramItem}
use Rattle.occam_parser.specs.Words.{has_words, declaration_has_words, process_has_words, construct_has_words}
use Rattle.occam_parser.specs.Words.{replicator_has_words, components_have_words, component_has_words}
use Rattle.scalar_ranges.specs.declared.types.ExprType.TheVariants as types
use Rattle.scalar_ranges.specs.declared.scope.ScalarKind.TheVariants as scalar
use Rattle.scalar_ranges.specs.declared.scope.ArrayKind.TheVariants as array
use Rattle.scalar_ranges.specs.Entries.{Meaning, Constant, Scalar, Array, Channel, Channels, Procedure, Entry}
use Rattle.scalar_ranges.specs.Entries.{type_range}
use Rattle.scalar_ranges.specs.Environments as held
use Rattle.scalar_ranges.specs.Environments.{Held, Environment, IsHeld, Meets}
use Rattle.scalar_ranges.specs.Narrowing.{with_range}
use Rattle.scalar_ranges.specs.Values.{number_of, truth_of}
use Rattle.scalar_ranges.specs.Moves.{Known, outermost, begun_with, widen, begin, begin_loop, next, excluded, end}
use Rattle.scalar_ranges.specs.Moves.{after_block}
use Rattle.scalar_ranges.specs.MoveLaws.{shape}
use Rattle.scalar_ranges.proofs.MoveLaws.{as_long, shapes_stay}
use Rattle.scalar_ranges.proofs.NarrowingLaws.{narrowing_holds}
use Rattle.scalar_ranges.proofs.Nesting.{long_alike}
use Rattle.program_uses.specs.Actions.{Around, is_before}
use Rattle.program_uses.specs.Changes.{changed_by, changed_by_action, changed_by_component, changed_by_components}
use Rattle.program_uses.specs.Constants.{value_as, size_in}
use Rattle.program_uses.specs.Declaring.{add, add_all, add_declaration, constant_meaning, variable_meaning}
use Rattle.program_uses.specs.Declaring.{channel_meaning, table_of, range_of_items}
use Rattle.program_uses.specs.Indices.{is_seq, is_count, index_range, index_of, index_at, index_meaning, Repeats}
use Rattle.program_uses.specs.Indices.{happens, turns_from, repeats_of, index_in, turn_by_turn}
use Rattle.program_uses.proofs.ChangesAlike.{added_alike, changes_follow_outlines}
use Rattle.program_meaning.specs.Links.{Links}
use Rattle.program_meaning.specs.Storing.{declare}
use Rattle.program_meaning.specs.Running.{Surroundings, Outcome, Goes, followed, left, or_stuck, act}
use Rattle.program_meaning.specs.Running.{turns, or_else, or_waits, by_word, with_index, run, run_construct, run_body}
use Rattle.program_meaning.specs.Running.{run_components, run_component, first_true, choice}
use Rattle.program_meaning.specs.Sequential.{IsSequential, IsSequentialConstruct, AreSequential, IsSequentialComponent}
use Rattle.program_meaning.specs.Sequential.{IsSequentialWord}
use Rattle.program_meaning.specs.TypedValues.{HasType}
use Rattle.program_meaning.specs.RangesWithin.{EntriesWithin}
use Rattle.program_meaning.specs.Declarations.{IsKnown, IsKnownDeclaration}
use Rattle.program_meaning.specs.GoingWell.{IsTrueIn, IsWell}
use Rattle.program_meaning.proofs.DeclarationsHold.{declarations_hold, value_is_number}
use Rattle.program_meaning.proofs.DeclarationsTyped.{declarations_typed}
use Rattle.program_meaning.proofs.MovesWithin.{within_shape, within_long, within_left}
use Rattle.program_meaning.proofs.OutcomesGoWell.{outcomes_go_well}
use Rattle.program_meaning.proofs.TypesStay.{types_stay}
use Rattle.usage_checks.specs.declared.wanting.Wanted.TheVariants as wanted
use Rattle.usage_checks.specs.AfterProcesses.{inside, after_construct, after_components, after_component, begun, ended}
use Rattle.usage_checks.specs.AfterProcesses.{begun_body, repeated, chosen, left_to}
use Rattle.usage_checks.specs.Following.{after_action}
use Rattle.usage_checks.specs.Holding.{DeclarationHolds, ReplicatorHolds}
use Rattle.usage_checks.specs.ItemRules.{BreaksNoRule}
use Rattle.usage_checks.specs.LineRules.{fits_word}
use Rattle.usage_checks.specs.NameRules.{with_entries}
use Rattle.usage_checks.specs.Outlines.{IsMadeOf}
use Rattle.usage_checks.specs.Reaching.{Standing, Piece, AProcess, AComponent, Reaches, behind, to_part, to_process}
use Rattle.usage_checks.specs.Reaching.{process_of, StandsAmong, in_block}
use Rattle.usage_checks.specs.Whole.{is_whole}
use Rattle.usage_checks.proofs.LinesHold.{declared_whole}
use Rattle.usage_checks.proofs.OutlinesStay.{shaped, kind_fits}
use Rattle.usage_checks.proofs.PlacesHold.{places_hold, index_word}
use Rattle.usage_checks.proofs.ActionsGoWell.{both_true, fit_has, IsOwn, IsOfMain, of_main_alike, of_main_more}
use Rattle.usage_checks.proofs.ActionsGoWell.{action_well}
use Rattle.usage_checks.proofs.ChoicesGoWell.{well_at, left_well, FoundIn, Chooses, picked, passed, by_truth}
use Rattle.usage_checks.proofs.ChoicesGoWell.{same_option, choice_step, first_well}
use Rattle.usage_checks.proofs.RangesStay.{Covers, covers_itself, declared_long, Low, remains_low}
use Rattle.usage_checks.proofs.RangesStay.{all_outermost, all_but_one, left_is, turns_turned, body_ended, ranges_stay}
use Rattle.usage_checks.proofs.RangesStay.{process_stays, components_stay, component_stays, action_within, covers_as}

-- ---- declarations

known_by : (count : ℕ) (m : Meaning) → is_whole count m ≡ true → IsKnown m
known_by count (Constant type None) h = absurd (cc h)
known_by count (Constant type (Some value)) h = tt
known_by count (Scalar kind type range) h = tt
known_by count (Array kind type None range) h = absurd (cc h)
known_by count (Array kind type (Some size) range) h = tt
known_by count (Channel type) h = tt
known_by count (Channels type size) h = tt
known_by count (Procedure number) h = tt

-- a declaration that breaks no rule
pub known_declaration : (es : List Entry) (d : Declaration) → DeclarationHolds es d → IsKnownDeclaration es d
known_declaration es (Constants c) h =
    known_by 0 (constant_meaning es c.value_type c.value) (declared_whole 0 es (Constants c) h)
known_declaration es (Variables n) h =
    known_by 0 (variable_meaning es n.value_type n.size) (declared_whole 0 es (Variables n) h)
known_declaration es (Channels n) h = tt

-- what it declares is bound, and true
pub declared_true : (es : List Entry) (env : Environment) (d : Declaration) → DeclarationHolds es d
    → declaration_has_words d ≡ true → IsTrueIn es env
    → IsSomeAnd (declare d env) (IsTrueIn (add_declaration d es))
declared_true es env d h words holds =
    let known = known_declaration es d h in
    both_true (declare d env) (add_declaration d es) (add_declaration d es) refl
    (declarations_hold es env d holds.meets known)
    (declarations_typed es env d holds.meets holds.typed known words)

table_own : (type : ValueType) (size : Option ℕ) (count : ℕ) (range : Option Ends)
    → IsOwn (with_range (λ r. full) (table_of type size count range))
table_own type None count range = tt
table_own type (Some n) count None = tt
table_own type (Some n) count (Some range) = by_count (nat_eq n count)
  where
    by_count : (t : Bool) → IsOwn (with_range (λ r. full)
        (cond t (Array array.Table type (Some n) range) (Array array.Table type None (type_range type))))
    by_count true = tt
    by_count false = tt

constant_own : (es : List Entry) (type : ValueType) (value : Value)
    → IsOwn (with_range (λ r. full) (constant_meaning es type value))
constant_own es type (lines.Scalar e) = tt
constant_own es type (lines.Table size items) = table_own type (size_in es size) _ (range_of_items es type items)
constant_own es type (lines.Bytes size bytes) = table_own type (size_in es size) (length bytes) _

variable_own : (es : List Entry) (type : ValueType) (size : Option Expression)
    → IsOwn (with_range (λ r. full) (variable_meaning es type size))
variable_own es type None = tt
variable_own es type (Some e) = refl

channel_own : (es : List Entry) (type : ValueType) (size : Option Expression)
    → IsOwn (with_range (λ r. full) (channel_meaning es type size))
channel_own es type None = tt
channel_own es type (Some e) = tt

names_of_main : (s : Surroundings) (names : List (List ℕ)) (m : Meaning) (es : List Entry)
    → IsOwn (with_range (λ r. full) m) → IsOfMain s (shape es) → IsOfMain s (shape (add_all names m es))
names_of_main s [] m es own main = main
names_of_main s (name ∷ names) m es own main =
    names_of_main s names m (add name m es) own
    (of_main_more s (record { name = name; meaning = with_range (λ r. full) m }) (shape es) own main)

pub declared_of_main : (s : Surroundings) (es : List Entry) (d : Declaration) → IsOfMain s (shape es)
    → IsOfMain s (shape (add_declaration d es))
declared_of_main s es (Constants c) main =
    let m = constant_meaning es c.value_type c.value in
    names_of_main s (c.name ∷ []) m es (constant_own es c.value_type c.value) main
declared_of_main s es (Variables n) main =
    names_of_main s (as_list n.names) (variable_meaning es n.value_type n.size) es
    (variable_own es n.value_type n.size) main
declared_of_main s es (Channels n) main =
    names_of_main s (as_list n.names) (channel_meaning es n.value_type n.size) es (channel_own es n.value_type n.size)
    main

-- ---- indices of replicators

at_least_one : (n : ℕ) → 0 < n → int_le (pos 1) (pos n) ≡ true
at_least_one zero some = absurd (omega (arith, some))
at_least_one (suc n) some = grind (arith, ints)

-- a count that breaks no rule, and is not 0
counts_on : (base : ℤ) (n : ℕ) → (int_le (pos 0) (pos n) && fits_word (Some base) (pos n)) ≡ true → 0 < n
    → is_count base (pos n) ≡ true
counts_on base n h some =
    let both = and_parts (int_le (pos 0) (pos n)) (fits_word (Some base) (pos n)) h in
    let fits = and_parts (is_word base) (int_le (base +ℤ pos n) (greatest_word +ℤ pos 1)) both.1 in
    ap (λ t. t && int_le (base +ℤ pos n) (greatest_word +ℤ pos 1)) (at_least_one n some) ∙ fits.1

-- each index is a word
turn_word : (base : ℤ) (n count : ℕ) → (int_le (pos 0) (pos count) && fits_word (Some base) (pos count)) ≡ true
    → n < count → is_word (base +ℤ pos n) ≡ true
turn_word base n count h less =
    index_word base (pos count) n count h less (inr (counts_on base count h (omega (arith, less)), refl))

index_typed : (base : ℤ) (n : ℕ) → is_word (base +ℤ pos n) ≡ true → FitsSigned w32 (base +ℤ pos n)
index_typed base n word = is_word_out (base +ℤ pos n) word

-- the index of a SEQ lies in its range
index_lies : (base : ℤ) (n count : ℕ) → n < count → is_count base (pos count) ≡ true
    → InRange (index_range (Some base) (Some (pos count))) (base +ℤ pos n)
index_lies base n count less counted =
    let last : Ends = record { lo = base; hi = base +ℤ (pos count -ℤ pos 1) } in
    subst (λ t. InRange (cond t last (constant base)) (base +ℤ pos n)) (sym counted)
    (record { from_lo = omega (arith, ints, less); to_hi = omega (arith, ints, less) })

-- ---- places

-- what holds at a place where a process begins
pub record Stands (s : Surroundings) (t : Standing) (k : Known) (env : Environment) : Type 0 where
  pub counted : t.around.uncounted ≡ None
  pub main : IsOfMain s (shape k.entries)
  pub low : Low k
  pub holds : IsTrueIn k.entries env

or_stuck_well : {A : Type 0} (o : Option A) (f : A → Outcome) (P : A → Type 0) (es : List Entry) → IsSomeAnd o P
    → ((x : A) → P x → IsWell (f x) es) → IsWell (or_stuck o f) es
or_stuck_well None f P es h k = absurd h
or_stuck_well (Some x) f P es h k = k x h

module _ (items : List ProgramItem) (s : Surroundings) where
  -- from each place that is reached, the process goes well
  pub record ProcessGoes (p : Process) : Type 0 where
    pub well : (t : Standing) (first : ℕ) (k : Known) (env : Environment) (l : Links)
        → Reaches items t (AProcess first p) k → IsSequential p → process_has_words p ≡ true → Stands s t k env
        → IsWell (run s p env l) (outermost (length k.entries) (inside t.around p k).entries)

  pub record ConstructGoes (c : Construct) : Type 0 where
    pub well : (t : Standing) (first line : ℕ) (k : Known) (env : Environment) (l : Links)
        → Reaches items t (AProcess first (Does line c)) k → IsSequentialConstruct c → construct_has_words c ≡ true
        → Stands s t k env
        → IsWell (run_construct s c env l) (outermost (length k.entries) (after_construct t.around line c k).entries)

  abbrev pub EachGoes : {part : Part} → Components part → Type 0
  EachGoes NoComponent = Unit {0}
  EachGoes (Further cs c) = EachGoes cs × ProcessGoes (process_of c)

  -- ---- declarations

  declared_goes : (d : Declaration) (p : Process) → BreaksNoRule items → ProcessGoes p → ProcessGoes (Declared d p)
  declared_goes d p none goes = record {
    well = λ t first k env l reached sequential words stands.
        let right = places_hold items t (AProcess first (Declared d p)) k none reached in
        let both = and_parts (declaration_has_words d) (process_has_words p) words in
        let inner = with_entries (add_declaration d) k in
        let longer = declared_long d k.entries in
        let final = (inside t.around p inner).entries in
        or_stuck_well (declare d env) (λ x. left (length env) (run s p x l)) (IsTrueIn (add_declaration d k.entries))
        (outermost (length k.entries) final) (declared_true k.entries env d right.holds both.0 stands.holds)
        (λ x holds.
        left_well (length env) (length k.entries) (length inner.entries) (run s p x l) final
        (as_long env k.entries stands.holds.meets) longer
        (goes.well t first inner x l (behind t first d p k reached) sequential both.1 (record {
          counted = stands.counted;
          main = declared_of_main s k.entries d stands.main;
          low = omega (arith, stands.low, longer);
          holds = holds;
        })));
  }

  -- ---- SEQ

  components_well : {part : Part} (t : Standing) (cs : Components part) (k : Known) (env : Environment) (l : Links)
      → ((piece : Piece) (m : Known) → StandsAmong t.around (Mark mark.Seq) cs k piece m → Reaches items t piece m)
      → EachGoes cs → IsMadeOf (Mark mark.Seq) part → AreSequential (Mark mark.Seq) cs
      → components_have_words cs ≡ true → Stands s t k env
      → IsWell (run_components s cs env l) (after_components t.around (Mark mark.Seq) cs k).entries
  components_well t NoComponent k env l reach each is sequential words stands = stands.holds
  components_well t (Further cs (Plain p)) k env l reach each is sequential words stands =
      let a = t.around in
      let m = after_components a (Mark mark.Seq) cs k in
      let ns = changed_by_components a.signatures k.entries cs in
      let both = and_parts (components_have_words cs) (process_has_words p) words in
      let remains = components_stay a ns (Mark mark.Seq) cs k is (covers_itself ns) stands.low in
      let below = remains_low ns k m remains stands.low in
      let here = to_process t (Plain p) m (reach (AComponent (Plain p)) m (inl (refl, refl))) in
      let final = inside a p m in
      let stays = ranges_stay.processes a p m below in
      outcomes_go_well.following m.entries (left_to (length m.entries) final).entries (run_components s cs env l)
      (run_component s (Plain p))
      (components_well t cs k env l (λ piece x among. reach piece x (inr among)) each.0 is sequential.0 both.0 stands)
      (λ e n holds.
      well_at (run s p e n) (outermost (length m.entries) final.entries) (left_to (length m.entries) final).entries
      (sym (left_is (changed_by a.signatures m.entries p) m final stays below))
      (each.1.well t (length m.entries) m e n here sequential.1 both.1 (record {
        counted = stands.counted;
        main = of_main_alike s m.entries k.entries (within_shape ns m.entries k.entries remains.within) stands.main;
        low = below;
        holds = holds;
      })))
  components_well t (Further cs (Chosen line e p)) k env l reach each is sequential words stands = absurd sequential.1
  components_well t (Further cs (Guarded line g p)) k env l reach each is sequential words stands = absurd sequential.1

  -- ---- IF

  -- a choice, where it is reached
  choice_chooses : (none : BreaksNoRule items) (t : Standing) (line : ℕ) (e : Expression) (p : Process) (x : Known)
      (env : Environment) (l : Links) → Reaches items t (AComponent (Chosen line e p)) x → ProcessGoes p
      → IsSequential p → process_has_words p ≡ true → begun_with (chosen e x).blocks ≤ length x.entries
      → Stands s t x env → Chooses e x (inside t.around p (chosen e x)) env (choice s (Chosen line e p) env l)
  choice_chooses none t line e p x env l reached goes sequential words low stands =
      let right = places_hold items t (AComponent (Chosen line e p)) x none reached in
      let fit = right.holds.1 in
      let y = chosen e x in
      let final = inside t.around p y in
      let narrowed = shapes_stay.narrowing x.entries e true in
      let long = long_alike y.entries x.entries narrowed in
      by_truth e x final env (run s p env l) (truth_of env e)
      (fit_has (wanted.Value types.Condition) x.entries env e types.Condition right.holds.0 stands.holds.meets fit)
      (λ truth. passed fit.type_is truth)
      (λ truth. picked (run s p env l)
      (well_at (run s p env l) (outermost (length y.entries) final.entries) (outermost (length x.entries) final.entries)
      (ap (λ n. outermost n final.entries) long)
      (goes.well t (length y.entries) y env l (to_process t (Chosen line e p) x reached) sequential words (record {
        counted = stands.counted;
        main = of_main_alike s y.entries x.entries narrowed stands.main;
        low = omega (arith, low, long);
        holds = record {
          meets = narrowing_holds x.entries env e types.Condition true stands.holds.meets fit.type_is truth;
          typed = types_stay.moving x.entries y.entries env (sym narrowed) stands.holds.typed;
        };
      }))))

  choices_well : {part : Part} (none : BreaksNoRule items) (t : Standing) (cs : Components part) (k : Known)
      (env : Environment) (l : Links)
      → ((piece : Piece) (m : Known) → StandsAmong t.around (Mark mark.If) cs (begin k) piece m
      → Reaches items t piece m)
      → EachGoes cs → IsMadeOf (Mark mark.If) part → AreSequential (Mark mark.If) cs → components_have_words cs ≡ true
      → Stands s t k env
      → FoundIn (first_true s cs env l) env (after_components t.around (Mark mark.If) cs (begin k))
  choices_well none t NoComponent k env l reach each is sequential words stands = stands.holds
  choices_well none t (Further cs (Chosen line e p)) k env l reach each is sequential words stands =
      let a = t.around in
      let c = Chosen line e p in
      let ns = changed_by_components a.signatures k.entries cs in
      let m = after_components a (Mark mark.If) cs (begin k) in
      let all = and_parts (components_have_words cs) (has_words e && process_has_words p) words in
      let both = and_parts (has_words e) (process_has_words p) all.1 in
      let h = components_stay a ns (Mark mark.If) cs k is (covers_itself ns) stands.low in
      let x : Known = record { entries = h.start; blocks = record { start = h.start; ends = h.ends } ∷ k.blocks } in
      let alike = within_shape ns h.start k.entries h.starts in
      let y = chosen e x in
      let final = inside a p y in
      let excluded_long = long_alike (excluded e h.start h.start) h.start (shapes_stay.excluding h.start h.start e) in
      let narrow_long = long_alike y.entries h.start (shapes_stay.narrowing h.start e true) in
      let found = first_true s cs env l in
      let before = subst (FoundIn found env) h.is
      (choices_well none t cs k env l (λ piece z among. reach piece z (inr among)) each.0 is sequential.0 all.0 stands)
      in
      let here = subst (Reaches items t (AComponent c)) h.is (reach (AComponent c) m (inl (refl, refl))) in
      let stays = ranges_stay.processes a p y (omega (arith, excluded_long, narrow_long)) in
      subst (λ z. FoundIn (or_else found (choice s c env l)) env (next (inside a p (chosen e z)))) (sym h.is)
      (subst (λ o. FoundIn (or_else found o) env (next final)) (same_option (choice s c env l))
      (choice_step ns (changed_by a.signatures y.entries p) e h.start h.ends k x final env env (λ o. o) found
      (choice s c env l) refl h.starts h.ended (all_outermost (length h.start) h.start refl) (omega arith) stays
      (λ o well. well)
      (λ holds. choice_chooses none t line e p x env l here each.1 sequential.1 both.1 (omega (arith, excluded_long))
      (record {
        counted = stands.counted;
        main = of_main_alike s h.start k.entries alike stands.main;
        low = omega arith;
        holds = holds;
      }))
      (λ holds. (holds.meets, all_outermost (length h.start) env (as_long env h.start holds.meets))) before))
  choices_well none t (Further cs (Plain p)) k env l reach each is sequential words stands = absurd sequential.1
  choices_well none t (Further cs (Guarded line g p)) k env l reach each is sequential words stands =
      absurd sequential.1

  -- ---- replicators

  -- a loop whose body changes these variables, with its index
  loop_well : (t : Standing) (p : Process) (name : List ℕ) (base : ℤ) (count : ℕ) (indices : Ends) (ns : List ℕ)
      (k : Known) (env : Environment) (l : Links)
      → Reaches items t (AComponent (Plain p))
      (with_entries (add name (Scalar scalar.Index value_type.Int indices)) (begin_loop ns k))
      → ProcessGoes p → IsSequential p → process_has_words p ≡ true
      → Covers ns (changed_by t.around.signatures
      (add name (Scalar scalar.Index value_type.Int indices) (widen ns k.entries)) p)
      → ((n : ℕ) → n < count → InRange indices (base +ℤ pos n))
      → ((n : ℕ) → n < count → is_word (base +ℤ pos n) ≡ true) → Stands s t k env
      → IsWell (turn_by_turn
      (λ n o. followed o (λ e m. left (length env) (run_component s (Plain p) (with_index name base n e) m))) count
      (Goes env l)) (widen ns k.entries)
  loop_well t p name base count indices ns k env l reached goes sequential words covers lies word stands =
      let a = t.around in
      let index : Meaning = Scalar scalar.Index value_type.Int indices in
      let wide = widen ns k.entries in
      let m = with_entries (add name index) (begin_loop ns k) in
      let final = (inside a p m).entries in
      let whole = outermost (length m.entries) final in
      let alike = shapes_stay.widening k.entries ns in
      let long = as_long env k.entries stands.holds.meets in
      let same = long_alike wide k.entries alike in
      let cut : outermost (length env) m.entries ≡ wide =
      all_but_one (length env) (record { name = name; meaning = index }) wide (same ∙ sym long) in
      let stays = process_stays a ns p m covers (omega arith) in
      outcomes_go_well.looping ns k.entries (λ n. outermost (length env) whole)
      (λ n e x. left (length env) (run_component s (Plain p) (with_index name base n e) x)) count
      (λ n less. subst (EntriesWithin ns (outermost (length env) whole)) cut
      (within_left ns (length env) whole m.entries stays.within))
      (λ n less e x holds. outcomes_go_well.leaving whole (length env) (run s p (with_index name base n e) x)
      (goes.well t (length m.entries) m (with_index name base n e) x (to_process t (Plain p) m reached) sequential words
      (record {
        counted = stands.counted;
        main = of_main_more s (record { name = name; meaning = with_range (λ r. full) index }) (shape wide) tt
            (of_main_alike s wide k.entries alike stands.main);
        low = omega arith;
        holds = record {
          meets = (refl, lies n less, holds.meets);
          typed = (index_typed base n (word n less), holds.typed);
        };
      })))
      env l (outcomes_go_well.beginning ns k.entries env stands.holds)

  -- the choices of a replicated IF, turn by turn
  turns_well : (none : BreaksNoRule items) (t : Standing) (line : ℕ) (e : Expression) (p : Process) (name : List ℕ)
      (base : ℤ) (count n : ℕ) (repeats : Repeats) (ns : List ℕ) (k : Known) (env : Environment) (l : Links)
      → repeats.sequential ≡ false → repeats.turns.first ≡ Some base → n ≤ count
      → ((i : ℕ) → i < count → Reaches items t (AComponent (Chosen line e p))
      (with_entries (add name (index_in repeats i))
      (turn_by_turn (λ n l. after_component t.around (Mark mark.If) (Chosen line e p)
      (with_entries (add name (index_in repeats n)) l)) i (begin k))))
      → ProcessGoes p → IsSequential p → process_has_words p ≡ true
      → ((i : ℕ) → i < count → is_word (base +ℤ pos i) ≡ true) → Stands s t k env
      → FoundIn (turn_by_turn (λ n found. or_else found
      (option_map (left (length env)) (choice s (Chosen line e p) (with_index name base n env) l))) n None) env
      (turn_by_turn (λ n l. after_component t.around (Mark mark.If) (Chosen line e p)
      (with_entries (add name (index_in repeats n)) l)) n (begin k))
  turns_well none t line e p name base count zero repeats ns k env l sequential first within reach goes seq words word
      stands =
      stands.holds
  turns_well none t line e p name base count (suc n) repeats ns k env l sequential first within reach goes seq words
      word
      stands =
      let a = t.around in
      let c = Chosen line e p in
      let step : ℕ → Known → Known =
      λ n l. after_component a (Mark mark.If) c (with_entries (add name (index_in repeats n)) l) in
      let es = add name (index_meaning false None) k.entries in
      let all = changed_by_component a.signatures es c in
      let m = turn_by_turn step n (begin k) in
      let h = turns_turned a all (Mark mark.If) c name repeats ns k.entries k n tt tt sequential refl
      (component_stays a all (Mark mark.If) c tt es (covers_itself all)) in
      let more : ℕ → Option Outcome → Option Outcome =
      λ n found. or_else found (option_map (left (length env)) (choice s c (with_index name base n env) l)) in
      let found = turn_by_turn more n None in
      let before = subst (FoundIn found env) h.is
      (turns_well none t line e p name base count n repeats ns k env l sequential first (omega (arith, within)) reach
      goes
      seq words word stands) in
      let v = base +ℤ pos n in
      let index = index_in repeats n in
      let known : index ≡ Constant value_type.Int (Some v) =
      (λ i. index_of (sequential i) repeats.indices (index_at (first i) n))
      ∙ ap (λ t. Constant value_type.Int (cond t (Some v) None)) (word n (omega (arith, within))) in
      let around : Known = record { entries = h.start; blocks = record { start = h.start; ends = h.ends } ∷ k.blocks }
      in
      let x = with_entries (add name index) around in
      let inner = with_index name base n env in
      let alike = within_shape all h.start k.entries h.starts in
      let y = chosen e x in
      let final = inside a p y in
      let here = subst (λ z. Reaches items t (AComponent c) (with_entries (add name index) z)) h.is
      (reach n (omega (arith, within))) in
      let rest_long = long_alike (excluded e x.entries h.start) h.start (shapes_stay.excluding x.entries h.start e) in
      let narrow_long = long_alike y.entries x.entries (shapes_stay.narrowing x.entries e true) in
      let start_long = long_alike h.start k.entries alike in
      let env_long = as_long env k.entries stands.holds.meets in
      let size = length h.start in
      let stays = ranges_stay.processes a p y (omega (arith, rest_long, narrow_long)) in
      let cut = all_but_one size (record { name = name; meaning = index }) h.start refl in
      let left_again = all_but_one size (record { name = name; held = held.One v }) env (env_long ∙ sym start_long) in
      subst (λ z. FoundIn (more n found) env (step n z)) (sym h.is)
      (choice_step all (changed_by a.signatures y.entries p) e h.start h.ends k x final env inner (left (length env))
      found
      (choice s c inner l) refl h.starts h.ended cut (omega arith) stays
      (λ o well. left_well (length env) size (length x.entries) o final.entries (env_long ∙ sym start_long)
      (omega arith)
      well)
      (λ holds. choice_chooses none t line e p x inner l here goes seq words (omega (arith, rest_long)) (record {
        counted = stands.counted;
        main = of_main_more s (record { name = name; meaning = with_range (λ r. full) index }) (shape h.start)
            (subst (λ m. IsOwn (with_range (λ r. full) m)) (sym known) tt)
            (of_main_alike s h.start k.entries alike stands.main);
        low = omega arith;
        holds = record {
          meets = (refl, subst (λ m. IsHeld m (held.One v)) (sym known) refl, holds.meets);
          typed = (
            subst (λ m. HasType m (held.One v)) (sym known) (index_typed base n (word n (omega (arith, within)))),
            holds.typed,
          );
        };
      }))
      (λ holds. ((refl, subst (λ m. IsHeld m (held.One v)) (sym known) refl, holds.meets), left_again)) before)

  abbrev pub body_runs : {part : Part} → Terminal → Component part → List ℕ → ℤ → ℕ → Environment → Links → Outcome
  body_runs word c name base count env l =
      by_word word
      (turn_by_turn (λ n o. followed o (λ e m. left (length env) (run_component s c (with_index name base n e) m)))
      count (Goes env l))
      (turn_by_turn (λ n found. or_else found
      (option_map (left (length env)) (choice s c (with_index name base n env) l))) count None)
      l

  -- where a turn of a body begins
  abbrev pub turn_begins : {part : Part} → Around → Terminal → Component part → List ℕ → Repeats → List ℕ → Bool → Known
      → ℕ → Known
  turn_begins a word c name repeats ns counts k n =
      with_entries (add name (index_in repeats n))
      (turn_by_turn (λ n l. after_component a word c (with_entries (add name (index_in repeats n)) l)) n
      (begun_body word ns counts k))

  -- a replicated IF whose count is not 0
  choices_repeated : (none : BreaksNoRule items) (t : Standing) (line : ℕ) (e : Expression) (p : Process)
      (name : List ℕ) (base : ℤ) (count : ℕ) (repeats : Repeats) (ns : List ℕ) (counts : Bool) (times : ℕ) (k : Known)
      (env : Environment) (l : Links) → repeats.sequential ≡ false → repeats.turns.first ≡ Some base → true ≡ counts
      → count ≡ times
      → ((n : ℕ) → n < times → Reaches items t (AComponent (Chosen line e p))
      (turn_begins t.around (Mark mark.If) (Chosen line e p) name repeats ns counts k n))
      → ProcessGoes p → IsSequential p → process_has_words p ≡ true
      → ((i : ℕ) → i < count → is_word (base +ℤ pos i) ≡ true) → Stands s t k env
      → IsWell (body_runs (Mark mark.If) (Chosen line e p) name base count env l) (outermost (length k.entries)
      (repeated counts (turn_by_turn (λ n l. after_component t.around (Mark mark.If) (Chosen line e p)
      (with_entries (add name (index_in repeats n)) l)) times (begun_body (Mark mark.If) ns counts k))).entries)
  choices_repeated none t line e p name base count repeats ns counts times k env l sequential first happen all reach
      goes
      seq words word stands =
      let a = t.around in
      let c = Chosen line e p in
      let step : ℕ → Known → Known =
      λ n l. after_component a (Mark mark.If) c (with_entries (add name (index_in repeats n)) l) in
      let es = add name (index_meaning false None) k.entries in
      let changed = changed_by_component a.signatures es c in
      subst (λ b. ((n : ℕ) → n < times
      → Reaches items t (AComponent c) (turn_begins a (Mark mark.If) c name repeats ns b k n))
      → IsWell (body_runs (Mark mark.If) c name base count env l) (outermost (length k.entries)
      (repeated b (turn_by_turn step times (begun_body (Mark mark.If) ns b k))).entries)) happen
      (subst (λ i. ((n : ℕ) → n < i
      → Reaches items t (AComponent c) (turn_begins a (Mark mark.If) c name repeats ns true k n))
      → IsWell (body_runs (Mark mark.If) c name base count env l) (outermost (length k.entries)
      (repeated true (turn_by_turn step i (begun_body (Mark mark.If) ns true k))).entries)) all
      (λ reached.
      let h = turns_turned a changed (Mark mark.If) c name repeats ns k.entries k count tt tt sequential refl
      (component_stays a changed (Mark mark.If) c tt es (covers_itself changed)) in
      let more : ℕ → Option Outcome → Option Outcome =
      λ n found. or_else found (option_map (left (length env)) (choice s c (with_index name base n env) l)) in
      let found = turn_by_turn more count None in
      subst (λ z. IsWell (or_waits found l) (outermost (length k.entries) (end z).entries)) (sym h.is)
      (first_well changed k found env l h.start h.ends h.ended
      (subst (FoundIn found env) h.is
      (turns_well none t line e p name base count count repeats ns k env l sequential first (omega arith) reached goes
      seq
      words word stands)))))
      reach

  body_well : {part : Part} (none : BreaksNoRule items) (word : Terminal) (c : Component part) (t : Standing)
      (counted : Bool) (r : Replicator) (count : ℤ) (k : Known) (env : Environment) (l : Links) → counted ≡ true
      → IsSequentialComponent word c → component_has_words c ≡ true → ProcessGoes (process_of c)
      → (h : ReplicatorHolds k.entries r) → h.count ≡ count
      → ((n : ℕ) → n < (repeats_of counted k.entries (is_seq word) r).turns.count → Reaches items t (AComponent c)
      (turn_begins t.around word c r.name (repeats_of counted k.entries (is_seq word) r)
      (changed_by_component t.around.signatures (add r.name (index_meaning (is_seq word) None) k.entries) c)
      (repeats_of counted k.entries (is_seq word) r).happens k n))
      → Stands s t k env
      → IsWell (body_runs word c r.name h.base (turns count) env l)
      (outermost (length k.entries) (body_ended t.around word c r counted k).entries)
  body_well none word c t counted r (negsuc n) k env l is_counted seq words goes h count reach stands =
      absurd (cc (ap (λ z. int_le (pos 0) z && fits_word (Some h.base) z) (sym count) ∙ h.fits))
  body_well none (Mark mark.Seq) (Plain p) t counted r (pos n) k env l is_counted seq words goes h count reach stands =
      let a = t.around in
      let es = add r.name (index_meaning true None) k.entries in
      let ns = changed_by a.signatures es p in
      let indices = index_range (value_as k.entries types.Int r.base) (value_as k.entries types.Int r.count) in
      let index : Meaning = Scalar scalar.Index value_type.Int indices in
      let m = with_entries (add r.name index) (begin_loop ns k) in
      let fits = ap (λ z. int_le (pos 0) z && fits_word (Some h.base) z) (sym count) ∙ h.fits in
      let alike = added_alike r.name index (index_meaning true None) (widen ns k.entries) k.entries refl
      (shaped (widen ns k.entries) k.entries (shapes_stay.widening k.entries ns)) in
      let covers = covers_as ns ns (changed_by a.signatures m.entries p)
      (sym (changes_follow_outlines.processes a.signatures p m.entries es alike)) (covers_itself ns) in
      let stays = process_stays a ns p m covers (omega arith) in
      let after : (body_ended a (Mark mark.Seq) (Plain p) r counted k).entries ≡ widen ns k.entries =
      ap (λ bs. (after_block (left_to (length m.entries) (inside a p m)).entries bs).entries) stays.blocks in
      let same = long_alike (widen ns k.entries) k.entries (shapes_stay.widening k.entries ns) in
      well_at (body_runs (Mark mark.Seq) (Plain p) r.name h.base n env l) (widen ns k.entries) _
      (sym (ap (outermost (length k.entries)) after ∙ all_outermost (length k.entries) (widen ns k.entries) same))
      (loop_well t p r.name h.base n indices ns k env l (reach 0 (omega arith)) goes seq words covers
      (λ i less.
      subst (λ q. InRange q (h.base +ℤ pos i))
      (λ j. index_range (sym h.base_is j) ((ap Some (sym count) ∙ sym h.count_is) j))
      (index_lies h.base i n less (counts_on h.base n fits (omega (arith, less)))))
      (λ i less. turn_word h.base i n fits less) stands)
  body_well none (Mark mark.If) (Chosen line e p) t counted r (pos zero) k env l is_counted seq words goes h count reach
      stands =
      tt
  body_well none (Mark mark.If) (Chosen line e p) t counted r (pos (suc n)) k env l is_counted seq words goes h count
      reach stands =
      let fits = ap (λ z. int_le (pos 0) z && fits_word (Some h.base) z) (sym count) ∙ h.fits in
      let more = counts_on h.base (suc n) fits (omega arith) in
      let repeats = repeats_of counted k.entries false r in
      let times : value_as k.entries types.Int r.count ≡ Some (pos (suc n)) = h.count_is ∙ ap Some count in
      choices_repeated none t line e p r.name h.base (suc n) repeats
      (changed_by_component t.around.signatures (add r.name (index_meaning false None) k.entries) (Chosen line e p))
      repeats.happens repeats.turns.count k env l refl
      (λ i. (turns_from counted (h.base_is i) (value_as k.entries types.Int r.count)).first)
      (sym ((λ i. happens (is_counted i) (h.base_is i) (times i)) ∙ more))
      (sym ((λ i. (turns_from (is_counted i) (h.base_is i) (times i)).count)
      ∙ ap (λ b. cond b (unsigned_abs (pos (suc n))) 1) more)) reach goes seq
      (and_parts (has_words e) (process_has_words p) words).1 (λ i less. turn_word h.base i (suc n) fits less) stands
  body_well none word c t counted r (pos n) k env l is_counted seq words goes h count reach stands = absurd seq

  -- ---- constructs

  acted_goes : (none : BreaksNoRule items) (action : Action) → ConstructGoes (Act action)
  acted_goes none action = record {
    well = λ t first line k env l reached sequential words stands.
        let a = t.around in
        let right = places_hold items t (AProcess first (Does line (Act action))) k none reached in
        let after = after_action a.signatures action k.entries in
        let changed = changed_by_action a.signatures k.entries action in
        let long = within_long changed after k.entries
        (action_within changed a.signatures k.entries action (covers_itself changed)) in
        well_at (act s action env l) after (outermost (length k.entries) after)
        (sym (all_outermost (length k.entries) after long))
        (action_well s a.signatures (length a.signatures) action k.entries env l sequential words stands.main
        right.whole.entries stands.holds right.holds);
  }

  -- a block, by its word
  block_well : {part : Part} (none : BreaksNoRule items) (word : Terminal) (cs : Components part) (t : Standing)
      (k : Known) (env : Environment) (l : Links) → IsMadeOf word part → IsSequentialWord word → AreSequential word cs
      → components_have_words cs ≡ true → EachGoes cs
      → ((piece : Piece) (m : Known) → StandsAmong t.around word cs (begun word k) piece m → Reaches items t piece m)
      → Stands s t k env
      → IsWell (by_word word (run_components s cs env l) (first_true s cs env l) l)
      (outermost (length k.entries) (ended word (after_components t.around word cs (begun word k))).entries)
  block_well none (Mark mark.Seq) cs t k env l is ok sequential words each reach stands =
      let ns = changed_by_components t.around.signatures k.entries cs in
      let after = (after_components t.around (Mark mark.Seq) cs k).entries in
      let remains = components_stay t.around ns (Mark mark.Seq) cs k is (covers_itself ns) stands.low in
      well_at (run_components s cs env l) after (outermost (length k.entries) after)
      (sym (all_outermost (length k.entries) after (within_long ns after k.entries remains.within)))
      (components_well t cs k env l reach each is sequential words stands)
  block_well none (Mark mark.If) cs t k env l is ok sequential words each reach stands =
      let ns = changed_by_components t.around.signatures k.entries cs in
      let h = components_stay t.around ns (Mark mark.If) cs k is (covers_itself ns) stands.low in
      let found = first_true s cs env l in
      subst (λ z. IsWell (or_waits found l) (outermost (length k.entries) (end z).entries)) (sym h.is)
      (first_well ns k found env l h.start h.ends h.ended
      (subst (FoundIn found env) h.is (choices_well none t cs k env l reach each is sequential words stands)))
  block_well none word cs t k env l is ok sequential words each reach stands = absurd ok

  block_goes : (none : BreaksNoRule items) (kind : _) (cs : Components (part_of kind)) → EachGoes cs
      → ConstructGoes (Block kind cs)
  block_goes none kind cs each = record {
    well = λ t first line k env l reached sequential words stands.
        let word = block_word kind in
        let u = in_block word k t in
        block_well none word cs u k env l (kind_fits kind) sequential.0 sequential.1 words each
        (λ piece m among. to_part t u first line (Block kind cs) piece k m reached (refl, among))
        (record { counted = stands.counted; main = stands.main; low = stands.low; holds = stands.holds });
  }

  repeated_goes : (none : BreaksNoRule items) (r : Replicator) (kind : _) (c : Component (part_of kind))
      → ProcessGoes (process_of c) → ConstructGoes (Replicated r (One kind c))
  repeated_goes none r kind c goes = record {
    well = λ t first line k env l reached sequential words stands.
        let word = block_word kind in
        let a = t.around in
        let u = in_block word k t in
        let b = One kind c in
        let whole = Replicated r b in
        let right = places_hold items t (AProcess first (Does line whole)) k none reached in
        let h = right.holds in
        let base = value_is_number value_type.Int k.entries env r.base h.base stands.holds.meets h.base_is in
        let count = value_is_number value_type.Int k.entries env r.count h.count stands.holds.meets h.count_is in
        let end = (after_construct a line whole k).entries in
        subst (λ o. IsWell (or_stuck o (λ base. or_stuck (number_of env r.count) (λ count.
        run_body s b r.name base (turns count) env l))) (outermost (length k.entries) end)) (sym base)
        (subst (λ o. IsWell (or_stuck o (λ count. run_body s b r.name h.base (turns count) env l))
        (outermost (length k.entries) end)) (sym count)
        (body_well none word c u (is_before line a.uncounted) r h.count k env l
        (ap (is_before line) stands.counted) sequential
        (and_parts (replicator_has_words r) (component_has_words c) words).1 goes h refl
        (λ n less. to_part t u first line whole (AComponent c) k _ reached (n, refl, refl, less, refl))
        (record { counted = stands.counted; main = stands.main; low = stands.low; holds = stands.holds })));
  }

module _ (items : List ProgramItem) (none : BreaksNoRule items) (s : Surroundings) where
  mutual
    process_goes : (p : Process) → ProcessGoes items s p
    process_goes (Declared d p) = declared_goes items s d p none (process_goes p)
    process_goes (Does line c) = record {
      well = λ t first k env l reached sequential words stands.
          (construct_goes c).well t first line k env l reached sequential words stands;
    }

    construct_goes : (c : Construct) → ConstructGoes items s c
    construct_goes (Act action) = acted_goes items s none action
    construct_goes (Block kind cs) = block_goes items s none kind cs (components_go cs)
    construct_goes (Replicated r (One kind c)) = repeated_goes items s none r kind c (component_goes c)

    components_go : {part : Part} (cs : Components part) → EachGoes items s cs
    components_go NoComponent = tt
    components_go (Further cs c) = (components_go cs, component_goes c)

    component_goes : {part : Part} (c : Component part) → ProcessGoes items s (process_of c)
    component_goes (Plain p) = process_goes p
    component_goes (Chosen line e p) = process_goes p
    component_goes (Guarded line g p) = process_goes p

-- Each process of such a program goes well, from each place that the walk reaches.
pub processes_go_well : (items : List ProgramItem) (s : Surroundings) (p : Process) → BreaksNoRule items
    → ProcessGoes items s p
processes_go_well items s p none = process_goes items none s p
