-- Blocks under a replicator.
use Rattle.std.proofs.Common.{◌≡◌, ℕ, zero, suc, ◌+◌, ◌<◌, ◌≤◌, ◌^◌, ℤ, pos, negsuc, ◌+ℤ◌, ◌-ℤ◌, FitsSigned, Bool, true}
use Rattle.std.proofs.Common.{false, cond, ◌&&◌, List, [], ◌∷◌, ◌++◌, length, Option, Some, None, Ok, Err, inr, refl, sym}
use Rattle.std.proofs.Common.{ap, subst, ◌∙◌, arith, append_assoc}
use Rattle.std.specs.Prelude.{Result, IfSome, int_le, option_map, unsigned_abs, unwrap_or}
use Rattle.std.specs.Int.{w32}
use Rattle.std.proofs.lemmas.Bool.{and_parts}
use Rattle.std.proofs.lemmas.Int.{ints}
use Rattle.word_arithmetic.specs.Range.{Ends, InRange, constant}
use Rattle.word_arithmetic.specs.Word.{greatest_word, is_word}
use Rattle.module_format.specs.declared.limits.TheConstants.{MAX_DATA_WORDS}
use Rattle.occam_layout.specs.declared.mark.Mark.TheVariants as mark
use Rattle.occam_parser.specs.declared.tree.ValueType.TheVariants as value_type
use Rattle.occam_parser.specs.Expressions.{Expression}
use Rattle.occam_parser.specs.Terminals.{Mark, Terminal}
use Rattle.occam_parser.specs.Lines.{Replicator, block_word}
use Rattle.occam_parser.specs.Blocks.{Chosen, Component, Does, One, Part, Plain, Process, Replicated, part_of}
use Rattle.occam_parser.specs.Words.{component_has_words, has_words, process_has_words, replicator_has_words}
use Rattle.scalar_ranges.specs.declared.types.ExprType.{ExprType}
use Rattle.scalar_ranges.specs.declared.types.ExprType.TheVariants as types
use Rattle.scalar_ranges.specs.declared.scope.ScalarKind.TheVariants as scalar
use Rattle.scalar_ranges.specs.Entries.{Entry, Meaning, Scalar}
use Rattle.scalar_ranges.specs.Environments.{Environment}
use Rattle.scalar_ranges.specs.Moves.{Known, begin, begin_loop, widen}
use Rattle.scalar_ranges.specs.Types.{type_of}
use Rattle.scalar_ranges.specs.Values.{number_of}
use Rattle.scalar_ranges.proofs.MoveLaws.{shapes_stay}
use Rattle.program_uses.specs.Actions.{Around, is_before}
use Rattle.program_uses.specs.Changes.{changed_by, changed_by_component}
use Rattle.program_uses.specs.Constants.{has_type, is_same_type, value_as}
use Rattle.program_uses.specs.Declaring.{add}
use Rattle.program_uses.specs.Indices.{Repeats, happens, index_in, index_meaning, index_range, is_count, is_seq, repeats_of}
use Rattle.program_uses.specs.Indices.{turn_by_turn, turns_from}
use Rattle.program_uses.proofs.ChangesAlike.{added_alike, changes_follow_outlines}
use Rattle.program_meaning.specs.Doing.{Doing, Leaves, doing_body, doing_by_word, doing_choice, doing_component}
use Rattle.program_meaning.specs.Doing.{doing_then, else_doing, leaves, or_fails}
use Rattle.program_meaning.specs.GoingWell.{IsTrueIn}
use Rattle.program_meaning.specs.Running as running
use Rattle.program_meaning.specs.Running.{with_index}
use Rattle.program_meaning.specs.Sequential.{IsSequential, IsSequentialComponent}
use Rattle.program_meaning.specs.TypedValues.{IsNumberOf}
use Rattle.program_meaning.proofs.DeclarationsHold.{value_is_number}
use Rattle.program_meaning.proofs.TypesStay.{types_stay}
use Rattle.program_meaning.proofs.ValuesTyped.{values_are_typed}
use Rattle.usage_checks.specs.AfterProcesses.{after_body, after_component, begun_body}
use Rattle.usage_checks.specs.Holding.{ReplicatorHolds}
use Rattle.usage_checks.specs.ItemRules.{BreaksNoRule}
use Rattle.usage_checks.specs.LineRules.{fits_word}
use Rattle.usage_checks.specs.NameRules.{with_entries}
use Rattle.usage_checks.specs.Reaching.{AComponent, AProcess, Reaches, in_block, process_of, to_part}
use Rattle.usage_checks.proofs.OutlinesStay.{shaped}
use Rattle.usage_checks.proofs.PlacesHold.{index_word, places_hold}
use Rattle.usage_checks.proofs.RangesStay.{covers_as, covers_itself}
use Rattle.code_pieces.specs.Pieces.{Code, closed_by, counted, word_after}
use Rattle.code_pieces.proofs.AllOfPieces.{all_first, all_last}
use Rattle.line_pieces.specs.Homes.{Nowhere}
use Rattle.line_pieces.specs.Declarations.{facts_in, with_home}
use Rattle.code_generator.specs.Processes.{NoChoice, PlacedChoices, Site, Surroundings, by_block, component_code}
use Rattle.code_generator.specs.Processes.{has_scalar, if_code}
use Rattle.code_generator.specs.Processes.{in_each_turn, in_loop, loop_code, loop_end, loop_start, no_loop, placed}
use Rattle.code_generator.specs.Processes.{process_code, repeated_seq, row_of, times, turn_begun, value_or_zero}
use Rattle.code_generator.specs.Processes.{with_ending}
use Rattle.meant_processes.specs.Lying.{PiecesBehave}
use Rattle.meant_processes.specs.Places.{AllFit, CarriedAt, FitsIn, IsPlaced, Program, standing, surroundings}
use Rattle.meant_processes.specs.Premises.{ConditionsPush}
use Rattle.meant_processes.proofs.Behaving.{no_pieces, row_before}
use Rattle.meant_processes.proofs.Blocks.{if_behaves}
use Rattle.meant_processes.proofs.Choices.{ending_means}
use Rattle.meant_processes.proofs.CodeParts.{before_is, closed_is, written_is}
use Rattle.meant_processes.proofs.LoopsDo.{loop_does}
use Rattle.meant_processes.proofs.Placing.{Left}
use Rattle.meant_processes.proofs.RepeatedIfs.{turns_mean}
use Rattle.meant_processes.proofs.Sequences.{ConstructBehaves, ProcessBehaves, indices_here}

-- ---- bases and counts

same_types : (s t : ExprType) → is_same_type s t ≡ true → s ≡ t
same_types types.Int types.Int is = refl
same_types types.Byte types.Byte is = refl
same_types types.Condition types.Condition is = refl
same_types s t is = absurd (cc is)

typed_by : (b : Bool) (s t : ExprType) (o : Option ℤ) (v : ℤ) → is_same_type s t ≡ b → cond b o None ≡ Some v → s ≡ t
typed_by true s t o v same is = same_types s t same
typed_by false s t o v same is = absurd (cc is)

typed_as : (t : ExprType) (r : Result ExprType ℕ) (o : Option ℤ) (v : ℤ) → cond (has_type t r) o None ≡ Some v
    → r ≡ Ok t
typed_as t (Ok s) o v is = let same : s ≡ t = typed_by (is_same_type s t) s t o v refl is in ap Ok same
typed_as t (Err e) o v is = absurd (cc is)

-- A constant that is a number is a word.
word_value : (es : List Entry) (env : Environment) (e : Expression) (v : ℤ) → IsTrueIn es env → has_words e ≡ true
    → value_as es types.Int e ≡ Some v → FitsSigned w32 v
word_value es env e v holds words is =
    subst (λ (o : Option ℤ). IfSome o (IsNumberOf types.Int))
    (value_is_number value_type.Int es env e v holds.meets is)
    (values_are_typed es env e types.Int
    (λ name m means. types_stay.finding es env name m holds.meets holds.typed means) words
    (typed_as types.Int (type_of es e) _ v is))

at_least_one : (n : ℕ) → 0 < n → int_le (pos 1) (pos n) ≡ true
at_least_one zero some = absurd (omega (arith, some))
at_least_one (suc n) some = grind (arith, ints)

counts_on : (base : ℤ) (n : ℕ) → (int_le (pos 0) (pos n) && fits_word (Some base) (pos n)) ≡ true → 0 < n
    → is_count base (pos n) ≡ true
counts_on base n h some =
    let both = and_parts (int_le (pos 0) (pos n)) (fits_word (Some base) (pos n)) h in
    let fits = and_parts (is_word base) (int_le (base +ℤ pos n) (greatest_word +ℤ pos 1)) both.1 in
    ap (λ t. t && int_le (base +ℤ pos n) (greatest_word +ℤ pos 1)) (at_least_one n some) ∙ fits.1

-- each index is a word
turn_word : (base : ℤ) (n count : ℕ) → (int_le (pos 0) (pos count) && fits_word (Some base) (pos count)) ≡ true
    → n < count → is_word (base +ℤ pos n) ≡ true
turn_word base n count h less =
    index_word base (pos count) n count h less (inr (counts_on base count h (omega (arith, less)), refl))

index_lies : (base : ℤ) (n count : ℕ) → n < count → is_count base (pos count) ≡ true
    → InRange (index_range (Some base) (Some (pos count))) (base +ℤ pos n)
index_lies base n count less counted =
    let last : Ends = record { lo = base; hi = base +ℤ (pos count -ℤ pos 1) } in
    subst (λ t. InRange (cond t last (constant base)) (base +ℤ pos n)) (sym counted)
    (record { from_lo = omega (arith, ints, less); to_hi = omega (arith, ints, less) })

-- where a turn of a body begins
abbrev turn_begins : {part : Part} → Around → Terminal → Component part → List ℕ → Repeats → List ℕ → Bool → Known → ℕ
    → Known
turn_begins a word body name repeats ns counts k n =
    with_entries (add name (index_in repeats n))
    (turn_by_turn (λ n l. after_component a word body (with_entries (add name (index_in repeats n)) l)) n
    (begun_body word ns counts k))

-- the code of a body by the word of its block
abbrev pub BodyCode : {part : Part} → Surroundings → Terminal → Component part → Bool → Replicator → (base count : ℤ)
    → Site → Known → List ℕ → Code → Type 0
BodyCode w word body counted r base count s after ns c =
    let repeats = repeats_of counted s.known.entries (is_seq word) r in
    let start = begun_body word ns repeats.happens s.known in
    let inner = in_loop s start r.name (index_in repeats 0) in
    by_block word
    (repeated_seq s ns after base (loop_code s inner after base count (component_code w body inner)) count)
    (if_code s (with_home Nowhere s.frame) after (with_ending (in_each_turn
    (λ n. placed w body (turn_begun w.around word r.name body repeats start n)) (times repeats)))) ≡ Some c

module _ (p : Program) (none : BreaksNoRule p.items) (conditions : ConditionsPush p) where
  abbrev BodyDoing : {part : Part} → Terminal → Component part → List ℕ → ℤ → ℕ → Environment → Doing
  BodyDoing word body name base count env =
      doing_by_word word
      (turn_by_turn (λ n t. doing_then t
      (λ e. leaves (length env) (doing_component p.ports body (with_index name base n e)))) count (Leaves env))
      (turn_by_turn (λ n found. else_doing found
      (option_map (leaves (length env)) (doing_choice p.ports body (with_index name base n env)))) count None)

  -- a loop without turns
  no_turns : (changes : Bool) (s : Site) (after : Known) (turns : ℕ → ℤ) (env : Environment) (c : Code) → IsPlaced p s env
      → no_loop changes s after ≡ Some c
      → PiecesBehave p.code (CarriedAt p s turns env) c.pieces (Left p s turns env) (Leaves env)
  no_turns false s after turns env c there is =
      subst (λ ps. PiecesBehave p.code (CarriedAt p s turns env) ps (Left p s turns env) (Leaves env))
      (sym (written_is [] s.label c is))
      (no_pieces p.code env (λ m carries. (carries, indices_here s env there)))
  no_turns true s after turns env c there is =
      subst (λ ps. PiecesBehave p.code (CarriedAt p s turns env) ps (Left p s turns env) (Leaves env))
      (sym (written_is (row_of s.label s.frame after ∷ []) (s.label + 1) c is))
      (row_before p.code s.label (facts_in s.frame after.entries)
      (no_pieces p.code env (λ m carries. (carries, indices_here s env there))))

  few_turns : (n : ℕ) → FitsSigned w32 (pos (suc n)) → suc n < 2 ^ 31
  few_turns n fits = omega (arith, ints, fits)

  -- the block of a loop is in the frame
  room_for : (top : ℕ) (base : ℤ) (n : ℕ) → p.words ≤ MAX_DATA_WORDS → AllFit p (loop_start top base (pos (suc n)))
      → top + 2 ≤ p.words
  unfolding word_after counted
  room_for top base n most fit = let second = fit.1.1.1.0 in omega (arith, most, second)

  no_count : (base : ℤ) → is_count base (pos zero) ≡ false
  no_count base =
      let no : int_le (pos 1) (pos zero) ≡ false = grind (arith, ints) in
      ap (λ t. t && int_le (base +ℤ pos zero) (greatest_word +ℤ pos 1)) no

  -- the choices of a replicated IF that happens
  if_choices : (line : ℕ) (e : Expression) (q : Process) (counted : Bool) → counted ≡ true
      → (r : Replicator) (n : ℕ) (s : Site) (turns : ℕ → ℤ) (env : Environment) (after : Known) (c : Code)
      → has_words e ≡ true → process_has_words q ≡ true → ProcessBehaves p q → IsSequential q → (base : ℤ)
      → value_as s.known.entries types.Int r.base ≡ Some base
      → ((i : ℕ) → i < suc n → is_word (base +ℤ pos i) ≡ true) → IsPlaced p s env
      → ((i : ℕ) → i < (repeats_of counted s.known.entries false r).turns.count
      → Reaches p.items (standing p) (AComponent (Chosen line e q))
      (with_entries (add r.name (index_in (repeats_of counted s.known.entries false r) i))
      (turn_by_turn (λ n l. after_component p.around (Mark mark.If) (Chosen line e q)
      (with_entries (add r.name (index_in (repeats_of counted s.known.entries false r) n)) l)) i (begin s.known))))
      → (repeats_of counted s.known.entries false r).turns.count ≡ suc n
      → if_code s (with_home Nowhere s.frame) after (with_ending (in_each_turn
      (λ n. placed (surroundings p) (Chosen line e q) (turn_begun p.around (Mark mark.If) r.name (Chosen line e q)
      (repeats_of counted s.known.entries false r) (begin s.known) n))
      (repeats_of counted s.known.entries false r).turns.count)) ≡ Some c
      → AllFit p c.pieces
      → PiecesBehave p.code (CarriedAt p s turns env) c.pieces (Left p s turns env)
      (BodyDoing (Mark mark.If) (Chosen line e q) r.name base (suc n) env)
  if_choices line e q counted is_counted r n s turns env after c literals words behaves seq base base_is word there reach
      times_is is fit =
      let f = with_home Nowhere s.frame in
      let choices : ℕ → PlacedChoices = λ m. in_each_turn
      (λ i. placed (surroundings p) (Chosen line e q) (turn_begun p.around (Mark mark.If) r.name (Chosen line e q)
      (repeats_of true s.known.entries false r) (begin s.known) i)) m in
      let found = turn_by_turn (λ i before_it. else_doing before_it
      (option_map (leaves (length env)) (doing_choice p.ports (Chosen line e q) (with_index r.name base i env)))) (suc n)
      None in
      let reach_all : (i : ℕ) → i < suc n → Reaches p.items (standing p) (AComponent (Chosen line e q))
      (with_entries (add r.name (index_in (repeats_of true s.known.entries false r) i))
      (turn_by_turn (λ n l. after_component p.around (Mark mark.If) (Chosen line e q)
      (with_entries (add r.name (index_in (repeats_of true s.known.entries false r) n)) l)) i (begin s.known))) =
      λ i less. subst (λ b. Reaches p.items (standing p) (AComponent (Chosen line e q))
      (with_entries (add r.name (index_in (repeats_of b s.known.entries false r) i))
      (turn_by_turn (λ n l. after_component p.around (Mark mark.If) (Chosen line e q)
      (with_entries (add r.name (index_in (repeats_of b s.known.entries false r) n)) l)) i (begin s.known))))
      is_counted (reach i (omega (arith, less, times_is))) in
      let mean = turns_mean p none conditions line e q s turns env r.name r base (suc n) (suc n) (omega arith)
      base_is reach_all word behaves seq literals words there in
      if_behaves p s f after turns env (with_ending (choices (suc n))) found c there
      (ending_means p.code (FitsIn p) f env (CarriedAt p s turns env) (Left p s turns env) (choices (suc n)) found mean.0)
      (subst (λ m. if_code s f after (with_ending (choices m)) ≡ Some c)
      (ap (λ b. (repeats_of b s.known.entries false r).turns.count) (sym is_counted) ∙ times_is)
      (subst (λ b. if_code s f after (with_ending (in_each_turn
      (λ n. placed (surroundings p) (Chosen line e q) (turn_begun p.around (Mark mark.If) r.name (Chosen line e q)
      (repeats_of b s.known.entries false r) (begin s.known) n))
      (repeats_of b s.known.entries false r).turns.count)) ≡ Some c) is_counted is)) fit

  body_by : {part : Part} (word : Terminal) (body : Component part) (counted : Bool)
      (r : Replicator) (count : ℤ) (s : Site) (turns : ℕ → ℤ) (env : Environment) (after : Known) (c : Code)
      → counted ≡ true → IsSequentialComponent word body → component_has_words body ≡ true → ProcessBehaves p (process_of body)
      → (h : ReplicatorHolds s.known.entries r) → h.count ≡ count → FitsSigned w32 h.base → FitsSigned w32 count
      → ((n : ℕ) → n < (repeats_of counted s.known.entries (is_seq word) r).turns.count
      → Reaches p.items (in_block word s.known (standing p)) (AComponent body)
      (turn_begins p.around word body r.name (repeats_of counted s.known.entries (is_seq word) r)
      (changed_by_component p.around.signatures (add r.name (index_meaning (is_seq word) None) s.known.entries) body)
      (repeats_of counted s.known.entries (is_seq word) r).happens s.known n))
      → IsPlaced p s env
      → BodyCode (surroundings p) word body counted r h.base count s after
      (changed_by_component p.around.signatures (add r.name (index_meaning (is_seq word) None) s.known.entries) body) c
      → AllFit p c.pieces
      → PiecesBehave p.code (CarriedAt p s turns env) c.pieces (Left p s turns env)
      (BodyDoing word body r.name h.base (running.turns count) env)
  body_by word body counted r (negsuc n) s turns env after c is_counted seq words behaves h count base_fits fits
      reach there is fit =
      absurd (cc (ap (λ z. int_le (pos 0) z && fits_word (Some h.base) z) (sym count) ∙ h.fits))
  body_by (Mark mark.Seq) (Plain q) counted r (pos zero) s turns env after c is_counted seq words behaves h count
      base_fits fits reach there is fit =
      no_turns (has_scalar (changed_by p.around.signatures (add r.name (index_meaning true None) s.known.entries) q)
      s.known.entries) s after turns env c there is
  body_by (Mark mark.Seq) (Plain q) counted r (pos (suc n)) s turns env after c is_counted seq words behaves h
      count base_fits fits reach there is fit = record {
        behaves = λ at_row at to held lie inside_code begins.
            let a = p.around in
            let es = s.known.entries in
            let outer = add r.name (index_meaning true None) es in
            let ns = changed_by a.signatures outer q in
            let indices = index_range (value_as es types.Int r.base) (value_as es types.Int r.count) in
            let index : Meaning = Scalar scalar.Index value_type.Int indices in
            let m = with_entries (add r.name index) (begin_loop ns s.known) in
            let inner = in_loop s (begin_loop ns s.known) r.name index in
            let holds = ap (λ z. int_le (pos 0) z && fits_word (Some h.base) z) (sym count) ∙ h.fits in
            let alike = added_alike r.name index (index_meaning true None) (widen ns es) es refl
            (shaped (widen ns es) es (shapes_stay.widening es ns)) in
            let start = loop_start s.frame.top h.base (pos (suc n)) in
            let row = row_of s.label inner.frame inner.known in
            let last = loop_end s.frame.top s.label (row_of (s.label + 1) s.frame after) in
            let b = before_is (start ++ row ∷ []) (closed_by last (process_code (surroundings p) q inner)) c is in
            let d = closed_is last (process_code (surroundings p) q inner) b.rest b.is in
            let whole : c.pieces ≡ start ++ (row ∷ (d.first.pieces ++ last)) =
            b.pieces ∙ ap (λ ps. (start ++ row ∷ []) ++ ps) d.pieces ∙ append_assoc start (row ∷ []) (d.first.pieces ++ last) in
            let fits_all = subst (AllFit p) whole fit in
            let most = begins.carries.frame.few in
            (subst (λ ps. PiecesBehave p.code (CarriedAt p s turns env) ps (Left p s turns env)
            (BodyDoing (Mark mark.Seq) (Plain q) r.name h.base (suc n) env)) (sym whole)
            (loop_does p none q s turns r.name h.base (suc n) indices ns env (record {
              reached = reach 0 (omega arith);
              behaves = behaves;
              sequential = seq;
              words = words;
              covers = covers_as ns ns (changed_by a.signatures m.entries q)
                  (sym (changes_follow_outlines.processes a.signatures q m.entries outer alike)) (covers_itself ns);
              lies = λ i less.
                  subst (λ x. InRange x (h.base +ℤ pos i))
                  (λ j. index_range (sym h.base_is j) ((ap Some (sym count) ∙ sym h.count_is) j))
                  (index_lies h.base i (suc n) less (counts_on h.base (suc n) holds (omega (arith, less))));
              is_index = λ i less. turn_word h.base i (suc n) holds less;
              there = there;
              some = omega arith;
              few = few_turns n fits;
              fits = base_fits;
              room = room_for s.frame.top h.base n most (all_first (FitsIn p) start (row ∷ (d.first.pieces ++ last)) fits_all);
              most = most;
            }) d.first (facts_in inner.frame inner.known.entries) (facts_in s.frame after.entries) d.is
            (all_first (FitsIn p) d.first.pieces last (all_last (FitsIn p) start (row ∷ (d.first.pieces ++ last)) fits_all).1)
            begins.carries.frame.workspace)).behaves at_row at to held lie inside_code begins;
      }
  body_by (Mark mark.If) (Chosen line e q) counted r (pos zero) s turns env after c is_counted seq words behaves
      h count base_fits fits reach there is fit =
      let es = s.known.entries in
      let none_is : value_as es types.Int r.count ≡ Some (pos zero) = h.count_is ∙ ap Some count in
      let no : (repeats_of counted es false r).happens ≡ false =
      (λ i. happens (is_counted i) (h.base_is i) (none_is i)) ∙ no_count h.base in
      if_behaves p s (with_home Nowhere s.frame) after turns env (with_ending NoChoice) None c there
      (ending_means p.code (FitsIn p) (with_home Nowhere s.frame) env (CarriedAt p s turns env) (Left p s turns env)
      NoChoice None refl)
      (subst (λ b. if_code s (with_home Nowhere s.frame) after (with_ending (in_each_turn
      (λ n. placed (surroundings p) (Chosen line e q) (turn_begun p.around (Mark mark.If) r.name (Chosen line e q)
      (repeats_of counted es false r) (begun_body (Mark mark.If) (changed_by_component p.around.signatures
      (add r.name (index_meaning false None) es) (Chosen line e q)) b s.known) n))
      (cond b (repeats_of counted es false r).turns.count 0))) ≡ Some c) no is) fit
  body_by (Mark mark.If) (Chosen line e q) counted r (pos (suc n)) s turns env after c is_counted seq words
      behaves h count base_fits fits reach there is fit =
      let a = p.around in
      let es = s.known.entries in
      let body = Chosen line e q in
      let ns = changed_by_component a.signatures (add r.name (index_meaning false None) es) body in
      let holds = ap (λ z. int_le (pos 0) z && fits_word (Some h.base) z) (sym count) ∙ h.fits in
      let more = counts_on h.base (suc n) holds (omega arith) in
      let count_is : value_as es types.Int r.count ≡ Some (pos (suc n)) = h.count_is ∙ ap Some count in
      let happens_is : (repeats_of counted es false r).happens ≡ true =
      (λ i. happens (is_counted i) (h.base_is i) (count_is i)) ∙ more in
      let times_is : (repeats_of counted es false r).turns.count ≡ suc n =
      (λ i. (turns_from (is_counted i) (h.base_is i) (count_is i)).count)
      ∙ ap (λ b. cond b (unsigned_abs (pos (suc n))) 1) more in
      let both = and_parts (has_words e) (process_has_words q) words in
      if_choices line e q counted is_counted r n s turns env after c both.0 both.1 behaves seq h.base h.base_is (λ i less. turn_word h.base i (suc n) holds less) there
      (subst (λ b. (i : ℕ) → i < (repeats_of counted es false r).turns.count
      → Reaches p.items (standing p) (AComponent body)
      (turn_begins a (Mark mark.If) body r.name (repeats_of counted es false r) ns b s.known i)) happens_is reach)
      times_is
      (subst (λ b. if_code s (with_home Nowhere s.frame) after (with_ending (in_each_turn
      (λ n. placed (surroundings p) body (turn_begun a (Mark mark.If) r.name body
      (repeats_of counted es false r) (begun_body (Mark mark.If) ns b s.known) n))
      (cond b (repeats_of counted es false r).turns.count 0))) ≡ Some c) happens_is is) fit
  body_by word body counted r (pos n) s turns env after c is_counted seq words behaves h count base_fits fits reach
      there is fit =
      absurd seq

  -- ---- the construct

  pub repeated_behaves : (r : Replicator) (kind : _) (body : Component (part_of kind)) → ProcessBehaves p (process_of body)
      → ConstructBehaves p (Replicated r (One kind body))
  repeated_behaves r kind body behaves = record {
    behaves = λ first line s turns env c reached sequential words there is fit.
        let word = block_word kind in
        let a = p.around in
        let t = standing p in
        let u = in_block word s.known t in
        let es = s.known.entries in
        let whole = Replicated r (One kind body) in
        let right = places_hold p.items t (AProcess first (Does line whole)) s.known none reached in
        let h = right.holds in
        let base = value_is_number value_type.Int es env r.base h.base there.holds.meets h.base_is in
        let count = value_is_number value_type.Int es env r.count h.count there.holds.meets h.count_is in
        let all = and_parts (replicator_has_words r) (component_has_words body) words in
        let both = and_parts (has_words r.base) (has_words r.count) all.0 in
        let counted = is_before line a.uncounted in
        let after = after_body a line r (One kind body) s.known in
        let ns = changed_by_component a.signatures (add r.name (index_meaning (is_seq word) None) es) body in
        let base_is : value_or_zero es r.base ≡ h.base = ap (λ (o : Option ℤ). unwrap_or o (pos 0)) h.base_is in
        let count_is : value_or_zero es r.count ≡ h.count = ap (λ (o : Option ℤ). unwrap_or o (pos 0)) h.count_is in
        let code : BodyCode (surroundings p) word body counted r h.base h.count s after ns c =
        subst (λ x. BodyCode (surroundings p) word body counted r h.base x s after ns c) count_is
        (subst (λ x. BodyCode (surroundings p) word body counted r x (value_or_zero es r.count) s after ns c) base_is
        is) in
        subst (λ o. PiecesBehave p.code (CarriedAt p s turns env) c.pieces (Left p s turns env)
        (or_fails o (λ x. or_fails (number_of env r.count) (λ y.
        doing_body p.ports (One kind body) r.name x (running.turns y) env)))) (sym base)
        (subst (λ o. PiecesBehave p.code (CarriedAt p s turns env) c.pieces (Left p s turns env)
        (or_fails o (λ y. doing_body p.ports (One kind body) r.name h.base (running.turns y) env))) (sym count)
        (body_by word body counted r h.count s turns env after c (ap (is_before line) there.sited.counted) sequential
        all.1 behaves h refl (word_value es env r.base h.base there.holds both.0 h.base_is)
        (word_value es env r.count h.count there.holds both.1 h.count_is)
        (λ n less. to_part t u first line whole (AComponent body) s.known _ reached (n, refl, refl, less, refl)) there code
        fit));
  }
