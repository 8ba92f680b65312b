-- A replicated IF: its choice in each turn.
use Rattle.std.proofs.Common.{◌≡◌, ℕ, zero, suc, ◌<◌, ◌≤◌, ℤ, pos, ◌+ℤ◌, FitsSigned, Bool, true, false, List, []}
use Rattle.std.proofs.Common.{◌∷◌, ◌++◌, length, Option, Some, None, refl, sym, ap, subst, ◌∙◌, arith, cond}
use Rattle.std.specs.Prelude.{option_map}
use Rattle.std.specs.Int.{w32}
use Rattle.word_arithmetic.specs.Word.{is_word}
use Rattle.word_arithmetic.proofs.WordLaws.{is_word_out}
use Rattle.machine_state.specs.Memory.{Memory}
use Rattle.occam_layout.specs.declared.mark.Mark.TheVariants as mark
use Rattle.occam_parser.specs.declared.tree.ValueType.TheVariants as value_type
use Rattle.occam_parser.specs.Expressions.{Expression}
use Rattle.occam_parser.specs.Terminals.{Mark}
use Rattle.occam_parser.specs.Lines.{Replicator}
use Rattle.occam_parser.specs.Blocks.{Chosen, Process}
use Rattle.occam_parser.specs.Words.{has_words, process_has_words}
use Rattle.scalar_ranges.specs.declared.types.ExprType.TheVariants as types
use Rattle.scalar_ranges.specs.Entries.{Constant, Entry}
use Rattle.scalar_ranges.specs.Environments.{Environment, IsHeld, One}
use Rattle.scalar_ranges.specs.MoveLaws.{shape}
use Rattle.scalar_ranges.specs.Moves as moves
use Rattle.scalar_ranges.specs.Moves.{Known, begin, begun_with, excluded, next, outermost}
use Rattle.scalar_ranges.specs.Values.{truth_of}
use Rattle.scalar_ranges.proofs.MoveLaws.{as_long, shapes_stay}
use Rattle.scalar_ranges.proofs.NarrowingLaws.{narrowing_holds}
use Rattle.scalar_ranges.proofs.Nesting.{long_alike}
use Rattle.program_uses.specs.Changes.{changed_by, changed_by_component}
use Rattle.program_uses.specs.Constants.{value_as}
use Rattle.program_uses.specs.Declaring.{add}
use Rattle.program_uses.specs.Indices.{Repeats, index_at, index_in, index_meaning, repeats_of, turn_by_turn, turns_from}
use Rattle.program_meaning.specs.Doing.{Doing, Fails, Leaves, chosen, doing, doing_choice, else_doing, leaves}
use Rattle.program_meaning.specs.GoingWell.{IsTrueIn}
use Rattle.program_meaning.specs.Running.{with_index}
use Rattle.program_meaning.specs.Sequential.{IsSequential}
use Rattle.program_meaning.specs.Storing.{bind}
use Rattle.program_meaning.proofs.MovesWithin.{within_shape}
use Rattle.program_meaning.proofs.TypesStay.{types_stay}
use Rattle.usage_checks.specs.AfterProcesses as after
use Rattle.usage_checks.specs.AfterProcesses.{after_component, inside}
use Rattle.usage_checks.specs.ItemRules.{BreaksNoRule}
use Rattle.usage_checks.specs.NameRules.{with_entries}
use Rattle.usage_checks.specs.Reaching.{AComponent, Reaches, to_process}
use Rattle.usage_checks.proofs.ChoicesGoWell.{chosen_next, excluded_true}
use Rattle.usage_checks.proofs.PlacesHold.{places_hold}
use Rattle.usage_checks.proofs.RangesStay.{all_but_one, component_stays, covers_itself, ranges_stay, turns_turned}
use Rattle.line_pieces.specs.Homes.{Nowhere}
use Rattle.line_pieces.specs.Declarations.{with_home}
use Rattle.code_generator.specs.Processes.{Site, at_place, in_each_turn, placed}
use Rattle.meant_lines.proofs.Housing.{get_before}
use Rattle.meant_lines.proofs.Shapes.{same_shapes_carry}
use Rattle.meant_processes.specs.Places.{CarriedAt, FitsIn, IsPlaced, Program, ground, standing, surroundings}
use Rattle.meant_processes.specs.Premises.{ConditionsPush}
use Rattle.meant_processes.proofs.Carried.{index_opened, scope_left}
use Rattle.meant_processes.proofs.Choices.{ChoiceMeans, ChoicesMean}
use Rattle.meant_processes.proofs.Ifs.{carried_stays, chosen_none, else_none, shown}
use Rattle.meant_processes.proofs.Indices.{IndicesStay, indices_left, shape_outermost}
use Rattle.meant_processes.proofs.Placing.{Left, carried_alike, home_behind, left_alike, placed_alike, sited_more}
use Rattle.meant_processes.proofs.Sequences.{ProcessBehaves, pieces_left}
use Rattle.meant_processes.proofs.Skips.{skips_leave, true_holds}

-- a choice leaves the scope of its index
choice_left : (n : ℕ) (t : Doing) (truth : Option Bool)
    → option_map (leaves n) (chosen Fails t truth) ≡ chosen Fails (leaves n t) truth
choice_left n t None = refl
choice_left n t (Some true) = refl
choice_left n t (Some false) = refl

map_none : (n : ℕ) (o : Option Doing) → option_map (leaves n) o ≡ None → o ≡ None
map_none n None is = refl
map_none n (Some t) is = absurd (cc is)

module _ (p : Program) (none : BreaksNoRule p.items) (conditions : ConditionsPush p) (line : ℕ)
    (e : Expression) (q : Process) (s : Site) (turns : ℕ → ℤ) (env : Environment) (name : List ℕ) where
  -- a place in a turn: the index has no word
  abbrev pub in_turn : Known → ℕ → Site
  in_turn k label = record { frame = with_home Nowhere s.frame; known = k; label = label }

  abbrev pub entered : Option ℤ → List Entry → List moves.Block → Known
  entered o start blocks =
      record { entries = add name (Constant value_type.Int o) start; blocks = blocks }

  turn_true : (o : Option ℤ) (v : ℤ) (start : List Entry) → o ≡ Some v → FitsSigned w32 v → IsTrueIn start env
      → IsTrueIn (add name (Constant value_type.Int o) start) (bind name (One v) env)
  turn_true o v start is fits holds = record {
    meets = (
      refl,
      subst (λ (x : Option ℤ). IsHeld (Constant value_type.Int x) (One v)) (sym is) refl,
      holds.meets,
    );
    typed = (fits, holds.typed);
  }

  turn_placed : (o : Option ℤ) (v : ℤ) (start : List Entry) (blocks : List moves.Block) → o ≡ Some v → FitsSigned w32 v
      → IsPlaced p s env → shape start ≡ shape s.known.entries
      → begun_with blocks ≤ length (entered o start blocks).entries → IsTrueIn start env
      → IsPlaced p (in_turn (entered o start blocks) 0) (bind name (One v) env)
  turn_placed o v start blocks is fits there same low holds = record {
    sited = sited_more p s (in_turn (entered o start blocks) 0) Nowhere
        (record { name = name; meaning = Constant value_type.Int o }) start there.sited there.long refl refl same tt tt
        tt low;
    long = home_behind s.frame.homes Nowhere ∙ ap suc (there.long ∙ sym (long_alike start s.known.entries same));
    holds = turn_true o v start is fits holds;
  }

  -- memory in a turn, and behind it
  turn_carried : (o : Option ℤ) (v : ℤ) (start : List Entry) (blocks : List moves.Block) (m : Memory) → IsPlaced p s env
      → shape start ≡ shape s.known.entries → IsTrueIn start env → CarriedAt p s turns env m
      → CarriedAt p (in_turn (entered o start blocks) 0) turns (bind name (One v) env) m
  turn_carried o v start blocks m there same holds x = record {
    carries = index_opened p s.frame.homes turns s.frame.top start env name o v m holds.meets
        (there.long ∙ sym (long_alike start s.known.entries same))
        (same_shapes_carry (ground p s.frame.homes turns) s.frame.top s.known.entries start env m (sym same) x.carries);
  }

  turn_left : (o : Option ℤ) (v : ℤ) (start : List Entry) (blocks : List moves.Block) (m before : Memory)
      (x : Environment) → IsPlaced p s env → shape start ≡ shape s.known.entries → IsTrueIn start env
      → CarriedAt p s turns env before
      → Left p (in_turn (entered o start blocks) 0) turns (bind name (One v) env) x m
      → Left p s turns env (outermost (length env) x) m
  turn_left o v start blocks m before x there same holds begins left =
      let es = s.known.entries in
      let g = ground p s.frame.homes turns in
      let k = entered o start blocks in
      let long = there.long in
      let start_long = long_alike start es same in
      let env_long = as_long env es there.holds.meets in
      let cut : outermost (length env) k.entries ≡ start =
      all_but_one (length env) (record { name = name; meaning = Constant value_type.Int o }) start
      (start_long ∙ sym env_long) in
      let outer = same_shapes_carry g s.frame.top es start env before (sym same) begins.carries in
      let carried = scope_left p (s.frame.homes ++ Nowhere ∷ []) s.frame.homes turns turns m (length env) s.frame.top
      s.frame.top start k.entries x cut
      (λ i low. sym (get_before s.frame.homes Nowhere i (omega (arith, low, long, start_long)))) (λ w low. refl)
      outer.rise outer.room outer.counted left.0.carries in
      let stays = indices_left (length env) (shape k.entries) (bind name (One v) env) x left.1 in (
        record { carries = same_shapes_carry g s.frame.top start es (outermost (length env) x) m same carried },
        subst (λ old. IndicesStay (shape es) old (outermost (length env) x))
            (all_but_one (length env) (record { name = name; held = One v }) env refl)
            (subst (λ fs. IndicesStay fs (outermost (length env) (bind name (One v) env)) (outermost (length env) x))
            (sym (shape_outermost (length env) k.entries) ∙ ap shape cut ∙ same) stays),
      )

  -- The choice in a turn does what it means.
  turn_means : (o : Option ℤ) (v : ℤ) (start : List Entry) (blocks : List moves.Block) → o ≡ Some v → FitsSigned w32 v
      → Reaches p.items (standing p) (AComponent (Chosen line e q)) (entered o start blocks)
      → ProcessBehaves p q → IsSequential q → has_words e ≡ true → process_has_words q ≡ true → IsPlaced p s env
      → shape start ≡ shape s.known.entries → begun_with blocks ≤ length (entered o start blocks).entries
      → begun_with (after.chosen e (entered o start blocks)).blocks ≤ length (entered o start blocks).entries
      → IsTrueIn start env
      → ChoiceMeans p.code (FitsIn p) (with_home Nowhere s.frame) env (CarriedAt p s turns env) (Left p s turns env)
      (placed (surroundings p) (Chosen line e q) (entered o start blocks))
      (option_map (leaves (length env)) (doing_choice p.ports (Chosen line e q) (bind name (One v) env)))
  turn_means o v start blocks is fits reached behaves sequential literals words there same low chosen_low holds =
      let k = entered o start blocks in
      let inner = bind name (One v) env in
      let site = in_turn k 0 in
      let known = turn_true o v start is fits holds in
      let at_k = turn_placed o v start blocks is fits there same low holds in
      let right = places_hold p.items (standing p) (AComponent (Chosen line e q)) k none reached in
      let y = after.chosen e k in
      let narrowed = shapes_stay.narrowing k.entries e true in
      let long = long_alike y.entries k.entries narrowed in
      record {
        truth = truth_of inner e;
        process = leaves (length env) (doing p.ports q inner);
        is = choice_left (length env) (doing p.ports q inner) (truth_of inner e);
        shows = λ value truth_is fit h carries.
            let x = shown p none conditions line e q site turns inner value h reached at_k literals truth_is
            fit
            (turn_carried o v start blocks h.memory there same holds carries) in
            record {
              after = x.0;
              leads = x.1;
              zero = x.2;
              kept = carried_stays p s turns env h.memory x.0.memory there x.3 carries;
            };
        behaves = λ truth_is label code code_is fit. record {
          behaves = λ at_row at to h lie inside_code begins.
              let sy = at_place y label site in
              let chosen_true : IsTrueIn y.entries inner = record {
                meets = narrowing_holds k.entries inner e types.Condition true known.meets right.holds.1.type_is truth_is;
                typed = types_stay.moving k.entries y.entries inner (sym narrowed) known.typed;
              } in
              let at_y = placed_alike p site y label inner inner at_k narrowed (omega (arith, chosen_low, long)) chosen_true
              in
              (pieces_left p.code (length env)
              (λ x m left. turn_left o v start blocks m h.memory x there same holds begins
              (left_alike p site y label turns inner x m narrowed left))
              (behaves.behaves (length y.entries) sy turns inner code
              (to_process (standing p) (Chosen line e q) k reached) sequential words at_y code_is fit)).behaves at_row at to h lie inside_code
              (carried_alike p site y label turns inner h.memory narrowed
              (turn_carried o v start blocks h.memory there same holds begins));
        };
        always = λ holds_always. true_holds inner e holds_always;
        skips = λ nothing.
            ap (leaves (length env)) (skips_leave p.ports inner q nothing)
            ∙ ap Leaves (all_but_one (length env) (record { name = name; held = One v }) env refl);
      }

  -- ---- turn by turn

  module _ (r : Replicator) (base : ℤ) (count : ℕ) where
    abbrev pub repeats : Repeats
    repeats = repeats_of true s.known.entries false r

    abbrev pub step : ℕ → Known → Known
    step n l = after_component p.around (Mark mark.If) (Chosen line e q) (with_entries (add name (index_in repeats n)) l)

    abbrev pub found : ℕ → Option Doing
    found n = turn_by_turn (λ n before. else_doing before
        (option_map (leaves (length env)) (doing_choice p.ports (Chosen line e q) (with_index name base n env)))) n None

    pub turns_mean : (n : ℕ) → n ≤ count → value_as s.known.entries types.Int r.base ≡ Some base
        → ((i : ℕ) → i < count → Reaches p.items (standing p) (AComponent (Chosen line e q))
        (with_entries (add name (index_in repeats i)) (turn_by_turn step i (begin s.known))))
        → ((i : ℕ) → i < count → is_word (base +ℤ pos i) ≡ true) → ProcessBehaves p q → IsSequential q
        → has_words e ≡ true → process_has_words q ≡ true → IsPlaced p s env
        → ChoicesMean p.code (FitsIn p) (with_home Nowhere s.frame) env (CarriedAt p s turns env) (Left p s turns env)
        (in_each_turn (λ i. placed (surroundings p) (Chosen line e q)
        (with_entries (add name (index_in repeats i)) (turn_by_turn step i (begin s.known)))) n) (found n)
        × (found n ≡ None → IsTrueIn (turn_by_turn step n (begin s.known)).entries env)
    turns_mean zero within base_is reach word behaves sequential literals words there = (refl, λ no. there.holds)
    turns_mean (suc n) within base_is reach word behaves sequential literals words there =
        let a = p.around in
        let c = Chosen line e q in
        let k = s.known in
        let es = add name (index_meaning false None) k.entries in
        let all = changed_by_component a.signatures es c in
        let m = turn_by_turn step n (begin k) in
        let h = turns_turned a all (Mark mark.If) c name repeats [] k.entries k n tt tt refl refl
        (component_stays a all (Mark mark.If) c tt es (covers_itself all)) in
        let before = turns_mean n (omega (arith, within)) base_is reach word behaves sequential literals words
        there in
        let v = base +ℤ pos n in
        let less : n < count = omega (arith, within) in
        let o = index_at repeats.turns.first n in
        let o_is : o ≡ Some v =
        (λ i. index_at (turns_from true (base_is i) (value_as k.entries types.Int r.count)).first n) ∙ ap (λ t. cond t (Some v) None) (word n less) in
        let blocks = record { start = h.start; ends = h.ends } ∷ k.blocks in
        let x = entered o h.start blocks in
        let inner = bind name (One v) env in
        let alike = within_shape all h.start k.entries h.starts in
        let y = after.chosen e x in
        let final = inside a q y in
        let here = subst (λ (z : Known). Reaches p.items (standing p) (AComponent c)
        (with_entries (add name (index_in repeats n)) z)) h.is (reach n less) in
        let rest_long = long_alike (excluded e x.entries h.start) h.start (shapes_stay.excluding x.entries h.start e) in
        let narrow_long = long_alike y.entries x.entries (shapes_stay.narrowing x.entries e true) in
        let start_long = long_alike h.start k.entries alike in
        let env_long = as_long env k.entries there.holds.meets in
        let stays = ranges_stay.processes a q y (omega (arith, rest_long, narrow_long)) in
        let fits = is_word_out v (word n less) in
        let choice = option_map (leaves (length env)) (doing_choice p.ports c (with_index name base n env)) in
        let known : found n ≡ None → IsTrueIn h.start env =
        λ no. subst (λ (z : Known). IsTrueIn z.entries env) h.is (before.1 no) in (
          (
            found n,
            choice,
            before.0,
            λ no. subst (λ (z : Known). ChoiceMeans p.code (FitsIn p) (with_home Nowhere s.frame) env
                (CarriedAt p s turns env) (Left p s turns env)
                (placed (surroundings p) c (with_entries (add name (index_in repeats n)) z)) choice) (sym h.is)
                (turn_means o v h.start blocks o_is fits here behaves sequential literals words there alike (omega arith)
                (omega (arith, rest_long)) (known no)),
            refl,
          ),
          λ no.
              let neither = else_none (found n) choice no in
              let start_true = known neither.0 in
              let right = places_hold p.items (standing p) (AComponent c) x none here in
              subst (λ (z : Known). IsTrueIn (step n z).entries env) (sym h.is)
              (subst (λ (z : Known). IsTrueIn z.entries env)
              (sym (chosen_next (changed_by a.signatures y.entries q) e h.start h.ends k.blocks x final refl stays))
              (excluded_true e x.entries h.start env inner
              (all_but_one (length h.start) (record { name = name; held = One v }) env
              (env_long ∙ sym start_long)) start_true (turn_true o v h.start o_is fits start_true).meets
              right.holds.1.type_is
              (chosen_none Fails (doing p.ports q inner) (truth_of inner e)
              (map_none (length env) (doing_choice p.ports c inner) neither.1)))),
        )
