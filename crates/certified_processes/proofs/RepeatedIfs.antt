-- A replicated IF: its choice in each turn.
use Rattle.std.proofs.Common.{◌≡◌, ℕ, zero, suc, ◌<◌, ◌≤◌, ℤ, pos, ◌+ℤ◌, FitsSigned, Bool, true, false, List, []}
use Rattle.std.proofs.Common.{◌∷◌, ◌++◌, length, Option, Some, None, refl, sym, ap, subst, ◌∙◌, arith, cond, bytes_eq}
use Rattle.std.specs.Int.{w32}
use Rattle.word_arithmetic.specs.Range.{Ends}
use Rattle.word_arithmetic.specs.Word.{is_word}
use Rattle.word_arithmetic.proofs.WordLaws.{is_word_out}
use Rattle.occam_layout.specs.declared.mark.Mark.TheVariants as mark
use Rattle.occam_parser.specs.declared.tree.ValueType.TheVariants as value_type
use Rattle.occam_parser.specs.Expressions.{Expression}
use Rattle.occam_parser.specs.Terminals.{Mark}
use Rattle.occam_parser.specs.Lines.{Replicator}
use Rattle.occam_parser.specs.Blocks.{Chosen, Process}
use Rattle.occam_parser.specs.Words.{has_words, process_has_words}
use Rattle.scalar_ranges.specs.declared.types.ExprType.TheVariants as types
use Rattle.scalar_ranges.specs.Entries.{Constant, Entry, meaning_in, number_in}
use Rattle.scalar_ranges.specs.MoveLaws.{shape}
use Rattle.scalar_ranges.specs.Moves.{Known, begin, ends_with, excluded, excluded_at, excluded_by, outermost}
use Rattle.scalar_ranges.specs.Narrowing.{Tested, by_test, changed, is_narrowed, left_of, narrow, opposite, test_of}
use Rattle.scalar_ranges.proofs.MoveLaws.{changed_shape, shapes_stay}
use Rattle.scalar_ranges.proofs.Named.{changed_at, unchanged}
use Rattle.scalar_ranges.proofs.Nesting.{long_alike, outermost_twice}
use Rattle.program_uses.specs.Constants.{value_as}
use Rattle.program_uses.specs.Declaring.{add}
use Rattle.program_uses.specs.Indices.{Repeats, index_at, index_in, repeats_of, turn_by_turn, turns_from}
use Rattle.program_meaning.specs.Sequential.{IsSequential}
use Rattle.program_meaning.proofs.MovesWithin.{within_shape}
use Rattle.usage_checks.specs.AfterProcesses.{after_component, chosen, inside}
use Rattle.usage_checks.specs.NameRules.{with_entries}
use Rattle.usage_checks.specs.Reaching.{AComponent, Reaches, to_process}
use Rattle.usage_checks.specs.TypedRanges.{AreInTypes}
use Rattle.usage_checks.proofs.PlacesHold.{places_hold}
use Rattle.usage_checks.proofs.RangesStay.{all_but_one, ranges_stay}
use Rattle.usage_checks.proofs.RangesTyped.{ranges_are_typed}
use Rattle.usage_checks.proofs.TypedMoves.{typed_excluded, typed_left, typed_narrow}
use Rattle.code_pieces.specs.declared.piece.RowEntry.{RowEntry}
use Rattle.line_pieces.specs.Declarations.{Frame, facts_in, with_home}
use Rattle.line_pieces.specs.Homes.{Nowhere, facts_of}
use Rattle.code_generator.specs.Processes.{Site, in_each_turn, placed}
use Rattle.certified_lines.specs.Scopes.{HoldsScope, IsHoused}
use Rattle.certified_lines.specs.StraightRules.{Told}
use Rattle.certified_lines.specs.TestLaws.{where_it}
use Rattle.certified_actions.proofs.Subscripts.{bound_found}
use Rattle.certified_modules.specs.Passing.{told_by}
use Rattle.certified_scopes.specs.Settled.{AreOrdered, IsSettled}
use Rattle.certified_scopes.specs.Within.{indices_of}
use Rattle.certified_scopes.proofs.Indices.{indices_stay}
use Rattle.certified_scopes.proofs.Kept.{left_scopes_are_held, new_names_are_held}
use Rattle.certified_scopes.proofs.ProcessesKeep.{indices_are_kept}
use Rattle.certified_scopes.proofs.Settled.{moved_scopes_are_settled, wordless_names_are_settled}
use Rattle.meant_processes.specs.Places.{standing, surroundings}
use Rattle.certified_processes.specs.Places.{Coded, IsInRoot, bare_scene, scene}
use Rattle.certified_processes.proofs.There.{IsThere, free_from}
use Rattle.certified_processes.proofs.Allowed.{allowed}
use Rattle.certified_processes.proofs.Choices.{ChoiceGoes, ChoicesGo, sound_moved, sound_ordered}
use Rattle.certified_processes.proofs.There.{IsSound}
use Rattle.certified_processes.proofs.Conditions.{condition_shows, test_scalar}
use Rattle.certified_processes.proofs.Ifs.{AtNext, choice_after}
use Rattle.certified_processes.proofs.LabelsRise.{process_rises}
use Rattle.certified_processes.proofs.Lines.{row_tells}
use Rattle.certified_processes.proofs.LoopRows.{facts_more}
use Rattle.certified_processes.proofs.Ordered.{excluded_ordered, left_ordered, narrow_ordered, scope_ordered}
use Rattle.certified_processes.proofs.Placing.{placed_alike, placed_more}
use Rattle.certified_processes.proofs.Sequences.{ProcessGoes}
use Rattle.certified_processes.proofs.Skips.{process_stays, true_narrows}

-- ---- what is excluded of the names around an index

module _ (name : List ℕ) (o : Option ℤ) (start : List Entry) where
  abbrev inner : List Entry
  inner = add name (Constant value_type.Int o) start

  excluded_numbered : (t : Tested) (n : Option ℕ) → number_in t.name start ≡ n
      → excluded_at n t start ≡ changed (left_of (opposite t.comparison) t.constant) t.name start
  excluded_numbered t None number = sym (unchanged (left_of (opposite t.comparison) t.constant) t.name start number)
  excluded_numbered t (Some n) number =
      sym (changed_at (left_of (opposite t.comparison) t.constant) t.name n start number)

  -- the index is no scalar that is tested
  excluded_named : (t : Tested) (same : Bool)
      → is_narrowed (cond same (Some (Constant value_type.Int o)) (meaning_in t.name start)) ≡ true
      → excluded_at (cond same (Some (length start)) (number_in t.name start)) t start
      ≡ outermost (length start)
      (cond same (record { name = name; meaning = Constant value_type.Int o } ∷ start)
      (record { name = name; meaning = Constant value_type.Int o }
      ∷ changed (left_of (opposite t.comparison) t.constant) t.name start))
  excluded_named t true is = absurd (cc is)
  excluded_named t false is =
      let f : Ends → Ends = left_of (opposite t.comparison) t.constant in
      excluded_numbered t (number_in t.name start) refl
      ∙ sym (all_but_one (length start) (record { name = name; meaning = Constant value_type.Int o })
      (changed f t.name start)
      (long_alike (changed f t.name start) start (changed_shape f t.name start)))

  excluded_tested : (e : Expression) (t : Option Tested) → test_of inner e ≡ t
      → excluded_by t inner start ≡ outermost (length start) (by_test inner false t)
  excluded_tested e None is =
      sym (all_but_one (length start) (record { name = name; meaning = Constant value_type.Int o }) start refl)
  excluded_tested e (Some t) is = excluded_named t (bytes_eq name t.name) (test_scalar inner e t is)

  -- Where a condition does not hold, the names around the index are those of the scope that it narrows.
  pub excluded_outer : (e : Expression) → excluded e inner start ≡ outermost (length start) (narrow inner e false)
  excluded_outer e = excluded_tested e (test_of inner e) refl

module _ (p : Coded) (root : IsInRoot p) (s : Site) (placed_there : IsThere p s) where
  abbrev pub turn_frame : Frame
  turn_frame = with_home Nowhere s.frame

  -- rows in turns say what the names of the site know
  pub rows_inside : (es : List Entry) → length es ≡ length s.known.entries
      → facts_in turn_frame es ≡ facts_of s.frame.homes es
  rows_inside es long =
      let homes = placed_there.settled.long in
      ap (λ (fs : List RowEntry). fs ++ facts_of (s.frame.homes ++ Nowhere ∷ []) es) placed_there.outer
      ∙ facts_more s.frame.homes (Nowhere ∷ []) es (omega (arith, homes, long))

  module _ (line : ℕ) (e : Expression) (q : Process) (name : List ℕ) where
    -- a place in a turn: the index has no word
    abbrev pub in_turn : Known → ℕ → Site
    in_turn k label = record { frame = turn_frame; known = k; label = label }

    abbrev pub entered : Option ℤ → List Entry → Option (List Entry) → Known
    entered o start ends = record {
      entries = add name (Constant value_type.Int o) start;
      blocks = record { start = start; ends = ends } ∷ s.known.blocks;
    }

    turn_placed : (o : Option ℤ) (v : ℤ) (start : List Entry) (ends : Option (List Entry)) → o ≡ Some v
        → FitsSigned w32 v → IsSound p s start → IsThere p (in_turn (entered o start ends) s.label)
    turn_placed o v start ends is fits sound =
        placed_more p s (in_turn (entered o start ends) s.label) Nowhere
        (record { name = name; meaning = Constant value_type.Int o }) start placed_there (omega arith) tt refl refl refl
        sound.alike tt tt tt (omega arith) placed_there.free placed_there.end placed_there.room placed_there.under
        (wordless_names_are_settled (bare_scene p) (free_from placed_there.end s.frame) start name
        (Constant value_type.Int o) Nowhere tt housed inner)
        (wordless_names_are_settled (bare_scene p) s.frame start name (Constant value_type.Int o) Nowhere tt housed
        sound.settled)
      where
        housed : (top : ℕ) → IsHoused (bare_scene p) top Nowhere (Constant value_type.Int o)
        housed top =
            subst (λ (x : Option ℤ). IsHoused (bare_scene p) top Nowhere (Constant value_type.Int x)) (sym is) fits

        inner : IsSettled (bare_scene p) (free_from placed_there.end s.frame) start
        inner =
            moved_scopes_are_settled (bare_scene p) (free_from placed_there.end s.frame) start
            s.known.entries sound.alike
            sound.indices sound.typed (sound_ordered p s start sound) placed_there.inner

    -- The choice in a turn goes on.
    pub turn_goes : (o : Option ℤ) (v : ℤ) (start : List Entry) (ends : Option (List Entry)) → o ≡ Some v
        → FitsSigned w32 v → IsSound p s start
        → Reaches p.program.items (standing p.program) (AComponent (Chosen line e q)) (entered o start ends)
        → ProcessGoes p q → IsSequential q → has_words e ≡ true → process_has_words q ≡ true
        → ChoiceGoes p s placed_there turn_frame rows_inside
        (placed (surroundings p.program) (Chosen line e q) (entered o start ends)) start
        (excluded e (entered o start ends).entries start)
        (outermost (length (excluded e (entered o start ends).entries start))
        (inside p.program.around q (chosen e (entered o start ends))).entries)
    turn_goes o v start ends is fits sound reached goes sequential literals words =
        let a = p.program.around in
        let k = entered o start ends in
        let site = in_turn k s.label in
        let at_k = turn_placed o v start ends is fits sound in
        let y = chosen e k in
        let rest = excluded e k.entries start in
        let final = inside a q y in
        let narrowed = shapes_stay.narrowing k.entries e true in
        let rest_long = long_alike rest start (shapes_stay.excluding k.entries start e) in
        let y_long = long_alike y.entries k.entries narrowed in
        let start_long = long_alike start s.known.entries sound.alike in
        let homes_long = placed_there.settled.long in
        let low : length rest ≤ length y.entries = omega (arith, rest_long, y_long) in
        let right = places_hold p.program.items (standing p.program) (AComponent (Chosen line e q)) k root.unbroken
        reached
        in
        let typed = ranges_are_typed p.program.items (standing p.program) (AComponent (Chosen line e q)) k root.unbroken
        root.literals reached in
        let ordered = sound_ordered p s start sound in
        let narrow_sound = sound_moved p site y.entries at_k narrowed (indices_stay.narrowing k.entries e true)
        (typed_narrow k.entries e true typed) (narrow_ordered k.entries e true (tt, ordered)) in
        let stays = ranges_stay.processes a q y low in
        let ended = outermost (length y.entries) final.entries in
        let twice : outermost (length rest) ended ≡ outermost (length rest) final.entries =
        outermost_twice (length rest) (length y.entries) final.entries low in
        let cut : outermost (length rest) k.entries ≡ start =
        all_but_one (length rest) (record { name = name; meaning = Constant value_type.Int o }) start (sym rest_long) in
        let alike : shape (outermost (length rest) final.entries) ≡ shape s.known.entries =
        ap (λ (es : List Entry). shape es) (sym twice)
        ∙ shapes_stay.leaving ended y.entries (length rest) (within_shape _ ended y.entries stays.within)
        ∙ shapes_stay.leaving y.entries k.entries (length rest) narrowed
        ∙ ap (λ (es : List Entry). shape es) cut ∙ sound.alike in
        let indices : indices_of (outermost (length rest) final.entries) ≡ indices_of s.known.entries =
        ap (λ (es : List Entry). indices_of es) (sym twice)
        ∙ indices_stay.leaving (length rest) ended y.entries (indices_are_kept.processes a q y sequential low)
        ∙ indices_stay.leaving (length rest) y.entries k.entries (indices_stay.narrowing k.entries e true)
        ∙ ap (λ (es : List Entry). indices_of es) cut ∙ sound.indices in
        let opens : (t : Told) → HoldsScope (scene p s) start t.frame → HoldsScope (scene p site) k.entries t.frame =
        λ t holds. new_names_are_held (scene p s) start name (Constant value_type.Int o) Nowhere t.frame
        (homes_long ∙ sym start_long) tt holds in
        let homes_rest : length s.frame.homes ≡ length rest = homes_long ∙ sym start_long ∙ sym rest_long in
        record {
          next_is = ap (λ (z : Known). z.entries)
              (choice_after a line e q k.entries start ends s.known.blocks (omega arith));
          sound = sound_moved p s rest placed_there (shapes_stay.excluding k.entries start e ∙ sound.alike)
              (indices_stay.excluding k.entries start e
              (ap shape (sym (all_but_one (length start) (record { name = name; meaning = Constant value_type.Int o })
              start
              refl))) ∙ sound.indices)
              (typed_excluded k.entries start e sound.typed) (excluded_ordered e k.entries start ordered);
          tests = λ fit before holds.
              let fit_e = right.holds.1 in
              let b = bound_found _ right.holds.0 fit_e.range_is in
              let t = condition_shows (scene p site) at_k.settled.end s.frame.top at_k.settled.under at_k.free k.entries
              at_k.settled.scope before
              (opens before holds) e b.0 at_k.settled.end at_k.settled.turn at_k.settled.loops literals fit_e.type_is
              b.1
              (allowed p root turn_frame.homes _ fit) in
              record {
                shows = t;
                so = t.holds true;
                not_so = subst (λ (es : List Entry). HoldsScope (scene p s) es (where_it false t.after))
                    (ap (λ (n : ℕ). outermost n (narrow k.entries e false)) (homes_long ∙ sym start_long)
                    ∙ sym (excluded_outer name o start e))
                    (left_scopes_are_held (scene p s) (Nowhere ∷ []) (narrow k.entries e false) (where_it false t.after)
                    (t.holds false));
              };
          takes = λ label code further code_is fit opened before enters.
              let run = goes.passes (length y.entries) (in_turn y label) opened before code
              (to_process (standing p.program) (Chosen line e q) k reached) sequential words
              (placed_alike p site y label at_k further low narrow_sound) code_is fit
              enters in
              let ending = sound_moved p s (outermost (length rest) final.entries) placed_there alike indices
              (subst AreInTypes twice (typed_left (length rest) ended run.typed))
              (subst AreOrdered twice
              (left_ordered (length rest) ended
              (scope_ordered (scene p site) run.settled.end ended run.settled.scope))) in
              record {
                after = run.after;
                passes = run.passes;
                holds = subst (λ (es : List Entry). HoldsScope (scene p s) es run.after.frame)
                    (ap (λ (n : ℕ). outermost n ended) homes_rest ∙ twice)
                    (left_scopes_are_held (scene p s) (Nowhere ∷ []) ended run.after.frame run.holds);
                settled = ending.settled;
                typed = ending.typed;
              };
          rises = λ label. process_rises p root q (in_turn y label);
          begins = (
            told_by p.passage (facts_in turn_frame y.entries),
            row_tells p site y.entries at_k
                narrow_sound.settled,
          );
          always = λ holds_always t holds.
              subst (λ (es : List Entry). HoldsScope (scene p site) es t.frame)
              (sym (true_narrows k.entries e holds_always)) (opens t holds);
          alike = alike;
          indices = indices;
          skips = λ nothing holds_always.
              ap (λ (z : Known). outermost (length rest) z.entries) (process_stays a q y nothing low)
              ∙ ap (outermost (length rest)) (true_narrows k.entries e holds_always) ∙ cut;
        }

    -- ---- turn by turn

    module _ (r : Replicator) (base : ℤ) (count : ℕ) where
      abbrev pub repeats : Repeats
      repeats = repeats_of true s.known.entries false r

      abbrev pub step : ℕ → Known → Known
      step n l =
          after_component p.program.around (Mark mark.If) (Chosen line e q)
          (with_entries (add name (index_in repeats n)) l)

      -- So it does turn by turn.
      pub turns_go : (n : ℕ) → n ≤ count → value_as s.known.entries types.Int r.base ≡ Some base
          → ((i : ℕ) → i < count → Reaches p.program.items (standing p.program) (AComponent (Chosen line e q))
          (with_entries (add name (index_in repeats i)) (turn_by_turn step i (begin s.known))))
          → ((i : ℕ) → i < count → is_word (base +ℤ pos i) ≡ true) → ProcessGoes p q → IsSequential q
          → has_words e ≡ true → process_has_words q ≡ true → IsSound p s s.known.entries
          → (last : List Entry) × (ends : Option (List Entry))
          × AtNext p root s placed_there (turn_by_turn step n (begin s.known)) last ends
          × ChoicesGo p s placed_there turn_frame rows_inside s.known.entries
          (in_each_turn (λ i. placed (surroundings p.program) (Chosen line e q)
          (with_entries (add name (index_in repeats i)) (turn_by_turn step i (begin s.known)))) n) last ends
      turns_go zero within base_is reach word goes sequential literals words sound =
          (s.known.entries, None, record { is = refl; sound = sound }, (refl, refl))
      turns_go (suc n) within base_is reach word goes sequential literals words sound =
          let a = p.program.around in
          let c = Chosen line e q in
          let m = turn_by_turn step n (begin s.known) in
          let h = turns_go n (omega (arith, within)) base_is reach word goes sequential literals words sound in
          let start = h.0 in
          let ends = h.1 in
          let v = base +ℤ pos n in
          let less : n < count = omega (arith, within) in
          let o = index_at repeats.turns.first n in
          let o_is : o ≡ Some v =
          (λ i. index_at (turns_from true (base_is i) (value_as s.known.entries types.Int r.count)).first n)
          ∙ ap (λ t. cond t (Some v) None) (word n less) in
          let x = entered o start ends in
          let reached = subst (λ (z : Known). Reaches p.program.items (standing p.program) (AComponent c)
          (with_entries (add name (index_in repeats n)) z)) h.2.is (reach n less) in
          let go = turn_goes o v start ends o_is (is_word_out v (word n less)) h.2.sound reached goes sequential
          literals
          words in
          let rest = excluded e x.entries start in
          let ending = outermost (length rest) (inside a q (chosen e x)).entries in (
            rest,
            Some (ends_with ends ending),
            record {
              is = ap (step n) h.2.is ∙ choice_after a line e q x.entries start ends s.known.blocks (omega arith);
              sound = go.sound;
            },
            (
              start,
              ends,
              ending,
              h.3,
              subst (λ (z : Known). ChoiceGoes p s placed_there turn_frame rows_inside
                  (placed (surroundings p.program) c (with_entries (add name (index_in repeats n)) z)) start rest
                  ending)
                  (sym h.2.is) go,
              refl,
            ),
          )
