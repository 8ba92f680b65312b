-- The choices of an IF, where they are reached.
use Rattle.std.proofs.Common.{◌≡◌, ℕ, ◌≤◌, true, false, List, ◌∷◌, length, Option, Some, None, inl, inr, refl, sym}
use Rattle.std.proofs.Common.{ap, subst, ◌∙◌, arith, ◌&&◌}
use Rattle.std.proofs.lemmas.Bool.{and_parts}
use Rattle.occam_layout.specs.declared.mark.Mark.TheVariants as mark
use Rattle.occam_parser.specs.Expressions.{Expression}
use Rattle.occam_parser.specs.Terminals.{Mark}
use Rattle.occam_parser.specs.Blocks.{Chosen, Components, Further, Guarded, NoComponent, Part, Plain, Process}
use Rattle.occam_parser.specs.Words.{components_have_words, has_words, process_has_words}
use Rattle.scalar_ranges.specs.Entries.{Entry}
use Rattle.scalar_ranges.specs.MoveLaws.{shape}
use Rattle.scalar_ranges.specs.Moves.{Block, Known, begin, ends_with, excluded, outermost}
use Rattle.scalar_ranges.proofs.MoveLaws.{shapes_stay}
use Rattle.scalar_ranges.proofs.Excluding.{excluding_holds}
use Rattle.scalar_ranges.proofs.Nesting.{long_alike}
use Rattle.program_uses.specs.Actions.{Around}
use Rattle.program_uses.specs.Changes.{changed_by}
use Rattle.program_meaning.specs.Sequential.{AreSequential, IsSequential}
use Rattle.program_meaning.proofs.MovesWithin.{within_shape}
use Rattle.usage_checks.specs.AfterProcesses.{after_component, after_components, chosen, inside}
use Rattle.usage_checks.specs.Outlines.{IsMadeOf}
use Rattle.usage_checks.specs.Reaching.{AComponent, Piece, Reaches, StandsAmong, to_process}
use Rattle.usage_checks.proofs.ChoicesGoWell.{chosen_next}
use Rattle.usage_checks.proofs.PlacesHold.{places_hold}
use Rattle.usage_checks.proofs.RangesStay.{all_outermost, ranges_stay}
use Rattle.usage_checks.proofs.TypedMoves.{typed_excluded, typed_narrow}
use Rattle.line_pieces.specs.Declarations.{facts_in}
use Rattle.line_pieces.specs.Homes.{facts_of}
use Rattle.code_generator.specs.Processes.{Site, at_place, placed, placed_choices}
use Rattle.certified_lines.specs.Scopes.{HoldsScope}
use Rattle.certified_lines.specs.TestLaws.{where_it}
use Rattle.certified_actions.proofs.Subscripts.{bound_found}
use Rattle.certified_modules.specs.Passing.{told_by}
use Rattle.certified_scopes.specs.Within.{indices_of}
use Rattle.certified_scopes.proofs.Indices.{indices_stay}
use Rattle.certified_scopes.proofs.ProcessesKeep.{indices_are_kept}
use Rattle.meant_processes.specs.Places.{standing, surroundings}
use Rattle.certified_processes.specs.Places.{Coded, IsInRoot, scene}
use Rattle.certified_processes.proofs.There.{IsThere}
use Rattle.certified_processes.specs.ProcessesPass.{PassesTo}
use Rattle.certified_processes.proofs.Allowed.{allowed}
use Rattle.certified_processes.proofs.Choices.{ChoiceGoes, ChoicesGo, sound_moved, sound_ordered}
use Rattle.certified_processes.proofs.There.{IsSound}
use Rattle.certified_processes.proofs.Conditions.{condition_shows}
use Rattle.certified_processes.proofs.LabelsRise.{process_rises}
use Rattle.certified_processes.proofs.Lines.{row_entries, row_tells}
use Rattle.certified_processes.proofs.Ordered.{excluded_ordered, narrow_ordered}
use Rattle.certified_processes.proofs.Placing.{placed_alike}
use Rattle.certified_processes.proofs.Sequences.{EachGoes, ProcessGoes}
use Rattle.certified_processes.proofs.Skips.{process_stays, true_narrows}

-- What is known where the next choice begins, behind one in a block that began with these names.
pub choice_after : (a : Around) (line : ℕ) (e : Expression) (q : Process) (es start : List Entry)
    (ends : Option (List Entry)) (blocks : List Block) → length start ≤ length es
    → (let k : Known = record { entries = es; blocks = record { start = start; ends = ends } ∷ blocks } in
    let rest = excluded e es start in
    after_component a (Mark mark.If) (Chosen line e q) k ≡ record {
      entries = rest;
      blocks = record {
        start = rest;
        ends = Some (ends_with ends (outermost (length rest) (inside a q (chosen e k)).entries));
      } ∷ blocks;
    })
choice_after a line e q es start ends blocks few =
    let k : Known = record { entries = es; blocks = record { start = start; ends = ends } ∷ blocks } in
    let y = chosen e k in
    let rest_long = long_alike (excluded e es start) start (shapes_stay.excluding es start e) in
    let y_long = long_alike y.entries es (shapes_stay.narrowing es e true) in
    chosen_next (changed_by a.signatures y.entries q) e start ends blocks k (inside a q y) refl
    (ranges_stay.processes a q y (omega (arith, few, rest_long, y_long)))

module _ (p : Coded) (root : IsInRoot p) (s : Site) (placed_there : IsThere p s) where
  -- rows say what the names of the site know
  pub rows_here : (es : List Entry) → length es ≡ length s.known.entries → facts_in s.frame es ≡ facts_of
      s.frame.homes es
  rows_here es long = row_entries p s es placed_there

  -- A choice that is reached, in a block that began at the site.
  pub choice_goes : (line : ℕ) (e : Expression) (q : Process) (start : List Entry) (ends : Option (List Entry))
      → IsSound p s start
      → Reaches p.program.items (standing p.program) (AComponent (Chosen line e q))
      (record { entries = start; blocks = record { start = start; ends = ends } ∷ s.known.blocks })
      → ProcessGoes p q → IsSequential q → has_words e ≡ true → process_has_words q ≡ true
      → ChoiceGoes p s placed_there s.frame rows_here
      (placed (surroundings p.program) (Chosen line e q)
      (record { entries = start; blocks = record { start = start; ends = ends } ∷ s.known.blocks })) start
      (excluded e start start)
      (outermost (length (excluded e start start)) (inside p.program.around q
      (chosen e (record { entries = start; blocks = record { start = start; ends = ends } ∷ s.known.blocks }))).entries)
  choice_goes line e q start ends sound reached goes sequential literals words =
      let a = p.program.around in
      let x : Known = record { entries = start; blocks = record { start = start; ends = ends } ∷ s.known.blocks } in
      let y = chosen e x in
      let rest = excluded e start start in
      let final = inside a q y in
      let narrowed = shapes_stay.narrowing start e true in
      let rest_long = long_alike rest start (shapes_stay.excluding start start e) in
      let y_long = long_alike y.entries start narrowed in
      let start_long = long_alike start s.known.entries sound.alike in
      let low : length rest ≤ length y.entries = omega (arith, rest_long, y_long) in
      let right = places_hold p.program.items (standing p.program) (AComponent (Chosen line e q)) x root.unbroken
      reached in
      let ordered = sound_ordered p s start sound in
      let inner = sound_moved p s y.entries placed_there (narrowed ∙ sound.alike)
      (indices_stay.narrowing start e true ∙ sound.indices) (typed_narrow start e true sound.typed)
      (narrow_ordered start e true ordered) in
      let at_x = placed_alike p s x s.label placed_there (omega arith) (omega arith) sound in
      let stays = ranges_stay.processes a q y low in
      let same_end : outermost (length rest) final.entries ≡ outermost (length y.entries) final.entries =
      ap (λ (n : ℕ). outermost n final.entries) (omega (arith, rest_long, y_long)) in
      record {
        next_is = ap (λ (k : Known). k.entries)
            (choice_after a line e q start start ends s.known.blocks (omega arith));
        sound = sound_moved p s rest placed_there (shapes_stay.excluding start start e ∙ sound.alike)
            (indices_stay.excluding start start e
            (ap shape (sym (all_outermost (length start) start refl))) ∙ sound.indices)
            (typed_excluded start start e sound.typed) (excluded_ordered e start start ordered);
        tests = λ fit before holds.
            let fit_e = right.holds.1 in
            let b = bound_found _ right.holds.0 fit_e.range_is in
            let t = condition_shows (scene p s) at_x.settled.end s.frame.top at_x.settled.under
            placed_there.free start at_x.settled.scope
            before holds e
            b.0 sound.settled.end sound.settled.turn sound.settled.loops literals fit_e.type_is b.1
            (allowed p root s.frame.homes _ fit) in
            record {
              shows = t;
              so = t.holds true;
              not_so = subst (λ (es : List Entry). HoldsScope (scene p s) es (where_it false t.after))
                  (sym (excluding_holds.here start e))
                  (t.holds false);
            };
        takes = λ label code further is fit opened before enters.
            let run = goes.passes (length y.entries) (at_place y label s) opened before code
            (to_process (standing p.program) (Chosen line e q) x reached) sequential words
            (placed_alike p s y label placed_there further low inner) is fit enters in
            subst (λ (es : List Entry). PassesTo p s.frame es opened code.pieces before) (sym same_end) run;
        rises = λ label. process_rises p root q (at_place y label s);
        begins = (told_by p.passage (facts_in s.frame y.entries), row_tells p s y.entries placed_there inner.settled);
        always = λ is t holds.
            subst (λ (es : List Entry). HoldsScope (scene p s) es t.frame) (sym (true_narrows start e is)) holds;
        alike = ap (λ (es : List Entry). shape es) same_end ∙ within_shape _ _ y.entries stays.within ∙ inner.alike;
        indices = ap (λ (es : List Entry). indices_of es) same_end
            ∙ indices_are_kept.processes a q y sequential low ∙ inner.indices;
        skips = λ skips is.
            same_end
            ∙ ap (λ (k : Known). outermost (length y.entries) k.entries) (process_stays a q y skips low)
            ∙ all_outermost (length y.entries) y.entries refl ∙ true_narrows start e is;
      }

  -- where the next choice begins
  pub record AtNext (x : Known) (last : List Entry) (ends : Option (List Entry)) : Type 0 where
    pub is : x ≡ record { entries = last; blocks = record { start = last; ends = ends } ∷ s.known.blocks }
    pub sound : IsSound p s last

  -- The choices of an IF that is reached go on, each from where the one before it does not hold.
  pub choices_go : {part : Part} (cs : Components part)
      → ((piece : Piece) (m : Known) → StandsAmong p.program.around (Mark mark.If) cs (begin s.known) piece m
      → Reaches p.program.items (standing p.program) piece m)
      → EachGoes p cs → IsMadeOf (Mark mark.If) part → AreSequential (Mark mark.If) cs
      → components_have_words cs ≡ true → IsSound p s s.known.entries
      → (last : List Entry) × (ends : Option (List Entry))
      × AtNext (after_components p.program.around (Mark mark.If) cs (begin s.known)) last ends
      × ChoicesGo p s placed_there s.frame rows_here s.known.entries
      (placed_choices (surroundings p.program) cs (begin s.known)) last ends
  choices_go NoComponent reach each made sequential words sound =
      (s.known.entries, None, record { is = refl; sound = sound }, (refl, refl))
  choices_go (Further cs (Chosen line e q)) reach each made sequential words sound =
      let a = p.program.around in
      let c = Chosen line e q in
      let m = after_components a (Mark mark.If) cs (begin s.known) in
      let all = and_parts (components_have_words cs) (has_words e && process_has_words q) words in
      let both = and_parts (has_words e) (process_has_words q) all.1 in
      let h = choices_go cs (λ piece z among. reach piece z (inr among)) each.0 made sequential.0 all.0 sound in
      let start = h.0 in
      let ends = h.1 in
      let x : Known = record { entries = start; blocks = record { start = start; ends = ends } ∷ s.known.blocks } in
      let reached = subst (Reaches p.program.items (standing p.program) (AComponent c)) h.2.is
      (reach (AComponent c) m (inl (refl, refl))) in
      let go = choice_goes line e q start ends h.2.sound reached each.1 sequential.1 both.0 both.1 in
      let rest = excluded e start start in
      let ending = outermost (length rest) (inside a q (chosen e x)).entries in (
        rest,
        Some (ends_with ends ending),
        record {
          is = ap (λ (z : Known). after_component a (Mark mark.If) c z) h.2.is
              ∙ choice_after a line e q start start ends s.known.blocks (omega arith);
          sound = go.sound;
        },
        (
          start,
          ends,
          ending,
          h.3,
          subst (λ (z : Known). ChoiceGoes p s placed_there s.frame rows_here (placed (surroundings p.program) c z)
              start
              rest ending) (sym h.2.is) go,
          refl,
        ),
      )
  choices_go (Further cs (Plain q)) reach each made sequential words sound = absurd sequential.1
  choices_go (Further cs (Guarded line g q)) reach each made sequential words sound = absurd sequential.1
