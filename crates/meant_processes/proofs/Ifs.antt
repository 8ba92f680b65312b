-- The choices of an IF, where they are reached.
use Rattle.std.proofs.Common.{◌≡◌, ℕ, ◌≤◌, ◌==◌, ℤ, pos, Bool, true, false, List, [], ◌∷◌, ◌++◌, length}
use Rattle.std.proofs.Common.{Option, Some, None, inl, inr, refl, sym, ap, subst, ◌∙◌, arith, FitsSigned}
use Rattle.std.specs.Prelude.{not, ◌&&◌, ◌+ℤ◌}
use Rattle.std.specs.Int.{w32}
use Rattle.std.proofs.lemmas.Bool.{and_parts}
use Rattle.std.proofs.lemmas.Int.{ints}
use Rattle.word_arithmetic.specs.Word.{checked, truth}
use Rattle.word_arithmetic.proofs.WordLaws.{checked_fits}
use Rattle.machine_state.specs.LocalStep.{address}
use Rattle.machine_state.specs.Memory.{Memory}
use Rattle.occam_layout.specs.declared.mark.Mark.TheVariants as mark
use Rattle.occam_parser.specs.Expressions.{Expression}
use Rattle.occam_parser.specs.Terminals.{Mark}
use Rattle.occam_parser.specs.Blocks.{Chosen, Components, Further, Guarded, NoComponent, Part, Plain, Process}
use Rattle.occam_parser.specs.Words.{components_have_words, has_words, process_has_words}
use Rattle.scalar_ranges.specs.declared.types.ExprType.TheVariants as types
use Rattle.scalar_ranges.specs.Environments.{Environment}
use Rattle.scalar_ranges.specs.MoveLaws.{shape}
use Rattle.scalar_ranges.specs.Moves.{Known, begin, begun_with, excluded, next}
use Rattle.scalar_ranges.specs.Narrowing.{Tested, test_of}
use Rattle.scalar_ranges.specs.Values.{truth_of}
use Rattle.scalar_ranges.proofs.MoveLaws.{as_long, shapes_stay}
use Rattle.scalar_ranges.proofs.NarrowingLaws.{narrowing_holds}
use Rattle.scalar_ranges.proofs.Nesting.{long_alike}
use Rattle.program_uses.specs.Changes.{changed_by, changed_by_components}
use Rattle.program_meaning.specs.Doing.{Doing, Fails, chosen, doing, doing_choice, doing_first, else_doing}
use Rattle.program_meaning.specs.GoingWell.{IsTrueIn}
use Rattle.program_meaning.specs.Sequential.{AreSequential, IsSequential}
use Rattle.program_meaning.proofs.MovesWithin.{within_shape}
use Rattle.program_meaning.proofs.TypesStay.{types_stay}
use Rattle.usage_checks.specs.AfterProcesses as after
use Rattle.usage_checks.specs.AfterProcesses.{after_components, inside}
use Rattle.usage_checks.specs.ItemRules.{BreaksNoRule}
use Rattle.usage_checks.specs.Outlines.{IsMadeOf}
use Rattle.usage_checks.specs.Reaching.{AComponent, Piece, Reaches, StandsAmong, to_process}
use Rattle.usage_checks.proofs.ChoicesGoWell.{chosen_next, excluded_true}
use Rattle.usage_checks.proofs.PlacesHold.{places_hold}
use Rattle.usage_checks.proofs.RangesStay.{all_outermost, components_stay, covers_itself, ranges_stay}
use Rattle.code_pieces.specs.Pieces.{Piece as CodePiece}
use Rattle.line_pieces.specs.Actions.{forgets, may_show}
use Rattle.line_pieces.specs.Expressions.{expression_code}
use Rattle.code_generator.specs.Processes.{Site, at_place, placed, placed_choices}
use Rattle.placed_code.specs.StraightPieces as straight
use Rattle.placed_code.specs.StraightPieces.{Footing, Held, LeadOn}
use Rattle.placed_code.proofs.StraightPieces.{lead_both}
use Rattle.meant_lines.specs.Instructions.{with_a}
use Rattle.meant_lines.specs.Words.{ChangesWithin}
use Rattle.meant_lines.proofs.Carrying.{outer_words_stay}
use Rattle.meant_lines.proofs.Instructions.{constants_are_added}
use Rattle.meant_processes.specs.Places.{AllFit, CarriedAt, FitsIn, IsPlaced, Program, ground, standing, surroundings}
use Rattle.meant_processes.specs.Premises.{ConditionsPush}
use Rattle.meant_processes.proofs.Behaving.{pieces_as}
use Rattle.meant_processes.proofs.Choices.{ChoiceMeans, ChoicesMean}
use Rattle.meant_processes.proofs.Placing.{Left, carried_alike, left_alike, placed_alike}
use Rattle.meant_processes.proofs.Sequences.{EachBehaves, ProcessBehaves}
use Rattle.meant_processes.proofs.Skips.{skips_leave, true_holds}

-- ---- a condition

truth_word : (holds : Bool) → FitsSigned w32 (truth holds)
truth_word true = omega (arith, ints)
truth_word false = omega (arith, ints)

zero_unless : (holds : Bool) → (address (truth holds) == 0) ≡ not holds
zero_unless true = let one : address (pos 1) ≡ 1 = omega (arith, ints) in ap (λ n. n == 0) one
zero_unless false = let none : address (pos 0) ≡ 0 = omega (arith, ints) in ap (λ n. n == 0) none

-- `adc 0` changes nothing but what the machine knows
record Forgotten (w : Footing) (ps : List CodePiece) (before : Held) : Type 0 where
  after : Held
  leads : LeadOn w ps before after
  a : after.stack.a ≡ before.stack.a
  memory : after.memory ≡ before.memory

nothing_forgotten : (w : Footing) (h : Held) → Forgotten w [] h
nothing_forgotten w h = record { after = h; leads = straight.done; a = refl; memory = refl }

forgotten : (w : Footing) (shows : Bool) (test : Option Tested) (h : Held) → FitsSigned w32 h.stack.a
    → Forgotten w (forgets shows test) h
forgotten w true None h fits =
    let same : h.stack.a +ℤ pos 0 ≡ h.stack.a = omega (arith, ints) in
    record {
      after = with_a h.stack.a h;
      leads = constants_are_added w (pos 0) h.stack.a h (ap checked same ∙ checked_fits h.stack.a fits);
      a = refl;
      memory = refl;
    }
forgotten w true (Some t) h fits = nothing_forgotten w h
forgotten w false test h fits = nothing_forgotten w h

-- ---- a choice

pub chosen_none : {A : Type 0} (x y : A) (t : Option Bool) → chosen x y t ≡ None → t ≡ Some false
chosen_none x y None is = absurd (cc is)
chosen_none x y (Some true) is = absurd (cc is)
chosen_none x y (Some false) is = refl

pub else_none : (x y : Option Doing) → else_doing x y ≡ None → (x ≡ None) × (y ≡ None)
else_none None y is = (refl, is)
else_none (Some t) y is = absurd (cc is)

-- while words from the first one on change that is free
pub carried_stays : (p : Program) (s : Site) (turns : ℕ → ℤ) (env : Environment) (old new : Memory) → IsPlaced p s env
    → ChangesWithin s.frame.top p.words old new → CarriedAt p s turns env old → CarriedAt p s turns env new
carried_stays p s turns env old new there changes x = record {
  carries = outer_words_stay (ground p s.frame.homes turns) s.frame.top s.frame.top p.words s.known.entries env old new
      there.holds.meets (omega arith) (omega arith) changes x.carries;
}

module _ (p : Program) (none : BreaksNoRule p.items) (conditions : ConditionsPush p) where
  -- the code of a condition leads to its truth, wherever it is reached
  pub shown : (line : ℕ) (e : Expression) (q : Process) (s : Site) (turns : ℕ → ℤ)
      (env : Environment) (holds : Bool) (h : Held)
      → Reaches p.items (standing p) (AComponent (Chosen line e q)) s.known → IsPlaced p s env
      → has_words e ≡ true → truth_of env e ≡ Some holds
      → AllFit p (expression_code s.frame.homes s.known.entries s.frame.top e) → CarriedAt p s turns env h.memory
      → (after : Held) × LeadOn p.code.footing (expression_code s.frame.homes s.known.entries s.frame.top e
      ++ forgets (may_show s.known.entries e) (test_of s.known.entries e)) h after
      × ((address after.stack.a == 0) ≡ not holds) × ChangesWithin s.frame.top p.words h.memory after.memory
  shown line e q s turns env holds h reached there words truth_is fit carries =
      let code = expression_code s.frame.homes s.known.entries s.frame.top e in
      let pushes = conditions line e q s turns env holds reached there words carries.carries.counted truth_is in
      let pushed = pushes fit h carries.carries in
      let f = forgotten p.code.footing (may_show s.known.entries e) (test_of s.known.entries e) pushed.after
      (subst (FitsSigned w32) (sym pushed.a) (truth_word holds)) in (
        f.after,
        lead_both pushed.leads f.leads,
        ap (λ v. address v == 0) (f.a ∙ pushed.a) ∙ zero_unless holds,
        subst (ChangesWithin s.frame.top p.words h.memory) (sym f.memory) pushed.changes,
      )

  -- A choice that is reached does what it means.
  pub choice_means : (line : ℕ) (e : Expression) (q : Process) (s : Site) (turns : ℕ → ℤ)
      (env : Environment) (m : Known)
      → Reaches p.items (standing p) (AComponent (Chosen line e q)) m → ProcessBehaves p q → IsSequential q
      → has_words e ≡ true → process_has_words q ≡ true → IsPlaced p s env → shape m.entries ≡ shape s.known.entries
      → begun_with m.blocks ≤ length m.entries → begun_with (after.chosen e m).blocks ≤ length m.entries
      → IsTrueIn m.entries env
      → ChoiceMeans p.code (FitsIn p) s.frame env (CarriedAt p s turns env) (Left p s turns env)
      (placed (surroundings p) (Chosen line e q) m) (doing_choice p.ports (Chosen line e q) env)
  choice_means line e q s turns env m reached behaves sequential literals words there same low chosen_low holds =
      let right = places_hold p.items (standing p) (AComponent (Chosen line e q)) m none reached in
      let fit_e = right.holds.1 in
      let y = after.chosen e m in
      let narrowed = shapes_stay.narrowing m.entries e true in
      let long = long_alike y.entries m.entries narrowed in
      let alike = narrowed ∙ same in
      record {
        truth = truth_of env e;
        process = doing p.ports q env;
        is = refl;
        shows = λ value truth_is fit h carries.
            let sx = at_place m 0 s in
            let x = shown line e q sx turns env value h reached
            (placed_alike p s m 0 env env there same low holds) literals truth_is fit
            (carried_alike p s m 0 turns env h.memory same carries) in
            record {
              after = x.0;
              leads = x.1;
              zero = x.2;
              kept = carried_stays p s turns env h.memory x.0.memory there x.3 carries;
            };
        behaves = λ truth_is label code is fit.
            let sy = at_place y label s in
            let known : IsTrueIn y.entries env = record {
              meets = narrowing_holds m.entries env e types.Condition true holds.meets fit_e.type_is truth_is;
              typed = types_stay.moving m.entries y.entries env (sym narrowed) holds.typed;
            } in
            let inner = placed_alike p s y label env env there alike (omega (arith, chosen_low, long)) known in
            pieces_as p.code (λ x carries. carried_alike p s y label turns env x alike carries)
            (λ e x left. left_alike p s y label turns env e x alike left)
            (behaves.behaves (length y.entries) sy turns env code
            (to_process (standing p) (Chosen line e q) m reached) sequential words inner is fit);
        always = λ is. true_holds env e is;
        skips = λ is. skips_leave p.ports env q is;
      }

  -- ---- choices

  pub choices_mean : {part : Part} (cs : Components part) (s : Site) (turns : ℕ → ℤ)
      (env : Environment)
      → ((piece : Piece) (m : Known) → StandsAmong p.around (Mark mark.If) cs (begin s.known) piece m
      → Reaches p.items (standing p) piece m)
      → EachBehaves p cs → IsMadeOf (Mark mark.If) part → AreSequential (Mark mark.If) cs
      → components_have_words cs ≡ true → IsPlaced p s env
      → ChoicesMean p.code (FitsIn p) s.frame env (CarriedAt p s turns env) (Left p s turns env)
      (placed_choices (surroundings p) cs (begin s.known)) (doing_first p.ports cs env)
      × (doing_first p.ports cs env ≡ None
      → IsTrueIn (after_components p.around (Mark mark.If) cs (begin s.known)).entries env)
  choices_mean NoComponent s turns env reach each made sequential words there = (refl, λ no. there.holds)
  choices_mean (Further cs (Chosen line e q)) s turns env reach each made sequential words there =
      let a = p.around in
      let c = Chosen line e q in
      let k = s.known in
      let ns = changed_by_components a.signatures k.entries cs in
      let m = after_components a (Mark mark.If) cs (begin k) in
      let all = and_parts (components_have_words cs) (has_words e && process_has_words q) words in
      let both = and_parts (has_words e) (process_has_words q) all.1 in
      let h = components_stay a ns (Mark mark.If) cs k made (covers_itself ns) there.sited.low in
      let x : Known = record { entries = h.start; blocks = record { start = h.start; ends = h.ends } ∷ k.blocks } in
      let alike = within_shape ns h.start k.entries h.starts in
      let y = after.chosen e x in
      let final = inside a q y in
      let excluded_long = long_alike (excluded e h.start h.start) h.start (shapes_stay.excluding h.start h.start e) in
      let narrow_long = long_alike y.entries h.start (shapes_stay.narrowing h.start e true) in
      let first = doing_first p.ports cs env in
      let next_is = doing_choice p.ports c env in
      let before = choices_mean cs s turns env (λ piece z among. reach piece z (inr among)) each.0 made
      sequential.0 all.0 there in
      let reached = reach (AComponent c) m (inl (refl, refl)) in
      let stays = ranges_stay.processes a q y (omega (arith, excluded_long, narrow_long)) in
      let here = subst (Reaches p.items (standing p) (AComponent c)) h.is reached in
      let known : first ≡ None → IsTrueIn h.start env =
      λ no. subst (λ (z : Known). IsTrueIn z.entries env) h.is (before.1 no) in (
        (
          first,
          next_is,
          before.0,
          λ no. subst (λ (z : Known).
              ChoiceMeans p.code (FitsIn p) s.frame env (CarriedAt p s turns env) (Left p s turns env)
              (placed (surroundings p) c z) next_is) (sym h.is)
              (choice_means line e q s turns env x here each.1 sequential.1 both.0 both.1 there alike (omega arith)
              (omega (arith, excluded_long)) (known no)),
          refl,
        ),
        λ no.
            let neither = else_none first next_is no in
            let start_true = known neither.0 in
            let right = places_hold p.items (standing p) (AComponent c) x none here in
            subst (λ (z : Known). IsTrueIn (next (inside a q (after.chosen e z))).entries env) (sym h.is)
            (subst (λ (z : Known). IsTrueIn z.entries env)
            (sym (chosen_next (changed_by a.signatures y.entries q) e h.start h.ends k.blocks x final refl stays))
            (excluded_true e h.start h.start env env (all_outermost (length h.start) env (as_long env h.start
            start_true.meets)) start_true start_true.meets right.holds.1.type_is
            (chosen_none Fails (doing p.ports q env) (truth_of env e) neither.1))),
      )
  choices_mean (Further cs (Plain q)) s turns env reach each made sequential words there = absurd sequential.1
  choices_mean (Further cs (Guarded line g q)) s turns env reach each made sequential words there =
      absurd sequential.1
