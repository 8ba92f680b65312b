-- Blocks under a replicator, by the word of the block.
use Rattle.std.proofs.Common.{◌≡◌, ℕ, zero, suc, ◌<◌, ℤ, pos, negsuc, ◌+ℤ◌, Bool, true, false, cond, ◌&&◌}
use Rattle.std.proofs.Common.{List, [], Option, Some, None, inr, refl, sym, ap, subst, ◌∙◌, arith}
use Rattle.std.specs.Prelude.{int_le, unsigned_abs, unwrap_or}
use Rattle.std.proofs.lemmas.Bool.{and_parts}
use Rattle.std.proofs.lemmas.Int.{ints}
use Rattle.word_arithmetic.specs.Word.{greatest_word, is_word}
use Rattle.occam_layout.specs.declared.mark.Mark.TheVariants as mark
use Rattle.occam_parser.specs.Expressions.{Expression}
use Rattle.occam_parser.specs.Terminals.{Mark, Terminal}
use Rattle.occam_parser.specs.Lines.{Replicator, block_word}
use Rattle.occam_parser.specs.Blocks.{Chosen, Component, Does, One, Part, Plain, Process, Replicated, part_of}
use Rattle.occam_parser.specs.Words.{component_has_words, has_words, process_has_words, replicator_has_words}
use Rattle.scalar_ranges.specs.declared.types.ExprType.TheVariants as types
use Rattle.scalar_ranges.specs.Entries.{Entry}
use Rattle.scalar_ranges.specs.Moves.{Known, begin, end}
use Rattle.program_uses.specs.Actions.{is_before}
use Rattle.program_uses.specs.Changes.{changed_by_component}
use Rattle.program_uses.specs.Constants.{value_as}
use Rattle.program_uses.specs.Declaring.{add}
use Rattle.program_uses.specs.Indices.{happens, index_in, index_meaning, is_count, is_seq, repeats_of, turn_by_turn}
use Rattle.program_uses.specs.Indices.{turns_from}
use Rattle.program_meaning.specs.Sequential.{IsSequentialComponent}
use Rattle.usage_checks.specs.AfterProcesses.{after_body, after_component, begun_body, repeated}
use Rattle.usage_checks.specs.Holding.{ReplicatorHolds}
use Rattle.usage_checks.specs.LineRules.{fits_word}
use Rattle.usage_checks.specs.NameRules.{with_entries}
use Rattle.usage_checks.specs.Reaching.{AComponent, AProcess, Reaches, in_block, process_of, to_part}
use Rattle.usage_checks.specs.TypedRanges.{AreInTypes}
use Rattle.usage_checks.proofs.PlacesHold.{index_word, places_hold}
use Rattle.usage_checks.proofs.RangesStay.{body_ended, component_stays, covers_itself, turns_turned}
use Rattle.usage_checks.proofs.RangesTyped.{ranges_are_typed}
use Rattle.code_pieces.specs.Pieces.{Code}
use Rattle.line_pieces.specs.Declarations.{with_home}
use Rattle.line_pieces.specs.Homes.{Nowhere}
use Rattle.code_generator.specs.Processes.{NoChoice, Site, if_code, in_each_turn}
use Rattle.code_generator.specs.Processes.{has_scalar, loop_start, placed}
use Rattle.code_generator.specs.Processes.{turn_begun, value_or_zero, with_ending}
use Rattle.certified_lines.specs.Scopes.{HoldsScope}
use Rattle.certified_lines.specs.StraightRules.{Told}
use Rattle.certified_modules.specs.Passing.{OpenLabel}
use Rattle.certified_scopes.specs.Processes.{changed_in}
use Rattle.meant_processes.specs.Places.{AllFit, standing, surroundings}
use Rattle.meant_processes.proofs.RepeatedBlocks.{BodyCode}
use Rattle.certified_processes.specs.Places.{Coded, IsInRoot, scene}
use Rattle.certified_processes.proofs.There.{IsThere}
use Rattle.certified_processes.specs.ProcessesPass.{PassesTo}
use Rattle.certified_processes.proofs.Blocks.{sound_there}
use Rattle.certified_processes.proofs.Choices.{ending_goes, if_passes}
use Rattle.certified_processes.proofs.Loops.{Loop}
use Rattle.certified_processes.proofs.RepeatedBlocks.{after_loop, counts_on, indices_there, loop_fits, loop_sound}
use Rattle.certified_processes.proofs.RepeatedBlocks.{no_turns}
use Rattle.certified_processes.proofs.RepeatedBlocks.{turns_pass}
use Rattle.certified_processes.proofs.RepeatedIfs.{rows_inside, turns_go}
use Rattle.certified_processes.proofs.Sequences.{ConstructGoes, ProcessGoes}

no_count : (base : ℤ) → is_count base (pos zero) ≡ false
no_count base =
    let no : int_le (pos 1) (pos zero) ≡ false = grind (arith, ints) in
    ap (λ t. t && int_le (base +ℤ pos zero) (greatest_word +ℤ pos 1)) no

-- each index is a word
turn_word : (base : ℤ) (n count : ℕ)
    → (int_le (pos 0) (pos (suc count)) && fits_word (Some base) (pos (suc count))) ≡ true → n < suc count
    → is_word (base +ℤ pos n) ≡ true
turn_word base n count h less =
    index_word base (pos (suc count)) n (suc count) h less (inr ((counts_on base count h).1, refl))

module _ (p : Coded) (root : IsInRoot p) where
  abbrev changes : {part : Part} → Terminal → Component part → Replicator → Site → List ℕ
  changes word body r s =
      changed_by_component p.program.around.signatures (add r.name (index_meaning (is_seq word) None) s.known.entries)
      body

  -- where turns of a body begin
  abbrev Comes : {part : Part} → Terminal → Component part → Replicator → Site → (happens : Bool) → Type 0
  Comes word body r s happens =
      let repeats = repeats_of true s.known.entries (is_seq word) r in
      (n : ℕ) → n < repeats.turns.count
      → Reaches p.program.items (in_block word s.known (standing p.program)) (AComponent body)
      (with_entries (add r.name (index_in repeats n))
      (turn_by_turn (λ n l. after_component p.program.around word body
      (with_entries (add r.name (index_in repeats n)) l))
      n (begun_body word (changes word body r s) happens s.known)))

  -- the code of an IF passes
  abbrev RepeatedIfPasses : ℕ → Expression → Process → Replicator → Site → List OpenLabel → Told → Code → Type 0
  RepeatedIfPasses line e q r s opened before c =
      let after = body_ended p.program.around (Mark mark.If) (Chosen line e q) r true s.known in
      BodyCode (surroundings p.program) (Mark mark.If) (Chosen line e q) true r (pos 0) (pos 0) s after
      (changes (Mark mark.If) (Chosen line e q) r s) c
      → AllFit p.program c.pieces → HoldsScope (scene p s) s.known.entries before.frame
      → PassesTo p s.frame after.entries opened c.pieces before

  -- an IF without turns
  no_choices : (line : ℕ) (e : Expression) (q : Process) (r : Replicator) (s : Site) (opened : List OpenLabel)
      (before : Told) (c : Code) (placed_there : IsThere p s) → AreInTypes s.known.entries
      → (repeats_of true s.known.entries false r).happens ≡ false
      → RepeatedIfPasses line e q r s opened before c
  no_choices line e q r s opened before c placed_there typed never is fit holds =
      let a = p.program.around in
      let es = s.known.entries in
      let body = Chosen line e q in
      let repeats = repeats_of true es false r in
      let named = add r.name (index_meaning false None) es in
      let all = changed_by_component a.signatures named body in
      let after = body_ended a (Mark mark.If) body r true s.known in
      let m = turn_by_turn (λ n l. after_component a (Mark mark.If) body
      (with_entries (add r.name (index_in repeats n)) l))
      repeats.turns.count (begin (begin s.known)) in
      let h = turns_turned a all (Mark mark.If) body r.name repeats [] es (begin s.known) repeats.turns.count tt tt
      refl refl
      (component_stays a all (Mark mark.If) body tt named (covers_itself all)) in
      let known : after.entries ≡ es =
      (λ i. (repeated (never i) (turn_by_turn
      (λ n l. after_component a (Mark mark.If) body (with_entries (add r.name (index_in repeats n)) l))
      repeats.turns.count (begun_body (Mark mark.If) (changes (Mark mark.If) body r s) (never i) s.known))).entries)
      ∙ ap (λ (z : Known). (end (end z)).entries) h.is in
      if_passes p s placed_there (with_home Nowhere s.frame) (rows_inside p root s placed_there) after
      (with_ending NoChoice) opened before c (sound_there p s placed_there typed)
      (ending_goes p s placed_there (with_home Nowhere s.frame) (rows_inside p root s placed_there) es NoChoice es None
      after.entries (refl, refl) known)
      (subst (λ (b : Bool). if_code s (with_home Nowhere s.frame) after (with_ending (in_each_turn
      (λ n. placed (surroundings p.program) body (turn_begun a (Mark mark.If) r.name body repeats
      (begun_body (Mark mark.If) (changes (Mark mark.If) body r s) repeats.happens s.known) n))
      (cond b repeats.turns.count 0))) ≡ Some c) never is) fit holds

  -- an IF with turns
  turned_choices : (line : ℕ) (e : Expression) (q : Process) (r : Replicator) (base : ℤ) (n : ℕ) (s : Site)
      (opened : List OpenLabel) (before : Told) (c : Code) (placed_there : IsThere p s) → AreInTypes s.known.entries
      → ProcessGoes p q → IsSequentialComponent (Mark mark.If) (Chosen line e q) → has_words e ≡ true
      → process_has_words q ≡ true → value_as s.known.entries types.Int r.base ≡ Some base
      → ((i : ℕ) → i < suc n → is_word (base +ℤ pos i) ≡ true)
      → (happens_is : (repeats_of true s.known.entries false r).happens ≡ true)
      → (repeats_of true s.known.entries false r).turns.count ≡ suc n
      → Comes (Mark mark.If) (Chosen line e q) r s (repeats_of true s.known.entries false r).happens
      → RepeatedIfPasses line e q r s opened before c
  turned_choices line e q r base n s opened before c placed_there typed goes sequential literals words base_is word
      happens_is times_is reach is fit holds =
      let a = p.program.around in
      let es = s.known.entries in
      let body = Chosen line e q in
      let repeats = repeats_of true es false r in
      let ns = changes (Mark mark.If) body r s in
      let after = body_ended a (Mark mark.If) body r true s.known in
      let count = repeats.turns.count in
      let step : ℕ → Known → Known =
      λ n l. after_component a (Mark mark.If) body (with_entries (add r.name (index_in repeats n)) l) in
      let h = turns_go p root s placed_there line e q r.name r base count count (omega arith) base_is
      (subst (λ (b : Bool). Comes (Mark mark.If) body r s b) happens_is reach)
      (λ i less. word i (omega (arith, less, times_is))) goes sequential literals words
      (sound_there p s placed_there typed)
      in
      let known : after.entries ≡ unwrap_or h.1 h.0 =
      (λ i. (repeated (happens_is i)
      (turn_by_turn step count (begun_body (Mark mark.If) ns (happens_is i) s.known))).entries)
      ∙ ap (λ (z : Known). (end z).entries) h.2.is in
      let choices = in_each_turn
      (λ i. placed (surroundings p.program) body (turn_begun a (Mark mark.If) r.name body repeats
      (begin s.known) i)) count in
      if_passes p s placed_there (with_home Nowhere s.frame) (rows_inside p root s placed_there) after
      (with_ending choices) opened before c (sound_there p s placed_there typed)
      (ending_goes p s placed_there (with_home Nowhere s.frame) (rows_inside p root s placed_there) es choices h.0 h.1
      after.entries h.3 known)
      (subst (λ (b : Bool). if_code s (with_home Nowhere s.frame) after (with_ending (in_each_turn
      (λ n. placed (surroundings p.program) body (turn_begun a (Mark mark.If) r.name body repeats
      (begun_body (Mark mark.If) ns b s.known) n))
      (cond b count 0))) ≡ Some c) happens_is is) fit holds

  body_by : {part : Part} (word : Terminal) (body : Component part) (counted : Bool) (r : Replicator) (count : ℤ)
      (s : Site) (opened : List OpenLabel) (before : Told) (c : Code) → counted ≡ true
      → IsSequentialComponent word body → component_has_words body ≡ true → has_words r.count ≡ true
      → ProcessGoes p (process_of body) → (h : ReplicatorHolds s.known.entries r) → h.count ≡ count
      → Comes word body r s (repeats_of true s.known.entries (is_seq word) r).happens
      → (placed_there : IsThere p s) → AreInTypes s.known.entries
      → BodyCode (surroundings p.program) word body counted r h.base count s
      (body_ended p.program.around word body r counted s.known)
      (changes word body r s) c
      → AllFit p.program c.pieces → HoldsScope (scene p s) s.known.entries before.frame
      → PassesTo p s.frame (body_ended p.program.around word body r counted s.known).entries opened c.pieces before
  body_by word body false r count s opened before c is_counted seq words count_words goes h same reach placed_there
      typed is fit holds =
      absurd (cc is_counted)
  body_by word body true r (negsuc n) s opened before c is_counted seq words count_words goes h same reach placed_there
      typed is fit holds =
      absurd (cc (ap (λ z. int_le (pos 0) z && fits_word (Some h.base) z) (sym same) ∙ h.fits))
  body_by (Mark mark.Seq) (Plain q) true r (pos zero) s opened before c is_counted seq words count_words goes h same
      reach placed_there typed is fit holds =
      let ns = changed_in p.program.around r (Plain q) s.known in
      let after = body_ended p.program.around (Mark mark.Seq) (Plain q) r true s.known in
      let known = after_loop p root s placed_there q r true in
      subst (λ (es : List Entry). PassesTo p s.frame es opened c.pieces before) (sym known)
      (no_turns p root s placed_there (has_scalar ns s.known.entries) ns after opened before c known refl
      (loop_sound p root s placed_there ns typed) typed is holds)
  body_by (Mark mark.Seq) (Plain q) true r (pos (suc n)) s opened before c is_counted seq words count_words goes h same
      reach placed_there typed is fit holds =
      let after = body_ended p.program.around (Mark mark.Seq) (Plain q) r true s.known in
      let known = after_loop p root s placed_there q r true in
      let indices = indices_there s.known.entries r h n same count_words typed in
      let start = loop_start s.frame.top h.base (pos (suc n)) in
      let stored = loop_fits p root s placed_there q r true after h.base (pos (suc n)) c is fit in
      let l : Loop p root q r s placed_there true = record {
        reached = reach 0 (omega arith);
        goes = goes;
        sequential = seq;
        words = words;
        typed = typed;
        ranged = indices.ranged;
        turns = indices.turns;
        room = stored.0;
        next = stored.1;
      } in
      subst (λ (es : List Entry). PassesTo p s.frame es opened c.pieces before) (sym known)
      (turns_pass p root s placed_there q r true after h.base (suc n) opened before c l indices known is fit holds)
  body_by (Mark mark.If) (Chosen line e q) true r (pos zero) s opened before c is_counted seq words count_words goes h
      same reach placed_there typed is fit holds =
      let es = s.known.entries in
      let none_is : value_as es types.Int r.count ≡ Some (pos zero) = h.count_is ∙ ap (λ (v : ℤ). Some v) same in
      let never : (repeats_of true es false r).happens ≡ false =
      (λ i. happens true (h.base_is i) (none_is i)) ∙ no_count h.base in
      no_choices line e q r s opened before c placed_there typed never is fit holds
  body_by (Mark mark.If) (Chosen line e q) true r (pos (suc n)) s opened before c is_counted seq words count_words
      goes h same reach placed_there typed is fit holds =
      let es = s.known.entries in
      let fits = ap (λ z. int_le (pos 0) z && fits_word (Some h.base) z) (sym same) ∙ h.fits in
      let more = (counts_on h.base n fits).1 in
      let count_is : value_as es types.Int r.count ≡ Some (pos (suc n)) = h.count_is ∙ ap (λ (v : ℤ). Some v) same in
      let happens_is : (repeats_of true es false r).happens ≡ true =
      (λ i. happens true (h.base_is i) (count_is i)) ∙ more in
      let times_is : (repeats_of true es false r).turns.count ≡ suc n =
      (λ i. (turns_from true (h.base_is i) (count_is i)).count)
      ∙ ap (λ b. cond b (unsigned_abs (pos (suc n))) 1) more in
      let both = and_parts (has_words e) (process_has_words q) words in
      turned_choices line e q r h.base n s opened before c placed_there typed goes seq both.0 both.1 h.base_is
      (λ i less. turn_word h.base i n fits less) happens_is times_is reach is fit holds
  body_by word body true r (pos n) s opened before c is_counted seq words count_words goes h same reach placed_there
      typed is fit holds =
      absurd seq

  -- ---- the construct

  -- The code of a block under a replicator passes.
  pub repeated_passes : (r : Replicator) (kind : _) (body : Component (part_of kind)) → ProcessGoes p (process_of body)
      → ConstructGoes p (Replicated r (One kind body))
  repeated_passes r kind body goes = record {
    passes = λ first line s opened before c reached sequential words placed_there is fit holds.
        let word = block_word kind in
        let a = p.program.around in
        let t = standing p.program in
        let u = in_block word s.known t in
        let es = s.known.entries in
        let whole = Replicated r (One kind body) in
        let place = AProcess first (Does line whole) in
        let right = places_hold p.program.items t place s.known root.unbroken reached in
        let typed = ranges_are_typed p.program.items t place s.known root.unbroken root.literals reached in
        let h = right.holds in
        let all = and_parts (replicator_has_words r) (component_has_words body) words in
        let both = and_parts (has_words r.base) (has_words r.count) all.0 in
        let counted = is_before line a.uncounted in
        let is_counted : counted ≡ true = ap (is_before line) placed_there.sited.counted in
        let after = after_body a line r (One kind body) s.known in
        let ns = changes word body r s in
        let base_is : value_or_zero es r.base ≡ h.base = ap (λ (o : Option ℤ). unwrap_or o (pos 0)) h.base_is in
        let count_is : value_or_zero es r.count ≡ h.count = ap (λ (o : Option ℤ). unwrap_or o (pos 0)) h.count_is in
        let code : BodyCode (surroundings p.program) word body counted r h.base h.count s after ns c =
        subst (λ x. BodyCode (surroundings p.program) word body counted r h.base x s after ns c) count_is
        (subst (λ x. BodyCode (surroundings p.program) word body counted r x (value_or_zero es r.count) s after ns c)
        base_is is) in
        body_by word body counted r h.count s opened before c is_counted sequential all.1 both.1 goes h refl
        (subst (λ (b : Bool).
        (n : ℕ) → n < (repeats_of b es (is_seq word) r).turns.count → Reaches p.program.items u (AComponent body)
        (with_entries (add r.name (index_in (repeats_of b es (is_seq word) r) n))
        (turn_by_turn
        (λ n l. after_component a word body
        (with_entries (add r.name (index_in (repeats_of b es (is_seq word) r) n)) l)) n
        (begun_body word ns (repeats_of b es (is_seq word) r).happens s.known)))) is_counted
        (λ n less. to_part t u first line whole (AComponent body) s.known _ reached (n, refl, refl, less, refl)))
        placed_there typed code fit holds;
  }
