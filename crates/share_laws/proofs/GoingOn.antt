-- After a start, what is known of the starter's words still holds, and the starter holds what its scope has left.
use Rattle.std.proofs.Common.{◌≡◌, ℕ, ◌+◌, ◌<◌, ◌&&◌, not, ℤ, true, List, length, Option, Some, None, refl, sym, ap}
use Rattle.std.proofs.Common.{◌∙◌, subst}
use Rattle.std.specs.Prelude.{slice_get}
use Rattle.std.proofs.lemmas.Bool.{and_from, and_parts, not_from_false}
use Rattle.module_format.specs.Rows.{Fact}
use Rattle.module_format.specs.declared.fact.Fact.TheVariants.{Unknown, Number, Pointer, CodeAddress, Loop}
use Rattle.module_format.specs.declared.fact.Fact.TheVariants.{ReturnAddress}
use Rattle.module_format.specs.Stack.{of_empty, AreRelated}
use Rattle.module_format.specs.declared.stack.Stack.{Stack}
use Rattle.module_format.specs.Contents.{Contents, Par}
use Rattle.certificate.specs.Rights as rights
use Rattle.certificate.specs.Rights.{is_among}
use Rattle.machine_state.specs.declared.process.Mode.TheVariants as machine
use Rattle.machine_state.specs.Holding.{Holding, may_read}
use Rattle.machine_state.specs.JoinLookups.{Found}
use Rattle.machine_state.specs.Memory.{Memory}
use Rattle.machine_state.specs.Site.{Local}
use Rattle.states.specs.declared.known.Known.{Known}
use Rattle.states.specs.declared.known.Mode as modes
use Rattle.states.specs.declared.known.Mode.TheVariants.{Starting}
use Rattle.states.specs.declared.known.WordFact.{WordFact}
use Rattle.states.specs.declared.known.WordFact.TheVariants.{Alone, Index, Count}
use Rattle.states.specs.State.{State, unknown}
use Rattle.rulings.specs.Fitting.{Described, After}
use Rattle.rulings.specs.Meaning.{Layout, Activation, Means, says_nothing, is_number, is_pointer, is_code_address}
use Rattle.rulings.specs.Meaning.{is_return_address, MeansWord, is_fact, is_index, is_count, MeansKnown, SameMode}
use Rattle.rulings.specs.Meaning.{both_starting, HasFrame, words_left, frame_word}
use Rattle.rulings.specs.Regions.{Scope, scope_of, scope_left, scope_in, scope_among, HoldsNamed}
use Rattle.rulings.specs.Remaining.{is_hidden}
use Rattle.rulings.proofs.Combining.{unknown_means}
use Rattle.rulings.proofs.Words.{means_same}
use Rattle.share_laws.specs.GoingOn.{GoesOnAs, StartersGoOn, OpenersGoOn, OpeningsCanStart, act_with}
use Rattle.share_laws.specs.Opening.{layout_with, held_by_opener}
use Rattle.share_laws.specs.Starts.{CanStart, held_by_starter, StarterHolds}
use Rattle.share_laws.specs.Taking.{memory_after_start, after_opening, StartTakes, OpeningTakes}
use Rattle.share_laws.proofs.OpenerHolds.{openers_hold_the_rest, none_started}
use Rattle.share_laws.proofs.StarterHolds.{starters_hold_the_rest}
use Rattle.share_laws.proofs.TakenWords.{takes_its_words, opening_takes_its_words}

-- ---- other lengths

-- facts do not read how long messages are
means_with : {m : Contents} {layout : Layout} (par : Par) {f : Fact} {v : Option ℤ} → Means m layout f v
    → Means m (layout_with layout par) f v
means_with par {f = Unknown} means = says_nothing
means_with par {f = Number lo hi} (is_number low high fits) = is_number low high fits
means_with par {f = Pointer region lo hi step} (is_pointer offset low high stepped is) =
    is_pointer offset low high stepped is
means_with par {f = CodeAddress offset} (is_code_address is) = is_code_address is
means_with par {f = Loop base count weight} means = elim means [ ]
means_with par {f = ReturnAddress} (is_return_address is) = is_return_address is

-- nor does what is known of a word
pub word_with : {m : Contents} {act : Activation} (found : Found) {k : ℤ} {f : WordFact} {v : Option ℤ}
    → MeansWord m act k f v → MeansWord m (act_with act found) k f v
word_with found {f = Alone fact} (is_fact means) = is_fact (means_with found.par means)
word_with found {f = Index loop} (is_index some few is fits) = is_index some few is fits
word_with found {f = Count loop} (is_count some few is fits) = is_count some few is fits

-- ---- described

module _ (m : Contents) (found : Found) (act : Activation) (h : Holding) (memory : Memory) (depth : ℤ)
    (workspace : ℕ) (s : State) (l : Local) (row : slice_get m.pars found.row ≡ Some found.par)
    (mode : s.mode ≡ Starting found.row (found.number + 1)) (context : s.context ≡ found.par.context)
    (depth_is : s.depth ≡ depth) (registers : s.stack ≡ of_empty unknown) (at : l.registers.workspace ≡ workspace)
    (frame : HasFrame h (length l.memory) (words_left m found.par found.par.context (found.number + 1))
    act.layout.origin depth workspace)
    (named : HoldsNamed m h (scope_left m found.par found.par.context (found.number + 1) act.layout) l.memory)
    (words : (k : ℤ) → (words_left m found.par found.par.context (found.number + 1)).reads k ≡ true
    → MeansWord m act k (s.frame k) (frame_word l.memory act.layout.origin k)) where
  -- among the starts of its row the state's scope is what is left
  scope_is : scope_in m s act.layout ≡ scope_left m found.par found.par.context (found.number + 1) act.layout
  scope_is =
      ap (λ (c : ℕ). scope_among m c s.mode act.layout) context
      ∙ ap (λ (mode : modes.Mode). scope_among m found.par.context mode act.layout) mode
      ∙ ap (λ (o : Option Par). elim o as (λ o. Scope) [
        | None ↦ scope_of m found.par.context act.layout
        | Some par ↦ scope_left m par found.par.context (found.number + 1) act.layout
      ]) row

  -- all that is known, over what is left
  in_left : Described m h machine.Starting act s l
      (scope_left m found.par found.par.context (found.number + 1) act.layout)
  in_left = record {
    frame = subst (λ (z : ℤ). HasFrame h (length l.memory)
        (words_left m found.par found.par.context (found.number + 1)) act.layout.origin z l.registers.workspace)
        (sym depth_is) (subst (λ (w : ℕ). HasFrame h (length l.memory)
        (words_left m found.par found.par.context (found.number + 1)) act.layout.origin depth w) (sym at) frame);
    knows = record {
      registers = subst (λ (x : Stack Known). AreRelated
          (MeansKnown m (words_left m found.par found.par.context (found.number + 1)).reads act.layout l.memory) x
          l.registers.stack) (sym registers)
          (record { a = unknown_means; b = unknown_means; c = unknown_means });
      words = words;
    };
    named = named;
    same_mode = subst (λ (x : modes.Mode). SameMode x machine.Starting) (sym mode) both_starting;
  }

  -- and so over the state's scope
  among_starts : After m h machine.Starting act s l
  among_starts = subst (λ (x : Scope). Described m h machine.Starting act s l x) (sym scope_is) in_left

-- ---- starts

-- what the starter holds after a start, whatever its memory was called before
goes_on : (m : Contents) (found : Found) (act : Activation) (base : ℕ) (addresses : List (Option ℕ)) (h : Holding)
    (memory : Memory) (n : ℕ) (depth : ℤ) (workspace : ℕ) (s : State) (l : Local) → length memory ≡ n
    → CanStart m found act.layout base addresses h memory depth workspace → GoesOnAs m found act memory depth s
    → l.memory ≡ memory_after_start found base memory → l.registers.workspace ≡ workspace
    → After m (held_by_starter m found base addresses h n) machine.Starting act s l
goes_on m found act base addresses h memory n depth workspace s l long can says memory_is at =
    among_starts m found act (held_by_starter m found base addresses h n) memory depth workspace s l can.is.row
    says.mode
    says.context says.depth_is says.registers at
    (subst (λ (x : Memory). HasFrame (held_by_starter m found base addresses h n) (length x)
    (words_left m found.par found.par.context (found.number + 1)) act.layout.origin depth workspace) (sym memory_is)
    (subst (λ (k : ℕ). HasFrame (held_by_starter m found base addresses h k) (length new)
    (words_left m found.par found.par.context (found.number + 1)) act.layout.origin depth workspace) same after.frame))
    (subst (λ (x : Memory). HoldsNamed m (held_by_starter m found base addresses h n)
    (scope_left m found.par found.par.context (found.number + 1) act.layout) x) (sym memory_is)
    (subst (λ (k : ℕ). HoldsNamed m (held_by_starter m found base addresses h k)
    (scope_left m found.par found.par.context (found.number + 1) act.layout) new) same after.named))
    (λ k t. means_same (says.words k t) refl
    (sym (taken.words k t) ∙ ap (λ (x : Memory). frame_word x act.layout.origin k) (sym memory_is)))
  where
    new : Memory
    new = memory_after_start found base memory

    taken : StartTakes m found act.layout base addresses h memory (memory_after_start found base memory) depth workspace
    taken = takes_its_words m found act.layout base addresses h memory depth workspace can

    same : length (memory_after_start found base memory) ≡ n
    same = taken.size ∙ long

    after : StarterHolds m found act.layout
        (held_by_starter m found base addresses h (length (memory_after_start found base memory)))
        (memory_after_start found base memory) depth workspace
    after = starters_hold_the_rest m found act.layout base addresses h (memory_after_start found base memory) depth
        workspace
        taken.can

-- after a later start
pub starters_go_on : StartersGoOn
starters_go_on m found act base addresses h memory depth workspace s l can says memory_is at =
    goes_on m found act base addresses h memory (length memory) depth workspace s l refl can says memory_is at

-- after the first one, where the opening came before
pub openers_go_on : OpenersGoOn
openers_go_on m found act base addresses h memory depth workspace s l opens first can says memory_is at =
    goes_on m found (act_with act found) base addresses (held_by_opener found.par base (length memory) h)
    (after_opening found.par base memory) (length memory) depth workspace s l opened.size can
    (record {
      mode = says.mode;
      context = says.context;
      depth_is = says.depth_is;
      registers = says.registers;
      words = λ k t. word_with found (means_same (says.words k t) refl (sym (opened.words k (left_before k t))));
    }) memory_is at
  where
    opened : OpeningTakes m found.row found.par act.layout base h memory (after_opening found.par base memory) depth
        workspace
    opened = opening_takes_its_words m found.row found.par act.layout base h memory depth workspace opens

    -- what is left after the first start was left before it
    left_before : (k : ℤ) → (words_left m found.par found.par.context (found.number + 1)).reads k ≡ true
        → (words_left m found.par found.par.context 0).reads k ≡ true
    left_before k t =
        let a = and_parts (rights.may_read_word m found.par.context k && not (is_hidden found.par k)) _ t in
        and_from _ _ a.0 (not_from_false _ (none_started found.par (λ b. is_among b.writes k)))

-- what the opening leaves can start the first branch
pub openings_can_start : OpeningsCanStart
openings_can_start m found act base addresses h memory depth workspace opens first left laid is =
    let opened = opening_takes_its_words m found.row found.par act.layout base h memory depth workspace opens in
    let holds = openers_hold_the_rest m found.row found.par act.layout base h (after_opening found.par base memory)
    depth
    workspace opened.can in
    record {
      keeps = opens.keeps;
      is = is;
      laid = laid;
      frame = subst (λ (n : ℕ). HasFrame (held_by_opener found.par base (length memory) h)
          (length (after_opening found.par base memory)) (words_left m found.par found.par.context n)
          act.layout.origin depth workspace) (sym first)
          (subst (λ (n : ℕ). HasFrame (held_by_opener found.par base n h)
          (length (after_opening found.par base memory)) (words_left m found.par found.par.context 0)
          act.layout.origin depth workspace) opened.size holds.frame);
      named = subst (λ (n : ℕ). HoldsNamed m (held_by_opener found.par base (length memory) h)
          (scope_left m found.par found.par.context n (layout_with act.layout found.par))
          (after_opening found.par base memory)) (sym first)
          (subst (λ (n : ℕ). HoldsNamed m (held_by_opener found.par base n h)
          (scope_left m found.par found.par.context 0 (layout_with act.layout found.par))
          (after_opening found.par base memory)) opened.size holds.named);
      left = left;
      inside = subst (λ (n : ℕ). (x : ℕ) → may_read (held_by_opener found.par base n h) x ≡ true
          → x < length (after_opening found.par base memory)) opened.size holds.inside;
    }
