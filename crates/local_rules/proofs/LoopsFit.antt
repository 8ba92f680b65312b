-- lend: what its rule says fits its step.
use Rattle.std.proofs.Common.{◌≡◌, ℕ, zero, suc, ◌+◌, ◌-◌, ◌≤◌, ◌<◌, ◌%◌, ◌^◌, ◌==◌, ◌&&◌, ℤ, pos, negsuc, ◌+ℤ◌, ◌-ℤ◌}
use Rattle.std.proofs.Common.{◌*ℤ◌, ◌≤ℤ◌, ◌<ℤ◌, FitsSigned, Bool, true, false, cond, ◌⊎◌, inl, inr, [], ◌∷◌, length}
use Rattle.std.proofs.Common.{Option, Some, None, Result, Ok, Err, refl, sym, ap, ◌∙◌, subst, arith, ltb}
use Rattle.std.proofs.lemmas.Bool.{lt-ltb, eqb-true, eq-eqb, and_from}
use Rattle.std.proofs.lemmas.Int.{ints}
use Rattle.std.specs.Prelude.{IsTrue, int_lt, neg_ℤ}
use Rattle.std.specs.Int.{w32, int_wrap}
use Rattle.small_laws.proofs.Comparisons.{lt-int_lt}
use Rattle.module_format.specs.Rows.{Fact}
use Rattle.module_format.specs.declared.fact.Fact.TheVariants.{Unknown, Number, Pointer}
use Rattle.module_format.specs.declared.fact.Region.TheVariants as regions
use Rattle.module_format.specs.declared.fact.Step.{Step}
use Rattle.module_format.specs.declared.stack.Stack.{Stack}
use Rattle.module_format.specs.Order.{is_stepped}
use Rattle.module_format.specs.Stack.{AreRelated, of_empty}
use Rattle.module_format.specs.Contents.{Contents}
use Rattle.certificate.specs.Rights as rights
use Rattle.machine_state.specs.declared.process.Mode as machine
use Rattle.machine_state.specs.declared.fault.FaultKind.{FaultKind}
use Rattle.machine_state.specs.declared.fault.FaultKind.TheVariants.{NotOwn}
use Rattle.machine_state.specs.declared.op.Op.TheVariants as operations
use Rattle.machine_state.specs.Memory.{Memory, place_of, local_address, word_at, with_word, data_start}
use Rattle.machine_state.specs.Holding.{Holding, may_write_word}
use Rattle.machine_state.specs.LocalStep as step
use Rattle.machine_state.specs.LocalStep.{target}
use Rattle.machine_state.specs.Site.{Outcome, Local}
use Rattle.machine_state.proofs.Reading.{length-with_word, word_at-with_word}
use Rattle.machine_state.proofs.Frame.{write_is_own, changes_more}
use Rattle.states.specs.declared.known.Loop.{Loop as CountedLoop}
use Rattle.states.specs.declared.known.WordFact.{WordFact}
use Rattle.states.specs.declared.known.WordFact.TheVariants.{Alone, Index, Count}
use Rattle.states.specs.declared.rule.Rule.{Rule}
use Rattle.states.specs.State.{State, Facts, unknown, one_word, with_fact, written, is_same_number}
use Rattle.states.specs.Below.{below, view, compared}
use Rattle.local_rules.specs.declared.loops.Block.{Block}
use Rattle.rulings.specs.Regions.{scope_of}
use Rattle.rulings.specs.Rulings as rule
use Rattle.rulings.specs.Rulings.{Ruling, falls, falls_or_leads, breaks, falling, leading}
use Rattle.local_rules.specs.LoopRules.{Beginning, finds, turns, after_loop, beginning, block_of}
use Rattle.local_rules.specs.LocalRules as table
use Rattle.rulings.specs.Meaning.{Layout, Activation, with_turns, Means, says_nothing, is_number, is_pointer}
use Rattle.rulings.specs.Meaning.{frame_word, IsOwnWord, place_in, words_in, MeansWord, is_fact, is_index, is_count}
use Rattle.rulings.specs.Meaning.{MeansKnown, owed, dues, IsWellFormed, label_turns, farthest_word}
use Rattle.rulings.specs.Fitting.{Changes, Situation, rule_site, step_site, is_jump, it_falls, it_leads, it_breaks}
use Rattle.rulings.proofs.Within.{Within, ArePlain, whole_after}
use Rattle.rulings.proofs.Words.{frame_word_is, means_same, word_elsewhere, word_test, write_follows, knows_changed}
use Rattle.rulings.proofs.Words.{local_place, stored_means}
use Rattle.rulings.proofs.Regions.{keeps_more, write_keeps}
use Rattle.rulings.proofs.Entering.{below_tells, label_after}
use Rattle.rulings.proofs.Dues.{written_owed, label_owed, one_turn_less, turned_dues}
use Rattle.local_rules.proofs.Turning.{FindsBlock, finds_block, FindsBeginning, finds_beginning, beside_words}
use Rattle.local_rules.proofs.Turning.{address_small, place_here, place_next, one_less, one_more, back_target}
use Rattle.local_rules.proofs.Turning.{index_kept, with_facts_commute, with_fact_same}
use Rattle.rulings.proofs.Combining.{FitsIf, unknown_means, uses_fits, writes_word_fits, writes_fits, on_rule_test}
use Rattle.rulings.proofs.Combining.{on_step_test, in_plain_rule, beside_plain_rule, in_plain_step, after_stack}
use Rattle.rulings.proofs.Combining.{pays_fits, same_frame, below_not, written_readable}

-- ---- what a loop's words are

-- The value of the index of a loop.
record IsIndexValue (turns : ℕ) (loop : CountedLoop) (v : Option ℤ) : Type 0 where
  value : ℤ
  is : v ≡ Some value
  some : 1 ≤ turns
  most : turns ≤ loop.count
  worth : value ≡ loop.base +ℤ pos loop.count -ℤ pos turns
  fits : FitsSigned w32 value

index_value : (m : Contents) (act : Activation) (k : ℤ) (loop : CountedLoop) (v : Option ℤ)
    → MeansWord m act k (Index loop) v → IsIndexValue (act.turns k) loop v
index_value m act k loop None means = elim means [ ]
index_value m act k loop (Some x) (is_index some most is fits) =
    record { value = x; is = refl; some = some; most = most; worth = is; fits = fits }

-- The value of its count, which is the turns left.
record IsCountValue (turns : ℕ) (loop : CountedLoop) (v : Option ℤ) : Type 0 where
  is : v ≡ Some (pos turns)
  most : turns ≤ loop.count
  small : turns < 2147483648

count_value : (m : Contents) (act : Activation) (k : ℤ) (loop : CountedLoop) (v : Option ℤ)
    → MeansWord m act (k +ℤ pos 1) (Count loop) v → IsCountValue (act.turns k) loop v
count_value m act k loop None means = elim means [ ]
count_value m act k loop (Some x) (is_count some most is fits) =
    let same : k +ℤ pos 1 -ℤ pos 1 ≡ k = omega (arith, ints) in
    let turns = ap act.turns same in
    record {
      is = ap Some (is ∙ ap pos turns);
      most = subst (λ (n : ℕ). n ≤ loop.count) turns most;
      small = omega (arith, ints, turns, is);
    }

-- what is known of another word holds where the loop at word k has one turn less
turned_means : (m : Contents) (act : Activation) (k j : ℤ) (f : WordFact) (v : Option ℤ) → (j ≡ k → ⊥)
    → (j ≡ k +ℤ pos 1 → ⊥) → MeansWord m act j f v
    → MeansWord m (with_turns (one_turn_less act.turns k) act) j f v
turned_means m act k j (Alone fact) v one two (is_fact means) = is_fact means
turned_means m act k j (Index loop) None one two means = elim means [ ]
turned_means m act k j (Index loop) (Some x) one two (is_index some most is fits) =
    let same : one_turn_less act.turns k j ≡ act.turns j = elim (word_test k j) [
      | inl p ↦ absurd (one (sym p.1))
      | inr p ↦ ap (λ (b : Bool). cond b (act.turns j - 1) (act.turns j)) p.0
    ] in
    is_index (subst (λ (n : ℕ). 1 ≤ n) (sym same) some) (subst (λ (n : ℕ). n ≤ loop.count) (sym same) most)
    (is ∙ ap (λ (n : ℕ). loop.base +ℤ pos loop.count -ℤ pos n) (sym same)) fits
turned_means m act k j (Count loop) None one two means = elim means [ ]
turned_means m act k j (Count loop) (Some x) one two (is_count some most is fits) =
    let i = j -ℤ pos 1 in
    let same : one_turn_less act.turns k i ≡ act.turns i = elim (word_test k i) [
      | inl p ↦ let here : k ≡ j -ℤ pos 1 = p.1 in absurd (two (omega (arith, ints)))
      | inr p ↦ ap (λ (b : Bool). cond b (act.turns i - 1) (act.turns i)) p.0
    ] in
    is_count (subst (λ (n : ℕ). 1 ≤ n) (sym same) some) (subst (λ (n : ℕ). n ≤ loop.count) (sym same) most)
    (is ∙ ap pos (sym same)) fits

-- ---- the registers

-- the address to which a pointer to a word of the frame leads
pointed_address : (m : Contents) (layout : Layout) (k : ℤ) (st : Step) (u : ℤ) (place : ℕ)
    → Means m layout (Pointer regions.Frame (pos 4 *ℤ k) (pos 4 *ℤ k) st) (Some u)
    → pos place ≡ place_in layout.origin k → place < 1048576 → step.address u ≡ data_start + place
pointed_address m layout k st u place (is_pointer offset low high stepped is) there small =
    let at : pos data_start +ℤ layout.origin +ℤ offset ≡ pos (data_start + place) = omega (arith, ints, there) in
    ap step.address (is ∙ ap (int_wrap w32) at) ∙ address_small (data_start + place) (omega arith)

-- the offset to which a constant distance leads back
constant_back : (m : Contents) (layout : Layout) (next n : ℕ) (va : ℤ) → 1 ≤ n
    → Means m layout (Number (pos n) (pos n)) (Some va)
    → target next (step.word_of ((2 ^ 32 - step.address va) % 2 ^ 32)) ≡ target next (pos 0 -ℤ pos n)
constant_back m layout next n va some (is_number low high fits) =
    let is : va ≡ pos n = omega (arith, ints) in
    ap (λ (v : ℤ). target next (step.word_of ((2 ^ 32 - step.address v) % 2 ^ 32))) is
    ∙ back_target next n some (omega (arith, ints, is, fits))

-- ---- writes to words of the frame, and facts alone

module _ {m : Contents} {h : Holding} {mode : machine.Mode} {act : Activation} where
  after_word : {s : State} {l : Local} (k : ℤ) (f : Fact) (v : Option ℤ) → Within ArePlain m h mode act s l
      → rights.may_write_word m s.context k ≡ true → (w : IsOwnWord h (length l.memory) act.layout.origin k)
      → Means m act.layout f (word_at (with_word l.memory w.place v) w.place)
      → Within ArePlain m h mode act (written k f s) (record l { memory = with_word l.memory w.place v })
  unfolding written
  after_word {s} {l} k f v a t w means = record {
    frame = same_frame (sym (length-with_word l.memory w.place v)) a.frame;
    knows = knows_changed (one_word k f)
        (write_follows m h (words_in m s.context).reads act.layout k l.memory f v w means) a.knows;
    named = (write_keeps m h (scope_of m s.context act.layout) k l.memory v t
        (written_readable m s.context k t) w).named a.named;
    same_mode = a.same_mode;
    modes = a.modes;
    whole = a.whole;
  }

  -- a word is known to be what it is
  after_said : {s : State} {l : Local} (k : ℤ) (f : Fact) → Within ArePlain m h mode act s l
      → Means m act.layout f (frame_word l.memory act.layout.origin k) → Within ArePlain m h mode act (written k f s) l
  unfolding written
  after_said {s} {l} k f a means = record {
    frame = a.frame;
    knows = knows_changed (one_word k f) (record {
      touched = λ j said inside e known. subst
          (λ (i : ℤ). Means m act.layout f (frame_word l.memory act.layout.origin i))
          (at_word j k e) means;
      kept = λ j inside e. refl;
    }) a.knows;
    named = a.named;
    same_mode = a.same_mode;
    modes = a.modes;
    whole = a.whole;
  }
    where
      at_word : (j k : ℤ) → is_same_number j k ≡ true → k ≡ j
      at_word j k e = elim (word_test j k) [
        | inl p ↦ sym p.1
        | inr p ↦ let no' : true ≡ false = sym e ∙ p.0 in absurd (cc)
      ]

  -- facts that say the same of each word
  after_facts : {s : State} {l : Local} {facts : Facts} → Within ArePlain m h mode act s l
      → ((k : ℤ) → s.frame k ≡ facts k) → Within ArePlain m h mode act (record s { frame = facts }) l
  after_facts {s} {l} {facts} a same = record {
    frame = a.frame;
    knows = record {
      registers = a.knows.registers;
      words = λ k inside. means_same (a.knows.words k inside) (same k) refl;
    };
    named = a.named;
    same_mode = a.same_mode;
    modes = a.modes;
    whole = a.whole;
  }

-- the state once the words below the workspace are taken
abbrev taken : State → State
taken s =
    let below = λ (n : ℕ). s.depth +ℤ negsuc n in
    written (below 2) Unknown (written (below 1) Unknown (written (below 0) Unknown s))

-- the words of a loop's block are not those below the workspace
beside_one : (s : State) (k : ℤ) (n : ℕ) → n < 3 → (s.depth ≤ℤ k) ⊎ ((k +ℤ pos 4) <ℤ s.depth)
    → (s.depth +ℤ negsuc n ≡ k → ⊥) × (s.depth +ℤ negsuc n ≡ k +ℤ pos 1 → ⊥)
beside_one s k n small (inl low) = (λ e. omega (arith, ints), λ e. omega (arith, ints))
beside_one s k n small (inr high) = (λ e. omega (arith, ints), λ e. omega (arith, ints))

-- so its index is known as before
taken_index : (s : State) (k : ℤ) (loop : CountedLoop) → (s.depth ≤ℤ k) ⊎ ((k +ℤ pos 4) <ℤ s.depth)
    → s.frame k ≡ Index loop → (taken s).frame k ≡ Index loop
unfolding written
taken_index s k loop beside is =
    let one = beside_one s k 0 (omega arith) beside in
    let two = beside_one s k 1 (omega arith) beside in
    let three = beside_one s k 2 (omega arith) beside in
    let first = with_fact (s.depth +ℤ negsuc 0) Unknown s.frame in
    index_kept (s.depth +ℤ negsuc 2) k Unknown (with_fact (s.depth +ℤ negsuc 1) Unknown first) loop
    (index_kept (s.depth +ℤ negsuc 1) k Unknown first loop
    (index_kept (s.depth +ℤ negsuc 0) k Unknown s.frame loop is one.0 one.1) two.0 two.1) three.0 three.1

-- the words of a loop that is over, and another word
past_block : (k d last : ℤ) → (d ≡ k → ⊥) × (d ≡ k +ℤ pos 1 → ⊥) → (facts : Facts) (i : ℤ)
    → with_fact d Unknown (with_fact k (Number last last)
    (with_fact (k +ℤ pos 1) (Number (pos 0) (pos 0)) facts)) i
    ≡ with_fact k (Number last last)
    (with_fact (k +ℤ pos 1) (Number (pos 0) (pos 0)) (with_fact d Unknown facts)) i
past_block k d last differ facts i =
    let none = Number (pos 0) (pos 0) in
    let j = k +ℤ pos 1 in
    with_facts_commute d k i Unknown (Number last last) (with_fact j none facts) differ.0
    ∙ with_fact_same k i (Number last last) (with_fact d Unknown (with_fact j none facts))
    (with_fact j none (with_fact d Unknown facts)) (with_facts_commute d j i Unknown none facts differ.1)

-- the words of a loop that is over may be written before those below the workspace
taken_after : (block : Block) (s : State) (i : ℤ)
    → (s.depth ≤ℤ block.word) ⊎ ((block.word +ℤ pos 4) <ℤ s.depth)
    → (taken (after_loop block s)).frame i ≡ (after_loop block (taken s)).frame i
unfolding written
taken_after block s i beside =
    let k = block.word in
    let d0 = s.depth +ℤ negsuc 0 in
    let d1 = s.depth +ℤ negsuc 1 in
    let d2 = s.depth +ℤ negsuc 2 in
    let over : Facts → Facts = λ facts. with_fact k (Number block.last block.last)
    (with_fact (k +ℤ pos 1) (Number (pos 0) (pos 0)) facts) in
    let one = past_block k d0 block.last (beside_one s k 0 (omega arith) beside) s.frame i in
    let two = past_block k d1 block.last (beside_one s k 1 (omega arith) beside) (with_fact d0 Unknown s.frame) i in
    let three = past_block k d2 block.last (beside_one s k 2 (omega arith) beside)
    (with_fact d1 Unknown (with_fact d0 Unknown s.frame)) i in
    with_fact_same d2 i Unknown (with_fact d1 Unknown (with_fact d0 Unknown (over s.frame)))
    (over (with_fact d1 Unknown (with_fact d0 Unknown s.frame)))
    (with_fact_same d1 i Unknown (with_fact d0 Unknown (over s.frame)) (over (with_fact d0 Unknown s.frame)) one ∙ two)
    ∙ three

module _ (x : Situation) where
  -- ---- the step, one combinator after another

  holds_fits : (b : Bool) (kind : FaultKind) (r : Ruling) (o : Outcome) → b ≡ true → FitsIf x r o
      → FitsIf x r (step.holds b kind o)
  unfolding step.holds
  holds_fits b kind r o is go = subst (λ (c : Bool). FitsIf x r (step.holds c kind o)) (sym is) go

  value_fits : (v : Option ℤ) (z : ℤ) (r : Ruling) (o : ℤ → Outcome) → v ≡ Some z → FitsIf x r (o z)
      → FitsIf x r (step.uses v o)
  unfolding step.uses
  value_fits v z r o is go = subst (λ (u : Option ℤ). FitsIf x r (step.uses u o)) (sym is) go

  found_fits : {A : Type 0} (found : Option A) (r : A → Ruling) (o : Outcome)
      → ((v : A) → found ≡ Some v → FitsIf x (r v) o) → FitsIf x (finds found r) o
  unfolding finds
  found_fits None r o go = λ next. it_breaks
  found_fits (Some v) r o go = go v refl

  -- the tests of the three words below the workspace, of the rule alone
  tests_fit : (s : State) (r : State → Ruling) (o : Outcome)
      → ((each : (n : ℕ) → n < 3 → rights.may_write_word x.m s.context (s.depth +ℤ negsuc n) ≡ true)
      → FitsIf x (r (taken s)) o)
      → FitsIf x (rule.schedules (rule_site x) s r) o
  unfolding rule.schedules
  tests_fit s r o go =
      writes_word_fits x s (negsuc 0) _ _ (λ t0. writes_word_fits x s (negsuc 1) _ _ (λ t1.
      writes_word_fits x s (negsuc 2) _ _ (λ t2. go (each t0 t1 t2))))
    where
      each : rights.may_write_word x.m s.context (s.depth +ℤ negsuc 0) ≡ true
          → rights.may_write_word x.m s.context (s.depth +ℤ negsuc 1) ≡ true
          → rights.may_write_word x.m s.context (s.depth +ℤ negsuc 2) ≡ true
          → (n : ℕ) → n < 3 → rights.may_write_word x.m s.context (s.depth +ℤ negsuc n) ≡ true
      each t0 t1 t2 zero small = t0
      each t0 t1 t2 (suc zero) small = t1
      each t0 t1 t2 (suc (suc zero)) small = t2
      each t0 t1 t2 (suc (suc (suc n))) small = absurd (omega arith)

  -- a word of the frame is written
  word_changes : (k : ℤ) (memory : Memory) (v : Option ℤ) → rights.may_write_word x.m x.context k ≡ true
      → (w : IsOwnWord x.h (length memory) x.act.layout.origin k) → Changes x memory
      → Changes x (with_word memory w.place v)
  word_changes k memory v t w changes = record {
    own = changes_more x.h x.memory memory (with_word memory w.place v) changes.own
        (write_is_own x.h memory w.place v w.mine);
    keeps = keeps_more changes.keeps (write_keeps x.m x.h (scope_of x.m x.context x.act.layout) k memory v t
        (written_readable x.m x.context k t) w);
  }

  below_fits : (turns : ℤ → ℕ) (s : State) (l : Local) (n : ℕ) (r : Ruling) (o : Local → Outcome)
      → Within ArePlain x.m x.h x.mode (with_turns turns x.act) s l → s.context ≡ x.context → Changes x l.memory → n < 3
      → rights.may_write_word x.m s.context (s.depth +ℤ negsuc n) ≡ true
      → ((memory : Memory) → Within ArePlain x.m x.h x.mode (with_turns turns x.act)
      (written (s.depth +ℤ negsuc n) Unknown s) (record l { memory = memory }) → Changes x memory
      → FitsIf x r (o (record l { memory = memory })))
      → FitsIf x r (step.writes (step_site x) (local_address l.registers.workspace (negsuc n)) None l o)
  below_fits turns s l n r o a same changes small t go =
      let k = s.depth +ℤ negsuc n in
      let w = a.frame.own k t in
      writes_fits x l (local_address l.registers.workspace (negsuc n)) w.place None r o
      (local_place a.frame (negsuc n) (omega (arith, ints)) w.place w.is w.inside) w.mine
      (go (with_word l.memory w.place None) (after_word k Unknown None a t w says_nothing)
      (word_changes k l.memory None (ap (λ (c : ℕ). rights.may_write_word x.m c k) (sym same) ∙ t) w changes))

  taken_fits : (turns : ℤ → ℕ) (s : State) (l : Local) (r : Ruling) (o : Local → Outcome)
      → Within ArePlain x.m x.h x.mode (with_turns turns x.act) s l → s.context ≡ x.context → Changes x l.memory
      → ((n : ℕ) → n < 3 → rights.may_write_word x.m s.context (s.depth +ℤ negsuc n) ≡ true)
      → ((memory : Memory) → Within ArePlain x.m x.h x.mode (with_turns turns x.act) (taken s)
      (record l { memory = memory })
      → Changes x memory → FitsIf x r (o (record l { memory = memory })))
      → FitsIf x r (step.schedules (step_site x) l o)
  unfolding step.schedules written
  taken_fits turns s l r o a same changes each go =
      let s1 = written (s.depth +ℤ negsuc 0) Unknown s in
      let s2 = written (s.depth +ℤ negsuc 1) Unknown s1 in
      below_fits turns s l 0 r _ a same changes (omega arith) (each 0 (omega arith)) (λ m1 a1 c1.
      below_fits turns s1 (record l { memory = m1 }) 1 r _ a1 same c1 (omega arith) (each 1 (omega arith)) (λ m2 a2 c2.
      below_fits turns s2 (record l { memory = m2 }) 2 r o a2 same c2 (omega arith) (each 2 (omega arith)) (λ m3 a3 c3.
      go m3 a3 c3)))

-- ---- lend

-- what the step leaves of the block, where the loop turns or ends
abbrev turned_by : Bool → ℕ → ℤ → ℤ → Local → Local
turned_by more block index count l =
    let counted = with_word l.memory (place_of (local_address block (pos 1)))
    (Some (step.word_of ((step.address count + (2 ^ 32 - 1)) % 2 ^ 32))) in
    record l {
      memory = cond more (with_word counted (place_of block)
          (Some (step.word_of ((step.address index + 1) % 2 ^ 32)))) counted;
    }

module _ (x : Situation) (wf : IsWellFormed x.m) (s : State) (l : Local) (a : Within ArePlain x.m x.h x.mode x.act s l)
    (even : IsTrue (is_stepped x.act.layout.origin))
    (near : (k : ℤ) → rights.may_write_word x.m s.context k ≡ true → (neg_ℤ (pos farthest_word) ≤ℤ k)
    × (k <ℤ pos farthest_word))
    (same : s.context ≡ x.context) (changes : Changes x l.memory) (n : owed s x.act ≤ x.owed) (fact distance : Fact)
    (block : Block) (begins : Beginning) (found : FindsBlock (rule_site x) s fact block.word block)
    (start : FindsBeginning (rule_site x) distance begins)
    (each : (n : ℕ) → n < 3 → rights.may_write_word x.m s.context (s.depth +ℤ negsuc n) ≡ true) where
  abbrev k : ℤ
  k = block.word

  beside : (s.depth ≤ℤ k) ⊎ ((k +ℤ pos 4) <ℤ s.depth)
  beside = beside_words s.depth k found.beside

  abbrev first : IsOwnWord x.h (length l.memory) x.act.layout.origin k
  first = a.frame.own k found.first

  abbrev second : IsOwnWord x.h (length l.memory) x.act.layout.origin (k +ℤ pos 1)
  second = a.frame.own (k +ℤ pos 1) found.second

  -- the state without registers, with this number to pay
  abbrev settled : ℕ → State
  settled number = record s { stack = of_empty unknown; number = number }

  unknown_registers : {memory : Memory} {stack : Stack (Option ℤ)}
      → AreRelated (MeansKnown x.m (words_in x.m s.context).reads x.act.layout memory) (of_empty unknown) stack
  unknown_registers = record { a = unknown_means; b = unknown_means; c = unknown_means }

  after_settled : (number : ℕ) → Within ArePlain x.m x.h x.mode x.act (settled number) l
  after_settled number = after_stack x a unknown_registers

  -- ---- the loop is over

  over : (number : ℕ) → (v : ℤ) → frame_word l.memory x.act.layout.origin k ≡ Some v → v ≡ block.last
      → FitsSigned w32 v
      → Within ArePlain x.m x.h x.mode x.act (after_loop block (settled number))
      (record l { memory = with_word l.memory second.place (Some (pos 0)) })
  over number v is last fits =
      after_said k (Number block.last block.last)
      (after_word (k +ℤ pos 1) (Number (pos 0) (pos 0)) (Some (pos 0)) (after_settled number) found.second second
      (stored_means x.m x.act.layout (Number (pos 0) (pos 0)) (pos 0) l.memory second.place second.inside
      (is_number (omega (arith, ints)) (omega (arith, ints)) (omega (arith, ints)))))
      (subst (λ (u : Option ℤ). Means x.m x.act.layout (Number block.last block.last) u)
      (sym (word_elsewhere l.memory x.act.layout.origin k (k +ℤ pos 1) second.place (Some (pos 0)) second.is
      (λ e. omega (arith, ints)) ∙ is))
      (is_number (omega (arith, ints, last)) (omega (arith, ints, last)) fits))

  falls_fit : (number : ℕ) (r : Ruling) (memory : Memory)
      → falling r ≡ Some (after_loop block (taken (settled number)))
      → Within ArePlain x.m x.h x.mode x.act (taken (after_loop block (settled number))) (record l { memory = memory })
      → Changes x memory → number + dues (taken s).frame x.act.turns + x.len ≤ x.owed
      → FitsIf x r (step.leads_to (step_site x) (x.at + x.len) (step.without_registers (record l { memory = memory })))
  unfolding step.leads_to written
  falls_fit number r memory is b c left next =
      let low = next _ is in
      let less = written_owed (k +ℤ pos 1) (Number (pos 0) (pos 0)) (taken (settled number)) x.act in
      let rest = written_owed k (Number block.last block.last)
      (written (k +ℤ pos 1) (Number (pos 0) (pos 0)) (taken (settled number))) x.act in
      on_step_test x (ltb (x.at + x.len) (length x.m.code)) r _ _
      (λ u next. it_falls is is_jump low
      (whole_after (after_stack x (after_facts b (λ i. taken_after block (settled number) i beside)) unknown_registers))
      same c
      (omega (arith, less, rest, left)) (λ busy. absurd (busy a.same_mode.step)))
      (λ u. absurd (below_not _ _ low u)) next

  -- ---- the loop turns

  readable_second : (words_in x.m s.context).reads (k +ℤ pos 1) ≡ true
  readable_second = written_readable x.m s.context (k +ℤ pos 1) found.second

  readable_first : (words_in x.m s.context).reads k ≡ true
  readable_first = written_readable x.m s.context k found.first

  abbrev turning : Activation
  turning = with_turns (one_turn_less x.act.turns k) x.act

  one_less_here : one_turn_less x.act.turns k k ≡ x.act.turns k - 1
  one_less_here = elim (word_test k k) [
    | inl p ↦ ap (λ (b : Bool). cond b (x.act.turns k - 1) (x.act.turns k)) p.0
    | inr p ↦ absurd (p.1 refl)
  ]

  abbrev counted : ℕ → Memory
  counted t = with_word l.memory second.place (Some (pos (t - 1)))

  abbrev turned_memory : ℕ → ℤ → Memory
  turned_memory t v = with_word (counted t) first.place (Some (v +ℤ pos 1))

  same_length : (t : ℕ) → length (counted t) ≡ length l.memory
  same_length t = length-with_word l.memory second.place (Some (pos (t - 1)))

  abbrev first_again : (t : ℕ) → IsOwnWord x.h (length (counted t)) x.act.layout.origin k
  first_again t = record {
    place = first.place;
    is = first.is;
    inside = subst (λ (size : ℕ). first.place + 4 ≤ size) (sym (same_length t)) first.inside;
    mine = first.mine;
  }

  index_now : (t : ℕ) (v : ℤ) → FitsSigned w32 (v +ℤ pos 1)
      → frame_word (turned_memory t v) x.act.layout.origin k ≡ Some (v +ℤ pos 1)
  index_now t v fits =
      frame_word_is (turned_memory t v) x.act.layout.origin k first.place first.is
      ∙ word_at-with_word (counted t) first.place (v +ℤ pos 1) (first_again t).inside fits

  count_now : (t : ℕ) (v : ℤ) → 1 ≤ t → t < 2147483648
      → frame_word (turned_memory t v) x.act.layout.origin (k +ℤ pos 1) ≡ Some (pos (t - 1))
  count_now t v some small =
      word_elsewhere (counted t) x.act.layout.origin (k +ℤ pos 1) k first.place (Some (v +ℤ pos 1)) first.is
      (λ e. omega (arith, ints))
      ∙ (frame_word_is (counted t) x.act.layout.origin (k +ℤ pos 1) second.place second.is
      ∙ word_at-with_word l.memory second.place (pos (t - 1)) second.inside (omega (arith, ints)))

  others_now : (t : ℕ) (v : ℤ) (j : ℤ) → (j ≡ k → ⊥) → (j ≡ k +ℤ pos 1 → ⊥)
      → frame_word (turned_memory t v) x.act.layout.origin j ≡ frame_word l.memory x.act.layout.origin j
  others_now t v j one two =
      word_elsewhere (counted t) x.act.layout.origin j k first.place (Some (v +ℤ pos 1)) first.is one
      ∙ word_elsewhere l.memory x.act.layout.origin j (k +ℤ pos 1) second.place (Some (pos (t - 1))) second.is two

  words_now : (t : ℕ) (v : ℤ) → x.act.turns k ≡ t → 2 ≤ t → t ≤ block.turning.count → t < 2147483648
      → t ≤ found.is.other.count → v ≡ block.turning.base +ℤ pos block.turning.count -ℤ pos t
      → FitsSigned w32 (v +ℤ pos 1) → (j : ℤ) → (words_in x.m s.context).reads j ≡ true
      → MeansWord x.m turning j (s.frame j) (frame_word (turned_memory t v) x.act.layout.origin j)
  words_now t v turns some most small other worth fits j inside = elim (word_test j k) [
    | inl p ↦ subst (λ (i : ℤ). MeansWord x.m turning i (s.frame i)
        (frame_word (turned_memory t v) x.act.layout.origin i)) (sym p.1)
        (means_same (is_index {loop = block.turning} (omega (arith, less)) (omega (arith, less))
        (omega (arith, ints, less)) fits) (sym found.is.index) (sym (index_now t v fits)))
    | inr p ↦ elim (word_test j (k +ℤ pos 1)) [
      | inl q ↦ subst (λ (i : ℤ). MeansWord x.m turning i (s.frame i)
          (frame_word (turned_memory t v) x.act.layout.origin i)) (sym q.1)
          (means_same (is_count {loop = found.is.other} (omega (arith, back)) (omega (arith, back))
          (omega (arith, ints, back)) (omega (arith, ints))) (sym found.is.count)
          (sym (count_now t v (omega arith) small)))
      | inr q ↦ means_same (turned_means x.m x.act k j (s.frame j) _ p.1 q.1 (a.knows.words j inside)) refl
          (sym (others_now t v j p.1 q.1))
    ]
  ]
    where
      less : one_turn_less x.act.turns k k ≡ t - 1
      less = one_less_here ∙ ap (λ (n : ℕ). n - 1) turns

      back : one_turn_less x.act.turns k (k +ℤ pos 1 -ℤ pos 1) ≡ t - 1
      back = let here : k +ℤ pos 1 -ℤ pos 1 ≡ k = omega (arith, ints) in ap (one_turn_less x.act.turns k) here ∙ less

  after_turned : (number t : ℕ) (v : ℤ) → x.act.turns k ≡ t → 2 ≤ t → t ≤ block.turning.count → t < 2147483648
      → t ≤ found.is.other.count → v ≡ block.turning.base +ℤ pos block.turning.count -ℤ pos t
      → FitsSigned w32 (v +ℤ pos 1)
      → Within ArePlain x.m x.h x.mode turning (settled number) (record l { memory = turned_memory t v })
  after_turned number t v turns some most small other worth fits = record {
    frame = same_frame (sym (length-with_word (counted t) first.place (Some (v +ℤ pos 1)) ∙ same_length t)) a.frame;
    knows = record {
      registers = unknown_registers;
      words = words_now t v turns some most small other worth fits;
    };
    named = (write_keeps x.m x.h (scope_of x.m s.context x.act.layout) k (counted t) (Some (v +ℤ pos 1)) found.first
        readable_first (first_again t)).named
        ((write_keeps x.m x.h (scope_of x.m s.context x.act.layout) (k +ℤ pos 1) l.memory (Some (pos (t - 1)))
        found.second readable_second second).named a.named);
    same_mode = a.same_mode;
    modes = a.modes;
    whole = a.whole;
  }

  turned_changes : (t : ℕ) (v : ℤ) → Changes x (turned_memory t v)
  turned_changes t v =
      word_changes x k (counted t) (Some (v +ℤ pos 1))
      (ap (λ (c : ℕ). rights.may_write_word x.m c k) (sym same) ∙ found.first) (first_again t)
      (word_changes x (k +ℤ pos 1) l.memory (Some (pos (t - 1)))
      (ap (λ (c : ℕ). rights.may_write_word x.m c (k +ℤ pos 1)) (sym same) ∙ found.second) second changes)

  leads_fit : (number cost : ℕ) (r : Ruling) (memory : Memory) → leading r ≡ begins.at ∷ []
      → compared (number + block.turning.weight) (view (taken (settled number))) begins.label ≡ Ok cost
      → 2 ≤ x.act.turns k
      → Within ArePlain x.m x.h x.mode turning (taken (settled number)) (record l { memory = memory })
      → Changes x memory → number + dues (taken s).frame x.act.turns + x.len ≤ x.owed
      → FitsIf x r (step.leads_to (step_site x) begins.at (step.without_registers (record l { memory = memory })))
  unfolding step.leads_to written below
  leads_fit number cost r memory led is some b c left =
      let t = begins.label in
      let e = start.label in
      let after = record (taken (settled number)) { number = number + block.turning.weight } in
      let g = below_tells after t cost is in
      let less = label_owed after t cost turning (wf.pairs begins.at t e) is in
      let close = near k found.first in
      let turned = turned_dues (taken s).frame x.act.turns k block.turning
      (taken_index s k block.turning beside found.is.index) some close.0 close.1 in
      on_step_test x (ltb begins.at (length x.m.code)) r _ _
      (λ u next. it_leads (label_turns after.frame t.entries (one_turn_less x.act.turns k)) led is_jump e
      (wf.labels begins.at t e)
      (label_after x.m x.h x.mode turning after t _ wf begins.at e g.1
      (whole_after (after_stack (record x { act = turning }) {number = number + block.turning.weight}
      b unknown_registers)))
      (sym g.1.context ∙ same) c (omega (arith, less, turned, left)))
      (λ u. absurd (below_not begins.at (length x.m.code) (wf.labels begins.at t e) u))

  -- ---- what the step does to the block

  low_place : first.place < 1048576
  low_place = omega (arith, a.frame.small, first.inside)

  next_place : second.place ≡ first.place + 4
  next_place = let one = first.is in let two = second.is in omega (arith, ints)

  index : IsIndexValue (x.act.turns k) block.turning (frame_word l.memory x.act.layout.origin k)
  index = index_value x.m x.act k block.turning _ (means_same (a.knows.words k readable_first) found.is.index refl)

  count : IsCountValue (x.act.turns k) found.is.other (frame_word l.memory x.act.layout.origin (k +ℤ pos 1))
  count = count_value x.m x.act k found.is.other _
      (means_same (a.knows.words (k +ℤ pos 1) readable_second) found.is.count refl)

  -- where a loop goes on, in the end
  ends_at : Bool → ℤ → Local → Outcome
  ends_at more va l =
      step.leads_to (step_site x)
      (cond more (target (x.at + x.len) (step.word_of ((2 ^ 32 - step.address va) % 2 ^ 32))) (x.at + x.len))
      (step.without_registers l)

  on_compared : (number : ℕ) (o : Outcome)
      → ((cost : ℕ) → compared (number + block.turning.weight) (view (taken (settled number))) begins.label ≡ Ok cost
      → FitsIf x (falls_or_leads (after_loop block (taken (settled number))) begins.at) o)
      → (ltb 1 block.turning.count ≡ false → FitsIf x (falls (after_loop block (taken (settled number)))) o)
      → FitsIf x (turns block begins (taken (settled number))) o
  unfolding turns written
  on_compared number o turn fall = on_rule_test x (ltb 1 block.turning.count) _ _ _
      (λ u. on_result (compared (number + block.turning.weight) (view (taken (settled number))) begins.label) refl) fall
    where
      on_result : (r : Result ℕ Rule)
          → compared (number + block.turning.weight) (view (taken (settled number))) begins.label ≡ r
          → FitsIf x (elim r as (λ r. Ruling) [
            | Ok cost ↦ falls_or_leads (after_loop block (taken (settled number))) begins.at
            | Err broken ↦ breaks broken
          ]) o
      on_result (Ok cost) is = turn cost is
      on_result (Err broken) is = λ next. it_breaks

  -- no turn is left
  ends_fit : (number : ℕ) (va : ℤ) → x.act.turns k ≡ 1
      → number + dues (taken s).frame x.act.turns + x.len ≤ x.owed
      → FitsIf x (turns block begins (taken (settled number)))
      (step.schedules (step_site x) (record l { memory = counted 1 }) (ends_at false va))
  unfolding ends_at written
  ends_fit number va one left =
      on_compared number _ (λ cost is. fall (falls_or_leads (after_loop block (taken (settled number))) begins.at) refl)
      (λ u. fall (falls (after_loop block (taken (settled number)))) refl)
    where
      fall : (r : Ruling) → falling r ≡ Some (after_loop block (taken (settled number)))
          → FitsIf x r (step.schedules (step_site x) (record l { memory = counted 1 }) (ends_at false va))
      fall r is = taken_fits x x.act.turns (after_loop block (settled number)) (record l { memory = counted 1 }) r _
          (over number index.value index.is
          (index.worth ∙ (ap (λ (t : ℕ). block.turning.base +ℤ pos block.turning.count -ℤ pos t) one
          ∙ sym found.is.last)) index.fits) same
          (word_changes x (k +ℤ pos 1) l.memory (Some (pos 0))
          (ap (λ (c : ℕ). rights.may_write_word x.m c (k +ℤ pos 1)) (sym same) ∙ found.second) second changes) each
          (λ memory b c. falls_fit number r memory is b c left)

  -- some are
  turns_fit : (number : ℕ) (va : ℤ) → 2 ≤ x.act.turns k
      → target (x.at + x.len) (step.word_of ((2 ^ 32 - step.address va) % 2 ^ 32)) ≡ begins.at
      → FitsSigned w32 (index.value +ℤ pos 1)
      → number + dues (taken s).frame x.act.turns + x.len ≤ x.owed
      → FitsIf x (turns block begins (taken (settled number)))
      (step.schedules (step_site x) (record l { memory = turned_memory (x.act.turns k) index.value }) (ends_at true va))
  unfolding ends_at written
  turns_fit number va some to fits left =
      on_compared number _ turned
      (λ u. let more : true ≡ false = sym (lt-ltb 1 block.turning.count (omega (arith, index.most))) ∙ u in absurd (cc))
    where
      turned : (cost : ℕ)
          → compared (number + block.turning.weight) (view (taken (settled number))) begins.label ≡ Ok cost
          → FitsIf x (falls_or_leads (after_loop block (taken (settled number))) begins.at)
          (step.schedules (step_site x) (record l { memory = turned_memory (x.act.turns k) index.value })
          (ends_at true va))
      turned cost is =
          let r = falls_or_leads (after_loop block (taken (settled number))) begins.at in
          taken_fits x (one_turn_less x.act.turns k) (settled number)
          (record l { memory = turned_memory (x.act.turns k) index.value }) r _
          (after_turned number (x.act.turns k) index.value refl some index.most count.small count.most index.worth fits)
          same (turned_changes (x.act.turns k) index.value) each
          (λ memory b c. subst (λ (n : ℕ). FitsIf x r (step.leads_to (step_site x) n
          (step.without_registers (record l { memory = memory })))) (sym to)
          (leads_fit number cost r memory refl is some b c left))

  -- the block's address
  abbrev address : ℕ
  address = data_start + first.place

  here : place_of address ≡ first.place
  here = place_here first.place low_place

  behind : place_of (local_address address (pos 1)) ≡ second.place
  behind = place_next first.place low_place ∙ sym next_place

  counted_is : (t : ℕ) → x.act.turns k ≡ t → 1 ≤ t → t < 2147483648
      → with_word l.memory (place_of (local_address address (pos 1)))
      (Some (step.word_of ((step.address (pos t) + (2 ^ 32 - 1)) % 2 ^ 32))) ≡ counted t
  counted_is t is some small =
      ap (λ (p : ℕ). with_word l.memory p (Some (step.word_of ((step.address (pos t) + (2 ^ 32 - 1)) % 2 ^ 32)))) behind
      ∙ ap (λ (v : ℤ). with_word l.memory second.place (Some v)) (one_less t some small)

  turned_is : (v : ℤ) (t : ℕ) → FitsSigned w32 v → FitsSigned w32 (v +ℤ pos 1) → (memory : Memory)
      → memory ≡ counted t
      → with_word memory (place_of address) (Some (step.word_of ((step.address v + 1) % 2 ^ 32))) ≡ turned_memory t v
  turned_is v t fits more memory is =
      ap (λ (m : Memory). with_word m (place_of address) (Some (step.word_of ((step.address v + 1) % 2 ^ 32)))) is
      ∙ (ap (λ (p : ℕ). with_word (counted t) p (Some (step.word_of ((step.address v + 1) % 2 ^ 32)))) here
      ∙ ap (λ (z : ℤ). with_word (counted t) first.place (Some z)) (one_more v fits more))

  more_turns : (t : ℕ) → 1 ≤ t
      → ((t ≡ 1) × (int_lt (pos 1) (pos t) ≡ false)) ⊎ ((2 ≤ t) × (int_lt (pos 1) (pos t) ≡ true))
  more_turns zero some = absurd (omega arith)
  more_turns (suc zero) some = inl (refl, refl)
  more_turns (suc (suc t)) some = inr (omega arith, lt-int_lt (pos 1) (pos (suc (suc t))) (omega (arith, ints)))

  by_turns : (number : ℕ) (va : ℤ)
      → target (x.at + x.len) (step.word_of ((2 ^ 32 - step.address va) % 2 ^ 32)) ≡ begins.at
      → number + dues (taken s).frame x.act.turns + x.len ≤ x.owed → (t : ℕ) → x.act.turns k ≡ t
      → FitsIf x (turns block begins (taken (settled number)))
      (step.schedules (step_site x) (turned_by (int_lt (pos 1) (pos t)) address index.value (pos t) l)
      (ends_at (int_lt (pos 1) (pos t)) va))
  by_turns number va to left t is = elim (more_turns t some) [
    | inl p ↦ subst (λ (b : Bool). FitsIf x R (step.schedules (step_site x) (turned_by b address index.value (pos t) l)
        (ends_at b va))) (sym p.1)
        (subst (λ (m : Memory). FitsIf x R (step.schedules (step_site x) (record l { memory = m }) (ends_at false va)))
        (sym (counted_is t is some small ∙ ap (λ (n : ℕ). counted n) p.0)) (ends_fit number va (is ∙ p.0) left))
    | inr p ↦ subst (λ (b : Bool). FitsIf x R (step.schedules (step_site x) (turned_by b address index.value (pos t) l)
        (ends_at b va))) (sym p.1)
        (subst (λ (m : Memory). FitsIf x R (step.schedules (step_site x) (record l { memory = m }) (ends_at true va)))
        (sym (turned_is index.value t index.fits (more p.0) _ (counted_is t is some small)
        ∙ ap (λ (n : ℕ). turned_memory n index.value) (sym is)))
        (turns_fit number va (subst (λ (n : ℕ). 2 ≤ n) (sym is) p.0) to (more p.0) left))
  ]
    where
      R : Ruling
      R = turns block begins (taken (settled number))

      some : 1 ≤ t
      some = subst (λ (n : ℕ). 1 ≤ n) is index.some

      small : t < 2147483648
      small = subst (λ (n : ℕ). n < 2147483648) is count.small

      more : 2 ≤ t → FitsSigned w32 (index.value +ℤ pos 1)
      more two =
          let worth = index.worth in
          let last = found.is.last in
          let high = found.is.high in
          let fits = index.fits in
          omega (arith, ints, is, two)

  -- the step, from the block's address on
  tail : ℤ → ℕ → Outcome
  tail va d =
      step.holds (may_write_word x.h (place_of d) && may_write_word x.h (place_of (local_address d (pos 1)))) NotOwn
      (step.schedules (step_site x) l (λ later.
      step.uses (word_at l.memory (place_of d)) (λ i.
      step.uses (word_at l.memory (place_of (local_address d (pos 1)))) (λ c.
      step.schedules (step_site x) (turned_by (int_lt (pos 1) c) d i c l) (ends_at (int_lt (pos 1) c) va)))))

  tail_fits : (number : ℕ) (va : ℤ)
      → target (x.at + x.len) (step.word_of ((2 ^ 32 - step.address va) % 2 ^ 32)) ≡ begins.at
      → number + dues (taken s).frame x.act.turns + x.len ≤ x.owed
      → FitsIf x (turns block begins (taken (settled number))) (tail va address)
  unfolding tail
  tail_fits number va to left =
      holds_fits x _ NotOwn _ _
      (and_from _ _ (ap (may_write_word x.h) here ∙ first.mine) (ap (may_write_word x.h) behind ∙ second.mine))
      (taken_fits x x.act.turns (settled number) l _ _ (after_settled number) same changes each (λ memory b c.
      value_fits x _ index.value _ _
      (ap (word_at l.memory) here
      ∙ (sym (frame_word_is l.memory x.act.layout.origin k first.place first.is) ∙ index.is))
      (value_fits x _ (pos (x.act.turns k)) _ _
      (ap (word_at l.memory) behind
      ∙ (sym (frame_word_is l.memory x.act.layout.origin (k +ℤ pos 1) second.place second.is) ∙ count.is))
      (by_turns number va to left (x.act.turns k) refl))))

  aligned_fits : (number : ℕ) (va u : ℤ) → step.address u ≡ address
      → target (x.at + x.len) (step.word_of ((2 ^ 32 - step.address va) % 2 ^ 32)) ≡ begins.at
      → number + dues (taken s).frame x.act.turns + x.len ≤ x.owed
      → FitsIf x (turns block begins (taken (settled number))) (step.aligned u (tail va))
  unfolding step.aligned
  aligned_fits number va u is to left =
      on_step_test x (step.address u % 4 == 0) _ _ _
      (λ t. subst (λ (d : ℕ). FitsIf x (turns block begins (taken (settled number))) (tail va d)) (sym is)
      (tail_fits number va to left))
      (λ t. let no' : true ≡ false = sym (even_address u is) ∙ t in absurd (cc))
    where
      even_place : (origin : ℤ) → IsTrue (is_stepped origin) → pos first.place ≡ place_in origin k → first.place % 4 ≡ 0
      even_place (pos m) h e = let zero' : m % 4 ≡ 0 = eqb-true (m % 4) 0 h in omega (arith, ints)
      even_place (negsuc m) h e = let zero' : suc m % 4 ≡ 0 = eqb-true (suc m % 4) 0 h in omega (arith, ints)

      even_address : (u : ℤ) → step.address u ≡ address → (step.address u % 4 == 0) ≡ true
      even_address u e = eq-eqb (step.address u % 4) 0
          (let low = even_place x.act.layout.origin even first.is in ap (λ (n : ℕ). n % 4) e ∙ omega (arith, low))

-- The rule of lend and its step fit, where the frame lies at a multiple of 4 and no word of it that may be written is
-- farther from its word 0 than any is.
module _ (x : Situation) (wf : IsWellFormed x.m) (s : State) (l : Local) (a : Within ArePlain x.m x.h x.mode x.act s l)
    (even : IsTrue (is_stepped x.act.layout.origin))
    (near : (k : ℤ) → rights.may_write_word x.m s.context k ≡ true
    → (neg_ℤ (pos farthest_word) ≤ℤ k) × (k <ℤ pos farthest_word))
    (same : s.context ≡ x.context) (changes : Changes x l.memory) (n : owed s x.act ≤ x.owed) where
  taken_owed : owed (taken s) x.act ≤ owed s x.act
  unfolding written
  taken_owed =
      let one = written_owed (s.depth +ℤ negsuc 0) Unknown s x.act in
      let two = written_owed (s.depth +ℤ negsuc 1) Unknown (written (s.depth +ℤ negsuc 0) Unknown s) x.act in
      let three = written_owed (s.depth +ℤ negsuc 2) Unknown
      (written (s.depth +ℤ negsuc 1) Unknown (written (s.depth +ℤ negsuc 0) Unknown s)) x.act in
      omega (arith, one, two, three)

  block_fits : (va u : ℤ) (begins : Beginning) (block : Block)
      → Means x.m x.act.layout s.stack.a.fact (Some va) → Means x.m x.act.layout s.stack.b.fact (Some u)
      → beginning (rule_site x) s.stack.a.fact ≡ Some begins → block_of (rule_site x) s s.stack.b.fact ≡ Some block
      → FitsIf x (rule.schedules (rule_site x) s (λ s. rule.pays (rule_site x) s
      (λ s. turns block begins (rule.without_registers s))))
      (step.aligned u (λ d.
      step.holds (may_write_word x.h (place_of d) && may_write_word x.h (place_of (local_address d (pos 1)))) NotOwn
      (step.schedules (step_site x) l (λ later.
      step.uses (word_at l.memory (place_of d)) (λ i.
      step.uses (word_at l.memory (place_of (local_address d (pos 1)))) (λ c.
      step.schedules (step_site x) (step.turned d i c l) (λ l.
      step.leads_to (step_site x) (cond (int_lt (pos 1) c)
      (target (x.at + x.len) (step.word_of ((2 ^ 32 - step.address va) % 2 ^ 32))) (x.at + x.len))
      (step.without_registers l))))))))
  unfolding written tail ends_at
  block_fits va u begins block first second st bl =
      let start = finds_beginning (rule_site x) s.stack.a.fact begins st in
      let some = finds_block (rule_site x) s s.stack.b.fact block bl in
      let found = subst (λ (j : ℤ). FindsBlock (rule_site x) s s.stack.b.fact j block) (sym some.1.is.word) some.1 in
      let place = a.frame.own block.word found.first in
      let to = constant_back x.m x.act.layout (x.at + x.len) start.back va start.some
      (subst (λ (f : Fact). Means x.m x.act.layout f (Some va)) start.is first) ∙ sym start.at in
      let address = pointed_address x.m x.act.layout block.word found.leads.step u place.place
      (subst (λ (f : Fact). Means x.m x.act.layout f (Some u)) found.leads.is second) place.is
      (omega (arith, a.frame.small, place.inside)) in
      tests_fit x s _ _ (λ each.
      pays_fits x (taken s) (λ s. turns block begins (rule.without_registers s)) _
      (omega (arith, taken_owed, n)) (λ left.
      aligned_fits x wf s l a even near same changes n s.stack.b.fact s.stack.a.fact block begins found start each
      (s.number - x.len) va u address to left))

  pub lend_fits : FitsIf x (table.local_operation_rule (rule_site x) operations.LoopEnd s)
      (step.operation_step (step_site x) operations.LoopEnd l)
  unfolding table.local_operation_rule step.operation_step
  lend_fits =
      in_plain_step x s a.same_mode _ _ (uses_fits x s.stack.a l.registers.stack.a _ _ a.knows.registers.a (λ va first.
      uses_fits x s.stack.b l.registers.stack.b _ _ a.knows.registers.b (λ u second.
      in_plain_rule x s a.same_mode _ _
      (found_fits x (beginning (rule_site x) s.stack.a.fact) _ _ (λ begins st.
      found_fits x (block_of (rule_site x) s s.stack.b.fact) _ _ (λ block bl.
      beside_plain_rule x s a.same_mode _ _ (block_fits va u begins block first.fact second.fact st bl)))))))
