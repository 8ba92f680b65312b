-- After a start the branch is at its label: what the starter knows of the branch's words says what the label does.
use Rattle.std.proofs.Common.{◌≡◌, ℕ, zero, suc, ◌*◌, ◌≤◌, ◌&&◌, not, Bool, true, false, ℤ, pos}
use Rattle.std.proofs.Common.{◌+ℤ◌, neg_ℤ, Some, Ok, Err, refl, sym, ap, ◌∙◌}
use Rattle.std.proofs.Common.{arith, if◌then◌else◌}
use Rattle.std.proofs.lemmas.Bool.{le-ltb, and_from}
use Rattle.std.proofs.lemmas.Int.{ints}
use Rattle.std.specs.Prelude.{int_le, int_lt}
use Rattle.small_laws.proofs.Comparisons.{lt-int_lt, le-int_le}
use Rattle.module_format.specs.declared.fact.Fact.TheVariants.{Unknown}
use Rattle.module_format.specs.Contents.{Contents, Label, label_at}
use Rattle.certificate.specs.Starting.{is_scheduling_word}
use Rattle.certificate.specs.Rights.{may_read_word}
use Rattle.machine_state.specs.BranchContexts.{context_of}
use Rattle.machine_state.specs.declared.process.Mode.TheVariants as machine
use Rattle.machine_state.specs.Holding.{Holding}
use Rattle.machine_state.specs.JoinLookups.{Found}
use Rattle.machine_state.specs.Memory.{Memory}
use Rattle.states.specs.declared.rule.Rule.TheVariants as rules
use Rattle.states.specs.declared.known.WordFact.TheVariants.{Alone}
use Rattle.states.specs.State.{State, Facts, fresh_state, plain}
use Rattle.states.specs.Below.{cost, agrees, below, view}
use Rattle.rulings.specs.Meaning.{Activation, MeansWord, is_fact, nothing_known, frame_word, IsWellFormed, loop_due}
use Rattle.rulings.specs.Meaning.{dues_from, dues, farthest_word, label_turns}
use Rattle.rulings.proofs.Dues.{label_owed}
use Rattle.rulings.proofs.Entering.{below_tells, label_after}
use Rattle.rulings.proofs.Words.{plain_means}
use Rattle.par_rules.specs.Comparisons.{branch_facts, branch_view}
use Rattle.share_laws.specs.GoingOn.{BeginsAs}
use Rattle.share_laws.specs.Taking.{IsScheduling}
use Rattle.share_laws.proofs.BranchBegins.{branches_begin}
use Rattle.start_laws.specs.BranchLabels.{BranchLabel, BeginsAtLabel, owed_at_label}

-- ---- facts by themselves

-- no loops are known, and none is to pay
none_from : (facts : Facts) (turns : ℤ → ℕ) → ((k : ℤ) → loop_due (facts k) (turns k) ≡ 0) → (word : ℤ) (more : ℕ)
    → dues_from facts turns word more ≡ 0
none_from facts turns none word zero = refl
none_from facts turns none word (suc more) =
    let here = none word in
    let rest = none_from facts turns none (word +ℤ pos 1) more in
    omega (arith, here, rest)

none_due : (facts : Facts) (turns : ℤ → ℕ) → ((k : ℤ) → loop_due (facts k) (turns k) ≡ 0) → dues facts turns ≡ 0
unfolding dues
none_due facts turns none = none_from facts turns none (neg_ℤ (pos farthest_word)) (2 * farthest_word)

-- ---- a state that may go on

-- one that is no less, and knows enough
pub is_below : (s : State) (t : Label) → cost (view s) t ≤ s.number → agrees (view s) t ≡ true
    → below s t ≡ Ok (cost (view s) t)
unfolding below
is_below s t covers holds =
    ap (λ (b : Bool). if b then Err rules.Budget
    else (if agrees (view s) t then Ok (cost (view s) t) else Err rules.Label))
    (le-ltb s.number (cost (view s) t) covers)
    ∙ ap (λ (b : Bool). if b then Ok (cost (view s) t) else Err rules.Label) holds

-- ---- where a branch begins

module _ (m : Contents) (found : Found) (s : State) (t : Label) where
  -- what a branch knows where it begins
  abbrev pub facts_there : Facts
  facts_there = branch_facts m (context_of m found) found.branch.workspace s.frame

  -- what the label of the branch costs
  abbrev pub label_cost : ℕ
  label_cost = cost (branch_view m (context_of m found) found.branch s) t

  -- the state in which the branch begins, with what its label costs
  abbrev pub state_there : State
  state_there = fresh_state (context_of m found) found.branch.workspace label_cost facts_there

  -- its words are in no loop
  nothing_due : (turns : ℤ → ℕ) (k : ℤ) → loop_due (facts_there k) (turns k) ≡ 0
  nothing_due turns k =
      on (may_read_word m (context_of m found) k && not (is_scheduling_word found.branch.workspace k))
    where
      on : (b : Bool) → loop_due (if b then Alone (plain (s.frame k)) else Alone Unknown) (turns k) ≡ 0
      on true = refl
      on false = refl

  -- of a word that scheduling takes nothing is known
  taken : (k : ℤ) → IsScheduling found k → facts_there k ≡ Alone Unknown
  taken k such =
      let n = such.n in
      let low = such.low in
      let is = such.is in
      let below : int_lt k found.branch.workspace ≡ true =
      lt-int_lt k found.branch.workspace (omega (arith, ints, is)) in
      let near : int_le found.branch.workspace (k +ℤ pos 3) ≡ true =
      le-int_le found.branch.workspace (k +ℤ pos 3) (omega (arith, ints, is, low)) in
      let both = and_from _ _ below near in
      ap (λ (b : Bool). if may_read_word m (context_of m found) k && not b then Alone (plain (s.frame k))
      else Alone Unknown) both
      ∙ on (may_read_word m (context_of m found) k)
    where
      on : (b : Bool) → (if b && false then Alone (plain (s.frame k)) else Alone Unknown) ≡ Alone Unknown
      on true = refl
      on false = refl

  module _ (act : Activation) (memory : Memory)
      (words : (k : ℤ) → may_read_word m (context_of m found) k ≡ true
      → MeansWord m act k (s.frame k) (frame_word memory act.layout.origin k)) where
    -- what is known of the branch's words is so
    begins_as : BeginsAs m found act memory state_there
    begins_as = record {
      mode = refl;
      context = refl;
      depth = refl;
      registers = refl;
      taken = taken;
      words = λ k may other. on k may
          (may_read_word m (context_of m found) k && not (is_scheduling_word found.branch.workspace k));
    }
      where
        on : (k : ℤ) → may_read_word m (context_of m found) k ≡ true → (b : Bool)
            → MeansWord m act k (if b then Alone (plain (s.frame k)) else Alone Unknown)
            (frame_word memory act.layout.origin k)
        on k may true = is_fact (plain_means m act k (s.frame k) (frame_word memory act.layout.origin k) (words k may))
        on k may false = nothing_known m act k (frame_word memory act.layout.origin k)

  module _ (wf : IsWellFormed m) (at : label_at m found.branch.entry ≡ Some t)
      (agreed : agrees (branch_view m (context_of m found) found.branch s) t ≡ true) where
    pub goes_below : below state_there t ≡ Ok label_cost
    goes_below = is_below state_there t (let same : label_cost ≤ label_cost = omega arith in same) agreed

    -- the label, with the turns of the loops that the branch enters
    abbrev pub branch_label : (turns : ℤ → ℕ) → BranchLabel m found
    branch_label turns = record {
      label = t;
      at = at;
      low = wf.labels found.branch.entry t at;
      context = sym (below_tells state_there t label_cost goes_below).1.context;
      turns = label_turns facts_there t.entries turns;
    }

    -- it is paid by what it costs
    pub label_paid : (act : Activation)
        → owed_at_label t (label_turns facts_there t.entries act.turns) ≤ label_cost
    label_paid act =
        let less = label_owed state_there t label_cost act (wf.pairs found.branch.entry t at) goes_below in
        let none = none_due facts_there act.turns (nothing_due act.turns) in
        omega (arith, less, none)

    -- and its state holds after the start
    pub begins_at_label : (act : Activation) (h : Holding) (memory : Memory) (depth : ℤ) (workspace : ℕ)
        → ((k : ℤ) → may_read_word m (context_of m found) k ≡ true
        → MeansWord m act k (s.frame k) (frame_word memory act.layout.origin k))
        → BeginsAtLabel (branch_label act.turns) act h memory depth workspace
    begins_at_label act h memory depth workspace words base addresses l can memory_is place =
        label_after m _ machine.Plain act state_there t l wf found.branch.entry at
        (below_tells state_there t label_cost goes_below).1
        (branches_begin m found act base addresses h memory depth workspace state_there l can
        (begins_as act memory words) memory_is place)
