-- After a start what is known of the branch's words holds, and it holds what its context names.
use Rattle.std.proofs.Common.{◌≡◌, ◌⊎◌, inl, inr, ℕ, zero, suc, ◌<◌, ℤ, negsuc, ◌+ℤ◌, true, List, length, Option, refl}
use Rattle.std.proofs.Common.{sym, ap, ◌∙◌, subst, arith}
use Rattle.module_format.specs.declared.stack.Stack.{Stack}
use Rattle.module_format.specs.Stack.{AreRelated}
use Rattle.module_format.specs.Contents.{Contents}
use Rattle.certificate.specs.Rights.{may_read_word}
use Rattle.machine_state.specs.declared.process.Mode.TheVariants as machine
use Rattle.machine_state.specs.BranchContexts.{context_of}
use Rattle.machine_state.specs.BranchShares.{frame_address}
use Rattle.machine_state.specs.Holding.{Holding}
use Rattle.machine_state.specs.JoinLookups.{Found}
use Rattle.machine_state.specs.Memory.{Memory}
use Rattle.machine_state.specs.Site.{Local}
use Rattle.states.specs.declared.known.Known.{Known}
use Rattle.states.specs.declared.known.Mode as modes
use Rattle.states.specs.State.{State}
use Rattle.rulings.specs.Fitting.{Described, After}
use Rattle.rulings.specs.Meaning.{Activation, says_nothing, MeansWord, is_fact, MeansKnown, SameMode, both_plain}
use Rattle.rulings.specs.Meaning.{HasFrame, words_in, frame_word}
use Rattle.rulings.specs.Regions.{Scope, scope_of, scope_among, scope_in, HoldsNamed}
use Rattle.rulings.proofs.Combining.{unknown_means}
use Rattle.rulings.proofs.Words.{word_test, means_same}
use Rattle.share_laws.specs.GoingOn.{BeginsAs, BranchesBegin}
use Rattle.share_laws.specs.Starts.{CanStart, BranchHolds, held_by_branch}
use Rattle.share_laws.specs.Taking.{IsScheduling, memory_after_start, StartTakes}
use Rattle.share_laws.proofs.BranchHolds.{branches_hold_their_shares}
use Rattle.share_laws.proofs.TakenWords.{takes_its_words}

-- a word is one of the three below a workspace, or is not
scheduling_test : (found : Found) (k : ℤ) → IsScheduling found k ⊎ (IsScheduling found k → ⊥)
scheduling_test found k = elim (word_test k (found.branch.workspace +ℤ negsuc 0)) [
  | inl first ↦ inl (record { n = 0; low = omega arith; is = first.1 })
  | inr a ↦ elim (word_test k (found.branch.workspace +ℤ negsuc 1)) [
    | inl second ↦ inl (record { n = 1; low = omega arith; is = second.1 })
    | inr b ↦ elim (word_test k (found.branch.workspace +ℤ negsuc 2)) [
      | inl third ↦ inl (record { n = 2; low = omega arith; is = third.1 })
      | inr c ↦ inr (λ s. no_other s.n s.low s.is a.1 b.1 c.1)
    ]
  ]
]
  where
    no_other : (n : ℕ) → n < 3 → k ≡ found.branch.workspace +ℤ negsuc n
        → (k ≡ found.branch.workspace +ℤ negsuc 0 → ⊥) → (k ≡ found.branch.workspace +ℤ negsuc 1 → ⊥)
        → (k ≡ found.branch.workspace +ℤ negsuc 2 → ⊥) → ⊥
    no_other zero low is a b c = a is
    no_other (suc zero) low is a b c = b is
    no_other (suc (suc zero)) low is a b c = c is
    no_other (suc (suc (suc n))) low is a b c = omega (arith, low)

module _ (m : Contents) (found : Found) (act : Activation) (base : ℕ) (addresses : List (Option ℕ)) (h : Holding)
    (memory : Memory) (depth : ℤ) (workspace : ℕ) (s : State) (l : Local)
    (can : CanStart m found act.layout base addresses h memory depth workspace)
    (begins : BeginsAs m found act memory s) (memory_is : l.memory ≡ memory_after_start found base memory)
    (at : l.registers.workspace ≡ frame_address base found.branch.workspace) where
  abbrev new : Memory
  new = memory_after_start found base memory

  abbrev mine : Holding
  mine = held_by_branch m found base addresses (length memory)

  -- what the start takes
  taken : StartTakes m found act.layout base addresses h memory (memory_after_start found base memory) depth workspace
  taken = takes_its_words m found act.layout base addresses h memory depth workspace can

  -- what the branch holds then
  holds : BranchHolds m found act.layout base
      (held_by_branch m found base addresses (length (memory_after_start found base memory)))
      (memory_after_start found base memory)
  holds = branches_hold_their_shares m found act.layout base addresses h (memory_after_start found base memory) depth
      workspace
      taken.can

  -- what is known of a word of the branch
  word : (k : ℤ) → may_read_word m (context_of m found) k ≡ true
      → MeansWord m act k (s.frame k) (frame_word (memory_after_start found base memory) act.layout.origin k)
  word k t = elim (scheduling_test found k) [
    | inl such ↦ means_same (is_fact says_nothing) (sym (begins.taken k such)) refl
    | inr other ↦ means_same (begins.words k t other) refl (sym (taken.others k other))
  ]

  -- in plain mode the state's scope is its context's
  scope_is : scope_in m s act.layout ≡ scope_of m (context_of m found) act.layout
  scope_is = ap (λ (c : ℕ). scope_among m c s.mode act.layout) begins.context
      ∙ ap (λ (mode : modes.Mode). scope_among m (context_of m found) mode act.layout) begins.mode

  -- all that is known, over that scope
  in_scope : Described m mine machine.Plain act s l (scope_of m (context_of m found) act.layout)
  in_scope = record {
    frame = subst (λ (z : ℤ). HasFrame mine (length l.memory) (words_in m (context_of m found)) act.layout.origin z
        l.registers.workspace) (sym begins.depth) (subst (λ (w : ℕ). HasFrame mine (length l.memory)
        (words_in m (context_of m found)) act.layout.origin found.branch.workspace w) (sym at)
        (subst (λ (x : Memory). HasFrame mine (length x) (words_in m (context_of m found)) act.layout.origin
        found.branch.workspace (frame_address base found.branch.workspace)) (sym memory_is)
        (subst (λ (n : ℕ). HasFrame (held_by_branch m found base addresses n) (length new)
        (words_in m (context_of m found)) act.layout.origin found.branch.workspace
        (frame_address base found.branch.workspace)) taken.size holds.frame)));
    knows = record {
      registers = subst (λ (x : Stack Known). AreRelated
          (MeansKnown m (words_in m (context_of m found)).reads act.layout l.memory) x l.registers.stack)
          (sym begins.registers) (record { a = unknown_means; b = unknown_means; c = unknown_means });
      words = λ k t. means_same (word k t) refl
          (ap (λ (x : Memory). frame_word x act.layout.origin k) (sym memory_is));
    };
    named = subst (λ (x : Memory). HoldsNamed m mine (scope_of m (context_of m found) act.layout) x) (sym memory_is)
        (subst (λ (n : ℕ). HoldsNamed m (held_by_branch m found base addresses n)
        (scope_of m (context_of m found) act.layout) new) taken.size holds.named);
    same_mode = subst (λ (x : modes.Mode). SameMode x machine.Plain) (sym begins.mode) both_plain;
  }

  -- and so over the state's
  branch_begins : After m mine machine.Plain act s l
  branch_begins = subst (λ (x : Scope). Described m mine machine.Plain act s l x) (sym scope_is) in_scope

-- the branch of a start is where it begins
pub branches_begin : BranchesBegin
branches_begin m found act base addresses h memory depth workspace s l can begins memory_is at =
    branch_begins m found act base addresses h memory depth workspace s l can begins memory_is at
