-- The first start of a PAR makes what its opener goes on with once all branches are joined.
use Rattle.std.proofs.Common.{◌≡◌, ◌≢◌, ℕ, zero, suc, ◌+◌, ◌&&◌, not, true, false, inl, inr, ℤ, pos}
use Rattle.std.proofs.Common.{◌+ℤ◌, List, [], ◌∷◌, length, take, Some, refl, sym, ap, ◌∙◌, subst, arith}
use Rattle.std.proofs.lemmas.Bool.{and_from, or_cases, cases_Bool, not_from_false}
use Rattle.std.proofs.lemmas.Int.{ints}
use Rattle.std.specs.Prelude.{slice_get}
use Rattle.std.specs.List.{list_any}
use Rattle.module_format.specs.Contents.{Contents, Par, Branch}
use Rattle.certificate.specs.Branches.{numbered_branch}
use Rattle.certificate.specs.Rights.{may_read_word, is_among}
use Rattle.machine_state.specs.BranchContexts.{context_of}
use Rattle.machine_state.specs.BranchShares.{frame_address}
use Rattle.machine_state.specs.Holding.{Holding}
use Rattle.machine_state.specs.JoinLookups.{Found}
use Rattle.machine_state.specs.Joins.{join_after}
use Rattle.machine_state.specs.Memory.{Memory, data_start}
use Rattle.machine_state.specs.StartPlans.{first_plan}
use Rattle.machine_state.specs.Waiting.{is_member}
use Rattle.machine_state.specs.World.{Join}
use Rattle.machine_state.proofs.FoundContexts.{branches_are_contexts}
use Rattle.states.specs.State.{entry_fact}
use Rattle.rulings.specs.Fitting.{Caller}
use Rattle.rulings.specs.Meaning.{Activation, HasFrame, words_in, frame_word, place_in, dues}
use Rattle.rulings.specs.Regions.{scope_of, KeepsMemory}
use Rattle.rulings.specs.Remaining.{is_hidden, word_given_to_write}
use Rattle.rulings.proofs.Combining.{same_frame}
use Rattle.rulings.proofs.Regions.{keeps_more}
use Rattle.rulings.proofs.Words.{means_same, moved_workspace}
use Rattle.share_laws.specs.Opening.{CanOpen, layout_with}
use Rattle.share_laws.specs.Shares as shares
use Rattle.share_laws.specs.Shares.{IsLaidOut}
use Rattle.share_laws.specs.Starts.{IsLeft}
use Rattle.share_laws.specs.Taking.{OpenerKeeps, OpeningTakes, memory_after_start, after_opening}
use Rattle.share_laws.proofs.HiddenWords.{fits_words, hidden_word, block_hides}
use Rattle.share_laws.proofs.OpenerHolds.{none_started}
use Rattle.share_laws.proofs.ShareBytes.{frame_channel}
use Rattle.share_laws.proofs.TakenWords.{openings_take_their_words, starts_keep_openers}
use Rattle.certified_worlds.specs.Point.{Began, Behind, owed_behind}
use Rattle.certified_worlds.specs.ParLabels.{LabelStands}
use Rattle.certified_worlds.specs.Pending.{HasMember, IsOut, AfterPar, Pending}
use Rattle.certified_worlds.proofs.JoinChanges.{out_from, scheduled_out}
use Rattle.certified_worlds.proofs.BehindKeeps.{behind_keeps}
use Rattle.certified_worlds.proofs.StartsKeepPars.{member_last}

-- ---- the join after the start

-- the first branch of a PAR is started, which is this process
pub record IsFirstJoin (m : Contents) (found : Found) (act : Activation) (base : ℕ) (j : Join) (new : ℕ) : Type 0 where
  pub row : j.row ≡ found.row
  pub block : j.block ≡ frame_address base found.par.block
  pub started : j.started ≡ 1
  pub newest : is_member j.members new ≡ true
  pub laid : IsLaidOut m found.par act.layout j.base j.parameters

-- A first start makes it so, where its plan lies as the starter's layout says.
pub is_first_join : (m : Contents) (p n : ℕ) (found : Found) (act : Activation) (h : Holding) (memory : Memory)
    (workspace new : ℕ) → let plan = first_plan m p workspace h memory found in
    IsLaidOut m found.par (layout_with act.layout found.par) plan.base plan.addresses
    → IsFirstJoin m found act plan.base (join_after n plan found new) new
is_first_join m p n found act h memory workspace new laid = record {
  row = refl;
  block = refl;
  started = refl;
  newest = member_last (p ∷ []) new;
  laid = record { origin = laid.origin; named = laid.named };
}

-- ---- words that branches write

-- a branch that has a word to write, with its number
pub record Writer (branches : List Branch) (k : ℤ) : Type 0 where
  pub number : ℕ
  pub branch : Branch
  pub here : slice_get branches number ≡ Some branch
  pub writes : is_among branch.writes k ≡ true

-- a word that is given to write has one
pub writer : (branches : List Branch) (n : ℕ) (k : ℤ)
    → list_any (λ (b : Branch). is_among b.writes k) (take n branches) ≡ true → Writer branches k
writer [] zero k given = absurd (cc)
writer [] (suc n) k given = absurd (cc)
writer (b ∷ bs) zero k given = absurd (cc)
writer (b ∷ bs) (suc n) k given = elim (or_cases (is_among b.writes k) _ given) [
  | inl here ↦ record { number = 0; branch = b; here = refl; writes = here }
  | inr there ↦
      let w = writer bs n k there in
      record { number = suc w.number; branch = w.branch; here = w.here; writes = w.writes }
]

-- ---- what the opener goes on with

module _ {m : Contents} {own : Holding} {found : Found} {act : Activation} {base : ℕ} {memory : Memory} {depth : ℤ}
    {workspace : ℕ} (can : CanOpen m found.row found.par act.layout base own memory depth workspace)
    (is : shares.IsBranch m found) (left : IsLeft m found) (zero_is : found.number ≡ 0)
    (label : LabelStands m found.par act memory) {j : Join} {new : ℕ} (first : IsFirstJoin m found act base j new) where
  abbrev par : Par
  par = found.par

  -- once the words of block and channels are taken, and once the branch is started
  abbrev opened_memory : Memory
  opened_memory = after_opening par base memory

  abbrev new_memory : Memory
  new_memory = memory_after_start found base opened_memory

  taken : OpeningTakes m found.row par act.layout base own memory opened_memory depth workspace
  taken = openings_take_their_words m found.row par act.layout base own memory depth workspace can

  opener_keeps : OpenerKeeps m found act.layout own opened_memory new_memory
  opener_keeps = starts_keep_openers m found act.layout base own opened_memory depth workspace can.keeps is left
      can.origin taken.can.frame

  pub opening_keeps : KeepsMemory m own (scope_of m par.context act.layout) memory new_memory
  opening_keeps = keeps_more taken.keeps opener_keeps.keeps

  -- the block is a word of the frame
  block_at : pos j.block ≡ pos data_start +ℤ place_in act.layout.origin par.block
  block_at =
      let w = hidden_word m found.row par act.layout base own memory depth workspace can par.block
      (block_hides m found.row par act.layout base own memory depth workspace can) in
      let at = w.is in
      let inside = w.inside in
      let small = can.frame.small in
      let origin_is = can.origin in
      let moved = moved_workspace base act.layout.origin (pos 0) par.block
      (fits_words m found.row par act.layout base own memory depth workspace can).block
      (omega (arith, ints, origin_is)) (omega (arith, ints, at)) (omega (arith, ints, at, inside, small)) in
      ap pos first.block ∙ (let e : pos (frame_address base par.block) ≡ pos data_start +ℤ place_in act.layout.origin
      par.block =
      omega (arith, ints, moved) in e)

  -- it goes on at the label after the PAR
  abbrev pub after_first : (callers : List Caller) (due : ℕ)
      → due ≡ label.label.number + dues (entry_fact label.label.entries) act.turns + owed_behind callers
      → AfterPar m j due
  after_first callers due paid = record {
    par = par;
    row = ap (λ (n : ℕ). slice_get m.pars n) first.row ∙ is.row;
    label = label.label;
    at = label.at;
    context = label.context;
    depth = label.depth;
    registers = label.registers;
    hidden = label.hidden;
    alone = label.alone;
    act = act;
    callers = callers;
    laid = first.laid;
    block = first.block
        ∙ frame_channel act.layout base par.block can.origin
        (fits_words m found.row par act.layout base own memory depth workspace can).block;
    paid = paid;
  }

  module _ (o : ℕ) (began : Began) (every : List Began) (start : Began) (newest : slice_get every new ≡ Some start)
      (other : new ≢ o) (context : start.context ≡ context_of m found) where
    -- the first branch is out
    first_member : HasMember m o every par j found.branch
    first_member = record {
      process = new;
      other = other;
      start = start;
      has_start = newest;
      member = first.newest;
      is = subst (λ (n : ℕ). numbered_branch m n ≡ Some (par, found.branch)) (sym context)
          (branches_are_contexts m found can.keeps is.row is.branch).numbered;
    }

    -- and so is each word that a branch writes
    given_out : (k : ℤ) → word_given_to_write par (length par.branches) k ≡ true → IsOut m o every par j k
    given_out k given =
        let w = writer par.branches (length par.branches) k given in
        record {
          number = w.number;
          branch = w.branch;
          here = w.here;
          writes = w.writes;
          is_out = out_from found is.branch first_member
              (let started = first.started in omega (arith, started, zero_is)) w.number w.branch w.here
              (omega (arith, zero_is));
        }

    -- a word that is not out with a branch has its value
    word_stays : (k : ℤ) → may_read_word m par.context k ≡ true → is_hidden par k ≡ false
        → (IsOut m o every par j k → ⊥)
        → frame_word new_memory act.layout.origin k ≡ frame_word memory act.layout.origin k
    word_stays k reads hides free =
        opener_keeps.others k (λ scheduled. free (scheduled_out found is.branch first_member left k scheduled))
        ∙ taken.words k (and_from (may_read_word m par.context k && not (is_hidden par k)) _
        (and_from (may_read_word m par.context k) _ reads (not_from_false (is_hidden par k) hides))
        (not_from_false (word_given_to_write par 0 k) (none_started par (λ b. is_among b.writes k))))

    pub opening_makes : (callers : List Caller) → Behind m own began par.context act.layout memory callers
        → (due : ℕ) (paid : due ≡ label.label.number + dues (entry_fact label.label.entries) act.turns
        + owed_behind callers)
        → Pending m own o began every new_memory j due (after_first callers due paid)
    opening_makes callers behind due paid =
        let f : HasFrame own (length new_memory) (words_in m par.context) act.layout.origin depth workspace =
        same_frame (sym opening_keeps.size) can.frame in
        record {
          frame = record {
            small = f.small;
            from_start = f.from_start;
            to_end = f.to_end;
            own = f.own;
            readable = f.readable;
            start = block_at;
          };
          named = opening_keeps.named can.named;
          behind = behind_keeps opening_keeps behind;
          words = λ k reads hides free. elim (cases_Bool (word_given_to_write par (length par.branches) k)) [
            | inl given ↦ absurd (free (given_out k given))
            | inr none ↦ means_same (label.words k reads hides none) refl (sym (word_stays k reads hides free))
          ];
        }
