-- A start among the starts of its row: what the rule has tested is what a later start wants.
use Rattle.std.proofs.Common.{◌≡◌, ℕ, ◌+◌, ◌-◌, ◌≤◌, ◌<◌, ◌||◌, not, Bool, true, false, inl, inr, ℤ}
use Rattle.std.proofs.Common.{List, [], ◌∷◌, take, Option, Some, None, refl, sym, ap, ◌∙◌, subst, arith}
use Rattle.std.specs.Prelude.{slice_get}
use Rattle.std.proofs.lemmas.Bool.{and_from, or_cases, and_parts, not-true, not_from_false}
use Rattle.module_format.specs.Contents.{Contents, Par, Branch, Label, label_at}
use Rattle.module_format.specs.Contexts.{context_at}
use Rattle.module_format.specs.Keeping.{Keeps}
use Rattle.certificate.specs.Rights.{may_write_word, may_read_word, is_among, has_word}
use Rattle.machine_state.specs.BranchContexts.{context_of}
use Rattle.machine_state.specs.declared.process.Mode as machine
use Rattle.machine_state.specs.declared.process.Mode.TheVariants as machine_modes
use Rattle.machine_state.specs.JoinLookups.{Found}
use Rattle.machine_state.specs.Ownership.{IsAmong}
use Rattle.machine_state.specs.Site.{Local}
use Rattle.states.specs.declared.known.Mode as states
use Rattle.states.specs.declared.known.Mode.TheVariants.{Starting}
use Rattle.states.specs.State.{State}
use Rattle.states.specs.Below.{agrees}
use Rattle.rulings.specs.Fitting.{Described, After, Situation}
use Rattle.rulings.specs.Meaning.{MeansWord, SameMode, both_plain, both_enabling}
use Rattle.rulings.specs.Meaning.{both_disabling, both_starting, words_left, frame_word, IsWellFormed}
use Rattle.rulings.specs.Regions.{Scope, scope_of, scope_left, scope_among, scope_in}
use Rattle.rulings.specs.Remaining.{word_given_to_write, word_given_to_read}
use Rattle.rulings.proofs.Combining.{written_readable}
use Rattle.par_rules.specs.Comparisons.{branch_view, cost_after}
use Rattle.par_rules.specs.Gifts.{started_in}
use Rattle.par_rules.specs.ParRules.{label_after, labels_of_start, offset_after, after_start}
use Rattle.par_rules.specs.ParRules.{cost_of_start}
use Rattle.share_laws.specs.GoingOn.{GoesOnAs}
use Rattle.share_laws.specs.Shares.{IsBranch, IsLaidOut}
use Rattle.share_laws.specs.Starts.{CanStart, IsLeft}
use Rattle.share_laws.proofs.LeftParameters.{one_more}
use Rattle.start_laws.specs.BranchLabels.{owed_at_label}
use Rattle.start_laws.specs.Starting.{LiesInside, StartsNext}
use Rattle.start_laws.proofs.AtLabels.{branch_label, label_paid, begins_at_label}
use Rattle.start_laws.proofs.GivenIsLeft.{IsTested, is_left, among_first, reads_is}

-- ---- words that are left

module _ (m : Contents) (found : Found) (left : IsLeft m found) where
  -- what the branch has to write may be read
  left_written : (k : ℤ) → is_among found.branch.writes k ≡ true
      → (words_left m found.par found.par.context found.number).reads k ≡ true
  left_written k among =
      let three = and_parts _ (not (word_given_to_write found.par found.number k
      || word_given_to_read found.par found.number k)) (left.writes k among) in
      let two = and_parts (may_write_word m found.par.context k) _ three.0 in
      and_from _ _ (and_from _ _ (written_readable m found.par.context k two.0) two.1)
      (not_written (word_given_to_write found.par found.number k) (word_given_to_read found.par found.number k) three.1)
    where
      not_written : (a b : Bool) → not (a || b) ≡ true → not a ≡ true
      not_written true b h = absurd (cc)
      not_written false b h = refl

  -- so of all that the branch may read
  pub left_to_read : (k : ℤ) → (is_among found.branch.writes k || is_among found.branch.reads k) ≡ true
      → (words_left m found.par found.par.context found.number).reads k ≡ true
  left_to_read k among = elim (or_cases (is_among found.branch.writes k) _ among) [
    | inl mine ↦ left_written k mine
    | inr seen ↦ left.reads k seen
  ]

-- what is left after one start more was left before
pub left_before : (m : Contents) (found : Found) → IsBranch m found → (k : ℤ)
    → (words_left m found.par found.par.context (found.number + 1)).reads k ≡ true
    → (words_left m found.par found.par.context found.number).reads k ≡ true
left_before m found is k h =
    let both = and_parts _ (not (word_given_to_write found.par (found.number + 1) k)) h in
    and_from _ _ both.0 (not_from_false _ (first (word_given_to_write found.par found.number k) (is_among
    found.branch.writes k)
    (sym (one_more found.par found.number found.branch (λ b. is_among b.writes k) is.branch) ∙ not-true _ both.1)))
  where
    first : (a b : Bool) → (a || b) ≡ false → a ≡ false
    first true b h = absurd (cc)
    first false b h = refl

-- ---- modes

-- the machine is among starts where the state is
pub among_mode : {p : states.Mode} {q : machine.Mode} {row started : ℕ} → SameMode p q → p ≡ Starting row started
    → q ≡ machine_modes.Starting
among_mode both_plain e = absurd (cc)
among_mode both_enabling e = absurd (cc)
among_mode both_disabling e = absurd (cc)
among_mode both_starting e = refl

module _ (x : Situation) (s : State) (l : Local) (wf : IsWellFormed x.m) (keeps : Keeps x.m)
    (a : After x.m x.h x.mode x.act s l) (found : Found) (is : IsBranch x.m found)
    (mode : s.mode ≡ Starting found.row found.number) (context : found.par.context ≡ s.context) where
  -- the state's scope is what is left
  scope_is : scope_in x.m s x.act.layout ≡ scope_left x.m found.par found.par.context found.number x.act.layout
  scope_is =
      ap (λ (c : ℕ). scope_among x.m c s.mode x.act.layout) (sym context)
      ∙ (ap (λ (mode : states.Mode). scope_among x.m found.par.context mode x.act.layout) mode
      ∙ ap (λ (o : Option Par). elim o as (λ o. Scope) [
        | None ↦ scope_of x.m found.par.context x.act.layout
        | Some par ↦ scope_left x.m par found.par.context found.number x.act.layout
      ]) is.row)

  pub here : Described x.m x.h x.mode x.act s l
      (scope_left x.m found.par found.par.context found.number x.act.layout)
  here = subst (λ (scope : Scope). Described x.m x.h x.mode x.act s l scope) scope_is a

  -- it can start the branch, whose share is left
  pub can_start : IsLeft x.m found → (base : ℕ) (addresses : List (Option ℕ))
      → IsLaidOut x.m found.par x.act.layout base addresses → LiesInside x l.memory
      → CanStart x.m found x.act.layout base addresses x.h l.memory s.depth l.registers.workspace
  can_start left base addresses laid inside = record {
    keeps = keeps;
    is = is;
    laid = laid;
    frame = here.frame;
    named = here.named;
    left = left;
    inside = inside;
  }

  -- in its mode the branches before this one are started
  pub before_started : (n : ℕ) (other : Branch) → n < found.number → slice_get found.par.branches n ≡ Some other
      → IsAmong other (started_in x.m s.mode)
  before_started n other low there =
      let all : started_in x.m s.mode ≡ take found.number found.par.branches =
      ap (started_in x.m) mode ∙ ap (λ (o : Option Par). elim o as (λ o. List Branch) [
        | None ↦ []
        | Some par ↦ take found.number par.branches
      ]) is.row in
      subst (λ (xs : List Branch). IsAmong other xs) (sym all)
      (among_first found.par.branches found.number n other low there)

  -- the label after the PAR is not compared
  no_label : label_after x.m s.mode found.par ≡ None
  no_label = ap (λ (mode : states.Mode). label_after x.m mode found.par) mode

  pub labels_are : labels_of_start x.m s found ≡ found.branch.entry ∷ []
  labels_are = ap (λ (o : Option Label). found.branch.entry ∷ offset_after found.par o) no_label

  module _ (t : IsTested x.m s found) (label : Label)
      (at : label_at x.m found.branch.entry ≡ Some label)
      (agreed : agrees (branch_view x.m (context_of x.m found) found.branch s) label ≡ true)
      (pays : x.len ≤ s.number) (covers : cost_of_start x.m s found label ≤ s.number - x.len) where
    -- what is known of the branch's words
    words : (k : ℤ) → may_read_word x.m (context_of x.m found) k ≡ true
        → MeansWord x.m x.act k (s.frame k) (frame_word l.memory x.act.layout.origin k)
    words k may = here.knows.words k (left_to_read x.m found (is_left x.m s found t) k
        (and_parts (has_word (context_at x.m (context_of x.m found)) k) _ (sym (reads_is x.m s found t k) ∙ may)).1)

    pub starts_next : StartsNext x s (after_start found (cost_of_start x.m s found label)
        (record s { number = s.number - x.len })) l found
    starts_next = record {
      mode = mode;
      machine_mode = among_mode a.same_mode mode;
      can = can_start (is_left x.m s found t);
      branch = branch_label x.m found s label wf at agreed x.act.turns;
      begins = begins_at_label x.m found s label wf at agreed x.act x.h l.memory s.depth l.registers.workspace words;
      paid = paid;
    }
      where
        paid : s.number - x.len - cost_of_start x.m s found label
            + owed_at_label label (branch_label x.m found s label wf at agreed x.act.turns).turns + x.len ≤ s.number
        paid =
            let none : cost_after s (label_after x.m s.mode found.par) ≡ 0 = ap (cost_after s) no_label in
            let less = label_paid x.m found s label wf at agreed x.act in
            omega (arith, none, less, pays, covers)

-- ---- what the starter goes on with

-- among the starts of its row a starter knows of the words that are left what it knew before
pub goes_on_as : (x : Situation) (s : State) (l : Local) (found : Found) (price number : ℕ)
    → found.par.context ≡ s.context
    → ((k : ℤ) → (words_left x.m found.par found.par.context (found.number + 1)).reads k ≡ true
    → MeansWord x.m x.act k (s.frame k) (frame_word l.memory x.act.layout.origin k))
    → GoesOnAs x.m found x.act l.memory s.depth (after_start found price (record s { number = number }))
goes_on_as x s l found price number context words = record {
  mode = refl;
  context = sym context;
  depth_is = refl;
  registers = refl;
  words = words;
}
