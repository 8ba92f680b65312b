-- The first start of a PAR: what the rule has tested is what it wants, and the label after the PAR is where the opener
-- goes on.
use Rattle.std.proofs.Common.{◌≡◌, ℕ, ◌+◌, ◌-◌, ◌≤◌, ◌==◌, not, Bool, true, false, ℤ, [], ◌∷◌}
use Rattle.std.proofs.Common.{length, Option, Some, None, Ok, refl, sym, ap, ◌∙◌, subst, arith}
use Rattle.std.specs.Prelude.{sum_by}
use Rattle.std.specs.List.{list_any, list_all}
use Rattle.std.proofs.lemmas.Bool.{and_from, and_parts, not-true}
use Rattle.small_laws.proofs.Comparisons.{eqb-self}
use Rattle.module_format.specs.Rows.{Fact}
use Rattle.module_format.specs.declared.fact.Fact.TheVariants.{Unknown}
use Rattle.module_format.specs.declared.stack.Stack.{Stack}
use Rattle.module_format.specs.Order.{least_word}
use Rattle.module_format.specs.Contents.{Contents, Par, Label, label_at}
use Rattle.module_format.specs.Contexts.{context_at}
use Rattle.module_format.specs.Keeping.{Keeps}
use Rattle.certificate.specs.Rights.{may_read_word, has_word}
use Rattle.certificate.specs.Starting.{leaves_loops, is_written_loop, is_written}
use Rattle.machine_state.specs.BranchContexts.{context_of}
use Rattle.machine_state.specs.JoinLookups.{Found}
use Rattle.machine_state.specs.Site.{Local}
use Rattle.states.specs.declared.known.Mode as states
use Rattle.states.specs.declared.known.Mode.TheVariants.{Plain}
use Rattle.states.specs.State.{State, Facts, fresh_state, is_same_number}
use Rattle.states.specs.Below.{agrees, below, cost, view, implies, entries_hold, is_whole, price}
use Rattle.rulings.specs.Fitting.{Described, After, Situation}
use Rattle.rulings.specs.Meaning.{MeansWord, words_left, frame_word}
use Rattle.rulings.specs.Meaning.{IsWellFormed, dues, owed, label_turns}
use Rattle.rulings.specs.Regions.{Scope, scope_of, scope_among}
use Rattle.rulings.proofs.Dues.{label_owed}
use Rattle.rulings.proofs.Entering.{label_words}
use Rattle.rulings.proofs.Words.{means_same}
use Rattle.par_rules.specs.Comparisons.{branch_view, words_pass, is_left, is_after}
use Rattle.par_rules.specs.Comparisons.{agrees_after, cost_after}
use Rattle.par_rules.specs.Openings.{is_prepared}
use Rattle.par_rules.specs.ParRules.{may_open, label_after, labels_of_start, offset_after, after_start}
use Rattle.par_rules.specs.ParRules.{cost_of_start}
use Rattle.share_laws.specs.GoingOn.{act_with}
use Rattle.share_laws.specs.Opening.{held_by_opener, CanOpen, HasNoEndsInside}
use Rattle.share_laws.specs.Shares.{IsBranch}
use Rattle.share_laws.specs.Taking.{after_opening}
use Rattle.share_laws.proofs.GoingOn.{word_with}
use Rattle.share_laws.proofs.HiddenWords.{is_itself}
use Rattle.share_laws.proofs.TakenWords.{openings_take_their_words}
use Rattle.start_laws.specs.BranchLabels.{LabelAfter, owed_at_label}
use Rattle.start_laws.specs.Starting.{LiesInside, IsBase, StartsFirst}
use Rattle.start_laws.proofs.AfterPars.{IsAfter, after_tells, says_nothing_hidden, given_is_written, written_alone}
use Rattle.start_laws.proofs.AtLabels.{is_below, branch_label, label_paid, begins_at_label}
use Rattle.start_laws.proofs.EndsFit.{plain_mode}
use Rattle.start_laws.proofs.GivenIsLeft.{IsTested, is_left as left_of, reads_is}
use Rattle.start_laws.proofs.LaterStarts.{left_to_read}
use Rattle.start_laws.proofs.Preparing.{prepared, hidden_own}
use Rattle.start_laws.proofs.Unwritten.{facts_after, of_others, holds_after, whole_after, price_after, dues_after}

-- ---- the label after the PAR

-- There is a label, and it passes its test.
record HasLabel (m : Contents) (par : Par) : Type 0 where
  label : Label
  at : label_at m par.successor ≡ Some label
  is : IsAfter par label

has_label : (m : Contents) (par : Par) (o : Option Label) → label_at m par.successor ≡ o
    → (elim o as (λ o. Bool) [ None ↦ false | Some t ↦ is_after par t ]) ≡ true → HasLabel m par
has_label m par None e h = absurd (cc)
has_label m par (Some t) e h = record { label = t; at = e; is = after_tells par t h }

module _ (x : Situation) (s : State) (l : Local) (wf : IsWellFormed x.m) (keeps : Keeps x.m)
    (a : After x.m x.h x.mode x.act s l) (found : Found) (is : IsBranch x.m found) (plain : s.mode ≡ Plain)
    (first : found.number ≡ 0) (context : found.par.context ≡ s.context)
    (opens : may_open x.m s found.par ≡ true) (loops : leaves_loops x.m found.par ≡ true) where
  -- in plain mode the process has all that its context has
  pub all_here : Described x.m x.h x.mode x.act s l (scope_of x.m found.par.context x.act.layout)
  all_here = subst (λ (scope : Scope). Described x.m x.h x.mode x.act s l scope)
      (ap (λ (mode : states.Mode). scope_among x.m s.context mode x.act.layout) plain
      ∙ ap (λ (c : ℕ). scope_of x.m c x.act.layout) (sym context)) a

  both : (is_prepared x.m s found.par ≡ true) × HasLabel x.m found.par
  both =
      let parts = and_parts (is_prepared x.m s found.par) _ opens in
      (parts.0, has_label x.m found.par (label_at x.m found.par.successor) refl parts.1)

  can_open : (base : ℕ) → IsBase x base → LiesInside x l.memory → HasNoEndsInside x.h
      → CanOpen x.m found.row found.par x.act.layout base x.h l.memory s.depth l.registers.workspace
  can_open base at inside free = record {
    keeps = keeps;
    is = is.row;
    origin = at;
    frame = all_here.frame;
    named = all_here.named;
    inside = inside;
    own = hidden_own x.m s x.act l.memory found.par context both.0 all_here.knows.words;
    free = free;
  }

  -- no loop after the PAR has a word that a branch writes
  no_loops : list_any (is_written_loop found.par) both.1.label.entries ≡ false
  no_loops = not-true _ (ap (λ (o : Option Label). elim o as (λ o. Bool) [
    | None ↦ true
    | Some t ↦ not (list_any (is_written_loop found.par) t.entries)
  ]) (sym both.1.at) ∙ loops)

  -- the label is compared
  compared : label_after x.m s.mode found.par ≡ Some both.1.label
  compared = ap (λ (mode : states.Mode). label_after x.m mode found.par) plain ∙ both.1.at

  pub first_labels : labels_of_start x.m s found ≡ found.branch.entry ∷ found.par.successor ∷ []
  first_labels = ap (λ (o : Option Label). found.branch.entry ∷ offset_after found.par o) compared

  module _ (agreed : agrees_after found.par s (label_after x.m s.mode found.par) ≡ true) where
    known : (list_all (λ entry. words_pass (is_left found.par s.frame) entry entry.span) both.1.label.entries ≡ true)
        × (list_all (is_whole s.frame) both.1.label.entries ≡ true)
    known = and_parts _ _ (ap (agrees_after found.par s) (sym compared) ∙ agreed)

    abbrev facts : Facts
    facts = facts_after found.par s.frame both.1.label.entries

    others : (k : ℤ) → is_written found.par k ≡ false → facts k ≡ s.frame k
    others = of_others found.par s.frame both.1.label.entries

    hold : entries_hold facts both.1.label.entries ≡ true
    hold = holds_after found.par s.frame least_word both.1.label.entries
        (wf.rows found.par.successor both.1.label both.1.at).apart known.0

    whole : list_all (is_whole facts) both.1.label.entries ≡ true
    whole = whole_after found.par s.frame facts both.1.label.entries others no_loops known.1

    -- a state that would go on there
    abbrev there : State
    there = fresh_state found.par.context found.par.block
        (both.1.label.number + sum_by (price facts) both.1.label.entries) facts

    goes_below : below there both.1.label ≡ Ok (cost (view there) both.1.label)
    goes_below =
        let i = both.1.is in
        is_below there both.1.label
        (let same : cost (view there) both.1.label ≤ cost (view there) both.1.label = omega arith in same)
        (and_from _ _ (and_from _ _ (and_from _ _ (and_from _ _ (and_from _ _ (and_from _ _ (and_from _ _
        (ap (λ (c : ℕ). found.par.context == c) i.context ∙ eqb-self found.par.context)
        (ap (is_same_number found.par.block) i.depth ∙ is_itself found.par.block)) refl)
        (ap (λ (stack : Stack Fact). implies Unknown stack.a) i.registers))
        (ap (λ (stack : Stack Fact). implies Unknown stack.b) i.registers))
        (ap (λ (stack : Stack Fact). implies Unknown stack.c) i.registers)) hold) whole)

    goes_after : LabelAfter x.m found.par x.act l.memory
    goes_after = record {
      label = both.1.label;
      at = both.1.at;
      low = wf.labels found.par.successor both.1.label both.1.at;
      context = both.1.is.context;
      depth = both.1.is.depth;
      registers = both.1.is.registers;
      hidden = λ k hides. says_nothing_hidden found.par both.1.label.entries k both.1.is.hidden hides;
      alone = λ k given. written_alone found.par both.1.label.entries k
          (wf.pairs found.par.successor both.1.label both.1.at) no_loops (sym (given_is_written found.par k) ∙ given);
      turns = label_turns facts both.1.label.entries x.act.turns;
      words = λ k reads beside. label_words x.m x.act facts both.1.label k
          (frame_word l.memory x.act.layout.origin k) (wf.rows found.par.successor both.1.label both.1.at)
          (wf.pairs found.par.successor both.1.label both.1.at) hold whole
          (means_same (all_here.knows.words k reads) (sym (others k (sym (given_is_written found.par k) ∙ beside)))
          refl);
    }

    after_paid : owed_at_label both.1.label (label_turns facts both.1.label.entries x.act.turns)
        ≤ cost_after s (label_after x.m s.mode found.par) + dues s.frame x.act.turns
    after_paid =
        let price_is : cost_after s (label_after x.m s.mode found.par)
        ≡ both.1.label.number + sum_by (price s.frame) both.1.label.entries = ap (cost_after s) compared in
        let less = label_owed there both.1.label (cost (view there) both.1.label) x.act
        (wf.pairs found.par.successor both.1.label both.1.at) goes_below in
        let prices = price_after found.par s.frame facts both.1.label.entries others no_loops in
        let due = dues_after found.par s.frame both.1.label.entries
        (wf.pairs found.par.successor both.1.label both.1.at) no_loops x.act.turns in
        omega (arith, price_is, less, prices, due)

    module _ (tested : IsTested x.m s found) (label : Label)
        (at : label_at x.m found.branch.entry ≡ Some label)
        (agrees_there : agrees (branch_view x.m (context_of x.m found) found.branch s) label ≡ true)
        (pays : x.len ≤ s.number) (covers : cost_of_start x.m s found label ≤ s.number - x.len) where
      -- a word of the branch is left before the first start
      left_first : (k : ℤ) → may_read_word x.m (context_of x.m found) k ≡ true
          → (words_left x.m found.par found.par.context 0).reads k ≡ true
      left_first k may = subst (λ (n : ℕ). (words_left x.m found.par found.par.context n).reads k ≡ true) first
          (left_to_read x.m found (left_of x.m s found tested) k
          (and_parts (has_word (context_at x.m (context_of x.m found)) k) _
          (sym (reads_is x.m s found tested k) ∙ may)).1)

      -- what is known of the branch's words once the PAR is open
      words : (base : ℕ)
          → CanOpen x.m found.row found.par x.act.layout base x.h l.memory s.depth l.registers.workspace
          → (k : ℤ) → may_read_word x.m (context_of x.m found) k ≡ true
          → MeansWord x.m (act_with x.act found) k (s.frame k)
          (frame_word (after_opening found.par base l.memory) x.act.layout.origin k)
      words base can k may =
          let left = left_first k may in
          let opened = openings_take_their_words x.m found.row found.par x.act.layout base x.h l.memory s.depth
          l.registers.workspace can in
          word_with found
          (means_same (all_here.knows.words k (and_parts _ _ (and_parts _ _ left).0).0) refl
          (sym (opened.words k left)))

      pub starts_first : StartsFirst x s (after_start found (cost_of_start x.m s found label)
          (record s { number = s.number - x.len })) l found
      unfolding goes_after both
      starts_first = record {
        mode = plain;
        machine_mode = plain_mode a.same_mode plain;
        first = first;
        can = can_open;
        prepared = prepared x.m s x.act l.memory found.par context both.0 all_here.knows.words;
        branch = branch_label x.m found s label wf at agrees_there x.act.turns;
        begins = λ base can. begins_at_label x.m found s label wf at agrees_there (act_with x.act found)
            (held_by_opener found.par base (length l.memory) x.h) (after_opening found.par base l.memory) s.depth
            l.registers.workspace (words base can);
        goes_after = goes_after;
        paid = paid;
      }
        where
          paid : s.number - x.len - cost_of_start x.m s found label
              + owed_at_label label (branch_label x.m found s label wf at agrees_there x.act.turns).turns
              + owed_at_label both.1.label (label_turns facts both.1.label.entries x.act.turns) + x.len
              ≤ owed s x.act
          paid =
              let less = label_paid x.m found s label wf at agrees_there x.act in
              let after = after_paid in
              omega (arith, less, after, pays, covers)
