-- What one pass over the entries of a label shows: that what they want is known, and what going on there costs.
use Rattle.std.specs.Prelude.{◌≡◌, ℕ, ◌==◌, Bool, true, false, Option, IfSome}
use Rattle.std.specs.List.{list_all}
use Rattle.module_format.specs.Rows.{Entry}
use Rattle.module_format.specs.declared.fact.Fact.TheVariants.{Loop, ReturnAddress}
use Rattle.module_format.specs.Contents.{Contents, Par, Label}
use Rattle.machine_state.specs.BranchContexts.{context_of}
use Rattle.machine_state.specs.JoinLookups.{Found}
use Rattle.states.specs.State.{State}
use Rattle.states.specs.Below.{View, entries_hold, is_whole, cost}
use Rattle.par_rules.specs.declared.costs.Costs.{Costs}
use Rattle.par_rules.specs.Comparisons.{branch_view, agrees_after, cost_after}

-- reading shows what an entry says: it is no return address, and a loop has two words
abbrev pub is_readable : Entry → Bool
is_readable entry = elim entry.fact [
  | Loop base count weight ↦ entry.span == 2
  | ReturnAddress ↦ false
  | _ ↦ true
]

-- `price` is what going on at a label costs, and what the label says of words is known
pub record IsCostOf (v : View) (t : Label) (price : ℕ) : Type 0 where
  pub hold : entries_hold v.frame t.entries ≡ true
  pub whole : list_all (is_whole v.frame) t.entries ≡ true
  pub due : cost v t ≡ price

-- `price` is what the label after a PAR costs, if it is compared, and it agrees
pub record IsCostAfter (par : Par) (s : State) (after : Option Label) (price : ℕ) : Type 0 where
  pub agrees : agrees_after par s after ≡ true
  pub due : cost_after s after ≡ price

-- what the code knows of what the labels of a start cost
pub record AreCosts (m : Contents) (s : State) (found : Found) (t : Label) (successor : Option Label) (known : Costs)
    : Type 0 where
  pub branch : IfSome known.branch (IsCostOf (branch_view m (context_of m found) found.branch s) t)
  pub after : IfSome known.after (IsCostAfter found.par s successor)
