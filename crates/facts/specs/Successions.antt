-- What follows an instruction, in terms of its ruling.
use Rattle.std.specs.Prelude.{◌≡◌, ◌⊎◌, ℕ, ◌+◌, ◌%◌, ◌^◌, Bool, true, false, IfSome, Result, Ok, Err, Some, None}
use Rattle.std.specs.Prelude.{option_map, List, [], ◌∷◌, map}
use Rattle.std.specs.List.{AllByRecursion}
use Rattle.module_format.specs.Contents.{Contents, label_at}
use Rattle.states.specs.declared.rule.Rule.{Rule}
use Rattle.states.specs.declared.rule.RuleFault.{RuleFault}
use Rattle.states.specs.Numbers.{fault_of, out_of_memory}
use Rattle.states.specs.State.{State, label_state}
use Rattle.states.specs.Views.{state_of, BelongsTo}
use Rattle.facts.specs.declared.following.Successor.{Successor}
use Rattle.facts.specs.declared.following.Successors.{Successors}
use Rattle.rulings.specs.Rulings.{Ruling, breaks, falling, leading}

-- the fault is that of the rule that is broken
abbrev pub ReportsBroken : RuleFault → Ruling → Type 0
ReportsBroken fault ruling = (broken : Rule) × (ruling ≡ breaks broken) × (fault ≡ fault_of broken)

-- whether a ruling breaks no rule
abbrev pub obeys : Ruling → Bool
obeys (breaks broken) = false
obeys ruling = true

-- the offset after an instruction; offsets of code have 32 bits
abbrev pub offset_behind : ℕ → ℕ → ℕ
offset_behind at length = (at + length) % 2 ^ 32

-- the offset of a successor, and its state
abbrev pub placed_at : Successor → ℕ × State
placed_at s = (s.at, state_of s.state)

-- the states of the labels at these offsets, each with its offset
abbrev pub states_at_labels : Contents → List ℕ → List (ℕ × State)
states_at_labels m [] = []
states_at_labels m (to ∷ rest) = elim (label_at m to) [
  | None ↦ states_at_labels m rest
  | Some t ↦ (to, label_state t) ∷ states_at_labels m rest
]

-- The states that follow are those of a ruling that breaks no rule: the one that falls through, at this offset, and
-- those of the labels to which it leads, in their order.
pub record AreOf (m : Contents) (next : ℕ) (successors : Successors) (ruling : Ruling) : Type 0 where
  pub obeyed : obeys ruling ≡ true
  pub behind : option_map placed_at successors.behind ≡ option_map (λ s. (next, s)) (falling ruling)
  pub labels : map placed_at successors.labels.items ≡ states_at_labels m (leading ruling)

-- the states that follow are those of the ruling, unless memory ran out
abbrev pub Succeeds : Contents → ℕ → Result Successors RuleFault → Ruling → Type 0
Succeeds m next (Ok successors) ruling = AreOf m next successors ruling
Succeeds m next (Err fault) ruling = (fault ≡ out_of_memory) ⊎ ReportsBroken fault ruling

-- a state that follows is one of the module
pub record Follow (m : Contents) (successors : Successors) : Type 0 where
  pub behind : IfSome successors.behind (λ s. BelongsTo m s.state)
  pub labels : AllByRecursion (λ (s : Successor). BelongsTo m s.state) successors.labels.items
