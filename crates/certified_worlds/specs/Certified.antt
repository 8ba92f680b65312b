-- When a module is certified, and when it is refused.
use Rattle.std.specs.Prelude.{◌≡◌, ◌≢◌, ℕ, ◌+◌, ◌<◌, true, false, if◌then◌else◌, is_some, length, Option, Some}
use Rattle.std.specs.Prelude.{None, Result, Ok, Err}
use Rattle.prefix_decoder.specs.declared.decoding.Instr.{Instr}
use Rattle.prefix_decoder.specs.declared.decoding.DecodeFault.{DecodeFault}
use Rattle.prefix_decoder.specs.Fetching.{fetched}
use Rattle.module_format.specs.Contents.{Contents, label_at}
use Rattle.certificate.specs.Starts.{Entered, procedure_at, is_start}
use Rattle.states.specs.declared.rule.Rule.{Rule}
use Rattle.states.specs.declared.rule.Rule.TheVariants as rules
use Rattle.states.specs.State.{State, root_state, label_state, procedure_state}
use Rattle.states.specs.Below.{below}
use Rattle.rulings.specs.Rulings.{breaks, falling}
use Rattle.facts.specs.Rules.{rule_at, is_instruction}

-- the state in which the procedure begins that was found
abbrev pub first_state : Option Entered → Option State
first_state None = None
first_state (Some e) = Some (procedure_state e.context e.procedure)

-- the state that the tables give at an offset: a label's, or a procedure's first
abbrev pub table_state : Contents → ℕ → Option State
table_state m at = elim (label_at m at) [ None ↦ first_state (procedure_at m at) | Some t ↦ Some (label_state t) ]

-- the state at an offset into which `before` falls: the one that the tables give, if they give one
abbrev pub state_at : Contents → ℕ → Option State → Option State
state_at m at before = elim (table_state m at) [ None ↦ before | Some s ↦ Some s ]

-- what it costs this state to fall into the offset, or the rule that it breaks: nothing falls into a procedure
abbrev pub falling_into : Contents → ℕ → State → Result ℕ Rule
falling_into m at s = elim (label_at m at) [
  | None ↦ if is_some (procedure_at m at) then Err rules.Flow else Ok 0
  | Some t ↦ below s t
]

-- what falling into the offset costs, or the rule that it breaks
abbrev pub entering : Contents → ℕ → Option State → Result ℕ Rule
entering m at before = elim before [ None ↦ Ok 0 | Some s ↦ falling_into m at s ]

-- An instruction starts at the offset, and this state falls into it, or none.
pub data Reaches (m : Contents) : ℕ → Option State → Type 0 where
  begins : Reaches m 0 (Some (root_state m))
  follows : {at to : ℕ} {before after : Option State} {s : State} {i : Instr} → Reaches m at before
      → state_at m at before ≡ Some s
      → fetched m.code at ≡ Ok i → to ≡ at + i.len → after ≡ falling (rule_at m at i s) → Reaches m to after

-- An instruction is at the offset, the state there is the one that the assignment gives, what falls into it may go on,
-- and the instruction breaks no rule.
pub record HoldsAt (m : Contents) (states : ℕ → Option State) (at : ℕ) (before : Option State) : Type 0 where
  pub state : State
  pub stands : state_at m at before ≡ Some state
  pub assigned : states at ≡ Some state
  pub cost : ℕ
  pub enters : entering m at before ≡ Ok cost
  pub instr : Instr
  pub spelled : fetched m.code at ≡ Ok instr
  pub unbroken : (broken : Rule) → rule_at m at instr state ≢ breaks broken

-- All holds at each instruction start below an offset, and each start that the tables name below it is one.
pub record HoldsBelow (m : Contents) (states : ℕ → Option State) (end : ℕ) : Type 0 where
  pub starts : (at : ℕ) → at < end → is_start m at ≡ true → (before : Option State) × Reaches m at before
  pub each : (at : ℕ) (before : Option State) → at < end → Reaches m at before → HoldsAt m states at before

-- There is a state for each instruction start with which all holds, and nothing falls off the code.
pub record IsCertified (m : Contents) : Type 0 where
  pub states : ℕ → Option State
  pub holds : HoldsBelow m states (length m.code)
  pub ends : (before : Option State) → Reaches m (length m.code) before → before ≡ None

-- The rule is broken at the offset.
pub data IsBroken (m : Contents) : Rule → ℕ → Type 0 where
  -- no spelling of an instruction is there
  misspelled : {rule : Rule} {at : ℕ} {before : Option State} {e : DecodeFault} → rule ≡ rules.Spelling
      → Reaches m at before → at < length m.code → fetched m.code at ≡ Err e → IsBroken m rule at
  -- it is no instruction of the machine, whether anything leads there or not
  unruled : {rule : Rule} {at : ℕ} {before : Option State} {i : Instr} → rule ≡ rules.Spelling → Reaches m at before
      → at < length m.code → fetched m.code at ≡ Ok i → is_instruction m i ≡ false → IsBroken m rule at
  -- a start that the tables name lies within an instruction
  hidden : {rule : Rule} {at : ℕ} → rule ≡ rules.InstructionStart → at < length m.code → is_start m at ≡ true
      → ((before : Option State) → Reaches m at before → ⊥) → IsBroken m rule at
  -- it is one, and nothing leads there
  unreached : {rule : Rule} {at : ℕ} {i : Instr} → rule ≡ rules.Flow → Reaches m at None → at < length m.code
      → fetched m.code at ≡ Ok i → is_instruction m i ≡ true → table_state m at ≡ None → IsBroken m rule at
  -- a state falls off the code
  fallen_off : {rule : Rule} {at : ℕ} {s : State} → rule ≡ rules.Flow → at ≡ length m.code → Reaches m at (Some s)
      → IsBroken m rule at
  -- what falls into a label is not below it, or something falls into a procedure
  entered : {rule : Rule} {at : ℕ} {before : Option State} → Reaches m at before → at < length m.code
      → entering m at before ≡ Err rule → IsBroken m rule at
  -- the instruction breaks its rule
  broken : {rule : Rule} {at : ℕ} {before : Option State} {s : State} {i : Instr} → Reaches m at before
      → at < length m.code → state_at m at before ≡ Some s → fetched m.code at ≡ Ok i → rule_at m at i s ≡ breaks rule
      → IsBroken m rule at

-- All holds below the offset, and there the rule is broken.
pub record IsRefused (m : Contents) (rule : Rule) (at : ℕ) : Type 0 where
  pub states : ℕ → Option State
  pub holds : HoldsBelow m states at
  pub broken : IsBroken m rule at
