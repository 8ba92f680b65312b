-- A way over the code of a module, from what falls in at one offset to what falls in at another: each instruction on it
-- breaks no rule.
use Rattle.std.specs.Prelude.{◌≡◌, ◌≢◌, ℕ, ◌+◌, ◌<◌, false, length, Option, Some, None, Ok, get_or}
use Rattle.prefix_decoder.specs.declared.decoding.Instr.{Instr}
use Rattle.prefix_decoder.specs.Fetching.{fetched}
use Rattle.module_format.specs.Contents.{Contents}
use Rattle.certificate.specs.Starts.{is_start}
use Rattle.states.specs.declared.rule.Rule.{Rule}
use Rattle.states.specs.State.{State, root_state}
use Rattle.rulings.specs.Rulings.{breaks, falling}
use Rattle.facts.specs.Rules.{rule_at}
use Rattle.certified_worlds.specs.Certified.{state_at, entering, IsCertified}

-- in this state an instruction begins at the offset, into which this falls
pub record IsIn (m : Contents) (at : ℕ) (before : Option State) (state : State) : Type 0 where
  pub stands : state_at m at before ≡ Some state
  pub cost : ℕ
  pub enters : entering m at before ≡ Ok cost

-- An instruction is at the offset, which breaks no rule, and no start that the tables name is within it.
pub record IsPassed (m : Contents) (at : ℕ) (before : Option State) : Type 0 where
  pub state : State
  pub is_in : IsIn m at before state
  pub instr : Instr
  pub spelled : fetched m.code at ≡ Ok instr
  pub unbroken : (broken : Rule) → rule_at m at instr state ≢ breaks broken
  pub alone : (k : ℕ) → at < k → k < at + instr.len → is_start m k ≡ false

-- instructions, one after the other
pub data Passes (m : Contents) : ℕ → Option State → ℕ → Option State → Type 0 where
  over : {at : ℕ} {before : Option State} → Passes m at before at before
  on : {at to : ℕ} {before after : Option State} (p : IsPassed m at before)
      → Passes m (at + p.instr.len) (falling (rule_at m at p.instr p.state)) to after → Passes m at before to after

-- A module of bytes is certified, if a way leads from its beginning over all code to where nothing falls off.
abbrev pub WaysCertify : Type 0
WaysCertify = (m : Contents) → ((n : ℕ) → get_or m.code n 0 < 256)
    → Passes m 0 (Some (root_state m)) (length m.code) None → IsCertified m
