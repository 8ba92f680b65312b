-- How the state of a process goes on over the code of a module where no row and no procedure begins, and that it does
-- so where straight pieces lie.
use Rattle.std.specs.Prelude.{◌≡◌, ℕ, ◌+◌, ◌-◌, ◌≤◌, ◌<◌, ℤ, pos, ◌+ℤ◌, List, Some, None, Ok, get_or}
use Rattle.prefix_decoder.specs.declared.decoding.Instr.{Instr}
use Rattle.prefix_decoder.specs.Fetching.{fetched}
use Rattle.module_format.specs.Contents.{Contents}
use Rattle.states.specs.State.{State}
use Rattle.rulings.specs.Rulings.{falls}
use Rattle.local_rules.specs.MemoryRules.{place_fact}
use Rattle.facts.specs.Rules.{rule_at}
use Rattle.certified_worlds.specs.Certified.{table_state, Reaches}
use Rattle.code_pieces.specs.Pieces.{Piece}
use Rattle.placed_code.specs.LaidCode.{LaidCode, Lie, LoadsTable}
use Rattle.certified_lines.specs.StraightRules.{Setting, Told, FallOn, state_of, table_fact}

-- Instructions are fetched one after the other, no state is in the tables where they begin, and the rule of each lets
-- the state before it fall into the next.
pub data Walks (m : Contents) : ℕ → State → ℕ → State → Type 0 where
  here : {at : ℕ} {s : State} → Walks m at s at s
  on : {at to : ℕ} {s t u : State} (i : Instr) → table_state m at ≡ None → fetched m.code at ≡ Ok i
      → rule_at m at i s ≡ falls t → Walks m (at + i.len) t to u → Walks m at s to u

-- What reaches the one place reaches the other.
abbrev pub WalksReach : Type 0
WalksReach = (m : Contents) (at to : ℕ) (s t : State) → Walks m at s to t → Reaches m at (Some s)
    → Reaches m to (Some t)

-- This is the setting of code that is laid out: the same bytes at the same workspace, and the instructions of a table
-- lead to where the setting has it.
pub record IsSettingOf (g : Setting) (c : LaidCode) : Type 0 where
  pub code : c.code ≡ g.contents.code
  pub bytes : (n : ℕ) → get_or c.code n 0 < 256
  pub depth : c.footing.depth ≡ g.depth
  pub tables : (at to : ℕ) (values : List ℤ) (loads : LoadsTable c at values to)
      → place_fact g.contents (pos to +ℤ loads.distance)
      ≡ Ok (table_fact g values)

-- no state is in the tables from the one offset to before the other
abbrev pub NoTablesIn : Contents → ℕ → ℕ → Type 0
NoTablesIn m at to = (k : ℕ) → at ≤ k → k < to → table_state m k ≡ None

-- Where straight pieces lie, what can pay walks from where they begin to where they end, and knows there what their
-- rules leave.
abbrev pub StraightPiecesWalk : Type 0
StraightPiecesWalk = (g : Setting) (c : LaidCode) (at to number : ℕ) (ps : List Piece) (s t : Told) → IsSettingOf g c
    → Lie c at ps to → FallOn g ps s t → NoTablesIn g.contents at to → to - at ≤ number
    → Walks g.contents at (state_of g s number) to (state_of g t (number - (to - at)))
