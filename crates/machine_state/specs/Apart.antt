-- No two processes hold the same, and no process holds what open joins keep to themselves.
use Rattle.std.specs.Prelude.{◌≡◌, ◌≢◌, ℕ, ◌+◌, ◌*◌, true, false, List, Option, Some, slice_get}
use Rattle.machine_state.specs.declared.process.Channel.{Channel}
use Rattle.machine_state.specs.declared.holding.Span.{Span}
use Rattle.machine_state.specs.Memory.{place_of}
use Rattle.machine_state.specs.Holding.{Holding, covers, may_read, IsApart}
use Rattle.machine_state.specs.World.{Role, Join, held}

-- the places of a join's block, and of the data word of this number, in which a channel may lie
abbrev pub block_span : Join → Span
block_span join = record { start = place_of join.block; end = place_of join.block + 8 }

abbrev pub data_word : ℕ → Span
data_word k = record { start = 4 * k; end = 4 * k + 4 }

abbrev pub IsFree : Holding → Span → Type 0
IsFree h span = (place : ℕ) → covers span place ≡ true → may_read h place ≡ false

abbrev pub AreDisjoint : Span → Span → Type 0
AreDisjoint a b = (place : ℕ) → covers a place ≡ true → covers b place ≡ false

pub record AllApart (roles : List Role) (channels : List (Option Channel)) : Type 0 where
  pub processes : (p q : ℕ) (r s : Role) → p ≢ q → slice_get roles p ≡ Some r → slice_get roles q ≡ Some s
      → IsApart (held r) (held s)
  pub blocks : (p q : ℕ) (r s : Role) (join : Join) → slice_get roles p ≡ Some r → r.opened ≡ Some join
      → slice_get roles q ≡ Some s → IsFree (held s) (block_span join)
  pub channel_words : (k q : ℕ) (channel : Channel) (s : Role) → slice_get channels k ≡ Some (Some channel)
      → slice_get roles q ≡ Some s → IsFree (held s) (data_word k)
  pub blocks_once : (p q : ℕ) (r s : Role) (a b : Join) → p ≢ q → slice_get roles p ≡ Some r
      → slice_get roles q ≡ Some s → r.opened ≡ Some a → s.opened ≡ Some b
      → AreDisjoint (block_span a) (block_span b)
  pub both_once : (p k : ℕ) (r : Role) (join : Join) (channel : Channel) → slice_get roles p ≡ Some r
      → r.opened ≡ Some join → slice_get channels k ≡ Some (Some channel)
      → AreDisjoint (block_span join) (data_word k)
