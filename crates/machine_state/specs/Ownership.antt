-- What each process has for good, who has opened whom, and whose channels lie where: what keeps holdings apart.
use Rattle.std.specs.Prelude.{◌≡◌, ◌≢◌, ℕ, ◌+◌, ◌*◌, ◌/◌, ◌%◌, ◌^◌, ◌<◌, ◌≤◌, Bool, true, ◌⊎◌, List, [], ◌∷◌, Option}
use Rattle.std.specs.Prelude.{Some, None, slice_get}
use Rattle.module_format.specs.Contents.{Contents, Par}
use Rattle.module_format.specs.Keeping.{Keeps}
use Rattle.machine_state.specs.declared.event.Event.{Event}
use Rattle.machine_state.specs.declared.holding.End.{End}
use Rattle.machine_state.specs.declared.process.Channel.{Channel}
use Rattle.machine_state.specs.Memory.{place_of}
use Rattle.machine_state.specs.Holding.{Holding, may_write, may_read, has_end}
use Rattle.machine_state.specs.World.{Role, Join}
use Rattle.machine_state.specs.Moves.{cell_of}
use Rattle.machine_state.specs.BranchShares.{frame_address}
use Rattle.machine_state.specs.Roles.{own_in, opener_in, opened_in}
use Rattle.machine_state.specs.Happens.{world_after}

-- ---- what a holding claims

-- a place to write, a place to read, or an end to use
pub data Claim : Type 0 where
  to_write : ℕ → Claim
  to_read : ℕ → Claim
  to_use : End → Claim

abbrev pub claims : Holding → Claim → Bool
claims h (to_write x) = may_write h x
claims h (to_read x) = may_read h x
claims h (to_use e) = has_end h e

-- the claim that no other process may have beside this one
abbrev pub rival : Claim → Claim
rival (to_write x) = to_read x
rival (to_read x) = to_write x
rival (to_use e) = to_use e

-- no claim of one clashes with a claim of the other
abbrev pub NoClash : Holding → Holding → Type 0
NoClash g h = (c : Claim) → claims g c ≡ true → claims h (rival c) ≡ true → ⊥

-- ---- openers, members and channels, by their numbers

abbrev pub IsAmong : {A : Type 0} → A → List A → Type 0
IsAmong a [] = ⊥
IsAmong a (x ∷ xs) = (x ≡ a) ⊎ IsAmong a xs

-- q is the opener of a process, or an opener above it
pub data Under (opener : ℕ → Option ℕ) (q : ℕ) : ℕ → Type 0 where
  child : (p : ℕ) → opener p ≡ Some q → Under opener q p
  deeper : (p o : ℕ) → opener p ≡ Some o → Under opener q o → Under opener q p

-- the join that a process has open counts another one
pub record Counted (opened : ℕ → Option Join) (o p : ℕ) : Type 0 where
  pub join : Join
  pub is_open : opened o ≡ Some join
  pub member : IsAmong p join.members

abbrev pub InBlock : Join → ℕ → Type 0
InBlock j x = (place_of j.block ≤ x) × (x < place_of j.block + 8)

-- the places that an open join keeps to itself: those of its block, and of its opener's channels
pub data KeepsPlace (opened : ℕ → Option Join) (owner : ℕ → Option ℕ) (p x : ℕ) : Type 0 where
  in_block : (j : Join) → opened p ≡ Some j → InBlock j x → KeepsPlace opened owner p x
  in_channel : owner (x / 4) ≡ Some p → KeepsPlace opened owner p x

-- the channel in the data word k is one that a process has whose opener, or one above, has opened it
pub record Lent (opener owner : ℕ → Option ℕ) (p k : ℕ) : Type 0 where
  pub process : ℕ
  pub owned : owner k ≡ Some process
  pub above : Under opener process p

-- the address of a word: below 2^32, and a multiple of 4
abbrev pub IsWord : ℕ → Type 0
IsWord a = (a % 4 ≡ 0) × (a < 2 ^ 32)

-- an end of one of its own channels
abbrev pub OwnEnd : (ℕ → Option ℕ) → ℕ → Claim → Type 0
OwnEnd owner p (to_write x) = ⊥
OwnEnd owner p (to_read x) = ⊥
OwnEnd owner p (to_use e) = (owner (cell_of e.address) ≡ Some p) × IsWord e.address

-- the block of a join is where its row says, and frame words are words of memory
pub record AtPlace (pars : List Par) (j : Join) : Type 0 where
  pub par : Par
  pub row : slice_get pars j.row ≡ Some par
  pub even : j.base % 4 ≡ 0
  pub block : j.block ≡ frame_address j.base par.block

-- Holders are in order, by what each has for good, its opener, the join that it has open, and who has the channel of a
-- word.
pub record Holders (size : ℕ) (pars : List Par) (own : ℕ → Holding) (opener : ℕ → Option ℕ)
    (opened : ℕ → Option Join) (owner : ℕ → Option ℕ) : Type 0 where
  -- openers have smaller numbers
  pub rises : (p o : ℕ) → opener p ≡ Some o → o < p
  -- a branch that claims anything is a member of its opener's join
  pub counted : (p o : ℕ) (c : Claim) → opener p ≡ Some o → claims (own p) c ≡ true → Counted opened o p
  -- what may be written is data
  pub inside : (p x : ℕ) → may_write (own p) x ≡ true → x < size
  -- an end is of a link, or of a channel that a process above has opened
  pub ends : (p : ℕ) (e : End) → has_end (own p) e ≡ true
      → (size ≤ place_of e.address) ⊎ (Lent opener owner p (cell_of e.address) × IsWord e.address)
  -- what branches have not been given was the opener's, but for the ends of its channels
  pub within : (p : ℕ) (j : Join) (c : Claim) → opened p ≡ Some j → claims j.rest c ≡ true
      → (claims (own p) c ≡ true) ⊎ OwnEnd owner p c
  -- what a join keeps was the opener's to write, and is not left to anyone
  pub kept : (p x : ℕ) → KeepsPlace opened owner p x → may_write (own p) x ≡ true
  pub hidden : (p : ℕ) (j : Join) (x : ℕ) → opened p ≡ Some j → may_read j.rest x ≡ true
      → KeepsPlace opened owner p x → ⊥
  pub both : (p : ℕ) (j : Join) (x : ℕ) → opened p ≡ Some j → InBlock j x → owner (x / 4) ≡ Some p → ⊥
  -- who has a channel has a join open
  pub opens : (k p : ℕ) → owner k ≡ Some p → (j : Join) × (opened p ≡ Some j)
  -- of two processes neither of which is under the other
  pub apart : (p q : ℕ) → p ≢ q → (Under opener p q → ⊥) → (Under opener q p → ⊥) → NoClash (own p) (own q)
  -- of one under another
  pub below : (q p : ℕ) (j : Join) (c : Claim) → Under opener q p → opened q ≡ Some j → claims (own p) c ≡ true
      → claims j.rest (rival c) ≡ true → ⊥
  pub below_kept : (q p x : ℕ) → Under opener q p → may_read (own p) x ≡ true → KeepsPlace opened owner q x → ⊥
  pub places : (p : ℕ) (j : Join) → opened p ≡ Some j → AtPlace pars j

-- ---- as a world has it

abbrev pub owner_of : Option (Option Channel) → Option ℕ
owner_of None = None
owner_of (Some None) = None
owner_of (Some (Some channel)) = Some channel.opener

-- who has opened the channel in the data word k
abbrev pub owner_in : List (Option Channel) → ℕ → Option ℕ
owner_in cells k = owner_of (slice_get cells k)

abbrev pub HoldersIn : Contents → List Role → List (Option Channel) → Type 0
HoldersIn m roles channels =
    Holders (4 * m.data_words) m.pars (own_in roles) (opener_in roles) (opened_in roles) (owner_in channels)

-- whatever a valid module does
abbrev pub HoldersAreInOrder : Type 0
HoldersAreInOrder = (m : Contents) (es : List Event) → Keeps m
    → HoldersIn m (world_after m es).roles (world_after m es).channels
