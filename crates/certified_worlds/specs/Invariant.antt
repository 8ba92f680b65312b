-- What holds of every world that a certified module comes to, in parts: but for alternations, each reads only some
-- parts of the world. Which process runs and which wait, and that holdings are apart, are laws of every module.
use Rattle.std.specs.Prelude.{◌≡◌, ℕ, ◌+◌, ◌≤◌, ◌<◌, ⊤, true, if◌then◌else◌, List, [], ◌∷◌, length, Option, Some, None}
use Rattle.std.specs.Prelude.{nat_lt, slice_get}
use Rattle.module_format.specs.Contents.{Contents, link_length}
use Rattle.module_format.specs.declared.rows.ChannelRow.{ChannelRow}
use Rattle.module_format.specs.declared.rows.Direction.TheVariants.{In, Out}
use Rattle.module_format.specs.declared.rows.EndKind.TheVariants.{FrameWord}
use Rattle.machine_state.specs.declared.holding.End.{End}
use Rattle.machine_state.specs.declared.link.InputLink.{InputLink}
use Rattle.machine_state.specs.declared.process.Task.{Task}
use Rattle.machine_state.specs.declared.process.Channel.{Channel}
use Rattle.machine_state.specs.EnabledLaws.{Alternates}
use Rattle.machine_state.specs.Memory.{Memory}
use Rattle.machine_state.specs.Holding.{Holding, has_end}
use Rattle.machine_state.specs.Moves.{cell_of}
use Rattle.machine_state.specs.Waiting.{IsGone}
use Rattle.machine_state.specs.World.{World, Role, Join, held, link_word}
use Rattle.rulings.specs.Regions.{channel_address}
use Rattle.certified_worlds.specs.Point.{Began}
use Rattle.certified_worlds.specs.Lives.{Meets, it_lives, it_stopped, it_ended}
use Rattle.certified_worlds.specs.Pending.{AfterPar, Pending, IsMember, StartsHere}
use Rattle.certified_worlds.specs.Alternating.{AlternatesHere}

-- ---- processes

-- a process that has stopped or ended is in no alternation
abbrev pub AlternatesIn : {m : Contents} {h : Holding} {start : Began} {memory : Memory} {t : Task} {due : ℕ}
    → World → ℕ
    → Meets m h start memory t due → Type 0
AlternatesIn {m = m} {t = t} w p (it_lives l) = AlternatesHere m w p t l.point.state l.point.act
AlternatesIn w p (it_stopped e) = ⊤
AlternatesIn w p (it_ended e) = ⊤

-- A process with its role, what it began with, and what it owes. A process that is no branch began as the root. If one
-- is in an alternation, the guards of its state are what it has enabled.
pub record Process (m : Contents) (w : World) (began : List Began) (dues : List ℕ) (p : ℕ) (t : Task) : Type 0 where
  pub role : Role
  pub has_role : slice_get w.roles p ≡ Some role
  pub start : Began
  pub has_start : slice_get began p ≡ Some start
  pub due : ℕ
  pub has_due : slice_get dues p ≡ Some due
  pub root : role.opener ≡ None → start.context ≡ 0
  pub meets : Meets m (held role) start w.memory t due
  pub alternating : Alternates t.mode t.condition → AlternatesIn w p meets

pub record Table (m : Contents) (w : World) (began : List Began) (dues : List ℕ) : Type 0 where
  pub each : (p : ℕ) (t : Task) → slice_get w.tasks p ≡ Some t → Process m w began dues p t

-- ---- lengths of messages

-- the messages at an end have the length that the process that began with it knows
pub data LengthAgrees (m : Contents) (channels : List (Option Channel)) (began : Began) (e : End) : Type 0 where
  at_link : (k : ℕ) → k < 8 → e ≡ record { address = link_word k; direction = if nat_lt k 4 then Out else In }
      → link_length m k ≡ began.layout.lengths e.address → LengthAgrees m channels began e
  at_channel : (c : Channel) → slice_get channels (cell_of e.address) ≡ Some (Some c)
      → c.length ≡ began.layout.lengths e.address → LengthAgrees m channels began e

abbrev pub LengthsAgree : Contents → List Role → List (Option Channel) → List Began → Type 0
LengthsAgree m roles channels began =
    (p : ℕ) (role : Role) (start : Began) (e : End) → slice_get roles p ≡ Some role → slice_get began p ≡ Some start
    → has_end role.own e ≡ true → LengthAgrees m channels start e

-- ---- PARs

-- A process that has a join open: what it goes on with; its branches that are not over; and its channels, which are as
-- its row says.
pub record Opener (m : Contents) (w : World) (began : List Began) (dues pending_dues : List ℕ)
    (table : Table m w began dues) (p : ℕ) (role : Role) (j : Join) : Type 0 where
  pub start : Began
  pub has_start : slice_get began p ≡ Some start
  pub due : ℕ
  pub has_due : slice_get pending_dues p ≡ Some due
  pub after : AfterPar m j due
  pub pending : Pending m role.own p start began w.memory j due after
  pub starter : (task : Task) (here : slice_get w.tasks p ≡ Some task)
      → StartsHere (table.each p task here).meets after.par j after.act
  pub members : (q : ℕ) (branch : Role) (first : Began) → slice_get w.roles q ≡ Some branch → branch.opener ≡ Some p
      → (IsGone w.tasks branch q → ⊥) → slice_get began q ≡ Some first → IsMember m after.par after.act.layout first
  pub channels : (n : ℕ) (row : ChannelRow) → slice_get after.par.channels n ≡ Some row
      → (c : Channel) × (slice_get w.channels (cell_of (channel_address after.act.layout (FrameWord row.word)))
      ≡ Some (Some c)) × (c.length ≡ row.length) × (c.opener ≡ p)

-- ---- all of it

abbrev pub total : List ℕ → ℕ
total [] = 0
total (n ∷ ns) = n + total ns

-- for each process what it began with, what it owes, and what waits for its PAR
pub record AreCounted (tasks : List Task) (began : List Began) (dues pending_dues : List ℕ) : Type 0 where
  pub begun : length began ≡ length tasks
  pub owing : length dues ≡ length tasks
  pub pending : length pending_dues ≡ length tasks

pub record Holds (m : Contents) (w : World) : Type 0 where
  pub dues : List ℕ
  pub pending_dues : List ℕ
  pub began : List Began
  pub counted : AreCounted w.tasks began dues pending_dues
  pub table : Table m w began dues
  pub pending : (p : ℕ) (role : Role) (j : Join) → slice_get w.roles p ≡ Some role → role.opened ≡ Some j
      → Opener m w began dues pending_dues table p role j
  pub lengths : LengthsAgree m w.roles w.channels began
  pub kept : (k : ℕ) (link : InputLink) (b : ℕ) → slice_get w.links.inputs k ≡ Some link → link.kept ≡ Some b → b < 256
  pub owed : total dues + total pending_dues + w.counters.executed ≤ m.budget
  pub well : w.fault ≡ None
