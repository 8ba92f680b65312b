-- What proofs of starts and ends read of a world: what the laws of every module say of it, and that what they leave
-- alone is so in the world after.
use Rattle.std.proofs.Common.{refl, sym, ◌∙◌}
use Rattle.std.specs.Prelude.{◌≡◌, ◌≢◌, ℕ, ◌+◌, ◌<◌, true, List, length, Option, Some, slice_get}
use Rattle.module_format.specs.Contents.{Contents, Par}
use Rattle.module_format.specs.Keeping.{Keeps}
use Rattle.machine_state.specs.declared.event.Event.{Event}
use Rattle.machine_state.specs.declared.process.Channel.{Channel}
use Rattle.machine_state.specs.declared.process.Condition.TheVariants.{Ready, Stopped, Ended}
use Rattle.machine_state.specs.declared.process.Task.{Task}
use Rattle.machine_state.specs.Apart.{AllApart}
use Rattle.machine_state.specs.EnabledLaws.{Alternates, EnabledIsHeld}
use Rattle.machine_state.specs.Happens.{world_after}
use Rattle.machine_state.specs.Memory.{Memory}
use Rattle.machine_state.specs.Holding.{Holding, may_read}
use Rattle.machine_state.specs.Ownership.{HoldersIn}
use Rattle.machine_state.specs.Roles.{own_in}
use Rattle.machine_state.specs.Waiting.{Branches, Starters}
use Rattle.machine_state.specs.World.{World, Role, Join, held}
use Rattle.machine_state.proofs.ApartLaws.{all_stand, format_is_small, holdings_stay_apart}
use Rattle.machine_state.proofs.EnabledIsHeld.{enabled_is_held}
use Rattle.machine_state.proofs.Waiting.{branches_are_counted, reached}
use Rattle.machine_state.proofs.WhoStarts.{openers_are_starting}
use Rattle.rulings.specs.Meaning.{Activation}
use Rattle.share_laws.specs.Opening.{HasNoEndsInside}
use Rattle.share_laws.proofs.EndsOutside.{ends_lie_outside}
use Rattle.certified_worlds.specs.Invariant.{AlternatesIn, Holds}
use Rattle.certified_worlds.specs.Lives.{Lives, Meets, it_lives, it_stopped, it_ended}
use Rattle.certified_worlds.specs.Pending.{StartsHere}
use Rattle.certified_worlds.specs.Point.{Began}

-- Holders are in order and apart, branches are counted, each process has a role, each data word a cell; what is held
-- lies in memory, no end of a process lies in a word of its own, and what is enabled is held.
pub record IsOrderly (m : Contents) (w : World) : Type 0 where
  pub holders : HoldersIn m w.roles w.channels
  pub apart : AllApart w.roles w.channels
  pub branches : Branches w.tasks w.roles
  pub starters : Starters w.tasks w.roles
  pub as_many : length w.roles ≡ length w.tasks
  pub cells : length w.channels ≡ m.data_words
  pub inside : (p : ℕ) (role : Role) → slice_get w.roles p ≡ Some role → (place : ℕ)
      → may_read (held role) place ≡ true → place < length w.memory
  pub free : (p : ℕ) → HasNoEndsInside (own_in w.roles p)
  pub enabled : EnabledIsHeld w.roles w.channels w.links.inputs

-- So it is in each world that events lead to, where what is held lies in memory.
pub reached_is_orderly : (m : Contents) (es : List Event) → Keeps m
    → ((p : ℕ) (role : Role) → slice_get (world_after m es).roles p ≡ Some role → (place : ℕ)
    → may_read (held role) place ≡ true → place < length (world_after m es).memory)
    → IsOrderly m (world_after m es)
reached_is_orderly m es keeps inside =
    let stands = all_stand m (format_is_small m keeps) es in
    record {
      holders = stands.holders;
      apart = holdings_stay_apart m es keeps;
      branches = branches_are_counted m es;
      starters = openers_are_starting m es;
      as_many = (reached m es).rest.size;
      cells = stands.size;
      inside = inside;
      free = λ p. ends_lie_outside m es p keeps;
      enabled = enabled_is_held m es;
    }

-- A process meets in the world after what it met before, in the same way: if it alternates, it still does, and if it is
-- among the starts of a PAR, or has ended after them, it still is.
pub record MeetsStill (m : Contents) (w after : World) (q : ℕ) {h : Holding} {start : Began} {t : Task} {due : ℕ}
    (old : Meets m h start w.memory t due) : Type 0 where
  pub meets : Meets m h start after.memory t due
  pub guards : Alternates t.mode t.condition → AlternatesIn w q old → AlternatesIn after q meets
  pub starts : (par : Par) (j : Join) (act : Activation) → StartsHere old par j act → StartsHere meets par j act

-- each channel is there still
abbrev pub KeepsChannels : List (Option Channel) → List (Option Channel) → Type 0
KeepsChannels old new = (k : ℕ) (c : Channel) → slice_get old k ≡ Some (Some c) → slice_get new k ≡ Some (Some c)

-- all processes but this one do so
abbrev pub OthersMeet : (m : Contents) (w : World) → Holds m w → ℕ → World → Type 0
OthersMeet m w h p after = (q : ℕ) (t : Task) (here : slice_get w.tasks q ≡ Some t) → p ≢ q
    → MeetsStill m w after q (h.table.each q t here).meets

-- A process is ready, and at the last byte of an instruction.
pub record IsAtLastByte (m : Contents) (w : World) (h : Holds m w) (p : ℕ) (t : Task) : Type 0 where
  pub here : slice_get w.tasks p ≡ Some t
  pub ready : t.condition ≡ Ready
  pub lives : Lives m (held (h.table.each p t here).role) (h.table.each p t here).start w.memory t
      (h.table.each p t here).due
  pub is : (h.table.each p t here).meets ≡ it_lives lives
  pub last : lives.point.taken + 1 ≡ lives.point.instr.len

-- a process that is ready lives
pub ready_lives : {m : Contents} {h : Holding} {start : Began} {memory : Memory} {t : Task} {due : ℕ}
    (meets : Meets m h start memory t due) → t.condition ≡ Ready
    → (lives : Lives m h start memory t due) × (meets ≡ it_lives lives)
ready_lives (it_lives l) ready = (l, refl)
ready_lives (it_stopped e) ready = let no' : Stopped ≡ Ready = sym e ∙ ready in absurd (cc)
ready_lives (it_ended e) ready = let no' : Ended ≡ Ready = sym e ∙ ready in absurd (cc)
