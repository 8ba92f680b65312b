-- What the starter of a PAR has before its first branch is started: all but the block and the channels, of which it has
-- both ends.
use Rattle.std.specs.Prelude.{◌≡◌, ℕ, ◌<◌, ◌==◌, ℤ, pos, ◌+ℤ◌, true, List, [], ◌∷◌, length, if◌then◌else◌, slice_get}
use Rattle.std.specs.Prelude.{Some}
use Rattle.module_format.specs.declared.rows.ChannelRow.{ChannelRow}
use Rattle.module_format.specs.declared.rows.EndKind.TheVariants.{FrameWord}
use Rattle.module_format.specs.Contents.{Contents, Par}
use Rattle.module_format.specs.Keeping as formats
use Rattle.certificate.specs.Rights.{may_write_word}
use Rattle.machine_state.specs.Holding.{Holding, may_write, may_read, has_end}
use Rattle.machine_state.specs.Memory.{Memory, data_start, place_of}
use Rattle.machine_state.specs.declared.event.Event.{Event}
use Rattle.machine_state.specs.declared.holding.End.{End}
use Rattle.machine_state.specs.Happens.{world_after}
use Rattle.machine_state.specs.Roles.{own_in}
use Rattle.machine_state.specs.Spans.{less}
use Rattle.machine_state.specs.StartPlans.{hidden, with_ends, channel_addresses}
use Rattle.rulings.specs.Meaning.{Layout, words_in, words_left, HasFrame}
use Rattle.rulings.specs.Regions.{scope_of, scope_left, HoldsNamed, channel_address}
use Rattle.rulings.specs.Remaining.{is_hidden}

-- messages on the channels of a PAR are as long as its row says
abbrev pub lengths_with : Layout → List ChannelRow → ℕ → ℕ
lengths_with layout [] address = layout.lengths address
lengths_with layout (c ∷ channels) address =
    if channel_address layout (FrameWord c.word) == address then c.length else lengths_with layout channels address

-- the layout of an activation that starts the branches of a PAR
abbrev pub layout_with : Layout → Par → Layout
layout_with layout par = record layout { lengths = lengths_with layout par.channels }

-- what is left of a holding for the branches of a PAR
abbrev pub held_by_opener : Par → ℕ → ℕ → Holding → Holding
held_by_opener par base n h =
    let rest = less n h (hidden base par) in record rest { ends = with_ends (channel_addresses base par) rest.ends }

-- no end of a holding lies in a word that it may write
abbrev pub HasNoEndsInside : Holding → Type 0
HasNoEndsInside h = (e : End) → has_end h e ≡ true → may_write h (place_of e.address) ≡ true → ⊥

-- so whatever a valid module does
abbrev pub EndsLieOutside : Type 0
EndsLieOutside = (m : Contents) (es : List Event) (p : ℕ) → formats.Keeps m
    → HasNoEndsInside (own_in (world_after m es).roles p)

-- A process that is to start the first branch of a PAR has its frame, in memory, and what its context names. The words
-- of the block and of the channels are its own, and no end lies in a word that is.
pub record CanOpen (m : Contents) (row : ℕ) (par : Par) (layout : Layout) (base : ℕ) (h : Holding) (memory : Memory)
    (depth : ℤ) (workspace : ℕ) : Type 0 where
  pub keeps : formats.Keeps m
  pub is : slice_get m.pars row ≡ Some par
  pub origin : pos base ≡ pos data_start +ℤ layout.origin
  pub frame : HasFrame h (length memory) (words_in m par.context) layout.origin depth workspace
  pub named : HoldsNamed m h (scope_of m par.context layout) memory
  pub inside : (x : ℕ) → may_read h x ≡ true → x < length memory
  pub own : (k : ℤ) → is_hidden par k ≡ true → may_write_word m par.context k ≡ true
  pub free : HasNoEndsInside h

-- it has what its scope has left before the first start
pub record OpenerHolds (m : Contents) (par : Par) (layout : Layout) (h : Holding) (memory : Memory) (depth : ℤ)
    (workspace : ℕ) : Type 0 where
  pub frame : HasFrame h (length memory) (words_left m par par.context 0) layout.origin depth workspace
  pub named : HoldsNamed m h (scope_left m par par.context 0 (layout_with layout par)) memory
  pub inside : (x : ℕ) → may_read h x ≡ true → x < length memory

abbrev pub OpenersHoldTheRest : Type 0
OpenersHoldTheRest = (m : Contents) (row : ℕ) (par : Par) (layout : Layout) (base : ℕ) (h : Holding) (memory : Memory)
    (depth : ℤ) (workspace : ℕ) → CanOpen m row par layout base h memory depth workspace
    → OpenerHolds m par layout (held_by_opener par base (length memory) h) memory depth workspace
