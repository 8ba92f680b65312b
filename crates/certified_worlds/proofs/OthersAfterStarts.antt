-- A start leaves what the others meet.
use Rattle.std.proofs.Common.{◌≡◌, ◌⊎◌, ℕ, inl, inr, Some, None, refl, sym, ◌∙◌}
use Rattle.std.specs.Prelude.{slice_get}
use Rattle.module_format.specs.Contents.{Contents}
use Rattle.machine_state.specs.declared.process.Channel.{Channel}
use Rattle.machine_state.specs.declared.process.Condition.TheVariants.{Ready, Sending}
use Rattle.machine_state.specs.declared.process.Task.{Task}
use Rattle.machine_state.specs.EnabledLaws.{HasReady}
use Rattle.machine_state.specs.Frame.{ChangesOwn}
use Rattle.machine_state.specs.World.{World, held}
use Rattle.certified_worlds.specs.Invariant.{Process, Holds}
use Rattle.certified_worlds.proofs.Carrying.{SameEnabled, enabled_alike, ready_alike}
use Rattle.certified_worlds.proofs.GrownLists.{got_unchanged}
use Rattle.certified_worlds.proofs.OrderlyWorlds.{IsOrderly, OthersMeet, KeepsChannels}
use Rattle.certified_worlds.proofs.OthersStay.{others_meet}
use Rattle.certified_worlds.proofs.StartedWorlds.{Beginning, begotten}

-- Channels that are there stay, no process has enabled one that is new, and the process changes its own bytes.
module _ (m : Contents) (w : World) (h : Holds m w) (order : IsOrderly m w) (p : ℕ) (t : Task)
    (here : slice_get w.tasks p ≡ Some t) (ready : t.condition ≡ Ready) (s : Beginning)
    (keeps : KeepsChannels w.channels s.channels)
    (quiet : (k : ℕ) (c : Channel) → slice_get s.channels k ≡ Some (Some c)
    → (slice_get w.channels k ≡ Some (Some c)) ⊎ (c.enabled ≡ None))
    (changes : ChangesOwn (held (h.table.each p t here).role) w.memory s.memory) where
  abbrev row : Process m w h.began h.dues p t
  row = h.table.each p t here

  abbrev after : World
  after = begotten w p row.role s

  enabled : (q : ℕ) → SameEnabled w after q
  enabled q = enabled_alike w after q (λ k c at is. elim (quiet k c at) [
    | inl old ↦ old
    | inr none ↦ let no' : None ≡ Some q = sym none ∙ is in absurd (cc)
  ]) (λ k c at is. keeps k c at) refl

  has_ready : (q : ℕ) → HasReady w.tasks w.channels w.links.inputs q
      → HasReady after.tasks after.channels after.links.inputs q
  has_ready q = ready_alike w.tasks after.tasks w.channels after.channels w.links.inputs q p t here
      (λ e sends. let no' : Ready ≡ Sending e = sym ready ∙ sends in cc) (λ k c at is. keeps k c at)
      (λ r v other has. got_unchanged w.tasks p s.task s.child r v other has)

  pub begotten_others : OthersMeet m w h p after
  begotten_others = others_meet m w after (held row.role) changes h p
      (λ q role differ has. order.apart.processes p q row.role role differ row.has_role has)
      (λ q u differ at alternates. enabled q) (λ q u differ at alternates. has_ready q)
