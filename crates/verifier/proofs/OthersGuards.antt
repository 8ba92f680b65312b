-- The guards of other processes over what one process does: what it changes of channels and links leaves what they have
-- enabled and what is ready for them, and it writes no word that names a guard of theirs.
use Rattle.std.proofs.Common.{◌≡◌, ◌≢◌, ℕ, inl, inr, List, Option, Some}
use Rattle.std.proofs.Common.{sym, ap, ◌∙◌, subst}
use Rattle.std.proofs.lemmas.Bool.{cases_eq}
use Rattle.std.specs.Prelude.{slice_get, slice_set}
use Rattle.small_laws.proofs.Options.{same_some}
use Rattle.machine_state.specs.declared.link.InputLink.{InputLink}
use Rattle.machine_state.specs.declared.process.Channel.{Channel}
use Rattle.machine_state.specs.declared.process.Condition.TheVariants.{Ready, Sending}
use Rattle.machine_state.specs.declared.process.Exchange.{Exchange}
use Rattle.machine_state.specs.declared.process.Task.{Task}
use Rattle.machine_state.specs.EnabledLaws.{HasReady, a_sender, a_byte}
use Rattle.machine_state.specs.Moves.{cell_of}
use Rattle.machine_state.specs.World.{World}
use Rattle.machine_state.proofs.Lines.{got_set, got_other, set_either}
use Rattle.certified_worlds.specs.Alternating.{EnablesAt, a_channel, a_link}
use Rattle.certified_worlds.proofs.Carrying.{SameEnabled}

-- ---- channels and links

-- What others than p have enabled of channels is as before, and a process that waits there still does.
pub record LeavesChannels (p : ℕ) (old new : List (Option Channel)) : Type 0 where
  pub back : (k : ℕ) (c : Channel) (q : ℕ) → p ≢ q → slice_get new k ≡ Some (Some c) → c.enabled ≡ Some q
      → (d : Channel) × (slice_get old k ≡ Some (Some d)) × (d.enabled ≡ Some q)
  pub on : (k : ℕ) (c : Channel) (q : ℕ) → p ≢ q → slice_get old k ≡ Some (Some c) → c.enabled ≡ Some q
      → (d : Channel) × (slice_get new k ≡ Some (Some d)) × (d.enabled ≡ Some q)
      × ((s : ℕ) → c.waiting ≡ Some s → d.waiting ≡ Some s)

-- What they have enabled of links is as before, and a byte that is kept there still is.
pub record LeavesLinks (p : ℕ) (old new : List InputLink) : Type 0 where
  pub back : (k : ℕ) (l : InputLink) (q : ℕ) → p ≢ q → slice_get new k ≡ Some l → l.enabled ≡ Some q
      → (o : InputLink) × (slice_get old k ≡ Some o) × (o.enabled ≡ Some q)
  pub on : (k : ℕ) (l : InputLink) (q : ℕ) → p ≢ q → slice_get old k ≡ Some l → l.enabled ≡ Some q
      → (n : InputLink) × (slice_get new k ≡ Some n) × (n.enabled ≡ Some q)
      × ((byte : ℕ) → l.kept ≡ Some byte → n.kept ≡ Some byte)

-- what p waits to send no other process has enabled
abbrev pub IsSilent : World → ℕ → Task → Type 0
IsSilent w p t = (k : ℕ) (c : Channel) (q : ℕ) (e : Exchange) → p ≢ q → slice_get w.channels k ≡ Some (Some c)
    → c.enabled ≡ Some q → c.waiting ≡ Some p → t.condition ≡ Sending e → ⊥

-- What a process changes leaves what others have enabled, and what is ready for them.
pub record LeavesEnabled (w after : World) (p : ℕ) (t : Task) : Type 0 where
  pub channels : LeavesChannels p w.channels after.channels
  pub links : LeavesLinks p w.links.inputs after.links.inputs
  pub silent : IsSilent w p t

-- a process that is ready waits to send nothing
pub ready_is_silent : (w : World) (p : ℕ) (t : Task) → t.condition ≡ Ready → IsSilent w p t
ready_is_silent w p t ready k c q e other here enabled waiting sends = let no' = sym ready ∙ sends in cc

pub channels_same : {p : ℕ} {old new : List (Option Channel)} → new ≡ old → LeavesChannels p old new
channels_same same = record {
  back = λ k c q other here is.
      (c, ap (λ (cells : List (Option Channel)). slice_get cells k) (sym same) ∙ here, is);
  on = λ k c q other here is.
      (c, ap (λ (cells : List (Option Channel)). slice_get cells k) same ∙ here, is, λ s waiting. waiting);
}

pub links_same : {p : ℕ} {old new : List InputLink} → new ≡ old → LeavesLinks p old new
links_same same = record {
  back = λ k l q other here is. (l, ap (λ (links : List InputLink). slice_get links k) (sym same) ∙ here, is);
  on = λ k l q other here is.
      (l, ap (λ (links : List InputLink). slice_get links k) same ∙ here, is, λ byte kept. kept);
}

-- where no channel and no input link has changed
pub enabled_same : {w after : World} {p : ℕ} {t : Task} → after.channels ≡ w.channels
    → after.links.inputs ≡ w.links.inputs → IsSilent w p t → LeavesEnabled w after p t
enabled_same channels links silent =
    record { channels = channels_same channels; links = links_same links; silent = silent }

-- One channel has changed: others have enabled of it what they had, and if one has, a process that waits there stays.
pub channel_set : {p : ℕ} (cells : List (Option Channel)) (k : ℕ) (old new : Channel)
    → slice_get cells k ≡ Some (Some old) → ((q : ℕ) → p ≢ q → new.enabled ≡ Some q → old.enabled ≡ Some q)
    → ((q : ℕ) → p ≢ q → old.enabled ≡ Some q
    → (new.enabled ≡ Some q) × ((s : ℕ) → old.waiting ≡ Some s → new.waiting ≡ Some s))
    → LeavesChannels p cells (slice_set cells k (Some new))
channel_set {p} cells k old new there fewer more = record { back = back; on = on }
  where
    back : (n : ℕ) (c : Channel) (q : ℕ) → p ≢ q → slice_get (slice_set cells k (Some new)) n ≡ Some (Some c)
        → c.enabled ≡ Some q → (d : Channel) × (slice_get cells n ≡ Some (Some d)) × (d.enabled ≡ Some q)
    back n c q other here is = elim (set_either cells k (Some new) n (Some c) here) [
      | inl it ↦
          let one : Some c ≡ Some new = it.1 in
          let same : c ≡ new = cc in (
            old,
            subst (λ i. slice_get cells i ≡ Some (Some old)) it.0 there,
            fewer q other (ap (λ (x : Channel). x.enabled) (sym same) ∙ is),
          )
      | inr differ ↦ (c, differ.1, is)
    ]

    on : (n : ℕ) (c : Channel) (q : ℕ) → p ≢ q → slice_get cells n ≡ Some (Some c) → c.enabled ≡ Some q
        → (d : Channel) × (slice_get (slice_set cells k (Some new)) n ≡ Some (Some d)) × (d.enabled ≡ Some q)
        × ((s : ℕ) → c.waiting ≡ Some s → d.waiting ≡ Some s)
    on n c q other here is = elim (cases_eq k n) [
      | inl it ↦
          let one : Some old ≡ Some c = same_some (slice_get cells n) (Some old) (Some c)
          (subst (λ i. slice_get cells i ≡ Some (Some old)) it there) here in
          let same : old ≡ c = cc in
          let now = more q other (ap (λ (x : Channel). x.enabled) same ∙ is) in (
            new,
            subst (λ i. slice_get (slice_set cells k (Some new)) i ≡ Some (Some new)) it
                (got_set cells k (Some old) (Some new) there),
            now.0,
            λ s waiting. now.1 s (ap (λ (x : Channel). x.waiting) same ∙ waiting),
          )
      | inr differ ↦ (c, got_other cells k n (Some new) differ ∙ here, is, λ s waiting. waiting)
    ]

-- The same of one input link, and of a byte that is kept there.
pub link_set : {p : ℕ} (inputs : List InputLink) (k : ℕ) (old new : InputLink) → slice_get inputs k ≡ Some old
    → ((q : ℕ) → p ≢ q → new.enabled ≡ Some q → old.enabled ≡ Some q)
    → ((q : ℕ) → p ≢ q → old.enabled ≡ Some q
    → (new.enabled ≡ Some q) × ((byte : ℕ) → old.kept ≡ Some byte → new.kept ≡ Some byte))
    → LeavesLinks p inputs (slice_set inputs k new)
link_set {p} inputs k old new there fewer more = record { back = back; on = on }
  where
    back : (n : ℕ) (l : InputLink) (q : ℕ) → p ≢ q → slice_get (slice_set inputs k new) n ≡ Some l
        → l.enabled ≡ Some q → (o : InputLink) × (slice_get inputs n ≡ Some o) × (o.enabled ≡ Some q)
    back n l q other here is = elim (set_either inputs k new n l here) [
      | inl it ↦ (
        old,
        subst (λ i. slice_get inputs i ≡ Some old) it.0 there,
        fewer q other (ap (λ (x : InputLink). x.enabled) (sym it.1) ∙ is),
      )
      | inr differ ↦ (l, differ.1, is)
    ]

    on : (n : ℕ) (l : InputLink) (q : ℕ) → p ≢ q → slice_get inputs n ≡ Some l → l.enabled ≡ Some q
        → (o : InputLink) × (slice_get (slice_set inputs k new) n ≡ Some o) × (o.enabled ≡ Some q)
        × ((byte : ℕ) → l.kept ≡ Some byte → o.kept ≡ Some byte)
    on n l q other here is = elim (cases_eq k n) [
      | inl it ↦
          let same = same_some (slice_get inputs n) old l (subst (λ i. slice_get inputs i ≡ Some old) it there) here in
          let now = more q other (ap (λ (x : InputLink). x.enabled) same ∙ is) in (
            new,
            subst (λ i. slice_get (slice_set inputs k new) i ≡ Some new) it (got_set inputs k old new there),
            now.0,
            λ byte kept. now.1 byte (ap (λ (x : InputLink). x.kept) same ∙ kept),
          )
      | inr differ ↦ (l, got_other inputs k n new differ ∙ here, is, λ byte kept. kept)
    ]

-- ---- what others have enabled

module _ (w after : World) (p : ℕ) (t u : Task) (here : slice_get w.tasks p ≡ Some t)
    (tasks : after.tasks ≡ slice_set w.tasks p u) (leaves : LeavesEnabled w after p t) (q : ℕ) (other : p ≢ q) where
  enables_before : (address : ℕ) → EnablesAt after q address → EnablesAt w q address
  enables_before address (a_channel word c there is) =
      let d = leaves.channels.back (cell_of address) c q other there is in a_channel word d.0 d.1 d.2
  enables_before address (a_link k l at there is) =
      let o = leaves.links.back k l q other there is in a_link k o.0 at o.1 o.2

  enables_after : (address : ℕ) → EnablesAt w q address → EnablesAt after q address
  enables_after address (a_channel word c there is) =
      let d = leaves.channels.on (cell_of address) c q other there is in a_channel word d.0 d.1 d.2
  enables_after address (a_link k l at there is) =
      let o = leaves.links.on k l q other there is in a_link k o.0 at o.1 o.2

  -- the same as before
  pub enables_as_before : SameEnabled w after q
  enables_as_before = record { fewer = enables_before; more = enables_after }

  -- and what is ready for them stays so
  pub ready_for_others : HasReady w.tasks w.channels w.links.inputs q
      → HasReady after.tasks after.channels after.links.inputs q
  ready_for_others (a_byte k l byte there is kept) =
      let o = leaves.links.on k l q other there is in a_byte k o.0 byte o.1 o.2 (o.3 byte kept)
  ready_for_others (a_sender k c s sender e there is waiting stands sends) =
      let d = leaves.channels.on k c q other there is in
      a_sender k d.0 s sender e d.1 d.2 (d.3 s waiting)
      (ap (λ (ts : List Task). slice_get ts s) tasks ∙ (got_other w.tasks p s u another ∙ stands)) sends
    where
      another : p ≢ s
      another same =
          let one = same_some (slice_get w.tasks s) t sender (subst (λ n. slice_get w.tasks n ≡ Some t) same here)
          stands in
          leaves.silent k c q e other there is (waiting ∙ ap Some (sym same))
          (ap (λ (x : Task). x.condition) one ∙ sends)
