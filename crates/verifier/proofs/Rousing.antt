-- A process that is roused lives on, with something ready.
use Rattle.std.proofs.Common.{◌≡◌, ◌⊎◌, ℕ, ℤ, Bool, inl, inr, List, Option, Some, None, refl, sym, ap, ◌∙◌, arith}
use Rattle.std.specs.Prelude.{slice_get, slice_set, true}
use Rattle.module_format.specs.Contents.{Contents}
use Rattle.machine_state.specs.declared.process.Task.{Task}
use Rattle.machine_state.specs.declared.process.Mode as machine
use Rattle.machine_state.specs.declared.process.Mode.TheVariants as modes
use Rattle.machine_state.specs.declared.process.Condition.TheVariants.{Ready, Sending, Alternating, Ended}
use Rattle.machine_state.specs.declared.process.Exchange.{Exchange}
use Rattle.machine_state.specs.Roles.{opened_in}
use Rattle.machine_state.specs.EnabledLaws.{Enables, HasReady}
use Rattle.machine_state.specs.Memory.{Memory}
use Rattle.machine_state.specs.World.{World}
use Rattle.machine_state.specs.Moves.{rouse}
use Rattle.machine_state.proofs.MovesLeaveAlone.{OnlyTasks, rouse_only}
use Rattle.machine_state.proofs.Changes.{Roused, nobody, who_enables, who_waits, rouses}
use Rattle.states.specs.declared.known.Mode as states
use Rattle.rulings.specs.Meaning.{SameMode, both_plain, both_enabling, both_disabling, both_starting}
use Rattle.rulings.specs.Guarding.{guard_value}
use Rattle.certified_worlds.specs.Invariant.{Holds}
use Rattle.verifier.proofs.CalmWorlds.{IsCalm, is_alternating, is_among_starts, is_plain}
use Rattle.verifier.proofs.OthersGuards.{LeavesEnabled, enabled_same}
use Rattle.verifier.proofs.SharedOut.{IsSharedOut, none_open}
use Rattle.verifier.proofs.Tables.{row_of}
use Rattle.verifier.proofs.Tables.{channels_equal, Puts, living, roused_lives, lives_in_mode, nothing_changes}
use Rattle.verifier.proofs.Tables.{holds_aside, holds_put, holds_put_alternating, lives_whatever}
use Rattle.certified_worlds.proofs.Carrying.{alternates_on, enabled_as_before, ready_on}
use Rattle.certified_worlds.specs.Lives.{awaits, it_lives}

-- the state of a process that enables fits whether something is ready or not
still_enabling : {p : states.Mode} {q : machine.Mode} (is_ready : Bool) → Enables q → SameMode p q
    → SameMode p (modes.Enabling is_ready)
still_enabling is_ready enables both_plain = let no' = enables.1 in absurd (cc)
still_enabling is_ready enables both_enabling = both_enabling
still_enabling is_ready enables both_disabling = let no' = enables.1 in absurd (cc)
still_enabling is_ready enables both_starting = let no' = enables.1 in absurd (cc)

-- a process that enables is ready, as it waits for no message
enabling_is_ready : (t : Task) → IsCalm t → Enables t.mode → t.condition ≡ Ready
enabling_is_ready t (is_plain plain) enables =
    let no' : modes.Plain ≡ modes.Enabling enables.0 = sym plain ∙ enables.1 in absurd (cc)
enabling_is_ready t (is_among_starts starting ready) enables = ready
enabling_is_ready t (is_alternating (inl e)) enables = e.1
enabling_is_ready t (is_alternating (inr d)) enables =
    let no' : modes.Disabling d.0.0 ≡ modes.Enabling enables.0 = sym d.0.1 ∙ enables.1 in absurd (cc)

-- a process that waits for a guard disables next
waiting_disables : (t : Task) → IsCalm t → t.condition ≡ Alternating
    → (t.mode ≡ modes.Plain) ⊎ ((selection : Option ℤ) × (t.mode ≡ modes.Disabling selection))
waiting_disables t (is_plain plain) waits = inl plain
waiting_disables t (is_among_starts starting ready) waits =
    let no' : Ready ≡ Alternating = sym ready ∙ waits in absurd (cc)
waiting_disables t (is_alternating (inl e)) waits =
    let no' : Ready ≡ Alternating = sym e.1 ∙ waits in absurd (cc)
waiting_disables t (is_alternating (inr d)) waits = inr (d.0.0, d.0.1)

module _ (m : Contents) (w : World) (h : Holds m w) (out : IsSharedOut m w) where
  -- the world once a process was roused
  roused_puts : (after : World) (p : ℕ) (u : Task) → OnlyTasks w after → after.tasks ≡ slice_set w.tasks p u
      → Puts w after p u w.memory
  roused_puts after p u only is = record {
    tasks = is;
    memory = only.memory;
    roles = only.roles;
    channels = channels_equal only.channels;
    kept = rw only.links h.kept;
    fault = only.fault;
  }

  -- a process that enables, or waits for a guard, has no join open
  enables_unopened : (q : ℕ) (t : Task) → slice_get w.tasks q ≡ Some t → Enables t.mode → t.condition ≡ Ready
      → opened_in w.roles q ≡ None
  enables_unopened q t here enables ready = none_open out.starters.openers q t here
      (λ ended. let no' : Ready ≡ Ended = sym ready ∙ ended in cc)
      (λ starting now. let no' : modes.Enabling enables.0 ≡ modes.Starting = sym enables.1 ∙ starting in cc)

  waits_unopened : (q : ℕ) (t : Task) → slice_get w.tasks q ≡ Some t → t.condition ≡ Alternating
      → opened_in w.roles q ≡ None
  waits_unopened q t here waits = none_open out.starters.openers q t here
      (λ ended. let no' : Alternating ≡ Ended = sym waits ∙ ended in cc)
      (λ starting ready. let no' : Alternating ≡ Ready = sym waits ∙ ready in cc)

  -- nothing that others have enabled changes
  leaves : (after : World) (q : ℕ) (t : Task) → OnlyTasks w after → ((e : Exchange) → t.condition ≡ Sending e → ⊥)
      → LeavesEnabled w after q t
  leaves after q t only silent = enabled_same only.channels (ap (λ links. links.inputs) only.links)
      (λ k c p e other here enabled waiting sends. silent e sends)

  pub roused_holds : (after : World) (o : Option ℕ) (tasks : List Task) → OnlyTasks w after → after.tasks ≡ tasks
      → Roused w.tasks o tasks
      → ((q : ℕ) → o ≡ Some q → HasReady w.tasks w.channels w.links.inputs q) → Holds m after
  roused_holds after o tasks only is (nobody quiet) found =
      holds_aside m w after (record {
        tasks = is;
        memory = only.memory;
        roles = only.roles;
        channels = only.channels;
        kept = rw only.links h.kept;
        counters = only.counters;
        fault = only.fault;
      }) (λ q. enabled_as_before w after q only.channels (ap (λ links. links.inputs) only.links))
      (λ q found. rw (is, only.channels, only.links) found)
      h
  roused_holds after o tasks only is (who_enables q t here enabling calm) found =
      let ready = enabling_is_ready t (out.calm q t here) enabling in
      let r = living m w h q t Ready here ready (λ e. cc) (λ e. cc) in
      let u : Task = record t { mode = modes.Enabling true } in
      let old = r.guards (inl (enabling, ready)) in
      holds_put_alternating m w h out q t r after u w.memory (row_of r).due
      (roused_puts after q u only is) (leaves after q t only (λ e sends. let no' = sym ready ∙ sends in cc))
      nothing_changes (enables_unopened q t here enabling ready) (rw only.counters (omega arith))
      (lives_in_mode (modes.Enabling true) r.lives (still_enabling true enabling))
      (alternates_on m w after q t u r.lives.point.state r.lives.point.state r.lives.point.act old
      (enabled_as_before w after q only.channels (ap (λ links. links.inputs) only.links))
      (λ n g there. ap (λ (memory : Memory). guard_value memory r.lives.point.act g.name) only.memory)
      (record { guards = refl; left = refl }) old.fit (λ distance no'. absurd (cc))
      (λ must. inl (rw (is, only.channels, only.links) (ready_on w.tasks w.channels w.links.inputs q q t u here
      (λ e sends. let no' = sym ready ∙ sends in cc) (found q refl)))))
  roused_holds after o tasks only is (who_waits q t here waits) found =
      let r = living m w h q t Alternating here waits (λ e. cc) (λ e. cc) in
      let u : Task = record t { condition = Ready } in
      let unopened = waits_unopened q t here waits in
      let left = leaves after q t only (λ e sends. let no' = sym waits ∙ sends in cc) in
      elim (waiting_disables t (out.calm q t here) waits) [
        | inl plain ↦
            holds_put m w h out q t r after u w.memory (row_of r).due (roused_puts after q u only is) left
            nothing_changes unopened (rw only.counters (omega arith)) plain
            (it_lives (lives_whatever Ready (λ e is. elim is [ inl no' ↦ absurd (cc) | inr no' ↦ absurd (cc) ])
            (λ place. ap (λ c. awaits c place) waits) (λ place. refl) r.lives))
        | inr disables ↦
            let old = r.guards (inr (disables, inr waits)) in
            holds_put_alternating m w h out q t r after u w.memory (row_of r).due (roused_puts after q u only is)
            left nothing_changes unopened (rw only.counters (omega arith))
            (roused_lives waits r.lives)
            (alternates_on m w after q t u r.lives.point.state r.lives.point.state r.lives.point.act old
            (enabled_as_before w after q only.channels (ap (λ links. links.inputs) only.links))
            (λ n g there. ap (λ (memory : Memory). guard_value memory r.lives.point.act g.name) only.memory)
            (record { guards = refl; left = refl }) old.fit (λ distance same. same)
            (λ must. inl (rw (is, only.channels, only.links) (ready_on w.tasks w.channels w.links.inputs q q t u here
            (λ e sends. let no' = sym waits ∙ sends in cc) (found q refl)))))
      ]

  pub rouse_holds : (o : Option ℕ) → ((q : ℕ) → o ≡ Some q → HasReady w.tasks w.channels w.links.inputs q)
      → Holds m (rouse o w)
  rouse_holds o found = roused_holds (rouse o w) o (rouse o w).tasks (rouse_only o w) refl (rouses o w) found
