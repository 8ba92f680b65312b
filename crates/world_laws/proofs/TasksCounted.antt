-- Tasks are at most the bytes executed and one, in every world.
use Rattle.std.proofs.Common.{◌≡◌, ℕ, ◌+◌, ◌≤◌, Option, List, [], ◌∷◌, length, refl, ◌∙◌, arith}
use Rattle.std.proofs.lemmas.List.{length-append, length-set}
use Rattle.std.specs.Prelude.{slice_set}
use Rattle.module_format.specs.Contents.{Contents}
use Rattle.machine_state.specs.declared.event.Event.{Event}
use Rattle.machine_state.specs.declared.process.Channel.{Channel}
use Rattle.machine_state.specs.declared.process.Mode.TheVariants.{Starting}
use Rattle.machine_state.specs.declared.process.Task.{Task}
use Rattle.machine_state.specs.Endings.{TurnsInto, Happened}
use Rattle.machine_state.specs.Endings as turns
use Rattle.machine_state.specs.EventLaws.{bytes_of}
use Rattle.machine_state.specs.Happens.{turn, world_after}
use Rattle.machine_state.specs.Moves.{dispatch, link_index}
use Rattle.machine_state.specs.Site.{Outcome}
use Rattle.machine_state.specs.Turn.{Here, Turn}
use Rattle.machine_state.specs.World.{World, Role, Links}
use Rattle.machine_state.proofs.Changes.{Changed, Passed, Roused, passes, going}
use Rattle.machine_state.proofs.Changes as change
use Rattle.machine_state.proofs.EventLaws.{events_count_bytes}
use Rattle.machine_state.proofs.EveryWorld.{every_world}
use Rattle.machine_state.proofs.MovesLeaveAlone.{rouse_only, wake_only}
use Rattle.machine_state.proofs.Turns.{turn_happens}
use Rattle.machine_state.proofs.Waiting.{reached}
use Rattle.world_laws.specs.TasksCounted.{TasksAreCounted}
use Rattle.world_laws.proofs.Filling.{fill_only}

roused_size : (tasks later : List Task) (o : Option ℕ) → Roused tasks o later → length later ≡ length tasks
roused_size tasks later o (change.nobody deaf) = refl
roused_size tasks later o (change.who_enables q t here is awake) = length-set tasks q _
roused_size tasks later o (change.who_waits q t here is) = length-set tasks q _

-- an instruction starts one process at most
one_size : (before tasks : List Task) → length tasks ≡ length before → length tasks ≤ length before + 1
one_size before tasks same = omega (arith, same)

module _ (h : Here) (w : World) where
  one_more : (tasks : List Task) → length tasks ≡ length w.tasks → length tasks ≤ length w.tasks + 1
  one_more tasks same = one_size w.tasks tasks same

  set_twice : (p q : ℕ) (t u : Task) → length (slice_set (slice_set w.tasks p t) q u) ≡ length w.tasks
  set_twice p q t u = length-set (slice_set w.tasks p t) q u ∙ length-set w.tasks p t

  changed : (ts : List Task) (rs : List Role) (cs : List (Option Channel)) (ls : Links) → Changed h w ts rs cs ls
      → length ts ≤ length w.tasks + 1
  changed ts rs cs ls (change.goes_on r mode c x) = one_more ts (length-set w.tasks h.process _)
  changed ts rs cs ls (change.waits_to_receive r e c is holds at none) = one_more ts (length-set w.tasks h.process _)
  changed ts rs cs ls (change.waits_to_send r e c tasks is holds at none roused) =
      one_more ts (roused_size _ tasks c.enabled roused ∙ length-set w.tasks h.process _)
  changed ts rs cs ls (change.meets_sender r e sent c other is holds at waits x) =
      one_more ts (set_twice h.process other _ _)
  changed ts rs cs ls (change.meets_receiver r e wanted c other is holds at waits x) =
      one_more ts (set_twice h.process other _ _)
  changed ts rs cs ls (change.receives_outside r e k link new c is holds word here receives) =
      one_more ts (length-set w.tasks h.process _)
  changed ts rs cs ls (change.sends_outside r e k is holds word low) = one_more ts (length-set w.tasks h.process _)
  changed ts rs cs ls (change.starts r role j own child cells is here plain awake opening) =
      let before = length-set w.tasks h.process
      (record { registers = r; mode = Starting; condition = h.from.condition }) in
      let after = length-append (going h w r Starting h.from.condition) (child ∷ []) in
      omega (arith, before, after)
  changed ts rs cs ls (change.leaves_join r o roles x some) = one_more ts (length-set w.tasks h.process _)
  changed ts rs cs ls (change.closes_join r o roles x none par t here over) = one_more ts (set_twice h.process o _ _)
  changed ts rs cs ls (change.enables_a_channel r address c is holds at once) =
      one_more ts (length-set w.tasks h.process _)
  changed ts rs cs ls (change.enables_a_link r k link is holds here once) =
      one_more ts (length-set w.tasks h.process _)
  changed ts rs cs ls (change.disables_a_channel r mode address c is further at mine) =
      one_more ts (length-set w.tasks h.process _)
  changed ts rs cs ls (change.disables_a_link r mode k link is further here mine) =
      one_more ts (length-set w.tasks h.process _)

grows : (m : Contents) (w : World) (ts : List Task) (rs : List Role) (cs : List (Option Channel)) (ls : Links)
    → Passed m w ts rs cs ls → length ts ≤ length w.tasks + 1
grows m w ts rs cs ls change.nothing_happens = omega arith
grows m w ts rs cs ls (change.it_runs p pick task runs here x) = changed _ w ts rs cs ls x
grows m w ts rs cs ls (change.fills_last p k link here waiting x) = one_size w.tasks ts (length-set w.tasks p _)
grows m w ts rs cs ls (change.fills_more p k x) = one_size w.tasks ts (length-set w.tasks p _)
grows m w ts rs cs ls (change.keeps_byte k byte link tasks here empty roused) =
    one_size w.tasks ts (roused_size w.tasks tasks link.enabled roused)
grows m w ts rs cs ls (change.acknowledges p k link here waiting x) = one_size w.tasks ts (length-set w.tasks p _)

-- an event that executes no byte starts no process
abbrev Counts : World → Turn → Type 0
Counts w t = length t.world.tasks ≤ length w.tasks + bytes_of t.answer

ended : (h : Here) (w : World) (o : Outcome) (t : Turn) → length t.world.tasks ≤ length w.tasks + 1 → TurnsInto h w o t
    → Counts w t
ended h w o t most (turns.at_fault refused) = omega arith
ended h w o t most (turns.has_run moved) = most
ended h w o t most (turns.has_emitted e l k on same) = most

none_more : (w : World) (t : Turn) → length t.world.tasks ≡ length w.tasks → Counts w t
none_more w t same = omega (arith, same)

counted : (m : Contents) (w : World) (e : Event) (t : Turn) → length t.world.tasks ≤ length w.tasks + 1
    → Happened m w e t → Counts w t
unfolding dispatch
counted m w e t most (turns.was_at_fault f is) = omega arith
counted m w e t most (turns.it_rests rests) = omega arith
counted m w e t most (turns.is_outside p task why runs here) = omega arith
counted m w e t most (turns.is_prefix p task byte operand runs here at none it next) = most
counted m w e t most (turns.is_step p task byte f runs here at is ends) = ended _ w _ t most ends
counted m w e t most (turns.is_taken {link = link} {byte = byte} input p here waiting) =
    none_more w t (fill_only p (link_index link) byte input w).size
counted m w e t most (turns.is_kept input here none empty) =
    none_more w t (rouse_only input.enabled _).size
counted m w e t most (turns.is_acknowledged output p here waiting) = none_more w t (wake_only p _).size

pub tasks_counted : TasksAreCounted
tasks_counted m = every_world m (λ w. length w.tasks ≤ w.counters.executed + 1) (omega arith)
    (λ es e before.
    let w = world_after m es in
    let t = turn m w e in
    let happened = turn_happens m w e in
    let most = grows m w _ _ _ _ (passes m w (reached m es) e t happened) in
    let more : length t.world.tasks ≤ length w.tasks + bytes_of t.answer = counted m w e t most happened in
    let bytes = events_count_bytes m w e in
    omega (arith, before, more, bytes))
