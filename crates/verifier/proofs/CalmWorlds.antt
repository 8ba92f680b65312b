-- Whatever a module does, each process is in the middle of nothing, starts branches and is ready, or is in an
-- alternation.
use Rattle.std.proofs.Common.{◌≡◌, ℕ, zero, suc, ◌+◌, ◌||◌, Bool, true, false, inl, inr, List, [], ◌∷◌, ◌++◌}
use Rattle.std.proofs.Common.{Option, Some, None}
use Rattle.std.proofs.Common.{refl, sym, ap, ◌∙◌, subst, slice_get}
use Rattle.std.specs.Prelude.{slice_set}
use Rattle.module_format.specs.Contents.{Contents}
use Rattle.machine_state.specs.declared.process.Condition.{Condition}
use Rattle.machine_state.specs.declared.process.Condition.TheVariants.{Ready, Sending, Receiving, OnLink, Alternating}
use Rattle.machine_state.specs.declared.process.Mode.{Mode}
use Rattle.machine_state.specs.declared.process.Mode.TheVariants as modes
use Rattle.machine_state.specs.declared.process.Registers.{Registers}
use Rattle.machine_state.specs.declared.process.Task.{Task}
use Rattle.machine_state.specs.declared.event.Event.{Event}
use Rattle.machine_state.specs.declared.process.Channel.{Channel}
use Rattle.machine_state.specs.Alternations.{ready_or}
use Rattle.machine_state.specs.EnabledLaws.{Alternates, Enables}
use Rattle.machine_state.specs.Happens.{world_after}
use Rattle.machine_state.specs.Turn.{Here, at_here}
use Rattle.machine_state.specs.World.{World, Links, Role, loaded}
use Rattle.machine_state.specs.Waiting.{WaitsOn}
use Rattle.machine_state.proofs.Changes as change
use Rattle.machine_state.proofs.Changes.{Changed, Passed, Onward, Receives, Roused, going, running_is_ready}
use Rattle.machine_state.proofs.Changes.{of_every_world}
use Rattle.machine_state.proofs.Lines.{got_either, set_either}
use Rattle.machine_state.proofs.Waiting.{WaitsIn, reached}

-- a process is in the middle of nothing, starts branches, or is in an alternation
pub data IsCalm (t : Task) : Type 0 where
  is_plain : t.mode ≡ modes.Plain → IsCalm t
  is_among_starts : t.mode ≡ modes.Starting → t.condition ≡ Ready → IsCalm t
  is_alternating : Alternates t.mode t.condition → IsCalm t

-- a process that waits for a message is in plain mode
pub plain_of : (t : Task) → IsCalm t → (t.condition ≡ Ready → ⊥) → (t.condition ≡ Alternating → ⊥)
    → t.mode ≡ modes.Plain
plain_of t (is_plain plain) unready unroused = plain
plain_of t (is_among_starts starting ready) unready unroused = absurd (unready ready)
plain_of t (is_alternating (inl enables)) unready unroused = absurd (unready enables.1)
plain_of t (is_alternating (inr disables)) unready unroused =
    absurd (elim disables.1 [ inl ready ↦ unready ready | inr waits ↦ unroused waits ])

abbrev pub AllCalm : List Task → Type 0
AllCalm tasks = (p : ℕ) (t : Task) → slice_get tasks p ≡ Some t → IsCalm t

-- ---- one task is another one

pub set_calm : (tasks : List Task) (q : ℕ) (u : Task) → IsCalm u → AllCalm tasks → AllCalm (slice_set tasks q u)
set_calm tasks q u calm all p t here = elim (set_either tasks q u p t here) [
  | inl it ↦ subst IsCalm (sym it.1) calm
  | inr other ↦ all p t other.1
]

grown_calm : (tasks : List Task) (u : Task) → IsCalm u → AllCalm tasks → AllCalm (tasks ++ u ∷ [])
grown_calm tasks u calm all p t here = elim (got_either tasks u p t here) [
  | inl before ↦ all p t before
  | inr last ↦ subst IsCalm (sym last.1) calm
]

-- a process that waited for a message is ready
woken_calm : (t : Task) (c : Condition) → t.condition ≡ c → (c ≡ Ready → ⊥) → (c ≡ Alternating → ⊥) → IsCalm t
    → (next : Condition) → IsCalm (record t { condition = next })
woken_calm t c is unready unroused calm next =
    is_plain (plain_of t calm (λ ready. unready (sym is ∙ ready)) (λ waits. unroused (sym is ∙ waits)))

roused_calm : {tasks later : List Task} {o : Option ℕ} → Roused tasks o later → AllCalm tasks → AllCalm later
roused_calm (change.nobody deaf) all = all
roused_calm (change.who_enables q t here is awake) all =
    set_calm _ q (record t { mode = modes.Enabling true }) (on (all q t here)) all
  where
    on : IsCalm t → IsCalm (record t { mode = modes.Enabling true })
    on (is_plain plain) = absurd (let no' : modes.Plain ≡ modes.Enabling is.0 = sym plain ∙ is.1 in cc)
    on (is_among_starts starting ready) =
        absurd (let no' : modes.Starting ≡ modes.Enabling is.0 = sym starting ∙ is.1 in cc)
    on (is_alternating (inl enables)) = is_alternating (inl ((true, refl), enables.1))
    on (is_alternating (inr disables)) =
        absurd (let no' : modes.Disabling disables.0.0 ≡ modes.Enabling is.0 = sym disables.0.1 ∙ is.1 in cc)
roused_calm (change.who_waits q t here waits) all =
    set_calm _ q (record t { condition = Ready }) (on (all q t here)) all
  where
    on : IsCalm t → IsCalm (record t { condition = Ready })
    on (is_plain plain) = is_plain plain
    on (is_among_starts starting ready) = is_among_starts starting refl
    on (is_alternating (inl enables)) = is_alternating (inl (enables.0, refl))
    on (is_alternating (inr disables)) = is_alternating (inr (disables.0, inl refl))

-- ---- an instruction of the running process

still_enables : {mode : Mode} → Enables mode → (b : Bool) → Enables (ready_or mode b)
still_enables is b = (is.0 || b, ap (λ (mode : Mode). ready_or mode b) is.1)

module _ (h : Here) (w : World) (runs : w.queue.running ≡ Some h.process)
    (there : slice_get w.tasks h.process ≡ Some h.from) (keeps : WaitsIn w) (all : AllCalm w.tasks) where
  ready : h.from.condition ≡ Ready
  ready = running_is_ready h w runs there keeps

  -- it goes on in this mode and this condition
  abbrev Calm : Mode → Condition → Type 0
  Calm mode c = (r : Registers) → IsCalm (record { registers = r; mode = mode; condition = c })

  goes : (r : Registers) (mode : Mode) (c : Condition) → Calm mode c → AllCalm (going h w r mode c)
  goes r mode c calm = set_calm _ h.process (record { registers = r; mode = mode; condition = c }) (calm r) all

  as_it_was : Calm h.from.mode h.from.condition
  as_it_was r = on (all h.process h.from there)
    where
      on : IsCalm h.from
          → IsCalm (record { registers = r; mode = h.from.mode; condition = h.from.condition })
      on (is_plain plain) = is_plain plain
      on (is_among_starts starting now) = is_among_starts starting now
      on (is_alternating alternates) = is_alternating alternates

  onward : (mode : Mode) (c : Condition) → Onward h w mode c → Calm mode c
  onward mode c change.as_before r = as_it_was r
  onward mode c (change.stops plain) r = is_plain plain
  onward mode c (change.begins plain) r = is_alternating (inl ((false, refl), ready))
  onward mode c (change.enables is b) r = is_alternating (inl (still_enables is b, ready))
  onward mode c (change.is_ready is) r = is_alternating (inr ((None, refl), inl ready))
  onward mode c (change.alternates is unready) r = is_alternating (inr ((None, refl), inr refl))
  onward mode c (change.disables is later further) r = is_alternating (inr (further, inl ready))
  onward mode c (change.ends_alternation is none) r = is_plain refl

  changed : (ts : List Task) (rs : List Role) (cs : List (Option Channel)) (ls : Links) → Changed h w ts rs cs ls
      → AllCalm ts
  changed ts rs cs ls (change.goes_on r mode c x) = goes r mode c (onward mode c x)
  changed ts rs cs ls (change.waits_to_receive r e c plain holds at none) =
      goes r h.from.mode (Receiving e) (λ r. is_plain plain)
  changed ts rs cs ls (change.waits_to_send r e c tasks plain holds at none roused) =
      roused_calm roused (goes r h.from.mode (Sending e) (λ r. is_plain plain))
  changed ts rs cs ls (change.meets_sender r e sent c other plain holds at waits x) =
      set_calm _ other (record x.task { condition = Ready })
      (woken_calm x.task (Sending sent) x.waits (λ e. cc) (λ e. cc) (all other x.task x.here) Ready)
      (goes r h.from.mode h.from.condition as_it_was)
  changed ts rs cs ls (change.meets_receiver r e wanted c other plain holds at waits x) =
      set_calm _ other (record x.task { condition = Ready })
      (woken_calm x.task (Receiving wanted) x.waits (λ e. cc) (λ e. cc) (all other x.task x.here) Ready)
      (goes r h.from.mode h.from.condition as_it_was)
  changed ts rs cs ls (change.receives_outside r e k link new c plain holds at here receives) =
      goes r h.from.mode c (λ r. is_plain plain)
  changed ts rs cs ls (change.sends_outside r e k plain holds at low) =
      goes r h.from.mode (OnLink e 0) (λ r. is_plain plain)
  changed ts rs cs ls (change.starts r role j own child cells outside here plain now opening) =
      grown_calm _ child (is_plain plain)
      (goes r modes.Starting h.from.condition (λ r. is_among_starts refl ready))
  changed ts rs cs ls (change.leaves_join r o roles x some) = goes r modes.Plain _ (λ r. is_plain refl)
  changed ts rs cs ls (change.closes_join r o roles x none par t here over) =
      set_calm _ o _ (is_plain refl) (goes r modes.Plain _ (λ r. is_plain refl))
  changed ts rs cs ls (change.enables_a_channel r address c is holds at once) =
      goes r _ h.from.condition (λ r. is_alternating (inl (still_enables is _, ready)))
  changed ts rs cs ls (change.enables_a_link r k link is holds here once) =
      goes r _ h.from.condition (λ r. is_alternating (inl (still_enables is _, ready)))
  changed ts rs cs ls (change.disables_a_channel r mode address c is further at mine) =
      goes r mode h.from.condition (λ r. is_alternating (inr (further, inl ready)))
  changed ts rs cs ls (change.disables_a_link r mode k link is further here mine) =
      goes r mode h.from.condition (λ r. is_alternating (inr (further, inl ready)))

-- ---- every event

on_link_calm : {tasks : List Task} {p word : ℕ} (x : WaitsOn tasks p word) → AllCalm tasks → (next : Condition)
    → IsCalm (record x.task { condition = next })
on_link_calm {p = p} x all next =
    woken_calm x.task (OnLink x.exchange x.done) x.waits (λ e. cc) (λ e. cc) (all p x.task x.here) next

module _ (m : Contents) (w : World) (keeps : WaitsIn w) (all : AllCalm w.tasks) where
  passed : (ts : List Task) (rs : List Role) (cs : List (Option Channel)) (ls : Links) → Passed m w ts rs cs ls
      → AllCalm ts
  passed ts rs cs ls change.nothing_happens = all
  passed ts rs cs ls (change.it_runs q pick task runs here x) =
      changed (at_here m q task pick) w runs here keeps all ts rs cs ls x
  passed ts rs cs ls (change.fills_last q k link here waiting x) =
      set_calm _ q (record x.task { condition = Ready }) (on_link_calm x all Ready) all
  passed ts rs cs ls (change.fills_more q k x) =
      set_calm _ q (record x.task { condition = OnLink x.exchange (x.done + 1) })
      (on_link_calm x all (OnLink x.exchange (x.done + 1))) all
  passed ts rs cs ls (change.keeps_byte k byte link tasks here empty roused) = roused_calm roused all
  passed ts rs cs ls (change.acknowledges q k link here waiting x) =
      set_calm _ q (record x.task { condition = Ready }) (on_link_calm x all Ready) all

loaded_calm : (m : Contents) → AllCalm (loaded m).tasks
loaded_calm m p t here = one p here
  where
    one : (p : ℕ) → slice_get (loaded m).tasks p ≡ Some t → IsCalm t
    one zero here = is_plain (ap (λ (o : Option Task). elim o as (λ o. Mode) [ None ↦ modes.Plain | Some t ↦ t.mode ])
        (sym here))
    one (suc p) here = absurd (cc)

pub all_are_calm : (m : Contents) (es : List Event) → AllCalm (world_after m es).tasks
all_are_calm m es = of_every_world m (λ ts rs cs ls. AllCalm ts) (loaded_calm m)
    (λ es ts rs cs ls all x. passed m (world_after m es) (reached m es) all ts rs cs ls x) es
