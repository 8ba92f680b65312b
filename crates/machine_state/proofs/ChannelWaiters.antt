-- A process that an internal channel says to wait there does wait there.
use Rattle.std.proofs.Common.{◌≡◌, ◌≢◌, ℕ, zero, suc, ◌+◌, Bool, true, false, if◌then◌else◌, ◌⊎◌, inl, inr, List, []}
use Rattle.std.proofs.Common.{◌∷◌, ◌++◌, Option, Some, None, is_some, refl, sym, ap, ◌∙◌, subst, slice_get}
use Rattle.std.proofs.lemmas.Bool.{cases_eq}
use Rattle.std.specs.Prelude.{◌==◌, replicate, slice_set}
use Rattle.small_laws.proofs.Options.{same_some}
use Rattle.small_laws.proofs.Lookups.{slice_get-append_left}
use Rattle.module_format.specs.Contents.{Contents}
use Rattle.module_format.specs.declared.rows.ChannelRow.{ChannelRow}
use Rattle.machine_state.specs.declared.process.Channel.{Channel}
use Rattle.machine_state.specs.declared.process.Registers.{Registers}
use Rattle.machine_state.specs.declared.process.Task.{Task}
use Rattle.machine_state.specs.declared.process.Mode.{Mode}
use Rattle.machine_state.specs.declared.process.Mode.TheVariants.{Plain, Enabling, Starting}
use Rattle.machine_state.specs.declared.process.Condition.{Condition}
use Rattle.machine_state.specs.declared.process.Condition.TheVariants.{Ready, Sending, Receiving, OnLink, Alternating}
use Rattle.machine_state.specs.declared.process.Condition.TheVariants.{Stopped, Ended}
use Rattle.machine_state.specs.declared.process.Exchange.{Exchange}
use Rattle.machine_state.specs.World.{World, Links, Role, loaded}
use Rattle.machine_state.specs.Moves.{cell_of}
use Rattle.machine_state.specs.Turn.{Here, at_here}
use Rattle.machine_state.specs.Exchanges.{condition_of}
use Rattle.machine_state.specs.Alternations.{ready_or}
use Rattle.machine_state.specs.Joins.{closed_task, with_channels, without_channels}
use Rattle.machine_state.specs.BranchShares.{frame_address}
use Rattle.machine_state.specs.Happens.{world_after}
use Rattle.machine_state.specs.ChannelLaws.{WaitsAt, HaveTheirWaiters, ChannelsHaveTheirWaiters}
use Rattle.machine_state.proofs.Lines.{got_set, got_other, set_either}
use Rattle.machine_state.proofs.Claims.{not_some}
use Rattle.machine_state.specs.Endings.{plan_of}
use Rattle.machine_state.proofs.Waiting.{WaitsIn, reached}
use Rattle.machine_state.proofs.Changes as change
use Rattle.machine_state.proofs.Changes.{Changed, Passed, Opening, Roused, going, cell_is, with_cell, running_is_ready}
use Rattle.machine_state.proofs.Changes.{of_every_world}
pub use Rattle.machine_state.proofs.Changes.{channel_there, running_is_ready, opener_is_over}

-- ---- the channels of a world

pub made_is_quiet : (p base : ℕ) (rows : List ChannelRow) (cells : List (Option Channel)) (k : ℕ) (c : Channel)
    → slice_get (with_channels p base rows cells) k ≡ Some (Some c)
    → (slice_get cells k ≡ Some (Some c)) ⊎ ((c.waiting ≡ None) × (c.enabled ≡ None))
made_is_quiet p base [] cells k c is = inl is
made_is_quiet p base (row ∷ rows) cells k c is =
    let made : Channel = record { opener = p; length = row.length; waiting = None; enabled = None } in
    elim (made_is_quiet p base rows
    (slice_set cells (cell_of (frame_address base row.word)) (Some made)) k c is) [
      | inl before ↦ elim (set_either cells (cell_of (frame_address base row.word)) (Some made) k (Some c) before) [
        | inl new ↦
            let e : c ≡ made = cc in
            inr (ap (λ (x : Channel). x.waiting) e, ap (λ (x : Channel). x.enabled) e)
        | inr old ↦ inl old.1
      ]
      | inr nobody ↦ inr nobody
    ]

pub left_channel : (o : ℕ) (cells : List (Option Channel)) (k : ℕ) (c : Channel)
    → slice_get (without_channels o cells) k ≡ Some (Some c) → slice_get cells k ≡ Some (Some c)
left_channel o [] k c is = absurd (cc)
left_channel o (cell ∷ cells) (suc k) c is = left_channel o cells k c is
left_channel o (None ∷ cells) zero c is = absurd (cc)
left_channel o (Some channel ∷ cells) zero c is = on (channel.opener == o) is
  where
    on : (b : Bool) → ◌≡◌ {A = Option (Option Channel)} (Some (if b then None else Some channel)) (Some (Some c))
        → ◌≡◌ {A = Option (Option Channel)} (Some (Some channel)) (Some (Some c))
    on true is = absurd (cc)
    on false is = is

-- the channels once a branch has started are the old ones, and those where nothing has happened yet
pub new_is_quiet : (h : Here) (w : World) (cells : List (Option Channel)) → Opening h w cells → (k : ℕ) (c : Channel)
    → slice_get cells k ≡ Some (Some c)
    → (slice_get w.channels k ≡ Some (Some c)) ⊎ ((c.waiting ≡ None) × (c.enabled ≡ None))
new_is_quiet h w cells (change.by_first target workspace found is none tests) k c here =
    let plan = plan_of h w found in made_is_quiet h.process plan.base plan.par.channels w.channels k c here
new_is_quiet h w cells change.by_later k c here = inl here

-- ---- conditions in which no process waits on an internal channel

abbrev pub IsCalm : Condition → Type 0
IsCalm c = (e : Exchange) → (c ≡ Sending e) ⊎ (c ≡ Receiving e) → ⊥

pub calm_as : (c d : Condition) → c ≡ d → IsCalm d → IsCalm c
calm_as c d is calm = subst (λ (c : Condition). IsCalm c) (sym is) calm

pub calm_ready : IsCalm Ready
calm_ready e (inl sends) = cc
calm_ready e (inr receives) = cc

pub calm_link : (x : Exchange) (done : ℕ) → IsCalm (OnLink x done)
calm_link x done e (inl sends) = cc
calm_link x done e (inr receives) = cc

pub calm_alternating : IsCalm Alternating
calm_alternating e (inl sends) = cc
calm_alternating e (inr receives) = cc

pub calm_stopped : IsCalm Stopped
calm_stopped e (inl sends) = cc
calm_stopped e (inr receives) = cc

pub calm_ended : IsCalm Ended
calm_ended e (inl sends) = cc
calm_ended e (inr receives) = cc

-- ---- a task is changed

-- another one
pub waits_elsewhere : (tasks : List Task) (q : ℕ) (u : Task) (p k : ℕ) → q ≢ p → WaitsAt tasks p k
    → WaitsAt (slice_set tasks q u) p k
waits_elsewhere tasks q u p k differ w =
    let here = got_other tasks q p u differ ∙ w.here in
    record { task = w.task; here = here; exchange = w.exchange; waits = w.waits; at = w.at }

-- one that waited on no channel, or waits as it did
pub waits_still : (tasks : List Task) (q : ℕ) (t u : Task) → slice_get tasks q ≡ Some t
    → IsCalm t.condition ⊎ (u.condition ≡ t.condition) → (p k : ℕ) → WaitsAt tasks p k
    → WaitsAt (slice_set tasks q u) p k
waits_still tasks q t u here steady p k w = elim (cases_eq q p) [
  | inl e ↦
      let same = same_some (slice_get tasks p) t w.task (subst (λ n. slice_get tasks n ≡ Some t) e here) w.here in
      let was = subst (λ (x : Task). (x.condition ≡ Sending w.exchange) ⊎ (x.condition ≡ Receiving w.exchange))
      (sym same) w.waits in
      elim steady [
        | inl calm ↦ absurd (calm w.exchange was)
        | inr it ↦ record {
          task = u;
          here = subst (λ n. slice_get (slice_set tasks q u) n ≡ Some u) e (got_set tasks q t u here);
          exchange = w.exchange;
          waits = subst (λ (c : Condition). (c ≡ Sending w.exchange) ⊎ (c ≡ Receiving w.exchange)) (sym it) was;
          at = w.at;
        }
      ]
  | inr differ ↦ waits_elsewhere tasks q u p k differ w
]

roused_waits : (tasks later : List Task) (o : Option ℕ) → Roused tasks o later → (p k : ℕ) → WaitsAt tasks p k
    → WaitsAt later p k
roused_waits tasks later o (change.nobody deaf) p k w = w
roused_waits tasks later o (change.who_enables q t here enables awake) p k w =
    waits_still tasks q t (record t { mode = Enabling true }) here (inr refl) p k w
roused_waits tasks later o (change.who_waits q t here waits) p k w =
    waits_still tasks q t (record t { condition = Ready }) here (inl (calm_as t.condition Alternating waits
    calm_alternating)) p k w

-- a process waits on one channel at most
pub waits_once : (tasks : List Task) (p k n : ℕ) → WaitsAt tasks p k → WaitsAt tasks p n → k ≡ n
waits_once tasks p k n a b =
    let same = same_some (slice_get tasks p) a.task b.task a.here b.here in
    sym a.at ∙ (ap (λ (e : Exchange). cell_of e.channel) (on a.waits
    (subst (λ (t : Task). (t.condition ≡ Sending b.exchange) ⊎ (t.condition ≡ Receiving b.exchange)) (sym same)
    b.waits)) ∙ b.at)
  where
    on : (a.task.condition ≡ Sending a.exchange) ⊎ (a.task.condition ≡ Receiving a.exchange)
        → (a.task.condition ≡ Sending b.exchange) ⊎ (a.task.condition ≡ Receiving b.exchange)
        → a.exchange ≡ b.exchange
    on (inl x) (inl y) = let e : Sending a.exchange ≡ Sending b.exchange = sym x ∙ y in cc
    on (inl x) (inr y) = absurd (let e : Sending a.exchange ≡ Receiving b.exchange = sym x ∙ y in cc)
    on (inr x) (inl y) = absurd (let e : Receiving a.exchange ≡ Sending b.exchange = sym x ∙ y in cc)
    on (inr x) (inr y) = let e : Receiving a.exchange ≡ Receiving b.exchange = sym x ∙ y in cc

-- the message of the one that waits is on the same channel
pub same_channel : (w : World) (other k : ℕ) (sent : Exchange) → WaitsAt w.tasks other k
    → condition_of w other ≡ Sending sent
    → cell_of sent.channel ≡ k
same_channel w other k sent x is = on x.waits
  where
    condition : condition_of w other ≡ x.task.condition
    condition = ap (λ (o : Option Task). elim o as (λ o. Condition)
        [ None ↦ Ready | Some task ↦ task.condition ]) x.here

    on : (x.task.condition ≡ Sending x.exchange) ⊎ (x.task.condition ≡ Receiving x.exchange)
        → cell_of sent.channel ≡ k
    on (inl sends) =
        let e : Sending sent ≡ Sending x.exchange = sym is ∙ (condition ∙ sends) in
        let same : sent ≡ x.exchange = cc in
        ap (λ (e : Exchange). cell_of e.channel) same ∙ x.at
    on (inr receives) = absurd (
        let e : Sending sent ≡ Receiving x.exchange = sym is ∙ (condition ∙ receives) in cc)

-- ---- an instruction of the running process

module _ (h : Here) (w : World) (runs : w.queue.running ≡ Some h.process)
    (there : slice_get w.tasks h.process ≡ Some h.from) (keeps : WaitsIn w)
    (recorded : HaveTheirWaiters w.tasks w.channels) where
  still : (r : Registers) (mode : Mode) (c : Condition) (p k : ℕ) → WaitsAt w.tasks p k
      → WaitsAt (going h w r mode c) p k
  still r mode c p k waits = waits_still w.tasks h.process h.from _ there
      (inl (calm_as h.from.condition Ready (running_is_ready h w runs there keeps) calm_ready)) p k waits

  goes : (r : Registers) (mode : Mode) (c : Condition) → HaveTheirWaiters (going h w r mode c) w.channels
  goes r mode c k d p here waiting = still r mode c p k (recorded k d p here waiting)

  -- a channel has the same waiter as before
  goes_with : (r : Registers) (mode : Mode) (c : Condition) (address : ℕ) (old new : Channel) → cell_is w address old
      → new.waiting ≡ old.waiting → HaveTheirWaiters (going h w r mode c) (with_cell w address new)
  goes_with r mode c address old new at same k d p here waiting =
      still r mode c p k (elim (set_either w.channels (cell_of address) (Some new) k (Some d) here) [
        | inl it ↦
            let e : d ≡ new = let x = it.1 in cc in
            recorded k old p (subst (λ n. slice_get w.channels n ≡ Some (Some old)) it.0 at)
            (sym same ∙ (ap (λ (x : Channel). x.waiting) (sym e) ∙ waiting))
        | inr other ↦ recorded k d p other.1 waiting
      ])

  -- it waits on a channel
  waits_there : (r : Registers) (c : Condition) (e : Exchange) → (c ≡ Sending e) ⊎ (c ≡ Receiving e) → (d : Channel)
      → HaveTheirWaiters (going h w r h.from.mode c) (with_cell w e.channel (record d { waiting = Some h.process }))
  waits_there r c e waits d k x p here waiting =
      let new : Channel = record d { waiting = Some h.process } in
      elim (set_either w.channels (cell_of e.channel) (Some new) k (Some x) here) [
        | inl it ↦
            let same : x ≡ new = let y = it.1 in cc in
            let mine : Some h.process ≡ Some p = sym (ap (λ (x : Channel). x.waiting) same) ∙ waiting in
            let number : h.process ≡ p = cc in
            subst (λ n. WaitsAt (going h w r h.from.mode c) n k) number (record {
              task = record { registers = r; mode = h.from.mode; condition = c };
              here = got_set w.tasks h.process h.from _ there;
              exchange = e;
              waits = waits;
              at = it.0;
            })
        | inr other ↦ still r h.from.mode c p k (recorded k x p other.1 waiting)
      ]

  -- it meets the one that waits on the channel
  meets : (r : Registers) (other address source : ℕ) (c : Channel) (t : Task) → cell_is w address c
      → c.waiting ≡ Some other → cell_of source ≡ cell_of address
      → HaveTheirWaiters (slice_set (going h w r h.from.mode h.from.condition) other t)
      (with_cell w source (record c { waiting = None }))
  meets r other address source c t at partner same k d p here waiting =
      elim (set_either w.channels (cell_of source) (Some (record c { waiting = None })) k (Some d) here) [
        | inl it ↦
            let e : d ≡ record c { waiting = None } = let x = it.1 in cc in
            not_some p (sym (ap (λ (x : Channel). x.waiting) e) ∙ waiting)
        | inr old ↦
            let waits = recorded k d p old.1 waiting in
            let partner_waits = recorded (cell_of address) c other at partner in
            waits_elsewhere (going h w r h.from.mode h.from.condition) other t p k
            (λ e. old.0 (same ∙ waits_once w.tasks p (cell_of address) k
            (subst (λ n. WaitsAt w.tasks n (cell_of address)) e partner_waits) waits))
            (still r h.from.mode h.from.condition p k waits)
      ]

  changed : (ts : List Task) (rs : List Role) (cs : List (Option Channel)) (ls : Links) → Changed h w ts rs cs ls
      → HaveTheirWaiters ts cs
  changed ts rs cs ls (change.goes_on r mode c onward) = goes r mode c
  changed ts rs cs ls (change.waits_to_receive r e c plain holds at none) = waits_there r (Receiving e) e (inr refl) c
  changed ts rs cs ls (change.waits_to_send r e c tasks plain holds at none roused) = λ k d p here waiting.
      roused_waits (going h w r h.from.mode (Sending e)) tasks c.enabled roused p k
      (waits_there r (Sending e) e (inl refl) c k d p here waiting)
  changed ts rs cs ls (change.meets_sender r e sent c other plain holds at waits x) =
      meets r other e.channel sent.channel c (record x.task { condition = Ready }) at waits
      (same_channel w other (cell_of e.channel) sent (recorded (cell_of e.channel) c other at waits)
      (ap (λ (o : Option Task). elim o as (λ o. Condition) [ None ↦ Ready | Some task ↦ task.condition ]) x.here
      ∙ x.waits))
  changed ts rs cs ls (change.meets_receiver r e wanted c other plain holds at waits x) =
      meets r other e.channel e.channel c (record x.task { condition = Ready }) at waits refl
  changed ts rs cs ls (change.receives_outside r e k link new c plain holds word here receives) = goes r h.from.mode c
  changed ts rs cs ls (change.sends_outside r e k plain holds word low) = goes r h.from.mode (OnLink e 0)
  changed ts rs cs ls (change.starts r role j own child cells outside here plain ready opening) =
      λ k c p at waiting. before (elim (new_is_quiet h w cells opening k c at) [
        | inl old ↦ goes r Starting h.from.condition k c p old waiting
        | inr quiet ↦ not_some p (sym quiet.0 ∙ waiting)
      ])
    where
      before : {p k : ℕ} → WaitsAt (going h w r Starting h.from.condition) p k
          → WaitsAt (going h w r Starting h.from.condition ++ child ∷ []) p k
      before {p} {k} x = record {
        task = x.task;
        here = slice_get-append_left (going h w r Starting h.from.condition) (child ∷ []) p x.task x.here;
        exchange = x.exchange;
        waits = x.waits;
        at = x.at;
      }
  changed ts rs cs ls (change.leaves_join r o roles x some) = goes r Plain Ended
  changed ts rs cs ls (change.closes_join r o roles x none par t here over) = λ k c p at waiting.
      waits_still (going h w r Plain Ended) o t (closed_task x.join par t) here
      (inl (calm_as t.condition Ended over calm_ended)) p k
      (goes r Plain Ended k c p (left_channel o w.channels k c at) waiting)
  changed ts rs cs ls (change.enables_a_channel r address c enables holds at once) =
      goes_with r (ready_or h.from.mode (is_some c.waiting)) h.from.condition address c
      (record c { enabled = Some h.process }) at refl
  changed ts rs cs ls (change.enables_a_link r k link enables holds here once) =
      goes r (ready_or h.from.mode (is_some link.kept)) h.from.condition
  changed ts rs cs ls (change.disables_a_channel r mode address c disables further at mine) =
      goes_with r mode h.from.condition address c (record c { enabled = None }) at refl
  changed ts rs cs ls (change.disables_a_link r mode k link disables further here mine) = goes r mode h.from.condition

-- ---- every event

passed : (m : Contents) (w : World) → WaitsIn w → HaveTheirWaiters w.tasks w.channels → (ts : List Task)
    (rs : List Role) (cs : List (Option Channel)) (ls : Links) → Passed m w ts rs cs ls → HaveTheirWaiters ts cs
passed m w keeps recorded ts rs cs ls change.nothing_happens = recorded
passed m w keeps recorded ts rs cs ls (change.it_runs p pick task runs here x) =
    changed (at_here m p task pick) w runs here keeps recorded ts rs cs ls x
passed m w keeps recorded ts rs cs ls (change.fills_last p k link here waiting x) = λ n c q at waits.
    waits_still w.tasks p x.task (record x.task { condition = Ready }) x.here
    (inl (calm_as x.task.condition (OnLink x.exchange x.done) x.waits (calm_link x.exchange x.done))) q n
    (recorded n c q at waits)
passed m w keeps recorded ts rs cs ls (change.fills_more p k x) = λ n c q at waits.
    waits_still w.tasks p x.task (record x.task { condition = OnLink x.exchange (x.done + 1) }) x.here
    (inl (calm_as x.task.condition (OnLink x.exchange x.done) x.waits (calm_link x.exchange x.done))) q n
    (recorded n c q at waits)
passed m w keeps recorded ts rs cs ls (change.keeps_byte k byte link tasks here empty roused) = λ n c q at waits.
    roused_waits w.tasks tasks link.enabled roused q n (recorded n c q at waits)
passed m w keeps recorded ts rs cs ls (change.acknowledges p k link here waiting x) = λ n c q at waits.
    waits_still w.tasks p x.task (record x.task { condition = Ready }) x.here
    (inl (calm_as x.task.condition (OnLink x.exchange x.done) x.waits (calm_link x.exchange x.done))) q n
    (recorded n c q at waits)

loaded_recorded : (m : Contents) → HaveTheirWaiters (loaded m).tasks (loaded m).channels
loaded_recorded m k c p here waiting = absurd (never m.data_words k here)
  where
    never : (n k : ℕ) → slice_get (replicate n None) k ≡ Some (Some c) → ⊥
    never zero k is = cc
    never (suc n) zero is = cc
    never (suc n) (suc k) is = never n k is

pub channels_have_their_waiters : ChannelsHaveTheirWaiters
channels_have_their_waiters m es =
    of_every_world m (λ ts rs cs ls. HaveTheirWaiters ts cs) (loaded_recorded m)
    (λ es ts rs cs ls recorded x. passed m (world_after m es) (reached m es) recorded ts rs cs ls x) es
