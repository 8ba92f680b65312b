-- What is enabled and has a sender or a byte keeps it over one event, until it is disabled.
use Rattle.std.proofs.Common.{◌≡◌, ◌≢◌, ℕ, ◌+◌, true, false, ◌⊎◌, inl, inr, List, [], ◌∷◌, Option, Some, None}
use Rattle.std.proofs.Common.{is_some, refl, sym, ap, ◌∙◌, subst, slice_get, eqb-true}
use Rattle.std.proofs.lemmas.Bool.{cases_eq}
use Rattle.std.specs.Prelude.{slice_set}
use Rattle.small_laws.proofs.Options.{same_some}
use Rattle.small_laws.proofs.Lookups.{slice_get-append_left}
use Rattle.module_format.specs.Contents.{Contents, Par}
use Rattle.module_format.specs.declared.rows.Direction.TheVariants.{In}
use Rattle.machine_state.specs.declared.link.InputLink.{InputLink}
use Rattle.machine_state.specs.declared.process.Channel.{Channel}
use Rattle.machine_state.specs.declared.process.Registers.{Registers}
use Rattle.machine_state.specs.declared.process.Task.{Task}
use Rattle.machine_state.specs.declared.process.Mode.{Mode}
use Rattle.machine_state.specs.declared.process.Mode.TheVariants.{Plain, Starting}
use Rattle.machine_state.specs.declared.process.Condition.{Condition}
use Rattle.machine_state.specs.declared.process.Condition.TheVariants.{Ready, Sending, Receiving, OnLink, Ended}
use Rattle.machine_state.specs.declared.process.Exchange.{Exchange}
use Rattle.machine_state.specs.Holding.{Holding, has_end}
use Rattle.machine_state.specs.World.{World, Links, Role, holding_at, input_word, output_word}
use Rattle.machine_state.specs.Moves.{cell_of}
use Rattle.machine_state.specs.Turn.{Here, at_here}
use Rattle.machine_state.specs.Alternations.{is_by}
use Rattle.machine_state.specs.Joins.{closed_task, without_channels}
use Rattle.machine_state.specs.Happens.{turn, world_after}
use Rattle.machine_state.specs.Apart.{AllApart}
use Rattle.machine_state.specs.Waiting.{WaitsOn}
use Rattle.machine_state.specs.ChannelLaws.{WaitsAt, HaveTheirWaiters}
use Rattle.machine_state.specs.EnabledLaws.{HasEnabled, a_channel, a_link, Alternates, AllAlternate, EnabledIsHeld}
use Rattle.machine_state.specs.EnabledLaws.{HasSender, HasByte, ReadyStays, WhatIsReadyStays}
use Rattle.machine_state.proofs.Lines.{got_set, got_other}
use Rattle.machine_state.proofs.Claims.{not_some}
use Rattle.machine_state.proofs.MovesLeaveAlone.{is_last}
use Rattle.machine_state.proofs.Modes.{IsOutside}
use Rattle.machine_state.proofs.Turns.{turn_happens}
use Rattle.machine_state.proofs.Waking.{IsWaiting, still_other, still_set, still_roused}
use Rattle.machine_state.proofs.Waiting.{WaitsIn, reached}
use Rattle.machine_state.proofs.ChannelWaiters.{same_channel, waits_once, channels_have_their_waiters}
use Rattle.machine_state.proofs.ApartLaws.{IsSmall, Stands, all_stand, format_is_small, holdings_stay_apart}
use Rattle.machine_state.proofs.WhoWaits.{left_still, kept_at_start, not_theirs}
use Rattle.machine_state.proofs.WhoEnabled.{not_outside, not_ended, who_enabled_alternates}
use Rattle.machine_state.proofs.OthersHold.{others_keep}
use Rattle.machine_state.proofs.WhoWaitsOnLinks.{one_holds}
use Rattle.machine_state.proofs.EnabledIsHeld.{enabled_is_held, only_receiver}
use Rattle.machine_state.proofs.Changes as change
use Rattle.machine_state.proofs.Changes.{Changed, Passed, Receives, Partner, Leaves, going, with_cell, running_is_ready}
use Rattle.machine_state.proofs.Changes.{passes}

-- ---- the three parts

-- who sends on what is enabled waits still
abbrev TasksStay : World → List Task → Type 0
TasksStay w tasks = (k p q : ℕ) (e : Exchange) → HasSender w.tasks w.channels k (Some p) q e
    → IsWaiting tasks q (Sending e)

-- its channel has it still, and is enabled by the same, or by none if that one runs
abbrev CellsStay : World → List (Option Channel) → Type 0
CellsStay w cells = (k p q : ℕ) (e : Exchange) → HasSender w.tasks w.channels k (Some p) q e
    → (d : Channel) × (slice_get cells k ≡ Some (Some d)) × (d.waiting ≡ Some q)
    × ((d.enabled ≡ Some p) ⊎ ((w.queue.running ≡ Some p) × (d.enabled ≡ None)))

abbrev BytesStay : World → List InputLink → Type 0
BytesStay w inputs = (k p byte : ℕ) → HasByte w.links.inputs k (Some p) byte → HasByte inputs k (Some p) byte
    ⊎ ((w.queue.running ≡ Some p) × HasByte inputs k None byte)

record Stay (w : World) (ts : List Task) (cs : List (Option Channel)) (ls : List InputLink) : Type 0 where
  tasks : TasksStay w ts
  cells : CellsStay w cs
  bytes : BytesStay w ls

together : (w after : World) → Stay w after.tasks after.channels after.links.inputs → ReadyStays w after
together w after stay = record {
  senders = λ k p q e x.
      let t = stay.tasks k p q e x in
      let d = stay.cells k p q e x in
      let sender : (o : Option ℕ) → d.0.enabled ≡ o → HasSender after.tasks after.channels k o q e =
      λ o by. record {
        channel = d.0;
        here = d.1;
        by = by;
        waiting = d.2;
        sender = t.task;
        there = t.here;
        sends = t.waits;
      } in
      elim d.3 [
        | inl by ↦ inl (sender (Some p) by)
        | inr freed ↦ inr (freed.0, sender None freed.1)
      ];
  bytes = stay.bytes;
}

cells_same : (w : World) → CellsStay w w.channels
cells_same w k p q e x = (x.channel, x.here, x.waiting, inl x.by)

bytes_same : (w : World) → BytesStay w w.links.inputs
bytes_same w k p byte x = inl x

-- one channel was changed
cell_set : (w : World) (n : ℕ) (old new : Channel) → slice_get w.channels n ≡ Some (Some old)
    → ((p q : ℕ) (e : Exchange) → HasSender w.tasks w.channels n (Some p) q e → old.enabled ≡ Some p
    → old.waiting ≡ Some q → (new.waiting ≡ Some q)
    × ((new.enabled ≡ Some p) ⊎ ((w.queue.running ≡ Some p) × (new.enabled ≡ None))))
    → CellsStay w (slice_set w.channels n (Some new))
cell_set w n old new at kept k p q e x = elim (cases_eq n k) [
  | inl it ↦
      let here = subst (λ i. slice_get w.channels i ≡ Some (Some x.channel)) (sym it) x.here in
      let one : Some old ≡ Some x.channel = same_some (slice_get w.channels n) (Some old) (Some x.channel) at here in
      let is : old ≡ x.channel = cc in
      let now = kept p q e (record {
        channel = x.channel;
        here = here;
        by = x.by;
        waiting = x.waiting;
        sender = x.sender;
        there = x.there;
        sends = x.sends;
      }) (ap (λ (c : Channel). c.enabled) is ∙ x.by) (ap (λ (c : Channel). c.waiting) is ∙ x.waiting) in (
        new,
        subst (λ i. slice_get (slice_set w.channels n (Some new)) i ≡ Some (Some new)) it
            (got_set w.channels n (Some old) (Some new) at),
        now.0,
        now.1,
      )
  | inr differ ↦ (
    x.channel,
    got_other w.channels n k (Some new) differ ∙ x.here,
    x.waiting,
    inl x.by,
  )
]

-- one input link was changed
input_set : (w : World) (n : ℕ) (old new : InputLink) → slice_get w.links.inputs n ≡ Some old
    → ((p byte : ℕ) → old.enabled ≡ Some p → old.kept ≡ Some byte → (new.kept ≡ Some byte)
    × ((new.enabled ≡ Some p) ⊎ ((w.queue.running ≡ Some p) × (new.enabled ≡ None))))
    → BytesStay w (slice_set w.links.inputs n new)
input_set w n old new at kept k p byte x = elim (cases_eq n k) [
  | inl it ↦
      let is = same_some (slice_get w.links.inputs k) old x.link
      (subst (λ i. slice_get w.links.inputs i ≡ Some old) it at) x.here in
      let now = kept p byte (ap (λ (l : InputLink). l.enabled) is ∙ x.by)
      (ap (λ (l : InputLink). l.kept) is ∙ x.kept) in
      let there = subst (λ i. slice_get (slice_set w.links.inputs n new) i ≡ Some new) it
      (got_set w.links.inputs n old new at) in
      elim now.1 [
        | inl by ↦ inl (record { link = new; here = there; by = by; kept = now.0 })
        | inr freed ↦ inr (freed.0, record { link = new; here = there; by = freed.1; kept = now.0 })
      ]
  | inr differ ↦ inl (record {
    link = x.link;
    here = got_other w.links.inputs n k new differ ∙ x.here;
    by = x.by;
    kept = x.kept;
  })
]

-- no process has enabled it, or this one has
not_enabled : {A : Type 0} (o : Option ℕ) (p : ℕ) → is_some o ≡ false → o ≡ Some p → A
not_enabled o p nobody by = absurd (
    let x : false ≡ true = sym nobody ∙ ap (λ (o : Option ℕ). is_some o) by in cc)

enabled_by : (o : Option ℕ) (p q : ℕ) → is_by o q ≡ true → o ≡ Some p → p ≡ q
enabled_by o p q mine by = eqb-true p q (subst (λ (o : Option ℕ). is_by o q ≡ true) by mine)

sending : {tasks : List Task} {channels : List (Option Channel)} {k : ℕ} {o : Option ℕ} {q : ℕ} {e : Exchange}
    → HasSender tasks channels k o q e → IsWaiting tasks q (Sending e)
sending x = record { task = x.sender; here = x.there; waits = x.sends }

-- ---- an instruction of the running process

module _ (h : Here) (w : World) (runs : w.queue.running ≡ Some h.process)
    (there : slice_get w.tasks h.process ≡ Some h.from) (keeps : WaitsIn w)
    (waiters : HaveTheirWaiters w.tasks w.channels) (small : IsSmall h.contents) (st : Stands h.contents w)
    (apart : AllApart w.roles w.channels) (alternates : AllAlternate w.tasks w.channels w.links.inputs)
    (is_held : EnabledIsHeld w.roles w.channels w.links.inputs) where
  ready : h.from.condition ≡ Ready
  ready = running_is_ready h w runs there keeps

  -- it is no sender
  not_itself : (k p q : ℕ) (e : Exchange) → HasSender w.tasks w.channels k (Some p) q e → h.process ≢ q
  not_itself k p q e x same =
      let one = same_some (slice_get w.tasks q) h.from x.sender
      (subst (λ n. slice_get w.tasks n ≡ Some h.from) same there) x.there in
      let z : Ready ≡ Sending e = sym ready ∙ (ap (λ (t : Task). t.condition) one ∙ x.sends) in cc

  -- outside alternations it has enabled nothing
  not_mine : IsOutside h.from.mode → (p : ℕ) → HasEnabled w.channels w.links.inputs p → p ≢ h.process
  not_mine outside p has same =
      let x = alternates p has in
      let one = same_some (slice_get w.tasks p) x.task h.from x.here
      (subst (λ n. slice_get w.tasks n ≡ Some h.from) (sym same) there) in
      not_outside h.from.mode h.from.condition outside
      (subst (λ (t : Task). Alternates t.mode t.condition) one x.alternates)

  -- who has enabled something has not ended
  alive : (p : ℕ) → HasEnabled w.channels w.links.inputs p → (t : Task) → slice_get w.tasks p ≡ Some t
      → t.condition ≡ Ended → ⊥
  alive p has t here over =
      let x = alternates p has in
      let one = same_some (slice_get w.tasks p) x.task t x.here here in
      not_ended x.task.mode x.task.condition (ap (λ (t : Task). t.condition) one ∙ over) x.alternates

  tasks_set : (r : Registers) (mode : Mode) (c : Condition) → TasksStay w (going h w r mode c)
  tasks_set r mode c k p q e x =
      still_other w.tasks h.process _ q (Sending e) (not_itself k p q e x) (sending x)

  -- channels and links are as they were
  stays : (r : Registers) (mode : Mode) (c : Condition) → Stay w (going h w r mode c) w.channels w.links.inputs
  stays r mode c = record { tasks = tasks_set r mode c; cells = cells_same w; bytes = bytes_same w }

  -- a channel is changed
  with_new : (r : Registers) (mode : Mode) (n : ℕ) (old new : Channel) → slice_get w.channels n ≡ Some (Some old)
      → ((p q : ℕ) (e : Exchange) → HasSender w.tasks w.channels n (Some p) q e → old.enabled ≡ Some p
      → old.waiting ≡ Some q → (new.waiting ≡ Some q)
      × ((new.enabled ≡ Some p) ⊎ ((w.queue.running ≡ Some p) × (new.enabled ≡ None))))
      → Stay w (going h w r mode h.from.condition) (slice_set w.channels n (Some new)) w.links.inputs
  with_new r mode n old new at kept = record {
    tasks = tasks_set r mode h.from.condition;
    cells = cell_set w n old new at kept;
    bytes = bytes_same w;
  }

  -- or a link
  with_link : (r : Registers) (mode : Mode) (c : Condition) (n : ℕ) (old new : InputLink)
      → slice_get w.links.inputs n ≡ Some old
      → ((p byte : ℕ) → old.enabled ≡ Some p → old.kept ≡ Some byte → (new.kept ≡ Some byte)
      × ((new.enabled ≡ Some p) ⊎ ((w.queue.running ≡ Some p) × (new.enabled ≡ None))))
      → Stay w (going h w r mode c) w.channels (slice_set w.links.inputs n new)
  with_link r mode c n old new at kept =
      record { tasks = tasks_set r mode c; cells = cells_same w; bytes = input_set w n old new at kept }

  -- a receiver that comes does not come to what is enabled
  unmet : h.from.mode ≡ Plain → (e : Exchange)
      → has_end (holding_at w.roles h.process) (record { address = e.channel; direction = In }) ≡ true → (k p q : ℕ)
      (x : Exchange) → HasSender w.tasks w.channels k (Some p) q x → cell_of e.channel ≡ k → ⊥
  unmet plain e asks k p q x s cell =
      only_receiver h.contents w st apart is_held k p h.process e.channel s.channel s.here s.by cell asks
      (not_mine (inl plain) p (a_channel k s.channel s.here s.by))

  -- nor to an input link
  no_byte : h.from.mode ≡ Plain → (e : Exchange) (k : ℕ) (link : InputLink) → e.channel ≡ input_word k
      → has_end (holding_at w.roles h.process) (record { address = e.channel; direction = In }) ≡ true
      → slice_get w.links.inputs k ≡ Some link → {A : Type 0} (p : ℕ) → link.enabled ≡ Some p → A
  no_byte plain e k link word asks here p by = absurd (one_holds w apart p h.process
      (record { address = input_word k; direction = In }) (not_mine (inl plain) p (a_link k link here by))
      (is_held.at_links k link p here by)
      (subst (λ a. has_end (holding_at w.roles h.process) (record { address = a; direction = In }) ≡ true) word asks))

  -- it goes on, and another one becomes ready that does not send on what is enabled
  meets : (r : Registers) (other source : ℕ) (u : Task) (c : Channel) → slice_get w.channels source ≡ Some (Some c)
      → c.waiting ≡ Some other
      → ((k p q : ℕ) (e : Exchange) → HasSender w.tasks w.channels k (Some p) q e → other ≢ q)
      → Stay w (slice_set (going h w r h.from.mode h.from.condition) other u)
      (slice_set w.channels source (Some (record c { waiting = None }))) w.links.inputs
  meets r other source u c at waits differ = record {
    tasks = λ k p q e x. still_other (going h w r h.from.mode h.from.condition) other u q (Sending e)
        (differ k p q e x) (tasks_set r h.from.mode h.from.condition k p q e x);
    cells = cell_set w source c (record c { waiting = None }) at (λ p q e x by waiting.
        absurd (differ source p q e x (same_some c.waiting other q waits waiting)));
    bytes = bytes_same w;
  }

  -- one that waits to receive sends on nothing
  not_receiver : (other : ℕ) (wanted : Exchange) → Partner h w other (Receiving wanted) → (k p q : ℕ) (x : Exchange)
      → HasSender w.tasks w.channels k (Some p) q x → other ≢ q
  not_receiver other wanted y k p q x s equal =
      let one = same_some (slice_get w.tasks q) y.task s.sender
      (subst (λ n. slice_get w.tasks n ≡ Some y.task) equal y.here) s.there in
      let z : Receiving wanted ≡ Sending x = sym y.waits ∙ (ap (λ (t : Task). t.condition) one ∙ s.sends) in cc

  received : (r : Registers) (e : Exchange) (k : ℕ) (link new : InputLink) (c : Condition) → h.from.mode ≡ Plain
      → has_end (holding_at w.roles h.process) (record { address = e.channel; direction = In }) ≡ true
      → e.channel ≡ input_word k → slice_get w.links.inputs k ≡ Some link → Receives h e link c new
      → Stay w (going h w r h.from.mode c) w.channels (slice_set w.links.inputs k new)
  received r e k link new c is asks word here (change.no_byte none) =
      with_link r h.from.mode c k link new here (λ p byte by kept. (kept, inl by))
  received r e k link new c is asks word here change.the_last =
      with_link r h.from.mode c k link new here (λ p byte by kept. no_byte is e k link word asks here p by)
  received r e k link new c is asks word here change.one_of_more =
      with_link r h.from.mode c k link new here (λ p byte by kept. no_byte is e k link word asks here p by)

  -- what is enabled is no channel of a join that is over
  still_open : (r : Registers) (o : ℕ) (roles : List Role) (x : Leaves h w o roles) (par : Par)
      → is_last h.process x.join ≡ true → (t : Task) → slice_get (going h w r Plain Ended) o ≡ Some t
      → t.condition ≡ Ended → (k p : ℕ) (c : Channel) → slice_get w.channels k ≡ Some (Some c)
      → c.enabled ≡ Some p → slice_get (without_channels o w.channels) k ≡ Some (Some c)
  still_open r o roles x par none t here over k p c at by =
      let has = a_channel k c at by in
      let differ : h.process ≢ p = λ e. not_mine x.outside p has (sym e) in
      let end = is_held.at_channels k c p at by in
      left_still o w.channels k c at (not_theirs h.contents h w o roles x par st.holders none p
      (record { address = end.0; direction = In }) c
      (subst (λ n. slice_get w.channels n ≡ Some (Some c)) (sym end.1) at)
      (subst (λ (g : Holding). has_end g (record { address = end.0; direction = In }) ≡ true)
      (sym (others_keep h w o roles x.back p differ)) end.2)
      (λ e. alive p has t (sym (got_other w.tasks h.process p _ differ)
      ∙ subst (λ n. slice_get (going h w r Plain Ended) n ≡ Some t) e here) over))

  changed : (ts : List Task) (rs : List Role) (cs : List (Option Channel)) (ls : Links) → Changed h w ts rs cs ls
      → Stay w ts cs ls.inputs
  changed ts rs cs ls (change.goes_on r mode c x) = stays r mode c
  changed ts rs cs ls (change.waits_to_receive r e c is asks at none) = record {
    tasks = tasks_set r h.from.mode (Receiving e);
    cells = cell_set w (cell_of e.channel) c (record c { waiting = Some h.process }) at
        (λ p q x s by waiting. not_some q (sym none ∙ waiting));
    bytes = bytes_same w;
  }
  changed ts rs cs ls (change.waits_to_send r e c tasks is asks at none roused) = record {
    tasks = λ k p q x s. still_roused (going h w r h.from.mode (Sending e)) tasks c.enabled roused q (Sending x)
        (λ z. cc) (tasks_set r h.from.mode (Sending e) k p q x s);
    cells = cell_set w (cell_of e.channel) c (record c { waiting = Some h.process }) at
        (λ p q x s by waiting. not_some q (sym none ∙ waiting));
    bytes = bytes_same w;
  }
  changed ts rs cs ls (change.meets_sender r e sent c other is asks at waits x) =
      let met = waiters (cell_of e.channel) c other at waits in
      let cell = same_channel w other (cell_of e.channel) sent met
      (ap (λ (o : Option Task). elim o as (λ o. Condition) [ None ↦ Ready | Some task ↦ task.condition ]) x.here
      ∙ x.waits) in
      meets r other (cell_of sent.channel) (record x.task { condition = Ready }) c
      (subst (λ n. slice_get w.channels n ≡ Some (Some c)) (sym cell) at) waits (λ k p q y s equal.
      unmet is e asks k p q y s (waits_once w.tasks q (cell_of e.channel) k
      (subst (λ n. WaitsAt w.tasks n (cell_of e.channel)) equal met) (waiters k s.channel q s.here s.waiting)))
  changed ts rs cs ls (change.meets_receiver r e wanted c other is asks at waits x) =
      meets r other (cell_of e.channel) (record x.task { condition = Ready }) c at waits
      (λ k p q y s. not_receiver other wanted x k p q y s)
  changed ts rs cs ls (change.receives_outside r e k link new c is asks word here x) =
      received r e k link new c is asks word here x
  changed ts rs cs ls (change.sends_outside r e k is asks word low) = stays r h.from.mode (OnLink e 0)
  changed ts rs cs ls (change.starts r role j own child cells is here plain awake opening) = record {
    tasks = λ k p q e x.
        let t = tasks_set r Starting h.from.condition k p q e x in
        record {
          task = t.task;
          here = slice_get-append_left (going h w r Starting h.from.condition) (child ∷ []) q t.task t.here;
          waits = t.waits;
        };
    cells = λ k p q e x. (
      x.channel,
      kept_at_start h w there keeps waiters small st cells opening k x.channel x.here,
      x.waiting,
      inl x.by,
    );
    bytes = bytes_same w;
  }
  changed ts rs cs ls (change.leaves_join r o roles x some) = stays r Plain Ended
  changed ts rs cs ls (change.closes_join r o roles x none par t here over) = record {
    tasks = λ k p q e s. still_set (going h w r Plain Ended) o t (closed_task x.join par t) here q (Sending e)
        (λ sends. absurd (let z : Ended ≡ Sending e = sym over ∙ sends in cc)) (tasks_set r Plain Ended k p q e s);
    cells = λ k p q e s. (
      s.channel,
      still_open r o roles x par none t here over k p s.channel s.here s.by,
      s.waiting,
      inl s.by,
    );
    bytes = bytes_same w;
  }
  changed ts rs cs ls (change.enables_a_channel r address c is asks at once) =
      with_new r _ (cell_of address) c (record c { enabled = Some h.process }) at
      (λ p q x s by waiting. not_enabled c.enabled p once by)
  changed ts rs cs ls (change.enables_a_link r k link is asks here once) =
      with_link r _ h.from.condition k link (record link { enabled = Some h.process }) here
      (λ p byte by kept. not_enabled link.enabled p once by)
  changed ts rs cs ls (change.disables_a_channel r mode address c is further at mine) =
      with_new r mode (cell_of address) c (record c { enabled = None }) at (λ p q x s by waiting. (
        waiting,
        inr (runs ∙ ap (λ (n : ℕ). Some n) (sym (enabled_by c.enabled p h.process mine by)), refl),
      ))
  changed ts rs cs ls (change.disables_a_link r mode k link is further here mine) =
      with_link r mode h.from.condition k link (record link { enabled = None }) here (λ p byte by kept. (
        kept,
        inr (runs ∙ ap (λ (n : ℕ). Some n) (sym (enabled_by link.enabled p h.process mine by)), refl),
      ))

-- ---- every event

module _ (m : Contents) (w : World) where
  -- a process that waits on a link is no sender
  elsewhere : (p : ℕ) (t : Task) (e : Exchange) (done : ℕ) → slice_get w.tasks p ≡ Some t
      → t.condition ≡ OnLink e done → (k o q : ℕ) (x : Exchange) → HasSender w.tasks w.channels k (Some o) q x → p ≢ q
  elsewhere p t e done here is k o q x s same =
      let one = same_some (slice_get w.tasks q) t s.sender (subst (λ n. slice_get w.tasks n ≡ Some t) same here)
      s.there in
      let z : OnLink e done ≡ Sending x = sym is ∙ (ap (λ (y : Task). y.condition) one ∙ s.sends) in cc

  -- one that waits on a link waits for another byte, or becomes ready
  goes_further : (p word : ℕ) (x : WaitsOn w.tasks p word) (u : Task) → TasksStay w (slice_set w.tasks p u)
  goes_further p word x u k o q e s = still_other w.tasks p u q (Sending e)
      (elsewhere p x.task x.exchange x.done x.here x.waits k o q e s) (sending s)

  module _ (small : IsSmall m) (keeps : WaitsIn w) (waiters : HaveTheirWaiters w.tasks w.channels) (st : Stands m w)
      (apart : AllApart w.roles w.channels) (alternates : AllAlternate w.tasks w.channels w.links.inputs)
      (is_held : EnabledIsHeld w.roles w.channels w.links.inputs) where
    passed : (ts : List Task) (rs : List Role) (cs : List (Option Channel)) (ls : Links) → Passed m w ts rs cs ls
        → Stay w ts cs ls.inputs
    passed ts rs cs ls change.nothing_happens =
        record { tasks = λ k p q e x. sending x; cells = cells_same w; bytes = bytes_same w }
    passed ts rs cs ls (change.it_runs p pick task runs here x) =
        changed (at_here m p task pick) w runs here keeps waiters small st apart alternates is_held ts rs cs ls x
    passed ts rs cs ls (change.fills_last p k link here waiting x) = record {
      tasks = goes_further p (input_word k) x (record x.task { condition = Ready });
      cells = cells_same w;
      bytes = input_set w k link (record link { waiting = None }) here (λ o b by kept. (kept, inl by));
    }
    passed ts rs cs ls (change.fills_more p k x) = record {
      tasks = goes_further p (input_word k) x (record x.task { condition = OnLink x.exchange (x.done + 1) });
      cells = cells_same w;
      bytes = bytes_same w;
    }
    passed ts rs cs ls (change.keeps_byte k byte link tasks here empty roused) = record {
      tasks = λ n o q e s. still_roused w.tasks tasks link.enabled roused q (Sending e) (λ z. cc) (sending s);
      cells = cells_same w;
      bytes = input_set w k link (record link { kept = Some byte }) here
          (λ p b by kept. not_some b (sym empty ∙ kept));
    }
    passed ts rs cs ls (change.acknowledges p k link here waiting x) = record {
      tasks = goes_further p (output_word k) x (record x.task { condition = Ready });
      cells = cells_same w;
      bytes = bytes_same w;
    }

pub what_is_ready_stays : WhatIsReadyStays
what_is_ready_stays m es e format =
    let w = world_after m es in
    let keeps = reached m es in
    let small = format_is_small m format in
    let t = turn m w e in
    together w t.world (passed m w small keeps (channels_have_their_waiters m es) (all_stand m small es)
    (holdings_stay_apart m es format) (who_enabled_alternates m es) (enabled_is_held m es) t.world.tasks t.world.roles
    t.world.channels t.world.links (passes m w keeps e t (turn_happens m w e)))
