-- While a process may yet wait for what it has enabled, none of that has a sender or a byte.
use Rattle.std.proofs.Common.{◌≡◌, ◌≢◌, ℕ, zero, suc, ◌+◌, ◌||◌, Bool, true, false, ◌⊎◌, inl, inr, List, [], ◌∷◌, ◌++◌}
use Rattle.std.proofs.Common.{Option, Some, None, is_some, refl, sym, ap, ◌∙◌, subst, slice_get}
use Rattle.std.specs.Prelude.{slice_set}
use Rattle.small_laws.proofs.Options.{same_some}
use Rattle.module_format.specs.Contents.{Contents}
use Rattle.machine_state.specs.declared.link.InputLink.{InputLink}
use Rattle.machine_state.specs.declared.process.Channel.{Channel}
use Rattle.machine_state.specs.declared.process.Registers.{Registers}
use Rattle.machine_state.specs.declared.process.Task.{Task}
use Rattle.machine_state.specs.declared.process.Mode.{Mode}
use Rattle.machine_state.specs.declared.process.Mode.TheVariants.{Plain, Enabling, Disabling, Starting}
use Rattle.machine_state.specs.declared.process.Condition.{Condition}
use Rattle.machine_state.specs.declared.process.Condition.TheVariants.{Ready, Sending, Receiving, OnLink, Alternating}
use Rattle.machine_state.specs.declared.process.Condition.TheVariants.{Ended}
use Rattle.machine_state.specs.declared.process.Exchange.{Exchange}
use Rattle.machine_state.specs.World.{World, Links, Role, loaded, root_task}
use Rattle.machine_state.specs.Moves.{cell_of}
use Rattle.machine_state.specs.Turn.{Here, at_here}
use Rattle.machine_state.specs.Alternations.{ready_or}
use Rattle.machine_state.specs.Joins.{closed_task, without_channels}
use Rattle.machine_state.specs.Happens.{world_after}
use Rattle.machine_state.specs.ChannelLaws.{HaveTheirWaiters}
use Rattle.machine_state.specs.EnabledLaws.{HasEnabled, a_channel, a_link, Enables, Disables, Alternates}
use Rattle.machine_state.specs.EnabledLaws.{IsInAlternation}
use Rattle.machine_state.specs.EnabledLaws.{AllAlternate, MayWait, HasReady, a_sender, a_byte, NothingIsReady}
use Rattle.machine_state.specs.EnabledLaws.{WhoMayWaitHasNothingReady}
use Rattle.machine_state.proofs.Lines.{got_other, got_either, set_either}
use Rattle.machine_state.proofs.Claims.{not_some}
use Rattle.machine_state.proofs.Modes.{IsOutside}
use Rattle.machine_state.proofs.Waking.{roused_was}
use Rattle.machine_state.proofs.Waiting.{WaitsIn, reached}
use Rattle.machine_state.proofs.ChannelWaiters.{new_is_quiet, left_channel, channels_have_their_waiters}
use Rattle.machine_state.proofs.WhoEnabled.{not_plain, not_outside, set_enabled, set_link_enabled, it_has_enabled}
use Rattle.machine_state.proofs.WhoEnabled.{who_enabled_alternates}
use Rattle.machine_state.proofs.Changes as change
use Rattle.machine_state.proofs.Changes.{Changed, Passed, Onward, Receives, Partner, Roused, going, cell_is, with_cell}
use Rattle.machine_state.proofs.Changes.{with_link}
use Rattle.machine_state.proofs.Changes.{onward_condition, running_is_ready, of_every_world}

ready_is_enabled : (ts : List Task) (cs : List (Option Channel)) (ls : List InputLink) (p : ℕ) → HasReady ts cs ls p
    → HasEnabled cs ls p
ready_is_enabled ts cs ls p (a_sender k c q x e here by waits at sends) = a_channel k c here by
ready_is_enabled ts cs ls p (a_byte k l byte here by kept) = a_link k l here by

not_disabling : (mode : Mode) (c : Condition) → Disables mode → c ≡ Ready → (mode ≡ Enabling false) ⊎
    (c ≡ Alternating) → ⊥
not_disabling mode c is ready (inl enabling) = let x : Disabling is.0 ≡ Enabling false = sym is.1 ∙ enabling in cc
not_disabling mode c is ready (inr waits) = let x : Ready ≡ Alternating = sym ready ∙ waits in cc

-- ---- a process that was roused does not wait any more

-- a process that may wait after one was roused is another one, as it was
roused_may_wait : (tasks later : List Task) (o : Option ℕ) → Roused tasks o later → (p : ℕ) (t : Task)
    → IsInAlternation tasks p → slice_get later p ≡ Some t → MayWait t
    → (o ≡ Some p → ⊥) × (slice_get tasks p ≡ Some t)
roused_may_wait tasks later o (change.nobody deaf) p t alternates here may = (
  λ e. deaf p t e here (elim may [ inl mode ↦ inl (false, mode) | inr waits ↦ inr waits ]),
  here,
)
roused_may_wait tasks later o (change.who_enables q x there is awake) p t alternates here may =
    elim (set_either tasks q (record x { mode = Enabling true }) p t here) [
      | inl it ↦ elim (subst (λ (y : Task). MayWait y) it.1 may) [
        | inl mode ↦ absurd (cc)
        | inr waits ↦ absurd (awake waits)
      ]
      | inr other ↦ ((λ e. other.0 (same_some (Some q) q p refl e)), other.1)
    ]
roused_may_wait tasks later o (change.who_waits q x there waits) p t alternates here may =
    elim (set_either tasks q (record x { condition = Ready }) p t here) [
      | inl it ↦
          let same = same_some (slice_get tasks p) alternates.task x alternates.here
          (subst (λ n. slice_get tasks n ≡ Some x) it.0 there) in
          absurd (on (subst (λ (y : Task). Alternates y.mode y.condition) same alternates.alternates)
          (subst (λ (y : Task). MayWait y) it.1 may))
      | inr other ↦ ((λ e. other.0 (same_some (Some q) q p refl e)), other.1)
    ]
  where
    on : Alternates x.mode x.condition → (x.mode ≡ Enabling false) ⊎ (Ready ≡ Alternating) → ⊥
    on (inl e) either = let z : Alternating ≡ Ready = sym waits ∙ e.1 in cc
    on (inr d) (inl mode) = let z : Disabling d.0.0 ≡ Enabling false = sym d.0.1 ∙ mode in cc
    on (inr d) (inr never) = cc

-- ---- a task is changed, and is no sender

quiet_set : (ts : List Task) (cs : List (Option Channel)) (ls : List InputLink) (q : ℕ) (t u : Task)
    → slice_get ts q ≡ Some t → (MayWait u → MayWait t) → ((e : Exchange) → u.condition ≡ Sending e → ⊥)
    → NothingIsReady ts cs ls → NothingIsReady (slice_set ts q u) cs ls
quiet_set ts cs ls q t u there may silent old p x here waits has = elim (set_either ts q u p x here) [
  | inl it ↦ old p t (subst (λ n. slice_get ts n ≡ Some t) it.0 there)
      (may (subst (λ (z : Task). MayWait z) it.1 waits)) (before has)
  | inr other ↦ old p x other.1 waits (before has)
]
  where
    before : HasReady (slice_set ts q u) cs ls p → HasReady ts cs ls p
    before (a_sender k c n y e here by waiting at sends) = elim (set_either ts q u n y at) [
      | inl it ↦ absurd (silent e (ap (λ (z : Task). z.condition) (sym it.1) ∙ sends))
      | inr other ↦ a_sender k c n y e here by waiting other.1 sends
    ]
    before (a_byte k l byte here by kept) = a_byte k l byte here by kept

quiet_ready : (ts : List Task) (cs : List (Option Channel)) (ls : List InputLink) (q : ℕ) (t : Task)
    → slice_get ts q ≡ Some t → NothingIsReady ts cs ls
    → NothingIsReady (slice_set ts q (record t { condition = Ready })) cs ls
quiet_ready ts cs ls q t there old = quiet_set ts cs ls q t (record t { condition = Ready }) there
    (λ may. elim may [ inl enabling ↦ inl enabling | inr waits ↦ absurd (cc) ]) (λ e sends. cc) old

-- one more, which does not wait
quiet_push : (ts : List Task) (u : Task) (cs : List (Option Channel)) (ls : List InputLink) → u.condition ≡ Ready
    → u.mode ≡ Plain → NothingIsReady ts cs ls → NothingIsReady (ts ++ u ∷ []) cs ls
quiet_push ts u cs ls ready plain old p t here waits has = elim (got_either ts u p t here) [
  | inl before ↦ old p t before waits (was has)
  | inr last ↦ elim (subst (λ (y : Task). MayWait y) last.1 waits) [
    | inl enabling ↦ let z : Plain ≡ Enabling false = sym plain ∙ enabling in cc
    | inr alternating ↦ let z : Ready ≡ Alternating = sym ready ∙ alternating in cc
  ]
]
  where
    was : HasReady (ts ++ u ∷ []) cs ls p → HasReady ts cs ls p
    was (a_sender k c q x e at by waiting there sends) = elim (got_either ts u q x there) [
      | inl before ↦ a_sender k c q x e at by waiting before sends
      | inr last ↦ absurd (
          let z : Ready ≡ Sending e = sym ready ∙ (ap (λ (y : Task). y.condition) (sym last.1) ∙ sends) in cc)
    ]
    was (a_byte k l byte at by kept) = a_byte k l byte at by kept

-- a process was roused by what has become ready, which is one channel or link
quiet_roused : (ts later : List Task) (cs : List (Option Channel)) (ls : List InputLink) (o : Option ℕ)
    → Roused ts o later → ((p : ℕ) → HasEnabled cs ls p → IsInAlternation ts p)
    → ((p : ℕ) (t : Task) → (o ≡ Some p → ⊥) → slice_get ts p ≡ Some t → MayWait t → HasReady ts cs ls p → ⊥)
    → NothingIsReady later cs ls
quiet_roused ts later cs ls o roused alternates old p t here waits has =
    let before = roused_may_wait ts later o roused p t (alternates p (ready_is_enabled later cs ls p has)) here waits in
    old p t before.0 before.1 waits (was has)
  where
    was : HasReady later cs ls p → HasReady ts cs ls p
    was (a_sender k c q x e at by waiting there sends) =
        let y = roused_was (λ c. c ≡ Sending e) (λ z. cc) ts later o roused q x there sends in
        a_sender k c q y.0 e at by waiting y.1 y.2
    was (a_byte k l byte at by kept) = a_byte k l byte at by kept

-- ---- an instruction of the running process

module _ (h : Here) (w : World) (runs : w.queue.running ≡ Some h.process)
    (there : slice_get w.tasks h.process ≡ Some h.from) (keeps : WaitsIn w)
    (waiters : HaveTheirWaiters w.tasks w.channels) (alternates : AllAlternate w.tasks w.channels w.links.inputs)
    (all : NothingIsReady w.tasks w.channels w.links.inputs) where
  ready : h.from.condition ≡ Ready
  ready = running_is_ready h w runs there keeps

  -- no channel says that the process waits
  not_waiting : (k : ℕ) (c : Channel) (p : ℕ) → slice_get w.channels k ≡ Some (Some c) → c.waiting ≡ Some p
      → h.process ≢ p
  not_waiting k c p here waits e =
      let x = waiters k c p here waits in
      let same = same_some (slice_get w.tasks p) x.task h.from x.here
      (subst (λ n. slice_get w.tasks n ≡ Some h.from) e there) in
      let is_ready = ap (λ (t : Task). t.condition) same ∙ ready in
      elim x.waits [
        | inl sends ↦ let z : Ready ≡ Sending x.exchange = sym is_ready ∙ sends in cc
        | inr receives ↦ let z : Ready ≡ Receiving x.exchange = sym is_ready ∙ receives in cc
      ]

  -- a process in this mode and this condition waits, or may yet wait
  abbrev Waits : Mode → Condition → Type 0
  Waits mode c = (mode ≡ Enabling false) ⊎ (c ≡ Alternating)

  abbrev Silent : Condition → Type 0
  Silent c = (e : Exchange) → c ≡ Sending e → ⊥

  -- if it may wait then, and has enabled something, it might have waited before
  abbrev MayBefore : Mode → Condition → Type 0
  MayBefore mode c = HasEnabled w.channels w.links.inputs h.process → Alternates h.from.mode h.from.condition
      → Waits mode c → Waits h.from.mode h.from.condition

  -- what has a waiter or a byte then, and is enabled, was so before
  abbrev OldCells : List (Option Channel) → Type 0
  OldCells cs = (k : ℕ) (c : Channel) (p q : ℕ) → slice_get cs k ≡ Some (Some c) → c.enabled ≡ Some p
      → c.waiting ≡ Some q → h.process ≢ q → slice_get w.channels k ≡ Some (Some c)

  abbrev OldInputs : List InputLink → Type 0
  OldInputs ls = (k : ℕ) (l : InputLink) (p byte : ℕ) → slice_get ls k ≡ Some l → l.enabled ≡ Some p
      → l.kept ≡ Some byte
      → (old : InputLink) × (slice_get w.links.inputs k ≡ Some old) × (old.enabled ≡ Some p) × (old.kept ≡ Some byte)

  goes : (r : Registers) (mode : Mode) (c : Condition) → Silent c → MayBefore mode c → (cs : List (Option Channel))
      (ls : List InputLink) → OldCells cs → OldInputs ls → NothingIsReady (going h w r mode c) cs ls
  goes r mode c silent mays cs ls cells links p t here waits has =
      on (before has) (set_either w.tasks h.process _ p t here)
    where
      before : HasReady (going h w r mode c) cs ls p → HasReady w.tasks w.channels w.links.inputs p
      before (a_sender k d q x e at by waiting there_is sends) = elim (set_either w.tasks h.process _ q x there_is) [
        | inl it ↦ absurd (silent e (ap (λ (y : Task). y.condition) (sym it.1) ∙ sends))
        | inr other ↦ a_sender k d q x e (cells k d p q at by waiting other.0) by waiting other.1 sends
      ]
      before (a_byte k l byte at by kept) =
          let old = links k l p byte at by kept in a_byte k old.0 byte old.1 old.2 old.3

      on : HasReady w.tasks w.channels w.links.inputs p
          → ((h.process ≡ p) × (t ≡ record { registers = r; mode = mode; condition = c }))
          ⊎ ((h.process ≢ p) × (slice_get w.tasks p ≡ Some t)) → ⊥
      on old (inl it) =
          let has_it = subst (λ n. HasReady w.tasks w.channels w.links.inputs n) (sym it.0) old in
          let enabled = ready_is_enabled w.tasks w.channels w.links.inputs h.process has_it in
          let x = alternates h.process enabled in
          let same = same_some (slice_get w.tasks h.process) x.task h.from x.here there in
          all h.process h.from there (mays enabled (subst (λ (y : Task). Alternates y.mode y.condition) same
          x.alternates) (subst (λ (y : Task). MayWait y) it.1 waits)) has_it
      on old (inr other) = all p t other.1 waits old

  -- channels and links are as they were
  same_cells : OldCells w.channels
  same_cells k c p q here by waits differ = here

  same_inputs : OldInputs w.links.inputs
  same_inputs k l p byte here by kept = (l, here, by, kept)

  -- nothing that can be enabled was changed
  stays : (r : Registers) (mode : Mode) (c : Condition) → Silent c → MayBefore mode c
      → NothingIsReady (going h w r mode c) w.channels w.links.inputs
  stays r mode c silent mays = goes r mode c silent mays w.channels w.links.inputs same_cells same_inputs

  -- a channel was changed, where no process waits now, or the process itself
  fewer_cells : (n : ℕ) (new : Channel) → ((q : ℕ) → new.waiting ≡ Some q → h.process ≡ q) → (k : ℕ) (c : Channel)
      (p q : ℕ) → slice_get (slice_set w.channels n (Some new)) k ≡ Some (Some c) → c.enabled ≡ Some p
      → c.waiting ≡ Some q → h.process ≢ q → slice_get w.channels k ≡ Some (Some c)
  fewer_cells n new mine k c p q here by waits differ = elim (set_either w.channels n (Some new) k (Some c) here) [
    | inl it ↦
        let same : c ≡ new = let x = it.1 in cc in
        absurd (differ (mine q (ap (λ (x : Channel). x.waiting) (sym same) ∙ waits)))
    | inr old ↦ old.1
  ]

  -- a channel was changed, which no process has enabled now
  freed_cells : (n : ℕ) (new : Channel) → new.enabled ≡ None → (k : ℕ) (c : Channel) (p q : ℕ)
      → slice_get (slice_set w.channels n (Some new)) k ≡ Some (Some c) → c.enabled ≡ Some p → c.waiting ≡ Some q
      → h.process ≢ q → slice_get w.channels k ≡ Some (Some c)
  freed_cells n new nobody k c p q here by waits differ = elim (set_either w.channels n (Some new) k (Some c) here) [
    | inl it ↦
        let same : c ≡ new = let x = it.1 in cc in
        absurd (let e : None ≡ Some p = sym nobody ∙ (ap (λ (x : Channel). x.enabled) (sym same) ∙ by) in cc)
    | inr old ↦ old.1
  ]

  -- a link was changed, on which no byte is kept now, or which is enabled by none
  fewer_inputs : (n : ℕ) (new : InputLink) → ((p byte : ℕ) → new.enabled ≡ Some p → new.kept ≡ Some byte → ⊥)
      → (k : ℕ) (l : InputLink) (p byte : ℕ) → slice_get (slice_set w.links.inputs n new) k ≡ Some l
      → l.enabled ≡ Some p → l.kept ≡ Some byte
      → (old : InputLink) × (slice_get w.links.inputs k ≡ Some old) × (old.enabled ≡ Some p) × (old.kept ≡ Some byte)
  fewer_inputs n new never k l p byte here by kept = elim (set_either w.links.inputs n new k l here) [
    | inl it ↦ absurd (never p byte (ap (λ (x : InputLink). x.enabled) (sym it.1) ∙ by)
        (ap (λ (x : InputLink). x.kept) (sym it.1) ∙ kept))
    | inr old ↦ (l, old.1, by, kept)
  ]

  plain : h.from.mode ≡ Plain → (mode : Mode) (c : Condition) → MayBefore mode c
  plain is mode c has was may = absurd (not_plain h.from.mode h.from.condition is was)

  outside : IsOutside h.from.mode → (mode : Mode) (c : Condition) → MayBefore mode c
  outside is mode c has was may = absurd (not_outside h.from.mode h.from.condition is was)

  silent_from : Silent h.from.condition
  silent_from e sends = let x : Ready ≡ Sending e = sym ready ∙ sends in cc

  -- it is not ready yet, and was not before
  not_yet : (is : Enables h.from.mode) (b : Bool) → ready_or h.from.mode b ≡ Enabling false
      → (h.from.mode ≡ Enabling false) × (b ≡ false)
  not_yet is b not_ready = on is.0 b is.1
      (subst (λ (mode : Mode). ready_or mode b ≡ Enabling false) is.1 not_ready)
    where
      on : (x y : Bool) → h.from.mode ≡ Enabling x → Enabling (x || y) ≡ Enabling false
          → (h.from.mode ≡ Enabling false) × (y ≡ false)
      on true y mode is = absurd (cc)
      on false true mode is = absurd (cc)
      on false false mode is = (mode, refl)

  onward : (mode : Mode) (c : Condition) → Onward h w mode c → MayBefore mode c
  onward mode c change.as_before has was may = may
  onward mode c (change.stops is) has was may = plain is mode c has was may
  onward mode c (change.begins is) has was may = plain is mode c has was may
  onward mode c (change.enables is b) has was may = elim may [
    | inl enabling ↦ inl (not_yet is b enabling).0
    | inr waits ↦ inr waits
  ]
  onward mode c (change.is_ready is) has was may = absurd (not_disabling mode c (None, refl) ready may)
  onward mode c (change.alternates is unready) has was may = inl (on is.0 is.1)
    where
      on : (b : Bool) → h.from.mode ≡ Enabling b → h.from.mode ≡ Enabling false
      on true mode = absurd (unready mode)
      on false mode = mode
  onward mode c (change.disables is later further) has was may = absurd (not_disabling mode c further ready may)
  onward mode c (change.ends_alternation is none) has was may =
      absurd (let e : false ≡ true = sym none ∙ it_has_enabled w h.process has in cc)

  silent_onward : (mode : Mode) (c : Condition) → Onward h w mode c → Silent c
  silent_onward = onward_condition (λ c. (e : Exchange) → c ≡ Sending e → ⊥) h w silent_from (λ e sends. cc)
      (λ e sends. cc)

  -- it receives from a link, where no byte is kept then
  received : (r : Registers) (e : Exchange) (k : ℕ) (link new : InputLink) (c : Condition) → h.from.mode ≡ Plain
      → Receives h e link c new
      → NothingIsReady (going h w r h.from.mode c) w.channels (slice_set w.links.inputs k new)
  received r e k link new c is (change.no_byte none) =
      goes r h.from.mode c (λ e sends. cc) (plain is h.from.mode c) w.channels (slice_set w.links.inputs k new)
      same_cells (fewer_inputs k new (λ p byte by kept. not_some byte (sym none ∙ kept)))
  received r e k link new c is change.the_last =
      goes r h.from.mode c silent_from (plain is h.from.mode c) w.channels (slice_set w.links.inputs k new) same_cells
      (fewer_inputs k new (λ p byte by kept. cc))
  received r e k link new c is change.one_of_more =
      goes r h.from.mode c (λ e sends. cc) (plain is h.from.mode c) w.channels (slice_set w.links.inputs k new)
      same_cells (fewer_inputs k new (λ p byte by kept. cc))

  -- one that was ready and is in an alternation still is no sender
  sender : (r : Registers) (mode : Mode) (q : ℕ) (x : Task) (e : Exchange)
      → slice_get (going h w r mode h.from.condition) q ≡ Some x → x.condition ≡ Sending e
      → slice_get w.tasks q ≡ Some x
  sender r mode q x e at sends = elim (set_either w.tasks h.process _ q x at) [
    | inl it ↦ absurd (silent_from e (ap (λ (y : Task). y.condition) (sym it.1) ∙ sends))
    | inr other ↦ other.1
  ]

  -- it enables one more, which is ready or not
  enables_one : Enables h.from.mode → (r : Registers) (b : Bool) (cs : List (Option Channel)) (ls : List InputLink)
      → ((p : ℕ) → HasReady (going h w r (ready_or h.from.mode b) h.from.condition) cs ls p
      → HasReady w.tasks w.channels w.links.inputs p ⊎ ((Some h.process ≡ Some p) × (b ≡ true)))
      → NothingIsReady (going h w r (ready_or h.from.mode b) h.from.condition) cs ls
  enables_one is r b cs ls before p t here waits has = elim (set_either w.tasks h.process _ p t here) [
    | inl it ↦ elim (subst (λ (y : Task). MayWait y) it.1 waits) [
      | inl enabling ↦ elim (before p has) [
        | inl old ↦ all h.process h.from there (inl (not_yet is b enabling).0)
            (subst (λ n. HasReady w.tasks w.channels w.links.inputs n) (sym it.0) old)
        | inr new ↦ let z : false ≡ true = sym (not_yet is b enabling).1 ∙ new.1 in cc
      ]
      | inr alternating ↦ let z : Ready ≡ Alternating = sym ready ∙ alternating in cc
    ]
    | inr other ↦ elim (before p has) [
      | inl old ↦ all p t other.1 waits old
      | inr new ↦ other.0 (same_some (Some h.process) h.process p refl new.0)
    ]
  ]

  enables_channel : Enables h.from.mode → (r : Registers) (address : ℕ) (c : Channel)
      → NothingIsReady (going h w r (ready_or h.from.mode (is_some c.waiting)) h.from.condition)
      (with_cell w address (record c { enabled = Some h.process })) w.links.inputs
  enables_channel is r address c = enables_one is r (is_some c.waiting) _ _ before
    where
      before : (p : ℕ) → HasReady (going h w r (ready_or h.from.mode (is_some c.waiting)) h.from.condition)
          (with_cell w address (record c { enabled = Some h.process })) w.links.inputs p
          → HasReady w.tasks w.channels w.links.inputs p
          ⊎ ((Some h.process ≡ Some p) × (is_some c.waiting ≡ true))
      before p (a_sender k d q x e at by waiting there_is sends) =
          elim (set_either w.channels (cell_of address) (Some (record c { enabled = Some h.process })) k (Some d) at) [
            | inl it ↦
                let same : d ≡ record c { enabled = Some h.process } = let x = it.1 in cc in
                inr (
                  sym (ap (λ (x : Channel). x.enabled) same) ∙ by,
                  ap is_some (sym (ap (λ (x : Channel). x.waiting) same) ∙ waiting),
                )
            | inr old ↦ inl (a_sender k d q x e old.1 by waiting (sender r _ q x e there_is sends) sends)
          ]
      before p (a_byte k l byte at by kept) = inl (a_byte k l byte at by kept)

  enables_link : Enables h.from.mode → (r : Registers) (n : ℕ) (l : InputLink)
      → NothingIsReady (going h w r (ready_or h.from.mode (is_some l.kept)) h.from.condition) w.channels
      (slice_set w.links.inputs n (record l { enabled = Some h.process }))
  enables_link is r n l = enables_one is r (is_some l.kept) _ _ before
    where
      before : (p : ℕ) → HasReady (going h w r (ready_or h.from.mode (is_some l.kept)) h.from.condition) w.channels
          (slice_set w.links.inputs n (record l { enabled = Some h.process })) p
          → HasReady w.tasks w.channels w.links.inputs p ⊎ ((Some h.process ≡ Some p) × (is_some l.kept ≡ true))
      before p (a_sender k d q x e at by waiting there_is sends) =
          inl (a_sender k d q x e at by waiting (sender r _ q x e there_is sends) sends)
      before p (a_byte k i byte at by kept) =
          elim (set_either w.links.inputs n (record l { enabled = Some h.process }) k i at) [
            | inl it ↦ inr (
              sym (ap (λ (x : InputLink). x.enabled) it.1) ∙ by,
              ap is_some (sym (ap (λ (x : InputLink). x.kept) it.1) ∙ kept),
            )
            | inr old ↦ inl (a_byte k i byte old.1 by kept)
          ]

  -- it waits to send, and what has enabled the channel is roused
  sends : h.from.mode ≡ Plain → (r : Registers) (e : Exchange) (c : Channel) (later : List Task)
      → cell_is w e.channel c → Roused (going h w r h.from.mode (Sending e)) c.enabled later
      → NothingIsReady later (with_cell w e.channel (record c { waiting = Some h.process })) w.links.inputs
  sends is r e c later at roused =
      quiet_roused (going h w r h.from.mode (Sending e)) later _ w.links.inputs c.enabled roused in_alternation quiet
    where
      new : Channel
      new = record c { waiting = Some h.process }

      in_alternation : (p : ℕ)
          → HasEnabled (with_cell w e.channel (record c { waiting = Some h.process })) w.links.inputs p
          → IsInAlternation (going h w r h.from.mode (Sending e)) p
      in_alternation p has =
          let before : HasEnabled w.channels w.links.inputs p =
          elim (set_enabled w.channels w.links.inputs (cell_of e.channel) new p has) [
            | inl old ↦ old
            | inr by ↦ a_channel (cell_of e.channel) c at by
          ] in
          let x = alternates p before in
          let differ : h.process ≢ p = λ same. not_plain x.task.mode x.task.condition
          (ap (λ (y : Task). y.mode) (same_some (slice_get w.tasks p) x.task h.from x.here
          (subst (λ n. slice_get w.tasks n ≡ Some h.from) same there)) ∙ is) x.alternates in
          record { task = x.task; here = got_other w.tasks h.process p _ differ ∙ x.here; alternates = x.alternates }

      was : (p : ℕ) → (c.enabled ≡ Some p → ⊥) → HasReady (going h w r h.from.mode (Sending e))
          (with_cell w e.channel (record c { waiting = Some h.process })) w.links.inputs p
          → HasReady w.tasks w.channels w.links.inputs p
      was p never (a_sender k d q x f here by waiting sender sends) =
          elim (set_either w.channels (cell_of e.channel) (Some new) k (Some d) here) [
            | inl it ↦ absurd (
                let same : d ≡ new = let x = it.1 in cc in
                never (sym (ap (λ (x : Channel). x.enabled) same) ∙ by))
            | inr old ↦ elim (set_either w.tasks h.process _ q x sender) [
              | inl it ↦ absurd (not_waiting k d q old.1 waiting it.0)
              | inr other ↦ a_sender k d q x f old.1 by waiting other.1 sends
            ]
          ]
      was p never (a_byte k i byte at by kept) = a_byte k i byte at by kept

      quiet : (p : ℕ) (t : Task) → (c.enabled ≡ Some p → ⊥)
          → slice_get (going h w r h.from.mode (Sending e)) p ≡ Some t → MayWait t
          → HasReady (going h w r h.from.mode (Sending e))
          (with_cell w e.channel (record c { waiting = Some h.process })) w.links.inputs p → ⊥
      quiet p t never at waits has = elim (set_either w.tasks h.process _ p t at) [
        | inl it ↦ elim (subst (λ (y : Task). MayWait y) it.1 waits) [
          | inl enabling ↦ let z : Plain ≡ Enabling false = sym is ∙ enabling in cc
          | inr alternating ↦ let z : Sending e ≡ Alternating = alternating in cc
        ]
        | inr other ↦ all p t other.1 waits (was p never has)
      ]

  -- it meets the one that waits at a channel, where no process waits then
  meets : (r : Registers) (other address : ℕ) (c : Channel) (d : Condition) (x : Partner h w other d)
      → NothingIsReady
      (slice_set (going h w r h.from.mode h.from.condition) other (record x.task { condition = Ready }))
      (with_cell w address (record c { waiting = None })) w.links.inputs
  meets r other address c d x = quiet_ready (going h w r h.from.mode h.from.condition) _ w.links.inputs other x.task
      (got_other w.tasks h.process other _ x.differ ∙ x.here)
      (goes r h.from.mode h.from.condition silent_from (λ has was may. may) _ w.links.inputs
      (fewer_cells (cell_of address) (record c { waiting = None }) (λ q none. not_some q none)) same_inputs)

  -- it has ended
  ends : IsOutside h.from.mode → (r : Registers) → NothingIsReady (going h w r Plain Ended) w.channels w.links.inputs
  ends is r = stays r Plain Ended (λ e sends. cc) (outside is Plain Ended)

  changed : (ts : List Task) (rs : List Role) (cs : List (Option Channel)) (ls : Links) → Changed h w ts rs cs ls
      → NothingIsReady ts cs ls.inputs
  changed ts rs cs ls (change.goes_on r mode c x) = stays r mode c (silent_onward mode c x) (onward mode c x)
  changed ts rs cs ls (change.waits_to_receive r e c is holds at none) =
      goes r h.from.mode (Receiving e) (λ e sends. cc) (plain is h.from.mode (Receiving e)) cs w.links.inputs
      (fewer_cells (cell_of e.channel) (record c { waiting = Some h.process })
      (λ q mine. same_some (Some h.process) h.process q refl mine)) same_inputs
  changed ts rs cs ls (change.waits_to_send r e c tasks is holds at none roused) = sends is r e c tasks at roused
  changed ts rs cs ls (change.meets_sender r e sent c other is holds at waits x) =
      meets r other sent.channel c (Sending sent) x
  changed ts rs cs ls (change.meets_receiver r e wanted c other is holds at waits x) =
      meets r other e.channel c (Receiving wanted) x
  changed ts rs cs ls (change.receives_outside r e k link new c is holds word here x) = received r e k link new c is x
  changed ts rs cs ls (change.sends_outside r e k is holds word low) =
      stays r h.from.mode (OnLink e 0) (λ e sends. cc) (plain is h.from.mode (OnLink e 0))
  changed ts rs cs ls (change.starts r role j own child cells is here calm awake opening) =
      quiet_push (going h w r Starting h.from.condition) child cells w.links.inputs awake calm
      (goes r Starting h.from.condition silent_from (outside is Starting h.from.condition) cells w.links.inputs
      (λ k c p q at by waits differ. elim (new_is_quiet h w cells opening k c at) [
        | inl old ↦ old
        | inr quiet ↦ not_some p (sym quiet.1 ∙ by)
      ]) same_inputs)
  changed ts rs cs ls (change.leaves_join r o roles x some) = ends x.outside r
  changed ts rs cs ls (change.closes_join r o roles x none par t here over) = λ p y at waits has.
      quiet_set (going h w r Plain Ended) w.channels w.links.inputs o t (closed_task x.join par t) here
      (λ may. elim may [ inl enabling ↦ absurd (cc) | inr waits ↦ absurd (cc) ]) (λ e sends. cc) (ends x.outside r) p y
      at waits (was p has)
    where
      was : (p : ℕ) → HasReady (slice_set (going h w r Plain Ended) o (closed_task x.join par t))
          (without_channels o w.channels) w.links.inputs p
          → HasReady (slice_set (going h w r Plain Ended) o (closed_task x.join par t)) w.channels w.links.inputs p
      was p (a_sender k c q y e at by waiting there_is sends) =
          a_sender k c q y e (left_channel o w.channels k c at) by waiting there_is sends
      was p (a_byte k l byte at by kept) = a_byte k l byte at by kept
  changed ts rs cs ls (change.enables_a_channel r address c is holds at once) = enables_channel is r address c
  changed ts rs cs ls (change.enables_a_link r k link is holds here once) = enables_link is r k link
  changed ts rs cs ls (change.disables_a_channel r mode address c is further at mine) =
      goes r mode h.from.condition silent_from
      (λ has was may. absurd (not_disabling mode h.from.condition further ready may)) cs w.links.inputs
      (freed_cells (cell_of address) (record c { enabled = None }) refl) same_inputs
  changed ts rs cs ls (change.disables_a_link r mode k link is further here mine) =
      goes r mode h.from.condition silent_from
      (λ has was may. absurd (not_disabling mode h.from.condition further ready may)) w.channels ls.inputs same_cells
      (fewer_inputs k (record link { enabled = None }) (λ p byte by kept. cc))

-- ---- every event

module _ (m : Contents) (w : World) (keeps : WaitsIn w)
    (waiters : HaveTheirWaiters w.tasks w.channels) (alternates : AllAlternate w.tasks w.channels w.links.inputs)
    (all : NothingIsReady w.tasks w.channels w.links.inputs) where
  -- a link on which a byte was taken
  taken : (k : ℕ) (old new : InputLink) → slice_get w.links.inputs k ≡ Some old → new.enabled ≡ old.enabled
      → new.kept ≡ old.kept → NothingIsReady w.tasks w.channels (slice_set w.links.inputs k new)
  taken k old new at enabled kept p t here waits has = all p t here waits (was has)
    where
      was : HasReady w.tasks w.channels (slice_set w.links.inputs k new) p
          → HasReady w.tasks w.channels w.links.inputs p
      was (a_sender n c q x e at by waiting there sends) = a_sender n c q x e at by waiting there sends
      was (a_byte n l byte there by has_byte) = elim (set_either w.links.inputs k new n l there) [
        | inl it ↦ a_byte k old byte at (sym enabled ∙ (ap (λ (x : InputLink). x.enabled) (sym it.1) ∙ by))
            (sym kept ∙ (ap (λ (x : InputLink). x.kept) (sym it.1) ∙ has_byte))
        | inr other ↦ a_byte n l byte other.1 by has_byte
      ]

  -- a byte is kept, and what has enabled the link is roused
  keeps_byte : (k byte : ℕ) (input : InputLink) (later : List Task) → slice_get w.links.inputs k ≡ Some input
      → Roused w.tasks input.enabled later
      → NothingIsReady later w.channels (slice_set w.links.inputs k (record input { kept = Some byte }))
  keeps_byte k byte input later at roused = quiet_roused w.tasks later w.channels _ input.enabled roused
      (λ p has. alternates p (before p has)) (λ p t never here waits has. all p t here waits (was p never has))
    where
      before : (p : ℕ) → HasEnabled w.channels (slice_set w.links.inputs k (record input { kept = Some byte })) p
          → HasEnabled w.channels w.links.inputs p
      before p has = elim (set_link_enabled w.channels w.links.inputs k (record input { kept = Some byte }) p has) [
        | inl old ↦ old
        | inr by ↦ a_link k input at by
      ]

      was : (p : ℕ) → (input.enabled ≡ Some p → ⊥)
          → HasReady w.tasks w.channels (slice_set w.links.inputs k (record input { kept = Some byte })) p
          → HasReady w.tasks w.channels w.links.inputs p
      was p never (a_sender n c q x e there by waiting sender sends) =
          a_sender n c q x e there by waiting sender sends
      was p never (a_byte n l b there by kept) =
          elim (set_either w.links.inputs k (record input { kept = Some byte }) n l there) [
            | inl it ↦ absurd (never (ap (λ (x : InputLink). x.enabled) (sym it.1) ∙ by))
            | inr other ↦ a_byte n l b other.1 by kept
          ]

  passed : (ts : List Task) (rs : List Role) (cs : List (Option Channel)) (ls : Links) → Passed m w ts rs cs ls
      → NothingIsReady ts cs ls.inputs
  passed ts rs cs ls change.nothing_happens = all
  passed ts rs cs ls (change.it_runs p pick task runs here x) =
      changed (at_here m p task pick) w runs here keeps waiters alternates all ts rs cs ls x
  passed ts rs cs ls (change.fills_last p k link here waiting x) =
      quiet_ready w.tasks w.channels ls.inputs p x.task x.here
      (taken k link (record link { waiting = None }) here refl refl)
  passed ts rs cs ls (change.fills_more p k x) =
      quiet_set w.tasks w.channels w.links.inputs p x.task
      (record x.task { condition = OnLink x.exchange (x.done + 1) }) x.here
      (λ may. elim may [ inl enabling ↦ inl enabling | inr waits ↦ absurd (cc) ]) (λ e sends. cc) all
  passed ts rs cs ls (change.keeps_byte k byte link tasks here empty roused) =
      keeps_byte k byte link tasks here roused
  passed ts rs cs ls (change.acknowledges p k link here waiting x) =
      quiet_ready w.tasks w.channels w.links.inputs p x.task x.here all

loaded_is_quiet : (m : Contents) → NothingIsReady (loaded m).tasks (loaded m).channels (loaded m).links.inputs
loaded_is_quiet m zero t here waits has =
    let same : root_task m ≡ t = cc in
    elim (subst (λ (y : Task). MayWait y) (sym same) waits) [ inl enabling ↦ cc | inr alternating ↦ cc ]
loaded_is_quiet m (suc p) t here waits has = absurd (cc)

pub who_may_wait_has_nothing_ready : WhoMayWaitHasNothingReady
who_may_wait_has_nothing_ready m es =
    of_every_world m (λ ts rs cs ls. NothingIsReady ts cs ls.inputs) (loaded_is_quiet m)
    (λ es ts rs cs ls all x. passed m (world_after m es) (reached m es) (channels_have_their_waiters m es)
    (who_enabled_alternates m es) all ts rs cs ls x) es
