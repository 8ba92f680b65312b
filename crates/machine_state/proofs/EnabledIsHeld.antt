-- What a process has enabled it holds, and no other process receives there.
use Rattle.std.proofs.Common.{◌≡◌, ◌≢◌, ℕ, zero, suc, ◌<◌, ◌^◌, true, ◌⊎◌, inl, inr, List, Option, Some, None, refl}
use Rattle.std.proofs.Common.{sym, ap, ◌∙◌, subst, slice_get, arith, replicate}
use Rattle.std.proofs.lemmas.Bool.{cases_eq}
use Rattle.std.specs.Prelude.{slice_set}
use Rattle.small_laws.proofs.Options.{same_some}
use Rattle.module_format.specs.Contents.{Contents}
use Rattle.module_format.specs.declared.rows.Direction.TheVariants.{In}
use Rattle.machine_state.specs.declared.event.Event.{Event}
use Rattle.machine_state.specs.declared.holding.End.{End}
use Rattle.machine_state.specs.declared.link.InputLink.{InputLink}
use Rattle.machine_state.specs.declared.process.Channel.{Channel}
use Rattle.machine_state.specs.declared.process.Task.{Task}
use Rattle.machine_state.specs.declared.process.Mode.{Mode}
use Rattle.machine_state.specs.declared.process.Condition.{Condition}
use Rattle.machine_state.specs.declared.process.Condition.TheVariants.{Ready, Receiving, OnLink, Alternating}
use Rattle.machine_state.specs.declared.process.Exchange.{Exchange}
use Rattle.machine_state.specs.Memory.{place_of}
use Rattle.machine_state.specs.Holding.{Holding, has_end}
use Rattle.machine_state.specs.World.{World, Links, Role, holding_at, input_word, loaded}
use Rattle.machine_state.specs.Moves.{cell_of}
use Rattle.machine_state.specs.Turn.{Here, at_here}
use Rattle.machine_state.specs.Apart.{AllApart}
use Rattle.machine_state.specs.ChannelLaws.{HaveTheirWaiters, AreRecorded}
use Rattle.machine_state.specs.LinkLaws.{IsAtLink, at_input, at_output, AreAtLinks}
use Rattle.machine_state.specs.EnabledLaws.{HasEnabled, a_channel, a_link, Alternates, AllAlternate, EnabledIsHeld}
use Rattle.machine_state.specs.EnabledLaws.{IsSending, WhoEnabledHolds}
use Rattle.machine_state.specs.Happens.{world_after}
use Rattle.machine_state.proofs.Lines.{set_either}
use Rattle.machine_state.proofs.Waiting.{WaitsIn, reached, low_output}
use Rattle.machine_state.proofs.Claims.{not_some}
use Rattle.machine_state.specs.Ownership.{to_use, owner_of, IsWord}
use Rattle.machine_state.proofs.EvenWords.{even_place}
use Rattle.machine_state.proofs.Holders.{now_claims, outside_is_free}
use Rattle.machine_state.proofs.ChannelWaiters.{same_channel, new_is_quiet, left_channel, channels_have_their_waiters}
use Rattle.machine_state.proofs.ApartLaws.{Stands, all_stand, format_is_small, holdings_stay_apart}
use Rattle.machine_state.proofs.WhoWaits.{holding_now, who_waits_is_recorded}
use Rattle.machine_state.proofs.WhoEnabled.{not_outside, not_ended, not_on_link, who_enabled_alternates}
use Rattle.machine_state.proofs.OthersHold.{HoldOn, others_hold}
use Rattle.machine_state.proofs.WhoWaitsOnLinks.{one_holds, who_waits_on_links_is_recorded}
use Rattle.machine_state.proofs.Changes as change
use Rattle.machine_state.proofs.Changes.{Changed, Passed, Receives, of_every_world}

-- ---- an instruction of the running process

-- a process holds the end of the channel in this data word to receive by
abbrev HoldsCell : List Role → ℕ → ℕ → Type 0
HoldsCell roles p k =
    (a : ℕ) × (cell_of a ≡ k) × (has_end (holding_at roles p) (record { address = a; direction = In }) ≡ true)

abbrev HoldsInput : List Role → ℕ → ℕ → Type 0
HoldsInput roles p k = has_end (holding_at roles p) (record { address = input_word k; direction = In }) ≡ true

-- who has enabled a channel had done so before, or holds it
abbrev FewerCells : World → List Role → List (Option Channel) → Type 0
FewerCells w roles cells = (k : ℕ) (c : Channel) (p : ℕ) → slice_get cells k ≡ Some (Some c) → c.enabled ≡ Some p
    → ((d : Channel) × (slice_get w.channels k ≡ Some (Some d)) × (d.enabled ≡ Some p)) ⊎ HoldsCell roles p k

abbrev FewerInputs : World → List Role → List InputLink → Type 0
FewerInputs w roles inputs = (k : ℕ) (l : InputLink) (p : ℕ) → slice_get inputs k ≡ Some l → l.enabled ≡ Some p
    → ((d : InputLink) × (slice_get w.links.inputs k ≡ Some d) × (d.enabled ≡ Some p)) ⊎ HoldsInput roles p k

-- one of the channels or links was changed
cell_set : (w : World) (roles : List Role) (n : ℕ) (new : Channel)
    → ((p : ℕ) → new.enabled ≡ Some p
    → ((d : Channel) × (slice_get w.channels n ≡ Some (Some d)) × (d.enabled ≡ Some p)) ⊎ HoldsCell roles p n)
    → FewerCells w roles (slice_set w.channels n (Some new))
cell_set w roles n new kept k c p here by = elim (set_either w.channels n (Some new) k (Some c) here) [
  | inl it ↦
      let e : c ≡ new = let x = it.1 in cc in
      subst (λ i. ((d : Channel) × (slice_get w.channels i ≡ Some (Some d)) × (d.enabled ≡ Some p))
      ⊎ HoldsCell roles p i) it.0 (kept p (ap (λ (x : Channel). x.enabled) (sym e) ∙ by))
  | inr other ↦ inl (c, other.1, by)
]

input_set : (w : World) (roles : List Role) (n : ℕ) (new : InputLink)
    → ((p : ℕ) → new.enabled ≡ Some p
    → ((d : InputLink) × (slice_get w.links.inputs n ≡ Some d) × (d.enabled ≡ Some p)) ⊎ HoldsInput roles p n)
    → FewerInputs w roles (slice_set w.links.inputs n new)
input_set w roles n new kept k l p here by = elim (set_either w.links.inputs n new k l here) [
  | inl it ↦ subst (λ i. ((d : InputLink) × (slice_get w.links.inputs i ≡ Some d) × (d.enabled ≡ Some p))
      ⊎ HoldsInput roles p i) it.0 (kept p (ap (λ (x : InputLink). x.enabled) (sym it.1) ∙ by))
  | inr other ↦ inl (l, other.1, by)
]

module _ (h : Here) (w : World) (there : slice_get w.tasks h.process ≡ Some h.from)
    (waiters : HaveTheirWaiters w.tasks w.channels) (alternates : AllAlternate w.tasks w.channels w.links.inputs)
    (held : EnabledIsHeld w.roles w.channels w.links.inputs) where
  -- who has enabled something holds what it did
  carries : (roles : List Role) → HoldOn h w roles → (p : ℕ) → HasEnabled w.channels w.links.inputs p
      → holding_at roles p ≡ holding_at w.roles p
  carries roles holds p has =
      let x = alternates p has in
      elim (cases_eq h.process p) [
        | inl e ↦
            let same = same_some (slice_get w.tasks p) x.task h.from x.here
            (subst (λ n. slice_get w.tasks n ≡ Some h.from) e there) in
            ap (λ (rs : List Role). holding_at rs p) (holds.itself (λ outside.
            not_outside h.from.mode h.from.condition outside
            (subst (λ (y : Task). Alternates y.mode y.condition) same x.alternates)))
        | inr differ ↦
            holds.others p x.task x.here differ (λ over. not_ended x.task.mode x.task.condition over x.alternates)
      ]

  goes : (roles : List Role) (cells : List (Option Channel)) (inputs : List InputLink) → HoldOn h w roles
      → FewerCells w roles cells → FewerInputs w roles inputs → EnabledIsHeld roles cells inputs
  goes roles cells inputs holds channels links = record {
    at_channels = λ k c p here by. elim (channels k c p here by) [
      | inl d ↦
          let x = held.at_channels k d.0 p d.1 d.2 in (
            x.0,
            x.1,
            subst (λ (g : Holding). has_end g (record { address = x.0; direction = In }) ≡ true)
                (sym (carries roles holds p (a_channel k d.0 d.1 d.2))) x.2,
          )
      | inr mine ↦ mine
    ];
    at_links = λ k l p here by. elim (links k l p here by) [
      | inl d ↦ subst (λ (g : Holding). has_end g (record { address = input_word k; direction = In }) ≡ true)
          (sym (carries roles holds p (a_link k d.0 d.1 d.2))) (held.at_links k d.0 p d.1 d.2)
      | inr mine ↦ mine
    ];
  }

  same_inputs : (roles : List Role) → FewerInputs w roles w.links.inputs
  same_inputs roles k l p here by = inl (l, here, by)

  -- nothing that can be enabled was changed
  stays : (roles : List Role) → HoldOn h w roles → EnabledIsHeld roles w.channels w.links.inputs
  stays roles holds = goes roles w.channels w.links.inputs holds (λ k c p here by. inl (c, here, by))
      (same_inputs roles)

  -- one channel was changed, or one link
  cell_goes : HoldOn h w w.roles → (n : ℕ) (new : Channel)
      → ((p : ℕ) → new.enabled ≡ Some p
      → ((d : Channel) × (slice_get w.channels n ≡ Some (Some d)) × (d.enabled ≡ Some p)) ⊎ HoldsCell w.roles p n)
      → EnabledIsHeld w.roles (slice_set w.channels n (Some new)) w.links.inputs
  cell_goes holds n new kept = goes w.roles (slice_set w.channels n (Some new)) w.links.inputs holds
      (cell_set w w.roles n new kept) (same_inputs w.roles)

  input_goes : HoldOn h w w.roles → (n : ℕ) (new : InputLink)
      → ((p : ℕ) → new.enabled ≡ Some p
      → ((d : InputLink) × (slice_get w.links.inputs n ≡ Some d) × (d.enabled ≡ Some p)) ⊎ HoldsInput w.roles p n)
      → EnabledIsHeld w.roles w.channels (slice_set w.links.inputs n new)
  input_goes holds n new kept = goes w.roles w.channels (slice_set w.links.inputs n new) holds
      (λ k c p here by. inl (c, here, by)) (input_set w w.roles n new kept)

  -- the link where it receives is enabled by the same
  received : HoldOn h w w.roles → (e : Exchange) (k : ℕ) (link new : InputLink) (c : Condition)
      → slice_get w.links.inputs k ≡ Some link → Receives h e link c new
      → EnabledIsHeld w.roles w.channels (slice_set w.links.inputs k new)
  received holds e k link new c here (change.no_byte none) = input_goes holds k new (λ p by. inl (link, here, by))
  received holds e k link new c here change.the_last = input_goes holds k new (λ p by. inl (link, here, by))
  received holds e k link new c here change.one_of_more = input_goes holds k new (λ p by. inl (link, here, by))

  changed : (ts : List Task) (rs : List Role) (cs : List (Option Channel)) (ls : Links) → Changed h w ts rs cs ls
      → HoldOn h w rs → EnabledIsHeld rs cs ls.inputs
  changed ts rs cs ls (change.goes_on r mode c x) holds = stays rs holds
  changed ts rs cs ls (change.waits_to_receive r e c is asks at none) holds =
      cell_goes holds (cell_of e.channel) (record c { waiting = Some h.process }) (λ p by. inl (c, at, by))
  changed ts rs cs ls (change.waits_to_send r e c tasks is asks at none roused) holds =
      cell_goes holds (cell_of e.channel) (record c { waiting = Some h.process }) (λ p by. inl (c, at, by))
  changed ts rs cs ls (change.meets_sender r e sent c other is asks at waits x) holds =
      let cell = same_channel w other (cell_of e.channel) sent (waiters (cell_of e.channel) c other at waits)
      (ap (λ (o : Option Task). elim o as (λ o. Condition) [ None ↦ Ready | Some task ↦ task.condition ]) x.here
      ∙ x.waits) in
      cell_goes holds (cell_of sent.channel) (record c { waiting = None })
      (λ p by. inl (c, subst (λ k. slice_get w.channels k ≡ Some (Some c)) (sym cell) at, by))
  changed ts rs cs ls (change.meets_receiver r e wanted c other is asks at waits x) holds =
      cell_goes holds (cell_of e.channel) (record c { waiting = None }) (λ p by. inl (c, at, by))
  changed ts rs cs ls (change.receives_outside r e k link new c is asks word here x) holds =
      received holds e k link new c here x
  changed ts rs cs ls (change.sends_outside r e k is asks word low) holds = stays rs holds
  changed ts rs cs ls (change.starts r role j own child cells is here plain awake opening) holds =
      goes rs cells w.links.inputs holds (λ k c p there by. elim (new_is_quiet h w cells opening k c there) [
        | inl old ↦ inl (c, old, by)
        | inr quiet ↦ not_some p (sym quiet.1 ∙ by)
      ]) (same_inputs rs)
  changed ts rs cs ls (change.leaves_join r o roles x some) holds = stays rs holds
  changed ts rs cs ls (change.closes_join r o roles x none par t here over) holds =
      goes rs cs w.links.inputs holds (λ k c p there by. inl (c, left_channel o w.channels k c there, by))
      (same_inputs rs)
  changed ts rs cs ls (change.enables_a_channel r address c is asks at once) holds =
      cell_goes holds (cell_of address) (record c { enabled = Some h.process }) (λ p by. inr (
        address,
        refl,
        subst (λ n. has_end (holding_at w.roles n) (record { address = address; direction = In }) ≡ true)
            (same_some (Some h.process) h.process p refl by) asks,
      ))
  changed ts rs cs ls (change.enables_a_link r k link is asks here once) holds =
      input_goes holds k (record link { enabled = Some h.process })
      (λ p by. inr (subst (λ n. HoldsInput w.roles n k) (same_some (Some h.process) h.process p refl by) asks))
  changed ts rs cs ls (change.disables_a_channel r mode address c is further at mine) holds =
      cell_goes holds (cell_of address) (record c { enabled = None }) (λ p by. not_some p by)
  changed ts rs cs ls (change.disables_a_link r mode k link is further here mine) holds =
      input_goes holds k (record link { enabled = None }) (λ p by. not_some p by)

-- ---- every event

module _ (m : Contents) (w : World) (keeps : WaitsIn w)
    (waiters : HaveTheirWaiters w.tasks w.channels) (alternates : AllAlternate w.tasks w.channels w.links.inputs)
    (held : EnabledIsHeld w.roles w.channels w.links.inputs) where
  -- a link was changed, which the same process has enabled
  with_input : (k : ℕ) (old new : InputLink) → slice_get w.links.inputs k ≡ Some old → new.enabled ≡ old.enabled
      → EnabledIsHeld w.roles w.channels (slice_set w.links.inputs k new)
  with_input k old new at same = record {
    at_channels = held.at_channels;
    at_links = λ n l p here by. elim (set_either w.links.inputs k new n l here) [
      | inl it ↦ subst (λ i. HoldsInput w.roles p i) it.0
          (held.at_links k old p at (sym same ∙ (ap (λ (x : InputLink). x.enabled) (sym it.1) ∙ by)))
      | inr other ↦ held.at_links n l p other.1 by
    ];
  }

  passed : (ts : List Task) (rs : List Role) (cs : List (Option Channel)) (ls : Links) → Passed m w ts rs cs ls
      → EnabledIsHeld rs cs ls.inputs
  passed ts rs cs ls change.nothing_happens = held
  passed ts rs cs ls (change.it_runs p pick task runs here x) =
      let h = at_here m p task pick in
      changed h w here waiters alternates held ts rs cs ls x (others_hold h w keeps ts rs cs ls x)
  passed ts rs cs ls (change.fills_last p k link here waiting x) =
      with_input k link (record link { waiting = None }) here refl
  passed ts rs cs ls (change.fills_more p k x) = held
  passed ts rs cs ls (change.keeps_byte k byte link tasks here empty roused) =
      with_input k link (record link { kept = Some byte }) here refl
  passed ts rs cs ls (change.acknowledges p k link here waiting x) = held

loaded_is_held : (m : Contents) → EnabledIsHeld (loaded m).roles (loaded m).channels (loaded m).links.inputs
loaded_is_held m = record {
  at_channels = λ k c p here by. absurd (no_channel m.data_words k c here);
  at_links = λ k l p here by. absurd (not_some p (quiet 4 k l here ∙ by));
}
  where
    no_channel : (n k : ℕ) (c : Channel) → slice_get (replicate n None) k ≡ Some (Some c) → ⊥
    no_channel zero k c is = cc
    no_channel (suc n) zero c is = cc
    no_channel (suc n) (suc k) c is = no_channel n k c is

    quiet : (n k : ℕ) (l : InputLink)
        → slice_get (replicate n (record { kept = None; waiting = None; enabled = None })) k ≡ Some l
        → None ≡ l.enabled
    quiet zero k l here = absurd (cc)
    quiet (suc n) zero l here =
        let empty : InputLink = record { kept = None; waiting = None; enabled = None } in
        let same : empty ≡ l = cc in
        ap (λ (x : InputLink). x.enabled) same
    quiet (suc n) (suc k) l here = quiet n k l here

pub enabled_is_held : (m : Contents) (es : List Event)
    → let w = world_after m es in EnabledIsHeld w.roles w.channels w.links.inputs
enabled_is_held m es =
    of_every_world m (λ ts rs cs ls. EnabledIsHeld rs cs ls.inputs) (loaded_is_held m)
    (λ es ts rs cs ls held x. passed m (world_after m es) (reached m es) (channels_have_their_waiters m es)
    (who_enabled_alternates m es) held ts rs cs ls x) es

-- ---- no other process receives there

place_address : (a b : ℕ) → a < 2 ^ 32 → b < 2 ^ 32 → place_of a ≡ place_of b → a ≡ b
unfolding place_of
place_address a b low high same = omega (arith, low, high, same)

-- ends of one channel have one address
cell_address : (a b k : ℕ) → IsWord a → IsWord b → cell_of a ≡ k → cell_of b ≡ k → a ≡ b
cell_address a b k x y p q =
    let even = even_place a x.0 in
    let other = even_place b y.0 in
    place_address a b x.1 y.1 (omega (arith, even, other, p, q))

-- the end of a channel has the address of a word
pub word_of : (m : Contents) (w : World) → Stands m w → (p : ℕ) (end : End) (c : Channel)
    → slice_get w.channels (cell_of end.address) ≡ Some (Some c) → has_end (holding_at w.roles p) end ≡ true
    → IsWord end.address
word_of m w st p end c at holds =
    let t = st.holders in
    elim (now_claims t p (to_use end)
    (subst (λ (h : Holding). has_end h end ≡ true) (holding_now w.roles p) holds)) [
      | inl mine ↦ elim (t.ends p end mine) [
        | inl outside ↦ absurd (outside_is_free t c.opener end outside (ap owner_of at))
        | inr lent ↦ lent.1
      ]
      | inr own ↦ own.1
    ]

-- what a process has enabled is received from by no other process
pub only_receiver : (m : Contents) (w : World) → Stands m w → AllApart w.roles w.channels
    → EnabledIsHeld w.roles w.channels w.links.inputs → (k p q a : ℕ) (c : Channel)
    → slice_get w.channels k ≡ Some (Some c) → c.enabled ≡ Some p → cell_of a ≡ k
    → has_end (holding_at w.roles q) (record { address = a; direction = In }) ≡ true → p ≢ q → ⊥
only_receiver m w st apart held k p q a c here by cell holds differ =
    let x = held.at_channels k c p here by in
    let mine = word_of m w st p (record { address = x.0; direction = In }) c
    (subst (λ n. slice_get w.channels n ≡ Some (Some c)) (sym x.1) here) x.2 in
    let theirs = word_of m w st q (record { address = a; direction = In }) c
    (subst (λ n. slice_get w.channels n ≡ Some (Some c)) (sym cell) here) holds in
    one_holds w apart p q (record { address = x.0; direction = In }) differ x.2
    (subst (λ n. has_end (holding_at w.roles q) (record { address = n; direction = In }) ≡ true)
    (sym (cell_address x.0 a k mine theirs x.1 cell)) holds)

-- one in an alternation does not wait to receive
pub not_receiving : (w : World) → AllAlternate w.tasks w.channels w.links.inputs → (p q : ℕ)
    → HasEnabled w.channels w.links.inputs p → (t : Task) (e : Exchange) → slice_get w.tasks q ≡ Some t
    → t.condition ≡ Receiving e → p ≢ q
not_receiving w alternates p q has t e here receives same =
    let x = alternates p has in
    let one = same_some (slice_get w.tasks p) x.task t x.here
    (subst (λ n. slice_get w.tasks n ≡ Some t) (sym same) here) in
    on x.alternates (ap (λ (y : Task). y.condition) one ∙ receives)
  where
    on : {mode : Mode} {c : Condition} → Alternates mode c → c ≡ Receiving e → ⊥
    on (inl a) is = let z : Ready ≡ Receiving e = sym a.1 ∙ is in cc
    on (inr d) is = elim d.1 [
      | inl ready ↦ let z : Ready ≡ Receiving e = sym ready ∙ is in cc
      | inr waits ↦ let z : Alternating ≡ Receiving e = sym waits ∙ is in cc
    ]

module _ (m : Contents) (w : World) (keeps : WaitsIn w) (st : Stands m w) (apart : AllApart w.roles w.channels)
    (waiters : HaveTheirWaiters w.tasks w.channels) (recorded : AreRecorded w.tasks w.roles w.channels)
    (linked : AreAtLinks w.tasks w.roles w.links) (alternates : AllAlternate w.tasks w.channels w.links.inputs)
    (held : EnabledIsHeld w.roles w.channels w.links.inputs) where
  at_channel : (k : ℕ) (c : Channel) (p q : ℕ) → slice_get w.channels k ≡ Some (Some c) → c.enabled ≡ Some p
      → c.waiting ≡ Some q → IsSending w.tasks q
  at_channel k c p q here by waiting =
      let y = waiters k c q here waiting in
      elim y.waits [
        | inl sends ↦ record { task = y.task; here = y.here; exchange = y.exchange; sends = sends }
        | inr receives ↦ absurd (
            let r = recorded q y.task In y.exchange y.here receives in
            only_receiver m w st apart held k p q y.exchange.channel c here by y.at r.end
            (not_receiving w alternates p q (a_channel k c here by) y.task y.exchange y.here receives))
      ]

  at_link : (k : ℕ) (l : InputLink) (p : ℕ) → slice_get w.links.inputs k ≡ Some l → l.enabled ≡ Some p
      → l.waiting ≡ None
  at_link k l p here by = on l.waiting refl
    where
      on : (o : Option ℕ) → l.waiting ≡ o → o ≡ None
      on None is = refl
      on (Some q) is = absurd (
          let x = keeps.rest.waiters.inputs k l q here is in
          clash q x.task x.exchange x.done x.here x.waits x.on
          (linked q x.task x.exchange x.done x.here x.waits))
        where
          clash : (q : ℕ) (t : Task) (e : Exchange) (done : ℕ) → slice_get w.tasks q ≡ Some t
              → t.condition ≡ OnLink e done → e.channel ≡ input_word k → IsAtLink w.roles w.links q e → ⊥
          clash q t e done there is word (at_input n link at waiting words end) =
              one_holds w apart p q (record { address = input_word k; direction = In }) (λ same.
              let y = alternates p (a_link k l here by) in
              let one = same_some (slice_get w.tasks p) y.task t y.here
              (subst (λ n. slice_get w.tasks n ≡ Some t) (sym same) there) in
              not_on_link y.task.mode e done (subst (λ (c : Condition). Alternates y.task.mode c)
              (ap (λ (z : Task). z.condition) one ∙ is) y.alternates)) (held.at_links k l p here by)
              (subst (λ a. has_end (holding_at w.roles q) (record { address = a; direction = In }) ≡ true) word end)
          clash q t e done there is word (at_output n link at waiting words end) =
              let low = low_output w keeps n link at in omega (arith, low, word, words)

pub who_enabled_holds : WhoEnabledHolds
who_enabled_holds m es format =
    let w = world_after m es in
    let keeps = reached m es in
    let st = all_stand m (format_is_small m format) es in
    let apart = holdings_stay_apart m es format in
    let waiters = channels_have_their_waiters m es in
    let recorded = who_waits_is_recorded m es format in
    let linked = who_waits_on_links_is_recorded m es format in
    let alternates = who_enabled_alternates m es in
    let held = enabled_is_held m es in (
      held,
      record {
        at_channels = at_channel m w keeps st apart waiters recorded linked alternates held;
        at_links = at_link m w keeps st apart waiters recorded linked alternates held;
      },
    )
