-- Who waits on a link is recorded there, and holds that end of it.
use Rattle.std.proofs.Common.{◌≡◌, ◌≢◌, ℕ, zero, suc, ◌+◌, ◌<◌, true, inl, inr}
use Rattle.std.proofs.Common.{List, [], ◌∷◌, ◌++◌, Option, Some, None, refl, sym, ap, ◌∙◌, subst, slice_get, arith}
use Rattle.std.proofs.lemmas.Bool.{cases_eq}
use Rattle.std.specs.Prelude.{slice_set}
use Rattle.small_laws.proofs.Options.{same_some}
use Rattle.module_format.specs.Contents.{Contents}
use Rattle.module_format.specs.declared.rows.Direction.{Direction}
use Rattle.module_format.specs.declared.rows.Direction.TheVariants.{In, Out}
use Rattle.machine_state.specs.declared.holding.End.{End}
use Rattle.machine_state.specs.declared.link.InputLink.{InputLink}
use Rattle.machine_state.specs.declared.link.OutputLink.{OutputLink}
use Rattle.machine_state.specs.declared.process.Channel.{Channel}
use Rattle.machine_state.specs.declared.process.Registers.{Registers}
use Rattle.machine_state.specs.declared.process.Task.{Task}
use Rattle.machine_state.specs.declared.process.Mode.{Mode}
use Rattle.machine_state.specs.declared.process.Mode.TheVariants.{Plain, Starting}
use Rattle.machine_state.specs.declared.process.Condition.{Condition}
use Rattle.machine_state.specs.declared.process.Condition.TheVariants.{Ready, Sending, Receiving, OnLink, Ended}
use Rattle.machine_state.specs.declared.process.Exchange.{Exchange}
use Rattle.machine_state.specs.Holding.{Holding, nothing, has_end}
use Rattle.machine_state.specs.World.{World, Links, Role, held, holding_at, loaded, root_task, input_word, output_word}
use Rattle.machine_state.specs.Apart.{AllApart}
use Rattle.machine_state.specs.Waiting.{WaitsOn}
use Rattle.machine_state.specs.Turn.{Here, at_here}
use Rattle.machine_state.specs.Joins.{closed_task}
use Rattle.machine_state.specs.Happens.{world_after}
use Rattle.machine_state.specs.LinkLaws.{IsAtLink, at_input, at_output, AreAtLinks, WhoWaitsOnLinksIsRecorded}
use Rattle.machine_state.proofs.Lines.{got_set, got_other, got_either, got_within, set_either}
use Rattle.machine_state.proofs.Waking.{ready_was, roused_was}
use Rattle.machine_state.proofs.Waiting.{WaitsIn, reached, low_output}
use Rattle.machine_state.proofs.OthersHold.{HoldOn, others_hold}
use Rattle.machine_state.proofs.ApartLaws.{holdings_stay_apart}
use Rattle.machine_state.proofs.Changes as change
use Rattle.machine_state.proofs.Changes.{Changed, Passed, Onward, Receives, going, with_link, with_sender, HoldsEnd}
use Rattle.machine_state.proofs.Changes.{onward_condition, running_is_ready, of_every_world}

-- ---- an end has one holder

held_role : (roles : List Role) (p : ℕ) (end : End) → has_end (holding_at roles p) end ≡ true
    → (r : Role) × (slice_get roles p ≡ Some r) × (has_end (held r) end ≡ true)
held_role roles p end holds = on (slice_get roles p) refl holds
  where
    on : (o : Option Role) → slice_get roles p ≡ o
        → has_end (elim o as (λ o. Holding) [ None ↦ nothing | Some role ↦ held role ]) end ≡ true
        → (r : Role) × (slice_get roles p ≡ Some r) × (has_end (held r) end ≡ true)
    on None here holds = absurd (cc)
    on (Some r) here holds = (r, here, holds)

pub one_holds : (w : World) → AllApart w.roles w.channels → (p q : ℕ) (end : End) → p ≢ q
    → has_end (holding_at w.roles p) end ≡ true → has_end (holding_at w.roles q) end ≡ true → ⊥
one_holds w apart p q end differ mine theirs =
    let a = held_role w.roles p end mine in
    let b = held_role w.roles q end theirs in
    (apart.processes p q a.0 b.0 differ a.1 b.1).ends end a.2 b.2

-- ---- who waits after a move

-- of some of the links, that of a message records the same process as before
abbrev KeepsWaiter : {A : Type 0} → (A → Option ℕ) → (ℕ → ℕ) → List A → List A → ℕ → Exchange → Type 0
KeepsWaiter {A} waiting word links later p e = (k : ℕ) (l : A) → slice_get links k ≡ Some l → waiting l ≡ Some p
    → e.channel ≡ word k → (new : A) × (slice_get later k ≡ Some new) × (waiting new ≡ Some p)

-- one of them was changed, and has the waiter that it had, or had another one
link_set : {A : Type 0} (waiting : A → Option ℕ) (word : ℕ → ℕ) (links : List A) (n : ℕ) (old new : A) (p : ℕ)
    (e : Exchange) → slice_get links n ≡ Some old
    → (e.channel ≡ word n → waiting old ≡ Some p → waiting new ≡ Some p)
    → KeepsWaiter waiting word links (slice_set links n new) p e
link_set waiting word links n old new p e at same k l here waits there = elim (cases_eq n k) [
  | inl it ↦ (
    new,
    subst (λ i. slice_get (slice_set links n new) i ≡ Some new) it (got_set links n old new at),
    (
        let one = same_some (slice_get links k) old l (subst (λ i. slice_get links i ≡ Some old) it at) here in
        same (there ∙ ap word (sym it)) (ap waiting one ∙ waits)),
  )
  | inr differ ↦ (l, got_other links n k new differ ∙ here, waits)
]

abbrev KeepsInput : Links → Links → ℕ → Exchange → Type 0
KeepsInput links later p e = KeepsWaiter (λ (l : InputLink). l.waiting) input_word links.inputs later.inputs p e

abbrev KeepsOutput : Links → Links → ℕ → Exchange → Type 0
KeepsOutput links later p e = KeepsWaiter (λ (l : OutputLink). l.waiting) output_word links.outputs later.outputs p e

input_set : (w : World) (n : ℕ) (old new : InputLink) (p : ℕ) (e : Exchange) → slice_get w.links.inputs n ≡ Some old
    → (e.channel ≡ input_word n → old.waiting ≡ Some p → new.waiting ≡ Some p)
    → KeepsInput w.links (with_link w n new) p e
input_set w n old new p e at same =
    link_set (λ (l : InputLink). l.waiting) input_word w.links.inputs n old new p e at same

output_set : (w : World) (n : ℕ) (old : OutputLink) (o : Option ℕ) (p : ℕ) (e : Exchange)
    → slice_get w.links.outputs n ≡ Some old
    → (e.channel ≡ output_word n → old.waiting ≡ Some p → o ≡ Some p)
    → KeepsOutput w.links (with_sender w n o) p e
output_set w n old o p e at same =
    link_set (λ (l : OutputLink). l.waiting) output_word w.links.outputs n old (record { waiting = o }) p e at same

same_inputs : (links : Links) (p : ℕ) (e : Exchange) → KeepsInput links links p e
same_inputs links p e k l here waits word = (l, here, waits)

same_outputs : (links : Links) (p : ℕ) (e : Exchange) → KeepsOutput links links p e
same_outputs links p e k l here waits word = (l, here, waits)

still_at : (roles later : List Role) (links after : Links) (p : ℕ) (e : Exchange)
    → holding_at later p ≡ holding_at roles p → KeepsInput links after p e → KeepsOutput links after p e
    → IsAtLink roles links p e → IsAtLink later after p e
still_at roles later links after p e same inputs outputs (at_input k link here waits word end) =
    let new = inputs k link here waits word in
    at_input k new.0 new.1 new.2 word
    (subst (λ (h : Holding). has_end h (record { address = e.channel; direction = In }) ≡ true) (sym same) end)
still_at roles later links after p e same inputs outputs (at_output k link here waits word end) =
    let new = outputs k link here waits word in
    at_output k new.0 new.1 new.2 word
    (subst (λ (h : Holding). has_end h (record { address = e.channel; direction = Out }) ≡ true) (sym same) end)

waits_pushed : (tasks : List Task) (u : Task) (roles : List Role) (links : Links) → u.condition ≡ Ready
    → AreAtLinks tasks roles links → AreAtLinks (tasks ++ u ∷ []) roles links
waits_pushed tasks u roles links ready all p t e done here is = elim (got_either tasks u p t here) [
  | inl before ↦ all p t e done before is
  | inr last ↦ absurd (
      let x : Ready ≡ OnLink e done = sym ready ∙ (ap (λ (y : Task). y.condition) (sym last.1) ∙ is) in cc)
]

-- ---- an instruction of the running process

-- no process waits on a link in this condition
abbrev IsOff : Condition → Type 0
IsOff c = (e : Exchange) (done : ℕ) → c ≡ OnLink e done → ⊥

off_ready : (c : Condition) → c ≡ Ready → IsOff c
off_ready c ready e done is = let x : Ready ≡ OnLink e done = sym ready ∙ is in cc

module _ (h : Here) (w : World) (runs : w.queue.running ≡ Some h.process)
    (there : slice_get w.tasks h.process ≡ Some h.from) (keeps : WaitsIn w)
    (apart : AllApart w.roles w.channels) (all : AreAtLinks w.tasks w.roles w.links) where
  off_from : IsOff h.from.condition
  off_from = off_ready h.from.condition (running_is_ready h w runs there keeps)

  -- the process goes on so, and the links have the waiters that they had, or it is one of them now
  goes : (r : Registers) (mode : Mode) (c : Condition) (rs : List Role) (ls : Links)
      → ((e : Exchange) (done : ℕ) → c ≡ OnLink e done → IsAtLink rs ls h.process e) → HoldOn h w rs
      → ((p : ℕ) (e : Exchange) → h.process ≢ p → IsAtLink w.roles w.links p e
      → KeepsInput w.links ls p e × KeepsOutput w.links ls p e) → AreAtLinks (going h w r mode c) rs ls
  goes r mode c rs ls mine holds links p t e done here is = elim (set_either w.tasks h.process _ p t here) [
    | inl it ↦ subst (λ n. IsAtLink rs ls n e) it.0 (mine e done (ap (λ (x : Task). x.condition) (sym it.1) ∙ is))
    | inr other ↦
        let x = all p t e done other.1 is in
        let kept = links p e other.0 x in
        still_at w.roles rs w.links ls p e (holds.others p t other.1 other.0 (λ over.
        let z : OnLink e done ≡ Ended = sym is ∙ over in cc)) kept.0 kept.1 x
  ]

  -- it does not wait on a link, and the links are as they were
  calms : (r : Registers) (mode : Mode) (c : Condition) (rs : List Role) → IsOff c → HoldOn h w rs
      → AreAtLinks (going h w r mode c) rs w.links
  calms r mode c rs off holds = goes r mode c rs w.links (λ e done is. absurd (off e done is)) holds
      (λ p e differ x. (same_inputs w.links p e, same_outputs w.links p e))

  -- one of the input links was changed, which has the same waiter
  calms_with : (r : Registers) (mode : Mode) → HoldOn h w w.roles → (k : ℕ) (old new : InputLink)
      → slice_get w.links.inputs k ≡ Some old → new.waiting ≡ old.waiting
      → AreAtLinks (going h w r mode h.from.condition) w.roles (with_link w k new)
  calms_with r mode holds k old new at same =
      goes r mode h.from.condition w.roles (with_link w k new) (λ e done is. absurd (off_from e done is)) holds
      (λ p e differ x. (input_set w k old new p e at (λ word waits. same ∙ waits), same_outputs w.links p e))

  -- another process, which does not wait on a link, is ready
  woken : (ts : List Task) (rs : List Role) (ls : Links) → AreAtLinks ts rs ls → (q : ℕ) (u : Task)
      → u.condition ≡ Ready → AreAtLinks (slice_set ts q u) rs ls
  woken ts rs ls before q u ready p t e n here is =
      before p t e n (ready_was (λ c. c ≡ OnLink e n) (λ z. cc) ts q u ready p t here is).1 is

  -- no other process holds the end of a link that it holds
  not_another : (p : ℕ) (e x : Exchange) → h.process ≢ p → e.channel ≡ x.channel → (direction : Direction)
      → has_end (holding_at w.roles h.process) (record { address = e.channel; direction = direction }) ≡ true
      → has_end (holding_at w.roles p) (record { address = x.channel; direction = direction }) ≡ true → ⊥
  not_another p e x differ same direction mine theirs =
      one_holds w apart h.process p (record { address = e.channel; direction = direction }) differ mine
      (subst (λ a. has_end (holding_at w.roles p) (record { address = a; direction = direction }) ≡ true) (sym same)
      theirs)

  -- input and output links have different words
  no_output : (n k : ℕ) (l : OutputLink) (a : ℕ) → slice_get w.links.outputs k ≡ Some l → a ≡ input_word n
      → a ≡ output_word k → ⊥
  no_output n k l a here one two =
      let low = low_output w keeps k l here in omega (arith, low, one, two)

  no_input : (n k : ℕ) (a : ℕ) → n < 4 → a ≡ output_word n → a ≡ input_word k → ⊥
  no_input n k a low one two = omega (arith, low, one, two)

  -- it waits on an input link
  waits_input : (r : Registers) (e : Exchange) (done k : ℕ) (old new : InputLink)
      → slice_get w.links.inputs k ≡ Some old → e.channel ≡ input_word k → HoldsEnd h w e.channel In
      → new.waiting ≡ Some h.process → HoldOn h w w.roles
      → AreAtLinks (going h w r h.from.mode (OnLink e done)) w.roles (with_link w k new)
  waits_input r e done k old new at word asks mine holds =
      goes r h.from.mode (OnLink e done) w.roles (with_link w k new) (λ x n is.
      let same : e ≡ x = cc in
      subst (λ (y : Exchange). IsAtLink w.roles (with_link w k new) h.process y) same
      (at_input k new (got_set w.links.inputs k old new at) mine word asks)) holds (λ p x differ at_link. (
        input_set w k old new p x at (λ is waiting. absurd (clash p x differ is at_link)),
        same_outputs w.links p x,
      ))
    where
      clash : (p : ℕ) (x : Exchange) → h.process ≢ p → x.channel ≡ input_word k → IsAtLink w.roles w.links p x → ⊥
      clash p x differ is (at_input n l here waiting there end) =
          not_another p e x differ (word ∙ sym is) In asks end
      clash p x differ is (at_output n l here waiting there end) = no_output k n l x.channel here is there

  -- it waits on an output link
  waits_output : (r : Registers) (e : Exchange) (k : ℕ) → k < 4 → e.channel ≡ output_word k
      → HoldsEnd h w e.channel Out → HoldOn h w w.roles
      → AreAtLinks (going h w r h.from.mode (OnLink e 0)) w.roles (with_sender w k (Some h.process))
  waits_output r e k low word asks holds =
      let four = keeps.rest.four in
      let old = got_within w.links.outputs k (omega (arith, four, low)) in
      let new : OutputLink = record { waiting = Some h.process } in
      let later = with_sender w k (Some h.process) in
      goes r h.from.mode (OnLink e 0) w.roles later (λ x n is.
      let same : e ≡ x = cc in
      subst (λ (y : Exchange). IsAtLink w.roles later h.process y) same
      (at_output k new (got_set w.links.outputs k old.0 new old.1) refl word asks)) holds (λ p x differ at_link. (
        same_inputs w.links p x,
        output_set w k old.0 (Some h.process) p x old.1 (λ is waiting. absurd (clash p x differ is at_link)),
      ))
    where
      clash : (p : ℕ) (x : Exchange) → h.process ≢ p → x.channel ≡ output_word k → IsAtLink w.roles w.links p x → ⊥
      clash p x differ is (at_input n l here waiting there end) = no_input k n x.channel low is there
      clash p x differ is (at_output n l here waiting there end) =
          not_another p e x differ (word ∙ sym is) Out asks end

  off_onward : (mode : Mode) (c : Condition) → Onward h w mode c → IsOff c
  off_onward = onward_condition IsOff h w off_from (λ e done on. cc) (λ e done on. cc)

  receives : (r : Registers) (e : Exchange) (k : ℕ) (link new : InputLink) (c : Condition)
      → slice_get w.links.inputs k ≡ Some link → e.channel ≡ input_word k → HoldsEnd h w e.channel In
      → HoldOn h w w.roles → Receives h e link c new
      → AreAtLinks (going h w r h.from.mode c) w.roles (with_link w k new)
  receives r e k link new c here word asks holds (change.no_byte none) =
      waits_input r e 0 k link new here word asks refl holds
  receives r e k link new c here word asks holds change.the_last = calms_with r h.from.mode holds k link new here refl
  receives r e k link new c here word asks holds change.one_of_more =
      waits_input r e 1 k link new here word asks refl holds

  changed : (ts : List Task) (rs : List Role) (cs : List (Option Channel)) (ls : Links) → Changed h w ts rs cs ls
      → HoldOn h w rs → AreAtLinks ts rs ls
  changed ts rs cs ls (change.goes_on r mode c x) holds = calms r mode c rs (off_onward mode c x) holds
  changed ts rs cs ls (change.waits_to_receive r e c is asks at none) holds =
      calms r h.from.mode (Receiving e) rs (λ x done on. cc) holds
  changed ts rs cs ls (change.waits_to_send r e c tasks is asks at none roused) holds = λ p t x n here on.
      let before = roused_was (λ c. c ≡ OnLink x n) (λ z. cc) (going h w r h.from.mode (Sending e)) tasks c.enabled
      roused p t here on in
      calms r h.from.mode (Sending e) rs (λ x done on. cc) holds p before.0 x n before.1 before.2
  changed ts rs cs ls (change.meets_sender r e sent c other is asks at waits x) holds =
      woken (going h w r h.from.mode h.from.condition) rs w.links
      (calms r h.from.mode h.from.condition rs off_from holds) other (record x.task { condition = Ready }) refl
  changed ts rs cs ls (change.meets_receiver r e wanted c other is asks at waits x) holds =
      woken (going h w r h.from.mode h.from.condition) rs w.links
      (calms r h.from.mode h.from.condition rs off_from holds) other (record x.task { condition = Ready }) refl
  changed ts rs cs ls (change.receives_outside r e k link new c is asks word here x) holds =
      receives r e k link new c here word asks holds x
  changed ts rs cs ls (change.sends_outside r e k is asks word low) holds = waits_output r e k low word asks holds
  changed ts rs cs ls (change.starts r role j own child cells is here plain awake opening) holds =
      waits_pushed (going h w r Starting h.from.condition) child rs w.links awake
      (calms r Starting h.from.condition rs off_from holds)
  changed ts rs cs ls (change.leaves_join r o roles x some) holds = calms r Plain Ended rs (λ e done on. cc) holds
  changed ts rs cs ls (change.closes_join r o roles x none par t here over) holds =
      woken (going h w r Plain Ended) rs w.links (calms r Plain Ended rs (λ e done on. cc) holds) o
      (closed_task x.join par t) refl
  changed ts rs cs ls (change.enables_a_channel r address c is asks at once) holds =
      calms r _ h.from.condition rs off_from holds
  changed ts rs cs ls (change.enables_a_link r k link is asks here once) holds =
      calms_with r _ holds k link (record link { enabled = Some h.process }) here refl
  changed ts rs cs ls (change.disables_a_channel r mode address c is further at mine) holds =
      calms r mode h.from.condition rs off_from holds
  changed ts rs cs ls (change.disables_a_link r mode k link is further here mine) holds =
      calms_with r mode holds k link (record link { enabled = None }) here refl

-- ---- every event

module _ (m : Contents) (w : World) (keeps : WaitsIn w)
    (apart : AllApart w.roles w.channels) (all : AreAtLinks w.tasks w.roles w.links) where
  -- a process that waited on a link is ready, and the link is free
  frees : (p : ℕ) (u : Task) (ls : Links) → u.condition ≡ Ready
      → ((q : ℕ) (e : Exchange) → p ≢ q → KeepsInput w.links ls q e × KeepsOutput w.links ls q e)
      → AreAtLinks (slice_set w.tasks p u) w.roles ls
  frees p u ls ready links q t e done here is =
      let before = ready_was (λ c. c ≡ OnLink e done) (λ z. cc) w.tasks p u ready q t here is in
      let kept = links q e before.0 in
      still_at w.roles w.roles w.links ls q e refl kept.0 kept.1 (all q t e done before.1 is)

  -- a byte more was taken
  further : (p word : ℕ) (x : WaitsOn w.tasks p word)
      → AreAtLinks (slice_set w.tasks p (record x.task { condition = OnLink x.exchange (x.done + 1) })) w.roles w.links
  further p word x q t e done here is = elim (set_either w.tasks p _ q t here) [
    | inl it ↦
        let z : OnLink x.exchange (x.done + 1) ≡ OnLink e done = sym (ap (λ (y : Task). y.condition) it.1) ∙ is in
        let same : x.exchange ≡ e = cc in
        subst (λ n. IsAtLink w.roles w.links n e) it.0 (subst (λ (y : Exchange). IsAtLink w.roles w.links p y) same
        (all p x.task x.exchange x.done x.here x.waits))
    | inr other ↦ all q t e done other.1 is
  ]

  passed : (ts : List Task) (rs : List Role) (cs : List (Option Channel)) (ls : Links) → Passed m w ts rs cs ls
      → AreAtLinks ts rs ls
  passed ts rs cs ls change.nothing_happens = all
  passed ts rs cs ls (change.it_runs p pick task runs here x) =
      let h = at_here m p task pick in
      changed h w runs here keeps apart all ts rs cs ls x (others_hold h w keeps ts rs cs ls x)
  passed ts rs cs ls (change.fills_last p k link here waiting x) = frees p _ ls refl (λ q e differ. (
    input_set w k link (record link { waiting = None }) q e here
        (λ word waits. absurd (differ (same_some link.waiting p q waiting waits))),
    same_outputs w.links q e,
  ))
  passed ts rs cs ls (change.fills_more p k x) = further p (input_word k) x
  passed ts rs cs ls (change.keeps_byte k byte link tasks here empty roused) = λ p t e done at is.
      let before = roused_was (λ c. c ≡ OnLink e done) (λ z. cc) w.tasks tasks link.enabled roused p t at is in
      still_at w.roles w.roles w.links (with_link w k (record link { kept = Some byte })) p e refl
      (input_set w k link (record link { kept = Some byte }) p e here (λ word waits. waits))
      (same_outputs w.links p e) (all p before.0 e done before.1 before.2)
  passed ts rs cs ls (change.acknowledges p k link here waiting x) = frees p _ ls refl (λ q e differ. (
    same_inputs w.links q e,
    output_set w k link None q e here (λ word waits. absurd (differ (same_some link.waiting p q waiting waits))),
  ))

loaded_at_links : (m : Contents) → AreAtLinks (loaded m).tasks (loaded m).roles (loaded m).links
loaded_at_links m zero t e done here is =
    let same : root_task m ≡ t = cc in
    absurd (let x : Ready ≡ OnLink e done = ap (λ (y : Task). y.condition) same ∙ is in cc)
loaded_at_links m (suc p) t e done here is = absurd (cc)

pub who_waits_on_links_is_recorded : WhoWaitsOnLinksIsRecorded
who_waits_on_links_is_recorded m es format =
    of_every_world m (λ ts rs cs ls. AreAtLinks ts rs ls) (loaded_at_links m)
    (λ es ts rs cs ls all x. passed m (world_after m es) (reached m es) (holdings_stay_apart m es format) all ts rs cs
    ls x) es
