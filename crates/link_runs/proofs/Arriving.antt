-- A byte that is wanted makes a process run, or leaves fewer to come.
use Rattle.std.proofs.Common.{◌≡◌, ◌⊎◌, inl, inr, ℕ, ◌+◌, ◌-◌, ◌<◌, ◌≤◌, Bool, true, false, cond}
use Rattle.std.proofs.Common.{nat_eq}
use Rattle.std.proofs.Common.{is_some, is_none, ◌&&◌, ◌||◌, List, [], ◌∷◌, ◌++◌, length, Option, Some, None, refl}
use Rattle.std.proofs.Common.{sym, ap}
use Rattle.std.proofs.Common.{subst, ◌∙◌, arith, slice_get, slice_set, Err}
use Rattle.std.proofs.lemmas.Bool.{cases_eq}
use Rattle.std.specs.Prelude.{◌%◌, ◌^◌}
use Rattle.module_format.specs.Contents.{Contents}
use Rattle.machine_state.specs.declared.event.Event.{Event}
use Rattle.machine_state.specs.declared.event.Event.TheVariants.{Arrive}
use Rattle.machine_state.specs.declared.fault.Fault.{Fault}
use Rattle.machine_state.specs.declared.link.Link.{Link}
use Rattle.machine_state.specs.declared.link.Link.TheVariants.{Zero, One, Two, Three}
use Rattle.machine_state.specs.declared.link.InputLink.{InputLink}
use Rattle.machine_state.specs.declared.process.Condition.{Condition}
use Rattle.machine_state.specs.declared.process.Condition.TheVariants.{Ready, Sending, Receiving, OnLink, Alternating}
use Rattle.machine_state.specs.declared.process.Condition.TheVariants.{Stopped, Ended}
use Rattle.machine_state.specs.declared.process.Mode.{Mode}
use Rattle.machine_state.specs.declared.process.Mode.TheVariants.{Plain, Enabling, Disabling, Starting}
use Rattle.machine_state.specs.declared.process.Task.{Task}
use Rattle.machine_state.specs.Memory.{place_of, with_byte}
use Rattle.machine_state.specs.Moves.{link_index, with_condition, wake, picked, dispatch, with_input, fill}
use Rattle.machine_state.specs.Moves.{rouse, rouse_task, rouse_enabling}
use Rattle.machine_state.specs.Waiting.{WaitsOn}
use Rattle.machine_state.specs.World.{World, input_word}
use Rattle.machine_state.specs.Happens.{turn, world_after, answered, ignored, taken, kept, busy, arrive_at, arrive_turn}
use Rattle.machine_state.specs.Happens.{event_turn}
use Rattle.machine_state.specs.Turn.{Turn}
use Rattle.machine_state.proofs.Lines.{got_set, got_other, got_within}
use Rattle.machine_state.proofs.Waiting.{filled, links_have_their_waiters}
use Rattle.link_runs.specs.Wanting.{is_running, asks}
use Rattle.link_runs.specs.Awaiting.{needed_by, needed_in, needed_of, keepable, awaited_at, awaited_on, awaited}
use Rattle.link_runs.specs.Awaiting.{ArrivalsComeToAnEnd}

-- ---- the process that is made ready

picked_runs : (running : Option ℕ) (first : ℕ) (rest : List ℕ)
    → is_some (picked 0 (record { running = running; ready = first ∷ rest })).running ≡ true
picked_runs (Some p) first rest = refl
picked_runs None first rest =
    let place = 0 % length (first ∷ rest) in
    let found = got_within (first ∷ rest) place (omega arith) in
    ap is_some found.1

last_first : (ready : List ℕ) (p : ℕ) → (first : ℕ) × (rest : List ℕ) × (ready ++ p ∷ [] ≡ first ∷ rest)
last_first [] p = (p, [], refl)
last_first (first ∷ rest) p = (first, rest ++ p ∷ [], refl)

-- a process that is made ready runs, if none does
woken_runs : (p : ℕ) (w : World) → is_running (dispatch 0 (wake p w)) ≡ true
unfolding dispatch
woken_runs p w =
    let queue = (with_condition p Ready w).queue in
    let front = last_first queue.ready p in
    subst (λ (ready : List ℕ). is_some (picked 0 (record { running = queue.running; ready = ready })).running ≡ true)
    (sym front.2) (picked_runs queue.running front.0 front.1)

-- ---- the bytes that are awaited

-- no link awaits more, and this one fewer
record Falls (before after : World) (k : ℕ) : Type 0 where
  others : (j : ℕ) → awaited_on after j ≤ awaited_on before j
  this : awaited_on after k < awaited_on before k

fewer : (before after : World) (link : Link) → Falls before after (link_index link) → awaited after < awaited before
fewer before after link falls =
    let first = falls.others 0 in
    let second = falls.others 1 in
    let third = falls.others 2 in
    let fourth = falls.others 3 in
    sums (awaited_on before) (awaited_on after) link first second third fourth falls.this
  where
    sums : (b a : ℕ → ℕ) (link : Link) → a 0 ≤ b 0 → a 1 ≤ b 1 → a 2 ≤ b 2 → a 3 ≤ b 3
        → a (link_index link) < b (link_index link) → a 0 + a 1 + a 2 + a 3 < b 0 + b 1 + b 2 + b 3
    sums b a Zero p q r s t = omega (arith, p, q, r, s, t)
    sums b a One p q r s t = omega (arith, p, q, r, s, t)
    sums b a Two p q r s t = omega (arith, p, q, r, s, t)
    sums b a Three p q r s t = omega (arith, p, q, r, s, t)

-- the same after the ready list was asked for the process that runs
dispatched : (before after : World) (k : ℕ) → Falls before after k → Falls before (dispatch 0 after) k
unfolding dispatch
dispatched before after k falls = record { others = falls.others; this = falls.this }

-- ---- a byte for a process that waits

module _ (w : World) (p word : ℕ) (x : WaitsOn w.tasks p word) where
  abbrev later : Task
  later = record x.task { condition = OnLink x.exchange (x.done + 1) }

  needed_now : needed_of w.tasks (Some p) ≡ x.exchange.length - x.done
  needed_now = ap needed_in x.here ∙ ap needed_by x.waits

  needed_later : needed_of (slice_set w.tasks p later) (Some p) ≡ x.exchange.length - (x.done + 1)
  needed_later = ap needed_in (got_set w.tasks p x.task later x.here)

  one_less : needed_of (slice_set w.tasks p later) (Some p) < needed_of w.tasks (Some p)
  one_less = let more = x.more in rw (needed_now, needed_later) (omega (arith, more))

  no_more_needed : (o : Option ℕ) → needed_of (slice_set w.tasks p later) o ≤ needed_of w.tasks o
  no_more_needed None = omega arith
  no_more_needed (Some q) = elim (cases_eq q p) [
    | inl same ↦ subst (λ (n : ℕ). needed_of (slice_set w.tasks p later) (Some n) ≤ needed_of w.tasks (Some n))
        (sym same) (let less = one_less in omega (arith, less))
    | inr differ ↦
        let elsewhere = ap needed_in (got_other w.tasks p q later (λ e. differ (sym e))) in
        omega (arith, elsewhere)
  ]

  no_more_at : (o : Option InputLink) → awaited_at (slice_set w.tasks p later) o ≤ awaited_at w.tasks o
  no_more_at None = omega arith
  no_more_at (Some link) = let less = no_more_needed link.waiting in omega (arith, less)

  fewer_at : (link : InputLink) → link.waiting ≡ Some p
      → awaited_at (slice_set w.tasks p later) (Some link) < awaited_at w.tasks (Some link)
  fewer_at link waits = rw waits (let less = one_less in omega (arith, less))

-- the process takes the byte: it becomes ready, or waits for fewer
module _ (w : World) (k byte p : ℕ) (link : InputLink) (here : slice_get w.links.inputs k ≡ Some link)
    (waits : link.waiting ≡ Some p) (x : WaitsOn w.tasks p (input_word k)) where
  abbrev with_it : World
  with_it = record w {
    memory = with_byte w.memory (place_of ((x.exchange.address + x.done) % 2 ^ 32)) (Some byte);
  }

  changed_task : (condition : Condition) → with_condition p condition with_it
      ≡ record with_it { tasks = slice_set w.tasks p (record x.task { condition = condition }) }
  changed_task condition = ap (λ (o : Option Task). elim o as (λ o. World) [
    | None ↦ with_it
    | Some task ↦ record with_it { tasks = slice_set w.tasks p (record task { condition = condition }) }
  ]) x.here

  falls_there : Falls w (with_condition p (OnLink x.exchange (x.done + 1)) with_it) k
  falls_there = subst (λ (after : World). Falls w after k) (sym (changed_task (OnLink x.exchange (x.done + 1))))
      (record {
        others = λ j. no_more_at w p (input_word k) x (slice_get w.links.inputs j);
        this = subst (λ (o : Option InputLink). awaited_at (slice_set w.tasks p (later w p (input_word k) x)) o
            < awaited_at w.tasks o) (sym here) (fewer_at w p (input_word k) x link waits);
      })

  by_last : (b : Bool) → (is_running (dispatch 0 (cond b (wake p (with_input k (record link { waiting = None })
      with_it))
      (with_condition p (OnLink x.exchange (x.done + 1)) with_it))) ≡ true)
      ⊎ Falls w (dispatch 0 (cond b (wake p (with_input k (record link { waiting = None }) with_it))
      (with_condition p (OnLink x.exchange (x.done + 1)) with_it))) k
  by_last true = inl (woken_runs p (with_input k (record link { waiting = None }) with_it))
  by_last false = inr (dispatched w _ k falls_there)

  taken_closer : (is_running (dispatch 0 (fill p k byte link w)) ≡ true) ⊎ Falls w (dispatch 0 (fill p k byte link w)) k
  taken_closer =
      subst (λ (after : World). (is_running (dispatch 0 after) ≡ true) ⊎ Falls w (dispatch 0 after) k)
      (sym (filled w p (input_word k) k byte link x)) (by_last (nat_eq (x.done + 1) x.exchange.length))

-- ---- a byte that is kept

-- tasks in which everybody waits for as much
abbrev SameNeeds : List Task → List Task → Type 0
SameNeeds before after = (o : Option ℕ) → needed_of after o ≡ needed_of before o

module _ (tasks : List Task) (p : ℕ) (t u : Task) (here : slice_get tasks p ≡ Some t)
    (same : u.condition ≡ t.condition) where
  same_needs : SameNeeds tasks (slice_set tasks p u)
  same_needs None = refl
  same_needs (Some q) = elim (cases_eq q p) [
    | inl is ↦ subst (λ (n : ℕ). needed_of (slice_set tasks p u) (Some n) ≡ needed_of tasks (Some n)) (sym is)
        (ap needed_in (got_set tasks p t u here) ∙ (ap needed_by same ∙ sym (ap needed_in here)))
    | inr differ ↦ ap needed_in (got_other tasks p q u (λ e. differ (sym e)))
  ]

-- somebody runs after this, or everybody waits for as much on the same links
abbrev Rouses : World → World → Type 0
Rouses before after =
    (is_running (dispatch 0 after) ≡ true) ⊎ (SameNeeds before.tasks after.tasks × (after.links ≡ before.links))

stays_so : (w : World) → Rouses w w
stays_so w = inr ((λ o. refl), refl)

enabling_rouses : (p : ℕ) (t : Task) (mode : Mode) (w : World) → slice_get w.tasks p ≡ Some t
    → Rouses w (rouse_enabling p mode w)
enabling_rouses p t (Enabling ready) w here = subst (Rouses w) (sym (ap (λ (o : Option Task). elim o as (λ o. World) [
  | None ↦ w
  | Some task ↦ record w { tasks = slice_set w.tasks p (record task { mode = Enabling true }) }
]) here)) (inr (same_needs w.tasks p t (record t { mode = Enabling true }) here refl, refl))
enabling_rouses p t Plain w here = stays_so w
enabling_rouses p t (Disabling selection) w here = stays_so w
enabling_rouses p t Starting w here = stays_so w

task_rouses : (p : ℕ) (t : Task) (condition : Condition) (w : World) → slice_get w.tasks p ≡ Some t
    → Rouses w (rouse_task p t.mode condition w)
task_rouses p t Alternating w here = inl (woken_runs p w)
task_rouses p t Ready w here = enabling_rouses p t t.mode w here
task_rouses p t (Sending e) w here = enabling_rouses p t t.mode w here
task_rouses p t (Receiving e) w here = enabling_rouses p t t.mode w here
task_rouses p t (OnLink e done) w here = enabling_rouses p t t.mode w here
task_rouses p t Stopped w here = enabling_rouses p t t.mode w here
task_rouses p t Ended w here = enabling_rouses p t t.mode w here

abbrev roused : ℕ → World → Option Task → World
roused p w None = w
roused p w (Some task) = rouse_task p task.mode task.condition w

rouse_is : (p : ℕ) (o : Option Task) (w : World) → slice_get w.tasks p ≡ o → rouse (Some p) w ≡ roused p w o
rouse_is p o w here = ap (λ (o : Option Task). elim o as (λ o. World)
    [ None ↦ w | Some task ↦ rouse_task p task.mode task.condition w ]) here ∙ by_cases o
  where
    by_cases : (o : Option Task) → elim o as (λ o. World)
        [ None ↦ w | Some task ↦ rouse_task p task.mode task.condition w ] ≡ roused p w o
    by_cases None = refl
    by_cases (Some task) = refl

rouses_found : (p : ℕ) (o : Option Task) (w : World) → slice_get w.tasks p ≡ o → Rouses w (rouse (Some p) w)
rouses_found p None w here = subst (Rouses w) (sym (rouse_is p None w here)) (stays_so w)
rouses_found p (Some t) w here = subst (Rouses w) (sym (rouse_is p (Some t) w here)) (task_rouses p t t.condition w
    here)

rouses : (o : Option ℕ) (w : World) → Rouses w (rouse o w)
rouses None w = stays_so w
rouses (Some p) w = rouses_found p (slice_get w.tasks p) w refl

module _ (w : World) (k byte : ℕ) (link : InputLink) (here : slice_get w.links.inputs k ≡ Some link)
    (nobody : link.waiting ≡ None) (empty : link.kept ≡ None) where
  abbrev keeping : InputLink
  keeping = record link { kept = Some byte }

  abbrev holding : World
  holding = with_input k keeping w

  at_same : (tasks : List Task) → SameNeeds w.tasks tasks → (o : Option InputLink)
      → awaited_at tasks o ≡ awaited_at w.tasks o
  at_same tasks same None = refl
  at_same tasks same (Some l) = ap (λ (n : ℕ). n + keepable l.kept) (same l.waiting)

  at_this : (tasks : List Task)
      → awaited_at tasks (slice_get (slice_set w.links.inputs k keeping) k)
      < awaited_at w.tasks (slice_get w.links.inputs k)
  at_this tasks =
      let after = ap (awaited_at tasks) (got_set w.links.inputs k link keeping here) in
      let before = ap (awaited_at w.tasks) here in
      let none = ap (needed_of tasks) nobody in
      let none_before = ap (needed_of w.tasks) nobody in
      let one = ap keepable empty in
      omega (arith, after, before, none, none_before, one)

  falls_kept : (after : World) → SameNeeds w.tasks after.tasks → after.links ≡ holding.links → Falls w after k
  falls_kept after same links = record {
    others = λ j. rw links (elim (cases_eq j k) [
      | inl is ↦ subst (λ (n : ℕ). awaited_at after.tasks (slice_get (slice_set w.links.inputs k keeping) n)
          ≤ awaited_at w.tasks (slice_get w.links.inputs n)) (sym is)
          (let less = at_this after.tasks in omega (arith, less))
      | inr differ ↦
          let elsewhere = ap (awaited_at after.tasks) (got_other w.links.inputs k j keeping (λ e. differ (sym e))) in
          let equal = at_same after.tasks same (slice_get w.links.inputs j) in
          omega (arith, elsewhere, equal)
    ]);
    this = rw links (at_this after.tasks);
  }

  kept_closer : (is_running (dispatch 0 (rouse link.enabled holding)) ≡ true)
      ⊎ Falls w (dispatch 0 (rouse link.enabled holding)) k
  kept_closer = elim (rouses link.enabled holding) [
    | inl runs ↦ inl runs
    | inr same ↦ inr (dispatched w (rouse link.enabled holding) k
        (falls_kept (rouse link.enabled holding) same.0 same.1))
  ]

-- ---- a byte that is wanted

not_kept : (kept : Option ℕ) (b : Bool) → (is_none kept && b) ≡ true → kept ≡ None
not_kept None b is = refl
not_kept (Some byte) b is = absurd (cc)

-- a process runs, or fewer bytes can come
abbrev Closer : World → ℕ → World → Type 0
Closer w k after = (is_running after ≡ true) ⊎ Falls w after k

taken_is : (w : World) (k byte : ℕ) (link : InputLink) (p : ℕ) → link.waiting ≡ Some p
    → (arrive_at k byte link w).world ≡ dispatch 0 (fill p k byte link w)
taken_is w k byte link p waits = ap (λ (o : Option ℕ). (elim o as (λ o. Turn) [
  | Some p ↦ answered taken (dispatch 0 (fill p k byte link w))
  | None ↦ elim link.kept as (λ o. Turn) [
    | Some before ↦ answered busy w
    | None ↦ answered kept (dispatch 0 (rouse link.enabled (with_input k (record link { kept = Some byte }) w)))
  ]
]).world) waits

kept_is : (w : World) (k byte : ℕ) (link : InputLink) → link.waiting ≡ None → link.kept ≡ None
    → (arrive_at k byte link w).world
    ≡ dispatch 0 (rouse link.enabled (with_input k (record link { kept = Some byte }) w))
kept_is w k byte link nobody empty = ap (λ (o : Option ℕ). (elim o as (λ o. Turn) [
  | Some p ↦ answered taken (dispatch 0 (fill p k byte link w))
  | None ↦ elim link.kept as (λ o. Turn) [
    | Some before ↦ answered busy w
    | None ↦ answered kept (dispatch 0 (rouse link.enabled (with_input k (record link { kept = Some byte }) w)))
  ]
]).world) nobody ∙ ap (λ (o : Option ℕ). (elim o as (λ o. Turn) [
  | Some before ↦ answered busy w
  | None ↦ answered kept (dispatch 0 (rouse link.enabled (with_input k (record link { kept = Some byte }) w)))
]).world) empty

arrives_closer : (w : World) (k byte : ℕ) (link : InputLink) (o : Option ℕ) → slice_get w.links.inputs k ≡ Some link
    → link.waiting ≡ o → link.kept ≡ None
    → ((p : ℕ) → link.waiting ≡ Some p → WaitsOn w.tasks p (input_word k))
    → (is_running (arrive_at k byte link w).world ≡ true) ⊎ Falls w (arrive_at k byte link w).world k
arrives_closer w k byte link (Some p) here waiting empty waits =
    subst (Closer w k) (sym (taken_is w k byte link p waiting))
    (taken_closer w k byte p link here waiting (waits p waiting))
arrives_closer w k byte link None here waiting empty waits =
    subst (Closer w k) (sym (kept_is w k byte link waiting empty)) (kept_closer w k byte link here waiting empty)

module _ (m : Contents) (es : List Event) (link : Link) (byte : ℕ) (w : World) where
  found_closer : (o : Option InputLink) → slice_get w.links.inputs (link_index link) ≡ o
      → (elim o as (λ o. Bool) [ None ↦ false | Some input ↦ asks input ]) ≡ true
      → ((l : InputLink) (p : ℕ) → slice_get w.links.inputs (link_index link) ≡ Some l → l.waiting ≡ Some p
      → WaitsOn w.tasks p (input_word (link_index link)))
      → (is_running (arrive_turn (link_index link) byte w).world ≡ true)
      ⊎ Falls w (arrive_turn (link_index link) byte w).world (link_index link)
  found_closer None here wanted waits = absurd (cc)
  found_closer (Some input) here wanted waits =
      subst (λ (t : Turn). Closer w (link_index link) t.world) (sym (ap (λ (o : Option InputLink). elim o as (λ o. Turn)
      [ None ↦ answered ignored w | Some link_there ↦ arrive_at (link_index link) byte link_there w ]) here))
      (arrives_closer w (link_index link) byte input input.waiting here refl
      (not_kept input.kept (is_some input.waiting || is_some input.enabled) wanted)
      (λ p waiting. waits input p here waiting))

  arrive_is : w.fault ≡ None → turn m w (Arrive link byte) ≡ arrive_turn (link_index link) byte w
  unfolding turn
  arrive_is none = ap (λ (o : Option Fault). elim o as (λ o. Turn)
      [ None ↦ event_turn m (Arrive link byte) w | Some f ↦ record { world = w; answer = Err f } ]) none

pub closer : ArrivalsComeToAnEnd
closer m es link byte no_fault wanted =
    let w = world_after m es in
    let waiters = links_have_their_waiters m es in
    subst (λ (t : Turn). (is_running t.world ≡ true) ⊎ (awaited t.world < awaited w))
    (sym (arrive_is m es link byte w no_fault))
    (elim (found_closer m es link byte w (slice_get w.links.inputs (link_index link)) refl wanted
    (λ l p here waiting. waiters.inputs (link_index link) l p here waiting)) [
      | inl runs ↦ inl runs
      | inr falls ↦ inr (fewer w (arrive_turn (link_index link) byte w).world link falls)
    ])

pub ruleset arrivals_end = (closer)
