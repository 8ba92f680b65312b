-- A process that has a join open is starting branches or has ended, and no other one is in the mode of a start.
use Rattle.std.proofs.Common.{◌≡◌, ℕ, zero, suc, ◌+◌, Bool, true, ◌⊎◌, inl, inr, List, [], ◌∷◌, ◌++◌, length, Option}
use Rattle.std.proofs.Common.{Some, None, is_some, refl, sym, ap, ◌∙◌, subst, slice_get}
use Rattle.std.proofs.lemmas.Bool.{cases_eq}
use Rattle.std.proofs.lemmas.List.{length-set}
use Rattle.std.specs.Prelude.{slice_set}
use Rattle.module_format.specs.Contents.{Contents}
use Rattle.machine_state.specs.declared.event.Event.{Event}
use Rattle.machine_state.specs.declared.process.Registers.{Registers}
use Rattle.machine_state.specs.declared.process.Task.{Task}
use Rattle.machine_state.specs.declared.process.Channel.{Channel}
use Rattle.machine_state.specs.declared.process.Mode.{Mode}
use Rattle.machine_state.specs.declared.process.Mode.TheVariants.{Plain, Enabling, Disabling, Starting}
use Rattle.machine_state.specs.declared.process.Condition.{Condition}
use Rattle.machine_state.specs.declared.process.Condition.TheVariants.{Ready, Sending, Receiving, OnLink, Alternating}
use Rattle.machine_state.specs.declared.process.Condition.TheVariants.{Ended}
use Rattle.machine_state.specs.declared.process.Exchange.{Exchange}
use Rattle.machine_state.specs.Holding.{nothing}
use Rattle.machine_state.specs.World.{World, Links, Role, Join, loaded, root_task, input_word, output_word}
use Rattle.machine_state.specs.Turn.{Here, at_here}
use Rattle.machine_state.specs.Alternations.{ready_or}
use Rattle.machine_state.specs.Joins.{closed_task}
use Rattle.machine_state.specs.Happens.{world_after}
use Rattle.machine_state.specs.EnabledLaws.{Enables, Disables}
use Rattle.machine_state.specs.Waiting.{IsOver, IsStarting, HasOpened, OpenersAreStarting, WaitsOn}
use Rattle.machine_state.proofs.Lines.{got_other, got_either, set_either}
use Rattle.machine_state.proofs.Roles.{field_at, field_set, field_other, field_pushed, field_last, field_past, told_of}
use Rattle.machine_state.specs.Roles.{opened_in}
use Rattle.machine_state.proofs.MovesLeaveAlone.{with_opened, without}
use Rattle.machine_state.proofs.Waiting.{WaitsIn, reached, has_task}
use Rattle.machine_state.proofs.Changes as change
use Rattle.machine_state.proofs.Changes.{Changed, Passed, Onward, GivesBack, Partner, Roused, going, running_is_ready}
use Rattle.machine_state.proofs.Changes.{of_every_world}

-- what the mode and the condition of a process say of the join that it has open
abbrev Suits : Mode → Condition → Option Join → Type 0
Suits mode c None = mode ≡ Starting → ⊥
Suits mode c (Some j) = ((mode ≡ Starting) × (c ≡ Ready)) ⊎ (c ≡ Ended)

abbrev AllSuit : List Task → List Role → Type 0
AllSuit tasks roles =
    (p : ℕ) (t : Task) → slice_get tasks p ≡ Some t → Suits t.mode t.condition (opened_in roles p)

-- one that neither starts branches nor has ended has no join open, and goes on in any mode but that of a start
beside : (mode : Mode) (c : Condition) (later : Mode) (d : Condition) → (mode ≡ Starting → ⊥) → (c ≡ Ended → ⊥)
    → (later ≡ Starting → ⊥) → (o : Option Join) → Suits mode c o → Suits later d o
beside mode c later d no_start no_end goes None suits = goes
beside mode c later d no_start no_end goes (Some j) (inl starts) = absurd (no_start starts.0)
beside mode c later d no_start no_end goes (Some j) (inr over) = absurd (no_end over)

-- one that becomes ready, in the mode that it had
becomes_ready : (mode : Mode) (c : Condition) → (c ≡ Ended → ⊥) → (o : Option Join) → Suits mode c o
    → Suits mode Ready o
becomes_ready mode c no_end None suits = suits
becomes_ready mode c no_end (Some j) (inl starts) = inl (starts.0, refl)
becomes_ready mode c no_end (Some j) (inr over) = absurd (no_end over)

-- ---- a task is changed

suit_set : (tasks : List Task) (roles : List Role) (q : ℕ) (u : Task) → Suits u.mode u.condition (opened_in roles q)
    → AllSuit tasks roles → AllSuit (slice_set tasks q u) roles
suit_set tasks roles q u suits all p t here = elim (set_either tasks q u p t here) [
  | inl it ↦ subst (λ n. Suits t.mode t.condition (opened_in roles n)) it.0
      (subst (λ (x : Task). Suits x.mode x.condition (opened_in roles q)) (sym it.1) suits)
  | inr other ↦ all p t other.1
]

-- it becomes ready
suit_ready : (tasks : List Task) (roles : List Role) (q : ℕ) (t : Task) → slice_get tasks q ≡ Some t
    → (t.condition ≡ Ended → ⊥) → AllSuit tasks roles
    → AllSuit (slice_set tasks q (record t { condition = Ready })) roles
suit_ready tasks roles q t here no_end all = suit_set tasks roles q (record t { condition = Ready })
    (becomes_ready t.mode t.condition no_end (opened_in roles q) (all q t here)) all

suit_roused : (tasks later : List Task) (roles : List Role) (o : Option ℕ) → Roused tasks o later
    → AllSuit tasks roles → AllSuit later roles
suit_roused tasks later roles o (change.nobody deaf) all = all
suit_roused tasks later roles o (change.who_enables q t here enables awake) all =
    suit_set tasks roles q (record t { mode = Enabling true })
    (on (opened_in roles q) (all q t here)) all
  where
    on : (o : Option Join) → Suits t.mode t.condition o → Suits (Enabling true) t.condition o
    on None suits = λ e. cc
    on (Some j) (inl starts) = absurd (let x : Enabling enables.0 ≡ Starting = sym enables.1 ∙ starts.0 in cc)
    on (Some j) (inr over) = inr over
suit_roused tasks later roles o (change.who_waits q t here waits) all =
    suit_ready tasks roles q t here (λ over. let x : Alternating ≡ Ended = sym waits ∙ over in cc) all

-- ---- a role is changed

suit_role : (tasks : List Task) (roles : List Role) (o : ℕ) (r new : Role) → slice_get roles o ≡ Some r
    → ((t : Task) → slice_get tasks o ≡ Some t → Suits t.mode t.condition r.opened
    → Suits t.mode t.condition new.opened) → AllSuit tasks roles → AllSuit tasks (slice_set roles o new)
suit_role tasks roles o r new here keeps all p t at = elim (cases_eq o p) [
  | inl e ↦
      let there = subst (λ n. slice_get tasks n ≡ Some t) (sym e) at in
      subst (λ n. Suits t.mode t.condition (opened_in (slice_set roles o new) n)) e
      (subst (λ (x : Option Join). Suits t.mode t.condition x)
      (sym (field_set (λ (x : Role). x.opened) None roles o r new here)) (keeps t there
      (subst (λ (x : Option Join). Suits t.mode t.condition x) (field_at (λ (x : Role). x.opened) None roles o r here)
      (all o t there))))
  | inr differ ↦ subst (λ (x : Option Join). Suits t.mode t.condition x)
      (sym (field_other (λ (x : Role). x.opened) None roles o new p differ)) (all p t at)
]

-- one more process, which has nothing open
suit_push : (tasks : List Task) (roles : List Role) (u : Task) (new : Role) → length roles ≡ length tasks
    → u.mode ≡ Plain → new.opened ≡ None → AllSuit tasks roles → AllSuit (tasks ++ u ∷ []) (roles ++ new ∷ [])
suit_push tasks roles u new size plain none all p t here = elim (got_either tasks u p t here) [
  | inl before ↦ elim (cases_eq (length roles) p) [
    | inl e ↦ subst (λ n. Suits t.mode t.condition (opened_in (roles ++ new ∷ []) n)) e
        (subst (λ (x : Option Join). Suits t.mode t.condition x)
        (sym (field_last (λ (x : Role). x.opened) None roles new ∙ none))
        (subst (λ (x : Option Join). Suits t.mode t.condition x) (field_past (λ (x : Role). x.opened) None roles)
        (subst (λ n. Suits t.mode t.condition (opened_in roles n)) (sym e) (all p t before))))
    | inr differ ↦ subst (λ (x : Option Join). Suits t.mode t.condition x)
        (sym (field_pushed (λ (x : Role). x.opened) None roles new p differ)) (all p t before)
  ]
  | inr last ↦ subst (λ n. Suits t.mode t.condition (opened_in (roles ++ new ∷ []) n)) (size ∙ sym last.0)
      (subst (λ (x : Option Join). Suits t.mode t.condition x)
      (sym (field_last (λ (x : Role). x.opened) None roles new ∙ none)) (λ starting.
      let x : Plain ≡ Starting = sym plain ∙ (ap (λ (y : Task). y.mode) (sym last.1) ∙ starting) in cc))
]

-- both a task and its role are changed
suit_both : (tasks : List Task) (roles : List Role) (q : ℕ) (u : Task) (r new : Role) → slice_get roles q ≡ Some r
    → Suits u.mode u.condition new.opened → AllSuit tasks roles → AllSuit (slice_set tasks q u) (slice_set roles q new)
suit_both tasks roles q u r new here suits all p t at = elim (set_either tasks q u p t at) [
  | inl it ↦ subst (λ n. Suits t.mode t.condition (opened_in (slice_set roles q new) n)) it.0
      (subst (λ (x : Option Join). Suits t.mode t.condition x)
      (sym (field_set (λ (x : Role). x.opened) None roles q r new here))
      (subst (λ (x : Task). Suits x.mode x.condition new.opened) (sym it.1) suits))
  | inr other ↦ subst (λ (x : Option Join). Suits t.mode t.condition x)
      (sym (field_other (λ (x : Role). x.opened) None roles q new p other.0)) (all p t other.1)
]

-- ---- an instruction of the running process

module _ (h : Here) (w : World) (runs : w.queue.running ≡ Some h.process)
    (there : slice_get w.tasks h.process ≡ Some h.from) (keeps : WaitsIn w) (all : AllSuit w.tasks w.roles) where
  ready : h.from.condition ≡ Ready
  ready = running_is_ready h w runs there keeps

  -- the process goes on so, whatever join it has open
  goes : (r : Registers) (mode : Mode) (c : Condition)
      → ((o : Option Join) → Suits h.from.mode h.from.condition o → Suits mode c o)
      → AllSuit (going h w r mode c) w.roles
  goes r mode c kept = suit_set w.tasks w.roles h.process (record { registers = r; mode = mode; condition = c })
      (kept (opened_in w.roles h.process) (all h.process h.from there)) all

  -- it was in no mode of a start, and is in none
  still_beside : (h.from.mode ≡ Starting → ⊥) → (mode : Mode) (c : Condition) → (mode ≡ Starting → ⊥)
      → (o : Option Join) → Suits h.from.mode h.from.condition o → Suits mode c o
  still_beside no_start mode c goes o suits = beside h.from.mode h.from.condition mode c no_start
      (λ over. let x : Ready ≡ Ended = sym ready ∙ over in cc) goes o suits

  plain : h.from.mode ≡ Plain → h.from.mode ≡ Starting → ⊥
  plain is starting = let x : Plain ≡ Starting = sym is ∙ starting in cc

  enabling : Enables h.from.mode → h.from.mode ≡ Starting → ⊥
  enabling is starting = let x : Enabling is.0 ≡ Starting = sym is.1 ∙ starting in cc

  disabling : (mode : Mode) → Disables mode → mode ≡ Starting → ⊥
  disabling mode is starting = let x : Disabling is.0 ≡ Starting = sym is.1 ∙ starting in cc

  still_enables : (is : Enables h.from.mode) (b : Bool) → ready_or h.from.mode b ≡ Starting → ⊥
  still_enables is b starting =
      let x : ready_or (Enabling is.0) b ≡ Starting =
      subst (λ (mode : Mode). ready_or mode b ≡ Starting) is.1 starting in cc

  waits : h.from.mode ≡ Plain → (r : Registers) (c : Condition) → AllSuit (going h w r h.from.mode c) w.roles
  waits is r c = goes r h.from.mode c (still_beside (plain is) h.from.mode c (plain is))

  onward : (mode : Mode) (c : Condition) → Onward h w mode c → (o : Option Join)
      → Suits h.from.mode h.from.condition o → Suits mode c o
  onward mode c change.as_before o suits = suits
  onward mode c (change.stops is) o suits = still_beside (plain is) mode c (plain is) o suits
  onward mode c (change.begins is) o suits = still_beside (plain is) mode c (λ e. cc) o suits
  onward mode c (change.enables is b) o suits = still_beside (enabling is) mode c (still_enables is b) o suits
  onward mode c (change.is_ready is) o suits = still_beside (enabling is) mode c (λ e. cc) o suits
  onward mode c (change.alternates is unready) o suits = still_beside (enabling is) mode c (λ e. cc) o suits
  onward mode c (change.disables is later further) o suits =
      still_beside (disabling h.from.mode is) mode c (disabling mode further) o suits
  onward mode c (change.ends_alternation is none) o suits =
      still_beside (disabling h.from.mode is) mode c (λ e. cc) o suits

  -- another process waits, and becomes ready
  meets : (r : Registers) (other : ℕ) (c : Condition) (x : Partner h w other c) → (c ≡ Ended → ⊥)
      → AllSuit (slice_set (going h w r h.from.mode h.from.condition) other (record x.task { condition = Ready }))
      w.roles
  meets r other c x no_end = suit_ready (going h w r h.from.mode h.from.condition) w.roles other x.task
      (got_other w.tasks h.process other _ x.differ ∙ x.here) (λ over. no_end (sym x.waits ∙ over))
      (goes r h.from.mode h.from.condition (λ o suits. suits))

  -- it has ended, and has given back what it held
  over : (r : Registers) → AllSuit (going h w r Plain Ended) w.roles
  over r = goes r Plain Ended ends
    where
      ends : (o : Option Join) → Suits h.from.mode h.from.condition o → Suits Plain Ended o
      ends None suits = λ e. cc
      ends (Some j) suits = inr refl

  gives_back : (r : Registers) (o : ℕ) (roles : List Role) → GivesBack h w o roles
      → AllSuit (going h w r Plain Ended) roles
  gives_back r o roles change.itself = over r
  gives_back r o roles (change.a_branch opener role here by none differ) =
      suit_role (going h w r Plain Ended) w.roles h.process role (record role { own = nothing }) here
      (λ t at suits. suits) (over r)

  changed : (ts : List Task) (rs : List Role) (cs : List (Option Channel)) (ls : Links) → Changed h w ts rs cs ls
      → AllSuit ts rs
  changed ts rs cs ls (change.goes_on r mode c x) = goes r mode c (onward mode c x)
  changed ts rs cs ls (change.waits_to_receive r e c is holds at none) = waits is r (Receiving e)
  changed ts rs cs ls (change.waits_to_send r e c tasks is holds at none roused) =
      suit_roused (going h w r h.from.mode (Sending e)) tasks w.roles c.enabled roused (waits is r (Sending e))
  changed ts rs cs ls (change.meets_sender r e sent c other is holds at partner x) =
      meets r other (Sending sent) x (λ e. cc)
  changed ts rs cs ls (change.meets_receiver r e wanted c other is holds at partner x) =
      meets r other (Receiving wanted) x (λ e. cc)
  changed ts rs cs ls (change.receives_outside r e k link new c is holds word here receives) = waits is r c
  changed ts rs cs ls (change.sends_outside r e k is holds word low) = waits is r (OnLink e 0)
  changed ts rs cs ls (change.starts r role j own child cells outside here is awake opening) =
      suit_push (going h w r Starting h.from.condition) (slice_set w.roles h.process (with_opened (Some j) role)) child
      (record { own = own; opener = Some h.process; opened = None })
      (length-set w.roles h.process _ ∙ (keeps.rest.size ∙ sym (length-set w.tasks h.process _))) is refl
      (suit_both w.tasks w.roles h.process (record { registers = r; mode = Starting; condition = h.from.condition })
      role (with_opened (Some j) role) here (inl (refl, ready)) all)
  changed ts rs cs ls (change.leaves_join r o roles x some) =
      suit_role (going h w r Plain Ended) roles o x.role (with_opened (Some (without h.process x.join)) x.role) x.here
      (λ t at suits. subst (λ (x : Option Join). Suits t.mode t.condition x) x.is_open suits)
      (gives_back r o roles x.back)
  changed ts rs cs ls (change.closes_join r o roles x none par t here over) =
      suit_both (going h w r Plain Ended) roles o (closed_task x.join par t) x.role (with_opened None x.role) x.here
      (λ e. cc) (gives_back r o roles x.back)
  changed ts rs cs ls (change.enables_a_channel r address c is holds at once) =
      goes r _ h.from.condition (onward _ h.from.condition (change.enables is (is_some c.waiting)))
  changed ts rs cs ls (change.enables_a_link r k link is holds here once) =
      goes r _ h.from.condition (onward _ h.from.condition (change.enables is (is_some link.kept)))
  changed ts rs cs ls (change.disables_a_channel r mode address c is further at mine) =
      goes r mode h.from.condition (onward mode h.from.condition (change.disables is mode further))
  changed ts rs cs ls (change.disables_a_link r mode k link is further here mine) =
      goes r mode h.from.condition (onward mode h.from.condition (change.disables is mode further))

-- ---- every event

-- who waits on a link neither starts branches nor has ended
further : (mode : Mode) (c : Condition) (e : Exchange) (done : ℕ) → c ≡ OnLink e done → (d : Condition)
    → (o : Option Join) → Suits mode c o → Suits mode d o
further mode c e done is d None suits = suits
further mode c e done is d (Some j) (inl starts) = absurd (let x : OnLink e done ≡ Ready = sym is ∙ starts.1 in cc)
further mode c e done is d (Some j) (inr over) = absurd (let x : OnLink e done ≡ Ended = sym is ∙ over in cc)

module _ (m : Contents) (w : World) (keeps : WaitsIn w) (all : AllSuit w.tasks w.roles) where
  -- who waits on a link waits for another byte, or becomes ready
  goes_further : (p word : ℕ) (x : WaitsOn w.tasks p word) (c : Condition)
      → AllSuit (slice_set w.tasks p (record x.task { condition = c })) w.roles
  goes_further p word x c = suit_set w.tasks w.roles p (record x.task { condition = c })
      (further x.task.mode x.task.condition x.exchange x.done x.waits c (opened_in w.roles p) (all p x.task x.here)) all

  passed : (ts : List Task) (rs : List Role) (cs : List (Option Channel)) (ls : Links) → Passed m w ts rs cs ls
      → AllSuit ts rs
  passed ts rs cs ls change.nothing_happens = all
  passed ts rs cs ls (change.it_runs p pick task runs here x) =
      changed (at_here m p task pick) w runs here keeps all ts rs cs ls x
  passed ts rs cs ls (change.fills_last p k link here waiting x) = goes_further p (input_word k) x Ready
  passed ts rs cs ls (change.fills_more p k x) = goes_further p (input_word k) x (OnLink x.exchange (x.done + 1))
  passed ts rs cs ls (change.keeps_byte k byte link tasks here empty roused) =
      suit_roused w.tasks tasks w.roles link.enabled roused all
  passed ts rs cs ls (change.acknowledges p k link here waiting x) = goes_further p (output_word k) x Ready

loaded_suits : (m : Contents) → AllSuit (loaded m).tasks (loaded m).roles
loaded_suits m zero t here =
    let same : root_task m ≡ t = cc in
    subst (λ (x : Task). Suits x.mode x.condition None) same (λ e. cc)
loaded_suits m (suc p) t here = absurd (cc)

all_suit : (m : Contents) (es : List Event) → AllSuit (world_after m es).tasks (world_after m es).roles
all_suit m es = of_every_world m (λ ts rs cs ls. AllSuit ts rs) (loaded_suits m)
    (λ es ts rs cs ls all x. passed m (world_after m es) (reached m es) all ts rs cs ls x) es

pub openers_are_starting : OpenersAreStarting
openers_are_starting m es =
    let w = world_after m es in
    let all = all_suit m es in
    record {
      openers = λ p x.
          let t = has_task w p x.role x.here (reached m es).rest.size in
          opens w.tasks x.join p t.0 t.1 (subst (λ (o : Option Join). Suits t.0.mode t.0.condition o)
          (field_at (λ (r : Role). r.opened) None w.roles p x.role x.here ∙ x.is_open) (all p t.0 t.1));
      starters = λ p t here starting. starts w.roles p t.mode t.condition starting (opened_in w.roles p) refl
          (all p t here);
    }
  where
    opens : (tasks : List Task) (j : Join) (p : ℕ) (t : Task) → slice_get tasks p ≡ Some t
        → Suits t.mode t.condition (Some j) → IsStarting tasks p ⊎ IsOver tasks p
    opens tasks j p t here (inl starts) =
        inl (record { task = t; here = here; starting = starts.0; ready = starts.1 })
    opens tasks j p t here (inr over) = inr (record { task = t; here = here; over = over })

    starts : (roles : List Role) (p : ℕ) (mode : Mode) (c : Condition) → mode ≡ Starting → (o : Option Join)
        → opened_in roles p ≡ o → Suits mode c o → HasOpened roles p
    starts roles p mode c starting None is suits = absurd (suits starting)
    starts roles p mode c starting (Some j) is suits =
        let r = told_of (λ (x : Role). x.opened) roles p j is in
        record { role = r.0; here = r.1; join = j; is_open = r.2 }
