-- What is so of every process, whether it runs or not, in every world.
use Rattle.std.proofs.Common.{◌≡◌, ◌≢◌, ℕ, zero, suc, ◌+◌, ◌-◌, ◌<◌, ◌≤◌, Bool, true, false, ◌⊎◌, inl, inr, List}
use Rattle.std.proofs.Common.{Option, Some, None, refl, sym, ap, ◌∙◌, subst, slice_get, arith}
use Rattle.std.proofs.lemmas.Bool.{lt-ltb, and_from}
use Rattle.std.specs.Prelude.{not, slice_set}
use Rattle.machine_state.specs.declared.process.Condition.{Condition}
use Rattle.machine_state.specs.declared.process.Condition.TheVariants.{Ready, Alternating}
use Rattle.machine_state.specs.declared.process.Exchange.{Exchange}
use Rattle.machine_state.specs.declared.process.Mode.{Mode}
use Rattle.machine_state.specs.declared.process.Mode.TheVariants.{Enabling, Disabling, Starting}
use Rattle.machine_state.specs.declared.process.Task.{Task}
use Rattle.machine_state.specs.EnabledLaws.{Enables, Disables}
use Rattle.machine_state.specs.Holding.{Holding, may_write, may_read}
use Rattle.machine_state.specs.LocalStep.{places_meet}
use Rattle.machine_state.specs.Memory.{Memory, place_of, local_address, scheduling_word, byte_at}
use Rattle.machine_state.specs.Moves.{on_task, wake, rouse}
use Rattle.machine_state.specs.Site.{Local}
use Rattle.machine_state.specs.World.{World, Role, holding_at}
use Rattle.machine_state.proofs.Changes.{Roused, rouses}
use Rattle.machine_state.proofs.Changes as change
use Rattle.machine_state.proofs.Lines.{set_either}
use Rattle.machine_state.proofs.MovesLeaveAlone.{rouse_only}
use Rattle.machine_state.proofs.Writing.{all_at}
use Rattle.world_laws.specs.Parked.{IsLive, IsInside, IsSchedulingPlace, HasWords, HasSelection, IsAtRest, message_of}
use Rattle.world_laws.specs.Parked.{IsReceiving, on_channel, on_link, InBuffer, HasBuffer}
use Rattle.world_laws.proofs.StepLeaves.{Messages}

-- what is so of a process that holds this, and of which `aside` says that it does not run
pub record IsInOrder (h : Holding) (memory : Memory) (aside : Type 0) (t : Task) : Type 0 where
  pub modes : IsInside t.mode → (t.condition ≡ Ready) ⊎ (t.condition ≡ Alternating)
  pub unselected : t.condition ≡ Alternating → t.mode ≡ Disabling None
  pub words : IsInside t.mode ⊎ (IsLive t.condition × aside) → HasWords h memory t.registers.workspace
  pub selection : Disables t.mode → HasSelection h memory t.registers.workspace
  pub rest : IsLive t.condition → aside → IsAtRest t.registers
  pub buffer : HasBuffer h t.registers.workspace t.condition

abbrev pub EachInOrder : (ℕ → Type 0) → List Task → List Role → Memory → Type 0
EachInOrder aside tasks roles memory =
    (p : ℕ) (t : Task) → slice_get tasks p ≡ Some t → IsInOrder (holding_at roles p) memory (aside p) t

abbrev pub AllInOrder : (ℕ → Type 0) → World → Type 0
AllInOrder aside w = EachInOrder aside w.tasks w.roles w.memory

-- ---- conditions and modes

pub starting_is_outside : (mode : Mode) → mode ≡ Starting → IsInside mode → ⊥
starting_is_outside mode is (inl enables) = let x : Starting ≡ Enabling enables.0 = sym is ∙ enables.1 in cc
starting_is_outside mode is (inr disables) = let x : Starting ≡ Disabling disables.0 = sym is ∙ disables.1 in cc

-- who receives a message waits for it
pub received_message : (c : Condition) (e : Exchange) → IsReceiving c e → message_of c ≡ Some e
received_message c e (on_channel is) = ap message_of is
received_message c e (on_link k done is at) = ap message_of is

pub no_buffer : (h : Holding) (workspace : ℕ) (c : Condition) → message_of c ≡ None → HasBuffer h workspace c
no_buffer h workspace c none = record {
  readable = λ e x is inside. absurd (let z : None ≡ Some e = sym none ∙ is in cc);
  writable = λ e x is inside. absurd (let z : None ≡ Some e = sym none ∙ received_message c e is in cc);
  beside = λ e x is inside there. let z : None ≡ Some e = sym none ∙ is in cc;
}

-- ---- what is so of one process

-- it runs
pub runs_in_order : (h : Holding) (memory : Memory) (aside : Type 0) (t : Task) → t.condition ≡ Ready → (aside → ⊥)
    → (IsInside t.mode → HasWords h memory t.registers.workspace)
    → (Disables t.mode → HasSelection h memory t.registers.workspace) → IsInOrder h memory aside t
runs_in_order h memory aside t ready runs words selection = record {
  modes = λ inside. inl ready;
  unselected = λ waits. absurd (let z : Ready ≡ Alternating = sym ready ∙ waits in cc);
  words = λ either. elim either [ inl inside ↦ words inside | inr idle ↦ absurd (runs idle.1) ];
  selection = selection;
  rest = λ live idle. absurd (runs idle);
  buffer = no_buffer h t.registers.workspace t.condition (ap message_of ready);
}

-- it runs, outside an alternation
pub outside_in_order : (h : Holding) (memory : Memory) (aside : Type 0) (t : Task) → t.condition ≡ Ready → (aside → ⊥)
    → (IsInside t.mode → ⊥) → IsInOrder h memory aside t
outside_in_order h memory aside t ready runs outside = runs_in_order h memory aside t ready runs
    (λ inside. absurd (outside inside)) (λ disables. absurd (outside (inr disables)))

-- it has stopped or ended
pub over_in_order : (h : Holding) (memory : Memory) (aside : Type 0) (t : Task) → (IsInside t.mode → ⊥)
    → (IsLive t.condition → ⊥) → message_of t.condition ≡ None → IsInOrder h memory aside t
over_in_order h memory aside t outside over none = record {
  modes = λ inside. absurd (outside inside);
  unselected = λ waits. absurd (over (subst IsLive (sym waits) tt));
  words = λ either. elim either [ inl inside ↦ absurd (outside inside) | inr idle ↦ absurd (over idle.0) ];
  selection = λ disables. absurd (outside (inr disables));
  rest = λ live idle. absurd (over live);
  buffer = no_buffer h t.registers.workspace t.condition none;
}

-- it waits outside an alternation
pub waits_in_order : (h : Holding) (memory : Memory) (aside : Type 0) (t : Task) → (IsInside t.mode → ⊥)
    → (t.condition ≡ Alternating → ⊥) → HasWords h memory t.registers.workspace → IsAtRest t.registers
    → HasBuffer h t.registers.workspace t.condition
    → IsInOrder h memory aside t
waits_in_order h memory aside t outside message words rest buffer = record {
  modes = λ inside. absurd (outside inside);
  unselected = λ waits. absurd (message waits);
  words = λ either. words;
  selection = λ disables. absurd (outside (inr disables));
  rest = λ live idle. rest;
  buffer = buffer;
}

pub weaker : (h : Holding) (memory : Memory) (before after : Type 0) (t : Task) → (after → before)
    → IsInOrder h memory before t → IsInOrder h memory after t
weaker h memory before after t less order = record {
  modes = order.modes;
  unselected = order.unselected;
  words = λ either. order.words (elim either [ inl inside ↦ inl inside | inr idle ↦ inr (idle.0, less idle.1) ]);
  selection = order.selection;
  rest = λ live idle. order.rest live (less idle);
  buffer = order.buffer;
}

-- it becomes ready
pub woken_in_order : (h : Holding) (memory : Memory) (aside : Type 0) (t : Task) → IsLive t.condition
    → IsInOrder h memory aside t → IsInOrder h memory aside (record t { condition = Ready })
woken_in_order h memory aside t live order = record {
  modes = λ inside. inl refl;
  unselected = λ waits. absurd (let z : Ready ≡ Alternating = waits in cc);
  words = λ either. order.words (elim either [ inl inside ↦ inl inside | inr idle ↦ inr (live, idle.1) ]);
  selection = order.selection;
  rest = λ ready idle. order.rest live idle;
  buffer = no_buffer h t.registers.workspace Ready refl;
}

-- it will not wait at altwt
enabled_in_order : (h : Holding) (memory : Memory) (aside : Type 0) (t : Task) → Enables t.mode
    → IsInOrder h memory aside t → IsInOrder h memory aside (record t { mode = Enabling true })
enabled_in_order h memory aside t enables order = record {
  modes = λ inside. order.modes (inl enables);
  unselected = λ waits. absurd (let z : Enabling enables.0 ≡ Disabling None = sym enables.1 ∙ order.unselected waits in
      cc);
  words = λ either. order.words (elim either [ inl inside ↦ inl (inl enables) | inr idle ↦ inr idle ]);
  selection = λ disables. absurd (let z : Enabling true ≡ Disabling disables.0 = disables.1 in cc);
  rest = order.rest;
  buffer = order.buffer;
}

-- bytes elsewhere change, or in its own buffer
abbrev pub InOwn : Task → ℕ → Type 0
InOwn t x = (e : Exchange) × IsReceiving t.condition e × InBuffer e x

pub still_in_order : (h later : Holding) (memory after : Memory) (aside : Type 0) (t : Task) → later ≡ h
    → ((x : ℕ) → may_write h x ≡ true → (InOwn t x → ⊥) → byte_at after x ≡ byte_at memory x)
    → IsInOrder h memory aside t → IsInOrder later after aside t
still_in_order h later memory after aside t same still order =
    subst (λ (g : Holding). IsInOrder g after aside t) (sym same) (record {
      modes = order.modes;
      unselected = order.unselected;
      words = λ either x there.
          let blank = order.words either x there in
          record {
            own = blank.own;
            undefined = still x blank.own (λ mine.
                order.buffer.beside mine.0 x (received_message t.condition mine.0 mine.1) mine.2 there)
                ∙ blank.undefined;
          };
      selection = λ disables x inside.
          let blank = order.selection disables x inside in
          record {
            own = blank.own;
            undefined = still x blank.own (λ mine. no_message disables mine.0 mine.1) ∙ blank.undefined;
          };
      rest = order.rest;
      buffer = order.buffer;
    })
  where
    no_message : Disables t.mode → (e : Exchange) → IsReceiving t.condition e → ⊥
    no_message disables e receives = elim (order.modes (inr disables)) [
      | inl ready ↦
          let z : None ≡ Some e = sym (ap message_of ready) ∙ received_message t.condition e receives in cc
      | inr waits ↦
          let z : None ≡ Some e = sym (ap message_of waits) ∙ received_message t.condition e receives in cc
    ]

-- ---- tasks are changed

pub all_weaker : (before after : ℕ → Type 0) (tasks : List Task) (roles : List Role) (memory : Memory)
    → ((p : ℕ) → after p → before p) → EachInOrder before tasks roles memory → EachInOrder after tasks roles memory
all_weaker before after tasks roles memory less all p t at =
    weaker _ memory (before p) (after p) t (less p) (all p t at)

pub all_set : (aside : ℕ → Type 0) (tasks : List Task) (roles : List Role) (memory : Memory) (q : ℕ) (u : Task)
    → IsInOrder (holding_at roles q) memory (aside q) u
    → ((p : ℕ) (t : Task) → q ≢ p → slice_get tasks p ≡ Some t → IsInOrder (holding_at roles p) memory (aside p) t)
    → EachInOrder aside (slice_set tasks q u) roles memory
all_set aside tasks roles memory q u order others p t at = elim (set_either tasks q u p t at) [
  | inl new ↦ subst (λ n. IsInOrder (holding_at roles n) memory (aside n) t) new.0
      (subst (IsInOrder (holding_at roles q) memory (aside q)) (sym new.1) order)
  | inr old ↦ others p t old.0 old.1
]

pub all_on_task : (aside : ℕ → Type 0) (q : ℕ) (f : Task → Task) (w : World)
    → ((t : Task) → slice_get w.tasks q ≡ Some t → IsInOrder (holding_at w.roles q) w.memory (aside q) t
    → IsInOrder (holding_at w.roles q) w.memory (aside q) (f t)) → AllInOrder aside w → AllInOrder aside (on_task q f w)
all_on_task aside q f w kept all = on (slice_get w.tasks q) refl
  where
    on : (o : Option Task) → slice_get w.tasks q ≡ o → AllInOrder aside (elim o as (λ o. World)
        [ None ↦ w | Some task ↦ record w { tasks = slice_set w.tasks q (f task) } ])
    on None none = all
    on (Some t) here = all_set aside w.tasks w.roles w.memory q (f t) (kept t here (all q t here))
        (λ p u differ at. all p u at)

pub all_woken : (aside : ℕ → Type 0) (q : ℕ) (w : World)
    → ((t : Task) → slice_get w.tasks q ≡ Some t → IsLive t.condition) → AllInOrder aside w
    → AllInOrder aside (wake q w)
all_woken aside q w live all = all_on_task aside q (λ task. record task { condition = Ready }) w
    (λ t here order. woken_in_order _ w.memory (aside q) t (live t here) order) all

live_as : (c d : Condition) → c ≡ d → IsLive d → IsLive c
live_as c d same live = subst IsLive (sym same) live

pub all_roused : (aside : ℕ → Type 0) (o : Option ℕ) (w : World) → AllInOrder aside w → AllInOrder aside (rouse o w)
all_roused aside o w all =
    let only = rouse_only o w in
    subst (λ (rs : List Role). EachInOrder aside (rouse o w).tasks rs (rouse o w).memory) (sym only.roles)
    (subst (EachInOrder aside (rouse o w).tasks w.roles) (sym only.memory) (on (rouse o w).tasks o (rouses o w)))
  where
    on : (later : List Task) (o : Option ℕ) → Roused w.tasks o later → EachInOrder aside later w.roles w.memory
    on later o (change.nobody deaf) = all
    on later o (change.who_enables q t here is awake) = all_set aside w.tasks w.roles w.memory q _
        (enabled_in_order _ w.memory (aside q) t is (all q t here)) (λ p u differ at. all p u at)
    on later o (change.who_waits q t here is) = all_set aside w.tasks w.roles w.memory q _
        (woken_in_order _ w.memory (aside q) t (live_as t.condition Alternating is tt) (all q t here))
        (λ p u differ at. all p u at)

-- ---- where the buffer of a message lies

-- the words that scheduling takes follow one another, where the lowest is data
above_lowest : (workspace k : ℕ) → k < 3 → place_of (scheduling_word workspace 2) < 0x80000000
    → (place_of (scheduling_word workspace 2) ≤ place_of (scheduling_word workspace k))
    × (place_of (scheduling_word workspace k) ≤ place_of (scheduling_word workspace 2) + 8)
unfolding place_of local_address
above_lowest workspace zero low small = (omega (arith, small), omega (arith, small))
above_lowest workspace (suc zero) low small = (omega (arith, small), omega (arith, small))
above_lowest workspace (suc (suc zero)) low small = (omega (arith, small), omega (arith, small))
above_lowest workspace (suc (suc (suc k))) low small = absurd (omega (arith, low))

-- what may be written is data, which ends below this
abbrev pub IsData : Holding → Type 0
IsData h = (x : ℕ) → may_write h x ≡ true → x < 0x80000000

module _ (h : Holding) (data_alone : IsData h) (test : ℕ → Bool) (l : Local) (e : Exchange)
    (x : Messages h test l e) where
  passes : (q : ℕ) → InBuffer e q → test q ≡ true
  passes q inside =
      let low = inside.0 in
      let high = inside.1 in
      let i : place_of e.address + (q - place_of e.address) ≡ q = omega (arith, low) in
      subst (λ n. test n ≡ true) i
      (all_at test (place_of e.address) e.length (q - place_of e.address) x.bytes (omega (arith, low, high)))

  pub is_beside : (q : ℕ) → InBuffer e q → IsSchedulingPlace l.registers.workspace q → ⊥
  is_beside q inside there =
      let workspace = l.registers.workspace in
      let lowest = place_of (scheduling_word workspace 2) in
      let own = (x.gives.words lowest (2, omega arith, (omega arith, omega arith))).own in
      let above = above_lowest workspace there.0 there.1 (data_alone lowest own) in
      let a = above.0 in
      let b = above.1 in
      let c = there.2.0 in
      let d = there.2.1 in
      let low = inside.0 in
      let high = inside.1 in
      let met : places_meet (place_of e.address) e.length lowest 12 ≡ true =
      and_from _ _ (lt-ltb (place_of e.address) (lowest + 12) (omega (arith, b, d, low)))
      (lt-ltb lowest (place_of e.address + e.length) (omega (arith, a, c, high))) in
      let z : false ≡ true = sym (ap not met) ∙ x.apart in cc

  -- it waits to receive, or to send
  pub has_buffer : (c : Condition) → message_of c ≡ Some e
      → ((q : ℕ) → test q ≡ true → may_read h q ≡ true)
      → ((q : ℕ) (f : Exchange) → IsReceiving c f → test q ≡ true → may_write h q ≡ true)
      → HasBuffer h l.registers.workspace c
  has_buffer c is read write = record {
    readable = λ f q at inside. read q (passes q (same f at q inside));
    writable = λ f q at inside. write q f at (passes q (same f (received_message c f at) q inside));
    beside = λ f q at inside there. is_beside q (same f at q inside) there;
  }
    where
      same : (f : Exchange) → message_of c ≡ Some f → (q : ℕ) → InBuffer f q → InBuffer e q
      same f at q inside =
          let z : Some f ≡ Some e = sym at ∙ is in
          subst (λ (g : Exchange). InBuffer g q) (let y : f ≡ e = cc in y) inside
