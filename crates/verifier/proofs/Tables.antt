-- What the change of one process leaves of the others, and of the invariant.
use Rattle.std.proofs.Common.{◌≡◌, ◌≢◌, ℕ, ◌+◌, ◌≤◌, ◌<◌, ◌⊎◌, true, false, inl, inr, List, length}
use Rattle.std.proofs.Common.{Option, Some, None, refl, sym, ap, ◌∙◌, subst, arith}
use Rattle.std.proofs.lemmas.Bool.{cases_eq, cases_Bool}
use Rattle.std.proofs.lemmas.List.{length-set}
use Rattle.std.specs.Prelude.{slice_get, slice_set}
use std.Path.{path_j}
use Rattle.std.proofs.Math.Path.{subst_refl}
use Rattle.small_laws.proofs.Options.{same_some}
use Rattle.module_format.specs.Contents.{Contents, Par}
use Rattle.machine_state.specs.declared.process.Task.{Task}
use Rattle.machine_state.specs.declared.process.Condition.{Condition}
use Rattle.machine_state.specs.declared.process.Exchange.{Exchange}
use Rattle.machine_state.specs.declared.process.Mode.TheVariants as modes
use Rattle.machine_state.specs.declared.link.InputLink.{InputLink}
use Rattle.machine_state.specs.EnabledLaws.{Alternates, HasReady}
use Rattle.machine_state.specs.declared.process.Condition.TheVariants.{Ready, Alternating, Stopped, Ended}
use Rattle.machine_state.specs.Memory.{Memory, byte_at}
use Rattle.machine_state.specs.Holding.{Holding, may_read, IsApart}
use Rattle.machine_state.specs.Roles.{opened_in}
use Rattle.machine_state.specs.Waiting.{IsGone, IsOver}
use Rattle.machine_state.specs.World.{World, Role, Join, held}
use Rattle.machine_state.specs.declared.process.Channel.{Channel}
use Rattle.machine_state.specs.Moves.{picked, dispatch, cell_of}
use Rattle.machine_state.proofs.Lines.{got_set, got_other, set_either}
use Rattle.rulings.proofs.Combining.{readable_byte}
use Rattle.rulings.specs.Regions.{Scope, scope_in, KeepsMemory}
use Rattle.rulings.proofs.Within.{is_starting, scope_still}
use Rattle.share_laws.specs.Climbing.{ChangesWithin}
use Rattle.states.specs.State.{State}
use Rattle.rulings.specs.Meaning.{Activation}
use Rattle.certified_worlds.specs.Alternating.{AlternatesHere}
use Rattle.rulings.specs.Meaning.{SameMode}
use Rattle.rulings.specs.Fitting.{After}
use Rattle.machine_state.specs.Site.{Local}
use Rattle.machine_state.specs.declared.process.Mode as machine
use Rattle.certified_worlds.proofs.Carrying.{SameEnabled, enabled_as_before}
use Rattle.certified_worlds.proofs.BehindKeeps.{behind_in_keeps}
use Rattle.certified_worlds.proofs.DuesAreSplit.{total_set}
use Rattle.certified_worlds.proofs.LivesAs.{LivesAs}
use Rattle.certified_worlds.specs.Point.{Began, Point}
use Rattle.rulings.specs.Buffers.{IsByte}
use Rattle.certified_worlds.specs.Lives.{awaits, IsExchanging, Lives, Meets, it_lives, it_stopped, it_ended}
use Rattle.certified_worlds.specs.Invariant.{AlternatesIn, Process, Table, LengthAgrees, at_link, at_channel}
use Rattle.certified_worlds.specs.Invariant.{LengthsAgree}
use Rattle.certified_worlds.specs.Invariant.{Opener, Holds}
use Rattle.certified_worlds.specs.Pending.{IsStarter, Pending, StartsHere}
use Rattle.certified_worlds.proofs.OrderlyWorlds.{MeetsStill, OthersMeet}
use Rattle.certified_worlds.proofs.OthersStay.{meets_unchanged, others_meet}
use Rattle.certified_worlds.proofs.StartedWorlds.{plain_beside, starts_beside}
use Rattle.certified_worlds.proofs.ParsStay.{Changer, opened_is, openers_stay, step_changes}
use Rattle.rulings.proofs.Agreeing.{agree_keeps}
use Rattle.verifier.proofs.InItsMode.{at_still}
use Rattle.verifier.proofs.OthersGuards.{LeavesEnabled, enables_as_before, ready_for_others}
use Rattle.verifier.proofs.SharedOut.{IsSharedOut, never_starting, over_still}

-- ---- a process

-- a point does not depend on what a process waits for
abbrev point_whatever : {m : Contents} {t : Task} (c : Condition) → Point m t → Point m (record t { condition = c })
point_whatever c p = record {
  before = p.before;
  state = p.state;
  reached = p.reached;
  stands = p.stands;
  instr = p.instr;
  taken = p.taken;
  reading = p.reading;
  act = p.act;
  callers = p.callers;
}

-- A process lives on in another condition, in which it does not wait on an internal channel: what it awaits now it
-- awaited before, what else it awaited has come, and no other byte that it may read has changed.
unfoldable pub lives_on : {m : Contents} {h : Holding} {began : Began} {memory : Memory} {t : Task} {due : ℕ} (new :
    Memory)
    (c : Condition) → ((e : Exchange) → IsExchanging c e → ⊥)
    → length new ≡ length memory
    → ((place : ℕ) → may_read h place ≡ true → awaits t.condition place ≡ false
    → byte_at new place ≡ byte_at memory place)
    → ((place : ℕ) → awaits c place ≡ true → awaits t.condition place ≡ true)
    → ((place : ℕ) → awaits c place ≡ true → (byte_at new place ≡ byte_at memory place) ⊎ IsByte (byte_at new place))
    → ((place : ℕ) → awaits t.condition place ≡ true → awaits c place ≡ false → IsByte (byte_at new place))
    → Lives m h began memory t due → Lives m h began new (record t { condition = c }) due
lives_on {m} {h} {began} {memory} {t} {due} new c quiet size same fewer either came l = record {
  point = point_whatever c l.point;
  claim = λ later again agree bytes.
      let old = l.claim later (again ∙ size)
      (λ place e not_awaited. agree place e (nor place not_awaited) ∙ same place e not_awaited)
      (λ place awaited. elim (cases_Bool (awaits c place)) [
        | inl still ↦ bytes place still
        | inr over ↦ subst IsByte
            (sym (agree place (readable_byte h place (l.room place awaited).0) over)) (came place awaited over)
      ]) in
      record { here = old.here; behind = old.behind };
  room = λ place still. let r = l.room place (fewer place still) in (r.0, omega (arith, r.1, size));
  sends = λ e is. absurd (quiet e (inl is));
  fills = λ old later f. l.fills old later (record {
    size = f.size;
    others = λ place e not_awaited. f.others place e (nor place not_awaited);
    come = λ place e awaited. elim (cases_Bool (awaits c place)) [
      | inl still ↦ f.come place e still
      | inr over ↦ inl (f.others place e over)
    ];
  });
  named = kept.named l.named;
  behind = behind_in_keeps began l.point.state.mode l.point.state.context l.point.act.layout l.point.callers kept
      l.behind;
  known_length = λ e is. absurd (quiet e is);
  paid = l.paid;
}
  where
    nor : (place : ℕ) → awaits t.condition place ≡ false → awaits c place ≡ false
    nor place none = elim (cases_Bool (awaits c place)) [
      | inl still ↦ let no' : true ≡ false = sym (fewer place still) ∙ none in absurd (cc)
      | inr over ↦ over
    ]

    kept : KeepsMemory m h (scope_in m l.point.state l.point.act.layout) memory new
    kept = l.fills memory new (record {
      size = size;
      others = same;
      come = λ place e awaited. elim (cases_Bool (awaits c place)) [
        | inl still ↦ either place still
        | inr over ↦ inr (came place awaited over)
      ];
    })

-- one that awaits nothing
unfoldable pub lives_whatever : {m : Contents} {h : Holding} {began : Began} {memory : Memory} {t : Task} {due : ℕ}
    (c : Condition) → ((e : Exchange) → IsExchanging c e → ⊥)
    → ((place : ℕ) → awaits t.condition place ≡ false) → ((place : ℕ) → awaits c place ≡ false)
    → Lives m h began memory t due → Lives m h began memory (record t { condition = c }) due
lives_whatever {memory = memory} c quiet before after = lives_on memory c quiet refl (λ place e none. refl)
    (λ place still. let no' : true ≡ false = sym still ∙ after place in absurd (cc))
    (λ place still. inl refl)
    (λ place awaited over. let no' : true ≡ false = sym awaited ∙ before place in absurd (cc))

-- a process that was roused lives on where it was
pub roused_lives : {m : Contents} {h : Holding} {began : Began} {memory : Memory} {t : Task} {due : ℕ}
    → t.condition ≡ Alternating → (l : Lives m h began memory t due)
    → LivesAs m h began memory (record t { condition = Ready }) due l.point.state l.point.act
unfolding lives_whatever lives_on
roused_lives waits l = record {
  lives = lives_whatever Ready (λ e is. elim is [ inl no' ↦ absurd (cc) | inr no' ↦ absurd (cc) ])
      (λ place. ap (λ c. awaits c place) waits) (λ place. refl) l;
  state_is = refl;
  act_is = refl;
}

-- what holds in a mode holds in another one that fits the state
in_mode_as : {m : Contents} {h : Holding} {mode next : machine.Mode} {act : Activation} {s : State} {l : Local}
    → (SameMode s.mode mode → SameMode s.mode next) → After m h mode act s l → After m h next act s l
in_mode_as same a =
    record { frame = a.frame; knows = a.knows; named = a.named; same_mode = same a.same_mode }

-- it lives on in another mode that fits its state
pub lives_in_mode : {m : Contents} {h : Holding} {began : Began} {memory : Memory} {t : Task} {due : ℕ}
    (next : machine.Mode) (l : Lives m h began memory t due)
    → (SameMode l.point.state.mode t.mode → SameMode l.point.state.mode next)
    → LivesAs m h began memory (record t { mode = next }) due l.point.state l.point.act
lives_in_mode {t = t} next l same = record {
  lives = record {
    point = record {
      before = l.point.before;
      state = l.point.state;
      reached = l.point.reached;
      stands = l.point.stands;
      instr = l.point.instr;
      taken = l.point.taken;
      reading = l.point.reading;
      act = l.point.act;
      callers = l.point.callers;
    };
    claim = λ later size agree bytes.
        let old = l.claim later size agree bytes in
        record { here = in_mode_as same old.here; behind = old.behind };
    room = l.room;
    sends = l.sends;
    fills = l.fills;
    named = l.named;
    behind = l.behind;
    known_length = l.known_length;
    paid = l.paid;
  };
  state_is = refl;
  act_is = refl;
}

-- a process changes nothing
pub nothing_changes : {m : Contents} {h : Holding} {scope : Scope} {memory : Memory}
    → ChangesWithin m h scope memory memory
nothing_changes {m} {h} {scope} {memory} = record {
  own = record { size = refl; others = λ place e. refl };
  keeps = agree_keeps h memory memory refl (λ place e. refl) m scope;
}

-- ---- a process of a world in which the invariant holds

-- it is alive, with what is known of its guards, and of its place among the starts of a PAR
record Alive (m : Contents) (w : World) (p : ℕ) {g : Holding} {began : Began} {t : Task} {due : ℕ}
    (meets : Meets m g began w.memory t due) : Type 0 where
  lives : Lives m g began w.memory t due
  is : meets ≡ it_lives lives
  guards : AlternatesIn w p meets → AlternatesHere m w p t lives.point.state lives.point.act
  starts : (par : Par) (j : Join) (act : Activation) → StartsHere meets par j act → IsStarter m t lives.point par j act

-- with its place in the table, and all that is known of it
pub record Living (m : Contents) (w : World) (h : Holds m w) (p : ℕ) (t : Task) : Type 0 where
  pub here : slice_get w.tasks p ≡ Some t
  pub lives : Lives m (held (h.table.each p t here).role) (h.table.each p t here).start w.memory t
      (h.table.each p t here).due
  pub is : (h.table.each p t here).meets ≡ it_lives lives
  pub going : t.condition ≡ Ended → ⊥
  pub guards : Alternates t.mode t.condition → AlternatesHere m w p t lives.point.state lives.point.act
  pub starts : (par : Par) (j : Join) (act : Activation) → StartsHere (h.table.each p t here).meets par j act
      → IsStarter m t lives.point par j act

abbrev pub row_of : {m : Contents} {w : World} {h : Holds m w} {p : ℕ} {t : Task} → Living m w h p t
    → Process m w h.began h.dues p t
row_of {h = h} {p = p} {t = t} r = h.table.each p t r.here

-- a process that is not over is alive
pub living : (m : Contents) (w : World) (h : Holds m w) (p : ℕ) (t : Task) (c : Condition)
    → slice_get w.tasks p ≡ Some t → t.condition ≡ c → (c ≡ Stopped → ⊥) → (c ≡ Ended → ⊥) → Living m w h p t
living m w h p t c here is going unended =
    let row = h.table.each p t here in
    let l = alive row.meets in
    record {
      here = here;
      lives = l.lives;
      is = l.is;
      going = λ ended. unended (sym is ∙ ended);
      guards = λ alternates. l.guards (row.alternating alternates);
      starts = l.starts;
    }
  where
    alive : {g : Holding} {began : Began} {due : ℕ} (meets : Meets m g began w.memory t due) → Alive m w p meets
    alive (it_lives l) = record {
      lives = l;
      is = refl;
      guards = λ guards. guards;
      starts = λ par j act starts. starts;
    }
    alive (it_stopped s) = absurd (going (sym is ∙ s))
    alive (it_ended e) = absurd (unended (sym is ∙ e))

-- what is kept on the links are bytes
abbrev pub AreBytes : List InputLink → Type 0
AreBytes inputs = (k : ℕ) (link : InputLink) (b : ℕ) → slice_get inputs k ≡ Some link → link.kept ≡ Some b → b < 256

-- each channel is there, as its opener has made it
abbrev pub ChannelsStay : List (Option Channel) → List (Option Channel) → Type 0
ChannelsStay old new = (k : ℕ) (c : Channel) → slice_get old k ≡ Some (Some c)
    → (d : Channel) × (slice_get new k ≡ Some (Some d)) × (d.length ≡ c.length) × (d.opener ≡ c.opener)

pub channels_equal : {old new : List (Option Channel)} → new ≡ old → ChannelsStay old new
channels_equal same k c here = (c, ap (λ (cells : List (Option Channel)). slice_get cells k) same ∙ here, refl, refl)

-- where one channel has changed
pub channel_stays : (cells : List (Option Channel)) (k : ℕ) (old new : Channel) → slice_get cells k ≡ Some (Some old)
    → new.length ≡ old.length → new.opener ≡ old.opener → ChannelsStay cells (slice_set cells k (Some new))
channel_stays cells k old new there same by n c here = elim (cases_eq k n) [
  | inl it ↦
      let one : Some old ≡ Some c = same_some (slice_get cells n) (Some old) (Some c)
      (subst (λ i. slice_get cells i ≡ Some (Some old)) it there) here in
      let is : old ≡ c = cc in (
        new,
        subst (λ i. slice_get (slice_set cells k (Some new)) i ≡ Some (Some new)) it
            (got_set cells k (Some old) (Some new) there),
        same ∙ ap (λ (c : Channel). c.length) is,
        by ∙ ap (λ (c : Channel). c.opener) is,
      )
  | inr differ ↦ (c, got_other cells k n (Some new) differ ∙ here, refl, refl)
]

lengths_kept : (m : Contents) (roles : List Role) {old new : List (Option Channel)} (began : List Began)
    → ChannelsStay old new → LengthsAgree m roles old began → LengthsAgree m roles new began
lengths_kept m roles {old = old} {new = new} began same agree p role start e has_role has_start has =
    on (agree p role start e has_role has_start has)
  where
    on : LengthAgrees m old start e → LengthAgrees m new start e
    on (at_link k few is len) = at_link k few is len
    on (at_channel c here len) = let d = same (cell_of e.address) c here in at_channel d.0 d.1 (d.2 ∙ len)

-- of what the invariant reads of the world, but for the count and what is kept on links, one task and memory have
-- changed
pub record Puts (w after : World) (p : ℕ) (u : Task) (new : Memory) : Type 0 where
  pub tasks : after.tasks ≡ slice_set w.tasks p u
  pub memory : after.memory ≡ new
  pub roles : after.roles ≡ w.roles
  pub channels : ChannelsStay w.channels after.channels
  pub kept : AreBytes after.links.inputs
  pub fault : after.fault ≡ w.fault

-- What a process may change that lives: bytes of its own, as its activation allows.
abbrev pub Allows : {m : Contents} {h : Holding} {began : Began} {old : Memory} {t : Task} {due : ℕ}
    → Lives m h began old t due → Memory → Memory → Type 0
Allows {m = m} {h = h} l memory new = ChangesWithin m h (scope_in m l.point.state l.point.act.layout) memory new

-- One process changes what it may, and goes on as another task.
module _ (m : Contents) (w : World) (h : Holds m w) (out : IsSharedOut m w) (p : ℕ) (t : Task)
    (r : Living m w h p t) (after : World) (u : Task) (new : Memory) (later : ℕ) (puts : Puts w after p u new)
    (leaves : LeavesEnabled w after p t) (allowed : Allows r.lives w.memory new) where
  abbrev began : List Began
  began = h.began

  abbrev dues_after : List ℕ
  dues_after = slice_set h.dues p later

  allowed_now : Allows r.lives w.memory after.memory
  allowed_now = subst (λ (memory : Memory). Allows r.lives w.memory memory) (sym puts.memory) allowed

  -- what is in the list of tasks afterwards: it, or another one
  abbrev StandsAfter : ℕ → Task → Type 0
  StandsAfter q v = ((p ≡ q) × (v ≡ u)) ⊎ ((p ≢ q) × (slice_get w.tasks q ≡ Some v))

  stands_after : (q : ℕ) (v : Task) → slice_get after.tasks q ≡ Some v → StandsAfter q v
  stands_after q v there =
      set_either w.tasks p u q v (subst (λ (tasks : List Task). slice_get tasks q ≡ Some v) puts.tasks there)

  has_role_after : (q : ℕ) (role : Role) → slice_get w.roles q ≡ Some role → slice_get after.roles q ≡ Some role
  has_role_after q role here = subst (λ (roles : List Role). slice_get roles q ≡ Some role) (sym puts.roles) here

  had_role : (q : ℕ) (role : Role) → slice_get after.roles q ≡ Some role → slice_get w.roles q ≡ Some role
  had_role q role here = subst (λ (roles : List Role). slice_get roles q ≡ Some role) puts.roles here

  -- ---- the others

  apart_from : (q : ℕ) (role : Role) → p ≢ q → slice_get w.roles q ≡ Some role
      → IsApart (held (row_of r).role) (held role)
  apart_from q role other here = out.apart p q (row_of r).role role other (row_of r).has_role here

  -- they meet what they met
  others : OthersMeet m w h p after
  others = others_meet m w after (held (row_of r).role) allowed_now.own h p apart_from
      (λ q v other there alternates. enables_as_before w after p t u r.here puts.tasks leaves q other)
      (λ q v other there alternates. ready_for_others w after p t u r.here puts.tasks leaves q other)

  elsewhere : (q : ℕ) (v : Task) → p ≢ q → slice_get w.tasks q ≡ Some v → Process m after began dues_after q v
  elsewhere q v other here =
      let old = h.table.each q v here in
      let still = others q v here other in
      record {
        role = old.role;
        has_role = has_role_after q old.role old.has_role;
        start = old.start;
        has_start = old.has_start;
        due = old.due;
        has_due = got_other h.dues p q later other ∙ old.has_due;
        root = old.root;
        meets = still.meets;
        alternating = λ alternates. still.guards alternates (old.alternating alternates);
      }

  -- a process that is over for good still is
  gone_after : (q : ℕ) (role : Role) → IsGone w.tasks role q → IsGone after.tasks role q
  gone_after q role gone = (
    gone.0,
    subst (λ (tasks : List Task). IsOver tasks q) (sym puts.tasks)
        (over_still w.tasks w.roles p t u r.here r.going q gone.1),
  )

  -- ---- what openers go on with

  -- what they go on with is so still
  abbrev OpenersStay : Type 0
  OpenersStay = (q : ℕ) (role : Role) (j : Join) (here : slice_get w.roles q ≡ Some role) (is : role.opened ≡ Some j)
      → let opener = h.pending q role j here is in
      Pending m role.own q opener.start began after.memory j opener.due opener.after

  -- what one changes that has no join open climbs
  unopened_leaves : opened_in w.roles p ≡ None → OpenersStay
  unopened_leaves none q role j here is =
      openers_stay m w h out.branches after.memory out.holders p changer q role j here is none
    where
      still : is_starting r.lives.point.state.mode ≡ false
      still = at_still r.lives (never_starting out.starters p t r.here none)

      changer : Changer m w began p after.memory
      changer = step_changes m w began p t r.here (row_of r).role (row_of r).has_role (row_of r).start
          (row_of r).has_start (row_of r).due
          (sym (opened_is w.roles p (row_of r).role (row_of r).has_role) ∙ none) r.going r.lives still after.memory
          allowed_now.own
          (subst (λ (scope : Scope). KeepsMemory m (held (row_of r).role) scope w.memory after.memory)
          (scope_still m r.lives.point.state.context r.lives.point.state.mode r.lives.point.act.layout still)
          allowed_now.keeps)

  -- a process that is no opener is not among starts
  starts_none : opened_in w.roles p ≡ None → (par : Par) (j : Join) (act : Activation)
      → IsStarter m t r.lives.point par j act → ⊥
  starts_none none par j act starter =
      let no' : true ≡ false = sym (ap is_starting starter.mode)
      ∙ at_still r.lives (never_starting out.starters p t r.here none) in
      cc

  abbrev RowAt : ℕ → Task → Type 0
  RowAt q v = Process m after began dues_after q v

  -- the row of a process under an equal number has its place among the starts of a PAR still
  moved_row : (v : Task) (row : RowAt p v) (q : ℕ) (same : p ≡ q) (par : Par) (j : Join) (act : Activation)
      → StartsHere row.meets par j act → StartsHere (subst (λ (n : ℕ). RowAt n v) same row).meets par j act
  moved_row v row q same par j act starts =
      path_j (λ (n : ℕ) (e : p ≡ n). StartsHere (subst (λ (n : ℕ). RowAt n v) e row).meets par j act)
      (subst (λ (row : RowAt p v). StartsHere row.meets par j act) (sym (subst_refl (λ (n : ℕ). RowAt n v) row)) starts)
      same

  module _ (mine : Process m after began dues_after p u) where
    -- and so it has under an equal task
    moved_task : (v : Task) (same : u ≡ v) (par : Par) (j : Join) (act : Activation) → StartsHere mine.meets par j act
        → StartsHere (subst (λ (x : Task). RowAt p x) same mine).meets par j act
    moved_task v same par j act starts =
        path_j (λ (x : Task) (e : u ≡ x). StartsHere (subst (λ (x : Task). RowAt p x) e mine).meets par j act)
        (subst (λ (row : RowAt p u). StartsHere row.meets par j act) (sym (subst_refl (λ (x : Task). RowAt p x) mine))
        starts) same

    -- each process is as it was, but for the one that has changed
    placed : (q : ℕ) (v : Task) → StandsAfter q v → Process m after began dues_after q v
    placed q v (inl itself) =
        subst (λ (n : ℕ). RowAt n v) itself.0 (subst (λ (x : Task). RowAt p x) (sym itself.1) mine)
    placed q v (inr other) = elsewhere q v other.0 other.1

    abbrev table_after : Table m after began dues_after
    table_after = record { each = λ q v there. placed q v (stands_after q v there) }

    -- this one is among the starts of its own PAR still
    abbrev StartsOn : Type 0
    StartsOn = (par : Par) (j : Join) (act : Activation) → IsStarter m t r.lives.point par j act
        → StartsHere mine.meets par j act

    starts_never : opened_in w.roles p ≡ None → StartsOn
    starts_never none par j act starter = absurd (starts_none none par j act starter)

    starts_placed : StartsOn → (q : ℕ) (v : Task) (stands : StandsAfter q v) (par : Par) (j : Join) (act : Activation)
        → ((x : Task) (here : slice_get w.tasks q ≡ Some x)
        → StartsHere (h.table.each q x here).meets par j act)
        → StartsHere (placed q v stands).meets par j act
    unfolding placed elsewhere
    starts_placed on q v (inl itself) par j act starts =
        moved_row v (subst (λ (x : Task). RowAt p x) (sym itself.1) mine) q itself.0 par j act
        (moved_task v (sym itself.1) par j act (on par j act (r.starts par j act (starts_here itself.0))))
      where
        starts_here : p ≡ q → StartsHere (h.table.each p t r.here).meets par j act
        starts_here same = subst (λ (n : ℕ). (x : Task) (here : slice_get w.tasks n ≡ Some x)
            → StartsHere (h.table.each n x here).meets par j act) (sym same) starts t r.here
    starts_placed on q v (inr other) par j act starts =
        (others q v other.1 other.0).starts par j act (starts v other.1)

    opener_after : OpenersStay → StartsOn → (q : ℕ) (role : Role) (j : Join) → slice_get after.roles q ≡ Some role
        → role.opened ≡ Some j → Opener m after began dues_after h.pending_dues table_after q role j
    opener_after stay on q role j here is =
        let there = had_role q role here in
        let old = h.pending q role j there is in
        record {
          start = old.start;
          has_start = old.has_start;
          due = old.due;
          has_due = old.has_due;
          after = old.after;
          pending = stay q role j there is;
          starter = λ task now. starts_placed on q task (stands_after q task now) old.after.par j old.after.act
              old.starter;
          members = λ a branch first has_branch by live has_first. old.members a branch first
              (had_role a branch has_branch) by (λ gone. live (gone_after a branch gone)) has_first;
          channels = λ n channel at.
              let c = old.channels n channel at in
              let d = puts.channels _ c.0 c.1 in
              (d.0, d.1, d.2 ∙ c.2, d.3 ∙ c.3);
        }

    -- ---- all of it

    holds_after : OpenersStay → StartsOn → later + after.counters.executed ≤ (row_of r).due + w.counters.executed
        → Holds m after
    holds_after stay on paid = record {
      dues = dues_after;
      pending_dues = h.pending_dues;
      began = began;
      counted = record {
        begun = h.counted.begun ∙ same_count;
        owing = length-set h.dues p later ∙ h.counted.owing ∙ same_count;
        pending = h.counted.pending ∙ same_count;
      };
      table = table_after;
      pending = opener_after stay on;
      lengths = lengths_kept m after.roles began puts.channels (rw puts.roles h.lengths);
      kept = puts.kept;
      owed = let t = total_set h.dues p (row_of r).due later (row_of r).has_due in let o = h.owed in omega arith;
      well = puts.fault ∙ h.well;
    }
      where
        same_count : length w.tasks ≡ length after.tasks
        same_count = sym (ap (λ (tasks : List Task). length tasks) puts.tasks ∙ length-set w.tasks p u)

  -- the process that has changed
  mine_after : (meets : Meets m (held (row_of r).role) (row_of r).start after.memory u later)
      → (Alternates u.mode u.condition → AlternatesIn after p meets) → Process m after began dues_after p u
  mine_after meets alternating = record {
    role = (row_of r).role;
    has_role = has_role_after p (row_of r).role (row_of r).has_role;
    start = (row_of r).start;
    has_start = (row_of r).has_start;
    due = later;
    has_due = got_set h.dues p (row_of r).due later (row_of r).has_due;
    root = (row_of r).root;
    meets = meets;
    alternating = alternating;
  }

  -- The invariant holds where it goes on in plain mode, and owes less by what is counted.
  pub holds_put : opened_in w.roles p ≡ None → later + after.counters.executed ≤ (row_of r).due + w.counters.executed
      → u.mode ≡ modes.Plain → Meets m (held (row_of r).role) (row_of r).start new u later → Holds m after
  holds_put none paid plain meets =
      let mine = mine_after (subst (λ (memory : Memory). Meets m (held (row_of r).role) (row_of r).start memory u later)
      (sym puts.memory) meets) (λ alternates. absurd (plain_beside plain alternates)) in
      holds_after mine (unopened_leaves none) (starts_never mine none) paid

  -- The same where it goes on in an alternation, as its guards say.
  pub holds_put_alternating : opened_in w.roles p ≡ None
      → later + after.counters.executed ≤ (row_of r).due + w.counters.executed
      → {s : State} {act : Activation} → LivesAs m (held (row_of r).role) (row_of r).start new u later s act
      → AlternatesHere m after p u s act → Holds m after
  holds_put_alternating none paid {s} {act} lives guards =
      let l = subst (λ (memory : Memory). LivesAs m (held (row_of r).role) (row_of r).start memory u later s act)
      (sym puts.memory) lives in
      let mine = mine_after (it_lives l.lives) (λ again.
      subst (λ (act : Activation). AlternatesHere m after p u l.lives.point.state act) (sym l.act_is)
      (subst (λ (s : State). AlternatesHere m after p u s act) (sym l.state_is) guards)) in
      holds_after mine (unopened_leaves none) (starts_never mine none) paid

  -- The same where it goes on among starts, and changes no byte.
  pub holds_put_starting : later + after.counters.executed ≤ (row_of r).due + w.counters.executed
      → u.mode ≡ modes.Starting → after.memory ≡ w.memory
      → (lives : Lives m (held (row_of r).role) (row_of r).start after.memory u later)
      → ((par : Par) (j : Join) (act : Activation) → IsStarter m t r.lives.point par j act
      → IsStarter m u lives.point par j act) → Holds m after
  unfolding mine_after
  holds_put_starting paid starting same lives starts =
      holds_after (mine_after (it_lives lives) (λ alternates. absurd (starts_beside starting alternates)))
      (λ q role j here is.
      let opener = h.pending q role j here is in
      subst (λ (memory : Memory). Pending m role.own q opener.start began memory j opener.due opener.after) (sym same)
      opener.pending) starts paid

-- ---- what the invariant does not read

-- of what the invariant reads of the world, but for what is kept on links, nothing has changed
pub record Rests (w after : World) : Type 0 where
  pub tasks : after.tasks ≡ w.tasks
  pub memory : after.memory ≡ w.memory
  pub roles : after.roles ≡ w.roles
  pub channels : after.channels ≡ w.channels
  pub kept : AreBytes after.links.inputs
  pub counters : after.counters ≡ w.counters
  pub fault : after.fault ≡ w.fault

module _ (m : Contents) (w after : World) (rests : Rests w after) (enabled : (p : ℕ) → SameEnabled w after p)
    (ready : (p : ℕ) → HasReady w.tasks w.channels w.links.inputs p
    → HasReady after.tasks after.channels after.links.inputs p) (h : Holds m w) where
  stood : (p : ℕ) (t : Task) → slice_get after.tasks p ≡ Some t → slice_get w.tasks p ≡ Some t
  stood p t there = subst (λ (tasks : List Task). slice_get tasks p ≡ Some t) rests.tasks there

  had_role_aside : (p : ℕ) (role : Role) → slice_get after.roles p ≡ Some role → slice_get w.roles p ≡ Some role
  had_role_aside p role there = subst (λ (roles : List Role). slice_get roles p ≡ Some role) rests.roles there

  still_meets : (p : ℕ) (t : Task) (here : slice_get w.tasks p ≡ Some t)
      → MeetsStill m w after p (h.table.each p t here).meets
  still_meets p t here = meets_unchanged m w after rests.memory p (h.table.each p t here).meets (enabled p) (ready p)

  row_aside : (p : ℕ) (t : Task) → slice_get w.tasks p ≡ Some t → Process m after h.began h.dues p t
  row_aside p t here =
      let old = h.table.each p t here in
      let still = still_meets p t here in
      record {
        role = old.role;
        has_role = subst (λ (roles : List Role). slice_get roles p ≡ Some old.role) (sym rests.roles) old.has_role;
        start = old.start;
        has_start = old.has_start;
        due = old.due;
        has_due = old.has_due;
        root = old.root;
        meets = still.meets;
        alternating = λ alternates. still.guards alternates (old.alternating alternates);
      }

  abbrev table_aside : Table m after h.began h.dues
  table_aside = record { each = λ p t there. row_aside p t (stood p t there) }

  opener_aside : (q : ℕ) (role : Role) (j : Join) → slice_get after.roles q ≡ Some role → role.opened ≡ Some j
      → Opener m after h.began h.dues h.pending_dues table_aside q role j
  unfolding row_aside
  opener_aside q role j here is =
      let old = h.pending q role j (had_role_aside q role here) is in
      record {
        start = old.start;
        has_start = old.has_start;
        due = old.due;
        has_due = old.has_due;
        after = old.after;
        pending = subst (λ (memory : Memory). Pending m role.own q old.start h.began memory j old.due old.after)
            (sym rests.memory) old.pending;
        starter = λ task there. (still_meets q task (stood q task there)).starts old.after.par j old.after.act
            (old.starter task (stood q task there));
        members = λ a branch first has_branch by live has_first. old.members a branch first
            (had_role_aside a branch has_branch) by (λ gone. live (rw rests.tasks gone)) has_first;
        channels = λ n channel at.
            let c = old.channels n channel at in
            let d = channels_equal rests.channels _ c.0 c.1 in
            (d.0, d.1, d.2 ∙ c.2, d.3 ∙ c.3);
      }

  -- The invariant holds in the world after, as what each process has enabled and what is ready for it stay.
  pub holds_aside : Holds m after
  holds_aside = record {
    dues = h.dues;
    pending_dues = h.pending_dues;
    began = h.began;
    counted = rw rests.tasks h.counted;
    table = table_aside;
    pending = opener_aside;
    lengths = rw (rests.roles, rests.channels) h.lengths;
    kept = rests.kept;
    owed = rw rests.counters h.owed;
    well = rests.fault ∙ h.well;
  }

-- whichever process is picked to run
pub dispatch_holds : (m : Contents) (pick : ℕ) (w : World) → Holds m w → Holds m (dispatch pick w)
unfolding dispatch
dispatch_holds m pick w h = holds_aside m w (record w { queue = picked pick w.queue }) (record {
  tasks = refl;
  memory = refl;
  roles = refl;
  channels = refl;
  kept = h.kept;
  counters = refl;
  fault = refl;
}) (λ q. enabled_as_before w _ q refl refl) (λ q found. found) h
