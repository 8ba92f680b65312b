-- Holdings lie in memory, in every world.
use Rattle.std.proofs.Common.{◌≡◌, ℕ, zero, suc, ◌+◌, ◌*◌, Bool, true, false, inl, inr, List, [], ◌∷◌, ◌++◌, length}
use Rattle.std.proofs.Common.{Option, Some, None, Result, Ok, Err, refl, sym, ap, ◌∙◌, subst, slice_get, arith}
use Rattle.std.proofs.lemmas.List.{length-append, length-replicate, length-map}
use Rattle.std.specs.Prelude.{slice_set}
use Rattle.std.proofs.lemmas.Bool.{or_cases}
use Rattle.module_format.specs.Contents.{Contents, Par}
use Rattle.machine_state.specs.declared.event.Event.{Event}
use Rattle.machine_state.specs.declared.event.Event.TheVariants.{Step, Arrive, Acknowledge}
use Rattle.machine_state.specs.declared.fault.Fault.{Fault}
use Rattle.machine_state.specs.declared.holding.Span.{Span}
use Rattle.machine_state.specs.BranchShares.{holding_of}
use Rattle.machine_state.specs.Endings.{Moved, TurnsInto, Happened, plan_of}
use Rattle.machine_state.specs.Endings as turns
use Rattle.machine_state.specs.Happens.{turn, world_after}
use Rattle.machine_state.specs.Holding.{Holding, nothing, may_write, covers}
use Rattle.machine_state.specs.JoinLookups.{Found, opened_by}
use Rattle.machine_state.specs.Joins.{on_role, member_joined, started, opened, ended, given_back, join_after}
use Rattle.machine_state.specs.Memory.{Memory}
use Rattle.machine_state.specs.Moves.{dispatch, link_index}
use Rattle.machine_state.specs.Roles.{own_in}
use Rattle.machine_state.specs.Site.{Local, Outcome}
use Rattle.machine_state.specs.Spans.{Share, less, runs}
use Rattle.machine_state.specs.StartPlans.{Plan, later_plan, share_by}
use Rattle.machine_state.specs.Turn.{Here, Turn, Effect, at_here, idle}
use Rattle.machine_state.specs.World.{World, Role, Join, held, holding_at, loaded, loaded_memory, root_role}
use Rattle.machine_state.specs.World.{root_holding, constants_start}
use Rattle.machine_state.specs.Writing.{Delivery, StepWrites}
use Rattle.machine_state.proofs.EveryWorld.{every_world}
use Rattle.machine_state.proofs.Lines.{set_either, got_either}
use Rattle.machine_state.proofs.MovesLeaveAlone.{on_task_only, wake_only, rouse_only, chooses, joined_either}
use Rattle.machine_state.proofs.MovesLeaveAlone.{with_opened}
use Rattle.machine_state.proofs.MovesLeaveAlone.{without, member_gone}
use Rattle.machine_state.proofs.Roles.{told_of}
use Rattle.machine_state.proofs.SpanLaws.{among, runs_tell, covers_tells}
use Rattle.machine_state.proofs.Turns.{turn_happens}
use Rattle.machine_state.proofs.Writing.{steps_write_own, arrivals_write_one, acknowledgements_write_nothing}
use Rattle.world_laws.specs.InsideMemory.{LiesIn, HoldingsLieInMemory}
use Rattle.world_laws.proofs.Filling.{fill_only}

-- ---- memory keeps its length

step_size : (own : ℕ → Bool) (d : Option Delivery) (old new : Memory) (r : Result Effect Fault)
    → StepWrites own d old new r → length new ≡ length old
step_size own d old new (Err f) same = ap (λ (m : Memory). length m) same
step_size own d old new (Ok idle) same = ap (λ (m : Memory). length m) same
step_size own d old new (Ok _) writes = writes.size

pub memory_size : (m : Contents) (w : World) (e : Event) → length (turn m w e).world.memory ≡ length w.memory
memory_size m w (Step slice pick) = step_size _ _ _ _ _ (steps_write_own m w slice pick)
memory_size m w (Arrive link byte) = (arrivals_write_one m w link byte).size
memory_size m w (Acknowledge link) = ap (λ (m : Memory). length m) (acknowledgements_write_nothing m w link)

-- ---- what lies in memory

nothing_lies : (n : ℕ) → LiesIn n nothing
nothing_lies n x read = absurd (cc)

-- spans of the first n places
runs_lie : (n : ℕ) (h : Holding) (f g : ℕ → Bool) → h.writes ≡ runs f 0 n → h.reads ≡ runs g 0 n → LiesIn n h
runs_lie n h f g writes reads x read = elim (or_cases (may_write h x) _ read) [
  | inl written ↦
      let low = (runs_tell f 0 n x (subst (λ spans. among spans x ≡ true) writes written)).below in
      omega (arith, low)
  | inr only ↦
      let low = (runs_tell g 0 n x (subst (λ spans. among spans x ≡ true) reads only)).below in
      omega (arith, low)
]

pub less_lies : (n : ℕ) (h : Holding) (share : Share) → LiesIn n (less n h share)
unfolding less
less_lies n h share = runs_lie n (less n h share) _ _ refl refl

given_lies : (m : Contents) (n : ℕ) (share : Share) → LiesIn n (holding_of m n share)
given_lies m n share = runs_lie n (holding_of m n share) _ _ refl refl

-- what a process has for good, and what its open join has not given
pub record RoleLies (n : ℕ) (r : Role) : Type 0 where
  pub own : LiesIn n r.own
  pub rest : (j : Join) → r.opened ≡ Some j → LiesIn n j.rest

abbrev pub AllLie : ℕ → List Role → Type 0
AllLie n roles = (p : ℕ) (r : Role) → slice_get roles p ≡ Some r → RoleLies n r

opens : (n : ℕ) (r : Role) (j : Join) → RoleLies n r → LiesIn n j.rest → RoleLies n (with_opened (Some j) r)
opens n r j lies rest = record {
  own = lies.own;
  rest = λ k is. subst (λ (i : Join). LiesIn n i.rest) (let e : j ≡ k = cc in e) rest;
}

shuts : (n : ℕ) (r : Role) → RoleLies n r → RoleLies n (with_opened None r)
shuts n r lies = record { own = lies.own; rest = λ j is. absurd (cc) }

gives_back : (n : ℕ) (r : Role) → RoleLies n r → RoleLies n (record r { own = nothing })
gives_back n r lies = record { own = nothing_lies n; rest = lies.rest }

on_role_lies : (n p : ℕ) (f : Role → Role) (w : World) → ((r : Role) → RoleLies n r → RoleLies n (f r))
    → AllLie n w.roles → AllLie n (on_role p f w).roles
on_role_lies n p f w kept all = on (slice_get w.roles p) refl
  where
    on : (o : Option Role) → slice_get w.roles p ≡ o → AllLie n (elim o as (λ o. World)
        [ None ↦ w | Some role ↦ record w { roles = slice_set w.roles p (f role) } ]).roles
    on None is = all
    on (Some r) is = λ q s here. elim (set_either w.roles p (f r) q s here) [
      | inl new ↦ subst (RoleLies n) (sym new.1) (kept r (all p r is))
      | inr old ↦ all q s old.1
    ]

push_lies : (n : ℕ) (roles : List Role) (new : Role) → AllLie n roles → RoleLies n new → AllLie n (roles ++ new ∷ [])
push_lies n roles new all lies p r here = elim (got_either roles new p r here) [
  | inl old ↦ all p r old
  | inr last ↦ subst (RoleLies n) (sym last.1) lies
]

-- ---- an event

module _ (h : Here) (w : World) (all : AllLie (length w.memory) w.roles) where
  abbrev n : ℕ
  n = length w.memory

  -- what the open join of a process has not given
  pub rest_lies : (p : ℕ) (j : Join) → opened_by w p ≡ Some j → LiesIn n j.rest
  rest_lies p j is =
      let x = told_of (λ (r : Role). r.opened) w.roles p j is in
      (all p x.0 x.1).rest j x.2

  starts : (plan : Plan) (found : Found) (workspace : ℕ) (l : Local) (v : World) → v.roles ≡ w.roles
      → v.memory ≡ w.memory → AllLie n (started h plan found workspace l v).roles
  starts plan found workspace l v roles memory =
      let size : length v.memory ≡ n = ap (λ (m : Memory). length m) memory in
      let before = subst (AllLie n) (sym roles) all in
      let j = join_after (length v.memory) plan found (length v.tasks) in
      push_lies n _ _ (on_role_lies n h.process (with_opened (Some j)) _ (λ r lies. opens n r j lies
      (subst (λ k. LiesIn k j.rest) size (less_lies (length v.memory) plan.rest (share_by plan found.branch))))
      before)
      (record {
        own = subst (λ k. LiesIn k (holding_of h.contents (length v.memory) (share_by plan found.branch))) size
            (given_lies h.contents (length v.memory) (share_by plan found.branch));
        rest = λ k is. absurd (cc);
      })

  joins : (o : ℕ) (j : Join) (par : Par) (v : World) → LiesIn n j.rest → AllLie n v.roles
      → AllLie n (member_joined h o j par v).roles
  unfolding dispatch
  joins o j par v rest before =
      joined_either (λ (v : World). AllLie n v.roles) h o j par v
      (λ none. on_role_lies n o (with_opened None) _ (shuts n)
      (subst (AllLie n) (sym (on_task_only o _ (member_gone h o j v)).roles) fewer))
      (λ some. fewer)
    where
      fewer : AllLie n (member_gone h o j v).roles
      fewer = on_role_lies n o (with_opened (Some (without h.process j))) v (λ r lies. opens n r _ lies rest) before

  moved : (o : Outcome) (v : World) → Moved h w o v → AllLie n v.roles
  unfolding dispatch
  moved o v (turns.it_goes l) = all
  moved o v (turns.it_jumps to l) = all
  moved o v (turns.it_is_sliced to l) = all
  moved o v (turns.it_lands to l) = all
  moved o v (turns.it_stops l) = all
  moved o v (turns.receives_first e l c inside here none) = all
  moved o v (turns.receives_from e l c other sent inside here waits is same) =
      subst (AllLie n) (sym (wake_only other _).roles) all
  moved o v (turns.receives_none e l k link on here none) = all
  moved o v (turns.receives_last e l k link byte on here kept one) = all
  moved o v (turns.receives_one e l k link byte on here kept more) = all
  moved o v (turns.sends_first e l c inside here none) = subst (AllLie n) (sym (rouse_only c.enabled _).roles) all
  moved o v (turns.sends_to e l c other wanted inside here waits is same) =
      subst (AllLie n) (sym (wake_only other _).roles) all
  moved o v (turns.starts_first target workspace l found is none tests) =
      starts (plan_of h w found) found workspace (opened h (plan_of h w found) l w).0
      (opened h (plan_of h w found) l w).1 refl refl
  moved o v (turns.starts_later target workspace l found j is is_open same tests) =
      starts (later_plan h.contents j found.par) found workspace l w refl refl
  moved o v (turns.joins_own block l j par is row whole) =
      joins h.process j par (ended h l w) (rest_lies h.process j is) all
  moved o v (turns.joins_opener block l opener j par none by is row same) =
      joins opener j par (given_back h (ended h l w)) (rest_lies opener j is)
      (on_role_lies n h.process (λ r. record r { own = nothing }) (ended h l w) (gives_back n) all)
  moved o v (turns.it_begins l) = all
  moved o v (turns.it_enables guard address l s holds (turns.on_channel c inside here) once) = all
  moved o v (turns.it_enables guard address l s holds (turns.on_link k link on here) once) = all
  moved o v (turns.it_enables_nothing guard address l off) = all
  moved o v (turns.it_enables_a_skip guard l) = all
  moved o v (turns.it_is_ready l is) = all
  moved o v (turns.it_waits l is) = all
  moved o v (turns.it_disables guard address distance l s holds (turns.on_channel c inside here) mine) =
      chooses h w l (λ (v : World). AllLie n v.roles) (λ r mode m same further. all) _ distance
  moved o v (turns.it_disables guard address distance l s holds (turns.on_link k link on here) mine) =
      chooses h w l (λ (v : World). AllLie n v.roles) (λ r mode m same further. all) _ distance
  moved o v (turns.it_disables_nothing guard address distance l off) =
      chooses h w l (λ (v : World). AllLie n v.roles) (λ r mode m same further. all) _ distance
  moved o v (turns.it_disables_a_skip guard distance l) =
      chooses h w l (λ (v : World). AllLie n v.roles) (λ r mode m same further. all) _ distance
  moved o v (turns.it_ends_alternation to l none) = all

  ends : (o : Outcome) (t : Turn) → TurnsInto h w o t → AllLie n t.world.roles
  unfolding dispatch
  ends o t (turns.at_fault refused) = all
  ends o t (turns.has_run {after = v} x) = moved o v x
  ends o t (turns.has_emitted e l k on same) = all

-- ---- every event

module _ (m : Contents) (w : World) (all : AllLie (length w.memory) w.roles) where
  passes : (e : Event) (t : Turn) → Happened m w e t → AllLie (length w.memory) t.world.roles
  unfolding dispatch
  passes e t (turns.was_at_fault f is) = all
  passes e t (turns.it_rests rests) = all
  passes e t (turns.is_outside p task why runs here) = all
  passes e t (turns.is_prefix p task byte operand runs here at none it next) = all
  passes e t (turns.is_step {pick = pick} p task byte f runs here at is ends_so) =
      ends (at_here m p task pick) w all _ t ends_so
  passes e t (turns.is_taken {link = link} {byte = byte} input p here waiting) =
      subst (AllLie (length w.memory)) (sym (fill_only p (link_index link) byte input w).roles) all
  passes e t (turns.is_kept input here none empty) =
      subst (AllLie (length w.memory)) (sym (rouse_only input.enabled _).roles) all
  passes e t (turns.is_acknowledged output p here waiting) =
      subst (AllLie (length w.memory)) (sym (wake_only p _).roles) all

-- the root may write the data and read the constants, which lie last
root_lies : (m : Contents) → RoleLies (length (loaded_memory m)) (root_role m)
root_lies m = record { own = own; rest = λ j is. absurd (cc) }
  where
    size : length (loaded_memory m) ≡ constants_start m + length m.constants
    size = simp (length-append, length-replicate, length-map) (omega arith)

    constants : Span
    constants = record { start = constants_start m; end = constants_start m + length m.constants }

    own : LiesIn (length (loaded_memory m)) (root_holding m)
    own x read = elim (or_cases (may_write (root_holding m) x) _ read) [
      | inl written ↦ elim (or_cases (covers (record { start = 0; end = 4 * m.data_words }) x) false written) [
        | inl here ↦ let inside = (covers_tells _ x here).1 in omega (arith, size, inside)
        | inr none ↦ absurd (cc)
      ]
      | inr only ↦ elim (or_cases (covers constants x) false only) [
        | inl here ↦ let inside = (covers_tells _ x here).1 in omega (arith, size, inside)
        | inr none ↦ absurd (cc)
      ]
    ]

-- memory is as long as it was, and roles lie in it
pub record Inside (m : Contents) (w : World) : Type 0 where
  pub size : length w.memory ≡ length (loaded_memory m)
  pub roles : AllLie (length w.memory) w.roles

pub all_inside : (m : Contents) (es : List Event) → Inside m (world_after m es)
all_inside m = every_world m (Inside m)
    (record { size = refl; roles = root_alone })
    (λ es e before. let w = world_after m es in record {
      size = memory_size m w e ∙ before.size;
      roles = subst (λ n. AllLie n (turn m w e).world.roles) (sym (memory_size m w e))
          (passes m w before.roles e (turn m w e) (turn_happens m w e));
    })
  where
    root_alone : AllLie (length (loaded_memory m)) (loaded m).roles
    root_alone zero r here =
        let same : root_role m ≡ r = cc in
        subst (RoleLies (length (loaded_memory m))) same (root_lies m)
    root_alone (suc p) r here = absurd (cc)

-- what a process holds now is what it has for good, or what its open join has not given
pub holding_lies : (n : ℕ) (roles : List Role) → AllLie n roles → (p : ℕ) → LiesIn n (holding_at roles p)
holding_lies n roles all p = on (slice_get roles p) refl
  where
    of_role : (r : Role) → RoleLies n r → (o : Option Join) → r.opened ≡ o
        → LiesIn n (elim o as (λ o. Holding) [ None ↦ r.own | Some join ↦ join.rest ])
    of_role r lies None is = lies.own
    of_role r lies (Some j) is = lies.rest j is

    on : (o : Option Role) → slice_get roles p ≡ o
        → LiesIn n (elim o as (λ o. Holding) [ None ↦ nothing | Some role ↦ held role ])
    on None is = nothing_lies n
    on (Some r) is = of_role r (all p r is) r.opened refl

own_lies : (n : ℕ) (roles : List Role) → AllLie n roles → (p : ℕ) → LiesIn n (own_in roles p)
own_lies n roles all p = on (slice_get roles p) refl
  where
    on : (o : Option Role) → slice_get roles p ≡ o
        → LiesIn n (elim o as (λ o. Holding) [ None ↦ nothing | Some role ↦ role.own ])
    on None is = nothing_lies n
    on (Some r) is = (all p r is).own

pub holdings_lie : HoldingsLieInMemory
holdings_lie m es =
    let inside = all_inside m es in
    record {
      size = inside.size;
      holdings = holding_lies _ _ inside.roles;
      for_good = own_lies _ _ inside.roles;
    }
