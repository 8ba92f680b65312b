-- The members of open joins differ and are processes, and branches start in their order, in every world.
use Rattle.std.proofs.Common.{◌≡◌, ◌≢◌, ℕ, ◌+◌, ◌<◌, ◌≤◌, Bool, true, false, inl, inr, List, [], ◌∷◌, ◌++◌}
use Rattle.std.proofs.Common.{length, filter, Option, Some, None, refl, sym, ap, ◌∙◌, subst, slice_get, arith, eqb-true}
use Rattle.std.proofs.Common.{if◌then◌else◌, cond, is_some}
use Rattle.std.proofs.lemmas.List.{length-append, length-set}
use Rattle.std.proofs.lemmas.Option.{slice_get_within}
use Rattle.std.specs.Prelude.{◌==◌, not, slice_set}
use Rattle.std.proofs.lemmas.Bool.{and_parts}
use Rattle.small_laws.proofs.Options.{same_some}
use Rattle.module_format.specs.Contents.{Contents, Par, Branch}
use Rattle.machine_state.specs.declared.event.Event.{Event}
use Rattle.machine_state.specs.Endings.{Moved, TurnsInto, Happened, plan_of}
use Rattle.machine_state.specs.Endings as turns
use Rattle.machine_state.specs.Happens.{world_after}
use Rattle.machine_state.specs.JoinLookups.{Found, found_at, found_from, found_in_row}
use Rattle.machine_state.specs.Joins.{on_role, member_joined, started, ended, given_back, closed_task, join_after}
use Rattle.machine_state.specs.Moves.{on_task, dispatch, link_index}
use Rattle.machine_state.specs.Ownership.{IsAmong}
use Rattle.machine_state.specs.Roles.{opened_in}
use Rattle.machine_state.specs.Site.{Outcome}
use Rattle.machine_state.specs.StartPlans.{Plan, later_plan}
use Rattle.machine_state.specs.Holding.{nothing}
use Rattle.machine_state.specs.Turn.{Here, Turn, at_here}
use Rattle.machine_state.specs.Waiting.{AllDiffer, IsAbsent}
use Rattle.machine_state.specs.World.{World, Role, Join, holding_at, loaded}
use Rattle.machine_state.proofs.Among.{among_left, among_more, filtered, filter_keeps}
use Rattle.machine_state.proofs.EndedApart.{is_not}
use Rattle.machine_state.proofs.EveryWorld.{every_world}
use Rattle.machine_state.proofs.MovesLeaveAlone.{on_task_only, wake_only, rouse_only, chooses, joined_either}
use Rattle.machine_state.proofs.MovesLeaveAlone.{with_opened, without, member_gone}
use Rattle.machine_state.proofs.Roles.{field_at}
use Rattle.machine_state.proofs.StartedApart.{found_row}
use Rattle.machine_state.proofs.Starting.{MayStart, first_tests, later_tests}
use Rattle.machine_state.proofs.Turns.{turn_happens}
use Rattle.machine_state.proofs.Waiting.{reached}
use Rattle.world_laws.specs.Members.{HasMembers, JoinsHaveMembers}
use Rattle.world_laws.proofs.Filling.{fill_only}
use Rattle.world_laws.proofs.KeptWords.{on_role_tells, pushed_tells, opened_kept, nothing_open}

-- ---- members that differ

absent_push : (p r : ℕ) (qs : List ℕ) → IsAbsent p qs → p ≢ r → IsAbsent p (qs ++ r ∷ [])
absent_push p r [] none differ = (differ, tt)
absent_push p r (q ∷ qs) none differ = (none.0, absent_push p r qs none.1 differ)

differ_push : (r : ℕ) (qs : List ℕ) → AllDiffer qs → ((q : ℕ) → IsAmong q qs → q ≢ r) → AllDiffer (qs ++ r ∷ [])
differ_push r [] all new = (tt, tt)
differ_push r (q ∷ qs) all new = (
  absent_push q r qs all.0 (new q (inl refl)),
  differ_push r qs all.1 (λ p among. new p (inr among)),
)

absent_filtered : (test : ℕ → Bool) (p : ℕ) (qs : List ℕ) → IsAbsent p qs → IsAbsent p (filter test qs)
absent_filtered test p [] none = tt
absent_filtered test p (q ∷ qs) none = on (absent_filtered test p qs none.1) (test q)
  where
    on : IsAbsent p (filter test qs) → (b : Bool)
        → IsAbsent p (if b then q ∷ filter test qs else filter test qs)
    on further true = (none.0, further)
    on further false = further

differ_filtered : (test : ℕ → Bool) (qs : List ℕ) → AllDiffer qs → AllDiffer (filter test qs)
differ_filtered test [] all = tt
differ_filtered test (q ∷ qs) all = on (differ_filtered test qs all.1) (test q)
  where
    on : AllDiffer (filter test qs) → (b : Bool) → AllDiffer (if b then q ∷ filter test qs else filter test qs)
    on further true = (absent_filtered test q qs all.0, further)
    on further false = further

filtered_size : (test : ℕ → Bool) (qs : List ℕ) → length (filter test qs) ≤ length qs
filtered_size test [] = omega arith
filtered_size test (q ∷ qs) = on (filtered_size test qs) (test q)
  where
    on : length (filter test qs) ≤ length qs → (b : Bool)
        → length (if b then q ∷ filter test qs else filter test qs) ≤ length (q ∷ qs)
    on further true = omega (arith, further)
    on further false = omega (arith, further)

-- ---- the number of a branch that is found

row_number : (to i : ℕ) (bs : List Branch) (b : ℕ × Branch) → found_in_row to i bs ≡ Some b → b.0 < i + length bs
row_number to i [] b is = absurd (cc)
row_number to i (x ∷ bs) b is = on (row_number to (i + 1) bs b) (x.entry == to) is
  where
    on : (found_in_row to (i + 1) bs ≡ Some b → b.0 < i + 1 + length bs) → (same : Bool)
        → cond same (Some (i, x)) (found_in_row to (i + 1) bs) ≡ Some b → b.0 < i + length (x ∷ bs)
    on further true is = let it : i ≡ b.0 = cc in omega (arith, it)
    on further false is = let low = further is in omega (arith, low)

found_number : (to r : ℕ) (pars : List Par) (found : Found) → found_from to r pars ≡ Some found
    → found.number < length found.par.branches
found_number to r [] found is = absurd (cc)
found_number to r (par ∷ pars) found is =
    on (found_number to (r + 1) pars found) (found_in_row to 0 par.branches) refl is
  where
    on : (found_from to (r + 1) pars ≡ Some found → found.number < length found.par.branches)
        → (o : Option (ℕ × Branch)) → found_in_row to 0 par.branches ≡ o
        → elim o as (λ o. Option Found) [
          | Some b ↦ Some (record { row = r; par = par; number = b.0; branch = b.1 })
          | None ↦ found_from to (r + 1) pars
        ] ≡ Some found → found.number < length found.par.branches
    on further (Some b) row is =
        let there : Found = record { row = r; par = par; number = b.0; branch = b.1 } in
        let same : there ≡ found = cc in
        let low = row_number to 0 par.branches b row in
        subst (λ (f : Found). f.number < length f.par.branches) same (omega (arith, low))
    on further None row is = further is

-- ---- joins that are open

module _ (m : Contents) where
  -- with members below this number
  abbrev HaveMembers : ℕ → List Role → Type 0
  HaveMembers size roles = (p : ℕ) (j : Join) → opened_in roles p ≡ Some j → HasMembers m size p j

  abbrev Have : World → Type 0
  Have w = HaveMembers (length w.roles) w.roles

  same_roles : (w v : World) → v.roles ≡ w.roles → Have w → Have v
  same_roles w v same before = subst (λ (rs : List Role). HaveMembers (length rs) rs) (sym same) before

  more_processes : (p : ℕ) (j : Join) (size : ℕ) → HasMembers m size p j → HasMembers m (size + 1) p j
  more_processes p j size x = record {
    differ = x.differ;
    processes = λ q among. let low = x.processes q among in omega (arith, low);
    most = x.most;
    started = x.started;
    all_started = x.all_started;
  }

  on_role_size : (q : ℕ) (f : Role → Role) (w : World) → length (on_role q f w).roles ≡ length w.roles
  on_role_size q f w = on (slice_get w.roles q)
    where
      on : (o : Option Role) → length (elim o as (λ o. World)
          [ None ↦ w | Some role ↦ record w { roles = slice_set w.roles q (f role) } ]).roles ≡ length w.roles
      on None = refl
      on (Some r) = length-set w.roles q (f r)

  -- the role of a process was changed
  role_has : (q : ℕ) (f : Role → Role) (w : World)
      → ((r : Role) (j : Join) → slice_get w.roles q ≡ Some r → (f r).opened ≡ Some j
      → HasMembers m (length w.roles) q j) → Have w → Have (on_role q f w)
  role_has q f w new before p j is = subst (λ n. HasMembers m n p j) (sym (on_role_size q f w))
      (elim (on_role_tells q f w p j is) [
        | inl old ↦ before p j old
        | inr x ↦ subst (λ n. HasMembers m (length w.roles) n j) x.2 (new x.0 j x.1 x.3)
      ])

  -- ---- a member of a join ends

  without_it : (p o : ℕ) (j : Join) (size : ℕ) → HasMembers m size o j
      → ((par : Par) → slice_get m.pars j.row ≡ Some par → (IsAmong o (without p j).members → ⊥)
      → j.started ≡ length par.branches) → HasMembers m size o (without p j)
  without_it p o j size x all = record {
    differ = differ_filtered _ j.members x.differ;
    processes = λ q among. x.processes q (filtered _ j.members q among).0;
    most = let fewer = filtered_size (λ q. not (q == p)) j.members in let most = x.most in omega (arith, fewer, most);
    started = x.started;
    all_started = all;
  }

  joins_have : (h : Here) (o : ℕ) (j : Join) (par : Par) (v : World) → opened_in v.roles o ≡ Some j
      → ((par : Par) → slice_get m.pars j.row ≡ Some par → (IsAmong o (without h.process j).members → ⊥)
      → j.started ≡ length par.branches) → Have v → Have (member_joined h o j par v)
  unfolding dispatch
  joins_have h o j par v is all before = joined_either Have h o j par v
      (λ none. role_has o (with_opened None) (on_task o (closed_task j par) gone) (λ r i here shut. absurd (cc))
      (same_roles gone (on_task o (closed_task j par) gone) (on_task_only o (closed_task j par) gone).roles fewer))
      (λ some. fewer)
    where
      gone : World
      gone = member_gone h o j v

      fewer : Have gone
      fewer = role_has o (with_opened (Some (without h.process j))) v (λ r i here opened.
          let same : without h.process j ≡ i = cc in
          subst (λ (i : Join). HasMembers m (length v.roles) o i) same
          (without_it h.process o j (length v.roles) (before o j is) all)) before

  -- ---- a branch starts

  starts_have : (p : ℕ) (k : Join) (new : Role) (v : World) → new.opened ≡ None
      → HasMembers m (length v.roles + 1) p k → Have v
      → HaveMembers (length ((on_role p (with_opened (Some k)) v).roles ++ new ∷ []))
      ((on_role p (with_opened (Some k)) v).roles ++ new ∷ [])
  starts_have p k new v shut has before q j is =
      subst (λ n. HasMembers m n q j) (sym size) (elim (on_role_tells p (with_opened (Some k)) v q j
      (pushed_tells given.roles new q j shut is)) [
        | inl old ↦ more_processes q j (length v.roles) (before q j old)
        | inr x ↦
            let it : k ≡ j = (let y = x.3 in cc) in
            subst (λ n. HasMembers m (length v.roles + 1) n j) x.2
            (subst (λ (j : Join). HasMembers m (length v.roles + 1) p j) it has)
      ])
    where
      given : World
      given = on_role p (with_opened (Some k)) v

      size : length (given.roles ++ new ∷ []) ≡ length v.roles + 1
      size = length-append given.roles (new ∷ []) ∙ ap (λ n. n + 1) (on_role_size p (with_opened (Some k)) v)

  -- the join of a plan once the branch is started that was found, which is the next one
  next_has : (p target workspace n size : ℕ) (found : Found) (plan : Plan) → found_at m target ≡ Some found
      → plan.row ≡ found.row → MayStart n plan found workspace → AllDiffer plan.members
      → ((q : ℕ) → IsAmong q plan.members → q < size) → length plan.members ≤ plan.started + 1
      → ((par : Par) → slice_get m.pars plan.row ≡ Some par → (IsAmong p plan.members → ⊥)
      → plan.started ≡ length par.branches)
      → HasMembers m (size + 1) p (join_after n plan found size)
  next_has p target workspace n size found plan is row may differ processes most all = record {
    differ = differ_push size plan.members differ (λ q among equal.
        let low = processes q among in omega (arith, low, equal));
    processes = λ q among. elim (among_more q plan.members (size ∷ []) among) [
      | inl before ↦ let low = processes q before in omega (arith, low)
      | inr last ↦ elim last [ inl new ↦ omega (arith, new) | inr none ↦ absurd none ]
    ];
    most = let size = length-append plan.members (size ∷ []) in omega (arith, size, most);
    started = λ par here. let low = is_low par here in omega (arith, number, low);
    all_started = λ par here none.
        let low = is_low par here in
        let full = all par here (λ among. none (among_left p plan.members (size ∷ []) among)) in
        absurd (omega (arith, number, low, full));
  }
    where
      number : found.number ≡ plan.started
      number = eqb-true found.number plan.started (and_parts _ _ may.next).0

      is_low : (par : Par) → slice_get m.pars plan.row ≡ Some par → found.number < length par.branches
      is_low par here = subst (λ (par : Par). found.number < length par.branches)
          (same_some (slice_get m.pars found.row) found.par par (found_row m target found is)
          (subst (λ k. slice_get m.pars k ≡ Some par) row here))
          (found_number target 0 m.pars found is)

-- ---- by the way in which the world has moved

module _ (h : Here) (w : World) (there : slice_get w.tasks h.process ≡ Some h.from)
    (size : length w.roles ≡ length w.tasks) (before : Have h.contents w) where
  abbrev StillHave : World → Type 0
  StillHave v = Have h.contents v

  as_before : (v : World) → v.roles ≡ w.roles → StillHave v
  as_before v same = same_roles h.contents w v same before

  -- the process of this number starts a branch of its own PAR
  comes : (k : Join) (new : Role) (v : World) → v.roles ≡ w.roles → new.opened ≡ None
      → HasMembers h.contents (length w.tasks + 1) h.process k
      → HaveMembers h.contents (length ((on_role h.process (with_opened (Some k)) v).roles ++ new ∷ []))
      ((on_role h.process (with_opened (Some k)) v).roles ++ new ∷ [])
  comes k new v same shut has = starts_have h.contents h.process k new v shut
      (subst (λ n. HasMembers h.contents (n + 1) h.process k)
      (sym (ap (λ (rs : List Role). length rs) same ∙ size)) has) (as_before v same)

  moved : (o : Outcome) (v : World) → Moved h w o v → StillHave v
  unfolding dispatch
  moved o v (turns.receives_from e l c other sent inside here who is same) =
      as_before v (wake_only other _).roles
  moved o v (turns.sends_first e l c inside here none) = as_before v (rouse_only c.enabled _).roles
  moved o v (turns.sends_to e l c other wanted inside here who is same) = as_before v (wake_only other _).roles
  moved o v (turns.starts_first target workspace l found is none tests) =
      let plan = plan_of h w found in
      let low = slice_get_within w.tasks h.process h.from there in
      let hold = holding_at w.roles h.process in
      comes (join_after (length w.memory) plan found (length w.tasks)) _ _ refl refl
      (next_has h.contents h.process target workspace (length w.memory) (length w.tasks) found plan is refl
      (first_tests h.contents w.memory hold plan found workspace tests).0 (tt, tt)
      (λ q among. elim among [ inl it ↦ omega (arith, low, it) | inr none ↦ absurd none ]) (omega arith)
      (λ par row none. absurd (none (inl refl))))
  moved o v (turns.starts_later target workspace l found j is is_open same tests) =
      let plan = later_plan h.contents j found.par in
      let has = before h.process j is_open in
      comes (join_after (length w.memory) plan found (length w.tasks)) _ _ refl refl
      (next_has h.contents h.process target workspace (length w.memory) (length w.tasks) found plan is
      (sym (eqb-true found.row j.row same)) (later_tests (length w.memory) plan found workspace tests) has.differ
      (λ q among. let low = has.processes q among in omega (arith, low, size)) has.most has.all_started)
  moved o v (turns.joins_own block l j par is row whole) =
      joins_have h.contents h h.process j par (ended h l w) is (λ other here none.
      let it = same_some (slice_get h.contents.pars j.row) par other row here in
      subst (λ (par : Par). j.started ≡ length par.branches) it
      (eqb-true j.started (length par.branches) (and_parts _ _ whole).1)) before
  moved o v (turns.joins_opener block l opener j par none by is row same) =
      let f : Role → Role = λ role. record role { own = nothing } in
      let there = ended h l w in
      let differ : opener ≢ h.process =
      λ e. let z : Some j ≡ None = sym is ∙ (ap (λ n. opened_in w.roles n) e ∙ none) in cc in
      joins_have h.contents h opener j par (given_back h there) (opened_kept h.process f there (λ r. refl) opener ∙ is)
      (λ other here gone. (before opener j is).all_started other here (λ among. gone
      (filter_keeps (λ q. not (q == h.process)) j.members opener among (is_not opener h.process differ))))
      (role_has h.contents h.process f there (λ r i here opened. before h.process i
      (field_at (λ (r : Role). r.opened) None w.roles h.process r here ∙ opened)) before)
  moved o v (turns.it_disables guard address distance l s holds (turns.on_channel c inside here) own) =
      chooses h w l StillHave (λ r mode n same further. before) (is_some c.waiting) distance
  moved o v (turns.it_disables guard address distance l s holds (turns.on_link n link on here) own) =
      chooses h w l StillHave (λ r mode n same further. before) (is_some link.kept) distance
  moved o v (turns.it_disables_nothing guard address distance l off) =
      chooses h w l StillHave (λ r mode n same further. before) false distance
  moved o v (turns.it_disables_a_skip guard distance l) =
      chooses h w l StillHave (λ r mode n same further. before) guard distance
  moved o v (turns.it_enables guard address l s holds (turns.on_channel c inside here) once) = before
  moved o v (turns.it_enables guard address l s holds (turns.on_link n link on here) once) = before
  moved o v _ = before

  ends : (o : Outcome) (t : Turn) → TurnsInto h w o t → StillHave t.world
  unfolding dispatch
  ends o t (turns.at_fault refused) = before
  ends o t (turns.has_run {after = v} moves) = moved o v moves
  ends o t (turns.has_emitted e l n on same) = before

-- ---- every event

module _ (m : Contents) (w : World) (size : length w.roles ≡ length w.tasks) (before : Have m w) where
  roles_stay : (v : World) → v.roles ≡ w.roles → Have m v
  roles_stay v same = same_roles m w v same before

  happened : (e : Event) (t : Turn) → Happened m w e t → Have m t.world
  unfolding dispatch
  happened e t (turns.was_at_fault f is) = before
  happened e t (turns.it_rests rests) = before
  happened e t (turns.is_outside n task why runs here) = before
  happened e t (turns.is_prefix n task byte operand runs here at none it next) = before
  happened e t (turns.is_step {pick = pick} n task byte f runs here at is so) =
      ends (at_here m n task pick) w here size before _ t so
  happened e t (turns.is_taken {link = link} {byte = byte} input n here waiting) =
      roles_stay t.world (fill_only n (link_index link) byte input w).roles
  happened e t (turns.is_kept input here none empty) = roles_stay t.world (rouse_only input.enabled _).roles
  happened e t (turns.is_acknowledged output n here waiting) = roles_stay t.world (wake_only n _).roles

pub joins_have_members : JoinsHaveMembers
joins_have_members m es p j is =
    subst (λ n. HasMembers m n p j) (reached m es).rest.size (every_world m (Have m) first (λ es e before.
    happened m (world_after m es) (reached m es).rest.size before e _ (turn_happens m (world_after m es) e)) es p j is)
  where
    first : Have m (loaded m)
    first p j is = absurd (nothing_open m p j is)
