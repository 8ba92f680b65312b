-- A process in the line is ready, and is there once; a process that a link says to wait does wait there.
use Rattle.std.proofs.Common.{◌≡◌, ◌≢◌, ℕ, zero, suc, ◌+◌, ◌*◌, ◌<◌, ◌≤◌, Bool, true, false, if◌then◌else◌, ◌⊎◌, inl}
use Rattle.std.proofs.Common.{inr, ℤ, List, [], ◌∷◌, ◌++◌, length, Option, Some, None, is_some, refl, sym, ap, ◌∙◌}
use Rattle.std.proofs.Common.{subst, slice_get, arith, eqb-true}
use Rattle.std.proofs.lemmas.Bool.{cases_eq, eqb-false, or_cases, or_left, or_right}
use Rattle.std.proofs.lemmas.List.{length-set, length-append}
use Rattle.std.proofs.lemmas.Option.{slice_get_within}
use Rattle.std.specs.Prelude.{◌%◌, ◌^◌, replicate, ◌==◌, filter, not, slice_set}
use Rattle.small_laws.proofs.Options.{same_some}
use Rattle.small_laws.proofs.Comparisons.{eqb-self}
use Rattle.small_laws.proofs.Lookups.{slice_get-append_left}
use Rattle.module_format.specs.Contents.{Contents, Par}
use Rattle.machine_state.specs.declared.event.Event.{Event}
use Rattle.machine_state.specs.declared.link.InputLink.{InputLink}
use Rattle.machine_state.specs.declared.link.OutputLink.{OutputLink}
use Rattle.machine_state.specs.declared.process.Registers.{Registers}
use Rattle.machine_state.specs.declared.process.Task.{Task}
use Rattle.machine_state.specs.declared.process.Mode.{Mode}
use Rattle.machine_state.specs.declared.process.Mode.TheVariants.{Plain, Enabling, Disabling, Starting}
use Rattle.machine_state.specs.declared.process.Condition.{Condition}
use Rattle.machine_state.specs.declared.process.Condition.TheVariants.{Ready, Sending, Receiving, OnLink, Alternating}
use Rattle.machine_state.specs.declared.process.Condition.TheVariants.{Stopped, Ended}
use Rattle.machine_state.specs.declared.process.Exchange.{Exchange}
use Rattle.machine_state.specs.Memory.{Memory, place_of, with_byte}
use Rattle.machine_state.specs.World.{World, Queue, Links, Role, Join, input_word, output_word, loaded, root_task}
use Rattle.machine_state.specs.World.{root_role}
use Rattle.machine_state.specs.Site.{Local, Outcome}
use Rattle.machine_state.specs.LocalStep.{copied}
use Rattle.machine_state.specs.Moves.{on_task, wake, enqueue, leave, dispatch, rouse, rouse_task, rouse_enabling, fill}
use Rattle.machine_state.specs.Moves.{fill_condition, with_condition, link_index, finished_where, with_channel}
use Rattle.machine_state.specs.Moves.{with_input, with_output, cell_of}
use Rattle.machine_state.specs.Turn.{Here, Turn, at_here, between, continued, waiting}
use Rattle.machine_state.specs.Joins.{on_role, member_joined, closed_task, started, opened, ended, new_task, join_after}
use Rattle.machine_state.specs.Joins.{with_channels, without_words}
use Rattle.machine_state.specs.StartPlans.{Plan, share_by, later_plan, scheduling_addresses}
use Rattle.machine_state.specs.JoinLookups.{Found, opened_by}
use Rattle.machine_state.specs.BranchShares.{holding_of}
use Rattle.machine_state.specs.Alternations.{chosen, ready_or}
use Rattle.machine_state.specs.Endings as turns
use Rattle.machine_state.proofs.Turns.{turn_happens}
use Rattle.machine_state.specs.Endings.{Moved, TurnsInto, Happened}
use Rattle.machine_state.specs.Happens.{site_of, turn, run_from, world_after}
use Rattle.prefix_decoder.specs.Functions.{nibble}
use Rattle.prefix_decoder.specs.Operand.{with_nibble}
use Rattle.machine_state.specs.Waiting.{LinesAreReady, LinksHaveTheirWaiters, IsAwaited, ArrivalsFillBuffers, IsOver}
use Rattle.machine_state.specs.Waiting.{is_member, Opens, IsGone, IsCounted, BranchesAreCounted, IsReadyAt, AllReady}
use Rattle.machine_state.specs.Waiting.{IsAbsent, line, Line, WaitsOn, Waiters}
use Rattle.machine_state.specs.Writing.{wanted_by, wanted_on}
use Rattle.machine_state.specs.declared.link.Link.{Link}
use Rattle.machine_state.specs.Exchanges.{link_from, condition_of, waits_at}
use Rattle.machine_state.specs.declared.process.Channel.{Channel}
use Rattle.machine_state.specs.Holding.{Holding, nothing}
use Rattle.machine_state.proofs.EveryInstruction.{each_step}
use Rattle.machine_state.proofs.Writing.{Message, messages}
use Rattle.machine_state.proofs.Lines.{got_set, got_other, got_within, set_either, all_ready_without}
use Rattle.machine_state.proofs.Lines.{absent_by_condition, push_line, told_in, pick_line, got_last}
use Rattle.machine_state.proofs.Lines.{got_either, all_ready_before, new_absent}
use Rattle.machine_state.proofs.MovesLeaveAlone.{rouse_beside, on_role_only, on_role_is, on_task_is, chooses}

-- ---- what holds besides the line

pub record Rest (tasks : List Task) (roles : List Role) (links : Links) : Type 0 where
  pub four : length links.outputs ≡ 4
  pub waiters : Waiters tasks links
  pub joins : (p : ℕ) (r : Role) (j : Join) → slice_get roles p ≡ Some r → r.opened ≡ Some j → Opens tasks p j
  pub counted : (p : ℕ) (r : Role) (o : ℕ) → slice_get roles p ≡ Some r → r.opener ≡ Some o
      → IsGone tasks r p ⊎ IsCounted roles o p
  pub openers : (p : ℕ) (r : Role) (o : ℕ) → slice_get roles p ≡ Some r → r.opener ≡ Some o → o < p
  pub size : length roles ≡ length tasks

pub record WaitsIn (w : World) : Type 0 where
  pub line : Line w.tasks w.queue
  pub rest : Rest w.tasks w.roles w.links

-- ---- a task is changed

-- who waits on a link or has ended does so afterwards
record Calm (c d : Condition) : Type 0 where
  link : (e : Exchange) (done : ℕ) → c ≡ OnLink e done → d ≡ OnLink e done
  over : c ≡ Ended → d ≡ Ended

calm_same : (c d : Condition) → d ≡ c → Calm c d
calm_same c d same = record { link = λ e done is. same ∙ is; over = λ is. same ∙ is }

calm_ready : (c d : Condition) → c ≡ Ready → Calm c d
calm_ready c d ready = record {
  link = λ e done is. absurd (let x : Ready ≡ OnLink e done = sym ready ∙ is in cc);
  over = λ is. absurd (let x : Ready ≡ Ended = sym ready ∙ is in cc);
}

-- another process waits as before
waits_elsewhere : (tasks : List Task) (q : ℕ) (u : Task) (p word : ℕ) → q ≢ p → WaitsOn tasks p word
    → WaitsOn (slice_set tasks q u) p word
waits_elsewhere tasks q u p word differ x =
    let here = got_other tasks q p u differ ∙ x.here in
    let e = x.exchange in
    record { task = x.task; here = here; exchange = e; done = x.done; waits = x.waits; on = x.on; more = x.more }

module _ (tasks : List Task) (q : ℕ) (t u : Task) (here : slice_get tasks q ≡ Some t) where
  changed_here : (p : ℕ) → q ≡ p → slice_get (slice_set tasks q u) p ≡ Some u
  changed_here p e = subst (λ n. slice_get (slice_set tasks q u) n ≡ Some u) e (got_set tasks q t u here)

  it_was : (p : ℕ) (x : Task) → q ≡ p → slice_get tasks p ≡ Some x → t.condition ≡ x.condition
  it_was p x e there = ap (λ (v : Task). v.condition) (same_some (slice_get tasks p) t x
      (subst (λ n. slice_get tasks n ≡ Some t) e here) there)

  waits_after : ((e : Exchange) (done : ℕ) → t.condition ≡ OnLink e done → u.condition ≡ OnLink e done)
      → (p word : ℕ) → WaitsOn tasks p word → WaitsOn (slice_set tasks q u) p word
  waits_after link p word x = elim (cases_eq q p) [
    | inl e ↦ record {
      task = u;
      here = changed_here p e;
      exchange = x.exchange;
      done = x.done;
      waits = link x.exchange x.done (it_was p x.task e x.here ∙ x.waits);
      on = x.on;
      more = x.more;
    }
    | inr differ ↦ waits_elsewhere tasks q u p word differ x
  ]

  over_after : (t.condition ≡ Ended → u.condition ≡ Ended) → (p : ℕ) → IsOver tasks p
      → IsOver (slice_set tasks q u) p
  over_after ended p x = elim (cases_eq q p) [
    | inl e ↦ record { task = u; here = changed_here p e; over = ended (it_was p x.task e x.here ∙ x.over) }
    | inr differ ↦ record { task = x.task; here = got_other tasks q p u differ ∙ x.here; over = x.over }
  ]

  opens_after : (t.condition ≡ Ended → u.condition ≡ Ended) → (p : ℕ) (j : Join) → Opens tasks p j
      → Opens (slice_set tasks q u) p j
  opens_after ended p j (inl member) = inl member
  opens_after ended p j (inr over) = inr (over_after ended p over)

  gone_after : (roles : List Role) → (t.condition ≡ Ended → u.condition ≡ Ended) → (p : ℕ) (r : Role) (o : ℕ)
      → IsGone tasks r p ⊎ IsCounted roles o p → IsGone (slice_set tasks q u) r p ⊎ IsCounted roles o p
  gone_after roles ended p r o (inl gone) = inl (gone.0, over_after ended p gone.1)
  gone_after roles ended p r o (inr counted) = inr counted

  ready_after : (t.condition ≡ Ready → u.condition ≡ Ready) → (qs : List ℕ) → AllReady tasks qs
      → AllReady (slice_set tasks q u) qs
  ready_after ready [] all = tt
  ready_after ready (p ∷ ps) all = (
    elim (cases_eq q p) [
      | inl e ↦ record {
        task = u;
        here = changed_here p e;
        ready = ready (it_was p all.0.task e all.0.here ∙ all.0.ready);
      }
      | inr differ ↦ record {
        task = all.0.task;
        here = got_other tasks q p u differ ∙ all.0.here;
        ready = all.0.ready;
      }
    ],
    ready_after ready ps all.1,
  )

  rest_after : (roles : List Role) (links : Links) → Calm t.condition u.condition → Rest tasks roles links
      → Rest (slice_set tasks q u) roles links
  rest_after roles links calm r = record {
    four = r.four;
    waiters = record {
      inputs = λ k l p a b. waits_after calm.link p (input_word k) (r.waiters.inputs k l p a b);
      outputs = λ k l p a b. waits_after calm.link p (output_word k) (r.waiters.outputs k l p a b);
    };
    joins = λ p x j a b. opens_after calm.over p j (r.joins p x j a b);
    counted = λ p x o a b. gone_after roles calm.over p x o (r.counted p x o a b);
    openers = r.openers;
    size = r.size ∙ sym (length-set tasks q u);
  }

-- ---- links

rest_input : (tasks : List Task) (roles : List Role) (links : Links) (k : ℕ) (l : InputLink)
    → ((p : ℕ) → l.waiting ≡ Some p → WaitsOn tasks p (input_word k)) → Rest tasks roles links
    → Rest tasks roles (record links { inputs = slice_set links.inputs k l })
rest_input tasks roles links k l waits r = record {
  four = r.four;
  waiters = record {
    inputs = λ j x p a b. elim (set_either links.inputs k l j x a) [
      | inl e ↦ subst (λ n. WaitsOn tasks p (input_word n)) e.0
          (waits p (ap (λ (i : InputLink). i.waiting) (sym e.1) ∙ b))
      | inr old ↦ r.waiters.inputs j x p old.1 b
    ];
    outputs = r.waiters.outputs;
  };
  joins = r.joins;
  counted = r.counted;
  openers = r.openers;
  size = r.size;
}

rest_output : (tasks : List Task) (roles : List Role) (links : Links) (k : ℕ) (l : OutputLink)
    → ((p : ℕ) → l.waiting ≡ Some p → WaitsOn tasks p (output_word k)) → Rest tasks roles links
    → Rest tasks roles (record links { outputs = slice_set links.outputs k l })
rest_output tasks roles links k l waits r = record {
  four = length-set links.outputs k l ∙ r.four;
  waiters = record {
    inputs = r.waiters.inputs;
    outputs = λ j x p a b. elim (set_either links.outputs k l j x a) [
      | inl e ↦ subst (λ n. WaitsOn tasks p (output_word n)) e.0
          (waits p (ap (λ (i : OutputLink). i.waiting) (sym e.1) ∙ b))
      | inr old ↦ r.waiters.outputs j x p old.1 b
    ];
  };
  joins = r.joins;
  counted = r.counted;
  openers = r.openers;
  size = r.size;
}

-- ---- a role

-- who is counted by a join is counted by the later one, or is gone
abbrev StillCounts : List Task → List Role → ℕ → Role → Role → Type 0
StillCounts tasks roles q r new =
    (p : ℕ) (x : Role) (j : Join) → slice_get roles p ≡ Some x → x.opener ≡ Some q → r.opened ≡ Some j
    → is_member j.members p ≡ true
    → IsGone tasks x p ⊎ ((k : Join) × (new.opened ≡ Some k) × (is_member k.members p ≡ true))

rest_role : (tasks : List Task) (roles : List Role) (links : Links) (q : ℕ) (r new : Role)
    → slice_get roles q ≡ Some r → new.opener ≡ r.opener
    → ((j : Join) → new.opened ≡ Some j → Opens tasks q j)
    → (IsOver tasks q → r.opened ≡ None → new.opened ≡ None) → StillCounts tasks roles q r new
    → Rest tasks roles links → Rest tasks (slice_set roles q new) links
rest_role tasks roles links q r new here opener opened gone counts h = record {
  four = h.four;
  waiters = h.waiters;
  joins = λ p x j a b. elim (set_either roles q new p x a) [
    | inl e ↦ subst (λ n. Opens tasks n j) e.0 (opened j (ap (λ (y : Role). y.opened) (sym e.1) ∙ b))
    | inr old ↦ h.joins p x j old.1 b
  ];
  counted = λ p x o a b. elim (set_either roles q new p x a) [
    | inl e ↦ itself p x o e.0 e.1
        (h.counted q r o here (sym opener ∙ (ap (λ (y : Role). y.opener) (sym e.1) ∙ b)))
        (h.openers q r o here (sym opener ∙ (ap (λ (y : Role). y.opener) (sym e.1) ∙ b)))
    | inr old ↦ another p x o old.1 b (h.counted p x o old.1 b)
  ];
  openers = λ p x o a b. elim (set_either roles q new p x a) [
    | inl e ↦ subst (λ n. o < n) e.0
        (h.openers q r o here (sym opener ∙ (ap (λ (y : Role). y.opener) (sym e.1) ∙ b)))
    | inr old ↦ h.openers p x o old.1 b
  ];
  size = length-set roles q new ∙ h.size;
}
  where
    elsewhere : (o p : ℕ) → q ≢ o → IsCounted roles o p → IsCounted (slice_set roles q new) o p
    elsewhere o p differ c = record {
      role = c.role;
      here = got_other roles q o new differ ∙ c.here;
      join = c.join;
      is_open = c.is_open;
      member = c.member;
    }

    itself : (p : ℕ) (x : Role) (o : ℕ) → q ≡ p → x ≡ new → IsGone tasks r q ⊎ IsCounted roles o q → o < q
        → IsGone tasks x p ⊎ IsCounted (slice_set roles q new) o p
    itself p x o e same (inl was) low = inl (
      ap (λ (y : Role). y.opened) same ∙ gone was.1 was.0,
      subst (λ n. IsOver tasks n) e was.1,
    )
    itself p x o e same (inr c) low =
        inr (subst (λ n. IsCounted (slice_set roles q new) o n) e (elsewhere o q (λ e. omega arith) c))

    by_opener : (p : ℕ) (x : Role) (o : ℕ) → IsGone tasks x p ⊎ ((k : Join) × (new.opened ≡ Some k)
        × (is_member k.members p ≡ true)) → q ≡ o → IsGone tasks x p ⊎ IsCounted (slice_set roles q new) o p
    by_opener p x o (inl was) e = inl was
    by_opener p x o (inr k) e = inr (record {
      role = new;
      here = subst (λ n. slice_get (slice_set roles q new) n ≡ Some new) e (got_set roles q r new here);
      join = k.0;
      is_open = k.1;
      member = k.2;
    })

    another : (p : ℕ) (x : Role) (o : ℕ) → slice_get roles p ≡ Some x → x.opener ≡ Some o
        → IsGone tasks x p ⊎ IsCounted roles o p → IsGone tasks x p ⊎ IsCounted (slice_set roles q new) o p
    another p x o a b (inl was) = inl was
    another p x o a b (inr c) = elim (cases_eq q o) [
      | inl e ↦
          let same : c.role ≡ r =
          same_some (slice_get roles q) c.role r (subst (λ n. slice_get roles n ≡ Some c.role) (sym e) c.here) here in
          by_opener p x o (counts p x c.join a (b ∙ ap (λ (n : ℕ). Some n) (sym e))
          (ap (λ (y : Role). y.opened) (sym same) ∙ c.is_open) c.member) e
      | inr differ ↦ inr (elsewhere o p differ c)
    ]

role_keeps : (q : ℕ) (f : Role → Role) (w : World)
    → ((r : Role) → slice_get w.roles q ≡ Some r → (f r).opener ≡ r.opener)
    → ((r : Role) (j : Join) → slice_get w.roles q ≡ Some r → (f r).opened ≡ Some j → Opens w.tasks q j)
    → ((r : Role) → slice_get w.roles q ≡ Some r → IsOver w.tasks q → r.opened ≡ None → (f r).opened ≡ None)
    → ((r : Role) → slice_get w.roles q ≡ Some r → StillCounts w.tasks w.roles q r (f r))
    → WaitsIn w → WaitsIn (on_role q f w)
role_keeps q f w opener opened gone counts h = on (slice_get w.roles q) refl
  where
    on : (o : Option Role) → slice_get w.roles q ≡ o → WaitsIn (elim o as (λ o. World) [
      | None ↦ w
      | Some r ↦ record w { roles = slice_set w.roles q (f r) }
    ])
    on None here = h
    on (Some r) here = record {
      line = h.line;
      rest = rest_role w.tasks w.roles w.links q r (f r) here (opener r here) (λ j is. opened r j here is)
          (gone r here) (counts r here) h.rest;
    }

-- ---- the queue

enqueue_keeps : (q : ℕ) (w : World) → IsReadyAt w.tasks q → IsAbsent q (line w.queue) → WaitsIn w
    → WaitsIn (enqueue q w)
enqueue_keeps q w ready absent h = record {
  line = push_line w.tasks w.queue.running w.queue.ready q h.line ready absent;
  rest = h.rest;
}

dispatch_keeps : (pick : ℕ) (w : World) → WaitsIn w → WaitsIn (dispatch pick w)
unfolding dispatch
dispatch_keeps pick w h = record {
  line = pick_line w.tasks w.queue.running w.queue.ready pick h.line;
  rest = h.rest;
}

-- a task is changed, and stays in the line if it was there
change_keeps : (q : ℕ) (t u : Task) (w : World) → slice_get w.tasks q ≡ Some t
    → (t.condition ≡ Ready → u.condition ≡ Ready) → Calm t.condition u.condition → WaitsIn w
    → WaitsIn (record w { tasks = slice_set w.tasks q u })
change_keeps q t u w here ready calm h = record {
  line = record { ready = ready_after w.tasks q t u here ready (line w.queue) h.line.ready; once = h.line.once };
  rest = rest_after w.tasks q t u here w.roles w.links calm h.rest;
}

-- who waits becomes ready, where the links are right once it does
wake_keeps : (q : ℕ) (t : Task) (w : World) → slice_get w.tasks q ≡ Some t → (t.condition ≡ Ready → ⊥)
    → Line w.tasks w.queue → Rest (slice_set w.tasks q (record t { condition = Ready })) w.roles w.links
    → WaitsIn (wake q w)
wake_keeps q t w here waits old rest = subst (λ (v : World). WaitsIn (enqueue q v)) (sym there)
    (enqueue_keeps q (record w { tasks = slice_set w.tasks q (record t { condition = Ready }) })
    (record {
      task = record t { condition = Ready };
      here = got_set w.tasks q t (record t { condition = Ready }) here;
      ready = refl;
    }) (absent_by_condition w.tasks q t (line w.queue) here waits old.ready)
    (record {
      line = record {
        ready = ready_after w.tasks q t (record t { condition = Ready }) here (λ e. refl) (line w.queue) old.ready;
        once = old.once;
      };
      rest = rest;
    }))
  where
    there : on_task q (λ task. record task { condition = Ready }) w
        ≡ record w { tasks = slice_set w.tasks q (record t { condition = Ready }) }
    there = ap (λ (o : Option Task). elim o as (λ o. World) [
      | None ↦ w
      | Some task ↦ record w { tasks = slice_set w.tasks q (record task { condition = Ready }) }
    ]) here

-- one that waits for none of the links
wake_calm : (q : ℕ) (t : Task) (w : World) → slice_get w.tasks q ≡ Some t → (t.condition ≡ Ready → ⊥)
    → Calm t.condition Ready → WaitsIn w → WaitsIn (wake q w)
wake_calm q t w here waits calm h = wake_keeps q t w here waits h.line
    (rest_after w.tasks q t (record t { condition = Ready }) here w.roles w.links calm h.rest)

pub rouse_keeps : (o : Option ℕ) (w : World) → WaitsIn w → WaitsIn (rouse o w)
rouse_keeps None w h = h
rouse_keeps (Some q) w h = on (slice_get w.tasks q) refl
  where
    enabling : (t : Task) → slice_get w.tasks q ≡ Some t
        → WaitsIn (on_task q (λ task. record task { mode = Enabling true }) w)
    enabling t here = subst (λ (v : World). WaitsIn v) (sym (ap (λ (o : Option Task). elim o as (λ o. World) [
      | None ↦ w
      | Some task ↦ record w { tasks = slice_set w.tasks q (record task { mode = Enabling true }) }
    ]) here))
        (change_keeps q t (record t { mode = Enabling true }) w here (λ e. e) (calm_same t.condition t.condition refl)
        h)

    on_mode : (t : Task) → slice_get w.tasks q ≡ Some t → (mode : Mode) → WaitsIn (rouse_enabling q mode w)
    on_mode t here (Enabling is_ready) = enabling t here
    on_mode t here Plain = h
    on_mode t here (Disabling selection) = h
    on_mode t here Starting = h

    on_condition : (t : Task) → slice_get w.tasks q ≡ Some t → (mode : Mode) (c : Condition) → t.condition ≡ c
        → WaitsIn (rouse_task q mode c w)
    on_condition t here mode Alternating is = wake_calm q t w here
        (λ ready. let x : Alternating ≡ Ready = sym is ∙ ready in cc)
        (record {
          link = λ e done on. absurd (let x : Alternating ≡ OnLink e done = sym is ∙ on in cc);
          over = λ over. absurd (let x : Alternating ≡ Ended = sym is ∙ over in cc);
        }) h
    on_condition t here mode Ready is = on_mode t here mode
    on_condition t here mode (Sending e) is = on_mode t here mode
    on_condition t here mode (Receiving e) is = on_mode t here mode
    on_condition t here mode (OnLink e done) is = on_mode t here mode
    on_condition t here mode Stopped is = on_mode t here mode
    on_condition t here mode Ended is = on_mode t here mode

    on : (o : Option Task) → slice_get w.tasks q ≡ o → WaitsIn (elim o as (λ o. World) [
      | None ↦ w
      | Some task ↦ rouse_task q task.mode task.condition w
    ])
    on None here = h
    on (Some task) here = on_condition task here task.mode task.condition refl

-- it makes no difference whether the process leaves the line before or after
leave_rouse : (o : Option ℕ) (v : World) → leave (rouse o v) ≡ rouse o (leave v)
leave_rouse o v = rouse_beside leave (λ w. refl) (λ w tasks. refl) (λ p w. refl) o v

calm_sending : (e : Exchange) → Calm (Sending e) Ready
calm_sending e = record { link = λ x done is. absurd (cc); over = λ is. absurd (cc) }

calm_receiving : (e : Exchange) → Calm (Receiving e) Ready
calm_receiving e = record { link = λ x done is. absurd (cc); over = λ is. absurd (cc) }

-- the link whose word is at an address
pub link_found : (first address k : ℕ) → link_from first address ≡ Some k → address ≡ first + 4 * k
link_found first address k is =
    on (address == first) (address == first + 4) (address == first + 8) (address == first + 12) refl refl refl refl is
  where
    on : (a b c d : Bool) → (address == first) ≡ a → (address == first + 4) ≡ b → (address == first + 8) ≡ c
        → (address == first + 12) ≡ d
        → (if a then Some 0 else if b then Some 1 else if c then Some 2 else if d then Some 3 else None) ≡ Some k
        → address ≡ first + 4 * k
    on true b c d p q r s is = let e : 0 ≡ k = cc in let same = eqb-true address first p in omega arith
    on false true c d p q r s is = let e : 1 ≡ k = cc in let same = eqb-true address (first + 4) q in omega arith
    on false false true d p q r s is = let e : 2 ≡ k = cc in let same = eqb-true address (first + 8) r in omega arith
    on false false false true p q r s is =
        let e : 3 ≡ k = cc in let same = eqb-true address (first + 12) s in omega arith
    on false false false false p q r s is = absurd (cc)

-- there are four of them
pub link_low : (first address k : ℕ) → link_from first address ≡ Some k → k < 4
link_low first address k is =
    on (address == first) (address == first + 4) (address == first + 8) (address == first + 12) is
  where
    on : (a b c d : Bool)
        → (if a then Some 0 else if b then Some 1 else if c then Some 2 else if d then Some 3 else None) ≡ Some k
        → k < 4
    on true b c d is = let e : 0 ≡ k = cc in omega (arith, e)
    on false true c d is = let e : 1 ≡ k = cc in omega (arith, e)
    on false false true d is = let e : 2 ≡ k = cc in omega (arith, e)
    on false false false true is = let e : 3 ≡ k = cc in omega (arith, e)
    on false false false false is = absurd (cc)

pub input_words : (k : ℕ) → input_word 0 + 4 * k ≡ input_word k
input_words k = omega arith

pub output_words : (k : ℕ) → output_word 0 + 4 * k ≡ output_word k
output_words k = omega arith

-- the role of a process of which a function returns something
role_tells : {A : Type 0} (told : Role → Option A) (w : World) (p : ℕ) (x : A)
    → elim (slice_get w.roles p) as (λ o. Option A) [ None ↦ None | Some role ↦ told role ] ≡ Some x
    → (r : Role) × (slice_get w.roles p ≡ Some r) × (told r ≡ Some x)
role_tells told w p x is = told_in told w.roles p x is

opened_is : (w : World) (p : ℕ) (r : Role) → slice_get w.roles p ≡ Some r → opened_by w p ≡ r.opened
opened_is w p r here = ap (λ (o : Option Role). elim o as (λ o. Option Join)
    [ None ↦ None | Some role ↦ role.opened ]) here

member_last : (members : List ℕ) (p : ℕ) → is_member (members ++ p ∷ []) p ≡ true
member_last [] p = or_left _ _ (eqb-self p)
member_last (q ∷ qs) p = or_right (q == p) _ (member_last qs p)

-- each process has a role, and each role is of a process
pub has_role : (w : World) (p : ℕ) (t : Task) → slice_get w.tasks p ≡ Some t → length w.roles ≡ length w.tasks
    → (r : Role) × (slice_get w.roles p ≡ Some r)
has_role w p t there size =
    let inside = slice_get_within w.tasks p t there in got_within w.roles p (omega (arith, inside, size))

pub has_task : (w : World) (p : ℕ) (r : Role) → slice_get w.roles p ≡ Some r → length w.roles ≡ length w.tasks
    → (t : Task) × (slice_get w.tasks p ≡ Some t)
has_task w p r there size =
    let inside = slice_get_within w.roles p r there in got_within w.tasks p (omega (arith, inside, size))

-- ---- an instruction of the running process

-- who is still a member once another one has gone
member_stays : (members : List ℕ) (gone p : ℕ) → gone ≢ p → is_member members p ≡ true
    → is_member (filter (λ q. not (q == gone)) members) p ≡ true
member_stays [] gone p differ h = h
member_stays (q ∷ qs) gone p differ h =
    on (member_stays qs gone p differ) (q == gone) refl (or_cases (q == p) (is_member qs p) h)
  where
    on : (is_member qs p ≡ true → is_member (filter (λ q. not (q == gone)) qs) p ≡ true) → (b : Bool)
        → (q == gone) ≡ b → ((q == p) ≡ true) ⊎ (is_member qs p ≡ true)
        → is_member (if not b then q ∷ filter (λ q. not (q == gone)) qs else filter (λ q. not (q == gone)) qs) p ≡ true
    on further true e (inl here) = absurd (differ (sym (eqb-true q gone e) ∙ eqb-true q p here))
    on further true e (inr there) = further there
    on further false e (inl here) = or_left _ _ here
    on further false e (inr there) = or_right (q == p) _ (further there)

member_before : (members more : List ℕ) (p : ℕ) → is_member members p ≡ true → is_member (members ++ more) p ≡ true
member_before [] more p h = absurd (cc)
member_before (q ∷ qs) more p h = elim (or_cases (q == p) (is_member qs p) h) [
  | inl here ↦ or_left _ _ here
  | inr there ↦ or_right (q == p) _ (member_before qs more p there)
]

no_members : (members : List ℕ) (p : ℕ) → (length members == 0) ≡ true → is_member members p ≡ true → ⊥
no_members [] p none h = cc
no_members (q ∷ qs) p none h = let e : length (q ∷ qs) ≡ 0 = eqb-true _ 0 none in omega arith

module _ (h : Here) (w : World) (runs : w.queue.running ≡ Some h.process)
    (there : slice_get w.tasks h.process ≡ Some h.from) (keeps : WaitsIn w) where
  -- the line, with the process in front
  in_front : Line w.tasks (record { running = Some h.process; ready = w.queue.ready })
  in_front = subst (λ (o : Option ℕ). Line w.tasks (record { running = o; ready = w.queue.ready })) runs keeps.line

  is_ready : h.from.condition ≡ Ready
  is_ready =
      let first = in_front.ready.0 in
      ap (λ (t : Task). t.condition) (same_some (slice_get w.tasks h.process) h.from first.task there first.here)
      ∙ first.ready

  absent : IsAbsent h.process w.queue.ready
  absent = in_front.once.0

  -- the rest of the line, whatever becomes of the process
  others : (u : Task) → Line (slice_set w.tasks h.process u) (record { running = None; ready = w.queue.ready })
  others u = record {
    ready = all_ready_without w.tasks h.process u w.queue.ready absent in_front.ready.1;
    once = in_front.once.1;
  }

  rest : (u : Task) → Rest (slice_set w.tasks h.process u) w.roles w.links
  rest u = rest_after w.tasks h.process h.from u there w.roles w.links
      (calm_ready h.from.condition u.condition is_ready) keeps.rest

  it_is : (u : Task) → slice_get (slice_set w.tasks h.process u) h.process ≡ Some u
  it_is u = got_set w.tasks h.process h.from u there

  -- it goes on, ready as it was
  goes_on : (u : Task) → u.condition ≡ h.from.condition
      → WaitsIn (record w { tasks = slice_set w.tasks h.process u })
  goes_on u same = change_keeps h.process h.from u w there (λ e. same ∙ e)
      (calm_same h.from.condition u.condition same) keeps

  -- it leaves the line, and another one is picked
  pub leaves : (u : Task) (v : World) → v.tasks ≡ slice_set w.tasks h.process u
      → v.queue ≡ record { running = None; ready = w.queue.ready } → Rest v.tasks v.roles v.links
      → WaitsIn (dispatch h.pick v)
  leaves u v tasks queue all = dispatch_keeps h.pick v (record {
    line = subst (λ (q : Queue). Line v.tasks q) (sym queue)
        (subst (λ (ts : List Task). Line ts (record { running = None; ready = w.queue.ready })) (sym tasks) (others u));
    rest = all;
  })

  -- it waits on a link
  waits_on : (u : Task) (e : Exchange) (done word : ℕ) → u.condition ≡ OnLink e done → e.channel ≡ word
      → done < e.length → (p : ℕ) → Some h.process ≡ Some p → WaitsOn (slice_set w.tasks h.process u) p word
  waits_on u e done word waits on more p is =
      let same : h.process ≡ p = cc in
      subst (λ n. WaitsOn (slice_set w.tasks h.process u) n word) same (record {
        task = u;
        here = it_is u;
        exchange = e;
        done = done;
        waits = waits;
        on = on;
        more = more;
      })

  -- the other one that waits on a channel becomes ready
  meets : (u : Task) → u.condition ≡ h.from.condition → (other : ℕ) (c : Condition) → condition_of w other ≡ c
      → (c ≡ Ready → ⊥) → Calm c Ready → (m : Memory) (channels : List (Option Channel))
      → WaitsIn (wake other (record w {
        memory = m;
        tasks = slice_set w.tasks h.process u;
        channels = channels;
      }))
  meets u same other c is waits calm m channels = on (slice_get w.tasks other) refl
    where
      v : World
      v = record w { memory = m; tasks = slice_set w.tasks h.process u; channels = channels }

      on_process : (t : Task) → slice_get w.tasks other ≡ Some t → t.condition ≡ c → WaitsIn (wake other v)
      on_process t here was = elim (cases_eq h.process other) [
        | inl e ↦ absurd (
            let mine : h.from ≡ t = same_some (slice_get w.tasks other) h.from t
            (subst (λ n. slice_get w.tasks n ≡ Some h.from) e there) here in
            waits (sym was ∙ (ap (λ (x : Task). x.condition) (sym mine) ∙ is_ready)))
        | inr differ ↦
            let after = goes_on u same in
            wake_calm other t v (got_other w.tasks h.process other u differ ∙ here) (λ ready. waits (sym was ∙ ready))
            (subst (λ (d : Condition). Calm d Ready) (sym was) calm)
            (record { line = after.line; rest = after.rest })
      ]

      on : (o : Option Task) → slice_get w.tasks other ≡ o → WaitsIn (wake other v)
      on None here = absurd (waits (sym is ∙ ap (λ (o : Option Task). elim o as (λ o. Condition)
          [ None ↦ Ready | Some task ↦ task.condition ]) here))
      on (Some t) here = on_process t here (sym (ap (λ (o : Option Task). elim o as (λ o. Condition)
          [ None ↦ Ready | Some task ↦ task.condition ]) here) ∙ is)

  -- it goes on, and the input link that it may have changed has the same waiter
  goes_on_with : (u : Task) → u.condition ≡ h.from.condition → (k : ℕ) (old new : InputLink)
      → slice_get w.links.inputs k ≡ Some old → new.waiting ≡ old.waiting
      → Rest (slice_set w.tasks h.process u) w.roles (record w.links { inputs = slice_set w.links.inputs k new })
  goes_on_with u same k old new here waiting = rest_input (slice_set w.tasks h.process u) w.roles w.links k new
      (λ p is. (goes_on u same).rest.waiters.inputs k old p here (sym waiting ∙ is)) (goes_on u same).rest

  -- a join keeps its members, and has the new process too
  pub record Grows (r later : Role) : Type 0 where
    pub join : Join
    pub is_open : later.opened ≡ Some join
    pub kept : (j : Join) (p : ℕ) → r.opened ≡ Some j → is_member j.members p ≡ true
        → is_member join.members p ≡ true
    pub added : is_member join.members (length w.tasks) ≡ true

  -- the new process, at the back of the line
  pub begins : (u child : Task) → u.condition ≡ h.from.condition → child.condition ≡ Ready → (own : Holding)
      → (f : Role → Role) → ((r : Role) → (f r).opener ≡ r.opener)
      → ((r : Role) (j : Join) → slice_get w.roles h.process ≡ Some r → (f r).opened ≡ Some j
      → is_member j.members h.process ≡ true)
      → ((r : Role) → slice_get w.roles h.process ≡ Some r → Grows r (f r)) → (m : Memory)
      (channels : List (Option Channel))
      → let v : World = record w {
        memory = m;
        tasks = slice_set w.tasks h.process u;
        channels = channels;
      } in
      let given = on_role h.process f v in
      WaitsIn (enqueue (length w.tasks) (record given {
        tasks = given.tasks ++ child ∷ [];
        roles = given.roles ++ record { own = own; opener = Some h.process; opened = None } ∷ [];
      }))
  begins u child same ready own f opener members grows m channels = enqueue_keeps (length w.tasks) after
      (record {
        task = child;
        here = subst (λ n. slice_get (given.tasks ++ child ∷ []) n ≡ Some child) size (got_last given.tasks child);
        ready = ready;
      })
      (subst (λ n. IsAbsent n (line given.queue)) size (new_absent given.tasks (line given.queue) old.line.ready))
      (record {
        line = record {
          ready = all_ready_before given.tasks (child ∷ []) (line given.queue) old.line.ready;
          once = old.line.once;
        };
        rest = record {
          four = old.rest.four;
          waiters = record {
            inputs = λ k l p a b. waits_before (old.rest.waiters.inputs k l p a b);
            outputs = λ k l p a b. waits_before (old.rest.waiters.outputs k l p a b);
          };
          joins = λ p r j a b. elim (got_either given.roles _ p r a) [
            | inl before ↦ opens_before p j (old.rest.joins p r j before b)
            | inr last ↦ absurd (let e : None ≡ Some j = sym (ap (λ (x : Role). x.opened) last.1) ∙ b in cc)
          ];
          counted = λ p r o a b. elim (got_either given.roles _ p r a) [
            | inl before ↦ counted_before p r o (old.rest.counted p r o before b)
            | inr last ↦ inr (
                let e : Some h.process ≡ Some o = sym (ap (λ (x : Role). x.opener) last.1) ∙ b in
                let same_one : h.process ≡ o = cc in
                let number : length w.tasks ≡ p = sym size ∙ (sym old.rest.size ∙ sym last.0) in
                subst (λ n. IsCounted (given.roles ++ record {
                  own = own;
                  opener = Some h.process;
                  opened = None;
                } ∷ []) n p) same_one (subst (λ n. IsCounted (given.roles ++ record {
                  own = own;
                  opener = Some h.process;
                  opened = None;
                } ∷ []) h.process n) number counts_new))
          ];
          openers = λ p r o a b. elim (got_either given.roles _ p r a) [
            | inl before ↦ old.rest.openers p r o before b
            | inr last ↦
                let e : Some h.process ≡ Some o = sym (ap (λ (x : Role). x.opener) last.1) ∙ b in
                let same_one : h.process ≡ o = cc in
                let inside = slice_get_within w.tasks h.process h.from there in
                let many = old.rest.size in
                let number = last.0 in
                omega (arith, size)
          ];
          size = (let many = old.rest.size in simp (length-append) (omega arith));
        };
      })
    where
      v : World
      v = record w { memory = m; tasks = slice_set w.tasks h.process u; channels = channels }

      given : World
      given = on_role h.process f v

      after : World
      after = record given {
        tasks = given.tasks ++ child ∷ [];
        roles = given.roles ++ record { own = own; opener = Some h.process; opened = None } ∷ [];
      }

      old : WaitsIn given
      old = role_keeps h.process f v (λ r here. opener r) (λ r j here is. inl (members r j here is))
          (λ r here over none. absurd (
          let mine : u ≡ over.task = same_some (slice_get (slice_set w.tasks h.process u) h.process) u over.task
          (it_is u) over.here in
          let e : Ready ≡ Ended =
          sym is_ready ∙ (sym same ∙ (ap (λ (t : Task). t.condition) mine ∙ over.over)) in cc))
          (λ r here p x j a b shown member. inr (
            (grows r here).join,
            (grows r here).is_open,
            (grows r here).kept j p shown member,
          ))
          (let kept = goes_on u same in record { line = kept.line; rest = kept.rest })

      role : (r : Role) × (slice_get w.roles h.process ≡ Some r)
      role = has_role w h.process h.from there keeps.rest.size

      counts_new : IsCounted (given.roles ++ record {
        own = own;
        opener = Some h.process;
        opened = None;
      } ∷ []) h.process (length w.tasks)
      counts_new = record {
        role = f role.0;
        here = slice_get-append_left given.roles _ h.process (f role.0)
            (ap (λ (x : World). slice_get x.roles h.process) (on_role_is h.process f v role.0 role.1)
            ∙ got_set w.roles h.process role.0 (f role.0) role.1);
        join = (grows role.0 role.1).join;
        is_open = (grows role.0 role.1).is_open;
        member = (grows role.0 role.1).added;
      }

      same_tasks : given.tasks ≡ slice_set w.tasks h.process u
      same_tasks = (on_role_only h.process f v).tasks

      size : length given.tasks ≡ length w.tasks
      size = ap (λ (ts : List Task). length ts) same_tasks ∙ length-set w.tasks h.process u

      waits_before : {p word : ℕ} → WaitsOn given.tasks p word → WaitsOn (given.tasks ++ child ∷ []) p word
      waits_before {p} {word} x = record {
        task = x.task;
        here = slice_get-append_left given.tasks (child ∷ []) p x.task x.here;
        exchange = x.exchange;
        done = x.done;
        waits = x.waits;
        on = x.on;
        more = x.more;
      }

      over_before : (p : ℕ) → IsOver given.tasks p → IsOver (given.tasks ++ child ∷ []) p
      over_before p over = record {
        task = over.task;
        here = slice_get-append_left given.tasks (child ∷ []) p over.task over.here;
        over = over.over;
      }

      counted_before : (p : ℕ) (r : Role) (o : ℕ) → IsGone given.tasks r p ⊎ IsCounted given.roles o p
          → IsGone (given.tasks ++ child ∷ []) r p ⊎ IsCounted (given.roles ++ record {
            own = own;
            opener = Some h.process;
            opened = None;
          } ∷ []) o p
      counted_before p r o (inl gone) = inl (gone.0, over_before p gone.1)
      counted_before p r o (inr c) = inr (record {
        role = c.role;
        here = slice_get-append_left given.roles _ o c.role c.here;
        join = c.join;
        is_open = c.is_open;
        member = c.member;
      })

      opens_before : (p : ℕ) (j : Join) → Opens given.tasks p j → Opens (given.tasks ++ child ∷ []) p j
      opens_before p j (inl member) = inl member
      opens_before p j (inr over) = inr (record {
        task = over.task;
        here = slice_get-append_left given.tasks (child ∷ []) p over.task over.here;
        over = over.over;
      })

  -- a member has gone, and the join may be over
  pub ended_keeps : (u : Task) → u.condition ≡ Ended → (m : Memory) (roles : List Role)
      → Rest (slice_set w.tasks h.process u) roles w.links → (o : ℕ) (r : Role) (j : Join) (par : Par)
      → slice_get roles o ≡ Some r → r.opened ≡ Some j
      → ((x : Role) → slice_get roles h.process ≡ Some x → x.opener ≡ Some o → x.opened ≡ None)
      → WaitsIn (member_joined h o j par (record w {
        memory = m;
        tasks = slice_set w.tasks h.process u;
        roles = roles;
      }))
  ended_keeps u over m roles all o r j par here is alone = on (length members == 0) refl
    where
      members : List ℕ
      members = filter (λ q. not (q == h.process)) j.members

      tasks : List Task
      tasks = slice_set w.tasks h.process u

      v : World
      v = record w { memory = m; tasks = slice_set w.tasks h.process u; roles = roles }

      less : Role → Role
      less role = record role { opened = Some (record j { members = filter (λ q. not (q == h.process)) j.members }) }

      forgets : Role → Role
      forgets role = record role { opened = None }

      -- the opener is a member still, or has ended
      opens : Opens tasks o (record j { members = filter (λ q. not (q == h.process)) j.members })
      opens = elim (cases_eq h.process o) [
        | inl e ↦ inr (record { task = u; here = subst (λ n. slice_get tasks n ≡ Some u) e (it_is u); over = over })
        | inr differ ↦ elim (all.joins o r j here is) [
          | inl member ↦ inl (member_stays j.members h.process o differ member)
          | inr ended ↦ inr ended
        ]
      ]

      there_is : on_role o less v ≡ record v { roles = slice_set roles o (less r) }
      there_is = on_role_is o less v r here

      still : StillCounts tasks roles o r (less r)
      still p x k a b shown member =
          let e : Some k ≡ Some j = sym shown ∙ is in
          let same : k ≡ j = cc in
          elim (cases_eq h.process p) [
            | inl here ↦ inl (
              alone x (subst (λ n. slice_get roles n ≡ Some x) (sym here) a) b,
              record { task = u; here = subst (λ n. slice_get tasks n ≡ Some u) here (it_is u); over = over },
            )
            | inr differ ↦ inr (
              record j { members = filter (λ q. not (q == h.process)) j.members },
              refl,
              member_stays j.members h.process p differ
                  (subst (λ (k : Join). is_member k.members p ≡ true) same member),
            )
          ]

      fewer : Rest tasks (slice_set roles o (less r)) w.links
      fewer = rest_role tasks roles w.links o r (less r) here refl (λ k e.
          let same : record j { members = filter (λ q. not (q == h.process)) j.members } ≡ k = cc in
          subst (λ (k : Join). Opens tasks o k) same opens)
          (λ ended none. absurd (let e : None ≡ Some j = sym none ∙ is in cc)) still all

      goes_away : WaitsIn (dispatch h.pick (leave (on_role o less v)))
      goes_away = subst (λ (x : World). WaitsIn (dispatch h.pick (leave x))) (sym there_is)
          (leaves u (leave (record v { roles = slice_set roles o (less r) })) refl refl fewer)

      closes : IsOver tasks o → (length (filter (λ q. not (q == h.process)) j.members) == 0) ≡ true
          → WaitsIn (Rattle.machine_state.specs.Joins.closed o j par (on_role o less v))
      closes x none = subst (λ (x : World). WaitsIn (Rattle.machine_state.specs.Joins.closed o j par x)) (sym there_is)
          (subst (λ (x : World). WaitsIn (finishes x)) (sym reopened) (record {
            line = record {
              ready = (
                record { task = closed_task j par x.task; here = at_opener; ready = refl },
                all_ready_without tasks o (closed_task j par x.task) w.queue.ready not_there (others u).ready,
              );
              once = (not_there, (others u).once);
            };
            rest = record {
              four = fewer.four;
              waiters = record {
                inputs = λ k l p a b. waits_after tasks o x.task (closed_task j par x.task) x.here not_linked p
                    (input_word k) (fewer.waiters.inputs k l p a b);
                outputs = λ k l p a b. waits_after tasks o x.task (closed_task j par x.task) x.here not_linked p
                    (output_word k) (fewer.waiters.outputs k l p a b);
              };
              joins = λ p y k a b. elim (set_either (slice_set roles o (less r)) o (forgets (less r)) p y a) [
                | inl e ↦ absurd (
                    let none : None ≡ Some k = sym (ap (λ (z : Role). z.opened) e.1) ∙ b in cc)
                | inr old ↦ other_opens p y k old.0 old.1 b
              ];
              counted = λ p y k a b. elim (set_either (slice_set roles o (less r)) o (forgets (less r)) p y a) [
                | inl e ↦ own_count p y k e.0
                    (fewer.counted o (less r) k again (ap (λ (z : Role). z.opener) (sym e.1) ∙ b))
                    (all.openers o r k here (ap (λ (z : Role). z.opener) (sym e.1) ∙ b))
                | inr old ↦ other_count p y k old.0 (fewer.counted p y k old.1 b)
              ];
              openers = λ p y k a b. elim (set_either (slice_set roles o (less r)) o (forgets (less r)) p y a) [
                | inl e ↦ subst (λ n. k < n) e.0 (all.openers o r k here
                    (ap (λ (z : Role). z.opener) (sym e.1) ∙ b))
                | inr old ↦ fewer.openers p y k old.1 b
              ];
              size = length-set (slice_set roles o (less r)) o (forgets (less r)) ∙ (fewer.size
                  ∙ sym (length-set tasks o (closed_task j par x.task)));
            };
          }))
        where
          v1 : World
          v1 = record v { roles = slice_set roles o (less r) }

          v2 : World
          v2 = record v1 { tasks = slice_set tasks o (closed_task j par x.task) }

          finishes : World → World
          finishes y = record y {
            channels = Rattle.machine_state.specs.Joins.without_channels o y.channels;
            queue = record y.queue { running = Some o };
          }

          again : slice_get (slice_set roles o (less r)) o ≡ Some (less r)
          again = got_set roles o r (less r) here

          reopened : on_role o forgets (on_task o (closed_task j par) v1)
              ≡ record v2 { roles = slice_set (slice_set roles o (less r)) o (forgets (less r)) }
          reopened = ap (on_role o forgets) (on_task_is o (closed_task j par) v1 x.task x.here)
              ∙ on_role_is o forgets v2 (less r) again

          at_opener : slice_get (slice_set tasks o (closed_task j par x.task)) o ≡ Some (closed_task j par x.task)
          at_opener = got_set tasks o x.task (closed_task j par x.task) x.here

          not_there : IsAbsent o w.queue.ready
          not_there = absent_by_condition tasks o x.task w.queue.ready x.here
              (λ ready. let e : Ended ≡ Ready = sym x.over ∙ ready in cc) (others u).ready

          not_linked : (e : Exchange) (done : ℕ) → x.task.condition ≡ OnLink e done → Ready ≡ OnLink e done
          not_linked e done on = absurd (let z : Ended ≡ OnLink e done = sym x.over ∙ on in cc)

          -- the roles once the join is over
          later : List Role
          later = slice_set (slice_set roles o (less r)) o (forgets (less r))

          stays : (k p : ℕ) → o ≢ k → IsCounted (slice_set roles o (less r)) k p
              → IsCounted (slice_set (slice_set roles o (less r)) o (forgets (less r))) k p
          stays k p differ c = record {
            role = c.role;
            here = got_other (slice_set roles o (less r)) o k (forgets (less r)) differ ∙ c.here;
            join = c.join;
            is_open = c.is_open;
            member = c.member;
          }

          own_count : (p : ℕ) (y : Role) (k : ℕ) → o ≡ p
              → IsGone tasks (less r) o ⊎ IsCounted (slice_set roles o (less r)) k o → k < o
              → IsGone (slice_set tasks o (closed_task j par x.task)) y p
              ⊎ IsCounted (slice_set (slice_set roles o (less r)) o (forgets (less r))) k p
          own_count p y k e (inl gone) low = absurd (let z = gone.0 in cc)
          own_count p y k e (inr c) low =
              inr (subst (λ n. IsCounted (slice_set (slice_set roles o (less r)) o (forgets (less r))) k n) e
              (stays k o (λ e. omega arith) c))

          other_count : (p : ℕ) (y : Role) (k : ℕ) → o ≢ p
              → IsGone tasks y p ⊎ IsCounted (slice_set roles o (less r)) k p
              → IsGone (slice_set tasks o (closed_task j par x.task)) y p
              ⊎ IsCounted (slice_set (slice_set roles o (less r)) o (forgets (less r))) k p
          other_count p y k differ (inl gone) = inl (
            gone.0,
            record {
              task = gone.1.task;
              here = got_other tasks o p (closed_task j par x.task) differ ∙ gone.1.here;
              over = gone.1.over;
            },
          )
          other_count p y k differ (inr c) = elim (cases_eq o k) [
            | inl e ↦ absurd (
                let same : c.role ≡ less r = same_some (slice_get (slice_set roles o (less r)) o) c.role (less r)
                (subst (λ n. slice_get (slice_set roles o (less r)) n ≡ Some c.role) (sym e) c.here) again in
                let is_it : Some c.join ≡ Some (record j {
                  members = filter (λ q. not (q == h.process)) j.members;
                }) = sym c.is_open ∙ ap (λ (z : Role). z.opened) same in
                let join_is : c.join ≡ record j { members = filter (λ q. not (q == h.process)) j.members } = cc in
                no_members (filter (λ q. not (q == h.process)) j.members) p none
                (subst (λ (z : Join). is_member z.members p ≡ true) join_is c.member))
            | inr other ↦ inr (stays k p other c)
          ]

          other_opens : (p : ℕ) (y : Role) (k : Join) → o ≢ p → slice_get (slice_set roles o (less r)) p ≡ Some y
              → y.opened ≡ Some k → Opens (slice_set tasks o (closed_task j par x.task)) p k
          other_opens p y k differ a b = elim (fewer.joins p y k a b) [
            | inl member ↦ inl member
            | inr over ↦ inr (record {
              task = over.task;
              here = got_other tasks o p (closed_task j par x.task) differ ∙ over.here;
              over = over.over;
            })
          ]

      on : (b : Bool) → (length (filter (λ q. not (q == h.process)) j.members) == 0) ≡ b
          → WaitsIn (if b then Rattle.machine_state.specs.Joins.closed o j par (on_role o less v)
          else dispatch h.pick (leave (on_role o less v)))
      on true none = elim opens [
        | inl member ↦ absurd (no_members members o none member)
        | inr over ↦ closes over none
      ]
      on false some = goes_away

  -- it goes on, and who waits on links is the same
  goes : (r : Registers) (mode : Mode) (m : Memory) (channels : List (Option Channel)) → WaitsIn (record w {
    memory = m;
    tasks = slice_set w.tasks h.process (record h.from { registers = r; mode = mode });
    channels = channels;
  })
  goes r mode m channels =
      let kept = goes_on (record h.from { registers = r; mode = mode }) refl in
      record { line = kept.line; rest = kept.rest }

  goes_with : (r : Registers) (mode : Mode) (m : Memory) (k : ℕ) (old new : InputLink)
      → slice_get w.links.inputs k ≡ Some old → new.waiting ≡ old.waiting → WaitsIn (record w {
        memory = m;
        tasks = slice_set w.tasks h.process (record h.from { registers = r; mode = mode });
        links = record w.links { inputs = slice_set w.links.inputs k new };
      })
  goes_with r mode m k old new here waiting =
      let u = record h.from { registers = r; mode = mode } in
      record { line = (goes_on u refl).line; rest = goes_on_with u refl k old new here waiting }

  -- what is selected makes no difference to who waits
  chosen_keeps : (move : World → World)
      → ((r : Registers) (mode : Mode) (m : Memory) → WaitsIn (move (record w {
        memory = m;
        tasks = slice_set w.tasks h.process (record h.from { registers = r; mode = mode });
      }))) → (is_ready : Bool) (distance : ℤ) (l : Local) → WaitsIn (move (chosen h is_ready distance l w))
  chosen_keeps move kept is_ready distance l =
      chooses h w l (λ (v : World). WaitsIn (move v)) (λ r mode m same further. kept r mode m) is_ready distance

  -- it is a member of its own join
  own_member : (j : Join) → opened_by w h.process ≡ Some j → is_member j.members h.process ≡ true
  own_member j is =
      let r = role_tells (λ role. role.opened) w h.process j is in
      elim (keeps.rest.joins h.process r.0 j r.1 r.2) [
        | inl member ↦ member
        | inr over ↦ absurd (
            let same : h.from ≡ over.task = same_some (slice_get w.tasks h.process) h.from over.task there over.here in
            let e : Ready ≡ Ended = sym is_ready ∙ (ap (λ (t : Task). t.condition) same ∙ over.over) in cc)
      ]

  begins_branch : (plan : Plan) (found : Found) (workspace : ℕ) (r : Registers) (m : Memory)
      (channels : List (Option Channel)) → is_member plan.members h.process ≡ true
      → ((role : Role) (j : Join) → slice_get w.roles h.process ≡ Some role → role.opened ≡ Some j
      → plan.members ≡ j.members)
      → WaitsIn (started h plan found workspace (record { registers = r; memory = m })
      (record w { channels = channels }))
  begins_branch plan found workspace r m channels member before =
      begins (record h.from { registers = between h.next r; mode = Starting })
      (new_task found.branch workspace) refl refl
      (holding_of h.contents (length w.memory) (share_by plan found.branch))
      (λ role. record role { opened = Some (join_after (length w.memory) plan found (length w.tasks)) })
      (λ role. refl)
      (λ role j here is.
      let same : join_after (length w.memory) plan found (length w.tasks) ≡ j = cc in
      subst (λ (j : Join). is_member j.members h.process ≡ true) same
      (member_before plan.members (length w.tasks ∷ []) h.process member))
      (λ role here. record {
        join = join_after (length w.memory) plan found (length w.tasks);
        is_open = refl;
        kept = λ j p shown listed. member_before plan.members (length w.tasks ∷ []) p
            (subst (λ (ms : List ℕ). is_member ms p ≡ true) (sym (before role j here shown)) listed);
        added = member_last plan.members (length w.tasks);
      })
      (without_words (scheduling_addresses workspace) m) channels

  moved_keeps : (o : Outcome) (after : World) → Moved h w o after → Message (site_of h w) w.memory o → WaitsIn after
  unfolding dispatch
  moved_keeps o after (turns.it_goes l) says = goes (between h.next l.registers) h.from.mode l.memory w.channels
  moved_keeps o after (turns.it_jumps to l) says = goes (between to l.registers) h.from.mode l.memory w.channels
  moved_keeps o after (turns.it_is_sliced to l) says =
      let u = record h.from { registers = between to l.registers } in
      dispatch_keeps h.pick (enqueue h.process (leave (continued h to l w)))
      (enqueue_keeps h.process (leave (continued h to l w))
      (record { task = u; here = it_is u; ready = is_ready }) absent (record { line = others u; rest = rest u }))
  moved_keeps o after (turns.it_lands to l) says = goes (between to l.registers) h.from.mode l.memory w.channels
  moved_keeps o after (turns.it_stops l) says =
      let u = record h.from { registers = between h.next l.registers; condition = Stopped } in
      leaves u (leave (finished_where (h.next == h.contents.finish) (turns.stopped_here h l w))) refl refl (rest u)
  moved_keeps o after (turns.receives_first e l c inside here nobody) says =
      let u = record h.from { registers = between h.next l.registers; condition = Receiving e } in
      leaves u (leave (waits_at h (Receiving e) e.channel c l w)) refl refl (rest u)
  moved_keeps o after (turns.receives_from e l c other sent inside here partner is same) says =
      meets (record h.from { registers = between h.next l.registers }) refl other (Sending sent) is (λ e. cc)
      (calm_sending sent) (copied l.memory (place_of sent.address) (place_of e.address) sent.length l.memory)
      (slice_set w.channels (cell_of sent.channel) (Some (record c { waiting = None })))
  moved_keeps o after (turns.receives_none e l k link on here none) says =
      let u = record h.from { registers = between h.next l.registers; condition = OnLink e 0 } in
      let some : 1 ≤ e.length = says.1 in
      leaves u (leave (with_input k (record link { waiting = Some h.process }) (waiting h (OnLink e 0) l w))) refl refl
      (rest_input (slice_set w.tasks h.process u) w.roles w.links k (record link { waiting = Some h.process })
      (waits_on u e 0 (input_word k) refl (link_found (input_word 0) e.channel k on ∙ input_words k) (omega arith))
      (rest u))
  moved_keeps o after (turns.receives_last e l k link byte on here kept one) says =
      goes_with (between h.next l.registers) h.from.mode (turns.with_first e byte l).memory k link
      (record link { kept = None }) here refl
  moved_keeps o after (turns.receives_one e l k link byte on here kept more) says =
      let u = record h.from { registers = between h.next l.registers; condition = OnLink e 1 } in
      let other : e.length ≢ 1 = eqb-false e.length 1 more in
      let some : 1 ≤ e.length = says.1 in
      leaves u (leave (with_input k (record link { kept = None; waiting = Some h.process })
      (waiting h (OnLink e 1) (turns.with_first e byte l) w))) refl refl
      (rest_input (slice_set w.tasks h.process u) w.roles w.links k
      (record link { kept = None; waiting = Some h.process })
      (waits_on u e 1 (input_word k) refl (link_found (input_word 0) e.channel k on ∙ input_words k) (omega arith))
      (rest u))
  moved_keeps o after (turns.sends_first e l c inside here nobody) says =
      let u = record h.from { registers = between h.next l.registers; condition = Sending e } in
      let v = waits_at h (Sending e) e.channel c l w in
      dispatch_keeps h.pick (leave (rouse c.enabled v))
      (subst (λ (x : World). WaitsIn x) (sym (leave_rouse c.enabled v))
      (rouse_keeps c.enabled (leave v) (record { line = others u; rest = rest u })))
  moved_keeps o after (turns.sends_to e l c other wanted inside here partner is same) says =
      meets (record h.from { registers = between h.next l.registers }) refl other (Receiving wanted) is (λ e. cc)
      (calm_receiving wanted) (copied l.memory (place_of e.address) (place_of wanted.address) e.length l.memory)
      (slice_set w.channels (cell_of e.channel) (Some (record c { waiting = None })))
  moved_keeps o after (turns.starts_first target workspace l found is none tests) says =
      let plan = turns.plan_of h w found in
      begins_branch plan found workspace l.registers (opened h plan l w).0.memory
      (with_channels h.process plan.base plan.par.channels w.channels) (or_left _ _ (eqb-self h.process))
      (λ role j here shown. absurd (
      let e : None ≡ Some j = sym none ∙ (opened_is w h.process role here ∙ shown) in cc))
  moved_keeps o after (turns.starts_later target workspace l found j is is_open same tests) says =
      begins_branch (later_plan h.contents j found.par) found workspace l.registers l.memory w.channels
      (own_member j is_open)
      (λ role k here shown.
      let e : Some j ≡ Some k = sym is_open ∙ (opened_is w h.process role here ∙ shown) in
      let same_one : j ≡ k = cc in ap (λ (x : Join). x.members) same_one)
  moved_keeps o after (turns.joins_own block l j par is row all) says =
      let u = record h.from { registers = between h.next l.registers; mode = Plain; condition = Ended } in
      let r = role_tells (λ role. role.opened) w h.process j is in
      ended_keeps u refl l.memory w.roles (rest u) h.process r.0 j par r.1 r.2
      (λ x a b. absurd (let low = keeps.rest.openers h.process x h.process a b in omega arith))
  moved_keeps o after (turns.joins_opener block l opener j par none by is row same) says =
      let u = record h.from { registers = between h.next l.registers; mode = Plain; condition = Ended } in
      let mine = role_tells (λ role. role.opener) w h.process opener by in
      let r = role_tells (λ role. role.opened) w opener j is in
      let below = keeps.rest.openers h.process mine.0 opener mine.1 mine.2 in
      let gone = record mine.0 { own = nothing } in
      let roles = slice_set w.roles h.process gone in
      subst (λ (x : World). WaitsIn (member_joined h opener j par x))
      (sym (on_role_is h.process (λ role. record role { own = nothing }) (ended h l w) mine.0 mine.1))
      (ended_keeps u refl l.memory roles
      (rest_role (slice_set w.tasks h.process u) w.roles w.links h.process mine.0 gone mine.1 refl
      (λ k e. inr (record { task = u; here = it_is u; over = refl })) (λ over closed. closed)
      (λ p x k a b shown member. inr (k, shown, member)) (rest u)) opener r.0 j par
      (got_other w.roles h.process opener gone (λ e. omega (arith, below)) ∙ r.1) r.2
      (λ x a b.
      let same_one : gone ≡ x = same_some (slice_get roles h.process) gone x
      (got_set w.roles h.process mine.0 gone mine.1) a in
      sym (ap (λ (z : Role). z.opened) same_one) ∙ (sym (opened_is w h.process mine.0 mine.1) ∙ none)))
  moved_keeps o after (turns.it_begins l) says =
      goes (between h.next l.registers) (Enabling false) l.memory w.channels
  moved_keeps o after (turns.it_enables guard address l s holds (turns.on_channel c inside here) once) says =
      goes (between h.next l.registers) (ready_or h.from.mode (is_some c.waiting)) l.memory
      (slice_set w.channels (cell_of address) (Some (record c { enabled = Some h.process })))
  moved_keeps o after (turns.it_enables guard address l s holds (turns.on_link k link on here) once) says =
      goes_with (between h.next l.registers) (ready_or h.from.mode (is_some link.kept)) l.memory k link
      (record link { enabled = Some h.process }) here refl
  moved_keeps o after (turns.it_enables_nothing guard address l off) says =
      goes (between h.next l.registers) h.from.mode l.memory w.channels
  moved_keeps o after (turns.it_enables_a_skip guard l) says =
      goes (between h.next l.registers) (ready_or h.from.mode guard) l.memory w.channels
  moved_keeps o after (turns.it_is_ready l is) says =
      goes (between h.next l.registers) (Disabling None) l.memory w.channels
  moved_keeps o after (turns.it_waits l is) says =
      let u = record h.from {
        registers = between h.next l.registers;
        mode = Disabling None;
        condition = Alternating;
      } in
      leaves u (leave (turns.alternating_here h l w)) refl refl (rest u)
  moved_keeps o after (turns.it_disables guard address distance l s holds (turns.on_channel c inside here) mine) says =
      chosen_keeps (with_channel address (record c { enabled = None }))
      (λ r mode m. goes r mode m (slice_set w.channels (cell_of address) (Some (record c { enabled = None }))))
      (is_some c.waiting) distance l
  moved_keeps o after (turns.it_disables guard address distance l s holds (turns.on_link k link on here) mine) says =
      chosen_keeps (with_input k (record link { enabled = None }))
      (λ r mode m. goes_with r mode m k link (record link { enabled = None }) here refl) (is_some link.kept) distance l
  moved_keeps o after (turns.it_disables_nothing guard address distance l off) says =
      chosen_keeps (λ v. v) (λ r mode m. goes r mode m w.channels) false distance l
  moved_keeps o after (turns.it_disables_a_skip guard distance l) says =
      chosen_keeps (λ v. v) (λ r mode m. goes r mode m w.channels) guard distance l
  moved_keeps o after (turns.it_ends_alternation to l none) says =
      goes (between to l.registers) Plain l.memory w.channels

  pub end_keeps : (o : Outcome) (t : Turn) → TurnsInto h w o t → Message (site_of h w) w.memory o → WaitsIn t.world
  end_keeps o t (turns.at_fault refused) says = record { line = keeps.line; rest = keeps.rest }
  end_keeps o t (turns.has_run {after = after} moved) says =
      let kept = moved_keeps o after moved says in record { line = kept.line; rest = kept.rest }
  end_keeps o t (turns.has_emitted e l k on same) says =
      let u = record h.from { registers = between h.next l.registers; condition = OnLink e 0 } in
      let some : 1 ≤ e.length = says.1 in
      let kept = leaves u
      (leave (with_output k (record { waiting = Some h.process }) (waiting h (OnLink e 0) l w))) refl refl
      (rest_output (slice_set w.tasks h.process u) w.roles w.links k (record { waiting = Some h.process })
      (waits_on u e 0 (output_word k) refl (link_found (output_word 0) e.channel k on ∙ output_words k) (omega arith))
      (rest u)) in
      record { line = kept.line; rest = kept.rest }

-- ---- the other events

-- who waits on two links waits on one
pub same_link : (tasks : List Task) (p word other : ℕ) → WaitsOn tasks p word → WaitsOn tasks p other → word ≡ other
same_link tasks p word other x y =
    let same : x.task ≡ y.task = same_some (slice_get tasks p) x.task y.task x.here y.here in
    let is : OnLink x.exchange x.done ≡ OnLink y.exchange y.done =
    sym x.waits ∙ (ap (λ (t : Task). t.condition) same ∙ y.waits) in
    let e : x.exchange ≡ y.exchange = cc in
    sym x.on ∙ (ap (λ (e : Exchange). e.channel) e ∙ y.on)

-- a process that waits on a link has not ended, and is in no line
not_over : (t : Task) (e : Exchange) (done : ℕ) → t.condition ≡ OnLink e done → t.condition ≡ Ended → ⊥
not_over t e done waits over = let x : OnLink e done ≡ Ended = sym waits ∙ over in cc

not_ready : (t : Task) (e : Exchange) (done : ℕ) → t.condition ≡ OnLink e done → t.condition ≡ Ready → ⊥
not_ready t e done waits ready = let x : OnLink e done ≡ Ready = sym waits ∙ ready in cc

-- a process that waits on a link takes a byte as one that waits
pub filled : (w : World) (p word k byte : ℕ) (link : InputLink) (x : WaitsOn w.tasks p word)
    → fill p k byte link w ≡ fill_condition p k byte link (OnLink x.exchange x.done) w
filled w p word k byte link x = ap (λ (o : Option Task). elim o as (λ o. World)
    [ None ↦ w | Some task ↦ fill_condition p k byte link task.condition w ]) x.here
    ∙ ap (λ (c : Condition). fill_condition p k byte link c w) x.waits

module _ (w : World) (keeps : WaitsIn w) where
  -- a process that waits on a link goes on, and the link is free
  frees : (p word : ℕ) (x : WaitsOn w.tasks p word) (links : Links) → length links.outputs ≡ 4
      → ((k : ℕ) (l : InputLink) (q : ℕ) → slice_get links.inputs k ≡ Some l → l.waiting ≡ Some q
      → (word ≢ input_word k) × WaitsOn w.tasks q (input_word k))
      → ((k : ℕ) (l : OutputLink) (q : ℕ) → slice_get links.outputs k ≡ Some l → l.waiting ≡ Some q
      → (word ≢ output_word k) × WaitsOn w.tasks q (output_word k))
      → Rest (slice_set w.tasks p (record x.task { condition = Ready })) w.roles links
  frees p word x links four inputs outputs = record {
    four = four;
    waiters = record {
      inputs = λ k l q a b. let y = inputs k l q a b in waits_elsewhere w.tasks p _ q (input_word k)
          (λ e. y.0 (same_link w.tasks p word (input_word k) x
          (subst (λ n. WaitsOn w.tasks n (input_word k)) (sym e) y.1))) y.1;
      outputs = λ k l q a b. let y = outputs k l q a b in waits_elsewhere w.tasks p _ q (output_word k)
          (λ e. y.0 (same_link w.tasks p word (output_word k) x
          (subst (λ n. WaitsOn w.tasks n (output_word k)) (sym e) y.1))) y.1;
    };
    joins = λ q r j a b. opens_after w.tasks p x.task (record x.task { condition = Ready }) x.here
        (λ over. absurd (not_over x.task x.exchange x.done x.waits over)) q j (keeps.rest.joins q r j a b);
    counted = λ q r o a b. gone_after w.tasks p x.task (record x.task { condition = Ready }) x.here w.roles
        (λ over. absurd (not_over x.task x.exchange x.done x.waits over)) q r o (keeps.rest.counted q r o a b);
    openers = keeps.rest.openers;
    size = keeps.rest.size ∙ sym (length-set w.tasks p (record x.task { condition = Ready }));
  }

  words_differ : (k j : ℕ) → k < 4 → output_word k ≡ input_word j → ⊥
  words_differ k j low e = omega arith

  pub low_output : (k : ℕ) (l : OutputLink) → slice_get w.links.outputs k ≡ Some l → k < 4
  low_output k l here =
      let inside = slice_get_within w.links.outputs k l here in
      let four = keeps.rest.four in
      omega arith

  -- with the last byte
  fills_last : (p k byte : ℕ) (link : InputLink) (x : WaitsOn w.tasks p (input_word k)) (m : Memory)
      → WaitsIn (wake p (with_input k (record link { waiting = None }) (record w { memory = m })))
  fills_last p k byte link x m = wake_keeps p x.task (with_input k (record link { waiting = None })
      (record w { memory = m })) x.here (not_ready x.task x.exchange x.done x.waits) keeps.line
      (frees p (input_word k) x (record w.links {
        inputs =
            slice_set w.links.inputs k (record link { waiting = None });
      })
      keeps.rest.four
      (λ j l q a b. elim (set_either w.links.inputs k (record link { waiting = None }) j l a) [
        | inl e ↦ absurd (
            let none : None ≡ Some q = sym (ap (λ (i : InputLink). i.waiting) e.1) ∙ b in cc)
        | inr old ↦ ((λ e. old.0 (omega arith)), keeps.rest.waiters.inputs j l q old.1 b)
      ])
      (λ j l q a b. ((λ e. words_differ j k (low_output j l a) (sym e)), keeps.rest.waiters.outputs j l q a b)))

  -- with another one
  fills_more : (p k : ℕ) (x : WaitsOn w.tasks p (input_word k)) (m : Memory) → (x.done + 1 == x.exchange.length) ≡ false
      → WaitsIn (on_task p (λ task. record task { condition = OnLink x.exchange (x.done + 1) })
      (record w { memory = m }))
  fills_more p k x m more = subst (λ (v : World). WaitsIn v)
      (sym (on_task_is p (λ task. record task { condition = OnLink x.exchange (x.done + 1) })
      (record w { memory = m }) x.task x.here)) (record {
        line = record {
          ready = ready_after w.tasks p x.task u x.here
              (λ ready. absurd (not_ready x.task x.exchange x.done x.waits ready)) (line w.queue) keeps.line.ready;
          once = keeps.line.once;
        };
        rest = record {
          four = keeps.rest.four;
          waiters = record {
            inputs = λ j l q a b. further q (input_word j) (keeps.rest.waiters.inputs j l q a b);
            outputs = λ j l q a b. further q (output_word j) (keeps.rest.waiters.outputs j l q a b);
          };
          joins = λ q r j a b. opens_after w.tasks p x.task u x.here
              (λ over. absurd (not_over x.task x.exchange x.done x.waits over)) q j (keeps.rest.joins q r j a b);
          counted = λ q r o a b. gone_after w.tasks p x.task u x.here w.roles
              (λ over. absurd (not_over x.task x.exchange x.done x.waits over)) q r o (keeps.rest.counted q r o a b);
          openers = keeps.rest.openers;
          size = keeps.rest.size ∙ sym (length-set w.tasks p u);
        };
      })
    where
      u : Task
      u = record x.task { condition = OnLink x.exchange (x.done + 1) }

      further : (q word : ℕ) → WaitsOn w.tasks q word → WaitsOn (slice_set w.tasks p u) q word
      further q word y = elim (cases_eq p q) [
        | inl e ↦ subst (λ n. WaitsOn (slice_set w.tasks p u) n word) e (record {
          task = u;
          here = got_set w.tasks p x.task u x.here;
          exchange = x.exchange;
          done = x.done + 1;
          waits = refl;
          on = x.on ∙ same_link w.tasks p (input_word k) word x (subst (λ n. WaitsOn w.tasks n word) (sym e) y);
          more = (
              let differ : x.done + 1 ≢ x.exchange.length = eqb-false (x.done + 1) x.exchange.length more in
              let below = x.more in
              omega arith);
        })
        | inr differ ↦ waits_elsewhere w.tasks p u q word differ y
      ]

  fill_keeps : (p k byte : ℕ) (link : InputLink) → slice_get w.links.inputs k ≡ Some link → link.waiting ≡ Some p
      → WaitsIn (fill p k byte link w)
  fill_keeps p k byte link here waiting =
      subst (λ (v : World). WaitsIn v) (sym (filled w p (input_word k) k byte link x))
      (on_last (x.done + 1 == x.exchange.length) refl)
    where
      x : WaitsOn w.tasks p (input_word k)
      x = keeps.rest.waiters.inputs k link p here waiting

      memory : Memory
      memory = with_byte w.memory (place_of ((x.exchange.address + x.done) % 2 ^ 32)) (Some byte)

      on_last : (b : Bool) → (x.done + 1 == x.exchange.length) ≡ b → WaitsIn (if b
          then wake p (with_input k (record link { waiting = None }) (record w {
            memory = with_byte w.memory (place_of ((x.exchange.address + x.done) % 2 ^ 32)) (Some byte);
          }))
          else with_condition p (OnLink x.exchange (x.done + 1)) (record w {
            memory = with_byte w.memory (place_of ((x.exchange.address + x.done) % 2 ^ 32)) (Some byte);
          }))
      on_last true last = fills_last p k byte link x memory
      on_last false more = fills_more p k x memory more

  acknowledged : (p k : ℕ) (link : OutputLink) → slice_get w.links.outputs k ≡ Some link → link.waiting ≡ Some p
      → WaitsIn (wake p (with_output k (record { waiting = None }) w))
  acknowledged p k link here waiting =
      let x = keeps.rest.waiters.outputs k link p here waiting in
      wake_keeps p x.task (with_output k (record { waiting = None }) w) x.here
      (not_ready x.task x.exchange x.done x.waits) keeps.line
      (frees p (output_word k) x (record w.links { outputs = slice_set w.links.outputs k (record { waiting = None }) })
      (length-set w.links.outputs k (record { waiting = None }) ∙ keeps.rest.four)
      (λ j l q a b. ((λ e. words_differ k j (low_output k link here) e), keeps.rest.waiters.inputs j l q a b))
      (λ j l q a b. elim (set_either w.links.outputs k (record { waiting = None }) j l a) [
        | inl e ↦ absurd (
            let none : None ≡ Some q = sym (ap (λ (i : OutputLink). i.waiting) e.1) ∙ b in cc)
        | inr old ↦ ((λ e. old.0 (omega arith)), keeps.rest.waiters.outputs j l q old.1 b)
      ]))

  turn_keeps : (m : Contents) (e : Event) (t : Turn) → Happened m w e t
      → WaitsIn t.world
  turn_keeps m e t (turns.was_at_fault f is) = keeps
  turn_keeps m e t (turns.it_rests rests) = keeps
  turn_keeps m e t (turns.is_outside p task why runs here) = record { line = keeps.line; rest = keeps.rest }
  turn_keeps m e t (turns.is_prefix p task byte operand runs here at none it next) =
      let kept = change_keeps p task
      (record task { registers = record task.registers { at = task.registers.at + 1; operand = operand } }) w here
      (λ e. e) (calm_same task.condition task.condition refl) keeps in
      record { line = kept.line; rest = kept.rest }
  turn_keeps m e t (turns.is_step {pick = pick} p task byte f runs here at is ends) =
      let h = at_here m p task pick in
      end_keeps h w runs here keeps _ t ends
      (each_step (site_of h w) task.registers w.memory w.memory (λ r m n. m ≡ n)
      (λ o other. Message (site_of h w) w.memory o) (messages (site_of h w) task.registers w.memory) refl f
      (with_nibble task.registers.operand (nibble byte)))
  turn_keeps m e t (turns.is_taken {link = link} {byte = byte} input p here waiting) =
      dispatch_keeps 0 (fill p (link_index link) byte input w) (fill_keeps p (link_index link) byte input here waiting)
  turn_keeps m e t (turns.is_kept {link = link} {byte = byte} input here nobody empty) =
      let k = link_index link in
      let v = with_input k (record input { kept = Some byte }) w in
      dispatch_keeps 0 (rouse input.enabled v) (rouse_keeps input.enabled v (record {
        line = keeps.line;
        rest = rest_input w.tasks w.roles w.links k (record input { kept = Some byte })
            (λ p is. keeps.rest.waiters.inputs k input p here is) keeps.rest;
      }))
  turn_keeps m e t (turns.is_acknowledged {link = link} output p here waiting) =
      dispatch_keeps 0 (wake p (with_output (link_index link) (record { waiting = None }) w))
      (acknowledged p (link_index link) output here waiting)

-- ---- from the loaded world on

copies_of : {A : Type 0} (n : ℕ) (x : A) (k : ℕ) (y : A) → slice_get (replicate n x) k ≡ Some y → x ≡ y
copies_of zero x k y h = absurd (cc)
copies_of (suc n) x zero y h = cc
copies_of (suc n) x (suc k) y h = copies_of n x k y h

loaded_waits : (m : Contents) → WaitsIn (loaded m)
loaded_waits m = record {
  line = record { ready = (record { task = root_task m; here = refl; ready = refl }, tt); once = (tt, tt) };
  rest = record {
    four = refl;
    waiters = record {
      inputs = λ k l p a b. absurd (
          let quiet : InputLink = record { kept = None; waiting = None; enabled = None } in
          let same : quiet ≡ l = copies_of 4 quiet k l a in
          let e : None ≡ Some p = ap (λ (i : InputLink). i.waiting) same ∙ b in cc);
      outputs = λ k l p a b. absurd (
          let quiet : OutputLink = record { waiting = None } in
          let same : quiet ≡ l = copies_of 4 quiet k l a in
          let e : None ≡ Some p = ap (λ (i : OutputLink). i.waiting) same ∙ b in cc);
    };
    joins = λ p r j a b. absurd (
        let same : root_role m ≡ r = copies_of 1 (root_role m) p r a in
        let e : None ≡ Some j = ap (λ (x : Role). x.opened) same ∙ b in cc);
    counted = λ p r o a b. absurd (
        let same : root_role m ≡ r = copies_of 1 (root_role m) p r a in
        let e : None ≡ Some o = ap (λ (x : Role). x.opener) same ∙ b in cc);
    openers = λ p r o a b. absurd (
        let same : root_role m ≡ r = copies_of 1 (root_role m) p r a in
        let e : None ≡ Some o = ap (λ (x : Role). x.opener) same ∙ b in cc);
    size = refl;
  };
}

run_keeps : (m : Contents) (w : World) (es : List Event) → WaitsIn w
    → WaitsIn (run_from m w es)
run_keeps m w [] keeps = keeps
run_keeps m w (e ∷ es) keeps = run_keeps m (turn m w e).world es
    (turn_keeps w keeps m e (turn m w e) (turn_happens m w e))

pub reached : (m : Contents) (es : List Event) → WaitsIn (world_after m es)
reached m es = run_keeps m (loaded m) es (loaded_waits m)

pub lines_are_ready : LinesAreReady
lines_are_ready m es = (reached m es).line

pub links_have_their_waiters : LinksHaveTheirWaiters
links_have_their_waiters m es = (reached m es).rest.waiters

-- what is wanted on a link is a byte of the buffer of the process that waits there
awaited : (w : World) (link : Link) (place : ℕ) → WaitsIn w → wanted_on w link ≡ Some place
    → IsAwaited w (link_index link) place
awaited w link place keeps is = on_link (slice_get w.links.inputs (link_index link)) refl is
  where
    on_task : (input : InputLink) → slice_get w.links.inputs (link_index link) ≡ Some input → (p : ℕ)
        → input.waiting ≡ Some p → wanted_by (condition_of w p) ≡ Some place → IsAwaited w (link_index link) place
    on_task input here p waiting is =
        let x = keeps.rest.waiters.inputs (link_index link) input p here waiting in
        let condition : condition_of w p ≡ OnLink x.exchange x.done =
        ap (λ (o : Option Task). elim o as (λ o. Condition) [ None ↦ Ready | Some task ↦ task.condition ]) x.here
        ∙ x.waits in
        let e : Some (place_of ((x.exchange.address + x.done) % 2 ^ 32)) ≡ Some place =
        sym (ap wanted_by condition) ∙ is in
        record {
          link = input;
          here = here;
          process = p;
          waiting = waiting;
          waits = x;
          is = (
              let same : place_of ((x.exchange.address + x.done) % 2 ^ 32) ≡ place = cc in sym same);
        }

    on_waiting : (input : InputLink) → slice_get w.links.inputs (link_index link) ≡ Some input → (o : Option ℕ)
        → input.waiting ≡ o
        → elim o as (λ o. Option ℕ) [ None ↦ None | Some p ↦ wanted_by (condition_of w p) ] ≡ Some place
        → IsAwaited w (link_index link) place
    on_waiting input here None waiting is = absurd (cc)
    on_waiting input here (Some p) waiting is = on_task input here p waiting is

    on_link : (o : Option InputLink) → slice_get w.links.inputs (link_index link) ≡ o
        → elim o as (λ o. Option ℕ) [
          | None ↦ None
          | Some input ↦ elim input.waiting as (λ o. Option ℕ)
              [ None ↦ None | Some p ↦ wanted_by (condition_of w p) ]
        ] ≡ Some place → IsAwaited w (link_index link) place
    on_link None here is = absurd (cc)
    on_link (Some input) here is = on_waiting input here input.waiting refl is

pub arrivals_fill_buffers : ArrivalsFillBuffers
arrivals_fill_buffers m es link place is =
    awaited (world_after m es) link place (reached m es) is

pub branches_are_counted : BranchesAreCounted
branches_are_counted m es =
    let r = (reached m es).rest in
    record { joins = r.joins; counted = r.counted }
