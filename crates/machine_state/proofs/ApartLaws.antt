-- Holdings stay apart in every world that a list of events leads to.
use Rattle.std.proofs.Common.{◌≡◌, ◌≢◌, ℕ, zero, suc, ◌+◌, ◌*◌, ◌/◌, ◌%◌, ◌^◌, ◌<◌, ◌≤◌, Bool, true, false, inl, inr}
use Rattle.std.proofs.Common.{if◌then◌else◌, ℤ, List, [], ◌∷◌, ◌++◌, length, Option, Some, None, is_some, refl, sym}
use Rattle.std.proofs.Common.{ap, ◌∙◌, subst, slice_get, arith, eqb-true, replicate}
use Rattle.std.proofs.lemmas.Bool.{cases_eq, leb-true, ltb-true, and_parts, or_cases, false_from_ne_true}
use Rattle.std.proofs.lemmas.List.{length-set, length-replicate}
use Rattle.std.proofs.lemmas.Option.{slice_get_within}
use Rattle.std.specs.Prelude.{◌==◌, nat_lt, filter, not, slice_set}
use Rattle.small_laws.proofs.Options.{same_some, none_or_some}
use std.Path.{fun_ext}
use Rattle.module_format.specs.declared.rows.Direction.TheVariants.{In, Out}
use Rattle.module_format.specs.Order.{InOrder}
use Rattle.module_format.specs.Contents.{Contents, Par}
use Rattle.module_format.specs.Pars.{ParKeeps, behind_par, no_branches}
use Rattle.module_format.specs.Contexts.{first_branch}
use Rattle.module_format.specs.Keeping.{Keeps}
use Rattle.machine_state.specs.declared.event.Event.{Event}
use Rattle.machine_state.specs.declared.link.InputLink.{InputLink}
use Rattle.machine_state.specs.declared.holding.End.{End}
use Rattle.machine_state.specs.declared.process.Channel.{Channel}
use Rattle.machine_state.specs.declared.process.Registers.{Registers}
use Rattle.machine_state.specs.declared.process.Exchange.{Exchange}
use Rattle.machine_state.specs.declared.process.Task.{Task}
use Rattle.machine_state.specs.declared.process.Mode.{Mode}
use Rattle.machine_state.specs.declared.process.Mode.TheVariants.{Plain, Enabling, Disabling, Starting}
use Rattle.machine_state.specs.declared.process.Condition.{Condition}
use Rattle.machine_state.specs.declared.process.Condition.TheVariants.{Ready, Sending, Receiving, OnLink, Alternating}
use Rattle.machine_state.specs.declared.process.Condition.TheVariants.{Stopped, Ended}
use Rattle.machine_state.specs.Memory.{Memory, place_of, word_at, with_word, byte_at, with_byte}
use Rattle.machine_state.specs.Holding.{Holding, nothing, may_read, covers}
use Rattle.machine_state.specs.World.{World, Role, Join, held, holding_at, loaded, root_task, root_role, root_holding}
use Rattle.machine_state.specs.World.{output_word, link_ends_from}
use Rattle.machine_state.specs.Apart.{AllApart, block_span, data_word}
use Rattle.machine_state.specs.ApartLaws.{HoldingsStayApart}
use Rattle.machine_state.specs.Site.{Site, Local, Outcome, goes, jumps, lands, stops, fails, receives, sends, starts}
use Rattle.machine_state.specs.Site.{joins, begins, enables_channel, enables_skip, waits, disables_channel}
use Rattle.machine_state.specs.Site.{disables_skip, ends_alternation}
use Rattle.machine_state.specs.LocalStep.{copied}
use Rattle.machine_state.specs.Moves.{put, on_task, wake, leave, dispatch, cell_of, fill, fill_condition}
use Rattle.machine_state.specs.Moves.{with_condition, link_index, with_channel, with_input, with_output}
use Rattle.machine_state.specs.Turn.{Here, Turn, at_here, between, continued}
use Rattle.machine_state.specs.Exchanges.{waits_at}
use Rattle.machine_state.specs.Alternations.{chosen, ready_or}
use Rattle.machine_state.specs.Joins as join
use Rattle.machine_state.specs.Joins.{member_joined, closed_task, started, on_role, new_task, opened, ended, given_back}
use Rattle.machine_state.specs.Joins.{join_after, without_words}
use Rattle.machine_state.specs.BranchShares.{frame_address, holding_of}
use Rattle.machine_state.specs.StartPlans.{later_plan, Plan, scheduling_addresses, share_by}
use Rattle.machine_state.specs.JoinLookups.{Found}
use Rattle.machine_state.specs.Happens.{site_of, turn, world_after}
use Rattle.machine_state.specs.ChannelLaws.{HaveTheirWaiters}
use Rattle.prefix_decoder.specs.Functions.{nibble}
use Rattle.prefix_decoder.specs.Operand.{with_nibble}
use Rattle.machine_state.proofs.Lines.{got_other, got_either, got_within, set_either}
use Rattle.machine_state.proofs.MovesLeaveAlone.{wake_only, rouse_only, on_task_only, chooses, on_role_is}
use Rattle.machine_state.proofs.MovesLeaveAlone.{roles_of_equal}
use Rattle.machine_state.proofs.Changes as change
use Rattle.machine_state.proofs.Changes.{Roused, rouses}
use Rattle.machine_state.proofs.EveryInstruction.{Wants, each_step}
use Rattle.machine_state.proofs.Starting.{first_tests, later_tests}
use Rattle.machine_state.specs.Endings as turns
use Rattle.machine_state.proofs.Turns.{turn_happens}
use Rattle.machine_state.specs.Endings.{Moved, TurnsInto, Happened}
use Rattle.machine_state.proofs.Waiting.{WaitsIn, reached}
use Rattle.machine_state.proofs.EveryWorld.{every_world}
use Rattle.machine_state.specs.Ownership.{HoldersAreInOrder, IsAmong, Claim, to_write, to_use, claims, rival, owner_in}
use Rattle.machine_state.specs.Ownership.{owner_of, Under, child, deeper, Holders, KeepsPlace, in_block, in_channel}
use Rattle.machine_state.specs.Ownership.{HoldersIn}
use Rattle.machine_state.specs.Roles.{own_in, opener_in, opened_in}
use Rattle.machine_state.proofs.Claims.{is_apart, nothing_claimed}
use Rattle.machine_state.proofs.Shares.{end_among}
use Rattle.machine_state.proofs.EvenWords.{even_local}
use Rattle.machine_state.proofs.Owners.{owner_same, with_channels_size, without_channels_size}
use Rattle.machine_state.proofs.Holders.{now_apart, kept_is_free, kept_once}
use Rattle.machine_state.proofs.Roles.{field_set, told_of, opened_is, gives_back}
use Rattle.machine_state.proofs.StartedApart.{RowIsSmall, branch_starts, first_starts, found_row}
use Rattle.machine_state.proofs.EndedApart.{on_role_channels, on_role_tasks, carried, member_ends}
use Rattle.machine_state.proofs.ChannelWaiters.{channel_there, same_channel, channels_have_their_waiters}

-- ---- what a module has

-- Data and code end before addresses wrap around, the links are before the data, and each row is small.
pub record IsSmall (m : Contents) : Type 0 where
  pub words : 4 * m.data_words < 0x7fffff00
  pub links : length m.lengths ≤ 64
  pub rows : (n : ℕ) (par : Par) → slice_get m.pars n ≡ Some par → RowIsSmall m par

in_order : {A S : Type 0} (Is : S → A → Type 0) (next : S → A → S) (low : S) (xs : List A) → InOrder Is next low xs
    → (n : ℕ) (x : A) → slice_get xs n ≡ Some x → (s : S) × Is s x
in_order Is next low [] all n x here = absurd (cc)
in_order Is next low (y ∷ ys) all zero x here =
    (low, let e : y ≡ x = cc in subst (λ z. Is low z) e all.0)
in_order Is next low (y ∷ ys) all (suc n) x here = in_order Is next (next low y) ys all.1 n x here

pub format_is_small : (m : Contents) → Keeps m → IsSmall m
format_is_small m keeps = record {
  words = (let limit = keeps.sizes.data_limit in omega (arith, limit));
  links = (let eight = keeps.bounds.eight in omega (arith, eight));
  rows = λ n par here.
      let row = (in_order (ParKeeps (first_branch m)
      (length m.code)) behind_par no_branches m.pars keeps.rows.pars n par
      here).1 in
      record {
        code = (
            let words = keeps.sizes.data_limit in
            let code = keeps.sizes.code_limit in
            let inside = row.successor_in_code in
            omega (arith, words, code, inside));
        branches = (let limit = row.branch_limit in omega (arith, limit));
      };
}

-- ---- workspaces are multiples of 4

abbrev pub AllEven : List Task → Type 0
AllEven tasks = (q : ℕ) (t : Task) → slice_get tasks q ≡ Some t → t.registers.workspace % 4 ≡ 0

abbrev pub HasEven : Local → Type 0
HasEven l = l.registers.workspace % 4 ≡ 0

abbrev pub IsEven : Outcome → Type 0
IsEven (goes l) = HasEven l
IsEven (jumps to l) = HasEven l
IsEven (lands to l) = HasEven l
IsEven (stops l) = HasEven l
IsEven (fails kind) = Unit {0}
IsEven (receives e l) = HasEven l
IsEven (sends e l) = HasEven l
IsEven (starts to workspace l) = HasEven l × (workspace % 4 ≡ 0)
IsEven (joins block l) = HasEven l
IsEven (begins l) = HasEven l
IsEven (enables_channel guard address l) = HasEven l
IsEven (enables_skip guard l) = HasEven l
IsEven (waits l) = HasEven l
IsEven (disables_channel guard address distance l) = HasEven l
IsEven (disables_skip guard distance l) = HasEven l
IsEven (ends_alternation to l) = HasEven l

evens : (s : Site) (r : Registers) (old : Memory)
    → Wants s r old old (λ r m n. (m ≡ n) × (r.workspace % 4 ≡ 0)) (λ o other. IsEven o)
evens s r old = record {
  same_word = λ r m n place k own. ap (λ (m : Memory). word_at m place) k.0;
  same_byte = λ r m n place k own. ap (λ (m : Memory). byte_at m place) k.0;
  stack = λ r m n stack k. k;
  workspace = λ r m n e k. (k.0, even_local r.workspace e k.1);
  word = λ r m n place v k own. (ap (λ (m : Memory). with_word m place v) k.0, k.1);
  byte = λ r m n place v k own. (ap (λ (m : Memory). with_byte m place v) k.0, k.1);
  copy = λ r m n source to count k read own. (ap (λ (m : Memory). copied m source to count m) k.0, k.1);
  at_fault = λ kind. tt;
  at_goes = λ r m n k. k.1;
  at_jumps = λ to r m n k. k.1;
  at_lands = λ to r m n k. k.1;
  at_stops = λ r m n k. k.1;
  at_receives = λ e asked own k. k.1;
  at_sends = λ e asked own defined k. k.1;
  at_starts = λ to workspace r m n even k. (k.1, eqb-true (workspace % 4) 0 even);
  at_joins = λ block r m n k. k.1;
  at_begins = λ r m n k. k.1;
  at_enables_channel = λ guard at r m n k held. k.1;
  at_enables_skip = λ guard r m n k. k.1;
  at_waits = λ r m n k. k.1;
  at_disables_channel = λ guard at distance r m n k held. k.1;
  at_disables_skip = λ guard distance r m n k. k.1;
  at_ends_alternation = λ to r m n k. k.1;
}

even_set : (tasks : List Task) (q : ℕ) (u : Task) → u.registers.workspace % 4 ≡ 0 → AllEven tasks
    → AllEven (slice_set tasks q u)
even_set tasks q u even all p t here = elim (set_either tasks q u p t here) [
  | inl it ↦ subst (λ (x : Task). x.registers.workspace % 4 ≡ 0) (sym it.1) even
  | inr old ↦ all p t old.1
]

even_push : (tasks : List Task) (u : Task) → u.registers.workspace % 4 ≡ 0 → AllEven tasks
    → AllEven (tasks ++ u ∷ [])
even_push tasks u even all p t here = elim (got_either tasks u p t here) [
  | inl old ↦ all p t old
  | inr last ↦ subst (λ (x : Task). x.registers.workspace % 4 ≡ 0) (sym last.1) even
]

even_on_task : (q : ℕ) (f : Task → Task) (w : World)
    → ((t : Task) → t.registers.workspace % 4 ≡ 0 → (f t).registers.workspace % 4 ≡ 0) → AllEven w.tasks
    → AllEven (on_task q f w).tasks
even_on_task q f w even all = on (slice_get w.tasks q) refl
  where
    on : (o : Option Task) → slice_get w.tasks q ≡ o → AllEven (elim o as (λ o. World) [
      | None ↦ w
      | Some task ↦ record w { tasks = slice_set w.tasks q (f task) }
    ]).tasks
    on None here = all
    on (Some t) here = even_set w.tasks q (f t) (even t (all q t here)) all

even_roused : (tasks later : List Task) (o : Option ℕ) → Roused tasks o later → AllEven tasks → AllEven later
even_roused tasks later o (change.nobody deaf) all = all
even_roused tasks later o (change.who_enables q t here is awake) all =
    even_set tasks q (record t { mode = Enabling true }) (all q t here) all
even_roused tasks later o (change.who_waits q t here is) all =
    even_set tasks q (record t { condition = Ready }) (all q t here) all

-- ---- what is so of every world

pub record Stands (m : Contents) (w : World) : Type 0 where
  pub holders : HoldersIn m w.roles w.channels
  pub size : length w.channels ≡ m.data_words
  pub even : AllEven w.tasks

-- roles and channels are as they were
unchanged : (m : Contents) (w v : World) → Stands m w → v.roles ≡ w.roles → v.channels ≡ w.channels → AllEven v.tasks
    → Stands m v
unchanged m w v st roles channels even = record {
  holders = carried m w.roles v.roles w.channels v.channels roles channels st.holders;
  size = ap (λ (cs : List (Option Channel)). length cs) channels ∙ st.size;
  even = even;
}

module _ (h : Here) (w : World) (there : slice_get w.tasks h.process ≡ Some h.from) (keeps : WaitsIn w)
    (recorded : HaveTheirWaiters w.tasks w.channels) (small : IsSmall h.contents) (st : Stands h.contents w) where
  stays : (v : World) → v.roles ≡ w.roles → v.channels ≡ w.channels → AllEven v.tasks → Stands h.contents v
  stays v roles channels even = unchanged h.contents w v st roles channels even

  -- a channel has the same opener as before
  stays_with : (address : ℕ) (old new : Channel) → slice_get w.channels (cell_of address) ≡ Some (Some old)
      → new.opener ≡ old.opener → (v : World) → v.roles ≡ w.roles
      → v.channels ≡ slice_set w.channels (cell_of address) (Some new) → AllEven v.tasks → Stands h.contents v
  stays_with address old new is same v roles channels even =
      let set = slice_set w.channels (cell_of address) (Some new) in
      let owners : owner_in set ≡ owner_in w.channels =
      fun_ext (λ k. owner_same w.channels (cell_of address) old new is same k) in
      record {
        holders = carried h.contents w.roles v.roles set v.channels roles channels
            (subst (λ (f : ℕ → Option ℕ). Holders (4 * h.contents.data_words) h.contents.pars (own_in w.roles)
            (opener_in w.roles) (opened_in w.roles) f) (sym owners) st.holders);
        size = ap (λ (cs : List (Option Channel)). length cs) channels
            ∙ (length-set w.channels (cell_of address) (Some new) ∙ st.size);
        even = even;
      }

  even_here : (u : Task) → u.registers.workspace % 4 ≡ 0 → AllEven (slice_set w.tasks h.process u)
  even_here u even = even_set w.tasks h.process u even st.even

  -- what is selected makes no difference
  chosen_stands : (move : World → World)
      → ((r : Registers) (mode : Mode) (m : Memory) → r.workspace % 4 ≡ 0 → Stands h.contents (move (record w {
        memory = m;
        tasks = slice_set w.tasks h.process (record h.from { registers = r; mode = mode });
      }))) → (is_ready : Bool) (distance : ℤ) (l : Local) → HasEven l
      → Stands h.contents (move (chosen h is_ready distance l w))
  chosen_stands move kept is_ready distance l even = chooses h w l (λ (v : World). Stands h.contents (move v))
      (λ r mode m same further. kept r mode m (ap (λ n. n % 4) same ∙ even)) is_ready distance

  -- the role of the process
  pub own_role : (r : Role) × (slice_get w.roles h.process ≡ Some r)
  own_role =
      let low = slice_get_within w.tasks h.process h.from there in
      let same = keeps.rest.size in
      got_within w.roles h.process (omega (arith, low, same))

  -- a branch starts
  starts_stand : (plan : Plan) (found : Found) (workspace : ℕ) (l : Local) (v : World) (r : Role)
      → slice_get w.roles h.process ≡ Some r → v.roles ≡ w.roles → v.tasks ≡ w.tasks
      → length v.channels ≡ h.contents.data_words → HasEven l → workspace % 4 ≡ 0
      → HoldersIn h.contents (slice_set w.roles h.process (record r {
        opened = Some (join_after (length v.memory) plan found (length v.tasks));
      }) ++ record {
        own = holding_of h.contents (length v.memory) (share_by plan found.branch);
        opener = Some h.process;
        opened = None;
      } ∷ []) v.channels → Stands h.contents (started h plan found workspace l v)
  starts_stand plan found workspace l v r here roles tasks size even_l even_w t =
      let u = record h.from { registers = between h.next l.registers; mode = Starting } in
      let f : Role → Role = λ role. record role {
        opened = Some (join_after (length v.memory) plan found (length v.tasks));
      } in
      let put_there = put h.process u (without_words (scheduling_addresses workspace) l.memory) v in
      let new : Role = record {
        own = holding_of h.contents (length v.memory) (share_by plan found.branch);
        opener = Some h.process;
        opened = None;
      } in
      let at_v = ap (λ (rs : List Role). slice_get rs h.process) roles ∙ here in
      let given_roles = roles_of_equal (on_role_is h.process f put_there r at_v)
      ∙ ap (λ (rs : List Role). slice_set rs h.process (f r)) roles in
      let given_tasks = on_role_tasks h.process f put_there
      ∙ ap (λ (ts : List Task). slice_set ts h.process u) tasks in
      let given_channels = on_role_channels h.process f put_there in
      record {
        holders = carried h.contents (slice_set w.roles h.process (f r) ++ new ∷ [])
            ((on_role h.process f put_there).roles ++ new ∷ []) v.channels
            (on_role h.process f put_there).channels (ap (λ (rs : List Role). rs ++ new ∷ []) given_roles)
            given_channels t;
        size = ap (λ (cs : List (Option Channel)). length cs) given_channels ∙ size;
        even = even_push (on_role h.process f put_there).tasks (new_task found.branch workspace) even_w
            (subst (λ (ts : List Task). AllEven ts) (sym given_tasks) (even_here u even_l));
      }

  -- a member of a join ends
  ends_stand : (v : World) (o : ℕ) (j : Join) (par : Par) → AllEven v.tasks → j.block % 4 ≡ 0
      → length v.channels ≡ h.contents.data_words
      → HoldersIn h.contents (member_joined h o j par v).roles (member_joined h o j par v).channels
      → Stands h.contents (member_joined h o j par v)
  unfolding dispatch
  ends_stand v o j par even block size t = record { holders = t; size = sizes; even = evens_after }
    where
      smaller : World
      smaller = on_role o (λ role. record role {
        opened = Some (record j { members = filter (λ q. not (q == h.process)) j.members });
      }) v

      same_tasks : smaller.tasks ≡ v.tasks
      same_tasks = on_role_tasks o (λ role. record role {
        opened = Some (record j { members = filter (λ q. not (q == h.process)) j.members });
      }) v

      same_channels : smaller.channels ≡ v.channels
      same_channels = on_role_channels o (λ role. record role {
        opened = Some (record j { members = filter (λ q. not (q == h.process)) j.members });
      }) v

      over : World
      over = on_task o (closed_task j par) smaller

      sizes : length (member_joined h o j par v).channels ≡ h.contents.data_words
      sizes = on (length (filter (λ q. not (q == h.process)) j.members) == 0)
        where
          on : (b : Bool) → length (if b then join.closed o j par smaller else dispatch h.pick (leave smaller)).channels
              ≡ h.contents.data_words
          on true = without_channels_size o (on_role o (λ role. record role { opened = None }) over).channels
              ∙ (ap (λ (cs : List (Option Channel)). length cs)
              (on_role_channels o (λ role. record role { opened = None }) over
              ∙ ((on_task_only o (closed_task j par) smaller).channels ∙ same_channels)) ∙ size)
          on false = ap (λ (cs : List (Option Channel)). length cs) same_channels ∙ size

      evens_after : AllEven (member_joined h o j par v).tasks
      evens_after = on (length (filter (λ q. not (q == h.process)) j.members) == 0)
        where
          before : AllEven smaller.tasks
          before = subst (λ (ts : List Task). AllEven ts) (sym same_tasks) even

          on : (b : Bool)
              → AllEven (if b then join.closed o j par smaller else dispatch h.pick (leave smaller)).tasks
          on true = subst (λ (ts : List Task). AllEven ts)
              (sym (on_role_tasks o (λ role. record role { opened = None }) over))
              (even_on_task o (closed_task j par) smaller (λ t even. block) before)
          on false = before

  -- the block of an open join
  even_block : (p : ℕ) (j : Join) → opened_in w.roles p ≡ Some j → j.block % 4 ≡ 0
  even_block p j is =
      let at = st.holders.places p j is in
      subst (λ n. n % 4 ≡ 0) (sym at.block) (even_local j.base at.par.block at.even)

  -- it goes on or waits, and no role or channel changes
  goes_on : (u : Task) → u.registers.workspace % 4 ≡ 0 → (v : World) → v.roles ≡ w.roles → v.channels ≡ w.channels
      → v.tasks ≡ slice_set w.tasks h.process u → Stands h.contents v
  goes_on u even v roles channels tasks =
      stays v roles channels (subst (λ (ts : List Task). AllEven ts) (sym tasks) (even_here u even))

  moved_stands : (o : Outcome) (after : World) → Moved h w o after → IsEven o → Stands h.contents after
  unfolding dispatch
  moved_stands o after (turns.it_goes l) even =
      goes_on (record h.from { registers = between h.next l.registers }) even _ refl refl refl
  moved_stands o after (turns.it_jumps to l) even =
      goes_on (record h.from { registers = between to l.registers }) even _ refl refl refl
  moved_stands o after (turns.it_is_sliced to l) even =
      goes_on (record h.from { registers = between to l.registers }) even _ refl refl refl
  moved_stands o after (turns.it_lands to l) even =
      goes_on (record h.from { registers = between to l.registers }) even _ refl refl refl
  moved_stands o after (turns.it_stops l) even =
      goes_on (record h.from { registers = between h.next l.registers; condition = Stopped }) even _ refl refl refl
  moved_stands o after (turns.receives_first e l c inside here nobody) even =
      stays_with e.channel c (record c { waiting = Some h.process }) (channel_there w e.channel c here) refl _ refl refl
      (even_here (record h.from { registers = between h.next l.registers; condition = Receiving e }) even)
  moved_stands o after (turns.receives_from e l c other sent inside here partner is same) even =
      let at = channel_there w e.channel c here in
      let cell = same_channel w other (cell_of e.channel) sent (recorded (cell_of e.channel) c other at partner) is in
      let v = with_channel sent.channel (record c { waiting = None }) (continued h h.next
      (record l { memory = copied l.memory (place_of sent.address) (place_of e.address) sent.length l.memory }) w) in
      stays_with sent.channel c (record c { waiting = None })
      (subst (λ k. slice_get w.channels k ≡ Some (Some c)) (sym cell) at) refl (wake other v) (wake_only other v).roles
      (wake_only other v).channels (even_on_task other (λ task. record task { condition = Ready }) v (λ t even. even)
      (even_here (record h.from { registers = between h.next l.registers }) even))
  moved_stands o after (turns.receives_none e l k link on here none) even =
      goes_on (record h.from { registers = between h.next l.registers; condition = OnLink e 0 }) even _ refl refl refl
  moved_stands o after (turns.receives_last e l k link byte on here kept one) even =
      goes_on (record h.from { registers = between h.next l.registers }) even _ refl refl refl
  moved_stands o after (turns.receives_one e l k link byte on here kept more) even =
      goes_on (record h.from { registers = between h.next l.registers; condition = OnLink e 1 }) even _ refl refl refl
  moved_stands o after (turns.sends_first e l c inside here nobody) even =
      let v = waits_at h (Sending e) e.channel c l w in
      stays_with e.channel c (record c { waiting = Some h.process }) (channel_there w e.channel c here) refl _
      (rouse_only c.enabled v).roles (rouse_only c.enabled v).channels
      (even_roused v.tasks _ c.enabled (rouses c.enabled v)
      (even_here (record h.from { registers = between h.next l.registers; condition = Sending e }) even))
  moved_stands o after (turns.sends_to e l c other wanted inside here partner is same) even =
      let v = with_channel e.channel (record c { waiting = None }) (continued h h.next
      (record l { memory = copied l.memory (place_of e.address) (place_of wanted.address) e.length l.memory }) w) in
      stays_with e.channel c (record c { waiting = None }) (channel_there w e.channel c here) refl (wake other v)
      (wake_only other v).roles (wake_only other v).channels
      (even_on_task other (λ task. record task { condition = Ready }) v (λ t even. even)
      (even_here (record h.from { registers = between h.next l.registers }) even))
  moved_stands o after (turns.starts_first target workspace l found is none tests) even =
      let plan = turns.plan_of h w found in
      let r = own_role in
      let may = first_tests h.contents w.memory (holding_at w.roles h.process) plan found workspace tests in
      let row = found_row h.contents target found is in
      let words = small.words in
      starts_stand plan found workspace (opened h plan l w).0 (opened h plan l w).1 r.0 r.1 refl refl
      (with_channels_size h.process plan.base plan.par.channels w.channels ∙ st.size) even.0 even.1
      (first_starts h.contents w.roles w.channels st.holders h.process r.0 r.1
      (sym (opened_is h.contents w.roles w.channels st.holders h.process r.0 r.1) ∙ none) st.size (omega (arith, words))
      w.memory h.from.registers.workspace (st.even h.process h.from there) found row
      (small.rows found.row found.par row) may.1 (length w.tasks) workspace may.0 keeps.rest.size)
  moved_stands o after (turns.starts_later target workspace l found j is is_open same tests) even =
      let plan = later_plan h.contents j found.par in
      let r = told_of (λ (x : Role). x.opened) w.roles h.process j is_open in
      let may = later_tests (length w.memory) plan found workspace tests in
      let row = found_row h.contents target found is in
      let at = st.holders.places h.process j is_open in
      let number : found.row ≡ j.row = eqb-true found.row j.row same in
      let par = same_some (slice_get h.contents.pars j.row) found.par at.par
      (subst (λ n. slice_get h.contents.pars n ≡ Some found.par) number row) at.row in
      starts_stand plan found workspace l w r.0 r.1 refl refl st.size even.0 even.1
      (branch_starts h.contents w.roles w.channels st.holders h.process r.0 r.1 j r.2 plan found (length w.memory)
      workspace (length w.tasks) (record {
        rest = refl;
        block = ap (λ (p : Par). frame_address j.base p.block) par ∙ sym at.block;
        base = refl;
        row = refl;
        members = refl;
      }) may keeps.rest.size)
  moved_stands o after (turns.joins_own block l j par is row all) even =
      let u = record h.from { registers = between h.next l.registers; mode = Plain; condition = Ended } in
      let r = told_of (λ (x : Role). x.opened) w.roles h.process j is in
      ends_stand (ended h l w) h.process j par (even_here u even) (even_block h.process j is) st.size
      (member_ends h h.contents h.process j par (ended h l w) r.0 st.holders r.1 r.2 (λ c by claimed.
      let low = st.holders.rises h.process h.process by in omega (arith, low)))
  moved_stands o after (turns.joins_opener block l opener j par none by is row same) even =
      let u = record h.from { registers = between h.next l.registers; mode = Plain; condition = Ended } in
      let f : Role → Role = λ role. record role { own = nothing } in
      let v = given_back h (ended h l w) in
      let mine = told_of (λ (x : Role). x.opener) w.roles h.process opener by in
      let theirs = told_of (λ (x : Role). x.opened) w.roles opener j is in
      let low = st.holders.rises h.process opener by in
      let differ : h.process ≢ opener = λ e. omega (arith, low, e) in
      let gone = record mine.0 { own = nothing } in
      let roles = roles_of_equal (on_role_is h.process f (ended h l w) mine.0 mine.1) in
      let channels = on_role_channels h.process f (ended h l w) in
      let tasks = on_role_tasks h.process f (ended h l w) in
      let back = gives_back h.contents w.roles w.channels st.holders h.process mine.0 mine.1
      (sym (opened_is h.contents w.roles w.channels st.holders h.process mine.0 mine.1) ∙ none) in
      let t = carried h.contents (slice_set w.roles h.process gone) v.roles w.channels v.channels roles channels back in
      ends_stand v opener j par (subst (λ (ts : List Task). AllEven ts) (sym tasks) (even_here u even))
      (even_block opener j is) (ap (λ (cs : List (Option Channel)). length cs) channels ∙ st.size)
      (member_ends h h.contents opener j par v theirs.0 t
      (ap (λ (rs : List Role). slice_get rs opener) roles ∙ (got_other w.roles h.process opener gone differ ∙ theirs.1))
      theirs.2 (λ c by claimed. nothing_claimed c (subst (λ (g : Holding). claims g c ≡ true)
      (ap (λ (rs : List Role). own_in rs h.process) roles
      ∙ field_set (λ (x : Role). x.own) nothing w.roles h.process mine.0 gone mine.1) claimed)))
  moved_stands o after (turns.it_begins l) even =
      goes_on (record h.from { registers = between h.next l.registers; mode = Enabling false }) even _ refl refl refl
  moved_stands o after (turns.it_enables guard address l s holds (turns.on_channel c inside here) once) even =
      stays_with address c (record c { enabled = Some h.process }) (channel_there w address c here) refl _ refl refl
      (even_here (record h.from {
        registers = between h.next l.registers;
        mode = ready_or h.from.mode (is_some c.waiting);
      }) even)
  moved_stands o after (turns.it_enables guard address l s holds (turns.on_link k link on here) once) even =
      goes_on (record h.from {
        registers = between h.next l.registers;
        mode = ready_or h.from.mode (is_some link.kept);
      }) even _ refl refl refl
  moved_stands o after (turns.it_enables_nothing guard address l off) even =
      goes_on (record h.from { registers = between h.next l.registers }) even _ refl refl refl
  moved_stands o after (turns.it_enables_a_skip guard l) even =
      goes_on (record h.from { registers = between h.next l.registers; mode = ready_or h.from.mode guard }) even _ refl
      refl refl
  moved_stands o after (turns.it_is_ready l is) even =
      goes_on (record h.from { registers = between h.next l.registers; mode = Disabling None }) even _ refl refl refl
  moved_stands o after (turns.it_waits l is) even =
      goes_on (record h.from {
        registers = between h.next l.registers;
        mode = Disabling None;
        condition = Alternating;
      }) even _ refl refl refl
  moved_stands o after (turns.it_disables guard address distance l s holds (turns.on_channel c inside here) mine) even =
      chosen_stands (with_channel address (record c { enabled = None }))
      (λ r mode m even. stays_with address c (record c { enabled = None }) (channel_there w address c here) refl _ refl
      refl (even_here (record h.from { registers = r; mode = mode }) even)) (is_some c.waiting) distance l even
  moved_stands o after (turns.it_disables guard address distance l s holds (turns.on_link k link on here) mine) even =
      chosen_stands (with_input k (record link { enabled = None }))
      (λ r mode m even. goes_on (record h.from { registers = r; mode = mode }) even _ refl refl refl)
      (is_some link.kept) distance l even
  moved_stands o after (turns.it_disables_nothing guard address distance l off) even =
      chosen_stands (λ v. v)
      (λ r mode m even. goes_on (record h.from { registers = r; mode = mode }) even _ refl refl refl)
      false distance l even
  moved_stands o after (turns.it_disables_a_skip guard distance l) even =
      chosen_stands (λ v. v)
      (λ r mode m even. goes_on (record h.from { registers = r; mode = mode }) even _ refl refl refl)
      guard distance l even
  moved_stands o after (turns.it_ends_alternation to l none) even =
      goes_on (record h.from { registers = between to l.registers; mode = Plain }) even _ refl refl refl

  end_stands : (o : Outcome) (t : Turn) → TurnsInto h w o t → IsEven o → Stands h.contents t.world
  unfolding dispatch
  end_stands o t (turns.at_fault refused) even = stays _ refl refl st.even
  end_stands o t (turns.has_run {after = after} ends) even =
      let s = moved_stands o after ends even in record { holders = s.holders; size = s.size; even = s.even }
  end_stands o t (turns.has_emitted e l k on same) even =
      goes_on (record h.from { registers = between h.next l.registers; condition = OnLink e 0 }) even _ refl refl refl

-- ---- every event

module _ (m : Contents) (small : IsSmall m) (w : World) (keeps : WaitsIn w)
    (recorded : HaveTheirWaiters w.tasks w.channels) (st : Stands m w) where
  same_task : (p : ℕ) (f : Task → Task) (v : World) → v.roles ≡ w.roles → v.channels ≡ w.channels → v.tasks ≡ w.tasks
      → ((t : Task) → t.registers.workspace % 4 ≡ 0 → (f t).registers.workspace % 4 ≡ 0) → Stands m (on_task p f v)
  same_task p f v roles channels tasks even = unchanged m w (on_task p f v) st ((on_task_only p f v).roles ∙ roles)
      ((on_task_only p f v).channels ∙ channels)
      (even_on_task p f v even (subst (λ (ts : List Task). AllEven ts) (sym tasks) st.even))

  fills_stand : (p k byte : ℕ) (link : InputLink) → Stands m (fill p k byte link w)
  fills_stand p k byte link = on (slice_get w.tasks p)
    where
      on_last : (e : Exchange) (done : ℕ) (b : Bool)
          → Stands m (if b
          then wake p (with_input k (record link { waiting = None }) (record w {
            memory = with_byte w.memory (place_of ((e.address + done) % 2 ^ 32)) (Some byte);
          }))
          else with_condition p (OnLink e (done + 1)) (record w {
            memory = with_byte w.memory (place_of ((e.address + done) % 2 ^ 32)) (Some byte);
          }))
      on_last e done true =
          let v = with_input k (record link { waiting = None }) (record w {
            memory = with_byte w.memory (place_of ((e.address + done) % 2 ^ 32)) (Some byte);
          }) in
          let s = same_task p (λ task. record task { condition = Ready }) v refl refl refl (λ t even. even) in
          record { holders = s.holders; size = s.size; even = s.even }
      on_last e done false = same_task p (λ task. record task { condition = OnLink e (done + 1) })
          (record w { memory = with_byte w.memory (place_of ((e.address + done) % 2 ^ 32)) (Some byte) }) refl refl refl
          (λ t even. even)

      on_condition : (c : Condition) → Stands m (fill_condition p k byte link c w)
      on_condition Ready = st
      on_condition (Sending e) = st
      on_condition (Receiving e) = st
      on_condition (OnLink e done) = on_last e done (done + 1 == e.length)
      on_condition Alternating = st
      on_condition Stopped = st
      on_condition Ended = st

      on : (o : Option Task) → Stands m (elim o as (λ o. World) [
        | None ↦ w
        | Some task ↦ fill_condition p k byte link task.condition w
      ])
      on None = st
      on (Some task) = on_condition task.condition

  turn_stands : (e : Event) (t : Turn) → Happened m w e t → Stands m t.world
  unfolding dispatch
  turn_stands e t (turns.was_at_fault f is) = st
  turn_stands e t (turns.it_rests rests) = st
  turn_stands e t (turns.is_outside p task why runs here) = unchanged m w _ st refl refl st.even
  turn_stands e t (turns.is_prefix p task byte operand runs here at none it next) =
      unchanged m w _ st refl refl (even_set w.tasks p
      (record task { registers = record task.registers { at = task.registers.at + 1; operand = operand } })
      (st.even p task here) st.even)
  turn_stands e t (turns.is_step {pick = pick} p task byte f runs here at is ends) =
      let h = at_here m p task pick in
      end_stands h w here keeps recorded small st _ t ends
      (each_step (site_of h w) task.registers w.memory w.memory (λ r m n. (m ≡ n) × (r.workspace % 4 ≡ 0))
      (λ o other. IsEven o) (evens (site_of h w) task.registers w.memory) (refl, st.even p task here) f
      (with_nibble task.registers.operand (nibble byte)))
  turn_stands e t (turns.is_taken {link = link} {byte = byte} input p here waiting) =
      let s = fills_stand p (link_index link) byte input in
      record { holders = s.holders; size = s.size; even = s.even }
  turn_stands e t (turns.is_kept {link = link} {byte = byte} input here nobody empty) =
      let v = with_input (link_index link) (record input { kept = Some byte }) w in
      unchanged m w _ st (rouse_only input.enabled v).roles (rouse_only input.enabled v).channels
      (even_roused v.tasks _ input.enabled (rouses input.enabled v) st.even)
  turn_stands e t (turns.is_acknowledged {link = link} output p here waiting) =
      let s = same_task p (λ task. record task { condition = Ready })
      (with_output (link_index link) (record { waiting = None }) w) refl refl refl (λ t even. even) in
      record { holders = s.holders; size = s.size; even = s.even }

-- ---- the loaded world

link_of_end : (k : ℕ) (lengths : List ℕ) (e : End) → IsAmong e (link_ends_from k lengths)
    → (n : ℕ) × (e.address ≡ output_word n) × (n < k + length lengths)
link_of_end k [] e among = absurd among
link_of_end k (size ∷ sizes) e among = on (link_of_end (k + 1) sizes e) (size == 0) among
  where
    further : (n : ℕ) × (e.address ≡ output_word n) × (n < k + 1 + length sizes)
        → (n : ℕ) × (e.address ≡ output_word n) × (n < k + length (size ∷ sizes))
    further it = let low = it.2 in (it.0, it.1, omega (arith, low))

    on : (IsAmong e (link_ends_from (k + 1) sizes)
        → (n : ℕ) × (e.address ≡ output_word n) × (n < k + 1 + length sizes)) → (b : Bool)
        → IsAmong e (if b
        then link_ends_from (k + 1) sizes
        else record { address = output_word k; direction = if nat_lt k 4 then Out else In }
        ∷ link_ends_from (k + 1) sizes) → (n : ℕ) × (e.address ≡ output_word n) × (n < k + length (size ∷ sizes))
    on later true there = further (later there)
    on later false (inl here) = (k, sym (ap (λ (x : End). x.address) here), omega arith)
    on later false (inr there) = further (later there)

link_is_outside : (n size : ℕ) → n < 64 → size < 0x7fffff00 → size ≤ place_of (output_word n)
unfolding place_of
link_is_outside n size low small = omega (arith, low, small)

module _ (m : Contents) (small : IsSmall m) where
  abbrev roots : List Role
  roots = root_role m ∷ []

  abbrev none : List (Option Channel)
  none = replicate m.data_words None

  no_opener : (p : ℕ) → opener_in roots p ≡ None
  no_opener zero = refl
  no_opener (suc p) = refl

  not_open : (p : ℕ) → opened_in roots p ≡ None
  not_open zero = refl
  not_open (suc p) = refl

  no_owner : (n k : ℕ) → owner_in (replicate n None) k ≡ None
  no_owner zero k = refl
  no_owner (suc n) zero = refl
  no_owner (suc n) (suc k) = no_owner n k

  under_nobody : (q p : ℕ) → Under (opener_in roots) q p → ⊥
  under_nobody q p (child a is) = none_or_some (opener_in roots a) q (no_opener a) is
  under_nobody q p (deeper a o is above) = none_or_some (opener_in roots a) o (no_opener a) is

  keeps_nothing : (p x : ℕ) → KeepsPlace (opened_in roots) (owner_in none) p x → ⊥
  keeps_nothing p x (in_block j is inside) = none_or_some (opened_in roots p) j (not_open p) is
  keeps_nothing p x (in_channel owned) = none_or_some (owner_in none (x / 4)) p (no_owner m.data_words (x / 4)) owned

  root_inside : (p x : ℕ) → claims (own_in roots p) (to_write x) ≡ true → x < 4 * m.data_words
  root_inside zero x own = elim (or_cases _ false own) [
    | inl covered ↦ ltb-true x (4 * m.data_words) (and_parts _ _ covered).1
    | inr other ↦ absurd (cc)
  ]
  root_inside (suc p) x own = absurd (nothing_claimed (to_write x) own)

  root_ends : (p : ℕ) (e : End) → claims (own_in roots p) (to_use e) ≡ true → 4 * m.data_words ≤ place_of e.address
  root_ends zero e held =
      let it = link_of_end 0 m.lengths e (end_among (root_holding m) e held) in
      let low = it.2 in
      let links = small.links in
      subst (λ a. 4 * m.data_words ≤ place_of a) (sym it.1)
      (link_is_outside it.0 (4 * m.data_words) (omega (arith, low, links)) small.words)
  root_ends (suc p) e held = absurd (nothing_claimed (to_use e) held)

  root_alone : (p q : ℕ) (c d : Claim) → p ≢ q → claims (own_in roots p) c ≡ true
      → claims (own_in roots q) d ≡ true → ⊥
  root_alone zero zero c d differ x y = differ refl
  root_alone zero (suc q) c d differ x y = nothing_claimed d y
  root_alone (suc p) q c d differ x y = nothing_claimed c x

  loaded_stands : Stands m (loaded m)
  loaded_stands = record {
    holders = record {
      rises = λ p o is. absurd (none_or_some (opener_in roots p) o (no_opener p) is);
      counted = λ p o c is claimed. absurd (none_or_some (opener_in roots p) o (no_opener p) is);
      inside = root_inside;
      ends = λ p e held. inl (root_ends p e held);
      within = λ p j c is rest. absurd (none_or_some (opened_in roots p) j (not_open p) is);
      kept = λ p x keeps. absurd (keeps_nothing p x keeps);
      hidden = λ p j x is read keeps. keeps_nothing p x keeps;
      both = λ p j x is inside owned. none_or_some (opened_in roots p) j (not_open p) is;
      opens = λ k p owned. absurd (none_or_some (owner_in none k) p (no_owner m.data_words k) owned);
      apart = λ p q differ up down c x y. root_alone p q c _ differ x y;
      below = λ q p j c above is x y. under_nobody q p above;
      below_kept = λ q p x above read keeps. under_nobody q p above;
      places = λ p j is. absurd (none_or_some (opened_in roots p) j (not_open p) is);
    };
    size = length-replicate m.data_words None;
    even = root_even;
  }
    where
      root_even : (q : ℕ) (t : Task) → slice_get (root_task m ∷ []) q ≡ Some t
          → t.registers.workspace % 4 ≡ 0
      root_even zero t here =
          let e : root_task m ≡ t = cc in
          subst (λ (x : Task). x.registers.workspace % 4 ≡ 0) e (omega arith)
      root_even (suc q) t here = absurd (cc)

  pub all_stand : (es : List Event) → Stands m (world_after m es)
  all_stand es = every_world m (Stands m) loaded_stands
      (λ es e st. turn_stands m small (world_after m es) (reached m es)
      (channels_have_their_waiters m es) st e (turn m (world_after m es) e)
      (turn_happens m (world_after m es) e)) es

-- ---- what the invariant says

module _ (m : Contents) (roles : List Role) (channels : List (Option Channel)) (t : HoldersIn m roles channels) where
  abbrev now : ℕ → Holding
  now p = elim (opened_in roles p) as (λ o. Holding) [ None ↦ own_in roles p | Some join ↦ join.rest ]

  held_is : (p : ℕ) (r : Role) → slice_get roles p ≡ Some r → now p ≡ held r
  held_is p r here = ap (λ (o : Option Role). elim (elim o as (λ o. Option Join) [
    | None ↦ None
    | Some role ↦ role.opened
  ]) as (λ o. Holding) [
    | None ↦ elim o as (λ o. Holding) [ None ↦ nothing | Some role ↦ role.own ]
    | Some join ↦ join.rest
  ]) here

  in_words : (j : Join) (x : ℕ) → covers (block_span j) x ≡ true → (place_of j.block ≤ x) × (x < place_of j.block + 8)
  in_words j x covered =
      let both = and_parts _ _ covered in (
        leb-true (place_of j.block) x both.0,
        ltb-true x
            (place_of j.block + 8) both.1,
      )

  keeps_block : (p : ℕ) (r : Role) (j : Join) (x : ℕ) → slice_get roles p ≡ Some r → r.opened ≡ Some j
      → covers (block_span j) x ≡ true → KeepsPlace (opened_in roles) (owner_in channels) p x
  keeps_block p r j x here is covered = in_block j (opened_is m roles channels t p r here ∙ is) (in_words j x covered)

  owned : (k : ℕ) (c : Channel) (x : ℕ) → slice_get channels k ≡ Some (Some c) → covers (data_word k) x ≡ true
      → owner_in channels (x / 4) ≡ Some c.opener
  owned k c x here covered =
      let both = and_parts _ _ covered in
      let low = leb-true (4 * k) x both.0 in
      let high = ltb-true x (4 * k + 4) both.1 in
      let cell : k ≡ x / 4 = omega (arith, low, high) in
      subst (λ n. owner_in channels n ≡ Some c.opener) cell (ap owner_of here)

  pub keeps_apart : AllApart roles channels
  keeps_apart = record {
    processes = λ p q r s differ a b. is_apart (held r) (held s) (λ c x y. now_apart t p q differ c
        (subst (λ (h : Holding). claims h c ≡ true) (sym (held_is p r a)) x)
        (subst (λ (h : Holding). claims h (rival c) ≡ true) (sym (held_is q s b)) y));
    blocks = λ p q r s j a is b x covered. false_from_ne_true (may_read (held s) x) (λ read. kept_is_free t p q x
        (keeps_block p r j x a is covered) (subst (λ (h : Holding). may_read h x ≡ true) (sym (held_is q s b)) read));
    channel_words = λ k q c s a b x covered. false_from_ne_true (may_read (held s) x)
        (λ read. kept_is_free t c.opener q x (in_channel (owned k c x a covered))
        (subst (λ (h : Holding). may_read h x ≡ true) (sym (held_is q s b)) read));
    blocks_once = λ p q r s i j differ a b is_i is_j x covered. false_from_ne_true (covers (block_span j) x)
        (λ also. kept_once t p q x differ (keeps_block p r i x a is_i covered) (keeps_block q s j x b is_j also));
    both_once = λ p k r j c a is b x covered. false_from_ne_true (covers (data_word k) x)
        (λ also. elim (cases_eq p c.opener) [
          | inl e ↦ t.both p j x (opened_is m roles channels t p r a ∙ is) (in_words j x covered)
              (subst (λ n. owner_in channels (x / 4) ≡ Some n) (sym e) (owned k c x b also))
          | inr differ ↦
              kept_once t p c.opener x differ (keeps_block p r j x a is covered) (in_channel (owned k c x b also))
        ]);
  }

pub holdings_stay_apart : HoldingsStayApart
holdings_stay_apart m es keeps =
    let w = world_after m es in
    keeps_apart m w.roles w.channels (all_stand m (format_is_small m keeps) es).holders

pub holders_are_in_order : HoldersAreInOrder
holders_are_in_order m es keeps = (all_stand m (format_is_small m keeps) es).holders
