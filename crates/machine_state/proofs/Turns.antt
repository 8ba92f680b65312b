-- Every turn ends in one of the ways of Endings: every law of one event goes by these.
use Rattle.std.proofs.Common.{◌≡◌, ℕ, ◌+◌, ◌&&◌, Bool, true, false, if◌then◌else◌, nat_le, nat_lt, ℤ, List, [], ◌∷◌}
use Rattle.std.proofs.Common.{length, Option, Some, None, is_some, Err, refl, sym, ◌∙◌, slice_get}
use Rattle.std.specs.Prelude.{◌==◌}
use Rattle.prefix_decoder.specs.declared.function.Fun.{Fun}
use Rattle.prefix_decoder.specs.Functions.{fun_of, function_code, nibble}
use Rattle.prefix_decoder.specs.Operand.{with_nibble, after_prefix}
use Rattle.module_format.specs.Contents.{Contents, Par, link_length}
use Rattle.machine_state.specs.declared.process.Task.{Task}
use Rattle.machine_state.specs.declared.process.Mode.{Mode}
use Rattle.machine_state.specs.declared.process.Mode.TheVariants.{Plain, Enabling, Disabling, Starting}
use Rattle.machine_state.specs.declared.process.Exchange.{Exchange}
use Rattle.machine_state.specs.declared.process.Channel.{Channel}
use Rattle.machine_state.specs.declared.process.Condition.{Condition}
use Rattle.machine_state.specs.declared.process.Condition.TheVariants.{Sending, Receiving, OnLink}
use Rattle.machine_state.specs.declared.event.Event.{Event}
use Rattle.machine_state.specs.declared.event.Event.TheVariants.{Step, Arrive, Acknowledge}
use Rattle.machine_state.specs.declared.link.Link.{Link}
use Rattle.machine_state.specs.declared.link.InputLink.{InputLink}
use Rattle.machine_state.specs.declared.link.OutputLink.{OutputLink}
use Rattle.machine_state.specs.declared.fault.Fault.{Fault}
use Rattle.machine_state.specs.declared.fault.FaultKind.{FaultKind}
use Rattle.machine_state.specs.declared.fault.FaultKind.TheVariants.{OutsideCode, EndNotHeld, UnequalLengths}
use Rattle.machine_state.specs.declared.fault.FaultKind.TheVariants.{JoinOrder, NotOwn}
use Rattle.std.specs.List.{list_all}
use Rattle.machine_state.specs.Holding.{may_write}
use Rattle.machine_state.specs.World.{World, Join, holding_at}
use Rattle.machine_state.specs.Site.{Local, Outcome, goes, jumps, lands, stops, fails, receives, sends, starts, joins}
use Rattle.machine_state.specs.Site.{begins, enables_channel, enables_skip, waits, disables_channel, disables_skip}
use Rattle.machine_state.specs.Site.{ends_alternation}
use Rattle.machine_state.specs.LocalStep.{local_step}
use Rattle.machine_state.specs.Turn.{Here, at_here, followed, left, waiting}
use Rattle.machine_state.specs.Exchanges as exchange
use Rattle.machine_state.specs.Exchanges.{waits_at, condition_of, input_link, output_link}
use Rattle.machine_state.specs.Alternations as alternation
use Rattle.machine_state.specs.Alternations.{Source, is_by, has_enabled}
use Rattle.machine_state.specs.Joins as join
use Rattle.machine_state.specs.StartPlans as plans
use Rattle.machine_state.specs.Joins.{started, opened}
use Rattle.machine_state.specs.JoinLookups.{Found, found_at, opened_by, opener_of}
use Rattle.machine_state.specs.StartPlans.{first_fault, later_plan, first_faults, later_faults}
use Rattle.machine_state.specs.Moves.{counted, put, wake, dispatch, link_index, with_input, with_output, fill, rouse}
use Rattle.machine_state.specs.Moves.{channel_at}
use Rattle.machine_state.specs.Happens.{Turn, answered, ran, idle, ignored, taken, kept, busy, acknowledged}
use Rattle.machine_state.specs.Happens.{most_executed, failed, continued, settled, prefix_turn, site_of, byte_turn}
use Rattle.machine_state.specs.Happens.{task_turn, arrive_at, event_turn, turn}
use Rattle.machine_state.specs.Endings.{IsSource, on_channel, on_link, Moved, TurnsInto, at_fault, has_run, has_emitted}
use Rattle.machine_state.specs.Endings.{local_here, is_idle, is_busy, arrives_nowhere, is_ignored, Happened}
use Rattle.machine_state.specs.Endings.{was_at_fault, it_rests, is_outside, is_prefix, is_step, is_taken, is_kept}
use Rattle.machine_state.specs.Endings.{is_acknowledged, plan_of, with_first, no_byte, no_byte_follows, HasNoSource}
use Rattle.machine_state.specs.Endings.{no_channel, no_link, NeedsNext, after_receiving, after_sending, after_starting}
use Rattle.machine_state.specs.Endings.{after_enabling, after_disabling, Refused, it_goes, it_jumps, it_is_sliced}
use Rattle.machine_state.specs.Endings.{it_lands, it_stops, receives_first, receives_from, receives_none}
use Rattle.machine_state.specs.Endings.{receives_last, receives_one, sends_first, sends_to, starts_first, starts_later}
use Rattle.machine_state.specs.Endings.{joins_own, joins_opener, it_begins, it_enables, it_enables_nothing}
use Rattle.machine_state.specs.Endings.{it_enables_a_skip, it_is_ready, it_waits, it_disables, it_disables_nothing}
use Rattle.machine_state.specs.Endings.{it_disables_a_skip, it_ends_alternation, by_itself, no_code_follows}
use Rattle.machine_state.specs.Endings.{receives_nowhere, receives_from_no_sender, receives_other_length}
use Rattle.machine_state.specs.Endings.{receives_other_than_link, sends_nowhere, sends_to_no_receiver}
use Rattle.machine_state.specs.Endings.{sends_other_length, sends_other_than_link, enables_nowhere, is_enabled_already}
use Rattle.machine_state.specs.Endings.{disables_nowhere, is_not_its_own, is_enabled_still, ends_outside}
use Rattle.machine_state.specs.Endings.{starts_no_branch_not_own, starts_no_branch, starts_other_row_not_own}
use Rattle.machine_state.specs.Endings.{starts_other_row, fails_first_tests, fails_later_tests, joins_own_without_row}
use Rattle.machine_state.specs.Endings.{joins_own_too_early, joins_nobody, joins_no_join, joins_without_row}
use Rattle.machine_state.specs.Endings.{joins_other_block}

module _ (h : Here) (w : World) where
  module _ (o : Outcome) where
    by_test : (b : Bool) (x y : Turn) → (b ≡ true → TurnsInto h w o x) → (b ≡ false → TurnsInto h w o y)
        → TurnsInto h w o (if b then x else y)
    by_test true x y p q = p refl
    by_test false x y p q = q refl

    is_followed : NeedsNext o → (t : Turn) → TurnsInto h w o t → TurnsInto h w o (followed h t w)
    is_followed on t p = by_test (nat_lt h.next (length h.contents.code)) t (failed h OutsideCode w) (λ e. p)
        (λ e. at_fault (no_code_follows on e))

    -- a message of the length that the other side wants, and the next instruction inside the code
    of_one_length : NeedsNext o → (b : Bool) (t : Turn) → (b ≡ true → TurnsInto h w o t)
        → (b ≡ false → Refused h w o UnequalLengths)
        → TurnsInto h w o (if b then followed h t w else failed h UnequalLengths w)
    of_one_length on b t p q = by_test b _ _ (λ same. is_followed on t (p same)) (λ differ. at_fault (q differ))

  -- ---- messages

  -- what comes of a message by what the process waits for that is at its channel
  abbrev AtPartner : Outcome → Exchange → (ℕ → Option ℕ) → (Channel → ℕ → Condition → Turn) → Type 0
  AtPartner o e link met_by = (c : Channel) (other : ℕ) → link e.channel ≡ None → channel_at w e.channel ≡ Some c
      → c.waiting ≡ Some other → (condition : Condition) → condition_of w other ≡ condition
      → TurnsInto h w o (met_by c other condition)

  -- a channel is a link's end, or lies inside, where no process waits, or another process does
  at_end : (o : Outcome) → NeedsNext o → (e : Exchange) (link : ℕ → Option ℕ) (outside : ℕ → Turn)
      (first : Channel → Turn) (met_by : Channel → ℕ → Condition → Turn)
      → (link e.channel ≡ None → channel_at w e.channel ≡ None → Refused h w o EndNotHeld)
      → ((c : Channel) → link e.channel ≡ None → channel_at w e.channel ≡ Some c → c.waiting ≡ None
      → TurnsInto h w o (first c))
      → AtPartner o e link met_by → ((k : ℕ) → link e.channel ≡ Some k → TurnsInto h w o (outside k))
      → TurnsInto h w o (elim (link e.channel) [
        | Some k ↦ outside k
        | None ↦ elim (channel_at w e.channel) [
          | None ↦ failed h EndNotHeld w
          | Some c ↦ elim c.waiting
              [ None ↦ followed h (first c) w | Some other ↦ met_by c other (condition_of w other) ]
        ]
      ])
  at_end o after e link outside first met_by nowhere p q r = on_link (link e.channel) refl
    where
      on_waiting : link e.channel ≡ None → (c : Channel) → channel_at w e.channel ≡ Some c
          → (waiting : Option ℕ) → c.waiting ≡ waiting
          → TurnsInto h w o (elim waiting
          [ None ↦ followed h (first c) w | Some other ↦ met_by c other (condition_of w other) ])
      on_waiting inside c here None is = is_followed o after (first c) (p c inside here is)
      on_waiting inside c here (Some other) is = q c other inside here is (condition_of w other) refl

      on_channel : link e.channel ≡ None → (c : Option Channel) → channel_at w e.channel ≡ c → TurnsInto h w o (elim c [
        | None ↦ failed h EndNotHeld w
        | Some c ↦ elim c.waiting
            [ None ↦ followed h (first c) w | Some other ↦ met_by c other (condition_of w other) ]
      ])
      on_channel inside None is = at_fault (nowhere inside is)
      on_channel inside (Some c) is = on_waiting inside c is c.waiting refl

      on_link : (k : Option ℕ) → link e.channel ≡ k → TurnsInto h w o (elim k [
        | Some k ↦ outside k
        | None ↦ elim (channel_at w e.channel) [
          | None ↦ failed h EndNotHeld w
          | Some c ↦ elim c.waiting
              [ None ↦ followed h (first c) w | Some other ↦ met_by c other (condition_of w other) ]
        ]
      ])
      on_link None inside = on_channel inside (channel_at w e.channel) refl
      on_link (Some k) is = r k is

  received_ends : (e : Exchange) (l : Local) → TurnsInto h w (receives e l) (exchange.received h e l w)
  received_ends e l =
      at_end (receives e l) (after_receiving e l) e input_link (λ k. exchange.received_outside h k e l w)
      (λ c. answered ran (left h (waits_at h (Receiving e) e.channel c l w)))
      (λ c. exchange.received_from h e c l w)
      (λ inside none. receives_nowhere e l (no_channel inside none))
      (λ c inside here nobody. has_run (receives_first e l c inside here nobody)) on_partner
      (λ k is. on_input k is (slice_get w.links.inputs k) refl)
    where
      on_partner : AtPartner (receives e l) e input_link (λ c. exchange.received_from h e c l w)
      on_partner c other inside here who (Sending sent) is =
          of_one_length (receives e l) (after_receiving e l) _ _
          (λ same. has_run (receives_from e l c other sent inside here who is same))
          (λ differ. receives_other_length e l c other sent inside here who is differ)
      on_partner c other inside here who _ is = at_fault
          (receives_from_no_sender e l c other inside here who (λ sent it. let other_one = sym is ∙ it in cc))

      on_kept : (k : ℕ) (link : InputLink) → input_link e.channel ≡ Some k → slice_get w.links.inputs k ≡ Some link
          → (o : Option ℕ) → link.kept ≡ o
          → TurnsInto h w (receives e l) (answered ran (elim o [
            | None ↦
                left h (with_input k (record link { waiting = Some h.process }) (waiting h (OnLink e 0) l w))
            | Some byte ↦ exchange.received_kept h k e link byte l w
          ]))
      on_kept k link outside here None is = has_run (receives_none e l k link outside here is)
      on_kept k link outside here (Some byte) is = on_length (e.length == 1) refl
        where
          on_length : (b : Bool) → (e.length == 1) ≡ b
              → TurnsInto h w (receives e l) (answered ran (if b
              then counted (with_input k (record link { kept = None }) (continued h h.next (with_first e byte l) w))
              else left h (with_input k (record link { kept = None; waiting = Some h.process })
              (waiting h (OnLink e 1) (with_first e byte l) w))))
          on_length true one = has_run (receives_last e l k link byte outside here is one)
          on_length false more = has_run (receives_one e l k link byte outside here is more)

      on_input : (k : ℕ) → input_link e.channel ≡ Some k → (o : Option InputLink) → slice_get w.links.inputs k ≡ o
          → TurnsInto h w (receives e l) (elim o [
            | None ↦ failed h EndNotHeld w
            | Some link ↦
                if link_length h.contents (4 + k) == e.length
                then followed h (answered ran (exchange.received_on h k e link l w)) w
                else failed h UnequalLengths w
          ])
      on_input k outside None is = at_fault (receives_nowhere e l (no_link k outside is))
      on_input k outside (Some link) is = of_one_length (receives e l) (after_receiving e l)
          (link_length h.contents (4 + k) == e.length) _ (λ same. on_kept k link outside is link.kept refl)
          (λ differ. receives_other_than_link e l k link outside is differ)

  sent_ends : (e : Exchange) (l : Local) → TurnsInto h w (sends e l) (exchange.sent h e l w)
  sent_ends e l =
      at_end (sends e l) (after_sending e l) e output_link (λ k. exchange.sent_outside h k e l w)
      (λ c. answered ran (left h (rouse c.enabled (waits_at h (Sending e) e.channel c l w))))
      (λ c. exchange.sent_to h e c l w) (λ inside none. sends_nowhere e l inside none)
      (λ c inside here nobody. has_run (sends_first e l c inside here nobody)) on_partner
      (λ k is. of_one_length (sends e l) (after_sending e l) (link_length h.contents k == e.length) _
      (has_emitted e l k is) (λ differ. sends_other_than_link e l k is differ))
    where
      on_partner : AtPartner (sends e l) e output_link (λ c. exchange.sent_to h e c l w)
      on_partner c other inside here who (Receiving wanted) is =
          of_one_length (sends e l) (after_sending e l) _ _
          (λ same. has_run (sends_to e l c other wanted inside here who is same))
          (λ differ. sends_other_length e l c other wanted inside here who is differ)
      on_partner c other inside here who _ is = at_fault
          (sends_to_no_receiver e l c other inside here who (λ wanted it. let other_one = sym is ∙ it in cc))

  -- ---- alternations

  waited_ends : (l : Local) → TurnsInto h w (waits l) (alternation.waited h l w)
  waited_ends l = on_mode h.from.mode refl
    where
      on_mode : (mode : Mode) → h.from.mode ≡ mode
          → TurnsInto h w (waits l) (answered ran (alternation.waited_in h mode l w))
      on_mode Plain is = has_run (it_waits l (λ e. cc))
      on_mode (Enabling true) is = has_run (it_is_ready l is)
      on_mode (Enabling false) is = has_run (it_waits l (λ e. cc))
      on_mode (Disabling selection) is = has_run (it_waits l (λ e. cc))
      on_mode Starting is = has_run (it_waits l (λ e. cc))

  on_source_ends : (o : Outcome) (address : ℕ) (k : Source → Turn)
      → (HasNoSource w address → Refused h w o EndNotHeld)
      → ((s : Source) → IsSource w address s → TurnsInto h w o (k s))
      → TurnsInto h w o (alternation.on_source h address w k)
  on_source_ends o address k nowhere p = on_input (input_link address) refl
    where
      on_cell : input_link address ≡ None → (c : Option Channel) → channel_at w address ≡ c
          → TurnsInto h w o (elim (elim c as (λ c. Option Source)
          [ None ↦ None | Some c ↦ Some (alternation.of_channel address c) ])
          [ None ↦ failed h EndNotHeld w | Some s ↦ k s ])
      on_cell inside None is = at_fault (nowhere (no_channel inside is))
      on_cell inside (Some c) is = p _ (on_channel c inside is)

      on_side : (n : ℕ) → input_link address ≡ Some n → (link : Option InputLink)
          → slice_get w.links.inputs n ≡ link
          → TurnsInto h w o (elim (elim link as (λ l. Option Source)
          [ None ↦ None | Some link ↦ Some (alternation.of_link n link) ])
          [ None ↦ failed h EndNotHeld w | Some s ↦ k s ])
      on_side n outside None is = at_fault (nowhere (no_link n outside is))
      on_side n outside (Some link) is = p _ (on_link n link outside is)

      on_input : (n : Option ℕ) → input_link address ≡ n
          → TurnsInto h w o (elim (elim n as (λ n. Option Source) [
            | Some n ↦ elim (slice_get w.links.inputs n)
                [ None ↦ None | Some link ↦ Some (alternation.of_link n link) ]
            | None ↦ elim (channel_at w address)
                [ None ↦ None | Some c ↦ Some (alternation.of_channel address c) ]
          ]) [ None ↦ failed h EndNotHeld w | Some s ↦ k s ])
      on_input None is = on_cell is (channel_at w address) refl
      on_input (Some n) is = on_side n is (slice_get w.links.inputs n) refl

  enabled_ends : (guard : Bool) (address : ℕ) (l : Local)
      → TurnsInto h w (enables_channel guard address l) (alternation.channel_enabled h guard address l w)
  enabled_ends guard address l =
      let o = enables_channel guard address l in
      let after = after_enabling guard address l in
      by_test o guard _ _
      (λ holds. on_source_ends o address (alternation.source_enabled h l w)
      (λ none. enables_nowhere guard address l holds none) (λ s is.
      by_test o (is_some s.enabled) _ _ (λ twice. at_fault (is_enabled_already guard address l s holds is twice))
      (λ once. is_followed o after _ (has_run (it_enables guard address l s holds is once)))))
      (λ fails. is_followed o after _ (has_run (it_enables_nothing guard address l fails)))

  disabled_ends : (guard : Bool) (address : ℕ) (distance : ℤ) (l : Local)
      → TurnsInto h w (disables_channel guard address distance l)
      (alternation.channel_disabled h guard address distance l w)
  disabled_ends guard address distance l =
      let o = disables_channel guard address distance l in
      let after = after_disabling guard address distance l in
      by_test o guard _ _
      (λ holds. on_source_ends o address (alternation.source_disabled h distance l w)
      (λ none. disables_nowhere guard address distance l holds none) (λ s is.
      by_test o (is_by s.enabled h.process) _ _
      (λ own. is_followed o after _ (has_run (it_disables guard address distance l s holds is own)))
      (λ other. at_fault (is_not_its_own guard address distance l s holds is other))))
      (λ fails. is_followed o after _ (has_run (it_disables_nothing guard address distance l fails)))

  alternation_ends : (to : ℕ) (l : Local)
      → TurnsInto h w (ends_alternation to l) (alternation.alternation_ended h to l w)
  alternation_ends to l =
      let o = ends_alternation to l in
      by_test o (has_enabled w h.process) _ _ (λ some. at_fault (is_enabled_still to l some))
      (λ none. by_test o (nat_lt to (length h.contents.code)) _ _
      (λ inside. has_run (it_ends_alternation to l none)) (λ outside. at_fault (ends_outside to l none outside)))

  -- ---- starts and joins

  start_or_fail_ends : (o : Outcome) → NeedsNext o → (tests : List (Bool × FaultKind)) (after : World)
      → ((kind : FaultKind) → first_fault tests ≡ Some kind → Refused h w o kind)
      → (first_fault tests ≡ None → Moved h w o after) → TurnsInto h w o (join.start_or_fail h tests after w)
  start_or_fail_ends o further tests after q p = on (first_fault tests) refl
    where
      on : (kind : Option FaultKind) → first_fault tests ≡ kind
          → TurnsInto h w o (elim kind [
            | Some kind ↦ failed h kind w
            | None ↦ followed h (answered ran (counted after)) w
          ])
      on None is = is_followed o further _ (has_run (p is))
      on (Some kind) is = at_fault (q kind is)

  -- a start without a row always fails
  no_row : (o : Outcome) (b : Bool) → (b ≡ false → Refused h w o NotOwn) → (b ≡ true → Refused h w o JoinOrder)
      → TurnsInto h w o (join.start_or_fail h ((b, NotOwn) ∷ (false, JoinOrder) ∷ []) w w)
  no_row o true p q = at_fault (q refl)
  no_row o false p q = at_fault (p refl)

  start_ends : (target workspace : ℕ) (l : Local)
      → TurnsInto h w (starts target workspace l) (join.start_turn h target workspace l w)
  start_ends target workspace l = on_branch (found_at h.contents target) refl
    where
      on_join : (found : Found) → found_at h.contents target ≡ Some found
          → (j : Option Join) → opened_by w h.process ≡ j
          → TurnsInto h w (starts target workspace l) (elim j [
            | None ↦ join.first_start_turn h found workspace l w
            | Some j ↦ join.later_start_turn h j found workspace l w
          ])
      on_join found is None closed =
          start_or_fail_ends (starts target workspace l) (after_starting target workspace l)
          (first_faults h.contents w.memory (holding_at w.roles h.process) (plan_of h w found) found workspace)
          (started h (plan_of h w found) found workspace (opened h (plan_of h w found) l w).0
          (opened h (plan_of h w found) l w).1)
          (λ kind fails. fails_first_tests target workspace l found kind is closed fails)
          (starts_first target workspace l found is closed)
      on_join found is (Some j) is_open =
          by_test (starts target workspace l) (found.row == j.row) _ _
          (λ same. start_or_fail_ends (starts target workspace l) (after_starting target workspace l)
          (later_faults (length w.memory) (later_plan h.contents j found.par) found workspace)
          (started h (later_plan h.contents j found.par) found workspace l w)
          (λ kind fails. fails_later_tests target workspace l found j kind is is_open same fails)
          (starts_later target workspace l found j is is_open same))
          (λ other. no_row (starts target workspace l)
          (list_all (plans.word_passes (may_write j.rest)) (plans.scheduling_places workspace))
          (λ fails. starts_other_row_not_own target workspace l found j is is_open other fails)
          (λ passes. starts_other_row target workspace l found j is is_open other passes))

      on_branch : (found : Option Found) → found_at h.contents target ≡ found
          → TurnsInto h w (starts target workspace l) (elim found [
            | None ↦ join.start_or_fail h (plans.no_row_faults (holding_at w.roles h.process) workspace) w w
            | Some found ↦ elim (opened_by w h.process) [
              | None ↦ join.first_start_turn h found workspace l w
              | Some j ↦ join.later_start_turn h j found workspace l w
            ]
          ])
      on_branch None is = no_row (starts target workspace l)
          (list_all (plans.word_passes (may_write (holding_at w.roles h.process))) (plans.scheduling_places workspace))
          (λ fails. starts_no_branch_not_own target workspace l is fails)
          (λ passes. starts_no_branch target workspace l is passes)
      on_branch (Some found) is = on_join found is (opened_by w h.process) refl

  on_row_ends : (o : Outcome) (j : Join) (k : Par → Turn)
      → (slice_get h.contents.pars j.row ≡ None → Refused h w o JoinOrder)
      → ((par : Par) → slice_get h.contents.pars j.row ≡ Some par → TurnsInto h w o (k par))
      → TurnsInto h w o (join.on_row h j w k)
  on_row_ends o j k q p = on (slice_get h.contents.pars j.row) refl
    where
      on : (par : Option Par) → slice_get h.contents.pars j.row ≡ par
          → TurnsInto h w o (elim par [ None ↦ failed h JoinOrder w | Some par ↦ k par ])
      on None is = at_fault (q is)
      on (Some par) is = p par is

  join_ends : (block : ℕ) (l : Local) → TurnsInto h w (joins block l) (join.join_turn h block l w)
  join_ends block l = on_own (opened_by w h.process) refl
    where
      on_join : (opener : ℕ) → opened_by w h.process ≡ None → opener_of w h.process ≡ Some opener
          → (j : Option Join) → opened_by w opener ≡ j
          → TurnsInto h w (joins block l) (elim j [
            | None ↦ failed h JoinOrder w
            | Some j ↦ join.branch_end h opener j block l w
          ])
      on_join opener none by None is = at_fault (joins_no_join block l opener none by is)
      on_join opener none by (Some j) is = on_row_ends (joins block l) j _
          (λ no_row. joins_without_row block l opener j none by is no_row) (λ par row.
          by_test (joins block l) (j.block == block) _ _
          (λ same. has_run (joins_opener block l opener j par none by is row same))
          (λ other. at_fault (joins_other_block block l opener j par none by is row other)))

      on_opener : opened_by w h.process ≡ None → (opener : Option ℕ) → opener_of w h.process ≡ opener
          → TurnsInto h w (joins block l) (elim opener [
            | None ↦ failed h JoinOrder w
            | Some opener ↦ elim (opened_by w opener)
                [ None ↦ failed h JoinOrder w | Some j ↦ join.branch_end h opener j block l w ]
          ])
      on_opener none None is = at_fault (joins_nobody block l none is)
      on_opener none (Some opener) is = on_join opener none is (opened_by w opener) refl

      on_own : (j : Option Join) → opened_by w h.process ≡ j
          → TurnsInto h w (joins block l) (elim j [
            | Some j ↦ join.own_end h j block l w
            | None ↦ elim (opener_of w h.process) [
              | None ↦ failed h JoinOrder w
              | Some opener ↦ elim (opened_by w opener)
                  [ None ↦ failed h JoinOrder w | Some j ↦ join.branch_end h opener j block l w ]
            ]
          ])
      on_own None is = on_opener is (opener_of w h.process) refl
      on_own (Some j) is = on_row_ends (joins block l) j _ (λ no_row. joins_own_without_row block l j is no_row)
          (λ par row. by_test (joins block l) ((j.block == block) && (j.started == length par.branches)) _ _
          (λ all. has_run (joins_own block l j par is row all))
          (λ other. at_fault (joins_own_too_early block l j par is row other)))

  -- ---- whatever comes of an instruction

  jump_ends : (slice : Bool) (to : ℕ) (l : Local) → TurnsInto h w (jumps to l) (settled h slice (jumps to l) w)
  jump_ends true to l = has_run (it_is_sliced to l)
  jump_ends false to l = has_run (it_jumps to l)

  pub settled_ends : (slice : Bool) (o : Outcome) → TurnsInto h w o (settled h slice o w)
  settled_ends slice (goes l) = has_run (it_goes l)
  settled_ends slice (jumps to l) = jump_ends slice to l
  settled_ends slice (lands to l) = has_run (it_lands to l)
  settled_ends slice (stops l) = has_run (it_stops l)
  settled_ends slice (fails kind) = at_fault (by_itself kind)
  settled_ends slice (receives e l) = received_ends e l
  settled_ends slice (sends e l) = sent_ends e l
  settled_ends slice (starts target workspace l) = start_ends target workspace l
  settled_ends slice (joins block l) = join_ends block l
  settled_ends slice (begins l) = has_run (it_begins l)
  settled_ends slice (enables_channel guard address l) = enabled_ends guard address l
  settled_ends slice (enables_skip guard l) = has_run (it_enables_a_skip guard l)
  settled_ends slice (waits l) = waited_ends l
  settled_ends slice (disables_channel guard address distance l) = disabled_ends guard address distance l
  settled_ends slice (disables_skip guard distance l) = has_run (it_disables_a_skip guard distance l)
  settled_ends slice (ends_alternation to l) = alternation_ends to l

-- ---- every event

module _ (m : Contents) (w : World) where
  abbrev Comes : Event → Turn → Type 0
  Comes e t = Happened m w e t

  module _ (slice : Bool) (pick p : ℕ) (task : Task) (runs : w.queue.running ≡ Some p)
      (here : slice_get w.tasks p ≡ Some task) where
    abbrev h : Here
    h = at_here m p task pick

    on_next : (byte : ℕ) → slice_get m.code task.registers.at ≡ Some byte → fun_of (function_code byte) ≡ None
        → (after : ℤ) → after_prefix (function_code byte) (with_nibble task.registers.operand (nibble byte)) ≡ after
        → (b : Bool) → nat_lt (task.registers.at + 1) (length m.code) ≡ b → Comes (Step slice pick) (if b
        then answered ran (counted (put p
        (record task { registers = record task.registers { at = task.registers.at + 1; operand = after } })
        w.memory w))
        else failed h OutsideCode w)
    on_next byte at none after it true next = is_prefix p task byte after runs here at none it next
    on_next byte at none after it false next = is_outside p task (no_byte_follows byte at none next) runs here

    on_function : (byte : ℕ) → slice_get m.code task.registers.at ≡ Some byte → (after : ℤ)
        → after_prefix (function_code byte) (with_nibble task.registers.operand (nibble byte)) ≡ after
        → (f : Option Fun) → fun_of (function_code byte) ≡ f → Comes (Step slice pick) (elim f [
          | Some f ↦ settled h slice
              (local_step (site_of h w) f (with_nibble task.registers.operand (nibble byte)) (local_here task w)) w
          | None ↦ prefix_turn h after w
        ])
    on_function byte at after it (Some f) is = is_step p task byte f runs here at is (settled_ends h w slice _)
    on_function byte at after it None is = on_next byte at is after it (nat_lt h.next (length m.code)) refl

    on_byte : (byte : Option ℕ) → slice_get m.code task.registers.at ≡ byte → Comes (Step slice pick)
        (elim byte [ None ↦ failed h OutsideCode w | Some byte ↦ byte_turn h byte slice w ])
    on_byte None at = is_outside p task (no_byte at) runs here
    on_byte (Some byte) at = on_function byte at _ refl (fun_of (function_code byte)) refl

  step_comes : (slice : Bool) (pick : ℕ) (runner : Option ℕ) → w.queue.running ≡ runner
      → Comes (Step slice pick) (elim runner [
        | None ↦ answered idle w
        | Some p ↦ if nat_le most_executed w.counters.executed then answered idle w else elim (slice_get w.tasks p) [
          | None ↦ answered idle w
          | Some task ↦ task_turn (at_here m p task pick) slice w
        ]
      ])
  step_comes slice pick None runs = it_rests is_idle
  step_comes slice pick (Some p) runs = on_count (nat_le most_executed w.counters.executed)
    where
      on_task : (task : Option Task) → slice_get w.tasks p ≡ task → Comes (Step slice pick) (elim task [
        | None ↦ answered idle w
        | Some task ↦ task_turn (at_here m p task pick) slice w
      ])
      on_task None is = it_rests is_idle
      on_task (Some task) is = on_byte slice pick p task runs is (slice_get m.code task.registers.at) refl

      on_count : (b : Bool) → Comes (Step slice pick) (if b then answered idle w else elim (slice_get w.tasks p) [
        | None ↦ answered idle w
        | Some task ↦ task_turn (at_here m p task pick) slice w
      ])
      on_count true = it_rests is_idle
      on_count false = on_task (slice_get w.tasks p) refl

  abbrev keeps : Link → ℕ → InputLink → Turn
  keeps link byte input = answered kept (dispatch 0 (rouse input.enabled
      (with_input (link_index link) (record input { kept = Some byte }) w)))

  arrive_comes : (link : Link) (byte : ℕ) (input : Option InputLink)
      → slice_get w.links.inputs (link_index link) ≡ input → Comes (Arrive link byte)
      (elim input [ None ↦ answered ignored w | Some input ↦ arrive_at (link_index link) byte input w ])
  arrive_comes link byte None here = it_rests arrives_nowhere
  arrive_comes link byte (Some input) here = on_waiting input.waiting refl
    where
      on_kept : input.waiting ≡ None → (before : Option ℕ) → input.kept ≡ before
          → Comes (Arrive link byte) (elim before [ Some before ↦ answered busy w | None ↦ keeps link byte input ])
      on_kept nobody None is = is_kept input here nobody is
      on_kept nobody (Some before) is = it_rests is_busy

      on_waiting : (waiting : Option ℕ) → input.waiting ≡ waiting → Comes (Arrive link byte) (elim waiting [
        | Some p ↦ answered taken (dispatch 0 (fill p (link_index link) byte input w))
        | None ↦ elim input.kept [ Some before ↦ answered busy w | None ↦ keeps link byte input ]
      ])
      on_waiting None is = on_kept is input.kept refl
      on_waiting (Some p) is = is_taken input p here is

  acknowledge_comes : (link : Link) (output : Option OutputLink)
      → slice_get w.links.outputs (link_index link) ≡ output → Comes (Acknowledge link) (elim output [
        | None ↦ answered ignored w
        | Some output ↦ elim output.waiting [
          | None ↦ answered ignored w
          | Some p ↦ answered acknowledged
              (dispatch 0 (wake p (with_output (link_index link) (record { waiting = None }) w)))
        ]
      ])
  acknowledge_comes link None here = it_rests is_ignored
  acknowledge_comes link (Some output) here = on_waiting output.waiting refl
    where
      on_waiting : (waiting : Option ℕ) → output.waiting ≡ waiting → Comes (Acknowledge link) (elim waiting [
        | None ↦ answered ignored w
        | Some p ↦ answered acknowledged
            (dispatch 0 (wake p (with_output (link_index link) (record { waiting = None }) w)))
      ])
      on_waiting None is = it_rests is_ignored
      on_waiting (Some p) is = is_acknowledged output p here is

  event_comes : (e : Event) → Comes e (event_turn m e w)
  event_comes (Step slice pick) = step_comes slice pick w.queue.running refl
  event_comes (Arrive link byte) = arrive_comes link byte (slice_get w.links.inputs (link_index link)) refl
  event_comes (Acknowledge link) = acknowledge_comes link (slice_get w.links.outputs (link_index link)) refl

  pub turn_happens : (e : Event) → Comes e (turn m w e)
  unfolding turn
  turn_happens e = on_fault w.fault refl
    where
      on_fault : (f : Option Fault) → w.fault ≡ f → Comes e
          (elim f [ None ↦ event_turn m e w | Some f ↦ record { world = w; answer = Err f } ])
      on_fault None is = event_comes e
      on_fault (Some f) is = was_at_fault f is
