-- A step returns the same in two worlds whose memories agree on what it sees.
use Rattle.std.proofs.Common.{◌≡◌, ℕ, ◌+◌, ◌&&◌, Bool, true, false, if◌then◌else◌, nat_le, nat_lt, ℤ, pos, List, []}
use Rattle.std.proofs.Common.{◌∷◌, ◌++◌, map, length, Option, Some, None, is_some, Err, refl, sym, ap, ◌∙◌, subst}
use Rattle.std.proofs.Common.{slice_get, arith}
use Rattle.std.specs.Prelude.{◌*◌, ◌%◌, ◌^◌, ◌==◌, filter, not, slice_set}
use Rattle.module_format.specs.Contents.{Contents, Par, link_length}
use Rattle.machine_state.specs.declared.fault.Fault.{Fault}
use Rattle.machine_state.specs.declared.fault.FaultKind.{FaultKind}
use Rattle.machine_state.specs.declared.fault.FaultKind.TheVariants.{OutsideCode, EndNotHeld, UnequalLengths}
use Rattle.machine_state.specs.declared.fault.FaultKind.TheVariants.{JoinOrder, AlternationOrder, NotOwn, Undefined}
use Rattle.machine_state.specs.declared.link.InputLink.{InputLink}
use Rattle.machine_state.specs.declared.process.Registers.{Registers}
use Rattle.machine_state.specs.declared.process.Task.{Task}
use Rattle.machine_state.specs.declared.process.Mode.{Mode}
use Rattle.machine_state.specs.declared.process.Mode.TheVariants.{Plain, Enabling, Disabling, Starting}
use Rattle.machine_state.specs.declared.process.Channel.{Channel}
use Rattle.machine_state.specs.declared.process.Condition.{Condition}
use Rattle.machine_state.specs.declared.process.Condition.TheVariants.{Sending, Receiving, OnLink, Alternating}
use Rattle.machine_state.specs.declared.process.Condition.TheVariants.{Stopped}
use Rattle.machine_state.specs.declared.process.Exchange.{Exchange}
use Rattle.machine_state.specs.Memory.{Memory, place_of, with_byte, word_at, data_start}
use Rattle.machine_state.specs.Holding.{Holding, nothing, may_read, may_read_word, may_write_word}
use Rattle.machine_state.specs.World.{World, Role, Join, holding_at}
use Rattle.machine_state.specs.Site.{Outcome, jumps, stops}
use Rattle.machine_state.specs.LocalStep as step
use Rattle.machine_state.specs.Moves.{on_task, wake, rouse, dispatch, leave, enqueue, counted, finished_where, put}
use Rattle.machine_state.specs.Moves.{with_channel, with_input, with_output, channel_at}
use Rattle.machine_state.specs.Turn.{Turn, Effect, Here, at_here, answered, failed, followed, continued, between, left}
use Rattle.machine_state.specs.Turn.{waiting}
use Rattle.machine_state.specs.Turn as turn
use Rattle.machine_state.specs.Exchanges as exchange
use Rattle.machine_state.specs.Exchanges.{input_link, output_link, condition_of, waits_at, met, link_of}
use Rattle.machine_state.specs.Alternations as alternation
use Rattle.machine_state.specs.Alternations.{Source}
use Rattle.machine_state.specs.Joins as join
use Rattle.machine_state.specs.BranchShares as shares
use Rattle.machine_state.specs.JoinLookups as lookups
use Rattle.machine_state.specs.StartPlans as plans
use Rattle.machine_state.specs.Joins.{on_role, member_joined, closed_task}
use Rattle.machine_state.specs.Seeing.{Agree, SameTurn, sent_by, sent_on, supply_by, supply, is_supplied, is_seen}
use Rattle.machine_state.specs.Seeing.{StepsSeeWhatTheyRead}
use Rattle.machine_state.specs.Happens as happens
use Rattle.machine_state.specs.Happens.{settled}
use Rattle.machine_state.specs.declared.event.Event.TheVariants.{Step}
use Rattle.prefix_decoder.specs.declared.function.Fun.{Fun}
use Rattle.prefix_decoder.specs.Functions.{fun_of, function_code, nibble}
use Rattle.prefix_decoder.specs.Operand.{with_nibble}
use Rattle.std.proofs.lemmas.Bool.{le-leb, lt-ltb, and_parts, and_from, or_left, or_right}
use Rattle.machine_state.proofs.Writing.{outcome_is, of_waiting_is}
use Rattle.machine_state.specs.Spans.{less}
use Rattle.std.specs.Option.{option_map}
use Rattle.std.specs.List.{list_all}
use Rattle.std.specs.Int.{w32, cast_unsigned, cast_signed}
use Rattle.word_arithmetic.specs.Word.{least_word}
use Rattle.module_format.specs.Contexts.{parameters_at}
use Rattle.machine_state.proofs.MovesLeaveAlone.{on_task_beside, wake_beside, rouse_beside}
use Rattle.machine_state.proofs.EveryInstruction.{here, readable_word, each_step}
use Rattle.machine_state.proofs.Agreeing.{Covers, byte_agrees, words_agree, word_same, copy_agrees, bytes_agree, Alike}
use Rattle.machine_state.proofs.Agreeing.{alike}
use Rattle.machine_state.proofs.Agreeing as agreeing

-- ---- moves that don't look at memory

abbrev IsBlind : (World → World) → Type 0
IsBlind move = (w : World) (n : Memory) → move (record w { memory = n }) ≡ record (move w) { memory = n }

on_task_blind : (p : ℕ) (f : Task → Task) → IsBlind (on_task p f)
on_task_blind p f w n =
    sym (on_task_beside (λ w. record w { memory = n }) (λ w. refl) (λ w tasks. refl) (λ p w. refl) p f w)

on_role_blind : (p : ℕ) (f : Role → Role) → IsBlind (on_role p f)
on_role_blind p f w n = on (slice_get w.roles p)
  where
    on : (o : Option Role) → ◌≡◌ {A = World} (elim o as (λ o. World) [
      | None ↦ record w { memory = n }
      | Some role ↦ record w { memory = n; roles = slice_set w.roles p (f role) }
    ]) (record (elim o as (λ o. World) [
      | None ↦ w
      | Some role ↦ record w { roles = slice_set w.roles p (f role) }
    ]) { memory = n })
    on None = refl
    on (Some role) = refl

wake_blind : (p : ℕ) → IsBlind (wake p)
wake_blind p w n =
    sym (wake_beside (λ w. record w { memory = n }) (λ w. refl) (λ w tasks. refl) (λ p w. refl) p w)

rouse_blind : (o : Option ℕ) → IsBlind (rouse o)
rouse_blind o w n =
    sym (rouse_beside (λ w. record w { memory = n }) (λ w. refl) (λ w tasks. refl) (λ p w. refl) o w)

left_blind : (h : Here) → IsBlind (left h)
unfolding dispatch
left_blind h w n = refl

-- one after the other
then_blind : (first second : World → World) → IsBlind first → IsBlind second → IsBlind (λ w. second (first w))
then_blind first second p q w n = ap second (p w n) ∙ q (first w) n

pub joined_blind : (h : Here) (opener : ℕ) (j : Join) (par : Par) → IsBlind (member_joined h opener j par)
unfolding dispatch
joined_blind h opener j par w n = on (length (filter (λ q. not (q == h.process)) j.members) == 0)
  where
    members : List ℕ
    members = filter (λ q. not (q == h.process)) j.members

    reduces : World → World
    reduces = on_role opener (λ role. record role { opened = Some (record j { members = members }) })

    reduces_blind : IsBlind reduces
    reduces_blind = on_role_blind opener (λ role. record role { opened = Some (record j { members = members }) })

    goes_back : World → World
    goes_back = on_task opener (closed_task j par)

    forgets : World → World
    forgets = on_role opener (λ role. record role { opened = None })

    over : IsBlind (λ w. forgets (goes_back (reduces w)))
    over = then_blind (λ w. goes_back (reduces w)) forgets
        (then_blind reduces goes_back reduces_blind (on_task_blind opener (closed_task j par)))
        (on_role_blind opener (λ role. record role { opened = None }))

    ends : World → World
    ends there = record there {
      channels = Rattle.machine_state.specs.Joins.without_channels opener there.channels;
      queue = record there.queue { running = Some opener };
    }

    on : (b : Bool) → ◌≡◌ {A = World}
        (if b then Rattle.machine_state.specs.Joins.closed opener j par (reduces (record w { memory = n }))
        else dispatch h.pick (leave (reduces (record w { memory = n }))))
        (record (if b then Rattle.machine_state.specs.Joins.closed opener j par (reduces w)
        else dispatch h.pick (leave (reduces w))) { memory = n })
    on true = ap ends (over w n)
    on false = ap (λ (v : World). dispatch h.pick (leave v)) (reduces_blind w n)

and_same : {a b c d : Bool} → a ≡ b → c ≡ d → (a && c) ≡ (b && d)
and_same p q = rw (p, q)

-- ---- turns

module _ (seen : ℕ → Bool) where
  -- a blind move, from worlds that differ in memory alone
  moves : (e : Effect) (move : World → World) → IsBlind move → (v : World) (n : Memory) → Agree seen v.memory n
      → SameTurn seen (answered e (move v)) (answered e (move (record v { memory = n })))
  moves e move blind v n agree = rw (blind v n) (record {
    answer = refl;
    world = refl;
    agree = subst (λ (m : Memory). Agree seen m n) (ap (λ (x : World). x.memory) (sym (blind v v.memory))) agree;
  })

  module _ (h : Here) (w : World) (n0 : Memory) (here_agree : Agree seen w.memory n0) where
    abbrev w' : World
    w' = record w { memory = n0 }

    pub fails_alike : (kind : FaultKind) → SameTurn seen (failed h kind w) (failed h kind w')
    fails_alike kind = record { answer = refl; world = refl; agree = here_agree }

    tested : (b : Bool) (t t' u u' : Turn) → (b ≡ true → SameTurn seen t t') → (b ≡ false → SameTurn seen u u')
        → SameTurn seen (if b then t else u) (if b then t' else u')
    tested true t t' u u' p q = p refl
    tested false t t' u u' p q = q refl

    -- at a link's end, or inside
    at_end : (o : Option ℕ) (outside outside' : ℕ → Turn) (inside inside' : Turn)
        → ((k : ℕ) → o ≡ Some k → SameTurn seen (outside k) (outside' k)) → (o ≡ None → SameTurn seen inside inside')
        → SameTurn seen (elim o as (λ o. Turn) [ Some k ↦ outside k | None ↦ inside ])
        (elim o as (λ o. Turn) [ Some k ↦ outside' k | None ↦ inside' ])
    at_end None outside outside' inside inside' p q = q refl
    at_end (Some k) outside outside' inside inside' p q = p k refl

    follows : (t t' : Turn) → SameTurn seen t t' → SameTurn seen (followed h t w) (followed h t' w')
    follows t t' same = tested (nat_lt h.next (length h.contents.code)) t t' (failed h OutsideCode w)
        (failed h OutsideCode w') (λ e. same) (λ e. fails_alike OutsideCode)

    -- ---- messages

    -- two processes meet, if their messages are of one length
    meets_alike : (b : Bool) (other : ℕ) (source to : Exchange) (c : Channel) (r : Registers) (m n : Memory)
        → Agree seen m n → Covers seen (place_of source.address) source.length
        → SameTurn seen
        (if b then followed h (answered turn.ran (counted (met h other source to c (here r m) w))) w
        else failed h UnequalLengths w)
        (if b then followed h (answered turn.ran (counted (met h other source to c (here r n) w'))) w'
        else failed h UnequalLengths w')
    meets_alike b other source to c r m n agree covers = tested b _ _ _ _
        (λ same. follows _ _ (moves turn.ran (λ v. counted (wake other (with_channel source.channel
        (record c { waiting = None }) v))) (λ v n. ap counted (wake_blind other
        (with_channel source.channel (record c { waiting = None }) v) n))
        (continued h h.next (record (here r m) {
          memory = step.copied m (place_of source.address) (place_of to.address) source.length m;
        }) w)
        (step.copied n (place_of source.address) (place_of to.address) source.length n)
        (copy_agrees seen m n (place_of source.address) (place_of to.address) source.length agree covers)))
        (λ differ. fails_alike UnequalLengths)

    pub received_from : (e : Exchange) (c : Channel) (r : Registers) (m n : Memory) → Agree seen m n → (other : ℕ)
        → (condition : Condition)
        → ((sent : Exchange) → sent_by condition ≡ Some sent → Covers seen (place_of sent.address) sent.length)
        → SameTurn seen (exchange.received_from h e c (here r m) w other condition)
        (exchange.received_from h e c (here r n) w' other condition)
    received_from e c r m n agree other (Sending sent) covers =
        meets_alike (sent.length == e.length) other sent e c r m n agree (covers sent refl)
    received_from e c r m n agree other _ covers = fails_alike EndNotHeld

    -- it waits in its turn
    waits_alike : (condition : Condition) (r : Registers) (m n : Memory) → Agree seen m n → (move : World → World)
        → IsBlind move → SameTurn seen (answered turn.ran (left h (move (waiting h condition (here r m) w))))
        (answered turn.ran (left h (move (waiting h condition (here r n) w'))))
    waits_alike condition r m n agree move blind =
        moves turn.ran (λ v. left h (move v)) (then_blind move (left h) blind (left_blind h))
        (waiting h condition (here r m) w) n agree

    received : (e : Exchange) (r : Registers) (m n : Memory) → Agree seen m n
        → ((sent : Exchange) → sent_on w e ≡ Some sent → Covers seen (place_of sent.address) sent.length)
        → SameTurn seen (exchange.received h e (here r m) w) (exchange.received h e (here r n) w')
    received e r m n agree covers =
        at_end (input_link e.channel) (λ k. exchange.received_outside h k e (here r m) w)
        (λ k. exchange.received_outside h k e (here r n) w') _ _ (λ k is. on_input k (slice_get w.links.inputs k))
        (λ inside. on_channel inside (channel_at w e.channel) refl)
      where
        on_waiting : (c : Channel) → input_link e.channel ≡ None → channel_at w e.channel ≡ Some c
            → (o : Option ℕ) → c.waiting ≡ o → SameTurn seen (elim o as (λ o. Turn) [
              | None ↦ followed h
                  (answered turn.ran (left h (waits_at h (Receiving e) e.channel c (here r m) w))) w
              | Some other ↦ exchange.received_from h e c (here r m) w other (condition_of w other)
            ]) (elim o as (λ o. Turn) [
              | None ↦ followed h
                  (answered turn.ran (left h (waits_at h (Receiving e) e.channel c (here r n) w'))) w'
              | Some other ↦ exchange.received_from h e c (here r n) w' other (condition_of w other)
            ])
        on_waiting c inside there None is = follows _ _ (waits_alike (Receiving e) r m n agree
            (with_channel e.channel (record c { waiting = Some h.process })) (λ v n. refl))
        on_waiting c inside there (Some other) is =
            received_from e c r m n agree other (condition_of w other)
            (λ sent by. covers sent (of_waiting_is _ w e sent_by c (Some other) inside there is ∙ by))

        on_channel : input_link e.channel ≡ None → (c : Option Channel) → channel_at w e.channel ≡ c
            → SameTurn seen
            (elim c as (λ c. Turn) [
              | None ↦ failed h EndNotHeld w
              | Some c ↦
                  exchange.received_inside h e c (here r m) w
            ])
            (elim c as (λ c. Turn)
            [ None ↦ failed h EndNotHeld w' | Some c ↦ exchange.received_inside h e c (here r n) w' ])
        on_channel inside None is = fails_alike EndNotHeld
        on_channel inside (Some c) is = on_waiting c inside is c.waiting refl

        on_length : (k : ℕ) (link : InputLink) (byte : ℕ) (b : Bool) → SameTurn seen (answered turn.ran (if b
            then counted (with_input k (record link { kept = None }) (continued h h.next
            (record (here r m) { memory = with_byte m (place_of e.address) (Some byte) }) w))
            else left h (with_input k (record link { kept = None; waiting = Some h.process }) (waiting h (OnLink e 1)
            (record (here r m) { memory = with_byte m (place_of e.address) (Some byte) }) w))))
            (answered turn.ran (if b
            then counted (with_input k (record link { kept = None }) (continued h h.next
            (record (here r n) { memory = with_byte n (place_of e.address) (Some byte) }) w'))
            else left h (with_input k (record link { kept = None; waiting = Some h.process }) (waiting h (OnLink e 1)
            (record (here r n) { memory = with_byte n (place_of e.address) (Some byte) }) w'))))
        on_length k link byte true = moves turn.ran (λ v. counted (with_input k (record link { kept = None }) v))
            (λ v n. refl) (continued h h.next
            (record (here r m) { memory = with_byte m (place_of e.address) (Some byte) }) w)
            (with_byte n (place_of e.address) (Some byte))
            (byte_agrees seen m n (place_of e.address) (Some byte) agree)
        on_length k link byte false = waits_alike (OnLink e 1) r (with_byte m (place_of e.address) (Some byte))
            (with_byte n (place_of e.address) (Some byte))
            (byte_agrees seen m n (place_of e.address) (Some byte) agree)
            (with_input k (record link { kept = None; waiting = Some h.process })) (λ v n. refl)

        on_kept : (k : ℕ) (link : InputLink) (o : Option ℕ) → SameTurn seen (answered turn.ran (elim o as (λ o. World) [
          | None ↦ left h (with_input k (record link { waiting = Some h.process })
              (waiting h (OnLink e 0) (here r m) w))
          | Some byte ↦ exchange.received_kept h k e link byte (here r m) w
        ])) (answered turn.ran (elim o as (λ o. World) [
          | None ↦ left h (with_input k (record link { waiting = Some h.process })
              (waiting h (OnLink e 0) (here r n) w'))
          | Some byte ↦ exchange.received_kept h k e link byte (here r n) w'
        ]))
        on_kept k link None = waits_alike (OnLink e 0) r m n agree
            (with_input k (record link { waiting = Some h.process })) (λ v n. refl)
        on_kept k link (Some byte) = on_length k link byte (e.length == 1)

        on_input : (k : ℕ) (o : Option InputLink) → SameTurn seen (elim o as (λ o. Turn) [
          | None ↦ failed h EndNotHeld w
          | Some link ↦
              if link_length h.contents (4 + k) == e.length
              then followed h (answered turn.ran (exchange.received_on h k e link (here r m) w)) w
              else failed h UnequalLengths w
        ]) (elim o as (λ o. Turn) [
          | None ↦ failed h EndNotHeld w'
          | Some link ↦
              if link_length h.contents (4 + k) == e.length
              then followed h (answered turn.ran (exchange.received_on h k e link (here r n) w')) w'
              else failed h UnequalLengths w'
        ])
        on_input k None = fails_alike EndNotHeld
        on_input k (Some link) = tested (link_length h.contents (4 + k) == e.length) _ _ _ _
            (λ same. follows _ _ (on_kept k link link.kept)) (λ differ. fails_alike UnequalLengths)

    sent_to : (e : Exchange) (c : Channel) (r : Registers) (m n : Memory) → Agree seen m n
        → Covers seen (place_of e.address) e.length → (other : ℕ) (condition : Condition)
        → SameTurn seen (exchange.sent_to h e c (here r m) w other condition)
        (exchange.sent_to h e c (here r n) w' other condition)
    sent_to e c r m n agree covers other (Receiving wanted) =
        meets_alike (wanted.length == e.length) other e wanted c r m n agree covers
    sent_to e c r m n agree covers other _ = fails_alike EndNotHeld

    sent : (e : Exchange) (r : Registers) (m n : Memory) → Agree seen m n
        → Covers seen (place_of e.address) e.length
        → SameTurn seen (exchange.sent h e (here r m) w) (exchange.sent h e (here r n) w')
    sent e r m n agree covers =
        at_end (output_link e.channel) (λ k. exchange.sent_outside h k e (here r m) w)
        (λ k. exchange.sent_outside h k e (here r n) w') _ _
        (λ k is. tested (link_length h.contents k == e.length) _ _ _ _
        (λ same. follows _ _ (goes_out k)) (λ differ. fails_alike UnequalLengths))
        (λ inside. on_channel (channel_at w e.channel))
      where
        on_waiting : (c : Channel) (o : Option ℕ) → SameTurn seen (elim o as (λ o. Turn) [
          | None ↦ followed h (answered turn.ran (left h
              (rouse c.enabled (waits_at h (Sending e) e.channel c (here r m) w)))) w
          | Some other ↦ exchange.sent_to h e c (here r m) w other (condition_of w other)
        ]) (elim o as (λ o. Turn) [
          | None ↦ followed h (answered turn.ran (left h
              (rouse c.enabled (waits_at h (Sending e) e.channel c (here r n) w')))) w'
          | Some other ↦ exchange.sent_to h e c (here r n) w' other (condition_of w other)
        ])
        on_waiting c None = follows _ _ (waits_alike (Sending e) r m n agree
            (λ v. rouse c.enabled (with_channel e.channel (record c { waiting = Some h.process }) v))
            (λ v n. rouse_blind c.enabled (with_channel e.channel (record c { waiting = Some h.process }) v) n))
        on_waiting c (Some other) = sent_to e c r m n agree covers other (condition_of w other)

        on_channel : (c : Option Channel) → SameTurn seen
            (elim c as (λ c. Turn) [ None ↦ failed h EndNotHeld w | Some c ↦ exchange.sent_inside h e c (here r m) w ])
            (elim c as (λ c. Turn)
            [ None ↦ failed h EndNotHeld w' | Some c ↦ exchange.sent_inside h e c (here r n) w' ])
        on_channel None = fails_alike EndNotHeld
        on_channel (Some c) = on_waiting c c.waiting

        goes_out : (k : ℕ) → SameTurn seen
            (answered (turn.emitted (link_of k) (exchange.bytes_at m (place_of e.address) e.length)) (left h
            (with_output k (record { waiting = Some h.process }) (waiting h (OnLink e 0) (here r m) w))))
            (answered (turn.emitted (link_of k) (exchange.bytes_at n (place_of e.address) e.length)) (left h
            (with_output k (record { waiting = Some h.process }) (waiting h (OnLink e 0) (here r n) w'))))
        goes_out k = subst (λ (bytes : List ℕ). SameTurn seen
            (answered (turn.emitted (link_of k) (exchange.bytes_at m (place_of e.address) e.length)) (left h
            (with_output k (record { waiting = Some h.process }) (waiting h (OnLink e 0) (here r m) w))))
            (answered (turn.emitted (link_of k) bytes) (left h
            (with_output k (record { waiting = Some h.process }) (waiting h (OnLink e 0) (here r n) w')))))
            (sym (bytes_agree seen m n (place_of e.address) e.length agree covers))
            (moves (turn.emitted (link_of k) (exchange.bytes_at m (place_of e.address) e.length))
            (λ v. left h (with_output k (record { waiting = Some h.process }) v))
            (then_blind (with_output k (record { waiting = Some h.process })) (left h) (λ v n. refl) (left_blind h))
            (waiting h (OnLink e 0) (here r m) w) n agree)

    -- ---- alternations

    -- it goes on in some mode
    counts_alike : (move : World → World) → IsBlind move → (v : World) (n : Memory) → Agree seen v.memory n
        → SameTurn seen (answered turn.ran (counted (move v)))
        (answered turn.ran (counted (move (record v { memory = n }))))
    counts_alike move blind v n agree = moves turn.ran (λ v. counted (move v)) (λ v n. ap counted (blind v n)) v n agree

    waited : (r : Registers) (m n : Memory) → Agree seen m n
        → SameTurn seen (alternation.waited h (here r m) w) (alternation.waited h (here r n) w')
    waited r m n agree = on h.from.mode
      where
        waits_there : SameTurn seen
            (answered turn.ran (left h (put h.process (record h.from {
              registers = between h.next r;
              mode = Disabling None;
              condition = Alternating;
            }) m w)))
            (answered turn.ran (left h (put h.process (record h.from {
              registers = between h.next r;
              mode = Disabling None;
              condition = Alternating;
            }) n w')))
        waits_there = moves turn.ran (left h) (left_blind h) (put h.process (record h.from {
          registers = between h.next r;
          mode = Disabling None;
          condition = Alternating;
        }) m w) n agree

        on : (mode : Mode) → SameTurn seen (answered turn.ran (alternation.waited_in h mode (here r m) w))
            (answered turn.ran (alternation.waited_in h mode (here r n) w'))
        on Plain = waits_there
        on (Enabling true) = counts_alike (λ v. v) (λ v n. refl)
            (alternation.in_mode h (Disabling None) (here r m) w) n agree
        on (Enabling false) = waits_there
        on (Disabling selection) = waits_there
        on Starting = waits_there

    on_source : (address : ℕ) (k k' : Source → Turn)
        → ((c : Channel) → SameTurn seen (k (alternation.of_channel address c)) (k' (alternation.of_channel address c)))
        → ((i : ℕ) (link : InputLink)
        → SameTurn seen (k (alternation.of_link i link)) (k' (alternation.of_link i link)))
        → SameTurn seen (alternation.on_source h address w k) (alternation.on_source h address w' k')
    on_source address k k' p q = on_link (input_link address)
      where
        on_channel : (c : Option Channel) → SameTurn seen
            (elim (elim c as (λ c. Option Source) [ None ↦ None | Some c ↦ Some (alternation.of_channel address c) ])
            as (λ s. Turn) [ None ↦ failed h EndNotHeld w | Some s ↦ k s ])
            (elim (elim c as (λ c. Option Source) [ None ↦ None | Some c ↦ Some (alternation.of_channel address c) ])
            as (λ s. Turn) [ None ↦ failed h EndNotHeld w' | Some s ↦ k' s ])
        on_channel None = fails_alike EndNotHeld
        on_channel (Some c) = p c

        on_input : (i : ℕ) (o : Option InputLink) → SameTurn seen
            (elim (elim o as (λ o. Option Source) [ None ↦ None | Some link ↦ Some (alternation.of_link i link) ])
            as (λ s. Turn) [ None ↦ failed h EndNotHeld w | Some s ↦ k s ])
            (elim (elim o as (λ o. Option Source) [ None ↦ None | Some link ↦ Some (alternation.of_link i link) ])
            as (λ s. Turn) [ None ↦ failed h EndNotHeld w' | Some s ↦ k' s ])
        on_input i None = fails_alike EndNotHeld
        on_input i (Some link) = q i link

        on_link : (o : Option ℕ) → SameTurn seen
            (elim (elim o as (λ o. Option Source) [
              | Some i ↦ elim (slice_get w.links.inputs i) as (λ o. Option Source)
                  [ None ↦ None | Some link ↦ Some (alternation.of_link i link) ]
              | None ↦ elim (channel_at w address) as (λ o. Option Source)
                  [ None ↦ None | Some c ↦ Some (alternation.of_channel address c) ]
            ]) as (λ s. Turn) [ None ↦ failed h EndNotHeld w | Some s ↦ k s ])
            (elim (elim o as (λ o. Option Source) [
              | Some i ↦ elim (slice_get w.links.inputs i) as (λ o. Option Source)
                  [ None ↦ None | Some link ↦ Some (alternation.of_link i link) ]
              | None ↦ elim (channel_at w address) as (λ o. Option Source)
                  [ None ↦ None | Some c ↦ Some (alternation.of_channel address c) ]
            ]) as (λ s. Turn) [ None ↦ failed h EndNotHeld w' | Some s ↦ k' s ])
        on_link None = on_channel (channel_at w address)
        on_link (Some i) = on_input i (slice_get w.links.inputs i)

    enabled : (guard : Bool) (address : ℕ) (r : Registers) (m n : Memory) → Agree seen m n
        → SameTurn seen (alternation.channel_enabled h guard address (here r m) w)
        (alternation.channel_enabled h guard address (here r n) w')
    enabled guard address r m n agree = tested guard _ _ _ _
        (λ holds. on_source address (alternation.source_enabled h (here r m) w)
        (alternation.source_enabled h (here r n) w')
        (λ c. tested (is_some c.enabled) _ _ _ _ (λ twice. fails_alike AlternationOrder)
        (λ once. follows _ _ (counts_alike (with_channel address (record c { enabled = Some h.process }))
        (λ v n. refl)
        (alternation.in_mode h (alternation.ready_or h.from.mode (is_some c.waiting)) (here r m) w) n agree)))
        (λ i link. tested (is_some link.enabled) _ _ _ _ (λ twice. fails_alike AlternationOrder)
        (λ once. follows _ _ (counts_alike (with_input i (record link { enabled = Some h.process }))
        (λ v n. refl)
        (alternation.in_mode h (alternation.ready_or h.from.mode (is_some link.kept)) (here r m) w) n agree))))
        (λ off. follows _ _ (counts_alike (λ v. v) (λ v n. refl) (continued h h.next (here r m) w) n agree))

    chosen : (move : World → World) → IsBlind move → (is_ready : Bool) (distance : ℤ) (r : Registers) (m n : Memory)
        → Agree seen m n
        → SameTurn seen (answered turn.ran (counted (move (alternation.chosen h is_ready distance (here r m) w))))
        (answered turn.ran (counted (move (alternation.chosen h is_ready distance (here r n) w'))))
    chosen move blind is_ready distance r m n agree = on (alternation.selected h.from.mode is_ready distance)
      where
        on : (b : Bool) → SameTurn seen
            (answered turn.ran (counted (move (if b
            then alternation.in_mode h (Disabling (Some distance)) (step.with_a_alone (Some (pos 1)) (here r m)) w
            else continued h h.next (step.with_a_alone (Some (pos 0)) (here r m)) w))))
            (answered turn.ran (counted (move (if b
            then alternation.in_mode h (Disabling (Some distance)) (step.with_a_alone (Some (pos 1)) (here r n)) w'
            else continued h h.next (step.with_a_alone (Some (pos 0)) (here r n)) w'))))
        on true = counts_alike move blind
            (alternation.in_mode h (Disabling (Some distance)) (step.with_a_alone (Some (pos 1)) (here r m)) w) n agree
        on false = counts_alike move blind
            (continued h h.next (step.with_a_alone (Some (pos 0)) (here r m)) w) n agree

    disabled : (guard : Bool) (address : ℕ) (distance : ℤ) (r : Registers) (m n : Memory) → Agree seen m n
        → SameTurn seen (alternation.channel_disabled h guard address distance (here r m) w)
        (alternation.channel_disabled h guard address distance (here r n) w')
    disabled guard address distance r m n agree = tested guard _ _ _ _
        (λ holds. on_source address (alternation.source_disabled h distance (here r m) w)
        (alternation.source_disabled h distance (here r n) w')
        (λ c. tested (alternation.is_by c.enabled h.process) _ _ _ _
        (λ mine. follows _ _ (chosen (with_channel address (record c { enabled = None })) (λ v n. refl)
        (is_some c.waiting) distance r m n agree)) (λ other. fails_alike AlternationOrder))
        (λ i link. tested (alternation.is_by link.enabled h.process) _ _ _ _
        (λ mine. follows _ _ (chosen (with_input i (record link { enabled = None })) (λ v n. refl)
        (is_some link.kept) distance r m n agree)) (λ other. fails_alike AlternationOrder)))
        (λ off. follows _ _ (chosen (λ v. v) (λ v n. refl) false distance r m n agree))

    pub alternation_ended : (to : ℕ) (r : Registers) (m n : Memory) → Agree seen m n
        → SameTurn seen (alternation.alternation_ended h to (here r m) w)
        (alternation.alternation_ended h to (here r n) w')
    alternation_ended to r m n agree = tested (alternation.has_enabled w h.process) _ _ _ _
        (λ some. fails_alike AlternationOrder)
        (λ none. tested (nat_lt to (length h.contents.code)) _ _ _ _
        (λ inside. counts_alike (λ v. v) (λ v n. refl)
        (put h.process (record h.from { registers = between to r; mode = Plain }) m w) n agree)
        (λ outside. fails_alike OutsideCode))

    -- ---- joins

    on_row : (j : Join) (k k' : Par → Turn) → ((par : Par) → SameTurn seen (k par) (k' par))
        → SameTurn seen (join.on_row h j w k) (join.on_row h j w' k')
    on_row j k k' p = on (slice_get h.contents.pars j.row)
      where
        on : (o : Option Par) → SameTurn seen
            (elim o as (λ o. Turn) [ None ↦ failed h JoinOrder w | Some par ↦ k par ])
            (elim o as (λ o. Turn) [ None ↦ failed h JoinOrder w' | Some par ↦ k' par ])
        on None = fails_alike JoinOrder
        on (Some par) = p par

    own_end : (j : Join) (block : ℕ) (r : Registers) (m n : Memory) → Agree seen m n
        → SameTurn seen (join.own_end h j block (here r m) w) (join.own_end h j block (here r n) w')
    own_end j block r m n agree = on_row j _ _ (λ par.
        tested ((j.block == block) && (j.started == length par.branches)) _ _ _ _
        (λ all. counts_alike (member_joined h h.process j par) (joined_blind h h.process j par)
        (join.ended h (here r m) w) n agree)
        (λ other. fails_alike JoinOrder))

    branch_end : (opener : ℕ) (j : Join) (block : ℕ) (r : Registers) (m n : Memory) → Agree seen m n
        → SameTurn seen (join.branch_end h opener j block (here r m) w)
        (join.branch_end h opener j block (here r n) w')
    branch_end opener j block r m n agree = on_row j _ _ (λ par.
        tested (j.block == block) _ _ _ _
        (λ same. counts_alike (λ v. member_joined h opener j par (join.given_back h v))
        (then_blind (join.given_back h) (member_joined h opener j par)
        (on_role_blind h.process (λ role. record role { own = nothing })) (joined_blind h opener j par))
        (join.ended h (here r m) w) n agree)
        (λ other. fails_alike JoinOrder))

    joined_alike : (block : ℕ) (r : Registers) (m n : Memory) → Agree seen m n
        → SameTurn seen (join.join_turn h block (here r m) w) (join.join_turn h block (here r n) w')
    joined_alike block r m n agree = on_own (lookups.opened_by w h.process)
      where
        on_join : (opener : ℕ) (j : Option Join) → SameTurn seen
            (elim j as (λ j. Turn)
            [ None ↦ failed h JoinOrder w | Some j ↦ join.branch_end h opener j block (here r m) w ])
            (elim j as (λ j. Turn)
            [ None ↦ failed h JoinOrder w' | Some j ↦ join.branch_end h opener j block (here r n) w' ])
        on_join opener None = fails_alike JoinOrder
        on_join opener (Some j) = branch_end opener j block r m n agree

        on_opener : (opener : Option ℕ) → SameTurn seen
            (elim opener as (λ j. Turn) [
              | None ↦ failed h JoinOrder w
              | Some opener ↦ elim (lookups.opened_by w opener) as (λ j. Turn)
                  [ None ↦ failed h JoinOrder w | Some j ↦ join.branch_end h opener j block (here r m) w ]
            ]) (elim opener as (λ j. Turn) [
              | None ↦ failed h JoinOrder w'
              | Some opener ↦ elim (lookups.opened_by w opener) as (λ j. Turn)
                  [ None ↦ failed h JoinOrder w' | Some j ↦ join.branch_end h opener j block (here r n) w' ]
            ])
        on_opener None = fails_alike JoinOrder
        on_opener (Some opener) = on_join opener (lookups.opened_by w opener)

        on_own : (j : Option Join) → SameTurn seen
            (elim j as (λ j. Turn) [
              | Some j ↦ join.own_end h j block (here r m) w
              | None ↦ elim (lookups.opener_of w h.process) as (λ j. Turn) [
                | None ↦ failed h JoinOrder w
                | Some opener ↦ elim (lookups.opened_by w opener) as (λ j. Turn)
                    [ None ↦ failed h JoinOrder w | Some j ↦ join.branch_end h opener j block (here r m) w ]
              ]
            ]) (elim j as (λ j. Turn) [
              | Some j ↦ join.own_end h j block (here r n) w'
              | None ↦ elim (lookups.opener_of w h.process) as (λ j. Turn) [
                | None ↦ failed h JoinOrder w'
                | Some opener ↦ elim (lookups.opened_by w opener) as (λ j. Turn)
                    [ None ↦ failed h JoinOrder w' | Some j ↦ join.branch_end h opener j block (here r n) w' ]
              ]
            ])
        on_own None = on_opener (lookups.opener_of w h.process)
        on_own (Some j) = own_end j block r m n agree

    -- ---- starts

    start_or_fail : (tests tests' : List (Bool × FaultKind)) (after after' : World)
        → plans.first_fault tests' ≡ plans.first_fault tests
        → SameTurn seen (answered turn.ran (counted after)) (answered turn.ran (counted after'))
        → SameTurn seen (join.start_or_fail h tests after w) (join.start_or_fail h tests' after' w')
    start_or_fail tests tests' after after' same p = subst (λ (o : Option FaultKind). SameTurn seen
        (join.start_or_fail h tests after w) (elim o as (λ o. Turn) [
          | Some kind ↦ failed h kind w'
          | None ↦ followed h (answered turn.ran (counted after')) w'
        ])) (sym same) (on (plans.first_fault tests))
      where
        on : (o : Option FaultKind) → SameTurn seen (elim o as (λ o. Turn) [
          | Some kind ↦ failed h kind w
          | None ↦ followed h (answered turn.ran (counted after)) w
        ]) (elim o as (λ o. Turn) [
          | Some kind ↦ failed h kind w'
          | None ↦ followed h (answered turn.ran (counted after')) w'
        ])
        on None = follows _ _ p
        on (Some kind) = fails_alike kind

    no_row : (tests : List (Bool × FaultKind))
        → SameTurn seen (join.start_or_fail h tests w w) (join.start_or_fail h tests w' w')
    no_row tests = start_or_fail tests tests w w' refl (counts_alike (λ v. v) (λ v n. refl) w n0 here_agree)

    -- the new process, in a memory of a size
    abbrev begins_with : plans.Plan → lookups.Found → ℕ → ℕ → World → World
    begins_with plan found workspace size v =
        let given = on_role h.process
        (λ role. record role { opened = Some (join.join_after size plan found (length w.tasks)) }) v in
        enqueue (length w.tasks) (record given {
          tasks = given.tasks ++ join.new_task found.branch workspace ∷ [];
          roles = given.roles ++ record {
            own = shares.holding_of h.contents size (plans.share_by plan found.branch);
            opener = Some h.process;
            opened = None;
          } ∷ [];
        })

    -- the opener, as it starts
    abbrev starting : Registers → Memory → World → World
    starting r m v = put h.process (record h.from { registers = between h.next r; mode = Starting }) m v

    started : (plan : plans.Plan) (found : lookups.Found) (workspace : ℕ) (r : Registers) (m n : Memory)
        (channels : List (Option Channel)) → Agree seen m n
        → SameTurn seen
        (answered turn.ran (counted (join.started h plan found workspace (here r m)
        (record w { channels = channels }))))
        (answered turn.ran (counted (join.started h plan found workspace (here r n)
        (record w' { channels = channels }))))
    started plan found workspace r m n channels agree =
        let addresses = plans.scheduling_addresses workspace in
        let later = join.without_words addresses n in
        let opens = λ (role : Role).
        record role { opened = Some (join.join_after (length w.memory) plan found (length w.tasks)) } in
        let ends = λ (given : World). enqueue (length w.tasks) (record given {
          tasks = given.tasks ++ join.new_task found.branch workspace ∷ [];
          roles = given.roles ++ record {
            own = shares.holding_of h.contents (length w.memory) (plans.share_by plan found.branch);
            opener = Some h.process;
            opened = None;
          } ∷ [];
        }) in
        subst (λ (size : ℕ). SameTurn seen
        (answered turn.ran (counted (begins_with plan found workspace (length w.memory)
        (starting r (join.without_words addresses m) (record w { channels = channels })))))
        (answered turn.ran (counted (begins_with plan found workspace size
        (starting r later (record w' { channels = channels }))))))
        (sym here_agree.size)
        (counts_alike (begins_with plan found workspace (length w.memory))
        (λ v n. ap ends (on_role_blind h.process opens v n))
        (starting r (join.without_words addresses m) (record w { channels = channels })) later
        (words_agree seen m n addresses agree))

    later_start : (j : Join) (found : lookups.Found) (workspace : ℕ) (r : Registers) (m n : Memory) → Agree seen m n
        → SameTurn seen (join.later_start_turn h j found workspace (here r m) w)
        (join.later_start_turn h j found workspace (here r n) w')
    later_start j found workspace r m n agree =
        let plan = plans.later_plan h.contents j found.par in
        tested (found.row == j.row) _ _ _ _
        (λ same. start_or_fail (plans.later_faults (length w.memory) plan found workspace)
        (plans.later_faults (length n0) plan found workspace) (join.started h plan found workspace (here r m) w)
        (join.started h plan found workspace (here r n) w')
        (ap (λ (size : ℕ). plans.first_fault (plans.later_faults size plan found workspace)) here_agree.size)
        (started plan found workspace r m n w.channels agree))
        (λ other. no_row (plans.no_row_faults j.rest workspace))

    -- what the running process holds
    abbrev mine : Holding
    mine = holding_at w.roles h.process

    module _ (readable : (q : ℕ) → may_read mine q ≡ true → seen q ≡ true) where
      -- a word that may be read is the same
      the_word : (place : ℕ) → may_read_word mine place ≡ true → word_at n0 place ≡ word_at w.memory place
      the_word place own = sym (word_same seen mine w.memory n0 place readable here_agree own)

      words_in : (base : ℕ) (names : List (Option ℤ))
          → map (plans.word_in mine n0 base) names ≡ map (plans.word_in mine w.memory base) names
      words_in base [] = refl
      words_in base (None ∷ names) = ap (λ (rest : List (Option ℕ)). None ∷ rest) (words_in base names)
      words_in base (Some word ∷ names) = both (word_of (may_read_word mine place) refl) (words_in base names)
        where
          place : ℕ
          place = place_of (shares.frame_address base word)

          word_of : (b : Bool) → may_read_word mine place ≡ b
              → (if b then option_map (cast_unsigned w32) (word_at n0 place) else None)
              ≡ (if b then option_map (cast_unsigned w32) (word_at w.memory place) else None)
          word_of true own = ap (option_map (cast_unsigned w32)) (the_word place own)
          word_of false own = refl

          both : {x y : Option ℕ} {xs ys : List (Option ℕ)} → x ≡ y → xs ≡ ys → x ∷ xs ≡ y ∷ ys
          both p q = rw (p, q)

      -- words that are held are defined alike, and hold the same
      defined_alike : (addresses : List ℕ) → list_all (λ a. may_write_word mine (place_of a)) addresses ≡ true
          → list_all (plans.word_is_defined n0) addresses ≡ list_all (plans.word_is_defined w.memory) addresses
      defined_alike [] own = refl
      defined_alike (a ∷ addresses) own =
          let parts = and_parts _ _ own in
          let one : word_at n0 (place_of a) ≡ word_at w.memory (place_of a) =
          the_word (place_of a) (readable_word mine (place_of a) parts.0) in
          let rest = defined_alike addresses parts.1 in
          rw (one, rest)

      named_alike : (base : ℕ) (names : List (Option ℤ))
          → list_all (λ (named : Option ℤ). elim named as (λ o. Bool)
          [ None ↦ true | Some word ↦ may_read_word mine (place_of (shares.frame_address base word)) ]) names ≡ true
          → list_all (λ (named : Option ℤ). elim named as (λ o. Bool)
          [ None ↦ true | Some word ↦ plans.word_is_defined n0 (shares.frame_address base word) ]) names
          ≡ list_all (λ (named : Option ℤ). elim named as (λ o. Bool)
          [ None ↦ true | Some word ↦ plans.word_is_defined w.memory (shares.frame_address base word) ]) names
      named_alike base [] own = refl
      named_alike base (None ∷ names) own = named_alike base names own
      named_alike base (Some word ∷ names) own =
          let parts = and_parts _ _ own in
          let place = place_of (shares.frame_address base word) in
          let one : word_at n0 place ≡ word_at w.memory place = the_word place parts.0 in
          let rest = named_alike base names parts.1 in
          rw (one, rest)

      -- the word at an address that is held passes the same test
      word_alike : (v : ℤ) (a : ℕ) → may_write_word mine (place_of a) ≡ true
          → plans.holds_word n0 a v ≡ plans.holds_word w.memory a v
      word_alike v a own = ap (λ (o : Option ℤ). elim o as (λ o. Bool)
          [ None ↦ false | Some u ↦ cast_unsigned w32 u == cast_unsigned w32 v ])
          (the_word (place_of a) (readable_word mine (place_of a) own))

      empty_alike : (v : ℤ) (addresses : List ℕ)
          → list_all (λ a. may_write_word mine (place_of a)) addresses ≡ true
          → list_all (λ a. plans.holds_word n0 a v) addresses ≡ list_all (λ a. plans.holds_word w.memory a v) addresses
      empty_alike v [] own = refl
      empty_alike v (a ∷ addresses) own =
          let parts = and_parts _ _ own in
          and_same (word_alike v a parts.0) (empty_alike v addresses parts.1)

      words_defined : (plan : plans.Plan) → plans.words_are_held mine plan ≡ true
          → plans.words_are_defined n0 plan ≡ plans.words_are_defined w.memory plan
      words_defined plan held =
          let parts = and_parts (list_all (λ a. may_write_word mine (place_of a))
          (plans.block_addresses plan.base plan.par ++ plans.channel_addresses plan.base plan.par))
          (list_all (λ (named : Option ℤ). elim named as (λ o. Bool) [
            | None ↦ true
            | Some word ↦ may_read_word mine (place_of (shares.frame_address plan.base word))
          ]) (lookups.named_from plan.par 0 plan.parameters)) held in
          let a = defined_alike
          (plans.block_addresses plan.base plan.par ++ plans.channel_addresses plan.base plan.par) parts.0 in
          let b = named_alike plan.base (lookups.named_from plan.par 0 plan.parameters) parts.1 in
          rw (a, b)

      prepared_alike : (plan : plans.Plan) → plans.words_are_held mine plan ≡ true
          → plans.is_prepared h.contents n0 plan ≡ plans.is_prepared h.contents w.memory plan
      prepared_alike plan held =
          let block = shares.frame_address plan.base plan.par.block in
          let second = shares.frame_address block (pos 1) in
          let channels = plans.channel_addresses plan.base plan.par in
          let parts = and_parts (list_all (λ a. may_write_word mine (place_of a)) (block ∷ second ∷ channels))
          (list_all (λ (named : Option ℤ). elim named as (λ o. Bool) [
            | None ↦ true
            | Some word ↦ may_read_word mine (place_of (shares.frame_address plan.base word))
          ]) (lookups.named_from plan.par 0 plan.parameters)) held in
          let front = and_parts (may_write_word mine (place_of block)) (list_all (λ a. may_write_word mine (place_of a))
          (second ∷ channels)) parts.0 in
          let rest = and_parts (may_write_word mine (place_of second))
          (list_all (λ a. may_write_word mine (place_of a)) channels) front.1 in
          let code_start = data_start + 4 * h.contents.data_words in
          and_same (and_same
          (word_alike (cast_signed w32 ((code_start + plan.par.successor) % 2 ^ 32)) block front.0)
          (word_alike (pos (length plan.par.branches + 1)) second rest.0))
          (empty_alike least_word channels rest.1)

      -- the first that fails is the same: what is read is asked of last
      first_alike : (ends share held next d d' p p' : Bool) → (held ≡ true → d' ≡ d) → (held ≡ true → p' ≡ p)
          → plans.first_fault ((ends, EndNotHeld) ∷ (share && held, NotOwn) ∷ (d', Undefined)
          ∷ (next && p', JoinOrder) ∷ [])
          ≡ plans.first_fault ((ends, EndNotHeld) ∷ (share && held, NotOwn) ∷ (d, Undefined)
          ∷ (next && p, JoinOrder) ∷ [])
      first_alike false share held next d d' p p' same_d same_p = refl
      first_alike true false held next d d' p p' same_d same_p = refl
      first_alike true true false next d d' p p' same_d same_p = refl
      first_alike true true true next d d' p p' same_d same_p =
          let a : d' ≡ d = same_d refl in
          let b : p' ≡ p = same_p refl in
          rw (a, b)

      faults_alike : (plan : plans.Plan) (found : lookups.Found) (workspace : ℕ)
          → plans.first_fault (plans.first_faults h.contents n0 mine plan found workspace)
          ≡ plans.first_fault (plans.first_faults h.contents w.memory mine plan found workspace)
      faults_alike plan found workspace =
          ap (λ (size : ℕ). plans.first_fault ((plans.ends_are_there plan found.branch, EndNotHeld)
          ∷ (plans.share_is_there size plan workspace found.branch && plans.words_are_held mine plan, NotOwn)
          ∷ (plans.words_are_defined n0 plan, Undefined)
          ∷ (plans.is_next plan found workspace && plans.is_prepared h.contents n0 plan, JoinOrder) ∷ []))
          here_agree.size
          ∙ first_alike (plans.ends_are_there plan found.branch)
          (plans.share_is_there (length w.memory) plan workspace found.branch) (plans.words_are_held mine plan)
          (plans.is_next plan found workspace) (plans.words_are_defined w.memory plan) (plans.words_are_defined n0 plan)
          (plans.is_prepared h.contents w.memory plan) (plans.is_prepared h.contents n0 plan) (words_defined plan)
          (prepared_alike plan)

      -- the plan, of what is read and of the size
      abbrev plan_by : lookups.Found → ℕ → List (Option ℕ) → plans.Plan
      plan_by found size addresses =
          let par = found.par in
          let base = shares.frame_base h.from.registers.workspace par.depth in
          let rest = less size mine (plans.hidden base par) in
          record {
            row = found.row;
            par = par;
            base = base;
            parameters = parameters_at h.contents par.context;
            addresses = addresses;
            started = 0;
            rest = record rest { ends = plans.with_ends (plans.channel_addresses base par) rest.ends };
            members = h.process ∷ [];
          }

      plans_alike : (found : lookups.Found)
          → plans.first_plan h.contents h.process h.from.registers.workspace mine n0 found
          ≡ plans.first_plan h.contents h.process h.from.registers.workspace mine w.memory found
      plans_alike found =
          let base = shares.frame_base h.from.registers.workspace found.par.depth in
          let names = lookups.named_from found.par 0 (parameters_at h.contents found.par.context) in
          ap (plan_by found (length n0)) (words_in base names)
          ∙ ap (λ (size : ℕ). plan_by found size (map (plans.word_in mine w.memory base) names)) here_agree.size

      opens : (plan : plans.Plan) (found : lookups.Found) (workspace : ℕ) (r : Registers) (m n : Memory)
          → Agree seen m n → SameTurn seen
          (join.start_or_fail h (plans.first_faults h.contents w.memory mine plan found workspace)
          (join.started h plan found workspace (join.opened h plan (here r m) w).0 (join.opened h plan (here r m) w).1)
          w)
          (join.start_or_fail h (plans.first_faults h.contents n0 mine plan found workspace)
          (join.started h plan found workspace (join.opened h plan (here r n) w').0
          (join.opened h plan (here r n) w').1) w')
      opens plan found workspace r m n agree =
          let addresses = plans.block_addresses plan.base plan.par ++ plans.channel_addresses plan.base plan.par in
          start_or_fail (plans.first_faults h.contents w.memory mine plan found workspace)
          (plans.first_faults h.contents n0 mine plan found workspace) _ _ (faults_alike plan found workspace)
          (started plan found workspace r (join.without_words addresses m) (join.without_words addresses n)
          (join.with_channels h.process plan.base plan.par.channels w.channels) (words_agree seen m n addresses agree))

      first_start : (found : lookups.Found) (workspace : ℕ) (r : Registers) (m n : Memory) → Agree seen m n
          → SameTurn seen (join.first_start_turn h found workspace (here r m) w)
          (join.first_start_turn h found workspace (here r n) w')
      first_start found workspace r m n agree =
          let plan = plans.first_plan h.contents h.process h.from.registers.workspace mine w.memory found in
          subst (λ (other : plans.Plan). SameTurn seen
          (join.start_or_fail h (plans.first_faults h.contents w.memory mine plan found workspace)
          (join.started h plan found workspace (join.opened h plan (here r m) w).0 (join.opened h plan (here r m) w).1)
          w)
          (join.start_or_fail h (plans.first_faults h.contents n0 mine other found workspace)
          (join.started h other found workspace (join.opened h other (here r n) w').0
          (join.opened h other (here r n) w').1) w')) (sym (plans_alike found))
          (opens plan found workspace r m n agree)

      start_alike : (target workspace : ℕ) (r : Registers) (m n : Memory) → Agree seen m n
          → SameTurn seen (join.start_turn h target workspace (here r m) w)
          (join.start_turn h target workspace (here r n) w')
      start_alike target workspace r m n agree = on_branch (lookups.found_at h.contents target)
        where
          on_join : (found : lookups.Found) (j : Option Join) → SameTurn seen
              (elim j as (λ j. Turn) [
                | None ↦ join.first_start_turn h found workspace (here r m) w
                | Some j ↦ join.later_start_turn h j found workspace (here r m) w
              ]) (elim j as (λ j. Turn) [
                | None ↦ join.first_start_turn h found workspace (here r n) w'
                | Some j ↦ join.later_start_turn h j found workspace (here r n) w'
              ])
          on_join found None = first_start found workspace r m n agree
          on_join found (Some j) = later_start j found workspace r m n agree

          on_branch : (found : Option lookups.Found) → SameTurn seen
              (elim found as (λ j. Turn) [
                | None ↦ join.start_or_fail h (plans.no_row_faults mine workspace) w w
                | Some found ↦ elim (lookups.opened_by w h.process) as (λ j. Turn) [
                  | None ↦ join.first_start_turn h found workspace (here r m) w
                  | Some j ↦ join.later_start_turn h j found workspace (here r m) w
                ]
              ]) (elim found as (λ j. Turn) [
                | None ↦ join.start_or_fail h (plans.no_row_faults mine workspace) w' w'
                | Some found ↦ elim (lookups.opened_by w h.process) as (λ j. Turn) [
                  | None ↦ join.first_start_turn h found workspace (here r n) w'
                  | Some j ↦ join.later_start_turn h j found workspace (here r n) w'
                ]
              ])
          on_branch None = no_row (plans.no_row_faults mine workspace)
          on_branch (Some found) = on_join found (lookups.opened_by w h.process)

      -- ---- whatever comes of an instruction

      jumped : (slice : Bool) (to : ℕ) (r : Registers) (m n : Memory) → Agree seen m n
          → SameTurn seen (settled h slice (jumps to (here r m)) w) (settled h slice (jumps to (here r n)) w')
      unfolding dispatch
      jumped true to r m n agree = counts_alike (λ v. dispatch h.pick (enqueue h.process (leave v))) (λ v n. refl)
          (continued h to (here r m) w) n agree
      jumped false to r m n agree = counts_alike (λ v. v) (λ v n. refl) (continued h to (here r m) w) n agree

      stopped : (slice : Bool) (r : Registers) (m n : Memory) → Agree seen m n
          → SameTurn seen (settled h slice (stops (here r m)) w) (settled h slice (stops (here r n)) w')
      unfolding dispatch
      stopped slice r m n agree = counts_alike
          (λ v. dispatch h.pick (leave (finished_where (h.next == h.contents.finish) v))) (λ v n. refl)
          (put h.process (record h.from { registers = between h.next r; condition = Stopped }) m w) n agree

      pub settled_alike : (slice : Bool) (o o' : Outcome) → Alike seen o o'
          → ((sent : Exchange) → supply_by w o ≡ Some sent → Covers seen (place_of sent.address) sent.length)
          → SameTurn seen (settled h slice o w) (settled h slice o' w')
      settled_alike slice o o' (agreeing.both_go r m n agree) covers =
          counts_alike (λ v. v) (λ v n. refl) (continued h h.next (here r m) w) n agree
      settled_alike slice o o' (agreeing.both_jump to r m n agree) covers = jumped slice to r m n agree
      settled_alike slice o o' (agreeing.both_land to r m n agree) covers =
          counts_alike (λ v. v) (λ v n. refl) (continued h to (here r m) w) n agree
      settled_alike slice o o' (agreeing.both_stop r m n agree) covers = stopped slice r m n agree
      settled_alike slice o o' (agreeing.both_fail kind) covers = fails_alike kind
      settled_alike slice o o' (agreeing.both_receive e r m n agree) covers = received e r m n agree covers
      settled_alike slice o o' (agreeing.both_send e r m n agree read) covers = sent e r m n agree read
      settled_alike slice o o' (agreeing.both_start to workspace r m n agree) covers =
          start_alike to workspace r m n agree
      settled_alike slice o o' (agreeing.both_join block r m n agree) covers = joined_alike block r m n agree
      settled_alike slice o o' (agreeing.both_begin r m n agree) covers = counts_alike (λ v. v) (λ v n. refl)
          (alternation.in_mode h (Enabling false) (here r m) w) n agree
      settled_alike slice o o' (agreeing.both_enable guard at r m n agree) covers = enabled guard at r m n agree
      settled_alike slice o o' (agreeing.both_enable_a_skip guard r m n agree) covers =
          counts_alike (λ v. v) (λ v n. refl)
          (alternation.in_mode h (alternation.ready_or h.from.mode guard) (here r m) w) n agree
      settled_alike slice o o' (agreeing.both_wait r m n agree) covers = waited r m n agree
      settled_alike slice o o' (agreeing.both_disable guard at distance r m n agree) covers =
          disabled guard at distance r m n agree
      settled_alike slice o o' (agreeing.both_disable_a_skip guard distance r m n agree) covers =
          chosen (λ v. v) (λ v n. refl) guard distance r m n agree
      settled_alike slice o o' (agreeing.both_end to r m n agree) covers = alternation_ended to r m n agree

-- ---- one byte of the running process

module _ (m : Contents) (w : World) (n : Memory) (slice : Bool) (pick : ℕ)
    (agree : Agree (is_seen m w) w.memory n) where
  abbrev seen : ℕ → Bool
  seen = is_seen m w

  abbrev other : World
  other = record w { memory = n }

  rests : (e : Effect) → SameTurn seen (answered e w) (answered e other)
  rests e = record { answer = refl; world = refl; agree = agree }

  module _ (p : ℕ) (task : Task) (runs : w.queue.running ≡ Some p) (there : slice_get w.tasks p ≡ Some task) where
    abbrev h : Here
    h = at_here m p task pick

    -- what the running process may read is seen, and so is what it is handed
    reads : (q : ℕ) → may_read (holding_at w.roles p) q ≡ true → seen q ≡ true
    reads q own = or_left _ _ (ap (λ (o : Option ℕ). elim o as (λ o. Bool)
        [ None ↦ false | Some p ↦ may_read (holding_at w.roles p) q ]) runs ∙ own)

    handed : (sent : Exchange) → supply m w ≡ Some sent
        → Covers seen (place_of sent.address) sent.length
    handed sent is i inside =
        let place = place_of sent.address + i in
        or_right _ (is_supplied (supply m w) place)
        (ap (λ (o : Option Exchange). is_supplied o place) is
        ∙ and_from _ _ (le-leb (place_of sent.address) place (omega arith))
        (lt-ltb place (place_of sent.address + sent.length) (omega arith)))

    prefix : (after : ℤ) (b : Bool) → SameTurn seen (if b
        then answered turn.ran (counted (put p
        (record task { registers = record task.registers { at = task.registers.at + 1; operand = after } })
        w.memory w))
        else failed h OutsideCode w) (if b
        then answered turn.ran (counted (put p
        (record task { registers = record task.registers { at = task.registers.at + 1; operand = after } })
        n other))
        else failed h OutsideCode other)
    prefix after true = record { answer = refl; world = refl; agree = agree }
    prefix after false = record { answer = refl; world = refl; agree = agree }

    on_function : (byte : ℕ) → slice_get m.code task.registers.at ≡ Some byte → (after : ℤ) (f : Option Fun)
        → fun_of (function_code byte) ≡ f → SameTurn seen (elim f as (λ f. Turn) [
          | Some f ↦ settled h slice (step.local_step (happens.site_of h w) f
              (with_nibble task.registers.operand (nibble byte)) (here task.registers w.memory)) w
          | None ↦ happens.prefix_turn h after w
        ]) (elim f as (λ f. Turn) [
          | Some f ↦ settled h slice (step.local_step (happens.site_of h w) f
              (with_nibble task.registers.operand (nibble byte)) (here task.registers n)) other
          | None ↦ happens.prefix_turn h after other
        ])
    on_function byte at after (Some f) is =
        let operand = with_nibble task.registers.operand (nibble byte) in
        let s = happens.site_of h w in
        settled_alike seen h w n agree reads slice _ _
        (each_step s task.registers w.memory n (λ r m n. Agree seen m n) (Alike seen)
        (alike seen s task.registers w.memory n reads) agree f operand)
        (λ sent by. handed sent (ap (λ (o : Option Outcome). elim o as (λ o. Option Exchange)
        [ None ↦ None | Some o ↦ supply_by w o ]) (outcome_is m w p task byte (Some f) runs there at is) ∙ by))
    on_function byte at after None is = prefix after (nat_lt h.next (length m.code))

    on_byte : (byte : Option ℕ) → slice_get m.code task.registers.at ≡ byte → SameTurn seen
        (elim byte as (λ b. Turn)
        [ None ↦ failed h OutsideCode w | Some byte ↦ happens.byte_turn h byte slice w ])
        (elim byte as (λ b. Turn)
        [ None ↦ failed h OutsideCode other | Some byte ↦ happens.byte_turn h byte slice other ])
    on_byte None at = record { answer = refl; world = refl; agree = agree }
    on_byte (Some byte) at = on_function byte at _ (fun_of (function_code byte)) refl

  on_runner : (runner : Option ℕ) → w.queue.running ≡ runner → SameTurn seen (elim runner as (λ o. Turn) [
    | None ↦ answered turn.idle w
    | Some p ↦ if nat_le happens.most_executed w.counters.executed then answered turn.idle w
        else elim (slice_get w.tasks p) as (λ o. Turn) [
          | None ↦ answered turn.idle w
          | Some task ↦ happens.task_turn (at_here m p task pick) slice w
        ]
  ]) (elim runner as (λ o. Turn) [
    | None ↦ answered turn.idle other
    | Some p ↦ if nat_le happens.most_executed w.counters.executed then answered turn.idle other
        else elim (slice_get w.tasks p) as (λ o. Turn) [
          | None ↦ answered turn.idle other
          | Some task ↦ happens.task_turn (at_here m p task pick) slice other
        ]
  ])
  on_runner None runs = rests turn.idle
  on_runner (Some p) runs = on_count (nat_le happens.most_executed w.counters.executed)
    where
      on_task : (task : Option Task) → slice_get w.tasks p ≡ task → SameTurn seen (elim task as (λ o. Turn) [
        | None ↦ answered turn.idle w
        | Some task ↦ happens.task_turn (at_here m p task pick) slice w
      ]) (elim task as (λ o. Turn) [
        | None ↦ answered turn.idle other
        | Some task ↦ happens.task_turn (at_here m p task pick) slice other
      ])
      on_task None there = rests turn.idle
      on_task (Some task) there = on_byte p task runs there (slice_get m.code task.registers.at) refl

      on_count : (b : Bool) → SameTurn seen (if b then answered turn.idle w
          else elim (slice_get w.tasks p) as (λ o. Turn) [
            | None ↦ answered turn.idle w
            | Some task ↦ happens.task_turn (at_here m p task pick) slice w
          ]) (if b then answered turn.idle other else elim (slice_get w.tasks p) as (λ o. Turn) [
            | None ↦ answered turn.idle other
            | Some task ↦ happens.task_turn (at_here m p task pick) slice other
          ])
      on_count true = rests turn.idle
      on_count false = on_task (slice_get w.tasks p) refl

  sees : SameTurn seen (happens.turn m w (Step slice pick))
      (happens.turn m other (Step slice pick))
  unfolding happens.turn
  sees = on_fault w.fault
    where
      on_fault : (f : Option Fault) → SameTurn seen (elim f as (λ f. Turn) [
        | None ↦ happens.step_turn m slice pick w
        | Some f ↦ record { world = w; answer = Err f }
      ]) (elim f as (λ f. Turn) [
        | None ↦ happens.step_turn m slice pick other
        | Some f ↦ record { world = other; answer = Err f }
      ])
      on_fault None = on_runner w.queue.running refl
      on_fault (Some f) = record { answer = refl; world = refl; agree = agree }

pub steps_see_what_they_read : StepsSeeWhatTheyRead
steps_see_what_they_read m w n slice pick agree = sees m w n slice pick agree
