-- The invariant holds once a process has come to an instruction that wants a message, whichever way that ends.
use Rattle.std.proofs.Common.{◌≡◌, ◌≢◌, ℕ, ◌+◌, ◌≤◌, ◌<◌, true, false, inl, inr, List, length, Option, Some, None}
use Rattle.std.proofs.Common.{refl}
use Rattle.std.proofs.Common.{sym, ap, ◌∙◌, subst, arith, eqb-true}
use Rattle.std.specs.Prelude.{slice_get, slice_set}
use Rattle.small_laws.proofs.Options.{same_some}
use Rattle.module_format.specs.Contents.{Contents}
use Rattle.module_format.specs.declared.rows.Direction.TheVariants.{In, Out}
use Rattle.machine_state.specs.declared.link.InputLink.{InputLink}
use Rattle.machine_state.specs.declared.process.Channel.{Channel}
use Rattle.machine_state.specs.declared.process.Condition.{Condition}
use Rattle.machine_state.specs.declared.process.Condition.TheVariants.{Ready, Sending, Receiving, OnLink, Alternating}
use Rattle.machine_state.specs.declared.process.Condition.TheVariants.{Ended}
use Rattle.machine_state.specs.declared.process.Mode.TheVariants as modes
use Rattle.machine_state.specs.EnabledLaws.{a_sender, a_channel as has_channel}
use Rattle.machine_state.specs.Holding.{Holding, has_end}
use Rattle.machine_state.specs.Ownership.{owner_in}
use Rattle.machine_state.specs.Roles.{opened_in}
use Rattle.machine_state.specs.declared.process.Exchange.{Exchange}
use Rattle.machine_state.specs.declared.process.Task.{Task}
use Rattle.machine_state.specs.LocalStep.{copied}
use Rattle.machine_state.specs.Memory.{Memory, byte_at, with_byte, place_of}
use Rattle.machine_state.specs.World.{World, Counters, held, holding_at, input_word, output_word}
use Rattle.machine_state.specs.Moves.{cell_of, channel_at, counted, put, leave, dispatch, enqueue, rouse}
use Rattle.machine_state.specs.Moves.{with_channel, with_output}
use Rattle.machine_state.specs.Site.{Local, receives, sends}
use Rattle.machine_state.specs.Turn.{Here, at_here, between, continued, waiting}
use Rattle.machine_state.specs.Exchanges.{output_link, condition_of, waits_at, met}
use Rattle.machine_state.specs.Endings.{Moved, receives_first, receives_from, receives_none, receives_last}
use Rattle.machine_state.specs.Endings.{receives_one}
use Rattle.machine_state.specs.Endings.{sends_first, sends_to}
use Rattle.machine_state.proofs.Changes.{channel_there, rouses}
use Rattle.machine_state.proofs.EnabledIsHeld.{word_of}
use Rattle.machine_state.proofs.Lines.{got_set, got_other}
use Rattle.machine_state.proofs.MovesLeaveAlone.{rouse_only}
use Rattle.machine_state.proofs.Owners.{owner_same}
use Rattle.machine_state.proofs.Roles.{set_twice}
use Rattle.machine_state.proofs.Waiting.{link_found, link_low}
use Rattle.rulings.specs.Buffers.{message_place, IsByte}
use Rattle.rulings.specs.Meaning.{IsWellFormed}
use Rattle.certified_worlds.specs.Alternating.{a_channel, a_link}
use Rattle.certified_worlds.specs.Lives.{awaits, Lives, it_lives}
use Rattle.certified_worlds.specs.Invariant.{Holds}
use Rattle.certified_worlds.proofs.StartedWorlds.{plain_beside}
use Rattle.verifier.proofs.CalmWorlds.{is_plain, plain_of}
use Rattle.verifier.proofs.LawfulWorlds.{IsLawful}
use Rattle.certified_worlds.proofs.Steps.{Talks}
use Rattle.verifier.proofs.Enabled.{only_it}
use Rattle.verifier.proofs.OthersGuards.{LeavesChannels, LeavesLinks, LeavesEnabled, IsSilent, ready_is_silent}
use Rattle.verifier.proofs.OthersGuards.{channels_same, links_same, enabled_same, channel_set, link_set}
use Rattle.verifier.proofs.SharedOut.{IsSharedOut, none_open, shared_out, shared_still}
use Rattle.verifier.proofs.Sources.{holding_is}
use Rattle.verifier.proofs.Tables.{row_of}
use Rattle.verifier.proofs.Tables.{Allows, AreBytes, Living, living, Puts, channels_equal, channel_stays}
use Rattle.verifier.proofs.Tables.{holds_put, nothing_changes}
use Rattle.verifier.proofs.Rousing.{roused_holds}
use Rattle.verifier.proofs.Arrivals.{bytes_set, wake_is}
use Rattle.verifier.proofs.Coming.{none_lives, last_lives, last_changes, second_lives, sent_lives, out_lives}
use Rattle.verifier.proofs.Coming.{filled_changes, filled_lives}
use Rattle.verifier.proofs.Talking.{wants_it, over_it, another}

-- the first byte of a message is at its address
first_place : (e : Exchange) → message_place e 0 ≡ place_of e.address
unfolding place_of
first_place e = omega arith

-- a process goes on in another condition, and owes what it owed
turned : (m : Contents) (v : World) (h : Holds m v) → IsSharedOut m v → (q : ℕ) (u : Task)
    (r : Living m v h q u) → opened_in v.roles q ≡ None → u.mode ≡ modes.Plain
    → (after : World) (next : Task) (new : Memory) → Puts v after q next new → LeavesEnabled v after q u
    → Allows r.lives v.memory new → after.counters ≡ v.counters → next.mode ≡ u.mode
    → Lives m (held (row_of r).role) (row_of r).start new next (row_of r).due → Holds m after
turned m v h out q u r unopened plain after next new puts leaves changes same mode lives =
    holds_put m v h out q u r after next new (row_of r).due puts leaves changes unopened (rw same (omega arith))
    (mode ∙ plain) (it_lives lives)

module _ (m : Contents) (wf : IsWellFormed m) (w : World) (lawful : IsLawful m w) (h : Holds m w) (p : ℕ) (t : Task)
    (ready : t.condition ≡ Ready) (plain : t.mode ≡ modes.Plain) (r : Living m w h p t)
    (pick : ℕ) where
  -- it has no join open
  unopened : opened_in w.roles p ≡ None
  unopened = none_open lawful.starters.openers p t r.here (λ ended. r.going ended)
      (λ starting now. let no' : modes.Plain ≡ modes.Starting = sym plain ∙ starting in cc)

  abbrev here : Here
  here = at_here m p t pick

  -- the process after its instruction
  abbrev behind : Condition → Local → Task
  behind c l = record t { registers = between (t.registers.at + 1) l.registers; condition = c }

  -- a process that waits for a message is in plain mode
  calmly : (c : Condition) (u : Task) (q : ℕ) → slice_get w.tasks q ≡ Some u → u.condition ≡ c → (c ≡ Ready → ⊥)
      → (c ≡ Alternating → ⊥) → u.mode ≡ modes.Plain
  calmly c u q there is unready unroused =
      plain_of u (lawful.calm q u there) (λ e. unready (sym is ∙ e)) (λ e. unroused (sym is ∙ e))

  -- and has no join open
  waiter_unopened : (c : Condition) (u : Task) (q : ℕ) → slice_get w.tasks q ≡ Some u → u.condition ≡ c
      → (c ≡ Ready → ⊥) → (c ≡ Ended → ⊥) → opened_in w.roles q ≡ None
  waiter_unopened c u q there is unready unended = none_open lawful.starters.openers q u there
      (λ ended. unended (sym is ∙ ended)) (λ starting now. unready (sym is ∙ now))

  -- in a world in which it has come there, and a byte was counted
  steps_to : (c : Condition) (l : Local) (later : ℕ) (after : World) → Puts w after p (behind c l) l.memory
      → LeavesEnabled w after p t → after.counters.executed ≡ w.counters.executed + 1 → later + 1 ≤ (row_of r).due
      → Allows r.lives w.memory l.memory
      → Lives m (held (row_of r).role) (row_of r).start l.memory (behind c l) later → Holds m after
  steps_to c l later after puts leaves one less changes lives =
      holds_put m w h (shared_out lawful) p t r after (behind c l) l.memory later puts leaves changes unopened
      (omega arith) plain (it_lives lives)

  -- where it has another task, and channels have the openers that they had, what there is is shared out as before
  still_out : (after : World) (u : Task) → u.mode ≡ t.mode → after.tasks ≡ slice_set w.tasks p u
      → after.roles ≡ w.roles → ((k : ℕ) → owner_in after.channels k ≡ owner_in w.channels k) → IsSharedOut m after
  still_out after u mode tasks roles owners = shared_still w after p t u r.here r.going
      (λ starting. let no' : modes.Plain ≡ modes.Starting = sym plain ∙ (sym mode ∙ starting) in cc)
      (is_plain (mode ∙ plain)) unopened tasks roles owners (shared_out lawful)

  -- the same, and nothing else has changed
  abbrev stepped : Condition → Local → World
  stepped c l = counted (put p (behind c l) l.memory w)

  stepped_holds : (c : Condition) (l : Local) (later : ℕ) → later + 1 ≤ (row_of r).due
      → Allows r.lives w.memory l.memory
      → Lives m (held (row_of r).role) (row_of r).start l.memory (behind c l) later → Holds m (stepped c l)
  stepped_holds c l later less changes lives = steps_to c l later (stepped c l) (record {
    tasks = refl;
    memory = refl;
    roles = refl;
    channels = channels_equal refl;
    kept = h.kept;
    fault = refl;
  }) (enabled_same refl refl (ready_is_silent w p t ready)) refl less changes lives

  stepped_out : (c : Condition) (l : Local) → IsSharedOut m (stepped c l)
  stepped_out c l = still_out (stepped c l) (behind c l) refl refl refl (λ k. refl)

  -- no channel says yet that it waits there
  stepped_silent : (c : Condition) (l : Local) → IsSilent (stepped c l) p (behind c l)
  stepped_silent c l k d q e other there enabled waits_there out =
      let v = lawful.cells k d p there waits_there in
      let now = ap (λ (u : Task). u.condition) (same_some (slice_get w.tasks p) v.task t v.here r.here) ∙ ready in
      elim v.waits [ inl out ↦ let no' = sym out ∙ now in cc | inr in_ ↦ let no' = sym in_ ∙ now in cc ]

  -- what memory holds is small
  small : length w.memory ≤ 1048576
  small = (r.lives.claim w.memory refl (λ place may none. refl) (λ place e.
      let no' : true ≡ false = sym e ∙ ap (λ c. awaits c place) ready in absurd (cc))).here.frame.small

  -- the task that goes on is ready, as it was
  abbrev behind_ready : Local → Task
  behind_ready l = record t { registers = between (t.registers.at + 1) l.registers }

  as_before : (l : Local) → behind Ready l ≡ behind_ready l
  as_before l = ap (λ c. record t { registers = between (t.registers.at + 1) l.registers; condition = c }) (sym ready)

  module _ (e : Exchange) (l : Local) (later : ℕ) (less : later + 1 ≤ (row_of r).due)
      (changes : Allows r.lives w.memory l.memory) where
    -- it is the first to come to a channel
    comes_first : {after : World} (c : Channel) → channel_at w e.channel ≡ Some c → c.waiting ≡ None
        → after.channels ≡ slice_set w.channels (cell_of e.channel) (Some (record c { waiting = Some p }))
        → after.links.inputs ≡ w.links.inputs → LeavesEnabled w after p t
    comes_first {after} c at none channels links = record {
      channels = subst (λ (cells : List (Option Channel)). LeavesChannels p w.channels cells) (sym channels)
          (channel_set w.channels (cell_of e.channel) c (record c { waiting = Some p }) (channel_there w e.channel c at)
          (λ q other is. is)
          (λ q other is. (is, λ s waits_there. let no' : None ≡ Some s = sym none ∙ waits_there in absurd (cc))));
      links = links_same links;
      silent = ready_is_silent w p t ready;
    }

    -- ---- a message that comes

    module _ (talks : Talks m (held (row_of r).role) (row_of r).start t In e)
        (lives : Lives m (held (row_of r).role) (row_of r).start l.memory (behind (Receiving e) l) later) where
      abbrev waiting_in : World
      waiting_in = stepped (Receiving e) l

      in_holds : Holds m waiting_in
      in_holds = stepped_holds (Receiving e) l later less changes lives

      in_there : slice_get waiting_in.tasks p ≡ Some (behind (Receiving e) l)
      in_there = got_set w.tasks p t (behind (Receiving e) l) r.here

      in_mine : Living m waiting_in in_holds p (behind (Receiving e) l)
      in_mine = living m waiting_in in_holds p (behind (Receiving e) l) (Receiving e) in_there refl (λ e. cc) (λ e. cc)

      held_in : has_end (holding_at w.roles p) (record { address = e.channel; direction = In }) ≡ true
      held_in = subst (λ (g : Holding). has_end g (record { address = e.channel; direction = In }) ≡ true)
          (sym (holding_is m wf w lawful h p (row_of r).role (row_of r).has_role)) talks.end

      -- no process has enabled the channel over which it receives
      unenabled : (c : Channel) → channel_at w e.channel ≡ Some c → (q : ℕ) → c.enabled ≡ Some q → ⊥
      unenabled c at q enabled =
          let there = channel_there w e.channel c at in
          let word = word_of m w lawful.stands p (record { address = e.channel; direction = In }) c there held_in in
          let it = only_it m wf w lawful h p e.channel held_in q (a_channel word c there enabled) in
          let a = lawful.alternate p (has_channel (cell_of e.channel) c there (enabled ∙ ap Some it)) in
          plain_beside (ap (λ (u : Task). u.mode) (same_some (slice_get w.tasks p) a.task t a.here r.here)
          ∙ plain) a.alternates

      -- it waits for the first byte, or the second, of a link, or goes on with the last
      on_link : (k : ℕ) (link new : InputLink) (next : Condition) (memory : Memory) (after : World)
          → slice_get w.links.inputs k ≡ Some link
          → new.enabled ≡ link.enabled → ((q : ℕ) → p ≢ q → link.enabled ≡ Some q → new.kept ≡ link.kept)
          → ((b : ℕ) → new.kept ≡ Some b → b < 256)
          → after.tasks ≡ slice_set w.tasks p (behind next l) → after.memory ≡ memory → after.roles ≡ w.roles
          → after.channels ≡ w.channels → after.links.inputs ≡ slice_set w.links.inputs k new → after.fault ≡ w.fault
          → after.counters ≡ waiting_in.counters → Allows in_mine.lives l.memory memory
          → Lives m (held (row_of in_mine).role) (row_of in_mine).start memory (behind next l) (row_of in_mine).due
          → Holds m after
      on_link k link new next memory after is_there enabled kept bytes tasks same roles channels inputs fault counters
          own lives_on =
          turned m waiting_in in_holds (stepped_out (Receiving e) l) p (behind (Receiving e) l) in_mine unopened plain
          after (behind next l) memory (record {
            tasks = tasks ∙ sym (set_twice w.tasks p (behind (Receiving e) l) (behind next l));
            memory = same;
            roles = roles;
            channels = channels_equal channels;
            kept = subst (λ (xs : List InputLink). AreBytes xs) (sym inputs)
                (bytes_set w.links.inputs k new h.kept bytes);
            fault = fault;
          }) (record {
            channels = channels_same channels;
            links = subst (λ (xs : List InputLink). LeavesLinks p w.links.inputs xs) (sym inputs)
                (link_set w.links.inputs k link new is_there (λ q other is. sym enabled ∙ is)
                (λ q other is. (enabled ∙ is, λ byte there. kept q other is ∙ there)));
            silent = stepped_silent (Receiving e) l;
          }) own counters refl lives_on

      -- no other process has enabled the link
      never_theirs : (k : ℕ) (link new : InputLink) → slice_get w.links.inputs k ≡ Some link → e.channel ≡ input_word k
          → (q : ℕ) → p ≢ q → link.enabled ≡ Some q → new.kept ≡ link.kept
      never_theirs k link new is_there on q other is =
          absurd (other (sym (only_it m wf w lawful h p e.channel held_in q (a_link k link on is_there is))))

      some : 1 ≤ e.length
      some = talks.some

      -- the first byte has come into the buffer
      abbrev first_in : ℕ → Memory
      first_in byte = with_byte l.memory (place_of e.address) (Some byte)

      first_own : (byte k : ℕ) → byte < 256 → e.channel ≡ input_word k
          → Allows in_mine.lives l.memory (first_in byte)
      first_own byte k few on =
          subst (λ place. Allows in_mine.lives l.memory (with_byte l.memory place (Some byte))) (first_place e)
          (last_changes (behind (Receiving e) l) k on in_mine.lives byte few some)

      -- it meets one that waits to send
      meets_sender : (q : ℕ) (sent : Exchange) (c : Channel) → channel_at w e.channel ≡ Some c → c.waiting ≡ Some q
          → condition_of w q ≡ Sending sent → sent.length ≡ e.length
          → Holds m (counted (met here q sent e c l w))
      meets_sender q sent c at waiting is same =
          subst (λ x. Holds m (counted x)) (wake_is after_copy q u.0 waits)
          (turned m (counted gone_on) copied_holds
          (still_out (counted gone_on) (behind_ready l) refl refl refl (λ k. refl)) q
          u.0 partner (waiter_unopened (Sending sent) u.0 q u.1 u.2 (λ e. cc) (λ e. cc))
          (calmly (Sending sent) u.0 q u.1 u.2 (λ e. cc) (λ e. cc))
          (counted (enqueue q (record after_copy {
            tasks = slice_set after_copy.tasks q (record u.0 { condition = Ready });
          }))) (record u.0 { condition = Ready }) copy (record {
            tasks = refl;
            memory = refl;
            roles = refl;
            channels = channel_stays w.channels (cell_of sent.channel) c (record c { waiting = None }) cell refl refl;
            kept = h.kept;
            fault = refl;
          }) (record {
            channels = channel_set w.channels (cell_of sent.channel) c (record c { waiting = None }) cell
                (λ s other is. is) (λ s other is. absurd (unenabled c at s is));
            links = links_same refl;
            silent = silent;
          }) nothing_changes refl refl
          (sent_lives u.0 (subst (λ c. Lives m (held (row_of partner).role) (row_of partner).start copy
          (record u.0 { condition = c }) (row_of partner).due) u.2 partner.lives)))
        where
          copy : Memory
          copy = copied l.memory (place_of sent.address) (place_of e.address) sent.length l.memory

          -- it goes on with what was sent, and then no process waits there
          gone_on : World
          gone_on = continued here (t.registers.at + 1) (record l { memory = copy }) w

          after_copy : World
          after_copy = with_channel sent.channel (record c { waiting = None }) gone_on

          u : (u : Task) × (slice_get w.tasks q ≡ Some u) × (u.condition ≡ Sending sent)
          u = wants_it w q (Sending sent) is (λ e. cc)

          other : p ≢ q
          other = another m wf w lawful h p t ready r unopened q u.0 (Sending sent) u.1 u.2 (λ e. cc)

          cell_is : cell_of sent.channel ≡ cell_of e.channel
          cell_is = over_it m wf w lawful h p t ready r unopened e sent q u.0 Out c at waiting u.1 u.2

          cell : slice_get w.channels (cell_of sent.channel) ≡ Some (Some c)
          cell = subst (λ n. slice_get w.channels n ≡ Some (Some c)) (sym cell_is) (channel_there w e.channel c at)

          -- no process has enabled what the sender waits at
          silent : IsSilent (counted gone_on) q u.0
          silent k d s x beside there enabled waits_there out =
              let v = lawful.cells k d q there waits_there in
              let now = ap (λ (y : Task). y.condition) (same_some (slice_get w.tasks q) v.task u.0 v.here u.1) ∙ u.2 in
              elim v.waits [
                | inl out ↦
                    let both : Sending v.exchange ≡ Sending sent = sym out ∙ now in
                    let alike : v.exchange ≡ sent = cc in
                    let at_cell : k ≡ cell_of e.channel =
                    sym v.at ∙ (ap (λ (y : Exchange). cell_of y.channel) alike ∙ cell_is) in
                    let one : Some d ≡ Some c = same_some (slice_get w.channels (cell_of e.channel)) (Some d) (Some c)
                    (subst (λ n. slice_get w.channels n ≡ Some (Some d)) at_cell there)
                    (channel_there w e.channel c at) in
                    let it : d ≡ c = cc in
                    unenabled c at s (ap (λ (y : Channel). y.enabled) (sym it) ∙ enabled)
                | inr in_ ↦ let no' : Receiving v.exchange ≡ Sending sent = sym in_ ∙ now in cc
              ]

          -- what the sender has before the copy
          sender : Living m waiting_in in_holds q u.0
          sender = living m waiting_in in_holds q u.0 (Sending sent)
              (got_other w.tasks p q (behind (Receiving e) l) other ∙ u.1) u.2 (λ e. cc) (λ e. cc)

          bytes : (j : ℕ) → j < sent.length → IsByte (byte_at l.memory (message_place sent j))
          bytes j less = (sender.lives.sends sent u.2 j less).1

          fits : length l.memory ≤ 1048576
          fits = let size = changes.own.size in omega (arith, small)

          copied_holds : Holds m (counted gone_on)
          copied_holds =
              turned m waiting_in in_holds (stepped_out (Receiving e) l) p (behind (Receiving e) l) in_mine unopened
              plain
              (counted gone_on) (behind_ready l) copy (record {
                tasks = sym (set_twice w.tasks p (behind (Receiving e) l) (behind_ready l));
                memory = refl;
                roles = refl;
                channels = channels_equal refl;
                kept = h.kept;
                fault = refl;
              }) (enabled_same refl refl (stepped_silent (Receiving e) l))
              (filled_changes (behind (Receiving e) l) sent e same fits bytes refl in_mine.lives) refl refl
              (subst (λ u. Lives m (held (row_of in_mine).role) (row_of in_mine).start copy u (row_of in_mine).due)
              (as_before l) (filled_lives (behind (Receiving e) l) sent e same fits bytes refl in_mine.lives))

          waits : slice_get gone_on.tasks q ≡ Some u.0
          waits = got_other w.tasks p q (behind_ready l) other ∙ u.1

          partner : Living m (counted gone_on) copied_holds q u.0
          partner = living m (counted gone_on) copied_holds q u.0 (Sending sent) waits u.2 (λ e. cc) (λ e. cc)

      pub moved_in : (after : World) → Moved here w (receives e l) after → Holds m (counted after)
      unfolding dispatch
      moved_in after (receives_first e l c outside at none) =
          steps_to (Receiving e) l later _ (record {
            tasks = refl;
            memory = refl;
            roles = refl;
            channels = channel_stays w.channels (cell_of e.channel) c (record c { waiting = Some p })
                (channel_there w e.channel c at) refl refl;
            kept = h.kept;
            fault = refl;
          }) (comes_first c at none refl refl) refl less changes lives
      moved_in after (receives_from e l c q sent outside at waiting is same) =
          meets_sender q sent c at waiting is (eqb-true sent.length e.length same)
      moved_in after (receives_none e l k link found is_there none) =
          let on : e.channel ≡ input_word k = let at = link_found (input_word 0) e.channel k found in omega arith in
          on_link k link (record link { waiting = Some p }) (OnLink e 0) l.memory _ is_there refl (λ q other is. refl)
          (λ b kept. h.kept k link b is_there kept) refl refl refl refl refl refl refl nothing_changes
          (none_lives (behind (Receiving e) l) k on in_mine.lives)
      moved_in after (receives_last e l k link byte found is_there kept one) =
          let on : e.channel ≡ input_word k = let at = link_found (input_word 0) e.channel k found in omega arith in
          let few : byte < 256 = h.kept k link byte is_there kept in
          on_link k link (record link { kept = None }) Ready (first_in byte) _ is_there refl
          (never_theirs k link (record link { kept = None }) is_there on) (λ b no'. absurd (cc))
          (ap (λ u. slice_set w.tasks p u) (sym (as_before l))) refl refl refl refl refl refl
          (first_own byte k few on)
          (subst (λ place. Lives m (held (row_of in_mine).role) (row_of in_mine).start
          (with_byte l.memory place (Some byte)) (behind Ready l) (row_of in_mine).due) (first_place e)
          (last_lives (behind (Receiving e) l) k on in_mine.lives byte few (eqb-true e.length 1 one)))
      moved_in after (receives_one e l k link byte found is_there kept more) =
          let on : e.channel ≡ input_word k = let at = link_found (input_word 0) e.channel k found in omega arith in
          let few : byte < 256 = h.kept k link byte is_there kept in
          on_link k link (record link { kept = None; waiting = Some p }) (OnLink e 1) (first_in byte) _ is_there refl
          (never_theirs k link (record link { kept = None; waiting = Some p }) is_there on) (λ b no'. absurd (cc))
          refl refl refl refl refl refl refl (first_own byte k few on)
          (subst (λ place. Lives m (held (row_of in_mine).role) (row_of in_mine).start
          (with_byte l.memory place (Some byte)) (behind (OnLink e 1) l) (row_of in_mine).due) (first_place e)
          (second_lives (behind (Receiving e) l) k on in_mine.lives byte few some))

    -- ---- a message that goes

    module _ (talks : Talks m (held (row_of r).role) (row_of r).start t Out e)
        (lives : Lives m (held (row_of r).role) (row_of r).start l.memory (behind (Sending e) l) later) where
      abbrev waiting_out : World
      waiting_out = stepped (Sending e) l

      out_holds : Holds m waiting_out
      out_holds = stepped_holds (Sending e) l later less changes lives

      out_there : slice_get waiting_out.tasks p ≡ Some (behind (Sending e) l)
      out_there = got_set w.tasks p t (behind (Sending e) l) r.here

      out_mine : Living m waiting_out out_holds p (behind (Sending e) l)
      out_mine = living m waiting_out out_holds p (behind (Sending e) l) (Sending e) out_there refl (λ e. cc) (λ e. cc)

      -- it goes out on a link
      pub emitted_holds : (k : ℕ) → output_link e.channel ≡ Some k
          → Holds m (counted (dispatch pick (leave (with_output k (record { waiting = Some p })
          (waiting here (OnLink e 0) l w)))))
      unfolding dispatch
      emitted_holds k found =
          let at = link_found (output_word 0) e.channel k found in
          let few = link_low (output_word 0) e.channel k found in
          turned m waiting_out out_holds (stepped_out (Sending e) l) p (behind (Sending e) l) out_mine unopened plain _
          (behind (OnLink e 0) l) l.memory (record {
            tasks = sym (set_twice w.tasks p (behind (Sending e) l) (behind (OnLink e 0) l));
            memory = refl;
            roles = refl;
            channels = channels_equal refl;
            kept = h.kept;
            fault = refl;
          }) (enabled_same refl refl (stepped_silent (Sending e) l)) nothing_changes refl refl
          (out_lives (behind (Sending e) l) (omega (arith, at, few)) out_mine.lives)

      -- it waits for one that receives, and the process that has enabled the channel is roused
      waits_to_send : (c : Channel) → channel_at w e.channel ≡ Some c → c.waiting ≡ None
          → Holds m (counted (dispatch pick (leave (rouse c.enabled (waits_at here (Sending e) e.channel c l w)))))
      unfolding dispatch
      waits_to_send c at none =
          let waits : World = waits_at here (Sending e) e.channel c l w in
          let holds = steps_to (Sending e) l later (counted waits) (record {
            tasks = refl;
            memory = refl;
            roles = refl;
            channels = channel_stays w.channels (cell_of e.channel) c (record c { waiting = Some p })
                (channel_there w e.channel c at) refl refl;
            kept = h.kept;
            fault = refl;
          }) (comes_first c at none refl refl) refl less changes lives in
          let out = still_out (counted waits) (behind (Sending e) l) refl refl refl
          (owner_same w.channels (cell_of e.channel)
          c (record c { waiting = Some p }) (channel_there w e.channel c at) refl) in
          let only = rouse_only c.enabled waits in
          roused_holds m (counted waits) holds out _ c.enabled (rouse c.enabled waits).tasks (record {
            memory = only.memory;
            roles = only.roles;
            links = only.links;
            channels = only.channels;
            counters = ap (λ (counters : Counters). record counters { executed = counters.executed + 1 }) only.counters;
            fault = only.fault;
            size = only.size;
          }) refl (rouses c.enabled waits) (λ q enabled. a_sender (cell_of e.channel) (record c { waiting = Some p }) p
          (behind (Sending e) l) e
          (got_set w.channels (cell_of e.channel) (Some c) (Some (record c { waiting = Some p }))
          (channel_there w e.channel c at)) enabled refl (got_set w.tasks p t (behind (Sending e) l) r.here) refl)

      -- it meets one that waits to receive
      meets_receiver : (q : ℕ) (wanted : Exchange) (c : Channel) → channel_at w e.channel ≡ Some c → c.waiting ≡ Some q
          → condition_of w q ≡ Receiving wanted → wanted.length ≡ e.length
          → Holds m (counted (met here q e wanted c l w))
      meets_receiver q wanted c at waiting is same =
          subst (λ x. Holds m (counted x)) (wake_is after_copy q u.0 waits)
          (turned m (counted on) on_holds
          (still_out (counted on) (behind_ready l) refl refl refl (λ k. refl)) q u.0 partner
          (waiter_unopened (Receiving wanted) u.0 q u.1 u.2 (λ e. cc) (λ e. cc))
          (calmly (Receiving wanted) u.0 q u.1 u.2 (λ e. cc) (λ e. cc))
          (counted (enqueue q (record after_copy {
            tasks = slice_set after_copy.tasks q (record u.0 { condition = Ready });
          }))) (record u.0 { condition = Ready }) copy (record {
            tasks = refl;
            memory = refl;
            roles = refl;
            channels = channel_stays w.channels (cell_of e.channel) c (record c { waiting = None }) cell refl refl;
            kept = h.kept;
            fault = refl;
          }) (record {
            channels = channel_set w.channels (cell_of e.channel) c (record c { waiting = None }) cell
                (λ s other is. is) (λ s other is. absurd (no_sender s is));
            links = links_same refl;
            silent = λ k d s x beside there enabled waits_there out. let no' = sym u.2 ∙ out in cc;
          }) (filled_changes u.0 e wanted (sym same) fits bytes u.2 partner.lives) refl refl
          (filled_lives u.0 e wanted (sym same) fits bytes u.2 partner.lives))
        where
          copy : Memory
          copy = copied l.memory (place_of e.address) (place_of wanted.address) e.length l.memory

          -- the sender goes on, before the copy
          on : World
          on = continued here (t.registers.at + 1) l w

          after_copy : World
          after_copy = with_channel e.channel (record c { waiting = None })
              (continued here (t.registers.at + 1) (record l { memory = copy }) w)

          u : (u : Task) × (slice_get w.tasks q ≡ Some u) × (u.condition ≡ Receiving wanted)
          u = wants_it w q (Receiving wanted) is (λ e. cc)

          other : p ≢ q
          other = another m wf w lawful h p t ready r unopened q u.0 (Receiving wanted) u.1 u.2 (λ e. cc)

          cell : slice_get w.channels (cell_of e.channel) ≡ Some (Some c)
          cell = channel_there w e.channel c at

          -- no process has enabled a channel where a process waits to receive
          no_sender : (s : ℕ) → c.enabled ≡ Some s → ⊥
          no_sender s enabled =
              let v = lawful.senders.at_channels (cell_of e.channel) c s q cell enabled waiting in
              let one = same_some (slice_get w.tasks q) v.task u.0 v.here u.1 in
              let no' = sym v.sends ∙ (ap (λ (y : Task). y.condition) one ∙ u.2) in
              cc

          bytes : (j : ℕ) → j < e.length → IsByte (byte_at l.memory (message_place e j))
          bytes j low = (out_mine.lives.sends e refl j low).1

          fits : length l.memory ≤ 1048576
          fits = let size = changes.own.size in omega (arith, small)

          on_holds : Holds m (counted on)
          on_holds =
              turned m waiting_out out_holds (stepped_out (Sending e) l) p (behind (Sending e) l) out_mine unopened
              plain
              (counted on) (behind_ready l) l.memory (record {
                tasks = sym (set_twice w.tasks p (behind (Sending e) l) (behind_ready l));
                memory = refl;
                roles = refl;
                channels = channels_equal refl;
                kept = h.kept;
                fault = refl;
              }) (enabled_same refl refl (stepped_silent (Sending e) l)) nothing_changes refl refl
              (subst (λ u. Lives m (held (row_of out_mine).role) (row_of out_mine).start l.memory u
              (row_of out_mine).due) (as_before l) (sent_lives (behind (Sending e) l) out_mine.lives))

          waits : slice_get on.tasks q ≡ Some u.0
          waits = got_other w.tasks p q (behind_ready l) other ∙ u.1

          partner : Living m (counted on) on_holds q u.0
          partner = living m (counted on) on_holds q u.0 (Receiving wanted) waits u.2 (λ e. cc) (λ e. cc)

      pub moved_out : (after : World) → Moved here w (sends e l) after → Holds m (counted after)
      moved_out after (sends_first e l c outside at none) = waits_to_send c at none
      moved_out after (sends_to e l c q wanted outside at waiting is same) =
          meets_receiver q wanted c at waiting is (eqb-true wanted.length e.length same)
