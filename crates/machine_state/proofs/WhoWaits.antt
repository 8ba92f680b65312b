-- Who waits on an internal channel is recorded there, and holds that end of it.
use Rattle.std.proofs.Common.{◌≡◌, ◌≢◌, ℕ, zero, suc, ◌+◌, Bool, true, false, if◌then◌else◌, inl, inr, List, [], ◌∷◌}
use Rattle.std.proofs.Common.{Option, Some, None, refl, sym, ap, ◌∙◌, subst, slice_get, arith, eqb-true}
use Rattle.std.proofs.lemmas.Bool.{cases_eq}
use Rattle.std.proofs.lemmas.Option.{slice_get_within}
use Rattle.std.specs.Prelude.{◌==◌, slice_set}
use Rattle.small_laws.proofs.Options.{same_some}
use Rattle.module_format.specs.Contents.{Contents, Par}
use Rattle.module_format.specs.declared.rows.Direction.{Direction}
use Rattle.module_format.specs.declared.rows.Direction.TheVariants.{In, Out}
use Rattle.module_format.specs.declared.rows.ChannelRow.{ChannelRow}
use Rattle.machine_state.specs.declared.holding.End.{End}
use Rattle.machine_state.specs.declared.link.InputLink.{InputLink}
use Rattle.machine_state.specs.declared.process.Channel.{Channel}
use Rattle.machine_state.specs.declared.process.Registers.{Registers}
use Rattle.machine_state.specs.declared.process.Task.{Task}
use Rattle.machine_state.specs.declared.process.Mode.{Mode}
use Rattle.machine_state.specs.declared.process.Mode.TheVariants.{Plain, Starting}
use Rattle.machine_state.specs.declared.process.Condition.{Condition}
use Rattle.machine_state.specs.declared.process.Condition.TheVariants.{Ready, Sending, Receiving, OnLink, Ended}
use Rattle.machine_state.specs.declared.process.Exchange.{Exchange}
use Rattle.machine_state.specs.Holding.{Holding, nothing, has_end}
use Rattle.machine_state.specs.World.{World, Links, Role, Join, held, holding_at, loaded, root_task}
use Rattle.machine_state.specs.Moves.{cell_of}
use Rattle.machine_state.specs.Turn.{Here, at_here}
use Rattle.machine_state.specs.Joins.{closed_task, with_channels, without_channels}
use Rattle.machine_state.specs.BranchShares.{frame_address}
use Rattle.machine_state.specs.Happens.{world_after}
use Rattle.machine_state.specs.ChannelLaws.{HaveTheirWaiters, WaitsTo, IsRecorded, AreRecorded, WhoWaitsIsRecorded}
use Rattle.machine_state.proofs.Lines.{got_set, got_other, set_either, got_either}
use Rattle.machine_state.proofs.Starting.{first_tests}
use Rattle.machine_state.proofs.MovesLeaveAlone.{with_opened, without, is_last}
use Rattle.machine_state.proofs.Waking.{ready_was, roused_was}
use Rattle.machine_state.specs.Endings.{plan_of}
use Rattle.machine_state.proofs.Waiting.{WaitsIn, reached}
use Rattle.machine_state.proofs.Among.{none_among}
use Rattle.machine_state.specs.Ownership.{IsAmong, Claim, to_use, claims, owner_in, owner_of, HoldersIn}
use Rattle.machine_state.specs.Roles.{own_in, opener_in, opened_in}
use Rattle.machine_state.proofs.Claims.{nothing_claimed, not_some}
use Rattle.machine_state.proofs.Owners.{row_addresses, new_owner}
use Rattle.machine_state.proofs.Holders.{now_claims, lent_by, reaches}
use Rattle.machine_state.proofs.Roles.{field_set, field_other, opened_is, opened_here, gives_back}
use Rattle.machine_state.proofs.StartedApart.{join_is_open, found_row}
use Rattle.machine_state.proofs.EndedApart.{reduced}
use Rattle.machine_state.proofs.ChannelWaiters.{IsCalm, calm_as, calm_ready, calm_link, calm_alternating, calm_ended}
use Rattle.machine_state.proofs.ChannelWaiters.{calm_stopped, same_channel, channels_have_their_waiters}
use Rattle.machine_state.proofs.OthersHold.{others_hold, smaller_holds}
use Rattle.machine_state.proofs.ApartLaws.{IsSmall, format_is_small, Stands, all_stand, own_role}
use Rattle.machine_state.proofs.Changes as change
use Rattle.machine_state.proofs.Changes.{Changed, Passed, Onward, Receives, Opening, GivesBack, Leaves, going, cell_is}
use Rattle.machine_state.proofs.Changes.{with_cell, onward_condition, running_is_ready, of_every_world}

-- ---- who waits on an internal channel

no_wait : (c : Condition) → IsCalm c → (d : Direction) (e : Exchange) → WaitsTo d c e → ⊥
no_wait c calm In e waits = calm e (inr waits)
no_wait c calm Out e waits = calm e (inl waits)

-- ---- channels that stay

pub kept_channel : (p base : ℕ) (rows : List ChannelRow) (cells : List (Option Channel)) (k : ℕ) (c : Channel)
    → slice_get cells k ≡ Some (Some c) → ((a : ℕ) → IsAmong a (row_addresses base rows) → cell_of a ≡ k → ⊥)
    → slice_get (with_channels p base rows cells) k ≡ Some (Some c)
kept_channel p base [] cells k c here none = here
kept_channel p base (row ∷ rows) cells k c here none = kept_channel p base rows
    (slice_set cells (cell_of (frame_address base row.word))
    (Some (record { opener = p; length = row.length; waiting = None; enabled = None }))) k c
    (got_other cells (cell_of (frame_address base row.word)) k _
    (λ e. none (frame_address base row.word) (inl refl) e) ∙ here)
    (λ a among cell. none a (inr among) cell)

pub left_still : (o : ℕ) (cells : List (Option Channel)) (k : ℕ) (c : Channel) → slice_get cells k ≡ Some (Some c)
    → c.opener ≢ o → slice_get (without_channels o cells) k ≡ Some (Some c)
left_still o [] k c here differ = absurd (cc)
left_still o (cell ∷ cells) (suc k) c here differ = left_still o cells k c here differ
left_still o (None ∷ cells) zero c here differ = absurd (cc)
left_still o (Some channel ∷ cells) zero c here differ = on (channel.opener == o) refl
  where
    same : channel ≡ c
    same = let e : Some (Some channel) ≡ Some (Some c) = here in cc

    on : (b : Bool) → (channel.opener == o) ≡ b
        → ◌≡◌ {A = Option (Option Channel)} (Some (if b then None else Some channel)) (Some (Some c))
    on true is = absurd (differ (ap (λ (x : Channel). x.opener) (sym same) ∙ eqb-true channel.opener o is))
    on false is = here

pub holding_now : (roles : List Role) (p : ℕ) → holding_at roles p
    ≡ elim (opened_in roles p) as (λ o. Holding) [ None ↦ own_in roles p | Some join ↦ join.rest ]
holding_now roles p = on (slice_get roles p)
  where
    on : (o : Option Role) → elim o as (λ o. Holding) [ None ↦ nothing | Some role ↦ held role ]
        ≡ elim (elim o as (λ o. Option Join) [ None ↦ None | Some role ↦ role.opened ]) as (λ o. Holding) [
          | None ↦ elim o as (λ o. Holding) [ None ↦ nothing | Some role ↦ role.own ]
          | Some join ↦ join.rest
        ]
    on None = refl
    on (Some role) = refl

only_receives : (e : Exchange) (g : Direction) (x : Exchange) → WaitsTo g (Receiving e) x → (g ≡ In) × (x ≡ e)
only_receives e In x waits = (refl, let same : e ≡ x = cc in sym same)
only_receives e Out x waits = absurd (cc)

only_sends : (e : Exchange) (g : Direction) (x : Exchange) → WaitsTo g (Sending e) x → (g ≡ Out) × (x ≡ e)
only_sends e In x waits = absurd (cc)
only_sends e Out x waits = (refl, let same : e ≡ x = cc in sym same)

-- ---- a member of a join ends

-- what the others have for good is theirs when it has given back what it held
back_apart : (m : Contents) (h : Here) (w : World) (o : ℕ) (roles : List Role) → HoldersIn m w.roles w.channels
    → GivesBack h w o roles → HoldersIn m roles w.channels
back_apart m h w o roles t change.itself = t
back_apart m h w o roles t (change.a_branch opener role here by none differ) =
    gives_back m w.roles w.channels t h.process role here none

-- and nothing is the process's
idle : (m : Contents) (h : Here) (w : World) (o : ℕ) (roles : List Role) → HoldersIn m w.roles w.channels
    → GivesBack h w o roles → (c : Claim) → opener_in roles h.process ≡ Some o
    → claims (own_in roles h.process) c ≡ true → ⊥
idle m h w o roles t change.itself c by claimed = let low = t.rises h.process h.process by in omega (arith, low)
idle m h w o roles t (change.a_branch opener role here mine none differ) c by claimed =
    nothing_claimed c (subst (λ (g : Holding). claims g c ≡ true) (field_set (λ (x : Role). x.own) nothing w.roles
    h.process role (record role { own = nothing }) here) claimed)

-- no other process holds an end of a channel of the join once no member is left
pub not_theirs : (m : Contents) (h : Here) (w : World) (o : ℕ) (roles : List Role) (x : Leaves h w o roles) (par : Par)
    → HoldersIn m w.roles w.channels → is_last h.process x.join ≡ true → (p : ℕ) (end : End) (c : Channel)
    → slice_get w.channels (cell_of end.address) ≡ Some (Some c) → has_end (holding_at roles p) end ≡ true → o ≢ p
    → c.opener ≢ o
not_theirs m h w o roles x par st none p end c at holds differ same =
    let t = back_apart m h w o roles st x.back in
    let fewer = without h.process x.join in
    let later = slice_set roles o (with_opened (Some fewer) x.role) in
    let t1 = reduced h m o x.join par (record w { roles = roles }) x.role t x.here x.is_open
    (idle m h w o roles st x.back) in
    let owned : owner_in w.channels (cell_of end.address) ≡ Some o =
    ap owner_of at ∙ ap (λ (n : ℕ). Some n) same in
    elim (now_claims t1 p (to_use end) (subst (λ (g : Holding). has_end g end ≡ true)
    (sym (smaller_holds h w o roles x p) ∙ holding_now later p) holds)) [
      | inl mine ↦
          let above = lent_by t1 p o end mine owned in
          let it = reaches t1 o p (to_use end) above mine in
          none_among fewer.members it.0 none (subst (λ (k : Join). IsAmong it.0 k.members)
          (same_some (opened_in later o) it.2.join fewer it.2.is_open
          (opened_here m roles w.channels t o x.role x.here (Some fewer))) it.2.member)
      | inr own ↦ differ (same_some (owner_in w.channels (cell_of end.address)) o p owned own.0)
    ]

-- ---- an instruction of the running process

module _ (h : Here) (w : World) (there : slice_get w.tasks h.process ≡ Some h.from) (keeps : WaitsIn w)
    (waiters : HaveTheirWaiters w.tasks w.channels) (small : IsSmall h.contents) (st : Stands h.contents w) where
  -- the channels of a first start lie in the places of no others
  pub kept_at_start : (cells : List (Option Channel)) → Opening h w cells → (k : ℕ) (c : Channel)
      → slice_get w.channels k ≡ Some (Some c) → slice_get cells k ≡ Some (Some c)
  kept_at_start cells change.by_later k c at = at
  kept_at_start cells (change.by_first target workspace found is none tests) k c at =
      let plan = plan_of h w found in
      let r = own_role h w there keeps waiters small st in
      let may = first_tests h.contents w.memory (holding_at w.roles h.process) plan found workspace tests in
      let row = found_row h.contents target found is in
      let words = small.words in
      let closed = sym (opened_is h.contents w.roles w.channels st.holders h.process r.0 r.1) ∙ none in
      let opens = join_is_open h.contents w.roles w.channels st.holders h.process r.0 r.1 closed st.size
      (omega (arith, words)) w.memory h.from.registers.workspace (st.even h.process h.from there) found row
      (small.rows found.row found.par row) may.1 in
      kept_channel h.process plan.base plan.par.channels w.channels k c at (λ a among cell.
      let inside = slice_get_within w.channels k (Some c) at in
      let mine = new_owner h.process plan.base plan.par.channels w.channels a among (omega (arith, inside, cell)) in
      let before : owner_in w.channels k ≡ Some c.opener = ap owner_of at in
      let theirs = opens.still k c.opener before in
      let cells = with_channels h.process plan.base plan.par.channels w.channels in
      let same = same_some (owner_in cells k) h.process c.opener
      (subst (λ n. owner_in cells n ≡ Some h.process) cell mine) theirs in
      let join_there = st.holders.opens k c.opener before in
      let z : None ≡ Some join_there.0 = sym none ∙ (ap (opened_in w.roles) same ∙ join_there.1) in cc)

module _ (h : Here) (w : World) (runs : w.queue.running ≡ Some h.process)
    (there : slice_get w.tasks h.process ≡ Some h.from) (keeps : WaitsIn w)
    (waiters : HaveTheirWaiters w.tasks w.channels) (small : IsSmall h.contents) (st : Stands h.contents w)
    (all : AreRecorded w.tasks w.roles w.channels) where
  calm_from : IsCalm h.from.condition
  calm_from = calm_as h.from.condition Ready (running_is_ready h w runs there keeps) calm_ready

  -- who waits while the process does not is another one, as it was
  was : (r : Registers) (mode : Mode) (c : Condition) → IsCalm c → (p : ℕ) (t : Task) (d : Direction) (e : Exchange)
      → slice_get (going h w r mode c) p ≡ Some t → WaitsTo d t.condition e
      → (h.process ≢ p) × (slice_get w.tasks p ≡ Some t)
  was r mode c calm p t d e here waits = elim (set_either w.tasks h.process _ p t here) [
    | inl new ↦ absurd (no_wait c calm d e (subst (λ (x : Task). WaitsTo d x.condition e) new.1 waits))
    | inr old ↦ old
  ]

  goes : (r : Registers) (mode : Mode) (c : Condition) → IsCalm c
      → AreRecorded (going h w r mode c) w.roles w.channels
  goes r mode c calm p t d e here waits = all p t d e (was r mode c calm p t d e here waits).1 waits

  -- one channel was changed, and has the same waiter as before
  kept_there : (address : ℕ) (old new : Channel) → cell_is w address old → new.waiting ≡ old.waiting
      → (p : ℕ) (d : Direction) (e : Exchange) → IsRecorded w.roles w.channels p d e
      → IsRecorded w.roles (with_cell w address new) p d e
  kept_there address old new is same p d e x = elim (cases_eq (cell_of address) (cell_of e.channel)) [
    | inl cell ↦
        let one : Some old ≡ Some x.channel = same_some (slice_get w.channels (cell_of e.channel)) (Some old)
        (Some x.channel) (subst (λ n. slice_get w.channels n ≡ Some (Some old)) cell is) x.here in
        let it : old ≡ x.channel = cc in
        record {
          channel = new;
          here = subst (λ n. slice_get (with_cell w address new) n ≡ Some (Some new)) cell
              (got_set w.channels (cell_of address) (Some old) (Some new) is);
          waiting = same ∙ (ap (λ (c : Channel). c.waiting) it ∙ x.waiting);
          end = x.end;
        }
    | inr differ ↦ record {
      channel = x.channel;
      here = got_other w.channels (cell_of address) (cell_of e.channel) (Some new) differ ∙ x.here;
      waiting = x.waiting;
      end = x.end;
    }
  ]

  goes_with : (r : Registers) (mode : Mode) (address : ℕ) (old new : Channel) → cell_is w address old
      → new.waiting ≡ old.waiting
      → AreRecorded (going h w r mode h.from.condition) w.roles (with_cell w address new)
  goes_with r mode address old new is same p t d e here waits = kept_there address old new is same p d e
      (all p t d e (was r mode h.from.condition calm_from p t d e here waits).1 waits)

  -- a channel was changed that is another one's, or no process's
  elsewhere : (k : ℕ) (old : Channel) (new : Option Channel) → slice_get w.channels k ≡ Some (Some old)
      → (p : ℕ) (d : Direction) (e : Exchange) → (old.waiting ≡ Some p → ⊥) → IsRecorded w.roles w.channels p d e
      → IsRecorded w.roles (slice_set w.channels k new) p d e
  elsewhere k old new at p d e never x = elim (cases_eq k (cell_of e.channel)) [
    | inl cell ↦ absurd (
        let one : Some old ≡ Some x.channel = same_some (slice_get w.channels (cell_of e.channel)) (Some old)
        (Some x.channel) (subst (λ n. slice_get w.channels n ≡ Some (Some old)) cell at) x.here in
        let it : old ≡ x.channel = cc in
        never (ap (λ (c : Channel). c.waiting) it ∙ x.waiting))
    | inr differ ↦ record {
      channel = x.channel;
      here = got_other w.channels k (cell_of e.channel) new differ ∙ x.here;
      waiting = x.waiting;
      end = x.end;
    }
  ]

  -- it waits on a channel where no process did
  waits_there : (r : Registers) (a : Condition) (d : Direction) (e : Exchange) → WaitsTo d a e
      → ((g : Direction) (x : Exchange) → WaitsTo g a x → (g ≡ d) × (x ≡ e))
      → has_end (holding_at w.roles h.process) (record { address = e.channel; direction = d }) ≡ true → (c : Channel)
      → cell_is w e.channel c → c.waiting ≡ None
      → AreRecorded (going h w r h.from.mode a) w.roles
      (with_cell w e.channel (record c { waiting = Some h.process }))
  waits_there r a d e waits only held c at nobody p t g x here told =
      let new = record c { waiting = Some h.process } in
      let later = with_cell w e.channel new in
      elim (set_either w.tasks h.process (record { registers = r; mode = h.from.mode; condition = a }) p t here) [
        | inl it ↦
            let same = only g x (subst (λ (y : Task). WaitsTo g y.condition x) it.1 told) in
            subst (λ n. IsRecorded w.roles later n g x) it.0
            (subst (λ (y : Exchange). IsRecorded w.roles later h.process g y) (sym same.1)
            (subst (λ (f : Direction). IsRecorded w.roles later h.process f e) (sym same.0) (record {
              channel = new;
              here = got_set w.channels (cell_of e.channel) (Some c) (Some new) at;
              waiting = refl;
              end = held;
            })))
        | inr old ↦ elsewhere (cell_of e.channel) c (Some new) at p g x (λ other. not_some p (sym nobody ∙ other))
            (all p t g x old.1 told)
      ]

  -- it meets the one that waits
  meets : (r : Registers) (other source : ℕ) (c : Channel) (u : Task) → u.condition ≡ Ready → cell_is w source c
      → c.waiting ≡ Some other
      → AreRecorded (slice_set (going h w r h.from.mode h.from.condition) other u) w.roles
      (with_cell w source (record c { waiting = None }))
  meets r other source c u ready at partner p t d e here waits =
      let woken = ready_was (λ c. WaitsTo d c e) (no_wait Ready calm_ready d e)
      (going h w r h.from.mode h.from.condition) other u ready p t here waits in
      elsewhere (cell_of source) c (Some (record c { waiting = None })) at p d e
      (λ mine. woken.0 (same_some c.waiting other p partner mine))
      (all p t d e (was r h.from.mode h.from.condition calm_from p t d e woken.1 waits).1 waits)

  -- who was recorded is so still, where it holds what it did and channels stay
  stay : (ts : List Task) (rs : List Role) (cs : List (Option Channel)) (ls : Links) → Changed h w ts rs cs ls
      → (p : ℕ) (t : Task) (d : Direction) (e : Exchange) → slice_get w.tasks p ≡ Some t → h.process ≢ p
      → WaitsTo d t.condition e → ((c : Channel) → slice_get w.channels (cell_of e.channel) ≡ Some (Some c)
      → has_end (holding_at rs p) (record { address = e.channel; direction = d }) ≡ true
      → slice_get cs (cell_of e.channel) ≡ Some (Some c)) → IsRecorded rs cs p d e
  stay ts rs cs ls change p t d e here differ waits kept =
      let x = all p t d e here waits in
      let holds = subst (λ (g : Holding). has_end g (record { address = e.channel; direction = d }) ≡ true)
      (sym ((others_hold h w keeps ts rs cs ls change).others p t here differ (λ over.
      no_wait t.condition (calm_as t.condition Ended over calm_ended) d e waits))) x.end in
      record { channel = x.channel; here = kept x.channel x.here holds; waiting = x.waiting; end = holds }

  calm_onward : (mode : Mode) (c : Condition) → Onward h w mode c → IsCalm c
  calm_onward = onward_condition IsCalm h w calm_from calm_stopped calm_alternating

  calm_receives : (e : Exchange) (link new : InputLink) (c : Condition) → Receives h e link c new → IsCalm c
  calm_receives e link new c (change.no_byte none) = calm_link e 0
  calm_receives e link new c change.the_last = calm_from
  calm_receives e link new c change.one_of_more = calm_link e 1

  changed : (ts : List Task) (rs : List Role) (cs : List (Option Channel)) (ls : Links) → Changed h w ts rs cs ls
      → AreRecorded ts rs cs
  changed ts rs cs ls (change.goes_on r mode c x) = goes r mode c (calm_onward mode c x)
  changed ts rs cs ls (change.waits_to_receive r e c is holds at none) =
      waits_there r (Receiving e) In e refl (only_receives e) holds c at none
  changed ts rs cs ls (change.waits_to_send r e c tasks is holds at none roused) = λ p t d x here waits.
      let before = roused_was (λ c. WaitsTo d c x) (no_wait Ready calm_ready d x)
      (going h w r h.from.mode (Sending e)) tasks c.enabled roused p t here waits in
      waits_there r (Sending e) Out e refl (only_sends e) holds c at none p before.0 d x before.1 before.2
  changed ts rs cs ls (change.meets_sender r e sent c other is holds at waits x) =
      let cell = same_channel w other (cell_of e.channel) sent (waiters (cell_of e.channel) c other at waits)
      (ap (λ (o : Option Task). elim o as (λ o. Condition) [ None ↦ Ready | Some task ↦ task.condition ]) x.here
      ∙ x.waits) in
      meets r other sent.channel c (record x.task { condition = Ready }) refl
      (subst (λ k. slice_get w.channels k ≡ Some (Some c)) (sym cell) at) waits
  changed ts rs cs ls (change.meets_receiver r e wanted c other is holds at waits x) =
      meets r other e.channel c (record x.task { condition = Ready }) refl at waits
  changed ts rs cs ls (change.receives_outside r e k link new c is holds word here receives) =
      goes r h.from.mode c (calm_receives e link new c receives)
  changed ts rs cs ls (change.sends_outside r e k is holds word low) = goes r h.from.mode (OnLink e 0) (calm_link e 0)
  changed ts rs cs ls (change.starts r role j own child cells is here plain awake opening) = λ p t d e at waits.
      elim (got_either (going h w r Starting h.from.condition) child p t at) [
        | inl old ↦
            let before = was r Starting h.from.condition calm_from p t d e old waits in
            stay ts rs cs ls (change.starts r role j own child cells is here plain awake opening) p t d e before.1
            before.0 waits (λ c found holds.
            kept_at_start h w there keeps waiters small st cells opening (cell_of e.channel) c found)
        | inr last ↦ absurd (no_wait t.condition (calm_as t.condition Ready
            (ap (λ (y : Task). y.condition) last.1 ∙ awake) calm_ready) d e waits)
      ]
  changed ts rs cs ls (change.leaves_join r o roles x some) = λ p t d e at waits.
      let before = was r Plain Ended calm_ended p t d e at waits in
      stay ts rs cs ls (change.leaves_join r o roles x some) p t d e before.1 before.0 waits (λ c there holds. there)
  changed ts rs cs ls (change.closes_join r o roles x none par t here over) = λ p u d e at waits.
      let woken = ready_was (λ c. WaitsTo d c e) (no_wait Ready calm_ready d e) (going h w r Plain Ended) o
      (closed_task x.join par t) refl p u at waits in
      let before = was r Plain Ended calm_ended p u d e woken.1 waits in
      stay ts rs cs ls (change.closes_join r o roles x none par t here over) p u d e before.1 before.0 waits
      (λ c there holds. left_still o w.channels (cell_of e.channel) c there
      (not_theirs h.contents h w o roles x par st.holders none p (record { address = e.channel; direction = d }) c there
      (subst (λ (g : Holding). has_end g (record { address = e.channel; direction = d }) ≡ true)
      (field_other held nothing roles o (with_opened None x.role) p woken.0) holds) woken.0))
  changed ts rs cs ls (change.enables_a_channel r address c is holds at once) =
      goes_with r _ address c (record c { enabled = Some h.process }) at refl
  changed ts rs cs ls (change.enables_a_link r k link is holds here once) = goes r _ h.from.condition calm_from
  changed ts rs cs ls (change.disables_a_channel r mode address c is further at mine) =
      goes_with r mode address c (record c { enabled = None }) at refl
  changed ts rs cs ls (change.disables_a_link r mode k link is further here mine) =
      goes r mode h.from.condition calm_from

-- ---- every event

module _ (m : Contents) (small : IsSmall m) (w : World) (keeps : WaitsIn w)
    (waiters : HaveTheirWaiters w.tasks w.channels) (st : Stands m w)
    (all : AreRecorded w.tasks w.roles w.channels) where
  -- a task was changed, which does not wait on a channel afterwards
  calms : (p : ℕ) (u : Task) → IsCalm u.condition → AreRecorded (slice_set w.tasks p u) w.roles w.channels
  calms p u calm q t d e here waits = elim (set_either w.tasks p u q t here) [
    | inl new ↦ absurd (no_wait u.condition calm d e (subst (λ (y : Task). WaitsTo d y.condition e) new.1 waits))
    | inr old ↦ all q t d e old.1 waits
  ]

  passed : (ts : List Task) (rs : List Role) (cs : List (Option Channel)) (ls : Links) → Passed m w ts rs cs ls
      → AreRecorded ts rs cs
  passed ts rs cs ls change.nothing_happens = all
  passed ts rs cs ls (change.it_runs p pick task runs here x) =
      changed (at_here m p task pick) w runs here keeps waiters small st all ts rs cs ls x
  passed ts rs cs ls (change.fills_last p k link here waiting x) = calms p _ calm_ready
  passed ts rs cs ls (change.fills_more p k x) = calms p _ (calm_link x.exchange (x.done + 1))
  passed ts rs cs ls (change.keeps_byte k byte link tasks here empty roused) = λ p t d e at waits.
      let before = roused_was (λ c. WaitsTo d c e) (no_wait Ready calm_ready d e) w.tasks tasks link.enabled roused p t
      at waits in
      all p before.0 d e before.1 before.2
  passed ts rs cs ls (change.acknowledges p k link here waiting x) = calms p _ calm_ready

loaded_recorded : (m : Contents) → AreRecorded (loaded m).tasks (loaded m).roles (loaded m).channels
loaded_recorded m zero t d e here waits =
    let same : root_task m ≡ t = cc in
    let ready = sym (ap (λ (x : Task). x.condition) same) in
    absurd (no_wait t.condition (calm_as t.condition Ready ready calm_ready) d e waits)
loaded_recorded m (suc p) t d e here waits = absurd (cc)

pub who_waits_is_recorded : WhoWaitsIsRecorded
who_waits_is_recorded m es format =
    let small = format_is_small m format in
    of_every_world m (λ ts rs cs ls. AreRecorded ts rs cs) (loaded_recorded m)
    (λ es ts rs cs ls all x. passed m small (world_after m es) (reached m es) (channels_have_their_waiters m es)
    (all_stand m small es) all ts rs cs ls x) es
