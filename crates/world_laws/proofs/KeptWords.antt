-- What open joins keep is undefined, in every world.
use Rattle.std.proofs.Common.{◌≡◌, ℕ, zero, suc, ◌+◌, ◌/◌, ◌<◌, ◌≤◌, true, false, ◌⊎◌, inl, inr, pos, List, [], ◌∷◌}
use Rattle.std.proofs.Common.{◌++◌, length, Option, Some, None, is_some, refl, sym, ap, ◌∙◌, subst, slice_get, arith}
use Rattle.std.proofs.Common.{eqb-true}
use Rattle.std.proofs.lemmas.Bool.{cases_lt, and_parts}
use Rattle.std.specs.Prelude.{◌%◌, slice_set}
use Rattle.small_laws.proofs.Options.{same_some}
use Rattle.module_format.specs.Contents.{Contents, Par}
use Rattle.module_format.specs.Keeping.{Keeps}
use Rattle.module_format.specs.declared.rows.ChannelRow.{ChannelRow}
use Rattle.machine_state.specs.declared.event.Event.{Event}
use Rattle.machine_state.specs.declared.process.Channel.{Channel}
use Rattle.machine_state.specs.declared.process.Condition.TheVariants.{Sending}
use Rattle.machine_state.specs.declared.process.Mode.TheVariants.{Starting}
use Rattle.machine_state.specs.BranchShares.{frame_address, holding_of}
use Rattle.machine_state.specs.ChannelLaws.{HaveTheirWaiters}
use Rattle.machine_state.specs.Endings.{Moved, TurnsInto, Happened, plan_of}
use Rattle.machine_state.specs.Endings as turns
use Rattle.machine_state.specs.Exchanges.{waits_at}
use Rattle.machine_state.specs.Happens.{turn, world_after}
use Rattle.machine_state.specs.Holding.{Holding, nothing, may_write, may_read, may_write_word}
use Rattle.machine_state.specs.JoinLookups.{Found}
use Rattle.machine_state.specs.Joins.{on_role, member_joined, started, opened, ended, given_back, join_after}
use Rattle.machine_state.specs.Joins.{without_words}
use Rattle.machine_state.specs.Joins.{closed_task, with_channels}
use Rattle.machine_state.specs.Memory.{Memory, place_of, byte_at, with_word}
use Rattle.machine_state.specs.Moves.{cell_of, on_task, dispatch, link_index}
use Rattle.machine_state.specs.Ownership.{InBlock, IsAmong, KeepsPlace, in_block, in_channel, owner_in, owner_of}
use Rattle.machine_state.specs.Ownership.{HoldersIn}
use Rattle.machine_state.specs.Roles.{opened_in, branch_role}
use Rattle.machine_state.specs.Site.{Local, Outcome}
use Rattle.machine_state.specs.StartPlans.{Plan, later_plan, share_by, block_addresses, channel_addresses}
use Rattle.machine_state.specs.StartPlans.{scheduling_addresses}
use Rattle.machine_state.specs.Turn.{Here, Turn, at_here, between}
use Rattle.machine_state.specs.World.{World, Role, Join, holding_at, loaded}
use Rattle.machine_state.proofs.ApartLaws.{all_stand, format_is_small, AllEven}
use Rattle.machine_state.proofs.Changes.{channel_there}
use Rattle.machine_state.proofs.ChannelWaiters.{same_channel, channels_have_their_waiters}
use Rattle.machine_state.proofs.Claims.{written_is_read}
use Rattle.machine_state.proofs.EvenWords.{even_local, even_base, even_place, next_place, in_word}
use Rattle.machine_state.proofs.EveryWorld.{every_world}
use Rattle.machine_state.proofs.Holders.{kept_is_free}
use Rattle.machine_state.proofs.Lines.{set_either, got_either}
use Rattle.machine_state.proofs.MovesLeaveAlone.{on_role_only, on_task_only, wake_only, rouse_only, chooses}
use Rattle.machine_state.proofs.MovesLeaveAlone.{joined_either}
use Rattle.machine_state.proofs.MovesLeaveAlone.{with_opened, without, member_gone, OnlyRoles}
use Rattle.machine_state.proofs.Owners.{owner_same, made_owner, Made, row_addresses, taken_owner}
use Rattle.machine_state.proofs.Roles.{told_of, field_at, field_same}
use Rattle.machine_state.proofs.StartedApart.{found_row}
use Rattle.machine_state.proofs.Starting.{first_tests}
use Rattle.machine_state.proofs.Turns.{turn_happens}
use Rattle.world_laws.specs.KeptWords.{IsBlankData, BlocksAreBlank, ChannelWordsAreBlank}
use Rattle.world_laws.specs.Parked.{InWord, on_channel}
use Rattle.world_laws.proofs.BlankWords.{blank_word, word_own}
use Rattle.world_laws.proofs.Filling.{fill_only}
use Rattle.world_laws.proofs.HeldNow.{now_is}
use Rattle.world_laws.proofs.ParkedLaws.{ground, all_parked}
use Rattle.world_laws.proofs.ParkedSteps.{Ground, arrives_inside}
use Rattle.world_laws.proofs.Reaching.{Reaches, by_runner, by_message, by_arrival, stays}

abbrev Kept : List Role → List (Option Channel) → ℕ → ℕ → Type 0
Kept roles cells p x = KeepsPlace (opened_in roles) (owner_in cells) p x

-- ---- words that are taken

-- a byte of one of them, or one that was undefined
blank_words : (addresses : List ℕ) (m : Memory) (x : ℕ)
    → ((a : ℕ) × IsAmong a addresses × InWord (place_of a) x) ⊎ (byte_at m x ≡ None)
    → byte_at (without_words addresses m) x ≡ None
blank_words [] m x (inl there) = absurd there.1
blank_words [] m x (inr none) = none
blank_words (a ∷ addresses) m x (inr none) =
    blank_words addresses (with_word m (place_of a) None) x (inr (blank_word m (place_of a) x (inr none)))
blank_words (a ∷ addresses) m x (inl (b, inl here, inside)) =
    blank_words addresses (with_word m (place_of a) None) x (inr (blank_word m (place_of a) x
    (inl (subst (λ n. InWord (place_of n) x) (sym here) inside))))
blank_words (a ∷ addresses) m x (inl (b, inr there, inside)) =
    blank_words addresses (with_word m (place_of a) None) x (inl (b, there, inside))

row_even : (base : ℕ) (rows : List ChannelRow) (a : ℕ) → base % 4 ≡ 0 → IsAmong a (row_addresses base rows) → a % 4 ≡ 0
row_even base [] a even among = absurd among
row_even base (c ∷ rows) a even (inl here) = subst (λ n. n % 4 ≡ 0) here (even_local base c.word even)
row_even base (c ∷ rows) a even (inr there) = row_even base rows a even there

-- ---- which joins are open once a role was changed

pub on_role_tells : (q : ℕ) (f : Role → Role) (w : World) (p : ℕ) (j : Join)
    → opened_in (on_role q f w).roles p ≡ Some j
    → (opened_in w.roles p ≡ Some j)
    ⊎ ((r : Role) × (slice_get w.roles q ≡ Some r) × (q ≡ p) × ((f r).opened ≡ Some j))
on_role_tells q f w p j = on (slice_get w.roles q) refl
  where
    on : (o : Option Role) → slice_get w.roles q ≡ o → opened_in (elim o as (λ o. World)
        [ None ↦ w | Some role ↦ record w { roles = slice_set w.roles q (f role) } ]).roles p ≡ Some j
        → (opened_in w.roles p ≡ Some j)
        ⊎ ((r : Role) × (slice_get w.roles q ≡ Some r) × (q ≡ p) × ((f r).opened ≡ Some j))
    on None here is = inl is
    on (Some r) here is =
        let x = told_of (λ (r : Role). r.opened) (slice_set w.roles q (f r)) p j is in
        elim (set_either w.roles q (f r) p x.0 x.1) [
          | inl new ↦ inr (r, here, new.0, ap (λ (r : Role). r.opened) (sym new.1) ∙ x.2)
          | inr old ↦ inl (field_at (λ (r : Role). r.opened) None w.roles p x.0 old.1 ∙ x.2)
        ]

pub pushed_tells : (roles : List Role) (new : Role) (p : ℕ) (j : Join) → new.opened ≡ None
    → opened_in (roles ++ new ∷ []) p ≡ Some j → opened_in roles p ≡ Some j
pushed_tells roles new p j shut is =
    let x = told_of (λ (r : Role). r.opened) (roles ++ new ∷ []) p j is in
    elim (got_either roles new p x.0 x.1) [
      | inl old ↦ field_at (λ (r : Role). r.opened) None roles p x.0 old ∙ x.2
      | inr last ↦
          absurd (let z : None ≡ Some j = sym shut ∙ (ap (λ (r : Role). r.opened) (sym last.1) ∙ x.2) in cc)
    ]

-- a role was changed that has the same open
pub opened_kept : (q : ℕ) (f : Role → Role) (w : World) → ((r : Role) → (f r).opened ≡ r.opened) → (p : ℕ)
    → opened_in (on_role q f w).roles p ≡ opened_in w.roles p
opened_kept q f w kept p = on (slice_get w.roles q) refl
  where
    on : (o : Option Role) → slice_get w.roles q ≡ o → opened_in (elim o as (λ o. World)
        [ None ↦ w | Some role ↦ record w { roles = slice_set w.roles q (f role) } ]).roles p ≡ opened_in w.roles p
    on None here = refl
    on (Some r) here = field_same (λ (r : Role). r.opened) None w.roles q r (f r) here (kept r) p

-- the block of each join that is open was that of one that was
abbrev Blocks : List Role → List Role → Type 0
Blocks roles later = (p : ℕ) (j : Join) → opened_in later p ≡ Some j
    → (i : Join) × (opened_in roles p ≡ Some i) × (i.block ≡ j.block)

on_role_blocks : (q : ℕ) (f : Role → Role) (w : World)
    → ((r : Role) (j : Join) → slice_get w.roles q ≡ Some r → (f r).opened ≡ Some j
    → (i : Join) × (opened_in w.roles q ≡ Some i) × (i.block ≡ j.block)) → Blocks w.roles (on_role q f w).roles
on_role_blocks q f w kept p j is = elim (on_role_tells q f w p j is) [
  | inl old ↦ (j, old, refl)
  | inr new ↦
      let x = kept new.0 j new.1 new.3 in
      (x.0, subst (λ n. opened_in w.roles n ≡ Some x.0) new.2 x.1, x.2)
]

blocks_more : (a b c : List Role) → Blocks a b → Blocks b c → Blocks a c
blocks_more a b c first second p j is =
    let y = second p j is in
    let x = first p y.0 y.1 in
    (x.0, x.1, x.2 ∙ y.2)

-- what is kept was kept
kept_before : (roles later : List Role) (cells after : List (Option Channel)) → Blocks roles later
    → ((k p : ℕ) → owner_in after k ≡ Some p → owner_in cells k ≡ Some p) → (p x : ℕ) → Kept later after p x
    → Kept roles cells p x
kept_before roles later cells after blocks owners p x (in_block j is inside) =
    let i = blocks p j is in
    in_block i.0 i.1 (subst (λ b. (place_of b ≤ x) × (x < place_of b + 8)) (sym i.2) inside)
kept_before roles later cells after blocks owners p x (in_channel owned) = in_channel (owners (x / 4) p owned)

module _ (w : World) where
  -- roles are as they were, and one channel has the same opener
  recelled : (address : ℕ) (old new : Channel) → slice_get w.channels (cell_of address) ≡ Some (Some old)
      → new.opener ≡ old.opener → (p x : ℕ) → Kept w.roles (slice_set w.channels (cell_of address) (Some new)) p x
      → Kept w.roles w.channels p x
  recelled address old new here same = kept_before w.roles w.roles w.channels _ (λ p j is. (j, is, refl))
      (λ k p is. sym (owner_same w.channels (cell_of address) old new here same k) ∙ is)

  -- what is kept after a move was kept, or is blank now
  abbrev StillKept : World → Type 0
  StillKept v = (p x : ℕ) → Kept v.roles v.channels p x → Kept w.roles w.channels p x ⊎ (byte_at v.memory x ≡ None)

  as_kept : (v : World) (roles : List Role) (cells : List (Option Channel)) → v.roles ≡ roles → v.channels ≡ cells
      → ((p x : ℕ) → Kept roles cells p x → Kept w.roles w.channels p x) → StillKept v
  as_kept v roles cells as_roles as_cells kept p x k = inl (kept p x
      (subst (λ (rs : List Role). Kept rs cells p x) as_roles
      (subst (λ (cs : List (Option Channel)). Kept v.roles cs p x) as_cells k)))

  as_it_was : (p x : ℕ) → Kept w.roles w.channels p x → Kept w.roles w.channels p x
  as_it_was p x k = k

module _ (h : Here) (w : World) where
  -- ---- a member of a join ends

  joins : (o : ℕ) (j : Join) (par : Par) (v : World) → v.channels ≡ w.channels → Blocks w.roles v.roles
      → opened_in v.roles o ≡ Some j → StillKept w (member_joined h o j par v)
  unfolding dispatch
  joins o j par v cells before is =
      joined_either (StillKept w) h o j par v (λ none.
      let shut = on_role_only o (with_opened None) (on_task o (closed_task j par) gone) in
      let over = on_task_only o (closed_task j par) gone in
      λ p x k. inl (kept_before w.roles _ w.channels _
      (blocks_more w.roles gone.roles _ fewer (subst (λ (rs : List Role). Blocks rs
      (on_role o (with_opened None) (on_task o (closed_task j par) gone)).roles)
      over.roles
      (on_role_blocks o (with_opened None) (on_task o (closed_task j par) gone) (λ r i here none. absurd (cc)))))
      (λ n q owned. subst (λ (cs : List (Option Channel)). owner_in cs n ≡ Some q)
      (shut.channels ∙ (over.channels ∙ (only.channels ∙ cells)))
      (taken_owner o _ n q owned).0) p x k))
      (λ some p x k. inl (kept_before w.roles gone.roles w.channels gone.channels fewer
      (λ n q owned. subst (λ (cs : List (Option Channel)). owner_in cs n ≡ Some q) (only.channels ∙ cells) owned)
      p x k))
    where
      gone : World
      gone = member_gone h o j v

      only : OnlyRoles v gone
      only = on_role_only o (with_opened (Some (without h.process j))) v

      fewer : Blocks w.roles gone.roles
      fewer = blocks_more w.roles v.roles gone.roles before
          (on_role_blocks o (with_opened (Some (without h.process j))) v
          (λ r i here opened. (j, is, let z : without h.process j ≡ i = cc in ap (λ (y : Join). y.block) z)))

  -- ---- a branch starts

  module _ (plan : Plan) (found : Found) (workspace : ℕ) (l : Local) (cells : List (Option Channel)) where
    abbrev before : World
    before = record w {
      memory = without_words (scheduling_addresses workspace) l.memory;
      tasks = slice_set w.tasks h.process (record h.from { registers = between h.next l.registers; mode = Starting });
      channels = cells;
    }

    abbrev new_join : Join
    new_join = join_after (length w.memory) plan found (length w.tasks)

    abbrev after : World
    after = started h plan found workspace l (record w { channels = cells })

    only : OnlyRoles before (on_role h.process (with_opened (Some new_join)) before)
    only = on_role_only h.process (with_opened (Some new_join)) before

    -- the join is one that was open, or the new one
    start_tells : (p : ℕ) (i : Join) → opened_in after.roles p ≡ Some i
        → (opened_in w.roles p ≡ Some i) ⊎ ((r : Role) × (slice_get w.roles h.process ≡ Some r) × (h.process ≡ p)
        × (Some new_join ≡ Some i))
    start_tells p i is =
        on_role_tells h.process (with_opened (Some new_join)) before p i
        (pushed_tells (on_role h.process (with_opened (Some new_join)) before).roles
        (branch_role h.process (holding_of h.contents (length w.memory) (share_by plan found.branch))) p i refl is)

    -- the block is that of the join that was open
    starts_later : (i : Join) → opened_in w.roles h.process ≡ Some i → i.block ≡ new_join.block → cells ≡ w.channels
        → StillKept w after
    starts_later i is block as_cells p x k = inl (kept_before w.roles after.roles w.channels after.channels
        (λ p n at. elim (start_tells p n at) [
          | inl old ↦ (n, old, refl)
          | inr new ↦ (
            i,
            subst (λ q. opened_in w.roles q ≡ Some i) new.2 is,
            block ∙ (let z : new_join ≡ n = (let y = new.3 in cc) in ap (λ (y : Join). y.block) z),
          )
        ])
        (λ n q owned. subst (λ (cs : List (Option Channel)). owner_in cs n ≡ Some q) (only.channels ∙ as_cells) owned)
        p x
        k)

    -- the words of the new block and of the new channels are blank
    starts_first : (base : ℕ) (rows : List ChannelRow) → cells ≡ with_channels h.process base rows w.channels
        → ((x : ℕ) → InBlock new_join x → byte_at l.memory x ≡ None)
        → ((x : ℕ) → Made h.process base rows (x / 4) h.process → byte_at l.memory x ≡ None) → StillKept w after
    starts_first base rows as_cells block made p x (in_block i is inside) = elim (start_tells p i is) [
      | inl old ↦ inl (in_block i old inside)
      | inr new ↦ inr (still x (block x (subst (λ (y : Join). InBlock y x)
          (let z : i ≡ new_join = (let y = new.3 in cc) in z) inside)))
    ]
      where
        still : (x : ℕ) → byte_at l.memory x ≡ None → byte_at after.memory x ≡ None
        still x none = subst (λ (y : Memory). byte_at y x ≡ None) (sym only.quiet.memory)
            (blank_words (scheduling_addresses workspace) l.memory x (inr none))
    starts_first base rows as_cells block made p x (in_channel owned) =
        elim (made_owner h.process base rows w.channels (x / 4) p
        (subst (λ (cs : List (Option Channel)). owner_in cs (x / 4) ≡ Some p) (only.channels ∙ as_cells) owned)) [
          | inl old ↦ inl (in_channel old)
          | inr new ↦ inr (subst (λ (y : Memory). byte_at y x ≡ None) (sym only.quiet.memory)
              (blank_words (scheduling_addresses workspace) l.memory x
              (inr (made x (subst (λ q. Made h.process base rows (x / 4) q) (sym new.owner) new)))))
        ]

  -- ---- by the way in which the world has moved

  module _ (there : slice_get w.tasks h.process ≡ Some h.from) (g : Ground w) (even : AllEven w.tasks)
      (waiters : HaveTheirWaiters w.tasks w.channels) (holders : HoldersIn h.contents w.roles w.channels) where
    abbrev hold : Holding
    hold = holding_at w.roles h.process

    -- the words of a new block, of which the first is data
    block_blank : (base : ℕ) (par : Par) (m : Memory)
        → may_write_word hold (place_of (frame_address base par.block)) ≡ true
        → (x : ℕ) → place_of (frame_address base par.block) ≤ x → x < place_of (frame_address base par.block) + 8
        → byte_at (without_words (block_addresses base par ++ channel_addresses base par) m) x ≡ None
    block_blank base par m own x low high =
        let block = frame_address base par.block in
        let small = g.data_alone h.process (place_of block) (word_own hold (place_of block) (place_of block) own
        (omega arith, omega arith)) in
        let second = next_place block small in
        blank_words (block_addresses base par ++ channel_addresses base par) m x (inl
        (elim (cases_lt x (place_of block + 4)) [
          | inl below ↦ (block, inl refl, (low, below))
          | inr above ↦ (
            frame_address block (pos 1),
            inr (inl refl),
            (omega (arith, second, above), omega (arith, second, high)),
          )
        ]))

    channel_blank : (base : ℕ) (par : Par) (m : Memory) → base % 4 ≡ 0 → (x : ℕ)
        → Made h.process base par.channels (x / 4) h.process
        → byte_at (without_words (block_addresses base par ++ channel_addresses base par) m) x ≡ None
    channel_blank base par m even_base x made =
        blank_words (block_addresses base par ++ channel_addresses base par) m x (inl (
          made.address,
          inr (inr made.among),
          in_word (place_of made.address) x
              (even_place made.address (row_even base par.channels made.address even_base made.among)) made.cell,
        ))

    moved : (o : Outcome) (v : World) → Moved h w o v → StillKept w v
    unfolding dispatch
    moved o v (turns.it_goes l) p x k = inl k
    moved o v (turns.it_jumps to l) p x k = inl k
    moved o v (turns.it_is_sliced to l) p x k = inl k
    moved o v (turns.it_lands to l) p x k = inl k
    moved o v (turns.it_stops l) p x k = inl k
    moved o v (turns.receives_first e l c inside here none) p x k =
        inl (recelled w e.channel c _ (channel_there w e.channel c here) refl p x k)
    moved o v (turns.receives_from e l c other sent inside here who is same) p x k =
        let at = channel_there w e.channel c here in
        let cell = same_channel w other (cell_of e.channel) sent (waiters (cell_of e.channel) c other at who) is in
        as_kept w v w.roles _ (wake_only other _).roles (wake_only other _).channels
        (recelled w sent.channel c (record c { waiting = None })
        (subst (λ n. slice_get w.channels n ≡ Some (Some c)) (sym cell) at) refl) p x k
    moved o v (turns.receives_none e l n link on here none) p x k = inl k
    moved o v (turns.receives_last e l n link byte on here kept one) p x k = inl k
    moved o v (turns.receives_one e l n link byte on here kept more) p x k = inl k
    moved o v (turns.sends_first e l c inside here none) p x k =
        as_kept w v w.roles _ (rouse_only c.enabled (waits_at h (Sending e) e.channel c l w)).roles
        (rouse_only c.enabled (waits_at h (Sending e) e.channel c l w)).channels
        (recelled w e.channel c (record c { waiting = Some h.process }) (channel_there w e.channel c here) refl) p x k
    moved o v (turns.sends_to e l c other wanted inside here who is same) p x k =
        as_kept w v w.roles _ (wake_only other _).roles (wake_only other _).channels
        (recelled w e.channel c (record c { waiting = None }) (channel_there w e.channel c here) refl) p x k
    moved o v (turns.starts_first target workspace l found is none tests) p x k =
        let plan = plan_of h w found in
        let may = (first_tests h.contents w.memory hold plan found workspace tests).1 in
        let words = and_parts _ _ may.held in
        let first = and_parts _ _ words.0 in
        starts_first plan found workspace (opened h plan l w).0 _ plan.base plan.par.channels refl
        (λ y inside. block_blank plan.base plan.par l.memory first.0 y inside.0 inside.1)
        (λ y made. channel_blank plan.base plan.par l.memory
        (even_base h.from.registers.workspace found.par.depth (even h.process h.from there)) y made) p x k
    moved o v (turns.starts_later target workspace l found j is is_open same tests) p x k =
        let at = holders.places h.process j is_open in
        let number : found.row ≡ j.row = eqb-true found.row j.row same in
        let par = same_some (slice_get h.contents.pars j.row) found.par at.par
        (subst (λ n. slice_get h.contents.pars n ≡ Some found.par) number (found_row h.contents target found is))
        at.row in
        starts_later (later_plan h.contents j found.par) found workspace l w.channels j is_open
        (at.block ∙ ap (λ (y : Par). frame_address j.base y.block) (sym par)) refl p x k
    moved o v (turns.joins_own block l j par is row whole) p x k =
        joins h.process j par (ended h l w) refl (λ q i at. (i, at, refl)) is p x k
    moved o v (turns.joins_opener block l opener j par none by is row same) p x k =
        let f : Role → Role = λ role. record role { own = nothing } in
        let there = ended h l w in
        joins opener j par (given_back h there) (on_role_only h.process f there).channels
        (on_role_blocks h.process f there (λ r i here at.
        (i, field_at (λ (r : Role). r.opened) None w.roles h.process r here ∙ at, refl)))
        (opened_kept h.process f there (λ r. refl) opener ∙ is) p x k
    moved o v (turns.it_begins l) p x k = inl k
    moved o v (turns.it_enables guard address l s holds (turns.on_channel c inside here) once) p x k =
        inl (recelled w address c (record c { enabled = Some h.process }) (channel_there w address c here) refl p x k)
    moved o v (turns.it_enables guard address l s holds (turns.on_link n link on here) once) p x k = inl k
    moved o v (turns.it_enables_nothing guard address l off) p x k = inl k
    moved o v (turns.it_enables_a_skip guard l) p x k = inl k
    moved o v (turns.it_is_ready l is) p x k = inl k
    moved o v (turns.it_waits l is) p x k = inl k
    moved o v (turns.it_disables guard address distance l s holds (turns.on_channel c inside here) own) p x k =
        inl (chooses h w l (λ (v : World). Kept v.roles (slice_set v.channels (cell_of address)
        (Some (record c { enabled = None }))) p x → Kept w.roles w.channels p x)
        (λ r mode m same further. recelled w address c (record c { enabled = None })
        (channel_there w address c here) refl p x) (is_some c.waiting) distance k)
    moved o v (turns.it_disables guard address distance l s holds (turns.on_link n link on here) own) p x k =
        inl (chooses h w l (λ (v : World). Kept v.roles v.channels p x → Kept w.roles w.channels p x)
        (λ r mode m same further k. k) (is_some link.kept) distance k)
    moved o v (turns.it_disables_nothing guard address distance l off) p x k =
        inl (chooses h w l (λ (v : World). Kept v.roles v.channels p x → Kept w.roles w.channels p x)
        (λ r mode m same further k. k) false distance k)
    moved o v (turns.it_disables_a_skip guard distance l) p x k =
        inl (chooses h w l (λ (v : World). Kept v.roles v.channels p x → Kept w.roles w.channels p x)
        (λ r mode m same further k. k) guard distance k)
    moved o v (turns.it_ends_alternation to l none) p x k = inl k

    ends : (o : Outcome) (t : Turn) → TurnsInto h w o t → StillKept w t.world
    unfolding dispatch
    ends o t (turns.at_fault refused) p x k = inl k
    ends o t (turns.has_run {after = v} moves) p x k = moved o v moves p x k
    ends o t (turns.has_emitted e l n on same) p x k = inl k

-- ---- every event

module _ (m : Contents) (w : World) (g : Ground w) (even : AllEven w.tasks)
    (waiters : HaveTheirWaiters w.tasks w.channels) (holders : HoldersIn m w.roles w.channels) where
  happened : (e : Event) (t : Turn) → Happened m w e t → StillKept w t.world
  unfolding dispatch
  happened e t (turns.was_at_fault f is) p x k = inl k
  happened e t (turns.it_rests rests) p x k = inl k
  happened e t (turns.is_outside n task why runs here) p x k = inl k
  happened e t (turns.is_prefix n task byte operand runs here at none it next) p x k = inl k
  happened e t (turns.is_step {pick = pick} n task byte f runs here at is so) p x k =
      ends (at_here m n task pick) w here g even waiters holders _ t so p x k
  happened e t (turns.is_taken {link = link} {byte = byte} input n here waiting) p x k =
      let only = fill_only n (link_index link) byte input w in
      as_kept w t.world w.roles w.channels only.roles only.channels (as_it_was w) p x k
  happened e t (turns.is_kept input here none empty) p x k =
      as_kept w t.world w.roles w.channels (rouse_only input.enabled _).roles (rouse_only input.enabled _).channels
      (as_it_was w) p x k
  happened e t (turns.is_acknowledged output n here waiting) p x k =
      as_kept w t.world w.roles w.channels (wake_only n _).roles (wake_only n _).channels (as_it_was w) p x k

  -- no process reaches what is kept
  unreached : (p x : ℕ) → Kept w.roles w.channels p x → Reaches w x → ⊥
  unreached p x k reaches = on reaches
    where
      free : (q : ℕ) → may_write (holding_at w.roles q) x ≡ true → ⊥
      free q own = kept_is_free holders p q x k (subst (λ (h : Holding). may_read h x ≡ true) (sym (now_is w.roles q))
          (written_is_read (holding_at w.roles q) x own))

      on : Reaches w x → ⊥
      on (by_runner q runs own) = free q own
      on (by_message q task e here is inside) =
          free q ((g.all q task here).buffer.writable e x (on_channel is) inside)
      on (by_arrival a) =
          let inside = arrives_inside w g x a in
          let buffer = (g.all a.process a.waits.task a.waits.here).buffer in
          free a.process (buffer.writable a.waits.exchange x inside.0 inside.1)

-- ---- every world

abbrev pub KeptIsBlank : World → Type 0
KeptIsBlank w = (p x : ℕ) → Kept w.roles w.channels p x → byte_at w.memory x ≡ None

-- no join is open at first
pub nothing_open : (m : Contents) (p : ℕ) (j : Join) → opened_in (loaded m).roles p ≡ Some j → ⊥
nothing_open m zero j is = cc
nothing_open m (suc p) j is = cc

module _ (m : Contents) (format : Keeps m) where
  pub all_kept : (es : List Event) → KeptIsBlank (world_after m es)
  all_kept = every_world m KeptIsBlank first (λ es e blank p x k.
      let w = world_after m es in
      let g = ground m format es (all_parked m format es) in
      let st = all_stand m (format_is_small m format) es in
      let waiters = channels_have_their_waiters m es in
      elim (happened m w g st.even waiters st.holders e (turn m w e) (turn_happens m w e) p x k) [
        | inl before ↦
            stays m es e x (unreached m w g st.even waiters st.holders p x before) ∙ blank p x before
        | inr none ↦ none
      ])
    where
      first : KeptIsBlank (loaded m)
      first p x (in_block j is inside) = absurd (nothing_open m p j is)
      first p x (in_channel owned) =
          let j = (all_stand m (format_is_small m format) []).holders.opens (x / 4) p owned in
          absurd (nothing_open m p j.0 j.1)

  pub kept_blank : (es : List Event) (p x : ℕ) → let w = world_after m es in Kept w.roles w.channels p x
      → IsBlankData m w.memory x
  kept_blank es p x k =
      let t = (all_stand m (format_is_small m format) es).holders in
      record { inside = t.inside p x (t.kept p x k); undefined = all_kept es p x k }

pub blocks_are_blank : BlocksAreBlank
blocks_are_blank m es p j x format is inside = kept_blank m format es p x (in_block j is inside)

pub channel_words_are_blank : ChannelWordsAreBlank
channel_words_are_blank m es k c x format here inside =
    let low = inside.0 in
    let high = inside.1 in
    let cell : k ≡ x / 4 = omega (arith, low, high) in
    kept_blank m format es c.opener x
    (in_channel (subst (λ n. owner_in (world_after m es).channels n ≡ Some c.opener) cell (ap owner_of here)))
