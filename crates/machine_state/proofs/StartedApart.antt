-- A start keeps holdings apart: what its tests say is what the invariant needs.
use Rattle.std.proofs.Common.{◌≡◌, ℕ, zero, suc, ◌+◌, ◌*◌, ◌/◌, ◌%◌, ◌^◌, ◌<◌, ◌≤◌, Bool, true, false, ◌⊎◌, inl, inr}
use Rattle.std.proofs.Common.{ℤ, pos, List, [], ◌∷◌, ◌++◌, length, Option, Some, None, refl, sym, ap, ◌∙◌, subst}
use Rattle.std.proofs.Common.{slice_get, arith, eqb-true}
use Rattle.std.proofs.lemmas.Bool.{cases_eq, cases_lt, and_parts}
use Rattle.std.proofs.lemmas.List.{length-set}
use Rattle.std.proofs.lemmas.Int.{ints, of_z-to_z}
use Rattle.std.specs.Prelude.{◌==◌, slice_set}
use Rattle.std.specs.List.{list_all}
use Rattle.std.specs.Int.{w32, cast_unsigned, cast_signed}
use Rattle.small_laws.proofs.Options.{same_some}
use Rattle.word_arithmetic.specs.Word.{least_word}
use Rattle.module_format.specs.Contents.{Contents, Par, Branch}
use Rattle.module_format.specs.declared.rows.ChannelRow.{ChannelRow}
use Rattle.machine_state.specs.declared.process.Channel.{Channel}
use Rattle.machine_state.specs.Memory.{Memory, data_start, place_of, local_address, word_at}
use Rattle.machine_state.specs.Holding.{Holding, nothing, may_write, may_read, may_write_word, has_end}
use Rattle.machine_state.specs.Spans.{Share, less, is_among_ends, all_pass_within}
use Rattle.machine_state.specs.World.{Role, Join, held, holding_at}
use Rattle.machine_state.specs.StartPlans.{Plan, block_addresses, channel_addresses, hidden, first_plan, share_by}
use Rattle.machine_state.specs.StartPlans.{share_is_there, ends_are_there, holds_word}
use Rattle.machine_state.specs.JoinLookups.{Found, found_from, found_in_row, found_at}
use Rattle.machine_state.specs.BranchShares.{frame_address, frame_base, holding_of}
use Rattle.machine_state.specs.Joins.{join_after, with_channels}
use Rattle.machine_state.proofs.Lines.{got_set}
use Rattle.machine_state.proofs.Starting.{MayStart, MayOpen}
use Rattle.machine_state.proofs.Among.{among_left, among_right, all_among}
use Rattle.machine_state.specs.Ownership.{IsAmong, Claim, to_write, to_read, to_use, claims, owner_in, InBlock}
use Rattle.machine_state.specs.Ownership.{KeepsPlace, in_block, in_channel, OwnEnd, HoldersIn}
use Rattle.machine_state.specs.Roles.{own_in, opener_in, opened_in}
use Rattle.machine_state.proofs.Claims.{IsBehind}
use Rattle.machine_state.proofs.Shares.{left_claims, given_claims, hidden_is_gone, end_among, end_held}
use Rattle.machine_state.proofs.Shares.{with_ends_tells}
use Rattle.machine_state.proofs.EvenWords.{even_local, even_base, even_place, next_place, same_word, in_word}
use Rattle.machine_state.proofs.Owners.{row_addresses, Made, made_owner, kept_owner, new_owner}
use Rattle.machine_state.proofs.Holders.{not_owned}
use Rattle.machine_state.proofs.HolderMoves.{GoesOn, Opens, IsGiven}
use Rattle.machine_state.proofs.HolderMoves as move
use Rattle.machine_state.proofs.Roles.{field_at, set_twice, own_same, opener_same, opened_here, opened_other}
use Rattle.machine_state.proofs.Roles.{opened_is, join_goes_on, join_opens, branch_comes}

-- ---- the row of a branch

found_in : (target r : ℕ) (pars : List Par) (found : Found) → found_from target r pars ≡ Some found
    → (k : ℕ) × (found.row ≡ r + k) × (slice_get pars k ≡ Some found.par)
found_in target r [] found is = absurd (cc)
found_in target r (par ∷ pars) found is =
    on (found_in target (r + 1) pars found) (found_in_row target 0 par.branches) is
  where
    on : (found_from target (r + 1) pars ≡ Some found
        → (k : ℕ) × (found.row ≡ r + 1 + k) × (slice_get pars k ≡ Some found.par)) → (o : Option (ℕ × Branch))
        → elim o as (λ o. Option Found) [
          | Some b ↦ Some (record { row = r; par = par; number = b.0; branch = b.1 })
          | None ↦ found_from target (r + 1) pars
        ] ≡ Some found → (k : ℕ) × (found.row ≡ r + k) × (slice_get (par ∷ pars) k ≡ Some found.par)
    on further (Some b) is =
        let there : Found = record { row = r; par = par; number = b.0; branch = b.1 } in
        let same : there ≡ found = cc in
        let row = ap (λ (f : Found). f.row) same in
        (zero, omega (arith, row), ap (λ (f : Found). Some f.par) same)
    on further None is =
        let later = further is in
        (suc later.0, (let row = later.1 in omega (arith, row)), later.2)

pub found_row : (m : Contents) (target : ℕ) (found : Found) → found_at m target ≡ Some found
    → slice_get m.pars found.row ≡ Some found.par
found_row m target found is =
    let there = found_in target 0 m.pars found is in
    let row = there.1 in
    let same : there.0 ≡ found.row = omega (arith, row) in
    subst (λ n. slice_get m.pars n ≡ Some found.par) same there.2

-- ---- a branch is given its share

-- a plan says what an open join does
pub record Follows (plan : Plan) (j : Join) : Type 0 where
  pub rest : plan.rest ≡ j.rest
  pub block : frame_address plan.base plan.par.block ≡ j.block
  pub base : plan.base ≡ j.base
  pub row : plan.row ≡ j.row
  pub members : plan.members ≡ j.members

-- what the tests of a start say of the share
share_tells : (n : ℕ) (plan : Plan) (workspace : ℕ) (b : Branch) → share_is_there n plan workspace b ≡ true
    → (list_all (all_pass_within n (may_write plan.rest)) (share_by plan b).writes ≡ true)
    × (list_all (all_pass_within n (may_read plan.rest)) (share_by plan b).reads ≡ true)
share_tells n plan workspace b there = ((and_parts _ _ (and_parts _ _ there).0).1, (and_parts _ _ there).1)

ends_tell : (plan : Plan) (b : Branch) → ends_are_there plan b ≡ true
    → list_all (is_among_ends plan.rest.ends) (share_by plan b).ends ≡ true
ends_tell plan b there = (and_parts _ _ there).0

module _ (m : Contents) (roles : List Role) (channels : List (Option Channel)) (t : HoldersIn m roles channels)
    (p : ℕ) (r : Role) (here : slice_get roles p ≡ Some r) where
  pub branch_starts : (j : Join) → r.opened ≡ Some j → (plan : Plan) (found : Found) (n workspace new : ℕ)
      → Follows plan j → MayStart n plan found workspace → length roles ≡ new
      → HoldersIn m (slice_set roles p (record r { opened = Some (join_after n plan found new) }) ++ record {
        own = holding_of m n (share_by plan found.branch);
        opener = Some p;
        opened = None;
      } ∷ []) channels
  branch_starts j is plan found n workspace new f may number =
      branch_comes m later channels (join_goes_on m roles channels t p r here j k goes_on) p
      (record r { opened = Some k }) (got_set roles p r (record r { opened = Some k }) here) k
      (holding_of m n share) refl member given
    where
      k : Join
      k = join_after n plan found new

      share : Share
      share = share_by plan found.branch

      later : List Role
      later = slice_set roles p (record r { opened = Some (join_after n plan found new) })

      goes_on : GoesOn (own_in roles) (opener_in roles) (opened_in roles)
          (opened_in (slice_set roles p (record r { opened = Some (join_after n plan found new) }))) p j
          (join_after n plan found new)
      goes_on = record {
        is = opened_is m roles channels t p r here ∙ is;
        here = opened_here m roles channels t p r here (Some k);
        others = opened_other m roles channels t p r here (Some k);
        block = f.block;
        base = f.base;
        row = f.row;
        less = λ c claimed. subst (λ (h : Holding). claims h c ≡ true) f.rest
            (left_claims n plan.rest share c claimed);
        counts = λ s c by claimed among. among_left s plan.members (new ∷ [])
            (subst (λ (ms : List ℕ). IsAmong s ms) (sym f.members) among);
      }

      member : IsAmong (length (slice_set roles p (record r { opened = Some (join_after n plan found new) })))
          (plan.members ++ new ∷ [])
      member = among_right _ plan.members (new ∷ [])
          (inl (sym (length-set roles p (record r { opened = Some k }) ∙ number)))

      given : (c : Claim) → claims (holding_of m n (share_by plan found.branch)) c ≡ true
          → IsBehind (4 * m.data_words) c
          ⊎ IsGiven (own_in (slice_set roles p (record r { opened = Some (join_after n plan found new) })))
          (opener_in (slice_set roles p (record r { opened = Some (join_after n plan found new) })))
          (opened_in (slice_set roles p (record r { opened = Some (join_after n plan found new) })))
          (owner_in channels) p (join_after n plan found new) c
      given c claimed =
          let there = share_tells n plan workspace found.branch may.share in
          elim (given_claims m n plan.rest share there.0 there.1 (ends_tell plan found.branch may.ends)
          (4 * m.data_words) (omega arith) c claimed) [
            | inl constant ↦ inl constant
            | inr there ↦ inr (
                subst (λ (own : ℕ → Holding). IsGiven own (opener_in later) (opened_in later) (owner_in channels) p k c)
                (sym (own_same m roles channels t p r here (Some k)))
                (subst (λ (opener : ℕ → Option ℕ). IsGiven (own_in roles) opener (opened_in later) (owner_in channels) p
                k c) (sym (opener_same m roles channels t p r here (Some k)))
                (move.gives t p j k (opened_in later) goes_on c
                (subst (λ (h : Holding). claims h c ≡ true) f.rest there.0) there.1)))
          ]

-- ---- what a word holds

words_agree : (memory : Memory) (a b : ℕ) (u v : ℤ) → place_of a ≡ place_of b → holds_word memory a u ≡ true
    → holds_word memory b v ≡ true → cast_unsigned w32 u ≡ cast_unsigned w32 v
words_agree memory a b u v same one two =
    on (word_at memory (place_of b)) (subst (λ n. holds u (word_at memory n) ≡ true) same one) two
  where
    holds : ℤ → Option ℤ → Bool
    holds z o = elim o [ None ↦ false | Some x ↦ cast_unsigned w32 x == cast_unsigned w32 z ]

    on : (o : Option ℤ)
        → elim o as (λ o. Bool) [ None ↦ false | Some x ↦ cast_unsigned w32 x == cast_unsigned w32 u ] ≡ true
        → elim o as (λ o. Bool) [ None ↦ false | Some x ↦ cast_unsigned w32 x == cast_unsigned w32 v ] ≡ true
        → cast_unsigned w32 u ≡ cast_unsigned w32 v
    on None one two = absurd (cc)
    on (Some x) one two = sym (eqb-true _ _ one) ∙ eqb-true _ _ two

-- neither the successor's address nor the count is the word of an empty channel
not_code : (x : ℕ) → x < 2 ^ 32 → 0x80000000 < x
    → cast_unsigned w32 (cast_signed w32 (x % 2 ^ 32)) ≡ cast_unsigned w32 least_word → ⊥
not_code x small big same =
    let low : x % 2 ^ 32 ≡ x = omega (arith, small) in
    let back : cast_unsigned w32 (cast_signed w32 (x % 2 ^ 32)) ≡ x % 2 ^ 32 =
    of_z-to_z w32 (x % 2 ^ 32) (omega arith) in
    let least : cast_unsigned w32 least_word ≡ 0x80000000 = refl in
    let e : x ≡ 0x80000000 = sym low ∙ (sym back ∙ (same ∙ least)) in
    omega (arith, e, big)

not_count : (n : ℕ) → n < 0x80000000 → cast_unsigned w32 (pos n) ≡ cast_unsigned w32 least_word → ⊥
not_count n small same =
    let least : cast_unsigned w32 least_word ≡ 0x80000000 = refl in
    let number : cast_unsigned w32 (pos n) ≡ n = omega (arith, ints, small) in
    let e : n ≡ 0x80000000 = sym number ∙ (same ∙ least) in
    omega (arith, e, small)

-- ---- a join is opened

-- what holds of a module's rows: the successor is in the code, whose addresses do not wrap around, and branches are few
pub record RowIsSmall (m : Contents) (par : Par) : Type 0 where
  pub code : data_start + 4 * m.data_words + par.successor < 2 ^ 32
  pub branches : length par.branches + 1 < 0x80000000

word_place : (h : Holding) (place x : ℕ) → may_write_word h place ≡ true → place ≤ x → x < place + 4
    → may_write h x ≡ true
unfolding may_write_word
word_place h place x own low high =
    let p = and_parts _ _ own in
    let q = and_parts _ _ p.0 in
    let r = and_parts _ _ q.0 in
    elim (cases_eq place x) [
      | inl e ↦ subst (λ n. may_write h n ≡ true) e r.0
      | inr first ↦ elim (cases_eq (place + 1) x) [
        | inl e ↦ subst (λ n. may_write h n ≡ true) e r.1
        | inr second ↦ elim (cases_eq (place + 2) x) [
          | inl e ↦ subst (λ n. may_write h n ≡ true) e q.1
          | inr third ↦
              let e : place + 3 ≡ x = omega (arith, low, high, first, second, third) in
              subst (λ n. may_write h n ≡ true) e p.1
        ]
      ]
    ]

row_even : (base : ℕ) (rows : List ChannelRow) (a : ℕ) → base % 4 ≡ 0 → IsAmong a (row_addresses base rows)
    → a % 4 ≡ 0
row_even base [] a even among = absurd among
row_even base (c ∷ rows) a even (inl here) = subst (λ n. n % 4 ≡ 0) here (even_local base c.word even)
row_even base (c ∷ rows) a even (inr there) = row_even base rows a even there

address_bound : (base : ℕ) (word : ℤ) → frame_address base word < 2 ^ 32
unfolding local_address
address_bound base word = omega arith

row_bound : (base : ℕ) (rows : List ChannelRow) (a : ℕ) → IsAmong a (row_addresses base rows) → a < 2 ^ 32
row_bound base [] a among = absurd among
row_bound base (c ∷ rows) a (inl here) = subst (λ n. n < 2 ^ 32) here (address_bound base c.word)
row_bound base (c ∷ rows) a (inr there) = row_bound base rows a there

module _ (m : Contents) (roles : List Role) (channels : List (Option Channel)) (t : HoldersIn m roles channels)
    (p : ℕ) (r : Role) (here : slice_get roles p ≡ Some r) (none : r.opened ≡ None)
    (size : length channels ≡ m.data_words) (small : 4 * m.data_words < 0x80000000) (memory : Memory)
    (workspace : ℕ) (even : workspace % 4 ≡ 0) (found : Found) (row : slice_get m.pars found.row ≡ Some found.par)
    (rows : RowIsSmall m found.par) where
  abbrev own : Holding
  own = holding_at roles p

  abbrev plan : Plan
  plan = first_plan m p workspace own memory found

  abbrev base : ℕ
  base = frame_base workspace found.par.depth

  abbrev block : ℕ
  block = frame_address base found.par.block

  abbrev kept_words : List ℕ
  kept_words = block_addresses base found.par ++ channel_addresses base found.par

  abbrev cells : List (Option Channel)
  cells = with_channels p base found.par.channels channels

  -- the join before its first branch is started
  abbrev pub fresh_join : Join
  fresh_join = record {
    row = found.row;
    block = block;
    base = base;
    parameters = plan.addresses;
    started = 0;
    rest = plan.rest;
    members = p ∷ [];
  }

  own_is : holding_at roles p ≡ own_in roles p
  own_is = ap (λ (o : Option Role). elim o as (λ o. Holding) [ None ↦ nothing | Some role ↦ held role ]) here
      ∙ (ap (λ (o : Option Join). elim o as (λ o. Holding) [ None ↦ r.own | Some join ↦ join.rest ]) none
      ∙ sym (field_at (λ (x : Role). x.own) nothing roles p r here))

  closed : opened_in roles p ≡ None
  closed = opened_is m roles channels t p r here ∙ none

  even_frame : base % 4 ≡ 0
  even_frame = even_base workspace found.par.depth even

  even_block : block % 4 ≡ 0
  even_block = even_local base found.par.block even_frame

  even_channel : (a : ℕ) → IsAmong a (channel_addresses base found.par) → a % 4 ≡ 0
  even_channel a among = row_even base found.par.channels a even_frame among

  module _ (may : MayOpen m memory own plan) where
    word_own : (a : ℕ) → IsAmong a kept_words → may_write_word own (place_of a) ≡ true
    word_own a among = all_among (λ a. may_write_word own (place_of a)) kept_words a
        (and_parts (list_all (λ a. may_write_word own (place_of a)) kept_words) _ may.held).0 among

    place_own : (a x : ℕ) → IsAmong a kept_words → place_of a ≤ x → x < place_of a + 4
        → may_write (own_in roles p) x ≡ true
    place_own a x among low high = subst (λ (h : Holding). may_write h x ≡ true) own_is
        (word_place own (place_of a) x (word_own a among) low high)

    is_low : (a : ℕ) → IsAmong a kept_words → place_of a < 4 * m.data_words
    is_low a among = t.inside p (place_of a) (place_own a (place_of a) among (omega arith) (omega arith))

    second : place_of (frame_address block (pos 1)) ≡ place_of block + 4
    second = let low = is_low block (inl refl) in next_place block (omega (arith, low, small))

    block_word : (x : ℕ) → InBlock fresh_join x
        → (a : ℕ) × IsAmong a (block_addresses base found.par) × (place_of a ≤ x) × (x < place_of a + 4)
    block_word x inside = elim (cases_lt x (place_of block + 4)) [
      | inl below ↦ (block, inl refl, inside.0, below)
      | inr above ↦
          let high = inside.1 in (
            frame_address block (pos 1),
            inr (inl refl),
            omega (arith, second, above),
            omega (arith, second, high),
          )
    ]

    channel_word : (x : ℕ) (made : Made p base found.par.channels (x / 4) p)
        → (place_of made.address ≤ x) × (x < place_of made.address + 4)
    channel_word x made = in_word (place_of made.address) x (even_place made.address
        (even_channel made.address made.among)) made.cell

    made_here : (x : ℕ) → owner_in cells (x / 4) ≡ Some p → Made p base found.par.channels (x / 4) p
    made_here x owned = elim (made_owner p base found.par.channels channels (x / 4) p owned) [
      | inl old ↦ absurd (
          let o = t.opens (x / 4) p old in
          let e : None ≡ Some o.0 = sym closed ∙ o.1 in cc)
      | inr made ↦ made
    ]

    rest_is : (c : Claim) → claims plan.rest c ≡ true
        → (claims (own_in roles p) c ≡ true) ⊎ OwnEnd (owner_in cells) p c
    rest_is (to_write x) claimed = inl (subst (λ (h : Holding). may_write h x ≡ true) own_is
        (left_claims (length memory) own (hidden base found.par) (to_write x) claimed))
    rest_is (to_read x) claimed = inl (subst (λ (h : Holding). may_read h x ≡ true) own_is
        (left_claims (length memory) own (hidden base found.par) (to_read x) claimed))
    rest_is (to_use e) claimed =
        let left = less (length memory) own (hidden base found.par) in
        elim (with_ends_tells (channel_addresses base found.par) left.ends e (end_among plan.rest e claimed)) [
          | inl old ↦ inl (subst (λ (h : Holding). has_end h e ≡ true) own_is
              (left_claims (length memory) own (hidden base found.par) (to_use e) (end_held left e old)))
          | inr new ↦
              let low = is_low e.address
              (among_right e.address (block_addresses base found.par) (channel_addresses base found.par) new) in
              inr (
                new_owner p base found.par.channels channels e.address new (omega (arith, low, size)),
                (even_channel e.address new, row_bound base found.par.channels e.address new),
              )
        ]

    -- a word of the block is no channel's, since it does not hold what an empty channel does
    not_channel : (b a x : ℕ) → IsAmong b (block_addresses base found.par)
        → IsAmong a (channel_addresses base found.par) → place_of b ≡ place_of a → ⊥
    not_channel b a x in_block_words in_channels same =
        let first = and_parts _ _ may.prepared in
        let two = and_parts _ _ first.0 in
        let empty = all_among (λ a. holds_word memory a least_word)
        (channel_addresses base found.par) a first.1 in_channels in
        on two.0 two.1 empty in_block_words
      where
        on : holds_word memory block
            (cast_signed w32 ((data_start + 4 * m.data_words + found.par.successor) % 2 ^ 32)) ≡ true
            → holds_word memory (frame_address block (pos 1)) (pos (length found.par.branches + 1)) ≡ true
            → holds_word memory a least_word ≡ true → IsAmong b (block_addresses base found.par) → ⊥
        on one two empty (inl is) =
            let big : 0x80000000 < data_start + 4 * m.data_words + found.par.successor = omega arith in
            not_code (data_start + 4 * m.data_words + found.par.successor) rows.code big
            (words_agree memory block a
            (cast_signed w32 ((data_start + 4 * m.data_words + found.par.successor) % 2 ^ 32)) least_word
            (ap place_of is ∙ same) one empty)
        on one two empty (inr (inl is)) = not_count (length found.par.branches + 1) rows.branches
            (words_agree memory (frame_address block (pos 1)) a (pos (length found.par.branches + 1)) least_word
            (ap place_of is ∙ same) two empty)
        on one two empty (inr (inr never)) = never

    pub join_is_open : Opens m.pars (own_in roles) (opened_in roles)
        (opened_in (slice_set roles p (record r { opened = Some fresh_join }))) (owner_in channels) (owner_in cells) p
        fresh_join
    join_is_open = record {
      none = closed;
      here = opened_here m roles channels t p r here (Some fresh_join);
      others = opened_other m roles channels t p r here (Some fresh_join);
      owned = λ n q is. elim (made_owner p base found.par.channels channels n q is) [
        | inl old ↦ inl old
        | inr made ↦ inr (
          made.owner,
          λ x e.
              let w = in_word (place_of made.address) x (even_place made.address (even_channel made.address made.among))
              (made.cell ∙ sym e) in
              place_own made.address x (among_right made.address (block_addresses base found.par)
              (channel_addresses base found.par) made.among) w.0 w.1,
        )
      ];
      still = λ n q is. kept_owner p base found.par.channels channels n q is (λ a among cell.
          not_owned t p q (place_of a) closed
          (place_own a (place_of a) (among_right a (block_addresses base found.par)
          (channel_addresses base found.par) among) (omega arith) (omega arith))
          (subst (λ k. owner_in channels k ≡ Some q) (sym cell) is));
      rest = rest_is;
      block = λ x inside.
          let w = block_word x inside in
          place_own w.0 x (among_left w.0 (block_addresses base found.par)
          (channel_addresses base found.par) w.1) w.2 w.3;
      hides = hides_it;
      both = λ x inside owned.
          let b = block_word x inside in
          let made = made_here x owned in
          let c = channel_word x made in
          let in_row = even_channel made.address made.among in
          not_channel b.0 made.address x b.1 made.among (same_word (place_of b.0) (place_of made.address) x
          (even_place b.0 (even_of b.0 b.1)) (even_place made.address in_row) b.2 b.3 c.0 c.1);
      place = record { par = found.par; row = row; even = even_frame; block = refl };
    }
      where
        even_of : (a : ℕ) → IsAmong a (block_addresses base found.par) → a % 4 ≡ 0
        even_of a (inl is) = subst (λ n. n % 4 ≡ 0) is even_block
        even_of a (inr (inl is)) = subst (λ n. n % 4 ≡ 0) is (even_local block (pos 1) even_block)
        even_of a (inr (inr never)) = absurd never

        hides_it : (x : ℕ) → may_read plan.rest x ≡ true
            → KeepsPlace (opened_in (slice_set roles p (record r { opened = Some fresh_join }))) (owner_in cells) p x
            → ⊥
        hides_it x read (in_block y now inside) =
            let same = same_some (opened_in (slice_set roles p
            (record r { opened = Some fresh_join })) p) y fresh_join now
            (opened_here m roles channels t p r here (Some fresh_join)) in
            let w = block_word x (subst (λ (z : Join). InBlock z x) same inside) in
            hidden_is_gone (length memory) own base found.par w.0 x
            (among_left w.0 (block_addresses base found.par) (channel_addresses base found.par) w.1) w.2 w.3 read
        hides_it x read (in_channel owned) =
            let made = made_here x owned in
            let c = channel_word x made in
            hidden_is_gone (length memory) own base found.par made.address x
            (among_right made.address (block_addresses base found.par) (channel_addresses base found.par) made.among)
            c.0 c.1 read

    -- the first start of a PAR
    pub first_starts : (new target : ℕ) → MayStart (length memory) plan found target → length roles ≡ new
        → HoldersIn m (slice_set roles p (record r {
          opened = Some (join_after (length memory) plan found new);
        }) ++ record {
          own = holding_of m (length memory) (share_by plan found.branch);
          opener = Some p;
          opened = None;
        } ∷ []) cells
    first_starts new target start number =
        let open_role = record r { opened = Some fresh_join } in
        subst (λ (roles : List Role). HoldersIn m (roles ++ record {
          own = holding_of m (length memory) (share_by plan found.branch);
          opener = Some p;
          opened = None;
        } ∷ []) cells) (set_twice roles p open_role (record r {
          opened = Some (join_after (length memory) plan found new);
        }))
        (branch_starts m (slice_set roles p open_role) cells (join_opens m roles channels t p r here fresh_join cells
        join_is_open) p open_role (got_set roles p r open_role here) fresh_join refl plan found (length memory) target
        new (record { rest = refl; block = refl; base = refl; row = refl; members = refl }) start
        (length-set roles p open_role ∙ number))
