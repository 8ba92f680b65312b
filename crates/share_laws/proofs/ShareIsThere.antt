-- A share that is left passes the tests of a start.
use Rattle.std.proofs.Common.{◌≡◌, ℕ, zero, suc, ◌+◌, ◌-◌, ◌*◌, ◌<◌, ◌≤◌, ◌&&◌, Bool, true, false, inl, inr, ℤ, pos}
use Rattle.std.proofs.Common.{negsuc, ◌+ℤ◌, ◌-ℤ◌, ◌*ℤ◌, ◌<ℤ◌, List, [], ◌∷◌, length, map, get_or, Option, Some, None}
use Rattle.std.proofs.Common.{FitsSigned, refl, sym, ap, ap₂, ◌∙◌, subst, arith, nat_abs}
use Rattle.std.proofs.lemmas.Bool.Decides.{nat_tests}
use Rattle.std.proofs.lemmas.Int.{ints}
use Rattle.std.specs.Int.{w32}
use Rattle.std.specs.Prelude.{slice_get, int_le, int_lt, ◌==◌}
use Rattle.std.specs.List.{list_any, list_all, flat_map}
use Rattle.std.proofs.lemmas.Bool.{and_from, false_from_ne_true, not_from_false}
use Rattle.small_laws.proofs.Options.{same_some}
use Rattle.small_laws.proofs.Comparisons.{eqb-self, lt-int_lt, le-int_le}
use Rattle.module_format.specs.declared.rows.Direction.{Direction}
use Rattle.module_format.specs.declared.rows.Direction.TheVariants.{In, Out}
use Rattle.module_format.specs.declared.rows.EndKey.{EndKey}
use Rattle.module_format.specs.declared.rows.EndKind.{EndKind}
use Rattle.module_format.specs.declared.rows.EndRow.{EndRow}
use Rattle.module_format.specs.declared.rows.Interval.{Interval}
use Rattle.module_format.specs.declared.rows.Parameter.{Parameter}
use Rattle.module_format.specs.declared.rows.ParameterKind.{ParameterKind}
use Rattle.module_format.specs.declared.rows.ParameterKind.TheVariants.{Value, ReadRegion, WrittenRegion, Channels}
use Rattle.module_format.specs.Contents.{Contents}
use Rattle.module_format.specs.Contexts.{parameters_at}
use Rattle.module_format.specs.Keeping.{is_region}
use Rattle.module_format.specs.Order.{InOrder, least_word}
use Rattle.module_format.specs.Pars.{EndKeeps, behind_end, first_key, key_of, is_below, IntervalKeeps, behind_interval}
use Rattle.module_format.specs.Procedures.{KindKeeps}
use Rattle.certificate.proofs.EndOrder.{parted}
use Rattle.certificate.proofs.RightLaws.{reads_order}
use Rattle.certificate.specs.Rights.{is_among}
use Rattle.machine_state.specs.declared.holding.End.{End}
use Rattle.machine_state.specs.BranchShares.{words_of, region_of, region_size, address_of, frame_address, share_of}
use Rattle.machine_state.specs.Holding.{Holding, may_write, may_read, same_direction}
use Rattle.machine_state.specs.JoinLookups.{Found}
use Rattle.machine_state.specs.Memory.{Memory, place_of, data_start, scheduling_word}
use Rattle.machine_state.specs.Ownership.{IsAmong}
use Rattle.machine_state.specs.Spans.{Stretch, Share, lies_in, all_pass_within, all_places, stretches_over}
use Rattle.machine_state.specs.Spans.{writes_place}
use Rattle.machine_state.specs.Spans.{is_among_ends, is_same_end, differ}
use Rattle.machine_state.specs.StartPlans.{word_passes, scheduling_places}
use Rattle.machine_state.proofs.Among.{among_more, any_among}
use Rattle.machine_state.proofs.Shares.{end_among}
use Rattle.rulings.specs.Meaning.{Layout, place_in}
use Rattle.rulings.specs.Reach as reach
use Rattle.rulings.specs.Regions.{scope_left, channel_address}
use Rattle.rulings.proofs.Combining.{readable_byte}
use Rattle.rulings.proofs.EndNumbers.{parameter_kind}
use Rattle.rulings.proofs.Regions.{bytes_written}
use Rattle.rulings.proofs.Words.{local_place}
use Rattle.share_laws.specs.Shares.{of_word, end_at}
use Rattle.share_laws.specs.Starts.{CanStart}
use Rattle.share_laws.specs.Tests.{SharesAreThere}
use Rattle.share_laws.proofs.BranchHolds.{branches_hold_their_shares}
use Rattle.share_laws.proofs.LeftBytes.{of_words, written_held, read_held}
use Rattle.share_laws.proofs.RowEnds.{listed_among}
use Rattle.share_laws.proofs.Rows.{gifts, read_is_region}

-- ---- lists

-- what each item passes all pass
pub all_from : {A : Type 0} (test : A → Bool) (xs : List A) → ((x : A) → IsAmong x xs → test x ≡ true)
    → list_all test xs ≡ true
all_from test [] each = refl
all_from test (x ∷ xs) each =
    and_from _ _ (each x (inl refl)) (all_from test xs (λ y among. each y (inr among)))

-- an item of mapped ones comes from one
among_map : {A B : Type 0} (f : A → B) (xs : List A) (y : B) → IsAmong y (map f xs) → (x : A) × IsAmong x xs × (f x ≡ y)
among_map f [] y among = absurd among
among_map f (x ∷ xs) y (inl here) = (x, inl refl, here)
among_map f (x ∷ xs) y (inr there) = let r = among_map f xs y there in (r.0, inr r.1, r.2)

-- an item of joined lists comes from one of them
among_flat : {A B : Type 0} (f : A → List B) (xs : List A) (y : B) → IsAmong y (flat_map f xs)
    → (x : A) × IsAmong x xs × IsAmong y (f x)
among_flat f [] y among = absurd among
among_flat f (x ∷ xs) y among = elim (among_more y (f x) (flat_map f xs) among) [
  | inl here ↦ (x, inl refl, here)
  | inr there ↦ let r = among_flat f xs y there in (r.0, inr r.1, r.2)
]

-- a number that is in the list is listed
listed_number : (js : List ℕ) (j : ℕ) → IsAmong j js → reach.is_listed js j ≡ true
listed_number js j among = any_among (λ k. k == j) js j among (eqb-self j)

-- ---- stretches

-- places each of which passes a test pass it
places_from : (test : ℕ → Bool) (first size : ℕ) → ((x : ℕ) → first ≤ x → x < first + size → test x ≡ true)
    → all_places test first size ≡ true
unfolding all_places
places_from test first zero each = refl
places_from test first (suc size) each =
    and_from (test first) (all_places test (first + 1) size) (each first (omega arith) (omega arith))
    (places_from test (first + 1) size (λ x low high. each x (omega (arith, low)) (omega (arith, high))))

-- a stretch that is not empty lies in memory, if each of its places passes a test that only places of memory pass
stretch_within : (n : ℕ) (test : ℕ → Bool) (first size : ℕ) → 1 ≤ size
    → ((x : ℕ) → first ≤ x → x < first + size → test x ≡ true) → ((x : ℕ) → test x ≡ true → x < n)
    → all_pass_within n test (record { start = pos first; size = size }) ≡ true
stretch_within n test first size some each inside =
    let last = inside (first + (size - 1)) (each (first + (size - 1)) (omega arith) (omega (arith, some))) in
    and_from (lies_in n (record { start = pos first; size = size })) (all_places test first size)
    (and_from (int_le (pos 0) (pos first)) (int_le (pos first +ℤ pos size) (pos n))
    (le-int_le (pos 0) (pos first) (omega (arith, ints)))
    (le-int_le (pos first +ℤ pos size) (pos n) (omega (arith, ints, last, some))))
    (places_from test first size each)

-- a place of a stretch is over it
over_from : (first size x : ℕ) → first ≤ x → x < first + size
    → stretches_over (record { start = pos first; size = size }) x ≡ true
over_from first size x low high =
    and_from (int_le (pos first) (pos x)) (int_le (pos (x + 1)) (pos first +ℤ pos size))
    (le-int_le (pos first) (pos x) (omega (arith, ints, low)))
    (le-int_le (pos (x + 1)) (pos first +ℤ pos size) (omega (arith, ints, high)))

-- stretches that begin in memory, and have a place, lie in it
abbrev IsSome : Stretch → Type 0
IsSome s = (first : ℕ) × (s.start ≡ pos first) × (1 ≤ s.size)

-- all of them do
stretches_within : (n : ℕ) (test : ℕ → Bool) (stretches : List Stretch)
    → ((s : Stretch) → IsAmong s stretches → IsSome s)
    → ((x : ℕ) → list_any (λ s. stretches_over s x) stretches ≡ true → test x ≡ true)
    → ((x : ℕ) → test x ≡ true → x < n) → list_all (all_pass_within n test) stretches ≡ true
stretches_within n test stretches some each inside = all_from (all_pass_within n test) stretches
    (λ s among. let first = some s among in within s among first.0 first.1 first.2)
  where
    within : (s : Stretch) → IsAmong s stretches → (first : ℕ) → s.start ≡ pos first → 1 ≤ s.size
        → all_pass_within n test s ≡ true
    within s among first start size =
        let same : s ≡ record { start = pos first; size = s.size } =
        ap (λ (z : ℤ). let t : Stretch = record { start = z; size = s.size } in t) start in
        subst (λ (t : Stretch). all_pass_within n test t ≡ true) (sym same)
        (stretch_within n test first s.size size (λ x low high. each x
        (any_among (λ (s : Stretch). stretches_over s x) stretches s among
        (subst (λ (t : Stretch). stretches_over t x ≡ true) (sym same) (over_from first s.size x low high)))) inside)

-- ---- ends

-- an item that is in the list has a number
among_get : (es : List EndRow) (e d : EndRow) → IsAmong e es → (j : ℕ) × (j < length es) × (get_or es j d ≡ e)
among_get [] e d among = absurd among
among_get (x ∷ es) e d (inl here) = (0, omega arith, here)
among_get (x ∷ es) e d (inr there) =
    let r = among_get es e d there in (suc r.0, (let low = r.1 in omega (arith, low)), r.2)

-- no key is below itself
not_below_itself : (x : EndKey) → is_below x x ≡ true → ⊥
not_below_itself x h = let no' : is_below x x ≡ false = grind (arith, nat_tests, ints) in cc

-- an end occurs once among ends that rise
stands_once : (low : EndKey) (e : EndRow) (es : List EndRow) → InOrder EndKeeps behind_end low (e ∷ es)
    → IsAmong e es → ⊥
stands_once low e [] order among = among
stands_once low e (x ∷ es) order among =
    let r = among_get (x ∷ es) e e among in
    let there : is_below (key_of (get_or (x ∷ es) r.0 e)) (key_of x) ≡ true =
    subst (λ (y : EndRow). is_below (key_of y) (key_of x) ≡ true) (sym r.2) order.1.0.rises in
    not_below_itself (key_of x)
    (parted e (key_of x) (key_of e) (x ∷ es) order.1 0 r.0 (omega arith) r.1 there)

-- so their ends differ, where no two have one address
ends_differ : (layout : Layout) (low : EndKey) (es : List EndRow) → InOrder EndKeeps behind_end low es
    → ((a b : EndRow) → IsAmong a es → IsAmong b es → end_at layout a ≡ end_at layout b → a ≡ b)
    → differ (map (end_at layout) es) ≡ true
ends_differ layout low [] order once = refl
ends_differ layout low (e ∷ es) order once =
    and_from _ _ (not_from_false _ (false_from_ne_true _ (λ listed.
    let r = among_map (end_at layout) es (end_at layout e)
    (listed_among (map (end_at layout) es) (end_at layout e) listed) in
    let same : r.0 ≡ e = once r.0 e (inr r.1) (inl refl) r.2 in
    stands_once low e es order (subst (λ (x : EndRow). IsAmong x es) same r.1))))
    (ends_differ layout (key_of e) es order.1 (λ a b p q. once a b (inr p) (inr q)))

-- a direction is the same as itself
same_as_itself : (d : Direction) → same_direction d d ≡ true
same_as_itself In = refl
same_as_itself Out = refl

-- an end that is in the list is listed
among_listed : (xs : List End) (e : End) → IsAmong e xs → is_among_ends xs e ≡ true
among_listed xs e among = any_among (is_same_end e) xs e among
    (and_from _ _ (eqb-self e.address) (same_as_itself e.direction))

-- ---- regions

-- a region has a byte at least
some_bytes : (kind : ParameterKind) → KindKeeps kind → is_region kind ≡ true
    → 1 ≤ region_size kind
some_bytes (Value lo hi) keeps region = absurd (cc)
some_bytes (ReadRegion size lo hi) keeps region = let some = keeps.some in omega (arith, some)
some_bytes (WrittenRegion size lo hi) keeps region = let some = keeps.some in omega (arith, some)
some_bytes (Channels count len ends) keeps region = absurd (cc)

-- so has its stretch
region_some : (parameters : List Parameter) (addresses : List (Option ℕ)) (j : ℕ) (s : Stretch)
    → ((p : Parameter) → slice_get parameters j ≡ Some p → 1 ≤ region_size p.kind)
    → IsAmong s (region_of parameters addresses j) → IsSome s
region_some parameters addresses j s some among = on (address_of addresses j) (slice_get parameters j) refl among
  where
    on : (o : Option ℕ) (q : Option Parameter) → slice_get parameters j ≡ q
        → IsAmong s (elim o as (λ o. List Stretch) [
          | None ↦ []
          | Some a ↦ elim q as (λ q. List Stretch) [
            | None ↦ []
            | Some p ↦ record { start = pos (place_of a); size = region_size p.kind } ∷ []
          ]
        ]) → IsSome s
    on None q e among = absurd among
    on (Some a) None e among = absurd among
    on (Some a) (Some p) e (inl here) = (
      place_of a,
      sym (ap (λ (t : Stretch). t.start) here),
      subst (λ n. 1 ≤ n) (ap (λ (t : Stretch). t.size) here) (some p e),
    )
    on (Some a) (Some p) e (inr never) = absurd never

module _ (m : Contents) (found : Found) (layout : Layout) (base : ℕ) (addresses : List (Option ℕ))
    (h : Holding) (memory : Memory) (depth : ℤ) (workspace : ℕ)
    (s : CanStart m found layout base addresses h memory depth workspace) where
  abbrev gift : Share
  gift = share_of base (parameters_at m found.par.context) addresses found.branch

  -- the words of an interval lie in memory
  words_some : (words : List Interval) → ((i : Interval) → IsAmong i words → (i.lo <ℤ i.hi))
      → ((k : ℤ) → is_among words k ≡ true → (place : ℕ) × (pos place ≡ place_in layout.origin k))
      → (t : Stretch) → IsAmong t (map (words_of base) words) → IsSome t
  words_some words proper at t among =
      let r = among_map (words_of base) words t among in
      let some = proper r.0 r.1 in
      let place = at r.0.lo (any_among (λ (i : Interval). int_le i.lo r.0.lo && int_lt r.0.lo i.hi) words r.0 r.1
      (and_from (int_le r.0.lo r.0.lo) (int_lt r.0.lo r.0.hi) (le-int_le r.0.lo r.0.lo (omega (arith, ints)))
      (lt-int_lt r.0.lo r.0.hi some))) in
      let origin_is = s.laid.origin in
      let is = place.1 in (
        place.0,
        sym (ap (λ (t : Stretch). t.start) r.2) ∙ (let e : pos base -ℤ pos data_start +ℤ pos 4 *ℤ r.0.lo ≡ pos place.0 =
            omega (arith, ints, origin_is, is) in e),
        subst (λ n. 1 ≤ n) (ap (λ (t : Stretch). t.size) r.2)
            (let e : 1 ≤ 4 * nat_abs (r.0.hi -ℤ r.0.lo) = omega (arith, ints, some) in e),
      )

  -- an interval has a word at least
  intervals_some : (low : ℤ) (is : List Interval) → InOrder IntervalKeeps behind_interval low is → (i : Interval)
      → IsAmong i is → i.lo <ℤ i.hi
  intervals_some low [] keeps i among = absurd among
  intervals_some low (x ∷ is) keeps i (inl here) = subst (λ (y : Interval). y.lo <ℤ y.hi) here keeps.0.some
  intervals_some low (x ∷ is) keeps i (inr there) = intervals_some x.hi is keeps.1 i there

  -- a parameter that names a region names some bytes
  bytes_of : (j : ℕ) (p : Parameter) → slice_get (parameters_at m found.par.context) j ≡ Some p
      → is_region p.kind ≡ true → 1 ≤ region_size p.kind
  bytes_of j p there region =
      some_bytes p.kind (parameter_kind m s.keeps found.par.context j p there) region

  -- each stretch to write has a place in memory
  written_some : (t : Stretch) → IsAmong t gift.writes → IsSome t
  written_some t among = elim (among_more t (map (words_of base) found.branch.writes)
      (flat_map (region_of (parameters_at m found.par.context) addresses) found.branch.written_parameters) among) [
        | inl word ↦ words_some found.branch.writes
            (intervals_some least_word found.branch.writes (gifts m found s.keeps s.is).writes)
            (λ k there. let w = s.frame.own k (s.left.writes k there) in (w.place, w.is)) t word
        | inr region ↦
            let r = among_flat (region_of (parameters_at m found.par.context) addresses)
            found.branch.written_parameters t region in
            region_some (parameters_at m found.par.context) addresses r.0 t (λ p there.
            let l = s.left.written r.0 (listed_number found.branch.written_parameters r.0 r.1) in
            let same = same_some (slice_get (parameters_at m found.par.context) r.0) p l.parameter there l.found in
            bytes_of r.0 p there (ap (λ (p : Parameter). is_region p.kind) same ∙ ap is_region l.kind)) r.2
      ]

  -- and each to read
  read_some : (t : Stretch) → IsAmong t gift.reads → IsSome t
  read_some t among = elim (among_more t (map (words_of base) found.branch.reads)
      (flat_map (region_of (parameters_at m found.par.context) addresses) found.branch.read_parameters) among) [
        | inl word ↦ words_some found.branch.reads
            (intervals_some least_word found.branch.reads (reads_order found.branch.writes least_word found.branch.reads
            (gifts m found s.keeps s.is).reads))
            (λ k there. let w = s.frame.readable k (s.left.reads k there) in (w.place, w.is)) t word
        | inr region ↦
            let r = among_flat (region_of (parameters_at m found.par.context) addresses)
            found.branch.read_parameters t region in
            region_some (parameters_at m found.par.context) addresses r.0 t (λ p there.
            bytes_of r.0 p there (read_is_region m found s.keeps s.is r.0 p
            (listed_number found.branch.read_parameters r.0 r.1) there)) r.2
      ]

  -- the stretches to write lie within what the starter may write
  pub writes_are_there : list_all (all_pass_within (length memory) (may_write h)) gift.writes ≡ true
  writes_are_there = stretches_within (length memory) (may_write h) gift.writes written_some
      (λ x w. written_held m found layout base addresses h memory depth workspace s x w)
      (λ x own. s.inside x (readable_byte h x own))

  -- those to read within what it may read
  pub reads_are_there : list_all (all_pass_within (length memory) (may_read h)) gift.reads ≡ true
  reads_are_there = stretches_within (length memory) (may_read h) gift.reads read_some
      (λ x r. read_held m found layout base addresses h memory depth workspace s x r) (λ x read. s.inside x read)

  -- ---- ends

  -- each end of the branch is held
  held_end : (e : EndRow) → IsAmong e found.branch.ends → is_among_ends h.ends (end_at layout e) ≡ true
  held_end e among = among_listed h.ends (end_at layout e)
      (end_among h (end_at layout e) (s.named.ends e.kind e.direction (s.left.ends e among)))

  -- ends with one address and direction are one
  one_end : (a b : EndRow) → IsAmong a found.branch.ends → IsAmong b found.branch.ends
      → end_at layout a ≡ end_at layout b → a ≡ b
  one_end a b p q same =
      let address : channel_address layout a.kind ≡ channel_address layout b.kind =
      ap (λ (e : End). e.address) same in
      let direction : a.direction ≡ b.direction = ap (λ (e : End). e.direction) same in
      let kinds : a.kind ≡ b.kind = s.named.differ a.kind b.kind b.direction
      (subst (λ (d : Direction). (scope_left m found.par found.par.context found.number layout).ends a.kind d ≡ true)
      direction (s.left.ends a p)) (s.left.ends b q) address in
      ap₂ (λ (k : EndKind) (d : Direction). let e : EndRow = record { kind = k; direction = d } in e) kinds direction

  -- all ends are held
  pub ends_held : list_all (is_among_ends h.ends) gift.ends ≡ true
  ends_held = subst (λ (es : List End). list_all (is_among_ends h.ends) es ≡ true)
      (sym (of_words m found layout base addresses h memory depth workspace s).ends)
      (all_from (is_among_ends h.ends) (map (end_at layout) found.branch.ends) (λ e among.
      let r = among_map (end_at layout) found.branch.ends e among in
      subst (λ (x : End). is_among_ends h.ends x ≡ true) r.2 (held_end r.0 r.1)))

  -- each is named once
  pub ends_once : differ gift.ends ≡ true
  ends_once = subst (λ (es : List End). differ es ≡ true)
      (sym (of_words m found layout base addresses h memory depth workspace s).ends)
      (ends_differ layout first_key found.branch.ends (gifts m found s.keeps s.is).ends one_end)

  -- ---- the words that scheduling takes

  -- a word that scheduling takes is held, and is the branch's to write
  scheduled : (n : ℕ) → n < 3 → FitsSigned w32 (negsuc n)
      → word_passes (λ place. may_write h place && writes_place gift place)
      (place_of (scheduling_word (frame_address base found.branch.workspace) n)) ≡ true
  scheduled n low fits =
      let k : ℤ = found.branch.workspace +ℤ negsuc n in
      let among = s.left.scheduling n low in
      let w = s.frame.own (found.branch.workspace +ℤ negsuc n)
      (s.left.writes (found.branch.workspace +ℤ negsuc n) among) in
      let frame = (branches_hold_their_shares m found layout base addresses h memory depth workspace s).frame in
      let at = local_place frame (negsuc n) fits w.place w.is w.inside in
      let byte : (i : ℕ) → i < 4 → (may_write h (w.place + i) && writes_place gift (w.place + i)) ≡ true =
      λ i less. and_from _ _ (bytes_written h w.place w.mine i less)
      ((of_words m found layout base addresses h memory depth workspace s).writes (w.place + i)
      (of_word (found.branch.workspace +ℤ negsuc n) among (let is = w.is in
      record { low = omega (arith, ints, is); high = omega (arith, ints, is, less) }))) in
      let first : (may_write h w.place && writes_place gift w.place) ≡ true =
      subst (λ x. (may_write h x && writes_place gift x) ≡ true) (let e : w.place + 0 ≡ w.place = omega arith in e)
      (byte 0 (omega arith)) in
      subst (λ x. word_passes (λ place. may_write h place && writes_place gift place) x ≡ true) (sym at)
      (and_from _ _ (and_from _ _ (and_from _ _ first (byte 1 (omega arith))) (byte 2 (omega arith)))
      (byte 3 (omega arith)))

  -- so are all three
  pub scheduling_is_there : list_all (word_passes (λ place. may_write h place && writes_place gift place))
      (scheduling_places (frame_address base found.branch.workspace)) ≡ true
  scheduling_is_there = and_from _ _ (scheduled 0 (omega arith) (omega (arith, ints)))
      (and_from _ _ (scheduled 1 (omega arith) (omega (arith, ints)))
      (and_from _ _ (scheduled 2 (omega arith) (omega (arith, ints))) refl))

-- the tests of a start
pub shares_are_there : SharesAreThere
shares_are_there m found layout plan memory depth workspace same s = record {
  ends = subst (λ (ps : List Parameter).
      (list_all (is_among_ends plan.rest.ends) (share_of plan.base ps plan.addresses found.branch).ends
      && differ (share_of plan.base ps plan.addresses found.branch).ends) ≡ true) (sym same)
      (and_from _ _ (ends_held m found layout plan.base plan.addresses plan.rest memory depth workspace s)
      (ends_once m found layout plan.base plan.addresses plan.rest memory depth workspace s));
  share = subst (λ (ps : List Parameter).
      (list_all (word_passes (λ place. may_write plan.rest place
      && writes_place (share_of plan.base ps plan.addresses found.branch) place))
      (scheduling_places (frame_address plan.base found.branch.workspace))
      && list_all (all_pass_within (length memory) (may_write plan.rest))
      (share_of plan.base ps plan.addresses found.branch).writes
      && list_all (all_pass_within (length memory) (may_read plan.rest))
      (share_of plan.base ps plan.addresses found.branch).reads) ≡ true) (sym same)
      (and_from _ _ (and_from _ _
      (scheduling_is_there m found layout plan.base plan.addresses plan.rest memory depth workspace s)
      (writes_are_there m found layout plan.base plan.addresses plan.rest memory depth workspace s))
      (reads_are_there m found layout plan.base plan.addresses plan.rest memory depth workspace s));
}
