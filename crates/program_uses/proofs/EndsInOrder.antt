-- Ends in rising order are the same for all uses that have the same ends among them.
use Rattle.std.proofs.Common.{◌≡◌, ℕ, Bool, true, false, cond, ◌&&◌, ◌||◌, List, [], ◌∷◌}
use Rattle.std.proofs.Common.{nat_eq, nat_lt, refl, sym, ap, ◌∙◌, arith}
use Rattle.std.specs.Prelude.{fold}
use Rattle.std.specs.List.{AllByRecursion, list_any}
use Rattle.std.specs.List.Sorted.{IsStrictlySortedBy}
use Rattle.std.specs.BTreeMap.{is_at}
use Rattle.std.specs.BTreeSet.{insert_key}
use Rattle.std.specs.Cmp.{IsTotalOrder}
use Rattle.std.specs.Ordering.{is_eq, nat_cmp, ordering_then, ordering_reverse, match_ordering}
use Rattle.std.specs.declared.cmp.Ordering.{Ordering}
use Rattle.std.specs.declared.cmp.Ordering.TheVariants.{Less, Equal, Greater}
use Rattle.std.proofs.lemmas.Bool.{and_parts}
use Rattle.std.proofs.lemmas.Bool.Decides.{nat_tests}
use Rattle.std.proofs.lemmas.Cmp.{nat_cmp_total, on_total, then_total}
use Rattle.std.proofs.lemmas.Map.Lookups.{CmpEqualImpliesEq, exact_unsigned, exact_pairs, btree_set_from_contains}
use Rattle.std.proofs.Math.Bool.{and-false, or-false}
use Rattle.small_laws.proofs.Connectives.{or_swap}
use Rattle.program_uses.specs.declared.ends.ChannelEnd.{ChannelEnd}
use Rattle.program_uses.specs.declared.uses.Direction.{Direction}
use Rattle.program_uses.specs.declared.uses.Direction.TheVariants as direction
use Rattle.program_uses.specs.declared.uses.Use.{Use}
use Rattle.program_uses.specs.declared.uses.Use.TheVariants as used
use Rattle.program_uses.specs.Sets.{is_same_way, is_same, is_among, use_of}
use Rattle.program_uses.specs.Ends.{way_place, end_order, with_use, sorted_ends, is_parameter, of_parameters}

-- ---- the order

end_total : IsTotalOrder end_order
end_total =
    then_total (on_total (λ (d : ChannelEnd). d.channel) nat_cmp_total)
    (then_total (on_total (λ (d : ChannelEnd). d.end.element) nat_cmp_total)
    (on_total (λ (d : ChannelEnd). way_place d.end.direction) nat_cmp_total))

same_place : (d e : Direction) → way_place d ≡ way_place e → d ≡ e
same_place direction.Input direction.Input h = refl
same_place direction.Input direction.Output h = absurd (omega (arith, h))
same_place direction.Output direction.Input h = absurd (omega (arith, h))
same_place direction.Output direction.Output h = refl

end_exact : CmpEqualImpliesEq end_order
end_exact d e h =
    let ways : CmpEqualImpliesEq (λ (d e : Direction). nat_cmp (way_place d) (way_place e)) =
    λ d e h. same_place d e (exact_unsigned (way_place d) (way_place e) h) in
    let same = exact_pairs nat_cmp (λ (x y : ℕ × Direction). ordering_then (nat_cmp x.0 y.0)
    (nat_cmp (way_place x.1) (way_place y.1))) exact_unsigned
    (exact_pairs nat_cmp (λ d e. nat_cmp (way_place d) (way_place e)) exact_unsigned ways)
    (d.channel, (d.end.element, d.end.direction)) (e.channel, (e.end.element, e.end.direction)) h in
    λ i. record {
      channel = (same i).0;
      end = record { element = (same i).1.0; direction = (same i).1.1 };
    }

pub is_eq_then : (a b : Ordering) → is_eq (ordering_then a b) ≡ (is_eq a && is_eq b)
is_eq_then Less b = refl
is_eq_then Equal b = refl
is_eq_then Greater b = refl

either_is : (a b : Bool) → (a ≡ true → b ≡ false) → is_eq (cond a Less (cond b Equal Greater)) ≡ b
either_is true b h = sym (h refl)
either_is false true h = refl
either_is false false h = refl

pub is_eq_number : (m n : ℕ) → is_eq (nat_cmp m n) ≡ nat_eq m n
is_eq_number m n = either_is (nat_lt m n) (nat_eq m n) (λ e. grind (arith, nat_tests))

is_eq_way : (d e : Direction) → is_eq (nat_cmp (way_place d) (way_place e)) ≡ is_same_way d e
is_eq_way direction.Input direction.Input = refl
is_eq_way direction.Input direction.Output = refl
is_eq_way direction.Output direction.Input = refl
is_eq_way direction.Output direction.Output = refl

is_at_end : (d e : ChannelEnd) → is_at (end_order d) e ≡ is_same (use_of d) (use_of e)
is_at_end d e =
    is_eq_then (nat_cmp d.channel e.channel) _
    ∙ (λ i. is_eq_number d.channel e.channel i && is_eq_then (nat_cmp d.end.element e.end.element)
    (nat_cmp (way_place d.end.direction) (way_place e.end.direction)) i)
    ∙ (λ i. nat_eq d.channel e.channel && (is_eq_number d.end.element e.end.element i
    && is_eq_way d.end.direction e.end.direction i))

-- ---- one end more

abbrev Rises : List ChannelEnd → Type 0
Rises ds = IsStrictlySortedBy end_order ds

all_inserted : (P : ChannelEnd → Type 0) (ds : List ChannelEnd) (d : ChannelEnd) → AllByRecursion P ds → P d
    → AllByRecursion P (insert_key end_order ds d)
all_inserted P [] d all one = (one, tt)
all_inserted P (x ∷ ds) d all one =
    elim (end_order d x) as (λ o.
    AllByRecursion P (match_ordering o (d ∷ x ∷ ds) (x ∷ ds) (x ∷ insert_key end_order ds d))) [
      | Less ↦ (one, all)
      | Equal ↦ all
      | Greater ↦ (all.0, all_inserted P ds d all.1 one)
    ]

all_above : (d x : ChannelEnd) (ds : List ChannelEnd) → end_order d x ≡ Less
    → AllByRecursion (λ y. end_order x y ≡ Less) ds → AllByRecursion (λ y. end_order d y ≡ Less) ds
all_above d x [] less all = tt
all_above d x (y ∷ ds) less all = (end_total.trans d x y less all.0, all_above d x ds less all.1)

rises_more : (ds : List ChannelEnd) (d : ChannelEnd) → Rises ds → Rises (insert_key end_order ds d)
unfolding IsStrictlySortedBy
rises_more [] d up = (tt, tt)
rises_more (x ∷ ds) d up =
    (elim (end_order d x) as (λ o. end_order d x ≡ o
    → Rises (match_ordering o (d ∷ x ∷ ds) (x ∷ ds) (x ∷ insert_key end_order ds d))) [
      | Less ↦ λ e. ((e, all_above d x ds e up.0), up)
      | Equal ↦ λ e. up
      | Greater ↦ λ e. (
        all_inserted (λ y. end_order x y ≡ Less) ds d up.0
            (end_total.antisymm x d ∙ ap ordering_reverse e),
        rises_more ds d up.1,
      )
    ]) refl

either_again : (a b : Bool) → (a || b) ≡ (a || (a || b))
either_again true b = refl
either_again false b = refl

passed_on : (a b c : Bool) → ((a || b) || c) ≡ (b || (a || c))
passed_on true true c = refl
passed_on true false c = refl
passed_on false b c = refl

-- the end is there, and the others as before
has_more : (q : ChannelEnd) (ds : List ChannelEnd) (d : ChannelEnd)
    → list_any (is_at (end_order q)) (insert_key end_order ds d)
    ≡ (is_at (end_order q) d || list_any (is_at (end_order q)) ds)
has_more q [] d = refl
has_more q (x ∷ ds) d =
    let at = is_at (end_order q) in
    (elim (end_order d x) as (λ o. end_order d x ≡ o
    → list_any at (match_ordering o (d ∷ x ∷ ds) (x ∷ ds) (x ∷ insert_key end_order ds d))
    ≡ (at d || (at x || list_any at ds))) [
      | Less ↦ λ e. refl
      | Equal ↦ λ e. either_again (at x) (list_any at ds)
          ∙ ap (λ y. at y || (at x || list_any at ds)) (sym (end_exact d x e))
      | Greater ↦ λ e. ap (λ b. at x || b) (has_more q ds d) ∙ or_swap (at x) (at d) (list_any at ds)
    ]) refl

-- ---- all of them

rises_all : (us : List Use) (ds : List ChannelEnd) → Rises ds → Rises (fold with_use ds us)
rises_all [] ds up = up
rises_all (used.Read n ∷ us) ds up = rises_all us ds up
rises_all (used.Change n ∷ us) ds up = rises_all us ds up
rises_all (used.Channel n i d ∷ us) ds up =
    let e : ChannelEnd = record { channel = n; end = record { element = i; direction = d } } in
    rises_all us (insert_key end_order ds e) (rises_more ds e up)

has_all : (q : ChannelEnd) (us : List Use) (ds : List ChannelEnd)
    → list_any (is_at (end_order q)) (fold with_use ds us)
    ≡ (list_any (is_at (end_order q)) ds || is_among us (use_of q))
has_all q [] ds = sym (or-false (list_any (is_at (end_order q)) ds))
has_all q (used.Read n ∷ us) ds = has_all q us ds
has_all q (used.Change n ∷ us) ds = has_all q us ds
has_all q (used.Channel n i d ∷ us) ds =
    let e : ChannelEnd = record { channel = n; end = record { element = i; direction = d } } in
    let at = is_at (end_order q) in
    has_all q us (insert_key end_order ds e)
    ∙ ap (λ b. b || is_among us (use_of q)) (has_more q ds e)
    ∙ passed_on (at e) (list_any at ds) (is_among us (use_of q))
    ∙ ap (λ b. list_any at ds || (b || is_among us (use_of q))) (is_at_end q e)

pub ends_rise : (us : List Use) → Rises (sorted_ends us)
unfolding IsStrictlySortedBy
ends_rise us = rises_all us [] tt

pub same_ends : (us vs : List Use) → ((u : Use) → is_among us u ≡ is_among vs u) → sorted_ends us ≡ sorted_ends vs
same_ends us vs same =
    btree_set_from_contains end_total (record { keys = sorted_ends us }) (record { keys = sorted_ends vs })
    (ends_rise us) (ends_rise vs)
    (λ q. has_all q us [] ∙ same (use_of q) ∙ sym (has_all q vs [])) end_exact

-- ---- those of parameters alone

abbrev pub kept : ℕ → ℕ → List ChannelEnd → List ChannelEnd
kept first count [] = []
kept first count (d ∷ ds) =
    cond (is_parameter first count d.channel) (d ∷ kept first count ds) (kept first count ds)

either_kept : (P : List ChannelEnd → Type 0) (t : Bool) (d : ChannelEnd) (ds : List ChannelEnd) → P (d ∷ ds) → P ds
    → P (cond t (d ∷ ds) ds)
either_kept P true d ds with_it without = with_it
either_kept P false d ds with_it without = without

all_kept : (P : ChannelEnd → Type 0) (first count : ℕ) (ds : List ChannelEnd) → AllByRecursion P ds
    → AllByRecursion P (kept first count ds)
all_kept P first count [] all = tt
all_kept P first count (d ∷ ds) all =
    let rest = all_kept P first count ds all.1 in
    either_kept (AllByRecursion P) (is_parameter first count d.channel) d (kept first count ds) (all.0, rest) rest

rises_kept : (first count : ℕ) (ds : List ChannelEnd) → Rises ds → Rises (kept first count ds)
unfolding IsStrictlySortedBy
rises_kept first count [] up = tt
rises_kept first count (d ∷ ds) up =
    let rest = rises_kept first count ds up.1 in
    either_kept Rises (is_parameter first count d.channel) d (kept first count ds)
    (all_kept (λ y. end_order d y ≡ Less) first count ds up.0, rest) rest

-- two tests that agree where a third one holds
and_alike : (a t u : Bool) → (a ≡ true → t ≡ u) → (t && a) ≡ (u && a)
and_alike true t u same = λ i. same refl i && true
and_alike false t u same = and-false t ∙ sym (and-false u)

or_within : (u a b : Bool) → ((u && a) || (u && b)) ≡ (u && (a || b))
or_within true a b = refl
or_within false a b = refl

kept_or : {A : Type 0} (at : A → Bool) (t : Bool) (x : A) (ys : List A)
    → list_any at (cond t (x ∷ ys) ys) ≡ ((t && at x) || list_any at ys)
kept_or at true x ys = refl
kept_or at false x ys = refl

-- An item is kept by a test, which agrees with another one if the item is the one that is sought.
one_kept : {A : Type 0} (at : A → Bool) (t u : Bool) (x : A) (xs ys : List A) → (at x ≡ true → t ≡ u)
    → list_any at ys ≡ (u && list_any at xs)
    → list_any at (cond t (x ∷ ys) ys) ≡ (u && (at x || list_any at xs))
one_kept at t u x xs ys same rest =
    kept_or at t x ys ∙ (λ i. and_alike (at x) t u same i || rest i) ∙ or_within u (at x) (list_any at xs)

same_channel : (q d : ChannelEnd) → is_same (use_of q) (use_of d) ≡ true → q.channel ≡ d.channel
same_channel q d h =
    let x = and_parts (nat_eq q.channel d.channel) _ h in
    let e = x.0 in
    grind (arith, nat_tests)

kept_has : (first count : ℕ) (q : ChannelEnd) (ds : List ChannelEnd)
    → list_any (is_at (end_order q)) (kept first count ds)
    ≡ (is_parameter first count q.channel && list_any (is_at (end_order q)) ds)
kept_has first count q [] = sym (and-false (is_parameter first count q.channel))
kept_has first count q (d ∷ ds) =
    one_kept (is_at (end_order q)) (is_parameter first count d.channel) (is_parameter first count q.channel) d ds
    (kept first count ds)
    (λ e. ap (is_parameter first count) (sym (same_channel q d (sym (is_at_end q d) ∙ e))))
    (kept_has first count q ds)

uses_kept : (first count : ℕ) (q : ChannelEnd) (us : List Use)
    → is_among (of_parameters first count us) (use_of q)
    ≡ (is_parameter first count q.channel && is_among us (use_of q))
uses_kept first count q [] = sym (and-false (is_parameter first count q.channel))
uses_kept first count q (used.Read n ∷ us) = uses_kept first count q us
uses_kept first count q (used.Change n ∷ us) = uses_kept first count q us
uses_kept first count q (used.Channel n i d ∷ us) =
    let e : ChannelEnd = record { channel = n; end = record { element = i; direction = d } } in
    one_kept (is_same (use_of q)) (is_parameter first count n) (is_parameter first count q.channel)
    (used.Channel n i d) us (of_parameters first count us)
    (λ h. ap (is_parameter first count) (sym (same_channel q e h))) (uses_kept first count q us)

pub parameters_kept : (first count : ℕ) (us : List Use)
    → kept first count (sorted_ends us) ≡ sorted_ends (of_parameters first count us)
parameters_kept first count us =
    let some = of_parameters first count us in
    btree_set_from_contains end_total (record { keys = kept first count (sorted_ends us) })
    (record { keys = sorted_ends some }) (rises_kept first count (sorted_ends us) (ends_rise us)) (ends_rise some)
    (λ q. kept_has first count q (sorted_ends us)
    ∙ ap (λ b. is_parameter first count q.channel && b) (has_all q us []) ∙ sym (uses_kept first count q us)
    ∙ sym (has_all q some [])) end_exact
