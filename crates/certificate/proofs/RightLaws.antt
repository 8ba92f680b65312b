-- What is given to branches keeps the rules, and searches in it.
use Rattle.std.proofs.Common.{◌≡◌, ℕ, zero, suc, ◌-◌, ◌<◌, ◌≤◌, ℤ, ◌≤ℤ◌, pos, true, false, ltb, List, [], ◌∷◌}
use Rattle.std.proofs.Common.{◌++◌, length, map, get_or, Option, Some, None, refl, sym, ap, ◌∙◌, inl, inr, arith}
use Rattle.std.specs.Prelude.{◌+ℤ◌, ◌<ℤ◌, ◌&&◌, int_lt, int_le}
use Rattle.std.specs.List.{AllByRecursion, list_any}
use Rattle.std.proofs.lemmas.Bool.{cases_lt}
use Rattle.std.proofs.lemmas.Int.{ints}
use Rattle.std.specs.List.Sorted.{IsPartitionPoint}
use Rattle.std.proofs.lemmas.List.{get_or_default}
use Rattle.std.proofs.Math.Bool.{and_comm}
use Rattle.small_laws.proofs.Comparisons.{int_lt-false, le-int_lt, int_le-false, int_le-true, lt-int_lt}
use Rattle.small_laws.proofs.Lookups.{AllByRecursion_at}
use Rattle.module_format.specs.declared.rows.Interval.{Interval}
use Rattle.module_format.specs.declared.rows.ChannelRow.{ChannelRow}
use Rattle.module_format.specs.Contents.{Branch, Par, Contents}
use Rattle.module_format.specs.Contexts.{first_branch}
use Rattle.module_format.specs.Order.{InOrder, least_word}
use Rattle.module_format.specs.Pars.{ChannelKeeps, behind_channel, IntervalKeeps, behind_interval, intervals_meet}
use Rattle.module_format.specs.Pars.{ReadKeeps}
use Rattle.module_format.specs.Pars.{GiftsKeep, BranchKeeps, behind_branch, ParKeeps, behind_par, no_branches}
use Rattle.module_format.specs.Keeping.{Keeps}
use Rattle.module_format.specs.Places.{branches_of}
use Rattle.certificate.specs.Branches.{numbered_branch}
use Rattle.certificate.specs.Rights.{is_among, listed_length, length_around}
use Rattle.module_format.proofs.OrderLaws.{each}

-- ---- what a row says of its branches keeps the rules

abbrev Kept : Par × Branch → Type 0
Kept x = GiftsKeep x.1 × InOrder ChannelKeeps behind_channel least_word x.0.channels

abbrev RowKept : Par → Type 0
RowKept row = InOrder ChannelKeeps behind_channel least_word row.channels × AllByRecursion GiftsKeep row.branches

all_both : {X : Type 0} (P : X → Type 0) (xs ys : List X) → AllByRecursion P xs → AllByRecursion P ys
    → AllByRecursion P (xs ++ ys)
all_both P [] ys h g = g
all_both P (x ∷ xs) ys h g = (h.0, all_both P xs ys h.1 g)

all_paired : (row : Par) (branches : List Branch) → InOrder ChannelKeeps behind_channel least_word row.channels
    → AllByRecursion GiftsKeep branches → AllByRecursion Kept (map (λ b. (row, b)) branches)
all_paired row [] channels h = tt
all_paired row (b ∷ bs) channels h = ((h.0, channels), all_paired row bs channels h.1)

all_kept : (rows : List Par) → AllByRecursion RowKept rows → AllByRecursion Kept (branches_of rows)
all_kept [] h = tt
all_kept (row ∷ rows) h = all_both Kept (map (λ b. (row, b)) row.branches) (branches_of rows)
    (all_paired row row.branches h.0.0 h.0.1) (all_kept rows h.1)

pub found_kept : (c : Contents) (n : ℕ) (x : Par × Branch) → Keeps c → numbered_branch c n ≡ Some x
    → GiftsKeep x.1 × InOrder ChannelKeeps behind_channel least_word x.0.channels
found_kept c n x keeps is =
    let rows = each (ParKeeps (first_branch c) (length c.code)) behind_par RowKept
    (λ before row h. (
      h.channels,
      each (BranchKeeps (length c.code)) behind_branch GiftsKeep
          (λ low b k. k.gifts) before row.branches h.branches,
    )) no_branches c.pars keeps.rows.pars in
    elim (ltb n (first_branch c)) as (λ b. ltb n (first_branch c) ≡ b → Kept x) [
      | true ↦ λ e. absurd (let none : None ≡ Some x = rw e at is in cc)
      | false ↦ λ e.
          AllByRecursion_at Kept (branches_of c.pars) (n - first_branch c) x (all_kept c.pars rows) (rw e at is)
    ] refl

-- ---- words of intervals

-- words that may be read are in order
pub reads_order : (writes : List Interval) (low : ℤ) (reads : List Interval)
    → InOrder (ReadKeeps writes) behind_interval low reads → InOrder IntervalKeeps behind_interval low reads
reads_order writes low [] h = tt
reads_order writes low (r ∷ reads) h = (h.0.interval, reads_order writes r.hi reads h.1)

-- a word by itself, as an interval
abbrev pub single : ℤ → Interval
single k = record { lo = k; hi = k +ℤ pos 1 }

-- below the next word
pub word_lt : (a k : ℤ) → int_lt a (k +ℤ pos 1) ≡ int_le a k
word_lt a k = elim (int_le a k) as (λ b. int_le a k ≡ b → int_lt a (k +ℤ pos 1) ≡ b) [
  | true ↦ λ e. let le = int_le-true a k e in lt-int_lt a (k +ℤ pos 1) (grind (arith, ints))
  | false ↦ λ e. let gt = int_le-false a k e in le-int_lt a (k +ℤ pos 1) (grind (arith, ints))
] refl

meets_word : (k : ℤ) (i : Interval) → intervals_meet (single k) i ≡ (int_le i.lo k && int_lt k i.hi)
meets_word k i = rw (word_lt i.lo k) (and_comm (int_lt k i.hi) (int_le i.lo k))

pub meets_words : (k : ℤ) (is : List Interval) → list_any (intervals_meet (single k)) is ≡ is_among is k
meets_words k [] = refl
meets_words k (i ∷ is) = rw (meets_word k i, meets_words k is) refl

-- ---- channels of words

channel_above : (low : ℤ) (cs : List ChannelRow) (n : ℕ) (d : ChannelRow) → InOrder ChannelKeeps behind_channel low cs
    → n < length cs → low ≤ℤ (get_or cs n d).word
channel_above low [] n d h lt = absurd (omega arith)
channel_above low (c ∷ cs) zero d h lt = h.0.rises
channel_above low (c ∷ cs) (suc n) d h lt =
    let a = h.0.rises in
    let b = channel_above (c.word +ℤ pos 1) cs n d h.1 (omega arith) in
    grind (arith, ints)

pub channels_rise : (low : ℤ) (cs : List ChannelRow) (d : ChannelRow) → InOrder ChannelKeeps behind_channel low cs
    → (i j : ℕ) → i ≤ j → j < length cs → (get_or cs i d).word ≤ℤ (get_or cs j d).word
channels_rise low [] d h i j le lt = absurd (omega arith)
channels_rise low (c ∷ cs) d h zero zero le lt = grind (arith, ints)
channels_rise low (c ∷ cs) d h (suc i) zero le lt = absurd (omega arith)
channels_rise low (c ∷ cs) d h zero (suc j) le lt = let b =
    channel_above (c.word +ℤ pos 1) cs j d h.1 (omega arith) in grind (arith, ints)
channels_rise low (c ∷ cs) d h (suc i) (suc j) le lt =
    channels_rise (c.word +ℤ pos 1) cs d h.1 i j (omega arith) (omega arith)

-- the channels before a word are the first ones
pub channels_parted : (k low : ℤ) (cs : List ChannelRow) (d : ChannelRow) → InOrder ChannelKeeps behind_channel low cs
    → (i j : ℕ) → i ≤ j → j < length cs → int_lt (get_or cs j d).word k ≡ true → int_lt (get_or cs i d).word k ≡ true
channels_parted k low cs d h i j le lt e = let b =
    channels_rise low cs d h i j le lt in lt-int_lt (get_or cs i d).word k (grind (arith, ints))

not_before : (k : ℤ) (c : ChannelRow) → int_lt c.word k ≡ true → (int_le c.word k && int_le k c.word) ≡ false
not_before k c e = grind (arith, ints)

not_behind : (k : ℤ) (c : ChannelRow) → k <ℤ c.word → (int_le c.word k && int_le k c.word) ≡ false
not_behind k c e = grind (arith, ints)

-- no channel lies in a word
pub none_listed : (k : ℤ) (cs : List ChannelRow)
    → ((i : ℕ) (d : ChannelRow) → i < length cs
    → (int_le (get_or cs i d).word k && int_le k (get_or cs i d).word) ≡ false) → listed_length cs k ≡ None
none_listed k [] all = refl
none_listed k (c ∷ cs) all = rw (all 0 c (omega arith)) (none_listed k cs (λ i d lt. all (suc i) d (omega arith)))

module _ (k : ℤ) (cs : List ChannelRow) (n : ℕ) (h : InOrder ChannelKeeps behind_channel least_word cs)
    (point : IsPartitionPoint (λ (c : ChannelRow). int_lt c.word k ≡ true)
    (λ (c : ChannelRow). int_lt c.word k ≡ false) cs n) where
  pub past_listed : length cs ≤ n → listed_length cs k ≡ None
  past_listed past = none_listed k cs (λ i d lt. not_before k (get_or cs i d) (point.0 i d (omega arith) (omega arith)))

  pub other_listed : (c : ChannelRow) → n < length cs → c ≡ get_or cs n c → (c.word ≡ k → ⊥) → listed_length cs k ≡ None
  other_listed c lt is differs = none_listed k cs (λ i d inside. elim (cases_lt i n) [
    | inl less ↦ not_before k (get_or cs i d) (point.0 i d (omega arith) less)
    | inr ge ↦
        let from = int_lt-false (get_or cs n c).word k (point.1 n c (omega arith) lt) in
        let word : c.word ≡ (get_or cs n c).word = ap (λ (y : ChannelRow). y.word) is in
        let behind : k <ℤ (get_or cs n c).word = grind (arith, ints) in
        let later : (get_or cs n c).word ≤ℤ (get_or cs i c).word = channels_rise least_word cs c h n i ge inside in
        let same : get_or cs i d ≡ get_or cs i c = get_or_default cs i d c inside in
        rw same (not_behind k (get_or cs i c) (grind (arith, ints)))
  ])

pub here_listed : (k : ℤ) (cs : List ChannelRow) (n : ℕ) (c : ChannelRow) → n < length cs
    → ((i : ℕ) → i < n → int_lt (get_or cs i c).word k ≡ true) → c ≡ get_or cs n c → c.word ≡ k
    → listed_length cs k ≡ Some c.length
here_listed k [] n c lt before is at = absurd (omega arith)
here_listed k (x ∷ cs) zero c lt before is at =
    let word : x.word ≡ k = ap (λ (y : ChannelRow). y.word) (sym is) ∙ at in
    let there : (int_le x.word k && int_le k x.word) ≡ true = grind (arith, ints) in
    rw there (ap (λ (y : ChannelRow). Some y.length) (sym is))
here_listed k (x ∷ cs) (suc n) c lt before is at =
    rw (not_before k x (before 0 (omega arith)))
    (here_listed k cs n c (omega arith) (λ i less. before (suc i) (omega arith)) is at)

-- ---- rows around a context

-- a row that lists no channel in the word leaves it to those around its own context
pub around_more : (c : Contents) (left n : ℕ) (k : ℤ) (found : Par × Branch) (total : Option ℕ)
    → numbered_branch c n ≡ Some found → listed_length found.0.channels k ≡ None → 1 ≤ left
    → length_around left c n k ≡ total → length_around (left - 1) c found.0.context k ≡ total
around_more c zero n k found total is none some h = absurd (omega arith)
around_more c (suc more) n k found total is none some h =
    let one : length_around (suc more) c n k ≡ length_around more c found.0.context k =
    ap (λ (o : Option (Par × Branch)). elim o [
      | None ↦ None
      | Some x ↦ elim (listed_length x.0.channels k)
          [ Some len ↦ Some len | None ↦ length_around more c x.0.context k ]
    ]) is
    ∙ ap (λ (o : Option ℕ). elim o [ Some len ↦ Some len | None ↦ length_around more c found.0.context k ]) none in
    let count : suc more - 1 ≡ more = omega arith in
    ap (λ (m : ℕ). length_around m c found.0.context k) count ∙ sym one ∙ h
