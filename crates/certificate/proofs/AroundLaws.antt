-- The rows around a context: each is before the row of the context, so that no look-up of a length is cut short.
use Rattle.std.proofs.Common.{◌≡◌, ℕ, zero, suc, ◌+◌, ◌-◌, ◌<◌, ◌≤◌, ℤ, List, [], ◌∷◌, ◌++◌, length, map, take, arith}
use Rattle.std.proofs.Common.{Option, Some, None, refl, sym, ap, subst, ◌∙◌, inl, inr, true, false, cond, ◌⊎◌}
use Rattle.std.proofs.Common.{Bool, ◌&&◌, drop, get_or}
use Rattle.std.specs.Prelude.{slice_get, int_le, option_map, find, reverse, option_to_list, MatchOption, IsSome, Vec}
use Rattle.std.specs.BTreeMap.{BTreeMap, get}
use Rattle.std.specs.Global.{Global}
use Rattle.std.proofs.lemmas.List.{reverse-append}
use Rattle.std.specs.Ordering.{int_cmp, is_eq}
use Rattle.std.proofs.lemmas.Bool.{cases_lt, lt-ltb, le-ltb}
use Rattle.std.proofs.lemmas.Int.{ints, by_lt_z}
use Rattle.std.specs.Cmp.{int_cmp_is}
use Rattle.std.proofs.Common.{Less, Equal, Greater}
use Rattle.std.proofs.lemmas.Option.{slice_get_within}
use Rattle.std.proofs.lemmas.List.{take_all, drop_more, map_more}
use Rattle.small_laws.proofs.Mapped.{map_same}
use Rattle.module_format.specs.declared.rows.ChannelRow.{ChannelRow}
use Rattle.module_format.specs.Contents.{Branch, Par, Contents}
use Rattle.module_format.specs.Contexts.{first_branch, branch_count}
use Rattle.module_format.specs.Pars.{no_branches}
use Rattle.module_format.specs.Keeping.{Keeps}
use Rattle.module_format.specs.Places.{branches_of}
use Rattle.module_format.proofs.PlaceLaws.{context_before, count_cons}
use Rattle.certificate.specs.Branches.{numbered_branch}
use Rattle.certificate.specs.Rights.{listed_length, length_around, channel_length}
use Rattle.certificate.specs.Around.{nearer, AreSaved, IsAround, IsRowOf}
use Rattle.certificate.specs.declared.around.Around.{Around}
use Rattle.certificate.proofs.NumberLaws.{many_branches}

-- ---- the row of a branch

-- a branch is one of a row's, or one of the rows after
of_row : (row : Par) (branches : List Branch) (others : List (Par × Branch)) (i : ℕ) (x : Par × Branch)
    → slice_get (map (λ b. (row, b)) branches ++ others) i ≡ Some x
    → (x.0 ≡ row) ⊎ ((length branches ≤ i) × (slice_get others (i - length branches) ≡ Some x))
of_row row [] others i x is = let same : i - 0 ≡ i = omega arith in inr (omega arith, ap (slice_get others) same ∙ is)
of_row row (b ∷ bs) others zero x is = inl (let pair : (row, b) ≡ x = cc in ap (λ (y : Par × Branch). y.0) (sym pair))
of_row row (b ∷ bs) others (suc i) x is = elim (of_row row bs others i x is) [
  | inl same ↦ inl same
  | inr later ↦
      let ge = later.0 in
      let same : suc i - length (b ∷ bs) ≡ i - length bs = omega arith in
      inr (omega arith, ap (slice_get others) same ∙ later.1)
]

-- the row of a branch, which is among the first s, and of which no branch is before the row's own
pub record InRow (rows : List Par) (s i : ℕ) (row : Par) : Type 0 where
  pub at : ℕ
  pub below : at < s
  pub is : slice_get rows at ≡ Some row
  pub before : branch_count (take at rows) ≤ i

pub in_row : (rows : List Par) (s i : ℕ) (x : Par × Branch) → slice_get (branches_of rows) i ≡ Some x
    → i < branch_count (take s rows) → InRow rows s i x.0
in_row [] s i x is lt = absurd cc
in_row (row ∷ rows) zero i x is lt = absurd (omega arith)
in_row (row ∷ rows) (suc s) i x is lt = elim (of_row row row.branches (branches_of rows) i x is) [
  | inl same ↦ record { at = 0; below = omega arith; is = ap (λ (r : Par). Some r) (sym same); before = omega arith }
  | inr later ↦
      let ge = later.0 in
      let count = count_cons row (take s rows) in
      let next = in_row rows s (i - length row.branches) x later.1 (omega arith) in
      let more = count_cons row (take next.at rows) in
      let low = next.before in
      let under = next.below in
      record { at = suc next.at; below = omega arith; is = next.is; before = omega arith }
]

-- ---- lengths

pub same_order : (a b : ℤ) → is_eq (int_cmp a b) ≡ (int_le a b && int_le b a)
same_order a b = by_lt_z a b
    (λ less. rw (← int_cmp_is a b Less less) (grind (arith, ints)))
    (λ ge. by_lt_z b a
    (λ more. rw (← int_cmp_is a b Greater more) (grind (arith, ints)))
    (λ le. let same : a ≡ b = omega (arith, ints) in rw (← int_cmp_is a b Equal same) (grind (arith, ints))))

by_word : (b : Bool) (len : ℕ) (others other : Option ℕ)
    → cond b (Some len) (nearer others other) ≡ nearer (cond b (Some len) others) other
by_word true len others other = refl
by_word false len others other = refl

by_listed : (listed other : Option ℕ) → (elim listed [ Some len ↦ Some len | None ↦ other ]) ≡ nearer listed other
by_listed (Some len) other = refl
by_listed None other = refl

module _ (c : Contents) (keeps : Keeps c) where
  -- the context of a branch's row is below the contexts of that row's branches
  pub context_in : (s n : ℕ) (x : Par × Branch) → numbered_branch c n ≡ Some x
      → n < first_branch c + branch_count (take s c.pars)
      → (at : ℕ) × (at < s) × (x.0.context < first_branch c + branch_count (take at c.pars)) × (x.0.context < n)
  context_in s n x is lt = elim (cases_lt n (first_branch c)) [
    | inl less ↦ absurd (let none : None ≡ Some x = rw (lt-ltb n (first_branch c) less) at is in cc)
    | inr ge ↦
        let found = rw (le-ltb n (first_branch c) ge) at is in
        let row = in_row c.pars s (n - first_branch c) x found (omega arith) in
        let known = context_before (first_branch c) (length c.code) no_branches c.pars row.at x.0
        keeps.rows.pars row.is in
        let low = row.before in
        (row.at, row.below, omega arith, omega arith)
  ]

  around_none : (m n : ℕ) (k : ℤ) → numbered_branch c n ≡ None → length_around m c n k ≡ None
  around_none zero n k none = refl
  around_none (suc m) n k none = ap (λ (o : Option (Par × Branch)). elim o [
    | None ↦ None
    | Some y ↦ elim (listed_length y.0.channels k) [ Some len ↦ Some len | None ↦ length_around m c y.0.context k ]
  ]) none

  around_some : (m n : ℕ) (k : ℤ) (x : Par × Branch) → numbered_branch c n ≡ Some x
      → length_around (suc m) c n k ≡ nearer (listed_length x.0.channels k) (length_around m c x.0.context k)
  around_some m n k x is = ap (λ (o : Option (Par × Branch)). elim o [
    | None ↦ None
    | Some y ↦ elim (listed_length y.0.channels k)
        [ Some len ↦ Some len | None ↦ length_around m c y.0.context k ]
  ]) is ∙ by_listed (listed_length x.0.channels k) (length_around m c x.0.context k)

  -- as many rows as are before a context are enough to look up a length
  pub stable : (k : ℤ) (s r n more : ℕ) → r ≤ s → n < first_branch c + branch_count (take r c.pars)
      → length_around (s + more) c n k ≡ length_around s c n k
  stable k zero r n more le lt = on (numbered_branch c n) refl
    where
      on : (found : Option (Par × Branch)) → numbered_branch c n ≡ found
          → length_around (zero + more) c n k ≡ length_around zero c n k
      on None none = around_none (zero + more) n k none
      on (Some x) is = let up = context_in r n x is lt in absurd (let a = up.1 in omega arith)
  stable k (suc s) r n more le lt =
      on (numbered_branch c n) refl (λ at m below lower. stable k s at m more below lower)
    where
      on : (found : Option (Par × Branch)) → numbered_branch c n ≡ found
          → ((at m : ℕ) → at ≤ s → m < first_branch c + branch_count (take at c.pars)
          → length_around (s + more) c m k ≡ length_around s c m k)
          → length_around (suc s + more) c n k ≡ length_around (suc s) c n k
      on None none next = around_none (suc s + more) n k none ∙ sym (around_none (suc s) n k none)
      on (Some x) is next =
          let up = context_in r n x is lt in
          let before = up.1 in
          let one : suc s + more ≡ suc (s + more) = omega arith in
          ap (λ (m : ℕ). length_around m c n k) one
          ∙ around_some (s + more) n k x is
          ∙ ap (nearer (listed_length x.0.channels k)) (next up.0 x.0.context (omega arith) up.2)
          ∙ sym (around_some s n k x is)

  is_there : (n : ℕ) (x : Par × Branch) → numbered_branch c n ≡ Some x
      → n < first_branch c + branch_count (take (length c.pars) c.pars)
  is_there n x is = elim (cases_lt n (first_branch c)) [
    | inl less ↦ absurd (let none : None ≡ Some x = rw (lt-ltb n (first_branch c) less) at is in cc)
    | inr ge ↦
        let found = rw (le-ltb n (first_branch c) ge) at is in
        let within = slice_get_within (branches_of c.pars) (n - first_branch c) x found in
        let many = many_branches c.pars in
        let all : branch_count (take (length c.pars) c.pars) ≡ branch_count c.pars =
        ap branch_count (take_all (length c.pars) c.pars (omega arith)) in
        omega arith
  ]

  -- a row's context is below its branches
  pub context_below : (n : ℕ) (x : Par × Branch) → numbered_branch c n ≡ Some x → x.0.context < n
  context_below n x is = (context_in (length c.pars) n x is (is_there n x is)).3

  -- a context that is no branch knows no channel of a word
  pub length_of_none : (n : ℕ) (k : ℤ) → numbered_branch c n ≡ None → channel_length c n k ≡ None
  length_of_none n k none = around_none (length c.pars) n k none

  -- a branch's channel has the length that its row gives it, else the one at the row's context
  pub length_of_some : (n : ℕ) (k : ℤ) (x : Par × Branch) → numbered_branch c n ≡ Some x
      → channel_length c n k ≡ nearer (listed_length x.0.channels k) (channel_length c x.0.context k)
  length_of_some n k x is =
      let up = context_in (length c.pars) n x is (is_there n x is) in
      let before = up.1 in
      let all : length c.pars ≡ suc (length c.pars - 1) = omega arith in
      let one : (length c.pars - 1) + 1 ≡ length c.pars = omega arith in
      ap (λ (m : ℕ). length_around m c n k) all ∙ around_some (length c.pars - 1) n k x is
      ∙ ap (nearer (listed_length x.0.channels k))
      (sym (stable k (length c.pars - 1) up.0 x.0.context 1 (omega arith) up.2)
      ∙ ap (λ (m : ℕ). length_around m c x.0.context k) one)

-- ---- lengths in a map

listed_first : (ch : ChannelRow) (chs : List ChannelRow) (k : ℤ) → listed_length (ch ∷ chs) k
    ≡ cond (is_eq (int_cmp ch.word k)) (Some ch.length) (listed_length chs k)
listed_first ch chs k =
    rw (same_order ch.word k) (by_test (int_le ch.word k && int_le k ch.word)
    (find (λ channel. int_le channel.word k && int_le k channel.word) chs))
  where
    by_test : (b : Bool) (o : Option ChannelRow) → option_map (λ channel. channel.length) (cond b (Some ch) o)
        ≡ cond b (Some ch.length) (option_map (λ channel. channel.length) o)
    by_test true o = refl
    by_test false o = refl

-- one channel more gives its word its length
pub given_more : (old new init : ℤ → Option ℕ) (chs : List ChannelRow) (i : ℕ) (d : ChannelRow) → i < length chs
    → ((k : ℤ) → new k ≡ cond (is_eq (int_cmp (get_or chs i d).word k)) (Some (get_or chs i d).length) (old k))
    → ((k : ℤ) → old k ≡ nearer (listed_length (drop (i + 1) chs) k) (init k))
    → (k : ℤ) → new k ≡ nearer (listed_length (drop i chs) k) (init k)
given_more old new init chs i d lt now before k =
    now k ∙ ap (cond (is_eq (int_cmp (get_or chs i d).word k)) (Some (get_or chs i d).length)) (before k)
    ∙ by_word (is_eq (int_cmp (get_or chs i d).word k)) (get_or chs i d).length
    (listed_length (drop (i + 1) chs) k) (init k)
    ∙ ap (λ (o : Option ℕ). nearer o (init k))
    (sym (ap (λ (l : List ChannelRow). listed_length l k) (drop_more chs i d lt)
    ∙ listed_first (get_or chs i d) (drop (i + 1) chs) k))

-- the length of one channel more is saved
pub saved_more : (had : ℤ → Option ℕ) (chs : List ChannelRow) (i : ℕ) (d : ChannelRow) (saved new : List (Option ℕ))
    (len : Option ℕ) → i < length chs → new ≡ saved ++ len ∷ [] → saved ≡ map (λ ch. had ch.word) (take i chs)
    → len ≡ had (get_or chs i d).word → new ≡ map (λ ch. had ch.word) (take (i + 1) chs)
saved_more had chs i d saved new len lt is before more =
    is ∙ ap (λ (xs : List (Option ℕ)). xs ++ len ∷ []) before
    ∙ ap (λ (o : Option ℕ). map (λ (ch : ChannelRow). had ch.word) (take i chs) ++ o ∷ []) more
    ∙ sym (map_more (λ (ch : ChannelRow). had ch.word) chs i d lt)

-- ---- walks

abbrev Saved : Type 0
Saved = Vec (Option ℕ) Global

-- the row of a branch, taken off what was saved
abbrev pub Left : Contents → Par → List Saved → Option Saved → Type 0
Left c row saved top = MatchOption top ⊥ (λ t. (t.items ≡ map (λ ch. channel_length c row.context ch.word) row.channels)
    × AreSaved c row.context (reverse saved))

left_list : (c : Contents) (n : ℕ) (x : Par × Branch) (saved : List Saved) (t : Saved) → numbered_branch c n ≡ Some x
    → AreSaved c n (t ∷ saved)
    → (t.items ≡ map (λ ch. channel_length c x.0.context ch.word) x.0.channels) × AreSaved c x.0.context saved
left_list c n x saved t is h = rw is at h

pub saved_left : (c : Contents) (n : ℕ) (x : Par × Branch) (old new : List Saved) (top : Option Saved)
    → numbered_branch c n ≡ Some x → AreSaved c n (reverse old) → old ≡ new ++ option_to_list top
    → (0 < length old → IsSome top) → Left c x.0 new top
saved_left c n x [] new None is h same some = absurd (let none : None ≡ Some x = sym h ∙ is in cc)
saved_left c n x (t ∷ old) new None is h same some = let no : false ≡ true = some (omega arith) in absurd cc
saved_left c n x old new (Some t) is h same some =
    let turned : reverse old ≡ t ∷ reverse new = ap reverse same ∙ reverse-append new (t ∷ []) in
    left_list c n x (reverse new) t is (subst (λ (s : List Saved). AreSaved c n s) turned h)

-- the row of a branch left
pub around_left : (c : Contents) (keeps : Keeps c) (around new : Around) (x : Par × Branch) (t : Saved)
    → numbered_branch c around.context ≡ Some x → IsAround c around → Left c x.0 new.saved.items (Some t)
    → ((had : ℤ → Option ℕ) → t.items ≡ map (λ ch. had ch.word) x.0.channels
    → ((k : ℤ) → listed_length x.0.channels k ≡ None → get int_cmp around.lengths k ≡ had k)
    → (k : ℤ) → get int_cmp new.lengths k ≡ had k)
    → new.context ≡ x.0.context → IsAround c new
around_left c keeps around new x t is h left restored context = record {
  lengths = λ k. restored (channel_length c x.0.context) left.0 (λ m unlisted. h.lengths m
      ∙ length_of_some c keeps around.context m x is
      ∙ ap (λ (o : Option ℕ). nearer o (channel_length c x.0.context m)) unlisted) k
      ∙ ap (λ (n : ℕ). channel_length c n k) (sym context);
  saved = subst (λ (n : ℕ). AreSaved c n (reverse new.saved.items)) (sym context) left.1;
}

-- the row of a branch entered
pub around_entered : (c : Contents) (keeps : Keeps c) (around new : Around) (x : Par × Branch) (t : Saved)
    → numbered_branch c new.context ≡ Some x → IsAround c around → around.context ≡ x.0.context
    → t.items ≡ map (λ ch. get int_cmp around.lengths ch.word) x.0.channels
    → new.saved.items ≡ around.saved.items ++ t ∷ []
    → ((k : ℤ) → get int_cmp new.lengths k ≡ nearer (listed_length x.0.channels k) (get int_cmp around.lengths k))
    → IsAround c new
around_entered c keeps around new x t is h context saves saved given = record {
  lengths = λ k. given k ∙ ap (nearer (listed_length x.0.channels k)) (before k)
      ∙ sym (length_of_some c keeps new.context k x is);
  saved = rw (ap reverse saved ∙ reverse-append around.saved.items (t ∷ [])) (rw is (
    saves ∙ map_same x.0.channels (λ ch. before ch.word),
    subst (λ (n : ℕ). AreSaved c n (reverse around.saved.items)) context h.saved,
  ));
}
  where
    before : (k : ℤ) → get int_cmp around.lengths k ≡ channel_length c x.0.context k
    before k = h.lengths k ∙ ap (λ (n : ℕ). channel_length c n k) context

-- ---- the same at a branch of the same row, or at another context that is no branch

one_row : (c : Contents) (n m : ℕ) (row : Option ℕ) → IsRowOf c n row → IsRowOf c m row
    → (found : Option (Par × Branch)) → numbered_branch c n ≡ found
    → (other : Option (Par × Branch)) → numbered_branch c m ≡ other
    → option_map (λ x. x.0) found ≡ option_map (λ x. x.0) other
one_row c n m None h g found is other at = ap (option_map (λ (x : Par × Branch). x.0)) (sym is ∙ h ∙ sym g ∙ at)
one_row c n m (Some row) h g None is other at = absurd (rw is at h)
one_row c n m (Some row) h g (Some x) is None at = absurd (rw at at g)
one_row c n m (Some row) h g (Some x) is (Some y) at =
    let here = rw is at h in let there = rw at at g in sym here ∙ there

both_none : (found other : Option (Par × Branch)) → option_map (λ x. x.0) found ≡ option_map (λ x. x.0) other
    → found ≡ None → other ≡ None
both_none None None same none = refl
both_none None (Some y) same none = absurd cc
both_none (Some x) other same none = absurd cc

both_match : (P : Par → Type 0) (found other : Option (Par × Branch))
    → option_map (λ x. x.0) found ≡ option_map (λ x. x.0) other
    → MatchOption found ⊥ (λ x. P x.0) → MatchOption other ⊥ (λ x. P x.0)
both_match P None other same h = absurd h
both_match P (Some x) None same h = absurd cc
both_match P (Some x) (Some y) same h = let row : x.0 ≡ y.0 = cc in subst P row h

same_saved : (c : Contents) (n m : ℕ) (saved : List Saved)
    → option_map (λ x. x.0) (numbered_branch c n) ≡ option_map (λ x. x.0) (numbered_branch c m)
    → AreSaved c n saved → AreSaved c m saved
same_saved c n m [] same h = both_none (numbered_branch c n) (numbered_branch c m) same h
same_saved c n m (t ∷ saved) same h =
    both_match (λ row. (t.items ≡ map (λ channel. channel_length c row.context channel.word) row.channels)
    × AreSaved c row.context saved) (numbered_branch c n) (numbered_branch c m) same h

same_length : (c : Contents) (keeps : Keeps c) (n m : ℕ) (k : ℤ)
    → (found : Option (Par × Branch)) → numbered_branch c n ≡ found
    → (other : Option (Par × Branch)) → numbered_branch c m ≡ other
    → option_map (λ x. x.0) found ≡ option_map (λ x. x.0) other → channel_length c n k ≡ channel_length c m k
same_length c keeps n m k None is None at same = length_of_none c keeps n k is ∙ sym (length_of_none c keeps m k at)
same_length c keeps n m k None is (Some y) at same = absurd cc
same_length c keeps n m k (Some x) is None at same = absurd cc
same_length c keeps n m k (Some x) is (Some y) at same =
    let row : x.0 ≡ y.0 = cc in
    length_of_some c keeps n k x is
    ∙ ap (λ (r : Par). nearer (listed_length r.channels k) (channel_length c r.context k)) row
    ∙ sym (length_of_some c keeps m k y at)

pub around_beside : (c : Contents) (keeps : Keeps c) (around new : Around) (row : Option ℕ)
    → IsRowOf c around.context row
    → IsRowOf c new.context row → IsAround c around → new.lengths ≡ around.lengths → new.saved ≡ around.saved
    → IsAround c new
around_beside c keeps around new row here there h lengths saved =
    let same = one_row c around.context new.context row here there _ refl _ refl in
    record {
      lengths = λ k. ap (λ (lengths : BTreeMap ℤ ℕ). get int_cmp lengths k) lengths ∙ h.lengths k
          ∙ same_length c keeps around.context new.context k _ refl _ refl same;
      saved = rw saved (same_saved c around.context new.context (reverse around.saved.items) same h.saved);
    }
