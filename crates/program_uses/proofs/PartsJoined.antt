-- A set of uses after one of its parts has one item more, after all of them join others, and what two sets share.
use Rattle.std.proofs.Common.{◌≡◌, ℕ, ◌^◌, ◌<◌, Bool, true, false, ◌&&◌, ◌||◌, not, [], ◌∷◌, nat_eq}
use Rattle.std.proofs.Common.{nat_lt, Option, Ok, Err, inl, inr, refl, sym, ap, ◌∙◌, ◌⊎◌, ◌↔◌, arith, lt-ltb, ltb-true}
use Rattle.std.specs.Result.{is_ok, is_err, OnOk}
use Rattle.std.specs.declared.result.Result.{Result}
use Rattle.std.proofs.lemmas.Bool.{and_parts, or_cases, or_right, not-false}
use Rattle.std.proofs.lemmas.Bool.Decides.{nat_tests}
use Rattle.std.proofs.Math.Bool.{and-false, or-false}
use Rattle.program_uses.specs.declared.ends.ChannelEnd.{ChannelEnd}
use Rattle.program_uses.specs.declared.faults.TheConstants.{SHARED_VARIABLE, CHANNEL_USE}
use Rattle.program_uses.specs.declared.uses.Use.{Use}
use Rattle.program_uses.specs.declared.uses.Use.TheVariants as used
use Rattle.program_uses.specs.declared.uses.Uses.{Uses}
use Rattle.program_uses.specs.InCommon.{AreBoth, ChangesUsed}
use Rattle.program_uses.specs.Lowest.{IsLowest, lower, told_unless}
use Rattle.program_uses.specs.Numbers.{has_number}
use Rattle.program_uses.specs.ParRules.{IsShared, BreaksSharing}
use Rattle.program_uses.specs.Sets.{is_same, is_among, use_of, uses_at, has, Adds, Joins}
use Rattle.program_uses.proofs.HasByParts.{holds, has_is, has_read, has_change}
use Rattle.program_uses.proofs.LowestOfBoth.{lowest_test, lowest_of, lowest_as}

-- ---- one use more

below_more : (m n limit : ℕ) (a : Bool) → m < limit
    → (nat_lt n limit && (a || nat_eq n m)) ≡ ((nat_lt n limit && a) || (nat_eq n m || false))
below_more m n limit true h = grind (arith, nat_tests)
below_more m n limit false h = grind (arith, nat_tests)

adds_item : (old new : Uses) (item : Use) → (new.complete ≡ true → old.complete ≡ true)
    → (new.complete ≡ true → (u : Use) → holds new u ≡ (holds old u || (is_same u item || false)))
    → Adds old new (item ∷ [])
adds_item old new item complete more = record {
  complete = complete;
  has = λ e u. has_is new u ∙ more e u ∙ ap (λ t. t || (is_same u item || false)) (sym (has_is old u));
}

read_more : (old new : Uses) (m : ℕ) → m < 2 ^ 64 → new.changes ≡ old.changes → new.ends ≡ old.ends
    → (new.complete ≡ true → (n : ℕ) → has_number new.reads n ≡ (has_number old.reads n || nat_eq n m))
    → new.complete ≡ true → (u : Use) → holds new u ≡ (holds old u || (is_same u (used.Read m) || false))
read_more old new m h changes ends more e (used.Read n) =
    ap (λ t. nat_lt n (2 ^ 64) && t) (more e n) ∙ below_more m n (2 ^ 64) (has_number old.reads n) h
read_more old new m h changes ends more e (used.Change n) =
    ap (λ s. nat_lt n (2 ^ 64) && has_number s n) changes ∙ sym (or-false (holds old (used.Change n)))
read_more old new m h changes ends more e (used.Channel n i d) =
    ap (λ s. is_among (uses_at s) (used.Channel n i d)) ends ∙ sym (or-false (holds old (used.Channel n i d)))

pub adds_read : (old new : Uses) (m : ℕ) → m < 2 ^ 64 → (new.complete ≡ true → old.complete ≡ true)
    → new.changes ≡ old.changes → new.ends ≡ old.ends
    → (new.complete ≡ true → (n : ℕ) → has_number new.reads n ≡ (has_number old.reads n || nat_eq n m))
    → Adds old new (used.Read m ∷ [])
adds_read old new m h complete changes ends more =
    adds_item old new (used.Read m) complete (read_more old new m h changes ends more)

change_more : (old new : Uses) (m : ℕ) → m < 2 ^ 64 → new.reads ≡ old.reads → new.ends ≡ old.ends
    → (new.complete ≡ true → (n : ℕ) → has_number new.changes n ≡ (has_number old.changes n || nat_eq n m))
    → new.complete ≡ true → (u : Use) → holds new u ≡ (holds old u || (is_same u (used.Change m) || false))
change_more old new m h reads ends more e (used.Read n) =
    ap (λ s. nat_lt n (2 ^ 64) && has_number s n) reads ∙ sym (or-false (holds old (used.Read n)))
change_more old new m h reads ends more e (used.Change n) =
    ap (λ t. nat_lt n (2 ^ 64) && t) (more e n) ∙ below_more m n (2 ^ 64) (has_number old.changes n) h
change_more old new m h reads ends more e (used.Channel n i d) =
    ap (λ s. is_among (uses_at s) (used.Channel n i d)) ends ∙ sym (or-false (holds old (used.Channel n i d)))

pub adds_change : (old new : Uses) (m : ℕ) → m < 2 ^ 64 → (new.complete ≡ true → old.complete ≡ true)
    → new.reads ≡ old.reads → new.ends ≡ old.ends
    → (new.complete ≡ true → (n : ℕ) → has_number new.changes n ≡ (has_number old.changes n || nat_eq n m))
    → Adds old new (used.Change m ∷ [])
adds_change old new m h complete reads ends more =
    adds_item old new (used.Change m) complete (change_more old new m h reads ends more)

end_more : (old new : Uses) (x : ChannelEnd) → new.reads ≡ old.reads → new.changes ≡ old.changes
    → (new.complete ≡ true → (u : Use) → is_among (uses_at new.ends) u
    ≡ (is_among (uses_at old.ends) u || is_same u (use_of x)))
    → new.complete ≡ true → (u : Use) → holds new u ≡ (holds old u || (is_same u (use_of x) || false))
end_more old new x reads changes more e (used.Read n) =
    ap (λ s. nat_lt n (2 ^ 64) && has_number s n) reads ∙ sym (or-false (holds old (used.Read n)))
end_more old new x reads changes more e (used.Change n) =
    ap (λ s. nat_lt n (2 ^ 64) && has_number s n) changes ∙ sym (or-false (holds old (used.Change n)))
end_more old new x reads changes more e (used.Channel n i d) =
    more e (used.Channel n i d)
    ∙ ap (λ t. holds old (used.Channel n i d) || t) (sym (or-false (is_same (used.Channel n i d) (use_of x))))

pub adds_end : (old new : Uses) (x : ChannelEnd) → (new.complete ≡ true → old.complete ≡ true)
    → new.reads ≡ old.reads → new.changes ≡ old.changes
    → (new.complete ≡ true → (u : Use) → is_among (uses_at new.ends) u
    ≡ (is_among (uses_at old.ends) u || is_same u (use_of x)))
    → Adds old new (use_of x ∷ [])
adds_end old new x complete reads changes more =
    adds_item old new (use_of x) complete (end_more old new x reads changes more)

-- ---- a set that another one joins

below_either : (t a b : Bool) → (t && (a || b)) ≡ ((t && a) || (t && b))
below_either true a b = refl
below_either false a b = refl

either_holds : (old new other : Uses)
    → ((n : ℕ) → has_number new.reads n ≡ (has_number old.reads n || has_number other.reads n))
    → ((n : ℕ) → has_number new.changes n ≡ (has_number old.changes n || has_number other.changes n))
    → ((u : Use) → is_among (uses_at new.ends) u ≡ (is_among (uses_at old.ends) u || is_among (uses_at other.ends) u))
    → (u : Use) → holds new u ≡ (holds old u || holds other u)
either_holds old new other reads changes ends (used.Read n) =
    ap (λ t. nat_lt n (2 ^ 64) && t) (reads n)
    ∙ below_either (nat_lt n (2 ^ 64)) (has_number old.reads n) (has_number other.reads n)
either_holds old new other reads changes ends (used.Change n) =
    ap (λ t. nat_lt n (2 ^ 64) && t) (changes n)
    ∙ below_either (nat_lt n (2 ^ 64)) (has_number old.changes n) (has_number other.changes n)
either_holds old new other reads changes ends (used.Channel n i d) = ends (used.Channel n i d)

pub joins_parts : (old new other : Uses)
    → (new.complete ≡ true → (old.complete ≡ true) × (other.complete ≡ true))
    → (new.complete ≡ true → (n : ℕ) → has_number new.reads n ≡ (has_number old.reads n || has_number other.reads n))
    → (new.complete ≡ true
    → (n : ℕ) → has_number new.changes n ≡ (has_number old.changes n || has_number other.changes n))
    → (new.complete ≡ true
    → (u : Use) → is_among (uses_at new.ends) u ≡ (is_among (uses_at old.ends) u || is_among (uses_at other.ends) u))
    → Joins old new other
joins_parts old new other complete reads changes ends = record {
  complete = complete;
  has = λ e u. has_is new u ∙ either_holds old new other (reads e) (changes e) (ends e) u
      ∙ (λ i. sym (has_is old u) i || sym (has_is other u) i);
}

-- ---- what two sets share

changes_shared : (count : ℕ) (s t : Uses) (n : ℕ) → count < 2 ^ 64 → ChangesUsed count s t → n ≡ SHARED_VARIABLE
    → BreaksSharing count (has s) (has t) n
changes_shared count s t n h (inl (m, below, a, b)) is = (
  used.Change m,
  has_change t m (omega arith) ∙ b,
  (
    (λ i. lt-ltb m count below i
        && or_right (has s (used.Read m)) (has s (used.Change m)) (has_change s m (omega arith) ∙ a) i),
    is,
  ),
)
changes_shared count s t n h (inr (inl (m, below, a, b))) is = (
  used.Read m,
  has_read t m (omega arith) ∙ b,
  ((λ i. lt-ltb m count below i && (has_change s m (omega arith) ∙ a) i), is),
)
changes_shared count s t n h (inr (inr (m, below, a, b))) is = (
  used.Change m,
  has_change t m (omega arith) ∙ b,
  ((λ i. lt-ltb m count below i && ((has_read s m (omega arith) ∙ a) i || has s (used.Change m))), is),
)

ends_shared : (count : ℕ) (s t : Uses) (n : ℕ) → AreBoth count s.ends t.ends → n ≡ CHANNEL_USE
    → BreaksSharing count (has s) (has t) n
ends_shared count s t n (d, below, a, b) is = (
  use_of d,
  has_is t (use_of d) ∙ b,
  ((λ i. lt-ltb d.channel count below i && (has_is s (use_of d) ∙ a) i), is),
)

shared : (count : ℕ) (s t : Uses) (n : ℕ) → count < 2 ^ 64 → (u : Use) → has t u ≡ true → IsShared count (has s) u n
    → (ChangesUsed count s t × (n ≡ SHARED_VARIABLE)) ⊎ (AreBoth count s.ends t.ends × (n ≡ CHANNEL_USE))
shared count s t n h (used.Read m) uses (test, is) =
    let x = and_parts (nat_lt m count) (has s (used.Change m)) test in
    let below : m < count = ltb-true m count x.0 in
    inl (
      inr (inl (
        m,
        below,
        sym (has_change s m (omega arith)) ∙ x.1,
        sym (has_read t m (omega arith)) ∙ uses,
      )),
      is,
    )
shared count s t n h (used.Change m) uses (test, is) =
    let x = and_parts (nat_lt m count) (has s (used.Read m) || has s (used.Change m)) test in
    let below : m < count = ltb-true m count x.0 in
    let changed = sym (has_change t m (omega arith)) ∙ uses in
    elim (or_cases (has s (used.Read m)) (has s (used.Change m)) x.1) [
      | inl e ↦ inl (inr (inr (m, below, sym (has_read s m (omega arith)) ∙ e, changed)), is)
      | inr e ↦ inl (inl (m, below, sym (has_change s m (omega arith)) ∙ e, changed), is)
    ]
shared count s t n h (used.Channel m j d) uses (test, is) =
    let x = and_parts (nat_lt m count) (has s (used.Channel m j d)) test in
    let e : ChannelEnd = record { channel = m; end = record { element = j; direction = d } } in
    inr (
      (
        e,
        ltb-true m count x.0,
        sym (has_is s (used.Channel m j d)) ∙ x.1,
        sym (has_is t (used.Channel m j d)) ∙ uses,
      ),
      is,
    )

unless_not : {P : Type 0} (t : Bool) → ((t ≡ true) ↔ P) → not t ≡ false → P
unless_not t decides e = decides.0 (not-false t e)

if_so : {P : Type 0} (t : Bool) → ((t ≡ true) ↔ P) → P → not t ≡ false
if_so t decides p = ap not (decides.1 p)

-- of variables and of ends, whichever is told first
pub lowest_shared : (count : ℕ) (s t : Uses) (variables ends : Bool) {told : Option ℕ} → count < 2 ^ 64
    → ((variables ≡ true) ↔ ChangesUsed count s t) → ((ends ≡ true) ↔ AreBoth count s.ends t.ends)
    → told ≡ lower (told_unless (not variables) SHARED_VARIABLE) (told_unless (not ends) CHANNEL_USE)
    → IsLowest (BreaksSharing count (has s) (has t)) told
lowest_shared count s t variables ends h changes both is =
    lowest_as
    (λ n broken. elim broken [
      | inl (e, f) ↦ changes_shared count s t n h (unless_not variables changes e) f
      | inr (e, f) ↦ ends_shared count s t n (unless_not ends both e) f
    ])
    (λ n x. elim (shared count s t n h x.0 x.1 x.2) [
      | inl (c, f) ↦ inl (if_so variables changes c, f)
      | inr (c, f) ↦ inr (if_so ends both c, f)
    ])
    (lowest_of is (lowest_test (not variables) SHARED_VARIABLE) (lowest_test (not ends) CHANNEL_USE))

-- ---- what is done if memory was enough

pub when_done : {E P : Type 0} (r : Result (Unit {0}) E) → is_err r ≡ false → OnOk r P → P
when_done (Ok x) e h = h
when_done (Err x) e h = absurd (let k = e in cc)

pub where_done : {E P : Type 0} (r : Result (Unit {0}) E) (t : Bool) → t ≡ is_ok r → t ≡ true → OnOk r P → P
where_done (Ok x) t is e h = h
where_done (Err x) t is e h = absurd (let k = sym is ∙ e in cc)

pub record AllDone (s old reads changes ends : Bool) : Type 0 where
  pub before : s ≡ true
  pub other : old ≡ true
  pub has_reads : reads ≡ true
  pub has_changes : changes ≡ true
  pub has_ends : ends ≡ true

pub all_done : (s o a b c : Bool) → (s && (((o && a) && b) && c)) ≡ true → AllDone s o a b c
all_done s o a b c e =
    let x = and_parts s (((o && a) && b) && c) e in
    let y = and_parts ((o && a) && b) c x.1 in
    let z = and_parts (o && a) b y.0 in
    let w = and_parts o a z.0 in
    record { before = x.0; other = w.0; has_reads = w.1; has_changes = z.1; has_ends = y.1 }

-- ---- nothing

holds_nothing : (s : Uses) → ((n : ℕ) → has_number s.reads n ≡ false) → ((n : ℕ) → has_number s.changes n ≡ false)
    → ((u : Use) → is_among (uses_at s.ends) u ≡ false) → (u : Use) → holds s u ≡ false
holds_nothing s reads changes ends (used.Read n) =
    ap (λ t. nat_lt n (2 ^ 64) && t) (reads n) ∙ and-false (nat_lt n (2 ^ 64))
holds_nothing s reads changes ends (used.Change n) =
    ap (λ t. nat_lt n (2 ^ 64) && t) (changes n) ∙ and-false (nat_lt n (2 ^ 64))
holds_nothing s reads changes ends (used.Channel n i d) = ends (used.Channel n i d)

pub has_nothing : (s : Uses) → ((n : ℕ) → has_number s.reads n ≡ false) → ((n : ℕ) → has_number s.changes n ≡ false)
    → ((u : Use) → is_among (uses_at s.ends) u ≡ false) → (u : Use) → has s u ≡ false
has_nothing s reads changes ends u = has_is s u ∙ holds_nothing s reads changes ends u
