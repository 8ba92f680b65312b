-- What a set of uses has, by its parts.
use Rattle.std.proofs.Common.{◌≡◌, ℕ, zero, suc, ◌^◌, ◌<◌, Bool, true, false, cond, ◌&&◌}
use Rattle.std.proofs.Common.{◌||◌, List, [], ◌∷◌, ◌++◌, map}
use Rattle.std.proofs.Common.{filter, nat_eq, nat_lt, refl, sym, ap, ◌∙◌, arith, lt-ltb}
use Rattle.std.specs.List.{list_any}
use Rattle.std.proofs.lemmas.Bool.Decides.{nat_tests}
use Rattle.std.proofs.Math.Bool.{and-true, and-false, or-false}
use Rattle.program_uses.specs.declared.ends.ChannelEnd.{ChannelEnd}
use Rattle.program_uses.specs.declared.uses.Use.{Use}
use Rattle.program_uses.specs.declared.uses.Use.TheVariants as used
use Rattle.program_uses.specs.declared.uses.Uses.{Uses}
use Rattle.program_uses.specs.Ends.{of_parameters}
use Rattle.program_uses.specs.Numbers.{has_number, numbers_below, numbers_of}
use Rattle.program_uses.specs.Sets.{is_among, use_of, uses_at, members_of, has}
use Rattle.program_uses.proofs.Adding.{among_both}

-- ---- the numbers of a set

first_or : (t : Bool) (at : ℕ → Bool) (x : ℕ) (xs : List ℕ)
    → list_any at (cond t (x ∷ xs) xs) ≡ ((t && at x) || list_any at xs)
first_or true at x xs = refl
first_or false at x xs = refl

same_test : (p : ℕ → Bool) (n k : ℕ) (t : Bool) → nat_eq n k ≡ t → (p k && t) ≡ (t && p n)
same_test p n k true e =
    (let same : n ≡ k = grind (arith, nat_tests) in ap (λ m. p m && true) (sym same)) ∙ and-true (p n)
same_test p n k false e = and-false (p k)

or_same : (a b : Bool) → (a || (b && a)) ≡ a
or_same true b = refl
or_same false true = refl
or_same false false = refl

either_within : (a b c : Bool) → ((a && c) || (b && c)) ≡ ((a || b) && c)
either_within true b c = or_same c b
either_within false b c = refl

one_above : (n k : ℕ) → (nat_eq n k || nat_lt n k) ≡ nat_lt n (suc k)
one_above n k = grind (arith, nat_tests)

none_below_zero : (n : ℕ) → false ≡ nat_lt n 0
none_below_zero n = grind (arith, nat_tests)

has_filtered : (p : ℕ → Bool) (n count : ℕ)
    → list_any (nat_eq n) (filter p (numbers_below count)) ≡ (nat_lt n count && p n)
unfolding numbers_below
has_filtered p n zero = ap (λ t. t && p n) (none_below_zero n)
has_filtered p n (suc k) =
    first_or (p k) (nat_eq n) k (filter p (numbers_below k))
    ∙ (λ i. same_test p n k (nat_eq n k) refl i || has_filtered p n k i)
    ∙ either_within (nat_eq n k) (nat_lt n k) (p n)
    ∙ ap (λ t. t && p n) (one_above n k)

-- ---- uses of one kind

abbrev is_read : List ℕ → Use → Bool
is_read ns (used.Read n) = list_any (nat_eq n) ns
is_read ns (used.Change n) = false
is_read ns (used.Channel n i d) = false

among_reads : (ns : List ℕ) (u : Use) → is_among (map used.Read ns) u ≡ is_read ns u
among_reads [] (used.Read n) = refl
among_reads [] (used.Change n) = refl
among_reads [] (used.Channel n i d) = refl
among_reads (m ∷ ns) (used.Read n) = ap (λ t. nat_eq n m || t) (among_reads ns (used.Read n))
among_reads (m ∷ ns) (used.Change n) = among_reads ns (used.Change n)
among_reads (m ∷ ns) (used.Channel n i d) = among_reads ns (used.Channel n i d)

abbrev is_change : List ℕ → Use → Bool
is_change ns (used.Read n) = false
is_change ns (used.Change n) = list_any (nat_eq n) ns
is_change ns (used.Channel n i d) = false

among_changes : (ns : List ℕ) (u : Use) → is_among (map used.Change ns) u ≡ is_change ns u
among_changes [] (used.Read n) = refl
among_changes [] (used.Change n) = refl
among_changes [] (used.Channel n i d) = refl
among_changes (m ∷ ns) (used.Read n) = among_changes ns (used.Read n)
among_changes (m ∷ ns) (used.Change n) = ap (λ t. nat_eq n m || t) (among_changes ns (used.Change n))
among_changes (m ∷ ns) (used.Channel n i d) = among_changes ns (used.Channel n i d)

pub no_read : (ds : List ChannelEnd) (n : ℕ) → is_among (map use_of ds) (used.Read n) ≡ false
no_read [] n = refl
no_read (d ∷ ds) n = no_read ds n

pub no_change : (ds : List ChannelEnd) (n : ℕ) → is_among (map use_of ds) (used.Change n) ≡ false
no_change [] n = refl
no_change (d ∷ ds) n = no_change ds n

-- ---- all of them

abbrev pub holds : Uses → Use → Bool
holds s (used.Read n) = nat_lt n (2 ^ 64) && has_number s.reads n
holds s (used.Change n) = nat_lt n (2 ^ 64) && has_number s.changes n
holds s (used.Channel n i d) = is_among (uses_at s.ends) (used.Channel n i d)

by_parts : (s : Uses) (u : Use)
    → has s u ≡ (is_read (numbers_of s.reads) u || (is_change (numbers_of s.changes) u || is_among (uses_at s.ends) u))
unfolding members_of
by_parts s u =
    among_both (map used.Read (numbers_of s.reads)) (map used.Change (numbers_of s.changes) ++ uses_at s.ends) u
    ∙ (λ i. among_reads (numbers_of s.reads) u i
    || among_both (map used.Change (numbers_of s.changes)) (uses_at s.ends) u i)
    ∙ ap (λ t. is_read (numbers_of s.reads) u || (t || is_among (uses_at s.ends) u))
    (among_changes (numbers_of s.changes) u)

pub has_is : (s : Uses) (u : Use) → has s u ≡ holds s u
has_is s (used.Read n) =
    by_parts s (used.Read n) ∙ ap (λ t. list_any (nat_eq n) (numbers_of s.reads) || t) (no_read s.ends.set.keys n)
    ∙ or-false (list_any (nat_eq n) (numbers_of s.reads)) ∙ has_filtered (has_number s.reads) n (2 ^ 64)
has_is s (used.Change n) =
    by_parts s (used.Change n) ∙ ap (λ t. list_any (nat_eq n) (numbers_of s.changes) || t) (no_change s.ends.set.keys n)
    ∙ or-false (list_any (nat_eq n) (numbers_of s.changes)) ∙ has_filtered (has_number s.changes) n (2 ^ 64)
has_is s (used.Channel n i d) = by_parts s (used.Channel n i d)

pub has_read : (s : Uses) (n : ℕ) → n < 2 ^ 64 → has s (used.Read n) ≡ has_number s.reads n
has_read s n h = has_is s (used.Read n) ∙ ap (λ t. t && has_number s.reads n) (lt-ltb n (2 ^ 64) h)

pub has_change : (s : Uses) (n : ℕ) → n < 2 ^ 64 → has s (used.Change n) ≡ has_number s.changes n
has_change s n h = has_is s (used.Change n) ∙ ap (λ t. t && has_number s.changes n) (lt-ltb n (2 ^ 64) h)

-- ---- ends among them

no_reads : (first count : ℕ) (ns : List ℕ) (us : List Use)
    → of_parameters first count (map used.Read ns ++ us) ≡ of_parameters first count us
no_reads first count [] us = refl
no_reads first count (n ∷ ns) us = no_reads first count ns us

no_changes : (first count : ℕ) (ns : List ℕ) (us : List Use)
    → of_parameters first count (map used.Change ns ++ us) ≡ of_parameters first count us
no_changes first count [] us = refl
no_changes first count (n ∷ ns) us = no_changes first count ns us

pub ends_alone : (first count : ℕ) (s : Uses)
    → of_parameters first count (uses_at s.ends) ≡ of_parameters first count (members_of s)
unfolding members_of
ends_alone first count s =
    sym (no_reads first count (numbers_of s.reads) (map used.Change (numbers_of s.changes) ++ uses_at s.ends)
    ∙ no_changes first count (numbers_of s.changes) (uses_at s.ends))
