-- What is owed in all: where a branch is started, and where a process ends.
use Rattle.std.proofs.Common.{◌≡◌, ℕ, zero, suc, ◌+◌, ◌≤◌, List, [], ◌∷◌, ◌++◌, Some, arith}
use Rattle.std.specs.Prelude.{slice_get, slice_set}
use Rattle.certified_worlds.specs.Invariant.{total}

-- where one of them owes something else
pub total_set : (dues : List ℕ) (p d e : ℕ) → slice_get dues p ≡ Some d
    → total (slice_set dues p e) + d ≡ total dues + e
total_set [] p d e h = absurd (cc)
total_set (x ∷ xs) zero d e h = let same : x ≡ d = cc in omega (arith, same)
total_set (x ∷ xs) (suc p) d e h = let rest = total_set xs p d e h in omega (arith, rest)

-- where there is one more
pub total_more : (dues : List ℕ) (e : ℕ) → total (dues ++ e ∷ []) ≡ total dues + e
total_more [] e = omega arith
total_more (x ∷ xs) e = let rest = total_more xs e in omega (arith, rest)

-- one owes something else, and there is one more
total_grown : (dues : List ℕ) (p d e new : ℕ) → slice_get dues p ≡ Some d
    → total (slice_set dues p e ++ new ∷ []) + d ≡ total dues + e + new
total_grown dues p d e new h =
    let set = total_set dues p d e h in
    let more = total_more (slice_set dues p e) new in
    omega (arith, set, more)

-- A start: what its starter owed, and what waited for its PAR, covers what is left to it, what waits now, and what the
-- branch owes, whose own PAR owes nothing.
pub start_owes : (dues pending : List ℕ) (p due waited later waits new : ℕ) → slice_get dues p ≡ Some due
    → slice_get pending p ≡ Some waited → later + waits + new + 1 ≤ due + waited
    → total (slice_set dues p later ++ new ∷ []) + total (slice_set pending p waits ++ 0 ∷ []) + 1
    ≤ total dues + total pending
start_owes dues pending p due waited later waits new has waiting covers =
    let one = total_grown dues p due later new has in
    let two = total_grown pending p waited waits 0 waiting in
    omega (arith, one, two, covers)

-- An end: a process that has ended owes nothing.
pub end_owes : (dues : List ℕ) (p due : ℕ) → slice_get dues p ≡ Some due → 1 ≤ due
    → total (slice_set dues p 0) + 1 ≤ total dues
end_owes dues p due has pays = let set = total_set dues p due 0 has in omega (arith, set, pays)
