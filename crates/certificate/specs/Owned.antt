-- The words that branches have, as joined intervals.
use Rattle.std.specs.Prelude.{◌≡◌, ℕ, ◌+◌, ◌<◌, ◌||◌, List, length, get_or, Option, Some, None, MatchOption}
use Rattle.std.specs.Borrow.{Bor}
use Rattle.module_format.specs.Contents.{Par, Branch, Contents}
use Rattle.module_format.specs.Contexts.{first_branch}
use Rattle.certificate.specs.declared.owned.OwnWords.{OwnWords}
use Rattle.certificate.specs.Branches.{numbered_branch}
use Rattle.certificate.specs.Rights.{is_among}
use Rattle.certificate.specs.Words.{AreJoined}

-- the words that a branch may write, and those that it may read
pub record AreOwn (b : Branch) (own : OwnWords) : Type 0 where
  pub writes : AreJoined (is_among b.writes) own.writes.items
  pub reads : AreJoined (λ k. is_among b.writes k || is_among b.reads k) own.reads.items

-- the words of the branch that is context n, where it is one
abbrev pub AreOwnOf : Contents → ℕ → OwnWords → Type 0
AreOwnOf c n own = (x : Par × Branch) → numbered_branch c n ≡ Some x → AreOwn x.1 own

-- the words of the first `count` branches
pub record AreAllOwn (c : Contents) (count : ℕ) (own : List OwnWords) : Type 0 where
  pub many : length own ≡ count
  pub each : (i : ℕ) (d : OwnWords) → i < length own → AreOwnOf c (first_branch c + i) (get_or own i d)

-- the words of context n exactly where it is a branch
abbrev pub AreOwnAt : Contents → ℕ → Option (Bor OwnWords) → Type 0
AreOwnAt c n None = numbered_branch c n ≡ None
AreOwnAt c n (Some own) = MatchOption (numbered_branch c n) ⊥ (λ x. AreOwn x.1 own.now)
