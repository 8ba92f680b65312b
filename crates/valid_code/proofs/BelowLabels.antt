-- Lists of labels below a number, put together.
use Rattle.std.proofs.Common.{ℕ, List, [], ◌∷◌, ◌++◌}
use Rattle.code_pieces.specs.WellFormed.{AreBelow}

pub below_both : (n : ℕ) (ls ms : List ℕ) → AreBelow n ls → AreBelow n ms → AreBelow n (ls ++ ms)
below_both n [] ms first second = second
below_both n (l ∷ ls) ms first second = (first.0, below_both n ls ms first.1 second)

pub below_first : (n : ℕ) (ls ms : List ℕ) → AreBelow n (ls ++ ms) → AreBelow n ls
below_first n [] ms all = tt
below_first n (l ∷ ls) ms all = (all.0, below_first n ls ms all.1)

pub below_second : (n : ℕ) (ls ms : List ℕ) → AreBelow n (ls ++ ms) → AreBelow n ms
below_second n [] ms all = all
below_second n (l ∷ ls) ms all = below_second n ls ms all.1
