-- A text that a call appends.
use Rattle.std.proofs.Common.{◌≡◌, ℕ, List, ◌++◌, cond, Result, Ok, Err}
use Rattle.std.specs.Result.{is_ok, OnOk}

-- what `push_str` says, as the functions here say it
pub appended : {T E : Type 0} (r : Result T E) (new old more : List ℕ) → new ≡ cond (is_ok r) (old ++ more) old
    → OnOk r (new ≡ old ++ more)
appended (Ok v) new old more e = e
appended (Err e) new old more said = tt
