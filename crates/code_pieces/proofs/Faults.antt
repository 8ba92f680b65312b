-- Faults that are handed on.
use Rattle.std.proofs.Common.{◌≡◌, Result, Ok, Err}
use Rattle.std.specs.Result.{IsErrAnd}

-- the fault that `?` hands on is the one that was found
pub handed_on : {T E : Type 0} (r : Result T E) (found fault : E) → IsErrAnd r (λ e. e ≡ found) → r ≡ Err fault
    → found ≡ fault
handed_on (Ok x) found fault h is = cc
handed_on (Err e) found fault h is = cc
