-- What a call of a reader or a writer does to the bytes that are known of it, and to its flag.
use Rattle.std.specs.Prelude.{◌≡◌, ℕ, ◌≤◌, ◌==◌, nat_lt, Bool, true, ◌||◌, ◌&&◌, List, [], ◌∷◌, length, take}
use Rattle.std.specs.Prelude.{Option, Some, None, Result, Ok, Err}
use Rattle.std.specs.Io.KnownBytes.{Keeps, Appends, Consumes, IsAtEnd}

-- a byte was given, or none was left, and the flag stays; or the read failed, and took nothing
abbrev pub Gives : {E : Type 0} → Option (List ℕ) → Bool → Result (Option ℕ) E → Option (List ℕ) → Bool → Type 0
Gives before flag (Ok (Some byte)) after now = Consumes before after (byte ∷ []) × (now ≡ flag)
Gives before flag (Ok None) after now = Keeps before after × IsAtEnd after × (now ≡ flag)
Gives before flag (Err e) after now = Keeps before after × (now ≡ true)

-- a write of some bytes took none
abbrev pub took_none : ℕ → List ℕ → Bool
took_none n bytes = (n == 0) && nat_lt 0 (length bytes)

-- a number of bytes from the front were written, and the write failed if there were some and it took none; or the write
-- failed, and none was written
abbrev pub Accepts : {E : Type 0} → Option (List ℕ) → Bool → List ℕ → Result ℕ E → Option (List ℕ) → Bool → Type 0
Accepts before flag bytes (Ok n) after now =
    (n ≤ length bytes) × Appends before after (take n bytes) × (now ≡ (flag || took_none n bytes))
Accepts before flag bytes (Err e) after now = Keeps before after × (now ≡ true)
