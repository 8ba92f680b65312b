-- Blocks of bytes, one byte more at a time.
use Rattle.std.proofs.Common.{◌≡◌, ℕ, zero, suc, ◌+◌, ◌-◌, ◌<◌, ◌≤◌, ◌⊎◌, inl, inr, Bool, true, false, ◌&&◌, Option}
use Rattle.std.proofs.Common.{refl, sym, ap, ◌∙◌, arith}
use Rattle.std.specs.Prelude.{◌==◌}
use Rattle.std.proofs.lemmas.Bool.Decides.{nat_tests}
use Rattle.std.proofs.lemmas.List.{set_comm}
use Rattle.machine_state.specs.Memory.{Memory, byte_at, with_byte}
use Rattle.machine_state.specs.Spans.{all_places}
use Rattle.machine_state.specs.LocalStep.{copied}
use Rattle.machine_state.proofs.Reading.{byte_at-with_byte_other}

-- the test of the first of some places, and of the others
pub all_places-first : (test : ℕ → Bool) (place k n : ℕ) → k < n
    → all_places test (place + k) (n - k) ≡ (test (place + k) && all_places test (place + (k + 1)) (n - (k + 1)))
unfolding all_places
all_places-first test place k n below =
    let left : n - k ≡ suc (n - (k + 1)) = omega arith in
    let next : place + k + 1 ≡ place + (k + 1) = omega arith in
    ap (all_places test (place + k)) left ∙ step (n - (k + 1))
    ∙ ap (λ (p : ℕ). test (place + k) && all_places test p (n - (k + 1))) next
  where
    step : (m : ℕ) → all_places test (place + k) (suc m) ≡ (test (place + k) && all_places test (place + k + 1) m)
    step m = refl

pub all_places-none : (test : ℕ → Bool) (place : ℕ) → all_places test place 0 ≡ true
unfolding all_places
all_places-none test place = refl

pub copied-none : (from : Memory) (source to : ℕ) (m : Memory) → copied from source to 0 m ≡ m
unfolding copied
copied-none from source to m = refl

pub all_places-here : (test : ℕ → Bool) (place n : ℕ)
    → all_places test place n ≡ all_places test (place + 0) (n - 0)
all_places-here test place n =
    let here : place ≡ place + 0 = omega arith in
    let all : n ≡ n - 0 = omega arith in
    ap (λ (p : ℕ). all_places test p n) here ∙ ap (λ (m : ℕ). all_places test (place + 0) m) all

-- all pass so far: what is left decides
pub all_places-on : (test : ℕ → Bool) (place k n : ℕ) (b : Bool) → k < n → b ≡ test (place + k) → b ≡ true
    → all_places test place n ≡ all_places test (place + k) (n - k)
    → all_places test place n ≡ all_places test (place + (k + 1)) (n - (k + 1))
all_places-on test place k n b below is passed so_far =
    so_far ∙ (all_places-first test place k n below
    ∙ ap (λ (x : Bool). x && all_places test (place + (k + 1)) (n - (k + 1))) (sym is ∙ passed))

pub all_places-refused : (test : ℕ → Bool) (place k n : ℕ) (b : Bool) → k < n → b ≡ test (place + k) → b ≡ false
    → all_places test place n ≡ all_places test (place + k) (n - k) → false ≡ all_places test place n
all_places-refused test place k n b below is refused so_far =
    sym (so_far ∙ (all_places-first test place k n below
    ∙ ap (λ (x : Bool). x && all_places test (place + (k + 1)) (n - (k + 1))) (sym is ∙ refused)))

pub all_places-end : (test : ℕ → Bool) (place k n : ℕ) → n ≤ k
    → all_places test place n ≡ all_places test (place + k) (n - k) → true ≡ all_places test place n
all_places-end test place k n over so_far =
    let none : n - k ≡ 0 = omega arith in
    sym (so_far ∙ (ap (all_places test (place + k)) none ∙ all_places-none test (place + k)))

-- one byte more, at the end of a block
pub copied-more : (from : Memory) (source to k : ℕ) (m : Memory)
    → copied from source to (suc k) m ≡ with_byte (copied from source to k m) (to + k) (byte_at from (source + k))
unfolding copied
copied-more from source to zero m =
    let there : to ≡ to + 0 = omega arith in
    let here : source ≡ source + 0 = omega arith in
    ap (λ (p : ℕ). with_byte m p (byte_at from source)) there
    ∙ ap (λ (p : ℕ). with_byte m (to + 0) (byte_at from p)) here
copied-more from source to (suc k) m =
    let there : to + 1 + k ≡ to + suc k = omega arith in
    let here : source + 1 + k ≡ source + suc k = omega arith in
    copied-more from (source + 1) (to + 1) k (with_byte m to (byte_at from source))
    ∙ (ap (λ (p : ℕ). with_byte (copied from (source + 1) (to + 1) k (with_byte m to (byte_at from source))) p
    (byte_at from (source + 1 + k))) there
    ∙ ap (λ (p : ℕ). with_byte (copied from (source + 1) (to + 1) k (with_byte m to (byte_at from source)))
    (to + suc k) (byte_at from p)) here)

-- a block leaves the bytes beside it
pub copied-beside : (from : Memory) (source to n : ℕ) (m : Memory) (place : ℕ) → (place < to) ⊎ (to + n ≤ place)
    → byte_at (copied from source to n m) place ≡ byte_at m place
unfolding copied
copied-beside from source to zero m place beside = refl
copied-beside from source to (suc n) m place (inl below) =
    copied-beside from (source + 1) (to + 1) n (with_byte m to (byte_at from source)) place (inl (omega arith))
    ∙ byte_at-with_byte_other m to place (byte_at from source) (omega arith)
copied-beside from source to (suc n) m place (inr above) =
    copied-beside from (source + 1) (to + 1) n (with_byte m to (byte_at from source)) place (inr (omega arith))
    ∙ byte_at-with_byte_other m to place (byte_at from source) (omega arith)

-- the next byte of a block is copied, from the first on: it is still as before where the block goes down
pub copied-next : (before m : Memory) (source to k : ℕ) → to ≤ source → m ≡ copied before source to k before
    → with_byte m (to + k) (byte_at m (source + k)) ≡ copied before source to (k + 1) before
copied-next before m source to k down so_far =
    let more : suc k ≡ k + 1 = omega arith in
    let kept = copied-beside before source to k before (source + k) (inr (omega arith)) in
    ap (λ (x : Memory). with_byte x (to + k) (byte_at x (source + k))) so_far
    ∙ (ap (with_byte (copied before source to k before) (to + k)) kept
    ∙ (sym (copied-more before source to k before) ∙ ap (λ (x : ℕ). copied before source to x before) more))

-- a byte below a block may be written before it
copied-later : (from : Memory) (source to n : ℕ) (m : Memory) (place : ℕ) (byte : Option ℕ) → place < to
    → with_byte (copied from source to n m) place byte ≡ copied from source to n (with_byte m place byte)
unfolding copied
copied-later from source to zero m place byte below = refl
copied-later from source to (suc n) m place byte below =
    copied-later from (source + 1) (to + 1) n (with_byte m to (byte_at from source)) place byte (omega arith)
    ∙ ap (copied from (source + 1) (to + 1) n) (set_comm m to place (byte_at from source) byte (omega arith))

-- one byte more, at the front of a block
copied-front : (from : Memory) (source to n : ℕ) (m : Memory)
    → with_byte (copied from (source + 1) (to + 1) n m) to (byte_at from source) ≡ copied from source to (suc n) m
unfolding copied
copied-front from source to n m = copied-later from (source + 1) (to + 1) n m to (byte_at from source) (omega arith)

-- the next byte of a block is copied, from the last on: it is still as before where the block goes up
pub copied-previous : (before m : Memory) (source to n : ℕ) → source ≤ to
    → m ≡ copied before (source + 1) (to + 1) n before
    → with_byte m to (byte_at m source) ≡ copied before source to (n + 1) before
copied-previous before m source to n up so_far =
    let more : suc n ≡ n + 1 = omega arith in
    let kept = copied-beside before (source + 1) (to + 1) n before source (inl (omega arith)) in
    ap (λ (x : Memory). with_byte x to (byte_at x source)) so_far
    ∙ (ap (with_byte (copied before (source + 1) (to + 1) n before) to) kept
    ∙ (copied-front before source to n before ∙ ap (λ (x : ℕ). copied before source to x before) more))

-- none of some places passes a test that no place passes
pub all_places-nowhere : (test : ℕ → Bool) → ((place : ℕ) → test place ≡ false) → (place n : ℕ)
    → (n == 0) ≡ all_places test place n
unfolding all_places
all_places-nowhere test never place zero = refl
all_places-nowhere test never place (suc n) =
    let some : (suc n == 0) ≡ false = grind (arith, nat_tests) in
    some ∙ sym (ap (λ (b : Bool). b && all_places test (place + 1) n) (never place))
