-- A process that lives is at a state of its mode, whatever it waits for.
use Rattle.std.proofs.Common.{◌≡◌, ℕ, zero, suc, ◌<◌, Bool, true, false, if◌then◌else◌, [], ◌∷◌, length}
use Rattle.std.proofs.Common.{Some, refl, ap, arith}
use Rattle.module_format.specs.Contents.{Contents}
use Rattle.machine_state.specs.declared.process.Mode.TheVariants as modes
use Rattle.machine_state.specs.declared.process.Task.{Task}
use Rattle.machine_state.specs.Holding.{Holding}
use Rattle.machine_state.specs.Memory.{Memory, byte_at}
use Rattle.rulings.specs.Meaning.{SameMode}
use Rattle.rulings.proofs.Within.{is_starting}
use Rattle.certified_worlds.specs.Lives.{awaits, Lives}
use Rattle.certified_worlds.specs.Point.{Began}
use Rattle.certified_worlds.proofs.Steps.{still_state}

-- the same memory, but that the bytes at the places that pass a test are 0
zeroed : (ℕ → Bool) → Memory → Memory
zeroed test [] = []
zeroed test (b ∷ bs) = (if test 0 then Some 0 else b) ∷ zeroed (λ k. test (suc k)) bs

zeroed_size : (test : ℕ → Bool) (memory : Memory) → length (zeroed test memory) ≡ length memory
unfolding zeroed
zeroed_size test [] = refl
zeroed_size test (b ∷ bs) = ap suc (zeroed_size (λ k. test (suc k)) bs)

zeroed_here : (test : ℕ → Bool) (memory : Memory) (place : ℕ) → place < length memory → test place ≡ true
    → byte_at (zeroed test memory) place ≡ Some 0
unfolding zeroed
zeroed_here test [] place low is = absurd (omega (arith, low))
zeroed_here test (b ∷ bs) zero low is = ap (λ (c : Bool). if c then Some 0 else b) is
zeroed_here test (b ∷ bs) (suc place) low is = zeroed_here (λ k. test (suc k)) bs place (omega (arith, low)) is

zeroed_beside : (test : ℕ → Bool) (memory : Memory) (place : ℕ) → test place ≡ false
    → byte_at (zeroed test memory) place ≡ byte_at memory place
unfolding zeroed
zeroed_beside test [] place is = refl
zeroed_beside test (b ∷ bs) zero is = ap (λ (c : Bool). if c then Some 0 else b) is
zeroed_beside test (b ∷ bs) (suc place) is = zeroed_beside (λ k. test (suc k)) bs place is

-- What it awaits may come, and then it is there.
pub fits_mode : {m : Contents} {h : Holding} {began : Began} {memory : Memory} {t : Task} {due : ℕ}
    (l : Lives m h began memory t due) → SameMode l.point.state.mode t.mode
fits_mode {memory = memory} {t = t} l =
    let awaited : ℕ → Bool = λ place. awaits t.condition place in
    (l.claim (zeroed awaited memory) (zeroed_size awaited memory)
    (λ place may free. zeroed_beside awaited memory place free)
    (λ place e. (0, zeroed_here awaited memory place (l.room place e).1 e, omega arith))).here.same_mode

-- and at one that starts no branches, if it starts none
pub at_still : {m : Contents} {h : Holding} {began : Began} {memory : Memory} {t : Task} {due : ℕ}
    (l : Lives m h began memory t due) → (t.mode ≡ modes.Starting → ⊥) → is_starting l.point.state.mode ≡ false
at_still l unstarted = still_state (fits_mode l) unstarted
