-- The capacity of a state: the frame words of all contexts of a module, and guards.
use Rattle.std.specs.Prelude.{◌≡◌, ℕ, ℤ, ◌≤◌, ◌≤ℤ◌, ◌<ℤ◌, true, vec_capacity}
use Rattle.module_format.specs.Contents.{Contents}
use Rattle.module_format.specs.Contexts.{context_at}
use Rattle.certificate.specs.Rights.{has_word}
use Rattle.states.specs.declared.state.State.{State}
use Rattle.states.specs.declared.state.TheConstants.{MAX_GUARDS}

-- each word of each context lies from lo up to hi
pub record Covers (m : Contents) (lo hi : ℤ) : Type 0 where
  pub low : (n : ℕ) (k : ℤ) → has_word (context_at m n) k ≡ true → lo ≤ℤ k
  pub high : (n : ℕ) (k : ℤ) → has_word (context_at m n) k ≡ true → k <ℤ hi

-- there is capacity for as many guards as an alternation may have
pub record HasRoomForGuards (s : State) : Type 0 where
  pub room : MAX_GUARDS ≤ vec_capacity s.guards
