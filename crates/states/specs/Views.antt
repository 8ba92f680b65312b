-- A state in memory, as the state that it is, and the module that it is one of.
use Rattle.std.specs.Prelude.{◌≡◌, ℕ, ℤ, pos, ◌+ℤ◌, ◌≤ℤ◌, ◌<ℤ◌, Bool, true, Option, IfSome, is_some}
use Rattle.std.specs.Prelude.{vec_capacity}
use Rattle.module_format.specs.Contents.{Contents}
use Rattle.module_format.specs.Contexts.{context_at}
use Rattle.module_format.specs.Keeping.{Keeps}
use Rattle.certificate.specs.Rights.{has_word}
use Rattle.certificate.specs.Words.{all_words}
use Rattle.states.specs.declared.state.State.{State as InMemory}
use Rattle.states.specs.State.{State}
use Rattle.states.specs.Frames.{frame_facts, HasRoom}

abbrev pub state_of : InMemory → State
state_of s = record {
  context = s.context;
  depth = s.depth;
  stack = s.stack;
  frame = frame_facts s.frame;
  number = s.number;
  mode = s.mode;
  guards = s.guards.items;
}

-- word `k` is within the capacity
pub record CanWrite (s : InMemory) (k : ℤ) : Type 0 where
  pub room : HasRoom s.frame k

-- The state is one of this valid module: it asks the module, remembers comparisons with its labels, and has capacity
-- for each word of each context.
pub record BelongsTo (m : Contents) (s : InMemory) : Type 0 where
  pub kept : Keeps m
  pub is : s.module.now ≡ m
  pub remembers : s.frame.remembered.«module».now ≡ m
  pub room : (n : ℕ) (k : ℤ) → has_word (context_at m n) k ≡ true → CanWrite s k

-- A word is returned exactly if the state's context may use it so. It is returned as the word that it is, and is within
-- the capacity.
pub record IsUsable (may_use : Contents → ℕ → ℤ → Bool) (s : InMemory) (word : ℤ) (usable : Option ℤ) : Type 0 where
  pub some : IfSome usable (λ k. k ≡ word)
  pub allowed : (m : Contents) → BelongsTo m s → is_some usable ≡ may_use m s.context word
  pub room : (m : Contents) → BelongsTo m s → IfSome usable (CanWrite s)

-- the words of a span are within the capacity
pub record CanWriteSpan (s : InMemory) (first : ℤ) (count : ℕ) : Type 0 where
  pub each : (k : ℤ) → first ≤ℤ k → k <ℤ (first +ℤ pos count) → CanWrite s k

-- The state's context may use each word of a span so, and each is within the capacity.
pub record AreUsable (may_use : Contents → ℕ → ℤ → Bool) (s : InMemory) (first : ℤ) (count : ℕ)
    (usable : Bool) : Type 0 where
  pub allowed : (m : Contents) → BelongsTo m s → usable ≡ all_words (may_use m s.context) first count
  pub room : (m : Contents) → BelongsTo m s → usable ≡ true → CanWriteSpan s first count

-- The state is what it was, and belongs to the same module; its capacity for words and for guards is the same.
pub record IsLeft (old new : InMemory) : Type 0 where
  pub state : state_of new ≡ state_of old
  pub belongs : (m : Contents) → BelongsTo m old → BelongsTo m new
  pub room : (k : ℤ) → CanWrite old k → CanWrite new k
  pub guards : vec_capacity new.guards ≡ vec_capacity old.guards
