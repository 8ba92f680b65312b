-- Steps that may fail, and what an expression's parts give together.
use Rattle.std.specs.Prelude.{ℕ, min, Option, Some, None, Result, Ok, Err}

infixl 10 ◌>>=◌
abbrev pub ◌>>=◌ : {A B : Type 0} → Option A → (A → Option B) → Option B
None >>= f = None
(Some x) >>= f = f x

abbrev pub both_some : {A B C : Type 0} → Option A → Option B → (A → B → Option C) → Option C
both_some None y f = None
both_some (Some x) None f = None
both_some (Some x) (Some y) f = f x y

abbrev pub and_then : {A B : Type 0} → Result A ℕ → (A → Result B ℕ) → Result B ℕ
and_then (Ok x) f = f x
and_then (Err e) f = Err e

-- two parts, each of which is checked: of two faults it is the one with the lower number
abbrev pub paired : {A B : Type 0} → Result A ℕ → Result B ℕ → Result (A × B) ℕ
paired (Ok x) (Ok y) = Ok (x, y)
paired (Ok x) (Err e) = Err e
paired (Err d) (Ok y) = Err d
paired (Err d) (Err e) = Err (min d e)

-- both parts, and then what is made of them
abbrev pub both : {A B C : Type 0} → Result A ℕ → Result B ℕ → (A → B → Result C ℕ) → Result C ℕ
both r s f = and_then (paired r s) (λ x. f x.0 x.1)

abbrev pub ok_or : {A : Type 0} → ℕ → Option A → Result A ℕ
ok_or number None = Err number
ok_or number (Some x) = Ok x
