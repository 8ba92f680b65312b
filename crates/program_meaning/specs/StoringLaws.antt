-- What is stored is held, and what is known of names stays true.
use Rattle.std.specs.Prelude.{◌≡◌, ℕ, ℤ, true, List, Some, None, IsSomeAnd}
use Rattle.word_arithmetic.specs.Range.{Ends, InRange}
use Rattle.occam_parser.specs.declared.tree.ValueType.{ValueType}
use Rattle.occam_parser.specs.Expressions.{Expression}
use Rattle.scalar_ranges.specs.declared.scope.ScalarKind.{ScalarKind}
use Rattle.scalar_ranges.specs.declared.scope.ArrayKind.{ArrayKind}
use Rattle.scalar_ranges.specs.Entries.{Scalar, Array, Entry, meaning_in, number_in}
use Rattle.scalar_ranges.specs.Environments.{One, Environment, Meets}
use Rattle.scalar_ranges.specs.MoveLaws.{put}
use Rattle.scalar_ranges.specs.Bounds.{is_subscript}
use Rattle.scalar_ranges.specs.Values.{number_of}
use Rattle.program_meaning.specs.Storing.{number_held, stored}

-- a name has the same number in a scope and in an environment that meets it
abbrev pub NumbersAgree : Type 0
NumbersAgree = (name : List ℕ) (es : List Entry) (env : Environment) → Meets env es
    → number_held name env ≡ number_in name es

-- A number is stored in a scalar under the number of its name.
abbrev pub ScalarsStored : Type 0
ScalarsStored = (es : List Entry) (env : Environment) (name : List ℕ) (kind : ScalarKind) (type : ValueType)
    (old : Ends) (n : ℕ) (v : ℤ) → Meets env es → meaning_in name es ≡ Some (Scalar kind type old)
    → number_in name es ≡ Some n
    → stored env (record { name = name; subscript = None }) v ≡ Some (put n (One v) env)

-- A number in the range of an array's elements is stored in an element whose subscript lies inside, and the environment
-- after it meets the same scope.
abbrev pub ElementsStored : Type 0
ElementsStored = (es : List Entry) (env : Environment) (name : List ℕ) (e : Expression) (kind : ArrayKind)
    (type : ValueType) (size : ℕ) (range r : Ends) (n : ℕ) (v : ℤ) → Meets env es
    → meaning_in name es ≡ Some (Array kind type (Some size) range) → number_in name es ≡ Some n
    → is_subscript size r ≡ true → IsSomeAnd (number_of env e) (InRange r) → InRange range v
    → IsSomeAnd (stored env (record { name = name; subscript = Some e }) v) (λ after. Meets after es)
