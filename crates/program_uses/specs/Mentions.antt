-- What expressions use: the variables that they mention.
use Rattle.std.specs.Prelude.{ℕ, Bool, true, false, List, [], ◌∷◌, ◌++◌, if◌then◌else◌, Option, Some, None}
use Rattle.occam_parser.specs.Expressions.{Expression, Alone, Prefixed, Paired, Chained, Terms, Two, Then, Term}
use Rattle.occam_parser.specs.Expressions.{Named, Element, Bracketed, Converted}
use Rattle.scalar_ranges.specs.declared.scope.ScalarKind.{ScalarKind}
use Rattle.scalar_ranges.specs.declared.scope.ScalarKind.TheVariants as scalar
use Rattle.scalar_ranges.specs.declared.scope.ArrayKind.{ArrayKind}
use Rattle.scalar_ranges.specs.declared.scope.ArrayKind.TheVariants as array
use Rattle.scalar_ranges.specs.Entries.{Meaning, Scalar, Array, Entry, meaning_in, number_in}
use Rattle.program_uses.specs.declared.uses.Use.{Use}
use Rattle.program_uses.specs.declared.uses.Use.TheVariants as used

-- what can be changed, by a process or by what it passes as a variable
abbrev pub is_changeable : ScalarKind → Bool
is_changeable scalar.Variable = true
is_changeable scalar.Reference = true
is_changeable scalar.Value = false
is_changeable scalar.Index = false

abbrev pub are_changeable : ArrayKind → Bool
are_changeable array.Variable = true
are_changeable array.Table = false
are_changeable array.Value = false

-- An array is one variable.
abbrev pub is_variable : Option Meaning → Bool
is_variable (Some (Scalar kind type range)) = is_changeable kind
is_variable (Some (Array kind type size range)) = are_changeable kind
is_variable m = false

-- the number of the variable that a name is, if it is one
abbrev pub variable_in : List ℕ → List Entry → Option ℕ
variable_in name es = if is_variable (meaning_in name es) then number_in name es else None

abbrev pub of_variable : (ℕ → Use) → Option ℕ → List Use
of_variable as_use None = []
of_variable as_use (Some n) = as_use n ∷ []

abbrev pub name_reads : List Entry → List ℕ → List Use
name_reads es name = of_variable used.Read (variable_in name es)

abbrev pub name_changes : List Entry → List ℕ → List Use
name_changes es name = of_variable used.Change (variable_in name es)

-- Whatever is mentioned is read, whether or not the expression has a type.
abbrev mutual
  pub reads_of : List Entry → Expression → List Use
  reads_of es (Alone t) = reads_of_term es t
  reads_of es (Prefixed op t) = reads_of_term es t
  reads_of es (Paired op a b) = reads_of_term es a ++ reads_of_term es b
  reads_of es (Chained op ts) = reads_of_terms es ts

  pub reads_of_terms : List Entry → Terms → List Use
  reads_of_terms es (Two a b) = reads_of_term es a ++ reads_of_term es b
  reads_of_terms es (Then ts t) = reads_of_terms es ts ++ reads_of_term es t

  pub reads_of_term : List Entry → Term → List Use
  reads_of_term es (Named name) = name_reads es name
  reads_of_term es (Element name e) = name_reads es name ++ reads_of es e
  reads_of_term es (Bracketed e) = reads_of es e
  reads_of_term es (Converted to t) = reads_of_term es t
  reads_of_term es t = []
