-- What is known of procedures by those that call them.
use Rattle.std.specs.Prelude.{List, [], map, Option, Some, unwrap_or}
use Rattle.scalar_ranges.specs.declared.scope.ScalarKind.TheVariants as scalar
use Rattle.scalar_ranges.specs.declared.scope.ArrayKind.TheVariants as array
use Rattle.scalar_ranges.specs.Entries.{Meaning, Scalar, Array, Channel, Channels, Procedure}
use Rattle.scalar_ranges.specs.Environments.{item_at}
use Rattle.scalar_ranges.specs.Scopes.{meaning_of}
use Rattle.program_uses.specs.declared.uses.End.{End}
use Rattle.program_uses.specs.declared.signature.Parameter as code_parameter
use Rattle.program_uses.specs.declared.signature.Signature as code_signature
use Rattle.program_uses.specs.declared.signature.Passing.{Passing}
use Rattle.program_uses.specs.declared.signature.Passing.TheVariants as passing

-- A parameter: what its name denotes in the procedure, and of a channel the ends that the procedure uses.
pub record Parameter : Type 0 where
  pub meaning : Meaning
  pub ends : List End

abbrev pub parameter_of : code_parameter.Parameter → Parameter
parameter_of p = record { meaning = meaning_of p.meaning; ends = p.ends.items }

abbrev pub parameters_of : code_signature.Signature → List Parameter
parameters_of s = map parameter_of s.parameters.items

-- the parameters of each procedure, by its number
abbrev pub signatures_of : List code_signature.Signature → List (List Parameter)
signatures_of signatures = map parameters_of signatures

abbrev pub passing_of : Meaning → Passing
passing_of (Scalar scalar.Reference type range) = passing.Variable
passing_of (Array array.Variable type size range) = passing.Variable
passing_of (Channel type) = passing.Channel
passing_of (Channels type size) = passing.Channels
passing_of m = passing.Value

-- the parameters of the procedure that a name denotes; none if it is no procedure
abbrev pub parameters_in : List (List Parameter) → Option Meaning → List Parameter
parameters_in signatures (Some (Procedure number)) = unwrap_or (item_at number signatures) []
parameters_in signatures m = []
