-- What is known after an action, and where a condition or a guard holds.
use Rattle.std.specs.Prelude.{ℕ, suc, true, List, [], ◌∷◌, Option, Some, None, Result, Ok, Err}
use Rattle.std.specs.Prelude.{option_and_then}
use Rattle.word_arithmetic.specs.Range.{Ends}
use Rattle.occam_parser.specs.Expressions.{Expression}
use Rattle.occam_parser.specs.Lines.{Place, Action, Skip, Stop, Assign, Input, Output, Instance}
use Rattle.occam_parser.specs.Lines.{Guard, Receives, Skips}
use Rattle.scalar_ranges.specs.Entries.{Entry, meaning_in}
use Rattle.scalar_ranges.specs.Environments.{item_at}
use Rattle.scalar_ranges.specs.Bounds.{bound_of, range_found}
use Rattle.scalar_ranges.specs.Narrowing.{narrow}
use Rattle.scalar_ranges.specs.Moves.{at_number, with_meaning, assign, widened}
use Rattle.program_uses.specs.declared.signature.Passing.{Passing}
use Rattle.program_uses.specs.declared.signature.Passing.TheVariants as passing
use Rattle.program_uses.specs.Signatures.{Parameter, passing_of, parameters_in}
use Rattle.program_uses.specs.Instances.{place_in, variable_at}

-- something is received into a variable, if there is one
abbrev pub receive_if : Option ℕ → List Entry → List Entry
receive_if None es = es
receive_if (Some number) es = at_number (with_meaning widened) number es

-- A variable has the range of what is assigned to it. Of what breaks a rule nothing is known.
abbrev pub assign_if : Option ℕ → Result Ends ℕ → List Entry → List Entry
assign_if None range es = es
assign_if (Some number) (Ok range) es = assign number range es
assign_if (Some number) (Err e) es = receive_if (Some number) es

-- an array is not known element by element
abbrev pub after_assignment : Place → Expression → List Entry → List Entry
after_assignment target value es = assign_if (variable_at es target) (range_found (bound_of es value)) es

abbrev pub after_input : Place → List Entry → List Entry
after_input target es = receive_if (variable_at es target) es

-- the variable that is passed to a parameter as one
abbrev pub passed_as : Passing → List Entry → Expression → Option ℕ
passed_as passing.Variable es e = option_and_then (variable_at es) (place_in e)
passed_as other es e = None

abbrev pub passed_to : Option Parameter → List Entry → Expression → Option ℕ
passed_to None es e = None
passed_to (Some q) es e = passed_as (passing_of q.meaning) es e

-- from a place on, each actual with the parameter at its place
abbrev pub after_actuals : List Parameter → ℕ → List Expression → List Entry → List Entry
after_actuals qs i [] es = es
after_actuals qs i (e ∷ actuals) es =
    after_actuals qs (suc i) actuals (receive_if (passed_to (item_at i qs) es e) es)

abbrev pub after_action : List (List Parameter) → Action → List Entry → List Entry
after_action signatures Skip es = es
after_action signatures Stop es = es
after_action signatures (Assign target value) es = after_assignment target value es
after_action signatures (Input channel target) es = after_input target es
after_action signatures (Output channel value) es = es
after_action signatures (Instance name actuals) es =
    after_actuals (parameters_in signatures (meaning_in name es)) 0 actuals es

-- where a condition holds, if there is one
abbrev pub where_holds : Option Expression → List Entry → List Entry
where_holds None es = es
where_holds (Some e) es = narrow es e true

-- The condition of a guard narrows, and then its input widens.
abbrev pub after_guard : Guard → List Entry → List Entry
after_guard (Receives condition channel target) es = after_input target (where_holds condition es)
after_guard (Skips e) es = where_holds (Some e) es
