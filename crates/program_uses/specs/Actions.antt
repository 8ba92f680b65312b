-- What one line uses: an action, a guard or a declaration.
use Rattle.std.specs.Prelude.{ℕ, nat_lt, Bool, true, List, [], ◌∷◌, ◌++◌, Option, Some, None}
use Rattle.occam_parser.specs.Expressions.{Expression}
use Rattle.occam_parser.specs.OneOrMore.{as_list}
use Rattle.occam_parser.specs.Lines.{Value, Scalar, Table, Bytes, Declaration, Constants, Variables, Channels}
use Rattle.occam_parser.specs.Lines.{Action, Skip, Stop, Assign, Input, Output, Instance, Guard, Receives, Skips}
use Rattle.scalar_ranges.specs.Entries.{Entry, meaning_in}
use Rattle.program_uses.specs.declared.uses.Direction.TheVariants as direction
use Rattle.program_uses.specs.declared.uses.Use.{Use}
use Rattle.program_uses.specs.Mentions.{reads_of}
use Rattle.program_uses.specs.Places.{reads_if_any, changes_of, ends_of}
use Rattle.program_uses.specs.Signatures.{Parameter, parameters_in}
use Rattle.program_uses.specs.Instances.{uses_of_actuals}

-- The procedures before a place, and the line from which on nothing is counted, if there is one.
pub record Around : Type 0 where
  pub signatures : List (List Parameter)
  pub uncounted : Option ℕ

abbrev pub is_before : ℕ → Option ℕ → Bool
is_before line None = true
is_before line (Some end) = nat_lt line end

abbrev pub uses_of_action : Around → List Entry → ℕ → Action → List Use
uses_of_action a es line Skip = []
uses_of_action a es line Stop = []
uses_of_action a es line (Assign target value) = changes_of es target ++ reads_of es value
uses_of_action a es line (Input channel target) = ends_of es direction.Input channel ++ changes_of es target
uses_of_action a es line (Output channel value) = ends_of es direction.Output channel ++ reads_of es value
uses_of_action a es line (Instance name actuals) =
    uses_of_actuals (is_before line a.uncounted) es (parameters_in a.signatures (meaning_in name es)) actuals

abbrev pub uses_of_guard : List Entry → Guard → List Use
uses_of_guard es (Receives condition channel target) =
    reads_if_any es condition ++ (ends_of es direction.Input channel ++ changes_of es target)
uses_of_guard es (Skips condition) = reads_of es condition

abbrev pub reads_of_all : List Entry → List Expression → List Use
reads_of_all es [] = []
reads_of_all es (e ∷ rest) = reads_of es e ++ reads_of_all es rest

abbrev pub reads_of_value : List Entry → Value → List Use
reads_of_value es (Scalar value) = reads_of es value
reads_of_value es (Table size items) = reads_of es size ++ reads_of_all es (as_list items)
reads_of_value es (Bytes size bytes) = reads_of es size

abbrev pub uses_of_declaration : List Entry → Declaration → List Use
uses_of_declaration es (Constants c) = reads_of_value es c.value
uses_of_declaration es (Variables n) = reads_if_any es n.size
uses_of_declaration es (Channels n) = reads_if_any es n.size
