-- The variables that a process changes, by their numbers: what is assigned to, received into, or passed as a variable.
use Rattle.std.specs.Prelude.{◌≡◌, ℕ, true, List, [], ◌∷◌, ◌++◌, Option, Some, None, option_and_then}
use Rattle.occam_parser.specs.Expressions.{Expression}
use Rattle.occam_parser.specs.Lines.{Replicator, block_word, Action, Skip, Stop, Assign, Input, Output, Instance, Guard}
use Rattle.occam_parser.specs.Lines.{Receives, Skips}
use Rattle.occam_parser.specs.Blocks.{Process, Declared, Does, Construct, Act, Block, Replicated, Body, One, Part}
use Rattle.occam_parser.specs.Blocks.{Components, NoComponent, Further, Component, Plain, Chosen, Guarded}
use Rattle.scalar_ranges.specs.Entries.{Entry, meaning_in}
use Rattle.program_uses.specs.declared.changes.Changes.{Changes}
use Rattle.program_uses.specs.declared.signature.Passing.{Passing}
use Rattle.program_uses.specs.declared.signature.Passing.TheVariants as passing
use Rattle.program_uses.specs.Declaring.{add, add_outline}
use Rattle.program_uses.specs.Indices.{is_seq, index_meaning}
use Rattle.program_uses.specs.Instances.{place_in, variable_at}
use Rattle.program_uses.specs.Mentions.{variable_in}
use Rattle.program_uses.specs.Signatures.{Parameter, passing_of, parameters_in}

abbrev pub listed : Option ℕ → List ℕ
listed None = []
listed (Some n) = n ∷ []

-- ---- what is on one line

abbrev pub changed_as : Passing → Option ℕ → List ℕ
changed_as passing.Variable n = listed n
changed_as how n = []

abbrev pub changed_by_actual : List Entry → Option Parameter → Expression → List ℕ
changed_by_actual es None e = []
changed_by_actual es (Some p) e = changed_as (passing_of p.meaning) (option_and_then (variable_at es) (place_in e))

abbrev pub changed_by_actuals : List Entry → List Parameter → List Expression → List ℕ
changed_by_actuals es ps [] = []
changed_by_actuals es [] (e ∷ actuals) = changed_by_actual es None e ++ changed_by_actuals es [] actuals
changed_by_actuals es (p ∷ ps) (e ∷ actuals) = changed_by_actual es (Some p) e ++ changed_by_actuals es ps actuals

abbrev pub changed_by_action : List (List Parameter) → List Entry → Action → List ℕ
changed_by_action signatures es Skip = []
changed_by_action signatures es Stop = []
changed_by_action signatures es (Assign target value) = listed (variable_in target.name es)
changed_by_action signatures es (Input channel target) = listed (variable_in target.name es)
changed_by_action signatures es (Output channel value) = []
changed_by_action signatures es (Instance name actuals) =
    changed_by_actuals es (parameters_in signatures (meaning_in name es)) actuals

abbrev pub changed_by_guard : List Entry → Guard → List ℕ
changed_by_guard es (Receives condition channel target) = listed (variable_in target.name es)
changed_by_guard es (Skips condition) = []

-- ---- processes

-- What is declared inside has numbers from the length of the scope on. A body under a replicator changes the same
-- variables in each turn.
abbrev mutual
  pub changed_by : List (List Parameter) → List Entry → Process → List ℕ
  changed_by signatures es (Declared d p) = changed_by signatures (add_outline d es) p
  changed_by signatures es (Does line c) = changed_by_construct signatures es c

  pub changed_by_construct : List (List Parameter) → List Entry → Construct → List ℕ
  changed_by_construct signatures es (Act action) = changed_by_action signatures es action
  changed_by_construct signatures es (Block kind cs) = changed_by_components signatures es cs
  changed_by_construct signatures es (Replicated r b) = changed_by_body signatures es r b

  pub changed_by_body : List (List Parameter) → List Entry → Replicator → Body → List ℕ
  changed_by_body signatures es r (One kind c) =
      changed_by_component signatures (add r.name (index_meaning (is_seq (block_word kind)) None) es) c

  pub changed_by_components : {part : Part} → List (List Parameter) → List Entry → Components part → List ℕ
  changed_by_components signatures es NoComponent = []
  changed_by_components signatures es (Further cs c) =
      changed_by_components signatures es cs ++ changed_by_component signatures es c

  pub changed_by_component : {part : Part} → List (List Parameter) → List Entry → Component part → List ℕ
  changed_by_component signatures es (Plain p) = changed_by signatures es p
  changed_by_component signatures es (Chosen line e p) = changed_by signatures es p
  changed_by_component signatures es (Guarded line g p) = changed_by_guard es g ++ changed_by signatures es p

-- the one component under a replicator
abbrev pub changed_by_one : List (List Parameter) → List Entry → Body → List ℕ
changed_by_one signatures es (One kind c) = changed_by_component signatures es c

-- ---- what is found

-- Numbers were noted, if memory was enough.
pub record Notes (old new : Changes) (ns : List ℕ) : Type 0 where
  pub complete : new.complete ≡ true → old.complete ≡ true
  pub numbers : new.complete ≡ true → new.numbers.items ≡ old.numbers.items ++ ns
