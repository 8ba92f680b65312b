-- How large a program is, by what the check goes over. The measure is our own choice: it estimates work.
use Rattle.std.specs.Prelude.{ℕ, suc, ◌+◌, nat_lt, Bool, true, false, ◌&&◌, List, [], ◌∷◌, ◌++◌, length}
use Rattle.std.specs.Prelude.{if◌then◌else◌, Option, Some, None, option_and_then}
use Rattle.occam_parser.specs.Expressions.{Expression}
use Rattle.occam_parser.specs.Lines.{Place, Replicator, Constants, Action, Skip, Stop, Assign, Input, Output, Instance}
use Rattle.occam_parser.specs.Lines.{block_word}
use Rattle.occam_parser.specs.Blocks.{Process, Declared, Does, Construct, Act, Block, Replicated, Body, One, Part}
use Rattle.occam_parser.specs.Blocks.{Components, NoComponent, Further, Component, Plain, Chosen, Guarded}
use Rattle.occam_parser.specs.Blocks.{ProgramItem, GlobalConstant, GlobalProcedure, declaration_line}
use Rattle.program_sizes.specs.LineSizes.{size_of_expression, size_of_declaration, size_of_action, size_of_guard}
use Rattle.program_sizes.specs.LineSizes.{size_of_replicator, size_of_head, greatest_size}
use Rattle.scalar_ranges.specs.Entries.{Entry, meaning_in}
use Rattle.scalar_ranges.specs.Environments.{item_at}
use Rattle.program_uses.specs.declared.uses.End.{End}
use Rattle.program_uses.specs.declared.signature.Passing.{Passing}
use Rattle.program_uses.specs.declared.signature.Passing.TheVariants as passing
use Rattle.program_uses.specs.Declaring.{add_outline, add_formals}
use Rattle.program_uses.specs.Indices.{is_seq, turns_of, in_turns}
use Rattle.program_uses.specs.Instances.{place_in, array_at}
use Rattle.program_uses.specs.Processes.{in_turn}
use Rattle.program_uses.specs.Signatures.{Parameter, passing_of, parameters_in}

-- ---- what an instance counts besides: the ends that its procedure uses of an array of channels that is passed whole

abbrev pub ends_of_array : List End → Option ℕ → ℕ
ends_of_array ends None = 0
ends_of_array ends (Some array) = length ends

abbrev pub ends_passed : List Entry → Passing → List End → Option Place → ℕ
ends_passed es passing.Value ends p = 0
ends_passed es passing.Variable ends p = 0
ends_passed es passing.Channel ends p = 0
ends_passed es passing.Channels ends p = ends_of_array ends (option_and_then (array_at es) p)

abbrev pub ends_of_actual : List Entry → Option Parameter → Expression → ℕ
ends_of_actual es None e = 0
ends_of_actual es (Some p) e = ends_passed es (passing_of p.meaning) p.ends (place_in e)

-- from a place on, each actual with the parameter at its place
abbrev pub ends_of_actuals : List Entry → List Parameter → ℕ → List Expression → ℕ
ends_of_actuals es ps i [] = 0
ends_of_actuals es ps i (e ∷ actuals) = ends_of_actual es (item_at i ps) e + ends_of_actuals es ps (suc i) actuals

abbrev pub ends_of_instance : List (List Parameter) → List Entry → Action → ℕ
ends_of_instance signatures es Skip = 0
ends_of_instance signatures es Stop = 0
ends_of_instance signatures es (Assign target value) = 0
ends_of_instance signatures es (Input channel target) = 0
ends_of_instance signatures es (Output channel value) = 0
ends_of_instance signatures es (Instance name actuals) =
    ends_of_actuals es (parameters_in signatures (meaning_in name es)) 0 actuals

abbrev pub is_instance : Action → Bool
is_instance (Instance name actuals) = true
is_instance action = false

-- ---- a program in order

-- A line, or a replicated PAR, IF or ALT with all that is in it, and whether counting may end there.
pub record Measured : Type 0 where
  pub line : ℕ
  pub size : ℕ
  pub may_end : Bool

abbrev pub plain : ℕ → ℕ → Measured
plain line size = record { line = line; size = size; may_end = false }

abbrev pub total : List Measured → ℕ
total [] = 0
total (m ∷ ms) = m.size + total ms

abbrev pub measure_of_action : List (List Parameter) → List Entry → ℕ → Action → Measured
measure_of_action signatures es line action = record {
  line = line;
  size = size_of_action action + ends_of_instance signatures es action;
  may_end = is_instance action;
}

-- A replicator of this size with the turns of its body. Those of a SEQ are lines by themselves.
abbrev pub with_turns : Bool → ℕ → ℕ → List Measured → List Measured
with_turns true line size ms = plain line size ∷ ms
with_turns false line size ms = record { line = line; size = size + total ms; may_end = true } ∷ []

-- Under a replicated PAR, IF or ALT a body counts in each turn, and under a SEQ once.
abbrev mutual
  pub measures_of : List (List Parameter) → List Entry → Process → List Measured
  measures_of signatures es (Declared d p) =
      plain (declaration_line d) (size_of_declaration d) ∷ measures_of signatures (add_outline d es) p
  measures_of signatures es (Does line c) = measures_of_construct signatures es line c

  pub measures_of_construct : List (List Parameter) → List Entry → ℕ → Construct → List Measured
  measures_of_construct signatures es line (Act action) = measure_of_action signatures es line action ∷ []
  measures_of_construct signatures es line (Block kind cs) = plain line 1 ∷ measures_of_components signatures es cs
  measures_of_construct signatures es line (Replicated r b) = measures_of_body signatures es line r b

  pub measures_of_body : List (List Parameter) → List Entry → ℕ → Replicator → Body → List Measured
  measures_of_body signatures es line r (One kind c) =
      let sequential = is_seq (block_word kind) in
      let turns = turns_of true es sequential r in
      with_turns sequential line (size_of_replicator r)
      (in_turns (λ n. measures_of_component signatures (in_turn r sequential turns.first n es) c) turns.count)

  pub measures_of_components : {part : Part} → List (List Parameter) → List Entry → Components part → List Measured
  measures_of_components signatures es NoComponent = []
  measures_of_components signatures es (Further cs c) =
      measures_of_components signatures es cs ++ measures_of_component signatures es c

  pub measures_of_component : {part : Part} → List (List Parameter) → List Entry → Component part → List Measured
  measures_of_component signatures es (Plain p) = measures_of signatures es p
  measures_of_component signatures es (Chosen line e p) =
      plain line (1 + size_of_expression e) ∷ measures_of signatures es p
  measures_of_component signatures es (Guarded line g p) = plain line (size_of_guard g) ∷ measures_of signatures es p

-- The line that ends a procedure counts 1, and counting may not end there.
abbrev pub measures_of_item : List (List Parameter) → List Entry → ProgramItem → List Measured
measures_of_item signatures es (GlobalConstant c) = plain c.line (size_of_declaration (Constants c)) ∷ []
measures_of_item signatures es (GlobalProcedure p) =
    plain p.line (size_of_head p.head)
    ∷ (measures_of signatures (add_formals es p.head.formals es) p.body ++ plain p.line 1 ∷ [])

-- ---- where counting ends

-- the first line at whose end the sum so far is above the greatest size
abbrev pub end_in : ℕ → List Measured → Option ℕ
end_in sum [] = None
end_in sum (m ∷ ms) =
    if m.may_end && nat_lt greatest_size (sum + m.size) then Some m.line else end_in (sum + m.size) ms
