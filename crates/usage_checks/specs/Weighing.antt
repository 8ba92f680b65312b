-- What it is to weigh a part of a program.
use Rattle.std.specs.Prelude.{◌≡◌, ℕ, ◌+◌, nat_lt, true, List, map, if◌then◌else◌, Option, Some, None}
use Rattle.std.specs.Option.{option_or}
use Rattle.occam_parser.specs.Lines.{Declaration, Replicator}
use Rattle.occam_parser.specs.Blocks.{Body, One, declaration_line}
use Rattle.scalar_ranges.specs.Entries.{Entry}
use Rattle.scalar_ranges.specs.Moves.{Known}
use Rattle.program_uses.specs.Indices.{is_sequence, turns_of, in_turns}
use Rattle.program_uses.specs.Processes.{in_turn}
use Rattle.program_uses.specs.Signatures.{Parameter}
use Rattle.usage_checks.specs.declared.weighing.Weight.{Weight}
use Rattle.program_sizes.specs.LineSizes.{size_of_declaration, greatest_size, capped}
use Rattle.usage_checks.specs.Sizes.{Measured, plain, total, measures_of_component, end_in}

-- Something of this size is counted, and nothing else is changed.
pub record Counts (old new : Weight) (n : ℕ) : Type 0 where
  pub sum : capped new.sum ≡ capped (old.sum + n)
  pub over : new.over ≡ old.over
  pub complete : new.complete ≡ old.complete

-- A part of this size is counted, if memory was enough. Where counting ended in it is not known.
pub record Sums (old new : Weight) (n : ℕ) : Type 0 where
  pub complete : new.complete ≡ true → old.complete ≡ true
  pub sum : new.complete ≡ true → capped new.sum ≡ capped (old.sum + n)

-- The parts of a program are counted one after another, with the first line at which counting ends, if memory was
-- enough. The sum is exact up to just above the greatest size.
pub record Weighs (old new : Weight) (ms : List Measured) : Type 0 where
  pub complete : new.complete ≡ true → old.complete ≡ true
  pub sum : new.complete ≡ true → capped new.sum ≡ capped (old.sum + total ms)
  pub over : new.complete ≡ true → new.over ≡ option_or old.over (end_in old.sum ms)

-- The same, and the scope is as it was.
pub record WeighsIn (old new : Weight) (before after : Known) (ms : List Measured) : Type 0 where
  pub weight : Weighs old new ms
  pub scope : after ≡ before

-- counting ends on this line, if the sum is above the greatest size
abbrev pub end_at : ℕ → ℕ → Option ℕ
end_at line sum = if nat_lt greatest_size sum then Some line else None

-- the lines of declarations
abbrev pub declared_lines : List Declaration → List Measured
declared_lines ds = map (λ d. plain (declaration_line d) (size_of_declaration d)) ds

-- the one component under a replicator, in one turn and in all of them
abbrev pub measures_of_one : List (List Parameter) → List Entry → Body → List Measured
measures_of_one signatures es (One kind c) = measures_of_component signatures es c

abbrev pub measures_in_turns : List (List Parameter) → List Entry → Replicator → Body → List Measured
measures_in_turns signatures es r b =
    let sequential = is_sequence b in
    let turns = turns_of true es sequential r in
    in_turns (λ n. measures_of_one signatures (in_turn r sequential turns.first n es) b) turns.count
