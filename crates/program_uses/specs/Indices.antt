-- The turns in which the body of a replicator is gone over.
use Rattle.std.specs.Prelude.{ℕ, zero, suc, ℤ, pos, ◌+ℤ◌, ◌-ℤ◌, int_le, unsigned_abs, Bool, true, false, List, []}
use Rattle.std.specs.Prelude.{◌++◌, ◌&&◌, ◌||◌, if◌then◌else◌, Option, Some, None, option_and_then}
use Rattle.word_arithmetic.specs.Word.{greatest_word, checked}
use Rattle.word_arithmetic.specs.Range.{Ends, ends_of, full, constant}
use Rattle.occam_layout.specs.declared.mark.Mark.TheVariants as mark
use Rattle.occam_parser.specs.declared.tree.ValueType.TheVariants as value_type
use Rattle.occam_parser.specs.Terminals.{Terminal, Mark}
use Rattle.occam_parser.specs.Lines.{Replicator, block_word}
use Rattle.occam_parser.specs.Blocks.{Body, One}
use Rattle.scalar_ranges.specs.declared.scope.ScalarKind.TheVariants as scalar
use Rattle.scalar_ranges.specs.declared.types.ExprType.TheVariants as types
use Rattle.scalar_ranges.specs.Entries.{Meaning, Constant, Scalar, Entry}
use Rattle.program_uses.specs.declared.indices.Turns.{Turns}
use Rattle.program_uses.specs.declared.indices.Repeats as code_repeats
use Rattle.program_uses.specs.Constants.{value_as}

abbrev pub is_seq : Terminal → Bool
is_seq (Mark mark.Seq) = true
is_seq t = false

-- whether a body is under a SEQ
abbrev pub is_sequence : Body → Bool
is_sequence (One kind c) = is_seq (block_word kind)

-- a count from 1 on with which the last index is a word
abbrev pub is_count : ℤ → ℤ → Bool
is_count base count = int_le (pos 1) count && int_le (base +ℤ count) (greatest_word +ℤ pos 1)

-- how often a body is gone over: once if the count is 0 or breaks a rule
abbrev pub count_of : ℤ → Option ℤ → ℕ
count_of base (Some count) = if is_count base count then unsigned_abs count else 1
count_of base None = 1

abbrev pub turns_from : Bool → Option ℤ → Option ℤ → Turns
turns_from counted (Some base) count =
    record { first = Some base; count = if counted then count_of base count else 1 }
turns_from counted None count = record { first = None; count = 1 }

-- The body of a replicated SEQ is gone over once, of another block once for each index, from the base on.
abbrev pub turns_for : Bool → Bool → Option ℤ → Option ℤ → Turns
turns_for counted true base count = record { first = None; count = 1 }
turns_for counted false base count = turns_from counted base count

abbrev pub turns_of : Bool → List Entry → Bool → Replicator → Turns
turns_of counted es sequential r =
    turns_for counted sequential (value_as es types.Int r.base) (value_as es types.Int r.count)

-- the index of a turn
abbrev pub index_at : Option ℤ → ℕ → Option ℤ
index_at first n = option_and_then (λ v. checked (v +ℤ pos n)) first

-- The index of a SEQ is a number in a range, and that of another block is a constant.
abbrev pub index_of : Bool → Ends → Option ℤ → Meaning
index_of true range value = Scalar scalar.Index value_type.Int range
index_of false range value = Constant value_type.Int value

-- where nothing is known of the index of a SEQ
abbrev pub index_meaning : Bool → Option ℤ → Meaning
index_meaning sequential value = index_of sequential full value

-- Whether a body is gone over as often as it runs: its count is from 1 on and breaks no rule, and it is counted.
abbrev pub happens : Bool → Option ℤ → Option ℤ → Bool
happens counted (Some base) (Some count) = counted && is_count base count
happens counted base count = false

-- the numbers that the index of a SEQ may be
abbrev pub index_range : Option ℤ → Option ℤ → Ends
index_range (Some base) (Some count) =
    if is_count base count then record { lo = base; hi = base +ℤ (count -ℤ pos 1) } else constant base
index_range base count = full

-- How a body is gone over: whether its block is a SEQ, in which turns, with which indices of a SEQ, and whether it is
-- gone over as often as it runs.
pub record Repeats : Type 0 where
  pub sequential : Bool
  pub turns : Turns
  pub indices : Ends
  pub happens : Bool

abbrev pub repeats_of : Bool → List Entry → Bool → Replicator → Repeats
repeats_of counted es sequential r = record {
  sequential = sequential;
  turns = turns_of counted es sequential r;
  indices = index_range (value_as es types.Int r.base) (value_as es types.Int r.count);
  happens = sequential || happens counted (value_as es types.Int r.base) (value_as es types.Int r.count);
}

abbrev pub seen_repeats : code_repeats.Repeats → Repeats
seen_repeats r = record {
  sequential = r.sequential;
  turns = r.turns;
  indices = ends_of r.indices;
  happens = r.happens;
}

-- what the index of a block denotes in a turn
abbrev pub index_in : Repeats → ℕ → Meaning
index_in r n = index_of r.sequential r.indices (index_at r.turns.first n)

-- what becomes of something in this number of turns
abbrev pub turn_by_turn : {A : Type 0} → (ℕ → A → A) → ℕ → A → A
turn_by_turn step zero x = x
turn_by_turn step (suc n) x = step n (turn_by_turn step n x)

-- what is gathered in this number of turns
abbrev pub in_turns : {A : Type 0} → (ℕ → List A) → ℕ → List A
in_turns f zero = []
in_turns f (suc n) = in_turns f n ++ f n
