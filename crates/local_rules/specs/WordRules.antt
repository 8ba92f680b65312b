-- What the rules say of words: what is loaded, the results of operations and where they come from, and what a condition
-- shows of a word.
use Rattle.std.specs.Prelude.{Bool, true, false, not, ◌&&◌, if◌then◌else◌, ℤ, pos, int_le, int_lt, Option, Some, None}
use Rattle.std.specs.Prelude.{is_some}
use Rattle.std.specs.Option.{option_map, option_and_then}
use Rattle.word_arithmetic.specs.declared.binary.Binary.{Binary as BinaryOperation}
use Rattle.word_arithmetic.specs.declared.binary.Binary.TheVariants as binary
use Rattle.word_arithmetic.specs.declared.unary.Unary.{Unary as UnaryOperation}
use Rattle.word_arithmetic.specs.Range.{Ends, range_between, only_number, full, truths, shift_left_range}
use Rattle.word_arithmetic.specs.Range.{shift_right_range, left_by, words_above, words_below}
use Rattle.word_arithmetic.specs.Binary.{result_range}
use Rattle.word_arithmetic.specs.Unary.{unary_result_range}
use Rattle.module_format.specs.Rows.{Fact}
use Rattle.module_format.specs.declared.fact.Fact.TheVariants.{Number}
use Rattle.module_format.specs.declared.stack.Stack.{Stack}
use Rattle.module_format.specs.Contexts.{context_at}
use Rattle.machine_state.specs.declared.op.TheConstants.{MOST_SHIFT}
use Rattle.machine_state.specs.declared.op.Shift.{Shift}
use Rattle.machine_state.specs.declared.op.Shift.TheVariants as shifts
use Rattle.machine_state.specs.declared.op.LongOp.{LongOp}
use Rattle.machine_state.specs.declared.op.LongOp.TheVariants as long
use Rattle.states.specs.declared.rule.Rule.TheVariants as rules
use Rattle.states.specs.declared.known.Known.{Known}
use Rattle.states.specs.declared.known.Source.{Source}
use Rattle.states.specs.declared.known.Source.TheVariants.{Nowhere, From, Test}
use Rattle.states.specs.declared.known.WordFact.{WordFact}
use Rattle.states.specs.declared.known.WordFact.TheVariants.{Alone}
use Rattle.states.specs.State.{State, Facts, unknown, known, plain, is_same_number}
use Rattle.states.specs.Frames.{with_alone}
use Rattle.local_rules.specs.declared.numbers.Check.{Check}
use Rattle.local_rules.specs.declared.numbers.Check.TheVariants as check
use Rattle.rulings.specs.Rulings.{Ruling, breaks, Site, alone, uses, goes_on, pop, with_a, in_bounds}

-- a constant
abbrev pub known_constant : ℤ → Known
known_constant v = known (Number v v)

-- where what ldl gives comes from: a number is that of the word
abbrev pub source_of : ℤ → Fact → Source
source_of k (Number lo hi) = From k
source_of k _ = Nowhere

-- what ldl gives: the plain fact of the word, and where it is a number, that it comes from there
abbrev pub word_as_known : ℤ → WordFact → Known
word_as_known k word = record { fact = plain word; source = source_of k (plain word) }

-- ---- numbers

-- the range of a number; None of any other fact
abbrev pub range_of : Fact → Option Ends
range_of (Number lo hi) = range_between lo hi
range_of _ = None

abbrev pub number_in : Ends → Fact
number_in r = Number r.lo r.hi

-- the one number that a fact says; `None` if it says several, or is none
abbrev pub constant_in : Fact → Option ℤ
constant_in fact = option_and_then only_number (range_of fact)

-- the fact is a number, which has a range
abbrev pub has_range : Fact → Bool
has_range fact = is_some (range_of fact)

-- both facts are numbers, whose ranges pass the test
unfoldable pub numbers_have : (Ends → Ends → Bool) → Fact → Fact → Bool
numbers_have test left right = elim (range_of left) [
  | None ↦ false
  | Some r ↦ elim (range_of right) [ None ↦ false | Some s ↦ test r s ]
]

-- a module has the long operations, or it has not
unfoldable pub has_long_operations : Site → Ruling → Ruling
has_long_operations site k = if site.contents.has_long_operations then k else breaks rules.Spelling

-- ---- results

-- what is known of the results of an operation of two numbers, of whose ranges this is the range; `None` if it may
-- fail, or they are no numbers
unfoldable pub fact_of_two : (Ends → Ends → Option Ends) → Fact → Fact → Option Fact
fact_of_two results left right = elim (range_of left) [
  | None ↦ None
  | Some r ↦ elim (range_of right) [ None ↦ None | Some s ↦ option_map number_in (results r s) ]
]

abbrev pub result_fact : BinaryOperation → Fact → Fact → Option Fact
result_fact op left right = fact_of_two (result_range op) left right

-- the same of one number
unfoldable pub unary_result_fact : UnaryOperation → Fact → Option Fact
unary_result_fact op operand = elim (range_of operand) [
  | None ↦ None
  | Some r ↦ option_map number_in (unary_result_range op r)
]

-- counts of bits by which a word may be shifted
abbrev pub are_shift_counts : Ends → Bool
are_shift_counts counts = int_le (pos 0) counts.lo && int_le counts.hi (pos MOST_SHIFT)

-- the range of a shift; `None` if a count may be out of range
unfoldable pub shift_range : Shift → Ends → Ends → Option Ends
shift_range shifts.Left r counts = if are_shift_counts counts then Some (shift_left_range r counts) else None
shift_range shifts.Right r counts = if are_shift_counts counts then Some (shift_right_range r) else None

-- a subscript lies from 0 to below each bound
abbrev pub is_subscript : Ends → Ends → Bool
is_subscript r bounds = int_le (pos 0) r.lo && int_lt r.hi bounds.lo

-- a count lies from 1 up to each bound
abbrev pub is_count : Ends → Ends → Bool
is_count r bounds = int_le (pos 1) r.lo && int_le r.hi bounds.lo

-- the test that a check is
abbrev pub test_of_check : Check → Ends → Ends → Bool
test_of_check check.Subscript = is_subscript
test_of_check check.Count = is_count

-- csub0 and ccnt1: B passes a test by A, and is kept
abbrev pub checks : (Ends → Ends → Bool) → Site → State → Ruling
checks test site s =
    uses s.stack.a (λ a. uses s.stack.b (λ b. in_bounds (numbers_have test b a) (alone s.mode (goes_on site (pop s)))))

-- what a long operation leaves in B: the carry, the borrow, or the high word
abbrev pub high_range : LongOp → Ends
high_range long.Sum = truths
high_range long.Difference = truths
high_range long.Product = full

abbrev pub long_results : LongOp → Stack Known
long_results op = record { a = known (number_in full); b = known (number_in (high_range op)); c = unknown }

-- ---- where results come from

-- whether a word lies in a range, where there is one
abbrev pub test_of : ℤ → Option Ends → Source
test_of word None = Nowhere
test_of word (Some r) = Test word r.lo r.hi true

-- the word that the one is, and the constant that the other is
abbrev pub word_and_constant : Known → Known → Option (ℤ × ℤ)
word_and_constant one other = elim one.source [
  | From word ↦ option_map (λ v. (word, v)) (constant_in other.fact)
  | _ ↦ None
]

-- whether the first is greater shows the range of a word, if the other one is a constant
unfoldable pub greater_source : Known → Known → Source
greater_source left right = elim (word_and_constant left right) [
  | Some found ↦ test_of found.0 (words_above found.1)
  | None ↦ elim (word_and_constant right left) [
    | Some found ↦ test_of found.0 (words_below found.1)
    | None ↦ Nowhere
  ]
]

-- whether something is a constant shows whether a word is it; whether it is 0 is the opposite of what it shows
unfoldable pub equal_source : Known → ℤ → Source
equal_source left v = elim left.source [
  | Nowhere ↦ Nowhere
  | From word ↦ Test word v v true
  | Test word lo hi inside ↦ if is_same_number v (pos 0) then Test word lo hi (not inside) else Nowhere
]

abbrev pub result_source : BinaryOperation → Known → Known → Source
result_source binary.Greater left right = greater_source left right
result_source _ left right = Nowhere

abbrev pub constant_source : BinaryOperation → Known → ℤ → Source
constant_source binary.Equal left v = equal_source left v
constant_source _ left v = Nowhere

-- A becomes the result, of which this is known
unfoldable pub becomes : Site → Option Fact → Source → State → Ruling
becomes site None source s = breaks rules.Number
becomes site (Some fact) source s = alone s.mode (goes_on site (with_a (record { fact = fact; source = source }) s))

-- ---- narrowing

-- the range of a word that is a number, and none of a loop
abbrev pub own_range : WordFact → Option Ends
own_range (Alone fact) = range_of fact
own_range _ = None

-- both or neither
abbrev pub same : Bool → Bool → Bool
same within holds = if within then holds else not holds

-- What is known of words if a value that comes from there is true, or false: a test narrows its word, if that is a
-- number.
unfoldable pub narrowed_words : Source → Bool → Facts → Facts
narrowed_words (Test word lo hi within) holds facts = elim (own_range (facts word)) [
  | None ↦ facts
  | Some r ↦ elim (range_between lo hi) [
    | None ↦ facts
    | Some other ↦ with_alone word (number_in (left_by (same within holds) r other)) facts
  ]
]
narrowed_words _ holds facts = facts

-- where the condition in A is false, and where it is true
abbrev pub where_false : State → State
where_false s = with_a (known_constant (pos 0)) (record s { frame = narrowed_words s.stack.a.source false s.frame })

abbrev pub where_true : State → State
where_true s = pop (record s { frame = narrowed_words s.stack.a.source true s.frame })

-- ---- the workspace

-- the workspace stays within the bounds of the frame
unfoldable pub in_frame : Site → State → ℤ → Ruling → Ruling
in_frame site s depth k = elim (context_at site.contents s.context) [
  | None ↦ breaks rules.OwnWord
  | Some context ↦ if int_le context.lo depth && int_le depth context.hi then k else breaks rules.OwnWord
]
