-- What is known of numbers after the operators of straight code: the range of the results of their ranges, and which
-- words a comparison tells of.
use Rattle.std.specs.Prelude.{◌≡◌, ℤ, pos, not, FitsSigned, Bool, true, Some}
use Rattle.std.specs.Int.{w32}
use Rattle.prefix_decoder.specs.declared.function.Fun.TheVariants as fun
use Rattle.word_arithmetic.specs.Range as ranges
use Rattle.word_arithmetic.specs.Range.{Ends, IsRange, truths, not_range, words_above, words_below}
use Rattle.word_arithmetic.specs.Binary.{result_range}
use Rattle.word_arithmetic.specs.declared.binary.Binary.{Binary}
use Rattle.word_arithmetic.specs.declared.binary.Binary.TheVariants as binary
use Rattle.machine_state.specs.declared.op.Op.TheVariants as ops
use Rattle.machine_state.specs.declared.op.Shift.{Shift}
use Rattle.machine_state.specs.Instructions.{op_of}
use Rattle.states.specs.declared.known.Known.{Known}
use Rattle.states.specs.declared.known.Source.TheVariants.{Nowhere, From, Test}
use Rattle.states.specs.State.{known}
use Rattle.local_rules.specs.WordRules.{number_in, constant_in, result_source, equal_source, greater_source}
use Rattle.local_rules.specs.WordRules.{shift_range, test_of}
use Rattle.code_pieces.specs.declared.operations.TheConstants.{NOT}
use Rattle.code_pieces.specs.Pieces.{Direct, operates}
use Rattle.certified_lines.specs.StraightRules.{Setting, Told}
use Rattle.certified_lines.specs.Instructions.{PieceFalls, with_a, with_result}

-- a register is a number in this range, which has ends that are words in order
pub record IsNumberIn (k : Known) (r : Ends) : Type 0 where
  pub is : k.fact ≡ number_in r
  pub range : IsRange r

-- ---- results

-- the results of an operation of B and A
abbrev pub ResultsLieInRanges : Type 0
ResultsLieInRanges = (g : Setting) (operation : ℤ) (op : Binary) (r s q : Ends) (t : Told)
    → op_of operation ≡ Some (ops.Binary op) → IsNumberIn t.stack.b r → IsNumberIn t.stack.a s
    → result_range op r s ≡ Some q
    → PieceFalls g (operates operation) t
    (with_result (record { fact = number_in q; source = result_source op t.stack.b t.stack.a }) t)

-- the sums of A and a constant
abbrev pub SumsLieInRanges : Type 0
SumsLieInRanges = (g : Setting) (e : ℤ) (r q : Ends) (t : Told) → IsNumberIn t.stack.a r → FitsSigned w32 e
    → result_range binary.Add r (ranges.constant e) ≡ Some q
    → PieceFalls g (Direct fun.AddConstant e) t (with_a (known (number_in q)) t)

-- whether A is a constant is 0 or 1
abbrev pub ComparisonsAreTruths : Type 0
ComparisonsAreTruths = (g : Setting) (e : ℤ) (r : Ends) (t : Told) → IsNumberIn t.stack.a r → FitsSigned w32 e
    → PieceFalls g (Direct fun.EqualsConstant e) t
    (with_a (record { fact = number_in truths; source = equal_source t.stack.a e }) t)

abbrev pub TurnedBitsLieInRanges : Type 0
TurnedBitsLieInRanges = (g : Setting) (r : Ends) (t : Told) → IsNumberIn t.stack.a r
    → PieceFalls g (operates NOT) t (with_a (known (number_in (not_range r))) t)

-- the results where B is shifted by A bits
abbrev pub ShiftsLieInRanges : Type 0
ShiftsLieInRanges = (g : Setting) (operation : ℤ) (op : Shift) (r s q : Ends) (t : Told)
    → op_of operation ≡ Some (ops.Shift op) → IsNumberIn t.stack.b r → IsNumberIn t.stack.a s
    → shift_range op r s ≡ Some q
    → PieceFalls g (operates operation) t (with_result (known (number_in q)) t)

-- ---- what comparisons tell of words

-- a word that is greater than a constant, if there are such words
abbrev pub GreaterWordsAreTold : Type 0
GreaterWordsAreTold = (left right : Known) (word v : ℤ) → left.source ≡ From word → constant_in right.fact ≡ Some v
    → greater_source left right ≡ test_of word (words_above v)

-- a word that a constant is greater than
abbrev pub LesserWordsAreTold : Type 0
LesserWordsAreTold = (left right : Known) (word v : ℤ) → left.source ≡ Nowhere → right.source ≡ From word
    → constant_in left.fact ≡ Some v → greater_source left right ≡ test_of word (words_below v)

-- a word that is a constant
abbrev pub EqualWordsAreTold : Type 0
EqualWordsAreTold = (left : Known) (word v : ℤ) → left.source ≡ From word
    → equal_source left v ≡ Test word v v true

-- the opposite of a comparison is whether it is 0
abbrev pub OppositesAreTold : Type 0
OppositesAreTold = (left : Known) (word lo hi : ℤ) (inside : Bool) → left.source ≡ Test word lo hi inside
    → equal_source left (pos 0) ≡ Test word lo hi (not inside)

-- nothing comes from a number that comes from nowhere
abbrev pub NothingIsToldFromNowhere : Type 0
NothingIsToldFromNowhere = (left : Known) (v : ℤ) → left.source ≡ Nowhere → equal_source left v ≡ Nowhere
