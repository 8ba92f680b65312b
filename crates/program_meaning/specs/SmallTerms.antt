-- Small programs that show what one part of the language means: a constant, a table, an operator, a condition, a
-- loop that begins below 0, a second link, and a name that hides another.
use Rattle.std.specs.Prelude.{ℕ, ℤ, pos, List, [], ◌∷◌, Some}
use Rattle.word_arithmetic.specs.declared.compare.Comparison.{Comparison}
use Rattle.occam_parser.specs.declared.tree.ValueType.{ValueType}
use Rattle.occam_parser.specs.declared.tree.ValueType.TheVariants as value_type
use Rattle.occam_parser.specs.declared.tree.ChainOperator.TheVariants as chain
use Rattle.occam_parser.specs.declared.tree.Logic.{Logic}
use Rattle.occam_parser.specs.declared.tree.ArithmeticChain.{ArithmeticChain}
use Rattle.occam_parser.specs.declared.tree.ArithmeticPair.{ArithmeticPair}
use Rattle.occam_parser.specs.declared.tree.PrefixOperator.{PrefixOperator}
use Rattle.occam_parser.specs.declared.tree.PairOperator.TheVariants as pair
use Rattle.occam_parser.specs.Expressions.{Expression, Alone, Prefixed, Paired, Chained, Two, Term, Byte}
use Rattle.occam_parser.specs.Expressions.{Element, Bracketed}
use Rattle.occam_parser.specs.Lines.{Value, Table, Bytes, Constants, Variables, Assign, Input, Output}
use Rattle.occam_parser.specs.Blocks.{Process, Declared, NoComponent, ProgramItem}
use Rattle.program_meaning.specs.SmallPrograms.{x, y, i, out0, whole, does, assigns, sends, number, named, with_both}
use Rattle.program_meaning.specs.SmallPrograms.{declares, seq, then_does, choose, then_choose, or_else_does, repeats}
use Rattle.program_meaning.specs.SmallPrograms.{link, main_is}

-- out0 ! an expression
abbrev pub shows : ValueType → Expression → List ProgramItem
shows type e = main_is (link type out0 ∷ []) (sends e)

-- a process with out0 of INT
abbrev pub with_out0 : Process → List ProgramItem
with_out0 p = main_is (link value_type.Int out0 ∷ []) p

-- a number of either sign as an operand
abbrev pub operand : ℤ → Term
operand v = Bracketed (number v)

-- out0 ! a op b
abbrev pub shows_pair : ArithmeticPair → ℤ → ℤ → List ProgramItem
shows_pair op a b = shows value_type.Int (Paired (pair.Arithmetic op) (operand a) (operand b))

-- out0 ! a op b, of an operator that makes chains
abbrev pub shows_chain : ArithmeticChain → ℤ → ℤ → List ProgramItem
shows_chain op a b = shows value_type.Int (with_both op (operand a) (operand b))

-- out0 ! op a
abbrev pub shows_prefixed : PrefixOperator → Term → List ProgramItem
shows_prefixed op a = shows value_type.Int (Prefixed op a)

-- IF
--   a condition
--     out0 ! 1
--   TRUE
--     out0 ! 0
abbrev pub tells : Expression → List ProgramItem
tells condition = with_out0 (choose (or_else_does (then_choose NoComponent condition (sends (number (pos 1))))
    (sends (number (pos 0)))))

abbrev pub compared : Comparison → ℤ → ℤ → Expression
compared c a b = Paired (pair.Comparison c) (operand a) (operand b)

abbrev pub both : Logic → Expression → Expression → Expression
both op a b = Chained (chain.Logic op) (Two (Bracketed a) (Bracketed b))

-- VAL TYPE y IS a value:
-- out0 ! an expression
abbrev pub shows_constant : ValueType → Value → Expression → List ProgramItem
shows_constant type value e = main_is (link type out0 ∷ [])
    (Declared (Constants (record { line = 0; value_type = type; name = y; value = value })) (sends e))

-- VAL [3]INT y IS [1, 2, 300]:
abbrev pub three_numbers : Value
three_numbers = Table (number (pos 3))
    (record { first = number (pos 1); others = number (pos 2) ∷ number (pos 300) ∷ [] })

-- VAL [3]BYTE y IS "abc":
abbrev pub three_letters : Value
three_letters = Bytes (number (pos 3)) (97 ∷ 98 ∷ 99 ∷ [])

-- y[subscript]
abbrev pub element : ℤ → Expression
element subscript = Alone (Element y (number subscript))

-- [2]BYTE y:
-- SEQ
--   y[1] := 'a'
--   out0 ! y[subscript]
abbrev pub sets_byte : ℤ → List ProgramItem
sets_byte subscript = main_is (link value_type.Byte out0 ∷ []) (Declared (Variables (record {
  line = 0;
  size = Some (number (pos 2));
  value_type = value_type.Byte;
  names = record { first = y; others = [] };
})) (seq (then_does (then_does NoComponent
    (does (Assign (record { name = y; subscript = Some (number (pos 1)) }) (Alone (Byte 97)))))
    (sends (element subscript)))))

-- SEQ i = base FOR count
--   out0 ! i
abbrev pub counts : ℤ → ℤ → List ProgramItem
counts base count = with_out0 (repeats base count (sends (named i)))

abbrev pub in1 : List ℕ
in1 = 105 ∷ 110 ∷ 49 ∷ []

abbrev pub out1 : List ℕ
out1 = 111 ∷ 117 ∷ 116 ∷ 49 ∷ []

-- INT x:
-- SEQ
--   in1 ? x
--   out1 ! x
abbrev pub hands_on : List ProgramItem
hands_on = main_is (link value_type.Int in1 ∷ link value_type.Int out1 ∷ []) (declares value_type.Int x []
    (seq (then_does (then_does NoComponent (does (Input (whole in1) (whole x))))
    (does (Output (whole out1) (named x))))))

-- INT x:
-- SEQ
--   x := 5
--   INT x:
--   x := 7
--   out0 ! x
abbrev pub hides : List ProgramItem
hides = with_out0 (declares value_type.Int x [] (seq (then_does (then_does (then_does NoComponent
    (assigns x (number (pos 5)))) (declares value_type.Int x [] (assigns x (number (pos 7))))) (sends (named x)))))
