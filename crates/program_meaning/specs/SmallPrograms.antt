-- Small programs as trees, each below its lines.
use Rattle.std.specs.Prelude.{ℕ, ℤ, pos, List, [], ◌∷◌, Some, None, true}
use Rattle.word_arithmetic.specs.declared.compare.Comparison.TheVariants as comparison
use Rattle.occam_parser.specs.declared.tree.FormalKind.TheVariants as formal_kind
use Rattle.occam_parser.specs.declared.tree.ValueType.{ValueType}
use Rattle.occam_parser.specs.declared.tree.ValueType.TheVariants as value_type
use Rattle.occam_parser.specs.declared.tree.ChainOperator.TheVariants as chain
use Rattle.occam_parser.specs.declared.tree.ArithmeticChain.{ArithmeticChain}
use Rattle.occam_parser.specs.declared.tree.ArithmeticChain.TheVariants as arithmetic_chain
use Rattle.occam_parser.specs.declared.tree.ArithmeticPair.{ArithmeticPair}
use Rattle.occam_parser.specs.declared.tree.PrefixOperator.TheVariants as prefix
use Rattle.occam_parser.specs.declared.tree.PairOperator.TheVariants as pair
use Rattle.occam_parser.specs.Expressions.{Expression, Alone, Prefixed, Paired, Chained, Two, Term, Number, Byte, Named}
use Rattle.occam_parser.specs.Expressions.{Truth, Element, Bracketed, Converted}
use Rattle.occam_parser.specs.Lines.{Place, Variables, Channels, Action, Assign, Input, Output, Formal, Skip}
use Rattle.occam_parser.specs.Blocks.{Process, Declared, Does, Act, Processes, Choices, Components, NoComponent}
use Rattle.occam_parser.specs.Blocks.{Further}
use Rattle.occam_parser.specs.Blocks.{Plain, Chosen, ProgramItem, GlobalProcedure}
use Rattle.occam_parser.specs.Constructs.{in_seq, in_if, repeated_seq}

-- ---- names

abbrev pub x : List ℕ
x = 120 ∷ []

abbrev pub y : List ℕ
y = 121 ∷ []

abbrev pub s : List ℕ
s = 115 ∷ []

abbrev pub i : List ℕ
i = 105 ∷ []

abbrev pub in0 : List ℕ
in0 = 105 ∷ 110 ∷ 48 ∷ []

abbrev pub out0 : List ℕ
out0 = 111 ∷ 117 ∷ 116 ∷ 48 ∷ []

-- ---- lines

abbrev pub whole : List ℕ → Place
whole name = record { name = name; subscript = None }

abbrev pub does : Action → Process
does action = Does 0 (Act action)

-- this name := an expression
abbrev pub assigns : List ℕ → Expression → Process
assigns name e = does (Assign (whole name) e)

-- in0 ? this name
abbrev pub receives : List ℕ → Process
receives name = does (Input (whole in0) (whole name))

-- out0 ! an expression
abbrev pub sends : Expression → Process
sends e = does (Output (whole out0) e)

abbrev pub number : ℤ → Expression
number v = Alone (Number v)

abbrev pub named : List ℕ → Expression
named name = Alone (Named name)

-- two operands with an operator between them
abbrev pub with_both : ArithmeticChain → Term → Term → Expression
with_both op a b = Chained (chain.Arithmetic op) (Two a b)

-- TYPE name, name:
abbrev pub declares : ValueType → List ℕ → List (List ℕ) → Process → Process
declares type name names p = Declared (Variables (record {
  line = 0;
  size = None;
  value_type = type;
  names = record { first = name; others = names };
})) p

-- SEQ, of the components before a last one and that one
abbrev pub seq : Components Processes → Process
seq cs = Does 0 (in_seq cs)

abbrev pub then_does : Components Processes → Process → Components Processes
then_does cs p = Further cs (Plain p)

-- IF, the same of choices
abbrev pub choose : Components Choices → Process
choose cs = Does 0 (in_if cs)

abbrev pub then_choose : Components Choices → Expression → Process → Components Choices
then_choose cs condition p = Further cs (Chosen 0 condition p)

abbrev pub or_else_does : Components Choices → Process → Components Choices
or_else_does cs p = then_choose cs (Alone (Truth true)) p

-- SEQ i = base FOR count
abbrev pub repeats : ℤ → ℤ → Process → Process
repeats base count p =
    Does 0 (repeated_seq (record { name = i; base = number base; count = number count }) p)

-- CHAN OF TYPE name
abbrev pub link : ValueType → List ℕ → Formal
link type name = record { kind = formal_kind.Channel; size = None; value_type = type; name = name }

abbrev pub links_of : ValueType → List Formal
links_of type = link type in0 ∷ link type out0 ∷ []

-- PROC main(formals), and a process
abbrev pub main_is : List Formal → Process → List ProgramItem
main_is formals p = GlobalProcedure (record {
  line = 0;
  head = record { name = 109 ∷ 97 ∷ 105 ∷ 110 ∷ []; formals = formals };
  body = p;
}) ∷ []

-- ---- programs

-- SEQ
--   in0 ? x
--   IF
--     x > 100
--       s := s PLUS i
--     and more choices
abbrev pub adds : (Components Choices → Components Choices) → Process
adds more = seq (then_does (then_does NoComponent (receives x))
    (choose (more (then_choose NoComponent (Paired (pair.Comparison comparison.Greater) (Named x) (Number (pos 100)))
    (assigns s (with_both arithmetic_chain.Plus (Named s) (Named i)))))))

-- TRUE
--   s := s PLUS x
abbrev pub or_adds : Components Choices → Components Choices
or_adds cs = or_else_does cs (assigns s (with_both arithmetic_chain.Plus (Named s) (Named x)))

abbrev pub nothing_more : Components Choices → Components Choices
nothing_more cs = cs

-- INT x, s:
-- SEQ
--   s := 0
--   SEQ i = 1 FOR 4
--     what adds
--   out0 ! s
abbrev pub sums : (Components Choices → Components Choices) → List ProgramItem
sums more = main_is (links_of value_type.Int) (declares value_type.Int x (s ∷ [])
    (seq (then_does (then_does (then_does NoComponent (assigns s (number (pos 0))))
    (repeats (pos 1) (pos 4) (adds more))) (sends (named s)))))

-- TYPE x:
-- SEQ
--   in0 ? x
--   a process
--   out0 ! x
abbrev pub echoes : ValueType → Process → List ProgramItem
echoes type between = main_is (links_of type) (declares type x []
    (seq (then_does (then_does (then_does NoComponent (receives x)) between) (sends (named x)))))

abbrev pub skip : Process
skip = does Skip

-- x := x op 1
abbrev pub adds_one : ArithmeticChain → Process
adds_one op = assigns x (with_both op (Named x) (Number (pos 1)))

-- IF
--   x < 1000
--     x := x + 1
--   TRUE
--     SKIP
abbrev pub adds_one_below : Process
adds_one_below = choose (or_else_does (then_choose NoComponent
    (Paired (pair.Comparison comparison.Less) (Named x) (Number (pos 1000))) (adds_one arithmetic_chain.Add)) skip)

-- out0 ! (-7) op 2
abbrev pub computes : ArithmeticPair → List ProgramItem
computes op = main_is (link value_type.Int out0 ∷ []) (sends
    (Paired (pair.Arithmetic op) (Bracketed (Prefixed prefix.Negate (Number (pos 7)))) (Number (pos 2))))

-- SEQ i = 0 FOR count
--   out0 ! 'a'
abbrev pub sends_a : ℕ → List ProgramItem
sends_a count = main_is (link value_type.Byte out0 ∷ []) (repeats (pos 0) (pos count) (sends (Alone (Byte 97))))

-- CHAN OF INT in0:
-- in0 ? x
abbrev pub hides_link : Process
hides_link = Declared (Channels (record {
  line = 0;
  size = None;
  value_type = value_type.Int;
  names = record { first = in0; others = [] };
})) (receives x)

-- [2]INT y:
-- SEQ
--   y[subscript] := 5
--   x := y[0]
abbrev pub sets_element : ℤ → Process
sets_element subscript = Declared (Variables (record {
  line = 0;
  size = Some (number (pos 2));
  value_type = value_type.Int;
  names = record { first = y; others = [] };
})) (seq (then_does (then_does NoComponent
    (does (Assign (record { name = y; subscript = Some (number subscript) }) (number (pos 5)))))
    (assigns x (Alone (Element y (number (pos 0)))))))

-- INT x, y:
-- SEQ
--   SEQ i = 0 FOR 1
--     x := a number
--   y := INT x
abbrev pub converts : ℤ → List ProgramItem
converts v = main_is [] (declares value_type.Int x (y ∷ []) (seq (then_does (then_does NoComponent
    (repeats (pos 0) (pos 1) (assigns x (number v)))) (assigns y (Alone (Converted value_type.Int (Named x)))))))
