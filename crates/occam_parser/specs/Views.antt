-- The tree that a value of the program is.
use Rattle.std.specs.Prelude.{List, fold}
use Rattle.occam_parser.specs.declared.tree.Expr.{Expr}
use Rattle.occam_parser.specs.declared.tree.Operation.{Operation}
use Rattle.occam_parser.specs.declared.tree.Operand.{Operand}
use Rattle.occam_parser.specs.declared.tree.Operand.TheOpen.{Expr-F, Operation-F, Operand-F}
use Rattle.occam_parser.specs.declared.tree.Operand.TheFolds.{fold-Expr, fold-Operation, fold-Operand}
use Rattle.occam_parser.specs.Expressions.{Expression, Alone, Prefixed, Paired, Chained, Terms, Two, Then, Term}
use Rattle.occam_parser.specs.Expressions.{Number, Byte, Truth, MostPos, MostNeg, Named, Element, Bracketed, Converted}

-- further operands, after those that were read
abbrev pub with_others : Terms → List Term → Terms
with_others terms others = fold Then terms others

-- one level, with the trees of what is inside
abbrev pub term_step : Operand-F Term Expression Expression → Term
term_step (Operand-F.Integer value) = Number value
term_step (Operand-F.Character byte) = Byte byte
term_step (Operand-F.Truth holds) = Truth holds
term_step Operand-F.MostPos = MostPos
term_step Operand-F.MostNeg = MostNeg
term_step (Operand-F.Name name) = Named name.now
term_step (Operand-F.Element name subscript) = Element name.now subscript
term_step (Operand-F.Bracketed inner) = Bracketed inner
term_step (Operand-F.Converted to term) = Converted to term.value

abbrev pub operation_step : Operation-F Term Expression Expression → Expression
operation_step (Operation-F.Operand term) = Alone term
operation_step (Operation-F.Prefix operator term) = Prefixed operator term
operation_step (Operation-F.Pair operator left right) = Paired operator left right
operation_step (Operation-F.Chain operator first second others) =
    Chained operator (with_others (Two first second) others.items)

abbrev pub expression_step : Expr-F Term Expression Expression → Expression
expression_step e = e.operation.value

abbrev pub expression_of : Expr → Expression
expression_of = fold-Expr Term Expression Expression term_step operation_step expression_step

abbrev pub operation_of : Operation → Expression
operation_of = fold-Operation Term Expression Expression term_step operation_step expression_step

abbrev pub term_of : Operand → Term
term_of = fold-Operand Term Expression Expression term_step operation_step expression_step
