-- What is read of an expression, part by part, by what each kind of part gives.
use Rattle.std.specs.Prelude.{ℕ, ℤ, Bool, List, Result, Ok}
use Rattle.word_arithmetic.specs.Word.{least_word, greatest_word}
use Rattle.occam_parser.specs.declared.tree.ValueType.{ValueType}
use Rattle.occam_parser.specs.declared.tree.PrefixOperator.{PrefixOperator}
use Rattle.occam_parser.specs.declared.tree.PairOperator.{PairOperator}
use Rattle.occam_parser.specs.declared.tree.ChainOperator.{ChainOperator}
use Rattle.occam_parser.specs.Expressions.{Expression, Alone, Prefixed, Paired, Chained, Terms, Two, Then, Term}
use Rattle.occam_parser.specs.Expressions.{Number, Byte, Truth, MostPos, MostNeg, Named, Element, Bracketed, Converted}
use Rattle.scalar_ranges.specs.Steps.{and_then, both}

-- What each kind of part gives, or the number of a fault. An element itself checks what its subscript gives.
pub record Reader (A : Type 0) : Type 0 where
  pub number : ℤ → A
  pub byte : ℕ → A
  pub truth : Bool → A
  pub named : List ℕ → Result A ℕ
  pub element : List ℕ → Result A ℕ → Result A ℕ
  pub converted : ValueType → A → Result A ℕ
  pub prefixed : PrefixOperator → A → Result A ℕ
  pub paired : PairOperator → A → A → Result A ℕ
  pub chained : ChainOperator → A → A → Result A ℕ

abbrev mutual
  pub of_expression : {A : Type 0} → Reader A → Expression → Result A ℕ
  of_expression r (Alone t) = of_term r t
  of_expression r (Prefixed op t) = and_then (of_term r t) (r.prefixed op)
  of_expression r (Paired op a b) = both (of_term r a) (of_term r b) (r.paired op)
  of_expression r (Chained op ts) = of_terms r op ts

  -- a chain is read from the left
  pub of_terms : {A : Type 0} → Reader A → ChainOperator → Terms → Result A ℕ
  of_terms r op (Two a b) = both (of_term r a) (of_term r b) (r.chained op)
  of_terms r op (Then ts t) = both (of_terms r op ts) (of_term r t) (r.chained op)

  pub of_term : {A : Type 0} → Reader A → Term → Result A ℕ
  of_term r (Number value) = Ok (r.number value)
  of_term r (Byte byte) = Ok (r.byte byte)
  of_term r (Truth holds) = Ok (r.truth holds)
  of_term r MostPos = Ok (r.number greatest_word)
  of_term r MostNeg = Ok (r.number least_word)
  of_term r (Named name) = r.named name
  of_term r (Element name e) = r.element name (of_expression r e)
  of_term r (Bracketed e) = of_expression r e
  of_term r (Converted to t) = and_then (of_term r t) (r.converted to)
