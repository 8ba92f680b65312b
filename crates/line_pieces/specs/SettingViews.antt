-- The code of what is in a setting of the program.
use Rattle.std.specs.Prelude.{ℕ, ◌+◌, Bool, false, List, [], ◌++◌, ◌∷◌, Option, ℤ}
use Rattle.occam_parser.specs.Expressions.{Expression, Paired, Chained, Term, Terms, Two, Then}
use Rattle.line_pieces.specs.declared.expressions.Pushes.{Pushes}
use Rattle.occam_parser.specs.declared.tree.ChainOperator.{ChainOperator}
use Rattle.scalar_ranges.specs.Entries.{Entry}
use Rattle.scalar_ranges.specs.Scopes.{entries_of}
use Rattle.scalar_ranges.specs.Bounds.{bound_of, bound_of_term, exact_value}
use Rattle.scalar_ranges.specs.Fronts.{Front, front_of}
use Rattle.line_pieces.specs.declared.setting.Setting.{Setting}
use Rattle.code_pieces.specs.Pieces.{Piece, word_after}
use Rattle.line_pieces.specs.Homes.{Home}
use Rattle.line_pieces.specs.HomeViews.{homes_seen}
use Rattle.line_pieces.specs.Expressions.{expression_code, term_code, terms_code, onto, joined, pushed, beside}
use Rattle.line_pieces.specs.Expressions.{is_small_term, is_leaf_term, unless, is_known, covered, after_constant}
use Rattle.line_pieces.specs.Expressions.{Operand, first_two, added_by, both, comes_last}
use Rattle.line_pieces.specs.Expressions.{Subscript, subscript_of, first_code}

abbrev pub entries_in : Setting → List Entry
entries_in s = entries_of s.scope.now

abbrev pub homes_in : Setting → List Home
homes_in s = homes_seen s.homes.now

abbrev pub expression_in : Setting → Expression → List Piece
expression_in s e = expression_code (homes_in s) (entries_in s) s.top e

abbrev pub subscript_in : Setting → Expression → Subscript
subscript_in s e = subscript_of (homes_in s) (entries_in s) s.top e

-- the first operand of a chain
abbrev pub first_in : Setting → Expression → List Piece
first_in s e = first_code (homes_in s) (entries_in s) s.top e

abbrev pub term_in : Setting → Term → List Piece
term_in s x = term_code (homes_in s) (entries_in s) s.top x

abbrev pub terms_in : Setting → ChainOperator → Option Front → Terms → List Piece
terms_in s op front xs = terms_code (homes_in s) (entries_in s) s.top op front xs

-- where the first word that is free is taken
abbrev pub term_above : Setting → Term → List Piece
term_above s x = term_code (homes_in s) (entries_in s) (word_after s.top 1) x

abbrev pub onto_in : (in_order : Bool) → Setting → Term → List Piece
onto_in in_order s x = onto in_order s.top (is_small_term (entries_in s) x) (term_above s x)

-- an operand on a constant
abbrev pub on_constant_in : Setting → ℤ → Term → List Piece
on_constant_in s v x = after_constant v (is_small_term (entries_in s) x) (term_in s x)

-- an operand of a chain, on those before it; nothing if its value is that of the front
abbrev pub joined_in : Setting → ChainOperator → Option ℤ → Term → List Piece
joined_in s op known x =
    unless (is_known known)
    (joined s.top op (exact_value (bound_of_term (entries_in s) x)) (is_small_term (entries_in s) x) (term_above s x))

-- the operands of a chain after this number of others
abbrev pub others_in : Setting → ChainOperator → Option Front → ℕ → List Term → List Piece
others_in s op front count [] = []
others_in s op front count (x ∷ xs) =
    joined_in s op (covered front (count + 1)) x ++ others_in s op front (count + 1) xs

-- an operand beside another one
abbrev pub beside_in : Setting → Term → Operand
beside_in s x = beside (entries_in s) x (term_in s x) (term_above s x)

-- what is pushed of an operator between two operands
abbrev pub operands_in : Setting → Pushes → Expression → List Piece
operands_in s how (Paired op x y) = pushed how s.top (beside_in s x) (beside_in s y)
operands_in s how e = []

-- two operands, the first one below the second
abbrev pub both_of : (in_order : Bool) → Setting → (x y : Term) → List Piece
both_of in_order s x y =
    both in_order (comes_last (is_leaf_term (entries_in s) x) (is_small_term (entries_in s) y)) s.top (beside_in s x)
    (beside_in s y)

abbrev pub both_in : (in_order : Bool) → Setting → Expression → List Piece
both_in in_order s (Paired op x y) = both_of in_order s x y
both_in in_order s e = []

-- the first two operands of a chain
abbrev pub either_of : Setting → Terms → List Piece
either_of s (Two x y) = both_of false s x y
either_of s (Then xs x) = either_of s xs

abbrev pub either_in : Setting → Expression → List Piece
either_in s (Chained op xs) = either_of s xs
either_in s e = []

-- the first two operands of a chain, with their operation
abbrev pub first_two_of : Setting → ChainOperator → Terms → List Piece
first_two_of s op (Two x y) =
    first_two s.top op (added_by op (exact_value (bound_of_term (entries_in s) y))) (beside_in s x) (beside_in s y)
first_two_of s op (Then xs x) = first_two_of s op xs

abbrev pub first_two_in : Setting → Expression → List Piece
first_two_in s (Chained op xs) = first_two_of s op xs
first_two_in s e = []

-- the value of an expression, if it is a constant
abbrev pub value_in : Setting → Expression → Option ℤ
value_in s e = exact_value (bound_of (entries_in s) e)

abbrev pub front_at : Setting → Expression → Option Front
front_at s e = front_of (entries_in s) e
