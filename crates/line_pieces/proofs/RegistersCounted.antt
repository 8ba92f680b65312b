-- How many registers the operands of a chain take, one after the other.
use Rattle.std.proofs.Common.{◌≡◌, Bool, ◌&&◌, List, [], ◌∷◌, map, sym, ap, ◌∙◌, Vec, Global}
use Rattle.std.proofs.Math.Bool.{and_assoc, and-true}
use Rattle.occam_parser.specs.declared.tree.Operand.{Operand}
use Rattle.occam_parser.specs.declared.tree.ChainOperator.{ChainOperator}
use Rattle.occam_parser.specs.declared.tree.Operation.{Chain}
use Rattle.occam_parser.specs.Expressions.{Expression, Terms, Two, Then, Term}
use Rattle.occam_parser.specs.Views.{term_of, with_others, operation_of}
use Rattle.occam_parser.proofs.Seen.{view-Chain}
use Rattle.scalar_ranges.specs.Entries.{Entry}
use Rattle.line_pieces.specs.Expressions.{is_leaf_term, are_leaves, is_small, are_small, is_small_term}

-- the further operands are one push each
further : (es : List Entry) (terms : Terms) (xs : List Term)
    → are_small es (with_others terms xs) ≡ (are_small es terms && are_leaves es xs)
further es terms [] = sym (and-true (are_small es terms))
further es terms (x ∷ xs) =
    further es (Then terms x) xs ∙ and_assoc (are_small es terms) (is_leaf_term es x) (are_leaves es xs)

pub chain_small : (es : List Entry) (op : ChainOperator) (first second : Operand) (others : Vec Operand Global)
    (items : List Operand) (e : Expression) (former latter rest small : Bool) → items ≡ others.items
    → e ≡ operation_of (Chain op first second others) → former ≡ is_small_term es (term_of first)
    → latter ≡ is_leaf_term es (term_of second) → rest ≡ are_leaves es (map term_of items)
    → small ≡ (former && latter && rest) → small ≡ is_small es e
chain_small es op first second others items e former latter rest small same is f l r s =
    s ∙ (λ i. f i && l i && r i)
    ∙ ap (λ ys. is_small_term es (term_of first) && is_leaf_term es (term_of second) && are_leaves es (map term_of ys))
    same
    ∙ sym (further es (Two (term_of first) (term_of second)) (map term_of others.items))
    ∙ ap (is_small es) (sym (view-Chain op first second others) ∙ sym is)
