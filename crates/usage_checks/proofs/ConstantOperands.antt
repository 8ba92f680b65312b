-- A chain of operands, taken one by one, is constant if the whole chain is.
use Rattle.std.proofs.Common.{◌≡◌, ℕ, ◌+◌, ◌<◌, ◌≤◌, Bool, ◌&&◌, List, [], ◌∷◌, ◌++◌, length, map, take}
use Rattle.std.proofs.Common.{get_or, refl, sym, ap, ◌∙◌, Vec, Global}
use Rattle.std.proofs.lemmas.List.{take_all}
use Rattle.occam_parser.specs.declared.tree.Operand.{Operand}
use Rattle.occam_parser.specs.declared.tree.ChainOperator.{ChainOperator}
use Rattle.occam_parser.specs.declared.tree.Operation.{Chain}
use Rattle.occam_parser.specs.Expressions.{Expression, Terms, Two, Then}
use Rattle.occam_parser.specs.Views.{term_of, with_others, operation_of}
use Rattle.occam_parser.proofs.Seen.{view-Chain}
use Rattle.scalar_ranges.specs.Entries.{Entry}
use Rattle.program_uses.proofs.Adding.{taken_one}
use Rattle.usage_checks.specs.Wanting.{is_constant, are_constant, is_constant_term}

unfoldable pub constant_after : List Entry → Bool → List Operand → Bool
constant_after es b [] = b
constant_after es b (x ∷ xs) = constant_after es (b && is_constant_term es (term_of x)) xs

one_more : (es : List Entry) (b : Bool) (xs : List Operand) (x : Operand)
    → constant_after es b (xs ++ x ∷ []) ≡ (constant_after es b xs && is_constant_term es (term_of x))
unfolding constant_after
one_more es b [] x = refl
one_more es b (y ∷ xs) x = one_more es (b && is_constant_term es (term_of y)) xs x

pub constant_none : (es : List Entry) (b : Bool) → b ≡ constant_after es b []
unfolding constant_after
constant_none es b = refl

pub constant_next : (es : List Entry) (b before next after : Bool) (xs : List Operand) (i : ℕ) (x d : Operand)
    → i < length xs → x ≡ get_or xs i d → before ≡ constant_after es b (take i xs)
    → next ≡ is_constant_term es (term_of x) → after ≡ (before && next) → after ≡ constant_after es b (take (i + 1) xs)
constant_next es b before next after xs i x d h is e n a =
    a ∙ (λ j. e j && n j) ∙ sym (one_more es b (take i xs) x)
    ∙ ap (constant_after es b) (sym (taken_one xs i x d h is))

all_operands : (es : List Entry) (terms : Terms) (xs : List Operand)
    → constant_after es (are_constant es terms) xs ≡ are_constant es (with_others terms (map term_of xs))
unfolding constant_after
all_operands es terms [] = refl
all_operands es terms (x ∷ xs) = all_operands es (Then terms (term_of x)) xs

pub chain_constant : (es : List Entry) (op : ChainOperator) (first second : Operand) (others : Vec Operand Global)
    (items : List Operand) (i : ℕ) (e : Expression) (begun found : Bool) → length items ≤ i → items ≡ others.items
    → e ≡ operation_of (Chain op first second others)
    → begun ≡ (is_constant_term es (term_of first) && is_constant_term es (term_of second))
    → found ≡ constant_after es begun (take i items) → found ≡ is_constant es e
chain_constant es op first second others items i e begun found done same is b f =
    f ∙ (λ j. constant_after es (b j) ((take_all i items done ∙ same) j))
    ∙ all_operands es (Two (term_of first) (term_of second)) others.items
    ∙ ap (is_constant es) (sym (view-Chain op first second others) ∙ sym is)
