-- The constant front of a chain, one operand more.
use Rattle.std.proofs.Common.{◌≡◌, ℕ, ◌+◌, ◌<◌, ◌≤◌, List, [], ◌∷◌, length, map, take, get_or, Option, Result}
use Rattle.std.proofs.Common.{sym, ap, arith, ◌∙◌}
use Rattle.std.proofs.lemmas.List.{length-take, length-map, take_all}
use Rattle.occam_parser.specs.declared.tree.ChainOperator.{ChainOperator}
use Rattle.occam_parser.specs.declared.tree.Operand.{Operand}
use Rattle.occam_parser.specs.Expressions.{Terms, Two, Then, Term}
use Rattle.occam_parser.specs.Views.{term_of, with_others}
use Rattle.occam_parser.proofs.Seen.{operands_push}
use Rattle.scalar_ranges.specs.Entries.{Entry}
use Rattle.scalar_ranges.specs.Steps.{both}
use Rattle.scalar_ranges.specs.Bounds.{Bound, bound_of_term, bound_of_terms, chain_bound, exact_value}
use Rattle.scalar_ranges.specs.Fronts.{Front, count_of, longer, front_in}
use Rattle.scalar_ranges.proofs.Chains.{taken_one}

-- the chain as far as the loop has come
abbrev pub so_far : (first second : Operand) (others : List Operand) → Terms
so_far first second others = with_others (Two (term_of first) (term_of second)) (map term_of others)

counted : (terms : Terms) (others : List Term) → count_of (with_others terms others) ≡ count_of terms + length others
counted terms [] = omega arith
counted terms (t ∷ others) = let more = counted (Then terms t) others in omega arith

pub next_front : (es : List Entry) (op : ChainOperator) (first second x : Operand) (xs : List Operand) (i : ℕ)
    (found next : Result Bound ℕ) (before after : Option Front) → i < length xs → x ≡ get_or xs i x
    → found ≡ bound_of_terms es op (so_far first second (take i xs))
    → before ≡ front_in es op (so_far first second (take i xs))
    → next ≡ both found (bound_of_term es (term_of x)) (chain_bound op)
    → after ≡ longer (exact_value next) (i + 3) before
    → after ≡ front_in es op (so_far first second (take (i + 1) xs))
next_front es op first second x xs i found next before after less is f b n a =
    let ts = so_far first second (take i xs) in
    let grown = operands_push (Two (term_of first) (term_of second)) (take i xs) (take (i + 1) xs) x
    (taken_one xs i x less is) in
    let bound : next ≡ bound_of_terms es op (Then ts (term_of x)) =
    n ∙ ap (λ r. both r (bound_of_term es (term_of x)) (chain_bound op)) f in
    let many : length (map term_of (take i xs)) ≡ i = simp (length-map, length-take) (omega arith) in
    let count : i + 3 ≡ count_of ts + 1 =
    omega (arith, counted (Two (term_of first) (term_of second)) (map term_of (take i xs)), many) in
    a ∙ (λ j. longer (exact_value (bound j)) (count j) (b j)) ∙ ap (front_in es op) (sym grown)

pub next_bound : (es : List Entry) (op : ChainOperator) (first second x : Operand) (xs : List Operand) (i : ℕ)
    (found next : Result Bound ℕ) → i < length xs → x ≡ get_or xs i x
    → found ≡ bound_of_terms es op (so_far first second (take i xs))
    → next ≡ both found (bound_of_term es (term_of x)) (chain_bound op)
    → next ≡ bound_of_terms es op (so_far first second (take (i + 1) xs))
next_bound es op first second x xs i found next less is f n =
    let grown = operands_push (Two (term_of first) (term_of second)) (take i xs) (take (i + 1) xs) x
    (taken_one xs i x less is) in
    n ∙ ap (λ r. both r (bound_of_term es (term_of x)) (chain_bound op)) f ∙ ap (bound_of_terms es op) (sym grown)

pub front_done : (es : List Entry) (op : ChainOperator) (first second : Operand) (xs : List Operand) (i : ℕ)
    (front : Option Front) → length xs ≤ i → front ≡ front_in es op (so_far first second (take i xs))
    → front ≡ front_in es op (so_far first second xs)
front_done es op first second xs i front least is =
    is ∙ ap (λ ys. front_in es op (so_far first second ys)) (take_all i xs least)
