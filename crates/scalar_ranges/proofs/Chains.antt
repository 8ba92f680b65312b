-- A chain of operands, taken one by one, is the whole chain.
use Rattle.std.proofs.Common.{◌≡◌, ℕ, ◌+◌, ◌<◌, ◌≤◌, List, [], ◌∷◌, ◌++◌, map, take, length, get_or, Result, refl, ap}
use Rattle.std.proofs.Common.{sym, ◌∙◌}
use Rattle.std.proofs.lemmas.List.{take_more, take_all}
use Rattle.occam_parser.specs.declared.tree.ChainOperator.{ChainOperator}
use Rattle.occam_parser.specs.declared.tree.Operand.{Operand}
use Rattle.occam_parser.specs.Expressions.{Terms, Two, Then}
use Rattle.occam_parser.specs.Views.{term_of, with_others}
use Rattle.scalar_ranges.specs.Steps.{both}
use Rattle.scalar_ranges.specs.Reading.{Reader, of_terms, of_term}

-- what is read of a chain after some further operands
unfoldable pub chain_after : {A : Type 0} → Reader A → ChainOperator → Result A ℕ → List Operand → Result A ℕ
chain_after r op found [] = found
chain_after r op found (x ∷ xs) = chain_after r op (both found (of_term r (term_of x)) (r.chained op)) xs

one_more : {A : Type 0} (r : Reader A) (op : ChainOperator) (found : Result A ℕ) (xs : List Operand) (x : Operand)
    → chain_after r op found (xs ++ x ∷ [])
    ≡ both (chain_after r op found xs) (of_term r (term_of x)) (r.chained op)
unfolding chain_after
one_more r op found [] x = refl
one_more r op found (y ∷ xs) x = one_more r op (both found (of_term r (term_of y)) (r.chained op)) xs x

all_operands : {A : Type 0} (r : Reader A) (op : ChainOperator) (terms : Terms) (xs : List Operand)
    → chain_after r op (of_terms r op terms) xs ≡ of_terms r op (with_others terms (map term_of xs))
unfolding chain_after
all_operands r op terms [] = refl
all_operands r op terms (x ∷ xs) = all_operands r op (Then terms (term_of x)) xs

-- ---- the loop over the further operands

pub taken_one : (xs : List Operand) (i : ℕ) (x : Operand) → i < length xs → x ≡ get_or xs i x
    → take (i + 1) xs ≡ take i xs ++ x ∷ []
taken_one xs i x h is = take_more xs i x h ∙ ap (λ y. take i xs ++ y ∷ []) (sym is)

pub chain_step : {A : Type 0} (r : Reader A) (op : ChainOperator) (begun before after next : Result A ℕ)
    (xs : List Operand) (i : ℕ) (x : Operand) → i < length xs → x ≡ get_or xs i x
    → before ≡ chain_after r op begun (take i xs) → next ≡ of_term r (term_of x)
    → after ≡ both before next (r.chained op) → after ≡ chain_after r op begun (take (i + 1) xs)
chain_step r op begun before after next xs i x h is b n e =
    e ∙ (λ j. both (b j) (n j) (r.chained op)) ∙ sym (one_more r op begun (take i xs) x)
    ∙ ap (chain_after r op begun) (sym (taken_one xs i x h is))

pub chain_end : {A : Type 0} (r : Reader A) (op : ChainOperator) (first second : Operand) (others xs : List Operand)
    (former latter begun found : Result A ℕ) (i : ℕ) → length xs ≤ i → xs ≡ others → former ≡ of_term r (term_of first)
    → latter ≡ of_term r (term_of second) → begun ≡ both former latter (r.chained op)
    → found ≡ chain_after r op begun (take i xs)
    → found ≡ of_terms r op (with_others (Two (term_of first) (term_of second)) (map term_of others))
chain_end r op first second others xs former latter begun found i h same a b e f =
    f ∙ ap (chain_after r op begun) (take_all i xs h ∙ same)
    ∙ ap (λ k. chain_after r op k others) (e ∙ (λ j. both (a j) (b j) (r.chained op)))
    ∙ all_operands r op (Two (term_of first) (term_of second)) others
