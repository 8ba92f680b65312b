-- The code of a chain, operand by operand.
use Rattle.std.proofs.Common.{◌≡◌, ℕ, ◌+◌, ◌<◌, ◌≤◌, ℤ, Bool, true, false, List, [], ◌∷◌, ◌++◌, length, map, take}
use Rattle.std.proofs.Common.{get_or, Option, Some, None, Result, Ok, Err, IfOk, refl, sym, ap, arith, ◌∙◌, Vec}
use Rattle.std.proofs.Common.{Global}
use Rattle.std.proofs.lemmas.List.{append_assoc, append-nil, length-take, length-map, map_push, take_all}
use Rattle.occam_parser.specs.declared.tree.ChainOperator.{ChainOperator}
use Rattle.occam_parser.specs.declared.tree.Operand as code_operand
use Rattle.occam_parser.specs.declared.tree.Operation as code_operation
use Rattle.occam_parser.specs.Expressions.{Expression, Chained, Terms, Two, Then, Term}
use Rattle.occam_parser.specs.Views.{operation_of, term_of, with_others}
use Rattle.occam_parser.proofs.Seen.{view-Chain}
use Rattle.scalar_ranges.specs.Fronts.{Front, count_of}
use Rattle.scalar_ranges.proofs.Chains.{taken_one}
use Rattle.prefix_decoder.specs.declared.function.Fun.TheVariants as fun
use Rattle.scalar_ranges.specs.Bounds.{bound_of_term, exact_value}
use Rattle.line_pieces.specs.declared.setting.Setting.{Setting}
use Rattle.code_pieces.specs.Pieces.{Piece, Direct, constant, operates}
use Rattle.line_pieces.specs.Expressions.{covered, constant_or, both, comes_last, first_two, added_by, chain_operation}
use Rattle.line_pieces.specs.Expressions.{is_leaf_term, is_small_term}
use Rattle.line_pieces.specs.SettingViews.{expression_in, term_in, terms_in, onto_in, joined_in, others_in, value_in}
use Rattle.line_pieces.specs.SettingViews.{entries_in, front_at, beside_in, both_of, either_of, either_in}
use Rattle.line_pieces.specs.SettingViews.{first_two_of, first_two_in}

-- a chain, of whose operands these come after the first two
pub chain_seen : (e : code_operation.Operation) (op : ChainOperator) (x y : code_operand.Operand)
    (others : Vec code_operand.Operand Global) (shown : List code_operand.Operand)
    → e ≡ code_operation.Chain op x y others → shown ≡ others.items
    → operation_of e ≡ Chained op (with_others (Two (term_of x) (term_of y)) (map term_of shown))
chain_seen e op x y others shown is same =
    ap operation_of is ∙ view-Chain op x y others
    ∙ ap (λ os. Chained op (with_others (Two (term_of x) (term_of y)) (map term_of os))) (sym same)

-- one operand more
others_more : (s : Setting) (op : ChainOperator) (front : Option Front) (n m : ℕ) (xs : List Term) (x : Term)
    → m ≡ n + length xs
    → others_in s op front n (xs ++ x ∷ []) ≡ others_in s op front n xs ++ joined_in s op (covered front (m + 1)) x
others_more s op front n m [] x e =
    append-nil (joined_in s op (covered front (n + 1)) x)
    ∙ ap (λ k. joined_in s op (covered front (k + 1)) x) (omega arith)
others_more s op front n m (y ∷ xs) x e =
    ap (λ rest. joined_in s op (covered front (n + 1)) y ++ rest)
    (others_more s op front (n + 1) m xs x (omega arith))
    ∙ sym (append_assoc (joined_in s op (covered front (n + 1)) y) (others_in s op front (n + 1) xs)
    (joined_in s op (covered front (m + 1)) x))

-- the whole chain is its first operands, and then the others
chain_code : (s : Setting) (op : ChainOperator) (front : Option Front) (ts : Terms) (xs : List Term)
    → terms_in s op front ts ++ others_in s op front (count_of ts) xs ≡ terms_in s op front (with_others ts xs)
chain_code s op front ts [] = append-nil (terms_in s op front ts)
chain_code s op front ts (x ∷ xs) =
    sym (append_assoc (terms_in s op front ts) (joined_in s op (covered front (count_of ts + 1)) x)
    (others_in s op front (count_of ts + 1) xs))
    ∙ chain_code s op front (Then ts x) xs

-- The loop over the further operands has gone over one operand more.
pub others_next : (s : Setting) (op : ChainOperator) (front : Option Front) (xs : List code_operand.Operand) (i : ℕ)
    (x : code_operand.Operand) (known : Option ℤ) (start before after : List Piece) → i < length xs → x ≡ get_or xs i x
    → before ≡ start ++ others_in s op front 2 (map term_of (take i xs)) → known ≡ covered front (i + 3)
    → after ≡ before ++ joined_in s op known (term_of x)
    → after ≡ start ++ others_in s op front 2 (map term_of (take (i + 1) xs))
others_next s op front xs i x known start before after h is b k e =
    let done = map term_of (take i xs) in
    let many : length (map term_of (take i xs)) ≡ i = simp (length-map, length-take) (omega arith) in
    let place : i + 3 ≡ i + 2 + 1 = omega arith in
    let counted : i + 2 ≡ 2 + length (map term_of (take i xs)) = omega (arith, many) in
    let grown : map term_of (take (i + 1) xs) ≡ done ++ term_of x ∷ [] =
    ap (map term_of) (taken_one xs i x h is) ∙ map_push term_of (take i xs) x in
    e ∙ (λ j. b j ++ joined_in s op (k j) (term_of x))
    ∙ append_assoc start (others_in s op front 2 done) (joined_in s op (covered front (i + 3)) (term_of x))
    ∙ ap (λ c. start ++ c)
    (ap (λ n. others_in s op front 2 done ++ joined_in s op (covered front n) (term_of x)) place
    ∙ sym (others_more s op front 2 (i + 2) done (term_of x) counted)
    ∙ ap (others_in s op front 2) (sym grown))

-- It has gone over all of them.
pub others_done : (s : Setting) (op : ChainOperator) (front : Option Front) (xs : List code_operand.Operand) (i : ℕ)
    (start after : List Piece) → length xs ≤ i
    → after ≡ start ++ others_in s op front 2 (map term_of (take i xs))
    → after ≡ start ++ others_in s op front 2 (map term_of xs)
others_done s op front xs i start after h e =
    e ∙ ap (λ ys. start ++ others_in s op front 2 (map term_of ys)) (take_all i xs h)

-- the first two operands are a constant, by the front
pub front_known : (s : Setting) (op : ChainOperator) (front : Option Front) (x y : Term) (known : Option ℤ) (v : ℤ)
    (old middle : List Piece) → known ≡ covered front 2 → known ≡ Some v → middle ≡ old ++ constant v ∷ []
    → middle ≡ old ++ terms_in s op front (Two x y)
front_known s op front x y known v old middle is has e =
    e ∙ ap (λ k. old ++ constant_or k (first_two_of s op (Two x y))) (sym has ∙ is)

-- the first two operands of a chain are those of its beginning
pub first_two_stay : (s : Setting) (op : ChainOperator) (ts : Terms) (xs : List Term)
    → first_two_of s op (with_others ts xs) ≡ first_two_of s op ts
first_two_stay s op ts [] = refl
first_two_stay s op ts (x ∷ xs) = first_two_stay s op (Then ts x) xs

either_stay : (s : Setting) (ts : Terms) (xs : List Term) → either_of s (with_others ts xs) ≡ either_of s ts
either_stay s ts [] = refl
either_stay s ts (x ∷ xs) = either_stay s (Then ts x) xs

-- both were written, the first one last
pub first_last : {A E : Type 0} (r : Result A E) (s : Setting) (op : ChainOperator) (x y : Term) (xs : List Term)
    (e : Expression) (last : Bool) (old middle new : List Piece) → e ≡ Chained op (with_others (Two x y) xs)
    → last ≡ comes_last (is_leaf_term (entries_in s) x) (is_small_term (entries_in s) y) → last ≡ true
    → middle ≡ old ++ term_in s y → IfOk r (λ _. new ≡ middle ++ term_in s x)
    → IfOk r (λ _. new ≡ old ++ either_in s e)
first_last (Ok v) s op x y xs e last old middle new view is so m n =
    n ∙ ap (λ c. c ++ term_in s x) m ∙ append_assoc old (term_in s y) (term_in s x)
    ∙ ap (λ c. old ++ (term_in s y ++ c)) (sym (append-nil (term_in s x)))
    ∙ ap (λ l. old ++ both false l s.top (beside_in s x) (beside_in s y)) (sym so ∙ is)
    ∙ ap (λ c. old ++ c) (sym (either_stay s (Two x y) xs) ∙ ap (either_in s) (sym view))
first_last (Err v) s op x y xs e last old middle new view is so m n = n

-- the second one was written on the first one
pub first_below : {A E : Type 0} (r : Result A E) (s : Setting) (op : ChainOperator) (x y : Term) (xs : List Term)
    (e : Expression) (last : Bool) (old middle new : List Piece) → e ≡ Chained op (with_others (Two x y) xs)
    → last ≡ comes_last (is_leaf_term (entries_in s) x) (is_small_term (entries_in s) y) → last ≡ false
    → middle ≡ old ++ term_in s x → IfOk r (λ _. new ≡ middle ++ onto_in false s y)
    → IfOk r (λ _. new ≡ old ++ either_in s e)
first_below (Ok v) s op x y xs e last old middle new view is so m n =
    n ∙ ap (λ c. c ++ onto_in false s y) m ∙ append_assoc old (term_in s x) (onto_in false s y)
    ∙ ap (λ l. old ++ both false l s.top (beside_in s x) (beside_in s y)) (sym so ∙ is)
    ∙ ap (λ c. old ++ c) (sym (either_stay s (Two x y) xs) ∙ ap (either_in s) (sym view))
first_below (Err v) s op x y xs e last old middle new view is so m n = n

-- the first one was written, and the second one is added as a constant
pub second_added : {A E : Type 0} (r : Result A E) (s : Setting) (op : ChainOperator) (x y : Term) (xs : List Term)
    (e : Expression) (value added : Option ℤ) (v k : ℤ) (old middle new : List Piece)
    → e ≡ Chained op (with_others (Two x y) xs) → value ≡ exact_value (bound_of_term (entries_in s) y)
    → added ≡ added_by op value → added ≡ Some v → k ≡ v → middle ≡ old ++ term_in s x
    → IfOk r (λ _. new ≡ middle ++ Direct fun.AddConstant k ∷ []) → IfOk r (λ _. new ≡ old ++ first_two_in s e)
second_added (Ok w) s op x y xs e value added v k old middle new view is by has same m n =
    n ∙ (λ i. m i ++ Direct fun.AddConstant (same i) ∷ [])
    ∙ append_assoc old (term_in s x) (Direct fun.AddConstant v ∷ [])
    ∙ ap (λ a. old ++ first_two s.top op a (beside_in s x) (beside_in s y)) (sym has ∙ by ∙ ap (added_by op) is)
    ∙ ap (λ c. old ++ c) (sym (first_two_stay s op (Two x y) xs) ∙ ap (first_two_in s) (sym view))
second_added (Err w) s op x y xs e value added v k old middle new view is by has same m n = n

-- both were written, and then their operation
pub both_joined : {A E : Type 0} (r : Result A E) (s : Setting) (op : ChainOperator) (x y : Term) (xs : List Term)
    (e : Expression) (value added : Option ℤ) (operation : ℤ) (old middle new : List Piece)
    → e ≡ Chained op (with_others (Two x y) xs) → value ≡ exact_value (bound_of_term (entries_in s) y)
    → added ≡ added_by op value → added ≡ None → operation ≡ chain_operation op → middle ≡ old ++ either_in s e
    → IfOk r (λ _. new ≡ middle ++ operates operation ∷ []) → IfOk r (λ _. new ≡ old ++ first_two_in s e)
both_joined (Ok w) s op x y xs e value added operation old middle new view is by none o m n =
    let joins = operates (chain_operation op) ∷ [] in
    n ∙ ap (λ k. middle ++ operates k ∷ []) o
    ∙ ap (λ c. c ++ joins) (m ∙ ap (λ c. old ++ c) (ap (either_in s) view ∙ either_stay s (Two x y) xs))
    ∙ append_assoc old (both_of false s x y) joins
    ∙ ap (λ a. old ++ first_two s.top op a (beside_in s x) (beside_in s y)) (sym none ∙ by ∙ ap (added_by op) is)
    ∙ ap (λ c. old ++ c) (sym (first_two_stay s op (Two x y) xs) ∙ ap (first_two_in s) (sym view))
both_joined (Err w) s op x y xs e value added operation old middle new view is by none o m n = n

-- the first two operands were written
pub front_pushed : (s : Setting) (op : ChainOperator) (front : Option Front) (x y : Term) (xs : List Term)
    (e : Expression) (known : Option ℤ) (old middle : List Piece) → known ≡ covered front 2 → known ≡ None
    → e ≡ Chained op (with_others (Two x y) xs) → middle ≡ old ++ first_two_in s e
    → middle ≡ old ++ terms_in s op front (Two x y)
front_pushed s op front x y xs e known old middle is has view m =
    m ∙ ap (λ c. old ++ c)
    (ap (first_two_in s) view ∙ first_two_stay s op (Two x y) xs
    ∙ ap (λ k. constant_or k (first_two_of s op (Two x y))) (sym has ∙ is))

-- the first two operands were written, and then the others
chain_written : (s : Setting) (op : ChainOperator) (front : Option Front) (x y : Term) (xs : List Term) (e : Expression)
    (old middle new : List Piece) → e ≡ Chained op (with_others (Two x y) xs) → value_in s e ≡ None
    → front ≡ front_at s e → middle ≡ old ++ terms_in s op front (Two x y)
    → new ≡ middle ++ others_in s op front 2 xs → new ≡ old ++ expression_in s e
chain_written s op front x y xs e old middle new view varies f m n =
    let ts = with_others (Two x y) xs in
    n ∙ ap (λ c. c ++ others_in s op front 2 xs) m
    ∙ append_assoc old (terms_in s op front (Two x y)) (others_in s op front 2 xs)
    ∙ ap (λ c. old ++ c)
    (chain_code s op front (Two x y) xs
    ∙ ap (λ g. terms_in s op g ts) (f ∙ ap (front_at s) view)
    ∙ ap (λ v. constant_or v (terms_in s op (front_at s (Chained op ts)) ts)) (sym varies ∙ ap (value_in s) view)
    ∙ ap (expression_in s) (sym view))

-- the same, if the others could be written
pub chain_written_if : {A E : Type 0} (r : Result A E) (s : Setting) (op : ChainOperator) (front : Option Front)
    (x y : Term) (xs : List Term) (e : Expression) (old middle new : List Piece)
    → e ≡ Chained op (with_others (Two x y) xs) → value_in s e ≡ None → front ≡ front_at s e
    → middle ≡ old ++ terms_in s op front (Two x y) → IfOk r (λ _. new ≡ middle ++ others_in s op front 2 xs)
    → IfOk r (λ _. new ≡ old ++ expression_in s e)
chain_written_if (Ok v) s op front x y xs e old middle new view varies f m n =
    chain_written s op front x y xs e old middle new view varies f m n
chain_written_if (Err v) s op front x y xs e old middle new view varies f m n = n
