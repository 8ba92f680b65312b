-- What is known after an instance, actual by actual.
use Rattle.std.proofs.Common.{◌≡◌, ℕ, suc, ◌+◌, ◌<◌, List, [], ◌∷◌, ◌++◌, length, map, take, get_or, sym, ap, ◌∙◌}
use Rattle.std.proofs.Common.{arith, add-zero}
use Rattle.std.proofs.lemmas.List.{length-take, length-map}
use Rattle.occam_parser.specs.declared.tree.Expr.{Expr}
use Rattle.occam_parser.specs.Expressions.{Expression}
use Rattle.occam_parser.specs.Views.{expression_of}
use Rattle.scalar_ranges.specs.Entries.{Entry}
use Rattle.scalar_ranges.specs.Environments.{item_at}
use Rattle.program_uses.specs.Signatures.{Parameter}
use Rattle.program_uses.proofs.NextInTurn.{seen_more}
use Rattle.usage_checks.specs.Following.{receive_if, passed_to, after_actuals}

abbrev after_one : List Parameter → ℕ → Expression → List Entry → List Entry
after_one qs i e es = receive_if (passed_to (item_at i qs) es e) es

last_actual : (qs : List Parameter) (k : ℕ) (xs : List Expression) (x : Expression) (es : List Entry)
    → after_actuals qs k (xs ++ x ∷ []) es ≡ after_one qs (k + length xs) x (after_actuals qs k xs es)
last_actual qs k [] x es = ap (λ j. after_one qs j x es) (sym (add-zero k))
last_actual qs k (y ∷ xs) x es =
    last_actual qs (suc k) xs x (after_one qs k y es)
    ∙ ap (λ j. after_one qs j x (after_actuals qs (suc k) xs (after_one qs k y es))) (omega arith)

pub next_actual : (qs : List Parameter) (xs : List Expr) (i : ℕ) (x d : Expr) (es : List Entry) → i < length xs
    → x ≡ get_or xs i d
    → after_one qs i (expression_of x) (after_actuals qs 0 (map expression_of (take i xs)) es)
    ≡ after_actuals qs 0 (map expression_of (take (i + 1) xs)) es
next_actual qs xs i x d es h is =
    let ys = map expression_of (take i xs) in
    let many : i ≡ 0 + length ys = simp (length-map, length-take) (omega arith) in
    ap (λ j. after_one qs j (expression_of x) (after_actuals qs 0 ys es)) many
    ∙ sym (last_actual qs 0 ys (expression_of x) es)
    ∙ ap (λ zs. after_actuals qs 0 zs es) (seen_more expression_of xs i x d h is)
