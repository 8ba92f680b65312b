-- The ends that actuals use are added one by one.
use Rattle.std.proofs.Common.{◌≡◌, ℕ, suc, ◌+◌, ◌<◌, List, [], ◌∷◌, ◌++◌, length, map, take, get_or, sym, ap}
use Rattle.std.proofs.Common.{◌∙◌, arith, add-zero}
use Rattle.std.proofs.lemmas.List.{length-take, length-map}
use Rattle.occam_parser.specs.declared.tree.Expr.{Expr}
use Rattle.occam_parser.specs.Expressions.{Expression}
use Rattle.occam_parser.specs.Views.{expression_of}
use Rattle.scalar_ranges.specs.Entries.{Entry}
use Rattle.scalar_ranges.specs.Environments.{item_at}
use Rattle.program_uses.specs.Signatures.{Parameter}
use Rattle.program_uses.proofs.NextInTurn.{seen_more}
use Rattle.usage_checks.specs.Sizes.{ends_of_actual, ends_of_actuals}

abbrev ends_at : List Entry → List Parameter → ℕ → Expression → ℕ
ends_at es ps i e = ends_of_actual es (item_at i ps) e

last_ends : (es : List Entry) (ps : List Parameter) (k : ℕ) (xs : List Expression) (x : Expression)
    → ends_of_actuals es ps k (xs ++ x ∷ []) ≡ ends_of_actuals es ps k xs + ends_at es ps (k + length xs) x
last_ends es ps k [] x = omega (arith, ap (λ j. ends_at es ps j x) (add-zero k))
last_ends es ps k (y ∷ xs) x =
    let long : suc k + length xs ≡ k + length (y ∷ xs) = omega arith in
    omega (arith, last_ends es ps (suc k) xs x, ap (λ j. ends_at es ps j x) long)

pub next_ends : (es : List Entry) (ps : List Parameter) (xs : List Expr) (i : ℕ) (x d : Expr) → i < length xs
    → x ≡ get_or xs i d
    → ends_of_actuals es ps 0 (map expression_of (take i xs)) + ends_at es ps i (expression_of x)
    ≡ ends_of_actuals es ps 0 (map expression_of (take (i + 1) xs))
next_ends es ps xs i x d h is =
    let ys = map expression_of (take i xs) in
    let many : i ≡ 0 + length ys = simp (length-map, length-take) (omega arith) in
    ap (λ j. ends_of_actuals es ps 0 ys + ends_at es ps j (expression_of x)) many
    ∙ sym (last_ends es ps 0 ys (expression_of x))
    ∙ ap (ends_of_actuals es ps 0) (seen_more expression_of xs i x d h is)
