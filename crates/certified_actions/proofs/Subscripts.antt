-- A subscript that breaks no rule selects an element: its number is known, or its code leaves what selects one.
use Rattle.std.proofs.Common.{◌≡◌, ℕ, ℤ, true, List, Option, Some, None, Result, Ok, Err}
use Rattle.std.proofs.Common.{refl, sym, ap, subst, ◌∙◌, arith}
use Rattle.std.proofs.lemmas.Int.{ints}
use Rattle.word_arithmetic.specs.Range.{Ends}
use Rattle.occam_parser.specs.Expressions.{Expression}
use Rattle.occam_parser.specs.Words.{has_words}
use Rattle.scalar_ranges.specs.declared.types.ExprType.TheVariants as types
use Rattle.scalar_ranges.specs.Bounds.{Bound, bound_of, ends, is_subscript, range_found}
use Rattle.scalar_ranges.specs.Entries.{Entry}
use Rattle.scalar_ranges.specs.Types.{type_of}
use Rattle.line_pieces.specs.Expressions.{single}
use Rattle.certified_lines.specs.Scopes.{IsScope, Scene}
use Rattle.certified_lines.proofs.Induction.{SubscriptTold, expressions_tell, first_told, only_element}
use Rattle.certified_lines.proofs.Induction.{subscript_told, whole_told}
use Rattle.certified_actions.specs.Variables.{IsSelected, IsSubscript, is_computed, is_known}

-- what the code of a subscript leaves selects several elements
selected_of : {g : Scene} {top : ℕ} {es : List Entry} {e : Expression} {size : ℕ} {o : Option ℤ}
    → SubscriptTold g top es e size o → IsSelected g top es e size o
selected_of told = record {
  range = told.range;
  leaf = told.leaf;
  select = told.select;
  several = told.several;
  tells = told.tells;
}

-- the bound of what has a range
pub bound_found : (r : Result Bound ℕ) (range : Ends) → range_found r ≡ Ok range
    → (b : Bound) × (r ≡ Ok b) × (ends b ≡ range)
bound_found (Ok b) range is = (b, refl, cc is)
bound_found (Err n) range is = absurd (cc is)

-- so a subscript inside an array selects an element
pub subscript_selects : (g : Scene) (top : ℕ) (es : List Entry) (e : Expression) (range : Ends) (size : ℕ)
    → IsScope g top es → has_words e ≡ true → type_of es e ≡ Ok types.Int → range_found (bound_of es e) ≡ Ok range
    → is_subscript size range ≡ true → IsSubscript g top es size e
subscript_selects g top es e range size scope words typed found inside = by (single (Ok range)) refl
  where
    by : (o : Option ℤ) → single (Ok range) ≡ o → IsSubscript g top es size e
    by (Some c) is =
        let only = only_element size range c is inside in
        let less = only.inside in
        is_known only.number (omega (arith, ints, less))
        (ap single found ∙ (is ∙ ap (λ (z : ℤ). Some z) only.is))
    by None is =
        let b = bound_found (bound_of es e) range found in
        let told = expressions_tell g top es e types.Int b.0 scope words typed b.1 in
        let several : single (Ok (ends b.0)) ≡ None = ap (λ (r : Ends). single (Ok r)) b.2 ∙ is in
        let here = subst (λ (r : Ends). is_subscript size r ≡ true) (sym b.2) inside in
        is_computed (ap single found ∙ is) (selected_of (whole_told g top es e size b.0 told several here))
        (selected_of
        (subscript_told g top es size e b.0 typed b.1 several here told (first_told g top es scope e words)))
