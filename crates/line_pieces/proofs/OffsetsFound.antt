-- The constant that a subscript ends with, and the operand before it.
use Rattle.std.proofs.Common.{◌≡◌, ℕ, ◌<◌, ℤ, List, [], ◌∷◌, ◌++◌, length, map, Option, None, Result, Ok, Err, IfOk}
use Rattle.std.proofs.Common.{refl, sym, ap, arith, ◌∙◌, Vec, Global}
use Rattle.occam_parser.specs.declared.tree.Operand.{Operand}
use Rattle.occam_parser.specs.declared.tree.ChainOperator.{ChainOperator}
use Rattle.occam_parser.specs.declared.tree.Operation.{Chain}
use Rattle.occam_parser.specs.Expressions.{Expression, Chained, Terms, Two, Then, Term}
use Rattle.occam_parser.specs.Views.{term_of, with_others, operation_of}
use Rattle.occam_parser.proofs.Seen.{view-Chain}
use Rattle.scalar_ranges.specs.Entries.{Entry}
use Rattle.scalar_ranges.specs.Bounds.{bound_of_term, exact_value}
use Rattle.code_pieces.specs.Pieces.{Piece}
use Rattle.line_pieces.specs.declared.setting.Setting.{Setting}
use Rattle.line_pieces.specs.Homes.{Home}
use Rattle.line_pieces.specs.Expressions.{offset_of, offset_of_terms, offset_or_none, added_by, first_of_terms}
use Rattle.line_pieces.specs.SettingViews.{entries_in, homes_in, term_in, first_in}

-- ---- the constant

-- a chain of two operands
with_none : (es : List Entry) (op : ChainOperator) (x y : Term) (xs : List Operand) → length xs ≡ 0
    → offset_of es (Chained op (with_others (Two x y) (map term_of xs)))
    ≡ offset_or_none (added_by op (exact_value (bound_of_term es y)))
with_none es op x y [] h = refl
with_none es op x y (z ∷ xs) h = absurd (omega arith)

-- a chain of more than two
with_more : (es : List Entry) (op : ChainOperator) (terms : Terms) (x : Term) (xs : List Operand)
    → offset_of_terms es op (with_others (Then terms x) (map term_of xs)) ≡ None
with_more es op terms x [] = refl
with_more es op terms x (y ∷ xs) = with_more es op (Then terms x) (term_of y) xs

with_some : (es : List Entry) (op : ChainOperator) (x y : Term) (xs : List Operand) → 0 < length xs
    → offset_of es (Chained op (with_others (Two x y) (map term_of xs))) ≡ None
with_some es op x y [] h = absurd (omega arith)
with_some es op x y (z ∷ xs) h = with_more es op (Two x y) (term_of z) xs

pub offset_found : (es : List Entry) (op : ChainOperator) (first second : Operand) (others : Vec Operand Global)
    (e : Expression) (value added found : Option ℤ) → length others.items ≡ 0
    → e ≡ operation_of (Chain op first second others) → value ≡ exact_value (bound_of_term es (term_of second))
    → added ≡ added_by op value → found ≡ offset_or_none added → found ≡ offset_of es e
offset_found es op first second others e value added found none is v a f =
    f ∙ ap offset_or_none (a ∙ ap (added_by op) v)
    ∙ sym (with_none es op (term_of first) (term_of second) others.items none)
    ∙ ap (offset_of es) (sym (view-Chain op first second others) ∙ sym is)

pub no_offset : (es : List Entry) (op : ChainOperator) (first second : Operand) (others : Vec Operand Global)
    (e : Expression) → 0 < length others.items → e ≡ operation_of (Chain op first second others) → None ≡ offset_of es e
no_offset es op first second others e some is =
    sym (with_some es op (term_of first) (term_of second) others.items some)
    ∙ ap (offset_of es) (sym (view-Chain op first second others) ∙ sym is)

-- ---- the operand before it

stays_first : (hs : List Home) (es : List Entry) (t : ℕ) (terms : Terms) (xs : List Operand)
    → first_of_terms hs es t terms ≡ first_of_terms hs es t (with_others terms (map term_of xs))
stays_first hs es t terms [] = refl
stays_first hs es t terms (x ∷ xs) = stays_first hs es t (Then terms (term_of x)) xs

first_operand : (s : Setting) (op : ChainOperator) (first second : Operand) (others : Vec Operand Global)
    (e : Expression) → e ≡ operation_of (Chain op first second others) → term_in s (term_of first) ≡ first_in s e
first_operand s op first second others e is =
    stays_first (homes_in s) (entries_in s) s.top (Two (term_of first) (term_of second)) others.items
    ∙ ap (first_in s) (sym (view-Chain op first second others) ∙ sym is)

pub first_written : {A E : Type 0} (r : Result A E) (s : Setting) (op : ChainOperator) (first second : Operand)
    (others : Vec Operand Global) (e : Expression) (old new : List Piece)
    → e ≡ operation_of (Chain op first second others) → IfOk r (λ _. new ≡ old ++ term_in s (term_of first))
    → IfOk r (λ _. new ≡ old ++ first_in s e)
first_written (Ok v) s op first second others e old new is n =
    n ∙ ap (λ c. old ++ c) (first_operand s op first second others e is)
first_written (Err v) s op first second others e old new is n = n
