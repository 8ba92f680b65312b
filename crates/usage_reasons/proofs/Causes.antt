-- Why parts of expressions break a rule.
use Rattle.std.proofs.Common.{◌≡◌, ℕ, ◌+◌, ◌<◌, ◌^◌, false, map, List, [], ◌∷◌, length, Result, Ok, Err, sym, subst, arith}
use Rattle.std.proofs.Common.{length-append, Option, Some, None}
use Rattle.std.specs.Prelude.{IfSome, option_map}
use Rattle.occam_layout.specs.declared.mark.Mark.TheVariants as mark
use Rattle.occam_parser.specs.Terminals.{Name, Mark}
use Rattle.word_arithmetic.specs.Range.{ends_of}
use Rattle.occam_parser.specs.declared.tree.Operand.{Operand}
use Rattle.occam_parser.specs.Views.{term_of, with_others}
use Rattle.word_arithmetic.specs.declared.ranges.Range.{Range}
use Rattle.occam_parser.specs.declared.tree.PairOperator.{PairOperator}
use Rattle.occam_parser.specs.Expressions.{Expression, Alone, Paired, Terms, Two, Then, Term, Element, written, written_term}
use Rattle.scalar_ranges.specs.declared.types.ExprType.{ExprType}
use Rattle.scalar_ranges.specs.declared.bounds.TheConstants.{OUT_OF_RANGE}
use Rattle.scalar_ranges.specs.Entries.{Entry}
use Rattle.scalar_ranges.specs.Types.{type_of, type_of_term}
use Rattle.scalar_ranges.specs.Bounds.{bound_of, bound_of_term, range_found}
use Rattle.program_uses.specs.Constants.{is_same_type}
use Rattle.usage_reasons.specs.declared.reason.Why.{Why}
use Rattle.usage_reasons.specs.declared.reason.Why.TheVariants as why
use Rattle.usage_reasons.specs.Tokens.{capped}
use Rattle.usage_reasons.specs.declared.cause.Cause.{Cause}
use Rattle.usage_reasons.specs.Causes.{Breaks, IsCause, meant, Fails, AreJoined, AreOperands, IsUnfit, unknown, other_sort}
use Rattle.usage_reasons.specs.Causes.{no_constant, no_constant_element, overflow, division, shift, conversion, outside}
use Rattle.usage_reasons.specs.Causes.{unfit, other_type, no_number, other_types as compared}
use Rattle.usage_reasons.proofs.Places.{itself, itself_if}

-- an operator that fails where its operands lie there
pub operator_fails : (es : List Entry) (e : Expression) (left right : Range) → AreOperands es e left right
    → range_found (bound_of es e) ≡ Err OUT_OF_RANGE → Fails es e left right
operator_fails es e left right h fails = record { operands = h; result = fails }

joined_then : (es : List Entry) (ts : Terms) (t : Term) (xs : List Term) (left right : Range)
    → AreJoined es (with_others (Then ts t) xs) left right
joined_then es ts t [] left right = tt
joined_then es ts t (x ∷ xs) left right = joined_then es (Then ts t) x xs left right

-- of a chain of more than two operands nothing is said
pub joined_long : (es : List Entry) (a b : Term) (xs : List Operand) (i : ℕ) (left right : Range) → i < length xs
    → AreJoined es (with_others (Two a b) (map term_of xs)) left right
joined_long es a b [] i left right h = absurd (omega (arith, h))
joined_long es a b (x ∷ xs) i left right h = joined_then es (Two a b) (term_of x) (map term_of xs) left right

-- of two operands it is where they lie
pub joined_first : (es : List Entry) (a b : Term) (xs : List Operand) (left right : Range)
    → range_found (bound_of_term es a) ≡ Ok (ends_of left) → range_found (bound_of_term es b) ≡ Ok (ends_of right)
    → AreJoined es (with_others (Two a b) (map term_of xs)) left right
joined_first es a b [] left right g h = (g, h)
joined_first es a b (x ∷ xs) left right g h = joined_then es (Two a b) (term_of x) (map term_of xs) left right

pub ruleset names_break = (unknown, other_sort, no_constant)

pub ruleset operators_fail = (overflow, division, shift, conversion, operator_fails)

pub ruleset types_unfit = (other_type, no_number)

pub ruleset subscripts_fail = (outside)

unfit_breaks : (es : List Entry) (e : Expression) (type : Result ExprType ℕ) (w : Option Why) → type ≡ type_of es e
    → IfSome w (IsUnfit type) → IfSome w (Breaks es (written e))
unfit_breaks es e type None is h = h
unfit_breaks es e type (Some w) is h = unfit e w (subst (λ f. IsUnfit f w) is h)

pub unfit_operand : (es : List Entry) (t : Term) (at len : ℕ) (type : Result ExprType ℕ) (w : Option Why)
    (found : Option Cause) → found ≡ option_map (meant at len) w → at < 2 ^ 64 → len ≡ capped (length (written_term t))
    → type ≡ type_of_term es t → IfSome w (IsUnfit type) → IfSome found (IsCause es (written_term t) at)
unfit_operand es t at len type w found is fits count of h =
    itself_if es (written_term t) at len w found is fits count (unfit_breaks es (Alone t) type w of h)

pub unfit_expression : (es : List Entry) (e : Expression) (at len : ℕ) (type : Result ExprType ℕ) (w : Option Why)
    (found : Option Cause) → found ≡ option_map (meant at len) w → at < 2 ^ 64 → len ≡ capped (length (written e))
    → type ≡ type_of es e → IfSome w (IsUnfit type) → IfSome found (IsCause es (written e) at)
unfit_expression es e at len type w found is fits count of h =
    itself_if es (written e) at len w found is fits count (unfit_breaks es e type w of h)

pub other_types : (es : List Entry) (e : Expression) (op : PairOperator) (a b : Term) (at len : ℕ) (left right : ExprType)
    → at < 2 ^ 64 → e ≡ Paired op a b → len ≡ capped (length (written e)) → type_of_term es a ≡ Ok left
    → type_of_term es b ≡ Ok right → is_same_type left right ≡ false
    → IsCause es (written e) at (record { tokens = record { at = at; len = len }; why = why.OtherTypes left right })
other_types es e op a b at len left right fits is count l r other =
    subst (λ d. len ≡ capped (length (written d))
    → IsCause es (written d) at (record { tokens = record { at = at; len = len }; why = why.OtherTypes left right }))
    (sym is) (λ n. itself es (written (Paired op a b)) at len _ fits n (compared op a b left right l r other)) count

pub element_no_constant : (es : List Entry) (name : List ℕ) (e : Expression) (at width len : ℕ) → at < 2 ^ 64
    → width ≡ capped (length (written e)) → len ≡ capped (3 + width)
    → IsCause es (written_term (Element name e)) at
    (record { tokens = record { at = at; len = len }; why = why.NoConstant })
element_no_constant es name e at width len fits w n =
    let count : len ≡ capped (length (written_term (Element name e))) =
    omega (arith, w, n, length-append (Name name ∷ Mark mark.OpenBracket ∷ written e) (Mark mark.CloseBracket ∷ [])) in
    itself es (written_term (Element name e)) at len _ fits count (no_constant_element name e)
