-- Why parts of lines break a rule.
use Rattle.std.proofs.Common.{◌≡◌, ℕ, ℤ, pos, ◌+◌, ◌+ℤ◌, false, List, [], ◌∷◌, ◌++◌, length, map, sum_by, refl}
use Rattle.std.proofs.Common.{Option, Some, None, Ok}
use Rattle.std.proofs.Common.{sym, subst, arith, length-append}
use Rattle.std.proofs.lemmas.List.{length-map}
use Rattle.std.proofs.lemmas.List.Sums.{sum_by-cons}
use Rattle.std.specs.Prelude.{int_le, nat_eq, IfSome}
use Rattle.std.specs.Option.{option_or}
use Rattle.occam_layout.specs.declared.mark.Mark.TheVariants as mark
use Rattle.occam_parser.specs.Terminals.{Terminal, Name, Text, Mark}
use Rattle.occam_parser.specs.Expressions.{Expression, written}
use Rattle.occam_parser.specs.declared.tree.Expr.{Expr}
use Rattle.occam_parser.specs.declared.tree.OneOrMore as code_type
use Rattle.occam_parser.specs.OneOrMore.{as_list, one_or_more_of}
use Rattle.occam_parser.specs.Lines.{Place, Table, written_place, written_value, after_commas, separated}
use Rattle.occam_parser.specs.Views.{expression_of}
use Rattle.word_arithmetic.specs.Word.{greatest_word}
use Rattle.scalar_ranges.specs.declared.types.ExprType.{ExprType}
use Rattle.scalar_ranges.specs.declared.types.ExprType.TheVariants as types
use Rattle.scalar_ranges.specs.Entries.{Entry, meaning_in, number_in}
use Rattle.scalar_ranges.specs.Types.{type_of}
use Rattle.program_uses.specs.Constants.{is_same_type, value_as, size_in}
use Rattle.usage_reasons.specs.declared.cause.Cause.{Cause}
use Rattle.usage_reasons.specs.declared.reason.Tokens.{Tokens}
use Rattle.usage_reasons.specs.declared.reason.Why.{Why}
use Rattle.usage_reasons.specs.declared.reason.Why.TheVariants as why
use Rattle.usage_reasons.specs.Tokens.{capped, tokens_of_item}
use Rattle.usage_reasons.specs.Sorts.{carried}
use Rattle.usage_reasons.specs.Causes.{Breaks, IsCause, Explains, declared_twice, other_value, other_target, size_below_one}
use Rattle.usage_reasons.specs.Causes.{count_below_zero, last_index, other_items, other_text, text_of_ints}

-- what is said without the place in the line
pub of_cause : (es : List Entry) (line : List Terminal) (at : ℕ) (c : Cause) → IsCause es line at c → Explains es c
of_cause es line at c h = record { part = h.part; count = h.count; broken = h.broken }

-- of each cause that is found
pub of_cause_if : (es : List Entry) (line : List Terminal) (at : ℕ) (r : Option Cause) → IfSome r (IsCause es line at)
    → IfSome r (Explains es)
of_cause_if es line at None h = h
of_cause_if es line at (Some c) h = of_cause es line at c h

-- what holds of each of two causes holds of the first of them
pub first_of : (P : Cause → Type 0) (a b r : Option Cause) → r ≡ option_or a b → IfSome a P → IfSome b P → IfSome r P
first_of P None b r is h k = subst (λ o. IfSome o P) (sym is) k
first_of P (Some c) b r is h k = subst (λ o. IfSome o P) (sym is) h

-- all tokens of a part
pub whole_part : (es : List Entry) (part : List Terminal) (at len : ℕ) (w : Why) → len ≡ capped (length part)
    → Breaks es part w → Explains es (record { tokens = record { at = at; len = len }; why = w })
whole_part es part at len w count broken = record { part = part; count = count; broken = broken }

-- a name that is declared twice
pub twice_broken : (es : List Entry) (name : List ℕ) (number first at : ℕ) → number_in name es ≡ Some number
    → Explains es (record { tokens = record { at = at; len = 1 }; why = why.DeclaredTwice first })
twice_broken es name number first at is = whole_part es (Name name ∷ []) at 1 _ refl (declared_twice name number first is)

-- a value that goes to a place of another type
pub value_broken : (es : List Entry) (name : List ℕ) (e : Expression) (found wanted : ExprType) (at len : ℕ)
    (place : Tokens) → len ≡ capped (length (written e)) → type_of es e ≡ Ok found
    → carried (meaning_in name es) ≡ Some wanted → is_same_type found wanted ≡ false
    → Explains es (record { tokens = record { at = at; len = len }; why = why.OtherPlaceType found wanted place })
value_broken es name e found wanted at len place count f w other =
    whole_part es (written e) at len _ count (other_value name e found wanted place f w other)

-- a variable that is received from a channel of another type
pub target_broken : (es : List Entry) (channel : List ℕ) (target : Place) (found wanted : ExprType) (at len : ℕ)
    (place : Tokens) → len ≡ capped (length (written_place target)) → carried (meaning_in target.name es) ≡ Some found
    → carried (meaning_in channel es) ≡ Some wanted → is_same_type found wanted ≡ false
    → Explains es (record { tokens = record { at = at; len = len }; why = why.OtherPlaceType found wanted place })
target_broken es channel target found wanted at len place count f w other =
    whole_part es (written_place target) at len _ count (other_target channel target found wanted place f w other)

-- the size of an array
pub size_broken : (es : List Entry) (e : Expression) (at len : ℕ) (size : ℤ) → len ≡ capped (length (written e))
    → value_as es types.Int e ≡ Some size → int_le (pos 1) size ≡ false
    → Explains es (record { tokens = record { at = at; len = len }; why = why.SizeBelowOne size })
size_broken es e at len size count v below =
    whole_part es (written e) at len _ count (size_below_one e size v below)

-- the count of a replicator
pub count_broken : (es : List Entry) (e : Expression) (at len : ℕ) (count : ℤ) → len ≡ capped (length (written e))
    → value_as es types.Int e ≡ Some count → int_le (pos 0) count ≡ false
    → Explains es (record { tokens = record { at = at; len = len }; why = why.CountBelowZero count })
count_broken es e at len count n v below =
    whole_part es (written e) at len _ n (count_below_zero e count v below)

-- the base and the count of a replicator
pub index_broken : (es : List Entry) (b e : Expression) (at width other len : ℕ) (base count : ℤ)
    → width ≡ capped (length (written b)) → other ≡ capped (length (written e)) → len ≡ capped (width + (1 + other))
    → value_as es types.Int b ≡ Some base → value_as es types.Int e ≡ Some count
    → int_le (base +ℤ count) (greatest_word +ℤ pos 1) ≡ false
    → Explains es (record { tokens = record { at = at; len = len }; why = why.LastIndex base count })
index_broken es b e at width other len base count w o n v u beyond =
    whole_part es (written b ++ Mark mark.For ∷ written e) at len _
    (omega (arith, w, o, n, length-append (written b) (Mark mark.For ∷ written e))) (last_index b e base count v u beyond)

-- how many tokens the further items of a table are
items_len : (xs : List Expression) → length (after_commas written xs) ≡ sum_by tokens_of_item xs
items_len [] = refl
items_len (x ∷ xs) = omega (
  arith,
  items_len xs,
  sum_by-cons tokens_of_item x xs,
  length-append (Mark mark.Comma ∷ written x) (after_commas written xs),
)

-- a table with another number of items than its size says
pub table_broken : (es : List Entry) (size : Expression) (items : code_type.OneOrMore Expr)
    (at first others inner len stated count : ℕ)
    → first ≡ capped (length (written (expression_of items.first)))
    → others ≡ capped (sum_by tokens_of_item (map expression_of items.others.items))
    → inner ≡ capped (first + others) → len ≡ capped (2 + inner) → count ≡ 1 + length items.others.items
    → size_in es size ≡ Some stated → nat_eq stated count ≡ false
    → Explains es (record { tokens = record { at = at; len = len }; why = why.OtherItems stated count })
table_broken es size items at first others inner len stated count f o i l c s other =
    let seen = one_or_more_of expression_of items in
    let as_many : length (as_list seen) ≡ count = omega (arith, c, length-map items.others.items expression_of) in
    let width : len ≡ capped (length (written_value (Table size seen))) = omega (
      arith,
      f,
      o,
      i,
      l,
      items_len seen.others,
      length-append (written seen.first) (after_commas written seen.others),
      length-append (Mark mark.OpenBracket ∷ separated written (as_list seen)) (Mark mark.CloseBracket ∷ []),
    ) in
    subst (λ n. nat_eq stated n ≡ false
    → Explains es (record { tokens = record { at = at; len = len }; why = why.OtherItems stated n })) as_many
    (λ h. whole_part es (written_value (Table size seen)) at len _ width (other_items size seen stated s h)) other

-- a text of another length than its size says
pub text_broken : (es : List Entry) (size : Expression) (text : List ℕ) (at stated count : ℕ) → count ≡ length text
    → size_in es size ≡ Some stated → nat_eq stated count ≡ false
    → Explains es (record { tokens = record { at = at; len = 1 }; why = why.OtherItems stated count })
text_broken es size text at stated count is s other =
    subst (λ n. nat_eq stated n ≡ false
    → Explains es (record { tokens = record { at = at; len = 1 }; why = why.OtherItems stated n })) (sym is)
    (λ h. whole_part es (Text text ∷ []) at 1 _ refl (other_text size text stated s h)) other

-- a text as a table of INT
pub ints_broken : (es : List Entry) (at : ℕ)
    → Explains es (record { tokens = record { at = at; len = 1 }; why = why.TextOfInts })
ints_broken es at = whole_part es (Text [] ∷ []) at 1 _ refl (text_of_ints [])
