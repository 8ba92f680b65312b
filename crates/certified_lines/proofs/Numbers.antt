-- The ranges of what operators leave, and what comparisons tell.
use Rattle.std.proofs.Common.{◌≡◌, ℤ, FitsSigned, Option, Some, None, refl, ap, ◌∙◌, arith}
use Rattle.std.proofs.lemmas.Int.{ints}
use Rattle.std.specs.Int.{w32}
use Rattle.std.specs.Option.{option_map}
use Rattle.word_arithmetic.specs.Range as ranges
use Rattle.word_arithmetic.specs.Range.{Ends, IsRange, truths, not_range}
use Rattle.word_arithmetic.specs.Binary.{result_range}
use Rattle.word_arithmetic.specs.Unary.{unary_result_range}
use Rattle.word_arithmetic.specs.declared.binary.Binary.TheVariants as binary
use Rattle.word_arithmetic.specs.declared.unary.Unary.TheVariants as unary
use Rattle.word_arithmetic.proofs.EndsLaws.{words_in_order_are_ranges}
use Rattle.module_format.specs.Rows.{Fact}
use Rattle.module_format.specs.declared.fact.Fact.TheVariants.{Number}
use Rattle.states.specs.declared.known.Known.{Known}
use Rattle.local_rules.specs.WordRules.{range_of, number_in, fact_of_two, unary_result_fact, shift_range}
use Rattle.local_rules.specs.WordRules.{equal_source, greater_source}
use Rattle.certified_lines.specs.StraightRules.{Told}
use Rattle.certified_lines.specs.Numbers.{IsNumberIn, ResultsLieInRanges, SumsLieInRanges, ComparisonsAreTruths}
use Rattle.certified_lines.specs.Numbers.{TurnedBitsLieInRanges, ShiftsLieInRanges, GreaterWordsAreTold}
use Rattle.certified_lines.specs.Numbers.{LesserWordsAreTold, EqualWordsAreTold, OppositesAreTold}
use Rattle.certified_lines.specs.Numbers.{NothingIsToldFromNowhere}
use Rattle.certified_lines.proofs.Instructions.{results_are_known, sums_with_constants_are_known}
use Rattle.certified_lines.proofs.Instructions.{compared_constants_are_known, turned_bits_are_known}
use Rattle.certified_lines.proofs.Instructions.{shifted_words_are_known}

-- ---- numbers have ranges

pub range_told : (r : Ends) → IsRange r → range_of (number_in r) ≡ Some r
range_told r is = (words_in_order_are_ranges r.lo r.hi r).1 (is, refl, refl)

known_range : (k : Known) (r : Ends) → IsNumberIn k r → range_of k.fact ≡ Some r
known_range k r is = ap range_of is.is ∙ range_told r is.range

-- one number is a range
one_range : (e : ℤ) → FitsSigned w32 e → range_of (Number e e) ≡ Some (ranges.constant e)
one_range e fits =
    range_told (ranges.constant e) (record { lo_fits = fits; hi_fits = fits; ordered = grind (arith, ints) })

two_told : (results : Ends → Ends → Option Ends) (left right : Fact) (r s q : Ends) → range_of left ≡ Some r
    → range_of right ≡ Some s → results r s ≡ Some q → fact_of_two results left right ≡ Some (number_in q)
unfolding fact_of_two
two_told results left right r s q first second is =
    ap (λ (o : Option Ends). elim o as (λ o. Option Fact) [
      | None ↦ None
      | Some r ↦ elim (range_of right) as (λ o. Option Fact) [
        | None ↦ None
        | Some s ↦ option_map number_in (results r s)
      ]
    ]) first
    ∙ (ap (λ (o : Option Ends). elim o as (λ o. Option Fact) [
      | None ↦ None
      | Some s ↦ option_map number_in (results r s)
    ]) second ∙ ap (option_map number_in) is)

one_told : (fact : Fact) (r : Ends) → range_of fact ≡ Some r
    → unary_result_fact unary.Not fact ≡ Some (number_in (not_range r))
unfolding unary_result_fact unary_result_range
one_told fact r is = ap (λ (o : Option Ends). elim o as (λ o. Option Fact) [
  | None ↦ None
  | Some r ↦ option_map number_in (unary_result_range unary.Not r)
]) is

-- the results of what is in B and A
registers_told : (results : Ends → Ends → Option Ends) (r s q : Ends) (t : Told) → IsNumberIn t.stack.b r
    → IsNumberIn t.stack.a s → results r s ≡ Some q
    → fact_of_two results t.stack.b.fact t.stack.a.fact ≡ Some (number_in q)
registers_told results r s q t left right is =
    two_told results t.stack.b.fact t.stack.a.fact r s q (known_range t.stack.b r left) (known_range t.stack.a s right)
    is

-- ---- results

pub results_lie_in_ranges : ResultsLieInRanges
results_lie_in_ranges g operation op r s q t named left right is =
    results_are_known g operation op (number_in q) t named (registers_told (result_range op) r s q t left right is)

pub sums_lie_in_ranges : SumsLieInRanges
sums_lie_in_ranges g e r q t number fits is =
    sums_with_constants_are_known g e (number_in q) t
    (two_told (result_range binary.Add) t.stack.a.fact (Number e e) r (ranges.constant e) q
    (known_range t.stack.a r number) (one_range e fits) is)

compared_range : (r s : Ends) → result_range binary.Equal r s ≡ Some truths
unfolding result_range
compared_range r s = refl

pub comparisons_are_truths : ComparisonsAreTruths
comparisons_are_truths g e r t number fits =
    compared_constants_are_known g e (number_in truths) t
    (two_told (result_range binary.Equal) t.stack.a.fact (Number e e) r (ranges.constant e) truths
    (known_range t.stack.a r number) (one_range e fits) (compared_range r (ranges.constant e)))

pub turned_bits_lie_in_ranges : TurnedBitsLieInRanges
turned_bits_lie_in_ranges g r t number =
    turned_bits_are_known g (number_in (not_range r)) t
    (one_told t.stack.a.fact r (known_range t.stack.a r number))

pub shifts_lie_in_ranges : ShiftsLieInRanges
shifts_lie_in_ranges g operation op r s q t named left right is =
    shifted_words_are_known g operation op (number_in q) t named (registers_told (shift_range op) r s q t left right is)

-- ---- what comparisons tell of words

pub greater_words_are_told : GreaterWordsAreTold
unfolding greater_source
greater_words_are_told left right word v from is = rw (from, is, greater_source) refl

pub lesser_words_are_told : LesserWordsAreTold
unfolding greater_source
lesser_words_are_told left right word v nowhere from is = rw (nowhere, from, is, greater_source) refl

pub equal_words_are_told : EqualWordsAreTold
unfolding equal_source
equal_words_are_told left word v from = rw from refl

pub opposites_are_told : OppositesAreTold
unfolding equal_source
opposites_are_told left word lo hi inside from = rw from refl

pub nothing_is_told_from_nowhere : NothingIsToldFromNowhere
unfolding equal_source
nothing_is_told_from_nowhere left v nowhere = rw nowhere refl

pub ruleset results = (
  results_lie_in_ranges,
  sums_lie_in_ranges,
  comparisons_are_truths,
  turned_bits_lie_in_ranges,
  shifts_lie_in_ranges,
)
