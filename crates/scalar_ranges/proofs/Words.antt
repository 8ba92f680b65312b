-- The ends of a range of the program are words in order.
use Rattle.std.proofs.Common.{◌≡◌, Some, FitsSigned, ◌≤ℤ◌, ℤ, refl, sym, ap}
use Rattle.std.specs.Int.{w32}
use Rattle.word_arithmetic.specs.Range.{range_between}
use Rattle.scalar_ranges.specs.Narrowing.{left_of}
use Rattle.std.specs.Prelude.{option_map, unwrap_or}
use Rattle.word_arithmetic.specs.Range.{Ends, narrowed}
use Rattle.word_arithmetic.specs.declared.compare.Comparison.{Comparison}
use Rattle.word_arithmetic.proofs.EndsLaws.{words_in_order_are_ranges}

pub range_is_between : (lo hi : ℤ) → FitsSigned w32 lo → FitsSigned w32 hi → lo ≤ℤ hi
    → range_between lo hi ≡ Some (record { lo = lo; hi = hi })
range_is_between lo hi f g h =
    (words_in_order_are_ranges lo hi (record { lo = lo; hi = hi })).1
    (record { lo_fits = f; hi_fits = g; ordered = h }, refl, refl)

pub left_is : (c : Comparison) (v lo hi : ℤ) → FitsSigned w32 lo → FitsSigned w32 hi → lo ≤ℤ hi
    → narrowed c v (record { lo = lo; hi = hi }) ≡ left_of c v (record { lo = lo; hi = hi })
left_is c v lo hi f g h =
    let r : Ends = record { lo = lo; hi = hi } in
    sym (ap (λ o. unwrap_or (option_map (narrowed c v) o) r) (range_is_between lo hi f g h))
