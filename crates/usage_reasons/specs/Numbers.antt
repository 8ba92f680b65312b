-- The number of the rule that is broken for a reason.
use Rattle.std.specs.Prelude.{ℕ}
use Rattle.scalar_ranges.specs.declared.types.TheConstants.{UNKNOWN_NAME, WRONG_TYPE}
use Rattle.scalar_ranges.specs.declared.bounds.TheConstants.{OUT_OF_RANGE, OUTSIDE}
use Rattle.program_uses.specs.declared.faults.TheConstants.{DECLARED_TWICE, CONSTANT_WANTED, OTHER_ACTUAL}
use Rattle.program_uses.specs.declared.faults.TheConstants.{SHARED_VARIABLE, CHANNEL_USE, PASSED_TWICE, NO_MAIN}
use Rattle.usage_reasons.specs.declared.reason.Why.{Why}
use Rattle.usage_reasons.specs.declared.reason.Why.TheVariants as why

abbrev pub number_of : Why → ℕ
number_of (why.UnknownName nearest) = UNKNOWN_NAME
number_of (why.DeclaredTwice first) = DECLARED_TWICE
number_of (why.OtherType found wanted) = WRONG_TYPE
number_of why.NoNumber = WRONG_TYPE
number_of (why.OtherTypes left right) = WRONG_TYPE
number_of (why.OtherSort wanted) = WRONG_TYPE
number_of (why.OtherPlaceType found wanted place) = WRONG_TYPE
number_of (why.OtherItems stated items) = WRONG_TYPE
number_of why.TextOfInts = WRONG_TYPE
number_of why.NoConstant = CONSTANT_WANTED
number_of (why.OtherCount actuals parameters) = OTHER_ACTUAL
number_of (why.NotTaken place parameter found) = OTHER_ACTUAL
number_of (why.SharedVariable variable first first_deed second second_deed) = SHARED_VARIABLE
number_of (why.SharedChannel channel element direction first second) = CHANNEL_USE
number_of why.OutsidePar = CHANNEL_USE
number_of (why.OtherDirection direction) = CHANNEL_USE
number_of (why.Overflow operator left right results) = OUT_OF_RANGE
number_of (why.Division operator dividend divisor) = OUT_OF_RANGE
number_of (why.ShiftCount count) = OUT_OF_RANGE
number_of (why.Conversion to operand) = OUT_OF_RANGE
number_of (why.SizeBelowOne size) = OUT_OF_RANGE
number_of (why.CountBelowZero count) = OUT_OF_RANGE
number_of (why.LastIndex base count) = OUT_OF_RANGE
number_of why.TooLarge = OUT_OF_RANGE
number_of (why.Outside size subscript) = OUTSIDE
number_of (why.PassedTwice first) = PASSED_TWICE
number_of (why.NoMain found) = NO_MAIN
