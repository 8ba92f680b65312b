-- What is proved of the tokens that are meant, and of why they break a rule.
use Rattle.std.specs.Prelude.{◌≡◌, ℕ, nat_eq, Bool, true, false, List, Option, Some, None}
use Rattle.occam_parser.specs.Expressions.{Expression}
use Rattle.scalar_ranges.specs.declared.scope.Meaning.{Meaning}
use Rattle.scalar_ranges.specs.declared.types.ExprType.{ExprType}
use Rattle.scalar_ranges.specs.Entries.{Entry}
use Rattle.scalar_ranges.specs.Scopes.{meaning_of}
use Rattle.program_uses.specs.Signatures.{Parameter}
use Rattle.usage_checks.specs.declared.channel_rules.Position.{Position}
use Rattle.usage_checks.specs.Handing.{collide, handed_by}
use Rattle.usage_checks.specs.InstanceRules.{takes, takes_value}
use Rattle.usage_reasons.specs.declared.cause.Cause.{Cause}
use Rattle.usage_reasons.specs.declared.reason.Tokens.{Tokens}
use Rattle.usage_reasons.specs.declared.reason.Why.{Why}
use Rattle.usage_reasons.specs.declared.reason.Why.TheVariants as why
use Rattle.usage_reasons.specs.Causes.{IsBroken}
use Rattle.usage_reasons.specs.Misuse.{IsMisuse}

-- Nothing is said of what components share, of the last index, of the size of a program, and here of the last item.
abbrev pub is_left_out : Why → Bool
is_left_out (why.SharedVariable variable first first_deed second second_deed) = true
is_left_out (why.SharedChannel channel element direction first second) = true
is_left_out (why.LastIndex base count) = true
is_left_out why.TooLarge = true
is_left_out (why.NoMain found) = true
is_left_out w = false

-- Tokens are at fault for this reason: as many break a rule by what some scope knows. Of a channel it is the position of
-- some line, and of actuals the rules on what a parameter takes and on what is passed beside another.
pub data AreAtFault (tokens : Tokens) : Why → Type 0 where
  broken : (es : List Entry) (w : Why) → IsBroken es tokens w → AreAtFault tokens w
  misused : (p : Position) (name : List ℕ) (number : ℕ) (w : Why) → IsMisuse p name number w → AreAtFault tokens w
  other_count : (actuals parameters : ℕ) → nat_eq actuals parameters ≡ false
      → AreAtFault tokens (why.OtherCount actuals parameters)
  not_taken : (place : ℕ) (parameter found : Meaning) (subscripted : Bool)
      → takes (meaning_of parameter) (meaning_of found) subscripted ≡ false
      → AreAtFault tokens (why.NotTaken place parameter None)
  value_not_taken : (place : ℕ) (parameter : Meaning) (found : ExprType)
      → takes_value (meaning_of parameter) found ≡ false
      → AreAtFault tokens (why.NotTaken place parameter (Some found))
  passed_twice : (es : List Entry) (p q : Option Parameter) (a b : Expression) (first : Tokens)
      → collide (handed_by es p a) (handed_by es q b) ≡ true → AreAtFault tokens (why.PassedTwice first)
  left_out : (w : Why) → is_left_out w ≡ true → AreAtFault tokens w

abbrev pub IsAtFault : Cause → Type 0
IsAtFault cause = AreAtFault cause.tokens cause.why
