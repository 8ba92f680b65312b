-- The rules of single lines: assignments, inputs, outputs, conditions and replicators.
use Rattle.std.specs.Prelude.{◌≡◌, ℕ, ℤ, pos, ◌+ℤ◌, int_le, Bool, true, false, ◌&&◌, List, ◌⊎◌, Option, Some, None}
use Rattle.word_arithmetic.specs.Word.{greatest_word, is_word}
use Rattle.occam_parser.specs.Expressions.{Expression}
use Rattle.occam_parser.specs.Lines.{Place, Replicator}
use Rattle.scalar_ranges.specs.declared.types.ExprType.TheVariants as types
use Rattle.scalar_ranges.specs.declared.bounds.TheConstants.{OUT_OF_RANGE}
use Rattle.scalar_ranges.specs.Entries.{Entry}
use Rattle.scalar_ranges.specs.Types.{type_of}
use Rattle.program_uses.specs.declared.uses.Direction.TheVariants as direction
use Rattle.program_uses.specs.Constants.{value_as}
use Rattle.usage_checks.specs.declared.channel_rules.Position.{Position}
use Rattle.usage_checks.specs.declared.wanting.Wanted.TheVariants as wanted
use Rattle.usage_checks.specs.Wanting.{BreaksWanted}
use Rattle.usage_checks.specs.PlaceRules.{target_at, channel_at, BreaksTarget, Differ}
use Rattle.usage_checks.specs.ChannelRules.{BreaksEnd}

abbrev pub BreaksAssignment : List Entry → Place → Expression → ℕ → Type 0
BreaksAssignment es target e n =
    BreaksTarget es target n ⊎ (BreaksWanted wanted.Anything es e n ⊎ Differ (target_at es target) (type_of es e) n)

abbrev pub BreaksInput : Position → List Entry → Place → Place → ℕ → Type 0
BreaksInput p es channel target n =
    BreaksEnd p es direction.Input channel n
    ⊎ (BreaksTarget es target n ⊎ Differ (channel_at es channel) (target_at es target) n)

abbrev pub BreaksOutput : Position → List Entry → Place → Expression → ℕ → Type 0
BreaksOutput p es channel e n =
    BreaksEnd p es direction.Output channel n
    ⊎ (BreaksWanted wanted.Anything es e n ⊎ Differ (channel_at es channel) (type_of es e) n)

abbrev pub BreaksCondition : List Entry → Expression → ℕ → Type 0
BreaksCondition es e n = BreaksWanted (wanted.Value types.Condition) es e n

abbrev pub BreaksConditionIfAny : List Entry → Option Expression → ℕ → Type 0
BreaksConditionIfAny es None n = ⊥
BreaksConditionIfAny es (Some e) n = BreaksCondition es e n

-- with a count that is not below 0, each index is a word
abbrev pub fits_word : Option ℤ → ℤ → Bool
fits_word None count = true
fits_word (Some base) count = is_word base && int_le (base +ℤ count) (greatest_word +ℤ pos 1)

-- O16: a count that is known is no count from the base on
abbrev pub IsNoCount : Option ℤ → Option ℤ → ℕ → Type 0
IsNoCount base None n = ⊥
IsNoCount base (Some count) n = ((int_le (pos 0) count && fits_word base count) ≡ false) × (n ≡ OUT_OF_RANGE)

abbrev pub BreaksReplicator : List Entry → Replicator → ℕ → Type 0
BreaksReplicator es r n =
    BreaksWanted (wanted.Constant types.Int) es r.base n
    ⊎ (BreaksWanted (wanted.Constant types.Int) es r.count n
    ⊎ IsNoCount (value_as es types.Int r.base) (value_as es types.Int r.count) n)
