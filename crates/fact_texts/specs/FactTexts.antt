-- What is known of a word, in words.
use Rattle.std.specs.Prelude.{ℕ, ℤ, [], ◌++◌, codes}
use Rattle.std.specs.Fmt.{decimal, signed_decimal}
use Rattle.module_format.specs.Rows.{Fact}
use Rattle.module_format.specs.declared.fact.Fact.TheVariants.{Unknown, Number, Pointer, CodeAddress, Loop}
use Rattle.module_format.specs.declared.fact.Fact.TheVariants.{ReturnAddress}
use Rattle.module_format.specs.declared.fact.Region.{Region}
use Rattle.module_format.specs.declared.fact.Region.TheVariants as regions
use Rattle.module_format.specs.declared.fact.Step.{Step}
use Rattle.module_format.specs.declared.fact.Step.TheVariants.{Byte, Word}
use Rattle.fact_texts.specs.Texts.{Text, range_text}

-- a region by its name
abbrev pub region_text : Region → Text
region_text regions.Frame = codes "frame"
region_text regions.Constants = codes "constants"
region_text (regions.Parameter j) = codes "parameter " ++ decimal j

-- a pointer of words leads to multiples of four
abbrev pub step_text : Step → Text
step_text Byte = []
step_text Word = codes " by 4"

-- the bytes of a region to which a pointer may lead
abbrev pub pointer_text : Region → Text → Text
pointer_text region bytes = region_text region ++ (codes " byte " ++ bytes)

abbrev pub loop_text : ℤ → ℕ → ℕ → Text
loop_text base count weight =
    codes "loop from " ++ (signed_decimal base ++ (codes ", " ++ (decimal count
    ++ (codes " turns, weight " ++ decimal weight))))

abbrev pub fact_text : Fact → Text
fact_text Unknown = codes "?"
fact_text (Number lo hi) = range_text lo hi
fact_text (Pointer region lo hi step) = pointer_text region (range_text lo hi ++ step_text step)
fact_text (CodeAddress offset) = codes "code " ++ decimal offset
fact_text (Loop base count weight) = loop_text base count weight
fact_text ReturnAddress = codes "return address"
