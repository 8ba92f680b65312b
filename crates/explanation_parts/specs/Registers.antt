-- What is known of the registers that an instruction uses, in words.
use Rattle.std.specs.Prelude.{[], ◌++◌, codes, Option, Some, None}
use Rattle.module_format.specs.declared.stack.Stack.{Stack}
use Rattle.states.specs.declared.known.Known.{Known}
use Rattle.fact_texts.specs.Texts.{Text, range_text}
use Rattle.fact_texts.specs.FactTexts.{fact_text}
use Rattle.fact_texts.specs.declared.facts.RangeText.{RangeText}
use Rattle.explanation_parts.specs.declared.uses.Uses.{Uses}
use Rattle.explanation_parts.specs.declared.uses.Uses.TheVariants.{Nothing, A, AAndB, All}

-- what is known of the registers that are used
unfoldable pub registers_found : Uses → Stack Known → Text
registers_found Nothing stack = codes "no register is used"
registers_found A stack = codes "A is " ++ fact_text stack.a.fact
registers_found AAndB stack =
    codes "A is " ++ (fact_text stack.a.fact ++ (codes " and B is " ++ fact_text stack.b.fact))
registers_found All stack =
    codes "A is " ++ (fact_text stack.a.fact ++ (codes ", B is " ++ (fact_text stack.b.fact ++ (codes " and C is "
    ++ fact_text stack.c.fact))))

-- the range of a result that does not fit, or else what is known of the registers that are used
unfoldable pub number_found : Uses → Stack Known → Option RangeText → Text
number_found uses stack None = registers_found uses stack
number_found uses stack (Some r) = range_text r.lo r.hi ++ codes " does not"

unfoldable pub after_mode : Uses → Stack Known → Text
after_mode uses stack = codes "; " ++ registers_found uses stack

-- the registers, if any are used
unfoldable pub more_registers : Uses → Stack Known → Text
more_registers Nothing stack = []
more_registers uses stack = after_mode uses stack
