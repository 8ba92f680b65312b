-- The parameters of a call of which a rule speaks: what each is, and what it is passed.
use Rattle.std.specs.Prelude.{ℕ, ◌+◌, ◌==◌, ◌&&◌, not, Bool, true, false, if◌then◌else◌, ℤ, pos, negsuc, ◌+ℤ◌, List}
use Rattle.std.specs.Prelude.{[], ◌∷◌, ◌++◌, codes, Option, Some, None, is_some}
use Rattle.std.specs.Fmt.{decimal}
use Rattle.std.specs.List.{list_any}
use Rattle.module_format.specs.Rows.{Fact}
use Rattle.module_format.specs.declared.fact.Fact.TheVariants.{Number, Pointer}
use Rattle.module_format.specs.declared.fact.Step.TheVariants.{Word}
use Rattle.module_format.specs.declared.rows.Parameter.{Parameter}
use Rattle.module_format.specs.declared.rows.ParameterKind.{ParameterKind}
use Rattle.module_format.specs.declared.rows.ParameterKind.TheVariants.{Value, ReadRegion, WrittenRegion, Channels}
use Rattle.module_format.specs.declared.rows.Direction.TheVariants.{In, Out}
use Rattle.module_format.specs.declared.rows.Ends.{Ends}
use Rattle.module_format.specs.Contents.{Contents}
use Rattle.certificate.specs.Starts.{Entered}
use Rattle.machine_state.specs.declared.instruction.Instruction.{Instruction}
use Rattle.machine_state.specs.declared.instruction.Instruction.TheVariants.{Call}
use Rattle.states.specs.declared.known.WordFact.{WordFact}
use Rattle.states.specs.declared.known.WordFact.TheVariants.{Alone}
use Rattle.states.specs.declared.rule.Rule.{Rule}
use Rattle.states.specs.declared.rule.Rule.TheVariants as rules
use Rattle.states.specs.State.{State, plain}
use Rattle.states.specs.Below.{implies}
use Rattle.rulings.specs.Channels.{channel_of, has_direction}
use Rattle.rulings.specs.Pointers.{are_near}
use Rattle.fact_texts.specs.Texts.{Text, is_one, range_text}
use Rattle.fact_texts.specs.FactTexts.{fact_text}
use Rattle.fact_texts.specs.RowTexts.{context_text}
use Rattle.explanation_parts.specs.Channels.{named_part}

-- ---- what is passed

-- the caller's word that is a word of the callee's frame
abbrev pub callee_word : ℤ → ℤ → ℤ
callee_word depth word = (depth +ℤ negsuc 3) +ℤ word

-- what is known of the word in which a parameter is passed: A, B and C come first
abbrev pub given : State → ℕ → WordFact
given s word =
    if word == 1 then Alone s.stack.a.fact
    else if word == 2 then Alone s.stack.b.fact
    else if word == 3 then Alone s.stack.c.fact
    else s.frame (callee_word s.depth (pos word))

-- an exact pointer with a step of words, which lends what it leads to
abbrev pub lends : WordFact → Bool
lends (Alone (Pointer region lo hi Word)) = is_one lo hi
lends fact = false

abbrev pub is_near_fact : WordFact → Bool
is_near_fact (Alone (Pointer region lo hi step)) = are_near lo hi
is_near_fact fact = true

-- ---- of which parameters a rule speaks

-- what is passed is no number in the range
abbrev pub breaks_number : ParameterKind → WordFact → Bool
breaks_number (Value lo hi) fact = not (implies (plain fact) (Number lo hi))
breaks_number kind fact = false

-- what is passed is no pointer that lends, or is not near
abbrev pub breaks_pointer : ParameterKind → WordFact → Bool
breaks_pointer (Value lo hi) fact = false
breaks_pointer (Channels count len ends) fact = not (is_near_fact fact)
breaks_pointer kind fact = not (lends fact && is_near_fact fact)

-- what is passed names no channel
abbrev pub breaks_channel : ParameterKind → WordFact → Bool
breaks_channel (Channels count len ends) fact = not (is_some (channel_of fact))
breaks_channel kind fact = false

-- what a parameter is passed breaks the rule by itself
unfoldable pub breaks_alone : Rule → ParameterKind → WordFact → Bool
breaks_alone rules.Number kind fact = breaks_number kind fact
breaks_alone rules.Pointer kind fact = breaks_pointer kind fact
breaks_alone rules.Channel kind fact = breaks_channel kind fact
breaks_alone rule kind fact = false

-- a region is lent
abbrev pub is_lent : ParameterKind → WordFact → Bool
is_lent (Value lo hi) fact = false
is_lent (Channels count len ends) fact = false
is_lent kind fact = lends fact

abbrev pub is_channels : ParameterKind → Bool
is_channels (Channels count len ends) = true
is_channels kind = false

-- the rule asks what is lent, or which channels are passed
unfoldable pub is_asked : Rule → ParameterKind → WordFact → Bool
is_asked rules.Channel kind fact = is_channels kind
is_asked rules.MessageLength kind fact = is_channels kind
is_asked rule kind fact = is_lent kind fact

-- the parameters that break the rule by themselves, or else all that it asks
abbrev pub is_told : Rule → Bool → ParameterKind → WordFact → Bool
is_told rule some_break kind fact = if some_break then breaks_alone rule kind fact else is_asked rule kind fact

abbrev pub is_broken : Rule → State → Parameter → Bool
is_broken rule s p = breaks_alone rule p.kind (given s p.word)

abbrev pub some_break : Rule → State → List Parameter → Bool
some_break rule s ps = list_any (is_broken rule s) ps

-- ---- what is said of them

-- the number of a parameter, and the word in which it is passed
unfoldable pub parameter_head : ℕ → ℕ → Text
parameter_head j word = codes "; parameter " ++ (decimal j ++ (codes " in word " ++ decimal word))

-- the directions of the ends that a parameter takes
unfoldable pub directions_text : Ends → Text
directions_text ends =
    if not (has_direction ends.0 Out) then codes "in"
    else if not (has_direction ends.0 In) then codes "out" else codes "in and out"

-- what it wants
abbrev pub kind_wanted : ParameterKind → Text
kind_wanted (Value lo hi) = range_text lo hi
kind_wanted (ReadRegion size lo hi) =
    decimal size ++ (codes " bytes of " ++ (range_text lo hi ++ codes " to read"))
kind_wanted (WrittenRegion size lo hi) =
    decimal size ++ (codes " bytes of " ++ (range_text lo hi ++ codes " to write"))
kind_wanted (Channels count len ends) =
    decimal count
    ++ (codes " channels " ++ (directions_text ends ++ (codes " of " ++ (decimal len ++ codes " bytes"))))

-- the same, and what it is passed
unfoldable pub passed_text : ParameterKind → Fact → Text
passed_text kind fact = codes " wants " ++ (kind_wanted kind ++ (codes " and is passed " ++ fact_text fact))

-- which channel that is
unfoldable pub channel_part : ParameterKind → WordFact → Text
channel_part (Channels count len ends) fact = named_part (channel_of fact)
channel_part kind fact = []

unfoldable pub kind_part : ParameterKind → WordFact → Text
kind_part kind fact = passed_text kind (plain fact) ++ channel_part kind fact

unfoldable pub told_text : ℕ → Parameter → WordFact → Text
told_text j p fact = parameter_head j p.word ++ kind_part p.kind fact

-- the parameter of this number, if the rule speaks of it
abbrev pub parameter_part : Rule → Bool → State → ℕ → Parameter → Text
parameter_part rule breaking s j p =
    if is_told rule breaking p.kind (given s p.word) then told_text j p (given s p.word) else []

-- the same of each parameter from this number on
abbrev pub parameters_from : Rule → Bool → State → ℕ → List Parameter → Text
parameters_from rule breaking s j [] = []
parameters_from rule breaking s j (p ∷ ps) =
    parameter_part rule breaking s j p ++ parameters_from rule breaking s (j + 1) ps

-- ---- a call

-- which procedure is called
unfoldable pub callee_text : Contents → ℕ → Text
callee_text m n = codes "it calls " ++ context_text m n

-- the same, and the parameters of which the rule speaks
unfoldable pub arguments_text : Contents → Rule → State → Entered → Text
arguments_text m rule s e =
    callee_text m e.context
    ++ parameters_from rule (some_break rule s e.procedure.parameters) s 0 e.procedure.parameters

abbrev pub arguments_found : Contents → Rule → State → Option Entered → Text
arguments_found m rule s None = codes "no procedure begins there"
arguments_found m rule s (Some e) = arguments_text m rule s e

-- the rule speaks of what parameters are passed
unfoldable pub is_of_parameters : Rule → Bool
is_of_parameters rules.Number = true
is_of_parameters rules.Pointer = true
is_of_parameters rules.RegionsMeet = true
is_of_parameters rules.Channel = true
is_of_parameters rules.MessageLength = true
is_of_parameters rule = false

abbrev pub is_call : Instruction → Bool
is_call Call = true
is_call i = false

-- a call breaks such a rule
abbrev pub asks_parameters : Rule → Instruction → Bool
asks_parameters rule i = is_call i && is_of_parameters rule
