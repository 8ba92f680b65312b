-- What the functions of a file open, under one name for each file.
use Rattle.std.specs.Prelude.{⊤}
use Rattle.explanation_parts.specs.Channels as channels
use Rattle.explanation_parts.specs.Lacks as lacks
use Rattle.explanation_parts.specs.Parameters as parameters
use Rattle.explanation_parts.specs.Refusals as refusals
use Rattle.explanation_parts.specs.Wanted as wanted

unfoldable pub channels_opens : ⊤
unfolding channels.named_part channels.b_part channels.channel_found channels.a_part channels.bytes_part
    channels.length_found
channels_opens = tt

unfoldable pub lacks_opens : ⊤
unfolding lacks.context_lack lacks.depth_lack lacks.mode_lack lacks.place_lack lacks.register_lack lacks.stack_lack
    lacks.fact_lack lacks.word_lack lacks.half_lack lacks.entry_lack lacks.lack_of
lacks_opens = tt

unfoldable pub parameters_opens : ⊤
unfolding parameters.breaks_alone parameters.is_asked parameters.parameter_head parameters.directions_text
    parameters.passed_text parameters.channel_part parameters.kind_part parameters.told_text parameters.callee_text
    parameters.arguments_text parameters.is_of_parameters
parameters_opens = tt

unfoldable pub refusals_opens : ⊤
unfolding refusals.refused_text refusals.line_text refusals.refused_head refusals.unpaid_text refusals.entry_reason
    refusals.unreached_reason refusals.within_words refusals.within_text refusals.accepted_text refusals.past_text
    refusals.run_past refusals.ended_text
refusals_opens = tt

unfoldable pub wanted_opens : ⊤
unfolding wanted.numbers_wanted wanted.number_wanted wanted.sum_wanted wanted.pointer_wanted wanted.regions_wanted
    wanted.channel_wanted wanted.length_wanted wanted.order_wanted wanted.forward_wanted wanted.par_wanted
    wanted.call_wanted wanted.word_wanted wanted.payment_wanted wanted.label_wanted wanted.number_asked wanted.wanted
wanted_opens = tt
