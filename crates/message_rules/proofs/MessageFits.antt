-- The rules and the steps of `in` and `out` fit each other in every mode.
use Rattle.rulings.specs.Fitting.{rule_site}
use Rattle.rulings.proofs.Within.{which, in_plain_mode, in_alternation, among_starts}
use Rattle.rulings.proofs.OtherModes.{breaks_fit, starting_is_busy}
use Rattle.message_rules.specs.MessageFitting.{InputFitsStep, OutputFitsStep}
use Rattle.message_rules.proofs.MessagesFit.{input_fits, output_fits}
use Rattle.message_rules.proofs.MessageOtherModes.{in_breaks, out_breaks}

pub input_fits_step : InputFitsStep
input_fits_step x s l wf a same changes n next = elim (which a) [
  | in_plain_mode b ↦ input_fits x wf s l b same changes n next
  | in_alternation busy b ↦ breaks_fit (in_breaks (rule_site x) s busy) next
  | among_starts starting ↦ breaks_fit (in_breaks (rule_site x) s (starting_is_busy s.mode starting)) next
]

pub output_fits_step : OutputFitsStep
output_fits_step x s l wf a same changes n next = elim (which a) [
  | in_plain_mode b ↦ output_fits x wf s l b same changes n next
  | in_alternation busy b ↦ breaks_fit (out_breaks (rule_site x) s busy) next
  | among_starts starting ↦ breaks_fit (out_breaks (rule_site x) s (starting_is_busy s.mode starting)) next
]
