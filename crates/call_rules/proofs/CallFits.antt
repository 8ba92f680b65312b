-- The rules and the steps of a call and a return fit each other in every mode.
use Rattle.call_rules.specs.CallFitting.{CallFitsStep, ReturnFitsStep}
use Rattle.rulings.specs.Fitting.{rule_site}
use Rattle.rulings.proofs.Within.{which, in_plain_mode, in_alternation, among_starts}
use Rattle.rulings.proofs.OtherModes.{breaks_fit, starting_is_busy}
use Rattle.call_rules.proofs.CallsFit.{call_fits, return_fits}
use Rattle.call_rules.proofs.CallOtherModes.{call_breaks, return_breaks}

pub call_fits_step : CallFitsStep
call_fits_step x s l e wf a same changes n next = elim (which a) [
  | in_plain_mode b ↦ call_fits x wf s l b same changes n e next
  | in_alternation busy b ↦ breaks_fit (call_breaks (rule_site x) s busy e) next
  | among_starts starting ↦ breaks_fit (call_breaks (rule_site x) s (starting_is_busy s.mode starting) e) next
]

pub return_fits_step : ReturnFitsStep
return_fits_step x s l wf a same changes n next = elim (which a) [
  | in_plain_mode b ↦ return_fits x wf s l b same changes n next
  | in_alternation busy b ↦ breaks_fit (return_breaks (rule_site x) s busy) next
  | among_starts starting ↦ breaks_fit (return_breaks (rule_site x) s (starting_is_busy s.mode starting)) next
]
