use Rattle.start_laws.proofs.EndsFit.{end_fits_step}
use Rattle.start_laws.proofs.laws.ends_fit_steps.Goals as goal

pub returns : goal.returns
returns c = end_fits_step
