use Rattle.start_laws.proofs.StartsFit.{start_fits_step}
use Rattle.start_laws.proofs.laws.starts_fit_steps.Goals as goal

pub returns : goal.returns
returns c = start_fits_step
