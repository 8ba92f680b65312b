use Rattle.std.proofs.Common.{subst}
use Rattle.host_library.specs.Sizes.{AreSizes}
use Rattle.host_library.proofs.CertifiedFiles.{of_module}
use Rattle.host_library.proofs.Unread.{memory_alone}
use Rattle.host_library.proofs.measuring.sizes_of.Goals as goal

pub returns-in_err-module-clause-certified : goal.returns-in_err-module-clause-certified
returns-in_err-module-clause-certified c m format certified =
    memory_alone _ (c.in_err-module.ensures.certified m format certified) c.from_residual.result
    c.from_residual.ensures.1

pub returns-clause-answer : goal.returns-clause-answer
returns-clause-answer c =
    of_module (AreSizes c.sizes_in.result) c.in_ok-module.ensures.answer
    (subst (AreSizes c.sizes_in.result) c.tables.ensures.contents c.sizes_in.ensures)
