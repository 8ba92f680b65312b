use Rattle.std.proofs.Common.{◌≡◌, ◌||◌, length}
use Rattle.std.specs.List.{list_all}
use Rattle.module_format.specs.declared.rows.EndRow.{EndRow}
use Rattle.module_format.specs.Contents.{par_of}
use Rattle.certificate.specs.Rights.{has_end}
use Rattle.certificate.specs.Siblings.{brings_channel}
use Rattle.certificate.proofs.modules.Module.has_ends_to_give.Given as goal

abbrev pub invariant-loop-end : goal.invariant-loop-end
invariant-loop-end l =
    list_all (λ (e : EndRow). has_end l.self l.giver e || brings_channel (par_of l.par) e.kind) l.rest
    ≡ list_all (λ (e : EndRow). has_end l.self l.giver e || brings_channel (par_of l.par) e.kind) l.ends

abbrev pub decreases-loop-end : goal.decreases-loop-end
decreases-loop-end l = length l.rest
