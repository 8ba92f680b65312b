use Rattle.std.proofs.Common.{take, option_map}
use Rattle.scalar_ranges.specs.Scopes.{entries_of, meaning_of}
use Rattle.program_uses.specs.Changes.{Notes}
use Rattle.program_uses.specs.Signatures.{signatures_of, parameters_in}
use Rattle.program_uses.proofs.Adding.{gathered}
use Rattle.program_uses.proofs.ChangesFound.{actual_changes}
use Rattle.program_uses.proofs.changes.Changes.pass_all.Given as goal

abbrev pub invariant-loop-place : goal.invariant-loop-place
invariant-loop-place l =
    let ps = parameters_in (signatures_of l.signatures) (option_map meaning_of l.fn.procedure) in
    Notes l.fn.self l.self (gathered (actual_changes (entries_of l.scope) ps) 0 (take l.place l.actuals))
