use Rattle.std.proofs.Common.{take, option_map}
use Rattle.scalar_ranges.specs.Scopes.{entries_of, meaning_of}
use Rattle.program_uses.specs.Sets.{Adds}
use Rattle.program_uses.specs.Signatures.{signatures_of, parameters_in}
use Rattle.program_uses.proofs.Adding.{gathered}
use Rattle.program_uses.proofs.Gathering.{actual_uses}
use Rattle.program_uses.proofs.uses.Uses.pass_all.Given as goal

abbrev pub invariant-loop-place : goal.invariant-loop-place
invariant-loop-place l =
    let ps = parameters_in (signatures_of l.signatures) (option_map meaning_of l.procedure) in
    Adds l.fn.self l.self (gathered (actual_uses l.counted (entries_of l.scope) ps) 0 (take l.place l.actuals))
