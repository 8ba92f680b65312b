use Rattle.std.proofs.Common.{ap, sym, option_map}
use Rattle.occam_parser.specs.Views.{expression_of}
use Rattle.scalar_ranges.specs.Scopes.{entries_of, meaning_of}
use Rattle.program_uses.specs.Signatures.{parameter_of, passing_of}
use Rattle.program_uses.specs.Instances.{passes, uses_of_actual}
use Rattle.program_uses.proofs.Adding.{adds_both, adds_as}
use Rattle.program_uses.proofs.uses.Uses.pass_actual.Goals as goal

pub returns-in-Some : goal.returns-in-Some
returns-in-Some c =
    let es = entries_of c.args.scope.now in
    let p = c.in-Some.parameter.now in
    adds_as (ap (λ q. uses_of_actual c.args.counted es (option_map (λ q. parameter_of q.now) q)
    (expression_of c.args.actual.now)) (sym c.in-Some.is))
    (adds_both c.read.ensures
    (adds_as (ap (passes c.args.counted es (passing_of (meaning_of p.meaning)) p.ends.items) c.place_in.ensures)
    c.pass.ensures))
