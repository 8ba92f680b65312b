use Rattle.std.proofs.Common.{◌≤◌, length, map, arith}
use Rattle.std.proofs.lemmas.List.{take_all}
use Rattle.occam_parser.specs.Lines.{Formal}
use Rattle.occam_parser.specs.LineViews.{formal_of}
use Rattle.scalar_ranges.specs.Scopes.{entries_of}
use Rattle.program_uses.proofs.LowestOfBoth.{lowest_at}
use Rattle.usage_checks.specs.DeclarationRules.{BreaksSizeIfAny}
use Rattle.usage_checks.specs.FormalRules.{BreakSizes}
use Rattle.usage_checks.proofs.LowestOfMany.{lowest_start, lowest_next}
use Rattle.usage_checks.proofs.formal_rules.fault_of_sizes.Goals as goal

pub loop-formal-init : goal.loop-formal-init
loop-formal-init c = lowest_start (λ i (f : Formal). BreaksSizeIfAny (entries_of c.args.scope.now) f.size) 0

pub loop-formal-preserved : goal.loop-formal-preserved
loop-formal-preserved c =
    let x = c.formal-item.result in
    lowest_next (λ i (f : Formal). BreaksSizeIfAny (entries_of c.args.scope.now) f.size) 0 formal_of
    c.args.formals.now c.loop-formal.formal-index x x (omega arith) c.formal-item.is c.lower-found.ensures
    c.loop-formal.invariant c.fault_of_any_size.ensures

pub returns : goal.returns
returns c =
    let done : length c.args.formals.now ≤ c.loop-formal.formal-index = omega arith in
    lowest_at (λ fs. BreakSizes (entries_of c.args.scope.now) (map formal_of fs))
    (take_all c.loop-formal.formal-index c.args.formals.now done) c.loop-formal.invariant
