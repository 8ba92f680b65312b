use Rattle.std.proofs.Common.{ℕ, List, ◌≤◌, length, map, arith, subst, refl}
use Rattle.std.proofs.lemmas.List.{take_all}
use Rattle.occam_parser.specs.declared.tree.Declaration.{Declaration}
use Rattle.occam_parser.specs.LineViews.{declaration_of}
use Rattle.scalar_ranges.specs.Scopes.{known_of}
use Rattle.program_uses.specs.Declaring.{add_declaration}
use Rattle.usage_checks.specs.NameRules.{BreaksDeclared}
use Rattle.usage_checks.proofs.FaultsInOrder.{walks_moved}
use Rattle.usage_checks.proofs.OneAfterAnother.{WalksOver, walks_next}
use Rattle.usage_checks.proofs.telling.Findings.walk_declarations.Goals as goal

pub loop-declaration-init : goal.loop-declaration-init
loop-declaration-init c =
    walks_moved c.args.self.now (known_of c.args.scope.now) (known_of c.args.scope.now) refl

pub loop-declaration-preserved : goal.loop-declaration-preserved
loop-declaration-preserved c =
    walks_next add_declaration (BreaksDeclared c.len-first.result) declaration_of c.args.declarations.now
    c.loop-declaration.declaration-index c.declaration-item.result c.declaration-item.result
    (known_of c.args.scope.now) (omega arith) c.declaration-item.is c.loop-declaration.invariant
    c.walk_declaration.ensures

pub returns : goal.returns
returns c =
    let xs = c.args.declarations.now in
    let done : length xs ≤ c.loop-declaration.declaration-index = omega arith in
    subst (λ (x : ℕ × List Declaration). WalksOver add_declaration (BreaksDeclared x.0) (map declaration_of x.1)
    c.args.self.now c.loop-declaration.self (known_of c.args.scope.now) (known_of c.loop-declaration.scope))
    (λ i. (c.len-first.ensures i, take_all c.loop-declaration.declaration-index xs done i)) c.loop-declaration.invariant
