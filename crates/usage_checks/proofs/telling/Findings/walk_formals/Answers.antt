use Rattle.std.proofs.Common.{◌≤◌, ℕ, List, length, map, arith, subst, refl}
use Rattle.std.proofs.lemmas.List.{take_all}
use Rattle.occam_parser.specs.declared.tree.Formal as code_formal
use Rattle.occam_parser.specs.LineViews.{formal_of}
use Rattle.scalar_ranges.specs.Scopes.{entries_of, known_of}
use Rattle.program_uses.specs.Declaring.{add, formal_meaning}
use Rattle.usage_checks.specs.NameRules.{BreaksName, with_entries}
use Rattle.usage_checks.specs.Telling.{Walks}
use Rattle.usage_checks.proofs.FaultsInOrder.{walks_moved}
use Rattle.usage_checks.proofs.FormalsNamed.{as_many, stands_for}
use Rattle.usage_checks.proofs.OneAfterAnother.{WalksOver, walks_next}
use Rattle.usage_checks.proofs.telling.Findings.walk_formals.Goals as goal

pub bounds-parameters-place : goal.bounds-parameters-place
bounds-parameters-place c =
    omega (arith, as_many (entries_of c.args.scope.now) c.args.formals.now c.args.parameters.now c.requires)

pub loop-place-init : goal.loop-place-init
loop-place-init c = walks_moved c.args.self.now (known_of c.args.scope.now) (known_of c.args.scope.now) refl

pub loop-place-preserved : goal.loop-place-preserved
loop-place-preserved c =
    let outer = entries_of c.args.scope.now in
    let fs = c.args.formals.now in
    let i = c.loop-place.place in
    let x = c.index-formals-place.result in
    let means = stands_for outer fs c.args.parameters.now i x c.index-parameters-place.result c.requires (omega arith)
    c.index-formals-place.is c.index-parameters-place.is in
    let step = subst (λ m. Walks c.loop-place.self c.walk_name.new.self (known_of c.walk_name.new.scope)
    (with_entries (add x.name.now m) (known_of c.loop-place.scope))
    (BreaksName c.len-first.result c.args.line x.name.now (entries_of c.loop-place.scope))) means c.walk_name.ensures in
    walks_next (λ f. add f.name (formal_meaning outer f)) (λ f. BreaksName c.len-first.result c.args.line f.name)
    formal_of fs i x x (known_of c.args.scope.now) (omega arith) c.index-formals-place.is c.loop-place.invariant step

pub returns : goal.returns
returns c =
    let outer = entries_of c.args.scope.now in
    let fs = c.args.formals.now in
    let done : length fs ≤ c.loop-place.place = omega arith in
    subst (λ (x : ℕ × List code_formal.Formal). WalksOver (λ f. add f.name (formal_meaning outer f))
    (λ f. BreaksName x.0 c.args.line f.name) (map formal_of x.1) c.args.self.now c.loop-place.self
    (known_of c.args.scope.now) (known_of c.loop-place.scope))
    (λ i. (c.len-first.ensures i, take_all c.loop-place.place fs done i)) c.loop-place.invariant
