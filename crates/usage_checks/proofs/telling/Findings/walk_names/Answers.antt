use Rattle.std.proofs.Common.{◌≤◌, [], length, map, get_or, Bor, ℕ, List, arith, ap, subst, ◌∙◌, refl}
use Rattle.std.proofs.lemmas.List.{take_all}
use Rattle.occam_parser.specs.LineViews.{spelling_of}
use Rattle.scalar_ranges.specs.Scopes.{known_of, meaning_of}
use Rattle.program_uses.specs.Declaring.{add, add_all}
use Rattle.usage_checks.specs.NameRules.{BreaksName, BreakNames, with_entries}
use Rattle.usage_checks.proofs.FaultsInOrder.{walks_both, walks_moved}
use Rattle.usage_checks.proofs.OneAfterAnother.{WalksOver, walks_next}
use Rattle.usage_checks.proofs.telling.Findings.walk_names.Goals as goal

pub loop-name-init : goal.loop-name-init
loop-name-init c =
    let k = known_of c.walk_name.new.scope in
    walks_moved c.walk_name.new.self k k refl

pub loop-name-preserved : goal.loop-name-preserved
loop-name-preserved c =
    let items = c.deref-name-items.result.now in
    let none : Bor (List ℕ) = record { ref_ptr = (0, 0); now = [] } in
    walks_next (λ name. add name (meaning_of c.args.meaning)) (BreaksName c.args.first c.args.line) spelling_of items
    c.loop-name.name-index (get_or items c.loop-name.name-index none) none (known_of c.walk_name.new.scope)
    (omega arith) refl c.loop-name.invariant c.walk_name-in-loop-name.ensures

pub returns : goal.returns
returns c =
    let m = meaning_of c.args.meaning in
    let items = c.deref-name-items.result.now in
    let done : length items ≤ c.loop-name.name-index = omega arith in
    let all = ap (map spelling_of) (take_all c.loop-name.name-index items done ∙ c.deref-name-items.ensures.value) in
    let others = map spelling_of c.args.names.now.others.items in
    walks_both (with_entries (add_all others m)) (λ k. BreakNames c.args.first c.args.line m others k.entries)
    c.walk_name.ensures
    (subst (λ ns. WalksOver (λ name. add name m) (BreaksName c.args.first c.args.line) ns c.walk_name.new.self
    c.loop-name.self (known_of c.walk_name.new.scope) (known_of c.loop-name.scope)) all c.loop-name.invariant)
