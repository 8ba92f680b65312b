use Rattle.std.proofs.Common.{sym, subst, inl, inr}
use Rattle.occam_parser.specs.declared.tree.Declaration.{Declaration}
use Rattle.occam_parser.specs.LineViews.{declaration_of}
use Rattle.scalar_ranges.specs.Scopes.{known_of, meaning_of}
use Rattle.usage_checks.proofs.FaultsInOrder.{walks_as, only_one, from_one}
use Rattle.usage_checks.proofs.DeclarationsWalked.{WalksNames}
use Rattle.usage_checks.proofs.telling.Findings.walk_all_names.Goals as goal

pub returns-in-Constant : goal.returns-in-Constant
returns-in-Constant c =
    let m = meaning_of c.args.meaning in
    subst (λ d. WalksNames c.args.first m c.args.self.now c.walk_name.new.self (known_of c.args.scope.now)
    (known_of c.walk_name.new.scope) (declaration_of d)) (sym c.in-Constant.is)
    (walks_as (only_one _) (from_one _) c.walk_name.ensures)

pub returns-in-Variables : goal.returns-in-Variables
returns-in-Variables c =
    let walked : Declaration → Type 0 =
    λ d. WalksNames c.args.first (meaning_of c.args.meaning) c.args.self.now c.walk_names.new.self
    (known_of c.args.scope.now) (known_of c.walk_names.new.scope) (declaration_of d) in
    elim (c.in-Variables.is) [
      | inl e ↦ subst walked (sym e) c.walk_names.ensures
      | inr e ↦ subst walked (sym e) c.walk_names.ensures
    ]
