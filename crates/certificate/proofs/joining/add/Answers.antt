use Rattle.std.proofs.Common.{◌≡◌, ◌<ℤ◌, List, [], ◌∷◌, ◌++◌, FitsSigned, w32, rules, subst, sym}
use Rattle.module_format.specs.declared.rows.Interval.{Interval}
use Rattle.module_format.specs.Order.{InOrder, least_word}
use Rattle.module_format.specs.Pars.{IntervalKeeps}
use Rattle.certificate.specs.Words.{beyond_interval, BeginBy, IsAdded}
use Rattle.certificate.proofs.WordLaws.{added_none, added_wide, added_after}
use Rattle.certificate.proofs.joining.add.Goals as goal

pub returns-then-interval : goal.returns-then-interval
returns-then-interval c =
    added_none c.args.joined.now.items c.args.interval c.requires.apart c.requires.begun (search rules)

pub returns-in_ok-push-2 : goal.returns-in_ok-push-2
returns-in_ok-push-2 c =
    let is = c.pop.new.self.items in
    let last = c.in-Some.last in
    let i = c.args.interval in
    let old : c.args.joined.now.items ≡ is ++ last ∷ [] = search rules in
    let new : c.push-then-interval-last.new.self.items ≡ is ++ c.widened.result ∷ [] = search rules in
    subst (λ (xs : List Interval). IsAdded c.args.joined.now.items i xs) (sym new)
    (subst (λ (xs : List Interval). IsAdded xs i (is ++ c.widened.result ∷ [])) (sym old)
    (added_wide is last i (subst (InOrder IntervalKeeps beyond_interval least_word) old c.requires.apart)
    (subst (BeginBy i.lo) old c.requires.begun) c.widened.result c.widened.ensures.lo c.widened.ensures.hi
    (search rules) c.widened.ensures.words))

pub returns-in_ok-push-4 : goal.returns-in_ok-push-4
returns-in_ok-push-4 c =
    let is = c.pop.new.self.items in
    let last = c.in-Some.last in
    let i = c.args.interval in
    let old : c.args.joined.now.items ≡ is ++ last ∷ [] = search rules in
    let new : c.push-else-interval-last-2.new.self.items ≡ (is ++ last ∷ []) ++ i ∷ [] = search rules in
    let lo : FitsSigned w32 i.lo = search rules in
    let hi : FitsSigned w32 i.hi = search rules in
    let some : i.lo <ℤ i.hi = search rules in
    let after : last.hi <ℤ i.lo = search rules in
    subst (λ (xs : List Interval). IsAdded c.args.joined.now.items i xs) (sym new)
    (subst (λ (xs : List Interval). IsAdded xs i ((is ++ last ∷ []) ++ i ∷ [])) (sym old)
    (added_after is last i (subst (InOrder IntervalKeeps beyond_interval least_word) old c.requires.apart)
    (subst (BeginBy i.lo) old c.requires.begun) (record { lo_fits = lo; hi_fits = hi; some = some }) after))
