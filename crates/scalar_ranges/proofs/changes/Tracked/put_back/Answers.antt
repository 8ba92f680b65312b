use Rattle.std.proofs.Common.{ap, sym, subst, ◌∙◌}
use Rattle.scalar_ranges.specs.ChangeViews.{known_afters, changes_from}
use Rattle.scalar_ranges.specs.Deferring.{AreNone}
use Rattle.scalar_ranges.specs.TrackedViews.{known_by}
use Rattle.scalar_ranges.proofs.changes.Tracked.put_back.Goals as goal

pub returns-in-Some-clause-known : goal.returns-in-Some-clause-known
returns-in-Some-clause-known c = c.put_afters.ensures.known
    ∙ ap (λ cs. known_afters cs (known_by c.end_apart.new.self)) c.deref.ensures.value ∙ c.in-Some.ensures.known

pub returns-in-Some-clause-apart : goal.returns-in-Some-clause-apart
returns-in-Some-clause-apart c = λ a p apart.
    let left = c.in-Some.ensures.apart p a apart in
    c.put_afters.ensures.apart p a (subst (λ cs. AreNone p (changes_from cs)) (sym c.deref.ensures.value) left.0) left.1
