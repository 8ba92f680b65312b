use Rattle.std.proofs.Common.{sym, subst, List, rules}
use Rattle.std.proofs.lemmas.List.{drop_all}
use Rattle.states.specs.declared.known.Guard.{Guard}
use Rattle.rulings.specs.Places.{site_of}
use Rattle.module_format.proofs.Loop.{item_at}
use Rattle.facts.proofs.GuardLabels.{SoFar, skips, goes_on, all}
use Rattle.facts.proofs.following.labels_of_guards.Goals as goal
use Rattle.facts.proofs.following.labels_of_guards.Goals.{in-Some+in_ok-copy+in_ok-push_label, in_default}

pub loop-guard-preserved : goal.loop-guard-preserved
loop-guard-preserved c =
    let site = site_of c.args.place.now in
    let guards = c.args.guards.now in
    let i = c.loop-guard.guard-index in
    let here = subst (λ (rest : List Guard). SoFar site guards rest c.loop-guard.labels.items)
    (item_at guards i _ c.loop-guard-test.true) c.loop-guard.invariant in
    elim c.match-exit_at.branch [
      | in-Some+in_ok-copy+in_ok-push_label w ↦
          let added = w.in_ok-push_label.ensures in
          rw w.labels-is (goes_on site guards _ _ w.in-Some.to c.loop-guard.labels.items w.push_label.new.labels.items
          (sym w.in-Some.ensures) here added.states (added.belong c.loop-guard.invariant.belong))
      | in_default w ↦ rw w.labels-is (skips site guards _ _ c.loop-guard.labels.items (sym w.in_default.ensures) here)
    ]

pub returns-clause-states : goal.returns-clause-states
returns-clause-states c =
    let site = site_of c.args.place.now in
    let guards = c.args.guards.now in
    all site guards c.loop-guard.labels.items
    (subst (λ (rest : List Guard). SoFar site guards rest c.loop-guard.labels.items)
    (drop_all c.loop-guard.guard-index guards (search rules)) c.loop-guard.invariant)
