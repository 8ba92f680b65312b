use Rattle.std.proofs.Common.{◌∙◌, ap, sym, refl, ◌++◌, [], ◌∷◌, ℕ, List, Option, Some, None}
use Rattle.states.specs.State.{State}
use Rattle.module_format.specs.Contents.{label_at}
use Rattle.facts.specs.Successions.{states_at_labels}
use Rattle.facts.proofs.GuardLabels.{first_then}
use Rattle.facts.proofs.following.labels_of_start.Goals as goal
use Rattle.facts.proofs.following.labels_of_start.Goals.{in-Some+in_ok-copy-2+in_ok-push_label, in_default}

pub returns-clause-states : goal.returns-clause-states
returns-clause-states c =
    let m = c.args.module.now in
    let at = c.args.started.branch in
    elim c.match-started.branch [
      | in-Some+in_ok-copy-2+in_ok-push_label w ↦
          let to = w.in-Some.to in
          rw w.labels-is
          (w.in_ok-push_label.ensures.states
          ∙ ap (λ (xs : List (ℕ × State)). xs ++ states_at_labels m (to ∷ [])) c.in_ok-labels.ensures.states
          ∙ sym (first_then m at (to ∷ []) (label_at m at) refl)
          ∙ ap (λ (o : Option ℕ). states_at_labels m (at ∷ elim o [ None ↦ [] | Some to ↦ to ∷ [] ]))
          (sym w.in-Some.is))
      | in_default w ↦ rw w.labels-is
          (c.in_ok-labels.ensures.states
          ∙ ap (λ (o : Option ℕ). states_at_labels m (at ∷ elim o [ None ↦ [] | Some to ↦ to ∷ [] ]))
          (sym w.in_default.is))
    ]

pub returns-clause-belong : goal.returns-clause-belong
returns-clause-belong c = elim c.match-started.branch [
  | in-Some+in_ok-copy-2+in_ok-push_label w ↦
      rw w.labels-is (w.in_ok-push_label.ensures.belong c.in_ok-labels.ensures.belong)
  | in_default w ↦ rw w.labels-is c.in_ok-labels.ensures.belong
]
