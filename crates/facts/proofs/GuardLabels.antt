-- The states of the labels to which guards lead, one guard after the other.
use Rattle.std.proofs.Common.{◌≡◌, ◌∙◌, sym, ap, subst, refl, append_assoc, ℕ, ℤ, ◌+◌, List, [], ◌∷◌, ◌++◌, map}
use Rattle.std.proofs.Common.{Option, Some, None}
use Rattle.std.proofs.lemmas.List.{append-nil}
use Rattle.std.specs.List.{AllByRecursion}
use Rattle.module_format.specs.Contents.{Contents, Label, label_at}
use Rattle.machine_state.specs.LocalStep.{target}
use Rattle.states.specs.declared.known.Guard.{Guard}
use Rattle.states.specs.State.{State, label_state}
use Rattle.states.specs.Views.{BelongsTo}
use Rattle.rulings.specs.Rulings.{Site}
use Rattle.alternation_rules.specs.Guards.{exit_at, exits}
use Rattle.facts.specs.declared.following.Successor.{Successor}
use Rattle.facts.specs.Successions.{placed_at, states_at_labels}

-- The states so far, and those of the labels to which the rest of the guards lead, are all; and they are the module's.
pub record SoFar (site : Site) (guards rest : List Guard) (labels : List Successor) : Type 0 where
  pub states : map placed_at labels ++ states_at_labels site.contents (exits site rest)
      ≡ states_at_labels site.contents (exits site guards)
  pub belong : AllByRecursion (λ (s : Successor). BelongsTo site.contents s.state) labels

-- a guard that leads nowhere adds no offset
leads_nowhere : (site : Site) (g : Guard) (rest : List Guard) (e : Option ℤ) → g.exit ≡ e → exit_at site g ≡ None
    → exits site (g ∷ rest) ≡ exits site rest
leads_nowhere site g rest None is none = rw is refl
leads_nowhere site g rest (Some d) is none =
    let some : Some (target (site.at + site.length) d) ≡ None = rw is at none in
    absurd (cc)

-- one that leads to an offset adds it in front
leads_there : (site : Site) (g : Guard) (rest : List Guard) (to : ℕ) (e : Option ℤ) → g.exit ≡ e
    → exit_at site g ≡ Some to → exits site (g ∷ rest) ≡ to ∷ exits site rest
leads_there site g rest to None is leads = let some : None ≡ Some to = rw is at leads in absurd (cc)
leads_there site g rest to (Some d) is leads =
    let there : Some (target (site.at + site.length) d) ≡ Some to = rw is at leads in
    let same : target (site.at + site.length) d ≡ to = cc in rw (is, same) refl

-- the states from the first offset on, by the label that is there
abbrev from_label : ℕ → List (ℕ × State) → Option Label → List (ℕ × State)
from_label to rest t = elim t [ None ↦ rest | Some t ↦ (to, label_state t) ∷ rest ]

-- the state of the label at the first offset, and then the others
pub first_then : (m : Contents) (to : ℕ) (es : List ℕ) (t : Option Label) → label_at m to ≡ t
    → states_at_labels m (to ∷ es) ≡ states_at_labels m (to ∷ []) ++ states_at_labels m es
first_then m to es None found = subst (λ (t : Option Label). from_label to (states_at_labels m es) t
    ≡ from_label to [] t ++ states_at_labels m es) (sym found) refl
first_then m to es (Some t) found = subst (λ (t : Option Label). from_label to (states_at_labels m es) t
    ≡ from_label to [] t ++ states_at_labels m es) (sym found) refl

pub begins : (site : Site) (guards : List Guard) → SoFar site guards guards []
begins site guards = record { states = refl; belong = tt }

pub skips : (site : Site) (guards : List Guard) (g : Guard) (rest : List Guard) (labels : List Successor)
    → exit_at site g ≡ None → SoFar site guards (g ∷ rest) labels → SoFar site guards rest labels
skips site guards g rest labels none so_far = record {
  states = ap (λ (es : List ℕ). map placed_at labels ++ states_at_labels site.contents es)
      (sym (leads_nowhere site g rest g.exit refl none)) ∙ so_far.states;
  belong = so_far.belong;
}

pub goes_on : (site : Site) (guards : List Guard) (g : Guard) (rest : List Guard) (to : ℕ) (old new : List Successor)
    → exit_at site g ≡ Some to → SoFar site guards (g ∷ rest) old
    → map placed_at new ≡ map placed_at old ++ states_at_labels site.contents (to ∷ [])
    → AllByRecursion (λ (s : Successor). BelongsTo site.contents s.state) new → SoFar site guards rest new
goes_on site guards g rest to old new leads so_far added belong =
    let m = site.contents in
    let es = exits site rest in
    record {
      states = ap (λ (xs : List (ℕ × State)). xs ++ states_at_labels m es) added
          ∙ (simp append_assoc)
          ∙ ap (λ (xs : List (ℕ × State)). map placed_at old ++ xs) (sym (first_then m to es (label_at m to) refl))
          ∙ ap (λ (os : List ℕ). map placed_at old ++ states_at_labels m os)
          (sym (leads_there site g rest to g.exit refl leads))
          ∙ so_far.states;
      belong = belong;
    }

pub all : (site : Site) (guards : List Guard) (labels : List Successor) → SoFar site guards [] labels
    → map placed_at labels ≡ states_at_labels site.contents (exits site guards)
all site guards labels so_far = sym (append-nil (map placed_at labels)) ∙ so_far.states
