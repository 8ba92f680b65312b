use Rattle.std.proofs.Common.{rules}
use Rattle.std.proofs.lemmas.Fn.{always_returns_same}
use Rattle.waiting_texts.specs.declared.places.Place.{Place}
use Rattle.waiting_texts.proofs.places.sort.Goals as goal

pub returns-clause-sorted : goal.returns-clause-sorted
returns-clause-sorted c =
    c.sort_unstable_by_key.ensures.sorted (λ (place : Place). place.workspace)
    (always_returns_same _ _ _ (λ a r f' h. search rules))
