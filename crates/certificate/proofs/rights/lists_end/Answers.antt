use Rattle.std.proofs.Common.{◌≡◌, ◌∙◌, sym, ℕ, true, false, Option, Some, None, Bool, List, MatchOption, slice_get}
use Rattle.std.specs.Prelude.{is_some}
use Rattle.std.specs.List.{list_any}
use Rattle.certificate.proofs.EndOrder.{found_listed}
use Rattle.certificate.proofs.rights.lists_end.Goals as goal

told : {X : Type 0} (test : X → Bool) (xs : List X) (found : Option ℕ)
    → MatchOption found (list_any test xs ≡ false) (λ i. MatchOption (slice_get xs i) ⊥ (λ x. test x ≡ true))
    → is_some found ≡ list_any test xs
told test xs None h = sym h
told test xs (Some i) h = found_listed test xs i h

pub returns : goal.returns
returns c = c.is_some.ensures ∙ told _ c.args.others.now c.place_of.result c.place_of.ensures
