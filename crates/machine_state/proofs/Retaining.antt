-- What `retain` leaves, where the test stays as it is from call to call.
use Rattle.std.proofs.Common.{◌≡◌, Bool, true, false, cond, List, [], ◌∷◌, length, refl, ap, subst, ◌∙◌, arith}
use Rattle.std.specs.List.{filter, items_where_true}
use Rattle.std.specs.List.Retain.{ReturnsInTurn, IsFiltered}

module _ {X P : Type 0} (R : P → X → Bool → P → Type 0) (test : X → Bool) (p : P)
    (says : (x : X) (b : Bool) (q : P) → R p x b q → (b ≡ test x) × (q ≡ p)) where
  picked : (bs : List Bool) (xs : List X) (q : P) → length bs ≡ length xs → ReturnsInTurn R p bs xs q
      → items_where_true bs xs ≡ filter test xs
  picked [] [] q e turns = refl
  picked [] (x ∷ xs) q e turns = absurd (omega (arith, e))
  picked (b ∷ bs) [] q e turns = absurd (omega (arith, e))
  picked (b ∷ bs) (x ∷ xs) q e turns =
      let told = says x b turns.0 turns.1 in
      let rest : items_where_true bs xs ≡ filter test xs =
      picked bs xs q (omega (arith, e)) (subst (λ (j : P). ReturnsInTurn R j bs xs q) told.1 turns.2) in
      on b (test x) told.0 rest
    where
      on : (b t : Bool) → b ≡ t → items_where_true bs xs ≡ filter test xs
          → items_where_true (b ∷ bs) (x ∷ xs) ≡ cond t (x ∷ filter test xs) (filter test xs)
      on true true h rest = ap (λ (l : List X). x ∷ l) rest
      on false false h rest = rest
      on true false h rest = absurd (cc)
      on false true h rest = absurd (cc)

  pub filter_of_retain : (xs ys : List X) → IsFiltered R p xs ys → ys ≡ filter test xs
  filter_of_retain xs ys h = h.4 ∙ picked h.0 xs h.1 h.2 h.3
