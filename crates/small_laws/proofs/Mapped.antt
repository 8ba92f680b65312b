-- Lists that are mapped.
use Rattle.std.proofs.Common.{◌≡◌, Bool, ◌||◌, List, [], ◌∷◌, map, refl, ap}
use Rattle.std.specs.List.{list_any}

-- Two functions that agree on each value map a list to the same list.
pub map_same : {X Y : Type 0} {f g : X → Y} (xs : List X) → ((x : X) → f x ≡ g x) → map f xs ≡ map g xs
map_same [] same = refl
map_same (x ∷ xs) same = λ j. same x j ∷ map_same xs same j

-- A mapped list has one that passes a test if the list has one whose image passes.
pub list_any-map : {X : Type 0} (p : X → Bool) → {Y : Type 0} (h : Y → X) (ys : List Y)
    → list_any p (map h ys) ≡ list_any (λ y. p (h y)) ys
list_any-map p h [] = refl
list_any-map p h (y ∷ ys) = ap (λ (b : Bool). p (h y) || b) (list_any-map p h ys)
