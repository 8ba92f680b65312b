-- Steps that may find nothing.
use Rattle.std.proofs.Common.{◌≡◌, Bool, true, false, cond, Option, Some, None, refl, subst}
use Rattle.occam_parser.specs.Reading.{◌>>=◌}

pub bind_some : {A B : Type 0} (o : Option A) (f : A → Option B) (y : B) → (o >>= f) ≡ Some y
    → (x : A) × (o ≡ Some x) × (f x ≡ Some y)
bind_some None f y e = absurd (cc)
bind_some (Some x) f y e = (x, refl, e)

-- what holds of what was put in holds of what is found
pub at_some : {A : Type 0} (P : A → Type 0) (a x : A) → Some a ≡ Some x → P a → P x
at_some P a x e h = let is : a ≡ x = cc in subst P is h

pub not_chosen : {A : Type 0} (b : Bool) (x y : A) → cond b None (Some x) ≡ Some y → (b ≡ false) × (x ≡ y)
not_chosen true x y e = absurd (cc)
not_chosen false x y e = (refl, cc)
