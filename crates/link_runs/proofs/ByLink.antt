-- One of something for each link, after it changed for one.
use Rattle.std.proofs.Common.{◌≡◌, ◌≢◌, Bool, true, false, nat_eq, refl, ap, cond, Some, None, sym, ◌∙◌}
use Rattle.machine_state.specs.declared.link.Link.{Link}
use Rattle.machine_state.specs.declared.link.Link.TheVariants.{Zero, One, Two, Three}
use Rattle.machine_state.specs.Moves.{link_index}
use Rattle.link_runs.specs.ByLink.{ByLink, of_link, with_link, first_link}

pub of_same : {A : Type 0} (link : Link) (x : A) (all : ByLink A) → of_link (with_link link x all) link ≡ x
of_same Zero x all = refl
of_same One x all = refl
of_same Two x all = refl
of_same Three x all = refl

pub of_other : {A : Type 0} (link on : Link) (x : A) (all : ByLink A) → link_index link ≢ link_index on
    → of_link (with_link link x all) on ≡ of_link all on
of_other Zero Zero x all differ = absurd (differ refl)
of_other Zero One x all differ = refl
of_other Zero Two x all differ = refl
of_other Zero Three x all differ = refl
of_other One Zero x all differ = refl
of_other One One x all differ = absurd (differ refl)
of_other One Two x all differ = refl
of_other One Three x all differ = refl
of_other Two Zero x all differ = refl
of_other Two One x all differ = refl
of_other Two Two x all differ = absurd (differ refl)
of_other Two Three x all differ = refl
of_other Three Zero x all differ = refl
of_other Three One x all differ = refl
of_other Three Two x all differ = refl
of_other Three Three x all differ = absurd (differ refl)

-- two links are one, or have different numbers
pub data Compared (link on : Link) : Type 0 where
  same : link ≡ on → Compared link on
  other : link_index link ≢ link_index on → nat_eq (link_index link) (link_index on) ≡ false → Compared link on

pub compared : (link on : Link) → Compared link on
compared Zero Zero = same refl
compared Zero One = other (λ e. cc) refl
compared Zero Two = other (λ e. cc) refl
compared Zero Three = other (λ e. cc) refl
compared One Zero = other (λ e. cc) refl
compared One One = same refl
compared One Two = other (λ e. cc) refl
compared One Three = other (λ e. cc) refl
compared Two Zero = other (λ e. cc) refl
compared Two One = other (λ e. cc) refl
compared Two Two = same refl
compared Two Three = other (λ e. cc) refl
compared Three Zero = other (λ e. cc) refl
compared Three One = other (λ e. cc) refl
compared Three Two = other (λ e. cc) refl
compared Three Three = same refl

-- what was there is put there again
pub with_same : {A : Type 0} (link : Link) (all : ByLink A) → with_link link (of_link all link) all ≡ all
with_same Zero all = refl
with_same One all = refl
with_same Two all = refl
with_same Three all = refl

pub with_twice : {A : Type 0} (link : Link) (x y : A) (all : ByLink A)
    → with_link link x (with_link link y all) ≡ with_link link x all
with_twice Zero x y all = refl
with_twice One x y all = refl
with_twice Two x y all = refl
with_twice Three x y all = refl

-- changes for two links come to the same in either order
pub with_both : {A : Type 0} (link on : Link) (x y : A) (all : ByLink A) → link_index link ≢ link_index on
    → with_link link x (with_link on y all) ≡ with_link on y (with_link link x all)
with_both Zero Zero x y all differ = absurd (differ refl)
with_both Zero One x y all differ = refl
with_both Zero Two x y all differ = refl
with_both Zero Three x y all differ = refl
with_both One Zero x y all differ = refl
with_both One One x y all differ = absurd (differ refl)
with_both One Two x y all differ = refl
with_both One Three x y all differ = refl
with_both Two Zero x y all differ = refl
with_both Two One x y all differ = refl
with_both Two Two x y all differ = absurd (differ refl)
with_both Two Three x y all differ = refl
with_both Three Zero x y all differ = refl
with_both Three One x y all differ = refl
with_both Three Two x y all differ = refl
with_both Three Three x y all differ = absurd (differ refl)

-- ---- the lowest link that passes

abbrev pub Alike : (Link → Bool) → (Link → Bool) → Type 0
Alike f g = (link : Link) → f link ≡ g link

pub first_alike : (f g : Link → Bool) → Alike f g → first_link f ≡ first_link g
first_alike f g alike = rw (alike Zero, alike One, alike Two, alike Three) refl

by_tests : (a b c d : Bool) (link : Link)
    → cond a (Some Zero) (cond b (Some One) (cond c (Some Two) (cond d (Some Three) None))) ≡ Some link
    → (p : Link → Bool) → p Zero ≡ a → p One ≡ b → p Two ≡ c → p Three ≡ d → p link ≡ true
by_tests true b c d link is p e f g h = let it : Zero ≡ link = cc in sym (ap p it) ∙ e
by_tests false true c d link is p e f g h = let it : One ≡ link = cc in sym (ap p it) ∙ f
by_tests false false true d link is p e f g h = let it : Two ≡ link = cc in sym (ap p it) ∙ g
by_tests false false false true link is p e f g h = let it : Three ≡ link = cc in sym (ap p it) ∙ h
by_tests false false false false link is p e f g h = absurd (cc)

-- what is found passes
pub first_passes : (p : Link → Bool) (link : Link) → first_link p ≡ Some link → p link ≡ true
first_passes p link is = by_tests (p Zero) (p One) (p Two) (p Three) link is p refl refl refl refl
