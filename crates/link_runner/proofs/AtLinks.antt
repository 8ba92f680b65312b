-- What is at the number of a link, after one was set.
use Rattle.std.proofs.Common.{◌≡◌, Bool, true, false, nat_eq, List, Option, Some, refl, sym, ap, subst}
use Rattle.std.proofs.Common.{◌∙◌, slice_get, slice_set}
use Rattle.std.proofs.Common.{eq-eqb}
use Rattle.machine_state.specs.declared.link.Link.{Link}
use Rattle.machine_state.specs.declared.link.Link.TheVariants.{Zero, One, Two, Three}
use Rattle.machine_state.specs.Moves.{link_index}
use Rattle.machine_state.proofs.Lines.{got_set, got_other}
use Rattle.link_runs.specs.ByLink.{of_link, by_link}
use Rattle.link_runs.proofs.ByLink.{same, other, compared}
use Rattle.link_runner.specs.Readers.{found, at_link, flag_at, NoneFailed, OneFailed, SameElsewhere}

pub at_same : {A : Type 0} (all : List (Option A)) (link : Link) (x y : Option A)
    → slice_get all (link_index link) ≡ Some x → at_link (slice_set all (link_index link) y) link ≡ y
at_same all link x y here = ap found (got_set all (link_index link) x y here)

pub at_other : {A : Type 0} (all : List (Option A)) (link : Link) (y : Option A)
    → SameElsewhere all (slice_set all (link_index link) y) link
at_other all link y on differ = ap found (got_other all (link_index link) (link_index on) y differ)

pub of_by_link : {A : Type 0} (f : Link → A) (link : Link) → of_link (by_link f) link ≡ f link
of_by_link f Zero = refl
of_by_link f One = refl
of_by_link f Two = refl
of_by_link f Three = refl

-- a fact of this link and of all the others is one of each
pub everywhere : (P : Link → Type 0) (link : Link) → P link → ((on : Link) → (link_index link ≡ link_index on → ⊥)
    → P on)
    → (on : Link) → P on
everywhere P link here elsewhere on = elim (compared link on) [
  | same is ↦ subst P is here
  | other differ test ↦ elsewhere on differ
]

-- where the flag of this link is as it was, none is set
pub still_none : {A : Type 0} (flag : A → Bool) (before after : List (Option A)) (link : Link) → NoneFailed flag before
    → SameElsewhere before after link → flag_at flag (at_link after link) ≡ false → NoneFailed flag after
still_none flag before after link none elsewhere here = record {
  none = everywhere (λ on. flag_at flag (at_link after on) ≡ false) link here
      (λ on differ. ap (flag_at flag) (elsewhere on differ) ∙ none.none on);
}

-- where it is set, it is the only one
pub now_one : {A : Type 0} (flag : A → Bool) (before after : List (Option A)) (link : Link) → NoneFailed flag before
    → SameElsewhere before after link → flag_at flag (at_link after link) ≡ true → OneFailed flag after link
now_one flag before after link none elsewhere here = record {
  flags = λ on. elim (compared link on) [
    | same is ↦ subst (λ (l : Link). flag_at flag (at_link after l) ≡ nat_eq (link_index link) (link_index l)) is
        (here ∙ sym (eq-eqb (link_index link) (link_index link) refl))
    | other differ test ↦ ap (flag_at flag) (elsewhere on differ) ∙ (none.none on ∙ sym test)
  ];
}
