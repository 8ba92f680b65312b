-- What is claimed of what labels want of some words.
use Rattle.std.specs.Prelude.{◌≡◌, ◌<◌, ℕ, ℤ, ◌≤ℤ◌, ◌<ℤ◌, true, List, length, get_or, Some}
use Rattle.std.proofs.Props.{props}
use Rattle.module_format.specs.Contents.{Contents, Label}
use Rattle.states.specs.declared.claims.Claim.{Claim}
use Rattle.states.specs.declared.known.WordFact.TheVariants.{Alone}
use Rattle.states.specs.State.{is_alone, entry_fact}
use Rattle.states.specs.Below.{says}
use Rattle.states.specs.Remembered.{numbered_label, wants_no_loop}

-- the label of the number wants no loop, and the fact says what it wants of each of these words
abbrev pub IsClaim : Contents → Claim → Type 0
IsClaim m c =
    (t : Label) → numbered_label m c.label ≡ Some t → (wants_no_loop t.entries ≡ true)
    × ((k : ℤ) → c.first ≤ℤ k → k <ℤ c.end
    → (is_alone (entry_fact t.entries k) ≡ true) × (says (Alone c.fact) (entry_fact t.entries k) ≡ true))

-- so it is of each claim
unfoldable pub AreClaimed : Contents → List Claim → Type 0
AreClaimed m claims = (i : ℕ) → i < length claims → (d : Claim) → IsClaim m (get_or claims i d)

pub AreClaimed-prop : (m : Contents) (claims : List Claim) → IsProp (AreClaimed m claims)
unfolding AreClaimed
AreClaimed-prop m claims = hlevel props
