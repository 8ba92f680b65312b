-- What rows say, from the last entry to the first.
use Rattle.std.proofs.Common.{◌≡◌, ◌+◌, Bool, true, false, List, [], ◌∷◌, ◌++◌, reverse, sym, ap}
use Rattle.std.proofs.Common.{◌∙◌}
use Rattle.std.specs.Prelude.{if◌then◌else◌}
use Rattle.std.proofs.lemmas.List.{reverse-append}
use Rattle.code_pieces.specs.declared.saying.Said.{Said}
use Rattle.code_pieces.specs.Laying.{joins, with_said}

pub last_first : (xs : List Said) (x : Said) → reverse (xs ++ x ∷ []) ≡ x ∷ reverse xs
last_first xs x = reverse-append xs (x ∷ [])

-- nothing is said after it
pub said_before_none : (s : Said) (old new : List Said) → old ≡ [] → new ≡ s ∷ []
    → reverse new ≡ with_said s (reverse old)
said_before_none s old new e f =
    ap (λ (xs : List Said). reverse xs) f ∙ sym (ap (λ (xs : List Said). with_said s (reverse xs)) e)

-- the next one has the same range
pub said_joined : (s next both : Said) (left old new : List Said) → old ≡ left ++ next ∷ [] → joins s next ≡ true
    → both ≡ record { word = s.word; span = s.span + next.span; fact = s.fact } → new ≡ left ++ both ∷ []
    → reverse new ≡ with_said s (reverse old)
said_joined s next both left old new e j b f =
    ap (λ (xs : List Said). reverse xs) f ∙ last_first left both
    ∙ ap (λ (t : Said). t ∷ reverse left) b
    ∙ sym (ap (λ (xs : List Said). with_said s xs) (ap (λ (xs : List Said). reverse xs) e ∙ last_first left next)
    ∙ ap (λ (c : Bool). if c then
    record { word = s.word; span = s.span + next.span; fact = s.fact } ∷ reverse left
    else s ∷ next ∷ reverse left) j)

-- it has not
pub said_apart : (s next : Said) (left old again new : List Said) → old ≡ left ++ next ∷ [] → joins s next ≡ false
    → again ≡ left ++ next ∷ [] → new ≡ again ++ s ∷ []
    → reverse new ≡ with_said s (reverse old)
said_apart s next left old again new e j a f =
    ap (λ (xs : List Said). reverse xs) f ∙ last_first again s
    ∙ ap (λ (xs : List Said). s ∷ xs) (ap (λ (xs : List Said). reverse xs) a ∙ last_first left next)
    ∙ sym (ap (λ (xs : List Said). with_said s xs) (ap (λ (xs : List Said). reverse xs) e ∙ last_first left next)
    ∙ ap (λ (c : Bool). if c then
    record { word = s.word; span = s.span + next.span; fact = s.fact } ∷ reverse left
    else s ∷ next ∷ reverse left) j)

pub ruleset said_before_others = (said_before_none, said_joined, said_apart)
