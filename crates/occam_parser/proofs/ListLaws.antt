-- Lists with commas: what is read is written so, and what is written is read again.
use Rattle.std.proofs.Common.{◌≡◌, ℕ, zero, suc, ◌≤◌, List, [], ◌∷◌, ◌++◌, length, Option, Some, None, refl, sym, ap}
use Rattle.std.proofs.Common.{subst, arith, append_assoc, append-nil, length-append, ◌∙◌}
use Rattle.std.specs.List.{AllByRecursion}
use Rattle.occam_layout.specs.declared.mark.Mark.TheVariants as mark
use Rattle.occam_parser.specs.Terminals.{Terminal, Mark}
use Rattle.occam_parser.specs.OneOrMore.{OneOrMore, as_list}
use Rattle.occam_parser.specs.Reading.{Reads, ◌>>=◌, behind, list_step, list_from, list_of}
use Rattle.occam_parser.specs.Lines.{after_commas, separated}
use Rattle.occam_parser.specs.Laws.{Sound}
use Rattle.occam_parser.proofs.Options.{bind_some, at_some}
use Rattle.occam_parser.proofs.Marks.{behind_is, behind_again}
use Rattle.occam_parser.proofs.ListsAreRead.{behind_item, from_item, turn, no_turn}

-- items after those that were found
abbrev pub IsMore : {A : Type 0} → (A → List Terminal) → (A → Type 0) → List A → List Terminal
    → List A × List Terminal → Type 0
IsMore {A} write fits found ts y = (more : List A) × (y.0 ≡ found ++ more) × (ts ≡ after_commas write more ++ y.1) ×
    AllByRecursion fits more

step_sound : {A : Type 0} (write : A → List Terminal) (fits : A → Type 0) (item : Reads A) → Sound write fits item
    → (more : List A → Reads (List A))
    → ((us : List A) (vs : List Terminal) (y : List A × List Terminal) → more us vs ≡ Some y
    → IsMore write fits us vs y)
    → (found : List A) (ts : List Terminal) (o : Option (List Terminal)) (x : List A × List Terminal)
    → behind mark.Comma ts ≡ o → list_step item more found ts o ≡ Some x → IsMore write fits found ts x
step_sound write fits item s more m found ts None x b e =
    at_some (IsMore write fits found ts) (found, ts) x e ([], sym (append-nil found), refl, tt)
step_sound write fits item s more m found ts (Some after) x b e =
    let y = bind_some (item after) _ x e in
    let h = s after y.0.0 y.0.1 y.1 in
    let sign = behind_is mark.Comma ts after b in
    let rest = m (found ++ y.0.0 ∷ []) y.0.1 x y.2 in
    let whole = sign ∙ ap (λ us. Mark mark.Comma ∷ us)
    (h.0 ∙ ap (λ us. write y.0.0 ++ us) rest.2 ∙ sym
    (append_assoc (write y.0.0) (after_commas write rest.0) x.1)) in
    (y.0.0 ∷ rest.0, rest.1 ∙ append_assoc found (y.0.0 ∷ []) rest.0, whole, (h.1, rest.3))

from_sound : {A : Type 0} (write : A → List Terminal) (fits : A → Type 0) (item : Reads A) → Sound write fits item
    → (n : ℕ) (found : List A) (ts : List Terminal) (x : List A × List Terminal) → list_from item n found ts ≡ Some x
    → IsMore write fits found ts x
unfolding list_from
from_sound write fits item s zero found ts x e =
    at_some (IsMore write fits found ts) (found, ts) x e ([], sym (append-nil found), refl, tt)
from_sound write fits item s (suc n) found ts x e =
    step_sound write fits item s (list_from item n) (from_sound write fits item s n) found ts (behind mark.Comma ts)
    x refl e

abbrev pub IsList : {A : Type 0} → (A → List Terminal) → (A → Type 0) → List Terminal
    → OneOrMore A × List Terminal → Type 0
IsList write fits ts y = (ts ≡ separated write (as_list y.0) ++ y.1) × AllByRecursion fits (as_list y.0)

pub list_sound : {A : Type 0} (write : A → List Terminal) (fits : A → Type 0) (item : Reads A)
    → Sound write fits item → (ts : List Terminal) (x : OneOrMore A × List Terminal) → list_of item ts ≡ Some x
    → IsList write fits ts x
unfolding list_of
list_sound {A} write fits item s ts x e =
    let y = bind_some (item ts) _ x e in
    let z = bind_some (list_from item (length ts) [] y.0.1) _ x y.2 in
    let h = s ts y.0.0 y.0.1 y.1 in
    let more = from_sound write fits item s (length ts) [] y.0.1 z.0 z.1 in
    let others = ap (λ us. write y.0.0 ++ us)
    (more.2 ∙ ap (λ us. after_commas write us ++ z.0.1) (sym more.1)) in
    let whole = h.0 ∙ others ∙ sym (append_assoc (write y.0.0) (after_commas write z.0.0) z.0.1) in
    at_some (IsList write fits ts) (record { first = y.0.0; others = z.0.0 }, z.0.1) x z.2
    (whole, (h.1, subst (AllByRecursion fits) (sym more.1) more.3))

-- an item that is written is read again, where what follows lets it end
abbrev pub Again : {A : Type 0} → (A → List Terminal) → (A → Type 0) → (List Terminal → Type 0) → Reads A → Type 0
Again {A} write fits ends item = (x : A) (rest : List Terminal) → fits x → ends rest
    → item (write x ++ rest) ≡ Some (x, rest)

ends_here : {A : Type 0} (write : A → List Terminal) (ends : List Terminal → Type 0)
    → ((us : List Terminal) → ends (Mark mark.Comma ∷ us)) → (xs : List A) (rest : List Terminal) → ends rest
    → ends (after_commas write xs ++ rest)
ends_here write ends comma [] rest e = e
ends_here write ends comma (x ∷ xs) rest e = comma ((write x ++ after_commas write xs) ++ rest)

from_again : {A : Type 0} (write : A → List Terminal) (fits : A → Type 0) (ends : List Terminal → Type 0)
    (item : Reads A) → Again write fits ends item → ((us : List Terminal) → ends (Mark mark.Comma ∷ us))
    → (xs found : List A) (n : ℕ) (rest : List Terminal) → AllByRecursion fits xs → behind mark.Comma rest ≡ None
    → ends rest → length (after_commas write xs ++ rest) ≤ n
    → list_from item n found (after_commas write xs ++ rest) ≡ Some (found ++ xs, rest)
from_again write fits ends item again comma [] found n rest all none e enough =
    no_turn item n found rest none ∙ ap (λ ys. Some (ys, rest)) (sym (append-nil found))
from_again write fits ends item again comma (x ∷ xs) found n rest all none e enough =
    let tail = after_commas write xs ++ rest in
    let after = (write x ++ after_commas write xs) ++ rest in
    let same = append_assoc (write x) (after_commas write xs) rest in
    let t = turn item n found (Mark mark.Comma ∷ after) after (behind_again mark.Comma after) enough in
    let read = ap item same ∙ again x tail all.0 (ends_here write ends comma xs rest e) in
    let less : length tail ≤ t.0 = omega (arith, t.1, ap length same, length-append (write x) tail) in
    t.2 ∙ ap (λ o. o >>= λ y. list_from item t.0 (found ++ y.0 ∷ []) y.1) read ∙ from_again write fits ends item
    again comma xs (found ++ x ∷ []) t.0 rest all.1 none e less ∙ ap (λ ys. Some (ys, rest))
    (append_assoc found (x ∷ []) xs)

pub list_again : {A : Type 0} (write : A → List Terminal) (fits : A → Type 0) (ends : List Terminal → Type 0)
    (item : Reads A) → Again write fits ends item → ((us : List Terminal) → ends (Mark mark.Comma ∷ us))
    → (xs : OneOrMore A) (rest : List Terminal) → AllByRecursion fits (as_list xs) → behind mark.Comma rest ≡ None
    → ends rest
    → list_of item (separated write (as_list xs) ++ rest) ≡ Some (xs, rest)
unfolding list_of
list_again write fits ends item again comma xs rest all none e =
    let tail = after_commas write xs.others ++ rest in
    let whole = (write xs.first ++ after_commas write xs.others) ++ rest in
    let same = append_assoc (write xs.first) (after_commas write xs.others) rest in
    let read = ap item same ∙ again xs.first tail all.0 (ends_here write ends comma xs.others rest e) in
    let less : length tail ≤ length whole = omega (arith, ap length same, length-append (write xs.first) tail) in
    ap (from_item item (length whole)) read ∙ ap (behind_item xs.first) (from_again write fits ends item again
    comma xs.others [] (length whole) rest all.1 none e less)
