-- What the program makes of its slots and lists is what the definitions make of them.
use Rattle.std.proofs.Common.{◌≡◌, ℕ, zero, suc, ◌+◌, ◌-◌, ◌<◌, ◌≤◌, List, [], ◌∷◌, length, map, take, drop, set}
use Rattle.std.proofs.Common.{get_or, Option, Some, None, refl, sym, ap, subst, arith, ◌∙◌, option_map, ◌++◌}
use Rattle.std.proofs.Common.{Bool}
use Rattle.std.proofs.lemmas.List.{drop_more, drop_all, get_or-map, length-map, take_all, append_assoc}
use Rattle.std.proofs.lemmas.Bool.{ne_eqb}
use Rattle.scalar_ranges.specs.declared.slots.Slot as code_slot
use Rattle.scalar_ranges.specs.declared.slots.Change as code_change
use Rattle.scalar_ranges.specs.Entries.{Meaning, Entry, entry_at}
use Rattle.scalar_ranges.specs.Environments.{item_at}
use Rattle.scalar_ranges.specs.Changes.{Slot, Change, Tracked, entry_in, seen, modify, restored, undone, numbers_of}
use Rattle.scalar_ranges.specs.Changes.{each, put_if, puts, known_if, handed_slot, handed, AreForeign}
use Rattle.scalar_ranges.specs.ChangeViews.{meaning_of, slot_of, slots_from, change_of, changes_from, afters_from}
use Rattle.scalar_ranges.specs.ChangeViews.{put_afters, known_afters, AfterBlock}
use Rattle.scalar_ranges.specs.Moves.{Known}
use Rattle.scalar_ranges.specs.MoveLaws.{meaning_at}
use Rattle.scalar_ranges.proofs.Numbered.{item_mapped, reverse_meaning, reverse_entry}

-- ---- one slot

pub slots_changed : (f : Slot → Slot) (slots : List code_slot.Slot) (n : ℕ) (x d : code_slot.Slot) → n < length slots
    → d ≡ get_or slots n d → slot_of x ≡ f (slot_of d) → slots_from (set slots n x) ≡ modify f n (slots_from slots)
slots_changed f [] n x d less found is = absurd (omega arith)
slots_changed f (y ∷ ys) zero x d less found is =
    ap (λ s. s ∷ slots_from ys) (is ∙ ap (λ k. f (slot_of k)) found)
slots_changed f (y ∷ ys) (suc n) x d less found is =
    ap (λ ss. slot_of y ∷ ss) (slots_changed f ys n x d (omega arith) found is)

-- there is no slot with a number as large as their count
pub slots_same : (f : Slot → Slot) (slots : List code_slot.Slot) (n : ℕ) → length slots ≤ n
    → slots_from slots ≡ modify f n (slots_from slots)
slots_same f [] n least = refl
slots_same f (y ∷ ys) zero least = absurd (omega arith)
slots_same f (y ∷ ys) (suc n) least = ap (λ ss. slot_of y ∷ ss) (slots_same f ys n (omega arith))

-- the same once the slots that were lent out for it are given back
pub slots_modified : {slots lent now whole : List code_slot.Slot} (f : Slot → Slot) (n : ℕ) → lent ≡ slots
    → slots_from now ≡ modify f n (slots_from lent) → whole ≡ now → slots_from whole ≡ modify f n (slots_from slots)
slots_modified f n same is whole = ap slots_from whole ∙ is ∙ ap (λ ks. modify f n (slots_from ks)) same

pub slot_at : (slots : List code_slot.Slot) (n : ℕ) (d : code_slot.Slot) → n < length slots → d ≡ get_or slots n d
    → item_at n (slots_from slots) ≡ Some (slot_of d)
slot_at [] n d less found = absurd (omega arith)
slot_at (y ∷ ys) zero d less found = ap (λ k. Some (slot_of k)) (sym found)
slot_at (y ∷ ys) (suc n) d less found = slot_at ys n d (omega arith) found

pub item_beyond : {A : Type 0} (n : ℕ) (xs : List A) → length xs ≤ n → item_at n xs ≡ None
item_beyond n [] least = refl
item_beyond zero (x ∷ xs) least = absurd (omega arith)
item_beyond (suc n) (x ∷ xs) least = item_beyond n xs (omega arith)

pub item_within : {A : Type 0} (n k : ℕ) (xs : List A) → n < k → item_at n (take k xs) ≡ item_at n xs
item_within n zero xs less = absurd (omega arith)
item_within n (suc k) [] less = refl
item_within zero (suc k) (x ∷ xs) less = refl
item_within (suc n) (suc k) (x ∷ xs) less = item_within n k xs (omega arith)

pub item_below : {A : Type 0} (n : ℕ) (xs : List A) (x : A) → item_at n xs ≡ Some x → n < length xs
item_below n [] x is = absurd (cc)
item_below zero (y ∷ xs) x is = omega arith
item_below (suc n) (y ∷ xs) x is = let less = item_below n xs x is in omega arith

meaning_of_item : (o : Option Slot)
    → option_map (λ (e : Entry). e.meaning) (option_map entry_in o) ≡ option_map (λ (s : Slot). s.meaning) o
meaning_of_item None = refl
meaning_of_item (Some s) = refl

pub meaning_seen : (n : ℕ) (ss : List Slot)
    → meaning_at n (seen entry_in ss) ≡ option_map (λ (s : Slot). s.meaning) (item_at n ss)
meaning_seen n ss =
    reverse_meaning n (map entry_in ss)
    ∙ ap (option_map (λ (e : Entry). e.meaning)) (item_mapped entry_in n ss)
    ∙ meaning_of_item (item_at n ss)

pub entry_seen : (n : ℕ) (ss : List Slot) → entry_at n (seen entry_in ss) ≡ option_map entry_in (item_at n ss)
entry_seen n ss = reverse_entry n (map entry_in ss) ∙ item_mapped entry_in n ss

-- ---- a loop over numbers, or over a list of changes

pub change_at : (cs : List code_change.Change) (i : ℕ) (c : code_change.Change) → i < length cs → c ≡ get_or cs i c
    → drop i (changes_from cs) ≡ change_of c ∷ drop (i + 1) (changes_from cs)
change_at cs i c less found =
    let long = length-map cs change_of in
    drop_more (changes_from cs) i (change_of c) (omega arith)
    ∙ ap (λ k. k ∷ drop (i + 1) (changes_from cs)) (get_or-map change_of cs i c (change_of c) less
    ∙ ap change_of (sym found))

pub number_at : (cs : List code_change.Change) (i : ℕ) (c : code_change.Change) → i < length cs → c ≡ get_or cs i c
    → drop i (numbers_of (changes_from cs)) ≡ c.number ∷ drop (i + 1) (numbers_of (changes_from cs))
number_at cs i c less found =
    let ns = numbers_of (changes_from cs) in
    let long = length-map cs change_of in
    let size = length-map (changes_from cs) (λ (k : Change). k.number) in
    drop_more ns i 0 (omega arith)
    ∙ ap (λ n. n ∷ drop (i + 1) ns)
    (get_or-map (λ (k : Change). k.number) (changes_from cs) i (change_of c) 0 (omega arith)
    ∙ ap (λ (k : Change). k.number) (get_or-map change_of cs i c (change_of c) less ∙ ap change_of (sym found)))

pub each_turn : (f : Slot → Slot) (ns : List ℕ) (i n : ℕ) (before after all : List Slot)
    → drop i ns ≡ n ∷ drop (i + 1) ns → after ≡ modify f n before → each f (drop i ns) before ≡ all
    → each f (drop (i + 1) ns) after ≡ all
each_turn f ns i n before after all next is so_far =
    ap (each f (drop (i + 1) ns)) is ∙ ap (λ ks. each f ks before) (sym next) ∙ so_far

pub each_done : (f : Slot → Slot) (ns : List ℕ) (i : ℕ) (now all : List Slot) → length ns ≤ i
    → each f (drop i ns) now ≡ all → now ≡ all
each_done f ns i now all least so_far = ap (λ ks. each f ks now) (sym (drop_all i ns least)) ∙ so_far

pub listed_done : (f : Slot → Slot) (cs : List code_change.Change) (i : ℕ) (now all : List Slot) → length cs ≤ i
    → each f (drop i (numbers_of (changes_from cs))) now ≡ all → now ≡ all
listed_done f cs i now all least so_far =
    let long = length-map cs change_of in
    let size = length-map (changes_from cs) (λ (k : Change). k.number) in
    each_done f (numbers_of (changes_from cs)) i now all (omega arith) so_far

-- the changes are taken back, the last one first
pub undo_turn : (cs : List code_change.Change) (place : ℕ) (c : code_change.Change) (before after all : List Slot)
    → place < length cs → c ≡ get_or cs (length cs - 1 - place) c
    → after ≡ modify (restored (slot_of c.before)) c.number before
    → before ≡ undone (drop (length cs - place) (changes_from cs)) all
    → after ≡ undone (drop (length cs - (place + 1)) (changes_from cs)) all
undo_turn cs place c before after all less found is so_far =
    let k = length cs - 1 - place in
    let first : length cs - (place + 1) ≡ k = omega arith in
    let next : k + 1 ≡ length cs - place = omega arith in
    is ∙ ap (modify (restored (slot_of c.before)) c.number) so_far
    ∙ ap (λ j. modify (restored (slot_of c.before)) c.number (undone (drop j (changes_from cs)) all)) (sym next)
    ∙ ap (λ ks. undone ks all) (sym (change_at cs k c (omega arith) found))
    ∙ ap (λ j. undone (drop j (changes_from cs)) all) (sym first)

pub undo_begins : (cs : List code_change.Change) (ss : List Slot)
    → ss ≡ undone (drop (length cs - 0) (changes_from cs)) ss
undo_begins cs ss =
    let long = length-map cs change_of in
    ap (λ ks. undone ks ss) (sym (drop_all (length cs - 0) (changes_from cs) (omega arith)))

pub undo_done : (cs : List code_change.Change) (place : ℕ) (now all : List Slot) → length cs ≤ place
    → now ≡ undone (drop (length cs - place) (changes_from cs)) all → now ≡ undone (changes_from cs) all
undo_done cs place now all least so_far =
    let none : length cs - place ≡ 0 = omega arith in
    so_far ∙ ap (λ k. undone (drop k (changes_from cs)) all) none

-- the entries of a list come to the lists of the block around, the last one first
pub hand_turn : (inner outer : ℕ) (ended : Bool) (cs : List code_change.Change) (place : ℕ) (c : code_change.Change)
    (before after all : List Slot) → place < length cs → c ≡ get_or cs (length cs - 1 - place) c
    → after ≡ modify (handed_slot inner outer ended (meaning_of c.before.meaning)) c.number before
    → before ≡ handed inner outer ended (drop (length cs - place) (changes_from cs)) all
    → after ≡ handed inner outer ended (drop (length cs - (place + 1)) (changes_from cs)) all
hand_turn inner outer ended cs place c before after all less found is so_far =
    let f = handed_slot inner outer ended (meaning_of c.before.meaning) in
    let k = length cs - 1 - place in
    let first : length cs - (place + 1) ≡ k = omega arith in
    let next : k + 1 ≡ length cs - place = omega arith in
    is ∙ ap (modify f c.number) so_far
    ∙ ap (λ j. modify f c.number (handed inner outer ended (drop j (changes_from cs)) all)) (sym next)
    ∙ ap (λ ks. handed inner outer ended ks all) (sym (change_at cs k c (omega arith) found))
    ∙ ap (λ j. handed inner outer ended (drop j (changes_from cs)) all) (sym first)

pub hand_begins : (inner outer : ℕ) (ended : Bool) (cs : List code_change.Change) (ss : List Slot)
    → ss ≡ handed inner outer ended (drop (length cs - 0) (changes_from cs)) ss
hand_begins inner outer ended cs ss =
    let long = length-map cs change_of in
    ap (λ ks. handed inner outer ended ks ss) (sym (drop_all (length cs - 0) (changes_from cs) (omega arith)))

pub hand_done : (inner outer : ℕ) (ended : Bool) (cs : List code_change.Change) (place : ℕ) (now all : List Slot)
    → length cs ≤ place → now ≡ handed inner outer ended (drop (length cs - place) (changes_from cs)) all
    → now ≡ handed inner outer ended (changes_from cs) all
hand_done inner outer ended cs place now all least so_far =
    let none : length cs - place ≡ 0 = omega arith in
    so_far ∙ ap (λ k. handed inner outer ended (drop k (changes_from cs)) all) none

-- the numbers of the entries in a list come to others
pub numbers_turn : (cs : List code_change.Change) (i : ℕ) (c : code_change.Change) (before after all : List ℕ)
    → i < length cs → c ≡ get_or cs i c → after ≡ before ++ c.number ∷ []
    → before ++ drop i (numbers_of (changes_from cs)) ≡ all
    → after ++ drop (i + 1) (numbers_of (changes_from cs)) ≡ all
numbers_turn cs i c before after all less found is so_far =
    let ns = numbers_of (changes_from cs) in
    ap (λ ms. ms ++ drop (i + 1) ns) is ∙ append_assoc before (c.number ∷ []) (drop (i + 1) ns)
    ∙ ap (λ ms. before ++ ms) (sym (number_at cs i c less found)) ∙ so_far

-- changes of which each is foreign to a block
pub foreign_turn : (count d : ℕ) (cs : List code_change.Change) (i : ℕ) (c : code_change.Change) → i < length cs
    → c ≡ get_or cs i c → c.number < count → (c.before.mark ≡ d → ⊥)
    → (AreForeign count d (drop i (changes_from cs)) → AreForeign count d (changes_from cs))
    → AreForeign count d (drop (i + 1) (changes_from cs)) → AreForeign count d (changes_from cs)
foreign_turn count d cs i c less found low apart so_far others =
    so_far (subst (AreForeign count d) (sym (change_at cs i c less found))
    (low, ne_eqb c.before.mark d apart, others))

pub foreign_done : (count d : ℕ) (cs : List code_change.Change) (i : ℕ) → length cs ≤ i
    → (AreForeign count d (drop i (changes_from cs)) → AreForeign count d (changes_from cs))
    → AreForeign count d (changes_from cs)
foreign_done count d cs i least so_far =
    let long = length-map cs change_of in
    so_far (subst (AreForeign count d) (sym (drop_all i (changes_from cs) (omega arith))) tt)

-- what the entries mean after a block
pub same_changes : (cs : List code_change.Change) (k : ℕ) (x d : code_change.Change) → k < length cs
    → d ≡ get_or cs k d → change_of x ≡ change_of d → changes_from (set cs k x) ≡ changes_from cs
same_changes [] k x d less found is = absurd (omega arith)
same_changes (y ∷ ys) zero x d less found is =
    ap (λ c. c ∷ changes_from ys) (is ∙ ap change_of found)
same_changes (y ∷ ys) (suc k) x d less found is =
    ap (λ cs. change_of y ∷ cs) (same_changes ys k x d (omega arith) found is)

abbrev pub wanted : List Meaning → List code_change.Change → List (Option Meaning)
wanted ms cs = map (λ n. item_at n ms) (numbers_of (changes_from cs))

pub conclude_turn : (ms : List Meaning) (cs : List code_change.Change) (k : ℕ) (x : code_change.Change) → k < length cs
    → option_map meaning_of x.after ≡ item_at x.number ms → take k (afters_from cs) ≡ take k (wanted ms cs)
    → take (suc k) (afters_from (set cs k x)) ≡ take (suc k) (wanted ms (set cs k x))
conclude_turn ms [] k x less is so_far = absurd (omega arith)
conclude_turn ms (y ∷ ys) zero x less is so_far = ap (λ o. o ∷ []) is
conclude_turn ms (y ∷ ys) (suc k) x less is so_far =
    let first : option_map meaning_of y.after ≡ item_at y.number ms = cc in
    let others : take k (afters_from ys) ≡ take k (wanted ms ys) = cc in
    λ i. first i ∷ conclude_turn ms ys k x (omega arith) is others i

pub concluded : (ms : List Meaning) (cs : List code_change.Change) (k : ℕ) → length cs ≤ k
    → take k (afters_from cs) ≡ take k (wanted ms cs) → AfterBlock ms cs
concluded ms cs k least so_far =
    let long = length-map cs (λ (c : code_change.Change). option_map meaning_of c.after) in
    let listed = length-map cs change_of in
    let numbered = length-map (changes_from cs) (λ (c : Change). c.number) in
    let items = length-map (numbers_of (changes_from cs)) (λ n. item_at n ms) in
    sym (take_all k (afters_from cs) (omega arith)) ∙ so_far ∙ take_all k (wanted ms cs) (omega arith)

-- one change more
pub conclude_more : (ms : List Meaning) (cs : List code_change.Change) (k : ℕ) (x d : code_change.Change)
    → k < length cs → d ≡ get_or cs k d → change_of x ≡ change_of d
    → option_map meaning_of x.after ≡ item_at d.number ms → take k (afters_from cs) ≡ take k (wanted ms cs)
    → take (k + 1) (afters_from (set cs k x)) ≡ take (k + 1) (wanted ms (set cs k x))
conclude_more ms cs k x d less found same is so_far =
    let next : suc k ≡ k + 1 = omega arith in
    let number : d.number ≡ x.number = ap (λ (c : Change). c.number) (sym same) in
    subst (λ j. take j (afters_from (set cs k x)) ≡ take j (wanted ms (set cs k x))) next
    (conclude_turn ms cs k x less (is ∙ ap (λ n. item_at n ms) number) so_far)

pub put_turn : (cs : List code_change.Change) (i : ℕ) (c : code_change.Change) (before after all : Known)
    → i < length cs → c ≡ get_or cs i c → after ≡ known_if (option_map meaning_of c.after) c.number before
    → known_afters (drop i cs) before ≡ all → known_afters (drop (i + 1) cs) after ≡ all
put_turn cs i c before after all less found is so_far =
    ap (known_afters (drop (i + 1) cs)) is
    ∙ ap (λ ks. known_afters ks before) (ap (λ k. k ∷ drop (i + 1) cs) found ∙ sym (drop_more cs i c less)) ∙ so_far

pub put_done : (cs : List code_change.Change) (i : ℕ) (now all : Known) → length cs ≤ i
    → known_afters (drop i cs) now ≡ all → now ≡ all
put_done cs i now all least so_far = ap (λ ks. known_afters ks now) (sym (drop_all i cs least)) ∙ so_far

pub puts_are : (ms : List Meaning) (cs : List code_change.Change) (t : Tracked) → AfterBlock ms cs
    → put_afters cs t ≡ puts (numbers_of (changes_from cs)) ms t
puts_are ms [] t is = refl
puts_are ms (c ∷ cs) t is =
    let first : option_map meaning_of c.after ≡ item_at c.number ms = cc in
    let others : AfterBlock ms cs = cc in
    ap (λ o. put_afters cs (put_if o c.number t)) first
    ∙ puts_are ms cs (put_if (item_at c.number ms) c.number t) others
