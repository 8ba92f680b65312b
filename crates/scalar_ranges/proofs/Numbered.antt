-- Items that are changed by their number, counted from the first one.
use Rattle.std.proofs.Common.{◌≡◌, ℕ, zero, suc, Bool, true, false, cond, List, [], ◌∷◌, ◌++◌, length, map, reverse}
use Rattle.std.proofs.Common.{take, Option, Some, None, option_map, refl, sym, ap, subst, ◌∙◌, nat_eq}
use Rattle.std.proofs.lemmas.List.{reverse-append}
use Rattle.std.proofs.lemmas.Bool.{eqb-true}
use Rattle.std.proofs.Math.Dec.{eqb-suc-suc}
use Rattle.scalar_ranges.specs.Environments.{item_at}
use Rattle.scalar_ranges.specs.Moves.{outermost, at_number, is_one_of}
use Rattle.scalar_ranges.specs.MoveLaws.{meaning_at}
use Rattle.scalar_ranges.specs.Entries.{Entry, entry_at}
use Rattle.scalar_ranges.specs.Changes.{modify, each}
use Rattle.scalar_ranges.proofs.Rows.{at_last, at_further, cut_none, cut_last, meaning_last, meaning_further}
use Rattle.scalar_ranges.proofs.Rows.{entry_last, entry_further}

pub modify_long : {A : Type 0} (f : A → A) (n : ℕ) (xs : List A) → length (modify f n xs) ≡ length xs
modify_long f n [] = refl
modify_long f zero (x ∷ xs) = refl
modify_long f (suc n) (x ∷ xs) = ap suc (modify_long f n xs)

pub take_modify : {A : Type 0} (f : A → A) (k n : ℕ) (xs : List A) → take k (modify f n xs) ≡ modify f n (take k xs)
take_modify f zero n xs = refl
take_modify f (suc k) n [] = refl
take_modify f (suc k) zero (x ∷ xs) = refl
take_modify f (suc k) (suc n) (x ∷ xs) = ap (λ ys. x ∷ ys) (take_modify f k n xs)

pub map_modify : {A B : Type 0} (g : A → B) (f : A → A) (h : B → B) (n : ℕ) (xs : List A)
    → ((x : A) → item_at n xs ≡ Some x → g (f x) ≡ h (g x)) → map g (modify f n xs) ≡ modify h n (map g xs)
map_modify g f h n [] same = refl
map_modify g f h zero (x ∷ xs) same = ap (λ y. y ∷ map g xs) (same x refl)
map_modify g f h (suc n) (x ∷ xs) same = ap (λ ys. g x ∷ ys) (map_modify g f h n xs same)

pub map_unmodified : {A B : Type 0} (g : A → B) (f : A → A) (n : ℕ) (xs : List A)
    → ((x : A) → item_at n xs ≡ Some x → g (f x) ≡ g x) → map g (modify f n xs) ≡ map g xs
map_unmodified g f n [] same = refl
map_unmodified g f zero (x ∷ xs) same = ap (λ y. y ∷ map g xs) (same x refl)
map_unmodified g f (suc n) (x ∷ xs) same = ap (λ ys. g x ∷ ys) (map_unmodified g f n xs same)

-- nothing changes where the item stays the same, or where there is none
pub unmodified : {A : Type 0} (f : A → A) (n : ℕ) (xs : List A) → ((x : A) → item_at n xs ≡ Some x → f x ≡ x)
    → modify f n xs ≡ xs
unmodified f n [] same = refl
unmodified f zero (x ∷ xs) same = ap (λ y. y ∷ xs) (same x refl)
unmodified f (suc n) (x ∷ xs) same = ap (λ ys. x ∷ ys) (unmodified f n xs same)

pub reverse_cons : {A : Type 0} (x : A) (xs : List A) → reverse (x ∷ xs) ≡ reverse xs ++ x ∷ []
reverse_cons x xs = reverse-append (x ∷ []) xs

pub reverse_modify : {A : Type 0} (f : A → A) (n : ℕ) (xs : List A)
    → reverse (modify f n xs) ≡ at_number f n (reverse xs)
reverse_modify f n [] = refl
reverse_modify f zero (x ∷ xs) =
    reverse_cons (f x) xs ∙ sym (at_last f (reverse xs) x) ∙ ap (at_number f 0) (sym (reverse_cons x xs))
reverse_modify f (suc n) (x ∷ xs) =
    reverse_cons x (modify f n xs) ∙ ap (λ ys. ys ++ x ∷ []) (reverse_modify f n xs)
    ∙ sym (at_further f n (reverse xs) x) ∙ ap (at_number f (suc n)) (sym (reverse_cons x xs))

pub reverse_take : {A : Type 0} (k : ℕ) (xs : List A) → reverse (take k xs) ≡ outermost k (reverse xs)
reverse_take zero xs = sym (cut_none (reverse xs))
reverse_take (suc k) [] = refl
reverse_take (suc k) (x ∷ xs) =
    reverse_cons x (take k xs) ∙ ap (λ ys. ys ++ x ∷ []) (reverse_take k xs)
    ∙ sym (cut_last k (reverse xs) x) ∙ ap (outermost (suc k)) (sym (reverse_cons x xs))

pub reverse_meaning : (n : ℕ) (es : List Entry)
    → meaning_at n (reverse es) ≡ option_map (λ (e : Entry). e.meaning) (item_at n es)
reverse_meaning n [] = refl
reverse_meaning zero (e ∷ es) = ap (meaning_at 0) (reverse_cons e es) ∙ meaning_last (reverse es) e
reverse_meaning (suc n) (e ∷ es) =
    ap (meaning_at (suc n)) (reverse_cons e es) ∙ meaning_further n (reverse es) e ∙ reverse_meaning n es

pub reverse_entry : (n : ℕ) (es : List Entry) → entry_at n (reverse es) ≡ item_at n es
reverse_entry n [] = refl
reverse_entry zero (e ∷ es) = ap (entry_at 0) (reverse_cons e es) ∙ entry_last (reverse es) e
reverse_entry (suc n) (e ∷ es) =
    ap (entry_at (suc n)) (reverse_cons e es) ∙ entry_further n (reverse es) e ∙ reverse_entry n es

-- a change after which one before it is not seen
pub modify_over : {A : Type 0} (f g : A → A) (n : ℕ) (xs : List A) → ((x : A) → g (f x) ≡ g x)
    → modify g n (modify f n xs) ≡ modify g n xs
modify_over f g n [] same = refl
modify_over f g zero (x ∷ xs) same = ap (λ y. y ∷ xs) (same x)
modify_over f g (suc n) (x ∷ xs) same = ap (λ ys. x ∷ ys) (modify_over f g n xs same)

pub modify_swap : {A : Type 0} (f g : A → A) (n m : ℕ) (xs : List A) → nat_eq n m ≡ false
    → modify f n (modify g m xs) ≡ modify g m (modify f n xs)
modify_swap f g n m [] apart = refl
modify_swap f g zero zero (x ∷ xs) apart = absurd (cc)
modify_swap f g zero (suc m) (x ∷ xs) apart = refl
modify_swap f g (suc n) zero (x ∷ xs) apart = refl
modify_swap f g (suc n) (suc m) (x ∷ xs) apart =
    ap (λ ys. x ∷ ys) (modify_swap f g n m xs (sym (eqb-suc-suc n m) ∙ apart))

-- ---- each item

pub item_modified : {A : Type 0} (f : A → A) (n : ℕ) (xs : List A) (x : A) → item_at n xs ≡ Some x
    → item_at n (modify f n xs) ≡ Some (f x)
item_modified f n [] x is = absurd (cc)
item_modified f zero (y ∷ xs) x is = let same : y ≡ x = cc in ap (λ z. Some (f z)) same
item_modified f (suc n) (y ∷ xs) x is = item_modified f n xs x is

pub other_item : {A : Type 0} (f : A → A) (n i : ℕ) (xs : List A) → nat_eq n i ≡ false
    → item_at i (modify f n xs) ≡ item_at i xs
other_item f n i [] apart = refl
other_item f zero zero (x ∷ xs) apart = absurd (cc)
other_item f zero (suc i) (x ∷ xs) apart = refl
other_item f (suc n) zero (x ∷ xs) apart = refl
other_item f (suc n) (suc i) (x ∷ xs) apart = other_item f n i xs (sym (eqb-suc-suc n i) ∙ apart)

item_here : {A : Type 0} (P : ℕ → A → Type 0) (f : A → A) (n : ℕ) (xs : List A) (y : A) (o : Option A)
    → ((x : A) → item_at n xs ≡ Some x → P n (f x)) → item_at n xs ≡ o → item_at n (modify f n xs) ≡ Some y → P n y
item_here P f n xs y None new none is =
    absurd (cc (ap (item_at n) (unmodified f n xs (λ x there. absurd (cc (none, there)))), none, is))
item_here P f n xs y (Some x) new there is =
    let same : f x ≡ y = cc (item_modified f n xs x there, is) in subst (P n) same (new x there)

items_by : {A : Type 0} (t : Bool) (P : ℕ → A → Type 0) (f : A → A) (n i : ℕ) (xs : List A) (y : A) → nat_eq n i ≡ t
    → ((k : ℕ) (x : A) → nat_eq n k ≡ false → item_at k xs ≡ Some x → P k x)
    → ((x : A) → item_at n xs ≡ Some x → P n (f x)) → item_at i (modify f n xs) ≡ Some y → P i y
items_by false P f n i xs y test all new is = all i y test (sym (other_item f n i xs test) ∙ is)
items_by true P f n i xs y test all new is =
    let same = eqb-true n i test in
    subst (λ k. P k y) same (item_here P f n xs y (item_at n xs) new refl
    (subst (λ k. item_at k (modify f n xs) ≡ Some y) (sym same) is))

-- what holds of each item of a changed list, if it holds of the changed one and of the others
pub items_modified : {A : Type 0} (P : ℕ → A → Type 0) (f : A → A) (n : ℕ) (xs : List A)
    → ((k : ℕ) (x : A) → nat_eq n k ≡ false → item_at k xs ≡ Some x → P k x)
    → ((x : A) → item_at n xs ≡ Some x → P n (f x)) → (i : ℕ) (y : A) → item_at i (modify f n xs) ≡ Some y → P i y
items_modified P f n xs all new i y is = items_by (nat_eq n i) P f n i xs y refl all new is

pub item_taken : {A : Type 0} (k i : ℕ) (xs : List A) (x : A) → item_at i (take k xs) ≡ Some x → item_at i xs ≡ Some x
item_taken zero i xs x is = absurd (cc)
item_taken (suc k) i [] x is = is
item_taken (suc k) zero (y ∷ xs) x is = is
item_taken (suc k) (suc i) (y ∷ xs) x is = item_taken k i xs x is

-- lists with the same items are the same
pub same_items : {A : Type 0} (xs ys : List A) → ((i : ℕ) → item_at i xs ≡ item_at i ys) → xs ≡ ys
same_items [] [] same = refl
same_items [] (y ∷ ys) same = absurd (cc (same 0))
same_items (x ∷ xs) [] same = absurd (cc (same 0))
same_items (x ∷ xs) (y ∷ ys) same =
    let first : x ≡ y = cc (same 0) in (λ i. first i ∷ same_items xs ys (λ k. same (suc k)) i)

either_of : (t u v : Bool) → cond t true (cond u true v) ≡ cond (cond t true u) true v
either_of true u v = refl
either_of false u v = refl

pub in_either : (ms ns : List ℕ) (k : ℕ) → is_one_of (ms ++ ns) k ≡ cond (is_one_of ms k) true (is_one_of ns k)
in_either [] ns k = refl
in_either (m ∷ ms) ns k =
    ap (λ t. cond (nat_eq m k) true t) (in_either ms ns k)
    ∙ either_of (nat_eq m k) (is_one_of ms k) (is_one_of ns k)

-- ---- one after another

pub each_both : {A : Type 0} (f : A → A) (ms ns : List ℕ) (xs : List A)
    → each f ns (each f ms xs) ≡ each f (ms ++ ns) xs
each_both f [] ns xs = refl
each_both f (m ∷ ms) ns xs = each_both f ms ns (modify f m xs)

pub each_more : {A : Type 0} (f : A → A) (ns : List ℕ) (n : ℕ) (xs : List A)
    → each f (ns ++ n ∷ []) xs ≡ modify f n (each f ns xs)
each_more f [] n xs = refl
each_more f (m ∷ ns) n xs = each_more f ns n (modify f m xs)

map_fixed : {A : Type 0} (f : A → A) (xs : List A) → ((i : ℕ) (x : A) → item_at i xs ≡ Some x → f x ≡ x)
    → xs ≡ map f xs
map_fixed f [] fixed = refl
map_fixed f (x ∷ xs) fixed =
    λ i. sym (fixed 0 x refl) i ∷ map_fixed f xs (λ k y is. fixed (suc k) y is) i

not_in : (t : Bool) (ns : List ℕ) (k : ℕ) → t ≡ false → is_one_of ns k ≡ false → cond t true (is_one_of ns k) ≡ false
not_in true ns k apart others = apart
not_in false ns k apart others = others

-- Where one change is as good as several, and changes nothing but items with these numbers, it changes each item.
pub each_maps : {A : Type 0} (f : A → A) (ns : List ℕ) (xs : List A) → ((x : A) → f (f x) ≡ f x)
    → ((i : ℕ) (x : A) → item_at i xs ≡ Some x → is_one_of ns i ≡ false → f x ≡ x) → each f ns xs ≡ map f xs
each_maps f [] xs twice fixed = map_fixed f xs (λ i x is. fixed i x is refl)
each_maps f (n ∷ ns) xs twice fixed =
    each_maps f ns (modify f n xs) twice
    (items_modified (λ i x. is_one_of ns i ≡ false → f x ≡ x) f n xs
    (λ k x apart is others. fixed k x is (not_in (nat_eq n k) ns k apart others)) (λ x is others. twice x))
    ∙ map_unmodified f f n xs (λ x is. twice x)

pub map_again : {A B C : Type 0} (g : B → C) (f : A → B) (h : A → C) (xs : List A) → ((x : A) → g (f x) ≡ h x)
    → map g (map f xs) ≡ map h xs
map_again g f h [] same = refl
map_again g f h (x ∷ xs) same = λ i. same x i ∷ map_again g f h xs same i

pub item_mapped : {A B : Type 0} (f : A → B) (i : ℕ) (xs : List A) → item_at i (map f xs) ≡ option_map f (item_at i xs)
item_mapped f i [] = refl
item_mapped f zero (x ∷ xs) = refl
item_mapped f (suc i) (x ∷ xs) = item_mapped f i xs
