-- Lengths that grow nowhere shorten a distance, and so no item.
use Rattle.std.proofs.Common.{◌≡◌, ℕ, zero, suc, ◌+◌, ◌-◌, ◌<◌, ◌≤◌, ◌⊎◌, List, [], ◌∷◌, ◌++◌, length, take, sum, pos}
use Rattle.std.proofs.Common.{◌-ℤ◌, refl, ap, sym, ◌∙◌, arith, inl, inr, unwrap_or, add-suc, add-zero, suc-add}
use Rattle.std.proofs.Common.{zero-add, add-one, get_or}
use Rattle.std.specs.Prelude.{⊤}
use Rattle.std.proofs.lemmas.Bool.{cases_lt}
use Rattle.std.proofs.lemmas.List.{take_all, take_more, length-take-le}
use Rattle.std.proofs.lemmas.List.Sums.{sum_by-cons, sum_by-take-le}
use Rattle.std.proofs.lemmas.List.Elements.{length_all_zip}
use Rattle.prefix_decoder.specs.Functions.{code_of}
use Rattle.prefix_decoder.specs.Spelling.{code_spelling}
use Rattle.module_builder.specs.declared.item.Operand.TheVariants.{Number, DistanceTo, Between}
use Rattle.module_builder.specs.declared.item.Item.{Item}
use Rattle.module_builder.specs.declared.item.Item.TheVariants.{Instruction, ConstantAddress}
use Rattle.module_builder.specs.Drafts.{Code, target}
use Rattle.module_builder.specs.Layouts.{offset, value, bytes_of, bytes_from, NowhereLonger}
use Rattle.module_builder.proofs.Lengths.{natural_rises, spelling_one, forward_rises, backward_rises}

-- each item takes a byte at least
abbrev pub IsPositive : List ℕ → Type 0
IsPositive [] = ⊤
IsPositive (x ∷ xs) = (1 ≤ x) × IsPositive xs

-- ---- where items begin

pub offset-nil : (k : ℕ) → offset [] k ≡ 0
offset-nil zero = refl
offset-nil (suc k) = refl

pub offset-cons : (x : ℕ) (xs : List ℕ) (k : ℕ) → offset (x ∷ xs) (suc k) ≡ x + offset xs k
offset-cons x xs k = sum_by-cons (λ (n : ℕ). n) x (take k xs)

pub offset-le-sum : (xs : List ℕ) (k : ℕ) → offset xs k ≤ sum xs
offset-le-sum xs k = sum_by-take-le (λ (n : ℕ). n) xs k

pub offset_rises : (xs : List ℕ) (s t : ℕ) → s ≤ t → offset xs s ≤ offset xs t
offset_rises [] s t h = omega (arith, offset-nil s, offset-nil t)
offset_rises (x ∷ xs) zero t h = omega arith
offset_rises (x ∷ xs) (suc s) zero h = absurd (omega arith)
offset_rises (x ∷ xs) (suc s) (suc t) h =
    omega (arith, offset-cons x xs s, offset-cons x xs t, offset_rises xs s t (omega arith))

-- from one item to a later one it is no less far
pub gap_rises : (a b : List ℕ) → NowhereLonger a b → (s t : ℕ) → s ≤ t
    → offset a t + offset b s ≤ offset b t + offset a s
gap_rises [] [] h s t le = omega (arith, offset-nil s, offset-nil t)
gap_rises [] (y ∷ b) h s t le = absurd h
gap_rises (x ∷ a) [] h s t le = absurd h
gap_rises (x ∷ a) (y ∷ b) h zero zero le = omega arith
gap_rises (x ∷ a) (y ∷ b) h zero (suc t) le =
    omega (arith, offset-cons x a t, offset-cons y b t, gap_rises a b h.1 0 t (omega arith), h.0)
gap_rises (x ∷ a) (y ∷ b) h (suc s) zero le = absurd (omega arith)
gap_rises (x ∷ a) (y ∷ b) h (suc s) (suc t) le =
    omega (
      arith,
      offset-cons x a t,
      offset-cons y b t,
      offset-cons x a s,
      offset-cons y b s,
      gap_rises a b h.1 s t (omega arith),
    )

-- from an item to the code's end it is no less far
pub rest_rises : (a b : List ℕ) → NowhereLonger a b → (s : ℕ) → sum a + offset b s ≤ sum b + offset a s
rest_rises a b h s =
    let same : length a ≡ length b = length_all_zip (λ (x y : ℕ). x ≤ y) a b h in
    let all_a : offset a (s + length a) ≡ sum a = ap sum (take_all (s + length a) a (omega arith)) in
    let all_b : offset b (s + length a) ≡ sum b = ap sum (take_all (s + length a) b (omega arith)) in
    omega (arith, gap_rises a b h s (s + length a) (omega arith))

-- an item is before a later one in both, or both are the code's end in both
pub apart : (a b : List ℕ)
    → NowhereLonger a b
    → IsPositive a
    → IsPositive b
    → (t s : ℕ)
    → t < s
    → ((offset a t ≡ offset a s) × (offset b t ≡ offset b s)) ⊎ ((offset a t < offset a s) × (offset b t < offset b s))
apart [] [] h p q t s lt = inl (offset-nil t ∙ sym (offset-nil s), offset-nil t ∙ sym (offset-nil s))
apart [] (y ∷ b) h p q t s lt = absurd h
apart (x ∷ a) [] h p q t s lt = absurd h
apart (x ∷ a) (y ∷ b) h p q t zero lt = absurd (omega arith)
apart (x ∷ a) (y ∷ b) h p q zero (suc s) lt =
    inr (omega (arith, offset-cons x a s, p.0), omega (arith, offset-cons y b s, q.0))
apart (x ∷ a) (y ∷ b) h p q (suc t) (suc s) lt =
    elim (apart a b h.1 p.1 q.1 t s (omega arith)) [
      | inl same ↦
          inl (
            offset-cons x a t ∙ ap (λ (n : ℕ). x + n) same.0 ∙ sym (offset-cons x a s),
            offset-cons y b t ∙ ap (λ (n : ℕ). y + n) same.1 ∙ sym (offset-cons y b s),
          )
      | inr less ↦
          inr (
            omega (arith, offset-cons x a t, offset-cons x a s, less.0),
            omega (arith, offset-cons y b t, offset-cons y b s, less.1),
          )
    ]

-- ---- items

-- a distance between two items takes no fewer bytes
pub distance_rises : (code : ℕ) (a b : List ℕ)
    → NowhereLonger a b
    → IsPositive a
    → IsPositive b
    → (s t : ℕ)
    → length (code_spelling code (pos (offset a t) -ℤ pos (offset a s)))
    ≤ length (code_spelling code (pos (offset b t) -ℤ pos (offset b s)))
distance_rises code a b h p q s t =
    elim (cases_lt t s) [
      | inl lt ↦
          elim (apart a b h p q t s lt) [
            | inl same ↦
                forward_rises code (offset a t) (offset a s) (offset b t) (offset b s) (omega (arith, same.0))
                (omega (arith, same.1)) (omega (arith, same.0, same.1))
            | inr less ↦
                backward_rises code (offset a t) (offset a s) (offset b t) (offset b s) less.0 less.1
                (gap_rises a b h t s (omega arith))
          ]
      | inr le ↦
          forward_rises code (offset a t) (offset a s) (offset b t) (offset b s) (offset_rises a s t le)
          (offset_rises b s t le) (gap_rises a b h s t le)
    ]

pub item_rises : (code : Code) (a b : List ℕ)
    → NowhereLonger a b
    → IsPositive a
    → IsPositive b
    → (number : ℕ) (item : Item)
    → bytes_of code a (offset a (suc number)) item ≤ bytes_of code b (offset b (suc number)) item
item_rises code a b h p q number (Instruction fun (Number n)) = omega arith
item_rises code a b h p q number (Instruction fun (DistanceTo label)) =
    distance_rises (code_of fun) a b h p q (suc number) (unwrap_or (target code label) 0)
item_rises code a b h p q number (Instruction fun (Between from to)) =
    distance_rises (code_of fun) a b h p q (unwrap_or (target code from) 0) (unwrap_or (target code to) 0)
item_rises code a b h p q number (ConstantAddress c) =
    let longer : (sum a - offset a (suc number)) + 3 + c ≤ (sum b - offset b (suc number)) + 3 + c =
    omega (arith, rest_rises a b h (suc number), offset-le-sum b (suc number)) in
    omega (
      arith,
      natural_rises 7 4 ((sum a - offset a (suc number)) + 3 + c) ((sum b - offset b (suc number)) + 3 + c) longer,
    )

pub bytes_rise : (code : Code) (a b : List ℕ)
    → NowhereLonger a b
    → IsPositive a
    → IsPositive b
    → (number : ℕ) (items : List Item)
    → NowhereLonger (bytes_from code a number items) (bytes_from code b number items)
bytes_rise code a b h p q number [] = tt
bytes_rise code a b h p q number (item ∷ items) =
    (item_rises code a b h p q number item, bytes_rise code a b h p q (suc number) items)

pub item_positive : (code : Code) (lengths : List ℕ) (end : ℕ) (item : Item) → 1 ≤ bytes_of code lengths end item
item_positive code lengths end (Instruction fun operand) = spelling_one (code_of fun) (value code lengths end operand)
item_positive code lengths end (ConstantAddress c) = omega arith

pub bytes_positive : (code : Code) (lengths : List ℕ) (number : ℕ) (items : List Item)
    → IsPositive (bytes_from code lengths number items)
bytes_positive code lengths number [] = tt
bytes_positive code lengths number (item ∷ items) =
    (item_positive code lengths (offset lengths (suc number)) item, bytes_positive code lengths (suc number) items)

pub length-bytes_from : (code : Code) (lengths : List ℕ) (number : ℕ) (items : List Item)
    → length (bytes_from code lengths number items) ≡ length items
length-bytes_from code lengths number [] = refl
length-bytes_from code lengths number (item ∷ items) =
    ap (λ (n : ℕ). suc n) (length-bytes_from code lengths (suc number) items)

-- one more item
pub bytes_push : (code : Code) (lengths : List ℕ) (number : ℕ) (items : List Item) (item : Item)
    → bytes_from code lengths number (items ++ item ∷ [])
    ≡ bytes_from code lengths number items
    ++ bytes_of code lengths (offset lengths (suc (number + length items))) item ∷ []
bytes_push code lengths number [] item = rw add-zero refl
bytes_push code lengths number (first ∷ items) item =
    rw add-suc
    (ap (λ (rest : List ℕ). bytes_of code lengths (offset lengths (suc number)) first ∷ rest)
    (rw suc-add at (bytes_push code lengths (suc number) items item)))

-- what a loop over the items has pushed
pub needed_more : (code : Code) (lengths : List ℕ) (items : List Item) (i end bytes : ℕ) (d : Item)
    (before after : List ℕ)
    → i < length items
    → end ≡ offset lengths (i + 1)
    → bytes ≡ bytes_of code lengths end (get_or items i d)
    → before ≡ bytes_from code lengths 0 (take i items)
    → after ≡ before ++ bytes ∷ []
    → after ≡ bytes_from code lengths 0 (take (i + 1) items)
needed_more code lengths items i end bytes d before after within end-is bytes-are was is =
    let item = get_or items i d in
    let front : length (take i items) ≡ i = length-take-le i items (omega arith) in
    let pushed : bytes_from code lengths 0 (take i items ++ item ∷ [])
    ≡ bytes_from code lengths 0 (take i items) ++ bytes_of code lengths (offset lengths (i + 1)) item ∷ [] =
    rw (front, zero-add, ← add-one) at (bytes_push code lengths 0 (take i items) item) in
    rw (is, was, bytes-are, end-is, take_more items i d within) (sym pushed)
