-- Lengths of all items from those of references.
use Rattle.std.proofs.Common.{◌≡◌, ℕ, zero, suc, ◌+◌, ◌<◌, ◌≤◌, List, [], ◌∷◌, ◌++◌, length, take, drop, map, sum}
use Rattle.std.proofs.Common.{replicate, get_or, refl, ap, sym, ◌∙◌, subst, arith, append_assoc, append-nil}
use Rattle.std.proofs.Common.{add-suc, add-zero, suc-add, zero-add, add-one}
use Rattle.std.specs.List.{AllByRecursion}
use Rattle.std.proofs.lemmas.List.{take_all, take_more, length-take-le, map-append}
use Rattle.std.proofs.lemmas.List.Elements.{recursion_from_All}
use Rattle.std.proofs.lemmas.List.Sums.{sum_by-cons}
use Rattle.prefix_decoder.specs.Functions.{code_of}
use Rattle.module_builder.specs.declared.item.Operand.TheVariants.{Number, DistanceTo, Between}
use Rattle.module_builder.specs.declared.item.Item.{Item}
use Rattle.module_builder.specs.declared.item.Item.TheVariants.{Instruction, ConstantAddress}
use Rattle.module_builder.specs.declared.plan.Reference.{Reference}
use Rattle.module_builder.specs.Drafts.{Code, IsPlaced, OfItem, IsComplete}
use Rattle.module_builder.specs.Layouts.{offset, bytes_of, bytes_from, NowhereLonger}
use Rattle.module_builder.specs.References.{fixed_len, reference_count, references_from, expand, expanded}
use Rattle.module_builder.specs.References.{reference_bytes}
use Rattle.module_builder.proofs.Lengths.{spelling_one}
use Rattle.module_builder.proofs.RowLaws.{all_at}
use Rattle.module_builder.proofs.Growing.{IsPositive, offset-nil, offset-cons, item_positive}

-- ---- sums

offset-add : (xs : List ℕ) (m n : ℕ) → offset xs (m + n) ≡ offset xs m + offset (drop m xs) n
offset-add [] zero n = omega (arith, offset-nil (0 + n), offset-nil n)
offset-add [] (suc m) n = omega (arith, offset-nil (suc m + n), offset-nil n)
offset-add (x ∷ xs) zero n = rw zero-add (sym (zero-add (offset (x ∷ xs) n)))
offset-add (x ∷ xs) (suc m) n =
    rw suc-add (omega (arith, offset-cons x xs (m + n), offset-cons x xs m, offset-add xs m n))

pub offset-all : (xs : List ℕ) (n : ℕ) → length xs ≡ n → offset xs n ≡ sum xs
offset-all xs n same = ap sum (take_all n xs (omega arith))

pub length-expand : (fixed counts sizes : List ℕ)
    → length fixed ≡ length counts
    → length (expand fixed counts sizes) ≡ length fixed
length-expand [] counts sizes same = refl
length-expand (len ∷ fixed) [] sizes same = absurd (omega arith)
length-expand (len ∷ fixed) (count ∷ counts) sizes same =
    ap (λ (n : ℕ). suc n) (length-expand fixed counts (drop count sizes) (omega arith))

-- where an item begins: after the items before it that cannot grow, and after the references before it
pub offset-expand : (fixed counts sizes : List ℕ) (k : ℕ)
    → length fixed ≡ length counts
    → offset (expand fixed counts sizes) k ≡ offset fixed k + offset sizes (offset counts k)
offset-expand [] [] sizes k same = rw offset-nil refl
offset-expand [] (count ∷ counts) sizes k same = absurd (omega arith)
offset-expand (len ∷ fixed) [] sizes k same = absurd (omega arith)
offset-expand (len ∷ fixed) (count ∷ counts) sizes zero same = refl
offset-expand (len ∷ fixed) (count ∷ counts) sizes (suc k) same =
    let rest = drop count sizes in
    omega (
      arith,
      offset-cons (len + sum (take count sizes)) (expand fixed counts rest) k,
      offset-cons len fixed k,
      ap (λ (n : ℕ). offset sizes n) (offset-cons count counts k),
      offset-add sizes count (offset counts k),
      offset-expand fixed counts rest k (omega arith),
    )

pub sum-expand : (fixed counts sizes : List ℕ)
    → length fixed ≡ length counts
    → length sizes ≡ sum counts
    → sum (expand fixed counts sizes) ≡ sum fixed + sum sizes
sum-expand fixed counts sizes same each =
    let n = length fixed in
    omega (
      arith,
      offset-all (expand fixed counts sizes) n (length-expand fixed counts sizes same),
      offset-expand fixed counts sizes n same,
      offset-all fixed n refl,
      ap (λ (k : ℕ). offset sizes k) (offset-all counts n (sym same)),
      offset-all sizes (sum counts) each,
    )

-- ---- references

pub count_references : (number : ℕ) (items : List Item)
    → length (references_from number items) ≡ sum (map reference_count items)
count_references number [] = refl
count_references number (Instruction fun (Number n) ∷ items) =
    omega (arith, sum_by-cons (λ (n : ℕ). n) 0 (map reference_count items), count_references (suc number) items)
count_references number (Instruction fun (DistanceTo label) ∷ items) =
    omega (arith, sum_by-cons (λ (n : ℕ). n) 1 (map reference_count items), count_references (suc number) items)
count_references number (Instruction fun (Between from to) ∷ items) =
    omega (arith, sum_by-cons (λ (n : ℕ). n) 1 (map reference_count items), count_references (suc number) items)
count_references number (ConstantAddress c ∷ items) =
    omega (arith, sum_by-cons (λ (n : ℕ). n) 1 (map reference_count items), count_references (suc number) items)

alone : (x : ℕ) → 0 + sum (x ∷ []) ≡ x
alone x = omega (arith, sum_by-cons (λ (n : ℕ). n) x [])

-- what items take follows from what references take
pub needed_expands : (code : Code) (lengths : List ℕ) (number : ℕ) (items : List Item)
    → bytes_from code lengths number items
    ≡ expanded items (map (reference_bytes code lengths) (references_from number items))
needed_expands code lengths number [] = refl
needed_expands code lengths number (Instruction fun (Number n) ∷ items) =
    cc (needed_expands code lengths (suc number) items, add-zero (fixed_len (Instruction fun (Number n))))
needed_expands code lengths number (Instruction fun (DistanceTo label) ∷ items) =
    let item = Instruction fun (DistanceTo label) in
    let bytes = bytes_of code lengths (offset lengths (suc number)) item in
    cc (needed_expands code lengths (suc number) items, alone bytes)
needed_expands code lengths number (Instruction fun (Between from to) ∷ items) =
    let item = Instruction fun (Between from to) in
    let bytes = bytes_of code lengths (offset lengths (suc number)) item in
    cc (needed_expands code lengths (suc number) items, alone bytes)
needed_expands code lengths number (ConstantAddress c ∷ items) =
    let item = ConstantAddress c in
    let bytes = bytes_of code lengths (offset lengths (suc number)) item in
    cc (needed_expands code lengths (suc number) items, alone bytes)

-- ---- the least lengths that there can be

-- where references take one byte
pub ones_below : (code : Code) (others : List ℕ) (number : ℕ) (items : List Item)
    → NowhereLonger (expanded items (replicate (length (references_from number items)) 1))
    (bytes_from code others number items)
ones_below code others number [] = tt
ones_below code others number (Instruction fun (Number n) ∷ items) =
    (omega arith, ones_below code others (suc number) items)
ones_below code others number (Instruction fun (DistanceTo label) ∷ items) = (
  omega (arith, alone 1, item_positive code others (offset others (suc number)) (Instruction fun (DistanceTo label))),
  ones_below code others (suc number) items,
)
ones_below code others number (Instruction fun (Between from to) ∷ items) = (
  omega (arith, alone 1, item_positive code others (offset others (suc number)) (Instruction fun (Between from to))),
  ones_below code others (suc number) items,
)
ones_below code others number (ConstantAddress c ∷ items) = (
  omega (arith, alone 1, item_positive code others (offset others (suc number)) (ConstantAddress c)),
  ones_below code others (suc number) items,
)

pub ones_positive : (number : ℕ) (items : List Item)
    → IsPositive (expanded items (replicate (length (references_from number items)) 1))
ones_positive number [] = tt
ones_positive number (Instruction fun (Number n) ∷ items) =
    (omega (arith, spelling_one (code_of fun) n), ones_positive (suc number) items)
ones_positive number (Instruction fun (DistanceTo label) ∷ items) =
    (omega (arith, alone 1), ones_positive (suc number) items)
ones_positive number (Instruction fun (Between from to) ∷ items) =
    (omega (arith, alone 1), ones_positive (suc number) items)
ones_positive number (ConstantAddress c ∷ items) = (omega (arith, alone 1), ones_positive (suc number) items)

-- ---- loops over references

references_push : (number : ℕ) (items : List Item) (item : Item)
    → references_from number (items ++ item ∷ [])
    ≡ references_from number items
    ++ take (reference_count item) (record { next = suc (number + length items); item = item } ∷ [])
references_push number [] item = rw (add-zero, append-nil) refl
references_push number (first ∷ items) item =
    let front : List Reference = take (reference_count first) (record { next = suc number; item = first } ∷ []) in
    rw (add-suc, append_assoc)
    (ap (λ (rest : List Reference). front ++ rest) (rw suc-add at (references_push (suc number) items item)))

-- what a loop over the items has pushed
pub references_more : (items : List Item) (i : ℕ) (d : Item) (before after : List Reference)
    → i < length items
    → before ≡ references_from 0 (take i items)
    → after
    ≡ before ++ take (reference_count (get_or items i d)) (record { next = i + 1; item = get_or items i d } ∷ [])
    → after ≡ references_from 0 (take (i + 1) items)
references_more items i d before after within was is =
    let item = get_or items i d in
    let front : length (take i items) ≡ i = length-take-le i items (omega arith) in
    let pushed : references_from 0 (take i items ++ item ∷ [])
    ≡ references_from 0 (take i items) ++ take (reference_count item) (record { next = i + 1; item = item } ∷ []) =
    rw (front, zero-add, ← add-one) at (references_push 0 (take i items) item) in
    rw (is, was, take_more items i d within) (sym pushed)

-- a reference is an item
pub record IsAmong (P : Item → Type 0) (count : ℕ) (r : Reference) : Type 0 where
  pub within : r.next ≤ count
  pub holds : P r.item

pub all_among : (P : Item → Type 0) (count number : ℕ) (items : List Item)
    → number + length items ≤ count
    → AllByRecursion P items
    → AllByRecursion (IsAmong P count) (references_from number items)
all_among P count number [] h all = tt
all_among P count number (Instruction fun (Number n) ∷ items) h all =
    all_among P count (suc number) items (omega arith) all.1
all_among P count number (Instruction fun (DistanceTo label) ∷ items) h all =
    (record { within = omega arith; holds = all.0 }, all_among P count (suc number) items (omega arith) all.1)
all_among P count number (Instruction fun (Between from to) ∷ items) h all =
    (record { within = omega arith; holds = all.0 }, all_among P count (suc number) items (omega arith) all.1)
all_among P count number (ConstantAddress c ∷ items) h all =
    (record { within = omega arith; holds = all.0 }, all_among P count (suc number) items (omega arith) all.1)

pub reference_at : (code : Code) (references : List Reference) (i : ℕ) (d : Reference)
    → IsComplete code
    → references ≡ references_from 0 code.items
    → i < length references
    → IsAmong (OfItem (IsPlaced code)) (length code.items) (get_or references i d)
reference_at code references i d complete are within =
    let P = OfItem (IsPlaced code) in
    let each : AllByRecursion P code.items = recursion_from_All P code.items complete in
    all_at (IsAmong P (length code.items)) references i d within
    (subst (AllByRecursion (IsAmong P (length code.items))) (sym are)
    (all_among P (length code.items) 0 code.items (omega arith) each))

-- what a loop over references has pushed
pub needed_more_references : (code : Code) (lengths : List ℕ) (references : List Reference) (i end bytes : ℕ)
    (d : Reference) (before after : List ℕ)
    → i < length references
    → end ≡ offset lengths (get_or references i d).next
    → bytes ≡ bytes_of code lengths end (get_or references i d).item
    → before ≡ map (reference_bytes code lengths) (take i references)
    → after ≡ before ++ bytes ∷ []
    → after ≡ map (reference_bytes code lengths) (take (i + 1) references)
needed_more_references code lengths references i end bytes d before after within end-is bytes-are was is =
    let here : bytes ≡ reference_bytes code lengths (get_or references i d) =
    bytes-are ∙ ap (λ (n : ℕ). bytes_of code lengths n (get_or references i d).item) end-is in
    rw (take_more references i d within, map-append, is, was, here) refl

-- an item that is a reference is taken, and no other
pub reference_taken : (next : ℕ) (item : Item) (before after : List Reference)
    → 0 < reference_count item
    → after ≡ before ++ record { next = next; item = item } ∷ []
    → after ≡ before ++ take (reference_count item) (record { next = next; item = item } ∷ [])
reference_taken next (Instruction fun (Number n)) before after h is = absurd (omega arith)
reference_taken next (Instruction fun (DistanceTo label)) before after h is = is
reference_taken next (Instruction fun (Between from to)) before after h is = is
reference_taken next (ConstantAddress c) before after h is = is

pub no_reference : (next : ℕ) (item : Item) (before after : List Reference)
    → reference_count item ≤ 0
    → after ≡ before
    → after ≡ before ++ take (reference_count item) (record { next = next; item = item } ∷ [])
no_reference next (Instruction fun (Number n)) before after h is = is ∙ sym (append-nil before)
no_reference next (Instruction fun (DistanceTo label)) before after h is = absurd (omega arith)
no_reference next (Instruction fun (Between from to)) before after h is = absurd (omega arith)
no_reference next (ConstantAddress c) before after h is = absurd (omega arith)
