-- The bytes of a draft's code, an item at a time.
use Rattle.std.proofs.Common.{◌≡◌, ℕ, suc, ◌+◌, ◌<◌, List, [], ◌∷◌, ◌++◌, length, take, get_or, refl, ap, sym}
use Rattle.std.proofs.Common.{arith, append_assoc, append-nil, add-suc, add-zero, suc-add, zero-add, add-one}
use Rattle.std.proofs.lemmas.List.{take_more, length-take-le}
use Rattle.module_builder.specs.declared.item.Item.{Item}
use Rattle.module_builder.specs.Drafts.{Code}
use Rattle.module_builder.specs.Layouts.{offset}
use Rattle.module_builder.specs.Spelling.{spelled_item, spelled_from}

-- one more item
pub spelled_push : (code : Code) (lengths : List ℕ) (number : ℕ) (items : List Item) (item : Item)
    → spelled_from code lengths number (items ++ item ∷ [])
    ≡ spelled_from code lengths number items
    ++ spelled_item code lengths (offset lengths (suc (number + length items))) item
spelled_push code lengths number [] item = rw (add-zero, append-nil) refl
spelled_push code lengths number (first ∷ items) item =
    let front = spelled_item code lengths (offset lengths (suc number)) first in
    rw (add-suc, append_assoc)
    (ap (λ (rest : List ℕ). front ++ rest) (rw suc-add at (spelled_push code lengths (suc number) items item)))

-- what a loop over the items has pushed
pub spelled_more : (code : Code) (lengths : List ℕ) (items : List Item) (i end : ℕ) (d : Item) (before after : List ℕ)
    → i < length items
    → end ≡ offset lengths (i + 1)
    → before ≡ spelled_from code lengths 0 (take i items)
    → after ≡ before ++ spelled_item code lengths end (get_or items i d)
    → after ≡ spelled_from code lengths 0 (take (i + 1) items)
spelled_more code lengths items i end d before after within end-is was is =
    let item = get_or items i d in
    let front : length (take i items) ≡ i = length-take-le i items (omega arith) in
    let pushed : spelled_from code lengths 0 (take i items ++ item ∷ [])
    ≡ spelled_from code lengths 0 (take i items) ++ spelled_item code lengths (offset lengths (i + 1)) item =
    rw (front, zero-add, ← add-one) at (spelled_push code lengths 0 (take i items) item) in
    rw (is, was, end-is, take_more items i d within) (sym pushed)
