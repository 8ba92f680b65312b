-- Where the bytes of an item are, and how many.
use Rattle.std.proofs.Common.{◌≡◌, ℕ, zero, suc, ◌+◌, ◌-◌, ◌/◌, ◌≤◌, List, [], ◌∷◌, ◌++◌, length, take, drop, sum}
use Rattle.std.proofs.Common.{pos, Some, slice_get, refl, ap, sym, ◌∙◌, arith, inl, inr, length-append}
use Rattle.std.proofs.Common.{take-append-drop, add-suc, suc-add, add-zero, zero-add}
use Rattle.std.proofs.lemmas.Bool.{cases_lt, lt-ltb, le-ltb}
use Rattle.std.proofs.lemmas.List.{drop_at, drop-drop}
use Rattle.std.proofs.lemmas.List.Sums.{sum_by-cons}
use Rattle.prefix_decoder.specs.Functions.{pfix}
use Rattle.prefix_decoder.specs.declared.function.Fun.TheVariants.{LoadConstant, AddConstant}
use Rattle.prefix_decoder.specs.Spelling.{natural_spelling, spelling}
use Rattle.module_builder.specs.declared.item.Item.{Item}
use Rattle.module_builder.specs.declared.item.Item.TheVariants.{Instruction, ConstantAddress}
use Rattle.module_builder.specs.Drafts.{Code}
use Rattle.module_builder.specs.Layouts.{offset, load_len, bytes_of, bytes_from, Fits, IsBoundary, IsLeast}
use Rattle.module_builder.specs.Layouts.{NowhereLonger}
use Rattle.module_builder.specs.Spelling.{constants_start, filled, address, spelled_item, spelled_from, spelled}
use Rattle.module_builder.specs.Spelling.{IsSpelledAt}
use Rattle.module_builder.proofs.Lengths.{natural_alone, natural_above, natural_rises}
use Rattle.module_builder.proofs.Growing.{offset-le-sum}

pub boundary : (lengths : List ℕ) (number : ℕ) → IsBoundary lengths (offset lengths number)
boundary lengths number = record {
  before = take number lengths;
  behind = drop number lengths;
  parts = sym (take-append-drop number lengths);
  bytes = refl;
}

same_both_ways : (a b : List ℕ) → NowhereLonger a b → NowhereLonger b a → a ≡ b
same_both_ways [] [] h k = refl
same_both_ways [] (y ∷ b) h k = absurd h
same_both_ways (x ∷ a) [] h k = absurd h
same_both_ways (x ∷ a) (y ∷ b) h k =
    let first : x ≡ y = omega (arith, h.0, k.0) in
    let rest : a ≡ b = same_both_ways a b h.1 k.1 in
    cc

pub one_least : (code : Code) (a b : List ℕ) → IsLeast code a → IsLeast code b → a ≡ b
one_least code a b h k = same_both_ways a b (h.least b k.fits) (k.least a h.fits)

-- ---- the address of a constant

-- three bytes more take a further prefix at most
natural_next : (more code n m : ℕ)
    → m ≤ n + 3
    → length (natural_spelling more code m) ≤ length (natural_spelling more code n) + 1
natural_next zero code n m h = omega arith
natural_next (suc more) code n m h =
    elim (cases_lt m 16) [
      | inl lt ↦ omega (arith, natural_alone (suc more) code m lt)
      | inr le ↦
          elim (cases_lt n 16) [
            | inl short ↦
                omega (
                  arith,
                  natural_above more code m le,
                  natural_alone (suc more) code n short,
                  natural_alone more pfix (m / 16) (omega arith),
                )
            | inr long ↦
                omega (
                  arith,
                  natural_above more code m le,
                  natural_above more code n long,
                  natural_next more pfix (n / 16) (m / 16) (omega arith),
                )
          ]
    ]

length-filled : (size : ℕ) (bytes : List ℕ)
    → length bytes ≤ size
    → size ≤ length bytes + 1
    → length (filled size bytes) ≡ size
length-filled size bytes h k =
    elim (cases_lt (length bytes) size) [
      | inl lt ↦ rw (lt-ltb (length bytes) size lt) (omega (arith, length-append bytes (spelling AddConstant (pos 0))))
      | inr le ↦ rw (le-ltb (length bytes) size le) (omega arith)
    ]

length-address : (lengths : List ℕ) (end c : ℕ)
    → end ≤ sum lengths
    → length (address lengths end c) ≡ load_len lengths end c + 2
length-address lengths end c h =
    let far = (sum lengths - end) + 3 + c in
    let near = (constants_start (sum lengths) + c) - end in
    let less : near ≤ far = omega arith in
    let close : far ≤ near + 3 = omega arith in
    let load = spelling LoadConstant (pos near) in
    length-append (filled (load_len lengths end c) load) _
    ∙ ap (λ (n : ℕ). n + 2)
    (length-filled (load_len lengths end c) load (natural_rises 7 4 near far less) (natural_next 7 4 near far close))

length-item : (code : Code) (lengths : List ℕ) (end : ℕ) (item : Item)
    → end ≤ sum lengths
    → length (spelled_item code lengths end item) ≡ bytes_of code lengths end item
length-item code lengths end (Instruction fun operand) h = refl
length-item code lengths end (ConstantAddress c) h = length-address lengths end c h

-- ---- an item's bytes in the code

spelled_after : (code : Code) (lengths : List ℕ) (k : ℕ) (items : List Item) (j : ℕ) (item : Item)
    → slice_get items j ≡ Some item
    → drop (sum (take j (bytes_from code lengths k items))) (spelled_from code lengths k items)
    ≡ spelled_item code lengths (offset lengths (suc (k + j))) item
    ++ spelled_from code lengths (suc (k + j)) (drop (suc j) items)
spelled_after code lengths k [] j item is = cc
spelled_after code lengths k (first ∷ items) zero item is =
    let same : first ≡ item = cc in
    rw (add-zero, same) refl
spelled_after code lengths k (first ∷ items) (suc j) item is =
    let bytes = spelled_item code lengths (offset lengths (suc k)) first in
    let rest = spelled_from code lengths (suc k) items in
    let before = sum (take j (bytes_from code lengths (suc k) items)) in
    let here : length bytes ≡ bytes_of code lengths (offset lengths (suc k)) first =
    length-item code lengths (offset lengths (suc k)) first (offset-le-sum lengths (suc k)) in
    let whole : sum (take (suc j) (bytes_from code lengths k (first ∷ items))) ≡ length bytes + before =
    sum_by-cons (λ (n : ℕ). n) (bytes_of code lengths (offset lengths (suc k)) first)
    (take j (bytes_from code lengths (suc k) items))
    ∙ ap (λ (n : ℕ). n + before) (sym here) in
    let skipped : drop (length bytes + before) (bytes ++ rest) ≡ drop before rest =
    sym (drop-drop before (length bytes) (bytes ++ rest))
    ∙ ap (λ (xs : List ℕ). drop before xs) (drop_at bytes rest (length bytes) refl) in
    rw (whole, skipped, add-suc) (rw suc-add at (spelled_after code lengths (suc k) items j item is))

length_at : (code : Code) (lengths : List ℕ) (k : ℕ) (items : List Item) (j : ℕ) (item : Item)
    → slice_get items j ≡ Some item
    → slice_get (bytes_from code lengths k items) j ≡ Some (bytes_of code lengths (offset lengths (suc (k + j))) item)
length_at code lengths k [] j item is = cc
length_at code lengths k (first ∷ items) zero item is =
    let same : first ≡ item = cc in
    rw (add-zero, same) refl
length_at code lengths k (first ∷ items) (suc j) item is =
    rw add-suc (rw suc-add at (length_at code lengths (suc k) items j item is))

pub spelled_at : (code : Code) (lengths : List ℕ) (number : ℕ) (item : Item)
    → Fits code lengths
    → slice_get code.items number ≡ Some item
    → IsSpelledAt code lengths number item
spelled_at code lengths number item fits is = record {
  rest = spelled_from code lengths (suc number) (drop (suc number) code.items);
  bytes =
      ap (λ (xs : List ℕ). drop (sum (take number xs)) (spelled code lengths)) fits.exact
      ∙ rw zero-add at (spelled_after code lengths 0 code.items number item is);
  len =
      ap (λ (xs : List ℕ). slice_get xs number) fits.exact
      ∙ rw zero-add at (length_at code lengths 0 code.items number item is)
      ∙ ap (λ (n : ℕ). Some n)
      (sym (length-item code lengths (offset lengths (suc number)) item (offset-le-sum lengths (suc number))));
}
