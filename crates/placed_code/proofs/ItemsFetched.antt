-- The instructions of an item are fetched where the item begins, one after the other.
use Rattle.std.proofs.Common.{◌≡◌, ℕ, zero, suc, ◌+◌, pos, List, [], ◌∷◌, ◌++◌, length, drop}
use Rattle.std.proofs.Common.{slice_get, Some, Ok, FitsSigned, refl, sym, ap, subst, ◌∙◌, inl, inr, arith, append_assoc}
use Rattle.std.proofs.Common.{append-nil, length-append, add-zero}
use Rattle.std.specs.Int.{w32}
use Rattle.std.specs.List.{AllByRecursion}
use Rattle.std.proofs.lemmas.Bool.{cases_lt, lt-ltb, le-ltb}
use Rattle.std.proofs.lemmas.List.{drop_at, drop-drop}
use Rattle.prefix_decoder.specs.declared.function.Fun.TheVariants as fun
use Rattle.prefix_decoder.specs.declared.decoding.Instr.{Instr}
use Rattle.prefix_decoder.specs.Spelling.{spelling}
use Rattle.prefix_decoder.specs.Fetching.{fetched}
use Rattle.prefix_decoder.proofs.Spellings.{IsSpelling-spelling}
use Rattle.prefix_decoder.proofs.Outcomes.{fetched-only}
use Rattle.module_builder.specs.declared.item.Item.{Item}
use Rattle.module_builder.specs.declared.item.Item.TheVariants as items
use Rattle.module_builder.specs.Drafts.{Code}
use Rattle.module_builder.specs.Layouts.{offset, value, load_len}
use Rattle.module_builder.specs.Spelling.{spelled, spelled_item, ldpi}
use Rattle.module_builder.proofs.Growing.{offset-cons}
use Rattle.module_builder.proofs.Places.{spelled_at}
use Rattle.placed_code.specs.Instructions.{distance_to, filling, instructions_of}
use Rattle.placed_code.specs.Instructions.{AreFetched, none, more, ItemsAreFetched}

-- ---- offsets

-- an item ends where the next one begins
pub offset_next : (lengths : List ℕ) (number len : ℕ) → slice_get lengths number ≡ Some len
    → offset lengths (suc number) ≡ offset lengths number + len
offset_next [] number len is = absurd (cc)
offset_next (x ∷ xs) zero len is =
    let same : x ≡ len = cc in
    offset-cons x xs zero ∙ omega (arith, same)
offset_next (x ∷ xs) (suc number) len is =
    let rest = offset_next xs number len is in
    let one = offset-cons x xs (suc number) in
    let two = offset-cons x xs number in
    omega (arith, rest, one, two)

-- ---- instructions that are spelled one after the other

-- the bytes of instructions
abbrev bytes_of : List Instr → List ℕ
bytes_of [] = []
bytes_of (i ∷ is) = spelling i.fun i.operand ++ bytes_of is

-- each is in its one spelling
abbrev AreSpelled : List Instr → Type 0
AreSpelled is = AllByRecursion (λ (i : Instr). i.len ≡ length (spelling i.fun i.operand)) is

abbrev AreWords : List Instr → Type 0
AreWords is = AllByRecursion (λ (i : Instr). FitsSigned w32 i.operand) is

spelled_fetched : (code : List ℕ) (at : ℕ) (is : List Instr) (rest : List ℕ) → AreSpelled is → AreWords is
    → drop at code ≡ bytes_of is ++ rest → AreFetched code at is (at + length (bytes_of is))
spelled_fetched code at [] rest spelled words there =
    subst (λ (n : ℕ). AreFetched code at [] n) (sym (add-zero at)) none
spelled_fetched code at (i ∷ is) rest spelled words there =
    let bytes = spelling i.fun i.operand in
    let here : drop at code ≡ bytes ++ (bytes_of is ++ rest) = there ∙ append_assoc bytes (bytes_of is) rest in
    let now : fetched code at ≡ Ok i =
    fetched-only code at i.fun i.operand bytes (bytes_of is ++ rest) (IsSpelling-spelling i.fun i.operand words.0)
    here
    ∙ ap (λ (n : ℕ). Ok (record { fun = i.fun; operand = i.operand; len = n })) (sym spelled.0) in
    let later : drop (at + i.len) code ≡ bytes_of is ++ rest =
    sym (drop-drop i.len at code) ∙ ap (λ (xs : List ℕ). drop i.len xs) here
    ∙ drop_at bytes (bytes_of is ++ rest) i.len (sym spelled.0) in
    let size : at + i.len + length (bytes_of is) ≡ at + length (bytes ++ bytes_of is) =
    (let n = length-append bytes (bytes_of is) in let m = spelled.0 in omega (arith, n, m)) in
    more now (subst (λ (n : ℕ). AreFetched code (at + i.len) is n) size
    (spelled_fetched code (at + i.len) is rest spelled.1 words.1 later))

-- ---- items

-- the spelling of an item is that of its instructions
item_bytes : (code : Code) (lengths : List ℕ) (end : ℕ) (item : Item)
    → bytes_of (instructions_of code lengths end item) ≡ spelled_item code lengths end item
item_bytes code lengths end (items.Instruction f o) = append-nil (spelling f (value code lengths end o))
item_bytes code lengths end (items.ConstantAddress n) =
    let load = spelling fun.LoadConstant (pos (distance_to lengths end n)) in
    elim (cases_lt (length load) (load_len lengths end n)) [
      | inl short ↦ rw (lt-ltb (length load) (load_len lengths end n) short)
          (rw append-nil (sym (append_assoc load (spelling fun.AddConstant (pos 0)) (spelling fun.Operate (pos ldpi)))))
      | inr long ↦ rw (le-ltb (length load) (load_len lengths end n) long) (rw append-nil refl)
    ]

filling_spelled : (size len : ℕ) (is : List Instr) → AreSpelled is → AreSpelled (filling size len ++ is)
filling_spelled size len is each =
    elim (cases_lt len size) [
      | inl short ↦ rw (lt-ltb len size short) (refl, each)
      | inr long ↦ rw (le-ltb len size long) each
    ]

item_spelled : (code : Code) (lengths : List ℕ) (end : ℕ) (item : Item)
    → AreSpelled (instructions_of code lengths end item)
item_spelled code lengths end (items.Instruction f o) = (refl, tt)
item_spelled code lengths end (items.ConstantAddress n) = (
  refl,
  filling_spelled (load_len lengths end n)
      (length (spelling fun.LoadConstant (pos (distance_to lengths end n)))) _ (refl, tt),
)

pub items_are_fetched : ItemsAreFetched
items_are_fetched code lengths number item fits is words =
    let end = offset lengths (suc number) in
    let there = spelled_at code lengths number item fits is in
    let all = instructions_of code lengths end item in
    let bytes : bytes_of all ≡ spelled_item code lengths end item = item_bytes code lengths end item in
    let size : offset lengths number + length (bytes_of all) ≡ end =
    (let n = offset_next lengths number (length (spelled_item code lengths end item)) there.len in
    let m = ap (λ (xs : List ℕ). length xs) bytes in omega (arith, n, m)) in
    subst (λ (n : ℕ). AreFetched (spelled code lengths) (offset lengths number) all n) size
    (spelled_fetched (spelled code lengths) (offset lengths number) all there.rest
    (item_spelled code lengths end item) words
    (there.bytes ∙ ap (λ (xs : List ℕ). xs ++ there.rest) (sym bytes)))
