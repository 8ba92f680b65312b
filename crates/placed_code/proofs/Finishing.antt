-- A laid module finishes at the end of its code.
use Rattle.std.proofs.Common.{◌≡◌, ℕ, suc, ◌+◌, List, [], ◌∷◌, ◌++◌, length, drop, Option, Some, None, get_or}
use Rattle.std.proofs.Common.{refl, sym, ap, ◌∙◌, arith, add-suc, suc-add, add-zero, zero-add}
use Rattle.std.specs.Prelude.{sum, map, option_map, unwrap_or}
use Rattle.std.proofs.lemmas.List.{take_all, get_or-append-add, get_or-map, length-append}
use Rattle.module_builder.specs.declared.item.Item.{Item}
use Rattle.module_builder.specs.Drafts.{Code}
use Rattle.module_builder.specs.Layouts.{offset, Fits}
use Rattle.module_builder.specs.Spelling.{spelled, spelled_from, spelled_item}
use Rattle.module_builder.proofs.Growing.{length-bytes_from}
use Rattle.module_builder.proofs.Places.{spelled_at}
use Rattle.code_pieces.specs.Numbers.{Numbered}
use Rattle.code_pieces.specs.Laying.{places_of, placed_from, draft_code}
use Rattle.placed_code.specs.Closing.{LaidModulesFinish}
use Rattle.placed_code.proofs.ItemsFetched.{offset_next}
use Rattle.placed_code.proofs.PiecesLie.{get_from_drop, drop_next, length-places}

module _ (code : Code) (lengths : List ℕ) (fits : Fits code lengths) where
  -- the bytes of the last items are those between where they begin and the end of the layout
  length-spelled_from : (number : ℕ) (items : List Item) → drop number code.items ≡ items
      → offset lengths number + length (spelled_from code lengths number items)
      ≡ offset lengths (number + length items)
  length-spelled_from number [] is =
      add-zero (offset lengths number) ∙ ap (λ (n : ℕ). offset lengths n) (sym (add-zero number))
  length-spelled_from number (item ∷ items) is =
      let bytes = spelled_item code lengths (offset lengths (suc number)) item in
      let there = spelled_at code lengths number item fits (get_from_drop code.items number item items is) in
      let next = offset_next lengths number (length bytes) there.len in
      let both = length-append bytes (spelled_from code lengths (suc number) items) in
      let rest = length-spelled_from (suc number) items (drop_next code.items number item items is) in
      rw (add-suc, ← suc-add) (omega (arith, next, both) ∙ rest)

  -- the code is as long as its layout
  pub length-spelled : length (spelled code lengths) ≡ offset lengths (length code.items)
  length-spelled =
      sym (zero-add (length (spelled code lengths))) ∙ length-spelled_from 0 code.items refl
      ∙ ap (λ (n : ℕ). offset lengths n) (zero-add (length code.items))

  -- of which every item has a length
  pub all-offset : offset lengths (length code.items) ≡ sum lengths
  all-offset =
      let count = ap (λ (xs : List ℕ). length xs) fits.exact ∙ length-bytes_from code lengths 0 code.items in
      ap (λ (xs : List ℕ). sum xs) (take_all (length code.items) lengths (omega (arith, count)))

-- the offset of a label that is made after others
last_offset : (n : ℕ) (placed : List Numbered) (lengths : List ℕ) (count : ℕ)
    → unwrap_or (get_or (map (option_map (offset lengths)) (places_of n placed ++ Some count ∷ [])) n None) 0
    ≡ offset lengths count
last_offset n placed lengths count =
    let before = places_of n placed in
    let size = length-places n placed in
    let all = length-append before (Some count ∷ []) in
    let there = get_or-append-add before (Some count ∷ []) 0 None in
    ap (λ (o : Option ℕ). unwrap_or o 0)
    (get_or-map (option_map (offset lengths)) (before ++ Some count ∷ []) n None None (omega (arith, size, all))
    ∙ ap (λ (o : Option ℕ). option_map (offset lengths) o)
    (ap (λ (k : ℕ). get_or (before ++ Some count ∷ []) k None) (omega (arith, size)) ∙ there))

pub laid_modules_finish : LaidModulesFinish
laid_modules_finish ps labels links bytes says =
    let lengths = says.arrangement.lengths in
    let code = draft_code ps labels in
    last_offset labels (placed_from 0 ps) lengths (length code.items)
    ∙ sym (length-spelled code lengths says.arranged.least.fits)
