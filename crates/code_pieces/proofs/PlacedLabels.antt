-- Labels that are placed while code is written, and the places that they have in the end.
use Rattle.std.proofs.Common.{◌≡◌, ◌<◌, ◌≤◌, ℕ, zero, suc, ◌+◌, Bool, List, [], ◌∷◌, ◌++◌, length, take}
use Rattle.std.proofs.Common.{replicate, get_or, set, Option, Some, None, refl, sym, ap, ◌∙◌, arith, subst, inl, inr}
use Rattle.std.specs.Prelude.{ℤ, unwrap_or, IsSome, if◌then◌else◌}
use Rattle.std.proofs.lemmas.List.{get_or-set_same, get_or-set_other, take_more, take_all}
use Rattle.std.proofs.lemmas.List.{take-set, get_or-replicate, get_or_past, length-replicate, length-set}
use Rattle.std.proofs.lemmas.Bool.{cases_lt}
use Rattle.std.proofs.lemmas.Bool.Decides.{eqb_tells}
use Rattle.module_builder.specs.Drafts.{Code}
use Rattle.module_builder.specs.declared.item.Item.{Item}
use Rattle.code_pieces.specs.Pieces.{Piece, Place}
use Rattle.code_pieces.specs.Numbers.{Numbered, number_at, with_number}
use Rattle.code_pieces.specs.Laying.{placed_from, places_of, items_of, tables_before, draft_code}
use Rattle.code_pieces.specs.Placing.{IsPlacing}

abbrev At : List (Option ℕ) → List Numbered → ℕ → ℕ
At targets left k = unwrap_or (get_or targets k None) (number_at k left)

-- ---- labels

-- the label was placed before
stays : (targets : List (Option ℕ)) (l at n : ℕ) (left : List Numbered) → get_or targets l None ≡ Some at
    → (k : ℕ) → At targets left k ≡ At targets (with_number l n left) k
stays targets l at n left there k =
    elim (eqb_tells l k) [
      | inl same ↦
          let found : get_or targets k None ≡ Some at =
          subst (λ (j : ℕ). get_or targets j None ≡ Some at) same.1 there in
          ap (λ (o : Option ℕ). unwrap_or o (number_at k left)) found
          ∙ sym (ap (λ (o : Option ℕ). unwrap_or o (number_at k (with_number l n left))) found)
      | inr other ↦
          sym (ap (λ (b : Bool). unwrap_or (get_or targets k None) (if b then n else number_at k left)) other.0)
    ]

-- it is placed now
comes : (targets : List (Option ℕ)) (l n : ℕ) (left : List Numbered) → l < length targets
    → get_or targets l None ≡ None → (k : ℕ)
    → At (set targets l (Some n)) left k ≡ At targets (with_number l n left) k
comes targets l n left made free k =
    elim (eqb_tells l k) [
      | inl same ↦
          let here : get_or (set targets l (Some n)) k None ≡ Some n =
          subst (λ (j : ℕ). get_or (set targets l (Some n)) j None ≡ Some n) same.1
          (get_or-set_same targets l (Some n) None made) in
          let none : get_or targets k None ≡ None = subst (λ (j : ℕ). get_or targets j None ≡ None) same.1 free in
          ap (λ (o : Option ℕ). unwrap_or o (number_at k left)) here
          ∙ sym (ap (λ (o : Option ℕ). unwrap_or o (number_at k (with_number l n left))) none
          ∙ ap (λ (b : Bool). if b then n else number_at k left) same.0)
      | inr other ↦
          ap (λ (o : Option ℕ). unwrap_or o (number_at k left))
          (get_or-set_other targets l k (Some n) None (λ e. other.1 (sym e)))
          ∙ sym (ap (λ (b : Bool). unwrap_or (get_or targets k None) (if b then n else number_at k left)) other.0)
    ]

pub placed_before : (code : Code) (l at : ℕ) (left : List Piece) (placed : List Numbered)
    → get_or code.labels l None ≡ Some at → IsPlacing code (Place l ∷ left) placed → IsPlacing code left placed
placed_before code l at left placed there before = record {
  each = λ k. stays code.labels l at (length code.items) (placed_from (length code.items) left) there k
      ∙ before.each k;
}

pub placed_now : (code : Code) (l : ℕ) (left : List Piece) (placed : List Numbered) → l < length code.labels
    → get_or code.labels l None ≡ None → IsPlacing code (Place l ∷ left) placed
    → IsPlacing (record { items = code.items; labels = set code.labels l (Some (length code.items)) }) left placed
placed_now code l left placed made free before = record {
  each = λ k. comes code.labels l (length code.items) (placed_from (length code.items) left) made free k
      ∙ before.each k;
}

-- ---- the beginning and the end

pub free : (n k : ℕ) (none : Option ℕ) → none ≡ None → get_or (replicate n none) k none ≡ none
free n k none e = elim (cases_lt k n) [
  | inl less ↦ get_or-replicate n k none none less
  | inr past ↦ get_or_past (replicate n none) k none (omega (arith, length-replicate n none))
]

-- no item is there, and no label is placed
pub none_placed : (code : Code) (n : ℕ) (ps : List Piece) → code.items ≡ [] → code.labels ≡ replicate n None
    → IsPlacing code ps (placed_from 0 ps)
none_placed code n ps empty labels = record {
  each = λ k. ap (λ (o : Option ℕ). unwrap_or o (number_at k (placed_from (length code.items) ps)))
      (ap (λ (ls : List (Option ℕ)). get_or ls k None) labels ∙ free n k None refl)
      ∙ ap (λ (items : List Item). number_at k (placed_from (length items) ps)) empty;
}

some_is : (o : Option ℕ) (n : ℕ) → IsSome o → unwrap_or o 0 ≡ n → o ≡ Some n
some_is (Some m) n there e = ap Some e
some_is None n there e = cc

front_is : (targets : List (Option ℕ)) (n : ℕ) (placed : List Numbered) → n ≤ length targets
    → ((k : ℕ) → k < n → get_or targets k None ≡ Some (number_at k placed)) → take n targets ≡ places_of n placed
front_is targets zero placed h each = refl
front_is targets (suc n) placed h each =
    let next : n + 1 ≡ suc n = omega arith in
    subst (λ (m : ℕ). take m targets ≡ places_of n placed ++ Some (number_at n placed) ∷ []) next
    (take_more targets n None (omega arith)
    ∙ (λ j. front_is targets n placed (omega arith) (λ k less. each k (omega arith)) j
    ++ each n (omega arith) j ∷ []))

-- All labels are placed but the last one, which is now placed at the end.
pub all_placed : (code : Code) (n : ℕ) (placed : List Numbered) → length code.labels ≡ n + 1
    → IsPlacing code [] placed → ((k : ℕ) → k < n → IsSome (get_or code.labels k None))
    → set code.labels n (Some (length code.items)) ≡ places_of n placed ++ Some (length code.items) ∷ []
all_placed code n placed count done there =
    let targets = set code.labels n (Some (length code.items)) in
    let long : length targets ≡ n + 1 = length-set code.labels n (Some (length code.items)) ∙ count in
    let each : (k : ℕ) → k < n → get_or code.labels k None ≡ Some (number_at k placed) =
    λ k less. some_is (get_or code.labels k None) (number_at k placed) (there k less) (done.each k) in
    sym (take_all (n + 1) targets (omega arith)) ∙ take_more targets n None (omega arith)
    ∙ (λ j. (take-set code.labels n (Some (length code.items))
    ∙ front_is code.labels n placed (omega arith) each) j
    ++ get_or-set_same code.labels n (Some (length code.items)) None (omega arith) j ∷ [])

pub count_of : (n : ℕ) (none : Option ℕ) → length (replicate n none) ≡ n
count_of n none = length-replicate n none

-- The code is laid out: its labels were made, its pieces pushed, and the last label is placed at its end.
pub drafted : (start laid end : Code) (ts : List (List ℤ)) (ps : List Piece) (labels : ℕ) → start.items ≡ []
    → start.labels ≡ replicate (labels + 1) None → laid.items ≡ start.items ++ items_of ts ps
    → length laid.labels ≡ length start.labels
    → ((placed : List Numbered) → IsPlacing start ps placed → IsPlacing laid [] placed)
    → ((k : ℕ) → k < labels → IsSome (get_or laid.labels k None))
    → end ≡ record { items = laid.items; labels = set laid.labels labels (Some (length laid.items)) }
    → ts ≡ tables_before [] ps → end ≡ draft_code ps labels
drafted start laid end ts ps labels empty made pushed count placing there ends tables =
    let placed = placed_from 0 ps in
    let long : length laid.labels ≡ labels + 1 =
    count ∙ ap (λ (ls : List (Option ℕ)). length ls) made ∙ count_of (labels + 1) None in
    let items : laid.items ≡ items_of (tables_before [] ps) ps =
    pushed ∙ ap (λ (is : List Item). is ++ items_of ts ps) empty
    ∙ ap (λ (tables : List (List ℤ)). items_of tables ps) tables in
    let all : set laid.labels labels (Some (length laid.items))
    ≡ places_of labels placed ++ Some (length laid.items) ∷ [] =
    all_placed laid labels placed long (placing placed (none_placed start (labels + 1) ps empty made)) there in
    let code : List Item → List (Option ℕ) → Code = λ is ls. record { items = is; labels = ls } in
    ends ∙ ap (λ (ls : List (Option ℕ)). code laid.items ls) all
    ∙ ap (λ (is : List Item). code is (places_of labels placed ++ Some (length is) ∷ [])) items
