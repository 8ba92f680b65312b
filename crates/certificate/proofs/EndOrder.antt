-- Ends that rise can be searched: their order is strict.
use Rattle.std.proofs.Common.{◌≡◌, ℕ, ℤ, zero, suc, ◌<◌, ◌≤◌, Bool, true, false, ◌&&◌, ◌||◌, ltb, eqb, List, [], ◌∷◌}
use Rattle.std.proofs.Common.{length, get_or, refl, sym, ap, ◌∙◌, subst, inl, inr, Some, arith, pos, ◌+◌}
use Rattle.std.specs.Prelude.{◌<ℤ◌, ◌+ℤ◌, int_lt, int_le, MatchOption, slice_get}
use Rattle.std.specs.List.{list_any}
use Rattle.std.specs.List.Sorted.{IsPartitionPoint}
use Rattle.std.proofs.lemmas.Bool.{cases_lt, ltb-true, and_parts}
use Rattle.std.proofs.Math.Bool.{or-true}
use Rattle.std.proofs.lemmas.Bool.Decides.{nat_tests, same_from_decides, Decides-int_eq}
use Rattle.std.specs.Ordering.{int_eq}
use Rattle.std.proofs.lemmas.Int.{ints}
use Rattle.std.proofs.lemmas.Option.{slice_get_within, get_or_from_slice_get}
use Rattle.std.proofs.lemmas.List.Elements.{All-from_get_or}
use Rattle.std.proofs.lemmas.List.Folds.{list_any_at, list_any_none}
use Rattle.module_format.specs.declared.rows.EndKey.{EndKey}
use Rattle.module_format.specs.declared.rows.EndKind.{EndKind}
use Rattle.module_format.specs.declared.rows.EndKind.TheVariants as ends
use Rattle.module_format.specs.declared.rows.EndRow.{EndRow}
use Rattle.module_format.specs.declared.rows.Direction.{Direction}
use Rattle.module_format.specs.declared.rows.Direction.TheVariants as directions
use Rattle.module_format.specs.Order.{InOrder}
use Rattle.module_format.specs.Pars.{EndKeeps, EndKindKeeps, behind_end, first_key, key_of, is_below, kind_of}
use Rattle.module_format.specs.Pars.{end_number_of, end_element_of, direction_number}
use Rattle.certificate.specs.Rights.{is_same_end}
use Rattle.certificate.specs.Runs.{further, end_further, lists_end}

-- ---- the order

-- less in a first field, or the same there and less in the fields after it
lex_trans : (l1 e1 r1 l2 e2 r2 l e r : Bool) → (l1 ≡ true → l2 ≡ true → l ≡ true) → (l1 ≡ true → e2 ≡ true → l ≡ true)
    → (e1 ≡ true → l2 ≡ true → l ≡ true)
    → (e1 ≡ true → e2 ≡ true → e ≡ true) → (r1 ≡ true → r2 ≡ true → r ≡ true)
    → (l1 || (e1 && r1)) ≡ true → (l2 || (e2 && r2)) ≡ true → (l || (e && r)) ≡ true
lex_trans true e1 r1 true e2 r2 l e r a b c d f g h = rw (a refl refl) refl
lex_trans true e1 r1 false true r2 l e r a b c d f g h = rw (b refl refl) refl
lex_trans true e1 r1 false false r2 l e r a b c d f g h = absurd cc
lex_trans false true r1 true e2 r2 l e r a b c d f g h = rw (c refl refl) refl
lex_trans false true r1 false true r2 l e r a b c d f g h = rw (d refl refl, f g h) (or-true l)
lex_trans false true r1 false false r2 l e r a b c d f g h = absurd cc
lex_trans false false r1 l2 e2 r2 l e r a b c d f g h = absurd cc

all_four : (a b c d : Bool) → (a && b && c && d) ≡ true → (a && (b && (c && d))) ≡ true
all_four true true true d h = h
all_four true true false d h = absurd cc
all_four true false c d h = absurd cc
all_four false b c d h = absurd cc

module _ (x y z : EndKey) where
  -- by kind, then by number, then by element, then by what is left
  by_element : (r1 r2 r l2 : Bool) → (l2 ≡ true → y.element < z.element) → (r1 ≡ true → r2 ≡ true → r ≡ true)
      → (ltb x.element y.element || (eqb x.element y.element && r1)) ≡ true
      → (l2 || (eqb y.element z.element && r2)) ≡ true
      → (ltb x.element z.element || (eqb x.element z.element && r)) ≡ true
  by_element r1 r2 r l2 less =
      lex_trans (ltb x.element y.element) (eqb x.element y.element) r1 l2 (eqb y.element z.element) r2
      (ltb x.element z.element) (eqb x.element z.element) r
      (λ a b. let c = less b in grind (arith, nat_tests)) (λ a b. grind (arith, nat_tests))
      (λ a b. let c = less b in grind (arith, nat_tests)) (λ a b. grind (arith, nat_tests))

  by_number : (r1 r2 r l2 : Bool) → (l2 ≡ true → y.number <ℤ z.number) → (r1 ≡ true → r2 ≡ true → r ≡ true)
      → (int_lt x.number y.number || ((int_le x.number y.number && int_le y.number x.number) && r1)) ≡ true
      → (l2 || ((int_le y.number z.number && int_le z.number y.number) && r2)) ≡ true
      → (int_lt x.number z.number || ((int_le x.number z.number && int_le z.number x.number) && r)) ≡ true
  by_number r1 r2 r l2 less =
      lex_trans (int_lt x.number y.number) (int_le x.number y.number && int_le y.number x.number) r1 l2
      (int_le y.number z.number && int_le z.number y.number) r2
      (int_lt x.number z.number) (int_le x.number z.number && int_le z.number x.number) r
      (λ a b. let c = less b in grind (arith, ints)) (λ a b. grind (arith, ints))
      (λ a b. let c = less b in grind (arith, ints)) (λ a b. grind (arith, ints))

  by_kind : (r1 r2 r l2 : Bool) → (l2 ≡ true → y.kind < z.kind) → (r1 ≡ true → r2 ≡ true → r ≡ true)
      → (ltb x.kind y.kind || (eqb x.kind y.kind && r1)) ≡ true → (l2 || (eqb y.kind z.kind && r2)) ≡ true
      → (ltb x.kind z.kind || (eqb x.kind z.kind && r)) ≡ true
  by_kind r1 r2 r l2 less =
      lex_trans (ltb x.kind y.kind) (eqb x.kind y.kind) r1 l2 (eqb y.kind z.kind) r2 (ltb x.kind z.kind)
      (eqb x.kind z.kind) r
      (λ a b. let c = less b in grind (arith, nat_tests)) (λ a b. grind (arith, nat_tests))
      (λ a b. let c = less b in grind (arith, nat_tests)) (λ a b. grind (arith, nat_tests))

  pub below_behind : is_below x y ≡ true → is_below y z ≡ true → is_below x z ≡ true
  below_behind =
      by_kind _ _ _ (ltb y.kind z.kind) (ltb-true y.kind z.kind)
      (by_number _ _ _ (int_lt y.number z.number) (λ e. grind (arith, ints))
      (by_element (ltb x.direction y.direction) (ltb y.direction z.direction) (ltb x.direction z.direction)
      (ltb y.element z.element) (ltb-true y.element z.element)
      (λ a b. grind (arith, nat_tests))))

  below_same : is_below x y ≡ true → is_same_end y z ≡ true → is_below x z ≡ true
  below_same below same =
      by_kind _ _ _ false (λ e. absurd cc)
      (by_number _ _ _ false (λ e. absurd cc)
      (by_element (ltb x.direction y.direction) (eqb y.direction z.direction) (ltb x.direction z.direction) false
      (λ e. absurd cc)
      (λ a b. grind (arith, nat_tests)))) below
      (all_four (eqb y.kind z.kind) (int_le y.number z.number && int_le z.number y.number) (eqb y.element z.element)
      (eqb y.direction z.direction) same)

pub below_differs : (x y : EndKey) → is_below x y ≡ true → is_same_end x y ≡ false
below_differs x y a = grind (arith, nat_tests, ints)

pub above_differs : (x y : EndKey) → is_below y x ≡ true → is_same_end x y ≡ false
above_differs x y a = grind (arith, nat_tests, ints)

-- two keys of which neither is below the other are the same
pub neither_below : (x y : EndKey) → is_below x y ≡ false → is_below y x ≡ false → is_same_end x y ≡ true
neither_below x y a b = grind (arith, nat_tests, ints)

-- what `==` returns for two numbers, and for two keys
pub same_number : (a b : ℤ) → int_eq a b ≡ (int_le a b && int_le b a)
same_number a b = same_from_decides _ (int_le a b && int_le b a) (Decides-int_eq a b)
    (λ t. grind (arith, ints), λ e. grind (arith, ints))

grouped : (a b c d : Bool) → (a && (b && (c && d))) ≡ (a && b && c && d)
grouped true true c d = refl
grouped true false c d = refl
grouped false b c d = refl

pub same_key : (x y : EndKey) → (eqb x.kind y.kind && (int_eq x.number y.number &&
    (eqb x.element y.element && eqb x.direction y.direction))) ≡ is_same_end x y
same_key x y = rw (same_number x.number y.number) (grouped (eqb x.kind y.kind)
    (int_le x.number y.number && int_le y.number x.number) (eqb x.element y.element) (eqb x.direction y.direction))

-- ---- ends that rise

module _ (d : EndRow) where
  abbrev key_at : List EndRow → ℕ → EndKey
  key_at es i = key_of (get_or es i d)

  above : (low : EndKey) (es : List EndRow) (i : ℕ) → InOrder EndKeeps behind_end low es → i < length es
      → is_below low (key_at es i) ≡ true
  above low [] i h lt = absurd (omega arith)
  above low (e ∷ es) zero h lt = h.0.rises
  above low (e ∷ es) (suc i) h lt =
      below_behind low (key_of e) (key_at es i) h.0.rises (above (key_of e) es i h.1 (omega arith))

  rise : (low : EndKey) (es : List EndRow) (i j : ℕ) → InOrder EndKeeps behind_end low es → i < j → j < length es
      → is_below (key_at es i) (key_at es j) ≡ true
  rise low [] i j h less lt = absurd (omega arith)
  rise low (e ∷ es) i zero h less lt = absurd (omega arith)
  rise low (e ∷ es) zero (suc j) h less lt = above (key_of e) es j h.1 (omega arith)
  rise low (e ∷ es) (suc i) (suc j) h less lt = rise (key_of e) es i j h.1 (omega arith) (omega arith)

  -- the ends below a key are the first ones
  pub parted : (key low : EndKey) (es : List EndRow) → InOrder EndKeeps behind_end low es → (i j : ℕ) → i ≤ j
      → j < length es → is_below (key_at es j) key ≡ true → is_below (key_at es i) key ≡ true
  parted key low es h i j le lt below = elim (cases_lt i j) [
    | inl less ↦ below_behind (key_at es i) (key_at es j) key (rise low es i j h less lt) below
    | inr ge ↦
        let same : i ≡ j = omega arith in
        rw same below
  ]

-- what a search for a key finds among ends that rise: the first n are below it, and the others aren't
module _ (key low : EndKey) (es : List EndRow) (n : ℕ) (h : InOrder EndKeeps behind_end low es)
    (point : IsPartitionPoint (λ (e : EndRow). is_below (key_of e) key ≡ true)
    (λ (e : EndRow). is_below (key_of e) key ≡ false) es n) where
  abbrev is_it : EndRow → Bool
  is_it e = is_same_end (key_of e) key

  differs_before : (d : EndRow) (i : ℕ) → i < n → is_it (get_or es i d) ≡ false
  differs_before d i less = below_differs (key_of (get_or es i d)) key (point.0 i d (omega arith) less)

  pub none_listed : (d : EndRow) → length es ≤ n → list_any is_it es ≡ false
  none_listed d past =
      list_any_none is_it es (All-from_get_or (λ e. is_it e ≡ false) es d (λ i lt. differs_before d i (omega arith)))

  -- the end after them is it, or none is
  pub one_tells : (d : EndRow) → n < length es → is_it (get_or es n d) ≡ list_any is_it es
  one_tells d inside = elim (is_it (get_or es n d)) as (λ b. is_it (get_or es n d) ≡ b → b ≡ list_any is_it es) [
    | true ↦ λ e. sym (list_any_at is_it es n d inside e)
    | false ↦ λ e. sym (list_any_none is_it es (All-from_get_or (λ e. is_it e ≡ false) es d
        (λ i lt. elim (cases_lt i n) [
          | inl less ↦ differs_before d i less
          | inr ge ↦ elim (cases_lt n i) [
            | inl behind ↦ elim (is_it (get_or es i d)) as (λ b. is_it (get_or es i d) ≡ b → b ≡ false) [
              | true ↦ λ same.
                  let rises = rise d low es n i h behind lt in
                  let below = below_same (key_of (get_or es n d)) (key_of (get_or es i d)) key rises same in
                  let not_below = point.1 n d (omega arith) inside in
                  absurd cc
              | false ↦ λ same. refl
            ] refl
            | inr le ↦
                let here : i ≡ n = omega arith in
                rw here e
          ]
        ])))
  ] refl

  -- the same of an end that was got there
  pub place_tells : (d : EndRow) (b : Bool) → n < length es → d ≡ get_or es n d → b ≡ is_it d → b ≡ list_any is_it es
  place_tells d b inside is tells = tells ∙ ap is_it is ∙ one_tells d inside

-- ---- an end at a place

-- an item that passes a test at a place is among all
pub found_listed : {X : Type 0} (test : X → Bool) (xs : List X) (i : ℕ)
    → MatchOption (slice_get xs i) ⊥ (λ x. test x ≡ true) → true ≡ list_any test xs
found_listed test [] i h = absurd h
found_listed test (x ∷ xs) zero h = rw h refl
found_listed test (x ∷ xs) (suc i) h = rw (← found_listed test xs i h) (sym (or-true (test x)))

int_same : (k m : ℤ) → (int_le k m && int_le m k) ≡ true → k ≡ m
int_same k m h = grind (arith, ints)

number_same : (m n : ℕ) → eqb m n ≡ true → m ≡ n
number_same m n h = grind (arith, nat_tests)

position_same : (m n : ℕ) → (int_le (pos m) (pos n) && int_le (pos n) (pos m)) ≡ true → m ≡ n
position_same m n h = grind (arith, ints)

same_direction : (x y : Direction) → eqb (direction_number x) (direction_number y) ≡ true → x ≡ y
same_direction directions.In directions.In h = refl
same_direction directions.Out directions.Out h = refl
same_direction directions.In directions.Out h = absurd cc
same_direction directions.Out directions.In h = absurd cc

-- channels with the same numbers are one
same_kind : (x y : EndKind) → eqb (kind_of x) (kind_of y) ≡ true
    → (int_le (end_number_of x) (end_number_of y) && int_le (end_number_of y) (end_number_of x)) ≡ true
    → eqb (end_element_of x) (end_element_of y) ≡ true → x ≡ y
same_kind (ends.FrameWord k) (ends.FrameWord m) kind number element =
    ap (λ (z : ℤ). ends.FrameWord z) (int_same k m number)
same_kind (ends.Parameter j a) (ends.Parameter k b) kind number element =
    ap (λ (z : ℤ). ends.Parameter z a) (int_same j k number)
    ∙ ap (λ (n : ℕ). ends.Parameter k n) (number_same a b element)
same_kind (ends.Link l) (ends.Link m) kind number element =
    ap (λ (n : ℕ). ends.Link n) (position_same l m number)
same_kind (ends.FrameWord k) (ends.Parameter j a) kind number element = absurd cc
same_kind (ends.FrameWord k) (ends.Link l) kind number element = absurd cc
same_kind (ends.Parameter j a) (ends.FrameWord k) kind number element = absurd cc
same_kind (ends.Parameter j a) (ends.Link l) kind number element = absurd cc
same_kind (ends.Link l) (ends.FrameWord k) kind number element = absurd cc
same_kind (ends.Link l) (ends.Parameter j a) kind number element = absurd cc

-- ends with the same key are one
pub same_end : (x e : EndRow) → is_same_end (key_of x) (key_of e) ≡ true → x ≡ e
same_end x e h =
    let three = and_parts _ _ h in
    let two = and_parts _ _ three.0 in
    let one = and_parts _ _ two.0 in
    let kind : x.kind ≡ e.kind = same_kind x.kind e.kind one.0 one.1 two.1 in
    let direction : x.direction ≡ e.direction = same_direction x.direction e.direction three.1 in
    ap (λ (k : EndKind). record { kind = k; direction = x.direction }) kind
    ∙ ap (λ (y : Direction). record { kind = e.kind; direction = y }) direction

pub same_itself : (x : EndRow) → is_same_end (key_of x) (key_of x) ≡ true
same_itself x = grind (arith, nat_tests, ints)

-- where it was found
pub end_found : (listed : List EndRow) (i : ℕ) (e : EndRow)
    → MatchOption (slice_get listed i) ⊥ (λ x. is_same_end (key_of x) (key_of e) ≡ true)
    → slice_get listed i ≡ Some e
end_found [] i e h = absurd h
end_found (x ∷ xs) zero e h = ap (λ (y : EndRow). Some y) (same_end x e h)
end_found (x ∷ xs) (suc i) e h = end_found xs i e h

-- ---- neighbouring channels

-- the channel after one is another one
next_differs : (kind : EndKind) → kind ≡ further kind 1 → ⊥
next_differs (ends.FrameWord k) same =
    let word : k ≡ k +ℤ pos 1 = ap end_number_of same in
    absurd (omega (arith, ints))
next_differs (ends.Parameter j a) same =
    let element : a ≡ a + 1 = ap end_element_of same in
    absurd (omega arith)
next_differs (ends.Link l) same =
    let number : pos l ≡ pos (l + 1) = ap end_number_of same in
    absurd (omega (arith, ints))

-- an end is before that of the next channel
next_above : (kind : EndKind) (d : Direction)
    → is_below (key_of (record { kind = further kind 1; direction = d })) (key_of (record { kind = kind; direction = d }))
    ≡ false
next_above (ends.FrameWord k) d = grind (arith, nat_tests, ints)
next_above (ends.Parameter j a) d = grind (arith, nat_tests, ints)
next_above (ends.Link l) d = grind (arith, nat_tests, ints)

pub end_before : (es : List EndRow) (i j : ℕ) (e : EndRow) → InOrder EndKeeps behind_end first_key es
    → slice_get es i ≡ Some e → slice_get es j ≡ Some (end_further e 1) → i < j
end_before es i j e h here next = elim (cases_lt i j) [
  | inl less ↦ less
  | inr ge ↦ elim (cases_lt j i) [
    | inl behind ↦
        let rises = rise e first_key es j i h behind (slice_get_within es i e here) in
        let below : is_below (key_of (end_further e 1)) (key_of e) ≡ true =
        rw (get_or_from_slice_get es i e e here, get_or_from_slice_get es j (end_further e 1) e next) at rises in
        absurd (let no : true ≡ false = sym below ∙ next_above e.kind e.direction in cc)
    | inr le ↦
        let same : j ≡ i = omega arith in
        let both : Some e ≡ Some (end_further e 1) = sym here ∙ ap (slice_get es) (sym same) ∙ next in
        let one : e ≡ end_further e 1 = cc in
        absurd (next_differs e.kind (ap (λ (x : EndRow). x.kind) one))
  ]
]

-- what no channel's number can be has no end
pub no_end : (es : List EndRow) (low : EndKey) (e : EndRow) → InOrder EndKeeps behind_end low es
    → (EndKindKeeps e.kind → ⊥) → lists_end es e ≡ false
no_end [] low e h far = refl
no_end (x ∷ xs) low e h far =
    elim (is_same_end (key_of x) (key_of e)) as (λ b. is_same_end (key_of x) (key_of e) ≡ b
    → (b || lists_end xs e) ≡ false) [
      | true ↦ λ same. absurd (far (subst (λ (y : EndRow). EndKindKeeps y.kind) (same_end x e same) h.0.kind))
      | false ↦ λ same. no_end xs (key_of x) e h.1 far
    ] refl
