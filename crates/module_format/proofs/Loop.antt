-- Reading items one after the other, as a loop does.
use Rattle.std.proofs.Common.{◌≡◌, ℕ, suc, ◌-◌, ◌+◌, ◌≤◌, ◌<◌, List, [], ◌∷◌, ◌++◌, length, drop, Result, Ok, Err, refl}
use Rattle.std.proofs.Common.{sym, ap, ◌∙◌, append_assoc, arith, get_or, add-one, drop-cons, map, subst}
use Rattle.std.specs.Prelude.{⊤, IfOk, true, Option, Some, None, is_some}
use Rattle.std.specs.List.{flat_map}
use Rattle.std.proofs.lemmas.List.{append-nil, drop_all, length-append, length-map, get_or-map}
use Rattle.std.proofs.lemmas.List.Concat.{flat_map-cons}
use Rattle.module_format.specs.declared.fault.FormatFault.{FormatFault}
use Rattle.module_format.specs.declared.fault.ReadError.{ReadError}
use Rattle.module_format.specs.declared.fault.ReadError.TheVariants as errors
use Rattle.module_format.specs.Reading.{◌>>=◌, and_then, Fails, Tells, Read, list_at}
use Rattle.module_format.specs.Taking.{Took, TookAfter}
use Rattle.module_format.specs.References.{list_references}

-- what was read before, and what is still read
abbrev pub with_front : {A : Type 0} → List A → Read (List A) → Read (List A)
with_front front read = read >>= λ x. Ok (front ++ x.0, x.1)

regroup : {A : Type 0} (front : List A) (x : A) (read : Read (List A))
    → with_front front (read >>= λ y. Ok (x ∷ y.0, y.1)) ≡ with_front (front ++ x ∷ []) read
unfolding and_then
regroup {A} front x (Ok y) = ap (λ (xs : List A). Ok (xs, y.1)) (simp append_assoc)
regroup front x (Err f) = refl

-- before the first item
with_nothing : {A : Type 0} (read : Read (List A)) → with_front [] read ≡ read
unfolding and_then
with_nothing (Ok x) = refl
with_nothing (Err f) = refl

module _ {A S : Type 0} (item : S → List ℕ → Read A) (next : S → A → S) where
  pub begins : (count : ℕ) (low : S) (bytes : List ℕ)
      → with_front [] (list_at item next (count - 0) low bytes) ≡ list_at item next count low bytes
  begins count low bytes =
      let k : count - 0 ≡ count = omega arith in
      rw k (with_nothing (list_at item next count low bytes))

  pub goes_on : (front : List A) (count i : ℕ) (low : S) (bytes : List ℕ) (x : A) (after : List ℕ)
      (total : Read (List A)) → i < count → item low bytes ≡ Ok (x, after)
      → with_front front (list_at item next (count - i) low bytes) ≡ total
      → with_front (front ++ x ∷ []) (list_at item next (count - (i + 1)) (next low x) after) ≡ total
  unfolding list_at and_then
  goes_on front count i low bytes x after total lt h so_far =
      let k : count - i ≡ suc (count - (i + 1)) = omega arith in
      let one : with_front front (list_at item next (count - i) low bytes)
      ≡ with_front (front ++ x ∷ []) (list_at item next (count - (i + 1)) (next low x) after) =
      rw (k, h) (regroup front x (list_at item next (count - (i + 1)) (next low x) after)) in
      sym one ∙ so_far

  pub ends : (e : ReadError) (front : List A) (count i : ℕ) (low : S) (bytes : List ℕ) (total : Read (List A))
      → i < count → Fails e (item low bytes)
      → with_front front (list_at item next (count - i) low bytes) ≡ total → Fails e total
  unfolding list_at and_then
  ends errors.Memory front count i low bytes total lt h so_far = tt
  ends (errors.Fault f) front count i low bytes total lt h so_far =
      let k : count - i ≡ suc (count - (i + 1)) = omega arith in
      let one : with_front front (list_at item next (count - i) low bytes) ≡ Err f = rw (k, h) refl in
      sym so_far ∙ one

  pub is_done : (front : List A) (count i : ℕ) (low : S) (bytes : List ℕ) (total : Read (List A)) → count ≤ i
      → with_front front (list_at item next (count - i) low bytes) ≡ total → total ≡ Ok (front, bytes)
  unfolding list_at and_then
  is_done front count i low bytes total le so_far =
      let k : count - i ≡ 0 = omega arith in
      let one : with_front front (list_at item next (count - i) low bytes) ≡ Ok (front, bytes) =
      rw k (ap (λ (xs : List A). Ok (xs, bytes)) (append-nil front)) in
      sym so_far ∙ one

  -- an item that a cursor read
  pub taken : (old : Option ReadError) (low : S) (bytes : List ℕ) (x : A) (new : Option ReadError) (left : List ℕ)
      → old ≡ None → new ≡ None → TookAfter (item low) old bytes x new left → item low bytes ≡ Ok (x, left)
  taken None low bytes x None left unfailed still took = took
  taken None low bytes x (Some e) left unfailed still took = grind (arith, still)
  taken (Some e) low bytes x new left unfailed still took = grind (arith, unfailed)

  -- an item at which it failed
  pub stops : (old new : Option ReadError) (front : List A) (count i : ℕ) (low : S) (bytes : List ℕ) (x : A)
      (left : List ℕ) (xs : List A) (total : Read (List A)) → i < count → old ≡ None → is_some new ≡ true
      → TookAfter (item low) old bytes x new left → with_front front (list_at item next (count - i) low bytes) ≡ total
      → Took total xs new left
  stops None None front count i low bytes x left xs total lt unfailed failed took so_far = grind (arith, failed)
  stops None (Some e) front count i low bytes x left xs total lt unfailed failed took so_far =
      ends e front count i low bytes total lt took so_far
  stops (Some e) new front count i low bytes x left xs total lt unfailed failed took so_far = grind (arith, unfailed)

-- the item at an index, at the front of what is left
pub item_at : {A : Type 0} (xs : List A) (i : ℕ) (d : A) → i < length xs → drop i xs ≡ get_or xs i d ∷ drop (i + 1) xs
item_at xs i d lt = rw (add-one, drop-cons xs i d lt) refl

-- the same with the item that a loop has
pub loop_item_at : {A : Type 0} (xs : List A) (i : ℕ) (x : A) → i < length xs → x ≡ get_or xs i x
    → drop i xs ≡ x ∷ drop (i + 1) xs
loop_item_at xs i x lt is = item_at xs i x lt ∙ ap (λ y. y ∷ drop (i + 1) xs) (sym is)

-- the same where the items are seen by f
pub mapped_item_at : {A B : Type 0} (f : A → B) (xs ys : List A) (i : ℕ) (x : A) → ys ≡ xs → i < length ys
    → x ≡ get_or ys i x → drop i (map f xs) ≡ f x ∷ drop (i + 1) (map f xs)
mapped_item_at {A = A} f xs ys i x same lt is =
    let there : i < length xs = subst (λ (zs : List A). i < length zs) same lt in
    let x_is : get_or xs i x ≡ x = sym (is ∙ ap (λ (zs : List A). get_or zs i x) same) in
    let long : i < length (map f xs) = rw length-map there in
    item_at (map f xs) i (f x) long ∙ ap (λ y. y ∷ drop (i + 1) (map f xs))
    (get_or-map f xs i x (f x) there ∙ ap f x_is)

-- ---- checking references, item by item, once all are read

module _ {A : Type 0} (item : ℕ → A → Result ⊤ FormatFault) (spelled : A → List ℕ) where
  pub references_go_on : (xs : List A) (i at : ℕ) (x : A) (u : ⊤) (total : Result ⊤ FormatFault)
      → drop i xs ≡ x ∷ drop (i + 1) xs → item at x ≡ Ok u
      → list_references item spelled at (drop i xs) ≡ total
      → list_references item spelled (at + length (spelled x)) (drop (i + 1) xs) ≡ total
  unfolding list_references and_then
  references_go_on xs i at x u total e h so_far =
      let one : list_references item spelled at (drop i xs)
      ≡ list_references item spelled (at + length (spelled x)) (drop (i + 1) xs) = rw (e, h) refl in
      sym one ∙ so_far

  pub references_end : (f : FormatFault) (xs : List A) (i at : ℕ) (x : A) (total : Result ⊤ FormatFault)
      → drop i xs ≡ x ∷ drop (i + 1) xs → item at x ≡ Err f
      → list_references item spelled at (drop i xs) ≡ total → total ≡ Err f
  unfolding list_references and_then
  references_end f xs i at x total d h so_far =
      let one : list_references item spelled at (drop i xs) ≡ Err f = rw (d, h) refl in
      sym so_far ∙ one

  pub references_are_done : (xs : List A) (i at : ℕ) (total : Result ⊤ FormatFault) → length xs ≤ i
      → list_references item spelled at (drop i xs) ≡ total → total ≡ Ok tt
  unfolding list_references
  references_are_done xs i at total le so_far =
      let one : list_references item spelled at (drop i xs) ≡ Ok tt = rw (drop_all i xs le) refl in
      sym so_far ∙ one

-- the bytes of the items that are left
pub length-left : {A : Type 0} (spelled : A → List ℕ) (xs : List A) (i : ℕ) (x : A) → drop i xs ≡ x ∷ drop (i + 1) xs
    → length (flat_map spelled (drop i xs)) ≡ length (spelled x) + length (flat_map spelled (drop (i + 1) xs))
length-left spelled xs i x e = rw (e, flat_map-cons) (length-append (spelled x) (flat_map spelled (drop (i + 1) xs)))

-- ---- outcomes

pub ok_weaker : {X E : Type 0} {P Q : X → Type 0} (r : Result X E) → IfOk r P → ((x : X) → P x → Q x) → IfOk r Q
ok_weaker (Ok x) h f = f x h
ok_weaker (Err e) h f = tt

-- a check that found a fault, as the first step of a longer one
pub tells_err : {look : Result ⊤ FormatFault} (f : FormatFault) (k : ⊤ → Result ⊤ FormatFault) → look ≡ Err f
    → and_then look k ≡ Err f
unfolding and_then
tells_err f k e = rw e refl

-- a check that is another one
pub tells_same : {X : Type 0} {look other : Result ⊤ FormatFault} (r : Result X FormatFault) → look ≡ other
    → Tells r look → Tells r other
tells_same (Ok x) e h = rw (← e) h
tells_same (Err f) e h = rw (← e) h
