-- The laws of the channel ends that a branch is given.
use Rattle.std.proofs.Common.{◌≡◌, ◌≢◌, ℕ, zero, suc, ◌^◌, ◌<◌, ◌≤◌, ℤ, pos, negsuc, Bool, true, false, ◌&&◌, ◌||◌}
use Rattle.std.proofs.Common.{unsigned_abs, ltb, leb, eqb, IsTrue, List, [], ◌∷◌, ◌++◌, Ok, refl, sym, ap, ap₂}
use Rattle.std.proofs.Common.{subst, ◌∙◌, append_assoc, arith, inl, inr, FitsSigned}
use Rattle.std.specs.Prelude.{int_lt, int_le}
use Rattle.std.specs.Int.{w32}
use Rattle.std.proofs.lemmas.Bool.{leb-true, le-leb, eqb-true, not-true, or_cases}
use Rattle.std.proofs.lemmas.Bool.Decides.{nat_tests}
use Rattle.std.proofs.lemmas.Int.{ints}
use Rattle.module_format.specs.declared.rows.EndKind.{EndKind}
use Rattle.module_format.specs.declared.rows.EndKind.TheVariants as ends
use Rattle.module_format.specs.declared.rows.Direction.{Direction}
use Rattle.module_format.specs.declared.rows.Direction.TheVariants as directions
use Rattle.module_format.specs.declared.rows.EndRow.{EndRow}
use Rattle.module_format.specs.declared.rows.EndKey.{EndKey}
use Rattle.module_format.specs.Order.{IsBytes}
use Rattle.module_format.specs.Pars.{EndKindKeeps, EndKeeps, kind_of, end_number_of, end_element_of}
use Rattle.module_format.specs.Pars.{direction_number, key_of, is_below}
use Rattle.module_format.specs.Spelling.{u32_bytes, i32_bytes, end_kind_bytes, end_bytes, direction_byte}
use Rattle.module_format.specs.Reading.{byte_taken}
use Rattle.module_format.specs.ReadingPars.{end_kind_at, is_number_of, end_number_at, end_element_at, end_direction_at}
use Rattle.module_format.specs.ReadingPars.{end_kind, direction_of, end_row_at}
use Rattle.module_format.proofs.ReadsInSteps.{Has, has_ok, has_then, step, Spelled, join, tested_takes, tested_again}
use Rattle.module_format.proofs.FieldLaws.{u32_takes, u32_again, int_takes, int_again, byte_takes}

-- ---- the four tests by which ends rise

rises_from : (x y : EndKey) → leb x.kind y.kind ≡ true
    → (eqb y.kind x.kind && int_lt y.number x.number) ≡ false
    → (eqb y.kind x.kind && (int_le y.number x.number && int_le x.number y.number) && ltb y.element x.element) ≡ false
    → (eqb y.kind x.kind && (int_le y.number x.number && int_le x.number y.number) && eqb y.element x.element
    && leb y.direction x.direction) ≡ false
    → is_below x y ≡ true
rises_from x y kind number element direction = grind (arith, nat_tests, ints)

-- and back
module _ (x y : EndKey) (below : is_below x y ≡ true) where
  kind_rises : leb x.kind y.kind ≡ true
  kind_rises = grind (arith, nat_tests, ints)

  number_rises : (eqb y.kind x.kind && int_lt y.number x.number) ≡ false
  number_rises = grind (arith, nat_tests, ints)

  element_rises : (eqb y.kind x.kind && (int_le y.number x.number && int_le x.number y.number)
      && ltb y.element x.element) ≡ false
  element_rises = grind (arith, nat_tests, ints)

  direction_rises : (eqb y.kind x.kind && (int_le y.number x.number && int_le x.number y.number)
      && eqb y.element x.element && leb y.direction x.direction) ≡ false
  direction_rises = grind (arith, nat_tests, ints)

-- ---- what the four fields spell

direction_is_spelled : (d : ℕ) → (eqb d 1 || eqb d 2) ≡ true → direction_number (direction_of d) ≡ d
direction_is_spelled d e =
    elim (or_cases (eqb d 1) (eqb d 2) e) [
      | inl h ↦ rw (eqb-true d 1 h) refl
      | inr h ↦ rw (eqb-true d 2 h) refl
    ]

-- only a parameter's end has an element
no_element : (kind element : ℕ) → kind ≢ 1 → (eqb kind 1 || eqb element 0) ≡ true → element ≡ 0
no_element kind element other e = grind (arith, nat_tests)

-- a link's number is below 8
link_below : (kind : ℕ) (number : ℤ) → 2 ≤ kind → is_number_of kind number ≡ true
    → (number ≡ pos (unsigned_abs number)) × (unsigned_abs number < 8)
link_below kind (pos n) link e = (refl, grind (arith, nat_tests, ints))
link_below kind (negsuc n) link e = absurd (grind (arith, nat_tests, ints))

-- a kind that is made of these fields, and keeps its rules
record IsMade (kind : ℕ) (number : ℤ) (element : ℕ) (made : EndKind) : Type 0 where
  kind_same : kind_of made ≡ kind
  number_same : end_number_of made ≡ number
  element_same : end_element_of made ≡ element
  keeps : EndKindKeeps made

end_kind_made : (kind : ℕ) (number : ℤ) (element : ℕ) → kind ≤ 2 → FitsSigned w32 number → element < 2 ^ 32
    → is_number_of kind number ≡ true → (eqb kind 1 || eqb element 0) ≡ true
    → IsMade kind number element (end_kind kind number element)
end_kind_made zero number element least fits small numbered h =
    record {
      kind_same = refl;
      number_same = refl;
      element_same = sym (no_element 0 element (omega arith) h);
      keeps = fits;
    }
end_kind_made (suc zero) number element least fits small numbered h =
    record { kind_same = refl; number_same = refl; element_same = refl; keeps = (fits, small) }
end_kind_made (suc (suc zero)) number element least fits small numbered h =
    let link = link_below 2 number (omega arith) numbered in
    record {
      kind_same = refl;
      number_same = sym link.0;
      element_same = sym (no_element 2 element (omega arith) h);
      keeps = link.1;
    }
end_kind_made (suc (suc (suc kind))) number element least fits small numbered h = absurd (omega arith)

-- the bytes of four fields
fields_bytes : ℕ → ℤ → ℕ → ℕ → List ℕ
fields_bytes kind number element direction = (kind ∷ []) ++ i32_bytes number ++ u32_bytes element ++ (direction ∷ [])

end_kind_spelled : (k : EndKind) → end_kind_bytes k ≡ (kind_of k ∷ []) ++ i32_bytes (end_number_of k) ++ u32_bytes
    (end_element_of k)
end_kind_spelled (ends.FrameWord word) = refl
end_kind_spelled (ends.Parameter number element) = refl
end_kind_spelled (ends.Link link) = refl

direction_spelled : (d : Direction) → direction_byte d ≡ direction_number d
direction_spelled directions.In = refl
direction_spelled directions.Out = refl

end_fields : (e : EndRow) → end_bytes e ≡ fields_bytes (kind_of e.kind) (end_number_of e.kind) (end_element_of e.kind)
    (direction_number e.direction)
unfolding end_bytes fields_bytes
end_fields e = rw (end_kind_spelled e.kind, direction_spelled e.direction) refl

-- an end that keeps its rules, by its fields
record IsEnd (kind : ℕ) (number : ℤ) (element direction : ℕ) : Type 0 where
  kind_least : kind ≤ 2
  number_fits : FitsSigned w32 number
  element_fits : element < 2 ^ 32
  numbered : is_number_of kind number ≡ true
  element_is : (eqb kind 1 || eqb element 0) ≡ true

end_kind_kept : (k : EndKind) → EndKindKeeps k → IsEnd (kind_of k) (end_number_of k) (end_element_of k) 1
end_kind_kept (ends.FrameWord word) h =
    record { kind_least = omega arith; number_fits = h; element_fits = omega arith; numbered = refl; element_is = refl }
end_kind_kept (ends.Parameter number element) h =
    record { kind_least = omega arith; number_fits = h.0; element_fits = h.1; numbered = refl; element_is = refl }
end_kind_kept (ends.Link link) h = record {
  kind_least = omega arith;
  number_fits = omega (arith, ints);
  element_fits =
      omega arith;
  numbered = grind (arith, nat_tests, ints);
  element_is = refl;
}

-- the fields of an end make that end
end_kind_same : (k : EndKind) → end_kind (kind_of k) (end_number_of k) (end_element_of k) ≡ k
end_kind_same (ends.FrameWord word) = refl
end_kind_same (ends.Parameter number element) = refl
end_kind_same (ends.Link link) = refl

direction_same : (d : Direction) → direction_of (direction_number d) ≡ d
direction_same directions.In = refl
direction_same directions.Out = refl

direction_tested : (d : Direction) → (eqb (direction_number d) 1 || eqb (direction_number d) 2) ≡ true
direction_tested directions.In = refl
direction_tested directions.Out = refl

-- ---- the readers of the four fields

module _ (size : ℕ) (before : EndKey) where
  end_kind_takes : (bytes : List ℕ) → IsBytes bytes
      → Has (end_kind_at size before bytes) (Spelled bytes (λ k. k ∷ []) (λ k. (k ≤ 2) × (leb before.kind k ≡ true)))
  unfolding end_kind_at
  end_kind_takes bytes fits =
      let known =
      tested_takes {Q = λ k. k ≤ 2} _ _ _ _ (byte_takes size bytes fits) (λ k below least. leb-true _ _ least) in
      tested_takes _ _ _ _ known (λ k least rises. (least, rises))

  end_kind_again : (k : ℕ) (rest : List ℕ) → k ≤ 2 → leb before.kind k ≡ true
      → end_kind_at size before (k ∷ rest) ≡ Ok (k, rest)
  unfolding end_kind_at byte_taken
  end_kind_again k rest least rises = tested_again _ _ _ _ (tested_again _ _ _ _ refl (le-leb _ _ least)) rises

  module _ (kind : ℕ) where
    end_number_takes : (bytes : List ℕ) → IsBytes bytes
        → Has (end_number_at size before kind bytes)
        (Spelled bytes i32_bytes (λ n. FitsSigned w32 n × (is_number_of kind n ≡ true)
        × ((eqb kind before.kind && int_lt n before.number) ≡ false)))
    unfolding end_number_at
    end_number_takes bytes fits =
        let known = tested_takes {Q = λ n. FitsSigned w32 n × (is_number_of kind n ≡ true)} _ _ _ _
        (int_takes size bytes fits) (λ n fits numbered. (fits, numbered)) in
        tested_takes _ _ _ _ known (λ n h rises. (h.0, h.1, not-true _ rises))

    end_number_again : (n : ℤ) (rest : List ℕ) → FitsSigned w32 n → is_number_of kind n ≡ true
        → (eqb kind before.kind && int_lt n before.number) ≡ false
        → end_number_at size before kind (i32_bytes n ++ rest) ≡ Ok (n, rest)
    unfolding end_number_at
    end_number_again n rest fits numbered rises =
        tested_again _ _ _ _ (tested_again _ _ _ _ (int_again size n rest fits) numbered) (rw rises refl)

    module _ (number : ℤ) where
      -- the element is below that of the end before
      element_falls : ℕ → Bool
      element_falls n =
          eqb kind before.kind && (int_le number before.number && int_le before.number number) && ltb n before.element

      end_element_takes : (bytes : List ℕ) → IsBytes bytes
          → Has (end_element_at size before kind number bytes)
          (Spelled bytes u32_bytes (λ n. (n < 2 ^ 32) × ((eqb kind 1 || eqb n 0) ≡ true) × (element_falls n ≡ false)))
      unfolding end_element_at element_falls
      end_element_takes bytes fits =
          let known = tested_takes {Q = λ n. (n < 2 ^ 32) × ((eqb kind 1 || eqb n 0) ≡ true)} _ _ _ _
          (u32_takes size bytes fits) (λ n below some. (below, some)) in
          tested_takes _ _ _ _ known (λ n h rises. (h.0, h.1, not-true _ rises))

      end_element_again : (n : ℕ) (rest : List ℕ) → n < 2 ^ 32 → (eqb kind 1 || eqb n 0) ≡ true
          → element_falls n ≡ false
          → end_element_at size before kind number (u32_bytes n ++ rest) ≡ Ok (n, rest)
      unfolding end_element_at element_falls
      end_element_again n rest fits some rises =
          tested_again _ _ _ _ (tested_again _ _ _ _ (u32_again size n rest fits) some) (rw rises refl)

      module _ (element : ℕ) where
        -- the direction is not above that of the end before
        direction_falls : ℕ → Bool
        direction_falls d = eqb kind before.kind && (int_le number before.number && int_le before.number number)
            && eqb element before.element && leb d before.direction

        end_direction_takes : (bytes : List ℕ) → IsBytes bytes
            → Has (end_direction_at size before kind number element bytes)
            (Spelled bytes (λ d. d ∷ []) (λ d. ((eqb d 1 || eqb d 2) ≡ true) × (direction_falls d ≡ false)))
        unfolding end_direction_at direction_falls
        end_direction_takes bytes fits =
            let known = tested_takes {Q = λ d. (eqb d 1 || eqb d 2) ≡ true} _ _ _ _ (byte_takes size bytes fits)
            (λ d below known. known) in
            tested_takes _ _ _ _ known (λ d known rises. (known, not-true _ rises))

        end_direction_again : (d : ℕ) (rest : List ℕ) → (eqb d 1 || eqb d 2) ≡ true → direction_falls d ≡ false
            → end_direction_at size before kind number element (d ∷ rest) ≡ Ok (d, rest)
        unfolding end_direction_at direction_falls byte_taken
        end_direction_again d rest known rises = tested_again _ _ _ _ (tested_again _ _ _ _ refl known) (rw rises refl)

-- ---- ends

made_end : ℕ → ℤ → ℕ → ℕ → EndRow
made_end kind number element direction =
    record { kind = end_kind kind number element; direction = direction_of direction }

made_key : ℕ → ℤ → ℕ → ℕ → EndKey
made_key kind number element direction =
    record { kind = kind; number = number; element = element; direction = direction }

-- an end that is made of its fields
module _ (kind : ℕ) (number : ℤ) (element direction : ℕ)
    (made : IsMade kind number element (end_kind kind number element))
    (known : (eqb direction 1 || eqb direction 2) ≡ true) where
  made_has_key : key_of (made_end kind number element direction) ≡ made_key kind number element direction
  unfolding made_end made_key
  made_has_key =
      let k = made.kind_same in
      let n = made.number_same in
      let e = made.element_same in
      let d = direction_is_spelled direction known in
      cc

  made_is_spelled : end_bytes (made_end kind number element direction) ≡ fields_bytes kind number element direction
  unfolding made_end
  made_is_spelled =
      end_fields (made_end kind number element direction)
      ∙ rw (made.kind_same, made.number_same, made.element_same, direction_is_spelled direction known) refl

  made_keeps : (before : EndKey) → is_below before (made_key kind number element direction) ≡ true
      → EndKeeps before (made_end kind number element direction)
  unfolding made_end
  made_keeps before rises =
      record {
        kind = made.keeps;
        rises = subst (λ (key : EndKey). IsTrue (is_below before key))
            (sym made_has_key) rises;
      }

made_again : (e : EndRow) → made_end (kind_of e.kind) (end_number_of e.kind) (end_element_of e.kind)
    (direction_number e.direction) ≡ e
unfolding made_end
made_again e = ap₂ (λ (k : EndKind) (d : Direction). record { kind = k; direction = d }) (end_kind_same e.kind)
    (direction_same e.direction)

module _ (size : ℕ) where
  pub end_takes : (before : EndKey) (bytes : List ℕ) → IsBytes bytes
      → Has (end_row_at size before bytes) (Spelled bytes end_bytes (EndKeeps before))
  unfolding end_row_at element_falls direction_falls made_end made_key fields_bytes
  end_takes before bytes fits =
      has_then _ _ (end_kind_takes size before bytes fits) (λ kind h.
      has_then _ _ (end_number_takes size before kind.0 kind.1 h.rest_fits) (λ number g.
      has_then _ _ (end_element_takes size before kind.0 number.0 number.1 g.rest_fits) (λ element k.
      has_then _ _ (end_direction_takes size before kind.0 number.0 element.0 element.1 k.rest_fits) (λ direction d.
      let made = end_kind_made kind.0 number.0 element.0 h.keeps.0 g.keeps.0 k.keeps.0 g.keeps.1 k.keeps.1 in
      let rises =
      rises_from before (made_key kind.0 number.0 element.0 direction.0) h.keeps.1 g.keeps.2 k.keeps.2 d.keeps.1 in
      let front = join (kind.0 ∷ []) (i32_bytes number.0) number.1 h.parts g.parts in
      let middle = join ((kind.0 ∷ []) ++ i32_bytes number.0) (u32_bytes element.0) element.1 front k.parts in
      let whole = join ((kind.0 ∷ []) ++ i32_bytes number.0 ++ u32_bytes element.0)
      (direction.0 ∷ []) direction.1 middle d.parts in
      let parts : bytes ≡ end_bytes (made_end kind.0 number.0 element.0 direction.0) ++ direction.1 =
      whole ∙ ap (λ (t : List ℕ). t ++ direction.1)
      (sym (made_is_spelled kind.0 number.0 element.0 direction.0 made d.keeps.0)) in
      has_ok (made_end kind.0 number.0 element.0 direction.0, direction.1)
      (record {
        parts = parts;
        rest_fits = d.rest_fits;
        keeps = made_keeps kind.0 number.0 element.0 direction.0 made d.keeps.0 before rises;
      })))))

  pub end_again : (before : EndKey) (e : EndRow) (rest : List ℕ) → EndKeeps before e
      → end_row_at size before (end_bytes e ++ rest) ≡ Ok (e, rest)
  unfolding end_row_at element_falls direction_falls fields_bytes made_end
  end_again before e rest h =
      let kind = kind_of e.kind in
      let number = end_number_of e.kind in
      let element = end_element_of e.kind in
      let direction = direction_number e.direction in
      let k = end_kind_kept e.kind h.kind in
      let y = key_of e in
      let tail2 = direction ∷ rest in
      let tail1 = u32_bytes element ++ tail2 in
      let tail0 = i32_bytes number ++ tail1 in
      let regrouped : end_bytes e ++ rest ≡ kind ∷ tail0 = rw (end_fields e) (simp append_assoc) in
      ap (end_row_at size before) regrouped
      ∙ step _ (end_kind_again size before kind tail0 k.kind_least (kind_rises before y h.rises))
      (step _ (end_number_again size before kind number tail1 k.number_fits k.numbered (number_rises before y h.rises))
      (step _ (end_element_again size before kind number element tail2 k.element_fits k.element_is
      (element_rises before y h.rises))
      (step _ (end_direction_again size before kind number element direction rest (direction_tested e.direction)
      (direction_rises before y h.rises))
      (ap (λ (x : EndRow). Ok (x, rest)) (made_again e)))))
