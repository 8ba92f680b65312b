-- The laws of facts, entries and label rows.
use Rattle.std.proofs.Common.{◌≡◌, ◌≢◌, ℕ, ◌^◌, ◌<◌, ◌≤◌, ℤ, pos, ◌+ℤ◌, ◌≤ℤ◌, true, false, ◌&&◌, ◌||◌, cond, eqb, List}
use Rattle.std.proofs.Common.{[], ◌∷◌, ◌++◌, length, Ok, Err, refl, ap, ◌∙◌, append_assoc, arith, FitsSigned}
use Rattle.std.specs.Prelude.{nat_le, int_le}
use Rattle.std.specs.Int.{w32}
use Rattle.std.specs.List.{flat_map, list_any, AllByRecursion}
use Rattle.std.proofs.lemmas.Int.{ints}
use Rattle.std.proofs.lemmas.Bool.{leb-true, le-leb, ltb-true, lt-ltb, eqb-true, not-true, and_parts, eqb-false, ne_eqb}
use Rattle.small_laws.proofs.Comparisons.{int_le-true, le-int_le}
use Rattle.module_format.specs.declared.fault.FormatFaultKind.TheVariants as faults
use Rattle.module_format.specs.Rows.{Fact}
use Rattle.module_format.specs.declared.fact.Fact.TheVariants as facts
use Rattle.module_format.specs.declared.fact.Region.{Region}
use Rattle.module_format.specs.declared.fact.Step.{Step}
use Rattle.module_format.specs.declared.fact.Step.TheVariants as steps
use Rattle.module_format.specs.Rows.{Entry}
use Rattle.module_format.specs.declared.stack.Stack.{Stack}
use Rattle.module_format.specs.Contents.{Procedure, Label}
use Rattle.module_format.specs.Order.{IsBytes, InOrder, IsInterval, least_word, greatest_word, is_stepped}
use Rattle.module_format.specs.Regions.{region_number, region_numbered}
use Rattle.module_format.specs.Facts.{IsStepped, IsPointer, is_loop_length, IsLoop, RegisterKeeps, WordKeeps}
use Rattle.module_format.specs.Facts.{behind_entry, EntryKeeps, IsLabelOffset, LabelKeeps, behind_label}
use Rattle.module_format.specs.Spelling.{u16_bytes, u32_bytes, u64_bytes, i32_bytes, step_size, fact_bytes, entry_bytes}
use Rattle.module_format.specs.Spelling.{label_bytes}
use Rattle.module_format.specs.Reading.{and_then, fault, place, byte_taken, list_at}
use Rattle.module_format.specs.ReadingRows.{number_fact_at, step_at, pointed_at, pointer_at, code_address_at, count_at}
use Rattle.module_format.specs.ReadingRows.{loop_at, fact_at, register_at, word_fact_at, first_word_at, span_at, entry_at, entries_at}
use Rattle.module_format.specs.ReadingRows.{label_offset_at, registers_at, label_row_at, label_rows_at}
use Rattle.module_format.proofs.ReadsInSteps.{nothing_taken, tag_taken, field, regroup, all_taken}
use Rattle.module_format.proofs.ReadsInSteps.{Has, has_ok, has_err, has_then, has_if, has_cond, has_weaker, step}
use Rattle.module_format.proofs.ReadsInSteps.{Spelled}
use Rattle.module_format.proofs.ReadsInSteps.{join, tested_takes, tested_again, list_takes, list_again}
use Rattle.module_format.proofs.FieldLaws.{IsBytes-rest, wide16, wide64}
use Rattle.module_format.proofs.FieldLaws.{number_takes, number_again, u32_takes, u32_again, int_takes, int_again}
use Rattle.module_format.proofs.FieldLaws.{byte_takes, at_most_takes, at_most_again, interval_takes, interval_again}
use Rattle.module_format.proofs.FieldLaws.{in_code_takes, in_code_again}
use Rattle.module_format.proofs.RegionLaws.{number_of_numbered, numbered_again}

-- ---- facts

-- a fact that registers and words have alike
record IsCommon (code_len : ℕ) (f : Fact) : Type 0 where
  register : RegisterKeeps code_len f
  word : (span : ℕ) → WordKeeps code_len span f

-- the length of a loop, by its parts
loop_parts : (base : ℤ) (n : ℕ) → is_loop_length base n ≡ true
    → (1 ≤ n) × (pos n ≤ℤ greatest_word) × ((base +ℤ pos n) ≤ℤ pos 2147483648)
loop_parts base n all =
    let both = and_parts (nat_le 1 n && int_le (pos n) greatest_word) (int_le (base +ℤ pos n) (pos 2147483648)) all in
    let first = and_parts (nat_le 1 n) (int_le (pos n) greatest_word) both.0 in
    (leb-true _ _ first.0, int_le-true _ _ first.1, int_le-true _ _ both.1)

module _ (size : ℕ) where
  step_takes : (lo hi : ℤ) (bytes : List ℕ) → IsBytes bytes
      → Has (step_at size lo hi bytes) (Spelled bytes (λ s. step_size s ∷ []) (λ s. IsStepped s lo hi))
  unfolding step_at
  step_takes lo hi bytes fits =
      has_then _ _ (byte_takes size bytes fits) (λ s h.
      has_cond (eqb s.0 1) (Ok (steps.Byte, s.1))
      (cond (eqb s.0 4 && is_stepped lo && is_stepped hi) (Ok (steps.Word, s.1))
      (Err (fault faults.Range (place size bytes)))) (λ one.
      let e : s.0 ≡ 1 = eqb-true _ _ one in
      has_ok (steps.Byte, s.1) (record { parts = rw (← e) h.parts; rest_fits = h.rest_fits; keeps = tt })) (λ other.
      has_if (eqb s.0 4 && is_stepped lo && is_stepped hi) (fault faults.Range (place size bytes))
      (Ok (steps.Word, s.1)) (λ all.
      let both = and_parts (eqb s.0 4 && is_stepped lo) (is_stepped hi) all in
      let first = and_parts (eqb s.0 4) (is_stepped lo) both.0 in
      let e : s.0 ≡ 4 = eqb-true _ _ first.0 in
      has_ok (steps.Word, s.1) (record {
        parts = rw (← e) h.parts;
        rest_fits = h.rest_fits;
        keeps =
            (first.1, both.1);
      }))))

  step_again : (lo hi : ℤ) (s : Step) (rest : List ℕ) → IsStepped s lo hi
      → step_at size lo hi (step_size s ∷ rest) ≡ Ok (s, rest)
  unfolding step_at byte_taken
  step_again lo hi steps.Byte rest h = step _ refl refl
  step_again lo hi steps.Word rest h = step _ refl (rw (h.0, h.1) refl)

  range_again : (lo hi : ℤ) (rest : List ℕ) → IsInterval lo hi
      → number_fact_at size ((i32_bytes lo ++ i32_bytes hi) ++ rest) ≡ Ok (facts.Number lo hi, rest)
  unfolding number_fact_at
  range_again lo hi rest h =
      ap (number_fact_at size) (append_assoc (i32_bytes lo) (i32_bytes hi) rest)
      ∙ step _ (interval_again size lo hi rest h) refl

  pointed_takes : (bytes : List ℕ) → IsBytes bytes → Has (pointed_at size bytes)
      (Spelled bytes (λ r. u16_bytes (region_number r)) (λ r. region_number r < 2 ^ 16))
  unfolding pointed_at
  pointed_takes bytes fits =
      has_then _ _ (number_takes size 2 u16_bytes (2 ^ 16) wide16 bytes fits) (λ n h.
      has_ok (region_numbered n.0, n.1) (record {
        parts = rw (number_of_numbered n.0) h.parts;
        rest_fits = h.rest_fits;
        keeps = rw (number_of_numbered n.0) h.keeps;
      }))

  pointed_again : (region : Region) (rest : List ℕ) → region_number region < 2 ^ 16
      → pointed_at size (u16_bytes (region_number region) ++ rest) ≡ Ok (region, rest)
  unfolding pointed_at
  pointed_again region rest fits =
      step _ (number_again size 2 u16_bytes (2 ^ 16) wide16 (region_number region) rest fits)
      (ap (λ (r : Region). Ok (r, rest)) (numbered_again region))

  pointer_again : (region : Region) (lo hi : ℤ) (s : Step) (rest : List ℕ) → IsPointer region lo hi s
      → pointer_at size ((u16_bytes (region_number region) ++ i32_bytes lo ++ i32_bytes hi ++ step_size s ∷ []) ++ rest)
      ≡ Ok (facts.Pointer region lo hi s, rest)
  unfolding pointer_at
  pointer_again region lo hi s rest h =
      let regrouped : (u16_bytes (region_number region) ++ i32_bytes lo ++ i32_bytes hi ++ step_size s ∷ []) ++ rest
      ≡ u16_bytes (region_number region) ++ (i32_bytes lo ++ (i32_bytes hi ++ (step_size s ∷ rest))) = simp append_assoc in
      ap (pointer_at size) regrouped
      ∙ step _ (pointed_again region
      (i32_bytes lo ++ (i32_bytes hi ++ (step_size s ∷ rest))) h.region_fits)
      (step _ (interval_again size lo hi (step_size s ∷ rest) h.interval)
      (step _ (step_again lo hi s rest h.stepped) refl))

  -- a count that isn't 0, and whose last index is a word
  count_takes : (base : ℤ) (bytes : List ℕ) → IsBytes bytes
      → Has (count_at size base bytes) (Spelled bytes u32_bytes
      (λ n. (1 ≤ n) × (pos n ≤ℤ greatest_word) × ((base +ℤ pos n) ≤ℤ pos 2147483648)))
  unfolding count_at
  count_takes base bytes fits =
      tested_takes _ _ _ _ (u32_takes size bytes fits) (λ n below short. loop_parts base n short)

  count_again : (base : ℤ) (n : ℕ) (rest : List ℕ) → 1 ≤ n → pos n ≤ℤ greatest_word → (base +ℤ pos n) ≤ℤ pos 2147483648
      → count_at size base (u32_bytes n ++ rest) ≡ Ok (n, rest)
  unfolding count_at
  count_again base n rest some limit last =
      let lt : n < 2 ^ 32 = omega (arith, ints) in
      tested_again _ _ _ _ (u32_again size n rest lt)
      (rw (le-leb _ _ some, le-int_le _ _ limit, le-int_le _ _ last) refl)

  loop_again : (base : ℤ) (count weight : ℕ) (rest : List ℕ) → IsLoop base count weight
      → loop_at size ((i32_bytes base ++ u32_bytes count ++ u64_bytes weight) ++ rest)
      ≡ Ok (facts.Loop base count weight, rest)
  unfolding loop_at
  loop_again base count weight rest h =
      let regrouped : (i32_bytes base ++ u32_bytes count ++ u64_bytes weight) ++ rest ≡ i32_bytes base
      ++ (u32_bytes count ++ (u64_bytes weight ++ rest)) = simp append_assoc in
      ap (loop_at size) regrouped
      ∙ step _ (int_again size base (u32_bytes count ++ (u64_bytes weight ++ rest)) h.base_fits)
      (step _ (count_again base count (u64_bytes weight ++ rest) h.some h.limit h.last)
      (step _ (number_again size 8 u64_bytes (2 ^ 64) wide64 weight rest h.weight_fits) refl))

module _ (size code_len : ℕ) where
  range_takes : (tag : ℕ) (bytes : List ℕ) → IsBytes bytes → tag ≡ 1
      → Has (number_fact_at size bytes) (Spelled (tag ∷ bytes) fact_bytes (IsCommon code_len))
  unfolding number_fact_at fact_bytes
  range_takes tag bytes fits e =
      field (tag_taken e fits) (interval_takes size _) (λ range h t.
      all_taken t (record { register = h; word = λ span. h }))

  pointer_takes : (tag : ℕ) (bytes : List ℕ) → IsBytes bytes → tag ≡ 2
      → Has (pointer_at size bytes) (Spelled (tag ∷ bytes) fact_bytes (IsCommon code_len))
  unfolding pointer_at fact_bytes
  pointer_takes tag bytes fits e =
      field (tag_taken e fits) (pointed_takes size _) (λ region h t.
      field t (interval_takes size _) (λ range g u.
      field u (step_takes size range.0.0 range.0.1 _) (λ s k v.
      let kept : IsPointer region.0 range.0.0 range.0.1 s.0 =
      record { region_fits = h; interval = g; stepped = k } in
      all_taken (regroup (simp append_assoc) v) (record { register = kept; word = λ span. kept }))))

  code_address_takes : (tag : ℕ) (bytes : List ℕ) → IsBytes bytes → tag ≡ 3
      → Has (code_address_at size code_len bytes) (Spelled (tag ∷ bytes) fact_bytes (IsCommon code_len))
  unfolding code_address_at fact_bytes
  code_address_takes tag bytes fits e =
      field (tag_taken e fits) (at_most_takes size code_len _) (λ offset h t.
      all_taken t (record { register = h.1; word = λ span. h.1 }))

  fact_takes : (at tag : ℕ) (bytes : List ℕ) → IsBytes bytes
      → Has (fact_at size code_len at tag bytes) (Spelled (tag ∷ bytes) fact_bytes (IsCommon code_len))
  unfolding fact_at
  fact_takes at tag bytes fits =
      let wrong = fault faults.Range at in
      has_cond (eqb tag 1) (number_fact_at size bytes)
      (cond (eqb tag 2) (pointer_at size bytes)
      (cond (eqb tag 3) (code_address_at size code_len bytes) (Err wrong)))
      (λ one. range_takes tag bytes fits (eqb-true _ _ one)) (λ _.
      has_cond (eqb tag 2) (pointer_at size bytes) (cond (eqb tag 3) (code_address_at size code_len bytes) (Err wrong))
      (λ two. pointer_takes tag bytes fits (eqb-true _ _ two)) (λ _.
      has_if (eqb tag 3) wrong (code_address_at size code_len bytes)
      (λ three. code_address_takes tag bytes fits (eqb-true _ _ three))))

  register_takes : (bytes : List ℕ) → IsBytes bytes
      → Has (register_at size code_len bytes) (Spelled bytes fact_bytes (RegisterKeeps code_len))
  unfolding register_at byte_taken and_then fact_bytes
  register_takes [] fits = has_err (fault faults.Truncated size)
  register_takes (tag ∷ bytes) fits =
      let behind = IsBytes-rest tag bytes fits in
      let other = fact_at size code_len (place size (tag ∷ bytes)) tag bytes in
      has_cond (eqb tag 0) (Ok (facts.Unknown, bytes)) other (λ none.
      let parts : tag ∷ bytes ≡ fact_bytes facts.Unknown ++ bytes = ap (λ (t : ℕ). t ∷ bytes) (eqb-true _ _ none) in
      has_ok (facts.Unknown, bytes) (record { parts = parts; rest_fits = behind; keeps = tt })) (λ some.
      has_weaker other (fact_takes (place size (tag ∷ bytes)) tag bytes behind)
      (λ x h. record { parts = h.parts; rest_fits = h.rest_fits; keeps = h.keeps.register }))

  loop_takes : (tag span : ℕ) (bytes : List ℕ) → IsBytes bytes → tag ≡ 4 → span ≡ 2
      → Has (loop_at size bytes) (Spelled (tag ∷ bytes) fact_bytes (WordKeeps code_len span))
  unfolding loop_at fact_bytes
  loop_takes tag span bytes fits e two =
      field (tag_taken e fits) (int_takes size _) (λ base h t.
      field t (count_takes size base.0 _) (λ count g u.
      field u (number_takes size 8 u64_bytes (2 ^ 64) wide64 _) (λ weight k v.
      all_taken v (two, record { base_fits = h; some = g.0; limit = g.1; last = g.2; weight_fits = k }))))

  word_takes : (span : ℕ) (bytes : List ℕ) → IsBytes bytes
      → Has (word_fact_at size code_len span bytes) (Spelled bytes fact_bytes (WordKeeps code_len span))
  unfolding word_fact_at byte_taken and_then fact_bytes
  word_takes span [] fits = has_err (fault faults.Truncated size)
  word_takes span (tag ∷ bytes) fits =
      let behind = IsBytes-rest tag bytes fits in
      let other = fact_at size code_len (place size (tag ∷ bytes)) tag bytes in
      has_cond (eqb tag 4 && eqb span 2) (loop_at size bytes)
      (cond (eqb tag 5 && eqb span 1) (Ok (facts.ReturnAddress, bytes)) other) (λ turns.
      let both = and_parts (eqb tag 4) (eqb span 2) turns in
      loop_takes tag span bytes behind (eqb-true _ _ both.0) (eqb-true _ _ both.1)) (λ _.
      has_cond (eqb tag 5 && eqb span 1) (Ok (facts.ReturnAddress, bytes)) other (λ returns.
      let both = and_parts (eqb tag 5) (eqb span 1) returns in
      let parts : tag ∷ bytes ≡ fact_bytes facts.ReturnAddress ++ bytes =
      ap (λ (t : ℕ). t ∷ bytes) (eqb-true _ _ both.0) in
      has_ok (facts.ReturnAddress, bytes) (record { parts = parts; rest_fits = behind; keeps = eqb-true _ _ both.1 }))
      (λ _.
      has_weaker other (fact_takes (place size (tag ∷ bytes)) tag bytes behind)
      (λ x h. record { parts = h.parts; rest_fits = h.rest_fits; keeps = h.keeps.word span })))

module _ (size code_len : ℕ) (small : code_len < 2 ^ 32) where
  code_address_again : (offset : ℕ) (rest : List ℕ) → offset ≤ code_len
      → code_address_at size code_len (u32_bytes offset ++ rest) ≡ Ok (facts.CodeAddress offset, rest)
  unfolding code_address_at
  code_address_again offset rest h =
      let lt : offset < 2 ^ 32 = omega arith in
      step _ (at_most_again size code_len offset rest lt h) refl

  register_again : (f : Fact) (rest : List ℕ) → RegisterKeeps code_len f
      → register_at size code_len (fact_bytes f ++ rest) ≡ Ok (f, rest)
  unfolding register_at byte_taken and_then fact_at fact_bytes
  register_again facts.Unknown rest h = refl
  register_again (facts.Number lo hi) rest h = range_again size lo hi rest h
  register_again (facts.Pointer region lo hi s) rest h = pointer_again size region lo hi s rest h
  register_again (facts.CodeAddress offset) rest h = code_address_again offset rest h
  register_again (facts.Loop base count weight) rest h = elim h [ ]
  register_again facts.ReturnAddress rest h = elim h [ ]

  word_again : (span : ℕ) (f : Fact) (rest : List ℕ) → WordKeeps code_len span f
      → word_fact_at size code_len span (fact_bytes f ++ rest) ≡ Ok (f, rest)
  unfolding word_fact_at byte_taken and_then fact_at fact_bytes
  word_again span facts.Unknown rest h = elim h [ ]
  word_again span (facts.Number lo hi) rest h = range_again size lo hi rest h
  word_again span (facts.Pointer region lo hi s) rest h = pointer_again size region lo hi s rest h
  word_again span (facts.CodeAddress offset) rest h = code_address_again offset rest h
  word_again span (facts.Loop base count weight) rest h = rw h.0 (loop_again size base count weight rest h.1)
  word_again span facts.ReturnAddress rest h = rw h refl

-- ---- entries

module _ (size : ℕ) where
  pub first_word_takes : (low : ℤ) (bytes : List ℕ) → IsBytes bytes
      → Has (first_word_at size low bytes) (Spelled bytes i32_bytes (λ z. FitsSigned w32 z × (low ≤ℤ z)))
  unfolding first_word_at
  first_word_takes low bytes fits =
      tested_takes _ _ _ _ (int_takes size bytes fits) (λ z fits apart. (fits, int_le-true _ _ apart))

  pub first_word_again : (low z : ℤ) (rest : List ℕ) → FitsSigned w32 z → low ≤ℤ z
      → first_word_at size low (i32_bytes z ++ rest) ≡ Ok (z, rest)
  unfolding first_word_at
  first_word_again low z rest fits apart = tested_again _ _ _ _ (int_again size z rest fits) (le-int_le _ _ apart)

  -- a number that isn't 0
  pub span_takes : (bytes : List ℕ) → IsBytes bytes
      → Has (span_at size bytes) (Spelled bytes u32_bytes (λ n. (n < 2 ^ 32) × (1 ≤ n)))
  unfolding span_at
  span_takes bytes fits = tested_takes _ _ _ _ (u32_takes size bytes fits) (λ n below some. (below, leb-true _ _ some))

  pub span_again : (n : ℕ) (rest : List ℕ) → n < 2 ^ 32 → 1 ≤ n → span_at size (u32_bytes n ++ rest) ≡ Ok (n, rest)
  unfolding span_at
  span_again n rest fits some = tested_again _ _ _ _ (u32_again size n rest fits) (le-leb _ _ some)

module _ (size code_len : ℕ) where
  entry_takes : (low : ℤ) (bytes : List ℕ) → IsBytes bytes
      → Has (entry_at size code_len low bytes) (Spelled bytes entry_bytes (EntryKeeps code_len low))
  unfolding entry_at entry_bytes
  entry_takes low bytes fits =
      field (nothing_taken fits) (first_word_takes size low _) (λ word h t.
      field t (span_takes size _) (λ span g u.
      field u (word_takes size code_len span.0 _) (λ fact k v.
      all_taken v (record { word_fits = h.0; apart = h.1; span_fits = g.0; spans = g.1; fact = k }))))

  entries_take : (bytes : List ℕ) → IsBytes bytes
      → Has (entries_at size code_len bytes)
      (Spelled bytes (λ es. u16_bytes (length es) ++ flat_map entry_bytes es)
      (λ es. (length es < 2 ^ 16) × InOrder (EntryKeeps code_len) behind_entry least_word es))
  unfolding entries_at
  entries_take bytes fits =
      has_then _ _ (number_takes size 2 u16_bytes (2 ^ 16) wide16 bytes fits) (λ count h.
      has_weaker (list_at (entry_at size code_len) behind_entry count.0 least_word count.1)
      (list_takes entry_takes count.0 least_word count.1 h.rest_fits) (λ es g.
      let parts : bytes ≡ (u16_bytes (length es.0) ++ flat_map entry_bytes es.0) ++ es.1 =
      join (u16_bytes (length es.0)) (flat_map entry_bytes es.0) es.1 (rw g.keeps.0 h.parts) g.parts in
      record { parts = parts; rest_fits = g.rest_fits; keeps = (rw g.keeps.0 h.keeps, g.keeps.1) }))

module _ (size code_len : ℕ) (small : code_len < 2 ^ 32) where
  entry_again : (low : ℤ) (e : Entry) (rest : List ℕ) → EntryKeeps code_len low e
      → entry_at size code_len low (entry_bytes e ++ rest) ≡ Ok (e, rest)
  unfolding entry_at entry_bytes
  entry_again low e rest h =
      let regrouped : (i32_bytes e.word ++ u32_bytes e.span ++ fact_bytes e.fact) ++ rest ≡ i32_bytes e.word
      ++ (u32_bytes e.span ++ (fact_bytes e.fact ++ rest)) = simp append_assoc in
      ap (entry_at size code_len low) regrouped
      ∙ step _ (first_word_again size low e.word (u32_bytes e.span ++ (fact_bytes e.fact ++ rest)) h.word_fits h.apart)
      (step _ (span_again size e.span (fact_bytes e.fact ++ rest) h.span_fits h.spans)
      (step _ (word_again size code_len small e.span e.fact rest h.fact) refl))

  entries_again : (es : List Entry) (rest : List ℕ) → length es < 2 ^ 16
      → InOrder (EntryKeeps code_len) behind_entry least_word es
      → entries_at size code_len (u16_bytes (length es) ++ (flat_map entry_bytes es ++ rest)) ≡ Ok (es, rest)
  unfolding entries_at
  entries_again es rest lt h =
      step _ (number_again size 2 u16_bytes (2 ^ 16) wide16 (length es) (flat_map entry_bytes es ++ rest) lt)
      (list_again _ _ _ entry_again es least_word rest h)

-- ---- label rows

-- no procedure begins there
pub no_entry : (procedures : List Procedure) (offset : ℕ) → list_any (λ p. eqb p.entry offset) procedures ≡ false
    → AllByRecursion (λ p. p.entry ≢ offset) procedures
no_entry [] offset e = tt
no_entry (p ∷ ps) offset e =
    elim (eqb p.entry offset) as (λ b. eqb p.entry offset ≡ b → (b || list_any (λ q. eqb q.entry offset) ps) ≡ false
    → AllByRecursion (λ q. q.entry ≢ offset) (p ∷ ps)) [
      | true ↦ λ h g. absurd cc
      | false ↦ λ h g. (eqb-false _ _ h, no_entry ps offset g)
    ] refl e

pub none_begins : (procedures : List Procedure) (offset : ℕ) → AllByRecursion (λ p. p.entry ≢ offset) procedures
    → list_any (λ p. eqb p.entry offset) procedures ≡ false
none_begins [] offset h = refl
none_begins (p ∷ ps) offset h = rw (ne_eqb p.entry offset h.0) (none_begins ps offset h.1)

module _ (size code_len : ℕ) (procedures : List Procedure) where
  label_offset_takes : (low : ℕ) (bytes : List ℕ) → IsBytes bytes
      → Has (label_offset_at size code_len procedures low bytes)
      (Spelled bytes u32_bytes (IsLabelOffset code_len procedures low))
  unfolding label_offset_at
  label_offset_takes low bytes fits =
      let free = tested_takes {Q = λ n. (n < code_len) × AllByRecursion (λ p. p.entry ≢ n) procedures} _ _ _ _
      (in_code_takes size code_len bytes fits) (λ n h free. (h.1, no_entry procedures n (not-true _ free))) in
      tested_takes _ _ _ _ free (λ n h rises. record { rises = ltb-true _ _ rises; in_code = h.0; no_entry = h.1 })

  label_offset_again : (low n : ℕ) (rest : List ℕ) → n < 2 ^ 32 → IsLabelOffset code_len procedures low n
      → label_offset_at size code_len procedures low (u32_bytes n ++ rest) ≡ Ok (n, rest)
  unfolding label_offset_at
  label_offset_again low n rest fits h =
      let some : 1 ≤ n = let r = h.rises in omega arith in
      let free = tested_again _ _ _ _ (in_code_again size code_len n rest fits some h.in_code)
      (rw (none_begins procedures n h.no_entry) refl) in
      tested_again _ _ _ _ free (lt-ltb _ _ h.rises)

  registers_take : (bytes : List ℕ) → IsBytes bytes
      → Has (registers_at size code_len bytes)
      (Spelled bytes (λ (s : Stack Fact). fact_bytes s.a ++ fact_bytes s.b ++ fact_bytes s.c)
      (λ s. RegisterKeeps code_len s.a × RegisterKeeps code_len s.b × RegisterKeeps code_len s.c))
  unfolding registers_at
  registers_take bytes fits =
      field (nothing_taken fits) (register_takes size code_len _) (λ a h t.
      field t (register_takes size code_len _) (λ b g u.
      field u (register_takes size code_len _) (λ c k v. all_taken v (h, g, k))))

  label_takes : (low : ℕ) (bytes : List ℕ) → IsBytes bytes
      → Has (label_row_at size code_len procedures low bytes)
      (Spelled bytes label_bytes (LabelKeeps code_len procedures low))
  unfolding label_row_at label_bytes
  label_takes low bytes fits =
      field (nothing_taken fits) (label_offset_takes low _) (λ offset h0 t0.
      field t0 (number_takes size 2 u16_bytes (2 ^ 16) wide16 _) (λ context h1 t1.
      field t1 (int_takes size _) (λ depth h2 t2.
      field t2 (number_takes size 8 u64_bytes (2 ^ 64) wide64 _) (λ number h3 t3.
      field t3 (registers_take _) (λ r h4 t4.
      field t4 (entries_take size code_len _) (λ es h5 t5.
      all_taken (regroup (simp append_assoc) t5) (record {
        offset = h0;
        context_fits = h1;
        depth_fits = h2;
        number_fits = h3;
        facts = record { a = h4.0; b = h4.1; c = h4.2; count_fits = h5.0; entries = h5.1 };
      })))))))

  pub labels_take : (count : ℕ) (bytes : List ℕ) → IsBytes bytes
      → Has (label_rows_at size code_len procedures count bytes)
      (Spelled bytes (flat_map label_bytes)
      (λ rows. (length rows ≡ count) × InOrder (LabelKeeps code_len procedures) behind_label 0 rows))
  unfolding label_rows_at
  labels_take count bytes fits = list_takes label_takes count 0 bytes fits

  module _ (small : code_len < 2 ^ 32) where
    registers_again : (s : Stack Fact) (rest : List ℕ)
        → RegisterKeeps code_len s.a → RegisterKeeps code_len s.b → RegisterKeeps code_len s.c
        → registers_at size code_len (fact_bytes s.a ++ (fact_bytes s.b ++ (fact_bytes s.c ++ rest))) ≡ Ok (s, rest)
    unfolding registers_at
    registers_again s rest h g k =
        step _ (register_again size code_len small s.a (fact_bytes s.b ++ (fact_bytes s.c ++ rest)) h)
        (step _ (register_again size code_len small s.b (fact_bytes s.c ++ rest) g)
        (step _ (register_again size code_len small s.c rest k) refl))

    label_again : (low : ℕ) (row : Label) (rest : List ℕ) → LabelKeeps code_len procedures low row
        → label_row_at size code_len procedures low (label_bytes row ++ rest) ≡ Ok (row, rest)
    unfolding label_row_at label_bytes
    label_again low row rest h =
        let tail5 = u16_bytes (length row.entries) ++ (flat_map entry_bytes row.entries ++ rest) in
        let tail4 = fact_bytes row.stack.a ++ (fact_bytes row.stack.b ++ (fact_bytes row.stack.c ++ tail5)) in
        let tail3 = u64_bytes row.number ++ tail4 in
        let tail2 = i32_bytes row.depth ++ tail3 in
        let tail1 = u16_bytes row.context ++ tail2 in
        let regrouped : label_bytes row ++ rest ≡ u32_bytes row.offset ++ tail1 = simp append_assoc in
        let fits : row.offset < 2 ^ 32 = let inside = h.offset.in_code in omega arith in
        let f = h.facts in
        ap (label_row_at size code_len procedures low) regrouped
        ∙ step _ (label_offset_again low row.offset tail1 fits h.offset)
        (step _ (number_again size 2 u16_bytes (2 ^ 16) wide16 row.context tail2 h.context_fits)
        (step _ (int_again size row.depth tail3 h.depth_fits)
        (step _ (number_again size 8 u64_bytes (2 ^ 64) wide64 row.number tail4 h.number_fits)
        (step _ (registers_again row.stack tail5 f.a f.b f.c)
        (step _ (entries_again size code_len small row.entries rest f.count_fits f.entries) refl)))))

    pub labels_again : (rows : List Label) (rest : List ℕ)
        → InOrder (LabelKeeps code_len procedures) behind_label 0 rows
        → label_rows_at size code_len procedures (length rows) (flat_map label_bytes rows ++ rest) ≡ Ok (rows, rest)
    unfolding label_rows_at
    labels_again rows rest h = list_again _ _ _ label_again rows 0 rest h
