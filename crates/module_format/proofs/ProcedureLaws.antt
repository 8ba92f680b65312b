-- The laws of parameters, procedure rows and table rows.
use Rattle.std.proofs.Common.{◌≡◌, ℕ, ◌-◌, ◌^◌, ◌<◌, ◌≤◌, ℤ, pos, negsuc, ◌≤ℤ◌, ◌<ℤ◌, true, ◌&&◌, cond, ltb, eqb, List}
use Rattle.std.proofs.Common.{[], ◌∷◌, ◌++◌, length, take, drop, Ok, Err, refl, sym, ap, ◌∙◌, append_assoc, arith}
use Rattle.std.proofs.Common.{FitsSigned}
use Rattle.std.specs.Prelude.{IsTrue, nat_le, int_lt, int_le}
use Rattle.std.specs.Int.{w32}
use Rattle.std.specs.List.{flat_map, list_all, AllByRecursion}
use Rattle.std.proofs.lemmas.Int.{ints}
use Rattle.std.proofs.lemmas.Bool.{leb-true, le-leb, ltb-true, lt-ltb, eqb-true, and_parts}
use Rattle.small_laws.proofs.Comparisons.{int_le-true, le-int_le, int_lt-true, lt-int_lt}
use Rattle.module_format.specs.declared.fault.FormatFaultKind.TheVariants as faults
use Rattle.module_format.specs.declared.limits.TheConstants.{MAX_PARAMETERS, MAX_MESSAGE}
use Rattle.module_format.specs.declared.rows.Ends.{Ends}
use Rattle.module_format.specs.declared.rows.Parameter.{Parameter}
use Rattle.module_format.specs.declared.rows.ParameterKind.{ParameterKind}
use Rattle.module_format.specs.declared.rows.ParameterKind.TheVariants as kinds
use Rattle.module_format.specs.declared.rows.TableRow.{TableRow}
use Rattle.module_format.specs.declared.tables.Version.{Version}
use Rattle.module_format.specs.declared.tables.Version.TheVariants as versions
use Rattle.module_format.specs.Contents.{Procedure}
use Rattle.module_format.specs.Order.{IsBytes, InOrder, IsInterval, least_word, greatest_word, is_multiple_of_four}
use Rattle.module_format.specs.Procedures.{IsRegion, AreChannels, KindKeeps, ParameterKeeps, behind_parameter}
use Rattle.module_format.specs.Procedures.{ProcedureKeeps, behind_procedure, RangeFits, KindFits, ProcedureFits}
use Rattle.module_format.specs.Procedures.{words_in_bytes, IsBetween, TableKeeps, behind_table}
use Rattle.module_format.specs.Spelling.{u16_bytes, u32_bytes, u64_bytes, i32_bytes, range_bytes, kind_bytes}
use Rattle.module_format.specs.Spelling.{parameter_bytes, procedure_bytes, table_row_bytes}
use Rattle.module_format.specs.Reading.{and_then, fault, place, tested, byte_taken, int_at, interval_at, list_at}
use Rattle.module_format.specs.ReadingRows.{words_range_at, region_size_at, region_at, ends_at, channels_at, value_at}
use Rattle.module_format.specs.ReadingRows.{kind_at, parameter_word_at, parameter_at, parameter_rows_at, frame_start_at}
use Rattle.module_format.specs.ReadingRows.{frame_end_at, rising_at, procedure_row_at, procedure_rows_at}
use Rattle.module_format.specs.ReadingRows.{table_start_at, table_end_at, lies_between, table_row_at, table_rows_at}
use Rattle.module_format.proofs.ReadsInSteps.{Has, has_ok, has_err, has_then, has_if, has_cond, has_weaker, step}
use Rattle.module_format.proofs.ReadsInSteps.{Spelled}
use Rattle.module_format.proofs.ReadsInSteps.{nothing_taken, tag_taken, field, regroup, all_taken}
use Rattle.module_format.proofs.ReadsInSteps.{join, tested_takes, tested_again, list_takes, list_again}
use Rattle.module_format.proofs.FieldLaws.{IsBytes-rest, wide16, wide64, number_takes, number_again, limited_takes}
use Rattle.module_format.proofs.FieldLaws.{limited_again, u32_takes, u32_again, positive_takes, positive_again}
use Rattle.module_format.proofs.FieldLaws.{in_code_takes, in_code_again, int_takes, int_again, interval_takes}
use Rattle.module_format.proofs.FieldLaws.{interval_again, byte_takes}
use Rattle.module_format.proofs.OrderLaws.{parted, joined}
use Rattle.module_format.proofs.RowLaws.{span_takes, span_again}

-- tests

-- ---- kinds of parameters

-- kinds, parameters and procedure rows that keep their rules, and that a version can say
abbrev KindIn : Version → ParameterKind → Type 0
KindIn version kind = KindKeeps kind × KindFits version kind

abbrev ParameterIn : Version → ℤ → ℕ → Parameter → Type 0
ParameterIn version hi low p = ParameterKeeps hi low p × KindFits version p.kind

abbrev ProcedureIn : Version → ℕ → ℕ → Procedure → Type 0
ProcedureIn version code_len low row = ProcedureKeeps code_len low row × ProcedureFits version row

full_interval : IsInterval least_word greatest_word
full_interval = record { lo_fits = omega (arith, ints); hi_fits = omega (arith, ints); ordered = omega (arith, ints) }

module _ (size : ℕ) where
  words_range_takes : (version : Version) (bytes : List ℕ) → IsBytes bytes
      → Has (words_range_at size version bytes)
      (Spelled bytes (λ r. range_bytes version r.0 r.1) (λ r. IsInterval r.0 r.1 × RangeFits version r.0 r.1))
  unfolding words_range_at
  words_range_takes versions.One bytes fits =
      has_ok ((least_word, greatest_word), bytes)
      (record { parts = refl; rest_fits = fits; keeps = (full_interval, (refl, refl)) })
  words_range_takes versions.Two bytes fits =
      has_weaker (interval_at size bytes) (interval_takes size bytes fits) (λ r h.
      record { parts = h.parts; rest_fits = h.rest_fits; keeps = (h.keeps, tt) })

  words_range_again : (version : Version) (lo hi : ℤ) (rest : List ℕ) → IsInterval lo hi → RangeFits version lo hi
      → words_range_at size version (range_bytes version lo hi ++ rest) ≡ Ok ((lo, hi), rest)
  unfolding words_range_at
  words_range_again versions.One lo hi rest h told = rw (told.0, told.1) refl
  words_range_again versions.Two lo hi rest h told =
      ap (interval_at size) (append_assoc (i32_bytes lo) (i32_bytes hi) rest) ∙ interval_again size lo hi rest h

  -- a count of bytes that is one of whole words
  region_size_takes : (bytes : List ℕ) → IsBytes bytes
      → Has (region_size_at size bytes)
      (Spelled bytes u32_bytes (λ n. (n < 2 ^ 32) × (4 ≤ n) × IsTrue (is_multiple_of_four n)))
  unfolding region_size_at
  region_size_takes bytes fits =
      tested_takes _ _ _ _ (u32_takes size bytes fits) (λ n below whole.
      let both = and_parts (nat_le 4 n) (is_multiple_of_four n) whole in
      (below, leb-true _ _ both.0, both.1))

  region_size_again : (n : ℕ) (rest : List ℕ) → n < 2 ^ 32 → 4 ≤ n → IsTrue (is_multiple_of_four n)
      → region_size_at size (u32_bytes n ++ rest) ≡ Ok (n, rest)
  unfolding region_size_at
  region_size_again n rest lt some words =
      tested_again _ _ _ _ (u32_again size n rest lt) (rw (le-leb _ _ some, words) refl)

  -- a region, whose kind has tag n
  region_takes : (version : Version) (kind : ℕ → ℤ → ℤ → ParameterKind) (tag n : ℕ) (bytes : List ℕ)
      → ((bytes : ℕ) (lo hi : ℤ) → kind_bytes version (kind bytes lo hi) ≡ n ∷
      (u32_bytes bytes ++ range_bytes version lo hi))
      → ((bytes : ℕ) (lo hi : ℤ) → IsRegion bytes lo hi → KindKeeps (kind bytes lo hi))
      → ((bytes : ℕ) (lo hi : ℤ) → RangeFits version lo hi → KindFits version (kind bytes lo hi))
      → IsBytes bytes → tag ≡ n → Has (region_at size version kind bytes)
      (Spelled (tag ∷ bytes) (kind_bytes version) (KindIn version))
  unfolding region_at
  region_takes version kind tag n bytes spelled kept told fits e =
      field (tag_taken e fits) (region_size_takes _) (λ region h t.
      field t (words_range_takes version _) (λ range g u.
      all_taken (regroup (sym (spelled region.0 range.0.0 range.0.1)) u) (
        kept region.0 range.0.0 range.0.1 (record { size_fits = h.0; some = h.1; words = h.2; range = g.0 }),
        told region.0 range.0.0 range.0.1 g.1,
      )))

  region_again : (version : Version) (kind : ℕ → ℤ → ℤ → ParameterKind) (n : ℕ) (lo hi : ℤ) (rest : List ℕ)
      → IsRegion n lo hi → RangeFits version lo hi
      → region_at size version kind ((u32_bytes n ++ range_bytes version lo hi) ++ rest) ≡ Ok (kind n lo hi, rest)
  unfolding region_at
  region_again version kind n lo hi rest h told =
      ap (region_at size version kind) (append_assoc (u32_bytes n) (range_bytes version lo hi) rest)
      ∙ step _ (region_size_again n (range_bytes version lo hi ++ rest) h.size_fits h.some h.words)
      (step _ (words_range_again version lo hi rest h.range told) refl)

  ends_take : (bytes : List ℕ) → IsBytes bytes
      → Has (ends_at size bytes) (Spelled bytes (λ ends. ends.0 ∷ []) (λ ends. (1 ≤ ends.0) × (ends.0 ≤ 3)))
  unfolding ends_at
  ends_take bytes fits =
      let read =
      tested_takes {Q = λ bits. (1 ≤ bits) × (bits ≤ 3)} _ _ _ _ (byte_takes size bytes fits) (λ bits below some.
      let both = and_parts (nat_le 1 bits) (nat_le bits 3) some in
      (leb-true _ _ both.0, leb-true _ _ both.1)) in
      has_then _ _ read (λ bits h.
      has_ok (record { 0 = bits.0 }, bits.1) (record { parts = h.parts; rest_fits = h.rest_fits; keeps = h.keeps }))

  ends_again : (ends : Ends) (rest : List ℕ) → 1 ≤ ends.0 → ends.0 ≤ 3 → ends_at size (ends.0 ∷ rest) ≡ Ok (ends, rest)
  unfolding ends_at byte_taken
  ends_again ends rest some few = step _ (tested_again _ _ _ _ refl (rw (le-leb _ _ some, le-leb _ _ few) refl)) refl

  channels_take : (version : Version) (tag : ℕ) (bytes : List ℕ) → IsBytes bytes → tag ≡ 3
      → Has (channels_at size bytes) (Spelled (tag ∷ bytes) (kind_bytes version) (KindIn version))
  unfolding channels_at
  channels_take version tag bytes fits e =
      field (tag_taken e fits) (span_takes size _) (λ count h t.
      field t (positive_takes size MAX_MESSAGE _) (λ len g u.
      field u (ends_take _) (λ ends k v.
      all_taken v (
        record { count_fits = h.0; some = h.1; has_length = g.0; limit = g.1; has_end = k.0; no_more = k.1 },
        tt,
      ))))

  channels_again : (count len : ℕ) (ends : Ends) (rest : List ℕ) → AreChannels count len ends.0
      → channels_at size ((u32_bytes count ++ u32_bytes len ++ ends.0 ∷ []) ++ rest)
      ≡ Ok (kinds.Channels count len ends, rest)
  unfolding channels_at
  channels_again count len ends rest h =
      let regrouped : (u32_bytes count ++ u32_bytes len ++ ends.0 ∷ []) ++ rest ≡ u32_bytes count
      ++ (u32_bytes len ++ (ends.0 ∷ rest)) = simp append_assoc in
      let lt : len < 2 ^ 32 = let limit = h.limit in omega arith in
      ap (channels_at size) regrouped
      ∙ step _ (span_again size count (u32_bytes len ++ (ends.0 ∷ rest)) h.count_fits h.some)
      (step _ (positive_again size MAX_MESSAGE len (ends.0 ∷ rest) lt h.has_length h.limit)
      (step _ (ends_again ends rest h.has_end h.no_more) refl))

  value_takes : (version : Version) (tag : ℕ) (bytes : List ℕ) → IsBytes bytes → tag ≡ 0
      → Has (value_at size bytes) (Spelled (tag ∷ bytes) (kind_bytes version) (KindIn version))
  unfolding value_at
  value_takes version tag bytes fits e =
      field (tag_taken e fits) (interval_takes size _) (λ range h t. all_taken t (h, tt))

  value_again : (lo hi : ℤ) (rest : List ℕ) → IsInterval lo hi
      → value_at size ((i32_bytes lo ++ i32_bytes hi) ++ rest) ≡ Ok (kinds.Value lo hi, rest)
  unfolding value_at
  value_again lo hi rest h = ap (value_at size) (append_assoc (i32_bytes lo) (i32_bytes hi) rest) ∙ step _
      (interval_again size lo hi rest h) refl

  kind_takes : (version : Version) (bytes : List ℕ) → IsBytes bytes
      → Has (kind_at size version bytes) (Spelled bytes (kind_bytes version) (KindIn version))
  unfolding kind_at byte_taken and_then
  kind_takes version [] fits = has_err (fault faults.Truncated size)
  kind_takes version (tag ∷ bytes) fits =
      let behind = IsBytes-rest tag bytes fits in
      let wrong = fault faults.Range (place size (tag ∷ bytes)) in
      let written = region_at size version kinds.WrittenRegion bytes in
      let read = region_at size version kinds.ReadRegion bytes in
      has_cond (eqb tag 0) (value_at size bytes)
      (cond (eqb tag 1) read (cond (eqb tag 2) written (cond (eqb tag 3) (channels_at size bytes) (Err wrong))))
      (λ none. value_takes version tag bytes behind (eqb-true _ _ none)) (λ _.
      has_cond (eqb tag 1) read (cond (eqb tag 2) written (cond (eqb tag 3) (channels_at size bytes) (Err wrong)))
      (λ one.
      region_takes version kinds.ReadRegion tag 1 bytes (λ n lo hi. refl) (λ n lo hi h. h) (λ n lo hi h. h) behind
      (eqb-true _ _ one))
      (λ _.
      has_cond (eqb tag 2) written (cond (eqb tag 3) (channels_at size bytes) (Err wrong)) (λ two.
      region_takes version kinds.WrittenRegion tag 2 bytes (λ n lo hi. refl) (λ n lo hi h. h) (λ n lo hi h. h) behind
      (eqb-true _ _ two))
      (λ _.
      has_if (eqb tag 3) wrong (channels_at size bytes)
      (λ three. channels_take version tag bytes behind (eqb-true _ _ three)))))

  kind_again : (version : Version) (kind : ParameterKind) (rest : List ℕ) → KindIn version kind
      → kind_at size version (kind_bytes version kind ++ rest) ≡ Ok (kind, rest)
  unfolding kind_at byte_taken and_then
  kind_again version (kinds.Value lo hi) rest h = value_again lo hi rest h.0
  kind_again version (kinds.ReadRegion n lo hi) rest h = region_again version kinds.ReadRegion n lo hi rest h.0 h.1
  kind_again version (kinds.WrittenRegion n lo hi) rest h =
      region_again version kinds.WrittenRegion n lo hi rest h.0 h.1
  kind_again version (kinds.Channels count len ends) rest h = channels_again count len ends rest h.0

-- ---- parameters

module _ (size : ℕ) (version : Version) (hi : ℤ) where
  parameter_word_takes : (low : ℕ) (bytes : List ℕ) → IsBytes bytes
      → Has (parameter_word_at size hi low bytes) (Spelled bytes u16_bytes (λ word. (low < word) × (pos word <ℤ hi)))
  unfolding parameter_word_at
  parameter_word_takes low bytes fits =
      let inside = tested_takes {Q = λ word. pos word <ℤ hi} _ _ _ _
      (number_takes size 2 u16_bytes (2 ^ 16) wide16 bytes fits) (λ word below both.
      int_lt-true _ _ (and_parts (nat_le 1 word) (int_lt (pos word) hi) both).1) in
      tested_takes _ _ _ _ inside (λ word below rises. (ltb-true _ _ rises, below))

  parameter_takes : (low : ℕ) (bytes : List ℕ) → IsBytes bytes
      → Has (parameter_at size version hi low bytes)
      (Spelled bytes (parameter_bytes version) (ParameterIn version hi low))
  unfolding parameter_at parameter_bytes
  parameter_takes low bytes fits =
      field (nothing_taken fits) (parameter_word_takes low _) (λ word h t.
      field t (kind_takes size version _) (λ kind g u.
      all_taken u (record { rises = h.0; inside = h.1; kind = g.0 }, g.1)))

  parameters_take : (bytes : List ℕ) → IsBytes bytes
      → Has (parameter_rows_at size version hi bytes)
      (Spelled bytes (λ ps. u16_bytes (length ps) ++ flat_map (parameter_bytes version) ps)
      (λ ps. (length ps ≤ MAX_PARAMETERS) × InOrder (ParameterIn version hi) behind_parameter 0 ps))
  unfolding parameter_rows_at
  parameters_take bytes fits =
      has_then _ _ (limited_takes size 2 u16_bytes (2 ^ 16) wide16 MAX_PARAMETERS bytes fits) (λ count h.
      has_weaker (list_at (parameter_at size version hi) behind_parameter count.0 0 count.1)
      (list_takes parameter_takes count.0 0 count.1 h.rest_fits) (λ ps g.
      let parts : bytes ≡ (u16_bytes (length ps.0) ++ flat_map (parameter_bytes version) ps.0) ++ ps.1 =
      join (u16_bytes (length ps.0)) (flat_map (parameter_bytes version) ps.0) ps.1
      (rw g.keeps.0 h.parts) g.parts in
      record { parts = parts; rest_fits = g.rest_fits; keeps = (rw g.keeps.0 h.keeps.1, g.keeps.1) }))

  module _ (low_hi : hi ≤ℤ pos 16384) where
    parameter_word_again : (low word : ℕ) (rest : List ℕ) → low < word → pos word <ℤ hi
        → parameter_word_at size hi low (u16_bytes word ++ rest) ≡ Ok (word, rest)
    unfolding parameter_word_at
    parameter_word_again low word rest rises inside =
        let some : 1 ≤ word = omega arith in
        let fits : word < 2 ^ 16 = omega (arith, ints) in
        let within = tested_again _ _ _ _ (number_again size 2 u16_bytes (2 ^ 16) wide16 word rest fits)
        (rw (le-leb _ _ some, lt-int_lt _ _ inside) refl) in
        tested_again _ _ _ _ within (lt-ltb _ _ rises)

    parameter_again : (low : ℕ) (p : Parameter) (rest : List ℕ) → ParameterIn version hi low p
        → parameter_at size version hi low (parameter_bytes version p ++ rest) ≡ Ok (p, rest)
    unfolding parameter_at parameter_bytes
    parameter_again low p rest h =
        ap (parameter_at size version hi low) (append_assoc (u16_bytes p.word) (kind_bytes version p.kind) rest)
        ∙ step _ (parameter_word_again low p.word (kind_bytes version p.kind ++ rest) h.0.rises h.0.inside)
        (step _ (kind_again size version p.kind rest (h.0.kind, h.1)) refl)

    parameters_again : (ps : List Parameter) (rest : List ℕ) → length ps ≤ MAX_PARAMETERS
        → InOrder (ParameterIn version hi) behind_parameter 0 ps
        → parameter_rows_at size version hi (u16_bytes (length ps) ++ (flat_map (parameter_bytes version) ps ++ rest))
        ≡ Ok (ps, rest)
    unfolding parameter_rows_at
    parameters_again ps rest few h =
        let lt : length ps < 2 ^ 16 = omega arith in
        step _ (limited_again size 2 u16_bytes (2 ^ 16) wide16 MAX_PARAMETERS (length ps)
        (flat_map (parameter_bytes version) ps ++ rest) lt few)
        (list_again _ _ _ parameter_again ps 0 rest h)

-- ---- procedure rows

module _ (size : ℕ) where
  -- a word from one up to another, both included
  module _ (least most : ℤ) where
    bounded_takes : (bytes : List ℕ) → IsBytes bytes
        → Has (tested (int_at size bytes) (λ n. int_le least n && int_le n most) faults.Range (place size bytes))
        (Spelled bytes i32_bytes (λ n. (least ≤ℤ n) × (n ≤ℤ most)))
    bounded_takes bytes fits =
        tested_takes _ _ _ _ (int_takes size bytes fits) (λ n fits inside.
        let both = and_parts (int_le least n) (int_le n most) inside in
        (int_le-true _ _ both.0, int_le-true _ _ both.1))

    bounded_again : (n : ℤ) (rest : List ℕ) → FitsSigned w32 n → least ≤ℤ n → n ≤ℤ most
        → tested (int_at size (i32_bytes n ++ rest)) (λ n. int_le least n && int_le n most) faults.Range
        (place size (i32_bytes n ++ rest)) ≡ Ok (n, rest)
    bounded_again n rest fits above below =
        tested_again _ _ _ _ (int_again size n rest fits) (rw (le-int_le _ _ above, le-int_le _ _ below) refl)

  rising_takes : (code_len low : ℕ) (bytes : List ℕ) → IsBytes bytes
      → Has (rising_at size code_len low bytes) (Spelled bytes u32_bytes (λ n. (low < n) × (n < code_len)))
  unfolding rising_at
  rising_takes code_len low bytes fits =
      tested_takes _ _ _ _ (in_code_takes size code_len bytes fits) (λ n h rises. (ltb-true _ _ rises, h.1))

  rising_again : (code_len low n : ℕ) (rest : List ℕ) → n < 2 ^ 32 → low < n → n < code_len
      → rising_at size code_len low (u32_bytes n ++ rest) ≡ Ok (n, rest)
  unfolding rising_at
  rising_again code_len low n rest fits rises inside =
      let some : 1 ≤ n = omega arith in
      tested_again _ _ _ _ (in_code_again size code_len n rest fits some inside) (lt-ltb _ _ rises)

module _ (size : ℕ) (version : Version) (code_len : ℕ) where
  procedure_takes : (low : ℕ) (bytes : List ℕ) → IsBytes bytes
      → Has (procedure_row_at size version code_len low bytes)
      (Spelled bytes (procedure_bytes version) (ProcedureIn version code_len low))
  unfolding procedure_row_at frame_start_at frame_end_at procedure_bytes
  procedure_takes low bytes fits =
      field (nothing_taken fits) (rising_takes size code_len low _) (λ entry h0 t0.
      field t0 (bounded_takes size (negsuc 16383) (pos 0) _) (λ lo h1 t1.
      field t1 (bounded_takes size (pos 4) (pos 16384) _) (λ hi h2 t2.
      field t2 (number_takes size 8 u64_bytes (2 ^ 64) wide64 _) (λ number h3 t3.
      field t3 (parameters_take size version hi.0 _) (λ ps h4 t4.
      let both =
      parted (ParameterKeeps hi.0) (λ (p : Parameter). KindFits version p.kind) behind_parameter 0 ps.0 h4.1 in
      all_taken (regroup (simp append_assoc) t4) (
        record {
          rises = h0.0;
          in_code = h0.1;
          lo_low = h1.0;
          lo_high = h1.1;
          hi_low = h2.0;
          hi_high = h2.1;
          number_fits = h3;
          few = h4.0;
          parameters = both.0;
        },
        both.1,
      ))))))

  pub procedures_take : (count : ℕ) (bytes : List ℕ) → IsBytes bytes
      → Has (procedure_rows_at size version code_len count bytes)
      (Spelled bytes (flat_map (procedure_bytes version))
      (λ rows. (length rows ≡ count) × InOrder (ProcedureKeeps code_len) behind_procedure 0 rows
      × AllByRecursion (ProcedureFits version) rows))
  unfolding procedure_rows_at
  procedures_take count bytes fits =
      has_weaker (procedure_rows_at size version code_len count bytes) (list_takes procedure_takes count 0 bytes fits)
      (λ rows h.
      let both = parted (ProcedureKeeps code_len) (ProcedureFits version) behind_procedure 0 rows.0 h.keeps.1 in
      record { parts = h.parts; rest_fits = h.rest_fits; keeps = (h.keeps.0, both.0, both.1) })

  module _ (small : code_len < 2 ^ 32) where
    procedure_again : (low : ℕ) (row : Procedure) (rest : List ℕ) → ProcedureIn version code_len low row
        → procedure_row_at size version code_len low (procedure_bytes version row ++ rest) ≡ Ok (row, rest)
    unfolding procedure_row_at frame_start_at frame_end_at procedure_bytes
    procedure_again low row rest both =
        let h = both.0 in
        let parameters =
        joined (ParameterKeeps row.hi) (λ (p : Parameter). KindFits version p.kind) behind_parameter 0 row.parameters
        h.parameters both.1 in
        let tail4 = u16_bytes (length row.parameters) ++ (flat_map (parameter_bytes version) row.parameters ++ rest) in
        let tail3 = u64_bytes row.number ++ tail4 in
        let tail2 = i32_bytes row.hi ++ tail3 in
        let tail1 = i32_bytes row.lo ++ tail2 in
        let regrouped : procedure_bytes version row ++ rest ≡ u32_bytes row.entry ++ tail1 = simp append_assoc in
        let fits : row.entry < 2 ^ 32 = let inside = h.in_code in omega arith in
        let lo_fits : FitsSigned w32 row.lo = let low = h.lo_low in let high = h.lo_high in omega (arith, ints) in
        let hi_fits : FitsSigned w32 row.hi = let low = h.hi_low in let high = h.hi_high in omega (arith, ints) in
        ap (procedure_row_at size version code_len low) regrouped
        ∙ step _ (rising_again size code_len low row.entry tail1 fits h.rises h.in_code)
        (step _ (bounded_again size (negsuc 16383) (pos 0) row.lo tail2 lo_fits h.lo_low h.lo_high)
        (step _ (bounded_again size (pos 4) (pos 16384) row.hi tail3 hi_fits h.hi_low h.hi_high)
        (step _ (number_again size 8 u64_bytes (2 ^ 64) wide64 row.number tail4 h.number_fits)
        (step _ (parameters_again size version row.hi h.hi_high row.parameters rest h.few parameters) refl))))

    pub procedures_again : (rows : List Procedure) (rest : List ℕ)
        → InOrder (ProcedureKeeps code_len) behind_procedure 0 rows → AllByRecursion (ProcedureFits version) rows
        → procedure_rows_at size version code_len (length rows) (flat_map (procedure_bytes version) rows ++ rest)
        ≡ Ok (rows, rest)
    unfolding procedure_rows_at
    procedures_again rows rest h told =
        list_again _ _ _ procedure_again rows 0 rest
        (joined (ProcedureKeeps code_len) (ProcedureFits version) behind_procedure 0 rows h told)

-- ---- table rows

-- words that all lie from lo to hi
pub all_within : (lo hi : ℤ) (words : List ℤ) → list_all (lies_between lo hi) words ≡ true
    → AllByRecursion (IsBetween lo hi) words
all_within lo hi [] e = tt
all_within lo hi (word ∷ words) e =
    let both = and_parts (lies_between lo hi word) (list_all (lies_between lo hi) words) e in
    let ends = and_parts (int_le lo word) (int_le word hi) both.0 in
    (record { low = int_le-true _ _ ends.0; high = int_le-true _ _ ends.1 }, all_within lo hi words both.1)

pub within_all : (lo hi : ℤ) (words : List ℤ) → AllByRecursion (IsBetween lo hi) words
    → list_all (lies_between lo hi) words ≡ true
within_all lo hi [] h = refl
within_all lo hi (word ∷ words) h = rw (le-int_le _ _ h.0.low, le-int_le _ _ h.0.high) (within_all lo hi words h.1)

module _ (size : ℕ) where
  table_start_takes : (low : ℕ) (bytes : List ℕ) → IsBytes bytes
      → Has (table_start_at size low bytes) (Spelled bytes u32_bytes (λ n. IsTrue (is_multiple_of_four n) × (low ≤ n)))
  unfolding table_start_at
  table_start_takes low bytes fits =
      let aligned = tested_takes {Q = λ n. IsTrue (is_multiple_of_four n)} _ _ _ _ (u32_takes size bytes fits)
      (λ n below aligned. aligned) in
      tested_takes _ _ _ _ aligned (λ n aligned apart. (aligned, leb-true _ _ apart))

  table_start_again : (low n : ℕ) (rest : List ℕ) → n < 2 ^ 32 → IsTrue (is_multiple_of_four n) → low ≤ n
      → table_start_at size low (u32_bytes n ++ rest) ≡ Ok (n, rest)
  unfolding table_start_at
  table_start_again low n rest fits aligned apart =
      tested_again _ _ _ _ (tested_again _ _ _ _ (u32_again size n rest fits) aligned) (le-leb _ _ apart)

  table_end_takes : (const_len start : ℕ) (bytes : List ℕ) → IsBytes bytes
      → Has (table_end_at size const_len start bytes)
      (Spelled bytes u32_bytes (λ n. IsTrue (is_multiple_of_four n) × (start < n) × (n ≤ const_len)))
  unfolding table_end_at
  table_end_takes const_len start bytes fits =
      tested_takes _ _ _ _ (u32_takes size bytes fits) (λ n below all.
      let both = and_parts (is_multiple_of_four n && ltb start n) (nat_le n const_len) all in
      let first = and_parts (is_multiple_of_four n) (ltb start n) both.0 in
      (first.0, ltb-true _ _ first.1, leb-true _ _ both.1))

  table_end_again : (const_len start n : ℕ) (rest : List ℕ) → n < 2 ^ 32 → IsTrue (is_multiple_of_four n) → start < n
      → n ≤ const_len → table_end_at size const_len start (u32_bytes n ++ rest) ≡ Ok (n, rest)
  unfolding table_end_at
  table_end_again const_len start n rest fits aligned ordered inside =
      tested_again _ _ _ _ (u32_again size n rest fits) (rw (aligned, lt-ltb _ _ ordered, le-leb _ _ inside) refl)

module _ (size : ℕ) (constants : List ℕ) where
  table_takes : (low : ℕ) (bytes : List ℕ) → IsBytes bytes
      → Has (table_row_at size constants low bytes) (Spelled bytes table_row_bytes (TableKeeps constants low))
  unfolding table_row_at table_row_bytes
  table_takes low bytes fits =
      field (nothing_taken fits) (table_start_takes size low _) (λ start h0 t0.
      field t0 (table_end_takes size (length constants) start.0 _) (λ end h1 t1.
      let words = words_in_bytes (take (end.0 - start.0) (drop start.0 constants)) in
      let range_takes = λ (some : IsBytes end.1).
      tested_takes {Q = λ r. IsInterval r.0 r.1 × AllByRecursion (IsBetween r.0 r.1) words} _ _ _ _
      (interval_takes size end.1 some) (λ r ordered within. (ordered, all_within r.0 r.1 words within)) in
      field t1 range_takes (λ range h2 t2.
      all_taken (regroup (simp append_assoc) t2) (record {
        start_aligned = h0.0;
        apart = h0.1;
        end_aligned = h1.0;
        ordered = h1.1;
        inside = h1.2;
        range = h2.0;
        words = h2.1;
      }))))

  pub tables_take : (count : ℕ) (bytes : List ℕ) → IsBytes bytes
      → Has (table_rows_at size constants count bytes)
      (Spelled bytes (flat_map table_row_bytes)
      (λ rows. (length rows ≡ count) × InOrder (TableKeeps constants) behind_table 0 rows))
  unfolding table_rows_at
  tables_take count bytes fits = list_takes table_takes count 0 bytes fits

  module _ (small : length constants < 2 ^ 32) where
    table_again : (low : ℕ) (row : TableRow) (rest : List ℕ) → TableKeeps constants low row
        → table_row_at size constants low (table_row_bytes row ++ rest) ≡ Ok (row, rest)
    unfolding table_row_at table_row_bytes
    table_again low row rest h =
        let tail2 = i32_bytes row.lo ++ (i32_bytes row.hi ++ rest) in
        let tail1 = u32_bytes row.end ++ tail2 in
        let regrouped : table_row_bytes row ++ rest ≡ u32_bytes row.start ++ tail1 = simp append_assoc in
        let end_fits : row.end < 2 ^ 32 = let inside = h.inside in omega arith in
        let start_fits : row.start < 2 ^ 32 = let ordered = h.ordered in omega arith in
        ap (table_row_at size constants low) regrouped
        ∙ step _ (table_start_again size low row.start tail1 start_fits h.start_aligned h.apart)
        (step _ (table_end_again size
        (length constants) row.start row.end tail2 end_fits h.end_aligned h.ordered h.inside)
        (step _ (tested_again _ _ _ _ (interval_again size row.lo row.hi rest h.range)
        (within_all row.lo row.hi (words_in_bytes (take (row.end - row.start)
        (drop row.start constants))) h.words)) refl))

    pub tables_again : (rows : List TableRow) (rest : List ℕ) → InOrder (TableKeeps constants) behind_table 0 rows
        → table_rows_at size constants (length rows) (flat_map table_row_bytes rows ++ rest) ≡ Ok (rows, rest)
    unfolding table_rows_at
    tables_again rows rest h = list_again _ _ _ table_again rows 0 rest h
