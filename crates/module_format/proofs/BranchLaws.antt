-- The laws of frame words, parameters and branches.
use Rattle.std.proofs.Common.{◌≡◌, ℕ, ◌^◌, ◌<◌, ◌≤◌, ℤ, ◌<ℤ◌, false, Bool, List, [], ◌∷◌, ◌++◌, Ok, refl, ap}
use Rattle.std.proofs.Common.{◌∙◌, append_assoc, arith, FitsSigned}
use Rattle.std.specs.Int.{w32}
use Rattle.std.specs.List.{flat_map, list_any, AllByRecursion}
use Rattle.std.proofs.lemmas.Bool.{ltb-true, lt-ltb, leb-true, le-leb, not-true, or_parts}
use Rattle.small_laws.proofs.Comparisons.{int_lt-true, lt-int_lt}
use Rattle.module_format.specs.declared.rows.Interval.{Interval}
use Rattle.module_format.specs.declared.rows.BranchCounts.{BranchCounts}
use Rattle.module_format.specs.Contents.{Branch, counts_of, CountsFit}
use Rattle.module_format.specs.Order.{IsBytes, least_word}
use Rattle.module_format.specs.Pars.{IntervalKeeps, intervals_meet, ReadKeeps, NumberKeeps}
use Rattle.module_format.specs.Pars.{first_key, Before, IsBranchEntry, BranchKeeps}
use Rattle.module_format.specs.Spelling.{u16_bytes, u32_bytes, i32_bytes, interval_bytes, end_bytes, counts_bytes}
use Rattle.module_format.specs.Spelling.{branch_head, branch_bytes}
use Rattle.module_format.specs.ReadingPars.{interval_end_at, frame_words_at, read_words_at, parameter_number_at}
use Rattle.module_format.specs.ReadingPars.{branch_entry_at, branch_counts_at, branch_row_at}
use Rattle.module_format.proofs.ReadsInSteps.{Has, has_ok, step, Spelled, tested_takes, tested_again}
use Rattle.module_format.proofs.ReadsInSteps.{nothing_taken, field, all_taken}
use Rattle.module_format.proofs.ReadsInSteps.{list_takes, list_again}
use Rattle.module_format.proofs.FieldLaws.{u16_takes, u16_again, in_code_takes}
use Rattle.module_format.proofs.FieldLaws.{in_code_again, int_takes, int_again}
use Rattle.module_format.proofs.RowLaws.{first_word_takes, first_word_again}
use Rattle.module_format.proofs.EndLaws.{end_takes, end_again}

-- ---- frame words

-- no item of a list passes a test
pub none_pass : {A : Type 0} (test : A → Bool) (xs : List A) → list_any test xs ≡ false
    → AllByRecursion (λ x. test x ≡ false) xs
none_pass test [] e = tt
none_pass test (x ∷ xs) e = let parts = or_parts (test x) (list_any test xs) e in (parts.0, none_pass test xs parts.1)

pub pass_none : {A : Type 0} (test : A → Bool) (xs : List A) → AllByRecursion (λ x. test x ≡ false) xs
    → list_any test xs ≡ false
pass_none test [] h = refl
pass_none test (x ∷ xs) h = rw h.0 (pass_none test xs h.1)

module _ (size : ℕ) where
  interval_end_takes : (lo : ℤ) (bytes : List ℕ) → IsBytes bytes
      → Has (interval_end_at size lo bytes) (Spelled bytes i32_bytes (λ hi. FitsSigned w32 hi × (lo <ℤ hi)))
  unfolding interval_end_at
  interval_end_takes lo bytes fits =
      tested_takes _ _ _ _ (int_takes size bytes fits) (λ hi fits some. (fits, int_lt-true _ _ some))

  interval_end_again : (lo hi : ℤ) (rest : List ℕ) → FitsSigned w32 hi → lo <ℤ hi
      → interval_end_at size lo (i32_bytes hi ++ rest) ≡ Ok (hi, rest)
  unfolding interval_end_at
  interval_end_again lo hi rest fits some = tested_again _ _ _ _ (int_again size hi rest fits) (lt-int_lt _ _ some)

  pub words_take : (low : ℤ) (bytes : List ℕ) → IsBytes bytes
      → Has (frame_words_at size low bytes) (Spelled bytes interval_bytes (IntervalKeeps low))
  unfolding frame_words_at interval_bytes
  words_take low bytes fits =
      field (nothing_taken fits) (first_word_takes size low _) (λ lo h t.
      field t (interval_end_takes lo.0 _) (λ hi g u.
      all_taken u (record { lo_fits = h.0; hi_fits = g.0; apart = h.1; some = g.1 })))

  words_again : (low : ℤ) (i : Interval) (rest : List ℕ) → IntervalKeeps low i
      → frame_words_at size low (interval_bytes i ++ rest) ≡ Ok (i, rest)
  unfolding frame_words_at interval_bytes
  words_again low i rest h =
      ap (frame_words_at size low) (append_assoc (i32_bytes i.lo) (i32_bytes i.hi) rest)
      ∙ step _ (first_word_again size low i.lo (i32_bytes i.hi ++ rest) h.lo_fits h.apart)
      (step _ (interval_end_again i.lo i.hi rest h.hi_fits h.some) refl)

  module _ (writes : List Interval) where
    read_words_take : (low : ℤ) (bytes : List ℕ) → IsBytes bytes
        → Has (read_words_at size writes low bytes) (Spelled bytes interval_bytes (ReadKeeps writes low))
    unfolding read_words_at
    read_words_take low bytes fits =
        tested_takes _ _ _ _ (words_take low bytes fits)
        (λ i kept apart. record { interval = kept; apart = none_pass (intervals_meet i) writes (not-true _ apart) })

    read_words_again : (low : ℤ) (i : Interval) (rest : List ℕ) → ReadKeeps writes low i
        → read_words_at size writes low (interval_bytes i ++ rest) ≡ Ok (i, rest)
    unfolding read_words_at
    read_words_again low i rest h =
        tested_again _ _ _ _ (words_again low i rest h.interval) (rw (pass_none (intervals_meet i) writes h.apart) refl)

  -- ---- parameters

  parameter_number_takes : (low : ℕ) (bytes : List ℕ) → IsBytes bytes
      → Has (parameter_number_at size low bytes) (Spelled bytes u16_bytes (NumberKeeps low))
  unfolding parameter_number_at
  parameter_number_takes low bytes fits =
      tested_takes _ _ _ _ (u16_takes size bytes fits)
      (λ n below rises. record { fits = below; rises = leb-true _ _ rises })

  parameter_number_again : (low n : ℕ) (rest : List ℕ) → NumberKeeps low n
      → parameter_number_at size low (u16_bytes n ++ rest) ≡ Ok (n, rest)
  unfolding parameter_number_at
  parameter_number_again low n rest h = tested_again _ _ _ _ (u16_again size n rest h.fits) (le-leb _ _ h.rises)

-- ---- branches

module _ (size : ℕ) where
  branch_counts_take : (bytes : List ℕ) → IsBytes bytes
      → Has (branch_counts_at size bytes) (Spelled bytes counts_bytes CountsFit)
  unfolding branch_counts_at counts_bytes
  branch_counts_take bytes fits =
      field (nothing_taken fits) (u16_takes size _) (λ writes h0 t0.
      field t0 (u16_takes size _) (λ reads h1 t1.
      field t1 (u16_takes size _) (λ written h2 t2.
      field t2 (u16_takes size _) (λ read h3 t3.
      field t3 (u16_takes size _) (λ ends h4 t4.
      all_taken t4
      (record { writes = h0; reads = h1; written_parameters = h2; read_parameters = h3; ends = h4 }))))))

  branch_counts_again : (c : BranchCounts) (rest : List ℕ) → CountsFit c
      → branch_counts_at size (counts_bytes c ++ rest) ≡ Ok (c, rest)
  unfolding branch_counts_at counts_bytes
  branch_counts_again c rest h =
      let regrouped : counts_bytes c ++ rest ≡ u16_bytes c.writes ++ (u16_bytes c.reads
      ++ (u16_bytes c.written_parameters ++ (u16_bytes c.read_parameters ++ (u16_bytes c.ends ++ rest)))) =
      simp append_assoc in
      ap (branch_counts_at size) regrouped
      ∙ step _ (u16_again size c.writes _ h.writes)
      (step _ (u16_again size c.reads _ h.reads)
      (step _ (u16_again size c.written_parameters _ h.written_parameters)
      (step _ (u16_again size c.read_parameters _ h.read_parameters)
      (step _ (u16_again size c.ends rest h.ends) refl))))

module _ (size code_len : ℕ) where
  branch_entry_takes : (before : Before) (bytes : List ℕ) → IsBytes bytes
      → Has (branch_entry_at size code_len before bytes) (Spelled bytes u32_bytes (IsBranchEntry code_len before))
  unfolding branch_entry_at
  branch_entry_takes before bytes fits =
      let risen = tested_takes {Q = λ n. (n < code_len) × (before.low < n)} _ _ _ _
      (in_code_takes size code_len bytes fits) (λ n h rises. (h.1, ltb-true _ _ rises)) in
      tested_takes _ _ _ _ risen (λ n h differs. record { in_code = h.0; rises = h.1; differs = not-true _ differs })

  branch_entry_again : (before : Before) (n : ℕ) (rest : List ℕ) → n < 2 ^ 32 → IsBranchEntry code_len before n
      → branch_entry_at size code_len before (u32_bytes n ++ rest) ≡ Ok (n, rest)
  unfolding branch_entry_at
  branch_entry_again before n rest fits h =
      let some : 1 ≤ n = let r = h.rises in omega arith in
      tested_again _ _ _ _ (tested_again _ _ _ _ (in_code_again size code_len n rest fits some h.in_code)
      (lt-ltb _ _ h.rises)) (rw h.differs refl)

  pub branch_takes : (before : Before) (bytes : List ℕ) → IsBytes bytes
      → Has (branch_row_at size code_len before bytes) (Spelled bytes branch_bytes (BranchKeeps code_len before))
  unfolding branch_row_at branch_bytes branch_head
  branch_takes before bytes fits =
      field (nothing_taken fits) (branch_entry_takes before _) (λ entry h0 t0.
      field t0 (int_takes size _) (λ workspace h1 t1.
      field t1 (branch_counts_take size _) (λ counts h2 t2.
      field t2 (list_takes (words_take size) counts.0.writes least_word _) (λ writes h3 t3.
      field t3 (list_takes (read_words_take size writes.0) counts.0.reads least_word _) (λ reads h4 t4.
      field t4 (list_takes (parameter_number_takes size) counts.0.written_parameters 0 _) (λ written h5 t5.
      field t5 (list_takes (parameter_number_takes size) counts.0.read_parameters 0 _) (λ read h6 t6.
      field t6 (list_takes (end_takes size) counts.0.ends first_key _) (λ ends h7 t7.
      has_ok _ (record {
        parts = rw (h3.0, h4.0, h5.0, h6.0, h7.0) t7.parts;
        rest_fits = t7.rest_fits;
        keeps = record {
          entry = h0;
          workspace_fits = h1;
          gifts = record {
            counts = rw (h3.0, h4.0, h5.0, h6.0, h7.0) h2;
            writes = h3.1;
            reads = h4.1;
            written_parameters = h5.1;
            read_parameters = h6.1;
            ends = h7.1;
          };
        };
      })))))))))

  pub branch_again : code_len < 2 ^ 32 → (before : Before) (b : Branch) (rest : List ℕ) → BranchKeeps code_len before b
      → branch_row_at size code_len before (branch_bytes b ++ rest) ≡ Ok (b, rest)
  unfolding branch_row_at branch_bytes branch_head
  branch_again small before b rest h =
      let g = h.gifts in
      let counts = counts_of b in
      let tail7 = flat_map end_bytes b.ends ++ rest in
      let tail6 = flat_map u16_bytes b.read_parameters ++ tail7 in
      let tail5 = flat_map u16_bytes b.written_parameters ++ tail6 in
      let tail4 = flat_map interval_bytes b.reads ++ tail5 in
      let tail3 = flat_map interval_bytes b.writes ++ tail4 in
      let tail2 = counts_bytes counts ++ tail3 in
      let tail1 = i32_bytes b.workspace ++ tail2 in
      let regrouped : branch_bytes b ++ rest ≡ u32_bytes b.entry ++ tail1 = simp append_assoc in
      let fits : b.entry < 2 ^ 32 = let inside = h.entry.in_code in omega arith in
      ap (branch_row_at size code_len before) regrouped
      ∙ step _ (branch_entry_again before b.entry tail1 fits h.entry)
      (step _ (int_again size b.workspace tail2 h.workspace_fits)
      (step _ (branch_counts_again size counts tail3 g.counts)
      (step _ (list_again _ _ _ (words_again size) b.writes least_word tail4 g.writes)
      (step _ (list_again _ _ _ (read_words_again size b.writes) b.reads least_word tail5 g.reads)
      (step _ (list_again _ _ _ (parameter_number_again size) b.written_parameters 0 tail6 g.written_parameters)
      (step _ (list_again _ _ _ (parameter_number_again size) b.read_parameters 0 tail7 g.read_parameters)
      (step _ (list_again _ _ _ (end_again size) b.ends first_key rest g.ends) refl)))))))
