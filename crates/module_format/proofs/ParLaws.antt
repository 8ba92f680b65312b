-- The laws of PAR rows.
use Rattle.std.proofs.Common.{◌≡◌, ℕ, ◌+◌, ◌^◌, ◌<◌, ◌≤◌, ℤ, List, ◌++◌, length, Ok, refl, ap, ◌∙◌, append_assoc, arith}
use Rattle.std.specs.List.{flat_map}
use Rattle.std.proofs.lemmas.Bool.{ltb-true, lt-ltb, leb-true, le-leb}
use Rattle.module_format.specs.declared.limits.TheConstants.{MAX_BRANCHES, MAX_MESSAGE}
use Rattle.module_format.specs.declared.rows.ChannelRow.{ChannelRow}
use Rattle.module_format.specs.Contents.{Par}
use Rattle.module_format.specs.Order.{IsBytes, InOrder, least_word}
use Rattle.module_format.specs.Pars.{ChannelKeeps, Before, ParKeeps}
use Rattle.module_format.specs.Pars.{behind_par, no_branches}
use Rattle.module_format.specs.Spelling.{u16_bytes, u32_bytes, i32_bytes, channel_bytes, branch_bytes, par_bytes}
use Rattle.module_format.specs.ReadingPars.{channel_row_at, context_number_at, branch_count_at, par_row_at}
use Rattle.module_format.specs.ReadingPars.{par_rows_at}
use Rattle.module_format.proofs.ReadsInSteps.{Has, has_ok, step, Spelled}
use Rattle.module_format.proofs.ReadsInSteps.{nothing_taken, field, all_taken, tested_takes, tested_again}
use Rattle.module_format.proofs.ReadsInSteps.{list_takes, list_again}
use Rattle.module_format.proofs.FieldLaws.{wide16, limited_takes, limited_again, positive_takes, positive_again}
use Rattle.module_format.proofs.FieldLaws.{in_code_takes, in_code_again, int_takes, int_again, u16_takes, u16_again}
use Rattle.module_format.proofs.BranchLaws.{branch_takes, branch_again}
use Rattle.module_format.proofs.RowLaws.{first_word_takes, first_word_again}

-- ---- channels

module _ (size : ℕ) where
  channel_takes : (low : ℤ) (bytes : List ℕ) → IsBytes bytes
      → Has (channel_row_at size low bytes) (Spelled bytes channel_bytes (ChannelKeeps low))
  unfolding channel_row_at channel_bytes
  channel_takes low bytes fits =
      field (nothing_taken fits) (first_word_takes size low _) (λ word h t.
      field t (positive_takes size MAX_MESSAGE _) (λ len g u.
      all_taken u (record { word_fits = h.0; rises = h.1; has_length = g.0; limit = g.1 })))

  channel_again : (low : ℤ) (c : ChannelRow) (rest : List ℕ) → ChannelKeeps low c
      → channel_row_at size low (channel_bytes c ++ rest) ≡ Ok (c, rest)
  unfolding channel_row_at channel_bytes
  channel_again low c rest h =
      let small : c.length < 2 ^ 32 = let most = h.limit in omega arith in
      ap (channel_row_at size low) (append_assoc (i32_bytes c.word) (u32_bytes c.length) rest)
      ∙ step _ (first_word_again size low c.word (u32_bytes c.length ++ rest) h.word_fits h.rises)
      (step _ (positive_again size MAX_MESSAGE c.length rest small h.has_length h.limit) refl)

  -- ---- the fields of a row

  context_number_takes : (count : ℕ) (bytes : List ℕ) → IsBytes bytes
      → Has (context_number_at size count bytes) (Spelled bytes u16_bytes (λ n. (n < 2 ^ 16) × (n < count)))
  unfolding context_number_at
  context_number_takes count bytes fits =
      tested_takes _ _ _ _ (u16_takes size bytes fits) (λ n below known. (below, ltb-true _ _ known))

  context_number_again : (count n : ℕ) (rest : List ℕ) → n < 2 ^ 16 → n < count
      → context_number_at size count (u16_bytes n ++ rest) ≡ Ok (n, rest)
  unfolding context_number_at
  context_number_again count n rest fits known = tested_again _ _ _ _ (u16_again size n rest fits) (lt-ltb _ _ known)

  branch_count_takes : (bytes : List ℕ) → IsBytes bytes
      → Has (branch_count_at size bytes) (Spelled bytes u16_bytes (λ n. (1 ≤ n) × (n ≤ MAX_BRANCHES)))
  unfolding branch_count_at
  branch_count_takes bytes fits = tested_takes _ _ _ _ (limited_takes size 2 u16_bytes
      (2 ^ 16) wide16 MAX_BRANCHES bytes fits) (λ n h some. (leb-true _ _ some, h.1))

  branch_count_again : (n : ℕ) (rest : List ℕ) → 1 ≤ n → n ≤ MAX_BRANCHES
      → branch_count_at size (u16_bytes n ++ rest) ≡ Ok (n, rest)
  unfolding branch_count_at
  branch_count_again n rest some most =
      let fits : n < 2 ^ 16 = omega arith in
      tested_again _ _ _ _ (limited_again size 2 u16_bytes (2 ^ 16) wide16 MAX_BRANCHES n rest fits most)
      (le-leb _ _ some)

-- ---- rows

module _ (size own code_len : ℕ) where
  par_takes : (before : Before) (bytes : List ℕ) → IsBytes bytes
      → Has (par_row_at size own code_len before bytes) (Spelled bytes par_bytes (ParKeeps own code_len before))
  unfolding par_row_at par_bytes
  par_takes before bytes fits =
      field (nothing_taken fits) (context_number_takes size (own + length before.entries) _) (λ context h0 t0.
      field t0 (int_takes size _) (λ depth h1 t1.
      field t1 (int_takes size _) (λ block h2 t2.
      field t2 (in_code_takes size code_len _) (λ successor h3 t3.
      field t3 (u16_takes size _) (λ channel_count h4 t4.
      field t4 (branch_count_takes size _) (λ branch_count h5 t5.
      field t5 (list_takes (channel_takes size) channel_count.0 least_word _) (λ channels h6 t6.
      field t6 (list_takes (branch_takes size code_len) branch_count.0 before _) (λ branches h7 t7.
      has_ok _ (record {
        parts = rw (h6.0, h7.0) t7.parts;
        rest_fits = t7.rest_fits;
        keeps = record {
          context_fits = h0.0;
          context = h0.1;
          depth_fits = h1;
          block_fits = h2;
          successor_some = h3.0;
          successor_in_code = h3.1;
          channel_count = rw h6.0 h4;
          has_branch = rw h7.0 h5.0;
          branch_limit = rw h7.0 h5.1;
          channels = h6.1;
          branches = h7.1;
        };
      })))))))))

  par_again : code_len < 2 ^ 32 → (before : Before) (row : Par) (rest : List ℕ) → ParKeeps own code_len before row
      → par_row_at size own code_len before (par_bytes row ++ rest) ≡ Ok (row, rest)
  unfolding par_row_at par_bytes
  par_again small before row rest h =
      let tail7 = flat_map branch_bytes row.branches ++ rest in
      let tail6 = flat_map channel_bytes row.channels ++ tail7 in
      let tail5 = u16_bytes (length row.branches) ++ tail6 in
      let tail4 = u16_bytes (length row.channels) ++ tail5 in
      let tail3 = u32_bytes row.successor ++ tail4 in
      let tail2 = i32_bytes row.block ++ tail3 in
      let tail1 = i32_bytes row.depth ++ tail2 in
      let regrouped : par_bytes row ++ rest ≡ u16_bytes row.context ++ tail1 = simp append_assoc in
      let fits : row.successor < 2 ^ 32 = let inside = h.successor_in_code in omega arith in
      ap (par_row_at size own code_len before) regrouped
      ∙ step _ (context_number_again size (own + length before.entries) row.context tail1 h.context_fits h.context)
      (step _ (int_again size row.depth tail2 h.depth_fits)
      (step _ (int_again size row.block tail3 h.block_fits)
      (step _ (in_code_again size code_len row.successor tail4 fits h.successor_some h.successor_in_code)
      (step _ (u16_again size (length row.channels) tail5 h.channel_count)
      (step _ (branch_count_again size (length row.branches) tail6 h.has_branch h.branch_limit)
      (step _ (list_again _ _ _ (channel_again size) row.channels least_word tail7 h.channels)
      (step _ (list_again _ _ _ (branch_again size code_len small) row.branches before rest h.branches) refl)))))))

  pub pars_take : (count : ℕ) (bytes : List ℕ) → IsBytes bytes
      → Has (par_rows_at size own code_len count bytes)
      (Spelled bytes (flat_map par_bytes)
      (λ rows. (length rows ≡ count) × InOrder (ParKeeps own code_len) behind_par no_branches rows))
  unfolding par_rows_at
  pars_take count bytes fits = list_takes par_takes count no_branches bytes fits

  pub pars_again : code_len < 2 ^ 32 → (rows : List Par) (rest : List ℕ)
      → InOrder (ParKeeps own code_len) behind_par no_branches rows
      → par_rows_at size own code_len (length rows) (flat_map par_bytes rows ++ rest) ≡ Ok (rows, rest)
  unfolding par_rows_at
  pars_again small rows rest h = list_again _ _ _ (par_again small) rows no_branches rest h
