-- The label rows of valid pieces keep the rules of the format, and what they name is there.
use Rattle.std.proofs.Common.{◌≡◌, ℕ, zero, suc, ◌^◌, ◌<◌, ◌≤◌, ◌&&◌, pos, Bool, true, false, List, [], ◌∷◌}
use Rattle.std.proofs.Common.{◌++◌, length, get_or, Option, Some, None, refl, sym, ap, subst, ◌∙◌, arith, append_assoc}
use Rattle.std.specs.Prelude.{⊤, map, option_map, unwrap_or, MatchOption}
use Rattle.std.specs.List.{AllByRecursion}
use Rattle.std.proofs.lemmas.Int.{ints}
use Rattle.std.proofs.Math.ListN.{get_or-map}
use Rattle.std.proofs.lemmas.List.{length-map}
use Rattle.module_format.specs.declared.limits.TheConstants.{MAX_BUDGET}
use Rattle.module_format.specs.declared.contexts.Context.{Context}
use Rattle.module_format.specs.Contents.{Contents, Label}
use Rattle.module_format.specs.Contexts.{root_context}
use Rattle.module_format.specs.Facts.{LabelKeeps, behind_label}
use Rattle.module_format.specs.Keeping.{RowFits, LabelFits}
use Rattle.module_format.specs.Order.{InOrder, least_word}
use Rattle.module_builder.specs.Drafts.{Code}
use Rattle.module_builder.specs.Layouts.{offset, places}
use Rattle.module_builder.specs.Placing.{label_offset, placed_entry}
use Rattle.module_builder.proofs.Growing.{IsPositive, offset-cons, offset_rises, bytes_positive, length-bytes_from}
use Rattle.code_pieces.specs.declared.piece.RowEntry.{RowEntry}
use Rattle.code_pieces.specs.Numbers.{Needs, number_at}
use Rattle.code_pieces.specs.Pars.{in_root}
use Rattle.code_pieces.specs.Pieces.{Piece, Direct, Jump, JumpUnless, LoopBack, Distance, StartBranch, Select}
use Rattle.code_pieces.specs.Pieces.{TableAddress, Row, Place, Within, Par}
use Rattle.code_pieces.specs.DraftedRows.{said_row, drafted_entry}
use Rattle.code_pieces.specs.Laid.{needs_in}
use Rattle.code_pieces.specs.LaidModule.{Arrangement, IsArrangement, laid_module}
use Rattle.code_pieces.specs.Laying.{SaidRow, said, said_rows, said_rows_from, label, draft_code, tables_before}
use Rattle.code_pieces.specs.Laying.{items_in, is_row, pars_of, words_taken, sizes_of}
use Rattle.placed_code.specs.LaidCode.{item_count}
use Rattle.placed_code.specs.RowsFound.{row_of}
use Rattle.placed_code.proofs.Finishing.{length-spelled}
use Rattle.placed_code.proofs.OneProcess.{no_pars_laid, root_at}
use Rattle.placed_code.proofs.PiecesLie.{label_is, item_count-append, length-items}
use Rattle.valid_code.specs.ValidPieces.{IsValidRow, IsValidPiece, AreApart, AreValid}
use Rattle.valid_code.specs.ValidModules.{AreWithin}
use Rattle.valid_code.proofs.ClimbingKeys.{Climb, climb_lower, climbing_stay}
use Rattle.valid_code.proofs.SaidEntries.{entries_are, few_said, entries_keep, entries_fit}
use Rattle.valid_code.proofs.SmallNumbers.{numbers_within, weights_within}

-- ---- where items and labels are

-- an item with bytes ends further on
next_further : (xs : List ℕ) (i : ℕ) → IsPositive xs → i < length xs → offset xs i < offset xs (suc i)
next_further [] i positive within = absurd (omega arith)
next_further (x ∷ xs) zero positive within = omega (arith, offset-cons x xs 0, positive.0)
next_further (x ∷ xs) (suc i) positive within =
    let rest = next_further xs i positive.1 (omega arith) in
    omega (arith, offset-cons x xs i, offset-cons x xs (suc i), rest)

-- the place of a label, as rows have it
offset_of_label : (lengths : List ℕ) (os : List (Option ℕ)) (l : ℕ)
    → unwrap_or (get_or (map (option_map (offset lengths)) os) l None) 0
    ≡ offset lengths (unwrap_or (get_or os l None) 0)
offset_of_label lengths os l =
    ap (λ (o : Option ℕ). unwrap_or o 0) (get_or-map (option_map (offset lengths)) os l None)
    ∙ if_any (get_or os l None)
  where
    if_any : (o : Option ℕ) → unwrap_or (option_map (offset lengths) o) 0 ≡ offset lengths (unwrap_or o 0)
    if_any None = refl
    if_any (Some k) = refl

-- ---- pieces without PARs

pub no_pars : (words : ℕ) (ps : List Piece) → AllByRecursion (IsValidPiece words) ps → pars_of ps ≡ []
no_pars words [] valid = refl
no_pars words (Direct f e ∷ ps) valid = no_pars words ps valid.1
no_pars words (Jump l ∷ ps) valid = no_pars words ps valid.1
no_pars words (JumpUnless l ∷ ps) valid = no_pars words ps valid.1
no_pars words (LoopBack head behind ∷ ps) valid = no_pars words ps valid.1
no_pars words (Distance from to ∷ ps) valid = no_pars words ps valid.1
no_pars words (StartBranch entry successor ∷ ps) valid = no_pars words ps valid.1
no_pars words (Select targets ∷ ps) valid = no_pars words ps valid.1
no_pars words (TableAddress values ∷ ps) valid = no_pars words ps valid.1
no_pars words (Row l entries ∷ ps) valid = no_pars words ps valid.1
no_pars words (Place l ∷ ps) valid = no_pars words ps valid.1
no_pars words (Within workspace ∷ ps) valid = absurd valid.0
no_pars words (Par par ∷ ps) valid = absurd valid.0

-- ---- an item is after each row

abbrev AreFollowed : List Piece → Type 0
AreFollowed [] = ⊤
AreFollowed (p ∷ ps) = (is_row p ≡ true → 1 ≤ item_count ps) × AreFollowed ps

followed_by : (front last : List Piece) → 1 ≤ item_count last → AreFollowed last → AreFollowed (front ++ last)
followed_by [] last some follow = follow
followed_by (p ∷ front) last some follow =
    let both = item_count-append front last in
    (λ row. omega (arith, some, both), followed_by front last some follow)

not_at_row : (b : Bool) → (b && true) ≡ false → b ≡ false
not_at_row true is = is
not_at_row false is = refl

module _ (ps : List Piece) (labels : ℕ) (links : List ℕ) (a : Arrangement) (valid : AreValid ps labels)
    (arranged : IsArrangement ps labels a) (within : AreWithin ps labels links a) where
  abbrev pub m : Contents
  m = laid_module ps labels links a

  abbrev n : Needs
  n = needs_in ps a.lengths

  abbrev code : Code
  code = draft_code ps labels

  -- where the items after pieces begin
  abbrev start : List Piece → ℕ
  start done = offset a.lengths (item_count done)

  abbrev pub row_here : SaidRow → Label
  row_here row = row_of ps labels a row

  pub pars_none : m.pars ≡ []
  pars_none = no_pars_laid ps labels links a (no_pars (words_taken ps) ps valid.each)

  -- each item has a length
  count : length a.lengths ≡ item_count ps
  count =
      ap length arranged.least.fits.exact ∙ length-bytes_from code a.lengths 0 code.items
      ∙ length-items (tables_before [] ps) in_root ps

  -- so later items begin further on
  pub items_climb : (i j : ℕ) → i < j → j ≤ item_count ps → offset a.lengths i < offset a.lengths j
  items_climb i j less inside =
      let positive = subst IsPositive (sym arranged.least.fits.exact) (bytes_positive code a.lengths 0 code.items) in
      let size = count in
      let here = next_further a.lengths i positive (omega (arith, less, inside, size)) in
      let later = offset_rises a.lengths (suc i) j (omega (arith, less)) in
      omega (arith, here, later)

  pub code_length : length m.code ≡ offset a.lengths (item_count ps)
  code_length =
      length-spelled code a.lengths arranged.least.fits
      ∙ ap (offset a.lengths) (length-items (tables_before [] ps) in_root ps)

  -- a row is where its piece is
  row_place : (done : List Piece) (l : ℕ) (entries : List RowEntry) (rest : List Piece)
      → ps ≡ done ++ Row l entries ∷ rest → label_offset (places code a.lengths) (label l) ≡ start done
  row_place done l entries rest whole =
      offset_of_label a.lengths code.labels l
      ∙ label_is ps labels a.lengths 0 arranged.least.fits within.contents.constants valid.once done (Row l entries)
      rest l whole refl

  -- ---- rows

  weights_small : (head : ℕ) → number_at head n.weights < 2 ^ 64
  weights_small head =
      let few = weights_within MAX_BUDGET ps (sizes_of ps a.lengths) within.needs.each head in
      omega (arith, few)

  number_small : (l : ℕ) → number_at l n.labels < 2 ^ 64
  number_small l =
      let few = numbers_within MAX_BUDGET ps (sizes_of ps a.lengths) within.needs.each l in
      omega (arith, few)

  -- a row keeps the rules, after one at this offset
  row_keeps : (done : List Piece) (l : ℕ) (entries : List RowEntry) (rest : List Piece) (low : ℕ)
      → ps ≡ done ++ Row l entries ∷ rest → low < start done → 1 ≤ item_count rest
      → IsValidRow (words_taken ps) entries
      → LabelKeeps (length m.code) [] low (row_here (said_row in_root n l entries))
  row_keeps done l entries rest low whole above follows are =
      let ss = said n.weights entries in
      let all = entries_are n.weights 0 (words_taken ps) entries weights_small are.turn are.facts in
      let size = few_said 0 (words_taken ps) ss all in
      let wide = within.contents.data_words in
      let at = row_place done l entries rest whole in
      let both = item_count-append done (Row l entries ∷ rest) in
      let items = ap item_count whole in
      let further = items_climb (item_count done) (item_count ps) (omega (arith, items, both, follows)) (omega arith) in
      let long = code_length in
      let offsets = places code a.lengths in
      let drafted = length-map ss drafted_entry in
      let placed = length-map (map drafted_entry ss) (placed_entry offsets) in
      record {
        offset = record { rises = omega (arith, at, above); in_code = omega (arith, at, further, long); no_entry = tt };
        context_fits = omega arith;
        depth_fits = omega (arith, ints);
        number_fits = number_small l;
        facts = record {
          a = tt;
          b = tt;
          c = tt;
          count_fits = omega (arith, size, wide, drafted, placed);
          entries = entries_keep (length m.code) (words_taken ps) (omega (arith, wide)) offsets 0 least_word ss
              (omega (arith, ints)) all;
        };
      }

  -- and what it says is there in the root
  row_fits : (l : ℕ) (entries : List RowEntry) → IsValidRow (words_taken ps) entries
      → LabelFits m (row_here (said_row in_root n l entries))
  row_fits l entries are =
      let ss = said n.weights entries in
      let all = entries_are n.weights 0 (words_taken ps) entries weights_small are.turn are.facts in
      let wide = within.contents.data_words in
      let row = row_here (said_row in_root n l entries) in
      subst (λ (o : Option Context). MatchOption o ⊥ (RowFits row)) (sym (root_at m pars_none)) (record {
        a = tt;
        b = tt;
        c = tt;
        entries = entries_fit (length m.code) (words_taken ps) (omega (arith, wide)) (places code a.lengths)
            (root_context m) 0 ss refl (omega (arith, ints)) (omega (arith, ints)) all;
      })

  -- ---- all rows

  -- rows that do both, after one at this offset
  abbrev AreKept : ℕ → List SaidRow → Type 0
  AreKept low [] = ⊤
  AreKept low (r ∷ rs) =
      LabelKeeps (length m.code) [] low (row_here r) × LabelFits m (row_here r) × AreKept (row_here r).offset rs

  -- Where a row may have been right before, the last row is before here or at this place, and otherwise before.
  record HasPassed (at_row : Bool) (low here : ℕ) : Type 0 where
    under : low ≤ here
    behind : at_row ≡ false → low < here

  -- a piece with an item is passed
  item_passed : (done : List Piece) (p : Piece) (rest : List Piece) (at_row : Bool) (low : ℕ) → ps ≡ done ++ p ∷ rest
      → 1 ≤ length (items_in [] (pos 0) p) → HasPassed at_row low (start done)
      → HasPassed false low (start (done ++ p ∷ []))
  item_passed done p rest at_row low whole some passed =
      let all = ap item_count whole in
      let both = item_count-append done (p ∷ rest) in
      let here = item_count-append done (p ∷ []) in
      let further = items_climb (item_count done) (item_count (done ++ p ∷ [])) (omega (arith, here, some))
      (omega (arith, here, all, both)) in
      let under = passed.under in
      record { under = omega (arith, under, further); behind = λ is. omega (arith, under, further) }

  -- one without an item is where it begins
  same_start : (done : List Piece) (p : Piece) → length (items_in [] (pos 0) p) ≡ 0 → start (done ++ p ∷ []) ≡ start done
  same_start done p none =
      let here = item_count-append done (p ∷ []) in
      ap (offset a.lengths) (omega (arith, here, none))

  later : (done : List Piece) (p : Piece) (rest : List Piece) → ps ≡ done ++ p ∷ rest → ps ≡ (done ++ p ∷ []) ++ rest
  later done p rest whole = whole ∙ sym (append_assoc done (p ∷ []) rest)

  rows_kept : (done rest : List Piece) (at_row : Bool) (low : ℕ) → ps ≡ done ++ rest
      → AllByRecursion (IsValidPiece (words_taken ps)) rest → AreApart at_row rest → AreFollowed rest
      → HasPassed at_row low (start done) → AreKept low (said_rows_from in_root n rest)
  rows_kept done [] at_row low whole each apart follow passed = tt
  rows_kept done (Row l entries ∷ rest) at_row low whole each apart follow passed =
      let p : Piece = Row l entries in
      let at = row_place done l entries rest whole in
      let above = passed.behind (not_at_row at_row apart.0) in
      let same = same_start done p refl in (
        row_keeps done l entries rest low whole above (follow.0 refl) each.0,
        row_fits l entries each.0,
        rows_kept (done ++ p ∷ []) rest true _ (later done p rest whole) each.1 apart.1 follow.1
            (record { under = omega (arith, at, same); behind = λ is. absurd (cc) }),
      )
  rows_kept done (Place l ∷ rest) at_row low whole each apart follow passed =
      let p : Piece = Place l in
      rows_kept (done ++ p ∷ []) rest at_row low (later done p rest whole) each.1 apart.1 follow.1
      (subst (HasPassed at_row low) (sym (same_start done p refl)) passed)
  rows_kept done (Within workspace ∷ rest) at_row low whole each apart follow passed = absurd each.0
  rows_kept done (Par par ∷ rest) at_row low whole each apart follow passed = absurd each.0
  rows_kept done (Direct f e ∷ rest) at_row low whole each apart follow passed =
      let p : Piece = Direct f e in
      rows_kept (done ++ p ∷ []) rest false low (later done p rest whole) each.1 apart.1 follow.1
      (item_passed done p rest at_row low whole (omega arith) passed)
  rows_kept done (Jump l ∷ rest) at_row low whole each apart follow passed =
      let p : Piece = Jump l in
      rows_kept (done ++ p ∷ []) rest false low (later done p rest whole) each.1 apart.1 follow.1
      (item_passed done p rest at_row low whole (omega arith) passed)
  rows_kept done (JumpUnless l ∷ rest) at_row low whole each apart follow passed =
      let p : Piece = JumpUnless l in
      rows_kept (done ++ p ∷ []) rest false low (later done p rest whole) each.1 apart.1 follow.1
      (item_passed done p rest at_row low whole (omega arith) passed)
  rows_kept done (LoopBack head behind ∷ rest) at_row low whole each apart follow passed =
      let p : Piece = LoopBack head behind in
      rows_kept (done ++ p ∷ []) rest false low (later done p rest whole) each.1 apart.1 follow.1
      (item_passed done p rest at_row low whole (omega arith) passed)
  rows_kept done (Distance from to ∷ rest) at_row low whole each apart follow passed =
      let p : Piece = Distance from to in
      rows_kept (done ++ p ∷ []) rest false low (later done p rest whole) each.1 apart.1 follow.1
      (item_passed done p rest at_row low whole (omega arith) passed)
  rows_kept done (StartBranch entry successor ∷ rest) at_row low whole each apart follow passed =
      let p : Piece = StartBranch entry successor in
      rows_kept (done ++ p ∷ []) rest false low (later done p rest whole) each.1 apart.1 follow.1
      (item_passed done p rest at_row low whole (omega arith) passed)
  rows_kept done (Select targets ∷ rest) at_row low whole each apart follow passed =
      let p : Piece = Select targets in
      rows_kept (done ++ p ∷ []) rest false low (later done p rest whole) each.1 apart.1 follow.1
      (item_passed done p rest at_row low whole (omega arith) passed)
  rows_kept done (TableAddress values ∷ rest) at_row low whole each apart follow passed =
      let p : Piece = TableAddress values in
      rows_kept (done ++ p ∷ []) rest false low (later done p rest whole) each.1 apart.1 follow.1
      (item_passed done p rest at_row low whole (omega arith) passed)

  followed : AreFollowed ps
  followed =
      let last : List Piece = Direct valid.ends.fun valid.ends.operand ∷ [] in
      subst AreFollowed (sym valid.ends.whole)
      (followed_by valid.ends.front last (omega arith) (λ row. absurd (cc), tt))

  all_kept : AreKept 0 (said_rows n ps)
  all_kept =
      rows_kept [] ps true 0 refl valid.each valid.apart followed
      (record { under = omega arith; behind = λ is. absurd (cc) })

  -- ---- in the order that was found

  kept_climb : (low : ℕ) (rs : List SaidRow) → AreKept low rs
      → Climb (suc low) (map (λ (row : SaidRow). label_offset (places code a.lengths) (label row.label)) rs)
  kept_climb low [] all = tt
  kept_climb low (r ∷ rs) all =
      let rises = all.0.offset.rises in
      (omega (arith, rises), kept_climb (row_here r).offset rs all.2)

  kept_order : (low : ℕ) (rs : List SaidRow) → AreKept low rs
      → InOrder (LabelKeeps (length m.code) []) behind_label low (map row_here rs)
  kept_order low [] all = tt
  kept_order low (r ∷ rs) all = (all.0, kept_order (row_here r).offset rs all.2)

  kept_fit : (low : ℕ) (rs : List SaidRow) → AreKept low rs → AllByRecursion (LabelFits m) (map row_here rs)
  kept_fit low [] all = tt
  kept_fit low (r ∷ rs) all = (all.1, kept_fit (row_here r).offset rs all.2)

  rows_are : m.labels ≡ map row_here (said_rows n ps)
  rows_are =
      let rows = said_rows n ps in
      let key = λ (row : SaidRow). label_offset (places code a.lengths) (label row.label) in
      ap (map row_here)
      (climbing_stay (map key rows) rows a.rows (length-map rows key)
      (climb_lower 0 1 (map key rows) (omega arith) (kept_climb 0 rows all_kept)) arranged.rows)

  pub labels_keep : InOrder (LabelKeeps (length m.code) []) behind_label 0 m.labels
  labels_keep =
      subst (InOrder (LabelKeeps (length m.code) []) behind_label 0) (sym rows_are) (kept_order 0 (said_rows n ps) all_kept)

  pub labels_fit : AllByRecursion (LabelFits m) m.labels
  labels_fit = subst (AllByRecursion (LabelFits m)) (sym rows_are) (kept_fit 0 (said_rows n ps) all_kept)
