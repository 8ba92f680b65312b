-- The label rows of a module of pieces keep the order of their pieces, and each is found at its label.
use Rattle.std.proofs.Common.{◌≡◌, ◌⊎◌, ℕ, zero, suc, ◌+◌, ◌<◌, ◌≤◌, Bool, true, false, cond, List, [], ◌∷◌, ◌++◌}
use Rattle.std.proofs.Common.{get_or, Option, Some, None, refl, sym, ap, subst, ◌∙◌, inl, inr, arith, append_assoc}
use Rattle.std.proofs.Common.{length, length-append, zero-add, add-one, Ordering, Less, Equal, Greater}
use Rattle.std.specs.Prelude.{⊤, slice_get, ◌==◌, map, option_map, unwrap_or}
use Rattle.std.specs.Ordering.{ordering_then, is_lt, nat_cmp}
use Rattle.std.specs.List.{AllByRecursion, find, filter_map, cons_option}
use Rattle.std.proofs.Math.ListN.{get_or-map}
use Rattle.std.proofs.lemmas.Bool.{cases_lt, eq-eqb, ne_eqb, le-ltb}
use Rattle.std.proofs.lemmas.List.{map-append, length-map}
use Rattle.std.proofs.lemmas.List.Sorted.{IsPermutation-refl}
use Rattle.module_format.specs.Contents.{Contents, Label, label_at, Procedure}
use Rattle.module_format.specs.Facts.{LabelKeeps, behind_label}
use Rattle.module_format.specs.Keeping.{Keeps}
use Rattle.module_format.specs.Order.{InOrder}
use Rattle.module_builder.specs.Drafts.{Code}
use Rattle.module_builder.specs.Layouts.{offset, place, places}
use Rattle.module_builder.specs.Ordering.{numbered, by_key, IsOrder, rows_in}
use Rattle.module_builder.specs.Placing.{label_offset}
use Rattle.module_builder.proofs.NumberLaws.{numbered_at}
use Rattle.module_builder.proofs.RowLaws.{length-numbered}
use Rattle.module_builder.proofs.OrderLaws.{one_order}
use Rattle.module_builder.proofs.Growing.{IsPositive, offset_rises, offset-cons, bytes_positive, length-bytes_from}
use Rattle.code_pieces.specs.declared.piece.RowEntry.{RowEntry}
use Rattle.code_pieces.specs.declared.piece.Workspace.{Workspace}
use Rattle.code_pieces.specs.Numbers.{Needs}
use Rattle.code_pieces.specs.Pars.{in_root}
use Rattle.code_pieces.specs.Pieces.{Piece, Direct, Jump, JumpUnless, LoopBack, Distance, StartBranch, Select}
use Rattle.code_pieces.specs.Pieces.{TableAddress, Row, Place, Within, Par}
use Rattle.code_pieces.specs.DraftedRows.{said_row}
use Rattle.code_pieces.specs.Laid.{needs_in}
use Rattle.code_pieces.specs.LaidModule.{Arrangement, IsArrangement, laid_module}
use Rattle.code_pieces.specs.Laying.{SaidRow, said_rows, said_rows_from, workspace_behind, label, draft_code}
use Rattle.code_pieces.specs.Laying.{tables_before}
use Rattle.placed_code.specs.LaidCode.{item_count, workspace_after, LabelsArePlacedOnce}
use Rattle.placed_code.specs.RowsFound.{row_of, SaysRow, RowsKeepTheirOrder, RowsAreFound, NoRowIsElsewhere}
use Rattle.placed_code.specs.RowsFound.{NoRowIsBeforeOthers, NoRowIsInside}
use Rattle.placed_code.proofs.PiecesLie.{label_is, item_count-append, length-items}

-- ---- rows whose keys never fall stay in their order

-- a row after others is found by how many they are
got_behind : {A : Type 0} (front rows : List A) (r : A) (i : ℕ) → i ≡ length front
    → slice_get (front ++ r ∷ rows) i ≡ Some r
got_behind [] rows r zero is = refl
got_behind [] rows r (suc i) is = absurd (omega (arith, is))
got_behind (x ∷ front) rows r zero is = absurd (omega (arith, is))
got_behind (x ∷ front) rows r (suc i) is = got_behind front rows r i (omega (arith, is))

-- rows in the order of their own numbers are the rows
rows_from : {A : Type 0} (front rows : List A) (keys : List ℕ) (i : ℕ) → i ≡ length front
    → length keys ≡ length rows
    → filter_map (λ (pair : ℕ × ℕ). slice_get (front ++ rows) pair.1) (numbered i keys) ≡ rows
rows_from front [] [] i is same = refl
rows_from front [] (key ∷ keys) i is same = absurd (omega (arith, same))
rows_from front (r ∷ rows) [] i is same = absurd (omega (arith, same))
rows_from {A} front (r ∷ rows) (key ∷ keys) i is same =
    let rest = λ (all : List A). filter_map (λ (pair : ℕ × ℕ). slice_get all pair.1) (numbered (suc i) keys) in
    ap (λ (o : Option A). cons_option o (rest (front ++ (r ∷ rows)))) (got_behind front rows r i is)
    ∙ ap (λ (xs : List A). r ∷ xs)
    (ap rest (sym (append_assoc front (r ∷ []) rows))
    ∙ rows_from (front ++ (r ∷ [])) rows keys (suc i) (omega (arith, is, length-append front (r ∷ [])))
    (omega (arith, same)))

-- numbers that never fall, from this one on
abbrev RisesFrom : ℕ → List ℕ → Type 0
RisesFrom low [] = ⊤
RisesFrom low (key ∷ keys) = (low ≤ key) × RisesFrom key keys

-- no key is less than the one before it
never_falls : (low : ℕ) (keys : List ℕ) → RisesFrom low keys → (k : ℕ) → suc k < length keys
    → get_or keys k 0 ≤ get_or keys (suc k) 0
never_falls low [] rises k within = absurd (omega arith)
never_falls low (a ∷ []) rises k within = absurd (omega arith)
never_falls low (a ∷ b ∷ keys) rises zero within = rises.1.0
never_falls low (a ∷ b ∷ keys) rises (suc k) within = never_falls a (b ∷ keys) rises.1 k (omega arith)

-- they rise from a lower number too
rises_lower : (low at : ℕ) (keys : List ℕ) → low ≤ at → RisesFrom at keys → RisesFrom low keys
rises_lower low at [] below rises = tt
rises_lower low at (key ∷ keys) below rises = (omega (arith, below, rises.0), rises.1)

-- a comparison that is no less
no_less : (e : Bool) → is_lt (cond e Equal Greater) ≡ false
no_less true = refl
no_less false = refl

-- of equal keys the number decides
not_lower : (e : Bool) (o : Ordering) → is_lt o ≡ false
    → is_lt (ordering_then (cond false Less (cond e Equal Greater)) o) ≡ false
not_lower true o is = is
not_lower false o is = refl

-- a row does not come before one with a lower number and no greater key
never_less : (a b i : ℕ) → b ≤ a → is_lt (by_key (a, i + 1) (b, i)) ≡ false
never_less a b i up =
    ap (λ (l : Bool). is_lt (ordering_then (cond l Less (cond (a == b) Equal Greater)) (nat_cmp (i + 1) i)))
    (le-ltb a b up) ∙ not_lower (a == b) (nat_cmp (i + 1) i)
    (ap (λ (l : Bool). is_lt (cond l Less (cond (i + 1 == i) Equal Greater))) (le-ltb (i + 1) i (omega arith))
    ∙ no_less (i + 1 == i))

-- keys that never fall are in order as they are numbered
own_order : (keys : List ℕ) → RisesFrom 0 keys → IsOrder keys (numbered 0 keys)
own_order keys rises = record {
  same = IsPermutation-refl (numbered 0 keys);
  rises = λ k d low high.
      let size : k + 1 < length keys = omega (arith, high, length-numbered 0 keys) in
      let up : get_or keys k 0 ≤ get_or keys (k + 1) 0 =
      rw add-one (never_falls 0 keys rises k (omega (arith, size))) in
      rw (numbered_at 0 keys (k + 1) d size, numbered_at 0 keys k d (omega (arith, size)), zero-add (k + 1), zero-add k)
      (never_less (get_or keys (k + 1) 0) (get_or keys k 0) k up);
}

-- so rows with such keys stay, whatever order was found
rows_stay : {A : Type 0} (keys : List ℕ) (rows : List A) (order : List (ℕ × ℕ)) → length keys ≡ length rows
    → RisesFrom 0 keys → IsOrder keys order → rows_in order rows ≡ rows
rows_stay {A} keys rows order same rises is =
    ap (λ (o : List (ℕ × ℕ)). rows_in o rows) (one_order keys order (numbered 0 keys) is (own_order keys rises))
    ∙ rows_from [] rows keys 0 refl same

-- ---- rows that rise are found

-- a row after others is found by its offset
found_behind : (code_len : ℕ) (procedures : List Procedure) (low : ℕ) (front rest : List Label) (row : Label)
    → InOrder (LabelKeeps code_len procedures) behind_label low (front ++ row ∷ rest)
    → (low < row.offset) × (find (λ r. r.offset == row.offset) (front ++ row ∷ rest) ≡ Some row)
found_behind code_len procedures low [] rest row order = (
  order.0.offset.rises,
  ap (λ (b : Bool). cond b (Some row) (find (λ (r : Label). r.offset == row.offset) rest))
      (eq-eqb row.offset row.offset refl),
)
found_behind code_len procedures low (first ∷ front) rest row order =
    let here = order.0.offset.rises in
    let later = found_behind code_len procedures first.offset front rest row order.1 in
    let above = later.0 in (
      omega (arith, here, above),
      ap (λ (b : Bool). cond b (Some first) (find (λ (r : Label). r.offset == row.offset) (front ++ row ∷ rest)))
          (ne_eqb first.offset row.offset (λ same. omega (arith, above, same))) ∙ later.1,
    )

-- where no row has the offset, none is found
none_found : {A : Type 0} (row_of : A → Label) (at : ℕ) (rows : List A)
    → AllByRecursion (λ row. (row_of row).offset ≡ at → ⊥) rows
    → find (λ (r : Label). r.offset == at) (map row_of rows) ≡ None
none_found row_of at [] none = refl
none_found row_of at (row ∷ rows) none =
    ap (λ (b : Bool). cond b (Some (row_of row)) (find (λ (r : Label). r.offset == at) (map row_of rows)))
    (ne_eqb (row_of row).offset at none.0) ∙ none_found row_of at rows none.1

-- ---- the rows that pieces say

-- this piece says a row
record IsRow (p : Piece) : Type 0 where
  label : ℕ
  entries : List RowEntry
  is : p ≡ Row label entries
  says : (workspace : Workspace) (n : Needs) (ps : List Piece) → said_rows_from workspace n (p ∷ ps)
      ≡ said_row workspace n label entries ∷ said_rows_from (workspace_behind p workspace) n ps

-- or none
abbrev SaysNone : Piece → Type 0
SaysNone p = (workspace : Workspace) (n : Needs) (ps : List Piece)
    → said_rows_from workspace n (p ∷ ps) ≡ said_rows_from (workspace_behind p workspace) n ps

-- each piece does one of both
row_or_none : (p : Piece) → IsRow p ⊎ SaysNone p
row_or_none (Row l entries) = inl (record { label = l; entries = entries; is = refl; says = λ workspace n ps. refl })
row_or_none (Direct f e) = inr (λ workspace n ps. refl)
row_or_none (Jump l) = inr (λ workspace n ps. refl)
row_or_none (JumpUnless l) = inr (λ workspace n ps. refl)
row_or_none (LoopBack head behind) = inr (λ workspace n ps. refl)
row_or_none (Distance from to) = inr (λ workspace n ps. refl)
row_or_none (StartBranch entry successor) = inr (λ workspace n ps. refl)
row_or_none (Select targets) = inr (λ workspace n ps. refl)
row_or_none (TableAddress values) = inr (λ workspace n ps. refl)
row_or_none (Place l) = inr (λ workspace n ps. refl)
row_or_none (Within other) = inr (λ workspace n ps. refl)
row_or_none (Par par) = inr (λ workspace n ps. refl)

-- the rows of pieces after others come after theirs
said-append : (workspace : Workspace) (n : Needs) (before later : List Piece)
    → said_rows_from workspace n (before ++ later)
    ≡ said_rows_from workspace n before ++ said_rows_from (workspace_after before workspace) n later
said-append workspace n [] later = refl
said-append workspace n (p ∷ before) later =
    let next = workspace_behind p workspace in
    let both = said-append next n before later in
    let rest = said_rows_from (workspace_after before next) n later in
    elim (row_or_none p) [
      | inl row ↦
          row.says workspace n (before ++ later)
          ∙ ap (λ (rows : List SaidRow). said_row workspace n row.label row.entries ∷ rows) both
          ∙ ap (λ (rows : List SaidRow). rows ++ rest) (sym (row.says workspace n before))
      | inr none ↦
          none workspace n (before ++ later) ∙ both
          ∙ ap (λ (rows : List SaidRow). rows ++ rest) (sym (none workspace n before))
    ]

-- ---- labels

-- no item is before offset 0
unwrapped : (lengths : List ℕ) (o : Option ℕ)
    → unwrap_or (option_map (offset lengths) o) 0 ≡ offset lengths (unwrap_or o 0)
unwrapped lengths None = refl
unwrapped lengths (Some n) = refl

-- the offset of a row is the place of its label
offset_is : (code : Code) (lengths : List ℕ) (l : ℕ)
    → label_offset (places code lengths) (label l) ≡ place code lengths (label l)
offset_is code lengths l =
    ap (λ (o : Option ℕ). unwrap_or o 0) (get_or-map (option_map (offset lengths)) code.labels l None)
    ∙ unwrapped lengths (get_or code.labels l None)

-- items that have bytes begin one after the other
offsets_rise : (xs : List ℕ) (i j : ℕ) → IsPositive xs → i < j → j ≤ length xs → offset xs i < offset xs j
offsets_rise [] i j positive less within = absurd (omega arith)
offsets_rise (x ∷ xs) i zero positive less within = absurd (omega arith)
offsets_rise (x ∷ xs) zero (suc j) positive less within = omega (arith, offset-cons x xs j, positive.0)
offsets_rise (x ∷ xs) (suc i) (suc j) positive less within =
    let rest = offsets_rise xs i j positive.1 (omega arith) (omega arith) in
    omega (arith, offset-cons x xs i, offset-cons x xs j, rest)

-- ---- the rows of a module

module _ (ps : List Piece) (labels : ℕ) (links : List ℕ) (a : Arrangement) (arranged : IsArrangement ps labels a)
    (keeps : Keeps (laid_module ps labels links a)) (once : LabelsArePlacedOnce ps labels) where
  abbrev m : Contents
  m = laid_module ps labels links a

  abbrev n : Needs
  n = needs_in ps a.lengths

  abbrev key : SaidRow → ℕ
  key row = label_offset (places (draft_code ps labels) a.lengths) (label row.label)

  -- the place of a label that a piece says is where the piece lies
  key_is : (done : List Piece) (l : ℕ) (entries : List RowEntry) (rest : List Piece)
      → ps ≡ done ++ Row l entries ∷ rest
      → label_offset (places (draft_code ps labels) a.lengths) (label l) ≡ offset a.lengths (item_count done)
  key_is done l entries rest whole =
      offset_is (draft_code ps labels) a.lengths l
      ∙ label_is ps labels a.lengths 0 arranged.least.fits keeps.sizes.constants_limit once done (Row l entries) rest l
      whole refl

  -- the keys of the rows that later pieces say
  keys_rise : (done rest : List Piece) (workspace : Workspace) → ps ≡ done ++ rest
      → RisesFrom (offset a.lengths (item_count done)) (map key (said_rows_from workspace n rest))
  keys_rise done [] workspace whole = tt
  keys_rise done (p ∷ rest) workspace whole =
      let start = offset a.lengths (item_count done) in
      let end = offset a.lengths (item_count (done ++ p ∷ [])) in
      let others = said_rows_from (workspace_behind p workspace) n rest in
      let both = item_count-append done (p ∷ []) in
      let further : start ≤ end =
      offset_rises a.lengths (item_count done) (item_count (done ++ p ∷ [])) (omega (arith, both)) in
      let later = keys_rise (done ++ p ∷ []) rest (workspace_behind p workspace)
      (whole ∙ sym (append_assoc done (p ∷ []) rest)) in
      elim (row_or_none p) [
        | inl row ↦
            let here = key_is done row.label row.entries rest
            (whole ∙ ap (λ (q : Piece). done ++ q ∷ rest) row.is) in
            let first = key (said_row workspace n row.label row.entries) in
            subst (λ (rows : List SaidRow). RisesFrom start (map key rows)) (sym (row.says workspace n rest))
            (omega (arith, here), rises_lower first end (map key others) (omega (arith, here, further)) later)
        | inr none ↦
            subst (λ (rows : List SaidRow). RisesFrom start (map key rows)) (sym (none workspace n rest))
            (rises_lower start end (map key others) further later)
      ]

  -- so the rows are in the order of their pieces
  rows_keep : m.labels ≡ map (row_of ps labels a) (said_rows n ps)
  rows_keep =
      let rows = said_rows n ps in
      ap (λ (found : List SaidRow). map (row_of ps labels a) found)
      (rows_stay (map key rows) rows a.rows (length-map rows key) (keys_rise [] ps in_root refl) arranged.rows)

  -- and each is found at the place of its label
  found : (before : List Piece) (l : ℕ) (entries : List RowEntry) → SaysRow ps before l entries
      → label_at m (place (draft_code ps labels) a.lengths (label l))
      ≡ Some (row_of ps labels a (said_row (workspace_after before in_root) n l entries))
  found before l entries row =
      let there = said_row (workspace_after before in_root) n l entries in
      let front = said_rows_from in_root n before in
      let rest = said_rows_from (workspace_after before in_root) n row.rest in
      let all : m.labels
      ≡ map (row_of ps labels a) front ++ row_of ps labels a there ∷ map (row_of ps labels a) rest =
      rows_keep
      ∙ ap (λ (rows : List SaidRow). map (row_of ps labels a) rows)
      (ap (λ (qs : List Piece). said_rows n qs) row.whole ∙ said-append in_root n before (Row l entries ∷ row.rest))
      ∙ map-append (row_of ps labels a) front (there ∷ rest) in
      ap (λ (at : ℕ). find (λ (r : Label). r.offset == at) m.labels)
      (sym (offset_is (draft_code ps labels) a.lengths l))
      ∙ ap (λ (rows : List Label). find (λ (r : Label). r.offset == key there) rows) all
      ∙ (found_behind (length m.code) m.procedures 0 (map (row_of ps labels a) front) (map (row_of ps labels a) rest)
      (row_of ps labels a there)
      (subst (λ (rows : List Label). InOrder (LabelKeeps (length m.code) m.procedures) behind_label 0 rows) all
      keeps.rows.labels)).1

  -- no later piece says a row at an offset at which none is
  none_there : (at : ℕ) → ((before : List Piece) (l : ℕ) (entries : List RowEntry) → SaysRow ps before l entries
      → place (draft_code ps labels) a.lengths (label l) ≡ at → ⊥)
      → (done rest : List Piece) (workspace : Workspace) → ps ≡ done ++ rest
      → AllByRecursion (λ (row : SaidRow). key row ≡ at → ⊥) (said_rows_from workspace n rest)
  none_there at none done [] workspace whole = tt
  none_there at none done (p ∷ rest) workspace whole =
      let later = none_there at none (done ++ p ∷ []) rest (workspace_behind p workspace)
      (whole ∙ sym (append_assoc done (p ∷ []) rest)) in
      elim (row_or_none p) [
        | inl row ↦
            let is = whole ∙ ap (λ (q : Piece). done ++ q ∷ rest) row.is in
            subst (λ (rows : List SaidRow). AllByRecursion (λ (row : SaidRow). key row ≡ at → ⊥) rows)
            (sym (row.says workspace n rest)) (
              λ same. none done row.label row.entries (record { rest = rest; whole = is })
                  (sym (offset_is (draft_code ps labels) a.lengths row.label) ∙ same),
              later,
            )
        | inr others ↦
            subst (λ (rows : List SaidRow). AllByRecursion (λ (row : SaidRow). key row ≡ at → ⊥) rows)
            (sym (others workspace n rest)) later
      ]

  -- so none is found there
  none_elsewhere : (at : ℕ) → ((before : List Piece) (l : ℕ) (entries : List RowEntry) → SaysRow ps before l entries
      → place (draft_code ps labels) a.lengths (label l) ≡ at → ⊥) → label_at m at ≡ None
  none_elsewhere at none =
      ap (λ (rows : List Label). find (λ (r : Label). r.offset == at) rows) rows_keep
      ∙ none_found (row_of ps labels a) at (said_rows n ps) (none_there at none [] ps in_root refl)

  -- as every item has bytes, later items begin further on
  items_rise : (i j : ℕ) → i < j → j ≤ item_count ps → offset a.lengths i < offset a.lengths j
  items_rise i j less within =
      let code = draft_code ps labels in
      let exact = arranged.least.fits.exact in
      let size = ap (λ (xs : List ℕ). length xs) exact ∙ length-bytes_from code a.lengths 0 code.items
      ∙ length-items (tables_before [] ps) in_root ps in
      offsets_rise a.lengths i j (subst IsPositive (sym exact) (bytes_positive code a.lengths 0 code.items)) less
      (omega (arith, within, size))

  -- a piece that says a row is where its label is
  row_place : (before : List Piece) (l : ℕ) (entries : List RowEntry) → SaysRow ps before l entries
      → place (draft_code ps labels) a.lengths (label l) ≡ offset a.lengths (item_count before)
  row_place before l entries row =
      sym (offset_is (draft_code ps labels) a.lengths l) ∙ key_is before l entries row.rest row.whole

  -- the items before a piece are among all
  items_before : (before : List Piece) (l : ℕ) (entries : List RowEntry) → SaysRow ps before l entries
      → item_count before ≤ item_count ps
  items_before before l entries row =
      let all = ap item_count row.whole in
      let both = item_count-append before (Row l entries ∷ row.rest) in
      omega (arith, all, both)

  -- none is found where an item begins and no piece says a row
  none_before_others : (number : ℕ) → number ≤ item_count ps
      → ((before : List Piece) (l : ℕ) (entries : List RowEntry) → SaysRow ps before l entries
      → item_count before ≡ number → ⊥)
      → label_at m (offset a.lengths number) ≡ None
  none_before_others number within none =
      none_elsewhere (offset a.lengths number) (λ before l entries row same.
      let here = row_place before l entries row in
      elim (cases_lt (item_count before) number) [
        | inl less ↦
            let up = items_rise (item_count before) number less within in
            absurd (omega (arith, here, same, up))
        | inr no_less ↦ elim (cases_lt number (item_count before)) [
          | inl more ↦
              let up = items_rise number (item_count before) more (items_before before l entries row) in
              absurd (omega (arith, here, same, up))
          | inr no_more ↦ none before l entries row (omega (arith, no_less, no_more))
        ]
      ])

  -- and none inside an item
  none_inside : (number at : ℕ) → offset a.lengths number < at → at < offset a.lengths (suc number)
      → label_at m at ≡ None
  none_inside number at above below =
      none_elsewhere at (λ before l entries row same.
      let here = row_place before l entries row in
      elim (cases_lt number (item_count before)) [
        | inl later ↦
            let up = offset_rises a.lengths (suc number) (item_count before) (omega (arith, later)) in
            absurd (omega (arith, here, same, up, below))
        | inr earlier ↦
            let up = offset_rises a.lengths (item_count before) number earlier in
            absurd (omega (arith, here, same, up, above))
      ])

pub rows_keep_their_order : RowsKeepTheirOrder
rows_keep_their_order ps labels links bytes says once =
    rows_keep ps labels links says.arrangement says.arranged says.format.keeps once

pub rows_are_found : RowsAreFound
rows_are_found ps labels links bytes says depth before l entries once row =
    found ps labels links says.arrangement says.arranged says.format.keeps once before l entries row

pub no_row_is_elsewhere : NoRowIsElsewhere
no_row_is_elsewhere ps labels links bytes says depth at once none =
    none_elsewhere ps labels links says.arrangement says.arranged says.format.keeps once at none

pub no_row_is_before_others : NoRowIsBeforeOthers
no_row_is_before_others ps labels links bytes says number once within none =
    none_before_others ps labels links says.arrangement says.arranged says.format.keeps once number within none

pub no_row_is_inside : NoRowIsInside
no_row_is_inside ps labels links bytes says number at once above below =
    none_inside ps labels links says.arrangement says.arranged says.format.keeps once number at above below
