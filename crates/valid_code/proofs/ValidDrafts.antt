-- The drafts of valid pieces are valid: what a draft says is what its pieces say.
use Rattle.std.proofs.Common.{◌≡◌, ℕ, suc, ◌≤◌, List, [], ◌∷◌, length, map, Option, Some, None}
use Rattle.std.proofs.Common.{refl, sym, ap, subst, ◌∙◌, arith}
use Rattle.std.specs.List.{AllByRecursion, cons_option}
use Rattle.std.proofs.lemmas.List.{length-map}
use Rattle.std.proofs.lemmas.List.Sorted.{length_permutation}
use Rattle.std.proofs.lemmas.Simd.{map-map}
use Rattle.std.specs.Prelude.{slice_get}
use Rattle.module_format.specs.declared.limits.TheConstants.{MAX_CONSTANTS, MAX_DATA_WORDS, MAX_BUDGET, MAX_MESSAGE}
use Rattle.module_format.specs.declared.rows.LabelRow.{LabelRow}
use Rattle.module_format.specs.declared.rows.ParRow.{ParRow}
use Rattle.module_format.specs.declared.rows.TableRow.{TableRow}
use Rattle.module_format.specs.declared.tables.Version.{Version}
use Rattle.module_format.specs.Contents as contents
use Rattle.module_format.specs.Contents.{label_with}
use Rattle.module_format.specs.Keeping.{Keeps, FitsVersion}
use Rattle.module_format.specs.Stack.{mapped}
use Rattle.module_builder.specs.declared.item.Label.{Label}
use Rattle.module_builder.specs.declared.draft.ContextName.{ContextName}
use Rattle.module_builder.specs.declared.draft.ContextName.TheVariants.{Root}
use Rattle.module_builder.specs.declared.draft.Draft.{Draft}
use Rattle.module_builder.specs.Drafts as drafts
use Rattle.module_builder.specs.Layouts.{places, IsLeast}
use Rattle.module_builder.specs.Spelling.{spelled}
use Rattle.module_builder.specs.Placing.{label_offset, finish_offset, placed_fact, placed_entry, placed_label}
use Rattle.module_builder.specs.Placing.{placed_procedure, placed_par}
use Rattle.module_builder.specs.Ordering.{IsOrder, numbered, rows_in}
use Rattle.module_builder.specs.Assembled as assembled
use Rattle.module_builder.specs.Assembled.{ContextsAreThere, IsArranged, IsThere, IsWithinLimits, number_in, tables_of}
use Rattle.module_builder.proofs.Places.{one_least}
use Rattle.module_builder.proofs.RowLaws.{length-numbered}
use Rattle.code_pieces.specs.declared.piece.Workspace.{Workspace}
use Rattle.code_pieces.specs.Contexts.{context_name}
use Rattle.code_pieces.specs.DraftedPars.{laid_par}
use Rattle.code_pieces.specs.DraftedRows.{ShownRow, shown_row, drafted_row}
use Rattle.code_pieces.specs.Laid.{IsLaid, needs_in}
use Rattle.code_pieces.specs.LaidModule.{Arrangement, IsArrangement, context_number, first_branch, laid_module, laid_row}
use Rattle.code_pieces.specs.Laying.{SaidRow, apart, draft_code, label, pars_of, said_rows, said_rows_from, sizes_of}
use Rattle.code_pieces.specs.Laying.{tables_before, words_taken}
use Rattle.code_pieces.specs.Needed.{NeedsAreWithin}
use Rattle.code_pieces.specs.Numbers.{Needs}
use Rattle.code_pieces.specs.Pars as pars
use Rattle.code_pieces.specs.Pars.{in_root}
use Rattle.code_pieces.specs.Pieces.{Piece, Direct, Jump, JumpUnless, LoopBack, Distance, StartBranch, Select}
use Rattle.code_pieces.specs.Pieces.{TableAddress, Row, Place, Within, Par}
use Rattle.code_pieces.specs.Tables.{table_rows_from}
use Rattle.code_pieces.proofs.ContextsNumbered.{both_mapped, same_entries}
use Rattle.meant_code.proofs.AmongOthers.{apart_takes_no_more}
use Rattle.valid_code.specs.ValidDrafts.{DraftsAreValid, SequentialDraftsAreValid}
use Rattle.valid_code.specs.ValidModules.{IsWithin}
use Rattle.valid_code.specs.ValidPieces.{AreValid, IsValidPiece}
use Rattle.valid_code.proofs.LabelRows.{no_pars}
use Rattle.valid_code.proofs.ModulesValid.{modules_are_valid}
use Rattle.valid_code.proofs.ValidPrograms.{programs_are_valid}

-- ---- rows in an order

-- no more than the order has
one_more : {X : Type 0} (o : Option X) (xs : List X) (most : ℕ) → length xs ≤ most → length (cons_option o xs) ≤ suc most
one_more None xs most few = omega (arith, few)
one_more (Some x) xs most few = omega (arith, few)

few_in : {X : Type 0} (order : List (ℕ × ℕ)) (rows : List X) → length (rows_in order rows) ≤ length order
few_in [] rows = omega arith
few_in (pair ∷ order) rows =
    one_more (slice_get rows pair.1) (rows_in order rows) (length order) (few_in order rows)

-- so no more than there are
few_ordered : {X : Type 0} (key : X → ℕ) (order : List (ℕ × ℕ)) (rows : List X) → IsOrder (map key rows) order
    → length (rows_in order rows) ≤ length rows
few_ordered key order rows is =
    let few = few_in order rows in
    let same = length_permutation (numbered 0 (map key rows)) order is.same in
    let all = length-numbered 0 (map key rows) in
    let each = length-map rows key in
    omega (arith, few, same, all, each)

none_mapped : {X Y : Type 0} (f : X → Y) (xs : List X) → map f xs ≡ [] → xs ≡ []
none_mapped f [] none = refl
none_mapped f (x ∷ xs) none = absurd (cc)

no_rows : {X : Type 0} (order : List (ℕ × ℕ)) (rows : List X) → rows ≡ [] → rows_in order rows ≡ []
no_rows [] rows e = refl
no_rows (pair ∷ order) rows e = (λ j. cons_option (slice_get (e j) pair.1) (rows_in order rows)) ∙ no_rows order rows e

pub all_before : {X Y : Type 0} (P : Y → Type 0) (f : X → Y) (xs : List X) → AllByRecursion P (map f xs)
    → AllByRecursion (λ x. P (f x)) xs
all_before P f [] all = tt
all_before P f (x ∷ xs) all = (all.0, all_before P f xs all.1)

-- ---- rows in the root

abbrev AreInRoot : List SaidRow → Type 0
AreInRoot rows = AllByRecursion (λ (row : SaidRow). row.workspace ≡ in_root) rows

in_one_workspace : (words : ℕ) (n : Needs) (ps : List Piece) → AllByRecursion (IsValidPiece words) ps
    → AreInRoot (said_rows_from in_root n ps)
in_one_workspace words n [] each = tt
in_one_workspace words n (Direct f e ∷ ps) each = in_one_workspace words n ps each.1
in_one_workspace words n (Jump l ∷ ps) each = in_one_workspace words n ps each.1
in_one_workspace words n (JumpUnless l ∷ ps) each = in_one_workspace words n ps each.1
in_one_workspace words n (LoopBack head behind ∷ ps) each = in_one_workspace words n ps each.1
in_one_workspace words n (Distance from to ∷ ps) each = in_one_workspace words n ps each.1
in_one_workspace words n (StartBranch entry successor ∷ ps) each = in_one_workspace words n ps each.1
in_one_workspace words n (Select targets ∷ ps) each = in_one_workspace words n ps each.1
in_one_workspace words n (TableAddress values ∷ ps) each = in_one_workspace words n ps each.1
in_one_workspace words n (Row l entries ∷ ps) each = (refl, in_one_workspace words n ps each.1)
in_one_workspace words n (Place l ∷ ps) each = in_one_workspace words n ps each.1
in_one_workspace words n (Within workspace ∷ ps) each = absurd each.0
in_one_workspace words n (Par par ∷ ps) each = absurd each.0

-- their contexts are the root
contexts_of : (all : List pars.Par) (rows : List SaidRow) → AreInRoot rows
    → AllByRecursion (λ (row : ShownRow). row.context ≡ Root) (map (drafted_row all) rows)
contexts_of all [] root = tt
contexts_of all (row ∷ rows) root =
    (ap (λ (w : Workspace). context_name all w.context) root.0, contexts_of all rows root.1)

-- the row of a file, by what a row of a draft shows, where contexts have these numbers
abbrev file_row : (ContextName → ℕ) → List (Option ℕ) → ShownRow → contents.Label
file_row number offsets row =
    label_with (label_offset offsets row.offset) (number row.context) row.depth row.number
    (mapped (placed_fact offsets) row.stack) (map (placed_entry offsets) row.entries)

-- ---- the draft

-- that of pieces without PARs has none
pub none_drafted : (ps : List Piece) (labels : ℕ) (links : List ℕ) (d : Draft) (lengths : List ℕ)
    → IsLaid ps labels links lengths d → pars_of ps ≡ [] → d.pars.items ≡ []
none_drafted ps labels links d lengths laid none =
    none_mapped (λ (row : ParRow Label ContextName). placed_par [] 0 row) d.pars.items
    (laid.draft.pars (λ name. 0) [] ∙ ap (λ (rows : List pars.Par). map (laid_par (λ context. 0) []) rows) none)

module _ (ps : List Piece) (labels : ℕ) (links : List ℕ) (d : Draft) (a : assembled.Arrangement)
    (valid : AreValid ps labels) (eight : length links ≡ 8) (laid : IsLaid ps labels links a.lengths d)
    (is : IsArranged d a) (within : IsWithinLimits d a.lengths)
    (needs : NeedsAreWithin ps (sizes_of ps a.lengths)) where
  abbrev all : List pars.Par
  all = pars_of ps

  abbrev said : List SaidRow
  said = said_rows (needs_in ps a.lengths) ps

  abbrev own : Arrangement
  own = record { lengths = a.lengths; rows = a.labels; pars = a.pars; table_rows = a.table_rows }

  none : all ≡ []
  none = no_pars (words_taken ps) ps valid.each

  in_the_root : AreInRoot said
  in_the_root = in_one_workspace (words_taken ps) (needs_in ps a.lengths) ps valid.each

  no_drafted : d.pars.items ≡ []
  no_drafted = none_drafted ps labels links d a.lengths laid none

  -- ---- in order

  keys : (offsets : List (Option ℕ))
      → map (λ (row : LabelRow Label ContextName). label_offset offsets row.offset) d.labels.items
      ≡ map (λ (row : SaidRow). label_offset offsets (label row.label)) said
  keys offsets =
      sym (map-map (λ (row : ShownRow). label_offset offsets row.offset) shown_row d.labels.items)
      ∙ ap (λ (shown : List ShownRow). map (λ (row : ShownRow). label_offset offsets row.offset) shown) laid.rows
      ∙ map-map (λ (row : ShownRow). label_offset offsets row.offset) (drafted_row all) said

  arranged : IsArrangement ps labels own
  arranged = record {
    least = subst (λ (code : drafts.Code). IsLeast code a.lengths) laid.draft.code is.least;
    rows = subst (λ (ks : List ℕ). IsOrder ks a.labels)
        (keys (places d.code a.lengths)
        ∙ ap (λ (code : drafts.Code). map (λ (row : SaidRow). label_offset (places code a.lengths) (label row.label)) said)
        laid.draft.code)
        is.orders.labels;
    pars = subst (λ (ks : List ℕ). IsOrder ks a.pars)
        (same_entries all all d.pars.items (places d.code a.lengths) laid.draft.pars
        ∙ ap (λ (code : drafts.Code). map (λ (p : pars.Par). first_branch (places code a.lengths) p.branches) all)
        laid.draft.code)
        is.orders.pars;
    table_rows = subst (λ (rows : List TableRow). IsOrder (map (λ (row : TableRow). row.start) rows) a.table_rows)
        laid.draft.table_rows is.orders.table_rows;
  }

  -- ---- what it says

  there : ContextsAreThere d a
  there = record {
    labels = each_there d.labels.items
        (all_before (λ (row : ShownRow). row.context ≡ Root) shown_row d.labels.items
        (subst (AllByRecursion (λ (row : ShownRow). row.context ≡ Root)) (sym laid.rows)
        (contexts_of all said in_the_root)));
    pars = subst (AllByRecursion (λ (row : ParRow Label ContextName). IsThere d a.procedures a.pars row.context))
        (sym no_drafted) tt;
  }
    where
      each_there : (rows : List (LabelRow Label ContextName))
          → AllByRecursion (λ (row : LabelRow Label ContextName). row.context ≡ Root) rows
          → AllByRecursion (λ (row : LabelRow Label ContextName). IsThere d a.procedures a.pars row.context) rows
      each_there [] root = tt
      each_there (row ∷ rows) root =
          (subst (IsThere d a.procedures a.pars) (sym root.0) refl, each_there rows root.1)

  -- both number the root alike
  rows_laid : (offsets : List (Option ℕ)) (rows : List SaidRow) → AreInRoot rows
      → map (λ (row : SaidRow). file_row (number_in d a) offsets (drafted_row all row)) rows
      ≡ map (laid_row (context_number all a.pars) offsets) rows
  rows_laid offsets [] root = refl
  rows_laid offsets (row ∷ rows) root =
      let same : number_in d a (context_name all row.workspace.context)
      ≡ context_number all a.pars row.workspace.context =
      subst (λ (w : Workspace). number_in d a (context_name all w.context) ≡ context_number all a.pars w.context)
      (sym root.0) refl in
      let shown = drafted_row all row in
      λ j. label_with (label_offset offsets shown.offset) (same j) shown.depth shown.number
      (mapped (placed_fact offsets) shown.stack) (map (placed_entry offsets) shown.entries)
      ∷ rows_laid offsets rows root.1 j

  labels_said : (offsets : List (Option ℕ))
      → map (λ (row : LabelRow Label ContextName). placed_label offsets (number_in d a row.context) row)
      (rows_in a.labels d.labels.items)
      ≡ map (laid_row (context_number all a.pars) offsets) (rows_in a.labels said)
  labels_said offsets =
      both_mapped
      (λ (row : LabelRow Label ContextName). placed_label offsets (number_in d a row.context) row)
      (laid_row (context_number all a.pars) offsets) a.labels d.labels.items said
      (sym (map-map (file_row (number_in d a) offsets) shown_row d.labels.items)
      ∙ ap (λ (shown : List ShownRow). map (file_row (number_in d a) offsets) shown) laid.rows
      ∙ map-map (file_row (number_in d a) offsets) (drafted_row all) said ∙ rows_laid offsets said in_the_root)

  pars_said : (offsets : List (Option ℕ))
      → map (λ (row : ParRow Label ContextName). placed_par offsets (number_in d a row.context) row)
      (rows_in a.pars d.pars.items)
      ≡ map (laid_par (context_number all a.pars) offsets) (rows_in a.pars all)
  pars_said offsets =
      let placed = λ (row : ParRow Label ContextName). placed_par offsets (number_in d a row.context) row in
      let of_par = laid_par (context_number all a.pars) offsets in
      ap (map placed) (no_rows a.pars d.pars.items no_drafted)
      ∙ sym (ap (map of_par) (no_rows a.pars all none))

  says_all : tables_of d a ≡ laid_module ps labels links own
  says_all =
      let code = laid.draft.code in
      let rows = labels_said (places d.code a.lengths)
      ∙ ap (λ (c : drafts.Code). map (laid_row (context_number all a.pars) (places c a.lengths)) (rows_in a.labels said))
      code in
      let pars = pars_said (places d.code a.lengths)
      ∙ ap (λ (c : drafts.Code). map (laid_par (context_number all a.pars) (places c a.lengths)) (rows_in a.pars all))
      code in
      λ j. record {
        code = spelled (code j) a.lengths;
        constants = laid.draft.constants j;
        data_words = laid.draft.data_words j;
        base = laid.draft.base j;
        budget = laid.budget j;
        finish = finish_offset (places (code j) a.lengths) (laid.draft.finish j);
        lengths = laid.draft.lengths j;
        has_long_operations = laid.draft.no_long_operations j;
        procedures = map (placed_procedure (places d.code a.lengths))
            (no_rows a.procedures d.procedures.items laid.draft.procedures j);
        labels = rows j;
        pars = pars j;
        table_rows = rows_in a.table_rows (laid.draft.table_rows j);
      }

  -- ---- limits

  contents_within : IsWithin (laid_module ps labels links own)
  contents_within =
      let header = within.draft.header in
      let counts = within.draft.rows.counts in
      let offsets = places (draft_code ps labels) a.lengths in
      let tables = table_rows_from 0 (tables_before [] ps) in
      let few = few_ordered (λ (row : SaidRow). label_offset offsets (label row.label)) a.labels said arranged.rows in
      let placed = length-map (rows_in a.labels said) (laid_row (context_number all a.pars) offsets) in
      let shown = length-map d.labels.items shown_row in
      let drafted = length-map said (drafted_row all) in
      let rows = ap length laid.rows in
      let limit = counts.labels in
      let few_tables = few_ordered (λ (row : TableRow). row.start) a.table_rows tables arranged.table_rows in
      let same_tables = ap length laid.draft.table_rows in
      let limit_tables = counts.table_rows in
      record {
        constants = subst (λ (bytes : List ℕ). length bytes ≤ MAX_CONSTANTS) laid.draft.constants header.constants;
        data_words = subst (λ (n : ℕ). n ≤ MAX_DATA_WORDS) laid.draft.data_words header.data_words;
        budget = subst (λ (n : ℕ). n ≤ MAX_BUDGET) laid.budget header.budget;
        lengths = subst (AllByRecursion (λ n. n ≤ MAX_MESSAGE)) laid.draft.lengths header.lengths;
        labels = omega (arith, few, placed, shown, drafted, rows, limit);
        table_rows = omega (arith, few_tables, same_tables, limit_tables);
      }

  draft_is_valid : assembled.IsValid d a
  draft_is_valid = record {
    contexts = there;
    tables = subst Keeps (sym says_all)
        (modules_are_valid ps labels links own valid eight arranged
        (record { contents = contents_within; needs = needs }));
    fits = subst (λ (v : Version). FitsVersion v (tables_of d a)) (sym laid.draft.version) tt;
  }

pub drafts_are_valid : DraftsAreValid
drafts_are_valid ps labels links d out valid eight needs invalid =
    let a = invalid.arrangement in
    let same : out.lengths ≡ a.lengths =
    one_least (draft_code ps labels) out.lengths a.lengths out.least
    (subst (λ (code : drafts.Code). IsLeast code a.lengths) out.laid.draft.code invalid.arranged.least) in
    invalid.invalid
    (draft_is_valid ps labels links d a valid eight
    (subst (λ (lengths : List ℕ). IsLaid ps labels links lengths d) same out.laid) invalid.arranged invalid.within
    (subst (λ (lengths : List ℕ). NeedsAreWithin ps (sizes_of ps lengths)) same needs))

pub sequential_drafts_are_valid : SequentialDraftsAreValid
sequential_drafts_are_valid items c links d out seq unbroken literals is tables eight needs invalid =
    let wide = invalid.within.draft.header.data_words in
    let words = out.laid.draft.data_words in
    let same = apart_takes_no_more c.pieces in
    drafts_are_valid (apart c.pieces) c.labels links d out
    (programs_are_valid items c seq unbroken literals is tables (omega (arith, same, wide, words))) eight needs invalid
