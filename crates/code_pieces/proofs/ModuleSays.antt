-- What the module of pieces says, from the draft that they are laid out as.
use Rattle.std.proofs.Common.{◌≡◌, ℕ, List, [], ◌∷◌, map, Option, refl, sym, ap, subst, ◌∙◌}
use Rattle.std.specs.List.{slice_get, cons_option}
use Rattle.std.proofs.lemmas.Simd.{map-map}
use Rattle.module_format.specs.declared.rows.LabelRow.{LabelRow}
use Rattle.module_format.specs.declared.rows.ParRow.{ParRow}
use Rattle.module_format.specs.declared.rows.TableRow.{TableRow}
use Rattle.module_format.specs.Contents as contents
use Rattle.module_format.specs.Contents.{Contents, label_with}
use Rattle.module_format.specs.Keeping.{IsFile}
use Rattle.module_format.specs.declared.tables.Version.{Version}
use Rattle.module_format.specs.Stack.{mapped}
use Rattle.module_builder.specs.declared.item.Label.{Label}
use Rattle.module_builder.specs.declared.draft.ContextName.{ContextName}
use Rattle.module_builder.specs.declared.draft.Draft.{Draft}
use Rattle.module_builder.specs.Drafts.{Code}
use Rattle.module_builder.specs.Layouts.{places, IsLeast}
use Rattle.module_builder.specs.Spelling.{spelled}
use Rattle.module_builder.specs.Placing.{label_offset, finish_offset, placed_fact, placed_entry, placed_label}
use Rattle.module_builder.specs.Placing.{placed_procedure, placed_par}
use Rattle.module_builder.specs.Ordering.{IsOrder, rows_in}
use Rattle.module_builder.specs.Assembled as assembled
use Rattle.module_builder.specs.Assembled.{IsAssembled, IsThere, ContextsAreThere, number_in, tables_of}
use Rattle.module_builder.proofs.Places.{one_least}
use Rattle.code_pieces.specs.Pars.{Par}
use Rattle.code_pieces.specs.Pieces.{Piece}
use Rattle.code_pieces.specs.Contexts.{context_name}
use Rattle.code_pieces.specs.Laying.{label, draft_code, SaidRow, said_rows, pars_of}
use Rattle.code_pieces.specs.DraftedRows.{ShownRow, shown_row, drafted_row}
use Rattle.code_pieces.specs.DraftedPars.{laid_par, AreRows}
use Rattle.code_pieces.specs.Laid.{needs_in, IsLaid, IsLaidOut}
use Rattle.code_pieces.specs.LaidModule.{name_number, context_number, laid_row, first_branch, Arrangement}
use Rattle.code_pieces.specs.LaidModule.{laid_module, IsArrangement, Says}
use Rattle.code_pieces.proofs.ContextsNumbered.{both_mapped, same_entries, numbered_as, renumbered}

-- ---- rows

no_rows : {X : Type 0} (order : List (ℕ × ℕ)) (rows : List X) → rows ≡ [] → rows_in order rows ≡ []
no_rows [] rows e = refl
no_rows (pair ∷ order) rows e =
    (λ j. cons_option (slice_get (e j) pair.1) (rows_in order rows)) ∙ no_rows order rows e

-- the row of a file, by what a row of a draft shows, where contexts have these numbers
file_row : (ContextName → ℕ) → List (Option ℕ) → ShownRow → contents.Label
file_row number offsets row =
    label_with (label_offset offsets row.offset) (number row.context) row.depth row.number
    (mapped (placed_fact offsets) row.stack) (map (placed_entry offsets) row.entries)

rows_laid : (all : List Par) (number : ContextName → ℕ) (offsets : List (Option ℕ)) (order : List (ℕ × ℕ))
    (rows : List (LabelRow Label ContextName)) (said : List SaidRow)
    → map shown_row rows ≡ map (drafted_row all) said
    → map (λ (row : LabelRow Label ContextName). placed_label offsets (number row.context) row) (rows_in order rows)
    ≡ map (laid_row (λ context. number (context_name all context)) offsets) (rows_in order said)
unfolding file_row
rows_laid all number offsets order rows said e =
    sym (map-map (file_row number offsets) shown_row (rows_in order rows))
    ∙ ap (λ (shown : List ShownRow). map (file_row number offsets) shown)
    (both_mapped shown_row (drafted_row all) order rows said e)
    ∙ map-map (file_row number offsets) (drafted_row all) (rows_in order said)

keys_laid : (all : List Par) (offsets : List (Option ℕ)) (rows : List (LabelRow Label ContextName))
    (said : List SaidRow) → map shown_row rows ≡ map (drafted_row all) said
    → map (λ (row : LabelRow Label ContextName). label_offset offsets row.offset) rows
    ≡ map (λ (row : SaidRow). label_offset offsets (label row.label)) said
keys_laid all offsets rows said e =
    sym (map-map (λ (row : ShownRow). label_offset offsets row.offset) shown_row rows)
    ∙ ap (λ (shown : List ShownRow). map (λ (row : ShownRow). label_offset offsets row.offset) shown) e
    ∙ map-map (λ (row : ShownRow). label_offset offsets row.offset) (drafted_row all) said

-- rows in an order, with the numbers of contexts that are there
labels_numbered : (all ps : List Par) (d : Draft) (a : assembled.Arrangement) (offsets : List (Option ℕ))
    → d.procedures.items ≡ [] → AreRows all ps d.pars.items → ContextsAreThere d a
    → map (λ (row : LabelRow Label ContextName). placed_label offsets (number_in d a row.context) row)
    (rows_in a.labels d.labels.items)
    ≡ map (λ (row : LabelRow Label ContextName). placed_label offsets (name_number ps a.pars row.context) row)
    (rows_in a.labels d.labels.items)
labels_numbered all ps d a offsets none are there =
    both_mapped
    (λ (row : LabelRow Label ContextName). placed_label offsets (number_in d a row.context) row)
    (λ (row : LabelRow Label ContextName). placed_label offsets (name_number ps a.pars row.context) row)
    a.labels d.labels.items d.labels.items
    (renumbered (λ (row : LabelRow Label ContextName). row.context) (λ n row. placed_label offsets n row)
    (number_in d a) (name_number ps a.pars) (IsThere d a.procedures a.pars) (numbered_as all ps d a none are)
    d.labels.items there.labels)

pars_numbered : (all ps : List Par) (d : Draft) (a : assembled.Arrangement) (offsets : List (Option ℕ))
    → d.procedures.items ≡ [] → AreRows all ps d.pars.items → ContextsAreThere d a
    → map (λ (row : ParRow Label ContextName). placed_par offsets (number_in d a row.context) row)
    (rows_in a.pars d.pars.items)
    ≡ map (laid_par (λ context. name_number ps a.pars (context_name all context)) offsets) (rows_in a.pars ps)
pars_numbered all ps d a offsets none are there =
    both_mapped
    (λ (row : ParRow Label ContextName). placed_par offsets (number_in d a row.context) row)
    (laid_par (λ context. name_number ps a.pars (context_name all context)) offsets) a.pars d.pars.items ps
    (renumbered (λ (row : ParRow Label ContextName). row.context) (λ n row. placed_par offsets n row)
    (number_in d a) (name_number ps a.pars) (IsThere d a.procedures a.pars) (numbered_as all ps d a none are)
    d.pars.items there.pars
    ∙ are (name_number ps a.pars) offsets)

-- ---- the module

arrangement_of : assembled.Arrangement → Arrangement
arrangement_of a = record { lengths = a.lengths; rows = a.labels; pars = a.pars; table_rows = a.table_rows }

arranged : (ps : List Piece) (labels : ℕ) (links : List ℕ) (d : Draft) (a : assembled.Arrangement)
    → IsLaid ps labels links a.lengths d → assembled.IsArranged d a → IsArrangement ps labels (arrangement_of a)
unfolding arrangement_of
arranged ps labels links d a laid is = record {
  least = subst (λ (code : Code). IsLeast code a.lengths) laid.draft.code is.least;
  rows = subst (λ (keys : List ℕ). IsOrder keys a.labels)
      (keys_laid (pars_of ps) (places d.code a.lengths) d.labels.items (said_rows (needs_in ps a.lengths) ps) laid.rows
      ∙ ap (λ (code : Code). map (λ (row : SaidRow). label_offset (places code a.lengths) (label row.label))
      (said_rows (needs_in ps a.lengths) ps)) laid.draft.code)
      is.orders.labels;
  pars = subst (λ (keys : List ℕ). IsOrder keys a.pars)
      (same_entries (pars_of ps) (pars_of ps) d.pars.items (places d.code a.lengths) laid.draft.pars
      ∙ ap (λ (code : Code). map (λ (p : Par). first_branch (places code a.lengths) p.branches) (pars_of ps))
      laid.draft.code)
      is.orders.pars;
  table_rows = subst (λ (rows : List TableRow). IsOrder (map (λ (row : TableRow). row.start) rows) a.table_rows)
      laid.draft.table_rows is.orders.table_rows;
}

says_all : (ps : List Piece) (labels : ℕ) (links : List ℕ) (d : Draft) (a : assembled.Arrangement)
    → IsLaid ps labels links a.lengths d → ContextsAreThere d a
    → tables_of d a ≡ laid_module ps labels links (arrangement_of a)
unfolding arrangement_of
says_all ps labels links d a laid there =
    let offsets = places d.code a.lengths in
    let all = pars_of ps in
    let said = said_rows (needs_in ps a.lengths) ps in
    let number = context_number all a.pars in
    let rows : map (λ (row : LabelRow Label ContextName). placed_label offsets (number_in d a row.context) row)
    (rows_in a.labels d.labels.items)
    ≡ map (laid_row number (places (draft_code ps labels) a.lengths)) (rows_in a.labels said) =
    labels_numbered all all d a offsets laid.draft.procedures laid.draft.pars there
    ∙ rows_laid all (name_number all a.pars) offsets a.labels d.labels.items said laid.rows
    ∙ ap (λ (code : Code). map (laid_row number (places code a.lengths)) (rows_in a.labels said)) laid.draft.code in
    let pars : map (λ (row : ParRow Label ContextName). placed_par offsets (number_in d a row.context) row)
    (rows_in a.pars d.pars.items)
    ≡ map (laid_par number (places (draft_code ps labels) a.lengths)) (rows_in a.pars all) =
    pars_numbered all all d a offsets laid.draft.procedures laid.draft.pars there
    ∙ ap (λ (code : Code). map (laid_par number (places code a.lengths)) (rows_in a.pars all)) laid.draft.code in
    λ j. record {
      code = spelled (laid.draft.code j) a.lengths;
      constants = laid.draft.constants j;
      data_words = laid.draft.data_words j;
      base = laid.draft.base j;
      budget = laid.budget j;
      finish = finish_offset (places (laid.draft.code j) a.lengths) (laid.draft.finish j);
      lengths = laid.draft.lengths j;
      has_long_operations = laid.draft.no_long_operations j;
      procedures = map (placed_procedure offsets) (no_rows a.procedures d.procedures.items laid.draft.procedures j);
      labels = rows j;
      pars = pars j;
      table_rows = rows_in a.table_rows (laid.draft.table_rows j);
    }

-- what the module of pieces says
pub module_says : (ps : List Piece) (labels : ℕ) (links bytes : List ℕ) (d : Draft) → IsLaidOut ps labels links d
    → IsAssembled d bytes → Says ps labels links bytes
module_says ps labels links bytes d out file =
    let a = file.arrangement in
    let its : IsLeast (draft_code ps labels) a.lengths =
    subst (λ (code : Code). IsLeast code a.lengths) out.laid.draft.code file.arranged.least in
    let same : out.lengths ≡ a.lengths = one_least (draft_code ps labels) out.lengths a.lengths out.least its in
    let laid : IsLaid ps labels links a.lengths d =
    subst (λ (ls : List ℕ). IsLaid ps labels links ls d) same out.laid in
    record {
      arrangement = arrangement_of a;
      arranged = arranged ps labels links d a laid file.arranged;
      format = subst (λ (v : Version). IsFile v bytes (laid_module ps labels links (arrangement_of a)))
          laid.draft.version
          (subst (λ (c : Contents). IsFile d.version bytes c) (says_all ps labels links d a laid file.contexts)
          file.format);
    }
