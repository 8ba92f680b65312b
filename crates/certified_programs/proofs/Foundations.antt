-- What the whole module of pieces without PARs has.
use Rattle.std.proofs.Common.{◌≡◌, ℕ, suc, ◌+◌, ◌*◌, ◌<◌, ◌≤◌, ℤ, pos, true, List, [], ◌∷◌, length}
use Rattle.std.proofs.Common.{Option, Some, refl, sym, ap, ◌∙◌, arith}
use Rattle.std.specs.Prelude.{int_le, int_lt, map, option_map, unwrap_or}
use Rattle.std.specs.List.{find}
use Rattle.std.proofs.lemmas.Bool.{and_parts}
use Rattle.std.proofs.lemmas.Int.{ints}
use Rattle.small_laws.proofs.Comparisons.{int_lt-true}
use Rattle.word_arithmetic.specs.Range.{Ends, full}
use Rattle.module_format.specs.declared.contexts.Context.{Context}
use Rattle.module_format.specs.declared.rows.TableRow.{TableRow}
use Rattle.module_format.specs.Contents.{Contents}
use Rattle.module_format.specs.Contexts.{context_at, root_context}
use Rattle.module_builder.specs.Ordering.{IsOrder, rows_in}
use Rattle.certificate.specs.Rights.{has_word}
use Rattle.rulings.specs.Reach.{constant_range, lie_in_row}
use Rattle.code_pieces.specs.Pieces.{Piece}
use Rattle.code_pieces.specs.Laying.{offset_in, pars_of, tables_before, words_taken}
use Rattle.code_pieces.specs.LaidModule.{Arrangement, Says, laid_module}
use Rattle.code_pieces.specs.Tables.{has_table, table_rows_from}
use Rattle.placed_code.proofs.OneProcess.{no_pars_laid, root_at, root_has_its_words}
use Rattle.valid_code.proofs.ClimbingKeys.{Climb, climb_lower, climbing_stay}
use Rattle.certified_lines.specs.Instructions.{MayRead}
use Rattle.certified_lines.specs.Scopes.{HasTable}
use Rattle.certified_modules.specs.RootRows.{root_setting}
use Rattle.certified_scopes.specs.Settled.{range_of_values}
use Rattle.certified_programs.specs.Foundations.{RootSettingsAreRoots, RootsAreFounded}
use Rattle.certified_programs.proofs.TableRows.{lies_inside, read_there, row_at, row_found}

pub root_settings_are_roots : RootSettingsAreRoots
root_settings_are_roots ps labels links a none =
    record { alone = none; contents = refl; context = refl; depth = refl }

-- ---- words

-- a word that the root may read is before the last one that code takes
read_below : (ps : List Piece) (labels : ℕ) (links : List ℕ) (a : Arrangement) → pars_of ps ≡ [] → (w : ℕ)
    → MayRead (root_setting ps labels links a) w → w < words_taken ps
read_below ps labels links a none w may =
    let m = laid_module ps labels links a in
    let has = (and_parts (has_word (context_at m 0) (pos w)) true may).0 in
    let root = sym (ap (λ (o : Option Context). has_word o (pos w)) (root_at m (no_pars_laid ps labels links a none)))
    ∙ has in
    let less = int_lt-true (pos w) (root_context m).hi
    (and_parts (int_le (root_context m).lo (pos w)) (int_lt (pos w) (root_context m).hi) root).1 in
    omega (arith, ints, less)

lower_read : (ps : List Piece) (labels : ℕ) (links : List ℕ) (a : Arrangement) → pars_of ps ≡ [] → (v w : ℕ) → v ≤ w
    → MayRead (root_setting ps labels links a) w → MayRead (root_setting ps labels links a) v
lower_read ps labels links a none v w before may =
    let less = read_below ps labels links a none w may in
    (root_has_its_words ps labels links a none (pos v) (omega (arith, ints)) (omega (arith, ints, before, less))).1

-- ---- tables

-- rows of tables begin where tables do, one after the other
starts_climb : (start : ℕ) (ts : List (List ℤ))
    → Climb start (map (λ (row : TableRow). row.start) (table_rows_from start ts))
starts_climb start [] = tt
starts_climb start ([] ∷ ts) = climb_lower start (start + 4 * 0) _ (omega arith) (starts_climb (start + 4 * 0) ts)
starts_climb start ((v ∷ vs) ∷ ts) = (
  omega arith,
  climb_lower (suc start) (start + 4 * length (v ∷ vs)) _ (omega arith) (starts_climb (start + 4 * length (v ∷ vs)) ts),
)

-- so the module has them in this order
rows_stay : (ts : List (List ℤ)) (order : List (ℕ × ℕ))
    → IsOrder (map (λ (row : TableRow). row.start) (table_rows_from 0 ts)) order
    → rows_in order (table_rows_from 0 ts) ≡ table_rows_from 0 ts
rows_stay ts order is =
    let rows = table_rows_from 0 ts in
    climbing_stay (map (λ (row : TableRow). row.start) rows) rows order (same_length rows) (starts_climb 0 ts) is
  where
    same_length : (xs : List TableRow) → length (map (λ (row : TableRow). row.start) xs) ≡ length xs
    same_length [] = refl
    same_length (x ∷ xs) = ap suc (same_length xs)

-- the range that a row says
abbrev said : Option TableRow → Ends
said o = unwrap_or (option_map (λ (row : TableRow). record { lo = row.lo; hi = row.hi }) o) full

range_found : (m : Contents) (first end : ℕ) (rows : List TableRow) (row : TableRow) → m.table_rows ≡ rows
    → find (lie_in_row (pos first) (pos end)) rows ≡ Some row
    → constant_range m (pos first) (pos end) ≡ record { lo = row.lo; hi = row.hi }
unfolding constant_range
range_found m first end rows row is found =
    ap (λ (xs : List TableRow). said (find (lie_in_row (pos first) (pos end)) xs)) is ∙ ap said found

module _ (ps : List Piece) (labels : ℕ) (links bytes : List ℕ) (says : Says ps labels links bytes) where
  abbrev m : Contents
  m = laid_module ps labels links says.arrangement

  abbrev ts : List (List ℤ)
  ts = tables_before [] ps

  table_has : (v : ℤ) (vs : List ℤ) → has_table ts (v ∷ vs) ≡ true
      → HasTable (root_setting ps labels links says.arrangement) (v ∷ vs) (range_of_values v vs)
  table_has v vs there = record {
    inside = lies_inside (v ∷ vs) ts there;
    few = says.format.keeps.sizes.constants_limit;
    says = λ first last order less.
        let offset = offset_in ts (v ∷ vs) in
        range_found m (offset + 4 * first) (offset + 4 * last + 4) (table_rows_from 0 ts) (row_at (0 + offset) v vs)
        (rows_stay ts says.arrangement.table_rows says.arranged.table_rows)
        (row_found v vs ts 0 (offset + 4 * first) (offset + 4 * last + 4) there (omega arith) (omega (arith, order))
        (omega (arith, less)));
  }

pub roots_are_founded : RootsAreFounded
roots_are_founded ps labels links bytes says homes none = record {
  lower = lower_read ps labels links says.arrangement none;
  tables = λ v vs reads.
      table_has ps labels links bytes says v vs
      (ap (λ (qs : List Piece). has_table (tables_before [] qs) (v ∷ vs)) reads.whole
      ∙ read_there [] reads.before reads.rest (v ∷ vs));
}
