-- The rows of tables keep the rules of the format: each has the range of its table's words.
use Rattle.std.proofs.Common.{◌≡◌, ℕ, suc, ◌+◌, ◌*◌, ◌-◌, ◌%◌, ◌^◌, ◌<◌, ℤ, Bool, true, false, List, []}
use Rattle.std.proofs.Common.{◌∷◌, ◌++◌, length, take, drop, refl, sym, ap, subst, ◌∙◌, arith, FitsSigned, eq-eqb}
use Rattle.std.proofs.Common.{append_assoc, length-append}
use Rattle.std.specs.Prelude.{◌≤ℤ◌, if◌then◌else◌, IsTrue, map}
use Rattle.std.specs.Int.{w32, cast_signed, cast_unsigned}
use Rattle.std.specs.List.{AllByRecursion}
use Rattle.std.proofs.lemmas.Int.{ints, clamps, to_z-of_z}
use Rattle.std.proofs.lemmas.List.{take_at, drop_at}
use Rattle.module_format.specs.declared.rows.TableRow.{TableRow}
use Rattle.module_format.specs.Order.{InOrder, is_multiple_of_four}
use Rattle.module_format.specs.Procedures.{words_in_bytes, IsBetween, TableKeeps, behind_table}
use Rattle.module_builder.specs.Ordering.{IsOrder, rows_in}
use Rattle.code_pieces.specs.Pieces.{Piece, Direct, Jump, JumpUnless, LoopBack, Distance, StartBranch, Select}
use Rattle.code_pieces.specs.Pieces.{TableAddress, Row, Place, Within, Par}
use Rattle.code_pieces.specs.Laying.{are_same, with_table, tables_before}
use Rattle.code_pieces.specs.Tables.{value_bytes, table_bytes, constants_of, lower, higher, lowest, highest}
use Rattle.code_pieces.specs.Tables.{table_rows_from}
use Rattle.placed_code.proofs.PiecesLie.{length-table}
use Rattle.valid_code.specs.ValidPieces.{IsValidPiece}
use Rattle.valid_code.proofs.ClimbingKeys.{Climb, climb_lower, climbing_stay}

-- ---- the tables of valid pieces have words

abbrev AreWords : List ℤ → Type 0
AreWords values = AllByRecursion (FitsSigned w32) values

abbrev TablesAreWords : List (List ℤ) → Type 0
TablesAreWords ts = AllByRecursion AreWords ts

-- by whether the table is there already
added_by : (same : Bool) (values t : List ℤ) (ts more : List (List ℤ)) → TablesAreWords (t ∷ ts)
    → TablesAreWords more → TablesAreWords (if same then t ∷ ts else t ∷ more)
added_by true values t ts more all rest = all
added_by false values t ts more all rest = (all.0, rest)

words_added : (values : List ℤ) (ts : List (List ℤ)) → AreWords values → TablesAreWords ts
    → TablesAreWords (with_table values ts)
words_added values [] words all = (words, tt)
words_added values (t ∷ ts) words all =
    added_by (are_same t values) values t ts (with_table values ts) all (words_added values ts words all.1)

pub tables_are_words : (words : ℕ) (ts : List (List ℤ)) (ps : List Piece) → TablesAreWords ts
    → AllByRecursion (IsValidPiece words) ps → TablesAreWords (tables_before ts ps)
tables_are_words words ts [] all valid = all
tables_are_words words ts (TableAddress values ∷ ps) all valid =
    tables_are_words words (with_table values ts) ps (words_added values ts valid.0 all) valid.1
tables_are_words words ts (Direct f e ∷ ps) all valid = tables_are_words words ts ps all valid.1
tables_are_words words ts (Jump l ∷ ps) all valid = tables_are_words words ts ps all valid.1
tables_are_words words ts (JumpUnless l ∷ ps) all valid = tables_are_words words ts ps all valid.1
tables_are_words words ts (LoopBack head behind ∷ ps) all valid = tables_are_words words ts ps all valid.1
tables_are_words words ts (Distance from to ∷ ps) all valid = tables_are_words words ts ps all valid.1
tables_are_words words ts (StartBranch entry successor ∷ ps) all valid = tables_are_words words ts ps all valid.1
tables_are_words words ts (Select targets ∷ ps) all valid = tables_are_words words ts ps all valid.1
tables_are_words words ts (Row l entries ∷ ps) all valid = tables_are_words words ts ps all valid.1
tables_are_words words ts (Place l ∷ ps) all valid = tables_are_words words ts ps all valid.1
tables_are_words words ts (Within workspace ∷ ps) all valid = tables_are_words words ts ps all valid.1
tables_are_words words ts (Par par ∷ ps) all valid = tables_are_words words ts ps all valid.1

-- ---- the words of a table

-- a word is read as what it was written from
word_read : (v : ℤ) (rest : List ℕ) → FitsSigned w32 v
    → words_in_bytes (value_bytes v ++ rest) ≡ v ∷ words_in_bytes rest
word_read v rest fits =
    let below : cast_unsigned w32 v < 2 ^ 32 = omega (arith, ints) in
    ap (λ (n : ℕ). cast_signed w32 n ∷ words_in_bytes rest) (omega (arith, below))
    ∙ ap (λ (z : ℤ). z ∷ words_in_bytes rest) (to_z-of_z w32 v fits)

words_read : (values : List ℤ) → AreWords values → words_in_bytes (table_bytes values) ≡ values
words_read [] words = refl
words_read (v ∷ values) words =
    word_read v (table_bytes values) words.0 ∙ ap (λ (vs : List ℤ). v ∷ vs) (words_read values words.1)

-- ---- the range of a table

-- the least value of some is at most each, and a word as they are
record IsLeast (v : ℤ) (vs : List ℤ) : Type 0 where
  first : lowest v vs ≤ℤ v
  others : AllByRecursion (λ w. lowest v vs ≤ℤ w) vs
  word : FitsSigned w32 (lowest v vs)

at_least_all : (a b : ℤ) (vs : List ℤ) → a ≤ℤ b → AllByRecursion (λ w. b ≤ℤ w) vs
    → AllByRecursion (λ w. a ≤ℤ w) vs
at_least_all a b [] under all = tt
at_least_all a b (v ∷ vs) under all =
    let here = all.0 in
    (omega (arith, ints, under, here), at_least_all a b vs under all.1)

lower_is : (a b : ℤ) → FitsSigned w32 a → FitsSigned w32 b
    → (lower a b ≤ℤ a) × (lower a b ≤ℤ b) × FitsSigned w32 (lower a b)
unfolding lower
lower_is a b first second =
    (omega (arith, ints, clamps), omega (arith, ints, clamps), omega (arith, ints, clamps, first, second))

least_is : (v : ℤ) (vs : List ℤ) → FitsSigned w32 v → AreWords vs → IsLeast v vs
least_is v [] fits words = record { first = omega (arith, ints); others = tt; word = fits }
least_is v (w ∷ vs) fits words =
    let both = lower_is v w fits words.0 in
    let rest = least_is (lower v w) vs both.2 words.1 in
    let low = rest.first in
    let a = both.0 in
    let b = both.1 in
    record { first = omega (arith, ints, low, a); others = (omega (arith, ints, low, b), rest.others); word = rest.word }

-- the greatest value
record IsGreatest (v : ℤ) (vs : List ℤ) : Type 0 where
  first : v ≤ℤ highest v vs
  others : AllByRecursion (λ w. w ≤ℤ highest v vs) vs
  word : FitsSigned w32 (highest v vs)

higher_is : (a b : ℤ) → FitsSigned w32 a → FitsSigned w32 b
    → (a ≤ℤ higher a b) × (b ≤ℤ higher a b) × FitsSigned w32 (higher a b)
unfolding higher
higher_is a b first second =
    (omega (arith, ints, clamps), omega (arith, ints, clamps), omega (arith, ints, clamps, first, second))

greatest_is : (v : ℤ) (vs : List ℤ) → FitsSigned w32 v → AreWords vs → IsGreatest v vs
greatest_is v [] fits words = record { first = omega (arith, ints); others = tt; word = fits }
greatest_is v (w ∷ vs) fits words =
    let both = higher_is v w fits words.0 in
    let rest = greatest_is (higher v w) vs both.2 words.1 in
    let high = rest.first in
    let a = both.0 in
    let b = both.1 in
    record {
      first = omega (arith, ints, high, a);
      others = (omega (arith, ints, high, b), rest.others);
      word = rest.word;
    }

between : (lo hi : ℤ) (vs : List ℤ) → AllByRecursion (λ w. lo ≤ℤ w) vs → AllByRecursion (λ w. w ≤ℤ hi) vs
    → AllByRecursion (IsBetween lo hi) vs
between lo hi [] low high = tt
between lo hi (v ∷ vs) low high = (record { low = low.0; high = high.0 }, between lo hi vs low.1 high.1)

-- ---- rows

-- rows begin where tables do, one after the other
starts_climb : (start : ℕ) (ts : List (List ℤ))
    → Climb start (map (λ (row : TableRow). row.start) (table_rows_from start ts))
starts_climb start [] = tt
starts_climb start ([] ∷ ts) = climb_lower start (start + 4 * 0) _ (omega arith) (starts_climb (start + 4 * 0) ts)
starts_climb start ((v ∷ vs) ∷ ts) = (
  omega arith,
  climb_lower (suc start) (start + 4 * length (v ∷ vs)) _ (omega arith)
      (starts_climb (start + 4 * length (v ∷ vs)) ts),
)

aligned : (n quarter : ℕ) → n ≡ 4 * quarter → IsTrue (is_multiple_of_four n)
aligned n quarter is = eq-eqb (n % 4) 0 (omega (arith, is))

-- the bytes of a table that is after others in the constants
cut : (before t rest : List ℕ) (start end : ℕ) → start ≡ length before → end ≡ start + length t
    → take (end - start) (drop start (before ++ (t ++ rest))) ≡ t
cut before t rest start end at to =
    ap (λ (xs : List ℕ). take (end - start) xs) (drop_at before (t ++ rest) start (sym at))
    ∙ take_at t rest (end - start) (omega (arith, to))

-- The rows of tables, of which the first begins after these bytes.
rows_keep : (before all : List ℕ) (start quarter : ℕ) (ts : List (List ℤ)) → start ≡ length before
    → start ≡ 4 * quarter → all ≡ before ++ constants_of ts → TablesAreWords ts
    → InOrder (TableKeeps all) behind_table start (table_rows_from start ts)
rows_keep before all start quarter [] at by whole words = tt
rows_keep before all start quarter ([] ∷ ts) at by whole words =
    let same : start + 4 * 0 ≡ start = omega arith in
    subst (λ (n : ℕ). InOrder (TableKeeps all) behind_table start (table_rows_from n ts)) (sym same)
    (rows_keep before all start quarter ts at by whole words.1)
rows_keep before all start quarter ((v ∷ vs) ∷ ts) at by whole words =
    let t : List ℤ = v ∷ vs in
    let end = start + 4 * length t in
    let bytes = table_bytes t in
    let size = length-table t in
    let shape : all ≡ (before ++ bytes) ++ constants_of ts =
    whole ∙ sym (append_assoc before bytes (constants_of ts)) in
    let front = length-append before bytes in
    let long = ap length shape in
    let both = length-append (before ++ bytes) (constants_of ts) in
    let least = least_is v vs words.0.0 words.0.1 in
    let greatest = greatest_is v vs words.0.0 words.0.1 in
    let low = least.first in
    let high = greatest.first in
    let found : words_in_bytes (take (end - start) (drop start all)) ≡ t =
    ap (λ (xs : List ℕ). words_in_bytes (take (end - start) (drop start xs))) whole
    ∙ ap words_in_bytes (cut before bytes (constants_of ts) start end at (omega (arith, size)))
    ∙ words_read t words.0 in (
      record {
        start_aligned = aligned start quarter by;
        apart = omega arith;
        end_aligned = aligned end (quarter + length t) (omega (arith, by));
        ordered = omega arith;
        inside = omega (arith, long, both, front, size, at);
        range = record {
          lo_fits = least.word;
          hi_fits = greatest.word;
          ordered = omega (arith, ints, low, high);
        };
        words = subst (AllByRecursion (IsBetween (lowest v vs) (highest v vs))) (sym found)
            (record { low = low; high = high }, between (lowest v vs) (highest v vs) vs least.others greatest.others);
      },
      rows_keep (before ++ bytes) all end (quarter + length t) ts (omega (arith, front, size, at)) (omega (arith, by))
          shape words.1,
    )

-- So they keep the rules in the order that was found.
pub table_rows_keep : (ts : List (List ℤ)) (order : List (ℕ × ℕ)) → TablesAreWords ts
    → IsOrder (map (λ (row : TableRow). row.start) (table_rows_from 0 ts)) order
    → InOrder (TableKeeps (constants_of ts)) behind_table 0 (rows_in order (table_rows_from 0 ts))
table_rows_keep ts order words is =
    let rows = table_rows_from 0 ts in
    subst (InOrder (TableKeeps (constants_of ts)) behind_table 0)
    (sym (climbing_stay (map (λ (row : TableRow). row.start) rows) rows order (same_length rows) (starts_climb 0 ts) is))
    (rows_keep [] (constants_of ts) 0 0 ts refl refl refl words)
  where
    same_length : (xs : List TableRow) → length (map (λ (row : TableRow). row.start) xs) ≡ length xs
    same_length [] = refl
    same_length (x ∷ xs) = ap suc (same_length xs)
