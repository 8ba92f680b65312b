-- The constants of a module of pieces have each table that is read, at words that its address leads to.
use Rattle.std.proofs.Common.{◌≡◌, ℕ, ◌+◌, ◌-◌, ◌*◌, ◌%◌, ◌^◌, ◌<◌, ◌≤◌, ◌&&◌, ℤ, pos, ◌+ℤ◌, Bool, true}
use Rattle.std.proofs.Common.{false, cond, List, [], ◌∷◌, ◌++◌, length, Ok, FitsSigned, inl, inr, refl, sym, ap, subst}
use Rattle.std.proofs.Common.{◌∙◌}
use Rattle.std.proofs.Common.{arith, length-append}
use Rattle.std.specs.Prelude.{if◌then◌else◌, sum}
use Rattle.std.specs.Int.{w32}
use Rattle.std.specs.Ordering.{int_eq}
use Rattle.std.proofs.lemmas.Bool.{le-ltb, le-leb, lt-ltb, cases_Bool, and_parts}
use Rattle.std.proofs.lemmas.Bool.Decides.{Decides-int_eq}
use Rattle.std.proofs.lemmas.Int.{ints}
use Rattle.module_format.specs.Contents.{Contents}
use Rattle.module_format.specs.declared.fact.Fact.TheVariants.{Pointer}
use Rattle.module_format.specs.declared.fact.Region.TheVariants as regions
use Rattle.module_format.specs.declared.fact.Step.TheVariants.{Word}
use Rattle.module_format.specs.declared.limits.TheConstants.{MAX_LONG_CODE}
use Rattle.module_builder.specs.Spelling.{constants_start}
use Rattle.machine_state.specs.LocalStep.{address}
use Rattle.machine_state.specs.World.{padding}
use Rattle.local_rules.specs.MemoryRules.{place_fact}
use Rattle.code_pieces.specs.Pieces.{Piece}
use Rattle.code_pieces.specs.Pieces.{TableAddress}
use Rattle.code_pieces.specs.Laying.{are_same, offset_in, with_table, tables_before, draft_code}
use Rattle.code_pieces.specs.LaidModule.{Says, laid_module}
use Rattle.code_pieces.specs.Tables.{constants_of, table_bytes}
use Rattle.placed_code.specs.LaidCode.{LoadsTable, laid_code}
use Rattle.placed_code.proofs.Finishing.{length-spelled, all-offset}
use Rattle.placed_code.proofs.PiecesLie.{length-table}
use Rattle.certified_lines.specs.StraightRules.{table_fact}
use Rattle.certified_modules.specs.RootRows.{root_setting}
use Rattle.std.proofs.lemmas.Bool.Decides.{nat_tests}
use Rattle.module_format.specs.Order.{is_stepped}

-- ---- tables among others

-- tables that are the same have one length, and a table is the same as itself
same_length : (xs ys : List ℤ) → are_same xs ys ≡ true → length xs ≡ length ys
same_length [] [] is = refl
same_length [] (y ∷ ys) is = absurd (cc)
same_length (x ∷ xs) [] is = absurd (cc)
same_length (x ∷ xs) (y ∷ ys) is =
    let rest = same_length xs ys (and_parts (int_eq x y) (are_same xs ys) is).1 in
    omega (arith, rest)

same_here : (xs : List ℤ) → are_same xs xs ≡ true
same_here [] = refl
same_here (x ∷ xs) = ap (λ (b : Bool). b && are_same xs xs) ((Decides-int_eq x x).1 refl) ∙ same_here xs

-- the values of a table lie in the constants where it begins
abbrev FitsIn : List (List ℤ) → List ℤ → Type 0
FitsIn ts values = offset_in ts values + 4 * length values ≤ length (constants_of ts)

more_constants : (t : List ℤ) (ts : List (List ℤ))
    → length (constants_of (t ∷ ts)) ≡ 4 * length t + length (constants_of ts)
more_constants t ts =
    let both = length-append (table_bytes t) (constants_of ts) in
    let size = length-table t in
    omega (arith, both, size)

-- it may be the first of them
fits_first : (t : List ℤ) (ts : List (List ℤ)) (values : List ℤ) → are_same t values ≡ true → FitsIn (t ∷ ts) values
fits_first t ts values is =
    let all = more_constants t ts in
    let same = same_length t values is in
    let here : offset_in (t ∷ ts) values ≡ 0 = ap (λ (b : Bool). cond b 0 (4 * length t + offset_in ts values)) is in
    omega (arith, all, same, here)

-- or one after it
fits_next : (t : List ℤ) (ts : List (List ℤ)) (values : List ℤ) → are_same t values ≡ false → FitsIn ts values
    → FitsIn (t ∷ ts) values
fits_next t ts values is fits =
    let all = more_constants t ts in
    let here : offset_in (t ∷ ts) values ≡ 4 * length t + offset_in ts values =
    ap (λ (b : Bool). cond b 0 (4 * length t + offset_in ts values)) is in
    omega (arith, all, here, fits)

fits_rest : (t : List ℤ) (ts : List (List ℤ)) (values : List ℤ) → are_same t values ≡ false → FitsIn (t ∷ ts) values
    → FitsIn ts values
fits_rest t ts values is fits =
    let all = more_constants t ts in
    let here : offset_in (t ∷ ts) values ≡ 4 * length t + offset_in ts values =
    ap (λ (b : Bool). cond b 0 (4 * length t + offset_in ts values)) is in
    omega (arith, all, here, fits)

fits_cons : (t : List ℤ) (ts more : List (List ℤ)) (values : List ℤ) → (FitsIn ts values → FitsIn more values)
    → FitsIn (t ∷ ts) values → FitsIn (t ∷ more) values
fits_cons t ts more values so fits = elim (cases_Bool (are_same t values)) [
  | inl is ↦ fits_first t more values is
  | inr is ↦ fits_next t more values is (so (fits_rest t ts values is fits))
]

fits_by : (b : Bool) (first second : List (List ℤ)) (values : List ℤ) → (b ≡ true → FitsIn first values)
    → (b ≡ false → FitsIn second values) → FitsIn (if b then first else second) values
fits_by true first second values one two = one refl
fits_by false first second values one two = two refl

-- a table that is added fits
fits_added : (values : List ℤ) (ts : List (List ℤ)) → FitsIn (with_table values ts) values
fits_added values [] = fits_first values [] values (same_here values)
fits_added values (t ∷ ts) =
    fits_by (are_same t values) (t ∷ ts) (t ∷ with_table values ts) values (λ is. fits_first t ts values is)
    (λ is. fits_next t (with_table values ts) values is (fits_added values ts))

-- and fits where another one is added
fits_with : (other values : List ℤ) (ts : List (List ℤ)) → FitsIn ts values → FitsIn (with_table other ts) values
fits_with other values [] fits =
    let few : length values ≡ 0 = omega (arith, fits) in
    elim (cases_Bool (are_same other values)) [
      | inl is ↦ fits_first other [] values is
      | inr is ↦ fits_next other [] values is fits
    ]
fits_with other values (t ∷ ts) fits =
    fits_by (are_same t other) (t ∷ ts) (t ∷ with_table other ts) values (λ is. fits)
    (λ is. fits_cons t ts (with_table other ts) values (λ rest. fits_with other values ts rest) fits)

-- What stays so of tables while others are added stays so while pieces are read.
tables_keep : (holds : List (List ℤ) → Type 0)
    → ((other : List ℤ) (ts : List (List ℤ)) → holds ts → holds (with_table other ts))
    → (ts : List (List ℤ)) (ps : List Piece) → holds ts → holds (tables_before ts ps)
tables_keep holds more ts [] now = now
tables_keep holds more ts (TableAddress other ∷ ps) now =
    tables_keep holds more (with_table other ts) ps (more other ts now)
tables_keep holds more ts (p ∷ ps) now = tables_keep holds more ts ps now

-- So what holds where a table is added holds where a piece reads it.
pub read_keeps : (holds : List (List ℤ) → Type 0)
    → ((other : List ℤ) (ts : List (List ℤ)) → holds ts → holds (with_table other ts)) → (values : List ℤ)
    → ((ts : List (List ℤ)) → holds (with_table values ts)) → (ts : List (List ℤ)) (before rest : List Piece)
    → holds (tables_before ts (before ++ TableAddress values ∷ rest))
read_keeps holds more values added ts [] rest = tables_keep holds more (with_table values ts) rest (added ts)
read_keeps holds more values added ts (TableAddress other ∷ before) rest =
    read_keeps holds more values added (with_table other ts) before rest
read_keeps holds more values added ts (p ∷ before) rest = read_keeps holds more values added ts before rest

-- a table that a piece reads lies in the constants
read_fits : (ts : List (List ℤ)) (before rest : List Piece) (values : List ℤ)
    → FitsIn (tables_before ts (before ++ TableAddress values ∷ rest)) values
read_fits ts before rest values =
    read_keeps (λ us. FitsIn us values) (λ other us. fits_with other values us) values (fits_added values) ts before
    rest

-- each table begins at a word
four_by : (b : Bool) (n k j : ℕ) → n ≡ 4 * k → (quarter : ℕ) × (cond b 0 (4 * j + n) ≡ 4 * quarter)
four_by true n k j is = (0, refl)
four_by false n k j is = (j + k, omega (arith, is))

begins_at_word : (ts : List (List ℤ)) (values : List ℤ) → (quarter : ℕ) × (offset_in ts values ≡ 4 * quarter)
begins_at_word [] values = (0, refl)
begins_at_word (t ∷ ts) values =
    let rest = begins_at_word ts values in
    four_by (are_same t values) (offset_in ts values) rest.0 (length t) rest.1

-- ---- where addresses lead

-- a distance to a place behind is what leads there from where the instruction ends
distance_is : (start to far : ℕ) (d : ℤ) → FitsSigned w32 d → to < 2 ^ 30 → far < 2 ^ 30
    → ((start + to) % 2 ^ 32 + address d) % 2 ^ 32 ≡ (start + far) % 2 ^ 32 → pos to +ℤ d ≡ pos far
distance_is start to far d word small high is = omega (arith, ints, word, small, high, is)

-- a word is at a multiple of four
pub stepped : (word : ℕ) → is_stepped (pos (4 * word)) ≡ true
stepped word = grind (arith, nat_tests)

-- a place so far behind the code, which has its padding, is one of the constants
fact_placed : (m : Contents) (word : ℕ) → 4 * word < length m.constants
    → place_fact m (pos (length m.code + padding (length m.code) + 4 * word))
    ≡ Ok (Pointer regions.Constants (pos (4 * word)) (pos (4 * word)) Word)
unfolding place_fact
fact_placed m word less =
    let behind : ℕ = length m.code + padding (length m.code) in
    let far : behind + 4 * word - behind ≡ 4 * word = omega arith in
    let past : length m.code ≤ behind + 4 * word = omega arith in
    let from : behind ≤ behind + 4 * word = omega arith in
    let to : behind + 4 * word < behind + length m.constants = omega (arith, less) in
    rw (
      le-ltb (behind + 4 * word) (length m.code) past,
      le-leb behind (behind + 4 * word) from,
      lt-ltb (behind + 4 * word) (behind + length m.constants) to,
      far,
      stepped,
    ) refl

module _ (ps : List Piece) (labels : ℕ) (links bytes : List ℕ) (says : Says ps labels links bytes) where
  abbrev lengths : List ℕ
  lengths = says.arrangement.lengths

  abbrev m : Contents
  m = laid_module ps labels links says.arrangement

  length-code : length m.code ≡ sum lengths
  length-code =
      length-spelled (draft_code ps labels) lengths says.arranged.least.fits
      ∙ all-offset (draft_code ps labels) lengths says.arranged.least.fits

  pub tables_lead : (before rest : List Piece) (values : List ℤ) → ps ≡ before ++ TableAddress values ∷ rest
      → 1 ≤ length values → (at to : ℕ) → to ≤ MAX_LONG_CODE
      → (loads : LoadsTable (laid_code ps labels lengths 0) at values to)
      → place_fact m (pos to +ℤ loads.distance)
      ≡ Ok (table_fact (root_setting ps labels links says.arrangement) values)
  tables_lead before rest values whole some at to small loads =
      let ts : List (List ℤ) = tables_before [] ps in
      let off : ℕ = offset_in ts values in
      let word = begins_at_word ts values in
      let fits : FitsIn ts values =
      subst (λ (qs : List Piece). FitsIn (tables_before [] qs) values) (sym whole) (read_fits [] before rest values) in
      let few = says.format.keeps.sizes.constants_limit in
      let short = says.format.keeps.sizes.code_limit in
      let size = length-code in
      let far : ℕ = constants_start (sum lengths) + off in
      let high : far < 2 ^ 30 = omega (arith, fits, few, short, size, some) in
      let is : pos to +ℤ loads.distance ≡ pos far =
      distance_is (laid_code ps labels lengths 0).start to far loads.distance loads.word (omega (arith, small)) high
      loads.reaches in
      let padded : far ≡ length m.code + padding (length m.code) + 4 * word.0 =
      let same : constants_start (length m.code) ≡ length m.code + padding (length m.code) = omega arith in
      omega (arith, same, word.1, ap constants_start size) in
      let inside : 4 * word.0 < length m.constants = omega (arith, fits, some, word.1) in
      ap (λ (z : ℤ). place_fact m z) (is ∙ ap (λ (n : ℕ). pos n) padded)
      ∙ fact_placed m word.0 inside
      ∙ ap (λ (n : ℕ). Ok (Pointer regions.Constants (pos n) (pos n) Word)) (sym word.1)
