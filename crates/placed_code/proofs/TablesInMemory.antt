-- The memory of a loaded module has the tables that its pieces read.
use Rattle.std.proofs.Common.{◌≡◌, ℕ, zero, suc, ◌+◌, ◌*◌, ◌%◌, ◌^◌, ◌<◌, ◌≤◌, ℤ, pos, Bool, true, false, List, []}
use Rattle.std.proofs.Common.{◌∷◌, ◌++◌, length, drop, get_or, slice_get, Some, FitsSigned, refl, sym, ap, subst, ◌∙◌}
use Rattle.std.proofs.Common.{arith, append_assoc, length-append}
use Rattle.std.specs.Prelude.{if◌then◌else◌, sum, replicate}
use Rattle.std.specs.Int.{w32, cast_signed, cast_unsigned}
use Rattle.std.specs.Cmp.Rules.{signed_items}
use Rattle.std.proofs.lemmas.Int.{ints, to_z-of_z}
use Rattle.std.proofs.lemmas.List.{drop_at, drop-drop, get_or-drop, length-drop, length-replicate}
use Rattle.module_format.specs.declared.limits.TheConstants.{MAX_DATA_WORDS}
use Rattle.scalar_ranges.specs.Environments.{item_at}
use Rattle.module_format.specs.Contents.{Contents}
use Rattle.module_format.specs.Keeping.{SizesKeep}
use Rattle.machine_state.specs.Memory.{Memory, place_of, local_address, byte_at, word_at, byte_worth, data_start}
use Rattle.machine_state.specs.World.{padding}
use Rattle.plain_machine.specs.Plain.{defined}
use Rattle.plain_machine.proofs.PlainBytes.{byte_at-defined, word_at-defined}
use Rattle.agreement.specs.Loading.{loaded_bytes}
use Rattle.module_builder.specs.Spelling.{constants_start}
use Rattle.module_builder.proofs.RowLaws.{all_get}
use Rattle.code_pieces.specs.Pieces.{Piece, Direct, Jump, JumpUnless, LoopBack, Distance, StartBranch, Select}
use Rattle.code_pieces.specs.Pieces.{TableAddress, Row, Place, Within, Par}
use Rattle.code_pieces.specs.Laying.{are_same, offset_in, with_table, tables_before, draft_code, words_taken}
use Rattle.code_pieces.specs.Tables.{has_table, value_bytes, table_bytes, constants_of}
use Rattle.code_pieces.proofs.TableLaws.{pointwise_same}
use Rattle.code_pieces.specs.LaidModule.{Arrangement, IsArrangement, laid_module}
use Rattle.placed_code.specs.LaidCode.{laid_code}
use Rattle.placed_code.specs.StraightPieces.{Footing}
use Rattle.placed_code.specs.TablesInMemory.{item_place, HasItem, TablesAreLoaded, TablesStay}
use Rattle.placed_code.proofs.Finishing.{length-spelled, all-offset}
use Rattle.placed_code.proofs.PiecesLie.{length-table}

-- ---- pieces read their tables

-- tables that are the same have the same values
same_values : (xs ys : List ℤ) → are_same xs ys ≡ true → xs ≡ ys
same_values xs ys is = (signed_items xs ys).0 (pointwise_same xs ys ∙ is)

-- and a table is the same as itself
same_here : (xs : List ℤ) → are_same xs xs ≡ true
same_here xs = sym (pointwise_same xs xs) ∙ (signed_items xs xs).1 refl

-- by whether the first table is the one that is added, which is among the others otherwise
added_by : (same : Bool) (values t : List ℤ) (ts more : List (List ℤ)) → are_same t values ≡ same
    → has_table more values ≡ true → has_table (if same then t ∷ ts else t ∷ more) values ≡ true
added_by true values t ts more is rest = ap (λ (b : Bool). if b then true else has_table ts values) is
added_by false values t ts more is rest = ap (λ (b : Bool). if b then true else has_table more values) is ∙ rest

-- a table that is added is there
added_there : (values : List ℤ) (ts : List (List ℤ)) → has_table (with_table values ts) values ≡ true
added_there values [] = ap (λ (b : Bool). if b then true else false) (same_here values)
added_there values (t ∷ ts) =
    added_by (are_same t values) values t ts (with_table values ts) refl (added_there values ts)

-- by whether the first table is the one that is added, and whether it is the one that is there
kept_by : (same here : Bool) (values t : List ℤ) (ts more : List (List ℤ)) → are_same t values ≡ here
    → (has_table ts values ≡ true → has_table more values ≡ true) → has_table (t ∷ ts) values ≡ true
    → has_table (if same then t ∷ ts else t ∷ more) values ≡ true
kept_by true here values t ts more is rest there = there
kept_by false true values t ts more is rest there = ap (λ (b : Bool). if b then true else has_table more values) is
kept_by false false values t ts more is rest there =
    ap (λ (b : Bool). if b then true else has_table more values) is
    ∙ rest (sym (ap (λ (b : Bool). if b then true else has_table ts values) is) ∙ there)

-- it stays there while others are added
stays_with : (other values : List ℤ) (ts : List (List ℤ)) → has_table ts values ≡ true
    → has_table (with_table other ts) values ≡ true
stays_with other values [] there = absurd (cc)
stays_with other values (t ∷ ts) there =
    kept_by (are_same t other) (are_same t values) values t ts (with_table other ts) refl
    (stays_with other values ts) there

-- and while further pieces are read
stays_there : (values : List ℤ) (ts : List (List ℤ)) (ps : List Piece) → has_table ts values ≡ true
    → has_table (tables_before ts ps) values ≡ true
stays_there values ts [] there = there
stays_there values ts (TableAddress other ∷ ps) there =
    stays_there values (with_table other ts) ps (stays_with other values ts there)
stays_there values ts (Direct f e ∷ ps) there = stays_there values ts ps there
stays_there values ts (Jump l ∷ ps) there = stays_there values ts ps there
stays_there values ts (JumpUnless l ∷ ps) there = stays_there values ts ps there
stays_there values ts (LoopBack head behind ∷ ps) there = stays_there values ts ps there
stays_there values ts (Distance from to ∷ ps) there = stays_there values ts ps there
stays_there values ts (StartBranch entry successor ∷ ps) there = stays_there values ts ps there
stays_there values ts (Select targets ∷ ps) there = stays_there values ts ps there
stays_there values ts (Row l entries ∷ ps) there = stays_there values ts ps there
stays_there values ts (Place l ∷ ps) there = stays_there values ts ps there
stays_there values ts (Within workspace ∷ ps) there = stays_there values ts ps there
stays_there values ts (Par par ∷ ps) there = stays_there values ts ps there

-- a table that a piece reads is among those of the constants
read_there : (ts : List (List ℤ)) (before rest : List Piece) (values : List ℤ)
    → has_table (tables_before ts (before ++ TableAddress values ∷ rest)) values ≡ true
read_there ts [] rest values = stays_there values (with_table values ts) rest (added_there values ts)
read_there ts (TableAddress other ∷ before) rest values = read_there (with_table other ts) before rest values
read_there ts (Direct f e ∷ before) rest values = read_there ts before rest values
read_there ts (Jump l ∷ before) rest values = read_there ts before rest values
read_there ts (JumpUnless l ∷ before) rest values = read_there ts before rest values
read_there ts (LoopBack head behind ∷ before) rest values = read_there ts before rest values
read_there ts (Distance from to ∷ before) rest values = read_there ts before rest values
read_there ts (StartBranch entry successor ∷ before) rest values = read_there ts before rest values
read_there ts (Select targets ∷ before) rest values = read_there ts before rest values
read_there ts (Row l entries ∷ before) rest values = read_there ts before rest values
read_there ts (Place l ∷ before) rest values = read_there ts before rest values
read_there ts (Within workspace ∷ before) rest values = read_there ts before rest values
read_there ts (Par par ∷ before) rest values = read_there ts before rest values

-- ---- bytes that begin at a place

-- these bytes are in others from a place on
record Begins (all : List ℕ) (place : ℕ) (bytes : List ℕ) : Type 0 where
  rest : List ℕ
  is : drop place all ≡ bytes ++ rest

-- so they are with other bytes before
begins_after : (front all bytes : List ℕ) (size place : ℕ) → length front ≡ size → Begins all place bytes
    → Begins (front ++ all) (size + place) bytes
begins_after front all bytes size place is begins = record {
  rest = begins.rest;
  is = sym (drop-drop place size (front ++ all)) ∙ ap (λ (xs : List ℕ). drop place xs) (drop_at front all size is)
      ∙ begins.is;
}

-- and as a part of bytes that are there
begins_within : (all bytes part : List ℕ) (place size : ℕ) → Begins all place bytes
    → ((rest : List ℕ) → Begins (bytes ++ rest) size part) → Begins all (place + size) part
begins_within all bytes part place size begins inner =
    let found = inner begins.rest in
    record {
      rest = found.rest;
      is = sym (drop-drop size place all) ∙ ap (λ (xs : List ℕ). drop size xs) begins.is ∙ found.is;
    }

-- by whether the first table is the one, with those after it
table_by : (same : Bool) (values t : List ℤ) (ts : List (List ℤ)) → are_same t values ≡ same
    → (has_table ts values ≡ true → Begins (constants_of ts) (offset_in ts values) (table_bytes values))
    → has_table (t ∷ ts) values ≡ true
    → Begins (constants_of (t ∷ ts)) (if same then 0 else 4 * length t + offset_in ts values) (table_bytes values)
table_by true values t ts is later there = record {
  rest = constants_of ts;
  is = ap (λ (xs : List ℤ). table_bytes xs ++ constants_of ts) (same_values t values is);
}
table_by false values t ts is later there =
    begins_after (table_bytes t) (constants_of ts) (table_bytes values) (4 * length t) (offset_in ts values)
    (length-table t) (later (sym (ap (λ (b : Bool). if b then true else has_table ts values) is) ∙ there))

-- a table is among the constants where its address says
table_begins : (values : List ℤ) (ts : List (List ℤ)) → has_table ts values ≡ true
    → Begins (constants_of ts) (offset_in ts values) (table_bytes values)
table_begins values [] there = absurd (cc)
table_begins values (t ∷ ts) there =
    table_by (are_same t values) values t ts refl (table_begins values ts) there

-- the item of a list with a number
item_is : (values : List ℤ) (i : ℕ) (v : ℤ) → item_at i values ≡ Some v → slice_get values i ≡ Some v
item_is [] i v is = absurd (cc)
item_is (x ∷ values) zero v is = is
item_is (x ∷ values) (suc i) v is = item_is values i v is

-- an item has the bytes after those of the items before it
item_begins : (values : List ℤ) (i : ℕ) (v : ℤ) → slice_get values i ≡ Some v → (others : List ℕ)
    → Begins (table_bytes values ++ others) (4 * i) (value_bytes v)
item_begins [] i v is others = absurd (cc)
item_begins (x ∷ values) zero v is others =
    let same : x ≡ v = cc in
    record {
      rest = table_bytes values ++ others;
      is = append_assoc (value_bytes x) (table_bytes values) others
          ∙ ap (λ (y : ℤ). value_bytes y ++ (table_bytes values ++ others)) same;
    }
item_begins (x ∷ values) (suc i) v is others =
    let later = table_bytes values ++ others in
    let next : 4 + 4 * i ≡ 4 * suc i = omega arith in
    subst (λ (n : ℕ). Begins (table_bytes (x ∷ values) ++ others) n (value_bytes v)) next
    (subst (λ (xs : List ℕ). Begins xs (4 + 4 * i) (value_bytes v))
    (sym (append_assoc (value_bytes x) (table_bytes values) others))
    (begins_after (value_bytes x) later (value_bytes v) 4 (4 * i) refl (item_begins values i v is others)))

-- ---- memory

-- where the bytes of a word begin
module _ (all : List ℕ) (place : ℕ) (v : ℤ) (fits : FitsSigned w32 v) (begins : Begins all place (value_bytes v)) where
  -- its bytes are at the places from there on
  nth : (k : ℕ) → get_or all (place + k) 0 ≡ get_or (value_bytes v ++ begins.rest) k 0
  nth k = sym (get_or-drop place all k 0) ∙ ap (λ (xs : List ℕ). get_or xs k 0) begins.is

  -- all four are there
  inside : place + 4 ≤ length all
  inside =
      let size = length-drop place all in
      let is = ap (λ (xs : List ℕ). length xs) begins.is in
      let both = length-append (value_bytes v) begins.rest in
      omega (arith, size, is, both)

  -- the lowest of them
  first : get_or all place 0 ≡ cast_unsigned w32 v % 256
  first = ap (λ (n : ℕ). get_or all n 0) (omega arith) ∙ nth 0

  -- together they are the word
  word_there : word_at (defined all) place ≡ Some v
  word_there =
      let below : cast_unsigned w32 v < 2 ^ 32 = omega (arith, ints) in
      let a = first in
      let b = nth 1 in
      let c = nth 2 in
      let d = nth 3 in
      word_at-defined all place inside
      ∙ ap (λ (n : ℕ). Some (cast_signed w32 n)) (omega (arith, below, a, b, c, d))
      ∙ ap (λ (z : ℤ). Some z) (to_z-of_z w32 v fits)

  -- and the first is its lowest byte
  byte_there : byte_at (defined all) place ≡ Some (byte_worth 1 v)
  byte_there =
      let size = inside in
      let a = first in
      byte_at-defined all place (omega (arith, size)) ∙ ap (λ (n : ℕ). Some n) (omega (arith, a))

-- where an item is that is so many bytes behind the code's start
place_is : (words far i : ℕ) → words ≤ MAX_DATA_WORDS → far + 4 * i < 2 ^ 30
    → place_of (local_address ((data_start + 4 * words + far) % 2 ^ 32) (pos i)) ≡ 4 * words + far + 4 * i
unfolding place_of local_address
place_is words far i few small = omega (arith, ints)

module _ (ps : List Piece) (labels : ℕ) (links : List ℕ) (a : Arrangement) (arranged : IsArrangement ps labels a)
    (sizes : SizesKeep (laid_module ps labels links a)) (depth : ℕ) where
  abbrev m : Contents
  m = laid_module ps labels links a

  abbrev w : Footing
  w = (laid_code ps labels a.lengths depth).footing

  abbrev ts : List (List ℤ)
  ts = tables_before [] ps

  -- what is before the constants
  abbrev front : List ℕ
  front = replicate (4 * m.data_words) 0 ++ m.code ++ replicate (padding (length m.code)) 0

  -- the code is as long as the layout says
  length-code : length m.code ≡ sum a.lengths
  length-code =
      length-spelled (draft_code ps labels) a.lengths arranged.least.fits
      ∙ all-offset (draft_code ps labels) a.lengths arranged.least.fits

  -- it ends where constants begin
  length-front : length front ≡ 4 * m.data_words + constants_start (sum a.lengths)
  length-front =
      let code = length-code in
      let some = length-append (replicate (4 * m.data_words) 0) m.code in
      let all = length-append (replicate (4 * m.data_words) 0 ++ m.code) (replicate (padding (length m.code)) 0) in
      let words = length-replicate {A = ℕ} (4 * m.data_words) 0 in
      let pad = length-replicate {A = ℕ} (padding (length m.code)) 0 in
      omega (arith, code, some, all, words, pad)

  -- an item of a table of the constants is where its address leads
  item_loaded : (values : List ℤ) (i : ℕ) (v : ℤ) → has_table ts values ≡ true → slice_get values i ≡ Some v
      → FitsSigned w32 v → HasItem w (words_taken ps) (defined (loaded_bytes m)) values i v
  item_loaded values i v there is fits =
      let far = constants_start (sum a.lengths) + offset_in ts values in
      let place = 4 * m.data_words + constants_start (sum a.lengths) + (offset_in ts values + 4 * i) in
      let begins : Begins (loaded_bytes m) place (value_bytes v) =
      begins_after front m.constants (value_bytes v) (4 * m.data_words + constants_start (sum a.lengths))
      (offset_in ts values + 4 * i) length-front
      (begins_within m.constants (table_bytes values) (value_bytes v) (offset_in ts values) (4 * i)
      (table_begins values ts there) (item_begins values i v is)) in
      let all = inside (loaded_bytes m) place v fits begins in
      let whole = length-append front m.constants in
      let code = length-code in
      let long = sizes.code_limit in
      let few = sizes.constants_limit in
      let wide = sizes.data_limit in
      let before = length-front in
      let at : item_place w values i ≡ place =
      place_is m.data_words far i wide (omega (arith, all, whole, code, long, few, wide, before)) ∙ omega arith in
      record {
        behind = omega (arith, at);
        word = ap (λ (n : ℕ). word_at (defined (loaded_bytes m)) n) at
            ∙ word_there (loaded_bytes m) place v fits begins;
        byte = ap (λ (n : ℕ). byte_at (defined (loaded_bytes m)) n) at
            ∙ byte_there (loaded_bytes m) place v fits begins;
      }

pub tables_are_loaded : TablesAreLoaded
tables_are_loaded ps labels links bytes says depth values reads words = record {
  address = omega arith;
  items = λ i v at.
      let is = item_is values i v at in
      item_loaded ps labels links says.arrangement says.arranged says.format.keeps.sizes depth values i v
      (ap (λ (qs : List Piece). has_table (tables_before [] qs) values) reads.whole
      ∙ read_there [] reads.before reads.rest values) is (all_get (FitsSigned w32) values i v is words);
}

-- a word stays where the bytes from its place on do
word_stays : (old new : Memory) (at : ℕ) → ((place : ℕ) → at ≤ place → byte_at new place ≡ byte_at old place)
    → word_at new at ≡ word_at old at
unfolding word_at
word_stays old new at same =
    rw (
      same at (omega arith),
      same (at + 1) (omega arith),
      same (at + 2) (omega arith),
      same (at + 3) (omega arith),
    ) refl

pub tables_stay : TablesStay
tables_stay w words old new values same has = record {
  address = has.address;
  items = λ i v is.
      let item = has.items i v is in
      let at = item_place w values i in
      let here : (place : ℕ) → at ≤ place → byte_at new place ≡ byte_at old place =
      (λ place above. (let low = item.behind in same place (omega (arith, low, above)))) in
      record {
        behind = item.behind;
        word = word_stays old new at here ∙ item.word;
        byte = here at (omega arith) ∙ item.byte;
      };
}
