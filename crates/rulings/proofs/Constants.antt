-- What is read of the constants.
use Rattle.std.proofs.Common.{◌≡◌, ℕ, zero, suc, ◌+◌, ◌-◌, ◌*◌, ◌/◌, ◌%◌, ◌≤◌, ◌<◌, ℤ, pos, ◌≤ℤ◌, Bool, true, false}
use Rattle.std.proofs.Common.{cond, length, get_or, take, drop, Some, refl, sym, ap, ◌∙◌, subst, arith, List, [], ◌∷◌}
use Rattle.std.proofs.lemmas.List.{get_or-drop, get_or-take, length-drop, length-take-le}
use Rattle.std.proofs.lemmas.Bool.{eqb-true, and_parts}
use Rattle.std.proofs.lemmas.Int.{ints}
use Rattle.std.specs.Prelude.{find, int_le}
use Rattle.std.specs.List.{AllByRecursion}
use Rattle.std.specs.Int.{w32, cast_signed}
use Rattle.small_laws.proofs.Comparisons.{int_le-true}
use Rattle.module_format.specs.declared.rows.TableRow.{TableRow}
use Rattle.module_format.specs.Order.{InOrder}
use Rattle.module_format.specs.Procedures.{words_in_bytes, IsBetween, TableKeeps, behind_table}
use Rattle.rulings.specs.Reach.{lie_in_row}

-- the word that four bytes make, of which this is the first
abbrev pub word_in : List ℕ → ℕ → ℤ
word_in bytes i = cast_signed w32
    (get_or bytes (i + 0) 0 + 256 * get_or bytes (i + 1) 0 + 65536 * get_or bytes
    (i + 2) 0 + 16777216 * get_or bytes (i + 3) 0)

-- each word of some bytes lies between the bounds in which all lie
word_within : (lo hi : ℤ) (bytes : List ℕ) (i n : ℕ) → n ≡ 4 * i → n + 4 ≤ length bytes
    → AllByRecursion (IsBetween lo hi) (words_in_bytes bytes) → IsBetween lo hi (word_in bytes n)
word_within lo hi [] i n e low all = absurd (omega arith)
word_within lo hi (a ∷ []) i n e low all = absurd (omega arith)
word_within lo hi (a ∷ b ∷ []) i n e low all = absurd (omega arith)
word_within lo hi (a ∷ b ∷ c ∷ []) i n e low all = absurd (omega arith)
word_within lo hi (a ∷ b ∷ c ∷ d ∷ more) zero n e low all =
    let none : n ≡ 0 = omega arith in
    subst (λ (k : ℕ). IsBetween lo hi (word_in (a ∷ b ∷ c ∷ d ∷ more) k)) (sym none)
    (subst (λ (z : ℕ). IsBetween lo hi (cast_signed w32 z)) (number a b c d more) all.0)
  where
    number : (a b c d : ℕ) (more : List ℕ) → a + 256 * (b + 256 * (c + 256 * (d + 256 * 0)))
        ≡ get_or (a ∷ b ∷ c ∷ d ∷ more) (0 + 0) 0 + 256 * get_or (a ∷ b ∷ c ∷ d ∷ more) (0 + 1) 0
        + 65536 * get_or (a ∷ b ∷ c ∷ d ∷ more) (0 + 2) 0 + 16777216 * get_or (a ∷ b ∷ c ∷ d ∷ more) (0 + 3) 0
    number a b c d more = omega arith
word_within lo hi (a ∷ b ∷ c ∷ d ∷ more) (suc i) n e low all =
    let rest = word_within lo hi more i (4 * i) refl (omega arith) all.1 in
    subst (λ (z : ℤ). IsBetween lo hi z) (same (4 * i) n (omega arith)) rest
  where
    same : (k n : ℕ) → n ≡ suc (suc (suc (suc k))) → word_in more k ≡ word_in (a ∷ b ∷ c ∷ d ∷ more) n
    same k n e = rw (e, at 0, at 1, at 2, at 3) refl
      where
        at : (j : ℕ) → suc (suc (suc (suc k))) + j ≡ suc (suc (suc (suc (k + j))))
        at j = omega arith

-- the row that is found
row_found : (constants : List ℕ) (test : TableRow → Bool) (low : ℕ) (rows : List TableRow) (row : TableRow)
    → InOrder (TableKeeps constants) behind_table low rows → find test rows ≡ Some row
    → (before : ℕ) × TableKeeps constants before row × (test row ≡ true)
row_found constants test low [] row all h = absurd (cc)
row_found constants test low (first ∷ rows) row all h =
    on (test first) refl h (λ later. row_found constants test first.end rows row all.1 later)
  where
    on : (b : Bool) → test first ≡ b → cond b (Some first) (find test rows) ≡ Some row
        → (find test rows ≡ Some row → (before : ℕ) × TableKeeps constants before row × (test row ≡ true))
        → (before : ℕ) × TableKeeps constants before row × (test row ≡ true)
    on true t h rest =
        let same : first ≡ row = cc in
        (low, subst (λ (r : TableRow). TableKeeps constants low r) same all.0, ap test (sym same) ∙ t)
    on false t h rest = rest h

-- a word of the constants that lies in the row of a table
pub row_word : (constants : List ℕ) (rows : List TableRow) (first end : ℤ) (row : TableRow) (n : ℕ)
    → InOrder (TableKeeps constants) behind_table 0 rows → find (lie_in_row first end) rows ≡ Some row
    → n % 4 ≡ 0 → first ≤ℤ pos n → pos (n + 4) ≤ℤ end → IsBetween row.lo row.hi (word_in constants n)
row_word constants rows first end row n all found even low high =
    let f = row_found constants (lie_in_row first end) 0 rows row all found in
    let k = f.1 in
    let both = and_parts (int_le (pos row.start) first) (int_le end (pos row.end)) f.2 in
    let from = int_le-true (pos row.start) first both.0 in
    let to = int_le-true end (pos row.end) both.1 in
    let start_even : row.start % 4 ≡ 0 = eqb-true (row.start % 4) 0 k.start_aligned in
    let inside = k.inside in
    let starts : row.start ≤ n = omega (arith, ints) in
    let ends : n + 4 ≤ row.end = omega (arith, ints) in
    let size = row.end - row.start in
    let at = n - row.start in
    let long : length (take (row.end - row.start) (drop row.start constants)) ≡ row.end - row.start =
    length-take-le (row.end - row.start) (drop row.start constants)
    (let e = length-drop row.start constants in omega (arith, e)) in
    let quarter : at ≡ 4 * (at / 4) = omega arith in
    let within = word_within row.lo row.hi (take (row.end - row.start) (drop row.start constants)) (at / 4) at quarter
    (omega (arith, long)) k.words in
    subst (λ (z : ℤ). IsBetween row.lo row.hi z)
    (same row.start (row.end - row.start) at n (omega arith) (omega arith)) within
  where
    same : (start size at n : ℕ) → at + 4 ≤ size → n ≡ start + at
        → word_in (take size (drop start constants)) at ≡ word_in constants n
    same start size at n low e =
        ap (cast_signed w32) (omega (
          arith,
          byte 0 (omega arith),
          byte 1 (omega arith),
          byte 2 (omega arith),
          byte 3
              (omega arith),
        ))
      where
        byte : (j : ℕ) → j < 4 → get_or (take size (drop start constants)) (at + j) 0 ≡ get_or constants (n + j) 0
        byte j less =
            get_or-take size (drop start constants) (at + j) 0 (omega arith)
            ∙ (get_or-drop start constants (at + j) 0
            ∙ ap (λ (k : ℕ). get_or constants k 0) (let is : start + (at + j) ≡ n + j = omega arith in is))
