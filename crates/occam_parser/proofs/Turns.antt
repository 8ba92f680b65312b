-- A block that is read component by component.
use Rattle.std.proofs.Common.{◌≡◌, ℕ, zero, suc, ◌<◌, ◌≤◌, Bool, true, false, not, ◌&&◌, cond, List, [], ◌∷◌}
use Rattle.std.proofs.Common.{length, nat_lt, ◌==◌, Option, Some, None, refl, ap, arith, ◌∙◌}
use Rattle.std.proofs.lemmas.Bool.{eqb-true, eq-eqb, ltb-false, le-ltb, and_parts, not-true}
use Rattle.occam_parser.specs.Reading.{◌>>=◌}
use Rattle.occam_parser.specs.Blocks.{Row, Part, Components, NoComponent, Further, Component}
use Rattle.occam_parser.proofs.Options.{at_some}
use Rattle.occam_parser.specs.BlockReading.{ReadsLines, is_at, first_row, begins_at, component_step}
use Rattle.occam_parser.specs.BlockReading.{components_from, components_of}

-- what is left of a block's reading, when these components were found
pub record ContinuesBlock {part : Part} (item : ReadsLines (Component part)) (level : ℕ) (start : List Row)
    (found : Components part) (rows : List Row) : Type 0 where
  pub turns : ℕ
  pub enough : length rows ≤ turns
  pub so_far : components_of item level start ≡ components_from item level turns found rows

pub block_begins : {part : Part} (item : ReadsLines (Component part)) (level : ℕ) (start : List Row)
    → ContinuesBlock item level start NoComponent start
unfolding components_of
block_begins item level start = record { turns = length start; enough = omega arith; so_far = refl }

block_turn : {part : Part} (item : ReadsLines (Component part)) (level : ℕ) (n : ℕ) (found : Components part)
    (rows rest : List Row) (x : Component part) → begins_at level rows ≡ true
    → item rows ≡ Some (x, rest) → length rows ≤ n → length rest < length rows
    → (m : ℕ) × (length rest ≤ m)
    × (components_from item level n found rows ≡ components_from item level m (Further found x) rest)
unfolding components_from
block_turn item level zero found rows rest x w e enough less = absurd (omega arith)
block_turn {part} item level (suc n) found rows rest x w e enough less = (
  n,
  omega arith,
  ap (component_step (item rows >>= λ y. components_from item level n (Further found y.0) y.1) found rows) w ∙ ap
      (λ (o : Option (Component part × List Row)). o >>= λ y. components_from item level n (Further found y.0) y.1) e,
)

pub block_goes_on : {part : Part} (item : ReadsLines (Component part)) (level : ℕ) (start : List Row)
    (found : Components part) (rows rest : List Row) (x : Component part) → begins_at level rows ≡ true
    → item rows ≡ Some (x, rest) → length rest < length rows → ContinuesBlock item level start found rows
    → ContinuesBlock item level start (Further found x) rest
block_goes_on item level start found rows rest x w e less c =
    let t = block_turn item level c.turns found rows rest x w e c.enough less in
    record { turns = t.0; enough = t.1; so_far = c.so_far ∙ t.2 }

fails_at : {part : Part} (item : ReadsLines (Component part)) (level : ℕ) (n : ℕ) (found : Components part)
    (rows : List Row) → begins_at level rows ≡ true → item rows ≡ None
    → components_from item level n found rows ≡ None
unfolding components_from
fails_at item level zero found rows w e = ap (component_step None found rows) w
fails_at {part} item level (suc n) found rows w e =
    ap (component_step (item rows >>= λ y. components_from item level n (Further found y.0) y.1) found rows) w
    ∙ ap (λ (o : Option (Component part × List Row)). o >>= λ y. components_from item level n (Further found y.0) y.1)
    e

pub block_fails : {part : Part} (item : ReadsLines (Component part)) (level : ℕ) (start : List Row)
    (found : Components part) (rows : List Row) → begins_at level rows ≡ true → item rows ≡ None
    → ContinuesBlock item level start found rows → components_of item level start ≡ None
block_fails item level start found rows w e c = c.so_far ∙ fails_at item level c.turns found rows w e

ends_at : {part : Part} (item : ReadsLines (Component part)) (level : ℕ) (n : ℕ) (found : Components part)
    (rows : List Row) → begins_at level rows ≡ false → components_from item level n found rows ≡ Some (found, rows)
unfolding components_from
ends_at item level zero found rows w = ap (component_step None found rows) w
ends_at item level (suc n) found rows w =
    ap (component_step (item rows >>= λ y. components_from item level n (Further found y.0) y.1) found rows) w

pub block_ends : {part : Part} (item : ReadsLines (Component part)) (level : ℕ) (start : List Row)
    (found : Components part) (rows : List Row) → begins_at level rows ≡ false
    → ContinuesBlock item level start found rows → components_of item level start ≡ Some (found, rows)
block_ends item level start found rows w c = c.so_far ∙ ends_at item level c.turns found rows w

-- ---- lines at a level

both : (a b : Bool) → a ≡ true → b ≡ false → (a && not b) ≡ true
both true false e f = refl
both true true e f = absurd (cc)
both false b e f = absurd (cc)

pub at_is : (level : ℕ) (r : Row) → is_at level r ≡ true → (r.level ≡ level) × (level ≤ 64)
at_is level r e =
    let h = and_parts (r.level == level) (not (nat_lt 64 r.level)) e in
    let same = eqb-true r.level level h.0 in
    let low = ltb-false 64 r.level (not-true (nat_lt 64 r.level) h.1) in
    (same, omega arith)

pub at_again : (level : ℕ) (r : Row) → r.level ≡ level → level ≤ 64 → is_at level r ≡ true
at_again level r e low = both (r.level == level) (nat_lt 64 r.level) (eq-eqb r.level level e)
    (le-ltb 64 r.level (omega arith))

found_row : (b : Bool) (level : ℕ) (s r : Row) (rows rest : List Row) → is_at level s ≡ b
    → cond {A = Option (Row × List Row)} b (Some (s, rows)) None ≡ Some (r, rest)
    → (s ∷ rows ≡ r ∷ rest) × (is_at level r ≡ true)
found_row false level s r rows rest b e = absurd (cc)
found_row true level s r rows rest b e = at_some
    (λ (x : Row × List Row). (s ∷ rows ≡ x.0 ∷ x.1) × (is_at level x.0 ≡ true)) (s, rows) (r, rest) e (refl, b)

pub first_row_is : (level : ℕ) (rows : List Row) (r : Row) (rest : List Row) → first_row level rows ≡ Some (r, rest)
    → (rows ≡ r ∷ rest) × (is_at level r ≡ true)
first_row_is level [] r rest e = absurd (cc)
first_row_is level (s ∷ rows) r rest e = found_row (is_at level s) level s r rows rest refl e

pub first_row_again : (level : ℕ) (r : Row) (rest : List Row) → r.level ≡ level → level ≤ 64
    → first_row level (r ∷ rest) ≡ Some (r, rest)
first_row_again level r rest e low = ap (λ b. cond b (Some (r, rest)) None) (at_again level r e low)
