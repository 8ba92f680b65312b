-- What the root holds where a module begins: the constants, and bytes.
use Rattle.std.proofs.Common.{◌≡◌, ℕ, zero, suc, ◌+◌, ◌-◌, ◌*◌, ◌<◌, Bool, true, false, ◌&&◌, ◌||◌, List, [], ◌∷◌}
use Rattle.std.proofs.Common.{◌++◌, length, map, replicate, get_or, Option, Some, None, refl, sym, ap, ◌∙◌, arith, ◌⊎◌}
use Rattle.std.proofs.Common.{inl, inr}
use Rattle.std.proofs.lemmas.List.{length-append, length-map, length-replicate, get_or-append-add, get_or_append_left}
use Rattle.std.proofs.lemmas.Bool.{le-leb, and_parts, or_cases, and_from, or_right, leb-true}
use Rattle.std.specs.Prelude.{nat_le, nat_lt}
use Rattle.module_format.specs.Order.{IsBytes}
use Rattle.module_format.specs.Contents.{Contents}
use Rattle.machine_state.specs.Memory.{byte_at}
use Rattle.machine_state.specs.Holding.{may_read, may_write}
use Rattle.machine_state.specs.World.{constants_start, padding, loaded_memory, root_holding}
use Rattle.rulings.specs.Regions.{HasConstants, HasBytes}

-- ---- memory where it is loaded

none_at : (n place : ℕ) → get_or {A = Option ℕ} (replicate n None) place None ≡ None
none_at zero place = refl
none_at (suc n) zero = refl
none_at (suc n) (suc place) = none_at n place

some_at : (bytes : List ℕ) (i : ℕ) → i < length bytes → get_or (map Some bytes) i None ≡ Some (get_or bytes i 0)
some_at [] i low = absurd (omega arith)
some_at (b ∷ bytes) zero low = refl
some_at (b ∷ bytes) (suc i) low = some_at bytes i (omega arith)

module _ (m : Contents) where
  abbrev data_area : List (Option ℕ)
  data_area = replicate (4 * m.data_words) None

  abbrev with_code : List (Option ℕ)
  with_code = data_area ++ map Some m.code

  abbrev front : List (Option ℕ)
  front = with_code ++ replicate (padding (length m.code)) None

  data_length : length data_area ≡ 4 * m.data_words
  data_length = length-replicate (4 * m.data_words) None

  code_length : length with_code ≡ 4 * m.data_words + length m.code
  code_length = simp (length-append, length-map, length-replicate)

  front_length : length front ≡ constants_start m
  front_length = simp (length-append, length-map, length-replicate)

  data_undefined : (place : ℕ) → place < 4 * m.data_words → byte_at (loaded_memory m) place ≡ None
  data_undefined place low =
      get_or_append_left front (map Some m.constants) None place (omega (arith, front_length))
      ∙ (get_or_append_left with_code (replicate (padding (length m.code)) None) None place
      (omega (arith, code_length))
      ∙ (get_or_append_left data_area (map Some m.code) None place (omega (arith, data_length))
      ∙ none_at (4 * m.data_words) place))

  pub constant_at : (i : ℕ) → i < length m.constants
      → byte_at (loaded_memory m) (constants_start m + i) ≡ Some (get_or m.constants i 0)
  constant_at i low =
      ap (λ (n : ℕ). byte_at (loaded_memory m) (n + i)) (sym front_length)
      ∙ (get_or-append-add front (map Some m.constants) i None ∙ some_at m.constants i low)

  -- ---- what the root may do

  written_low : (place : ℕ) → may_write (root_holding m) place ≡ true → place < 4 * m.data_words
  written_low place h = elim (or_cases (nat_le 0 place && nat_lt place (4 * m.data_words)) false h) [
    | inl both ↦ leb-true (suc place) (4 * m.data_words)
        (and_parts (nat_le 0 place) (nat_lt place (4 * m.data_words)) both).1
    | inr none ↦ let no : false ≡ true = none in absurd (cc)
  ]

  constant_read : (i : ℕ) → i < length m.constants → may_read (root_holding m) (constants_start m + i) ≡ true
  constant_read i low =
      or_right (may_write (root_holding m) (constants_start m + i)) _
      (ap (λ (b : Bool). b || false) (and_from (nat_le (constants_start m) (constants_start m + i))
      (nat_lt (constants_start m + i) (constants_start m + length m.constants))
      (le-leb (constants_start m) (constants_start m + i) (omega arith))
      (le-leb (suc (constants_start m + i)) (constants_start m + length m.constants) (omega arith))))

  pub root_constants : HasConstants m (root_holding m) (loaded_memory m)
  root_constants = record { readable = constant_read; bytes = constant_at; behind = written_low }

  pub root_bytes : IsBytes m.constants → HasBytes (root_holding m) (loaded_memory m)
  root_bytes bytes = record {
    each = λ place b held found. on_byte place b found
        (or_cases (may_write (root_holding m) place) _ held);
  }
    where
      constant_low : (i b : ℕ) → i < length m.constants → byte_at (loaded_memory m)
          (constants_start m + i) ≡ Some b → b < 256
      constant_low i b low found =
          let there : Some (get_or m.constants i 0) ≡ Some b = sym (constant_at i low) ∙ found in
          let is : get_or m.constants i 0 ≡ b = cc in
          let small = bytes i in
          omega (arith, is, small)

      on_read : (place b : ℕ) → byte_at (loaded_memory m) place ≡ Some b
          → (nat_le (constants_start m) place && nat_lt place (constants_start m + length m.constants)) ≡ true → b < 256
      on_read place b found t =
          let both = and_parts (nat_le (constants_start m) place)
          (nat_lt place (constants_start m + length m.constants)) t in
          let from = leb-true (constants_start m) place both.0 in
          let to = leb-true (suc place) (constants_start m + length m.constants) both.1 in
          let is : place ≡ constants_start m + (place - constants_start m) = omega (arith, from) in
          constant_low (place - constants_start m) b (omega (arith, from, to))
          (ap (byte_at (loaded_memory m)) (sym is) ∙ found)

      on_byte : (place b : ℕ) → byte_at (loaded_memory m) place ≡ Some b
          → (may_write (root_holding m) place ≡ true)
          ⊎ (((nat_le (constants_start m) place && nat_lt place (constants_start m + length m.constants)) || false)
          ≡ true)
          → b < 256
      on_byte place b found (inl mine) =
          let none : None ≡ Some b = sym (data_undefined place (written_low place mine)) ∙ found in absurd (cc)
      on_byte place b found (inr held) =
          elim (or_cases (nat_le (constants_start m) place && nat_lt place (constants_start m + length m.constants))
          false held) [
            | inl both ↦ on_read place b found both
            | inr none ↦ let no : false ≡ true = none in absurd (cc)
          ]
