-- The address of an element of an array is pushed.
use Rattle.std.proofs.Common.{◌≡◌, ℕ, ◌+◌, ◌*◌, ◌/◌, ◌%◌, ◌<◌, ℤ, pos, Bool, true, false, cond, nat_eq}
use Rattle.std.proofs.Common.{List, [], ◌∷◌, ◌++◌, FitsSigned, refl, sym, ap, subst, ◌∙◌, arith}
use Rattle.std.specs.Prelude.{◌+ℤ◌}
use Rattle.std.specs.Int.{w32}
use Rattle.std.proofs.lemmas.Int.{ints}
use Rattle.std.proofs.lemmas.Bool.{eqb-true}
use Rattle.module_format.specs.declared.limits.TheConstants.{MAX_DATA_WORDS}
use Rattle.machine_state.specs.LocalStep.{address, word_of}
use Rattle.machine_state.specs.Memory.{place_of, local_address}
use Rattle.occam_parser.specs.declared.tree.ValueType.{ValueType}
use Rattle.occam_parser.specs.declared.tree.ValueType.TheVariants as value_type
use Rattle.code_pieces.specs.declared.operations.TheConstants.{BYTE_SUBSCRIPT}
use Rattle.code_pieces.specs.Pieces.{Piece, operates, points, constant}
use Rattle.line_pieces.specs.Expressions.{known_address, subscript_code}
use Rattle.placed_code.specs.StraightPieces.{Held, LeadOn, with_pushed, word_address}
use Rattle.placed_code.proofs.StraightPieces.{lead_both}
use Rattle.meant_lines.specs.Words.{IsInFrame, ChangesWithin}
use Rattle.meant_lines.specs.Instructions.{with_result}
use Rattle.meant_lines.specs.Carrying.{Ground}
use Rattle.meant_lines.specs.Pushing.{Pushed}
use Rattle.meant_lines.proofs.Words.{all_alike, words_have_places, bytes_have_places, elements_have_addresses}
use Rattle.meant_lines.proofs.Words.{addresses_read_back, addresses_move_twice}
use Rattle.meant_lines.proofs.Instructions.{constants_are_pushed, addresses_are_pushed}
use Rattle.meant_lines.proofs.Instructions.{words_are_selected, bytes_are_selected}
use Rattle.meant_lines.proofs.Pushing.{word_is}
use Rattle.meant_actions.proofs.Variables.{element_place, element_word}

-- ---- where an element is

abbrev pub element_address : ValueType → (w i : ℕ) → ℕ
element_address value_type.Int w i = word_address (w + i)
element_address value_type.Byte w i = word_address w + i

pub elements_have_places : (type : ValueType) (w i : ℕ) → IsInFrame (element_word type w i)
    → place_of (element_address type w i) ≡ element_place type w i
elements_have_places value_type.Int w i inside = words_have_places (w + i) inside
elements_have_places value_type.Byte w i inside =
    bytes_have_places w i (omega (arith, inside)) (omega (arith, inside))

-- ---- addresses

-- From what is held before, pieces lead to where this address is in A. Of memory only words from t on have changed, and
-- B is what A was, if the code is small.
pub record Addressed (g : Ground) (ps : List Piece) (t a : ℕ) (small : Bool) (before : Held) : Type 0 where
  pub after : Held
  pub leads : LeadOn g.footing ps before after
  pub at : address after.stack.a ≡ a
  pub changes : ChangesWithin t g.words before.memory after.memory
  pub below : small ≡ true → after.stack.b ≡ before.stack.a

-- the address of a word
pub word_addressed : (g : Ground) (w t : ℕ) (small : Bool) (h : Held) → IsInFrame g.footing.depth → IsInFrame w
    → Addressed g (points w ∷ []) t (word_address w) small h
word_addressed g w t small h workspace inside = record {
  after = with_pushed (word_of (word_address w)) h;
  leads = addresses_are_pushed g.footing w h workspace inside;
  at = addresses_read_back.word w inside;
  changes = all_alike t g.words h.memory;
  below = λ is. refl;
}

-- of a byte in it
byte_addressed : (g : Ground) (w n t : ℕ) (small : Bool) (h : Held) → IsInFrame g.footing.depth → IsInFrame w → n < 4
    → Addressed g (constant (pos n) ∷ points w ∷ operates BYTE_SUBSCRIPT ∷ []) t (word_address w + n) small h
byte_addressed g w n t small h workspace inside few =
    let first : Held = with_pushed (pos n) h in
    let second : Held = with_pushed (word_of (word_address w)) first in
    let counts : address (pos n) ≡ n = omega (arith, ints, few) in
    record {
      after = with_result (word_of (word_address w + n)) second;
      leads = lead_both (constants_are_pushed g.footing (pos n) h)
          (lead_both (addresses_are_pushed g.footing w first workspace inside)
          (bytes_are_selected g.footing (word_address w) n second (addresses_read_back.word w inside) counts
          (omega (arith, inside, few))));
      at = addresses_read_back.byte w n inside (omega (arith, few));
      changes = all_alike t g.words h.memory;
      below = λ is. refl;
    }

byte_by : (test : Bool) (g : Ground) (w n t : ℕ) (small : Bool) (h : Held) → nat_eq (n % 4) 0 ≡ test
    → IsInFrame g.footing.depth → IsInFrame (w + n / 4)
    → Addressed g (cond test (points (w + n / 4) ∷ [])
    (constant (pos (n % 4)) ∷ points (w + n / 4) ∷ operates BYTE_SUBSCRIPT ∷ [])) t (word_address w + n) small h
byte_by true g w n t small h test workspace inside =
    let even = eqb-true (n % 4) 0 test in
    let same : word_address (w + n / 4) ≡ word_address w + n = omega (arith, even) in
    subst (λ (a : ℕ). Addressed g (points (w + n / 4) ∷ []) t a small h) same
    (word_addressed g (w + n / 4) t small h workspace inside)
byte_by false g w n t small h test workspace inside =
    let same : word_address (w + n / 4) + n % 4 ≡ word_address w + n = omega arith in
    subst (λ (a : ℕ). Addressed g
    (constant (pos (n % 4)) ∷ points (w + n / 4) ∷ operates BYTE_SUBSCRIPT ∷ []) t a small h) same
    (byte_addressed g (w + n / 4) (n % 4) t small h workspace inside (omega arith))

-- of an element by its number
pub known_addressed : (g : Ground) (type : ValueType) (w n t : ℕ) (small : Bool) (h : Held)
    → IsInFrame g.footing.depth → IsInFrame (element_word type w n)
    → Addressed g (known_address type w n) t (element_address type w n) small h
known_addressed g value_type.Int w n t small h workspace inside =
    subst (λ (word : ℕ). Addressed g (points word ∷ []) t (word_address (w + n)) small h) (sym (word_is w n inside))
    (word_addressed g (w + n) t small h workspace inside)
known_addressed g value_type.Byte w n t small h workspace inside =
    subst (λ (word : ℕ). Addressed g (cond (nat_eq (n % 4) 0) (points word ∷ [])
    (constant (pos (n % 4)) ∷ points word ∷ operates BYTE_SUBSCRIPT ∷ [])) t (word_address w + n) small h)
    (sym (word_is w (n / 4) inside))
    (byte_by (nat_eq (n % 4) 0) g w n t small h refl workspace inside)

-- ---- by the code of a subscript

-- a number of words behind the address of the array
pub word_selected : (g : Ground) (xs : List Piece) (w t : ℕ) (leaf small : Bool) (j : ℤ) (h : Held)
    → IsInFrame g.footing.depth → IsInFrame w → Pushed g xs t leaf small j h
    → Addressed g (xs ++ subscript_code value_type.Int w) t (local_address (word_address w) j) small h
word_selected g xs w t leaf small j h workspace inside first =
    let k = first.after in
    let second : Held = with_pushed (word_of (word_address w)) k in
    let same : local_address (word_address w) k.stack.a ≡ local_address (word_address w) j =
    ap (local_address (word_address w)) first.a in
    record {
      after = with_result (word_of (local_address (word_address w) k.stack.a)) second;
      leads = lead_both first.leads
          (lead_both (addresses_are_pushed g.footing w k workspace inside)
          (words_are_selected g.footing (word_address w) second (addresses_read_back.word w inside)));
      at = addresses_read_back.further (word_address w) k.stack.a ∙ same;
      changes = first.changes;
      below = λ is. first.below is;
    }

-- and a number of bytes
pub byte_selected : (g : Ground) (xs : List Piece) (w i t : ℕ) (leaf small : Bool) (h : Held)
    → IsInFrame g.footing.depth → IsInFrame (w + i / 4) → Pushed g xs t leaf small (pos i) h
    → Addressed g (xs ++ subscript_code value_type.Byte w) t (word_address w + i) small h
byte_selected g xs w i t leaf small h workspace inside first =
    let k = first.after in
    let second : Held = with_pushed (word_of (word_address w)) k in
    let few : i < 4 * MAX_DATA_WORDS = omega (arith, inside) in
    let begins : IsInFrame w = omega (arith, inside) in
    let counts : address k.stack.a ≡ i = ap address first.a ∙ few_read i few in
    record {
      after = with_result (word_of (word_address w + i)) second;
      leads = lead_both first.leads
          (lead_both (addresses_are_pushed g.footing w k workspace begins)
          (bytes_are_selected g.footing (word_address w) i second (addresses_read_back.word w begins) counts
          (omega (arith, begins, few))));
      at = addresses_read_back.byte w i begins few;
      changes = first.changes;
      below = λ is. first.below is;
    }
  where
    few_read : (j : ℕ) → j < 4 * MAX_DATA_WORDS → address (pos j) ≡ j
    few_read j near = omega (arith, ints, near)

-- an element by the whole code of its subscript
pub element_selected : (g : Ground) (type : ValueType) (xs : List Piece) (w i t : ℕ) (leaf small : Bool) (h : Held)
    → IsInFrame g.footing.depth → IsInFrame (element_word type w i) → Pushed g xs t leaf small (pos i) h
    → Addressed g (xs ++ subscript_code type w) t (element_address type w i) small h
element_selected g value_type.Int xs w i t leaf small h workspace inside first =
    subst (λ (a : ℕ). Addressed g (xs ++ subscript_code value_type.Int w) t a small h)
    (elements_have_addresses w i inside)
    (word_selected g xs w t leaf small (pos i) h workspace (omega (arith, inside)) first)
element_selected g value_type.Byte xs w i t leaf small h workspace inside first =
    byte_selected g xs w i t leaf small h workspace inside first

-- a constant more
pub offset_selects : (w i : ℕ) (j c : ℤ) → IsInFrame (w + i) → j +ℤ c ≡ pos i → FitsSigned w32 j → FitsSigned w32 c
    → local_address (local_address (word_address w) j) c ≡ word_address (w + i)
offset_selects w i j c inside sum first second =
    addresses_move_twice (word_address w) j c first second (subst (FitsSigned w32) (sym sum) (few_fits i inside))
    ∙ ap (local_address (word_address w)) sum ∙ elements_have_addresses w i inside
  where
    few_fits : (i : ℕ) → IsInFrame (w + i) → FitsSigned w32 (pos i)
    few_fits i inside = omega (arith, ints, inside)
