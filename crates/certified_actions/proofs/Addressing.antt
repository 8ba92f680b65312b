-- Addresses of elements that code leaves, each of which may lead to several of them.
use Rattle.std.proofs.Common.{◌≡◌, ℕ, ◌+◌, ◌*◌, ◌/◌, ◌%◌, ◌<◌, ◌≤◌, ℤ, pos, ◌+ℤ◌, ◌*ℤ◌}
use Rattle.std.proofs.Common.{Bool, true, false, cond, nat_eq, List, [], ◌∷◌, ◌++◌}
use Rattle.std.proofs.Common.{Ok, refl, sym, ap, subst, ◌∙◌, arith}
use Rattle.std.proofs.lemmas.Int.{ints}
use Rattle.std.proofs.lemmas.Bool.{eqb-true}
use Rattle.module_format.specs.declared.fact.Fact.TheVariants.{Pointer}
use Rattle.module_format.specs.declared.fact.Region.TheVariants as regions
use Rattle.module_format.specs.declared.fact.Step.{Step}
use Rattle.module_format.specs.declared.fact.Step.TheVariants.{Word as WordStep}
use Rattle.module_format.specs.declared.limits.TheConstants.{MAX_DATA_WORDS}
use Rattle.word_arithmetic.specs.Range as ranges
use Rattle.word_arithmetic.specs.Range.{Ends, full}
use Rattle.states.specs.State.{known}
use Rattle.rulings.specs.declared.pointers.Pointed.{Pointed}
use Rattle.rulings.specs.Pointers.{are_near, pointer_of, bounds_of}
use Rattle.local_rules.specs.MemoryRules.{step_after}
use Rattle.local_rules.specs.WordRules.{known_constant}
use Rattle.occam_parser.specs.declared.tree.ValueType.{ValueType}
use Rattle.occam_parser.specs.declared.tree.ValueType.TheVariants as value_type
use Rattle.code_pieces.specs.declared.operations.TheConstants.{BYTE_SUBSCRIPT}
use Rattle.code_pieces.specs.Pieces.{Piece, points, constant, operates, word_after}
use Rattle.line_pieces.specs.Expressions.{known_address, subscript_code}
use Rattle.certified_lines.specs.StraightRules.{Setting, Told, FallOn, with_pushed}
use Rattle.certified_lines.specs.Instructions.{word_pointer, with_result}
use Rattle.certified_lines.specs.Telling.{StayBefore, IsLike, PushedFact}
use Rattle.certified_lines.proofs.StraightRules.{fall_both}
use Rattle.certified_lines.proofs.Instructions.{addresses_are_known, constants_are_known}
use Rattle.certified_lines.proofs.Addresses.{selected_words_are_known, selected_bytes_are_known}
use Rattle.certified_lines.proofs.Elements.{both_near, bounds_are, element_bytes, element_words, pointer_is, word_is}
use Rattle.certified_lines.proofs.Telling.{few_counted, like_of, stay_alike}

-- Pieces push an address of bytes of the frame, from the one to the other. What is known of words before t stays, and
-- where the pieces are small, B is known as A was.
pub record Addressed (g : Setting) (ps : List Piece) (t : ℕ) (lo hi : ℤ) (step : Step) (small : Bool) (before : Told)
    : Type 0 where
  pub after : Told
  pub falls : FallOn g ps before after
  pub a : after.stack.a.fact ≡ Pointer regions.Frame lo hi step
  pub stay : StayBefore t before.frame after.frame
  pub below : small ≡ true → IsLike before.stack.a after.stack.b

-- ---- a word of the frame

-- where a word begins
abbrev pub at_word : ℕ → Pointed
at_word w = record { region = regions.Frame; lo = pos (4 * w); hi = pos (4 * w); step = WordStep }

-- a word of a frame is near
pub word_near : (w : ℕ) → w ≤ MAX_DATA_WORDS → are_near (pos (4 * w)) (pos (4 * w)) ≡ true
word_near w few =
    both_near (pos (4 * w)) (pos (4 * w)) (omega (arith, ints)) (omega (arith, ints, few)) (omega (arith, ints))
    (omega (arith, ints, few))

-- its address may be used
pub word_pointed : (w : ℕ) → w ≤ MAX_DATA_WORDS → pointer_of (word_pointer w) ≡ Ok (at_word w)
word_pointed w few = pointer_is regions.Frame (pos (4 * w)) (pos (4 * w)) WordStep (word_near w few)

-- and is pushed by one piece
pub word_addressed : (g : Setting) (w t : ℕ) (small : Bool) (s : Told) → w < MAX_DATA_WORDS
    → Addressed g (points w ∷ []) t (pos (4 * w)) (pos (4 * w)) WordStep small s
word_addressed g w t small s few = record {
  after = with_pushed (known (word_pointer w)) s;
  falls = addresses_are_known g w s (few_counted w few) (omega (arith, few));
  a = refl;
  stay = stay_alike t s.frame;
  below = λ is. like_of refl;
}

-- ---- by a subscript

-- the step of an address that a subscript makes
abbrev pub step_by : ValueType → Ends → Step
step_by value_type.Int r = WordStep
step_by value_type.Byte r = step_after WordStep (record { lo = r.lo; hi = r.hi })

-- how many bytes an element has, as far as its address goes
abbrev pub scaled : ValueType → ℤ → ℤ
scaled value_type.Int z = pos 4 *ℤ z
scaled value_type.Byte z = z

module _ (g : Setting) (ps : List Piece) (t w : ℕ) (leaf small : Bool) (r : Ends) (before : Told) (lo hi : ℤ)
    (few : w < MAX_DATA_WORDS) (near : are_near lo hi ≡ true) (p : PushedFact g ps t leaf small r before) where
  -- the address of the first word is pushed on the subscript
  abbrev there : Told
  there = with_pushed (known (word_pointer w)) p.after

  pub subscript_addressed : (type : ValueType) → pos (4 * w) +ℤ scaled type r.lo ≡ lo
      → pos (4 * w) +ℤ scaled type r.hi ≡ hi
      → Addressed g (ps ++ subscript_code type w) t lo hi (step_by type r) small before
  subscript_addressed value_type.Int low high = record {
    after = with_result (known (Pointer regions.Frame lo hi WordStep)) there;
    falls = fall_both p.falls
        (fall_both (addresses_are_known g w p.after (few_counted w few) (omega (arith, few)))
        (selected_words_are_known g (record { lo = r.lo; hi = r.hi }) (at_word w) (Pointer regions.Frame lo hi WordStep)
        there (ap bounds_of p.a ∙ bounds_are r) (word_pointed w (omega (arith, few)))
        (element_words regions.Frame (4 * w) r lo hi low high near)));
    a = refl;
    stay = p.stay;
    below = λ is. p.below is;
  }
  subscript_addressed value_type.Byte low high =
      let fact = Pointer regions.Frame lo hi (step_after WordStep (record { lo = r.lo; hi = r.hi })) in
      record {
        after = with_result (known fact) there;
        falls = fall_both p.falls
            (fall_both (addresses_are_known g w p.after (few_counted w few) (omega (arith, few)))
            (selected_bytes_are_known g (record { lo = r.lo; hi = r.hi }) (at_word w) fact there
            (ap bounds_of p.a ∙ bounds_are r) (word_pointed w (omega (arith, few)))
            (element_bytes (4 * w) r lo hi low high near)));
        a = refl;
        stay = p.stay;
        below = λ is. p.below is;
      }

-- ---- by a number

-- the first byte of an element
abbrev pub element_byte : ValueType → (w n : ℕ) → ℕ
element_byte value_type.Int w n = 4 * (w + n)
element_byte value_type.Byte w n = 4 * w + n

-- the word that it is in
abbrev pub element_word : ValueType → (w n : ℕ) → ℕ
element_word value_type.Int w n = w + n
element_word value_type.Byte w n = w + n / 4

-- An address of one byte of the frame alone.
pub record AddressedOne (g : Setting) (ps : List Piece) (t byte : ℕ) (before : Told) : Type 0 where
  pub step : Step
  pub addressed : Addressed g ps t (pos byte) (pos byte) step true before

byte_addressed : (test : Bool) (g : Setting) (w n t : ℕ) (s : Told) → nat_eq (n % 4) 0 ≡ test
    → w + n / 4 < MAX_DATA_WORDS
    → AddressedOne g (cond test (points (word_after w (n / 4)) ∷ [])
    (constant (pos (n % 4)) ∷ points (word_after w (n / 4)) ∷ operates BYTE_SUBSCRIPT ∷ [])) t (4 * w + n) s
byte_addressed true g w n t s test few =
    let even = eqb-true (n % 4) 0 test in
    let at : 4 * (w + n / 4) ≡ 4 * w + n = omega (arith, even) in
    subst (λ (a : ℕ). AddressedOne g (points a ∷ []) t (4 * w + n) s) (sym (word_is w (n / 4) few)) (record {
      step = WordStep;
      addressed = subst (λ (byte : ℕ). Addressed g (points (w + n / 4) ∷ []) t (pos byte) (pos byte) WordStep true s) at
          (word_addressed g (w + n / 4) t true s few);
    })
byte_addressed false g w n t s test few =
    let r : Ends = ranges.constant (pos (n % 4)) in
    let at : pos (4 * (w + n / 4)) +ℤ pos (n % 4) ≡ pos (4 * w + n) = omega (arith, ints) in
    let near = both_near (pos (4 * w + n)) (pos (4 * w + n)) (omega (arith, ints)) (omega (arith, ints, few))
    (omega (arith, ints)) (omega (arith, ints, few)) in
    let one = known_constant (pos (n % 4)) in
    subst (λ (a : ℕ). AddressedOne g (constant (pos (n % 4)) ∷ points a ∷ operates BYTE_SUBSCRIPT ∷ []) t (4 * w + n) s)
    (sym (word_is w (n / 4) few)) (record {
      step = step_by value_type.Byte r;
      addressed = subscript_addressed g (constant (pos (n % 4)) ∷ []) t (w + n / 4) true true r s (pos (4 * w + n))
          (pos (4 * w + n)) few near (record {
            after = with_pushed one s;
            falls = constants_are_known g (pos (n % 4)) s;
            a = refl;
            stay = stay_alike t s.frame;
            below = λ is. like_of refl;
            alone = λ is. refl;
          }) value_type.Byte at at;
    })

-- the address of an element that is known, in the words of a frame
pub known_addressed : (type : ValueType) (g : Setting) (w n t : ℕ) (s : Told) → element_word type w n < MAX_DATA_WORDS
    → AddressedOne g (known_address type w n) t (element_byte type w n) s
known_addressed value_type.Int g w n t s few =
    subst (λ (a : ℕ). AddressedOne g (points a ∷ []) t (4 * (w + n)) s) (sym (word_is w n few))
    (record { step = WordStep; addressed = word_addressed g (w + n) t true s few })
known_addressed value_type.Byte g w n t s few = byte_addressed (nat_eq (n % 4) 0) g w n t s refl few
