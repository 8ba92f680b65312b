-- Elements of arrays of a scope: what is known of the array's words, and where a subscript leads.
use Rattle.std.proofs.Common.{◌≡◌, ℕ, zero, suc, ◌+◌, ◌*◌, ◌<◌, ◌≤◌, ℤ, pos, ◌+ℤ◌, ◌*ℤ◌}
use Rattle.std.proofs.Common.{true, List, Option, Some, None, refl, ap, subst}
use Rattle.std.proofs.Common.{◌∙◌, arith}
use Rattle.std.proofs.lemmas.Int.{ints}
use Rattle.module_format.specs.declared.limits.TheConstants.{MAX_DATA_WORDS}
use Rattle.word_arithmetic.specs.Range.{Ends, full}
use Rattle.rulings.specs.Pointers.{are_near}
use Rattle.states.specs.State.{Facts}
use Rattle.occam_parser.specs.declared.tree.ValueType.{ValueType}
use Rattle.occam_parser.specs.declared.tree.ValueType.TheVariants as value_type
use Rattle.occam_parser.specs.Expressions.{Expression}
use Rattle.occam_parser.specs.Lines.{Place}
use Rattle.scalar_ranges.specs.Bounds.{bound_of, range_found}
use Rattle.scalar_ranges.specs.Entries.{Meaning, Entry, meaning_in}
use Rattle.line_pieces.specs.Actions.{KnownElement, OtherElement, target_of, by_number, element_target}
use Rattle.line_pieces.specs.Expressions.{single, subscript_of}
use Rattle.line_pieces.specs.Homes.{Home, Word, words_for}
use Rattle.certified_lines.specs.ElementLaws.{IsArray, Select}
use Rattle.certified_lines.specs.Scopes.{Scene, HoldsScope, IsScope}
use Rattle.certified_lines.proofs.Elements.{Selected, array_housed, array_numbers, both_near, selected}
use Rattle.certified_actions.specs.Keeping.{NumbersStayBefore}
use Rattle.certified_actions.specs.Variables.{IsOwnArray}
use Rattle.certified_actions.proofs.Addressing.{element_word, scaled}
use Rattle.certified_actions.proofs.Bytes.{LiesIn, more_bytes}
use Rattle.certified_actions.proofs.Storing.{IsKnownArray}

-- a place that is an element
abbrev pub element : List ℕ → Expression → Place
element name e = record { name = name; subscript = Some e }

-- ---- arrays

-- an array's words lie before the first free one
pub array_below : (g : Scene) (top : ℕ) (es : List Entry) (name : List ℕ) (type : ValueType) (size w : ℕ) (range : Ends)
    → IsScope g top es → IsArray g es name type (Word w) size range → w + words_for type size ≤ top
array_below g top es name type size w range scope x = (array_housed g top es name type size w range scope x).1

-- so numbers may be stored in an array that can change
pub array_known : (g : Scene) (top : ℕ) (es : List Entry) (name : List ℕ) (type : ValueType) (size w : ℕ) (f : Facts)
    → IsScope g top es → IsOwnArray g es name type size w → HoldsScope g es f
    → IsKnownArray g.setting w (words_for type size) f
array_known g top es name type size w f scope x holds = record {
  few = let below = array_below g top es name type size w x.range scope x.array in
      let few = scope.few in omega (arith, below, few);
  writes = x.writes;
  known = array_numbers g es name type size w x.range f x.array holds;
}

-- an element lies in one of its words
pub element_inside : (type : ValueType) (size w n : ℕ) → n < size → element_word type w n < w + words_for type size
element_inside value_type.Int size w n less = omega (arith, less)
element_inside value_type.Byte size w n less = omega (arith, less)

-- ---- targets

module _ (g : Scene) (es : List Entry) (t : ℕ) (name : List ℕ) (type : ValueType) (size w : ℕ) (e : Expression)
    (range : Ends) (x : IsArray g es name type (Word w) size range) where
  numbered : (o : Option ℤ) → single (range_found (bound_of es e)) ≡ o
      → target_of g.homes es t (element name e) ≡ by_number type w o (subscript_of g.homes es t e)
  numbered o is =
      ap (λ (h : Option Home). element_target h (meaning_in name es) (single (range_found (bound_of es e)))
      (subscript_of g.homes es t e)) x.at
      ∙ (ap (λ (m : Option Meaning). element_target (Some (Word w)) m (single (range_found (bound_of es e)))
      (subscript_of g.homes es t e)) x.means
      ∙ ap (λ (o : Option ℤ). by_number type w o (subscript_of g.homes es t e)) is)

  pub known_target : (c : ℕ) → single (range_found (bound_of es e)) ≡ Some (pos c)
      → target_of g.homes es t (element name e) ≡ KnownElement type w c
  known_target c is = numbered (Some (pos c)) is

  pub other_target : single (range_found (bound_of es e)) ≡ None
      → target_of g.homes es t (element name e) ≡ OtherElement type w (subscript_of g.homes es t e)
  other_target is = numbered None is

-- ---- several elements

-- the first element that several numbers select, and how many are behind it but for one
pub record Several (size : ℕ) (c : ℤ) (r : Ends) : Type 0 where
  pub first : ℕ
  pub more : ℕ
  pub lo : r.lo +ℤ c ≡ pos first
  pub hi : r.hi +ℤ c ≡ pos (first + suc more)
  pub inside : first + suc more < size

several_by : (n size : ℕ) (c : ℤ) (r : Ends) (s : Selected size c r) → s.more ≡ n → (r.lo ≡ r.hi → ⊥)
    → Several size c r
several_by zero size c r s is differ =
    let lo = s.lo in
    let hi = s.hi in
    absurd (differ (omega (arith, ints, lo, hi, is)))
several_by (suc more) size c r s is differ = record {
  first = s.first;
  more = more;
  lo = s.lo;
  hi = subst (λ (n : ℕ). r.hi +ℤ c ≡ pos (s.first + n)) is s.hi;
  inside = subst (λ (n : ℕ). s.first + n < size) is s.inside;
}

-- numbers that are not one alone select several elements
pub several : (size : ℕ) (c : ℤ) (r : Ends) → Select size c r → (r.lo ≡ r.hi → ⊥) → Several size c r
several size c r s differ = let all = selected size c r s in several_by all.more size c r all refl differ

-- The bytes that numbers select behind a word, from the first to the last one where an element begins. Each of these lies
-- in words of the array.
pub record Spread (type : ValueType) (w size : ℕ) (r : Ends) : Type 0 where
  pub first : ℕ
  pub last : ℕ
  pub low : pos (4 * w) +ℤ scaled type r.lo ≡ pos first
  pub high : pos (4 * w) +ℤ scaled type r.hi ≡ pos last
  pub lies : LiesIn w (words_for type size) first last (more_bytes type).0

-- those that one number and this many more select
spread_by : (type : ValueType) (w size : ℕ) (r : Ends) (first more : ℕ) → w + words_for type size ≤ MAX_DATA_WORDS
    → r.lo +ℤ pos 0 ≡ pos first → r.hi +ℤ pos 0 ≡ pos (first + more) → first + more < size → Spread type w size r
spread_by value_type.Int w size r first more few lo_is hi_is inside = record {
  first = 4 * (w + first);
  last = 4 * (w + (first + more));
  low = omega (arith, ints, lo_is);
  high = omega (arith, ints, hi_is);
  lies = record { up = omega arith; low = omega arith; high = omega (arith, inside) };
}
spread_by value_type.Byte w size r first more few lo_is hi_is inside = record {
  first = 4 * w + first;
  last = 4 * w + (first + more);
  low = omega (arith, ints, lo_is);
  high = omega (arith, ints, hi_is);
  lies = record { up = omega arith; low = omega arith; high = omega (arith, inside) };
}

pub bytes_spread : (type : ValueType) (w size : ℕ) (r : Ends) → w + words_for type size ≤ MAX_DATA_WORDS
    → Select size (pos 0) r → Spread type w size r
bytes_spread type w size r few select =
    let sel = selected size (pos 0) r select in
    spread_by type w size r sel.first sel.more few sel.lo sel.hi sel.inside

-- addresses of several words of an array are near, also before a constant is added
pub words_near : (w size : ℕ) (c : ℤ) (r : Ends) → w + size ≤ MAX_DATA_WORDS → Select size c r
    → are_near (pos (4 * w) +ℤ (pos 4 *ℤ r.lo)) (pos (4 * w) +ℤ (pos 4 *ℤ r.hi)) ≡ true
words_near w size c r few s =
    let low = s.low in
    let near = s.near in
    let first = s.first in
    let last = s.last in
    let order = s.ranged.ordered in
    both_near (pos (4 * w) +ℤ (pos 4 *ℤ r.lo)) (pos (4 * w) +ℤ (pos 4 *ℤ r.hi)) (omega (arith, ints, near, first))
    (omega (arith, ints, few, low, last, order)) (omega (arith, ints, near, first, order))
    (omega (arith, ints, few, low, last))

-- an array is known where numbers stay
pub array_after : (g : Scene) (top w count : ℕ) (old new : Facts) → w + count ≤ top → NumbersStayBefore top old new
    → IsKnownArray g.setting w count old → IsKnownArray g.setting w count new
array_after g top w count old new below stay x = record {
  few = x.few;
  writes = x.writes;
  known = λ n less. stay.alone (w + n) full (omega (arith, below, less)) (x.known n less);
}
