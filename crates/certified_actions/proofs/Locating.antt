-- Where messages lie: the bytes of scalars and of elements, and the words that these are in.
use Rattle.std.proofs.Common.{◌≡◌, ℕ, suc, ◌+◌, ◌*◌, ◌/◌, ◌-◌, ◌<◌, ◌≤◌, ℤ, pos, negsuc, ◌+ℤ◌, ◌-ℤ◌}
use Rattle.std.proofs.Common.{Bool, true, false, cond, List, None, refl, sym, ap}
use Rattle.std.proofs.Common.{subst, ◌∙◌, arith}
use Rattle.std.specs.Prelude.{nat_lt}
use Rattle.std.specs.Int.{int_min, int_max}
use Rattle.std.proofs.lemmas.Bool.{and_from, ltb-true}
use Rattle.std.proofs.lemmas.Int.{ints, clamps}
use Rattle.small_laws.proofs.Comparisons.{le-int_le, lt-int_lt}
use Rattle.word_arithmetic.specs.Word.{least_word, greatest_word}
use Rattle.word_arithmetic.specs.Range.{Ends, IsRange, full}
use Rattle.module_format.specs.declared.fact.Fact.TheVariants.{Number, Pointer}
use Rattle.module_format.specs.declared.fact.Region.TheVariants as regions
use Rattle.module_format.specs.declared.fact.Step.{Step}
use Rattle.module_format.specs.declared.limits.TheConstants.{MAX_DATA_WORDS}
use Rattle.states.specs.declared.known.WordFact.{WordFact}
use Rattle.states.specs.declared.known.WordFact.TheVariants.{Alone}
use Rattle.states.specs.declared.span.Leaving.TheVariants.{Become}
use Rattle.states.specs.Spans.{is_in_span, left_of, on_span}
use Rattle.states.specs.State.{Facts, by_itself, changed, forgets, is_parted, is_same_number}
use Rattle.module_format.specs.Rows.{Fact}
use Rattle.module_format.specs.Stack.{mapped}
use Rattle.rulings.specs.declared.pointers.Pointed.{Pointed}
use Rattle.rulings.specs.Filling.{words_within}
use Rattle.rulings.specs.Pointers.{are_near, number_within, stored_byte}
use Rattle.rulings.specs.Reach.{words_touched}
use Rattle.local_rules.specs.WordRules.{number_in}
use Rattle.occam_parser.specs.declared.tree.ValueType.{ValueType}
use Rattle.occam_parser.specs.declared.tree.ValueType.TheVariants as value_type
use Rattle.occam_parser.specs.Expressions.{Expression}
use Rattle.scalar_ranges.specs.Entries.{Entry}
use Rattle.code_pieces.specs.Pieces.{Piece}
use Rattle.line_pieces.specs.Actions.{target_address, KnownElement, OtherElement}
use Rattle.line_pieces.specs.Expressions.{expression_code, subscript_code, subscript_of}
use Rattle.line_pieces.specs.Homes.{words_for}
use Rattle.certified_lines.specs.StraightRules.{Setting, Told, FallOn}
use Rattle.certified_lines.specs.Addresses.{with_left}
use Rattle.certified_lines.specs.Scopes.{Scene, HoldsScope, IsNumber}
use Rattle.certified_lines.specs.Telling.{AreAllowed, IsFree, StayBefore}
use Rattle.certified_lines.proofs.Arrays.{full_words_stay_full, other_words_stay}
use Rattle.certified_lines.proofs.Elements.{bytes_touched}
use Rattle.certified_lines.proofs.Operands.{allowed_first, same_word}
use Rattle.certified_lines.proofs.Ranges.{full_ranged}
use Rattle.certified_actions.specs.Keeping.{NumbersStay}
use Rattle.certified_actions.specs.Messages.{with_numbers, with_received}
use Rattle.certified_actions.specs.Variables.{IsSelected}
use Rattle.certified_actions.proofs.Bytes.{LiesIn, lies_near, more_bytes}
use Rattle.certified_actions.proofs.Addressing.{Addressed, element_byte, element_word, known_addressed}
use Rattle.certified_actions.proofs.Addressing.{subscript_addressed}
use Rattle.certified_actions.proofs.Elements.{bytes_spread}
use Rattle.certified_actions.proofs.Keeping.{array_spared, in_span_is, numbers_both, numbers_spared, untouched_stay}

-- ---- addresses

-- Pieces push an address of one of some bytes, from which on a message lies in words of an array.
pub record Located (g : Setting) (type : ValueType) (w count top : ℕ) (ps : List Piece) (before : Told) : Type 0 where
  pub after : Told
  pub falls : FallOn g ps before after
  pub stay : StayBefore top before.frame after.frame
  pub first : ℕ
  pub last : ℕ
  pub step : Step
  pub a : after.stack.a.fact ≡ Pointer regions.Frame (pos first) (pos last) step
  pub near : are_near (pos first) (pos last) ≡ true
  pub lies : LiesIn w count first last (more_bytes type).0

located : (g : Setting) (type : ValueType) (w count top first last : ℕ) (ps : List Piece) (step : Step) (small : Bool)
    (before : Told) → w + count ≤ MAX_DATA_WORDS → LiesIn w count first last (more_bytes type).0
    → Addressed g ps top (pos first) (pos last) step small before → Located g type w count top ps before
located g type w count top first last ps step small before few lies x =
    record {
      after = x.after;
      falls = x.falls;
      stay = x.stay;
      first = first;
      last = last;
      step = step;
      a = x.a;
      near = lies_near few lies;
      lies = lies;
    }

element_lies : (type : ValueType) (w n size : ℕ) → n < size
    → LiesIn w (words_for type size) (element_byte type w n) (element_byte type w n) (more_bytes type).0
element_lies value_type.Int w n size less =
    record { up = omega arith; low = omega arith; high = omega (arith, less) }
element_lies value_type.Byte w n size less =
    record { up = omega arith; low = omega arith; high = omega (arith, less) }

inside_word : (type : ValueType) (w n size : ℕ) → n < size → w + words_for type size ≤ MAX_DATA_WORDS
    → element_word type w n < MAX_DATA_WORDS
inside_word value_type.Int w n size less few = omega (arith, less, few)
inside_word value_type.Byte w n size less few = omega (arith, less, few)

-- an element whose number is known
pub known_located : (g : Setting) (type : ValueType) (w n size top : ℕ) (before : Told) → n < size
    → w + words_for type size ≤ MAX_DATA_WORDS
    → Located g type w (words_for type size) top (target_address (KnownElement type w n)) before
known_located g type w n size top before less few =
    let x = known_addressed type g w n top before (inside_word type w n size less few) in
    located g type w (words_for type size) top (element_byte type w n) (element_byte type w n)
    (target_address (KnownElement type w n)) x.step true before few (element_lies type w n size less) x.addressed

-- and one of several, by the code of a subscript
pub other_located : (g : Scene) (type : ValueType) (w size top : ℕ) (es : List Entry) (e : Expression) (before : Told)
    → w + words_for type size ≤ MAX_DATA_WORDS → IsFree top → IsSelected g top es e size None
    → AreAllowed g (target_address (OtherElement type w (subscript_of g.homes es top e))) → HoldsScope g es before.frame
    → Located g.setting type w (words_for type size) top
    (target_address (OtherElement type w (subscript_of g.homes es top e))) before
other_located g type w size top es e before few free x all holds =
    let r = x.range in
    let code : List Piece = expression_code g.homes es top e in
    let p = x.tells top (omega arith) free (allowed_first g code (subscript_code type w) all) before holds in
    let spread = bytes_spread type w size r few x.select in
    let lies = spread.lies in
    let up = lies.up in
    let low = lies.low in
    let high = lies.high in
    located g.setting type w (words_for type size) top spread.first spread.last _ _ _ before few lies
    (subscript_addressed g.setting code top w x.leaf _ r before (pos spread.first) (pos spread.last)
    (omega (arith, few, up, low, high)) (lies_near few lies) p type spread.low spread.high)

-- ---- what is received

-- where the bytes of a message end, behind where the last one may begin
abbrev pub ends_at : (last m : ℕ) → ℤ
ends_at last m = pos last +ℤ pos (suc m)

-- an address of one of some bytes
abbrev pub some_bytes : (first last : ℕ) → Step → Pointed
some_bytes first last step = record { region = regions.Frame; lo = pos first; hi = pos last; step = step }

span_is : (first last m : ℕ) → first ≤ last
    → words_touched (pos first) (ends_at last m) ≡ suc ((last + m) / 4 - first / 4)
span_is first last m up =
    let end : ends_at last m ≡ pos (last + m) +ℤ pos 1 = omega (arith, ints) in
    ap (words_touched (pos first)) end ∙ bytes_touched first (last + m) (omega (arith, up))

-- words that have no other bytes end where the bytes do
within_ends : (first end : ℕ) → nat_lt 0 (words_within (pos first) (pos end)) ≡ true
    → (first + 3) / 4 + words_within (pos first) (pos end) ≡ end / 4
within_ends first end some = by (pos (end / 4) -ℤ pos ((first + 3) / 4)) refl some
  where
    by : (z : ℤ) → pos (end / 4) -ℤ pos ((first + 3) / 4) ≡ z
        → nat_lt 0 (elim z as (λ z. ℕ) [ pos n ↦ n | negsuc n ↦ 0 ]) ≡ true
        → (first + 3) / 4 + (elim z as (λ z. ℕ) [ pos n ↦ n | negsuc n ↦ 0 ]) ≡ end / 4
    by (pos n) is some = omega (arith, ints, is)
    by (negsuc n) is some = absurd (cc some)

end_is : (last m : ℕ) → ends_at last m ≡ pos (last + suc m)
end_is last m = omega (arith, ints)

module _ (P : ℕ → Type 0) (w count first last m : ℕ) (step : Step) (lies : LiesIn w count first last m) (s : Told)
    (known : (n : ℕ) → n < count → IsNumber s.frame (w + n) full) where
  abbrev left : Told
  left = with_left (some_bytes first last step) (ends_at last m) stored_byte s

  left_is : left.frame ≡ changed (on_span (pos (first / 4)) (suc ((last + m) / 4 - first / 4)) stored_byte) s.frame
  left_is = ap (λ (n : ℕ). changed (on_span (pos (first / 4)) n stored_byte) s.frame) (span_is first last m lies.up)

  left_stays : NumbersStay P s.frame left.frame
  left_stays =
      let low = lies.low in
      let high = lies.high in
      let up = lies.up in
      subst (λ (f : Facts). NumbersStay P s.frame f) (sym left_is)
      (array_spared P w count (first / 4) (suc ((last + m) / 4 - first / 4)) full s.frame full_ranged
      (omega (arith, low)) (omega (arith, high, up)) known)

  left_known : (n : ℕ) → n < count → IsNumber left.frame (w + n) full
  left_known n less =
      subst (λ (f : Facts). IsNumber f (w + n) full) (sym left_is)
      (full_words_stay_full full s.frame (pos (first / 4)) (pos (w + n)) (suc ((last + m) / 4 - first / 4)) full_ranged
      (known n less))

  -- words that become numbers are any numbers again
  become_stays : nat_lt 0 (words_within (pos first) (ends_at last m)) ≡ true
      → NumbersStay P left.frame
      (changed (on_span (pos ((first + 3) / 4)) (words_within (pos first) (ends_at last m)) (Become
      (number_within full)))
      left.frame)
  become_stays some =
      let count_of = words_within (pos first) (ends_at last m) in
      let change = on_span (pos ((first + 3) / 4)) count_of (Become (number_within full)) in
      let low = lies.low in
      let high = lies.high in
      let ends : (first + 3) / 4 + count_of ≡ (last + suc m) / 4 =
      ap (λ (z : ℤ). (first + 3) / 4 + words_within (pos first) z) (end_is last m)
      ∙ within_ends first (last + suc m)
      (ap (λ (z : ℤ). nat_lt 0 (words_within (pos first) z)) (sym (end_is last m)) ∙ some) in
      numbers_spared P (is_in_span (pos ((first + 3) / 4)) count_of) left.frame (changed change left.frame)
      (λ k test.
      let inside = in_span_is ((first + 3) / 4) count_of k test in
      let from = inside.0 in
      let to = inside.1 in
      let at : w + (k - w) ≡ k = omega (arith, low, from) in (
        subst (λ (n : ℕ). IsNumber left.frame n full) at
            (left_known (k - w) (omega (arith, low, high, from, to, ends))),
        ap (λ (b : Bool). cond b (Alone (number_in full)) (cond (is_parted change.touches (pos k) (left.frame (pos k)))
            (Alone (by_itself (left.frame (pos k)))) (left.frame (pos k)))) test,
      ))
      (λ k test whole. other_words_stay change left.frame (pos k) test whole)

  pub received_stays : NumbersStay P s.frame
      (with_received (some_bytes first last step) (ends_at last m) s).frame
  received_stays = by_same (is_same_number (pos first) (pos last))
    where
      by_numbers : (b : Bool) → nat_lt 0 (words_within (pos first) (ends_at last m)) ≡ b
          → NumbersStay P s.frame (cond b (record {
            stack = mapped (forgets (is_in_span (pos ((first + 3) / 4)) (words_within (pos first)
                (ends_at last m)))) left.stack;
            frame = changed (on_span (pos ((first + 3) / 4)) (words_within (pos first) (ends_at last m))
                (Become (number_within full))) left.frame;
          }) left).frame
      by_numbers true test = numbers_both P s.frame left.frame _ left_stays (become_stays test)
      by_numbers false test = left_stays

      by_same : (b : Bool) → NumbersStay P s.frame
          (cond b (with_numbers (some_bytes first last step) (ends_at last m) left) left).frame
      by_same true = by_numbers (nat_lt 0 (words_within (pos first) (ends_at last m))) refl
      by_same false = left_stays

-- ---- what a scalar receives

-- a number that may have been replaced is any number
widened_any : (r : Ends) → IsRange r → left_of stored_byte (number_in r) ≡ number_in full
widened_any r ranged =
    let lo = ranged.lo_fits in
    let hi = ranged.hi_fits in
    let low : int_min r.lo least_word ≡ least_word = omega (arith, ints, clamps, lo) in
    let high : int_max r.hi greatest_word ≡ greatest_word = omega (arith, ints, clamps, hi) in
    λ i. Number (low i) (high i)

one_in_span : (w : ℕ) → is_in_span (pos w) 1 (pos w) ≡ true
one_in_span w =
    and_from _ _ (le-int_le (pos w) (pos w) (omega (arith, ints))) (lt-int_lt (pos w) (pos w +ℤ pos 1) (omega
    (arith, ints)))

not_in_one : (w k : ℕ) → (k ≡ w → ⊥) → is_in_span (pos w) 1 (pos k) ≡ false
not_in_one w k apart = by (is_in_span (pos w) 1 (pos k)) refl
  where
    by : (b : Bool) → is_in_span (pos w) 1 (pos k) ≡ b → is_in_span (pos w) 1 (pos k) ≡ false
    by true test =
        let inside = in_span_is w 1 k test in
        let from = inside.0 in
        let to = inside.1 in
        absurd (apart (omega (arith, from, to)))
    by false test = test

module _ (w m : ℕ) (few : m ≤ 3) (step : Step) (s : Told) (r : Ends) (ranged : IsRange r)
    (is : IsNumber s.frame w r) where
  -- no other word
  abbrev IsOther : ℕ → Type 0
  IsOther v = v ≡ w → ⊥

  abbrev one_left : Told
  one_left = with_left (some_bytes (4 * w) (4 * w) step) (ends_at (4 * w) m) stored_byte s

  one_left_is : one_left.frame ≡ changed (on_span (pos w) 1 stored_byte) s.frame
  one_left_is =
      let at : 4 * w / 4 ≡ w = omega arith in
      let count : suc ((4 * w + m) / 4 - 4 * w / 4) ≡ 1 = omega (arith, few) in
      (λ i. changed (on_span (pos (at i)) (span_is (4 * w) (4 * w) m (omega arith) i) stored_byte) s.frame)
      ∙ ap (λ (n : ℕ). changed (on_span (pos w) n stored_byte) s.frame) count

  touched_full : (leaves : WordFact) → leaves ≡ Alone (number_in full) → (rest : WordFact)
      → cond (is_in_span (pos w) 1 (pos w)) leaves rest ≡ Alone (number_in full)
  touched_full leaves full_is rest =
      ap (λ (b : Bool). cond b leaves rest) (one_in_span w) ∙ full_is

  left_there : IsNumber one_left.frame w full
  left_there =
      ap (λ (f : Facts). f (pos w)) one_left_is
      ∙ touched_full (Alone (left_of stored_byte (by_itself (s.frame (pos w)))))
      (ap (λ (f : WordFact). Alone (left_of stored_byte (by_itself f))) is
      ∙ ap (λ (f : Fact). Alone f) (widened_any r ranged)) _

  left_others : NumbersStay IsOther s.frame one_left.frame
  left_others =
      subst (λ (f : Facts). NumbersStay IsOther s.frame f) (sym one_left_is)
      (untouched_stay IsOther (on_span (pos w) 1 stored_byte) s.frame (λ k apart. not_in_one w k apart))

  -- the word of the scalar is any number, and others stay
  pub record WordReceived (f : Facts) : Type 0 where
    pub there : IsNumber f w full
    pub others : NumbersStay IsOther s.frame f

  become_there : (start count : ℕ) → start ≡ w → nat_lt 0 count ≡ true → count ≤ 1
      → WordReceived (changed (on_span (pos start) count (Become (number_within full))) one_left.frame)
  become_there start count at some one =
      let more = ltb-true 0 count some in
      let same : count ≡ 1 = omega (arith, more, one) in
      subst (λ (n : ℕ). WordReceived (changed (on_span (pos n) count (Become (number_within full))) one_left.frame))
      (sym at)
      (subst (λ (n : ℕ). WordReceived (changed (on_span (pos w) n (Become (number_within full))) one_left.frame))
      (sym same) (record {
        there = touched_full (Alone (number_in full)) refl _;
        others = numbers_both IsOther s.frame one_left.frame _ left_others
            (untouched_stay IsOther (on_span (pos w) 1 (Become (number_within full))) one_left.frame
            (λ k apart. not_in_one w k apart));
      }))

  pub word_received : WordReceived (with_received (some_bytes (4 * w) (4 * w) step) (ends_at (4 * w) m) s).frame
  word_received =
      subst WordReceived
      (sym (ap (λ (b : Bool).
      (cond b (with_numbers (some_bytes (4 * w) (4 * w) step) (ends_at (4 * w) m) one_left) one_left).frame)
      (same_word (pos (4 * w)))))
      (by_numbers (nat_lt 0 (words_within (pos (4 * w)) (ends_at (4 * w) m))) refl)
    where
      count_of : ℕ
      count_of = words_within (pos (4 * w)) (ends_at (4 * w) m)

      at_most_one : nat_lt 0 count_of ≡ true → count_of ≤ 1
      at_most_one some =
          let ends : (4 * w + 3) / 4 + count_of ≡ (4 * w + suc m) / 4 =
          ap (λ (z : ℤ). (4 * w + 3) / 4 + words_within (pos (4 * w)) z) (end_is (4 * w) m)
          ∙ within_ends (4 * w) (4 * w + suc m)
          (ap (λ (z : ℤ). nat_lt 0 (words_within (pos (4 * w)) z)) (sym (end_is (4 * w) m)) ∙ some) in
          omega (arith, ends, few)

      by_numbers : (b : Bool) → nat_lt 0 count_of ≡ b
          → WordReceived (cond b (record {
            stack = mapped (forgets (is_in_span (pos ((4 * w + 3) / 4)) count_of)) one_left.stack;
            frame = changed (on_span (pos ((4 * w + 3) / 4)) count_of (Become (number_within full))) one_left.frame;
          }) one_left).frame
      by_numbers true test = become_there ((4 * w + 3) / 4) count_of (omega arith) test (at_most_one test)
      by_numbers false test = record { there = left_there; others = left_others }
