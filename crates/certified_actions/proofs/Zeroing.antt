-- The words of declared variables are set to 0, and what is known of them.
use Rattle.std.proofs.Common.{◌≡◌, ℕ, zero, suc, ◌+◌, ◌-◌, ◌<◌, ◌≤◌, ◌⊎◌, inl, inr, min, nat_lt, ℤ, pos, ◌+ℤ◌, ◌-ℤ◌}
use Rattle.std.proofs.Common.{◌<ℤ◌}
use Rattle.std.proofs.Common.{Bool, true, false, cond, ◌&&◌, List, [], ◌∷◌, ◌++◌, refl, sym, ap, subst, ◌∙◌, arith}
use Rattle.std.specs.Prelude.{int_lt}
use Rattle.std.proofs.lemmas.Bool.{cases_lt, ltb-true, ltb-false}
use Rattle.std.proofs.lemmas.Int.{ints}
use Rattle.small_laws.proofs.Comparisons.{lt-int_le}
use Rattle.module_format.specs.declared.limits.TheConstants.{MAX_DATA_WORDS}
use Rattle.word_arithmetic.specs.Range.{Ends, constant, full}
use Rattle.states.specs.declared.known.WordFact.{WordFact}
use Rattle.states.specs.declared.known.WordFact.TheVariants.{Alone, Index, Count}
use Rattle.states.specs.Spans.{is_in_span}
use Rattle.states.specs.State.{Facts, is_parted}
use Rattle.local_rules.specs.WordRules.{known_constant}
use Rattle.code_pieces.specs.Pieces as pieces
use Rattle.code_pieces.specs.Pieces.{Piece, stores, moves, word_after, counted}
use Rattle.line_pieces.specs.Declarations.{spread}
use Rattle.certified_lines.specs.StraightRules.{Setting, Told, FallOn, done, with_pushed}
use Rattle.certified_lines.specs.Instructions.{MayRead, MayWrite}
use Rattle.certified_lines.specs.MovingWords.{MovedWords}
use Rattle.certified_lines.specs.Scopes.{IsNumber}
use Rattle.certified_lines.specs.Telling.{IsWhole, StayBefore, IsFree}
use Rattle.certified_lines.proofs.StraightRules.{fall_both}
use Rattle.certified_lines.proofs.Instructions.{constants_are_known, stored_words_are_known}
use Rattle.certified_lines.proofs.MovingWords.{moved_words_are_known}
use Rattle.certified_lines.proofs.Operands.{stored_stay, stored_there}
use Rattle.certified_lines.proofs.Telling.{stay_alike, stay_both}
use Rattle.certified_lines.proofs.Elements.{word_is}
use Rattle.certified_actions.specs.Declaring.{MayUse}
use Rattle.certified_actions.specs.Zeroing.{Zeroed, ScalarsAreZero, ArraysAreFull}
use Rattle.certified_actions.proofs.ElementStores.{IsTemporary, free_counts, temporary, waiting}

-- ---- 0 in a word

zero_stored : (g : Setting) (word : ℕ) (s : Told) → IsFree word → IsTemporary g word
    → FallOn g (pieces.constant (pos 0) ∷ stores word ∷ []) s (waiting word (with_pushed (known_constant (pos 0)) s))
zero_stored g word s free here =
    fall_both (constants_are_known g (pos 0) s)
    (stored_words_are_known g word (with_pushed (known_constant (pos 0)) s) (free_counts word free) here.writes refl)

zero_there : (word : ℕ) (s : Told)
    → IsNumber (waiting word (with_pushed (known_constant (pos 0)) s)).frame word (constant (pos 0))
zero_there word s = stored_there word (known_constant (pos 0)).fact s.frame

pub scalars_are_zero : ScalarsAreZero
scalars_are_zero g word s free all =
    let here = temporary g word free all.1.0 in
    record {
      after = waiting word (with_pushed (known_constant (pos 0)) s);
      falls = zero_stored g.setting word s free here;
      there = λ n less.
          let same : word ≡ word + n = omega (arith, less) in
          subst (λ (k : ℕ). IsNumber (waiting word (with_pushed (known_constant (pos 0)) s)).frame k (constant (pos 0)))
          same (zero_there word s);
      stay = stored_stay word (known_constant (pos 0)).fact s.frame;
    }

-- ---- words that are moved behind others

before_span : (to more : ℕ) (z : ℤ) → z <ℤ pos to → is_in_span (pos to) more z ≡ false
before_span to more z less = ap (λ (b : Bool). b && int_lt z (pos to +ℤ pos more)) (lt-int_le (pos to) z less)

-- no loop before the words loses one of its words
whole_before : (to more t k : ℕ) (w : WordFact) → t ≤ to → k < t → IsWhole t k w
    → is_parted (is_in_span (pos to) more) (pos k) w ≡ false
whole_before to more t k (Alone fact) low less whole = refl
whole_before to more t k (Index loop) low less whole =
    before_span to more (pos k +ℤ pos 1) (omega (arith, ints, low, whole))
whole_before to more t k (Count loop) low less whole =
    before_span to more (pos k -ℤ pos 1) (omega (arith, ints, low, less))

-- what is known of words before them stays
moves_stay : (g : Setting) (count from to t : ℕ) (before : Told) (m : MovedWords g count from to before) → t ≤ to
    → StayBefore t before.frame m.after.frame
moves_stay g count from to t before m low k less whole =
    m.others k (inl (omega (arith, low, less))) (whole_before to count t k (before.frame (pos k)) low less whole)

-- a number before them stays one
number_stays : (g : Setting) (count from to k : ℕ) (r : Ends) (before : Told) (m : MovedWords g count from to before)
    → k < to → IsNumber before.frame k r → IsNumber m.after.frame k r
number_stays g count from to k r before m less is =
    m.others k (inl less) (ap (λ (w : WordFact). is_parted (is_in_span (pos to) count) (pos k) w) is) ∙ is

-- ---- arrays

-- the words that are full already, from a word on
abbrev AreFull : Facts → (word count : ℕ) → Type 0
AreFull f word count = (n : ℕ) → n < count → IsNumber f (word + n) full

-- one move more
moved : (g : Setting) (word count more : ℕ) (s : Told) → MayUse g word (word + count + more) → more ≤ count → 1 ≤ more
    → word + count < MAX_DATA_WORDS → AreFull s.frame word count
    → Zeroed g (moves more word (word_after word count)) word (count + more) full s
moved g word count more s may fewer some inside known =
    let few = may.few in
    let m = moved_words_are_known g more word (word + count) s (record {
      some = some;
      from_few = omega (arith, few);
      to_few = few;
      apart = inl (omega (arith, fewer));
      reads = λ n less. may.reads (word + n) (omega arith) (omega (arith, less));
      writes = λ n less. may.writes (word + count + n) (omega arith) (omega (arith, less));
      numbers = λ n less. (full, known n (omega (arith, less, fewer)));
    }) in
    subst (λ (to : ℕ). Zeroed g (moves more word to) word (count + more) full s) (sym (word_is word count inside))
    (record {
      after = m.after;
      falls = m.falls;
      there = λ n less. there_by m n less (cases_lt n count);
      stay = moves_stay g more word (word + count) word s m (omega arith);
    })
  where
    there_by : (m : MovedWords g more word (word + count) s) (n : ℕ) → n < count + more → (n < count) ⊎ (count ≤ n)
        → IsNumber m.after.frame (word + n) full
    there_by m n less (inl before) =
        number_stays g more word (word + count) (word + n) full s m (omega (arith, before)) (known n before)
    there_by m n less (inr behind) =
        let at : word + count + (n - count) ≡ word + n = omega (arith, behind) in
        subst (λ (k : ℕ). IsNumber m.after.frame k full) at (m.there (n - count) (omega (arith, less, behind)))

zeroed_both : (g : Setting) (ps qs : List Piece) (word some all : ℕ) (r : Ends) (s : Told)
    (first : Zeroed g ps word some r s) → Zeroed g qs word all r first.after → Zeroed g (ps ++ qs) word all r s
zeroed_both g ps qs word some all r s first second = record {
  after = second.after;
  falls = fall_both first.falls second.falls;
  there = second.there;
  stay = stay_both word s.frame first.after.frame second.after.frame first.stay second.stay;
}

none_left : (g : Setting) (word count have : ℕ) (s : Told) → count ≡ have → AreFull s.frame word have
    → Zeroed g [] word count full s
none_left g word count have s same known = record {
  after = s;
  falls = done;
  there = subst (AreFull s.frame word) (sym same) known;
  stay = stay_alike word s.frame;
}

-- what the moves that are left leave known
abbrev SpreadsFull : Setting → (word count more : ℕ) → Type 0
SpreadsFull g word count more = (have : ℕ) (s : Told) → 1 ≤ have → have ≤ count → count ≤ have + more
    → AreFull s.frame word have → Zeroed g (spread more word count have) word count full s

spread_by : (t : Bool) (more : ℕ) (g : Setting) (word count have : ℕ) (s : Told) → nat_lt have count ≡ t
    → MayUse g word (word + count) → 1 ≤ have → have ≤ count → count ≤ have + suc more → AreFull s.frame word have
    → SpreadsFull g word count more
    → Zeroed g (cond t (moves (min have (count - have)) word (word_after word have)
    ++ spread more word count (have + min have (count - have))) []) word count full s
spread_by false more g word count have s test may some fewer enough known further =
    let over = ltb-false have count test in
    none_left g word count have s (omega (arith, fewer, over)) known
spread_by true more g word count have s test may some fewer enough known further =
    let less = ltb-true have count test in
    let next : ℕ = min have (count - have) in
    let few = may.few in
    let here : MayUse g word (word + have + next) = record {
      few = omega (arith, few, less);
      reads = λ k low high. may.reads k low (omega (arith, high, less));
      writes = λ k low high. may.writes k low (omega (arith, high, less));
    } in
    let first = moved g word have next s here (omega arith) (omega (arith, some, less)) (omega
    (arith, few, less)) known in
    zeroed_both g (moves next word (word_after word have)) (spread more word count (have + next)) word (have + next)
    count full s first
    (further (have + next) first.after (omega (arith, some)) (omega (arith, less)) (omega (arith, some, less, enough))
    first.there)

spread_full : (more : ℕ) (g : Setting) (word count : ℕ) → MayUse g word (word + count) → SpreadsFull g word count more
spread_full zero g word count may = λ have s some fewer enough known.
    none_left g word count have s (omega (arith, fewer, enough)) known
spread_full (suc more) g word count may = λ have s some fewer enough known.
    spread_by (nat_lt have count) more g word count have s refl may some fewer enough known
    (spread_full more g word count may)

-- the first word, by way of the word after the array
first_full : (g : Setting) (word count : ℕ) (s : Told) → IsTemporary g (word + count) → 1 ≤ count
    → MayUse g word (word + count)
    → Zeroed g (pieces.constant (pos 0) ∷ stores (word + count) ∷ moves 1 (word + count) word) word 1 full s
first_full g word count s here some may =
    let few = here.few in
    let free : IsFree (word + count) = omega (arith, few) in
    let k : Told = waiting (word + count) (with_pushed (known_constant (pos 0)) s) in
    let same : (n : ℕ) → n < 1 → (base : ℕ) → base ≡ base + n = λ n one base. omega (arith, one) in
    let m = moved_words_are_known g 1 (word + count) word k (record {
      some = omega arith;
      from_few = omega (arith, few);
      to_few = omega (arith, some, few);
      apart = inr (omega (arith, some));
      reads = λ n one. subst (λ (j : ℕ). MayRead g j) (same n one (word + count)) here.reads;
      writes = λ n one. subst (λ (j : ℕ). MayWrite g j) (same n one word)
          (may.writes word (omega arith) (omega (arith, some)));
      numbers = λ n one. (
        constant (pos 0),
        subst (λ (j : ℕ). IsNumber k.frame j (constant (pos 0))) (same n one (word + count))
            (zero_there (word + count) s),
      );
    }) in
    record {
      after = m.after;
      falls = fall_both (zero_stored g (word + count) s free here) m.falls;
      there = m.there;
      stay = stay_both word s.frame k.frame m.after.frame
          (λ j less whole. stored_stay (word + count) (known_constant (pos 0)).fact s.frame j (omega (arith, less))
          (further j (s.frame (pos j)) whole))
          (moves_stay g 1 (word + count) word word k m (omega arith));
    }
  where
    further : (j : ℕ) (w : WordFact) → IsWhole word j w → IsWhole (word + count) j w
    further j (Alone fact) whole = whole
    further j (Index loop) whole = omega (arith, whole)
    further j (Count loop) whole = whole

-- the word after an array is one of the frame
after_inside : (word count : ℕ) → counted (word_after word count) < MAX_DATA_WORDS → word + count < MAX_DATA_WORDS
unfolding counted word_after
after_inside word count few = omega (arith, few)

pub arrays_are_full : ArraysAreFull
arrays_are_full g word count s some may all =
    let inside : word + count < MAX_DATA_WORDS = after_inside word count all.1.0.0 in
    let whole : word_after word count ≡ word + count = word_is word count inside in
    let here = temporary g (word + count) (omega (arith, inside))
    (subst (λ (t : ℕ). (counted t < MAX_DATA_WORDS) × MayWrite g.setting (counted t) × MayRead g.setting (counted t))
    whole all.1.0) in
    let first = subst (λ (t : ℕ). Zeroed g.setting (pieces.constant (pos 0) ∷ stores t ∷ moves 1 t word) word 1 full s)
    (sym whole) (first_full g.setting word count s here some may) in
    zeroed_both g.setting
    (pieces.constant (pos 0) ∷ stores (word_after word count) ∷ moves 1 (word_after word count) word)
    (spread (count - 1) word count 1) word 1 count full s first
    (spread_full (count - 1) g.setting word count may 1 first.after (omega arith) some (omega
    (arith, some)) first.there)
