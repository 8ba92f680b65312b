-- What is known after words of the frame are moved.
use Rattle.std.proofs.Common.{◌≡◌, ℕ, zero, suc, ◌+◌, ◌*◌, ◌/◌, ◌<◌, ◌≤◌, ◌⊎◌, inl, inr, ℤ, pos, negsuc, ◌+ℤ◌, ◌-ℤ◌}
use Rattle.std.proofs.Common.{Bool, true, false, cond, not, ◌&&◌, ◌||◌, [], ◌∷◌, Ok, Err, refl, sym, ap}
use Rattle.std.proofs.Common.{subst, ◌∙◌, arith}
use Rattle.std.specs.Prelude.{int_le, int_lt, nat_lt}
use Rattle.std.proofs.lemmas.Bool.{and_from, lt-ltb}
use Rattle.std.proofs.lemmas.Int.{ints}
use Rattle.small_laws.proofs.Comparisons.{le-int_le, lt-int_lt}
use Rattle.word_arithmetic.specs.Range.{Ends, full}
use Rattle.module_format.specs.declared.fact.Fact.TheVariants.{Unknown, Number}
use Rattle.module_format.specs.declared.fact.Region.TheVariants as regions
use Rattle.module_format.specs.declared.fact.Step.TheVariants.{Word as WordStep}
use Rattle.certificate.specs.Rights.{may_read_word, may_write_word}
use Rattle.certificate.specs.Words.{all_words}
use Rattle.states.specs.declared.known.WordFact.{WordFact}
use Rattle.states.specs.declared.known.WordFact.TheVariants.{Alone}
use Rattle.states.specs.declared.rule.Rule.TheVariants as rules
use Rattle.states.specs.declared.span.Leaving.TheVariants.{Become}
use Rattle.states.specs.Spans.{together, with_one, is_in_span, on_span, after_change}
use Rattle.states.specs.State.{State, Facts, known, changed, is_parted, is_same_number}
use Rattle.rulings.specs.declared.pointers.Pointed.{Pointed}
use Rattle.rulings.specs.Reach.{word_of_byte, words_touched, may_read_bytes, may_write_bytes}
use Rattle.rulings.specs.Pointers.{constant_of, exact_pointer, takes_any, byte_read, number_within}
use Rattle.rulings.specs.Pointers.{stored_byte}
use Rattle.rulings.specs.Pointers.{is_number_in, leaves_words}
use Rattle.rulings.specs.Filling.{are_numbers, filled, become_numbers, word_behind, words_within}
use Rattle.local_rules.specs.MoveRules.{is_movable, may_come}
use Rattle.local_rules.specs.WordRules.{number_in, known_constant}
use Rattle.code_pieces.specs.declared.operations.TheConstants.{MOVE}
use Rattle.code_pieces.specs.Pieces.{points, constant, operates, counted}
use Rattle.certified_lines.specs.StraightRules.{Setting, Told, FallOn, with_pushed}
use Rattle.certified_lines.specs.Instructions.{IsCounted, word_pointer}
use Rattle.certified_lines.specs.Addresses.{told_state, MayReadBytes, MayWriteBytes}
use Rattle.certified_lines.specs.Arrays.{last_byte}
use Rattle.certified_lines.specs.Moving.{moved}
use Rattle.certified_lines.specs.MovingWords.{MayMoveWords, MovedWords, MovedWordsAreKnown}
use Rattle.certified_lines.specs.Scopes.{IsNumber}
use Rattle.certified_lines.proofs.StraightRules.{fall_both}
use Rattle.certified_lines.proofs.Instructions.{addresses_are_known, constants_are_known}
use Rattle.certified_lines.proofs.Moving.{moved_bytes_are_known}
use Rattle.certified_lines.proofs.Arrays.{spans_are_of_words}
use Rattle.certified_lines.proofs.Telling.{few_counted}
use Rattle.certified_lines.proofs.Elements.{both_near}
use Rattle.certified_lines.proofs.Elements.{all_pass}
use Rattle.certified_lines.proofs.Operands.{same_word}

-- ---- the bytes of words

-- where the bytes of so many words end
abbrev end_of : (word count : ℕ) → ℤ
end_of word count = pos (4 * word) +ℤ pos (4 * count)

words_have : (word more : ℕ) → words_touched (pos (4 * word)) (end_of word (suc more)) ≡ suc more
words_have word more =
    let same : end_of word (suc more) ≡ last_byte word more +ℤ pos 4 = omega (arith, ints) in
    ap (words_touched (pos (4 * word))) same ∙ spans_are_of_words.touched word more

bytes_pass : (test : ℤ → Bool) (word more : ℕ) → ((n : ℕ) → n < suc more → test (pos (word + n)) ≡ true)
    → all_words test (word_of_byte (pos (4 * word))) (words_touched (pos (4 * word)) (end_of word (suc more))) ≡ true
bytes_pass test word more each =
    (λ i. all_words test (spans_are_of_words.first word i) (words_have word more i))
    ∙ all_pass test word (suc more) each

may_read_all : (g : Setting) (word more : ℕ)
    → ((n : ℕ) → n < suc more → may_read_word g.contents g.context (pos (word + n)) ≡ true)
    → MayReadBytes g regions.Frame (pos (4 * word)) (end_of word (suc more))
unfolding may_read_bytes
may_read_all g word more each = bytes_pass (may_read_word g.contents g.context) word more each

may_write_all : (g : Setting) (word more : ℕ)
    → ((n : ℕ) → n < suc more → may_write_word g.contents g.context (pos (word + n)) ≡ true)
    → MayWriteBytes g regions.Frame (pos (4 * word)) (end_of word (suc more))
unfolding may_write_bytes
may_write_all g word more each = bytes_pass (may_write_word g.contents g.context) word more each

-- ---- words that are numbers

pub all_numbers_here : (f : Facts) (first count : ℕ)
    → ((n : ℕ) → n < count → (r : Ends) × (f (pos (first + n)) ≡ Alone (number_in r)))
    → (together f (pos first) count).are_numbers ≡ true
all_numbers_here f first zero each = refl
all_numbers_here f first (suc more) each =
    ap (λ (w : WordFact). (with_one w (together f (pos first) more)).are_numbers) (each more (omega arith)).1
    ∙ all_numbers_here f first more (λ n less. each n (omega (arith, less)))

bytes_are_numbers : (g : Setting) (s : Told) (word more : ℕ)
    → ((n : ℕ) → n < suc more → (r : Ends) × (s.frame (pos (word + n)) ≡ Alone (number_in r)))
    → are_numbers (told_state g s) (record {
      region = regions.Frame;
      lo = pos (4 * word);
      hi = pos (4 * word);
      step = WordStep;
    }) (pos (4 * suc more)) ≡ true
unfolding byte_read
bytes_are_numbers g s word more each =
    let last : end_of word (suc more) -ℤ pos 1 +ℤ pos 1 ≡ end_of word (suc more) = omega (arith, ints) in
    let touched : words_touched (pos (4 * word)) (end_of word (suc more) -ℤ pos 1 +ℤ pos 1) ≡ suc more =
    ap (words_touched (pos (4 * word))) last ∙ words_have word more in
    ap (λ (b : Bool). is_number_in full (cond (not b) Unknown (Number (pos 0) (pos 255))))
    ((λ i. (together s.frame (spans_are_of_words.first word i) (touched i)).are_numbers)
    ∙ all_numbers_here s.frame word (suc more) each)

-- ---- pointers and counts

exact_is : (word : ℕ) → 4 * word ≤ 16777216 → exact_pointer (word_pointer word)
    ≡ Ok (record { region = regions.Frame; lo = pos (4 * word); hi = pos (4 * word); step = WordStep })
unfolding exact_pointer
exact_is word few =
    let z : ℤ = pos (4 * word) in
    ap (λ (b : Bool). cond b (Ok (record { region = regions.Frame; lo = z; hi = z; step = WordStep }))
    (Err rules.Pointer))
    (and_from _ _ (both_near z z (omega (arith, ints)) (omega (arith, ints, few)) (omega (arith, ints))
    (omega (arith, ints, few))) (same_word z))

constant_count : (v : ℤ) → constant_of (Number v v) ≡ Ok v
unfolding constant_of
constant_count v = ap (λ (b : Bool). cond b (Ok v) (Err rules.Number)) (same_word v)

no_zero : (n : ℕ) → 0 < n → is_same_number (pos n) (pos 0) ≡ false
no_zero n some = grind (arith, ints)

any_is_taken : (g : Setting) (word : ℕ) → takes_any g.contents g.context (word_pointer word) ≡ true
unfolding takes_any
any_is_taken g word = refl

movable : (n : ℕ) → n ≤ 65536 → is_movable (pos n) ≡ true
movable n few =
    and_from _ _ (le-int_le (pos 0) (pos n) (omega (arith, ints)))
    (le-int_le (pos n) (pos 65536) (omega (arith, ints, few)))

-- one of two holds
pub or_second : (a b : Bool) → b ≡ true → (a || b) ≡ true
or_second true b is = refl
or_second false b is = is

blocks_apart : (count from to : ℕ) → (from + count ≤ to) ⊎ (to + count ≤ from)
    → may_come (pos (4 * count))
    (record { region = regions.Frame; lo = pos (4 * from); hi = pos (4 * from); step = WordStep })
    (record { region = regions.Frame; lo = pos (4 * to); hi = pos (4 * to); step = WordStep }) true ≡ true
blocks_apart count from to (inl before) =
    ap (λ (b : Bool). (b || int_le (end_of to count) (pos (4 * from))) && true)
    (le-int_le (end_of from count) (pos (4 * to)) (omega (arith, ints, before)))
blocks_apart count from to (inr behind) =
    ap (λ (b : Bool). b && true)
    (or_second (int_le (end_of from count) (pos (4 * to))) (int_le (end_of to count) (pos (4 * from)))
    (le-int_le (end_of to count) (pos (4 * from)) (omega (arith, ints, behind))))

-- ---- what is left

-- words that may be replaced and then are numbers
abbrev twice : (to count : ℕ) → Facts → Facts
twice to count f =
    changed (on_span (pos to) count (Become (number_within full))) (changed (on_span (pos to) count stored_byte) f)

behind_is : (to : ℕ) → word_behind (pos (4 * to)) ≡ pos to
behind_is to =
    let same : (4 * to + 3) / 4 ≡ to = omega arith in
    ap (λ (n : ℕ). pos n) same

within_is : (to more : ℕ) → words_within (pos (4 * to)) (end_of to (suc more)) ≡ suc more
within_is to more =
    let end : end_of to (suc more) ≡ pos (4 * (to + suc more)) = omega (arith, ints) in
    let apart : pos (to + suc more) -ℤ pos to ≡ pos (suc more) = omega (arith, ints) in
    ap (λ (z : ℤ). elim z as (λ z. ℕ) [ pos n ↦ n | negsuc n ↦ 0 ])
    ((λ i. (ap word_of_byte end ∙ spans_are_of_words.first (to + suc more)) i -ℤ behind_is to i) ∙ apart)

-- where bytes of numbers fill words
filled_is : (to more : ℕ) (s : State)
    → (filled true (record { region = regions.Frame; lo = pos (4 * to); hi = pos (4 * to); step = WordStep })
    (end_of to (suc more)) s).frame ≡ twice to (suc more) s.frame
unfolding filled become_numbers leaves_words after_change
filled_is to more s =
    let first : Facts = changed (on_span (word_of_byte (pos (4 * to)))
    (words_touched (pos (4 * to)) (end_of to (suc more))) stored_byte) s.frame in
    first_of (nat_lt 0 (words_within (pos (4 * to)) (end_of to (suc more))))
    (ap (nat_lt 0) (within_is to more) ∙ lt-ltb 0 (suc more) (omega arith))
    ∙ (λ i. changed (on_span (behind_is to i) (within_is to more i) (Become (number_within full)))
    (changed (on_span (spans_are_of_words.first to i) (words_have to more i) stored_byte) s.frame))
  where
    start : State
    start = leaves_words (record { region = regions.Frame; lo = pos (4 * to); hi = pos (4 * to); step = WordStep })
        (end_of to (suc more)) stored_byte s

    first_of : (b : Bool) → b ≡ true
        → (cond b (after_change (on_span (word_behind (pos (4 * to)))
        (words_within (pos (4 * to)) (end_of to (suc more)))
        (Become (number_within full))) start) start).frame
        ≡ changed (on_span (word_behind (pos (4 * to))) (words_within (pos (4 * to)) (end_of to (suc more)))
        (Become (number_within full))) start.frame
    first_of true is = refl
    first_of false is = absurd (cc is)

in_span : (to count n : ℕ) → n < count → is_in_span (pos to) count (pos (to + n)) ≡ true
in_span to count n less =
    and_from _ _ (le-int_le (pos to) (pos (to + n)) (omega (arith, ints)))
    (lt-int_lt (pos (to + n)) (pos to +ℤ pos count) (omega (arith, ints, less)))

not_in_span : (to count k : ℕ) → (k < to) ⊎ (to + count ≤ k) → is_in_span (pos to) count (pos k) ≡ false
not_in_span to count k (inl before) =
    ap (λ (b : Bool). b && int_lt (pos k) (pos to +ℤ pos count)) (not_le to k before)
  where
    not_le : (to k : ℕ) → k < to → int_le (pos to) (pos k) ≡ false
    not_le to k before = grind (arith, ints)
not_in_span to count k (inr behind) = and_no (int_le (pos to) (pos k)) (not_lt to count k behind)
  where
    and_no : (a : Bool) {b : Bool} → b ≡ false → (a && b) ≡ false
    and_no true is = is
    and_no false is = refl

    not_lt : (to count k : ℕ) → to + count ≤ k → int_lt (pos k) (pos to +ℤ pos count) ≡ false
    not_lt to count k behind = grind (arith, ints)

filled_there : (to count n : ℕ) (f : Facts) → n < count → IsNumber (twice to count f) (to + n) full
filled_there to count n f less = rw (in_span to count n less) refl

filled_others : (to count k : ℕ) (f : Facts) → (k < to) ⊎ (to + count ≤ k)
    → is_parted (is_in_span (pos to) count) (pos k) (f (pos k)) ≡ false → twice to count f (pos k) ≡ f (pos k)
filled_others to count k f away whole = rw (not_in_span to count k away, whole, whole) refl

-- ---- words that are moved

few_count : (n : ℕ) → n ≤ 16384 → IsCounted n
unfolding counted
few_count n few = omega (arith, few)

moved_by : (g : Setting) (from to more : ℕ) (s : Told) → MayMoveWords g (suc more) from to s.frame
    → MovedWords g (suc more) from to s
moved_by g from to more s may =
    let from_few = may.from_few in
    let to_few = may.to_few in
    let source : Pointed = record {
      region = regions.Frame;
      lo = pos (4 * from);
      hi = pos (4 * from);
      step = WordStep;
    } in
    let target : Pointed = record { region = regions.Frame; lo = pos (4 * to); hi = pos (4 * to); step = WordStep } in
    let size : ℤ = pos (4 * suc more) in
    let first : Told = with_pushed (known (word_pointer from)) s in
    let second : Told = with_pushed (known (word_pointer to)) first in
    let third : Told = with_pushed (known_constant size) second in
    let numbers = bytes_are_numbers g third from more may.numbers in
    let left : (moved g third size target source).frame ≡ twice to (suc more) s.frame =
    ap (λ (b : Bool). (filled b target (end_of to (suc more)) (told_state g third)).frame) numbers
    ∙ filled_is to more (told_state g third) in
    let counts : IsCounted (suc more) = few_count (suc more) (omega (arith, to_few)) in
    record {
      after = moved g third size target source;
      falls = subst (λ (n : ℕ). FallOn g (points from ∷ points to ∷ constant (pos (4 * n)) ∷ operates MOVE ∷ []) s
          (moved g third size target source)) (sym counts)
          (fall_both (addresses_are_known g from s (few_counted from (omega (arith, from_few)))
          (omega (arith, from_few)))
          (fall_both (addresses_are_known g to first (few_counted to (omega (arith, to_few))) (omega (arith, to_few)))
          (fall_both (constants_are_known g size second)
          (moved_bytes_are_known g size target source third (record {
            counts = constant_count size;
            comes_to = exact_is to (omega (arith, to_few));
            comes_from = exact_is from (omega (arith, from_few));
            some = no_zero (4 * suc more) (omega arith);
            fits = and_from _ _ (movable (4 * suc more) (omega (arith, to_few))) (any_is_taken g to);
            reads = may_read_all g from more may.reads;
            writes = may_write_all g to more may.writes;
            apart = ap (may_come size source target) numbers ∙ blocks_apart (suc more) from to may.apart;
          })))));
      there = λ n less. subst (λ (f : Facts). IsNumber f (to + n) full) (sym left)
          (filled_there to (suc more) n s.frame less);
      others = λ k away whole.
          ap (λ (f : Facts). f (pos k)) left ∙ filled_others to (suc more) k s.frame away whole;
    }

pub moved_words_are_known : MovedWordsAreKnown
moved_words_are_known g zero from to s may = let some = may.some in absurd (omega (arith, some))
moved_words_are_known g (suc more) from to s may = moved_by g from to more s may
