-- What the code of elements leaves known.
use Rattle.std.proofs.Common.{◌≡◌, ℕ, zero, suc, ◌+◌, ◌*◌, ◌/◌, ◌%◌, ◌-◌, ◌<◌, ◌≤◌, ℤ, pos, negsuc, ◌+ℤ◌, ◌-ℤ◌}
use Rattle.std.proofs.Common.{◌*ℤ◌}
use Rattle.std.proofs.Common.{◌≤ℤ◌, ◌<ℤ◌, nat_abs, Bool, true, false, cond, not, nat_eq, List, [], ◌∷◌, ◌++◌}
use Rattle.std.proofs.Common.{length}
use Rattle.std.proofs.Common.{Option, Some, Ok, Err, refl, sym, ap, subst, ◌∙◌, arith, append_assoc}
use Rattle.std.proofs.lemmas.Int.{ints}
use Rattle.std.proofs.lemmas.Bool.{and_from, eqb-true}
use Rattle.small_laws.proofs.Comparisons.{le-int_le}
use Rattle.word_arithmetic.specs.Range as ranges
use Rattle.word_arithmetic.specs.Range.{Ends, IsRange, full, bytes}
use Rattle.module_format.specs.declared.limits.TheConstants.{MAX_DATA_WORDS}
use Rattle.module_format.specs.declared.fact.Fact.TheVariants.{Unknown, Pointer, Number}
use Rattle.module_format.specs.declared.fact.Region.{Region}
use Rattle.module_format.specs.declared.fact.Region.TheVariants as regions
use Rattle.module_format.specs.declared.fact.Step.{Step}
use Rattle.module_format.specs.declared.fact.Step.TheVariants.{Byte, Word as WordStep}
use Rattle.certificate.specs.Rights.{may_read_word}
use Rattle.certificate.specs.Words.{all_words}
use Rattle.states.specs.declared.known.Known.{Known}
use Rattle.states.specs.declared.known.WordFact.{WordFact}
use Rattle.states.specs.declared.rule.Rule.TheVariants as rules
use Rattle.states.specs.declared.span.Together.{Together}
use Rattle.states.specs.Spans.{together}
use Rattle.states.specs.State.{Facts, known}
use Rattle.rulings.specs.declared.pointers.Pointed.{Pointed}
use Rattle.rulings.specs.Reach.{word_of_byte, words_touched, may_read_bytes, region_range}
use Rattle.rulings.specs.Pointers.{are_near, is_near, pointer_of, bounds_of, word_read, byte_read}
use Rattle.local_rules.specs.MemoryRules.{near_fact, words_at, words_behind, element_of, step_after}
use Rattle.local_rules.specs.WordRules.{number_in, word_as_known, known_constant}
use Rattle.occam_parser.specs.declared.tree.ValueType.{ValueType}
use Rattle.occam_parser.specs.declared.tree.ValueType.TheVariants as value_type
use Rattle.scalar_ranges.specs.declared.scope.ArrayKind.{ArrayKind}
use Rattle.scalar_ranges.specs.declared.scope.ArrayKind.TheVariants as arrays
use Rattle.scalar_ranges.specs.Entries.{Meaning, Array, Entry, meaning_in}
use Rattle.code_pieces.specs.declared.operations.TheConstants.{LOAD_BYTE, BYTE_SUBSCRIPT, WORD_SUBSCRIPT}
use Rattle.code_pieces.specs.Pieces.{Piece, TableAddress, operates, loads, points, constant, counted, word_after}
use Rattle.placed_code.specs.TablesInMemory.{ReadsTable}
use Rattle.line_pieces.specs.Homes as home
use Rattle.line_pieces.specs.Homes.{Home, Word, words_for}
use Rattle.line_pieces.specs.Expressions.{or_zero, before_offset, loads_at}
use Rattle.certified_lines.specs.StraightRules.{Setting, Told, FallOn, with_pushed}
use Rattle.certified_lines.specs.Instructions.{MayRead, word_pointer, with_a, with_result}
use Rattle.certified_lines.specs.Addresses.{told_state, MayReadBytes}
use Rattle.certified_lines.specs.Scopes.{Scene, IsNumber, AreKnownThere, HoldsScope, MayReadAll, HasTable}
use Rattle.certified_lines.specs.Scopes.{IsHousedThere, IsScope}
use Rattle.certified_lines.specs.Telling.{StayBefore, PushedFact}
use Rattle.certified_lines.specs.ElementLaws.{IsArray, Select, KnownWordsTell, WordsTell, KnownItemsTell, ItemsTell}
use Rattle.certified_lines.specs.ElementLaws.{KnownBytesTell, BytesTell}
use Rattle.certified_lines.proofs.StraightRules.{fall_both}
use Rattle.certified_lines.proofs.Instructions.{addresses_are_known, constants_are_known, tables_are_known}
use Rattle.certified_lines.proofs.Addresses.{selected_words_are_known, selected_bytes_are_known}
use Rattle.certified_lines.proofs.Addresses.{distant_words_are_known, loaded_bytes_are_known}
use Rattle.certified_lines.proofs.Arrays.{elements_are_numbers, spans_are_of_words, all_numbers}
use Rattle.certified_lines.proofs.Telling.{name_has, few_counted, word_tells, scopes_stay}
use Rattle.certified_lines.proofs.Telling.{like_of, like_both}
use Rattle.certified_lines.proofs.Ranges.{full_ranged}

-- ---- pointers that are near

pub near_is : (z : ℤ) → negsuc 16777215 ≤ℤ z → z ≤ℤ pos 16777216 → is_near z ≡ true
near_is z low high =
    and_from _ _ (le-int_le (negsuc 16777215) z low) (le-int_le z (pos 16777216) high)

pub both_near : (lo hi : ℤ) → negsuc 16777215 ≤ℤ lo → lo ≤ℤ pos 16777216 → negsuc 16777215 ≤ℤ hi
    → hi ≤ℤ pos 16777216 → are_near lo hi ≡ true
both_near lo hi a b c d = and_from _ _ (near_is lo a b) (near_is hi c d)

pub pointer_is : (region : Region) (lo hi : ℤ) (step : Step) → are_near lo hi ≡ true
    → pointer_of (Pointer region lo hi step)
    ≡ Ok (record { region = region; lo = lo; hi = hi; step = step })
unfolding pointer_of
pointer_is region lo hi step near =
    ap (λ (b : Bool). cond b (Ok (record { region = region; lo = lo; hi = hi; step = step })) (Err rules.Pointer)) near

near_made : (region : Region) (lo hi : ℤ) (step : Step) → are_near lo hi ≡ true
    → near_fact region lo hi step ≡ Ok (Pointer region lo hi step)
unfolding near_fact
near_made region lo hi step near =
    ap (λ (b : Bool). cond b (Ok (Pointer region lo hi step)) (Err rules.Pointer)) near

pub words_are_at : (region : Region) (lo hi low high : ℤ) → lo ≡ low → hi ≡ high → are_near low high ≡ true
    → words_at region lo hi ≡ Ok (record { region = region; lo = low; hi = high; step = WordStep })
unfolding words_at
words_are_at region lo hi low high p q near =
    (λ i. words_at region (p i) (q i))
    ∙ ap (λ (b : Bool). cond b (Ok (record { region = region; lo = low; hi = high; step = WordStep }))
    (Err rules.Pointer)) near

pub bounds_are : (r : Ends) → bounds_of (number_in r) ≡ Ok (record { lo = r.lo; hi = r.hi })
unfolding bounds_of
bounds_are r = refl

-- ---- which elements are selected

-- the numbers of the first element and of how many are behind it
pub record Selected (size : ℕ) (c : ℤ) (r : Ends) : Type 0 where
  pub first : ℕ
  pub more : ℕ
  pub lo : r.lo +ℤ c ≡ pos first
  pub hi : r.hi +ℤ c ≡ pos (first + more)
  pub inside : first + more < size

pub as_natural : (z : ℤ) → pos 0 ≤ℤ z → (n : ℕ) × (z ≡ pos n)
as_natural (pos n) low = (n, refl)
as_natural (negsuc n) low = absurd (omega (arith, ints, low))

pub selected : (size : ℕ) (c : ℤ) (r : Ends) → Select size c r → Selected size c r
selected size c r s =
    let order = s.ranged.ordered in
    let start = s.first in
    let end = s.last in
    let first = as_natural (r.lo +ℤ c) start in
    let first_is = first.1 in
    let more = as_natural (r.hi -ℤ r.lo) (omega (arith, ints, order)) in
    let more_is = more.1 in
    record {
      first = first.0;
      more = more.0;
      lo = first_is;
      hi = omega (arith, ints, first_is, more_is);
      inside = omega (arith, ints, first_is, more_is, end);
    }

-- ---- what is read

-- pieces lead to where A is a number in the range, in place of what this one was, and words are known as before
record Read (g : Setting) (ps : List Piece) (q : Ends) (before : Told) (below : Known) : Type 0 where
  after : Told
  falls : FallOn g ps before after
  a : after.stack.a.fact ≡ number_in q
  frame : after.frame ≡ before.frame
  b : after.stack.b ≡ below

-- pieces that leave words as they were, and then others
read_after : {g : Setting} {ps qs : List Piece} {q : Ends} {before k : Told} {below : Known} → FallOn g ps before k
    → k.frame ≡ before.frame → Read g qs q k below → Read g (ps ++ qs) q before below
read_after falls same read = record {
  after = read.after;
  falls = fall_both falls read.falls;
  a = read.a;
  frame = read.frame ∙ same;
  b = read.b;
}

-- behind a subscript
read_behind : (g : Setting) (ps qs : List Piece) (t : ℕ) (leaf small : Bool) (r q : Ends) (before : Told)
    → (p : PushedFact g ps t leaf small r before) → Read g qs q p.after p.after.stack.b
    → PushedFact g (ps ++ qs) t false small q before
read_behind g ps qs t leaf small r q before p read = record {
  after = read.after;
  falls = fall_both p.falls read.falls;
  a = read.a;
  stay = subst (λ (f : Facts). StayBefore t before.frame f) (sym read.frame) p.stay;
  below = λ is. like_both (p.below is) (like_of read.b);
  alone = λ is. absurd (cc is);
}

-- without one
read_alone : (g : Setting) (ps : List Piece) (t : ℕ) (small : Bool) (q : Ends) (before : Told)
    → Read g ps q before before.stack.a → PushedFact g ps t false small q before
read_alone g ps t small q before read = record {
  after = read.after;
  falls = read.falls;
  a = read.a;
  stay = λ k less whole. ap (λ (f : Facts). f (pos k)) read.frame;
  below = λ is. like_of read.b;
  alone = λ is. absurd (cc is);
}

-- the words that a number selects behind a word
pub element_words : (region : Region) (base : ℕ) (r : Ends) (lo hi : ℤ) → pos base +ℤ (pos 4 *ℤ r.lo) ≡ lo
    → pos base +ℤ (pos 4 *ℤ r.hi) ≡ hi → are_near lo hi ≡ true
    → element_of WordStep (record { region = region; lo = pos base; hi = pos base; step = WordStep })
    (record { lo = r.lo; hi = r.hi }) ≡ Ok (Pointer region lo hi WordStep)
unfolding element_of
element_words region base r lo hi p q near =
    (λ i. near_fact region (p i) (q i) WordStep) ∙ near_made region lo hi WordStep near

behind_words : (region : Region) (lo hi by low high : ℤ) → lo +ℤ by ≡ low → hi +ℤ by ≡ high → are_near low high ≡ true
    → words_behind by (record { region = region; lo = lo; hi = hi; step = WordStep })
    ≡ Ok (record { region = region; lo = low; hi = high; step = WordStep })
unfolding words_behind
behind_words region lo hi by low high p q near = words_are_at region (lo +ℤ by) (hi +ℤ by) low high p q near

-- Words from a base on, of a region where this may be read, and is a number in the range.
record HasWords (g : Setting) (region : Region) (base first more : ℕ) (q : Ends) (k : Told) : Type 0 where
  near : base + 4 * (first + more) ≤ 16777216
  reads : MayReadBytes g region (pos (base + 4 * first)) (pos (base + 4 * (first + more)) +ℤ pos 4)
  says : (s : Told) → s.frame ≡ k.frame
      → word_read g.contents (told_state g s) region (pos (base + 4 * first)) (pos (base + 4 * (first + more)))
      ≡ number_in q

module _ (g : Setting) (region : Region) (base size : ℕ) (few : base ≤ 1000000) (small : size ≤ 100000) (q : Ends)
    (k : Told) where
  abbrev pushed : Told
  pushed = with_pushed (known (Pointer region (pos base) (pos base) WordStep)) k

  base_near : are_near (pos base) (pos base) ≡ true
  base_near =
      both_near (pos base) (pos base) (omega (arith, ints)) (omega (arith, ints, few)) (omega (arith, ints))
      (omega (arith, ints, few))

  -- a word so many words behind the first one
  word_behind : (c : ℕ) → c < size → HasWords g region base c 0 q k → Read g (loads_at (pos c) ∷ []) q pushed k.stack.a
  word_behind c less words =
      let low : pos base +ℤ (pos 4 *ℤ pos c) ≡ pos (base + 4 * c) = omega (arith, ints) in
      let high : pos base +ℤ (pos 4 *ℤ pos c) ≡ pos (base + 4 * (c + 0)) = omega (arith, ints) in
      let there : Pointed = record {
        region = region;
        lo = pos (base + 4 * c);
        hi = pos (base + 4 * (c + 0));
        step = WordStep;
      } in
      let near = both_near (pos (base + 4 * c)) (pos (base + 4 * (c + 0))) (omega (arith, ints))
      (omega (arith, ints, few, small, less)) (omega (arith, ints)) (omega (arith, ints, few, small, less)) in
      let read = word_read g.contents (told_state g pushed) region (pos (base + 4 * c)) (pos (base + 4 * (c + 0))) in
      record {
        after = with_a (known read) pushed;
        falls = distant_words_are_known g (pos c) there pushed (record {
          from = record { region = region; lo = pos base; hi = pos base; step = WordStep };
          is = pointer_is region (pos base) (pos base) WordStep base_near;
          further = behind_words region (pos base) (pos base) (pos 4 *ℤ pos c) (pos (base + 4 * c))
              (pos (base + 4 * (c + 0))) low high near;
        }) words.reads;
        a = words.says pushed refl;
        frame = refl;
        b = refl;
      }

  -- A subscript below the address of the first word selects one of them, and a constant one further on.
  word_selected : (c : ℤ) (r : Ends) → k.stack.a.fact ≡ number_in r → Select size c r → (sel : Selected size c r)
      → HasWords g region base sel.first sel.more q k
      → Read g (operates WORD_SUBSCRIPT ∷ loads_at c ∷ []) q pushed k.stack.b
  word_selected c r is select sel words =
      let first = sel.first in
      let last = sel.first + sel.more in
      let lo_is = sel.lo in
      let hi_is = sel.hi in
      let inside = sel.inside in
      let c_low = select.low in
      let c_near = select.near in
      let lo : ℤ = pos base +ℤ (pos 4 *ℤ r.lo) in
      let hi : ℤ = pos base +ℤ (pos 4 *ℤ r.hi) in
      let near = both_near lo hi (omega (arith, ints, lo_is, c_near))
      (omega (arith, ints, lo_is, c_low, few, small, inside))
      (omega (arith, ints, hi_is, c_near)) (omega (arith, ints, hi_is, c_low, few, small, inside)) in
      let second : Told = with_result (known (Pointer region lo hi WordStep)) pushed in
      let there : Pointed = record {
        region = region;
        lo = pos (base + 4 * first);
        hi = pos (base + 4 * last);
        step = WordStep;
      } in
      let far = both_near (pos (base + 4 * first)) (pos (base + 4 * last)) (omega (arith, ints))
      (omega (arith, ints, few, small, inside)) (omega (arith, ints)) (omega (arith, ints, few, small, inside)) in
      let low : lo +ℤ (pos 4 *ℤ c) ≡ pos (base + 4 * first) = omega (arith, ints, lo_is) in
      let high : hi +ℤ (pos 4 *ℤ c) ≡ pos (base + 4 * last) = omega (arith, ints, hi_is) in
      let read = word_read g.contents (told_state g second) region (pos (base + 4 * first)) (pos (base + 4 * last)) in
      record {
        after = with_a (known read) second;
        falls = fall_both
            (selected_words_are_known g (record { lo = r.lo; hi = r.hi })
            (record { region = region; lo = pos base; hi = pos base; step = WordStep }) (Pointer region lo hi WordStep)
            pushed (ap bounds_of is ∙ bounds_are r) (pointer_is region (pos base) (pos base) WordStep base_near)
            (element_words region base r lo hi refl refl near))
            (distant_words_are_known g c there second (record {
              from = record { region = region; lo = lo; hi = hi; step = WordStep };
              is = pointer_is region lo hi WordStep near;
              further = behind_words region lo hi (pos 4 *ℤ c) (pos (base + 4 * first)) (pos (base + 4 * last)) low high
                  far;
            }) words.reads);
        a = words.says second refl;
        frame = refl;
        b = refl;
      }

-- ---- words of the frame

-- a test that each of some words passes
pub all_pass : (test : ℤ → Bool) (first count : ℕ) → ((n : ℕ) → n < count → test (pos (first + n)) ≡ true)
    → all_words test (pos first) count ≡ true
all_pass test first zero each = refl
all_pass test first (suc more) each =
    and_from _ _ (each more (omega arith)) (all_pass test first more (λ n less. each n (omega (arith, less))))

-- words that may each be read may be read together
reads_all : (g : Setting) (first count : ℕ) → MayReadAll g first count
    → all_words (may_read_word g.contents g.context) (pos first) count ≡ true
reads_all g first count may = all_pass (may_read_word g.contents g.context) first count may

regroup : (a b c : ℕ) → a + (b + c) ≡ a + b + c
regroup a b c = omega arith

some_of : (g : Setting) (word count first more : ℕ) → first + more < count → MayReadAll g word count
    → MayReadAll g (word + first) (suc more)
some_of g word count first more inside may n less =
    subst (λ (k : ℕ). MayRead g k) (regroup word first n) (may (first + n) (omega (arith, inside, less)))

words_readable : (g : Setting) (word count first more : ℕ) → first + more < count → MayReadAll g word count
    → MayReadBytes g regions.Frame (pos (4 * word + 4 * first)) (pos (4 * word + 4 * (first + more)) +ℤ pos 4)
unfolding may_read_bytes
words_readable g word count first more inside may =
    let start : 4 * word + 4 * first ≡ 4 * (word + first) = omega arith in
    let end : 4 * word + 4 * (first + more) ≡ 4 * ((word + first) + more) = omega arith in
    let test : ℤ → Bool = may_read_word g.contents g.context in
    (λ i. all_words test (word_of_byte (pos (start i))) (words_touched (pos (start i)) (pos (end i) +ℤ pos 4)))
    ∙ ((λ i. all_words test (spans_are_of_words.first (word + first) i)
    (spans_are_of_words.touched (word + first) more i))
    ∙ reads_all g (word + first) (suc more) (some_of g word count first more inside may))

words_say : (g : Setting) (word count first more : ℕ) (s : Told) → first + more < count
    → ((n : ℕ) → n < count → IsNumber s.frame (word + n) full)
    → word_read g.contents (told_state g s) regions.Frame (pos (4 * word + 4 * first))
    (pos (4 * word + 4 * (first + more))) ≡ number_in full
words_say g word count first more s inside known =
    let start : 4 * word + 4 * first ≡ 4 * (word + first) = omega arith in
    let end : 4 * word + 4 * (first + more) ≡ 4 * ((word + first) + more) = omega arith in
    (λ i. word_read g.contents (told_state g s) regions.Frame (pos (start i)) (pos (end i)))
    ∙ elements_are_numbers g.contents (told_state g s) full (word + first) more full_ranged
    (λ n up. subst (λ (k : ℕ). IsNumber s.frame k full) (regroup word first n)
    (known (first + n) (omega (arith, inside, up))))

has_words : (g : Setting) (word count first more : ℕ) (k : Told) → word + count ≤ MAX_DATA_WORDS → first + more < count
    → MayReadAll g word count → ((n : ℕ) → n < count → IsNumber k.frame (word + n) full)
    → HasWords g regions.Frame (4 * word) first more full k
has_words g word count first more k few inside may known = record {
  near = omega (arith, few, inside);
  reads = words_readable g word count first more inside may;
  says = λ s same. words_say g word count first more s inside
      (λ n less. subst (λ (f : Facts). IsNumber f (word + n) full) (sym same) (known n less));
}

-- ---- arrays of words

-- what is known of an array in the frame
record IsKnownArray (g : Scene) (w count : ℕ) (s : Told) : Type 0 where
  few : w + count ≤ MAX_DATA_WORDS
  reads : MayReadAll g.setting w count
  known : (n : ℕ) → n < count → IsNumber s.frame (w + n) full

-- an array in the frame has words before the first free one, which may be read
pub array_housed : (g : Scene) (top : ℕ) (es : List Entry) (name : List ℕ) (type : ValueType) (size w : ℕ)
    (range : Ends) → IsScope g top es → (x : IsArray g es name type (Word w) size range)
    → IsHousedThere g top (Some (Word w)) (Array x.kind type (Some size) range)
array_housed g top es name type size w range scope x =
    let k : Meaning = Array x.kind type (Some size) range in
    subst (λ (o : Option Home). IsHousedThere g top o k) x.at
    (name_has (IsHousedThere g top) g.homes es name k scope.housed x.means)

-- and each of them is any number
pub array_numbers : (g : Scene) (es : List Entry) (name : List ℕ) (type : ValueType) (size w : ℕ) (range : Ends)
    (f : Facts) → IsArray g es name type (Word w) size range → HoldsScope g es f → (n : ℕ) → n < words_for type size
    → IsNumber f (w + n) full
array_numbers g es name type size w range f x holds =
    let k : Meaning = Array x.kind type (Some size) range in
    subst (λ (o : Option Home). AreKnownThere g f o k) x.at
    (name_has (AreKnownThere g f) g.homes es name k holds x.means)

array_known : (g : Scene) (top w size : ℕ) (es : List Entry) (name : List ℕ) (type : ValueType) (range : Ends)
    (s : Told) → IsScope g top es → IsArray g es name type (Word w) size range → HoldsScope g es s.frame
    → IsKnownArray g w (words_for type size) s
array_known g top w size es name type range s scope array holds =
    let housed = array_housed g top es name type size w range scope array in
    let ends = housed.1 in
    let few = scope.few in
    record {
      few = omega (arith, ends, few);
      reads = housed.2;
      known = array_numbers g es name type size w range s.frame array holds;
    }

-- a word so many words further is one of the frame
pub word_is : (word count : ℕ) → word + count < MAX_DATA_WORDS → word_after word count ≡ word + count
unfolding word_after counted
word_is word count few = omega (arith, few)

below_size : (c size : ℕ) → pos c <ℤ pos size → c < size
below_size c size less = omega (arith, ints, less)

number_told : (g : Setting) (t word : ℕ) (leaf small : Bool) (r : Ends) (s : Told) → word < MAX_DATA_WORDS
    → MayRead g word → IsNumber s.frame word r → PushedFact g (loads word ∷ []) t leaf small r s
number_told g t word leaf small r s few may is =
    word_tells g t word leaf small r s few may (ap (λ (w : WordFact). (word_as_known (pos word) w).fact) is)

pub known_words_tell : KnownWordsTell
known_words_tell g top t w c size es name range s leaf small scope array less told holds =
    let here = array_known g top w size es name value_type.Int range told scope array holds in
    let inside = below_size c size less in
    let few = here.few in
    let there : w + c < MAX_DATA_WORDS = omega (arith, few, inside) in
    subst (λ (n : ℕ). PushedFact g.setting (loads n ∷ []) t leaf small full told) (sym (word_is w c there))
    (number_told g.setting t (w + c) leaf small full told there (here.reads c inside) (here.known c inside))

pub words_tell : WordsTell
words_tell g top t w size es name range r s leaf small scope low array select tells told holds =
    let first = tells told holds in
    let k = first.after in
    let kept = scopes_stay g top t es told.frame k.frame scope low first.stay holds in
    let here = array_known g top w size es name value_type.Int range k scope array kept in
    let sel = selected size (or_zero s.offset) r select in
    let inside = sel.inside in
    let few = here.few in
    let one = word_selected g.setting regions.Frame (4 * w) size (omega (arith, few)) (omega (arith, few)) full k
    (or_zero s.offset) r first.a select sel
    (has_words g.setting w size sel.first sel.more k few inside here.reads here.known) in
    subst (λ (ps : List Piece). PushedFact g.setting ps t false small full told)
    (sym (append_assoc (before_offset s) (points w ∷ operates WORD_SUBSCRIPT ∷ []) (loads_at (or_zero s.offset) ∷ [])))
    (read_behind g.setting (before_offset s)
    (points w ∷ operates WORD_SUBSCRIPT ∷ loads_at (or_zero s.offset) ∷ []) t leaf small r full told first
    (read_after (addresses_are_known g.setting w k (few_counted w (omega (arith, few, inside)))
    (omega (arith, few, inside))) refl one))

-- ---- tables

table_readable : (g : Setting) (lo hi : ℕ) → hi + 4 ≤ length g.contents.constants
    → MayReadBytes g regions.Constants (pos lo) (pos hi +ℤ pos 4)
unfolding may_read_bytes
table_readable g lo hi up =
    and_from _ _ (le-int_le (pos 0) (pos lo) (omega (arith, ints)))
    (le-int_le (pos hi +ℤ pos 4) (pos (length g.contents.constants)) (omega (arith, ints, up)))

table_says : (g : Setting) (values : List ℤ) (q : Ends) (first more : ℕ) (s : Told) → HasTable g values q
    → first + more < length values
    → word_read g.contents (told_state g s) regions.Constants (pos (g.tables values + 4 * first))
    (pos (g.tables values + 4 * (first + more))) ≡ number_in q
unfolding word_read region_range
table_says g values q first more s table inside =
    ap number_in (table.says first (first + more) (omega arith) inside)

-- the words of a table that is there
table_words : (g : Setting) (values : List ℤ) (q : Ends) (first more : ℕ) (k : Told) → HasTable g values q
    → first + more < length values → HasWords g regions.Constants (g.tables values) first more q k
table_words g values q first more k table inside =
    let lies = table.inside in
    let few = table.few in
    record {
      near = omega (arith, lies, few, inside);
      reads = table_readable g (g.tables values + 4 * first) (g.tables values + 4 * (first + more))
          (omega (arith, lies, inside));
      says = λ s same. table_says g values q first more s table inside;
    }

table_of : (g : Scene) (top size : ℕ) (es : List Entry) (name : List ℕ) (type : ValueType) (values : List ℤ)
    (range : Ends) → IsScope g top es → IsArray g es name type (home.Table values) size range
    → ReadsTable g.pieces values → HasTable g.setting values range × (length values ≡ size)
table_of g top size es name type values range scope array reads = by_kind array.kind array.means
  where
    by_kind : (kind : ArrayKind) → meaning_in name es ≡ Some (Array kind type (Some size) range)
        → HasTable g.setting values range × (length values ≡ size)
    by_kind arrays.Table means =
        let housed = subst (λ (o : Option Home). IsHousedThere g top o (Array arrays.Table type (Some size) range))
        array.at (name_has (IsHousedThere g top) g.homes es name (Array arrays.Table type (Some size) range)
        scope.housed means) in
        (housed.2 reads, housed.1)
    by_kind arrays.Variable means =
        absurd (subst (λ (o : Option Home). IsHousedThere g top o (Array arrays.Variable type (Some size) range))
        array.at (name_has (IsHousedThere g top) g.homes es name (Array arrays.Variable type (Some size) range)
        scope.housed means))
    by_kind arrays.Value means =
        absurd (subst (λ (o : Option Home). IsHousedThere g top o (Array arrays.Value type (Some size) range))
        array.at (name_has (IsHousedThere g top) g.homes es name (Array arrays.Value type (Some size) range)
        scope.housed means))

pub known_items_tell : KnownItemsTell
known_items_tell g top t c size es name type values range s small scope array reads less told holds =
    let table = table_of g top size es name type values range scope array reads in
    let long = table.1 in
    let lies = table.0.inside in
    let few = table.0.few in
    let inside = below_size c size less in
    let one = word_behind g.setting regions.Constants (g.setting.tables values) size (omega (arith, lies, few))
    (omega (arith, lies, few, long)) range told c inside
    (table_words g.setting values range c 0 told table.0 (omega (arith, inside, long))) in
    read_alone g.setting (TableAddress values ∷ loads_at (pos c) ∷ []) t small range told
    (read_after (tables_are_known g.setting values told) refl one)

pub items_tell : ItemsTell
items_tell g top t size es name type values range r s leaf small scope low array reads select tells told holds =
    let first = tells told holds in
    let k = first.after in
    let table = table_of g top size es name type values range scope array reads in
    let long = table.1 in
    let lies = table.0.inside in
    let few = table.0.few in
    let sel = selected size (or_zero s.offset) r select in
    let inside = sel.inside in
    let one = word_selected g.setting regions.Constants (g.setting.tables values) size (omega (arith, lies, few))
    (omega (arith, lies, few, long)) range k (or_zero s.offset) r first.a select sel
    (table_words g.setting values range sel.first sel.more k table.0 (omega (arith, inside, long))) in
    read_behind g.setting (before_offset s)
    (TableAddress values ∷ operates WORD_SUBSCRIPT ∷ loads_at (or_zero s.offset) ∷ []) t leaf small r range told first
    (read_after (tables_are_known g.setting values k) refl one)

-- ---- bytes

-- the words that have the bytes from one to another
pub bytes_touched : (first last : ℕ) → first ≤ last → words_touched (pos first) (pos last +ℤ pos 1)
    ≡ suc (last / 4 - first / 4)
bytes_touched first last up =
    let end : pos last +ℤ pos 1 -ℤ pos 1 ≡ pos last = omega (arith, ints) in
    let apart : pos (last / 4) -ℤ pos (first / 4) ≡ pos (last / 4 - first / 4) = omega (arith, ints, up) in
    let more : last / 4 - first / 4 + 1 ≡ suc (last / 4 - first / 4) = omega arith in
    ap (λ (z : ℤ). nat_abs (word_of_byte z -ℤ word_of_byte (pos first)) + 1) end
    ∙ (ap (λ (z : ℤ). nat_abs z + 1) apart ∙ more)

-- words behind one are so many behind the first one of all
from_first : (w v n : ℕ) → w ≤ v → w + (v - w + n) ≡ v + n
from_first w v n up = omega (arith, up)

bytes_readable : (g : Setting) (w count first last : ℕ) → first ≤ last → 4 * w ≤ first → last < 4 * (w + count)
    → MayReadAll g w count → MayReadBytes g regions.Frame (pos first) (pos last +ℤ pos 1)
unfolding may_read_bytes
bytes_readable g w count first last up low high may =
    ap (λ (n : ℕ). all_words (may_read_word g.contents g.context) (pos (first / 4)) n) (bytes_touched first last up)
    ∙ reads_all g (first / 4) (suc (last / 4 - first / 4))
    (λ n less. subst (λ (k : ℕ). MayRead g k) (from_first w (first / 4) n (omega (arith, low)))
    (may (first / 4 - w + n) (omega (arith, up, low, high, less))))

bytes_say : (g : Setting) (w count first last : ℕ) (s : Told) → first ≤ last → 4 * w ≤ first → last < 4 * (w + count)
    → ((n : ℕ) → n < count → IsNumber s.frame (w + n) full)
    → byte_read (told_state g s) regions.Frame (pos first) (pos last) ≡ number_in bytes
unfolding byte_read
bytes_say g w count first last s up low high known =
    let all = all_numbers full s.frame (first / 4) (last / 4 - first / 4) full_ranged
    (λ n less. subst (λ (k : ℕ). IsNumber s.frame k full) (from_first w (first / 4) n (omega (arith, low)))
    (known (first / 4 - w + n) (omega (arith, up, low, high, less)))) in
    ap (λ (t : Together). cond (not t.are_numbers) Unknown (Number (pos 0) (pos 255)))
    (ap (λ (n : ℕ). together s.frame (pos (first / 4)) n) (bytes_touched first last up) ∙ all)

-- the bytes that a number selects behind one
pub element_bytes : (base : ℕ) (r : Ends) (lo hi : ℤ) → pos base +ℤ r.lo ≡ lo → pos base +ℤ r.hi ≡ hi
    → are_near lo hi ≡ true
    → element_of Byte (record { region = regions.Frame; lo = pos base; hi = pos base; step = WordStep })
    (record { lo = r.lo; hi = r.hi })
    ≡ Ok (Pointer regions.Frame lo hi (step_after WordStep (record { lo = r.lo; hi = r.hi })))
unfolding element_of
element_bytes base r lo hi p q near =
    (λ i. near_fact regions.Frame (p i) (q i) (step_after WordStep (record { lo = r.lo; hi = r.hi })))
    ∙ near_made regions.Frame lo hi (step_after WordStep (record { lo = r.lo; hi = r.hi })) near

module _ (g : Scene) (w count : ℕ) (k : Told) (array : IsKnownArray g w count k) where
  -- the bytes from one to another where a pointer leads
  bytes_loaded : (s : Told) (first last : ℕ) (step : Step) → s.frame ≡ k.frame → first ≤ last → 4 * w ≤ first
      → last < 4 * (w + count) → s.stack.a.fact ≡ Pointer regions.Frame (pos first) (pos last) step
      → Read g.setting (operates LOAD_BYTE ∷ []) bytes s s.stack.b
  bytes_loaded s first last step same up low high is =
      let few = array.few in
      let near = both_near (pos first) (pos last) (omega (arith, ints)) (omega (arith, ints, up, high, few))
      (omega (arith, ints)) (omega (arith, ints, high, few)) in
      record {
        after = with_a (known (byte_read (told_state g.setting s) regions.Frame (pos first) (pos last))) s;
        falls = loaded_bytes_are_known g.setting
            (record { region = regions.Frame; lo = pos first; hi = pos last; step = step }) s
            (ap pointer_of is ∙ pointer_is regions.Frame (pos first) (pos last) step near)
            (bytes_readable g.setting w count first last up low high array.reads);
        a = bytes_say g.setting w count first last s up low high
            (λ n less. subst (λ (f : Facts). IsNumber f (w + n) full) (sym same) (array.known n less));
        frame = refl;
        b = refl;
      }

  -- a subscript below the address of a word selects a byte from there on
  byte_selected : (base : ℕ) (r : Ends) (s : Told) (first last : ℕ) → s.frame ≡ k.frame → s.stack.b.fact ≡ number_in r
      → s.stack.a.fact ≡ word_pointer base → pos (4 * base) +ℤ r.lo ≡ pos first → pos (4 * base) +ℤ r.hi ≡ pos last
      → base < MAX_DATA_WORDS → first ≤ last → 4 * w ≤ first → last < 4 * (w + count)
      → Read g.setting (operates BYTE_SUBSCRIPT ∷ operates LOAD_BYTE ∷ []) bytes s s.stack.c
  byte_selected base r s first last same b a lo hi small up low high =
      let few = array.few in
      let near = both_near (pos first) (pos last) (omega (arith, ints)) (omega (arith, ints, up, high, few))
      (omega (arith, ints)) (omega (arith, ints, high, few)) in
      let start = both_near (pos (4 * base)) (pos (4 * base)) (omega (arith, ints)) (omega (arith, ints, small))
      (omega (arith, ints)) (omega (arith, ints, small)) in
      let step = step_after WordStep (record { lo = r.lo; hi = r.hi }) in
      let second : Told = with_result (known (Pointer regions.Frame (pos first) (pos last) step)) s in
      let one = bytes_loaded second first last step same up low high refl in
      read_after
      (selected_bytes_are_known g.setting (record { lo = r.lo; hi = r.hi })
      (record { region = regions.Frame; lo = pos (4 * base); hi = pos (4 * base); step = WordStep })
      (Pointer regions.Frame (pos first) (pos last) step) s (ap bounds_of b ∙ bounds_are r)
      (ap pointer_of a ∙ pointer_is regions.Frame (pos (4 * base)) (pos (4 * base)) WordStep start)
      (element_bytes (4 * base) r (pos first) (pos last) lo hi near)) refl one

bytes_inside : (size j : ℕ) → j < size → j < 4 * words_for value_type.Byte size
bytes_inside size j less = omega (arith, less)

pub bytes_tell : BytesTell
bytes_tell g top t w size es name range r s leaf small scope low array select tells told holds =
    let first = tells told holds in
    let k = first.after in
    let kept = scopes_stay g top t es told.frame k.frame scope low first.stay holds in
    let count = words_for value_type.Byte size in
    let here = array_known g top w size es name value_type.Byte range k scope array kept in
    let sel = selected size (pos 0) r select in
    let few = here.few in
    let lo_is = sel.lo in
    let hi_is = sel.hi in
    let inside = bytes_inside size (sel.first + sel.more) sel.inside in
    let one = byte_selected g w count k here w r (with_pushed (known (word_pointer w)) k) (4 * w + sel.first)
    (4 * w + (sel.first + sel.more)) refl first.a refl (omega (arith, ints, lo_is)) (omega (arith, ints, hi_is))
    (omega (arith, few, inside)) (omega arith) (omega arith) (omega (arith, inside)) in
    subst (λ (ps : List Piece). PushedFact g.setting ps t false small bytes told)
    (sym (append_assoc s.whole (points w ∷ operates BYTE_SUBSCRIPT ∷ []) (operates LOAD_BYTE ∷ [])))
    (read_behind g.setting s.whole (points w ∷ operates BYTE_SUBSCRIPT ∷ operates LOAD_BYTE ∷ []) t leaf small r bytes
    told first
    (read_after (addresses_are_known g.setting w k (few_counted w (omega (arith, few, inside)))
    (omega (arith, few, inside))) refl one))

known_byte_by : (test : Bool) (g : Scene) (w count n t : ℕ) (small : Bool) (told : Told) → nat_eq (n % 4) 0 ≡ test
    → n < 4 * count → IsKnownArray g w count told
    → PushedFact g.setting (cond test (points (word_after w (n / 4)) ∷ [])
    (constant (pos (n % 4)) ∷ points (word_after w (n / 4)) ∷ operates BYTE_SUBSCRIPT ∷ []) ++ operates LOAD_BYTE ∷ [])
    t false small bytes told
known_byte_by true g w count n t small told test inside array =
    let even = eqb-true (n % 4) 0 test in
    let few = array.few in
    let word = w + n / 4 in
    let here : word < MAX_DATA_WORDS = omega (arith, few, inside) in
    let one = bytes_loaded g w count told array (with_pushed (known (word_pointer word)) told) (4 * word) (4 * word)
    WordStep refl (omega arith) (omega arith) (omega (arith, inside)) refl in
    subst (λ (a : ℕ). PushedFact g.setting (points a ∷ operates LOAD_BYTE ∷ []) t false small bytes told)
    (sym (word_is w (n / 4) here))
    (read_alone g.setting (points word ∷ operates LOAD_BYTE ∷ []) t small bytes told
    (read_after (addresses_are_known g.setting word told (few_counted word here) (omega (arith, here))) refl one))
known_byte_by false g w count n t small told test inside array =
    let few = array.few in
    let word = w + n / 4 in
    let byte = n % 4 in
    let here : word < MAX_DATA_WORDS = omega (arith, few, inside) in
    let place : pos (4 * word) +ℤ pos byte ≡ pos (4 * w + n) = omega (arith, ints) in
    let first : Told = with_pushed (known_constant (pos byte)) told in
    let one = byte_selected g w count told array word (ranges.constant (pos byte))
    (with_pushed (known (word_pointer word)) first) (4 * w + n) (4 * w + n) refl refl refl place place here
    (omega arith) (omega arith) (omega (arith, inside)) in
    subst (λ (a : ℕ). PushedFact g.setting (constant (pos byte) ∷ points a ∷ operates BYTE_SUBSCRIPT
    ∷ operates LOAD_BYTE ∷ []) t false small bytes told) (sym (word_is w (n / 4) here))
    (read_alone g.setting
    (constant (pos byte) ∷ points word ∷ operates BYTE_SUBSCRIPT ∷ operates LOAD_BYTE ∷ []) t small bytes told
    (read_after (constants_are_known g.setting (pos byte) told) refl
    (read_after (addresses_are_known g.setting word first (few_counted word here) (omega (arith, here))) refl one)))

pub known_bytes_tell : KnownBytesTell
known_bytes_tell g top t w c size es name range s small scope array less told holds =
    known_byte_by (nat_eq (c % 4) 0) g w (words_for value_type.Byte size) c t small told refl
    (bytes_inside size c (below_size c size less))
    (array_known g top w size es name value_type.Byte range told scope array holds)
