-- Sets of numbers with the numbers of a word more, and words one after another.
use Rattle.std.proofs.Common.{◌≡◌, ℕ, ◌+◌, ◌*◌, ◌/◌, ◌%◌, ◌<◌, Bool, true, false, cond, ◌&&◌, ◌||◌, not, List, [], ◌∷◌}
use Rattle.std.proofs.Common.{◌^◌, Some, nat_eq, refl, sym, ap, ◌∙◌, arith, inl, inr, eq-eqb, eqb-true}
use Rattle.std.specs.BTreeMap.{is_at}
use Rattle.std.specs.Int.RustNames.{bit_or, bit_and}
use Rattle.std.specs.List.{list_any, AllByRecursion}
use Rattle.std.specs.List.Sorted.{IsStrictlySortedBy}
use Rattle.std.specs.Map.{lookup, keys_of}
use Rattle.std.specs.Option.{unwrap_or}
use Rattle.std.specs.Ordering.{nat_cmp}
use Rattle.std.specs.declared.cmp.Ordering.TheVariants.{Less}
use Rattle.std.proofs.lemmas.Bool.{or_cases, or_left, or_right, and_parts, ne_eqb}
use Rattle.std.proofs.lemmas.Bool.Decides.{nat_tests}
use Rattle.std.proofs.Math.Bool.{or_assoc, or-false}
use Rattle.small_laws.proofs.Comparisons.{eqb_comm}
use Rattle.program_uses.specs.declared.numbers.Numbers.{Numbers}
use Rattle.program_uses.specs.Numbers.{stored, word_at, has_number, Meets}
use Rattle.program_uses.specs.Words.{has_bit, HasBelow}
use Rattle.program_uses.proofs.Words.{has_none, has_either, has_both, has_one}

more_if : (t : Bool) (a word p : ℕ) → has_bit (cond t (bit_or a word) a) p ≡ (has_bit a p || (t && has_bit word p))
more_if true a word p = has_either a word p
more_if false a word p = sym (or-false (has_bit a p))

pub nothing_either : (t : Bool) (p : ℕ) → has_bit (cond t 0 0) p ≡ false
nothing_either true p = has_none p
nothing_either false p = has_none p

-- what a set has after the numbers of a word more
pub has_word : (s t : Numbers) (block word : ℕ)
    → ((q : ℕ) → word_at t q ≡ cond (nat_eq block q) (bit_or (word_at s q) word) (word_at s q))
    → (n : ℕ) → has_number t n ≡ (has_number s n || (nat_eq (n / 64) block && has_bit word (n % 64)))
has_word s t block word h n =
    ap (λ w. has_bit w (n % 64)) (h (n / 64)) ∙ more_if (nat_eq block (n / 64)) (word_at s (n / 64)) word (n % 64)
    ∙ ap (λ t. has_number s n || (t && has_bit word (n % 64))) (eqb_comm block (n / 64))

same_place : (m n : ℕ) → (nat_eq (n / 64) (m / 64) && nat_eq (n % 64) (m % 64)) ≡ nat_eq n m
same_place m n = grind (arith, nat_tests)

pub has_one_more : (s t : Numbers) (m : ℕ)
    → ((q : ℕ) → word_at t q
    ≡ cond (nat_eq (m / 64) q) (bit_or (word_at s q) (1 * 2 ^ (m % 64) % 2 ^ 64)) (word_at s q))
    → (n : ℕ) → has_number t n ≡ (has_number s n || nat_eq n m)
has_one_more s t m h n =
    has_word s t (m / 64) (1 * 2 ^ (m % 64) % 2 ^ 64) h n
    ∙ ap (λ b. has_number s n || (nat_eq (n / 64) (m / 64) && b)) (has_one (m % 64) (n % 64) (omega arith))
    ∙ ap (λ b. has_number s n || b) (same_place m n)

-- ---- words one after another

-- a number by its block and its place there
abbrev pub among_words : List (ℕ × ℕ) → ℕ → ℕ → Bool
among_words es q p = list_any (λ (e : ℕ × ℕ). nat_eq q e.0 && has_bit e.1 p) es

is_at_number : (m n : ℕ) → is_at (nat_cmp m) n ≡ nat_eq m n
is_at_number m n = grind (arith, nat_tests)

none_above : (es : List (ℕ × ℕ)) (k q p : ℕ) → AllByRecursion (λ y. nat_cmp k y ≡ Less) (keys_of es)
    → nat_eq q k ≡ true → among_words es q p ≡ false
none_above [] k q p above same = refl
none_above (e ∷ es) k q p above same =
    let apart : nat_eq q e.0 ≡ false = (let less = above.0 in grind (arith, nat_tests)) in
    ap (λ t. (t && has_bit e.1 p) || among_words es q p) apart ∙ none_above es k q p above.1 same

first_or : (t : Bool) (q p : ℕ) (e : ℕ × ℕ) (es : List (ℕ × ℕ)) → nat_eq q e.0 ≡ t
    → (t ≡ true → among_words es q p ≡ false)
    → among_words es q p ≡ has_bit (unwrap_or (lookup (is_at (nat_cmp q)) es) 0) p
    → ((t && has_bit e.1 p) || among_words es q p)
    ≡ has_bit (unwrap_or (cond t (Some e.1) (lookup (is_at (nat_cmp q)) es)) 0) p
first_or true q p e es is none rest = ap (λ b. has_bit e.1 p || b) (none refl) ∙ or-false (has_bit e.1 p)
first_or false q p e es is none rest = rest

pub by_block : (es : List (ℕ × ℕ)) → IsStrictlySortedBy nat_cmp (keys_of es)
    → (q p : ℕ) → among_words es q p ≡ has_bit (unwrap_or (lookup (is_at (nat_cmp q)) es) 0) p
unfolding IsStrictlySortedBy
by_block [] up q p = sym (has_none p)
by_block (e ∷ es) up q p =
    first_or (nat_eq q e.0) q p e es refl (λ same. none_above es e.0 q p up.0 same) (by_block es up.1 q p)
    ∙ ap (λ t. has_bit (unwrap_or (cond t (Some e.1) (lookup (is_at (nat_cmp q)) es)) 0) p)
    (sym (is_at_number q e.0))

-- ---- the numbers of another set more

in_parts : (t : Bool) (word other p : ℕ) (x : Bool) → x ≡ has_bit other p
    → has_bit (cond t word other) p ≡ ((t && has_bit word p) || (not t && x))
in_parts true word other p x is = sym (or-false (has_bit word p))
in_parts false word other p x is = sym is

-- the word that was added to last, and the others
by_words : (s : Numbers) → IsStrictlySortedBy nat_cmp (keys_of s.words.entries) → (n : ℕ)
    → has_number s n ≡ ((nat_eq s.block (n / 64) && has_bit s.word (n % 64))
    || (not (nat_eq s.block (n / 64)) && among_words s.words.entries (n / 64) (n % 64)))
by_words s up n =
    in_parts (nat_eq s.block (n / 64)) s.word (stored s (n / 64)) (n % 64)
    (among_words s.words.entries (n / 64) (n % 64)) (by_block s.words.entries up (n / 64) (n % 64))

-- With the words that are left a set has what it will have in the end, but for the word that was added before them.
pub record WordsLeft (s t other : Numbers) (rest : List (ℕ × ℕ)) : Type 0 where
  pub left : (n : ℕ)
      → (has_number t n || (not (nat_eq other.block (n / 64)) && among_words rest (n / 64) (n % 64)))
      ≡ (has_number s n || has_number other n)

nothing_more : (a t b : Bool) → b ≡ false → a ≡ (a || (t && b))
nothing_more true t b is = refl
nothing_more false true b is = sym is
nothing_more false false b is = refl

pub no_word : (s other : Numbers) → other.word ≡ 0
    → (n : ℕ) → has_number s n ≡ (has_number s n || (nat_eq (n / 64) other.block && has_bit other.word (n % 64)))
no_word s other is n =
    nothing_more (has_number s n) (nat_eq (n / 64) other.block) (has_bit other.word (n % 64))
    (ap (λ w. has_bit w (n % 64)) is ∙ has_none (n % 64))

pub left_first : (s t other : Numbers) (rest : List (ℕ × ℕ))
    → ((n : ℕ) → has_number t n ≡ (has_number s n || (nat_eq (n / 64) other.block && has_bit other.word (n % 64))))
    → rest ≡ other.words.entries → IsStrictlySortedBy nat_cmp (keys_of other.words.entries)
    → WordsLeft s t other rest
left_first s t other rest one all up = record {
  left = λ n.
      let others = λ (es : List (ℕ × ℕ)). not (nat_eq other.block (n / 64)) && among_words es (n / 64) (n % 64) in
      ap (λ b. b || others rest) (one n)
      ∙ or_assoc (has_number s n) (nat_eq (n / 64) other.block && has_bit other.word (n % 64)) (others rest)
      ∙ ap (λ t. has_number s n || ((t && has_bit other.word (n % 64)) || others rest)) (eqb_comm (n / 64) other.block)
      ∙ ap (λ es. has_number s n || ((nat_eq other.block (n / 64) && has_bit other.word (n % 64)) || others es)) all
      ∙ ap (λ b. has_number s n || b) (sym (by_words other up n));
}

taken : (a same here b y : Bool) → (same ≡ true → here ≡ false)
    → ((a || (same && b)) || (not here && y)) ≡ (a || (not here && ((same && b) || y)))
taken true same here b y h = refl
taken false false here b y h = refl
taken false true true b y h = absurd (let k = h refl in cc)
taken false true false b y h = refl

apart : (q block other : ℕ) → (block ≡ other → ⊥) → nat_eq q block ≡ true → nat_eq other q ≡ false
apart q block other ne same = grind (arith, nat_tests)

alike : (q block other : ℕ) → block ≡ other → nat_eq q block ≡ true → nat_eq other q ≡ true
alike q block other is same = grind (arith, nat_tests)

pub left_next : (s t w other : Numbers) (rest items : List (ℕ × ℕ)) (block word : ℕ) → rest ≡ (block, word) ∷ items
    → (block ≡ other.block → ⊥)
    → ((q : ℕ) → word_at w q ≡ cond (nat_eq block q) (bit_or (word_at t q) word) (word_at t q))
    → WordsLeft s t other rest → WordsLeft s w other items
left_next s t w other rest items block word is ne one before = record {
  left = λ n.
      ap (λ b. b || (not (nat_eq other.block (n / 64)) && among_words items (n / 64) (n % 64)))
      (has_word t w block word one n)
      ∙ taken (has_number t n) (nat_eq (n / 64) block) (nat_eq other.block (n / 64)) (has_bit word (n % 64))
      (among_words items (n / 64) (n % 64)) (apart (n / 64) block other.block ne)
      ∙ ap (λ es. has_number t n || (not (nat_eq other.block (n / 64)) && among_words es (n / 64) (n % 64))) (sym is)
      ∙ before.left n;
}

-- ---- numbers in common

-- Two sets have a number in common below this one only if it is among the words that are left of the first.
pub record LeftIn (count : ℕ) (s t : Numbers) (rest : List (ℕ × ℕ)) : Type 0 where
  pub found : (n : ℕ) → n < count → has_number s n ≡ true → has_number t n ≡ true
      → (nat_eq s.block (n / 64) ≡ false) × (among_words rest (n / 64) (n % 64) ≡ true)
  pub there : (q p : ℕ) → (s.block ≡ q → ⊥) → among_words rest q p ≡ true → has_bit (word_at s q) p ≡ true

one_block : (n block : ℕ) → nat_eq (n / 64) block ≡ true → 64 * block + n % 64 ≡ n
one_block n block e = grind (arith, nat_tests)

in_common : (count n block word beside : ℕ) (t : Numbers) → beside ≡ word_at t block → n < count
    → has_number t n ≡ true → (nat_eq (n / 64) block && has_bit word (n % 64)) ≡ true
    → HasBelow count block (bit_and word beside)
in_common count n block word beside t is h has one =
    let x = and_parts (nat_eq (n / 64) block) (has_bit word (n % 64)) one in
    let same : n / 64 ≡ block = eqb-true (n / 64) block x.0 in
    let whole = one_block n block x.0 in (
      n % 64,
      omega arith,
      omega arith,
      has_both word beside (n % 64) ∙ (λ i. x.1 i && (ap (λ w. has_bit w (n % 64)) is
          ∙ ap (λ q. has_bit (word_at t q) (n % 64)) (sym same) ∙ has) i),
    )

not_here : (t : Bool) (word other p : ℕ) → ((t && has_bit word p) ≡ true → ⊥) → has_bit (cond t word other) p ≡ true
    → (t ≡ false) × (has_bit other p ≡ true)
not_here true word other p none has = absurd (none has)
not_here false word other p none has = (refl, has)

elsewhere : (t : Bool) (word other p : ℕ) → t ≡ false → has_bit other p ≡ true → has_bit (cond t word other) p ≡ true
elsewhere true word other p ne has = absurd (let k = ne in cc)
elsewhere false word other p ne has = has

pub meets_first : (count beside : ℕ) (s t : Numbers) (rest : List (ℕ × ℕ)) → beside ≡ word_at t s.block
    → (HasBelow count s.block (bit_and s.word beside) → ⊥) → rest ≡ s.words.entries
    → IsStrictlySortedBy nat_cmp (keys_of s.words.entries) → LeftIn count s t rest
meets_first count beside s t rest found none all up = record {
  found = λ n h has others.
      let x = not_here (nat_eq s.block (n / 64)) s.word (stored s (n / 64)) (n % 64)
      (λ one. none (in_common count n s.block s.word beside t found h others
      (ap (λ b. b && has_bit s.word (n % 64)) (eqb_comm (n / 64) s.block) ∙ one))) has in
      (x.0, ap (λ es. among_words es (n / 64) (n % 64)) all ∙ by_block s.words.entries up (n / 64) (n % 64) ∙ x.1);
  there = λ q p ne h. elsewhere (nat_eq s.block q) s.word (stored s q) p (ne_eqb s.block q ne)
      (sym (by_block s.words.entries up q p) ∙ ap (λ es. among_words es q p) (sym all) ∙ h);
}

pub meets_next : (count : ℕ) (s t : Numbers) (rest items : List (ℕ × ℕ)) (block word beside : ℕ)
    → rest ≡ (block, word) ∷ items → beside ≡ word_at t block → (HasBelow count block (bit_and word beside) → ⊥)
    → LeftIn count s t rest → LeftIn count s t items
meets_next count s t rest items block word beside is found none left = record {
  found = λ n h has others. (let x = left.found n h has others in (
    x.0,
    elim (or_cases
        (nat_eq (n / 64) block && has_bit word (n % 64)) (among_words items (n / 64) (n % 64))
        (ap (λ es. among_words es (n / 64) (n % 64)) (sym is) ∙ x.1)) [
          | inl one ↦ absurd (none (in_common count n block word beside t found h others one))
          | inr e ↦ e
        ],
  ));
  there = λ q p ne h. left.there q p ne (ap (λ es. among_words es q p) is
      ∙ or_right (nat_eq q block && has_bit word p) (among_words items q p) h);
}

other_block : (q block here : ℕ) → block ≡ here → nat_eq here q ≡ false → nat_eq q block ≡ true → ⊥
other_block q block here is ne same = let k : true ≡ false = sym (alike q block here is same) ∙ ne in cc

pub meets_passed : (count : ℕ) (s t : Numbers) (rest items : List (ℕ × ℕ)) (block word : ℕ)
    → rest ≡ (block, word) ∷ items → block ≡ s.block → LeftIn count s t rest → LeftIn count s t items
meets_passed count s t rest items block word is same left = record {
  found = λ n h has others. (let x = left.found n h has others in (
    x.0,
    elim (or_cases
        (nat_eq (n / 64) block && has_bit word (n % 64)) (among_words items (n / 64) (n % 64))
        (ap (λ es. among_words es (n / 64) (n % 64)) (sym is) ∙ x.1)) [
          | inl one ↦ absurd (other_block (n / 64) block s.block same x.0
              (and_parts (nat_eq (n / 64) block) (has_bit word (n % 64)) one).0)
          | inr e ↦ e
        ],
  ));
  there = λ q p ne h. left.there q p ne (ap (λ es. among_words es q p) is
      ∙ or_right (nat_eq q block && has_bit word p) (among_words items q p) h);
}

block_of : (block p : ℕ) → p < 64 → (64 * block + p) / 64 ≡ block
block_of block p h = omega arith

place_of : (block p : ℕ) → p < 64 → (64 * block + p) % 64 ≡ p
place_of block p h = omega arith

-- a number that two words of a block have
in_both : (count : ℕ) (s t : Numbers) (block word beside : ℕ) → beside ≡ word_at t block
    → HasBelow count block (bit_and word beside)
    → ((p : ℕ) → has_bit word p ≡ true → has_bit (word_at s block) p ≡ true) → Meets count s t
in_both count s t block word beside found (p, within, below, has) there =
    let both = and_parts (has_bit word p) (has_bit beside p) (sym (has_both word beside p) ∙ has) in
    let at = λ (u : Numbers) (e : has_bit (word_at u block) p ≡ true).
    (λ i. has_bit (word_at u (block_of block p within i)) (place_of block p within i)) ∙ e in
    (64 * block + p, below, at s (there p both.0), at t (ap (λ w. has_bit w p) (sym found) ∙ both.1))

pub meets_last : (count beside : ℕ) (s t : Numbers) → beside ≡ word_at t s.block
    → HasBelow count s.block (bit_and s.word beside) → Meets count s t
meets_last count beside s t found has =
    in_both count s t s.block s.word beside found has
    (λ p one. ap (λ b. has_bit (cond b s.word (stored s s.block)) p) (eq-eqb s.block s.block refl) ∙ one)

pub meets_here : (count : ℕ) (s t : Numbers) (rest items : List (ℕ × ℕ)) (block word beside : ℕ)
    → rest ≡ (block, word) ∷ items → (block ≡ s.block → ⊥) → beside ≡ word_at t block
    → HasBelow count block (bit_and word beside) → LeftIn count s t rest → Meets count s t
meets_here count s t rest items block word beside is ne found has left =
    in_both count s t block word beside found has
    (λ p one. left.there block p (λ e. ne (sym e)) (ap (λ es. among_words es block p) is
    ∙ or_left (nat_eq block block && has_bit word p) (among_words items block p)
    (λ i. eq-eqb block block refl i && one i)))

pub meets_none : (count : ℕ) (s t : Numbers) (rest : List (ℕ × ℕ)) → rest ≡ [] → LeftIn count s t rest
    → Meets count s t → ⊥
meets_none count s t rest none left (n, h, has, others) =
    let k : false ≡ true = ap (λ es. among_words es (n / 64) (n % 64)) (sym none)
    ∙ (left.found n h has others).1 in cc
