-- What scheduling leaves of what is known: the three words below the workspace are unknown, and rows that are implied
-- stay so.
use Rattle.std.proofs.Common.{◌≡◌, ◌⊎◌, ℕ, zero, suc, ◌+◌, ℤ, pos, negsuc, ◌+ℤ◌, ◌-ℤ◌, Bool, true, false, cond}
use Rattle.std.proofs.Common.{List, [], ◌∷◌, inl, inr, refl, sym, ap, subst, ◌∙◌, arith}
use Rattle.std.proofs.lemmas.Int.{ints}
use Rattle.module_format.specs.Rows.{Fact}
use Rattle.module_format.specs.declared.fact.Fact.TheVariants.{Unknown, Number}
use Rattle.states.specs.declared.known.Loop.{Loop as CountedLoop}
use Rattle.states.specs.declared.known.WordFact.{WordFact}
use Rattle.states.specs.declared.known.WordFact.TheVariants.{Alone, Index, Count}
use Rattle.states.specs.State.{Facts, by_itself, is_at, is_parted, is_same_number, with_fact}
use Rattle.states.specs.Below.{implies}
use Rattle.code_pieces.specs.declared.piece.RowEntry.{RowEntry}
use Rattle.code_pieces.specs.declared.piece.WordFact.{WordFact as RowFact}
use Rattle.code_pieces.specs.declared.piece.WordFact.TheVariants.{Between, Turning}
use Rattle.certified_lines.proofs.Operands.{other_word}
use Rattle.certified_modules.specs.RowsSay.{IsSaid, Implies, loop_said}
use Rattle.certified_modules.specs.Passing.{after_turns}

-- the word this far below the workspace of the root
abbrev pub word_below : ℕ → ℤ
word_below n = pos 0 +ℤ negsuc n

-- once the three words below the workspace are taken
abbrev pub scheduled : Facts → Facts
scheduled f =
    with_fact (word_below 2) Unknown (with_fact (word_below 1) Unknown (with_fact (word_below 0) Unknown f))

-- ---- what stays

-- the word is as before, or was the count of a loop whose index is below it, and is by itself now
abbrev IsKept : (old new : WordFact) → Type 0
IsKept old new = (new ≡ old) ⊎ ((loop : CountedLoop) × (old ≡ Count loop) × (new ≡ Alone (by_itself (Count loop))))

-- words of the frame are as before, but for the first one, where that was such a count
pub record AreKept (old new : Facts) : Type 0 where
  pub first : IsKept (old (pos 0)) (new (pos 0))
  pub later : (k : ℕ) → new (pos (suc k)) ≡ old (pos (suc k))

kept_on : (a b c : WordFact) → IsKept a b → IsKept b c → IsKept a c
kept_on a b c (inl same) (inl next) = inl (next ∙ same)
kept_on a b c (inl same) (inr count) = inr (count.0, sym same ∙ count.1, count.2)
kept_on a b c (inr count) (inl next) = inr (count.0, count.1, next ∙ count.2)
kept_on a b c (inr count) (inr other) =
    let no : Alone (by_itself (Count count.0)) ≡ Count other.0 = sym count.2 ∙ other.1 in
    absurd (cc)

are_kept_on : {f g h : Facts} → AreKept f g → AreKept g h → AreKept f h
are_kept_on {f} {g} {h} one two = record {
  first = kept_on (f (pos 0)) (g (pos 0)) (h (pos 0)) one.first two.first;
  later = λ k. two.later k ∙ one.later k;
}

-- what a word says by itself stays
kept_itself : (a b : WordFact) → IsKept a b → by_itself b ≡ by_itself a
kept_itself a b (inl same) = ap by_itself same
kept_itself a b (inr count) = ap by_itself count.2 ∙ sym (ap by_itself count.1)

-- so does the index of a loop
kept_index : (loop : CountedLoop) (a b : WordFact) → a ≡ Index loop → IsKept a b → b ≡ Index loop
kept_index loop a b is (inl same) = same ∙ is
kept_index loop a b is (inr count) =
    let no : Index loop ≡ Count count.0 = sym is ∙ count.1 in
    absurd (cc)

-- ---- a word below the workspace

-- what is known of a word after a write elsewhere, by what was known
untouched : (at k : ℤ) (fact : Fact) (f : Facts) (old : WordFact) → f k ≡ old → is_same_number k at ≡ false
    → is_parted (is_at at) k old ≡ false → with_fact at fact f k ≡ old
untouched at k fact f old is other whole =
    ap (λ (b : Bool). cond b (Alone fact) (cond (is_parted (is_at at) k (f k)) (Alone (by_itself (f k))) (f k))) other
    ∙ ap (λ (w : WordFact). cond (is_parted (is_at at) k w) (Alone (by_itself w)) w) is
    ∙ ap (λ (b : Bool). cond b (Alone (by_itself old)) old) whole

later_by : (n k : ℕ) (f : Facts) (old : WordFact) → f (pos (suc k)) ≡ old
    → with_fact (word_below n) Unknown f (pos (suc k)) ≡ old
later_by n k f (Alone fact) is =
    untouched (word_below n) (pos (suc k)) Unknown f (Alone fact) is
    (other_word (pos (suc k)) (word_below n) (λ same. omega (arith, ints, same))) refl
later_by n k f (Index loop) is =
    untouched (word_below n) (pos (suc k)) Unknown f (Index loop) is
    (other_word (pos (suc k)) (word_below n) (λ same. omega (arith, ints, same)))
    (other_word (pos (suc k) +ℤ pos 1) (word_below n) (λ same. omega (arith, ints, same)))
later_by n k f (Count loop) is =
    untouched (word_below n) (pos (suc k)) Unknown f (Count loop) is
    (other_word (pos (suc k)) (word_below n) (λ same. omega (arith, ints, same)))
    (other_word (pos (suc k) -ℤ pos 1) (word_below n) (λ same. omega (arith, ints, same)))

-- the first word, if it is a count: by whether the word before it is taken
count_by : (taken : Bool) (loop : CountedLoop) (a : WordFact) → a ≡ Count loop
    → IsKept a (cond taken (Alone (by_itself a)) a)
count_by true loop a is = inr (loop, is, ap (λ (w : WordFact). Alone (by_itself w)) is)
count_by false loop a is = inl refl

first_by : (n : ℕ) (f : Facts) (old : WordFact) → f (pos 0) ≡ old
    → IsKept (f (pos 0)) (with_fact (word_below n) Unknown f (pos 0))
first_by n f (Alone fact) is =
    inl (untouched (word_below n) (pos 0) Unknown f (Alone fact) is
    (other_word (pos 0) (word_below n) (λ same. omega (arith, ints, same))) refl ∙ sym is)
first_by n f (Index loop) is =
    inl (untouched (word_below n) (pos 0) Unknown f (Index loop) is
    (other_word (pos 0) (word_below n) (λ same. omega (arith, ints, same)))
    (other_word (pos 0 +ℤ pos 1) (word_below n) (λ same. omega (arith, ints, same))) ∙ sym is)
first_by n f (Count loop) is =
    let taken : Bool = is_same_number (pos 0 -ℤ pos 1) (word_below n) in
    let elsewhere = other_word (pos 0) (word_below n) (λ same. omega (arith, ints, same)) in
    let becomes : with_fact (word_below n) Unknown f (pos 0)
    ≡ cond taken (Alone (by_itself (Count loop))) (Count loop) =
    ap (λ (b : Bool). cond b (Alone Unknown)
    (cond (is_parted (is_at (word_below n)) (pos 0) (f (pos 0))) (Alone (by_itself (f (pos 0)))) (f (pos 0)))) elsewhere
    ∙ ap (λ (w : WordFact). cond (is_parted (is_at (word_below n)) (pos 0) w) (Alone (by_itself w)) w) is in
    subst (λ (w : WordFact). IsKept (f (pos 0)) w) (sym becomes)
    (subst (λ (w : WordFact). IsKept w (cond taken (Alone (by_itself (Count loop))) (Count loop))) (sym is)
    (count_by taken loop (Count loop) refl))

below_kept : (n : ℕ) (f : Facts) → AreKept f (with_fact (word_below n) Unknown f)
below_kept n f = record {
  first = first_by n f (f (pos 0)) refl;
  later = λ k. later_by n k f (f (pos (suc k))) refl;
}

pub scheduling_keeps : (f : Facts) → AreKept f (scheduled f)
scheduling_keeps f =
    let one : Facts = with_fact (word_below 0) Unknown f in
    let two : Facts = with_fact (word_below 1) Unknown one in
    are_kept_on (below_kept 0 f) (are_kept_on (below_kept 1 one) (below_kept 2 two))

-- ---- a word of the frame

-- what is known of a word after a write of one, by what was known of that word alone
abbrev written_by : ℕ → Fact → ℤ → WordFact → WordFact
written_by w fact k old =
    cond (is_at (pos w) k) (Alone fact) (cond (is_parted (is_at (pos w)) k old) (Alone (by_itself old)) old)

kept_written : (w : ℕ) (fact : Fact) (a b : WordFact) → IsKept a b
    → IsKept (written_by w fact (pos 0) a) (written_by w fact (pos 0) b)
kept_written w fact a b (inl same) = inl (ap (written_by w fact (pos 0)) same)
kept_written zero fact a b (inr count) = inl refl
kept_written (suc w) fact a b (inr count) =
    let loop : CountedLoop = count.0 in
    let elsewhere = other_word (pos 0) (pos (suc w)) (λ same. omega (arith, ints, same)) in
    let before = other_word (pos 0 -ℤ pos 1) (pos (suc w)) (λ same. omega (arith, ints, same)) in
    let of_a : written_by (suc w) fact (pos 0) a ≡ Count loop =
    ap (written_by (suc w) fact (pos 0)) count.1
    ∙ ap (λ (c : Bool). cond c (Alone fact) (cond (is_parted (is_at (pos (suc w))) (pos 0) (Count loop))
    (Alone (by_itself (Count loop))) (Count loop))) elsewhere
    ∙ ap (λ (c : Bool). cond c (Alone (by_itself (Count loop))) (Count loop)) before in
    let of_b : written_by (suc w) fact (pos 0) b ≡ Alone (by_itself (Count loop)) =
    ap (written_by (suc w) fact (pos 0)) count.2
    ∙ ap (λ (c : Bool). cond c (Alone fact) (Alone (by_itself (Count loop)))) elsewhere in
    inr (loop, of_a, of_b)

written_kept : (w : ℕ) (fact : Fact) (f g : Facts) → AreKept f g
    → AreKept (with_fact (pos w) fact f) (with_fact (pos w) fact g)
written_kept w fact f g kept = record {
  first = kept_written w fact (f (pos 0)) (g (pos 0)) kept.first;
  later = λ k. ap (written_by w fact (pos (suc k))) (kept.later k);
}

pub turns_keep : (word : ℕ) (last : ℤ) (f g : Facts) → AreKept f g
    → AreKept (after_turns word last f) (after_turns word last g)
turns_keep word last f g kept =
    let zero_left : Fact = Number (pos 0) (pos 0) in
    written_kept word (Number last last) (with_fact (pos (word + 1)) zero_left f)
    (with_fact (pos (word + 1)) zero_left g)
    (written_kept (word + 1) zero_left f g kept)

-- ---- rows

any_itself : {f g : Facts} → AreKept f g → (k : ℕ) → by_itself (g (pos k)) ≡ by_itself (f (pos k))
any_itself {f} {g} kept zero = kept_itself (f (pos 0)) (g (pos 0)) kept.first
any_itself kept (suc k) = ap by_itself (kept.later k)

any_index : {f g : Facts} → AreKept f g → (loop : CountedLoop) (k : ℕ) → f (pos k) ≡ Index loop
    → g (pos k) ≡ Index loop
any_index {f} {g} kept loop zero is = kept_index loop (f (pos 0)) (g (pos 0)) is kept.first
any_index kept loop (suc k) is = kept.later k ∙ is

later_count : {f g : Facts} → AreKept f g → (loop : CountedLoop) (k : ℕ) → f (pos (k + 1)) ≡ Count loop
    → g (pos (k + 1)) ≡ Count loop
later_count {f} {g} kept loop k is =
    let next : k + 1 ≡ suc k = omega arith in
    subst (λ (n : ℕ). g (pos n) ≡ Count loop) (sym next)
    (kept.later k ∙ subst (λ (n : ℕ). f (pos n) ≡ Count loop) next is)

said_kept : (weights : ℕ → ℕ) (f g : Facts) → AreKept f g → (word span : ℕ) (fact : RowFact)
    → IsSaid weights f word span fact → IsSaid weights g word span fact
said_kept weights f g kept word span (Between lo hi) is =
    λ n within. ap (λ (x : Fact). implies x (Number lo hi)) (any_itself kept (word + n)) ∙ is n within
said_kept weights f g kept word span (Turning head base count) is =
    let loop : CountedLoop = loop_said weights head base count in
    (is.0, any_index kept loop word is.1, later_count kept loop word is.2)

-- what implies a row still does
pub implied_kept : (weights : ℕ → ℕ) (f g : Facts) (es : List RowEntry) → AreKept f g → Implies weights f es
    → Implies weights g es
implied_kept weights f g [] kept all = tt
implied_kept weights f g (e ∷ es) kept all =
    (said_kept weights f g kept e.word e.span e.fact all.0, implied_kept weights f g es kept all.1)
