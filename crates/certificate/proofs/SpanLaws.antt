-- Neighbouring words that a context may use.
use Rattle.std.proofs.Common.{◌≡◌, ℕ, zero, suc, ◌+◌, ◌-◌, ◌<◌, ◌≤◌, ℤ, pos, ◌+ℤ◌, ◌-ℤ◌, ◌≤ℤ◌, ◌<ℤ◌, Bool, true, false}
use Rattle.std.proofs.Common.{◌&&◌}
use Rattle.std.proofs.Common.{◌||◌, not, List, length, get_or, Option, Some, None, MatchOption, refl, sym, ap, subst}
use Rattle.std.proofs.Common.{◌∙◌, arith}
use Rattle.std.proofs.Common.{int_le, int_lt}
use Rattle.std.proofs.Math.Bool.{and-false, or-true}
use Rattle.std.proofs.lemmas.Bool.{le-ltb}
use Rattle.std.proofs.lemmas.Int.{ints, by_lt_z}
use Rattle.std.proofs.lemmas.Option.{slice_get_past}
use Rattle.small_laws.proofs.Comparisons.{le-int_le}
use Rattle.small_laws.proofs.Lookups.{slice_get_there}
use Rattle.module_format.specs.Contents.{Contents, Par, Branch}
use Rattle.module_format.specs.Contexts.{first_branch, branch_count, context_at}
use Rattle.module_format.specs.Places.{branches_of}
use Rattle.certificate.specs.declared.owned.OwnWords.{OwnWords}
use Rattle.certificate.specs.Branches.{numbered_branch}
use Rattle.certificate.specs.Owned.{AreOwn, AreOwnOf, AreAllOwn}
use Rattle.certificate.specs.Rights.{is_among, has_word, may_write_word, may_read_word}
use Rattle.certificate.specs.Starting.{is_scheduling_word}
use Rattle.certificate.specs.Words.{all_words}
use Rattle.certificate.proofs.NumberLaws.{many_branches}
use Rattle.certificate.proofs.WordLaws.{all_pass, one_fails, same_words}

-- ---- two tests

and_moved : (a b x y : Bool) → ((a && b) && (x && y)) ≡ ((a && x) && (b && y))
and_moved true true x y = refl
and_moved true false true y = refl
and_moved true false false y = refl
and_moved false b x y = refl

-- each of the words passes both
pub both_pass : (one other : ℤ → Bool) (first : ℤ) (count : ℕ)
    → all_words (λ k. one k && other k) first count ≡ (all_words one first count && all_words other first count)
both_pass one other first zero = refl
both_pass one other first (suc count) =
    rw (both_pass one other first count)
    (and_moved (one (first +ℤ pos count)) (other (first +ℤ pos count)) (all_words one first count)
    (all_words other first count))

-- ---- a frame and the words below a workspace

-- the words are those of a frame exactly where the first and the last are
pub frame_tells : (lo hi first : ℤ) (count : ℕ) → 1 ≤ count
    → (int_le lo first && int_le (first +ℤ pos count) hi) ≡ all_words (λ k. int_le lo k && int_lt k hi) first count
frame_tells lo hi first zero some = absurd (omega arith)
frame_tells lo hi first (suc count) some = by_lt_z first lo
    (λ below.
    let no : int_le lo first ≡ false = grind (arith, ints) in
    let fails : (int_le lo first && int_lt first hi) ≡ false = rw no refl in
    rw (
      no,
      one_fails (λ k. int_le lo k && int_lt k hi) first (suc count) first (omega (arith, ints))
          (omega (arith, ints)) fails,
    ) refl)
    (λ from. by_lt_z hi (first +ℤ pos (suc count))
    (λ short.
    let no : int_le (first +ℤ pos (suc count)) hi ≡ false = grind (arith, ints) in
    let past : int_lt (first +ℤ pos count) hi ≡ false = grind (arith, ints) in
    let fails : (int_le lo (first +ℤ pos count) && int_lt (first +ℤ pos count) hi) ≡ false =
    rw (past, and-false (int_le lo (first +ℤ pos count))) refl in
    rw (
      no,
      and-false (int_le lo first),
      one_fails (λ k. int_le lo k && int_lt k hi) first (suc count) (first +ℤ pos count) (omega (arith, ints))
          (omega (arith, ints)) fails,
    ) refl)
    (λ long. rw (
      le-int_le lo first from,
      le-int_le (first +ℤ pos (suc count)) hi long,
      all_pass (λ k. int_le lo k && int_lt k hi) first (suc count) (λ k low high. grind (arith, ints)),
    ) refl))

-- none of the words is taken exactly where all are from the workspace on or below the three words
pub scheduling_tells : (workspace first : ℤ) (count : ℕ) → 1 ≤ count
    → (int_le workspace first || int_le ((first +ℤ pos count) +ℤ pos 3) workspace)
    ≡ all_words (λ k. not (is_scheduling_word workspace k)) first count
scheduling_tells workspace first count some =
    let test = λ (k : ℤ). not (is_scheduling_word workspace k) in
    by_lt_z first workspace
    (λ below. by_lt_z workspace ((first +ℤ pos count) +ℤ pos 3)
    (λ short.
    let no : int_le workspace first ≡ false = grind (arith, ints) in
    let neither : int_le ((first +ℤ pos count) +ℤ pos 3) workspace ≡ false = grind (arith, ints) in
    by_lt_z (first +ℤ pos 3) workspace
    (λ far.
    let k = workspace -ℤ pos 3 in
    let taken : is_scheduling_word workspace k ≡ true = grind (arith, ints) in
    let fails : not (is_scheduling_word workspace k) ≡ false = rw taken refl in
    let low : first ≤ℤ k = omega (arith, ints) in
    let high : k <ℤ (first +ℤ pos count) = omega (arith, ints) in
    rw (no, neither, one_fails test first count k low high fails) refl)
    (λ near.
    let taken : is_scheduling_word workspace first ≡ true = grind (arith, ints) in
    let fails : not (is_scheduling_word workspace first) ≡ false = rw taken refl in
    let low : first ≤ℤ first = omega (arith, ints) in
    let high : first <ℤ (first +ℤ pos count) = omega (arith, ints) in
    rw (no, neither, one_fails test first count first low high fails) refl))
    (λ long.
    let each : all_words test first count ≡ true = all_pass test first count (λ k low high.
    let free : is_scheduling_word workspace k ≡ false = grind (arith, ints) in
    rw free refl) in
    rw (le-int_le ((first +ℤ pos count) +ℤ pos 3) workspace long, or-true (int_le workspace first), each) refl))
    (λ from.
    let each : all_words test first count ≡ true = all_pass test first count (λ k low high.
    let free : is_scheduling_word workspace k ≡ false = grind (arith, ints) in
    rw free refl) in
    rw (le-int_le workspace first from, each) refl)

-- ---- the words of a branch

module _ (c : Contents) (n : ℕ) (first : ℤ) (count : ℕ) where
  -- words that are not the frame's may not be written, nor read
  pub no_writes : all_words (has_word (context_at c n)) first count ≡ false
      → false ≡ all_words (may_write_word c n) first count
  no_writes e =
      sym (both_pass (has_word (context_at c n))
      (λ k. elim (numbered_branch c n) [ None ↦ true | Some found ↦ is_among found.1.writes k ]) first count
      ∙ ap (λ (b : Bool). b && all_words
      (λ k. elim (numbered_branch c n) [ None ↦ true | Some found ↦ is_among found.1.writes k ]) first count) e)

  pub no_reads : all_words (has_word (context_at c n)) first count ≡ false
      → false ≡ all_words (may_read_word c n) first count
  no_reads e =
      sym (both_pass (has_word (context_at c n)) (λ k. elim (numbered_branch c n)
      [ None ↦ true | Some found ↦ is_among found.1.writes k || is_among found.1.reads k ]) first count
      ∙ ap (λ (b : Bool). b && all_words (λ k. elim (numbered_branch c n)
      [ None ↦ true | Some found ↦ is_among found.1.writes k || is_among found.1.reads k ]) first count) e)

  module _ (own : OwnWords) (h : MatchOption (numbered_branch c n) ⊥ (λ x. AreOwn x.1 own))
      (e : all_words (has_word (context_at c n)) first count ≡ true) where
    -- of words of the frame, the joined intervals of a branch decide
    pub own_writes : all_words (is_among own.writes.items) first count ≡ all_words (may_write_word c n) first count
    own_writes = on (numbered_branch c n) h
      where
        on : (found : Option (Par × Branch)) → MatchOption found ⊥ (λ x. AreOwn x.1 own)
            → all_words (is_among own.writes.items) first count
            ≡ all_words (λ k. has_word (context_at c n) k
            && elim found [ None ↦ true | Some x ↦ is_among x.1.writes k ]) first count
        on None none = absurd none
        on (Some x) are =
            same_words (is_among own.writes.items) (is_among x.1.writes) first count (λ k low high. are.writes.each k)
            ∙ ap (λ (b : Bool). b && all_words (is_among x.1.writes) first count) (sym e)
            ∙ sym (both_pass (has_word (context_at c n)) (is_among x.1.writes) first count)

    pub own_reads : all_words (is_among own.reads.items) first count ≡ all_words (may_read_word c n) first count
    own_reads = on (numbered_branch c n) h
      where
        on : (found : Option (Par × Branch)) → MatchOption found ⊥ (λ x. AreOwn x.1 own)
            → all_words (is_among own.reads.items) first count
            ≡ all_words (λ k. has_word (context_at c n) k
            && elim found [ None ↦ true | Some x ↦ is_among x.1.writes k || is_among x.1.reads k ]) first count
        on None none = absurd none
        on (Some x) are =
            same_words (is_among own.reads.items) (λ k. is_among x.1.writes k || is_among x.1.reads k) first count
            (λ k low high. are.reads.each k)
            ∙ ap (λ (b : Bool). b && all_words (λ k. is_among x.1.writes k || is_among x.1.reads k) first count) (sym e)
            ∙ sym (both_pass (has_word (context_at c n)) (λ k. is_among x.1.writes k || is_among x.1.reads k)
            first count)

-- ---- looked up

-- the words of the branch that is context n are there
pub own_there : (c : Contents) (all : List OwnWords) (n : ℕ) (own : OwnWords) → AreAllOwn c (branch_count c.pars) all
    → first_branch c ≤ n → n - first_branch c < length all → own ≡ get_or all (n - first_branch c) own
    → MatchOption (numbered_branch c n) ⊥ (λ x. AreOwn x.1 own)
own_there c all n own h ge lt is = on (numbered_branch c n) refl
  where
    same : first_branch c + (n - first_branch c) ≡ n
    same = omega arith

    right : AreOwnOf c (n - first_branch c + first_branch c) own
    right = subst (λ (m : ℕ). AreOwnOf c m own)
        (let e : first_branch c + (n - first_branch c) ≡ n - first_branch c + first_branch c = omega arith in e)
        (subst (λ (o : OwnWords). AreOwnOf c (first_branch c + (n - first_branch c)) o) (sym is)
        (h.each (n - first_branch c) own lt))

    on : (found : Option (Par × Branch)) → numbered_branch c n ≡ found → MatchOption found ⊥ (λ x. AreOwn x.1 own)
    on None none =
        let many = h.many in
        let count = many_branches c.pars in
        let missing = rw (le-ltb n (first_branch c) ge) at none in
        slice_get_there (branches_of c.pars) (n - first_branch c) (omega (arith, many, count, lt)) missing
    on (Some x) is_x = subst (λ (m : ℕ). AreOwnOf c m own)
        (let e : n - first_branch c + first_branch c ≡ n = omega arith in e) right x is_x

-- past them there is no branch
pub own_missing : (c : Contents) (all : List OwnWords) (n : ℕ) → AreAllOwn c (branch_count c.pars) all
    → first_branch c ≤ n → length all ≤ n - first_branch c → numbered_branch c n ≡ None
own_missing c all n h ge past =
    let many = h.many in
    let count = many_branches c.pars in
    rw (le-ltb n (first_branch c) ge)
    (slice_get_past (branches_of c.pars) (n - first_branch c) (omega (arith, many, count, past)))
