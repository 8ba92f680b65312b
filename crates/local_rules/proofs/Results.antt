-- What is known of the result of an operation holds of it, where what is known of the operands holds of them.
use Rattle.std.proofs.Common.{◌≡◌, ℕ, suc, ◌+◌, ◌-◌, ◌*◌, ◌/◌, ◌%◌, ◌^◌, ◌<◌, ◌≤◌, ℤ, pos, negsuc, ◌≤ℤ◌, Bool, true}
use Rattle.std.proofs.Common.{false, cond, if◌then◌else◌, ◌&&◌, ◌⊎◌, inl, inr, FitsSigned, Option, Some, None, IfSome}
use Rattle.std.proofs.Common.{IsSomeAnd, refl, sym, ap, ◌∙◌, subst, arith, ltb}
use Rattle.std.proofs.lemmas.Int.{ints}
use Rattle.std.proofs.lemmas.Nat.{shr_le, mul-le}
use Rattle.std.proofs.lemmas.Bool.Decides.{leb_tells}
use Rattle.std.specs.Prelude.{int_le, nat_abs, unsigned_abs}
use Rattle.std.specs.Option.{option_map}
use Rattle.std.specs.Int.{w32, cast_unsigned, cast_signed}
use Rattle.std.proofs.lemmas.Option.{cond_some}
use Rattle.std.proofs.lemmas.Bool.{and_parts}
use Rattle.small_laws.proofs.Comparisons.{le-int_le, int_le-true}
use Rattle.word_arithmetic.specs.declared.binary.Binary.{Binary as BinaryOperation}
use Rattle.word_arithmetic.specs.declared.unary.Unary.{Unary as UnaryOperation}
use Rattle.word_arithmetic.specs.declared.long.LongResult.{LongResult}
use Rattle.word_arithmetic.specs.Word.{shifted_left, shifted_right}
use Rattle.word_arithmetic.specs.Long.{two_words, borrowing, long_sum}
use Rattle.word_arithmetic.specs.Range.{Ends, InRange, IsRange, IsWordIn, HoldsWords, truths, full, shift_left_range}
use Rattle.word_arithmetic.specs.Range.{shift_right_range}
use Rattle.word_arithmetic.specs.Binary.{computed, result_range}
use Rattle.word_arithmetic.specs.Unary.{unary_computed, unary_result_range}
use Rattle.word_arithmetic.proofs.EndsLaws.{words_in_order_are_ranges, members_lie_between, member_fits}
use Rattle.word_arithmetic.proofs.ModularLaws.{in_full}
use Rattle.word_arithmetic.proofs.BitLaws.{bits_below, wrapped_fits, cast_fits, shift_left_holds, shift_right_holds}
use Rattle.word_arithmetic.proofs.BinaryLaws.{binary_holds}
use Rattle.word_arithmetic.proofs.UnaryLaws.{unary_holds}
use Rattle.module_format.specs.Rows.{Fact}
use Rattle.module_format.specs.declared.fact.Fact.TheVariants.{Unknown, Number, Pointer, CodeAddress, Loop}
use Rattle.module_format.specs.declared.fact.Fact.TheVariants.{ReturnAddress}
use Rattle.module_format.specs.Contents.{Contents}
use Rattle.machine_state.specs.declared.op.Shift.{Shift}
use Rattle.machine_state.specs.declared.op.Shift.TheVariants as shifts
use Rattle.machine_state.specs.declared.op.LongOp.{LongOp}
use Rattle.machine_state.specs.declared.op.LongOp.TheVariants as long
use Rattle.machine_state.specs.LocalStep.{shift_result, long_result}
use Rattle.rulings.specs.Meaning.{Layout, Means, is_number}
use Rattle.local_rules.specs.WordRules.{range_of, number_in, fact_of_two, result_fact, unary_result_fact}
use Rattle.local_rules.specs.WordRules.{are_shift_counts, shift_range, high_range}

module _ (m : Contents) (layout : Layout) where
  -- the range of a number, in which its value lies
  pub record Lies (r : Ends) (v : ℤ) : Type 0 where
    pub range : IsRange r
    pub member : InRange r v

  pub lies : (fact : Fact) (v : ℤ) (r : Ends) → Means m layout fact (Some v) → range_of fact ≡ Some r → Lies r v
  lies (Number lo hi) v r (is_number low high fits) is = record {
    range = ((words_in_order_are_ranges lo hi r).0 is).0;
    member = (members_lie_between lo hi v r is).1 (low, high);
  }
  lies Unknown v r means is = absurd (cc)
  lies (Pointer region lo hi step) v r means is = absurd (cc)
  lies (CodeAddress offset) v r means is = absurd (cc)
  lies (Loop base count weight) v r means is = absurd (cc)
  lies ReturnAddress v r means is = absurd (cc)

  -- the fact, if there is one, holds of the result, and there is one
  abbrev pub ResultMeans : Option Fact → Option ℤ → Type 0
  ResultMeans fact result = IfSome fact (λ f. IsSomeAnd result (λ v. Means m layout f (Some v)))

  in_range : (t : Ends) (result : Option ℤ) → IsSomeAnd result (IsWordIn t)
      → IsSomeAnd result (λ v. Means m layout (number_in t) (Some v))
  in_range t None h = h
  in_range t (Some v) h = is_number h.member.from_lo h.member.to_hi h.word

  -- a range that holds the result
  of_range : (range : Option Ends) (result : Option ℤ) → ((t : Ends) → range ≡ Some t → IsSomeAnd result (IsWordIn t))
      → ResultMeans (option_map number_in range) result
  of_range None result holds = tt
  of_range (Some t) result holds = in_range t result (holds t refl)

  -- what is known of the results of an operation that a range holds
  pub two_means : (results : Ends → Ends → Option Ends) (f : ℤ → ℤ → Option ℤ)
      → ((r s t : Ends) → IsRange r → IsRange s → results r s ≡ Some t → HoldsWords f r s t)
      → (left right : Fact) (x y : ℤ) → Means m layout left (Some x) → Means m layout right (Some y)
      → ResultMeans (fact_of_two results left right) (f x y)
  unfolding fact_of_two
  two_means results f holds left right x y p q = on_left (range_of left) refl
    where
      on_right : (r : Ends) → Lies r x → (o : Option Ends) → range_of right ≡ o
          → ResultMeans (elim o as (λ o. Option Fact) [
            | None ↦ None
            | Some s ↦ option_map number_in (results r s)
          ]) (f x y)
      on_right r first None is = tt
      on_right r first (Some s) is =
          let second = lies right y s q is in
          of_range (results r s) (f x y)
          (λ t e. holds r s t first.range second.range e x y first.member second.member)

      on_left : (o : Option Ends) → range_of left ≡ o
          → ResultMeans (elim o as (λ o. Option Fact) [
            | None ↦ None
            | Some r ↦ elim (range_of right) as (λ o. Option Fact) [
              | None ↦ None
              | Some s ↦ option_map number_in (results r s)
            ]
          ]) (f x y)
      on_left None is = tt
      on_left (Some r) is = on_right r (lies left x r p is) (range_of right) refl

  pub result_means : (op : BinaryOperation) (left right : Fact) (x y : ℤ) → Means m layout left (Some x)
      → Means m layout right (Some y) → ResultMeans (result_fact op left right) (computed op x y)
  result_means op left right x y p q = two_means (result_range op) (computed op) (binary_holds op) left right x y p q

  pub unary_result_means : (op : UnaryOperation) (operand : Fact) (x : ℤ) → Means m layout operand (Some x)
      → ResultMeans (unary_result_fact op operand) (unary_computed op x)
  unfolding unary_result_fact
  unary_result_means op operand x p = on_operand (range_of operand) refl
    where
      on_operand : (o : Option Ends) → range_of operand ≡ o
          → ResultMeans (elim o as (λ o. Option Fact) [
            | None ↦ None
            | Some r ↦ option_map number_in (unary_result_range op r)
          ]) (unary_computed op x)
      on_operand None is = tt
      on_operand (Some r) is =
          let first = lies operand x r p is in
          of_range (unary_result_range op r) (unary_computed op x)
          (λ t e. unary_holds op r t first.range e x first.member)

  -- operands of which something is known of the result are words
  pub numbers_fit : (results : Ends → Ends → Option Ends) (left right fact : Fact) (x y : ℤ)
      → fact_of_two results left right ≡ Some fact → Means m layout left (Some x) → Means m layout right (Some y)
      → FitsSigned w32 x × FitsSigned w32 y
  unfolding fact_of_two
  numbers_fit results left right fact x y h p q = on_left (range_of left) refl h
    where
      on_right : (r : Ends) → Lies r x → (o : Option Ends) → range_of right ≡ o → (elim o as (λ o. Option Fact) [
        | None ↦ None
        | Some s ↦ option_map number_in (results r s)
      ]) ≡ Some fact → FitsSigned w32 x × FitsSigned w32 y
      on_right r first None is h = absurd (cc)
      on_right r first (Some s) is h =
          let second = lies right y s q is in
          (member_fits r x first.range first.member, member_fits s y second.range second.member)

      on_left : (o : Option Ends) → range_of left ≡ o → (elim o as (λ o. Option Fact) [
        | None ↦ None
        | Some r ↦ elim (range_of right) as (λ o. Option Fact) [
          | None ↦ None
          | Some s ↦ option_map number_in (results r s)
        ]
      ]) ≡ Some fact → FitsSigned w32 x × FitsSigned w32 y
      on_left None is h = absurd (cc)
      on_left (Some r) is h = on_right r (lies left x r p is) (range_of right) refl h

-- ---- shifts

-- a shift; `None` if the count is out of range
abbrev pub shift_computed : Shift → ℤ → ℤ → Option ℤ
shift_computed op x y = if int_le (pos 0) y && int_le y (pos 31) then Some (shift_result op x (nat_abs y)) else None

same_size : (y : ℤ) → unsigned_abs y ≡ nat_abs y
same_size (pos n) = refl
same_size (negsuc n) = refl

shift_fits : (op : Shift) (x : ℤ) (n : ℕ) → FitsSigned w32 x → FitsSigned w32 (shift_result op x n)
shift_fits shifts.Left x n f = wrapped_fits (cast_unsigned w32 x * 2 ^ n)
shift_fits shifts.Right x n f =
    cast_fits (cast_unsigned w32 x / 2 ^ n)
    (let less = shr_le (cast_unsigned w32 x) n in let bits = bits_below x f in omega arith)

-- counts from 0 to 31 pass the test of the machine
counts_pass : (s : Ends) (y : ℤ) → are_shift_counts s ≡ true → InRange s y
    → (pos 0 ≤ℤ s.lo) × ((int_le (pos 0) y && int_le y (pos 31)) ≡ true)
counts_pass s y e n =
    let both = and_parts (int_le (pos 0) s.lo) (int_le s.hi (pos 31)) e in
    let low : pos 0 ≤ℤ s.lo = int_le-true (pos 0) s.lo both.0 in
    let high : s.hi ≤ℤ pos 31 = int_le-true s.hi (pos 31) both.1 in
    let from = n.from_lo in
    let to = n.to_hi in (
      low,
      ap (λ (b : Bool). b && int_le y (pos 31)) (le-int_le (pos 0) y (omega (arith, ints)))
          ∙ le-int_le y (pos 31) (omega (arith, ints)),
    )

in_words : (op : Shift) (r t : Ends) (x y : ℤ) → IsRange r → InRange r x
    → (int_le (pos 0) y && int_le y (pos 31)) ≡ true → InRange t (shift_result op x (unsigned_abs y))
    → IsSomeAnd (shift_computed op x y) (IsWordIn t)
in_words op r t x y p m passes inside =
    subst (λ (b : Bool). IsSomeAnd (if b then Some (shift_result op x (nat_abs y)) else None) (IsWordIn t)) (sym passes)
    (record {
      member = subst (λ (n : ℕ). InRange t (shift_result op x n)) (same_size y) inside;
      word = shift_fits op x (nat_abs y) (member_fits r x p m);
    })

pub shift_holds : (op : Shift) (r s t : Ends) → IsRange r → IsRange s → shift_range op r s ≡ Some t
    → HoldsWords (shift_computed op) r s t
unfolding shift_range
shift_holds shifts.Left r s t p q h x y m n =
    let so = cond_some (are_shift_counts s) (shift_left_range r s) t h in
    let pass = counts_pass s y so.0 n in
    in_words shifts.Left r t x y p m pass.1
    (subst (λ (e : Ends). InRange e (shifted_left x (unsigned_abs y))) so.1 (shift_left_holds r s p pass.0 x y m n))
shift_holds shifts.Right r s t p q h x y m n =
    let so = cond_some (are_shift_counts s) (shift_right_range r) t h in
    let pass = counts_pass s y so.0 n in
    in_words shifts.Right r t x y p m pass.1
    (subst (λ (e : Ends). InRange e (shifted_right x (unsigned_abs y))) so.1 (shift_right_holds r s p x y m n))

-- ---- long operations

-- a sum of two words and a bit has at most one bit above 32
high_of : (n : ℕ) → n < 2 ^ 33 → InRange truths (two_words n).high
high_of n h = record { from_lo = omega (arith, ints); to_hi = omega (arith, ints) }

carry_in : (b a c : ℤ) → FitsSigned w32 b → FitsSigned w32 a → InRange truths (long_sum b a c).high
carry_in b a c f g =
    let p = bits_below b f in
    let q = bits_below a g in
    high_of (cast_unsigned w32 b + cast_unsigned w32 a + cast_unsigned w32 c % 2) (omega arith)

borrow_in : (number taken : ℕ) → InRange truths (borrowing number taken).high
borrow_in number taken = on_test (ltb number taken)
  where
    on_test : (b : Bool) → InRange truths (cond {A = LongResult} b
        (record { low = cast_signed w32 (number + 2 ^ 32 - taken); high = pos 1 })
        (record { low = cast_signed w32 (number - taken); high = pos 0 })).high
    on_test true = record { from_lo = omega (arith, ints); to_hi = omega (arith, ints) }
    on_test false = record { from_lo = omega (arith, ints); to_hi = omega (arith, ints) }

borrow_fits : (number taken : ℕ) → number < 2 ^ 32 → FitsSigned w32 (borrowing number taken).low
borrow_fits number taken low = on_test (leb_tells (suc number) taken)
  where
    left : Bool → LongResult
    left b = cond {A = LongResult} b
        (record { low = cast_signed w32 (number + 2 ^ 32 - taken); high = pos 1 })
        (record { low = cast_signed w32 (number - taken); high = pos 0 })

    on_test : ((ltb number taken ≡ true) × (suc number ≤ taken)) ⊎ ((ltb number taken ≡ false) × (taken < suc number))
        → FitsSigned w32 (left (ltb number taken)).low
    on_test (inl p) =
        subst (λ (b : Bool). FitsSigned w32 (left b).low) (sym p.0)
        (cast_fits (number + 2 ^ 32 - taken) (let less = p.1 in omega arith))
    on_test (inr p) =
        subst (λ (b : Bool). FitsSigned w32 (left b).low) (sym p.0) (cast_fits (number - taken) (omega arith))

truth_fits : (z : ℤ) → InRange truths z → FitsSigned w32 z
truth_fits z h = let a = h.from_lo in let b = h.to_hi in omega (arith, ints)

product_small : (x y z : ℕ) → x < 2 ^ 32 → y < 2 ^ 32 → z < 2 ^ 32 → (x * y + z) / 2 ^ 32 < 2 ^ 32
product_small x y z p q r =
    let h = mul-le x y (2 ^ 32 - 1) (2 ^ 32 - 1) (omega arith) (omega arith) in
    omega (arith, h)

-- what a long operation leaves in A is a word, and what it leaves in B lies in its range
pub long_holds : (op : LongOp) (b a c : ℤ) → FitsSigned w32 b → FitsSigned w32 a → FitsSigned w32 c
    → IsWordIn full (long_result op b a c).low × IsWordIn (high_range op) (long_result op b a c).high
long_holds long.Sum b a c f g h =
    let low = wrapped_fits (cast_unsigned w32 b + cast_unsigned w32 a + cast_unsigned w32 c % 2) in
    let high = carry_in b a c f g in
    (record { member = in_full _ low; word = low }, record { member = high; word = truth_fits _ high })
long_holds long.Difference b a c f g h =
    let number = cast_unsigned w32 b in
    let taken = cast_unsigned w32 a + cast_unsigned w32 c % 2 in
    let low = borrow_fits number taken (bits_below b f) in
    let high = borrow_in number taken in
    (record { member = in_full _ low; word = low }, record { member = high; word = truth_fits _ high })
long_holds long.Product b a c f g h =
    let low = wrapped_fits (cast_unsigned w32 b * cast_unsigned w32 a + cast_unsigned w32 c) in
    let high = cast_fits ((cast_unsigned w32 b * cast_unsigned w32 a + cast_unsigned w32 c) / 2 ^ 32)
    (product_small (cast_unsigned w32 b) (cast_unsigned w32 a) (cast_unsigned w32 c) (bits_below b f) (bits_below a g)
    (bits_below c h)) in
    (record { member = in_full _ low; word = low }, record { member = in_full _ high; word = high })
