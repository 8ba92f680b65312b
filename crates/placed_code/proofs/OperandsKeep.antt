-- What two operands keep of the registers, and where an operand is compared with what is next to a constant.
use Rattle.std.proofs.Common.{◌≡◌, ℤ, Bool, true, false, ◌&&◌, ◌||◌, Option, Some, None, refl, sym, subst}

-- ---- what is kept below both

pub kept_of : (small leaf second : Bool) → (small && second) ≡ true → ((small || leaf) && second) ≡ true
kept_of true leaf true is = refl
kept_of true leaf false is = absurd (cc is)
kept_of false leaf second is = absurd (cc is)

pub leaves_kept : (small leaf second : Bool) → (leaf && second) ≡ true → ((small || leaf) && second) ≡ true
leaves_kept true true true is = refl
leaves_kept true true false is = absurd (cc is)
leaves_kept true false second is = absurd (cc is)
leaves_kept false true second is = is
leaves_kept false false second is = absurd (cc is)

-- what two operands that are one push each keep
pub exchanged_kept : (small leaf first : Bool) → (first && leaf) ≡ true → ((small || leaf) && first) ≡ true
exchanged_kept true true true is = refl
exchanged_kept false true true is = refl
exchanged_kept small false true is = absurd (cc is)
exchanged_kept small leaf false is = absurd (cc is)

-- ---- constants that are next to others

-- What holds where there is no constant, and with the one that is next to an operand, holds of what is next to any.
pub by_next : (next : Option ℤ → Option ℤ) (V C : Option ℤ → Type 0) → next None ≡ None → C None
    → ((c d : ℤ) → V (Some c) → next (Some c) ≡ Some d → C (Some d)) → (operand : Option ℤ) → V operand
    → C (next operand)
by_next next V C none plain beside None known = subst C (sym none) plain
by_next next V C none plain beside (Some c) known = by_test (next (Some c)) refl
  where
    by_test : (o : Option ℤ) → next (Some c) ≡ o → C o
    by_test None is = plain
    by_test (Some d) is = beside c d known is
