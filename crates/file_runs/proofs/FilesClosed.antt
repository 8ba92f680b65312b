-- Writers that are closed one after the other.
use Rattle.std.proofs.Common.{◌≡◌, Bool, true, false, List, Option, Some, None, refl, ◌∙◌, subst, arith}
use Rattle.machine_state.specs.declared.link.Link.TheVariants.{Zero, One, Two, Three}
use Rattle.link_runner.specs.Readers.{at_link, SameElsewhere}
use Rattle.file_runs.specs.FilesInOrder.{MayClose, ClosesAll}
use Rattle.file_runs.specs.FilesOnLinks.{first_unclosed}

-- all are closed, where closing one leaves the others
pub all_closed : {F W : Type 0} (closes : F → W → Bool → F → Type 0) (at_0 at_1 at_2 at_3 at_4 : F)
    (had_0 had_1 had_2 had_3 : List (Option W)) (first second third fourth : Bool)
    → MayClose closes at_0 (at_link had_0 Zero) first at_1 → SameElsewhere had_0 had_1 Zero
    → MayClose closes at_1 (at_link had_1 One) second at_2 → SameElsewhere had_1 had_2 One
    → MayClose closes at_2 (at_link had_2 Two) third at_3 → SameElsewhere had_2 had_3 Two
    → MayClose closes at_3 (at_link had_3 Three) fourth at_4
    → ClosesAll closes at_0 had_0 (record { first = first; second = second; third = third; fourth = fourth }) at_4
all_closed closes at_0 at_1 at_2 at_3 at_4 had_0 had_1 had_2 had_3 first second third fourth one same_1 two same_2
    three same_3 four = record {
      second = at_1;
      third = at_2;
      fourth = at_3;
      closes_first = one;
      closes_second = subst (λ w. MayClose closes at_1 w second at_2) (same_1 One (λ e. absurd (omega arith))) two;
      closes_third = subst (λ w. MayClose closes at_2 w third at_3)
          (same_2 Two (λ e. absurd (omega arith)) ∙ same_1 Two (λ e. absurd (omega arith))) three;
      closes_fourth = subst (λ w. MayClose closes at_3 w fourth at_4)
          (same_3 Three (λ e. absurd (omega arith)) ∙ (same_2 Three (λ e. absurd (omega arith))
          ∙ same_1 Three (λ e. absurd (omega arith)))) four;
    }

-- the first that was not closed
pub first_is : (a b c d : Bool) → a ≡ false
    → Some Zero ≡ first_unclosed (record { first = a; second = b; third = c; fourth = d })
first_is a b c d not_a = rw not_a refl

pub second_is : (a b c d : Bool) → a ≡ true → b ≡ false
    → Some One ≡ first_unclosed (record { first = a; second = b; third = c; fourth = d })
second_is a b c d is_a not_b = rw (is_a, not_b) refl

pub third_is : (a b c d : Bool) → a ≡ true → b ≡ true → c ≡ false
    → Some Two ≡ first_unclosed (record { first = a; second = b; third = c; fourth = d })
third_is a b c d is_a is_b not_c = rw (is_a, is_b, not_c) refl

pub fourth_is : (a b c d : Bool) → a ≡ true → b ≡ true → c ≡ true → d ≡ false
    → Some Three ≡ first_unclosed (record { first = a; second = b; third = c; fourth = d })
fourth_is a b c d is_a is_b is_c not_d = rw (is_a, is_b, is_c, not_d) refl

pub none_is : (a b c d : Bool) → a ≡ true → b ≡ true → c ≡ true → d ≡ true
    → None ≡ first_unclosed (record { first = a; second = b; third = c; fourth = d })
none_is a b c d is_a is_b is_c is_d = rw (is_a, is_b, is_c, is_d) refl
