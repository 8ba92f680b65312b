-- Channels that are counted from a first one on: each has one name, and two runs with a channel in common meet.
use Rattle.std.proofs.Common.{◌≡◌, ℕ, zero, suc, ◌+◌, ◌≤◌, ◌<◌, pos, ◌+ℤ◌, Bool, true, false, not, ◌||◌, Option, Some}
use Rattle.std.proofs.Common.{None, refl, ap, arith}
use Rattle.std.specs.Prelude.{◌==◌, bit_and}
use Rattle.std.specs.List.{list_all}
use Rattle.std.proofs.lemmas.Bool.{eqb-true, and_from}
use Rattle.std.proofs.lemmas.Int.{ints}
use Rattle.small_laws.proofs.Comparisons.{lt-int_lt, le-int_le}
use Rattle.module_format.specs.declared.rows.EndKind.{EndKind}
use Rattle.module_format.specs.declared.rows.EndKind.TheVariants.{FrameWord, Link, Parameter as Element}
use Rattle.module_format.specs.declared.rows.Direction.{Direction}
use Rattle.module_format.specs.declared.rows.Direction.TheVariants.{In, Out}
use Rattle.call_rules.specs.CallRules as rule
use Rattle.call_rules.specs.CallRules.{Calling, each_two}
use Rattle.rulings.specs.Channels.{further, has_direction, channels_meet, is_length}

-- what the tests of a call say of the channels that are passed
pub record EndsPass (c : Calling) : Type 0 where
  pub held : list_all (rule.ends_are_held c) c.callee.parameters ≡ true
  pub once : each_two (rule.give_other_ends c) c.callee.parameters ≡ true
  pub lengths : list_all (rule.lengths_fit c) c.callee.parameters ≡ true

pub further_once : (first : EndKind) (i j : ℕ) → further first i ≡ further first j → i ≡ j
further_once (FrameWord word) i j e =
    let same : word +ℤ pos i ≡ word +ℤ pos j = cc in
    omega (arith, ints, same)
further_once (Element number element) i j e =
    let same : element + i ≡ element + j = cc in
    omega (arith, same)
further_once (Link link) i j e =
    let same : link + i ≡ link + j = cc in
    omega (arith, same)

pub further_meet : (f g : EndKind) (i j count more : ℕ) → further f i ≡ further g j → i < count → j < more
    → channels_meet f count g more ≡ true
further_meet (FrameWord word) (FrameWord other) i j count more e low less =
    let same : word +ℤ pos i ≡ other +ℤ pos j = cc in
    and_from _ _ (lt-int_lt word (other +ℤ pos more) (omega (arith, ints, same, low, less)))
    (lt-int_lt other (word +ℤ pos count) (omega (arith, ints, same, low, less)))
further_meet (FrameWord word) (Element number element) i j count more e low less = absurd (cc)
further_meet (FrameWord word) (Link link) i j count more e low less = absurd (cc)
further_meet (Element number element) (FrameWord word) i j count more e low less = absurd (cc)
further_meet (Element number element) (Element other place) i j count more e low less =
    let same_number : number ≡ other = cc in
    let same : element + i ≡ place + j = cc in
    and_from _ _ (and_from _ _ (le-int_le number other (omega (arith, ints, same_number)))
    (le-int_le other number (omega (arith, ints, same_number))))
    (and_from _ _ (lt-int_lt (pos element) (pos place +ℤ pos more) (omega (arith, ints, same, low, less)))
    (lt-int_lt (pos place) (pos element +ℤ pos count) (omega (arith, ints, same, low, less))))
further_meet (Element number element) (Link link) i j count more e low less = absurd (cc)
further_meet (Link link) (FrameWord word) i j count more e low less = absurd (cc)
further_meet (Link link) (Element number element) i j count more e low less = absurd (cc)
further_meet (Link link) (Link other) i j count more e low less =
    let same : link + i ≡ other + j = cc in
    and_from _ _ (lt-int_lt (pos link) (pos other +ℤ pos more) (omega (arith, ints, same, low, less)))
    (lt-int_lt (pos other) (pos link +ℤ pos count) (omega (arith, ints, same, low, less)))

-- two sets of ends, each with one of this direction
pub share_direction : (a b : ℕ) (d : Direction) → a ≤ 3 → b ≤ 3 → has_direction a d ≡ true → has_direction b d ≡ true
    → (bit_and a b == 0) ≡ false
share_direction zero b In low less h g = absurd (cc)
share_direction zero b Out low less h g = absurd (cc)
share_direction (suc zero) zero In low less h g = absurd (cc)
share_direction (suc zero) (suc zero) In low less h g = refl
share_direction (suc zero) (suc (suc zero)) In low less h g = absurd (cc)
share_direction (suc zero) (suc (suc (suc zero))) In low less h g = refl
share_direction (suc zero) b Out low less h g = absurd (cc)
share_direction (suc (suc zero)) zero Out low less h g = absurd (cc)
share_direction (suc (suc zero)) (suc zero) Out low less h g = absurd (cc)
share_direction (suc (suc zero)) (suc (suc zero)) Out low less h g = refl
share_direction (suc (suc zero)) (suc (suc (suc zero))) Out low less h g = refl
share_direction (suc (suc zero)) b In low less h g = absurd (cc)
share_direction (suc (suc (suc zero))) zero In low less h g = absurd (cc)
share_direction (suc (suc (suc zero))) zero Out low less h g = absurd (cc)
share_direction (suc (suc (suc zero))) (suc zero) d low less h g = refl
share_direction (suc (suc (suc zero))) (suc (suc zero)) d low less h g = refl
share_direction (suc (suc (suc zero))) (suc (suc (suc zero))) d low less h g = refl
share_direction (suc (suc (suc (suc n)))) b d low less h g = absurd (omega arith)
share_direction (suc zero) (suc (suc (suc (suc n)))) d low less h g = absurd (omega arith)
share_direction (suc (suc zero)) (suc (suc (suc (suc n)))) d low less h g = absurd (omega arith)
share_direction (suc (suc (suc zero))) (suc (suc (suc (suc n)))) d low less h g = absurd (omega arith)

-- channels that are disjoint where both give the direction
pub no_meeting : (disjoint meet : Bool) → (disjoint || not meet) ≡ true → disjoint ≡ false → meet ≡ true → ⊥
no_meeting true meet h e m = cc
no_meeting false true h e m = cc
no_meeting false false h e m = cc

-- the length that was tested
pub length_is : (len : ℕ) (o : Option ℕ) → is_length len o ≡ true → o ≡ Some len
length_is len None h = absurd (cc)
length_is len (Some other) h = ap Some (eqb-true other len h)
