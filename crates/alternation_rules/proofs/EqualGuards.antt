-- The tests of guards hold of equals alone.
use Rattle.std.proofs.Common.{◌≡◌, ◌⊎◌, ℤ, pos, ◌+ℤ◌, ◌≤ℤ◌, ◌<ℤ◌, Bool, true, false, ◌&&◌, inl, inr, refl, sym, ap, ◌∙◌}
use Rattle.std.proofs.Common.{arith, ℕ, List, Some, slice_get}
use Rattle.std.specs.List.{list_any}
use Rattle.std.proofs.lemmas.List.Folds.{list_any_at}
use Rattle.std.proofs.lemmas.Option.{slice_get_within, get_or_from_slice_get}
use Rattle.states.specs.declared.known.Guard.{Guard}
use Rattle.std.specs.Prelude.{int_lt, not}
use Rattle.std.proofs.lemmas.Int.{ints}
use Rattle.std.proofs.lemmas.Bool.{and_parts}
use Rattle.module_format.specs.declared.rows.EndKind.{EndKind}
use Rattle.module_format.specs.declared.rows.EndKind.TheVariants.{FrameWord, Parameter, Link}
use Rattle.states.specs.declared.known.GuardKind.{GuardKind}
use Rattle.states.specs.declared.known.GuardKind.TheVariants.{Channel, Skip}
use Rattle.states.specs.declared.known.GuardName.{GuardName}
use Rattle.states.specs.declared.known.GuardName.TheVariants.{Constant, Word}
use Rattle.states.specs.State.{is_same_number}
use Rattle.rulings.specs.Channels.{runs_meet, channels_meet}
use Rattle.rulings.proofs.Words.{word_test, same_word_by}
use Rattle.alternation_rules.specs.Guards.{is_same_kind, is_same_name, is_new, is_named_by}
use Rattle.alternation_rules.specs.SameGuards.{TestsCompare}

-- the test of two numbers
lt_tells : (x y : ℤ) → ((int_lt x y ≡ true) × (x <ℤ y)) ⊎ ((int_lt x y ≡ false) × (y ≤ℤ x))
lt_tells x y = grind (arith, ints)

-- two runs of one number each
runs_of_one : (x y : ℤ) → ((runs_meet x 1 y 1 ≡ true) × (x ≡ y)) ⊎ (runs_meet x 1 y 1 ≡ false)
runs_of_one x y = elim (lt_tells x (y +ℤ pos 1)) [
  | inr p ↦ inr (ap (λ (b : Bool). b && int_lt y (x +ℤ pos 1)) p.0)
  | inl p ↦ elim (lt_tells y (x +ℤ pos 1)) [
    | inl q ↦ inl (ap (λ (b : Bool). b && int_lt y (x +ℤ pos 1)) p.0 ∙ q.0, omega (arith, ints, p.1, q.1))
    | inr q ↦ inr (ap (λ (b : Bool). b && int_lt y (x +ℤ pos 1)) p.0 ∙ q.0)
  ]
]

same_number : (x y : ℤ) → runs_meet x 1 y 1 ≡ true → x ≡ y
same_number x y e = elim (runs_of_one x y) [
  | inl p ↦ p.1
  | inr p ↦ let no' : false ≡ true = sym p ∙ e in absurd (cc)
]

number_itself : (x : ℤ) → runs_meet x 1 x 1 ≡ true
number_itself x = elim (lt_tells x (x +ℤ pos 1)) [
  | inl p ↦ ap (λ (b : Bool). b && int_lt x (x +ℤ pos 1)) p.0 ∙ p.0
  | inr p ↦ absurd (omega (arith, ints, p.1))
]

word_itself : (k : ℤ) → is_same_number k k ≡ true
word_itself k = elim (word_test k k) [ inl p ↦ p.0 | inr p ↦ absurd (p.1 refl) ]

same_end : (kind other : EndKind) → channels_meet kind 1 other 1 ≡ true → kind ≡ other
same_end (FrameWord word) (FrameWord other) e = ap FrameWord (same_number word other e)
same_end (FrameWord word) (Parameter number element) e = absurd (cc)
same_end (FrameWord word) (Link link) e = absurd (cc)
same_end (Parameter number element) (FrameWord word) e = absurd (cc)
same_end (Parameter number element) (Parameter other place) e =
    let parts = and_parts (is_same_number number other) (runs_meet (pos element) 1 (pos place) 1) e in
    let numbers : number ≡ other = same_word_by number other parts.0 in
    let places : pos element ≡ pos place = same_number (pos element) (pos place) parts.1 in
    let elements : element ≡ place = omega (arith, ints, places) in cc
same_end (Parameter number element) (Link link) e = absurd (cc)
same_end (Link link) (FrameWord word) e = absurd (cc)
same_end (Link link) (Parameter number element) e = absurd (cc)
same_end (Link link) (Link other) e =
    let places : pos link ≡ pos other = same_number (pos link) (pos other) e in
    let links : link ≡ other = omega (arith, ints, places) in cc

end_itself : (kind : EndKind) → channels_meet kind 1 kind 1 ≡ true
end_itself (FrameWord word) = number_itself word
end_itself (Parameter number element) =
    ap (λ (b : Bool). b && runs_meet (pos element) 1 (pos element) 1) (word_itself number) ∙ number_itself (pos element)
end_itself (Link link) = number_itself (pos link)

same_kind : (kind other : GuardKind) → is_same_kind kind other ≡ true → kind ≡ other
same_kind (Channel kind) (Channel other) e = ap Channel (same_end kind other e)
same_kind (Channel kind) Skip e = absurd (cc)
same_kind Skip (Channel other) e = absurd (cc)
same_kind Skip Skip e = refl

kind_itself : (kind : GuardKind) → is_same_kind kind kind ≡ true
kind_itself (Channel kind) = end_itself kind
kind_itself Skip = refl

same_name : (name other : GuardName) → is_same_name name other ≡ true → name ≡ other
same_name (Constant value) (Constant other) e = ap Constant (same_word_by value other e)
same_name (Constant value) (Word word) e = absurd (cc)
same_name (Word word) (Constant value) e = absurd (cc)
same_name (Word word) (Word other) e = ap Word (same_word_by word other e)

name_itself : (name : GuardName) → is_same_name name name ≡ true
name_itself (Constant value) = word_itself value
name_itself (Word word) = word_itself word

-- one guard of the list passes
found_any : (test : Guard → Bool) (guards : List Guard) (i : ℕ) (g : Guard) → slice_get guards i ≡ Some g
    → test g ≡ true → list_any test guards ≡ true
found_any test guards i g here holds =
    list_any_at test guards i g (slice_get_within guards i g here) (ap test
    (get_or_from_slice_get guards i g g here) ∙ holds)

other_channels : (kind : EndKind) (guards : List Guard) → is_new (Channel kind) guards ≡ true → (i : ℕ) (g : Guard)
    → slice_get guards i ≡ Some g → g.kind ≡ Channel kind → ⊥
other_channels kind guards new i g here same =
    let any = found_any (λ h. is_same_kind h.kind (Channel kind)) guards i g here
    (ap (λ k. is_same_kind k (Channel kind)) same ∙ kind_itself (Channel kind)) in
    let no' : false ≡ true = sym (ap not any) ∙ new in absurd (cc)

other_words : (word : ℤ) (guards : List Guard) → list_any (is_named_by word) guards ≡ false → (i : ℕ) (g : Guard)
    → slice_get guards i ≡ Some g → g.name ≡ Word word → ⊥
other_words word guards none i g here same =
    let any = found_any (is_named_by word) guards i g here
    (ap (λ name. is_same_name name (Word word)) same ∙ name_itself (Word word)) in
    let no' : false ≡ true = sym none ∙ any in absurd (cc)

pub tests_compare : TestsCompare
tests_compare = record {
  kinds = same_kind;
  kind_itself = kind_itself;
  names = same_name;
  name_itself = name_itself;
  other_channels = other_channels;
  other_words = other_words;
}
