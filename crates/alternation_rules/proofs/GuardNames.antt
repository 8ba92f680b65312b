-- What guards are known by: the values of their names, and that these stay.
use Rattle.std.proofs.Common.{◌≡◌, ℕ, ◌==◌, ℤ, pos, negsuc, ◌+ℤ◌, ◌-ℤ◌, ◌≤ℤ◌, FitsSigned}
use Rattle.std.proofs.Common.{Bool}
use Rattle.std.proofs.Common.{true, false, cond, if◌then◌else◌, not, ◌||◌, inl, inr}
use Rattle.std.proofs.Common.{Some, None, Ok, Err, Result}
use Rattle.std.proofs.Common.{refl, sym, ap, ◌∙◌, subst, arith}
use Rattle.std.proofs.lemmas.Bool.Decides.{eqb_tells}
use Rattle.std.proofs.lemmas.Int.{ints}
use Rattle.std.specs.Int.{w32}
use Rattle.std.specs.Prelude.{int_le, int_lt}
use Rattle.small_laws.proofs.Comparisons.{int_le-true, int_lt-true}
use Rattle.module_format.specs.Rows.{Fact}
use Rattle.module_format.specs.declared.fact.Fact.TheVariants.{Unknown, Number, Pointer, CodeAddress, Loop}
use Rattle.module_format.specs.declared.fact.Fact.TheVariants.{ReturnAddress}
use Rattle.module_format.specs.Contents.{Contents}
use Rattle.machine_state.specs.Memory.{Memory, with_word, place_of, scheduling_word}
use Rattle.machine_state.specs.LocalStep as step
use Rattle.machine_state.specs.Site.{Local}
use Rattle.states.specs.declared.known.Known.{Known}
use Rattle.states.specs.declared.known.Source.{Source}
use Rattle.states.specs.declared.known.Source.TheVariants.{Nowhere, From, Test}
use Rattle.states.specs.declared.known.GuardName.{GuardName}
use Rattle.states.specs.declared.known.GuardName.TheVariants.{Constant, Word}
use Rattle.states.specs.declared.rule.Rule.{Rule}
use Rattle.states.specs.declared.rule.Rule.TheVariants as rules
use Rattle.states.specs.State.{State, is_same_number}
use Rattle.rulings.specs.Meaning.{Activation, Means, is_number, MeansKnown, ComesFrom, from_word}
use Rattle.rulings.specs.Meaning.{frame_word}
use Rattle.rulings.specs.Guarding.{guard_value, IsBelow}
use Rattle.rulings.specs.Fitting.{Situation}
use Rattle.rulings.proofs.Within.{Modes}
use Rattle.rulings.proofs.Words.{same_word_by, word_elsewhere}
use Rattle.rulings.proofs.Combining.{Scheduled, scheduled}
use Rattle.alternation_rules.specs.Guards.{name_of, source_name, is_off_scheduling}

-- ---- the value of a name

-- the value of a register that comes from a word is that word's
source_value : (m : Contents) (counts : ℤ → Bool) (act : Activation) (memory : Memory) (source : Source) (v : ℤ)
    (name : GuardName) → ComesFrom counts memory act.layout.origin source (Some v) → source_name source ≡ Ok name
    → guard_value memory act name ≡ Some v
source_value m counts act memory Nowhere v name comes e = absurd (cc)
source_value m counts act memory (From word) v name (from_word inside is) e =
    let same : Word word ≡ name = cc in
    subst (λ (n : GuardName). guard_value memory act n ≡ Some v) same (sym is)
source_value m counts act memory (Test word lo hi within) v name comes e = absurd (cc)

-- the value by which a guard is known is that of the register
pub record NamesValue (memory : Memory) (act : Activation) (name : GuardName) (v : ℤ) : Type 0 where
  pub is : guard_value memory act name ≡ Some v
  pub fits : FitsSigned w32 v

pub name_value : (m : Contents) (counts : ℤ → Bool) (act : Activation) (memory : Memory) (known : Known) (v : ℤ)
    (name : GuardName) → MeansKnown m counts act.layout memory known (Some v) → name_of known ≡ Ok name
    → NamesValue memory act name v
unfolding name_of
name_value m counts act memory known v name means e = on known.fact means.fact e
  where
    on_number : (lo hi : ℤ) → lo ≤ℤ v → v ≤ℤ hi → (b : Bool) → is_same_number lo hi ≡ b
        → ◌≡◌ {A = Result GuardName Rule} (cond b (Ok (Constant lo)) (source_name known.source)) (Ok name)
        → guard_value memory act name ≡ Some v
    on_number lo hi low high true same e =
        let n : Constant lo ≡ name = cc in
        let equal = same_word_by lo hi same in
        let it : lo ≡ v = omega (arith, ints, low, high, equal) in
        subst (λ (n : GuardName). guard_value memory act n ≡ Some v) n (ap Some it)
    on_number lo hi low high false same e = source_value m counts act memory known.source v name means.source e

    on : (fact : Fact) → Means m act.layout fact (Some v)
        → ◌≡◌ {A = Result GuardName Rule} (elim fact as (λ f. Result GuardName Rule) [
          | Number lo hi ↦ if is_same_number lo hi then Ok (Constant lo) else source_name known.source
          | _ ↦ Err rules.Alternation
        ]) (Ok name) → NamesValue memory act name v
    on Unknown means e = absurd (cc)
    on (Number lo hi) (is_number low high fits) e =
        record { is = on_number lo hi low high (is_same_number lo hi) refl e; fits = fits }
    on (Pointer region lo hi steps) means e = absurd (cc)
    on (CodeAddress offset) means e = absurd (cc)
    on (Loop base count weight) means e = absurd (cc)
    on ReturnAddress means e = absurd (cc)

-- whether a value is true, as the machine sees it
pub is_true : (v : ℤ) → not (step.address v == 0) ≡ true → v ≡ pos 0 → ⊥
is_true v t e = elim (eqb_tells (step.address v) 0) [
  | inl p ↦ let no' : false ≡ true = sym (ap not p.0) ∙ t in cc
  | inr p ↦ p.1 (omega (arith, ints, e))
]

pub is_false : (v : ℤ) → FitsSigned w32 v → not (step.address v == 0) ≡ false → v ≡ pos 0
is_false v fits t = elim (eqb_tells (step.address v) 0) [
  | inl p ↦ let e : step.address v ≡ 0 = p.1 in omega (arith, ints, fits, e)
  | inr p ↦ let no' : true ≡ false = sym (ap not p.0) ∙ t in absurd (cc)
]

-- ---- words that stay

-- a word that the rule has found beside those three is none of them
pub off_is_not_below : (depth word : ℤ) → is_off_scheduling depth word ≡ true → IsBelow depth word → ⊥
off_is_not_below depth word t below = on (int_lt word (depth -ℤ pos 3)) refl t
  where
    on : (b : Bool) → int_lt word (depth -ℤ pos 3) ≡ b → (b || int_le depth word) ≡ true → ⊥
    on true e t =
        let low = int_lt-true word (depth -ℤ pos 3) e in let from = below.0 in absurd (omega (arith, ints, low, from))
    on false e t = let high = int_le-true depth word t in let to = below.1 in absurd (omega (arith, ints, high, to))

-- scheduling leaves each word that is none of those that it takes
pub scheduled_elsewhere : {x : Situation} {E : Modes} {s : State} {l : Local} → Scheduled x E s l → (word : ℤ)
    → (IsBelow s.depth word → ⊥)
    → frame_word (scheduled l) x.act.layout.origin word ≡ frame_word l.memory x.act.layout.origin word
scheduled_elsewhere {x} {E} {s} {l} d word off =
    let below : ℕ → ℕ = λ (n : ℕ). place_of (scheduling_word l.registers.workspace n) in
    let m1 : Memory = with_word l.memory (below 0) None in
    let m2 : Memory = with_word m1 (below 1) None in
    word_elsewhere m2 x.act.layout.origin word (s.depth +ℤ negsuc 2) (below 2) None (d.places 2 (omega arith))
    (λ e. off (omega (arith, ints, e), omega (arith, ints, e)))
    ∙ (word_elsewhere m1 x.act.layout.origin word (s.depth +ℤ negsuc 1) (below 1) None (d.places 1 (omega arith))
    (λ e. off (omega (arith, ints, e), omega (arith, ints, e)))
    ∙ word_elsewhere l.memory x.act.layout.origin word (s.depth +ℤ negsuc 0) (below 0) None (d.places 0 (omega arith))
    (λ e. off (omega (arith, ints, e), omega (arith, ints, e))))
