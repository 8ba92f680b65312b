-- Narrowing a word once more, and what the code of a conditional jump leaves.
use Rattle.std.proofs.Common.{◌≡◌, ℤ, pos, ◌≤ℤ◌, ◌&&◌, Bool, true, false, cond, if◌then◌else◌, Option, Some, None}
use Rattle.std.proofs.Common.{refl, sym, ap, ◌∙◌}
use Rattle.std.specs.Prelude.{int_le}
use Rattle.small_laws.proofs.Comparisons.{le-int_le}
use std.Path.{fun_ext}
use Rattle.word_arithmetic.specs.Range.{Ends, range_between, shift_right_range, left_by}
use Rattle.module_format.specs.Rows.{Fact}
use Rattle.module_format.specs.declared.fact.Fact.TheVariants.{Unknown, Number, Pointer, CodeAddress, Loop}
use Rattle.module_format.specs.declared.fact.Fact.TheVariants.{ReturnAddress}
use Rattle.machine_state.specs.declared.op.Shift.{Shift}
use Rattle.machine_state.specs.declared.op.Shift.TheVariants as shifts
use Rattle.states.specs.declared.known.Known.{Known}
use Rattle.states.specs.declared.known.Source.{Source}
use Rattle.states.specs.declared.known.Source.TheVariants.{Test}
use Rattle.states.specs.declared.known.WordFact.{WordFact}
use Rattle.states.specs.declared.known.WordFact.TheVariants.{Alone, Index, Count}
use Rattle.states.specs.State.{State, Facts, is_silent, is_same_number}
use Rattle.states.specs.Frames.{with_alone}
use Rattle.local_rules.specs.declared.narrowing.Narrowing.{Narrowing}
use Rattle.local_rules.specs.Narrowings.{narrowed_by}
use Rattle.rulings.specs.Rulings.{pop, with_a}
use Rattle.local_rules.specs.WordRules.{known_constant, number_in, own_range, same, narrowed_words, where_false}
use Rattle.local_rules.specs.WordRules.{where_true}
use Rattle.local_rules.specs.WordRules.{shift_range}

-- a word that has a range is known
pub ranged-known : (said : WordFact) (r : Ends) → Some r ≡ own_range said → is_silent said ≡ false
ranged-known (Alone Unknown) r is = absurd (cc)
ranged-known (Alone (Number lo hi)) r is = refl
ranged-known (Alone (Pointer region lo hi step)) r is = absurd (cc)
ranged-known (Alone (CodeAddress offset)) r is = absurd (cc)
ranged-known (Alone (Loop base count weight)) r is = absurd (cc)
ranged-known (Alone ReturnAddress) r is = absurd (cc)
ranged-known (Index loop) r is = absurd (cc)
ranged-known (Count loop) r is = absurd (cc)

-- what a test of a word that is a number shows
pub narrowed-is : (source : Source) (word w lo l hi h : ℤ) (within holds : Bool) (facts : Facts) (said : WordFact)
    (r t : Ends) (fact : Fact) → source ≡ Test word lo hi within → w ≡ word → l ≡ lo → h ≡ hi → said ≡ facts w
    → Some r ≡ own_range said → Some t ≡ range_between l h → fact ≡ number_in (left_by (same within holds) r t)
    → narrowed_words source holds facts ≡ with_alone w fact facts
unfolding narrowed_words
narrowed-is source word w lo l hi h within holds facts said r t fact source_is w_is l_is h_is said_is r_is
    t_is fact_is =
    ap (λ (s : Source). narrowed_words s holds facts) source_is
    ∙ ap (λ (o : Option Ends). elim o as (λ o. Facts) [
      | None ↦ facts
      | Some r ↦ elim (range_between lo hi) as (λ o. Facts) [
        | None ↦ facts
        | Some t ↦ with_alone word (number_in (left_by (same within holds) r t)) facts
      ]
    ]) (ap (λ (k : ℤ). own_range (facts k)) (sym w_is) ∙ ap own_range (sym said_is) ∙ sym r_is)
    ∙ ap (λ (o : Option Ends). elim o as (λ o. Facts) [
      | None ↦ facts
      | Some t ↦ with_alone word (number_in (left_by (same within holds) r t)) facts
    ]) (ap (λ (z : ℤ). range_between z hi) (sym l_is) ∙ ap (λ (z : ℤ). range_between l z) (sym h_is) ∙ sym t_is)
    ∙ ap (λ (f : Fact). with_alone word f facts) (sym fact_is) ∙ ap (λ (k : ℤ). with_alone k fact facts) (sym w_is)

-- a word that is narrowed twice is as it was narrowed last
alone-twice : (k : ℤ) (f g : Fact) (facts : Facts) → with_alone k g (with_alone k f facts) ≡ with_alone k g facts
alone-twice k f g facts = fun_ext (λ j. on_test (is_same_number j k) (facts j))
  where
    on_test : (b : Bool) (said : WordFact)
        → cond b (Alone g) (cond b (Alone f) said) ≡ cond b (Alone g) said
    on_test true said = refl
    on_test false said = refl

narrowed-twice : (n : Option Narrowing) (facts : Facts)
    → narrowed_by n true (narrowed_by n false facts) ≡ narrowed_by n true facts
narrowed-twice None facts = refl
narrowed-twice (Some n) facts = alone-twice n.word n.if_false n.if_true facts

-- the state in which the process goes on at the label
pub left-false : (s m t : State) (n : Option Narrowing) (source : Source) (v : Known) → source ≡ s.stack.a.source
    → narrowed_words source false s.frame ≡ narrowed_by n false s.frame
    → m ≡ record s { frame = narrowed_by n false s.frame } → v ≡ known_constant (pos 0) → t ≡ with_a v m
    → t ≡ where_false s
left-false s m t n source v source_is narrow m_is v_is t_is =
    t_is ∙ ap (λ (x : Known). with_a x m) v_is
    ∙ ap (with_a (known_constant (pos 0))) (m_is ∙ ap (λ (f : Facts). record s { frame = f }) (sym narrow
    ∙ ap (λ (x : Source). narrowed_words x false s.frame) source_is))

-- and after the jump
pub left-true : (s m t u w : State) (n : Option Narrowing) (source : Source) (v : Known) → source ≡ s.stack.a.source
    → narrowed_words source true s.frame ≡ narrowed_by n true s.frame
    → m ≡ record s { frame = narrowed_by n false s.frame } → t ≡ with_a v m
    → u ≡ record t { frame = narrowed_by n true t.frame } → w ≡ pop u → w ≡ where_true s
left-true s m t u w n source v source_is narrow m_is t_is u_is w_is =
    w_is ∙ ap pop (u_is ∙ ap (λ (x : State). record x { frame = narrowed_by n true x.frame }) t_is)
    ∙ ap (λ (x : State). pop (record (with_a v x) { frame = narrowed_by n true x.frame })) m_is
    ∙ ap (λ (f : Facts). pop (record s { frame = f })) (narrowed-twice n s.frame ∙ sym narrow
    ∙ ap (λ (x : Source). narrowed_words x true s.frame) source_is)

-- a shift to the right by counts that are in range
pub shift-right-is : (op : Shift) (r s t : Ends) → op ≡ shifts.Right → pos 0 ≤ℤ s.lo → s.hi ≤ℤ pos 31
    → t ≡ shift_right_range r → Some t ≡ shift_range op r s
unfolding shift_range
shift-right-is op r s t is low high e =
    ap Some e
    ∙ sym (ap (λ (b : Bool). if b then Some (shift_right_range r) else None)
    (ap (λ (b : Bool). b && int_le s.hi (pos 31)) (le-int_le (pos 0) s.lo low) ∙ le-int_le s.hi (pos 31) high))
    ∙ ap (λ (o : Shift). shift_range o r s) (sym is)
