-- A scope that a condition narrowed is met where the condition has that truth.
use Rattle.std.proofs.Common.{◌≡◌, ℕ, ℤ, Bool, true, false, cond, not, List, [], ◌∷◌, Option, Some, None, Result, Ok}
use Rattle.std.proofs.Common.{Err, refl, sym, subst, ap, arith, ◌∙◌, int_le, int_lt}
use Rattle.std.specs.Prelude.{bytes_eq, option_map, unwrap_or, IsTrue}
use Rattle.std.specs.Ordering.{int_eq}
use Rattle.std.proofs.lemmas.Int.{ints}
use Rattle.std.proofs.lemmas.Bool.Decides.{Decides-int_eq}
use Rattle.std.proofs.lemmas.Option.{same_Some}
use Rattle.word_arithmetic.specs.Comparison.{compares}
use Rattle.word_arithmetic.specs.declared.compare.Comparison.{Comparison}
use Rattle.word_arithmetic.specs.declared.compare.Comparison.TheVariants as comparison
use Rattle.word_arithmetic.specs.Range.{Ends, InRange, range_between, narrowed}
use Rattle.word_arithmetic.proofs.EndsLaws.{words_in_order_are_ranges, members_lie_between}
use Rattle.word_arithmetic.proofs.NarrowingLaws.{narrowed_by_rule}
use Rattle.occam_parser.specs.declared.tree.PairOperator.TheVariants as pair
use Rattle.occam_parser.specs.Expressions.{Expression, Alone, Prefixed, Paired, Chained, Term, Named}
use Rattle.scalar_ranges.specs.declared.types.ExprType.{ExprType}
use Rattle.scalar_ranges.specs.declared.types.ExprType.TheVariants as types
use Rattle.scalar_ranges.specs.Entries.{Meaning, Constant, Scalar, Array, Channel, Channels, Procedure, Entry}
use Rattle.scalar_ranges.specs.Entries.{meaning_in}
use Rattle.scalar_ranges.specs.Environments.{Held, Nothing, One, Many, Binding, Environment, held_in, one_of, IsHeld}
use Rattle.scalar_ranges.specs.Environments.{Meets}
use Rattle.scalar_ranges.specs.Types.{named_type, type_of, type_of_term, pair_type}
use Rattle.scalar_ranges.specs.Values.{number_of_term, truth_of, truth_of_term}
use Rattle.scalar_ranges.specs.Bounds.{Bound, Exactly, Within, exact_value, bound_of_term}
use Rattle.scalar_ranges.specs.Narrowing.{is_narrowed, are_alike, constant_in, Tested, tested, turned, opposite}
use Rattle.scalar_ranges.specs.Narrowing.{first_of, test_of}
use Rattle.scalar_ranges.specs.Narrowing.{left_of, with_range, changed, as_holds, by_test}
use Rattle.scalar_ranges.specs.Laws.{HasValue, NarrowingHolds}
use Rattle.scalar_ranges.proofs.Parts.{both_ok, both_are, mapped}
use Rattle.scalar_ranges.proofs.BoundLaws.{bounds_hold}

-- ---- what is left of a range

left_by : (c : Comparison) (value v : ℤ) (r : Ends) (o : Option Ends) → range_between r.lo r.hi ≡ o → InRange r v
    → compares c v value ≡ true → InRange (unwrap_or (option_map (narrowed c value) o) r) v
left_by c value v r None e m is = m
left_by c value v r (Some s) e m is =
    let range = ((words_in_order_are_ranges r.lo r.hi s).0 e).0 in
    let member = (members_lie_between r.lo r.hi v s e).1 (m.from_lo, m.to_hi) in
    (narrowed_by_rule s value (narrowed c value s) c range refl).members v member is

-- a member for which the comparison holds is left
pub left_holds : (c : Comparison) (value v : ℤ) (r : Ends) → InRange r v → compares c v value ≡ true
    → InRange (left_of c value r) v
left_holds c value v r m is = left_by c value v r (range_between r.lo r.hi) refl m is

-- ---- entries

pub with_range_held : (f : Ends → Ends) (m : Meaning) (h : Held)
    → ((v : ℤ) (r : Ends) → h ≡ One v → InRange r v → InRange (f r) v) → IsHeld m h → IsHeld (with_range f m) h
with_range_held f (Scalar kind type range) (One v) keeps is = keeps v range refl is
with_range_held f (Scalar kind type range) Nothing keeps is = is
with_range_held f (Scalar kind type range) (Many vs) keeps is = is
with_range_held f (Constant type value) h keeps is = is
with_range_held f (Array kind type size range) h keeps is = is
with_range_held f (Channel type) h keeps is = is
with_range_held f (Channels type size) h keeps is = is
with_range_held f (Procedure number) h keeps is = is

-- the entry of a name, or the entries further out, are changed
changed_by : (f : Ends → Ends) (name : List ℕ) (t : Bool) (e : Entry) (es : List Entry) (b : Binding) (bs : Environment)
    → (b.name ≡ e.name) × IsHeld e.meaning b.held × Meets bs es
    → (t ≡ true → (v : ℤ) (r : Ends) → b.held ≡ One v → InRange r v → InRange (f r) v)
    → (t ≡ false → Meets bs (changed f name es))
    → Meets (b ∷ bs) (cond t (record { name = e.name; meaning = with_range f e.meaning } ∷ es) (e ∷ changed f name es))
changed_by f name true e es b bs m keeps further =
    (m.0, with_range_held f e.meaning b.held (keeps refl) m.1, m.2)
changed_by f name false e es b bs m keeps further = (m.0, m.1, further refl)

pub changed_meets : (f : Ends → Ends) (name : List ℕ) (es : List Entry) (env : Environment) → Meets env es
    → ((v : ℤ) (r : Ends) → held_in name env ≡ One v → InRange r v → InRange (f r) v)
    → Meets env (changed f name es)
changed_meets f name [] [] m keeps = m
changed_meets f name [] (b ∷ bs) m keeps = absurd m
changed_meets f name (x ∷ es) [] m keeps = absurd m
changed_meets f name (x ∷ es) (b ∷ bs) m keeps =
    let held : held_in name (b ∷ bs) ≡ cond (bytes_eq x.name name) b.held (held_in name bs) =
    ap (λ n. cond (bytes_eq n name) b.held (held_in name bs)) m.0 in
    changed_by f name (bytes_eq x.name name) x es b bs m
    (λ t v r h i. keeps v r (held ∙ ap (λ c. cond c b.held (held_in name bs)) t ∙ h) i)
    (λ t. changed_meets f name es bs m.2
    (λ v r h i. keeps v r (held ∙ ap (λ c. cond c b.held (held_in name bs)) t ∙ h) i))

-- ---- comparisons

same_tests : (a b : Bool) → (IsTrue a → IsTrue b) → (IsTrue b → IsTrue a) → a ≡ b
same_tests true b f g = sym (f refl)
same_tests false true f g = g refl
same_tests false false f g = refl

int_eq_sym : (x y : ℤ) → int_eq x y ≡ int_eq y x
int_eq_sym x y = same_tests (int_eq x y) (int_eq y x) (λ h. (Decides-int_eq y x).1 (sym ((Decides-int_eq x y).0 h)))
    (λ h. (Decides-int_eq x y).1 (sym ((Decides-int_eq y x).0 h)))

not_not : (b : Bool) → b ≡ not (not b)
not_not true = refl
not_not false = refl

not_both : (a b : ℤ) (t u : Bool) → int_le a b ≡ t → int_lt b a ≡ u → t ≡ not u
not_both a b true true e f = absurd (omega (arith, ints))
not_both a b true false e f = refl
not_both a b false true e f = refl
not_both a b false false e f = absurd (omega (arith, ints))

le_is_not_lt : (a b : ℤ) → int_le a b ≡ not (int_lt b a)
le_is_not_lt a b = not_both a b (int_le a b) (int_lt b a) refl refl

opposite_compares : (c : Comparison) (x y : ℤ) → compares (opposite c) x y ≡ not (compares c x y)
opposite_compares comparison.Equal x y = refl
opposite_compares comparison.NotEqual x y = not_not (int_eq x y)
opposite_compares comparison.Less x y = le_is_not_lt y x
opposite_compares comparison.LessOrEqual x y = not_not (int_lt y x) ∙ ap not (sym (le_is_not_lt x y))
opposite_compares comparison.Greater x y = le_is_not_lt x y
opposite_compares comparison.GreaterOrEqual x y = not_not (int_lt x y) ∙ ap not (sym (le_is_not_lt y x))

turned_compares : (c : Comparison) (x y : ℤ) → compares (turned c) x y ≡ compares c y x
turned_compares comparison.Equal x y = int_eq_sym x y
turned_compares comparison.NotEqual x y = ap not (int_eq_sym x y)
turned_compares comparison.Less x y = refl
turned_compares comparison.LessOrEqual x y = refl
turned_compares comparison.Greater x y = refl
turned_compares comparison.GreaterOrEqual x y = refl

so_it_holds : (c : Comparison) (x y : ℤ) (b : Bool) → compares c x y ≡ b → compares (as_holds b c) x y ≡ true
so_it_holds c x y true e = e
so_it_holds c x y false e = opposite_compares c x y ∙ ap not e

-- ---- conditions

exact_is : (r : Result Bound ℕ) (v : ℤ) → exact_value r ≡ Some v → r ≡ Ok (Exactly v)
exact_is (Ok (Exactly value)) v e = cc
exact_is (Ok (Within range)) v e = absurd (cc)
exact_is (Err d) v e = absurd (cc)

one_is : (h : Held) (v : ℤ) → one_of h ≡ Some v → h ≡ One v
one_is Nothing v e = absurd (cc)
one_is (One w) v e = cc
one_is (Many vs) v e = absurd (cc)

-- an operand whose value is constant has that value
constant_value : (s : ExprType) (v y : ℤ) (n : Option ℤ) (w : Option Bool) → HasValue s (Exactly v) n w → n ≡ Some y
    → pair_type (pair.Comparison comparison.Equal) s s ≡ Ok types.Condition → y ≡ v
constant_value types.Int v y None w h e t = absurd (cc)
constant_value types.Int v y (Some x) w h e t = cc
constant_value types.Byte v y None w h e t = absurd (cc)
constant_value types.Byte v y (Some x) w h e t = cc
constant_value types.Condition v y n w h e t = absurd (cc t)

-- both operands of a comparison have one type, and it is no condition
both_alike : (c : Comparison) (s t u : ExprType) → pair_type (pair.Comparison c) s t ≡ Ok u
    → (pair_type (pair.Comparison comparison.Equal) s s ≡ Ok types.Condition)
    × (pair_type (pair.Comparison comparison.Equal) t t ≡ Ok types.Condition)
both_alike c types.Int types.Int u e = (refl, refl)
both_alike c types.Byte types.Byte u e = (refl, refl)
both_alike c s t u e = absurd (cc e)

-- what a test says holds where the comparison does
pub record IsTrueOf (env : Environment) (holds : Bool) (k : Tested) : Type 0 where
  pub value : ℤ
  pub held : held_in k.name env ≡ One value
  pub compares : compares (as_holds holds k.comparison) value k.constant ≡ true

chosen_is : {A : Type 0} (b : Bool) (o : Option A) (x : A) → cond b o None ≡ Some x → o ≡ Some x
chosen_is true o x e = e
chosen_is false o x e = absurd (cc)

module _ (es : List Entry) (env : Environment) (meets : Meets env es) where
  tested_by : (c : Comparison) (name : List ℕ) (t : Term) (k : Tested) (holds : Bool) (x y : ℤ) (s : ExprType)
      (b : Bool)
      → cond b (option_map (λ v. record { name = name; comparison = c; constant = v })
      (constant_in es (named_type (meaning_in name es)) t)) None
      ≡ Some k
      → number_of_term env (Named name) ≡ Some x → number_of_term env t ≡ Some y → type_of_term es t ≡ Ok s
      → pair_type (pair.Comparison comparison.Equal) s s ≡ Ok types.Condition
      → compares c x y ≡ holds → IsTrueOf env holds k
  tested_by c name t k holds x y s false e p q is alike h = absurd (cc)
  tested_by c name t k holds x y s true e p q is alike h =
      let wanted = named_type (meaning_in name es) in
      let m = mapped (λ (v : ℤ). record { name = name; comparison = c; constant = v }) (constant_in es wanted t) k e in
      let value = chosen_is (are_alike wanted (type_of_term es t)) (exact_value (bound_of_term es t)) m.0 m.1 in
      let exact = exact_is (bound_of_term es t) m.0 value in
      let number = constant_value s m.0 y (number_of_term env t) (truth_of_term env t)
      (bounds_hold es env (Alone t) s (Exactly m.0) meets is exact) q alike in
      subst (IsTrueOf env holds) m.2 (record {
        value = x;
        held = one_is (held_in name env) x p;
        compares = so_it_holds c x m.0 holds (ap (compares c x) (sym number) ∙ h);
      })

  tested_holds : (c : Comparison) (a t : Term) (k : Tested) (holds : Bool) (x y : ℤ) (s : ExprType)
      → tested es c a t ≡ Some k
      → number_of_term env a ≡ Some x → number_of_term env t ≡ Some y → type_of_term es t ≡ Ok s
      → pair_type (pair.Comparison comparison.Equal) s s ≡ Ok types.Condition
      → compares c x y ≡ holds → IsTrueOf env holds k
  tested_holds c (Named name) t k holds x y s e p q is alike h =
      tested_by c name t k holds x y s (is_narrowed (meaning_in name es)) e p q is alike h
  tested_holds c a t k holds x y s e p q is alike h = absurd (cc)

  first_holds : (c : Comparison) (a b : Term) (o : Option Tested) (k : Tested) (holds : Bool) (x y : ℤ)
      (s t : ExprType) → tested es c a b ≡ o → first_of o (tested es (turned c) b a) ≡ Some k
      → number_of_term env a ≡ Some x → number_of_term env b ≡ Some y → type_of_term es a ≡ Ok s
      → type_of_term es b ≡ Ok t
      → pair_type (pair.Comparison comparison.Equal) s s ≡ Ok types.Condition
      → pair_type (pair.Comparison comparison.Equal) t t ≡ Ok types.Condition
      → compares c x y ≡ holds → IsTrueOf env holds k
  first_holds c a b (Some j) k holds x y s t e f p q is are alike like h =
      tested_holds c a b k holds x y t (e ∙ f) p q are like h
  first_holds c a b None k holds x y s t e f p q is are alike like h =
      tested_holds (turned c) b a k holds y x s f q p is alike (turned_compares c y x ∙ h)

  pub test_holds : (e : Expression) (k : Tested) (holds : Bool) (u : ExprType) → type_of es e ≡ Ok u
      → test_of es e ≡ Some k → truth_of env e ≡ Some holds → IsTrueOf env holds k
  test_holds (Paired (pair.Comparison c) a b) k holds u is test truth =
      let s = both_ok (type_of_term es a) (type_of_term es b) (pair_type (pair.Comparison c)) u is in
      let n = both_are (number_of_term env a) (number_of_term env b) (λ x y. Some (compares c x y)) holds truth in
      let alike = both_alike c s.0 s.1 u s.4 in
      first_holds c a b (tested es c a b) k holds n.0 n.1 s.0 s.1 refl test n.2 n.3 s.2 s.3 alike.0 alike.1
      (same_Some _ _ n.4)
  test_holds (Paired (pair.Arithmetic op) a b) k holds u is test truth = absurd (cc)
  test_holds (Alone t) k holds u is test truth = absurd (cc)
  test_holds (Prefixed op t) k holds u is test truth = absurd (cc)
  test_holds (Chained op ts) k holds u is test truth = absurd (cc)

  by_test_meets : (holds : Bool) (o : Option Tested) → ((k : Tested) → o ≡ Some k → IsTrueOf env holds k)
      → Meets env (by_test es holds o)
  by_test_meets holds None truth = meets
  by_test_meets holds (Some k) truth =
      let is = truth k refl in
      changed_meets (left_of (as_holds holds k.comparison) k.constant) k.name es env meets
      (λ v r h i. let same : is.value ≡ v = cc (is.held, h) in
      left_holds (as_holds holds k.comparison) k.constant v r i
      (subst (λ x. compares (as_holds holds k.comparison) x k.constant ≡ true) same is.compares))

pub narrowing_holds : NarrowingHolds
narrowing_holds es env e u holds meets is truth =
    by_test_meets es env meets holds (test_of es e) (λ k test. test_holds es env meets e k holds u is test truth)
