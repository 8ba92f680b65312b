-- Names that hold numbers of their types hold such numbers after each step.
use Rattle.std.proofs.Common.{◌≡◌, ℕ, zero, suc, ℤ, pos, negsuc, Bool, true, false, cond, List, [], ◌∷◌, length, Option}
use Rattle.std.proofs.Common.{Some, None, refl, sym, ap, subst, ◌∙◌}
use Rattle.std.specs.Prelude.{bytes_eq, nat_eq, nat_lt, option_map, option_and_then, IfSome}
use Rattle.std.specs.List.{AllByRecursion}
use Rattle.word_arithmetic.specs.Range.{full}
use Rattle.occam_parser.specs.declared.tree.ValueType.{ValueType}
use Rattle.occam_parser.specs.Expressions.{Expression}
use Rattle.occam_parser.specs.Lines.{Place}
use Rattle.scalar_ranges.specs.Entries.{Meaning, Constant, Scalar, Array, Channel, Channels, Procedure, Entry}
use Rattle.scalar_ranges.specs.Entries.{meaning_in}
use Rattle.scalar_ranges.specs.Environments.{Held, Nothing, One, Many, Binding, Environment, Meets, held_in}
use Rattle.scalar_ranges.specs.Moves.{outermost}
use Rattle.scalar_ranges.specs.MoveLaws.{put, meaning_at, shape}
use Rattle.scalar_ranges.specs.Narrowing.{with_range}
use Rattle.scalar_ranges.specs.Steps.{both_some}
use Rattle.scalar_ranges.specs.Values.{number_of}
use Rattle.scalar_ranges.proofs.Named.{meaning_found}
use Rattle.program_meaning.specs.Storing.{number_held, item_set, element_set, one_stored, element_stored, held_after}
use Rattle.program_meaning.specs.Storing.{stored}
use Rattle.program_meaning.specs.TypedValues.{IsOfType, HoldsOf, HasType, AreTyped}
use Rattle.program_meaning.specs.KeepingTypes.{TypesStay}
use Rattle.program_meaning.proofs.NumbersStored.{numbers_agree}

typed_long : (es : List Entry) (env : Environment) → AreTyped env es → length env ≡ length es
typed_long [] [] typed = refl
typed_long [] (b ∷ bs) typed = absurd typed
typed_long (e ∷ es) [] typed = absurd typed
typed_long (e ∷ es) (b ∷ bs) typed = ap suc (typed_long es bs typed.1)

-- ---- finding

found_by : (t : Bool) (k m : Meaning) (h g : Held) (rest : Option Meaning) → HasType k h
    → (rest ≡ Some m → HasType m g) → cond t (Some k) rest ≡ Some m → HasType m (cond t h g)
found_by true k m h g rest typed further is =
    let same : k ≡ m = cc in subst (λ x. HasType x h) same typed
found_by false k m h g rest typed further is = further is

found_typed : (es : List Entry) (env : Environment) (name : List ℕ) (m : Meaning) → Meets env es → AreTyped env es
    → meaning_in name es ≡ Some m → HasType m (held_in name env)
found_typed [] env name m meets typed is = absurd (cc is)
found_typed (e ∷ es) [] name m meets typed is = absurd meets
found_typed (e ∷ es) (b ∷ bs) name m meets typed is =
    subst (λ x. HasType m (cond (bytes_eq x name) b.held (held_in name bs))) (sym meets.0)
    (found_by (bytes_eq e.name name) e.meaning m b.held (held_in name bs) (meaning_in name es) typed.0
    (found_typed es bs name m meets.2 typed.1) is)

-- ---- leaving

left_by : (t : Bool) (e : Entry) (b : Binding) (es : List Entry) (bs : Environment) (count : ℕ)
    → AreTyped (b ∷ bs) (e ∷ es) → AreTyped (outermost count bs) (outermost count es)
    → AreTyped (cond t (b ∷ bs) (outermost count bs)) (cond t (e ∷ es) (outermost count es))
left_by true e b es bs count typed further = typed
left_by false e b es bs count typed further = further

left_typed : (es : List Entry) (env : Environment) (count : ℕ) → AreTyped env es
    → AreTyped (outermost count env) (outermost count es)
left_typed [] [] count typed = tt
left_typed [] (b ∷ bs) count typed = absurd typed
left_typed (e ∷ es) [] count typed = absurd typed
left_typed (e ∷ es) (b ∷ bs) count typed =
    subst (λ n. AreTyped (cond (nat_lt n count) (b ∷ bs) (outermost count bs)) (outermost count (e ∷ es)))
    (sym (typed_long es bs typed.1))
    (left_by (nat_lt (length es) count) e b es bs count typed (left_typed es bs count typed.1))

-- ---- ranges

to_whole : (m : Meaning) (h : Held) → HasType m h → HasType (with_range (λ r. full) m) h
to_whole (Scalar kind type range) h typed = typed
to_whole (Constant type value) h typed = typed
to_whole (Array kind type size range) h typed = typed
to_whole (Channel type) h typed = tt
to_whole (Channels type size) h typed = tt
to_whole (Procedure number) h typed = tt

from_whole : (m : Meaning) (h : Held) → HasType (with_range (λ r. full) m) h → HasType m h
from_whole (Scalar kind type range) h typed = typed
from_whole (Constant type value) h typed = typed
from_whole (Array kind type size range) h typed = typed
from_whole (Channel type) h typed = tt
from_whole (Channels type size) h typed = tt
from_whole (Procedure number) h typed = tt

abbrev first_meaning : Meaning → List Entry → Meaning
first_meaning m [] = m
first_meaning m (e ∷ es) = e.meaning

moved_typed : (ds es : List Entry) (env : Environment) → shape ds ≡ shape es → AreTyped env ds → AreTyped env es
moved_typed [] [] env same typed = typed
moved_typed [] (e ∷ es) env same typed = absurd (cc same)
moved_typed (d ∷ ds) [] env same typed = absurd (cc same)
moved_typed (d ∷ ds) (e ∷ es) [] same typed = absurd typed
moved_typed (d ∷ ds) (e ∷ es) (b ∷ bs) same typed =
    let first : with_range (λ r. full) d.meaning ≡ with_range (λ r. full) e.meaning =
    ap (first_meaning d.meaning) same in
    let others : shape ds ≡ shape es = cc in (
      from_whole e.meaning b.held (subst (λ m. HasType m b.held) first (to_whole d.meaning b.held typed.0)),
      moved_typed ds es bs others typed.1,
    )

-- ---- storing

put_by : (t : Bool) (n : ℕ) (m : Meaning) (h : Held) (e : Entry) (b : Binding) (es : List Entry)
    (bs cs : Environment) (rest : Option Meaning) → AreTyped (b ∷ bs) (e ∷ es)
    → cond t (Some e.meaning) rest ≡ Some m → HasType m h → (rest ≡ Some m → AreTyped cs es)
    → AreTyped (cond t (record { name = b.name; held = h } ∷ bs) (b ∷ cs)) (e ∷ es)
put_by true n m h e b es bs cs rest typed is has further =
    let same : m ≡ e.meaning = cc in (subst (λ x. HasType x h) same has, typed.1)
put_by false n m h e b es bs cs rest typed is has further = (typed.0, further is)

put_typed : (es : List Entry) (env : Environment) (n : ℕ) (m : Meaning) (h : Held) → AreTyped env es
    → meaning_at n es ≡ Some m → HasType m h → AreTyped (put n h env) es
put_typed [] [] n m h typed is has = tt
put_typed [] (b ∷ bs) n m h typed is has = absurd typed
put_typed (e ∷ es) [] n m h typed is has = absurd typed
put_typed (e ∷ es) (b ∷ bs) n m h typed is has =
    subst (λ k. AreTyped (cond (nat_eq k n) (record { name = b.name; held = h } ∷ bs) (b ∷ put n h bs)) (e ∷ es))
    (sym (typed_long es bs typed.1))
    (put_by (nat_eq (length es) n) n m h e b es bs (put n h bs) (meaning_at n es) typed is has
    (λ further. put_typed es bs n m h typed.1 further has))

item_set_typed : (P : ℤ → Type 0) (i : ℕ) (v : ℤ) (vs : List ℤ) → P v → AllByRecursion P vs
    → IfSome (item_set i v vs) (AllByRecursion P)
item_set_typed P i v [] p all = tt
item_set_typed P zero v (w ∷ ws) p all = (p, all.1)
item_set_typed P (suc i) v (w ∷ ws) p all = behind (item_set i v ws) (item_set_typed P i v ws p all.1)
  where
    behind : (o : Option (List ℤ)) → IfSome o (AllByRecursion P)
        → IfSome (option_map (λ rest. w ∷ rest) o) (AllByRecursion P)
    behind None h = tt
    behind (Some rest) h = (all.0, h)

element_set_typed : (P : ℤ → Type 0) (i v : ℤ) (vs : List ℤ) → P v → AllByRecursion P vs
    → IfSome (element_set i v vs) (AllByRecursion P)
element_set_typed P (pos i) v vs p all = item_set_typed P i v vs p all
element_set_typed P (negsuc i) v vs p all = tt

many_typed : (type : ValueType) (o : Option (List ℤ)) → IfSome o (AllByRecursion (IsOfType type))
    → IfSome (option_map Many o) (HoldsOf type)
many_typed type None h = tt
many_typed type (Some vs) h = h

one_holds : (type : ValueType) (h : Held) (v : ℤ) → IsOfType type v → IfSome (one_stored h v) (HoldsOf type)
one_holds type Nothing v is = tt
one_holds type (One old) v is = is
one_holds type (Many vs) v is = tt

element_holds : (type : ValueType) (h : Held) (o : Option ℤ) (v : ℤ) → HoldsOf type h → IsOfType type v
    → IfSome (option_and_then (λ i. element_stored h i v) o) (HoldsOf type)
element_holds type h None v typed is = tt
element_holds type Nothing (Some i) v typed is = tt
element_holds type (One old) (Some i) v typed is = tt
element_holds type (Many vs) (Some i) v typed is =
    many_typed type (element_set i v vs) (element_set_typed (IsOfType type) i v vs is typed)

after_holds : (type : ValueType) (env : Environment) (name : List ℕ) (subscript : Option Expression) (v : ℤ)
    → HoldsOf type (held_in name env) → IsOfType type v
    → IfSome (held_after env (record { name = name; subscript = subscript }) v) (HoldsOf type)
after_holds type env name None v typed is = one_holds type (held_in name env) v is
after_holds type env name (Some e) v typed is =
    element_holds type (held_in name env) (number_of env e) v typed is

any_held : (o : Option Held) → IfSome o (λ h. Unit {0})
any_held None = tt
any_held (Some h) = tt

after_typed : (env : Environment) (p : Place) (m : Meaning) (v : ℤ) → HasType m (held_in p.name env)
    → HasType m (One v) → IfSome (held_after env p v) (HasType m)
after_typed env p (Scalar kind type range) v typed is = after_holds type env p.name p.subscript v typed is
after_typed env p (Constant type value) v typed is = after_holds type env p.name p.subscript v typed is
after_typed env p (Array kind type size range) v typed is = after_holds type env p.name p.subscript v typed is
after_typed env p (Channel type) v typed is = any_held (held_after env p v)
after_typed env p (Channels type size) v typed is = any_held (held_after env p v)
after_typed env p (Procedure number) v typed is = any_held (held_after env p v)

stored_by : (es : List Entry) (env : Environment) (m : Meaning) (a : Option ℕ) (b : Option Held)
    → AreTyped env es → ((n : ℕ) → a ≡ Some n → meaning_at n es ≡ Some m) → IfSome b (HasType m)
    → IfSome (both_some a b (λ n held. Some (put n held env))) (λ after. AreTyped after es)
stored_by es env m None b typed at has = tt
stored_by es env m (Some n) None typed at has = tt
stored_by es env m (Some n) (Some h) typed at has = put_typed es env n m h typed (at n refl) has

stored_typed : (es : List Entry) (env : Environment) (p : Place) (m : Meaning) (v : ℤ) → Meets env es
    → AreTyped env es → meaning_in p.name es ≡ Some m → HasType m (One v)
    → IfSome (stored env p v) (λ after. AreTyped after es)
stored_typed es env p m v meets typed means is =
    stored_by es env m (number_held p.name env) (held_after env p v) typed
    (λ n held. sym (meaning_found p.name n es (sym (numbers_agree p.name es env meets) ∙ held)) ∙ means)
    (after_typed env p m v (found_typed es env p.name m meets typed means) is)

pub types_stay : TypesStay
types_stay = record {
  finding = found_typed;
  declaring = λ es env name m h typed has. (has, typed);
  leaving = left_typed;
  moving = moved_typed;
  storing = stored_typed;
}
