-- What is stored leaves an environment that meets what is known after it.
use Rattle.std.proofs.Common.{◌≡◌, ℕ, zero, suc, ◌<◌, ◌≤ℤ◌, ◌<ℤ◌, ℤ, pos, negsuc, true, cond, List, [], ◌∷◌, length}
use Rattle.std.proofs.Common.{Option}
use Rattle.std.proofs.Common.{Some, None, refl, sym, ap, subst, arith, ◌∙◌, IsSomeAnd}
use Rattle.std.proofs.lemmas.Int.{ints}
use Rattle.std.specs.Prelude.{bytes_eq, option_map, option_and_then, int_le, int_lt}
use Rattle.std.specs.List.{AllByRecursion}
use Rattle.std.proofs.lemmas.Bool.{and_parts}
use Rattle.word_arithmetic.specs.Range.{Ends, InRange}
use Rattle.occam_parser.specs.declared.tree.ValueType.{ValueType}
use Rattle.scalar_ranges.specs.declared.scope.ScalarKind.{ScalarKind}
use Rattle.scalar_ranges.specs.declared.scope.ArrayKind.{ArrayKind}
use Rattle.scalar_ranges.specs.Entries.{Meaning, Scalar, Array}
use Rattle.scalar_ranges.specs.Environments.{Held, Nothing, One, Many, Environment, held_in, IsHeld, Meets}
use Rattle.scalar_ranges.specs.MoveLaws.{put}
use Rattle.scalar_ranges.specs.Bounds.{is_subscript}
use Rattle.scalar_ranges.specs.Steps.{both_some}
use Rattle.scalar_ranges.specs.Values.{number_of}
use Rattle.scalar_ranges.proofs.Lookups.{found_held}
use Rattle.scalar_ranges.proofs.MoveLaws.{as_long, holding_holds}
use Rattle.scalar_ranges.proofs.Named.{meaning_found}
use Rattle.scalar_ranges.proofs.Parts.{then_holds}
use Rattle.program_meaning.specs.Storing.{number_held, item_set, element_set, one_stored, element_stored}
use Rattle.program_meaning.specs.StoringLaws.{NumbersAgree, ScalarsStored, ElementsStored}

-- ---- names

pub numbers_agree : NumbersAgree
numbers_agree name [] [] m = refl
numbers_agree name [] (b ∷ bs) m = absurd m
numbers_agree name (e ∷ es) [] m = absurd m
numbers_agree name (e ∷ es) (b ∷ bs) m =
    λ i. cond (bytes_eq (m.0 i) name) (Some (as_long bs es m.2 i)) (numbers_agree name es bs m.2 i)

-- ---- scalars

one_is_stored : (kind : ScalarKind) (type : ValueType) (range : Ends) (h : Held) (v : ℤ)
    → IsHeld (Scalar kind type range) h → one_stored h v ≡ Some (One v)
one_is_stored kind type range (One old) v is = refl
one_is_stored kind type range Nothing v is = absurd is
one_is_stored kind type range (Many vs) v is = absurd is

put_or_none : (n : ℕ) (env : Environment) (a : Option ℕ) (b : Option Held) (h : Held) → a ≡ Some n → b ≡ Some h
    → both_some a b (λ n h. Some (put n h env)) ≡ Some (put n h env)
put_or_none n env a b h number held = λ i. both_some (number i) (held i) (λ n h. Some (put n h env))

pub scalars_stored : ScalarsStored
scalars_stored es env name kind type old n v meets means number =
    put_or_none n env (number_held name env) (one_stored (held_in name env) v) (One v)
    (numbers_agree name es env meets ∙ number)
    (one_is_stored kind type old (held_in name env) v (found_held name es env (Scalar kind type old) meets means))

-- ---- elements

abbrev pub Alike : (ℤ → Type 0) → List ℤ → List ℤ → Type 0
Alike P vs ws = (length ws ≡ length vs) × AllByRecursion P ws

set_behind : (P : ℤ → Type 0) (w : ℤ) (vs : List ℤ) (o : Option (List ℤ)) → P w → IsSomeAnd o (Alike P vs)
    → IsSomeAnd (option_map (λ rest. w ∷ rest) o) (Alike P (w ∷ vs))
set_behind P w vs None p h = absurd h
set_behind P w vs (Some ws) p h = (ap suc h.0, (p, h.1))

item_is_set : (P : ℤ → Type 0) (i : ℕ) (v : ℤ) (vs : List ℤ) → i < length vs → P v → AllByRecursion P vs
    → IsSomeAnd (item_set i v vs) (Alike P vs)
item_is_set P i v [] less p all = absurd (omega (arith, less))
item_is_set P zero v (w ∷ ws) less p all = (refl, (p, all.1))
item_is_set P (suc i) v (w ∷ ws) less p all =
    set_behind P w ws (item_set i v ws) all.0 (item_is_set P i v ws (omega (arith, less)) p all.1)

element_is_set : (P : ℤ → Type 0) (i v : ℤ) (vs : List ℤ) (size : ℕ) → length vs ≡ size → pos 0 ≤ℤ i → i <ℤ pos size
    → P v → AllByRecursion P vs → IsSomeAnd (element_set i v vs) (Alike P vs)
element_is_set P (pos i) v vs size long low high p all = item_is_set P i v vs (omega (arith, ints, long, high)) p all
element_is_set P (negsuc i) v vs size long low high p all = absurd (omega (arith, ints, low))

many_stored : (P : ℤ → Type 0) (vs : List ℤ) (o : Option (List ℤ)) (Q : Held → Type 0) → IsSomeAnd o (Alike P vs)
    → ((ws : List ℤ) → Alike P vs ws → Q (Many ws)) → IsSomeAnd (option_map Many o) Q
many_stored P vs None Q h k = absurd h
many_stored P vs (Some ws) Q h k = k ws h

-- an array whose element was set holds what its meaning says
array_held : (kind : ArrayKind) (type : ValueType) (size : ℕ) (range : Ends) (h : Held) (i v : ℤ) (r : Ends)
    → IsHeld (Array kind type (Some size) range) h → is_subscript size r ≡ true → InRange r i → InRange range v
    → IsSomeAnd (element_stored h i v) (IsHeld (Array kind type (Some size) range))
array_held kind type size range Nothing i v r is sub within p = absurd is
array_held kind type size range (One old) i v r is sub within p = absurd is
array_held kind type size range (Many vs) i v r is sub within p =
    let w = and_parts (int_le (pos 0) r.lo) (int_lt r.hi (pos size)) sub in
    let low = within.from_lo in
    let high = within.to_hi in
    many_stored (InRange range) vs (element_set i v vs) (IsHeld (Array kind type (Some size) range))
    (element_is_set (InRange range) i v vs size is.0 (omega (arith, ints, w.0, low)) (omega (arith, ints, w.1, high)) p
    is.1) (λ ws all. (all.0 ∙ is.0, all.1))

put_if : (n : ℕ) (env : Environment) (a : Option ℕ) (b : Option Held) (Q : Held → Type 0) (R : Environment → Type 0)
    → a ≡ Some n → IsSomeAnd b Q → ((h : Held) → Q h → R (put n h env))
    → IsSomeAnd (both_some a b (λ n h. Some (put n h env))) R
put_if n env a None Q R number h k = absurd h
put_if n env a (Some held) Q R number h k =
    subst (λ o. IsSomeAnd (both_some o (Some held) (λ n h. Some (put n h env))) R) (sym number) (k held h)

pub elements_stored : ElementsStored
elements_stored es env name e kind type size range r n v meets means number sub within p =
    let m : Meaning = Array kind type (Some size) range in
    put_if n env (number_held name env) (option_and_then (λ i. element_stored (held_in name env) i v) (number_of env e))
    (IsHeld m) (λ after. Meets after es) (numbers_agree name es env meets ∙ number)
    (then_holds (InRange r) (IsHeld m) (λ i. element_stored (held_in name env) i v) (number_of env e) within
    (λ i lies. array_held kind type size range (held_in name env) i v r (found_held name es env m meets means) sub lies
    p))
    (λ h is. holding_holds es env n m h meets (sym (meaning_found name n es number) ∙ means) is)

pub ruleset storing_holds = (numbers_agree, scalars_stored, elements_stored)
