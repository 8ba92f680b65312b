-- A scope is held once it is narrowed.
use Rattle.std.proofs.Common.{◌≡◌, ℕ, suc, ◌+◌, ℤ, pos, Bool, true, false, cond, List, [], ◌∷◌, length, bytes_eq}
use Rattle.std.proofs.Common.{Option, Some, refl, sym, ap, subst, ◌∙◌}
use Rattle.std.specs.Prelude.{slice_get, option_and_then, option_map, unwrap_or}
use Rattle.word_arithmetic.specs.Range.{Ends, IsRange, narrowed}
use Rattle.word_arithmetic.specs.declared.compare.Comparison.{Comparison}
use Rattle.word_arithmetic.proofs.EndsLaws.{words_in_order_are_ranges}
use Rattle.occam_parser.specs.declared.tree.ValueType.{ValueType}
use Rattle.states.specs.State.{Facts}
use Rattle.scalar_ranges.specs.declared.scope.ScalarKind.{ScalarKind}
use Rattle.scalar_ranges.specs.Entries.{Meaning, Scalar, Entry, meaning_in, number_in as number_of_name}
use Rattle.scalar_ranges.specs.Narrowing.{Tested, changed, with_range, left_of, as_holds, by_test}
use Rattle.line_pieces.specs.Homes.{Home, Word, home_of}
use Rattle.certified_lines.specs.Scopes.{Scene, EachNameHas, AreKnownThere, HoldsScope, IsHousedThere}
use Rattle.certified_lines.specs.TestLaws.{OneWordIs, where_it}
use Rattle.certified_lines.specs.NarrowedScopes.{IsBesideThere, AreBeside, OneWordBecomes, ChangedScopesHold}
use Rattle.certified_lines.specs.NarrowedScopes.{StoredScalarsAreHeld, TestedScopesHold}
use Rattle.certified_lines.specs.Scopes.{IsNumber, loop_of}
use Rattle.certified_lines.specs.StraightRules.{Told}
use Rattle.certified_lines.specs.Instructions.{is_told, with_word, without_a}
use Rattle.certified_lines.proofs.Instructions.{stored_words_are_known}
use Rattle.certified_lines.proofs.Operands.{other_word, stored_by, stored_there}
use Rattle.certified_lines.proofs.Telling.{few_counted}
use Rattle.local_rules.specs.WordRules.{number_in}
use Rattle.module_format.specs.Rows.{Fact}
use Rattle.states.specs.declared.known.WordFact.{WordFact}
use Rattle.states.specs.declared.known.WordFact.TheVariants.{Alone, Index, Count}
use Rattle.states.specs.State.{is_at, is_parted, is_same_number, with_fact}
use Rattle.std.proofs.Common.{◌-ℤ◌, arith}
use Rattle.std.proofs.lemmas.Int.{ints}
use Rattle.word_arithmetic.specs.Range.{full}
use Rattle.certified_lines.proofs.Telling.{each_has, name_has, name_stays}
use Rattle.certified_lines.proofs.Conditions.{comparisons_test}

-- ---- other names

one_word : (v w : ℕ) → pos v ≡ pos w → v ≡ w
one_word v w same = cc

module _ (g : Scene) (w : ℕ) (q : Ends) (old new : Facts) (one : OneWordBecomes w q old new) where
  -- a word that is in no loop with the other one
  word_stays : (v : ℕ) (fact : WordFact) → (v ≡ w → ⊥) → old (pos v) ≡ fact
      → is_parted (is_at (pos w)) (pos v) fact ≡ false → new (pos v) ≡ fact
  word_stays v fact apart is whole =
      one.others (pos v) (λ same. apart (one_word v w same))
      (ap (λ (f : WordFact). is_parted (is_at (pos w)) (pos v) f) is ∙ whole)
      ∙ is

  alone_stays : (v : ℕ) (r : Ends) → (v ≡ w → ⊥) → IsNumber old v r → IsNumber new v r
  alone_stays v r apart is = word_stays v (Alone (number_in r)) apart is refl

  beside_stays : (h : Option Home) (k : Meaning) → AreKnownThere g old h k → IsBesideThere w h k
      → AreKnownThere g new h k
  beside_stays h k is apart =
      name_stays g old new (IsBesideThere w) (λ v kind type range apart is. alone_stays v range apart is)
      (λ v head kind type range apart is.
      let back : pos (v + 1) -ℤ pos 1 ≡ pos v = omega (arith, ints) in (
        word_stays v (Index (loop_of g head range)) apart.0 is.0
            (other_word (pos (v + 1)) (pos w) (λ same. apart.1 (one_word (v + 1) w same))),
        word_stays (v + 1) (Count (loop_of g head range)) apart.1 is.1
            (ap (λ (z : ℤ). is_same_number z (pos w)) back
            ∙ other_word (pos v) (pos w) (λ same. apart.0 (one_word v w same))),
      ))
      (λ v n size kind type range apart less is. alone_stays (v + n) full (apart n less) is) h k apart is

-- ---- the scalar

changed_by : (b : Bool) (f : Ends → Ends) (name : List ℕ) (e : Entry) (es : List Entry)
    → length (changed f name es) ≡ length es
    → length (cond b (record { name = e.name; meaning = with_range f e.meaning } ∷ es) (e ∷ changed f name es))
    ≡ suc (length es)
changed_by true f name e es long = refl
changed_by false f name e es long = ap suc long

changed_long : (f : Ends → Ends) (name : List ℕ) (es : List Entry) → length (changed f name es) ≡ length es
changed_long f name [] = refl
changed_long f name (e ∷ es) = changed_by (bytes_eq e.name name) f name e es (changed_long f name es)

module _ (g : Scene) (name : List ℕ) (w : ℕ) (kind : ScalarKind) (type : ValueType) (range : Ends) (f : Ends → Ends)
    (old new : Facts) (one : OneWordBecomes w (f range) old new) where
  scalar_holds : (o : Option Home) (k : Meaning) → o ≡ Some (Word w) → k ≡ Scalar kind type range
      → AreKnownThere g new o (with_range f k)
  scalar_holds o k at means =
      subst (λ (h : Option Home). AreKnownThere g new h (with_range f k)) (sym at)
      (subst (λ (m : Meaning). AreKnownThere g new (Some (Word w)) (with_range f m)) (sym means) one.there)

  entry_holds : (b : Bool) (e : Entry) (es : List Entry)
      → cond b (Some e.meaning) (meaning_in name es) ≡ Some (Scalar kind type range)
      → option_and_then (slice_get g.homes) (cond b (Some (length es)) (number_of_name name es)) ≡ Some (Word w)
      → (elim b as (λ b. Type 0) [
        | true ↦ EachNameHas (IsBesideThere w) g.homes es
        | false ↦ IsBesideThere w (slice_get g.homes (length es)) e.meaning × AreBeside g.homes w name es
      ])
      → HoldsScope g (e ∷ es) old
      → (meaning_in name es ≡ Some (Scalar kind type range) → home_of g.homes es name ≡ Some (Word w)
      → AreBeside g.homes w name es → HoldsScope g es old → HoldsScope g (changed f name es) new)
      → HoldsScope g
      (cond b (record { name = e.name; meaning = with_range f e.meaning } ∷ es) (e ∷ changed f name es)) new
  entry_holds true e es means at beside holds further = (
    scalar_holds (slice_get g.homes (length es)) e.meaning at (one_meaning e.meaning means),
    each_has (AreKnownThere g old) (IsBesideThere w) (AreKnownThere g new) g.homes es
        (beside_stays g w (f range) old new one) holds.1 beside,
  )
    where
      one_meaning : (k : Meaning) → Some k ≡ Some (Scalar kind type range) → k ≡ Scalar kind type range
      one_meaning k same = cc
  entry_holds false e es means at beside holds further = (
    subst (λ (n : ℕ). AreKnownThere g new (slice_get g.homes n) e.meaning) (sym (changed_long f name es))
        (beside_stays g w (f range) old new one (slice_get g.homes (length es)) e.meaning holds.0 beside.0),
    further means at beside.1 holds.1,
  )

  names_hold : (es : List Entry) → meaning_in name es ≡ Some (Scalar kind type range)
      → home_of g.homes es name ≡ Some (Word w) → AreBeside g.homes w name es → HoldsScope g es old
      → HoldsScope g (changed f name es) new
  names_hold [] means at beside holds = absurd (cc means)
  names_hold (e ∷ es) means at beside holds =
      entry_holds (bytes_eq e.name name) e es means at beside holds (names_hold es)

pub changed_scopes_hold : ChangedScopesHold
changed_scopes_hold g es name w kind type range f old new means at beside holds one =
    names_hold g name w kind type range f old new one es means at beside holds

-- ---- stores

stored_others : (w : ℕ) (fact : Fact) (f : Facts) (k : ℤ) → (k ≡ pos w → ⊥)
    → is_parted (is_at (pos w)) k (f k) ≡ false → with_fact (pos w) fact f k ≡ f k
stored_others w fact f k apart whole =
    stored_by (is_at (pos w) k) (is_parted (is_at (pos w)) k (f k)) fact (f k) (other_word k (pos w) apart) whole

pub stored_scalars_are_held : StoredScalarsAreHeld
stored_scalars_are_held g es name w kind type range q before few may means at beside holds is =
    let after : Told = without_a (with_word w before.stack.a.fact before) in (
      after,
      stored_words_are_known g.setting w before (few_counted w few) may (ap is_told is),
      changed_scopes_hold g es name w kind type range (λ r. q) before.frame after.frame means at beside holds (record {
        there = stored_there w before.stack.a.fact before.frame ∙ ap (λ (f : Fact). Alone f) is;
        others = stored_others w before.stack.a.fact before.frame;
      }),
    )

-- ---- conditions

becomes : {w : ℕ} {r : Ends} {old new : Facts} → OneWordIs w r old new → OneWordBecomes w r old new
becomes one = record { there = one.there; others = λ k apart whole. one.others k apart }

left_is : (c : Comparison) (v : ℤ) (r : Ends) → IsRange r → left_of c v r ≡ narrowed c v r
left_is c v r ranged =
    ap (λ (o : Option Ends). unwrap_or (option_map (narrowed c v) o) r)
    ((words_in_order_are_ranges r.lo r.hi r).1 (ranged, refl, refl))

pub tested_scopes_hold : TestedScopesHold
tested_scopes_hold g top t w es e type b test kind of range before scope words typed is tests means at beside holds =
    let shown = comparisons_test g top t w es e type b test kind of range before scope words typed is tests means at
    holds in
    let house = subst (λ (o : Option Home). IsHousedThere g top o (Scalar kind of range)) at
    (name_has (IsHousedThere g top) g.homes es test.name (Scalar kind of range) scope.housed means) in (
      shown,
      λ it.
          let f : Ends → Ends = left_of (as_holds it test.comparison) test.constant in
          subst (λ (o : Option Tested). HoldsScope g (by_test es it o) (where_it it shown.after)) (sym tests)
          (changed_scopes_hold g es test.name w kind of range f before.frame (where_it it shown.after) means at beside
          holds
          (subst (λ (q : Ends). OneWordBecomes w q before.frame (where_it it shown.after))
          (sym (left_is (as_holds it test.comparison) test.constant range house.0)) (becomes (shown.narrows it)))),
    )
