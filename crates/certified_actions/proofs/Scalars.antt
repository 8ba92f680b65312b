-- Scalars that change: where they are, and the scope in which one has another range.
use Rattle.std.proofs.Common.{◌≡◌, ℕ, suc, ◌<◌, Bool, true, false, cond, List, [], ◌∷◌, length, nat_eq, Option, Some}
use Rattle.std.proofs.Common.{None, refl, sym, ap, subst, ◌∙◌}
use Rattle.std.specs.Prelude.{slice_get, option_and_then}
use Rattle.std.proofs.lemmas.Bool.{cond_both, eqb-true}
use Rattle.word_arithmetic.specs.Range.{Ends, IsRange}
use Rattle.occam_parser.specs.declared.tree.ValueType.{ValueType}
use Rattle.occam_parser.specs.Lines.{Place}
use Rattle.scalar_ranges.specs.declared.scope.ScalarKind.TheVariants as scalar
use Rattle.scalar_ranges.specs.Entries.{Meaning, Scalar, Entry, meaning_in, number_in}
use Rattle.scalar_ranges.specs.MoveLaws.{meaning_at}
use Rattle.scalar_ranges.specs.Moves.{at_number, with_meaning}
use Rattle.scalar_ranges.specs.Narrowing.{changed, with_range}
use Rattle.scalar_ranges.proofs.Named.{changed_at, changed_by_meaning, meaning_found}
use Rattle.program_uses.specs.Instances.{variable_at}
use Rattle.program_uses.specs.Mentions.{is_variable}
use Rattle.line_pieces.specs.Actions.{OwnWord, target_of, whole_target}
use Rattle.line_pieces.specs.Homes.{Home, Word}
use Rattle.certified_lines.specs.Instructions.{MayRead}
use Rattle.certified_lines.specs.Scopes.{Scene, EachNameHas, IsHousedThere, IsScope}
use Rattle.certified_lines.proofs.Telling.{name_has}
use Rattle.certified_actions.specs.Variables.{IsOwnScalar}

-- a place that is a whole variable
abbrev pub whole : List ℕ → Place
whole name = record { name = name; subscript = None }

-- ---- its number

has_number : (hs : List Home) (o : Option ℕ) (h : Home) → option_and_then (slice_get hs) o ≡ Some h
    → (n : ℕ) × (o ≡ Some n) × (slice_get hs n ≡ Some h)
has_number hs None h is = absurd (cc is)
has_number hs (Some n) h is = (n, refl, is)

-- a scalar's number, with its home and its meaning
pub record IsNumbered (g : Scene) (es : List Entry) (name : List ℕ) (w : ℕ) (k : Meaning) : Type 0 where
  pub number : ℕ
  pub is : number_in name es ≡ Some number
  pub at : slice_get g.homes number ≡ Some (Word w)
  pub means : meaning_at number es ≡ Some k

-- it has one
pub scalar_numbered : (g : Scene) (es : List Entry) (name : List ℕ) (type : ValueType) (w : ℕ)
    → (x : IsOwnScalar g es name type w) → IsNumbered g es name w (Scalar scalar.Variable type x.range)
scalar_numbered g es name type w x =
    let found = has_number g.homes (number_in name es) (Word w) x.at in
    record {
      number = found.0;
      is = found.1;
      at = found.2;
      means = sym (meaning_found name found.0 es found.1) ∙ x.means;
    }

-- and is a variable that changes
pub variable_is : (es : List Entry) (name : List ℕ) (type : ValueType) (range : Ends) (n : ℕ)
    → meaning_in name es ≡ Some (Scalar scalar.Variable type range) → number_in name es ≡ Some n
    → variable_at es (whole name) ≡ Some n
variable_is es name type range n means number =
    ap (λ (m : Option Meaning). cond (is_variable m) (number_in name es) None) means ∙ number

-- its place is its own word
pub scalar_target : (g : Scene) (es : List Entry) (t : ℕ) (name : List ℕ) (type : ValueType) (w : ℕ)
    → IsOwnScalar g es name type w → target_of g.homes es t (whole name) ≡ OwnWord type w
scalar_target g es t name type w x =
    ap (λ (h : Option Home). whole_target h (meaning_in name es)) x.at ∙ ap (whole_target (Some (Word w))) x.means

-- which lies before the first free one
pub scalar_housed : (g : Scene) (top : ℕ) (es : List Entry) (name : List ℕ) (type : ValueType) (w : ℕ)
    → IsScope g top es → (x : IsOwnScalar g es name type w) → IsRange x.range × (w < top) × MayRead g.setting w
scalar_housed g top es name type w scope x =
    subst (λ (o : Option Home). IsHousedThere g top o (Scalar scalar.Variable type x.range)) x.at
    (name_has (IsHousedThere g top) g.homes es name (Scalar scalar.Variable type x.range) scope.housed x.means)

-- ---- its range

-- the innermost entry of a name is the one with its number, whatever becomes of its meaning
pub changed_is : (f : Ends → Ends) (m : Meaning → Meaning) (name : List ℕ) (n : ℕ) (k : Meaning) (es : List Entry)
    → number_in name es ≡ Some n → meaning_at n es ≡ Some k → m k ≡ with_range f k
    → changed f name es ≡ at_number (with_meaning m) n es
changed_is f m name n k es number means same =
    changed_at f name n es number
    ∙ (sym (changed_by_meaning (with_range f) n (with_range f k) k es means refl)
    ∙ changed_by_meaning m n (with_range f k) k es means (sym same))

-- ---- what each name has

at_long : (f : Entry → Entry) (n : ℕ) (es : List Entry) → length (at_number f n es) ≡ length es
at_long f n [] = refl
at_long f n (e ∷ es) =
    cond_both (nat_eq (length es) n) (f e ∷ es) (e ∷ at_number f n es) (λ xs. length xs ≡ suc (length es)) (λ t. refl)
    (λ t. ap suc (at_long f n es))

-- what holds of each name holds where one is changed of which it holds still
pub each_changed : (Q : Option Home → Meaning → Type 0) (m : Meaning → Meaning) (hs : List Home) (n : ℕ) (k : Meaning)
    (es : List Entry) → meaning_at n es ≡ Some k → Q (slice_get hs n) (m k) → EachNameHas Q hs es
    → EachNameHas Q hs (at_number (with_meaning m) n es)
each_changed Q m hs n k [] means there each = tt
each_changed Q m hs n k (e ∷ es) means there each =
    by (nat_eq (length es) n) refl means (λ further. each_changed Q m hs n k es further there each.1)
  where
    here : (i : ℕ) (j : Meaning) → i ≡ n → ◌≡◌ {A = Option Meaning} (Some j) (Some k) → Q (slice_get hs i) (m j)
    here i j at same =
        let one : j ≡ k = cc in
        subst (λ (x : ℕ). Q (slice_get hs x) (m j)) (sym at)
        (subst (λ (x : Meaning). Q (slice_get hs n) (m x)) (sym one) there)

    by : (t : Bool) → nat_eq (length es) n ≡ t → cond t (Some e.meaning) (meaning_at n es) ≡ Some k
        → (meaning_at n es ≡ Some k → EachNameHas Q hs (at_number (with_meaning m) n es))
        → EachNameHas Q hs (cond t (with_meaning m e ∷ es) (e ∷ at_number (with_meaning m) n es))
    by true test is further = (here (length es) e.meaning (eqb-true (length es) n test) is, each.1)
    by false test is further = (
      subst (λ (i : ℕ). Q (slice_get hs i) e.meaning) (sym (at_long (with_meaning m) n es)) each.0,
      further is,
    )

-- a scope in which a scalar has another range of words
pub scope_changed : (g : Scene) (top : ℕ) (es : List Entry) (name : List ℕ) (type : ValueType) (w : ℕ)
    (m : Meaning → Meaning) (r : Ends) → IsScope g top es → (x : IsOwnScalar g es name type w)
    → m (Scalar scalar.Variable type x.range) ≡ Scalar scalar.Variable type r → IsRange r
    → IsScope g top (at_number (with_meaning m) (scalar_numbered g es name type w x).number es)
scope_changed g top es name type w m r scope x same ranged =
    let numbered = scalar_numbered g es name type w x in
    let housed = scalar_housed g top es name type w scope x in
    record {
      housed = each_changed (IsHousedThere g top) m g.homes numbered.number (Scalar scalar.Variable type x.range) es
          numbered.means
          (subst (λ (o : Option Home). IsHousedThere g top o (m (Scalar scalar.Variable type x.range)))
          (sym numbered.at)
          (subst (λ (k : Meaning). IsHousedThere g top (Some (Word w)) k) (sym same)
          (ranged, housed.1, housed.2))) scope.housed;
      few = scope.few;
    }
