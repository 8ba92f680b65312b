-- What is known of the words of a scope stays, and what the code of constants and of scalars leaves known.
use Rattle.std.proofs.Common.{◌⊎◌, inl, inr}
use Rattle.std.proofs.Common.{◌≡◌, ℕ, ◌+◌, ◌<◌, ◌≤◌, ℤ, pos, ◌+ℤ◌, ◌-ℤ◌, Bool, true, false, cond, List, [], ◌∷◌}
use Rattle.std.proofs.Common.{length, Option, Some, None, refl, sym, ap, subst, ◌∙◌, arith, bytes_eq}
use Rattle.std.specs.Prelude.{slice_get, option_and_then}
use Rattle.std.proofs.lemmas.Int.{ints}
use Rattle.word_arithmetic.specs.Range as ranges
use Rattle.word_arithmetic.specs.Range.{Ends, IsRange, full}
use Rattle.module_format.specs.declared.limits.TheConstants.{MAX_DATA_WORDS}
use Rattle.states.specs.declared.known.Known.{Known}
use Rattle.states.specs.declared.known.Source.{Source}
use Rattle.states.specs.declared.known.Source.TheVariants as sources
use Rattle.states.specs.declared.known.WordFact.{WordFact}
use Rattle.states.specs.declared.known.WordFact.TheVariants.{Alone, Index, Count}
use Rattle.states.specs.State.{Facts, forgets, without_source}
use Rattle.local_rules.specs.WordRules.{number_in, known_constant, word_as_known}
use Rattle.occam_parser.specs.declared.tree.ValueType.{ValueType}
use Rattle.scalar_ranges.specs.declared.scope.ArrayKind.{ArrayKind}
use Rattle.scalar_ranges.specs.declared.scope.ScalarKind.{ScalarKind}
use Rattle.scalar_ranges.specs.Entries.{Meaning, Constant, Scalar, Array, Entry}
use Rattle.scalar_ranges.specs.Entries.{meaning_in, number_in as number_of_name}
use Rattle.code_pieces.specs.Pieces.{Piece, loads, constant, counted}
use Rattle.line_pieces.specs.Homes as home
use Rattle.line_pieces.specs.Homes.{Home, Nowhere, Word, Block, Link, Passed, home_of, words_for, count_in}
use Rattle.line_pieces.specs.Expressions.{scalar_code}
use Rattle.certified_lines.specs.StraightRules.{Setting, Told, FallOn, with_pushed}
use Rattle.certified_lines.specs.Instructions.{IsCounted, MayRead}
use Rattle.certified_lines.specs.Scopes.{Scene, EachNameHas, IsNumber, loop_of, AreKnownThere, HasTurns}
use Rattle.certified_lines.specs.Scopes.{IsHousedThere, IsScalarKnown}
use Rattle.certified_lines.specs.Telling.{IsWhole, StayBefore, IsLike, PushedFact}
use Rattle.certified_lines.specs.TellingLaws.{ScopesStay, ConstantsTell, ScalarsTell}
use Rattle.certified_lines.proofs.Instructions.{constants_are_known, loaded_words_are_known}

-- ---- lookups

has_by : (t : Bool) (P : Option Home → Meaning → Type 0) (hs : List Home) (name : List ℕ) (e k : Meaning)
    (es : List Entry) → cond t (Some e) (meaning_in name es) ≡ Some k → P (slice_get hs (length es)) e
    → (meaning_in name es ≡ Some k → P (home_of hs es name) k)
    → P (option_and_then (slice_get hs) (cond t (Some (length es)) (number_of_name name es))) k
has_by true P hs name e k es is here further =
    let same : e ≡ k = cc in subst (λ (x : Meaning). P (slice_get hs (length es)) x) same here
has_by false P hs name e k es is here further = further is

-- what holds of each name of a scope holds of one that is found
pub name_has : (P : Option Home → Meaning → Type 0) (hs : List Home) (es : List Entry) (name : List ℕ) (k : Meaning)
    → EachNameHas P hs es → meaning_in name es ≡ Some k → P (home_of hs es name) k
name_has P hs [] name k each is = absurd (cc)
name_has P hs (e ∷ es) name k each is =
    has_by (bytes_eq e.name name) P hs name e.meaning k es is each.0 (name_has P hs es name k each.1)

-- what follows for each from two that hold
pub each_has : (P Q R : Option Home → Meaning → Type 0) (hs : List Home) (es : List Entry)
    → ((h : Option Home) (k : Meaning) → P h k → Q h k → R h k) → EachNameHas P hs es → EachNameHas Q hs es
    → EachNameHas R hs es
each_has P Q R hs [] follows p q = tt
each_has P Q R hs (e ∷ es) follows p q =
    (follows (slice_get hs (length es)) e.meaning p.0 q.0, each_has P Q R hs es follows p.1 q.1)

-- ---- words that stay

-- what is whole is whole further on
whole_further : (t u k : ℕ) (fact : WordFact) → t ≤ u → IsWhole t k fact → IsWhole u k fact
whole_further t u k (Alone fact) up whole = whole
whole_further t u k (Index loop) up whole = omega (arith, up, whole)
whole_further t u k (Count loop) up whole = whole

pub stay_alike : (t : ℕ) (f : Facts) → StayBefore t f f
stay_alike t f k less whole = refl

pub stay_fewer : (t u : ℕ) (old new : Facts) → t ≤ u → StayBefore u old new → StayBefore t old new
stay_fewer t u old new up stay k less whole =
    stay k (omega (arith, less, up)) (whole_further t u k (old (pos k)) up whole)

pub stay_both : (t : ℕ) (f g h : Facts) → StayBefore t f g → StayBefore t g h → StayBefore t f h
stay_both t f g h first second k less whole =
    let same = first k less whole in
    second k less (subst (IsWhole t k) (sym same) whole) ∙ same

-- ---- scopes

-- What is known of a name stays known, if that of its words does where this holds of the name.
module _ (g : Scene) (old new : Facts) (P : Option Home → Meaning → Type 0)
    (scalar : (w : ℕ) (kind : ScalarKind) (type : ValueType) (range : Ends)
    → P (Some (Word w)) (Scalar kind type range) → IsNumber old w range → IsNumber new w range)
    (index : (w head : ℕ) (kind : ScalarKind) (type : ValueType) (range : Ends)
    → P (Some (Block w head)) (Scalar kind type range) → IsScalarKnown g old (Block w head) range
    → IsScalarKnown g new (Block w head) range)
    (array : (w n size : ℕ) (kind : ArrayKind) (type : ValueType) (range : Ends)
    → P (Some (Word w)) (Array kind type (Some size) range) → n < words_for type size → IsNumber old (w + n) full
    → IsNumber new (w + n) full) where
  pub name_stays : (h : Option Home) (k : Meaning) → P h k → AreKnownThere g old h k → AreKnownThere g new h k
  name_stays None k p is = absurd is
  name_stays (Some h) (Constant type value) p is = is
  name_stays (Some (Word w)) (Scalar kind type range) p is = scalar w kind type range p is
  name_stays (Some (Block w head)) (Scalar kind type range) p is = index w head kind type range p is
  name_stays (Some (Word w)) (Array kind type (Some size) range) p is =
      λ n less. array w n size kind type range p less (is n less)
  name_stays (Some h) k p is = is

module _ (g : Scene) (top t : ℕ) (old new : Facts) (few : top ≤ t) (stay : StayBefore t old new) where
  number_stays : (w : ℕ) (r : Ends) → w < top → IsNumber old w r → IsNumber new w r
  number_stays w r less is =
      stay w (omega (arith, less, few)) (subst (IsWhole t w) (sym is) tt) ∙ is

  known_stays : (h : Option Home) (k : Meaning) → IsHousedThere g top h k → AreKnownThere g old h k
      → AreKnownThere g new h k
  known_stays =
      name_stays g old new (IsHousedThere g top) (λ w kind type range housed is. number_stays w range housed.1 is)
      (λ w head kind type range housed is.
      let less = housed.1 in (
        stay w (omega (arith, less, few)) (subst (IsWhole t w) (sym is.0) (omega (arith, less, few))) ∙ is.0,
        stay (w + 1) (omega (arith, less, few)) (subst (IsWhole t (w + 1)) (sym is.1) tt) ∙ is.1,
      ))
      (λ w n size kind type range housed less is.
      let ends = housed.1 in number_stays (w + n) full (omega (arith, less, ends)) is)

pub scopes_stay : ScopesStay
scopes_stay g top t es old new scope few stay holds =
    each_has (IsHousedThere g top) (AreKnownThere g old) (AreKnownThere g new) g.homes es
    (known_stays g top t old new few stay) scope.housed holds

-- ---- registers

pub like_of : {old new : Known} → new ≡ old → IsLike old new
like_of same =
    record { fact = ap (λ (k : Known). k.fact) same; source = inl (ap (λ (k : Known). k.source) same) }

pub like_both : {a b c : Known} → IsLike a b → IsLike b c → IsLike a c
like_both first second = record {
  fact = second.fact ∙ first.fact;
  source = elim second.source [
    | inr none ↦ inr none
    | inl same ↦ elim first.source [ inl before ↦ inl (same ∙ before) | inr none ↦ inr (same ∙ none) ]
  ];
}

pub like_forgotten : (touches : ℤ → Bool) (k : Known) → IsLike k (forgets touches k)
like_forgotten touches k = record { fact = refl; source = by_source k.source }
  where
    by_touched : (source : Source) (touched : Bool)
        → (cond touched sources.Nowhere source ≡ source) ⊎ (cond touched sources.Nowhere source ≡ sources.Nowhere)
    by_touched source true = inr refl
    by_touched source false = inl refl

    by_source : (source : Source)
        → (without_source touches source ≡ source) ⊎ (without_source touches source ≡ sources.Nowhere)
    by_source sources.Nowhere = inl refl
    by_source (sources.From word) = by_touched (sources.From word) (touches word)
    by_source (sources.Test word lo hi inside) = by_touched (sources.Test word lo hi inside) (touches word)

-- ---- one push

pub one_push : (g : Setting) (ps : List Piece) (t : ℕ) (leaf small : Bool) (r : Ends) (k : Known) (s : Told)
    → k.fact ≡ number_in r → FallOn g ps s (with_pushed k s) → PushedFact g ps t leaf small r s
one_push g ps t leaf small r k s is falls = record {
  after = with_pushed k s;
  falls = falls;
  a = is;
  stay = stay_alike t s.frame;
  below = λ yes. like_of refl;
  alone = λ yes. refl;
}

pub constants_tell : ConstantsTell
constants_tell g t leaf small v s =
    one_push g (constant v ∷ []) t leaf small (ranges.constant v) (known_constant v) s refl
    (constants_are_known g v s)

pub few_counted : (word : ℕ) → word < MAX_DATA_WORDS → IsCounted word
unfolding counted
few_counted word few = omega (arith, few)

-- a word that is read, of which this is known
pub word_tells : (g : Setting) (t word : ℕ) (leaf small : Bool) (r : Ends) (s : Told) → word < MAX_DATA_WORDS
    → MayRead g word → (word_as_known (pos word) (s.frame (pos word))).fact ≡ number_in r
    → PushedFact g (loads word ∷ []) t leaf small r s
word_tells g t word leaf small r s few may is =
    one_push g (loads word ∷ []) t leaf small r (word_as_known (pos word) (s.frame (pos word))) s is
    (loaded_words_are_known g word s (few_counted word few) may)

-- ---- scalars

number_read : (word : ℕ) (f : Facts) (r : Ends) → IsNumber f word r
    → (word_as_known (pos word) (f (pos word))).fact ≡ number_in r
number_read word f r is = ap (λ (w : WordFact). (word_as_known (pos word) w).fact) is

-- an index has the range of its turns
index_read : (word : ℕ) (f : Facts) (g : Scene) (head : ℕ) (r : Ends) → HasTurns r
    → f (pos word) ≡ Index (loop_of g head r) → (word_as_known (pos word) (f (pos word))).fact ≡ number_in r
index_read word f g head r turns is =
    let last : r.lo +ℤ pos (count_in r) -ℤ pos 1 ≡ r.hi = omega (arith, ints, turns) in
    ap (λ (w : WordFact). (word_as_known (pos word) w).fact) is
    ∙ ap (λ (hi : ℤ). number_in (record { lo = r.lo; hi = hi })) last

scalar_tells : (g : Scene) (top t : ℕ) (o : Option Home) (kind : ScalarKind) (type : ValueType) (range : Ends)
    (reference leaf small : Bool) (s : Told) → top ≤ MAX_DATA_WORDS → IsHousedThere g top o (Scalar kind type range)
    → AreKnownThere g s.frame o (Scalar kind type range)
    → PushedFact g.setting (scalar_code reference o) t leaf small range s
scalar_tells g top t None kind type range reference leaf small s few housed is = absurd housed
scalar_tells g top t (Some Nowhere) kind type range reference leaf small s few housed is = absurd housed
scalar_tells g top t (Some (Word w)) kind type range true leaf small s few housed is =
    let less = housed.1 in
    word_tells g.setting t w leaf small range s (omega (arith, less, few)) housed.2 (number_read w s.frame range is)
scalar_tells g top t (Some (Word w)) kind type range false leaf small s few housed is =
    let less = housed.1 in
    word_tells g.setting t w leaf small range s (omega (arith, less, few)) housed.2 (number_read w s.frame range is)
scalar_tells g top t (Some (Block w head)) kind type range true leaf small s few housed is =
    let less = housed.1 in
    word_tells g.setting t w leaf small range s (omega (arith, less, few)) housed.2
    (index_read w s.frame g head range housed.3 is.0)
scalar_tells g top t (Some (Block w head)) kind type range false leaf small s few housed is =
    let less = housed.1 in
    word_tells g.setting t w leaf small range s (omega (arith, less, few)) housed.2
    (index_read w s.frame g head range housed.3 is.0)
scalar_tells g top t (Some (Link n)) kind type range reference leaf small s few housed is = absurd housed
scalar_tells g top t (Some (home.Table vs)) kind type range reference leaf small s few housed is = absurd housed
scalar_tells g top t (Some (Passed w)) kind type range reference leaf small s few housed is = absurd housed

pub scalars_tell : ScalarsTell
scalars_tell g top t es name kind type range reference leaf small scope means s holds =
    let k : Meaning = Scalar kind type range in
    scalar_tells g top t (home_of g.homes es name) kind type range reference leaf small s scope.few
    (name_has (IsHousedThere g top) g.homes es name k scope.housed means)
    (name_has (AreKnownThere g s.frame) g.homes es name k holds means)
