-- What is found of names when a spelling gets its number, one declaration more is made, or the innermost one is left.
use Rattle.std.proofs.Common.{◌≡◌, ℕ, ◌<◌, ◌≤◌, Bool, true, false, cond, List, [], ◌∷◌, ◌++◌, length, map, reverse}
use Rattle.std.proofs.Common.{Option, Some, None, set, refl, sym, ap, ◌∙◌, arith}
use Rattle.std.proofs.lemmas.List.{reverse-append, map-append, length-reverse, length-map, length-append}
use Rattle.std.proofs.lemmas.List.{get_or-set_same, get_or-set_other, get_or_append_left}
use Rattle.std.proofs.Math.Seq.{get_or-append_seam}
use Rattle.std.proofs.lemmas.Slice.Eq.{bytes_eq-Decides}
use Rattle.std.specs.Str.{bytes_eq}
use Rattle.std.proofs.lemmas.Bool.{lt-ltb}
use Rattle.scalar_ranges.specs.declared.names.Row.{Row}
use Rattle.scalar_ranges.specs.declared.names.Names.{Names}
use Rattle.scalar_ranges.specs.Naming.{number_of, hidden_by, names_from, hides_from, spellings_from, spelling_of}
use Rattle.scalar_ranges.specs.Naming.{innermost_of}
use Rattle.scalar_ranges.specs.Moves.{outermost}

pub names_more : (rows : List Row) (r : Row) → names_from (rows ++ r ∷ []) ≡ r.name.now ∷ names_from rows
names_more rows r =
    ap reverse (map-append (λ (r : Row). r.name.now) rows (r ∷ []))
    ∙ reverse-append (map (λ (r : Row). r.name.now) rows) (r.name.now ∷ [])

pub hides_more : (rows : List Row) (r : Row) → hides_from (rows ++ r ∷ []) ≡ r.hides ∷ hides_from rows
hides_more rows r =
    ap reverse (map-append (λ (r : Row). r.hides) rows (r ∷ []))
    ∙ reverse-append (map (λ (r : Row). r.hides) rows) (r.hides ∷ [])

pub spellings_more : (rows : List Row) (r : Row) → spellings_from (rows ++ r ∷ []) ≡ r.spelling ∷ spellings_from rows
spellings_more rows r =
    ap reverse (map-append (λ (r : Row). r.spelling) rows (r ∷ []))
    ∙ reverse-append (map (λ (r : Row). r.spelling) rows) (r.spelling ∷ [])

pub as_many : (rows : List Row) → length (names_from rows) ≡ length rows
as_many rows = length-reverse (map (λ (r : Row). r.name.now) rows) ∙ length-map rows (λ (r : Row). r.name.now)

-- Each spelling with a number has its own, which is below the length of the list.
pub record Numbered (number : List ℕ → Option ℕ) (innermost : List (Option ℕ)) : Type 0 where
  pub apart : (p q : List ℕ) (n : ℕ) → number p ≡ Some n → number q ≡ Some n → p ≡ q
  pub within : (q : List ℕ) (n : ℕ) → number q ≡ Some n → n < length innermost

pub numbered_of : (names : Names) → Numbered (λ q. spelling_of q names.spellings) names.innermost.items
numbered_of names = record {
  apart = names.apart;
  within = λ q n h. let below = names.within q n h in omega arith;
}

-- The list has the innermost declaration of each name under the number of its spelling.
pub record Finds (number : List ℕ → Option ℕ) (innermost : List (Option ℕ)) (names : List (List ℕ)) : Type 0 where
  pub at : (q : List ℕ) → innermost_of (number q) innermost ≡ number_of q names

-- ---- what the list has of one spelling changes

put_by : (t : Bool) (number : Option ℕ) (innermost : List (Option ℕ)) (n : ℕ) (w : Option ℕ) → n < length innermost
    → (t ≡ true → number ≡ Some n) → (t ≡ false → number ≡ Some n → ⊥)
    → innermost_of number (set innermost n w) ≡ cond t w (innermost_of number innermost)
put_by true number innermost n w below same other =
    ap (λ m. innermost_of m (set innermost n w)) (same refl) ∙ get_or-set_same innermost n w None below
put_by false None innermost n w below same other = refl
put_by false (Some m) innermost n w below same other =
    get_or-set_other innermost n m w None (λ e. other refl (ap Some e))

put : (number : List ℕ → Option ℕ) (innermost : List (Option ℕ)) (name : List ℕ) (n : ℕ) (w : Option ℕ)
    → number name ≡ Some n → Numbered number innermost → (q : List ℕ)
    → innermost_of (number q) (set innermost n w) ≡ cond (bytes_eq name q) w (innermost_of (number q) innermost)
put number innermost name n w is numbered q =
    put_by (bytes_eq name q) (number q) innermost n w (numbered.within name n is)
    (λ h. ap number (sym ((bytes_eq-Decides name q).0 h)) ∙ is)
    (λ h there. let same = (bytes_eq-Decides name q).1 (numbered.apart name q n is there) in absurd (cc))

pub found_more : (number : List ℕ → Option ℕ) (innermost : List (Option ℕ)) (names : List (List ℕ)) (name : List ℕ)
    (n count : ℕ) → count ≡ length names → number name ≡ Some n → Numbered number innermost
    → Finds number innermost names → Finds number (set innermost n (Some count)) (name ∷ names)
found_more number innermost names name n count many is numbered finds = record {
  at = λ q. put number innermost name n (Some count) is numbered q
      ∙ (λ i. cond (bytes_eq name q) (Some (many i)) (finds.at q i));
}

left_by : (t : Bool) (name q : List ℕ) (names : List (List ℕ)) (w : Option ℕ) → (t ≡ true → name ≡ q)
    → w ≡ number_of name names
    → cond t w (cond t (Some (length names)) (number_of q names)) ≡ number_of q names
left_by true name q names w same is = is ∙ ap (λ n. number_of n names) (same refl)
left_by false name q names w same is = refl

-- what is found where the innermost declaration is left
pub found_less : (number : List ℕ → Option ℕ) (innermost : List (Option ℕ)) (names : List (List ℕ)) (name : List ℕ)
    (n : ℕ) (w : Option ℕ) → w ≡ number_of name names → number name ≡ Some n → Numbered number innermost
    → Finds number innermost (name ∷ names) → Finds number (set innermost n w) names
found_less number innermost names name n w hides is numbered finds = record {
  at = λ q. put number innermost name n w is numbered q
      ∙ ap (cond (bytes_eq name q) w) (finds.at q)
      ∙ left_by (bytes_eq name q) name q names w (bytes_eq-Decides name q).0 hides;
}

-- ---- a spelling gets the next number

-- the numbers after a spelling without one has got this one
pub record Gets (number : List ℕ → Option ℕ) (name : List ℕ) (new : ℕ) (after : List ℕ → Option ℕ) : Type 0 where
  pub none : number name ≡ None
  pub gives : (q : List ℕ) → after q ≡ cond (bytes_eq name q) (Some new) (number q)

-- a spelling that is the new one had no number
had_none : (number after : List ℕ → Option ℕ) (name : List ℕ) (new : ℕ) (q : List ℕ) → Gets number name new after
    → bytes_eq name q ≡ true → number q ≡ None
had_none number after name new q gets h = ap number (sym ((bytes_eq-Decides name q).0 h)) ∙ gets.none

new_at : (t : Bool) (number : Option ℕ) (innermost : List (Option ℕ)) → (t ≡ true → number ≡ None)
    → ((n : ℕ) → number ≡ Some n → n < length innermost)
    → innermost_of (cond t (Some (length innermost)) number) (innermost ++ None ∷ []) ≡ innermost_of number innermost
new_at true number innermost none below =
    get_or-append_seam innermost None [] None ∙ ap (λ n. innermost_of n innermost) (sym (none refl))
new_at false None innermost none below = refl
new_at false (Some n) innermost none below = get_or_append_left innermost (None ∷ []) None n (below n refl)

pub found_new : (number after : List ℕ → Option ℕ) (innermost : List (Option ℕ)) (names : List (List ℕ))
    (name : List ℕ) → Gets number name (length innermost) after → Numbered number innermost
    → Finds number innermost names → Finds after (innermost ++ None ∷ []) names
found_new number after innermost names name gets numbered finds = record {
  at = λ q. ap (λ n. innermost_of n (innermost ++ None ∷ [])) (gets.gives q)
      ∙ new_at (bytes_eq name q) (number q) innermost
      (had_none number after name (length innermost) q gets) (numbered.within q) ∙ finds.at q;
}

apart_by : (t u : Bool) (f g : Option ℕ) (name p q : List ℕ) (new n : ℕ) → cond t (Some new) f ≡ Some n
    → cond u (Some new) g ≡ Some n → (t ≡ true → name ≡ p) → (u ≡ true → name ≡ q) → (f ≡ Some n → n < new)
    → (g ≡ Some n → n < new) → (f ≡ Some n → g ≡ Some n → p ≡ q) → p ≡ q
apart_by true true f g name p q new n is other one two few fewer apart = sym (one refl) ∙ two refl
apart_by true false f g name p q new n is other one two few fewer apart =
    let same : new ≡ n = cc in let less = fewer other in absurd (omega arith)
apart_by false true f g name p q new n is other one two few fewer apart =
    let same : new ≡ n = cc in let less = few is in absurd (omega arith)
apart_by false false f g name p q new n is other one two few fewer apart = apart is other

within_by : (t : Bool) (f : Option ℕ) (new n : ℕ) → cond t (Some new) f ≡ Some n → (f ≡ Some n → n < new) → n ≤ new
within_by true f new n is few = let same : new ≡ n = cc in omega arith
within_by false f new n is few = let less = few is in omega arith

pub numbered_new : (number after : List ℕ → Option ℕ) (innermost : List (Option ℕ)) (name : List ℕ)
    → Gets number name (length innermost) after → Numbered number innermost
    → Numbered after (innermost ++ None ∷ [])
numbered_new number after innermost name gets numbered = record {
  apart = λ p q n one two. apart_by (bytes_eq name p) (bytes_eq name q) (number p) (number q) name p q
      (length innermost) n (sym (gets.gives p) ∙ one) (sym (gets.gives q) ∙ two) (bytes_eq-Decides name p).0
      (bytes_eq-Decides name q).0 (numbered.within p n) (numbered.within q n) (numbered.apart p q n);
  within = λ q n is.
      let few : n ≤ length innermost = within_by (bytes_eq name q) (number q) (length innermost) n
      (sym (gets.gives q) ∙ is) (numbered.within q n) in
      omega (arith, length-append innermost (None ∷ []));
}

-- a spelling that has a number keeps it
keeps_by : (t : Bool) (number : Option ℕ) (new n : ℕ) → (t ≡ true → number ≡ None) → number ≡ Some n
    → cond t (Some new) number ≡ Some n
keeps_by true number new n none is = let no = none refl in absurd (cc)
keeps_by false number new n none is = is

pub keeps : (number after : List ℕ → Option ℕ) (name : List ℕ) (new : ℕ) (q : List ℕ) (n : ℕ)
    → Gets number name new after → number q ≡ Some n → after q ≡ Some n
keeps number after name new q n gets is =
    gets.gives q ∙ keeps_by (bytes_eq name q) (number q) new n (had_none number after name new q gets) is

pub spelled_new : (number after : List ℕ → Option ℕ) (name : List ℕ) (new : ℕ) (names : List (List ℕ)) (ns : List ℕ)
    → Gets number name new after → map number names ≡ map Some ns → map after names ≡ map Some ns
spelled_new number after name new [] [] gets is = refl
spelled_new number after name new [] (n ∷ ns) gets is = absurd (cc)
spelled_new number after name new (q ∷ qs) [] gets is = absurd (cc)
spelled_new number after name new (q ∷ qs) (n ∷ ns) gets is =
    let first : number q ≡ Some n = cc in
    let kept = keeps number after name new q n gets first in
    let further = spelled_new number after name new qs ns gets (cc) in
    (λ i. kept i ∷ further i)

-- ---- the innermost declaration apart

-- what is known of the declarations before the innermost one
pub record Before (number : List ℕ → Option ℕ) (rows : List Row) (r : Row) : Type 0 where
  pub has : number r.name.now ≡ Some r.spelling
  pub spelled : map number (names_from rows) ≡ map Some (spellings_from rows)
  pub hides : r.hides ≡ number_of r.name.now (names_from rows)
  pub further : hides_from rows ≡ hidden_by (names_from rows)

pub before : (number : List ℕ → Option ℕ) (all rows : List Row) (r : Row) → all ≡ rows ++ r ∷ []
    → map number (names_from all) ≡ map Some (spellings_from all) → hides_from all ≡ hidden_by (names_from all)
    → Before number rows r
before number all rows r is spelled hides =
    let names = ap names_from is ∙ names_more rows r in
    let spelt : number r.name.now ∷ map number (names_from rows) ≡ Some r.spelling ∷ map Some (spellings_from rows) =
    sym (ap (map number) names) ∙ spelled ∙ ap (map Some) (ap spellings_from is ∙ spellings_more rows r) in
    let both : r.hides ∷ hides_from rows ≡ number_of r.name.now (names_from rows) ∷ hidden_by (names_from rows) =
    sym (ap hides_from is ∙ hides_more rows r) ∙ hides ∙ ap hidden_by names in
    record { has = cc; spelled = cc; hides = cc; further = cc }

-- ---- declarations that are left, one by one

pub none_less : {A : Type 0} (count : ℕ) (xs : List A) → length xs ≤ count → outermost count xs ≡ xs
none_less count [] h = refl
none_less count (x ∷ xs) h =
    ap (λ t. cond t (x ∷ xs) (outermost count xs)) (lt-ltb (length xs) count (omega arith))
