-- What a row of entries says of the words.
use Rattle.std.proofs.Common.{◌≡◌, ℕ, zero, suc, ◌<◌, ℤ, ◌≤ℤ◌, ◌<ℤ◌, Bool, true, false, ◌&&◌, cond, List, [], ◌∷◌}
use Rattle.std.proofs.Common.{length, get_or, take, drop, refl, sym, ap, ◌∙◌, subst, add-zero, arith}
use Rattle.std.proofs.lemmas.List.{get_or-drop}
use Rattle.std.proofs.lemmas.Int.{ints, by_lt_z}
use Rattle.std.proofs.lemmas.Bool.{and_parts, and_from}
use Rattle.small_laws.proofs.Comparisons.{lt-int_lt, le-int_le, lt-int_le, le-int_lt, int_le-true}
use Rattle.module_format.specs.declared.fact.Fact.TheVariants.{Unknown}
use Rattle.module_format.specs.Rows.{Entry}
use Rattle.states.specs.declared.known.WordFact.TheVariants.{Alone}
use Rattle.states.specs.State.{is_same_number, is_about, said_of, entry_fact}
use Rattle.module_format.specs.Order.{least_word}
use Rattle.module_format.specs.Facts.{end_of}
use Rattle.states.specs.Rows.{rise_from, AreApart}

-- ---- tests of numbers

-- ---- where a word lies

pub data Lies (entry : Entry) (k : ℤ) : Type 0 where
  before : k <ℤ entry.word → Lies entry k
  within : entry.word ≤ℤ k → k <ℤ end_of entry → Lies entry k
  behind : entry.word ≤ℤ k → end_of entry ≤ℤ k → Lies entry k

pub lies : (entry : Entry) (k : ℤ) → Lies entry k
lies entry k = by_lt_z k entry.word (λ h. before h) (λ h. by_lt_z k (end_of entry) (λ l. within h l) (λ l. behind h l))

pub about-before : (entry : Entry) (k : ℤ) → k <ℤ entry.word → is_about entry k ≡ false
about-before entry k h = rw (lt-int_le entry.word k h) refl

pub about-within : (entry : Entry) (k : ℤ) → entry.word ≤ℤ k → k <ℤ end_of entry → is_about entry k ≡ true
about-within entry k l h = and_from _ _ (le-int_le entry.word k l) (lt-int_lt k (end_of entry) h)

pub about-behind : (entry : Entry) (k : ℤ) → end_of entry ≤ℤ k → is_about entry k ≡ false
about-behind entry k h = and-no _ _ (le-int_lt k (end_of entry) h) where
  and-no : (x y : Bool) → y ≡ false → x && y ≡ false
  and-no true y q = q
  and-no false y q = refl

-- ---- entries that rise

pub rise-parts : (low : ℤ) (entry : Entry) (entries : List Entry) → rise_from low (entry ∷ entries) ≡ true
    → (low ≤ℤ entry.word) × (rise_from (end_of entry) entries ≡ true)
rise-parts low entry entries h =
    let p = and_parts _ _ h in (int_le-true low entry.word p.0, p.1)

pub rise-lower : (l low : ℤ) (entries : List Entry) → l ≤ℤ low → rise_from low entries ≡ true
    → rise_from l entries ≡ true
rise-lower l low [] h r = refl
rise-lower l low (entry ∷ entries) h r =
    let p = rise-parts low entry entries r in
    and_from _ _ (le-int_le l entry.word (omega (arith, ints))) p.1

-- the entries after the first
pub rise-tail : (low : ℤ) (entry : Entry) (entries : List Entry) → rise_from low (entry ∷ entries) ≡ true
    → rise_from low entries ≡ true
rise-tail low entry entries r =
    let p = rise-parts low entry entries r in
    rise-lower low (end_of entry) entries (omega (arith, ints)) p.1

-- below the first entry nothing is said
pub unknown-below : (low k : ℤ) (entries : List Entry) → rise_from low entries ≡ true → k <ℤ low
    → entry_fact entries k ≡ Alone Unknown
unknown-below low k [] r h = refl
unknown-below low k (entry ∷ entries) r h =
    let p = rise-parts low entry entries r in
    rw (about-before entry k (omega (arith, ints))) (unknown-below (end_of entry) k entries p.1 (omega (arith, ints)))

-- an entry begins no lower than all do
pub rise-at : (low : ℤ) (entries : List Entry) (i : ℕ) (d : Entry) → rise_from low entries ≡ true → i < length entries
    → low ≤ℤ (get_or entries i d).word
rise-at low [] i d r h = absurd (omega arith)
rise-at low (entry ∷ entries) zero d r h = (rise-parts low entry entries r).0
rise-at low (entry ∷ entries) (suc i) d r h =
    let p = rise-parts low entry entries r in
    let next = rise-at (end_of entry) entries i d p.1 (omega arith) in
    omega (arith, ints)

-- ---- halves

pub rise-take : (low : ℤ) (entries : List Entry) (n : ℕ) → rise_from low entries ≡ true
    → rise_from low (take n entries) ≡ true
rise-take low [] zero r = refl
rise-take low [] (suc n) r = refl
rise-take low (entry ∷ entries) zero r = refl
rise-take low (entry ∷ entries) (suc n) r =
    let p = and_parts _ _ r in and_from _ _ p.0 (rise-take (end_of entry) entries n p.1)

pub rise-drop : (low : ℤ) (entries : List Entry) (n : ℕ) → rise_from low entries ≡ true
    → rise_from low (drop n entries) ≡ true
rise-drop low [] zero r = refl
rise-drop low [] (suc n) r = refl
rise-drop low (entry ∷ entries) zero r = r
rise-drop low (entry ∷ entries) (suc n) r = rise-drop low entries n (rise-tail low entry entries r)

-- a word at or after an entry's first: the entries before that one say nothing of it
pub entry_fact-drop : (low k : ℤ) (entries : List Entry) (n : ℕ) (d : Entry) → rise_from low entries ≡ true
    → n < length entries → (get_or entries n d).word ≤ℤ k
    → entry_fact (drop n entries) k ≡ entry_fact entries k
entry_fact-drop low k [] n d r l h = absurd (omega arith)
entry_fact-drop low k (entry ∷ entries) zero d r l h = refl
entry_fact-drop low k (entry ∷ entries) (suc n) d r l h =
    let p = rise-parts low entry entries r in
    let next = rise-at (end_of entry) entries n d p.1 (omega arith) in
    rw (about-behind entry k (omega (arith, ints))) (entry_fact-drop (end_of entry) k entries n d p.1 (omega arith) h)

-- a word before an entry's first: that one and those after it say nothing of it
pub entry_fact-take : (low k : ℤ) (entries : List Entry) (n : ℕ) (d : Entry) → rise_from low entries ≡ true
    → n < length entries → k <ℤ (get_or entries n d).word
    → entry_fact (take n entries) k ≡ entry_fact entries k
entry_fact-take low k [] n d r l h = absurd (omega arith)
entry_fact-take low k (entry ∷ entries) zero d r l h =
    sym (unknown-below entry.word k (entry ∷ entries)
    (and_from _ _ (le-int_le entry.word entry.word (omega (arith, ints))) (rise-parts low entry entries r).1) h)
entry_fact-take low k (entry ∷ entries) (suc n) d r l h =
    let p = rise-parts low entry entries r in
    ap (λ f. cond (is_about entry k) (said_of entry.fact (is_same_number entry.word k)) f)
    (entry_fact-take (end_of entry) k entries n d p.1 (omega arith) h)

-- ---- a row from a word on

pub entry_fact-behind : (k word : ℤ) (entry : Entry) (entries : List Entry) → end_of entry ≤ℤ word → word ≤ℤ k
    → entry_fact (entry ∷ entries) k ≡ entry_fact entries k
entry_fact-behind k word entry entries e h = rw (about-behind entry k (omega (arith, ints))) refl

pub entry_fact-before : (low k : ℤ) (entry : Entry) (entries : List Entry) → rise_from low (entry ∷ entries) ≡ true
    → k <ℤ entry.word → entry_fact (entry ∷ entries) k ≡ Alone Unknown
entry_fact-before low k entry entries r h =
    unknown-below entry.word k (entry ∷ entries)
    (and_from _ _ (le-int_le entry.word entry.word (omega (arith, ints))) (rise-parts low entry entries r).1) h

pub entry_fact-within : (k : ℤ) (entry : Entry) (entries : List Entry) → entry.word ≤ℤ k → k <ℤ end_of entry
    → entry_fact (entry ∷ entries) k ≡ said_of entry.fact (is_same_number entry.word k)
entry_fact-within k entry entries l h = rw (about-within entry k l h) refl

-- ---- a binary search

-- the half from an entry on, where the word is at or after that entry's first
pub row-back : (rest back : List Entry) (mid : ℕ) (k w : ℤ) (d : Entry) → AreApart rest → back ≡ drop mid rest
    → mid < length rest → w ≡ (get_or back 0 d).word → w ≤ℤ k
    → AreApart back × (entry_fact back k ≡ entry_fact rest k)
row-back rest back mid k w d apart half low first le =
    let first_is : w ≡ (get_or rest mid d).word =
    first ∙ ap (λ (e : Entry). e.word)
    (ap (λ es. get_or es 0 d) half ∙ get_or-drop mid rest 0 d ∙ ap (λ n. get_or rest n d) (add-zero mid)) in (
      subst (λ es. AreApart es) (sym half) (rise-drop least_word rest mid apart),
      ap (λ es. entry_fact es k) half ∙ entry_fact-drop least_word k rest mid d apart low
          (subst (λ (z : ℤ). z ≤ℤ k) first_is le),
    )

-- the half up to an entry, where the word lies before that entry's first
pub row-front : (rest front back : List Entry) (mid : ℕ) (k w : ℤ) (d : Entry) → AreApart rest → front ≡ take mid rest
    → back ≡ drop mid rest → mid < length rest → w ≡ (get_or back 0 d).word → k <ℤ w
    → AreApart front × (entry_fact front k ≡ entry_fact rest k)
row-front rest front back mid k w d apart first_half half low first lt =
    let first_is : w ≡ (get_or rest mid d).word =
    first ∙ ap (λ (e : Entry). e.word)
    (ap (λ es. get_or es 0 d) half ∙ get_or-drop mid rest 0 d ∙ ap (λ n. get_or rest n d) (add-zero mid)) in (
      subst (λ es. AreApart es) (sym first_half) (rise-take least_word rest mid apart),
      ap (λ es. entry_fact es k) first_half
          ∙ entry_fact-take least_word k rest mid d apart low (subst (λ (z : ℤ). k <ℤ z) first_is lt),
    )

-- ---- a row from a word on

-- a row that begins after a word says nothing from there up to its first entry
pub segment-before : (row : List Entry) (entry : Entry) (later : List Entry) (start k : ℤ) → AreApart row
    → row ≡ entry ∷ later → start ≡ entry.word → k <ℤ start → entry_fact row k ≡ Alone Unknown
segment-before row entry later start k apart is start_is h =
    ap (λ es. entry_fact es k) is ∙ entry_fact-before least_word k entry later (subst (λ es. AreApart es) is apart)
    (subst (λ (z : ℤ). k <ℤ z) start_is h)

pub segment-within : (row : List Entry) (entry : Entry) (later : List Entry) (start end k : ℤ) → row ≡ entry ∷ later
    → start ≡ entry.word → end ≤ℤ end_of entry → start ≤ℤ k → k <ℤ end
    → entry_fact row k ≡ said_of entry.fact (is_same_number entry.word k)
segment-within row entry later start end k is start_is end_is l h =
    ap (λ es. entry_fact es k) is ∙ entry_fact-within k entry later (subst (λ (z : ℤ). z ≤ℤ k) start_is l)
    (omega (arith, ints))

-- an entry that ends before a word says nothing from there on
pub segment-behind : (row : List Entry) (entry : Entry) (later : List Entry) (end k : ℤ) → row ≡ entry ∷ later
    → end ≡ end_of entry → end ≤ℤ k → entry_fact later k ≡ entry_fact row k
segment-behind row entry later end k is end_is h =
    sym (ap (λ es. entry_fact es k) is ∙ entry_fact-behind k k entry later (subst (λ (z : ℤ). z ≤ℤ k) end_is h)
    (omega (arith, ints)))

pub segment-apart : (row : List Entry) (entry : Entry) (later : List Entry) → AreApart row → row ≡ entry ∷ later
    → AreApart later
segment-apart row entry later apart is = rise-tail least_word entry later (subst (λ es. AreApart es) is apart)
