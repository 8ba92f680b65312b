-- What is put off of entries, after each move of what is known.
use Rattle.std.proofs.Common.{◌≡◌, ℕ, suc, ◌<◌, Bool, true, false, cond, List, [], ◌∷◌, length, refl, sym, ap}
use Rattle.std.proofs.Common.{Option, Some, None, ◌⊎◌, inl, inr, subst, arith, ◌∙◌, nat_eq, nat_lt, option_map}
use Rattle.std.proofs.lemmas.Int.{ints, clamps}
use Rattle.std.proofs.lemmas.Bool.{eqb-true}
use Rattle.small_laws.proofs.Comparisons.{gt-eqb, eqb_comm}
use Rattle.word_arithmetic.specs.Range.{Ends, hull}
use Rattle.scalar_ranges.specs.declared.slots.Form.{Form}
use Rattle.scalar_ranges.specs.declared.slots.Form.TheVariants as forms
use Rattle.scalar_ranges.specs.Entries.{Meaning, Constant, Scalar, Array, Channel, Channels, Procedure, Entry, entry_at}
use Rattle.scalar_ranges.specs.Moves.{outermost, at_number, with_meaning, is_one_of, of_both, taken}
use Rattle.scalar_ranges.specs.Moves.{hull_meaning, hulls}
use Rattle.scalar_ranges.specs.MoveLaws.{meaning_at}
use Rattle.scalar_ranges.specs.Changes.{changed_to}
use Rattle.scalar_ranges.specs.Deferring.{of_form, entry_left, entries_left, further, AreAlike}
use Rattle.scalar_ranges.proofs.Hulls.{meaning_again, meaning_itself}

pub left_long : (f : Form) (p : ℕ → Option Meaning) (es : List Entry) → length (entries_left f p es) ≡ length es
left_long f p [] = refl
left_long f p (e ∷ es) = ap suc (left_long f p es)

pub same_below : (f : Form) (p q : ℕ → Option Meaning) (es : List Entry) → ((i : ℕ) → i < length es → q i ≡ p i)
    → entries_left f q es ≡ entries_left f p es
same_below f p q [] same = refl
same_below f p q (e ∷ es) same =
    λ i. entry_left f (same (length es) (omega arith) i) e ∷ same_below f p q es (λ k less. same k (omega arith)) i

-- nothing is put off
pub none_left : (f : Form) (p : ℕ → Option Meaning) (es : List Entry) → ((i : ℕ) → p i ≡ None)
    → entries_left f p es ≡ es
none_left f p [] none = refl
none_left f p (e ∷ es) none = λ i. entry_left f (none (length es) i) e ∷ none_left f p es none i

-- ---- one entry

changed_by : {A : Type 0} (t : Bool) (h : A → A) (n : ℕ) (x : A) (xs : List A)
    → length (at_number h n xs) ≡ length xs → length (cond t (h x ∷ xs) (x ∷ at_number h n xs)) ≡ suc (length xs)
changed_by true h n x xs long = refl
changed_by false h n x xs long = ap suc long

changed_long : {A : Type 0} (h : A → A) (n : ℕ) (xs : List A) → length (at_number h n xs) ≡ length xs
changed_long h n [] = refl
changed_long h n (x ∷ xs) = changed_by (nat_eq (length xs) n) h n x xs (changed_long h n xs)

module _ (f : Form) (p q : ℕ → Option Meaning) (h g : Entry → Entry) (n : ℕ)
    (here : (e : Entry) → entry_left f (q n) (h e) ≡ g (entry_left f (p n) e))
    (others : (i : ℕ) → nat_eq n i ≡ false → q i ≡ p i) where
  at_by : (t : Bool) (e : Entry) (es : List Entry) → nat_eq (length es) n ≡ t
      → entries_left f q (at_number h n es) ≡ at_number g n (entries_left f p es)
      → entries_left f q (cond t (h e ∷ es) (e ∷ at_number h n es))
      ≡ cond t (g (entry_left f (p (length es)) e) ∷ entries_left f p es)
      (entry_left f (p (length es)) e ∷ at_number g n (entries_left f p es))
  at_by true e es test further =
      let same = eqb-true (length es) n test in
      let first = subst (λ k. entry_left f (q k) (h e) ≡ g (entry_left f (p k) e)) (sym same) (here e) in
      λ i. first i ∷ same_below f p q es (λ k less. others k (gt-eqb n k (omega arith))) i
  at_by false e es test further =
      let first = ap q (changed_long h n es) ∙ others (length es) (eqb_comm n (length es) ∙ test) in
      λ i. entry_left f (first i) e ∷ further i

  pub at_left : (es : List Entry) → entries_left f q (at_number h n es) ≡ at_number g n (entries_left f p es)
  at_left [] = refl
  at_left (e ∷ es) =
      at_by (nat_eq (length es) n) e es refl (at_left es)
      ∙ ap (λ k. cond (nat_eq k n) (g (entry_left f (p (length es)) e) ∷ entries_left f p es)
      (entry_left f (p (length es)) e ∷ at_number g n (entries_left f p es))) (sym (left_long f p es))

not_changed_by : (t : Bool) (n : ℕ) (e : Entry) (es : List Entry) → at_number (λ k. k) n es ≡ es
    → cond t (e ∷ es) (e ∷ at_number (λ k. k) n es) ≡ e ∷ es
not_changed_by true n e es h = refl
not_changed_by false n e es h = ap (λ ks. e ∷ ks) h

pub not_changed : (n : ℕ) (es : List Entry) → at_number (λ (e : Entry). e) n es ≡ es
not_changed n [] = refl
not_changed n (e ∷ es) = not_changed_by (nat_eq (length es) n) n e es (not_changed n es)

-- an entry of which nothing more is put off, once it means what was left of it
pub released : (f : Form) (p q : ℕ → Option Meaning) (n : ℕ) (w : Meaning) (es : List Entry) → p n ≡ Some w
    → q n ≡ None → ((i : ℕ) → nat_eq n i ≡ false → q i ≡ p i)
    → entries_left f q (at_number (with_meaning (λ m. of_form f m w)) n es) ≡ entries_left f p es
released f p q n w es is none others =
    let h = with_meaning (λ m. of_form f m w) in
    at_left f p q h (λ e. e) n
    (λ e. ap (λ o. entry_left f o (h e)) none ∙ ap (λ o. entry_left f o e) (sym is)) others es
    ∙ not_changed n (entries_left f p es)

-- an entry of which nothing is put off changes
pub changed_left : (f : Form) (p : ℕ → Option Meaning) (n : ℕ) (h : Entry → Entry) (es : List Entry) → p n ≡ None
    → entries_left f p (at_number h n es) ≡ at_number h n (entries_left f p es)
changed_left f p n h es none =
    at_left f p p h h n (λ e. ap (λ o. entry_left f o (h e)) none ∙ ap (λ o. h (entry_left f o e)) (sym none))
    (λ i apart. refl) es

left_whole : (o : Option Meaning) (m : Meaning) (e : Entry)
    → with_meaning (λ k. m) e ≡ with_meaning (λ k. m) (entry_left forms.Whole o e)
left_whole None m e = refl
left_whole (Some w) m e = refl

-- something is put off of an entry
pub put_left : (p q : ℕ → Option Meaning) (n : ℕ) (m : Meaning) (es : List Entry) → q n ≡ Some m
    → ((i : ℕ) → nat_eq n i ≡ false → q i ≡ p i)
    → entries_left forms.Whole q es ≡ changed_to m n (entries_left forms.Whole p es)
put_left p q n m es is others =
    ap (entries_left forms.Whole q) (sym (not_changed n es))
    ∙ at_left forms.Whole p q (λ e. e) (with_meaning (λ k. m)) n
    (λ e. ap (λ o. entry_left forms.Whole o e) is ∙ left_whole (p n) m e) others es

-- ---- what is read

abbrev pub joined : Form → Option Meaning → Meaning → Meaning
joined f None m = m
joined f (Some w) m = of_form f m w

entry_joined : (f : Form) (o : Option Meaning) (e : Entry)
    → entry_left f o e ≡ record { name = e.name; meaning = joined f o e.meaning }
entry_joined f None e = refl
entry_joined f (Some w) e = refl

found_by : (t : Bool) (f : Form) (p : ℕ → Option Meaning) (n : ℕ) (e : Entry) (es : List Entry) (o u : Option Entry)
    → nat_eq (length es) n ≡ t
    → o ≡ option_map (λ (k : Entry). record { name = k.name; meaning = joined f (p n) k.meaning }) u
    → cond t (Some (entry_left f (p (length es)) e)) o
    ≡ option_map (λ (k : Entry). record { name = k.name; meaning = joined f (p n) k.meaning }) (cond t (Some e) u)
found_by true f p n e es o u test further =
    let same = eqb-true (length es) n test in
    ap (λ k. Some (entry_left f (p k) e)) same ∙ ap Some (entry_joined f (p n) e)
found_by false f p n e es o u test further = further

pub entry_found : (f : Form) (p : ℕ → Option Meaning) (n : ℕ) (es : List Entry) → entry_at n (entries_left f p es)
    ≡ option_map (λ (k : Entry). record { name = k.name; meaning = joined f (p n) k.meaning }) (entry_at n es)
entry_found f p n [] = refl
entry_found f p n (e ∷ es) =
    ap (λ k. cond (nat_eq k n) (Some (entry_left f (p (length es)) e)) (entry_at n (entries_left f p es)))
    (left_long f p es)
    ∙ found_by (nat_eq (length es) n) f p n e es (entry_at n (entries_left f p es)) (entry_at n es) refl
    (entry_found f p n es)

meant_by : (t : Bool) (f : Form) (p : ℕ → Option Meaning) (n : ℕ) (e : Entry) (es : List Entry) (o u : Option Meaning)
    → nat_eq (length es) n ≡ t → o ≡ option_map (joined f (p n)) u
    → cond t (Some (entry_left f (p (length es)) e).meaning) o
    ≡ option_map (joined f (p n)) (cond t (Some e.meaning) u)
meant_by true f p n e es o u test further =
    let same = eqb-true (length es) n test in
    ap (λ k. Some (entry_left f (p k) e).meaning) same ∙ ap (λ (k : Entry). Some k.meaning) (entry_joined f (p n) e)
meant_by false f p n e es o u test further = further

pub meaning_left : (f : Form) (p : ℕ → Option Meaning) (n : ℕ) (es : List Entry)
    → meaning_at n (entries_left f p es) ≡ option_map (joined f (p n)) (meaning_at n es)
meaning_left f p n [] = refl
meaning_left f p n (e ∷ es) =
    ap (λ k. cond (nat_eq k n) (Some (entry_left f (p (length es)) e).meaning) (meaning_at n (entries_left f p es)))
    (left_long f p es)
    ∙ meant_by (nat_eq (length es) n) f p n e es (meaning_at n (entries_left f p es)) (meaning_at n es) refl
    (meaning_left f p n es)

-- ---- the outermost ones

cut_by : (t : Bool) (f : Form) (p : ℕ → Option Meaning) (count : ℕ) (e : Entry) (es : List Entry)
    → entries_left f p (outermost count es) ≡ outermost count (entries_left f p es)
    → entries_left f p (cond t (e ∷ es) (outermost count es))
    ≡ cond t (entry_left f (p (length es)) e ∷ entries_left f p es) (outermost count (entries_left f p es))
cut_by true f p count e es further = refl
cut_by false f p count e es further = further

pub cut_left : (f : Form) (p : ℕ → Option Meaning) (count : ℕ) (es : List Entry)
    → entries_left f p (outermost count es) ≡ outermost count (entries_left f p es)
cut_left f p count [] = refl
cut_left f p count (e ∷ es) =
    cut_by (nat_lt (length es) count) f p count e es (cut_left f p count es)
    ∙ ap (λ k. cond (nat_lt k count) (entry_left f (p (length es)) e ∷ entries_left f p es)
    (outermost count (entries_left f p es))) (sym (left_long f p es))

-- ---- where a branch ends

range_first : (r s : Ends) → hull r (hull r s) ≡ hull r s
range_first r s = λ i. record {
  lo = (let e : (hull r (hull r s)).lo ≡ (hull r s).lo = omega (arith, ints, clamps) in e) i;
  hi = (let e : (hull r (hull r s)).hi ≡ (hull r s).hi = omega (arith, ints, clamps) in e) i;
}

range_second : (r s : Ends) → hull r (hull s r) ≡ hull r s
range_second r s = λ i. record {
  lo = (let e : (hull r (hull s r)).lo ≡ (hull r s).lo = omega (arith, ints, clamps) in e) i;
  hi = (let e : (hull r (hull s r)).hi ≡ (hull r s).hi = omega (arith, ints, clamps) in e) i;
}

range_third : (r s : Ends) → hull (hull r s) r ≡ hull r s
range_third r s = λ i. record {
  lo = (let e : (hull (hull r s) r).lo ≡ (hull r s).lo = omega (arith, ints, clamps) in e) i;
  hi = (let e : (hull (hull r s) r).hi ≡ (hull r s).hi = omega (arith, ints, clamps) in e) i;
}

hull_first : (m w : Meaning) → hull_meaning m (hull_meaning m w) ≡ hull_meaning m w
hull_first (Scalar kind type r) (Scalar k t s) = ap (Scalar kind type) (range_first r s)
hull_first (Scalar kind type r) (Constant t v) = meaning_itself (Scalar kind type r)
hull_first (Scalar kind type r) (Array k t size s) = meaning_itself (Scalar kind type r)
hull_first (Scalar kind type r) (Channel t) = meaning_itself (Scalar kind type r)
hull_first (Scalar kind type r) (Channels t size) = meaning_itself (Scalar kind type r)
hull_first (Scalar kind type r) (Procedure number) = meaning_itself (Scalar kind type r)
hull_first (Constant type value) w = refl
hull_first (Array kind type size range) w = refl
hull_first (Channel type) w = refl
hull_first (Channels type size) w = refl
hull_first (Procedure number) w = refl

hull_second : (m w : Meaning) → hull_meaning m (hull_meaning w m) ≡ hull_meaning m w
hull_second (Scalar kind type r) (Scalar k t s) = ap (Scalar kind type) (range_second r s)
hull_second (Scalar kind type r) (Constant t v) = refl
hull_second (Scalar kind type r) (Array k t size s) = refl
hull_second (Scalar kind type r) (Channel t) = refl
hull_second (Scalar kind type r) (Channels t size) = refl
hull_second (Scalar kind type r) (Procedure number) = refl
hull_second (Constant type value) w = refl
hull_second (Array kind type size range) w = refl
hull_second (Channel type) w = refl
hull_second (Channels type size) w = refl
hull_second (Procedure number) w = refl

hull_third : (m w : Meaning) → hull_meaning (hull_meaning m w) m ≡ hull_meaning m w
hull_third (Scalar kind type r) (Scalar k t s) = ap (Scalar kind type) (range_third r s)
hull_third (Scalar kind type r) (Constant t v) = meaning_itself (Scalar kind type r)
hull_third (Scalar kind type r) (Array k t size s) = meaning_itself (Scalar kind type r)
hull_third (Scalar kind type r) (Channel t) = meaning_itself (Scalar kind type r)
hull_third (Scalar kind type r) (Channels t size) = meaning_itself (Scalar kind type r)
hull_third (Scalar kind type r) (Procedure number) = meaning_itself (Scalar kind type r)
hull_third (Constant type value) w = refl
hull_third (Array kind type size range) w = refl
hull_third (Channel type) w = refl
hull_third (Channels type size) w = refl
hull_third (Procedure number) w = refl

hull_form : (f : Form) (m w : Meaning) → hull_meaning m w ≡ hull_meaning m (of_form f m w)
hull_form forms.Whole m w = refl
hull_form forms.Ahead m w = sym (hull_first m w)
hull_form forms.Behind m w = sym (hull_second m w)

form_hull : (f : Form) (m w : Meaning) → of_form (further f) m w ≡ hull_meaning (of_form f m w) m
form_hull forms.Whole m w = refl
form_hull forms.Ahead m w = sym (hull_third m w)
form_hull forms.Behind m w = sym (meaning_again w m)

abbrev hull_entry : Entry → Entry → Entry
hull_entry a b = record { name = a.name; meaning = hull_meaning a.meaning b.meaning }

hull_itself : (e : Entry) → hull_entry e e ≡ e
hull_itself e = ap (λ m. record { name = e.name; meaning = m }) (meaning_itself e.meaning)

going_one : (f : Form) (o : Option Meaning) (e : Entry)
    → entry_left forms.Ahead o (hull_entry e e) ≡ hull_entry e (entry_left f o e)
going_one f None e = refl
going_one f (Some w) e =
    ap (λ m. record { name = e.name; meaning = m })
    (ap (λ m. hull_meaning m w) (meaning_itself e.meaning) ∙ hull_form f e.meaning w)

ended_one : (f : Form) (o : Option Meaning) (e : Entry)
    → entry_left (further f) o (hull_entry e e) ≡ hull_entry (entry_left f o e) e
ended_one f None e = refl
ended_one f (Some w) e =
    ap (λ m. record { name = e.name; meaning = m })
    (ap (λ m. of_form (further f) m w) (meaning_itself e.meaning) ∙ form_hull f e.meaning w)

pair_one : (f : Form) (o : Option Meaning) (d e : Entry) → (o ≡ None) ⊎ (d ≡ e)
    → entry_left forms.Ahead o (hull_entry d e) ≡ hull_entry d (entry_left f o e)
pair_one f o d e (inl none) =
    ap (λ k. entry_left forms.Ahead k (hull_entry d e)) none
    ∙ ap (λ k. hull_entry d (entry_left f k e)) (sym none)
pair_one f o d e (inr same) =
    ap (λ k. entry_left forms.Ahead o (hull_entry k e)) same ∙ going_one f o e
    ∙ ap (λ k. hull_entry k (entry_left f o e)) (sym same)

pair_ended : (f : Form) (o : Option Meaning) (d e : Entry) → (o ≡ None) ⊎ (d ≡ e)
    → entry_left (further f) o (hull_entry d e) ≡ hull_entry (entry_left f o d) e
pair_ended f o d e (inl none) =
    ap (λ k. entry_left (further f) k (hull_entry d e)) none
    ∙ ap (λ k. hull_entry (entry_left f k d) e) (sym none)
pair_ended f o d e (inr same) =
    ap (λ k. entry_left (further f) o (hull_entry k e)) same ∙ ended_one f o e
    ∙ ap (λ k. hull_entry (entry_left f o k) e) (sym same)

hulls_long : (ds es : List Entry) → length (hulls ds es) ≡ length ds
hulls_long [] es = refl
hulls_long (d ∷ ds) [] = refl
hulls_long (d ∷ ds) (e ∷ es) = ap suc (hulls_long ds es)

-- the branch that goes on
pub going_hulls : (f : Form) (p : ℕ → Option Meaning) (ds es : List Entry) → length ds ≡ length es → AreAlike p ds es
    → entries_left forms.Ahead p (hulls ds es) ≡ hulls ds (entries_left f p es)
going_hulls f p [] es long alike = refl
going_hulls f p (d ∷ ds) [] long alike = absurd alike
going_hulls f p (d ∷ ds) (e ∷ es) long alike =
    let same : length ds ≡ length es = omega arith in
    λ i. (ap (λ k. entry_left forms.Ahead (p k) (hull_entry d e)) (hulls_long ds es)
    ∙ pair_one f (p (length ds)) d e alike.0 ∙ ap (λ k. hull_entry d (entry_left f (p k) e)) same) i
    ∷ going_hulls f p ds es same alike.1 i

-- a branch after it
pub ended_hulls : (f : Form) (p : ℕ → Option Meaning) (ds es : List Entry) → AreAlike p ds es
    → entries_left (further f) p (hulls ds es) ≡ hulls (entries_left f p ds) es
ended_hulls f p [] es alike = refl
ended_hulls f p (d ∷ ds) [] alike = absurd alike
ended_hulls f p (d ∷ ds) (e ∷ es) alike =
    λ i. (ap (λ k. entry_left (further f) (p k) (hull_entry d e)) (hulls_long ds es)
    ∙ pair_ended f (p (length ds)) d e alike.0) i ∷ ended_hulls f p ds es alike.1 i

around_one : (f : Form) (o : Option Meaning) (d e : Entry) → (o ≡ None) ⊎ (d ≡ e)
    → entry_left f o (hull_entry d e) ≡ hull_entry (entry_left f o d) (entry_left f o e)
around_one f o d e (inl none) =
    ap (λ k. entry_left f k (hull_entry d e)) none
    ∙ ap (λ k. hull_entry (entry_left f k d) (entry_left f k e)) (sym none)
around_one f o d e (inr same) =
    ap (λ k. entry_left f o (hull_entry k e)) same ∙ ap (entry_left f o) (hull_itself e)
    ∙ sym (hull_itself (entry_left f o e)) ∙ ap (λ k. hull_entry (entry_left f o k) (entry_left f o e)) (sym same)

-- a branch of a block that began behind
pub around_hulls : (f : Form) (p : ℕ → Option Meaning) (ds es : List Entry) → length ds ≡ length es → AreAlike p ds es
    → entries_left f p (hulls ds es) ≡ hulls (entries_left f p ds) (entries_left f p es)
around_hulls f p [] es long alike = refl
around_hulls f p (d ∷ ds) [] long alike = absurd alike
around_hulls f p (d ∷ ds) (e ∷ es) long alike =
    let same : length ds ≡ length es = omega arith in
    λ i. (ap (λ k. entry_left f (p k) (hull_entry d e)) (hulls_long ds es)
    ∙ around_one f (p (length ds)) d e alike.0
    ∙ ap (λ k. hull_entry (entry_left f (p (length ds)) d) (entry_left f (p k) e)) same) i
    ∷ around_hulls f p ds es same alike.1 i

-- ---- where a component ends

taken_long : (ns : List ℕ) (ds es : List Entry) → length (taken ns ds es) ≡ length ds
taken_long ns [] es = refl
taken_long ns (d ∷ ds) [] = refl
taken_long ns (d ∷ ds) (e ∷ es) = ap suc (taken_long ns ds es)

take_one : (t : Bool) (f : Form) (o : Option Meaning) (d e : Entry)
    → entry_left f (cond t o None) (of_both t d e) ≡ of_both t d (entry_left f o e)
take_one true f o d e = refl
take_one false f o d e = refl

-- the one that goes on
pub going_taken : (f : Form) (p q : ℕ → Option Meaning) (ns : List ℕ) (ds es : List Entry) → length ds ≡ length es
    → ((i : ℕ) → q i ≡ cond (is_one_of ns i) (p i) None)
    → entries_left f q (taken ns ds es) ≡ taken ns ds (entries_left f p es)
going_taken f p q ns [] es long is = refl
going_taken f p q ns (d ∷ ds) [] long is = absurd (omega arith)
going_taken f p q ns (d ∷ ds) (e ∷ es) long is =
    let same : length ds ≡ length es = omega arith in
    let t = is_one_of ns (length ds) in
    λ i. (ap (λ k. entry_left f (q k) (of_both t d e)) (taken_long ns ds es)
    ∙ ap (λ o. entry_left f o (of_both t d e)) (is (length ds)) ∙ take_one t f (p (length ds)) d e
    ∙ ap (λ k. of_both t d (entry_left f (p k) e)) same) i ∷ going_taken f p q ns ds es same is i

keep_one : (t : Bool) (f : Form) (o : Option Meaning) (d e : Entry)
    → entry_left f (cond t None o) (of_both t d e) ≡ of_both t (entry_left f o d) e
keep_one true f o d e = refl
keep_one false f o d e = refl

-- one after it
pub ended_taken : (f : Form) (p q : ℕ → Option Meaning) (ns : List ℕ) (ds es : List Entry) → length ds ≡ length es
    → ((i : ℕ) → q i ≡ cond (is_one_of ns i) None (p i))
    → entries_left f q (taken ns ds es) ≡ taken ns (entries_left f p ds) es
ended_taken f p q ns [] es long is = refl
ended_taken f p q ns (d ∷ ds) [] long is = absurd (omega arith)
ended_taken f p q ns (d ∷ ds) (e ∷ es) long is =
    let same : length ds ≡ length es = omega arith in
    let t = is_one_of ns (length ds) in
    λ i. (ap (λ k. entry_left f (q k) (of_both t d e)) (taken_long ns ds es)
    ∙ ap (λ o. entry_left f o (of_both t d e)) (is (length ds)) ∙ keep_one t f (p (length ds)) d e
    ∙ ap (λ k. of_both (is_one_of ns k) (entry_left f (p (length ds)) d) e) (sym (left_long f p ds))) i
    ∷ ended_taken f p q ns ds es same is i

both_one : (t : Bool) (f : Form) (o : Option Meaning) (d e : Entry)
    → entry_left f o (of_both t d e) ≡ of_both t (entry_left f o d) (entry_left f o e)
both_one true f o d e = refl
both_one false f o d e = refl

-- one of a block that began behind
pub around_taken : (f : Form) (p : ℕ → Option Meaning) (ns : List ℕ) (ds es : List Entry) → length ds ≡ length es
    → entries_left f p (taken ns ds es) ≡ taken ns (entries_left f p ds) (entries_left f p es)
around_taken f p ns [] es long = refl
around_taken f p ns (d ∷ ds) [] long = absurd (omega arith)
around_taken f p ns (d ∷ ds) (e ∷ es) long =
    let same : length ds ≡ length es = omega arith in
    let t = is_one_of ns (length ds) in
    λ i. (ap (λ k. entry_left f (p k) (of_both t d e)) (taken_long ns ds es)
    ∙ both_one t f (p (length ds)) d e
    ∙ (λ j. of_both (is_one_of ns (sym (left_long f p ds) j)) (entry_left f (p (length ds)) d)
    (entry_left f (p (same j)) e))) i
    ∷ around_taken f p ns ds es same i
