-- What is put off of entries, by the program's list.
use Rattle.std.proofs.Common.{◌≡◌, ℕ, zero, suc, ◌+◌, ◌<◌, ◌≤◌, Bool, true, false, cond, List, [], ◌∷◌, ◌++◌, length}
use Rattle.std.proofs.Common.{Option, Some, None, refl, sym, ap, subst, arith, ◌∙◌, nat_eq, option_map, take}
use Rattle.std.proofs.Common.{set, get_or, drop, Result, Ok, Err, OnErr, ◌⊎◌, inl, inr}
use Rattle.std.proofs.lemmas.List.{drop_more, drop_all, length-take, take_more, take_all}
use Rattle.std.proofs.lemmas.Bool.Decides.{nat_tests}
use Rattle.std.proofs.lemmas.Bool.{eqb-true, eq-eqb, cases_lt}
use Rattle.small_laws.proofs.Connectives.{cond_true-second, cond_true-first}
use Rattle.scalar_ranges.specs.declared.deferred.Left as code_left
use Rattle.scalar_ranges.specs.declared.deferred.Stage.TheVariants as stages
use Rattle.scalar_ranges.specs.declared.slots.Form.TheVariants as forms
use Rattle.scalar_ranges.specs.declared.slots.Change as code_change
use Rattle.scalar_ranges.specs.declared.scope.Meaning as code_meaning
use Rattle.scalar_ranges.specs.EntryViews.{meaning_of}
use Rattle.scalar_ranges.specs.Entries.{Meaning}
use Rattle.scalar_ranges.specs.Environments.{item_at}
use Rattle.scalar_ranges.specs.Moves.{Known, is_one_of}
use Rattle.scalar_ranges.specs.Changes.{modify, each, known_if}
use Rattle.scalar_ranges.specs.ChangeViews.{known_afters}
use Rattle.scalar_ranges.specs.Lefts.{left_if, left_at, known_left, with_mark, moved_mark, set_if, set_all, AreBelow}
use Rattle.scalar_ranges.specs.Lefts.{numbers_in, IsKept}
use Rattle.scalar_ranges.proofs.Widening.{one_more}
use Rattle.scalar_ranges.proofs.Numbered.{modify_long, item_modified, other_item, items_modified}
use Rattle.scalar_ranges.proofs.Numbered.{item_taken}
use Rattle.scalar_ranges.proofs.SlotLoops.{item_beyond, item_within}
use Rattle.scalar_ranges.specs.declared.deferred.Stage.{Stage}
use Rattle.scalar_ranges.specs.declared.slots.Form.{Form}
use Rattle.scalar_ranges.specs.MoveLaws.{meaning_at}
use Rattle.scalar_ranges.specs.Moves.{with_meaning}
use Rattle.scalar_ranges.specs.Changes.{known_with, known_around, changed_ends, ends_around}
use Rattle.scalar_ranges.specs.Deferring.{of_form}
use Rattle.scalar_ranges.proofs.Named.{changed_by_meaning, none_changed}
use Rattle.scalar_ranges.proofs.Deferring.{put_left}
use Rattle.scalar_ranges.proofs.Postponing.{left_alike, released_going, released_ended, released_around}
use Rattle.scalar_ranges.proofs.Postponing.{none_now, released_ended_around, MeansSame}

-- ---- one item

item_mapped : {A : Type 0} (f : A → A) (n : ℕ) (xs : List A) → item_at n (modify f n xs) ≡ option_map f (item_at n xs)
item_mapped f n [] = refl
item_mapped f zero (x ∷ xs) = refl
item_mapped f (suc n) (x ∷ xs) = item_mapped f n xs

twice_or : {A : Type 0} (f : A → A) (o : Option A) → ((x : A) → f (f x) ≡ f x)
    → option_map f (option_map f o) ≡ option_map f o
twice_or f None twice = refl
twice_or f (Some x) twice = ap Some (twice x)

either_is : {A : Type 0} (t : Bool) (x y : A) → x ≡ y → cond t x y ≡ y
either_is true x y is = is
either_is false x y is = refl

each_by : {A : Type 0} (t : Bool) (f : A → A) (n i : ℕ) (u : Bool) (xs : List A) → nat_eq n i ≡ t
    → ((x : A) → f (f x) ≡ f x)
    → cond u (option_map f (item_at i (modify f n xs))) (item_at i (modify f n xs))
    ≡ cond (cond t true u) (option_map f (item_at i xs)) (item_at i xs)
each_by true f n i u xs test twice =
    let same = eqb-true n i test in
    let here = subst (λ k. item_at k (modify f n xs) ≡ option_map f (item_at k xs)) same (item_mapped f n xs) in
    (λ j. cond u (option_map f (here j)) (here j))
    ∙ either_is u (option_map f (option_map f (item_at i xs))) (option_map f (item_at i xs))
    (twice_or f (item_at i xs) twice)
each_by false f n i u xs test twice =
    let other = other_item f n i xs test in λ j. cond u (option_map f (other j)) (other j)

each_item : {A : Type 0} (f : A → A) (ns : List ℕ) (i : ℕ) (xs : List A) → ((x : A) → f (f x) ≡ f x)
    → item_at i (each f ns xs) ≡ cond (is_one_of ns i) (option_map f (item_at i xs)) (item_at i xs)
each_item f [] i xs twice = refl
each_item f (n ∷ ns) i xs twice =
    each_item f ns i (modify f n xs) twice ∙ each_by (nat_eq n i) f n i (is_one_of ns i) xs refl twice

-- what is so of each item
abbrev AllAre : {A : Type 0} → (ℕ → A → Type 0) → List A → Type 0
AllAre P xs = (i : ℕ) (x : _) → item_at i xs ≡ Some x → P i x

each_are : {A : Type 0} (P : ℕ → A → Type 0) (f : A → A) (ns : List ℕ) (xs : List A)
    → ((i : ℕ) (x : A) → P i x → P i (f x)) → ((i : ℕ) (x : A) → item_at i xs ≡ Some x → P i x)
    → (i : ℕ) (x : A) → item_at i (each f ns xs) ≡ Some x → P i x
each_are P f [] xs stays all = all
each_are P f (n ∷ ns) xs stays all =
    each_are P f ns (modify f n xs) stays
    (items_modified P f n xs (λ k x apart is. all k x is) (λ x is. stays n x (all n x is)))

-- ---- what is put off

pub left_other : (mark : ℕ) (g : code_left.Left → code_left.Left) (n i : ℕ) (ls : List code_left.Left)
    → nat_eq n i ≡ false → left_at mark (modify g n ls) i ≡ left_at mark ls i
left_other mark g n i ls apart = ap (left_if mark) (other_item g n i ls apart)

low_mark : (mark : ℕ) → 0 < mark → nat_eq 0 mark ≡ false
low_mark mark some = grind (arith, nat_tests)

dead_by : (mark : ℕ) (o : Option code_left.Left) → 0 < mark → left_if mark (option_map (with_mark 0) o) ≡ None
dead_by mark None some = refl
dead_by mark (Some l) some = ap (λ t. cond t (Some (meaning_of l.meaning)) None) (low_mark mark some)

pub left_dead : (mark n : ℕ) (ls : List code_left.Left) → 0 < mark
    → left_at mark (modify (with_mark 0) n ls) n ≡ None
left_dead mark n ls some =
    ap (left_if mark) (item_mapped (with_mark 0) n ls) ∙ dead_by mark (item_at n ls) some

fresh_by : (mark now : ℕ) (o : Option code_left.Left) → mark < now
    → ((l : code_left.Left) → o ≡ Some l → l.mark ≤ mark) → left_if now o ≡ None
fresh_by mark now None less all = refl
fresh_by mark now (Some l) less all =
    let low = all l refl in
    let apart : nat_eq l.mark now ≡ false = grind (arith, nat_tests) in
    ap (λ t. cond t (Some (meaning_of l.meaning)) None) apart

-- nothing has a higher mark
pub left_fresh : (mark now : ℕ) (ls : List code_left.Left) (cs : List code_change.Change) → IsKept mark ls cs
    → mark < now → (i : ℕ) → left_at now ls i ≡ None
left_fresh mark now ls cs kept less i = fresh_by mark now (item_at i ls) less (λ l is. (kept.1 i l is).0)

-- what is not in the list is not put off
unlisted_by : (t : Bool) (l : code_left.Left) (mark : ℕ) (u : Bool) → nat_eq l.mark mark ≡ t → (t ≡ true → u ≡ true)
    → u ≡ false → cond t (Some (meaning_of l.meaning)) None ≡ None
unlisted_by true l mark u test listed others = absurd (cc (listed refl, others))
unlisted_by false l mark u test listed others = refl

unlisted_or : (mark : ℕ) (o : Option code_left.Left) (u : Bool)
    → ((l : code_left.Left) → o ≡ Some l → nat_eq l.mark mark ≡ true → u ≡ true) → u ≡ false
    → left_if mark o ≡ None
unlisted_or mark None u listed others = refl
unlisted_or mark (Some l) u listed others =
    unlisted_by (nat_eq l.mark mark) l mark u refl (listed l refl) others

left_unlisted : (mark : ℕ) (ls : List code_left.Left) (cs : List code_change.Change) → IsKept mark ls cs
    → (i : ℕ) → is_one_of (numbers_in cs) i ≡ false → left_at mark ls i ≡ None
left_unlisted mark ls cs kept i others =
    unlisted_or mark (item_at i ls) (is_one_of (numbers_in cs) i) (λ l is. (kept.1 i l is).1) others

-- ---- where a component ends

moved_twice : (t : Bool) (from to : ℕ) (l : code_left.Left) → nat_eq l.mark from ≡ t
    → moved_mark from to (cond t (with_mark to l) l) ≡ cond t (with_mark to l) l
moved_twice true from to l test = either_is (nat_eq to from) (with_mark to (with_mark to l)) (with_mark to l) refl
moved_twice false from to l test = ap (λ t. cond t (with_mark to l) l) test

move_twice : (from to : ℕ) (l : code_left.Left) → moved_mark from to (moved_mark from to l) ≡ moved_mark from to l
move_twice from to l = moved_twice (nat_eq l.mark from) from to l refl

taken_by : (t : Bool) (from to : ℕ) (l : code_left.Left) → nat_eq l.mark from ≡ t → nat_eq l.mark to ≡ false
    → left_if to (Some (cond t (with_mark to l) l)) ≡ cond t (Some (meaning_of l.meaning)) None
taken_by true from to l test apart = ap (λ t. cond t (Some (meaning_of l.meaning)) None) (eq-eqb to to refl)
taken_by false from to l test apart = ap (λ t. cond t (Some (meaning_of l.meaning)) None) apart

taken_or : (u : Bool) (from to : ℕ) (o : Option code_left.Left)
    → ((l : code_left.Left) → o ≡ Some l → nat_eq l.mark to ≡ false)
    → left_if to (cond u (option_map (moved_mark from to) o) o) ≡ cond u (left_if from o) None
taken_or true from to None apart = refl
taken_or false from to None apart = refl
taken_or true from to (Some l) apart = taken_by (nat_eq l.mark from) from to l refl (apart l refl)
taken_or false from to (Some l) apart =
    ap (λ t. cond t (Some (meaning_of l.meaning)) None) (apart l refl)

higher : (m mark to : ℕ) → m ≤ mark → mark < to → nat_eq m to ≡ false
higher m mark to low less = grind (arith, nat_tests)

-- what it changed is put off with another mark
pub left_taken : (mark to : ℕ) (ns : List ℕ) (ls : List code_left.Left) (cs : List code_change.Change)
    → IsKept mark ls cs → mark < to → (i : ℕ)
    → left_at to (each (moved_mark mark to) ns ls) i ≡ cond (is_one_of ns i) (left_at mark ls i) None
left_taken mark to ns ls cs kept less i =
    ap (left_if to) (each_item (moved_mark mark to) ns i ls (move_twice mark to))
    ∙ taken_or (is_one_of ns i) mark to (item_at i ls)
    (λ l is. higher l.mark mark to (kept.1 i l is).0 less)

dropped_by : (t : Bool) (mark : ℕ) (l : code_left.Left) → nat_eq l.mark mark ≡ t → 0 < mark
    → left_if mark (Some (cond t (with_mark 0 l) l)) ≡ None
dropped_by true mark l test some = ap (λ t. cond t (Some (meaning_of l.meaning)) None) (low_mark mark some)
dropped_by false mark l test some = ap (λ t. cond t (Some (meaning_of l.meaning)) None) test

dropped_or : (u : Bool) (mark : ℕ) (o : Option code_left.Left) → 0 < mark
    → left_if mark (cond u (option_map (moved_mark mark 0) o) o) ≡ cond u None (left_if mark o)
dropped_or true mark None some = refl
dropped_or false mark None some = refl
dropped_or true mark (Some l) some = dropped_by (nat_eq l.mark mark) mark l refl some
dropped_or false mark (Some l) some = refl

-- of what a further one changed nothing is put off
pub left_dropped : (mark : ℕ) (ns : List ℕ) (ls : List code_left.Left) → 0 < mark → (i : ℕ)
    → left_at mark (each (moved_mark mark 0) ns ls) i ≡ cond (is_one_of ns i) None (left_at mark ls i)
left_dropped mark ns ls some i =
    ap (left_if mark) (each_item (moved_mark mark 0) ns i ls (move_twice mark 0))
    ∙ dropped_or (is_one_of ns i) mark (item_at i ls) some

-- ---- what is kept

abbrev IsOne : ℕ → List code_change.Change → ℕ → code_left.Left → Type 0
IsOne mark cs i l = (l.mark ≤ mark) × (nat_eq l.mark mark ≡ true → is_one_of (numbers_in cs) i ≡ true)

never : (mark : ℕ) (t : Bool) → 0 < mark → nat_eq 0 mark ≡ true → t ≡ true
never mark t some is = absurd (cc (low_mark mark some, is))

pub kept_dead : (mark n : ℕ) (ls : List code_left.Left) (cs : List code_change.Change) → IsKept mark ls cs
    → IsKept mark (modify (with_mark 0) n ls) cs
kept_dead mark n ls cs kept = (
  kept.0,
  items_modified (IsOne mark cs) (with_mark 0) n ls (λ k l apart is. kept.1 k l is)
      (λ l is. (omega arith, never mark (is_one_of (numbers_in cs) n) kept.0)),
)

dropped_one : (t : Bool) (mark i : ℕ) (cs : List code_change.Change) (l : code_left.Left) → 0 < mark
    → IsOne mark cs i l → IsOne mark cs i (cond t (with_mark 0 l) l)
dropped_one true mark i cs l some is = (omega arith, never mark (is_one_of (numbers_in cs) i) some)
dropped_one false mark i cs l some is = is

pub kept_dropped : (mark : ℕ) (ns : List ℕ) (ls : List code_left.Left) (cs : List code_change.Change)
    → IsKept mark ls cs → IsKept mark (each (moved_mark mark 0) ns ls) cs
kept_dropped mark ns ls cs kept = (
  kept.0,
  each_are (IsOne mark cs) (moved_mark mark 0) ns ls
      (λ i l is. dropped_one (nat_eq l.mark mark) mark i cs l kept.0 is) kept.1,
)

abbrev IsTaken : ℕ → ℕ → List code_change.Change → ℕ → code_left.Left → Type 0
IsTaken mark to cs i l = (l.mark ≤ to) × (mark ≤ l.mark → is_one_of (numbers_in cs) i ≡ true)

taken_one : (t : Bool) (mark to i : ℕ) (cs : List code_change.Change) (l : code_left.Left) → nat_eq l.mark mark ≡ t
    → IsTaken mark to cs i l → IsTaken mark to cs i (cond t (with_mark to l) l)
taken_one true mark to i cs l test is =
    let same = eqb-true l.mark mark test in (omega arith, λ h. is.1 (omega arith))
taken_one false mark to i cs l test is = is

as_high : (m mark : ℕ) → m ≤ mark → mark ≤ m → nat_eq m mark ≡ true
as_high m mark low high = grind (arith, nat_tests)

pub kept_taken : (mark to : ℕ) (ns : List ℕ) (ls : List code_left.Left) (cs : List code_change.Change)
    → IsKept mark ls cs → mark < to → IsKept to (each (moved_mark mark to) ns ls) cs
kept_taken mark to ns ls cs kept less =
    let all = each_are (IsTaken mark to cs) (moved_mark mark to) ns ls
    (λ i l is. taken_one (nat_eq l.mark mark) mark to i cs l refl is)
    (λ i l is. let one = kept.1 i l is in (
      omega (arith, one.0),
      λ high. one.1 (as_high l.mark mark one.0 high),
    )) in (
      omega arith,
      λ i l is. let one = all i l is in (
        one.0,
        λ same. let here = eqb-true l.mark to same in one.1 (omega arith),
      ),
    )

-- ---- what a block leaves

pub item_there : {A : Type 0} (n : ℕ) (xs : List A) → n < length xs → (x : A) × (item_at n xs ≡ Some x)
item_there n [] less = absurd (omega arith)
item_there zero (x ∷ xs) less = (x, refl)
item_there (suc n) (x ∷ xs) less = item_there n xs (omega arith)

left_set : (mark n : ℕ) (m : code_meaning.Meaning) (ls : List code_left.Left) → n < length ls
    → left_at mark (modify (λ l. record { mark = mark; meaning = m }) n ls) n ≡ Some (meaning_of m)
left_set mark n m ls less =
    let it = item_there n ls less in
    ap (left_if mark) (item_modified (λ l. record { mark = mark; meaning = m }) n ls it.0 it.1)
    ∙ ap (λ t. cond t (Some (meaning_of m)) None) (eq-eqb mark mark refl)

set_known : (o : Option code_meaning.Meaning) (mark n : ℕ) (ls : List code_left.Left) (k : Known) → n < length ls
    → known_left (stages.Going forms.Whole) (left_at mark (set_if mark n o ls)) k
    ≡ known_if (option_map meaning_of o) n (known_left (stages.Going forms.Whole) (left_at mark ls) k)
set_known None mark n ls k less = refl
set_known (Some m) mark n ls k less =
    ap (λ es. record { entries = es; blocks = k.blocks })
    (put_left (left_at mark ls) (left_at mark (set_if mark n (Some m) ls)) n (meaning_of m) k.entries
    (left_set mark n m ls less)
    (λ i apart. left_other mark (λ l. record { mark = mark; meaning = m }) n i ls apart))

set_long : (o : Option code_meaning.Meaning) (mark n : ℕ) (ls : List code_left.Left)
    → length (set_if mark n o ls) ≡ length ls
set_long None mark n ls = refl
set_long (Some m) mark n ls = modify_long (λ l. record { mark = mark; meaning = m }) n ls

pub all_known : (mark : ℕ) (cs : List code_change.Change) (ls : List code_left.Left) (k : Known)
    → AreBelow (length ls) cs
    → known_left (stages.Going forms.Whole) (left_at mark (set_all mark cs ls)) k
    ≡ known_afters cs (known_left (stages.Going forms.Whole) (left_at mark ls) k)
all_known mark [] ls k below = refl
all_known mark (c ∷ cs) ls k below =
    all_known mark cs (set_if mark c.number c.after ls) k
    (subst (λ n. AreBelow n cs) (sym (set_long c.after mark c.number ls)) below.1)
    ∙ ap (known_afters cs) (set_known c.after mark c.number ls k below.0)

set_one : (o : Option code_meaning.Meaning) (mark n : ℕ) (ls : List code_left.Left) (cs : List code_change.Change)
    → is_one_of (numbers_in cs) n ≡ true → ((i : ℕ) (l : code_left.Left) → item_at i ls ≡ Some l → IsOne mark cs i l)
    → (i : ℕ) (l : code_left.Left) → item_at i (set_if mark n o ls) ≡ Some l → IsOne mark cs i l
set_one None mark n ls cs listed all = all
set_one (Some m) mark n ls cs listed all =
    items_modified (IsOne mark cs) (λ l. record { mark = mark; meaning = m }) n ls (λ k l apart is. all k l is)
    (λ l is. (omega arith, λ h. listed))

set_are : (mark : ℕ) (cs ds : List code_change.Change) (ls : List code_left.Left)
    → ((i : ℕ) → is_one_of (numbers_in ds) i ≡ true → is_one_of (numbers_in cs) i ≡ true)
    → ((i : ℕ) (l : code_left.Left) → item_at i ls ≡ Some l → IsOne mark cs i l)
    → (i : ℕ) (l : code_left.Left) → item_at i (set_all mark ds ls) ≡ Some l → IsOne mark cs i l
set_are mark cs [] ls within all = all
set_are mark cs (d ∷ ds) ls within all =
    set_are mark cs ds (set_if mark d.number d.after ls)
    (λ i h. within i (cond_true-second (nat_eq d.number i) (is_one_of (numbers_in ds) i) h))
    (set_one d.after mark d.number ls cs
    (within d.number (cond_true-first (nat_eq d.number d.number) (is_one_of (numbers_in ds) d.number)
    (eq-eqb d.number d.number refl))) all)

pub kept_set : (mark now : ℕ) (cs old : List code_change.Change) (ls : List code_left.Left) → IsKept mark ls old
    → mark < now → IsKept now (set_all now cs ls) cs
kept_set mark now cs old ls kept less = (
  omega arith,
  set_are now cs cs ls (λ i h. h) (λ i l is. let low = (kept.1 i l is).0 in (
    omega arith,
    λ same. absurd (cc (higher l.mark mark now low less, same)),
  )),
)

-- ---- one entry more

more_by : {A : Type 0} (i : ℕ) (xs : List A) (y : A) → i < length xs → item_at i (xs ++ y ∷ []) ≡ item_at i xs
more_by i [] y less = absurd (omega arith)
more_by zero (x ∷ xs) y less = refl
more_by (suc i) (x ∷ xs) y less = more_by i xs y (omega arith)

last_or : (mark : ℕ) (i : ℕ) (xs : List code_left.Left) (y : code_left.Left) → left_if mark (Some y) ≡ None
    → length xs ≤ i → left_if mark (item_at i (xs ++ y ∷ [])) ≡ None
last_or mark zero [] y dead least = dead
last_or mark (suc i) [] y dead least = refl
last_or mark zero (x ∷ xs) y dead least = absurd (omega arith)
last_or mark (suc i) (x ∷ xs) y dead least = last_or mark i xs y dead (omega arith)

kept_by : (mark i : ℕ) (xs ls : List code_left.Left) (y : code_left.Left) → left_if mark (Some y) ≡ None
    → item_at i xs ≡ item_at i ls → left_at mark (xs ++ y ∷ []) i ≡ left_at mark ls i
kept_by mark i [] ls y dead same = last_or mark i [] y dead (omega arith) ∙ ap (left_if mark) same
kept_by mark zero (x ∷ xs) ls y dead same = ap (left_if mark) same
kept_by mark (suc i) (x ∷ xs) [] y dead same = kept_by mark i xs [] y dead same
kept_by mark (suc i) (x ∷ xs) (l ∷ ls) y dead same = kept_by mark i xs ls y dead same

pub left_last : (mark : ℕ) (c : ℕ) (ls : List code_left.Left) (y : code_left.Left) → left_if mark (Some y) ≡ None
    → left_at mark (take c ls ++ y ∷ []) c ≡ None
left_last mark c ls y dead = last_or mark c (take c ls) y dead (let cut = length-take c ls in omega arith)

-- the entries with a lower number than there are keep what is put off of them
pub left_more : (mark : ℕ) (c i : ℕ) (ls : List code_left.Left) (y : code_left.Left) → left_if mark (Some y) ≡ None
    → i < c → left_at mark (take c ls ++ y ∷ []) i ≡ left_at mark ls i
left_more mark c i ls y dead less = kept_by mark i (take c ls) ls y dead (item_within i c ls less)

-- ---- the program's loops

pub set_is : {A : Type 0} (f : A → A) (n : ℕ) (xs : List A) (x d : A) → n < length xs → d ≡ get_or xs n d → x ≡ f d
    → set xs n x ≡ modify f n xs
set_is f n [] x d less found is = absurd (omega arith)
set_is f zero (y ∷ xs) x d less found is = ap (λ k. k ∷ xs) (is ∙ ap f found)
set_is f (suc n) (y ∷ xs) x d less found is = ap (λ ks. y ∷ ks) (set_is f n xs x d (omega arith) found is)

pub set_to : {A : Type 0} (y : A) (n : ℕ) (xs : List A) → n < length xs → set xs n y ≡ modify (λ x. y) n xs
set_to y n [] less = absurd (omega arith)
set_to y zero (x ∷ xs) less = refl
set_to y (suc n) (x ∷ xs) less = ap (λ ks. x ∷ ks) (set_to y n xs (omega arith))

pub same_is : {A : Type 0} (f : A → A) (n : ℕ) (xs : List A) → length xs ≤ n → xs ≡ modify f n xs
same_is f n [] least = refl
same_is f zero (x ∷ xs) least = absurd (omega arith)
same_is f (suc n) (x ∷ xs) least = ap (λ ks. x ∷ ks) (same_is f n xs (omega arith))

pub each_step : {A : Type 0} (f : A → A) (ns : List ℕ) (i n : ℕ) (before after all : List A)
    → drop i ns ≡ n ∷ drop (i + 1) ns → after ≡ modify f n before → each f (drop i ns) before ≡ all
    → each f (drop (i + 1) ns) after ≡ all
each_step f ns i n before after all next is so_far =
    ap (each f (drop (i + 1) ns)) is ∙ ap (λ ks. each f ks before) (sym next) ∙ so_far

pub each_stop : {A : Type 0} (f : A → A) (ns : List ℕ) (i : ℕ) (now all : List A) → length ns ≤ i
    → each f (drop i ns) now ≡ all → now ≡ all
each_stop f ns i now all least so_far = ap (λ ks. each f ks now) (sym (drop_all i ns least)) ∙ so_far

pub all_step : (mark : ℕ) (cs : List code_change.Change) (i : ℕ) (c : code_change.Change)
    (before after all : List code_left.Left) → i < length cs → c ≡ get_or cs i c
    → after ≡ set_if mark c.number c.after before → set_all mark (drop i cs) before ≡ all
    → set_all mark (drop (i + 1) cs) after ≡ all
all_step mark cs i c before after all less found is so_far =
    ap (set_all mark (drop (i + 1) cs)) is
    ∙ ap (λ ks. set_all mark ks before) (ap (λ k. k ∷ drop (i + 1) cs) found ∙ sym (drop_more cs i c less)) ∙ so_far

pub all_stop : (mark : ℕ) (cs : List code_change.Change) (i : ℕ) (now all : List code_left.Left) → length cs ≤ i
    → set_all mark (drop i cs) now ≡ all → now ≡ all
all_stop mark cs i now all least so_far = ap (λ ks. set_all mark ks now) (sym (drop_all i cs least)) ∙ so_far

pub below_step : (count : ℕ) (cs : List code_change.Change) (i : ℕ) (c : code_change.Change) → i < length cs
    → c ≡ get_or cs i c → c.number < count → (AreBelow count (drop i cs) → AreBelow count cs)
    → AreBelow count (drop (i + 1) cs) → AreBelow count cs
below_step count cs i c less found low so_far others =
    so_far (subst (AreBelow count) (ap (λ k. k ∷ drop (i + 1) cs) found ∙ sym (drop_more cs i c less)) (low, others))

pub below_stop : (count : ℕ) (cs : List code_change.Change) (i : ℕ) → length cs ≤ i
    → (AreBelow count (drop i cs) → AreBelow count cs) → AreBelow count cs
below_stop count cs i least so_far = so_far (subst (AreBelow count) (sym (drop_all i cs least)) tt)

-- ---- of one entry nothing is put off any more

other_dead : (t : Bool) (mark n i : ℕ) (ls : List code_left.Left) → 0 < mark → left_at mark ls n ≡ None
    → nat_eq n i ≡ t → left_at mark (modify (with_mark 0) n ls) i ≡ left_at mark ls i
other_dead true mark n i ls some none test =
    let same = eqb-true n i test in
    subst (λ k. left_at mark (modify (with_mark 0) n ls) k ≡ left_at mark ls k) same
    (left_dead mark n ls some ∙ sym none)
other_dead false mark n i ls some none test = left_other mark (with_mark 0) n i ls test

module _ (mark n : ℕ) (ls now : List code_left.Left) (some : 0 < mark) (items : now ≡ modify (with_mark 0) n ls)
    (s : Stage) (k after : Known) where
  abbrev p : ℕ → Option Meaning
  p = left_at mark ls

  abbrev q : ℕ → Option Meaning
  q = left_at mark (modify (with_mark 0) n ls)

  others : (i : ℕ) → nat_eq n i ≡ false → q i ≡ p i
  others i apart = left_other mark (with_mark 0) n i ls apart

  pub release_nothing : s ≡ stages.Nothing → after ≡ k → known_left s (left_at mark now) after ≡ known_left s p k
  release_nothing is same =
      (λ i. known_left (is i) (left_at mark now) (same i)) ∙ (λ i. known_left (sym is i) p k)

  pub release_none : p n ≡ None → after ≡ k → known_left s (left_at mark now) after ≡ known_left s p k
  release_none none same =
      (λ i. known_left s (left_at mark (items i)) (same i))
      ∙ left_alike s p q k (λ i. other_dead (nat_eq n i) mark n i ls some none refl)

  pub release_going : (f : Form) (m w : Meaning) → s ≡ stages.Going f → Some w ≡ p n → Some m ≡ meaning_at n k.entries
      → after ≡ known_with n (of_form f m w) k → known_left s (left_at mark now) after ≡ known_left s p k
  release_going f m w is left there same =
      (λ i. known_left (is i) (left_at mark (items i)) ((same
      ∙ ap (λ es. record { entries = es; blocks = k.blocks }) (changed_by_meaning (λ j. of_form f j w) n
      (of_form f m w) m k.entries (sym there) refl)) i))
      ∙ released_going f p q n w k (sym left) (left_dead mark n ls some) others
      ∙ (λ i. known_left (sym is i) p k)

  pub release_beyond : (f : Form) (w : Meaning) → s ≡ stages.Going f → Some w ≡ p n → None ≡ meaning_at n k.entries
      → after ≡ k → known_left s (left_at mark now) after ≡ known_left s p k
  release_beyond f w is left there same =
      (λ i. known_left (is i) (left_at mark (items i)) ((same
      ∙ ap (λ es. record { entries = es; blocks = k.blocks }) (sym (none_changed (with_meaning (λ j. of_form f j w)) n
      k.entries (sym there)))) i))
      ∙ released_going f p q n w k (sym left) (left_dead mark n ls some) others
      ∙ (λ i. known_left (sym is i) p k)

  pub release_ended : (f : Form) (w : Meaning) → s ≡ stages.Ended f → Some w ≡ p n
      → after ≡ record { entries = k.entries; blocks = changed_ends (λ j. of_form f j w) n k.blocks }
      → known_left s (left_at mark now) after ≡ known_left s p k
  release_ended f w is left same =
      (λ i. known_left (is i) (left_at mark (items i)) (same i))
      ∙ released_ended f p q n w k (sym left) (left_dead mark n ls some) others
      ∙ (λ i. known_left (sym is i) p k)

  pub release_ended_around : (a : ℕ) (f : Form) (w : Meaning) → s ≡ stages.EndedAround f a → Some w ≡ p n
      → after ≡ record { entries = k.entries; blocks = ends_around (suc a) (λ j. of_form f j w) n k.blocks }
      → known_left s (left_at mark now) after ≡ known_left s p k
  release_ended_around a f w is left same =
      (λ i. known_left (is i) (left_at mark (items i)) (same i))
      ∙ released_ended_around a f p q n w k (sym left) (left_dead mark n ls some) others
      ∙ (λ i. known_left (sym is i) p k)

  pub release_around : (a : ℕ) (f : Form) (m w : Meaning) → s ≡ stages.Around f a → Some w ≡ p n
      → Some m ≡ meaning_at n k.entries → MeansSame (suc a) n (meaning_at n k.entries) k.blocks
      → after ≡ known_around (suc a) n (of_form f m w) k
      → known_left s (left_at mark now) after ≡ known_left s p k
  release_around a f m w is left there same moved =
      (λ i. known_left (is i) (left_at mark (items i)) (moved i))
      ∙ released_around a f p q n w m k (sym left) (left_dead mark n ls some) others same (sym there)
      ∙ (λ i. known_left (sym is i) p k)

-- ---- of no entry anything is put off any more

first_or : (t u : Bool) → (t ≡ true → ⊥) → cond t true u ≡ true → u ≡ true
first_or true u none h = absurd (none refl)
first_or false u none h = h

step_by : (t : Bool) (mark n i : ℕ) (ls : List code_left.Left) (u : Bool) → 0 < mark → nat_eq n i ≡ t
    → cond u true t ≡ true → (u ≡ true → left_at mark ls i ≡ None)
    → left_at mark (modify (with_mark 0) n ls) i ≡ None
step_by true mark n i ls u some test listed so_far =
    let same = eqb-true n i test in
    subst (λ k. left_at mark (modify (with_mark 0) n ls) k ≡ None) same (left_dead mark n ls some)
step_by false mark n i ls true some test listed so_far =
    left_other mark (with_mark 0) n i ls test ∙ so_far refl
step_by false mark n i ls false some test listed so_far = absurd (cc)

numbers_more : (cs : List code_change.Change) (c : code_change.Change)
    → numbers_in (cs ++ c ∷ []) ≡ numbers_in cs ++ c.number ∷ []
numbers_more [] c = refl
numbers_more (k ∷ cs) c = ap (λ ns. k.number ∷ ns) (numbers_more cs c)

-- the entries before a place in the list
pub settle_step : (mark place : ℕ) (cs : List code_change.Change) (c : code_change.Change)
    (ls now : List code_left.Left) → 0 < mark → place < length cs → c ≡ get_or cs place c
    → now ≡ modify (with_mark 0) c.number ls
    → ((i : ℕ) → is_one_of (numbers_in (take place cs)) i ≡ true → left_at mark ls i ≡ None)
    → (i : ℕ) → is_one_of (numbers_in (take (place + 1) cs)) i ≡ true → left_at mark now i ≡ None
settle_step mark place cs c ls now some less found items so_far i listed =
    let more = take_more cs place c less ∙ ap (λ k. take place cs ++ k ∷ []) (sym found) in
    let one = sym (one_more (numbers_in (take place cs)) c.number i)
    ∙ ap (λ ns. is_one_of ns i) (sym (numbers_more (take place cs) c) ∙ ap numbers_in (sym more)) ∙ listed in
    subst (λ ks. left_at mark ks i ≡ None) (sym items)
    (step_by (nat_eq c.number i) mark c.number i ls (is_one_of (numbers_in (take place cs)) i) some refl one
    (so_far i))

none_by : (t : Bool) (mark i : ℕ) (ls : List code_left.Left) (cs : List code_change.Change) → IsKept mark ls cs
    → is_one_of (numbers_in cs) i ≡ t → (t ≡ true → left_at mark ls i ≡ None) → left_at mark ls i ≡ None
none_by true mark i ls cs kept test so_far = so_far refl
none_by false mark i ls cs kept test so_far = left_unlisted mark ls cs kept i test

pub settled_now : (s : Stage) (mark place : ℕ) (cs : List code_change.Change) (ls : List code_left.Left) (k : Known)
    → IsKept mark ls cs → length cs ≤ place
    → ((i : ℕ) → is_one_of (numbers_in (take place cs)) i ≡ true → left_at mark ls i ≡ None)
    → k ≡ known_left s (left_at mark ls) k
settled_now s mark place cs ls k kept least so_far =
    sym (none_now s (left_at mark ls) k (λ i. none_by (is_one_of (numbers_in cs) i) mark i ls cs kept refl
    (λ h. so_far i (ap (λ ks. is_one_of (numbers_in ks) i) (take_all place cs least) ∙ h))))

-- ---- a place for one entry more

more_are : {A : Type 0} (P : ℕ → A → Type 0) (xs : List A) (y : A)
    → ((i : ℕ) (x : A) → item_at i xs ≡ Some x → P i x) → ((i : ℕ) → P i y)
    → (i : ℕ) (x : A) → item_at i (xs ++ y ∷ []) ≡ Some x → P i x
more_are P [] y all last zero x is = let same : y ≡ x = cc in subst (P 0) same (last 0)
more_are P [] y all last (suc i) x is = absurd (cc)
more_are P (k ∷ xs) y all last zero x is = all 0 x is
more_are P (k ∷ xs) y all last (suc i) x is =
    more_are (λ n z. P (suc n) z) xs y (λ n z h. all (suc n) z h) (λ n. last (suc n)) i x is

module _ (mark c : ℕ) (ls cut now : List code_left.Left) (m : code_meaning.Meaning) (cs : List code_change.Change)
    (kept : IsKept mark ls cs) (taken : cut ≡ take c ls) where
  abbrev none : code_left.Left
  none = record { mark = 0; meaning = m }

  dead : left_if mark (Some none) ≡ None
  dead = ap (λ t. cond t (Some (meaning_of m)) None) (low_mark mark kept.0)

  pub made_same : (t : Bool) → now ≡ cond t (cut ++ none ∷ []) cut → (i : ℕ) → i < c
      → left_at mark now i ≡ left_at mark ls i
  made_same true is i less =
      ap (λ ks. left_at mark ks i) (is ∙ ap (λ ks. ks ++ none ∷ []) taken) ∙ left_more mark c i ls none dead less
  made_same false is i less = ap (λ ks. left_at mark ks i) (is ∙ taken) ∙ ap (left_if mark) (item_within i c ls less)

  pub made_last : (t : Bool) → now ≡ cond t (cut ++ none ∷ []) cut → left_at mark now c ≡ None
  made_last true is =
      ap (λ ks. left_at mark ks c) (is ∙ ap (λ ks. ks ++ none ∷ []) taken) ∙ left_last mark c ls none dead
  made_last false is =
      let size = length-take c ls in
      ap (λ ks. left_at mark ks c) (is ∙ taken) ∙ ap (left_if mark) (item_beyond c (take c ls) (omega arith))

  none_beyond : (t : Bool) → now ≡ cond t (cut ++ none ∷ []) cut → (i : ℕ) → c ≤ i → left_at mark now i ≡ None
  none_beyond true is i least =
      let size = length-take c ls in
      ap (λ ks. left_at mark ks i) (is ∙ ap (λ ks. ks ++ none ∷ []) taken)
      ∙ last_or mark i (take c ls) none dead (omega arith)
  none_beyond false is i least =
      let size = length-take c ls in
      ap (λ ks. left_at mark ks i) (is ∙ taken) ∙ ap (left_if mark) (item_beyond i (take c ls) (omega arith))

  none_by_order : (t : Bool) → now ≡ cond t (cut ++ none ∷ []) cut → (i : ℕ) → left_at mark ls i ≡ None
      → (i < c) ⊎ (c ≤ i) → left_at mark now i ≡ None
  none_by_order t is i before (inl less) = made_same t is i less ∙ before
  none_by_order t is i before (inr least) = none_beyond t is i least

  -- what was not put off is not
  pub made_none : (t : Bool) → now ≡ cond t (cut ++ none ∷ []) cut → (i : ℕ) → left_at mark ls i ≡ None
      → left_at mark now i ≡ None
  made_none t is i before = none_by_order t is i before (cases_lt i c)

  cut_kept : (i : ℕ) (l : code_left.Left) → item_at i cut ≡ Some l → IsOne mark cs i l
  cut_kept i l is = kept.1 i l (item_taken c i ls l (ap (item_at i) (sym taken) ∙ is))

  pub made_kept : (t : Bool) → now ≡ cond t (cut ++ none ∷ []) cut → IsKept mark now cs
  made_kept true is =
      subst (λ ks. IsKept mark ks cs) (sym is) (
        kept.0,
        more_are (IsOne mark cs) cut none cut_kept
            (λ i. (omega arith, never mark (is_one_of (numbers_in cs) i) kept.0)),
      )
  made_kept false is = subst (λ ks. IsKept mark ks cs) (sym is) (kept.0, cut_kept)

pub if_err : {A E : Type 0} {P Q : Type 0} (r : Result A E) → OnErr r P → (P → Q) → OnErr r Q
if_err (Ok x) err f = err
if_err (Err e) err f = f err

-- ---- as many as there are entries

pub cut_same : (mark c : ℕ) (ls cut : List code_left.Left) → cut ≡ take c ls → (i : ℕ) → i < c
    → left_at mark cut i ≡ left_at mark ls i
cut_same mark c ls cut is i less = ap (λ ks. left_at mark ks i) is ∙ ap (left_if mark) (item_within i c ls less)

pub cut_none : (mark c : ℕ) (ls cut : List code_left.Left) → cut ≡ take c ls → (i : ℕ) → c ≤ i
    → left_at mark cut i ≡ None
cut_none mark c ls cut is i least =
    let size = length-take c ls in
    ap (λ ks. left_at mark ks i) is ∙ ap (left_if mark) (item_beyond i (take c ls) (omega arith))

cut_fewer_by : (mark c i : ℕ) (ls cut : List code_left.Left) → cut ≡ take c ls → left_at mark ls i ≡ None
    → (i < c) ⊎ (c ≤ i) → left_at mark cut i ≡ None
cut_fewer_by mark c i ls cut is was (inl less) = cut_same mark c ls cut is i less ∙ was
cut_fewer_by mark c i ls cut is was (inr least) = cut_none mark c ls cut is i least

pub cut_fewer : (mark c : ℕ) (ls cut : List code_left.Left) → cut ≡ take c ls → (i : ℕ) → left_at mark ls i ≡ None
    → left_at mark cut i ≡ None
cut_fewer mark c ls cut is i was = cut_fewer_by mark c i ls cut is was (cases_lt i c)

pub kept_cut : (mark c : ℕ) (ls cut : List code_left.Left) (cs : List code_change.Change) → cut ≡ take c ls
    → IsKept mark ls cs → IsKept mark cut cs
kept_cut mark c ls cut cs is kept =
    subst (λ ks. IsKept mark ks cs) (sym is) (kept.0, λ i l there. kept.1 i l (item_taken c i ls l there))
