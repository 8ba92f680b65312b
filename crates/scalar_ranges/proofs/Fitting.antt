-- What the program's scope keeps: its names, entries and blocks belong together.
use Rattle.std.proofs.Common.{◌≡◌, ℕ, ◌<◌, ◌≤◌, Bool, false, List, [], ◌∷◌, length, refl, sym, ap, subst}
use Rattle.std.proofs.Common.{Result, Ok, Err, OnOk, OnErr, is_err, nat_eq, arith, ◌∙◌, Option, Some}
use Rattle.std.proofs.lemmas.Bool.Decides.{nat_tests}
use Rattle.scalar_ranges.specs.declared.changes.Tracked as code_tracked
use Rattle.scalar_ranges.specs.declared.scope.Scope as code_scope
use Rattle.scalar_ranges.specs.Entries.{Meaning, Entry, number_in}
use Rattle.scalar_ranges.specs.Moves.{outermost, Block, Known, begun_with, not_so, excluded_at, excluded_by}
use Rattle.scalar_ranges.specs.Moves.{excluded, exclude_from, exclude}
use Rattle.occam_parser.specs.Expressions.{Expression}
use Rattle.scalar_ranges.specs.Narrowing.{Tested, test_of}
use Rattle.scalar_ranges.specs.Changes.{begin_with}
use Rattle.scalar_ranges.specs.Changes.{Tracked, put, put_start, begun, declared, cut, Follows, changed_to}
use Rattle.scalar_ranges.specs.Changes.{changed_start, put_ends, changed_ends}
use Rattle.scalar_ranges.specs.TrackedViews.{tracked_of, known_by}
use Rattle.scalar_ranges.specs.Scopes.{entries_of, blocks_of}
use Rattle.scalar_ranges.specs.Naming.{names_from}
use Rattle.scalar_ranges.proofs.Nesting.{Fit}
use Rattle.scalar_ranges.proofs.Following.{put_follows, begun_follows}
use Rattle.scalar_ranges.proofs.Components.{start_follows, ends_follow}
use Rattle.scalar_ranges.proofs.Cutting.{declared_follows, cut_follows}
use Rattle.scalar_ranges.proofs.Turning.{followed, known_is}

pub fit_of : (s : code_scope.Scope) → Fit (names_from s.names.rows.items) (entries_of s) (blocks_of s)
fit_of s = record { named = s.named; nested = s.nested }

-- what belongs together after a move
pub fit_at : {k new : Known} {names kept : List (List ℕ)} → new ≡ k → kept ≡ names → Fit names k.entries k.blocks
    → Fit kept new.entries new.blocks
fit_at {k} {new} {names} {kept} is same fit =
    subst (λ w. Fit kept w.entries w.blocks) (sym is) (subst (λ ns. Fit ns k.entries k.blocks) (sym same) fit)

-- the same after a move that fits where the names are cut to as many as there are entries
pub fit_cut : (old : code_scope.Scope) (move : List Entry → List Block → Known)
    → ((names : List (List ℕ)) (es : List Entry) (bs : List Block) → Fit names es bs
    → Fit (outermost (length (move es bs).entries) names) (move es bs).entries (move es bs).blocks)
    → (size : ℕ) {new : Known} {kept : List (List ℕ)} → new ≡ move (entries_of old) (blocks_of old)
    → kept ≡ outermost size (names_from old.names.rows.items) → size ≡ length new.entries
    → Fit kept new.entries new.blocks
fit_cut old move fits size {new} {kept} is cut long =
    let names = names_from old.names.rows.items in
    fit_at {k = move (entries_of old) (blocks_of old)} {new = new} {kept = kept} is
    (cut ∙ ap (λ n. outermost n names) (long ∙ ap (λ (w : Known). length w.entries) is))
    (fits names (entries_of old) (blocks_of old) (fit_of old))

-- ---- what comes of a call

pub on_ok : {A E : Type 0} {P : Type 0} (r : Result A E) → is_err r ≡ false → OnOk r P → P
on_ok (Ok x) is p = p
on_ok (Err e) is p = absurd (cc)

pub in_both : {A E : Type 0} {P Q R : Type 0} (r : Result A E) → OnOk r P → OnErr r Q → (P → R) → (Q → R) → R
in_both (Ok x) ok err f g = f ok
in_both (Err e) ok err f g = g err

pub if_ok : {A E : Type 0} {P Q : Type 0} (r : Result A E) → OnOk r P → (P → Q) → OnOk r Q
if_ok (Ok x) ok f = f ok
if_ok (Err e) ok f = ok

pub some_of : {n : ℕ} → nat_eq n 0 ≡ false → 0 < n
some_of {n} is = grind (arith, nat_tests)

-- ---- what is known after a move of what the program tracks

known_after : (new : code_tracked.Tracked) (t : Tracked) (k : Known) → tracked_of new ≡ t → Follows t k
    → known_by new ≡ k
known_after new t k is follows = known_is (followed k is follows)

module _ (old new : code_tracked.Tracked) where
  abbrev was : Tracked
  was = tracked_of old

  pub put_known : (n : ℕ) (m : Meaning) → tracked_of new ≡ put n m was
      → known_by new ≡ record { entries = changed_to m n (known_by old).entries; blocks = (known_by old).blocks }
  put_known n m is = known_after new (put n m was)
      (record { entries = changed_to m n (known_by old).entries; blocks = (known_by old).blocks }) is
      (put_follows n m was old.tracked)

  pub start_known : (n : ℕ) (f : Meaning → Meaning) → tracked_of new ≡ put_start n f was → known_by new
      ≡ record { entries = (known_by old).entries; blocks = changed_start f n (known_by old).blocks }
  start_known n f is = known_after new (put_start n f was)
      (record { entries = (known_by old).entries; blocks = changed_start f n (known_by old).blocks }) is
      (start_follows n f was old.tracked)

  pub ends_known : (n : ℕ) (f : Meaning → Meaning) → tracked_of new ≡ put_ends n f was → known_by new
      ≡ record { entries = (known_by old).entries; blocks = changed_ends f n (known_by old).blocks }
  ends_known n f is = known_after new (put_ends n f was)
      (record { entries = (known_by old).entries; blocks = changed_ends f n (known_by old).blocks }) is
      (ends_follow n f was old.tracked)

  pub begun_known : (ended : Bool) → tracked_of new ≡ begun ended was
      → known_by new ≡ begin_with ended (known_by old)
  begun_known ended is =
      known_after new (begun ended was) (begin_with ended (known_by old)) is (begun_follows ended was old.tracked)

  pub declared_known : (e : Entry) → tracked_of new ≡ declared e was
      → known_by new ≡ record { entries = e ∷ (known_by old).entries; blocks = (known_by old).blocks }
  declared_known e is = known_after new (declared e was)
      (record { entries = e ∷ (known_by old).entries; blocks = (known_by old).blocks }) is
      (declared_follows e was old.tracked)

  pub cut_known : (count : ℕ) → begun_with (known_by old).blocks ≤ count → tracked_of new ≡ cut count was
      → known_by new
      ≡ record { entries = outermost count (known_by old).entries; blocks = (known_by old).blocks }
  cut_known count least is = known_after new (cut count was)
      (record { entries = outermost count (known_by old).entries; blocks = (known_by old).blocks }) is
      (cut_follows count was old.tracked least)

-- the entries where the further choices begin, by what the condition compares
excluded_to : (condition : Expression) (es ds : List Entry) (t : Tested) (o : Option ℕ)
    → test_of es condition ≡ Some t → number_in t.name es ≡ o → excluded condition es ds ≡ excluded_at o t ds
excluded_to condition es ds t o test number =
    ap (λ k. excluded_by k es ds) test ∙ ap (λ k. excluded_at k t ds) number

all_excluded : (condition : Expression) (n : ℕ) (t : Tested) (es : List Entry) (bs : List Block)
    → test_of es condition ≡ Some t → number_in t.name es ≡ Some n
    → changed_start (not_so t) n bs ≡ exclude_from condition es bs
all_excluded condition n t es [] test number = refl
all_excluded condition n t es (b ∷ bs) test number =
    ap (λ ds. record { start = ds; ends = b.ends } ∷ bs)
    (sym (excluded_to condition es b.start t (Some n) test number))

-- a condition that compares a scalar with a constant is excluded
pub excluded_known : (old new : Known) (condition : Expression) (n : ℕ) (t : Tested)
    → test_of old.entries condition ≡ Some t → number_in t.name old.entries ≡ Some n
    → new ≡ record { entries = old.entries; blocks = changed_start (not_so t) n old.blocks }
    → new ≡ exclude condition old
excluded_known old new condition n t test number moved =
    moved
    ∙ (λ i. record {
      entries = old.entries;
      blocks = all_excluded condition n t old.entries old.blocks test number i;
    })
