-- Visits of all branches.
use Rattle.std.proofs.Common.{◌≡◌, ℕ, suc, ◌<◌, Bool, true, false, List, [], ◌∷◌, length, get_or, sym, ap, ◌∙◌}
use Rattle.std.proofs.Common.{arith}
use Rattle.std.proofs.Common.{refl, subst, inl, inr, ◌+◌, ◌-◌, ◌≤◌, ◌^◌, ℤ, Option, Some, None, cond, ◌&&◌}
use Rattle.std.specs.Prelude.{◌==◌, ◌+ℤ◌, pos, Vec, MatchOption, slice_get, is_some, if◌then◌else◌}
use Rattle.std.specs.List.{list_any}
use Rattle.std.specs.Global.{Global}
use Rattle.std.proofs.Math.ListN.{set}
use Rattle.std.proofs.lemmas.Bool.{cases_eq, ltb-true, lt-ltb, le-ltb}
use Rattle.std.proofs.lemmas.Bool.Decides.{eqb_tells}
use Rattle.std.proofs.lemmas.List.{get_or-set_other}
use Rattle.std.proofs.lemmas.Grind.{get_or-set_at}
use Rattle.std.proofs.lemmas.List.Folds.{list_any_at}
use Rattle.module_format.specs.declared.places.Place.{Place}
use Rattle.module_format.specs.declared.rows.Direction.{Direction}
use Rattle.module_format.specs.declared.rows.EndRow.{EndRow}
use Rattle.module_format.specs.Contents.{Par, Branch, Contents}
use Rattle.module_format.specs.Contexts.{first_branch, branch_count, context_at, parameters_at}
use Rattle.module_format.specs.Keeping.{Keeps}
use Rattle.module_format.specs.Places.{branches_of, ArePlaces}
use Rattle.certificate.specs.declared.runs.ChannelRun.{ChannelRun}
use Rattle.certificate.specs.declared.branch_runs.Visit.{Visit}
use Rattle.certificate.specs.BranchRuns.{AreRunsOf, AreBranchRuns, AreVisits}
use Rattle.certificate.specs.Branches.{numbered_branch}
use Rattle.certificate.specs.Rights.{channel_length, gives_link, gives_parameter, has_end}
use Rattle.certificate.specs.Runs.{word_end, element_end, held_from, IsRun, IsFirstRun, IsRunCount, AreRuns, further}
use Rattle.certificate.specs.Runs.{end_further, lists_end, word_length, held_further, branch_lists, has_element}
use Rattle.certificate.proofs.NumberLaws.{contexts_fit, many_branches}
use Rattle.certificate.proofs.RunLaws.{run_same}
use Rattle.std.proofs.lemmas.Option.{slice_get_within, slice_get_past}
use Rattle.small_laws.proofs.Comparisons.{eqb-self}
use Rattle.small_laws.proofs.Lookups.{slice_get_there}

-- a branch that is visited is there
pub visit_below : (count : ℕ) (visits : List Visit) (i : ℕ) (d : Visit) → AreVisits count visits → i < length visits
    → (get_or visits i d).branch < count
visit_below count visits i d h lt =
    ltb-true _ _ (sym (h (get_or visits i d).branch)
    ∙ list_any_at (λ (v : Visit). v.branch == (get_or visits i d).branch) visits i d lt
    (eqb-self (get_or visits i d).branch))

-- where a branch is visited
pub record IsVisited (visits : List Visit) (n : ℕ) : Type 0 where
  pub at : ℕ
  pub within : at < length visits
  pub is : (d : Visit) → (get_or visits at d).branch ≡ n

visited : (visits : List Visit) (n : ℕ) → list_any (λ v. v.branch == n) visits ≡ true → IsVisited visits n
visited [] n h = absurd cc
visited (v ∷ visits) n h = elim (eqb_tells v.branch n) [
  | inl e ↦ record { at = 0; within = omega arith; is = λ d. e.1 }
  | inr e ↦
      let later = visited visits n (rw e.0 at h) in
      let inside = later.within in
      record { at = suc later.at; within = omega arith; is = later.is }
]

pub is_visited : (count : ℕ) (visits : List Visit) (n : ℕ) → AreVisits count visits → n < count → IsVisited visits n
is_visited count visits n h lt = visited visits n (h n ∙ lt-ltb n count lt)

-- the branches of the first visits have their runs
pub record AreDone (c : Contents) (visits : List Visit) (so_far : ℕ)
    (runs : List (Vec ChannelRun Global)) : Type 0 where
  pub each : (j : ℕ) (d : Visit) (e : Vec ChannelRun Global) → j < so_far
      → AreRunsOf c (get_or visits j d).branch (get_or runs (get_or visits j d).branch e).items

-- one more
pub done_more : (c : Contents) (visits : List Visit) (i : ℕ) (v : Visit) (runs : List (Vec ChannelRun Global))
    (new : Vec ChannelRun Global) → ((d : Visit) → get_or visits i d ≡ v) → v.branch < length runs
    → AreDone c visits i runs → AreRunsOf c v.branch new.items → AreDone c visits (i + 1) (set runs v.branch new)
done_more c visits i v runs new is within h right = record {
  each = λ j d e lt. elim (cases_eq (get_or visits j d).branch v.branch) [
    | inl same ↦
        rw (get_or-set_at runs v.branch (get_or visits j d).branch new e same within, same) right
    | inr other ↦ elim (cases_eq j i) [
      | inl now ↦ absurd (other (ap (λ (n : ℕ). (get_or visits n d).branch) now ∙ ap (λ (w : Visit). w.branch) (is d)))
      | inr before ↦
          rw (get_or-set_other runs v.branch (get_or visits j d).branch new e other) (h.each j d e (omega arith))
    ]
  ];
}

-- a visit that was read goes to a branch, whose context is a number of a word
pub visit_fits : (c : Contents) → Keeps c → (places : List Place) → ArePlaces c (branch_count c.pars) places
    → (visits : List Visit) (i : ℕ) (v : Visit) → AreVisits (length places) visits → i < length visits
    → v ≡ get_or visits i v → (v.branch < length places) × (first_branch c + v.branch < 2 ^ 32)
visit_fits c keeps places are visits i v h lt is =
    let below : v.branch < length places =
    subst (λ (w : Visit). w.branch < length places) (sym is) (visit_below (length places) visits i v h lt) in
    let fit = contexts_fit c keeps in
    let many = are.many in
    (below, omega (arith, fit, many, below))

-- ---- looked up

-- the runs of the branch that is context n are there
pub runs_there : (c : Contents) (all : List (Vec ChannelRun Global)) (n : ℕ) (runs : Vec ChannelRun Global)
    → AreBranchRuns c all → first_branch c ≤ n → n - first_branch c < length all
    → runs ≡ get_or all (n - first_branch c) runs
    → MatchOption (numbered_branch c n) ⊥ (λ x. AreRuns (channel_length c n) x.1.ends runs.items)
runs_there c all n runs h ge lt is = on (numbered_branch c n) refl
  where
    same : first_branch c + (n - first_branch c) ≡ n
    same = omega arith

    right : AreRunsOf c (n - first_branch c) runs.items
    right = subst (λ (r : Vec ChannelRun Global). AreRunsOf c (n - first_branch c) r.items) (sym is)
        (h.each (n - first_branch c) runs lt)

    on : (found : Option (Par × Branch)) → numbered_branch c n ≡ found
        → MatchOption found ⊥ (λ x. AreRuns (channel_length c n) x.1.ends runs.items)
    on None none =
        let many = h.many in
        let all = many_branches c.pars in
        let found = rw (le-ltb n (first_branch c) ge) at none in
        absurd (slice_get_there (branches_of c.pars) (n - first_branch c) (omega (arith, many, all, lt)) found)
    on (Some x) found = rw same at (right x (rw same found))

-- a context without runs is no branch
pub runs_missing : (c : Contents) (all : List (Vec ChannelRun Global)) (n : ℕ) → AreBranchRuns c all
    → first_branch c ≤ n → length all ≤ n - first_branch c → numbered_branch c n ≡ None
runs_missing c all n h ge past =
    let many = h.many in
    let count = many_branches c.pars in
    rw (le-ltb n (first_branch c) ge)
    (slice_get_past (branches_of c.pars) (n - first_branch c) (omega (arith, many, count, past)))

-- ---- the ends of a branch

module _ (c : Contents) (n : ℕ) (e : EndRow) where
  abbrev listed_in : Option (Par × Branch) → Bool
  listed_in o = is_some (context_at c n) && elim o [ None ↦ false | Some found ↦ lists_end found.1.ends e ]

  abbrev had_in : Option (Par × Branch) → Bool
  had_in o = is_some (context_at c n) && elim o [
    | Some found ↦ lists_end found.1.ends e
    | None ↦ if n == 0 then gives_link c.lengths e.kind e.direction else gives_parameter
        (parameters_at c n) e.kind e.direction
  ]

  -- a branch has the ends that its row lists
  branch_has : (x : Par × Branch) → numbered_branch c n ≡ Some x → branch_lists c n e ≡ has_end c n e
  branch_has x is = ap listed_in is ∙ sym (ap had_in is)

  row_lists : (x : Par × Branch) → numbered_branch c n ≡ Some x → is_some (context_at c n) ≡ true
      → lists_end x.1.ends e ≡ branch_lists c n e
  row_lists x is there = sym (ap listed_in is ∙ ap (λ (b : Bool). b && lists_end x.1.ends e) there)

-- the run that is at the place of an end
pub run_at : (c : Contents) (n : ℕ) (e : EndRow) (x : Par × Branch) (runs : List ChannelRun) (place : ℕ)
    (none : ChannelRun) → numbered_branch c n ≡ Some x → is_some (context_at c n) ≡ true
    → MatchOption (numbered_branch c n) ⊥ (λ y. AreRuns (channel_length c n) y.1.ends runs)
    → slice_get x.1.ends place ≡ Some e
    → (place < length runs)
    × IsFirstRun (held_further (branch_lists c n) (channel_length c n) e) (get_or runs place none)
run_at c n e x runs place none is there at here =
    let right : AreRuns (channel_length c n) x.1.ends runs = rw is at at in
    let inside = slice_get_within x.1.ends place e here in
    let many = right.many in (
      omega (arith, many, inside),
      run_same (held_further (lists_end x.1.ends) (channel_length c n) e)
          (held_further (branch_lists c n) (channel_length c n) e) (get_or runs place none)
          (λ i. ap (λ (b : Bool). if b then Some (word_length (channel_length c n) (further e.kind i)) else None)
          (row_lists c n (end_further e i) x is there)) (right.each place e none here),
    )

-- ---- frame words

-- no context but a branch has an end of a frame word
word_listed : (c : Contents) (n : ℕ) (k : ℤ) (d : Direction)
    → branch_lists c n (word_end k d) ≡ has_end c n (word_end k d)
word_listed c n k d = on (numbered_branch c n) refl
  where
    neither : (a b : Bool) → (a && false) ≡ (a && cond b false false)
    neither true true = refl
    neither true false = refl
    neither false b = refl

    on : (found : Option (Par × Branch)) → numbered_branch c n ≡ found
        → branch_lists c n (word_end k d) ≡ has_end c n (word_end k d)
    on None none =
        ap (listed_in c n (word_end k d)) none ∙ neither (is_some (context_at c n)) (n == 0)
        ∙ sym (ap (had_in c n (word_end k d)) none)
    on (Some x) is = branch_has c n (word_end k d) x is

-- the run from a frame word on
pub words_held : (c : Contents) (n : ℕ) (k : ℤ) (d : Direction) (found : Option ChannelRun)
    → MatchOption found (branch_lists c n (word_end k d) ≡ false)
    (IsFirstRun (held_further (branch_lists c n) (channel_length c n) (word_end k d)))
    → MatchOption found (held_from c n d k ≡ None) (IsRun (held_from c n d) k)
words_held c n k d None h =
    ap (λ (b : Bool). if b then Some (channel_length c n k) else None) (sym (word_listed c n k d) ∙ h)
words_held c n k d (Some run) h =
    run_same (held_further (branch_lists c n) (channel_length c n) (word_end k d)) (λ i. held_from c n d (k +ℤ pos i)) run
    (λ i. ap (λ (b : Bool). if b then Some (channel_length c n (k +ℤ pos i)) else None)
    (word_listed c n (k +ℤ pos i) d)) h

-- ---- elements of a parameter

-- ends that are the same ones have the same count
count_same : (has other : ℕ → Bool) (count : ℕ) → ((i : ℕ) → has i ≡ other i) → IsRunCount has count
    → IsRunCount other count
count_same has other count same h = record {
  each = λ i lt. sym (same i) ∙ h.each i lt;
  stops = sym (same count) ∙ h.stops;
}

-- the count of a run of channels without lengths
run_counts : (has : ℕ → Bool) (run : ChannelRun) → IsFirstRun (λ i. if has i then Some None else None) run
    → IsRunCount has run.count
run_counts has run h = record {
  each = λ i lt. (held (has i) run.length (h.each i lt)).0;
  stops = on (has run.count) refl;
}
  where
    held : (b : Bool) (len : Option ℕ) → (if b then Some None else None) ≡ Some len → (b ≡ true) × (None ≡ len)
    held true len e = (refl, let same : None ≡ len = cc in same)
    held false len e = absurd cc

    none : None ≡ run.length
    none = (held (has 0) run.length (h.each 0 h.some)).1

    on : (b : Bool) → has run.count ≡ b → has run.count ≡ false
    on true is = absurd (h.stops (rw is (ap (λ (o : Option ℕ). Some o) none)))
    on false is = is

-- the run from an element on
pub elements_held : (c : Contents) (n : ℕ) (number : ℤ) (element : ℕ) (d : Direction) (run : ChannelRun)
    → IsFirstRun (held_further (branch_lists c n) (channel_length c n) (element_end number element d)) run
    → IsRunCount (has_element c n number element d) run.count
elements_held c n number element d run h = on (numbered_branch c n) refl
  where
    on : (found : Option (Par × Branch)) → numbered_branch c n ≡ found
        → IsRunCount (has_element c n number element d) run.count
    on None none = absurd (let first : cond (is_some (context_at c n) && false) (Some None) None ≡ Some run.length =
        sym (ap (λ (b : Bool). if b then Some None else None) (ap (listed_in c n (element_end number (element + 0) d)) none))
        ∙ h.each 0 h.some in nothing (is_some (context_at c n)) run.length first)
      where
        nothing : (b : Bool) (len : Option ℕ) → cond (b && false) (Some None) None ≡ Some len → ⊥
        nothing true len e = absurd cc
        nothing false len e = absurd cc
    on (Some x) is =
        count_same (λ i. branch_lists c n (element_end number (element + i) d)) (has_element c n number element d)
        run.count (λ i. branch_has c n (element_end number (element + i) d) x is)
        (run_counts (λ i. branch_lists c n (element_end number (element + i) d)) run h)
