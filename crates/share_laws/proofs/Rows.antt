-- What the format says of a branch's row.
use Rattle.std.proofs.Common.{◌≡◌, ℕ, zero, suc, ◌||◌, Bool, true, false, inl, inr, ℤ, pos, negsuc, List, [], ◌∷◌}
use Rattle.std.proofs.Common.{length, Option, Some, None, refl, ap, ◌∙◌, subst, arith}
use Rattle.std.proofs.lemmas.Bool.{eqb-true, or_cases, or_left, or_right}
use Rattle.std.proofs.lemmas.Int.{ints}
use Rattle.std.specs.Prelude.{slice_get, IsTrue, ◌==◌, FitsSigned}
use Rattle.std.specs.Int.{w32}
use Rattle.std.specs.List.{list_any, AllByRecursion}
use Rattle.small_laws.proofs.Comparisons.{eqb-self}
use Rattle.module_format.specs.declared.rows.Interval.{Interval}
use Rattle.module_format.specs.declared.rows.Parameter.{Parameter}
use Rattle.module_format.specs.declared.rows.EndKind.TheVariants as ends
use Rattle.module_format.specs.declared.rows.EndRow.{EndRow}
use Rattle.module_format.specs.declared.rows.EndKey.{EndKey}
use Rattle.module_format.specs.Contents.{Contents, Par, Branch}
use Rattle.module_format.specs.Contexts.{parameters_at, first_branch}
use Rattle.module_format.specs.Keeping.{Keeps, BranchFits, ParFits, end_is_there, names, has_element, is_region}
use Rattle.module_format.specs.Order.{InOrder, least_word}
use Rattle.module_format.proofs.OrderLaws.{each}
use Rattle.module_format.specs.Pars.{BranchKeeps, behind_branch, ParKeeps, behind_par, no_branches, GiftsKeep}
use Rattle.module_format.specs.Pars.{IntervalKeeps, behind_interval, EndKeeps, behind_end, EndKindKeeps}
use Rattle.certificate.proofs.RightLaws.{found_kept, reads_order}
use Rattle.machine_state.specs.BranchContexts.{context_of, IsContextOf}
use Rattle.machine_state.specs.JoinLookups.{Found, row_names, branch_names}
use Rattle.machine_state.specs.JoinLookups as lookups
use Rattle.machine_state.specs.Ownership.{IsAmong}
use Rattle.machine_state.proofs.Among.{any_among}
use Rattle.machine_state.proofs.FoundContexts.{branches_are_contexts}
use Rattle.rulings.specs.Reach.{is_listed}
use Rattle.share_laws.specs.Shares.{IsBranch}
use Rattle.share_laws.proofs.Stretches.{AreProper}

-- what is in a list at a number
pub among_at : {A : Type 0} (xs : List A) (i : ℕ) (x : A) → slice_get xs i ≡ Some x → IsAmong x xs
among_at [] i x h = absurd (cc)
among_at (y ∷ xs) zero x h = let same : y ≡ x = cc in inl same
among_at (y ∷ xs) (suc i) x h = inr (among_at xs i x h)

-- what holds of each item holds of one that is in the list
pub each_at : {A : Type 0} (P : A → Type 0) (xs : List A) (x : A) → AllByRecursion P xs → IsAmong x xs → P x
each_at P [] x h among = absurd among
each_at P (y ∷ xs) x h (inl same) = subst P same h.0
each_at P (y ∷ xs) x h (inr there) = each_at P xs x h.1 there

-- intervals that rise do not end before they begin
proper_from : (low : ℤ) (is : List Interval) → InOrder IntervalKeeps behind_interval low is → AreProper is
proper_from low [] h = tt
proper_from low (i ∷ is) h = (let some = h.0.some in omega (arith, ints, some), proper_from i.hi is h.1)

-- each of ends that rise is valid
ends_keep : (before : EndKey) (es : List EndRow) (e : EndRow) → InOrder EndKeeps behind_end before es → IsAmong e es
    → EndKindKeeps e.kind
ends_keep before [] e h among = absurd among
ends_keep before (x ∷ es) e h (inl same) = subst (λ (y : EndRow). EndKindKeeps y.kind) same h.0.kind
ends_keep before (x ∷ es) e h (inr there) = ends_keep _ es e h.1 there

-- the parameter of an end is there
pub record HasElement (parameters : List Parameter) (number : ℤ) (element : ℕ) : Type 0 where
  pub j : ℕ
  pub is : number ≡ pos j
  pub p : Parameter
  pub found : slice_get parameters j ≡ Some p
  pub has : has_element element p.kind ≡ true

-- a parameter that is found has the element
named_found : (parameters : List Parameter) (j element : ℕ) (o : Option Parameter) → slice_get parameters j ≡ o
    → IsTrue (elim o as (λ o. Bool) [ None ↦ false | Some p ↦ has_element element p.kind ])
    → HasElement parameters (pos j) element
named_found parameters j element None e h = absurd (cc)
named_found parameters j element (Some p) e h = record { j = j; is = refl; p = p; found = e; has = h }

-- and the parameter of an end in a valid row is found
pub element_found : (parameters : List Parameter) (number : ℤ) (element : ℕ)
    → IsTrue (end_is_there parameters (ends.Parameter number element)) → HasElement parameters number element
element_found parameters (pos j) element h = named_found parameters j element (slice_get parameters j) refl h
element_found parameters (negsuc n) element h = absurd (cc)

module _ (m : Contents) (found : Found) (keeps : Keeps m) (is : IsBranch m found) where
  -- the branch's context
  pub has_context : IsContextOf m found
  has_context = branches_are_contexts m found keeps is.row is.branch

  -- what the branch is given is valid
  pub gifts : GiftsKeep found.branch
  gifts = (found_kept m (context_of m found) (found.par, found.branch) keeps has_context.numbered).0

  -- its intervals to write are proper
  pub proper_writes : AreProper found.branch.writes
  proper_writes = proper_from least_word found.branch.writes gifts.writes

  -- so are those to read
  pub proper_reads : AreProper found.branch.reads
  proper_reads = proper_from least_word found.branch.reads
      (reads_order found.branch.writes least_word found.branch.reads gifts.reads)

  -- what it is given of parameters is there
  pub fits : BranchFits (parameters_at m found.par.context) found.branch
  fits = each_at (BranchFits (parameters_at m found.par.context)) found.par.branches found.branch
      (each_at (ParFits m) m.pars found.par keeps.names.pars (among_at m.pars found.row found.par is.row))
      (among_at found.par.branches found.number found.branch is.branch)

  -- its workspace is a word
  pub workspace_fits : FitsSigned w32 found.branch.workspace
  workspace_fits = each_at (λ (b : Branch). FitsSigned w32 b.workspace) found.par.branches found.branch
      (each_at (λ (row : Par). AllByRecursion (λ (b : Branch). FitsSigned w32 b.workspace) row.branches) m.pars
      found.par
      (each (ParKeeps (first_branch m) (length m.code)) behind_par
      (λ (row : Par). AllByRecursion (λ (b : Branch). FitsSigned w32 b.workspace) row.branches)
      (λ before row h. each (BranchKeeps (length m.code)) behind_branch (λ (b : Branch). FitsSigned w32 b.workspace)
      (λ low b k. k.workspace_fits) before row.branches h.branches) no_branches m.pars keeps.rows.pars)
      (among_at m.pars found.row found.par is.row))
      (among_at found.par.branches found.number found.branch is.branch)

  -- each of its ends is valid
  pub end_keeps : (e : EndRow) → IsAmong e found.branch.ends → EndKindKeeps e.kind
  end_keeps e among = ends_keep _ found.branch.ends e gifts.ends among

  -- and names what is there
  pub end_fits : (e : EndRow) → IsAmong e found.branch.ends
      → IsTrue (end_is_there (parameters_at m found.par.context) e.kind)
  end_fits e among = each_at (λ (e : EndRow). IsTrue (end_is_there (parameters_at m found.par.context) e.kind))
      found.branch.ends e fits.ends among

  -- what the branch names its row names
  named : (j : ℕ) → branch_names j found.branch ≡ true → row_names found.par j ≡ true
  named j h = any_among (branch_names j) found.par.branches found.branch
      (among_at found.par.branches found.number found.branch is.branch) h

  -- a parameter that the branch is to write is named
  pub written_is_named : (j : ℕ) → is_listed found.branch.written_parameters j ≡ true → row_names found.par j ≡ true
  written_is_named j h = named j (or_left _ (list_any (λ (e : EndRow). lookups.names_end j e.kind) found.branch.ends)
      (or_left _ (is_listed found.branch.read_parameters j) h))

  -- one that it is to read is
  pub read_is_named : (j : ℕ) → is_listed found.branch.read_parameters j ≡ true → row_names found.par j ≡ true
  read_is_named j h = named j (or_left _ (list_any (λ (e : EndRow). lookups.names_end j e.kind) found.branch.ends)
      (or_right (is_listed found.branch.written_parameters j) _ h))

  -- and one of which it has an end
  pub end_is_named : (j element : ℕ) (e : EndRow) → e.kind ≡ ends.Parameter (pos j) element
      → IsAmong e found.branch.ends → row_names found.par j ≡ true
  end_is_named j element e kind among = named j
      (or_right (is_listed found.branch.written_parameters j || is_listed found.branch.read_parameters j) _
      (any_among (λ (e : EndRow). lookups.names_end j e.kind) found.branch.ends e among
      (ap (lookups.names_end j) kind ∙ eqb-self j)))

  -- a parameter that the branch is to read is a region
  pub read_is_region : (j : ℕ) (p : Parameter) → is_listed found.branch.read_parameters j ≡ true
      → slice_get (parameters_at m found.par.context) j ≡ Some p → is_region p.kind ≡ true
  read_is_region j p listed there = on (listed_at found.branch.read_parameters fits.read listed)
    where
      listed_at : (numbers : List ℕ) → AllByRecursion (λ j. IsTrue (names is_region (parameters_at m found.par.context)
          j)) numbers → is_listed numbers j ≡ true → IsTrue (names is_region (parameters_at m found.par.context) j)
      listed_at [] all h = absurd (cc)
      listed_at (k ∷ ks) all h = elim (or_cases (k == j) _ h) [
        | inl here ↦ subst (λ n. IsTrue (names is_region (parameters_at m found.par.context) n)) (eqb-true k j here)
            all.0
        | inr later ↦ listed_at ks all.1 later
      ]

      on : IsTrue (names is_region (parameters_at m found.par.context) j) → is_region p.kind ≡ true
      on h = subst (λ (o : Option Parameter).
          IsTrue (elim o as (λ o. Bool) [ None ↦ false | Some p ↦ is_region p.kind ])) there h
