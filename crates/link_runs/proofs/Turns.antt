-- One turn of a run.
use Rattle.std.proofs.Common.{◌≡◌, ℕ, suc, Bool, true, false, cond, Option, Some, None, refl, ap, subst, ◌∙◌}
use Rattle.std.proofs.lemmas.Option.{same_Some}
use Rattle.module_format.specs.Contents.{Contents}
use Rattle.machine_state.specs.declared.link.Link.{Link}
use Rattle.link_runs.specs.ByLink.{ByLink, of_link}
use Rattle.link_runs.specs.Wanting.{is_running}
use Rattle.link_runs.specs.FirstInFirstOut.{Supply, RunMoment, stepped, asked, supplied, answered_by, next, next_of}
use Rattle.link_runs.specs.FirstInFirstOut.{moment_after, IsRun}

module _ (m : Contents) (writers : ByLink Bool) (s : RunMoment) where
  pub next_running : is_running s.world ≡ true → next m writers s ≡ Some (stepped m writers s)
  unfolding next
  next_running runs = rw runs refl

  pub next_idle : is_running s.world ≡ false → next m writers s ≡ answered_by m s (asked s)
  unfolding next
  next_idle idle = rw idle refl

  pub next_asked : (link : Link) → is_running s.world ≡ false → asked s ≡ Some link
      → next m writers s ≡ Some (supplied m link (of_link s.left link) s)
  next_asked link idle ask = next_idle idle ∙ ap (answered_by m s) ask

  pub next_none : is_running s.world ≡ false → asked s ≡ None → next m writers s ≡ None
  next_none idle ask = next_idle idle ∙ ap (answered_by m s) ask

-- how a run goes on
pub data Goes (m : Contents) (writers : ByLink Bool) (s : RunMoment) : RunMoment → Type 0 where
  steps : is_running s.world ≡ true → Goes m writers s (stepped m writers s)
  asks : (link : Link) → is_running s.world ≡ false → asked s ≡ Some link
      → Goes m writers s (supplied m link (of_link s.left link) s)

module _ (m : Contents) (writers : ByLink Bool) (s t : RunMoment) where
  by_link_asked : (o : Option Link) → asked s ≡ o → is_running s.world ≡ false → answered_by m s o ≡ Some t
      → Goes m writers s t
  by_link_asked None ask idle is = absurd (cc)
  by_link_asked (Some link) ask idle is = subst (Goes m writers s) (same_Some _ t is) (asks link idle ask)

  by_running : (b : Bool) → is_running s.world ≡ b
      → cond b (Some (stepped m writers s)) (answered_by m s (asked s)) ≡ Some t → Goes m writers s t
  by_running true runs is = subst (Goes m writers s) (same_Some _ t is) (steps runs)
  by_running false idle is = by_link_asked (asked s) refl idle is

  pub next_goes : next m writers s ≡ Some t → Goes m writers s t
  unfolding next
  next_goes is = by_running (is_running s.world) refl is

-- the moment before the last turn
pub record Before (m : Contents) (inputs : ByLink Supply) (writers : ByLink Bool) (n : ℕ) (t : RunMoment) : Type 0 where
  pub moment : RunMoment
  pub run : IsRun m inputs writers n moment
  pub goes : Goes m writers moment t

module _ (m : Contents) (inputs : ByLink Supply) (writers : ByLink Bool) (n : ℕ) (t : RunMoment) where
  pub one_more : (s : RunMoment) → IsRun m inputs writers n s → next m writers s ≡ Some t
      → IsRun m inputs writers (suc n) t
  one_more s run goes = ap (next_of m writers) run ∙ goes

  by_before : (o : Option RunMoment) → moment_after m inputs writers n ≡ o → next_of m writers o ≡ Some t
      → Before m inputs writers n t
  by_before None run is = absurd (cc)
  by_before (Some s) run is = record { moment = s; run = run; goes = next_goes m writers s t is }

  pub one_before : IsRun m inputs writers (suc n) t → Before m inputs writers n t
  one_before is = by_before (moment_after m inputs writers n) refl is
