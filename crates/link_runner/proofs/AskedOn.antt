-- Links that are asked until a process runs.
use Rattle.std.proofs.Common.{◌≡◌, ◌⊎◌, inl, inr, ℕ, ◌+◌, ◌<◌, Bool, true, false, cond, not, is_some, is_none, ◌&&◌}
use Rattle.std.proofs.Common.{List, Option, Result}
use Rattle.std.specs.Prelude.{⊤}
use Rattle.std.proofs.Common.{Some, None, Err, refl, sym, ap, subst, ◌∙◌, arith}
use Rattle.module_format.specs.Contents.{Contents}
use Rattle.machine_state.specs.declared.link.Link.{Link}
use Rattle.machine_state.specs.declared.link.Link.TheVariants.{Zero, One, Two, Three}
use Rattle.machine_state.specs.World.{World}
use Rattle.link_runs.specs.Awaiting.{awaited}
use Rattle.link_runs.specs.ByLink.{ByLink, of_link, first_link}
use Rattle.link_runs.specs.FirstInFirstOut.{RunMoment, asked, can_be_asked}
use Rattle.link_runs.specs.Wanting.{is_running, wants}
use Rattle.link_runs.proofs.ByLink.{first_alike}
use Rattle.link_runner.specs.declared.report.Halt.{Halt}
use Rattle.link_runner.specs.declared.report.Halt.TheVariants.{ReadFailed, WriteFailed, Stopped}
use Rattle.link_runner.specs.declared.tally.Tally.{Tally}
use Rattle.link_runner.specs.Counting.{flag_of, ended_at, tally_of}
use Rattle.link_runner.specs.Readers.{IsReadTo, NoneFailed, ReadsOn, count_open, IsSupplied, Supplies}
use Rattle.link_runner.specs.Readers.{Provides, FailsToRead}

-- ---- what is asked next

not_none : {A : Type 0} (o : Option A) → not (is_none o) ≡ is_some o
not_none None = refl
not_none (Some x) = refl

open_by_tally : (s : RunMoment) (link : Link) → not (flag_of (ended_at s) link) ≡ is_some (of_link s.left link)
open_by_tally s Zero = not_none s.left.first
open_by_tally s One = not_none s.left.second
open_by_tally s Two = not_none s.left.third
open_by_tally s Three = not_none s.left.fourth

pub asked_by_tally : (s : RunMoment) (tally : Tally) (o : Option Link) → tally ≡ tally_of s
    → o ≡ first_link (λ link. wants link s.world && not (flag_of tally.ended link)) → asked s ≡ o
asked_by_tally s tally o counts is =
    first_alike (can_be_asked s) (λ link. wants link s.world && not (flag_of tally.ended link))
    (λ link. ap (λ (b : Bool). wants link s.world && b)
    (sym (open_by_tally s link) ∙ ap (λ (t : Tally). not (flag_of t.ended link)) (sym counts)))
    ∙ sym is

-- ---- where the asking has come to

module _ {M R : Type 0} (left : R → Option (List ℕ)) (failed : R → Bool) (contents : M → Contents)
    (limit : M → ℕ) (shows : M → World → Type 0) (awaits : M → ℕ) where
  -- a moment that was read on to, as the machine and the tally have it
  pub record IsLed (m : Contents) (first readers : List (Option R)) (writers : ByLink Bool) (s : RunMoment)
      (machine : M) (tally : Tally) : Type 0 where
    pub moment : RunMoment
    pub goes : ReadsOn left failed m first readers writers s moment
    pub is_shown : shows machine moment.world
    pub counts : tally ≡ tally_of moment

  pub record IsAsking (machine_before : M) (readers_before : List (Option R)) (tally_before : Tally) (machine : M)
      (readers : List (Option R)) (tally : Tally) (running : Bool) : Type 0 where
    pub same : contents machine ≡ contents machine_before
    pub same_limit : limit machine ≡ limit machine_before
    pub runs : (w : World) → shows machine w → running ≡ is_running w
    pub leads : (first : List (Option R)) (writers : ByLink Bool) (s : RunMoment) → shows machine_before s.world
        → IsReadTo left (contents machine_before) first readers_before writers s → NoneFailed failed readers_before
        → tally_before ≡ tally_of s
        → IsLed (contents machine_before) first readers writers s machine tally

  pub begins_asking : (machine : M) (readers : List (Option R)) (tally : Tally) (running : Bool)
      → ((w : World) → shows machine w → running ≡ is_running w)
      → IsAsking machine readers tally machine readers tally running
  begins_asking machine readers tally running runs = record {
    same = refl;
    same_limit = refl;
    runs = runs;
    leads = λ first writers s shown reads none counts. record {
      moment = s;
      goes = record { reads = reads; none_failed = none; written = refl; count = refl };
      is_shown = shown;
      counts = counts;
    };
  }

module _ {R : Type 0} {left : R → Option (List ℕ)} {failed : R → Bool} {m : Contents} {first : List (Option R)}
    {writers : ByLink Bool} where
  joined : {readers later : List (Option R)} {s t u : RunMoment} → ReadsOn left failed m first readers writers s t
      → ReadsOn left failed m first later writers t u → ReadsOn left failed m first later writers s u
  joined goes then = record {
    reads = then.reads;
    none_failed = then.none_failed;
    written = then.written ∙ goes.written;
    count = then.count ∙ goes.count;
  }

-- ---- from there on

module _ {M R : Type 0} {left : R → Option (List ℕ)} {failed : R → Bool} {contents : M → Contents} {limit : M → ℕ}
    {shows : M → World → Type 0} {awaits : M → ℕ} {m : Contents} {first readers : List (Option R)}
    {writers : ByLink Bool} {s : RunMoment} {machine : M} {tally : Tally}
    (led : IsLed left failed contents limit shows awaits m first readers writers s machine tally)
    (later : List (Option R)) (new : Tally) where
  -- what asking this link comes to, where no process is running and the link is the next to be asked
  pub supplied_there : {S : Type 0} {running : Bool} {n : Contents} (link : Link) (r : Result ⊤ (Halt S))
      (shown : World → Type 0) (stopped : World → S → Type 0) → n ≡ m
      → ((w : World) → shows machine w → running ≡ is_running w) → running ≡ false
      → ((w : World) → shows machine w → Some link ≡ first_link (λ l. wants l w && not (flag_of tally.ended l)))
      → ((ever : List (Option R)) (on : ByLink Bool) (t : RunMoment) → shows machine t.world
      → is_running t.world ≡ false → asked t ≡ Some link → IsReadTo left n ever readers on t
      → NoneFailed failed readers → tally ≡ tally_of t
      → Supplies left failed n ever later on t link r new shown stopped)
      → Supplies left failed m first later writers led.moment link r new shown stopped
  supplied_there link r shown stopped same runs idle next supplies =
      let t = led.moment in
      subst (λ (k : Contents). Supplies left failed k first later writers t link r new shown stopped) same
      (supplies first writers t led.is_shown (sym (runs t.world led.is_shown) ∙ idle)
      (asked_by_tally t tally (Some link) led.counts (next t.world led.is_shown))
      (subst (λ (k : Contents). IsReadTo left k first readers writers t) (sym same) led.goes.reads)
      led.goes.none_failed led.counts)

  pub led_on : (after : M) → IsSupplied left failed m first later writers led.moment new (shows after)
      → IsLed left failed contents limit shows awaits m first later writers s after new
  led_on after supplied = record {
    moment = supplied.moment;
    goes = joined led.goes supplied.goes;
    is_shown = supplied.is_shown;
    counts = supplied.counts;
  }

  -- asking failed, or the machine stopped of itself
  pub stops_asking : {S : Type 0} (shown : World → Type 0) (stopped : World → S → Type 0) (link : Link) (e : Halt S)
      → Supplies left failed m first later writers led.moment link (Err e) new shown stopped
      → Provides left failed m first later writers s (Err e) new shown stopped
  stops_asking shown stopped link (ReadFailed on) supplies = record {
    moment = led.moment;
    written = led.goes.written;
    fails = subst (λ (l : Link). FailsToRead left failed m first later writers led.moment l) (sym supplies.0)
        supplies.1;
  }
  stops_asking shown stopped link (WriteFailed on) supplies = absurd supplies
  stops_asking shown stopped link (Stopped stop) supplies = record {
    moment = supplies.moment;
    goes = joined led.goes supplies.goes;
    is_shown = supplies.is_shown;
    counts = supplies.counts;
  }

-- what is asked ends
pub falls : {M : Type 0} (awaits : M → ℕ) (w v : World) (tally_was tally_is : Tally) (n : ℕ) (machine later : M)
    (was is : Bool) → was ≡ false → awaits machine ≡ awaited w → awaits later ≡ awaited v
    → count_open tally_was.ended ≡ n → is ≡ is_running v
    → ((is_running v ≡ true) ⊎ (awaited v + count_open tally_is.ended < awaited w + n))
    → cond is 0 (awaits later + count_open tally_is.ended + 1)
    < cond was 0 (awaits machine + count_open tally_was.ended + 1)
falls awaits w v tally_was tally_is n machine later was true idle before after open_was running closer =
    rw idle (omega arith)
falls awaits w v tally_was tally_is n machine later was false idle before after open_was running closer =
    rw idle (elim closer [
      | inl runs ↦ let both : false ≡ true = running ∙ runs in absurd (cc)
      | inr less ↦ omega (arith, less, before, after, open_was)
    ])
