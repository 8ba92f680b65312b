-- What becomes of asking one link.
use Rattle.std.proofs.Common.{◌≡◌, ◌⊎◌, inl, inr, ℕ, ◌+◌, ◌<◌, Bool, true, false, is_none, cond, List}
use Rattle.std.proofs.Common.{[]}
use Rattle.std.proofs.Common.{Option, Some, None, Ok, Err, refl, sym, ap, subst, ◌∙◌, arith}
use Rattle.module_format.specs.Contents.{Contents}
use Rattle.machine_state.specs.declared.event.Event.{Event}
use Rattle.machine_state.specs.declared.event.Event.TheVariants.{Arrive}
use Rattle.machine_state.specs.declared.link.Link.{Link}
use Rattle.machine_state.specs.declared.link.Link.TheVariants.{Zero, One, Two, Three}
use Rattle.machine_state.specs.World.{World}
use Rattle.machine_state.specs.Happens.{happens}
use Rattle.link_runs.specs.ByLink.{ByLink, of_link, with_link}
use Rattle.link_runs.specs.Awaiting.{awaited}
use Rattle.link_runs.specs.Deadlocks.{is_from_outside}
use Rattle.link_runs.specs.Driving as drives
use Rattle.link_runs.specs.Driving.{IsReached, StopsAt}
use Rattle.link_runs.specs.FirstInFirstOut.{RunMoment, asked}
use Rattle.link_runs.specs.Wanting.{is_running, wants}
use Rattle.link_runs.proofs.Arriving.{closer}
use Rattle.link_runs.proofs.FromOutside.{outside_counts_nothing}
use Rattle.link_runner.specs.declared.device.Failed.{Failed}
use Rattle.link_runner.specs.declared.tally.Counts.{Counts}
use Rattle.link_runner.specs.declared.tally.Ended.{Ended}
use Rattle.link_runner.specs.declared.tally.Tally.{Tally}
use Rattle.link_runner.specs.Counting.{saturated, with_flag, with_count, ended_at, counts_of, tally_of}
use Rattle.link_runner.specs.Readers.{at_link, flag_at, NoneFailed, SameElsewhere, Takes, EndsRightly}
use Rattle.link_runner.specs.Readers as readers
use Rattle.link_runner.specs.Readers.{IsReadTo, IsReadOn, IsThere, ReadsOn}
use Rattle.link_runner.specs.Readers.{IsCalled, FailsToRead, count_open, IsSupplied}
use Rattle.link_runner.proofs.AtLinks.{still_none, now_one}
use Rattle.link_runner.proofs.ReadOn.{byte_read, end_read, none_read, takes_same, asked_is_open, asked_is_wanted}

-- ---- counts

saturated_more : (n k : ℕ) → saturated (saturated n + k) ≡ saturated (n + k)
saturated_more n k = omega arith

pub counted_one : (link : Link) (all : ByLink ℕ)
    → with_count link 1 (counts_of all) ≡ counts_of (with_link link (of_link all link + 1) all)
counted_one Zero all = ap (λ (n : ℕ). record (counts_of all) { first = n }) (saturated_more all.first 1)
counted_one One all = ap (λ (n : ℕ). record (counts_of all) { second = n }) (saturated_more all.second 1)
counted_one Two all = ap (λ (n : ℕ). record (counts_of all) { third = n }) (saturated_more all.third 1)
counted_one Three all = ap (λ (n : ℕ). record (counts_of all) { fourth = n }) (saturated_more all.fourth 1)

pub ended_one : (link : Link) (s : RunMoment)
    → with_flag link (ended_at s) ≡ ended_at (record s { left = with_link link None s.left })
ended_one Zero s = refl
ended_one One s = refl
ended_one Two s = refl
ended_one Three s = refl

open_fewer : (link : Link) (s : RunMoment) → of_link s.left link ≡ Some []
    → count_open (ended_at (record s { left = with_link link None s.left })) < count_open (ended_at s)
open_fewer Zero s here = let was = ap {B = ℕ} (λ (o : Option (List ℕ)). cond (is_none o) 0 1) here in omega (arith, was)
open_fewer One s here = let was = ap {B = ℕ} (λ (o : Option (List ℕ)). cond (is_none o) 0 1) here in omega (arith, was)
open_fewer Two s here = let was = ap {B = ℕ} (λ (o : Option (List ℕ)). cond (is_none o) 0 1) here in omega (arith, was)
open_fewer Three s here = let was = ap {B = ℕ} (λ (o : Option (List ℕ)). cond (is_none o) 0 1) here in omega (
  arith,
  was,
)

pub wanted_comes_closer : (m : Contents) (w : World) (link : Link) (byte limit : ℕ)
    → IsReached m limit w → wants link w ≡ true
    → (is_running (happens m w (Arrive link byte)) ≡ true) ⊎ (awaited (happens m w (Arrive link byte)) < awaited w)
wanted_comes_closer m w link byte limit reached wanted =
    subst (λ (v : World). v.fault ≡ None → wants link v ≡ true
    → (is_running (happens m v (Arrive link byte)) ≡ true) ⊎ (awaited (happens m v (Arrive link byte)) < awaited v))
    (sym reached.world) (closer m reached.events link byte) reached.no_fault wanted

-- ---- a machine that stops of itself

pub is_there_after : (m : Contents) (w : World) (e : Event) (stopped : World → Type 0) → is_from_outside e ≡ true
    → StopsAt m w e stopped → IsThere m stopped (happens m w e)
is_there_after m w e stopped is (drives.at_fault f told stops) = readers.there stops
is_there_after m w e stopped is (drives.before_it stops) = readers.behind w e is refl stops

-- ---- the link that is asked

module _ {R : Type 0} {left : R → Option (List ℕ)} {failed : R → Bool} {m : Contents}
    {first before : List (Option R)} {writers : ByLink Bool} {s : RunMoment} {link : Link}
    (after : List (Option R)) (nobody : is_running s.world ≡ false) (ask : asked s ≡ Some link)
    (reads : IsReadTo left m first before writers s) (none : NoneFailed failed before)
    (elsewhere : SameElsewhere before after link) where
  -- a byte
  pub record GivesByte (byte : ℕ) : Type 0 where
    pub reads_on : IsReadTo left m first after writers (record s {
      world = happens m s.world (Arrive link byte);
      read = with_link link (of_link s.read link + 1) s.read;
    })
    pub none_failed : NoneFailed failed after

  gives_byte : (byte : ℕ) → byte < 256 → (x y : Option R) → at_link before link ≡ x → at_link after link ≡ y
      → IsCalled left failed {E = Failed} x (Ok (Some byte)) y → GivesByte byte
  gives_byte byte small None y was is called = absurd called
  gives_byte byte small (Some old) None was is called = absurd called
  gives_byte byte small (Some old) (Some new) was is called = record {
    reads_on = byte_read left m first before after writers s link elsewhere reads nobody ask byte small old new
        was is called.0;
    none_failed = still_none failed before after link none elsewhere
        (ap (flag_at failed) is ∙ (called.1 ∙ (sym (ap (flag_at failed) was) ∙ none.none link)));
  }

  pub byte_given : (byte : ℕ) → byte < 256
      → IsCalled left failed {E = Failed} (at_link before link) (Ok (Some byte)) (at_link after link)
      → GivesByte byte
  byte_given byte small called = gives_byte byte small (at_link before link) (at_link after link) refl refl called

  -- the end
  pub record GivesEnd : Type 0 where
    pub reads_on : IsReadTo left m first after writers (record s { left = with_link link None s.left })
    pub none_failed : NoneFailed failed after

  gives_end : (x y : Option R) → at_link before link ≡ x → at_link after link ≡ y
      → IsCalled left failed {E = Failed} x (Ok None) y → GivesEnd
  gives_end None None was is called = record {
    reads_on = end_read left m first before after writers s link elsewhere reads nobody ask
        (subst (λ (o : Option R). Takes left (at_link first link) o (of_link reads.taken link)) (was ∙ sym is)
        (reads.takes link))
        (subst (EndsRightly left None) (sym is) tt);
    none_failed = still_none failed before after link none elsewhere (ap (flag_at failed) is);
  }
  gives_end None (Some new) was is called = absurd called
  gives_end (Some old) None was is called = absurd called
  gives_end (Some old) (Some new) was is called = record {
    reads_on = end_read left m first before after writers s link elsewhere reads nobody ask
        (takes_same left m first before after writers s link elsewhere (at_link first link) (at_link before link)
        (at_link after link) old new (of_link reads.taken link) was is (reads.takes link) called.0)
        (subst (EndsRightly left None) (sym is) called.1);
    none_failed = still_none failed before after link none elsewhere
        (ap (flag_at failed) is ∙ (called.2 ∙ (sym (ap (flag_at failed) was) ∙ none.none link)));
  }

  pub end_given : IsCalled left failed {E = Failed} (at_link before link) (Ok None) (at_link after link) → GivesEnd
  end_given called = gives_end (at_link before link) (at_link after link) refl refl called

  -- a failure
  gives_nothing : (e : Failed) (x y : Option R) → at_link before link ≡ x → at_link after link ≡ y
      → IsCalled left failed x (Err e) y → FailsToRead left failed m first after writers s link
  gives_nothing e None y was is called = absurd called
  gives_nothing e (Some old) None was is called = absurd called
  gives_nothing e (Some old) (Some new) was is called = record {
    reads = none_read left m first before after writers s link elsewhere reads nobody ask
        (takes_same left m first before after writers s link elsewhere (at_link first link) (at_link before link)
        (at_link after link) old new (of_link reads.taken link) was is (reads.takes link) called.0);
    nobody_runs = nobody;
    asks = ask;
    one_failed = now_one failed before after link none elsewhere (ap (flag_at failed) is ∙ called.1);
  }

  pub read_failed : (e : Failed) → IsCalled left failed (at_link before link) (Err e) (at_link after link)
      → FailsToRead left failed m first after writers s link
  read_failed e called = gives_nothing e (at_link before link) (at_link after link) refl refl called

  -- ---- what the caller learns

  -- the moment after a byte
  abbrev after_byte : ℕ → RunMoment
  after_byte byte = record s {
    world = happens m s.world (Arrive link byte);
    read = with_link link (of_link s.read link + 1) s.read;
  }

  goes_on : (byte : ℕ) → GivesByte byte → ReadsOn left failed m first after writers s (after_byte byte)
  goes_on byte gives = record {
    reads = gives.reads_on;
    none_failed = gives.none_failed;
    written = refl;
    count = outside_counts_nothing m s.world (Arrive link byte) refl;
  }

  counted_byte : (byte : ℕ) (tally : Tally)
      → tally ≡ record (tally_of s) { read = with_count link 1 (counts_of s.read) }
      → tally ≡ tally_of (after_byte byte)
  counted_byte byte tally counts =
      counts ∙ ap (λ (counts : Counts). record (tally_of s) { read = counts }) (counted_one link s.read)

  -- the machine stopped of itself at the arrival
  pub supplies_nothing : (byte : ℕ) (tally : Tally) (stopped : World → Type 0) → GivesByte byte
      → tally ≡ record (tally_of s) { read = with_count link 1 (counts_of s.read) }
      → StopsAt m s.world (Arrive link byte) stopped
      → IsReadOn left failed m first after writers s tally (IsThere m stopped)
  supplies_nothing byte tally stopped gives counts stops = record {
    moment = after_byte byte;
    goes = goes_on byte gives;
    is_shown = is_there_after m s.world (Arrive link byte) stopped refl stops;
    counts = counted_byte byte tally counts;
  }

  pub supplies_byte : (byte limit : ℕ) (tally : Tally) (shown : World → Type 0) → GivesByte byte
      → IsReached m limit s.world
      → tally ≡ record (tally_of s) { read = with_count link 1 (counts_of s.read) }
      → shown (happens m s.world (Arrive link byte)) → IsSupplied left failed m first after writers s tally shown
  supplies_byte byte limit tally shown gives reached counts is_shown = record {
    moment = after_byte byte;
    goes = goes_on byte gives;
    is_shown = is_shown;
    counts = counted_byte byte tally counts;
    closer = elim (wanted_comes_closer m s.world link byte limit reached (asked_is_wanted s link ask)) [
      | inl runs ↦ inl runs
      | inr less ↦ inr (let same = ap (λ (t : Tally). count_open t.ended) counts in omega (arith, less, same))
    ];
  }

  pub supplies_end : (tally : Tally) (shown : World → Type 0) → GivesEnd
      → tally ≡ record (tally_of s) { ended = with_flag link (ended_at s) } → shown s.world
      → IsSupplied left failed m first after writers s tally shown
  supplies_end tally shown gives counts is_shown = record {
    moment = record s { left = with_link link None s.left };
    goes = record { reads = gives.reads_on; none_failed = gives.none_failed; written = refl; count = refl };
    is_shown = is_shown;
    counts = counts ∙ ap (λ (ended : Ended). record (tally_of s) { ended = ended }) (ended_one link s);
    closer = inr (
        let same = ap (λ (t : Tally). count_open t.ended) counts in
        let ended = ap count_open (ended_one link s) in
        let fewer = open_fewer link s (asked_is_open s link ask reads.spent) in
        omega (arith, same, ended, fewer));
  }
