-- A run that is driven on to its end.
use Rattle.std.proofs.Common.{◌≡◌, ℕ, ◌-◌, ◌<◌, ◌≤◌, Bool, true, is_none, is_some, List, [], Option}
use Rattle.std.proofs.Common.{Some, None, Ok, Err}
use Rattle.std.proofs.Common.{Result, refl, sym, ap, subst, ◌∙◌, arith}
use Rattle.module_format.specs.Contents.{Contents}
use Rattle.module_format.specs.Order.{IsBytes}
use Rattle.machine_state.specs.declared.link.Link.{Link}
use Rattle.machine_state.specs.declared.link.Link.TheVariants.{Zero, One, Two, Three}
use Rattle.machine_state.specs.World.{World}
use Rattle.machine_state.specs.Happens.{emitted, turn, happens}
use Rattle.link_runs.specs.ByLink.{ByLink, of_link, for_all}
use Rattle.link_runs.specs.Driving as drives
use Rattle.link_runs.specs.Driving.{Quietly, ComesToRest, ComesToEmit, ComesToStop, StopsAt, Proceeds}
use Rattle.link_runs.specs.declared.driving.Progress.{Progress}
use Rattle.link_runs.specs.FirstInFirstOut.{RunMoment, beginning, delivered, plain_step, IsOver}
use Rattle.link_runs.specs.Wanting.{is_running}
use Rattle.link_runner.specs.declared.report.Outcome.{Outcome}
use Rattle.link_runner.specs.declared.report.Report.{Report}
use Rattle.link_runner.specs.declared.report.Halt.{Halt}
use Rattle.link_runner.specs.declared.report.Halt.TheVariants.{ReadFailed, WriteFailed, Stopped}
use Rattle.link_runner.specs.declared.tally.Counts.{Counts}
use Rattle.link_runner.specs.declared.tally.Tally.{Tally}
use Rattle.link_runner.specs.Counting.{tally_of, report_of}
use Rattle.link_runner.specs.Readers.{at_link, inputs_of, supply_of, IsSpent, Takes, EndsRightly, IsReadTo, NoneFailed}
use Rattle.link_runner.specs.Readers as readers_at
use Rattle.link_runner.specs.Readers.{ReadsOn, Provides, IsProvided, absent_of, tally_at_start, IsThere, GoesOn}
use Rattle.link_runner.specs.Writers.{writers_of, Puts, PutsOn, IsDelivered, Delivers}
use Rattle.link_runner.specs.Runs.{Finishes, StopsAtWrite, Drives, ComesTo, ComesToEnd, StopsOfItself}
use Rattle.link_runs.specs.RunLaws.{written_if}
use Rattle.link_runner.proofs.AtLinks.{of_by_link}
use Rattle.link_runner.proofs.AskedBytes.{no_byte}
use Rattle.link_runner.proofs.DrivenOn.{moved_to, goes_quietly, fails_next, emits_next, counts_more, emission_counts}
use Rattle.link_runner.proofs.WrittenOn.{puts_nothing, puts_more, puts_message, writers_stay}
use Rattle.std.proofs.KnownBytes.{Consumes-nil}

module _ {R W : Type 0} (left : R → Option (List ℕ)) (read_failed : R → Bool) (written : W → Option (List ℕ))
    (write_failed : W → Bool) (m : Contents) (first : List (Option R)) (first_writers : List (Option W)) where
  -- the run came to this moment, with nothing failed
  pub record IsDrivenTo (s : RunMoment) (readers : List (Option R)) (writers : List (Option W)) : Type 0 where
    pub reads : IsReadTo left m first readers (writers_of first_writers) s
    pub writes : (link : Link)
        → Puts written (at_link first_writers link) (at_link writers link) (of_link s.written link)
    pub no_read_failed : NoneFailed read_failed readers
    pub no_write_failed : NoneFailed write_failed writers

  comes_to : (s : RunMoment) (readers : List (Option R)) (writers : List (Option W)) → IsDrivenTo s readers writers
      → (tally : Tally) (shown : World → Type 0) → tally ≡ tally_of s → shown s.world
      → ComesTo left read_failed written write_failed m first readers first_writers writers s tally shown
  comes_to s readers writers driven tally shown counts is_shown = record {
    reads = driven.reads;
    writes = driven.writes;
    is_shown = is_shown;
    counts = counts;
    no_read_failed = driven.no_read_failed;
    no_write_failed = driven.no_write_failed;
  }

  -- ---- the start

  takes_none : (o : Option R) → Takes left o o []
  takes_none None = refl
  takes_none (Some reader) = Consumes-nil (left reader)

  spent_none : (o : Option R) → IsSpent (supply_of o [])
  spent_none None = tt
  spent_none (Some reader) = refl

  ends_none : (o : Option R) → EndsRightly left (supply_of o []) o
  ends_none None = tt
  ends_none (Some reader) = tt

  pub at_first : NoneFailed read_failed first → NoneFailed write_failed first_writers
      → IsDrivenTo (beginning m (inputs_of first (for_all []))) first first_writers
  at_first readers writers = record {
    reads = record {
      taken = for_all [];
      takes = takes;
      are_bytes = are_bytes;
      turns = 0;
      run = refl;
      spent = spent;
      ends = ends;
    };
    writes = writes;
    no_read_failed = readers;
    no_write_failed = writers;
  }
    where
      takes : (link : Link) → Takes left (at_link first link) (at_link first link) (of_link (for_all []) link)
      takes Zero = takes_none (at_link first Zero)
      takes One = takes_none (at_link first One)
      takes Two = takes_none (at_link first Two)
      takes Three = takes_none (at_link first Three)

      are_bytes : (link : Link) → IsBytes (of_link (for_all []) link)
      are_bytes Zero = no_byte
      are_bytes One = no_byte
      are_bytes Two = no_byte
      are_bytes Three = no_byte

      spent : (link : Link) → IsSpent (of_link (inputs_of first (for_all [])) link)
      spent Zero = spent_none (at_link first Zero)
      spent One = spent_none (at_link first One)
      spent Two = spent_none (at_link first Two)
      spent Three = spent_none (at_link first Three)

      ends : (link : Link) → EndsRightly left (of_link (inputs_of first (for_all [])) link) (at_link first link)
      ends Zero = ends_none (at_link first Zero)
      ends One = ends_none (at_link first One)
      ends Two = ends_none (at_link first Two)
      ends Three = ends_none (at_link first Three)

      writes : (link : Link) → Puts written (at_link first_writers link) (at_link first_writers link)
          (of_link (for_all []) link)
      writes Zero = puts_nothing written (at_link first_writers Zero)
      writes One = puts_nothing written (at_link first_writers One)
      writes Two = puts_nothing written (at_link first_writers Two)
      writes Three = puts_nothing written (at_link first_writers Three)

  -- ---- on the way

  module _ (s : RunMoment) (readers : List (Option R)) (writers : List (Option W))
      (driven : IsDrivenTo s readers writers) where
    pub provided : (t : RunMoment) (later : List (Option R))
        → ReadsOn left read_failed m first later (writers_of first_writers) s t → IsDrivenTo t later writers
    provided t later goes = record {
      reads = goes.reads;
      writes = λ link. subst (λ (all : ByLink (List ℕ)). Puts written (at_link first_writers link) (at_link writers
          link)
          (of_link all link)) (sym goes.written) (driven.writes link);
      no_read_failed = goes.none_failed;
      no_write_failed = driven.no_write_failed;
    }

    pub quieted : (w : World) → Quietly m s.world w → IsDrivenTo (moved_to w s) readers writers
    quieted w quietly = record {
      reads = goes_quietly left m first readers (writers_of first_writers) s w driven.reads quietly;
      writes = driven.writes;
      no_read_failed = driven.no_read_failed;
      no_write_failed = driven.no_write_failed;
    }

    same_writers : writers_of first_writers ≡ writers_of writers
    same_writers = writers_stay written first_writers writers s.written driven.writes

    module _ (link : Link) (message : List ℕ) (runs : is_running s.world ≡ true)
        (emits : (turn m s.world plain_step).answer ≡ Ok (emitted link message)) where
      abbrev emitting : RunMoment
      emitting = moved_to (happens m s.world plain_step) s

      abbrev pub with_message : RunMoment
      with_message = delivered m (writers_of writers) link message emitting

      told : (after : List (Option W)) → NoneFailed write_failed after
          → PutsOn written link (written_if (of_link (writers_of writers) link) message) writers after
          → IsDrivenTo with_message readers after
      told after none puts = record {
        reads = subst (λ (flags : ByLink Bool). IsReadTo left m first readers (writers_of first_writers)
            (delivered m flags link message emitting)) same_writers
            (emits_next left m first readers (writers_of first_writers) s link message driven.reads runs emits);
        writes = puts_message written m first_writers writers after link message (writers_of writers) emitting
            driven.writes
            puts;
        no_read_failed = driven.no_read_failed;
        no_write_failed = none;
      }

      pub message_delivered : (after : List (Option W)) (tally : Tally) (shown : World → Type 0)
          → IsDelivered written write_failed m link message emitting writers after tally shown
          → IsDrivenTo with_message readers after
      message_delivered after tally shown delivers = told after delivers.none_failed delivers.puts

      pub message_fails : {S : Type 0} (after : List (Option W)) (e : Halt S) (tally : Tally) (shown : World → Type 0)
          (stopped : World → S → Type 0)
          → Delivers written write_failed m link message emitting writers after (Err e) tally shown stopped
          → Drives left read_failed written write_failed m first readers first_writers after (Err e) tally shown stopped
      message_fails after (ReadFailed on) tally shown stopped delivers = absurd delivers
      message_fails after (Stopped stop) tally shown stopped delivers = record {
        moment = with_message;
        comes = comes_to with_message readers after (told after delivers.none_failed delivers.puts) tally
            (IsThere m (λ w. stopped w stop)) delivers.counts delivers.is_shown;
      }
      message_fails after (WriteFailed on) tally shown stopped delivers =
          subst (λ (l : Link). StopsAtWrite left read_failed written write_failed m first readers first_writers after l)
          (sym delivers.0) (record {
            moment = s;
            reads = driven.reads;
            runs = runs;
            message = message;
            emits = emits;
            there = ap (λ (flags : ByLink Bool). of_link flags link) same_writers
                ∙ (of_by_link (λ l. is_some (at_link writers l)) link ∙ delivers.1.there);
            part = delivers.1.part;
            is_part = delivers.1.is_part;
            writes = puts_more written first_writers writers after link s.written delivers.1.part driven.writes
                delivers.1.puts;
            no_read_failed = driven.no_read_failed;
            one_failed = delivers.1.one_failed;
          })

    pub provide_fails : {S : Type 0} (later : List (Option R)) (e : Halt S) (tally : Tally) (shown : World → Type 0)
        (stopped : World → S → Type 0)
        → Provides left read_failed m first later (writers_of first_writers) s (Err e) tally shown stopped
        → Drives left read_failed written write_failed m first later first_writers writers (Err e) tally shown stopped
    provide_fails later (Stopped stop) tally shown stopped provides = record {
      moment = provides.moment;
      comes = comes_to provides.moment later writers (provided provides.moment later provides.goes) tally
          (IsThere m (λ w. stopped w stop)) provides.counts provides.is_shown;
    }
    provide_fails later (ReadFailed link) tally shown stopped provides = record {
      moment = provides.moment;
      fails = provides.fails;
      writes = λ link. subst (λ (all : ByLink (List ℕ)). Puts written (at_link first_writers link) (at_link writers
          link)
          (of_link all link)) (sym provides.written) (driven.writes link);
      no_write_failed = driven.no_write_failed;
    }
    provide_fails later (WriteFailed link) tally shown stopped provides = absurd provides

    pub ends : (tally : Tally) (shown : World → Type 0) → IsOver m (writers_of first_writers) s
        → tally ≡ tally_of s → shown s.world
        → ComesToEnd left read_failed written write_failed m first readers first_writers writers tally shown
    ends tally shown over counts is_shown =
        record { moment = s; comes = comes_to s readers writers driven tally shown counts is_shown; over = over }

-- ---- the loop

module _ {M R W : Type 0} (left : R → Option (List ℕ)) (read_failed : R → Bool) (written : W → Option (List ℕ))
    (write_failed : W → Bool) (contents : M → Contents) (limit : M → ℕ) (shows : M → World → Type 0) where
  pub record IsDriving (m : Contents) (bound : ℕ) (first : List (Option R)) (first_writers : List (Option W))
      (machine : M)
      (readers : List (Option R)) (writers : List (Option W)) (tally : Tally) (executed : ℕ) : Type 0 where
    pub same : contents machine ≡ m
    pub most : limit machine ≡ bound
    pub moment : RunMoment
    pub is_shown : shows machine moment.world
    pub driven : IsDrivenTo left read_failed written write_failed m first first_writers moment readers writers
    pub counts : tally ≡ tally_of moment
    pub count : executed ≡ moment.world.counters.executed

module _ {M R W : Type 0} {left : R → Option (List ℕ)} {read_failed : R → Bool} {written : W → Option (List ℕ)}
    {write_failed : W → Bool} {contents : M → Contents} {limit : M → ℕ} {shows : M → World → Type 0} {m : Contents}
    {bound : ℕ} {first : List (Option R)} {first_writers : List (Option W)} {machine : M} {readers : List (Option R)}
    {writers : List (Option W)} {tally : Tally} {executed : ℕ}
    (driving : IsDriving left read_failed written write_failed contents limit shows m bound first first_writers machine
    readers writers tally executed) where
  abbrev flags : ByLink Bool
  flags = writers_of first_writers

  -- what `provide` says, of this run
  pub provides_here : {S : Type 0} (later : List (Option R)) (r : Result Bool (Halt S)) (new : Tally)
      (shown : World → Type 0) (stopped : World → S → Type 0)
      → ((ever : List (Option R)) (on : ByLink Bool) (s : RunMoment) → shows machine s.world
      → IsReadTo left (contents machine) ever readers on s → NoneFailed read_failed readers → tally ≡ tally_of s
      → Provides left read_failed (contents machine) ever later on s r new shown stopped)
      → Provides left read_failed m first later flags driving.moment r new shown stopped
  provides_here later r new shown stopped provides =
      subst (λ (n : Contents). Provides left read_failed n first later flags driving.moment r new shown stopped)
      driving.same
      (provides first flags driving.moment driving.is_shown
      (subst (λ (n : Contents). IsReadTo left n first readers flags driving.moment) (sym driving.same)
      driving.driven.reads) driving.driven.no_read_failed driving.counts)

  -- so it is where it says whether a process runs
  pub provided_here : {later : List (Option R)} {new : Tally} {shown : World → Type 0} {says runs : Bool} → says ≡ runs
      → ((ever : List (Option R)) (on : ByLink Bool) (s : RunMoment) → shows machine s.world
      → IsReadTo left (contents machine) ever readers on s → NoneFailed read_failed readers → tally ≡ tally_of s
      → IsProvided left read_failed (contents machine) ever later on s says new shown)
      → IsProvided left read_failed m first later flags driving.moment runs new shown
  provided_here {later} {new} {shown} {says} {runs} is provides =
      subst (λ (b : Bool). IsProvided left read_failed m first later flags driving.moment b new shown) is
      (provides_here {S = Unit {0}} later (Ok says) new shown (λ w stop. Unit {0}) provides)

  -- where the loop's body has come to
  pub record IsAdvanced (machine_after : M) (later : List (Option R)) (after : List (Option W)) (new : Tally) :
      Type 0 where
    pub moment : RunMoment
    pub is_shown : shows machine_after moment.world
    pub driven : IsDrivenTo left read_failed written write_failed m first first_writers moment later after
    pub counts : new ≡ tally_of moment
    pub more : executed < moment.world.counters.executed

  module _ {later : List (Option R)} {new : Tally} {shown : World → Type 0}
      (p : IsProvided left read_failed m first later flags driving.moment true new shown) where
    pub driven_there : IsDrivenTo left read_failed written write_failed m first first_writers p.moment later writers
    driven_there = provided left read_failed written write_failed m first first_writers driving.moment readers writers
        driving.driven p.moment later p.goes

    pub driven_on : (v : World) → Quietly m p.moment.world v
        → IsDrivenTo left read_failed written write_failed m first first_writers (moved_to v p.moment) later writers
    driven_on v quietly =
        quieted left read_failed written write_failed m first first_writers p.moment later writers driven_there v
        quietly

    -- how far the machine goes on by itself
    pub proceeds_here : {S : Type 0} {n : Contents} (last : List ℕ) (shown_now : World → Type 0)
        (stopped : World → S → Type 0) {says progress : Progress} → n ≡ m → says ≡ progress
        → ((w : World) → shown w → GoesOn n w (Ok says) last shown_now stopped)
        → Proceeds m p.moment.world (Ok progress) last shown_now stopped
    proceeds_here {S} {n} last shown_now stopped {says} {progress} same is goes =
        subst (λ (x : Progress). Proceeds m p.moment.world (Ok x) last shown_now stopped) is
        (subst (λ (k : Contents). GoesOn k p.moment.world (Ok says) last shown_now stopped) same
        (goes p.moment.world p.is_shown))

    pub idle_advances : (machine_after : M) → ComesToRest m p.moment.world (shows machine_after)
        → IsAdvanced machine_after later writers new
    idle_advances machine_after rest = record {
      moment = moved_to rest.world p.moment;
      is_shown = rest.is_shown;
      driven = driven_on rest.world rest.quietly;
      counts = p.counts;
      more =
          let more = counts_more m p.moment.world rest.world rest.quietly p.runs rest.nobody_runs in
          let same = p.goes.count in
          let count = driving.count in
          omega (arith, more, same, count);
    }

    module _ {link : Link} {message : List ℕ} {shown_then : World → Type 0}
        (emits : ComesToEmit m p.moment.world link message shown_then) where
      abbrev pub at_message : RunMoment
      at_message = moved_to (happens m emits.world plain_step) p.moment

      pub message_advances : (machine_after : M) (after : List (Option W)) (newest : Tally)
          → IsDelivered written write_failed m link message at_message writers after newest (shows machine_after)
          → IsAdvanced machine_after later after newest
      message_advances machine_after after newest delivers = record {
        moment = delivered m (writers_of writers) link message at_message;
        is_shown = delivers.is_shown;
        driven = message_delivered left read_failed written write_failed m first first_writers
            (moved_to emits.world p.moment) later writers (driven_on emits.world emits.quietly) link message
            emits.runs
            emits.emits after newest (shows machine_after) delivers;
        counts = delivers.counts;
        more =
            let more =
            emission_counts m (writers_of writers) p.moment.world emits.world link message at_message emits.quietly
            emits.emits refl in
            let same = p.goes.count in
            let count = driving.count in
            omega (arith, more, same, count);
      }

      pub message_stops : {S : Type 0} (after : List (Option W)) (e : Halt S) (newest : Tally)
          (shown_last : World → Type 0) (stopped : World → S → Type 0)
          → Delivers written write_failed m link message at_message writers after (Err e) newest shown_last stopped
          → Drives left read_failed written write_failed m first later first_writers after (Err e) newest shown_last
          stopped
      message_stops after e newest shown_last stopped delivers =
          message_fails left read_failed written write_failed m first first_writers (moved_to emits.world p.moment)
          later
          writers (driven_on emits.world emits.quietly) link message emits.runs emits.emits after e newest shown_last
          stopped delivers

    -- the machine stops of itself at a Step
    pub stops_itself : (stopped : World → Type 0) → ComesToStop m p.moment.world stopped
        → StopsOfItself left read_failed written write_failed m first later first_writers writers new stopped
    stops_itself stopped stops = by_stop stops.stops
      where
        driven_on_it : IsDrivenTo left read_failed written write_failed m first first_writers (moved_to stops.world
            p.moment)
            later writers
        driven_on_it = driven_on stops.world stops.quietly

        by_stop : StopsAt m stops.world plain_step stopped
            → StopsOfItself left read_failed written write_failed m first later first_writers writers new stopped
        by_stop (drives.at_fault f told is) = record {
          moment = moved_to (happens m stops.world plain_step) p.moment;
          comes = record {
            reads = fails_next left m first later flags (moved_to stops.world p.moment) f driven_on_it.reads
                stops.runs told;
            writes = driven_on_it.writes;
            is_shown = readers_at.there is;
            counts = p.counts;
            no_read_failed = driven_on_it.no_read_failed;
            no_write_failed = driven_on_it.no_write_failed;
          };
        }
        by_stop (drives.before_it is) = record {
          moment = moved_to stops.world p.moment;
          comes = comes_to left read_failed written write_failed m first first_writers (moved_to stops.world p.moment)
              later writers driven_on_it
              new (IsThere m stopped) p.counts (readers_at.there is);
        }

    pub goes_no_further : {S : Type 0} (last : List ℕ) (shown_now : World → Type 0) (stopped : World → S → Type 0)
        (halt : Halt S) → GoesOn m p.moment.world (Err halt) last shown_now stopped
        → Drives left read_failed written write_failed m first later first_writers writers (Err halt) new shown_now
        stopped
    goes_no_further last shown_now stopped (ReadFailed link) goes = absurd goes
    goes_no_further last shown_now stopped (WriteFailed link) goes = absurd goes
    goes_no_further last shown_now stopped (Stopped stop) goes = stops_itself (λ w. stopped w stop) goes

  module _ {machine_after : M} {later : List (Option R)} {after : List (Option W)} {new : Tally}
      (advanced : IsAdvanced machine_after later after new) (count : ℕ)
      (is : count ≡ advanced.moment.world.counters.executed) (most : limit machine_after ≡ bound) where
    pub drives_further : contents machine_after ≡ m
        → IsDriving left read_failed written write_failed contents limit shows m bound first first_writers
        machine_after later after new count
    drives_further same = record {
      same = same;
      most = most;
      moment = advanced.moment;
      is_shown = advanced.is_shown;
      driven = advanced.driven;
      counts = advanced.counts;
      count = is;
    }

    pub less_is_left : advanced.moment.world.counters.executed ≤ limit machine_after
        → limit machine_after - count < limit machine - executed
    less_is_left within =
        let more = advanced.more in
        let before = driving.most in
        omega (arith, more, is, within, most, before)

-- ---- what is counted and reported

abbrev zeroes : Counts
zeroes = record { first = 0; second = 0; third = 0; fourth = 0 }

abbrev of_flags : Bool → Bool → Bool → Bool → Tally
of_flags a b c d = record {
  ended = record { first = a; second = b; third = c; fourth = d };
  read = zeroes;
  written = zeroes;
}

absent_is : {R : Type 0} (o : Option R) → is_none o ≡ is_none (supply_of o [])
absent_is None = refl
absent_is (Some reader) = refl

-- nothing is counted at the start
pub counts_at_first : {R : Type 0} (m : Contents) (first : List (Option R))
    → tally_at_start first ≡ tally_of (beginning m (inputs_of first (for_all [])))
counts_at_first m first =
    ap (λ (b : Bool). of_flags b (is_none (at_link first One)) (is_none (at_link first Two))
    (is_none (at_link first Three))) (absent_is (at_link first Zero))
    ∙ (ap (λ (b : Bool). of_flags (is_none (supply_of (at_link first Zero) [])) b (is_none (at_link first Two))
    (is_none (at_link first Three))) (absent_is (at_link first One))
    ∙ (ap (λ (b : Bool). of_flags (is_none (supply_of (at_link first Zero) []))
    (is_none (supply_of (at_link first One) [])) b (is_none (at_link first Three))) (absent_is (at_link first Two))
    ∙ ap (λ (b : Bool). of_flags (is_none (supply_of (at_link first Zero) []))
    (is_none (supply_of (at_link first One) [])) (is_none (supply_of (at_link first Two) [])) b)
    (absent_is (at_link first Three))))

pub report_is : (s : RunMoment) (outcome : Outcome) (executed : ℕ) (read written : List ℕ)
    → outcome ≡ (report_of s).outcome → executed ≡ s.world.counters.executed → read ≡ (report_of s).read
    → written ≡ (report_of s).written
    → record { outcome = outcome; executed = executed; read = read; written = written } ≡ report_of s
report_is s outcome executed read written o e r w =
    ap (λ (x : Outcome). record { outcome = x; executed = executed; read = read; written = written }) o
    ∙ (ap (λ (x : ℕ). record { outcome = (report_of s).outcome; executed = x; read = read; written = written }) e
    ∙ (ap (λ (x : List ℕ). record (report_of s) { read = x; written = written }) r
    ∙ ap (λ (x : List ℕ). record (report_of s) { written = x }) w))

-- a run that came to its end is one that finishes with its report
pub finishes : {R W : Type 0} (left : R → Option (List ℕ)) (read_failed : R → Bool) (written : W → Option (List ℕ))
    (write_failed : W → Bool) (m : Contents) (first readers : List (Option R)) (first_writers writers : List (Option W))
    (tally : Tally) (shown : World → Type 0) (report : Report)
    (ends : ComesToEnd left read_failed written write_failed m first readers first_writers writers tally shown)
    → report ≡ report_of ends.moment
    → Finishes left read_failed written write_failed m first readers first_writers writers report
finishes left read_failed written write_failed m first readers first_writers writers tally shown report ends reported =
    record {
      moment = ends.moment;
      reads = ends.comes.reads;
      writes = ends.comes.writes;
      over = ends.over;
      reported = reported;
      no_read_failed = ends.comes.no_read_failed;
      no_write_failed = ends.comes.no_write_failed;
    }
