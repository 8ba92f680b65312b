-- The run over all bytes that the readers have.
use Rattle.std.proofs.Common.{◌≡◌, ℕ, Bool, true, false, cond, is_some, ◌&&◌, List, [], ◌++◌, Option, Some, None}
use Rattle.std.proofs.Common.{refl, sym}
use Rattle.std.proofs.Common.{ap, subst, ◌∙◌, append-nil}
use Rattle.std.specs.Io.KnownBytes.{Consumes, IsAtEnd}
use Rattle.module_format.specs.Contents.{Contents}
use Rattle.machine_state.specs.declared.link.Link.{Link}
use Rattle.machine_state.specs.declared.link.Link.TheVariants.{Zero, One, Two, Three}
use Rattle.link_runs.specs.ByLink.{ByLink, of_link, with_link}
use Rattle.link_runs.specs.FirstInFirstOut.{Supply, RunMoment, IsRun, IsOver, stepped, asked, can_be_asked}
use Rattle.link_runs.specs.FirstInFirstOut.{answered_by, next}
use Rattle.link_runs.specs.RunLaws.{WasAsked, more_of, more_on, with_more}
use Rattle.link_runs.specs.Wanting.{is_running, wants}
use Rattle.link_runs.proofs.ByLink.{first_alike, with_same}
use Rattle.link_runs.proofs.Turns.{next_none}
use Rattle.link_runs.proofs.Unasked.{unasked}
use Rattle.link_runner.specs.declared.report.Report.{Report}
use Rattle.link_runner.specs.Readers.{at_link, supply_of, inputs_of, IsSpent, Takes, EndsRightly, IsReadTo}
use Rattle.link_runner.specs.Writers.{writers_of}
use Rattle.link_runner.specs.Runs.{Has, Keeps, Finishes, FinishesWith}
use Rattle.link_runner.proofs.AskedBytes.{all_taken_was_asked, asked_still}

-- ---- more bytes on links that have not ended

more_nothing : (o : Supply) → more_of o [] ≡ o
more_nothing None = refl
more_nothing (Some bytes) = ap Some (append-nil bytes)

on_nothing : (link : Link) (all : ByLink Supply) → more_on link [] all ≡ all
on_nothing link all = ap (λ (o : Supply). with_link link o all) (more_nothing (of_link all link)) ∙ with_same link all

extends : (m : Contents) (writers : ByLink Bool) (n : ℕ) (link : Link) (bytes : List ℕ) (inputs : ByLink Supply)
    (s : RunMoment) (o : Supply) → of_link s.left link ≡ o → (o ≡ None → bytes ≡ []) → IsRun m inputs writers n s
    → IsRun m (more_on link bytes inputs) writers n (with_more link bytes s)
extends m writers n link bytes inputs s None is none run =
    subst (λ (xs : List ℕ). IsRun m (more_on link xs inputs) writers n (with_more link xs s)) (sym (none refl))
    (subst (λ (all : ByLink Supply). IsRun m all writers n (with_more link [] s)) (sym (on_nothing link inputs))
    (run ∙ ap (λ (all : ByLink Supply). Some (record s { left = all })) (sym (on_nothing link s.left))))
extends m writers n link bytes inputs s (Some rest) is none run = unasked link bytes m inputs writers n s rest run is

module _ (m : Contents) (writers : ByLink Bool) (n : ℕ) (inputs : ByLink Supply) (s : RunMoment) (all : ByLink (List
    ℕ)) where
  abbrev pub with_all : ByLink Supply → ByLink Supply
  with_all supplies = record {
    first = more_of supplies.first all.first;
    second = more_of supplies.second all.second;
    third = more_of supplies.third all.third;
    fourth = more_of supplies.fourth all.fourth;
  }

  abbrev pub later : RunMoment
  later = record s { left = with_all s.left }

  pub extends_all : ((link : Link) → of_link s.left link ≡ None → of_link all link ≡ []) → IsRun m inputs writers n s
      → IsRun m (with_all inputs) writers n later
  extends_all none run =
      let a = extends m writers n Zero all.first inputs s s.left.first refl (none Zero) run in
      let b = extends m writers n One all.second _ _ s.left.second refl (none One) a in
      let c = extends m writers n Two all.third _ _ s.left.third refl (none Two) b in
      extends m writers n Three all.fourth _ _ s.left.fourth refl (none Three) c

  more_there : (o : Supply) (bytes : List ℕ) → is_some (more_of o bytes) ≡ is_some o
  more_there None bytes = refl
  more_there (Some before) bytes = refl

  asks_alike : (link : Link) → can_be_asked later link ≡ can_be_asked s link
  asks_alike Zero = ap (λ (b : Bool). wants Zero s.world && b) (more_there s.left.first all.first)
  asks_alike One = ap (λ (b : Bool). wants One s.world && b) (more_there s.left.second all.second)
  asks_alike Two = ap (λ (b : Bool). wants Two s.world && b) (more_there s.left.third all.third)
  asks_alike Three = ap (λ (b : Bool). wants Three s.world && b) (more_there s.left.fourth all.fourth)

  nobody_asked : (o : Option Link) → asked s ≡ o → answered_by m s o ≡ None → asked s ≡ None
  nobody_asked None is over = is
  nobody_asked (Some link) is over = absurd (cc)

  over_there : (b : Bool) → is_running s.world ≡ b
      → cond b (Some (stepped m writers s)) (answered_by m s (asked s)) ≡ None
      → IsOver m writers later
  over_there true runs over = absurd (cc)
  over_there false rests over = next_none m writers later rests
      (first_alike (can_be_asked later) (can_be_asked s) asks_alike ∙ nobody_asked (asked s) refl over)

  pub over_still : IsOver m writers s → IsOver m writers later
  unfolding next
  over_still over = over_there (is_running s.world) refl over

-- ---- what a reader has left

module _ {R W : Type 0} (left : R → Option (List ℕ)) (read_failed : R → Bool) (written : W → Option (List ℕ))
    (write_failed : W → Bool) (m : Contents) (readers readers_after : List (Option R))
    (writers writers_after : List (Option W)) where
  abbrev HasHere : Option R → Supply → Type 0
  HasHere = Has left read_failed written write_failed m readers readers_after writers writers_after

  abbrev KeepsHere : Option R → Supply → Type 0
  KeepsHere = Keeps left read_failed written write_failed m readers readers_after writers writers_after

  -- these bytes are left, after those that were taken
  record Rest (before after : Option R) (supply : Supply) (taken : List ℕ) (now : Supply) : Type 0 where
    bytes : List ℕ
    whole : supply ≡ more_of (supply_of before taken) bytes
    none : now ≡ None → bytes ≡ []
    keeps : KeepsHere after (more_of now bytes)

  at_end : (o : Option (List ℕ)) (bytes : List ℕ) → o ≡ Some bytes → IsAtEnd o → bytes ≡ []
  at_end None bytes is end = absurd (cc)
  at_end (Some xs) bytes is end = let same : xs ≡ bytes = cc in sym same ∙ end

  of_known : (r s : R) (o : Option (List ℕ)) (all taken : List ℕ) (now : Supply) → left r ≡ Some all → left s ≡ o
      → Consumes (Some all) o taken → IsSpent now → EndsRightly left now (Some s)
      → Rest (Some r) (Some s) (Some all) taken now
  of_known r s None all taken now has is consumes spent ends = absurd consumes
  of_known r s (Some bytes) all taken None has is consumes spent ends =
      let empty = at_end (left s) bytes is ends in record {
        bytes = bytes;
        whole = ap Some consumes;
        none = λ e. empty;
        keeps = is ∙ ap Some empty;
      }
  of_known r s (Some bytes) all taken (Some rest) has is consumes spent ends = record {
    bytes = bytes;
    whole = ap Some consumes;
    none = λ e. absurd (cc);
    keeps = is ∙ ap (λ (xs : List ℕ). Some (xs ++ bytes)) (sym spent);
  }

  rest_of : (before after : Option R) (supply : Supply) (taken : List ℕ) (now : Supply) → HasHere before supply
      → Takes left before after taken → IsSpent now → EndsRightly left now after → Rest before after supply taken now
  rest_of None None supply taken now has takes spent ends = record {
    bytes = [];
    whole = has;
    none = λ e. refl;
    keeps = tt;
  }
  rest_of None (Some s) supply taken now has takes spent ends = absurd takes
  rest_of (Some r) None supply taken now has takes spent ends = absurd takes
  rest_of (Some r) (Some s) None taken now has takes spent ends = absurd has
  rest_of (Some r) (Some s) (Some all) taken now has takes spent ends =
      of_known r s (left s) all taken now has refl
      (subst (λ (o : Option (List ℕ)). Consumes o (left s) taken) has takes) spent ends

  -- what was taken of a reader was asked for by the run over all that it had
  asked_there : (inputs : ByLink Supply) (flags : ByLink Bool) (s : RunMoment) (link : Link)
      (reads : IsReadTo left m readers readers_after flags s)
      (rest : Rest (at_link readers link) (at_link readers_after link) (of_link inputs link) (of_link reads.taken link)
      (of_link s.left link))
      → WasAsked (of_link inputs link) (of_link reads.taken link) (more_of (of_link s.left link) rest.bytes)
  asked_there inputs flags s link reads rest =
      subst (λ (supply : Supply). WasAsked supply (of_link reads.taken link) (more_of (of_link s.left link) rest.bytes))
      (sym rest.whole)
      (asked_still (supply_of (at_link readers link) (of_link reads.taken link)) (of_link reads.taken link) rest.bytes
      (of_link s.left link) rest.none (all_taken_was_asked left m readers readers_after flags s reads link))

  pub knows_all : (inputs : ByLink Supply) (report : Report) → ((link : Link)
      → HasHere (at_link readers link) (of_link inputs link))
      → Finishes left read_failed written write_failed m readers readers_after writers writers_after report
      → FinishesWith left read_failed written write_failed m readers readers_after writers writers_after inputs report
  knows_all inputs report has finishes =
      let reads = finishes.reads in
      let s = finishes.moment in
      let rest = λ (link : Link).
      rest_of (at_link readers link) (at_link readers_after link) (of_link inputs link) (of_link reads.taken link)
      (of_link s.left link) (has link) (reads.takes link) (reads.spent link) (reads.ends link) in
      let a = rest Zero in
      let b = rest One in
      let c = rest Two in
      let d = rest Three in
      let all : ByLink (List ℕ) = record { first = a.bytes; second = b.bytes; third = c.bytes; fourth = d.bytes } in
      let flags = writers_of writers in
      record {
        turns = reads.turns;
        moment = later m flags reads.turns (inputs_of readers reads.taken) s all;
        run = subst (λ (supplies : ByLink Supply). IsRun m supplies flags reads.turns
            (later m flags reads.turns (inputs_of readers reads.taken) s all))
            (sym (ap (λ (x : Supply). record inputs { first = x }) a.whole
            ∙ (ap (λ (x : Supply). record (with_all m flags reads.turns (inputs_of readers reads.taken) s all
            (inputs_of readers reads.taken)) { second = x; third = inputs.third; fourth = inputs.fourth }) b.whole
            ∙ (ap (λ (x : Supply). record (with_all m flags reads.turns (inputs_of readers reads.taken) s all
            (inputs_of readers reads.taken)) { third = x; fourth = inputs.fourth }) c.whole
            ∙ ap (λ (x : Supply). record (with_all m flags reads.turns (inputs_of readers reads.taken) s all
            (inputs_of readers reads.taken)) { fourth = x }) d.whole))))
            (extends_all m flags reads.turns (inputs_of readers reads.taken) s all
            (none_of s all a.none b.none c.none d.none) reads.run);
        over = over_still m flags reads.turns (inputs_of readers reads.taken) s all finishes.over;
        asked = record {
          asked = reads.taken;
          was_asked = asked_of inputs reads.taken
              (with_all m flags reads.turns (inputs_of readers reads.taken) s all s.left)
              (asked_there inputs flags s Zero reads a) (asked_there inputs flags s One reads b)
              (asked_there inputs flags s Two reads c) (asked_there inputs flags s Three reads d);
          are_bytes = reads.are_bytes;
        };
        unread = kept_of (with_all m flags reads.turns (inputs_of readers reads.taken) s all s.left) a.keeps b.keeps
            c.keeps d.keeps;
        writes = finishes.writes;
        reported = finishes.reported;
      }
    where
      none_of : (s : RunMoment) (all : ByLink (List ℕ)) → (s.left.first ≡ None → all.first ≡ [])
          → (s.left.second ≡ None → all.second ≡ []) → (s.left.third ≡ None → all.third ≡ [])
          → (s.left.fourth ≡ None → all.fourth ≡ []) → (link : Link) → of_link s.left link ≡ None
          → of_link all link ≡ []
      none_of s all a b c d Zero = a
      none_of s all a b c d One = b
      none_of s all a b c d Two = c
      none_of s all a b c d Three = d

      asked_of : (all : ByLink Supply) (taken : ByLink (List ℕ)) (now : ByLink Supply)
          → WasAsked all.first taken.first now.first → WasAsked all.second taken.second now.second
          → WasAsked all.third taken.third now.third → WasAsked all.fourth taken.fourth now.fourth
          → (link : Link) → WasAsked (of_link all link) (of_link taken link) (of_link now link)
      asked_of all taken now a b c d Zero = a
      asked_of all taken now a b c d One = b
      asked_of all taken now a b c d Two = c
      asked_of all taken now a b c d Three = d

      kept_of : (now : ByLink Supply) → KeepsHere (at_link readers_after Zero) now.first
          → KeepsHere (at_link readers_after One) now.second → KeepsHere (at_link readers_after Two) now.third
          → KeepsHere (at_link readers_after Three) now.fourth
          → (link : Link) → KeepsHere (at_link readers_after link) (of_link now link)
      kept_of now a b c d Zero = a
      kept_of now a b c d One = b
      kept_of now a b c d Two = c
      kept_of now a b c d Three = d
