-- A run is a list of events.
use Rattle.std.proofs.Common.{◌≡◌, ◌≢◌, ℕ, zero, suc, ◌+◌, Bool, true, false, cond, nat_eq, List, [], ◌∷◌, ◌++◌}
use Rattle.std.proofs.Common.{length, Some, None}
use Rattle.std.proofs.Common.{Result, Ok, Err, refl, sym, ap, subst, ◌∙◌, append_assoc, append-nil, add-zero, eq-eqb}
use Rattle.std.proofs.lemmas.List.{length-append}
use Rattle.std.proofs.lemmas.Option.{same_Some}
use Rattle.module_format.specs.Contents.{Contents}
use Rattle.machine_state.specs.declared.event.Event.{Event}
use Rattle.machine_state.specs.declared.event.Event.TheVariants.{Step, Arrive, Acknowledge}
use Rattle.machine_state.specs.declared.fault.Fault.{Fault}
use Rattle.machine_state.specs.declared.link.Link.{Link}
use Rattle.machine_state.specs.declared.link.Link.TheVariants.{Zero, One, Two, Three}
use Rattle.machine_state.specs.Moves.{link_index}
use Rattle.machine_state.specs.World.{World, loaded}
use Rattle.machine_state.specs.Happens.{Effect, emitted, ran, idle, taken, kept, busy, acknowledged, ignored, turn}
use Rattle.machine_state.specs.Happens.{Turn, happens, run_from, emitted_by, emitted_from}
use Rattle.machine_state.specs.Endings as turns
use Rattle.machine_state.specs.Endings.{Happened, Rests}
use Rattle.machine_state.proofs.Turns.{turn_happens}
use Rattle.link_runs.specs.ByLink.{ByLink, of_link, with_link}
use Rattle.link_runs.specs.FirstInFirstOut.{Supply, RunMoment, plain_step, beginning, delivered, followed_up, stepped}
use Rattle.link_runs.specs.FirstInFirstOut.{supplied, IsRun}
use Rattle.link_runs.specs.RunLaws.{arrivals, WasAsked, written_if, HasEvents, RunsAreMadeOfEvents}
use Rattle.link_runs.proofs.ByLink.{of_same, of_other, Compared, same, other, compared}
use Rattle.link_runs.proofs.Turns as run_turns
use Rattle.link_runs.proofs.Turns.{Goes, Before, one_before}

-- ---- two lists of events, one after the other

pub run_on : (m : Contents) (w : World) (es more : List Event)
    → run_from m w (es ++ more) ≡ run_from m (run_from m w es) more
run_on m w [] more = refl
run_on m w (e ∷ es) more = run_on m (happens m w e) es more

emitted_on_both : (m : Contents) (w : World) (link : Link) (es more : List Event)
    → emitted_from m w link (es ++ more) ≡ emitted_from m w link es ++ emitted_from m (run_from m w es) link more
emitted_on_both m w link [] more = refl
emitted_on_both m w link (e ∷ es) more =
    ap (λ (bytes : List ℕ). emitted_by link (turn m w e).answer ++ bytes)
    (emitted_on_both m (happens m w e) link es more)
    ∙ sym (append_assoc (emitted_by link (turn m w e).answer) (emitted_from m (happens m w e) link es)
    (emitted_from m (run_from m (happens m w e) es) link more))

consed : (b : Bool) (byte : ℕ) (xs ys : List ℕ)
    → cond b (byte ∷ (xs ++ ys)) (xs ++ ys) ≡ cond b (byte ∷ xs) xs ++ ys
consed true byte xs ys = refl
consed false byte xs ys = refl

arrivals_of_both : (link : Link) (es more : List Event)
    → arrivals link (es ++ more) ≡ arrivals link es ++ arrivals link more
arrivals_of_both link [] more = refl
arrivals_of_both link (Step slice pick ∷ es) more = arrivals_of_both link es more
arrivals_of_both link (Acknowledge on ∷ es) more = arrivals_of_both link es more
arrivals_of_both link (Arrive on byte ∷ es) more =
    ap (λ (bytes : List ℕ). cond (nat_eq (link_index on) (link_index link)) (byte ∷ bytes) bytes)
    (arrivals_of_both link es more)
    ∙ consed (nat_eq (link_index on) (link_index link)) byte (arrivals link es) (arrivals link more)

written_of_both : (b : Bool) (xs ys : List ℕ) → written_if b (xs ++ ys) ≡ written_if b xs ++ written_if b ys
written_of_both true xs ys = refl
written_of_both false xs ys = refl

-- ---- only a Step emits

abbrev IsSilent : Link → Event → Turn → Type 0
IsSilent link (Step slice pick) t = Unit {0}
IsSilent link (Arrive on byte) t = emitted_by link t.answer ≡ []
IsSilent link (Acknowledge on) t = emitted_by link t.answer ≡ []

rests_silently : {e : Event} {effect : Effect} (link : Link) (w : World) → Rests e effect
    → IsSilent link e (record { world = w; answer = Ok effect })
rests_silently link w turns.is_idle = tt
rests_silently link w turns.is_busy = refl
rests_silently link w turns.arrives_nowhere = refl
rests_silently link w turns.is_ignored = refl

fails_silently : (link : Link) (e : Event) (w : World) (f : Fault)
    → IsSilent link e (record { world = w; answer = Err f })
fails_silently link (Step slice pick) w f = tt
fails_silently link (Arrive on byte) w f = refl
fails_silently link (Acknowledge on) w f = refl

silent : (m : Contents) (w : World) (link : Link) (e : Event) (t : Turn) → Happened m w e t → IsSilent link e t
silent m w link e t (turns.was_at_fault f is) = fails_silently link e w f
silent m w link e t (turns.it_rests rests) = rests_silently link w rests
silent m w link e t (turns.is_outside p task why runs here) = tt
silent m w link e t (turns.is_prefix p task byte operand runs here at none it next) = tt
silent m w link e t (turns.is_step p task byte f runs here at is ends) = tt
silent m w link e t (turns.is_taken input p here waits) = refl
silent m w link e t (turns.is_kept input here nobody empty) = refl
silent m w link e t (turns.is_acknowledged output p here waits) = refl

-- ---- a Step and its acknowledgement

-- the acknowledgement of what a Step emits
abbrev acknowledgements : ByLink Bool → Result Effect Fault → List Event
acknowledgements writers (Ok (emitted link bytes)) = cond (of_link writers link) (Acknowledge link ∷ []) []
acknowledgements writers (Ok _) = []
acknowledgements writers (Err f) = []

module _ (m : Contents) (writers : ByLink Bool) where
  pub delivers : (s : RunMoment) (link : Link) (bytes : List ℕ) (b : Bool) → of_link writers link ≡ b
      → ((delivered m writers link bytes s).world ≡ run_from m s.world (cond b (Acknowledge link ∷ []) []))
      × ((delivered m writers link bytes s).left ≡ s.left) × ((delivered m writers link bytes s).read ≡ s.read)
  delivers s link bytes true is = rw is (refl, refl, refl)
  delivers s link bytes false is = rw is (refl, refl, refl)

  -- what is written on a link
  written_same : (s : RunMoment) (link : Link) (bytes : List ℕ) (b : Bool) → of_link writers link ≡ b
      → of_link (delivered m writers link bytes s).written link ≡ of_link s.written link ++ written_if b bytes
  written_same s link bytes true is = rw is (of_same link (of_link s.written link ++ bytes) s.written)
  written_same s link bytes false is = rw is (sym (append-nil (of_link s.written link)))

  written_other : (s : RunMoment) (link on : Link) (bytes : List ℕ) (b : Bool) → of_link writers link ≡ b
      → link_index link ≢ link_index on
      → of_link (delivered m writers link bytes s).written on ≡ of_link s.written on
  written_other s link on bytes true is differ =
      rw is (of_other link on (of_link s.written link ++ bytes) s.written differ)
  written_other s link on bytes false is differ = rw is refl

  pub follows : (s : RunMoment) (a : Result Effect Fault)
      → ((followed_up m writers a s).world ≡ run_from m s.world (acknowledgements writers a))
      × ((followed_up m writers a s).left ≡ s.left) × ((followed_up m writers a s).read ≡ s.read)
  follows s (Ok (emitted link bytes)) = delivers s link bytes (of_link writers link) refl
  follows s (Ok ran) = (refl, refl, refl)
  follows s (Ok idle) = (refl, refl, refl)
  follows s (Ok taken) = (refl, refl, refl)
  follows s (Ok kept) = (refl, refl, refl)
  follows s (Ok busy) = (refl, refl, refl)
  follows s (Ok acknowledged) = (refl, refl, refl)
  follows s (Ok ignored) = (refl, refl, refl)
  follows s (Err f) = (refl, refl, refl)

  abbrev pub GrowsBy : RunMoment → RunMoment → Link → Result Effect Fault → Type 0
  GrowsBy s t on a =
      of_link t.written on ≡ of_link s.written on ++ written_if (of_link writers on) (emitted_by on a)

  no_more : (s : RunMoment) (on : Link) (b : Bool)
      → of_link s.written on ≡ of_link s.written on ++ written_if b []
  no_more s on true = sym (append-nil (of_link s.written on))
  no_more s on false = sym (append-nil (of_link s.written on))

  pub written_to : (s : RunMoment) (link on : Link) (bytes : List ℕ) → Compared link on
      → GrowsBy s (delivered m writers link bytes s) on (Ok (emitted link bytes))
  written_to s link on bytes (same is) =
      subst (λ (on : Link). GrowsBy s (delivered m writers link bytes s) on (Ok (emitted link bytes))) is
      (written_same s link bytes (of_link writers link) refl
      ∙ ap (λ (b : Bool). of_link s.written link ++ written_if (of_link writers link) (cond b bytes []))
      (sym (eq-eqb (link_index link) (link_index link) refl)))
  written_to s link on bytes (other differ test) =
      written_other s link on bytes (of_link writers link) refl differ
      ∙ (no_more s on (of_link writers on)
      ∙ ap (λ (b : Bool). of_link s.written on ++ written_if (of_link writers on) (cond b bytes [])) (sym test))

  written_after : (s : RunMoment) (on : Link) (a : Result Effect Fault) → GrowsBy s (followed_up m writers a s) on a
  written_after s on (Ok (emitted link bytes)) = written_to s link on bytes (compared link on)
  written_after s on (Ok ran) = no_more s on (of_link writers on)
  written_after s on (Ok idle) = no_more s on (of_link writers on)
  written_after s on (Ok taken) = no_more s on (of_link writers on)
  written_after s on (Ok kept) = no_more s on (of_link writers on)
  written_after s on (Ok busy) = no_more s on (of_link writers on)
  written_after s on (Ok acknowledged) = no_more s on (of_link writers on)
  written_after s on (Ok ignored) = no_more s on (of_link writers on)
  written_after s on (Err f) = no_more s on (of_link writers on)

  -- an acknowledgement brings nothing and emits nothing
  quiet_arrivals : (on : Link) (a : Result Effect Fault) → arrivals on (acknowledgements writers a) ≡ []
  quiet_arrivals on (Ok (emitted link bytes)) = by_writer (of_link writers link)
    where
      by_writer : (b : Bool) → arrivals on (cond b (Acknowledge link ∷ []) []) ≡ []
      by_writer true = refl
      by_writer false = refl
  quiet_arrivals on (Ok ran) = refl
  quiet_arrivals on (Ok idle) = refl
  quiet_arrivals on (Ok taken) = refl
  quiet_arrivals on (Ok kept) = refl
  quiet_arrivals on (Ok busy) = refl
  quiet_arrivals on (Ok acknowledged) = refl
  quiet_arrivals on (Ok ignored) = refl
  quiet_arrivals on (Err f) = refl

  quiet : (w : World) (on : Link) (a : Result Effect Fault) → emitted_from m w on (acknowledgements writers a) ≡ []
  quiet w on (Ok (emitted link bytes)) = by_writer (of_link writers link)
    where
      by_writer : (b : Bool) → emitted_from m w on (cond b (Acknowledge link ∷ []) []) ≡ []
      by_writer true = ap (λ (xs : List ℕ). xs ++ []) (silent m w on (Acknowledge link) _ (turn_happens m w
          (Acknowledge link)))
      by_writer false = refl
  quiet w on (Ok ran) = refl
  quiet w on (Ok idle) = refl
  quiet w on (Ok taken) = refl
  quiet w on (Ok kept) = refl
  quiet w on (Ok busy) = refl
  quiet w on (Ok acknowledged) = refl
  quiet w on (Ok ignored) = refl
  quiet w on (Err f) = refl

-- ---- more events of a run

-- what more events come to
pub record Adds (m : Contents) (writers : ByLink Bool) (s t : RunMoment) (more : List Event) : Type 0 where
  pub world : t.world ≡ run_from m s.world more
  pub left : (on : Link) (all : Supply) (bytes : List ℕ) → WasAsked all bytes (of_link s.left on)
      → WasAsked all (bytes ++ arrivals on more) (of_link t.left on)
  pub read : (on : Link) → of_link t.read on ≡ of_link s.read on + length (arrivals on more)
  pub written : (on : Link) → of_link t.written on
      ≡ of_link s.written on ++ written_if (of_link writers on) (emitted_from m s.world on more)

module _ (m : Contents) (inputs : ByLink Supply) (writers : ByLink Bool) (s t : RunMoment) (more : List Event) where
  further : HasEvents m inputs writers s → Adds m writers s t more → HasEvents m inputs writers t
  further before adds =
      let es = before.events in
      record {
        events = es ++ more;
        world = adds.world ∙ (ap (λ (w : World). run_from m w more) before.world ∙ sym (run_on m (loaded m) es more));
        arrived = λ on. subst (λ (bytes : List ℕ). WasAsked (of_link inputs on) bytes (of_link t.left on))
            (sym (arrivals_of_both on es more))
            (adds.left on (of_link inputs on) (arrivals on es) (before.arrived on));
        read = λ on. adds.read on
            ∙ (ap (λ (n : ℕ). n + length (arrivals on more)) (before.read on)
            ∙ (sym (length-append (arrivals on es) (arrivals on more))
            ∙ ap length (sym (arrivals_of_both on es more))));
        written = λ on. adds.written on
            ∙ (ap (λ (xs : List ℕ). xs ++ written_if (of_link writers on) (emitted_from m s.world on more))
            (before.written on)
            ∙ (ap (λ (w : World). written_if (of_link writers on) (emitted_from m (loaded m) on es)
            ++ written_if (of_link writers on) (emitted_from m w on more)) before.world
            ∙ (sym (written_of_both (of_link writers on) (emitted_from m (loaded m) on es)
            (emitted_from m (run_from m (loaded m) es) on more))
            ∙ ap (written_if (of_link writers on)) (sym (emitted_on_both m (loaded m) on es more)))));
      }

-- ---- a turn

module _ (m : Contents) (writers : ByLink Bool) (s : RunMoment) where
  abbrev answer : Result Effect Fault
  answer = (turn m s.world plain_step).answer

  abbrev between : RunMoment
  between = record s { world = happens m s.world plain_step }

  step_adds : Adds m writers s (stepped m writers s) (plain_step ∷ acknowledgements writers answer)
  step_adds =
      let follows_up = follows m writers between answer in
      record {
        world = follows_up.0;
        left = λ on all bytes asked. subst (λ (left : ByLink Supply). WasAsked all
            (bytes ++ arrivals on (acknowledgements writers answer)) (of_link left on)) (sym follows_up.1)
            (subst (λ (more : List ℕ). WasAsked all (bytes ++ more) (of_link s.left on))
            (sym (quiet_arrivals m writers on answer))
            (subst (λ (all_bytes : List ℕ). WasAsked all all_bytes (of_link s.left on)) (sym (append-nil bytes))
            asked));
        read = λ on. ap (λ (read : ByLink ℕ). of_link read on) follows_up.2 ∙ sym (add-zero (of_link s.read on))
            ∙ sym (ap (λ (more : List ℕ). of_link s.read on + length more) (quiet_arrivals m writers on answer));
        written = λ on. written_after m writers between on answer
            ∙ ap (λ (bytes : List ℕ). of_link s.written on ++ written_if (of_link writers on) bytes)
            (sym (append-nil (emitted_by on answer))
            ∙ ap (λ (xs : List ℕ). emitted_by on answer ++ xs)
            (sym (quiet m writers (happens m s.world plain_step) on answer)));
      }

  -- the next byte of a link
  byte_asked : (link on : Link) (byte : ℕ) (rest : List ℕ) (all : Supply) (bytes : List ℕ) → Compared link on
      → of_link s.left link ≡ Some (byte ∷ rest) → WasAsked all bytes (of_link s.left on)
      → WasAsked all (bytes ++ arrivals on (Arrive link byte ∷ []))
      (of_link (with_link link (Some rest) s.left) on)
  byte_asked link on byte rest None bytes (same is) here asked =
      let none : None ≡ Some (byte ∷ rest) = sym asked.1 ∙ (ap (of_link s.left) (sym is) ∙ here) in absurd (cc)
  byte_asked link on byte rest (Some all) bytes (same is) here asked =
      let at_link = subst (λ (l : Link). WasAsked (Some all) bytes (of_link s.left l)) (sym is) asked in
      let split = subst (λ (left : Supply). WasAsked (Some all) bytes left) here at_link in
      subst (λ (l : Link). WasAsked (Some all) (bytes ++ arrivals l (Arrive link byte ∷ []))
      (of_link (with_link link (Some rest) s.left) l)) is
      (subst (λ (left : Supply). WasAsked (Some all) (bytes ++ arrivals link (Arrive link byte ∷ [])) left)
      (sym (of_same link (Some rest) s.left))
      (subst (λ (b : Bool). all ≡ (bytes ++ cond b (byte ∷ []) []) ++ rest)
      (sym (eq-eqb (link_index link) (link_index link) refl))
      (split ∙ sym (append_assoc bytes (byte ∷ []) rest))))
  byte_asked link on byte rest all bytes (other differ test) here asked =
      subst (λ (left : Supply). WasAsked all (bytes ++ arrivals on (Arrive link byte ∷ [])) left)
      (sym (of_other link on (Some rest) s.left differ))
      (subst (λ (b : Bool). WasAsked all (bytes ++ cond b (byte ∷ []) []) (of_link s.left on)) (sym test)
      (subst (λ (xs : List ℕ). WasAsked all xs (of_link s.left on)) (sym (append-nil bytes)) asked))

  byte_counted : (link on : Link) (byte : ℕ) → Compared link on
      → of_link (with_link link (of_link s.read link + 1) s.read) on
      ≡ of_link s.read on + length (arrivals on (Arrive link byte ∷ []))
  byte_counted link on byte (same is) =
      subst (λ (l : Link). of_link (with_link link (of_link s.read link + 1) s.read) l
      ≡ of_link s.read l + length (arrivals l (Arrive link byte ∷ []))) is
      (of_same link (of_link s.read link + 1) s.read
      ∙ ap (λ (b : Bool). of_link s.read link + length (cond b (byte ∷ []) []))
      (sym (eq-eqb (link_index link) (link_index link) refl)))
  byte_counted link on byte (other differ test) =
      of_other link on (of_link s.read link + 1) s.read differ ∙ sym (add-zero (of_link s.read on))
      ∙ ap (λ (b : Bool). of_link s.read on + length (cond b (byte ∷ []) [])) (sym test)

  byte_adds : (link : Link) (byte : ℕ) (rest : List ℕ) → of_link s.left link ≡ Some (byte ∷ rest)
      → Adds m writers s (supplied m link (Some (byte ∷ rest)) s) (Arrive link byte ∷ [])
  byte_adds link byte rest here = record {
    world = refl;
    left = λ on all bytes asked. byte_asked link on byte rest all bytes (compared link on) here asked;
    read = λ on. byte_counted link on byte (compared link on);
    written = λ on. no_more m writers s on (of_link writers on)
        ∙ ap (λ (xs : List ℕ). of_link s.written on ++ written_if (of_link writers on) (xs ++ []))
        (sym (silent m s.world on (Arrive link byte) _ (turn_happens m s.world (Arrive link byte))));
  }

  -- a link has ended
  end_asked : (link on : Link) (all : Supply) (bytes : List ℕ) → Compared link on
      → of_link s.left link ≡ Some [] → WasAsked all bytes (of_link s.left on)
      → WasAsked all (bytes ++ []) (of_link (with_link link None s.left) on)
  end_asked link on None bytes (same is) here asked =
      let none : None ≡ Some [] = sym asked.1 ∙ (ap (of_link s.left) (sym is) ∙ here) in absurd (cc)
  end_asked link on (Some all) bytes (same is) here asked =
      let at_link = subst (λ (l : Link). WasAsked (Some all) bytes (of_link s.left l)) (sym is) asked in
      subst (λ (l : Link). WasAsked (Some all) (bytes ++ []) (of_link (with_link link None s.left) l)) is
      (subst (λ (left : Supply). WasAsked (Some all) (bytes ++ []) left) (sym (of_same link None s.left))
      (subst (λ (left : Supply). WasAsked (Some all) bytes left) here at_link))
  end_asked link on all bytes (other differ test) here asked =
      subst (λ (left : Supply). WasAsked all (bytes ++ []) left) (sym (of_other link on None s.left differ))
      (subst (λ (xs : List ℕ). WasAsked all xs (of_link s.left on)) (sym (append-nil bytes)) asked)

  end_adds : (link : Link) → of_link s.left link ≡ Some [] → Adds m writers s (supplied m link (Some []) s) []
  end_adds link here = record {
    world = refl;
    left = λ on all bytes asked. end_asked link on all bytes (compared link on) here asked;
    read = λ on. sym (add-zero (of_link s.read on));
    written = λ on. no_more m writers s on (of_link writers on);
  }

  no_adds : Adds m writers s s []
  no_adds = record {
    world = refl;
    left = λ on all bytes asked.
        subst (λ (xs : List ℕ). WasAsked all xs (of_link s.left on)) (sym (append-nil bytes)) asked;
    read = λ on. sym (add-zero (of_link s.read on));
    written = λ on. no_more m writers s on (of_link writers on);
  }

module _ (m : Contents) (inputs : ByLink Supply) (writers : ByLink Bool) where
  by_supply : (s : RunMoment) (link : Link) (supply : Supply) → of_link s.left link ≡ supply
      → HasEvents m inputs writers s → HasEvents m inputs writers (supplied m link supply s)
  by_supply s link None is before = before
  by_supply s link (Some []) is before =
      further m inputs writers s _ [] before (end_adds m writers s link is)
  by_supply s link (Some (byte ∷ rest)) is before =
      further m inputs writers s _ (Arrive link byte ∷ []) before (byte_adds m writers s link byte rest is)

  turn_made_of_events : (s t : RunMoment) → Goes m writers s t → HasEvents m inputs writers s
      → HasEvents m inputs writers t
  turn_made_of_events s t (run_turns.steps runs) before =
      further m inputs writers s _ (plain_step ∷ acknowledgements writers (turn m s.world plain_step).answer) before
      (step_adds m writers s)
  turn_made_of_events s t (run_turns.asks link nobody ask) before =
      by_supply s link (of_link s.left link) refl before

  nothing_asked : (supply : Supply) → WasAsked supply [] supply
  nothing_asked None = (refl, refl)
  nothing_asked (Some all) = refl

  none_written : (b : Bool) → [] ≡ written_if b []
  none_written true = refl
  none_written false = refl

  zero_read : (link : Link) → of_link (beginning m inputs).read link ≡ 0
  zero_read Zero = refl
  zero_read One = refl
  zero_read Two = refl
  zero_read Three = refl

  nothing_written : (link : Link) → of_link (beginning m inputs).written link ≡ []
  nothing_written Zero = refl
  nothing_written One = refl
  nothing_written Two = refl
  nothing_written Three = refl

  begins : HasEvents m inputs writers (beginning m inputs)
  begins = record {
    events = [];
    world = refl;
    arrived = λ link. nothing_asked (of_link inputs link);
    read = zero_read;
    written = λ link. nothing_written link ∙ none_written (of_link writers link);
  }

  made : (n : ℕ) (s : RunMoment) → IsRun m inputs writers n s → HasEvents m inputs writers s
  made zero s run = subst (HasEvents m inputs writers) (same_Some (beginning m inputs) s run) begins
  made (suc n) s run =
      let before = one_before m inputs writers n s run in
      turn_made_of_events before.moment s before.goes (made n before.moment before.run)

pub runs_made_of_events : RunsAreMadeOfEvents
runs_made_of_events = made

pub ruleset made_of_events = (runs_made_of_events)
