-- What a run asks for are bytes, and so it is made of events that can happen.
use Rattle.std.proofs.Common.{◌≡◌, ℕ, zero, suc, ◌<◌, ◌==◌, Bool, true, false, if◌then◌else◌, List, [], ◌∷◌, ◌++◌}
use Rattle.std.proofs.Common.{Option, Some, None, refl, sym, ap, subst, ◌∙◌, append_assoc, append-nil, eq-eqb, arith}
use Rattle.std.proofs.lemmas.List.{append_cancel_right}
use Rattle.module_format.specs.Contents.{Contents}
use Rattle.module_format.specs.Order.{IsBytes}
use Rattle.machine_state.specs.declared.event.Event.{Event}
use Rattle.machine_state.specs.declared.event.Event.TheVariants.{Step, Arrive, Acknowledge}
use Rattle.machine_state.specs.declared.link.Link.{Link}
use Rattle.machine_state.specs.Moves.{link_index}
use Rattle.link_runs.specs.ByLink.{ByLink, of_link}
use Rattle.link_runs.specs.FirstInFirstOut.{Supply, RunMoment}
use Rattle.link_runs.specs.RunLaws.{WasAsked, HasEvents, arrivals, more_of}
use Rattle.link_runs.proofs.Events.{runs_made_of_events}
use Rattle.verifier.specs.Headline.{AreEvents}
use Rattle.link_runner.specs.AskedBytes.{RunsOfBytesCanHappen}
use Rattle.link_runner.specs.Readers.{at_link, inputs_of, supply_of, IsSpent, Takes, IsReadTo}
use Rattle.link_runner.proofs.AtLinks.{of_by_link}

-- ---- lists of bytes

pub no_byte : IsBytes []
no_byte i = omega arith

pub one_byte : (byte : ℕ) → byte < 256 → IsBytes (byte ∷ [])
one_byte byte small zero = small
one_byte byte small (suc i) = no_byte i

pub bytes_more : (first more : List ℕ) → IsBytes first → IsBytes more → IsBytes (first ++ more)
bytes_more [] more are are_more i = are_more i
bytes_more (byte ∷ first) more are are_more zero = are zero
bytes_more (byte ∷ first) more are are_more (suc i) = bytes_more first more (λ k. are (suc k)) are_more i

-- ---- what arrives in a run

-- a byte that goes in front, if it does
in_front : (b : Bool) (byte : ℕ) (bytes : List ℕ) → b ≡ true
    → IsBytes (if b then byte ∷ bytes else bytes) → byte < 256
in_front true byte bytes is are = are zero
in_front false byte bytes is are = absurd (cc)

behind : (b : Bool) (byte : ℕ) (bytes : List ℕ) → IsBytes (if b then byte ∷ bytes else bytes) → IsBytes bytes
behind true byte bytes are i = are (suc i)
behind false byte bytes are i = are i

are_events : (es : List Event) → ((link : Link) → IsBytes (arrivals link es)) → AreEvents es
are_events [] are = tt
are_events (Step slice pick ∷ es) are = (tt, are_events es are)
are_events (Arrive link byte ∷ es) are = (
  in_front (link_index link == link_index link) byte (arrivals link es)
      (eq-eqb (link_index link) (link_index link) refl) (are link),
  are_events es (λ on. behind (link_index link == link_index on) byte (arrivals on es) (are on)),
)
are_events (Acknowledge link ∷ es) are = (tt, are_events es are)

-- what was asked for is one list
asked_once : (all : Supply) (first second : List ℕ) (left : Supply) → WasAsked all first left
    → WasAsked all second left → second ≡ first
asked_once None first second left was again = again.0 ∙ sym was.0
asked_once (Some all) first second None was again = sym again ∙ was
asked_once (Some all) first second (Some rest) was again =
    append_cancel_right second first rest (sym again ∙ was)

pub runs_of_bytes_can_happen : RunsOfBytesCanHappen
runs_of_bytes_can_happen m inputs writers n s run asks =
    let has = runs_made_of_events m inputs writers n s run in
    record { events = has.events; are = are_events has.events (arrived has); world = has.world }
  where
    arrived : (has : HasEvents m inputs writers s) (link : Link) → IsBytes (arrivals link has.events)
    arrived has link = subst IsBytes
        (sym (asked_once (of_link inputs link) (of_link asks.asked link) (arrivals link has.events)
        (of_link s.left link) (asks.was_asked link) (has.arrived link))) (asks.are_bytes link)

-- ---- what was taken was asked for

asked_here : {R : Type 0} (left : R → Option (List ℕ)) (before after : Option R) (taken arrived : List ℕ)
    (now : Supply) → Takes left before after taken → IsSpent now → WasAsked (supply_of before taken) arrived now
    → WasAsked (supply_of before taken) taken now
asked_here left None None taken arrived now takes spent was = (takes, was.1)
asked_here left None (Some after) taken arrived now takes spent was = absurd takes
asked_here left (Some before) after taken arrived None takes spent was = refl
asked_here left (Some before) after taken arrived (Some rest) takes spent was =
    sym (ap (λ (bytes : List ℕ). taken ++ bytes) spent ∙ append-nil taken)

pub all_taken_was_asked : {R : Type 0} (left : R → Option (List ℕ)) (m : Contents) (before after : List (Option R))
    (writers : ByLink Bool) (s : RunMoment) (reads : IsReadTo left m before after writers s) (link : Link)
    → WasAsked (supply_of (at_link before link) (of_link reads.taken link)) (of_link reads.taken link)
    (of_link s.left link)
all_taken_was_asked left m before after writers s reads link =
    let has = runs_made_of_events m (inputs_of before reads.taken) writers reads.turns s reads.run in
    asked_here left (at_link before link) (at_link after link) (of_link reads.taken link)
    (arrivals link has.events) (of_link s.left link) (reads.takes link) (reads.spent link)
    (subst (λ (supply : Supply). WasAsked supply (arrivals link has.events) (of_link s.left link))
    (of_by_link (λ on. supply_of (at_link before on) (of_link reads.taken on)) link) (has.arrived link))

-- it stays so where more can be given
pub asked_still : (all : Supply) (asked bytes : List ℕ) (now : Supply) → (now ≡ None → bytes ≡ [])
    → WasAsked all asked now → WasAsked (more_of all bytes) asked (more_of now bytes)
asked_still None asked bytes now none was = (was.0, ap (λ (o : Supply). more_of o bytes) was.1)
asked_still (Some all) asked bytes None none was =
    ap (λ (more : List ℕ). all ++ more) (none refl) ∙ (append-nil all ∙ was)
asked_still (Some all) asked bytes (Some rest) none was =
    ap (λ (front : List ℕ). front ++ bytes) was ∙ append_assoc asked rest bytes
