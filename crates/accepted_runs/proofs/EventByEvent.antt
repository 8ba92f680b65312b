-- A run goes on, event by event.
use Rattle.std.proofs.Common.{◌≡◌, ℕ, Bool, true, false, if◌then◌else◌, nat_eq, List, [], ◌∷◌, ◌++◌, Some, Ok}
use Rattle.std.proofs.Common.{refl, sym, ap, subst, ◌∙◌, append_assoc, slice_get, slice_set, eqb-true}
use Rattle.std.proofs.lemmas.Bool.{eqb-false}
use Rattle.std.proofs.lemmas.List.{append-nil}
use Rattle.std.specs.Global.{Vec}
use Rattle.machine_state.specs.Moves.{link_index}
use Rattle.module_format.specs.Contents.{Contents}
use Rattle.machine_state.specs.declared.event.Event.{Event}
use Rattle.machine_state.specs.declared.link.Link.{Link}
use Rattle.machine_state.specs.declared.link.Link.TheVariants.{Zero, One, Two, Three}
use Rattle.machine_state.specs.World.{World}
use Rattle.machine_state.specs.World.{loaded}
use Rattle.machine_state.specs.Happens.{happens, turn, run_from, world_after, emitted, emitted_by, emitted_from}
use Rattle.machine_state.specs.Happens.{emitted_on}
use Rattle.accepted_runs.specs.Replaying.{GoesOut, bytes_of, out_on}
use Rattle.accepted_runs.specs.Running.{PlainExecution, Shows}
use Rattle.machine_state.proofs.Lines.{got_set, got_other}

-- The run in the middle of a list of events, in a world with which it agrees: what is left of them leads to the same
-- world, and puts out what is left to be put out.
pub record IsGoing (m : Contents) (events rest : List Event) (r : PlainExecution) (out : List (Vec ℕ)) : Type 0 where
  pub contents : r.contents ≡ m
  pub world : World
  pub shows : Shows r world
  pub leads : run_from m world rest ≡ world_after m events
  pub puts : (link : Link) → out_on out link ++ emitted_from m world link rest ≡ emitted_on m link events

pub nothing_out : (a b c d : Vec ℕ) → a.items ≡ [] → b.items ≡ [] → c.items ≡ [] → d.items ≡ [] → (link : Link)
    → out_on (a ∷ b ∷ c ∷ d ∷ []) link ≡ []
nothing_out a b c d p q r s Zero = p
nothing_out a b c d p q r s One = q
nothing_out a b c d p q r s Two = r
nothing_out a b c d p q r s Three = s

pub begins : (m : Contents) (events rest : List Event) (r : PlainExecution) (out : List (Vec ℕ)) → r.contents ≡ m
    → Shows r (loaded m) → rest ≡ events → ((link : Link) → out_on out link ≡ []) → IsGoing m events rest r out
begins m events rest r out contents shows all none = record {
  contents = contents;
  world = loaded m;
  shows = shows;
  leads = rw all refl;
  puts = λ link. rw (none link, all) refl;
}

pub goes_on : (m : Contents) (events : List Event) (e : Event) (rest : List Event) (before after : PlainExecution)
    (old new : List (Vec ℕ)) → IsGoing m events (e ∷ rest) before old → after.contents ≡ before.contents
    → ((w : World) → Shows before w → Shows after (happens before.contents w e))
    → ((w : World) → Shows before w → GoesOut (turn before.contents w e).answer old new)
    → IsGoing m events rest after new
goes_on m events e rest before after old new going same shown puts =
    let w = going.world in
    record {
      contents = same ∙ going.contents;
      world = happens m w e;
      shows = subst (λ (c : Contents). Shows after (happens c w e)) going.contents (shown w going.shows);
      leads = going.leads;
      puts = λ link.
          let puts_here : out_on new link ≡ out_on old link ++ emitted_by link (turn m w e).answer =
          puts w going.shows link
          ∙ ap (λ (c : Contents). out_on old link ++ emitted_by link (turn c w e).answer) going.contents in
          rw puts_here (append_assoc (out_on old link) (emitted_by link (turn m w e).answer)
          (emitted_from m (happens m w e) link rest) ∙ going.puts link);
    }

pub is_over : (m : Contents) (events rest : List Event) (r : PlainExecution) (out : List (Vec ℕ))
    (going : IsGoing m events rest r out) → rest ≡ []
    → (going.world ≡ world_after m events) × ((link : Link) → out_on out link ≡ emitted_on m link events)
is_over m events rest r out going done = (
  sym (ap (run_from m going.world) done) ∙ going.leads,
  λ link. sym (append-nil (out_on out link)) ∙ (sym (ap (λ (es : List Event). out_on out link
      ++ emitted_from m going.world link es) done) ∙ going.puts link),
)

-- Bytes that go after what is out at one place go out there, and elsewhere nothing does.
put_at : (out : List (Vec ℕ)) (at : ℕ) (old new : Vec ℕ) (bytes : List ℕ) → slice_get out at ≡ Some old
    → new.items ≡ old.items ++ bytes
    → (on : ℕ) (b : Bool) → nat_eq at on ≡ b
    → bytes_of (slice_get (slice_set out at new) on) ≡ bytes_of (slice_get out on) ++ (if b then bytes else [])
put_at out at old new bytes here is on true e =
    let same : at ≡ on = eqb-true at on e in
    ap bytes_of (subst (λ k. slice_get (slice_set out at new) k ≡ Some new) same (got_set out at old new here)) ∙ (is
    ∙ ap (λ (front : List ℕ). front ++ bytes) (sym (ap bytes_of (subst (λ k. slice_get out k ≡ Some old) same here))))
put_at out at old new bytes here is on false e =
    ap bytes_of (got_other out at on new (eqb-false at on e)) ∙ sym (append-nil (bytes_of (slice_get out on)))

pub put_on : (out : List (Vec ℕ)) (link : Link) (old new : Vec ℕ) (bytes : List ℕ)
    → slice_get out (link_index link) ≡ Some old → new.items ≡ old.items ++ bytes
    → GoesOut (Ok (emitted link bytes)) out (slice_set out (link_index link) new)
put_on out link old new bytes here is on = put_at out (link_index link) old new bytes here is (link_index on)
    (nat_eq (link_index link) (link_index on)) refl
