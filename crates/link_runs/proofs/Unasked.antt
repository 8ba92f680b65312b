-- Bytes that are not asked for change nothing.
use Rattle.std.proofs.Common.{◌≡◌, ◌≢◌, ℕ, zero, suc, ◌+◌, Bool, true, false, is_some, ◌&&◌, List, [], ◌∷◌, ◌++◌}
use Rattle.std.proofs.Common.{Some, None, Result, Ok, Err, refl, sym, ap, subst, ◌∙◌}
use Rattle.std.proofs.lemmas.Option.{same_Some, none-some}
use Rattle.module_format.specs.Contents.{Contents}
use Rattle.machine_state.specs.declared.event.Event.TheVariants.{Arrive}
use Rattle.machine_state.specs.declared.fault.Fault.{Fault}
use Rattle.machine_state.specs.declared.link.Link.{Link}
use Rattle.machine_state.specs.Moves.{link_index}
use Rattle.machine_state.specs.Happens.{Effect, emitted, ran, idle, taken, kept, busy, acknowledged, ignored, turn}
use Rattle.machine_state.specs.Happens.{happens}
use Rattle.link_runs.specs.ByLink.{ByLink, of_link, with_link}
use Rattle.link_runs.specs.Wanting.{wants}
use Rattle.link_runs.specs.FirstInFirstOut.{Supply, RunMoment, plain_step, beginning, delivered, followed_up}
use Rattle.link_runs.specs.FirstInFirstOut.{can_be_asked, asked, supplied, next, IsRun}
use Rattle.link_runs.specs.RunLaws.{more_of, more_on, with_more, UnaskedBytesChangeNothing}
use Rattle.link_runs.proofs.ByLink.{of_same, of_other, with_twice, with_both, Compared, same, other, compared}
use Rattle.link_runs.proofs.ByLink.{first_alike}
use Rattle.link_runs.proofs.Turns as run_turns
use Rattle.link_runs.proofs.Turns.{Goes, next_running, next_asked, one_before, one_more}

-- ---- more bytes on a link

pub more_is : (link : Link) (bytes rest : List ℕ) (all : ByLink Supply) → of_link all link ≡ Some rest
    → more_on link bytes all ≡ with_link link (Some (rest ++ bytes)) all
more_is link bytes rest all here = ap (λ (supply : Supply). with_link link (more_of supply bytes) all) here

pub more_there : (link : Link) (bytes rest : List ℕ) (all : ByLink Supply) → of_link all link ≡ Some rest
    → of_link (more_on link bytes all) link ≡ Some (rest ++ bytes)
more_there link bytes rest all here =
    ap (λ (more : ByLink Supply). of_link more link) (more_is link bytes rest all here)
    ∙ of_same link (Some (rest ++ bytes)) all

pub more_elsewhere : (link on : Link) (bytes rest : List ℕ) (all : ByLink Supply) → of_link all link ≡ Some rest
    → link_index link ≢ link_index on → of_link (more_on link bytes all) on ≡ of_link all on
more_elsewhere link on bytes rest all here differ =
    ap (λ (more : ByLink Supply). of_link more on) (more_is link bytes rest all here)
    ∙ of_other link on (Some (rest ++ bytes)) all differ

more_same : (link : Link) (bytes before rest : List ℕ) (all : ByLink Supply) → of_link all link ≡ Some before
    → more_on link bytes (with_link link (Some rest) all)
    ≡ with_link link (Some (rest ++ bytes)) (more_on link bytes all)
more_same link bytes before rest all here =
    more_is link bytes rest (with_link link (Some rest) all) (of_same link (Some rest) all)
    ∙ (with_twice link (Some (rest ++ bytes)) (Some rest) all
    ∙ sym (ap (with_link link (Some (rest ++ bytes))) (more_is link bytes before all here)
    ∙ with_twice link (Some (rest ++ bytes)) (Some (before ++ bytes)) all))

more_other : (link on : Link) (bytes rest : List ℕ) (supply : Supply) (all : ByLink Supply)
    → of_link all link ≡ Some rest → link_index link ≢ link_index on
    → more_on link bytes (with_link on supply all) ≡ with_link on supply (more_on link bytes all)
more_other link on bytes rest supply all here differ =
    more_is link bytes rest (with_link on supply all) (of_other on link supply all (λ e. differ (sym e)) ∙ here)
    ∙ (with_both link on (Some (rest ++ bytes)) supply all differ
    ∙ ap (with_link on supply) (sym (more_is link bytes rest all here)))

module _ (link : Link) (bytes : List ℕ) where
  -- ---- a Step

  module _ (m : Contents) (writers : ByLink Bool) where
    delivered_alike : (s : RunMoment) (on : Link) (message : List ℕ) (b : Bool) → of_link writers on ≡ b
        → delivered m writers on message (with_more link bytes s) ≡ with_more link bytes (delivered m writers on
        message s)
    delivered_alike s on message true is = rw is refl
    delivered_alike s on message false is = rw is refl

    followed_alike : (s : RunMoment) (a : Result Effect Fault)
        → followed_up m writers a (with_more link bytes s) ≡ with_more link bytes (followed_up m writers a s)
    followed_alike s (Ok (emitted on message)) = delivered_alike s on message (of_link writers on) refl
    followed_alike s (Ok ran) = refl
    followed_alike s (Ok idle) = refl
    followed_alike s (Ok taken) = refl
    followed_alike s (Ok kept) = refl
    followed_alike s (Ok busy) = refl
    followed_alike s (Ok acknowledged) = refl
    followed_alike s (Ok ignored) = refl
    followed_alike s (Err f) = refl

    left_stays : (s : RunMoment) (on : Link) (message : List ℕ) (b : Bool) → of_link writers on ≡ b
        → (delivered m writers on message s).left ≡ s.left
    left_stays s on message true is = rw is refl
    left_stays s on message false is = rw is refl

    followed_left : (s : RunMoment) (a : Result Effect Fault) → (followed_up m writers a s).left ≡ s.left
    followed_left s (Ok (emitted on message)) = left_stays s on message (of_link writers on) refl
    followed_left s (Ok ran) = refl
    followed_left s (Ok idle) = refl
    followed_left s (Ok taken) = refl
    followed_left s (Ok kept) = refl
    followed_left s (Ok busy) = refl
    followed_left s (Ok acknowledged) = refl
    followed_left s (Ok ignored) = refl
    followed_left s (Err f) = refl

  -- ---- what is asked

  open_alike : (on : Link) (all : ByLink Supply) (rest : List ℕ) → Compared link on → of_link all link ≡ Some rest
      → is_some (of_link (more_on link bytes all) on) ≡ is_some (of_link all on)
  open_alike on all rest (same is) here =
      subst (λ (l : Link). is_some (of_link (more_on link bytes all) l) ≡ is_some (of_link all l)) is
      (ap is_some (more_there link bytes rest all here) ∙ sym (ap is_some here))
  open_alike on all rest (other differ test) here = ap is_some (more_elsewhere link on bytes rest all here differ)

  pub asked_alike : (s : RunMoment) (rest : List ℕ) → of_link s.left link ≡ Some rest
      → asked (with_more link bytes s) ≡ asked s
  asked_alike s rest here = first_alike (can_be_asked (with_more link bytes s)) (can_be_asked s)
      (λ on. ap (λ (b : Bool). wants on s.world && b) (open_alike on s.left rest (compared link on) here))

  module _ (m : Contents) (s : RunMoment) (rest : List ℕ) (here : of_link s.left link ≡ Some rest) where
    -- this link gives a byte; it does not end
    this_alike : (later : List ℕ) → of_link (supplied m link (of_link s.left link) s).left link ≡ Some later
        → supplied m link (of_link (more_on link bytes s.left) link) (with_more link bytes s)
        ≡ with_more link bytes (supplied m link (of_link s.left link) s)
    this_alike later going =
        ap (λ (supply : Supply). supplied m link supply (with_more link bytes s)) (more_there link bytes rest s.left
        here)
        ∙ (by_rest rest here
        (subst (λ (supply : Supply). of_link (supplied m link supply s).left link ≡ Some later) here going)
        ∙ ap (λ (supply : Supply). with_more link bytes (supplied m link supply s)) (sym here))
      where
        by_rest : (rest : List ℕ) → of_link s.left link ≡ Some rest
            → of_link (supplied m link (Some rest) s).left link ≡ Some later
            → supplied m link (Some (rest ++ bytes)) (with_more link bytes s)
            ≡ with_more link bytes (supplied m link (Some rest) s)
        by_rest [] here going = absurd (none-some later (sym (of_same link None s.left) ∙ going))
        by_rest (byte ∷ rest) here going = ap (λ (left : ByLink Supply). record s {
          world = happens m s.world (Arrive link byte);
          left = left;
          read = with_link link (of_link s.read link + 1) s.read;
        }) (sym (more_same link bytes (byte ∷ rest) rest s.left here))

    other_alike : (on : Link) (supply : Supply) → link_index link ≢ link_index on
        → supplied m on supply (with_more link bytes s) ≡ with_more link bytes (supplied m on supply s)
    other_alike on None differ = refl
    other_alike on (Some []) differ = ap (λ (left : ByLink Supply). record s { left = left })
        (sym (more_other link on bytes rest None s.left here differ))
    other_alike on (Some (byte ∷ others)) differ = ap (λ (left : ByLink Supply). record s {
      world = happens m s.world (Arrive on byte);
      left = left;
      read = with_link on (of_link s.read on + 1) s.read;
    }) (sym (more_other link on bytes rest (Some others) s.left here differ))

    supplied_alike : (on : Link) (later : List ℕ) → Compared link on
        → of_link (supplied m on (of_link s.left on) s).left link ≡ Some later
        → supplied m on (of_link (more_on link bytes s.left) on) (with_more link bytes s)
        ≡ with_more link bytes (supplied m on (of_link s.left on) s)
    supplied_alike on later (same is) =
        subst (λ (l : Link). of_link (supplied m l (of_link s.left l) s).left link ≡ Some later
        → supplied m l (of_link (more_on link bytes s.left) l) (with_more link bytes s)
        ≡ with_more link bytes (supplied m l (of_link s.left l) s)) is (this_alike later)
    supplied_alike on later (other differ test) =
        λ going. ap (λ (supply : Supply). supplied m on supply (with_more link bytes s))
        (more_elsewhere link on bytes rest s.left here differ) ∙ other_alike on (of_link s.left on) differ

  -- ---- a link that has not ended had not before

  open_by_supply : (m : Contents) (s : RunMoment) (on : Link) (supply : Supply) (later : List ℕ) → Compared link on
      → of_link s.left on ≡ supply → of_link (supplied m on supply s).left link ≡ Some later
      → (rest : List ℕ) × (of_link s.left link ≡ Some rest)
  open_by_supply m s on None later at is going = (later, going)
  open_by_supply m s on (Some []) later (same at) is going =
      ([], ap (of_link s.left) at ∙ is)
  open_by_supply m s on (Some []) later (other differ test) is going =
      (later, sym (of_other on link None s.left (λ e. differ (sym e))) ∙ going)
  open_by_supply m s on (Some (byte ∷ bytes)) later (same at) is going =
      (byte ∷ bytes, ap (of_link s.left) at ∙ is)
  open_by_supply m s on (Some (byte ∷ bytes)) later (other differ test) is going =
      (later, sym (of_other on link (Some bytes) s.left (λ e. differ (sym e))) ∙ going)

  open_before : (m : Contents) (writers : ByLink Bool) (s t : RunMoment) (later : List ℕ) → Goes m writers s t
      → of_link t.left link ≡ Some later → (rest : List ℕ) × (of_link s.left link ≡ Some rest)
  open_before m writers s t later (run_turns.steps runs) going = (
    later,
    sym (ap (λ (left : ByLink Supply). of_link left link)
        (followed_left m writers (record s { world = happens m s.world plain_step }) (turn m s.world
        plain_step).answer))
        ∙ going,
  )
  open_before m writers s t later (run_turns.asks on nobody ask) going =
      open_by_supply m s on (of_link s.left on) later (compared link on) refl going

  -- ---- a turn, and all turns

  goes_alike : (m : Contents) (writers : ByLink Bool) (s t : RunMoment) (rest later : List ℕ) → Goes m writers s t
      → of_link s.left link ≡ Some rest → of_link t.left link ≡ Some later
      → next m writers (with_more link bytes s) ≡ Some (with_more link bytes t)
  goes_alike m writers s t rest later (run_turns.steps runs) here going =
      next_running m writers (with_more link bytes s) runs
      ∙ ap Some (followed_alike m writers (record s { world = happens m s.world plain_step })
      (turn m s.world plain_step).answer)
  goes_alike m writers s t rest later (run_turns.asks on nobody ask) here going =
      next_asked m writers (with_more link bytes s) on nobody (asked_alike s rest here ∙ ask)
      ∙ ap Some (supplied_alike m s rest here on later (compared link on) going)

  pub unasked : (m : Contents) (inputs : ByLink Supply) (writers : ByLink Bool) (n : ℕ) (s : RunMoment) (later : List ℕ)
      → IsRun m inputs writers n s → of_link s.left link ≡ Some later
      → IsRun m (more_on link bytes inputs) writers n (with_more link bytes s)
  unasked m inputs writers zero s later run going =
      ap (λ (t : RunMoment). Some (with_more link bytes t)) (same_Some (beginning m inputs) s run)
  unasked m inputs writers (suc n) s later run going =
      let before = one_before m inputs writers n s run in
      let first = open_before m writers before.moment s later before.goes going in
      one_more m (more_on link bytes inputs) writers n (with_more link bytes s) (with_more link bytes before.moment)
      (unasked m inputs writers n before.moment first.0 before.run first.1)
      (goes_alike m writers before.moment s first.0 later before.goes first.1 going)

pub bytes_change_nothing : UnaskedBytesChangeNothing
bytes_change_nothing m inputs writers n s link rest bytes run going = unasked link bytes m inputs writers n s rest
    run going

pub ruleset unasked_change_nothing = (bytes_change_nothing)
