-- A run that is driven on.
use Rattle.std.proofs.Common.{◌≡◌, ℕ, suc, ◌<◌, ◌≤◌, Bool, true, false, List}
use Rattle.std.proofs.Common.{Option}
use Rattle.std.proofs.Common.{Some, Ok, Err, Result, refl, sym, ap, ◌∙◌, arith}
use Rattle.module_format.specs.Contents.{Contents}
use Rattle.machine_state.specs.declared.event.Event.TheVariants.{Acknowledge}
use Rattle.machine_state.specs.declared.fault.Fault.{Fault}
use Rattle.machine_state.specs.declared.link.Link.{Link}
use Rattle.machine_state.specs.World.{World}
use Rattle.machine_state.specs.Happens.{Effect, ran, emitted, turn, happens}
use Rattle.link_runs.specs.ByLink.{ByLink, of_link}
use Rattle.link_runs.specs.Wanting.{is_running}
use Rattle.link_runs.specs.FirstInFirstOut.{RunMoment, plain_step, stepped, followed_up, delivered}
use Rattle.link_runs.proofs.Turns.{next_running, one_more}
use Rattle.link_runs.specs.Driving.{Quietly}
use Rattle.link_runs.specs.Driving as drives
use Rattle.link_runs.proofs.FromOutside.{outside_counts_nothing}
use Rattle.link_runs.proofs.PlainSteps.{one_more_byte}
use Rattle.link_runner.specs.Readers.{inputs_of, IsReadTo}

-- the moment in another world
abbrev pub moved_to : World → RunMoment → RunMoment
moved_to w s = record s { world = w }

module _ {R : Type 0} (left : R
    → Option (List ℕ)) (m : Contents) (first readers : List (Option R)) (writers : ByLink Bool) where
  -- a turn that reads nothing
  pub turns_on : (s t : RunMoment) → IsReadTo left m first readers writers s → is_running s.world ≡ true
      → stepped m writers s ≡ t → t.left ≡ s.left → IsReadTo left m first readers writers t
  turns_on s t reads runs steps same = record {
    taken = reads.taken;
    takes = reads.takes;
    are_bytes = reads.are_bytes;
    turns = suc reads.turns;
    run = one_more m (inputs_of first reads.taken) writers reads.turns t s reads.run
        (next_running m writers s runs ∙ ap Some steps);
    spent = rw same reads.spent;
    ends = rw same reads.ends;
  }

  -- Steps that emit nothing
  pub goes_quietly : (s : RunMoment) (w : World) → IsReadTo left m first readers writers s → Quietly m s.world w
      → IsReadTo left m first readers writers (moved_to w s)
  goes_quietly s w reads drives.at_once = reads
  goes_quietly s w reads (drives.goes_on v quietly runs answer) =
      turns_on (moved_to v s) (moved_to (happens m v plain_step) s) (goes_quietly s v reads quietly) runs
      (ap (λ (a : Result Effect Fault). followed_up m writers a (moved_to (happens m v plain_step) s)) answer) refl

  -- the Step that emits a message, and its acknowledgement
  pub emits_next : (s : RunMoment) (link : Link) (message : List ℕ) → IsReadTo left m first readers writers s
      → is_running s.world ≡ true → (turn m s.world plain_step).answer ≡ Ok (emitted link message)
      → IsReadTo left m first readers writers
      (delivered m writers link message (moved_to (happens m s.world plain_step) s))
  emits_next s link message reads runs answer =
      turns_on s (delivered m writers link message (moved_to (happens m s.world plain_step) s)) reads runs
      (ap (λ (a : Result Effect Fault). followed_up m writers a (moved_to (happens m s.world plain_step) s)) answer)
      (left_same (of_link writers link) refl)
    where
      left_same : (b : Bool) → of_link writers link ≡ b
          → (delivered m writers link message (moved_to (happens m s.world plain_step) s)).left ≡ s.left
      left_same true is = rw is refl
      left_same false is = rw is refl

  -- the Step that is at fault
  pub fails_next : (s : RunMoment) (f : Fault) → IsReadTo left m first readers writers s → is_running s.world ≡ true
      → (turn m s.world plain_step).answer ≡ Err f
      → IsReadTo left m first readers writers (moved_to (happens m s.world plain_step) s)
  fails_next s f reads runs answer =
      turns_on s (moved_to (happens m s.world plain_step) s) reads runs
      (ap (λ (a : Result Effect Fault). followed_up m writers a (moved_to (happens m s.world plain_step) s)) answer)
      refl

-- Steps only add to the count
pub counts_up : (m : Contents) (v w : World) → Quietly m v w → v.counters.executed ≤ w.counters.executed
counts_up m v w drives.at_once = omega arith
counts_up m v w (drives.goes_on u quietly runs answer) =
    let before = counts_up m v u quietly in
    let more = one_more_byte m u ran answer (λ e. cc) in
    omega (arith, before, more)

-- and where a process ran and none does any more, to it
pub counts_more : (m : Contents) (v w : World) → Quietly m v w → is_running v ≡ true → is_running w ≡ false
    → v.counters.executed < w.counters.executed
counts_more m v w drives.at_once runs rests = let both : true ≡ false = sym runs ∙ rests in absurd (cc)
counts_more m v w (drives.goes_on u quietly runs_there answer) runs rests =
    let before = counts_up m v u quietly in
    let more = one_more_byte m u ran answer (λ e. cc) in
    omega (arith, before, more)

-- a Step that emits a message counts, and its acknowledgement does not
pub emission_counts : (m : Contents) (flags : ByLink Bool) (v w : World) (link : Link) (message : List ℕ) (s :
    RunMoment)
    → Quietly m v w → (turn m w plain_step).answer ≡ Ok (emitted link message) → s.world ≡ happens m w plain_step
    → v.counters.executed < (delivered m flags link message s).world.counters.executed
emission_counts m flags v w link message s quietly answer at_step = by_writer (of_link flags link) refl
  where
    stepped_count : v.counters.executed < s.world.counters.executed
    stepped_count =
        let before = counts_up m v w quietly in
        let more = one_more_byte m w (emitted link message) answer (λ e. cc) in
        let same = ap (λ (x : World). x.counters.executed) at_step in
        omega (arith, before, more, same)

    by_writer : (b : Bool) → of_link flags link ≡ b
        → v.counters.executed < (delivered m flags link message s).world.counters.executed
    by_writer true is =
        let same = outside_counts_nothing m s.world (Acknowledge link) refl in
        let more = stepped_count in
        rw is (omega (arith, same, more))
    by_writer false is = rw is stepped_count
