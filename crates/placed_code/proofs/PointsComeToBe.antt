-- A run of an accepted module goes on to the points to which instructions lead that ask nothing of others.
use Rattle.std.proofs.Common.{◌≡◌, ℕ, zero, suc, ◌+◌, Bool, true, Option, Some, None}
use Rattle.std.proofs.Common.{Ok, Result, refl, sym, ap, subst, ◌∙◌, add-zero, add-suc}
use Rattle.std.specs.Prelude.{if◌then◌else◌}
use Rattle.module_format.specs.Contents.{Contents}
use Rattle.machine_state.specs.declared.fault.Fault.{Fault}
use Rattle.machine_state.specs.Happens.{Effect, ran, turn, happens}
use Rattle.machine_state.specs.World.{World}
use Rattle.link_runs.specs.ByLink.{ByLink}
use Rattle.link_runs.specs.Driving.{Quietly}
use Rattle.link_runs.specs.FirstInFirstOut.{Supply, RunMoment, IsRun, next, next_of, plain_step, stepped}
use Rattle.link_runs.specs.FirstInFirstOut.{followed_up, answered_by, asked}
use Rattle.link_runs.specs.Wanting.{is_running}
use Rattle.plain_machine.specs.PlainRun.{PlainPoint, RunsTo, CanRun}
use Rattle.agreement.specs.Agrees.{PlainMachine}
use Rattle.plain_run.specs.RunningAlone.{point_on, run_to}
use Rattle.plain_run.proofs.RunningAlone as alone
use Rattle.accepted_runs.specs.Running.{AgreesOn}
use Rattle.accepted_runs.proofs.RunningAlone.{can_step, there, leads, can_run_alone}
use Rattle.program_meaning.specs.Links.{Links}
use Rattle.placed_code.specs.Closing.{code_of, moment_from, ComesToBe, RunsGoOn, At, HasLinks, PointsComeToBe}
use Rattle.placed_code.specs.LaidCode.{LaidCode}
use Rattle.placed_code.specs.Points.{Point, GoesTo, plain_point}
use Rattle.placed_code.specs.StraightPieces.{Footing}
use Rattle.placed_code.proofs.PointsComeTo.{points_are_come_to}

-- ---- turns

-- one turn more of a run, if the moment before it is there
one_more : (m : Contents) (inputs : ByLink Supply) (writers : ByLink Bool) (n : ℕ) (t : RunMoment)
    (o : Option RunMoment) → ((u : RunMoment) → o ≡ Some u → IsRun m inputs writers n u) → next_of m writers o ≡ Some t
    → IsRun m inputs writers (suc n) t
one_more m inputs writers n t None before comes = absurd (cc)
one_more m inputs writers n t (Some u) before comes = ap (next_of m writers) (before u refl) ∙ comes

pub runs_go_on : RunsGoOn
runs_go_on m inputs writers n zero s t run comes =
    subst (λ (k : ℕ). IsRun m inputs writers k t) (sym (add-zero n)) (run ∙ comes)
runs_go_on m inputs writers n (suc k) s t run comes =
    subst (λ (j : ℕ). IsRun m inputs writers j t) (sym (add-suc n k))
    (one_more m inputs writers (n + k) t (moment_from m writers s k)
    (λ u is. runs_go_on m inputs writers n k s u run is) comes)

-- turns after turns
pub turns_both : (m : Contents) (writers : ByLink Bool) (s t : RunMoment) (n k : ℕ) (o : Option RunMoment)
    → moment_from m writers s n ≡ Some t → moment_from m writers t k ≡ o → moment_from m writers s (n + k) ≡ o
turns_both m writers s t n zero o first second =
    subst (λ (j : ℕ). moment_from m writers s j ≡ o) (sym (add-zero n)) (first ∙ second)
turns_both m writers s t n (suc k) o first second =
    subst (λ (j : ℕ). moment_from m writers s j ≡ o) (sym (add-suc n k))
    (ap (next_of m writers) (turns_both m writers s t n k (moment_from m writers t k) first refl) ∙ second)

-- what comes to be later comes to be
pub later_still : {m : Contents} {writers : ByLink Bool} {s : RunMoment} {Is : RunMoment → Type 0} (n : ℕ)
    (t : RunMoment) → moment_from m writers s n ≡ Some t → ComesToBe m writers t Is → ComesToBe m writers s Is
later_still {m} {writers} {s} n t first x = record {
  turns = n + x.turns;
  moment = x.moment;
  comes = turns_both m writers s t n x.turns (Some x.moment) first x.comes;
  is = x.is;
}

-- a byte that is executed and emits nothing
pub one_turn : (m : Contents) (writers : ByLink Bool) (s : RunMoment) → is_running s.world ≡ true
    → (turn m s.world plain_step).answer ≡ Ok ran
    → next m writers s ≡ Some (record s { world = happens m s.world plain_step })
unfolding next
one_turn m writers s runs told =
    ap (λ (b : Bool). if b then Some (stepped m writers s) else answered_by m s (asked s)) runs
    ∙ ap (λ (r : Result Effect Fault). Some (followed_up m writers r
    (record s { world = happens m s.world plain_step }))) told

-- Steps that emit nothing are turns of a run
pub record Turned (m : Contents) (writers : ByLink Bool) (s : RunMoment) (w : World) : Type 0 where
  pub turns : ℕ
  pub comes : moment_from m writers s turns ≡ Some (record s { world = w })

pub quiet_turns : (m : Contents) (writers : ByLink Bool) (s : RunMoment) (w : World) → Quietly m s.world w
    → Turned m writers s w
quiet_turns m writers s w Quietly.at_once = record { turns = 0; comes = refl }
quiet_turns m writers s w (Quietly.goes_on v quietly runs told) =
    let x = quiet_turns m writers s v quietly in
    record {
      turns = suc x.turns;
      comes = ap (next_of m writers) x.comes ∙ one_turn m writers (record s { world = v }) runs told;
    }

-- what was read and written does not depend on the world
pub links_stay : {l : Links} {s : RunMoment} (w : World) → HasLinks l s → HasLinks l (record s { world = w })
links_stay w links = record {
  four_in = links.four_in;
  four_out = links.four_out;
  read = links.read;
  left = links.left;
  written = links.written;
  are_bytes = links.are_bytes;
}

-- ---- points

module _ (m : Contents) (labels : ℕ → ℕ) (footing : Footing) where
  abbrev c : LaidCode
  c = code_of m labels footing

  -- Steps that emit nothing have led the process to this point
  pub record Came (machine : PlainMachine) (w : World) (q : PlainPoint) : Type 0 where
    pub bytes : ℕ
    pub world : World
    pub quietly : Quietly m w world
    pub on : AgreesOn m (run_to bytes q machine) world

  module _ (machine : PlainMachine) (w : World) (on : AgreesOn m machine w) (running : machine.is_running ≡ true) where
    pub can : CanRun c.start c.code machine.counters.executed (point_on machine)
    can = (can_run_alone m machine w on).can running

    pub came_there : (n : ℕ) (q : PlainPoint) → RunsTo c.start c.code (point_on machine) n q → Came machine w q
    came_there n q runs =
        let x = alone.comes_there m (AgreesOn m) (can_step m) (there m) (leads m) machine w on running n q runs in
        record { bytes = n; world = x.world; quietly = x.quietly; on = x.on }

    pub starts_here : (p : Point) → point_on machine ≡ plain_point c p
        → RunsTo c.start c.code (point_on machine) 0 (plain_point c p)
    starts_here p here =
        subst (λ (q : PlainPoint). RunsTo c.start c.code (point_on machine) 0 q) here RunsTo.at_once

  point_comes_to_be : (writers : ByLink Bool) (p q : Point) (l : Links) (s : RunMoment) → GoesTo c p q → At m c p l s
      → ComesToBe m writers s (At m c q l)
  point_comes_to_be writers p q l s goes at =
      let machine = at.machine in
      let led = points_are_come_to c machine.counters.executed (point_on machine) p q
      (can machine s.world at.on at.running) goes
      (record { bytes = 0; runs = starts_here machine s.world at.on at.running p at.here }) in
      let x = came_there machine s.world at.on at.running led.bytes (plain_point c q) led.runs in
      let turned = quiet_turns m writers s x.world x.quietly in
      record {
        turns = turned.turns;
        moment = record s { world = x.world };
        comes = turned.comes;
        is = record {
          machine = run_to x.bytes (plain_point c q) machine;
          on = x.on;
          running = at.running;
          here = refl;
          ready = at.ready;
          outputs = at.outputs;
          inputs = at.inputs;
          unfinished = at.unfinished;
          links = links_stay x.world at.links;
        };
      }

pub points_come_to_be : PointsComeToBe
points_come_to_be m writers labels footing p q l s goes at = point_comes_to_be m labels footing writers p q l s goes at
