-- A start that is at fault, and one that is not, as the definitions have them.
use Rattle.std.proofs.Common.{◌≡◌, ℕ, Bool, true, false, nat_lt, List, length, Option, Some, None, Result, Ok, Err}
use Rattle.std.proofs.Common.{if◌then◌else◌, refl, sym, ap, subst, ◌∙◌, ◌==◌}
use Rattle.std.specs.Option.{option_map}
use Rattle.std.specs.Result.{IsErr, IsErrAnd}
use Rattle.std.proofs.lemmas.Bool.{cond-true}
use Rattle.module_format.specs.Contents.{Contents}
use Rattle.machine_state.specs.declared.fault.Fault.{Fault}
use Rattle.machine_state.specs.declared.fault.FaultKind.{FaultKind}
use Rattle.machine_state.specs.Faults.{fault_in}
use Rattle.machine_state.specs.Holding.{Holding}
use Rattle.machine_state.specs.Joins.{start_or_fail, first_start_turn, later_start_turn, started, opened}
use Rattle.machine_state.specs.JoinLookups.{Found, opened_by}
use Rattle.machine_state.specs.StartPlans.{Plan, first_fault, later_plan, first_plan, first_faults, later_faults}
use Rattle.machine_state.specs.StartPlans.{no_row_faults}
use Rattle.machine_state.specs.Moves.{counted, faulty}
use Rattle.machine_state.specs.Site.{Local}
use Rattle.machine_state.specs.Turn.{Here, Turn, answered, failed, followed, ran}
use Rattle.machine_state.specs.World.{World, Join, holding_at}
use Rattle.traffic.specs.declared.here.Here.{Here as Instance}
use Rattle.traffic.specs.declared.stop.Stop.{Stop}
use Rattle.traffic.specs.declared.stop.Stop.TheVariants as stops
use Rattle.traffic.specs.Settling.{here_in, SettlesIfRoom}
use Rattle.joins.specs.Testing.{Finds, found_start, later_tests}

-- ---- what `?` hands on

-- memory has run out
pub out_of_memory : (result : Result (Unit {0}) Stop) (before after : World) (turn : Turn) → IsErr result
    → IsErrAnd result (λ stop. stop ≡ stops.Memory) → after ≡ before
    → SettlesIfRoom {A = Unit {0}} (λ x. ran) before after result turn
out_of_memory (Ok x) before after turn is memory same = absurd memory
out_of_memory (Err (stops.Fault fault)) before after turn is memory same = absurd (cc)
out_of_memory (Err stops.Memory) before after turn is memory same = same

-- the same stop
pub same_stop : (result : Result (Unit {0}) Stop) (stop : Stop) → IsErrAnd result (λ other. other ≡ stop)
    → ◌≡◌ {A = Result (Unit {0}) Stop} result (Err stop)
same_stop (Ok x) stop is = absurd is
same_stop (Err other) stop is = ap (λ (s : Stop). let r : Result (Unit {0}) Stop = Err s in r) is

-- and so the same find
pub hands_on : (A B : Type 0) (here : Instance) (result : Result B Stop) (stop : Stop) (first same : Option FaultKind)
    → IsErrAnd result (λ other. other ≡ stop) → first ≡ same → Finds {A = A} here (Err stop) first
    → Finds {A = B} here result same
hands_on A B here (Ok x) stop first same is e finds = absurd is
hands_on A B here (Err stops.Memory) stop first same is e finds = tt
hands_on A B here (Err (stops.Fault f)) stops.Memory first same is e finds = absurd (cc)
hands_on A B here (Err (stops.Fault f)) (stops.Fault g) first same is e finds =
    let fault : g ≡ f = cc in
    ap (option_map (fault_in here.process here.task.registers.began)) (sym e)
    ∙ (finds ∙ ap (λ (x : Fault). let o : Option Fault = Some x in o) fault)

-- what was tested holds
pub test_passed : (holds : Bool) (fault : Fault) (x : Unit {0})
    → ◌≡◌ {A = Result (Unit {0}) Fault} (Ok x) (if holds then Ok tt else Err fault) → holds ≡ true
test_passed true fault x e = refl
test_passed false fault x e = absurd (cc)

-- ---- a start by its tests

module _ (m : Contents) (here : Instance) (w : World) where
  abbrev h : Here
  h = here_in m here

  module _ (tests : List (Bool × FaultKind)) (done : World) where
    -- what the tests find comes of it, or memory ran out
    pub tests_fail : (A : Type 0) (stop : Stop) → Finds {A = A} here (Err stop) (first_fault tests)
        → SettlesIfRoom {A = Unit {0}} (λ x. ran) w w (Err stop) (start_or_fail h tests done w)
    tests_fail A stops.Memory finds = refl
    tests_fail A (stops.Fault fault) finds = on (first_fault tests) finds
      where
        on : (first : Option FaultKind)
            → option_map (fault_in here.process here.task.registers.began) first ≡ Some fault
            → SettlesIfRoom {A = Unit {0}} (λ x. ran) w w (Err (stops.Fault fault))
            (elim first as (λ o. Turn) [
              | Some kind ↦ failed h kind w
              | None ↦ followed h (answered ran (counted done)) w
            ])
        on None e = absurd (cc)
        on (Some kind) e =
            let is : fault_in here.process here.task.registers.began kind ≡ fault = cc in
            (ap (λ (f : Fault). let t : Turn = record { world = faulty f w; answer = Err f } in t) is, refl)

    -- nothing is wrong
    pub is_done : (after : World) → first_fault tests ≡ None → nat_lt h.next (length m.code) ≡ true → after ≡ done
        → start_or_fail h tests done w ≡ answered ran (counted after)
    is_done after e test is =
        ap (λ (o : Option FaultKind). elim o as (λ o. Turn) [
          | Some kind ↦ failed h kind w
          | None ↦ followed h (answered ran (counted done)) w
        ]) e
        ∙ (cond-true _ _ _ test ∙ ap (λ (v : World). answered ran (counted v)) (sym is))

  -- a start while this join is open, by its tests
  module _ (join : Join) (f : Found) (workspace : ℕ) (l : Local) where
    abbrev n : ℕ
    n = length w.memory

    abbrev next : World
    next = started h (later_plan m join f.par) f workspace l w

    pub later_fails : (A : Type 0) (stop : Stop)
        → Finds {A = A} here (Err stop) (first_fault (later_tests m n join f workspace))
        → SettlesIfRoom {A = Unit {0}} (λ x. ran) w w (Err stop) (later_start_turn h join f workspace l w)
    later_fails A stop = on (f.row == join.row)
      where
        on : (b : Bool)
            → Finds {A = A} here (Err stop) (first_fault (if b
            then later_faults n (later_plan m join f.par) f workspace
            else no_row_faults join.rest workspace))
            → SettlesIfRoom {A = Unit {0}} (λ x. ran) w w (Err stop) (if b
            then start_or_fail h (later_faults n (later_plan m join f.par) f workspace) next w
            else start_or_fail h (no_row_faults join.rest workspace) w w)
        on true = tests_fail (later_faults n (later_plan m join f.par) f workspace) next A stop
        on false = tests_fail (no_row_faults join.rest workspace) w A stop

  -- ---- a start of a branch of the module

  module _ (f : Found) (workspace : ℕ) (l : Local) where
    abbrev by_open : Option Join → Turn
    by_open o = elim o as (λ x. Turn) [
      | None ↦ first_start_turn h f workspace l w
      | Some join ↦ later_start_turn h join f workspace l w
    ]

    -- by the join that is open, if one is
    pub by_opened : (o : Option Join) (after : World) (result : Result (Unit {0}) Stop) → opened_by w here.process ≡ o
        → SettlesIfRoom {A = Unit {0}} (λ x. ran) w after result (by_open o)
        → SettlesIfRoom {A = Unit {0}} (λ x. ran) w after result (found_start h f workspace l w)
    by_opened o after result is settles =
        subst (λ (t : Turn). SettlesIfRoom {A = Unit {0}} (λ x. ran) w after result t) (sym (ap by_open is)) settles

    -- a later start that has stopped at its tests
    pub later_stops : (join : Join) (A : Type 0) (stop : Stop) (result : Result (Unit {0}) Stop)
        → opened_by w here.process ≡ Some join → IsErrAnd result (λ other. other ≡ stop)
        → Finds {A = A} here (Err stop) (first_fault (later_tests m (length w.memory) join f workspace))
        → SettlesIfRoom {A = Unit {0}} (λ x. ran) w w result (found_start h f workspace l w)
    later_stops join A stop result some is finds =
        by_opened (Some join) w result some
        (subst (λ (r : Result (Unit {0}) Stop). SettlesIfRoom {A = Unit {0}} (λ x. ran) w w r (by_open (Some join)))
        (sym (same_stop result stop is)) (later_fails join f workspace l A stop finds))

    abbrev held : Holding
    held = holding_at w.roles here.process

    abbrev plan : Plan
    plan = first_plan m here.process here.task.registers.workspace held w.memory f

    -- a first start that has
    pub first_stops : (A : Type 0) (stop : Stop) (result : Result (Unit {0}) Stop)
        → opened_by w here.process ≡ None → IsErrAnd result (λ other. other ≡ stop)
        → Finds {A = A} here (Err stop) (first_fault (first_faults m w.memory held plan f workspace))
        → SettlesIfRoom {A = Unit {0}} (λ x. ran) w w result (found_start h f workspace l w)
    first_stops A stop result none is finds =
        let there = opened h plan l w in
        by_opened None w result none
        (subst (λ (r : Result (Unit {0}) Stop). SettlesIfRoom {A = Unit {0}} (λ x. ran) w w r (by_open None))
        (sym (same_stop result stop is)) (tests_fail (first_faults m w.memory held plan f workspace)
        (started h plan f workspace there.0 there.1) A stop finds))
