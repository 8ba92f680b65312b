-- Scheduling takes the three words below the workspace: in one test and one change. What may be written may be read.
use Rattle.std.proofs.Common.{◌≡◌, ℕ, ◌+◌, Bool, true, false, ◌&&◌, ◌||◌, cond, negsuc, refl, IsTrue}
use Rattle.machine_state.specs.declared.fault.FaultKind.TheVariants.{NotOwn}
use Rattle.machine_state.specs.Memory.{place_of, local_address}
use Rattle.machine_state.specs.Holding.{Holding, may_write, may_write_word, may_read_word}
use Rattle.machine_state.specs.Site.{Site, Local, Outcome, fails}
use Rattle.machine_state.specs.LocalStep.{writes, schedules, holds_scheduling_words}
use Rattle.machine_state.specs.LocalStep.{without_scheduling_words}

three_tests : (a b c : Bool) (passed : Outcome) → cond a (cond b (cond c passed (fails NotOwn)) (fails NotOwn))
    (fails NotOwn) ≡ cond (a && b && c) passed (fails NotOwn)
three_tests true true true passed = refl
three_tests true true false passed = refl
three_tests true false c passed = refl
three_tests false b c passed = refl

pub schedules-is : (s : Site) (l : Local) (behind : Local → Outcome) →
    schedules s l behind ≡ cond (holds_scheduling_words s.holding l.registers.workspace)
    (behind (record l { memory = without_scheduling_words l.memory l.registers.workspace })) (fails NotOwn)
unfolding schedules writes
schedules-is s l behind =
    let holds = λ (number : ℕ). may_write_word s.holding
    (place_of (local_address l.registers.workspace (negsuc number))) in
    three_tests (holds 0) (holds 1) (holds 2)
    (behind (record l { memory = without_scheduling_words l.memory l.registers.workspace }))

pub ruleset schedules_is = (schedules-is)

four_weaker : (a b c d p q r t : Bool) → IsTrue (a && b && c && d)
    → IsTrue ((a || p) && (b || q) && (c || r) && (d || t))
four_weaker true true true true p q r t h = h
four_weaker true true true false p q r t h = absurd (cc)
four_weaker true true false d p q r t h = absurd (cc)
four_weaker true false c d p q r t h = absurd (cc)
four_weaker false b c d p q r t h = absurd (cc)

pub may_write_word-read : (h : Holding) (place : ℕ) → IsTrue (may_write_word h place) → IsTrue (may_read_word h place)
unfolding may_write_word may_read_word
may_write_word-read h place own =
    four_weaker (may_write h place) (may_write h (place + 1)) (may_write h (place + 2)) (may_write h (place + 3))
    _ _ _ _ own
