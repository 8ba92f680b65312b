-- What holds of each choice of an IF holds of those that are tested and of its ending, whichever it has.
use Rattle.std.proofs.Common.{ℕ, zero, suc, ◌<◌, Bool, true, false, cond, arith}
use Rattle.code_generator.specs.Processes.{is_true, PlacedChoice, PlacedChoices, NoChoice, ThenChoice, IfEnding, Stops}
use Rattle.code_generator.specs.Processes.{Always, Opens, EndedChoices, with_ending, opening, in_each_turn}

abbrev pub AllAre : (PlacedChoice → Type 0) → PlacedChoices → Type 0
AllAre P NoChoice = Unit {0}
AllAre P (ThenChoice cs c) = AllAre P cs × P c

abbrev pub EndingIs : (PlacedChoice → Type 0) → IfEnding → Type 0
EndingIs P Stops = Unit {0}
EndingIs P (Always c) = P c
EndingIs P (Opens c) = P c

abbrev pub EachIs : (PlacedChoice → Type 0) → EndedChoices → Type 0
EachIs P x = AllAre P x.tested × EndingIs P x.ending

pub ending_each : (P : PlacedChoice → Type 0) (cs : PlacedChoices) → AllAre P cs → EachIs P (with_ending cs)
ending_each P NoChoice all = (tt, tt)
ending_each P (ThenChoice cs c) all = by_truth (is_true c.condition)
  where
    by_truth : (holds : Bool) → EachIs P (cond holds (record { tested = cs; ending = Always c })
        (record { tested = ThenChoice cs c; ending = Stops }))
    by_truth true = (all.0, all.1)
    by_truth false = (all, tt)

pub opening_each : (P : PlacedChoice → Type 0) (cs : PlacedChoices) (x : IfEnding) → AllAre P cs → EndingIs P x
    → EachIs P (opening cs x)
opening_each P (ThenChoice cs opened) (Always c) all last = by_skip c.is_skip
  where
    by_skip : (skips : Bool) → EachIs P (cond skips (record { tested = cs; ending = Opens opened })
        (record { tested = ThenChoice cs opened; ending = Always c }))
    by_skip true = (all.0, all.1)
    by_skip false = (all, last)
opening_each P cs x all last = (all, last)

-- a choice in each of its turns
pub turns_each : (P : PlacedChoice → Type 0) (choice : ℕ → PlacedChoice) (count : ℕ)
    → ((n : ℕ) → n < count → P (choice n)) → AllAre P (in_each_turn choice count)
turns_each P choice zero all = tt
turns_each P choice (suc n) all =
    (turns_each P choice n (λ m less. all m (omega (arith, less))), all n (omega arith))
