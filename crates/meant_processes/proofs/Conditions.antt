-- The code of a condition that is reached pushes its truth, as that of any condition does.
use Rattle.std.proofs.Common.{arith}
use Rattle.occam_parser.specs.Blocks.{Chosen}
use Rattle.usage_checks.specs.ItemRules.{BreaksNoRule}
use Rattle.usage_checks.specs.Reaching.{AComponent}
use Rattle.usage_checks.proofs.PlacesHold.{places_hold}
use Rattle.meant_lines.proofs.Expressions.{conditions_are_pushed}
use Rattle.meant_processes.specs.Places.{Program, ground, standing}
use Rattle.meant_processes.specs.Premises.{ConditionsPush}

pub conditions_push : (p : Program) → BreaksNoRule p.items → ConditionsPush p
conditions_push p none line e process s turns env holds reached there words few truth_is =
    let right = places_hold p.items (standing p) (AComponent (Chosen line e process)) s.known none reached in
    let checked = right.holds.1 in
    conditions_are_pushed (ground p s.frame.homes turns) s.frame.top s.frame.top s.known.entries env e holds
    (record { holds = there.holds; free = omega arith; counted = few })
    (record {
      range = right.holds.0;
      type_is = checked.type_is;
      range_is = checked.range_is;
      literals = words;
    })
    truth_is
