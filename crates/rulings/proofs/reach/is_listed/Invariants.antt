use Rattle.std.proofs.Common.{◌≡◌, false, take}
use Rattle.rulings.specs.Reach.{is_listed}
use Rattle.rulings.proofs.reach.is_listed.Given as goal

abbrev pub invariant-loop-listed : goal.invariant-loop-listed
invariant-loop-listed l = is_listed (take l.listed-index l.numbers) l.number ≡ false
