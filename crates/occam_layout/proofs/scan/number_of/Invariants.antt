use Rattle.std.proofs.Common.{◌≡◌, ◌≤◌, ◌*◌, ◌+◌, drop, fold}
use Rattle.std.specs.Char.{digit_value}
use Rattle.occam_layout.specs.Reading.{value}
use Rattle.occam_layout.proofs.scan.number_of.Given as goal

abbrev pub invariant-loop-digit : goal.invariant-loop-digit
invariant-loop-digit l = (l.number ≤ l.max) ×
    (fold (λ n digit. n * l.base + digit_value digit) l.number (drop l.digit-index l.digits) ≡ value l.base l.digits)
