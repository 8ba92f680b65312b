use Rattle.std.proofs.Common.{◌≡◌, map, drop}
use Rattle.module_format.specs.Contents.{par_of}
use Rattle.par_rules.specs.Finding.{place_from}
use Rattle.par_rules.proofs.found.place_of.Given as goal

-- it is among the rest
abbrev pub invariant-loop-row : goal.invariant-loop-row
invariant-loop-row l =
    place_from 0 (map par_of l.pars) l.before
    ≡ place_from l.row (map par_of (drop l.row l.pars)) l.left
