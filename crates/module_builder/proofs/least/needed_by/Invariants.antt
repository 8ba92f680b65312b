use Rattle.std.proofs.Common.{◌≡◌, map, take}
use Rattle.module_builder.specs.References.{reference_bytes}
use Rattle.module_builder.proofs.least.needed_by.Given as goal

abbrev pub invariant-loop-reference : goal.invariant-loop-reference
invariant-loop-reference g l =
    l.needed.items
    ≡ map (reference_bytes l.code (g.P.Offsets.lengths l.places)) (take l.reference-index l.references)
