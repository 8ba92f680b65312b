use Rattle.std.proofs.Common.{◌≡◌, ◌+◌, length, drop, map}
use Rattle.std.specs.List.{flat_map}
use Rattle.module_format.specs.References.{list_references}
use Rattle.module_format.proofs.reading.references.list_references.Given as goal

abbrev pub invariant-loop-item : goal.invariant-loop-item
invariant-loop-item g l =
    let T = g.T.References in
    let xs = map T.naming.view l.items in
    record {
      rest : list_references (T.naming.looked l.context) T.naming.bytes l.at (drop l.item-index xs)
          ≡ list_references (T.naming.looked l.context) T.naming.bytes l.start xs;
      place : l.at + length (flat_map T.naming.bytes (drop l.item-index xs))
          ≡ l.start + length (flat_map T.naming.bytes xs);
    }
