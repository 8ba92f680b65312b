use Rattle.std.proofs.Common.{take, map}
use Rattle.std.specs.List.{flat_map}
use Rattle.module_format.specs.Writable.{Writes}
use Rattle.module_format.proofs.writing.list.put_all.Given as goal

abbrev pub invariant-loop-item : goal.invariant-loop-item
invariant-loop-item g l =
    let written = map g.T.Put.meaning.view (take l.item-index l.items) in
    Writes l.fn.out (flat_map (g.T.Put.meaning.bytes l.version) written) l.out
