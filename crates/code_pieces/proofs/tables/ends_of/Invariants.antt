use Rattle.std.proofs.Common.{◌≡◌, drop}
use Rattle.code_pieces.specs.Tables.{lowest, highest}
use Rattle.code_pieces.proofs.tables.ends_of.Given as goal

abbrev pub invariant-loop-value : goal.invariant-loop-value
invariant-loop-value l = record {
  least : lowest l.least (drop l.value-index l.others) ≡ lowest l.first l.others;
  greatest : highest l.greatest (drop l.value-index l.others) ≡ highest l.first l.others;
}
