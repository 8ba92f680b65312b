use Rattle.std.proofs.Common.{◌≡◌}
use Rattle.module_format.specs.Contents.{contents_of}
use Rattle.module_format.specs.Places.{rows_end, AreRowOwners}
use Rattle.module_format.proofs.row_owners.row_owners.Given as goal

abbrev pub invariant-loop-row : goal.invariant-loop-row
invariant-loop-row l =
    let c = contents_of l.tables in record {
      owners : AreRowOwners c l.row-index l.owners.items;
      end
          : l.end ≡ rows_end c l.row-index;
    }
