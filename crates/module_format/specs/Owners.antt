-- Where the owners of branches are looked up.
use Rattle.std.specs.Prelude.{length}
use Rattle.module_format.specs.declared.contexts.OwnersBy.{OwnersBy}
use Rattle.module_format.specs.declared.contexts.OwnersBy.TheVariants as owners
use Rattle.module_format.specs.Contents.{Contents}
use Rattle.module_format.specs.Contexts.{branch_count}
use Rattle.module_format.specs.Places.{ArePlaces, AreRowOwners}

-- the owners are those of these contents
abbrev pub AreOwners : Contents → OwnersBy → Type 0
AreOwners c (owners.Branch places) = ArePlaces c (branch_count c.pars) places.now
AreOwners c (owners.Row rows) = AreRowOwners c (length c.pars) rows.now
