use Rattle.std.proofs.Common.{map}
use Rattle.module_format.specs.Contents.{procedure_of}
use Rattle.module_format.proofs.KeepingLaws.{offset_is}
use Rattle.module_format.proofs.keeping.labels.offset_keeps.Goals as goal

pub returns-then-lies_after : goal.returns-then-lies_after
returns-then-lies_after c =
    let lies = c.lies_after.ensures.0 c.if-lies_after.true in
    offset_is c.args.code_len (map procedure_of c.args.procedures.now) c.args.low c.args.offset c.is_entry.result
    lies.0 lies.1 c.is_entry.ensures
