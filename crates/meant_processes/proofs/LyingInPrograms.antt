-- Where the pieces of a part of a program lie in the code of its module.
use Rattle.std.proofs.Common.{true, ◌++◌}
use Rattle.module_builder.specs.Layouts.{offset}
use Rattle.code_pieces.specs.Laying.{apart, apart_from}
use Rattle.placed_code.specs.LaidCode.{item_count, laid_code}
use Rattle.placed_code.proofs.PiecesLie.{pieces_lie}
use Rattle.meant_code.specs.AmongOthers.{at_row_after}
use Rattle.meant_code.proofs.AmongOthers.{parts_stay_parts}
use Rattle.meant_code.proofs.OwnPrograms.{labels_stay_once}
use Rattle.meant_processes.specs.LyingInPrograms.{PartsLieApart}
use Rattle.meant_processes.proofs.Lying.{pieces_lie_apart}

pub parts_lie_apart : PartsLieApart
parts_lie_apart items c is links bytes says before part rest whole fits =
    let at_row = at_row_after true before in
    pieces_lie_apart (laid_code (apart c.pieces) c.labels says.arrangement.lengths 0) at_row part
    (offset says.arrangement.lengths (item_count (apart before)))
    (offset says.arrangement.lengths (item_count (apart before ++ apart_from at_row part)))
    (pieces_lie (apart c.pieces) c.labels links bytes says (apart before) (apart_from at_row part) 0
    (labels_stay_once items c is) (parts_stay_parts items c is before part rest whole fits))
