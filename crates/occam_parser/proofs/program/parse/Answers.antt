use Rattle.std.proofs.Common.{◌∙◌, sym}
use Rattle.occam_parser.specs.Blocks.{rows_of}
use Rattle.occam_parser.proofs.Programs.{program_sound, program_again, one_program, no_rows}
use Rattle.occam_parser.proofs.LevelLaws.{program_levels}
use Rattle.occam_parser.proofs.WordLaws.{program_has_words}
use Rattle.occam_parser.proofs.Answering.{told_of_program, refused_so}
use Rattle.occam_parser.proofs.program.parse.Goals as goal

pub new-requires-clause-levels : goal.new-requires-clause-levels
new-requires-clause-levels c = program_levels (rows_of c.args.lines.now) _
    (program_sound (rows_of c.args.lines.now) _ c.in-Ok.ensures)

pub new-requires-clause-words : goal.new-requires-clause-words
new-requires-clause-words c = program_has_words c.args.lines.now _
    (program_sound (rows_of c.args.lines.now) _ c.in-Ok.ensures)

pub returns-in-Ok-clause-found : goal.returns-in-Ok-clause-found
returns-in-Ok-clause-found c = rw c.new.ensures (program_sound (rows_of c.args.lines.now) _ c.in-Ok.ensures)

pub returns-in-Ok-clause-only : goal.returns-in-Ok-clause-only
returns-in-Ok-clause-only c items is =
    let same = sym c.in-Ok.ensures ∙ program_again (rows_of c.args.lines.now) items is in
    rw c.new.ensures (cc)

pub returns-in-Ok-clause-unique : goal.returns-in-Ok-clause-unique
returns-in-Ok-clause-unique c = one_program

pub returns-in-Err-clause-only : goal.returns-in-Err-clause-only
returns-in-Err-clause-only c items is =
    told_of_program (rows_of c.args.lines.now) c.in-Err.refusal c.told.result _ items
    (program_again (rows_of c.args.lines.now) items is) c.in-Err.ensures c.told.ensures

pub returns-in-Err-clause-refused : goal.returns-in-Err-clause-refused
returns-in-Err-clause-refused c =
    refused_so (rows_of c.args.lines.now) c.in-Err.refusal c.told.result _ (no_rows (rows_of c.args.lines.now))
    c.in-Err.ensures c.told.ensures

pub returns-in-Err-clause-unique : goal.returns-in-Err-clause-unique
returns-in-Err-clause-unique c = one_program
