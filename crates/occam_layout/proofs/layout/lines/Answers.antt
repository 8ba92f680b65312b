use Rattle.std.proofs.Common.{subst}
use Rattle.occam_layout.specs.Reading.{Answers}
use Rattle.occam_layout.proofs.Sources.{is_found, source_only, one_reading, lines_whole}
use Rattle.occam_layout.proofs.Spans.{placed}
use Rattle.occam_layout.proofs.layout.lines.Goals as goal

pub returns-clause-found : goal.returns-clause-found
returns-clause-found c = is_found c.args.source.now c.read_lines.result c.read_lines.ensures

pub returns-clause-only : goal.returns-clause-only
returns-clause-only c = λ rows is. subst (Answers c.read_lines.result) (source_only c.args.source.now rows is)
    c.read_lines.ensures

pub returns-clause-unique : goal.returns-clause-unique
returns-clause-unique c = one_reading c.args.source.now

pub returns-clause-whole : goal.returns-clause-whole
returns-clause-whole c = lines_whole c.args.source.now

pub returns-clause-placed : goal.returns-clause-placed
returns-clause-placed c = placed c.args.source.now c.read_lines.result
    (is_found c.args.source.now c.read_lines.result c.read_lines.ensures)
