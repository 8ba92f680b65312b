use Rattle.std.proofs.Common.{sym, ◌∙◌}
use Rattle.std.proofs.lemmas.Bool.{eqb-true}
use Rattle.occam_layout.proofs.Rows.{parts, last_parts}
use Rattle.reason_texts.proofs.lines.first_line.Goals as goal

pub returns-then-is_empty-clause-parts : goal.returns-then-is_empty-clause-parts
returns-then-is_empty-clause-parts c =
    last_parts c.args.text.now c.split_at.result.0.now c.split_at.result.1.now c.front_len-len.result c.requires
    c.front_len-len.ensures.len c.split_at.ensures.front c.split_at.ensures.back
    (eqb-true _ _ (sym c.is_empty.ensures ∙ c.if-is_empty.true))

pub returns-clause-parts : goal.returns-clause-parts
returns-clause-parts c =
    parts c.args.text.now c.split_at.result.0.now c.split_at.result.1.now c.split_at-2.result.1.now
    c.front_len-len.result c.requires c.front_len-len.ensures.len c.split_at.ensures.front c.split_at.ensures.back
    c.split_at-2.ensures.back
