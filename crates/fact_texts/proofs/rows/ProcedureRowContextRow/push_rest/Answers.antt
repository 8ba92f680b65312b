use Rattle.std.proofs.Common.{append_assoc}
use Rattle.fact_texts.proofs.rows.ProcedureRowContextRow.push_rest.Goals as goal

pub returns : goal.returns
returns c =
    rw (c.in_ok-push_items.ensures, c.in_ok-push_frame_and_number.ensures, c.deref.ensures.value)
    (simp append_assoc)
