use Rattle.std.proofs.Common.{append_assoc}
use Rattle.fact_texts.proofs.rows.push_context_row.Goals as goal

pub returns : goal.returns
returns g c =
    rw (
      c.in_ok-push_str.ensures.bytes,
      c.in_ok-push_rest.ensures,
      c.in_ok-push_entered.ensures,
      c.context_text.ensures,
    )
    (simp append_assoc)
