use Rattle.std.proofs.Common.{append_assoc}
use Rattle.fact_texts.proofs.rows.push_label.Goals as goal

pub returns : goal.returns
returns c =
    rw (
      c.in_ok-push_str.ensures.bytes,
      c.in_ok-push_items.ensures,
      c.in_ok-push_registers.ensures,
      c.in_ok-push_label_head.ensures,
      c.deref.ensures.value,
    )
    (simp append_assoc)
