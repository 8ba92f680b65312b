use Rattle.std.proofs.Common.{append_assoc}
use Rattle.fact_texts.proofs.rows.push_gifts.Goals as goal

pub returns : goal.returns
returns c =
    rw (
      c.in_ok-push_list-5.ensures,
      c.in_ok-push_list-4.ensures,
      c.in_ok-push_list-3.ensures,
      c.in_ok-push_list-2.ensures,
      c.in_ok-push_list.ensures,
      c.deref.ensures,
      c.deref-2.ensures,
      c.deref-3.ensures,
      c.deref-4.ensures,
      c.deref-5.ensures.value,
    )
    (simp append_assoc)
