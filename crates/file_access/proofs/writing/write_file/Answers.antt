use Rattle.std.proofs.Common.{refl, inr}
use Rattle.file_access.proofs.writing.write_file.Goals as goal

pub returns-in-Ok-Ok : goal.returns-in-Ok-Ok
returns-in-Ok-Ok g c = record {
  writer = _;
  created = _;
  full = _;
  creates_it = c.in-Ok.ensures.gives;
  appends = (rw c.in-Ok-Ok.is-0 at c.write_whole-written.ensures).appends;
  closes_it = rw c.in-Ok-Ok.is-1 at c.close-closed.ensures;
}

pub returns-in_default : goal.returns-in_default
returns-in_default g c = (
  refl,
  inr (record {
    writer = _;
    created = _;
    last = _;
    closed = _;
    creates_it = c.in-Ok.ensures.gives;
    closes_it = c.close-closed.ensures;
  }),
)
