use Rattle.std.proofs.Common.{inl}
use Rattle.file_runs.proofs.running.create_and_run.Goals as goal

pub returns-in-Ok : goal.returns-in-Ok
returns-in-Ok g c = record {
  writers = c.create_all.new.writers;
  creates_all = c.in_ok-create_all.ensures.gives;
  runs = c.in-Ok.ensures.runs;
  known = c.in-Ok.ensures.known;
}

pub returns-in-Err-ReadFailed : goal.returns-in-Err-ReadFailed
returns-in-Err-ReadFailed g c = record {
  writers = c.create_all.new.writers;
  creates_all = c.in_ok-create_all.ensures.gives;
  runs = rw c.in-Err-ReadFailed.field-0-is at c.in-Err-ReadFailed.ensures.runs;
  known = c.in-Err-ReadFailed.ensures.known;
}

pub returns-in-Err-WriteFailed : goal.returns-in-Err-WriteFailed
returns-in-Err-WriteFailed g c = record {
  writers = c.create_all.new.writers;
  creates_all = c.in_ok-create_all.ensures.gives;
  runs = rw c.in-Err-WriteFailed.field-0-is at c.in-Err-WriteFailed.ensures.runs;
  known = c.in-Err-WriteFailed.ensures.known;
}

pub returns-in-Err-Memory : goal.returns-in-Err-Memory
returns-in-Err-Memory g c = inl (record {
  writers = c.create_all.new.writers;
  creates_all = c.in_ok-create_all.ensures.gives;
  runs = rw c.in-Err-Memory.field-0-is at c.in-Err-Memory.ensures.runs;
  known = c.in-Err-Memory.ensures.known;
})
