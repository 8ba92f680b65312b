use Rattle.file_runs.proofs.debugging.create_and_drive.Goals as goal

pub returns-in-Ok-clause-drives : goal.returns-in-Ok-clause-drives
returns-in-Ok-clause-drives g c = record {
  writers = c.create_all.new.writers;
  creates_all = c.in_ok-create_all.ensures.gives;
  drives = c.in-Ok.ensures.drives;
}

pub returns-in-Err-Stopped-Limit-clause-drives : goal.returns-in-Err-Stopped-Limit-clause-drives
returns-in-Err-Stopped-Limit-clause-drives g c = record {
  writers = c.create_all.new.writers;
  creates_all = c.in_ok-create_all.ensures.gives;
  drives = rw (c.in-Err-Stopped-Limit.field-0-is, c.in-Err-Stopped-Limit.field-0-0-is)
      at c.in-Err-Stopped-Limit.ensures.drives;
}

pub returns-in-Err-Stopped-Fault-clause-drives : goal.returns-in-Err-Stopped-Fault-clause-drives
returns-in-Err-Stopped-Fault-clause-drives g c = record {
  writers = c.create_all.new.writers;
  creates_all = c.in_ok-create_all.ensures.gives;
  drives = rw (c.in-Err-Stopped-Fault.field-0-is, c.in-Err-Stopped-Fault.field-0-0-is)
      at c.in-Err-Stopped-Fault.ensures.drives;
}

pub returns-in-Err-ReadFailed-clause-drives : goal.returns-in-Err-ReadFailed-clause-drives
returns-in-Err-ReadFailed-clause-drives g c = record {
  writers = c.create_all.new.writers;
  creates_all = c.in_ok-create_all.ensures.gives;
  drives = rw c.in-Err-ReadFailed.field-0-is at c.in-Err-ReadFailed.ensures.drives;
}

pub returns-in-Err-WriteFailed-clause-drives : goal.returns-in-Err-WriteFailed-clause-drives
returns-in-Err-WriteFailed-clause-drives g c = record {
  writers = c.create_all.new.writers;
  creates_all = c.in_ok-create_all.ensures.gives;
  drives = rw c.in-Err-WriteFailed.field-0-is at c.in-Err-WriteFailed.ensures.drives;
}
