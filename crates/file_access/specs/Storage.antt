-- Files with their readers and writers: our own choice.
use Rattle.std.specs.Prelude.{ℕ, Bool, List, Option}
use Rattle.std.specs.Global.{Box}
use Rattle.file_access.specs.FileCalls.{FileCalls}

-- what is said of what is in a box, said of the box
abbrev pub inside : {X Y : Type 0} → (X → Y) → Box X → Y
inside says box = says box.value

-- what calls of files can come to, what their readers have left and their writers were given, if that is known, and
-- which have failed
pub record Storage (F R W : Type 0) : Type 1 where
  pub calls : FileCalls F R W
  pub left : R → Option (List ℕ)
  pub read_failed : R → Bool
  pub written : W → Option (List ℕ)
  pub write_failed : W → Bool

-- that of files whose readers and writers are in boxes
abbrev pub storage_of : {F R W : Type 0} → FileCalls F (Box R) (Box W) → (R → Option (List ℕ)) → (R → Bool)
    → (W → Option (List ℕ)) → (W → Bool) → Storage F (Box R) (Box W)
storage_of calls left read_failed written write_failed = record {
  calls = calls;
  left = inside left;
  read_failed = inside read_failed;
  written = inside written;
  write_failed = inside write_failed;
}
