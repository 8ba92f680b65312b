-- The words that the branches of PAR rows write, as joined intervals.
use Rattle.std.specs.Prelude.{◌≡◌, ℕ, ◌<◌, List, length, get_or, Vec}
use Rattle.std.specs.Global.{Global}
use Rattle.module_format.specs.declared.rows.Interval.{Interval}
use Rattle.module_format.specs.Contents.{Contents}
use Rattle.certificate.specs.Starting.{is_written_in}
use Rattle.certificate.specs.Words.{AreJoined}

-- these are the words of the first `count` rows
pub record AreWritten (c : Contents) (count : ℕ) (written : List (Vec Interval Global)) : Type 0 where
  pub many : length written ≡ count
  pub each : (row : ℕ) (d : Vec Interval Global) → row < length written
      → AreJoined (is_written_in c row) (get_or written row d).items
