-- What is judged of each branch and each PAR row once, when its module is read.
use Rattle.std.specs.Prelude.{◌≡◌, ℕ, ◌+◌, ◌<◌, List, length, get_or}
use Rattle.module_format.specs.Contents.{Contents}
use Rattle.module_format.specs.Contexts.{first_branch}
use Rattle.certificate.specs.declared.judged.Judged.{Judged}
use Rattle.certificate.specs.declared.judged_rows.JudgedRow.{JudgedRow}
use Rattle.certificate.specs.Starting.{gives_words, label_is_seen, leaves_loops_of, hides_words_of, owns_channels_of}
use Rattle.certificate.specs.Siblings.{is_beside_first, has_other_ends_than_first, has_ends_of, leaves_own_hidden_words}

-- this was judged of the branch that is context n
pub record IsJudged (c : Contents) (n : ℕ) (judged : Judged) : Type 0 where
  pub beside : judged.is_beside ≡ is_beside_first c n judged.row judged.number
  pub other_ends : judged.has_other_ends ≡ has_other_ends_than_first c n judged.row judged.number
  pub ends : judged.has_ends ≡ has_ends_of c judged.giver n
  pub hidden : judged.leaves_hidden_words ≡ leaves_own_hidden_words c n
  pub words : judged.has_words ≡ gives_words c judged.giver n
  pub label : judged.label_is_seen ≡ label_is_seen c n

-- this was judged of a number of branches, the first ones
pub record AreJudged (c : Contents) (judged : List Judged) : Type 0 where
  pub each : (i : ℕ) (d : Judged) → i < length judged → IsJudged c (first_branch c + i) (get_or judged i d)

-- this was judged of the PAR row of this number
pub record IsRowJudged (c : Contents) (row : ℕ) (judged : JudgedRow) : Type 0 where
  pub loops : judged.leaves_loops ≡ leaves_loops_of c row
  pub hidden : judged.hides_words ≡ hides_words_of c row
  pub channels : judged.owns_channels ≡ owns_channels_of c row

-- this was judged of a number of PAR rows, the first ones
pub record AreRowsJudged (c : Contents) (judged : List JudgedRow) : Type 0 where
  pub each : (row : ℕ) (d : JudgedRow) → row < length judged → IsRowJudged c row (get_or judged row d)
