-- PARs: where their branches begin, and what these are given.
use Rattle.std.specs.Prelude.{ℕ, ℤ, pos, List}
use Rattle.module_format.specs.declared.rows.ChannelRow.{ChannelRow}
use Rattle.module_format.specs.declared.rows.EndRow.{EndRow}
use Rattle.module_format.specs.declared.rows.Interval.{Interval}
use Rattle.code_pieces.specs.declared.piece.CodeContext.TheVariants.{Root}
use Rattle.code_pieces.specs.declared.piece.Workspace.{Workspace}

-- where a program begins
abbrev pub in_root : Workspace
in_root = record { context = Root; depth = pos 0 }

-- The label of its entry, the depth of its workspace, the words that it writes, those that it only reads, and ends of
-- channels.
pub record ParBranch : Type 0 where
  pub entry : ℕ
  pub depth : ℤ
  pub writes : List Interval
  pub reads : List Interval
  pub ends : List EndRow

-- The opener's workspace, where the PAR's block is; the label after the PAR; its channels, and its branches.
pub record Par : Type 0 where
  pub opener : Workspace
  pub successor : ℕ
  pub channels : List ChannelRow
  pub branches : List ParBranch
