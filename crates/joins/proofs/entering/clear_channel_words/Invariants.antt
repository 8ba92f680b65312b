use Rattle.std.proofs.Common.{◌≡◌, drop}
use Rattle.joins.proofs.Entered.{without_rows}
use Rattle.joins.proofs.entering.clear_channel_words.Given as goal

-- without those of the rest none has anything
abbrev pub invariant-loop-row : goal.invariant-loop-row
invariant-loop-row l =
    without_rows l.base (drop l.row-index l.channels) l.traffic ≡ without_rows l.base l.channels l.initial.traffic
