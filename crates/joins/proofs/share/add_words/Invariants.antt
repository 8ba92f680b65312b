use Rattle.std.proofs.Common.{◌≡◌, ◌++◌, map, drop}
use Rattle.machine_state.specs.BranchShares.{words_of}
use Rattle.machine_state.specs.Stretches.{stretch_view}
use Rattle.joins.proofs.share.add_words.Given as goal

-- those so far and those of the rest are all
abbrev pub invariant-loop-interval : goal.invariant-loop-interval
invariant-loop-interval l =
    map stretch_view l.stretches.items ++ map (words_of l.base) (drop l.interval-index l.words)
    ≡ map stretch_view l.initial.stretches.items ++ map (words_of l.base) l.words
