use Rattle.std.proofs.Common.{◌≡◌, ◌++◌, map, drop}
use Rattle.machine_state.specs.StartPlans.{word_in}
use Rattle.machine_state.specs.Views.{holding_view}
use Rattle.joins.proofs.plan.addresses.Given as goal

-- those so far and those of the rest are all
abbrev pub invariant-loop-word : goal.invariant-loop-word
invariant-loop-word l =
    l.addresses.items ++ map (word_in (holding_view l.holding) l.store.cells l.base) (drop l.word-index l.words)
    ≡ map (word_in (holding_view l.holding) l.store.cells l.base) l.words
