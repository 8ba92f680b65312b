-- What an instruction changes that a process comes to is within what its activation may change.
use Rattle.std.proofs.Common.{◌≡◌, ℕ}
use Rattle.std.proofs.Common.{refl}
use Rattle.std.specs.Prelude.{⊤}
use Rattle.machine_state.specs.Site.{Local, Outcome, goes, jumps, lands, stops, fails, receives, sends, starts, joins}
use Rattle.machine_state.specs.Site.{begins, enables_channel, enables_skip, waits, disables_channel, disables_skip}
use Rattle.machine_state.specs.Site.{ends_alternation}
use Rattle.states.specs.declared.rule.Rule.{Rule}
use Rattle.rulings.specs.Fitting.{Situation, GoesTo, goes_behind, is_jump, is_landing, Fits, it_falls, it_leads}
use Rattle.rulings.specs.Fitting.{it_calls, it_returns, it_selects, it_ends, it_asks, it_breaks, Asks, to_receive}
use Rattle.rulings.specs.Fitting.{to_send, to_begin, to_enable, to_enable_skip, to_wait, to_disable, to_disable_skip}
use Rattle.rulings.specs.Regions.{scope_of, KeepsMemory}
use Rattle.rulings.specs.Rulings.{Ruling, breaks}

-- ---- an outcome

-- its activation may change what this changes
abbrev Kept : Situation → Local → Type 0
Kept x l = KeepsMemory x.m x.h (scope_of x.m x.context x.act.layout) x.memory l.memory

-- an outcome leaves memory so; a fault leaves it alone
abbrev pub LeavesKept : Situation → Outcome → Type 0
LeavesKept x (goes l) = Kept x l
LeavesKept x (jumps to l) = Kept x l
LeavesKept x (lands to l) = Kept x l
LeavesKept x (stops l) = Kept x l
LeavesKept x (fails kind) = ⊤
LeavesKept x (receives e l) = Kept x l
LeavesKept x (sends e l) = Kept x l
LeavesKept x (starts to workspace l) = Kept x l
LeavesKept x (joins block l) = Kept x l
LeavesKept x (begins l) = Kept x l
LeavesKept x (enables_channel guard address l) = Kept x l
LeavesKept x (enables_skip guard l) = Kept x l
LeavesKept x (waits l) = Kept x l
LeavesKept x (disables_channel guard address distance l) = Kept x l
LeavesKept x (disables_skip guard distance l) = Kept x l
LeavesKept x (ends_alternation to l) = Kept x l

goes_kept : {x : Situation} {o : Outcome} {to : ℕ} {l : Local} → GoesTo x o to l → Kept x l → LeavesKept x o
goes_kept goes_behind kept = kept
goes_kept is_jump kept = kept
goes_kept is_landing kept = kept

asks_keep : {x : Situation} {r : Ruling} {o : Outcome} → Asks x r o → LeavesKept x o
asks_keep (to_receive asks wants) = asks.changes.keeps
asks_keep (to_send asks wants) = asks.changes.keeps
asks_keep (to_begin alters begun) = alters.changes.keeps
asks_keep (to_enable kind alters at more fresh) = alters.changes.keeps
asks_keep (to_enable_skip alters more) = alters.changes.keeps
asks_keep (to_wait alters awaits) = alters.changes.keeps
asks_keep (to_disable kind alters at less) = alters.changes.keeps
asks_keep (to_disable_skip alters less) = alters.changes.keeps

pub fits_keep : {x : Situation} {r : Ruling} {o : Outcome} → Fits x r o → ((v : Rule) → r ≡ breaks v → ⊥)
    → LeavesKept x o
fits_keep (it_falls fallen gone low after same changes pay stays) whole = goes_kept gone changes.keeps
fits_keep (it_leads turns led gone label low after same changes pay) whole = goes_kept gone changes.keeps
fits_keep (it_calls act workspace found low after back called same changes pay one few) whole = changes.keeps
fits_keep (it_returns some few plain changes registers workspace back pay) whole = changes.keeps
fits_keep (it_selects turns among label low after same changes pay all) whole = changes.keeps
fits_keep (it_ends plain changes pay) whole = changes.keeps
fits_keep (it_asks asks pay) whole = asks_keep asks
fits_keep (it_breaks {broken = v}) whole = absurd (whole v refl)
