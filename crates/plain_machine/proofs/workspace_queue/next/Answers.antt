use Rattle.std.proofs.Common.{ℕ, subst, sym, IsTrue}
use Rattle.machine_state.specs.Holding.{may_read_word}
use Rattle.machine_state.proofs.Scheduling.{may_write_word-read}
use Rattle.plain_machine.proofs.workspace_queue.next.Goals as goal

pub load_word-requires : goal.load_word-requires
load_word-requires g c =
    subst (λ (place : ℕ). IsTrue (may_read_word (g.S.LoadStore.holding c.args.store.now) place))
    (sym c.link_address.ensures) (may_write_word-read _ _ c.requires)
