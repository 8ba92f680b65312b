use Rattle.std.proofs.Common.{rules, ◌≡◌, ap}
use Rattle.machine_state.specs.Holding.{Holding, nothing, may_write}
use Rattle.machine_state.specs.Memory.{place_of}
use Rattle.machine_state.specs.World.{holding_at}
use Rattle.machine_state.proofs.Copying.{all_places-nowhere}
use Rattle.machine_state.proofs.tagged.TaggedStoreLoadStore.can_store_bytes.Goals as goal

pub returns-in-None : goal.returns-in-None
returns-in-None c =
    let none : holding_at c.args.self.now.roles c.args.self.now.holder ≡ nothing = search rules in
    all_places-nowhere (may_write (holding_at c.args.self.now.roles c.args.self.now.holder))
    (λ place. ap (λ (h : Holding). may_write h place) none) (place_of c.args.address) c.args.count
