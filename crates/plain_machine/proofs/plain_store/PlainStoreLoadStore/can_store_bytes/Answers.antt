use Rattle.std.proofs.Common.{ℕ, length, ap, ◌∙◌}
use Rattle.machine_state.specs.Holding.{may_write}
use Rattle.machine_state.specs.Spans.{all_places}
use Rattle.plain_machine.specs.Plain.{all_memory}
use Rattle.plain_machine.proofs.PlainBytes.{writable_bytes}
use Rattle.plain_machine.proofs.plain_store.PlainStoreLoadStore.can_store_bytes.Goals as goal

pub returns : goal.returns
returns c =
    let n = length c.args.self.now in
    c.has_all.ensures ∙ (writable_bytes n c.place_of.result c.args.count
    ∙ ap (λ (place : ℕ). all_places (may_write (all_memory n)) place c.args.count) c.place_of.ensures)
