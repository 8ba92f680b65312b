use Rattle.std.proofs.Common.{ℕ, is_some, ap, ◌∙◌}
use Rattle.machine_state.specs.Memory.{byte_at}
use Rattle.machine_state.specs.Spans.{all_places}
use Rattle.plain_machine.specs.Plain.{defined}
use Rattle.plain_machine.proofs.PlainBytes.{defined_bytes}
use Rattle.plain_machine.proofs.plain_store.PlainStoreLoadStore.defines_bytes.Goals as goal

pub returns : goal.returns
returns c =
    let bytes = c.args.self.now in
    c.has_all.ensures ∙ (defined_bytes bytes c.place_of.result c.args.count
    ∙ ap (λ (place : ℕ). all_places (λ p. is_some (byte_at (defined bytes) p)) place c.args.count) c.place_of.ensures)
