-- The word that counts the members of an open join is set, and its record: no process may write that word.
use Rattle.std.proofs.Common.{◌≡◌, ◌≢◌, ℕ, ◌+◌, ◌*◌, ◌<◌, ◌≤◌, ◌⊎◌, inl, inr, ℤ, pos, true, List, length}
use Rattle.std.proofs.Common.{FitsSigned, Option, Some, None, ap, ◌∙◌, sym, subst, arith, slice_get}
use Rattle.std.specs.Int.{w32}
use Rattle.std.specs.Option.{unwrap_or}
use Rattle.module_format.specs.Contents.{Contents, Par}
use Rattle.machine_state.specs.declared.process.Channel.{Channel}
use Rattle.machine_state.specs.Apart.{AllApart, block_span, data_word}
use Rattle.machine_state.specs.Holding.{may_write}
use Rattle.machine_state.specs.JoinLookups.{opened_by}
use Rattle.machine_state.specs.LocalStep.{address}
use Rattle.machine_state.specs.Memory.{Memory, place_of, local_address, byte_at}
use Rattle.machine_state.specs.Roles.{opened_in}
use Rattle.machine_state.specs.World.{World, Role, Join, holding_at}
use Rattle.machine_state.proofs.EvenWords.{next_place}
use Rattle.machine_state.proofs.Reading.{word_at-with_word}
use Rattle.machine_state.proofs.Roles.{told_of}
use Rattle.machine_state.proofs.SpanLaws.{covers_there}
use Rattle.world_laws.specs.Parked.{InWord}
use Rattle.plain_machine.specs.PlainStep.{HasWord, plain_word, with_plain_word}
use Rattle.agreement.specs.Agrees as agree
use Rattle.agreement.specs.Agrees.{PlainMachine, Agrees}
use Rattle.agreement.proofs.ChannelWords.{word_kept, plain_kept, parked_kept, messages_kept, alternations_kept}
use Rattle.agreement.proofs.Elsewhere.{Owns, role_reads}
use Rattle.agreement.proofs.Leaving.{blank_matches}
use Rattle.agreement.proofs.StaysKept.{join_stays}

-- no process may write the block of an open join
pub nobody_writes_block : (w : World) → AllApart w.roles w.channels → (o : ℕ) (j : Join) → opened_by w o ≡ Some j
    → (q x : ℕ) → place_of j.block ≤ x → x < place_of j.block + 8 → may_write (holding_at w.roles q) x ≡ true → ⊥
nobody_writes_block w apart o j is_open q x low high own =
    let r = told_of (λ (r : Role). r.opened) w.roles o j is_open in
    let s = role_reads w.roles q x own in
    let read = s.2 in
    let free = apart.blocks o q r.0 s.0 j r.1 r.2 s.1 x (covers_there (block_span j) x low high) in
    cc

-- ---- word 1 of the block has this value then, and the join this record

module _ (m : Contents) (w : World) (owns : Owns w) (machine : PlainMachine) (agrees : Agrees m machine w) (o : ℕ)
    (j k : Join) (is_open : opened_by w o ≡ Some j) (block : k.block ≡ j.block) (row : k.row ≡ j.row) (v : ℤ)
    (counts : (par : Par) → slice_get m.pars j.row ≡ Some par
    → address v + k.started ≡ length k.members + length par.branches)
    (lies : HasWord machine.memory (local_address j.block (pos 1))) (fits : FitsSigned w32 v)
    (blank : (x : ℕ) → InWord (place_of (local_address j.block (pos 1))) x → byte_at w.memory x ≡ None)
    (roles : List Role) (opens : (q : ℕ) (i : Join) → opened_in roles q ≡ Some i
    → ((o ≡ q) × (k ≡ i)) ⊎ ((o ≢ q) × (opened_by w q ≡ Some i))) where
  abbrev place : ℕ
  place = place_of (local_address j.block (pos 1))

  abbrev n : Memory
  n = with_plain_word (local_address j.block (pos 1)) v machine.memory

  second : place ≡ place_of j.block + 4
  second = next_place j.block (owns.blocks o j is_open)

  free : (q x : ℕ) → InWord place x → may_write (holding_at w.roles q) x ≡ true → ⊥
  free q x inside own =
      let low = inside.0 in
      let high = inside.1 in
      nobody_writes_block w owns.apart o j is_open q x (omega (arith, low, second)) (omega (arith, high, second)) own

  kept : (a : ℕ) → ((x : ℕ) → InWord (place_of a) x → InWord place x → ⊥)
      → plain_word n a ≡ plain_word machine.memory a
  kept a apart = plain_kept w owns m machine agrees place free v a apart

  -- channels lie elsewhere
  channel_apart : (i : ℕ) (c : Channel) → slice_get w.channels i ≡ Some (Some c) → (x : ℕ) → InWord (4 * i) x
      → InWord place x → ⊥
  channel_apart i c there x one other =
      let r = told_of (λ (r : Role). r.opened) w.roles o j is_open in
      let low = other.0 in
      let high = other.1 in
      let none = owns.apart.both_once o i r.0 j c r.1 r.2 there x
      (covers_there (block_span j) x (omega (arith, low, second)) (omega (arith, high, second))) in
      let some = covers_there (data_word i) x one.0 one.1 in
      cc

  -- and so do the blocks of other joins
  block_apart : (q : ℕ) (i : Join) → o ≢ q → opened_by w q ≡ Some i → (x : ℕ) → place_of i.block ≤ x
      → x < place_of i.block + 8 → InWord place x → ⊥
  block_apart q i differ opened x low high other =
      let r = told_of (λ (r : Role). r.opened) w.roles o j is_open in
      let s = told_of (λ (r : Role). r.opened) w.roles q i opened in
      let from = other.0 in
      let to = other.1 in
      let none = owns.apart.blocks_once o q r.0 s.0 j i differ r.1 s.1 r.2 s.2 x
      (covers_there (block_span j) x (omega (arith, from, second)) (omega (arith, to, second))) in
      let some = covers_there (block_span i) x low high in
      cc

  other_join : (q : ℕ) (i : Join) (par : Par) → o ≢ q → opened_by w q ≡ Some i → slice_get m.pars i.row ≡ Some par
      → agree.KeepsJoin m n i par
  other_join q i par differ opened at = join_stays machine.memory n m i par (owns.blocks q i opened) (λ a inside.
      kept a (λ x one. let low = inside x one in block_apart q i differ opened x low.0 low.1))
      (agrees.joins q i par opened at)

  this_join : (par : Par) → slice_get m.pars j.row ≡ Some par → agree.KeepsJoin m n k par
  this_join par at = record {
    successor = ap (λ (a : ℕ). address (plain_word n a)) block
        ∙ (ap address (kept j.block (λ x one other.
        let high = one.1 in let low = other.0 in omega (arith, high, low, second)))
        ∙ (agrees.joins o j par is_open at).successor);
    count = ap (λ (a : ℕ). address (plain_word n (local_address a (pos 1))) + k.started) block
        ∙ (ap (λ (o : Option ℤ). address (unwrap_or o (pos 0)) + k.started)
        (word_at-with_word machine.memory place v lies fits)
        ∙ counts par at);
  }

  pub join_is_set : Agrees m (record machine { memory = n }) (record w { roles = roles })
  join_is_set = record {
    memory = blank_matches w.memory machine.memory place v agrees.memory blank;
    running = agrees.running;
    registers = λ q t runs here.
        let x = agrees.registers q t runs here in
        record { workspace = x.workspace; at = x.at; operand = x.operand; stack = x.stack };
    ready = agrees.ready;
    parked = λ q t x. parked_kept w owns m machine agrees place free v q t
        (record { here = x.here; live = x.live; aside = x.aside });
    channels = λ i c there. ap (λ (o : Option ℤ). address (unwrap_or o (pos 0)))
        (word_kept w owns m machine agrees place free v (4 * i) (channel_apart i c there)) ∙ agrees.channels i c there;
    messages = messages_kept w owns m machine agrees place free v;
    alternations = λ q t x. alternations_kept w owns m machine agrees place free v q t
        (record { here = x.here; inside = x.inside });
    outputs = agrees.outputs;
    inputs = agrees.inputs;
    joins = λ q i par opened at. elim (opens q i opened) [
      | inl mine ↦ subst (λ (i : Join). agree.KeepsJoin m n i par) mine.1
          (this_join par (ap (λ (a : ℕ). slice_get m.pars a) (sym row)
          ∙ (ap (λ (i : Join). slice_get m.pars i.row) mine.1 ∙ at)))
      | inr other ↦ other_join q i par other.0 other.1 at
    ];
    counters = agrees.counters;
  }
