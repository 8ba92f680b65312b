-- No process waits for messages in two places, and no two processes wait in one.
use Rattle.std.proofs.Common.{◌≡◌, ℕ, inl, inr, Option, Some, None, refl, sym, ap, ◌∙◌, subst, slice_get}
use Rattle.std.proofs.Common.{List, arith}
use Rattle.small_laws.proofs.Options.{same_some}
use Rattle.machine_state.specs.declared.link.InputLink.{InputLink}
use Rattle.machine_state.specs.declared.link.OutputLink.{OutputLink}
use Rattle.machine_state.specs.declared.process.Channel.{Channel}
use Rattle.machine_state.specs.declared.process.Task.{Task}
use Rattle.machine_state.specs.declared.process.Exchange.{Exchange}
use Rattle.machine_state.specs.declared.process.Condition.TheVariants.{Sending, Receiving, OnLink}
use Rattle.machine_state.specs.World.{World, input_word, output_word}
use Rattle.machine_state.specs.Moves.{cell_of}
use Rattle.machine_state.specs.Waiting.{WaitsOn}
use Rattle.machine_state.specs.ChannelLaws.{WaitsAt, HaveTheirWaiters}
use Rattle.machine_state.specs.LinkLaws.{IsAtLink, at_input, at_output}
use Rattle.machine_state.specs.WaitingOnce.{Post, a_cell, an_input, an_output, recorded_at, NobodyWaitsTwice}
use Rattle.machine_state.specs.WaitingOnce.{NoTwoWaitTogether}
use Rattle.machine_state.specs.Happens.{world_after}
use Rattle.machine_state.proofs.Lines.{told_in}
use Rattle.machine_state.proofs.Waiting.{WaitsIn, reached, same_link, low_output}
use Rattle.machine_state.proofs.ChannelWaiters.{waits_once, channels_have_their_waiters}
use Rattle.machine_state.proofs.WhoWaits.{who_waits_is_recorded}
use Rattle.machine_state.proofs.WhoWaitsOnLinks.{who_waits_on_links_is_recorded}

-- what is where a process is recorded
cell_there : (w : World) (k p : ℕ) → recorded_at w (a_cell k) ≡ Some p
    → (c : Channel) × (slice_get w.channels k ≡ Some (Some c)) × (c.waiting ≡ Some p)
cell_there w k p is = on (slice_get w.channels k) refl is
  where
    on : (o : Option (Option Channel)) → slice_get w.channels k ≡ o → elim o as (λ o. Option ℕ) [
      | None ↦ None
      | Some cell ↦ elim cell as (λ c. Option ℕ) [ None ↦ None | Some channel ↦ channel.waiting ]
    ] ≡ Some p → (c : Channel) × (slice_get w.channels k ≡ Some (Some c)) × (c.waiting ≡ Some p)
    on None here is = absurd (cc)
    on (Some None) here is = absurd (cc)
    on (Some (Some c)) here is = (c, here, is)

input_there : (w : World) (k p : ℕ) → recorded_at w (an_input k) ≡ Some p
    → (l : InputLink) × (slice_get w.links.inputs k ≡ Some l) × (l.waiting ≡ Some p)
input_there w k p is = told_in (λ (l : InputLink). l.waiting) w.links.inputs k p is

output_there : (w : World) (k p : ℕ) → recorded_at w (an_output k) ≡ Some p
    → (l : OutputLink) × (slice_get w.links.outputs k ≡ Some l) × (l.waiting ≡ Some p)
output_there w k p is = told_in (λ (l : OutputLink). l.waiting) w.links.outputs k p is

-- who waits on a channel does not wait on a link
not_both : (w : World) (p k word : ℕ) → WaitsAt w.tasks p k → WaitsOn w.tasks p word → ⊥
not_both w p k word x y =
    let same = ap (λ (t : Task). t.condition) (same_some (slice_get w.tasks p) x.task y.task x.here y.here) in
    elim x.waits [
      | inl sends ↦ let z : Sending x.exchange ≡ OnLink y.exchange y.done = sym sends ∙ (same ∙ y.waits) in cc
      | inr receives ↦
          let z : Receiving x.exchange ≡ OnLink y.exchange y.done = sym receives ∙ (same ∙ y.waits) in cc
    ]

module _ (w : World) (keeps : WaitsIn w) (waiters : HaveTheirWaiters w.tasks w.channels) where
  at_cell : (k p : ℕ) → recorded_at w (a_cell k) ≡ Some p → WaitsAt w.tasks p k
  at_cell k p is = let c = cell_there w k p is in waiters k c.0 p c.1 c.2

  on_input : (k p : ℕ) → recorded_at w (an_input k) ≡ Some p → WaitsOn w.tasks p (input_word k)
  on_input k p is = let l = input_there w k p is in keeps.rest.waiters.inputs k l.0 p l.1 l.2

  on_output : (k p : ℕ) → recorded_at w (an_output k) ≡ Some p → WaitsOn w.tasks p (output_word k)
  on_output k p is = let l = output_there w k p is in keeps.rest.waiters.outputs k l.0 p l.1 l.2

  either_side : (k n p : ℕ) → recorded_at w (an_input k) ≡ Some p → recorded_at w (an_output n) ≡ Some p → ⊥
  either_side k n p one two =
      let l = output_there w n p two in
      let low = low_output w keeps n l.0 l.1 in
      let same = same_link w.tasks p (input_word k) (output_word n) (on_input k p one) (on_output n p two) in
      omega (arith, low, same)

  waits_in_one : (p : ℕ) (a b : Post) → recorded_at w a ≡ Some p → recorded_at w b ≡ Some p → a ≡ b
  waits_in_one p (a_cell k) (a_cell n) one two =
      ap a_cell (waits_once w.tasks p k n (at_cell k p one) (at_cell n p two))
  waits_in_one p (a_cell k) (an_input n) one two =
      absurd (not_both w p k (input_word n) (at_cell k p one) (on_input n p two))
  waits_in_one p (a_cell k) (an_output n) one two =
      absurd (not_both w p k (output_word n) (at_cell k p one) (on_output n p two))
  waits_in_one p (an_input k) (a_cell n) one two =
      absurd (not_both w p n (input_word k) (at_cell n p two) (on_input k p one))
  waits_in_one p (an_input k) (an_input n) one two =
      let same = same_link w.tasks p (input_word k) (input_word n) (on_input k p one) (on_input n p two) in
      ap an_input (omega (arith, same))
  waits_in_one p (an_input k) (an_output n) one two = absurd (either_side k n p one two)
  waits_in_one p (an_output k) (a_cell n) one two =
      absurd (not_both w p n (output_word k) (at_cell n p two) (on_output k p one))
  waits_in_one p (an_output k) (an_input n) one two = absurd (either_side n k p two one)
  waits_in_one p (an_output k) (an_output n) one two =
      let same = same_link w.tasks p (output_word k) (output_word n) (on_output k p one) (on_output n p two) in
      ap an_output (omega (arith, same))

pub nobody_waits_twice : NobodyWaitsTwice
nobody_waits_twice m es =
    waits_in_one (world_after m es) (reached m es) (channels_have_their_waiters m es)

-- two that are recorded at one link
one_waiter : {A : Type 0} (waiting : A → Option ℕ) (links : List A) (k n p q : ℕ) (l x : A) → k ≡ n
    → slice_get links k ≡ Some l → slice_get links n ≡ Some x → waiting l ≡ Some p → waiting x ≡ Some q → p ≡ q
one_waiter waiting links k n p q l x number here there one two =
    let link = same_some (slice_get links n) l x (subst (λ i. slice_get links i ≡ Some l) number here) there in
    same_some (waiting l) p q one (ap waiting link ∙ two)

linked_once : (w : World) → WaitsIn w → (p q : ℕ) (e f : Exchange) → e.channel ≡ f.channel
    → IsAtLink w.roles w.links p e → IsAtLink w.roles w.links q f → p ≡ q
linked_once w keeps p q e f same (at_input k l here waiting word end) (at_input n x there other words ends) =
    one_waiter (λ (y : InputLink). y.waiting) w.links.inputs k n p q l x (omega (arith, word, same, words)) here there
    waiting other
linked_once w keeps p q e f same (at_output k l here waiting word end) (at_output n x there other words ends) =
    one_waiter (λ (y : OutputLink). y.waiting) w.links.outputs k n p q l x (omega (arith, word, same, words)) here there
    waiting other
linked_once w keeps p q e f same (at_input k l here waiting word end) (at_output n x there other words ends) =
    absurd (let low = low_output w keeps n x there in omega (arith, low, word, same, words))
linked_once w keeps p q e f same (at_output k l here waiting word end) (at_input n x there other words ends) =
    absurd (let low = low_output w keeps k l here in omega (arith, low, word, same, words))

pub no_two_wait_together : NoTwoWaitTogether
no_two_wait_together m es format =
    let w = world_after m es in
    let recorded = who_waits_is_recorded m es format in
    let linked = who_waits_on_links_is_recorded m es format in
    record {
      on_channels = λ p q t u d g e f here there waits other cell.
          let x = recorded p t d e here waits in
          let y = recorded q u g f there other in
          let one : Some x.channel ≡ Some y.channel =
          same_some (slice_get w.channels (cell_of f.channel)) (Some x.channel) (Some y.channel)
          (subst (λ n. slice_get w.channels n ≡ Some (Some x.channel)) cell x.here) y.here in
          let same : x.channel ≡ y.channel = cc in
          same_some x.channel.waiting p q x.waiting (ap (λ (c : Channel). c.waiting) same ∙ y.waiting);
      on_links = λ p q t u e f i j here there waits other word.
          linked_once w (reached m es) p q e f word (linked p t e i here waits) (linked q u f j there other);
    }
