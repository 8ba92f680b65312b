-- What is at the ends that processes hold: links and channels with messages of the length that the holder of the end
-- knows.
use Rattle.std.proofs.Common.{◌≡◌, ℕ, zero, suc, ◌+◌, ◌-◌, ◌<◌, true, if◌then◌else◌, inl, inr}
use Rattle.std.proofs.Common.{Option, Some, None, refl, sym, ap, ◌∙◌, subst, arith}
use Rattle.std.proofs.lemmas.Bool.Decides.{leb_tells}
use Rattle.std.proofs.lemmas.Option.{slice_get_within}
use Rattle.std.specs.Prelude.{slice_get, nat_lt}
use Rattle.small_laws.proofs.Options.{same_some}
use Rattle.module_format.specs.Contents.{Contents, link_length}
use Rattle.module_format.specs.declared.rows.Direction.{Direction}
use Rattle.module_format.specs.declared.rows.Direction.TheVariants.{In, Out}
use Rattle.machine_state.specs.declared.holding.End.{End}
use Rattle.machine_state.specs.declared.process.Channel.{Channel}
use Rattle.machine_state.specs.declared.process.Condition.{Condition}
use Rattle.machine_state.specs.declared.process.Condition.TheVariants.{Sending, Receiving}
use Rattle.machine_state.specs.declared.process.Exchange.{Exchange}
use Rattle.machine_state.specs.declared.process.Task.{Task}
use Rattle.machine_state.specs.Memory.{place_of}
use Rattle.machine_state.specs.Holding.{Holding, nothing, has_end}
use Rattle.machine_state.specs.World.{World, Role, held, holding_at, link_word, input_word, output_word}
use Rattle.machine_state.specs.Moves.{cell_of}
use Rattle.machine_state.specs.Exchanges.{input_link, output_link}
use Rattle.machine_state.specs.Ownership.{IsWord}
use Rattle.machine_state.specs.Roles.{own_in, opened_in}
use Rattle.machine_state.specs.ChannelLaws.{WaitsTo}
use Rattle.rulings.specs.Meaning.{IsWellFormed}
use Rattle.certified_worlds.specs.Lives.{IsExchanging}
use Rattle.certified_worlds.specs.Point.{Began}
use Rattle.certified_worlds.specs.Invariant.{Holds, LengthAgrees, at_link, at_channel}
use Rattle.verifier.proofs.LawfulWorlds.{IsLawful}
use Rattle.verifier.proofs.SharedOut.{holds_own, none_open}
use Rattle.verifier.proofs.Tables.{row_of}
use Rattle.verifier.proofs.Tables.{Living, living}

-- ---- links

pub input_found : (k : ℕ) → k < 4 → input_link (input_word k) ≡ Some k
input_found zero few = refl
input_found (suc zero) few = refl
input_found (suc (suc zero)) few = refl
input_found (suc (suc (suc zero))) few = refl
input_found (suc (suc (suc (suc k)))) few = absurd (omega (arith, few))

pub output_found : (k : ℕ) → k < 4 → output_link (output_word k) ≡ Some k
output_found zero few = refl
output_found (suc zero) few = refl
output_found (suc (suc zero)) few = refl
output_found (suc (suc (suc zero))) few = refl
output_found (suc (suc (suc (suc k)))) few = absurd (omega (arith, few))

-- ---- addresses

-- two words with one number are one
pub same_address : (a b : ℕ) → IsWord a → IsWord b → cell_of a ≡ cell_of b → a ≡ b
unfolding place_of
same_address a b x y same = omega (arith, same, x.0, x.1, y.0, y.1)

-- ---- what is there

-- at an end, where messages have `len` bytes
pub data AtEnd (m : Contents) (w : World) (e : End) (len : ℕ) : Type 0 where
  an_input : (k : ℕ) → k < 4 → e.address ≡ input_word k → e.direction ≡ In → link_length m (4 + k) ≡ len
      → AtEnd m w e len
  an_output : (k : ℕ) → k < 4 → e.address ≡ output_word k → e.direction ≡ Out → link_length m k ≡ len
      → AtEnd m w e len
  a_channel : (c : Channel) → slice_get w.channels (cell_of e.address) ≡ Some (Some c) → c.length ≡ len
      → IsWord e.address → AtEnd m w e len

-- A process that waits on an internal channel: it holds that end, is recorded there, and its message is as long as
-- those of the channel.
pub record Partner (w : World) (q : ℕ) (direction : Direction) (e : Exchange) : Type 0 where
  pub channel : Channel
  pub here : slice_get w.channels (cell_of e.channel) ≡ Some (Some channel)
  pub waiting : channel.waiting ≡ Some q
  pub end : has_end (holding_at w.roles q) (record { address = e.channel; direction = direction }) ≡ true
  pub len : channel.length ≡ e.length
  pub word : IsWord e.channel

module _ (m : Contents) (wf : IsWellFormed m) (w : World) (lawful : IsLawful m w) (h : Holds m w) where
  -- a channel lies in a data word
  inside : (k : ℕ) (c : Channel) → slice_get w.channels k ≡ Some (Some c) → k < m.data_words
  inside k c here =
      let low = slice_get_within w.channels k (Some c) here in
      let size = lawful.stands.size in
      omega arith

  -- the word of a link is no data word
  pub no_cell : (k address : ℕ) (c : Channel) → k < 8 → address ≡ link_word k
      → slice_get w.channels (cell_of address) ≡ Some (Some c) → ⊥
  unfolding place_of
  no_cell k address c few is here =
      let low = inside (cell_of address) c here in
      let words = wf.few_words in
      omega (arith, low, is)

  pub holding_is : (p : ℕ) (role : Role) → slice_get w.roles p ≡ Some role → holding_at w.roles p ≡ held role
  holding_is p role here =
      ap (λ (o : Option Role). elim o as (λ o. Holding) [ None ↦ nothing | Some role ↦ held role ]) here

  own_is : (p : ℕ) (role : Role) → slice_get w.roles p ≡ Some role → own_in w.roles p ≡ role.own
  own_is p role here =
      ap (λ (o : Option Role). elim o as (λ o. Holding) [ None ↦ nothing | Some role ↦ role.own ]) here

  -- the end of a channel is at a word
  word_at : (p : ℕ) (role : Role) (e : End) (c : Channel) → slice_get w.roles p ≡ Some role
      → has_end role.own e ≡ true → slice_get w.channels (cell_of e.address) ≡ Some (Some c) → IsWord e.address
  word_at p role e c here own there =
      elim (lawful.stands.holders.ends p e
      (subst (λ (g : Holding). has_end g e ≡ true) (sym (own_is p role here)) own)) [
        | inl far ↦ let low = inside (cell_of e.address) c there in absurd (omega (arith, low, far))
        | inr near ↦ near.1
      ]

  pub at_end : (p : ℕ) (role : Role) (start : Began) (e : End) → slice_get w.roles p ≡ Some role
      → slice_get h.began p ≡ Some start → has_end role.own e ≡ true
      → AtEnd m w e (start.layout.lengths e.address)
  at_end p role start e has_role has_start own = on (h.lengths p role start e has_role has_start own)
    where
      on_link : (k : ℕ) → k < 8 → e ≡ record { address = link_word k; direction = if nat_lt k 4 then Out else In }
          → link_length m k ≡ start.layout.lengths e.address → AtEnd m w e (start.layout.lengths e.address)
      on_link k few is len = elim (leb_tells (suc k) 4) [
        | inl low ↦ an_output k (omega (arith, low.1)) (ap (λ (e : End). e.address) is)
            (ap (λ (e : End). e.direction) is ∙ ap (λ b. if b then Out else In) low.0) len
        | inr high ↦
            let n : 4 + (k - 4) ≡ k = omega (arith, high.1) in
            let word : link_word k ≡ input_word (k - 4) = omega (arith, high.1) in
            an_input (k - 4) (omega (arith, few, high.1)) (ap (λ (e : End). e.address) is ∙ word)
            (ap (λ (e : End). e.direction) is ∙ ap (λ b. if b then Out else In) high.0) (ap (link_length m) n ∙ len)
      ]

      on : LengthAgrees m w.channels start e → AtEnd m w e (start.layout.lengths e.address)
      on (at_link k few is len) = on_link k few is len
      on (at_channel c here len) = a_channel c here len (word_at p role e c has_role own here)

  -- ---- processes that wait

  waits_exchanging : (direction : Direction) (c : Condition) (e : Exchange) → WaitsTo direction c e → IsExchanging c e
  waits_exchanging In c e is = inr is
  waits_exchanging Out c e is = inl is

  is_alive : (direction : Direction) (c : Condition) (e : Exchange) → WaitsTo direction c e
      → (p : ℕ) (t : Task) → slice_get w.tasks p ≡ Some t → t.condition ≡ c
      → Living m w h p t
  is_alive In c e is p t here same = living m w h p t (Receiving e) here (same ∙ is) (λ e. cc) (λ e. cc)
  is_alive Out c e is p t here same = living m w h p t (Sending e) here (same ∙ is) (λ e. cc) (λ e. cc)

  -- a process that waits for a message has no join open
  waits_with_none : (direction : Direction) (c : Condition) (e : Exchange) → WaitsTo direction c e → (q : ℕ) (t : Task)
      → slice_get w.tasks q ≡ Some t → t.condition ≡ c → opened_in w.roles q ≡ None
  waits_with_none In c e is q t here same = none_open lawful.starters.openers q t here
      (λ ended. let no' = sym is ∙ (sym same ∙ ended) in cc)
      (λ starting ready. let no' = sym is ∙ (sym same ∙ ready) in cc)
  waits_with_none Out c e is q t here same = none_open lawful.starters.openers q t here
      (λ ended. let no' = sym is ∙ (sym same ∙ ended) in cc)
      (λ starting ready. let no' = sym is ∙ (sym same ∙ ready) in cc)

  pub partner : (q : ℕ) (t : Task) (direction : Direction) (e : Exchange) → slice_get w.tasks q ≡ Some t
      → WaitsTo direction t.condition e → Partner w q direction e
  partner q t direction e here waits = on (at_end q (row_of r).role (row_of r).start _ (row_of r).has_role
      (row_of r).has_start own)
    where
      r : Living m w h q t
      r = is_alive direction t.condition e waits q t here refl

      own : has_end (row_of r).role.own (record { address = e.channel; direction = direction }) ≡ true
      own = subst (λ (g : Holding). has_end g (record { address = e.channel; direction = direction }) ≡ true)
          (holding_is q (row_of r).role (row_of r).has_role
          ∙ holds_own w.roles q (row_of r).role (row_of r).has_role
          (waits_with_none direction t.condition e waits q t here refl))
          (lawful.recorded q t direction e here waits).end

      on : AtEnd m w (record { address = e.channel; direction = direction }) ((row_of r).start.layout.lengths e.channel)
          → Partner w q direction e
      on (an_input k few is in_ len) =
          let told = lawful.recorded q t direction e here waits in
          absurd (no_cell (4 + k) e.channel told.channel (omega (arith, few)) (omega (arith, is)) told.here)
      on (an_output k few is out len) =
          let told = lawful.recorded q t direction e here waits in
          absurd (no_cell k e.channel told.channel (omega (arith, few)) is told.here)
      on (a_channel c there len word) =
          let told = lawful.recorded q t direction e here waits in
          let one : Some told.channel ≡ Some c =
          same_some (slice_get w.channels (cell_of e.channel)) (Some told.channel) (Some c) told.here there in
          let same : told.channel ≡ c = cc in
          record {
            channel = told.channel;
            here = told.here;
            waiting = told.waiting;
            end = told.end;
            len = ap (λ (c : Channel). c.length) same ∙ len
                ∙ sym (r.lives.known_length e (waits_exchanging direction t.condition e waits));
            word = word;
          }
