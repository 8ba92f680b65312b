-- What a process has enabled, by its address: a channel or an input link, and what becomes of it where it is enabled or
-- disabled.
use Rattle.std.proofs.Common.{◌≡◌, ◌≢◌, ◌⊎◌, ℕ, ◌+◌, ◌<◌, Bool, true, false, is_some, inl, inr, List, Option}
use Rattle.std.proofs.Common.{Some, refl, sym, ap, ◌∙◌, subst, arith}
use Rattle.std.proofs.lemmas.Bool.{cases_eq}
use Rattle.std.proofs.lemmas.Option.{slice_get_within}
use Rattle.std.specs.Prelude.{slice_get, slice_set}
use Rattle.small_laws.proofs.Options.{same_some}
use Rattle.module_format.specs.Contents.{Contents}
use Rattle.module_format.specs.declared.rows.Direction.TheVariants.{In}
use Rattle.machine_state.specs.declared.link.InputLink.{InputLink}
use Rattle.machine_state.specs.declared.process.Channel.{Channel}
use Rattle.machine_state.specs.declared.process.Condition.TheVariants.{Ready, Receiving}
use Rattle.machine_state.specs.declared.process.Exchange.{Exchange}
use Rattle.machine_state.specs.declared.process.Task.{Task}
use Rattle.machine_state.specs.Alternations.{Source}
use Rattle.machine_state.specs.EnabledLaws.{HasEnabled, a_channel as has_channel, a_link as has_link, HasReady}
use Rattle.machine_state.specs.EnabledLaws.{a_sender, a_byte, IsSending}
use Rattle.machine_state.specs.Endings.{IsSource, on_channel, on_link}
use Rattle.machine_state.specs.Holding.{has_end}
use Rattle.machine_state.specs.Moves.{cell_of, channel_at}
use Rattle.machine_state.specs.Ownership.{IsWord}
use Rattle.machine_state.specs.World.{World, holding_at, input_word}
use Rattle.machine_state.proofs.Changes.{channel_there}
use Rattle.machine_state.proofs.EnabledIsHeld.{only_receiver, word_of}
use Rattle.machine_state.proofs.Lines.{got_set, got_other, set_either}
use Rattle.machine_state.proofs.Waiting.{link_found}
use Rattle.machine_state.proofs.WhoWaitsOnLinks.{one_holds}
use Rattle.rulings.specs.Meaning.{IsWellFormed}
use Rattle.certified_worlds.specs.Alternating.{EnablesAt, a_channel, a_link}
use Rattle.certified_worlds.specs.Invariant.{Holds}
use Rattle.verifier.proofs.LawfulWorlds.{IsLawful}
use Rattle.verifier.proofs.Sources.{same_address, no_cell}

-- what has something ready is enabled
pub ready_is_enabled : (w : World) (p : ℕ) → HasReady w.tasks w.channels w.links.inputs p
    → HasEnabled w.channels w.links.inputs p
ready_is_enabled w p (a_sender k c q sender e at is waiting there sends) = has_channel k c at is
ready_is_enabled w p (a_byte k link byte at is kept) = has_link k link at is

-- What is enabled at an address, and what is elsewhere, once this process has enabled that, or no process has.
pub record Sets (w after : World) (address p : ℕ) (is_ready : Bool) (enabled : Option ℕ) (by : Option ℕ) : Type 0 where
  pub here : EnablesAt after p address → by ≡ Some p
  pub there : by ≡ Some p → EnablesAt after p address
  pub fewer : (a : ℕ) → a ≢ address → EnablesAt after p a → EnablesAt w p a
  pub more : (a : ℕ) → a ≢ address → EnablesAt w p a → EnablesAt after p a
  pub ready : ((enabled ≡ Some p → ⊥) ⊎ (is_ready ≡ false)) → HasReady w.tasks w.channels w.links.inputs p
      → HasReady w.tasks after.channels after.links.inputs p

module _ (m : Contents) (wf : IsWellFormed m) (w : World) (lawful : IsLawful m w) (h : Holds m w) where
  -- what a process has enabled is at an address
  pub enables_somewhere : (p : ℕ) → HasEnabled w.channels w.links.inputs p → (address : ℕ) × EnablesAt w p address
  enables_somewhere p (has_channel k c here is) =
      let e = lawful.enabled.at_channels k c p here is in
      let there = subst (λ n. slice_get w.channels n ≡ Some (Some c)) (sym e.1) here in
      (e.0, a_channel (word_of m w lawful.stands p (record { address = e.0; direction = In }) c there e.2) c there is)
  enables_somewhere p (has_link k link here is) = (input_word k, a_link k link refl here is)

  -- a number of an input link
  few_links : (k : ℕ) (link : InputLink) → slice_get w.links.inputs k ≡ Some link → k < 4
  few_links k link here =
      let low = slice_get_within w.links.inputs k link here in
      let four = lawful.four.inputs in
      omega (arith, low, four)

  -- a data word is that of no link
  no_link_there : (address k : ℕ) (c : Channel) → slice_get w.channels (cell_of address) ≡ Some (Some c) → k < 4
      → address ≡ input_word k → ⊥
  no_link_there address k c here few is = no_cell m wf w lawful h (4 + k) address c (omega (arith, few)) (omega
      (arith, is)) here

  -- a process that has enabled a source has enabled what is at its address
  pub source_enables : (p address : ℕ) (s : Source) → has_end (holding_at w.roles p) (record {
    address = address;
    direction = In;
  }) ≡ true
      → IsSource w address s → (q : ℕ) → s.enabled ≡ Some q → EnablesAt w q address
  source_enables p address s held (on_channel c outside at) q is =
      let there = channel_there w address c at in
      a_channel (word_of m w lawful.stands p (record { address = address; direction = In }) c there held) c there is
  source_enables p address s held (on_link k link found here) q is =
      a_link k link (let at = link_found (input_word 0) address k found in omega (arith, at)) here is

  -- and what a process has enabled there is by it
  pub source_is_by : (p address : ℕ) (s : Source) → IsSource w address s → EnablesAt w p address → s.enabled ≡ Some p
  source_is_by p address s (on_channel c outside at) (a_channel word d here is) =
      let one : Some c ≡ Some d = same_some (slice_get w.channels (cell_of address)) (Some c) (Some d) (channel_there
      w address c at) here in
      let same : c ≡ d = cc in
      ap (λ (c : Channel). c.enabled) same ∙ is
  source_is_by p address s (on_channel c outside at) (a_link k link there here is) =
      absurd (no_link_there address k c (channel_there w address c at) (few_links k link here) there)
  source_is_by p address s (on_link k link found here) (a_channel word d there is) =
      let at = link_found (input_word 0) address k found in
      absurd (no_link_there address k d there (few_links k link here) (omega (arith, at)))
  source_is_by p address s (on_link k link found here) (a_link j other there at is) =
      let on = link_found (input_word 0) address k found in
      let same : j ≡ k = omega (arith, on, there) in
      ap (λ (l : InputLink). l.enabled) (same_some (slice_get w.links.inputs k) link other here
      (subst (λ n. slice_get w.links.inputs n ≡ Some other) same at)) ∙ is

  -- What is enabled at an end that a process holds to receive by is enabled by it.
  pub only_it : (p address : ℕ)
      → has_end (holding_at w.roles p) (record { address = address; direction = In }) ≡ true → (q : ℕ)
      → EnablesAt w q address → q ≡ p
  only_it p address held q enables =
      elim (cases_eq q p) [ inl same ↦ same | inr differ ↦ absurd (by_another enables differ) ]
    where
      by_another : EnablesAt w q address → q ≢ p → ⊥
      by_another (a_channel word c here is) differ =
          only_receiver m w lawful.stands lawful.apart lawful.enabled (cell_of address) q p address c here is refl held
          differ
      by_another (a_link k link at here is) differ =
          one_holds w lawful.apart q p (record { address = input_word k; direction = In }) differ
          (lawful.enabled.at_links k link q here is)
          (subst (λ a. has_end (holding_at w.roles p) (record { address = a; direction = In }) ≡ true) at held)

  -- A process that waits there, while this one is ready, is a sender.
  pub who_sends : (p address : ℕ) (t : Task)
      → has_end (holding_at w.roles p) (record { address = address; direction = In }) ≡ true
      → slice_get w.tasks p ≡ Some t → t.condition ≡ Ready → (c : Channel) → channel_at w address ≡ Some c → (q : ℕ)
      → c.waiting ≡ Some q → IsSending w.tasks q
  who_sends p address t held here ready c at q waiting =
      let there = channel_there w address c at in
      let v = lawful.cells (cell_of address) c q there waiting in
      elim v.waits [
        | inl sends ↦ record { task = v.task; here = v.here; exchange = v.exchange; sends = sends }
        | inr receives ↦ absurd (receiving v.task v.exchange v.here receives v.at)
      ]
    where
      receiving : (u : Task) (e : Exchange) → slice_get w.tasks q ≡ Some u → u.condition ≡ Receiving e
          → cell_of e.channel ≡ cell_of address → ⊥
      receiving u e stands receives cell =
          let there = channel_there w address c at in
          let end = (lawful.recorded q u In e stands receives).end in
          let mine = word_of m w lawful.stands p (record { address = address; direction = In }) c there held in
          let theirs = word_of m w lawful.stands q (record { address = e.channel; direction = In }) c
          (subst (λ n. slice_get w.channels n ≡ Some (Some c)) (sym cell) there) end in
          one_holds w lawful.apart p q (record { address = address; direction = In }) (λ it.
          let one = same_some (slice_get w.tasks q) t u (subst (λ n. slice_get w.tasks n ≡ Some t) it here) stands in
          let no' : Ready ≡ Receiving e = sym ready ∙ (ap (λ (x : Task). x.condition) one ∙ receives) in
          cc) held
          (subst (λ a. has_end (holding_at w.roles q) (record { address = a; direction = In }) ≡ true)
          (same_address e.channel address theirs mine cell) end)

  module _ (p address : ℕ) (held : has_end (holding_at w.roles p) (record { address = address; direction = In }) ≡ true)
      (by : Option ℕ) (after : World) where
    -- of a channel
    pub sets_channel : (c : Channel) → channel_at w address ≡ Some c
        → after.channels ≡ slice_set w.channels (cell_of address) (Some (record c { enabled = by }))
        → after.links.inputs ≡ w.links.inputs
        → Sets w after address p (is_some c.waiting) c.enabled by
    sets_channel c at cells inputs = record {
      here = here;
      there = λ is. a_channel word (record c { enabled = by }) set is;
      fewer = fewer;
      more = more;
      ready = ready;
    }
      where
        found : slice_get w.channels (cell_of address) ≡ Some (Some c)
        found = channel_there w address c at

        word : IsWord address
        word = word_of m w lawful.stands p (record { address = address; direction = In }) c found held

        set : slice_get after.channels (cell_of address) ≡ Some (Some (record c { enabled = by }))
        set = ap (λ (cells : List (Option Channel)). slice_get cells (cell_of address)) cells
            ∙ got_set w.channels (cell_of address) (Some c) (Some (record c { enabled = by })) found

        here : EnablesAt after p address → by ≡ Some p
        here (a_channel other d there is) =
            let one : Some (record c { enabled = by }) ≡ Some d = same_some (slice_get after.channels (cell_of
            address)) (Some (record c { enabled = by })) (Some d) set there in
            let same : (record c { enabled = by }) ≡ d = cc in
            ap (λ (c : Channel). c.enabled) same ∙ is
        here (a_link k link on there is) =
            let old = subst (λ (links : List InputLink). slice_get links k ≡ Some link) inputs there in
            absurd (no_link_there address k c found (few_links k link old) on)

        fewer : (a : ℕ) → a ≢ address → EnablesAt after p a → EnablesAt w p a
        fewer a differ (a_channel other d there is) =
            elim (set_either w.channels (cell_of address) (Some (record c { enabled = by })) (cell_of a) (Some d)
            (subst (λ (cells : List (Option Channel)). slice_get cells (cell_of a) ≡ Some (Some d)) cells there)) [
              | inl it ↦ absurd (differ (sym (same_address address a word other it.0)))
              | inr old ↦ a_channel other d old.1 is
            ]
        fewer a differ (a_link k link on there is) =
            a_link k link on (subst (λ (links : List InputLink). slice_get links k ≡ Some link) inputs there) is

        more : (a : ℕ) → a ≢ address → EnablesAt w p a → EnablesAt after p a
        more a differ (a_channel other d there is) =
            a_channel other d (ap (λ (cells : List (Option Channel)). slice_get cells (cell_of a)) cells
            ∙ (got_other w.channels (cell_of address) (cell_of a) (Some (record c { enabled = by }))
            (λ same. differ (sym (same_address address a word other same))) ∙ there)) is
        more a differ (a_link k link on there is) =
            a_link k link on (subst (λ (links : List InputLink). slice_get links k ≡ Some link) (sym inputs) there) is

        ready : ((c.enabled ≡ Some p → ⊥) ⊎ (is_some c.waiting ≡ false)) → HasReady w.tasks w.channels w.links.inputs p
            → HasReady w.tasks after.channels after.links.inputs p
        ready none (a_byte k link byte there is kept) =
            a_byte k link byte (subst (λ (links : List InputLink). slice_get links k ≡ Some link) (sym inputs) there)
            is kept
        ready none (a_sender k d q sender e there is waiting stands sends) = elim (cases_eq (cell_of address) k) [
          | inl same ↦
              let one : Some c ≡ Some d = same_some (slice_get w.channels k) (Some c) (Some d)
              (subst (λ n. slice_get w.channels n ≡ Some (Some c)) same found) there in
              let it : c ≡ d = cc in
              absurd (elim none [
                | inl other ↦ other (ap (λ (c : Channel). c.enabled) it ∙ is)
                | inr nobody ↦
                    let no' : true ≡ false = sym (ap is_some (ap (λ (c : Channel). c.waiting) it ∙ waiting))
                    ∙ nobody in cc
              ])
          | inr differ ↦ a_sender k d q sender e (ap (λ (cells : List (Option Channel)). slice_get cells k) cells
              ∙ (got_other w.channels (cell_of address) k (Some (record c { enabled = by })) differ
              ∙ there)) is waiting stands sends
        ]

    -- of an input link
    pub sets_link : (k : ℕ) (link : InputLink) → address ≡ input_word k → slice_get w.links.inputs k ≡ Some link
        → after.links.inputs ≡ slice_set w.links.inputs k (record link { enabled = by }) → after.channels ≡ w.channels
        → Sets w after address p (is_some link.kept) link.enabled by
    sets_link k link at found inputs cells = record {
      here = here;
      there = λ is. a_link k (record link { enabled = by }) at set is;
      fewer = fewer;
      more = more;
      ready = ready;
    }
      where
        set : slice_get after.links.inputs k ≡ Some (record link { enabled = by })
        set = ap (λ (links : List InputLink). slice_get links k) inputs
            ∙ got_set w.links.inputs k link (record link { enabled = by }) found

        here : EnablesAt after p address → by ≡ Some p
        here (a_channel other d there is) =
            absurd (no_link_there address k d
            (subst (λ (cells : List (Option Channel)). slice_get cells (cell_of address) ≡ Some (Some d)) cells there)
            (few_links k link found) at)
        here (a_link j other on there is) =
            let same : j ≡ k = omega (arith, on, at) in
            ap (λ (l : InputLink). l.enabled) (same_some (slice_get after.links.inputs k) (record link {
              enabled = by;
            }) other set
            (subst (λ n. slice_get after.links.inputs n ≡ Some other) same there)) ∙ is

        fewer : (a : ℕ) → a ≢ address → EnablesAt after p a → EnablesAt w p a
        fewer a differ (a_channel other d there is) =
            a_channel other d
            (subst (λ (cells : List (Option Channel)). slice_get cells (cell_of a) ≡ Some (Some d)) cells there) is
        fewer a differ (a_link j other on there is) =
            elim (set_either w.links.inputs k (record link { enabled = by }) j other
            (subst (λ (links : List InputLink). slice_get links j ≡ Some other) inputs there)) [
              | inl it ↦ absurd (differ (on ∙ (ap input_word (sym it.0) ∙ sym at)))
              | inr old ↦ a_link j other on old.1 is
            ]

        more : (a : ℕ) → a ≢ address → EnablesAt w p a → EnablesAt after p a
        more a differ (a_channel other d there is) =
            a_channel other d
            (subst (λ (cells : List (Option Channel)). slice_get cells (cell_of a) ≡ Some (Some d)) (sym cells)
            there) is
        more a differ (a_link j other on there is) =
            a_link j other on (ap (λ (links : List InputLink). slice_get links j) inputs
            ∙ (got_other w.links.inputs k j (record link { enabled = by }) (λ same. differ (on
            ∙ (ap input_word (sym same) ∙ sym at))) ∙ there)) is

        ready : ((link.enabled ≡ Some p → ⊥) ⊎ (is_some link.kept ≡ false))
            → HasReady w.tasks w.channels w.links.inputs p
            → HasReady w.tasks after.channels after.links.inputs p
        ready none (a_sender j d q sender e there is waiting stands sends) =
            a_sender j d q sender e
            (subst (λ (cells : List (Option Channel)). slice_get cells j ≡ Some (Some d)) (sym cells) there) is
            waiting stands
            sends
        ready none (a_byte j other byte there is kept) = elim (cases_eq k j) [
          | inl same ↦
              let it = same_some (slice_get w.links.inputs j) link other
              (subst (λ n. slice_get w.links.inputs n ≡ Some link) same found) there in
              absurd (elim none [
                | inl enabled ↦ enabled (ap (λ (l : InputLink). l.enabled) it ∙ is)
                | inr nothing ↦
                    let no' : true ≡ false = sym (ap is_some (ap (λ (l : InputLink). l.kept) it ∙ kept)) ∙ nothing in cc
              ])
          | inr differ ↦ a_byte j other byte (ap (λ (links : List InputLink). slice_get links j) inputs
              ∙ (got_other w.links.inputs k j (record link { enabled = by }) differ ∙ there)) is kept
        ]
