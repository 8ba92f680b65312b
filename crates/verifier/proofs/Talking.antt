-- What a process comes to that wants a message: it is never at fault, and whichever way its turn ends the invariant
-- holds.
use Rattle.std.proofs.Common.{◌≡◌, ◌≢◌, ℕ, suc, ◌+◌, true, false, inl, inr, length}
use Rattle.std.proofs.Common.{Option, Some, None, refl, sym, ap, ◌∙◌, subst, arith}
use Rattle.std.proofs.lemmas.Bool.Decides.{leb_tells}
use Rattle.std.specs.Prelude.{slice_get, nat_lt}
use Rattle.std.proofs.lemmas.Bool.{eqb-false}
use Rattle.small_laws.proofs.Options.{same_some}
use Rattle.module_format.specs.Contents.{Contents, link_length}
use Rattle.module_format.specs.declared.rows.Direction.{Direction}
use Rattle.module_format.specs.declared.rows.Direction.TheVariants.{In, Out}
use Rattle.machine_state.specs.declared.fault.FaultKind.{FaultKind}
use Rattle.machine_state.specs.declared.process.Channel.{Channel}
use Rattle.machine_state.specs.declared.process.Condition.{Condition}
use Rattle.machine_state.specs.declared.process.Condition.TheVariants.{Ready, Sending, Receiving}
use Rattle.machine_state.specs.declared.process.Exchange.{Exchange}
use Rattle.machine_state.specs.declared.process.Task.{Task}
use Rattle.machine_state.specs.Holding.{Holding, has_end}
use Rattle.machine_state.specs.Roles.{opened_in}
use Rattle.machine_state.specs.World.{World, held, holding_at, input_word, output_word}
use Rattle.machine_state.specs.Moves.{cell_of, channel_at}
use Rattle.machine_state.specs.Site.{Local, receives, sends}
use Rattle.machine_state.specs.Turn.{at_here}
use Rattle.machine_state.specs.Exchanges.{input_link, output_link, condition_of}
use Rattle.machine_state.specs.ChannelLaws.{WaitsAt, WaitsTo}
use Rattle.machine_state.specs.Endings.{Refused, no_code_follows, no_channel, no_link, receives_nowhere}
use Rattle.machine_state.specs.Endings.{receives_from_no_sender, receives_other_length, receives_other_than_link}
use Rattle.machine_state.specs.Endings.{sends_nowhere, sends_to_no_receiver, sends_other_length, sends_other_than_link}
use Rattle.machine_state.proofs.Changes.{channel_there}
use Rattle.machine_state.proofs.Lines.{got_within}
use Rattle.machine_state.proofs.Waiting.{link_found, link_low}
use Rattle.machine_state.proofs.WhoWaitsOnLinks.{one_holds}
use Rattle.rulings.specs.Meaning.{IsWellFormed}
use Rattle.certified_worlds.specs.Invariant.{Holds}
use Rattle.verifier.proofs.LawfulWorlds.{IsLawful}
use Rattle.certified_worlds.proofs.Steps.{Talks}
use Rattle.verifier.proofs.SharedOut.{holds_own}
use Rattle.verifier.proofs.Tables.{row_of}
use Rattle.verifier.proofs.Tables.{Living}
use Rattle.verifier.proofs.Sources.{AtEnd, an_input, an_output, a_channel, Partner, partner, no_cell, at_end}
use Rattle.verifier.proofs.Sources.{holding_is, same_address, input_found, output_found}

-- a channel that is found is there, and one that is there is found
pub at_found : (w : World) (address : ℕ) (c : Channel) → slice_get w.channels (cell_of address) ≡ Some (Some c)
    → channel_at w address ≡ Some c
at_found w address c there =
    ap (λ (o : Option (Option Channel)). elim o as (λ o. Option Channel) [ None ↦ None | Some cell ↦ cell ]) there

-- a process that wants something has a task
pub wants_it : (w : World) (q : ℕ) (c : Condition) → condition_of w q ≡ c → (c ≡ Ready → ⊥)
    → (t : Task) × (slice_get w.tasks q ≡ Some t) × (t.condition ≡ c)
wants_it w q c is waits = on (slice_get w.tasks q) refl is
  where
    on : (o : Option Task) → slice_get w.tasks q ≡ o
        → elim o as (λ o. Condition) [ None ↦ Ready | Some task ↦ task.condition ] ≡ c
        → (t : Task) × (slice_get w.tasks q ≡ Some t) × (t.condition ≡ c)
    on None here same = absurd (waits (sym same))
    on (Some t) here same = (t, here, same)

condition_is : (w : World) (q : ℕ) (t : Task) → slice_get w.tasks q ≡ Some t → condition_of w q ≡ t.condition
condition_is w q t here =
    ap (λ (o : Option Task). elim o as (λ o. Condition) [ None ↦ Ready | Some task ↦ task.condition ]) here

module _ (m : Contents) (wf : IsWellFormed m) (w : World) (lawful : IsLawful m w) (h : Holds m w) (p : ℕ) (t : Task)
    (ready : t.condition ≡ Ready) (r : Living m w h p t)
    (unopened : opened_in w.roles p ≡ None) where
  -- what is at the end over which it wants a message
  pub there : {direction : Direction} {e : Exchange} → Talks m (held (row_of r).role) (row_of r).start t direction e
      → AtEnd m w (record { address = e.channel; direction = direction }) e.length
  there {direction} {e} talks =
      subst (λ n. AtEnd m w (record { address = e.channel; direction = direction }) n) (sym talks.len)
      (at_end m wf w lawful h p (row_of r).role (row_of r).start _ (row_of r).has_role (row_of r).has_start
      (subst (λ (g : Holding). has_end g (record { address = e.channel; direction = direction }) ≡ true)
      (holds_own w.roles p (row_of r).role (row_of r).has_role unopened) talks.end))

  -- a process that waits is another one
  pub another : (q : ℕ) (u : Task) (c : Condition) → slice_get w.tasks q ≡ Some u → u.condition ≡ c → (c ≡ Ready → ⊥)
      → p ≢ q
  another q u c here is waits same =
      let one = same_some (slice_get w.tasks q) t u (subst (λ n. slice_get w.tasks n ≡ Some t) same r.here) here in
      waits (sym is ∙ ap (λ (t : Task). t.condition) (sym one) ∙ ready)

  waits_still : (direction : Direction) (c : Condition) (e : Exchange) → WaitsTo direction c e → c ≡ Ready → ⊥
  waits_still In c e is ready = let no' : Receiving e ≡ Ready = sym is ∙ ready in cc
  waits_still Out c e is ready = let no' : Sending e ≡ Ready = sym is ∙ ready in cc

  -- no other process waits for the same on the channel of a message
  alone_there : {direction : Direction} {e : Exchange} (q : ℕ) (u : Task) (x : Exchange) (c : Channel)
      → Talks m (held (row_of r).role) (row_of r).start t direction e
      → slice_get w.channels (cell_of e.channel) ≡ Some (Some c) → cell_of x.channel ≡ cell_of e.channel
      → slice_get w.tasks q ≡ Some u → WaitsTo direction u.condition x → ⊥
  alone_there {direction} {e} q u x c talks at cell here waits = on (there talks)
    where
      theirs : Partner w q direction x
      theirs = partner m wf w lawful h q u direction x here waits

      on : AtEnd m w (record { address = e.channel; direction = direction }) e.length → ⊥
      on (an_input k few is in_ len) = no_cell m wf w lawful h (4 + k) e.channel c (omega (arith, few))
          (omega (arith, is)) at
      on (an_output k few is out len) = no_cell m wf w lawful h k e.channel c (omega (arith, few)) is at
      on (a_channel d found len word) =
          let same : x.channel ≡ e.channel = same_address x.channel e.channel theirs.word word cell in
          one_holds w lawful.apart p q (record { address = e.channel; direction = direction })
          (another q u u.condition here refl (waits_still direction u.condition x waits))
          (subst (λ (g : Holding). has_end g (record { address = e.channel; direction = direction }) ≡ true)
          (sym (holding_is m wf w lawful h p (row_of r).role (row_of r).has_role)) talks.end)
          (subst (λ a. has_end (holding_at w.roles q) (record { address = a; direction = direction }) ≡ true) same
          theirs.end)

  -- the messages of both are as long as those of the channel
  same_length : {direction : Direction} {e : Exchange} (other : Direction) (q : ℕ) (u : Task) (x : Exchange)
      (c : Channel)
      → Talks m (held (row_of r).role) (row_of r).start t direction e
      → slice_get w.channels (cell_of e.channel) ≡ Some (Some c) → cell_of x.channel ≡ cell_of e.channel
      → slice_get w.tasks q ≡ Some u → WaitsTo other u.condition x → x.length ≡ e.length
  same_length {direction} {e} other q u x c talks at cell here waits = on (there talks)
    where
      theirs : Partner w q other x
      theirs = partner m wf w lawful h q u other x here waits

      on : AtEnd m w (record { address = e.channel; direction = direction }) e.length → x.length ≡ e.length
      on (an_input k few is in_ len) =
          absurd (no_cell m wf w lawful h (4 + k) e.channel c (omega (arith, few)) (omega (arith, is)) at)
      on (an_output k few is out len) = absurd (no_cell m wf w lawful h k e.channel c (omega (arith, few)) is at)
      on (a_channel d found len word) =
          let one : Some theirs.channel ≡ Some d = same_some (slice_get w.channels (cell_of e.channel))
          (Some theirs.channel) (Some d) (subst (λ n. slice_get w.channels n ≡ Some (Some theirs.channel)) cell
          theirs.here) found in
          let same : theirs.channel ≡ d = cc in
          sym theirs.len ∙ (ap (λ (c : Channel). c.length) same ∙ len)

  -- ---- no fault

  code_follows : {direction : Direction} {e : Exchange} → Talks m (held (row_of r).role) (row_of r).start t direction e
      → nat_lt (t.registers.at + 1) (length m.code) ≡ false → ⊥
  code_follows talks none = elim (leb_tells (suc (t.registers.at + 1)) (length m.code)) [
    | inl is ↦ let no' : true ≡ false = sym is.0 ∙ none in cc
    | inr is ↦ let low = talks.low in let high = is.1 in omega arith
  ]

  -- the process that waits at the cell of a channel
  waiter : (e : Exchange) (c : Channel) (q : ℕ) → channel_at w e.channel ≡ Some c → c.waiting ≡ Some q
      → WaitsAt w.tasks q (cell_of e.channel)
  waiter e c q at waiting = lawful.cells (cell_of e.channel) c q (channel_there w e.channel c at) waiting

  -- and what it waits for is a message over it
  pub over_it : (e x : Exchange) (q : ℕ) (u : Task) (direction : Direction) (c : Channel)
      → channel_at w e.channel ≡ Some c
      → c.waiting ≡ Some q → slice_get w.tasks q ≡ Some u → WaitsTo direction u.condition x
      → cell_of x.channel ≡ cell_of e.channel
  over_it e x q u direction c at waiting here wants = on direction wants (waiter e c q at waiting)
    where
      on : (direction : Direction) → WaitsTo direction u.condition x → WaitsAt w.tasks q (cell_of e.channel)
          → cell_of x.channel ≡ cell_of e.channel
      on In is v =
          let one = same_some (slice_get w.tasks q) v.task u v.here here in
          let now = ap (λ (t : Task). t.condition) one ∙ is in
          elim v.waits [
            | inl out ↦ let no' : Sending v.exchange ≡ Receiving x = sym out ∙ now in absurd (cc)
            | inr in_ ↦
                let both : Receiving v.exchange ≡ Receiving x = sym in_ ∙ now in
                let same : v.exchange ≡ x = cc in
                ap (λ (e : Exchange). cell_of e.channel) (sym same) ∙ v.at
          ]
      on Out is v =
          let one = same_some (slice_get w.tasks q) v.task u v.here here in
          let now = ap (λ (t : Task). t.condition) one ∙ is in
          elim v.waits [
            | inl out ↦
                let both : Sending v.exchange ≡ Sending x = sym out ∙ now in
                let same : v.exchange ≡ x = cc in
                ap (λ (e : Exchange). cell_of e.channel) (sym same) ∙ v.at
            | inr in_ ↦ let no' : Receiving v.exchange ≡ Sending x = sym in_ ∙ now in absurd (cc)
          ]

  pub never_in : {e : Exchange} {l : Local} {kind : FaultKind} (pick : ℕ)
      → Talks m (held (row_of r).role) (row_of r).start t In e → Refused (at_here m p t pick) w (receives e l) kind → ⊥
  never_in pick talks (no_code_follows needs none) = code_follows talks none
  never_in pick talks (receives_nowhere e l (no_channel outside none)) = on (there talks)
    where
      on : AtEnd m w (record { address = e.channel; direction = In }) e.length → ⊥
      on (an_input k few is in_ len) =
          let found : None ≡ Some k = sym outside ∙ (ap input_link is ∙ input_found k few) in cc
      on (an_output k few is out len) = cc
      on (a_channel c here len word) =
          let found : None ≡ Some c = sym none ∙ at_found w e.channel c here in cc
  never_in pick talks (receives_nowhere e l (no_link k found none)) =
      let few = link_low (input_word 0) e.channel k found in
      let some = got_within w.links.inputs k (let four = lawful.four.inputs in omega arith) in
      let no' : None ≡ Some some.0 = sym none ∙ some.1 in
      cc
  never_in pick talks (receives_from_no_sender e l c q outside at waiting none) =
      let v = waiter e c q at waiting in
      elim v.waits [
        | inl out ↦ none v.exchange (condition_is w q v.task v.here ∙ out)
        | inr in_ ↦
            alone_there {direction = In} {e = e} q v.task v.exchange c talks (channel_there w e.channel c at) v.at
            v.here in_
      ]
  never_in pick talks (receives_other_length e l c q sent outside at waiting is differ) =
      let u = wants_it w q (Sending sent) is (λ e. cc) in
      eqb-false sent.length e.length differ (same_length {direction = In} {e = e} Out q u.0 sent c talks
      (channel_there w e.channel c at) (over_it e sent q u.0 Out c at waiting u.1 u.2) u.1 u.2)
  never_in pick talks (receives_other_than_link e l k link found here differ) = on (there talks)
    where
      on : AtEnd m w (record { address = e.channel; direction = In }) e.length → ⊥
      on (an_input n few is in_ len) =
          let at = link_found (input_word 0) e.channel k found in
          let same : n ≡ k = omega (arith, at, is) in
          eqb-false (link_length m (4 + k)) e.length differ (ap (λ n. link_length m (4 + n)) (sym same) ∙ len)
      on (an_output n few is out len) = cc
      on (a_channel c there len word) =
          let low = link_low (input_word 0) e.channel k found in
          let at = link_found (input_word 0) e.channel k found in
          no_cell m wf w lawful h (4 + k) e.channel c (omega (arith, low)) (omega (arith, at)) there

  pub never_out : {e : Exchange} {l : Local} {kind : FaultKind} (pick : ℕ)
      → Talks m (held (row_of r).role) (row_of r).start t Out e → Refused (at_here m p t pick) w (sends e l) kind → ⊥
  never_out pick talks (no_code_follows needs none) = code_follows talks none
  never_out pick talks (sends_nowhere e l outside none) = on (there talks)
    where
      on : AtEnd m w (record { address = e.channel; direction = Out }) e.length → ⊥
      on (an_input k few is in_ len) = cc
      on (an_output k few is out len) =
          let found : None ≡ Some k = sym outside ∙ (ap output_link is ∙ output_found k few) in cc
      on (a_channel c here len word) =
          let found : None ≡ Some c = sym none ∙ at_found w e.channel c here in cc
  never_out pick talks (sends_to_no_receiver e l c q outside at waiting none) =
      let v = waiter e c q at waiting in
      elim v.waits [
        | inl out ↦
            alone_there {direction = Out} {e = e} q v.task v.exchange c talks (channel_there w e.channel c at) v.at
            v.here out
        | inr in_ ↦ none v.exchange (condition_is w q v.task v.here ∙ in_)
      ]
  never_out pick talks (sends_other_length e l c q wanted outside at waiting is differ) =
      let u = wants_it w q (Receiving wanted) is (λ e. cc) in
      eqb-false wanted.length e.length differ (same_length {direction = Out} {e = e} In q u.0 wanted c talks
      (channel_there w e.channel c at) (over_it e wanted q u.0 In c at waiting u.1 u.2) u.1 u.2)
  never_out pick talks (sends_other_than_link e l k found differ) = on (there talks)
    where
      on : AtEnd m w (record { address = e.channel; direction = Out }) e.length → ⊥
      on (an_input n few is in_ len) = cc
      on (an_output n few is out len) =
          let at = link_found (output_word 0) e.channel k found in
          let same : n ≡ k = omega (arith, at, is) in
          eqb-false (link_length m k) e.length differ (ap (link_length m) (sym same) ∙ len)
      on (a_channel c there len word) =
          let low = link_low (output_word 0) e.channel k found in
          let at = link_found (output_word 0) e.channel k found in
          no_cell m wf w lawful h k e.channel c (omega (arith, low)) (omega (arith, at)) there
