use Rattle.std.proofs.Common.{◌≡◌, ◌+◌, ◌++◌, ◌∷◌, [], ◌||◌, Bool, List, sym, ap, ◌∙◌, arith, rules, map, drop, pos}
use Rattle.std.proofs.Common.{get_or}
use Rattle.std.proofs.lemmas.Bool.{not-true, not-false}
use Rattle.module_format.specs.declared.rows.ChannelRow.{ChannelRow}
use Rattle.machine_state.specs.declared.holding.End.{End}
use Rattle.machine_state.specs.BranchShares.{frame_address}
use Rattle.machine_state.specs.StartPlans.{with_ends}
use Rattle.machine_state.specs.Spans.{is_among_ends, is_same_end}
use Rattle.joins.proofs.EndSets.{input, output, with_channel, with_listed, channel_is_new, channel_is_there}
use Rattle.joins.proofs.opening.add_ends.Goals as goal
use Rattle.joins.proofs.opening.add_ends.Goals.{then-branch+in_ok-push+in_ok-push-2, else-branch}

pub loop-channel-preserved : goal.loop-channel-preserved
loop-channel-preserved c =
    let held = c.loop-channel.ends.items in
    let a = c.local_address-address.result in
    let there = c.loop-channel.invariant.there in
    let address = λ (row : ChannelRow). frame_address c.args.base row.word in
    let first : ChannelRow = record { word = pos 0; length = 0 } in
    let here : a ≡ frame_address c.args.base (get_or c.args.channels.now c.loop-channel.channel-index first).word =
    search rules in
    elim c.if-branch.branch [
      | then-branch+in_ok-push+in_ok-push-2 w ↦
          let items : c.if-branch.ends.items ≡ (held ++ input a ∷ []) ++ output a ∷ [] =
          ap (λ v. v.items) w.ends-is ∙ (w.in_ok-push-2.ensures.items
          ∙ ap (λ (l : List End). l ++ output a ∷ []) w.in_ok-push.ensures.items) in
          let new = sym (there a) ∙ not-true _ (sym c.in_ok-insert.ensures.added ∙ w.if-branch.true) in
          record {
            there = λ b. c.in_ok-insert.ensures.all (input b)
                ∙ (ap (λ (t : Bool). t || is_same_end (input b) (input a)) (there b)
                ∙ (sym (with_channel held b a) ∙ ap (λ (l : List End). is_among_ends l (input b)) (sym items)));
            all = ap (with_ends (map address (drop (c.loop-channel.channel-index + 1) c.args.channels.now))) items
                ∙ (channel_is_new c.args.channels.now address c.loop-channel.channel-index first (omega arith) held a
                here new ∙ c.loop-channel.invariant.all);
          }
      | else-branch w ↦
          let items : c.if-branch.ends.items ≡ held = ap (λ v. v.items) w.ends-is in
          let old = sym (there a) ∙ not-false _ (sym c.in_ok-insert.ensures.added ∙ w.if-branch.false) in
          record {
            there = λ b. c.in_ok-insert.ensures.all (input b)
                ∙ (ap (λ (t : Bool). t || is_same_end (input b) (input a)) (there b)
                ∙ (with_listed held (input b) (input a) old
                ∙ ap (λ (l : List End). is_among_ends l (input b)) (sym items)));
            all = ap (with_ends (map address (drop (c.loop-channel.channel-index + 1) c.args.channels.now))) items
                ∙ (channel_is_there c.args.channels.now address c.loop-channel.channel-index first (omega arith) held a
                here old ∙ c.loop-channel.invariant.all);
          }
    ]
