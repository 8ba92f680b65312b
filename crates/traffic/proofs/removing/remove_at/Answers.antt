use Rattle.std.proofs.Common.{◌≡◌, sym, ◌∙◌, ap, Some}
use Rattle.machine_state.specs.declared.process.Channel.{Channel}
use Rattle.traffic.specs.Removing.{channel_in}
use Rattle.traffic.proofs.Removed.{is_there, not_of, removes_one, gone_at}
use Rattle.traffic.proofs.removing.remove_at.Goals as goal

pub returns-then-channel-opener-clause-removes : goal.returns-then-channel-opener-clause-removes
returns-then-channel-opener-clause-removes c =
    let channels = c.args.channels.now.items in
    let found : channel_in channels c.args.cell ≡ Some c.in-Some.channel =
    ap (λ l. channel_in l c.args.cell) (sym c.deref.ensures.value) ∙ (sym c.channel_in.ensures ∙ c.in-Some.is) in
    let there = is_there channels c.args.cell c.in-Some.channel found in
    rw c.hand_over.ensures
    (removes_one c.args.opener channels c.args.counts.now.items c.args.cell c.in-Some.channel there
    c.if-channel-opener.true)

pub returns-then-channel-opener-clause-gone : goal.returns-then-channel-opener-clause-gone
returns-then-channel-opener-clause-gone c = gone_at c.args.opener c.args.channels.now.items c.args.cell

pub returns-else-channel-opener-clause-gone : goal.returns-else-channel-opener-clause-gone
returns-else-channel-opener-clause-gone c =
    not_of c.args.opener c.args.channels.now.items c.args.cell
    (λ d is mine.
    let found =
    ap (λ l. channel_in l c.args.cell) (sym c.deref.ensures.value) ∙ (sym c.channel_in.ensures ∙ c.in-Some.is) in
    let same : Some d ≡ Some c.in-Some.channel = sym is ∙ found in
    let here : d ≡ c.in-Some.channel = cc (same) in
    c.if-channel-opener.false (sym (ap (λ (x : Channel). x.opener) here) ∙ mine))
