use Rattle.std.proofs.Common.{◌≡◌, ◌≤◌, ◌≤ℤ◌, ◌<ℤ◌, ℤ, Bool, true, length}
use Rattle.std.specs.List.{list_all}
use Rattle.module_format.specs.declared.rows.ChannelRow.{ChannelRow}
use Rattle.par_rules.proofs.openings.past_channels.Given as goal

abbrev pub invariant-loop-channel : goal.invariant-loop-channel
invariant-loop-channel l = record {
  few : length l.rest ≤ length l.channels;
  same : (test : ℤ → Bool) → ((k : ℤ) → l.word ≤ℤ k → k <ℤ l.end → test k ≡ true)
      → list_all (λ (c : ChannelRow). test c.word) l.channels ≡ list_all (λ (c : ChannelRow). test c.word) l.rest;
}

abbrev pub decreases-loop-channel : goal.decreases-loop-channel
decreases-loop-channel l = length l.rest
