use Rattle.std.proofs.Common.{◌≡◌, ℤ, Bool, sym, ap, ◌∙◌, to_z, of_z, rules, arith, w32, FitsSigned}
use Rattle.std.specs.Prelude.{int_lt}
use Rattle.std.proofs.lemmas.Int.{to_z-of_z}
use Rattle.std.proofs.lemmas.Bool.{ltb-true, ltb-false}
use Rattle.std.proofs.lemmas.List.Sorted.{IsPartitionPoint-from_clause}
use Rattle.module_format.specs.declared.rows.ChannelRow.{ChannelRow}
use Rattle.module_format.specs.Order.{least_word}
use Rattle.certificate.proofs.RightLaws.{channels_parted, past_listed, other_listed, here_listed}
use Rattle.certificate.proofs.rights.listed_length.Goals as goal

-- a channel in a word below one
abbrev below : ℤ → ChannelRow → Bool
below k x = int_lt x.word k

pub returns-in_err-channel : goal.returns-in_err-channel
returns-in_err-channel c =
    let point = IsPartitionPoint-from_clause (below c.args.word) _ _ c.partition_point-index.ensures.partitioned
    (λ i j d. channels_parted c.args.word least_word c.args.channels.now d c.requires i j) (λ a r f' h. search rules) in
    let past = ltb-false _ _ (sym c.in_err-channel.ensures.lookup.0) in
    rw c.from_residual.ensures (sym (past_listed c.args.word c.args.channels.now _ c.requires point past))

pub returns-then-channel-word : goal.returns-then-channel-word
returns-then-channel-word c =
    let point = IsPartitionPoint-from_clause (below c.args.word) _ _ c.partition_point-index.ensures.partitioned
    (λ i j d. channels_parted c.args.word least_word c.args.channels.now d c.requires i j) (λ a r f' h. search rules) in
    sym (other_listed c.args.word c.args.channels.now _ c.requires point c.in_ok-channel.channel.now
    (ltb-true _ _ (sym c.in_ok-channel.ensures.lookup.0)) c.in_ok-channel.ensures.lookup.1
    (λ e. c.if-channel-word.true (ap (of_z w32) e)))

pub returns : goal.returns
returns c =
    let point = IsPartitionPoint-from_clause (below c.args.word) _ _ c.partition_point-index.ensures.partitioned
    (λ i j d. channels_parted c.args.word least_word c.args.channels.now d c.requires i j) (λ a r f' h. search rules) in
    let channel = c.in_ok-channel.channel.now in
    let word_fits : FitsSigned w32 channel.word = search rules in
    let fits : FitsSigned w32 c.args.word = search rules in
    let same : channel.word ≡ c.args.word =
    sym (to_z-of_z w32 channel.word word_fits) ∙ ap (to_z w32) c.if-channel-word.false
    ∙ to_z-of_z w32 c.args.word fits in
    sym (here_listed c.args.word c.args.channels.now _ channel (ltb-true _ _ (sym c.in_ok-channel.ensures.lookup.0))
    (λ i less. point.0 i channel (omega arith) less) c.in_ok-channel.ensures.lookup.1 same)
