use Rattle.std.proofs.Common.{rules, ◌∙◌, sym, ap, arith, ◌+ℤ◌, pos}
use Rattle.std.proofs.lemmas.Int.{ints}
use Rattle.module_format.specs.declared.rows.EndKind.{EndKind}
use Rattle.rulings.specs.Channels.{message_length, further}
use Rattle.rulings.proofs.EndNumbers.{far_channel, above_by}
use Rattle.rulings.proofs.place.Place.message_length.Goals as goal

pub returns-in_err-word-in-FrameWord : goal.returns-in_err-word-in-FrameWord
returns-in_err-word-in-FrameWord c =
    let m = c.args.self.now.module.now in
    let context = c.args.context in
    let w = c.in-FrameWord.word in
    c.from_residual.ensures
    ∙ sym (ap (λ (e : EndKind). message_length m context (further e c.args.n)) c.in-FrameWord.is
    ∙ far_channel m c.requires context (w +ℤ pos c.args.n) (above_by _ w c.args.n c.as_word.result (omega (arith, ints))
    (search rules) c.in_err-word-in-FrameWord.was c.as_word.ensures))
