use Rattle.std.proofs.Common.{string_bytes}
use Rattle.reason_texts.specs.declared.parse.ParseReason.TheVariants as reason
use Rattle.reason_texts.specs.ParseTexts.{sentence}
use Rattle.reason_texts.proofs.Appended.{appended}
use Rattle.reason_texts.proofs.parse_texts.push_sentence.Goals as goal

pub returns-in-Form : goal.returns-in-Form
unfolding sentence
returns-in-Form c = rw c.in-Form.is c.push_stuck.ensures

pub returns-in-NothingBelow : goal.returns-in-NothingBelow
unfolding sentence
returns-in-NothingBelow c = rw c.in-NothingBelow.is c.write.ensures.bytes

pub returns-in-OnlyOne : goal.returns-in-OnlyOne
unfolding sentence
returns-in-OnlyOne c = rw c.in-OnlyOne.is c.write-in-OnlyOne.ensures.bytes

pub returns-in-MissingColon : goal.returns-in-MissingColon
unfolding sentence
returns-in-MissingColon c =
    rw c.in-MissingColon.is (appended _ _ (string_bytes c.args.text.now)
    (sentence c.args.line.now c.args.span c.args.found reason.MissingColon) c.push_str.ensures.bytes)

pub returns-in-MissingBody : goal.returns-in-MissingBody
unfolding sentence
returns-in-MissingBody c =
    rw c.in-MissingBody.is (appended _ _ (string_bytes c.args.text.now)
    (sentence c.args.line.now c.args.span c.args.found reason.MissingBody) c.push_str-in-MissingBody.ensures.bytes)

pub returns-in-DeepLine : goal.returns-in-DeepLine
unfolding sentence
returns-in-DeepLine c =
    rw c.in-DeepLine.is (appended _ _ (string_bytes c.args.text.now)
    (sentence c.args.line.now c.args.span c.args.found reason.DeepLine) c.push_str-in-DeepLine.ensures.bytes)
