use Rattle.std.proofs.Common.{string_bytes}
use Rattle.reason_texts.specs.declared.layout.LayoutReason.TheVariants as reason
use Rattle.reason_texts.specs.LayoutTexts.{sentence}
use Rattle.reason_texts.proofs.Appended.{appended}
use Rattle.reason_texts.proofs.layout_texts.push_sentence.Goals as goal

pub returns-in-OddIndentation : goal.returns-in-OddIndentation
unfolding sentence
returns-in-OddIndentation c = rw c.in-OddIndentation.is c.write.ensures.bytes

pub returns-in-TooDeep : goal.returns-in-TooDeep
unfolding sentence
returns-in-TooDeep c = rw c.in-TooDeep.is c.push_deep.ensures

pub returns-in-NoCharacter : goal.returns-in-NoCharacter
unfolding sentence
returns-in-NoCharacter c = rw c.in-NoCharacter.is (rw c.byte_at-byte.ensures at c.write-in-NoCharacter.ensures.bytes)

pub returns-in-BadToken : goal.returns-in-BadToken
unfolding sentence
returns-in-BadToken c = rw c.in-BadToken.is c.push_token.ensures

pub returns-in-TooManyLines : goal.returns-in-TooManyLines
unfolding sentence
returns-in-TooManyLines c =
    rw c.in-TooManyLines.is (appended _ _ (string_bytes c.args.text.now)
    (sentence c.args.line.now reason.TooManyLines) c.push_str.ensures.bytes)

pub returns-in-TooManyBytes : goal.returns-in-TooManyBytes
unfolding sentence
returns-in-TooManyBytes c =
    rw c.in-TooManyBytes.is (appended _ _ (string_bytes c.args.text.now)
    (sentence c.args.line.now (reason.TooManyBytes c.in-TooManyBytes.bytes)) c.push_str-in-TooManyBytes.ensures.bytes)
