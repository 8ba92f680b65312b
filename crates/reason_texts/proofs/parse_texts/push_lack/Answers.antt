use Rattle.std.proofs.Common.{string_bytes}
use Rattle.reason_texts.specs.declared.stuck.Lack.TheVariants as lack
use Rattle.reason_texts.specs.ParseTexts.{lack_text}
use Rattle.reason_texts.proofs.Appended.{appended}
use Rattle.reason_texts.proofs.parse_texts.push_lack.Goals as goal

pub returns-in-Token : goal.returns-in-Token
unfolding lack_text
returns-in-Token c = rw c.in-Token.is c.push_wanted.ensures

pub returns-in-Nesting : goal.returns-in-Nesting
unfolding lack_text
returns-in-Nesting c = rw c.in-Nesting.is
    (appended _ _ (string_bytes c.args.text.now) (lack_text lack.Nesting) c.push_str.ensures.bytes)

pub returns-in-Mixture : goal.returns-in-Mixture
unfolding lack_text
returns-in-Mixture c = rw c.in-Mixture.is
    (appended _ _ (string_bytes c.args.text.now) (lack_text lack.Mixture) c.push_str-in-Mixture.ensures.bytes)
