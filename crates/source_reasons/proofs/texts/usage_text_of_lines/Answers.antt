use Rattle.std.proofs.Common.{string_bytes}
use Rattle.source_reasons.proofs.UsageTold.{usage_told}
use Rattle.source_reasons.proofs.texts.usage_text_of_lines.Goals as goal

pub returns-in-Some : goal.returns-in-Some
returns-in-Some c =
    usage_told string_bytes c.args.path.now c.args.source.now c.args.lines.now c.args.fault c.in-Some.reason
    (rw c.in-Some.is at c.in_ok-reason.ensures) c.usage_text.result c.usage_text.ensures
