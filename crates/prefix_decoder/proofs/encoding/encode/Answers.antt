use Rattle.std.proofs.Common.{◌≡◌, rules}
use Rattle.std.proofs.lemmas.Int.{to_z-of_z}
use Rattle.prefix_decoder.specs.Spelling.{spelling}
use Rattle.prefix_decoder.proofs.Spellings.{IsSpelling-spelling, spelling_length}
use Rattle.prefix_decoder.proofs.encoding.encode.Goals as goal

pub returns-clause-spells : goal.returns-clause-spells
returns-clause-spells c =
    let written : c.push_spelling.new.bytes.items ≡ spelling c.args.fun c.args.operand = search (rules, to_z-of_z) in
    rw written (IsSpelling-spelling c.args.fun c.args.operand c.ranges.operand)

pub returns-clause-length : goal.returns-clause-length
returns-clause-length c =
    let written : c.push_spelling.new.bytes.items ≡ spelling c.args.fun c.args.operand = search (rules, to_z-of_z) in
    rw written (spelling_length c.args.fun c.args.operand c.ranges.operand)
