use Rattle.std.proofs.Common.{◌<◌, length, refl, rules, arith}
use Rattle.std.proofs.lemmas.Option.{slice_get_read}
use Rattle.program_uses.proofs.EndsPushed.{pushed_there, pushed_beyond}
use Rattle.program_uses.proofs.ends.push_end.Goals as goal

pub returns-in_ok-push : goal.returns-in_ok-push
returns-in_ok-push c =
    let xs = c.args.parameters.now.items in
    let x = c.in-Some.parameter.now in
    let within : c.args.place < length xs = omega (arith, c.in-Some.ensures.variant.0 refl) in
    pushed_there xs c.args.place x c.args.end c.push.new.self
    (slice_get_read xs (length xs) c.args.place x refl within c.in-Some.ensures.value) c.in_ok-push.ensures.items

pub returns-in_default : goal.returns-in_default
returns-in_default c = pushed_beyond c.args.parameters.now.items c.args.place c.args.end (search rules)
