use Rattle.std.proofs.Common.{◌≡◌, take, sym, ap, ◌∙◌}
use Rattle.std.proofs.lemmas.List.{take-map}
use Rattle.program_uses.specs.Signatures.{parameters_of, signatures_of}
use Rattle.code_generator.proofs.calling.around_before.Goals as goal

pub returns-in-Some : goal.returns-in-Some
returns-in-Some c =
    let all = c.args.around.signatures.now in
    let same : signatures_of c.in-Some.signatures.now ≡ take c.args.number (signatures_of all) =
    ap signatures_of c.in-Some.ensures.cases.1 ∙ sym (take-map parameters_of c.args.number all) in
    λ i. record { signatures = same i; uncounted = c.args.around.uncounted }
