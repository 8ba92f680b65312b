use Rattle.std.proofs.Common.{map, sym, ap, ◌∙◌}
use Rattle.std.proofs.lemmas.List.{length-map}
use Rattle.occam_parser.specs.LineViews.{formal_of}
use Rattle.occam_parser.specs.BlockViews.{procedure_of}
use Rattle.scalar_ranges.specs.Scopes.{known_of}
use Rattle.program_uses.specs.ActionViews.{around_of}
use Rattle.program_uses.specs.Processes.{uses_of}
use Rattle.program_uses.specs.Sets.{members_of}
use Rattle.program_uses.specs.Signatures.{parameter_of, parameters_of}
use Rattle.usage_checks.specs.FormalRules.{parameter_for}
use Rattle.usage_checks.specs.ItemRules.{in_body}
use Rattle.usage_checks.proofs.ItemsWalked.{signature_found, if_signed, walks_named}
use Rattle.usage_checks.proofs.telling.Findings.walk_named.Goals as goal

pub returns-clause-walks : goal.returns-clause-walks
returns-clause-walks c =
    walks_named (around_of c.args.around) (procedure_of c.args.proc.now) (known_of c.args.scope.now) _
    (sym (length-map c.args.around.signatures.now parameters_of)) c.walk_procedure-used.ensures.walks
    c.walk_number.ensures

pub returns-in_err-parameters-clause-walks : goal.returns-in_err-parameters-clause-walks
returns-in_err-parameters-clause-walks c =
    walks_named (around_of c.args.around) (procedure_of c.args.proc.now) (known_of c.args.scope.now) _
    (sym (length-map c.args.around.signatures.now parameters_of)) c.walk_procedure-used.ensures.walks
    c.walk_number.ensures

pub returns-clause-signature : goal.returns-clause-signature
returns-clause-signature c =
    let a = around_of c.args.around in
    let p = procedure_of c.args.proc.now in
    let k = known_of c.args.scope.now in
    let us = uses_of a (in_body p k).entries p.body in
    let heads = c.in_ok-parameters.ensures
    ∙ ap (λ fs. map (parameter_for k.entries) (map formal_of fs)) c.deref.ensures.value in
    if_signed c.signed.result
    (λ complete. signature_found k.entries c.len-first.result p.head.formals
    (map parameter_of c.in_ok-parameters.field-0.items) (members_of c.walk_procedure-used.result) us c.len-first.ensures
    heads (c.walk_procedure-used.ensures.uses (c.walk_number.ensures.complete complete))) c.signed.ensures
