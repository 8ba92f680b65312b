use Rattle.std.proofs.Common.{map, ap, ◌∙◌}
use Rattle.occam_parser.specs.LineViews.{formal_of}
use Rattle.occam_parser.specs.BlockViews.{process_of, procedure_of}
use Rattle.scalar_ranges.specs.Scopes.{known_of}
use Rattle.program_uses.specs.ActionViews.{around_of}
use Rattle.program_uses.specs.Declaring.{add_formals}
use Rattle.program_uses.specs.Processes.{uses_of}
use Rattle.program_uses.specs.Sets.{is_among}
use Rattle.usage_checks.specs.declared.channel_rules.Position.{Position}
use Rattle.usage_checks.specs.ItemRules.{body_position}
use Rattle.usage_checks.proofs.ProceduresWalked.{walks_procedure}
use Rattle.usage_checks.proofs.telling.Findings.walk_procedure.Goals as goal

pub returns-clause-walks : goal.returns-clause-walks
returns-clause-walks c =
    let position : Position = record {
      formals = c.len-count.result;
      declared = c.len.result;
      parallel = 0;
      is_main = c.is_main_name.result;
    } in
    walks_procedure (around_of c.args.around) position (procedure_of c.args.proc.now) (known_of c.args.scope.now)
    (map formal_of c.deref.result.now) c.len-count.result c.len.result
    (ap (map formal_of) c.deref.ensures.value) c.len-count.ensures c.len.ensures
    (ap (λ m. body_position m c.len-count.result c.len.result) c.is_main_name.ensures)
    c.walk_head.ensures c.uses-used.ensures.walks c.walk_within.ensures
    (λ i. record { entries = c.leave.ensures.entries i; blocks = c.leave.ensures.blocks i })

pub returns-clause-uses : goal.returns-clause-uses
returns-clause-uses c complete u =
    let a = around_of c.args.around in
    let es = (known_of c.args.scope.now).entries in
    let body = process_of c.args.proc.now.body in
    let used = c.walk_within.ensures.complete complete in
    let headed = c.walk_head.ensures.known (c.uses-used.ensures.walks.complete used) in
    c.uses-used.ensures.uses used u
    ∙ ap (λ k. is_among (uses_of a k.entries body) u) headed
    ∙ ap (λ fs. is_among (uses_of a (add_formals es (map formal_of fs) es) body) u) c.deref.ensures.value
