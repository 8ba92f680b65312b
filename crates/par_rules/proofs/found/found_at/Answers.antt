use Rattle.std.proofs.Common.{Some, None}
use Rattle.par_rules.proofs.FoundBranches.{branch_is_answered}
use Rattle.par_rules.proofs.found.found_at.Goals as goal

pub returns-in_err-row-clause-found : goal.returns-in_err-row-clause-found
returns-in_err-row-clause-found c =
    absurd (branch_is_answered c.args.module.now c.args.target c.in_ok-context.context _ _ c.place_in.result None
    c.branches_are_contexts.ensures.found c.tables-tables.ensures.kept c.in_ok-context.ensures c.place_in.ensures
    c.in_err-row.was)

pub returns-clause-found : goal.returns-clause-found
returns-clause-found c =
    (branch_is_answered c.args.module.now c.args.target c.in_ok-context.context _ _ c.place_in.result
    (Some c.in_ok-row.field-0) c.branches_are_contexts.ensures.found c.tables-tables.ensures.kept
    c.in_ok-context.ensures c.place_in.ensures c.in_ok-row.was).is

pub returns-clause-context : goal.returns-clause-context
returns-clause-context c =
    (branch_is_answered c.args.module.now c.args.target c.in_ok-context.context _ _ c.place_in.result
    (Some c.in_ok-row.field-0) c.branches_are_contexts.ensures.found c.tables-tables.ensures.kept
    c.in_ok-context.ensures c.place_in.ensures c.in_ok-row.was).numbered

pub returns-clause-small : goal.returns-clause-small
returns-clause-small c =
    (branch_is_answered c.args.module.now c.args.target c.in_ok-context.context _ _ c.place_in.result
    (Some c.in_ok-row.field-0) c.branches_are_contexts.ensures.found c.tables-tables.ensures.kept
    c.in_ok-context.ensures c.place_in.ensures c.in_ok-row.was).small

pub returns-clause-numbered : goal.returns-clause-numbered
returns-clause-numbered c =
    (branch_is_answered c.args.module.now c.args.target c.in_ok-context.context _ _ c.place_in.result
    (Some c.in_ok-row.field-0) c.branches_are_contexts.ensures.found c.tables-tables.ensures.kept
    c.in_ok-context.ensures c.place_in.ensures c.in_ok-row.was).by_context c.branches_are_contexts.ensures.contexts

pub returns-clause-in_row : goal.returns-clause-in_row
returns-clause-in_row c =
    (branch_is_answered c.args.module.now c.args.target c.in_ok-context.context _ _ c.place_in.result
    (Some c.in_ok-row.field-0) c.branches_are_contexts.ensures.found c.tables-tables.ensures.kept
    c.in_ok-context.ensures c.place_in.ensures c.in_ok-row.was).row
