use Rattle.std.proofs.Common.{ap, sym, ◌∙◌, option_map}
use Rattle.occam_parser.specs.LineViews.{replicator_of}
use Rattle.occam_parser.specs.BlockViews.{body_of}
use Rattle.scalar_ranges.specs.Scopes.{entries_of, known_of}
use Rattle.program_uses.specs.ActionViews.{around_of}
use Rattle.program_uses.specs.Changes.{changed_by_body}
use Rattle.usage_checks.proofs.ListsServe.{list_is}
use Rattle.usage_checks.proofs.NumbersAlike.{loop_alike, walks_known}
use Rattle.usage_checks.proofs.telling.Findings.begin_loop.Goals as goal

pub returns-in-Some : goal.returns-in-Some
returns-in-Some c =
    let changed = changed_by_body (around_of c.args.site.around).signatures (entries_of c.args.scope.now)
    (replicator_of c.args.replicator.now) (body_of c.args.body.now) in
    walks_known c.begin_widened.ensures
    (λ e. loop_alike c.in-Some.numbers.now changed (known_of c.args.scope.now)
    (list_is c.args.site.lists.now c.args.line c.in-Some.numbers.now changed
    (sym c.on_line.ensures ∙ ap (option_map (λ n. n.now)) c.in-Some.is)
    (c.requires (c.begin_widened.ensures.complete e))))
