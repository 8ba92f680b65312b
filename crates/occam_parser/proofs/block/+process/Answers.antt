use Rattle.std.proofs.Common.{◌<◌, ◌≤◌, Some, Ok, length, map, sym, refl, ap, arith, ◌∙◌}
use Rattle.std.specs.Prelude.{option_map}
use Rattle.std.proofs.lemmas.Result.{err_from_is_err_and}
use Rattle.occam_parser.specs.declared.tree.Construct.{Action}
use Rattle.occam_parser.specs.LineViews.{replicator_of, declaration_of, action_of}
use Rattle.occam_parser.specs.Blocks.{rows_of, Act, Block, Replicated}
use Rattle.occam_parser.specs.BlockReading.{begins_at, behind_declarations}
use Rattle.occam_parser.specs.BlockViews.{process_of, construct_of, body_of, components_in, led}
use Rattle.occam_parser.proofs.Answering.{passed_on}
use Rattle.occam_parser.proofs.Turns.{block_ends}
use Rattle.occam_parser.proofs.Levelled.{process_none, action_reads, block_reads}
use Rattle.occam_parser.proofs.SeenBlocks.{view-Action, started}
use Rattle.occam_parser.proofs.ReadIntoTrees.{read_as_found, made_tells, made_within, turn_begins, turn_goes_on}
use Rattle.occam_parser.proofs.ReadIntoTrees.{turn_fails}
use Rattle.occam_parser.proofs.ReadIntoTrees.{turn_less, only_tells, only_within}
use Rattle.occam_parser.proofs.block.+process.Goals as goal

pub block-loop-goes_on-init : goal.block-loop-goes_on-init
block-loop-goes_on-init t c =
    let first = c.begins_at-goes_on in
    let none = c.none-found in
    let same = ap length first.ensures.same in
    record {
      within = omega (arith, same);
      begins = first.ensures.begins ∙ ap (λ us. begins_at c.args.level (rows_of us)) (sym first.ensures.same);
      reads =
          turn_begins c.args.kind c.args.level c.args.lines.now first.result.1.now none.result none.ensures.processes
          none.ensures.choices none.ensures.branches first.ensures.same;
    }

pub block-returns-in_err-behind-clause-found : goal.block-returns-in_err-behind-clause-found
block-returns-in_err-behind-clause-found t c =
    let l = c.loop-goes_on in
    let p = err_from_is_err_and c.from_residual.result c.from_residual.ensures.1 in
    rw (p.1, p.2)
    (turn_fails c.args.kind c.args.level (rows_of c.args.lines.now) l.rest.now l.found c.add.new.self l.goes_on
    c.body.result _ l.invariant.begins c.loop-goes_on-test.true c.in_err-behind.ensures c.body.ensures.found
    l.invariant.reads)

pub block-loop-goes_on-preserved : goal.block-loop-goes_on-preserved
block-loop-goes_on-preserved t c =
    let l = c.loop-goes_on in
    let next = c.begins_at in
    let behind = c.in_ok-behind in
    let read = c.body in
    let going =
    turn_goes_on c.args.kind c.args.level (rows_of c.args.lines.now) l.rest.now behind.behind l.found c.add.new.self
    l.goes_on read.result l.invariant.begins c.loop-goes_on-test.true behind.ensures read.ensures.found
    read.ensures.within l.invariant.reads
    in
    let less = turn_less read.result l.found c.add.new.self behind.behind (length l.rest.now) behind.ensures
    read.ensures.within in
    let same = ap length next.ensures.same in
    record {
      within = omega (arith, less, same, l.invariant.within);
      begins = next.ensures.begins ∙ ap (λ us. begins_at c.args.level (rows_of us)) (sym next.ensures.same);
      reads = rw next.ensures.same going;
    }

pub block-returns-clause-found : goal.block-returns-clause-found
block-returns-clause-found t c =
    let l = c.loop-goes_on in
    let ends = sym l.invariant.begins ∙ c.loop-goes_on-test.false in
    let found = components_in c.args.kind l.found in
    read_as_found (Block c.args.kind) _ found (rows_of l.rest.now) _
    (block_ends _ c.args.level (rows_of c.args.lines.now) found (rows_of l.rest.now) ends l.invariant.reads)
    c.into_block.ensures

pub body-returns-in_err-lead-clause-found : goal.body-returns-in_err-lead-clause-found
body-returns-in_err-lead-clause-found t c =
    let p = err_from_is_err_and c.from_residual.result c.from_residual.ensures.1 in
    rw (p.1, p.2) c.in_err-lead.ensures.leads

pub body-returns-clause-found : goal.body-returns-clause-found
body-returns-clause-found t c =
    let lead = c.in_ok-lead in
    made_tells process_of body_of (led lead.lead.head) c.process.result c.led_by.result _ _ c.led_by.ensures
    c.process.ensures.found lead.ensures.leads

pub body-returns-clause-within : goal.body-returns-clause-within
body-returns-clause-within t c =
    let lead = c.in_ok-lead in
    made_within process_of body_of (led lead.lead.head) (length lead.rest.now) (λ k. k < length c.args.lines.now)
    c.process.result c.led_by.result c.led_by.ensures c.process.ensures.within
    (λ k less. omega (arith, less, lead.ensures.within))

pub construct-returns-in-None-clause-found : goal.construct-returns-in-None-clause-found
construct-returns-in-None-clause-found t c = rw c.in-None.is c.block.ensures.found

pub construct-returns-in-Some-clause-found : goal.construct-returns-in-Some-clause-found
construct-returns-in-Some-clause-found t c =
    let only = only_tells body_of c.args.level c.body-read.result c.only_one.result _ c.only_one.ensures
    c.body-read.ensures.found in
    rw c.in-Some.is
    (made_tells body_of construct_of (Replicated (replicator_of c.in-Some.replicator)) c.only_one.result
    c.replicated_of.result _ _ c.replicated_of.ensures only refl)

pub construct-returns-in-Some-clause-within : goal.construct-returns-in-Some-clause-within
construct-returns-in-Some-clause-within t c =
    let n = length c.args.lines.now in
    let only = only_within c.args.level n c.body-read.result c.only_one.result c.only_one.ensures
    c.body-read.ensures.within in
    made_within body_of construct_of (Replicated (replicator_of c.in-Some.replicator)) n (λ k. k ≤ n) c.only_one.result
    c.replicated_of.result c.replicated_of.ensures only (λ k less. omega (arith, less))

pub process-returns-in_err-opening-clause-found : goal.process-returns-in_err-opening-clause-found
process-returns-in_err-opening-clause-found t c =
    let p = err_from_is_err_and c.from_residual.result c.from_residual.ensures.1 in
    rw (p.1, p.2) (passed_on _ _ _ (process_none c.args.level (rows_of c.args.lines.now))
    c.in_err-opening.ensures.found)

pub process-returns-in-Action-clause-found : goal.process-returns-in-Action-clause-found
process-returns-in-Action-clause-found t c =
    let o = c.in_ok-opening.opening in
    let rest = rows_of c.in_ok-opening.rest.now in
    let ds = map declaration_of o.declarations.items in
    let began = c.in_ok-opening.ensures.found ∙ ap (λ s. started ds o.line s rest) c.in-Action.is in
    made_tells construct_of process_of (behind_declarations ds o.line)
    (Ok (Action c.in-Action.action, c.in_ok-opening.rest)) c.made_of.result
    (Some (Act (action_of c.in-Action.action), rest)) _ c.made_of.ensures
    (ap (λ z. Some (z, rest)) (sym (view-Action c.in-Action.action)))
    (action_reads c.args.level (rows_of c.args.lines.now) rest ds o.line (action_of c.in-Action.action)
    c.in_ok-opening.ensures.level began)

pub process-returns-in-Block-clause-found : goal.process-returns-in-Block-clause-found
process-returns-in-Block-clause-found t c =
    let o = c.in_ok-opening.opening in
    let rest = rows_of c.in_ok-opening.rest.now in
    let ds = map declaration_of o.declarations.items in
    let head = c.in-Block in
    let began = c.in_ok-opening.ensures.found ∙ ap (λ s. started ds o.line s rest) head.is in
    made_tells construct_of process_of (behind_declarations ds o.line) c.construct-read.result c.made_of-in-Block.result
    _ _ c.made_of-in-Block.ensures c.construct-read.ensures.found
    (block_reads c.args.level (rows_of c.args.lines.now) rest ds o.line head.kind
    (option_map replicator_of head.replicator) _ c.in_ok-opening.ensures.level began refl)
