use Rattle.std.proofs.Common.{◌∷◌, ◌++◌, [], length, map, sym, subst, arith}
use Rattle.std.proofs.lemmas.Result.{err_from_is_err_and}
use Rattle.std.proofs.lemmas.List.{map_push}
use Rattle.occam_parser.specs.Blocks.{row_of, rows_of}
use Rattle.occam_parser.specs.BlockViews.{item_of}
use Rattle.occam_parser.proofs.Answering.{passed_on}
use Rattle.occam_parser.proofs.Programs.{ContinuesProgram, program_begins, program_goes_on, program_fails, program_ends}
use Rattle.occam_parser.proofs.Items.{pushed_lost, pushed_found}
use Rattle.occam_parser.proofs.SeenItems.{left_is, left_len_is, rows_no_more}
use Rattle.occam_parser.proofs.program.items.Goals as goal

pub loop-next-init : goal.loop-next-init
loop-next-init c =
    let start = rows_of c.args.lines.now in
    let left = left_is c.args.lines.now c.split_first-next.result c.split_first-next.ensures.cases in
    rw c.new-found.ensures.items (subst (λ rows. ContinuesProgram start [] rows) (sym left) (program_begins start))

pub returns-in_err-rest : goal.returns-in_err-rest
returns-in_err-rest c =
    let l = c.loop-next in
    let first = row_of c.in-Some.line.now in
    let after = rows_of c.in-Some.after.now in
    let reads = rw c.in-Some.is at l.invariant in
    let p = err_from_is_err_and c.from_residual.result c.from_residual.ensures.1 in
    rw (p.1, p.2)
    (passed_on _ _ _ (λ none. program_fails (rows_of c.args.lines.now) (map item_of l.found.items) first after none
    reads)
    (pushed_lost (λ x. (item_of x.0, rows_of x.1.now)) c.item.result l.found.items c.push.new.found.items _ _
    c.in_err-rest.ensures c.item.ensures.found))

pub loop-next-preserved : goal.loop-next-preserved
loop-next-preserved c =
    let l = c.loop-next in
    let start = rows_of c.args.lines.now in
    let first = row_of c.in-Some.line.now in
    let after = rows_of c.in-Some.after.now in
    let items = map item_of l.found.items in
    let reads = rw c.in-Some.is at l.invariant in
    let left = left_is c.in_ok-rest.rest.now c.split_first-next-in-Some.result
    c.split_first-next-in-Some.ensures.cases in
    let x =
    pushed_found item_of c.item.result l.found.items c.push.new.found.items c.in_ok-rest.rest
    (length c.in-Some.after.now) _ c.in_ok-rest.ensures c.item.ensures.found c.item.ensures.within
    in
    let less = rows_no_more c.in_ok-rest.rest.now c.in-Some.after.now x.3 in
    let going = program_goes_on start items first after (rows_of c.in_ok-rest.rest.now) (item_of x.0) x.2 less reads in
    rw (x.1, map_push item_of l.found.items x.0)
    (subst (λ rows. ContinuesProgram start (items ++ item_of x.0 ∷ []) rows) (sym left) going)

pub loop-next-smaller : goal.loop-next-smaller
loop-next-smaller c =
    let l = c.loop-next in
    let left = left_len_is c.in_ok-rest.rest.now c.split_first-next-in-Some.result
    c.split_first-next-in-Some.ensures.cases in
    let x =
    pushed_found item_of c.item.result l.found.items c.push.new.found.items c.in_ok-rest.rest
    (length c.in-Some.after.now) _ c.in_ok-rest.ensures c.item.ensures.found c.item.ensures.within
    in
    rw c.in-Some.is (omega (arith, left, x.3))

pub returns : goal.returns
returns c =
    let reads = rw c.in_default.is at c.loop-next.invariant in
    program_ends (rows_of c.args.lines.now) (map item_of c.loop-next.found.items) reads
