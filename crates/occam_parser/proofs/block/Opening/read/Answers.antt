use Rattle.std.proofs.Common.{◌∷◌, ◌++◌, [], map, arith, ◌∙◌}
use Rattle.std.proofs.lemmas.Result.{err_from_is_err_and}
use Rattle.std.proofs.lemmas.List.{map_push}
use Rattle.occam_parser.specs.LineViews.{declaration_of, head_of}
use Rattle.occam_parser.specs.Terminals.{terminals_of}
use Rattle.occam_parser.specs.LineReading.{head_at}
use Rattle.occam_parser.specs.Blocks.{row_of, rows_of}
use Rattle.occam_parser.proofs.Answering.{told_found, told_lost, passed_on}
use Rattle.occam_parser.proofs.Openings.{opening_none, opening_starts, opening_declares, opening_fails, opening_first}
use Rattle.occam_parser.proofs.block.Opening.read.Goals as goal

pub returns-in_err-line-clause-found : goal.returns-in_err-line-clause-found
returns-in_err-line-clause-found c =
    let p = err_from_is_err_and c.from_residual.result c.from_residual.ensures.1 in
    rw (p.1, p.2) (passed_on _ _ _ (opening_none c.args.level [] (rows_of c.args.lines.now))
    c.in_err-line.ensures.found)

pub returns-in-Start-clause-found : goal.returns-in-Start-clause-found
returns-in-Start-clause-found c =
    let l = c.loop-declarations in
    let head = rw c.in-Start.is at (told_found head_of c.head_of.result _ c.in_ok-head.head
    (head_at l.line.now.number (terminals_of l.line.now.tokens.items)) c.in_ok-head.ensures c.head_of.ensures) in
    l.invariant.reads ∙ opening_starts c.args.level (map declaration_of l.declarations.items) (row_of l.line.now)
    (rows_of l.rest.now) c.in-Start.start l.invariant.at head

pub returns-in_err-head-clause-found : goal.returns-in_err-head-clause-found
returns-in_err-head-clause-found c =
    let l = c.loop-declarations in
    let p = err_from_is_err_and c.from_residual-in_err-head.result c.from_residual-in_err-head.ensures.1 in
    rw (p.1, p.2)
    (told_lost head_of c.head_of.result _ _ (head_at l.line.now.number (terminals_of l.line.now.tokens.items)) _
    c.in_err-head.ensures c.head_of.ensures
    (λ none. l.invariant.reads ∙ opening_fails c.args.level (map declaration_of l.declarations.items)
    (row_of l.line.now) (rows_of l.rest.now) l.invariant.at none))

pub returns-in_err-line-2-clause-found : goal.returns-in_err-line-2-clause-found
returns-in_err-line-2-clause-found c =
    let l = c.loop-declarations in
    let d = declaration_of c.in-Declaration.declaration in
    let head = rw c.in-Declaration.is at (told_found head_of c.head_of.result _ c.in_ok-head.head
    (head_at l.line.now.number (terminals_of l.line.now.tokens.items)) c.in_ok-head.ensures c.head_of.ensures) in
    let p = err_from_is_err_and c.from_residual-in_err-line-2.result c.from_residual-in_err-line-2.ensures.1 in
    let before = l.invariant.reads ∙ opening_declares c.args.level (map declaration_of l.declarations.items)
    (row_of l.line.now) (rows_of l.rest.now) d l.invariant.at head in
    rw (p.1, p.2) (passed_on _ _ _ (λ none. before ∙ opening_none c.args.level
    (map declaration_of l.declarations.items ++ d ∷ []) (rows_of l.rest.now) none) c.in_err-line-2.ensures.found)

pub loop-declarations-preserved : goal.loop-declarations-preserved
loop-declarations-preserved c =
    let l = c.loop-declarations in
    let d = declaration_of c.in-Declaration.declaration in
    let head = rw c.in-Declaration.is at (told_found head_of c.head_of.result _ c.in_ok-head.head
    (head_at l.line.now.number (terminals_of l.line.now.tokens.items)) c.in_ok-head.ensures c.head_of.ensures) in
    let before = l.invariant.reads ∙ opening_declares c.args.level (map declaration_of l.declarations.items)
    (row_of l.line.now) (rows_of l.rest.now) d l.invariant.at head in
    let first = opening_first c.args.level (map declaration_of l.declarations.items ++ d ∷ []) (rows_of l.rest.now)
    (rows_of c.in_ok-line-2.field-0-1.now) (row_of c.in_ok-line-2.field-0-0.now) c.in_ok-line-2.ensures.found in
    record {
      low = l.invariant.low;
      at = first.0;
      within = omega (arith, c.in_ok-line-2.ensures.within, l.invariant.within);
      reads = rw (
        c.in_ok-push-in-Declaration.ensures.items,
        map_push declaration_of l.declarations.items
            c.in-Declaration.declaration,
      ) (before ∙ first.1);
    }
