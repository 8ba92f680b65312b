use Rattle.std.proofs.Common.{◌≡◌, ◌+◌, ◌<◌, Option, Result, Ok, ◌∷◌, ◌++◌, [], length, map, ap, arith, sym, ◌∙◌, inr}
use Rattle.std.specs.Prelude.{option_map}
use Rattle.occam_layout.specs.declared.fault.Fault.{Fault}
use Rattle.occam_layout.specs.declared.token.Line.{Line}
use Rattle.std.proofs.lemmas.Bool.{eqb-true, eqb-false}
use Rattle.std.proofs.lemmas.List.{map_push}
use Rattle.occam_layout.specs.Reading.{Row, row_of}
use Rattle.occam_layout.proofs.Loop.{is_done, fails}
use Rattle.occam_layout.proofs.Rows.{read-large, read-rows, rows_at-large, rows_at-none, ends, passes, adds}
use Rattle.occam_layout.proofs.layout.read_lines.Goals as goal
use Rattle.occam_layout.proofs.layout.read_lines.Goals.{in-Some+in_ok-push, in_default}

pub returns-then-source-gt-MAX_BYTES : goal.returns-then-source-gt-MAX_BYTES
returns-then-source-gt-MAX_BYTES c = inr (rw c.at.ensures (read-large c.args.source.now c.if-source-gt-MAX_BYTES.true))

pub returns-in-Err : goal.returns-in-Err
returns-in-Err c =
    let e = ends c.in-Err.error c.loop-rest.number c.loop-rest.offset c.loop-rest.deepest c.loop-rest.rest.now
    c.first_line.result.0.now _ _ _ c.first_line.ensures.parts c.if-number-gt-MAX_LINES.false
    c.in-Err.ensures.row c.loop-rest.invariant.so_far in
    rw (c.at-in-Err.ensures, read-rows c.args.source.now c.loop-rest.invariant.small) e

pub returns-then-number-gt-MAX_LINES : goal.returns-then-number-gt-MAX_LINES
returns-then-number-gt-MAX_LINES c =
    let differs = eqb-false _ _ (sym c.is_empty.ensures ∙ c.loop-rest-test.true) in
    let some : 0 < length c.loop-rest.rest.now = omega arith in
    let rows = read-rows c.args.source.now c.loop-rest.invariant.small in
    let large = rows_at-large c.loop-rest.number c.loop-rest.offset c.loop-rest.deepest c.loop-rest.rest.now some
    c.if-number-gt-MAX_LINES.true in
    inr (rw (c.at-then-number-gt-MAX_LINES.ensures, rows) (fails _ _ _ _ large c.loop-rest.invariant.so_far))

pub loop-rest-preserved : goal.loop-rest-preserved
loop-rest-preserved c =
    let differs = eqb-false _ _ (sym c.is_empty.ensures ∙ c.loop-rest-test.true) in
    let some : 0 < length c.loop-rest.rest.now = omega arith in
    let fits = c.loop-rest.invariant.offset some in
    let next : c.loop-rest.offset + (length c.first_line.result.0.now + 1) ≡ c.loop-rest.offset + length
    c.first_line.result.0.now + 1 = omega arith in
    let row : Option Line → Result (Option Row) Fault = λ o. Ok (option_map row_of o) in
    record {
      small = c.loop-rest.invariant.small;
      few = omega arith;
      within = omega (arith, c.first_line.ensures.within);
      offset = λ more. omega (arith, c.first_line.ensures.ended more);
      so_far = elim c.match-found.branch [
        | in-Some+in_ok-push w ↦
            (let added = adds c.loop-rest.number c.loop-rest.offset _ c.loop-rest.deepest c.loop-rest.rest.now
            c.first_line.result.0.now _ _ (map row_of c.loop-rest.lines.items) (row_of w.in-Some.line)
            c.first_line.ensures.parts c.if-number-gt-MAX_LINES.false next
            (c.in-Ok.ensures.row ∙ ap row w.in-Some.is) c.loop-rest.invariant.so_far in
            let pushed : map row_of c.match-found.lines.items ≡ map row_of c.loop-rest.lines.items ++ row_of
            w.in-Some.line ∷ [] = rw (w.lines-is, w.in_ok-push.ensures.items)
            (map_push _ c.loop-rest.lines.items w.in-Some.line) in
            rw (pushed, w.deepest-is) added)
        | in_default w ↦ rw (w.lines-is, w.deepest-is)
            (passes c.loop-rest.number c.loop-rest.offset _ c.loop-rest.deepest c.loop-rest.rest.now
            c.first_line.result.0.now _ _ (map row_of c.loop-rest.lines.items) c.first_line.ensures.parts
            c.if-number-gt-MAX_LINES.false next (c.in-Ok.ensures.row ∙ ap row w.in_default.is)
            c.loop-rest.invariant.so_far)
      ];
    }

pub returns : goal.returns
returns c =
    let rows = read-rows c.args.source.now c.loop-rest.invariant.small in
    let none = rows_at-none c.loop-rest.number c.loop-rest.offset c.loop-rest.deepest c.loop-rest.rest.now
    (eqb-true _ _ (sym c.is_empty.ensures ∙ c.loop-rest-test.false)) in
    rows ∙ is_done _ _ _ none c.loop-rest.invariant.so_far
