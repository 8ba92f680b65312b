use Rattle.std.proofs.Common.{◌∙◌, sym, ap, arith}
use Rattle.std.specs.Prelude.{option_map, ◌<◌, length}
use Rattle.std.proofs.lemmas.Bool.{eqb-true, eqb-false}
use Rattle.occam_layout.specs.Kind.{bytes_of}
use Rattle.occam_layout.proofs.Quoted.{is_some-rest, is_some-empty, is_ill_formed}
use Rattle.occam_layout.proofs.text.Text.new.Goals as goal

pub returns-in_err-len : goal.returns-in_err-len
returns-in_err-len c =
    let some : 0 < length c.loop-rest.rest.now = let differs =
    eqb-false _ _ (sym c.is_empty.ensures ∙ c.loop-rest-test.true) in omega arith in
    ap (option_map bytes_of) c.from_residual.ensures ∙ is_ill_formed c.args.spelling.now c.loop-rest.rest.now some
    c.in_err-len.ensures.found c.loop-rest.invariant

pub loop-rest-preserved : goal.loop-rest-preserved
loop-rest-preserved c =
    is_some-rest c.loop-rest.rest.now c.split_at.result.1.now c.in_ok-len.field-0-0 c.in_ok-len.len
    (record { some = c.in_ok-len.ensures.len.0; found = c.in_ok-len.ensures.found })
    c.split_at.ensures.back ∙ c.loop-rest.invariant

pub invariant_of-result : goal.invariant_of-result
invariant_of-result c = record {
  well_formed =
      sym c.loop-rest.invariant ∙ is_some-empty c.loop-rest.rest.now
      (eqb-true _ _ (sym c.is_empty.ensures ∙ c.loop-rest-test.false));
}
