use Rattle.std.proofs.Common.{◌∙◌}
use Rattle.occam_layout.proofs.Quoted.{shown-first, shown-none, is_some-rest}
use Rattle.occam_layout.proofs.text.Text.split_first.Goals as goal

pub returns-in_err-byte : goal.returns-in_err-byte
returns-in_err-byte c = rw c.from_residual.ensures
    (shown-none c.args.self.spelling.now c.in_err-byte.ensures.found c.args.self.well_formed)

pub invariant_of-result : goal.invariant_of-result
invariant_of-result c = record {
  well_formed =
      is_some-rest c.args.self.spelling.now c.split_at.result.1.now c.in_ok-byte.byte c.in_ok-byte.len
      (record { some = c.in_ok-byte.ensures.len.0; found = c.in_ok-byte.ensures.found })
      c.split_at.ensures.back ∙ c.args.self.well_formed;
}

pub returns : goal.returns
returns c = shown-first c.args.self.spelling.now c.split_at.result.1.now c.in_ok-byte.byte c.in_ok-byte.len
    (record { some = c.in_ok-byte.ensures.len.0; found = c.in_ok-byte.ensures.found }) c.split_at.ensures.back
    c.args.self.well_formed
