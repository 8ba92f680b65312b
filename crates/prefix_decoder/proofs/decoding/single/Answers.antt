use Rattle.std.proofs.Common.{◌∙◌, ◌+◌, ◌<◌, get_or, drop, FitsSigned, w32, sym, arith, rules}
use Rattle.std.proofs.lemmas.Int.{to_z-of_z}
use Rattle.std.proofs.lemmas.List.{drop_more}
use Rattle.prefix_decoder.proofs.Outcomes.{fetched-single}
use Rattle.prefix_decoder.proofs.decoding.single.Goals as goal

pub returns : goal.returns
returns c =
    let code = c.args.code.now in
    let at = c.args.at in
    let small : get_or code at 0 < 256 = search rules in
    let fits : FitsSigned w32 c.with_nibble.result = search rules in
    rw (to_z-of_z w32 c.with_nibble.result fits, c.with_nibble.ensures)
    (fetched-single code at (get_or code at 0) (drop (at + 1) code) c.in_ok-fun.fun small
    (drop_more code at 0 (omega arith)) (sym c.from_code.ensures ∙ c.in_ok-fun.was))
