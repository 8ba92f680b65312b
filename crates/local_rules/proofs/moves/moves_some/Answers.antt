use Rattle.std.proofs.Common.{arith, to_z, of_z}
use Rattle.std.proofs.lemmas.Int.{ints}
use Rattle.std.proofs.lemmas.Result.{err_from_is_err_and}
use Rattle.std.specs.Int.{w32}
use Rattle.states.specs.Views.{state_of}
use Rattle.rulings.specs.Places.{site_of}
use Rattle.local_rules.proofs.RulesTold.{moves-by, moves_told}
use Rattle.local_rules.proofs.moves.moves_some.Goals as goal

pub returns-in_err-writes_bytes-clause-ruling : goal.returns-in_err-writes_bytes-clause-ruling
returns-in_err-writes_bytes-clause-ruling c =
    let broken = c.from_residual-in_err-writes_bytes in
    let p = err_from_is_err_and broken.result broken.ensures.1 in
    rw (p.1, p.2)
    (moves-by (site_of c.args.place.now) c.args.block.count (to_z w32 (of_z w32 c.args.block.count))
    (to_z w32 (of_z w32 c.end.result)) c.args.block.from c.args.block.to (state_of c.args.state.now) _
    (omega (arith, ints)) c.in_ok-reads_bytes.ensures (let value = c.end.ensures.value in omega (arith, ints))
    (c.in_err-writes_bytes.ensures.test _))

pub returns-clause-ruling : goal.returns-clause-ruling
returns-clause-ruling c =
    moves_told c.come.result (state_of c.come.new.state) (site_of c.args.place.now) c.args.block.count
    (to_z w32 (of_z w32 c.args.block.count)) (to_z w32 (of_z w32 c.end.result)) c.args.block.from c.args.block.to
    (state_of c.args.state.now) (omega (arith, ints)) c.in_ok-reads_bytes.ensures
    (let value = c.end.ensures.value in omega (arith, ints)) c.in_ok-writes_bytes.ensures.test c.come.ensures.ruling
