use Rattle.std.proofs.Common.{arith}
use Rattle.std.proofs.lemmas.Int.{ints}
use Rattle.states.specs.Views.{state_of}
use Rattle.rulings.specs.Places.{site_of}
use Rattle.rulings.proofs.ArgumentsAgree.{near_end, reads_told, reads_not_told}
use Rattle.rulings.proofs.place.Place.reads_bytes.Goals as goal

pub returns-then-not-may_read_bytes : goal.returns-then-not-may_read_bytes
returns-then-not-may_read_bytes c =
    let near = near_end c.args.pointer.lo c.args.pointer.hi c.requires.near in
    let from = near.0 in
    let to = near.1 in
    reads_not_told (site_of c.args.self.now) (state_of c.args.state.now) c.args.pointer.region _ _ _ _
    (omega (arith, ints)) (omega (arith, ints)) c.if-not-may_read_bytes.ensures

pub returns : goal.returns
returns c =
    let near = near_end c.args.pointer.lo c.args.pointer.hi c.requires.near in
    let from = near.0 in
    let to = near.1 in
    reads_told (site_of c.args.self.now) (state_of c.args.state.now) c.args.pointer.region _ _ _ _
    (omega (arith, ints)) (omega (arith, ints)) c.if-not-may_read_bytes.ensures
