use Rattle.std.proofs.Common.{arith, to_z, of_z}
use Rattle.std.specs.Int.{w32}
use Rattle.std.proofs.lemmas.Int.{ints}
use Rattle.states.specs.Views.{state_of}
use Rattle.rulings.specs.Places.{site_of}
use Rattle.local_rules.proofs.RulesTold.{written_told}
use Rattle.local_rules.proofs.stores.writes_through.Goals as goal

pub returns-clause-ruling : goal.returns-clause-ruling
returns-clause-ruling c =
    written_told c.pops_two.result (state_of c.pops_two.new.state) (site_of c.args.place.now) c.args.pointer c.args.size
    (to_z w32 (of_z w32 c.end-end.result)) c.args.leaving (state_of c.args.state.now) (state_of c.leave_words.new.state)
    (omega (arith, ints)) c.in_ok-writes_bytes.ensures.test c.leave_words.ensures.state c.pops_two.ensures.ruling

pub returns-clause-belongs : goal.returns-clause-belongs
returns-clause-belongs c =
    let m = c.args.place.now.module.now in
    c.pops_two.ensures.belongs m (c.leave_words.ensures.belongs m c.requires.belongs)
