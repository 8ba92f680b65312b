use Rattle.std.proofs.Common.{arith, to_z, of_z, pos}
use Rattle.std.specs.Int.{w32}
use Rattle.std.proofs.lemmas.Int.{ints}
use Rattle.states.specs.Views.{state_of}
use Rattle.rulings.specs.Places.{site_of}
use Rattle.local_rules.proofs.RulesTold.{stores_told}
use Rattle.local_rules.proofs.stores.store_non_local.Goals as goal

pub returns-clause-ruling : goal.returns-clause-ruling
returns-clause-ruling c =
    stores_told c.writes_through.result (state_of c.writes_through.new.state) (site_of c.args.place.now) c.args.words
    (to_z w32 (of_z w32 c.args.words))
    (state_of c.args.state.now) c.in_ok-a.a c.in_ok-b.b c.in_ok-pointer_of.field-0 c.in_ok-pointer.pointer
    c.stored_word.result c.may_store_word.result
    (to_z w32 (of_z w32 (pos 4))) c.in_ok-a.ensures c.in_ok-b.ensures c.may_store_word.ensures
    c.in_ok-in_bounds.ensures c.in_ok-pointer_of.ensures.answer c.in_ok-pointer.ensures.answer c.stored_word.ensures
    c.writes_through.ensures.ruling (omega (arith, ints)) (omega (arith, ints))
