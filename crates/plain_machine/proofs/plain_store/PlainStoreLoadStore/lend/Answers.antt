use Rattle.std.proofs.Common.{◌∙◌, ◌⊎◌, ◌<◌, ap, subst, ◌+◌, length, ℕ, List}
use Rattle.std.specs.List.{slice_range}
use Rattle.machine_state.specs.Memory.{place_of}
use Rattle.plain_machine.proofs.PlainCopies.{lent_plain, lent_plain_outside}
use Rattle.plain_machine.proofs.plain_store.PlainStoreLoadStore.lend.Goals as goal

pub returns-in-Some : goal.returns-in-Some
returns-in-Some c =
    let bytes = c.args.self.now in
    c.in-Some.ensures.lookup.0.2
    ∙ (ap (λ (xs : List ℕ). slice_range xs c.place_of-place.result (c.place_of-place.result + c.args.count))
    (c.deref.ensures.value ∙ c.self.view_is)
    ∙ (ap (λ (p : ℕ). slice_range bytes p (p + c.args.count)) c.place_of-place.ensures
    ∙ lent_plain bytes (place_of c.args.address) c.args.count c.requires))

pub returns-in-None : goal.returns-in-None
returns-in-None c =
    lent_plain_outside c.args.self.now (place_of c.args.address) c.args.count c.requires
    (subst (λ (p : ℕ). (p + c.args.count < p) ⊎ (length c.args.self.now < p + c.args.count))
    c.place_of-place.ensures (subst (λ (xs : List ℕ). (c.place_of-place.result + c.args.count < c.place_of-place.result)
    ⊎ (length xs < c.place_of-place.result + c.args.count)) (c.deref.ensures.value ∙ c.self.view_is)
    c.in-None.ensures.lookup.0))
