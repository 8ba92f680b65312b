use Rattle.std.proofs.Common.{rules, ◌∙◌, ◌⊎◌, ◌<◌, ap, subst, ◌+◌, length, ℕ, List}
use Rattle.std.specs.List.{slice_range}
use Rattle.machine_state.specs.Memory.{place_of}
use Rattle.machine_state.specs.Tagged.{Tagged}
use Rattle.machine_state.proofs.TaggedCells.{lent, lent_outside}
use Rattle.machine_state.proofs.tagged.TaggedStoreLoadStore.lend.Goals as goal

pub returns-in-Some : goal.returns-in-Some
returns-in-Some c =
    let bytes = c.self.inside.bytes.items in
    c.in-Some.ensures.lookup.0.2
    ∙ (ap (λ (xs : List ℕ). slice_range xs c.place_of-place.result (c.place_of-place.result + c.args.count))
    c.deref.ensures.value
    ∙ (ap (λ (p : ℕ). slice_range bytes p (p + c.args.count)) c.place_of-place.ensures
    ∙ lent bytes c.self.inside.tags.items (place_of c.args.address) c.args.count (record {
      same = search rules;
      made = ap (λ (t : Tagged). t.cells) c.self.view_is;
      defined = c.requires;
    })))

pub returns-in-None : goal.returns-in-None
returns-in-None c =
    lent_outside c.self.inside.bytes.items c.self.inside.tags.items (place_of c.args.address) c.args.count
    (record { same = search rules; made = ap (λ (t : Tagged). t.cells) c.self.view_is; defined = c.requires })
    (subst (λ (p : ℕ). (p + c.args.count < p) ⊎ (length c.self.inside.bytes.items < p + c.args.count))
    c.place_of-place.ensures (subst (λ (xs : List ℕ). (c.place_of-place.result + c.args.count < c.place_of-place.result)
    ⊎ (length xs < c.place_of-place.result + c.args.count)) c.deref.ensures.value c.in-None.ensures.lookup.0))
