use Rattle.std.proofs.Common.{◌≡◌, ◌+◌, ap, sym, subst, ◌∙◌, rules, arith, length}
use Rattle.std.proofs.lemmas.List.{with_items_is, places}
use Rattle.std.specs.Vec.{with_items}
use Rattle.scalar_ranges.specs.Lefts.{known_left, left_at, IsKept, AreBelow, set_all}
use Rattle.scalar_ranges.specs.TrackedViews.{known_by}
use Rattle.scalar_ranges.specs.Moves.{end}
use Rattle.scalar_ranges.specs.ChangeViews.{known_afters}
use Rattle.scalar_ranges.specs.declared.slots.Form.TheVariants.{Whole}
use Rattle.scalar_ranges.specs.declared.deferred.Stage.TheVariants.{Going}
use Rattle.scalar_ranges.proofs.LeftLists.{kept_set, all_known, left_fresh}
use Rattle.scalar_ranges.proofs.Postponing.{none_now}
use Rattle.scalar_ranges.proofs.deferred.Deferred.defer.Goals as goal
use Rattle.scalar_ranges.proofs.deferred.Deferred.defer.Goals.{After-set_all}

items : (c : After-set_all) → (with_items c.args.self.now.lefts c.set_all.new.lefts).items
    ≡ set_all (c.args.self.now.mark + 1) c.in-Some.changes.items c.args.self.now.lefts.items
items c =
    with_items_is c.args.self.now.lefts c.set_all.new.lefts (search (rules, places)) ∙ c.set_all.ensures
    ∙ (λ i. set_all (c.args.self.now.mark + 1) (c.deref-then-are_below.ensures.value i)
    (c.deref_mut.ensures.value i))

pub invariant_of-self : goal.invariant_of-self
invariant_of-self c =
    let old = c.args.self.now in
    let cs = c.in-Some.changes.items in
    record {
      kept = subst (IsKept (old.mark + 1) (with_items old.lefts c.set_all.new.lefts).items)
          (λ i. (sym c.replace-before.ensures.after i).items)
          (subst (λ ls. IsKept (old.mark + 1) ls cs) (sym (items (goal.at.invariant_of-self c).After-set_all))
          (kept_set old.mark (old.mark + 1) cs old.listed.items old.lefts.items old.kept (omega arith)));
      apart = tt;
    }

pub returns-then-are_below : goal.returns-then-are_below
returns-then-are_below c =
    let old = c.args.self.now in
    let cs = c.in-Some.changes.items in
    let ls = old.lefts.items in
    let after = old.mark + 1 in
    let k = known_by c.end_apart.new.self in
    let long : c.len.result ≡ length ls = omega arith in
    let below = subst (λ n. AreBelow n cs) long
    (subst (AreBelow c.len.result) c.deref.ensures.value (c.are_below.ensures c.if-are_below.true)) in
    (λ i. known_left (Going Whole) (left_at after (items (goal.at.returns-then-are_below c).After-set_all i)) k)
    ∙ all_known after cs ls k below
    ∙ ap (known_afters cs) (none_now (Going Whole) (left_at after ls) k
    (left_fresh old.mark after ls old.listed.items old.kept (omega arith)))
    ∙ c.in-Some.ensures.known
    ∙ ap end (λ i. known_left (sym c.requires i) (left_at old.mark ls) (known_by old.tracked))
