use Rattle.std.proofs.Common.{◌≡◌, suc, ◌<◌, ap, sym, subst, ◌∙◌, is_ok, None, ◌∷◌, List, refl}
use Rattle.scalar_ranges.specs.EntryViews.{entry_of}
use Rattle.scalar_ranges.specs.Lefts.{known_left, left_at, IsKept, IsKeptApart}
use Rattle.scalar_ranges.specs.ChangeViews.{branchings_from}
use Rattle.scalar_ranges.specs.Deferring.{AreApart}
use Rattle.scalar_ranges.specs.TrackedViews.{known_by}
use Rattle.scalar_ranges.specs.Changes.{known_in, Branching, Tracked}
use Rattle.scalar_ranges.proofs.Fitting.{declared_known, if_ok, in_both}
use Rattle.scalar_ranges.proofs.KeepingApart.{kept_if}
use Rattle.scalar_ranges.proofs.Staying.{fewer_apart}
use Rattle.scalar_ranges.proofs.Standing.{has_whole, are_short}
use Rattle.scalar_ranges.proofs.LeftLists.{made_same, made_last, made_none, made_kept, if_err}
use Rattle.scalar_ranges.proofs.Postponing.{same_now, declared_now}
use Rattle.scalar_ranges.proofs.deferred.Deferred.declare.Goals as goal
use Rattle.scalar_ranges.proofs.deferred.Deferred.declare.Goals.{After-push}

kept : (c : After-push) → IsKept c.args.self.now.mark c.push.new.self.items c.args.self.now.listed.items
kept c =
    let old = c.args.self.now in
    made_kept old.mark c.len.result old.lefts.items c.truncate.new.self.items c.push.new.self.items
    c.args.entry.meaning old.listed.items old.kept c.truncate.ensures.items (is_ok c.push.result) c.push.ensures.items

same : (c : After-push)
    → known_left c.args.self.now.stage (left_at c.args.self.now.mark c.push.new.self.items)
    (known_by c.args.self.now.tracked)
    ≡ known_left c.args.self.now.stage (left_at c.args.self.now.mark c.args.self.now.lefts.items)
    (known_by c.args.self.now.tracked)
same c =
    let old = c.args.self.now in
    same_now old.stage (left_at old.mark old.lefts.items) (left_at old.mark c.push.new.self.items)
    (known_by old.tracked) (has_whole old.tracked) (are_short old.tracked)
    (λ i less. made_same old.mark c.len.result old.lefts.items c.truncate.new.self.items c.push.new.self.items
    c.args.entry.meaning old.listed.items old.kept c.truncate.ensures.items (is_ok c.push.result) c.push.ensures.items
    i (subst (λ n. i < n) (sym c.len.ensures) less))

apart : (c : After-push) (bs : List Branching)
    → bs ≡ branchings_from c.args.self.now.tracked.blocks.items
    → IsKeptApart c.args.self.now.stage (left_at c.args.self.now.mark c.push.new.self.items) bs
apart c bs same =
    let old = c.args.self.now in
    let p = left_at old.mark old.lefts.items in
    let q = left_at old.mark c.push.new.self.items in
    let was = branchings_from old.tracked.blocks.items in
    kept_if old.stage p q was bs (λ a kept. subst (AreApart q (suc a)) (sym same)
    (fewer_apart p q (suc a) was (made_none old.mark c.len.result old.lefts.items c.truncate.new.self.items
    c.push.new.self.items c.args.entry.meaning old.listed.items old.kept c.truncate.ensures.items
    (is_ok c.push.result) c.push.ensures.items) kept)) old.apart

pub invariant_of-self : goal.invariant_of-self
invariant_of-self c =
    let at = (goal.at.invariant_of-self c).After-push in
    record { kept = kept at; apart = apart at (branchings_from c.args.self.now.tracked.blocks.items) refl }

pub invariant_of-self-2 : goal.invariant_of-self-2
invariant_of-self-2 c =
    let at = (goal.at.invariant_of-self-2 c).After-push in
    record {
      kept = kept at;
      apart = apart at (branchings_from c.declare.new.self.blocks.items)
          (in_both c.declare.result c.declare.ensures.ok c.declare.ensures.err
          (λ is. ap (λ (t : Tracked). t.blocks) is) (λ is. ap (λ (t : Tracked). t.blocks) is));
    }

pub returns-clause-ok : goal.returns-clause-ok
returns-clause-ok c =
    let old = c.args.self.now in
    let k = known_by old.tracked in
    let e = entry_of c.args.entry in
    let p = left_at old.mark c.push.new.self.items in
    let alike = same (goal.at.returns-clause-ok c).After-push in
    let last = subst (λ n. p n ≡ None) c.len.ensures (made_last old.mark c.len.result old.lefts.items
    c.truncate.new.self.items c.push.new.self.items c.args.entry.meaning old.listed.items old.kept
    c.truncate.ensures.items (is_ok c.push.result) c.push.ensures.items) in
    if_ok c.declare.result c.declare.ensures.ok (λ is.
    ap (known_left old.stage p) (declared_known old.tracked c.declare.new.self e is)
    ∙ declared_now old.stage p e k last
    ∙ (λ i. record { entries = e ∷ (alike i).entries; blocks = (alike i).blocks }))

pub returns-clause-err : goal.returns-clause-err
returns-clause-err c =
    let old = c.args.self.now in
    let p = left_at old.mark c.push.new.self.items in
    if_err c.declare.result c.declare.ensures.err (λ is.
    ap (known_left old.stage p) (ap known_in is) ∙ same (goal.at.returns-clause-err c).After-push)
