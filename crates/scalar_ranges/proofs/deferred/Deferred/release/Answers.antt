use Rattle.std.proofs.Common.{◌≡◌, ℕ, suc, ap, sym, subst, ◌∙◌, rules, Some}
use Rattle.std.proofs.lemmas.List.{with_items_is, places}
use Rattle.std.specs.Vec.{with_items}
use Rattle.scalar_ranges.specs.Changes.{modify, known_with, known_around, AreOutside}
use Rattle.scalar_ranges.specs.ChangeViews.{branchings_from}
use Rattle.scalar_ranges.specs.Entries.{Meaning}
use Rattle.scalar_ranges.specs.declared.deferred.Deferred as code_deferred
use Rattle.scalar_ranges.specs.declared.slots.Form.{Form}
use Rattle.scalar_ranges.specs.declared.deferred.Stage.TheVariants.{Around}
use Rattle.scalar_ranges.specs.EntryViews.{meaning_of}
use Rattle.scalar_ranges.specs.Deferring.{of_form, AreApart}
use Rattle.scalar_ranges.specs.Lefts.{with_mark, IsKept, IsKeptApart, KeepsApart, left_at}
use Rattle.scalar_ranges.specs.TrackedViews.{known_by}
use Rattle.scalar_ranges.proofs.Fitting.{ends_known}
use Rattle.scalar_ranges.proofs.LeftLists.{kept_dead, release_nothing, release_none, release_going, release_beyond}
use Rattle.scalar_ranges.proofs.LeftLists.{release_ended, release_around, release_ended_around}
use Rattle.scalar_ranges.proofs.KeepingApart.{kept_if, none_dead, outside_of, means_same, means_some}
use Rattle.scalar_ranges.proofs.Staying.{fewer_apart}
use Rattle.scalar_ranges.proofs.deferred.Deferred.release.Goals as goal
use Rattle.scalar_ranges.proofs.deferred.Deferred.release.Goals.{After-set_mark, in-Some+in-Nothing, in_default}
use Rattle.scalar_ranges.proofs.deferred.Deferred.release.Goals.{in-Some+in-Going+in-Some-meaning, in-Some+in-Ended}
use Rattle.scalar_ranges.proofs.deferred.Deferred.release.Goals.{in-Some+in-Going+in_default-meaning}
use Rattle.scalar_ranges.proofs.deferred.Deferred.release.Goals.{in-Some+in-EndedAround}
use Rattle.scalar_ranges.proofs.deferred.Deferred.release.Goals.{in-Some+in-Around+in-Some-meaning-2}
use Rattle.scalar_ranges.proofs.deferred.Deferred.release.Goals.{in-Some+in-Around+in_default-meaning-2}

items : (c : After-set_mark) → (with_items c.args.self.now.lefts c.set_mark.new.lefts).items
    ≡ modify (with_mark 0) c.args.number c.args.self.now.lefts.items
items c =
    with_items_is c.args.self.now.lefts c.set_mark.new.lefts (search (rules, places)) ∙ c.set_mark.ensures
    ∙ ap (modify (with_mark 0) c.args.number) c.deref_mut.ensures.value

-- an entry that is put off around the innermost blocks
outside : (old : code_deferred.Deferred) (n : ℕ) (w : Meaning) (f : Form) (a : ℕ) → old.stage ≡ Around f a
    → Some w ≡ left_at old.mark old.lefts.items n → AreOutside n (suc a) (branchings_from old.tracked.blocks.items)
outside old n w f a is left =
    outside_of (left_at old.mark old.lefts.items) n w (suc a) (branchings_from old.tracked.blocks.items) (sym left)
    (subst (λ s. KeepsApart s old.mark old.lefts.items old.tracked) is old.apart)

pub put_around-requires : goal.put_around-requires
put_around-requires c =
    outside c.args.self.now c.args.number (meaning_of c.in-Some.left) c.in-Around.form c.in-Around.further
    c.in-Around.is c.in-Some.ensures

pub put_end_around-requires : goal.put_end_around-requires
put_end_around-requires c =
    let old = c.args.self.now in
    outside_of (left_at old.mark old.lefts.items) c.args.number (meaning_of c.in-Some.left)
    (suc c.in-EndedAround.further) (branchings_from old.tracked.blocks.items) (sym c.in-Some.ensures)
    (subst (λ s. KeepsApart s old.mark old.lefts.items old.tracked) c.in-EndedAround.is old.apart)

pub invariant_of-self : goal.invariant_of-self
invariant_of-self c =
    let old = c.args.self.now in
    let at = items (goal.at.invariant_of-self c).After-set_mark in
    let p = left_at old.mark old.lefts.items in
    let q = left_at old.mark (modify (with_mark 0) c.args.number old.lefts.items) in
    let bs = branchings_from old.tracked.blocks.items in
    let now = branchings_from c.match-left.self.1.0.blocks.items in
    let fewer = none_dead old.mark c.args.number old.lefts.items old.kept.0 in
    record {
      kept = subst (λ ls. IsKept old.mark ls old.listed.items) (sym at)
          (kept_dead old.mark c.args.number old.lefts.items old.listed.items old.kept);
      apart = subst (λ ls. IsKeptApart old.stage (left_at old.mark ls) now) (sym at)
          (elim c.match-left.branch [
            | in-Some+in-Nothing w ↦ subst (λ s. IsKeptApart s q now) (sym w.in-Nothing.is) tt
            | in-Some+in-Going+in-Some-meaning w ↦ subst (λ s. IsKeptApart s q now) (sym w.in-Going.is) tt
            | in-Some+in-Going+in_default-meaning w ↦ subst (λ s. IsKeptApart s q now) (sym w.in-Going.is) tt
            | in-Some+in-Ended w ↦ subst (λ s. IsKeptApart s q now) (sym w.in-Ended.is) tt
            | in-Some+in-EndedAround w ↦
                let a = w.in-EndedAround.further in
                subst (λ s. IsKeptApart s q now) (sym w.in-EndedAround.is)
                (fewer_apart p q (suc a) now fewer
                (subst (λ s. AreApart p (suc a) (branchings_from s.1.0.blocks.items)) (sym w.self-is)
                (w.put_end_around.ensures.apart p (subst (λ s. IsKeptApart s p bs) w.in-EndedAround.is old.apart))))
            | in-Some+in-Around+in-Some-meaning-2 w ↦
                subst (λ s. IsKeptApart s q now) (sym w.in-Around.is)
                (fewer_apart p q (suc w.in-Around.further) now fewer
                (subst (λ s. AreApart p (suc w.in-Around.further) (branchings_from s.1.0.blocks.items)) (sym w.self-is)
                (w.put_around.ensures.apart p (subst (λ s. IsKeptApart s p bs) w.in-Around.is old.apart))))
            | in-Some+in-Around+in_default-meaning-2 w ↦
                kept_if old.stage p q bs now (λ a apart. fewer_apart p q (suc a) now fewer
                (subst (λ s. AreApart p (suc a) (branchings_from s.1.0.blocks.items)) (sym w.self-is) apart))
                old.apart
            | in_default w ↦
                kept_if old.stage p q bs now (λ a apart. fewer_apart p q (suc a) now fewer
                (subst (λ s. AreApart p (suc a) (branchings_from s.1.0.blocks.items)) (sym w.self-is) apart))
                old.apart
          ]);
    }

pub returns-clause-lefts : goal.returns-clause-lefts
returns-clause-lefts c = items (goal.at.returns-clause-lefts c).After-set_mark

pub returns-clause-known : goal.returns-clause-known
returns-clause-known c =
    let old = c.args.self.now in
    let n = c.args.number in
    let mark = old.mark in
    let ls = old.lefts.items in
    let at = items (goal.at.returns-clause-known c).After-set_mark in
    let k = known_by old.tracked in
    let after = known_by c.match-left.self.1.0 in
    elim c.match-left.branch [
      | in-Some+in-Nothing w ↦
          release_nothing mark n ls _ old.kept.0 at old.stage k after w.in-Nothing.is
          (ap (λ s. known_by s.1.0) w.self-is)
      | in-Some+in-Going+in-Some-meaning w ↦
          release_going mark n ls _ old.kept.0 at old.stage k after w.in-Going.form
          (meaning_of w.in-Some-meaning.meaning) (meaning_of w.in-Some.left) w.in-Going.is w.in-Some.ensures
          w.in-Some-meaning.ensures
          (ap (λ s. known_by s.1.0) w.self-is ∙ w.put_other.ensures.known ∙ ap (λ m. known_with n m k) w.join.ensures)
      | in-Some+in-Going+in_default-meaning w ↦
          release_beyond mark n ls _ old.kept.0 at old.stage k after w.in-Going.form (meaning_of w.in-Some.left)
          w.in-Going.is w.in-Some.ensures w.in_default-meaning.ensures (ap (λ s. known_by s.1.0) w.self-is)
      | in-Some+in-Ended w ↦
          release_ended mark n ls _ old.kept.0 at old.stage k after w.in-Ended.form (meaning_of w.in-Some.left)
          w.in-Ended.is w.in-Some.ensures
          (ap (λ s. known_by s.1.0) w.self-is
          ∙ ends_known old.tracked w.put_end.new.self n (λ m. of_form w.in-Ended.form m (meaning_of w.in-Some.left))
          w.put_end.ensures)
      | in-Some+in-EndedAround w ↦
          release_ended_around mark n ls _ old.kept.0 at old.stage k after w.in-EndedAround.further
          w.in-EndedAround.form (meaning_of w.in-Some.left) w.in-EndedAround.is w.in-Some.ensures
          (ap (λ s. known_by s.1.0) w.self-is ∙ w.put_end_around.ensures.known)
      | in-Some+in-Around+in-Some-meaning-2 w ↦
          release_around mark n ls _ old.kept.0 at old.stage k after w.in-Around.further w.in-Around.form
          (meaning_of w.in-Some-meaning-2.meaning) (meaning_of w.in-Some.left) w.in-Around.is w.in-Some.ensures
          w.in-Some-meaning-2.ensures (means_same n (suc w.in-Around.further) old.tracked (outside old n
          (meaning_of w.in-Some.left) w.in-Around.form w.in-Around.further w.in-Around.is w.in-Some.ensures))
          (ap (λ s. known_by s.1.0) w.self-is ∙ w.put_around.ensures.known
          ∙ ap (λ m. known_around (suc w.in-Around.further) n m k) w.join-in-Some-meaning-2.ensures)
      | in-Some+in-Around+in_default-meaning-2 w ↦
          absurd (means_some n w.in-Around.further old.tracked (outside old n (meaning_of w.in-Some.left)
          w.in-Around.form w.in-Around.further w.in-Around.is
          w.in-Some.ensures) w.in_default-meaning-2.ensures)
      | in_default w ↦
          release_none mark n ls _ old.kept.0 at old.stage k after (sym w.in_default.ensures)
          (ap (λ s. known_by s.1.0) w.self-is)
    ]
