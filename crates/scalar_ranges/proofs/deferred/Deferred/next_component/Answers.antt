use Rattle.std.proofs.Common.{ℕ, ◌+◌, ap, sym, subst, ◌∙◌, rules, arith}
use Rattle.std.proofs.lemmas.List.{with_items_is, places}
use Rattle.std.specs.Vec.{with_items}
use Rattle.scalar_ranges.specs.Lefts.{known_left, left_at, IsKept, IsKeptApart, moved_mark}
use Rattle.scalar_ranges.specs.TrackedViews.{known_by}
use Rattle.scalar_ranges.specs.Moves.{next_component}
use Rattle.scalar_ranges.specs.Changes.{each}
use Rattle.scalar_ranges.specs.Deferring.{StayApart}
use Rattle.scalar_ranges.specs.ChangeViews.{branchings_from}
use Rattle.scalar_ranges.specs.declared.deferred.Stage.TheVariants.{Ended}
use Rattle.scalar_ranges.proofs.Standing.{has_whole}
use Rattle.scalar_ranges.proofs.LeftLists.{left_dropped, left_taken, kept_dropped, kept_taken}
use Rattle.scalar_ranges.proofs.Postponing.{going_now, taken_now, around_now, outer_now}
use Rattle.scalar_ranges.proofs.KeepingApart.{kept_next}
use Rattle.scalar_ranges.proofs.deferred.Deferred.next_component.Goals as goal
use Rattle.scalar_ranges.proofs.deferred.Deferred.next_component.Goals.{in-Nothing, in-Around, in-Ended}
use Rattle.scalar_ranges.proofs.deferred.Deferred.next_component.Goals.{in-EndedAround}
use Rattle.scalar_ranges.proofs.deferred.Deferred.next_component.Goals.{in-Going+then-self-lt18446744073709551615}
use Rattle.scalar_ranges.proofs.deferred.Deferred.next_component.Goals.{in-Going+else-self-lt18446744073709551615}

pub invariant_of-self : goal.invariant_of-self
invariant_of-self c =
    let old = c.args.self.now in
    let ns = c.args.numbers.now in
    let p = left_at old.mark old.lefts.items in
    let bs = branchings_from old.tracked.blocks.items in
    let cs = branchings_from c.next_component.new.self.blocks.items in
    record {
      kept = elim c.match-self.branch [
        | in-Nothing w ↦ subst (λ t. IsKept t.1.1.1.0 t.1.1.0.items t.1.1.1.1.1.0.items) (sym w.self-is) old.kept
        | in-Around w ↦ subst (λ t. IsKept t.1.1.1.0 t.1.1.0.items t.1.1.1.1.1.0.items) (sym w.self-is) old.kept
        | in-EndedAround w ↦
            subst (λ t. IsKept t.1.1.1.0 t.1.1.0.items t.1.1.1.1.1.0.items) (sym w.self-is) old.kept
        | in-Ended w ↦
            let items = with_items_is old.lefts w.move_marks.new.lefts (search (rules, places)) ∙ w.move_marks.ensures
            ∙ ap (each (moved_mark old.mark 0) ns) w.deref_mut.ensures.value in
            subst (λ t. IsKept t.1.1.1.0 t.1.1.0.items t.1.1.1.1.1.0.items) (sym w.self-is)
            (subst (λ ls. IsKept old.mark ls old.listed.items) (sym items)
            (kept_dropped old.mark ns old.lefts.items old.listed.items old.kept))
        | in-Going+then-self-lt18446744073709551615 w ↦
            let moved = w.move_marks-then-self-lt18446744073709551615 in
            let after = old.mark + 1 in
            let items = with_items_is old.lefts moved.new.lefts (search (rules, places)) ∙ moved.ensures
            ∙ ap (each (moved_mark old.mark after) ns) w.deref_mut-then-self-lt18446744073709551615.ensures.value in
            subst (λ t. IsKept t.1.1.1.0 t.1.1.0.items t.1.1.1.1.1.0.items) (sym w.self-is)
            (subst (λ ls. IsKept after ls old.listed.items) (sym items)
            (kept_taken old.mark after ns old.lefts.items old.listed.items old.kept (omega arith)))
        | in-Going+else-self-lt18446744073709551615 w ↦
            subst (λ t. IsKept t.1.1.1.0 t.1.1.0.items t.1.1.1.1.1.0.items) (sym w.self-is) w.settle.new.self.kept
      ];
      apart = elim c.match-self.branch [
        | in-Nothing w ↦
            subst (λ t. ((a : ℕ) → StayApart a (branchings_from t.1.0.blocks.items) a cs)
            → IsKeptApart t.1.1.1.1.0 (left_at t.1.1.1.0 t.1.1.0.items) cs) (sym w.self-is)
            (λ stays. kept_next old.stage p bs cs stays old.apart) c.next_component.ensures.apart
        | in-Around w ↦
            subst (λ t. ((a : ℕ) → StayApart a (branchings_from t.1.0.blocks.items) a cs)
            → IsKeptApart t.1.1.1.1.0 (left_at t.1.1.1.0 t.1.1.0.items) cs) (sym w.self-is)
            (λ stays. kept_next old.stage p bs cs stays old.apart) c.next_component.ensures.apart
        | in-EndedAround w ↦
            subst (λ t. ((a : ℕ) → StayApart a (branchings_from t.1.0.blocks.items) a cs)
            → IsKeptApart t.1.1.1.1.0 (left_at t.1.1.1.0 t.1.1.0.items) cs) (sym w.self-is)
            (λ stays. kept_next old.stage p bs cs stays old.apart) c.next_component.ensures.apart
        | in-Ended w ↦
            subst (λ t. ((a : ℕ) → StayApart a (branchings_from t.1.0.blocks.items) a cs)
            → IsKeptApart t.1.1.1.1.0 (left_at t.1.1.1.0 t.1.1.0.items) cs) (sym w.self-is)
            (λ stays. subst (λ s. IsKeptApart s
            (left_at old.mark (with_items old.lefts w.move_marks.new.lefts).items) cs) (sym w.in-Ended.is) tt)
            c.next_component.ensures.apart
        | in-Going+then-self-lt18446744073709551615 w ↦
            subst (λ t. ((a : ℕ) → StayApart a (branchings_from t.1.0.blocks.items) a cs)
            → IsKeptApart t.1.1.1.1.0 (left_at t.1.1.1.0 t.1.1.0.items) cs) (sym w.self-is)
            (λ stays. tt) c.next_component.ensures.apart
        | in-Going+else-self-lt18446744073709551615 w ↦
            let now = w.settle.new.self in
            subst (λ t. ((a : ℕ) → StayApart a (branchings_from t.1.0.blocks.items) a cs)
            → IsKeptApart t.1.1.1.1.0 (left_at t.1.1.1.0 t.1.1.0.items) cs) (sym w.self-is)
            (λ stays. kept_next now.stage (left_at now.mark now.lefts.items)
            (branchings_from now.tracked.blocks.items) cs stays now.apart) c.next_component.ensures.apart
      ];
    }

pub returns : goal.returns
returns c =
    let old = c.args.self.now in
    let ns = c.args.numbers.now in
    let k = known_by old.tracked in
    let p = left_at old.mark old.lefts.items in
    ap (known_left c.match-self.self.1.1.1.1.0 (left_at c.match-self.self.1.1.1.0 c.match-self.self.1.1.0.items))
    c.next_component.ensures.known
    ∙ elim c.match-self.branch [
      | in-Nothing w ↦
          ap (λ t. known_left t.1.1.1.1.0 (left_at t.1.1.1.0 t.1.1.0.items) (next_component ns (known_by t.1.0)))
          w.self-is
          ∙ (λ i. known_left (w.in-Nothing.is i) p (next_component ns k))
          ∙ ap (next_component ns) (λ i. known_left (sym w.in-Nothing.is i) p k)
      | in-Around w ↦
          let f = w.in-Around.field-0 in
          ap (λ t. known_left t.1.1.1.1.0 (left_at t.1.1.1.0 t.1.1.0.items) (next_component ns (known_by t.1.0)))
          w.self-is
          ∙ (λ i. known_left (w.in-Around.is i) p (next_component ns k))
          ∙ around_now w.in-Around.field-1 f p ns k.entries k.blocks (has_whole old.tracked)
          ∙ ap (next_component ns) (λ i. known_left (sym w.in-Around.is i) p k)
      | in-EndedAround w ↦
          let f = w.in-EndedAround.field-0 in
          ap (λ t. known_left t.1.1.1.1.0 (left_at t.1.1.1.0 t.1.1.0.items) (next_component ns (known_by t.1.0)))
          w.self-is
          ∙ (λ i. known_left (w.in-EndedAround.is i) p (next_component ns k))
          ∙ outer_now w.in-EndedAround.field-1 f p ns k.entries k.blocks
          ∙ ap (next_component ns) (λ i. known_left (sym w.in-EndedAround.is i) p k)
      | in-Ended w ↦
          let f = w.in-Ended.field-0 in
          let items = with_items_is old.lefts w.move_marks.new.lefts (search (rules, places)) ∙ w.move_marks.ensures
          ∙ ap (each (moved_mark old.mark 0) ns) w.deref_mut.ensures.value in
          ap (λ t. known_left t.1.1.1.1.0 (left_at t.1.1.1.0 t.1.1.0.items) (next_component ns (known_by t.1.0)))
          w.self-is
          ∙ (λ i. known_left (w.in-Ended.is i) (left_at old.mark (items i)) (next_component ns k))
          ∙ taken_now f p (left_at old.mark (each (moved_mark old.mark 0) ns old.lefts.items)) ns k.entries k.blocks
          (has_whole old.tracked) (left_dropped old.mark ns old.lefts.items old.kept.0)
          ∙ ap (next_component ns) (λ i. known_left (sym w.in-Ended.is i) p k)
      | in-Going+then-self-lt18446744073709551615 w ↦
          let f = w.in-Going.form in
          let moved = w.move_marks-then-self-lt18446744073709551615 in
          let after = old.mark + 1 in
          let items = with_items_is old.lefts moved.new.lefts (search (rules, places)) ∙ moved.ensures
          ∙ ap (each (moved_mark old.mark after) ns) w.deref_mut-then-self-lt18446744073709551615.ensures.value in
          let inside = sym c.is_inside.ensures ∙ c.if-not-is_inside.false in
          ap (λ t. known_left t.1.1.1.1.0 (left_at t.1.1.1.0 t.1.1.0.items) (next_component ns (known_by t.1.0)))
          w.self-is
          ∙ (λ i. known_left (Ended f) (left_at after (items i)) (next_component ns k))
          ∙ going_now f p (left_at after (each (moved_mark old.mark after) ns old.lefts.items)) ns k.entries k.blocks
          inside (has_whole old.tracked)
          (left_taken old.mark after ns old.lefts.items old.listed.items old.kept (omega arith))
          ∙ ap (next_component ns) (λ i. known_left (sym w.in-Going.is i) p k)
      | in-Going+else-self-lt18446744073709551615 w ↦
          let now = w.settle.new.self in
          let none = w.settle.ensures.stage in
          let q = left_at now.mark now.lefts.items in
          let j = known_by now.tracked in
          ap (λ t. known_left t.1.1.1.1.0 (left_at t.1.1.1.0 t.1.1.0.items) (next_component ns (known_by t.1.0)))
          w.self-is
          ∙ (λ i. known_left (none i) q (next_component ns j))
          ∙ ap (next_component ns) ((λ i. known_left (sym none i) q j) ∙ w.settle.ensures.known)
    ]
