use Rattle.std.proofs.Common.{◌≡◌, ◌∙◌, ◌&&◌, ◌++◌, Bool, true, false, List, map, refl, ap}
use Rattle.std.specs.List.{list_all}
use Rattle.machine_state.specs.declared.holding.Span.{Span}
use Rattle.machine_state.specs.declared.spans.Stretch.{Stretch}
use Rattle.machine_state.specs.Covering.{covered}
use Rattle.machine_state.specs.Holding.{may_read, may_write}
use Rattle.machine_state.specs.Spans.{all_pass_within}
use Rattle.machine_state.specs.Stretches.{stretch_view}
use Rattle.machine_state.specs.Views.{holding_view}
use Rattle.joins.proofs.Taking.{covered_both}
use Rattle.joins.proofs.Within.{same_within}
use Rattle.joins.proofs.given.is_held.Goals as goal

second : (a x b : Bool) → x ≡ true → x ≡ a → b ≡ (a && b)
second true x b p q = refl
second false true b p q = absurd (cc)
second false false b p q = absurd (cc)

pub returns : goal.returns
returns c =
    let end = c.args.end in
    let h = holding_view c.args.holding.now in
    let writes = map stretch_view c.args.share.now.writes.items in
    let reads = map stretch_view c.args.share.now.reads.items in
    let first : c.in_ok-writes.writes ≡ list_all (all_pass_within end (may_write h)) writes =
    c.in_ok-writes.ensures
    ∙ (ap (λ (l : List Stretch). list_all (all_pass_within end (covered c.deref-2.result.now)) (map stretch_view l))
    c.deref.ensures.value
    ∙ ap (λ (l : List Span). list_all (all_pass_within end (covered l)) writes) c.deref-2.ensures.value) in
    let held : c.deref-6.result.now ≡ h.writes ++ h.reads =
    c.deref-6.ensures.value ∙ (c.in_ok-readable.ensures
    ∙ (ap (λ (l : List Span). l ++ c.deref-4.result.now) c.deref-3.ensures.value
    ∙ ap (λ (l : List Span). h.writes ++ l) c.deref-4.ensures.value)) in
    let last : c.in_ok-reads.reads ≡ list_all (all_pass_within end (may_read h)) reads =
    c.in_ok-reads.ensures
    ∙ (ap (λ (l : List Stretch). list_all (all_pass_within end (covered c.deref-6.result.now)) (map stretch_view l))
    c.deref-5.ensures.value
    ∙ (ap (λ (l : List Span). list_all (all_pass_within end (covered l)) reads) held
    ∙ same_within end _ _ (λ p. covered_both h.writes h.reads p) reads)) in
    last ∙ second _ c.in_ok-writes.writes _ c.if-not-writes.false first
