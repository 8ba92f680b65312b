use Rattle.std.proofs.Common.{◌≡◌, ◌∙◌, ◌&&◌, not, ℕ, true, map, length, refl, sym, ap, arith}
use Rattle.std.specs.Prelude.{◌==◌, vec_len}
use Rattle.std.specs.List.{list_all}
use Rattle.std.proofs.lemmas.List.Folds.{list_all-map}
use Rattle.machine_state.specs.Covering.{covered}
use Rattle.machine_state.specs.Spans.{lies_in, runs}
use Rattle.machine_state.specs.Stretches.{stretch_view}
use Rattle.joins.proofs.Taking.{covers_mapped, missing_is}
use Rattle.joins.proofs.Within.{over, all_within, not_all_lie}
use Rattle.joins.proofs.given.lie_within.Goals as goal

pub returns-then-not-all_lie_in : goal.returns-then-not-all_lie_in
returns-then-not-all_lie_in c =
    not_all_lie c.args.end (covered c.args.held.now) (map stretch_view c.args.stretches.now)
    (list_all-map (lies_in c.args.end) stretch_view c.args.stretches.now
    ∙ (sym c.all_lie_in.ensures ∙ c.if-not-all_lie_in.true))

pub returns : goal.returns
returns c =
    let end = c.args.end in
    let held = c.args.held.now in
    let stretches = map stretch_view c.args.stretches.now in
    let places = c.in_ok-places.places.items in
    let lie : list_all (lies_in end) stretches ≡ true =
    list_all-map (lies_in end) stretch_view c.args.stretches.now
    ∙ (sym c.all_lie_in.ensures ∙ c.if-not-all_lie_in.false) in
    let covering = covers_mapped end places c.args.stretches.now c.args.stretches.now refl c.in_ok-places.ensures in
    let items : c.in_ok-missing.missing.items ≡ runs (λ p. over stretches p && not (covered held p)) 0 end =
    c.in_ok-missing.ensures
    ∙ missing_is end held places c.deref.result.now held stretches covering c.deref.ensures.value refl in
    let counted : vec_len c.in_ok-missing.missing ≡ length c.in_ok-missing.missing.items =
    omega (arith, c.in_ok-missing.missing.ok.0) in
    all_within end (covered held) stretches c.is_empty.result lie
    (c.is_empty.ensures ∙ ap (λ (n : ℕ). n == 0) (counted ∙ ap length items))
