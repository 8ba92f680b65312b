use Rattle.std.proofs.Common.{◌≡◌, ◌<◌, ◌≤◌, ℕ, List, sum, subst, arith, ap, sym, ◌∙◌, Err}
use Rattle.std.proofs.lemmas.Result.{err_from_is_err_and}
use Rattle.module_format.specs.declared.limits.TheConstants.{MAX_LONG_CODE}
use Rattle.module_builder.specs.declared.fault.GenFault.TheVariants.{Limit}
use Rattle.module_builder.specs.declared.grown.Grown.{Grown}
use Rattle.module_builder.specs.Layouts.{needed, places, IsLeast}
use Rattle.module_builder.specs.Plans.{planned}
use Rattle.module_builder.proofs.Progress.{IsOnTheWay, start, on_the_way_start, on_the_way_more, on_the_way_count}
use Rattle.module_builder.proofs.Progress.{needed_sum, none_fits, least_end, first_is, next_is, end_is}
use Rattle.module_builder.proofs.least.layout.Goals as goal
use Rattle.module_builder.proofs.least.layout.Goals.{In_ok-sizes, In_ok-sizes-2, Then-end}

-- the lengths of all items
abbrev lengths : Grown → List ℕ
lengths grown = planned grown.plan.now grown.sizes.lengths.items

-- those before the first pass
first : (c : In_ok-sizes) → planned c.in_ok-plan.plan c.in_ok-sizes.sizes.items ≡ start c.args.draft.now.code
first c =
    let plan = c.in_ok-plan.plan in
    first_is c.args.draft.now.code plan c.in_ok-sizes.sizes.items c.len.result c.in_ok-plan.ensures.plan
    (c.in_ok-sizes.ensures.items_if_clones_equal (λ (y : ℕ) (e : y ≡ 1). e)) (c.len.ensures ∙ plan.references.ok.0)

-- those after one more pass
next : (c : In_ok-sizes-2)
    → planned c.in_ok-plan.plan c.in_ok-sizes-2.sizes.items ≡ needed c.args.draft.now.code (lengths c.loop-grown.grown)
next c =
    next_is c.args.draft.now.code c.in_ok-plan.plan (lengths c.loop-grown.grown) c.in_ok-sizes-2.sizes.items
    c.deref.result.now c.in_ok-plan.ensures.plan c.deref.ensures.value c.in_ok-sizes-2.ensures

-- the last pass changes nothing
last : (c : Then-end)
    → planned c.in_ok-plan.plan c.in_ok-sizes-2.sizes.items ≡ needed c.args.draft.now.code (lengths c.loop-grown.grown)
    → lengths c.loop-grown.grown ≡ needed c.args.draft.now.code (lengths c.loop-grown.grown)
last c after =
    let same : sum (lengths c.in_ok-next.next) ≡ sum (lengths c.loop-grown.grown) =
    omega (arith, c.if-end.true, c.end.ensures.value, c.end-in-loop-grown.ensures.value) in
    end_is c.args.draft.now.code (lengths c.loop-grown.grown) (lengths c.in_ok-next.next) c.loop-grown.invariant
    (c.in_ok-next.ensures.lengths ∙ after) same

pub returns-in_err-grown-clause-limit : goal.returns-in_err-grown-clause-limit
returns-in_err-grown-clause-limit c = λ is lengths fits.
    let code = c.args.draft.now.code in
    let told = err_from_is_err_and c.from_residual-in_err-grown.result c.from_residual-in_err-grown.ensures.1 in
    let limit : Err c.in_err-grown.field-0.0 ≡ Err Limit = cc in
    let begun = first (goal.at.returns-in_err-grown-clause-limit c).In_ok-sizes in
    none_fits code (start code) (on_the_way_start code)
    (omega (arith, c.in_err-grown.ensures.limit limit, ap sum begun)) lengths fits

pub loop-grown-init : goal.loop-grown-init
loop-grown-init c =
    let code = c.args.draft.now.code in
    let begun = first (goal.at.loop-grown-init c).In_ok-sizes in
    subst (λ (xs : List ℕ). IsOnTheWay code xs) (sym (c.in_ok-grown.ensures.lengths ∙ begun)) (on_the_way_start code)

pub needed_by-requires-clause-count : goal.needed_by-requires-clause-count
needed_by-requires-clause-count c =
    on_the_way_count c.args.draft.now.code (lengths c.loop-grown.grown) c.loop-grown.invariant

pub needed-requires-clause-count : goal.needed-requires-clause-count
needed-requires-clause-count c =
    on_the_way_count c.args.draft.now.code (lengths c.loop-grown.grown) c.loop-grown.invariant

pub places_of-requires : goal.places_of-requires
places_of-requires c =
    on_the_way_count c.args.draft.now.code (lengths c.loop-grown.grown) c.loop-grown.invariant

pub returns-in_err-next-clause-limit : goal.returns-in_err-next-clause-limit
returns-in_err-next-clause-limit c = λ is lens fits.
    let code = c.args.draft.now.code in
    let before = lengths c.loop-grown.grown in
    let told = err_from_is_err_and c.from_residual-in_err-next.result c.from_residual-in_err-next.ensures.1 in
    let limit : Err c.in_err-next.field-0.0 ≡ Err Limit = cc in
    let after = next (goal.at.returns-in_err-next-clause-limit c).In_ok-sizes-2 in
    none_fits code (needed code before) (on_the_way_more code before c.loop-grown.invariant)
    (omega (arith, c.in_err-next.ensures.limit limit, ap sum after)) lens fits

pub loop-grown-preserved : goal.loop-grown-preserved
loop-grown-preserved c =
    let code = c.args.draft.now.code in
    let after = next (goal.at.loop-grown-preserved c).In_ok-sizes-2 in
    subst (λ (xs : List ℕ). IsOnTheWay code xs) (sym (c.in_ok-next.ensures.lengths ∙ after))
    (on_the_way_more code (lengths c.loop-grown.grown) c.loop-grown.invariant)

pub loop-grown-smaller : goal.loop-grown-smaller
loop-grown-smaller c =
    let code = c.args.draft.now.code in
    let before = lengths c.loop-grown.grown in
    let following = lengths c.in_ok-next.next in
    let after = next (goal.at.loop-grown-smaller c).In_ok-sizes-2 in
    let same : sum following ≡ sum (needed code before) = ap sum (c.in_ok-next.ensures.lengths ∙ after) in
    let no_less : sum before ≤ sum (needed code before) = needed_sum code before c.loop-grown.invariant in
    let now = c.end-in-loop-grown.ensures in
    let more : sum before < sum following = omega (arith, c.if-end.false, c.end.ensures.value, now.value) in
    let short : sum following ≤ MAX_LONG_CODE =
    omega (arith, c.end.ensures.value, c.end.ensures.short, now.value, now.short) in
    omega (arith, more, short)

pub returns-then-end-clause-least : goal.returns-then-end-clause-least
returns-then-end-clause-least c =
    let code = c.args.draft.now.code in
    let before = lengths c.loop-grown.grown in
    let at = goal.at.returns-then-end-clause-least c in
    let end = last at.Then-end (next at.In_ok-sizes-2) in
    let now = c.end-in-loop-grown.ensures in
    let short : sum before ≤ MAX_LONG_CODE = omega (arith, now.value, now.short) in
    subst (λ (xs : List ℕ). IsLeast code xs) (end ∙ sym c.in_ok-needed.ensures)
    (least_end code before c.loop-grown.invariant end short)

pub returns-then-end-clause-places : goal.returns-then-end-clause-places
returns-then-end-clause-places c =
    let at = goal.at.returns-then-end-clause-places c in
    let end = last at.Then-end (next at.In_ok-sizes-2) in
    c.in_ok-places_of.ensures
    ∙ ap (λ (xs : List ℕ). places c.args.draft.now.code xs) (end ∙ sym c.in_ok-needed.ensures)
