use Rattle.std.proofs.Common.{rules, ◌≡◌, ◌∙◌, sym, ap, refl, subst, arith, ℤ, pos, ◌+ℤ◌, FitsSigned, is_some}
use Rattle.std.proofs.lemmas.Int.{ints, to_z-of_z}
use Rattle.std.specs.Int.{w32}
use Rattle.states.specs.declared.known.WordFact.{WordFact}
use Rattle.states.specs.Views.{state_of}
use Rattle.local_rules.specs.LoopRules.{is_beside_workspace, loop_block}
use Rattle.rulings.specs.Places.{site_of}
use Rattle.local_rules.proofs.Blocks.{block-by, beside-is, no-second, not-beside, all-pass, owns-by}
use Rattle.local_rules.proofs.loops.block_at.Goals as goal

pub returns-in_err-second-clause-block : goal.returns-in_err-second-clause-block
returns-in_err-second-clause-block c =
    let m = c.args.place.now.module.now in
    c.from_residual-in_err-second.ensures
    ∙ sym (block-by (site_of c.args.place.now) (state_of c.args.state.now) c.args.word _ _ c.writable_word.result
    c.writable_word-2.result (is_beside_workspace c.args.state.now.depth c.args.word) (omega (arith, ints))
    (omega (arith, ints)) (c.writable_word.ensures.allowed m c.requires)
    (c.writable_word-2.ensures.allowed m c.requires) refl
    ∙ no-second (is_some c.writable_word.result) (is_some c.writable_word-2.result) _ (ap is_some c.in_err-second.was))

pub returns-then-not-is_beside_workspace-clause-block : goal.returns-then-not-is_beside_workspace-clause-block
returns-then-not-is_beside_workspace-clause-block c =
    let m = c.args.place.now.module.now in
    let depth = to_z-of_z w32 c.args.state.now.depth (search rules) in
    let word = to_z-of_z w32 c.args.word (search rules) in
    sym (block-by (site_of c.args.place.now) (state_of c.args.state.now) c.args.word _ _ c.writable_word.result
    c.writable_word-2.result c.is_beside_workspace.result (omega (arith, ints))
    (omega (arith, ints)) (c.writable_word.ensures.allowed m c.requires)
    (c.writable_word-2.ensures.allowed m c.requires)
    (beside-is _ _ _ _ _ depth word c.is_beside_workspace.ensures)
    ∙ not-beside (is_some c.writable_word.result) (is_some c.writable_word-2.result) c.is_beside_workspace.result _
    c.if-not-is_beside_workspace.true)

pub returns-clause-block : goal.returns-clause-block
returns-clause-block c =
    let m = c.args.place.now.module.now in
    let s = state_of c.args.state.now in
    let depth = to_z-of_z w32 c.args.state.now.depth (search rules) in
    let word = to_z-of_z w32 c.args.word (search rules) in
    let some = c.in_ok-first.ensures.some in
    let other = c.in_ok-second.ensures.some in
    let first = to_z-of_z w32 c.in_ok-first.first (search rules) in
    let second = to_z-of_z w32 c.in_ok-second.second (search rules) in
    c.loop_block.ensures
    ∙ (ap (λ (k : ℤ). loop_block k c.fact_at.result c.fact_at-2.result) word
    ∙ (ap (λ (f : WordFact). loop_block c.args.word f c.fact_at-2.result)
    (c.fact_at.ensures.value ∙ ap s.frame (first ∙ (some ∙ omega (arith, ints))))
    ∙ ap (loop_block c.args.word (s.frame c.args.word))
    (c.fact_at-2.ensures.value ∙ ap s.frame (second ∙ (other ∙ omega (arith, ints))))))
    ∙ sym (block-by (site_of c.args.place.now) s c.args.word _ _ c.writable_word.result
    c.writable_word-2.result c.is_beside_workspace.result (omega (arith, ints))
    (omega (arith, ints)) (c.writable_word.ensures.allowed m c.requires)
    (c.writable_word-2.ensures.allowed m c.requires)
    (beside-is _ _ _ _ _ depth word c.is_beside_workspace.ensures)
    ∙ all-pass (is_some c.writable_word.result) (is_some c.writable_word-2.result) c.is_beside_workspace.result _
    (ap is_some c.in_ok-first.was) (ap is_some c.in_ok-second.was) c.if-not-is_beside_workspace.false)

pub returns-clause-own : goal.returns-clause-own
returns-clause-own c =
    let m = c.args.place.now.module.now in
    let word = to_z-of_z w32 c.args.word (search rules) in
    let other = c.in_ok-second.ensures.some in
    let second : FitsSigned w32 c.in_ok-second.second = search rules in
    let next : c.in_ok-second.second ≡ c.args.word +ℤ pos 1 = other ∙ omega (arith, ints) in
    owns-by m c.args.state.now.context c.args.word _ _ c.fact_at.result c.fact_at-2.result _ (omega (arith, ints))
    (omega (arith, ints)) (sym (c.writable_word.ensures.allowed m c.requires) ∙ ap is_some c.in_ok-first.was)
    (sym (c.writable_word-2.ensures.allowed m c.requires) ∙ ap is_some c.in_ok-second.was)
    (subst (λ (z : ℤ). FitsSigned w32 z) next second)
    (c.loop_block.ensures ∙ ap (λ (k : ℤ). loop_block k c.fact_at.result c.fact_at-2.result) word)
