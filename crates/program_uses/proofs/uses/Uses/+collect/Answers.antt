use Rattle.std.proofs.Common.{◌≡◌, ℕ, false, map, arith, ap, sym, subst, ◌∙◌, rules, inl, inr}
use Rattle.occam_parser.specs.declared.tree.Body.{the_lemmas}
use Rattle.occam_parser.specs.Views.{expression_of}
use Rattle.occam_parser.specs.LineViews.{declaration_of, replicator_of, guard_of, action_of}
use Rattle.occam_parser.specs.Blocks.{Does, Act, Body, Processes, Chosen, Guarded}
use Rattle.occam_parser.specs.BlockReading.{with_declarations}
use Rattle.occam_parser.specs.BlockViews.{process_of, construct_of, body_of, choice_of, branch_of, plain_component}
use Rattle.occam_parser.specs.BlockViews.{all_processes}
use Rattle.occam_parser.proofs.SeenBlocks.{view-Seq, view-Par, view-If, view-Alt, view-Replicated}
use Rattle.occam_parser.proofs.SeenBlocks.{view-Body-Seq, view-Body-Par, view-Body-If, view-Body-Alt}
use Rattle.scalar_ranges.specs.Scopes.{entries_of, known_of, meaning_of}
use Rattle.program_uses.specs.declared.indices.Turns.{Turns}
use Rattle.program_uses.specs.declared.telling.UsageFault.{UsageFault}
use Rattle.program_uses.specs.ActionViews.{around_of}
use Rattle.program_uses.specs.Components.{BreaksRepeated}
use Rattle.program_uses.specs.Indices.{index_meaning, turns_of, in_turns}
use Rattle.program_uses.specs.Processes.{uses_of, uses_of_construct, uses_of_body, uses_of_component, uses_of_one}
use Rattle.program_uses.specs.Processes.{uses_of_components, uses_in_turn}
use Rattle.program_uses.specs.Sharing.{Shares, SharesInConstruct, SharesInBody, SharesInComponent, SharesInOne}
use Rattle.program_uses.specs.Sharing.{uses_apart, SharesApart}
use Rattle.program_uses.specs.Telling.{IsFirst, Among}
use Rattle.program_uses.proofs.Adding.{adds_both, adds_as}
use Rattle.program_uses.proofs.ComponentsShared.{collects_apart, collects_beside, components_none, components_next}
use Rattle.program_uses.proofs.ComponentsShared.{ComponentsApart, components_all, TurnsApart, turns_none}
use Rattle.program_uses.proofs.ComponentsShared.{one_more_turn}
use Rattle.program_uses.proofs.NamesEntered.{adds_if}
use Rattle.program_uses.proofs.UsesOfProcesses.{uses_behind, shares_behind, collects_only, collects_none, collects_then}
use Rattle.program_uses.proofs.UsesOfProcesses.{collects_at, collects_next, collects_each, collects_whole, turns_next}
use Rattle.program_uses.proofs.UsesOfProcesses.{all_turns, no_turns_apart, left_as_before}
use Rattle.program_uses.proofs.uses.Uses.+collect.Goals as goal

pub collect-returns : goal.collect-returns
collect-returns t c =
    let a = around_of c.args.around in
    let es = entries_of c.args.scope.now in
    let p = c.args.process.now in
    let ds = map declaration_of c.deref.result.now in
    let k = construct_of c.deref-2.result.now in
    let entered = c.enter_all.ensures in
    let below = c.collect_construct.ensures in
    let view : with_declarations (map declaration_of p.declarations.items)
    (Does p.line (construct_of p.construct.value)) ≡ process_of p = search (rules, the_lemmas) in
    let whole = (λ i. with_declarations (map declaration_of (c.deref.ensures.value i))
    (Does p.line (construct_of (c.deref-2.ensures i)))) ∙ view in
    collects_at (uses_of a es) (Shares a es) whole
    (record {
      uses = adds_as (uses_behind a es ds p.line k)
          (adds_both entered.uses
          (adds_if (λ e. ap (λ inner. uses_of_construct a inner p.line k)
          (entered.entries.entries (below.uses.complete e))) below.uses));
      first = λ e.
          subst (λ (Breaks : UsageFault → Type 0). IsFirst (Among c.args.told.now Breaks) c.collect_construct.new.told)
          (ap (λ inner. SharesInConstruct a inner p.line k) (entered.entries.entries (below.uses.complete e))
          ∙ shares_behind a es ds p.line k) (below.first e);
      scope = left_as_before (known_of c.args.scope.now) (known_of c.enter_all.new.scope)
          (known_of c.collect_construct.new.scope) (known_of c.leave.new.self) c.len-count.result
          c.args.scope.now.nested c.len-count.ensures entered.entries entered.blocks below.scope
          c.leave.ensures.entries c.leave.ensures.blocks;
    })

pub collect_branch-returns : goal.collect_branch-returns
collect_branch-returns t c =
    let b = c.args.branch.now in
    let view : Guarded b.line (guard_of b.guard) (process_of b.process) ≡ branch_of b = search (rules, the_lemmas) in
    let a = around_of c.args.around in
    let es = entries_of c.args.scope.now in
    collects_at (uses_of_component a es) (SharesInComponent a es) view (collects_then c.guard.ensures c.collect.ensures)

pub collect_body-returns-in-If : goal.collect_body-returns-in-If
collect_body-returns-in-If t c =
    let x = c.in-If.choice in
    let a = around_of c.args.around in
    let es = entries_of c.args.scope.now in
    let view : Chosen x.line (expression_of x.condition) (process_of x.process) ≡ choice_of x =
    search (rules, the_lemmas) in
    collects_at (uses_of_one a es) (SharesInOne a es) (sym (view-Body-If x) ∙ ap body_of (sym c.in-If.is))
    (collects_at (uses_of_component a es) (SharesInComponent a es) view
    (collects_then c.read.ensures c.collect.ensures))

pub collect_construct-loop-choice-preserved : goal.collect_construct-loop-choice-preserved
collect_construct-loop-choice-preserved t c =
    let a = around_of c.args.around in
    let x = c.choice-item.result in
    let view : Chosen x.line (expression_of x.condition) (process_of x.process) ≡ choice_of x =
    search (rules, the_lemmas) in
    collects_next a choice_of c.deref-choice-items.result.now c.loop-choice.choice-index x (omega arith)
    c.choice-item.is c.loop-choice.invariant
    (collects_at (uses_of_component a (entries_of c.loop-choice.scope))
    (SharesInComponent a (entries_of c.loop-choice.scope)) view
    (collects_then c.read.ensures c.collect-in-loop-choice.ensures))

pub collect_construct-loop-branch-preserved : goal.collect_construct-loop-branch-preserved
collect_construct-loop-branch-preserved t c =
    collects_next (around_of c.args.around) branch_of c.deref-branch-items.result.now c.loop-branch.branch-index
    c.branch-item.result (omega arith) c.branch-item.is c.loop-branch.invariant c.collect_branch.ensures

pub collect_construct-returns-after-loop-choice : goal.collect_construct-returns-after-loop-choice
collect_construct-returns-after-loop-choice t c =
    let a = around_of c.args.around in
    let es = entries_of c.args.scope.now in
    collects_whole a es c.args.line _ (construct_of c.args.construct.now)
    (sym (view-If c.in-If.choices) ∙ ap construct_of (sym c.in-If.is)) (λ n x. x)
    (collects_each a es choice_of c.deref-choice-items.result.now c.in-If.choices.items c.loop-choice.choice-index
    (omega arith)
    c.deref-choice-items.ensures.value c.loop-choice.invariant)

pub collect_construct-returns-in-Action : goal.collect_construct-returns-in-Action
collect_construct-returns-in-Action t c =
    let view : Act (action_of c.in-Action.action) ≡ construct_of c.args.construct.now = search (rules, the_lemmas) in
    collects_at (uses_of_construct (around_of c.args.around) (entries_of c.args.scope.now) c.args.line)
    (SharesInConstruct (around_of c.args.around) (entries_of c.args.scope.now) c.args.line) view
    (collects_only c.args.told.now c.act.ensures)

pub collect_construct-returns-in-Par : goal.collect_construct-returns-in-Par
collect_construct-returns-in-Par t c =
    let v = c.in-Par.processes in
    let a = around_of c.args.around in
    let es = entries_of c.args.scope.now in
    collects_at (uses_of_construct a es c.args.line) (SharesInConstruct a es c.args.line)
    (sym (view-Par v) ∙ ap construct_of (sym c.in-Par.is))
    (collects_at (λ xs. uses_of_components a es (all_processes xs))
    (λ xs. ComponentsApart a es c.args.line (all_processes xs)) c.deref.ensures.value c.collect_par.ensures)

pub collect_construct-returns-in-Replicated : goal.collect_construct-returns-in-Replicated
collect_construct-returns-in-Replicated t c =
    let a = around_of c.args.around in
    let es = entries_of c.args.scope.now in
    let replicated = c.in-Replicated in
    let view = sym (view-Replicated replicated.replicator replicated.body) ∙ ap construct_of (sym replicated.is) in
    collects_at (uses_of_construct a es c.args.line) (SharesInConstruct a es c.args.line) view
    (collects_then c.read-in-Replicated.ensures
    (collects_then c.read-in-Replicated-2.ensures c.collect_replicated.ensures))

pub collect_construct-loop-process-preserved : goal.collect_construct-loop-process-preserved
collect_construct-loop-process-preserved t c =
    collects_next (around_of c.args.around) plain_component c.deref-process-items.result.now
    c.loop-process.process-index c.process-item.result
    (omega arith) c.process-item.is c.loop-process.invariant c.collect.ensures

pub collect_construct-returns-after-loop-branch : goal.collect_construct-returns-after-loop-branch
collect_construct-returns-after-loop-branch t c =
    let a = around_of c.args.around in
    let es = entries_of c.args.scope.now in
    collects_whole a es c.args.line _ (construct_of c.args.construct.now)
    (sym (view-Alt c.in-Alt.branches) ∙ ap construct_of (sym c.in-Alt.is)) (λ n x. x)
    (collects_each a es branch_of c.deref-branch-items.result.now c.in-Alt.branches.items c.loop-branch.branch-index
    (omega arith)
    c.deref-branch-items.ensures.value c.loop-branch.invariant)

pub collect_construct-returns-after-loop-process : goal.collect_construct-returns-after-loop-process
collect_construct-returns-after-loop-process t c =
    let a = around_of c.args.around in
    let es = entries_of c.args.scope.now in
    collects_whole a es c.args.line _ (construct_of c.args.construct.now)
    (sym (view-Seq c.in-Seq.processes) ∙ ap construct_of (sym c.in-Seq.is)) (λ n x. x)
    (collects_each a es plain_component c.deref-process-items.result.now c.in-Seq.processes.items c.loop-process.process-index (omega arith)
    c.deref-process-items.ensures.value c.loop-process.invariant)

pub collect_par-loop-process-init : goal.collect_par-loop-process-init
collect_par-loop-process-init t c =
    components_none Processes (around_of c.args.around) c.args.line c.fresh-before.result c.args.told.now
    (known_of c.args.scope.now)

pub collect_par-loop-process-preserved : goal.collect_par-loop-process-preserved
collect_par-loop-process-preserved t c =
    components_next (around_of c.args.around) c.args.line plain_component c.args.processes.now
    c.loop-process.process-index c.process-item.result (known_of c.args.scope.now) c.fresh-before.ensures (omega arith)
    c.process-item.is c.loop-process.invariant c.collect_beside.ensures

pub collect_par-returns : goal.collect_par-returns
collect_par-returns t c =
    collects_apart c.fresh-before.ensures
    (components_all (around_of c.args.around) c.args.line plain_component c.args.processes.now
    c.loop-process.process-index (known_of c.args.scope.now) (omega arith) c.loop-process.invariant) c.join.ensures

pub collect_beside-returns : goal.collect_beside-returns
collect_beside-returns t c =
    collects_beside c.fresh-used.ensures c.collect.ensures c.join_beside.ensures.uses c.len.ensures
    c.join_beside.ensures.told

pub collect_turn-returns : goal.collect_turn-returns
collect_turn-returns t c =
    let a = around_of c.args.around in
    let b = body_of c.args.body.now in
    let k = known_of c.args.scope.now in
    let entered = c.enter_name.ensures in
    let below = c.collect_body.ensures in
    record {
      uses = adds_both entered.uses
          (adds_if (λ e. ap (λ inner. uses_of_one a inner b) (entered.entries.entries (below.uses.complete e)))
          below.uses);
      first = λ e.
          subst (λ inner. IsFirst (Among c.args.told.now (SharesInOne a inner b)) c.collect_body.new.told)
          (entered.entries.entries (below.uses.complete e)) (below.first e);
      scope = left_as_before k (known_of c.enter_name.new.scope) (known_of c.collect_body.new.scope)
          (known_of c.leave.new.self) c.len-count.result c.args.scope.now.nested c.len-count.ensures entered.entries
          entered.blocks below.scope c.leave.ensures.entries c.leave.ensures.blocks;
    }

pub collect_replicated-returns-in-Par : goal.collect_replicated-returns-in-Par
collect_replicated-returns-in-Par t c =
    let a = around_of c.args.around in
    let es = entries_of c.args.scope.now in
    let r = replicator_of c.args.replicator.now in
    let view = sym (view-Body-Par c.in-Par.field-0) ∙ ap body_of (sym c.in-Par.is) in
    collects_at (uses_of_body a es c.args.line r) (SharesInBody a es c.args.line r) view
    (collects_at (uses_apart a es c.args.line r) (SharesApart a es c.args.line r) (sym view) c.collect_apart.ensures)

pub collect_replicated-returns-in-Seq : goal.collect_replicated-returns-in-Seq
collect_replicated-returns-in-Seq t c =
    let a = around_of c.args.around in
    let k = known_of c.args.scope.now in
    let r = replicator_of c.args.replicator.now in
    let at : (b : Body) (n : ℕ) → BreaksRepeated a k.entries c.args.line r (body_of c.args.body.now) n
    → body_of c.args.body.now ≡ b → BreaksRepeated a k.entries c.args.line r b n =
    λ b n h e. subst (λ b. BreaksRepeated a k.entries c.args.line r b n) e h in
    no_turns_apart a k c.args.line r (body_of c.args.body.now)
    (λ n h. elim c.in-Seq.is [
      | inl x ↦ at _ n h (ap body_of x.1 ∙ view-Body-Seq x.0)
      | inr y ↦ elim y [
        | inl x ↦ at _ n h (ap body_of x.1 ∙ view-Body-If x.0)
        | inr x ↦ at _ n h (ap body_of x.1 ∙ view-Body-Alt x.0)
      ]
    ]) c.collect_turns.ensures

pub collect_turns-loop-turn-init : goal.collect_turns-loop-turn-init
collect_turns-loop-turn-init t c = collects_none c.args.self.now c.args.told.now (known_of c.args.scope.now)

pub collect_turns-loop-turn-preserved : goal.collect_turns-loop-turn-preserved
collect_turns-loop-turn-preserved t c =
    turns_next (around_of c.args.around) (known_of c.args.scope.now) (replicator_of c.args.replicator.now)
    (body_of c.args.body.now) c.is_sequence-sequential.result c.turns_of-turns.result.first c.loop-turn.turn
    (meaning_of c.index_meaning-meaning.result)
    (c.index_meaning-meaning.ensures ∙ ap (index_meaning c.is_sequence-sequential.result) c.index_at.ensures)
    c.loop-turn.invariant c.collect_turn.ensures

pub collect_turns-returns : goal.collect_turns-returns
collect_turns-returns t c =
    let a = around_of c.args.around in
    let es = entries_of c.args.scope.now in
    let r = replicator_of c.args.replicator.now in
    all_turns a (known_of c.args.scope.now) c.args.line r (body_of c.args.body.now) c.is_sequence-sequential.result
    c.turns_of-turns.result c.loop-turn.turn c.is_sequence-sequential.ensures
    (c.turns_of-turns.ensures
    ∙ (λ i. turns_of (c.is_before-counted.ensures i) es (c.is_sequence-sequential.ensures i) r)) (omega arith)
    c.loop-turn.invariant

pub collect_apart-loop-turn-init : goal.collect_apart-loop-turn-init
collect_apart-loop-turn-init t c =
    turns_none (around_of c.args.around) c.args.line (replicator_of c.args.replicator.now) (body_of c.args.body.now)
    c.turns_of-turns.result.first c.fresh-before.result c.args.told.now (known_of c.args.scope.now)

pub collect_apart-loop-turn-preserved : goal.collect_apart-loop-turn-preserved
collect_apart-loop-turn-preserved t c =
    one_more_turn (around_of c.args.around) c.args.line (replicator_of c.args.replicator.now)
    (body_of c.args.body.now) c.turns_of-turns.result.first c.loop-turn.turn
    (meaning_of c.index_meaning-meaning.result) (known_of c.args.scope.now) c.fresh-before.ensures
    (c.index_meaning-meaning.ensures ∙ ap (index_meaning false) c.index_at.ensures) c.loop-turn.invariant
    (collects_beside c.fresh-used.ensures c.collect_turn.ensures c.join_beside.ensures.uses c.len.ensures
    c.join_beside.ensures.told)

pub collect_apart-returns : goal.collect_apart-returns
collect_apart-returns t c =
    let a = around_of c.args.around in
    let es = entries_of c.args.scope.now in
    let r = replicator_of c.args.replicator.now in
    let b = body_of c.args.body.now in
    let last : c.loop-turn.turn ≡ c.turns_of-turns.result.count = omega arith in
    let turns = c.turns_of-turns.ensures ∙ ap (λ counted. turns_of counted es false r) c.is_before.ensures in
    collects_apart c.fresh-before.ensures
    (collects_at (λ (x : Turns × ℕ). in_turns (uses_in_turn a es x.0.first r.name b) x.1)
    (λ x. TurnsApart a es c.args.line r b x.0.first x.1) (λ i. (turns i, (last ∙ ap (λ t. t.count) turns) i))
    c.loop-turn.invariant) c.join.ensures
