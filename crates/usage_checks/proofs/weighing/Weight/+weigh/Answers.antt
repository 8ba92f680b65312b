use Rattle.std.proofs.Common.{◌≡◌, ◌+◌, ◌≤◌, ◌∷◌, length, map, arith, ap, sym, ◌∙◌, rules, refl, inl, inr}
use Rattle.std.specs.Option.{option_or}
use Rattle.occam_parser.specs.declared.tree.Body.{the_lemmas}
use Rattle.occam_parser.specs.Views.{expression_of}
use Rattle.occam_parser.specs.LineViews.{declaration_of, replicator_of, guard_of}
use Rattle.occam_parser.specs.Blocks.{Does, Chosen, Guarded}
use Rattle.occam_parser.specs.BlockReading.{with_declarations}
use Rattle.occam_parser.specs.BlockViews.{process_of, construct_of, body_of, choice_of, branch_of, plain_component}
use Rattle.occam_parser.specs.BlockViews.{all_processes, all_choices, all_branches}
use Rattle.occam_parser.proofs.SeenBlocks.{view-Seq, view-Par, view-If, view-Alt}
use Rattle.scalar_ranges.specs.Scopes.{entries_of, known_of}
use Rattle.program_uses.specs.Declaring.{add}
use Rattle.program_uses.specs.Indices.{index_meaning, in_turns}
use Rattle.program_uses.specs.Signatures.{signatures_of}
use Rattle.program_uses.proofs.ScopesExtended.{left_again}
use Rattle.program_sizes.specs.LineSizes.{size_of_expression, size_of_guard, size_of_replicator}
use Rattle.usage_checks.specs.Sizes.{total, measures_of, plain, measures_of_construct, measures_of_components}
use Rattle.usage_checks.specs.Sizes.{measures_of_component}
use Rattle.usage_checks.specs.Weighing.{end_at, measures_of_one, measures_in_turns}
use Rattle.usage_checks.proofs.PartsWeighed.{weighs_both, weighs_as, weighs_if, counts_line, counts_sums, sums_both}
use Rattle.usage_checks.proofs.PartsWeighed.{sums_as, sums_end, measures_behind, weighs_then, weighs_in_as}
use Rattle.usage_checks.proofs.PartsWeighed.{weighs_next, weighs_all}
use Rattle.usage_checks.proofs.TurnsWeighed.{turn_measures, all_turns, turns_next, turns_enough, body_of_seq}
use Rattle.usage_checks.proofs.TurnsWeighed.{body_of_other}
use Rattle.usage_checks.proofs.weighing.Weight.+weigh.Goals as goal

pub weigh-returns : goal.weigh-returns
weigh-returns t c =
    let signatures = signatures_of c.args.signatures.now in
    let es = entries_of c.args.scope.now in
    let p = c.args.process.now in
    let ds = map declaration_of c.deref.result.now in
    let k = construct_of c.deref-2.result.now in
    let entered = c.enter.ensures in
    let below = c.weigh_construct.ensures.weight in
    let view : with_declarations (map declaration_of p.declarations.items)
    (Does p.line (construct_of p.construct.value)) ≡ process_of p = search (rules, the_lemmas) in
    let whole = measures_behind signatures es ds p.line k
    ∙ (λ i. measures_of signatures es (with_declarations (map declaration_of (c.deref.ensures.value i))
    (Does p.line (construct_of (c.deref-2.ensures i)))))
    ∙ ap (measures_of signatures es) view in
    record {
      weight = weighs_as whole
          (weighs_both entered.weight
          (weighs_if (λ e. ap (λ inner. measures_of_construct signatures inner p.line k)
          (entered.entries (below.complete e))) below));
      scope = left_again (known_of c.args.scope.now) (known_of c.enter.new.scope)
          (known_of c.weigh_construct.new.scope) (known_of c.leave.new.self) c.len-count.result
          c.args.scope.now.nested c.len-count.ensures entered.extends c.weigh_construct.ensures.scope
          c.leave.ensures.entries c.leave.ensures.blocks;
    }

pub weigh_construct-returns-in-Seq : goal.weigh_construct-returns-in-Seq
weigh_construct-returns-in-Seq t c =
    let line = c.args.line in
    let signatures = signatures_of c.args.signatures.now in
    let es = entries_of c.args.scope.now in
    let measures = measures_of_construct signatures es line in
    let v = c.in-Seq.processes in
    let seen : plain line 1 ∷ measures_of_components signatures es (all_processes v.items)
    ≡ measures (construct_of c.args.construct.now) =
    elim (c.in-Seq.is) [
      | inl e ↦ ap measures (sym (view-Seq v) ∙ ap construct_of (sym e))
      | inr e ↦ ap measures (sym (view-Par v) ∙ ap construct_of (sym e))
    ] in
    weighs_in_as (ap (λ ps. plain line 1 ∷ measures_of_components signatures es (all_processes ps))
    c.deref-in-Seq.ensures.value ∙ seen)
    (weighs_then (counts_line line 1 refl c.count-in-Seq.ensures) c.weigh_processes.ensures)

pub weigh_construct-returns-in-If : goal.weigh_construct-returns-in-If
weigh_construct-returns-in-If t c =
    let line = c.args.line in
    let signatures = signatures_of c.args.signatures.now in
    let es = entries_of c.args.scope.now in
    let view = sym (view-If c.in-If.choices) ∙ ap construct_of (sym c.in-If.is) in
    weighs_in_as (ap (λ cs. plain line 1 ∷ measures_of_components signatures es (all_choices cs))
    c.deref.ensures.value ∙ ap (measures_of_construct signatures es line) view)
    (weighs_then (counts_line line 1 refl c.count.ensures) c.weigh_choices.ensures)

pub weigh_construct-returns-in-Alt : goal.weigh_construct-returns-in-Alt
weigh_construct-returns-in-Alt t c =
    let line = c.args.line in
    let signatures = signatures_of c.args.signatures.now in
    let es = entries_of c.args.scope.now in
    let view = sym (view-Alt c.in-Alt.branches) ∙ ap construct_of (sym c.in-Alt.is) in
    weighs_in_as (ap (λ bs. plain line 1 ∷ measures_of_components signatures es (all_branches bs))
    c.deref-in-Alt.ensures.value ∙ ap (measures_of_construct signatures es line) view)
    (weighs_then (counts_line line 1 refl c.count-in-Alt.ensures) c.weigh_branches.ensures)

pub weigh_processes-loop-process-preserved : goal.weigh_processes-loop-process-preserved
weigh_processes-loop-process-preserved t c =
    weighs_next (signatures_of c.args.signatures.now) plain_component c.args.processes.now c.loop-process.process-index
    c.process-item.result (omega arith) c.process-item.is c.loop-process.invariant c.weigh.ensures

pub weigh_processes-returns : goal.weigh_processes-returns
weigh_processes-returns t c =
    let done : length c.args.processes.now ≤ c.loop-process.process-index = omega arith in
    weighs_all (signatures_of c.args.signatures.now) plain_component c.args.processes.now c.loop-process.process-index
    done c.loop-process.invariant

pub weigh_choices-loop-choice-preserved : goal.weigh_choices-loop-choice-preserved
weigh_choices-loop-choice-preserved t c =
    weighs_next (signatures_of c.args.signatures.now) choice_of c.args.choices.now c.loop-choice.choice-index
    c.choice-item.result (omega arith) c.choice-item.is c.loop-choice.invariant c.weigh_choice.ensures

pub weigh_choices-returns : goal.weigh_choices-returns
weigh_choices-returns t c =
    let done : length c.args.choices.now ≤ c.loop-choice.choice-index = omega arith in
    weighs_all (signatures_of c.args.signatures.now) choice_of c.args.choices.now c.loop-choice.choice-index done
    c.loop-choice.invariant

pub weigh_branches-loop-branch-preserved : goal.weigh_branches-loop-branch-preserved
weigh_branches-loop-branch-preserved t c =
    weighs_next (signatures_of c.args.signatures.now) branch_of c.args.branches.now c.loop-branch.branch-index
    c.branch-item.result (omega arith) c.branch-item.is c.loop-branch.invariant c.weigh_branch.ensures

pub weigh_branches-returns : goal.weigh_branches-returns
weigh_branches-returns t c =
    let done : length c.args.branches.now ≤ c.loop-branch.branch-index = omega arith in
    weighs_all (signatures_of c.args.signatures.now) branch_of c.args.branches.now c.loop-branch.branch-index done
    c.loop-branch.invariant

pub weigh_choice-returns : goal.weigh_choice-returns
weigh_choice-returns t c =
    let x = c.args.choice.now in
    let signatures = signatures_of c.args.signatures.now in
    let view : Chosen x.line (expression_of x.condition) (process_of x.process) ≡ choice_of x =
    search (rules, the_lemmas) in
    weighs_in_as (ap (measures_of_component signatures (entries_of c.args.scope.now)) view)
    (weighs_then (counts_line x.line (1 + size_of_expression (expression_of x.condition))
    c.size_of_condition.ensures c.count.ensures) c.weigh.ensures)

pub weigh_branch-returns : goal.weigh_branch-returns
weigh_branch-returns t c =
    let x = c.args.branch.now in
    let signatures = signatures_of c.args.signatures.now in
    let view : Guarded x.line (guard_of x.guard) (process_of x.process) ≡ branch_of x = search (rules, the_lemmas) in
    weighs_in_as (ap (measures_of_component signatures (entries_of c.args.scope.now)) view)
    (weighs_then (counts_line x.line (size_of_guard (guard_of x.guard)) c.size_of_guard.ensures c.count.ensures)
    c.weigh.ensures)

pub weigh_turns-loop-turn-preserved : goal.weigh_turns-loop-turn-preserved
weigh_turns-loop-turn-preserved t c =
    let signatures = signatures_of c.args.signatures.now in
    let es = entries_of c.args.scope.now in
    let r = replicator_of c.args.replicator.now in
    let b = body_of c.args.body.now in
    let sequential = c.is_sequence-sequential.result in
    let first = c.turns_of-turns.result.first in
    let before = c.loop-turn.invariant in
    let below = c.weigh_turn.ensures in
    let index = c.index_meaning-meaning.ensures ∙ ap (index_meaning sequential) c.index_at.ensures in
    record {
      weight = turns_next (turn_measures signatures es r b sequential first) c.loop-turn.turn before.weight
          (weighs_as (λ i. measures_of_one signatures (add r.name (index i) (before.scope i).entries) b)
          below.weight);
      scope = below.scope ∙ before.scope;
    }

pub weigh_turns-returns-then-self-gt-GREATEST_SIZE-clause-weight
    : goal.weigh_turns-returns-then-self-gt-GREATEST_SIZE-clause-weight
weigh_turns-returns-then-self-gt-GREATEST_SIZE-clause-weight t c =
    let signatures = signatures_of c.args.signatures.now in
    let es = entries_of c.args.scope.now in
    let r = replicator_of c.args.replicator.now in
    let b = body_of c.args.body.now in
    let sequential = c.is_sequence-sequential.result in
    let f = turn_measures signatures es r b sequential c.turns_of-turns.result.first in
    sums_as (all_turns signatures es r b sequential c.turns_of-turns.result c.is_sequence-sequential.ensures
    c.turns_of-turns.ensures)
    (turns_enough f c.loop-turn.turn c.turns_of-turns.result.count (omega arith) (omega arith)
    c.loop-turn.invariant.weight)

pub weigh_turns-returns-clause-weight : goal.weigh_turns-returns-clause-weight
weigh_turns-returns-clause-weight t c =
    let signatures = signatures_of c.args.signatures.now in
    let es = entries_of c.args.scope.now in
    let r = replicator_of c.args.replicator.now in
    let b = body_of c.args.body.now in
    let sequential = c.is_sequence-sequential.result in
    let f = turn_measures signatures es r b sequential c.turns_of-turns.result.first in
    let all : c.loop-turn.turn ≡ c.turns_of-turns.result.count = omega arith in
    sums_as (ap (λ n. total (in_turns f n)) all
    ∙ all_turns signatures es r b sequential c.turns_of-turns.result c.is_sequence-sequential.ensures
    c.turns_of-turns.ensures) c.loop-turn.invariant.weight

pub weigh_turn-returns : goal.weigh_turn-returns
weigh_turn-returns t c =
    let signatures = signatures_of c.args.signatures.now in
    let b = body_of c.args.body.now in
    let entered = c.enter_index.ensures in
    let below = c.weigh_body.ensures.weight in
    record {
      weight = weighs_both entered.weight
          (weighs_if (λ e. ap (λ inner. measures_of_one signatures inner b) (entered.entries (below.complete e)))
          below);
      scope = left_again (known_of c.args.scope.now) (known_of c.enter_index.new.scope)
          (known_of c.weigh_body.new.scope) (known_of c.leave.new.self) c.len-count.result c.args.scope.now.nested
          c.len-count.ensures entered.extends c.weigh_body.ensures.scope c.leave.ensures.entries
          c.leave.ensures.blocks;
    }

pub weigh_replicated-returns-then-is_sequence : goal.weigh_replicated-returns-then-is_sequence
weigh_replicated-returns-then-is_sequence t c =
    let signatures = signatures_of c.args.signatures.now in
    let es = entries_of c.args.scope.now in
    let r = replicator_of c.args.replicator.now in
    let b = body_of c.args.body.now in
    weighs_in_as (body_of_seq b signatures es c.args.line r (sym c.is_sequence.ensures ∙ c.if-is_sequence.true))
    (weighs_then (counts_line c.args.line (size_of_replicator r) c.size_of_replicator.ensures c.count.ensures)
    (weighs_in_as (ap (λ m. measures_of_one signatures (add r.name m es) b) c.index_meaning-meaning.ensures)
    c.weigh_turn.ensures))

pub weigh_replicated-returns-else-is_sequence : goal.weigh_replicated-returns-else-is_sequence
weigh_replicated-returns-else-is_sequence t c =
    let line = c.args.line in
    let signatures = signatures_of c.args.signatures.now in
    let es = entries_of c.args.scope.now in
    let r = replicator_of c.args.replicator.now in
    let b = body_of c.args.body.now in
    let size = size_of_replicator r in
    let inside = total (measures_in_turns signatures es r b) in
    let turns = c.weigh_turns.ensures in
    let over =
    c.end.ensures.over ∙ ap (λ o. option_or o (end_at line c.weigh_turns.new.self.sum)) c.count.ensures.over in
    record {
      weight = weighs_as (body_of_other b signatures es line r (sym c.is_sequence.ensures ∙ c.if-is_sequence.false))
          (sums_end line (size + inside)
          (sums_both size inside (counts_sums size c.size_of_replicator.ensures c.count.ensures) turns.weight)
          c.end.ensures.sum over c.end.ensures.complete);
      scope = turns.scope;
    }
