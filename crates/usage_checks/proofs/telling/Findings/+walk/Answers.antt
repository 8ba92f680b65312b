use Rattle.std.proofs.Common.{◌≡◌, ◌≤◌, length, map, option_map, Some, arith, refl, ap, sym, subst, ◌∙◌, rules}
use Rattle.std.proofs.lemmas.Grind.{common_steps}
use Rattle.occam_layout.specs.declared.mark.Mark.TheVariants as mark
use Rattle.occam_parser.specs.declared.tree.Body.{the_lemmas}
use Rattle.occam_parser.specs.Terminals.{Mark}
use Rattle.occam_parser.specs.Views.{expression_of}
use Rattle.occam_parser.specs.LineViews.{declaration_of, guard_of, replicator_of}
use Rattle.occam_parser.specs.Blocks.{Does, Chosen, Guarded}
use Rattle.occam_parser.specs.BlockReading.{with_declarations}
use Rattle.occam_parser.specs.BlockViews.{process_of, construct_of, choice_of, branch_of, plain_component}
use Rattle.occam_parser.specs.BlockViews.{body_of, all_processes, all_choices, all_branches}
use Rattle.occam_parser.proofs.SeenBlocks.{view-Seq, view-Par}
use Rattle.scalar_ranges.specs.Scopes.{known_of, meaning_of}
use Rattle.program_uses.specs.Indices.{repeats_of, seen_repeats}
use Rattle.program_uses.specs.ActionViews.{around_of}
use Rattle.usage_checks.specs.AfterProcesses.{left_to, after_component}
use Rattle.usage_checks.specs.ProcessRules.{BreaksComponent}
use Rattle.usage_checks.specs.Walking.{WalksConstruct, WalksBlock, WalksComponent}
use Rattle.usage_checks.proofs.FaultsInOrder.{walks_then, walks_moved}
use Rattle.usage_checks.proofs.ListsServe.{listed_changes, has_behind, has_next, has_elsewhere, has_entered}
use Rattle.usage_checks.proofs.ListsServe.{has_turn}
use Rattle.usage_checks.specs.HavingLists.{HasComponent}
use Rattle.usage_checks.specs.Following.{where_holds}
use Rattle.usage_checks.specs.NameRules.{with_entries}
use Rattle.usage_checks.specs.LineRules.{BreaksCondition}
use Rattle.program_uses.specs.Telling.{At}
use Rattle.usage_checks.specs.Telling.{Walks}
use Rattle.usage_checks.proofs.ComponentsWalked.{walks_behind, walks_after, components_next, components_all}
use Rattle.usage_checks.proofs.ComponentsWalked.{walks_block, walks_par, walks_component, walks_choice, walks_branch}
use Rattle.usage_checks.proofs.TurnsWalked.{turns_start, turns_more, walks_body, walks_replicated}
use Rattle.usage_checks.proofs.telling.Findings.+walk.Goals as goal

pub walk-returns : goal.walk-returns
walk-returns t c =
    let p = c.args.process.now in
    let view : with_declarations (map declaration_of p.declarations.items)
    (Does p.line (construct_of p.construct.value)) ≡ process_of p = search (rules, the_lemmas) in
    walks_behind c.args.site (map declaration_of c.deref.result.now) p.line (construct_of c.deref-2.result.now)
    (known_of c.args.scope.now) (process_of p)
    ((λ i. with_declarations (map declaration_of (c.deref.ensures.value i))
    (Does p.line (construct_of (c.deref-2.ensures i)))) ∙ view) c.walk_declarations.ensures c.walk_construct.ensures

pub walk_process-returns : goal.walk_process-returns
walk_process-returns t c =
    let left = (λ i. record { entries = c.leave.ensures.entries i; blocks = c.leave.ensures.blocks i })
    ∙ ap (λ n. left_to n (known_of c.walk.new.scope)) c.len-count.ensures in
    walks_then (left_to (length (known_of c.args.scope.now).entries)) c.walk.ensures left

pub walk_seq-loop-process-preserved : goal.walk_seq-loop-process-preserved
walk_seq-loop-process-preserved t c =
    components_next c.args.site (Mark mark.Seq) plain_component c.args.processes.now c.loop-process.process-index
    c.process-item.result (known_of c.args.scope.now) (omega arith) c.process-item.is c.loop-process.invariant
    c.walk_process.ensures

pub walk_seq-returns : goal.walk_seq-returns
walk_seq-returns t c =
    let done : length c.args.processes.now ≤ c.loop-process.process-index = omega arith in
    components_all c.args.site (Mark mark.Seq) plain_component c.args.processes.now c.loop-process.process-index
    (known_of c.args.scope.now) done c.loop-process.invariant

pub walk_par-loop-process-preserved : goal.walk_par-loop-process-preserved
walk_par-loop-process-preserved t c =
    components_next c.in_par-inner.result (Mark mark.Par) plain_component c.args.processes.now
    c.loop-process.process-index c.process-item.result (known_of c.begin_par.new.scope) (omega arith)
    c.process-item.is c.loop-process.invariant c.walk_component.ensures

pub walk_par-returns : goal.walk_par-returns
walk_par-returns t c =
    let done : length c.args.processes.now ≤ c.loop-process.process-index = omega arith in
    walks_par c.args.site c.in_par-inner.result c.len.result (all_processes c.args.processes.now)
    (known_of c.args.scope.now) c.in_par-inner.ensures.around c.in_par-inner.ensures.position c.len.ensures
    c.begin_par.ensures
    (components_all c.in_par-inner.result (Mark mark.Par) plain_component c.args.processes.now
    c.loop-process.process-index (known_of c.begin_par.new.scope) done c.loop-process.invariant) c.end.ensures

pub walk_changing-returns : goal.walk_changing-returns
walk_changing-returns t c =
    walks_component c.args.site (process_of c.args.process.now) (known_of c.args.scope.now) c.args.numbers.now
    (walks_moved c.args.self.now (known_of c.args.scope.now) (known_of c.args.scope.now) refl)
    c.requires.numbers c.walk.ensures c.next_component.ensures

pub walk_component-walk_changing-requires : goal.walk_component-walk_changing-requires
walk_component-walk_changing-requires t c =
    let p = c.args.process.now in
    let view : with_declarations (map declaration_of p.declarations.items)
    (Does p.line (construct_of p.construct.value)) ≡ process_of p = search (rules, the_lemmas) in (
      first_of (search (rules, the_lemmas), grind (arith, common_steps)),
      (
        c.requires,
        λ e.
            listed_changes c.args.site.lists.now (around_of c.args.site.around).signatures
            (known_of c.args.scope.now).entries (map declaration_of p.declarations.items) p.line
            (construct_of p.construct.value) (process_of p) c.in-Some.numbers.now view
            (sym c.on_line.ensures ∙ ap (option_map (λ n. n.now)) c.in-Some.is)
            (c.requires e),
      ),
    )

pub walk_component-returns-in-None : goal.walk_component-returns-in-None
walk_component-returns-in-None t c =
    let component = plain_component c.args.process.now in
    walks_after (after_component (around_of c.args.site.around) (Mark mark.Par) component)
    (BreaksComponent (around_of c.args.site.around) c.args.site.position component) c.changes-numbers.ensures.walks
    c.walk_changing-in-None.ensures

pub walk_if-loop-choice-preserved : goal.walk_if-loop-choice-preserved
walk_if-loop-choice-preserved t c =
    components_next c.args.site (Mark mark.If) choice_of c.args.choices.now c.loop-choice.choice-index
    c.choice-item.result (known_of c.begin.new.scope) (omega arith)
    c.choice-item.is c.loop-choice.invariant c.walk_choice.ensures

pub walk_if-returns : goal.walk_if-returns
walk_if-returns t c =
    let done : length c.args.choices.now ≤ c.loop-choice.choice-index = omega arith in
    walks_block c.args.site (Mark mark.If) (all_choices c.args.choices.now) (known_of c.args.scope.now) c.begin.ensures
    (components_all c.args.site (Mark mark.If) choice_of c.args.choices.now c.loop-choice.choice-index
    (known_of c.begin.new.scope) done c.loop-choice.invariant) c.end.ensures

pub walk_alt-loop-branch-preserved : goal.walk_alt-loop-branch-preserved
walk_alt-loop-branch-preserved t c =
    components_next c.args.site (Mark mark.Alt) branch_of c.args.branches.now c.loop-branch.branch-index
    c.branch-item.result (known_of c.begin.new.scope) (omega arith)
    c.branch-item.is c.loop-branch.invariant c.walk_branch.ensures

pub walk_alt-returns : goal.walk_alt-returns
walk_alt-returns t c =
    let done : length c.args.branches.now ≤ c.loop-branch.branch-index = omega arith in
    walks_block c.args.site (Mark mark.Alt) (all_branches c.args.branches.now) (known_of c.args.scope.now)
    c.begin.ensures
    (components_all c.args.site (Mark mark.Alt) branch_of c.args.branches.now c.loop-branch.branch-index
    (known_of c.begin.new.scope) done c.loop-branch.invariant) c.end.ensures

pub walk_choice-returns : goal.walk_choice-returns
walk_choice-returns t c =
    let x = c.args.choice.now in
    let k = known_of c.args.scope.now in
    let view : Chosen x.line (expression_of x.condition) (process_of x.process) ≡ choice_of x =
    search (rules, the_lemmas) in
    subst (λ y. WalksComponent c.args.self.now c.walk.new.self c.args.site (Mark mark.If) y k
    (known_of c.next.new.self)) view
    (walks_choice c.args.site x.line (expression_of x.condition) (process_of x.process) k
    (known_of c.exclude.new.self) c.exclude.ensures c.walk_condition.ensures c.walk.ensures c.next.ensures)

pub walk_branch-returns : goal.walk_branch-returns
walk_branch-returns t c =
    let x = c.args.branch.now in
    let k = known_of c.args.scope.now in
    let view : Guarded x.line (guard_of x.guard) (process_of x.process) ≡ branch_of x = search (rules, the_lemmas) in
    subst (λ y. WalksComponent c.args.self.now c.walk.new.self c.args.site (Mark mark.Alt) y k
    (known_of c.next.new.self)) view
    (walks_branch c.args.site x.line (guard_of x.guard) (process_of x.process) k c.walk_guard.ensures c.walk.ensures
    c.next.ensures)

pub walk_construct-returns-in-Seq : goal.walk_construct-returns-in-Seq
walk_construct-returns-in-Seq t c =
    let v = c.in-Seq.processes in
    let view = ap all_processes c.deref.ensures.value in
    subst (λ x. WalksConstruct c.args.self.now c.walk_seq.new.self c.args.site c.args.line x (known_of c.args.scope.now)
    (known_of c.walk_seq.new.scope)) (sym (view-Seq v) ∙ ap construct_of (sym c.in-Seq.is))
    (subst (λ cs. WalksBlock c.args.self.now c.walk_seq.new.self c.args.site (Mark mark.Seq) cs
    (known_of c.args.scope.now) (known_of c.walk_seq.new.scope)) view c.walk_seq.ensures)

pub walk_construct-returns-in-Par : goal.walk_construct-returns-in-Par
walk_construct-returns-in-Par t c =
    let v = c.in-Par.processes in
    let view = ap all_processes c.deref-in-Par.ensures.value in
    subst (λ x. WalksConstruct c.args.self.now c.walk_par.new.self c.args.site c.args.line x (known_of c.args.scope.now)
    (known_of c.walk_par.new.scope)) (sym (view-Par v) ∙ ap construct_of (sym c.in-Par.is))
    (subst (λ cs. WalksBlock c.args.self.now c.walk_par.new.self c.args.site (Mark mark.Par) cs
    (known_of c.args.scope.now) (known_of c.walk_par.new.scope)) view c.walk_par.ensures)

pub walk_body-loop-turn-init : goal.walk_body-loop-turn-init
walk_body-loop-turn-init t c =
    turns_start c.begin_turns.new.self c.in_body-inner.result (replicator_of c.args.replicator.now)
    (body_of c.args.body.now) (seen_repeats c.repeats_of-repeats.result) (known_of c.begin_turns.new.scope)

pub walk_body-loop-turn-preserved : goal.walk_body-loop-turn-preserved
walk_body-loop-turn-preserved t c =
    turns_more (body_of c.args.body.now) c.in_body-inner.result (replicator_of c.args.replicator.now)
    (seen_repeats c.repeats_of-repeats.result) c.loop-turn.turn (meaning_of c.index_in.result)
    (known_of c.begin_turns.new.scope) c.index_in.ensures c.loop-turn.invariant c.enter.ensures
    c.walk_turn.ensures

pub walk_body-returns : goal.walk_body-returns
walk_body-returns t c =
    let all : c.loop-turn.turn ≡ c.repeats_of-repeats.result.turns.count = omega arith in
    let r = replicator_of c.args.replicator.now in
    let es = (known_of c.args.scope.now).entries in
    walks_body (body_of c.args.body.now) c.args.site c.in_body-inner.result c.args.line r
    (seen_repeats c.repeats_of-repeats.result) c.len.result c.loop-turn.turn (known_of c.args.scope.now)
    (c.repeats_of-repeats.ensures
    ∙ (λ i. repeats_of (c.is_before-counted.ensures i) es (c.is_sequence.ensures i) r))
    c.in_body-inner.ensures.around c.in_body-inner.ensures.position c.len.ensures c.begin_unless.ensures
    c.begin_turns.ensures all c.loop-turn.invariant c.end_body.ensures

pub walk_replicated-returns : goal.walk_replicated-returns
walk_replicated-returns t c =
    walks_replicated c.args.site c.args.line (replicator_of c.args.replicator.now) (body_of c.args.body.now)
    (known_of c.args.scope.now) c.walk_replicator.ensures c.walk_body.ensures

-- ---- lists

pub walk-walk_construct-requires : goal.walk-walk_construct-requires
walk-walk_construct-requires t c =
    let p = c.args.process.now in
    let view : with_declarations (map declaration_of p.declarations.items)
    (Does p.line (construct_of p.construct.value)) ≡ process_of p = search (rules, the_lemmas) in (
      first_of (search (rules, the_lemmas), grind (arith, common_steps)),
      has_behind c.args.site (map declaration_of c.deref.result.now) p.line (construct_of c.deref-2.result.now)
          (known_of c.args.scope.now) (process_of p)
          ((λ i. with_declarations (map declaration_of (c.deref.ensures.value i))
          (Does p.line (construct_of (c.deref-2.ensures i)))) ∙ view) c.requires c.walk_declarations.ensures,
    )

pub walk_seq-walk_process-requires : goal.walk_seq-walk_process-requires
walk_seq-walk_process-requires t c =
    let k = known_of c.args.scope.now in (
      first_of (search (rules, the_lemmas), grind (arith, common_steps)),
      has_next c.args.site (Mark mark.Seq) plain_component c.args.processes.now c.loop-process.process-index
          c.process-item.result k tt c.args.scope.now.nested (omega arith) c.process-item.is c.requires
          (walks_moved c.args.self.now k k refl) c.loop-process.invariant,
    )

pub walk_par-walk_component-requires : goal.walk_par-walk_component-requires
walk_par-walk_component-requires t c =
    let k = known_of c.args.scope.now in
    let inner = c.in_par-inner in
    let cs = all_processes c.args.processes.now in (
      first_of (search (rules, the_lemmas), grind (arith, common_steps)),
      has_next inner.result (Mark mark.Par) plain_component c.args.processes.now c.loop-process.process-index
          c.process-item.result k tt c.args.scope.now.nested (omega arith) c.process-item.is
          (has_elsewhere c.args.self.now c.args.site inner.result cs k inner.ensures.around inner.ensures.lists
          c.requires)
          c.begin_par.ensures c.loop-process.invariant,
    )

pub walk_if-walk_choice-requires : goal.walk_if-walk_choice-requires
walk_if-walk_choice-requires t c = (
  first_of (search (rules, the_lemmas), grind (arith, common_steps)),
  has_next c.args.site (Mark mark.If) choice_of c.args.choices.now c.loop-choice.choice-index
      c.choice-item.result (known_of c.args.scope.now) tt c.args.scope.now.nested (omega arith) c.choice-item.is
      c.requires c.begin.ensures c.loop-choice.invariant,
)

pub walk_alt-walk_branch-requires : goal.walk_alt-walk_branch-requires
walk_alt-walk_branch-requires t c = (
  first_of (search (rules, the_lemmas), grind (arith, common_steps)),
  has_next c.args.site (Mark mark.Alt) branch_of c.args.branches.now c.loop-branch.branch-index
      c.branch-item.result (known_of c.args.scope.now) tt c.args.scope.now.nested (omega arith) c.branch-item.is
      c.requires c.begin.ensures c.loop-branch.invariant,
)

pub walk_choice-walk-requires : goal.walk_choice-walk-requires
walk_choice-walk-requires t c =
    let x = c.args.choice.now in
    let e = expression_of x.condition in
    let k = known_of c.args.scope.now in
    let view : choice_of x ≡ Chosen x.line e (process_of x.process) = search (rules, the_lemmas) in
    let has = subst (λ y. HasComponent c.args.self.now c.args.site y k) view c.requires in (
      first_of (search (rules, the_lemmas), grind (arith, common_steps)),
      has_entered c.args.site (Chosen x.line e (process_of x.process)) k c.args.scope.now.nested has
          (subst (λ j. Walks c.args.self.now c.walk_condition.new.self (known_of c.walk_condition.new.scope)
          (with_entries (where_holds (Some e)) j) (At x.line (BreaksCondition j.entries e))) c.exclude.ensures
          c.walk_condition.ensures),
    )

pub walk_branch-walk-requires : goal.walk_branch-walk-requires
walk_branch-walk-requires t c =
    let x = c.args.branch.now in
    let k = known_of c.args.scope.now in
    let view : branch_of x ≡ Guarded x.line (guard_of x.guard) (process_of x.process) = search (rules, the_lemmas) in
    let has = subst (λ y. HasComponent c.args.self.now c.args.site y k) view c.requires in (
      first_of (search (rules, the_lemmas), grind (arith, common_steps)),
      has_entered c.args.site (Guarded x.line (guard_of x.guard) (process_of x.process)) k c.args.scope.now.nested has
          c.walk_guard.ensures,
    )

pub walk_body-walk_turn-requires : goal.walk_body-walk_turn-requires
walk_body-walk_turn-requires t c =
    let r = replicator_of c.args.replicator.now in
    let es = (known_of c.args.scope.now).entries in (
      first_of (search (rules, the_lemmas), grind (arith, common_steps)),
      has_turn c.args.site c.in_body-inner.result c.args.line r (body_of c.args.body.now)
          (seen_repeats c.repeats_of-repeats.result) c.loop-turn.turn (meaning_of c.index_in.result)
          (known_of c.args.scope.now) c.in_body-inner.ensures.around c.in_body-inner.ensures.lists
          c.args.scope.now.nested (c.repeats_of-repeats.ensures
          ∙ (λ i. repeats_of (c.is_before-counted.ensures i) es (c.is_sequence.ensures i) r)) (omega arith) c.requires
          c.begin_unless.ensures c.begin_turns.ensures c.index_in.ensures c.loop-turn.invariant c.enter.ensures,
    )
