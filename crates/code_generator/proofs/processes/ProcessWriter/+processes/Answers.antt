use Rattle.std.proofs.Common.{◌≡◌, ◌≤◌, length, map, IfOk, arith, refl, ap, sym, subst, ◌∙◌, rules, Some, Err}
use Rattle.std.proofs.Common.{false, option_map, w32, of_z}
use Rattle.occam_layout.specs.declared.mark.Mark.TheVariants as mark
use Rattle.module_builder.specs.declared.fault.GenFault.TheVariants.{Limit, Invalid}
use Rattle.occam_parser.specs.declared.tree.Body.{the_lemmas}
use Rattle.occam_parser.specs.Terminals.{Mark}
use Rattle.occam_parser.specs.Views.{expression_of}
use Rattle.occam_parser.specs.LineViews.{action_of, declaration_of, replicator_of, guard_of}
use Rattle.occam_parser.specs.Lines.{Instance}
use Rattle.occam_parser.specs.Blocks.{Does, Guarded, Replicated}
use Rattle.occam_parser.specs.Constructs.{in_seq, in_if}
use Rattle.occam_parser.specs.BlockReading.{with_declarations}
use Rattle.occam_parser.specs.BlockViews.{process_of, construct_of, choice_of, plain_component, all_processes}
use Rattle.occam_parser.specs.BlockViews.{all_choices, all_branches, branch_of, body_of}
use Rattle.occam_parser.proofs.SeenBlocks.{view-Alt, view-Body-Par, view-Body-Seq, view-If, view-Par, view-Seq}
use Rattle.occam_parser.proofs.SeenBlocks.{view-Replicated}
use Rattle.occam_parser.proofs.SeenBlocks.{view-Body-If, view-Body-Alt, view-Action}
use Rattle.scalar_ranges.specs.Moves.{begin, begin_par}
use Rattle.scalar_ranges.specs.Scopes.{known_of, meaning_of}
use Rattle.program_uses.specs.Changes.{changed_by_construct}
use Rattle.program_uses.specs.Indices.{repeats_of, seen_repeats, index_in}
use Rattle.program_meaning.specs.Sequential.{IsSequentialAction, IsSequentialConstruct}
use Rattle.program_meaning.specs.Sequential.{IsSequentialBody, AreSequential, IsSequentialComponent}
use Rattle.usage_checks.specs.AfterProcesses.{inside, left_to, after_construct}
use Rattle.usage_checks.specs.Following.{after_action, where_holds}
use Rattle.usage_checks.specs.NameRules.{with_entries}
use Rattle.code_generator.specs.declared.alternatives.Replication.{Replication}
use Rattle.code_pieces.proofs.Faults.{handed_on}
use Rattle.code_generator.specs.declared.limits.Limits.{Limits}
use Rattle.code_generator.specs.declared.loops.Turning.{Turning}
use Rattle.code_generator.specs.Alternations.{exits_in, WritesBranch, WritesSome, FollowsAlt}
use Rattle.code_generator.specs.CallViews.{callee_of, surroundings_of}
use Rattle.line_pieces.specs.FrameViews.{frame_seen}
use Rattle.line_pieces.specs.Homes.{Nowhere}
use Rattle.line_pieces.specs.Declarations.{with_home}
use Rattle.code_generator.specs.Branches.{WritesPar}
use Rattle.code_generator.specs.Processes.{Site, Surroundings}
use Rattle.code_generator.specs.Processes.{process_code, line_code, construct_code}
use Rattle.code_generator.specs.Written.{site_of, Writes, WritesConstruct, WritesLine}
use Rattle.code_generator.specs.Written.{choices_in, turning_code, WritesTurning}
use Rattle.code_generator.specs.Written.{Exceeds}
use Rattle.code_generator.specs.Written.{ending_at, WritesEnding}
use Rattle.code_generator.proofs.ActsWritten.{writes_act, writes_from, writes_still, writes_instance, instance_leaves}
use Rattle.code_generator.proofs.Exceeding.{exceeds_from, spent_place}
use Rattle.code_generator.proofs.PartsExceed.{exceeds_declaring, exceeds_process, exceeds_seq}
use Rattle.code_generator.proofs.PartsExceed.{exceeds_taken, exceeds_tested, exceeds_other, exceeds_open}
use Rattle.code_generator.proofs.PartsExceed.{exceeds_choices, exceeds_ending, exceeds_opens, exceeds_passing}
use Rattle.code_generator.proofs.PartsExceed.{exceeds_if, exceeds_if_end, exceeds_turns, exceeds_last_turn}
use Rattle.code_generator.proofs.LoopsExceed.{exceeds_entering, exceeds_body, exceeds_leaving, exceeds_loop}
use Rattle.code_generator.proofs.LoopsExceed.{exceeds_replicated, exceeds_repeated, exceeds_repeated_end}
use Rattle.code_generator.proofs.BranchesFollowed.{goes_on, by_site, alt_follows, where_ok, both_ok, writes_branch}
use Rattle.code_generator.proofs.BranchesFollowed.{branches_next, branches_done, some_next, follows_repeated}
use Rattle.code_generator.proofs.BranchesWritten.{par_next, par_done, par_turns_next, writes_component, writes_no_turns}
use Rattle.code_generator.proofs.BranchesWritten.{writes_repeated_par}
use Rattle.code_generator.proofs.PartsSequential.{construct_sequential, component_sequential, tested_sequential}
use Rattle.code_generator.proofs.PartsSequential.{ending_sequential}
use Rattle.code_generator.proofs.PartsWritten.{writes_none, writes_moved, writes_behind, seq_next, seq_done}
use Rattle.code_generator.proofs.ChoicesWritten.{choice_seen, placed_at, writes_if, writes_taken, writes_tested}
use Rattle.code_generator.proofs.ChoicesWritten.{writes_open}
use Rattle.code_generator.proofs.ChoicesWritten.{tested_next, tested_done, choices_written, writes_opens}
use Rattle.code_generator.proofs.ChoicesWritten.{taken_left, choices_left}
use Rattle.code_generator.proofs.ConstructsSeen.{of_construct, of_parts}
use Rattle.code_generator.proofs.LoopsWritten.{body_left, writes_turning, turning_with, as_passed, is_turning}
use Rattle.code_generator.proofs.LoopsWritten.{writes_loop, writes_replicated}
use Rattle.code_generator.proofs.TurnsWritten.{turns_next, turns_stopped, turns_taken, turns_begin, turns_left}
use Rattle.code_generator.proofs.TurnsWritten.{writes_repeated_if}
use Rattle.code_generator.proofs.processes.ProcessWriter.+processes.Goals as goal

pub write-returns-clause-ok : goal.write-returns-clause-ok
write-returns-clause-ok t c =
    let p = c.args.process.now in
    let whole = process_of p in
    let here = surroundings_of c.args.around.now in
    let begun = c.in_ok-before.ensures in
    let s = c.begin_line.new.self in
    let final = record c.write_construct.new.self { frame = c.leave.new.self } in
    let view : with_declarations (map declaration_of p.declarations.items)
    (Does p.line (construct_of p.construct.value)) ≡ whole = search (rules, the_lemmas) in
    let long : c.len-count.result ≡ length s.frame.homes.items = omega arith in
    writes_still c.in_ok-begin_line.ensures
    (writes_from (process_code here whole) (inside here.around whole) begun.listing (spent_place begun)
    (subst (λ (h : Surroundings). Writes s final (process_code h whole (site_of s))
    (inside h.around whole (known_of s.scope))) c.in_ok-inside.ensures.same
    (writes_behind c.in_ok-inside.inside (map declaration_of c.deref.result.now) p.line
    (construct_of c.deref-2.result.now) whole c.leave.new.self c.len-count.result
    ((λ i. with_declarations (map declaration_of (c.deref.ensures.value i))
    (Does p.line (construct_of (c.deref-2.ensures i)))) ∙ view) c.in_ok-declare_all.ensures.ok
    c.in_ok-write_construct.ensures.ok long c.leave.ensures.homes c.leave.ensures.top c.leave.ensures.outer)))

pub write_construct-returns-in-Seq-clause-ok : goal.write_construct-returns-in-Seq-clause-ok
write_construct-returns-in-Seq-clause-ok t c =
    of_parts (λ x. IfOk c.write_seq.result
    (λ _. WritesConstruct c.args.self.now c.write_seq.new.self c.args.around.now c.args.line x))
    (λ xs. in_seq (all_processes xs)) c.deref.ensures.value (view-Seq c.in-Seq.processes) c.in-Seq.is
    c.write_seq.ensures.ok

pub write_construct-returns-in-If-clause-ok : goal.write_construct-returns-in-If-clause-ok
write_construct-returns-in-If-clause-ok t c =
    of_parts (λ x. IfOk c.write_if.result
    (λ _. WritesConstruct c.args.self.now c.write_if.new.self c.args.around.now c.args.line x))
    (λ xs. in_if (all_choices xs)) c.deref-in-If.ensures.value (view-If c.in-If.choices) c.in-If.is
    c.write_if.ensures.ok

pub act-returns-clause-ok : goal.act-returns-clause-ok
act-returns-clause-ok t c =
    let s = c.args.self.now in
    let walked = c.walk_over.new.self in
    let here = surroundings_of c.args.around.now in
    let action = action_of c.args.action.now in
    let spent = c.in_ok-walk_over.ensures.ok in
    let place = spent_place spent in
    let followed : known_of c.after_action.new.scope
    ≡ with_entries (after_action here.around.signatures action) (known_of c.write_line.new.self.scope) =
    λ i. record { entries = c.after_action.ensures.entries i; blocks = c.after_action.ensures.blocks i } in
    writes_from (line_code here action) (with_entries (after_action here.around.signatures action)) spent.listing place
    (writes_act c.args.around.now c.args.line action c.after_action.new.scope c.in_ok-write_line.ensures.ok followed)

pub write_line-returns-in-Instance-clause-ok : goal.write_line-returns-in-Instance-clause-ok
write_line-returns-in-Instance-clause-ok t c =
    let s = c.args.self.now in
    let name = c.in-Instance.name.now in
    let is : Instance name (map expression_of c.deref.result.now) ≡ action_of c.args.action.now =
    ap (λ xs. Instance name (map expression_of xs)) c.deref.ensures.value ∙ ap action_of (sym c.in-Instance.is) in
    subst (λ x. IfOk c.write_instance.result (λ _. WritesLine s c.write_instance.new.self c.args.around.now x)) is
    c.write_instance.ensures.ok

pub write_instance-end_instance-requires : goal.write_instance-end_instance-requires
write_instance-end_instance-requires t c =
    let call = c.in_ok-call.call in
    instance_leaves (callee_of call.callee) _ _ call.inside (callee_of call.callee).procedure.body c.args.self.now
    c.begin_instance.new.self c.in_ok-body.body c.write.new.self c.in_ok-body.ensures c.in_ok-write.ensures.ok

pub write_instance-returns-clause-ok : goal.write_instance-returns-clause-ok
write_instance-returns-clause-ok t c =
    where_ok c.end_instance.result
    (λ _ ended. writes_instance c.args.around.now c.args.name.now (map expression_of c.args.actuals.now) c.in_ok-call.call
    (option_map meaning_of c.meaning-procedure.result) c.args.self.now c.begin_instance.new.self
    c.in_ok-body.body c.write.new.self c.end_instance.new.self c.meaning-procedure.ensures c.in_ok-call.ensures.call
    c.in_ok-body.ensures c.in_ok-write.ensures.ok ended) c.end_instance.ensures

pub write_seq-loop-process-init : goal.write_seq-loop-process-init
write_seq-loop-process-init t c = writes_none c.args.self.now

pub write_seq-loop-process-preserved : goal.write_seq-loop-process-preserved
write_seq-loop-process-preserved t c =
    seq_next c.args.around.now plain_component c.args.processes.now c.loop-process.process-index c.process-item.result
    (omega arith) c.process-item.is c.loop-process.invariant c.in_ok-write_one.ensures.ok

pub write_seq-returns-clause-ok : goal.write_seq-returns-clause-ok
write_seq-returns-clause-ok t c =
    let done : length c.args.processes.now ≤ c.loop-process.process-index = omega arith in
    seq_done c.args.around.now plain_component c.args.processes.now c.loop-process.process-index done
    c.loop-process.invariant

pub write_one-returns-clause-ok : goal.write_one-returns-clause-ok
write_one-returns-clause-ok t c =
    let left = (λ i. record { entries = c.leave.ensures.entries i; blocks = c.leave.ensures.blocks i })
    ∙ ap (λ n. left_to n (known_of c.write.new.self.scope)) c.len-count.ensures in
    writes_moved c.leave.new.self (left_to (length (known_of c.args.self.now.scope).entries)) left
    c.in_ok-write.ensures.ok

pub write_if-returns-clause-ok : goal.write_if-returns-clause-ok
write_if-returns-clause-ok t c =
    let s = c.args.self.now in
    let begun = record s { label = c.in_ok-self.field-0; scope = c.begin.new.self } in
    let left = choices_left c.args.around.now (all_choices c.args.choices.now) s begun c.write_choices.new.self
    c.end.new.self refl (placed_at s c.begin.new.self c.in_ok-begin.ensures.ok c.in_ok-self.ensures)
    c.in_ok-write_choices.ensures.ok c.end.ensures in
    both_ok c.write_row.result
    (λ _ row site. writes_if c.args.around.now (all_choices c.args.choices.now) s c.write_choices.new.self
    c.write_row.new.self c.end.new.self left row site) c.write_row.ensures.row c.write_row.ensures.site

pub write_taken-returns-clause-ok : goal.write_taken-returns-clause-ok
write_taken-returns-clause-ok t c =
    let narrowed = (λ i. record { entries = c.narrow_by.ensures.entries i; blocks = c.narrow_by.ensures.blocks i })
    ∙ ap (with_entries (where_holds (Some (expression_of c.args.choice.now.condition)))) c.exclude.ensures in
    writes_taken c.args.around.now c.args.choice.now c.args.self.now c.write.new.self c.narrow_by.new.scope c.next.new.self
    narrowed c.in_ok-write.ensures.ok c.next.ensures

pub write_tested-returns-clause-ok : goal.write_tested-returns-clause-ok
write_tested-returns-clause-ok t c =
    let x = c.args.choice.now in
    let s = c.args.self.now in
    let place = c.in_ok-write_test.ensures.site ∙ placed_at s s.scope refl c.in_ok-self.ensures in
    both_ok c.write_row.result
    (λ _ row site. writes_tested c.args.around.now c.args.end x s c.write_test.new.self c.write_taken.new.self
    c.write_row.new.self c.push.new.self c.in_ok-write_test.ensures.code
    (taken_left c.args.around.now (choice_of x) s c.write_test.new.self c.write_taken.new.self place
    c.in_ok-write_taken.ensures.ok)
    c.in_ok-push.ensures row site) c.write_row.ensures.row c.write_row.ensures.site

pub write_open-returns-clause-ok : goal.write_open-returns-clause-ok
write_open-returns-clause-ok t c =
    where_ok c.write_taken.result
    (λ _ taken. writes_open c.args.around.now c.args.end c.args.choice.now c.args.self.now c.write_test.new.self
    c.write_taken.new.self c.in_ok-write_test.ensures.code c.in_ok-write_test.ensures.site taken)
    c.write_taken.ensures.ok

-- ---- alternations

pub write_construct-returns-in-Alt-clause-ok : goal.write_construct-returns-in-Alt-clause-ok
write_construct-returns-in-Alt-clause-ok t c =
    of_construct (λ x. IfOk c.write_alt.result
    (λ _. WritesConstruct c.args.self.now c.write_alt.new.self c.args.around.now c.args.line x))
    (view-Alt c.in-Alt.branches) c.in-Alt.is
    (where_ok c.write_alt.result (λ _ x. record { code = tt; known = x.known; frame = x.frame })
    (subst (λ xs. IfOk c.write_alt.result
    (λ _. FollowsAlt c.args.self.now c.write_alt.new.self c.args.around.now (all_branches xs)))
    c.deref-in-Alt.ensures.value c.write_alt.ensures))

pub write_alt-returns : goal.write_alt-returns
write_alt-returns t c =
    where_ok c.write_row.result
    (λ _ site. alt_follows c.args.around.now (exits_in c.in_ok-labels.labels c.in_ok-guards.guards.sources.items)
    (all_branches c.args.branches.now) c.begin.new.self c.end.new.self
    (goes_on (λ k. k) c.in_ok-guards.ensures c.in_ok-labels.ensures) c.in_ok-begin.ensures.ok
    c.in_ok-write_branches.ensures c.end.ensures (by_site site)) c.write_row.ensures.site

pub write_branches-loop-number-init : goal.write_branches-loop-number-init
write_branches-loop-number-init t c = writes_none c.args.self.now

pub write_branches-loop-number-preserved : goal.write_branches-loop-number-preserved
write_branches-loop-number-preserved t c =
    branches_next c.args.around.now (exits_in c.args.labels c.args.guards.now.sources.items) branch_of c.args.branches.now
    c.loop-number.number c.index-branches-number.result c.in_ok-exits.exits (omega arith) c.index-branches-number.is
    c.in_ok-exits.ensures c.loop-number.invariant c.in_ok-write_branch.ensures

pub write_branches-returns : goal.write_branches-returns
write_branches-returns t c =
    let done : length c.args.branches.now ≤ c.loop-number.number = omega arith in
    branches_done c.args.around.now (exits_in c.args.labels c.args.guards.now.sources.items) branch_of c.args.branches.now
    c.loop-number.number done c.loop-number.invariant

pub write_branch-returns : goal.write_branch-returns
write_branch-returns t c =
    let x = c.args.branch.now in
    let s = c.args.self.now in
    let within = c.write.new.self in
    let moved = record within { scope = c.next.new.self; listing = c.push.new.self } in
    let view : Guarded x.line (guard_of x.guard) (process_of x.process) ≡ branch_of x = search (rules, the_lemmas) in
    where_ok c.write_stop_at.result
    (λ _ stop. subst (λ y. WritesBranch s c.write_stop_at.new.self c.args.around.now c.args.exits y) view
    (writes_branch c.args.around.now x.line (guard_of x.guard) (process_of x.process) c.args.exits s c.write_row.new.self
    c.write_guard.new.self within moved c.write_stop_at.new.self c.in_ok-stops.stops c.in_ok-write_row.ensures.row
    c.in_ok-write_row.ensures.site c.in_ok-stops.ensures c.in_ok-write.ensures.ok c.in_ok-push.ensures c.next.ensures
    refl refl stop)) c.write_stop_at.ensures

pub write_branch_turns-loop-turn-init : goal.write_branch_turns-loop-turn-init
write_branch_turns-loop-turn-init t c = writes_none c.args.self.now

pub write_branch_turns-loop-turn-preserved : goal.write_branch_turns-loop-turn-preserved
write_branch_turns-loop-turn-preserved t c =
    let named = c.in_ok-add_name.ensures in
    some_next c.args.around.now (exits_in c.args.labels c.args.guards.now.sources.items) c.args.turns
    (branch_of c.args.branch.now) c.loop-turn.turn (meaning_of c.index_in.result) c.in_ok-exits.exits
    c.add_name.new.scope c.index_in.ensures (λ i. record { entries = named.ok i; blocks = named.extends.blocks i })
    c.in_ok-exits.ensures c.loop-turn.invariant c.in_ok-write_branch.ensures

pub write_branch_turns-returns : goal.write_branch_turns-returns
write_branch_turns-returns t c =
    let done : c.loop-turn.turn ≡ c.args.turns.count = omega arith in
    subst (λ n. WritesSome c.args.self.now c.loop-turn.self c.args.around.now
    (exits_in c.args.labels c.args.guards.now.sources.items) c.args.turns (branch_of c.args.branch.now) n)
    done c.loop-turn.invariant

pub write_repeated_alt-returns : goal.write_repeated_alt-returns
write_repeated_alt-returns t c =
    let s = c.args.self.now in
    let r = replicator_of c.args.replicator.now in
    let turns : Replication = record {
      name = c.args.replicator.now.name;
      repeats = c.repeats_of-repeats.result;
      count = c.times.result;
    } in
    let counted = c.repeats_of-repeats.ensures
    ∙ (λ i. repeats_of (c.is_before-counted.ensures i) (known_of s.scope).entries false r) in
    let chosen = c.choose.new.self in
    let long : c.len-names.result ≡ length chosen.frame.homes.items = omega arith in
    where_ok c.write_row.result
    (λ _ site. follows_repeated c.args.around.now (exits_in c.in_ok-labels.labels c.in_ok-guards.guards.sources.items)
    c.args.line c.len-names.result r (branch_of c.args.branch.now) turns
    c.leave.new.self c.end.new.self refl counted c.times.ensures
    (goes_on (λ k. k) c.in_ok-guards.ensures c.in_ok-labels.ensures) c.in_ok-begin.ensures.ok
    c.in_ok-add_home.ensures c.in_ok-write_branch_turns.ensures long c.leave.ensures.homes c.leave.ensures.top
    c.leave.ensures.outer c.end.ensures (ap (λ (y : Site). y.known) site) (ap (λ (y : Site). y.frame) site))
    c.write_row.ensures.site

pub write_replicated-returns-in-Alt-clause-ok : goal.write_replicated-returns-in-Alt-clause-ok
write_replicated-returns-in-Alt-clause-ok t c =
    let r = replicator_of c.args.replicator.now in
    let s = c.args.self.now in
    let end = c.write_repeated_alt.new.self in
    subst (λ x. IfOk c.write_repeated_alt.result
    (λ _. WritesConstruct s end c.args.around.now c.args.line (Replicated r x)))
    (sym (view-Body-Alt c.in-Alt.branch) ∙ ap body_of (sym c.in-Alt.is))
    (where_ok c.write_repeated_alt.result (λ _ x. record { code = tt; known = x.known; frame = x.frame })
    c.write_repeated_alt.ensures)

-- ---- replicators

pub write_repeated_if-returns-clause-ok : goal.write_repeated_if-returns-clause-ok
write_repeated_if-returns-clause-ok t c =
    let begins = turns_begin c.args.around.now c.args.line (replicator_of c.args.replicator.now) c.args.self.now
    c.begin.new.self c.add_home.new.self c.in_ok-add_home.ensures c.in_ok-begin.ensures.ok c.in_ok-self.ensures
    c.repeats_of-repeats.ensures c.is_before-counted.ensures in
    let left = turns_left (choice_of c.args.choice.now) c.len-names.result c.leave.new.self c.end.new.self begins
    c.times.ensures c.in_ok-write_turns.ensures.ok (omega arith) c.leave.ensures.homes c.leave.ensures.top
    c.leave.ensures.outer c.end.ensures in
    both_ok c.write_row.result
    (λ _ row site. writes_repeated_if c.args.around.now c.args.line (replicator_of c.args.replicator.now)
    (choice_of c.args.choice.now) c.args.self.now c.write_turns.new.self c.write_row.new.self c.leave.new.self
    c.end.new.self left row site) c.write_row.ensures.row c.write_row.ensures.site

pub write_loop-returns-clause-ok : goal.write_loop-returns-clause-ok
write_loop-returns-clause-ok t c =
    let l = turning_with c.args.replicator.now.name c.index_in.result c.value_or_zero.result
    c.value_or_zero-count.result in
    let turns = is_turning c.args.around.now c.args.line (replicator_of c.args.replicator.now) c.args.self.now l refl
    c.index_in.ensures c.repeats_of-repeats.ensures c.is_before-counted.ensures c.value_or_zero.ensures
    c.value_or_zero-count.ensures (λ none. c.if-count-eq0.false (ap (of_z w32) none)) in
    where_ok c.write_turning.result
    (λ _ turning. writes_loop (process_of c.args.process.now) c.args.changed.now turns
    (subst (λ (x : Turning). WritesTurning c.args.self.now c.write_turning.new.self c.args.around.now x c.args.changed.now
    (process_of c.args.process.now)) (as_passed l (search rules) (search rules)) turning)) c.write_turning.ensures.ok

pub write_turning-returns-clause-ok : goal.write_turning-returns-clause-ok
write_turning-returns-clause-ok t c =
    let s = c.args.self.now in
    let l = c.args.turning in
    let p = process_of c.args.process.now in
    let enters = c.in_ok-enter_loop.ensures.ok in
    let long : c.len-names.result ≡ length s.frame.homes.items = omega arith in
    where_ok c.leave_loop.result
    (λ _ leaves. writes_turning c.args.around.now p l c.args.changed.now c.len-names.result s.frame.top s.label enters
    (body_left c.args.around.now p l c.args.changed.now c.len-names.result s.frame.top s.label enters
    c.in_ok-write_one.ensures.ok long refl refl) leaves) c.leave_loop.ensures.ok

pub write_replicated-returns-in_ok-write_loop-in-Seq-clause-ok :
    goal.write_replicated-returns-in_ok-write_loop-in-Seq-clause-ok
write_replicated-returns-in_ok-write_loop-in-Seq-clause-ok t c =
    let r = replicator_of c.args.replicator.now in
    let p = c.in-Seq.process in
    let here = surroundings_of c.args.around.now in
    let whole = Replicated r (body_of c.args.body.now) in
    let found = c.find.new.self in
    let spent = c.in_ok-find-in-Seq.ensures.ok in
    let place = spent_place spent in
    let is = ap (Replicated r) (sym (view-Body-Seq p) ∙ ap body_of (sym c.in-Seq.is)) in
    writes_from (construct_code here c.args.line whole) (after_construct here.around c.args.line whole) spent.listing
    place (writes_replicated c.args.around.now c.args.line r (process_of p) whole c.deref.result.now
    c.variables_changed_in.new.scope {s = found} is c.variables_changed_in.ensures.scope
    (c.deref.ensures.value ∙ c.in_ok-changed-in-Seq.ensures.numbers) c.in_ok-write_loop-in-Seq.ensures.ok)

-- ---- PARs

pub write_construct-returns-in-Par-clause-ok : goal.write_construct-returns-in-Par-clause-ok
write_construct-returns-in-Par-clause-ok t c =
    let s = c.args.self.now in
    let end = c.write_par.new.self in
    of_construct (λ x. IfOk c.write_par.result (λ _. WritesConstruct s end c.args.around.now c.args.line x))
    (view-Par c.in-Par.processes) c.in-Par.is
    (subst (λ xs. IfOk c.write_par.result (λ _. WritesPar s end c.args.around.now (all_processes xs)))
    c.deref-in-Par.ensures.value c.write_par.ensures)

pub write_par-loop-process-init : goal.write_par-loop-process-init
write_par-loop-process-init t c = record { code = tt; known = refl; frame = refl }

pub write_par-loop-process-preserved : goal.write_par-loop-process-preserved
write_par-loop-process-preserved t c =
    par_next c.args.around.now plain_component c.args.processes.now c.loop-process.process-index c.process-item.result
    (omega arith) c.process-item.is c.loop-process.invariant c.in_ok-write_component.ensures

pub write_par-returns : goal.write_par-returns
write_par-returns t c =
    let done : length c.args.processes.now ≤ c.loop-process.process-index = omega arith in
    let begins = c.in_ok-begin_par.ensures.ok ∙ ap (λ s. begin_par (known_of s)) c.in_ok-fork.ensures.scope in
    where_ok c.write_fork.result
    (λ _ kept. par_done c.args.around.now plain_component c.args.processes.now c.loop-process.process-index c.end.new.self
    done begins (ap frame_seen c.in_ok-fork.ensures.frame) c.loop-process.invariant c.end.ensures kept)
    c.write_fork.ensures

pub write_component-returns : goal.write_component-returns
write_component-returns t c =
    writes_component c.args.around.now (process_of c.args.process.now) c.deref-2.result.now c.in_ok-outside.outside
    c.variables_changed.new.scope c.next_component.new.self c.variables_changed.ensures.scope
    (c.deref-2.ensures.value ∙ c.in_ok-changed.ensures.numbers) c.in_ok-outside.ensures c.in_ok-write.ensures.ok
    c.in_ok-end_branch.ensures c.next_component.ensures

pub write_components-loop-turn-init : goal.write_components-loop-turn-init
write_components-loop-turn-init t c = record { code = tt; known = refl; frame = refl }

pub write_components-loop-turn-preserved : goal.write_components-loop-turn-preserved
write_components-loop-turn-preserved t c =
    let named = c.in_ok-add_name.ensures in
    par_turns_next c.args.around.now c.args.name.now (seen_repeats c.args.repeats) (plain_component c.args.process.now)
    c.loop-turn.turn (meaning_of c.index_in.result) c.add_name.new.scope c.index_in.ensures
    (λ i. record { entries = named.ok i; blocks = named.extends.blocks i }) c.loop-turn.invariant
    c.in_ok-write_component.ensures

pub write_repeated_par-returns-then-not-repeats : goal.write_repeated_par-returns-then-not-repeats
write_repeated_par-returns-then-not-repeats t c =
    let r = replicator_of c.args.replicator.now in
    let counted = c.repeats_of-repeats.ensures
    ∙ (λ i. repeats_of (c.is_before-counted.ensures i) (known_of c.args.self.now.scope).entries false r) in
    writes_no_turns c.args.around.now c.args.line r (process_of c.args.process.now)
    (seen_repeats c.repeats_of-repeats.result) c.args.self.now counted (search rules)

pub write_repeated_par-returns : goal.write_repeated_par-returns
write_repeated_par-returns t c =
    let s = c.args.self.now in
    let r = replicator_of c.args.replicator.now in
    let counted = c.repeats_of-repeats.ensures
    ∙ (λ i. repeats_of (c.is_before-counted.ensures i) (known_of s.scope).entries false r) in
    let begins = c.in_ok-begin_par.ensures.ok ∙ ap (λ s. begin_par (known_of s)) c.in_ok-fork.ensures.scope in
    let named = c.in_ok-add_home.ensures ∙ ap (λ f. with_home Nowhere (frame_seen f)) c.in_ok-fork.ensures.frame in
    let long : c.len-names.result ≡ length s.frame.homes.items = omega arith in
    where_ok c.write_turns_fork.result
    (λ _ kept. writes_repeated_par c.args.around.now c.args.line c.len-names.result r (process_of c.args.process.now)
    (seen_repeats c.repeats_of-repeats.result) c.leave.new.self c.end.new.self counted (search rules) begins named
    c.in_ok-write_components.ensures long c.leave.ensures.homes c.leave.ensures.top c.leave.ensures.outer c.end.ensures
    kept) c.write_turns_fork.ensures

pub write_replicated-returns-in-Par-clause-ok : goal.write_replicated-returns-in-Par-clause-ok
write_replicated-returns-in-Par-clause-ok t c =
    let r = replicator_of c.args.replicator.now in
    let s = c.args.self.now in
    let p = c.in-Par.process in
    let is = ap (Replicated r) (sym (view-Body-Par p) ∙ ap body_of (sym c.in-Par.is)) in
    subst (λ x. IfOk c.write_repeated_par.result (λ _. WritesConstruct s c.write_repeated_par.new.self c.args.around.now
    c.args.line x)) is c.write_repeated_par.ensures

-- ---- what is too much

pub write-returns-in_err-declare_all-clause-limit : goal.write-returns-in_err-declare_all-clause-limit
write-returns-in_err-declare_all-clause-limit t c = λ e.
    let p = c.args.process.now in
    let here = surroundings_of c.args.around.now in
    let begun = c.in_ok-before.ensures in
    let ds = map declaration_of c.deref.result.now in
    let view : with_declarations (map declaration_of p.declarations.items)
    (Does p.line (construct_of p.construct.value)) ≡ process_of p = search (rules, the_lemmas) in
    let fault = handed_on c.from_residual-in_err-declare_all.result c.in_err-declare_all.field-0.0 Limit
    c.from_residual-in_err-declare_all.ensures.1 e in
    exceeds_from c.args.around.now.limits c.args.self.now c.begin_line.new.self (process_code here (process_of p))
    begun.listing (spent_place begun)
    (exceeds_declaring c.args.around.now.limits c.begin_line.new.self here ds p.line (construct_of p.construct.value)
    (process_of p)
    ((λ i. with_declarations (map declaration_of (c.deref.ensures.value i))
    (Does p.line (construct_of p.construct.value))) ∙ view) (c.in_err-declare_all.ensures.limit (ap Err fault)))

pub write-returns-in_err-write_construct-clause-limit : goal.write-returns-in_err-write_construct-clause-limit
write-returns-in_err-write_construct-clause-limit t c = λ e.
    let p = c.args.process.now in
    let whole = process_of p in
    let s = c.begin_line.new.self in
    let inside = c.in_ok-inside.inside in
    let begun = c.in_ok-before.ensures in
    let fault = handed_on c.from_residual-in_err-write_construct.result c.in_err-write_construct.field-0.0 Limit
    c.from_residual-in_err-write_construct.ensures.1 e in
    let view : with_declarations (map declaration_of p.declarations.items)
    (Does p.line (construct_of p.construct.value)) ≡ whole = search (rules, the_lemmas) in
    exceeds_from c.args.around.now.limits c.args.self.now s (process_code (surroundings_of c.args.around.now) whole)
    begun.listing (spent_place begun)
    (subst (λ (x : Limits × Surroundings). Exceeds x.0 s.listing (process_code x.1 whole (site_of s)))
    (λ i. (c.in_ok-inside.ensures.limits i, c.in_ok-inside.ensures.same i))
    (exceeds_process inside.limits inside (map declaration_of c.deref.result.now) p.line
    (construct_of c.deref-2.result.now) whole
    ((λ i. with_declarations (map declaration_of (c.deref.ensures.value i))
    (Does p.line (construct_of (c.deref-2.ensures i)))) ∙ view) c.in_ok-declare_all.ensures.ok
    (c.in_err-write_construct.ensures.limit (ap Err fault))))

pub write_construct-returns-in-Seq-clause-limit : goal.write_construct-returns-in-Seq-clause-limit
write_construct-returns-in-Seq-clause-limit t c = λ e.
    of_parts (λ x. Exceeds c.args.around.now.limits c.args.self.now.listing
    (construct_code (surroundings_of c.args.around.now) c.args.line x (site_of c.args.self.now)))
    (λ xs. in_seq (all_processes xs)) c.deref.ensures.value (view-Seq c.in-Seq.processes) c.in-Seq.is
    (c.write_seq.ensures.limit e)

pub write_construct-returns-in-If-clause-limit : goal.write_construct-returns-in-If-clause-limit
write_construct-returns-in-If-clause-limit t c = λ e.
    of_parts (λ x. Exceeds c.args.around.now.limits c.args.self.now.listing
    (construct_code (surroundings_of c.args.around.now) c.args.line x (site_of c.args.self.now)))
    (λ xs. in_if (all_choices xs)) c.deref-in-If.ensures.value (view-If c.in-If.choices) c.in-If.is
    (c.write_if.ensures.limit e)

pub act-returns-in_err-write_line-clause-limit : goal.act-returns-in_err-write_line-clause-limit
act-returns-in_err-write_line-clause-limit t c = λ e.
    let s = c.args.self.now in
    let walked = c.walk_over.new.self in
    let action = action_of c.args.action.now in
    let spent = c.in_ok-walk_over.ensures.ok in
    let place = spent_place spent in
    let fault = handed_on c.from_residual-in_err-write_line.result c.in_err-write_line.field-0.0 Limit
    c.from_residual-in_err-write_line.ensures.1 e in
    exceeds_from c.args.around.now.limits s walked (line_code (surroundings_of c.args.around.now) action) spent.listing place
    (c.in_err-write_line.ensures.limit (ap Err fault))

pub write_seq-returns-in_err-write_one-clause-limit : goal.write_seq-returns-in_err-write_one-clause-limit
write_seq-returns-in_err-write_one-clause-limit t c = λ e.
    let fault = handed_on c.from_residual.result c.in_err-write_one.field-0.0 Limit c.from_residual.ensures.1 e in
    exceeds_seq c.args.around.now.limits c.args.around.now plain_component c.args.processes.now c.loop-process.process-index
    c.process-item.result (omega arith) c.process-item.is c.loop-process.invariant
    (c.in_err-write_one.ensures.limit (ap Err fault))

pub write_if-returns-in_err-write_choices-clause-limit : goal.write_if-returns-in_err-write_choices-clause-limit
write_if-returns-in_err-write_choices-clause-limit t c = λ e.
    let s = c.args.self.now in
    let begun = record s { label = c.in_ok-self.field-0; scope = c.begin.new.self } in
    let fault = handed_on c.from_residual-in_err-write_choices.result c.in_err-write_choices.field-0.0 Limit
    c.from_residual-in_err-write_choices.ensures.1 e in
    exceeds_if c.args.around.now.limits (surroundings_of c.args.around.now) (all_choices c.args.choices.now) s begun refl
    (placed_at s c.begin.new.self c.in_ok-begin.ensures.ok c.in_ok-self.ensures)
    (c.in_err-write_choices.ensures.limit (ap Err fault))

pub write_if-returns-clause-limit : goal.write_if-returns-clause-limit
write_if-returns-clause-limit t c = λ e.
    let s = c.args.self.now in
    let begun = record s { label = c.in_ok-self.field-0; scope = c.begin.new.self } in
    let left = choices_left c.args.around.now (all_choices c.args.choices.now) s begun c.write_choices.new.self
    c.end.new.self refl (placed_at s c.begin.new.self c.in_ok-begin.ensures.ok c.in_ok-self.ensures)
    c.in_ok-write_choices.ensures.ok c.end.ensures in
    exceeds_if_end c.args.around.now.limits c.args.around.now (all_choices c.args.choices.now) s c.write_choices.new.self
    c.end.new.self left (c.write_row.ensures.limit e)

pub write_taken-returns-in_err-write-clause-limit : goal.write_taken-returns-in_err-write-clause-limit
write_taken-returns-in_err-write-clause-limit t c = λ e.
    let narrowed = (λ i. record { entries = c.narrow_by.ensures.entries i; blocks = c.narrow_by.ensures.blocks i })
    ∙ ap (with_entries (where_holds (Some (expression_of c.args.choice.now.condition)))) c.exclude.ensures in
    let fault = handed_on c.from_residual.result c.in_err-write.field-0.0 Limit c.from_residual.ensures.1 e in
    exceeds_taken c.args.around.now.limits c.args.self.now (surroundings_of c.args.around.now) c.args.choice.now
    c.narrow_by.new.scope narrowed (c.in_err-write.ensures.limit (ap Err fault))

pub write_tested-returns-in_err-write_taken-clause-limit : goal.write_tested-returns-in_err-write_taken-clause-limit
write_tested-returns-in_err-write_taken-clause-limit t c = λ e.
    let s = c.args.self.now in
    let fault = handed_on c.from_residual-in_err-write_taken.result c.in_err-write_taken.field-0.0 Limit
    c.from_residual-in_err-write_taken.ensures.1 e in
    exceeds_tested c.args.around.now.limits (surroundings_of c.args.around.now) c.args.end c.args.choice.now s
    c.write_test.new.self c.in_ok-write_test.ensures.code
    (c.in_ok-write_test.ensures.site ∙ placed_at s s.scope refl c.in_ok-self.ensures)
    (c.in_err-write_taken.ensures.limit (ap Err fault))

pub write_tested-returns-clause-limit : goal.write_tested-returns-clause-limit
write_tested-returns-clause-limit t c = λ e.
    let x = c.args.choice.now in
    let s = c.args.self.now in
    exceeds_other c.args.around.now.limits c.args.around.now c.args.end x s c.write_test.new.self c.write_taken.new.self
    c.push.new.self c.in_ok-write_test.ensures.code
    (taken_left c.args.around.now (choice_of x) s c.write_test.new.self c.write_taken.new.self
    (c.in_ok-write_test.ensures.site ∙ placed_at s s.scope refl c.in_ok-self.ensures) c.in_ok-write_taken.ensures.ok)
    c.in_ok-push.ensures (c.write_row.ensures.limit e)

pub write_open-returns-clause-limit : goal.write_open-returns-clause-limit
write_open-returns-clause-limit t c = λ e.
    exceeds_open c.args.around.now.limits (surroundings_of c.args.around.now) c.args.end c.args.choice.now c.args.self.now
    c.write_test.new.self c.in_ok-write_test.ensures.code c.in_ok-write_test.ensures.site
    (c.write_taken.ensures.limit e)

pub write_repeated_if-returns-in_err-write_turns-clause-limit :
    goal.write_repeated_if-returns-in_err-write_turns-clause-limit
write_repeated_if-returns-in_err-write_turns-clause-limit t c = λ e.
    let fault = handed_on c.from_residual-in_err-write_turns.result c.in_err-write_turns.field-0.0 Limit
    c.from_residual-in_err-write_turns.ensures.1 e in
    exceeds_repeated c.args.around.now.limits (choice_of c.args.choice.now)
    (turns_begin c.args.around.now c.args.line (replicator_of c.args.replicator.now) c.args.self.now
    c.begin.new.self c.add_home.new.self c.in_ok-add_home.ensures c.in_ok-begin.ensures.ok c.in_ok-self.ensures
    c.repeats_of-repeats.ensures c.is_before-counted.ensures)
    c.times.ensures (c.in_err-write_turns.ensures.limit (ap Err fault))

pub write_repeated_if-returns-clause-limit : goal.write_repeated_if-returns-clause-limit
write_repeated_if-returns-clause-limit t c = λ e.
    let begins = turns_begin c.args.around.now c.args.line (replicator_of c.args.replicator.now) c.args.self.now
    c.begin.new.self c.add_home.new.self c.in_ok-add_home.ensures c.in_ok-begin.ensures.ok c.in_ok-self.ensures
    c.repeats_of-repeats.ensures c.is_before-counted.ensures in
    let left = turns_left (choice_of c.args.choice.now) c.len-names.result c.leave.new.self c.end.new.self begins
    c.times.ensures c.in_ok-write_turns.ensures.ok (omega arith) c.leave.ensures.homes c.leave.ensures.top
    c.leave.ensures.outer c.end.ensures in
    exceeds_repeated_end c.args.around.now.limits c.args.around.now c.args.line (replicator_of c.args.replicator.now)
    (choice_of c.args.choice.now) c.args.self.now c.write_turns.new.self c.leave.new.self c.end.new.self left
    (c.write_row.ensures.limit e)

pub write_loop-returns-clause-limit : goal.write_loop-returns-clause-limit
write_loop-returns-clause-limit t c = λ e.
    let s = c.args.self.now in
    let l = turning_with c.args.replicator.now.name c.index_in.result c.value_or_zero.result
    c.value_or_zero-count.result in
    let turns = is_turning c.args.around.now c.args.line (replicator_of c.args.replicator.now) c.args.self.now l refl
    c.index_in.ensures c.repeats_of-repeats.ensures c.is_before-counted.ensures c.value_or_zero.ensures
    c.value_or_zero-count.ensures (λ none. c.if-count-eq0.false (ap (of_z w32) none)) in
    exceeds_loop c.args.around.now.limits (process_of c.args.process.now) c.args.changed.now turns
    (subst (λ (x : Turning). Exceeds c.args.around.now.limits s.listing (turning_code (surroundings_of c.args.around.now) x
    c.args.changed.now (process_of c.args.process.now) (site_of s))) (as_passed l (search rules) (search rules))
    (c.write_turning.ensures.limit e))

pub write_turning-returns-in_err-enter_loop-clause-limit : goal.write_turning-returns-in_err-enter_loop-clause-limit
write_turning-returns-in_err-enter_loop-clause-limit t c = λ e.
    let fault = handed_on c.from_residual.result c.in_err-enter_loop.field-0.0 Limit c.from_residual.ensures.1 e in
    exceeds_entering c.args.around.now.limits c.args.self.now (surroundings_of c.args.around.now) (process_of c.args.process.now)
    c.args.turning c.args.changed.now (c.in_err-enter_loop.ensures.limit (ap Err fault))

pub write_turning-returns-in_err-write_one-clause-limit : goal.write_turning-returns-in_err-write_one-clause-limit
write_turning-returns-in_err-write_one-clause-limit t c = λ e.
    let fault = handed_on c.from_residual-in_err-write_one.result c.in_err-write_one.field-0.0 Limit
    c.from_residual-in_err-write_one.ensures.1 e in
    exceeds_body c.args.around.now.limits c.args.around.now (process_of c.args.process.now) c.args.turning c.args.changed.now
    c.in_ok-enter_loop.ensures.ok (c.in_err-write_one.ensures.limit (ap Err fault))

pub write_turning-returns-clause-limit : goal.write_turning-returns-clause-limit
write_turning-returns-clause-limit t c = λ e.
    let s = c.args.self.now in
    let l = c.args.turning in
    let p = process_of c.args.process.now in
    let enters = c.in_ok-enter_loop.ensures.ok in
    let long : c.len-names.result ≡ length s.frame.homes.items = omega arith in
    exceeds_leaving c.args.around.now.limits c.args.around.now p l c.args.changed.now c.len-names.result s.frame.top s.label
    enters
    (body_left c.args.around.now p l c.args.changed.now c.len-names.result s.frame.top s.label enters
    c.in_ok-write_one.ensures.ok long refl refl) (c.leave_loop.ensures.limit e)

pub write_replicated-returns-in_err-write_loop-in-Seq-clause-limit :
    goal.write_replicated-returns-in_err-write_loop-in-Seq-clause-limit
write_replicated-returns-in_err-write_loop-in-Seq-clause-limit t c = λ e.
    let s = c.args.self.now in
    let r = replicator_of c.args.replicator.now in
    let p = c.in-Seq.process in
    let here = surroundings_of c.args.around.now in
    let whole = Replicated r (body_of c.args.body.now) in
    let spent = c.in_ok-find-in-Seq.ensures.ok in
    let known = c.variables_changed_in.ensures.scope ∙ ap known_of spent.scope in
    let v = record c.find.new.self { scope = c.variables_changed_in.new.scope } in
    let place : site_of v ≡ site_of s = λ i. record {
      frame = frame_seen (spent.frame i);
      known = known i;
      label = spent.label i;
    } in
    let is = ap (Replicated r) (sym (view-Body-Seq p) ∙ ap body_of (sym c.in-Seq.is)) in
    let fault = handed_on c.from_residual-in_err-write_loop-in-Seq.result c.in_err-write_loop-in-Seq.field-0.0 Limit
    c.from_residual-in_err-write_loop-in-Seq.ensures.1 e in
    exceeds_replicated c.args.around.now.limits c.args.around.now c.args.line r (process_of p) whole c.deref.result.now s v is
    spent.listing place
    (c.deref.ensures.value ∙ c.in_ok-changed-in-Seq.ensures.numbers
    ∙ (λ i. changed_by_construct here.around.signatures (known_of (spent.scope i)).entries whole))
    (c.in_err-write_loop-in-Seq.ensures.limit (ap Err fault))

-- ---- choices

pub write_choices-loop-choice-preserved : goal.write_choices-loop-choice-preserved
write_choices-loop-choice-preserved t c =
    tested_next c.args.around.now c.args.end choice_of c.of-ended.result.tested.now c.loop-choice.choice-index
    c.choice-item.result (omega arith) c.choice-item.is c.loop-choice.invariant c.in_ok-write_tested.ensures.ok

pub write_choices-returns-clause-ok : goal.write_choices-returns-clause-ok
write_choices-returns-clause-ok t c =
    let ended = c.of-ended.result in
    let done : length ended.tested.now ≤ c.loop-choice.choice-index = omega arith in
    where_ok c.write_ending.result
    (λ _ ending. choices_written c.args.around.now c.args.end (all_choices c.args.choices.now) ended.tested.now ended.ending
    c.of-ended.ensures.ended
    (tested_done c.args.around.now c.args.end choice_of ended.tested.now c.loop-choice.choice-index done
    c.loop-choice.invariant) ending) c.write_ending.ensures.ok

pub write_choices-returns-in_err-write_tested-clause-limit :
    goal.write_choices-returns-in_err-write_tested-clause-limit
write_choices-returns-in_err-write_tested-clause-limit t c = λ e.
    let ended = c.of-ended.result in
    let fault = handed_on c.from_residual.result c.in_err-write_tested.field-0.0 Limit c.from_residual.ensures.1 e in
    exceeds_choices c.args.around.now.limits c.args.around.now c.args.end (all_choices c.args.choices.now) ended.tested.now
    ended.ending c.loop-choice.choice-index c.choice-item.result c.of-ended.ensures.ended (omega arith) c.choice-item.is
    c.loop-choice.invariant (c.in_err-write_tested.ensures.limit (ap Err fault))

pub write_choices-returns-clause-limit : goal.write_choices-returns-clause-limit
write_choices-returns-clause-limit t c = λ e.
    let ended = c.of-ended.result in
    let done : length ended.tested.now ≤ c.loop-choice.choice-index = omega arith in
    exceeds_ending c.args.around.now.limits c.args.around.now c.args.end (all_choices c.args.choices.now) ended.tested.now
    ended.ending c.of-ended.ensures.ended
    (tested_done c.args.around.now c.args.end choice_of ended.tested.now c.loop-choice.choice-index done
    c.loop-choice.invariant) (c.write_ending.ensures.limit e)

pub write_ending-returns-in_ok-write_open-in-Opens-clause-ok :
    goal.write_ending-returns-in_ok-write_open-in-Opens-clause-ok
write_ending-returns-in_ok-write_open-in-Opens-clause-ok t c =
    subst (λ x. IfOk c.write_taken-in-Opens.result
    (λ _. WritesEnding c.args.self.now c.write_taken-in-Opens.new.self c.args.around.now c.args.end x)) (sym c.in-Opens.is)
    (where_ok c.write_taken-in-Opens.result
    (λ _ x. writes_opens c.args.around.now c.args.end c.in-Opens.opened c.in-Opens.last
    c.in_ok-write_open-in-Opens.ensures.ok x) c.write_taken-in-Opens.ensures.ok)

pub write_ending-returns-in_ok-write_open-in-Opens-clause-limit :
    goal.write_ending-returns-in_ok-write_open-in-Opens-clause-limit
write_ending-returns-in_ok-write_open-in-Opens-clause-limit t c = λ e.
    let s = c.args.self.now in
    subst (λ x. Exceeds c.args.around.now.limits s.listing
    (ending_at (surroundings_of c.args.around.now) c.args.end x (site_of s))) (sym c.in-Opens.is)
    (exceeds_passing c.args.around.now.limits c.args.around.now c.args.end c.in-Opens.opened c.in-Opens.last
    c.in_ok-write_open-in-Opens.ensures.ok (c.write_taken-in-Opens.ensures.limit e))

pub write_ending-returns-in_err-write_open-in-Opens-clause-limit :
    goal.write_ending-returns-in_err-write_open-in-Opens-clause-limit
write_ending-returns-in_err-write_open-in-Opens-clause-limit t c = λ e.
    let s = c.args.self.now in
    let fault = handed_on c.from_residual-in_err-write_open-in-Opens.result
    c.in_err-write_open-in-Opens.field-0.0 Limit c.from_residual-in_err-write_open-in-Opens.ensures.1 e in
    subst (λ x. Exceeds c.args.around.now.limits s.listing
    (ending_at (surroundings_of c.args.around.now) c.args.end x (site_of s))) (sym c.in-Opens.is)
    (exceeds_opens c.args.around.now.limits c.args.around.now c.args.end c.in-Opens.opened c.in-Opens.last s
    (c.in_err-write_open-in-Opens.ensures.limit (ap Err fault)))

-- ---- a choice in turns

pub write_turns-loop-turn-preserved : goal.write_turns-loop-turn-preserved
write_turns-loop-turn-preserved t c =
    let named = c.in_ok-add_name.ensures in
    turns_next c.args.around.now c.args.end c.args.name.now (seen_repeats c.args.repeats) (choice_of c.args.choice.now)
    c.loop-turn.turn (meaning_of c.index_in.result) c.add_name.new.scope c.index_in.ensures
    (λ i. record { entries = named.ok i; blocks = named.extends.blocks i }) c.loop-turn.invariant
    c.in_ok-write_tested.ensures.ok

pub write_turns-returns-then-tested-count-clause-ok : goal.write_turns-returns-then-tested-count-clause-ok
write_turns-returns-then-tested-count-clause-ok t c =
    let all : c.turns_tested-tested.result ≡ c.args.count = omega arith in
    let done : c.loop-turn.turn ≡ c.turns_tested-tested.result = omega arith in
    turns_stopped c.args.around.now c.args.end c.args.name.now (seen_repeats c.args.repeats) c.args.choice.now c.args.count
    c.turns_tested-tested.result c.loop-turn.turn c.operate.new.self c.turns_tested-tested.ensures all done
    c.loop-turn.invariant c.in_ok-operate.ensures

pub write_turns-returns-clause-ok : goal.write_turns-returns-clause-ok
write_turns-returns-clause-ok t c =
    let named = c.in_ok-add_name-2.ensures in
    let done : c.loop-turn.turn ≡ c.turns_tested-tested.result = omega arith in
    where_ok c.write_taken.result
    (λ _ taken. turns_taken c.args.around.now c.args.end c.args.name.now (seen_repeats c.args.repeats) c.args.choice.now
    c.args.count c.turns_tested-tested.result c.loop-turn.turn (meaning_of c.index_in-2.result) c.add_name-2.new.scope
    c.turns_tested-tested.ensures c.if-tested-count.false done c.index_in-2.ensures
    (λ i. record { entries = named.ok i; blocks = named.extends.blocks i }) c.loop-turn.invariant taken)
    c.write_taken.ensures.ok

pub write_turns-returns-in_err-write_tested-clause-limit : goal.write_turns-returns-in_err-write_tested-clause-limit
write_turns-returns-in_err-write_tested-clause-limit t c = λ e.
    let named = c.in_ok-add_name.ensures in
    let fault = handed_on c.from_residual-in_err-write_tested.result c.in_err-write_tested.field-0.0 Limit
    c.from_residual-in_err-write_tested.ensures.1 e in
    exceeds_turns c.args.around.now.limits c.args.around.now c.args.end c.args.name.now (seen_repeats c.args.repeats)
    c.args.choice.now c.args.count c.turns_tested-tested.result c.loop-turn.turn (meaning_of c.index_in.result)
    c.add_name.new.scope c.turns_tested-tested.ensures (omega arith) c.index_in.ensures
    (λ i. record { entries = named.ok i; blocks = named.extends.blocks i }) c.loop-turn.invariant
    (c.in_err-write_tested.ensures.limit (ap Err fault))

pub write_turns-returns-clause-limit : goal.write_turns-returns-clause-limit
write_turns-returns-clause-limit t c = λ e.
    let named = c.in_ok-add_name-2.ensures in
    let done : c.loop-turn.turn ≡ c.turns_tested-tested.result = omega arith in
    exceeds_last_turn c.args.around.now.limits c.args.around.now c.args.end c.args.name.now (seen_repeats c.args.repeats)
    c.args.choice.now c.args.count c.turns_tested-tested.result c.loop-turn.turn (meaning_of c.index_in-2.result)
    c.add_name-2.new.scope c.turns_tested-tested.ensures c.if-tested-count.false done c.index_in-2.ensures
    (λ i. record { entries = named.ok i; blocks = named.extends.blocks i }) c.loop-turn.invariant
    (c.write_taken.ensures.limit e)

-- ---- what is invalid

pub write-returns-in_err-write_construct-clause-invalid :
    goal.write-returns-in_err-write_construct-clause-invalid
write-returns-in_err-write_construct-clause-invalid t c = λ e sequential.
    let p = c.args.process.now in
    let view : with_declarations (map declaration_of p.declarations.items)
    (Does p.line (construct_of p.construct.value)) ≡ process_of p = search (rules, the_lemmas) in
    let fault = handed_on c.from_residual-in_err-write_construct.result c.in_err-write_construct.field-0.0 Invalid
    c.from_residual-in_err-write_construct.ensures.1 e in
    sym (ap (λ (l : Limits). l.is_sequential) c.in_ok-inside.ensures.limits)
    ∙ c.in_err-write_construct.ensures.invalid (ap Err fault)
    (subst (λ d. IsSequentialConstruct (construct_of d)) (sym c.deref-2.ensures)
    (construct_sequential (map declaration_of p.declarations.items) p.line (construct_of p.construct.value)
    (process_of p) view sequential))

pub write_construct-returns-in-Action-clause-invalid : goal.write_construct-returns-in-Action-clause-invalid
write_construct-returns-in-Action-clause-invalid t c = λ e sequential.
    c.act.ensures.invalid e
    (subst IsSequentialConstruct (ap construct_of c.in-Action.is ∙ view-Action c.in-Action.action) sequential)

pub write_construct-returns-in-Seq-clause-invalid : goal.write_construct-returns-in-Seq-clause-invalid
write_construct-returns-in-Seq-clause-invalid t c = λ e sequential.
    let v = c.in-Seq.processes in
    let all = subst IsSequentialConstruct (ap construct_of c.in-Seq.is ∙ view-Seq v) sequential in
    c.write_seq.ensures.invalid e (subst (λ ps. AreSequential (Mark mark.Seq) (all_processes ps))
    (sym c.deref.ensures.value) all.1)

pub write_construct-returns-in-If-clause-invalid : goal.write_construct-returns-in-If-clause-invalid
write_construct-returns-in-If-clause-invalid t c = λ e sequential.
    let v = c.in-If.choices in
    let all = subst IsSequentialConstruct (ap construct_of c.in-If.is ∙ view-If v) sequential in
    c.write_if.ensures.invalid e (subst (λ cs. AreSequential (Mark mark.If) (all_choices cs))
    (sym c.deref-in-If.ensures.value) all.1)

pub write_construct-returns-in-Replicated-clause-invalid : goal.write_construct-returns-in-Replicated-clause-invalid
write_construct-returns-in-Replicated-clause-invalid t c = λ e sequential.
    let r = c.in-Replicated.replicator in
    let b = c.in-Replicated.body in
    c.write_replicated.ensures.invalid e
    (subst IsSequentialConstruct (ap construct_of c.in-Replicated.is ∙ view-Replicated r b) sequential)

pub write_construct-returns-in-Par-clause-invalid : goal.write_construct-returns-in-Par-clause-invalid
write_construct-returns-in-Par-clause-invalid t c = λ e sequential.
    absurd (subst IsSequentialConstruct (ap construct_of c.in-Par.is ∙ view-Par c.in-Par.processes) sequential).0

pub write_construct-returns-in-Alt-clause-invalid : goal.write_construct-returns-in-Alt-clause-invalid
write_construct-returns-in-Alt-clause-invalid t c = λ e sequential.
    absurd (subst IsSequentialConstruct (ap construct_of c.in-Alt.is ∙ view-Alt c.in-Alt.branches) sequential).0

pub write_line-returns-in-Instance-clause-invalid : goal.write_line-returns-in-Instance-clause-invalid
write_line-returns-in-Instance-clause-invalid t c = λ e sequential.
    absurd (subst (λ a. IsSequentialAction (action_of a)) c.in-Instance.is sequential)

pub write_seq-returns-in_err-write_one-clause-invalid : goal.write_seq-returns-in_err-write_one-clause-invalid
write_seq-returns-in_err-write_one-clause-invalid t c = λ e sequential.
    let fault = handed_on c.from_residual.result c.in_err-write_one.field-0.0 Invalid
    c.from_residual.ensures.1 e in
    c.in_err-write_one.ensures.invalid (ap Err fault)
    (component_sequential (Mark mark.Seq) plain_component c.args.processes.now c.loop-process.process-index
    c.process-item.result (omega arith) c.process-item.is sequential)

pub write_replicated-returns-in_err-write_loop-in-Seq-clause-invalid :
    goal.write_replicated-returns-in_err-write_loop-in-Seq-clause-invalid
write_replicated-returns-in_err-write_loop-in-Seq-clause-invalid t c = λ e sequential.
    let p = c.in-Seq.process in
    let fault = handed_on c.from_residual-in_err-write_loop-in-Seq.result c.in_err-write_loop-in-Seq.field-0.0 Invalid
    c.from_residual-in_err-write_loop-in-Seq.ensures.1 e in
    c.in_err-write_loop-in-Seq.ensures.invalid (ap Err fault)
    (subst IsSequentialBody (ap body_of c.in-Seq.is ∙ view-Body-Seq p) sequential)

pub write_replicated-returns-in-If-clause-invalid : goal.write_replicated-returns-in-If-clause-invalid
write_replicated-returns-in-If-clause-invalid t c = λ e sequential.
    c.write_repeated_if.ensures.invalid e
    (subst IsSequentialBody (ap body_of c.in-If.is ∙ view-Body-If c.in-If.choice) sequential)

pub write_replicated-returns-in-Par-clause-invalid : goal.write_replicated-returns-in-Par-clause-invalid
write_replicated-returns-in-Par-clause-invalid t c = λ e sequential.
    absurd (subst IsSequentialBody (ap body_of c.in-Par.is ∙ view-Body-Par c.in-Par.process) sequential)

pub write_replicated-returns-in-Alt-clause-invalid : goal.write_replicated-returns-in-Alt-clause-invalid
write_replicated-returns-in-Alt-clause-invalid t c = λ e sequential.
    absurd (subst IsSequentialBody (ap body_of c.in-Alt.is ∙ view-Body-Alt c.in-Alt.branch) sequential)

pub write_choices-returns-in_err-write_tested-clause-invalid :
    goal.write_choices-returns-in_err-write_tested-clause-invalid
write_choices-returns-in_err-write_tested-clause-invalid t c = λ e sequential.
    let ended = c.of-ended.result in
    let fault = handed_on c.from_residual.result c.in_err-write_tested.field-0.0 Invalid
    c.from_residual.ensures.1 e in
    c.in_err-write_tested.ensures.invalid (ap Err fault)
    (component_sequential (Mark mark.If) choice_of ended.tested.now c.loop-choice.choice-index c.choice-item.result
    (omega arith) c.choice-item.is
    (tested_sequential c.args.choices.now ended.tested.now (choices_in ended.ending) c.of-ended.ensures.whole
    sequential))

pub write_choices-returns-clause-invalid : goal.write_choices-returns-clause-invalid
write_choices-returns-clause-invalid t c = λ e sequential.
    let ended = c.of-ended.result in
    c.write_ending.ensures.invalid e
    (ending_sequential c.args.choices.now ended.tested.now (choices_in ended.ending) c.of-ended.ensures.whole
    sequential)

pub write_ending-returns-in-Always-clause-invalid : goal.write_ending-returns-in-Always-clause-invalid
write_ending-returns-in-Always-clause-invalid t c = λ e sequential.
    c.write_taken.ensures.invalid e
    (subst (λ x. AreSequential (Mark mark.If) (all_choices (choices_in x))) c.in-Always.is sequential).1

pub write_ending-returns-in_ok-write_open-in-Opens-clause-invalid :
    goal.write_ending-returns-in_ok-write_open-in-Opens-clause-invalid
write_ending-returns-in_ok-write_open-in-Opens-clause-invalid t c = λ e sequential.
    c.write_taken-in-Opens.ensures.invalid e
    (subst (λ x. AreSequential (Mark mark.If) (all_choices (choices_in x))) c.in-Opens.is sequential).1

pub write_ending-returns-in_err-write_open-in-Opens-clause-invalid :
    goal.write_ending-returns-in_err-write_open-in-Opens-clause-invalid
write_ending-returns-in_err-write_open-in-Opens-clause-invalid t c = λ e sequential.
    let fault = handed_on c.from_residual-in_err-write_open-in-Opens.result c.in_err-write_open-in-Opens.field-0.0 Invalid
    c.from_residual-in_err-write_open-in-Opens.ensures.1 e in
    c.in_err-write_open-in-Opens.ensures.invalid (ap Err fault)
    (subst (λ x. AreSequential (Mark mark.If) (all_choices (choices_in x))) c.in-Opens.is sequential).0.1

pub write_taken-returns-in_err-write-clause-invalid : goal.write_taken-returns-in_err-write-clause-invalid
write_taken-returns-in_err-write-clause-invalid t c = λ e sequential.
    let x = c.args.choice.now in
    let fault = handed_on c.from_residual.result c.in_err-write.field-0.0 Invalid
    c.from_residual.ensures.1 e in
    c.in_err-write.ensures.invalid (ap Err fault)
    (subst (λ y. IsSequentialComponent (Mark mark.If) y) (sym (choice_seen x)) sequential)
