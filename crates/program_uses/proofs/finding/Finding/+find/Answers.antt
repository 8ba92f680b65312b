use Rattle.std.proofs.Common.{◌≡◌, map, None, inl, inr, sym, ap, subst, ◌∙◌, rules, arith}
use Rattle.std.proofs.lemmas.List.{append-nil}
use Rattle.occam_parser.specs.declared.tree.Body.{the_lemmas}
use Rattle.occam_parser.specs.Views.{expression_of}
use Rattle.occam_parser.specs.LineViews.{declaration_of, replicator_of}
use Rattle.occam_parser.specs.Blocks.{Does, Chosen}
use Rattle.occam_parser.proofs.SeenBlocks.{view-Seq, view-Par, view-If, view-Alt}
use Rattle.occam_parser.specs.BlockReading.{with_declarations}
use Rattle.occam_parser.specs.BlockViews.{process_of, construct_of, body_of, choice_of, branch_of, plain_component}
use Rattle.scalar_ranges.specs.Scopes.{entries_of, known_of, meaning_of}
use Rattle.program_uses.specs.Changes.{changed_by, changed_by_construct, changed_by_component, changed_by_one}
use Rattle.program_uses.specs.Indices.{index_meaning}
use Rattle.program_uses.specs.Listing.{IsListed, AreListed, ListsWithin, ListsComponent, ListsOne}
use Rattle.program_uses.specs.Signatures.{signatures_of}
use Rattle.program_uses.proofs.ChangesFound.{notes_both, notes_as, notes_if, finds_at, listed_behind, listed_in_turn}
use Rattle.program_uses.proofs.ChangesFound.{noted_since, kept_within, finds_next, finds_each}
use Rattle.program_uses.proofs.ChangesFound.{changes_behind, changes_in_turn}
use Rattle.program_uses.proofs.ScopesExtended.{left_again}
use Rattle.program_uses.proofs.finding.Finding.+find.Goals as goal

pub find-returns : goal.find-returns
find-returns t c =
    let signatures = signatures_of c.args.signatures.now in
    let es = entries_of c.args.scope.now in
    let p = c.args.process.now in
    let ds = map declaration_of c.deref.result.now in
    let k = construct_of c.deref-2.result.now in
    let view : with_declarations (map declaration_of p.declarations.items)
    (Does p.line (construct_of p.construct.value)) ≡ process_of p = search (rules, the_lemmas) in
    let whole = (λ i. with_declarations (map declaration_of (c.deref.ensures.value i))
    (Does p.line (construct_of (c.deref-2.ensures i)))) ∙ view in
    let below = c.find_in_construct.ensures in
    let u = c.list.new.self in
    let entered = c.enter.ensures.entries in
    finds_at (changed_by signatures es) (λ p t. AreListed t signatures es p) whole
    (record {
      notes = notes_as (append-nil (changed_by signatures es (with_declarations ds (Does p.line k))))
          (notes_both (notes_both c.enter.ensures.notes
          (notes_if (λ e. ap (λ inner. changed_by_construct signatures inner k)
          (entered (below.notes.complete e)) ∙ changes_behind signatures es ds p.line k) below.notes))
          c.list.ensures.notes);
      keeps = λ line ns x. c.list.ensures.keeps line ns (below.keeps line ns x);
      lists = λ e.
          let before = c.list.ensures.notes.complete e in
          let inner = entered (below.notes.complete before) in
          listed_behind u.lists signatures es ds p.line k
          (subst (IsListed u.lists p.line)
          (noted_since c.count-first.result c.count-first.ensures c.enter.ensures.notes below.notes before
          ∙ ap (λ es. changed_by_construct signatures es k) inner) (c.list.ensures.listed e))
          (subst (λ es. ListsWithin u.lists signatures es k) inner
          (kept_within c.find_in_construct.new.self.lists u.lists signatures
          (entries_of c.enter.new.scope) k c.list.ensures.keeps (below.lists before)));
      scope = left_again (known_of c.args.scope.now) (known_of c.enter.new.scope)
          (known_of c.find_in_construct.new.scope) (known_of c.leave.new.self) c.len-count.result
          c.args.scope.now.nested c.len-count.ensures c.enter.ensures.extends below.scope c.leave.ensures.entries
          c.leave.ensures.blocks;
    })

pub find_in_body-returns : goal.find_in_body-returns
find_in_body-returns t c =
    let signatures = signatures_of c.args.signatures.now in
    let es = entries_of c.args.scope.now in
    let r = replicator_of c.args.replicator.now in
    let b = body_of c.args.body.now in
    let below = c.find_in_one.ensures in
    let means = c.index_meaning-meaning.ensures ∙ ap (λ s. index_meaning s None) c.is_sequence.ensures in
    record {
      keeps = below.keeps;
      lists = λ e. listed_in_turn c.find_in_one.new.self.lists signatures es r b
          (meaning_of c.index_meaning-meaning.result) means
          (subst (λ es. ListsOne c.find_in_one.new.self.lists signatures es b)
          (c.enter_name.ensures.entries (below.notes.complete e)) (below.lists e));
      notes = notes_both c.enter_name.ensures.notes
          (notes_if (λ e. ap (λ inner. changed_by_one signatures inner b)
          (c.enter_name.ensures.entries (below.notes.complete e))
          ∙ changes_in_turn signatures es r b (meaning_of c.index_meaning-meaning.result) means)
          below.notes);
      scope = left_again (known_of c.args.scope.now) (known_of c.enter_name.new.scope)
          (known_of c.find_in_one.new.scope) (known_of c.leave.new.self) c.len-count.result
          c.args.scope.now.nested c.len-count.ensures c.enter_name.ensures.extends below.scope c.leave.ensures.entries
          c.leave.ensures.blocks;
    }

pub find_in_construct-loop-process-preserved : goal.find_in_construct-loop-process-preserved
find_in_construct-loop-process-preserved t c =
    finds_next (signatures_of c.args.signatures.now) plain_component c.deref-process-items.result.now c.loop-process.process-index
    c.process-item.result (omega arith) c.process-item.is c.loop-process.invariant c.find-in-loop-process.ensures

pub find_in_construct-loop-choice-preserved : goal.find_in_construct-loop-choice-preserved
find_in_construct-loop-choice-preserved t c =
    let signatures = signatures_of c.args.signatures.now in
    let es = entries_of c.loop-choice.scope in
    let x = c.choice-item.result in
    let view : Chosen x.line (expression_of x.condition) (process_of x.process) ≡ choice_of x =
    search (rules, the_lemmas) in
    finds_next signatures choice_of c.deref-choice-items.result.now c.loop-choice.choice-index x (omega arith)
    c.choice-item.is c.loop-choice.invariant
    (finds_at (changed_by_component signatures es) (λ y t. ListsComponent t signatures es y) view c.find.ensures)

pub find_in_construct-loop-branch-preserved : goal.find_in_construct-loop-branch-preserved
find_in_construct-loop-branch-preserved t c =
    finds_next (signatures_of c.args.signatures.now) branch_of c.deref-branch-items.result.now c.loop-branch.branch-index
    c.branch-item.result (omega arith) c.branch-item.is c.loop-branch.invariant c.find_in_branch.ensures

pub find_in_construct-returns-after-loop-process : goal.find_in_construct-returns-after-loop-process
find_in_construct-returns-after-loop-process t c =
    let signatures = signatures_of c.args.signatures.now in
    let es = entries_of c.args.scope.now in
    let v = c.in-Seq.processes in
    let all = finds_each signatures es plain_component c.deref-process-items.result.now v.items
    c.loop-process.process-index c.loop-process-test.false c.deref-process-items.ensures.value
    c.loop-process.invariant in
    elim c.in-Seq.is [
      | inl is ↦ finds_at (changed_by_construct signatures es) (λ k t. ListsWithin t signatures es k)
          (sym (view-Seq v) ∙ ap construct_of (sym is)) all
      | inr is ↦ finds_at (changed_by_construct signatures es) (λ k t. ListsWithin t signatures es k)
          (sym (view-Par v) ∙ ap construct_of (sym is)) all
    ]

pub find_in_construct-returns-after-loop-choice : goal.find_in_construct-returns-after-loop-choice
find_in_construct-returns-after-loop-choice t c =
    let signatures = signatures_of c.args.signatures.now in
    let es = entries_of c.args.scope.now in
    let v = c.in-If.choices in
    finds_at (changed_by_construct signatures es) (λ k t. ListsWithin t signatures es k)
    (sym (view-If v) ∙ ap construct_of (sym c.in-If.is))
    (finds_each signatures es choice_of c.deref-choice-items.result.now v.items c.loop-choice.choice-index
    c.loop-choice-test.false c.deref-choice-items.ensures.value c.loop-choice.invariant)

pub find_in_construct-returns-after-loop-branch : goal.find_in_construct-returns-after-loop-branch
find_in_construct-returns-after-loop-branch t c =
    let signatures = signatures_of c.args.signatures.now in
    let es = entries_of c.args.scope.now in
    let v = c.in-Alt.branches in
    finds_at (changed_by_construct signatures es) (λ k t. ListsWithin t signatures es k)
    (sym (view-Alt v) ∙ ap construct_of (sym c.in-Alt.is))
    (finds_each signatures es branch_of c.deref-branch-items.result.now v.items c.loop-branch.branch-index
    c.loop-branch-test.false c.deref-branch-items.ensures.value c.loop-branch.invariant)
