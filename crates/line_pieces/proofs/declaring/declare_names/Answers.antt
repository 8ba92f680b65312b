use Rattle.std.proofs.Common.{◌≤◌, [], length, map, take, get_or, Bor, ℕ, List, arith, ap, ◌∙◌, refl}
use Rattle.std.proofs.lemmas.List.{take_all}
use Rattle.occam_parser.specs.LineViews.{spelling_of}
use Rattle.scalar_ranges.specs.Scopes.{entries_of, meaning_of}
use Rattle.program_uses.specs.Declaring.{add, add_all}
use Rattle.program_uses.proofs.NextInTurn.{next_in_turn}
use Rattle.line_pieces.proofs.declaring.declare_names.Goals as goal

pub loop-name-preserved : goal.loop-name-preserved
loop-name-preserved c =
    let m = meaning_of c.args.meaning in
    let items = c.deref-name-items.result.now in
    let i = c.loop-name.name-index in
    let none : Bor (List ℕ) = record { ref_ptr = (0, 0); now = [] } in
    let name = get_or items i none in
    let before = c.loop-name.invariant in
    record {
      entries = c.in_ok-add_name-2.ensures.ok ∙ ap (add name.now m) before.entries
          ∙ next_in_turn (λ n. add n m) spelling_of items i name none (entries_of c.add_name.new.scope)
          (omega arith) refl;
      blocks = c.add_name-in-loop-name.ensures.extends.blocks ∙ before.blocks;
    }

pub returns-clause-entries : goal.returns-clause-entries
returns-clause-entries c =
    let m = meaning_of c.args.meaning in
    let items = c.deref-name-items.result.now in
    let i = c.loop-name.name-index in
    let done : length items ≤ i = omega arith in
    let all = ap (map spelling_of) (take_all i items done ∙ c.deref-name-items.ensures.value) in
    c.loop-name.invariant.entries
    ∙ ap (add_all (map spelling_of (take i items)) m) c.in_ok-add_name.ensures.ok
    ∙ ap (λ ns. add_all ns m (add c.args.names.now.first.now m (entries_of c.args.scope.now))) all

pub returns-clause-blocks : goal.returns-clause-blocks
returns-clause-blocks c = c.loop-name.invariant.blocks ∙ c.add_name.ensures.extends.blocks
