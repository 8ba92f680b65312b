use Rattle.std.proofs.Common.{◌≤◌, length, map, option_map, arith, sym, ap, ◌∙◌, rules}
use Rattle.std.specs.Int.{w32}
use Rattle.std.proofs.lemmas.Int.{to_z-of_z}
use Rattle.std.proofs.lemmas.List.{append-nil}
use Rattle.occam_parser.specs.Views.{operation_of, term_of}
use Rattle.occam_parser.proofs.Seen.{view-Chain}
use Rattle.scalar_ranges.specs.FrontViews.{seen_front}
use Rattle.scalar_ranges.specs.Bounds.{exact_value}
use Rattle.line_pieces.proofs.ChainCode.{others_next, others_done, front_known, front_pushed, chain_written_if}
use Rattle.line_pieces.proofs.ChainCode.{first_last, first_below, second_added, both_joined, chain_seen}
use Rattle.line_pieces.proofs.OffsetsFound.{first_written}
use Rattle.line_pieces.proofs.OperandsBelow.{onto_written_if}
use Rattle.line_pieces.proofs.listing.Listing.+write.Goals as goal

pub write_operation-returns-in_ok-constant-in-Some : goal.write_operation-returns-in_ok-constant-in-Some
write_operation-returns-in_ok-constant-in-Some t c =
    let chain = c.in-Chain in
    let front = option_map seen_front c.args.front in
    chain_written_if c.write_others.result c.args.setting chain.operator front (term_of chain.first)
    (term_of chain.second) (map term_of c.deref.result.now) (operation_of c.args.operation.now) c.args.self.now
    c.constant.new.self c.write_others.new.self
    (chain_seen c.args.operation.now chain.operator chain.first chain.second chain.others c.deref.result.now chain.is
    c.deref.ensures.value) c.requires.varies c.requires.front
    (front_known c.args.setting chain.operator front (term_of chain.first) (term_of chain.second) c.covered.result
    c.in-Some.value c.args.self.now c.constant.new.self c.covered.ensures c.in-Some.is (search rules))
    c.write_others.ensures

pub write_operation-returns-in_ok-write_first_two-in-None : goal.write_operation-returns-in_ok-write_first_two-in-None
write_operation-returns-in_ok-write_first_two-in-None t c =
    let chain = c.in-Chain in
    let shown = c.deref-in-None.result.now in
    let whole = chain_seen c.args.operation.now chain.operator chain.first chain.second chain.others shown chain.is
    c.deref-in-None.ensures.value in
    chain_written_if c.write_others-in-None.result c.args.setting chain.operator (option_map seen_front c.args.front)
    (term_of chain.first) (term_of chain.second) (map term_of shown) (operation_of c.args.operation.now)
    c.args.self.now c.write_first_two.new.self c.write_others-in-None.new.self whole c.requires.varies c.requires.front
    (front_pushed c.args.setting chain.operator (option_map seen_front c.args.front) (term_of chain.first)
    (term_of chain.second) (map term_of shown) (operation_of c.args.operation.now) c.covered.result c.args.self.now
    c.write_first_two.new.self c.covered.ensures c.in-None.is whole c.in_ok-write_first_two-in-None.ensures)
    c.write_others-in-None.ensures

pub write_either-returns-then-comes_last : goal.write_either-returns-then-comes_last
write_either-returns-then-comes_last t c =
    let chain = c.in-Chain in
    first_last c.write_operand-then-comes_last.result c.args.setting chain.operator (term_of chain.first)
    (term_of chain.second) (map term_of chain.others.items) (operation_of c.args.operation.now) c.comes_last.result
    c.args.self.now c.write_operand.new.self c.write_operand-then-comes_last.new.self
    (ap operation_of chain.is ∙ view-Chain chain.operator chain.first chain.second chain.others)
    c.comes_last.ensures c.if-comes_last.true c.in_ok-write_operand.ensures c.write_operand-then-comes_last.ensures

pub write_either-returns : goal.write_either-returns
write_either-returns t c =
    let chain = c.in-Chain in
    first_below c.write_onto.result c.args.setting chain.operator (term_of chain.first)
    (term_of chain.second) (map term_of chain.others.items) (operation_of c.args.operation.now) c.comes_last.result
    c.args.self.now c.write_operand-2.new.self c.write_onto.new.self
    (ap operation_of chain.is ∙ view-Chain chain.operator chain.first chain.second chain.others)
    c.comes_last.ensures c.if-comes_last.false c.in_ok-write_operand-2.ensures c.write_onto.ensures

pub write_first_two-returns-in_ok-write_operand-in-Some : goal.write_first_two-returns-in_ok-write_operand-in-Some
write_first_two-returns-in_ok-write_operand-in-Some t c =
    let chain = c.in-Chain in
    second_added c.direct.result c.args.setting chain.operator (term_of chain.first) (term_of chain.second)
    (map term_of chain.others.items) (operation_of c.args.operation.now) c.value.result c.added_by.result
    c.in-Some.value _ c.args.self.now c.write_operand.new.self c.direct.new.self
    (ap operation_of chain.is ∙ view-Chain chain.operator chain.first chain.second chain.others)
    (c.value.ensures ∙ ap exact_value c.read_operand.ensures.bounds) c.added_by.ensures c.in-Some.is
    (to_z-of_z w32 c.in-Some.value (search rules)) c.in_ok-write_operand-in-Some.ensures c.direct.ensures

pub write_first_two-returns-in_ok-write_either-in-None : goal.write_first_two-returns-in_ok-write_either-in-None
write_first_two-returns-in_ok-write_either-in-None t c =
    let chain = c.in-Chain in
    both_joined c.operate.result c.args.setting chain.operator (term_of chain.first) (term_of chain.second)
    (map term_of chain.others.items) (operation_of c.args.operation.now) c.value.result c.added_by.result
    _ c.args.self.now c.write_either.new.self c.operate.new.self
    (ap operation_of chain.is ∙ view-Chain chain.operator chain.first chain.second chain.others)
    (c.value.ensures ∙ ap exact_value c.read_operand.ensures.bounds) c.added_by.ensures c.in-None.is
    (to_z-of_z w32 c.chain_operation.result (search rules) ∙ c.chain_operation.ensures)
    c.in_ok-write_either-in-None.ensures c.operate.ensures

pub write_onto-returns : goal.write_onto-returns
write_onto-returns t c =
    onto_written_if c.push_back.result c.args.in_order c.args.setting c.above-above.result (term_of c.args.right.now)
    c.is_small_term.result c.args.self.now c.store.new.self c.write_operand-2.new.self c.push_back.new.self
    c.if-is_small_term.false c.is_small_term.ensures c.above-above.ensures.scope c.above-above.ensures.homes
    c.above-above.ensures.top c.in_ok-store.ensures c.in_ok-write_operand.ensures c.push_back.ensures

pub write_first-returns-in-Chain : goal.write_first-returns-in-Chain
write_first-returns-in-Chain t c =
    let chain = c.in-Chain in
    first_written c.write_operand.result c.args.setting chain.operator chain.first chain.second chain.others
    (operation_of c.args.operation.now) c.args.self.now c.write_operand.new.self (ap operation_of chain.is)
    c.write_operand.ensures

pub write_others-loop-place-init : goal.write_others-loop-place-init
write_others-loop-place-init t c = sym (append-nil c.args.self.now)

pub write_others-loop-place-preserved : goal.write_others-loop-place-preserved
write_others-loop-place-preserved t c =
    others_next c.args.setting c.args.operator (option_map seen_front c.args.front) c.args.others.now
    c.loop-place.place c.index-others-place.result c.covered.result c.args.self.now c.loop-place.self
    c.write_joined.new.self (omega arith) c.index-others-place.is c.loop-place.invariant
    c.covered.ensures c.in_ok-write_joined.ensures

pub write_others-returns : goal.write_others-returns
write_others-returns t c =
    let done : length c.args.others.now ≤ c.loop-place.place = omega arith in
    others_done c.args.setting c.args.operator (option_map seen_front c.args.front) c.args.others.now
    c.loop-place.place c.args.self.now c.loop-place.self done c.loop-place.invariant
