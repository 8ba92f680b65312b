use Rattle.std.proofs.Common.{◌≡◌, ◌∙◌, rules, sym}
use Rattle.plain_machine.specs.Decoded.{decoded_operation, performed}
use Rattle.plain_machine.specs.PlainStep.{state_of}
use Rattle.plain_machine.proofs.FunctionsPerformed.{can_perform, continues, has_asked, is_instruction}
use Rattle.plain_machine.proofs.bytewise.execute.Goals as goal

pub perform-requires : goal.perform-requires
perform-requires c =
    let s = state_of c.args.registers.now c.args.bytes.now in
    let op : c.of-operation.result ≡ decoded_operation c.args.fun c.args.operand =
    search (rules, c.of-operation.ensures) in
    let can = can_perform c.args.fun c.args.operand c.of-operation.result op c.args.code_start s c.requires in
    search (rules, can)

pub unreachable-requires : goal.unreachable-requires
unreachable-requires c =
    let s = state_of c.args.registers.now c.args.bytes.now in
    let op : c.of-operation.result ≡ decoded_operation c.args.fun c.args.operand =
    search (rules, c.of-operation.ensures) in
    is_instruction c.args.fun c.args.operand c.of-operation.result op c.args.code_start s c.requires
    (sym c.in-None.ensures.done) (sym c.asked.ensures ∙ c.in-None-asked.is)

pub returns-in-Some : goal.returns-in-Some
returns-in-Some c =
    let s = state_of c.args.registers.now c.args.bytes.now in
    let t = state_of c.perform.new.registers c.perform.new.bytes in
    let op : c.of-operation.result ≡ decoded_operation c.args.fun c.args.operand =
    search (rules, c.of-operation.ensures) in
    let flow : c.in-Some.flow ≡ (performed c.args.code_start c.of-operation.result c.args.operand s).flow =
    search (rules, c.in-Some.ensures.flow) in
    let state : t ≡ (performed c.args.code_start c.of-operation.result c.args.operand s).state =
    search (rules, c.perform.ensures.state) in
    continues c.args.fun c.args.operand c.of-operation.result op c.args.code_start s c.in-Some.flow t flow state

pub returns-in-Some-asked : goal.returns-in-Some-asked
returns-in-Some-asked c =
    let s = state_of c.args.registers.now c.args.bytes.now in
    let t = state_of c.perform.new.registers c.perform.new.bytes in
    let op : c.of-operation.result ≡ decoded_operation c.args.fun c.args.operand =
    search (rules, c.of-operation.ensures) in
    let state : t ≡ (performed c.args.code_start c.of-operation.result c.args.operand s).state =
    search (rules, c.perform.ensures.state) in
    has_asked c.args.fun c.args.operand c.of-operation.result op c.args.code_start s c.in-Some-asked.flow t
    (sym c.asked.ensures ∙ c.in-Some-asked.is) state
