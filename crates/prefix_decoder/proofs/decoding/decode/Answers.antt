use Rattle.std.proofs.Common.{◌≡◌, get_or, FitsSigned, w32, refl, sym, rules, arith}
use Rattle.std.proofs.lemmas.Int.{to_z-of_z}
use Rattle.prefix_decoder.proofs.Loop.{starts, ends, ends_early, ends_with, goes_on}
use Rattle.prefix_decoder.proofs.decoding.decode.Goals as goal

pub loop-index-init : goal.loop-index-init
loop-index-init c = record { clear = search rules; reads = starts c.args.bytes.now }

pub returns-then-index-bytes : goal.returns-then-index-bytes
returns-then-index-bytes c =
    ends_early c.args.bytes.now _ c.loop-index.index (omega arith) (omega arith) c.loop-index.invariant.reads

pub returns-in-Some : goal.returns-in-Some
returns-in-Some c =
    let byte = get_or c.args.bytes.now c.loop-index.index 0 in
    let h = ends_with c.args.bytes.now _ c.loop-index.index byte (omega arith) (omega arith) refl
    c.loop-index.invariant.reads c.in-Some.fun in
    let fits : FitsSigned w32 c.with_nibble-operand.result = search rules in
    rw (to_z-of_z w32 c.with_nibble-operand.result fits, c.with_nibble-operand.ensures) (h (sym c.in-Some.ensures))

pub loop-index-preserved : goal.loop-index-preserved
loop-index-preserved c =
    let byte = get_or c.args.bytes.now c.loop-index.index 0 in
    let h = goes_on c.args.bytes.now _ c.loop-index.index byte (omega arith) (omega arith) refl
    c.loop-index.invariant.reads in
    let operand_fits : FitsSigned w32 c.with_nibble-operand.result = search rules in
    let register_fits : FitsSigned w32 c.after_prefix-register.result = search rules in
    let value = rw (to_z-of_z w32 c.with_nibble-operand.result operand_fits, c.with_nibble-operand.ensures)
    at c.after_prefix-register.ensures.value in
    rw (to_z-of_z w32 c.after_prefix-register.result register_fits)
    (record { clear = c.after_prefix-register.ensures.register; reads = rw value (h (sym c.in_default.ensures)) })

pub returns : goal.returns
returns c =
    ends c.args.bytes.now _ (let last : c.loop-index.index ≡ 8 = omega arith in rw last at c.loop-index.invariant.reads)
