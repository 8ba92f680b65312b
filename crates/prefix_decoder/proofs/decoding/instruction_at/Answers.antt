use Rattle.std.proofs.Common.{◌≡◌, ◌∙◌, ℕ, List, true, false, ap, pos, FitsSigned, w32, to_z, of_z, sym, arith, rules}
use Rattle.std.proofs.lemmas.Int.{to_z-of_z}
use Rattle.std.proofs.lemmas.List.{length-take-le}
use Rattle.std.proofs.lemmas.Result.{err_from_is_err_and}
use Rattle.prefix_decoder.specs.declared.decoding.Instr.{Instr}
use Rattle.prefix_decoder.specs.Spelling.{spelling}
use Rattle.prefix_decoder.proofs.Reading.{read-within}
use Rattle.prefix_decoder.proofs.Checks.{slice_from, tested, refused}
use Rattle.prefix_decoder.proofs.decoding.instruction_at.Goals as goal

-- what is written is the spelling, also where the operand was passed on
spelled : (i : Instr) (written : List ℕ) → FitsSigned w32 i.operand
    → written ≡ spelling i.fun (to_z w32 (of_z w32 i.operand))
    → written ≡ spelling i.fun i.operand
spelled i written fits is = is ∙ ap (spelling i.fun) (to_z-of_z w32 i.operand fits)

pub slice_bounds-ne-end : goal.slice_bounds-ne-end
slice_bounds-ne-end c =
    let bytes = slice_from c.args.code.now c.min.result in
    let within = read-within 8 bytes (pos 0) 0 c.in_ok-instr.instr (sym c.decode.ensures ∙ c.in_ok-instr.was) in
    sym (length-take-le c.in_ok-instr.instr.len bytes (omega arith))

pub returns-then-ne : goal.returns-then-ne
returns-then-ne c =
    tested c.args.code.now c.args.at c.min.result c.in_ok-instr.instr c.as_slice.result.now true (omega arith)
    (sym c.decode.ensures ∙ c.in_ok-instr.was)
    (spelled c.in_ok-instr.instr _ (search rules) (c.as_slice.ensures.value ∙ c.encode.ensures.value)) c.if-ne.ensures

pub returns : goal.returns
returns c =
    tested c.args.code.now c.args.at c.min.result c.in_ok-instr.instr c.as_slice.result.now false (omega arith)
    (sym c.decode.ensures ∙ c.in_ok-instr.was)
    (spelled c.in_ok-instr.instr _ (search rules) (c.as_slice.ensures.value ∙ c.encode.ensures.value)) c.if-ne.ensures

pub returns-in_err-instr : goal.returns-in_err-instr
returns-in_err-instr c =
    let p = err_from_is_err_and c.from_residual.result c.from_residual.ensures.1 in
    rw (p.1, p.2)
    (refused c.args.code.now c.args.at c.min.result c.in_err-instr.field-0.0 (omega arith)
    (sym c.in_err-instr.ensures))
