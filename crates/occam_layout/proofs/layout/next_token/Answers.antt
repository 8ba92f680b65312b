use Rattle.std.proofs.Common.{arith, sym, subst, ◌∙◌}
use Rattle.std.proofs.lemmas.Result.{err_from_is_err_and}
use Rattle.occam_layout.specs.Kind.{kind_of}
use Rattle.occam_layout.proofs.LiteralWords.{found_words}
use Rattle.occam_layout.proofs.QuotedBytes.{AreSmall, are_small, back_small}
use Rattle.occam_layout.proofs.Scanning.{is_over, is_refused, is_found, takes_some}
use Rattle.occam_layout.proofs.layout.next_token.Goals as goal

pub returns-then-is_blank-clause-next : goal.returns-then-is_blank-clause-next
returns-then-is_blank-clause-next c =
    is_over c.args.offset c.spaces_len-gap.result c.args.line.now c.split_at.result.1.now
    c.spaces_len-gap.ensures.len c.split_at.ensures.back (sym c.is_blank.ensures ∙ c.if-is_blank.true)

pub returns-in_err-kind-clause-next : goal.returns-in_err-kind-clause-next
returns-in_err-kind-clause-next c =
    let p = err_from_is_err_and c.from_residual.result c.from_residual.ensures.1 in
    rw (p.1, p.2) (is_refused c.args.offset c.spaces_len-gap.result c.args.line.now c.split_at.result.1.now
    c.in_err-kind.field-0.0 c.spaces_len-gap.ensures.len c.split_at.ensures.back
    (sym c.is_blank.ensures ∙ c.if-is_blank.false) c.in_err-kind.ensures.found)

pub returns-clause-next : goal.returns-clause-next
returns-clause-next c =
    is_found c.args.offset c.spaces_len-gap.result c.in_ok-kind.len c.args.line.now c.split_at.result.1.now
    c.split_at-2.result.1.now (kind_of c.in_ok-kind.kind) c.spaces_len-gap.ensures.len c.split_at.ensures.back
    (sym c.is_blank.ensures ∙ c.if-is_blank.false) c.in_ok-kind.ensures.found c.split_at-2.ensures.back

pub returns-clause-within : goal.returns-clause-within
returns-clause-within c =
    let some = takes_some c.split_at.result.1.now (kind_of c.in_ok-kind.kind) c.in_ok-kind.len
    c.in_ok-kind.ensures.found in
    let first = c.split_at.ensures.back_len in
    let second = c.split_at-2.ensures.back_len in
    (omega arith, omega arith)

pub invariant_of-result : goal.invariant_of-result
invariant_of-result c =
    let body = c.split_at.result.1.now in
    let all = are_small c.args.line.now (λ i. omega (arith, c.type_inv.line i)) in
    let small = subst AreSmall (sym c.split_at.ensures.back) (back_small c.spaces_len-gap.result c.args.line.now all) in
    record { words = found_words body (kind_of c.in_ok-kind.kind) c.in_ok-kind.len small c.in_ok-kind.ensures.found }
