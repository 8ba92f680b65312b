use Rattle.std.proofs.Common.{rules, ◌≡◌, ◌++◌, ◌∙◌, ◌<◌, Some, ap, sym, get_or, slice_get, length, string_bytes}
use Rattle.std.proofs.Common.{refl, arith, append_assoc}
use Rattle.std.proofs.lemmas.Option.{slice_get-get_or}
use Rattle.source_lines.specs.SourceLines.{around_text, within_text}
use Rattle.source_lines.proofs.LinesAround.{around_outer}
use Rattle.source_lines.proofs.texts.push_outer.Goals as goal

pub returns : goal.returns
returns c =
    let es = c.args.entries.now in
    let number = c.args.number in
    let inner = c.args.inner in
    let e = c.in-Some.outer.now in
    let old = string_bytes c.args.text.now in
    let rest = around_text es number e.depth e.line in
    let less : number < length es = search rules in
    let found : e ≡ get_or es number e = search rules in
    let at : slice_get es number ≡ Some e = slice_get-get_or es number e less ∙ ap Some (sym found) in
    ap (λ x. x ++ rest) c.in_ok-write.ensures.bytes
    ∙ (append_assoc old (within_text inner.line e.line) rest
    ∙ ap (λ x. old ++ x) (sym (around_outer es number _ inner.depth inner.line e refl at (omega arith))))
