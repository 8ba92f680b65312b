use Rattle.std.proofs.Common.{◌∙◌, sym, ap, rules, w32, FitsSigned}
use Rattle.std.specs.Ordering.{int_cmp}
use Rattle.std.specs.BTreeMap.{get}
use Rattle.std.proofs.lemmas.Int.{to_z-of_z}
use Rattle.module_format.specs.declared.rows.EndKind.{EndKind}
use Rattle.certificate.specs.Runs.{word_length}
use Rattle.certificate.proofs.runs.length_of.Goals as goal

pub returns-in-FrameWord : goal.returns-in-FrameWord
returns-in-FrameWord c =
    let fits : FitsSigned w32 c.in-FrameWord.word = search rules in
    c.copied.ensures ∙ (rw (to_z-of_z w32 c.in-FrameWord.word fits) at c.get.ensures.value)
    ∙ sym (ap (λ (kind : EndKind). word_length (get int_cmp c.args.lengths.now) kind) c.in-FrameWord.is)
