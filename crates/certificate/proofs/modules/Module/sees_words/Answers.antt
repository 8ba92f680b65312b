use Rattle.std.proofs.Common.{◌∙◌, sym, not, rules, ap, ◌&&◌, Bool, w32, FitsSigned}
use Rattle.std.proofs.lemmas.Int.{to_z-of_z}
use Rattle.certificate.specs.Rights.{may_read_word}
use Rattle.certificate.specs.Starting.{is_scheduling_word}
use Rattle.certificate.specs.Words.{all_words}
use Rattle.certificate.proofs.SpanLaws.{both_pass}
use Rattle.certificate.proofs.modules.Module.sees_words.Goals as goal

pub returns-then-may_read_words : goal.returns-then-may_read_words
returns-then-may_read_words c =
    let first = c.args.first in
    let workspace = c.args.workspace in
    let fits : FitsSigned w32 first = search rules in
    let there : FitsSigned w32 workspace = search rules in
    let reads = rw (to_z-of_z w32 first fits) at c.may_read_words.ensures in
    let leaves = rw (to_z-of_z w32 first fits, to_z-of_z w32 workspace there) at c.leaves_scheduling.ensures in
    leaves ∙ sym (both_pass (may_read_word c.args.self.now c.args.context)
    (λ k. not (is_scheduling_word workspace k)) first c.args.count
    ∙ ap (λ (b : Bool). b && all_words (λ k. not (is_scheduling_word workspace k)) first c.args.count)
    (sym reads ∙ c.if-may_read_words.true))

pub returns-else-may_read_words : goal.returns-else-may_read_words
returns-else-may_read_words c =
    let first = c.args.first in
    let workspace = c.args.workspace in
    let fits : FitsSigned w32 first = search rules in
    let reads = rw (to_z-of_z w32 first fits) at c.may_read_words.ensures in
    c.if-may_read_words.false ∙ sym (both_pass (may_read_word c.args.self.now c.args.context)
    (λ k. not (is_scheduling_word workspace k)) first c.args.count
    ∙ ap (λ (b : Bool). b && all_words (λ k. not (is_scheduling_word workspace k)) first c.args.count)
    (sym reads ∙ c.if-may_read_words.false))
