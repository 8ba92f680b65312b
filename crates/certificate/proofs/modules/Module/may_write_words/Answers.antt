use Rattle.std.proofs.Common.{◌∙◌, sym, rules, w32, FitsSigned}
use Rattle.std.proofs.lemmas.Int.{to_z-of_z}
use Rattle.certificate.proofs.SpanLaws.{no_writes, own_writes}
use Rattle.certificate.proofs.modules.Module.may_write_words.Goals as goal

pub returns-then-not-has_words : goal.returns-then-not-has_words
returns-then-not-has_words c =
    let fits : FitsSigned w32 c.args.first = search rules in
    let has = rw (to_z-of_z w32 c.args.first fits) at c.has_words.ensures in
    no_writes c.args.self.now c.args.context c.args.first c.args.count (sym has ∙ c.if-not-has_words.true)

pub returns-in-Some : goal.returns-in-Some
returns-in-Some c =
    let fits : FitsSigned w32 c.args.first = search rules in
    let has = rw (to_z-of_z w32 c.args.first fits) at c.has_words.ensures in
    let have = rw (to_z-of_z w32 c.args.first fits, c.deref.ensures.value) at c.have_words.ensures in
    have ∙ own_writes c.args.self.now c.args.context c.args.first c.args.count c.in-Some.own.now c.in-Some.ensures
    (sym has ∙ c.if-not-has_words.false)
