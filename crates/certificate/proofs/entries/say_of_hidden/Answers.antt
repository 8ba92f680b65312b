use Rattle.std.proofs.Common.{◌≡◌, ◌∙◌, ◌||◌, ◌+ℤ◌, pos, true, false, sym, rules, w32, FitsSigned}
use Rattle.std.specs.List.{list_any}
use Rattle.std.proofs.lemmas.Int.{to_z-of_z}
use Rattle.module_format.specs.Contents.{par_of}
use Rattle.certificate.specs.Starting.{says_of_word}
use Rattle.certificate.proofs.EntryLaws.{hidden_tells}
use Rattle.certificate.proofs.entries.say_of_hidden.Goals as goal

pub returns-then-say_of_block : goal.returns-then-say_of_block
returns-then-say_of_block c =
    let par = par_of c.args.par.now in
    let es = c.args.entries.now in
    let fits : FitsSigned w32 par.block = search rules in
    let block = rw (to_z-of_z w32 par.block fits) at c.say_of_block.ensures in
    let some : (list_any (says_of_word par.block) es || list_any (says_of_word (par.block +ℤ pos 1)) es) ≡ true =
    sym block ∙ c.if-say_of_block.true in
    c.if-say_of_block.true ∙ (rw some at (hidden_tells par es))

pub returns-else-say_of_block : goal.returns-else-say_of_block
returns-else-say_of_block c =
    let par = par_of c.args.par.now in
    let es = c.args.entries.now in
    let fits : FitsSigned w32 par.block = search rules in
    let block = rw (to_z-of_z w32 par.block fits) at c.say_of_block.ensures in
    let none : (list_any (says_of_word par.block) es || list_any (says_of_word (par.block +ℤ pos 1)) es) ≡ false =
    sym block ∙ c.if-say_of_block.false in
    (rw c.deref.ensures.value at c.say_of_any.ensures) ∙ (rw none at (hidden_tells par es))
