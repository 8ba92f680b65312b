use Rattle.scalar_ranges.specs.Scopes.{known_of}
use Rattle.program_uses.proofs.NamesEntered.{enters_ok, enters_err}
use Rattle.program_uses.proofs.uses.Uses.enter.Goals as goal

pub returns-in-Ok-clause-entries : goal.returns-in-Ok-clause-entries
returns-in-Ok-clause-entries c =
    enters_ok _ (known_of c.args.scope.now)
    (known_of c.add_outline.new.scope) c.add_outline.ensures.extends c.in-Ok.ensures.ok

pub returns-in-Err-clause-entries : goal.returns-in-Err-clause-entries
returns-in-Err-clause-entries c =
    enters_err c.fail.new.self (known_of c.args.scope.now)
    (known_of c.add_outline.new.scope) c.add_outline.ensures.extends
    c.fail.ensures.complete
