use Rattle.scalar_ranges.specs.Scopes.{known_of, meaning_of}
use Rattle.program_uses.proofs.ScopesExtended.{extends_one}
use Rattle.program_uses.proofs.extending.add_name.Goals as goal

pub returns-clause-extends : goal.returns-clause-extends
returns-clause-extends c =
    extends_one (known_of c.args.scope.now) (known_of c.declare.new.self)
    (record { name = c.args.name.now; meaning = meaning_of c.args.meaning }) c.in_ok-declare.ensures.ok
    c.declare.ensures.blocks
