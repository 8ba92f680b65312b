use Rattle.module_format.specs.Contents.{procedure_of}
use Rattle.states.proofs.Procedures.{begins}
use Rattle.states.proofs.state.State.become_procedure.Goals as goal

pub begin-requires-clause-first : goal.begin-requires-clause-first
begin-requires-clause-first c =
    (begins c.args.module.now c.args.self.now c.args.context
    (procedure_of c.args.row.now) c.requires.belongs.kept c.requires.belongs c.requires.some c.requires.row).first

pub begin-requires-clause-room : goal.begin-requires-clause-room
begin-requires-clause-room c =
    (begins c.args.module.now c.args.self.now c.args.context
    (procedure_of c.args.row.now) c.requires.belongs.kept c.requires.belongs c.requires.some c.requires.row).each

pub begin-requires-clause-few : goal.begin-requires-clause-few
begin-requires-clause-few c =
    (begins c.args.module.now c.args.self.now c.args.context
    (procedure_of c.args.row.now) c.requires.belongs.kept c.requires.belongs c.requires.some c.requires.row).few
