use Rattle.std.proofs.Common.{rules}
use Rattle.std.proofs.lemmas.Result.{IfOk-weaker}
use Rattle.file_access.proofs.EitherRead.{either_module, either_source}
use Rattle.file_access.proofs.extent.read_either.Goals as goal

pub returns-then-begins_as_module : goal.returns-then-begins_as_module
returns-then-begins_as_module g c =
    IfOk-weaker c.read_module_rest.result _ _
    (λ v is. either_module c.in_ok-bytes.bytes.items c.in_ok-bytes.ensures.most v.items (search rules)
    (g.R.Read.remaining c.args.file) (g.R.Read.remaining c.read_magic.new.file) c.in_ok-bytes.ensures.taken
    c.in_ok-bytes.ensures.all is) c.read_module_rest.ensures

pub returns-else-begins_as_module : goal.returns-else-begins_as_module
returns-else-begins_as_module g c =
    IfOk-weaker c.read_rest.result _ _
    (λ v is. either_source c.in_ok-bytes.bytes.items c.in_ok-bytes.ensures.most v.items (search rules)
    (g.R.Read.remaining c.args.file) (g.R.Read.remaining c.read_magic.new.file) c.in_ok-bytes.ensures.taken
    c.in_ok-bytes.ensures.all is) c.read_rest.ensures
