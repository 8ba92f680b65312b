use Rattle.std.proofs.Common.{ap, sym, ◌∙◌}
use Rattle.scalar_ranges.specs.Naming.{number_of}
use Rattle.scalar_ranges.specs.Scopes.{entries_of}
use Rattle.scalar_ranges.proofs.Named.{number_of_names}
use Rattle.scalar_ranges.proofs.scope.Scope.find.Goals as goal

pub returns : goal.returns
returns c = record {
  number = c.find.ensures ∙ ap (number_of c.args.name.now) c.args.self.now.named
      ∙ sym (number_of_names c.args.name.now (entries_of c.args.self.now));
}
