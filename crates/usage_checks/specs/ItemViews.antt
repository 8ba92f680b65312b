-- What the program knows of its items.
use Rattle.scalar_ranges.specs.Scopes.{known_of}
use Rattle.program_uses.specs.Signatures.{signatures_of}
use Rattle.usage_checks.specs.declared.items.Outside as code_outside
use Rattle.usage_checks.specs.ItemRules.{Outside}
use Rattle.program_sizes.specs.LineSizes.{capped}

abbrev pub seen_outside : code_outside.Outside → Outside
seen_outside o = record {
  known = known_of o.scope;
  signatures = signatures_of o.signatures.items;
  size = capped o.weight.sum;
  uncounted = o.weight.over;
}
