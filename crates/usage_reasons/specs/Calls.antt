-- What is known of an instance.
use Rattle.std.specs.Prelude.{List}
use Rattle.scalar_ranges.specs.Entries.{meaning_in}
use Rattle.program_uses.specs.Signatures.{Parameter, parameters_in, signatures_of}
use Rattle.usage_reasons.specs.declared.instances.Instance.{Instance}
use Rattle.usage_reasons.specs.Sites.{known_at}

-- the parameters of the procedure of an instance
abbrev pub parameters_for : Instance → List Parameter
parameters_for i = parameters_in (signatures_of i.site.signatures.now) (meaning_in i.name.now (known_at i.site))
