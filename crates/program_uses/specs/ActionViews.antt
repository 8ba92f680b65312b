-- What the program knows of itself before a place.
use Rattle.program_uses.specs.declared.actions.Around as code_around
use Rattle.program_uses.specs.Signatures.{signatures_of}
use Rattle.program_uses.specs.Actions.{Around}

abbrev pub around_of : code_around.Around → Around
around_of a = record { signatures = signatures_of a.signatures.now; uncounted = a.uncounted }
