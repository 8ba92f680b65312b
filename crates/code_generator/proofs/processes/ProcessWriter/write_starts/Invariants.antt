use Rattle.std.proofs.Common.{◌≡◌, ◌++◌, Some, drop}
use Rattle.line_pieces.specs.Opening.{starts_code}
use Rattle.code_generator.proofs.processes.ProcessWriter.write_starts.Given as goal

abbrev pub invariant-loop-branch : goal.invariant-loop-branch
invariant-loop-branch l =
    (l.self.listing ++ starts_code l.self.label l.goes_on (drop l.branch-index l.branches)
    ≡ l.initial.self.listing ++ starts_code l.initial.self.label (Some l.successor) l.branches)
    × (l.self.scope ≡ l.initial.self.scope) × (l.self.frame ≡ l.initial.self.frame)
