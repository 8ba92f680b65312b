use Rattle.std.proofs.Common.{◌≡◌, ◌++◌, string_bytes}
use Rattle.source_lines.specs.SourceLines.{around_text}
use Rattle.source_lines.proofs.texts.push_around.Given as goal

abbrev pub decreases-loop-left : goal.decreases-loop-left
decreases-loop-left l = l.left

abbrev pub invariant-loop-left : goal.invariant-loop-left
invariant-loop-left l =
    string_bytes l.text ++ around_text l.entries l.left l.inner.depth l.inner.line
    ≡ string_bytes l.initial.text ++ around_text l.entries l.count l.fn.entry.depth l.fn.entry.line
