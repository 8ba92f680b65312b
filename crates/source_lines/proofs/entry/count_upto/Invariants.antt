use Rattle.std.proofs.Common.{◌≡◌, ◌≤◌, ◌<◌, ℕ, length, IfSome, slice_get}
use Rattle.source_lines.specs.declared.entry.LineEntry.{LineEntry}
use Rattle.source_lines.specs.SourceLines.{count_upto}
use Rattle.source_lines.proofs.entry.count_upto.Given as goal

abbrev pub decreases-loop-count : goal.decreases-loop-count
decreases-loop-count l = l.count

abbrev pub invariant-loop-count : goal.invariant-loop-count
invariant-loop-count l =
    (count_upto l.entries l.at l.count ≡ count_upto l.entries l.at (length l.entries))
    × (l.count ≤ length l.entries)
    × ((k : ℕ) → l.count ≤ k → k < length l.entries → IfSome (slice_get l.entries k) (λ (e : LineEntry). l.at < e.offset))
