use Rattle.std.proofs.Common.{◌≡◌, fold, length, pos}
use Rattle.word_arithmetic.specs.Range.{constant, hull, ends_of}
use Rattle.occam_layout.specs.Kind.{bytes_of}
use Rattle.program_uses.proofs.declaring.range_of_bytes.Given as goal

abbrev pub decreases-loop-byte : goal.decreases-loop-byte
decreases-loop-byte l = length (bytes_of l.rest)

-- the bytes that are left widen the range to that of all bytes
abbrev pub invariant-loop-byte : goal.invariant-loop-byte
invariant-loop-byte l =
    fold (λ range b. hull range (constant (pos b))) (ends_of l.range) (bytes_of l.rest)
    ≡ fold (λ range b. hull range (constant (pos b))) (ends_of l.initial.range) (bytes_of l.initial.rest)
