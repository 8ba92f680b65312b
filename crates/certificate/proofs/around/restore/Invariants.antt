use Rattle.std.proofs.Common.{◌≡◌, ℕ, ℤ, Option, None, map, drop}
use Rattle.std.specs.Ordering.{int_cmp}
use Rattle.std.specs.BTreeMap.{get}
use Rattle.certificate.specs.Rights.{listed_length}
use Rattle.certificate.proofs.around.restore.Given as goal

-- the words of the channels so far have what they had
abbrev pub invariant-loop-index : goal.invariant-loop-index
invariant-loop-index l = (had : ℤ → Option ℕ) → l.saved ≡ map (λ channel. had channel.word) l.channels
    → ((k : ℤ) → listed_length l.channels k ≡ None → get int_cmp l.initial.lengths k ≡ had k)
    → (k : ℤ) → listed_length (drop l.index l.channels) k ≡ None → get int_cmp l.lengths k ≡ had k
