use Rattle.std.proofs.Common.{◌≡◌, take}
use Rattle.module_builder.specs.Spelling.{spelled_from}
use Rattle.module_builder.proofs.spelling.spell.Given as goal

abbrev pub invariant-loop-number : goal.invariant-loop-number
invariant-loop-number l =
    l.bytes.items ≡ spelled_from l.draft.code l.spacing.lengths.items 0 (take l.number l.item-items)
