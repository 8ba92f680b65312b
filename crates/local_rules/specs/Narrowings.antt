-- What a narrowing makes of what is known of words.
use Rattle.std.specs.Prelude.{Bool, if◌then◌else◌, Option, Some, None}
use Rattle.local_rules.specs.declared.narrowing.Narrowing.{Narrowing}
use Rattle.states.specs.State.{Facts}
use Rattle.states.specs.Frames.{with_alone}

-- where the condition had this result
abbrev pub narrowed_by : Option Narrowing → Bool → Facts → Facts
narrowed_by None holds facts = facts
narrowed_by (Some n) holds facts = with_alone n.word (if holds then n.if_true else n.if_false) facts
