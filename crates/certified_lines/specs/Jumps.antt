-- What the rule of a conditional jump leaves where it falls, and what it asks of the row where it leads.
use Rattle.std.specs.Prelude.{◌≡◌, ℕ, ◌+◌, ◌-◌, ◌^◌, ◌<◌, ◌≤◌, pos, true, false, Some, Ok}
use Rattle.word_arithmetic.specs.Range.{Ends, IsRange}
use Rattle.prefix_decoder.specs.declared.function.Fun.TheVariants as fun
use Rattle.module_format.specs.Contents.{Label, label_at}
use Rattle.module_format.specs.Stack.{popped, with_top}
use Rattle.states.specs.Below.{below}
use Rattle.states.specs.State.{unknown}
use Rattle.rulings.specs.Rulings.{falls_or_leads}
use Rattle.local_rules.specs.WordRules.{number_in, known_constant}
use Rattle.facts.specs.Rules.{rule}
use Rattle.certified_lines.specs.StraightRules.{Setting, Told, state_of}
use Rattle.certified_lines.specs.TestLaws.{where_it}

-- where the truth in A holds, behind the jump, and where it does not, at the label
abbrev pub fallen : Told → Told
fallen s = record { stack = popped unknown s.stack; frame = where_it true s }

abbrev pub jumped : Told → Told
jumped s = record { stack = with_top (known_constant (pos 0)) s.stack; frame = where_it false s }

-- A jump over bytes breaks no rule, where A is a number, and the row where it leads is that of a state which knows as
-- much as is known there, or less.
abbrev pub JumpsFork : Type 0
JumpsFork = (g : Setting) (at size number bytes cost : ℕ) (s : Told) (r : Ends) (row : Label)
    → at + size + bytes < 2 ^ 32 → s.stack.a.fact ≡ number_in r → IsRange r → size ≤ number
    → label_at g.contents (at + size + bytes) ≡ Some row
    → below (state_of g (jumped s) (number - size)) row ≡ Ok cost
    → rule (record { contents = g.contents; at = at; length = size }) fun.ConditionalJump (pos bytes)
    (state_of g s number) ≡ falls_or_leads (state_of g (fallen s) (number - size)) (at + size + bytes)
