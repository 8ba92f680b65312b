-- The guards of an alternation, in words, and the one that is disabled next.
use Rattle.std.specs.Prelude.{ℕ, Bool, true, false, if◌then◌else◌, [], ◌++◌, codes, List, slice_get, Option, Some}
use Rattle.std.specs.Prelude.{None}
use Rattle.std.specs.Fmt.{decimal, signed_decimal}
use Rattle.module_format.specs.declared.stack.Stack.{Stack}
use Rattle.machine_state.specs.declared.op.Op.{Op}
use Rattle.machine_state.specs.declared.op.Op.TheVariants.{EnableSkip, EnableChannel, DisableSkip, DisableChannel}
use Rattle.machine_state.specs.declared.op.Op.TheVariants.{AlternationEnd}
use Rattle.states.specs.declared.known.Known.{Known}
use Rattle.states.specs.declared.known.Mode.{Mode}
use Rattle.states.specs.declared.known.Mode.TheVariants.{Disabling}
use Rattle.states.specs.declared.known.Guard.{Guard}
use Rattle.states.specs.declared.known.GuardKind.{GuardKind}
use Rattle.states.specs.declared.known.GuardKind.TheVariants as kinds
use Rattle.states.specs.declared.known.GuardName.{GuardName}
use Rattle.states.specs.declared.known.GuardName.TheVariants as names
use Rattle.states.specs.State.{State}
use Rattle.fact_texts.specs.Texts.{Text}
use Rattle.fact_texts.specs.FactTexts.{fact_text}
use Rattle.state_texts.specs.StateTexts.{known_text}
use Rattle.found_parts.specs.declared.guards.NextGuard.{NextGuard}
use Rattle.found_parts.specs.declared.guards.NextGuard.TheVariants as nexts
use Rattle.found_parts.specs.Names.{channel_name, word_name}

-- ---- texts

-- the registers by which an operation enables or disables a guard
abbrev pub registers_text : Op → Stack Known → Text
registers_text EnableSkip stack = codes "; A is " ++ known_text stack.a
registers_text EnableChannel stack =
    codes "; A is " ++ (known_text stack.a ++ (codes " and B is " ++ word_name stack.b.fact))
registers_text DisableSkip stack =
    codes "; A is " ++ (fact_text stack.a.fact ++ (codes " and B is " ++ known_text stack.b))
registers_text DisableChannel stack =
    codes "; A is " ++ (fact_text stack.a.fact ++ (codes ", B is " ++ (known_text stack.b ++ (codes " and C is "
    ++ word_name stack.c.fact))))
registers_text op stack = []

-- what a guard waits for
abbrev pub kind_text : GuardKind → Text
kind_text (kinds.Channel kind) = channel_name kind
kind_text kinds.Skip = codes "a skip"

-- what its truth is known by
abbrev pub name_text : GuardName → Text
name_text (names.Constant value) = signed_decimal value
name_text (names.Word word) = codes "word " ++ signed_decimal word

abbrev pub guard_text : Guard → Text
guard_text guard = kind_text guard.kind ++ (codes " by " ++ name_text guard.name)

-- the guard that is disabled next
abbrev pub next_text : NextGuard → Text
next_text (nexts.Guard number guard) =
    codes "guard " ++ (decimal number ++ (codes " is next: " ++ guard_text guard))
next_text nexts.None = codes "no guard is left"

-- ---- the next one

-- an operation disables a guard, or ends an alternation
abbrev pub is_disabling : Op → Bool
is_disabling DisableChannel = true
is_disabling DisableSkip = true
is_disabling AlternationEnd = true
is_disabling op = false

-- the guard that is disabled next, after this number of guards
abbrev pub next_of : List Guard → ℕ → NextGuard
next_of guards done = elim (slice_get guards done) [ None ↦ nexts.None | Some guard ↦ nexts.Guard done guard ]

abbrev pub next_in : List Guard → Mode → Option NextGuard
next_in guards (Disabling done) = Some (next_of guards done)
next_in guards mode = None

-- the guard that is disabled next, if guards are being disabled and the operation asks for it
unfoldable pub next_guard : Op → State → Option NextGuard
next_guard op s = if is_disabling op then next_in s.guards s.mode else None
