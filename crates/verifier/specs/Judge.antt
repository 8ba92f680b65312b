-- The verdict on a module, found in one pass.
use Rattle.std.specs.Prelude.{ℕ, zero, suc, ◌+◌, ◌-◌, nat_le, nat_lt, if◌then◌else◌, length, Option, Some, None}
use Rattle.std.specs.Prelude.{Result, Ok, Err}
use Rattle.prefix_decoder.specs.declared.decoding.Instr.{Instr}
use Rattle.prefix_decoder.specs.declared.decoding.DecodeFault.{DecodeFault}
use Rattle.prefix_decoder.specs.Fetching.{fetched}
use Rattle.module_format.specs.Contents.{Contents}
use Rattle.certificate.specs.Starts.{is_start}
use Rattle.states.specs.declared.rule.Rule.{Rule}
use Rattle.states.specs.declared.rule.Rule.TheVariants as rules
use Rattle.states.specs.Numbers.{number_of}
use Rattle.states.specs.State.{State, root_state}
use Rattle.rulings.specs.Rulings.{Ruling, breaks, falling}
use Rattle.facts.specs.Rules.{rule_at, is_instruction}
use Rattle.verifier.specs.declared.stop.Breach.{Breach}
use Rattle.certified_worlds.specs.Certified.{state_at, entering}

-- of two rules the one with the lower number
abbrev pub lower : Rule → Rule → Rule
lower first second = if nat_lt (number_of second) (number_of first) then second else first

-- what falls into the next offset, or the lower of two rules that are broken
abbrev pub both : Result ℕ Rule → Ruling → Result (Option State) Rule
both (Ok cost) (breaks broken) = Err broken
both (Ok cost) r = Ok (falling r)
both (Err first) (breaks second) = Err (lower first second)
both (Err first) _ = Err first

-- one instruction, in the state at its offset, or where there is none: falling into the offset costs this, or breaks a
-- rule
abbrev pub judged_once : Contents → ℕ → Result ℕ Rule → Instr → Option State → Result (Option State) Rule
judged_once m at entered i None = Err (if is_instruction m i then rules.Flow else rules.Spelling)
judged_once m at entered i (Some s) = both entered (rule_at m at i s)

-- the same, where `before` falls into the offset
abbrev pub judged_in : Contents → ℕ → Option State → Instr → Option State → Result (Option State) Rule
judged_in m at before i reached = judged_once m at (entering m at before) i reached

-- one instruction, where `before` falls into its offset
unfoldable pub judged_at : Contents → ℕ → Option State → Instr → Result (Option State) Rule
judged_at m at before i = judged_in m at before i (state_at m at before)

-- the first of a number of offsets from `at` on that the tables say is a start
abbrev pub start_among : Contents → ℕ → ℕ → Option ℕ
start_among m at zero = None
start_among m at (suc more) = if is_start m at then Some at else start_among m (at + 1) more

abbrev pub Verdict : Type 0
Verdict = Result (Unit {0}) Breach

abbrev pub refused : Rule → ℕ → Verdict
refused rule at = Err (record { rule = rule; offset = at })

abbrev pub at_the_end : ℕ → Option State → Verdict
at_the_end at None = Ok tt
at_the_end at (Some s) = refused rules.Flow at

-- A start within the instruction is refused; else `go` judges the rest.
abbrev pub past_starts : (ℕ → Option State → Verdict) → ℕ → Option State → Option ℕ → Verdict
past_starts go to after (Some inside) = refused rules.InstructionStart inside
past_starts go to after None = go to after

abbrev pub past_rule : Contents → (ℕ → Option State → Verdict) → ℕ → ℕ → Result (Option State) Rule → Verdict
past_rule m go at len (Err broken) = refused broken at
past_rule m go at len (Ok after) = past_starts go (at + len) after (start_among m (at + 1) (len - 1))

abbrev pub past_spelling : Contents → (ℕ → Option State → Verdict) → ℕ → Option State → Result Instr DecodeFault
    → Verdict
past_spelling m go at before (Err e) = refused rules.Spelling at
past_spelling m go at before (Ok i) = past_rule m go at i.len (judged_at m at before i)

-- from an offset on, with at most this number of instructions
unfoldable pub judge : ℕ → Contents → ℕ → Option State → Verdict
judge zero m at before = at_the_end at before
judge (suc more) m at before =
    if nat_le (length m.code) at then at_the_end at before else past_spelling m
    (λ to after. judge more m to after) at before (fetched m.code at)

abbrev pub verdict : Contents → Verdict
verdict m = judge (length m.code) m 0 (Some (root_state m))
