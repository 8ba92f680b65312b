-- The small module that sends on the byte that it receives runs as the small program means that does so.
use Rattle.std.proofs.Common.{◌≡◌, ℕ, ◌<◌, ◌%◌, Bool, true, false, List, [], ◌∷◌, length, Option, Some, None, refl, sym}
use Rattle.std.proofs.Common.{subst, arith}
use Rattle.std.proofs.lemmas.Bool.{le-leb}
use Rattle.std.specs.Prelude.{nat_le, pos}
use Rattle.std.specs.Int.{w32, cast_unsigned}
use Rattle.std.specs.List.{AllByRecursion}
use Rattle.word_arithmetic.specs.Binary.{computed}
use Rattle.module_format.specs.Contexts.{parameters_at, context_at}
use Rattle.machine_state.specs.declared.link.Link.TheVariants.{Zero}
use Rattle.machine_state.specs.Instructions.{op_of, instruction_of}
use Rattle.machine_state.specs.LocalStep.{local_step, step_of, instruction_step, operation_step}
use Rattle.machine_state.specs.LocalStep.{outside_alternation, outside_starts, while_enabling, while_disabling, counts}
use Rattle.machine_state.specs.LocalStep.{holds, channel, exchanges}
use Rattle.machine_state.specs.LocalStep.{uses, reads, writes, reads_byte, writes_byte, schedules, computes, goes_on}
use Rattle.machine_state.specs.LocalStep.{leads_to, lands_at, followed_by_code, aligned, copied}
use Rattle.machine_state.specs.Spans.{all_places, runs, less}
use Rattle.machine_state.specs.Memory.{place_of, local_address, word_at, with_word}
use Rattle.machine_state.specs.Holding.{may_write_word, may_read_word}
use Rattle.machine_state.specs.Moves.{dispatch}
use Rattle.machine_state.specs.Happens.{turn}
use Rattle.machine_state.specs.SmallModules.{echo}
use Rattle.occam_parser.specs.declared.tree.ValueType.TheVariants as value_type
use Rattle.program_meaning.specs.SmallPrograms.{echoes, skip}
use Rattle.link_runs.specs.ByLink.{ByLink}
use Rattle.link_runs.specs.FirstInFirstOut.{Supply, RunMoment, moment_after, next, IsOver}
use Rattle.program_meaning.specs.Meaning.{Ending, Report, Ended, Idle, meaning}
use Rattle.occam_parser.specs.Blocks.{ProgramItem}
use Rattle.module_format.specs.Contents.{Contents}
use Rattle.meant_runs.specs.Meant.{EndsAsMeant, RunsAsMeant, IsReportOf, bytes_in, all_bytes_in}
use Rattle.meant_runs.specs.Meant.{in_order}

-- a run is over at this moment, if there is one, and this is reported there
abbrev EndsAt : Contents → ByLink Bool → Report → Option RunMoment → Type 0
EndsAt m writers r None = ⊥
EndsAt m writers r (Some s) = IsOver m writers s × IsReportOf r s

ends_after : (m : Contents) (items : List ProgramItem) (inputs : ByLink Supply) (writers : ByLink Bool) (n : ℕ)
    (r : Report) (o : Option RunMoment) → meaning items (all_bytes_in inputs) (in_order writers) ≡ r
    → moment_after m inputs writers n ≡ o → EndsAt m writers r o → EndsAsMeant m items inputs writers
ends_after m items inputs writers n r None means is ends = absurd ends
ends_after m items inputs writers n r (Some s) means is ends = record {
  turns = n;
  last = s;
  run = is;
  over = ends.0;
  report = subst (λ (report : Report). IsReportOf report s) (sym means) ends.1;
}

-- ---- what is reported, and when: by what link 0 has to give, and by whether something listens on it

-- this was read from link 0 and written to it
reports : Ending → List ℕ → List ℕ → Report
reports ending read written = record {
  ending = ending;
  read = read ∷ [] ∷ [] ∷ [] ∷ [];
  written = written ∷ [] ∷ [] ∷ [] ∷ [];
}

report_of : Supply → Bool → Report
report_of None listens = reports Idle [] []
report_of (Some []) listens = reports Idle [] []
report_of (Some (byte ∷ bytes)) false = reports Idle (byte ∷ []) []
report_of (Some (byte ∷ bytes)) true = reports Ended (byte ∷ []) (byte ∷ [])

turns_of : Supply → Bool → ℕ
turns_of None listens = 8
turns_of (Some []) listens = 9
turns_of (Some (byte ∷ bytes)) false = 14
turns_of (Some (byte ∷ bytes)) true = 16

one_is_there : (byte : ℕ) (bytes : List ℕ) → nat_le 1 (length (byte ∷ bytes)) ≡ true
one_is_there byte bytes = le-leb 1 (length (byte ∷ bytes)) (omega arith)

same_byte : (byte : ℕ) → byte < 256 → cast_unsigned w32 (pos (byte % 256)) % 256 ≡ byte
same_byte byte low = omega arith

means : (first : Supply) (second third fourth : List ℕ) (w x y z : Bool)
    → AllByRecursion (λ byte. byte < 256) (bytes_in first)
    → meaning (echoes value_type.Byte skip) (bytes_in first ∷ second ∷ third ∷ fourth ∷ []) (w ∷ x ∷ y ∷ z ∷ [])
    ≡ report_of first w
unfolding reports report_of
means None second third fourth w x y z low = refl
means (Some []) second third fourth w x y z low = refl
means (Some (byte ∷ bytes)) second third fourth false x y z low = rw (one_is_there byte bytes) refl
means (Some (byte ∷ bytes)) second third fourth true x y z low =
    rw (one_is_there byte bytes, same_byte byte low.0) refl

runs_so : (first second third fourth : Supply) (w x y z : Bool) → let writers : ByLink Bool =
    record { first = w; second = x; third = y; fourth = z } in
    EndsAt echo writers (report_of first w)
    (moment_after echo (record { first = first; second = second; third = third; fourth = fourth }) writers
    (turns_of first w))
unfolding reports report_of turns_of next turn local_step step_of instruction_of op_of instruction_step operation_step
    computes computed outside_alternation outside_starts while_enabling while_disabling uses reads writes reads_byte
    writes_byte schedules goes_on leads_to lands_at followed_by_code holds aligned channel counts exchanges copied
    all_places runs less parameters_at context_at place_of local_address word_at with_word may_write_word may_read_word
    dispatch
runs_so None second third fourth w x y z = (refl, record { ending = refl; read = refl; written = refl })
runs_so (Some []) second third fourth w x y z = (refl, record { ending = refl; read = refl; written = refl })
runs_so (Some (byte ∷ bytes)) second third fourth false x y z =
    (refl, record { ending = refl; read = refl; written = refl })
runs_so (Some (byte ∷ bytes)) second third fourth true x y z =
    (refl, record { ending = refl; read = refl; written = refl })

pub echo_runs_as_meant : RunsAsMeant echo (echoes value_type.Byte skip)
echo_runs_as_meant inputs writers low =
    ends_after echo (echoes value_type.Byte skip) inputs writers (turns_of inputs.first writers.first)
    (report_of inputs.first writers.first) _
    (means inputs.first (bytes_in inputs.second) (bytes_in inputs.third) (bytes_in inputs.fourth) writers.first
    writers.second writers.third writers.fourth (low Zero))
    refl
    (runs_so inputs.first inputs.second inputs.third inputs.fourth writers.first writers.second writers.third
    writers.fourth)
