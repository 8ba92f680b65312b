-- What a branch is given that is not there to be given.
use Rattle.std.specs.Prelude.{ℕ, Bool, true, false, if◌then◌else◌, ℤ, pos, ◌+ℤ◌, List, Option, Some, None, option_map, is_some}
use Rattle.std.specs.Option.{option_or}
use Rattle.module_format.specs.declared.rows.Interval.{Interval}
use Rattle.module_format.specs.declared.rows.ChannelRow.{ChannelRow}
use Rattle.module_format.specs.Contents.{Contents, Par, Branch}
use Rattle.certificate.specs.Rights.{may_write_word, may_read_word}
use Rattle.rulings.specs.Reach.{readable_bytes, writable_bytes}
use Rattle.found_parts.specs.declared.faults.StartFault.{StartFault}
use Rattle.found_parts.specs.declared.faults.StartFault.TheVariants as faults
use Rattle.found_parts.specs.Firsts.{first_of}
use Rattle.found_parts.specs.Asked.{failing_within}

-- the first word of intervals that the context may not write
abbrev pub written_words_fault : Contents → ℕ → List Interval → Option StartFault
written_words_fault m context intervals =
    option_map faults.Unwritable (first_of (failing_within (may_write_word m context)) intervals)

-- the first word of intervals that it may not read
abbrev pub read_words_fault : Contents → ℕ → List Interval → Option StartFault
read_words_fault m context intervals =
    option_map faults.Unreadable (first_of (failing_within (may_read_word m context)) intervals)

-- a parameter, if it may not use what that names: write it, or read it
abbrev pub parameter_fault : Bool → Contents → ℕ → ℕ → Option StartFault
parameter_fault true m context j =
    if is_some (writable_bytes m context j) then None else Some (faults.UnwritableParameter (pos j))
parameter_fault false m context j =
    if is_some (readable_bytes m context j) then None else Some (faults.UnreadableParameter (pos j))

-- the first parameter that the branch uses otherwise than the context may
abbrev pub parameters_fault : Contents → ℕ → Branch → Option StartFault
parameters_fault m context b =
    option_or (first_of (parameter_fault true m context) b.written_parameters)
    (first_of (parameter_fault false m context) b.read_parameters)

-- the first word or parameter of which this is so
abbrev pub gifts_fault : Contents → ℕ → Branch → Option StartFault
gifts_fault m context b =
    option_or (option_or (written_words_fault m context b.writes) (read_words_fault m context b.reads))
    (parameters_fault m context b)

-- a word, if a context may read it
abbrev pub given_word : Contents → ℕ → ℤ → Option StartFault
given_word m context k = if may_read_word m context k then Some (faults.Given k) else None

abbrev pub block_word : Contents → ℕ → Par → Option StartFault
block_word m context par =
    option_or (given_word m context par.block) (given_word m context (par.block +ℤ pos 1))

-- the first word of the block of a PAR, or of a channel of it, that a context may read
abbrev pub hidden_fault : Contents → ℕ → Par → Option StartFault
hidden_fault m context par =
    option_or (block_word m context par)
    (first_of (λ (c : ChannelRow). given_word m context c.word) par.channels)
