-- What a PAR wants at its first start that is not so: the first word of its block, of its channels and of the
-- parameters that its branches name.
use Rattle.std.specs.Prelude.{ℕ, Bool, false, if◌then◌else◌, ℤ, pos, negsuc, ◌+ℤ◌, length, slice_get, Option, Some}
use Rattle.std.specs.Prelude.{None, option_map, List}
use Rattle.std.specs.Option.{option_or}
use Rattle.word_arithmetic.specs.Word.{least_word}
use Rattle.module_format.specs.declared.rows.ChannelRow.{ChannelRow}
use Rattle.module_format.specs.declared.rows.EndKind.{EndKind}
use Rattle.module_format.specs.declared.rows.EndKind.TheVariants as ends
use Rattle.module_format.specs.declared.rows.EndRow.{EndRow}
use Rattle.module_format.specs.declared.rows.Parameter.{Parameter}
use Rattle.module_format.specs.Contents.{Contents, Par, Branch}
use Rattle.module_format.specs.Contexts.{parameters_at}
use Rattle.certificate.specs.Rights.{may_write_word, may_read_word}
use Rattle.states.specs.declared.known.WordFact.{WordFact}
use Rattle.states.specs.State.{State}
use Rattle.states.specs.Below.{holds_constant}
use Rattle.par_rules.specs.Openings.{is_code_address, is_start_of}
use Rattle.found_parts.specs.declared.faults.Wanted.{Wanted}
use Rattle.found_parts.specs.declared.faults.Wanted.TheVariants as wants
use Rattle.found_parts.specs.declared.faults.StartFault.{StartFault}
use Rattle.found_parts.specs.declared.faults.StartFault.TheVariants as faults
use Rattle.found_parts.specs.Firsts.{first_of}

-- ---- words

abbrev pub is_start_of_parameter : ℤ → WordFact → Bool
is_start_of_parameter (pos j) fact = is_start_of j fact
is_start_of_parameter (negsuc j) fact = false

-- a word is what is wanted
abbrev pub is_wanted : Wanted → WordFact → Bool
is_wanted (wants.Code offset) fact = is_code_address fact offset
is_wanted (wants.Number number) fact = holds_constant fact number
is_wanted (wants.Parameter number) fact = is_start_of_parameter number fact

-- a word, if it is not what is wanted
abbrev pub unlike : State → ℤ → Wanted → Option StartFault
unlike s k wanted = if is_wanted wanted (s.frame k) then None else Some (faults.Word k wanted (s.frame k))

-- a word, if the context may not write it
abbrev pub unwritable : Contents → State → ℤ → Option StartFault
unwritable m s k = if may_write_word m s.context k then None else Some (faults.Unwritable k)

-- a word, if the context may not read it
abbrev pub unreadable : Contents → State → ℤ → Option StartFault
unreadable m s k = if may_read_word m s.context k then None else Some (faults.Unreadable k)

-- a word, if it may not be written or is not what is wanted
abbrev pub prepared : Contents → State → ℤ → Wanted → Option StartFault
prepared m s k wanted = option_or (unwritable m s k) (unlike s k wanted)

-- ---- the block and the channels

-- what the second word of the block has to be: one more than the number of branches
abbrev pub count_wanted : Par → Wanted
count_wanted par = wants.Number (pos (length par.branches) +ℤ pos 1)

abbrev pub block_fault : Contents → State → Par → Option StartFault
block_fault m s par =
    option_or (prepared m s par.block (wants.Code par.successor))
    (prepared m s (par.block +ℤ pos 1) (count_wanted par))

unfoldable pub channel_fault : Contents → State → ChannelRow → Option StartFault
channel_fault m s c = prepared m s c.word (wants.Number least_word)

-- ---- parameters

-- the word of a parameter, if there is one of this number
abbrev pub parameter_word : List Parameter → ℤ → Option ℤ
parameter_word parameters (pos j) = option_map (λ (p : Parameter). pos p.word) (slice_get parameters j)
parameter_word parameters (negsuc j) = None

abbrev pub given_from : Contents → State → ℤ → Option ℤ → Option StartFault
given_from m s number None = Some (faults.UnreadableParameter number)
given_from m s number (Some word) = option_or (unreadable m s word) (unlike s word (wants.Parameter number))

-- the context may not read the word of a parameter, or it is not as it was given
unfoldable pub given_fault : Contents → State → ℤ → Option StartFault
given_fault m s number = given_from m s number (parameter_word (parameters_at m s.context) number)

-- the same of the parameter whose channel has an end, if it is a parameter's
unfoldable pub end_fault : Contents → State → EndKind → Option StartFault
end_fault m s (ends.Parameter number element) = given_fault m s number
end_fault m s kind = None

-- the same of a parameter that is listed
abbrev pub listed_fault : Contents → State → ℕ → Option StartFault
listed_fault m s j = given_fault m s (pos j)

-- the same of all parameters that a branch names
unfoldable pub named_fault : Contents → State → Branch → Option StartFault
named_fault m s b =
    option_or
    (option_or (first_of (listed_fault m s) b.written_parameters) (first_of (listed_fault m s) b.read_parameters))
    (first_of (λ (e : EndRow). end_fault m s e.kind) b.ends)

-- what a PAR wants of words at its first start
abbrev pub opening_fault : Contents → State → Par → Option StartFault
opening_fault m s par =
    option_or (option_or (block_fault m s par) (first_of (channel_fault m s) par.channels))
    (first_of (named_fault m s) par.branches)
