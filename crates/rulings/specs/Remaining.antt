-- What the opener of a PAR has not given away, while it starts the branches.
use Rattle.std.specs.Prelude.{ℕ, ℤ, pos, ◌+ℤ◌, ◌&&◌, ◌||◌, not, Bool, false, if◌then◌else◌, take}
use Rattle.std.specs.List.{list_any}
use Rattle.word_arithmetic.specs.Word.{least_word, greatest_word}
use Rattle.module_format.specs.declared.rows.ChannelRow.{ChannelRow}
use Rattle.module_format.specs.declared.rows.Direction.{Direction}
use Rattle.module_format.specs.declared.rows.EndKind.{EndKind}
use Rattle.module_format.specs.declared.rows.EndKind.TheVariants as ends
use Rattle.module_format.specs.declared.rows.EndRow.{EndRow}
use Rattle.module_format.specs.declared.rows.ParameterKind.{ParameterKind}
use Rattle.module_format.specs.declared.rows.ParameterKind.TheVariants.{Value, ReadRegion, WrittenRegion}
use Rattle.module_format.specs.Contents.{Contents, Par, Branch}
use Rattle.module_format.specs.Pars.{key_of}
use Rattle.certificate.specs.Rights as rights
use Rattle.certificate.specs.Rights.{is_among, is_same_end}
use Rattle.states.specs.State.{is_same_number}
use Rattle.rulings.specs.Reach.{is_listed}

-- one of the first `started` branches passes a test
abbrev pub some_started : Par → ℕ → (Branch → Bool) → Bool
some_started par started test = list_any test (take started par.branches)

-- ---- words

-- word k is a channel of the PAR
abbrev pub is_channel_word : Par → ℤ → Bool
is_channel_word par k = list_any (λ (c : ChannelRow). is_same_number c.word k) par.channels

-- word k is one of the block, or a channel of the PAR: no branch has it
abbrev pub is_hidden : Par → ℤ → Bool
is_hidden par k = is_same_number par.block k || is_same_number (par.block +ℤ pos 1) k || is_channel_word par k

-- one of the first `started` branches has word `k` to write, or has it to read
abbrev pub word_given_to_write : Par → ℕ → ℤ → Bool
word_given_to_write par started k = some_started par started (λ b. is_among b.writes k)

abbrev pub word_given_to_read : Par → ℕ → ℤ → Bool
word_given_to_read par started k = some_started par started (λ b. is_among b.reads k)

-- ---- parameters

-- what a parameter is to a process that may only read what it names
abbrev pub only_read : ParameterKind → ParameterKind
only_read (WrittenRegion size lo hi) = ReadRegion size lo hi
only_read kind = kind

-- what it is to one that may not use the region that it names: any word
abbrev pub not_used : ParameterKind → ParameterKind
not_used (ReadRegion size lo hi) = Value least_word greatest_word
not_used (WrittenRegion size lo hi) = Value least_word greatest_word
not_used kind = kind

abbrev pub parameter_given_to_write : Par → ℕ → ℕ → Bool
parameter_given_to_write par started j = some_started par started (λ b. is_listed b.written_parameters j)

abbrev pub parameter_given_to_read : Par → ℕ → ℕ → Bool
parameter_given_to_read par started j = some_started par started (λ b. is_listed b.read_parameters j)

-- what is left of parameter j
abbrev pub kind_left : Par → ℕ → ℕ → ParameterKind → ParameterKind
kind_left par started j kind =
    if parameter_given_to_write par started j then not_used kind
    else if parameter_given_to_read par started j then only_read kind else kind

-- ---- ends

-- the end is given to one of the first `started` branches
abbrev pub end_given : Par → ℕ → EndRow → Bool
end_given par started e =
    some_started par started (λ b. list_any (λ other. is_same_end (key_of other) (key_of e)) b.ends)

-- the end is one of a channel of the PAR
abbrev pub is_own_end : Par → EndKind → Bool
is_own_end par (ends.FrameWord word) = is_channel_word par word
is_own_end par (ends.Parameter number element) = false
is_own_end par (ends.Link link) = false

-- the opener has the ends of its context and both ends of each channel of the PAR, but for those that are given
abbrev pub end_left : Contents → Par → ℕ → ℕ → EndKind → Direction → Bool
end_left m par context started kind direction =
    let e : EndRow = record { kind = kind; direction = direction } in
    (rights.has_end m context e || is_own_end par kind) && not (end_given par started e)
