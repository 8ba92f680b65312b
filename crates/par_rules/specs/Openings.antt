-- What a PAR wants where its first branch is started: its block, its channels, and the words of the parameters that its
-- branches name.
use Rattle.std.specs.Prelude.{ℕ, ◌==◌, ◌&&◌, Bool, true, false, ℤ, pos, negsuc, ◌+ℤ◌, length, slice_get, Some, None}
use Rattle.std.specs.List.{list_all}
use Rattle.word_arithmetic.specs.Word.{least_word}
use Rattle.module_format.specs.declared.fact.Fact.TheVariants.{Pointer, CodeAddress}
use Rattle.module_format.specs.declared.fact.Region.TheVariants as regions
use Rattle.module_format.specs.declared.fact.Step.TheVariants.{Word}
use Rattle.module_format.specs.declared.rows.ChannelRow.{ChannelRow}
use Rattle.module_format.specs.declared.rows.EndKind.{EndKind}
use Rattle.module_format.specs.declared.rows.EndKind.TheVariants as ends
use Rattle.module_format.specs.declared.rows.EndRow.{EndRow}
use Rattle.module_format.specs.Contents.{Contents, Par, Branch}
use Rattle.module_format.specs.Contexts.{parameters_at}
use Rattle.certificate.specs.Rights.{may_write_word, may_read_word}
use Rattle.states.specs.declared.known.WordFact.{WordFact}
use Rattle.states.specs.declared.known.WordFact.TheVariants.{Alone}
use Rattle.states.specs.State.{State, is_same_number}
use Rattle.states.specs.Below.{holds_constant}

-- the word is the address of this code offset
abbrev pub is_code_address : WordFact → ℕ → Bool
is_code_address (Alone (CodeAddress offset)) to = offset == to
is_code_address fact to = false

-- The words of the block may be written, and have the address of the successor and one more than the number of
-- branches.
abbrev pub block_is_prepared : Contents → State → Par → Bool
block_is_prepared m s par =
    (may_write_word m s.context par.block && is_code_address (s.frame par.block) par.successor)
    && (may_write_word m s.context (par.block +ℤ pos 1)
    && holds_constant (s.frame (par.block +ℤ pos 1)) (pos (length par.branches) +ℤ pos 1))

-- The word of a channel may be written, and has the least word: so it is none of the block.
abbrev pub channel_is_empty : Contents → State → ChannelRow → Bool
channel_is_empty m s c = may_write_word m s.context c.word && holds_constant (s.frame c.word) least_word

-- the word is the address of the first byte of what parameter j names
abbrev pub is_start_of : ℕ → WordFact → Bool
is_start_of j (Alone (Pointer (regions.Parameter number) lo hi Word)) =
    (number == j) && is_same_number lo (pos 0) && is_same_number hi (pos 0)
is_start_of j fact = false

-- the word of parameter j may be read, and has what the procedure was given
abbrev pub is_as_given : Contents → State → ℕ → Bool
is_as_given m s j = elim (slice_get (parameters_at m s.context) j) [
  | None ↦ false
  | Some p ↦ may_read_word m s.context (pos p.word) && is_start_of j (s.frame (pos p.word))
]

-- so is that of the parameter with this number; there is none below 0
abbrev pub number_is_as_given : Contents → State → ℤ → Bool
number_is_as_given m s (pos j) = is_as_given m s j
number_is_as_given m s (negsuc j) = false

-- so is that of the parameter whose channel has this end, if it is a parameter's
abbrev pub end_is_as_given : Contents → State → EndKind → Bool
end_is_as_given m s (ends.Parameter (pos j) element) = is_as_given m s j
end_is_as_given m s (ends.Parameter (negsuc j) element) = false
end_is_as_given m s kind = true

-- so are those of all parameters that a branch names
abbrev pub named_are_as_given : Contents → State → Branch → Bool
named_are_as_given m s b =
    list_all (is_as_given m s) b.written_parameters && list_all (is_as_given m s) b.read_parameters
    && list_all (λ (e : EndRow). end_is_as_given m s e.kind) b.ends

-- all is prepared that the PAR wants
abbrev pub is_prepared : Contents → State → Par → Bool
is_prepared m s par =
    block_is_prepared m s par && list_all (channel_is_empty m s) par.channels
    && list_all (named_are_as_given m s) par.branches
