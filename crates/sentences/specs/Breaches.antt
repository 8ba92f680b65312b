-- Why a rule is broken, and what is written before that.
use Rattle.std.specs.Prelude.{ℕ, ◌+◌, Bool, true, false, [], ◌++◌, Option, Some, None}
use Rattle.prefix_decoder.specs.declared.decoding.Instr.{Instr}
use Rattle.module_format.specs.Contents.{Contents}
use Rattle.states.specs.declared.rule.Rule.{Rule}
use Rattle.states.specs.State.{State}
use Rattle.fact_texts.specs.Texts.{Text}
use Rattle.state_texts.specs.FrameTexts.{frame_text}
use Rattle.explanation_parts.specs.Refusals.{refused_text, entry_reason, unreached_reason}
use Rattle.sentences.specs.Sentences.{sentence}
use Rattle.sentences.specs.RowsAsked.{rows_asked}

abbrev pub reason : Contents → ℕ → Instr → Rule → Bool → State → Text
reason m at i broken true s = entry_reason m at broken s
reason m at i broken false s = sentence m at i broken s

-- the rows that the rule asks, if it is the instruction's
abbrev pub rows_before : Contents → ℕ → Instr → Rule → Bool → State → Text
rows_before m at i broken true s = []
rows_before m at i broken false s = rows_asked m (at + i.len) i broken s

-- what is known of the words of the frame, the rows that are asked, and why the rule is broken
unfoldable pub breach_text : Contents → ℕ → Instr → Rule → Bool → Option State → Text
breach_text m at i broken at_entry None = refused_text broken at (unreached_reason broken)
breach_text m at i broken at_entry (Some s) =
    frame_text m s ++ (rows_before m at i broken at_entry s ++ refused_text broken at (reason m at i broken at_entry s))
