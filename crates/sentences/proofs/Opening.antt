-- What the functions of a file open, under one name for each file.
use Rattle.std.specs.Prelude.{⊤}
use Rattle.explanation_parts.specs.Refusals as refusals
use Rattle.sentences.specs.Breaches as breaches
use Rattle.sentences.specs.Parts as parts
use Rattle.sentences.specs.RowsAsked as rows
use Rattle.sentences.specs.Sentences as sentences

unfoldable pub parts_opens : ⊤
unfolding parts.turn_part parts.word_part parts.next_part parts.registers_part parts.guard_text parts.guard_part
parts_opens = tt

unfoldable pub reasons_opens : ⊤
unfolding refusals.refused_text refusals.line_text breaches.breach_text
reasons_opens = tt

unfoldable pub rows_opens : ⊤
unfolding rows.row_distance rows.rows_at rows.ended_par rows.successor_of rows.exits_of rows.rows_behind rows.rows_there
    rows.rows_asked
rows_opens = tt

unfoldable pub sentence_opens : ⊤
unfolding sentences.wants_part sentences.found_part sentences.wants_text sentences.operation_text sentences.name_text
    sentences.named_text sentences.no_instruction sentences.sentence
sentence_opens = tt
