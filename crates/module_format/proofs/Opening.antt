-- What the functions of a file open, under one name for each file.
use Rattle.std.specs.Prelude.{⊤}
use Rattle.module_format.specs.ReadingRows.{entry_at, label_row_at, parameter_at, procedure_row_at, table_row_at}
use Rattle.module_format.specs.ReadingRows.{number_fact_at, step_at, pointed_at, pointer_at, code_address_at, count_at}
use Rattle.module_format.specs.ReadingRows.{loop_at, fact_at, register_at, word_fact_at, first_word_at, span_at}
use Rattle.module_format.specs.ReadingRows.{entries_at}
use Rattle.module_format.specs.ReadingRows.{registers_at, label_offset_at, label_rows_at, words_range_at}
use Rattle.module_format.specs.ReadingRows.{region_size_at, region_at, ends_at, channels_at, value_at, kind_at}
use Rattle.module_format.specs.ReadingRows.{parameter_word_at, parameter_rows_at, frame_start_at, frame_end_at}
use Rattle.module_format.specs.ReadingRows.{rising_at}
use Rattle.module_format.specs.ReadingRows.{procedure_rows_at, table_start_at, table_end_at, table_rows_at}
use Rattle.module_format.specs.Reading.{and_then, tested, number_at, byte_taken, int_at, bytes_taken, limited_at}
use Rattle.module_format.specs.Reading.{positive_at, at_most_at, in_code_at, interval_at, hi_at}
use Rattle.module_format.specs.ReadingPars.{channel_row_at, read_words_at, parameter_number_at, end_row_at}
use Rattle.module_format.specs.ReadingPars.{interval_end_at}
use Rattle.module_format.specs.ReadingPars.{frame_words_at, branch_counts_at, branch_entry_at, branch_row_at}
use Rattle.module_format.specs.ReadingPars.{end_kind_at}
use Rattle.module_format.specs.ReadingPars.{end_number_at, end_element_at, end_direction_at, context_number_at}
use Rattle.module_format.specs.ReadingPars.{branch_count_at, par_row_at, par_rows_at}
use Rattle.module_format.specs.ReadingFile.{tables_at, ended_at, read_file, magic_at, sizes_at, four_lengths_at}
use Rattle.module_format.specs.ReadingFile.{lengths_at, flag_at, extension_at, counts_at, header_at}
use Rattle.module_format.specs.References.{parameter_references, end_references, branch_references, par_references}
use Rattle.module_format.specs.References.{fact_references, entry_references, row_references, label_references}
use Rattle.module_format.specs.References.{references_at}
use Rattle.module_format.specs.Spelling.{u16_bytes, fact_bytes, u32_bytes, u64_bytes, i32_bytes, header_bytes}
use Rattle.module_format.specs.Spelling.{rows_bytes, file_of, entry_bytes, label_bytes, parameter_bytes}
use Rattle.module_format.specs.Spelling.{procedure_bytes, table_row_bytes, channel_bytes, interval_bytes, end_bytes}
use Rattle.module_format.specs.Spelling.{branch_bytes, par_bytes}

unfoldable pub listed : ⊤
unfolding entry_at and_then label_row_at parameter_at procedure_row_at table_row_at tested channel_row_at read_words_at
    parameter_number_at end_row_at
listed = tt

unfoldable pub reading_branches : ⊤
unfolding interval_end_at tested frame_words_at and_then branch_counts_at branch_entry_at branch_row_at
reading_branches = tt

unfoldable pub reading_cursor : ⊤
unfolding number_at byte_taken int_at and_then bytes_taken
reading_cursor = tt

unfoldable pub reading_ends : ⊤
unfolding end_kind_at tested end_number_at end_element_at end_direction_at
reading_ends = tt

unfoldable pub reading_facts : ⊤
unfolding number_fact_at and_then step_at pointed_at pointer_at code_address_at count_at tested loop_at fact_at
    register_at
    word_fact_at first_word_at span_at entries_at registers_at
reading_facts = tt

unfoldable pub reading_fields : ⊤
unfolding limited_at tested positive_at at_most_at in_code_at interval_at hi_at and_then
reading_fields = tt

unfoldable pub reading_file : ⊤
unfolding tables_at and_then ended_at read_file
reading_file = tt

unfoldable pub reading_header : ⊤
unfolding magic_at sizes_at and_then four_lengths_at lengths_at flag_at extension_at counts_at header_at
reading_header = tt

unfoldable pub reading_labels : ⊤
unfolding label_offset_at tested label_rows_at
reading_labels = tt

unfoldable pub reading_par_references : ⊤
unfolding parameter_references u16_bytes end_references branch_references and_then par_references
reading_par_references = tt

unfoldable pub reading_pars : ⊤
unfolding context_number_at tested branch_count_at par_row_at and_then par_rows_at
reading_pars = tt

unfoldable pub reading_procedures : ⊤
unfolding words_range_at region_size_at tested region_at and_then ends_at channels_at value_at kind_at
    parameter_word_at parameter_rows_at frame_start_at frame_end_at rising_at procedure_rows_at
reading_procedures = tt

unfoldable pub reading_references : ⊤
unfolding fact_bytes u16_bytes u32_bytes u64_bytes i32_bytes fact_references entry_references row_references and_then
    label_references references_at
reading_references = tt

unfoldable pub reading_table_rows : ⊤
unfolding table_start_at tested table_end_at table_rows_at
reading_table_rows = tt

unfoldable pub writing : ⊤
unfolding header_bytes rows_bytes file_of
writing = tt

unfoldable pub writing_rows : ⊤
unfolding entry_bytes label_bytes parameter_bytes procedure_bytes table_row_bytes channel_bytes interval_bytes
    end_bytes branch_bytes par_bytes
writing_rows = tt

unfoldable pub writing_writer : ⊤
unfolding u16_bytes u32_bytes u64_bytes i32_bytes
writing_writer = tt
