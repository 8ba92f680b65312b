-- What a start of a branch wants that is not so, in words.
use Rattle.std.specs.Prelude.{◌++◌, codes}
use Rattle.std.specs.Fmt.{decimal, signed_decimal}
use Rattle.fact_texts.specs.Texts.{Text}
use Rattle.fact_texts.specs.RowTexts.{context_name}
use Rattle.state_texts.specs.FrameTexts.{word_text}
use Rattle.found_parts.specs.declared.faults.Wanted.{Wanted}
use Rattle.found_parts.specs.declared.faults.Wanted.TheVariants as wants
use Rattle.found_parts.specs.declared.faults.StartFault.{StartFault}
use Rattle.found_parts.specs.declared.faults.StartFault.TheVariants as faults

abbrev pub wanted_text : Wanted → Text
wanted_text (wants.Code offset) = codes "code " ++ decimal offset
wanted_text (wants.Number number) = signed_decimal number
wanted_text (wants.Parameter number) = codes "parameter " ++ (signed_decimal number ++ codes " byte 0 by 4")

abbrev pub fault_text : StartFault → Text
fault_text (faults.OtherNext entry) = codes "the branch at " ++ (decimal entry ++ codes " is next")
fault_text faults.NoneNext = codes "no branch is next"
fault_text (faults.Context wanted) = codes "its PAR is of " ++ context_name wanted.first_branch wanted.number
fault_text (faults.Depth wanted found) =
    codes "its PAR is at depth " ++ (signed_decimal wanted ++ (codes ", and this is depth " ++ signed_decimal found))
fault_text (faults.Workspace word) = codes "its workspace is word " ++ signed_decimal word
fault_text (faults.Unwritable word) = codes "word " ++ (signed_decimal word ++ codes " may not be written here")
fault_text (faults.Unreadable word) = codes "word " ++ (signed_decimal word ++ codes " may not be read here")
fault_text (faults.UnwritableParameter number) =
    codes "parameter " ++ (signed_decimal number ++ codes " may not be written here")
fault_text (faults.UnreadableParameter number) =
    codes "parameter " ++ (signed_decimal number ++ codes " may not be read here")
fault_text (faults.Given word) =
    codes "it is given word " ++ (signed_decimal word ++ codes ", which is of the block or a channel")
fault_text (faults.Word word wanted found) =
    codes "word " ++ (signed_decimal word ++ (codes " has to be " ++ (wanted_text wanted ++ (codes "; it is "
    ++ word_text found))))
fault_text (faults.NoLabel offset) = codes "no label is at " ++ decimal offset
fault_text (faults.LabelContext offset) = codes "the label at " ++ (decimal offset ++ codes " is of another context")
fault_text (faults.LabelDepth offset depth block) =
    codes "the label at " ++ (decimal offset ++ (codes " has depth " ++ (signed_decimal depth ++ (codes ", not "
    ++ signed_decimal block))))
fault_text (faults.LabelRegister offset) =
    codes "the label at " ++ (decimal offset ++ codes " says something of a register")
fault_text (faults.LabelWord offset word) =
    codes "the label at " ++ (decimal offset ++ (codes " says something of word " ++ signed_decimal word))
