-- What instructions want, by the rule that they break, in words.
use Rattle.std.specs.Prelude.{codes, Bool, if◌then◌else◌}
use Rattle.word_arithmetic.specs.declared.binary.Binary.{Binary as TwoNumbers}
use Rattle.word_arithmetic.specs.declared.binary.Binary.TheVariants as binary
use Rattle.machine_state.specs.declared.op.Op.TheVariants.{Alternate, AlternationEnd, AlternationWait, Binary}
use Rattle.machine_state.specs.declared.op.Op.TheVariants.{ByteSubscript, CheckCount, CheckSubscript, DisableChannel}
use Rattle.machine_state.specs.declared.op.Op.TheVariants.{DisableSkip, EnableChannel, EnableSkip, EndProcess, Input}
use Rattle.machine_state.specs.declared.op.Op.TheVariants.{LoadByte, LoadPointerToInstruction, Long, LoopEnd, Move}
use Rattle.machine_state.specs.declared.op.Op.TheVariants.{Output, Shift, StartProcess, StoreByte, Unary}
use Rattle.machine_state.specs.declared.op.Op.TheVariants.{WordSubscript}
use Rattle.machine_state.specs.declared.instruction.Instruction.{Instruction}
use Rattle.machine_state.specs.declared.instruction.Instruction.TheVariants.{AdjustWorkspace, Call, ConditionalJump}
use Rattle.machine_state.specs.declared.instruction.Instruction.TheVariants.{Jump, LoadLocal, LoadNonLocal}
use Rattle.machine_state.specs.declared.instruction.Instruction.TheVariants.{LoadNonLocalPointer, Operate, StoreLocal}
use Rattle.machine_state.specs.declared.instruction.Instruction.TheVariants.{StoreNonLocal}
use Rattle.states.specs.declared.rule.Rule.{Rule}
use Rattle.states.specs.declared.rule.Rule.TheVariants as rules
use Rattle.fact_texts.specs.Texts.{Text}

-- two numbers are wanted
unfoldable pub numbers_wanted : TwoNumbers → Text
numbers_wanted binary.Multiply = codes "numbers in A and B whose product fits a word"
numbers_wanted binary.Divide = codes "numbers in A and B, A never 0, whose quotient fits a word"
numbers_wanted binary.Remainder = codes "numbers in A and B, A never 0, whose quotient fits a word"
numbers_wanted op = codes "numbers in A and B"

-- a number is wanted
unfoldable pub number_wanted : Instruction → Text
number_wanted (Operate (Binary op)) = numbers_wanted op
number_wanted (Operate (Unary op)) = codes "a number in A"
number_wanted (Operate (Shift op)) = codes "a number in B, and a count from 0 to 31 in A"
number_wanted (Operate (Long op)) = codes "numbers in A, B and C"
number_wanted (Operate CheckSubscript) = codes "numbers in A and B, B from 0 to below A"
number_wanted (Operate CheckCount) = codes "numbers in A and B, B from 1 to A"
number_wanted (Operate ByteSubscript) = codes "a number in B"
number_wanted (Operate WordSubscript) = codes "a number in B"
number_wanted (Operate StoreByte) = codes "a number in B, and A to lead where words may be any numbers"
number_wanted (Operate Move) = codes "a constant from 0 to 65536 in A, and B to lead where words may be any numbers"
number_wanted (Operate Input) = codes "a constant in A, and C to lead where words may be any numbers"
number_wanted (Operate op) = codes "a constant in A"
number_wanted LoadNonLocalPointer = codes "a number or a pointer in A"
number_wanted StoreNonLocal = codes "a number in B, in the range of the words where A leads"
number_wanted Call = codes "numbers in the ranges of the parameters"
number_wanted i = codes "a number in A"

-- a result that fits is wanted
unfoldable pub sum_wanted : Instruction → Text
sum_wanted (Operate op) = codes "a result that fits a word"
sum_wanted i = codes "a sum that fits a word"

-- a pointer is wanted
unfoldable pub pointer_wanted : Instruction → Text
pointer_wanted (Operate ByteSubscript) = codes "a pointer in A, and a byte at most 16777216 from its region"
pointer_wanted (Operate WordSubscript) = codes "a pointer in A, and a word at most 16777216 bytes from its region"
pointer_wanted (Operate LoadPointerToInstruction) = codes "in A the distance to a byte of the code or of the constants"
pointer_wanted (Operate LoadByte) = codes "a pointer in A to bytes that may be read"
pointer_wanted (Operate StoreByte) = codes "a pointer in A to bytes that may be written"
pointer_wanted (Operate Move) =
    codes "exact pointers, in B to bytes that may be written and in C to others that may be read"
pointer_wanted (Operate Input) =
    codes "a pointer in C to bytes that may be written and are not scheduled, and none too far in B"
pointer_wanted (Operate Output) =
    codes "a pointer in C to bytes that may be read and are not scheduled, and none too far in B"
pointer_wanted (Operate EnableChannel) = codes "in B no pointer more than 16777216 bytes from its region"
pointer_wanted (Operate DisableChannel) = codes "in C no pointer more than 16777216 bytes from its region"
pointer_wanted (Operate op) = codes "in A no pointer more than 16777216 bytes from its region"
pointer_wanted LoadNonLocal = codes "a pointer by 4 in A to words that may be read"
pointer_wanted StoreNonLocal = codes "a pointer by 4 in A to words that may be written"
pointer_wanted Call = codes "for the parameters exact pointers to bytes that may be lent"
pointer_wanted i = codes "a pointer at most 16777216 bytes from its region"

-- regions are to be apart
unfoldable pub regions_wanted : Instruction → Text
regions_wanted Call = codes "for the parameters regions that are apart where one is written"
regions_wanted i = codes "for the branch words and parameters that are apart from those of branches that are started"

-- a channel is wanted
unfoldable pub channel_wanted : Instruction → Text
channel_wanted (Operate Input) = codes "a channel in B whose receiving end the context has"
channel_wanted (Operate Output) = codes "a channel in B whose sending end the context has"
channel_wanted (Operate EnableChannel) = codes "a channel in B whose receiving end the context has"
channel_wanted (Operate op) = codes "for the branch ends that the context has and has given to no branch"
channel_wanted i = codes "for the parameters channels whose ends the context has, each end once"

-- a length of messages is wanted
unfoldable pub length_wanted : Instruction → Text
length_wanted Call = codes "channels with messages as long as the parameters want"
length_wanted i = codes "a message as long as those of the channel"

-- an order in alternations is wanted
unfoldable pub order_wanted : Instruction → Text
order_wanted (Operate Alternate) = codes "to be in the middle of nothing"
order_wanted (Operate EnableChannel) =
    codes "to be between alt and altwt, with a new guard of at most 64, by a constant or a word"
order_wanted (Operate EnableSkip) =
    codes "to be between alt and altwt, with a guard of at most 64, by a constant or a word"
order_wanted (Operate AlternationWait) = codes "to be after alt, with no guard named by the word at the workspace"
order_wanted (Operate DisableChannel) = codes "to be after altwt, with the next guard in B and C and a constant in A"
order_wanted (Operate DisableSkip) = codes "to be after altwt, with the next guard in B and a constant in A"
order_wanted (Operate AlternationEnd) = codes "to be after altwt, with all guards disabled and labels where they lead"
order_wanted (Operate op) = codes "to be outside an alternation"
order_wanted i = codes "to be outside an alternation"

-- a way forward is wanted
unfoldable pub forward_wanted : Instruction → Text
forward_wanted (Operate LoopEnd) = codes "in B the block of a loop and in A the distance back to its label"
forward_wanted (Operate AlternationEnd) = codes "guards that lead forward"
forward_wanted (Operate op) = codes "a label after the PAR with no loop of which a branch writes a word"
forward_wanted i = codes "to lead forward"

-- an order in PARs is wanted
unfoldable pub par_wanted : Instruction → Text
par_wanted (Operate StartProcess) = codes "the next branch of a PAR, as its row says, and its workspace in A"
par_wanted (Operate EndProcess) = codes "to end a branch, or all starts, with the block of the PAR in A"
par_wanted (Operate op) = codes "to be outside the starts of a PAR"
par_wanted i = codes "to be outside the starts of a PAR"

-- a call or a return is wanted
unfoldable pub call_wanted : Instruction → Text
call_wanted Call = codes "a procedure there that may be called from here"
call_wanted i = codes "to be in a procedure, at depth 0 with the return address in word 0"

-- words are wanted
unfoldable pub word_wanted : Instruction → Text
word_wanted (Operate AlternationWait) = codes "to write the word at the workspace and the three below it"
word_wanted (Operate DisableChannel) = codes "to write the word at the workspace"
word_wanted (Operate DisableSkip) = codes "to write the word at the workspace"
word_wanted (Operate StartProcess) = codes "a branch that may write the three words below its workspace"
word_wanted (Operate op) = codes "to write the three words below the workspace"
word_wanted LoadLocal = codes "a word that the context may read"
word_wanted StoreLocal = codes "a word that the context may write"
word_wanted AdjustWorkspace = codes "the workspace within the frame"
word_wanted Call = codes "to write all words of the frame of the procedure"
word_wanted i = codes "to write the three words below the workspace"

-- a payment is wanted
unfoldable pub payment_wanted : Instruction → Text
payment_wanted (Operate LoopEnd) =
    codes "a number that pays for its bytes, and with the weight of the loop at its label"
payment_wanted (Operate AlternationEnd) = codes "a number that pays for its bytes and at each label where a guard leads"
payment_wanted (Operate StartProcess) =
    codes "a number that pays for its bytes and at the labels of the branch and after the PAR"
payment_wanted (Operate op) = codes "a number that pays for its bytes"
payment_wanted Jump = codes "a number that pays for its bytes and at the label there"
payment_wanted ConditionalJump = codes "a number that pays for its bytes and at the label there"
payment_wanted Call = codes "a number that pays for its bytes and for the procedure"
payment_wanted i = codes "a number that pays for its bytes"

-- a label is wanted
unfoldable pub label_wanted : Instruction → Text
label_wanted (Operate StartProcess) = codes "labels of the branch and after the PAR that say no more than is known"
label_wanted (Operate EndProcess) = codes "a label after the PAR that says no more than is known"
label_wanted (Operate LoopEnd) = codes "a label of the loop that says no more than is known"
label_wanted (Operate op) = codes "labels where the guards lead that say no more than is known"
label_wanted i = codes "a label there that says no more than is known"

-- numbers are wanted, or a result that fits, if the numbers are known
unfoldable pub number_asked : Instruction → Bool → Text
number_asked i has_sum = if has_sum then sum_wanted i else number_wanted i

-- what is wanted, by the rule that is broken
unfoldable pub wanted : Rule → Instruction → Bool → Text
wanted rules.Spelling i has_sum = codes "a module that has operations on double words"
wanted rules.InstructionStart i has_sum = codes "no start within it"
wanted rules.Flow i has_sum = codes "a way that leads here"
wanted rules.UnknownRegister i has_sum = codes "known values"
wanted rules.Number i has_sum = number_asked i has_sum
wanted rules.Pointer i has_sum = pointer_wanted i
wanted rules.RegionsMeet i has_sum = regions_wanted i
wanted rules.Channel i has_sum = channel_wanted i
wanted rules.MessageLength i has_sum = length_wanted i
wanted rules.Alternation i has_sum = order_wanted i
wanted rules.Forward i has_sum = forward_wanted i
wanted rules.Par i has_sum = par_wanted i
wanted rules.Call i has_sum = call_wanted i
wanted rules.OwnWord i has_sum = word_wanted i
wanted rules.Budget i has_sum = payment_wanted i
wanted rules.Label i has_sum = label_wanted i
