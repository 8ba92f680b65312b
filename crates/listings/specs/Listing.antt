-- The listing of a module's code, a line for each instruction: our own choice.
use Rattle.std.specs.Prelude.{ℕ, zero, suc, ◌+◌, nat_lt, Bool, if◌then◌else◌, ℤ, List, [], ◌∷◌, ◌++◌, length, take}
use Rattle.std.specs.Prelude.{drop, codes, Option, Some, None, Result, Ok, Err, option_and_then}
use Rattle.std.specs.Fmt.{signed_decimal}
use Rattle.hex.specs.Hex.{encode_lower}
use Rattle.fact_texts.specs.Texts.{Text, six_digits}
use Rattle.prefix_decoder.specs.declared.function.Fun.{Fun}
use Rattle.prefix_decoder.specs.declared.function.Fun.TheVariants.{Operate}
use Rattle.prefix_decoder.specs.declared.decoding.Instr.{Instr}
use Rattle.prefix_decoder.specs.declared.decoding.DecodeFault.{DecodeFault}
use Rattle.prefix_decoder.specs.Fetching.{fetched}
use Rattle.module_format.specs.Contents.{Contents}
use Rattle.machine_state.specs.declared.op.Op.{Op}
use Rattle.machine_state.specs.declared.op.Op.TheVariants.{Long}
use Rattle.machine_state.specs.Instructions.{op_of}
use Rattle.listings.specs.declared.lines.Entry.{Entry}
use Rattle.listings.specs.declared.lines.Entry.TheVariants.{Operation, Function, Unread}
use Rattle.listings.specs.Names.{function_name, operation_name}

-- a long operation is one if the module has them
abbrev pub unless_missing : Bool → Op → Option Op
unless_missing has_long (Long op) = if has_long then Some (Long op) else None
unless_missing has_long op = Some op

-- the operation of an operand of `opr`; None where the module has none
abbrev pub operation_of : Bool → ℤ → Option Op
operation_of has_long e = option_and_then (unless_missing has_long) (op_of e)

-- an operation where there is one, else the function and its operand
abbrev pub operation_or : Fun → ℤ → Option Op → Entry
operation_or f e (Some op) = Operation op
operation_or f e None = Function f e

abbrev pub entry_of : Bool → Fun → ℤ → Entry
entry_of has_long Operate e = operation_or Operate e (operation_of has_long e)
entry_of has_long f e = Function f e

-- what is listed of what is fetched: a byte alone where no instruction is read
abbrev pub fetched_entry : Bool → Result Instr DecodeFault → Entry
fetched_entry has_long (Ok i) = entry_of has_long i.fun i.operand
fetched_entry has_long (Err fault) = Unread

abbrev pub fetched_size : Result Instr DecodeFault → ℕ
fetched_size (Ok i) = i.len
fetched_size (Err fault) = 1

-- what is listed at an offset, and how many bytes it takes
abbrev pub listed_entry : Contents → ℕ → Entry
listed_entry m at = fetched_entry m.has_long_operations (fetched m.code at)

abbrev pub listed_size : Contents → ℕ → ℕ
listed_size m at = fetched_size (fetched m.code at)

abbrev pub entry_text : Entry → Text
entry_text (Operation op) = operation_name op
entry_text (Function f e) = function_name f ++ codes " " ++ signed_decimal e
entry_text Unread = codes "?"

-- the name alone
abbrev pub entry_name : Entry → Text
entry_name (Operation op) = operation_name op
entry_name (Function f e) = function_name f
entry_name Unread = codes "?"

-- an offset, the bytes there and what they are, and a line feed
abbrev pub line_of : ℕ → List ℕ → Entry → Text
line_of at bytes entry =
    six_digits at ++ (codes " " ++ (encode_lower bytes ++ (codes " " ++ (entry_text entry ++ 10 ∷ []))))

abbrev pub listed_line : Contents → ℕ → Text
listed_line m at = line_of at (take (listed_size m at) (drop at m.code)) (listed_entry m at)

-- the lines from an offset on, at most this number of them
abbrev pub lines_from : Contents → ℕ → ℕ → Text
lines_from m zero at = []
lines_from m (suc more) at =
    if nat_lt at (length m.code) then listed_line m at ++ lines_from m more (at + listed_size m at) else []

-- all lines
abbrev pub listing : Contents → Text
listing m = lines_from m (length m.code) 0
