-- The code of a draft is bytes, and so are constants.
use Rattle.std.proofs.Common.{ℕ, zero, suc, ◌<◌, ◌+◌, ◌/◌, ℤ, pos, negsuc, Bool, true, false, List, [], ◌∷◌, ◌++◌}
use Rattle.std.proofs.Common.{length, arith}
use Rattle.std.specs.Prelude.{nat_lt, if◌then◌else◌, ◌-◌, sum}
use Rattle.std.specs.List.{AllByRecursion}
use Rattle.prefix_decoder.specs.declared.function.Fun.{Fun}
use Rattle.prefix_decoder.specs.declared.function.Fun.TheVariants as fun
use Rattle.prefix_decoder.specs.Functions.{pfix, nfix, code_of}
use Rattle.prefix_decoder.specs.Spelling.{byte_of, natural_spelling, code_spelling, spelling}
use Rattle.prefix_decoder.proofs.Operands.{low_nibble_below}
use Rattle.module_format.specs.Order.{IsBytes}
use Rattle.module_builder.specs.declared.item.Item.{Item}
use Rattle.module_builder.specs.declared.item.Item.TheVariants.{Instruction, ConstantAddress}
use Rattle.module_builder.specs.Drafts.{Code}
use Rattle.module_builder.specs.Layouts.{offset, value, load_len}
use Rattle.module_builder.specs.Spelling.{constants_start, filled, ldpi, address, spelled_item, spelled_from, spelled}
use Rattle.code_pieces.specs.Tables.{value_bytes, table_bytes, constants_of}

-- numbers below 256, one by one
abbrev Bytes : List ℕ → Type 0
Bytes xs = AllByRecursion (λ b. b < 256) xs

bytes_both : (xs ys : List ℕ) → Bytes xs → Bytes ys → Bytes (xs ++ ys)
bytes_both [] ys first second = second
bytes_both (x ∷ xs) ys first second = (first.0, bytes_both xs ys first.1 second)

-- they are so at each place, since a place outside has 0
at_each : (xs : List ℕ) → Bytes xs → IsBytes xs
at_each [] all i = omega arith
at_each (x ∷ xs) all zero = all.0
at_each (x ∷ xs) all (suc i) = at_each xs all.1 i

-- ---- spellings

byte_small : (code : ℕ) (e : ℤ) → code < 16 → byte_of code e < 256
byte_small code e less =
    let low = low_nibble_below e in
    omega (arith, low, less)

by_size : (alone : Bool) (code n : ℕ) (front : List ℕ) → code < 16 → Bytes front
    → Bytes (if alone then byte_of code (pos n) ∷ [] else front ++ byte_of code (pos n) ∷ [])
by_size true code n front less are = (byte_small code (pos n) less, tt)
by_size false code n front less are =
    bytes_both front (byte_of code (pos n) ∷ []) are (byte_small code (pos n) less, tt)

natural_bytes : (more code n : ℕ) → code < 16 → Bytes (natural_spelling more code n)
natural_bytes zero code n less = (byte_small code (pos n) less, tt)
natural_bytes (suc more) code n less =
    by_size (nat_lt n 16) code n (natural_spelling more pfix (n / 16)) less
    (natural_bytes more pfix (n / 16) (omega arith))

code_bytes : (code : ℕ) (e : ℤ) → code < 16 → Bytes (code_spelling code e)
code_bytes code (pos n) less = natural_bytes 7 code n less
code_bytes code (negsuc n) less =
    bytes_both (natural_spelling 7 nfix (n / 16)) (byte_of code (negsuc n) ∷ [])
    (natural_bytes 7 nfix (n / 16) (omega arith)) (byte_small code (negsuc n) less, tt)

code_small : (f : Fun) → code_of f < 16
code_small fun.Jump = omega arith
code_small fun.LoadLocalPointer = omega arith
code_small fun.LoadNonLocal = omega arith
code_small fun.LoadConstant = omega arith
code_small fun.LoadNonLocalPointer = omega arith
code_small fun.LoadLocal = omega arith
code_small fun.AddConstant = omega arith
code_small fun.Call = omega arith
code_small fun.ConditionalJump = omega arith
code_small fun.AdjustWorkspace = omega arith
code_small fun.EqualsConstant = omega arith
code_small fun.StoreLocal = omega arith
code_small fun.StoreNonLocal = omega arith
code_small fun.Operate = omega arith

spelling_bytes : (f : Fun) (e : ℤ) → Bytes (spelling f e)
spelling_bytes f e = code_bytes (code_of f) e (code_small f)

-- ---- items

filled_by : (short : Bool) (bytes : List ℕ) → Bytes bytes
    → Bytes (if short then bytes ++ spelling fun.AddConstant (pos 0) else bytes)
filled_by true bytes are =
    bytes_both bytes (spelling fun.AddConstant (pos 0)) are (spelling_bytes fun.AddConstant (pos 0))
filled_by false bytes are = are

address_bytes : (lengths : List ℕ) (end n : ℕ) → Bytes (address lengths end n)
address_bytes lengths end n =
    let distance : ℤ = pos ((constants_start (sum lengths) + n) - end) in
    let load = spelling fun.LoadConstant distance in
    let size = load_len lengths end n in
    bytes_both (filled size load) (spelling fun.Operate (pos ldpi))
    (filled_by (nat_lt (length load) size) load (spelling_bytes fun.LoadConstant distance))
    (spelling_bytes fun.Operate (pos ldpi))

item_bytes : (code : Code) (lengths : List ℕ) (end : ℕ) (item : Item) → Bytes (spelled_item code lengths end item)
item_bytes code lengths end (Instruction f operand) = spelling_bytes f (value code lengths end operand)
item_bytes code lengths end (ConstantAddress n) = address_bytes lengths end n

items_bytes : (code : Code) (lengths : List ℕ) (number : ℕ) (items : List Item)
    → Bytes (spelled_from code lengths number items)
items_bytes code lengths number [] = tt
items_bytes code lengths number (item ∷ items) =
    bytes_both (spelled_item code lengths (offset lengths (suc number)) item)
    (spelled_from code lengths (suc number) items) (item_bytes code lengths (offset lengths (suc number)) item)
    (items_bytes code lengths (suc number) items)

pub code_is_bytes : (code : Code) (lengths : List ℕ) → IsBytes (spelled code lengths)
code_is_bytes code lengths = at_each (spelled code lengths) (items_bytes code lengths 0 code.items)

-- ---- constants

value_is_bytes : (v : ℤ) → Bytes (value_bytes v)
value_is_bytes v = (omega arith, (omega arith, (omega arith, (omega arith, tt))))

table_is_bytes : (values : List ℤ) → Bytes (table_bytes values)
table_is_bytes [] = tt
table_is_bytes (v ∷ values) = bytes_both (value_bytes v) (table_bytes values) (value_is_bytes v) (table_is_bytes values)

tables_are_bytes : (ts : List (List ℤ)) → Bytes (constants_of ts)
tables_are_bytes [] = tt
tables_are_bytes (t ∷ ts) = bytes_both (table_bytes t) (constants_of ts) (table_is_bytes t) (tables_are_bytes ts)

pub constants_are_bytes : (ts : List (List ℤ)) → IsBytes (constants_of ts)
constants_are_bytes ts = at_each (constants_of ts) (tables_are_bytes ts)
