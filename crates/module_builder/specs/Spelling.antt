-- The bytes of a draft's code under a layout.
use Rattle.std.specs.Prelude.{ℕ, suc, ◌+◌, ◌-◌, ◌*◌, ◌/◌, List, [], ◌∷◌, ◌++◌, length, sum, pos, nat_lt}
use Rattle.std.specs.Prelude.{if◌then◌else◌, ◌≡◌, drop, slice_get, Some}
use Rattle.prefix_decoder.specs.declared.function.Fun.TheVariants.{LoadConstant, AddConstant, Operate}
use Rattle.prefix_decoder.specs.Spelling.{spelling}
use Rattle.module_builder.specs.declared.item.Item.{Item}
use Rattle.module_builder.specs.declared.item.Item.TheVariants.{Instruction, ConstantAddress}
use Rattle.module_builder.specs.Drafts.{Code}
use Rattle.module_builder.specs.Layouts.{offset, value, load_len}

-- where the constants begin: at the first word after the code
abbrev pub constants_start : ℕ → ℕ
constants_start code_len = (code_len + 3) / 4 * 4

-- with `adc 0` after them, if the bytes are fewer than this
abbrev pub filled : ℕ → List ℕ → List ℕ
filled size bytes = if nat_lt (length bytes) size then bytes ++ spelling AddConstant (pos 0) else bytes

-- the number of `ldpi`
abbrev pub ldpi : ℕ
ldpi = 27

-- the bytes of the address of a constant, which ends here
abbrev pub address : List ℕ → ℕ → ℕ → List ℕ
address lengths end offset =
    filled (load_len lengths end offset)
    (spelling LoadConstant (pos ((constants_start (sum lengths) + offset) - end)))
    ++ spelling Operate (pos ldpi)

-- the bytes of an item that ends here
abbrev pub spelled_item : Code → List ℕ → ℕ → Item → List ℕ
spelled_item code lengths end (Instruction fun operand) = spelling fun (value code lengths end operand)
spelled_item code lengths end (ConstantAddress offset) = address lengths end offset

-- the bytes of items, of which the first has this number
abbrev pub spelled_from : Code → List ℕ → ℕ → List Item → List ℕ
spelled_from code lengths number [] = []
spelled_from code lengths number (item ∷ items) =
    spelled_item code lengths (offset lengths (suc number)) item ++ spelled_from code lengths (suc number) items

-- the bytes of the code: those of its items in their order
abbrev pub spelled : Code → List ℕ → List ℕ
spelled code lengths = spelled_from code lengths 0 code.items

-- the bytes of the item with this number are in the code where it begins, and as many as the lengths give it
pub record IsSpelledAt (code : Code) (lengths : List ℕ) (number : ℕ) (item : Item) : Type 0 where
  pub rest : List ℕ
  pub bytes : drop (offset lengths number) (spelled code lengths)
      ≡ spelled_item code lengths (offset lengths (suc number)) item ++ rest
  pub len : slice_get lengths number ≡ Some (length (spelled_item code lengths (offset lengths (suc number)) item))
