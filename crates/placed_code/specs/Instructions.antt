-- The instructions of a draft's items under a layout, and where they are fetched.
use Rattle.std.specs.Prelude.{◌≡◌, ℕ, suc, ◌+◌, ◌-◌, ℤ, pos, List, [], ◌∷◌, ◌++◌, length, sum, slice_get, nat_lt}
use Rattle.std.specs.Prelude.{if◌then◌else◌, FitsSigned, Some, Ok}
use Rattle.std.specs.Int.{w32}
use Rattle.std.specs.List.{AllByRecursion}
use Rattle.prefix_decoder.specs.declared.function.Fun.{Fun}
use Rattle.prefix_decoder.specs.declared.function.Fun.TheVariants as fun
use Rattle.prefix_decoder.specs.declared.decoding.Instr.{Instr}
use Rattle.prefix_decoder.specs.Spelling.{spelling}
use Rattle.prefix_decoder.specs.Fetching.{fetched}
use Rattle.module_builder.specs.declared.item.Item.{Item}
use Rattle.module_builder.specs.declared.item.Item.TheVariants as items
use Rattle.module_builder.specs.Drafts.{Code}
use Rattle.module_builder.specs.Layouts.{offset, value, load_len, Fits}
use Rattle.module_builder.specs.Spelling.{spelled, constants_start, ldpi}

-- an instruction in its one spelling
abbrev pub instruction : Fun → ℤ → Instr
instruction f e = record { fun = f; operand = e; len = length (spelling f e) }

-- how far the address of a constant is from where it is read
abbrev pub distance_to : List ℕ → ℕ → ℕ → ℕ
distance_to lengths end offset = (constants_start (sum lengths) + offset) - end

-- `adc 0`, if the bytes before it are fewer than this
abbrev pub filling : ℕ → ℕ → List Instr
filling size len = if nat_lt len size then instruction fun.AddConstant (pos 0) ∷ [] else []

-- the instructions that make the address of a constant, which end here
abbrev pub address_instructions : List ℕ → ℕ → ℕ → List Instr
address_instructions lengths end offset =
    let load = instruction fun.LoadConstant (pos (distance_to lengths end offset)) in
    load ∷ filling (load_len lengths end offset) load.len ++ instruction fun.Operate (pos ldpi) ∷ []

-- the instructions of an item that ends here
abbrev pub instructions_of : Code → List ℕ → ℕ → Item → List Instr
instructions_of code lengths end (items.Instruction f operand) = instruction f (value code lengths end operand) ∷ []
instructions_of code lengths end (items.ConstantAddress offset) = address_instructions lengths end offset

-- Instructions are fetched one after the other, from the first of these offsets to the last.
pub data AreFetched (code : List ℕ) : ℕ → List Instr → ℕ → Type 0 where
  none : {at : ℕ} → AreFetched code at [] at
  more : {at to : ℕ} {i : Instr} {is : List Instr} → fetched code at ≡ Ok i → AreFetched code (at + i.len) is to
      → AreFetched code at (i ∷ is) to

-- Where operands are words, the instructions of each item are fetched from where it begins to where the next one
-- begins.
abbrev pub ItemsAreFetched : Type 0
ItemsAreFetched = (code : Code) (lengths : List ℕ) (number : ℕ) (item : Item) → Fits code lengths
    → slice_get code.items number ≡ Some item
    → AllByRecursion (λ (i : Instr). FitsSigned w32 i.operand)
    (instructions_of code lengths (offset lengths (suc number)) item)
    → AreFetched (spelled code lengths) (offset lengths number)
    (instructions_of code lengths (offset lengths (suc number)) item) (offset lengths (suc number))
