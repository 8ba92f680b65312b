-- The items whose lengths depend on places, and lengths of all items from the lengths of these.
use Rattle.std.specs.Prelude.{◌+◌, ℕ, suc, List, [], ◌∷◌, ◌++◌, length, map, take, drop, sum}
use Rattle.prefix_decoder.specs.Spelling.{spelling}
use Rattle.module_builder.specs.declared.item.Operand.TheVariants.{Number, DistanceTo, Between}
use Rattle.module_builder.specs.declared.item.Item.{Item}
use Rattle.module_builder.specs.declared.item.Item.TheVariants.{Instruction, ConstantAddress}
use Rattle.module_builder.specs.declared.plan.Reference.{Reference}
use Rattle.module_builder.specs.Drafts.{Code}
use Rattle.module_builder.specs.Layouts.{offset, bytes_of}

-- the bytes of an item that takes as many wherever it is; 0 of a reference
abbrev pub fixed_len : Item → ℕ
fixed_len (Instruction fun (Number n)) = length (spelling fun n)
fixed_len (Instruction fun (DistanceTo label)) = 0
fixed_len (Instruction fun (Between from to)) = 0
fixed_len (ConstantAddress offset) = 0

-- 1 for a reference, which is an item whose bytes depend on places; else 0
abbrev pub reference_count : Item → ℕ
reference_count (Instruction fun (Number n)) = 0
reference_count (Instruction fun (DistanceTo label)) = 1
reference_count (Instruction fun (Between from to)) = 1
reference_count (ConstantAddress offset) = 1

-- the references among items, of which the first has this number
abbrev pub references_from : ℕ → List Item → List Reference
references_from number [] = []
references_from number (item ∷ items) =
    take (reference_count item) (record { next = suc number; item = item } ∷ []) ++ references_from (suc number) items

-- the lengths of all items, where references have these lengths
abbrev pub expand : List ℕ → List ℕ → List ℕ → List ℕ
expand [] counts sizes = []
expand (len ∷ fixed) [] sizes = []
expand (len ∷ fixed) (count ∷ counts) sizes = (len + sum (take count sizes)) ∷ expand fixed counts (drop count sizes)

abbrev pub expanded : List Item → List ℕ → List ℕ
expanded items sizes = expand (map fixed_len items) (map reference_count items) sizes

-- the bytes that a reference takes by the places that follow from these lengths
abbrev pub reference_bytes : Code → List ℕ → Reference → ℕ
reference_bytes code lengths r = bytes_of code lengths (offset lengths r.next) r.item
