-- The instructions of a draft, and the labels that they refer to.
use Rattle.std.specs.Prelude.{◌<◌, nat_lt, if◌then◌else◌, ℕ, List, length, Option, None, Some, slice_index_or, IsSome}
use Rattle.std.specs.Prelude.{⊤, All}
use Rattle.module_builder.specs.declared.item.Label.{Label}
use Rattle.module_builder.specs.declared.item.Operand.{Operand}
use Rattle.module_builder.specs.declared.item.Operand.TheVariants.{Number, DistanceTo, Between}
use Rattle.module_builder.specs.declared.item.Item.{Item}
use Rattle.module_builder.specs.declared.item.Item.TheVariants.{Instruction, ConstantAddress}

-- The items of a draft in their order; and of each label, once it is placed, how many items are before it.
pub record Code : Type 0 where
  pub items : List Item
  pub labels : List (Option ℕ)

-- how many items are before a label, if it is placed
abbrev pub target : Code → Label → Option ℕ
target code label = slice_index_or code.labels label.index None

-- the label is one of the draft's
abbrev pub IsMade : Code → Label → Type 0
IsMade code label = label.index < length code.labels

-- the label that was made after `number` others
abbrev pub nth_label : Code → ℕ → Option Label
nth_label code number = if nat_lt number (length code.labels) then Some (record { index = number }) else None

-- the label is placed
abbrev pub IsPlaced : Code → Label → Type 0
IsPlaced code label = IsSome (target code label)

-- something holds of each label of an operand
abbrev pub OfOperand : (Label → Type 0) → Operand → Type 0
OfOperand P (Number n) = ⊤
OfOperand P (DistanceTo label) = P label
OfOperand P (Between from to) = P from × P to

-- something holds of each label that an item refers to
abbrev pub OfItem : (Label → Type 0) → Item → Type 0
OfItem P (Instruction fun operand) = OfOperand P operand
OfItem P (ConstantAddress offset) = ⊤

-- each label that an item refers to is placed
abbrev pub IsComplete : Code → Type 0
IsComplete code = All (OfItem (IsPlaced code)) code.items
