-- Layouts: a length for each item, and the places that follow from the lengths.
use Rattle.std.specs.Prelude.{◌≡◌, ◌+◌, ◌-◌, ◌≤◌, ℕ, suc, List, [], ◌∷◌, ◌++◌, length, take, sum, Option}
use Rattle.std.specs.Prelude.{unwrap_or, option_map, map, ℤ, pos, ◌-ℤ◌}
use Rattle.std.specs.List.{AllZip}
use Rattle.prefix_decoder.specs.declared.function.Fun.TheVariants.{LoadConstant}
use Rattle.prefix_decoder.specs.Spelling.{spelling}
use Rattle.module_format.specs.declared.limits.TheConstants.{MAX_LONG_CODE}
use Rattle.module_builder.specs.declared.item.Label.{Label}
use Rattle.module_builder.specs.declared.item.Operand.{Operand}
use Rattle.module_builder.specs.declared.item.Operand.TheVariants.{Number, DistanceTo, Between}
use Rattle.module_builder.specs.declared.item.Item.{Item}
use Rattle.module_builder.specs.declared.item.Item.TheVariants.{Instruction, ConstantAddress}
use Rattle.module_builder.specs.Drafts.{Code, target}

-- where the item with a number begins, or the code's end: the bytes of the items before it
abbrev pub offset : List ℕ → ℕ → ℕ
offset lengths number = sum (take number lengths)

-- where a label is
abbrev pub place : Code → List ℕ → Label → ℕ
place code lengths label = offset lengths (unwrap_or (target code label) 0)

-- the operand of an instruction that ends here
abbrev pub value : Code → List ℕ → ℕ → Operand → ℤ
value code lengths end (Number n) = n
value code lengths end (DistanceTo label) = pos (place code lengths label) -ℤ pos end
value code lengths end (Between from to) = pos (place code lengths to) -ℤ pos (place code lengths from)

-- The bytes of `ldc` in the address of a constant, which ends here. They are enough for each place that the
-- constants can have: they begin at a word, at most three bytes after the code.
abbrev pub load_len : List ℕ → ℕ → ℕ → ℕ
load_len lengths end offset = length (spelling LoadConstant (pos ((sum lengths - end) + 3 + offset)))

-- the bytes that an item takes, if it ends here; two of the address of a constant are for `ldpi`
abbrev pub bytes_of : Code → List ℕ → ℕ → Item → ℕ
bytes_of code lengths end (Instruction fun operand) = length (spelling fun (value code lengths end operand))
bytes_of code lengths end (ConstantAddress offset) = load_len lengths end offset + 2

-- the bytes that items take, of which the first has this number
abbrev pub bytes_from : Code → List ℕ → ℕ → List Item → List ℕ
bytes_from code lengths number [] = []
bytes_from code lengths number (item ∷ items) =
    bytes_of code lengths (offset lengths (suc number)) item ∷ bytes_from code lengths (suc number) items

-- the bytes that the items of a draft take by the places that follow from these lengths
abbrev pub needed : Code → List ℕ → List ℕ
needed code lengths = bytes_from code lengths 0 code.items

-- each item takes just the bytes that these lengths give it, and the code isn't too long
pub record Fits (code : Code) (lengths : List ℕ) : Type 0 where
  pub exact : lengths ≡ needed code lengths
  pub short : sum lengths ≤ MAX_LONG_CODE

-- no item is longer than the other lengths have it
abbrev pub NowhereLonger : List ℕ → List ℕ → Type 0
NowhereLonger lengths others = AllZip (λ a b. a ≤ b) lengths others

-- the lengths fit, and are nowhere longer than others that fit
pub record IsLeast (code : Code) (lengths : List ℕ) : Type 0 where
  pub fits : Fits code lengths
  pub least : (others : List ℕ) → Fits code others → NowhereLonger lengths others

-- the place of each label, none while it isn't placed
abbrev pub places : Code → List ℕ → List (Option ℕ)
places code lengths = map (option_map (offset lengths)) code.labels

-- an item's first byte, or the code's end
pub record IsBoundary (lengths : List ℕ) (at : ℕ) : Type 0 where
  pub before : List ℕ
  pub behind : List ℕ
  pub parts : lengths ≡ before ++ behind
  pub bytes : at ≡ sum before
