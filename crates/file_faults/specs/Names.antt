-- A field of a file by its place and its name, with what it has.
use Rattle.std.specs.Prelude.{ℕ, ◌-◌, ◌==◌, nat_lt, ℤ, pos, ◌-ℤ◌, if◌then◌else◌, [], ◌++◌, codes}
use Rattle.std.specs.Fmt.{decimal, signed_decimal}
use Rattle.fact_texts.specs.Texts.{Text}
use Rattle.file_faults.specs.declared.fields.Group.{Group}
use Rattle.file_faults.specs.declared.fields.Group.TheVariants.{File, Registers}
use Rattle.file_faults.specs.declared.fields.Number.{Number}
use Rattle.file_faults.specs.declared.fields.Number.TheVariants.{SignedWord}
use Rattle.file_faults.specs.declared.walks.Walk.{Walk}
use Rattle.file_faults.specs.Fields.{group_of}
use Rattle.file_faults.specs.Walks.{count_of}

-- ---- places

-- the number of the one of a group that is here, from 0 on
abbrev pub item_of : Walk → Group → ℕ
item_of w group = count_of w.counts group - count_of w.left group

-- the register of a fact
abbrev pub register_name : ℕ → Text
register_name n = if n == 0 then codes "A, " else if (n == 1) then codes "B, " else codes "C, "

-- the one of a group that is here, by its number
unfoldable pub item_text : Walk → Group → Text
item_text w File = []
item_text w Registers = register_name (item_of w Registers)
item_text w group = (group_of group).words ++ (decimal (item_of w group) ++ codes ", ")

-- the row, the branch and the item of a field
unfoldable pub place_text : Walk → Text
place_text w =
    item_text w (group_of (group_of w.group).outer).outer
    ++ (item_text w (group_of w.group).outer ++ item_text w w.group)

-- ---- values

-- the signed word that a number is
abbrev pub signed_of : ℕ → ℤ
signed_of value = if nat_lt value 2147483648 then pos value else pos value -ℤ pos 4294967296

-- what a field has
abbrev pub value_text : Number → ℕ → Text
value_text SignedWord value = signed_decimal (signed_of value)
value_text number value = decimal value
