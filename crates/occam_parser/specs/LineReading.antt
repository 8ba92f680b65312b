-- Reading what one line says from left to right, on lists.
use Rattle.std.specs.Prelude.{ℕ, Bool, true, false, List, [], ◌∷◌, if◌then◌else◌, Option, Some, None}
use Rattle.occam_layout.specs.declared.mark.Mark as mark_type
use Rattle.occam_layout.specs.declared.mark.Mark.TheVariants as mark
use Rattle.occam_parser.specs.declared.head.BlockKind.{BlockKind}
use Rattle.occam_parser.specs.declared.head.BlockKind.TheVariants as block
use Rattle.occam_parser.specs.declared.tree.FormalKind.{FormalKind}
use Rattle.occam_parser.specs.declared.tree.FormalKind.TheVariants as formal_kind
use Rattle.occam_parser.specs.declared.tree.ValueType.{ValueType}
use Rattle.occam_parser.specs.declared.tree.ValueType.TheVariants as value_type
use Rattle.occam_parser.specs.Terminals.{Terminal, Name, Text, Mark}
use Rattle.occam_parser.specs.OneOrMore.{as_list}
use Rattle.occam_parser.specs.Expressions.{Expression}
use Rattle.occam_parser.specs.Reading.{Reads, ◌>>=◌, behind, up_to, expression_at, list_of}
use Rattle.occam_parser.specs.Lines.{Place, Replicator, Value, Scalar, Table, Bytes, Constant, Names, Declaration}
use Rattle.occam_parser.specs.Lines.{Constants, Variables, Channels, Action, Skip, Stop, Assign, Input, Output}
use Rattle.occam_parser.specs.Lines.{Instance, Guard, Receives, Skips, Formal, ProcHead, Head, Declares, Acts, Opens}

-- ---- small parts

abbrev pub ended : List Terminal → Bool
ended [] = true
ended (t ∷ ts) = false

-- what was read, where it is all of the line
abbrev pub only : {A : Type 0} → A → List Terminal → Option A
only x ts = if ended ts then Some x else None

unfoldable pub name_at : Reads (List ℕ)
name_at [] = None
name_at (Name name ∷ ts) = Some (name, ts)
name_at (t ∷ ts) = None

abbrev pub bracketed_behind : List Terminal → Option (List Terminal) → Option (Option Expression × List Terminal)
bracketed_behind ts None = Some (None, ts)
bracketed_behind ts (Some after) = do
  x ← up_to mark.CloseBracket (expression_at 64 after)
  Some (Some x.0, x.1)

-- an expression in brackets, if some come first: a size or a subscript
unfoldable pub bracketed_at : Reads (Option Expression)
bracketed_at ts = bracketed_behind ts (behind mark.OpenBracket ts)

abbrev pub type_behind : List Terminal → Option (List Terminal) → Option (ValueType × List Terminal)
type_behind ts (Some rest) = Some (value_type.Int, rest)
type_behind ts None = do
  rest ← behind mark.Byte ts
  Some (value_type.Byte, rest)

unfoldable pub type_at : Reads ValueType
type_at ts = type_behind ts (behind mark.Int ts)

abbrev pub shape_behind : List Terminal → Option (List Terminal) → Option ((Bool × ValueType) × List Terminal)
shape_behind ts (Some after) = do
  rest ← behind mark.Of after
  x ← type_at rest
  Some ((true, x.0), x.1)
shape_behind ts None = do
  x ← type_at ts
  Some ((false, x.0), x.1)

-- a type, or CHAN OF a type
unfoldable pub shape_at : Reads (Bool × ValueType)
shape_at ts = shape_behind ts (behind mark.Chan ts)

unfoldable pub place_at : List ℕ → Reads Place
place_at name ts = do
  x ← bracketed_at ts
  Some (record { name = name; subscript = x.0 }, x.1)

-- ---- up to the end of the line

unfoldable pub whole_at : List Terminal → Option Expression
whole_at ts = do
  x ← expression_at 64 ts
  only x.0 x.1

unfoldable pub whole_place : List Terminal → Option Place
whole_place ts = do
  name ← name_at ts
  x ← place_at name.0 name.1
  only x.0 x.1

abbrev pub items_behind : {A : Type 0} → Reads A → List Terminal → Option (List Terminal) → Option (List A)
items_behind item ts (Some rest) = only [] rest
items_behind item ts None = do
  x ← list_of item ts
  rest ← behind mark.CloseParenthesis x.1
  only (as_list x.0) rest

-- items with commas between them, if any, after the parenthesis that opens
unfoldable pub in_parentheses : {A : Type 0} → Reads A → List Terminal → Option (List A)
in_parentheses item ts = items_behind item ts (behind mark.CloseParenthesis ts)

-- ---- constants and declarations

abbrev pub items_at : Expression → Reads Value
items_at size ts = do
  x ← up_to mark.CloseBracket (list_of (expression_at 64) ts)
  Some (Table size x.0, x.1)

unfoldable pub table_at : Expression → Reads Value
table_at size [] = None
table_at size (Text bytes ∷ ts) = Some (Bytes size bytes, ts)
table_at size (Mark mark.OpenBracket ∷ ts) = items_at size ts
table_at size (t ∷ ts) = None

unfoldable pub value_at : Option Expression → Reads Value
value_at None ts = do
  x ← expression_at 64 ts
  Some (Scalar x.0, x.1)
value_at (Some size) ts = table_at size ts

-- a type, and a name after it
unfoldable pub typed_name_at : Reads (ValueType × List ℕ)
typed_name_at ts = do
  type ← type_at ts
  name ← name_at type.1
  Some ((type.0, name.0), name.1)

-- after the word VAL
unfoldable pub constant_at : ℕ → List Terminal → Option Constant
constant_at line ts = do
  size ← bracketed_at ts
  named ← up_to mark.Is (typed_name_at size.1)
  value ← up_to mark.Colon (value_at size.0 named.1)
  only (record { line = line; value_type = named.0.0; name = named.0.1; value = value.0 }) value.1

abbrev pub declared_as : Bool → Names → Declaration
declared_as true n = Channels n
declared_as false n = Variables n

unfoldable pub names_at : ℕ → List Terminal → Option Declaration
names_at line ts = do
  size ← bracketed_at ts
  shape ← shape_at size.1
  names ← list_of name_at shape.1
  rest ← behind mark.Colon names.1
  only (declared_as shape.0.0 (record { line = line; size = size.0; value_type = shape.0.1; names = names.0 })) rest

-- ---- procedures

unfoldable pub formal_named : FormalKind → Option Expression → ValueType → Reads Formal
formal_named kind size type ts = do
  name ← name_at ts
  Some (record { kind = kind; size = size; value_type = type; name = name.0 }, name.1)

abbrev pub formal_kind_of : Bool → FormalKind
formal_kind_of true = formal_kind.Channel
formal_kind_of false = formal_kind.Variable

abbrev pub value_formal_at : Reads Formal
value_formal_at ts = do
  size ← bracketed_at ts
  type ← type_at size.1
  formal_named formal_kind.Value size.0 type.0 type.1

abbrev pub formal_behind : List Terminal → Option (List Terminal) → Option (Formal × List Terminal)
formal_behind ts (Some after) = value_formal_at after
formal_behind ts None = do
  size ← bracketed_at ts
  shape ← shape_at size.1
  formal_named (formal_kind_of shape.0.0) size.0 shape.0.1 shape.1

unfoldable pub formal_at : Reads Formal
formal_at ts = formal_behind ts (behind mark.Val ts)

-- after the word PROC
unfoldable pub proc_head_at : List Terminal → Option ProcHead
proc_head_at ts = do
  name ← name_at ts
  opened ← behind mark.OpenParenthesis name.1
  formals ← in_parentheses formal_at opened
  Some (record { name = name.0; formals = formals })

-- ---- actions

-- after the place that it begins with
abbrev pub placed_action : Place → List Terminal → Option Action
placed_action place (Mark mark.Assign ∷ ts) = do
  value ← whole_at ts
  Some (Assign place value)
placed_action place (Mark mark.Input ∷ ts) = do
  target ← whole_place ts
  Some (Input place target)
placed_action place (Mark mark.Output ∷ ts) = do
  value ← whole_at ts
  Some (Output place value)
placed_action place ts = None

abbrev pub instance_or_other : List ℕ → List Terminal → Option (List Terminal) → Option Action
instance_or_other name ts (Some rest) = do
  actuals ← in_parentheses (expression_at 64) rest
  Some (Instance name actuals)
instance_or_other name ts None = do
  place ← place_at name ts
  placed_action place.0 place.1

-- after its first name
unfoldable pub action_at : List ℕ → List Terminal → Option Action
action_at name ts = instance_or_other name ts (behind mark.OpenParenthesis ts)

-- ---- heads

unfoldable pub counted_at : List ℕ → List Terminal → Option Replicator
counted_at name ts = do
  base ← expression_at 64 ts
  rest ← behind mark.For base.1
  count ← whole_at rest
  Some (record { name = name; base = base.0; count = count })

unfoldable pub replicator_at : List Terminal → Option (Option Replicator)
replicator_at [] = Some None
replicator_at (t ∷ ts) = do
  name ← name_at (t ∷ ts)
  equal ← behind mark.Equal name.1
  replicator ← counted_at name.0 equal
  Some (Some replicator)

unfoldable pub block_at : BlockKind → List Terminal → Option Head
block_at kind ts = do
  replicator ← replicator_at ts
  Some (Opens kind replicator)

unfoldable pub declaration_at : ℕ → List Terminal → Option Head
declaration_at line ts = do
  names ← names_at line ts
  Some (Declares names)

unfoldable pub marked_head : ℕ → List Terminal → mark_type.Mark → List Terminal → Option Head
marked_head line whole mark.Val ts = do
  constant ← constant_at line ts
  Some (Declares (Constants constant))
marked_head line whole mark.Int ts = declaration_at line whole
marked_head line whole mark.Byte ts = declaration_at line whole
marked_head line whole mark.Chan ts = declaration_at line whole
marked_head line whole mark.OpenBracket ts = declaration_at line whole
marked_head line whole mark.Skip ts = only (Acts Skip) ts
marked_head line whole mark.Stop ts = only (Acts Stop) ts
marked_head line whole mark.Seq ts = block_at block.Seq ts
marked_head line whole mark.Par ts = block_at block.Par ts
marked_head line whole mark.If ts = block_at block.If ts
marked_head line whole mark.Alt ts = block_at block.Alt ts
marked_head line whole m ts = None

-- a line of a process, with its number
unfoldable pub head_at : ℕ → List Terminal → Option Head
head_at line [] = None
head_at line (Name name ∷ ts) = do
  action ← action_at name ts
  Some (Acts action)
head_at line (Mark m ∷ ts) = marked_head line (Mark m ∷ ts) m ts
head_at line (t ∷ ts) = None

-- ---- guards

-- whether a condition comes before the guard
abbrev pub is_guard_sign : Terminal → Bool
is_guard_sign (Mark mark.Guard) = true
is_guard_sign t = false

abbrev pub has_condition : List Terminal → Bool
has_condition [] = false
has_condition (t ∷ ts) = if is_guard_sign t then true else has_condition ts

unfoldable pub input_at : List Terminal → Option (Place × Place)
input_at ts = do
  name ← name_at ts
  channel ← place_at name.0 name.1
  rest ← behind mark.Input channel.1
  target ← whole_place rest
  Some (channel.0, target)

abbrev pub received_if : Option Expression → List Terminal → Option Guard
received_if condition ts = do
  x ← input_at ts
  Some (Receives condition x.0 x.1)

abbrev pub skips_or_receives : Expression → List Terminal → Option (List Terminal) → Option Guard
skips_or_receives condition ts (Some rest) = only (Skips condition) rest
skips_or_receives condition ts None = received_if (Some condition) ts

unfoldable pub conditioned_at : List Terminal → Option Guard
conditioned_at ts = do
  condition ← expression_at 64 ts
  rest ← behind mark.Guard condition.1
  skips_or_receives condition.0 rest (behind mark.Skip rest)

unfoldable pub guard_at : List Terminal → Option Guard
guard_at ts = if has_condition ts then conditioned_at ts else received_if None ts
