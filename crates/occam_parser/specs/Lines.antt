-- What one line says, and how it is written. The forms are those of the occam 2 reference manual that this profile has.
use Rattle.std.specs.Prelude.{◌≡◌, ℕ, Bool, true, false, List, [], ◌∷◌, ◌++◌, Option, Some, None}
use Rattle.std.specs.List.{AllByRecursion}
use Rattle.occam_layout.specs.declared.mark.Mark.TheVariants as mark
use Rattle.occam_parser.specs.declared.head.BlockKind.{BlockKind}
use Rattle.occam_parser.specs.declared.head.BlockKind.TheVariants as block
use Rattle.occam_parser.specs.declared.tree.FormalKind.{FormalKind}
use Rattle.occam_parser.specs.declared.tree.FormalKind.TheVariants as formal_kind
use Rattle.occam_parser.specs.declared.tree.ValueType.{ValueType}
use Rattle.occam_parser.specs.Terminals.{Terminal, Name, Text, Mark}
use Rattle.occam_parser.specs.OneOrMore.{OneOrMore, as_list}
use Rattle.occam_parser.specs.Expressions.{Expression, written, type_word, Fits}

-- ---- trees

pub record Place : Type 0 where
  pub name : List ℕ
  pub subscript : Option Expression

pub record Replicator : Type 0 where
  pub name : List ℕ
  pub base : Expression
  pub count : Expression

pub data Value : Type 0 where
  Scalar : (value : Expression) → Value
  Table : (size : Expression) → (items : OneOrMore Expression) → Value
  Bytes : (size : Expression) → (bytes : List ℕ) → Value

pub record Constant : Type 0 where
  pub line : ℕ
  pub value_type : ValueType
  pub name : List ℕ
  pub value : Value

pub record Names : Type 0 where
  pub line : ℕ
  pub size : Option Expression
  pub value_type : ValueType
  pub names : OneOrMore (List ℕ)

pub data Declaration : Type 0 where
  Constants : (constant : Constant) → Declaration
  Variables : (names : Names) → Declaration
  Channels : (names : Names) → Declaration

pub data Action : Type 0 where
  Skip : Action
  Stop : Action
  Assign : (target : Place) → (value : Expression) → Action
  Input : (channel target : Place) → Action
  Output : (channel : Place) → (value : Expression) → Action
  Instance : (name : List ℕ) → (actuals : List Expression) → Action

pub data Guard : Type 0 where
  Receives : (condition : Option Expression) → (channel target : Place) → Guard
  Skips : (condition : Expression) → Guard

pub record Formal : Type 0 where
  pub kind : FormalKind
  pub size : Option Expression
  pub value_type : ValueType
  pub name : List ℕ

pub record ProcHead : Type 0 where
  pub name : List ℕ
  pub formals : List Formal

-- a line of a process: a declaration, all of a construct, or the head of a block
pub data Head : Type 0 where
  Declares : (declaration : Declaration) → Head
  Acts : (action : Action) → Head
  Opens : (kind : BlockKind) → (replicator : Option Replicator) → Head

-- ---- how they are written

abbrev pub in_brackets : Option Expression → List Terminal
in_brackets None = []
in_brackets (Some e) = Mark mark.OpenBracket ∷ written e ++ Mark mark.CloseBracket ∷ []

abbrev pub written_place : Place → List Terminal
written_place p = Name p.name ∷ in_brackets p.subscript

-- items with commas between them
abbrev pub after_commas : {A : Type 0} → (A → List Terminal) → List A → List Terminal
after_commas write [] = []
after_commas write (x ∷ xs) = Mark mark.Comma ∷ write x ++ after_commas write xs

abbrev pub separated : {A : Type 0} → (A → List Terminal) → List A → List Terminal
separated write [] = []
separated write (x ∷ xs) = write x ++ after_commas write xs

abbrev pub written_name : List ℕ → List Terminal
written_name name = Name name ∷ []

abbrev pub size_of : Value → Option Expression
size_of (Scalar value) = None
size_of (Table size items) = Some size
size_of (Bytes size bytes) = Some size

abbrev pub written_value : Value → List Terminal
written_value (Scalar value) = written value
written_value (Table size items) =
    Mark mark.OpenBracket ∷ separated written (as_list items) ++ Mark mark.CloseBracket ∷ []
written_value (Bytes size bytes) = Text bytes ∷ []

-- after the word VAL
abbrev pub written_constant : Constant → List Terminal
written_constant c =
    in_brackets (size_of c.value) ++ (type_word c.value_type ∷ Name c.name ∷ Mark mark.Is ∷
    (written_value c.value ++ Mark mark.Colon ∷ []))

-- the words before a type
abbrev pub channel_words : Bool → List Terminal
channel_words false = []
channel_words true = Mark mark.Chan ∷ Mark mark.Of ∷ []

abbrev pub written_names : Bool → Names → List Terminal
written_names is_channel n =
    in_brackets n.size ++ (channel_words is_channel
    ++ (type_word n.value_type ∷ (separated written_name (as_list n.names) ++ Mark mark.Colon ∷ [])))

abbrev pub written_declaration : Declaration → List Terminal
written_declaration (Constants c) = Mark mark.Val ∷ written_constant c
written_declaration (Variables n) = written_names false n
written_declaration (Channels n) = written_names true n

abbrev pub written_action : Action → List Terminal
written_action Skip = Mark mark.Skip ∷ []
written_action Stop = Mark mark.Stop ∷ []
written_action (Assign target value) = written_place target ++ Mark mark.Assign ∷ written value
written_action (Input channel target) = written_place channel ++ Mark mark.Input ∷ written_place target
written_action (Output channel value) = written_place channel ++ Mark mark.Output ∷ written value
written_action (Instance name actuals) = Name name ∷ Mark mark.OpenParenthesis ∷ separated written actuals ++ Mark
    mark.CloseParenthesis ∷ []

abbrev pub written_replicator : Option Replicator → List Terminal
written_replicator None = []
written_replicator (Some r) = Name r.name ∷ Mark mark.Equal ∷ written r.base ++ Mark mark.For ∷ written r.count

abbrev pub block_word : BlockKind → Terminal
block_word block.Seq = Mark mark.Seq
block_word block.Par = Mark mark.Par
block_word block.If = Mark mark.If
block_word block.Alt = Mark mark.Alt

abbrev pub written_head : Head → List Terminal
written_head (Declares d) = written_declaration d
written_head (Acts a) = written_action a
written_head (Opens kind replicator) = block_word kind ∷ written_replicator replicator

abbrev pub written_condition : Option Expression → List Terminal
written_condition None = []
written_condition (Some e) = written e ++ Mark mark.Guard ∷ []

abbrev pub written_guard : Guard → List Terminal
written_guard (Receives condition channel target) =
    written_condition condition ++ (written_place channel ++ Mark mark.Input ∷ written_place target)
written_guard (Skips condition) = written condition ++ Mark mark.Guard ∷ Mark mark.Skip ∷ []

-- the words before the size and the type, and those between
abbrev pub value_word : FormalKind → List Terminal
value_word formal_kind.Value = Mark mark.Val ∷ []
value_word formal_kind.Variable = []
value_word formal_kind.Channel = []

abbrev pub formal_words : FormalKind → List Terminal
formal_words formal_kind.Value = []
formal_words formal_kind.Variable = []
formal_words formal_kind.Channel = Mark mark.Chan ∷ Mark mark.Of ∷ []

abbrev pub written_formal : Formal → List Terminal
written_formal f = value_word f.kind ++ (in_brackets
    f.size ++ (formal_words f.kind ++ type_word f.value_type ∷ Name f.name ∷ []))

-- after the word PROC
abbrev pub written_proc_head : ProcHead → List Terminal
written_proc_head h = Name h.name ∷ Mark mark.OpenParenthesis ∷ separated written_formal h.formals ++ Mark
    mark.CloseParenthesis ∷ []

-- ---- when they fit: each expression has 64 levels at most

abbrev pub IsWhole : Expression → Type 0
IsWhole e = Fits e 64

abbrev pub AreWhole : List Expression → Type 0
AreWhole = AllByRecursion IsWhole

abbrev pub IsWholeIfAny : Option Expression → Type 0
IsWholeIfAny None = Unit {0}
IsWholeIfAny (Some e) = IsWhole e

abbrev pub FitsPlace : Place → Type 0
FitsPlace p = IsWholeIfAny p.subscript

abbrev pub FitsValue : Value → Type 0
FitsValue (Scalar value) = IsWhole value
FitsValue (Table size items) = IsWhole size × AreWhole (as_list items)
FitsValue (Bytes size bytes) = IsWhole size

abbrev pub FitsConstant : ℕ → Constant → Type 0
FitsConstant line c = (c.line ≡ line) × FitsValue c.value

abbrev pub FitsNames : ℕ → Names → Type 0
FitsNames line n = (n.line ≡ line) × IsWholeIfAny n.size

abbrev pub FitsDeclaration : ℕ → Declaration → Type 0
FitsDeclaration line (Constants c) = FitsConstant line c
FitsDeclaration line (Variables n) = FitsNames line n
FitsDeclaration line (Channels n) = FitsNames line n

abbrev pub FitsAction : Action → Type 0
FitsAction Skip = Unit {0}
FitsAction Stop = Unit {0}
FitsAction (Assign target value) = FitsPlace target × IsWhole value
FitsAction (Input channel target) = FitsPlace channel × FitsPlace target
FitsAction (Output channel value) = FitsPlace channel × IsWhole value
FitsAction (Instance name actuals) = AreWhole actuals

abbrev pub FitsReplicator : Option Replicator → Type 0
FitsReplicator None = Unit {0}
FitsReplicator (Some r) = IsWhole r.base × IsWhole r.count

abbrev pub FitsHead : ℕ → Head → Type 0
FitsHead line (Declares d) = FitsDeclaration line d
FitsHead line (Acts a) = FitsAction a
FitsHead line (Opens kind replicator) = FitsReplicator replicator

abbrev pub FitsGuard : Guard → Type 0
FitsGuard (Receives condition channel target) = IsWholeIfAny condition × FitsPlace channel × FitsPlace target
FitsGuard (Skips condition) = IsWhole condition

abbrev pub FitsFormal : Formal → Type 0
FitsFormal f = IsWholeIfAny f.size

abbrev pub FitsProcHead : ProcHead → Type 0
FitsProcHead h = AllByRecursion FitsFormal h.formals
