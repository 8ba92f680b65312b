-- The literals of a tree: each integer is a word, each character and each byte of a string a byte. The tree of a
-- source has no others.
use Rattle.std.specs.Prelude.{ℕ, ℤ, Bool, true, ◌&&◌, List, [], ◌∷◌, Option, Some, None}
use Rattle.std.specs.List.{list_all}
use Rattle.word_arithmetic.specs.Word.{is_word}
use Rattle.occam_layout.specs.Words.{is_byte, are_bytes}
use Rattle.occam_parser.specs.Terminals.{Terminal}
use Rattle.occam_parser.specs.Terminals as terminal
use Rattle.occam_parser.specs.OneOrMore.{as_list}
use Rattle.occam_parser.specs.Expressions.{Expression, Alone, Prefixed, Paired, Chained, Terms, Two, Then, Term}
use Rattle.occam_parser.specs.Expressions.{Number, Byte, Truth, MostPos, MostNeg, Named, Element, Bracketed, Converted}
use Rattle.occam_parser.specs.Lines.{Place, Replicator, Value, Scalar, Table, Bytes, Constant, Names, Declaration}
use Rattle.occam_parser.specs.Lines.{Constants, Variables, Channels, Action, Skip, Stop, Assign, Input, Output}
use Rattle.occam_parser.specs.Lines.{Instance, Guard, Receives, Skips, Formal}
use Rattle.occam_parser.specs.Blocks.{Process, Declared, Does, Construct, Act, Block, Replicated, Body, One, Components}
use Rattle.occam_parser.specs.Blocks.{Part, NoComponent, Further, Component, Plain, Chosen, Guarded, ProgramItem}
use Rattle.occam_parser.specs.Blocks.{GlobalConstant, GlobalProcedure}

-- ---- what is written

abbrev pub is_in_words : Terminal → Bool
is_in_words (terminal.Name spelling) = true
is_in_words (terminal.Integer value) = is_word value
is_in_words (terminal.Character byte) = is_byte byte
is_in_words (terminal.Text bytes) = are_bytes bytes
is_in_words (terminal.Mark mark) = true

abbrev pub are_in_words : List Terminal → Bool
are_in_words ts = list_all is_in_words ts

-- ---- expressions

abbrev mutual
  pub has_words : Expression → Bool
  has_words (Alone t) = has_words_in t
  has_words (Prefixed op t) = has_words_in t
  has_words (Paired op a b) = has_words_in a && has_words_in b
  has_words (Chained op ts) = have_words ts

  pub have_words : Terms → Bool
  have_words (Two a b) = has_words_in a && has_words_in b
  have_words (Then ts t) = have_words ts && has_words_in t

  pub has_words_in : Term → Bool
  has_words_in (Number value) = is_word value
  has_words_in (Byte byte) = is_byte byte
  has_words_in (Truth holds) = true
  has_words_in MostPos = true
  has_words_in MostNeg = true
  has_words_in (Named name) = true
  has_words_in (Element name e) = has_words e
  has_words_in (Bracketed e) = has_words e
  has_words_in (Converted to t) = has_words_in t

abbrev pub has_words_if_any : Option Expression → Bool
has_words_if_any None = true
has_words_if_any (Some e) = has_words e

-- ---- lines

abbrev pub place_has_words : Place → Bool
place_has_words p = has_words_if_any p.subscript

abbrev pub value_has_words : Value → Bool
value_has_words (Scalar e) = has_words e
value_has_words (Table size items) = has_words size && list_all has_words (as_list items)
value_has_words (Bytes size bytes) = has_words size && are_bytes bytes

abbrev pub constant_has_words : Constant → Bool
constant_has_words c = value_has_words c.value

abbrev pub names_have_words : Names → Bool
names_have_words n = has_words_if_any n.size

abbrev pub declaration_has_words : Declaration → Bool
declaration_has_words (Constants c) = constant_has_words c
declaration_has_words (Variables n) = names_have_words n
declaration_has_words (Channels n) = names_have_words n

abbrev pub action_has_words : Action → Bool
action_has_words Skip = true
action_has_words Stop = true
action_has_words (Assign target e) = place_has_words target && has_words e
action_has_words (Input channel target) = place_has_words channel && place_has_words target
action_has_words (Output channel e) = place_has_words channel && has_words e
action_has_words (Instance name actuals) = list_all has_words actuals

abbrev pub replicator_has_words : Replicator → Bool
replicator_has_words r = has_words r.base && has_words r.count

abbrev pub guard_has_words : Guard → Bool
guard_has_words (Receives condition channel target) =
    has_words_if_any condition && (place_has_words channel && place_has_words target)
guard_has_words (Skips condition) = has_words condition

abbrev pub formal_has_words : Formal → Bool
formal_has_words f = has_words_if_any f.size

-- ---- processes

abbrev mutual
  pub process_has_words : Process → Bool
  process_has_words (Declared d p) = declaration_has_words d && process_has_words p
  process_has_words (Does line c) = construct_has_words c

  pub construct_has_words : Construct → Bool
  construct_has_words (Act a) = action_has_words a
  construct_has_words (Block kind components) = components_have_words components
  construct_has_words (Replicated replicator body) = replicator_has_words replicator && body_has_words body

  pub body_has_words : Body → Bool
  body_has_words (One kind component) = component_has_words component

  pub components_have_words : {part : Part} → Components part → Bool
  components_have_words NoComponent = true
  components_have_words (Further cs c) = components_have_words cs && component_has_words c

  pub component_has_words : {part : Part} → Component part → Bool
  component_has_words (Plain p) = process_has_words p
  component_has_words (Chosen line e p) = has_words e && process_has_words p
  component_has_words (Guarded line g p) = guard_has_words g && process_has_words p

-- ---- programs

abbrev pub item_has_words : ProgramItem → Bool
item_has_words (GlobalConstant c) = constant_has_words c
item_has_words (GlobalProcedure p) = list_all formal_has_words p.head.formals && process_has_words p.body

abbrev pub items_have_words : List ProgramItem → Bool
items_have_words items = list_all item_has_words items
