-- The trees that values of the program are, for what is on one line.
use Rattle.std.specs.Prelude.{ℕ, List, Option, map, option_map}
use Rattle.std.specs.Borrow.{Bor}
use Rattle.occam_layout.specs.Kind.{bytes_of}
use Rattle.occam_parser.specs.declared.tree.Expr.{Expr}
use Rattle.occam_parser.specs.declared.tree.Place as place_type
use Rattle.occam_parser.specs.declared.tree.Replicator as replicator_type
use Rattle.occam_parser.specs.declared.tree.ConstantValue as value_type
use Rattle.occam_parser.specs.declared.tree.ConstantValue.TheVariants as value
use Rattle.occam_parser.specs.declared.tree.Constant as constant_type
use Rattle.occam_parser.specs.declared.tree.Names as names_type
use Rattle.occam_parser.specs.declared.tree.Declaration as declaration_type
use Rattle.occam_parser.specs.declared.tree.Declaration.TheVariants as declaration
use Rattle.occam_parser.specs.declared.tree.Action as action_type
use Rattle.occam_parser.specs.declared.tree.Action.TheVariants as action
use Rattle.occam_parser.specs.declared.tree.Guard as guard_type
use Rattle.occam_parser.specs.declared.tree.Guard.TheVariants as guard
use Rattle.occam_parser.specs.declared.tree.Formal as formal_type
use Rattle.occam_parser.specs.declared.declaration.ProcHead as proc_head_type
use Rattle.occam_parser.specs.declared.head.Head as head_type
use Rattle.occam_parser.specs.declared.head.Head.TheVariants as head
use Rattle.occam_parser.specs.declared.head.Start as start_type
use Rattle.occam_parser.specs.declared.head.Start.TheVariants as start
use Rattle.occam_parser.specs.Expressions.{Expression}
use Rattle.occam_parser.specs.OneOrMore.{one_or_more_of}
use Rattle.occam_parser.specs.Views.{expression_of}
use Rattle.occam_parser.specs.Lines.{Place, Replicator, Value, Scalar, Table, Bytes, Constant, Names, Declaration}
use Rattle.occam_parser.specs.Lines.{Constants, Variables, Channels, Action, Skip, Stop, Assign, Input, Output}
use Rattle.occam_parser.specs.Lines.{Instance, Guard, Receives, Skips, Formal, ProcHead, Head, Declares, Acts, Opens}

abbrev pub spelling_of : Bor (List ℕ) → List ℕ
spelling_of name = name.now

abbrev pub any_of : Option Expr → Option Expression
any_of e = option_map expression_of e

abbrev pub place_of : place_type.Place → Place
place_of p = record { name = p.name.now; subscript = any_of p.subscript }

abbrev pub replicator_of : replicator_type.Replicator → Replicator
replicator_of r = record { name = r.name.now; base = expression_of r.base; count = expression_of r.count }

abbrev pub value_of : value_type.ConstantValue → Value
value_of (value.Scalar e) = Scalar (expression_of e)
value_of (value.Table size items) = Table (expression_of size) (one_or_more_of expression_of items)
value_of (value.Text size text) = Bytes (expression_of size) (bytes_of text)

abbrev pub constant_of : constant_type.Constant → Constant
constant_of c = record { line = c.line; value_type = c.value_type; name = c.name.now; value = value_of c.value }

abbrev pub names_of : names_type.Names → Names
names_of n = record {
  line = n.line;
  size = any_of n.size;
  value_type = n.value_type;
  names =
      one_or_more_of spelling_of n.names;
}

abbrev pub declaration_of : declaration_type.Declaration → Declaration
declaration_of (declaration.Constant c) = Constants (constant_of c)
declaration_of (declaration.Variables n) = Variables (names_of n)
declaration_of (declaration.Channels n) = Channels (names_of n)

abbrev pub action_of : action_type.Action → Action
action_of action.Skip = Skip
action_of action.Stop = Stop
action_of (action.Assign target e) = Assign (place_of target) (expression_of e)
action_of (action.Input channel target) = Input (place_of channel) (place_of target)
action_of (action.Output channel e) = Output (place_of channel) (expression_of e)
action_of (action.Instance name actuals) = Instance name.now (map expression_of actuals.items)

abbrev pub guard_of : guard_type.Guard → Guard
guard_of (guard.Input condition channel target) =
    Receives (any_of condition) (place_of channel) (place_of target)
guard_of (guard.Skip condition) = Skips (expression_of condition)

abbrev pub formal_of : formal_type.Formal → Formal
formal_of f = record { kind = f.kind; size = any_of f.size; value_type = f.value_type; name = f.name.now }

abbrev pub proc_head_of : proc_head_type.ProcHead → ProcHead
proc_head_of h = record { name = h.name.now; formals = map formal_of h.formals.items }

abbrev pub start_of : start_type.Start → Head
start_of (start.Action a) = Acts (action_of a)
start_of (start.Block kind replicator) = Opens kind (option_map replicator_of replicator)

abbrev pub head_of : head_type.Head → Head
head_of (head.Declaration d) = Declares (declaration_of d)
head_of (head.Start s) = start_of s
