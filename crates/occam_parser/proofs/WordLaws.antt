-- The literals of a tree are those of the lines on which it is written.
use Rattle.std.proofs.Common.{◌≡◌, ℕ, ◌+◌, Bool, true, false, List, [], ◌∷◌, ◌++◌, Option, Some, None, refl, sym, ap}
use Rattle.std.proofs.Common.{◌∙◌}
use Rattle.std.specs.Prelude.{◌&&◌}
use Rattle.std.specs.List.{list_all}
use Rattle.std.proofs.lemmas.List.Folds.{list_all-append}
use Rattle.std.proofs.lemmas.Bool.{and_from}
use Rattle.std.proofs.Math.Bool.{and-true}
use Rattle.occam_layout.specs.declared.token.Token.{Token}
use Rattle.occam_layout.specs.declared.token.TokenKind.{TokenKind}
use Rattle.occam_layout.specs.declared.token.TokenKind.TheVariants as token
use Rattle.occam_layout.specs.declared.token.Line as line_type
use Rattle.occam_layout.specs.Kind.{kind_of}
use Rattle.word_arithmetic.specs.Word.{is_word}
use Rattle.occam_layout.specs.Words.{is_byte, are_bytes, is_in_words as is_kind_in_words}
use Rattle.occam_parser.specs.declared.tree.PrefixOperator.{PrefixOperator}
use Rattle.occam_parser.specs.declared.tree.PrefixOperator.TheVariants as prefix
use Rattle.occam_parser.specs.declared.tree.ValueType.{ValueType}
use Rattle.occam_parser.specs.declared.tree.ValueType.TheVariants as value_type
use Rattle.occam_parser.specs.declared.tree.ChainOperator.{ChainOperator}
use Rattle.occam_parser.specs.declared.tree.FormalKind.{FormalKind}
use Rattle.occam_parser.specs.declared.tree.FormalKind.TheVariants as formal_kind
use Rattle.occam_parser.specs.declared.head.BlockKind.{BlockKind}
use Rattle.occam_parser.specs.declared.head.BlockKind.TheVariants as block
use Rattle.occam_layout.specs.declared.mark.Mark as mark_type
use Rattle.occam_layout.specs.declared.mark.Mark.TheVariants as mark
use Rattle.occam_parser.specs.Terminals.{Terminal, Name, Mark, terminal_of, terminals_of}
use Rattle.occam_parser.specs.OneOrMore.{as_list}
use Rattle.occam_parser.specs.Expressions.{Expression, Alone, Prefixed, Paired, Chained, Terms, Two, Then, Term}
use Rattle.occam_parser.specs.Expressions.{Number, Byte, Truth, MostPos, MostNeg, Named, Element, Bracketed, Converted}
use Rattle.occam_parser.specs.Expressions.{written, written_terms, written_term, chain_mark, pair_mark, prefix_sign}
use Rattle.occam_parser.specs.Expressions.{type_word, truth_word}
use Rattle.occam_parser.specs.Lines.{Place, Replicator, Value, Scalar, Table, Bytes, Constant, Names, Declaration}
use Rattle.occam_parser.specs.Lines.{Constants, Variables, Channels, Action, Skip, Stop, Assign, Input, Output}
use Rattle.occam_parser.specs.Lines.{Instance, Guard, Receives, Skips, Formal, in_brackets, written_place, separated}
use Rattle.occam_parser.specs.Lines.{after_commas, written_name, written_value, written_names}
use Rattle.occam_parser.specs.Lines.{channel_words, written_declaration, written_action, written_replicator}
use Rattle.occam_parser.specs.Lines.{written_guard, written_formal, written_condition, formal_words, value_word}
use Rattle.occam_parser.specs.Lines.{size_of}
use Rattle.occam_parser.specs.Lines.{block_word}
use Rattle.occam_parser.specs.Blocks.{Row, row_of, rows_of, Process, Declared, Does, Construct, Act, Block, Replicated}
use Rattle.occam_parser.specs.Blocks.{Body, One, Components, Part, NoComponent, Further, Component, Plain, Chosen}
use Rattle.occam_parser.specs.Blocks.{Guarded, ProgramItem, GlobalConstant, GlobalProcedure, IsProgram, lines_of}
use Rattle.occam_parser.specs.Blocks.{lines_of_construct, lines_of_body, lines_of_components, lines_of_component}
use Rattle.occam_parser.specs.Blocks.{colon_row, proc_row}
use Rattle.occam_parser.specs.Words.{is_in_words, are_in_words, has_words, have_words, has_words_in}
use Rattle.occam_parser.specs.Words.{has_words_if_any, place_has_words, value_has_words, declaration_has_words}
use Rattle.occam_parser.specs.Words.{action_has_words, replicator_has_words, guard_has_words, formal_has_words}
use Rattle.occam_parser.specs.Words.{process_has_words, construct_has_words, body_has_words, components_have_words}
use Rattle.occam_parser.specs.Words.{component_has_words, item_has_words, items_have_words, names_have_words}

-- ---- lists of terminals

joined : {a b p q : Bool} → a ≡ p → b ≡ q → (a && b) ≡ (p && q)
joined {a} {b} {p} {q} h k = ap (λ x. x && b) h ∙ ap (λ y. p && y) k

and_assoc : (a b c : Bool) → (a && (b && c)) ≡ ((a && b) && c)
and_assoc false b c = refl
and_assoc true b c = refl

-- one list after another, where both are known
both : (front back : List Terminal) (p q : Bool) → are_in_words front ≡ p → are_in_words back ≡ q
    → are_in_words (front ++ back) ≡ (p && q)
both front back p q h k = list_all-append is_in_words front back ∙ joined h k

-- what a mark ends
ended : (ts : List Terminal) (m : mark_type.Mark) (p : Bool) → are_in_words ts ≡ p
    → are_in_words (ts ++ Mark m ∷ []) ≡ p
ended ts m p h = both ts (Mark m ∷ []) p true h refl ∙ and-true p

sign_words : (op : PrefixOperator) (ts : List Terminal)
    → are_in_words (prefix_sign op ∷ ts) ≡ are_in_words ts
sign_words prefix.Negate ts = refl
sign_words prefix.BitNot ts = refl
sign_words prefix.Not ts = refl

type_words : (type : ValueType) (ts : List Terminal) → are_in_words (type_word type ∷ ts) ≡ are_in_words ts
type_words value_type.Int ts = refl
type_words value_type.Byte ts = refl

truth_words : (b : Bool) → are_in_words (truth_word b ∷ []) ≡ true
truth_words false = refl
truth_words true = refl

mutual
  expression_words : (e : Expression) → are_in_words (written e) ≡ has_words e
  expression_words (Alone t) = term_words t
  expression_words (Prefixed op t) = sign_words op (written_term t) ∙ term_words t
  expression_words (Paired op a b) =
      both (written_term a) (Mark (pair_mark op) ∷ written_term b) (has_words_in a) (has_words_in b) (term_words a)
      (term_words b)
  expression_words (Chained op ts) = terms_words op ts

  terms_words : (op : ChainOperator) (ts : Terms) → are_in_words (written_terms op ts) ≡ have_words ts
  terms_words op (Two a b) =
      both (written_term a) (Mark (chain_mark op) ∷ written_term b) (has_words_in a) (has_words_in b) (term_words a)
      (term_words b)
  terms_words op (Then ts t) =
      both (written_terms op ts) (Mark (chain_mark op) ∷ written_term t) (have_words ts) (has_words_in t)
      (terms_words op ts) (term_words t)

  term_words : (t : Term) → are_in_words (written_term t) ≡ has_words_in t
  term_words (Number value) = and-true (is_word value)
  term_words (Byte byte) = and-true (is_byte byte)
  term_words (Truth holds) = truth_words holds
  term_words MostPos = refl
  term_words MostNeg = refl
  term_words (Named name) = refl
  term_words (Element name e) = ended (written e) mark.CloseBracket (has_words e) (expression_words e)
  term_words (Bracketed e) = ended (written e) mark.CloseParenthesis (has_words e) (expression_words e)
  term_words (Converted to t) = type_words to (written_term t) ∙ term_words t

-- ---- lines

in_brackets_words : (o : Option Expression) → are_in_words (in_brackets o) ≡ has_words_if_any o
in_brackets_words None = refl
in_brackets_words (Some e) = ended (written e) mark.CloseBracket (has_words e) (expression_words e)

place_words : (p : Place) → are_in_words (written_place p) ≡ place_has_words p
place_words p = in_brackets_words p.subscript

module _ {A : Type 0} (write : A → List Terminal) (test : A → Bool)
    (each : (x : A) → are_in_words (write x) ≡ test x) where
  after_commas_words : (xs : List A) → are_in_words (after_commas write xs) ≡ list_all test xs
  after_commas_words [] = refl
  after_commas_words (x ∷ xs) =
      both (write x) (after_commas write xs) (test x) (list_all test xs) (each x) (after_commas_words xs)

  separated_words : (xs : List A) → are_in_words (separated write xs) ≡ list_all test xs
  separated_words [] = refl
  separated_words (x ∷ xs) =
      both (write x) (after_commas write xs) (test x) (list_all test xs) (each x) (after_commas_words xs)

expressions_words : (es : List Expression) → are_in_words (separated written es) ≡ list_all has_words es
expressions_words es = separated_words written has_words expression_words es

all_true : {A : Type 0} (xs : List A) → list_all (λ x. true) xs ≡ true
all_true [] = refl
all_true (x ∷ xs) = all_true xs

abbrev named_value : List ℕ → Value → List Terminal
named_value name v = Name name ∷ Mark mark.Is ∷ (written_value v ++ Mark mark.Colon ∷ [])

-- what is after the size of a constant
abbrev behind_size : ValueType → List ℕ → Value → List Terminal
behind_size type name v = type_word type ∷ named_value name v

constant_words : (type : ValueType) (name : List ℕ) (v : Value)
    → are_in_words (in_brackets (size_of v) ++ behind_size type name v) ≡ value_has_words v
constant_words type name (Scalar e) =
    type_words type (named_value name (Scalar e)) ∙ ended (written e) mark.Colon (has_words e) (expression_words e)
constant_words type name (Table size items) =
    let all = list_all has_words (as_list items) in
    let listed = separated written (as_list items) in
    both (in_brackets (Some size)) (behind_size type name (Table size items)) (has_words size) all
    (in_brackets_words (Some size))
    (type_words type (named_value name (Table size items))
    ∙ ended (listed ++ Mark mark.CloseBracket ∷ []) mark.Colon all
    (ended listed mark.CloseBracket all (expressions_words (as_list items))))
constant_words type name (Bytes size bytes) =
    both (in_brackets (Some size)) (behind_size type name (Bytes size bytes)) (has_words size) (are_bytes bytes)
    (in_brackets_words (Some size))
    (type_words type (named_value name (Bytes size bytes)) ∙ and-true (are_bytes bytes))

channel_words_first : (is_channel : Bool) (ts : List Terminal)
    → are_in_words (channel_words is_channel ++ ts) ≡ are_in_words ts
channel_words_first false ts = refl
channel_words_first true ts = refl

names_words : (is_channel : Bool) (n : Names) → are_in_words (written_names is_channel n) ≡ names_have_words n
names_words is_channel n =
    let spelled = separated written_name (as_list n.names) in
    let typed = type_word n.value_type ∷ (spelled ++ Mark mark.Colon ∷ []) in
    let named = separated_words written_name (λ name. true) (λ name. refl) (as_list n.names)
    ∙ all_true (as_list n.names) in
    both (in_brackets n.size) (channel_words is_channel ++ typed) (has_words_if_any n.size) true
    (in_brackets_words n.size)
    (channel_words_first is_channel typed ∙ type_words n.value_type (spelled ++ Mark mark.Colon ∷ [])
    ∙ ended spelled mark.Colon true named)
    ∙ and-true (has_words_if_any n.size)

declaration_words : (d : Declaration) → are_in_words (written_declaration d) ≡ declaration_has_words d
declaration_words (Constants c) = constant_words c.value_type c.name c.value
declaration_words (Variables n) = names_words false n
declaration_words (Channels n) = names_words true n

action_words : (a : Action) → are_in_words (written_action a) ≡ action_has_words a
action_words Skip = refl
action_words Stop = refl
action_words (Assign target e) =
    both (written_place target) (Mark mark.Assign ∷ written e) _ _ (place_words target) (expression_words e)
action_words (Input channel target) =
    both (written_place channel) (Mark mark.Input ∷ written_place target) _ _ (place_words channel) (place_words target)
action_words (Output channel e) =
    both (written_place channel) (Mark mark.Output ∷ written e) _ _ (place_words channel) (expression_words e)
action_words (Instance name actuals) =
    ended (separated written actuals) mark.CloseParenthesis _ (expressions_words actuals)

block_words : (kind : BlockKind) (ts : List Terminal) → are_in_words (block_word kind ∷ ts) ≡ are_in_words ts
block_words block.Seq ts = refl
block_words block.Par ts = refl
block_words block.If ts = refl
block_words block.Alt ts = refl

replicator_words : (r : Replicator) → are_in_words (written_replicator (Some r)) ≡ replicator_has_words r
replicator_words r =
    both (written r.base) (Mark mark.For ∷ written r.count) _ _ (expression_words r.base) (expression_words r.count)

condition_words : (o : Option Expression) → are_in_words (written_condition o) ≡ has_words_if_any o
condition_words None = refl
condition_words (Some e) = ended (written e) mark.Guard (has_words e) (expression_words e)

guard_words : (g : Guard) → are_in_words (written_guard g) ≡ guard_has_words g
guard_words (Receives condition channel target) =
    both (written_condition condition) (written_place channel ++ Mark mark.Input ∷ written_place target) _ _
    (condition_words condition)
    (both (written_place channel) (Mark mark.Input ∷ written_place target) _ _ (place_words channel)
    (place_words target))
guard_words (Skips e) =
    both (written e) (Mark mark.Guard ∷ Mark mark.Skip ∷ []) (has_words e) true (expression_words e) refl
    ∙ and-true (has_words e)

value_word_first : (kind : FormalKind) (ts : List Terminal) → are_in_words (value_word kind ++ ts) ≡ are_in_words ts
value_word_first formal_kind.Value ts = refl
value_word_first formal_kind.Variable ts = refl
value_word_first formal_kind.Channel ts = refl

formal_words_first : (kind : FormalKind) (ts : List Terminal) → are_in_words (formal_words kind ++ ts) ≡ are_in_words ts
formal_words_first formal_kind.Value ts = refl
formal_words_first formal_kind.Variable ts = refl
formal_words_first formal_kind.Channel ts = refl

written_formal_words : (f : Formal) → are_in_words (written_formal f) ≡ formal_has_words f
written_formal_words f =
    let typed = type_word f.value_type ∷ Name f.name ∷ [] in
    value_word_first f.kind (in_brackets f.size ++ (formal_words f.kind ++ typed))
    ∙ both (in_brackets f.size) (formal_words f.kind ++ typed) (has_words_if_any f.size) true (in_brackets_words f.size)
    (formal_words_first f.kind typed ∙ type_words f.value_type (Name f.name ∷ []))
    ∙ and-true (has_words_if_any f.size)

-- ---- processes

abbrev row_in_words : Row → Bool
row_in_words row = are_in_words row.terminals

abbrev rows_in_words : List Row → Bool
rows_in_words rows = list_all row_in_words rows

rows_both : (front back : List Row) (p q : Bool) → rows_in_words front ≡ p → rows_in_words back ≡ q
    → rows_in_words (front ++ back) ≡ (p && q)
rows_both front back p q h k = list_all-append row_in_words front back ∙ joined h k

mutual
  process_words : (p : Process) (level : ℕ) → rows_in_words (lines_of p level) ≡ process_has_words p
  process_words (Declared d p) level = joined (declaration_words d) (process_words p level)
  process_words (Does line c) level = construct_words c line level

  construct_words : (c : Construct) (line level : ℕ)
      → rows_in_words (lines_of_construct c line level) ≡ construct_has_words c
  construct_words (Act a) line level = and-true (are_in_words (written_action a)) ∙ action_words a
  construct_words (Block kind cs) line level = joined (block_words kind []) (components_words cs (level + 1))
  construct_words (Replicated r b) line level = body_words b r line level

  body_words : (b : Body) (r : Replicator) (line level : ℕ)
      → rows_in_words (lines_of_body b r line level) ≡ (replicator_has_words r && body_has_words b)
  body_words (One kind c) r line level =
      joined (block_words kind (written_replicator (Some r)) ∙ replicator_words r) (component_words c (level + 1))

  components_words : {part : Part} (cs : Components part) (level : ℕ)
      → rows_in_words (lines_of_components cs level) ≡ components_have_words cs
  components_words NoComponent level = refl
  components_words (Further cs c) level =
      rows_both (lines_of_components cs level) (lines_of_component c level) _ _ (components_words cs level)
      (component_words c level)

  component_words : {part : Part} (c : Component part) (level : ℕ)
      → rows_in_words (lines_of_component c level) ≡ component_has_words c
  component_words (Plain p) level = process_words p level
  component_words (Chosen line e p) level = joined (expression_words e) (process_words p (level + 1))
  component_words (Guarded line g p) level = joined (guard_words g) (process_words p (level + 1))

-- ---- programs

formals_words : (formals : List Formal)
    → are_in_words (separated written_formal formals ++ Mark mark.CloseParenthesis ∷ [])
    ≡ list_all formal_has_words formals
formals_words formals =
    ended (separated written_formal formals) mark.CloseParenthesis _
    (separated_words written_formal formal_has_words written_formal_words formals)

program_words : (rows : List Row) (items : List ProgramItem) → IsProgram rows items
    → rows_in_words rows ≡ items_have_words items
program_words rows [] is = ap rows_in_words is
program_words rows (GlobalConstant c ∷ items) is =
    ap rows_in_words is.1 ∙ joined (constant_words c.value_type c.name c.value) (program_words is.0 items is.3)
program_words rows (GlobalProcedure p ∷ items) is =
    ap rows_in_words is.2
    ∙ joined (formals_words p.head.formals)
    (rows_both (lines_of p.body 1) (colon_row is.0 ∷ is.1) _ _ (process_words p.body 1)
    (program_words is.1 items is.5))
    ∙ and_assoc (list_all formal_has_words p.head.formals) (process_has_words p.body) (items_have_words items)

-- ---- what the layout gives

kind_words : (k : TokenKind) → is_in_words (terminal_of k) ≡ is_kind_in_words (kind_of k)
kind_words (token.Name spelling) = refl
kind_words (token.Integer value) = refl
kind_words (token.Character byte) = refl
kind_words (token.Text string) = refl
kind_words (token.Mark m) = refl

terminals_words : (ts : List Token) → are_in_words (terminals_of ts) ≡ true
terminals_words [] = refl
terminals_words (t ∷ ts) = and_from _ _ (kind_words t.kind ∙ t.words) (terminals_words ts)

lines_words : (lines : List line_type.Line) → rows_in_words (rows_of lines) ≡ true
lines_words [] = refl
lines_words (line ∷ lines) = and_from _ _ (terminals_words line.tokens.items) (lines_words lines)

pub program_has_words : (lines : List line_type.Line) (items : List ProgramItem) → IsProgram (rows_of lines) items
    → items_have_words items ≡ true
program_has_words lines items is = sym (program_words (rows_of lines) items is) ∙ lines_words lines
