-- What one line says is read again from how it is written.
use Rattle.std.proofs.Common.{◌≡◌, ℕ, Bool, true, false, cond, List, [], ◌∷◌, ◌++◌, Option, Some, None, refl, sym, ap}
use Rattle.std.proofs.Common.{append_assoc, append-nil, ◌∙◌}
use Rattle.std.specs.List.{AllByRecursion}
use Rattle.occam_layout.specs.declared.mark.Mark as mark_type
use Rattle.occam_layout.specs.declared.mark.Mark.TheVariants as mark
use Rattle.occam_parser.specs.declared.head.BlockKind.{BlockKind}
use Rattle.occam_parser.specs.declared.head.BlockKind.TheVariants as block
use Rattle.occam_parser.specs.declared.tree.FormalKind.{FormalKind}
use Rattle.occam_parser.specs.declared.tree.FormalKind.TheVariants as formal_kind
use Rattle.occam_parser.specs.declared.tree.ChainOperator.{ChainOperator}
use Rattle.occam_parser.specs.declared.front.Operator.{Operator}
use Rattle.occam_parser.specs.declared.front.Operator.TheVariants as operator
use Rattle.occam_parser.specs.declared.tree.ValueType.{ValueType}
use Rattle.occam_parser.specs.declared.tree.ValueType.TheVariants as value_type
use Rattle.occam_parser.specs.Terminals.{Terminal, Name, Mark}
use Rattle.occam_parser.specs.OneOrMore.{OneOrMore, as_list}
use Rattle.occam_parser.specs.Expressions.{Expression, Alone, Prefixed, Paired, Chained, Terms, Two, Then, Term}
use Rattle.occam_parser.specs.Expressions.{Number, Byte, Truth, MostPos, MostNeg, Named, Element, Bracketed, Converted}
use Rattle.occam_parser.specs.Expressions.{pair_mark, chain_mark, operator_mark, prefix_sign, type_word, written}
use Rattle.occam_parser.specs.Expressions.{written_terms, written_term}
use Rattle.occam_parser.specs.declared.tree.PrefixOperator.TheVariants as prefix
use Rattle.occam_parser.specs.Reading.{Reads, up_to, ◌>>=◌, behind, is_mark, operator_of, marked_by, operator_at}
use Rattle.occam_parser.specs.Reading.{expression_at}
use Rattle.occam_parser.specs.Reading.{list_of}
use Rattle.occam_parser.specs.Laws.{Ends}
use Rattle.occam_parser.specs.Lines.{Place, Replicator, Value, Scalar, Table, Bytes, Constant, Names, Declaration}
use Rattle.occam_parser.specs.Lines.{Constants, Variables, Channels, Action, Skip, Stop, Assign, Input, Output}
use Rattle.occam_parser.specs.Lines.{Instance, Guard, Receives, Skips, Formal, ProcHead, Head, Declares, Acts, Opens}
use Rattle.occam_parser.specs.Lines.{in_brackets, written_place, separated, after_commas, written_name, size_of}
use Rattle.occam_parser.specs.Lines.{written_value, written_constant, channel_words, written_names}
use Rattle.occam_parser.specs.Lines.{written_replicator, block_word, written_head, written_guard}
use Rattle.occam_parser.specs.Lines.{written_formal, written_proc_head, IsWhole, AreWhole}
use Rattle.occam_parser.specs.Lines.{IsWholeIfAny, FitsPlace, FitsValue, FitsConstant, FitsNames}
use Rattle.occam_parser.specs.Lines.{FitsReplicator, FitsHead, FitsGuard, FitsFormal}
use Rattle.occam_parser.specs.Lines.{FitsProcHead}
use Rattle.occam_parser.specs.LineReading.{only, name_at, bracketed_behind, bracketed_at}
use Rattle.occam_parser.specs.LineReading.{type_at, typed_name_at, shape_behind, shape_at, place_at, whole_at}
use Rattle.occam_parser.specs.LineReading.{whole_place, table_at}
use Rattle.occam_parser.specs.LineReading.{value_at, constant_at, declared_as, names_at, formal_named, formal_kind_of}
use Rattle.occam_parser.specs.LineReading.{formal_behind, formal_at, items_behind, in_parentheses, proc_head_at}
use Rattle.occam_parser.specs.LineReading.{placed_action, instance_or_other, action_at, counted_at}
use Rattle.occam_parser.specs.LineReading.{replicator_at, block_at, declaration_at, marked_head, head_at}
use Rattle.occam_parser.specs.LineReading.{is_guard_sign, has_condition, input_at, skips_or_receives, conditioned_at}
use Rattle.occam_parser.specs.LineReading.{guard_at}
use Rattle.occam_parser.proofs.Marks.{behind_again, behind_other, operator_of_mark}
use Rattle.occam_parser.proofs.Again.{up_to_again, begins_no_other, expression_again}
use Rattle.occam_parser.proofs.ListLaws.{Again, list_again}
use Rattle.occam_parser.proofs.LineSound.{formal_words_join}

-- ---- small parts

-- a mark that begins no subscript and is no operator ends an expression
pub record EndsBy (m : mark_type.Mark) : Type 0 where
  pub subscript : is_mark m mark.OpenBracket ≡ false
  pub operator : operator_of m ≡ None

abbrev pub ends_so : {m : mark_type.Mark} → is_mark m mark.OpenBracket ≡ false → operator_of m ≡ None → EndsBy m
ends_so s o = record { subscript = s; operator = o }

ends_by : (m : mark_type.Mark) → EndsBy m → (rest : List Terminal) → Ends (Mark m ∷ rest)
unfolding operator_at
ends_by m h rest = record {
  no_subscript = behind_other m mark.OpenBracket h.subscript rest;
  no_operator = ap (marked_by m rest) h.operator;
}

ends_nothing : Ends []
unfolding behind operator_at
ends_nothing = record { no_subscript = refl; no_operator = refl }

name_again : (name : List ℕ) (rest : List Terminal) → name_at (Name name ∷ rest) ≡ Some (name, rest)
unfolding name_at
name_again name rest = refl

expression_before : (e : Expression) (m : mark_type.Mark) (rest : List Terminal) → EndsBy m → IsWhole e
    → expression_at 64 (written e ++ Mark m ∷ rest) ≡ Some (e, Mark m ∷ rest)
expression_before e m rest h fits = expression_again e 64 (Mark m ∷ rest) fits (ends_by m h rest)

expression_last : (e : Expression) → IsWhole e → expression_at 64 (written e) ≡ Some (e, [])
expression_last e fits = ap (expression_at 64) (sym (append-nil (written e))) ∙ expression_again e 64 [] fits
    ends_nothing

pub bracketed_again : (o : Option Expression) (rest : List Terminal) → IsWholeIfAny o
    → behind mark.OpenBracket rest ≡ None → bracketed_at (in_brackets o ++ rest) ≡ Some (o, rest)
unfolding bracketed_at
bracketed_again None rest fits e = ap (bracketed_behind rest) e
bracketed_again (Some x) rest fits e =
    let ts = (written x ++ Mark mark.CloseBracket ∷ []) ++ rest in
    let read = ap (expression_at 64) (append_assoc (written x) (Mark mark.CloseBracket ∷ []) rest)
    ∙ expression_before x mark.CloseBracket rest (ends_so refl refl) fits in
    ap (bracketed_behind (Mark mark.OpenBracket ∷ ts)) (behind_again mark.OpenBracket ts)
    ∙ ap (λ (o : Option (Expression × List Terminal)). o >>= λ y. Some (Some y.0, y.1))
    (up_to_again mark.CloseBracket (expression_at 64 ts) x rest read)

no_bracket_type : (t : ValueType) (rest : List Terminal) → behind mark.OpenBracket (type_word t ∷ rest) ≡ None
unfolding behind
no_bracket_type value_type.Int rest = refl
no_bracket_type value_type.Byte rest = refl

no_bracket_shape : (channel : Bool) (t : ValueType) (rest : List Terminal)
    → behind mark.OpenBracket (channel_words channel ++ type_word t ∷ rest) ≡ None
unfolding behind
no_bracket_shape true t rest = refl
no_bracket_shape false value_type.Int rest = refl
no_bracket_shape false value_type.Byte rest = refl

type_again : (t : ValueType) (rest : List Terminal) → type_at (type_word t ∷ rest) ≡ Some (t, rest)
unfolding type_at behind
type_again value_type.Int rest = refl
type_again value_type.Byte rest = refl

no_channel : (t : ValueType) (rest : List Terminal) → behind mark.Chan (type_word t ∷ rest) ≡ None
unfolding behind
no_channel value_type.Int rest = refl
no_channel value_type.Byte rest = refl

shape_again : (channel : Bool) (t : ValueType) (rest : List Terminal)
    → shape_at (channel_words channel ++ type_word t ∷ rest) ≡ Some ((channel, t), rest)
unfolding shape_at
shape_again true t rest =
    ap (shape_behind (Mark mark.Chan ∷ Mark mark.Of ∷ type_word t ∷ rest))
    (behind_again mark.Chan (Mark mark.Of ∷ type_word t ∷ rest))
    ∙ ap (λ (o : Option (List Terminal)). o >>= λ us. type_at us >>= λ x. Some ((true, x.0), x.1))
    (behind_again mark.Of (type_word t ∷ rest))
    ∙ ap (λ (o : Option (ValueType × List Terminal)). o >>= λ x. Some ((true, x.0), x.1)) (type_again t rest)
shape_again false t rest =
    ap (shape_behind (type_word t ∷ rest)) (no_channel t rest) ∙ ap
    (λ (o : Option (ValueType × List Terminal)). o >>= λ x. Some ((false, x.0), x.1)) (type_again t rest)

place_again : (p : Place) (rest : List Terminal) → FitsPlace p → behind mark.OpenBracket rest ≡ None
    → place_at p.name (in_brackets p.subscript ++ rest) ≡ Some (p, rest)
unfolding place_at
place_again p rest fits e = ap (λ (o : Option (Option Expression × List Terminal)). o >>= λ x. Some
    (record { name = p.name; subscript = x.0 }, x.1)) (bracketed_again p.subscript rest fits e)

whole_again : (e : Expression) → IsWhole e → whole_at (written e) ≡ Some e
unfolding whole_at
whole_again e fits = ap (λ (o : Option (Expression × List Terminal)). o >>= λ x. only x.0 x.1) (expression_last e fits)

no_bracket_nothing : behind mark.OpenBracket [] ≡ None
unfolding behind
no_bracket_nothing = refl

whole_place_again : (p : Place) → FitsPlace p → whole_place (written_place p) ≡ Some p
unfolding whole_place
whole_place_again p fits =
    ap (λ (o : Option (List ℕ × List Terminal)). o >>= λ name. place_at name.0 name.1 >>= λ x. only x.0 x.1)
    (name_again p.name (in_brackets p.subscript))
    ∙ ap (λ (o : Option (Place × List Terminal)). o >>= λ x. only x.0 x.1)
    (ap (place_at p.name) (sym (append-nil (in_brackets p.subscript))) ∙ place_again p [] fits no_bracket_nothing)

expressions_again : (xs : OneOrMore Expression) (m : mark_type.Mark) (rest : List Terminal) → AreWhole (as_list xs)
    → is_mark m mark.Comma ≡ false → EndsBy m
    → list_of (expression_at 64) (separated written (as_list xs) ++ Mark m ∷ rest) ≡ Some (xs, Mark m ∷ rest)
expressions_again xs m rest all other h =
    list_again written IsWhole Ends (expression_at 64) (λ x us fits ends. expression_again x 64 us fits ends)
    (ends_by mark.Comma (ends_so refl refl)) xs (Mark m ∷ rest) all (behind_other m mark.Comma other rest)
    (ends_by m h rest)

-- items up to the parenthesis that ends the line, where none begins with it
parentheses_again : {A : Type 0} (write : A → List Terminal) (fits : A → Type 0) (ends : List Terminal → Type 0)
    (item : Reads A) → Again write fits ends item → ((us : List Terminal) → ends (Mark mark.Comma ∷ us))
    → ends (Mark mark.CloseParenthesis ∷ [])
    → ((x : A) (us : List Terminal) → behind mark.CloseParenthesis (write x ++ us) ≡ None)
    → (xs : List A) → AllByRecursion fits xs
    → in_parentheses item (separated write xs ++ Mark mark.CloseParenthesis ∷ []) ≡ Some xs
unfolding in_parentheses
parentheses_again write fits ends item again comma close no_close [] all =
    ap (items_behind item (Mark mark.CloseParenthesis ∷ [])) (behind_again mark.CloseParenthesis [])
parentheses_again {A} write fits ends item again comma close no_close (x ∷ xs) all =
    let last = Mark mark.CloseParenthesis ∷ [] in
    let none = ap (behind mark.CloseParenthesis) (append_assoc (write x) (after_commas write xs) last)
    ∙ no_close x (after_commas write xs ++ last) in
    let read = list_again write fits ends item again comma (record { first = x; others = xs }) last all
    (behind_other mark.CloseParenthesis mark.Comma refl []) close in
    ap (items_behind item (separated write (x ∷ xs) ++ last)) none
    ∙ ap (λ (o : Option (OneOrMore A × List Terminal)). o >>= λ y. behind mark.CloseParenthesis y.1 >>= λ rest. only
    (as_list y.0) rest) read
    ∙ ap (λ (o : Option (List Terminal)). o >>= λ rest. only (x ∷ xs) rest) (behind_again mark.CloseParenthesis [])

-- ---- constants and declarations

value_again : (v : Value) (rest : List Terminal) → FitsValue v
    → value_at (size_of v) (written_value v ++ Mark mark.Colon ∷ rest) ≡ Some (v, Mark mark.Colon ∷ rest)
unfolding value_at table_at
value_again (Scalar e) rest fits = ap (λ (o : Option (Expression × List Terminal)). o >>= λ x. Some
    (Scalar x.0, x.1)) (expression_before e mark.Colon rest (ends_so refl refl) fits)
value_again (Table size items) rest fits =
    let more = Mark mark.Colon ∷ rest in
    let ts = (separated written (as_list items) ++ Mark mark.CloseBracket ∷ []) ++ more in
    let read = ap (list_of (expression_at 64))
    (append_assoc (separated written (as_list items)) (Mark mark.CloseBracket ∷ []) more) ∙ expressions_again items
    mark.CloseBracket more fits.1 refl (ends_so refl refl) in
    ap (λ (o : Option (OneOrMore Expression × List Terminal)). o >>= λ x. Some (Table size x.0, x.1))
    (up_to_again mark.CloseBracket (list_of (expression_at 64) ts) items more read)
value_again (Bytes size bytes) rest fits = refl

size_fits : (v : Value) → FitsValue v → IsWholeIfAny (size_of v)
size_fits (Scalar e) fits = tt
size_fits (Table size items) fits = fits.0
size_fits (Bytes size bytes) fits = fits

typed_name_again : (t : ValueType) (name : List ℕ) (rest : List Terminal)
    → typed_name_at (type_word t ∷ Name name ∷ rest) ≡ Some ((t, name), rest)
unfolding typed_name_at
typed_name_again t name rest =
    ap (λ (o : Option (ValueType × List Terminal)). o >>= λ type. name_at type.1 >>= λ n. Some
    ((type.0, n.0), n.1)) (type_again t (Name name ∷ rest))
    ∙ ap (λ (o : Option (List ℕ × List Terminal)). o >>= λ n. Some ((t, n.0), n.1)) (name_again name rest)

pub constant_again : (line : ℕ) (c : Constant) → FitsConstant line c → constant_at line (written_constant c) ≡ Some c
unfolding constant_at
constant_again line c fits =
    let t3 = written_value c.value ++ Mark mark.Colon ∷ [] in
    let t2 = Name c.name ∷ Mark mark.Is ∷ t3 in
    let t1 = type_word c.value_type ∷ t2 in
    let last : ValueType → List ℕ → Option (Value × List Terminal) → Option Constant =
    λ type name o. o >>= λ value. only
    (record { line = line; value_type = type; name = name; value = value.0 }) value.1 in
    let named : Option Expression → Option ((ValueType × List ℕ) × List Terminal) → Option Constant =
    λ size o. o >>= λ x. last x.0.0 x.0.1 (up_to mark.Colon (value_at size x.1)) in
    ap (λ (o : Option (Option Expression × List Terminal)). o >>= λ size. named size.0
    (up_to mark.Is (typed_name_at size.1)))
    (bracketed_again (size_of c.value) t1 (size_fits c.value fits.1) (no_bracket_type c.value_type t2))
    ∙ ap (named (size_of c.value)) (up_to_again mark.Is (typed_name_at t1) (c.value_type, c.name) t3
    (typed_name_again c.value_type c.name (Mark mark.Is ∷ t3)))
    ∙ ap (last c.value_type c.name) (up_to_again mark.Colon (value_at (size_of c.value) t3) c.value []
    (value_again c.value [] fits.1))
    ∙ ap (λ n. Some (record { line = n; value_type = c.value_type; name = c.name; value = c.value })) (sym fits.0)

all_names : (names : List (List ℕ)) → AllByRecursion (λ (name : List ℕ). Unit {0}) names
all_names [] = tt
all_names (n ∷ names) = (tt, all_names names)

list_of_names_again : (names : OneOrMore (List ℕ)) (rest : List Terminal)
    → list_of name_at (separated written_name (as_list names) ++ Mark mark.Colon ∷ rest)
    ≡ Some (names, Mark mark.Colon ∷ rest)
list_of_names_again names rest =
    list_again written_name (λ (name : List ℕ). Unit {0}) (λ (us : List Terminal). Unit {0}) name_at
    (λ name us fits ends. name_again name us) (λ us. tt) names (Mark mark.Colon ∷ rest) (all_names (as_list names))
    (behind_other mark.Colon mark.Comma refl rest) tt

pub names_again : (line : ℕ) (channel : Bool) (n : Names) → FitsNames line n
    → names_at line (written_names channel n) ≡ Some (declared_as channel n)
unfolding names_at
names_again line channel n fits =
    let t2 = separated written_name (as_list n.names) ++ Mark mark.Colon ∷ [] in
    let t1 = channel_words channel ++ type_word n.value_type ∷ t2 in
    let made = λ (size : Option Expression) (shape : Bool × ValueType) (names : OneOrMore (List ℕ))
    (us : List Terminal).
    behind mark.Colon us >>= λ rest. only
    (declared_as shape.0 (record { line = line; size = size; value_type = shape.1; names = names })) rest in
    let f2 = λ (o : Option (OneOrMore (List ℕ) × List Terminal)). o >>= λ names. made n.size (channel, n.value_type)
    names.0 names.1 in
    let f1 = λ (o : Option ((Bool × ValueType) × List Terminal)). o >>= λ shape. list_of name_at shape.1 >>= λ names.
    made n.size shape.0 names.0 names.1 in
    let f0 = λ (o : Option (Option Expression × List Terminal)). o >>= λ size. shape_at size.1 >>= λ shape. list_of
    name_at shape.1 >>= λ names. made size.0 shape.0 names.0 names.1 in
    ap f0 (bracketed_again n.size t1 fits.1 (no_bracket_shape channel n.value_type t2))
    ∙ ap f1 (shape_again channel n.value_type t2)
    ∙ ap f2 (list_of_names_again n.names [])
    ∙ ap (λ (o : Option (List Terminal)). o >>= λ rest. only
    (declared_as channel (record { line = line; size = n.size; value_type = n.value_type; names = n.names }))
    rest) (behind_again mark.Colon [])
    ∙ ap (λ m. Some (declared_as channel (record
    { line = m; size = n.size; value_type = n.value_type; names = n.names }))) (sym fits.0)

-- ---- procedures

no_val_bracketed : (o : Option Expression) (channel : Bool) (t : ValueType) (rest : List Terminal)
    → behind mark.Val (in_brackets o ++ (channel_words channel ++ type_word t ∷ rest)) ≡ None
unfolding behind
no_val_bracketed (Some e) channel t rest = refl
no_val_bracketed None true t rest = refl
no_val_bracketed None false value_type.Int rest = refl
no_val_bracketed None false value_type.Byte rest = refl

formal_named_again : (kind : FormalKind) (size : Option Expression) (t : ValueType) (name : List ℕ)
    (rest : List Terminal) → formal_named kind size t (Name name ∷ rest) ≡ Some
    (record { kind = kind; size = size; value_type = t; name = name }, rest)
unfolding formal_named
formal_named_again kind size t name rest = ap
    (λ (o : Option (List ℕ × List Terminal)). o >>= λ n. Some
    (record { kind = kind; size = size; value_type = t; name = n.0 }, n.1)) (name_again name rest)

variable_again : (channel : Bool) (size : Option Expression) (t : ValueType) (name : List ℕ) (rest : List Terminal)
    → IsWholeIfAny size
    → formal_at ((in_brackets size ++ (channel_words channel ++ type_word t ∷ Name name ∷ [])) ++ rest) ≡ Some
    (record { kind = formal_kind_of channel; size = size; value_type = t; name = name }, rest)
unfolding formal_at
variable_again channel size t name rest fits =
    let t1 = Name name ∷ rest in
    let ts = in_brackets size ++ (channel_words channel ++ type_word t ∷ t1) in
    let f0 = λ (o : Option (Option Expression × List Terminal)). o >>= λ size. shape_at size.1 >>= λ shape.
    formal_named (formal_kind_of shape.0.0) size.0 shape.0.1 shape.1 in
    ap (λ us. formal_behind us (behind mark.Val us))
    (sym (formal_words_join (in_brackets size) (channel_words channel) (type_word t) (Name name) rest))
    ∙ ap (formal_behind ts) (no_val_bracketed size channel t t1)
    ∙ ap f0 (bracketed_again size (channel_words channel ++ type_word t ∷ t1) fits (no_bracket_shape channel t t1))
    ∙ ap (λ (o : Option ((Bool × ValueType) × List Terminal)). o >>= λ shape. formal_named (formal_kind_of shape.0.0)
    size shape.0.1 shape.1) (shape_again channel t t1)
    ∙ formal_named_again (formal_kind_of channel) size t name rest

value_formal_again : (size : Option Expression) (t : ValueType) (name : List ℕ) (rest : List Terminal)
    → IsWholeIfAny size
    → formal_at (Mark mark.Val ∷ ((in_brackets size ++ type_word t ∷ Name name ∷ []) ++ rest)) ≡ Some
    (record { kind = formal_kind.Value; size = size; value_type = t; name = name }, rest)
unfolding formal_at
value_formal_again size t name rest fits =
    let t1 = Name name ∷ rest in
    let us = (in_brackets size ++ type_word t ∷ Name name ∷ []) ++ rest in
    let f0 = λ (o : Option (Option Expression × List Terminal)). o >>= λ size. type_at size.1 >>= λ type.
    formal_named formal_kind.Value size.0 type.0 type.1 in
    ap (formal_behind (Mark mark.Val ∷ us)) (behind_again mark.Val us)
    ∙ ap (λ vs. f0 (bracketed_at vs)) (sym (formal_words_join (in_brackets size) [] (type_word t) (Name name) rest))
    ∙ ap f0 (bracketed_again size (type_word t ∷ t1) fits (no_bracket_type t t1))
    ∙ ap (λ (o : Option (ValueType × List Terminal)). o >>= λ type. formal_named formal_kind.Value size type.0
    type.1) (type_again t t1)
    ∙ formal_named_again formal_kind.Value size t name rest

formal_of_kind_again : (kind : FormalKind) (size : Option Expression) (t : ValueType) (name : List ℕ)
    (rest : List Terminal) → IsWholeIfAny size
    → formal_at (written_formal (record { kind = kind; size = size; value_type = t; name = name }) ++ rest) ≡ Some
    (record { kind = kind; size = size; value_type = t; name = name }, rest)
formal_of_kind_again formal_kind.Value size t name rest fits = value_formal_again size t name rest fits
formal_of_kind_again formal_kind.Variable size t name rest fits = variable_again false size t name rest fits
formal_of_kind_again formal_kind.Channel size t name rest fits = variable_again true size t name rest fits

formal_again : Again written_formal FitsFormal (λ (us : List Terminal). Unit {0}) formal_at
formal_again f rest fits ends = formal_of_kind_again f.kind f.size f.value_type f.name rest fits

no_close_formal : (kind : FormalKind) (size : Option Expression) (t : ValueType) (name : List ℕ)
    (rest : List Terminal) → behind mark.CloseParenthesis
    (written_formal (record { kind = kind; size = size; value_type = t; name = name }) ++ rest) ≡ None
unfolding behind
no_close_formal formal_kind.Value size t name rest = refl
no_close_formal formal_kind.Variable (Some e) t name rest = refl
no_close_formal formal_kind.Variable None value_type.Int name rest = refl
no_close_formal formal_kind.Variable None value_type.Byte name rest = refl
no_close_formal formal_kind.Channel (Some e) t name rest = refl
no_close_formal formal_kind.Channel None t name rest = refl

formals_again : (fs : List Formal) → AllByRecursion FitsFormal fs
    → in_parentheses formal_at (separated written_formal fs ++ Mark mark.CloseParenthesis ∷ []) ≡ Some fs
formals_again fs all =
    parentheses_again written_formal FitsFormal (λ (us : List Terminal). Unit {0}) formal_at formal_again (λ us. tt) tt
    (λ f us. no_close_formal f.kind f.size f.value_type f.name us) fs all

pub proc_head_again : (h : ProcHead) → FitsProcHead h → proc_head_at (written_proc_head h) ≡ Some h
unfolding proc_head_at
proc_head_again h fits =
    let ts = separated written_formal h.formals ++ Mark mark.CloseParenthesis ∷ [] in
    let f1 = λ (o : Option (List Terminal)). o >>= λ opened. in_parentheses formal_at opened >>= λ formals. Some
    (record { name = h.name; formals = formals }) in
    let f0 = λ (o : Option (List ℕ × List Terminal)). o >>= λ name. behind mark.OpenParenthesis name.1 >>= λ opened.
    in_parentheses formal_at opened >>= λ formals. Some (record { name = name.0; formals = formals }) in
    ap f0 (name_again h.name (Mark mark.OpenParenthesis ∷ ts))
    ∙ ap f1 (behind_again mark.OpenParenthesis ts)
    ∙ ap (λ (o : Option (List Formal)). o >>= λ formals. Some (record { name = h.name; formals = formals }))
    (formals_again h.formals fits)

-- ---- actions

no_close_term : (t : Term) (rest : List Terminal) → behind mark.CloseParenthesis (written_term t ++ rest) ≡ None
no_close_term t rest = (begins_no_other t rest).1

no_close_terms : (terms : Terms) (op : ChainOperator) (rest : List Terminal)
    → behind mark.CloseParenthesis (written_terms op terms ++ rest) ≡ None
no_close_terms (Two a b) op rest = ap (behind mark.CloseParenthesis)
    (append_assoc (written_term a) (Mark (chain_mark op) ∷ written_term b) rest) ∙ no_close_term a
    (Mark (chain_mark op) ∷ (written_term b ++ rest))
no_close_terms (Then ts t) op rest = ap (behind mark.CloseParenthesis)
    (append_assoc (written_terms op ts) (Mark (chain_mark op) ∷ written_term t) rest) ∙ no_close_terms ts op
    (Mark (chain_mark op) ∷ (written_term t ++ rest))

no_close_prefix : (op : _) (rest : List Terminal) → behind mark.CloseParenthesis (prefix_sign op ∷ rest) ≡ None
unfolding behind
no_close_prefix prefix.Negate rest = refl
no_close_prefix prefix.BitNot rest = refl
no_close_prefix prefix.Not rest = refl

no_close : (e : Expression) (rest : List Terminal) → behind mark.CloseParenthesis (written e ++ rest) ≡ None
no_close (Alone t) rest = no_close_term t rest
no_close (Prefixed op t) rest = no_close_prefix op (written_term t ++ rest)
no_close (Paired op a b) rest = ap (behind mark.CloseParenthesis)
    (append_assoc (written_term a) (Mark (pair_mark op) ∷ written_term b) rest) ∙ no_close_term a
    (Mark (pair_mark op) ∷ (written_term b ++ rest))
no_close (Chained op terms) rest = no_close_terms terms op rest

actuals_again : (xs : List Expression) → AreWhole xs
    → in_parentheses (expression_at 64) (separated written xs ++ Mark mark.CloseParenthesis ∷ []) ≡ Some xs
actuals_again xs all =
    parentheses_again written IsWhole Ends (expression_at 64) (λ x us fits ends. expression_again x 64 us fits ends)
    (ends_by mark.Comma (ends_so refl refl)) (ends_by mark.CloseParenthesis (ends_so refl refl) []) no_close xs all

no_open : (o : Option Expression) (m : mark_type.Mark) (rest : List Terminal)
    → behind mark.OpenParenthesis (Mark m ∷ rest) ≡ None
    → behind mark.OpenParenthesis (in_brackets o ++ Mark m ∷ rest) ≡ None
unfolding behind
no_open None m rest e = e
no_open (Some x) m rest e = refl

-- a line that begins with a place
placed_again : (p : Place) (m : mark_type.Mark) (rest : List Terminal) → FitsPlace p → EndsBy m
    → is_mark m mark.OpenParenthesis ≡ false
    → action_at p.name (in_brackets p.subscript ++ Mark m ∷ rest) ≡ placed_action p (Mark m ∷ rest)
unfolding action_at
placed_again p m rest fits h other =
    let ts = in_brackets p.subscript ++ Mark m ∷ rest in
    ap (instance_or_other p.name ts) (no_open p.subscript m rest (behind_other m mark.OpenParenthesis other rest))
    ∙ ap (λ (o : Option (Place × List Terminal)). o >>= λ place. placed_action place.0 place.1)
    (place_again p (Mark m ∷ rest) fits (behind_other m mark.OpenBracket h.subscript rest))

assign_again : (p : Place) (e : Expression) → FitsPlace p → IsWhole e
    → action_at p.name (in_brackets p.subscript ++ Mark mark.Assign ∷ written e) ≡ Some (Assign p e)
assign_again p e f w =
    placed_again p mark.Assign (written e) f (ends_so refl refl) refl
    ∙ ap (λ (o : Option Expression). o >>= λ value. Some (Assign p value)) (whole_again e w)

output_again : (p : Place) (e : Expression) → FitsPlace p → IsWhole e
    → action_at p.name (in_brackets p.subscript ++ Mark mark.Output ∷ written e) ≡ Some (Output p e)
output_again p e f w =
    placed_again p mark.Output (written e) f (ends_so refl refl) refl
    ∙ ap (λ (o : Option Expression). o >>= λ value. Some (Output p value)) (whole_again e w)

received_again : (p q : Place) → FitsPlace p → FitsPlace q
    → action_at p.name (in_brackets p.subscript ++ Mark mark.Input ∷ written_place q) ≡ Some (Input p q)
received_again p q f w =
    placed_again p mark.Input (written_place q) f (ends_so refl refl) refl
    ∙ ap (λ (o : Option Place). o >>= λ target. Some (Input p target)) (whole_place_again q w)

instance_again : (name : List ℕ) (xs : List Expression) → AreWhole xs
    → action_at name (Mark mark.OpenParenthesis ∷ (separated written xs ++ Mark mark.CloseParenthesis ∷ [])) ≡ Some
    (Instance name xs)
unfolding action_at
instance_again name xs all =
    let ts = separated written xs ++ Mark mark.CloseParenthesis ∷ [] in
    ap (instance_or_other name (Mark mark.OpenParenthesis ∷ ts)) (behind_again mark.OpenParenthesis ts) ∙ ap
    (λ (o : Option (List Expression)). o >>= λ actuals. Some (Instance name actuals)) (actuals_again xs all)

-- ---- heads

counted_again : (r : Replicator) → FitsReplicator (Some r)
    → counted_at r.name (written r.base ++ Mark mark.For ∷ written r.count) ≡ Some r
unfolding counted_at
counted_again r fits =
    let made : Expression → Option Expression → Option Replicator =
    λ base o. o >>= λ count. Some (record { name = r.name; base = base; count = count })
    in
    let f1 : Option (List Terminal) → Option Replicator = λ o. o >>= λ rest. made r.base (whole_at rest) in
    let f0 : Option (Expression × List Terminal) → Option Replicator =
    λ o. o >>= λ base. behind mark.For base.1 >>= λ rest. made base.0 (whole_at rest)
    in
    ap f0 (expression_before r.base mark.For (written r.count) (ends_so refl refl) fits.0)
    ∙ ap f1 (behind_again mark.For (written r.count))
    ∙ ap (made r.base) (whole_again r.count fits.1)

replicator_again : (r : Option Replicator) → FitsReplicator r → replicator_at (written_replicator r) ≡ Some r
unfolding replicator_at
replicator_again None fits = refl
replicator_again (Some r) fits =
    let t1 = written r.base ++ Mark mark.For ∷ written r.count in
    let last : Option Replicator → Option (Option Replicator) = λ o. o >>= λ q. Some (Some q) in
    let f1 : List ℕ → Option (List Terminal) → Option (Option Replicator) =
    λ name o. o >>= λ equal. last (counted_at name equal) in
    ap (λ (o : Option (List ℕ × List Terminal)). o >>= λ name. f1 name.0 (behind mark.Equal name.1))
    (name_again r.name (Mark mark.Equal ∷ t1))
    ∙ ap (f1 r.name) (behind_again mark.Equal t1)
    ∙ ap last (counted_again r fits)

block_again : (line : ℕ) (kind : BlockKind) (ts : List Terminal)
    → head_at line (block_word kind ∷ ts) ≡ block_at kind ts
unfolding head_at marked_head
block_again line block.Seq ts = refl
block_again line block.Par ts = refl
block_again line block.If ts = refl
block_again line block.Alt ts = refl

opens_again : (kind : BlockKind) (r : Option Replicator) → FitsReplicator r
    → block_at kind (written_replicator r) ≡ Some (Opens kind r)
unfolding block_at
opens_again kind r fits = ap (λ (o : Option (Option Replicator)). o >>= λ replicator. Some (Opens kind replicator))
    (replicator_again r fits)

declares_names : (line : ℕ) (size : Option Expression) (channel : Bool) (t : ValueType) (rest : List Terminal)
    → let ts = in_brackets size ++ (channel_words channel ++ type_word t ∷ rest) in head_at line ts ≡ declaration_at
    line ts
unfolding head_at marked_head
declares_names line (Some e) channel t rest = refl
declares_names line None true t rest = refl
declares_names line None false value_type.Int rest = refl
declares_names line None false value_type.Byte rest = refl

names_head_again : (line : ℕ) (channel : Bool) (n : Names) → FitsNames line n
    → head_at line (written_names channel n) ≡ Some (Declares (declared_as channel n))
unfolding declaration_at
names_head_again line channel n fits =
    declares_names line n.size channel n.value_type (separated written_name (as_list n.names) ++ Mark mark.Colon ∷ [])
    ∙ ap
    (λ (o : Option Declaration). o >>= λ names. Some (Declares names)) (names_again line channel n fits)

constant_head_again : (line : ℕ) (c : Constant) → FitsConstant line c
    → head_at line (Mark mark.Val ∷ written_constant c) ≡ Some (Declares (Constants c))
unfolding head_at marked_head
constant_head_again line c fits = ap (λ (o : Option Constant). o >>= λ constant. Some
    (Declares (Constants constant))) (constant_again line c fits)

acts_named : (line : ℕ) (name : List ℕ) (ts : List Terminal) (a : Action) → action_at name ts ≡ Some a
    → head_at line (Name name ∷ ts) ≡ Some (Acts a)
unfolding head_at
acts_named line name ts a e = ap (λ (o : Option Action). o >>= λ action. Some (Acts action)) e

skip_again : (line : ℕ) → head_at line (Mark mark.Skip ∷ []) ≡ Some (Acts Skip)
unfolding head_at marked_head
skip_again line = refl

stop_again : (line : ℕ) → head_at line (Mark mark.Stop ∷ []) ≡ Some (Acts Stop)
unfolding head_at marked_head
stop_again line = refl

pub head_again : (line : ℕ) (h : Head) → FitsHead line h → head_at line (written_head h) ≡ Some h
head_again line (Declares (Constants c)) fits = constant_head_again line c fits
head_again line (Declares (Variables n)) fits = names_head_again line false n fits
head_again line (Declares (Channels n)) fits = names_head_again line true n fits
head_again line (Acts Skip) fits = skip_again line
head_again line (Acts Stop) fits = stop_again line
head_again line (Acts (Assign p e)) fits = acts_named line p.name
    (in_brackets p.subscript ++ Mark mark.Assign ∷ written e) (Assign p e) (assign_again p e fits.0 fits.1)
head_again line (Acts (Input p q)) fits = acts_named line p.name
    (in_brackets p.subscript ++ Mark mark.Input ∷ written_place q) (Input p q) (received_again p q fits.0 fits.1)
head_again line (Acts (Output p e)) fits = acts_named line p.name
    (in_brackets p.subscript ++ Mark mark.Output ∷ written e) (Output p e) (output_again p e fits.0 fits.1)
head_again line (Acts (Instance name xs)) fits =
    acts_named line name (Mark mark.OpenParenthesis ∷ (separated written xs ++ Mark mark.CloseParenthesis ∷ []))
    (Instance name xs) (instance_again name xs fits)
head_again line (Opens kind r) fits = block_again line kind (written_replicator r) ∙ opens_again kind r fits

pub whole_line_again : (e : Expression) → IsWhole e → whole_at (written e) ≡ Some e
whole_line_again e fits = whole_again e fits

-- ---- guards

guard_is_mark : (m : mark_type.Mark) → is_guard_sign (Mark m) ≡ true → m ≡ mark.Guard
guard_is_mark mark.Guard e = refl
guard_is_mark m e = absurd (cc)

no_guard_mark : (op : Operator) (b : Bool) → is_guard_sign (Mark (operator_mark op)) ≡ b → b ≡ false
no_guard_mark op false e = refl
no_guard_mark op true e =
    absurd (cc (ap operator_of (guard_is_mark (operator_mark op) e), operator_of_mark op))

no_guard_operator : (op : Operator) (rest : List Terminal)
    → has_condition (Mark (operator_mark op) ∷ rest) ≡ has_condition rest
no_guard_operator op rest = ap (λ b. cond b true (has_condition rest))
    (no_guard_mark op (is_guard_sign (Mark (operator_mark op))) refl)

-- an expression holds no guard's sign
mutual
  no_guard : (e : Expression) (rest : List Terminal) → has_condition (written e ++ rest) ≡ has_condition rest
  no_guard (Alone t) rest = no_guard_term t rest
  no_guard (Prefixed prefix.Negate t) rest = no_guard_term t rest
  no_guard (Prefixed prefix.BitNot t) rest = no_guard_term t rest
  no_guard (Prefixed prefix.Not t) rest = no_guard_term t rest
  no_guard (Paired op a b) rest =
      ap has_condition (append_assoc (written_term a) (Mark (pair_mark op) ∷ written_term b) rest) ∙ no_guard_term a
      (Mark (pair_mark op) ∷ (written_term b ++ rest)) ∙ no_guard_operator (operator.Pair op) (written_term b ++ rest)
      ∙ no_guard_term b rest
  no_guard (Chained op ts) rest = no_guard_terms ts op rest

  no_guard_terms : (ts : Terms) (op : ChainOperator) (rest : List Terminal)
      → has_condition (written_terms op ts ++ rest) ≡ has_condition rest
  no_guard_terms (Two a b) op rest =
      ap has_condition (append_assoc (written_term a) (Mark (chain_mark op) ∷ written_term b) rest) ∙ no_guard_term a
      (Mark (chain_mark op) ∷ (written_term b ++ rest)) ∙ no_guard_operator (operator.Chain op)
      (written_term b ++ rest) ∙ no_guard_term b rest
  no_guard_terms (Then ts t) op rest =
      ap has_condition (append_assoc (written_terms op ts) (Mark (chain_mark op) ∷ written_term t) rest)
      ∙ no_guard_terms ts op
      (Mark (chain_mark op) ∷ (written_term t ++ rest)) ∙ no_guard_operator (operator.Chain op)
      (written_term t ++ rest) ∙ no_guard_term t rest

  no_guard_term : (t : Term) (rest : List Terminal) → has_condition (written_term t ++ rest) ≡ has_condition rest
  no_guard_term (Number value) rest = refl
  no_guard_term (Byte byte) rest = refl
  no_guard_term (Truth true) rest = refl
  no_guard_term (Truth false) rest = refl
  no_guard_term MostPos rest = refl
  no_guard_term MostNeg rest = refl
  no_guard_term (Named name) rest = refl
  no_guard_term (Element name e) rest = ap has_condition
      (append_assoc (written e) (Mark mark.CloseBracket ∷ []) rest) ∙ no_guard e (Mark mark.CloseBracket ∷ rest)
  no_guard_term (Bracketed e) rest = ap has_condition
      (append_assoc (written e) (Mark mark.CloseParenthesis ∷ []) rest) ∙ no_guard e
      (Mark mark.CloseParenthesis ∷ rest)
  no_guard_term (Converted value_type.Int t) rest = no_guard_term t rest
  no_guard_term (Converted value_type.Byte t) rest = no_guard_term t rest

no_guard_brackets : (o : Option Expression) (rest : List Terminal)
    → has_condition (in_brackets o ++ rest) ≡ has_condition rest
no_guard_brackets None rest = refl
no_guard_brackets (Some e) rest = ap has_condition
    (append_assoc (written e) (Mark mark.CloseBracket ∷ []) rest) ∙ no_guard e (Mark mark.CloseBracket ∷ rest)

no_guard_input : (p q : Place) → has_condition (written_place p ++ Mark mark.Input ∷ written_place q) ≡ false
no_guard_input p q =
    no_guard_brackets p.subscript (Mark mark.Input ∷ written_place q)
    ∙ (ap has_condition (sym (append-nil (in_brackets q.subscript))) ∙ no_guard_brackets q.subscript [])

input_again : (p q : Place) → FitsPlace p → FitsPlace q
    → input_at (written_place p ++ Mark mark.Input ∷ written_place q) ≡ Some (p, q)
unfolding input_at
input_again p q f w =
    let t1 = Mark mark.Input ∷ written_place q in
    ap (λ (o : Option (List ℕ × List Terminal)). o >>= λ name. place_at name.0 name.1 >>= λ channel. behind
    mark.Input channel.1 >>= λ rest. whole_place rest >>= λ target. Some (channel.0, target))
    (name_again p.name (in_brackets p.subscript ++ t1))
    ∙ ap (λ (o : Option (Place × List Terminal)). o >>= λ channel. behind mark.Input channel.1 >>= λ rest.
    whole_place rest >>= λ target. Some (channel.0, target))
    (place_again p t1 f (behind_other mark.Input mark.OpenBracket refl (written_place q)))
    ∙ ap (λ (o : Option (List Terminal)). o >>= λ rest. whole_place rest >>= λ target. Some (p, target))
    (behind_again mark.Input (written_place q))
    ∙ ap (λ (o : Option Place). o >>= λ target. Some (p, target)) (whole_place_again q w)

skip_name : (name : List ℕ) (rest : List Terminal) → behind mark.Skip (Name name ∷ rest) ≡ None
unfolding behind
skip_name name rest = refl

guard_is : (ts : List Terminal) (b : Bool) → has_condition ts ≡ b
    → guard_at ts ≡ cond b (conditioned_at ts) (input_at ts >>= λ x. Some (Receives None x.0 x.1))
unfolding guard_at
guard_is ts b e = ap (λ c. cond c (conditioned_at ts) (input_at ts >>= λ x. Some (Receives None x.0 x.1))) e

conditioned_again : (e : Expression) (ts : List Terminal) (g : Guard) → IsWhole e
    → skips_or_receives e ts (behind mark.Skip ts) ≡ Some g → guard_at (written e ++ Mark mark.Guard ∷ ts) ≡ Some g
unfolding conditioned_at
conditioned_again e ts g fits h =
    guard_is (written e ++ Mark mark.Guard ∷ ts) true (no_guard e (Mark mark.Guard ∷ ts))
    ∙ ap (λ (o : Option (Expression × List Terminal)). o >>= λ condition. behind mark.Guard condition.1 >>= λ rest.
    skips_or_receives condition.0 rest (behind mark.Skip rest)) (expression_before e mark.Guard ts (ends_so refl refl)
    fits)
    ∙ ap (λ (o : Option (List Terminal)). o >>= λ rest. skips_or_receives e rest (behind mark.Skip rest))
    (behind_again mark.Guard ts)
    ∙ h

pub guard_again : (g : Guard) → FitsGuard g → guard_at (written_guard g) ≡ Some g
guard_again (Receives None p q) fits =
    let ts = written_place p ++ Mark mark.Input ∷ written_place q in
    guard_is ts false (no_guard_input p q) ∙ ap
    (λ (o : Option (Place × Place)). o >>= λ x. Some (Receives None x.0 x.1)) (input_again p q fits.1 fits.2)
guard_again (Receives (Some e) p q) fits =
    let ts = written_place p ++ Mark mark.Input ∷ written_place q in
    ap guard_at (append_assoc (written e) (Mark mark.Guard ∷ []) ts)
    ∙ conditioned_again e ts (Receives (Some e) p q) fits.0
    (ap (skips_or_receives e ts) (skip_name p.name (in_brackets p.subscript ++ Mark mark.Input ∷ written_place q))
    ∙ ap (λ (o : Option (Place × Place)). o >>= λ x. Some (Receives (Some e) x.0 x.1))
    (input_again p q fits.1 fits.2))
guard_again (Skips e) fits = conditioned_again e (Mark mark.Skip ∷ []) (Skips e) fits
    (ap (skips_or_receives e (Mark mark.Skip ∷ [])) (behind_again mark.Skip []))
