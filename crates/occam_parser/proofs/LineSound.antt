-- What is read of one line is written so, and fits.
use Rattle.std.proofs.Common.{◌≡◌, ℕ, Bool, true, false, cond, List, [], ◌∷◌, ◌++◌, Option, Some, None, refl, sym, ap}
use Rattle.std.proofs.Common.{subst, append_assoc, append-nil, ◌∙◌}
use Rattle.std.specs.List.{AllByRecursion}
use Rattle.occam_layout.specs.declared.mark.Mark as mark_type
use Rattle.occam_layout.specs.declared.mark.Mark.TheVariants as mark
use Rattle.occam_parser.specs.declared.head.BlockKind.{BlockKind}
use Rattle.occam_parser.specs.declared.head.BlockKind.TheVariants as block
use Rattle.occam_parser.specs.declared.tree.FormalKind.TheVariants as formal_kind
use Rattle.occam_parser.specs.declared.tree.ValueType.{ValueType}
use Rattle.occam_parser.specs.declared.tree.ValueType.TheVariants as value_type
use Rattle.occam_parser.specs.Terminals.{Terminal, Name, Integer, Character, Text, Mark}
use Rattle.occam_parser.specs.OneOrMore.{OneOrMore, as_list}
use Rattle.occam_parser.specs.Expressions.{Expression, written, type_word}
use Rattle.occam_parser.specs.Reading.{Reads, ◌>>=◌, behind, up_to, expression_at, list_of}
use Rattle.occam_parser.specs.Laws.{Sound}
use Rattle.occam_parser.specs.Lines.{Place, Replicator, Value, Scalar, Table, Bytes, Constant, Names, Declaration}
use Rattle.occam_parser.specs.Lines.{Constants, Action, Skip, Stop, Assign, Input, Output}
use Rattle.occam_parser.specs.Lines.{Instance, Guard, Receives, Skips, Formal, ProcHead, Head, Declares, Acts, Opens}
use Rattle.occam_parser.specs.Lines.{in_brackets, written_place, separated, written_name, size_of, written_value}
use Rattle.occam_parser.specs.Lines.{written_constant, channel_words, written_names, written_declaration}
use Rattle.occam_parser.specs.Lines.{written_action, written_replicator, block_word, written_head, written_guard}
use Rattle.occam_parser.specs.Lines.{written_formal, written_proc_head, IsWhole, AreWhole, IsWholeIfAny}
use Rattle.occam_parser.specs.Lines.{FitsPlace, FitsValue, FitsConstant, FitsNames, FitsDeclaration, FitsAction}
use Rattle.occam_parser.specs.Lines.{FitsReplicator, FitsHead, FitsGuard, FitsFormal, FitsProcHead}
use Rattle.occam_parser.specs.LineReading.{only, name_at, bracketed_behind, bracketed_at, type_behind}
use Rattle.occam_parser.specs.LineReading.{type_at, typed_name_at, shape_behind, shape_at, place_at, whole_at}
use Rattle.occam_parser.specs.LineReading.{whole_place, table_at}
use Rattle.occam_parser.specs.LineReading.{value_at, constant_at, declared_as, names_at, formal_named, formal_kind_of}
use Rattle.occam_parser.specs.LineReading.{formal_behind, formal_at, items_behind, in_parentheses, proc_head_at}
use Rattle.occam_parser.specs.LineReading.{placed_action, instance_or_other, action_at, counted_at}
use Rattle.occam_parser.specs.LineReading.{replicator_at, block_at, declaration_at, marked_head, head_at, has_condition}
use Rattle.occam_parser.specs.LineReading.{input_at, skips_or_receives, conditioned_at, guard_at}
use Rattle.occam_parser.proofs.Options.{bind_some, at_some}
use Rattle.occam_parser.proofs.Marks.{behind_is}
use Rattle.occam_parser.proofs.Sound.{up_to_is, expression_sound}
use Rattle.occam_parser.proofs.ListLaws.{list_sound}

-- ---- small parts

pub only_is : {A : Type 0} (x : A) (ts : List Terminal) (y : A) → only x ts ≡ Some y → (ts ≡ []) × (x ≡ y)
only_is x [] y e = (refl, cc)
only_is x (t ∷ ts) y e = absurd (cc)

pub name_is : (ts : List Terminal) (name : List ℕ) (rest : List Terminal) → name_at ts ≡ Some (name, rest)
    → ts ≡ Name name ∷ rest
unfolding name_at
name_is [] name rest e = absurd (cc)
name_is (Name text ∷ ts) name rest e = at_some (λ (x : List ℕ × List Terminal). Name text ∷ ts ≡ Name x.0 ∷ x.1)
    (text, ts) (name, rest) e refl
name_is (Integer value ∷ ts) name rest e = absurd (cc)
name_is (Character byte ∷ ts) name rest e = absurd (cc)
name_is (Text bytes ∷ ts) name rest e = absurd (cc)
name_is (Mark m ∷ ts) name rest e = absurd (cc)

name_sound : Sound written_name (λ name. Unit {0}) name_at
name_sound ts name rest e = (name_is ts name rest e, tt)

whole_list : (ts rest : List Terminal) (w : List Terminal) → ts ≡ w ++ rest → rest ≡ [] → ts ≡ w
whole_list ts rest w e n = e ∙ ap (λ us. w ++ us) n ∙ append-nil w

bracketed_found : (ts : List Terminal) (o : Option (List Terminal)) (x : Option Expression × List Terminal)
    → behind mark.OpenBracket ts ≡ o → bracketed_behind ts o ≡ Some x
    → (ts ≡ in_brackets x.0 ++ x.1) × IsWholeIfAny x.0
bracketed_found ts None x b e = at_some (λ (y : Option Expression × List Terminal). (ts ≡ in_brackets y.0 ++ y.1) ×
    IsWholeIfAny y.0) (None, ts) x e (refl, tt)
bracketed_found ts (Some after) x b e =
    let y = bind_some (up_to mark.CloseBracket (expression_at 64 after)) _ x e in
    let h = expression_sound 64 after y.0.0 (Mark mark.CloseBracket ∷ y.0.1)
    (up_to_is mark.CloseBracket (expression_at 64 after) y.0.0 y.0.1 y.1) in
    let opened = behind_is mark.OpenBracket ts after b in
    let inside = h.0 ∙ sym (append_assoc (written y.0.0) (Mark mark.CloseBracket ∷ []) y.0.1) in
    at_some (λ (z : Option Expression × List Terminal). (ts ≡ in_brackets z.0 ++ z.1) × IsWholeIfAny z.0)
    (Some y.0.0, y.0.1) x y.2 (opened ∙ ap (λ us. Mark mark.OpenBracket ∷ us) inside, h.1)

pub bracketed_sound : Sound in_brackets IsWholeIfAny bracketed_at
unfolding bracketed_at
bracketed_sound ts x rest e = bracketed_found ts (behind mark.OpenBracket ts) (x, rest) refl e

type_found : (ts : List Terminal) (o : Option (List Terminal)) (x : ValueType × List Terminal)
    → behind mark.Int ts ≡ o → type_behind ts o ≡ Some x → ts ≡ type_word x.0 ∷ x.1
type_found ts (Some rest) x b e = at_some (λ (y : ValueType × List Terminal). ts ≡ type_word y.0 ∷ y.1)
    (value_type.Int, rest) x e (behind_is mark.Int ts rest b)
type_found ts None x b e =
    let y = bind_some (behind mark.Byte ts) _ x e in
    at_some (λ (z : ValueType × List Terminal). ts ≡ type_word z.0 ∷ z.1) (value_type.Byte, y.0) x y.2
    (behind_is mark.Byte ts y.0 y.1)

pub type_is : (ts : List Terminal) (t : ValueType) (rest : List Terminal) → type_at ts ≡ Some (t, rest)
    → ts ≡ type_word t ∷ rest
unfolding type_at
type_is ts t rest e = type_found ts (behind mark.Int ts) (t, rest) refl e

shape_found : (ts : List Terminal) (o : Option (List Terminal)) (x : (Bool × ValueType) × List Terminal)
    → behind mark.Chan ts ≡ o → shape_behind ts o ≡ Some x → ts ≡ channel_words x.0.0 ++ type_word x.0.1 ∷ x.1
shape_found ts (Some after) x b e =
    let r = bind_some (behind mark.Of after) _ x e in
    let y = bind_some (type_at r.0) _ x r.2 in
    let words = behind_is mark.Chan ts after b ∙ ap (λ us. Mark mark.Chan ∷ us)
    (behind_is mark.Of after r.0 r.1 ∙ ap (λ us. Mark mark.Of ∷ us) (type_is r.0 y.0.0 y.0.1 y.1)) in
    at_some (λ (z : (Bool × ValueType) × List Terminal). ts ≡ channel_words z.0.0 ++ type_word z.0.1 ∷ z.1)
    ((true, y.0.0), y.0.1) x y.2 words
shape_found ts None x b e =
    let y = bind_some (type_at ts) _ x e in
    at_some (λ (z : (Bool × ValueType) × List Terminal). ts ≡ channel_words z.0.0 ++ type_word z.0.1 ∷ z.1)
    ((false, y.0.0), y.0.1) x y.2 (type_is ts y.0.0 y.0.1 y.1)

pub shape_is : (ts : List Terminal) (s : Bool × ValueType) (rest : List Terminal) → shape_at ts ≡ Some (s, rest)
    → ts ≡ channel_words s.0 ++ type_word s.1 ∷ rest
unfolding shape_at
shape_is ts s rest e = shape_found ts (behind mark.Chan ts) (s, rest) refl e

pub place_sound : (name : List ℕ) (ts : List Terminal) (p : Place) (rest : List Terminal)
    → place_at name ts ≡ Some (p, rest) → (Name name ∷ ts ≡ written_place p ++ rest) × FitsPlace p
unfolding place_at
place_sound name ts p rest e =
    let x = bind_some (bracketed_at ts) _ (p, rest) e in
    let h = bracketed_sound ts x.0.0 x.0.1 x.1 in
    at_some (λ (y : Place × List Terminal). (Name name ∷ ts ≡ written_place y.0 ++ y.1) × FitsPlace y.0)
    (record { name = name; subscript = x.0.0 }, x.0.1) (p, rest) x.2 (ap (λ us. Name name ∷ us) h.0, h.1)

pub whole_sound : (ts : List Terminal) (e : Expression) → whole_at ts ≡ Some e → (ts ≡ written e) × IsWhole e
unfolding whole_at
whole_sound ts e h =
    let x = bind_some (expression_at 64 ts) _ e h in
    let s = expression_sound 64 ts x.0.0 x.0.1 x.1 in
    let o = only_is x.0.0 x.0.1 e x.2 in
    subst (λ y. (ts ≡ written y) × IsWhole y) o.1 (whole_list ts x.0.1 (written x.0.0) s.0 o.0, s.1)

pub whole_place_sound : (ts : List Terminal) (p : Place) → whole_place ts ≡ Some p
    → (ts ≡ written_place p) × FitsPlace p
unfolding whole_place
whole_place_sound ts p e =
    let n = bind_some (name_at ts) _ p e in
    let x = bind_some (place_at n.0.0 n.0.1) _ p n.2 in
    let s = place_sound n.0.0 n.0.1 x.0.0 x.0.1 x.1 in
    let o = only_is x.0.0 x.0.1 p x.2 in
    subst (λ q. (ts ≡ written_place q) × FitsPlace q) o.1
    (whole_list ts x.0.1 (written_place x.0.0) (name_is ts n.0.0 n.0.1 n.1 ∙ s.0) o.0, s.1)

expressions_sound : (ts : List Terminal) (xs : OneOrMore Expression) (rest : List Terminal)
    → list_of (expression_at 64) ts ≡ Some (xs, rest)
    → (ts ≡ separated written (as_list xs) ++ rest) × AreWhole (as_list xs)
expressions_sound ts xs rest e = list_sound written IsWhole (expression_at 64) (expression_sound 64) ts (xs, rest) e

-- items up to the parenthesis that ends the line
abbrev pub AreIn : {A : Type 0} → (A → List Terminal) → (A → Type 0) → List Terminal → List A → Type 0
AreIn write fits ts xs = (ts ≡ separated write xs ++ Mark mark.CloseParenthesis ∷ []) × AllByRecursion fits xs

items_found : {A : Type 0} (write : A → List Terminal) (fits : A → Type 0) (item : Reads A) → Sound write fits item
    → (ts : List Terminal) (o : Option (List Terminal)) (xs : List A) → behind mark.CloseParenthesis ts ≡ o
    → items_behind item ts o ≡ Some xs → AreIn write fits ts xs
items_found write fits item s ts (Some rest) xs b e =
    let o = only_is [] rest xs e in
    let close = behind_is mark.CloseParenthesis ts rest b in
    subst (AreIn write fits ts) o.1 (close ∙ ap (λ us. Mark mark.CloseParenthesis ∷ us) o.0, tt)
items_found write fits item s ts None xs b e =
    let x = bind_some (list_of item ts) _ xs e in
    let rest = bind_some (behind mark.CloseParenthesis x.0.1) _ xs x.2 in
    let h = list_sound write fits item s ts x.0 x.1 in
    let o = only_is (as_list x.0.0) rest.0 xs rest.2 in
    let close = behind_is mark.CloseParenthesis x.0.1 rest.0 rest.1 ∙ ap (λ us. Mark mark.CloseParenthesis ∷ us) o.0 in
    subst (AreIn write fits ts) o.1 (h.0 ∙ ap (λ us. separated write (as_list x.0.0) ++ us) close, h.1)

parentheses_sound : {A : Type 0} (write : A → List Terminal) (fits : A → Type 0) (item : Reads A)
    → Sound write fits item → (ts : List Terminal) (xs : List A) → in_parentheses item ts ≡ Some xs
    → AreIn write fits ts xs
unfolding in_parentheses
parentheses_sound write fits item s ts xs e =
    items_found write fits item s ts (behind mark.CloseParenthesis ts) xs refl e

-- ---- constants and declarations

abbrev pub IsValue : Option Expression → List Terminal → Value × List Terminal → Type 0
IsValue size ts x = (ts ≡ written_value x.0 ++ x.1) × (IsWholeIfAny size → FitsValue x.0) × (size ≡ size_of x.0)

table_sound : (size : Expression) (ts : List Terminal) (x : Value × List Terminal) → table_at size ts ≡ Some x
    → IsValue (Some size) ts x
unfolding table_at
table_sound size [] x e = absurd (cc)
table_sound size (Text bytes ∷ ts) x e = at_some (IsValue (Some size) (Text bytes ∷ ts)) (Bytes size bytes, ts) x e
    (refl, (λ h. h), refl)
table_sound size (Mark mark.OpenBracket ∷ ts) x e =
    let y = bind_some (up_to mark.CloseBracket (list_of (expression_at 64) ts)) _ x e in
    let h = expressions_sound ts y.0.0 (Mark mark.CloseBracket ∷ y.0.1)
    (up_to_is mark.CloseBracket (list_of (expression_at 64) ts) y.0.0 y.0.1 y.1) in
    let inside = h.0 ∙ sym (append_assoc (separated written (as_list y.0.0)) (Mark mark.CloseBracket ∷ []) y.0.1) in
    at_some (IsValue (Some size) (Mark mark.OpenBracket ∷ ts)) (Table size y.0.0, y.0.1) x y.2
    (ap (λ us. Mark mark.OpenBracket ∷ us) inside, (λ w. (w, h.1)), refl)
table_sound size (t ∷ ts) x e = absurd (cc)

value_sound : (size : Option Expression) (ts : List Terminal) (x : Value × List Terminal) → value_at size ts ≡ Some x
    → IsValue size ts x
unfolding value_at
value_sound None ts x e =
    let y = bind_some (expression_at 64 ts) _ x e in
    let h = expression_sound 64 ts y.0.0 y.0.1 y.1 in
    at_some (IsValue None ts) (Scalar y.0.0, y.0.1) x y.2 (h.0, (λ w. h.1), refl)
value_sound (Some size) ts x e = table_sound size ts x e

typed_name_is : (ts : List Terminal) (x : ValueType × List ℕ) (rest : List Terminal)
    → typed_name_at ts ≡ Some (x, rest) → ts ≡ type_word x.0 ∷ Name x.1 ∷ rest
unfolding typed_name_at
typed_name_is ts x rest e =
    let type = bind_some (type_at ts) _ (x, rest) e in
    let name = bind_some (name_at type.0.1) _ (x, rest) type.2 in
    at_some (λ (z : (ValueType × List ℕ) × List Terminal). ts ≡ type_word z.0.0 ∷ Name z.0.1 ∷ z.1)
    ((type.0.0, name.0.0), name.0.1) (x, rest) name.2
    (type_is ts type.0.0 type.0.1 type.1
    ∙ ap (λ us. type_word type.0.0 ∷ us) (name_is type.0.1 name.0.0 name.0.1 name.1))

pub constant_sound : (line : ℕ) (ts : List Terminal) (c : Constant) → constant_at line ts ≡ Some c
    → (ts ≡ written_constant c) × FitsConstant line c
unfolding constant_at
constant_sound line ts c e =
    let size = bind_some (bracketed_at ts) _ c e in
    let named = bind_some (up_to mark.Is (typed_name_at size.0.1)) _ c size.2 in
    let value = bind_some (up_to mark.Colon (value_at size.0.0 named.0.1)) _ c named.2 in
    let s = bracketed_sound ts size.0.0 size.0.1 size.1 in
    let n = typed_name_is size.0.1 named.0.0 (Mark mark.Is ∷ named.0.1)
    (up_to_is mark.Is (typed_name_at size.0.1) named.0.0 named.0.1 named.1) in
    let v = value_sound size.0.0 named.0.1 (value.0.0, Mark mark.Colon ∷ value.0.1)
    (up_to_is mark.Colon (value_at size.0.0 named.0.1) value.0.0 value.0.1 value.1) in
    let found : Constant = record
    { line = line; value_type = named.0.0.0; name = named.0.0.1; value = value.0.0 } in
    let o = only_is found value.0.1 c value.2 in
    let tail = v.0 ∙ ap (λ us. written_value value.0.0 ++ Mark mark.Colon ∷ us) o.0 in
    let behind_size = n ∙ ap (λ us. type_word named.0.0.0 ∷ Name named.0.0.1 ∷ Mark mark.Is ∷ us) tail in
    let whole = s.0 ∙ ap (λ us. in_brackets size.0.0 ++ us) behind_size
    ∙ ap (λ z. in_brackets z ++ (type_word named.0.0.0 ∷ Name named.0.0.1 ∷ Mark mark.Is ∷
    (written_value value.0.0 ++ Mark mark.Colon ∷ []))) v.2
    in
    subst (λ d. (ts ≡ written_constant d) × FitsConstant line d) o.1 (whole, (refl, v.1 s.1))

declared_sound : (line : ℕ) (ts : List Terminal) (channel : Bool) (n : Names) → ts ≡ written_names channel n
    → FitsNames line n → (ts ≡ written_declaration (declared_as channel n)) × FitsDeclaration line
    (declared_as channel n)
declared_sound line ts true n e h = (e, h)
declared_sound line ts false n e h = (e, h)

pub names_sound : (line : ℕ) (ts : List Terminal) (d : Declaration) → names_at line ts ≡ Some d
    → (ts ≡ written_declaration d) × FitsDeclaration line d
unfolding names_at
names_sound line ts d e =
    let size = bind_some (bracketed_at ts) _ d e in
    let shape = bind_some (shape_at size.0.1) _ d size.2 in
    let names = bind_some (list_of name_at shape.0.1) _ d shape.2 in
    let rest = bind_some (behind mark.Colon names.0.1) _ d names.2 in
    let s = bracketed_sound ts size.0.0 size.0.1 size.1 in
    let n = list_sound written_name (λ name. Unit {0}) name_at name_sound shape.0.1 names.0 names.1 in
    let found : Names = record { line = line; size = size.0.0; value_type = shape.0.0.1; names = names.0.0 } in
    let o = only_is (declared_as shape.0.0.0 found) rest.0 d rest.2 in
    let colon = behind_is mark.Colon names.0.1 rest.0 rest.1 ∙ ap (λ us. Mark mark.Colon ∷ us) o.0 in
    let tail = n.0 ∙ ap (λ us. separated written_name (as_list names.0.0) ++ us) colon in
    let whole = s.0 ∙ ap (λ us. in_brackets size.0.0 ++ us)
    (shape_is size.0.1 shape.0.0 shape.0.1 shape.1 ∙ ap
    (λ us. channel_words shape.0.0.0 ++ type_word shape.0.0.1 ∷ us) tail) in
    subst (λ x. (ts ≡ written_declaration x) × FitsDeclaration line x) o.1
    (declared_sound line ts shape.0.0.0 found whole (refl, s.1))

-- ---- procedures

abbrev pub IsFormal : List Terminal → Formal × List Terminal → Type 0
IsFormal ts x = (ts ≡ written_formal x.0 ++ x.1) × FitsFormal x.0

pub formal_words_join : (b w : List Terminal) (t n : Terminal) (rest : List Terminal)
    → b ++ (w ++ t ∷ n ∷ rest) ≡ (b ++ (w ++ t ∷ n ∷ [])) ++ rest
formal_words_join b w t n rest = ap (λ us. b ++ us) (sym (append_assoc w (t ∷ n ∷ []) rest)) ∙ sym
    (append_assoc b (w ++ t ∷ n ∷ []) rest)

formal_variable : (channel : Bool) (size : Option Expression) (type : ValueType) (name : List ℕ)
    (ts rest : List Terminal) → ts ≡ (in_brackets size ++ (channel_words channel ++ type_word type ∷ Name name ∷ []))
    ++ rest
    → ts ≡ written_formal (record { kind = formal_kind_of channel; size = size; value_type = type; name = name })
    ++ rest
formal_variable true size type name ts rest e = e
formal_variable false size type name ts rest e = e

formal_found : (ts : List Terminal) (o : Option (List Terminal)) (x : Formal × List Terminal)
    → behind mark.Val ts ≡ o → formal_behind ts o ≡ Some x → IsFormal ts x
unfolding formal_named
formal_found ts (Some after) x b e =
    let size = bind_some (bracketed_at after) _ x e in
    let type = bind_some (type_at size.0.1) _ x size.2 in
    let name = bind_some (name_at type.0.1) _ x type.2 in
    let s = bracketed_sound after size.0.0 size.0.1 size.1 in
    let tail = type_is size.0.1 type.0.0 type.0.1 type.1 ∙ ap (λ us. type_word type.0.0 ∷ us)
    (name_is type.0.1 name.0.0 name.0.1 name.1) in
    let inside = s.0 ∙ ap (λ us. in_brackets size.0.0 ++ us) tail ∙ formal_words_join (in_brackets size.0.0) []
    (type_word type.0.0) (Name name.0.0) name.0.1 in
    at_some (IsFormal ts) (
      record {
        kind = formal_kind.Value;
        size = size.0.0;
        value_type = type.0.0;
        name =
            name.0.0;
      },
      name.0.1,
    ) x name.2 (behind_is mark.Val ts after b ∙ ap (λ us. Mark mark.Val ∷ us) inside, s.1)
formal_found ts None x b e =
    let size = bind_some (bracketed_at ts) _ x e in
    let shape = bind_some (shape_at size.0.1) _ x size.2 in
    let name = bind_some (name_at shape.0.1) _ x shape.2 in
    let s = bracketed_sound ts size.0.0 size.0.1 size.1 in
    let tail = shape_is size.0.1 shape.0.0 shape.0.1 shape.1 ∙ ap
    (λ us. channel_words shape.0.0.0 ++ type_word shape.0.0.1 ∷ us) (name_is shape.0.1 name.0.0 name.0.1 name.1)
    in
    let inside = s.0 ∙ ap (λ us. in_brackets size.0.0 ++ us) tail ∙ formal_words_join (in_brackets size.0.0)
    (channel_words shape.0.0.0) (type_word shape.0.0.1) (Name name.0.0) name.0.1 in
    at_some (IsFormal ts) (
      record {
        kind = formal_kind_of shape.0.0.0;
        size = size.0.0;
        value_type =
            shape.0.0.1;
        name = name.0.0;
      },
      name.0.1,
    ) x name.2
    (formal_variable shape.0.0.0 size.0.0 shape.0.0.1 name.0.0 ts name.0.1 inside, s.1)

formal_sound : Sound written_formal FitsFormal formal_at
unfolding formal_at
formal_sound ts f rest e = formal_found ts (behind mark.Val ts) (f, rest) refl e

formals_sound : (ts : List Terminal) (fs : List Formal) → in_parentheses formal_at ts ≡ Some fs
    → AreIn written_formal FitsFormal ts fs
formals_sound ts fs e = parentheses_sound written_formal FitsFormal formal_at formal_sound ts fs e

pub proc_head_sound : (ts : List Terminal) (h : ProcHead) → proc_head_at ts ≡ Some h
    → (ts ≡ written_proc_head h) × FitsProcHead h
unfolding proc_head_at
proc_head_sound ts h e =
    let name = bind_some (name_at ts) _ h e in
    let opened = bind_some (behind mark.OpenParenthesis name.0.1) _ h name.2 in
    let formals = bind_some (in_parentheses formal_at opened.0) _ h opened.2 in
    let f = formals_sound opened.0 formals.0 formals.1 in
    let whole = name_is ts name.0.0 name.0.1 name.1 ∙ ap (λ us. Name name.0.0 ∷ us)
    (behind_is mark.OpenParenthesis name.0.1 opened.0 opened.1 ∙ ap (λ us. Mark mark.OpenParenthesis ∷ us) f.0) in
    at_some (λ g. (ts ≡ written_proc_head g) × FitsProcHead g) (record { name = name.0.0; formals = formals.0 }) h
    formals.2 (whole, f.1)

-- ---- actions

-- a line that begins with a place
abbrev pub IsAction : List Terminal → Action → Type 0
IsAction whole a = (whole ≡ written_action a) × FitsAction a

placed_sound : (whole ts : List Terminal) (place : Place) (a : Action) → whole ≡ written_place place ++ ts
    → FitsPlace place → placed_action place ts ≡ Some a → IsAction whole a
placed_sound whole [] place a w f e = absurd (cc)
placed_sound whole (Mark mark.Assign ∷ ts) place a w f e =
    let v = bind_some (whole_at ts) _ a e in
    let h = whole_sound ts v.0 v.1 in
    at_some (IsAction whole) (Assign place v.0) a v.2
    (w ∙ ap (λ us. written_place place ++ Mark mark.Assign ∷ us) h.0, (f, h.1))
placed_sound whole (Mark mark.Input ∷ ts) place a w f e =
    let v = bind_some (whole_place ts) _ a e in
    let h = whole_place_sound ts v.0 v.1 in
    at_some (IsAction whole) (Input place v.0) a v.2
    (w ∙ ap (λ us. written_place place ++ Mark mark.Input ∷ us) h.0, (f, h.1))
placed_sound whole (Mark mark.Output ∷ ts) place a w f e =
    let v = bind_some (whole_at ts) _ a e in
    let h = whole_sound ts v.0 v.1 in
    at_some (IsAction whole) (Output place v.0) a v.2
    (w ∙ ap (λ us. written_place place ++ Mark mark.Output ∷ us) h.0, (f, h.1))
placed_sound whole (t ∷ ts) place a w f e = absurd (cc)

instance_sound : (name : List ℕ) (ts : List Terminal) (o : Option (List Terminal)) (a : Action)
    → behind mark.OpenParenthesis ts ≡ o → instance_or_other name ts o ≡ Some a → IsAction (Name name ∷ ts) a
instance_sound name ts (Some rest) a b e =
    let xs = bind_some (in_parentheses (expression_at 64) rest) _ a e in
    let h = parentheses_sound written IsWhole (expression_at 64) (expression_sound 64) rest xs.0 xs.1 in
    at_some (IsAction (Name name ∷ ts)) (Instance name xs.0) a xs.2 (
      ap (λ us. Name name ∷ us) (behind_is mark.OpenParenthesis ts rest b ∙ ap
          (λ us. Mark mark.OpenParenthesis ∷ us) h.0),
      h.1,
    )
instance_sound name ts None a b e =
    let p = bind_some (place_at name ts) _ a e in
    let h = place_sound name ts p.0.0 p.0.1 p.1 in
    placed_sound (Name name ∷ ts) p.0.1 p.0.0 a h.0 h.1 p.2

pub action_sound : (name : List ℕ) (ts : List Terminal) (a : Action) → action_at name ts ≡ Some a
    → IsAction (Name name ∷ ts) a
unfolding action_at
action_sound name ts a e = instance_sound name ts (behind mark.OpenParenthesis ts) a refl e

-- ---- heads

abbrev pub IsReplicator : List Terminal → Option Replicator → Type 0
IsReplicator ts r = (ts ≡ written_replicator r) × FitsReplicator r

-- how a replicator is written after its name
abbrev pub IsCounted : List Terminal → Replicator → Type 0
IsCounted ts r = (ts ≡ written r.base ++ Mark mark.For ∷ written r.count) × FitsReplicator (Some r)

counted_sound : (name : List ℕ) (ts : List Terminal) (r : Replicator) → counted_at name ts ≡ Some r
    → (r.name ≡ name) × IsCounted ts r
unfolding counted_at
counted_sound name ts r e =
    let base = bind_some (expression_at 64 ts) _ r e in
    let rest = bind_some (behind mark.For base.0.1) _ r base.2 in
    let count = bind_some (whole_at rest.0) _ r rest.2 in
    let b = expression_sound 64 ts base.0.0 base.0.1 base.1 in
    let k = whole_sound rest.0 count.0 count.1 in
    let tail = behind_is mark.For base.0.1 rest.0 rest.1 ∙ ap (λ us. Mark mark.For ∷ us) k.0 in
    at_some (λ (q : Replicator). (q.name ≡ name) × IsCounted ts q)
    (record { name = name; base = base.0.0; count = count.0 }) r count.2
    (refl, (b.0 ∙ ap (λ us. written base.0.0 ++ us) tail, (b.1, k.1)))

replicator_sound : (ts : List Terminal) (r : Option Replicator) → replicator_at ts ≡ Some r → IsReplicator ts r
unfolding replicator_at
replicator_sound [] r e = at_some (IsReplicator []) None r e (refl, tt)
replicator_sound (t ∷ ts) r e =
    let name = bind_some (name_at (t ∷ ts)) _ r e in
    let equal = bind_some (behind mark.Equal name.0.1) _ r name.2 in
    let q = bind_some (counted_at name.0.0 equal.0) _ r equal.2 in
    let c = counted_sound name.0.0 equal.0 q.0 q.1 in
    let begins =
    name_is (t ∷ ts) name.0.0 name.0.1 name.1
    ∙ ap (λ us. Name name.0.0 ∷ us) (behind_is mark.Equal name.0.1 equal.0 equal.1
    ∙ ap (λ us. Mark mark.Equal ∷ us) c.1.0)
    ∙ ap (λ n. Name n ∷ Mark mark.Equal ∷ (written q.0.base ++ Mark mark.For ∷ written q.0.count)) (sym c.0)
    in
    at_some (IsReplicator (t ∷ ts)) (Some q.0) r q.2 (begins, c.1.1)

abbrev pub IsHead : ℕ → List Terminal → Head → Type 0
IsHead line ts h = (ts ≡ written_head h) × FitsHead line h

block_sound : (line : ℕ) (kind : BlockKind) (ts : List Terminal) (h : Head) → block_at kind ts ≡ Some h
    → IsHead line (block_word kind ∷ ts) h
unfolding block_at
block_sound line kind ts h e =
    let r = bind_some (replicator_at ts) _ h e in
    let s = replicator_sound ts r.0 r.1 in
    at_some (IsHead line (block_word kind ∷ ts)) (Opens kind r.0) h r.2 (ap (λ us. block_word kind ∷ us) s.0, s.1)

declaration_sound : (line : ℕ) (ts : List Terminal) (h : Head) → declaration_at line ts ≡ Some h → IsHead line ts h
unfolding declaration_at
declaration_sound line ts h e =
    let d = bind_some (names_at line ts) _ h e in
    at_some (IsHead line ts) (Declares d.0) h d.2 (names_sound line ts d.0 d.1)

only_sound : (line : ℕ) (m : mark_type.Mark) (a : Action) (ts : List Terminal) (h : Head)
    → written_action a ≡ Mark m ∷ [] → FitsAction a → only (Acts a) ts ≡ Some h → IsHead line (Mark m ∷ ts) h
only_sound line m a ts h w f e =
    let o = only_is (Acts a) ts h e in
    subst (IsHead line (Mark m ∷ ts)) o.1 (ap (λ us. Mark m ∷ us) o.0 ∙ sym w, f)

marked_sound : (line : ℕ) (m : mark_type.Mark) (ts : List Terminal) (h : Head)
    → marked_head line (Mark m ∷ ts) m ts ≡ Some h → IsHead line (Mark m ∷ ts) h
unfolding marked_head
marked_sound line mark.Val ts h e =
    let c = bind_some (constant_at line ts) _ h e in
    let s = constant_sound line ts c.0 c.1 in
    at_some (IsHead line (Mark mark.Val ∷ ts)) (Declares (Constants c.0)) h c.2 (ap (λ us. Mark mark.Val ∷ us) s.0, s.1)
marked_sound line mark.Int ts h e = declaration_sound line (Mark mark.Int ∷ ts) h e
marked_sound line mark.Byte ts h e = declaration_sound line (Mark mark.Byte ∷ ts) h e
marked_sound line mark.Chan ts h e = declaration_sound line (Mark mark.Chan ∷ ts) h e
marked_sound line mark.OpenBracket ts h e = declaration_sound line (Mark mark.OpenBracket ∷ ts) h e
marked_sound line mark.Skip ts h e = only_sound line mark.Skip Skip ts h refl tt e
marked_sound line mark.Stop ts h e = only_sound line mark.Stop Stop ts h refl tt e
marked_sound line mark.Seq ts h e = block_sound line block.Seq ts h e
marked_sound line mark.Par ts h e = block_sound line block.Par ts h e
marked_sound line mark.If ts h e = block_sound line block.If ts h e
marked_sound line mark.Alt ts h e = block_sound line block.Alt ts h e
marked_sound line m ts h e = absurd (cc)

pub head_sound : (line : ℕ) (ts : List Terminal) (h : Head) → head_at line ts ≡ Some h → IsHead line ts h
unfolding head_at
head_sound line [] h e = absurd (cc)
head_sound line (Name name ∷ ts) h e =
    let a = bind_some (action_at name ts) _ h e in
    at_some (IsHead line (Name name ∷ ts)) (Acts a.0) h a.2 (action_sound name ts a.0 a.1)
head_sound line (Mark m ∷ ts) h e = marked_sound line m ts h e
head_sound line (Integer value ∷ ts) h e = absurd (cc)
head_sound line (Character byte ∷ ts) h e = absurd (cc)
head_sound line (Text bytes ∷ ts) h e = absurd (cc)

-- ---- guards

abbrev pub IsInput : List Terminal → Place × Place → Type 0
IsInput ts x = (ts ≡ written_place x.0 ++ Mark mark.Input ∷ written_place x.1) × FitsPlace x.0 × FitsPlace x.1

input_sound : (ts : List Terminal) (x : Place × Place) → input_at ts ≡ Some x → IsInput ts x
unfolding input_at
input_sound ts x e =
    let name = bind_some (name_at ts) _ x e in
    let channel = bind_some (place_at name.0.0 name.0.1) _ x name.2 in
    let rest = bind_some (behind mark.Input channel.0.1) _ x channel.2 in
    let target = bind_some (whole_place rest.0) _ x rest.2 in
    let c = place_sound name.0.0 name.0.1 channel.0.0 channel.0.1 channel.1 in
    let t = whole_place_sound rest.0 target.0 target.1 in
    let tail = behind_is mark.Input channel.0.1 rest.0 rest.1 ∙ ap (λ us. Mark mark.Input ∷ us) t.0 in
    at_some (IsInput ts) (channel.0.0, target.0) x target.2
    (name_is ts name.0.0 name.0.1 name.1 ∙ c.0 ∙ ap (λ us. written_place channel.0.0 ++ us) tail, c.1, t.1)

abbrev pub IsGuard : List Terminal → Guard → Type 0
IsGuard ts g = (ts ≡ written_guard g) × FitsGuard g

skips_sound : (whole ts : List Terminal) (condition : Expression) (o : Option (List Terminal)) (g : Guard)
    → whole ≡ written condition ++ Mark mark.Guard ∷ ts → IsWhole condition → behind mark.Skip ts ≡ o
    → skips_or_receives condition ts o ≡ Some g → IsGuard whole g
skips_sound whole ts condition (Some rest) g w f b e =
    let o = only_is (Skips condition) rest g e in
    let tail = behind_is mark.Skip ts rest b ∙ ap (λ us. Mark mark.Skip ∷ us) o.0 in
    subst (IsGuard whole) o.1 (w ∙ ap (λ us. written condition ++ Mark mark.Guard ∷ us) tail, f)
skips_sound whole ts condition None g w f b e =
    let x = bind_some (input_at ts) _ g e in
    let h = input_sound ts x.0 x.1 in
    let joined = ap (λ us. written condition ++ Mark mark.Guard ∷ us) h.0 ∙ sym
    (append_assoc (written condition) (Mark mark.Guard ∷ [])
    (written_place x.0.0 ++ Mark mark.Input ∷ written_place x.0.1)) in
    at_some (IsGuard whole) (Receives (Some condition) x.0.0 x.0.1) g x.2 (w ∙ joined, (f, h.1, h.2))

conditioned_sound : (ts : List Terminal) (g : Guard) → conditioned_at ts ≡ Some g → IsGuard ts g
unfolding conditioned_at
conditioned_sound ts g e =
    let c = bind_some (expression_at 64 ts) _ g e in
    let r = bind_some (behind mark.Guard c.0.1) _ g c.2 in
    let h = expression_sound 64 ts c.0.0 c.0.1 c.1 in
    skips_sound ts r.0 c.0.0 (behind mark.Skip r.0) g
    (h.0 ∙ ap (λ us. written c.0.0 ++ us) (behind_is mark.Guard c.0.1 r.0 r.1)) h.1 refl r.2

guard_found : (b : Bool) (ts : List Terminal) (g : Guard)
    → cond b (conditioned_at ts) (input_at ts >>= λ x. Some (Receives None x.0 x.1)) ≡ Some g → IsGuard ts g
guard_found true ts g e = conditioned_sound ts g e
guard_found false ts g e =
    let x = bind_some (input_at ts) _ g e in
    let h = input_sound ts x.0 x.1 in
    at_some (IsGuard ts) (Receives None x.0.0 x.0.1) g x.2 (h.0, (tt, h.1, h.2))

pub guard_sound : (ts : List Terminal) (g : Guard) → guard_at ts ≡ Some g → IsGuard ts g
unfolding guard_at
guard_sound ts g e = guard_found (has_condition ts) ts g e
