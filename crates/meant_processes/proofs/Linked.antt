-- The channels in scope that may be used are main's links, and each is used the way of its name.
use Rattle.std.proofs.Common.{◌≡◌, ℕ, ◌+◌, ◌≤◌, ◌⊎◌, inl, inr, ◌&&◌, ◌||◌, Bool, true, false, cond, nat_lt, List, []}
use Rattle.std.proofs.Common.{◌∷◌, length, Option, Some, None, Ok, refl, sym, ap, subst, ◌∙◌, arith}
use Rattle.std.specs.Prelude.{bytes_eq, nat_eq, option_and_then, slice_get, unwrap_or}
use Rattle.std.proofs.lemmas.Bool.Decides.{nat_tests}
use Rattle.std.proofs.lemmas.Bool.{and_parts}
use Rattle.std.proofs.lemmas.Slice.Eq.{bytes_eq-Decides}
use Rattle.word_arithmetic.specs.Range.{Ends, full}
use Rattle.occam_parser.specs.declared.tree.ValueType.{ValueType}
use Rattle.occam_parser.specs.Expressions.{Expression}
use Rattle.occam_parser.specs.Lines as lines
use Rattle.occam_parser.specs.Lines.{Channels, Constants, Declaration, Value, Variables}
use Rattle.occam_parser.specs.OneOrMore.{as_list}
use Rattle.scalar_ranges.specs.declared.types.ExprType.{ExprType}
use Rattle.scalar_ranges.specs.declared.scope.ArrayKind.TheVariants as array
use Rattle.scalar_ranges.specs.Entries as entries
use Rattle.scalar_ranges.specs.Entries.{Array, Channel, Entry, Meaning, Scalar, meaning_in, number_in, type_range}
use Rattle.scalar_ranges.specs.Environments.{Environment, Meets, item_at}
use Rattle.scalar_ranges.specs.MoveLaws.{shape}
use Rattle.scalar_ranges.specs.Narrowing.{with_range}
use Rattle.scalar_ranges.proofs.MoveLaws.{shape_long}
use Rattle.program_uses.specs.declared.uses.Direction.{Direction}
use Rattle.program_uses.specs.declared.uses.Direction.TheVariants as direction
use Rattle.program_uses.specs.Constants.{size_in}
use Rattle.program_uses.specs.Declaring.{add, add_all, add_declaration, constant_meaning, range_of_bytes, range_of_items}
use Rattle.program_uses.specs.Declaring.{table_of, variable_meaning, channel_meaning}
use Rattle.program_uses.specs.LinkNames.{link_way}
use Rattle.program_uses.specs.Places.{is_subscripted}
use Rattle.program_uses.specs.Sets.{is_same_way}
use Rattle.program_meaning.specs.Links.{Port}
use Rattle.program_meaning.specs.Running.{facing}
use Rattle.program_meaning.proofs.NumbersStored.{numbers_agree}
use Rattle.usage_checks.specs.declared.channel_rules.Position.{Position}
use Rattle.usage_checks.specs.ChannelRules.{is_inside, is_right_way, is_way}
use Rattle.usage_checks.specs.PlaceRules.{channel_type}
use Rattle.line_pieces.specs.Actions.{carried}
use Rattle.line_pieces.specs.Homes.{Link}
use Rattle.code_generator.specs.Programs.{link_of}
use Rattle.meant_lines.specs.Carrying.{Ground}
use Rattle.meant_actions.specs.Exchanging.{IsPort, link_home}
use Rattle.meant_processes.specs.Places.{AreLinked, IsLink, IsLinked, Program}

-- ---- declarations

-- what is no channel
abbrev IsNoChannel : Meaning → Type 0
IsNoChannel (Channel type) = ⊥
IsNoChannel (entries.Channels type size) = ⊥
IsNoChannel m = Unit {0}

other_linked : (p : Program) (n : ℕ) (name : List ℕ) (m : Meaning) → IsNoChannel m
    → IsLinked p n name (with_range (λ r. full) m)
other_linked p n name (Scalar kind type range) other = tt
other_linked p n name (Channel type) other = absurd other
other_linked p n name (entries.Channels type size) other = absurd other
other_linked p n name m other = tt

-- a channel that is declared in the process
inner_number : (position : Position) (n : ℕ) → position.declared ≤ n → position.parallel ≤ n
    → is_inside position n ≡ false
inner_number position n declared alone =
    let first : nat_lt n position.declared ≡ false = grind (arith, nat_tests, declared) in
    let second : nat_lt n position.parallel ≡ false = grind (arith, nat_tests, alone) in
    ap (λ b. b || nat_lt n position.parallel) first ∙ second

channel_linked : (p : Program) (es : List Entry) (type : ValueType) (size : Option Expression) (n : ℕ)
    (name : List ℕ) → is_inside p.position n ≡ false
    → IsLinked p n name (with_range (λ r. full) (channel_meaning es type size))
channel_linked p es type None n name inner = inr inner
channel_linked p es type (Some e) n name inner = inner

names_linked : (p : Program) (m : Meaning)
    → ((n : ℕ) (name : List ℕ) → is_inside p.position n ≡ false → IsLinked p n name (with_range (λ r. full) m))
    → (names : List (List ℕ)) (es : List Entry) → p.position.declared ≤ length es → p.position.parallel ≤ length es
    → AreLinked p (shape es) → AreLinked p (shape (add_all names m es))
names_linked p m each [] es declared alone linked = linked
names_linked p m each (name ∷ names) es declared alone linked =
    let long = shape_long es in
    names_linked p m each names (add name m es) (omega (arith, declared)) (omega (arith, alone)) (
      each (length (shape es)) name
          (inner_number p.position (length (shape es)) (omega (arith, declared, long)) (omega (arith, alone, long))),
      linked,
    )

table_by : (t : Bool) (type : ValueType) (n : ℕ) (range : Ends) → IsNoChannel
    (cond t (Array array.Table type (Some n) range) (Array array.Table type None (type_range type)))
table_by true type n range = tt
table_by false type n range = tt

table_other : (type : ValueType) (size : Option ℕ) (count : ℕ) (range : Option Ends)
    → IsNoChannel (table_of type size count range)
table_other type None count range = tt
table_other type (Some n) count None = tt
table_other type (Some n) count (Some range) = table_by (nat_eq n count) type n range

constant_other : (es : List Entry) (type : ValueType) (value : Value) → IsNoChannel (constant_meaning es type value)
constant_other es type (lines.Scalar e) = tt
constant_other es type (lines.Table size items) =
    table_other type (size_in es size) (length (as_list items)) (range_of_items es type items)
constant_other es type (lines.Bytes size bytes) =
    table_other type (size_in es size) (length bytes) (range_of_bytes type bytes)

variable_other : (es : List Entry) (type : ValueType) (size : Option Expression)
    → IsNoChannel (variable_meaning es type size)
variable_other es type None = tt
variable_other es type (Some e) = tt

pub declared_linked : (p : Program) (es : List Entry) (d : Declaration) → p.position.declared ≤ length es
    → p.position.parallel ≤ length es → AreLinked p (shape es) → AreLinked p (shape (add_declaration d es))
declared_linked p es (Constants c) declared alone linked =
    let m = constant_meaning es c.value_type c.value in
    names_linked p m (λ n name inner. other_linked p n name m (constant_other es c.value_type c.value)) (c.name ∷ []) es
    declared alone linked
declared_linked p es (Variables n) declared alone linked =
    let m = variable_meaning es n.value_type n.size in
    names_linked p m (λ i name inner. other_linked p i name m (variable_other es n.value_type n.size)) (as_list n.names)
    es declared alone linked
declared_linked p es (Channels n) declared alone linked =
    names_linked p (channel_meaning es n.value_type n.size) (channel_linked p es n.value_type n.size) (as_list n.names)
    es declared alone linked

-- ---- names

-- a name with its number
pub record Found (p : Program) (es : List Entry) (name : List ℕ) (m : Meaning) : Type 0 where
  pub n : ℕ
  pub number : number_in name es ≡ Some n
  pub linked : IsLinked p n name (with_range (λ r. full) m)

found_by : (t : Bool) (p : Program) (e : Entry) (es : List Entry) (name : List ℕ) (m : Meaning)
    → bytes_eq e.name name ≡ t → cond t (Some e.meaning) (meaning_in name es) ≡ Some m
    → IsLinked p (length es) e.name (with_range (λ r. full) e.meaning)
    → (meaning_in name es ≡ Some m → Found p es name m)
    → (n : ℕ) × (cond t (Some (length es)) (number_in name es) ≡ Some n)
    × IsLinked p n name (with_range (λ r. full) m)
found_by true p e es name m same is here further =
    let meant : e.meaning ≡ m = cc is in
    let named = (bytes_eq-Decides e.name name).0 same in (
      length es,
      refl,
      subst (λ (k : Meaning). IsLinked p (length es) name (with_range (λ r. full) k)) meant
          (subst (λ (x : List ℕ). IsLinked p (length es) x (with_range (λ r. full) e.meaning)) named here),
    )
found_by false p e es name m same is here further = let f = further is in (f.n, f.number, f.linked)

pub found_linked : (p : Program) (es : List Entry) (name : List ℕ) (m : Meaning) → AreLinked p (shape es)
    → meaning_in name es ≡ Some m → Found p es name m
found_linked p [] name m linked is = absurd (cc is)
found_linked p (e ∷ es) name m linked is =
    let here = subst (λ n. IsLinked p n e.name (with_range (λ r. full) e.meaning)) (shape_long es) linked.0 in
    let found = found_by (bytes_eq e.name name) p e es name m refl is here (found_linked p es name m linked.1) in
    record { n = found.0; number = found.1; linked = found.2 }

-- ---- ports

-- a channel of main is used the way of its name
same_way : (a b : Direction) → is_same_way a b ≡ true → a ≡ b
same_way direction.Input direction.Input is = refl
same_way direction.Output direction.Output is = refl
same_way a b is = absurd (cc is)

not_broken : (b : Bool) → (b ≡ false → ⊥) → b ≡ true
not_broken true right = refl
not_broken false right = absurd (right refl)

way_is : (p : Program) (n : ℕ) (name : List ℕ) (way : Direction) (type : ValueType) (x : IsLink p n name type)
    → ((is_inside p.position n && is_right_way p.position name n way) ≡ false → ⊥) → x.port.way ≡ way
way_is p n name way type x right =
    let both = and_parts (is_inside p.position n) (is_right_way p.position name n way)
    (not_broken (is_inside p.position n && is_right_way p.position name n way) right) in
    let as_formal : is_right_way p.position name n way ≡ is_way (link_way name) way =
    ap (λ b. cond b (is_way (link_way name) way) true) x.formal in
    same_way x.port.way way (sym (ap (λ o. is_way o way) x.way) ∙ sym as_formal ∙ both.1)

home_is : (way : Direction) (port : Port) → port.way ≡ way → link_of port ≡ link_home way port.link
home_is direction.Input port is =
    ap (λ (d : Direction). elim d [ direction.Output ↦ port.link | direction.Input ↦ port.link + 4 ]) is
    ∙ (let same : port.link + 4 ≡ 4 + port.link = omega arith in same)
home_is direction.Output port is =
    ap (λ (d : Direction). elim d [ direction.Output ↦ port.link | direction.Input ↦ port.link + 4 ]) is

faces : (way : Direction) (port : Port) → port.way ≡ way → facing way (Some port) ≡ Some port
faces direction.Input port is = ap (λ (d : Direction). cond (is_same_way d direction.Input) (Some port) None) is
faces direction.Output port is = ap (λ (d : Direction). cond (is_same_way d direction.Output) (Some port) None) is

-- A channel is a link of main, and it is used the way of its name.
pub record IsUsed (p : Program) (es : List Entry) (way : Direction) (name : List ℕ) (subscript : Option Expression)
    : Type 0 where
  pub whole : subscript ≡ None
  pub type : ValueType
  pub means : meaning_in name es ≡ Some (Channel type)
  pub found : Found p es name (Channel type)
  pub link : IsLink p found.n name type
  pub way_is : link.port.way ≡ way

-- then it is a port
pub link_port : (p : Program) (g : Ground) (es : List Entry) (env : Environment) (way : Direction) (name : List ℕ)
    (subscript : Option Expression) → Meets env es
    → ((n : ℕ) (port : Port) → item_at n p.ports ≡ Some (Some port) → slice_get g.homes n ≡ Some (Link (link_of port)))
    → IsUsed p es way name subscript
    → (port : Port) × IsPort g es env p.ports way (record { name = name; subscript = subscript }) port
link_port p g es env way name subscript meets homes used =
    let x = used.link in
    let port = x.port in
    let held = numbers_agree name es env meets ∙ used.found.number in
    subst (λ (o : Option Expression).
    (port : Port) × IsPort g es env p.ports way (record { name = name; subscript = o }) port) (sym used.whole) (
      port,
      record {
        is = ap (λ (o : Option ℕ). facing way (option_and_then (λ n. unwrap_or (item_at n p.ports) None) o)) held
            ∙ ap (λ (o : Option (Option Port)). facing way (unwrap_or o None)) x.is ∙ faces way port used.way_is;
        faces = used.way_is;
        link = x.link;
        at = ap (option_and_then (slice_get g.homes)) used.found.number ∙ homes used.found.n port x.is
            ∙ ap (λ n. Some (Link n)) (home_is way port used.way_is);
        carries = ap carried used.means ∙ sym x.carries;
      },
    )

-- another one is misused
unusable : (p : Program) (n : ℕ) (b : Bool) → is_inside p.position n ≡ false → (is_inside p.position n && b) ≡ false
unusable p n b inner = ap (λ t. t && b) inner

-- So the channel of an action that breaks no rule is one.
pub channel_used : (p : Program) (es : List Entry) (way : Direction) (name : List ℕ) (subscript : Option Expression)
    (m : Option Meaning) (t : ExprType) → AreLinked p (shape es) → meaning_in name es ≡ m
    → channel_type m (is_subscripted subscript) ≡ Ok t
    → ((n : ℕ) → number_in name es ≡ Some n
    → (is_inside p.position n && is_right_way p.position name n way) ≡ false → ⊥)
    → IsUsed p es way name subscript
channel_used p es way name None (Some (Channel type)) t linked means is right =
    let f = found_linked p es name (Channel type) linked means in by f f.linked
  where
    by : (f : Found p es name (Channel type)) → IsLink p f.n name type ⊎ (is_inside p.position f.n ≡ false)
        → IsUsed p es way name None
    by f (inl x) = record {
      whole = refl;
      type = type;
      means = means;
      found = f;
      link = x;
      way_is = way_is p f.n name way type x (right f.n f.number);
    }
    by f (inr inner) =
        absurd (right f.n f.number (unusable p f.n (is_right_way p.position name f.n way) inner))
channel_used p es way name (Some e) (Some (entries.Channels type size)) t linked means is right =
    let f = found_linked p es name (entries.Channels type size) linked means in
    absurd (right f.n f.number (unusable p f.n (is_right_way p.position name f.n way) f.linked))
channel_used p es way name subscript None t linked means is right = absurd (cc is)
channel_used p es way name subscript (Some m) t linked means is right = absurd (cc is)
