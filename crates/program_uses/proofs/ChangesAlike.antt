use Rattle.std.proofs.Common.{◌≡◌, ℕ, suc, Bool, true, false, cond, List, [], ◌∷◌, ◌++◌, length, Option, Some, None}
use Rattle.std.proofs.Common.{refl, sym, ap, ◌∙◌, nat_eq}
use Rattle.std.specs.Prelude.{bytes_eq, option_map, option_and_then}
use Rattle.word_arithmetic.specs.Range.{Ends, full}
use Rattle.occam_parser.specs.OneOrMore.{as_list}
use Rattle.occam_parser.specs.Expressions.{Expression}
use Rattle.occam_parser.specs.Lines.{Place, Replicator, block_word, Action, Skip, Stop, Assign, Input, Output, Instance}
use Rattle.occam_parser.specs.Lines.{Guard, Receives, Skips, Declaration, Constants, Variables, Value}
use Rattle.occam_parser.specs.Lines as lines
use Rattle.occam_parser.specs.Blocks.{Process, Declared, Does, Construct, Act, Block, Replicated, Body, One, Part}
use Rattle.occam_parser.specs.Blocks.{Components, NoComponent, Further, Component, Plain, Chosen, Guarded}
use Rattle.occam_parser.specs.declared.tree.ValueType.{ValueType}
use Rattle.scalar_ranges.specs.Entries.{Meaning, Constant, Scalar, Array, Channel, Channels, Procedure, Entry}
use Rattle.scalar_ranges.specs.Entries.{meaning_in, number_in, type_range}
use Rattle.scalar_ranges.specs.declared.scope.ArrayKind.TheVariants as array
use Rattle.program_uses.specs.Changes.{listed, changed_as, changed_by_actual, changed_by_actuals, changed_by_action}
use Rattle.program_uses.specs.Changes.{changed_by_guard, changed_by, changed_by_construct, changed_by_body}
use Rattle.program_uses.specs.Changes.{changed_by_components, changed_by_component}
use Rattle.program_uses.specs.Declaring.{add, add_all, add_declaration, add_outline, constant_meaning, constant_outline}
use Rattle.program_uses.specs.Declaring.{variable_meaning, channel_meaning, table_of, range_of_items, range_of_bytes}
use Rattle.program_uses.specs.Constants.{size_in}
use Rattle.program_uses.specs.Indices.{is_seq, index_meaning}
use Rattle.program_uses.specs.Instances.{place_in, whole_name, variable_at}
use Rattle.program_uses.specs.Mentions.{is_variable, variable_in}
use Rattle.program_uses.specs.Outlines.{flat, outline, ChangesFollowOutlines, DeclaringKeepsOutlines}
use Rattle.program_uses.specs.Signatures.{Parameter, passing_of, parameters_in}

pub outline_long : (es : List Entry) → length (outline es) ≡ length es
outline_long [] = refl
outline_long (e ∷ es) = ap suc (outline_long es)

-- ---- names

mapped_by : {A B : Type 0} (t : Bool) (f : A → B) (x : A) (o : Option A) (p : Option B) → p ≡ option_map f o
    → cond t (Some (f x)) p ≡ option_map f (cond t (Some x) o)
mapped_by true f x o p same = refl
mapped_by false f x o p same = same

meaning_flat : (name : List ℕ) (es : List Entry) → meaning_in name (outline es) ≡ option_map flat (meaning_in name es)
meaning_flat name [] = refl
meaning_flat name (e ∷ es) =
    mapped_by (bytes_eq e.name name) flat e.meaning (meaning_in name es) (meaning_in name (outline es))
    (meaning_flat name es)

number_flat : (name : List ℕ) (es : List Entry) → number_in name (outline es) ≡ number_in name es
number_flat name [] = refl
number_flat name (e ∷ es) =
    λ i. cond (bytes_eq e.name name) (Some (outline_long es i)) (number_flat name es i)

is_variable_flat : (o : Option Meaning) → is_variable (option_map flat o) ≡ is_variable o
is_variable_flat None = refl
is_variable_flat (Some (Constant type value)) = refl
is_variable_flat (Some (Scalar kind type range)) = refl
is_variable_flat (Some (Array kind type size range)) = refl
is_variable_flat (Some (Channel type)) = refl
is_variable_flat (Some (Channels type size)) = refl
is_variable_flat (Some (Procedure number)) = refl

parameters_flat : (signatures : List (List Parameter)) (o : Option Meaning)
    → parameters_in signatures (option_map flat o) ≡ parameters_in signatures o
parameters_flat signatures None = refl
parameters_flat signatures (Some (Constant type value)) = refl
parameters_flat signatures (Some (Scalar kind type range)) = refl
parameters_flat signatures (Some (Array kind type size range)) = refl
parameters_flat signatures (Some (Channel type)) = refl
parameters_flat signatures (Some (Channels type size)) = refl
parameters_flat signatures (Some (Procedure number)) = refl

variable_flat : (name : List ℕ) (es : List Entry) → variable_in name (outline es) ≡ variable_in name es
variable_flat name es =
    λ i. cond ((ap is_variable (meaning_flat name es) ∙ is_variable_flat (meaning_in name es)) i)
    (number_flat name es i) None

variable_alike : (es fs : List Entry) → outline es ≡ outline fs → (name : List ℕ)
    → variable_in name es ≡ variable_in name fs
variable_alike es fs same name =
    sym (variable_flat name es) ∙ ap (variable_in name) same ∙ variable_flat name fs

parameters_alike : (signatures : List (List Parameter)) (es fs : List Entry) → outline es ≡ outline fs
    → (name : List ℕ)
    → parameters_in signatures (meaning_in name es) ≡ parameters_in signatures (meaning_in name fs)
parameters_alike signatures es fs same name =
    sym (ap (parameters_in signatures) (meaning_flat name es) ∙ parameters_flat signatures (meaning_in name es))
    ∙ ap (λ gs. parameters_in signatures (meaning_in name gs)) same
    ∙ ap (parameters_in signatures) (meaning_flat name fs) ∙ parameters_flat signatures (meaning_in name fs)

-- ---- what is on one line

variable_at_alike : (es fs : List Entry) → outline es ≡ outline fs → (p : Place) → variable_at es p ≡ variable_at fs p
variable_at_alike es fs same p = λ i. option_and_then (λ name. variable_alike es fs same name i) (whole_name p)

actual_alike : (es fs : List Entry) → outline es ≡ outline fs → (o : Option Parameter) (e : Expression)
    → changed_by_actual es o e ≡ changed_by_actual fs o e
actual_alike es fs same None e = refl
actual_alike es fs same (Some p) e =
    λ i. changed_as (passing_of p.meaning) (option_and_then (λ q. variable_at_alike es fs same q i) (place_in e))

actuals_alike : (es fs : List Entry) → outline es ≡ outline fs → (ps : List Parameter) (actuals : List Expression)
    → changed_by_actuals es ps actuals ≡ changed_by_actuals fs ps actuals
actuals_alike es fs same ps [] = refl
actuals_alike es fs same [] (e ∷ actuals) =
    λ i. actual_alike es fs same None e i ++ actuals_alike es fs same [] actuals i
actuals_alike es fs same (p ∷ ps) (e ∷ actuals) =
    λ i. actual_alike es fs same (Some p) e i ++ actuals_alike es fs same ps actuals i

action_alike : (signatures : List (List Parameter)) (es fs : List Entry) → outline es ≡ outline fs → (action : Action)
    → changed_by_action signatures es action ≡ changed_by_action signatures fs action
action_alike signatures es fs same Skip = refl
action_alike signatures es fs same Stop = refl
action_alike signatures es fs same (Assign target value) = ap listed (variable_alike es fs same target.name)
action_alike signatures es fs same (Input channel target) = ap listed (variable_alike es fs same target.name)
action_alike signatures es fs same (Output channel value) = refl
action_alike signatures es fs same (Instance name actuals) =
    actuals_alike es fs same (parameters_in signatures (meaning_in name es)) actuals
    ∙ ap (λ ps. changed_by_actuals fs ps actuals) (parameters_alike signatures es fs same name)

pub guard_alike : (es fs : List Entry) → outline es ≡ outline fs → (g : Guard)
    → changed_by_guard es g ≡ changed_by_guard fs g
guard_alike es fs same (Receives condition channel target) = ap listed (variable_alike es fs same target.name)
guard_alike es fs same (Skips condition) = refl

-- ---- names that are declared

pub added_alike : (name : List ℕ) (m n : Meaning) (es fs : List Entry) → flat m ≡ flat n → outline es ≡ outline fs
    → outline (add name m es) ≡ outline (add name n fs)
added_alike name m n es fs means same = λ i. record { name = name; meaning = means i } ∷ same i

all_alike : (names : List (List ℕ)) (m n : Meaning) (es fs : List Entry) → flat m ≡ flat n → outline es ≡ outline fs
    → outline (add_all names m es) ≡ outline (add_all names n fs)
all_alike [] m n es fs means same = same
all_alike (name ∷ names) m n es fs means same =
    all_alike names m n (add name m es) (add name n fs) means (added_alike name m n es fs means same)

either_flat : (t : Bool) (m n k : Meaning) → flat m ≡ k → flat n ≡ k → flat (cond t m n) ≡ k
either_flat true m n k one other = one
either_flat false m n k one other = other

table_flat : (type : ValueType) (size : Option ℕ) (count : ℕ) (range : Option Ends)
    → flat (table_of type size count range) ≡ Array array.Table type None full
table_flat type (Some size) count (Some range) =
    either_flat (nat_eq size count) (Array array.Table type (Some size) range)
    (Array array.Table type None (type_range type)) (Array array.Table type None full) refl refl
table_flat type (Some size) count None = refl
table_flat type None count (Some range) = refl
table_flat type None count None = refl

constant_flat : (es fs : List Entry) (type : ValueType) (v : Value)
    → flat (constant_meaning es type v) ≡ flat (constant_outline fs type v)
constant_flat es fs type (lines.Scalar e) = refl
constant_flat es fs type (lines.Table size items) =
    table_flat type (size_in es size) (length (as_list items)) (range_of_items es type items)
constant_flat es fs type (lines.Bytes size bytes) =
    table_flat type (size_in es size) (length bytes) (range_of_bytes type bytes)

outlined_flat : (es fs : List Entry) (type : ValueType) (v : Value)
    → flat (constant_outline es type v) ≡ flat (constant_outline fs type v)
outlined_flat es fs type (lines.Scalar e) = refl
outlined_flat es fs type (lines.Table size items) = refl
outlined_flat es fs type (lines.Bytes size bytes) = refl

variables_flat : (es fs : List Entry) (type : ValueType) (size : Option Expression)
    → flat (variable_meaning es type size) ≡ flat (variable_meaning fs type size)
variables_flat es fs type None = refl
variables_flat es fs type (Some size) = refl

channels_flat : (es fs : List Entry) (type : ValueType) (size : Option Expression)
    → flat (channel_meaning es type size) ≡ flat (channel_meaning fs type size)
channels_flat es fs type None = refl
channels_flat es fs type (Some size) = refl

pub outlined_alike : (d : Declaration) (es fs : List Entry) → outline es ≡ outline fs
    → outline (add_outline d es) ≡ outline (add_outline d fs)
outlined_alike (Constants c) es fs same =
    added_alike c.name (constant_outline es c.value_type c.value) (constant_outline fs c.value_type c.value) es fs
    (outlined_flat es fs c.value_type c.value) same
outlined_alike (Variables n) es fs same =
    all_alike (as_list n.names) (variable_meaning es n.value_type n.size) (variable_meaning fs n.value_type n.size) es
    fs (variables_flat es fs n.value_type n.size) same
outlined_alike (lines.Channels n) es fs same =
    all_alike (as_list n.names) (channel_meaning es n.value_type n.size) (channel_meaning fs n.value_type n.size) es fs
    (channels_flat es fs n.value_type n.size) same

-- what a declaration declares, and its outline
declared_alike : (d : Declaration) (es fs : List Entry) → outline es ≡ outline fs
    → outline (add_declaration d es) ≡ outline (add_outline d fs)
declared_alike (Constants c) es fs same =
    added_alike c.name (constant_meaning es c.value_type c.value) (constant_outline fs c.value_type c.value) es fs
    (constant_flat es fs c.value_type c.value) same
declared_alike (Variables n) es fs same = outlined_alike (Variables n) es fs same
declared_alike (lines.Channels n) es fs same = outlined_alike (lines.Channels n) es fs same

-- ---- processes

mutual
  changed_alike : (signatures : List (List Parameter)) (p : Process) (es fs : List Entry) → outline es ≡ outline fs
      → changed_by signatures es p ≡ changed_by signatures fs p
  changed_alike signatures (Declared d p) es fs same =
      changed_alike signatures p (add_outline d es) (add_outline d fs) (outlined_alike d es fs same)
  changed_alike signatures (Does line c) es fs same = construct_alike signatures c es fs same

  pub construct_alike : (signatures : List (List Parameter)) (c : Construct) (es fs : List Entry)
      → outline es ≡ outline fs → changed_by_construct signatures es c ≡ changed_by_construct signatures fs c
  construct_alike signatures (Act action) es fs same = action_alike signatures es fs same action
  construct_alike signatures (Block kind cs) es fs same = components_alike signatures cs es fs same
  construct_alike signatures (Replicated r b) es fs same = body_alike signatures r b es fs same

  body_alike : (signatures : List (List Parameter)) (r : Replicator) (b : Body) (es fs : List Entry)
      → outline es ≡ outline fs → changed_by_body signatures es r b ≡ changed_by_body signatures fs r b
  body_alike signatures r (One kind c) es fs same =
      let m = index_meaning (is_seq (block_word kind)) None in
      component_alike signatures c (add r.name m es) (add r.name m fs) (added_alike r.name m m es fs refl same)

  components_alike : {part : Part} (signatures : List (List Parameter)) (cs : Components part) (es fs : List Entry)
      → outline es ≡ outline fs → changed_by_components signatures es cs ≡ changed_by_components signatures fs cs
  components_alike signatures NoComponent es fs same = refl
  components_alike signatures (Further cs c) es fs same =
      λ i. components_alike signatures cs es fs same i ++ component_alike signatures c es fs same i

  component_alike : {part : Part} (signatures : List (List Parameter)) (c : Component part) (es fs : List Entry)
      → outline es ≡ outline fs → changed_by_component signatures es c ≡ changed_by_component signatures fs c
  component_alike signatures (Plain p) es fs same = changed_alike signatures p es fs same
  component_alike signatures (Chosen line e p) es fs same = changed_alike signatures p es fs same
  component_alike signatures (Guarded line g p) es fs same =
      λ i. guard_alike es fs same g i ++ changed_alike signatures p es fs same i

-- ---- laws

pub changes_follow_outlines : ChangesFollowOutlines
changes_follow_outlines = record { processes = changed_alike; bodies = body_alike }

pub declaring_keeps_outlines : DeclaringKeepsOutlines
declaring_keeps_outlines = declared_alike
