-- What is known before main, item by item.
use Rattle.std.proofs.Common.{◌≡◌, ℕ, zero, suc, true, false, cond, List, [], ◌∷◌, ◌++◌}
use Rattle.std.proofs.Common.{length, map, Option, Some, None, inl, inr, refl, sym, ap, subst, arith, ◌∙◌, ◌⊎◌, max}
use Rattle.std.proofs.Common.{append_assoc, IsSomeAnd}
use Rattle.std.proofs.lemmas.Bool.Decides.{nat_tests}
use Rattle.std.proofs.lemmas.List.{length-append, append-nil}
use Rattle.std.specs.List.{AllByRecursion, slice_get}
use Rattle.std.specs.Prelude.{nat_eq, option_map}
use Rattle.std.proofs.lemmas.Bool.{and_parts, cond_both, true_from_ne_false}
use Rattle.word_arithmetic.specs.Range.{Ends, full}
use Rattle.occam_parser.specs.declared.tree.ValueType.{ValueType}
use Rattle.occam_parser.specs.declared.tree.FormalKind.{FormalKind}
use Rattle.occam_parser.specs.declared.tree.FormalKind.TheVariants as formal_kind
use Rattle.occam_parser.specs.Expressions.{Expression}
use Rattle.occam_parser.specs.Lines as lines
use Rattle.occam_parser.specs.Lines.{Formal, Constants, Value}
use Rattle.occam_parser.specs.Blocks.{Procedure, ProgramItem, GlobalConstant, GlobalProcedure, item_line}
use Rattle.occam_parser.specs.Words.{item_has_words}
use Rattle.scalar_ranges.specs.declared.bounds.TheConstants.{OUT_OF_RANGE}
use Rattle.scalar_ranges.specs.declared.scope.ArrayKind.TheVariants as array
use Rattle.scalar_ranges.specs.Entries as entries
use Rattle.scalar_ranges.specs.Entries.{Meaning, Constant, Scalar, Array, Channel, Channels, Entry, type_range}
use Rattle.scalar_ranges.specs.Environments.{Nothing, Environment, item_at}
use Rattle.scalar_ranges.specs.Narrowing.{with_range}
use Rattle.scalar_ranges.specs.Moves as moves
use Rattle.scalar_ranges.specs.Moves.{Known, begun_with}
use Rattle.scalar_ranges.specs.MoveLaws.{shape, meaning_at}
use Rattle.scalar_ranges.proofs.MoveLaws.{shapes_stay}
use Rattle.scalar_ranges.proofs.Nesting.{outermost_twice}
use Rattle.program_uses.specs.declared.faults.TheConstants.{NO_MAIN}
use Rattle.program_uses.specs.declared.uses.Direction.{Direction}
use Rattle.program_uses.specs.Changes.{changed_by}
use Rattle.program_uses.specs.Constants.{size_in}
use Rattle.program_uses.specs.Declaring.{add, add_declaration, constant_meaning, table_of, range_of_items}
use Rattle.program_uses.specs.Declaring.{formal_meaning, add_formals}
use Rattle.program_uses.specs.LinkNames.{link_way}
use Rattle.program_uses.proofs.ScopesExtended.{inner_cut}
use Rattle.program_meaning.specs.Links.{Port}
use Rattle.program_meaning.specs.Meaning.{link_number, port_for, bind_formals, no_ports}
use Rattle.program_meaning.specs.Meaning.{declare_item}
use Rattle.program_meaning.specs.Storing.{bind, declare}
use Rattle.program_meaning.specs.GoingWell.{IsTrueIn}
use Rattle.program_meaning.proofs.MovesWithin.{within_shape}
use Rattle.usage_checks.specs.AfterProcesses.{inside, left_to}
use Rattle.usage_checks.specs.ItemRules.{in_body, after_procedure, Outside, outermost, around_in, after_weighing}
use Rattle.usage_checks.specs.ItemRules.{weighed}
use Rattle.usage_checks.specs.ItemRules.{Ends as EndsAt, EndsCounting, after_walk, BreaksNoRule}
use Rattle.usage_checks.specs.MainRules.{is_link_as, are_links, is_main, IsNoMain}
use Rattle.usage_checks.specs.Reaching.{Comes}
use Rattle.usage_checks.specs.Sizes.{Measured, measures_of_item, end_in}
use Rattle.usage_checks.proofs.PlacesHold.{Unbroken, items_hold}
use Rattle.usage_checks.proofs.ActionsGoWell.{IsOwn, at_below}
use Rattle.usage_checks.proofs.ProcessesGoWell.{declared_true}
use Rattle.usage_checks.proofs.RangesStay.{ranges_stay}

-- ---- what is known outside of procedures

-- a constant, a table or a procedure
abbrev pub IsGlobal : Meaning → Type 0
IsGlobal (Constant type value) = Unit {0}
IsGlobal (Array array.Table type size range) = Unit {0}
IsGlobal (entries.Procedure number) = Unit {0}
IsGlobal m = ⊥

pub global_own : (m : Meaning) → IsGlobal m → IsOwn (with_range (λ r. full) m)
global_own (Constant type value) is = tt
global_own (Array array.Table type size range) is = tt
global_own (Array array.Variable type size range) is = absurd is
global_own (Array array.Value type size range) is = absurd is
global_own (entries.Procedure number) is = tt
global_own (Scalar kind type range) is = absurd is
global_own (Channel type) is = absurd is
global_own (Channels type size) is = absurd is

pub flat_global : (m : Meaning) → IsGlobal m → with_range (λ r. full) m ≡ m
flat_global (Constant type value) is = refl
flat_global (Array kind type size range) is = refl
flat_global (entries.Procedure number) is = refl
flat_global (Scalar kind type range) is = absurd is
flat_global (Channel type) is = absurd is
flat_global (Channels type size) is = absurd is

pub global_by : (m n : Meaning) → IsGlobal n → with_range (λ r. full) m ≡ n → m ≡ n
global_by (Scalar kind type range) n is same = absurd (subst IsGlobal (sym same) is)
global_by (Constant type value) n is same = same
global_by (Array kind type size range) n is same = same
global_by (Channel type) n is same = same
global_by (Channels type size) n is same = same
global_by (entries.Procedure number) n is same = same

abbrev first_entry : Entry → List Entry → Entry
first_entry e [] = e
first_entry e (d ∷ ds) = d

-- what is global has no range that a move changes
pub globals_same : (ds es : List Entry) → AllByRecursion (λ e. IsGlobal e.meaning) es → shape ds ≡ shape es → ds ≡ es
globals_same [] [] all same = refl
globals_same [] (e ∷ es) all same = absurd (cc same)
globals_same (d ∷ ds) [] all same = absurd (cc same)
globals_same (d ∷ ds) (e ∷ es) all same =
    let name = ap (λ xs. (first_entry d xs).name) same in
    let flat = ap (λ xs. (first_entry d xs).meaning) same in
    let means = global_by d.meaning e.meaning all.0 (flat ∙ flat_global e.meaning all.0) in
    let rest : shape ds ≡ shape es = cc in
    λ i. record { name = name i; meaning = means i } ∷ globals_same ds es all.1 rest i

pub table_global : (type : ValueType) (size : Option ℕ) (count : ℕ) (range : Option Ends)
    → IsGlobal (table_of type size count range)
table_global type None count range = tt
table_global type (Some n) count None = tt
table_global type (Some n) count (Some range) =
    cond_both (nat_eq n count) (Array array.Table type (Some n) range) (Array array.Table type None (type_range type))
    IsGlobal (λ t. tt) (λ t. tt)

pub constant_global : (es : List Entry) (type : ValueType) (value : Value) → IsGlobal (constant_meaning es type value)
constant_global es type (lines.Scalar e) = tt
constant_global es type (lines.Table size items) = table_global type (size_in es size) _ (range_of_items es type items)
constant_global es type (lines.Bytes size bytes) = table_global type (size_in es size) (length bytes) _

-- what holds where an item comes
pub record Before (o : Outside) (env : Environment) : Type 0 where
  pub holds : IsTrueIn o.known.entries env
  pub global : AllByRecursion (λ e. IsGlobal e.meaning) o.known.entries
  pub blocks : o.known.blocks ≡ []
  pub counted : o.uncounted ≡ None

-- ---- counting does not end

pub never_ends : (line : Option ℕ) → Unbroken (EndsAt None line) → line ≡ None
never_ends None unbroken = refl
never_ends (Some line) unbroken =
    absurd (unbroken (record { number = OUT_OF_RANGE; line = line }) (refl, refl))

pub weighing_before : (x : Option ℕ) (ms : List Measured) (o : Outside) (env : Environment) → x ≡ None
    → Unbroken (EndsAt x (after_weighing x ms o).uncounted) → Before o env → Before (after_weighing x ms o) env
weighing_before (Some line) ms o env is unbroken before = absurd (cc is)
weighing_before None ms o env is unbroken before = record {
  holds = before.holds;
  global = before.global;
  blocks = before.blocks;
  counted = never_ends (end_in o.size ms) unbroken;
}

pub weighed_before : (item : ProgramItem) (o : Outside) (env : Environment) → Unbroken (EndsCounting item o)
    → Before o env → Before (weighed item o) env
weighed_before item o env unbroken before =
    weighing_before o.uncounted (measures_of_item o.signatures o.known.entries item) o env before.counted unbroken
    before

-- ---- formals

pub formals_inner : (outer : List Entry) (fs : List Formal) (es : List Entry)
    → (inner : List Entry) × (add_formals outer fs es ≡ inner ++ es)
formals_inner outer [] es = ([], refl)
formals_inner outer (f ∷ fs) es =
    let e : Entry = record { name = f.name; meaning = formal_meaning outer f } in
    let rest = formals_inner outer fs (e ∷ es) in
    (rest.0 ++ e ∷ [], rest.1 ∙ sym (append_assoc rest.0 (e ∷ []) es))

-- what is known after a procedure, whatever it does
pub procedure_leaves : (o : Outside) (p : Procedure) (env : Environment) → Before o env
    → (after_procedure (around_in o) p o.known).entries ≡ o.known.entries
procedure_leaves o p env before =
    let k = o.known in
    let a = around_in o in
    let body = in_body p k in
    let n = length k.entries in
    let more = formals_inner k.entries p.head.formals k.entries in
    let long = ap length more.1 in
    let added = length-append more.0 k.entries in
    let begun = ap begun_with before.blocks in
    let stays = ranges_stay.processes a p.body body (omega (arith, begun)) in
    let final = inside a p.body body in
    let inner = within_shape (changed_by a.signatures body.entries p.body)
    (moves.outermost (length body.entries) final.entries) body.entries stays.within in
    let most : max n (begun_with final.blocks) ≡ n =
    let same = ap begun_with (stays.blocks ∙ before.blocks) in omega (arith, same) in
    globals_same (left_to n final).entries k.entries before.global
    (ap (λ i. shape (moves.outermost i final.entries)) most
    ∙ ap shape (sym (outermost_twice n (length body.entries) final.entries (omega (arith, long, added))))
    ∙ shapes_stay.leaving (moves.outermost (length body.entries) final.entries) body.entries n inner
    ∙ ap shape (ap (moves.outermost n) more.1 ∙ inner_cut more.0 k.entries))

pub procedure_blocks : (o : Outside) (p : Procedure) (env : Environment) → Before o env
    → (after_procedure (around_in o) p o.known).blocks ≡ []
procedure_blocks o p env before =
    let body = in_body p o.known in
    let begun = ap begun_with before.blocks in
    (ranges_stay.processes (around_in o) p.body body (omega (arith, begun))).blocks ∙ before.blocks

-- ---- one item

pub item_after : (item : ProgramItem) (items : List ProgramItem) (o : Outside) (env : Environment)
    → BreaksNoRule items → Comes o item items outermost → item_has_words item ≡ true → Before o env
    → IsSomeAnd (declare_item item env) (Before (after_walk item o))
item_after (GlobalConstant c) items o env none comes words before =
    let right = items_hold items o (GlobalConstant c) none comes in
    let es = o.known.entries in
    both_before (declare (Constants c) env) (declared_true es env (Constants c) right.holds words before.holds)
  where
    both_before : (x : Option Environment) → IsSomeAnd x (IsTrueIn (add_declaration (Constants c) o.known.entries))
        → IsSomeAnd x (Before (after_walk (GlobalConstant c) o))
    both_before None h = absurd h
    both_before (Some inner) h = record {
      holds = h;
      global = (constant_global o.known.entries c.value_type c.value, before.global);
      blocks = before.blocks;
      counted = before.counted;
    }
item_after (GlobalProcedure p) items o env none comes words before =
    let same = procedure_leaves o p env before in
    let m : Meaning = entries.Procedure (length o.signatures) in
    record {
      holds = subst (λ es. IsTrueIn (add p.head.name m es) (bind p.head.name Nothing env)) (sym same) (record {
        meets = (refl, tt, before.holds.meets);
        typed = (tt, before.holds.typed);
      });
      global = (tt, subst (AllByRecursion (λ e. IsGlobal e.meaning)) (sym same) before.global);
      blocks = procedure_blocks o p env before;
      counted = before.counted;
    }

-- ---- main

-- the last of some items
abbrev pub last_of : ProgramItem → List ProgramItem → ProgramItem
last_of item [] = item
last_of item (next ∷ items) = last_of next items

pub last_found : (item : ProgramItem) (items : List ProgramItem)
    → slice_get (item ∷ items) (length items) ≡ Some (last_of item items)
last_found item [] = refl
last_found item (next ∷ items) = last_found next items

pub last_is_main : (item : ProgramItem) (items : List ProgramItem) → BreaksNoRule (item ∷ items)
    → is_main (last_of item items) ≡ true
last_is_main item items none =
    true_from_ne_false (is_main (last_of item items))
    (λ is. none (record { number = NO_MAIN; line = item_line (last_of item items) })
    (inr (subst (λ o. IsNoMain o (record { number = NO_MAIN; line = item_line (last_of item items) }))
    (sym (ap (slice_get (item ∷ items)) (omega arith) ∙ last_found item items)) (refl, (is, refl)))))

-- main's formals are channels, and links by their names
pub link_means : (outer : List Entry) (kind : FormalKind) (size : Option Expression) (type : ValueType) (name : List ℕ)
    → is_link_as kind size name ≡ true
    → formal_meaning outer (record { kind = kind; size = size; value_type = type; name = name }) ≡ Channel type
link_means outer formal_kind.Channel None type name is = refl
link_means outer formal_kind.Channel (Some e) type name is = absurd (cc is)
link_means outer formal_kind.Value size type name is = absurd (cc is)
link_means outer formal_kind.Variable size type name is = absurd (cc is)

-- each entry has its port, if it is a link
pub record Linked (ps : List (Option Port)) (es : List Entry) : Type 0 where
  pub long : length ps ≡ length es
  pub own : AllByRecursion (λ e. IsOwn e.meaning) es
  pub ports : (n : ℕ) (p : Port) → item_at n ps ≡ Some (Some p) → meaning_at n es ≡ Some (Channel p.carries)

pub item_last : (n : ℕ) (ps : List (Option Port)) (q r : Option Port) → item_at n (ps ++ q ∷ []) ≡ Some r
    → (item_at n ps ≡ Some r) ⊎ ((n ≡ length ps) × (q ≡ r))
item_last zero [] q r at = inr (refl, cc)
item_last (suc n) [] q r at = absurd (cc at)
item_last zero (x ∷ ps) q r at = inl at
item_last (suc n) (x ∷ ps) q r at = behind (item_last n ps q r at)
  where
    behind : (item_at n ps ≡ Some r) ⊎ ((n ≡ length ps) × (q ≡ r))
        → (item_at n ps ≡ Some r) ⊎ ((suc n ≡ length (x ∷ ps)) × (q ≡ r))
    behind (inl h) = inl h
    behind (inr h) = inr (ap suc h.0, h.1)

pub linked_more : (ps : List (Option Port)) (q : Option Port) (e : Entry) (es : List Entry) → Linked ps es
    → IsOwn e.meaning → ((p : Port) → q ≡ Some p → e.meaning ≡ Channel p.carries) → Linked (ps ++ q ∷ []) (e ∷ es)
linked_more ps q e es linked own carries = record {
  long = let added = length-append ps (q ∷ []) in let same = linked.long in omega (arith, added, same);
  own = (own, linked.own);
  ports = λ n p at. by_place n p (item_last n ps q (Some p) at);
}
  where
    by_place : (n : ℕ) (p : Port) → (item_at n ps ≡ Some (Some p)) ⊎ ((n ≡ length ps) × (q ≡ Some p))
        → meaning_at n (e ∷ es) ≡ Some (Channel p.carries)
    by_place n p (inl there) =
        let means = linked.ports n p there in
        let less = at_below n (Channel p.carries) es means in
        let other : nat_eq (length es) n ≡ false = grind (arith, nat_tests) in
        ap (λ t. cond t (Some e.meaning) (meaning_at n es)) other ∙ means
    by_place n p (inr here) =
        let same = linked.long in
        let last : nat_eq (length es) n ≡ true = grind (arith, nat_tests, here.0, same) in
        ap (λ t. cond t (Some e.meaning) (meaning_at n es)) last ∙ ap Some (carries p here.1)

pub no_port : (n : ℕ) (env : Environment) (p : Port) → item_at n (no_ports env) ≡ Some (Some p) → ⊥
no_port n [] p at = cc at
no_port zero (b ∷ env) p at = cc at
no_port (suc n) (b ∷ env) p at = no_port n env p at

pub no_ports_long : (env : Environment) → length (no_ports env) ≡ length env
no_ports_long [] = refl
no_ports_long (b ∷ env) = ap suc (no_ports_long env)

pub globals_own : (es : List Entry) → AllByRecursion (λ e. IsGlobal e.meaning) es
    → AllByRecursion (λ e. IsOwn e.meaning) (shape es)
globals_own [] all = tt
globals_own (e ∷ es) all = (global_own e.meaning all.0, globals_own es all.1)

abbrev port_with : Formal → Direction → Port
port_with f way = record { way = way; link = link_number f.name; carries = f.value_type }

pub port_of_formal : (f : Formal) (p : Port) (o : Option Direction) → link_way f.name ≡ o → port_for f ≡ Some p
    → f.value_type ≡ p.carries
port_of_formal f p None way is =
    absurd (cc (ap (option_map (port_with f)) (sym way) ∙ is))
port_of_formal f p (Some d) way is =
    let same : port_with f d ≡ p = cc (ap (option_map (port_with f)) (sym way) ∙ is) in ap (λ q. q.carries) same

pub formals_true : (outer : List Entry) (fs : List Formal) (es : List Entry) (env : Environment) → are_links fs ≡ true
    → IsTrueIn es env → IsTrueIn (add_formals outer fs es) (bind_formals fs env)
formals_true outer [] es env links holds = holds
formals_true outer (f ∷ fs) es env links holds =
    let both = and_parts (is_link_as f.kind f.size f.name) (are_links fs) links in
    let means = link_means outer f.kind f.size f.value_type f.name both.0 in
    formals_true outer fs (add f.name (formal_meaning outer f) es) (bind f.name Nothing env) both.1
    (subst (λ m. IsTrueIn (add f.name m es) (bind f.name Nothing env)) (sym means)
    (record { meets = (refl, tt, holds.meets); typed = (tt, holds.typed) }))

pub formals_linked : (outer : List Entry) (fs : List Formal) (es : List Entry) (ps : List (Option Port))
    → are_links fs ≡ true → Linked ps (shape es) → Linked (ps ++ map port_for fs) (shape (add_formals outer fs es))
formals_linked outer [] es ps links linked =
    subst (λ qs. Linked qs (shape es)) (sym (append-nil ps)) linked
formals_linked outer (f ∷ fs) es ps links linked =
    let both = and_parts (is_link_as f.kind f.size f.name) (are_links fs) links in
    let means = link_means outer f.kind f.size f.value_type f.name both.0 in
    let m = formal_meaning outer f in
    let flat : with_range (λ r. full) m ≡ Channel f.value_type = ap (with_range (λ r. full)) means in
    subst (λ qs. Linked qs (shape (add_formals outer (f ∷ fs) es)))
    (append_assoc ps (port_for f ∷ []) (map port_for fs))
    (formals_linked outer fs (add f.name m es) (ps ++ port_for f ∷ []) both.1
    (linked_more ps (port_for f) (record { name = f.name; meaning = with_range (λ r. full) m }) (shape es) linked
    (subst IsOwn (sym flat) tt)
    (λ p is. flat ∙ ap Channel (port_of_formal f p (link_way f.name) refl is))))
