-- At each place that the walk over a program reaches which breaks no rule, names are whole.
use Rattle.std.proofs.Common.{◌≡◌, ℕ, zero, suc, ◌<◌, ℤ, pos, Bool, true, false, cond, ◌&&◌, List, [], ◌∷◌, ◌++◌}
use Rattle.std.proofs.Common.{length, Option, Some, None, inl, inr, refl, sym, ap, subst, arith, ◌∙◌, ◌⊎◌}
use Rattle.std.proofs.Common.{◌≤◌, ◌+ℤ◌, negsuc, append_assoc, eq-or-lt_of_le, le_of_suc-le-suc}
use Rattle.std.proofs.lemmas.Int.{ints}
use Rattle.std.proofs.lemmas.List.{length-append, append-nil}
use Rattle.std.specs.Prelude.{int_le, is_some, unsigned_abs}
use Rattle.std.proofs.lemmas.Bool.{and_parts, lt-ltb}
use Rattle.word_arithmetic.specs.Word.{greatest_word, is_word}
use Rattle.word_arithmetic.specs.Range.{Ends}
use Rattle.word_arithmetic.proofs.WordLaws.{words_lie_between}
use Rattle.occam_parser.specs.Terminals.{Terminal}
use Rattle.occam_parser.specs.OneOrMore.{as_list}
use Rattle.occam_parser.specs.Lines.{Declaration, Constants, Variables, Channels, Replicator, Formal, block_word}
use Rattle.occam_parser.specs.Blocks.{Process, Declared, Does, Construct, Act, Block, Replicated, Body, One, Part}
use Rattle.occam_parser.specs.Blocks.{Components, NoComponent, Further, Component, Plain, Chosen, Guarded, Procedure}
use Rattle.occam_parser.specs.Blocks.{ProgramItem, GlobalConstant, GlobalProcedure, declaration_line}
use Rattle.scalar_ranges.specs.Entries as entries
use Rattle.scalar_ranges.specs.Entries.{Meaning, Entry}
use Rattle.scalar_ranges.specs.Moves.{Known}
use Rattle.program_uses.specs.Actions.{Around, is_before}
use Rattle.program_uses.specs.Changes.{changed_by, changed_by_body}
use Rattle.program_uses.specs.Declaring.{add, add_all, add_declaration, formal_meaning, add_formals}
use Rattle.program_uses.specs.Indices.{is_sequence, is_count, turns_from, turns_for, index_at, index_of, index_in}
use Rattle.program_uses.specs.Indices.{turn_by_turn}
use Rattle.program_uses.specs.InTurn.{in_turn}
use Rattle.program_uses.specs.Signatures.{Parameter}
use Rattle.usage_checks.specs.declared.channel_rules.Position.{Position}
use Rattle.program_uses.specs.declared.telling.UsageFault.{UsageFault}
use Rattle.usage_checks.specs.AfterProcesses.{inside, after_construct, begun, begun_body, chosen}
use Rattle.usage_checks.specs.AfterProcesses.{after_components, after_component}
use Rattle.usage_checks.specs.Following.{after_action, after_guard}
use Rattle.usage_checks.specs.Holding.{ReplicatorHolds, DeclarationHolds, FormalsHold}
use Rattle.usage_checks.specs.BrokenInTurn.{BreaksInTurn}
use Rattle.usage_checks.specs.ItemRules.{in_body, after_procedure, signature_of, Outside, outermost, around_in}
use Rattle.usage_checks.specs.ItemRules.{after_weighing, weighed, after_walk, BreaksWalk, after_item, BreaksItem}
use Rattle.usage_checks.specs.ItemRules.{BreaksNoRule}
use Rattle.usage_checks.specs.LineRules.{fits_word}
use Rattle.usage_checks.specs.NameRules.{with_entries, BreaksDeclared, declared_meaning}
use Rattle.usage_checks.specs.ProcessRules.{BreaksInTurns, position_in, BreaksIn, BreaksConstruct, BreakComponents}
use Rattle.usage_checks.specs.ProcessRules.{BreaksComponent}
use Rattle.usage_checks.specs.Reaching.{Standing, Piece, AProcess, AComponent, Comes, in_procedure, in_block}
use Rattle.usage_checks.specs.Reaching.{repeats_in, turn_of, in_turn_of, IsUnder, StandsAmong, StandsIn}
use Rattle.usage_checks.specs.Reaching.{process_of, entered, Reaches, to_body, behind, to_part, to_process}
use Rattle.usage_checks.specs.Reaching.{ProcessHolds, ComponentHolds}
use Rattle.usage_checks.specs.Reaching.{IsRight, ItemHolds, ItemIsRight, PlacesHold, ItemsHold, SignaturesStay}
use Rattle.usage_checks.specs.Sizes.{Measured, measures_of_item}
use Rattle.program_uses.specs.Telling.{At}
use Rattle.usage_checks.specs.Walking.{word_of}
use Rattle.usage_checks.specs.Whole.{is_whole, AreWhole, IsWhole}
use Rattle.usage_checks.proofs.LinesHold.{action_holds, condition_holds, guard_holds, replicator_holds}
use Rattle.usage_checks.proofs.LinesHold.{declaration_holds, all_formals_hold, declared_whole, formal_whole}
use Rattle.usage_checks.proofs.WholeMoves.{action_whole, entries_whole, left_whole, begun_whole, ended_whole}
use Rattle.usage_checks.proofs.WholeMoves.{next_whole, chosen_whole, guarded_whole, process_whole, body_begun_whole}
use Rattle.usage_checks.proofs.WholeMoves.{repeated_whole, whole_more}

-- what no fault breaks
abbrev pub Unbroken : (UsageFault → Type 0) → Type 0
Unbroken Breaks = (f : UsageFault) → Breaks f → ⊥

at_line : (line : ℕ) (Breaks : ℕ → Type 0) → Unbroken (At line Breaks) → (n : ℕ) → Breaks n → ⊥
at_line line Breaks none n h = none (record { number = n; line = line }) (refl, h)

-- ---- names that are declared

add_all_whole : (count : ℕ) (names : List (List ℕ)) (m : Meaning) (es : List Entry) → is_whole count m ≡ true
    → AreWhole count es → AreWhole count (add_all names m es)
add_all_whole count [] m es h w = w
add_all_whole count (name ∷ names) m es h w = add_all_whole count names m (add name m es) h (h, w)

declaration_whole : (count : ℕ) (d : Declaration) (es : List Entry) → DeclarationHolds es d → AreWhole count es
    → AreWhole count (add_declaration d es)
declaration_whole count (Constants c) es h w = (declared_whole count es (Constants c) h, w)
declaration_whole count (Variables n) es h w =
    add_all_whole count (as_list n.names) (declared_meaning es (Variables n)) es
    (declared_whole count es (Variables n) h) w
declaration_whole count (Channels n) es h w =
    add_all_whole count (as_list n.names) (declared_meaning es (Channels n)) es
    (declared_whole count es (Channels n) h) w

pub known_declared : (count first : ℕ) (d : Declaration) (k : Known) → Unbroken (BreaksDeclared first d k.entries)
    → IsWhole count k → IsWhole count (with_entries (add_declaration d) k)
known_declared count first d k none w =
    let h = declaration_holds count k.entries d w.entries
    (at_line (declaration_line d) _ (λ f x. none f (inl x))) in
    entries_whole count (add_declaration d) k w (declaration_whole count d k.entries h w.entries)

formals_whole : (count : ℕ) (outer : List Entry) (fs : List Formal) (es : List Entry) → FormalsHold outer fs
    → AreWhole count es → AreWhole count (add_formals outer fs es)
formals_whole count outer [] es h w = w
formals_whole count outer (f ∷ fs) es h w =
    formals_whole count outer fs (add f.name (formal_meaning outer f) es) h.1 (formal_whole count outer f h.0, w)

-- ---- the index of a turn

pub index_word : (base count : ℤ) (n turns : ℕ) → (int_le (pos 0) count && fits_word (Some base) count) ≡ true
    → n < turns → (turns ≡ 1) ⊎ ((is_count base count ≡ true) × (turns ≡ unsigned_abs count))
    → is_word (base +ℤ pos n) ≡ true
index_word base count n turns h less (inl once) =
    let both = and_parts (int_le (pos 0) count) (fits_word (Some base) count) h in
    let fits = and_parts (is_word base) (int_le (base +ℤ count) (greatest_word +ℤ pos 1)) both.1 in
    let same : base +ℤ pos n ≡ base = omega (arith, ints, less, once) in
    subst (λ v. is_word v ≡ true) (sym same) fits.0
index_word base (pos times) n turns h less (inr (counted, all)) =
    let both = and_parts (int_le (pos 0) (pos times)) (fits_word (Some base) (pos times)) h in
    let fits = and_parts (is_word base) (int_le (base +ℤ pos times) (greatest_word +ℤ pos 1)) both.1 in
    let lies = (words_lie_between base).0 fits.0 in
    (words_lie_between (base +ℤ pos n)).1
    (omega (arith, ints, lies.0), omega (arith, ints, less, all, fits.1))
index_word base (negsuc times) n turns h less (inr (counted, all)) = absurd (cc h)

index_known : (base count : ℤ) (n turns : ℕ) → (int_le (pos 0) count && fits_word (Some base) count) ≡ true
    → n < turns → (turns ≡ 1) ⊎ ((is_count base count ≡ true) × (turns ≡ unsigned_abs count))
    → is_some (index_at (Some base) n) ≡ true
index_known base count n turns h less how =
    ap (λ t. is_some (cond t (Some (base +ℤ pos n)) None)) (index_word base count n turns h less how)

how_often : (counted : Bool) (base count : ℤ) (t : Bool) → t ≡ is_count base count
    → (cond counted (cond t (unsigned_abs count) 1) 1 ≡ 1)
    ⊎ ((is_count base count ≡ true) × (cond counted (cond t (unsigned_abs count) 1) 1 ≡ unsigned_abs count))
how_often false base count t is = inl refl
how_often true base count false is = inl refl
how_often true base count true is = inr (sym is, refl)

turn_whole : (procedures : ℕ) (counted sequential : Bool) (first times : Option ℤ) (base count : ℤ) (range : Ends)
    (n : ℕ) → first ≡ Some base → times ≡ Some count
    → (int_le (pos 0) count && fits_word (Some base) count) ≡ true
    → n < (turns_for counted sequential first times).count
    → is_whole procedures (index_of sequential range (index_at (turns_for counted sequential first times).first n))
    ≡ true
turn_whole procedures counted true first times base count range n is_first is_times h less = refl
turn_whole procedures counted false first times base count range n is_first is_times h less =
    let all : turns_from counted first times ≡ turns_from counted (Some base) (Some count) =
    λ i. turns_from counted (is_first i) (is_times i) in
    ap (λ t. is_some (index_at t.first n)) all
    ∙ index_known base count n (turns_from counted (Some base) (Some count)).count h
    (subst (λ t. n < t.count) all less) (how_often counted base count (is_count base count) refl)

index_whole : (count : ℕ) (a : Around) (line : ℕ) (r : Replicator) (b : Body) (k : Known) (n : ℕ)
    → ReplicatorHolds k.entries r → n < (repeats_in a line r b k).turns.count
    → is_whole count (index_in (repeats_in a line r b k) n) ≡ true
index_whole count a line r b k n h less =
    turn_whole count (is_before line a.uncounted) (is_sequence b) _ _ h.base h.count (repeats_in a line r b k).indices n
    h.base_is h.count_is h.fits less

indexed_whole : (count : ℕ) (name : List ℕ) (m : Meaning) (k : Known) → is_whole count m ≡ true → IsWhole count k
    → IsWhole count (with_entries (add name m) k)
indexed_whole count name m k h w = entries_whole count (add name m) k w (h, w.entries)

-- ---- turns

pub last_or_before : (m n : ℕ) → m < suc n → (m ≡ n) ⊎ (m < n)
last_or_before m n h = eq-or-lt_of_le (le_of_suc-le-suc h)

-- what each turn keeps holds after n of them
turns_keep : {K : Type 0} (P : K → Type 0) (step : ℕ → K → K) (Breaks : ℕ → K → UsageFault → Type 0) (count n : ℕ)
    (k : K) → ((m : ℕ) (l : K) → m < count → Unbroken (Breaks m l) → P l → P (step m l)) → n ≤ count
    → Unbroken (BreaksInTurns step Breaks n k) → P k → P (turn_by_turn step n k)
turns_keep P step Breaks count zero k keeps within none p = p
turns_keep P step Breaks count (suc n) k keeps within none p =
    keeps n (turn_by_turn step n k) within (λ f x. none f (inr x))
    (turns_keep P step Breaks count n k keeps (omega (arith, within)) (λ f x. none f (inl x)) p)

-- and each turn breaks no rule
turn_unbroken : {K : Type 0} (step : ℕ → K → K) (Breaks : ℕ → K → UsageFault → Type 0) (n m : ℕ) (k : K) → m < n
    → Unbroken (BreaksInTurns step Breaks n k) → Unbroken (Breaks m (turn_by_turn step m k))
turn_unbroken step Breaks zero m k less none = absurd (omega (arith, less))
turn_unbroken step Breaks (suc n) m k less none =
    elim (last_or_before m n less) [
      | inl is ↦ subst (λ i. Unbroken (Breaks i (turn_by_turn step i k))) (sym is) (λ f x. none f (inr x))
      | inr before ↦ turn_unbroken step Breaks n m k before (λ f x. none f (inl x))
    ]

turns_before : {K : Type 0} (step : ℕ → K → K) (Breaks : ℕ → K → UsageFault → Type 0) (n m : ℕ) (k : K) → m ≤ n
    → Unbroken (BreaksInTurns step Breaks n k) → Unbroken (BreaksInTurns step Breaks m k)
turns_before step Breaks zero m k within none =
    let is : m ≡ 0 = omega (arith, within) in subst (λ i. Unbroken (BreaksInTurns step Breaks i k)) (sym is) none
turns_before step Breaks (suc n) m k within none =
    elim (last_or_before m (suc n) (omega (arith, within))) [
      | inl is ↦ subst (λ i. Unbroken (BreaksInTurns step Breaks i k)) (sym is) none
      | inr before ↦ turns_before step Breaks n m k (omega (arith, before)) (λ f x. none f (inl x))
    ]

-- ---- processes

-- where a process ends that breaks no rule, names are whole as they were before it
module _ (a : Around) where
  mutual
    inside_whole : (p : Position) (first : ℕ) (q : Process) (k : Known) → Unbroken (BreaksIn a p first q k)
        → IsWhole (length a.signatures) k → IsWhole (length a.signatures) (inside a q k)
    inside_whole p first (Declared d q) k none w =
        inside_whole p first q (with_entries (add_declaration d) k) (λ f x. none f (inr x))
        (known_declared (length a.signatures) first d k (λ f x. none f (inl x)) w)
    inside_whole p first (Does line c) k none w = construct_whole p line c k none w

    construct_whole : (p : Position) (line : ℕ) (c : Construct) (k : Known) → Unbroken (BreaksConstruct a p line c k)
        → IsWhole (length a.signatures) k → IsWhole (length a.signatures) (after_construct a line c k)
    construct_whole p line (Act action) k none w =
        entries_whole (length a.signatures) (after_action a.signatures action) k w
        (action_whole (length a.signatures) a.signatures action k.entries w.entries)
    construct_whole p line (Block kind cs) k none w =
        ended_whole (length a.signatures) (block_word kind)
        (after_components a (block_word kind) cs (begun (block_word kind) k))
        (components_whole (position_in (block_word kind) (length k.entries) p) (block_word kind) cs
        (begun (block_word kind) k) none (begun_whole (length a.signatures) (block_word kind) k w))
    construct_whole p line (Replicated r (One kind c)) k none w =
        let count = length a.signatures in
        let b = One kind c in
        let repeats = repeats_in a line r b k in
        let h = replicator_holds count k.entries r w.entries (at_line line _ (λ f x. none f (inl x))) in
        let changed = changed_by_body a.signatures k.entries r b in
        let inner = position_in (block_word kind) (length k.entries) p in
        let turn : (n : ℕ) (l : Known) → n < repeats.turns.count
        → Unbroken (BreaksComponent a inner c (with_entries (add r.name (index_in repeats n)) l)) → IsWhole count l
        → IsWhole count (turn_of a r b repeats n l) =
        λ n l less fine v. component_whole inner (block_word kind) c (with_entries (add r.name (index_in repeats n)) l)
        fine (indexed_whole count r.name (index_in repeats n) l (index_whole count a line r b k n h less) v) in
        repeated_whole count repeats.happens _
        (turns_keep (IsWhole count) (turn_of a r b repeats) _ repeats.turns.count repeats.turns.count
        (begun_body (block_word kind) changed repeats.happens k) turn (omega arith)
        (λ f x. none f (inr x)) (body_begun_whole count (block_word kind) changed repeats.happens k w))

    components_whole : {part : Part} (p : Position) (word : Terminal) (cs : Components part) (k : Known)
        → Unbroken (BreakComponents a p word cs k) → IsWhole (length a.signatures) k
        → IsWhole (length a.signatures) (after_components a word cs k)
    components_whole p word NoComponent k none w = w
    components_whole p word (Further cs c) k none w =
        component_whole p word c (after_components a word cs k) (λ f x. none f (inr x))
        (components_whole p word cs k (λ f x. none f (inl x)) w)

    component_whole : {part : Part} (p : Position) (word : Terminal) (c : Component part) (k : Known)
        → Unbroken (BreaksComponent a p c k) → IsWhole (length a.signatures) k
        → IsWhole (length a.signatures) (after_component a word c k)
    component_whole p word (Plain q) k none w =
        process_whole (length a.signatures) (length k.entries) word (changed_by a.signatures k.entries q) (inside a q k)
        (inside_whole p (length k.entries) q k none w)
    component_whole p word (Chosen line e q) k none w =
        next_whole (length a.signatures) (inside a q (chosen e k))
        (inside_whole p (length (chosen e k).entries) q (chosen e k) (λ f x. none f (inr x))
        (chosen_whole (length a.signatures) e k w))
    component_whole p word (Guarded line g q) k none w =
        let holds = with_entries (after_guard g) k in
        next_whole (length a.signatures) (inside a q holds)
        (inside_whole p (length holds.entries) q holds (λ f x. none f (inr x))
        (guarded_whole (length a.signatures) g k w))

-- ---- items

weighing_whole : (x : Option ℕ) (ms : List Measured) (o : Outside) → IsWhole (length o.signatures) o.known
    → IsWhole (length (after_weighing x ms o).signatures) (after_weighing x ms o).known
weighing_whole None ms o w = w
weighing_whole (Some line) ms o w = w

weighed_whole : (item : ProgramItem) (o : Outside) → IsWhole (length o.signatures) o.known
    → IsWhole (length (weighed item o).signatures) (weighed item o).known
weighed_whole item o w = weighing_whole o.uncounted (measures_of_item o.signatures o.known.entries item) o w

-- the head of an item that breaks no rule
item_holds : (item : ProgramItem) (o : Outside) → Unbroken (BreaksWalk item o)
    → IsWhole (length o.signatures) o.known → ItemHolds o.known.entries item
item_holds (GlobalConstant c) o none w =
    declaration_holds (length o.signatures) o.known.entries (Constants c) w.entries
    (at_line (declaration_line (Constants c)) _ (λ f x. none f (inl x)))
item_holds (GlobalProcedure p) o none w =
    all_formals_hold (length o.signatures) o.known.entries p.head.formals w.entries
    (at_line p.line _ (λ f x. none f (inl (inl (inl x)))))

-- where the body of a procedure begins
pub body_whole : (o : Outside) (p : Procedure) → FormalsHold o.known.entries p.head.formals
    → IsWhole (length o.signatures) o.known → IsWhole (length o.signatures) (in_body p o.known)
body_whole o p h w =
    entries_whole (length o.signatures) (add_formals o.known.entries p.head.formals) o.known w
    (formals_whole (length o.signatures) o.known.entries p.head.formals o.known.entries h w.entries)

one_more : (qs : List (List Parameter)) (q : List Parameter) → suc (length qs) ≡ length (qs ++ q ∷ [])
one_more qs q = let long = length-append qs (q ∷ []) in omega (arith, long)

walk_whole : (item : ProgramItem) (o : Outside) → Unbroken (BreaksWalk item o)
    → IsWhole (length o.signatures) o.known
    → IsWhole (length (after_walk item o).signatures) (after_walk item o).known
walk_whole (GlobalConstant c) o none w = known_declared (length o.signatures) 0 (Constants c) o.known none w
walk_whole (GlobalProcedure p) o none w =
    let a = around_in o in
    let count = length o.signatures in
    let body = body_whole o p (item_holds (GlobalProcedure p) o none w) w in
    let ended = inside_whole a _ _ p.body (in_body p o.known) (λ f x. none f (inl (inr (inr x)))) body in
    let after = whole_more count (after_procedure a p o.known)
    (left_whole count (length o.known.entries) (inside a p.body (in_body p o.known)) ended) in
    let number = lt-ltb count (suc count) (omega arith) in
    subst (λ n. IsWhole n (after_walk (GlobalProcedure p) o).known) (one_more o.signatures (signature_of a p o.known))
    (indexed_whole (suc count) p.head.name (entries.Procedure count) (after_procedure a p o.known) number after)

-- each item, by those before it
items_hold_from : (items : List ProgramItem) (o : Outside) (item : ProgramItem) (before : Outside)
    → Unbroken (BreaksInTurn after_item BreaksItem items before) → IsWhole (length before.signatures) before.known
    → Comes o item items before → ItemIsRight o item
items_hold_from [] o item before none w c = absurd c
items_hold_from (x ∷ items) o item before none w (inl is) =
    let fine : Unbroken (BreaksWalk x (weighed x before)) = λ f y. none f (inl (inr y)) in
    let whole = weighed_whole x before w in
    let here : ItemIsRight (weighed x before) x =
    record { unbroken = fine; whole = whole; holds = item_holds x (weighed x before) fine whole } in
    subst (λ (y : Outside × ProgramItem). ItemIsRight y.0 y.1) (λ i. (sym is.1 i, sym is.0 i)) here
items_hold_from (x ∷ items) o item before none w (inr later) =
    items_hold_from items o item (after_item x before) (λ f y. none f (inr y))
    (walk_whole x (weighed x before) (λ f y. none f (inl (inr y))) (weighed_whole x before w)) later

pub items_hold : ItemsHold
items_hold items o item none c =
    items_hold_from items o item outermost (λ f x. none f (inl x)) (record { entries = tt; blocks = tt }) c

-- ---- the numbers of procedures

weighing_signatures : (x : Option ℕ) (ms : List Measured) (o : Outside)
    → (after_weighing x ms o).signatures ≡ o.signatures
weighing_signatures None ms o = refl
weighing_signatures (Some line) ms o = refl

abbrev IsLonger : List (List Parameter) → Outside → Type 0
IsLonger qs o = (later : List (List Parameter)) × (o.signatures ≡ qs ++ later)

walk_longer : (item : ProgramItem) (o : Outside) → IsLonger o.signatures (after_walk item o)
walk_longer (GlobalConstant c) o = ([], sym (append-nil o.signatures))
walk_longer (GlobalProcedure p) o = (signature_of (around_in o) p o.known ∷ [], refl)

item_longer : (item : ProgramItem) (o : Outside) → IsLonger (weighed item o).signatures (after_item item o)
item_longer item o = walk_longer item (weighed item o)

all_longer : (items : List ProgramItem) (o : Outside) (qs : List (List Parameter)) → IsLonger qs o
    → IsLonger qs (in_turn after_item items o)
all_longer [] o qs h = h
all_longer (x ∷ items) o qs h =
    let same = weighing_signatures o.uncounted (measures_of_item o.signatures o.known.entries x) o in
    let more = item_longer x o in
    all_longer items (after_item x o) qs
    (h.0 ++ more.0, more.1 ∙ ap (λ q. q ++ more.0) (same ∙ h.1) ∙ append_assoc qs h.0 more.0)

stay_from : (items : List ProgramItem) (o : Outside) (item : ProgramItem) (before : Outside)
    → Comes o item items before → IsLonger o.signatures (in_turn after_item items before)
stay_from [] o item before c = absurd c
stay_from (x ∷ items) o item before (inl is) =
    subst (λ (y : Outside). IsLonger y.signatures (in_turn after_item (x ∷ items) before)) (sym is.1)
    (all_longer items (after_item x before) (weighed x before).signatures (item_longer x before))
stay_from (x ∷ items) o item before (inr later) = stay_from items o item (after_item x before) later

pub signatures_stay : SignaturesStay
signatures_stay items o item c = stay_from items o item outermost c

-- ---- places

process_holds : (s : Standing) (first : ℕ) (p : Process) (k : Known) → Unbroken (BreaksIn s.around s.position first p k)
    → IsWhole (length s.around.signatures) k → ProcessHolds s.around.signatures k.entries p
process_holds s first (Declared d p) k none w =
    declaration_holds (length s.around.signatures) k.entries d w.entries
    (at_line (declaration_line d) _ (λ f x. none f (inl (inl x))))
process_holds s first (Does line (Act action)) k none w =
    action_holds s.position s.around.signatures k.entries action w.entries (at_line line _ (λ f x. none f (inr x)))
process_holds s first (Does line (Block kind cs)) k none w = tt
process_holds s first (Does line (Replicated r b)) k none w =
    replicator_holds (length s.around.signatures) k.entries r w.entries (at_line line _ (λ f x. none f (inl x)))

component_holds : {part : Part} (s : Standing) (c : Component part) (k : Known)
    → Unbroken (BreaksComponent s.around s.position c k) → IsWhole (length s.around.signatures) k
    → ComponentHolds k.entries c
component_holds s (Plain p) k none w = tt
component_holds s (Chosen line e p) k none w =
    condition_holds (length s.around.signatures) k.entries e w.entries (at_line line _ (λ f x. none f (inl x)))
component_holds s (Guarded line g p) k none w =
    guard_holds s.position (length s.around.signatures) k.entries g w.entries
    (at_line line _ (λ f x. none f (inl x)))

right_process : (s : Standing) (first : ℕ) (p : Process) (k : Known)
    → Unbroken (BreaksIn s.around s.position first p k) → IsWhole (length s.around.signatures) k
    → IsRight s (AProcess first p) k
right_process s first p k none w = record { unbroken = none; whole = w; holds = process_holds s first p k none w }

right_component : {part : Part} (s : Standing) (c : Component part) (k : Known)
    → Unbroken (BreaksComponent s.around s.position c k) → IsWhole (length s.around.signatures) k
    → IsRight s (AComponent c) k
right_component s c k none w = record { unbroken = none; whole = w; holds = component_holds s c k none w }

-- a component of a block, where those before it have ended
right_among : {part : Part} (s : Standing) (word : Terminal) (cs : Components part) (k : Known) (piece : Piece)
    (l : Known) → Unbroken (BreakComponents s.around s.position word cs k) → IsWhole (length s.around.signatures) k
    → StandsAmong s.around word cs k piece l → IsRight s piece l
right_among s word NoComponent k piece l none w stands = absurd stands
right_among s word (Further cs c) k piece l none w (inl is) =
    subst (λ (x : Piece × Known). IsRight s x.0 x.1) (λ i. (sym is.0 i, sym is.1 i))
    (right_component s c (after_components s.around word cs k) (λ f x. none f (inr x))
    (components_whole s.around s.position word cs k (λ f x. none f (inl x)) w))
right_among s word (Further cs c) k piece l none w (inr earlier) =
    right_among s word cs k piece l (λ f x. none f (inl x)) w earlier

right_inside : {part : Part} (s : Standing) (c : Component part) (k : Known) → IsRight s (AComponent c) k
    → IsRight s (AProcess (length (entered c k).entries) (process_of c)) (entered c k)
right_inside s (Plain p) k right = right_process s (length k.entries) p k right.unbroken right.whole
right_inside s (Chosen line e p) k right =
    right_process s (length (chosen e k).entries) p (chosen e k) (λ f x. right.unbroken f (inr x))
    (chosen_whole (length s.around.signatures) e k right.whole)
right_inside s (Guarded line g p) k right =
    let holds = with_entries (after_guard g) k in
    right_process s (length holds.entries) p holds (λ f x. right.unbroken f (inr x))
    (guarded_whole (length s.around.signatures) g k right.whole)

right_turn : (s : Standing) (first line : ℕ) (r : Replicator) (b : Body) (k : Known) (n : ℕ) (piece : Piece)
    → IsRight s (AProcess first (Does line (Replicated r b))) k → IsUnder b piece
    → n < (repeats_in s.around line r b k).turns.count
    → IsRight (in_block (word_of b) k s) piece (in_turn_of s.around line r b k n)
right_turn s first line r (One kind c) k n piece right under less =
    let a = s.around in
    let b = One kind c in
    let count = length a.signatures in
    let repeats = repeats_in a line r b k in
    let inner = position_in (block_word kind) (length k.entries) s.position in
    let changed = changed_by_body a.signatures k.entries r b in
    let start = begun_body (block_word kind) changed repeats.happens k in
    let step = turn_of a r b repeats in
    let indexed : ℕ → Known → Known = λ m l. with_entries (add r.name (index_in repeats m)) l in
    let Breaks : ℕ → Known → UsageFault → Type 0 = λ m l. BreaksComponent a inner c (indexed m l) in
    let none : Unbroken (BreaksInTurns step Breaks repeats.turns.count start) =
    λ f x. right.unbroken f (inr x) in
    let index : (m : ℕ) → m < repeats.turns.count → is_whole count (index_in repeats m) ≡ true =
    λ m within. index_whole count a line r b k m right.holds within in
    let before = turns_keep (IsWhole count) step Breaks repeats.turns.count n start
    (λ m l within fine w. component_whole a inner (block_word kind) c (indexed m l) fine
    (indexed_whole count r.name (index_in repeats m) l (index m within) w)) (omega (arith, less))
    (turns_before step Breaks repeats.turns.count n start (omega (arith, less)) none)
    (body_begun_whole count (block_word kind) changed repeats.happens k right.whole) in
    subst (λ x. IsRight (in_block (block_word kind) k s) x (in_turn_of a line r b k n)) (sym under)
    (right_component (in_block (block_word kind) k s) c (in_turn_of a line r b k n)
    (turn_unbroken step Breaks repeats.turns.count n start less none)
    (indexed_whole count r.name (index_in repeats n) (turn_by_turn step n start) (index n less) before))

right_part : (s t : Standing) (first line : ℕ) (c : Construct) (piece : Piece) (k l : Known)
    → IsRight s (AProcess first (Does line c)) k → StandsIn s line c k t piece l → IsRight t piece l
right_part s t first line (Act action) piece k l right stands = absurd stands
right_part s t first line (Block kind cs) piece k l right stands =
    let word = block_word kind in
    subst (λ x. IsRight x piece l) (sym stands.0)
    (right_among (in_block word k s) word cs (begun word k) piece l right.unbroken
    (begun_whole (length s.around.signatures) word k right.whole) stands.1)
right_part s t first line (Replicated r b) piece k l right stands =
    subst (λ (x : Standing × Known). IsRight x.0 piece x.1) (λ i. (sym stands.1 i, sym stands.4 i))
    (right_turn s first line r b k stands.0 piece right stands.2 stands.3)

right_body : (o : Outside) (p : Procedure) → ItemIsRight o (GlobalProcedure p)
    → IsRight (in_procedure o p) (AProcess (length (in_body p o.known).entries) p.body) (in_body p o.known)
right_body o p right =
    right_process (in_procedure o p) (length (in_body p o.known).entries) p.body (in_body p o.known)
    (λ f x. right.unbroken f (inl (inr (inr x)))) (body_whole o p right.holds right.whole)

reached_holds : (items : List ProgramItem) → BreaksNoRule items → (s : Standing) (piece : Piece) (k : Known)
    → Reaches items s piece k → IsRight s piece k
reached_holds items none s piece k (to_body o p c) = right_body o p (items_hold items o (GlobalProcedure p) none c)
reached_holds items none s piece k (behind t first d p l reached) =
    let right = reached_holds items none t (AProcess first (Declared d p)) l reached in
    right_process t first p (with_entries (add_declaration d) l) (λ f x. right.unbroken f (inr x))
    (known_declared (length t.around.signatures) first d l (λ f x. right.unbroken f (inl x)) right.whole)
reached_holds items none s piece k (to_part t u first line c q l m reached stands) =
    right_part t u first line c q l m (reached_holds items none t (AProcess first (Does line c)) l reached) stands
reached_holds items none s piece k (to_process t c l reached) =
    right_inside t c l (reached_holds items none t (AComponent c) l reached)

pub places_hold : PlacesHold
places_hold items s piece k none reached = reached_holds items none s piece k reached
