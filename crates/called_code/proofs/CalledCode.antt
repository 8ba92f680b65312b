-- Each program that breaks no rule has code, where neither a PAR nor an ALT is in what is called.
use Rattle.std.proofs.Common.{◌≡◌, ℕ, zero, suc, ◌+◌, ◌-◌, ◌<◌, ◌≤◌, Bool, true, false, cond, nat_eq, List, []}
use Rattle.std.proofs.Common.{◌∷◌, ◌++◌, length, take, Some, None, inl, inr, refl, sym, ap, subst, ◌∙◌, arith}
use Rattle.std.proofs.Math.Seq.{take-append_seam, take-length}
use Rattle.std.proofs.lemmas.Bool.{eqb-true}
use Rattle.std.proofs.lemmas.Bool.Decides.{nat_tests}
use Rattle.std.proofs.lemmas.List.{length-append, take-take}
use Rattle.std.specs.List.{AllByRecursion}
use Rattle.std.specs.Prelude.{slice_get}
use Rattle.occam_parser.specs.Expressions.{Expression}
use Rattle.occam_parser.specs.Lines.{Constants}
use Rattle.occam_parser.specs.Blocks.{Procedure, ProgramItem, GlobalConstant, GlobalProcedure, item_line}
use Rattle.scalar_ranges.specs.Entries as entries
use Rattle.scalar_ranges.specs.Entries.{Entry}
use Rattle.scalar_ranges.specs.Moves.{Known, outermost}
use Rattle.scalar_ranges.proofs.Nesting.{outermost_twice}
use Rattle.program_uses.specs.declared.faults.TheConstants.{NO_MAIN}
use Rattle.program_uses.specs.declared.telling.UsageFault.{UsageFault}
use Rattle.program_uses.specs.Actions.{Around}
use Rattle.program_uses.specs.Declaring.{add, constant_meaning}
use Rattle.program_uses.specs.InTurn.{in_turn}
use Rattle.program_uses.specs.Signatures.{Parameter}
use Rattle.usage_checks.specs.BrokenInTurn.{BreaksInTurn}
use Rattle.usage_checks.specs.ItemRules as item_rules
use Rattle.usage_checks.specs.ItemRules.{in_body, Outside, around_in, weighed, after_walk, after_item}
use Rattle.usage_checks.specs.ItemRules.{after_items, BreaksItem, BreaksNoRule, signature_of}
use Rattle.usage_checks.specs.MainRules.{IsNoMain}
use Rattle.usage_checks.specs.NameRules.{with_entries}
use Rattle.usage_checks.specs.Reaching.{AProcess, Comes, in_procedure, Reaches, to_body}
use Rattle.usage_checks.specs.Sizes.{measures_of_item}
use Rattle.usage_checks.proofs.PlacesHold.{Unbroken}
use Rattle.usage_checks.proofs.RangesStay.{all_but_one}
use Rattle.code_pieces.specs.declared.operations.TheConstants.{STOP_PROCESS}
use Rattle.code_pieces.specs.Pieces.{operates, closed_by}
use Rattle.line_pieces.specs.Declarations.{Frame, declared}
use Rattle.code_generator.specs.Calls.{Callee, in_callee, callee_start, callee_code_if, around_before, calls_below}
use Rattle.code_generator.specs.Calls.{where_called}
use Rattle.code_generator.specs.Instances.{cleaning_code}
use Rattle.code_generator.specs.Processes.{Site, process_code}
use Rattle.code_generator.specs.Programs.{in_main, callable, framed, last_item_code, items_code, no_frame, code_of}
use Rattle.called_code.specs.CalledCode.{ItemHasNoPar, IsCalled, main_is, CalledHaveNoPar, CalledProceduresHaveCode}
use Rattle.called_code.specs.CalledCode.{ProgramsWithoutParHaveCode}
use Rattle.code_generator.proofs.CodeTogether.{HasCode, found, before_has, closed_has}
use Rattle.code_generator.proofs.ItemsPassed.{still_counted, weighing_keeps, weighing_signs}
use Rattle.code_generator.proofs.OuterNames.{AreStill, constant_still, Keeps, outer_long, body_keeps, procedure_leaves}
use Rattle.called_code.proofs.ProcessesWritten.{CallsHave, Ground, standing_at, process_has}

-- ---- procedures that may be called

-- The procedure with this number, where these entries are known outside and these procedures have been declared.
pub record CalleeIs (all : List ProgramItem) (g : List Entry) (qss : List (List Parameter)) (cs : List Callee) (n : ℕ)
    : Type 0 where
  pub outside : Outside
  pub callee : Callee
  pub is : slice_get cs n ≡ Some callee
  pub comes : Comes outside (GlobalProcedure callee.procedure) all item_rules.outermost
  pub names : callee.names ≡ length outside.known.entries
  pub known : outermost (length outside.known.entries) g ≡ outside.known.entries
  pub blocks : outside.known.blocks ≡ []
  pub still : AreStill outside.known.entries
  pub signatures : take n qss ≡ outside.signatures
  pub counted : outside.uncounted ≡ None
  pub number : length outside.signatures ≡ n

-- the first procedures, this number of them
abbrev AreCallees : List ProgramItem → List Callee → ℕ → List Entry → List (List Parameter) → Type 0
AreCallees all cs zero g qss = Unit {0}
AreCallees all cs (suc n) g qss =
    (x : CalleeIs all g qss cs n) × AreCallees all cs n x.outside.known.entries x.outside.signatures

-- They are the same further in.
further_in : (all : List ProgramItem) (cs : List Callee) (n m : ℕ) (g h : List Entry)
    (qss rss : List (List Parameter)) → n ≤ m → outermost (length g) h ≡ g → take m rss ≡ qss
    → AreCallees all cs n g qss → AreCallees all cs n h rss
further_in all cs zero m g h qss rss less outer front x = tt
further_in all cs (suc n) m g h qss rss less outer front x =
    let c = x.0 in
    let o = c.outside in
    let long = outer_long o.known.entries g c.known in (
      record {
        outside = o;
        callee = c.callee;
        is = c.is;
        comes = c.comes;
        names = c.names;
        known = sym (outermost_twice (length o.known.entries) (length g) h long)
            ∙ ap (outermost (length o.known.entries)) outer ∙ c.known;
        blocks = c.blocks;
        still = c.still;
        signatures = sym (take-take n m rss (omega (arith, less))) ∙ ap (take n) front ∙ c.signatures;
        counted = c.counted;
        number = c.number;
      },
      x.1,
    )

-- a callee is where it was when there is one more behind it
got_before : (cs : List Callee) (n : ℕ) (c d : Callee) → slice_get cs n ≡ Some c → slice_get (cs ++ d ∷ []) n ≡ Some c
got_before [] n c d is = absurd (cc is)
got_before (x ∷ cs) zero c d is = is
got_before (x ∷ cs) (suc n) c d is = got_before cs n c d is

got_last : (cs : List Callee) (d : Callee) → slice_get (cs ++ d ∷ []) (length cs) ≡ Some d
got_last [] d = refl
got_last (x ∷ cs) d = got_last cs d

-- a procedure more changes nothing of those before it
one_more : (all : List ProgramItem) (cs : List Callee) (d : Callee) (n : ℕ) (g : List Entry)
    (qss : List (List Parameter)) → AreCallees all cs n g qss → AreCallees all (cs ++ d ∷ []) n g qss
one_more all cs d zero g qss x = tt
one_more all cs d (suc n) g qss x =
    let c = x.0 in (
      record {
        outside = c.outside;
        callee = c.callee;
        is = got_before cs n c.callee d c.is;
        comes = c.comes;
        names = c.names;
        known = c.known;
        blocks = c.blocks;
        still = c.still;
        signatures = c.signatures;
        counted = c.counted;
        number = c.number;
      },
      one_more all cs d n c.outside.known.entries c.outside.signatures x.1,
    )

-- ---- instances

-- The instance of a procedure has code, if those in its body have.
callee_has : (all : List ProgramItem) (cs : List Callee) (n : ℕ) (g : List Entry) (a : Around) → BreaksNoRule all
    → CalledHaveNoPar all → a.uncounted ≡ None → (x : CalleeIs all g a.signatures cs n)
    → CallsHave all (where_called cs (around_before n a) n) x.outside.known.entries → IsCalled all n
    → (qs : List Parameter) (actuals : List Expression) (s : Site) → Keeps g s.known
    → HasCode (callee_code_if (where_called cs (around_before n a) n) (slice_get cs n) qs actuals s)
callee_has all cs n g a unbroken plain counted x calls called qs actuals s keeps =
    let o = x.outside in
    let c = x.callee in
    let p = c.procedure in
    let w = where_called cs (around_before n a) n in
    let inner = in_callee c qs actuals s in
    let size = length o.known.entries in
    let outer : outermost size s.known.entries ≡ o.known.entries =
    sym (outermost_twice size (length g) s.known.entries (outer_long o.known.entries g x.known))
    ∙ ap (outermost size) keeps.outer ∙ x.known in
    let entered : o.known.entries ≡ outermost c.names s.known.entries =
    sym (ap (λ m. outermost m s.known.entries) x.names ∙ outer) in
    let known : o.known ≡ record { entries = outermost c.names s.known.entries; blocks = [] } =
    λ i. record { entries = entered i; blocks = x.blocks i } in
    let around : around_in o ≡ around_before n a =
    λ i. record { signatures = sym x.signatures i; uncounted = (x.counted ∙ sym counted) i } in
    let position = (in_procedure o p).position in
    let first = length (in_body p o.known).entries in
    let reaches : Reaches all (standing_at w position) (AProcess first p.body) inner.known =
    subst (λ (y : Around × Known).
    Reaches all (record { around = y.0; position = position }) (AProcess first p.body) (in_body p y.1))
    (λ i. (around i, known i)) (to_body o p x.comes) in
    let kept : Keeps o.known.entries inner.known =
    subst (λ k. Keeps o.known.entries (in_body p k)) known (body_keeps p o.known x.blocks) in
    let ground : Ground all w o.known.entries = record {
      unbroken = unbroken;
      still = x.still;
      mine = subst (IsCalled all) (sym (ap length x.signatures ∙ x.number)) called;
      calls = calls;
    } in
    let none = plain o p x.comes (subst (IsCalled all) (sym x.number) called) in
    let code = process_code w p.body inner in
    let behind = cleaning_code s.frame.homes s.known.entries s.frame.top qs 0 actuals in
    subst (λ y. HasCode (callee_code_if w y qs actuals s)) (sym x.is)
    (before_has (callee_start c qs actuals s) (closed_by behind code)
    (closed_has behind code (process_has ground position first p.body none inner reaches kept)))

is_below : (m n : ℕ) → nat_eq n m ≡ false → m < suc n → m < n
is_below m n other h = grind (arith, nat_tests)

-- Instances of the first procedures have code, by the number of these.
calls_have : (all : List ProgramItem) (cs : List Callee) (count : ℕ) (g : List Entry) (a : Around)
    → BreaksNoRule all → CalledHaveNoPar all → a.uncounted ≡ None → AreCallees all cs count g a.signatures
    → (number : ℕ) → number < count → IsCalled all number → (qs : List Parameter) (actuals : List Expression)
    (s : Site) → Keeps g s.known → HasCode (calls_below cs a count number qs actuals s)
calls_have all cs zero g a unbroken plain counted x number less called qs actuals s keeps = absurd (omega (arith, less))
calls_have all cs (suc n) g a unbroken plain counted x number less called qs actuals s keeps =
    let c = x.0 in
    let o = c.outside in
    let inner : CallsHave all (where_called cs (around_before n a) n) o.known.entries =
    λ m below. calls_have all cs n o.known.entries (around_before n a) unbroken plain counted
    (subst (AreCallees all cs n o.known.entries) (sym c.signatures) x.1) m
    (let same = ap length c.signatures ∙ c.number in omega (arith, below, same)) in
    let others =
    further_in all cs n n o.known.entries g o.signatures a.signatures (omega arith) c.known c.signatures x.1 in
    by_number inner
    (λ below. calls_have all cs n g a unbroken plain counted others number below called qs actuals s keeps)
    (nat_eq n number) refl
  where
    by_number : CallsHave all (where_called cs (around_before n a) n) x.0.outside.known.entries
        → (number < n → HasCode (calls_below cs a n number qs actuals s)) → (b : Bool) → nat_eq n number ≡ b
        → HasCode (cond b (callee_code_if (where_called cs (around_before n a) n) (slice_get cs n) qs actuals s)
        (calls_below cs a n number qs actuals s))
    by_number inner others true same =
        callee_has all cs n g a unbroken plain counted x.0 inner
        (subst (IsCalled all) (sym (eqb-true n number same)) called) qs actuals s keeps
    by_number inner others false other = others (is_below number n other less)

-- ---- items

-- before an item
pub record Stands (all : List ProgramItem) (cs : List Callee) (f : Frame) (k : Known) (qss : List (List Parameter))
    : Type 0 where
  pub homes : length f.homes ≡ length k.entries
  pub blocks : k.blocks ≡ []
  pub still : AreStill k.entries
  pub count : length cs ≡ length qss
  pub callees : AreCallees all cs (length cs) k.entries qss

-- To weigh an item changes nothing of this.
weighed_stands : (all : List ProgramItem) (cs : List Callee) (f : Frame) (item : ProgramItem) (o : Outside)
    → Stands all cs f o.known o.signatures → Stands all cs f (weighed item o).known (weighed item o).signatures
weighed_stands all cs f item o h =
    let ms = measures_of_item o.signatures o.known.entries item in
    subst (λ (y : Known × List (List Parameter)). Stands all cs f y.0 y.1)
    (λ i. (sym (weighing_keeps o.uncounted ms o) i, sym (weighing_signs o.uncounted ms o) i)) h

-- a name is added, and no procedure
named_callees : (all : List ProgramItem) (cs : List Callee) (e : Entry) (es : List Entry)
    (qss : List (List Parameter)) → length cs ≡ length qss → AreCallees all cs (length cs) es qss
    → AreCallees all cs (length cs) (e ∷ es) qss
named_callees all cs e es qss count x =
    further_in all cs (length cs) (length cs) es (e ∷ es) qss qss (omega arith) (all_but_one (length es) e es refl)
    (ap (λ n. take n qss) count ∙ take-length qss) x

-- after an item
walked_stands : (all : List ProgramItem) (cs : List Callee) (f : Frame) (item : ProgramItem) (o : Outside)
    → Comes o item all item_rules.outermost → o.uncounted ≡ None → Stands all cs f o.known o.signatures
    → Stands all (callable item (length f.homes) cs) (framed item o f) (after_walk item o).known
    (after_walk item o).signatures
walked_stands all cs f (GlobalConstant c) o comes counted h =
    let e : Entry = record { name = c.name; meaning = constant_meaning o.known.entries c.value_type c.value } in
    let long : length (framed (GlobalConstant c) o f).homes ≡ length f.homes + 1 = length-append f.homes _ in
    record {
      homes = omega (arith, long, h.homes);
      blocks = h.blocks;
      still = (constant_still o.known.entries c.value_type c.value, h.still);
      count = h.count;
      callees = named_callees all cs e o.known.entries o.signatures h.count h.callees;
    }
walked_stands all cs f (GlobalProcedure p) o comes counted h =
    let g = o.known.entries in
    let qss = o.signatures in
    let a = around_in o in
    let e : Entry = record { name = p.head.name; meaning = entries.Procedure (length qss) } in
    let sig = signature_of a p o.known in
    let d : Callee = record { procedure = p; names = length f.homes } in
    let outer = all_but_one (length g) e g refl in
    let front : take (length cs) (qss ++ sig ∷ []) ≡ qss =
    ap (λ n. take n (qss ++ sig ∷ [])) h.count ∙ take-append_seam qss (sig ∷ []) in
    let last : CalleeIs all (e ∷ g) (qss ++ sig ∷ []) (cs ++ d ∷ []) (length cs) = record {
      outside = o;
      callee = d;
      is = got_last cs d;
      comes = comes;
      names = h.homes;
      known = outer;
      blocks = h.blocks;
      still = h.still;
      signatures = front;
      counted = counted;
      number = sym h.count;
    } in
    let callees : AreCallees all (cs ++ d ∷ []) (suc (length cs)) (e ∷ g) (qss ++ sig ∷ []) =
    (last, one_more all cs d (length cs) g qss h.callees) in
    let long : length (framed (GlobalProcedure p) o f).homes ≡ length f.homes + 1 = length-append f.homes _ in
    let more = length-append cs (d ∷ []) in
    let signed = length-append qss (sig ∷ []) in
    let many : suc (length cs) ≡ length (cs ++ d ∷ []) = omega (arith, more) in
    let here : Stands all (cs ++ d ∷ []) (framed (GlobalProcedure p) o f)
    (with_entries (add p.head.name (entries.Procedure (length qss))) o.known) (qss ++ sig ∷ []) = record {
      homes = omega (arith, long, h.homes);
      blocks = h.blocks;
      still = (tt, h.still);
      count = omega (arith, more, signed, h.count);
      callees = subst (λ n. AreCallees all (cs ++ d ∷ []) n (e ∷ g) (qss ++ sig ∷ [])) many callees;
    } in
    subst (λ k. Stands all (cs ++ d ∷ []) (framed (GlobalProcedure p) o f)
    (with_entries (add p.head.name (entries.Procedure (length qss))) k) (qss ++ sig ∷ []))
    (sym (procedure_leaves a p o.known h.blocks h.still)) here

-- ---- the whole

-- main is the last procedure, and each of the others may be called in it
main_has : (all : List ProgramItem) (p : Procedure) (cs : List Callee) (o : Outside) (f : Frame) → BreaksNoRule all
    → CalledHaveNoPar all → Comes o (GlobalProcedure p) all item_rules.outermost → o.uncounted ≡ None
    → length o.signatures + 1 ≡ length (after_items all).signatures → Stands all cs f o.known o.signatures
    → HasCode (last_item_code (GlobalProcedure p) cs o f)
main_has all p cs o f unbroken plain comes counted last h =
    let w = where_called cs (around_in o) (length cs) in
    let s = in_main p (record { frame = f; known = o.known; label = 0 }) in
    let mine = main_is (length o.signatures) last in
    let ground : Ground all w o.known.entries = record {
      unbroken = unbroken;
      still = h.still;
      mine = mine;
      calls = λ m less. calls_have all cs (length cs) o.known.entries (around_in o) unbroken plain counted h.callees m
          (let count = h.count in omega (arith, less, count));
    } in
    closed_has (operates STOP_PROCESS ∷ []) (process_code w p.body s)
    (process_has ground (in_procedure o p).position (length (in_body p o.known).entries) p.body (plain o p comes mine) s
    (to_body o p comes) (body_keeps p o.known h.blocks))

walk_counts : (item : ProgramItem) (o : Outside) → (after_walk item o).uncounted ≡ o.uncounted
walk_counts (GlobalConstant c) o = refl
walk_counts (GlobalProcedure p) o = refl

-- The last item is no constant, or a rule is broken.
last_has : (all : List ProgramItem) (item : ProgramItem) (cs : List Callee) (o : Outside) (f : Frame)
    → BreaksNoRule all → CalledHaveNoPar all → Comes o item all item_rules.outermost → o.uncounted ≡ None
    → (after_walk item o).signatures ≡ (after_items all).signatures
    → slice_get all (length all - 1) ≡ Some item → Stands all cs f o.known o.signatures
    → HasCode (last_item_code item cs o f)
last_has all (GlobalConstant c) cs o f unbroken plain comes counted signed last h =
    let item = GlobalConstant c in
    let fault : UsageFault = record { number = NO_MAIN; line = item_line item } in
    absurd (unbroken fault (inr (subst (λ x. IsNoMain x fault) (sym last) (refl, (refl, refl)))))
last_has all (GlobalProcedure p) cs o f unbroken plain comes counted signed last h =
    let more = length-append o.signatures (signature_of (around_in o) p o.known ∷ []) in
    let same = ap length signed in
    main_has all p cs o f unbroken plain comes counted (omega (arith, more, same)) h

-- a frame depends on what is known alone
same_frame : (item : ProgramItem) (o w : Outside) (f : Frame) → o.known ≡ w.known → framed item o f ≡ framed item w f
same_frame (GlobalConstant c) o w f same = ap (λ (k : Known). declared k.entries (Constants c) f) same
same_frame (GlobalProcedure p) o w f same = refl

items_have : (all : List ProgramItem) (item : ProgramItem) (items : List ProgramItem) (cs : List Callee) (o : Outside)
    (f : Frame) → BreaksNoRule all → CalledHaveNoPar all
    → ((x : Outside) (i : ProgramItem) → Comes x i (item ∷ items) o → Comes x i all item_rules.outermost)
    → Unbroken (BreaksInTurn after_item BreaksItem (item ∷ items) o) → o.uncounted ≡ None
    → (in_turn after_item (item ∷ items) o).signatures ≡ (after_items all).signatures
    → slice_get all (length all - 1) ≡ slice_get (item ∷ items) (length items)
    → Stands all cs f o.known o.signatures → HasCode (items_code item items cs o f)
items_have all item [] cs o f unbroken plain come none counted signed last h =
    let once = still_counted o.uncounted (measures_of_item o.signatures o.known.entries item) o counted
    (λ x broken. none x (inl (inl broken))) in
    last_has all item cs (weighed item o) f unbroken plain (come (weighed item o) item (inl (refl, refl))) once signed
    last (weighed_stands all cs f item o h)
items_have all item (next ∷ items) cs o f unbroken plain come none counted signed last h =
    let w = weighed item o in
    let once = still_counted o.uncounted (measures_of_item o.signatures o.known.entries item) o counted
    (λ x broken. none x (inl (inl broken))) in
    let walked = walked_stands all cs f item w (come w item (inl (refl, refl))) once
    (weighed_stands all cs f item o h) in
    let frame = same_frame item w o f
    (weighing_keeps o.uncounted (measures_of_item o.signatures o.known.entries item) o) in
    items_have all next items (callable item (length f.homes) cs) (after_item item o) (framed item o f) unbroken plain
    (λ x i c. come x i (inr c)) (λ x broken. none x (inr broken)) (walk_counts item w ∙ once) signed last
    (subst (λ x. Stands all (callable item (length f.homes) cs) x (after_item item o).known
    (after_item item o).signatures) frame walked)

has_code : (items : List ProgramItem) → BreaksNoRule items → CalledHaveNoPar items → HasCode (code_of items)
has_code [] unbroken plain =
    absurd (unbroken (record { number = NO_MAIN; line = 0 }) (inr (refl, refl)))
has_code (item ∷ items) unbroken plain =
    items_have (item ∷ items) item items [] item_rules.outermost no_frame unbroken plain (λ x i c. c)
    (λ x broken. unbroken x (inl broken)) refl refl (ap (slice_get (item ∷ items)) (omega arith))
    (record { homes = refl; blocks = refl; still = tt; count = refl; callees = tt })

pub called_procedures_have_code : CalledProceduresHaveCode
called_procedures_have_code items unbroken plain = found (code_of items) (has_code items unbroken plain)

-- ---- programs in which there is none

-- what holds of all items holds of each
comes_plain : (items : List ProgramItem) (o before : Outside) (item : ProgramItem) → Comes o item items before
    → AllByRecursion ItemHasNoPar items → ItemHasNoPar item
comes_plain [] o before item comes all = absurd comes
comes_plain (x ∷ items) o before item (inl is) all = subst ItemHasNoPar (sym is.0) all.0
comes_plain (x ∷ items) o before item (inr later) all = comes_plain items o (after_item x before) item later all.1

pub programs_without_par_have_code : ProgramsWithoutParHaveCode
programs_without_par_have_code items unbroken all =
    called_procedures_have_code items unbroken
    (λ o p comes called. comes_plain items o item_rules.outermost (GlobalProcedure p) comes all)
